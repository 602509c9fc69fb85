use Rattle.std.proofs.Common.{inl, sym, ap, subst, rules, arith}
use Rattle.swapper_kernel.specs.declared.manager.Manager.TheVariants.{FileMap}
use Rattle.swapper_kernel.specs.Homes.{IsLayout}
use Rattle.filer_kernel.specs.declared.cached.CachedRuns.{CachedRuns}
use Rattle.filer_kernel.specs.Cached.{runs_of}
use Rattle.filer_kernel.specs.Triples.{AreOf, IsOneOf}
use Rattle.file_manager.proofs.BookLemmas.{map_is, kept_are, map_named, own_maps, books_stay}
use Rattle.file_manager.proofs.NextLemmas.{next_is}
use Rattle.file_manager.proofs.Faults.{counted}
use Rattle.filer_kernel.specs.EvidenceLaws.{fits, so_of_map}
use Rattle.file_manager.proofs.LookLemmas.{looks_searched}
use Rattle.file_manager.proofs.KeepSteps.{keeps_asked}
use Rattle.file_manager.specs.ReasonLaws.{map_reasons}
use Rattle.file_manager.proofs.FreedRun.{map_makes, map_brings}
use Rattle.file_manager.proofs.order.next.Goals as goal
use Rattle.filer_kernel.specs.View.{accepted, swapper_of, view_of}

pub returns-in-Ok-clause-revealed : goal.returns-in-Ok-clause-revealed
returns-in-Ok-clause-revealed g c = rw (← c.frames_of.ensures.same) (λ x shapes spaces books.
    let is : IsLayout (view_of c.frames_of.new.filer).layout = search rules in
    let b = books.booked in
    let map = map_is _ _ shapes x is b in (
      next_is (view_of c.frames_of.new.filer).layout (runs_of (view_of c.frames_of.new.filer).layout.sectors c.frames_of.new.filer.runs) shapes x b c.args.id _ (c.in-Ok.ensures.next x b.named books.stands map),
      books_stay _ _ _ _ _ _ _ shapes spaces x books (c.next_file.ensures.same x b.named books.stands map) (own_maps FileMap (view_of c.frames_of.new.filer).layout _ _ c.next_file.ensures.beside.brings) (subst (λ (r : CachedRuns). AreOf b.named (runs_of (view_of c.frames_of.new.filer).layout.sectors r)) (sym c.next_file.ensures.runs) (kept_are _ _ shapes x is b)),
    ))

pub returns-in-Err-clause-revealed : goal.returns-in-Err-clause-revealed
returns-in-Err-clause-revealed g c = rw (← c.frames_of.ensures.same) (λ x shapes spaces books.
    let is : IsLayout (view_of c.frames_of.new.filer).layout = search rules in
    let b = books.booked in
    let map = map_is _ _ shapes x is b in (
      c.in-Err.ensures.sound x b.named books.stands map (map_named _ x is b.long b.map_labels),
      books_stay _ _ _ _ _ _ _ shapes spaces x books (c.next_file.ensures.same x b.named books.stands map) (own_maps FileMap (view_of c.frames_of.new.filer).layout _ _ c.next_file.ensures.beside.brings) (subst (λ (r : CachedRuns). AreOf b.named (runs_of (view_of c.frames_of.new.filer).layout.sectors r)) (sym c.next_file.ensures.runs) (kept_are _ _ shapes x is b)),
    ))

pub returns-in-Err-clause-fails : goal.returns-in-Err-clause-fails
returns-in-Err-clause-fails g c = record {
  cause = search rules;
  counted = rw (← c.frames_of.ensures.same) (counted _ _ (view_of c.frames_of.new.filer).disk (view_of c.next_file.new.self).disk _ (omega arith) c.in-Err.ensures.cause);
  evidence_seen = so_of_map (fits (swapper_of c.frames_of.new.filer) (search rules)) c.next_file.ensures.beside.goes.makes c.in-Err.halt c.in-Err.ensures.cause;
}

pub returns-in-Ok-clause-stays : goal.returns-in-Ok-clause-stays
returns-in-Ok-clause-stays g c = record {
  makes = rw (← c.frames_of.ensures.same) (map_makes c.next_file.ensures.beside);
  looks =
      let f = c.frames_of.new.filer in
      let found = c.next_file.ensures in
      let kept = ap (runs_of (view_of f).layout.sectors) found.runs in
      rw (← c.frames_of.ensures.same) (looks_searched {kept = runs_of (view_of f).layout.sectors f.runs} {runs = runs_of (view_of f).layout.sectors c.next_file.new.self.runs} found.looked (λ r one. inl (subst (IsOneOf r) kept one)) (λ m named stands map are. subst (AreOf named) (sym kept) are));
  brings = rw (← c.frames_of.ensures.same) (map_brings c.next_file.ensures.beside);
  layout = rw (← c.frames_of.ensures.same) c.next_file.ensures.beside.layout;
}

pub returns-in-Err-clause-stays : goal.returns-in-Err-clause-stays
returns-in-Err-clause-stays g c = record {
  makes = rw (← c.frames_of.ensures.same) (map_makes c.next_file.ensures.beside);
  looks =
      let f = c.frames_of.new.filer in
      let found = c.next_file.ensures in
      let kept = ap (runs_of (view_of f).layout.sectors) found.runs in
      rw (← c.frames_of.ensures.same) (looks_searched {kept = runs_of (view_of f).layout.sectors f.runs} {runs = runs_of (view_of f).layout.sectors c.next_file.new.self.runs} found.looked (λ r one. inl (subst (IsOneOf r) kept one)) (λ m named stands map are. subst (AreOf named) (sym kept) are));
  brings = rw (← c.frames_of.ensures.same) (map_brings c.next_file.ensures.beside);
  layout = rw (← c.frames_of.ensures.same) c.next_file.ensures.beside.layout;
}

-- ---- What it keeps to, and the reasons of its halts.

pub returns-in-Ok-clause-accounts : goal.returns-in-Ok-clause-accounts
returns-in-Ok-clause-accounts g c = rw (← c.frames_of.ensures.same) (λ o named k. keeps_asked c.frames_of.new.filer.runs c.next_file.new.self.runs c.next_file.ensures.runs k c.next_file.ensures.beside c.next_file.ensures.same)

pub returns-in-Err-clause-accounts : goal.returns-in-Err-clause-accounts
returns-in-Err-clause-accounts g c = rw (← c.frames_of.ensures.same) (λ o named k. map_reasons k c.next_file.ensures.beside.goes.makes (accepted c.frames_of.new.filer) c.in-Err.halt c.in-Err.ensures.cause)
