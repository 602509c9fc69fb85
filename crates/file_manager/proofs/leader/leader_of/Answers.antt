use Rattle.std.proofs.Common.{◌≡◌, true, Option, refl, subst, rules, arith, inr}
use Rattle.std.specs.Prelude.{IfSome}
use Rattle.file_map.specs.declared.run.Run.{Run}
use Rattle.labelled_disk.specs.Label.{leader_page}
use Rattle.file_map.specs.Run.{holds, IsRun}
use Rattle.file_map.specs.FileMap.{IsFound, IsNowhere}
use Rattle.swapper_kernel.specs.declared.manager.Manager.TheVariants.{FileMap}
use Rattle.swapper_kernel.specs.Homes.{IsLayout}
use Rattle.filer_kernel.specs.Cached.{runs_of}
use Rattle.filer_kernel.specs.Causes.{IsGiven}
use Rattle.file_manager.proofs.BookLemmas.{map_is, kept_are, map_named, own_maps, books_stay, no_leader, run_place}
use Rattle.file_manager.proofs.Faults.{counted}
use Rattle.filer_kernel.specs.EvidenceLaws.{fits, so_of_map}
use Rattle.file_manager.proofs.Keeping.{keeps_read}
use Rattle.file_manager.proofs.FreedReasons.{found_keeps}
use Rattle.file_manager.specs.ReasonLaws.{map_reasons}
use Rattle.file_manager.proofs.leader.leader_of.Goals as goal
use Rattle.filer_kernel.specs.View.{accepted, swapper_of, view_of}

pub returns-in-Ok-Some-clause-revealed : goal.returns-in-Ok-Some-clause-revealed
returns-in-Ok-Some-clause-revealed g c = λ tables x shapes spaces books.
    let is : IsLayout (view_of c.args.filer.now).layout = search rules in
    let b = books.booked in
    let here = c.in-Ok-Some.ensures.found x b.named books.stands (map_is _ _ shapes x is b) (kept_are _ _ shapes x is b) in
    let found = subst (IsFound b.named c.args.id leader_page) c.in-Ok-Some.field-0-is here in
    let map = map_is _ _ shapes x is b in (
      b.triples.only c.args.id leader_page _ (found.1 leader_page found.0),
      books_stay _ _ _ _ _ _ _ shapes spaces x books (c.find.ensures.leaves.same x b.named books.stands map) (own_maps FileMap (view_of c.args.filer.now).layout _ _ c.find.ensures.leaves.beside.brings) (c.find.ensures.keeps.runs_are x b.named books.stands map (kept_are _ _ shapes x is b)),
    )

pub returns-in-Ok-Some-clause-found : goal.returns-in-Ok-Some-clause-found
returns-in-Ok-Some-clause-found g c =
    let is : IsLayout (view_of c.args.filer.now).layout = search rules in
    let form : IsRun (view_of c.args.filer.now).layout.sectors c.in-Ok-Some.run' = subst (λ (o : Option Run). IfSome o (λ run. IsRun (view_of c.args.filer.now).layout.sectors run)) c.in-Ok-Some.field-0-is c.in-Ok-Some.ensures.form in
    let has : holds c.in-Ok-Some.run' c.args.id leader_page ≡ true = subst (λ (o : Option Run). IfSome o (λ run. holds run c.args.id leader_page ≡ true)) c.in-Ok-Some.field-0-is c.in-Ok-Some.ensures.holds in
    let layout = (view_of c.args.filer.now).layout in
    let old = (view_of c.args.filer.now).disk in
    let kept = runs_of layout.sectors c.args.filer.now.runs in (
      run_place (view_of c.args.filer.now).layout c.in-Ok-Some.run' c.args.id leader_page is form has,
      record { run = c.in-Ok-Some.run'; given = subst (λ (o : Option Run). IfSome o (λ run. IsGiven layout old (view_of c.args.filer.now).slots kept run)) c.in-Ok-Some.field-0-is c.in-Ok-Some.ensures.given; form = subst (λ (o : Option Run). IfSome o (λ run. IsRun layout.sectors run)) c.in-Ok-Some.field-0-is c.in-Ok-Some.ensures.form; has = subst (λ (o : Option Run). IfSome o (λ run. holds run c.args.id leader_page ≡ true)) c.in-Ok-Some.field-0-is c.in-Ok-Some.ensures.holds; at = refl },
    )

pub returns-in-Ok-None-clause-revealed : goal.returns-in-Ok-None-clause-revealed
returns-in-Ok-None-clause-revealed g c = λ tables x shapes spaces books.
    let is : IsLayout (view_of c.args.filer.now).layout = search rules in
    let b = books.booked in
    let here = c.in-Ok-None.ensures.found x b.named books.stands (map_is _ _ shapes x is b) (kept_are _ _ shapes x is b) in
    let nowhere : IsNowhere b.named c.args.id leader_page = subst (IsFound b.named c.args.id leader_page) c.in-Ok-None.field-0-is here in
    let map = map_is _ _ shapes x is b in (
      no_leader _ _ shapes x b c.args.id nowhere,
      books_stay _ _ _ _ _ _ _ shapes spaces x books (c.find.ensures.leaves.same x b.named books.stands map) (own_maps FileMap (view_of c.args.filer.now).layout _ _ c.find.ensures.leaves.beside.brings) (c.find.ensures.keeps.runs_are x b.named books.stands map (kept_are _ _ shapes x is b)),
    )

pub returns-in-Err-clause-revealed : goal.returns-in-Err-clause-revealed
returns-in-Err-clause-revealed g c = λ tables x shapes spaces books.
    let is : IsLayout (view_of c.args.filer.now).layout = search rules in
    let b = books.booked in
    let map = map_is _ _ shapes x is b in (
      c.in-Err.ensures.fails.sound x b.named books.stands (map_is _ _ shapes x is b) (map_named _ x is b.long b.map_labels),
      books_stay _ _ _ _ _ _ _ shapes spaces x books (c.find.ensures.leaves.same x b.named books.stands map) (own_maps FileMap (view_of c.args.filer.now).layout _ _ c.find.ensures.leaves.beside.brings) (c.find.ensures.keeps.runs_are x b.named books.stands map (kept_are _ _ shapes x is b)),
    )

pub returns-in-Err-clause-fails : goal.returns-in-Err-clause-fails
returns-in-Err-clause-fails g c = record {
  cause = c.in-Err.ensures.fails.cause;
  counted = counted _ _ (view_of c.args.filer.now).disk (view_of c.find.new.self).disk _ (omega arith) c.in-Err.ensures.fails.cause;
  evidence_seen = so_of_map (fits (swapper_of c.args.filer.now) c.requires.size) c.find.ensures.leaves.beside.goes.makes c.in-Err.halt c.in-Err.ensures.fails.cause;
}

pub returns-in-Ok-None-clause-missing : goal.returns-in-Ok-None-clause-missing
returns-in-Ok-None-clause-missing g c = λ is m named stands map. c.find.ensures.nowhere m named stands map (search rules)

pub returns-in-Err-clause-stays : goal.returns-in-Err-clause-stays
returns-in-Err-clause-stays g c = record {
  same_bytes = c.find.ensures.leaves.same_bytes;
  beside = c.find.ensures.leaves.beside;
  looked = c.find.ensures.leaves.looked;
  runs_given = c.find.ensures.keeps.runs_given;
  runs_are = c.find.ensures.keeps.runs_are;
  makes = search rules;
  brings = search rules;
  keeps = keeps_read (inr c.requires.client) c.find.ensures.leaves.beside c.find.ensures.leaves.same_bytes c.find.ensures.keeps.runs_given;
  layout = search rules;
}

pub returns-in-Ok-None-clause-stays : goal.returns-in-Ok-None-clause-stays
returns-in-Ok-None-clause-stays g c = record {
  same_bytes = c.find.ensures.leaves.same_bytes;
  beside = c.find.ensures.leaves.beside;
  looked = c.find.ensures.leaves.looked;
  runs_given = c.find.ensures.keeps.runs_given;
  runs_are = c.find.ensures.keeps.runs_are;
  makes = search rules;
  brings = search rules;
  keeps = keeps_read (inr c.requires.client) c.find.ensures.leaves.beside c.find.ensures.leaves.same_bytes c.find.ensures.keeps.runs_given;
  layout = search rules;
}

pub returns-in-Ok-Some-clause-stays : goal.returns-in-Ok-Some-clause-stays
returns-in-Ok-Some-clause-stays g c = record {
  same_bytes = c.find.ensures.leaves.same_bytes;
  beside = c.find.ensures.leaves.beside;
  looked = c.find.ensures.leaves.looked;
  runs_given = c.find.ensures.keeps.runs_given;
  runs_are = c.find.ensures.keeps.runs_are;
  makes = search rules;
  brings = search rules;
  keeps = keeps_read (inr c.requires.client) c.find.ensures.leaves.beside c.find.ensures.leaves.same_bytes c.find.ensures.keeps.runs_given;
  layout = search rules;
}

-- ---- What it keeps to, and the reasons of its halts.

pub returns-in-Ok-Some-clause-accounts : goal.returns-in-Ok-Some-clause-accounts
returns-in-Ok-Some-clause-accounts g c = λ o named k. found_keeps c.args.filer.now.runs c.find.new.self.runs c.find.ensures.leaves.beside c.find.ensures.leaves.same c.find.ensures.keeps.runs_are k

pub returns-in-Ok-None-clause-accounts : goal.returns-in-Ok-None-clause-accounts
returns-in-Ok-None-clause-accounts g c = λ o named k. found_keeps c.args.filer.now.runs c.find.new.self.runs c.find.ensures.leaves.beside c.find.ensures.leaves.same c.find.ensures.keeps.runs_are k

pub returns-in-Err-clause-accounts : goal.returns-in-Err-clause-accounts
returns-in-Err-clause-accounts g c = λ o named k. map_reasons k c.find.ensures.leaves.beside.goes.makes (accepted c.args.filer.now) c.in-Err.halt c.in-Err.ensures.fails.cause

pub returns-in-Ok-Some-clause-names : goal.returns-in-Ok-Some-clause-names
returns-in-Ok-Some-clause-names g c = λ m named stands map are.
    let found = subst (IsFound named c.args.id leader_page) c.in-Ok-Some.field-0-is (c.in-Ok-Some.ensures.found m named stands map are) in
    found.1 leader_page found.0
