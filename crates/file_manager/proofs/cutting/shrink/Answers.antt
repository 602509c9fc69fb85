use Rattle.swapper_kernel.specs.declared.manager.Manager.TheVariants.{FileMap}
use Rattle.file_manager.proofs.CountedLemmas.{rose_after}
use Rattle.file_manager.proofs.FreedRun.{all_stop}
use Rattle.file_manager.proofs.ShrinkLemmas.{may_free, leader_is_alone, named_apart, shrunk_by, stopped_in, stopped_cut, makes_cut}
use Rattle.file_manager.proofs.CutCauses.{shrink_of_free, shrink_halts_after}
use Rattle.filer_kernel.specs.Cached.{runs_of}
use Rattle.file_manager.specs.Grounds.{IsUnframed}
use Rattle.std.proofs.Common.{◌≤◌, ◌<◌, inl, inr, sym, ◌∙◌, subst, rules}
use Rattle.std.proofs.lemmas.Bool.{cases_lt, true≢false}
use Rattle.file_manager.proofs.OwnSteps.{map_own, freed_own, own_after}
use Rattle.labelled_disk.specs.declared.layout.Layout.{Layout}
use Rattle.file_manager.specs.Reasons.{ShowsReason}
use Rattle.file_manager.proofs.SyncSteps.{labels_before}
use Rattle.file_manager.proofs.cutting.shrink.Goals as goal
use Rattle.filer_kernel.specs.View.{accepted, view_of}

pub returns-in-Err-clause-shrunk : goal.returns-in-Err-clause-shrunk
returns-in-Err-clause-shrunk g c = λ x shapes spaces f may size t.
    let layout = (view_of c.args.filer.now).layout in
    let is = (accepted c.args.filer.now) in
    let free = may_free layout is c.args.filer.now.runs shapes spaces x _ _ c.args.id f c.args.pages c.requires.of_file may in (
      ((rw (← size) at c.in-Err.ensures.freed) may.books.booked.named spaces x free).0,
      rw (← size) (stopped_in layout is c.args.filer.now.runs shapes spaces x _ _ c.args.id f c.args.pages c.requires.of_file may (((rw (← size) at c.in-Err.ensures.freed) may.books.booked.named spaces x free).1)),
    )

pub returns-in-Err-cut_to-clause-shrunk : goal.returns-in-Err-cut_to-clause-shrunk
returns-in-Err-cut_to-clause-shrunk g c = λ x shapes spaces f may size t.
    let layout = (view_of c.args.filer.now).layout in
    let is = (accepted c.args.filer.now) in
    let free = may_free layout is c.args.filer.now.runs shapes spaces x _ _ c.args.id f c.args.pages c.requires.of_file may in
    let h = (rw (← size) at c.in-Ok.ensures.freed) may.books.booked.named spaces x free in (
      (rw c.in-Ok.ensures.stays.layout at c.in-Err-cut_to.ensures.sound) h.memory may.books.booked.named h.rest.stands h.rest.map (h.rest.map_labels FileMap) (named_apart layout is c.args.filer.now.runs shapes spaces x _ _ c.args.id f c.args.pages c.requires.of_file may c.args.file.sector t) (leader_is_alone layout is c.args.filer.now.runs shapes spaces x _ _ c.args.id f c.args.pages c.requires.of_file may c.args.file.sector t),
      rw (← size) (stopped_cut layout is c.args.filer.now.runs shapes spaces x _ _ c.args.id f c.args.pages c.requires.of_file may h c.cut_to.ensures.stays.beside),
    )

pub returns-in-Err-cut_to-clause-writes : goal.returns-in-Err-cut_to-clause-writes
returns-in-Err-cut_to-clause-writes g c = all_stop (makes_cut c.in-Ok.ensures.writes c.cut_to.ensures.stays.beside)

pub returns-in-Err-cut_to-clause-fails : goal.returns-in-Err-cut_to-clause-fails
returns-in-Err-cut_to-clause-fails g c = record {
  cause = shrink_halts_after c.in-Ok.ensures.stays.keeps c.requires.sectors c.args.pages (λ p. ⊥) (λ p. (c.args.pages ≤ p) × (p < c.args.file.pages)) (λ p none. absurd none) (view_of c.cut_to.new.filer).disk (view_of c.cut_to.new.filer).slots c.in-Err-cut_to.halt (rw c.in-Ok.ensures.stays.layout at c.in-Err-cut_to.ensures.fails.cause);
  counted = rose_after (view_of c.args.filer.now).disk (view_of c.free_down.new.filer).disk (view_of c.cut_to.new.filer).disk c.in-Ok.ensures.writes.makes.went.faults c.in-Err-cut_to.ensures.fails.counted;
  evidence_seen = search rules;
}

pub returns-clause-shrunk : goal.returns-clause-shrunk
returns-clause-shrunk g c = λ x shapes spaces f may size t.
    let layout = (view_of c.args.filer.now).layout in
    let is = (accepted c.args.filer.now) in
    let free = may_free layout is c.args.filer.now.runs shapes spaces x _ _ c.args.id f c.args.pages c.requires.of_file may in
    let h = (rw (← size) at c.in-Ok.ensures.freed) may.books.booked.named spaces x free in
    let cut = (rw c.in-Ok.ensures.stays.layout at c.in-Ok-cut_to.ensures.cut) h.memory may.books.booked.named h.rest.stands h.rest.map in
    rw (← size) (shrunk_by layout is c.args.filer.now.runs shapes spaces x _ _ c.args.id f c.args.pages c.requires.of_file may c.args.file.sector t _ _ _ h _ _ _ _
    (rw c.in-Ok.ensures.stays.layout at c.in-Ok-cut_to.ensures.stays.beside) cut c.in-Ok-cut_to.ensures.in_form (c.in-Ok-cut_to.ensures.stays.runs layout.sectors))

pub returns-clause-writes : goal.returns-clause-writes
returns-clause-writes g c = makes_cut c.in-Ok.ensures.writes c.cut_to.ensures.stays.beside

pub returns-in-Err-clause-fails : goal.returns-in-Err-clause-fails
returns-in-Err-clause-fails g c = record {
  cause =
      let layout = (view_of c.args.filer.now).layout in
      let old = (view_of c.args.filer.now).disk in
      let pool = (view_of c.args.filer.now).slots in
      let kept = runs_of layout.sectors c.args.filer.now.runs in
      shrink_of_free (IsUnframed pool c.args.id) layout kept c.args.id c.args.pages (λ p. (c.args.pages ≤ p) × (p < c.args.file.pages)) old (view_of c.free_down.new.filer).disk pool (view_of c.free_down.new.filer).slots c.in-Err.halt c.in-Err.ensures.fails.cause;
  counted = search rules;
  evidence_seen = search rules;
}

pub returns-in-Err-clause-labels : goal.returns-in-Err-clause-labels
returns-in-Err-clause-labels g c = (c.in-Err.ensures.own, λ permanent. tt)

pub returns-in-Err-cut_to-clause-labels : goal.returns-in-Err-cut_to-clause-labels
returns-in-Err-cut_to-clause-labels g c = (own_after (freed_own c.in-Ok.ensures.writes c.in-Ok.ensures.own) (map_own c.args.id c.cut_to.ensures.stays.beside), λ permanent. tt)

pub returns-clause-labels : goal.returns-clause-labels
returns-clause-labels g c = (
  own_after (freed_own c.in-Ok.ensures.writes c.in-Ok.ensures.own) (map_own c.args.id c.cut_to.ensures.stays.beside),
  λ permanent. labels_before c.in-Ok.ensures.writes.makes (c.in-Ok-cut_to.ensures.synced (c.marks-syncs.ensures.permanent ∙ permanent)),
)

-- ---- What it keeps to, and the reasons of its halts.

pub returns-in-Err-clause-accounts : goal.returns-in-Err-clause-accounts
returns-in-Err-clause-accounts g c = λ o named k led. c.in-Err.ensures.accounts o named k

pub returns-in-Err-cut_to-clause-accounts : goal.returns-in-Err-cut_to-clause-accounts
returns-in-Err-cut_to-clause-accounts g c = λ o named k led.
    subst (λ (l : Layout). ShowsReason o l (view_of c.cut_to.new.filer).disk c.in-Err-cut_to.halt) c.in-Ok.ensures.stays.layout (c.in-Err-cut_to.ensures.accounts o named ((c.in-Ok.ensures.accounts o named k).0) led)

pub returns-clause-accounts : goal.returns-clause-accounts
returns-clause-accounts g c = λ o named k led none.
    c.in-Ok-cut_to.ensures.accounts o named ((c.in-Ok.ensures.accounts o named k).0) led (λ page sector own is.
    let from = own.0 in
    elim (cases_lt page c.args.file.pages) [
      | inl below ↦ (c.in-Ok.ensures.accounts o named k).1 page sector (from, below) is
      | inr above ↦ absurd (true≢false (sym is ∙ none page sector (above, own.1)))
    ])
