use Rattle.std.proofs.Common.{arith, ◌≤◌, ◌≡◌, ◌⊎◌, ◌<◌, inl, inr, rules}
use Rattle.labelled_disk.specs.Label.{leader_page}
use Rattle.file_manager.specs.TabledLaws.{client_leaves}
use Rattle.file_manager.proofs.FreedRun.{stops_then}
use Rattle.file_manager.proofs.AllFreed.{may_rest, all_freed, all_made, one_page}
use Rattle.file_manager.proofs.StoppedFree.{leader_some, pages_some}
use Rattle.file_manager.proofs.Faults.{counted_then}
use Rattle.file_manager.proofs.Keeping.{keeps_none, keeps_then, free_halts_before}
use Rattle.filer_kernel.specs.Cached.{runs_of}
use Rattle.file_manager.specs.Grounds.{IsUnframed}
use Rattle.file_manager.proofs.OwnSteps.{freed_own, some_own, own_after}
use Rattle.file_manager.specs.LaterLaws.{released_later}
use Rattle.file_manager.proofs.FreedReasons.{frees_give_not}
use Rattle.label_calls.specs.SyncedLaws.{around_after, wrote_synced}
use Rattle.file_manager.proofs.free_all.free_all.Goals as goal
use Rattle.filer_kernel.specs.View.{accepted, view_of}

pub returns-in-Err-clause-freed : goal.returns-in-Err-clause-freed
returns-in-Err-clause-freed g c = λ named spaces m all. (
  (c.in-Err.ensures.freed named spaces m all.leader).0,
  leader_some named c.args.id c.args.pages ((c.in-Err.ensures.freed named spaces m all.leader).1),
)

pub returns-in-Err-free_up-clause-freed : goal.returns-in-Err-free_up-clause-freed
returns-in-Err-free_up-clause-freed g c = λ named spaces m all.
    let fits = c.ranges.pages.fits in
    let few : c.args.pages ≤ leader_page = omega (arith, fits) in
    let h = c.in-Ok.ensures.freed named spaces m all.leader in
    let one = one_page c.in-Ok.ensures.some in (
      ((rw (c.in-Ok.ensures.stays.layout) at c.in-Err-free_up.ensures.freed) named spaces h.memory (may_rest (accepted c.args.filer.now) m all few (one_page c.in-Ok.ensures.some) h)).0,
      pages_some one h (((rw (c.in-Ok.ensures.stays.layout) at c.in-Err-free_up.ensures.freed) named spaces h.memory (may_rest (accepted c.args.filer.now) m all few one h)).1),
    )

pub returns-in-Err-free_up-clause-writes : goal.returns-in-Err-free_up-clause-writes
returns-in-Err-free_up-clause-writes g c = stops_then c.in-Ok.ensures.writes c.in-Err-free_up.ensures.writes

pub returns-in-Ok-free_up-clause-freed : goal.returns-in-Ok-free_up-clause-freed
returns-in-Ok-free_up-clause-freed g c = λ named spaces m all.
    let fits = c.ranges.pages.fits in
    let few : c.args.pages ≤ leader_page = omega (arith, fits) in
    let one = one_page c.in-Ok.ensures.some in
    let h = c.in-Ok.ensures.freed named spaces m all.leader in
    let next = (rw (c.in-Ok.ensures.stays.layout) at c.in-Ok-free_up.ensures.freed) named spaces h.memory (may_rest (accepted c.args.filer.now) m all few one h) in
    all_freed (accepted c.args.filer.now) m all few one h next

pub returns-in-Ok-free_up-clause-writes : goal.returns-in-Ok-free_up-clause-writes
returns-in-Ok-free_up-clause-writes g c = all_made c.args.pages (one_page c.in-Ok.ensures.some) c.in-Ok.ensures.writes c.in-Ok-free_up.ensures.writes

pub returns-in-Err-free_up-clause-fails : goal.returns-in-Err-free_up-clause-fails
returns-in-Err-free_up-clause-fails g c = record {
  cause = free_halts_before c.in-Ok.ensures.stays.keeps (λ p. (0 ≤ p) × (p < c.args.pages)) (λ p. (p ≡ leader_page) ⊎ (p < c.args.pages)) (λ p below. inr below.1) c.requires.size (view_of c.free_up.new.filer).disk c.in-Err-free_up.halt (rw c.in-Ok.ensures.stays.layout at c.in-Err-free_up.ensures.fails.cause);
  counted = counted_then _ _ _ c.in-Ok.ensures.writes.makes.went.faults c.in-Err-free_up.ensures.fails.counted;
  evidence_seen = c.in-Err-free_up.ensures.fails.evidence_seen (λ page below. inr c.requires.of_file);
}

pub returns-in-Err-clause-fails : goal.returns-in-Err-clause-fails
returns-in-Err-clause-fails g c = record {
  cause =
      let layout = (view_of c.args.filer.now).layout in
      let pool = (view_of c.args.filer.now).slots in
      free_halts_before (keeps_none (IsUnframed pool c.args.id) layout c.args.id (view_of c.args.filer.now).disk pool (runs_of layout.sectors c.args.filer.now.runs) (λ none. none)) (λ p. p ≡ leader_page) (λ p. (p ≡ leader_page) ⊎ (p < c.args.pages)) (λ p same. inl same) c.requires.size (view_of c.free_run.new.filer).disk c.in-Err.halt c.in-Err.ensures.fails.cause;
  counted = search rules;
  evidence_seen = c.in-Err.ensures.fails.evidence_seen (inr c.requires.of_file);
}

pub returns-in-Ok-free_up-clause-stays : goal.returns-in-Ok-free_up-clause-stays
returns-in-Ok-free_up-clause-stays g c = record {
  layout = search rules;
  keeps = keeps_then c.in-Ok.ensures.stays.keeps (rw c.in-Ok.ensures.stays.layout at c.in-Ok-free_up.ensures.stays.keeps);
}

pub returns-in-Err-clause-labels : goal.returns-in-Err-clause-labels
returns-in-Err-clause-labels g c = record { own = c.in-Err.ensures.labels.own; around = c.in-Err.ensures.labels.around }

pub returns-in-Err-free_up-clause-labels : goal.returns-in-Err-free_up-clause-labels
returns-in-Err-free_up-clause-labels g c = record {
  own = own_after (freed_own c.in-Ok.ensures.writes c.in-Ok.ensures.labels.own) (some_own c.in-Err-free_up.ensures.writes c.in-Err-free_up.ensures.labels.own);
  around = around_after (wrote_synced c.in-Ok.ensures.writes.makes c.in-Ok.ensures.labels.around) (wrote_synced c.in-Err-free_up.ensures.writes.makes c.in-Err-free_up.ensures.labels.around);
}

pub returns-in-Ok-free_up-clause-labels : goal.returns-in-Ok-free_up-clause-labels
returns-in-Ok-free_up-clause-labels g c = record {
  own = own_after (freed_own c.in-Ok.ensures.writes c.in-Ok.ensures.labels.own) (freed_own c.in-Ok-free_up.ensures.writes c.in-Ok-free_up.ensures.labels.own);
  around = around_after (wrote_synced c.in-Ok.ensures.writes.makes c.in-Ok.ensures.labels.around) (wrote_synced c.in-Ok-free_up.ensures.writes.makes c.in-Ok-free_up.ensures.labels.around);
}

pub returns-in-Err-clause-accounts : goal.returns-in-Err-clause-accounts
returns-in-Err-clause-accounts g c = λ o named h. (c.in-Err.ensures.accounts o named h).0 (client_leaves o c.args.id c.requires.of_file) (inl c.requires.of_file)

pub returns-in-Err-free_up-clause-accounts : goal.returns-in-Err-free_up-clause-accounts
returns-in-Err-free_up-clause-accounts g c = λ o named h. rw c.in-Ok.ensures.stays.layout at ((c.in-Err-free_up.ensures.accounts o named ((c.in-Ok.ensures.accounts o named h (client_leaves o c.args.id c.requires.of_file)).0) (client_leaves o c.args.id c.requires.of_file)).0 (λ page below. inl c.requires.of_file))

pub returns-in-Ok-free_up-clause-accounts : goal.returns-in-Ok-free_up-clause-accounts
returns-in-Ok-free_up-clause-accounts g c = λ o named h. (
  (c.in-Ok-free_up.ensures.accounts o named ((c.in-Ok.ensures.accounts o named h (client_leaves o c.args.id c.requires.of_file)).0) (client_leaves o c.args.id c.requires.of_file)).0,
  λ page sector own is.
      let now = (c.in-Ok.ensures.accounts o named h (client_leaves o c.args.id c.requires.of_file)).0 in
      let led = (c.in-Ok.ensures.accounts o named h (client_leaves o c.args.id c.requires.of_file)).1 in
      let made = c.in-Ok-free_up.ensures.writes in
      elim own [ inl leads ↦ let some = c.in-Ok.ensures.some in released_later o made.makes _ (frees_give_not made.sectors _) (led page sector (let n = some.0 in (omega (arith, leads), omega (arith, leads, n))) is) | inr below ↦ (c.in-Ok-free_up.ensures.accounts o named now (client_leaves o c.args.id c.requires.of_file)).1 page sector (omega arith, below) is ],
)

-- ---- What is on the medium.
