use Rattle.std.proofs.Common.{rules, inl, inr, ◌≡◌, true, ℕ, ◌≤◌, ◌<◌, Option, Some, refl, sym, ◌∙◌, ap, subst, false}
use Rattle.std.specs.Prelude.{option_map, IfSome}
use Rattle.std.proofs.lemmas.Option.{none-some}
use Rattle.labelled_disk.specs.declared.label.Label.{Label}
use Rattle.labelled_disk.specs.declared.label.Wanted.{Wanted}
use Rattle.labelled_disk.specs.Sectors.{Sector}
use Rattle.labelled_disk.specs.Label.{leader_page}
use Rattle.swapper_kernel.specs.Homes.{home_at}
use Rattle.swapper_kernel.specs.Stands.{labels_of}
use Rattle.filer_kernel.specs.Cached.{runs_of}
use Rattle.filer_kernel.specs.Causes.{IsRunHome}
use Rattle.file_manager.specs.Answer.{IsLeaderOf}
use Rattle.file_manager.proofs.MarkLemmas.{marked_after, marked_sectors, stopped_makes, leader_one}
use Rattle.file_manager.proofs.MarkStops.{marks_first}
use Rattle.file_manager.proofs.CauseLemmas.{search_halts, label_halts}
use Rattle.file_manager.proofs.Faults.{counted, no_fault}
use Rattle.file_manager.proofs.SoLemmas.{file_may, so_of_other}
use Rattle.label_calls.specs.OwnLaws.{relabels_own, wrote_own, quiet_own}
use Rattle.file_manager.proofs.OwnSteps.{leader_own, own_after}
use Rattle.file_manager.proofs.RootCalls.{quiet_root, marked_root}
use Rattle.labelled_disk.specs.declared.layout.Layout.{Layout}
use Rattle.file_manager.specs.Reasons.{ShowsReason}
use Rattle.file_manager.specs.ReasonLaws.{missing_reason}
use Rattle.file_manager.proofs.KeepSteps.{keeps_at}
use Rattle.file_manager.proofs.KeepCut.{keeps_marked}
use Rattle.file_manager.proofs.ReasonCauses.{mark_reasons}
use Rattle.file_manager.proofs.SyncSteps.{leader_synced}
use Rattle.label_calls.specs.SyncedLaws.{around_after, quiet_synced, syncs_around, wrote_synced}
use Rattle.file_manager.proofs.marks.mark.Goals as goal
use Rattle.filer_kernel.specs.View.{accepted, view_of}

pub returns-in-Ok-None-clause-revealed : goal.returns-in-Ok-None-clause-revealed
returns-in-Ok-None-clause-revealed g c = λ tables x shapes spaces f books is.
    let none = subst (IsLeaderOf (labels_of x) shapes c.args.id) c.in-Ok-None.field-0-is ((c.in-Ok-None.ensures.revealed tables x shapes spaces books).0) in
    (absurd (none-some f (sym none ∙ is)), inl c.leader_of.ensures.stays.makes)

pub returns-in-Err-clause-revealed : goal.returns-in-Err-clause-revealed
returns-in-Err-clause-revealed g c = λ tables x shapes spaces f books is. ((c.in-Err.ensures.revealed tables x shapes spaces books).0, inl c.leader_of.ensures.stays.makes)

pub returns-in-Err-mark_leader-clause-revealed : goal.returns-in-Err-mark_leader-clause-revealed
returns-in-Err-mark_leader-clause-revealed g c = λ tables x shapes spaces f books is.
    let now = (c.leader_of.ensures.revealed tables x shapes spaces books).1 in
    let triple = subst (IsLeaderOf (labels_of x) shapes c.args.id) c.in-Ok-Some.field-0-is ((c.in-Ok-Some.ensures.revealed tables x shapes spaces books).0) in
    let sound = rw c.swapper_over-swapper.ensures.value at c.in-Err-mark_leader.ensures.fails.sound in (
      sound x now.stands (leader_one _ _ shapes x books.booked c.args.id c.in-Ok-Some.sector c.requires.client triple),
      marks_first (view_of c.args.filer.now).layout _ _ _ _ _ _ _ shapes spaces x c.args.id c.in-Ok-Some.sector c.args.mark c.requires.client now c.leader_of.ensures.stays.makes triple (rw c.swapper_over-swapper.ensures.value at c.mark_leader.ensures.frames) (rw c.swapper_over-swapper.ensures.value at c.in-Err-mark_leader.ensures.stopped.written),
    )

pub returns-in-Err-mark_leader-clause-makes : goal.returns-in-Err-mark_leader-clause-makes
returns-in-Err-mark_leader-clause-makes g c =
    stopped_makes _ _ _ _ _ _ c.in-Ok-Some.sector c.args.mark c.leader_of.ensures.stays.makes (rw c.swapper_over-swapper.ensures.value at c.mark_leader.ensures.frames) (rw c.swapper_over-swapper.ensures.value at c.in-Err-mark_leader.ensures.stopped.written)

pub returns-clause-revealed : goal.returns-clause-revealed
returns-clause-revealed g c = λ tables x shapes spaces f books is hidden.
    let now = (c.leader_of.ensures.revealed tables x shapes spaces books).1 in
    let triple = subst (IsLeaderOf (labels_of x) shapes c.args.id) c.in-Ok-Some.field-0-is ((c.in-Ok-Some.ensures.revealed tables x shapes spaces books).0) in
    marked_after (view_of c.args.filer.now).layout _ _ _ _ _ _ _ _ shapes spaces x c.args.id c.in-Ok-Some.sector c.args.mark c.requires.client books now c.leader_of.ensures.stays.makes c.leader_of.ensures.stays.brings triple hidden (rw c.swapper_over-swapper.ensures.value at c.mark_leader.ensures.frames) (rw c.swapper_over-swapper.ensures.value at c.in-Ok.ensures.marked)

pub returns-clause-makes : goal.returns-clause-makes
returns-clause-makes g c =
    let made = rw c.swapper_over-swapper.ensures.value at c.in-Ok.ensures.marked in
    stopped_makes _ _ _ _ _ _ c.in-Ok-Some.sector c.args.mark c.leader_of.ensures.stays.makes (rw c.swapper_over-swapper.ensures.value at c.mark_leader.ensures.frames) (inr (made.0, λ d revealed. let one = made.1.found d revealed in ap (option_map (λ (s : Sector). s.0)) one.1 ∙ ap (λ (l : Label). Some l) one.2.0, inr made.1.makes))

pub returns-in-Ok-None-clause-fails : goal.returns-in-Ok-None-clause-fails
returns-in-Ok-None-clause-fails g c = record { cause = (refl, refl, c.leader_of.ensures.missing (search rules)); counted = no_fault; evidence_seen = inr c.requires.client }

pub returns-in-Err-mark_leader-clause-fails : goal.returns-in-Err-mark_leader-clause-fails
returns-in-Err-mark_leader-clause-fails g c =
    let layout = (view_of c.args.filer.now).layout in
    let old = (view_of c.args.filer.now).disk in
    let kept = runs_of layout.sectors c.args.filer.now.runs in
    let given = subst (λ (o : Option ℕ). IfSome o (λ sector. IsRunHome layout old (view_of c.args.filer.now).slots kept (home_at sector (record { id = c.args.id; page = leader_page })))) c.in-Ok-Some.field-0-is c.in-Ok-Some.ensures.found.1 in
    let new = g.D.Disk.state c.mark_leader.new.memory.disk in
    let wanted : Wanted = record { id = c.args.id; page = leader_page } in
    let size : new.sectors ≡ layout.sectors = marked_sectors c.args.mark _ new _ _ (returns-in-Err-mark_leader-clause-makes g c) ∙ c.requires.size in
    let place = subst (λ (o : Option ℕ). IfSome o (λ sector. (layout.first ≤ sector) × (sector < layout.sectors))) c.in-Ok-Some.field-0-is c.in-Ok-Some.ensures.found.0 in
    record {
      cause = label_halts layout kept c.args.id old (view_of c.args.filer.now).slots (view_of c.leader_of.new.filer).disk (g.D.Disk.state c.mark_leader.new.memory.disk) (view_of c.leader_of.new.filer).slots c.in-Ok-Some.sector c.leader_of.ensures.stays.makes given c.in-Err-mark_leader.halt (rw c.swapper_over-swapper.ensures.value at c.in-Err-mark_leader.ensures.fails.cause);
      counted = counted _ _ (view_of c.leader_of.new.filer).disk (g.D.Disk.state c.mark_leader.new.memory.disk) _ c.leader_of.ensures.stays.makes.went.faults (rw c.swapper_over-swapper.ensures.value at c.in-Err-mark_leader.ensures.fails.cause);
      evidence_seen = so_of_other new c.in-Ok-Some.sector wanted (file_may layout new (accepted c.args.filer.now) size c.in-Ok-Some.sector wanted (inr c.requires.client) place.0 place.1) (view_of c.leader_of.new.filer).disk (g.D.Disk.state c.mark_leader.new.memory.disk) c.in-Err-mark_leader.halt (rw c.swapper_over-swapper.ensures.value at c.in-Err-mark_leader.ensures.fails.evidence_seen);
    }

pub returns-in-Err-clause-fails : goal.returns-in-Err-clause-fails
returns-in-Err-clause-fails g c = record {
  cause =
      let layout = (view_of c.args.filer.now).layout in
      search_halts layout (runs_of layout.sectors c.args.filer.now.runs) c.args.id (view_of c.args.filer.now).disk (view_of c.args.filer.now).slots (view_of c.leader_of.new.filer).disk c.in-Err.halt c.in-Err.ensures.fails.cause;
  counted = search rules;
  evidence_seen = search rules;
}

pub returns-in-Ok-None-clause-labels : goal.returns-in-Ok-None-clause-labels
returns-in-Ok-None-clause-labels g c = record {
  own = relabels_own (quiet_own c.args.id c.leader_of.ensures.stays.makes);
  around = syncs_around (quiet_synced true c.leader_of.ensures.stays.makes);
}

pub returns-in-Err-clause-labels : goal.returns-in-Err-clause-labels
returns-in-Err-clause-labels g c = record {
  own = relabels_own (quiet_own c.args.id c.leader_of.ensures.stays.makes);
  around = syncs_around (quiet_synced true c.leader_of.ensures.stays.makes);
}

pub returns-in-Err-mark_leader-clause-labels : goal.returns-in-Err-mark_leader-clause-labels
returns-in-Err-mark_leader-clause-labels g c = record {
  own = own_after (quiet_own c.args.id c.leader_of.ensures.stays.makes) (leader_own c.args.mark (rw c.swapper_over-swapper.ensures.value at c.in-Err-mark_leader.ensures.stopped.written) (rw c.swapper_over-swapper.ensures.value at c.mark_leader.ensures.labels.own));
  around = around_after (quiet_synced false c.leader_of.ensures.stays.makes) (leader_synced c.args.mark (rw c.swapper_over-swapper.ensures.value at c.in-Err-mark_leader.ensures.stopped.written) (rw c.swapper_over-swapper.ensures.value at c.in-Err-mark_leader.ensures.labels.around));
}

pub returns-clause-labels : goal.returns-clause-labels
returns-clause-labels g c =
    let made = rw c.swapper_over-swapper.ensures.value at c.in-Ok.ensures.marked in
    record {
      own = own_after (quiet_own c.args.id c.leader_of.ensures.stays.makes) (wrote_own made.1.makes (rw c.swapper_over-swapper.ensures.value at c.mark_leader.ensures.labels.own));
      around = around_after (quiet_synced false c.leader_of.ensures.stays.makes) (wrote_synced made.1.makes (rw c.swapper_over-swapper.ensures.value at c.in-Ok.ensures.labels.around));
    }

pub returns-in-Ok-None-clause-stays : goal.returns-in-Ok-None-clause-stays
returns-in-Ok-None-clause-stays g c = record { root = quiet_root c.leader_of.ensures.stays.makes; layout = search rules }

pub returns-in-Err-clause-stays : goal.returns-in-Err-clause-stays
returns-in-Err-clause-stays g c = record { root = quiet_root c.leader_of.ensures.stays.makes; layout = search rules }

pub returns-in-Err-mark_leader-clause-stays : goal.returns-in-Err-mark_leader-clause-stays
returns-in-Err-mark_leader-clause-stays g c = record { root = marked_root c.args.mark (returns-in-Err-mark_leader-clause-makes g c); layout = search rules }

pub returns-clause-stays : goal.returns-clause-stays
returns-clause-stays g c = record { root = marked_root c.args.mark (returns-clause-makes g c); layout = search rules }

-- ---- What it keeps to, and the reasons of its halts.

pub returns-in-Err-clause-accounts : goal.returns-in-Err-clause-accounts
returns-in-Err-clause-accounts g c = c.in-Err.ensures.accounts

pub returns-in-Ok-None-clause-accounts : goal.returns-in-Ok-None-clause-accounts
returns-in-Ok-None-clause-accounts g c = λ o named k. missing_reason k c.leader_of.ensures.stays.makes c.args.id leader_page c.requires.client (c.leader_of.ensures.missing (search rules))

pub returns-in-Err-mark_leader-clause-accounts : goal.returns-in-Err-mark_leader-clause-accounts
returns-in-Err-mark_leader-clause-accounts g c = λ o named k.
    let led = subst (λ (o : Option ℕ). IfSome o (λ sector. named c.args.id leader_page sector ≡ true)) c.in-Ok-Some.field-0-is (c.in-Ok-Some.ensures.names k.memory named k.stands k.map k.kept) in
    let now = c.in-Ok-Some.ensures.accounts o named k in
    let stopped = rw c.swapper_over-swapper.ensures.value at c.in-Err-mark_leader.ensures.stopped.written in
    let cause = rw c.swapper_over-swapper.ensures.value at c.in-Err-mark_leader.ensures.fails.cause in
    subst (λ (l : Layout). ShowsReason o l (g.D.Disk.state c.mark_leader.new.memory.disk) c.in-Err-mark_leader.halt) c.leader_of.ensures.stays.layout
    (mark_reasons now (record { id = c.args.id; page = leader_page }) c.in-Ok-Some.sector c.args.mark led stopped c.in-Err-mark_leader.halt cause)

pub returns-clause-accounts : goal.returns-clause-accounts
returns-clause-accounts g c = λ o named k.
    let f = c.leader_of.new.filer in
    let place = subst (λ (o : Option ℕ). IfSome o (λ sector. ((view_of c.args.filer.now).layout.first ≤ sector) × (sector < (view_of c.args.filer.now).layout.sectors))) c.in-Ok-Some.field-0-is c.in-Ok-Some.ensures.found.0 in
    let above = subst (λ (l : Layout). l.first ≤ c.in-Ok-Some.sector) (sym c.leader_of.ensures.stays.layout) place.0 in
    let marked = rw c.swapper_over-swapper.ensures.value at c.in-Ok.ensures.marked in
    let frames = rw c.swapper_over-swapper.ensures.value at c.mark_leader.ensures.frames in
    let lay = rw c.swapper_over-swapper.ensures.value at c.mark_leader.ensures.layout in
    keeps_at f.runs lay (keeps_marked (accepted f) (c.in-Ok-Some.ensures.accounts o named k) (record { id = c.args.id; page = leader_page }) c.in-Ok-Some.sector c.args.mark above c.requires.client marked frames)

-- ---- What is on the medium.
