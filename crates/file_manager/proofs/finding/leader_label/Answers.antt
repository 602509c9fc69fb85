use Rattle.std.proofs.Common.{rules}
use Rattle.swapper_kernel.specs.GoesLaws.{makes_then}
use Rattle.label_calls.specs.Labels.{IsNotOf}
use Rattle.labelled_disk.specs.Label.{leader_page}
use Rattle.label_calls.proofs.SyncedCalls.{same_between}
use Rattle.file_manager.proofs.ReasonCauses.{fault_reason}
use Rattle.file_manager.proofs.SoLemmas.{fault_shows}
use Rattle.file_manager.proofs.SyncSteps.{fault_cause, quiet_first}
use Rattle.file_manager.proofs.finding.leader_label.Goals as goal
use Rattle.filer_kernel.specs.View.{view_of}

pub returns-in-Ok-sync_disk-clause-keeps_to : goal.returns-in-Ok-sync_disk-clause-keeps_to
returns-in-Ok-sync_disk-clause-keeps_to g c = λ o named k. c.sync_disk.ensures.keeps_to o named (c.in-Ok.ensures.keeps_to o named k)

pub returns-in-Ok-sync_disk-clause-stays : goal.returns-in-Ok-sync_disk-clause-stays
returns-in-Ok-sync_disk-clause-stays g c = record {
  same = same_between c.read_leader.ensures.stays.same c.sync_disk.ensures.stays.same;
  makes = makes_then c.read_leader.ensures.stays.makes c.sync_disk.ensures.stays.makes;
  frames = search rules;
  layout = search rules;
  runs = search rules;
}

pub returns-in-Err-sync_disk-clause-stays : goal.returns-in-Err-sync_disk-clause-stays
returns-in-Err-sync_disk-clause-stays g c = record {
  same = same_between c.read_leader.ensures.stays.same c.sync_disk.ensures.stays.same;
  makes = makes_then c.read_leader.ensures.stays.makes c.sync_disk.ensures.stays.makes;
  frames = search rules;
  layout = search rules;
  runs = search rules;
}

pub returns-in-Err-sync_disk-clause-sound : goal.returns-in-Err-sync_disk-clause-sound
returns-in-Err-sync_disk-clause-sound g c = λ m has one. c.in-Err-sync_disk.ensures.cause.0

pub returns-in-Err-sync_disk-clause-cause : goal.returns-in-Err-sync_disk-clause-cause
returns-in-Err-sync_disk-clause-cause g c =
    let old = (view_of c.args.filer.now).disk in
    fault_cause (IsNotOf c.args.sector (record { id = c.args.id; page = leader_page }) old) old (view_of c.read_leader.new.filer).disk (view_of c.sync_disk.new.filer).disk c.in-Err-sync_disk.halt c.read_leader.ensures.stays.makes.went.faults c.in-Err-sync_disk.ensures.cause

pub returns-in-Err-sync_disk-clause-reasons : goal.returns-in-Err-sync_disk-clause-reasons
returns-in-Err-sync_disk-clause-reasons g c = λ o named k led.
    fault_reason o (view_of c.args.filer.now).layout (view_of c.sync_disk.new.filer).disk c.in-Err-sync_disk.halt c.in-Err-sync_disk.ensures.cause.0

pub returns-in-Err-sync_disk-clause-evidence_seen : goal.returns-in-Err-sync_disk-clause-evidence_seen
returns-in-Err-sync_disk-clause-evidence_seen g c = λ may. fault_shows (view_of c.sync_disk.new.filer).disk c.in-Err-sync_disk.halt c.in-Err-sync_disk.ensures.cause.0

pub returns-in-Ok-sync_disk-clause-synced : goal.returns-in-Ok-sync_disk-clause-synced
returns-in-Ok-sync_disk-clause-synced g c = λ syncs permanent. quiet_first c.read_leader.ensures.stays.makes c.in-Ok-sync_disk.ensures.synced
