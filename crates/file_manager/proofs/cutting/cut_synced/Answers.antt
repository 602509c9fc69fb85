use Rattle.std.proofs.Common.{inl, rules}
use Rattle.file_manager.proofs.LookLemmas.{beside_read}
use Rattle.file_manager.proofs.SyncSteps.{became_read, fault_cause, is_fault, quiet_first}
use Rattle.filer_kernel.specs.Causes.{CutEvidence, MapEvidence}
use Rattle.file_manager.proofs.cutting.cut_synced.Goals as goal
use Rattle.filer_kernel.specs.View.{view_of}

pub returns-in-Ok-sync_disk-clause-cut : goal.returns-in-Ok-sync_disk-clause-cut
returns-in-Ok-sync_disk-clause-cut g c = λ m named stands map. became_read c.sync_disk.ensures.stays.same c.sync_disk.ensures.stays.frames (c.in-Ok.ensures.cut m named stands map)

pub returns-in-Ok-sync_disk-clause-stays : goal.returns-in-Ok-sync_disk-clause-stays
returns-in-Ok-sync_disk-clause-stays g c = record {
  beside = beside_read c.cut.ensures.beside c.sync_disk.ensures.stays.same c.sync_disk.ensures.stays.makes c.sync_disk.ensures.stays.frames c.sync_disk.ensures.stays.layout;
  runs = search rules;
}

pub returns-in-Err-sync_disk-clause-stays : goal.returns-in-Err-sync_disk-clause-stays
returns-in-Err-sync_disk-clause-stays g c = record {
  beside = beside_read c.cut.ensures.beside c.sync_disk.ensures.stays.same c.sync_disk.ensures.stays.makes c.sync_disk.ensures.stays.frames c.sync_disk.ensures.stays.layout;
  runs = search rules;
}

pub returns-in-Err-sync_disk-clause-sound : goal.returns-in-Err-sync_disk-clause-sound
returns-in-Err-sync_disk-clause-sound g c = λ m named stands map labels. c.in-Err-sync_disk.ensures.cause.0

pub returns-in-Err-sync_disk-clause-cut : goal.returns-in-Err-sync_disk-clause-cut
returns-in-Err-sync_disk-clause-cut g c = λ m named stands map. is_fault c.in-Err-sync_disk.halt c.in-Err-sync_disk.ensures.cause.0

pub returns-in-Err-sync_disk-clause-cause : goal.returns-in-Err-sync_disk-clause-cause
returns-in-Err-sync_disk-clause-cause g c =
    let layout = (view_of c.args.filer.now).layout in
    let old = (view_of c.args.filer.now).disk in
    let new = (view_of c.sync_disk.new.filer).disk in (
      fault_cause (CutEvidence layout old (view_of c.args.filer.now).slots new (view_of c.sync_disk.new.filer).slots) old (view_of c.cut.new.self).disk new c.in-Err-sync_disk.halt c.cut.ensures.beside.goes.makes.went.faults c.in-Err-sync_disk.ensures.cause,
      inl (fault_cause (MapEvidence layout old (view_of c.args.filer.now).slots) old (view_of c.cut.new.self).disk (view_of c.sync_disk.new.filer).disk c.in-Err-sync_disk.halt c.cut.ensures.beside.goes.makes.went.faults c.in-Err-sync_disk.ensures.cause),
    )

pub returns-in-Ok-sync_disk-clause-synced : goal.returns-in-Ok-sync_disk-clause-synced
returns-in-Ok-sync_disk-clause-synced g c = λ syncs. quiet_first c.cut.ensures.beside.goes.makes c.in-Ok-sync_disk.ensures.synced
