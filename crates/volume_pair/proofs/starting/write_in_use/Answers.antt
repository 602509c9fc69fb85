use Rattle.std.proofs.Common.{◌≡◌, ◌∙◌, inr, [], ◌∷◌, refl}
use Rattle.labelled_disk.specs.CrashState.{written}
use Rattle.volume_root.specs.RootPage.{root_write}
use Rattle.filer_kernel.specs.View.{view_of}
use Rattle.volume_pair.proofs.EndLemmas.{fault_why, own_then, swaps_own}
use Rattle.volume_pair.proofs.SideLemmas.{why_after}
use Rattle.volume_pair.proofs.StartLemmas.{goes_synced, may_own, root_own}
use Rattle.volume_pair.proofs.starting.write_in_use.Goals as goal

pub returns-in-Err-clause-writes : goal.returns-in-Err-clause-writes
returns-in-Err-clause-writes g c = may_own (view_of c.args.filer.now) (view_of c.write_over.new.filer) c.args.root c.in-Err.ensures.writes c.write_over.ensures.stays.frames

pub returns-in-Err-clause-why : goal.returns-in-Err-clause-why
returns-in-Err-clause-why g c = fault_why c.in-Err.halt c.in-Err.ensures.fault.0 c.in-Err.ensures.fault.1

pub returns-in-Ok-sync_disk-clause-made : goal.returns-in-Ok-sync_disk-clause-made
returns-in-Ok-sync_disk-clause-made g c =
    goes_synced (λ m n. n ≡ written (root_write c.args.root) m) (root_write c.args.root ∷ []) c.in-Ok.ensures.writes c.sync_disk.ensures.swaps c.write_over.ensures.stays.frames (c.sync_disk.ensures.stays.frames ∙ c.write_over.ensures.stays.frames)

pub returns-in-Ok-sync_disk-clause-writes : goal.returns-in-Ok-sync_disk-clause-writes
returns-in-Ok-sync_disk-clause-writes g c = own_then (root_own (view_of c.args.filer.now) (view_of c.write_over.new.filer) (refl, tt) c.in-Ok.ensures.writes.makes c.write_over.ensures.stays.frames) (swaps_own (view_of c.write_over.new.filer) (view_of c.sync_disk.new.filer) c.sync_disk.ensures.swaps)

pub returns-in-Ok-sync_disk-clause-stays : goal.returns-in-Ok-sync_disk-clause-stays
returns-in-Ok-sync_disk-clause-stays g c = record {
  frames = c.sync_disk.ensures.stays.frames ∙ c.write_over.ensures.stays.frames;
  layout = c.sync_disk.ensures.stays.layout ∙ c.write_over.ensures.stays.layout;
  runs = c.sync_disk.ensures.stays.runs ∙ c.write_over.ensures.stays.runs;
}

pub returns-in-Err-sync_disk-clause-writes : goal.returns-in-Err-sync_disk-clause-writes
returns-in-Err-sync_disk-clause-writes g c = own_then (root_own (view_of c.args.filer.now) (view_of c.write_over.new.filer) (refl, tt) c.in-Ok.ensures.writes.makes c.write_over.ensures.stays.frames) (swaps_own (view_of c.write_over.new.filer) (view_of c.sync_disk.new.filer) c.sync_disk.ensures.swaps)

pub returns-in-Err-sync_disk-clause-stays : goal.returns-in-Err-sync_disk-clause-stays
returns-in-Err-sync_disk-clause-stays g c = record {
  frames = c.sync_disk.ensures.stays.frames ∙ c.write_over.ensures.stays.frames;
  layout = c.sync_disk.ensures.stays.layout ∙ c.write_over.ensures.stays.layout;
  runs = c.sync_disk.ensures.stays.runs ∙ c.write_over.ensures.stays.runs;
}

pub returns-in-Err-sync_disk-clause-why : goal.returns-in-Err-sync_disk-clause-why
returns-in-Err-sync_disk-clause-why g c = why_after c.in-Ok.ensures.writes.makes.went.faults c.in-Err-sync_disk.ensures.why

pub returns-in-Err-sync_disk-clause-made : goal.returns-in-Err-sync_disk-clause-made
returns-in-Err-sync_disk-clause-made g c =
    inr (goes_synced (λ m n. n ≡ written (root_write c.args.root) m) (root_write c.args.root ∷ []) c.in-Ok.ensures.writes c.sync_disk.ensures.swaps c.write_over.ensures.stays.frames (c.sync_disk.ensures.stays.frames ∙ c.write_over.ensures.stays.frames)).makes
