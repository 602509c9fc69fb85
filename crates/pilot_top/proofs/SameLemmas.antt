-- A disk that reveals the same as another.
use Rattle.std.proofs.Common.{ℕ, List, sym, ◌∙◌}
use Rattle.labelled_disk.specs.Calls.{RevealsSame}
use Rattle.labelled_disk.specs.State.{DiskState}
use Rattle.labelled_disk.specs.WriteRuns.{Appended}
use Rattle.labelled_disk.specs.declared.disk.DiskWrite.{DiskWrite}
use Rattle.frame_pool.specs.Frames.{Slots}
use Rattle.flat_machine.specs.After.{TraceLine}
use Rattle.flat_machine.specs.Machine.{Machine}
use Rattle.swapper_kernel.specs.Goes.{Went}
use Rattle.swapper_kernel.specs.GoesLaws.{went_then}
use Rattle.pilot_engine.specs.Closing.{IsStop, Throughout, WroteOn}
use Rattle.pilot_engine.specs.Opening.{IsUnset}
use Rattle.pilot_top.specs.CrashStates.{CrashStates, IsCrashState, ShutsLast}
use Rattle.pilot_top.specs.Headline.{LeadsTo}
use Rattle.pilot_top.proofs.AlongLemmas.{along_same}
use Rattle.pilot_top.proofs.WaitedLemmas.{waited_later}
use Rattle.volume_root.specs.declared.root.Root.{Root}

module _ {mid new : DiskState} (same : RevealsSame mid new) where
  pub appended_same : {old : DiskState} (writes : List DiskWrite) → Appended writes old mid → Appended writes old new
  appended_same writes made = record { contents = same.contents ∙ made.contents; revealed = same.writes ∙ made.revealed }

  pub unset_same : IsUnset mid → IsUnset new
  unset_same unset d revealed = unset d (sym same.contents ∙ revealed)

  pub leads_same : {old : DiskState} (m : Machine) (lines : List TraceLine) (k i : ℕ) → Went mid new → LeadsTo m lines old mid k i → LeadsTo m lines old new k i
  leads_same {old = old} m lines k i went leads = (
    (leads.0.0, λ e revealed. leads.0.1 e (sym same.contents ∙ revealed)),
    along_same (IsCrashState m lines) 0 0 k i same leads.1,
    waited_later m lines k leads.1.writes leads.1.line old went leads.2,
    leads.3,
  )

  pub crash_states_same : {old : DiskState} {m : Machine} {lines : List TraceLine} → CrashStates m lines old mid → CrashStates m lines old new
  crash_states_same on = record {
    writes = on.writes;
    appended = appended_same on.writes on.appended;
    line = on.line;
    step = on.step;
    rise = on.rise;
    first = on.first;
    last = on.last;
    each = on.each;
  }

  pub shuts_same : {old : DiskState} → ShutsLast old mid → ShutsLast old new
  shuts_same on = record { writes = on.writes; appended = appended_same on.writes on.appended; permitted = on.permitted; shut = on.shut }

  pub stops_same : {old : DiskState} {m : Machine} → Throughout (IsStop m) old mid → Throughout (IsStop m) old new
  stops_same on = record { writes = on.writes; appended = appended_same on.writes on.appended; each = on.each }

  pub wrote_same : {root : Root} {old : DiskState} {slots : Slots} → Went mid new → WroteOn root slots old mid → WroteOn root slots old new
  wrote_same later on = record {
    labels = on.labels;
    went = went_then on.went later;
    wrote = record {
      writes = on.wrote.writes;
      appended = appended_same on.wrote.writes on.wrote.appended;
      form = on.wrote.form;
      permitted = on.wrote.permitted;
      labels = on.wrote.labels;
      of_dirty = on.wrote.of_dirty;
    };
    shut = on.shut;
    ends = record { writes = on.ends.writes; appended = appended_same on.ends.writes on.ends.appended; each = on.ends.each };
  }
