-- What the steps of a session's end clear, one after the other.
use Rattle.std.proofs.Common.{◌≡◌, ap, ◌∙◌}
use Rattle.labelled_disk.specs.declared.disk.Disk.{Ghosts}
use Rattle.file_manager.specs.declared.volume.Volume.{Volume}
use Rattle.file_manager.specs.Stays.{LooksAlone}
use Rattle.fault_core.specs.Core.{state}
use Rattle.running_words.specs.Session.{IsOpen}
use Rattle.pilot_engine.specs.declared.session.Session.{Session}
use Rattle.pilot_engine.specs.Outcomes.{ClearsOn}
use Rattle.pilot_engine.proofs.LiftLemmas.{still_open}
use Rattle.pilot_engine.proofs.WritingLemmas.{clears_none, clears_then}
use Rattle.pilot_engine.proofs.WroteLemmas.{wrote_by, wrote_then}

module _ {D A : Type 0} {G : Ghosts D} where
  -- a file was looked up, or searched for
  pub cleared_asked : (old new : Session D A G) → LooksAlone (state old.core) (state new.core) → IsOpen (state old.core).layout old.volume → new.volume ≡ old.volume → ClearsOn old new
  cleared_asked old new looks opened volume = record {
    wrote = wrote_by looks.makes tt;
    spares = clears_none looks.makes (ap (λ (v : Volume). v.root) volume);
    open_still = still_open _ _ _ _ opened looks.layout volume;
    layout = looks.layout;
  }

  -- and another step follows
  pub cleared_after : {old mid new : Session D A G} → ClearsOn old mid → ClearsOn mid new → ClearsOn old new
  cleared_after first later = record {
    wrote = wrote_then first.wrote later.wrote;
    spares = clears_then first.spares later.spares;
    open_still = later.open_still;
    layout = later.layout ∙ first.layout;
  }
