-- What a session does with a trace over a root that was read, on a disk before which pages may wait.
use Rattle.std.specs.Prelude.{◌≡◌, ◌≢◌, ◌+◌, ◌^◌, ◌≤◌, true, false, ℕ, List, Option, None}
use Rattle.labelled_disk.specs.declared.evidence.Evidence.{Evidence}
use Rattle.labelled_disk.specs.Sectors.{Sector}
use Rattle.trace_io.specs.Reading.{IsShort, reading, rest_of}
use Rattle.volume_root.specs.Sound.{Sound}
use Rattle.pilot_engine.specs.Closing.{HasShut}
use Rattle.pilot_top.specs.Ending.{closes, halts}
use Rattle.pilot_top.specs.Headline.{RevealsDamage, at_end, run_bound}
use Rattle.pilot_top.specs.Queued.{RunQueued}
use Rattle.pilot_top.specs.Replied.{Replied}
use Rattle.pilot_top.specs.World.{World, Gives, Holds, SinkFailed, SourceFailed, Took}
use Rattle.pilot_top.specs.declared.status.Status.{Status}
use Rattle.pilot_top.specs.declared.status.Status.TheVariants as status

-- It ended with this status; `shown` is the label that had changed, if one had.
pub record RanRooted (s : Status) (shown : Option Evidence) (before after : World) : Type 0 where
  -- On a sound volume: the replies, the files of the disk where nothing waits, and that it is closed; and no damage is found.
  pub answers : (d : List Sector) (b t : List ℕ) → Holds before d → Sound d → Gives before b → Took before t → RunQueued s d b after.left t after.took (SinkFailed before after) after.disk
  pub closed : (d : List Sector) (b : List ℕ) → Holds before d → Sound d → Gives before b → s ≡ status.Done → halts (reading b) ≡ false → HasShut (at_end d (reading b)) after.disk
  pub closed_unheard : (d : List Sector) (b : List ℕ) → Holds before d → Sound d → Gives before b
      → s ≡ status.StreamFault → ¬ SourceFailed before after → Gives after (rest_of b) → closes (reading b) ≡ true → HasShut (at_end d (reading b)) after.disk
  pub transfers : (d : List Sector) (b : List ℕ) → Holds before d → Sound d → Gives before b → after.disk.transfers + 1 ≤ before.disk.transfers + run_bound before.disk.sectors (reading b)
  pub sound : (d : List Sector) → Holds before d → Sound d → s ≢ status.Damaged
  -- Whatever the disk holds: the replies, and what shows damage.
  pub replied : (b t : List ℕ) → Gives before b → Took before t → (s ≡ status.Damaged → shown ≡ None) → Replied s b after.left t after.took (SinkFailed before after) after.disk (λ e. Unit {0})
  pub damage : (t : List ℕ) → Took before t → s ≡ status.Damaged → shown ≡ None → RevealsDamage t after.took (SinkFailed before after) after.disk
  pub short : (b : List ℕ) → Gives before b → s ≡ status.Done → IsShort (2 ^ 32) b
  -- No label had changed where the disk failed; and the root was not refused.
  pub plain : s ≡ status.DiskFault → shown ≡ None
  pub opened : s ≢ status.NotOpened
