-- How the machine that a core stands for goes with what calls do to disk and frames.
use Rattle.std.specs.Prelude.{◌≡◌, ℕ, ◌≤◌, true, List, [], length, None}
use Rattle.labelled_disk.specs.Sectors.{Sector}
use Rattle.frame_pool.specs.Frames.{ArePages}
use Rattle.flat_machine.specs.declared.call.Call.{Call}
use Rattle.flat_machine.specs.declared.call.Call.TheVariants.{Store}
use Rattle.flat_machine.specs.declared.space.FilePage.{FilePage}
use Rattle.flat_machine.specs.declared.space.Space.{Space}
use Rattle.flat_machine.specs.Form.{IsTyped}
use Rattle.flat_machine.specs.IsMachine.{IsMachine}
use Rattle.flat_machine.specs.Machine.{Machine, used}
use Rattle.flat_machine.specs.Refusal.{refusal}
use Rattle.swap_units.specs.declared.interval.Interval.{Interval}
use Rattle.swapper_kernel.specs.Goes.{Makes}
use Rattle.swapper_kernel.specs.Homes.{IsLayout}
use Rattle.swapper_kernel.specs.Stands.{Stands}
use Rattle.filer_kernel.specs.Tables.{BesideTables}
use Rattle.space_tables.specs.Stored.{RevealSpaces}
use Rattle.session_words.specs.CellLaws.{IsTouchedOrOwn}
use Rattle.session_words.specs.FrameLaws.{HasFrames, BringsKnown, is_shown}
use Rattle.session_words.specs.Parts.{DirtyAreLoose}
use Rattle.session_words.specs.StandsFor.{StandsFor}
use Rattle.session_words.specs.Volume.{volume_page}
use Rattle.file_manager.specs.declared.volume.Volume.{Volume}
use Rattle.fault_core.specs.Kept.{AreApart}
use Rattle.fault_core.specs.Reach.{Reaches, BringsOwn}
use Rattle.fault_core.specs.Revealed.{Revealed}
use Rattle.filer_kernel.specs.View.{View, TablesAre}
use Rattle.running_words.specs.Running.{IsRunning, exactly}
use Rattle.running_words.specs.Session.{AreInForm}
use Rattle.running_words.specs.Stages.{Passes}

-- the view is of a disk that has as many sectors as the layout, which is one
pub record IsWhole (v : View) : Type 0 where
  pub layout : IsLayout v.layout
  pub size : v.disk.sectors ≡ v.layout.sectors

pub record RunningLaws : Type 0 where
  -- what a core knows of the memory, by the machine that it stands for
  pub known : (v : View) (kept : List Interval) (count : ℕ) (volume : Volume) (m : Machine) → IsWhole v → (r : IsRunning v kept count volume m)
      → Revealed v kept count r.session.stands.memory r.session.stands.is.named m.spaces
  -- no two different intervals that it keeps share a page
  pub apart : (v : View) (kept : List Interval) (count : ℕ) (volume : Volume) (m : Machine) → IsRunning v kept count volume m → AreApart kept
  -- pages were found and brought in, and the same is known
  pub asked : (v w : View) (kept later : List Interval) (count : ℕ) (volume : Volume) (m : Machine) → IsWhole v → (r : IsRunning v kept count volume m) → Reaches v w → BringsKnown m.spaces v.slots w.slots
      → Revealed w later count r.session.stands.memory r.session.stands.is.named m.spaces → IsRunning w later count volume m
  -- pages of the space tables changed, and now reveal these spaces: no interval is kept
  pub changed : (v w : View) (kept : List Interval) (count now : ℕ) (volume : Volume) (m : Machine) (spaces : List Space) (unforced : List FilePage) → IsWhole v → AreInForm w.disk → ArePages w.slots → IsRunning v kept count volume m
      → BesideTables v.disk v.slots v.layout v.runs w.disk w.slots w.layout w.runs → RevealSpaces (TablesAre w) now spaces
      → IsMachine (record m { spaces = spaces; unforced = unforced }) → HasFrames w.slots spaces → DirtyAreLoose w.slots unforced
      → IsRunning w [] now volume (record m { spaces = spaces; unforced = unforced })
  -- the same where what windows show is still shown, and nothing else changed
  pub reshaped : (v w : View) (kept : List Interval) (count now : ℕ) (volume : Volume) (m : Machine) (spaces : List Space) → IsWhole v → AreInForm w.disk → ArePages w.slots → IsRunning v kept count volume m
      → BesideTables v.disk v.slots v.layout v.runs w.disk w.slots w.layout w.runs → BringsOwn v.slots w.slots → RevealSpaces (TablesAre w) now spaces
      → IsMachine (record m { spaces = spaces }) → ((id page : ℕ) → is_shown m.spaces id page ≡ true → is_shown spaces id page ≡ true)
      → IsRunning w [] now volume (record m { spaces = spaces })
  -- bytes of clients' pages changed, and with the same spaces disk and frames stand for another machine
  pub moved : (v w : View) (kept later : List Interval) (count : ℕ) (volume : Volume) (m n : Machine) → IsWhole v → (r : IsRunning v kept count volume m) → n.spaces ≡ m.spaces
      → n.serial ≡ m.serial → n.counter ≡ m.counter → used n ≡ used m
      → StandsFor (exactly r.pages m.spaces) w.disk w.slots n
      → ((x : List Sector) → Stands w.disk w.slots x → Revealed w later count x r.session.stands.is.named m.spaces) → w.layout ≡ v.layout
      → IsRunning w later count volume n
  -- where no label was written and none but the volume's own pages became dirty, each crash state reveals the settled files of before
  pub quiet : (call : Call) (v w : View) (kept : List Interval) (count : ℕ) (volume : Volume) (m : Machine) → AreInForm v.disk → IsRunning v kept count volume m
      → Makes volume_page [] v.disk v.slots w.disk w.slots → Passes m call v.disk w.disk
  -- where a store that isn't refused made none dirty but the pages that it touches and the volume's own, each crash state reveals the
  -- settled files of after
  pub store_passes : (address : ℕ) (bytes : List ℕ) (v w : View) (kept : List Interval) (count : ℕ) (volume : Volume) (m : Machine) → AreInForm v.disk → IsTyped (Store address bytes) → length bytes ≤ 512
      → refusal m (Store address bytes) ≡ None → IsRunning v kept count volume m → Makes (IsTouchedOrOwn m.spaces address (length bytes)) [] v.disk v.slots w.disk w.slots → Passes m (Store address bytes) v.disk w.disk
