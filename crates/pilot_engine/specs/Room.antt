-- How much room a session's memory has.
use Rattle.std.specs.Prelude.{◌≡◌, ◌+◌}
use Rattle.labelled_disk.specs.declared.layout.Layout.{Layout}
use Rattle.labelled_disk.specs.State.{DiskState}
use Rattle.frame_pool.specs.Frames.{Slots}
use Rattle.flat_machine.specs.Machine.{Machine, used}
use Rattle.swapper_kernel.specs.Homes.{IsLayout}
use Rattle.filer_kernel.specs.declared.cached.CachedRuns.{CachedRuns}
use Rattle.session_words.specs.Parts.{TablesMeaning}
use Rattle.file_manager.specs.declared.volume.Volume.{Volume}
use Rattle.file_manager.specs.Making.{free_count}
use Rattle.running_words.specs.Session.{IsSession}

-- what the machine's files have and what the memory's allocation map has as free are together what files may have
abbrev pub SessionsHaveRoom : TablesMeaning → Type 0
SessionsHaveRoom spaces_of = (disk : DiskState) (slots : Slots) (layout : Layout) (runs : CachedRuns) (volume : Volume) (m : Machine) → IsLayout layout
    → (s : IsSession spaces_of disk slots layout runs volume m) → layout.capacity ≡ used m + free_count layout s.stands.memory
