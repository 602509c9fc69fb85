-- What any call may do besides: bring pages in and write them out, pages of the volume's own maps and tables among them.
use Rattle.std.specs.Prelude.{◌<◌, []}
use Rattle.labelled_disk.specs.State.{DiskState}
use Rattle.frame_pool.specs.Frames.{Slots}
use Rattle.swapper_kernel.specs.Goes.{Goes, Pages, Same}

-- a page of a map or of the space tables, or one under a free label (its number is 0): the settled files don't rest on it
abbrev pub volume_page : Pages
volume_page id page = id < 4

-- pages are brought in and written out, and the memory stays
abbrev pub Searches : DiskState → Slots → DiskState → Slots → Type 0
Searches old before new after = Goes Same volume_page [] old before new after
