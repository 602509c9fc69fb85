-- What calls in a row have written.
use Rattle.std.proofs.Common.{ℕ, ◌≤◌, List, [], ◌∷◌, ◌++◌, refl, arith}
use Rattle.labelled_disk.specs.declared.disk.DiskWrite.{DiskWrite}
use Rattle.labelled_disk.specs.Calls.{Rose}
use Rattle.labelled_disk.specs.Runs.{creation}
use Rattle.labelled_disk.specs.State.{DiskState}
use Rattle.frame_pool.specs.Frames.{Slots}
use Rattle.swapper_kernel.specs.Goes.{Makes, Swaps}
use Rattle.swapper_kernel.specs.GoesLaws.{makes_nothing, makes_then, swaps_wider}
use Rattle.volume_root.specs.declared.root.Root.{Root}
use Rattle.volume_root.specs.RootPage.{root_write}
use Rattle.session_words.specs.Volume.{volume_page}
use Rattle.file_manager.specs.Creating.{NewMade, NewSome, counted, next_id}
use Rattle.running_words.specs.Session.{AreOpen, Wrote}
use Rattle.running_words.proofs.FlagLemmas.{append_open, creation_open, root_open, take_open}

-- the root and the sectors of a new file
file_open : (root : Root) (kind leader : ℕ) (is : List ℕ) → AreOpen (root_write (counted root) ∷ creation (next_id root) kind leader is)
file_open root kind leader is = root_open (counted root) (creation (next_id root) kind leader is) refl (creation_open (next_id root) kind leader is)

pub wrote_nothing : (disk : DiskState) (slots : Slots) → Wrote disk slots disk slots
wrote_nothing disk slots = record { labels = []; makes = makes_nothing volume_page disk slots; opens = tt }

pub wrote_by : {labels : List DiskWrite} {a b : DiskState} {s t : Slots} → Makes volume_page labels a s b t → AreOpen labels → Wrote a s b t
wrote_by {labels = labels} makes opens = record { labels = labels; makes = makes; opens = opens }

pub wrote_then : {a b c : DiskState} {s t u : Slots} → Wrote a s b t → Wrote b t c u → Wrote a s c u
wrote_then h k = record { labels = h.labels ++ k.labels; makes = makes_then h.makes k.makes; opens = append_open h.labels k.labels h.opens k.opens }

pub wrote_swapping : {a b : DiskState} {s t : Slots} → Swaps a s b t → Wrote a s b t
wrote_swapping swaps = wrote_by (swaps_wider volume_page swaps).makes tt

-- a file is created, or the creation stops
pub wrote_file : {a b : DiskState} {s t : Slots} (root : Root) (kind pages : ℕ) → NewMade root kind pages a s b t → Wrote a s b t
wrote_file root kind pages made = wrote_by made.makes (file_open root kind made.leader made.sectors)

pub wrote_some : {a b : DiskState} {s t : Slots} (root : Root) (kind pages : ℕ) → NewSome root kind pages a s b t → Wrote a s b t
wrote_some root kind pages some =
    wrote_by some.makes (take_open some.count (root_write (counted root) ∷ creation (next_id root) kind some.leader some.sectors) (file_open root kind some.leader some.sectors))

-- a fault that was counted after other calls
pub rose_after : (a b c : ℕ) → a ≤ b → Rose b c → Rose a c
rose_after a b c less rose = omega (arith, less, rose)
