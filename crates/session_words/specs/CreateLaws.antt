-- A file is made: its leader, then its pages, with the next counter in the root.
use Rattle.std.specs.Prelude.{◌≡◌, ◌≢◌, ℕ, ◌+◌, ◌*◌, ◌<◌, false, ◌&&◌, ◌||◌, ◌==◌, List, ◌∷◌, length, Some, None, slice_get, slice_set}
use Rattle.labelled_disk.specs.declared.disk.DiskWrite.{DiskWrite}
use Rattle.labelled_disk.specs.Label.{leader_page, root_label, page_label}
use Rattle.labelled_disk.specs.Layout.{vam}
use Rattle.labelled_disk.specs.Sectors.{Sector, AreSectors}
use Rattle.labelled_disk.specs.State.{DiskState}
use Rattle.file_map.specs.FileMap.{Triples}
use Rattle.file_map.specs.InSectors.{MapNames}
use Rattle.frame_pool.specs.Frames.{Slots}
use Rattle.flat_machine.specs.declared.call.Call.TheVariants.{Create}
use Rattle.flat_machine.specs.Machine.{Machine}
use Rattle.flat_machine.specs.Refusal.{refusal}
use Rattle.flat_machine.specs.Next.{next, new_id}
use Rattle.swapper_kernel.specs.Stands.{labels_of}
use Rattle.swapper_kernel.specs.Goes.{Goes}
use Rattle.session_words.specs.Volume.{volume_page}
use Rattle.swapper_kernel.specs.Kinds.{kind_of, maps_alone}
use Rattle.session_words.specs.Parts.{TablesMeaning, HasRoot, is_marked}
use Rattle.session_words.specs.GrowLaws.{IsFree, GrowsPages, grown_marks, grown_names}
use Rattle.session_words.specs.FrameLaws.{BringsKnown}
use Rattle.session_words.specs.StandsFor.{StandsFor}

-- a free sector has the label of the leader, and the root its own label and these numbers; all other sectors but those of the maps are the same
pub record LeaderMade (serial counter room id kind leader : ℕ) (m n : List Sector) : Type 0 where
  pub free : IsFree (labels_of m) leader
  pub labels : labels_of n ≡ slice_set (slice_set (labels_of m) 0 root_label) leader (page_label id kind leader_page)
  pub pages : (k : ℕ) (s : Sector) → slice_get m k ≡ Some s → k ≢ 0 → k ≢ leader → maps_alone (kind_of (length m) k s.0) ≡ false → slice_get n k ≡ Some s
  pub root : HasRoot (length n) (slice_get n 0) serial counter room
  pub sectors : AreSectors n

-- What a creation does to the memory: the leader is made, then the pages, and the maps say so in the end. The root has these numbers.
pub record Creates (serial counter room id kind leader : ℕ) (is : List ℕ) (x y : List Sector) : Type 0 where
  pub middle : List Sector
  pub led : LeaderMade serial counter room id kind leader x middle
  pub grown : GrowsPages id kind 0 is middle y
  pub bits : (k : ℕ) → k < 4096 * vam (length x) → is_marked y k ≡ grown_marks (leader ∷ is) (is_marked x) k
  pub triples : (named : Triples) → MapNames x named → MapNames y (grown_names id 0 is (λ j q k. (j == id && q == leader_page && k == leader) || named j q k))

abbrev pub CreateStands : TablesMeaning → Type 0
CreateStands spaces_of = (kind leader : ℕ) (is : List ℕ) (run : List DiskWrite) (old new : DiskState) (before after : Slots) (m : Machine) → kind < 65536
    → refusal m (Create (length is) kind) ≡ None → Goes (Creates m.serial (m.counter + 1) m.capacity (new_id m) kind leader is) volume_page run old before new after
    → BringsKnown m.spaces before after → StandsFor spaces_of old before m → StandsFor spaces_of new after (next m (Create (length is) kind))
