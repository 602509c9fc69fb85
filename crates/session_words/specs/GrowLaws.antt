-- A file grows: what that does to the memory, and to the machine that it stands for.
use Rattle.std.specs.Prelude.{◌≡◌, ◌≢◌, ℕ, ◌+◌, ◌*◌, ◌<◌, Bool, true, false, ◌&&◌, ◌||◌, ◌==◌, List, [], ◌∷◌, length, Some, slice_get, slice_set}
use Rattle.labelled_disk.specs.declared.label.Label.{Label}
use Rattle.labelled_disk.specs.Label.{is_free, leader_page, page_label}
use Rattle.labelled_disk.specs.Layout.{vam}
use Rattle.labelled_disk.specs.Sectors.{Sector, AreSectors}
use Rattle.labelled_disk.specs.File.{File, file_at, size}
use Rattle.labelled_disk.specs.Runs.{zero_bytes, lengthened}
use Rattle.file_map.specs.FileMap.{Triples}
use Rattle.file_map.specs.InSectors.{MapNames}
use Rattle.flat_machine.specs.Machine.{Machine}
use Rattle.flat_machine.specs.IsMachine.{IsMachine}
use Rattle.flat_machine.specs.Next.{change_file}
use Rattle.swapper_kernel.specs.Stands.{labels_of}
use Rattle.swapper_kernel.specs.Kinds.{kind_of, maps_alone}
use Rattle.session_words.specs.Parts.{TablesMeaning, Shape, Shapes, HasLabel, HasLabelsUpto, MarksFit, HasTriples, is_marked}
use Rattle.session_words.specs.Found.{AreShapes}
use Rattle.session_words.specs.PlaceLaws.{with_shape, sized}
use Rattle.session_words.specs.StandsFor.{IsFor}

-- what labels, bits and triples say together, of so many pages of the space tables and of files
pub record IsBookUpto (tables : ℕ) (labels : List Label) (shapes : Shapes) (marks : ℕ → Bool) (named : Triples) : Type 0 where
  pub labels_right : HasLabelsUpto tables labels shapes
  pub bits : MarksFit marks labels
  pub triples : HasTriples named labels

-- of all 96, and of files
abbrev pub IsBook : List Label → Shapes → (ℕ → Bool) → Triples → Type 0
IsBook labels shapes marks named = IsBookUpto 96 labels shapes marks named

-- the data sector is free
pub record IsFree (labels : List Label) (k : ℕ) : Type 0 where
  pub label : Label
  pub there : HasLabel labels k label
  pub free : is_free label ≡ true

-- The pages of a file from this one on come into these sectors.

abbrev pub grown_labels : ℕ → ℕ → ℕ → List ℕ → List Label → List Label
grown_labels id kind page [] labels = labels
grown_labels id kind page (i ∷ is) labels = grown_labels id kind (page + 1) is (slice_set labels i (page_label id kind page))

abbrev pub grown_marks : List ℕ → (ℕ → Bool) → ℕ → Bool
grown_marks [] marks = marks
grown_marks (i ∷ is) marks = grown_marks is (λ k. k == i || marks k)

abbrev pub grown_names : ℕ → ℕ → List ℕ → Triples → Triples
grown_names id page [] named = named
grown_names id page (i ∷ is) named = grown_names id (page + 1) is (λ j p s. (j == id && p == page && s == i) || named j p s)

-- each sector is free when its turn comes
abbrev pub AreFree : ℕ → ℕ → ℕ → List ℕ → List Label → Type 0
AreFree id kind page [] labels = Unit {0}
AreFree id kind page (i ∷ is) labels = IsFree labels i × AreFree id kind (page + 1) is (slice_set labels i (page_label id kind page))

-- What a growth does to the memory but for its maps: free sectors have the labels of the next pages, and zeros; all other
-- sectors but those of the maps are the same.
pub record GrowsPages (id kind page : ℕ) (is : List ℕ) (m n : List Sector) : Type 0 where
  pub free : AreFree id kind page is (labels_of m)
  pub labels : labels_of n ≡ grown_labels id kind page is (labels_of m)
  pub pages : (k : ℕ) (s : Sector) → slice_get m k ≡ Some s → ((j : ℕ) → slice_get is j ≢ Some k) → maps_alone (kind_of (length m) k s.0) ≡ false → slice_get n k ≡ Some s
  pub fresh : (j k : ℕ) (s : Sector) → slice_get is j ≡ Some k → slice_get n k ≡ Some s → s.1 ≡ zero_bytes
  pub sectors : AreSectors n

-- and the maps say so
pub record Grows (id kind page : ℕ) (is : List ℕ) (m n : List Sector) : Type 0 where
  pub grown : GrowsPages id kind page is m n
  pub bits : (k : ℕ) → k < 4096 * vam (length m) → is_marked n k ≡ grown_marks is (is_marked m) k
  pub triples : (named : Triples) → MapNames m named → MapNames n (grown_names id page is named)

pub record GrowLaws (spaces_of : TablesMeaning) : Type 0 where
  pub book : (id kind : ℕ) (is : List ℕ) (labels : List Label) (shapes : Shapes) (marks : ℕ → Bool) (named : Triples) (f : Shape) → AreShapes shapes → shapes id ≡ Some f
      → f.size + length is < leader_page → AreFree id kind f.size is labels → IsBook labels shapes marks named
      → IsBook (grown_labels id kind f.size is labels) (with_shape shapes id (sized (f.size + length is) f)) (grown_marks is marks) (grown_names id f.size is named)
  pub grown : (x y : List Sector) (m : Machine) (id : ℕ) (f : File) (is : List ℕ) → file_at m.files id ≡ Some f → Grows id f.kind (size f) is x y
      → IsMachine (record m { files = change_file id (lengthened (length is)) m.files })
      → IsFor spaces_of x m → IsFor spaces_of y (record m { files = change_file id (lengthened (length is)) m.files })
