-- Sectors become free: a set of pages goes, whatever the order. A deletion, a cut and a close are of this form.
use Rattle.std.specs.Prelude.{◌≡◌, ◌⊎◌, ℕ, ◌≤◌, Bool, true, false, not, ◌&&◌, ◌==◌, nat_le, if◌then◌else◌, List, length, map, take, Some, slice_get}
use Rattle.labelled_disk.specs.declared.label.Label.{Label}
use Rattle.labelled_disk.specs.Label.{leader_page}
use Rattle.labelled_disk.specs.Sectors.{Sector, AreSectors, free_label}
use Rattle.labelled_disk.specs.File.{File, size, file_at}
use Rattle.file_map.specs.FileMap.{Triples}
use Rattle.file_map.specs.InSectors.{MapNames}
use Rattle.flat_machine.specs.Machine.{Machine}
use Rattle.flat_machine.specs.IsMachine.{IsMachine}
use Rattle.flat_machine.specs.Next.{change_file}
use Rattle.swapper_kernel.specs.Stands.{labels_of}
use Rattle.swapper_kernel.specs.Kinds.{kind_of, maps_alone}
use Rattle.session_words.specs.Parts.{TablesMeaning, HasLabel, HasPages, MarksFit, HasTriples, IsBesideData, is_marked}
use Rattle.session_words.specs.StandsFor.{IsFor}

-- the label is free where its page goes
abbrev pub free_where : (ℕ → ℕ → Bool) → Label → Label
free_where gone l = if gone l.id l.page then free_label else l

-- these pages are of the space tables or of files
abbrev pub AreOfFiles : (ℕ → ℕ → Bool) → Type 0
AreOfFiles gone = (id page : ℕ) → gone id page ≡ true → (id ≡ 3) ⊎ (16 ≤ id)

-- What it does to the memory: the labels of these pages are free, all other sectors but those of the maps are the same,
-- and the maps say so.
pub record Frees (gone : ℕ → ℕ → Bool) (m n : List Sector) : Type 0 where
  pub labels : labels_of n ≡ map (free_where gone) (labels_of m)
  pub pages : (k : ℕ) (s : Sector) → slice_get m k ≡ Some s → gone s.0.id s.0.page ≡ false → maps_alone (kind_of (length m) k s.0) ≡ false → slice_get n k ≡ Some s
  pub sectors : AreSectors n
  pub bits : (k : ℕ) (l : Label) → HasLabel (labels_of m) k l → is_marked n k ≡ (not (gone l.id l.page) && is_marked m k)
  pub others : (k : ℕ) → IsBesideData (length m) k → is_marked n k ≡ is_marked m k
  pub triples : (named : Triples) → MapNames m named → MapNames n (λ i p s. not (gone i p) && named i p s)

-- the pages of a file from page n on, its leader not
abbrev pub cut_pages : ℕ → ℕ → ℕ → ℕ → Bool
cut_pages id n i p = (i == id) && (nat_le n p && not (p == leader_page))

-- the file with its first n pages
abbrev pub cut : ℕ → File → File
cut n f = record f { pages = take n f.pages }

pub record FreeLaws (spaces_of : TablesMeaning) : Type 0 where
  pub pages : (labels : List Label) (gone owned : ℕ → ℕ → Bool) → HasPages labels owned → HasPages (map (free_where gone) labels) (λ i p. not (gone i p) && owned i p)
  pub bits : (labels : List Label) (gone : ℕ → ℕ → Bool) (marks later : ℕ → Bool) → MarksFit marks labels
      → ((k : ℕ) (l : Label) → HasLabel labels k l → later k ≡ (not (gone l.id l.page) && marks k)) → ((k : ℕ) → IsBesideData (length labels) k → later k ≡ marks k)
      → MarksFit later (map (free_where gone) labels)
  pub triples : (labels : List Label) (gone : ℕ → ℕ → Bool) (named later : Triples) → HasTriples named labels
      → ((i p s : ℕ) → later i p s ≡ (not (gone i p) && named i p s)) → HasTriples later (map (free_where gone) labels)
  -- a file that is cut
  pub cut_file : (x y : List Sector) (m : Machine) (id n : ℕ) (f : File) → file_at m.files id ≡ Some f → n ≤ size f → Frees (cut_pages id n) x y
      → IsMachine (record m { files = change_file id (cut n) m.files })
      → IsFor spaces_of x m → IsFor spaces_of y (record m { files = change_file id (cut n) m.files })
