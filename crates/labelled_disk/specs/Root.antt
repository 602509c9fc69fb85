-- The root of a volume, and labels that are right.
use Rattle.std.specs.Prelude.{◌≡◌, ℕ, ◌+◌, ◌≤◌, Bool, false, IsTrue, IsSomeAnd, Option, List, [], length, slice_get, slice_range, drop, codes, All, ◌<◌}
use Rattle.byteorder.specs.Endian.{big_number}
use Rattle.std.specs.Option.{option_map_or}
use Rattle.labelled_disk.specs.Label.{names, wanted_root}
use Rattle.labelled_disk.specs.Sectors.{Sector}
use Rattle.labelled_disk.specs.Layout.{IsCount, vam, vfm}
use Rattle.labelled_disk.specs.Right.{FilesRight}

-- the page of a sector, if there is one
abbrev pub page_in : Option Sector → List ℕ
page_in sector = option_map_or (λ s. s.1) sector []

-- the page of sector 0
abbrev pub root_page : List Sector → List ℕ
root_page d = page_in (slice_get d 0)

-- the big-endian number of 2 bytes from byte i on
abbrev pub short_at : List ℕ → ℕ → ℕ
short_at page i = big_number 2 (drop i page)

-- the big-endian number of 4 bytes from byte i on
abbrev pub number_at : List ℕ → ℕ → ℕ
number_at page i = big_number 4 (drop i page)

-- the high half of the identifiers that the volume gives out
abbrev pub serial_of : List Sector → ℕ
serial_of d = number_at (root_page d) 16

-- the low half of the identifier that the volume gives out next
abbrev pub counter_of : List Sector → ℕ
counter_of d = number_at (root_page d) 20

-- what the root of a volume of n sectors has, clean or not
pub record IsRoot (n : ℕ) (sector : Option Sector) : Type 0 where
  pub accepted : IsCount n
  pub label : IsSomeAnd sector (λ s. IsTrue (names s.0 wanted_root))
  pub magic : slice_range (page_in sector) 0 8 ≡ codes "PILOTVOL"
  pub version : short_at (page_in sector) 8 ≡ 3
  pub flag : short_at (page_in sector) 10 ≤ 1
  pub count : number_at (page_in sector) 12 ≡ n
  pub serial : 1 ≤ number_at (page_in sector) 16
  pub counter : 1 ≤ number_at (page_in sector) 20
  pub rest : All (λ b. b ≡ 0) (drop 24 (page_in sector))

-- on a disk of n sectors, the labels of the sectors between root and data name the pages of the two maps
pub record HasMaps (n : ℕ) (d : List Sector) : Type 0 where
  pub allocation : (k : ℕ) → k < vam n → IsSomeAnd (slice_get d (1 + k)) (λ s. IsTrue (names s.0 (record { id = 1; page = k })))
  pub file_map : (k : ℕ) → k < vfm n → IsSomeAnd (slice_get d (1 + vam n + k)) (λ s. IsTrue (names s.0 (record { id = 2; page = k })))

-- The root is valid, the maps have their labels, and those of the files are right.
pub record RightFor (with_temporary : Bool) (d : List Sector) : Type 0 where
  pub has_root : IsRoot (length d) (slice_get d 0)
  pub has_maps : HasMaps (length d) d
  pub files : FilesRight with_temporary (serial_of d) (counter_of d) d

-- the labels of a volume's root, maps and permanent files are right
abbrev pub LabelsRight : List Sector → Type 0
LabelsRight d = RightFor false d
