-- A new volume: what each of its sectors holds.
use Rattle.std.specs.Prelude.{◌≡◌, ◌⊎◌, ℕ, ◌≤◌, ◌++◌, length, take, ◌-◌, ◌*◌, min, true, ◌==◌, nat_le, nat_lt, if◌then◌else◌, Result, Err, List, [], ◌∷◌, map, replicate, slice_get, slice_index, slice_set}
use Rattle.std.specs.List.{range_with_len}
use Rattle.labelled_disk.specs.declared.disk.DiskWrite.{DiskWrite}
use Rattle.labelled_disk.specs.declared.disk.DiskWrite.TheVariants.{Whole}
use Rattle.labelled_disk.specs.declared.layout.Layout.{Layout}
use Rattle.labelled_disk.specs.declared.layout.RootFault.{RootFault}
use Rattle.labelled_disk.specs.declared.layout.RootFault.TheVariants as fault
use Rattle.labelled_disk.specs.Calls.{OnlyReads}
use Rattle.labelled_disk.specs.Layout.{IsCount, layout_of}
use Rattle.labelled_disk.specs.Root.{IsRoot}
use Rattle.labelled_disk.specs.Sectors.{Sector, zero_sector}
use Rattle.labelled_disk.specs.State.{DiskState}
use Rattle.labelled_disk.specs.WriteRuns.{Appended}
use Rattle.volume_root.specs.declared.root.Root.{Root}
use Rattle.volume_root.specs.RootPage.{root_bytes, root_write}
use Rattle.labelled_disk.specs.Label.{root_label, page_label}

-- the byte whose first bits, so many, are set
abbrev pub high_bits : ℕ → ℕ
high_bits bits = slice_index (0 ∷ 128 ∷ 192 ∷ 224 ∷ 240 ∷ 248 ∷ 252 ∷ 254 ∷ 255 ∷ []) bits

-- byte k of an allocation map on which the first sectors, so many, are used, and no others
abbrev pub used_byte : ℕ → ℕ → ℕ
used_byte used k = high_bits (min 8 (used - 8 * k))

-- a page of that map
unfoldable pub used_page : ℕ → ℕ → List ℕ
used_page used page = map (used_byte used) (range_with_len (512 * page) 512)

-- sector i of a new volume, which has no root yet
unfoldable pub new_sector : Layout → ℕ → Sector
new_sector layout i =
    if i == 0 then zero_sector
    else (if nat_le i layout.vam then (page_label 1 0 (i - 1), used_page layout.first (i - 1))
    else (if nat_lt i layout.first then (page_label 2 0 (i - 1 - layout.vam), replicate 512 0)
    else zero_sector))

-- the sectors of a new volume, from sector 0 on, so many
abbrev pub new_sectors : Layout → ℕ → List Sector
new_sectors layout k = map (new_sector layout) (range_with_len 0 k)

-- the root of a new volume of n sectors: it is clean
abbrev pub new_root : ℕ → ℕ → ℕ → Root
new_root n serial counter = record { version = 3; clean = true; sectors = n; serial = serial; counter = counter }

-- a new volume of n sectors
abbrev pub formatted : ℕ → ℕ → ℕ → List Sector
formatted n serial counter = slice_set (new_sectors (layout_of n) n) 0 (root_label, root_bytes (new_root n serial counter))

-- the writes of sectors of a new volume, so many, ascending from this one on
abbrev pub sector_writes : Layout → ℕ → ℕ → List DiskWrite
sector_writes layout from count = map (λ i. Whole i (new_sector layout i).0 (new_sector layout i).1) (range_with_len from count)

-- from sector 0 on
abbrev pub new_writes : Layout → ℕ → List DiskWrite
new_writes layout k = sector_writes layout 0 k

-- the writes that make a volume: each sector, ascending, sector 0 as a free one; then the root
abbrev pub volume_writes : Layout → Root → List DiskWrite
volume_writes layout root = new_writes layout layout.sectors ++ root_write root ∷ []

-- those that make a new volume of n sectors
abbrev pub format_writes : ℕ → ℕ → ℕ → List DiskWrite
format_writes n serial counter = volume_writes (layout_of n) (new_root n serial counter)

-- the first of these writes were made, so many, and no others
abbrev pub PartMade : List DiskWrite → DiskState → DiskState → Type 0
PartMade writes old new = (k : ℕ) × (k ≤ length writes) × Appended (take k writes) old new

-- no volume can be made: the disk failed, or has a count of sectors that no volume has
abbrev pub IsFormatFault : RootFault → Type 0
IsFormatFault fault.Disk = Unit {0}
IsFormatFault (fault.BadCount n) = Unit {0}
IsFormatFault why = ⊥

-- a count of sectors that no volume has is refused, and no other count is; nothing is written then
pub record JudgesCount {T : Type 0} (old new : DiskState) (result : Result T RootFault) : Type 0 where
  pub refused : ¬ IsCount old.sectors → result ≡ Err (fault.BadCount old.sectors)
  pub bad_count : (n : ℕ) → result ≡ Err (fault.BadCount n) → ¬ IsCount old.sectors × (n ≡ old.sectors)
  pub unwritten : ¬ IsCount old.sectors → OnlyReads old new

-- no root that is accepted stands there, or it is the new volume
abbrev pub IsNoneOrNew : ℕ → ℕ → ℕ → List Sector → Type 0
IsNoneOrNew n serial counter e = (¬ IsRoot n (slice_get e 0)) ⊎ (e ≡ formatted n serial counter)
