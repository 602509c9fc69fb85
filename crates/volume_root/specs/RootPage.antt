-- The page of a root, and the order in which it is judged.
use Rattle.byteorder.specs.Endian.{big_bytes}
use Rattle.std.specs.Prelude.{◌≡◌, ℕ, ◌+◌, ◌≤◌, ◌++◌, replicate, Bool, not, ◌&&◌, ◌==◌, nat_lt, if◌then◌else◌, List, [], ◌∷◌, drop, codes, Option, Some, None, option_map, Result, Ok, Err, slice_range}
use Rattle.std.specs.Bool.{then_some}
use Rattle.std.specs.Str.{bytes_eq}
use Rattle.std.specs.Option.{option_map_or}
use Rattle.labelled_disk.specs.declared.disk.DiskWrite.{DiskWrite}
use Rattle.labelled_disk.specs.declared.disk.DiskWrite.TheVariants.{Whole}
use Rattle.labelled_disk.specs.declared.label.Label.{Label}
use Rattle.labelled_disk.specs.declared.layout.RootFault.{RootFault}
use Rattle.labelled_disk.specs.declared.layout.RootFault.TheVariants as fault
use Rattle.labelled_disk.specs.declared.layout.Difference.TheVariants as difference
use Rattle.labelled_disk.specs.Label.{names, root_label, wanted_root}
use Rattle.labelled_disk.specs.Sectors.{Sector}
use Rattle.labelled_disk.specs.Layout.{IsCount}
use Rattle.labelled_disk.specs.Root.{short_at, number_at}
use Rattle.volume_root.specs.declared.root.Root.{Root}

-- the page begins with the text of all roots
abbrev pub has_magic : List ℕ → Bool
has_magic page = bytes_eq (slice_range page 0 8) (codes "PILOTVOL")

-- the place of the first byte that is not 0, counted on from i
abbrev pub first_from : ℕ → List ℕ → Option ℕ
first_from i [] = None
first_from i (b ∷ bs) = if b == 0 then first_from (i + 1) bs else Some i

-- the place of the first byte after the fields that is not 0
abbrev pub first_rest : List ℕ → Option ℕ
first_rest page = first_from 24 (drop 24 page)

-- the fields of a root's page
abbrev pub root_in : List ℕ → Root
root_in page = record {
  version = short_at page 8;
  clean = short_at page 10 == 1;
  sectors = number_at page 12;
  serial = number_at page 16;
  counter = number_at page 20;
}

-- a test of a root: why it is refused where the test fails, else none
abbrev pub Test : Type 0
Test = Option RootFault

-- the first test that fails
abbrev pub first_of : List Test → Test
first_of [] = None
first_of (Some why ∷ tests) = Some why
first_of (None ∷ tests) = first_of tests

-- the label names the root
abbrev pub is_labelled : Label → Test
is_labelled label = then_some (not (names label wanted_root)) (fault.NotVolume difference.Label)

-- the page begins with the magic text
abbrev pub is_magic : List ℕ → Test
is_magic page = then_some (not (has_magic page)) (fault.NotVolume difference.Magic)

-- the version is 3
abbrev pub is_version : List ℕ → Test
is_version page = then_some (not (short_at page 8 == 3)) (fault.Version (short_at page 8))

-- the count of sectors is the disk's
abbrev pub is_counted : ℕ → List ℕ → Test
is_counted n page = then_some (not (number_at page 12 == n)) (fault.NotVolume (difference.Count (number_at page 12)))

-- the serial is not 0
abbrev pub has_serial : List ℕ → Test
has_serial page = then_some (number_at page 16 == 0) (fault.NotVolume difference.Serial)

-- the counter is not 0
abbrev pub has_counter : List ℕ → Test
has_counter page = then_some (number_at page 20 == 0) (fault.NotVolume difference.Counter)

-- the clean flag is 0 or 1
abbrev pub is_flagged : List ℕ → Test
is_flagged page = then_some (nat_lt 1 (short_at page 10)) (fault.NotVolume (difference.Flag (short_at page 10)))

-- the bytes after the fields are 0
abbrev pub is_rest : List ℕ → Test
is_rest page = option_map (λ i. fault.NotVolume (difference.Rest i)) (first_rest page)

-- the volume was closed, if that is asked
abbrev pub is_closed : Bool → List ℕ → Test
is_closed clean_only page = then_some (clean_only && short_at page 10 == 0) fault.Unclean

-- the tests of a root on a disk of n sectors, in order, among them this one of its version
abbrev pub tests_by : Test → Bool → ℕ → Label → List ℕ → List Test
tests_by version clean_only n label page =
    is_labelled label ∷ is_magic page ∷ version ∷ is_counted n page ∷ has_serial page ∷ has_counter page ∷ is_flagged page ∷ is_rest page ∷ is_closed clean_only page ∷ []

-- the root that a sector 0 has by these tests, or why it has none
abbrev pub judged_by : Test → Bool → ℕ → Sector → Result Root RootFault
judged_by version clean_only n s = option_map_or Err (first_of (tests_by version clean_only n s.0 s.1)) (Ok (root_in s.1))

-- a root of version 3
abbrev pub tests : Bool → ℕ → Label → List ℕ → List Test
tests clean_only n label page = tests_by (is_version page) clean_only n label page

abbrev pub judged : Bool → ℕ → Sector → Result Root RootFault
judged clean_only n s = judged_by (is_version s.1) clean_only n s

-- the answer is this one, unless the disk failed
abbrev pub IsUnlessFault : Result Root RootFault → Result Root RootFault → Type 0
IsUnlessFault (Err fault.Disk) right = Unit {0}
IsUnlessFault result right = result ≡ right

-- the last fields of a root, from the count of sectors on
abbrev pub number_bytes : Root → List ℕ
number_bytes root = big_bytes 4 root.sectors ++ big_bytes 4 root.serial ++ big_bytes 4 root.counter

-- the text that all roots begin with, and the fields after it
abbrev pub root_fields : Root → List ℕ
root_fields root = codes "PILOTVOL" ++ big_bytes 2 root.version ++ big_bytes 2 (if root.clean then 1 else 0) ++ number_bytes root

-- the page of a root
abbrev pub root_bytes : Root → List ℕ
root_bytes root = root_fields root ++ replicate 488 0

-- the write of this root
abbrev pub root_write : Root → DiskWrite
root_write root = Whole 0 root_label (root_bytes root)

-- the root of a volume of n sectors may have these fields
pub record IsValidRoot (n : ℕ) (root : Root) : Type 0 where
  pub version : root.version ≡ 3
  pub accepted : IsCount n
  pub count : root.sectors ≡ n
  pub serial : 1 ≤ root.serial
  pub counter : 1 ≤ root.counter
