-- Bytes that change in the sector of a home: a store in the page of a file.
use Rattle.std.specs.Prelude.{◌≡◌, ℕ, ◌+◌, ◌<◌, ◌≤◌, List, length, Some, slice_get}
use Rattle.std.specs.List.{AllByRecursion}
use Rattle.labelled_disk.specs.Sectors.{Sector}
use Rattle.labelled_disk.specs.File.{File, file_at}
use Rattle.labelled_disk.specs.Layout.{first_data}
use Rattle.frame_pool.specs.declared.home.Home.{Home}
use Rattle.flat_machine.specs.Machine.{Machine}
use Rattle.session_words.specs.Parts.{TablesMeaning}
use Rattle.session_words.specs.StandsFor.{IsFor}
use Rattle.swapper_kernel.specs.Differs.{ChangesAt}
use Rattle.session_words.specs.CellLaws.{StoresAt}

pub record ChangeLaws (spaces_of : TablesMeaning) : Type 0 where
  -- sectors with the labels of files are data sectors
  pub high : (x : List Sector) (m : Machine) (k : ℕ) (s : Sector) → IsFor spaces_of x m → slice_get x k ≡ Some s → 16 ≤ s.0.id → first_data (length x) ≤ k
  -- it is a store in the page of a file
  pub store : (x y : List Sector) (m : Machine) (home : Home) (f : File) (at : ℕ) (bytes : List ℕ) → IsFor spaces_of x m → file_at m.files home.id ≡ Some f
      → at + length bytes ≤ 512 → AllByRecursion (λ b. b < 256) bytes → ChangesAt home at bytes x y → StoresAt home.id home.page at bytes x y
