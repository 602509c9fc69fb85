-- Pages of a file that stand in sectors in a row, and the record of 24 bytes that says so.
use Rattle.std.specs.Prelude.{◌≡◌, ◌⊎◌, ℕ, ◌+◌, ◌-◌, ◌^◌, ◌<◌, ◌≤◌, Bool, ◌&&◌, ◌==◌, nat_le, nat_lt, List, [], ◌∷◌, ◌++◌, slice_range}
use Rattle.std.specs.Int.{w32, w64, to_be_bytes, from_be_bytes}
use Rattle.labelled_disk.specs.Layout.{first_data}
use Rattle.file_map.specs.declared.run.Run.{Run}

-- the run may be one of a volume of n sectors: its file is one of a client's or that of the space tables,
-- its last page is at most 4,294,967,295, and its sectors are data sectors
pub record IsRun (n : ℕ) (r : Run) : Type 0 where
  pub of_file : (r.id ≡ 3) ⊎ (16 ≤ r.id)
  pub id_fits : r.id < 2 ^ 64
  pub some : 1 ≤ r.pages
  pub pages_fit : r.first + r.pages ≤ 2 ^ 32
  pub from_data : first_data n ≤ r.sector
  pub inside : r.sector + r.pages ≤ n

-- the run has this page of this file
abbrev pub holds : Run → ℕ → ℕ → Bool
holds r id page = (r.id == id) && (nat_le r.first page && nat_lt page (r.first + r.pages))

-- and in this sector
abbrev pub sector_at : Run → ℕ → ℕ
sector_at r page = r.sector + (page - r.first)

-- the key of a page: the identifier, then the page, big-endian
unfoldable pub key_bytes : ℕ → ℕ → List ℕ
key_bytes id page = to_be_bytes w64 id ++ to_be_bytes w32 page

-- the record: bytes 0 to 7 the identifier, 8 to 11 the first page, 12 to 15 how many pages, 16 to 19 the first sector, all
-- big-endian; then four zeros
unfoldable pub run_bytes : Run → List ℕ
run_bytes r = to_be_bytes w64 r.id ++ to_be_bytes w32 r.first ++ to_be_bytes w32 r.pages ++ to_be_bytes w32 r.sector ++ 0 ∷ 0 ∷ 0 ∷ 0 ∷ []

-- the run that a record reveals
unfoldable pub run_in : List ℕ → Run
run_in bytes = record {
  id = from_be_bytes w64 (slice_range bytes 0 8);
  first = from_be_bytes w32 (slice_range bytes 8 12);
  pages = from_be_bytes w32 (slice_range bytes 12 16);
  sector = from_be_bytes w32 (slice_range bytes 16 20);
}

-- the bytes are the record of a run of a volume of n sectors
pub record IsRecord (n : ℕ) (bytes : List ℕ) : Type 0 where
  pub form : IsRun n (run_in bytes)
  pub same : bytes ≡ run_bytes (run_in bytes)
