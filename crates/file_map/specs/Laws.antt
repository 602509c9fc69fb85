-- How many records a map has where each sector is named for one page alone.
use Rattle.std.specs.Prelude.{◌≡◌, ℕ, ◌-◌, ◌≤◌, Bool, true}
use Rattle.std.specs.List.{range_with_len, count_by}
use Rattle.labelled_disk.specs.Layout.{first_data}
use Rattle.file_map.specs.FileMap.{Triples}

-- no sector is named for two pages
abbrev pub AreOnce : Triples → Type 0
AreOnce named = (id page other number sector : ℕ) → named id page sector ≡ true → named other number sector ≡ true → (id ≡ other) × (page ≡ number)

-- the sectors that are named pass this test
abbrev pub AreAmong : Triples → (ℕ → Bool) → Type 0
AreAmong named used = (id page sector : ℕ) → named id page sector ≡ true → used sector ≡ true

-- how many data sectors of a volume of n pass it
abbrev pub data_count : ℕ → (ℕ → Bool) → ℕ
data_count n used = count_by used (range_with_len (first_data n) (n - first_data n))

-- so many records there are at most
abbrev pub AreFew : ℕ → Triples → ℕ → Type 0
AreFew n named count = (used : ℕ → Bool) → AreOnce named → AreAmong named used → count ≤ data_count n used
