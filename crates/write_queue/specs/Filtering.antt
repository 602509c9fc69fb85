-- What a filter of sectors says.
use Rattle.std.specs.Prelude.{◌≡◌, ◌≢◌, ◌⊎◌, ℕ, ◌%◌, Bool, true, false, List, None, slice_index_or}
use Rattle.write_queue.specs.declared.entry.Entry.{Entry}
use Rattle.write_queue.specs.declared.filter.Filter.{Filter}
use Rattle.write_queue.specs.Entries.{waiting_at}
use Rattle.write_queue.specs.Finding.{Misses}

-- whether a sector may be one that was added
abbrev pub admits : Filter → ℕ → Bool
admits filter sector = slice_index_or filter.taken (sector % 512) false

-- a sector is admitted beside those before
abbrev pub Adds : ℕ → Filter → Filter → Type 0
Adds sector old new = (k : ℕ) → admits new k ≡ false → (k ≢ sector) × (admits old k ≡ false)

-- what is admitted no more is none of these sectors
abbrev pub Renews : List ℕ → Filter → Filter → Type 0
Renews sectors old new = (k : ℕ) → admits new k ≡ false → (admits old k ≡ false) ⊎ Misses k sectors

-- for a sector that is not admitted no page waits
abbrev pub AdmitsWaiting : Filter → List Entry → Type 0
AdmitsWaiting filter es = (k : ℕ) → admits filter k ≡ false → waiting_at es k ≡ None

-- where it is known to be free, no page waits for the head
abbrev pub IsFreeHead : Bool → ℕ → List Entry → Type 0
IsFreeHead free head es = free ≡ true → waiting_at es head ≡ None
