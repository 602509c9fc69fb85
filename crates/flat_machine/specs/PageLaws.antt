-- One page of the files, by identifier and number, and what the calls do to it.
use Rattle.std.specs.Prelude.{◌≡◌, ◌≢◌, ℕ, ◌+◌, ◌/◌, ◌%◌, ◌<◌, ◌==◌, nat_lt, List, length, Option, Some, None, option_map, option_and_then, unwrap_or, slice_get, if◌then◌else◌}
use Rattle.flat_machine.specs.declared.call.Call.TheVariants.{Create, Delete, SetSize, Kill, Store}
use Rattle.flat_machine.specs.File.{File, Page, file_at, zero_page, any_page}
use Rattle.flat_machine.specs.Space.{Space, space_at}
use Rattle.flat_machine.specs.Machine.{Machine}
use Rattle.flat_machine.specs.At.{Spot, shown_at, cell_of}
use Rattle.flat_machine.specs.Refusal.{refusal}
use Rattle.flat_machine.specs.Next.{next, new_id, is_writable_within}

-- the page of that number of the file of that identifier
abbrev pub page_of : List File → ℕ → ℕ → Option Page
page_of files id page = option_and_then (λ f. slice_get f.pages page) (file_at files id)

-- a new file has zero pages, and each page of another file stays
abbrev pub CreatedPages : Type 0
CreatedPages = (m : Machine) (pages kind id page : ℕ) → refusal m (Create pages kind) ≡ None
    → page_of (next m (Create pages kind)).files id page
    ≡ (if new_id m == id then (if nat_lt page pages then Some zero_page else None) else page_of m.files id page)

-- a deleted file has no page, and each page of another file stays
abbrev pub DeletedPages : Type 0
DeletedPages = (m : Machine) (gone id page : ℕ) → refusal m (Delete gone) ≡ None
    → page_of (next m (Delete gone)).files id page ≡ (if id == gone then None else page_of m.files id page)

-- a file of another size keeps its pages below it, and has zero pages after them; each page of another file stays
abbrev pub SizedPages : Type 0
SizedPages = (m : Machine) (sized pages id page : ℕ) → refusal m (SetSize sized pages) ≡ None
    → page_of (next m (SetSize sized pages)).files id page
    ≡ (if id == sized then (if nat_lt page pages then Some (unwrap_or (page_of m.files id page) zero_page) else None) else page_of m.files id page)

-- a page that a writable window shows in the range is any, and each other page stays
abbrev pub KilledPages : Type 0
KilledPages = (m : Machine) (handle : ℕ) (range : Space) (id page : ℕ) → space_at m.spaces handle ≡ Some range
    → page_of (next m (Kill handle)).files id page
    ≡ (if is_writable_within m.spaces range (record { file = id; page = page }) then option_map (λ p. any_page) (page_of m.files id page) else page_of m.files id page)

-- a page that no address of a store shows stays
abbrev pub StoredPages : Type 0
StoredPages = (m : Machine) (address : ℕ) (bytes : List ℕ) (id page : ℕ)
    → ((k : ℕ) → k < length bytes → shown_at m.spaces ((address + k) / 512) ≢ Some (record { file = id; page = page }))
    → page_of (next m (Store address bytes)).files id page ≡ page_of m.files id page

-- so does a cell at an offset that no address of the store has
abbrev pub StoredCells : Type 0
StoredCells = (m : Machine) (address : ℕ) (bytes : List ℕ) (spot : Spot)
    → ((k : ℕ) → k < length bytes → spot.offset ≢ (address + k) % 512)
    → cell_of (next m (Store address bytes)).files spot ≡ cell_of m.files spot
