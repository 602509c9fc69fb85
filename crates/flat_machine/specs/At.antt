-- What an address shows.
use Rattle.std.specs.Prelude.{ℕ, zero, suc, ◌+◌, ◌-◌, ◌/◌, ◌%◌, List, [], ◌∷◌, Option, option_map, option_and_then, slice_index_or, ◌==◌, if◌then◌else◌}
use Rattle.std.specs.Option.{option_map_or}
use Rattle.flat_machine.specs.File.{File, Cell, any, file_at}
use Rattle.flat_machine.specs.Space.{Space, Window, FilePage, mapped_at}
use Rattle.flat_machine.specs.Machine.{Machine}

-- the place of a cell: its file, its page in the file, and its offset in the page
pub record Spot : Type 0 where
  pub file : ℕ
  pub page : ℕ
  pub offset : ℕ

-- the file page that a window of the space shows at a page of the space
abbrev pub page_through : Space → Window → ℕ → FilePage
page_through s w page = record { file = w.file; page = w.first + (page - s.first) }

-- the file page that is shown at a page of the virtual memory
abbrev pub shown_at : List Space → ℕ → Option FilePage
shown_at spaces page = option_and_then (λ s. option_map (λ w. page_through s w page) s.window) (mapped_at spaces page)

-- the place that a byte address shows, by these spaces
abbrev pub spot_at : List Space → ℕ → Option Spot
spot_at spaces address = option_map (λ u. record { file = u.file; page = u.page; offset = address % 512 }) (shown_at spaces (address / 512))

-- the place that a byte address shows, if a window shows its page
abbrev pub at : Machine → ℕ → Option Spot
at m address = spot_at m.spaces address

-- the cell at a place; a place that no file has is any
abbrev pub cell_of : List File → Spot → Cell
cell_of files spot = option_map_or (λ f. slice_index_or (slice_index_or f.pages spot.page []) spot.offset any) (file_at files spot.file) any

-- the cell that a byte address shows
abbrev pub cell_at : Machine → ℕ → Cell
cell_at m address = option_map_or (cell_of m.files) (at m address) any

-- the cells of so many addresses in a row
abbrev pub cells_at : Machine → ℕ → ℕ → List Cell
cells_at m address zero = []
cells_at m address (suc n) = cell_at m address ∷ cells_at m (address + 1) n

-- two pages, or one where they are the same
abbrev pub one_or_two : ℕ → ℕ → List ℕ
one_or_two first last = if first == last then first ∷ [] else first ∷ last ∷ []

-- the pages that a reference of 1 to 512 bytes touches, in order
abbrev pub pages_of : ℕ → ℕ → List ℕ
pages_of address count = one_or_two (address / 512) ((address + count - 1) / 512)
