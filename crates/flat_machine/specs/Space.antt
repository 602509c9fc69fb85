-- Spaces, their windows, and what stands at a page of the virtual memory.
use Rattle.std.specs.Prelude.{ℕ, Bool, false, not, ◌&&◌, ◌+◌, ◌==◌, nat_le, nat_lt, List, Option, None, is_some, find}
use Rattle.std.specs.Option.{option_map_or}
use Rattle.std.specs.List.{list_any}
-- a window: which file it shows, from which of its pages on, whether it is writable, and whether it is anonymous
pub use Rattle.flat_machine.specs.declared.space.Window.{Window}
-- a space: its handle, its parent's handle, its first page, its number of pages, its unit size, and a window or none
pub use Rattle.flat_machine.specs.declared.space.Space.{Space}
-- a page of a file: the file's identifier and the page's number
pub use Rattle.flat_machine.specs.declared.space.FilePage.{FilePage}

-- the pages of the root space; the pages from here on are the system region
abbrev pub root_pages : ℕ
root_pages = 8126464

-- the space that every other lies in; it is its own parent
abbrev pub root : Space
root = record { handle = 0; parent = 0; first = 0; pages = root_pages; unit = 16; window = None }

-- the first page after a space
abbrev pub end : Space → ℕ
end space = space.first + space.pages

-- the page is one of the space's
abbrev pub holds : Space → ℕ → Bool
holds space page = nat_le space.first page && nat_lt page (end space)

-- some page is in both spaces
abbrev pub overlap : Space → Space → Bool
overlap s t = nat_lt s.first (end t) && nat_lt t.first (end s)

-- the space of that handle
abbrev pub space_at : List Space → ℕ → Option Space
space_at spaces handle = find (λ s. s.handle == handle) spaces

-- the space has that parent; the root is nobody's child
abbrev pub is_child_of : ℕ → Space → Bool
is_child_of parent space = not (space.handle == 0) && space.parent == parent

-- the space has a window
abbrev pub is_mapped : Space → Bool
is_mapped space = is_some space.window

-- the space has a window, and the window passes the test
abbrev pub has_window : (Window → Bool) → Space → Bool
has_window test space = option_map_or test space.window false

-- the space has a writable window
abbrev pub is_writable : Space → Bool
is_writable space = has_window (λ w. w.writable) space

-- the space's window shows this page of this file
abbrev pub shows : ℕ → ℕ → Space → Bool
shows file page space = has_window (λ w. w.file == file && nat_le w.first page && nat_lt page (w.first + space.pages)) space

-- the space that holds the page, and has no child that holds it
abbrev pub innermost : List Space → ℕ → Option Space
innermost spaces page = find (λ s. holds s page && not (list_any (λ t. is_child_of s.handle t && holds t page) spaces)) spaces

-- the mapped space that holds the page
abbrev pub mapped_at : List Space → ℕ → Option Space
mapped_at spaces page = find (λ s. is_mapped s && holds s page) spaces
