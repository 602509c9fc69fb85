-- When a call is refused, and with which word: the first of its tests that holds.
use Rattle.std.specs.Prelude.{ℕ, Bool, true, false, not, ◌&&◌, ◌||◌, ◌+◌, ◌-◌, ◌==◌, nat_le, nat_lt, List, [], ◌∷◌, length, Option, Some, None, is_none, option_map, option_and_then, if◌then◌else◌, find, filter, map}
use Rattle.std.specs.List.{list_any, list_all}
use Rattle.std.specs.Bool.{then_some}
use Rattle.std.specs.Option.{option_map_or}
use Rattle.flat_machine.specs.declared.call.Call.{Call}
use Rattle.flat_machine.specs.declared.call.Call.TheVariants.{Create, Delete, Attributes, SetSize, MakePermanent, MakeImmutable, Next, Volume, MakeSpace, RemoveSpace, Place, Units, Map, MapAnonymous, Unmap, Protect, Load, Store, Activate, Deactivate, Kill, ForceOut, Close, Halt}
use Rattle.flat_machine.specs.declared.call.Refusal.{Refusal}
use Rattle.flat_machine.specs.declared.call.Refusal.TheVariants as why
use Rattle.flat_machine.specs.File.{File, size, file_at}
use Rattle.flat_machine.specs.Space.{Space, Window, root_pages, end, overlap, space_at, is_child_of, is_mapped, is_writable, has_window, mapped_at}
use Rattle.flat_machine.specs.Machine.{Machine, used, nameable}
use Rattle.flat_machine.specs.At.{pages_of}

-- A test of a machine: the word it refuses with where it holds, else none.
abbrev pub Test : Type 0
Test = Option Refusal

-- the word of the first test that holds
abbrev pub first_of : List Test → Option Refusal
first_of [] = None
first_of (Some word ∷ tests) = Some word
first_of (None ∷ tests) = first_of tests

-- Tests of the volume and its files.

-- there is no room for so many pages and leaders more
abbrev pub no_room : Machine → ℕ → Test
no_room m wanted = then_some (nat_lt m.capacity (used m + wanted)) why.Full

-- all identifiers of the volume are given out
abbrev pub no_ids : Machine → Test
no_ids m = then_some (m.counter == 4294967295) why.Ids

-- no nameable file has the identifier
abbrev pub no_file : Machine → ℕ → Test
no_file m id = then_some (is_none (nameable m id)) why.File

-- a test of the file of that identifier
abbrev pub of_file : Machine → ℕ → (File → Test) → Test
of_file m id test = option_and_then test (file_at m.files id)

-- the file is immutable
abbrev pub is_immutable : Machine → ℕ → Test
is_immutable m id = of_file m id (λ f. then_some f.immutable why.Immutable)

-- there is no room for the file, if it has so many pages
abbrev pub no_room_as : Machine → ℕ → ℕ → Test
no_room_as m id pages = of_file m id (λ f. then_some (nat_lt m.capacity (used m + pages - size f)) why.Full)

-- the lowest handle of a space that passes the test
abbrev pub lowest_handle : (Space → Bool) → List Space → Option ℕ
lowest_handle test spaces = option_map (λ s. s.handle) (find test spaces)

-- a window that passes the test shows the file
abbrev pub file_mapped : Machine → ℕ → (Window → Bool) → Test
file_mapped m id test = option_map why.FileMapped (lowest_handle (has_window (λ w. w.file == id && test w)) m.spaces)

-- a window shows the file, which would lose pages
abbrev pub cut_while_mapped : Machine → ℕ → ℕ → Test
cut_while_mapped m id pages = of_file m id (λ f. if nat_lt pages (size f) then file_mapped m id (λ w. true) else None)

-- Tests of spaces, by their list alone.

-- no space has the handle
abbrev pub no_space : List Space → ℕ → Test
no_space spaces handle = then_some (is_none (space_at spaces handle)) why.Space

-- it is the root's handle
abbrev pub is_root : ℕ → Test
is_root handle = then_some (handle == 0) why.Root

-- a test of the space of that handle
abbrev pub of_space : List Space → ℕ → (Space → Test) → Test
of_space spaces handle test = option_and_then test (space_at spaces handle)

-- a space is to have no page
abbrev pub no_size : ℕ → Test
no_size pages = then_some (pages == 0) why.Size

-- a unit is to have no page, or more than 16
abbrev pub no_unit : ℕ → Test
no_unit pages = then_some (pages == 0 || nat_lt 16 pages) why.Size

-- there are 511 spaces beside the root
abbrev pub no_spaces : List Space → Test
no_spaces spaces = then_some (nat_lt 511 (length spaces)) why.Spaces

-- so many pages from the first one on are over no child of the parent
abbrev pub is_clear : List Space → Space → ℕ → ℕ → Bool
is_clear spaces parent pages first =
    list_all (λ s. not (is_child_of parent.handle s && overlap s (record parent { first = first; pages = pages }))) spaces

-- they lie inside the parent, and are over none of its children
abbrev pub fits : List Space → Space → ℕ → ℕ → Bool
fits spaces parent pages first =
    nat_le parent.first first && nat_le (first + pages) (end parent) && is_clear spaces parent pages first

-- the least number of a list
abbrev pub least : List ℕ → Option ℕ
least [] = None
least (n ∷ ns) = Some (option_map_or (λ k. if nat_lt k n then k else n) (least ns) n)

-- where a gap may begin: with the parent, or after a child
abbrev pub gap_starts : List Space → Space → List ℕ
gap_starts spaces parent = parent.first ∷ map end (filter (is_child_of parent.handle) spaces)

-- the start of the lowest gap of the parent that has so many pages
abbrev pub lowest_gap : List Space → Space → ℕ → Option ℕ
lowest_gap spaces parent pages = least (filter (fits spaces parent pages) (gap_starts spaces parent))

-- no gap of the parent has so many pages
abbrev pub no_gap : List Space → ℕ → ℕ → Test
no_gap spaces parent pages = of_space spaces parent (λ p. then_some (is_none (lowest_gap spaces p pages)) why.Gap)

-- so many pages from the first one on are not a free place inside the parent
abbrev pub out_of_range : List Space → ℕ → ℕ → ℕ → Test
out_of_range spaces parent pages first = of_space spaces parent (λ p. then_some (not (fits spaces p pages first)) why.Range)

-- a given place is out of range, or where none is given there is no gap
abbrev pub no_place : List Space → ℕ → ℕ → Option ℕ → Test
no_place spaces parent pages None = no_gap spaces parent pages
no_place spaces parent pages (Some first) = out_of_range spaces parent pages first

-- the space has children
abbrev pub has_children : List Space → ℕ → Test
has_children spaces handle = then_some (list_any (is_child_of handle) spaces) why.Children

-- the space itself is mapped
abbrev pub self_mapped : List Space → ℕ → Test
self_mapped spaces handle = of_space spaces handle (λ s. then_some (is_mapped s) (why.Mapped handle))

-- The space, one above it, or one below it is mapped: two spaces share a page exactly where one is the other or above it.
abbrev pub path_mapped : List Space → ℕ → Test
path_mapped spaces handle = of_space spaces handle (λ s. option_map why.Mapped (lowest_handle (λ t. is_mapped t && overlap s t) spaces))

-- the space itself is not mapped
abbrev pub not_mapped : List Space → ℕ → Test
not_mapped spaces handle = of_space spaces handle (λ s. then_some (not (is_mapped s)) why.NotMapped)

-- the space's window from that page of the file on would reach past the file's end
abbrev pub past_end : Machine → ℕ → ℕ → ℕ → Test
past_end m handle id page = of_space m.spaces handle (λ s. of_file m id (λ f. then_some (nat_lt (size f) (page + s.pages)) why.Window))

-- the space's window shows an immutable file
abbrev pub shows_immutable : Machine → ℕ → Test
shows_immutable m handle = of_space m.spaces handle (λ s. option_and_then (λ w. is_immutable m w.file) s.window)

-- there is no room for an anonymous file of the space's size
abbrev pub no_room_for_space : Machine → ℕ → Test
no_room_for_space m handle = of_space m.spaces handle (λ s. no_room m (s.pages + 1))

-- Tests of pages.

-- the page is none of the root space
abbrev pub past_root : ℕ → Test
past_root page = then_some (nat_le root_pages page) why.Range

-- the first page of the reference that no window shows
abbrev pub no_map : Machine → ℕ → ℕ → Test
no_map m address count = option_map why.NoMap (find (λ p. is_none (mapped_at m.spaces p)) (pages_of address count))

-- a window shows the page, and it is read-only
abbrev pub is_read_only : List Space → ℕ → Bool
is_read_only spaces page = option_map_or (λ s. not (is_writable s)) (mapped_at spaces page) false

-- the first page of the reference that is shown read-only
abbrev pub read_only : Machine → ℕ → ℕ → Test
read_only m address count = option_map why.ReadOnly (find (is_read_only m.spaces) (pages_of address count))

-- the tests of each call, in order
abbrev pub tests : Machine → Call → List Test
tests m (Create pages kind) = no_room m (pages + 1) ∷ no_ids m ∷ []
tests m (Delete id) = no_file m id ∷ file_mapped m id (λ w. true) ∷ []
tests m (Attributes id) = no_file m id ∷ []
tests m (SetSize id pages) = no_file m id ∷ is_immutable m id ∷ cut_while_mapped m id pages ∷ no_room_as m id pages ∷ []
tests m (MakePermanent id) = no_file m id ∷ []
tests m (MakeImmutable id) = no_file m id ∷ file_mapped m id (λ w. w.writable) ∷ []
tests m (Next id) = []
tests m Volume = []
tests m (MakeSpace parent pages first) = no_space m.spaces parent ∷ no_size pages ∷ no_spaces m.spaces ∷ no_place m.spaces parent pages first ∷ []
tests m (RemoveSpace space) = no_space m.spaces space ∷ is_root space ∷ has_children m.spaces space ∷ self_mapped m.spaces space ∷ []
tests m (Place page) = past_root page ∷ []
tests m (Units space pages) = no_space m.spaces space ∷ is_root space ∷ no_unit pages ∷ []
tests m (Map space id page writable) =
    no_space m.spaces space ∷ is_root space ∷ no_file m id ∷ path_mapped m.spaces space ∷ past_end m space id page
    ∷ (if writable then is_immutable m id else None) ∷ []
tests m (MapAnonymous space) = no_space m.spaces space ∷ is_root space ∷ path_mapped m.spaces space ∷ no_room_for_space m space ∷ no_ids m ∷ []
tests m (Unmap space) = no_space m.spaces space ∷ not_mapped m.spaces space ∷ []
tests m (Protect space writable) = no_space m.spaces space ∷ not_mapped m.spaces space ∷ (if writable then shows_immutable m space else None) ∷ []
tests m (Load address count) = no_map m address count ∷ []
tests m (Store address bytes) = no_map m address (length bytes) ∷ read_only m address (length bytes) ∷ []
tests m (Activate space) = no_space m.spaces space ∷ []
tests m (Deactivate space) = no_space m.spaces space ∷ []
tests m (Kill space) = no_space m.spaces space ∷ []
tests m (ForceOut space) = no_space m.spaces space ∷ []
tests m Close = []
tests m Halt = []

-- the word that the call is refused with, or none
abbrev pub refusal : Machine → Call → Option Refusal
refusal m call = first_of (tests m call)
