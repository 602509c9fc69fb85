-- The machine after a call.
use Rattle.std.specs.Prelude.{ℕ, Bool, true, false, not, ◌&&◌, ◌+◌, ◌-◌, ◌*◌, ◌^◌, ◌==◌, nat_lt, min, List, [], ◌∷◌, ◌++◌, length, map, filter, take, replicate, Option, Some, None, is_none, option_map, unwrap_or, if◌then◌else◌, slice_index_or, slice_set, fold}
use Rattle.std.specs.List.{list_any, enumerate_from}
use Rattle.std.specs.Option.{option_map_or}
use Rattle.flat_machine.specs.declared.call.Call.{Call}
use Rattle.flat_machine.specs.declared.call.Call.TheVariants.{Create, Delete, Attributes, SetSize, MakePermanent, MakeImmutable, Next, Volume, MakeSpace, RemoveSpace, Place, Units, Map, MapAnonymous, Unmap, Protect, Load, Store, Activate, Deactivate, Kill, ForceOut, Close, Halt}
use Rattle.flat_machine.specs.File.{File, Page, zero_page, any_page, byte, size, put_file}
use Rattle.flat_machine.specs.Space.{Space, Window, FilePage, root, space_at, holds, has_window, is_writable, shows}
use Rattle.flat_machine.specs.Machine.{Machine}
use Rattle.flat_machine.specs.At.{Spot, spot_at, shown_at, pages_of}
use Rattle.flat_machine.specs.Refusal.{refusal, least, lowest_gap}

-- Changes of the files.

-- the next identifier that the volume gives out
abbrev pub new_id : Machine → ℕ
new_id m = m.serial * 2 ^ 32 + m.counter

-- a temporary, mutable file of so many zero pages
abbrev pub new_file : Machine → ℕ → ℕ → File
new_file m pages kind = record { id = new_id m; kind = kind; permanent = false; immutable = false; pages = replicate pages zero_page }

-- the new file stands among the others, and its identifier is given out
abbrev pub with_new_file : Machine → ℕ → ℕ → Machine
with_new_file m pages kind = record m { files = put_file (new_file m pages kind) m.files; counter = m.counter + 1 }

-- the file of that identifier is changed
abbrev pub change_file : ℕ → (File → File) → List File → List File
change_file id change files = map (λ f. if f.id == id then change f else f) files

-- all files but that one
abbrev pub without_file : ℕ → List File → List File
without_file id files = filter (λ f. not (f.id == id)) files

-- cut to so many pages, or with zero pages appended
abbrev pub resized : ℕ → File → File
resized pages f = record f { pages = take pages f.pages ++ replicate (pages - size f) zero_page }

-- Changes of the spaces.

-- into ascending handles
abbrev pub put_space : Space → List Space → List Space
put_space space [] = space ∷ []
put_space space (s ∷ ss) = if nat_lt space.handle s.handle then space ∷ s ∷ ss else s ∷ put_space space ss

-- the space of that handle is changed
abbrev pub change_space : ℕ → (Space → Space) → List Space → List Space
change_space handle change spaces = map (λ s. if s.handle == handle then change s else s) spaces

-- all spaces but that one
abbrev pub without_space : ℕ → List Space → List Space
without_space handle spaces = filter (λ s. not (s.handle == handle)) spaces

-- no space has the handle
abbrev pub is_unused : List Space → ℕ → Bool
is_unused spaces handle = not (list_any (λ s. s.handle == handle) spaces)

-- the lowest unused handle from 1 on: it is one above a used one
abbrev pub lowest_unused : List Space → ℕ
lowest_unused spaces = unwrap_or (least (filter (is_unused spaces) (map (λ s. s.handle + 1) spaces))) 0

-- the given first page, or the start of the parent's lowest gap that is long enough
abbrev pub first_page_for : List Space → ℕ → ℕ → Option ℕ → ℕ
first_page_for spaces parent pages (Some first) = first
first_page_for spaces parent pages None = option_map_or (λ p. unwrap_or (lowest_gap spaces p pages) 0) (space_at spaces parent) 0

-- the space that a call for one makes
abbrev pub new_space : List Space → ℕ → ℕ → Option ℕ → Space
new_space spaces parent pages first = record {
  handle = lowest_unused spaces;
  parent = parent;
  first = first_page_for spaces parent pages first;
  pages = pages;
  unit = min pages 16;
  window = None;
}

-- the space of that handle has the window
abbrev pub set_window : ℕ → Option Window → List Space → List Space
set_window handle window spaces = change_space handle (λ s. record s { window = window }) spaces

-- the window is writable, or it is read-only
abbrev pub with_mode : Bool → Window → Window
with_mode writable window = record window { writable = writable }

-- the window of the space of that handle is writable, or it is read-only
abbrev pub set_mode : ℕ → Bool → List Space → List Space
set_mode handle writable spaces = change_space handle (λ s. record s { window = option_map (with_mode writable) s.window }) spaces

-- a change at the space of that handle, if there is one
abbrev pub at_space : Machine → ℕ → (Space → Machine) → Machine
at_space m handle change = option_map_or change (space_at m.spaces handle) m

-- Unforced pages.

-- they are the same file page
abbrev pub is_same_page : FilePage → FilePage → Bool
is_same_page u v = u.file == v.file && u.page == v.page

-- the page is unforced too
abbrev pub mark : FilePage → List FilePage → List FilePage
mark u unforced = if list_any (is_same_page u) unforced then unforced else unforced ++ u ∷ []

-- the file page that is shown at a page of the virtual memory is unforced
abbrev pub mark_page : List Space → List FilePage → ℕ → List FilePage
mark_page spaces unforced page = option_map_or (λ u. mark u unforced) (shown_at spaces page) unforced

-- without the pages that the space's window shows
abbrev pub without_window_of : Space → List FilePage → List FilePage
without_window_of space unforced = filter (λ u. not (shows u.file u.page space)) unforced

-- the space s shows the file page at a page of the range
abbrev pub shows_within : Space → FilePage → Space → Bool
shows_within range u s = has_window (λ w. shows u.file u.page s && holds range (s.first + (u.page - w.first))) s

-- some space shows the file page at a page of the range
abbrev pub is_shown_within : List Space → Space → FilePage → Bool
is_shown_within spaces range u = list_any (shows_within range u) spaces

-- some writable window shows the file page at a page of the range
abbrev pub is_writable_within : List Space → Space → FilePage → Bool
is_writable_within spaces range u = list_any (λ s. is_writable s && shows_within range u s) spaces

-- without the pages that are shown in the range
abbrev pub without_shown_within : List Space → Space → List FilePage → List FilePage
without_shown_within spaces range unforced = filter (λ u. not (is_shown_within spaces range u)) unforced

-- Changes of cells.

-- the file with that byte at that place
abbrev pub with_byte : Spot → ℕ → File → File
with_byte spot b f = record f { pages = slice_set f.pages spot.page (slice_set (slice_index_or f.pages spot.page []) spot.offset (byte b)) }

-- the cell of the address is the byte
abbrev pub store_byte : List Space → ℕ → ℕ → List File → List File
store_byte spaces address b files = option_map_or (λ spot. change_file spot.file (with_byte spot b) files) (spot_at spaces address) files

-- the cells of the addresses in a row are the bytes
abbrev pub store_bytes : List Space → ℕ → List ℕ → List File → List File
store_bytes spaces address [] files = files
store_bytes spaces address (b ∷ bs) files = store_bytes spaces (address + 1) bs (store_byte spaces address b files)

-- the pages that pass the test become any
abbrev pub with_any : (ℕ → Bool) → List Page → List Page
with_any test pages = map (λ e. if test e.0 then any_page else e.1) (enumerate_from 0 pages)

-- each page that a writable window shows at a page of the range is any
abbrev pub killed_file : List Space → Space → File → File
killed_file spaces range f = record f { pages = with_any (λ page. is_writable_within spaces range (record { file = f.id; page = page })) f.pages }

-- Changes of the machine.

-- an anonymous file goes with its window
abbrev pub without_anonymous : Window → List File → List File
without_anonymous w files = if w.anonymous then without_file w.file files else files

-- the window of the space goes, and its pages are forced
abbrev pub unmapped : Machine → Space → Machine
unmapped m space = record m {
  files = option_map_or (λ w. without_anonymous w m.files) space.window m.files;
  spaces = set_window space.handle None m.spaces;
  unforced = without_window_of space m.unforced;
}

-- the space shows a new anonymous file of its own size
abbrev pub mapped_anonymous : Machine → Space → Machine
mapped_anonymous m space = record (with_new_file m space.pages 0) {
  spaces = set_window space.handle (Some (record { file = new_id m; first = 0; writable = true; anonymous = true })) m.spaces;
}

-- the window of the space is writable; or it is read-only, and its pages are forced
abbrev pub protected : Machine → Bool → Space → Machine
protected m writable space = record m {
  spaces = set_mode space.handle writable m.spaces;
  unforced = if writable then m.unforced else without_window_of space m.unforced;
}

-- what an unrefused call changes
abbrev pub change : Machine → Call → Machine
change m (Create pages kind) = with_new_file m pages kind
change m (Delete id) = record m { files = without_file id m.files }
change m (Attributes id) = m
change m (SetSize id pages) = record m { files = change_file id (resized pages) m.files }
change m (MakePermanent id) = record m { files = change_file id (λ f. record f { permanent = true }) m.files }
change m (MakeImmutable id) = record m { files = change_file id (λ f. record f { immutable = true }) m.files }
change m (Next id) = m
change m Volume = m
change m (MakeSpace parent pages first) = record m { spaces = put_space (new_space m.spaces parent pages first) m.spaces }
change m (RemoveSpace space) = record m { spaces = without_space space m.spaces }
change m (Place page) = m
change m (Units space pages) = record m { spaces = change_space space (λ s. record s { unit = pages }) m.spaces }
change m (Map space id page writable) =
    record m { spaces = set_window space (Some (record { file = id; first = page; writable = writable; anonymous = false })) m.spaces }
change m (MapAnonymous space) = at_space m space (mapped_anonymous m)
change m (Unmap space) = at_space m space (unmapped m)
change m (Protect space writable) = at_space m space (protected m writable)
change m (Load address count) = m
change m (Store address bytes) = record m {
  files = store_bytes m.spaces address bytes m.files;
  unforced = fold (mark_page m.spaces) m.unforced (pages_of address (length bytes));
}
change m (Activate space) = m
change m (Deactivate space) = m
change m (Kill space) = at_space m space (λ s. record m { files = map (killed_file m.spaces s) m.files })
change m (ForceOut space) = at_space m space (λ s. record m { unforced = without_shown_within m.spaces s m.unforced })
change m Close = record m { files = filter (λ f. f.permanent) m.files; spaces = root ∷ []; unforced = [] }
change m Halt = m

-- a refused call changes nothing
abbrev pub next : Machine → Call → Machine
next m call = if is_none (refusal m call) then change m call else m
