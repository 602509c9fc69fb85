-- The machine of files and spaces, and what holds of its parts.
use Rattle.std.specs.Prelude.{ℕ, zero, suc, Bool, ◌&&◌, ◌≡◌, ◌≢◌, ◌+◌, ◌/◌, ◌%◌, ◌^◌, ◌<◌, ◌≤◌, ◌==◌, if◌then◌else◌, List, Option, None, length, IsTrue, IsFalse, IfSome, IsSomeAnd}
use Rattle.std.specs.List.{list_any, AllByRecursion}
use Rattle.std.specs.Option.{option_map_or}
pub use Rattle.labelled_disk.specs.Ascending.{IsAscending, AreAscending}
use Rattle.flat_machine.specs.File.{File, Cell, size, file_at, total_room}
use Rattle.flat_machine.specs.Space.{Space, Window, FilePage, end, space_at, is_child_of, is_writable, has_window, shows}

-- Files in ascending identifiers; spaces in ascending handles, the root first; the numbers that new identifiers are made of;
-- how many sectors files may have; and the pages that were stored to and not forced since.
pub record Machine : Type 0 where
  pub files : List File
  pub spaces : List Space
  pub serial : ℕ
  pub counter : ℕ
  pub capacity : ℕ
  pub unforced : List FilePage

-- the pages of all files, and one more for each file
abbrev pub used : Machine → ℕ
used m = total_room m.files

-- an anonymous window shows the file
abbrev pub is_anonymous : List Space → ℕ → Bool
is_anonymous spaces id = list_any (has_window (λ w. w.anonymous && w.file == id)) spaces

-- the file of that identifier, unless it is anonymous
abbrev pub nameable : Machine → ℕ → Option File
nameable m id = if is_anonymous m.spaces id then None else file_at m.files id

-- What holds of every machine.

-- the identifiers that a file may have, of 64 bits: one with the volume's own serial has a counter that was given out
pub record IsFileId (serial counter id : ℕ) : Type 0 where
  pub above_reserved : 16 ≤ id
  pub fits : id < 2 ^ 64
  pub low_half : id % 2 ^ 32 ≢ 4294967295
  pub given_out : id / 2 ^ 32 ≡ serial → id % 2 ^ 32 < counter

-- a cell that is a byte is below 256
abbrev pub IsByteOrAny : Cell → Type 0
IsByteOrAny cell = IfSome cell (λ b. b < 256)

-- the type is a 16-bit number, and each page is 512 cells
pub record IsFile (file : File) : Type 0 where
  pub kind_fits : file.kind < 65536
  pub whole_pages : AllByRecursion (λ page. length page ≡ 512) file.pages
  pub cells : AllByRecursion (AllByRecursion IsByteOrAny) file.pages

-- the parent's parent's .. parent, so many steps up; the root's is the root
abbrev pub ancestor : List Space → ℕ → ℕ → ℕ
ancestor spaces zero handle = handle
ancestor spaces (suc steps) handle = ancestor spaces steps (option_map_or (λ s. s.parent) (space_at spaces handle) 0)

-- a space, which may be the root, among all: it lies inside its parent, and its parents lead to the root
pub record IsSpace (spaces : List Space) (space : Space) : Type 0 where
  pub handle_fits : space.handle ≤ 511
  pub not_empty : 1 ≤ space.pages
  pub unit_fits : (1 ≤ space.unit) × (space.unit ≤ 16)
  pub inside_parent : IsSomeAnd (space_at spaces space.parent) (λ p. (p.first ≤ space.first) × (end space ≤ end p))
  pub leads_to_root : (steps : ℕ) × (ancestor spaces steps space.handle ≡ 0)

-- R holds of every two different spaces, both ways round
abbrev pub EachTwo : (Space → Space → Type 0) → List Space → Type 0
EachTwo R spaces = AllByRecursion (λ s. AllByRecursion (λ t. s.handle ≢ t.handle → R s t) spaces) spaces

-- they have one parent
abbrev pub are_siblings : Space → Space → Bool
are_siblings s t = is_child_of s.parent s && is_child_of s.parent t

-- the window of a space of so many pages lies inside its file, and is one that the file allows
pub record IsWindow (files : List File) (pages : ℕ) (window : Window) : Type 0 where
  pub inside_file : IsSomeAnd (file_at files window.file) (λ f. window.first + pages ≤ size f)
  pub writable_mutable : IsTrue window.writable → IfSome (file_at files window.file) (λ f. IsFalse f.immutable)
  pub anonymous_temporary : IsTrue window.anonymous → IfSome (file_at files window.file) (λ f. IsFalse f.permanent)

-- the first space has an anonymous window, and the second shows its file too
abbrev pub shares_anonymous : Space → Space → Bool
shares_anonymous s t = has_window (λ w. w.anonymous && has_window (λ v. v.file == w.file) t) s

-- some writable window shows the page
abbrev pub is_shown_writable : List Space → FilePage → Bool
is_shown_writable spaces u = list_any (λ s. is_writable s && shows u.file u.page s) spaces
