-- Files and their cells.
use Rattle.std.specs.Prelude.{ℕ, ◌+◌, ◌==◌, Bool, List, Option, Some, None, find, length, replicate, sum_by}

-- a byte, or the mark "any": such a cell may be any byte, at each load anew
abbrev pub Cell : Type 0
Cell = Option ℕ

abbrev pub byte : ℕ → Cell
byte b = Some b

abbrev pub any : Cell
any = None

-- 512 cells
abbrev pub Page : Type 0
Page = List Cell

unfoldable pub zero_page : Page
zero_page = replicate 512 (byte 0)

unfoldable pub any_page : Page
any_page = replicate 512 any

-- an identifier, a type, two marks, and the pages from page 0 on
pub record File : Type 0 where
  pub id : ℕ
  pub kind : ℕ
  pub permanent : Bool
  pub immutable : Bool
  pub pages : List Page

-- in pages
abbrev pub size : File → ℕ
size f = length f.pages

-- the file of that identifier
abbrev pub file_at : List File → ℕ → Option File
file_at files id = find (λ f. f.id == id) files

-- the sectors that a file has: a page each, and one for the leader
abbrev pub room_of : File → ℕ
room_of f = size f + 1

abbrev pub total_room : List File → ℕ
total_room files = sum_by room_of files
