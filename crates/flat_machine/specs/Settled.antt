-- The files that a stop leaves, and files that agree.
use Rattle.std.specs.Prelude.{ℕ, Bool, false, ◌≡◌, List, map, filter, IfSome, Some, slice_get}
use Rattle.std.specs.List.{list_any, AllZip}
use Rattle.flat_machine.specs.File.{File, Cell, Page, byte, size}
use Rattle.flat_machine.specs.Space.{FilePage}
use Rattle.flat_machine.specs.Machine.{Machine}
use Rattle.flat_machine.specs.Next.{with_any, is_same_page}

-- the page was stored to and not forced since
abbrev pub is_unforced : List FilePage → ℕ → ℕ → Bool
is_unforced unforced file page = list_any (is_same_page (record { file = file; page = page })) unforced

-- any in every cell of an unforced page
abbrev pub settled_file : List FilePage → File → File
settled_file unforced f = record f { pages = with_any (is_unforced unforced f.id) f.pages }

-- the permanent files, with any in every cell of an unforced page
abbrev pub settled : Machine → List File
settled m = map (settled_file m.unforced) (filter (λ f. f.permanent) m.files)

-- the first cell is the same byte, if the second is a byte
abbrev pub CellAgrees : Cell → Cell → Type 0
CellAgrees c d = IfSome d (λ b. c ≡ byte b)

-- as many cells, and the first page has the same byte wherever the second has a byte
abbrev pub PageAgrees : Page → Page → Type 0
PageAgrees p q = AllZip CellAgrees p q

-- the same but for the mark permanent, and for the cells that are any in the second
pub record FileAgrees (f g : File) : Type 0 where
  pub same_id : f.id ≡ g.id
  pub same_kind : f.kind ≡ g.kind
  pub same_immutable : f.immutable ≡ g.immutable
  pub pages_agree : AllZip PageAgrees f.pages g.pages

-- the same identifiers, types, immutability and sizes, and the first files have the same byte wherever the second have one
abbrev pub Agrees : List File → List File → Type 0
Agrees fs gs = AllZip FileAgrees fs gs

-- a file of a disk stands for the machine's: the same but for the cells that are any, and for unforced pages
pub record FileStandsFor (unforced : List FilePage) (f g : File) : Type 0 where
  pub same_id : f.id ≡ g.id
  pub same_kind : f.kind ≡ g.kind
  pub same_permanent : f.permanent ≡ g.permanent
  pub same_immutable : f.immutable ≡ g.immutable
  pub same_size : size f ≡ size g
  pub pages_agree : (k : ℕ) (p q : Page) → slice_get f.pages k ≡ Some p → slice_get g.pages k ≡ Some q → is_unforced unforced g.id k ≡ false → PageAgrees p q
