-- What the file of a document holds, byte by byte, and what a client reads of it.
use Rattle.std.specs.Prelude.{◌≡◌, ◌≤◌, ◌<◌, ◌+◌, ◌*◌, ◌/◌, ◌%◌, ℕ, true, List, [], length, Some, MatchOption, slice_get, slice_index_or}
use Rattle.document_head.specs.Head.{head_page, pages_of}
use Rattle.flat_machine.specs.File.{File, Page, Cell, byte, any, size}

-- the cell of pages at a byte of them; a byte that they do not have is any
abbrev pub cell_in : List Page → ℕ → Cell
cell_in pages k = slice_index_or (slice_index_or pages (k / 512) []) (k % 512) any

-- the bytes of the file from one of them on are these
abbrev pub Holds : File → ℕ → List ℕ → Type 0
Holds f from bytes = (k b : ℕ) → slice_get bytes k ≡ Some b → cell_in f.pages (from + k) ≡ byte b

-- each of these bytes is the file's from one of them on, or any byte where that is any
abbrev pub Reads : File → ℕ → List ℕ → Type 0
Reads f from bytes = (k b : ℕ) → slice_get bytes k ≡ Some b → MatchOption (cell_in f.pages (from + k)) (b < 256) (λ c. b ≡ c)

-- the file is a document of this name: it has these bytes, after a head that says so, and zeros up to the end of its last page
pub record IsDocument (name bytes : List ℕ) (f : File) : Type 0 where
  pub kind : f.kind ≡ 17475
  pub permanent : f.permanent ≡ true
  pub long : size f ≡ pages_of (length bytes)
  pub head : Holds f 0 (head_page (length bytes) name)
  pub body : Holds f 512 bytes
  pub rest : (k : ℕ) → 512 + length bytes ≤ k → k < 512 * size f → cell_in f.pages k ≡ byte 0
