-- Why a file is no document.
use Rattle.std.specs.Prelude.{◌≡◌, ◌≢◌, ◌⊎◌, ◌≤◌, ◌<◌, ◌^◌, ℕ, List, Some, IsUtf8, length}
use Rattle.document_head.specs.Head.{head_page, pages_of}
use Rattle.flat_machine.specs.File.{File, file_at, size}
use Rattle.flat_machine.specs.Machine.{Machine}
use Rattle.documents.specs.Contents.{IsDocument, Reads}

-- the page is no head of a file of so many pages
abbrev pub IsNoHead : List ℕ → ℕ → Type 0
IsNoHead page pages =
    (bytes : ℕ) (name : List ℕ) → bytes < 2 ^ 64 → length name ≤ 255 → IsUtf8 name → page ≡ head_page bytes name
    → pages ≡ pages_of bytes → ⊥

-- a page that may be read of the file's first one is no head of a file of so many pages
pub record HasNoHead (m : Machine) (id pages : ℕ) : Type 0 where
  pub file : File
  pub there : file_at m.files id ≡ Some file
  pub page : List ℕ
  pub long : length page ≡ 512
  pub reads : Reads file 0 page
  pub headless : IsNoHead page pages

-- The machine's file of this identifier is no document: it has another type, or no page, or its first page may be read as one
-- that is no head of it.
pub record IsNoDocument (m : Machine) (id : ℕ) : Type 0 where
  pub file : File
  pub there : file_at m.files id ≡ Some file
  pub why : (file.kind ≢ 17475) ⊎ ((size file ≡ 0) ⊎ HasNoHead m id (size file))

-- a file that was put is never such: it is found to be a document
abbrev pub WhatIsPutIsFound : Type 0
WhatIsPutIsFound = (m : Machine) (id : ℕ) (f : File) (name bytes : List ℕ) → length bytes < 2 ^ 64 → length name ≤ 255
    → IsUtf8 name → file_at m.files id ≡ Some f → IsDocument name bytes f → IsNoDocument m id → ⊥
