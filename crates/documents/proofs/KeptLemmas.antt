-- What was put is what is got in a later session.
use Rattle.std.proofs.Common.{◌≡◌, ◌∙◌, ℕ, zero, suc, ◌+◌, ◌/◌, ◌%◌, ap, sym, subst, List, [], ◌∷◌, length, Option, Some}
use Rattle.std.specs.Prelude.{IsSomeAnd, slice_index_or}
use Rattle.std.specs.List.{AllZip}
use Rattle.labelled_disk.specs.FilesOn.{files_on}
use Rattle.flat_machine.specs.File.{File, Page, Cell, any, byte, file_at}
use Rattle.flat_machine.specs.Settled.{CellAgrees, FileAgrees, PageAgrees}
use Rattle.document_head.specs.Head.{head_page}
use Rattle.documents.specs.Contents.{Holds}
use Rattle.documents.specs.Laws.{WhatIsKeptIsGot}
use Rattle.documents.proofs.LawLemmas.{what_is_held_is_got}

-- where the second page has a byte the first has it too
byte_there : (p q : Page) → PageAgrees p q → (j b : ℕ) → slice_index_or q j any ≡ byte b → slice_index_or p j any ≡ byte b
byte_there [] [] same j b at = at
byte_there [] (d ∷ q) same j b at = absurd same
byte_there (c ∷ p) [] same j b at = absurd same
byte_there (c ∷ p) (d ∷ q) same zero b at = subst (λ (x : Cell). CellAgrees c x) at same.0
byte_there (c ∷ p) (d ∷ q) same (suc j) b at = byte_there p q same.1 j b at

-- and so of pages in a row
byte_of_page : (ps qs : List Page) → AllZip PageAgrees ps qs → (i j b : ℕ)
    → slice_index_or (slice_index_or qs i []) j any ≡ byte b → slice_index_or (slice_index_or ps i []) j any ≡ byte b
byte_of_page [] [] same i j b at = at
byte_of_page [] (q ∷ qs) same i j b at = absurd same
byte_of_page (p ∷ ps) [] same i j b at = absurd same
byte_of_page (p ∷ ps) (q ∷ qs) same zero j b at = byte_there p q same.0 j b at
byte_of_page (p ∷ ps) (q ∷ qs) same (suc i) j b at = byte_of_page ps qs same.1 i j b at

-- a file that agrees with another holds what that holds
holds_too : (g f : File) → FileAgrees g f → (from : ℕ) (bytes : List ℕ) → Holds f from bytes → Holds g from bytes
holds_too g f same from bytes holds k b at = byte_of_page g.pages f.pages same.pages_agree ((from + k) / 512) ((from + k) % 512) b (holds k b at)

pub what_is_kept_is_got : WhatIsKeptIsGot
what_is_kept_is_got f g d h name bytes got head fits head_fits document has files there is =
    let found : file_at (files_on d) f.id ≡ Some g = ap (λ (fs : List File). file_at fs f.id) (sym files) ∙ there in
    let same : FileAgrees g f = subst (λ (o : Option File). IsSomeAnd o (λ x. FileAgrees x f)) found has in
    what_is_held_is_got g name bytes got head fits head_fits
    (holds_too g f same 0 (head_page (length bytes) name) document.head) (holds_too g f same 512 bytes document.body) is
