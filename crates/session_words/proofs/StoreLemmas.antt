-- The pieces of a store.
use Rattle.std.proofs.Common.{◌≡◌, ℕ, zero, suc, ◌+◌, ◌-◌, ◌/◌, ◌%◌, ◌<◌, Bool, true, false, List, [], ◌∷◌, ◌++◌, length, take, drop, Option, Some, refl, sym, ◌∙◌, ap, subst, arith}
use Rattle.std.specs.Prelude.{slice_set, option_map, nat_le, if◌then◌else◌}
use Rattle.std.proofs.lemmas.Bool.{leb-false}
use Rattle.std.proofs.lemmas.List.{length-take-le}
use Rattle.labelled_disk.specs.declared.label.Label.{Label}
use Rattle.labelled_disk.specs.Sectors.{Sector, AreSectors}
use Rattle.labelled_disk.specs.File.{File}
use Rattle.flat_mem.specs.Memory.{overwritten}
use Rattle.flat_machine.specs.declared.space.Space.{Space}
use Rattle.flat_machine.specs.declared.space.FilePage.{FilePage}
use Rattle.flat_machine.specs.At.{shown_at, spot_at}
use Rattle.flat_machine.specs.Next.{store_byte, store_bytes}
use Rattle.swapper_kernel.specs.Stands.{labels_of}
use Rattle.swapper_kernel.specs.Kinds.{SameBut, of_kinds, a_file, files_alone}
use Rattle.session_words.specs.Parts.{Shapes, HasLabels, HasCells, but_none}
use Rattle.session_words.specs.CellLaws.{StoresIn, pieces, StoresPieces}
use Rattle.swapper_kernel.specs.DiffersLaws.{differs_itself}
use Rattle.session_words.proofs.PageLemmas.{row_of_bytes, same_but_then, set_same_but, set_sectors, spot_of}

-- A store.

-- what a piece of a store, and what all pieces, leave
pub record Stored (shapes : Shapes) (x y : List Sector) (files : List File) : Type 0 where
  pub same : SameBut files_alone x y
  pub sectors : AreSectors y
  pub labels : HasLabels (labels_of y) shapes
  pub cells : HasCells but_none y files

piece_stored : (shapes : Shapes) (spaces : List Space) (address : ℕ) (bytes : List ℕ) (x y : List Sector) (files : List File) → AreSectors x → HasLabels (labels_of x) shapes → HasCells but_none x files
    → StoresIn spaces address bytes x y → Stored shapes x y (store_bytes spaces address bytes files)
piece_stored shapes spaces address bytes x y files are labels cells st =
    let w = st.stored in
    let s : Sector = w.s in
    let at : ℕ = address % 512 in
    let whole : length s.1 ≡ 512 = (are w.place s w.there.here).whole_page in
    let spots : (j : ℕ) → j < length bytes → spot_at spaces (address + j) ≡ Some (spot_of s (at + j)) = λ j below.
    let inside = w.inside in
    let same_page : (address + j) / 512 ≡ address / 512 = omega (arith, inside, below) in
    let same_offset : (address + j) % 512 ≡ address % 512 + j = omega (arith, inside, below) in
    ap (λ (n : ℕ). option_map (λ u. record { file = u.file; page = u.page; offset = (address + j) % 512 }) (shown_at spaces n)) same_page
    ∙ ap (λ (o : Option FilePage). option_map (λ u. record { file = u.file; page = u.page; offset = (address + j) % 512 }) o) st.is_shown
    ∙ (λ i. Some (record { file = sym w.same_id i; page = sym w.same_page i; offset = same_offset i })) in
    let same : SameBut files_alone x (slice_set x w.place (s.0, overwritten s.1 at bytes)) = set_same_but files_alone x w.place s a_file (overwritten s.1 at bytes) w.there refl in
    subst (λ (z : List Sector). Stored shapes x z (store_bytes spaces address bytes files)) (sym w.is)
    (record {
      same = same;
      sectors = set_sectors x w.place (s.0, overwritten s.1 at bytes) are w.fits;
      labels = subst (λ (ls : List Label). HasLabels ls shapes) (sym same.labels) labels;
      cells = row_of_bytes shapes w.place spaces bytes address at x s files labels w.there cells spots (omega (arith, w.inside, whole));
    })

-- the files after each piece
pub store_pieces : List Space → List (ℕ × List ℕ) → List File → List File
store_pieces spaces [] files = files
store_pieces spaces (p ∷ ps) files = store_pieces spaces ps (store_bytes spaces p.0 p.1 files)

pub pieces_stored : (shapes : Shapes) (spaces : List Space) (ps : List (ℕ × List ℕ)) (x y : List Sector) (files : List File) → AreSectors x → HasLabels (labels_of x) shapes → HasCells but_none x files
    → StoresPieces spaces ps x y → Stored shapes x y (store_pieces spaces ps files)
unfolding store_pieces
pieces_stored shapes spaces [] x y files are labels cells is =
    subst (λ (z : List Sector). Stored shapes x z files) (sym is) (record { same = differs_itself (of_kinds (length x) files_alone) x; sectors = are; labels = labels; cells = cells })
pieces_stored shapes spaces (p ∷ ps) x y files are labels cells is =
    let first = piece_stored shapes spaces p.0 p.1 x is.0 files are labels cells is.1 in
    let rest = pieces_stored shapes spaces ps is.0 y (store_bytes spaces p.0 p.1 files) first.sectors first.labels first.cells is.2 in
    record { same = same_but_then files_alone x is.0 y first.same rest.same; sectors = rest.sectors; labels = rest.labels; cells = rest.cells }

store_append : (spaces : List Space) (xs ys : List ℕ) (address : ℕ) (files : List File) → store_bytes spaces (address + length xs) ys (store_bytes spaces address xs files) ≡ store_bytes spaces address (xs ++ ys) files
store_append spaces [] ys address files = let z : address + 0 ≡ address = omega arith in ap (λ (n : ℕ). store_bytes spaces n ys files) z
store_append spaces (x ∷ xs) ys address files =
    let z : address + suc (length xs) ≡ address + 1 + length xs = omega arith in
    ap (λ (n : ℕ). store_bytes spaces n ys (store_bytes spaces (address + 1) xs (store_byte spaces address x files))) z ∙ store_append spaces xs ys (address + 1) (store_byte spaces address x files)

take_drop : (n : ℕ) (xs : List ℕ) → take n xs ++ drop n xs ≡ xs
take_drop zero xs = refl
take_drop (suc n) [] = refl
take_drop (suc n) (x ∷ xs) = ap (λ (l : List ℕ). x ∷ l) (take_drop n xs)

-- all pieces are the store
pub all_pieces : (spaces : List Space) (address : ℕ) (bytes : List ℕ) (files : List File) → store_pieces spaces (pieces address bytes) files ≡ store_bytes spaces address bytes files
unfolding store_pieces
all_pieces spaces address bytes files = either (nat_le (address % 512 + length bytes) 512) refl
  where
    r : ℕ
    r = 512 - address % 512

    long : nat_le (address % 512 + length bytes) 512 ≡ false → length (take (512 - address % 512) bytes) ≡ 512 - address % 512
    long e = length-take-le (512 - address % 512) bytes (let f : 512 < address % 512 + length bytes = leb-false (address % 512 + length bytes) 512 e in omega arith)

    either : (b : Bool) → nat_le (address % 512 + length bytes) 512 ≡ b
        → store_pieces spaces (if b then (address, bytes) ∷ [] else (address, take (512 - address % 512) bytes) ∷ (address + (512 - address % 512), drop (512 - address % 512) bytes) ∷ []) files ≡ store_bytes spaces address bytes files
    either true e = refl
    either false e =
        ap (λ (n : ℕ). store_bytes spaces (address + n) (drop (512 - address % 512) bytes) (store_bytes spaces address (take (512 - address % 512) bytes) files)) (sym (long e))
        ∙ store_append spaces (take (512 - address % 512) bytes) (drop (512 - address % 512) bytes) address files
        ∙ ap (λ (bs : List ℕ). store_bytes spaces address bs files) (take_drop (512 - address % 512) bytes)
