-- A load, by the machine: its refusals, and the bytes that it may reply.
use Rattle.std.proofs.Common.{◌≡◌, inl, inr, ℕ, suc, ◌+◌, ◌-◌, ◌/◌, ◌%◌, ◌<◌, ◌≤◌, List, [], ◌∷◌, length, take, drop, map, Some, Option, refl, sym, ◌∙◌, ap, subst, arith}
use Rattle.std.specs.Prelude.{find, get_or, slice_get, slice_index_or, None, is_none, option_map, MatchOption}
use Rattle.std.specs.Option.{option_map_or}
use Rattle.std.proofs.lemmas.Bool.{cases_lt}
use Rattle.std.proofs.lemmas.List.{get_or-take, get_or-drop, length-take, length-drop}
use Rattle.std.proofs.lemmas.Option.{same_Some, slice_get-get_or, slice_get-map}
use Rattle.std.proofs.Math.ListN.{get_or-eq_default}
use Rattle.labelled_disk.specs.Sectors.{Sector, AreSectors}
use Rattle.flat_machine.specs.declared.call.Refusal.TheVariants as why
use Rattle.flat_machine.specs.declared.space.FilePage.{FilePage}
use Rattle.flat_machine.specs.Machine.{Machine}
use Rattle.flat_machine.specs.File.{File, Page, Cell, byte, any, file_at}
use Rattle.flat_machine.specs.Space.{mapped_at}
use Rattle.flat_machine.specs.At.{Spot, at, cell_of, cell_at, cells_at, pages_of, shown_at}
use Rattle.flat_machine.specs.Allows.{AgreesWithCells}
use Rattle.flat_machine.specs.Refusal.{first_of, is_read_only}
use Rattle.flat_machine.specs.Settled.{CellAgrees, PageAgrees}
use Rattle.swapper_kernel.specs.Kinds.{HasKind, a_file}
use Rattle.session_words.specs.Parts.{HasCells, but_none}
use Rattle.session_words.proofs.SameLabelLemmas.{zip_at}
use Rattle.fault_core.specs.Access.{refused_by}
use Rattle.fault_core.specs.Moves.{Loads, LoadsIn, LoadsPieces}
use Rattle.fault_core.specs.ReferenceLaws.{LoadsAreTested, StoresAreTested, LoadsAreAllowed, word_of}
use Rattle.fault_core.proofs.PieceLemmas.{one_piece}
use Rattle.fault_core.proofs.LeaveLemmas.{pieces_past}

-- ---- Refusals.

load_word : (o : Option ℕ) → first_of (option_map why.NoMap o ∷ []) ≡ word_of (refused_by o None)
load_word None = refl
load_word (Some page) = refl

store_word : (o q : Option ℕ) → first_of (option_map why.NoMap o ∷ option_map why.ReadOnly q ∷ []) ≡ word_of (refused_by o q)
store_word None None = refl
store_word None (Some page) = refl
store_word (Some page) q = refl

pub loads_tested : LoadsAreTested
loads_tested m address count = load_word (find (λ p. is_none (mapped_at m.spaces p)) (pages_of address count))

pub stores_tested : StoresAreTested
stores_tested m address bytes = store_word (find (λ p. is_none (mapped_at m.spaces p)) (pages_of address (length bytes))) (find (is_read_only m.spaces) (pages_of address (length bytes)))

-- ---- A byte and its cell.

-- the byte may be replied for the cell
abbrev IsAllowed : Cell → ℕ → Type 0
IsAllowed cell b = MatchOption cell (b < 256) (λ c. b ≡ c)

agreeing : (b : ℕ) (cell : Cell) → b < 256 → CellAgrees (byte b) cell → IsAllowed cell b
agreeing b None small agrees = small
agreeing b (Some c) small agrees = same_Some b c agrees

page_cell : (page : List ℕ) (p : Page) → PageAgrees (map byte page) p → (o b : ℕ) → slice_get page o ≡ Some b → b < 256 → IsAllowed (slice_index_or p o any) b
page_cell page p agrees o b here small = elim (cases_lt o (length p)) [
  | inl below ↦ agreeing b (get_or p o any) small
      (zip_at CellAgrees (map byte page) p agrees o (byte b) (get_or p o any) (slice_get-map byte page o ∙ ap (λ (q : Option ℕ). option_map byte q) here) (slice_get-get_or p o any below))
  | inr past ↦ subst (λ (c : Cell). IsAllowed c b) (sym (get_or-eq_default p any past)) small
]

nothing_there : (p : Page) (o : ℕ) → p ≡ [] → slice_index_or p o any ≡ any
nothing_there p o none =
    let long : length p ≡ 0 = ap (λ (q : Page). length q) none in
    let past : length p ≤ o = omega (arith, long) in
    get_or-eq_default p any past

module _ (x : List Sector) (m : Machine) (are : AreSectors x) (cells : HasCells but_none x m.files) (place : ℕ) (s : Sector) (there : HasKind x place s a_file) where
  small : (o : ℕ) → o < 512 → get_or s.1 o 0 < 256
  small o below =
      let own = are place s there.here in
      let long = own.whole_page in
      own.bytes o 0 (omega (arith, long, below))

  here_is : (o : ℕ) → o < 512 → slice_get s.1 o ≡ Some (get_or s.1 o 0)
  here_is o below =
      let long = (are place s there.here).whole_page in
      slice_get-get_or s.1 o 0 (omega (arith, long, below))

  spot_cell : (o : ℕ) → o < 512 → IsAllowed (cell_of m.files (record { file = s.0.id; page = s.0.page; offset = o })) (get_or s.1 o 0)
  spot_cell o below = by (file_at m.files s.0.id) refl
    where
      in_file : (f : File) → file_at m.files s.0.id ≡ Some f → IsAllowed (slice_index_or (slice_index_or f.pages s.0.page []) o any) (get_or s.1 o 0)
      in_file f e = elim (cases_lt s.0.page (length f.pages)) [
        | inl inside ↦ page_cell s.1 (get_or f.pages s.0.page []) (cells.agrees place s f (get_or f.pages s.0.page []) there e (slice_get-get_or f.pages s.0.page [] inside) refl) o (get_or s.1 o 0) (here_is o below) (small o below)
        | inr past ↦
            let none : slice_index_or f.pages s.0.page [] ≡ [] = get_or-eq_default f.pages [] past in
            subst (λ (c : Cell). IsAllowed c (get_or s.1 o 0)) (sym (nothing_there (slice_index_or f.pages s.0.page []) o none)) (small o below)
      ]

      by : (q : Option File) → file_at m.files s.0.id ≡ q → IsAllowed (cell_of m.files (record { file = s.0.id; page = s.0.page; offset = o })) (get_or s.1 o 0)
      by None e = rw e (small o below)
      by (Some f) e = rw e (in_file f e)

-- ---- The bytes of a piece.

module _ (x : List Sector) (m : Machine) (are : AreSectors x) (cells : HasCells but_none x m.files) where
  piece_cell : (address : ℕ) (bytes : List ℕ) → LoadsIn m.spaces address bytes x → (j : ℕ) → j < length bytes → IsAllowed (cell_at m (address + j)) (get_or bytes j 0)
  piece_cell address bytes l j below =
      let h = l.has in
      let s = h.s in
      let o : ℕ = address % 512 in
      let inside = h.inside in
      let fits : o + j < 512 = omega (arith, inside, below) in
      let same_page : (address + j) / 512 ≡ address / 512 = omega (arith, inside, below) in
      let same_offset : (address + j) % 512 ≡ o + j = omega (arith, inside, below) in
      let spot : at m (address + j) ≡ Some (record { file = s.0.id; page = s.0.page; offset = o + j }) =
      ap (λ (n : ℕ). option_map (λ u. record { file = u.file; page = u.page; offset = (address + j) % 512 }) (shown_at m.spaces n)) same_page
      ∙ ap (λ (q : Option FilePage). option_map (λ u. record { file = u.file; page = u.page; offset = (address + j) % 512 }) q) l.is_shown
      ∙ (λ i. Some (record { file = sym h.same_id i; page = sym h.same_page i; offset = same_offset i })) in
      let cell : cell_at m (address + j) ≡ cell_of m.files (record { file = s.0.id; page = s.0.page; offset = o + j }) = ap (λ (q : Option Spot). option_map_or (cell_of m.files) q any) spot in
      let own : get_or bytes j 0 ≡ get_or s.1 (o + j) 0 = ap (λ (bs : List ℕ). get_or bs j 0) h.are ∙ get_or-take (length bytes) (drop o s.1) j 0 below ∙ get_or-drop o s.1 j 0 in
      subst (λ (c : Cell). IsAllowed c (get_or bytes j 0)) (sym cell) (subst (λ (b : ℕ). IsAllowed (cell_of m.files (record { file = s.0.id; page = s.0.page; offset = o + j })) b) (sym own) (spot_cell x m are cells h.place s h.there (o + j) fits))

-- ---- All of them.

by_cells : (m : Machine) (address : ℕ) (bytes : List ℕ) → ((j : ℕ) → j < length bytes → IsAllowed (cell_at m (address + j)) (get_or bytes j 0)) → AgreesWithCells (cells_at m address (length bytes)) bytes
by_cells m address [] each = tt
by_cells m address (b ∷ bs) each =
    let first : address + 0 ≡ address = omega arith in (
      subst (λ (n : ℕ). IsAllowed (cell_at m n) b) first (each 0 (omega arith)),
      by_cells m (address + 1) bs (λ j below.
          let next : address + suc j ≡ address + 1 + j = omega arith in
          subst (λ (n : ℕ). IsAllowed (cell_at m n) (get_or bs j 0)) next (each (suc j) (omega (arith, below)))),
    )

module _ (x : List Sector) (m : Machine) (address : ℕ) (bytes : List ℕ) (are : AreSectors x) (cells : HasCells but_none x m.files) (loads : Loads m.spaces address bytes x) where
  on_one : address % 512 + length bytes ≤ 512 → (j : ℕ) → j < length bytes → IsAllowed (cell_at m (address + j)) (get_or bytes j 0)
  on_one fits = piece_cell x m are cells address bytes (subst (λ (ps : List (ℕ × List ℕ)). LoadsPieces m.spaces ps x) (one_piece address bytes fits) loads).0

  on_two : 512 < address % 512 + length bytes → (j : ℕ) → j < length bytes → IsAllowed (cell_at m (address + j)) (get_or bytes j 0)
  on_two past j below =
      let room : ℕ = 512 - address % 512 in
      let both = subst (λ (ps : List (ℕ × List ℕ)). LoadsPieces m.spaces ps x) (pieces_past address bytes past) loads in
      elim (cases_lt j room) [
        | inl low ↦
            let long = length-take room bytes in
            let own : get_or (take room bytes) j 0 ≡ get_or bytes j 0 = get_or-take room bytes j 0 low in
            subst (λ (b : ℕ). IsAllowed (cell_at m (address + j)) b) own (piece_cell x m are cells address (take room bytes) both.0 j (omega (arith, long, low, below)))
        | inr from ↦
            let k : ℕ = j - room in
            let place : room + k ≡ j = omega (arith, from) in
            let long = length-drop room bytes in
            let inside : k < length (drop room bytes) = omega (arith, long, place, below) in
            let own : get_or (drop room bytes) k 0 ≡ get_or bytes j 0 = get_or-drop room bytes k 0 ∙ ap (λ (n : ℕ). get_or bytes n 0) place in
            let spot : address + room + k ≡ address + j = omega (arith, place) in
            subst (λ (n : ℕ). IsAllowed (cell_at m n) (get_or bytes j 0)) spot (subst (λ (b : ℕ). IsAllowed (cell_at m (address + room + k)) b) own (piece_cell x m are cells (address + room) (drop room bytes) both.1.0 k inside))
      ]

  loads_agree : AgreesWithCells (cells_at m address (length bytes)) bytes
  loads_agree = elim (cases_lt 512 (address % 512 + length bytes)) [ inl past ↦ by_cells m address bytes (on_two past) | inr fits ↦ by_cells m address bytes (on_one fits) ]

pub loads_allowed : LoadsAreAllowed
loads_allowed x m address bytes are cells loads = loads_agree x m address bytes are cells loads
