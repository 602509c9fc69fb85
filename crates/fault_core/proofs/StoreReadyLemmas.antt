-- Stores in a row to pages that are at hand.
use Rattle.std.proofs.Common.{◌≡◌, ◌∙◌, ℕ, ◌+◌, ◌-◌, ◌≤◌, List, [], ◌∷◌, ◌++◌, length, length-append, refl, sym, ap, subst, arith}
use Rattle.std.specs.Prelude.{slice_range, take, drop}
use Rattle.std.specs.List.{concat}
use Rattle.std.proofs.Math.Seq.{take-add}
use Rattle.std.proofs.lemmas.List.{append-nil, length-drop, length-take-le}
use Rattle.std.proofs.lemmas.List.Folds.{concat-append}
use Rattle.frame_pool.specs.Frames.{Slots, HasPage}
use Rattle.flat_machine.specs.declared.space.Space.{Space}
use Rattle.swap_units.specs.declared.interval.Interval.{Interval}
use Rattle.swapper_kernel.specs.Homes.{IsLayout}
use Rattle.labelled_disk.specs.declared.layout.Layout.{Layout}
use Rattle.fault_core.specs.Lack.{Sees}
use Rattle.fault_core.specs.Moves.{client_page}
use Rattle.fault_core.specs.Reach.{Reaches}
use Rattle.fault_core.specs.Ready.{AreHere, IsChanged}
use Rattle.fault_core.specs.Room.{KeepsSlots}
use Rattle.fault_core.specs.StoreReady.{AreChanged, AreStoredAtHand}
use Rattle.fault_core.specs.Touch.{Touches}
use Rattle.fault_core.specs.Unit.{file_page}
use Rattle.filer_kernel.specs.View.{View}
use Rattle.fault_core.proofs.BeforeLemmas.{touches_of, touches_then}
use Rattle.fault_core.proofs.ReachLemmas.{reaches_itself}
use Rattle.fault_core.proofs.ReadyLemmas.{changed_clients, changed_sees}

-- pages that stay in their slots are as many, and their units are resident
pub here_keeps : (before after : Slots) (x : Interval) (address count : ℕ) → KeepsSlots before after → AreHere before x address count → AreHere after x address count
here_keeps before after x address count keeps here page low high =
    let own = here page low high in
    (own.0, λ other of. let there = own.1 other of in (there.0, keeps there.0 x.id (file_page x other) there.1))

-- ---- One more store.

changed_then : (kept : List Interval) (address at : ℕ) (pieces : List (List ℕ)) (piece : List ℕ) (v u w : View) → at ≡ address + length (concat pieces) → 1 ≤ length piece
    → AreChanged kept address pieces v u → IsChanged kept at piece u w → AreChanged kept address (pieces ++ piece ∷ []) v w
changed_then kept address at [] piece v u w is some row one =
    let none : address + 0 ≡ address = omega arith in
    (w, some, subst (λ (a : ℕ). IsChanged kept a piece v w) (is ∙ none) (subst (λ (x : View). IsChanged kept at piece x w) row one), refl)
changed_then kept address at (p ∷ ps) piece v u w is some row one =
    let there : at ≡ (address + length p) + length (concat ps) = omega (arith, is, length-append p (concat ps)) in
    (row.0, row.1, row.2, changed_then kept (address + length p) at ps piece row.0 u w there some row.3 one)

pub stored_none : (kept : List Interval) (address : ℕ) (bytes : List ℕ) (v : View) → AreStoredAtHand kept address 0 bytes v v
stored_none kept address bytes v = record { pieces = []; whole = refl; changed = refl }

pub stored_then : (kept : List Interval) (address done n : ℕ) (bytes : List ℕ) (v u w : View) → done + n ≤ length bytes → 1 ≤ n → AreStoredAtHand kept address done bytes v u
    → IsChanged kept (address + done) (slice_range bytes done (done + n)) u w → AreStoredAtHand kept address (done + n) bytes v w
stored_then kept address done n bytes v u w fits some had one =
    let piece = slice_range bytes done (done + n) in
    let count : (done + n) - done ≡ n = omega arith in
    let long : length (concat had.pieces) ≡ done = ap (λ (l : List ℕ). length l) had.whole ∙ length-take-le done bytes (omega (arith, fits)) in
    let at : address + done ≡ address + length (concat had.pieces) = omega (arith, long) in
    let full : length piece ≡ n = ap (λ (k : ℕ). length (take k (drop done bytes))) count ∙ length-take-le n (drop done bytes) (omega (arith, length-drop done bytes, fits)) in
    record {
      pieces = had.pieces ++ piece ∷ [];
      whole = concat-append had.pieces (piece ∷ []) ∙ ap (λ (l : List ℕ). l ++ (piece ++ [])) had.whole ∙ ap (λ (l : List ℕ). take done bytes ++ l) (append-nil piece)
          ∙ ap (λ (k : ℕ). take done bytes ++ take k (drop done bytes)) count ∙ sym (take-add done n bytes);
      changed = changed_then kept address (address + done) had.pieces piece v u w at (omega (arith, full, some)) had.changed one;
    }

-- ---- What stores in a row leave.

pub row_slots : (kept : List Interval) (pieces : List (List ℕ)) (address : ℕ) (v w : View) → AreChanged kept address pieces v w → KeepsSlots v.slots w.slots
row_slots kept [] address v w row i id page has = subst (λ (x : View). HasPage x.slots i id page) (sym row) has
row_slots kept (p ∷ ps) address v w row i id page has = row_slots kept ps (address + length p) row.0 w row.3 i id page (row.2.slots i id page has)

pub row_disk : (kept : List Interval) (pieces : List (List ℕ)) (address : ℕ) (v w : View) → AreChanged kept address pieces v w → w.disk ≡ v.disk
row_disk kept [] address v w row = ap (λ (x : View). x.disk) row
row_disk kept (p ∷ ps) address v w row = row_disk kept ps (address + length p) row.0 w row.3 ∙ row.2.disk

pub row_touches : (kept : List Interval) (pieces : List (List ℕ)) (address : ℕ) (v w : View) → IsLayout v.layout → AreChanged kept address pieces v w → Touches client_page v w
row_touches kept [] address v w is row = touches_of client_page (subst (λ (x : View). Reaches v x) (sym row) (reaches_itself v))
row_touches kept (p ∷ ps) address v w is row =
    let first = changed_clients row.2 in
    touches_then v row.0 is first w (row_touches kept ps (address + length p) row.0 w (subst (λ (l : Layout). IsLayout l) (sym first.layout) is) row.3)

pub row_sees : {n : ℕ} {ss : List Space} (kept : List Interval) (pieces : List (List ℕ)) (address : ℕ) (v w : View) → AreChanged kept address pieces v w → Sees v kept n ss → Sees w kept n ss
row_sees {n} {ss} kept [] address v w row sees = subst (λ (x : View). Sees x kept n ss) (sym row) sees
row_sees kept (p ∷ ps) address v w row sees = row_sees kept ps (address + length p) row.0 w row.3 (changed_sees row.2 sees)
