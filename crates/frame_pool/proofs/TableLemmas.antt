-- A write of one field of a slot changes one of the lists.
use Rattle.std.proofs.Common.{◌≡◌, ℕ, List, Option, Some, None, refl, ◌<◌, ◌∙◌, length, ap, set, get_or, sym, map, arith}
use Rattle.std.specs.Prelude.{option_map}
use Rattle.std.proofs.lemmas.List.{map-set, get_or-map, set-get_or, length-map}
use Rattle.std.proofs.Math.Seq.{map-set_same}
use Rattle.frame_pool.specs.declared.found.FoundRun.{FoundRun}
use Rattle.frame_pool.specs.declared.table.Slot.{Slot}
use Rattle.frame_pool.specs.declared.table.Kept.{Kept}
use Rattle.frame_pool.specs.Frames.{Frame}
use Rattle.frame_pool.specs.Lists.{Lists}
use Rattle.frame_pool.specs.Table.{frame_of, found_of, lists_of}

abbrev frame_in : Slot → Option Frame
frame_in s = option_map frame_of s.kept

abbrev found_in : Slot → FoundRun
found_in s = found_of s.kept

abbrev pub lists_with : List (Option Frame) → List (Option ℕ) → List (Option ℕ) → List ℕ → List ℕ → List FoundRun → Lists
lists_with f h n o p r = record { frames = f; heads = h; nexts = n; orders = o; positions = p; founds = r }

-- lists that are equal one by one are the same
pub same_lists : (f f2 : List (Option Frame)) (h h2 n n2 : List (Option ℕ)) (o o2 p p2 : List ℕ) (r r2 : List FoundRun) → f ≡ f2 → h ≡ h2 → n ≡ n2 → o ≡ o2 → p ≡ p2 → r ≡ r2
    → lists_with f h n o p r ≡ lists_with f2 h2 n2 o2 p2 r2
same_lists f f2 h h2 n n2 o o2 p p2 r r2 ef eh en eo ep er = cc

pub set_head_lists : (slots : List Slot) (i : ℕ) (s : Slot) (x : Option ℕ) → s ≡ get_or slots i s → lists_of (set slots i (record s { head = x })) ≡ record (lists_of slots) { heads = set (map (λ (t : Slot). t.head) slots) i x }
set_head_lists slots i s x is =
    same_lists _ _ _ _ _ _ _ _ _ _ _ _
    (map-set_same frame_in slots i (record s { head = x }) s (ap frame_in is))
    (map-set (λ (t : Slot). t.head) slots i (record s { head = x }))
    (map-set_same (λ (t : Slot). t.next) slots i (record s { head = x }) s (ap (λ (t : Slot). t.next) is))
    (map-set_same (λ (t : Slot). t.order) slots i (record s { head = x }) s (ap (λ (t : Slot). t.order) is))
    (map-set_same (λ (t : Slot). t.position) slots i (record s { head = x }) s (ap (λ (t : Slot). t.position) is))
    (map-set_same found_in slots i (record s { head = x }) s (ap found_in is))

pub set_next_lists : (slots : List Slot) (i : ℕ) (s : Slot) (x : Option ℕ) → s ≡ get_or slots i s → lists_of (set slots i (record s { next = x })) ≡ record (lists_of slots) { nexts = set (map (λ (t : Slot). t.next) slots) i x }
set_next_lists slots i s x is =
    same_lists _ _ _ _ _ _ _ _ _ _ _ _
    (map-set_same frame_in slots i (record s { next = x }) s (ap frame_in is))
    (map-set_same (λ (t : Slot). t.head) slots i (record s { next = x }) s (ap (λ (t : Slot). t.head) is))
    (map-set (λ (t : Slot). t.next) slots i (record s { next = x }))
    (map-set_same (λ (t : Slot). t.order) slots i (record s { next = x }) s (ap (λ (t : Slot). t.order) is))
    (map-set_same (λ (t : Slot). t.position) slots i (record s { next = x }) s (ap (λ (t : Slot). t.position) is))
    (map-set_same found_in slots i (record s { next = x }) s (ap found_in is))

pub set_order_lists : (slots : List Slot) (i : ℕ) (s : Slot) (x : ℕ) → s ≡ get_or slots i s → lists_of (set slots i (record s { order = x })) ≡ record (lists_of slots) { orders = set (map (λ (t : Slot). t.order) slots) i x }
set_order_lists slots i s x is =
    same_lists _ _ _ _ _ _ _ _ _ _ _ _
    (map-set_same frame_in slots i (record s { order = x }) s (ap frame_in is))
    (map-set_same (λ (t : Slot). t.head) slots i (record s { order = x }) s (ap (λ (t : Slot). t.head) is))
    (map-set_same (λ (t : Slot). t.next) slots i (record s { order = x }) s (ap (λ (t : Slot). t.next) is))
    (map-set (λ (t : Slot). t.order) slots i (record s { order = x }))
    (map-set_same (λ (t : Slot). t.position) slots i (record s { order = x }) s (ap (λ (t : Slot). t.position) is))
    (map-set_same found_in slots i (record s { order = x }) s (ap found_in is))

pub set_position_lists : (slots : List Slot) (i : ℕ) (s : Slot) (x : ℕ) → s ≡ get_or slots i s → lists_of (set slots i (record s { position = x })) ≡ record (lists_of slots) { positions = set (map (λ (t : Slot). t.position) slots) i x }
set_position_lists slots i s x is =
    same_lists _ _ _ _ _ _ _ _ _ _ _ _
    (map-set_same frame_in slots i (record s { position = x }) s (ap frame_in is))
    (map-set_same (λ (t : Slot). t.head) slots i (record s { position = x }) s (ap (λ (t : Slot). t.head) is))
    (map-set_same (λ (t : Slot). t.next) slots i (record s { position = x }) s (ap (λ (t : Slot). t.next) is))
    (map-set_same (λ (t : Slot). t.order) slots i (record s { position = x }) s (ap (λ (t : Slot). t.order) is))
    (map-set (λ (t : Slot). t.position) slots i (record s { position = x }))
    (map-set_same found_in slots i (record s { position = x }) s (ap found_in is))

-- a filled slot remembers something else
pub set_found_lists : (slots : List Slot) (i : ℕ) (s : Slot) (k k2 : Kept) → s ≡ get_or slots i s → s.kept ≡ Some k → frame_of k2 ≡ frame_of k
    → lists_of (set slots i (record s { kept = Some k2 })) ≡ record (lists_of slots) { founds = set (map found_in slots) i (found_of (Some k2)) }
set_found_lists slots i s k k2 is filled same =
    let t : Slot = record s { kept = Some k2 } in
    let frame : frame_in t ≡ frame_in s = ap (λ (f : Frame). Some f) same ∙ sym (ap (option_map frame_of) filled) in
    same_lists _ _ _ _ _ _ _ _ _ _ _ _
    (map-set_same frame_in slots i t s (frame ∙ ap frame_in is))
    (map-set_same (λ (t : Slot). t.head) slots i t s (ap (λ (t : Slot). t.head) is))
    (map-set_same (λ (t : Slot). t.next) slots i t s (ap (λ (t : Slot). t.next) is))
    (map-set_same (λ (t : Slot). t.order) slots i t s (ap (λ (t : Slot). t.order) is))
    (map-set_same (λ (t : Slot). t.position) slots i t s (ap (λ (t : Slot). t.position) is))
    (map-set found_in slots i t)

-- a frame, or none, in a slot
pub set_kept_lists : (slots : List Slot) (i : ℕ) (s : Slot) (x : Option Kept) → s ≡ get_or slots i s → lists_of (set slots i (record s { kept = x })) ≡ record (lists_of slots) { frames = set (map frame_in slots) i (option_map frame_of x); founds = set (map found_in slots) i (found_of x) }
set_kept_lists slots i s x is =
    same_lists _ _ _ _ _ _ _ _ _ _ _ _
    (map-set frame_in slots i (record s { kept = x }))
    (map-set_same (λ (t : Slot). t.head) slots i (record s { kept = x }) s (ap (λ (t : Slot). t.head) is))
    (map-set_same (λ (t : Slot). t.next) slots i (record s { kept = x }) s (ap (λ (t : Slot). t.next) is))
    (map-set_same (λ (t : Slot). t.order) slots i (record s { kept = x }) s (ap (λ (t : Slot). t.order) is))
    (map-set_same (λ (t : Slot). t.position) slots i (record s { kept = x }) s (ap (λ (t : Slot). t.position) is))
    (map-set found_in slots i (record s { kept = x }))

pub set_mark_lists : (slots : List Slot) (i : ℕ) (s t : Slot) → s ≡ get_or slots i s → frame_in t ≡ frame_in s → t.head ≡ s.head → t.next ≡ s.next → t.order ≡ s.order → t.position ≡ s.position → found_in t ≡ found_in s → lists_of (set slots i t) ≡ lists_of slots
set_mark_lists slots i s t is f h n o p r =
    same_lists _ _ _ _ _ _ _ _ _ _ _ _
    (map-set_same frame_in slots i t s (rw f (ap frame_in is)))
    (map-set_same (λ (t : Slot). t.head) slots i t s (rw h (ap (λ (t : Slot). t.head) is)))
    (map-set_same (λ (t : Slot). t.next) slots i t s (rw n (ap (λ (t : Slot). t.next) is)))
    (map-set_same (λ (t : Slot). t.order) slots i t s (rw o (ap (λ (t : Slot). t.order) is)))
    (map-set_same (λ (t : Slot). t.position) slots i t s (rw p (ap (λ (t : Slot). t.position) is)))
    (map-set_same found_in slots i t s (rw r (ap found_in is)))

frame_read : (slots : List Slot) (i : ℕ) (s : Slot) → i < length slots → s ≡ get_or slots i s → get_or (map frame_in slots) i None ≡ frame_in s
frame_read slots i s below is = get_or-map frame_in slots i s None below ∙ ap frame_in (sym is)

-- a filled slot's frame is changed
pub set_frame_lists : (f : Frame → Frame) (slots : List Slot) (i : ℕ) (s : Slot) (k k2 : Kept) → i < length slots → s ≡ get_or slots i s → s.kept ≡ Some k → frame_of k2 ≡ f (frame_of k) → found_of (Some k2) ≡ found_of (Some k)
    → lists_of (set slots i (record s { kept = Some k2 })) ≡ record (lists_of slots) { frames = set (map frame_in slots) i (option_map f (get_or (map frame_in slots) i None)) }
set_frame_lists f slots i s k k2 below is filled same stays =
    let t : Slot = record s { kept = Some k2 } in
    let read : get_or (map frame_in slots) i None ≡ Some (frame_of k) = frame_read slots i s below is ∙ ap (option_map frame_of) filled in
    let founds : found_in t ≡ found_in s = stays ∙ sym (ap found_of filled) in
    let own : map found_in (set slots i t) ≡ map found_in slots = map-set_same found_in slots i t s (founds ∙ ap found_in is) in
    rw (read, ← same) (set_kept_lists slots i s (Some k2) is ∙ ap (λ (r : List FoundRun). record (lists_of slots) { frames = set (map frame_in slots) i (Some (frame_of k2)); founds = r }) (sym (map-set found_in slots i t) ∙ own))

-- an empty slot has no frame to change
pub unset_frame_lists : (f : Frame → Frame) (slots : List Slot) (i : ℕ) (s : Slot) → i < length slots → s ≡ get_or slots i s → s.kept ≡ None
    → lists_of (set slots i s) ≡ record (lists_of slots) { frames = set (map frame_in slots) i (option_map f (get_or (map frame_in slots) i None)) }
unset_frame_lists f slots i s below is empty =
    let read : get_or (map frame_in slots) i None ≡ None = frame_read slots i s below is ∙ ap (option_map frame_of) empty in
    let own : set (map frame_in slots) i None ≡ map frame_in slots = ap (λ x. set (map frame_in slots) i x) (sym read) ∙ set-get_or (map frame_in slots) i None in
    let kept : set slots i s ≡ slots = ap (λ x. set slots i x) is ∙ set-get_or slots i s in
    rw (read, own, kept) refl

pub below_slots : (slots : List Slot) (lists : Lists) (i : ℕ) → lists_of slots ≡ lists → i < length lists.frames → i < length slots
below_slots slots lists i is below =
    let same : length lists.frames ≡ length slots = ap (λ (l : Lists). length l.frames) (sym is) ∙ length-map slots frame_in in
    omega (arith, same, below)
