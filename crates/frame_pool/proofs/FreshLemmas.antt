-- One more empty slot.
use Rattle.std.proofs.Common.{◌≡◌, ◌+◌, ◌∙◌, ◌++◌, ◌∷◌, [], ℕ, List, None, ap, zero, suc, map, arith}
use Rattle.std.specs.Prelude.{option_map}
use Rattle.std.specs.List.{range_with_len}
use Rattle.std.proofs.lemmas.List.{map-append, replicate_more}
use Rattle.frame_pool.specs.declared.table.Slot.{Slot}
use Rattle.frame_pool.specs.Lists.{Lists, fresh_lists, nothing}
use Rattle.frame_pool.specs.Table.{frame_of, found_of, lists_of}
use Rattle.frame_pool.proofs.TableLemmas.{same_lists}

range_more : (a n j : ℕ) → a + n ≡ j → range_with_len a n ++ j ∷ [] ≡ range_with_len a (suc n)
range_more a zero j is = let e : j ≡ a = omega (arith, is) in ap (λ k. k ∷ []) e
range_more a (suc n) j is = ap (λ l. a ∷ l) (range_more (a + 1) n j (omega (arith, is)))

-- a field that was revealed for each slot is revealed for one more
field_more : {X : Type 0} (f : Slot → X) (slots : List Slot) (s : Slot) (xs ys : List X) → map f slots ≡ xs → xs ++ f s ∷ [] ≡ ys → map f (slots ++ s ∷ []) ≡ ys
field_more f slots s xs ys is more = map-append f slots (s ∷ []) ∙ ap (λ l. l ++ f s ∷ []) is ∙ more

pub fresh_more : (slots : List Slot) (s : Slot) (n : ℕ) → lists_of slots ≡ fresh_lists n → s.kept ≡ None → s.head ≡ None → s.next ≡ None → s.order ≡ n → s.position ≡ n
    → lists_of (slots ++ s ∷ []) ≡ fresh_lists (n + 1)
fresh_more slots s n is kept head next order position =
    let own : 0 + n ≡ n = omega arith in
    let one_more : suc n ≡ n + 1 = omega arith in
    same_lists _ _ _ _ _ _ _ _ _ _ _ _
    (field_more (λ (t : Slot). option_map frame_of t.kept) slots s _ _ (ap (λ (l : Lists). l.frames) is) (rw kept (replicate_more n None)))
    (field_more (λ (t : Slot). t.head) slots s _ _ (ap (λ (l : Lists). l.heads) is) (rw head (replicate_more n None)))
    (field_more (λ (t : Slot). t.next) slots s _ _ (ap (λ (l : Lists). l.nexts) is) (rw next (replicate_more n None)))
    (field_more (λ (t : Slot). t.order) slots s _ _ (ap (λ (l : Lists). l.orders) is) (rw order (range_more 0 n n own ∙ ap (range_with_len 0) one_more)))
    (field_more (λ (t : Slot). t.position) slots s _ _ (ap (λ (l : Lists). l.positions) is) (rw position (range_more 0 n n own ∙ ap (range_with_len 0) one_more)))
    (field_more (λ (t : Slot). found_of t.kept) slots s _ _ (ap (λ (l : Lists). l.founds) is) (rw kept (replicate_more n nothing)))
