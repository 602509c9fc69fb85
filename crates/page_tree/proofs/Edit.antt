-- A record more in the list.
use Rattle.std.proofs.Common.{◌≡◌, ℕ, ◌<◌, ◌≤◌, List, [], ◌∷◌, ◌++◌, length, map, take, drop, insert, arith, sym, ◌∙◌, ap, subst}
use Rattle.std.proofs.lemmas.List.{length-map, map-append, take-map, drop-map, get_or-map}
use Rattle.page_tree.specs.Keys.{Item, no_item, item_at, at_most, AreInKeyOrder}
use Rattle.page_tree.specs.Page.{record_item}
use Rattle.flat_mem.specs.Order.{entry_at}
use Rattle.page_tree.specs.Answer.{GoesTo}
use Rattle.page_tree.proofs.Splice.{ascending_insert}

pub map_insert : {X Y : Type 0} (f : X → Y) (xs : List X) (i : ℕ) (x : X) → map f (insert xs i x) ≡ insert (map f xs) i (f x)
map_insert f xs i x =
    map-append f (take i xs) (x ∷ drop i xs)
    ∙ ap (λ (ys : List _). ys ++ f x ∷ map f (drop i xs)) (sym (take-map f i xs))
    ∙ ap (λ (ys : List _). take i (map f xs) ++ f x ∷ ys) (sym (drop-map f i xs))

-- the records stay in order
pub ascending_put : (k : ℕ) (records : List (List ℕ)) (at : ℕ) (r : List ℕ) → AreInKeyOrder (map (record_item k) records) → GoesTo k records (take k r) at → AreInKeyOrder (map (record_item k) (insert records at r))
ascending_put k records at r ascending after = subst AreInKeyOrder (sym (map_insert (record_item k) records at r))
    (ascending_insert (map (record_item k) records) at (record_item k r) ascending (omega (arith, after.within, length-map records (record_item k)))
    (λ (q : ℕ) (less : q < at). ap (λ (x : List ℕ). at_most x (take k r)) (item_record q (omega (arith, after.within, less))) ∙ after.after.below q less)
    (λ (q : ℕ) (more : at ≤ q) (below : q < length (map (record_item k) records)).
    let q_below : q < length records = omega (arith, below, length-map records (record_item k)) in
    ap (λ (x : List ℕ). at_most x (take k r)) (item_record q q_below) ∙ after.after.above q more q_below))
  where
    item_record : (q : ℕ) → q < length records → (item_at (map (record_item k) records) q).key ≡ take k (entry_at records q)
    item_record q below = ap (λ (x : Item). x.key) (get_or-map (record_item k) records q [] no_item below)
