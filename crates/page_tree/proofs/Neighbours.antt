-- Two neighbours that become one page, or of which one gives the other an item.
use Rattle.std.proofs.Common.{◌≢◌, ◌≡◌, inl, inr, ℕ, ◌+◌, ◌-◌, ◌*◌, ◌/◌, ◌^◌, ◌<◌, ◌≤◌, ◌⊎◌, List, ◌++◌, length, take, drop, insert, arith, refl, sym, ◌∙◌, ap, subst, length-take, length-append}
use Rattle.std.proofs.lemmas.Nat.{mul-le, div-add-mod'}
use Rattle.std.proofs.lemmas.List.{take-take}
use Rattle.std.proofs.lemmas.List.Edits.{length-insert, get_or-insert_at}
use Rattle.std.proofs.Math.Seq.{take-append_seam, drop-append_seam}
use Rattle.flat_mem.specs.Memory.{part}
use Rattle.flat_mem.specs.Parts.{length-part}
use Rattle.page_tree.specs.Keys.{Item, no_item, item_at}
use Rattle.page_tree.specs.Page.{IsWidths, leaf_room, key_room, filled, key_at, link_at, record_at, record_item, IsInner, IsLeaf, IsPageOf, IsEnough}
use Rattle.page_tree.specs.Change.{with_record, with_count, with_child, without}
use Rattle.page_tree.specs.Copied.{leaf_without, inner_without}
use Rattle.page_tree.specs.Climb.{IsHalves}
use Rattle.page_tree.specs.Neighbours.{IsLean, IsUnderfull}
use Rattle.page_tree.proofs.Inner.{links_fit, inner_put}
use Rattle.page_tree.proofs.Halves.{inner_prefix, leaf_prefix}
use Rattle.page_tree.proofs.SplitLaws.{leaf_with}
use Rattle.page_tree.proofs.Less.{leaf_less, length-without, without_above}
use Rattle.page_tree.proofs.InnerLess.{inner_less}
use Rattle.page_tree.proofs.Shift.{shift_left, shift_right}

pub page_of_leaf : (e k l : ℕ) (bytes : List ℕ) (xs : List Item) → l ≡ 1 → IsLeaf e k bytes xs → IsPageOf e k l bytes xs
page_of_leaf e k l bytes xs low is = record { leaf = λ one. is; inner = λ above. absurd (omega (arith, above, low)) }

pub page_of_inner : (e k l : ℕ) (bytes : List ℕ) (xs : List Item) → 1 < l → IsInner k bytes xs → IsPageOf e k l bytes xs
page_of_inner e k l bytes xs high is = record { leaf = λ one. absurd (omega (arith, one, high)); inner = λ above. is }

enough_at : (e k l n m : ℕ) → n ≡ m → IsEnough e k l n → IsEnough e k l m
enough_at e k l n m same enough = record { leaf = λ one. omega (arith, same, enough.leaf one); inner = λ above. omega (arith, same, enough.inner above) }

-- two lists that make one
halves_of : (e k l : ℕ) (zs prefix back : List Item) (left right key : List ℕ) → prefix ++ back ≡ zs → 0 < length prefix → 0 < length back → IsPageOf e k l left prefix → IsPageOf e k l right back
    → IsEnough e k l (length prefix) → IsEnough e k l (length back) → key ≡ (item_at back 0).key → IsHalves e k l zs left right key
halves_of e k l zs prefix back left right key is some more left_is right_is enough enough' key_is = record {
  m = length prefix;
  some = some;
  more = omega (arith, long, more);
  prefix = subst (λ (xs : List Item). IsPageOf e k l left xs) (sym prefix_is) left_is;
  back = subst (λ (xs : List Item). IsPageOf e k l right xs) (sym back_is) right_is;
  prefix_enough = enough;
  back_enough = enough_at e k l (length back) (length zs - length prefix) (omega (arith, long)) enough';
  key_is = key_is ∙ sym (ap (λ (xs : List Item). (item_at xs 0).key) back_is);
}
  where
    long : length zs ≡ length prefix + length back
    long = ap length (sym is) ∙ length-append prefix back

    prefix_is : take (length prefix) zs ≡ prefix
    prefix_is = ap (take (length prefix)) (sym is) ∙ take-append_seam prefix back

    back_is : drop (length prefix) zs ≡ back
    back_is = ap (drop (length prefix)) (sym is) ∙ drop-append_seam prefix back

first_key_is : (e k : ℕ) (bytes : List ℕ) (zs : List Item) → IsWidths e k → IsLeaf e k bytes zs → part bytes 8 k ≡ (item_at zs 0).key
first_key_is e k bytes zs widths is =
    let first : 8 + e * 0 ≡ 8 = omega arith in
    sym (ap (λ (x : Item). x.key) (is.lists 0 (omega (arith, is.some))) ∙ ap (λ (i : ℕ). take k (part bytes i e)) first ∙ take-take k e (drop 8 bytes) (omega (arith, widths.key_most, widths.entry_least)))

pub record_long : (e : ℕ) {k : ℕ} (page : List ℕ) (i : ℕ) → IsWidths e k → length page ≡ 512 → i < leaf_room e → length (record_at e page i) ≡ e
record_long e page i widths long inside =
    let ends : e * (i + 1) ≤ e * leaf_room e = mul-le e (i + 1) e (leaf_room e) (omega arith) (omega (arith, inside)) in
    length-part page (8 + e * i) e (omega (arith, long, ends, div-add-mod' 504 e, widths.entry_least))

module _ (e k : ℕ) (left : List ℕ) (xs : List Item) (right : List ℕ) (ys : List Item) (n m : ℕ) (widths : IsWidths e k) (leaf : IsLeaf e k left xs) (leaf' : IsLeaf e k right ys)
    (long : length left ≡ 512) (long' : length right ≡ 512) (count : n ≡ filled left) (count' : m ≡ filled right) (entry : List ℕ) where
  pub leaf_shift_left : n < leaf_room e → 2 ≤ m → IsEnough e k 1 (length xs + 1) → IsEnough e k 1 (length ys - 1) → entry ≡ record_at e right 0
      → IsHalves e k 1 (xs ++ ys) (with_record e left n n entry) (leaf_without e right m 0) (part (leaf_without e right m 0) 8 k)
  leaf_shift_left room two enough enough' is =
      halves_of e k 1 (xs ++ ys) (insert xs n (record_item k entry)) (without ys 0) (with_record e left n n entry) (leaf_without e right m 0) (part (leaf_without e right m 0) 8 k)
      (ap (λ (i : ℕ). insert xs i (record_item k entry) ++ without ys 0) size ∙ ap (λ (x : Item). insert xs (length xs) x ++ without ys 0) moved ∙ shift_left xs ys (omega (arith, leaf'.some)))
      (omega (arith, long_prefix)) (omega (arith, long_back, two))
      (page_of_leaf e k 1 _ _ refl (leaf_with e k left xs n n entry widths.entry_least widths.entry_most leaf long count (omega arith) room (ap length is ∙ record_long e right 0 widths long' (omega (arith, size', leaf'.most, two)))))
      (page_of_leaf e k 1 _ _ refl less)
      (enough_at e k 1 (length xs + 1) (length (insert xs n (record_item k entry))) (sym long_prefix) enough)
      (enough_at e k 1 (length ys - 1) (length (without ys 0)) (omega (arith, long_back, size')) enough')
      (first_key_is e k (leaf_without e right m 0) (without ys 0) widths less)
    where
      size : n ≡ length xs
      size = omega (arith, count, leaf.count)

      size' : m ≡ length ys
      size' = omega (arith, count', leaf'.count)

      moved : record_item k entry ≡ item_at ys 0
      moved = ap (record_item k) is ∙ sym (leaf'.lists 0 (omega (arith, leaf'.some)))

      long_prefix : length (insert xs n (record_item k entry)) ≡ length xs + 1
      long_prefix = length-insert xs n (record_item k entry) (omega (arith, size))

      long_back : length (without ys 0) + 1 ≡ m
      long_back = omega (arith, length-without ys 0 (omega (arith, leaf'.some)), size')

      less : IsLeaf e k (leaf_without e right m 0) (without ys 0)
      less = leaf_less e k right ys m 0 (omega (arith, widths.entry_least)) leaf' long' count' (omega (arith, two)) two

  pub leaf_shift_right : m < leaf_room e → 2 ≤ n → IsEnough e k 1 (length xs - 1) → IsEnough e k 1 (length ys + 1) → entry ≡ record_at e left (n - 1)
      → IsHalves e k 1 (xs ++ ys) (with_count left (n - 1)) (with_record e right m 0 entry) (part (with_record e right m 0 entry) 8 k)
  leaf_shift_right room two enough enough' is =
      halves_of e k 1 (xs ++ ys) (take (n - 1) xs) (insert ys 0 (record_item k entry)) (with_count left (n - 1)) (with_record e right m 0 entry) (part (with_record e right m 0 entry) 8 k)
      (ap (λ (x : Item). take (n - 1) xs ++ insert ys 0 x) moved ∙ shift_right xs ys (n - 1) (omega (arith, size, two)))
      (omega (arith, long_prefix, two)) (omega (arith, long_back))
      (page_of_leaf e k 1 _ _ refl (leaf_prefix e k left xs n (n - 1) (omega (arith, widths.entry_least)) leaf long count (omega (arith, two)) (omega arith)))
      (page_of_leaf e k 1 _ _ refl more)
      (enough_at e k 1 (length xs - 1) (length (take (n - 1) xs)) (omega (arith, long_prefix, size)) enough)
      (enough_at e k 1 (length ys + 1) (length (insert ys 0 (record_item k entry))) (sym long_back) enough')
      (first_key_is e k (with_record e right m 0 entry) (insert ys 0 (record_item k entry)) widths more)
    where
      size : n ≡ length xs
      size = omega (arith, count, leaf.count)

      moved : record_item k entry ≡ item_at xs (n - 1)
      moved = ap (record_item k) is ∙ sym (leaf.lists (n - 1) (omega (arith, size, two)))

      long_prefix : length (take (n - 1) xs) ≡ n - 1
      long_prefix = omega (arith, length-take (n - 1) xs, size)

      long_back : length (insert ys 0 (record_item k entry)) ≡ length ys + 1
      long_back = length-insert ys 0 (record_item k entry) (omega arith)

      more : IsLeaf e k (with_record e right m 0 entry) (insert ys 0 (record_item k entry))
      more = leaf_with e k right ys m 0 entry widths.entry_least widths.entry_most leaf' long' count' (omega arith) room (ap length is ∙ record_long e left (n - 1) widths long (omega (arith, size, leaf.most, two)))

module _ (e k l : ℕ) (left : List ℕ) (xs : List Item) (right : List ℕ) (ys : List Item) (n m : ℕ) (key : List ℕ) (high : 1 < l) (some : 1 ≤ k) (most : k ≤ 12) (inner : IsInner k left xs) (inner' : IsInner k right ys)
    (long : length left ≡ 512) (long' : length right ≡ 512) (count : n ≡ filled left) (count' : m ≡ filled right) (width : length key ≡ k) (named : (item_at ys 0).key ≡ key) (link : ℕ) (small : link < 2 ^ 32) where
  size : n + 1 ≡ length xs
  size = omega (arith, count, inner.count)

  size' : m + 1 ≡ length ys
  size' = omega (arith, count', inner'.count)

  put_item : (bytes : List ℕ) (zs : List Item) (i slot at : ℕ) (item : Item) → IsInner k bytes zs → length bytes ≡ 512 → i ≡ filled bytes → i < key_room k → at ≤ i + 1 → slot ≡ at - 1 → (item_at (insert zs at item) (slot + 1)).key ≡ key → item.page ≡ link
      → IsInner k (with_child k bytes i slot key at link) (insert zs at item)
  put_item bytes zs i slot at item is bytes_long i_is room place slot_is item_named linked =
      subst (λ (q : ℕ). IsInner k (with_child k bytes i slot key at q) (insert zs at item)) linked
      (inner_put k bytes zs i slot at key item some most is bytes_long i_is room place slot_is width item_named (omega (arith, linked, small)))

  pub inner_shift_left : n < key_room k → 2 ≤ m → IsEnough e k l (length xs + 1) → IsEnough e k l (length ys - 1) → link ≡ link_at k right 0
      → IsHalves e k l (xs ++ ys) (with_child k left n n key (n + 1) link) (inner_without k right m 0 0) (key_at k right 0)
  inner_shift_left room two enough enough' is =
      halves_of e k l (xs ++ ys) (insert xs (n + 1) (item_at ys 0)) (without ys 0) (with_child k left n n key (n + 1) link) (inner_without k right m 0 0) (key_at k right 0)
      (ap (λ (i : ℕ). insert xs i (item_at ys 0) ++ without ys 0) size ∙ shift_left xs ys (omega (arith, inner'.some)))
      (omega (arith, long_prefix)) (omega (arith, long_back, two))
      (page_of_inner e k l _ _ high (put_item left xs n n (n + 1) (item_at ys 0) inner long count room (omega arith) (omega arith)
      (ap (λ (x : Item). x.key) (get_or-insert_at xs (n + 1) (item_at ys 0) no_item (omega (arith, size))) ∙ named) (inner'.links 0 (omega (arith, inner'.some)) ∙ sym is)))
      (page_of_inner e k l _ _ high (inner_less k right ys m 0 0 some most inner' long' count' (omega arith) refl two))
      (enough_at e k l (length xs + 1) (length (insert xs (n + 1) (item_at ys 0))) (sym long_prefix) enough)
      (enough_at e k l (length ys - 1) (length (without ys 0)) (omega (arith, long_back, size')) enough')
      (sym (ap (λ (x : Item). x.key) (without_above ys 0 0 (omega (arith, inner'.some)) (omega arith)) ∙ inner'.keys 0 (omega (arith, inner'.some))))
    where
      long_prefix : length (insert xs (n + 1) (item_at ys 0)) ≡ length xs + 1
      long_prefix = length-insert xs (n + 1) (item_at ys 0) (omega (arith, size))

      long_back : length (without ys 0) + 1 ≡ m + 1
      long_back = omega (arith, length-without ys 0 (omega (arith, inner'.some)), size')

  pub inner_shift_right : m < key_room k → 2 ≤ n → IsEnough e k l (length xs - 1) → IsEnough e k l (length ys + 1) → link ≡ link_at k left n
      → IsHalves e k l (xs ++ ys) (with_count left (n - 1)) (with_child k right m 0 key 0 link) (key_at k left (n - 1))
  inner_shift_right room two enough enough' is =
      halves_of e k l (xs ++ ys) (take n xs) (insert ys 0 (item_at xs n)) (with_count left (n - 1)) (with_child k right m 0 key 0 link) (key_at k left (n - 1))
      (shift_right xs ys n (sym size))
      (omega (arith, long_prefix, two)) (omega (arith, long_back))
      (page_of_inner e k l _ _ high (inner_prefix k left xs n n some most inner long count two (omega arith)))
      (page_of_inner e k l _ _ high (put_item right ys m 0 0 (item_at xs n) inner' long' count' room (omega arith) refl named (inner.links n (omega (arith, size)) ∙ sym is)))
      (enough_at e k l (length xs - 1) (length (take n xs)) (omega (arith, long_prefix, size)) enough)
      (enough_at e k l (length ys + 1) (length (insert ys 0 (item_at xs n))) (sym long_back) enough')
      (sym (let back : n ≡ (n - 1) + 1 = omega (arith, two) in ap (λ (i : ℕ). (item_at xs i).key) back ∙ inner.keys (n - 1) (omega (arith, size, two))))
    where
      long_prefix : length (take n xs) ≡ n
      long_prefix = omega (arith, length-take n xs, size)

      long_back : length (insert ys 0 (item_at xs n)) ≡ length ys + 1
      long_back = length-insert ys 0 (item_at xs n) (omega arith)

-- joined they are enough, as each was so but for one
pub leaf_room_least : (e : ℕ) → 24 ≤ e → e ≤ 32 → (15 ≤ leaf_room e) × (leaf_room e ≤ 21)
leaf_room_least e least most =
    let whole = div-add-mod' 504 e in
    let over : e * (leaf_room e + 1) ≡ e * leaf_room e + e = omega arith in
    (omega (arith, mul-le e (leaf_room e + 1) 32 (leaf_room e + 1) most (omega arith), whole, least, over), omega (arith, mul-le 24 (leaf_room e) e (leaf_room e) least (omega arith), whole))

pub both_enough : (e k l n m : ℕ) → 1 ≤ k → k ≤ 12 → 24 ≤ e → e ≤ 32 → IsEnough e k l (n + 1) → IsEnough e k l (m + 1) → IsEnough e k l (n + m)
both_enough e k l n m some most least entry_most enough enough' = record {
  leaf = λ one. omega (arith, enough.leaf one, enough'.leaf one, leaf_room_least e least entry_most);
  inner = λ above. omega (arith, enough.inner above, enough'.inner above, (links_fit k some most).2);
}

pub inner_both : (e k l n m : ℕ) → 1 < l → 1 ≤ k → k ≤ 12 → IsEnough e k l (n + 1) → IsEnough e k l (m + 1) → IsEnough e k l (n + m)
inner_both e k l n m high some most enough enough' = record {
  leaf = λ one. absurd (omega (arith, one, high));
  inner = λ above. omega (arith, enough.inner above, enough'.inner above, (links_fit k some most).2);
}

-- of two inner pages of n and m keys that are too many for one page, and of which one is underfull, the first has one to lend
pub inner_lends : (e k l n m long : ℕ) → 1 < l → n + 1 ≡ long → key_room k ≤ n + m → m ≤ n → (n < key_room k / 2) ⊎ (m < key_room k / 2) → (key_room k / 2 < n) × IsEnough e k l (long - 1)
inner_lends e k l n m long high is many order underfull = (
  more,
  record { leaf = λ one. absurd (omega (arith, one, high)); inner = λ above. omega (arith, is, more) },
)
  where
    more : key_room k / 2 < n
    more = elim underfull [
      | inl left ↦ omega (arith, left, many, order)
      | inr right ↦ omega (arith, right, many)
    ]

-- an underfull page and one within its room are not both nearly full
pub lean_first : (e k l n m : ℕ) → IsUnderfull e k l n → (l ≡ 1 → m ≤ leaf_room e) → (l ≢ 1 → m ≤ key_room k) → IsLean e k l n m
lean_first e k l n m underfull leaf inner = record {
  leaf_left = λ one. omega (arith, underfull.leaf one);
  leaf_right = leaf;
  leaf_both = λ one. omega (arith, underfull.leaf one, leaf one);
  inner_left = λ other. omega (arith, underfull.inner other);
  inner_right = inner;
  inner_both = λ other. omega (arith, underfull.inner other, inner other);
}

pub lean_second : (e k l n m : ℕ) → IsUnderfull e k l m → (l ≡ 1 → n ≤ leaf_room e) → (l ≢ 1 → n ≤ key_room k) → IsLean e k l n m
lean_second e k l n m underfull leaf inner = record {
  leaf_left = leaf;
  leaf_right = λ one. omega (arith, underfull.leaf one);
  leaf_both = λ one. omega (arith, underfull.leaf one, leaf one);
  inner_left = inner;
  inner_right = λ other. omega (arith, underfull.inner other);
  inner_both = λ other. omega (arith, underfull.inner other, inner other);
}
