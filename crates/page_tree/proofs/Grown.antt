-- A root above the levels, the first leaf, and the header.
use Rattle.std.proofs.Common.{◌≡◌, ◌≢◌, inl, inr, ℕ, zero, suc, ◌+◌, ◌-◌, ◌*◌, ◌/◌, ◌^◌, ◌<◌, ◌≤◌, List, [], ◌∷◌, length, map, replicate, arith, refl, sym, ◌∙◌, ap, subst}
use Rattle.std.proofs.lemmas.Nat.{mul-le, div-add-mod', mod_below}
use Rattle.std.proofs.lemmas.List.{length-map}
use Rattle.flat_mem.specs.Memory.{overwritten}
use Rattle.page_tree.specs.Keys.{Item, AreInKeyOrder}
use Rattle.page_tree.specs.Page.{page_at, IsWidths, leaf_room, record_item, IsPageOf, IsInner, IsLeaf, count_in, root_in, top_in, free_in, levels_in, IsBlank}
use Rattle.page_tree.specs.Tree.{Node, node_at, items_of, heads, rows, frees, IsSettled, IsFilled, IsTree}
use Rattle.page_tree.specs.Change.{with_level}
use Rattle.page_tree.specs.Carry.{IsCarry}
use Rattle.page_tree.specs.Open.{IsOpen, IsTaken}
use Rattle.page_tree.specs.Put.{capacity_of}
use Rattle.page_tree.specs.Climb.{child_item, IsClimb, IsClosed, IsHead}
use Rattle.page_tree.proofs.Head.{blank_zeros}
use Rattle.page_tree.proofs.Levels.{length-heads}
use Rattle.page_tree.proofs.Once.{page_same, page_other, chain_kept, level_same}
use Rattle.page_tree.proofs.Inner.{links_fit}
use Rattle.page_tree.proofs.Room.{filled_sum}
use Rattle.page_tree.proofs.Carry.{grow_root}
use Rattle.page_tree.proofs.Descent.{within_shared}
use Rattle.page_tree.proofs.OpenLaws.{open_grow}
use Rattle.page_tree.proofs.StepLaws.{free_within}

-- the header that was written makes the whole a tree again
pub closed_tree : (e k pages : ℕ) (c : List ℕ) (records : List (List ℕ)) (levels root first top : ℕ) (head : List ℕ) → IsClosed e k pages c records levels root first top → 1 ≤ levels → levels ≤ 6 → 512 ≤ length c → length head ≡ 512
    → IsHead head (length records) root top first levels → IsBlank head → length records ≤ capacity_of e pages → IsTree e k pages (overwritten c (512 * 0) head) records
closed_tree e k pages c records levels root first top head closed some few size long is blank capacity = record {
  levels = levels;
  nodes = closed.nodes;
  free = closed.free;
  first = first;
  top = top;
  header = record {
    count_is = ap count_in here ∙ is.count_is;
    levels_is = ap levels_in here ∙ is.levels_is;
    levels_most = few;
    no_root = λ none. absurd (omega (arith, none, some));
    one_root = λ some_level. closed.one;
    root_is = λ some_level. ap root_in here ∙ is.root_is ∙ closed.root_is;
    free_is = ap free_in here ∙ is.free_is;
    top_is = ap top_in here ∙ is.top_is;
    top_below = closed.top_below;
    rest = subst IsBlank (sym here) blank;
  };
  tower = record {
    none = λ none. absurd (omega (arith, none, some));
    ascending = closed.order;
    listed = closed.listed;
    stored = λ l p some_l most below.
        let within = within_shared levels closed.nodes closed.free top closed.opened.shared l p some_l most below in
        subst (λ (x : List ℕ). IsPageOf e k l x (node_at (closed.nodes l) p).items) (sym (others (node_at (closed.nodes l) p).page within.0)) (closed.opened.stored l p some_l most below);
    filled = closed.opened.filled;
  };
  chain = chain_kept c (overwritten c (512 * 0) head) first closed.free (λ (q : ℕ) (is_free : 1 ≤ frees q closed.free). others q (free_within levels closed.nodes closed.free top closed.opened.shared q is_free).0) closed.opened.chain;
  shared = closed.opened.shared;
  capacity = capacity;
}
  where
    here : page_at (overwritten c (512 * 0) head) 0 ≡ head
    here = page_same c head 0 long (omega (arith, size))

    others : (q : ℕ) → 1 ≤ q → page_at (overwritten c (512 * 0) head) q ≡ page_at c q
    others q some_q = page_other c head 0 q long (omega (arith, size)) (omega (arith, some_q))

-- a page above the root that was split
pub grow_closed : (e k pages : ℕ) (b : List ℕ) (records : List (List ℕ)) (levels level : ℕ) (paths index key : List ℕ) (page root first top : ℕ) (climb : IsClimb e k pages b records levels level paths index key page root first top)
    → level ≡ levels → 1 ≤ levels → 512 * pages ≤ length b → (new above under : ℕ) (taken : IsTaken b climb.free top under above new) → new < pages → (bytes : List ℕ) → length bytes ≡ 512
    → IsInner k bytes (child_item [] root ∷ child_item key page ∷ []) → IsClosed e k pages (overwritten b (512 * new) bytes) records (levels + 1) new under above
grow_closed e k pages b records levels level paths index key page root first top climb at_top some size new above under taken new_small bytes long inner = record {
  nodes = with_level climb.nodes (levels + 1) (above_root ∷ []);
  free = taken.rest;
  opened = open_grow e k b levels climb.nodes climb.free first top climb.opened new above under taken (overwritten b (512 * new) bytes) above_root refl
      (subst (λ (x : List ℕ). IsPageOf e k (levels + 1) x (heads (climb.nodes levels))) (sym (page_same b bytes new long (omega (arith, new_small, size))))
      (record { leaf = λ one. absurd (omega (arith, one, some)); inner = λ inner_level. subst (λ (xs : List Item). IsInner k bytes xs) (sym (climb.tops at_top)) inner }))
      (climb.filled at_top)
      (λ (q : ℕ) (some_q : 1 ≤ q) (other : q ≢ new). page_other b bytes new q long (omega (arith, new_small, size)) other);
  listed = grow_root k records levels climb.nodes (climb.place level + 1) (child_item key page) new (subst (λ (l : ℕ). IsCarryAt l) at_top climb.carry) some;
  order = climb.order;
  one = ap length top_is;
  root_is = sym (ap (λ (ns : List Node). (node_at ns 0).page) top_is);
  top_below = elim taken.from [
    | inl listed ↦ omega (arith, listed.1, climb.top_below)
    | inr fresh ↦ omega (arith, fresh.3, fresh.2, new_small)
  ];
}
  where
    above_root : Node
    above_root = record { page = new; items = heads (climb.nodes levels) }

    top_is : with_level climb.nodes (levels + 1) (above_root ∷ []) (levels + 1) ≡ above_root ∷ []
    top_is = level_same climb.nodes (levels + 1) (above_root ∷ []) (levels + 1) refl

    IsCarryAt : ℕ → Type 0
    IsCarryAt l = IsCarry k records levels climb.nodes (l + 1) (climb.place level + 1) (child_item key page)

-- six levels under a split root would hold too many records
pub seventh : (e k pages : ℕ) (b : List ℕ) (records : List (List ℕ)) (levels level : ℕ) (paths index key : List ℕ) (page root first top : ℕ) → IsClimb e k pages b records levels level paths index key page root first top
    → level ≡ levels → levels ≡ 6 → IsWidths e k → pages ≤ 2 ^ 18 → length records ≤ capacity_of e pages → ⊥
seventh e k pages b records levels level paths index key page root first top climb at_top six widths few fits =
    let two : length (climb.nodes 6) ≡ 2 = sym (length-heads (climb.nodes 6)) ∙ ap (λ (l : ℕ). length (heads (climb.nodes l))) (sym six) ∙ ap length (climb.tops at_top) in
    let five = sixteen 5 (omega arith) (omega arith) in
    let four = sixteen 4 (omega arith) (omega arith) in
    let three = sixteen 3 (omega arith) (omega arith) in
    let second = sixteen 2 (omega arith) (omega arith) in
    let leaves = sixteen 1 (omega arith) (omega arith) in
    let sum = filled_sum 7 (climb.nodes 1) (λ (p : ℕ) (below : p < length (climb.nodes 1)). omega (arith, half.0, (filled 1 p (omega arith) (omega arith) below).leaf refl)) in
    let listed : length (items_of (climb.nodes 1)) ≡ length records = ap length (climb.carry.listed 0 (omega (arith, six)) (omega (arith, at_top, six))) ∙ length-map records (record_item k) in
    let most : (leaf_room e / 2 - 1) * (pages - 8) ≤ 9 * 2 ^ 18 = mul-le (leaf_room e / 2 - 1) (pages - 8) 9 (2 ^ 18) (omega (arith, half.1)) (omega (arith, few)) in
    omega (arith, two, five, four, three, second, leaves, sum, listed, most, fits)
  where
    filled : IsFilled e k (6 + 1) climb.nodes
    filled = subst (λ (l : ℕ). IsFilled e k (l + 1) climb.nodes) six (climb.filled at_top)

    half : (7 ≤ leaf_room e / 2) × (leaf_room e / 2 ≤ 10)
    half =
        let low : e * (leaf_room e + 1) ≤ 32 * (leaf_room e + 1) = mul-le e (leaf_room e + 1) 32 (leaf_room e + 1) widths.entry_most (omega arith) in
        let high : 24 * leaf_room e ≤ e * leaf_room e = mul-le 24 (leaf_room e) e (leaf_room e) widths.entry_least (omega arith) in
        (omega (arith, low, mod_below 504 e (omega (arith, widths.entry_least)), div-add-mod' 504 e), omega (arith, high, div-add-mod' 504 e))

    rows_length : (m : ℕ) → 0 < m → length (rows k records climb.nodes m) ≡ length (climb.nodes m)
    rows_length zero pos = absurd (omega arith)
    rows_length (suc m) pos = length-heads (climb.nodes (suc m))

    sixteen : (l : ℕ) → 0 < l → l < 6 → 16 * length (climb.nodes (l + 1)) ≤ length (climb.nodes l)
    sixteen l some below =
        let sum = filled_sum 16 (climb.nodes (l + 1)) (λ (p : ℕ) (p_below : p < length (climb.nodes (l + 1))). omega (arith, (links_fit k widths.some_key widths.key_most).2, (filled (l + 1) p (omega arith) (omega arith) p_below).inner (omega arith))) in
        omega (arith, sum, ap length (climb.carry.listed l (omega (arith, six)) (omega (arith, at_top, six))), rows_length l some)

-- the first record of all
pub first_closed : (e k pages : ℕ) (b : List ℕ) (r : List ℕ) (nodes : ℕ → List Node) (free : List ℕ) (first top : ℕ) → IsOpen e k b 0 nodes free first top → top < pages → 512 * pages ≤ length b
    → (new above under : ℕ) (taken : IsTaken b free top under above new) → new < pages → (bytes : List ℕ) → length bytes ≡ 512 → IsLeaf e k bytes (record_item k r ∷ []) → AreInKeyOrder (map (record_item k) (r ∷ []))
    → IsClosed e k pages (overwritten b (512 * new) bytes) (r ∷ []) 1 new under above
first_closed e k pages b r nodes free first top opened top_below size new above under taken new_small bytes long leaf order = record {
  nodes = with_level nodes 1 (node ∷ []);
  free = taken.rest;
  opened = open_grow e k b 0 nodes free first top opened new above under taken (overwritten b (512 * new) bytes) node refl
      (subst (λ (x : List ℕ). IsPageOf e k 1 x (record_item k r ∷ [])) (sym (page_same b bytes new long (omega (arith, new_small, size))))
      (record { leaf = λ one. leaf; inner = λ above_one. absurd (omega (arith, above_one)) }))
      (λ l p some most below. absurd (omega (arith, some, most)))
      (λ (q : ℕ) (some_q : 1 ≤ q) (other : q ≢ new). page_other b bytes new q long (omega (arith, new_small, size)) other);
  listed = settled;
  order = order;
  one = refl;
  root_is = refl;
  top_below = elim taken.from [
    | inl listed ↦ omega (arith, listed.1, top_below)
    | inr fresh ↦ omega (arith, fresh.3, fresh.2, new_small)
  ];
}
  where
    node : Node
    node = record { page = new; items = record_item k r ∷ [] }

    settled : IsSettled k (r ∷ []) 1 (with_level nodes 1 (node ∷ []))
    settled zero below = refl
    settled (suc l) below = absurd (omega (arith, below))

-- under a header of zeros there is a tree without records
pub headed_tree : (e k pages : ℕ) (b : List ℕ) → 1 ≤ pages → IsHead (page_at b 0) 0 0 0 0 0 → IsBlank (page_at b 0) → IsTree e k pages b []
headed_tree e k pages b some is blank = record {
  levels = 0;
  nodes = λ l. [];
  free = [];
  first = 0;
  top = 0;
  header = record {
    count_is = is.count_is;
    levels_is = is.levels_is;
    levels_most = omega arith;
    no_root = λ none. is.root_is;
    one_root = λ some_level. absurd (omega (arith, some_level));
    root_is = λ some_level. absurd (omega (arith, some_level));
    free_is = is.free_is;
    top_is = is.top_is;
    top_below = omega (arith, some);
    rest = blank;
  };
  tower = record {
    none = λ none. refl;
    ascending = λ i j order below. absurd (omega (arith, below));
    listed = λ l below. absurd (omega (arith, below));
    stored = λ l p some_l most below. absurd (omega (arith, some_l, most));
    filled = λ l p some_l most below. absurd (omega (arith, most));
  };
  chain = refl;
  shared = record {
    once = λ q least most. absurd (omega (arith, least, most));
    header = refl;
    past = λ q past. refl;
    counted = refl;
  };
  capacity = omega arith;
}

pub empty_tree : (e k pages : ℕ) (b head : List ℕ) → 512 ≤ length b → length head ≡ 512 → 1 ≤ pages → IsHead head 0 0 0 0 0 → IsBlank head → IsTree e k pages (overwritten b (512 * 0) head) []
empty_tree e k pages b head size long some is blank =
    let here : page_at (overwritten b (512 * 0) head) 0 ≡ head = page_same b head 0 long (omega (arith, size)) in
    headed_tree e k pages (overwritten b (512 * 0) head) some (subst (λ (x : List ℕ). IsHead x 0 0 0 0 0) (sym here) is) (subst IsBlank (sym here) blank)

zero_head : IsHead (replicate 512 0) 0 0 0 0 0
zero_head = record { count_is = refl; root_is = refl; top_is = refl; free_is = refl; levels_is = refl }

-- so a page of zeros is the header of the tree without records
pub zero_tree : (e k pages : ℕ) (b : List ℕ) → 1 ≤ pages → page_at b 0 ≡ replicate 512 0 → IsTree e k pages b []
zero_tree e k pages b some zeros = headed_tree e k pages b some (subst (λ (x : List ℕ). IsHead x 0 0 0 0 0) (sym zeros) zero_head) (subst IsBlank (sym zeros) blank_zeros)
