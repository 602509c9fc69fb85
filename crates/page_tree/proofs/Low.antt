-- The first step of an insertion: the leaf.
use Rattle.std.proofs.Common.{◌≡◌, inl, inr, ℕ, ◌+◌, ◌-◌, ◌*◌, ◌/◌, ◌^◌, ◌<◌, ◌≤◌, ◌⊎◌, true, false, List, [], ◌∷◌, length, take, drop, map, insert, arith, refl, sym, ◌∙◌, ap, subst}
use Rattle.std.proofs.lemmas.Bool.{cases_eq}
use Rattle.std.proofs.lemmas.List.{take-take}
use Rattle.flat_mem.specs.Memory.{part, overwritten}
use Rattle.page_tree.specs.Keys.{item_at, at_most, AreInKeyOrder}
use Rattle.page_tree.specs.Page.{IsWidths, leaf_room, page_at, filled, record_at, record_item, IsLeaf}
use Rattle.page_tree.specs.Tree.{Node, node_at, before, IsTower, IsTree, IsShared, IsChain}
use Rattle.page_tree.specs.Path.{IsReached}
use Rattle.page_tree.specs.Answer.{GoesTo, FromMemory}
use Rattle.page_tree.specs.Put.{capacity_of, FullOr}
use Rattle.page_tree.specs.Open.{IsOpen, IsTaken, CanTake}
use Rattle.page_tree.specs.Climb.{IsClimb, IsClosed, IsHalves, IsHead, IsReady, IsPutIn}
use Rattle.page_tree.specs.declared.error.TreeError.{TreeError}
use Rattle.page_tree.specs.declared.error.TreeError.TheVariants.{Full, Malformed, Mem}
use Rattle.page_tree.proofs.Grown.{first_closed}
use Rattle.page_tree.proofs.Order.{at_most_itself}
use Rattle.std.proofs.lemmas.Nat.{mul-le, div-add-mod'}
use Rattle.page_tree.proofs.Descent.{leaf, after_in_leaf, first_leaf, rooted}
use Rattle.page_tree.proofs.Carry.{begin_carry}
use Rattle.page_tree.proofs.Edit.{ascending_put}
use Rattle.page_tree.proofs.Room.{room_left}
use Rattle.page_tree.proofs.StepLaws.{put_bytes, split_bytes, can_take, free_within}

-- the tree by the numbers of its header
pub ready : (e k pages : ℕ) (b : List ℕ) (records : List (List ℕ)) (count root top first levels : ℕ) (tree : IsTree e k pages b records) → IsHead (page_at b 0) count root top first levels → 0 < levels → length records < capacity_of e pages
    → IsReady e k pages b records levels root first top
ready e k pages b records count root top first levels tree is some room = record {
  nodes = tree.nodes;
  free = tree.free;
  rooted = rooted e k pages b records tree levels root (sym is.levels_is) (sym is.root_is) some;
  chain = subst (λ (m : ℕ). IsChain b m tree.free) (sym tree.header.free_is ∙ is.free_is) tree.chain;
  shared = subst (λ (m : ℕ). IsShared m tree.nodes tree.free top) (sym tree.header.levels_is ∙ is.levels_is) (subst (λ (m : ℕ). IsShared tree.levels tree.nodes tree.free m) (sym tree.header.top_is ∙ is.top_is) tree.shared);
  top_below = omega (arith, tree.header.top_below, tree.header.top_is, is.top_is);
  capacity = room;
}

module _ (e k pages : ℕ) (b : List ℕ) (records : List (List ℕ)) (levels root first top : ℕ) (ready_now : IsReady e k pages b records levels root first top) (widths : IsWidths e k) (some : 0 < levels) (few : levels ≤ 6) (nine : 9 ≤ pages) (size : 512 * pages ≤ length b)
    (r key page paths index : List ℕ) (key_is : key ≡ take k r) (at : ℕ) (reached : IsReached b levels ready_now.nodes key page paths index at)
    (c : ℕ) (most : c ≤ filled page) (low_part : 0 < c → at_most (part page (8 + e * (c - 1)) k) key ≡ true) (next_part : c < filled page → at_most (part page (8 + e * c) k) key ≡ false) where
  abbrev nodes : ℕ → List Node
  nodes = ready_now.nodes

  tower : IsTower e k b records levels ready_now.nodes
  tower = ready_now.rooted.tower

  low : 0 < c → at_most (take k (record_at e page (c - 1))) key ≡ true
  low pos = ap (λ (x : List ℕ). at_most x key) (take-take k e (drop (8 + e * (c - 1)) page) (omega (arith, widths.key_most, widths.entry_least))) ∙ low_part pos

  next : c < filled page → at_most (take k (record_at e page c)) key ≡ false
  next more = ap (λ (x : List ℕ). at_most x key) (take-take k e (drop (8 + e * c) page) (omega (arith, widths.key_most, widths.entry_least))) ∙ next_part more

  pub old_leaf : IsLeaf e k page (node_at (ready_now.nodes 1) (reached.place 1)).items
  old_leaf = leaf e k b records levels ready_now.nodes tower some key page paths index at reached

  pos : ℕ
  pos = before (ready_now.nodes 1) (reached.place 1) + c

  after_key : GoesTo k records key (before (ready_now.nodes 1) (reached.place 1) + c)
  after_key = after_in_leaf e k b records levels ready_now.nodes tower some key page paths index at reached c most low next

  starts : (reached.place 1 ≡ 0) ⊎ (0 < c)
  starts = elim (cases_eq c 0) [
    | inl none ↦ inl (first_leaf e k b records levels ready_now.nodes tower some key page paths index at reached
        (ap (λ (m : ℕ). at_most (take k (record_at e page m)) key) (sym none) ∙ next (omega (arith, old_leaf.count, old_leaf.some, none))))
    | inr positive ↦ inr (omega (arith, positive))
  ]

  opened : IsOpen e k b levels ready_now.nodes ready_now.free first top
  opened = record { stored = tower.stored; filled = tower.filled; chain = ready_now.chain; shared = ready_now.shared }

  order : AreInKeyOrder (map (record_item k) (insert records (before (ready_now.nodes 1) (reached.place 1) + c) r))
  order = ascending_put k records (before (ready_now.nodes 1) (reached.place 1) + c) r tower.ascending (subst (λ (x : List ℕ). GoesTo k records x (before (ready_now.nodes 1) (reached.place 1) + c)) key_is after_key)

  inside : c ≤ length (node_at (ready_now.nodes 1) (reached.place 1)).items
  inside = omega (arith, most, old_leaf.count)

  root_small : root < pages
  root_small = omega (arith, (ready_now.rooted.within levels 0 some (omega arith) (omega (arith, ready_now.rooted.one))).1, ready_now.rooted.root_is)

  room : top + (6 - 0) < pages + length ready_now.free
  room =
      let left = room_left e k b records levels ready_now.nodes tower widths ready_now.rooted.one (λ (l : ℕ) (some_l : 0 < l) (most_l : l ≤ levels). omega (arith, reached.path.inside l (omega arith) most_l)) pages nine some (omega (arith, ready_now.capacity)) in
      omega (arith, left, ready_now.shared.counted)

  pub low_after : (at_pos : ℕ) → at_pos ≡ before (ready_now.nodes 1) (reached.place 1) + c → GoesTo k records key at_pos
  low_after at_pos same = subst (λ (m : ℕ). GoesTo k records key m) (sym same) after_key

  pub low_take : CanTake b ready_now.free first top pages
  low_take = can_take e k pages b levels ready_now.nodes ready_now.free first top opened ready_now.top_below 0 (omega arith) room

  pub low_put : (new : List ℕ) → length new ≡ 512 → IsLeaf e k new (insert (node_at (ready_now.nodes 1) (reached.place 1)).items c (record_item k r))
      → IsClosed e k pages (overwritten b (512 * at) new) (insert records (before (ready_now.nodes 1) (reached.place 1) + c) r) levels root first top
  low_put new long is =
      put_bytes e k pages b (insert records (before (ready_now.nodes 1) (reached.place 1) + c) r) levels ready_now.nodes ready_now.free first top opened 1 (before (ready_now.nodes 1) (reached.place 1) + c) c (record_item k r)
      (begin_carry k records levels ready_now.nodes (before (ready_now.nodes 1) (reached.place 1) + c) r tower.listed) (omega arith) some paths index at reached.place reached.path inside refl starts order ready_now.rooted.one root ready_now.rooted.root_is
      ready_now.top_below root_small size new long (record { leaf = λ one. is; inner = λ above. absurd (omega (arith, above)) })

  pub low_split : (left right new_key : List ℕ) → length left ≡ 512 → length right ≡ 512 → (new above under : ℕ) (taken : IsTaken b ready_now.free top under above new) → new < pages
      → IsHalves e k 1 (insert (node_at (ready_now.nodes 1) (reached.place 1)).items c (record_item k r)) left right new_key
      → IsClimb e k pages (overwritten (overwritten b (512 * at) left) (512 * new) right) (insert records (before (ready_now.nodes 1) (reached.place 1) + c) r) levels 1 paths index new_key new root under above
  low_split left right new_key long long_right new above under taken new_small halves =
      split_bytes e k pages b (insert records (before (ready_now.nodes 1) (reached.place 1) + c) r) levels ready_now.nodes ready_now.free first top opened 1 (before (ready_now.nodes 1) (reached.place 1) + c) c (record_item k r)
      (begin_carry k records levels ready_now.nodes (before (ready_now.nodes 1) (reached.place 1) + c) r tower.listed) (omega arith) some paths index at reached.place reached.path inside refl starts order ready_now.rooted.one root ready_now.rooted.root_is
      ready_now.top_below root_small size left right new_key long long_right new above under taken new_small 0 refl (omega arith) room halves

-- a tree without records
pub empty_open : (e k pages : ℕ) (b : List ℕ) (records : List (List ℕ)) (count root top first levels : ℕ) (tree : IsTree e k pages b records) → IsHead (page_at b 0) count root top first levels → levels ≡ 0 → 9 ≤ pages
    → IsOpen e k b 0 tree.nodes tree.free first top × (records ≡ []) × (top < pages) × CanTake b tree.free first top pages
empty_open e k pages b records count root top first levels tree is none nine = (
  record {
    stored = λ l p some most below. absurd (omega (arith, some, most));
    filled = λ l p some most below. absurd (omega (arith, most));
    chain = chain;
    shared = shared;
  },
  tree.tower.none tree_none,
  top_small,
  record {
    chain = chain;
    inside = λ q is_free. let w = free_within 0 tree.nodes tree.free top shared q is_free in (w.0, omega (arith, w.1, top_small));
    room = λ none_free. omega (arith, shared.counted, ap length none_free, nine);
  },
)
  where
    tree_none : tree.levels ≡ 0
    tree_none = sym tree.header.levels_is ∙ is.levels_is ∙ none

    top_is : tree.top ≡ top
    top_is = sym tree.header.top_is ∙ is.top_is

    top_small : top < pages
    top_small = omega (arith, tree.header.top_below, top_is)

    chain : IsChain b first tree.free
    chain = subst (λ (m : ℕ). IsChain b m tree.free) (sym tree.header.free_is ∙ is.free_is) tree.chain

    shared : IsShared 0 tree.nodes tree.free top
    shared = subst (λ (m : ℕ). IsShared m tree.nodes tree.free top) tree_none (subst (λ (m : ℕ). IsShared tree.levels tree.nodes tree.free m) top_is tree.shared)

pub first_put : (e k pages : ℕ) (b : List ℕ) (records : List (List ℕ)) (count root top first levels : ℕ) (tree : IsTree e k pages b records) → IsHead (page_at b 0) count root top first levels → levels ≡ 0 → 9 ≤ pages → 512 * pages ≤ length b
    → (new above under : ℕ) → IsTaken b tree.free top under above new → new < pages → (r bytes : List ℕ) → length bytes ≡ 512 → IsLeaf e k bytes (record_item k r ∷ []) → (reveals : List ℕ → Type 0) → reveals (overwritten b (512 * new) bytes)
    → IsPutIn e k pages reveals records r 1 new under above
first_put e k pages b records count root top first levels tree is none nine size new above under taken small r bytes long leaf_is reveals revealed = record {
  now = overwritten b (512 * new) bytes;
  revealed = revealed;
  at = 0;
  after = record { within = omega arith; after = record { below = λ j less. absurd (omega (arith, less)); above = λ j from below. absurd (omega (arith, below, ap length empty)) } };
  some = omega arith;
  few = omega arith;
  closed = subst (λ (xs : List (List ℕ)). IsClosed e k pages (overwritten b (512 * new) bytes) (insert xs 0 r) 1 new under above) (sym empty)
      (first_closed e k pages b r tree.nodes tree.free first top opened_now.0 opened_now.2 size new above under taken small bytes long leaf_is ascending_one);
}
  where
    opened_now : IsOpen e k b 0 tree.nodes tree.free first top × (records ≡ []) × (top < pages) × CanTake b tree.free first top pages
    opened_now = empty_open e k pages b records count root top first levels tree is none nine

    empty : records ≡ []
    empty = opened_now.1

    ascending_one : AreInKeyOrder (map (record_item k) (r ∷ []))
    ascending_one i j order below =
        let i_none : i ≡ 0 = omega (arith, order, below) in
        let j_none : j ≡ 0 = omega (arith, below) in
        ap (λ (m : ℕ). at_most (item_at (record_item k r ∷ []) m).key (item_at (record_item k r ∷ []) j).key) i_none ∙ ap (λ (m : ℕ). at_most (take k r) (item_at (record_item k r ∷ []) m).key) j_none ∙ at_most_itself (take k r)

pub capacity_small : (e pages : ℕ) → 24 ≤ e → pages ≤ 2 ^ 18 → capacity_of e pages < 2 ^ 23
capacity_small e pages least few =
    let room : 24 * leaf_room e ≤ 504 = omega (arith, mul-le 24 (leaf_room e) e (leaf_room e) least (omega arith), div-add-mod' 504 e) in
    omega (arith, mul-le (leaf_room e / 2 - 1) (pages - 8) 10 (2 ^ 18) (omega (arith, room)) (omega (arith, few)))

pub full_or : {X : Type 0} (e pages : ℕ) (reveals : List ℕ → Type 0) (b : List ℕ) (records : List (List ℕ)) (error : TreeError X) → FromMemory error → FullOr e pages reveals b records error
full_or e pages reveals b records Full h = absurd h
full_or e pages reveals b records (Malformed page) h = absurd h
full_or e pages reveals b records (Mem error) h = tt
