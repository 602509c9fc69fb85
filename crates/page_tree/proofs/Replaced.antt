-- A leaf in which a record is another, and lists that keep their order.
use Rattle.std.proofs.Common.{◌≡◌, ◌≢◌, inl, inr, ℕ, zero, suc, ◌+◌, ◌*◌, ◌<◌, ◌≤◌, true, List, [], ◌∷◌, length, map, take, remove, slice_set, arith, refl, sym, ◌∙◌, ap, subst}
use Rattle.std.proofs.lemmas.List.{length-set}
use Rattle.std.proofs.lemmas.Bool.{cases_lt, cases_eq}
use Rattle.std.proofs.lemmas.List.{length-map, get_or-map}
use Rattle.std.proofs.lemmas.Nat.{mul-le, div-add-mod'}
use Rattle.byteorder.specs.Endian.{big_number}
use Rattle.flat_mem.specs.Memory.{overwritten}
use Rattle.flat_mem.specs.Parts.{length-overwritten, part-overwritten_same, part-overwritten_below, part-overwritten_above}
use Rattle.flat_mem.specs.Order.{key_at, entry_at}
use Rattle.page_tree.specs.Keys.{Item, no_item, item_at, at_most, AreInKeyOrder}
use Rattle.page_tree.specs.Page.{leaf_room, filled, record_at, record_item, IsLeaf}
use Rattle.page_tree.specs.Tree.{before}
use Rattle.page_tree.specs.Change.{splice, without}
use Rattle.page_tree.specs.Due.{swapped, IsDue}
use Rattle.page_tree.specs.Path.{IsPath}
use Rattle.page_tree.specs.SectorState.{IsSectorState}
use Rattle.page_tree.specs.Rebalance.{IsRebalance}
use Rattle.page_tree.proofs.Cells.{kind_kept}
use Rattle.page_tree.proofs.Changed.{length-splice}
use Rattle.page_tree.proofs.InnerNamed.{spliced_here, spliced_other}
use Rattle.page_tree.proofs.Swapped.{swapped_one, map_swapped}
use Rattle.page_tree.specs.Page.{IsWidths, page_at, IsBlank, IsEnough}
use Rattle.page_tree.specs.Tree.{node_at, IsChain, IsShared, IsTower, IsTree}
use Rattle.page_tree.specs.Put.{capacity_of}
use Rattle.page_tree.specs.Climb.{IsHead, IsClosed}
use Rattle.page_tree.specs.Underfull.{IsPending}
use Rattle.page_tree.proofs.Due.{begin_due, begin_lack}
use Rattle.page_tree.proofs.RebalanceEnds.{map_without, ascending_without}
use Rattle.page_tree.proofs.Order.{at_most_itself}
use Rattle.page_tree.proofs.Descent.{rooted}
use Rattle.page_tree.proofs.PlacedLaws.{placed_leaf, placed_below, placed_record}
use Rattle.page_tree.proofs.Neighbours.{page_of_leaf}
use Rattle.page_tree.proofs.Once.{page_other}
use Rattle.page_tree.proofs.KeyUpdated.{pending_closed}

-- the words of lists
pub removed_is : {X : Type 0} (xs : List X) (p : ℕ) → p < length xs → remove xs p ≡ without xs p
removed_is [] p below = absurd (omega (arith, below))
removed_is (x ∷ xs) zero below = refl
removed_is (x ∷ xs) (suc p) below = ap (λ (ys : List _). x ∷ ys) (removed_is xs p (omega (arith, below)))

pub set_is : {X : Type 0} (xs : List X) (p : ℕ) (x : X) → p < length xs → slice_set xs p x ≡ swapped xs p 1 (x ∷ [])
set_is [] p x below = absurd (omega (arith, below))
set_is (y ∷ xs) zero x below = refl
set_is (y ∷ xs) (suc p) x below = ap (λ (ys : List _). y ∷ ys) (set_is xs p x (omega (arith, below)))

module _ (e k : ℕ) (page : List ℕ) (xs : List Item) (at : ℕ) (entry : List ℕ) (least : 24 ≤ e) (leaf : IsLeaf e k page xs) (long : length page ≡ 512) (place : at < length xs) (width : length entry ≡ e) where
  ends : e * (at + 1) ≤ 504
  ends = omega (arith, mul-le e (at + 1) e (leaf_room e) (omega arith) (omega (arith, place, leaf.most)), div-add-mod' 504 e)

  fits : 8 + e * at + length entry ≤ length page
  fits = omega (arith, long, width, ends)

  long_ys : length (splice xs at (record_item k entry ∷ [])) ≡ length xs
  long_ys = omega (arith, length-splice xs at (record_item k entry ∷ []) place)

  pub length-leaf_set : length (overwritten page (8 + e * at) entry) ≡ 512
  length-leaf_set = length-overwritten page entry (8 + e * at) fits ∙ long

  pub leaf_set : IsLeaf e k (overwritten page (8 + e * at) entry) (splice xs at (record_item k entry ∷ []))
  leaf_set = record {
    kind = kind_kept page entry (8 + e * at) (omega arith) fits ∙ leaf.kind;
    count = omega (arith, ap (big_number 2) (part-overwritten_below page entry (8 + e * at) 2 2 (omega arith) fits), leaf.count, long_ys);
    some = omega (arith, leaf.some, long_ys);
    most = omega (arith, leaf.most, long_ys);
    lists = λ i inside. elim (cases_eq i at) [
      | inl same ↦
          spliced_here xs at i (record_item k entry) place same
          ∙ ap (record_item k) (sym (ap (λ (q : ℕ). record_at e (overwritten page (8 + e * at) entry) q) same ∙ part-overwritten_same page entry (8 + e * at) e width fits))
      | inr other ↦
          spliced_other xs at i (record_item k entry) place other ∙ leaf.lists i (omega (arith, inside, long_ys)) ∙ ap (record_item k) (sym (stays i other))
    ];
  }
    where
      stays : (i : ℕ) → i ≢ at → record_at e (overwritten page (8 + e * at) entry) i ≡ record_at e page i
      stays i other = elim (cases_lt i at) [
        | inl low ↦ part-overwritten_below page entry (8 + e * at) (8 + e * i) e (omega (arith, mul-le e (i + 1) e at (omega arith) (omega (arith, low)))) fits
        | inr not ↦ part-overwritten_above page entry (8 + e * at) (8 + e * i) e (omega (arith, width, mul-le e (at + 1) e i (omega arith) (omega (arith, not, other)))) fits
      ]

-- an item that stands between its neighbours
pub ascending_between : (xs : List Item) (p : ℕ) (x : Item) → AreInKeyOrder xs → p < length xs → ((q : ℕ) → q < p → at_most (item_at xs q).key x.key ≡ true) → ((q : ℕ) → p < q → q < length xs → at_most x.key (item_at xs q).key ≡ true) → at_most x.key x.key ≡ true
    → AreInKeyOrder (splice xs p (x ∷ []))
ascending_between xs p x ascending below low high itself i j order inside = elim (cases_eq i p) [
  | inl i_is ↦ elim (cases_eq j p) [
    | inl j_is ↦ let a = spliced_here xs p i x below i_is in let c = spliced_here xs p j x below j_is in rw (a, c) itself
    | inr j_not ↦ let a = spliced_here xs p i x below i_is in let c = spliced_other xs p j x below j_not in rw (a, c) (high j (omega (arith, order, i_is, j_not)) (omega (arith, inside, long)))
  ]
  | inr i_not ↦ elim (cases_eq j p) [
    | inl j_is ↦ let a = spliced_other xs p i x below i_not in let c = spliced_here xs p j x below j_is in rw (a, c) (low i (omega (arith, order, j_is, i_not)))
    | inr j_not ↦ let a = spliced_other xs p i x below i_not in let c = spliced_other xs p j x below j_not in rw (a, c) (ascending i j order (omega (arith, inside, long)))
  ]
]
  where
    long : length (splice xs p (x ∷ [])) ≡ length xs
    long = omega (arith, length-splice xs p (x ∷ []) below)

-- a record is to be replaced
abbrev pub begin_set : (e k pages : ℕ) (b : List ℕ) (records : List (List ℕ)) (levels root first top : ℕ) (ready : IsSectorState e k pages b records levels root first top)
    (paths index : List ℕ) (home : ℕ) (place : ℕ → ℕ) → IsPath ready.nodes levels 1 paths index home place → (pos slot : ℕ) (entry : List ℕ) → pos < length records → pos ≡ before (ready.nodes 1) (place 1) + slot
    → ((q : ℕ) → q < pos → at_most (key_at k records q) (take k entry) ≡ true) → ((q : ℕ) → pos < q → q < length records → at_most (take k entry) (key_at k records q) ≡ true) → at_most (take k entry) (take k entry) ≡ true
    → IsRebalance e k pages b (slice_set records pos entry) levels 1 paths index home slot 1 (record_item k entry ∷ []) root first top
begin_set e k pages b records levels root first top ready paths index home place path pos slot entry below is low high itself = record {
  nodes = ready.nodes;
  free = ready.free;
  place = place;
  pos = pos;
  opened = record { stored = ready.rooted.tower.stored; filled = ready.rooted.tower.filled; chain = ready.chain; shared = ready.shared };
  due = subst (λ (xs : List (List ℕ)). IsDue k xs levels ready.nodes 1 pos 1 (record_item k entry ∷ [])) (sym (set_is records pos entry below)) (begin_due k records levels ready.nodes pos 1 (entry ∷ []) ready.rooted.tower.listed);
  path = path;
  pos_is = is;
  order = subst AreInKeyOrder (sym items_are)
      (ascending_between (map (record_item k) records) pos (record_item k entry) ready.rooted.tower.ascending (omega (arith, below, long))
      (λ (q : ℕ) (less : q < pos). ap (λ (x : Item). at_most x.key (take k entry)) (item q (omega (arith, less, below))) ∙ low q less)
      (λ (q : ℕ) (more : pos < q) (inside : q < length (map (record_item k) records)). ap (λ (x : Item). at_most (take k entry) x.key) (item q (omega (arith, inside, long))) ∙ high q more (omega (arith, inside, long)))
      itself);
  one = ready.rooted.one;
  root_is = ready.rooted.root_is;
  top_below = ready.top_below;
}
  where
    long : length (map (record_item k) records) ≡ length records
    long = length-map records (record_item k)

    item : (q : ℕ) → q < length records → item_at (map (record_item k) records) q ≡ record_item k (entry_at records q)
    item q inside = get_or-map (record_item k) records q [] no_item inside

    items_are : map (record_item k) (slice_set records pos entry) ≡ splice (map (record_item k) records) pos (record_item k entry ∷ [])
    items_are = ap (map (record_item k)) (set_is records pos entry below) ∙ map_swapped (record_item k) records pos 1 (entry ∷ []) ∙ swapped_one (map (record_item k) records) pos (record_item k entry ∷ []) (omega (arith, below, long))

-- a record is to be taken out
abbrev pub begin_out : (e k pages : ℕ) (b : List ℕ) (records : List (List ℕ)) (levels root first top : ℕ) (sector_state : IsSectorState e k pages b records levels root first top)
    (paths index : List ℕ) (home : ℕ) (place : ℕ → ℕ) → IsPath sector_state.nodes levels 1 paths index home place → (pos slot : ℕ) → pos < length records → pos ≡ before (sector_state.nodes 1) (place 1) + slot
    → IsRebalance e k pages b (remove records pos) levels 1 paths index home slot 1 [] root first top
begin_out e k pages b records levels root first top sector_state paths index home place path pos slot below is = record {
  nodes = sector_state.nodes;
  free = sector_state.free;
  place = place;
  pos = pos;
  opened = record { stored = sector_state.rooted.tower.stored; filled = sector_state.rooted.tower.filled; chain = sector_state.chain; shared = sector_state.shared };
  due = subst (λ (xs : List (List ℕ)). IsDue k xs levels sector_state.nodes 1 pos 1 []) (sym (removed_is records pos below)) (begin_lack k records levels sector_state.nodes pos below sector_state.rooted.tower.listed);
  path = path;
  pos_is = is;
  order = subst AreInKeyOrder (sym (ap (map (record_item k)) (removed_is records pos below) ∙ map_without (record_item k) records pos below))
      (ascending_without (map (record_item k) records) pos sector_state.rooted.tower.ascending (omega (arith, below, length-map records (record_item k))));
  one = sector_state.rooted.one;
  root_is = sector_state.rooted.root_is;
  top_below = sector_state.top_below;
}

pub sector_state : (e k pages : ℕ) (b : List ℕ) (records : List (List ℕ)) (count root top first levels : ℕ) (tree : IsTree e k pages b records) → IsHead (page_at b 0) count root top first levels → 0 < levels → IsSectorState e k pages b records levels root first top
sector_state e k pages b records count root top first levels tree is some = record {
  nodes = tree.nodes;
  free = tree.free;
  rooted = rooted e k pages b records tree levels root (sym is.levels_is) (sym is.root_is) some;
  chain = subst (λ (m : ℕ). IsChain b m tree.free) (sym tree.header.free_is ∙ is.free_is) tree.chain;
  shared = subst (λ (m : ℕ). IsShared m tree.nodes tree.free top) (sym tree.header.levels_is ∙ is.levels_is) (subst (λ (m : ℕ). IsShared tree.levels tree.nodes tree.free m) (sym tree.header.top_is ∙ is.top_is) tree.shared);
  top_below = omega (arith, tree.header.top_below, tree.header.top_is, is.top_is);
}

-- the header as it is fits what was done
pub tree_still : (e k pages : ℕ) (c : List ℕ) (records : List (List ℕ)) (levels root first top : ℕ) → IsClosed e k pages c records levels root first top → 1 ≤ levels → levels ≤ 6 → IsHead (page_at c 0) (length records) root top first levels → IsBlank (page_at c 0) → length records ≤ capacity_of e pages
    → IsTree e k pages c records
tree_still e k pages c records levels root first top closed some few is blank capacity = record {
  levels = levels;
  nodes = closed.nodes;
  free = closed.free;
  first = first;
  top = top;
  header = record {
    count_is = is.count_is;
    levels_is = is.levels_is;
    levels_most = few;
    no_root = λ none. absurd (omega (arith, none, some));
    one_root = λ some_level. closed.one;
    root_is = λ some_level. is.root_is ∙ closed.root_is;
    free_is = is.free_is;
    top_is = is.top_is;
    top_below = closed.top_below;
    rest = blank;
  };
  tower = record {
    none = λ none. absurd (omega (arith, none, some));
    ascending = closed.order;
    listed = closed.listed;
    stored = closed.opened.stored;
    filled = closed.opened.filled;
  };
  chain = closed.opened.chain;
  shared = closed.opened.shared;
  capacity = capacity;
}

-- a record of the leaf is another with the same key: what is to be written
module _ (e k pages : ℕ) (b : List ℕ) (records : List (List ℕ)) (levels root first top : ℕ) (here : IsSectorState e k pages b records levels root first top) (widths : IsWidths e k) (some : 0 < levels)
    (page paths index : List ℕ) (at : ℕ) (home : ℕ → ℕ) (path : IsPath here.nodes levels 1 paths index at home) (read : page ≡ page_at b (node_at (here.nodes 1) (home 1)).page) (place : ℕ) (place_here : place < filled page) (long : length page ≡ 512) where
  abbrev pos : ℕ
  pos = before (here.nodes 1) (home 1) + place

  abbrev xs : List Item
  xs = (node_at (here.nodes 1) (home 1)).items

  tower : IsTower e k b records levels here.nodes
  tower = here.rooted.tower

  leaf_here : IsLeaf e k page xs
  leaf_here = placed_leaf e k b records levels here.nodes tower some page paths index at home path read

  place_in : place < length xs
  place_in = omega (arith, place_here, leaf_here.count)

  pos_below : before (here.nodes 1) (home 1) + place < length records
  pos_below = placed_below e k b records levels here.nodes tower some page paths index at home path read place place_here

  rises : (q r : ℕ) → q ≤ r → r < length records → at_most (key_at k records q) (key_at k records r) ≡ true
  rises q r order inside =
      sym (ap (λ (x : Item). at_most x.key (item_at (map (record_item k) records) r).key) (get_or-map (record_item k) records q [] no_item (omega (arith, order, inside)))
      ∙ ap (λ (x : Item). at_most (key_at k records q) x.key) (get_or-map (record_item k) records r [] no_item inside))
      ∙ tower.ascending q r order (omega (arith, inside, length-map records (record_item k)))

  pub set_pending : (entry : List ℕ) → length entry ≡ e → take k entry ≡ take k (record_at e page place)
      → IsPending e k pages b (slice_set records (before (here.nodes 1) (home 1) + place) entry) levels 1 paths index at (overwritten page (8 + e * place) entry) root first top
  set_pending entry width same = record {
    was = b;
    slot = place;
    less = 1;
    its = record_item k entry ∷ [];
    rebalance = begin_set e k pages b records levels root first top here paths index at home path pos place entry pos_below refl
        (λ (q : ℕ) (less : q < pos). ap (at_most (key_at k records q)) key_same ∙ rises q pos (omega (arith, less)) pos_below)
        (λ (q : ℕ) (more : pos < q) (inside : q < length records). ap (λ (x : List ℕ). at_most x (key_at k records q)) key_same ∙ rises pos q (omega (arith, more)) inside)
        (at_most_itself (take k entry));
    inside = omega (arith, place_in);
    bytes = page_of_leaf e k 1 (overwritten page (8 + e * place) entry) (swapped xs place 1 (record_item k entry ∷ [])) refl
        (subst (IsLeaf e k (overwritten page (8 + e * place) entry)) (sym swapped_is) (leaf_set e k page xs place entry widths.entry_least leaf_here long place_in width));
    keeps = inr (ap (λ (ys : List Item). (item_at ys 0).key) swapped_is ∙ first_same);
    almost = λ under. enough_one under;
    others = λ q some_q other. refl;
  }
    where
      key_same : take k entry ≡ key_at k records pos
      key_same = same ∙ ap (λ (x : Item). x.key) (placed_record e k b records levels here.nodes tower some page paths index at home path read place place_here)

      swapped_is : swapped xs place 1 (record_item k entry ∷ []) ≡ splice xs place (record_item k entry ∷ [])
      swapped_is = swapped_one xs place (record_item k entry ∷ []) place_in

      leaf_key : (item_at xs place).key ≡ take k (record_at e page place)
      leaf_key = ap (λ (x : Item). x.key) (leaf_here.lists place place_in)

      first_same : (item_at (splice xs place (record_item k entry ∷ [])) 0).key ≡ (item_at xs 0).key
      first_same = elim (cases_eq 0 place) [
        | inl at_first ↦ ap (λ (x : Item). x.key) (spliced_here xs place 0 (record_item k entry) place_in at_first) ∙ same ∙ sym leaf_key ∙ ap (λ (i : ℕ). (item_at xs i).key) (sym at_first)
        | inr other ↦ ap (λ (x : Item). x.key) (spliced_other xs place 0 (record_item k entry) place_in other)
      ]

      enough_one : 1 < levels → IsEnough e k 1 (length (swapped xs place 1 (record_item k entry ∷ [])) + 1)
      enough_one under =
          let was = tower.filled 1 (home 1) (omega arith) under (path.inside 1 (omega arith) (omega (arith, some))) in
          record {
            leaf = λ one. omega (arith, was.leaf refl, ap length swapped_is, length-splice xs place (record_item k entry ∷ []) place_in);
            inner = λ above. absurd (omega (arith, above));
          }

  pub set_tree : (entry : List ℕ) → length entry ≡ e → take k entry ≡ take k (record_at e page place) → levels ≤ 6 → 512 * pages ≤ length b → IsHead (page_at b 0) (length records) root top first levels → IsBlank (page_at b 0) → length records ≤ capacity_of e pages
      → IsTree e k pages (overwritten b (512 * at) (overwritten page (8 + e * place) entry)) (slice_set records (before (here.nodes 1) (home 1) + place) entry)
  set_tree entry width same few size head blank capacity =
      tree_still e k pages (overwritten b (512 * at) new) (slice_set records pos entry) levels root first top closed (omega (arith, some)) few
      (subst (λ (n : ℕ). IsHead (page_at (overwritten b (512 * at) new) 0) n root top first levels) (sym long_set)
      (subst (λ (x : List ℕ). IsHead x (length records) root top first levels) (sym (page_other b new at 0 long_new fits_at (λ (h : 0 ≡ at). absurd (omega (arith, h, at_in.0))))) head))
      (subst IsBlank (sym (page_other b new at 0 long_new fits_at (λ (h : 0 ≡ at). absurd (omega (arith, h, at_in.0))))) blank)
      (omega (arith, capacity, long_set))
    where
      new : List ℕ
      new = overwritten page (8 + e * place) entry

      long_new : length new ≡ 512
      long_new = length-leaf_set e k page xs place entry widths.entry_least leaf_here long place_in width

      long_set : length (slice_set records pos entry) ≡ length records
      long_set = length-set records pos entry

      pending : IsPending e k pages b (slice_set records pos entry) levels 1 paths index at new root first top
      pending = set_pending entry width same

      at_in : (1 ≤ at) × (at < pages)
      at_in =
          let within = here.rooted.within 1 (home 1) (omega arith) (omega (arith, some)) (path.inside 1 (omega arith) (omega (arith, some))) in
          (omega (arith, within.0, path.here), omega (arith, within.1, path.here))

      fits_at : 512 * at + 512 ≤ length b
      fits_at = omega (arith, at_in.1, size)

      set_leaf : IsLeaf e k new (splice xs place (record_item k entry ∷ []))
      set_leaf = leaf_set e k page xs place entry widths.entry_least leaf_here long place_in width

      closed : IsClosed e k pages (overwritten b (512 * at) new) (slice_set records pos entry) levels root first top
      closed = pending_closed e k pages b (slice_set records pos entry) levels 1 paths index at new root first top pending (omega arith) (omega (arith, some)) size long_new
          (λ (under : 1 < levels). (
            λ (one : 1 ≡ 1). record {
              leaf = λ low. omega (arith, (tower.filled 1 (home 1) (omega arith) under (path.inside 1 (omega arith) (omega (arith, some)))).leaf refl, set_leaf.count, length-splice xs place (record_item k entry ∷ []) place_in);
              inner = λ above. absurd (omega (arith, above));
            },
            λ (above : 1 < 1). absurd (omega (arith, above)),
          ))
