-- The first record of a leaf gives way to the second: the first step up.
use Rattle.std.proofs.Common.{◌≡◌, ◌≢◌, ℕ, ◌+◌, ◌*◌, ◌<◌, ◌≤◌, true, List, [], ◌∷◌, length, map, take, get_or, slice_set, arith, refl, sym, ◌∙◌, ap, subst}
use Rattle.std.proofs.lemmas.List.{length-map, get_or-map}
use Rattle.flat_mem.specs.Memory.{overwritten}
use Rattle.flat_mem.specs.Parts.{length-overwritten}
use Rattle.flat_mem.specs.Order.{key_at, entry_at}
use Rattle.page_tree.specs.Keys.{Item, no_item, item_at, at_most}
use Rattle.page_tree.specs.Page.{IsWidths, page_at, filled, record_at, record_item, IsLeaf, IsPageOf, IsEnough}
use Rattle.page_tree.specs.Tree.{Node, node_at, before, head_of}
use Rattle.page_tree.specs.Change.{splice}
use Rattle.page_tree.specs.Due.{swapped}
use Rattle.page_tree.specs.Path.{IsPath}
use Rattle.page_tree.specs.Climb.{child_item}
use Rattle.page_tree.specs.Named.{IsNaming}
use Rattle.page_tree.specs.SectorState.{IsSectorState}
use Rattle.page_tree.proofs.Once.{page_same, page_other}
use Rattle.page_tree.proofs.Order.{at_most_itself}
use Rattle.page_tree.proofs.Changed.{length-splice}
use Rattle.page_tree.proofs.PlacedLaws.{placed_leaf, placed_below, placed_record}
use Rattle.page_tree.proofs.Swapped.{swapped_one}
use Rattle.page_tree.proofs.Neighbours.{page_of_leaf, record_long}
use Rattle.page_tree.proofs.Replaced.{leaf_set, length-leaf_set, begin_set}
use Rattle.page_tree.proofs.Rebalance.{rebalance_rename, splice_here}
use Rattle.page_tree.proofs.Renamed.{first_swapped, path_whole, before_now}

module _ (e k pages : ℕ) (b : List ℕ) (records : List (List ℕ)) (levels root first top : ℕ) (here : IsSectorState e k pages b records levels root first top) (widths : IsWidths e k) (some : 0 < levels)
    (page paths index : List ℕ) (at : ℕ) (home : ℕ → ℕ) (path : IsPath here.nodes levels 1 paths index at home) (read : page ≡ page_at b (node_at (here.nodes 1) (home 1)).page) (long : length page ≡ 512) (two : 2 ≤ filled page) (size : 512 * pages ≤ length b) where
  abbrev xs : List Item
  xs = (node_at (here.nodes 1) (home 1)).items

  abbrev pos : ℕ
  pos = before (here.nodes 1) (home 1)

  abbrev entry : List ℕ
  entry = record_at e page 1

  leaf_here : IsLeaf e k page xs
  leaf_here = placed_leaf e k b records levels here.nodes here.rooted.tower some page paths index at home path read

  first_in : 0 < length xs
  first_in = omega (arith, two, leaf_here.count)

  pos_zero : pos + 0 ≡ pos
  pos_zero = omega arith

  pub next_in : before (here.nodes 1) (home 1) + 1 < length records
  next_in = placed_below e k b records levels here.nodes here.rooted.tower some page paths index at home path read 1 (omega (arith, two))

  entry_item : record_item k (record_at e page 1) ≡ record_item k (entry_at records (pos + 1))
  entry_item = placed_record e k b records levels here.nodes here.rooted.tower some page paths index at home path read 1 (omega (arith, two))

  pub second_is : record_at e page 1 ≡ entry_at records (before (here.nodes 1) (home 1) + 1)
  second_is = ap (λ (x : Item). x.bytes) entry_item

  key_second : take k entry ≡ key_at k records (pos + 1)
  key_second = ap (λ (x : Item). x.key) entry_item

  rises : (q r : ℕ) → q ≤ r → r < length records → at_most (key_at k records q) (key_at k records r) ≡ true
  rises q r order inside =
      sym (ap (λ (x : Item). at_most x.key (item_at (map (record_item k) records) r).key) (get_or-map (record_item k) records q [] no_item (omega (arith, order, inside)))
      ∙ ap (λ (x : Item). at_most (key_at k records q) x.key) (get_or-map (record_item k) records r [] no_item inside))
      ∙ here.rooted.tower.ascending q r order (omega (arith, inside, length-map records (record_item k)))

  at_in : (1 ≤ at) × (at < pages)
  at_in =
      let within = here.rooted.within 1 (home 1) (omega arith) (omega (arith, some)) (path.inside 1 (omega arith) (omega (arith, some))) in
      (omega (arith, within.0, path.here), omega (arith, within.1, path.here))

  fits_at : 512 * at + 512 ≤ length b
  fits_at = omega (arith, at_in.1, size)

  width : length (record_at e page 1) ≡ e
  width = record_long e page 1 widths long (omega (arith, two, leaf_here.count, leaf_here.most))

  -- the leaf with its second record twice; it is never written
  abbrev pub doubled : List ℕ
  doubled = overwritten b (512 * at) (overwritten page (8 + e * 0) (record_at e page 1))

  long_new : length (overwritten page (8 + e * 0) (record_at e page 1)) ≡ 512
  long_new = length-leaf_set e k page xs 0 entry widths.entry_least leaf_here long first_in width

  pub doubled_long : length (overwritten b (512 * at) (overwritten page (8 + e * 0) (record_at e page 1))) ≡ length b
  doubled_long = length-overwritten b (overwritten page (8 + e * 0) (record_at e page 1)) (512 * at) (omega (arith, long_new, fits_at))

  pub doubled_others : (q : ℕ) → 1 ≤ q → q ≢ at → page_at (overwritten b (512 * at) (overwritten page (8 + e * 0) (record_at e page 1))) q ≡ page_at b q
  doubled_others q some_q other = page_other b (overwritten page (8 + e * 0) entry) at q long_new fits_at other

  pub naming_first : 1 < levels → 0 < home 1
      → IsNaming e k pages (overwritten b (512 * at) (overwritten page (8 + e * 0) (record_at e page 1))) (slice_set records (before (here.nodes 1) (home 1)) (record_at e page 1)) levels 2 paths index at (take k (record_at e page 1)) at root first top
      (before (here.nodes 1) (home 1)) (swapped (node_at (here.nodes 1) (home 1)).items 0 1 (record_item k (record_at e page 1) ∷ []))
  naming_first under after = record {
    its = head_of n ∷ [];
    its_is = ap (λ (x : List ℕ). child_item x at ∷ []) (ap (λ (x : Item). x.key) (first_swapped xs 0 (record_item k entry ∷ []) (record_item k entry) refl refl));
    rebalance = rebalance_rename e k pages b (slice_set records pos entry) levels 1 paths index at 0 1 (record_item k entry ∷ []) root first top
        (begin_set e k pages b records levels root first top here paths index at home path pos 0 entry (omega (arith, next_in)) (omega arith)
        (λ (q : ℕ) (less : q < pos). ap (at_most (key_at k records q)) key_second ∙ rises q (pos + 1) (omega (arith, less)) next_in)
        (λ (q : ℕ) (more : pos < q) (inside : q < length records). ap (λ (x : List ℕ). at_most x (key_at k records q)) key_second ∙ rises (pos + 1) q (omega (arith, more)) inside)
        (at_most_itself (take k entry)))
        (omega arith) (omega (arith, some)) doubled (omega (arith, first_in)) (record { page = at; items = swapped xs 0 1 (record_item k entry ∷ []) }) path.here refl
        (subst (λ (x : List ℕ). IsPageOf e k 1 x (swapped xs 0 1 (record_item k entry ∷ []))) (sym (page_same b (overwritten page (8 + e * 0) entry) at long_new fits_at))
        (page_of_leaf e k 1 (overwritten page (8 + e * 0) entry) (swapped xs 0 1 (record_item k entry ∷ [])) refl (subst (IsLeaf e k (overwritten page (8 + e * 0) entry)) (sym swapped_is) (leaf_set e k page xs 0 entry widths.entry_least leaf_here long first_in width))))
        enough_same (λ (q : ℕ) (some_q : 1 ≤ q) (other : q ≢ (node_at (here.nodes 1) (home 1)).page). doubled_others q some_q (λ (h : q ≡ at). other (h ∙ path.here)))
        (get_or index 2 0) under after (path.below 2 1 refl (omega arith) (omega (arith, under)));
    whole = path_whole here.nodes levels 1 paths index at home path (omega arith) (omega (arith, some)) n path.here long_same;
    items = ap (λ (x : Node). x.items) (splice_here (here.nodes 1) (home 1) n [] (path.inside 1 (omega arith) (omega (arith, some))));
    starts = before_now here.nodes levels 1 paths index at home path (omega arith) (omega (arith, some)) n path.here long_same 1;
  }
    where
      n : Node
      n = record { page = at; items = swapped xs 0 1 (record_item k entry ∷ []) }

      swapped_is : swapped xs 0 1 (record_item k entry ∷ []) ≡ splice xs 0 (record_item k entry ∷ [])
      swapped_is = swapped_one xs 0 (record_item k entry ∷ []) first_in

      long_same : length (swapped xs 0 1 (record_item k entry ∷ [])) ≡ length xs
      long_same = omega (arith, ap length swapped_is, length-splice xs 0 (record_item k entry ∷ []) first_in)

      enough_same : 1 < levels → IsEnough e k 1 (length (swapped xs 0 1 (record_item k entry ∷ [])))
      enough_same more = subst (IsEnough e k 1) (sym long_same) (here.rooted.tower.filled 1 (home 1) (omega arith) more (path.inside 1 (omega arith) (omega (arith, some))))
