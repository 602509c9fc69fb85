-- A page that may be underfull, and its neighbour under the same parent.
use Rattle.std.proofs.Common.{◌≡◌, ◌≢◌, inl, inr, ℕ, suc, ◌+◌, ◌-◌, ◌/◌, ◌<◌, ◌≤◌, List, ◌++◌, length, get_or, arith, refl, sym, ◌∙◌, ap, subst, length-append}
use Rattle.page_tree.specs.Keys.{Item, item_at}
use Rattle.page_tree.specs.Page.{page_at, filled, key_room, key_at, link_at, IsInner, IsPageOf, IsEnough}
use Rattle.page_tree.specs.Tree.{Node, node_at, items_of, before, heads, uses}
use Rattle.page_tree.specs.Due.{swapped}
use Rattle.page_tree.specs.Underfull.{IsPending, IsPair}
use Rattle.page_tree.specs.Rebalancing.{AreNotAbove}
use Rattle.page_tree.proofs.Changed.{used_once, apart}
use Rattle.page_tree.proofs.Descent.{within_shared, rows_above}
use Rattle.page_tree.proofs.Levels.{item_of_page, page_fits, before_more, length-heads, heads_page, heads_after}
use Rattle.page_tree.proofs.Shift.{edit_first, edit_second}

enough_more : (e k l n : ℕ) → IsEnough e k l n → IsEnough e k l (n + 1)
enough_more e k l n enough = record { leaf = λ one. omega (arith, enough.leaf one); inner = λ above. omega (arith, enough.inner above) }

module _ (e k pages : ℕ) (b : List ℕ) (records : List (List ℕ)) (levels level : ℕ) (paths index : List ℕ) (at : ℕ) (page : List ℕ) (root first top : ℕ)
    (pending : IsPending e k pages b records levels level paths index at page root first top) (some : 1 ≤ level) (under : level < levels) where
  abbrev nodes : ℕ → List Node
  nodes = pending.rebalance.nodes

  abbrev q : ℕ
  q = pending.rebalance.place (level + 1)

  abbrev home : ℕ
  home = pending.rebalance.place level

  abbrev parent : List Item
  parent = (node_at (nodes (level + 1)) q).items

  most : level ≤ levels
  most = omega (arith, under)

  home_in : home < length (nodes level)
  home_in = pending.rebalance.path.inside level (omega arith) most

  parent_in : q < length (nodes (level + 1))
  parent_in = pending.rebalance.path.inside (level + 1) (omega arith) (omega (arith, under))

  up_is : get_or paths (level + 1) 0 ≡ (node_at (nodes (level + 1)) q).page
  up_is = pending.rebalance.path.page (level + 1) (omega arith) (omega (arith, under))

  pub up_in : (1 ≤ get_or paths (level + 1) 0) × (get_or paths (level + 1) 0 < pages)
  up_in =
      let within = within_shared levels nodes pending.rebalance.free top pending.rebalance.opened.shared (level + 1) q (omega arith) (omega (arith, under)) parent_in in
      (omega (arith, within.0, up_is), omega (arith, within.1, up_is, pending.rebalance.top_below))

  once : (n : ℕ) → uses n nodes levels ≤ 1
  once n = omega (arith, used_once levels nodes pending.rebalance.free top pending.rebalance.opened.shared n)

  -- the page above is no page of the level
  pub up_apart : (i : ℕ) → i < length (pending.rebalance.nodes level) → get_or paths (level + 1) 0 ≢ (node_at (pending.rebalance.nodes level) i).page
  up_apart i below h =
      apart levels nodes once (level + 1) q level i (omega arith) (omega (arith, under)) some most parent_in below (λ (same : level + 1 ≡ level). absurd (omega (arith, same))) (sym up_is ∙ h)

  pub up_not_at : get_or paths (level + 1) 0 ≢ at
  up_not_at h = up_apart home home_in (h ∙ pending.rebalance.path.here)

  -- nor is any page of the path above
  pub path_apart : (l : ℕ) → level < l → l ≤ levels → (i : ℕ) → i < length (pending.rebalance.nodes level) → get_or paths l 0 ≢ (node_at (pending.rebalance.nodes level) i).page
  path_apart l above l_most i below h =
      apart levels nodes once l (pending.rebalance.place l) level i (omega (arith, above)) l_most some most (pending.rebalance.path.inside l (omega (arith, above)) l_most) below (λ (same : l ≡ level). absurd (omega (arith, same, above)))
      (sym (pending.rebalance.path.page l above l_most) ∙ h)

  listed : items_of (nodes (level + 1)) ≡ heads (nodes level)
  listed = pending.rebalance.due.listed level under (λ (h : level + 1 ≡ level). absurd (omega (arith, h))) ∙ rows_above k records nodes level (omega (arith, some))

  -- a child of the page above
  child_in : (s : ℕ) → s < length parent → before (nodes (level + 1)) q + s < length (nodes level)
  child_in s inside = omega (arith, inside, page_fits (nodes (level + 1)) q parent_in, ap length listed, length-heads (nodes level))

  child_page : (s : ℕ) → s < length parent → (item_at parent s).page ≡ (node_at (nodes level) (before (nodes (level + 1)) q + s)).page
  child_page s inside =
      ap (λ (x : Item). x.page) (sym (item_of_page (nodes (level + 1)) q s parent_in inside)) ∙ ap (λ (xs : List Item). (item_at xs (before (nodes (level + 1)) q + s)).page) listed
      ∙ heads_page (nodes level) (before (nodes (level + 1)) q + s) (child_in s inside)

  child_key : (s : ℕ) → 0 < s → s < length parent → (item_at parent s).key ≡ (item_at (node_at (nodes level) (before (nodes (level + 1)) q + s)).items 0).key
  child_key s after inside =
      ap (λ (x : Item). x.key) (sym (item_of_page (nodes (level + 1)) q s parent_in inside)) ∙ ap (λ (xs : List Item). (item_at xs (before (nodes (level + 1)) q + s)).key) listed
      ∙ heads_after (nodes level) (before (nodes (level + 1)) q + s) (omega (arith, after)) (child_in s inside)

  chosen : get_or index (level + 1) 0 < length parent
  chosen = pending.rebalance.path.chosen (level + 1) (omega arith) (omega (arith, under))

  home_is : home ≡ before (nodes (level + 1)) q + get_or index (level + 1) 0
  home_is = pending.rebalance.path.below (level + 1) level refl (omega arith) (omega (arith, under))

  module _ (above : List ℕ) (above_is : above ≡ page_at b (get_or paths (level + 1) 0)) where
    pub above_inner : IsInner k above (node_at (pending.rebalance.nodes (level + 1)) (pending.rebalance.place (level + 1))).items
    above_inner =
        let not_home : get_or paths (level + 1) 0 ≢ at = λ h. up_apart home home_in (h ∙ pending.rebalance.path.here) in
        subst (λ (x : List ℕ). IsInner k x parent) (sym (above_is ∙ pending.others (get_or paths (level + 1) 0) up_in.0 not_home ∙ ap (page_at pending.was) up_is))
        ((pending.rebalance.opened.stored (level + 1) q (omega arith) (omega (arith, under)) parent_in).inner (omega (arith, some)))

    pub above_index : get_or index (level + 1) 0 ≤ filled above
    above_index = omega (arith, chosen, above_inner.count)

    child_link : (s : ℕ) → s < length parent → link_at k above s ≡ (node_at (nodes level) (before (nodes (level + 1)) q + s)).page
    child_link s inside = sym (above_inner.links s inside) ∙ child_page s inside

    pub above_full : level + 1 < levels → key_room k / 2 ≤ filled above
    above_full more = omega (arith, (pending.rebalance.opened.filled (level + 1) q (omega arith) more parent_in).inner (omega (arith, some)), above_inner.count)

    -- a child of the page above that is not the page itself: it is a page of the level as it was
    module _ (s : ℕ) (inside : s ≤ filled above) (other : s ≢ get_or index (level + 1) 0) where
      s_in : s < length parent
      s_in = omega (arith, inside, above_inner.count)

      pub beside_in : (1 ≤ link_at k above s) × (link_at k above s < pages)
      beside_in =
          let within = within_shared levels nodes pending.rebalance.free top pending.rebalance.opened.shared level (before (nodes (level + 1)) q + s) some most (child_in s s_in) in
          (omega (arith, within.0, child_link s s_in), omega (arith, within.1, child_link s s_in, pending.rebalance.top_below))

      beside_apart : link_at k above s ≢ at
      beside_apart h =
          apart levels nodes once level (before (nodes (level + 1)) q + s) level home some most some most (child_in s s_in) home_in (λ (same : level ≡ level) (eq : before (nodes (level + 1)) q + s ≡ home). other (omega (arith, eq, home_is)))
          (sym (child_link s s_in) ∙ h ∙ pending.rebalance.path.here)

      pub beside_bytes : (beside : List ℕ) → beside ≡ page_at b (link_at k above s) → IsPageOf e k level beside (node_at (pending.rebalance.nodes level) (before (pending.rebalance.nodes (level + 1)) (pending.rebalance.place (level + 1)) + s)).items
      beside_bytes beside is =
          subst (λ (x : List ℕ). IsPageOf e k level x (node_at (nodes level) (before (nodes (level + 1)) q + s)).items)
          (sym (is ∙ pending.others (link_at k above s) beside_in.0 beside_apart ∙ ap (page_at pending.was) (child_link s s_in)))
          (pending.rebalance.opened.stored level (before (nodes (level + 1)) q + s) some most (child_in s s_in))

      pub not_above : AreNotAbove paths level levels at (link_at k above s)
      not_above l l_above l_most =
          ((λ (h : get_or paths l 0 ≡ at). path_apart l l_above l_most home home_in (h ∙ pending.rebalance.path.here)), (λ (h : get_or paths l 0 ≡ link_at k above s). path_apart l l_above l_most (before (nodes (level + 1)) q + s) (child_in s s_in) (h ∙ child_link s s_in)))

      pub up_not_beside : get_or paths (level + 1) 0 ≢ link_at k above s
      up_not_beside h = up_apart (before (nodes (level + 1)) q + s) (child_in s s_in) (h ∙ child_link s s_in)

      beside_enough : IsEnough e k level (length (node_at (nodes level) (before (nodes (level + 1)) q + s)).items)
      beside_enough = pending.rebalance.opened.filled level (before (nodes (level + 1)) q + s) some under (child_in s s_in)

    -- the page is child `index` of the page above
    pub at_link : at ≡ link_at k above (get_or index (level + 1) 0)
    at_link =
        pending.rebalance.path.here ∙ ap (λ (i : ℕ). (node_at (nodes level) i).page) home_is ∙ sym (child_link (get_or index (level + 1) 0) chosen)

    -- with the neighbour before it
    pub pair_left : (i left_at : ℕ) → i ≡ get_or index (level + 1) 0 → 0 < i → left_at ≡ link_at k above (i - 1) → (beside key : List ℕ) → beside ≡ page_at b left_at → key ≡ key_at k above (i - 1) → (1 < level → filled page < key_room k / 2)
        → IsPair e k pages b records levels level paths index left_at at i beside page key root first top
    pair_left i left_at i_is after left_is beside key beside_is key_is underfull = record {
      was = pending.was;
      at = at;
      from = pending.slot;
      less = pending.less;
      its = pending.its;
      rebalance = pending.rebalance;
      p = (before (nodes (level + 1)) q + (i - 1));
      j = length (node_at (nodes level) (before (nodes (level + 1)) q + (i - 1))).items + pending.slot;
      below = omega (arith, next, home_in);
      place = omega (arith, pending.rebalance.pos_is, before_more (nodes level) (before (nodes (level + 1)) q + (i - 1)) (omega (arith, next, home_in)), ap (before (nodes level)) next_one);
      inside = omega (arith, pending.inside, length-append (node_at (nodes level) (before (nodes (level + 1)) q + (i - 1))).items (node_at (nodes level) (suc (before (nodes (level + 1)) q + (i - 1)))).items, ap (λ (m : ℕ). length (node_at (nodes level) m).items) (sym next));
      lower = under;
      listed = omega (arith, after);
      left_is = left_is ∙ child_link (i - 1) (omega (arith, chosen, i_is));
      right_is = pending.rebalance.path.here ∙ ap (λ (m : ℕ). (node_at (nodes level) m).page) (sym next);
      xs = (node_at (nodes level) (before (nodes (level + 1)) q + (i - 1))).items;
      ys = swapped (node_at (nodes level) home).items pending.slot pending.less pending.its;
      both = edit_second (node_at (nodes level) (before (nodes (level + 1)) q + (i - 1))).items (node_at (nodes level) home).items pending.slot (length (node_at (nodes level) (before (nodes (level + 1)) q + (i - 1))).items + pending.slot) pending.less pending.its refl
          ∙ ap (λ (m : ℕ). swapped ((node_at (nodes level) (before (nodes (level + 1)) q + (i - 1))).items ++ (node_at (nodes level) m).items) (length (node_at (nodes level) (before (nodes (level + 1)) q + (i - 1))).items + pending.slot) pending.less pending.its) (sym next);
      left_bytes = beside_bytes (i - 1) (omega (arith, above_index, i_is)) (omega (arith, after, i_is)) beside (beside_is ∙ ap (page_at b) left_is);
      right_bytes = pending.bytes;
      named = λ high. elim pending.keeps [
        | inl none ↦ absurd (omega (arith, none, home_is, i_is, after))
        | inr same ↦ same ∙ ap (λ (m : ℕ). (item_at (node_at (nodes level) m).items 0).key) home_at ∙ sym (child_key i after (omega (arith, chosen, i_is)))
            ∙ ap (λ (m : ℕ). (item_at parent m).key) i_next ∙ above_inner.keys (i - 1) (omega (arith, chosen, i_is, after)) ∙ sym key_is
      ];
      keeps = inr refl;
      left_almost = enough_more e k level (length (node_at (nodes level) (before (nodes (level + 1)) q + (i - 1))).items) (beside_enough (i - 1) (omega (arith, above_index, i_is)) (omega (arith, after, i_is)));
      right_almost = pending.almost under;
      underfull = λ high. inr (underfull high);
      others = λ n some_n one two. pending.others n some_n two;
    }
      where
        next : suc (before (nodes (level + 1)) q + (i - 1)) ≡ home
        next = omega (arith, home_is, i_is, after)

        next_one : (before (nodes (level + 1)) q + (i - 1)) + 1 ≡ home
        next_one = omega (arith, next)

        home_at : home ≡ before (nodes (level + 1)) q + i
        home_at = omega (arith, home_is, i_is)

        i_next : i ≡ (i - 1) + 1
        i_next = omega (arith, after)

    -- with the neighbour after it
    pub pair_right : (right_at : ℕ) → get_or index (level + 1) 0 ≡ 0 → right_at ≡ link_at k above 1 → (beside key : List ℕ) → beside ≡ page_at b right_at → key ≡ key_at k above 0 → (1 < level → filled page < key_room k / 2)
        → IsPair e k pages b records levels level paths index at right_at 1 page beside key root first top
    pair_right right_at none right_is beside key beside_is key_is underfull = record {
      was = pending.was;
      at = at;
      from = pending.slot;
      less = pending.less;
      its = pending.its;
      rebalance = pending.rebalance;
      p = home;
      j = pending.slot;
      below = omega (arith, next, child_in 1 one_in);
      place = pending.rebalance.pos_is;
      inside = omega (arith, pending.inside, length-append (node_at (nodes level) home).items (node_at (nodes level) (suc home)).items);
      lower = under;
      listed = next;
      left_is = pending.rebalance.path.here;
      right_is = right_is ∙ child_link 1 one_in ∙ ap (λ (m : ℕ). (node_at (nodes level) m).page) (sym next);
      xs = swapped (node_at (nodes level) home).items pending.slot pending.less pending.its;
      ys = (node_at (nodes level) (suc home)).items;
      both = edit_first (node_at (nodes level) home).items (node_at (nodes level) (suc home)).items pending.slot pending.less pending.its pending.inside;
      left_bytes = pending.bytes;
      right_bytes = subst (λ (m : ℕ). IsPageOf e k level beside (node_at (nodes level) m).items) (sym next) (beside_bytes 1 one_most one_other beside (beside_is ∙ ap (page_at b) right_is));
      named = λ high. ap (λ (m : ℕ). (item_at (node_at (nodes level) m).items 0).key) next ∙ sym (child_key 1 (omega arith) one_in) ∙ above_inner.keys 0 (omega (arith, above_inner.some)) ∙ sym key_is;
      keeps = pending.keeps;
      left_almost = pending.almost under;
      right_almost = enough_more e k level (length (node_at (nodes level) (suc home)).items) (subst (λ (m : ℕ). IsEnough e k level (length (node_at (nodes level) m).items)) (sym next) (beside_enough 1 one_most one_other));
      underfull = λ high. inl (underfull high);
      others = λ n some_n one two. pending.others n some_n one;
    }
      where
        one_in : 1 < length parent
        one_in = omega (arith, above_inner.some)

        one_most : 1 ≤ filled above
        one_most = omega (arith, above_inner.some, above_inner.count)

        one_other : 1 ≢ get_or index (level + 1) 0
        one_other h = absurd (omega (arith, h, none))

        next : suc home ≡ before (nodes (level + 1)) q + 1
        next = omega (arith, home_is, none)
