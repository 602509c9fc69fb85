-- The page above two neighbours, once they are redistributed out; and a page that is written in the end.
use Rattle.std.proofs.Common.{◌≡◌, ◌≢◌, inr, ℕ, zero, suc, ◌+◌, ◌-◌, ◌*◌, ◌<◌, ◌≤◌, List, [], ◌∷◌, length, get_or, arith, refl, sym, ◌∙◌, ap, subst}
use Rattle.flat_mem.specs.Memory.{overwritten}
use Rattle.page_tree.specs.Keys.{Item, item_at}
use Rattle.page_tree.specs.Page.{page_at, kind_of, next_in, filled, link_at, IsInner, IsPageOf, IsEnough}
use Rattle.page_tree.specs.Tree.{node_at, items_of, before, heads}
use Rattle.page_tree.specs.Change.{without, splice}
use Rattle.page_tree.specs.Copied.{inner_without}
use Rattle.page_tree.specs.Climb.{child_item, IsClosed}
use Rattle.page_tree.specs.Due.{swapped}
use Rattle.page_tree.specs.Rebalance.{IsRebalance}
use Rattle.page_tree.specs.Neighbours.{IsAmple}
use Rattle.page_tree.specs.Underfull.{IsPending}
use Rattle.page_tree.proofs.Once.{page_same, page_other}
use Rattle.page_tree.proofs.Descent.{within_shared, rows_above}
use Rattle.page_tree.proofs.Levels.{heads_page, length-heads}
use Rattle.page_tree.proofs.Changed.{length-splice}
use Rattle.page_tree.proofs.Swapped.{swapped_one}
use Rattle.page_tree.proofs.Less.{length-without, without_below}
use Rattle.page_tree.proofs.InnerLess.{inner_less}
use Rattle.page_tree.proofs.InnerNamed.{inner_named, spliced_other}
use Rattle.page_tree.proofs.Neighbours.{page_of_inner}
use Rattle.page_tree.proofs.Rebalance.{rebalance_put}
use Rattle.page_tree.proofs.RebalanceEnds.{items_one, rebalance_shrink}

module _ (e k pages : ℕ) (c : List ℕ) (records : List (List ℕ)) (levels l : ℕ) (paths index : List ℕ) (slot : ℕ) (its : List Item) (root first top : ℕ)
    (rebalance : IsRebalance e k pages c records levels l paths index (get_or paths l 0) slot 1 its root first top) (high : 1 < l) (most : l ≤ levels)
    (above : List ℕ) (above_is : above ≡ page_at c (get_or paths l 0)) (long : length above ≡ 512) (some_key : 1 ≤ k) (key_most : k ≤ 12)
    (n : ℕ) (count : n ≡ filled above) (after : 1 ≤ slot) (place : slot ≤ n) where
  abbrev xs : List Item
  xs = (node_at (rebalance.nodes l) (rebalance.place l)).items

  here_in : rebalance.place l < length (rebalance.nodes l)
  here_in = rebalance.path.inside l (omega arith) most

  inner : IsInner k above (node_at (rebalance.nodes l) (rebalance.place l)).items
  inner = subst (λ (x : List ℕ). IsInner k x xs) (sym (above_is ∙ ap (page_at c) rebalance.path.here)) ((rebalance.opened.stored l (rebalance.place l) (omega (arith, high)) most here_in).inner high)

  slot_in : slot < length xs
  slot_in = omega (arith, place, count, inner.count)

  enough : l < levels → IsEnough e k l (length xs)
  enough under = rebalance.opened.filled l (rebalance.place l) (omega (arith, high)) under here_in

  pend : (page : List ℕ) (ys : List Item) → swapped xs slot 1 its ≡ ys → IsInner k page ys → (item_at ys 0).key ≡ (item_at xs 0).key → length xs ≤ length ys + 1
      → IsPending e k pages c records levels l paths index (get_or paths l 0) page root first top
  pend page ys same is first_same lost = record {
    was = c;
    slot = slot;
    less = 1;
    its = its;
    rebalance = rebalance;
    inside = omega (arith, slot_in);
    bytes = page_of_inner e k l page (swapped xs slot 1 its) high (subst (IsInner k page) (sym same) is);
    keeps = inr (ap (λ (zs : List Item). (item_at zs 0).key) same ∙ first_same);
    almost = λ under. record { leaf = λ one. absurd (omega (arith, one, high)); inner = λ above_one. omega (arith, (enough under).inner high, lost, ap length same) };
    others = λ q some other. refl;
  }

  pub key_update_out : its ≡ [] → 2 ≤ n → IsPending e k pages c records levels l paths index (get_or paths l 0) (inner_without k above n (slot - 1) slot) root first top
  key_update_out none two =
      pend (inner_without k above n (slot - 1) slot) (without xs slot) (swapped_one xs slot its slot_in ∙ ap (splice xs slot) none)
      (inner_less k above xs n (slot - 1) slot some_key key_most inner long count place refl two)
      (ap (λ (x : Item). x.key) (without_below xs slot 0 slot_in (omega (arith, after))))
      (omega (arith, length-without xs slot slot_in))

  pub key_update_named : (key : List ℕ) (child : ℕ) → its ≡ child_item key child ∷ [] → length key ≡ k → child ≡ link_at k above slot
      → IsPending e k pages c records levels l paths index (get_or paths l 0) (overwritten above (8 + k * (slot - 1)) key) root first top
  key_update_named key child is width linked =
      pend (overwritten above (8 + k * (slot - 1)) key) (splice xs slot (child_item key child ∷ [])) (swapped_one xs slot its slot_in ∙ ap (splice xs slot) is)
      (inner_named k above xs n slot (child_item key child) inner count place (linked ∙ sym (inner.links slot slot_in)) some_key key_most long (slot - 1) (omega (arith, after)) width)
      (ap (λ (x : Item). x.key) (spliced_other xs slot 0 (child_item key child) slot_in (omega (arith, after))))
      (omega (arith, length-splice xs slot (child_item key child ∷ []) slot_in))

-- the root has one child left, which is the root now
pub root_gone : (e k pages : ℕ) (c : List ℕ) (records : List (List ℕ)) (levels level : ℕ) (paths index : List ℕ) (slot root first top : ℕ)
    → IsRebalance e k pages c records levels (level + 1) paths index (get_or paths (level + 1) 0) slot 1 [] root first top → 1 ≤ level → levels ≡ level + 1 → 512 * pages ≤ length c
    → (above : List ℕ) → above ≡ page_at c (get_or paths (level + 1) 0) → filled above ≡ 1 → 1 ≤ slot → slot ≤ 1
    → (other : List ℕ) → length other ≡ 512 → kind_of other ≡ 0 → next_in other ≡ first
    → IsClosed e k pages (overwritten c (512 * get_or paths (level + 1) 0) other) records level (link_at k above 0) (get_or paths (level + 1) 0) top
root_gone e k pages c records levels level paths index slot root first top rebalance some is size above above_is one after place other long kind next =
    subst (λ (q : ℕ). IsClosed e k pages (overwritten c (512 * up) other) records level q up top) (sym only)
    (subst (λ (q : ℕ). IsClosed e k pages (overwritten c (512 * up) other) records level (node_at (whole.nodes level) 0).page q top) root_up
    (rebalance_shrink e k pages c records level paths index up slot root first top whole some (omega (arith, place)) two (overwritten c (512 * up) other)
    (λ (q : ℕ) (some_q : 1 ≤ q) (not_root : q ≢ root). page_other c other up q long fits (λ (h : q ≡ up). not_root (h ∙ sym root_up)))
    (ap (λ (q : ℕ). kind_of (page_at (overwritten c (512 * up) other) q)) root_up ∙ ap kind_of (page_same c other up long fits) ∙ kind)
    (ap (λ (q : ℕ). next_in (page_at (overwritten c (512 * up) other) q)) root_up ∙ ap next_in (page_same c other up long fits) ∙ next)))
  where
    up : ℕ
    up = get_or paths (level + 1) 0

    whole : IsRebalance e k pages c records (level + 1) (level + 1) paths index (get_or paths (level + 1) 0) slot 1 [] root first top
    whole = subst (λ (m : ℕ). IsRebalance e k pages c records m (level + 1) paths index (get_or paths (level + 1) 0) slot 1 [] root first top) is rebalance

    root_in : 0 < length (whole.nodes (level + 1))
    root_in = omega (arith, whole.one)

    root_up : root ≡ up
    root_up = whole.root_is ∙ ap (λ (i : ℕ). (node_at (whole.nodes (level + 1)) i).page) (sym whole.path.top) ∙ sym whole.path.here

    up_small : (1 ≤ up) × (up < pages)
    up_small =
        let within = within_shared (level + 1) whole.nodes whole.free top whole.opened.shared (level + 1) 0 (omega arith) (omega arith) root_in in
        (omega (arith, within.0, root_up, whole.root_is), omega (arith, within.1, root_up, whole.root_is, whole.top_below))

    fits : 512 * up + 512 ≤ length c
    fits = omega (arith, up_small.1, size)

    inner : IsInner k above (node_at (whole.nodes (level + 1)) 0).items
    inner = subst (λ (x : List ℕ). IsInner k x (node_at (whole.nodes (level + 1)) 0).items) (sym (above_is ∙ ap (page_at c) (sym root_up ∙ whole.root_is)))
        ((whole.opened.stored (level + 1) 0 (omega arith) (omega arith) root_in).inner (omega (arith, some)))

    two : length (node_at (whole.nodes (level + 1)) 0).items ≡ 2
    two = omega (arith, inner.count, one)

    pos_one : whole.pos ≡ slot
    pos_one = omega (arith, whole.pos_is, ap (before (whole.nodes (level + 1))) whole.path.top)

    slot_one : slot ≡ 1
    slot_one = omega (arith, after, place)

    first_left : (ys : List Item) (p : ℕ) → length ys ≡ 2 → p ≡ 1 → (item_at (swapped ys p 1 []) 0).page ≡ (item_at ys 0).page
    first_left [] p two_xs p_is = absurd (omega (arith, two_xs))
    first_left (x ∷ ys) zero two_xs p_is = absurd (omega (arith, p_is))
    first_left (x ∷ ys) (suc p) two_xs p_is = refl

    only : link_at k above 0 ≡ (node_at (whole.nodes level) 0).page
    only =
        let all : items_of (whole.nodes (level + 1)) ≡ (node_at (whole.nodes (level + 1)) 0).items = items_one (whole.nodes (level + 1)) whole.one in
        let rows_are : swapped (items_of (whole.nodes (level + 1))) whole.pos 1 [] ≡ heads (whole.nodes level) = whole.due.due level (omega arith) refl ∙ rows_above k records whole.nodes level (omega (arith, some)) in
        let long_rows : length (swapped (items_of (whole.nodes (level + 1))) whole.pos 1 []) ≡ length (whole.nodes level) = ap length rows_are ∙ length-heads (whole.nodes level) in
        sym (inner.links 0 (omega (arith, two)))
        ∙ sym (ap (λ (xs : List Item). (item_at xs 0).page) all)
        ∙ sym (first_left (items_of (whole.nodes (level + 1))) whole.pos (ap length all ∙ two) (pos_one ∙ slot_one))
        ∙ ap (λ (xs : List Item). (item_at xs 0).page) rows_are
        ∙ heads_page (whole.nodes level) 0 (some_below (items_of (whole.nodes (level + 1))) whole.pos (length (whole.nodes level)) (ap length all ∙ two) (pos_one ∙ slot_one) long_rows)
      where
        some_below : (ys : List Item) (p m : ℕ) → length ys ≡ 2 → p ≡ 1 → length (swapped ys p 1 []) ≡ m → 0 < m
        some_below [] p m two_xs p_is is_long = absurd (omega (arith, two_xs))
        some_below (x ∷ ys) zero m two_xs p_is is_long = absurd (omega (arith, p_is))
        some_below (x ∷ ys) (suc p) m two_xs p_is is_long = omega (arith, is_long)

-- the page is filled enough, or it is the root: it is written, and all is done
pub pending_closed : (e k pages : ℕ) (b : List ℕ) (records : List (List ℕ)) (levels level : ℕ) (paths index : List ℕ) (at : ℕ) (page : List ℕ) (root first top : ℕ) (pending : IsPending e k pages b records levels level paths index at page root first top)
    → 1 ≤ level → level ≤ levels → 512 * pages ≤ length b → length page ≡ 512 → (level < levels → ((level ≡ 1 → IsEnough e k level (filled page)) × (1 < level → IsEnough e k level (filled page + 1))))
    → IsClosed e k pages (overwritten b (512 * at) page) records levels root first top
pending_closed e k pages b records levels level paths index at page root first top pending some most size long enough =
    rebalance_put e k pages pending.was records levels level paths index at pending.slot pending.less pending.its root first top pending.rebalance some most (overwritten b (512 * at) page) pending.inside
    (record { page = at; items = now }) pending.rebalance.path.here refl
    (subst (λ (x : List ℕ). IsPageOf e k level x now) (sym (page_same b page at long fits)) pending.bytes)
    (λ (under : level < levels). record {
      leaf = λ one. omega (arith, (((enough under).0 one).leaf one), (pending.bytes.leaf one).count);
      inner = λ high. omega (arith, (((enough under).1 high).inner high), (pending.bytes.inner high).count);
    })
    (λ (q : ℕ) (some_q : 1 ≤ q) (other : q ≢ (node_at (pending.rebalance.nodes level) (pending.rebalance.place level)).page).
    let not_at : q ≢ at = λ h. other (h ∙ pending.rebalance.path.here) in
    page_other b page at q long fits not_at ∙ pending.others q some_q not_at)
    (pending.rebalance.path.here, pending.keeps)
  where
    now : List Item
    now = swapped (node_at (pending.rebalance.nodes level) (pending.rebalance.place level)).items pending.slot pending.less pending.its

    at_small : at < pages
    at_small =
        let within = within_shared levels pending.rebalance.nodes pending.rebalance.free top pending.rebalance.opened.shared level (pending.rebalance.place level) some most (pending.rebalance.path.inside level (omega arith) most) in
        omega (arith, within.1, pending.rebalance.path.here, pending.rebalance.top_below)

    fits : 512 * at + 512 ≤ length b
    fits = omega (arith, at_small, size)

pub ample_enough : (e k l n levels : ℕ) → IsAmple e k l n → l < levels → (l ≡ 1 → IsEnough e k l n) × (1 < l → IsEnough e k l (n + 1))
ample_enough e k l n levels ample under = (
  λ one. record { leaf = λ same. omega (arith, ample.leaf one); inner = λ above. absurd (omega (arith, above, one)) },
  λ high. record { leaf = λ same. absurd (omega (arith, same, high)); inner = λ above. omega (arith, ample.inner (omega (arith, high))) },
)

paid : (spent after start cost rest : ℕ) → after ≤ spent + 5 * cost → spent + 5 * ((rest + 1) * cost) ≤ start + 25 * cost → after + 5 * (rest * cost) ≤ start + 25 * cost
paid spent after start cost rest is had = omega (arith, is, had)

pub paid_up : (spent after start cost level : ℕ) → level < 6 → after ≤ spent + 5 * cost → spent + 5 * ((6 - level) * cost) ≤ start + 25 * cost → after + 5 * ((6 - (level + 1)) * cost) ≤ start + 25 * cost
paid_up spent after start cost level less is had =
    let one_more : 6 - level ≡ (6 - (level + 1)) + 1 = omega (arith, less) in
    paid spent after start cost (6 - (level + 1)) is (subst (λ (n : ℕ). spent + 5 * (n * cost) ≤ start + 25 * cost) one_more had)
