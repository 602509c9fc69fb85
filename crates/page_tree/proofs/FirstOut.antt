-- The first record of a leaf is taken out, once its new first key is named above.
use Rattle.std.proofs.Common.{◌≡◌, ◌≢◌, inl, inr, ℕ, ◌+◌, ◌-◌, ◌*◌, ◌<◌, ◌≤◌, List, [], ◌∷◌, length, take, get_or, remove, slice_set, arith, refl, sym, ◌∙◌, ap, subst, length-take}
use Rattle.std.proofs.lemmas.Bool.{cases_eq}
use Rattle.std.proofs.lemmas.List.{length-set}
use Rattle.flat_mem.specs.Memory.{overwritten}
use Rattle.flat_mem.specs.Parts.{length-part, length-overwritten}
use Rattle.page_tree.specs.Keys.{Item}
use Rattle.page_tree.specs.Page.{IsWidths, page_at, filled, key_room, record_at, record_item, IsLeaf}
use Rattle.page_tree.specs.Tree.{node_at, before}
use Rattle.page_tree.specs.Change.{without}
use Rattle.page_tree.specs.Copied.{leaf_without}
use Rattle.page_tree.specs.Due.{swapped}
use Rattle.page_tree.specs.Path.{IsPath}
use Rattle.page_tree.specs.Named.{IsTurn, IsNamed, IsKept, CanName}
use Rattle.page_tree.specs.SectorState.{IsSectorState}
use Rattle.page_tree.specs.Underfull.{IsPending}
use Rattle.page_tree.proofs.Once.{page_same, page_other}
use Rattle.std.proofs.lemmas.Nat.{mul-le}
use Rattle.page_tree.proofs.Inner.{links_fit}
use Rattle.page_tree.proofs.PlacedLaws.{placed_leaf}
use Rattle.page_tree.proofs.Less.{leaf_less}
use Rattle.page_tree.proofs.Neighbours.{record_long}
use Rattle.page_tree.proofs.Swapped.{swapped_one}
use Rattle.page_tree.proofs.Changed.{length-splice}
use Rattle.page_tree.proofs.NamedFirst.{naming_first, doubled, doubled_long, doubled_others, second_is, next_in}
use Rattle.page_tree.proofs.Turned.{naming_all, turned_leaf, straight_leaf, up_some, up_inner}
use Rattle.page_tree.proofs.TakenOut.{dup_out, dup_removed, out_pending, kept_pending}

pub can_name : (e k pages : ℕ) (b : List ℕ) (records : List (List ℕ)) (levels root first top : ℕ) (here : IsSectorState e k pages b records levels root first top) (paths index : List ℕ) (at : ℕ) (home : ℕ → ℕ) → IsPath here.nodes levels 1 paths index at home → CanName k b pages levels paths index
can_name e k pages b records levels root first top here paths index at home path = record {
  inside = λ l turn. (up_some e k pages b records levels root first top here paths index at home path b (λ (q : ℕ) (some_q : 1 ≤ q) (other : q ≢ at). refl) l turn.from turn.most).1;
  inner = λ l turn. (
    (node_at (here.nodes l) (home l)).items,
    up_inner e k pages b records levels root first top here paths index at home path b (λ (q : ℕ) (some_q : 1 ≤ q) (other : q ≢ at). refl) l turn.from turn.most,
    path.chosen l (omega (arith, turn.from)) turn.most,
  );
}

module _ (e k pages : ℕ) (b : List ℕ) (records : List (List ℕ)) (levels root first top : ℕ) (here : IsSectorState e k pages b records levels root first top) (widths : IsWidths e k) (some : 0 < levels)
    (page paths index : List ℕ) (at : ℕ) (home : ℕ → ℕ) (path : IsPath here.nodes levels 1 paths index at home) (read : page ≡ page_at b (node_at (here.nodes 1) (home 1)).page) (long : length page ≡ 512) (two : 2 ≤ filled page) (size : 512 * pages ≤ length b)
    (reveals : List ℕ → Type 0) where
  abbrev xs : List Item
  xs = (node_at (here.nodes 1) (home 1)).items

  abbrev pos : ℕ
  pos = before (here.nodes 1) (home 1)

  abbrev second : List ℕ
  second = record_at e page 1

  leaf_here : IsLeaf e k page xs
  leaf_here = placed_leaf e k b records levels here.nodes here.rooted.tower some page paths index at home path read

  two_xs : 2 ≤ length xs
  two_xs = omega (arith, two, leaf_here.count)

  long_second : length second ≡ e
  long_second = record_long e page 1 widths long (omega (arith, two_xs, leaf_here.most))

  width : length (take k second) ≡ k
  width = omega (arith, length-take k second, long_second, widths.key_most, widths.entry_least)

  records_now : remove (slice_set records pos second) (pos + 1) ≡ remove records (pos + 0)
  records_now =
      let none : pos ≡ pos + 0 = omega arith in
      ap (λ (r : List ℕ). remove (slice_set records pos r) (pos + 1)) (second_is e k pages b records levels root first top here widths some page paths index at home path read long two size)
      ∙ dup_removed records pos (next_in e k pages b records levels root first top here widths some page paths index at home path read long two size) ∙ ap (remove records) none

  module _ (d : ℕ) (turn : IsTurn index levels (d + 2)) where
    abbrev up : ℕ
    up = get_or paths (d + 2) 0

    up_in : (1 ≤ up) × (up < pages)
    up_in = up_some e k pages b records levels root first top here paths index at home path b (λ (q : ℕ) (some_q : 1 ≤ q) (other : q ≢ at). refl) (d + 2) turn.from turn.most

    up_fits : 512 * up + 512 ≤ length b
    up_fits = omega (arith, up_in.1, size)

    abbrev named : List ℕ
    named = overwritten (page_at b up) (8 + k * (get_or index (d + 2) 0 - 1)) (take k second)

    abbrev v : List ℕ
    v = doubled e k pages b records levels root first top here widths some page paths index at home path read long two size

    v_others : (q : ℕ) → 1 ≤ q → q ≢ at → page_at v q ≡ page_at b q
    v_others = doubled_others e k pages b records levels root first top here widths some page paths index at home path read long two size

    long_up : length (page_at b up) ≡ 512
    long_up = length-part b (512 * up) 512 up_fits

    turned : (reveals (overwritten b (512 * up) named)) → length named ≡ 512 → length v ≡ length b
        → (c : List ℕ) × reveals c × IsPending e k pages c (remove records (pos + 0)) levels 1 paths index at (leaf_without e page (filled page) 0) root first top
    turned revealed long_named long_v = (
      overwritten b (512 * up) named,
      revealed,
      subst (λ (rs : List (List ℕ)). IsPending e k pages (overwritten b (512 * up) named) rs levels 1 paths index at (leaf_without e page (filled page) 0) root first top) records_now
          (kept_pending e k pages (overwritten v (512 * up) named) (overwritten b (512 * up) named) (slice_set records pos second) levels paths index at root first top pos (swapped xs 0 1 (record_item k second ∷ [])) kept (omega (arith, some))
          (omega (arith, length-set records pos second, next_in e k pages b records levels root first top here widths some page paths index at home path read long two size))
          (omega (arith, two_xs, ap length (swapped_one xs 0 (record_item k second ∷ []) (omega (arith, two_xs))), length-splice xs 0 (record_item k second ∷ []) (omega (arith, two_xs))))
          others (leaf_without e page (filled page) 0) leaf_now),
    )
      where
        kept : IsKept e k pages (overwritten v (512 * up) named) (slice_set records pos second) levels paths index at root first top pos (swapped xs 0 1 (record_item k second ∷ []))
        kept = naming_all e k pages b records levels root first top here paths index at home path v v_others (take k second) (slice_set records pos second) pos (swapped xs 0 1 (record_item k second ∷ [])) widths.some_key widths.key_most width
            (naming_first e k pages b records levels root first top here widths some page paths index at home path read long two size (omega (arith, turn.most))
            (turned_leaf e k pages b records levels root first top here paths index at home path b (λ (q : ℕ) (some_q : 1 ≤ q) (other : q ≢ at). refl) d turn))
            d turn (page_at b up) refl long_up (omega (arith, size, long_v))

        up_fits_v : 512 * up + 512 ≤ length v
        up_fits_v = omega (arith, up_fits, long_v)

        others : (q : ℕ) → 1 ≤ q → q ≢ at → page_at (overwritten b (512 * up) named) q ≡ page_at (overwritten v (512 * up) named) q
        others q some_q other = elim (cases_eq q up) [
          | inl is ↦ ap (page_at (overwritten b (512 * up) named)) is ∙ page_same b named up long_named up_fits ∙ sym (page_same v named up long_named up_fits_v) ∙ sym (ap (page_at (overwritten v (512 * up) named)) is)
          | inr not_up ↦ page_other b named up q long_named up_fits not_up ∙ sym (v_others q some_q other) ∙ sym (page_other v named up q long_named up_fits_v not_up)
        ]

        leaf_now : IsLeaf e k (leaf_without e page (filled page) 0) (without (swapped xs 0 1 (record_item k second ∷ [])) 1)
        leaf_now = subst (IsLeaf e k (leaf_without e page (filled page) 0)) (sym (dup_out xs (record_item k second) two_xs (sym (leaf_here.lists 1 (omega (arith, two_xs))))))
            (leaf_less e k page xs (filled page) 0 (omega (arith, widths.entry_least)) leaf_here long refl (omega (arith, two)) two)

  named_long : (l : ℕ) → 2 ≤ l → l ≤ levels → 0 < get_or index l 0 → length (page_at b (get_or paths l 0)) ≡ 512 → length (overwritten (page_at b (get_or paths l 0)) (8 + k * (get_or index l 0 - 1)) (take k second)) ≡ 512
  named_long l high most turns is =
      let inner = up_inner e k pages b records levels root first top here paths index at home path b (λ (q : ℕ) (some_q : 1 ≤ q) (other : q ≢ at). refl) l high most in
      let chosen = path.chosen l (omega (arith, high)) most in
      let cells : k * (get_or index l 0 - 1 + 1) ≤ k * key_room k = mul-le k (get_or index l 0 - 1 + 1) k (key_room k) (omega arith) (omega (arith, turns, chosen, inner.most)) in
      length-overwritten (page_at b (get_or paths l 0)) (take k second) (8 + k * (get_or index l 0 - 1)) (omega (arith, is, width, cells, (links_fit k widths.some_key widths.key_most).0)) ∙ is

  -- what has still to be written then
  pub first_pending : IsNamed k reveals b levels paths index (take k (record_at e page 1))
      → (c : List ℕ) × reveals c × IsPending e k pages c (remove records (before (here.nodes 1) (home 1) + 0)) levels 1 paths index at (leaf_without e page (filled page) 0) root first top
  first_pending named = elim named [
    | inl straight ↦
        let first_leaf : home 1 ≡ 0 = straight_leaf e k pages b records levels root first top here paths index at home path b (λ (q : ℕ) (some_q : 1 ≤ q) (other : q ≢ at). refl) straight.0 (levels - 1) 1 (omega (arith, some)) (omega arith) in
        (b, straight.1, out_pending e k pages b records levels root first top here widths some page paths index at home path read 0 (omega (arith, two)) long two (inr first_leaf))
    | inr turned_at ↦
        let l = turned_at.0 in
        let is : turned_at.0 ≡ (turned_at.0 - 2) + 2 = omega (arith, turned_at.1.from) in
        let turn = subst (IsTurn index levels) is turned_at.1 in
        let revealed = subst (λ (m : ℕ). reveals (overwritten b (512 * get_or paths m 0) (overwritten (page_at b (get_or paths m 0)) (8 + k * (get_or index m 0 - 1)) (take k second)))) is turned_at.2 in
        turned (turned_at.0 - 2) turn revealed (named_long (turned_at.0 - 2 + 2) turn.from turn.most turn.turns (long_up (turned_at.0 - 2) turn)) (doubled_long e k pages b records levels root first top here widths some page paths index at home path read long two size)
  ]
