-- The tables with a space fewer.
use Rattle.std.proofs.Common.{◌≡◌, ℕ, ◌+◌, ◌<◌, ◌≤◌, Bool, true, false, not, ◌==◌, List, length, Option, Some, None, refl, sym, ◌∙◌, ap, subst, arith}
use Rattle.std.specs.Prelude.{slice_get, slice_set, option_and_then, is_some, find, nat_le, if◌then◌else◌}
use Rattle.std.proofs.lemmas.Option.{same_Some, none-some}
use Rattle.record_table.specs.Field.{field}
use Rattle.projection_laws.specs.Stored.{slot_in, space_in}
use Rattle.space_tables.specs.Form.{slot_record, first_in_slot, lies_in_root, space_in_form}
use Rattle.std.specs.Bool.{then_some}
use Rattle.std.proofs.lemmas.Bool.{and_parts, eqb-true}
use Rattle.std.proofs.lemmas.Bool.Decides.{nat_tests}
use Rattle.flat_machine.specs.declared.call.Refusal.{Refusal}
use Rattle.flat_machine.specs.declared.call.Refusal.TheVariants as why
use Rattle.flat_machine.specs.declared.space.Space.{Space}
use Rattle.flat_machine.specs.declared.space.Window.{Window}
use Rattle.flat_machine.specs.Space.{root_pages, end, space_at, is_child_of, is_mapped}
use Rattle.flat_machine.specs.Refusal.{first_of}
use Rattle.flat_machine.specs.Next.{without_space}
use Rattle.flat_machine.proofs.Lists.{In, all_in, looked_up, find_in, not_found, in_any, any_not}
use Rattle.flat_machine.specs.Machine.{IsSpace}
use Rattle.flat_machine.proofs.SpaceLemmas.{parent_at}
use Rattle.projection_laws.proofs.Inside.{same, inner_found, holds_by}
use Rattle.projection_laws.proofs.RevealLemmas.{intervals_reveal}
use Rattle.projection_laws.specs.Sight.{Interval, AreIntervals, end_of}
use Rattle.projection_laws.specs.Slots.{listed}
use Rattle.projection_laws.specs.Spaces.{AreSpaces, MayBeRemoved}
use Rattle.projection_laws.specs.Tests.{has_children, self_mapped, remove_row}
use Rattle.projection_laws.specs.Edits.{inside, rejoined}
use Rattle.projection_laws.proofs.SlotLemmas.{slot_cleared}
use Rattle.projection_laws.proofs.Added.{removed_joins}
use Rattle.projection_laws.proofs.Passes.{remove_passes}
use Rattle.projection_laws.proofs.FitLemmas.{windows_stay_fit}
use Rattle.space_tables.specs.declared.error.SpaceError.{SpaceError}
use Rattle.space_tables.specs.declared.error.SpaceError.TheVariants.{Refused, Malformed, Mem}
use Rattle.space_tables.specs.Answer.{Refuses}
use Rattle.space_tables.specs.Stored.{HoldTables, RevealSpaces}
use Rattle.space_tables.proofs.Sets.{in_slot, same_space}

-- ---- tests

pub children_there : (ss : List Space) (h : ℕ) (s : Space) → Some s ≡ find (is_child_of h) ss → has_children ss h ≡ Some why.Children
children_there ss h s e =
    let i = find_in (is_child_of h) ss s (sym e) in ap (λ (b : Bool). then_some b why.Children) (in_any (is_child_of h) ss s i.0 i.1)

pub no_children : (ss : List Space) (h : ℕ) → None ≡ find (is_child_of h) ss → has_children ss h ≡ None
no_children ss h e = ap (λ (b : Bool). then_some b why.Children) (any_not (is_child_of h) ss (not_found (is_child_of h) ss (sym e)))

-- a space whose pages are one interval of its own has no child
pub childless : (ss : List Space) (xs : List Interval) (k : ℕ) (x : Interval) (s : Space) → AreSpaces ss → AreIntervals ss xs → slice_get xs k ≡ Some x → space_at ss s.handle ≡ Some s
    → x.first ≡ s.first → x.pages ≡ s.pages → x.space ≡ s.handle → find (is_child_of s.handle) ss ≡ None
childless ss xs k x s spaces are e at first pages own = by (find (is_child_of s.handle) ss) refl
  where
    none : (t : Space) → In t ss → is_child_of s.handle t ≡ true → ⊥
    none t i child =
        let form = all_in (IsSpace ss) ss spaces.whole t i in
        let p = parent_at ss t form in
        let found = looked_up (λ (r : Space). r.handle) ss s.handle s at in
        let parent : t.parent ≡ s.handle = eqb-true t.parent s.handle (and_parts (not (t.handle == 0)) (t.parent == s.handle) child).1 in
        let above : p.0 ≡ s = same ss spaces p.0 s p.1.there found.0 (p.1.parent ∙ parent) in
        let low : s.first ≤ t.first = subst (λ (r : Space). r.first ≤ t.first) above p.1.first in
        let high : end t ≤ end s = subst (λ (r : Space). end t ≤ end r) above p.1.last in
        let some = form.not_empty in
        let inner = (intervals_reveal ss xs k t.first x spaces are e (omega (arith, first, low), omega (arith, first, pages, high, some))).innermost_is in
        let is = inner_found ss t.first inner.0 inner.1 in
        let one : inner.0 ≡ s = same ss spaces inner.0 s is.there found.0 (sym inner.2 ∙ own) in
        is.no_child t i (ap (λ (r : Space). is_child_of r.handle t) one ∙ child) (holds_by t t.first (omega arith) (omega (arith, some)))

    by : (o : Option Space) → find (is_child_of s.handle) ss ≡ o → find (is_child_of s.handle) ss ≡ None
    by None f = f
    by (Some t) f = let r = find_in (is_child_of s.handle) ss t f in absurd (none t r.0 r.1)

pub own_test : (ss : List Space) (h : ℕ) (s : Space) (o : Option Window) → space_at ss h ≡ Some s → s.window ≡ o → self_mapped ss h ≡ then_some (is_some o) (why.Mapped h)
own_test ss h s o e f =
    ap (λ (q : Option Space). option_and_then (λ (s : Space). then_some (is_mapped s) (why.Mapped h)) q) e ∙ ap (λ (w : Option Window). then_some (is_some w) (why.Mapped h)) f

-- ---- the tables

pub removed : (reveals now : List ℕ → Type 0) (n m : ℕ) (ss : List Space) (t : RevealSpaces reveals n ss) (x p : Space) (k : ℕ) (i : Interval) → MayBeRemoved ss x p
    → slice_get t.xs k ≡ Some i → i.first ≤ x.first → x.first < end_of i
    → HoldTables now (slice_set t.slots x.handle None) (rejoined t.xs k (inside p i)) → length (rejoined t.xs k (inside p i)) ≡ m → RevealSpaces now m (without_space x.handle ss)
removed reveals now n m ss t x p k i may e low high hold long =
    let also : MayBeRemoved (listed t.slots) x p = subst (λ (rs : List Space). MayBeRemoved rs x p) (sym t.spaces) may in
    let cleared = slot_cleared t.slots x.handle (Some x) t.right.numbered (in_slot reveals n ss t x.handle x may.there) in
    let joined = removed_joins (listed t.slots) x p t.xs k i t.right.spaces also t.right.intervals e low high in record {
      slots = slice_set t.slots x.handle None;
      xs = rejoined t.xs k (inside p i);
      hold = hold;
      right = record {
        numbered = cleared.numbered;
        spaces = rw cleared.spaces joined.new.spaces;
        windows = rw cleared.spaces ((windows_stay_fit (listed t.slots) t.right.spaces t.right.windows).taken x.handle);
        intervals = rw cleared.spaces joined.new.intervals;
      };
      counted = long;
      spaces = cleared.spaces ∙ ap (without_space x.handle) t.spaces;
    }

-- the first page of a space is that in the record where it was read
pub first_read : (b : List ℕ) (h : ℕ) (s : Space) → slot_in h (slot_record b h) ≡ Some s → s.first ≡ first_in_slot b h
first_read b h s e = by (field 1 0 (slot_record b h) == 0) e
  where
    by : (t : Bool) → (if t then None else Some (space_in h (slot_record b h))) ≡ Some s → s.first ≡ first_in_slot b h
    by true f = absurd (none-some s f)
    by false f = ap (λ (q : Space). q.first) (sym (same_Some _ _ f))

-- what the tests give of the space that was found
pub may_be : (ss : List Space) (h : ℕ) (x : Space) → AreSpaces ss → first_of (remove_row ss h) ≡ None → space_at ss h ≡ Some x → (p : Space) × MayBeRemoved ss x p
may_be ss h x are row at =
    let pass = remove_passes ss h are row in
    let same : x ≡ pass.0 = same_space ss h x pass.0 at pass.3.there pass.2 in (pass.1, subst (λ (y : Space). MayBeRemoved ss y pass.1) (sym same) pass.3)

pub removed_at : (reveals now : List ℕ → Type 0) (n m : ℕ) (ss : List Space) (t : RevealSpaces reveals n ss) (x p : Space) (k h : ℕ) (i : Interval) → MayBeRemoved ss x p → x.handle ≡ h
    → slice_get t.xs k ≡ Some i → i.first ≤ x.first → x.first < end_of i
    → HoldTables now (slice_set t.slots h None) (rejoined t.xs k (inside p i)) → length (rejoined t.xs k (inside p i)) ≡ m → RevealSpaces now m (without_space h ss)
removed_at reveals now n m ss t x p k h i may own e low high hold long =
    subst (λ (j : ℕ). RevealSpaces now m (without_space j ss)) own
    (removed reveals now n m ss t x p k i may e low high (subst (λ (j : ℕ). HoldTables now (slice_set t.slots j None) (rejoined t.xs k (inside p i))) (sym own) hold) long)

pub first_inside : (s : Space) → space_in_form s ≡ true → s.first < root_pages
first_inside s e =
    let lies = (and_parts (lies_in_root s.first s.pages) _ (and_parts _ _ (and_parts _ _ e).0).0).0 in
    let both = and_parts (nat_le 1 s.pages) (nat_le (s.first + s.pages) root_pages) lies in
    let low = both.0 in
    let high = both.1 in grind (arith, nat_tests, low, high)

-- the refusal, and what stays
pub refuses_and : {X : Type 0} (stays : Type 0) → stays → (r : Option Refusal) (e : SpaceError X) → Refuses r (Unit {0}) e → Refuses r stays e
refuses_and stays s r (Refused word) h = (h.0, s)
refuses_and stays s r (Malformed page) h = h
refuses_and stays s r (Mem error) h = tt
