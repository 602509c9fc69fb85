-- Calls that make, remove or divide spaces keep a machine.
use Rattle.std.proofs.Common.{◌≡◌, ◌≢◌, ℕ, ◌+◌, ◌≤◌, Bool, true, false, not, ◌&&◌, List, length, Option, Some, None, refl, sym, ◌∙◌, ap, arith}
use Rattle.std.specs.Prelude.{IfSome, nat_lt, nat_le, is_none, unwrap_or, ◌==◌}
use Rattle.std.specs.Option.{option_map_or}
use Rattle.std.specs.Bool.{then_some}
use Rattle.std.specs.List.{list_any}
use Rattle.std.proofs.lemmas.Bool.{eqb-false, ne_eqb, false≢true, and_parts, ltb-false, leb-true}
use Rattle.std.proofs.lemmas.Option.{none-some}
use Rattle.flat_machine.specs.declared.call.Call.TheVariants.{MakeSpace, RemoveSpace}
use Rattle.flat_machine.specs.declared.call.Refusal.TheVariants as why
use Rattle.flat_machine.specs.Space.{Space, Window, root, end, overlap, space_at, is_child_of, is_writable, shows}
use Rattle.flat_machine.specs.Machine.{Machine, IsWindow}
use Rattle.flat_machine.specs.IsMachine.{IsMachine}
use Rattle.flat_machine.specs.Refusal.{refusal, no_space, no_size, no_spaces, no_place, fits, is_clear, lowest_gap, gap_starts, is_root, has_children, self_mapped}
use Rattle.flat_machine.specs.Next.{next, new_space, first_page_for, is_unused, put_space, without_space}
use Rattle.flat_machine.proofs.Lists.{In, all_in, in_all, in_filter, filter_in, any_in, in_any, not_any, all_pass, one_key, looked_up}
use Rattle.flat_machine.proofs.TestLemmas.{four_none, then_none, space_there, of_space_none, window_free, not_root}
use Rattle.flat_machine.proofs.LowestLemmas.{least_among, filter_passed}
use Rattle.flat_machine.proofs.HandleLemmas.{lowest_few, lowest_free, every_put}
use Rattle.flat_machine.proofs.SpaceLemmas.{AreSpaces}
use Rattle.flat_machine.proofs.SpaceEdits.{MayBeMade, made_spaces, made_alone, removed_spaces, removed_alone, put_in, overlap_swap}
use Rattle.flat_machine.proofs.Keep.{spaces_of, refused_or, with_spaces}

-- The place of a new space.

pub place_fits : (ss : List Space) (parent pages : ℕ) (first : Option ℕ) (p : Space) → space_at ss parent ≡ Some p → no_place ss parent pages first ≡ None
    → fits ss p pages (first_page_for ss parent pages first) ≡ true
place_fits ss parent pages (Some first) p is e = either (fits ss p pages first) refl (of_space_none ss parent (λ q. then_some (not (fits ss q pages first)) why.Range) p is e)
  where
    either : (b : Bool) → fits ss p pages first ≡ b → then_some (not b) why.Range ≡ None → fits ss p pages first ≡ true
    either true t f = t
    either false t f = absurd (none-some why.Range (sym f))
place_fits ss parent pages None p is e = either (lowest_gap ss p pages) refl (of_space_none ss parent (λ q. then_some (is_none (lowest_gap ss q pages)) why.Gap) p is e)
  where
    here : first_page_for ss parent pages None ≡ unwrap_or (lowest_gap ss p pages) 0
    here = ap (λ (o : Option Space). option_map_or (λ q. unwrap_or (lowest_gap ss q pages) 0) o 0) is

    either : (o : Option ℕ) → lowest_gap ss p pages ≡ o → then_some (is_none o) why.Gap ≡ None → fits ss p pages (first_page_for ss parent pages None) ≡ true
    either None t f = absurd (none-some why.Gap (sym f))
    either (Some g) t f =
        let ok = filter_passed (fits ss p pages) (gap_starts ss p) g (least_among _ g t) in
        ap (λ (n : ℕ). fits ss p pages n) (here ∙ ap (λ (o : Option ℕ). unwrap_or o 0) t) ∙ ok

-- what stands there is over no child of the parent
pub clear_of : (ss : List Space) (p x : Space) → fits ss p x.pages x.first ≡ true → p.handle ≡ x.parent → (s : Space) → In s ss → is_child_of x.parent s ≡ true → overlap x s ≡ false
clear_of ss p x f e s i child =
    let outer = and_parts (nat_le p.first x.first && nat_le (x.first + x.pages) (end p)) (is_clear ss p x.pages x.first) f in
    let passed = all_pass (λ t. not (is_child_of p.handle t && (nat_lt t.first (x.first + x.pages) && nat_lt x.first (end t)))) ss outer.1 s i in
    let mine : is_child_of p.handle s ≡ true = ap (λ (n : ℕ). is_child_of n s) e ∙ child in
    overlap_swap x s ∙ right (is_child_of p.handle s) (nat_lt s.first (x.first + x.pages)) (nat_lt x.first (end s)) mine passed
  where
    right : (a b c : Bool) → a ≡ true → not (a && (b && c)) ≡ true → b && c ≡ false
    right false b c t f = absurd (false≢true t)
    right true false c t f = refl
    right true true false t f = refl
    right true true true t f = absurd (false≢true f)

pub inside_of : (ss : List Space) (p : Space) (pages first : ℕ) → fits ss p pages first ≡ true → (p.first ≤ first) × (first + pages ≤ end p)
inside_of ss p pages first f =
    let outer = and_parts (nat_le p.first first && nat_le (first + pages) (end p)) (is_clear ss p pages first) f in
    let inner = and_parts (nat_le p.first first) (nat_le (first + pages) (end p)) outer.0 in
    (leb-true p.first first inner.0, leb-true (first + pages) (end p) inner.1)

-- the root's handle is in use
pub zero_used : (ss : List Space) → AreSpaces ss → is_unused ss 0 ≡ false
zero_used ss h = let r = looked_up (λ s. s.handle) ss 0 root h.has_root in ap not (in_any (λ s. s.handle == 0) ss root r.0 refl)

pub make_keeps : (parent pages : ℕ) (first : Option ℕ) (m : Machine) → IsMachine m → IsMachine (next m (MakeSpace parent pages first))
make_keeps parent pages first m h = refused_or m (MakeSpace parent pages first) h kept
  where
    kept : refusal m (MakeSpace parent pages first) ≡ None → IsMachine (record m { spaces = put_space (new_space m.spaces parent pages first) m.spaces })
    kept e =
        let tests = four_none (no_space m.spaces parent) (no_size pages) (no_spaces m.spaces) (no_place m.spaces parent pages first) e in
        let spaces = spaces_of m h in
        let zero_there = zero_used m.spaces spaces in
        let free = lowest_free m.spaces spaces.rise zero_there in
        let few = ltb-false 511 (length m.spaces) (then_none (nat_lt 511 (length m.spaces)) why.Spaces tests.2) in
        let some : pages ≢ 0 = eqb-false pages 0 (then_none (pages == 0) why.Size tests.1) in
        let there = space_there m.spaces parent tests.0 in
        let p : Space = there.0 in
        let at = looked_up (λ s. s.handle) m.spaces parent p there.1 in
        let x = new_space m.spaces parent pages first in
        let good = place_fits m.spaces parent pages first p there.1 tests.3 in
        let inside = inside_of m.spaces p pages (first_page_for m.spaces parent pages first) good in
        let may : MayBeMade m.spaces x p = record {
          unused = free.0;
          not_root = λ z. absurd (omega (arith, free.1, z));
          handle_fits = omega (arith, lowest_few m.spaces spaces.rise zero_there, few);
          not_empty = omega (arith, some);
          unit_fits = (omega (arith, some), omega arith);
          unmapped = refl;
          inside = record { there = at.0; parent = at.1; first = inside.0; last = inside.1 };
          clear = clear_of m.spaces p x good at.1;
        } in
        with_spaces m (put_space x m.spaces) (made_spaces m.spaces x p may spaces) (made_alone m.spaces x refl h.anonymous_alone)
        (every_put (λ s. IfSome s.window (IsWindow m.files s.pages)) x m.spaces tt h.whole_windows)
        (in_all _ m.unforced (λ u i.
        let r = any_in _ m.spaces (all_in _ m.unforced h.unforced_shown u i) in
        in_any (λ s. is_writable s && shows u.file u.page s) (put_space x m.spaces) r.0 (put_in x m.spaces r.0 r.1) r.2)) h

-- A space is removed.

pub mapped_of : (s : Space) (file page : ℕ) → is_writable s && shows file page s ≡ true → s.window ≢ None
mapped_of s file page t e = absurd (false≢true (sym (ap (λ (o : Option Window). option_map_or (λ w. w.writable) o false) e) ∙ (and_parts (is_writable s) (shows file page s) t).0))

pub remove_keeps : (space : ℕ) (m : Machine) → IsMachine m → IsMachine (next m (RemoveSpace space))
remove_keeps space m h = refused_or m (RemoveSpace space) h kept
  where
    kept : refusal m (RemoveSpace space) ≡ None → IsMachine (record m { spaces = without_space space m.spaces })
    kept e =
        let tests = four_none (no_space m.spaces space) (is_root space) (has_children m.spaces space) (self_mapped m.spaces space) e in
        let there = space_there m.spaces space tests.0 in
        let free = window_free m.spaces space there.0 there.1 tests.3 in
        let at = looked_up (λ s. s.handle) m.spaces space there.0 there.1 in
        let stays = λ (s : Space). not (s.handle == space) in
        let none = not_any (is_child_of space) m.spaces (then_none (list_any (is_child_of space) m.spaces) why.Children tests.2) in
        with_spaces m (without_space space m.spaces) (removed_spaces m.spaces space (not_root space tests.1) none (spaces_of m h)) (removed_alone m.spaces space h.anonymous_alone)
        (in_all _ (without_space space m.spaces) (λ s i. all_in _ m.spaces h.whole_windows s (in_filter stays m.spaces s i).0))
        (in_all _ m.unforced (λ u i.
        let r = any_in _ m.spaces (all_in _ m.unforced h.unforced_shown u i) in
        let other : r.0.handle ≢ space = λ q. mapped_of r.0 u.file u.page r.2 (ap (λ (s : Space). s.window) (one_key (λ s. s.handle) m.spaces h.handles_rise r.0 there.0 r.1 at.0 (q ∙ sym at.1)) ∙ free) in
        in_any (λ s. is_writable s && shows u.file u.page s) (without_space space m.spaces) r.0
        (filter_in stays m.spaces r.0 r.1 (ap not (ne_eqb r.0.handle space other))) r.2)) h
