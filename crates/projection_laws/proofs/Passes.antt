-- Tests of spaces, and what passing them gives.
use Rattle.std.proofs.Common.{◌≡◌, ◌≢◌, inl, inr, ℕ, true, List, [], ◌∷◌, length, Option, Some, None, refl, sym, ◌∙◌, ap, arith}
use Rattle.std.specs.Prelude.{◌==◌, nat_lt, is_some}
use Rattle.std.specs.List.{list_any}
use Rattle.std.proofs.lemmas.Bool.{eqb-false, ltb-false}
use Rattle.flat_machine.specs.declared.call.Refusal.TheVariants as why
use Rattle.flat_machine.specs.declared.space.Space.{Space}
use Rattle.flat_machine.specs.declared.space.Window.{Window}
use Rattle.flat_machine.specs.Space.{is_child_of, is_mapped}
use Rattle.flat_machine.specs.Machine.{IsSpace}
use Rattle.flat_machine.specs.Refusal.{Test, first_of, no_size, is_root, no_file}
use Rattle.flat_machine.proofs.Lists.{all_in, in_all, not_any, looked_up, look_up}
use Rattle.flat_machine.proofs.TestLemmas.{two_none, three_none, four_none, then_none, space_there, window_free, window_there, path_free, not_root}
use Rattle.flat_machine.proofs.HandleLemmas.{lowest_few, lowest_free}
use Rattle.flat_machine.proofs.SpaceLemmas.{parent_at}
use Rattle.flat_machine.proofs.KeepSpaces.{place_fits, clear_of, inside_of, zero_used}
use Rattle.projection_laws.specs.Tests.{no_space, no_spaces, no_place, has_children, self_mapped, path_mapped, not_mapped, made, TestsOnSpaces, AddPasses, RemovePasses, MapPasses, WindowPasses}
use Rattle.projection_laws.proofs.Inside.{mapped_named}

-- the word of the first tests stands before the rest
two_first : (a b : Test) (rest : List Test) → first_of (a ∷ b ∷ rest) ≡ first_of (first_of (a ∷ b ∷ []) ∷ rest)
two_first (Some word) b rest = refl
two_first None (Some word) rest = refl
two_first None None rest = refl

three_first : (a b c : Test) (rest : List Test) → first_of (a ∷ b ∷ c ∷ rest) ≡ first_of (first_of (a ∷ b ∷ c ∷ []) ∷ rest)
three_first (Some word) b c rest = refl
three_first None b c rest = two_first b c rest

-- tests that were passed may be made again
again : (a b f c : Test) (rest : List Test) → first_of (a ∷ b ∷ f ∷ c ∷ rest) ≡ first_of (a ∷ b ∷ f ∷ first_of (a ∷ b ∷ c ∷ []) ∷ rest)
again (Some word) b f c rest = refl
again None (Some word) f c rest = refl
again None None (Some word) c rest = refl
again None None None (Some word) rest = refl
again None None None None rest = refl

pub tests_on_spaces : TestsOnSpaces
tests_on_spaces m = record {
  add = λ parent pages first. refl;
  remove = λ h. refl;
  units = λ h pages. refl;
  place = λ page. refl;
  map = λ h id page writable. again (no_space m.spaces h) (is_root h) (no_file m id) (path_mapped m.spaces h) _;
  map_anonymous = λ h. three_first (no_space m.spaces h) (is_root h) (path_mapped m.spaces h) _;
  unmap = λ h. refl;
  protect = λ h writable. two_first (no_space m.spaces h) (not_mapped m.spaces h) _;
}

pub add_passes : AddPasses
add_passes ss parent pages first h e =
    let tests = four_none (no_space ss parent) (no_size pages) (no_spaces ss) (no_place ss parent pages first) e in
    let zero_there = zero_used ss h in
    let free = lowest_free ss h.rise zero_there in
    let few = ltb-false 511 (length ss) (then_none (nat_lt 511 (length ss)) why.Spaces tests.2) in
    let some : pages ≢ 0 = eqb-false pages 0 (then_none (pages == 0) why.Size tests.1) in
    let there = space_there ss parent tests.0 in
    let p : Space = there.0 in
    let at = looked_up (λ s. s.handle) ss parent p there.1 in
    let x = made ss parent pages first in
    let fit = place_fits ss parent pages first p there.1 tests.3 in
    let inside = inside_of ss p pages x.first fit in (
      p,
      at.1,
      record {
        unused = free.0;
        not_root = λ z. absurd (omega (arith, free.1, z));
        handle_fits = omega (arith, lowest_few ss h.rise zero_there, few);
        not_empty = omega (arith, some);
        unit_fits = (omega (arith, some), omega arith);
        unmapped = refl;
        parent = there.1;
        inside = inside;
        clear = in_all _ ss (λ s i. clear_of ss p x fit at.1 s i);
      },
    )

pub remove_passes : RemovePasses
remove_passes ss handle h e =
    let tests = four_none (no_space ss handle) (is_root handle) (has_children ss handle) (self_mapped ss handle) e in
    let there = space_there ss handle tests.0 in
    let x : Space = there.0 in
    let at = looked_up (λ s. s.handle) ss handle x there.1 in
    let q = parent_at ss x (all_in (IsSpace ss) ss h.whole x at.0) in
    let none = not_any (is_child_of handle) ss (then_none (list_any (is_child_of handle) ss) why.Children tests.2) in (
      x,
      q.0,
      at.1,
      record {
        there = look_up (λ s. s.handle) ss h.rise x at.0 x.handle refl;
        not_root = λ z. not_root handle tests.1 (sym at.1 ∙ z);
        unmapped = window_free ss handle x there.1 tests.3;
        parent = look_up (λ s. s.handle) ss h.rise q.0 q.1.there x.parent q.1.parent;
        childless = in_all _ ss (λ s i. ap (λ (n : ℕ). is_child_of n s) at.1 ∙ none s i);
      },
    )

pub map_passes : MapPasses
map_passes ss handle h e =
    let tests = three_none (no_space ss handle) (is_root handle) (path_mapped ss handle) e in
    let there = space_there ss handle tests.0 in
    let x : Space = there.0 in
    let at = looked_up (λ s. s.handle) ss handle x there.1 in (
      x,
      at.1,
      record {
        there = look_up (λ s. s.handle) ss h.rise x at.0 x.handle refl;
        not_root = λ z. not_root handle tests.1 (sym at.1 ∙ z);
        clear = inr (in_all _ ss (path_free ss handle x there.1 tests.2));
      },
    )

pub window_passes : WindowPasses
window_passes ss handle h e =
    let tests = two_none (no_space ss handle) (not_mapped ss handle) e in
    let there = space_there ss handle tests.0 in
    let x : Space = there.0 in
    let at = looked_up (λ s. s.handle) ss handle x there.1 in
    let w = window_there ss handle x there.1 tests.1 in
    let mapped : is_mapped x ≡ true = ap (λ (o : Option Window). is_some o) w.1 in (
      x,
      at.1,
      record {
        there = look_up (λ s. s.handle) ss h.rise x at.0 x.handle refl;
        not_root = mapped_named ss h x at.0 mapped;
        clear = inl mapped;
      },
    )
