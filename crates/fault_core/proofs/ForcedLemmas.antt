-- A range whose pages are forced, by the windows that show pages there.
use Rattle.std.proofs.Common.{◌≡◌, ℕ, ◌+◌, ◌-◌, ◌<◌, ◌≤◌, true, false, List, Some, Option, refl, sym, ◌∙◌, ap, arith}
use Rattle.std.specs.Prelude.{None, is_some, nat_le, nat_lt, ◌&&◌, ◌==◌, option_map, option_and_then}
use Rattle.std.specs.Option.{option_map_or}
use Rattle.std.proofs.lemmas.Bool.{true≢false}
use Rattle.std.proofs.lemmas.Bool.Decides.{nat_tests}
use Rattle.flat_machine.specs.declared.space.Space.{Space}
use Rattle.flat_machine.specs.declared.space.Window.{Window}
use Rattle.flat_machine.specs.declared.space.FilePage.{FilePage}
use Rattle.flat_machine.specs.At.{page_through, shown_at}
use Rattle.flat_machine.specs.Next.{shows_within}
use Rattle.flat_machine.specs.Space.{holds, mapped_at, shows}
use Rattle.flat_machine.proofs.Lists.{In, any_in}
use Rattle.projection_laws.specs.Spaces.{AreSpaces}
use Rattle.projection_laws.proofs.Inside.{found_showing}
use Rattle.fault_core.specs.Range.{ForcedRanges}

-- a page of the range where the space's window shows the page of the file
record IsThereIn (ss : List Space) (range : Space) (u : FilePage) : Type 0 where
  page : ℕ
  above : range.first ≤ page
  below : page < range.first + range.pages
  shown : shown_at ss page ≡ Some u

through : (ss : List Space) → AreSpaces ss → (range s : Space) (u : FilePage) (w : Window) → In s ss → s.window ≡ Some w → (shows u.file u.page s && holds range (s.first + (u.page - w.first))) ≡ true → IsThereIn ss range u
through ss are range s u w there has both =
    let p : ℕ = s.first + (u.page - w.first) in
    let mode : shows u.file u.page s ≡ (w.file == u.file && nat_le w.first u.page && nat_lt u.page (w.first + s.pages)) =
    ap (λ (o : Option Window). option_map_or (λ w. w.file == u.file && nat_le w.first u.page && nat_lt u.page (w.first + s.pages)) o false) has in
    let first : shows u.file u.page s ≡ true = grind (arith, both) in
    let tests : (w.file == u.file && nat_le w.first u.page && nat_lt u.page (w.first + s.pages)) ≡ true = sym mode ∙ first in
    let in_range : holds range p ≡ true = grind (arith, both) in
    let same : w.file ≡ u.file = grind (arith, nat_tests, tests) in
    let from : w.first ≤ u.page = grind (arith, nat_tests, tests) in
    let last : u.page < w.first + s.pages = grind (arith, nat_tests, tests) in
    let held : holds s p ≡ true = grind (arith, nat_tests, from, last) in
    let mapped : is_some s.window ≡ true = ap is_some has in
    let at : mapped_at ss p ≡ Some s = found_showing ss are p s (record { there = there; mapped = mapped; holds_it = held }) in
    let place : w.first + (p - s.first) ≡ u.page = omega (arith, from) in
    record {
      page = p;
      above = grind (arith, nat_tests, in_range);
      below = grind (arith, nat_tests, in_range);
      shown = ap (λ (o : Option Space). option_and_then (λ s. option_map (λ w. page_through s w p) s.window) o) at
          ∙ ap (λ (o : Option Window). option_map (λ w. page_through s w p) o) has ∙ (λ i. Some (record { file = same i; page = place i }));
    }

within : (ss : List Space) → AreSpaces ss → (range s : Space) (u : FilePage) → In s ss → shows_within range u s ≡ true → IsThereIn ss range u
within ss are range s u there is = by s.window refl
  where
    by : (o : Option Window) → s.window ≡ o → IsThereIn ss range u
    by None e = absurd (true≢false (sym is ∙ ap (λ (o : Option Window). option_map_or (λ w. shows u.file u.page s && holds range (s.first + (u.page - w.first))) o false) e))
    by (Some w) e = through ss are range s u w there e (sym (ap (λ (o : Option Window). option_map_or (λ w. shows u.file u.page s && holds range (s.first + (u.page - w.first))) o false) e) ∙ is)

pub forced_ranges : ForcedRanges
forced_ranges ss range slots are rest id page shown dirty =
    let u : FilePage = record { file = id; page = page } in
    let found = any_in (shows_within range u) ss shown in
    let at = within ss are range found.0 u found.1 found.2 in
    rest at.page u at.above at.below at.shown dirty
