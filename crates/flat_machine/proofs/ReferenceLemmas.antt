-- A window shows each page that a call touches.
use Rattle.std.proofs.Common.{◌≡◌, ℕ, true, length, Option, None, sym, subst}
use Rattle.std.specs.Prelude.{is_none, find, IsSome}
use Rattle.std.specs.List.{AllByRecursion}
use Rattle.flat_machine.specs.declared.call.Call.TheVariants.{Load, Store}
use Rattle.flat_machine.specs.declared.call.Refusal.TheVariants as why
use Rattle.flat_machine.specs.Space.{FilePage, mapped_at}
use Rattle.flat_machine.specs.Machine.{Machine}
use Rattle.flat_machine.specs.At.{shown_at, pages_of}
use Rattle.flat_machine.specs.Refusal.{no_map, read_only}
use Rattle.flat_machine.specs.References.{TouchedAreShown}
use Rattle.flat_machine.proofs.Lists.{in_all, not_found}
use Rattle.flat_machine.proofs.TestLemmas.{one_none, two_none, map_none}
use Rattle.flat_machine.proofs.StoreLemmas.{mapped_shows}

each_shown : (m : Machine) (address count : ℕ) → no_map m address count ≡ None → AllByRecursion (λ page. IsSome (shown_at m.spaces page)) (pages_of address count)
each_shown m address count e = in_all (λ page. IsSome (shown_at m.spaces page)) (pages_of address count)
    (λ page i.
    let shown = mapped_shows m.spaces page (not_found (λ p. is_none (mapped_at m.spaces p)) (pages_of address count) (map_none why.NoMap (find (λ p. is_none (mapped_at m.spaces p)) (pages_of address count)) e) page i) in
    subst (λ (o : Option FilePage). IsSome o) (sym shown.1) (λ i. true))

pub touched_are_shown : TouchedAreShown
touched_are_shown m (Load address count) e = each_shown m address count (one_none (no_map m address count) e)
touched_are_shown m (Store address bytes) e = each_shown m address (length bytes) (two_none (no_map m address (length bytes)) (read_only m address (length bytes)) e).0
touched_are_shown m call e = tt
