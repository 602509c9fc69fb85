-- Tests of a call, from what the look-ups find.
use Rattle.std.proofs.Common.{◌≡◌, ℕ, List, Some, refl, ◌&&◌}
use Rattle.std.specs.Prelude.{option_map, option_and_then}
use Rattle.flat_machine.specs.declared.call.Refusal.TheVariants as why
use Rattle.flat_machine.specs.declared.space.Space.{Space}
use Rattle.flat_machine.specs.Space.{space_at, is_mapped, overlap}
use Rattle.flat_machine.specs.Refusal.{lowest_handle}

pub path_found : (ss : List Space) (h : ℕ) (s : Space) (low : ℕ) → Some s ≡ space_at ss h
    → Some low ≡ lowest_handle (λ t. is_mapped t && overlap s t) ss
    → Some (why.Mapped low) ≡ option_and_then (λ r. option_map why.Mapped (lowest_handle (λ t. is_mapped t && overlap r t) ss)) (space_at ss h)
path_found ss h s low p q = rw (← p) (rw (← q) refl)
