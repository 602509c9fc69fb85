-- Which pages are resident beside a plain machine.
use Rattle.std.specs.Prelude.{◌≡◌, ◌==◌, ℕ, Bool, true, not, List, find, is_some, Option, None, if◌then◌else◌}
use Rattle.std.specs.List.{list_any}
use Rattle.flat_machine.specs.declared.call.Call.{Call}
use Rattle.flat_machine.specs.Machine.{Machine}
use Rattle.flat_machine.specs.Refusal.{refusal}
use Rattle.flat_machine.specs.References.{is_reference, touched}
use Rattle.flight_core.specs.Carrying.{Carried, Tries, Steps}

-- the page is one of them
abbrev pub is_among : List ℕ → ℕ → Bool
is_among pages page = list_any (λ p. p == page) pages

-- the first one wanted that is none of them
abbrev pub first_away : List ℕ → List ℕ → Option ℕ
first_away pages wanted = find (λ p. not (is_among pages p)) wanted

-- the first page of an unrefused reference that is none of them
abbrev pub absent : Machine → List ℕ → Call → Option ℕ
absent m pages call = if is_some (refusal m call) then None else first_away pages (touched call)

-- each page now is one from before
abbrev pub AreFewer : List ℕ → List ℕ → Type 0
AreFewer before now = (page : ℕ) → is_among now page ≡ true → is_among before page ≡ true

-- a reference that is tried leaves the same pages
abbrev pub LeavesPages : Carried → List ℕ → List ℕ → Type 0
LeavesPages (Tries call) before now = is_reference call ≡ true → now ≡ before
LeavesPages (Steps call) before now = Unit {0}
