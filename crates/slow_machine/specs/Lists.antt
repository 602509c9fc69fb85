-- What the plain machine keeps of its lists.
use Rattle.std.specs.Prelude.{ℕ, ◌≤◌, ◌≡◌, false, map, length, Option, Some, List, if◌then◌else◌, nat_lt}
use Rattle.std.specs.List.{AllByRecursion}
use Rattle.std.specs.Option.{option_map_or}
use Rattle.flat_machine.specs.declared.space.Space.{Space}
use Rattle.flat_machine.specs.Space.{end, root_pages, is_child_of}
use Rattle.flat_machine.specs.Refusal.{fits}
use Rattle.flat_machine.specs.Machine.{IsAscending}
use Rattle.flat_machine.specs.Next.{is_unused}

-- at most 512 spaces in ascending handles, the root among them, and none reaches into the system region
pub record AreSpaces (spaces : List Space) : Type 0 where
  pub rise : IsAscending (map (λ s. s.handle) spaces)
  pub root_there : is_unused spaces 0 ≡ false
  pub few : length spaces ≤ 512
  pub ends : AllByRecursion (λ s. end s ≤ root_pages) spaces

-- the lowest gap so far, or the one after this child of the parent where so many pages fit there and it is lower
abbrev pub gap_with : List Space → Space → ℕ → Option ℕ → Space → Option ℕ
gap_with spaces parent pages lowest s =
    if is_child_of parent.handle s then
    (if fits spaces parent pages (end s) then Some (option_map_or (λ k. if nat_lt (end s) k then end s else k) lowest (end s)) else lowest)
    else lowest
