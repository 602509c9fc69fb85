-- A space of its own that shows a run of pages of a file.
use Rattle.std.specs.Prelude.{◌≡◌, ◌*◌, ℕ, Bool, None}
use Rattle.flat_machine.specs.declared.call.Call.TheVariants.{MakeSpace, RemoveSpace, Map, Unmap}
use Rattle.flat_machine.specs.declared.space.Space.{Space}
use Rattle.flat_machine.specs.Machine.{Machine}
use Rattle.flat_machine.specs.Refusal.{refusal}
use Rattle.flat_machine.specs.Next.{next, new_space}

-- the space that is made for so many pages
abbrev pub place : Machine → ℕ → Space
place m pages = new_space m.spaces 0 pages None

-- the machine while the space shows a run
abbrev pub showing : Machine → ℕ → ℕ → ℕ → Bool → Machine
showing m id page pages writable = next (next m (MakeSpace 0 pages None)) (Map (place m pages).handle id page writable)

-- the calls that show a run are not refused, and the space has this handle and this address
pub record IsShown (m : Machine) (id page pages : ℕ) (writable : Bool) (space address : ℕ) : Type 0 where
  pub makes : refusal m (MakeSpace 0 pages None) ≡ None
  pub maps : refusal (next m (MakeSpace 0 pages None)) (Map (place m pages).handle id page writable) ≡ None
  pub handle : space ≡ (place m pages).handle
  pub begins : address ≡ 512 * (place m pages).first

-- those that take a space with its window away are not refused, and lead to this machine
pub record IsHidden (m : Machine) (space : ℕ) (last : Machine) : Type 0 where
  pub unmaps : refusal m (Unmap space) ≡ None
  pub removes : refusal (next m (Unmap space)) (RemoveSpace space) ≡ None
  pub after : next (next m (Unmap space)) (RemoveSpace space) ≡ last
