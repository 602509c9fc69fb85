-- How windows show a file that a call names.
use Rattle.std.specs.Prelude.{◌≡◌, ℕ, ◌+◌, ◌^◌, ◌≤◌, true, false, Option, option_map}
use Rattle.labelled_disk.specs.State.{DiskState}
use Rattle.flat_machine.specs.declared.call.Refusal.TheVariants as why
use Rattle.flat_machine.specs.Machine.{Machine, is_anonymous}
use Rattle.flat_machine.specs.Refusal.{file_mapped}
use Rattle.running_words.specs.Bound.{other_bound}
use Rattle.pilot_engine.specs.declared.sight.Sight.{Sight}
use Rattle.pilot_engine.specs.declared.sight.Sight.TheVariants as sight

-- no anonymous window shows the file, and the space of this handle is the first whose window does, or there is none
pub record IsSeenBy (m : Machine) (id : ℕ) (seen : Option ℕ) : Type 0 where
  pub named : is_anonymous m.spaces id ≡ false
  pub mapped : file_mapped m id (λ w. true) ≡ option_map why.FileMapped seen

abbrev pub IsSight : Machine → ℕ → Sight → Type 0
IsSight m id sight.Hidden = is_anonymous m.spaces id ≡ true
IsSight m id (sight.By seen) = IsSeenBy m id seen

-- a call may spend what is left of its bound on the space tables
abbrev pub CostsInside : DiskState → DiskState → Type 0
CostsInside old new = new.transfers + 2 ^ 29 ≤ old.transfers + other_bound old.sectors
