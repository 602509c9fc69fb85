-- What is revealed of a file that a call may name.
use Rattle.std.specs.Prelude.{◌≡◌, ℕ, Bool, true, false, Option, Some, None}
use Rattle.labelled_disk.specs.File.{File, size, file_at}
use Rattle.flat_machine.specs.Machine.{Machine, nameable}
use Rattle.file_manager.specs.declared.attributes.Attributes.{Attributes}

-- the attributes are those of the file, or there is none
abbrev pub IsNameable : Option File → Option Attributes → Type 0
IsNameable (Some f) (Some a) = (a.pages ≡ size f) × (a.kind ≡ f.kind) × (a.permanent ≡ f.permanent) × (a.immutable ≡ f.immutable)
IsNameable None None = Unit {0}
IsNameable other revealed = ⊥

-- whether calls on files see the file, if it is there
abbrev pub IsSeen : Machine → ℕ → Bool → Type 0
IsSeen m id true = nameable m id ≡ file_at m.files id
IsSeen m id false = nameable m id ≡ None
