-- Calls that change cells alone, or what is unforced, leave the spaces, the numbers of the volume, and what its files use.
use Rattle.std.proofs.Common.{◌≡◌, ℕ, ◌+◌, Bool, true, false, List, [], ◌∷◌, Option, Some, None, refl, ◌∙◌}
use Rattle.std.specs.Prelude.{if◌then◌else◌, is_none, map, ◌==◌}
use Rattle.std.specs.Option.{option_map_or}
use Rattle.labelled_disk.specs.File.{File, size, total_room}
use Rattle.flat_machine.specs.declared.call.Call.TheVariants as call
use Rattle.flat_machine.specs.declared.space.Space.{Space}
use Rattle.flat_machine.specs.At.{Spot, spot_at}
use Rattle.flat_machine.specs.Machine.{Machine, used}
use Rattle.flat_machine.specs.Next.{next, change, change_file, killed_file, store_byte, store_bytes, with_byte, without_shown_within}
use Rattle.flat_machine.specs.Refusal.{refusal}
use Rattle.flat_machine.specs.Space.{space_at}
use Rattle.flat_machine.proofs.Cells.{byte_size, killed_size}
use Rattle.flat_machine.proofs.FileLemmas.{same_room}

pub record KeepsBooks (m n : Machine) : Type 0 where
  pub spaces : n.spaces ≡ m.spaces
  pub serial : n.serial ≡ m.serial
  pub counter : n.counter ≡ m.counter
  pub room : used n ≡ used m

itself : (m : Machine) → KeepsBooks m m
itself m = record { spaces = refl; serial = refl; counter = refl; room = refl }

-- whether it is refused or not
either : (m n : Machine) (b : Bool) → KeepsBooks m n → KeepsBooks m (if b then n else m)
either m n true keeps = keeps
either m n false keeps = itself m

-- whether there is such a space or not
where_there : (m : Machine) (f : Space → Machine) (o : Option Space) → ((s : Space) → KeepsBooks m (f s)) → KeepsBooks m (option_map_or f o m)
where_there m f (Some s) keeps = keeps s
where_there m f None keeps = itself m

pub kill_keeps : (m : Machine) (space : ℕ) → KeepsBooks m (next m (call.Kill space))
kill_keeps m space =
    either m (change m (call.Kill space)) (is_none (refusal m (call.Kill space)))
    (where_there m (λ s. record m { files = map (killed_file m.spaces s) m.files }) (space_at m.spaces space)
    (λ s. record { spaces = refl; serial = refl; counter = refl; room = same_room (killed_file m.spaces s) (killed_size m.spaces s) m.files }))

pub force_keeps : (m : Machine) (space : ℕ) → KeepsBooks m (next m (call.ForceOut space))
force_keeps m space =
    either m (change m (call.ForceOut space)) (is_none (refusal m (call.ForceOut space)))
    (where_there m (λ s. record m { unforced = without_shown_within m.spaces s m.unforced }) (space_at m.spaces space) (λ s. record { spaces = refl; serial = refl; counter = refl; room = refl }))

byte_room : (spot : Spot) (b : ℕ) (files : List File) → total_room (change_file spot.file (with_byte spot b) files) ≡ total_room files
byte_room spot b files = same_room (λ f. if f.id == spot.file then with_byte spot b f else f) (λ f. sizes f (f.id == spot.file)) files
  where
    sizes : (f : File) (c : Bool) → size (if c then with_byte spot b f else f) ≡ size f
    sizes f true = byte_size spot b f
    sizes f false = refl

stored_byte_room : (spaces : List Space) (address b : ℕ) (files : List File) → total_room (store_byte spaces address b files) ≡ total_room files
stored_byte_room spaces address b files = by (spot_at spaces address)
  where
    by : (o : Option Spot) → total_room (option_map_or (λ (spot : Spot). change_file spot.file (with_byte spot b) files) o files) ≡ total_room files
    by (Some spot) = byte_room spot b files
    by None = refl

stored_room : (spaces : List Space) (address : ℕ) (bytes : List ℕ) (files : List File) → total_room (store_bytes spaces address bytes files) ≡ total_room files
stored_room spaces address [] files = refl
stored_room spaces address (b ∷ bs) files = stored_room spaces (address + 1) bs (store_byte spaces address b files) ∙ stored_byte_room spaces address b files

pub store_keeps : (m : Machine) (address : ℕ) (bytes : List ℕ) → KeepsBooks m (next m (call.Store address bytes))
store_keeps m address bytes =
    either m (change m (call.Store address bytes)) (is_none (refusal m (call.Store address bytes)))
    (record { spaces = refl; serial = refl; counter = refl; room = stored_room m.spaces address bytes m.files })
