-- What a disk over an image file is, and how its counts go.
use Rattle.std.specs.Prelude.{◌≡◌, ◌+◌, ◌-◌, ◌^◌, min, [], None, Some, Result}
use Rattle.std.proofs.lemmas.Option.{none-some}
use Rattle.labelled_disk.specs.Memory.{CountsFault}
use Rattle.labelled_disk.specs.State.{DiskState}
use Rattle.labelled_disk.specs.declared.disk.DiskError.{DiskError}
use Rattle.image_disk.specs.declared.disk.ImageDisk.{ImageDisk}

-- the disk that an image is: it reveals neither what the file holds nor what was written and settled
abbrev pub image_state : {F : Type 0} → ImageDisk F → DiskState
image_state d = record {
  sectors = d.sectors;
  contents = None;
  writes = None;
  syncs = None;
  transfers = d.transfers;
  faults = d.faults;
  synced = d.synced;
  lent = [];
}

-- a call that moves a sector is one transfer more, up to the last value of u64, and a failure is one fault more
pub record Counts {T : Type 0} (result : Result T DiskError) (old new : DiskState) : Type 0 where
  pub transfers : new.transfers ≡ min (old.transfers + 1) (2 ^ 64 - 1)
  pub faults : CountsFault result old.faults new.faults

-- what is not revealed is no list of sectors
pub not_revealed : {X P : Type 0} (x : X) → None ≡ Some x → P
not_revealed x revealed = absurd (none-some x revealed)
