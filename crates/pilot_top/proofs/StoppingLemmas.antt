-- A session that did not start.
use Rattle.std.proofs.Common.{◌≡◌, ◌≢◌, ℕ, List, refl}
use Rattle.labelled_disk.specs.declared.layout.RootFault.{RootFault}
use Rattle.labelled_disk.specs.declared.layout.RootFault.TheVariants as fault
use Rattle.pilot_engine.specs.declared.fault.StartFault.{StartFault}
use Rattle.pilot_engine.specs.declared.fault.StartFault.TheVariants as start_fault
use Rattle.pilot_top.specs.Last.{last_line}
use Rattle.pilot_top.specs.Stopping.{StopsAs}
use Rattle.pilot_top.specs.declared.last.Cause.TheVariants as cause
use Rattle.pilot_top.specs.declared.status.Status.TheVariants as status

-- the volume can't be opened
pub not_opened : {K : Type 0} (f : StartFault) (why : RootFault) (old new : K) (puts : List ℕ → Type 0) → f ≡ start_fault.Root why → why ≢ fault.Disk
    → puts (last_line (cause.Root why)) → StopsAs f status.NotOpened old new puts
not_opened f fault.Disk old new puts is other put = absurd (other refl)
not_opened f (fault.NotVolume what) old new puts is other put = rw is (refl, put)
not_opened f fault.Unclean old new puts is other put = rw is (refl, put)
not_opened f (fault.Version v) old new puts is other put = rw is (refl, put)
not_opened f (fault.BadCount n) old new puts is other put = rw is (refl, put)
