-- Why a call that looks for the leader of a file stops the session.
use Rattle.std.specs.Prelude.{◌≡◌, ◌⊎◌, ℕ, List}
use Rattle.labelled_disk.specs.declared.layout.Layout.{Layout}
use Rattle.labelled_disk.specs.declared.evidence.Evidence.{Evidence}
use Rattle.labelled_disk.specs.declared.evidence.Evidence.TheVariants.{Mismatch, Malformed, Missing}
use Rattle.labelled_disk.specs.Structure.{IsOfFileMap}
use Rattle.labelled_disk.specs.declared.evidence.Halt.{Halt}
use Rattle.labelled_disk.specs.Label.{leader_page}
use Rattle.labelled_disk.specs.Sectors.{Sector}
use Rattle.labelled_disk.specs.State.{DiskState}
use Rattle.frame_pool.specs.declared.home.Home.{Home}
use Rattle.frame_pool.specs.Frames.{Slots}
use Rattle.file_map.specs.declared.run.Run.{Run}
use Rattle.file_map.specs.FileMap.{Triples, IsNowhere}
use Rattle.file_map.specs.Cause.{IsBroken}
use Rattle.swapper_kernel.specs.declared.manager.Manager.TheVariants.{FileMap}
use Rattle.swapper_kernel.specs.Maps.{IsMapHome}
use Rattle.swapper_kernel.specs.Homes.{home_at}
use Rattle.swapper_kernel.specs.Halts.{IsOther, HasCause, held_or}
use Rattle.swapper_kernel.specs.Stands.{Stands}
use Rattle.filer_kernel.specs.Causes.{MapShows, IsRunHome}
use Rattle.filer_kernel.specs.Triples.{MapIs}

-- where the file map is in form, it names no sector for the page
abbrev pub NamesNone : Layout → DiskState → Slots → ℕ → ℕ → Type 0
NamesNone layout disk slots id page = (m : List Sector) (named : Triples) → Stands disk slots m → MapIs layout named m → IsNowhere named id page

-- the home of the leader of this file, which a record of the map gives it, or a run that was kept
abbrev pub IsLeaderHome : Layout → List Run → ℕ → DiskState → Slots → Home → Type 0
IsLeaderHome layout kept id disk slots home = (home ≡ home_at home.sector (record { id = id; page = leader_page })) × IsRunHome layout disk slots kept home

-- The evidence is a label, another than that of a home of the map or of a frame, or than that of the leader in the home that
-- it is given; or a page of the map that breaks its form; or the leader, where no record of it is found.
abbrev pub LeaderEvidence : Layout → List Run → ℕ → DiskState → Slots → Evidence → Type 0
LeaderEvidence layout kept id disk slots (Mismatch sector wanted found) = IsOther (λ home. held_or slots (IsMapHome FileMap layout) home ⊎ IsLeaderHome layout kept id disk slots home) disk sector wanted found
LeaderEvidence layout kept id disk slots (Malformed structure page) = IsOfFileMap structure × IsBroken layout.sectors (MapShows layout disk slots) page
LeaderEvidence layout kept id disk slots (Missing missing page) = (missing ≡ id) × (page ≡ leader_page) × NamesNone layout disk slots id leader_page

-- the halt of a call that looks for the leader of this file, and reads its label
abbrev pub LeaderHalts : Layout → List Run → ℕ → DiskState → Slots → DiskState → Halt → Type 0
LeaderHalts layout kept id old before new halt = HasCause (LeaderEvidence layout kept id old before) old new halt
