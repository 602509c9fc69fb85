-- Whether a volume is sound, as a look reveals.
use Rattle.std.specs.Prelude.{◌≡◌, ℕ, ◌+◌, ◌/◌, ◌%◌, ◌^◌, ◌<◌, ◌≤◌, Bool, true, false, List, [], length, slice_get, Option, Some, None, Result, Ok, Err}
use Rattle.labelled_disk.specs.declared.layout.RootFault.{RootFault}
use Rattle.labelled_disk.specs.Root.{short_at}
use Rattle.labelled_disk.specs.Sectors.{Sector}
use Rattle.volume_root.specs.declared.root.Root.{Root}
use Rattle.volume_root.specs.RootPage.{judged, root_in}
use Rattle.volume_root.specs.Sound.{Sound}
use Rattle.volume_view.specs.declared.condition.Condition.{Condition}
use Rattle.volume_view.specs.declared.condition.Condition.TheVariants as condition
use Rattle.volume_view.specs.declared.files.FileLine.{FileLine}
use Rattle.volume_view.specs.declared.view.View.{View}
use Rattle.volume_view.specs.Names.{SaysAgree}

-- the sector is the root of a volume of this disk, closed or not
abbrev pub HasRoot : List Sector → Sector → Type 0
HasRoot d s = judged false (length d) s ≡ Ok (root_in s.1)

-- the flag of the root says that the volume was closed
abbrev pub IsClosed : Sector → Type 0
IsClosed s = short_at s.1 10 ≡ 1

-- how a disk with this sector 0 stands
abbrev pub IsCondition : List Sector → Sector → Condition → Type 0
IsCondition d s condition.Sound = Sound d
IsCondition d s condition.NotClosed = HasRoot d s × ¬ IsClosed s
IsCondition d s condition.Damaged = HasRoot d s × IsClosed s × ¬ Sound d
IsCondition d s condition.Refused = ¬ HasRoot d s

-- whether the root reveals that the volume was closed, where there is one
abbrev pub closed_by : Result Root RootFault → Option Bool
closed_by (Ok root) = Some root.clean
closed_by (Err why) = None

-- the identifier was given out, if a volume of this root did it
abbrev pub IsGivenBy : Root → ℕ → Type 0
IsGivenBy root id = id / 2 ^ 32 ≡ root.serial → id % 2 ^ 32 < root.counter

abbrev pub AreGivenBy : Root → List FileLine → Type 0
AreGivenBy root lines = (k : ℕ) (line : FileLine) → slice_get lines k ≡ Some line → IsGivenBy root line.id

-- so were all of them, where there is a root
abbrev pub AreGiven : Result Root RootFault → List FileLine → Type 0
AreGiven (Ok root) lines = AreGivenBy root lines
AreGiven (Err why) lines = Unit {0}

-- by the look both maps agree with the labels, and a restoration would free nothing
pub record SaysRight {A : Type 0} (view : View A) : Type 0 where
  pub freed : view.found.survey.tally.freed ≡ 0
  pub bits : view.bits.items ≡ []
  pub names : SaysAgree view.names

-- by the look the files have room, a sector for each leader and each page
abbrev pub HasRoom : {A : Type 0} → View A → Type 0
HasRoom view = view.found.survey.tally.files + view.found.survey.tally.pages ≤ view.layout.capacity

-- and their identifiers were given out
abbrev pub HasGiven : {A : Type 0} → View A → Type 0
HasGiven view = AreGiven view.root view.found.files.items

-- both are so, and the maps have their labels
pub record SaysPlaced {A : Type 0} (view : View A) : Type 0 where
  pub labelled : view.maps_labelled ≡ true
  pub room : HasRoom view
  pub given : HasGiven view
