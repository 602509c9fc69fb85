-- What swapping and a change of frames consist of: a list of steps.
use Rattle.std.specs.Prelude.{◌≡◌, ℕ, ◌<◌, true, false, List, [], ◌∷◌, length, Some, slice_set}
use Rattle.labelled_disk.specs.declared.label.Label.{Label}
use Rattle.labelled_disk.specs.declared.disk.DiskWrite.TheVariants.{Page}
use Rattle.labelled_disk.specs.Calls.{RevealsSame, RevealsWrite}
use Rattle.labelled_disk.specs.Label.{names}
use Rattle.labelled_disk.specs.State.{DiskState, NamesThere, Holds}
use Rattle.frame_pool.specs.Frames.{Frame, Slots, Has, IsNowhere, IsEmpty}
use Rattle.swapper_kernel.specs.Homes.{Homes, wanted_at}

-- What a step may do. A clean frame is given up only by `fills`, for the page that was read before into its slot.
pub data Step : Type 0 where
  fills : ℕ → Frame → Step
  writes_out : ℕ → Frame → Frame → Step
  alters : ℕ → Frame → Frame → Step

-- A page of these homes is put into a slot, clean, as the disk holds it under a label that names it. A frame leaves the slot for it only where it is
-- clean and no slot is empty.
pub record Fills (come : Homes) (i : ℕ) (f : Frame) (a : DiskState) (s : Slots) (b : DiskState) (t : Slots) : Type 0 where
  pub may : come f.home
  pub same : RevealsSame a b
  pub clean : f.dirty ≡ false
  pub page : (label : Label) × Holds a f.home.sector (label, f.bytes) × (names label (wanted_at f.home) ≡ true)
  pub fresh : IsNowhere s f.home.id f.home.page
  pub below : i < length s
  pub leaves : (g : Frame) → Has s i g → (g.dirty ≡ false) × ((j : ℕ) → IsEmpty s j → ⊥)
  pub is : t ≡ slice_set s i (Some f)

-- a dirty frame is written to its home, and stays dirty or becomes clean
pub record WritesOut (i : ℕ) (f g : Frame) (a : DiskState) (s : Slots) (b : DiskState) (t : Slots) : Type 0 where
  pub has : Has s i f
  pub dirty : f.dirty ≡ true
  pub home : g.home ≡ f.home
  pub bytes : g.bytes ≡ f.bytes
  pub reveals : RevealsWrite (Page f.home.sector (wanted_at f.home) f.bytes) a b
  pub named : NamesThere a f.home.sector (wanted_at f.home) true
  pub is : t ≡ slice_set s i (Some g)

-- the bytes of a frame of these homes change, and it is dirty
pub record Alters (change : Homes) (i : ℕ) (f g : Frame) (a : DiskState) (s : Slots) (b : DiskState) (t : Slots) : Type 0 where
  pub may : change f.home
  pub has : Has s i f
  pub home : g.home ≡ f.home
  pub dirty : g.dirty ≡ true
  pub same : RevealsSame a b
  pub is : t ≡ slice_set s i (Some g)

abbrev pub IsStep : Homes → Homes → Step → DiskState → Slots → DiskState → Slots → Type 0
IsStep come change (fills i f) a s b t = Fills come i f a s b t
IsStep come change (writes_out i f g) a s b t = WritesOut i f g a s b t
IsStep come change (alters i f g) a s b t = Alters change i f g a s b t

-- the one state comes from the other by these steps; counts of the disk change at will
abbrev pub IsCourse : Homes → Homes → List Step → DiskState → Slots → DiskState → Slots → Type 0
IsCourse come change [] a s b t = RevealsSame a b × (t ≡ s)
IsCourse come change (k ∷ ks) a s b t = (m : DiskState) × (u : Slots) × IsStep come change k a s m u × IsCourse come change ks m u b t

-- by some steps; pages of the homes that may come are put into slots, and frames of the homes that may change do
pub record Steps (come change : Homes) (a : DiskState) (s : Slots) (b : DiskState) (t : Slots) : Type 0 where
  pub steps : List Step
  pub course : IsCourse come change steps a s b t
