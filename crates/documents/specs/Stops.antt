-- What a stop of the volume leaves, while documents are put, removed and replaced.
use Rattle.std.specs.Prelude.{◌≡◌, ◌≢◌, ◌⊎◌, ◌<◌, ◌^◌, ℕ, true, List, filter, length, Option, None, Result, IfSome, MatchResult}
use Rattle.labelled_disk.specs.declared.disk.Disk.{Ghosts}
use Rattle.labelled_disk.specs.Sectors.{Sector}
use Rattle.flat_machine.specs.File.{File, file_at}
use Rattle.flat_machine.specs.Machine.{Machine}
use Rattle.flat_machine.specs.IsMachine.{IsMachine}
use Rattle.flat_machine.specs.Next.{new_id, without_file}
use Rattle.flat_machine.specs.Settled.{is_unforced}
use Rattle.session_words.specs.StandsFor.{RevealsSettled}
use Rattle.embedded.specs.declared.engine.Engine.{Engine}
use Rattle.embedded.specs.Engine.{IsClosed, StandsFor}
use Rattle.embedded.specs.Stops.{Leaves}
use Rattle.documents.specs.Contents.{IsDocument}
use Rattle.documents.specs.Pieces.{adding}
use Rattle.documents.specs.Stands.{HasDocument}

-- What the sectors of a stopped volume have.

-- A file is the document that is put: it has this name and the bytes that the source had, where that reveals them, and with it
-- the volume is one.
pub record IsNew (m : Machine) (name : List ℕ) (left : Option (List ℕ)) (f : File) : Type 0 where
  pub bytes : List ℕ
  pub all : IfSome left (λ xs. bytes ≡ xs)
  pub fits : length bytes < 2 ^ 64
  pub named : f.id ≡ new_id m
  pub document : IsDocument name bytes f
  pub machine : IsMachine (adding f m)

-- the files of before, and the whole document with them
abbrev pub HasWhole : Machine → List ℕ → Option (List ℕ) → List Sector → Type 0
HasWhole m name left d = (f : File) × IsNew m name left f × RevealsSettled d (adding f m)

-- the files of before, or these and the whole document
abbrev pub WholeOrAbsent : Machine → List ℕ → Option (List ℕ) → List Sector → Type 0
WholeOrAbsent m name left d = RevealsSettled d m ⊎ HasWhole m name left d

-- the machine without a file
abbrev pub without : ℕ → Machine → Machine
without id m = record m { files = without_file id m.files }

-- the files of before, or those without this one, which was a document
abbrev pub ThereOrGone : Machine → ℕ → List Sector → Type 0
ThereOrGone m id d = RevealsSettled d m ⊎ (HasDocument m id × RevealsSettled d (without id m))

-- the whole document with the files of before, but for this one, which was a document
abbrev pub HasInstead : Machine → ℕ → List ℕ → Option (List ℕ) → List Sector → Type 0
HasInstead m gone name left d =
    HasDocument m gone × ((f : File) × IsNew m name left f × RevealsSettled d (without gone (adding f m)))

-- the files of before, with the old document; these and the new one; or the new one in the place of the old one
abbrev pub OldOrNew : Machine → ℕ → List ℕ → Option (List ℕ) → List Sector → Type 0
OldOrNew m gone name left d = WholeOrAbsent m name left d ⊎ HasInstead m gone name left d

-- Calls of which a stop sees nothing.

-- A stop leaves of n what it leaves of m, which has no file of this identifier: n has the permanent files of m, and of any
-- other file no page is unforced that is not unforced in m.
pub record LooksLike (m : Machine) (id : ℕ) (n : Machine) : Type 0 where
  pub whole : IsMachine m
  pub none : file_at m.files id ≡ None
  pub files : filter (λ f. f.permanent) n.files ≡ filter (λ f. f.permanent) m.files
  pub unforced : (g page : ℕ) → g ≢ id → is_unforced n.unforced g page ≡ true → is_unforced m.unforced g page ≡ true

-- the files of before, or these and one more, with which the volume is one
abbrev pub WithOrWithout : Machine → File → List Sector → Type 0
WithOrWithout m f d = RevealsSettled d m ⊎ (IsMachine (adding f m) × RevealsSettled d (adding f m))

module _ {D A : Type 0} {G : Ghosts D} where
  -- it has no session, or one that stands for a machine that looks like m
  abbrev pub IsLike : Machine → ℕ → Engine D A G → Type 0
  IsLike m id e = IsClosed e ⊎ ((n : Machine) × LooksLike m id n × StandsFor e n)

  -- a stop leaves the settled files of m, and so it goes on
  pub record IsUnseen (m : Machine) (id : ℕ) (old new : Engine D A G) : Type 0 where
    pub leaves : Leaves (λ d. RevealsSettled d m) old new
    pub goes_on : IsLike m id new

  -- so it is of each machine that the engine looked like
  abbrev pub StaysUnseen : ℕ → Engine D A G → Engine D A G → Type 0
  StaysUnseen id old new = (m : Machine) → IsLike m id old → IsUnseen m id old new

  -- A file is marked, and a stop leaves such sectors; where it is not, a stop leaves the files of m, or the session has ended.
  abbrev pub Marks : {T E : Type 0} → (List Sector → Type 0) → Machine → ℕ → Engine D A G → Result T E → Engine D A G → Type 0
  Marks P m id old result new =
      MatchResult result (λ done. Leaves P old new) (λ e. IsUnseen m id old new ⊎ (IsClosed new × Leaves P old new))
