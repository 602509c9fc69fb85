-- How a call of a core ends: what stays, which pages came into frames, and how it fails.
use Rattle.std.specs.Prelude.{◌≡◌, ℕ, List, Result, IfErr}
use Rattle.labelled_disk.specs.declared.evidence.Halt.{Halt}
use Rattle.labelled_disk.specs.declared.evidence.Halt.TheVariants as halt
use Rattle.labelled_disk.specs.Sectors.{Sector}
use Rattle.file_map.specs.FileMap.{Triples}
use Rattle.frame_pool.specs.Frames.{Slots}
use Rattle.flat_machine.specs.declared.space.Space.{Space}
use Rattle.swapper_kernel.specs.Goes.{Pages}
use Rattle.session_words.specs.CellLaws.{IsTouched}
use Rattle.session_words.specs.FrameLaws.{BringsKnown}
use Rattle.filer_kernel.specs.View.{View, HasMemory}
use Rattle.fault_core.specs.Access.{BreaksFor}
use Rattle.fault_core.specs.CoreView.{CoreView, IsKnownAs, IsSeenAs}
use Rattle.fault_core.specs.Early.{IfUnfound, KeepsClients}
use Rattle.fault_core.specs.Kill.{BreaksWithin}
use Rattle.fault_core.specs.Lack.{MissesPage, range_units, shown_unit, shown_units}
use Rattle.fault_core.specs.Moves.{client_page}
use Rattle.fault_core.specs.NeverBlames.{NeverBlamesTables}
use Rattle.fault_core.specs.Reach.{BringsOwn, ReachHalts, Reaches, StayOrYield, TouchHalts, no_break}
use Rattle.fault_core.specs.Revealed.{BreaksTables, Known}
use Rattle.fault_core.specs.Room.{KeepsWhileEmpty, PagesStayOrYield}
use Rattle.fault_core.specs.Touch.{Touches}

-- ---- What stays.

-- the tables are seen as they were, and as many intervals are there
pub record StaysSeen (old new : CoreView) : Type 0 where
  pub sees : (ss : List Space) → IsSeenAs old ss → IsSeenAs new ss
  pub intervals : new.intervals ≡ old.intervals

-- and what was known is known, of the same memory
pub record StaysKnown (old new : CoreView) : Type 0 where
  pub sees : (ss : List Space) → IsSeenAs old ss → IsSeenAs new ss
  pub same : (m : List Sector) (named : Triples) (ss : List Space) → IsKnownAs old m named ss → IsKnownAs new m named ss
  pub intervals : new.intervals ≡ old.intervals

-- and what was known is known, of the memory that disk and frames make afterwards
pub record StaysRevealed (old new : CoreView) : Type 0 where
  pub sees : (ss : List Space) → IsSeenAs old ss → IsSeenAs new ss
  pub known : (m n : List Sector) (named : Triples) (ss : List Space) → IsKnownAs old m named ss → HasMemory new.frames n → IsKnownAs new n named ss
  pub intervals : new.intervals ≡ old.intervals

-- ---- Which pages came into frames.

-- Pages were found, and such pages came.
pub record FindsBy (comes : Slots → Slots → Type 0) (v w : View) : Type 0 where
  pub reaches : Reaches v w
  pub came : comes v.slots w.slots

-- And while a slot is empty no page leaves.
pub record FetchesBy (comes : Slots → Slots → Type 0) (v w : View) : Type 0 where
  pub reaches : Reaches v w
  pub came : comes v.slots w.slots
  pub room : KeepsWhileEmpty v.slots w.slots

-- Pages of the maps and of the space tables alone came; while a slot is empty no page leaves; and each frame stays where it is, with its
-- bytes, but where such a page has its slot.
pub record FindsAlone (v w : View) : Type 0 where
  pub reaches : Reaches v w
  pub came : BringsOwn v.slots w.slots
  pub room : KeepsWhileEmpty v.slots w.slots
  pub stay : StayOrYield v.slots w.slots

-- Pages were brought in: where the core is known, known pages alone.
pub record FetchesKnown (old new : CoreView) : Type 0 where
  pub reaches : Reaches old.frames new.frames
  pub came : (m : List Sector) (named : Triples) (ss : List Space) → IsKnownAs old m named ss → BringsKnown ss old.frames.slots new.frames.slots

-- And while a slot is empty no page leaves.
pub record FetchesInRoom (old new : CoreView) : Type 0 where
  pub reaches : Reaches old.frames new.frames
  pub came : (m : List Sector) (named : Triples) (ss : List Space) → IsKnownAs old m named ss → BringsKnown ss old.frames.slots new.frames.slots
  pub room : KeepsWhileEmpty old.frames.slots new.frames.slots

-- Bytes of pages of clients may have changed in frames, and pages of the maps and of the space tables alone came: while a slot is empty no
-- page leaves, and each stays in its slot, but where such a page has it.
pub record ChangesAlone (v w : View) : Type 0 where
  pub touches : Touches client_page v w
  pub came : BringsOwn v.slots w.slots
  pub room : KeepsWhileEmpty v.slots w.slots
  pub stay : PagesStayOrYield v.slots w.slots

-- Bytes of pages of clients may have changed in frames, of those of the reference alone where the tables are seen; where the core is known,
-- known pages alone came.
pub record ChangesKnown (address count : ℕ) (old new : CoreView) : Type 0 where
  pub touches : Touches client_page old.frames new.frames
  pub shown : (ss : List Space) → IsSeenAs old ss → Touches (IsTouched ss address count) old.frames new.frames
  pub came : (m : List Sector) (named : Triples) (ss : List Space) → IsKnownAs old m named ss → BringsKnown ss old.frames.slots new.frames.slots

-- The bytes of these pages may have changed in frames, and such pages came.
pub record ChangesBy (pages : Pages) (comes : Slots → Slots → Type 0) (v w : View) : Type 0 where
  pub touches : Touches pages v w
  pub came : comes v.slots w.slots

-- ---- How it fails.

-- The halt has this cause. Where the tables are seen, it blames none of their pages; and where the core is known, it is a fault of the disk.
pub record FailsBy {T : Type 0} (why : Halt → Type 0) (old : CoreView) (result : Result T Halt) : Type 0 where
  pub cause : IfErr result why
  pub right : (ss : List Space) → IsSeenAs old ss → IfErr result NeverBlamesTables
  pub sound : (m : List Sector) (named : Triples) (ss : List Space) → IsKnownAs old m named ss → IfErr result (λ e. e ≡ halt.Disk)

-- The same of a call that brings pages of clients in: where the tables are seen, only these may be the ones without a sector.
pub record FailsToBring {T : Type 0} (why : Halt → Type 0) (pages : List Space → Pages) (old : CoreView) (result : Result T Halt) : Type 0 where
  pub cause : IfErr result why
  pub missing : (ss : List Space) → IsSeenAs old ss → IfErr result (MissesPage (pages ss))
  pub right : (ss : List Space) → IsSeenAs old ss → IfErr result NeverBlamesTables
  pub sound : (m : List Sector) (named : Triples) (ss : List Space) → IsKnownAs old m named ss → IfErr result (λ e. e ≡ halt.Disk)

-- By the look-up of a page, of the pages of a reference, or of those of a range.
abbrev pub FailsAtPage : {T : Type 0} → ℕ → CoreView → CoreView → Result T Halt → Type 0
FailsAtPage page old new result = FailsBy (ReachHalts (BreaksTables old.frames old.intervals page) old.frames new.frames) old result

abbrev pub FailsAtReference : {T : Type 0} → ℕ → ℕ → CoreView → CoreView → Result T Halt → Type 0
FailsAtReference address count old new result = FailsBy (ReachHalts (BreaksFor old.frames old.intervals address count) old.frames new.frames) old result

abbrev pub FailsInRange : {T : Type 0} → ℕ → ℕ → CoreView → CoreView → Result T Halt → Type 0
FailsInRange from to old new result = FailsBy (ReachHalts (BreaksWithin old.frames old.intervals from to) old.frames new.frames) old result

-- The same, where their swap units are to be brought in.
abbrev pub FailsToBringPage : {T : Type 0} → ℕ → CoreView → CoreView → Result T Halt → Type 0
FailsToBringPage page old new result = FailsToBring (TouchHalts (BreaksTables old.frames old.intervals page) old.frames new.frames) (λ ss. shown_unit ss page) old result

abbrev pub FailsToBringReference : {T : Type 0} → ℕ → ℕ → CoreView → CoreView → Result T Halt → Type 0
FailsToBringReference address count old new result =
    FailsToBring (TouchHalts (BreaksFor old.frames old.intervals address count) old.frames new.frames) (λ ss. shown_units ss address count) old result

abbrev pub FailsToBringRange : {T : Type 0} → ℕ → ℕ → CoreView → CoreView → Result T Halt → Type 0
FailsToBringRange from to old new result = FailsToBring (TouchHalts (BreaksWithin old.frames old.intervals from to) old.frames new.frames) (λ ss. range_units ss from to) old result

-- The halt of a call of a filer that looks for pages of clients: only these may be the ones without a sector; and where what is known gives
-- them one, it is a fault of the disk.
pub record FailsToFind {T : Type 0} (pages : Pages) (given : Triples → List Sector → Type 0) (v w : View) (result : Result T Halt) : Type 0 where
  pub cause : IfErr result (TouchHalts no_break v w)
  pub misses : IfErr result (MissesPage pages)
  pub sound : (m : List Sector) (named : Triples) (b : List ℕ) → Known v m named b → given named m → IfErr result (λ e. e ≡ halt.Disk)

-- And where one of them has none, no page of a client has come.
pub record FailsEarly {T : Type 0} (pages : Pages) (given : Triples → List Sector → Type 0) (v w : View) (result : Result T Halt) : Type 0 where
  pub cause : IfErr result (TouchHalts no_break v w)
  pub misses : IfErr result (MissesPage pages)
  pub sound : (m : List Sector) (named : Triples) (b : List ℕ) → Known v m named b → given named m → IfErr result (λ e. e ≡ halt.Disk)
  pub early : IfErr result (IfUnfound (KeepsClients v.slots w.slots))
