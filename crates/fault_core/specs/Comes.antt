-- What the calls of a core come to.
use Rattle.std.specs.Prelude.{◌≡◌, ◌≢◌, ◌↔◌, ℕ, ◌+◌, ◌/◌, ◌%◌, ◌<◌, ◌≤◌, Bool, true, List, [], length, Option, Some, None, Result, Ok, IfOk, IfErr, IfSome, OnErr}
use Rattle.labelled_disk.specs.declared.evidence.Halt.{Halt}
use Rattle.labelled_disk.specs.Sectors.{Sector}
use Rattle.file_map.specs.FileMap.{Triples}
use Rattle.frame_pool.specs.Frames.{IsEmpty}
use Rattle.flat_machine.specs.declared.space.Space.{Space}
use Rattle.flat_machine.specs.At.{shown_at}
use Rattle.session_words.specs.CellLaws.{IsTouchedOrOwn}
use Rattle.swap_units.specs.declared.interval.Interval.{Interval}
use Rattle.swap_units.specs.Mode.{is_mapped}
use Rattle.swap_units.specs.Unit.{Holds}
use Rattle.flat_machine.specs.Space.{root_pages}
use Rattle.space_tables.specs.SpaceTables.{IsIntervalAt}
use Rattle.filer_kernel.specs.View.{GoesTo}
use Rattle.fault_core.specs.declared.activate.Progress.{Progress}
use Rattle.fault_core.specs.declared.attempt.Attempt.{Attempt}
use Rattle.fault_core.specs.declared.attempt.Prospect.{Prospect}
use Rattle.fault_core.specs.declared.plan.Plan.{Plan}
use Rattle.fault_core.specs.declared.range.WriteBack.{WriteBack}
use Rattle.fault_core.specs.declared.reference.Access.{Access}
use Rattle.fault_core.specs.declared.reference.Access.TheVariants.{Done}
use Rattle.fault_core.specs.declared.reference.Reference.{Reference}
use Rattle.fault_core.specs.Access.{IfShown, Shows, access_of, last_page, outcome}
use Rattle.fault_core.specs.Activate.{AreBare, AreUnits, AreWhole, IsFurther, IsShownAt, IsTooLong, IsTurn, IsUnitAt, start_at}
use Rattle.fault_core.specs.Attempt.{ArePresent, HasClient, IfAbsent, IfAccess, IfReady, IfSettled, IsAbsent, IsHere, IsReferred, StoresTried, moved}
use Rattle.fault_core.specs.CoreView.{CoreView, IsKnownAs, IsSeenAs}
use Rattle.fault_core.specs.Homes.{homes_in}
use Rattle.fault_core.specs.Kept.{AreApart, IsFormed, IsKept}
use Rattle.fault_core.specs.Kill.{AreWritableSo, IsPart, is_absent}
use Rattle.fault_core.specs.Moves.{Loads, StoresAs, StoresSome}
use Rattle.fault_core.specs.Plan.{IsKeptPlan, IsPlanAt}
use Rattle.fault_core.specs.Range.{AreWrittenBack, IsNextPart}
use Rattle.fault_core.specs.Reach.{Reaches}
use Rattle.fault_core.specs.Unit.{IsReady, IsShownDirty, IsSlotOf, IsTouched}

-- ---- The interval of a page.

-- It is in form, has the page, and is kept; where the core is known, it is the projection's. There is none past the root.
pub record Describes (page : ℕ) (old new : CoreView) (result : Result (Option Interval) Halt) : Type 0 where
  pub none : IfOk result (λ o. (o ≡ None) ↔ (root_pages ≤ page))
  pub form : IfOk result (λ o. IfSome o (λ x. IsFormed x × Holds x page))
  pub is_kept : IfOk result (λ o. IfSome o (IsKept new.kept))
  pub interval : (m : List Sector) (named : Triples) (ss : List Space) → IsKnownAs old m named ss → IfOk result (λ o. IfSome o (IsIntervalAt ss page))

-- A window shows the page by it; where the core is known, there is none exactly where none does.
pub record ShowsPage (page : ℕ) (old new : CoreView) (result : Result (Option Interval) Halt) : Type 0 where
  pub form : IfOk result (λ o. IfSome o (λ x. IsFormed x × Holds x page × (is_mapped x.mode ≡ true)))
  pub is_kept : IfOk result (λ o. IfSome o (IsKept new.kept))
  pub interval : (m : List Sector) (named : Triples) (ss : List Space) → IsKnownAs old m named ss → IfOk result (λ o. IfSome o (IsIntervalAt ss page))
  pub none : (m : List Sector) (named : Triples) (ss : List Space) → IsKnownAs old m named ss → IfOk result (λ o. (o ≡ None) ↔ (shown_at ss page ≡ None))

-- So it is of the last page of a reference; where it is the first page too, the interval is that one's.
pub record ShowsLast (x : Interval) (first last : ℕ) (old new : CoreView) (result : Result (Option Interval) Halt) : Type 0 where
  pub form : IfOk result (λ o. IfSome o (λ y. Shows y last))
  pub one : first ≡ last → result ≡ Ok (Some x)
  pub is_kept : IfOk result (λ o. IfSome o (IsKept new.kept))
  pub interval : (m : List Sector) (named : Triples) (ss : List Space) → IsKnownAs old m named ss → IfOk result (λ o. IfSome o (IsIntervalAt ss last))
  pub none : (m : List Sector) (named : Triples) (ss : List Space) → IsKnownAs old m named ss → IfOk result (λ o. (o ≡ None) ↔ (shown_at ss last ≡ None))

-- The interval that has a page, and where it ends, or the range does.
pub record GivesPart (page end : ℕ) (old : CoreView) (result : Result (Interval × ℕ) Halt) : Type 0 where
  pub form : IfOk result (λ r. IsFormed r.0 × Holds r.0 page)
  pub part : IfOk result (λ r. IsPart r.0 page end r.1)
  pub next : (m : List Sector) (named : Triples) (ss : List Space) → IsKnownAs old m named ss → IfOk result (λ r. IsNextPart ss page end r.1)
  pub interval : (m : List Sector) (named : Triples) (ss : List Space) → IsKnownAs old m named ss → IfOk result (λ r. IsIntervalAt ss page r.0)

-- ---- A reference.

-- The intervals of its first and of its last page, which show them, or why it is refused.
pub record Refers (writes : Bool) (address count : ℕ) (old new : CoreView) (result : Result Reference Halt) : Type 0 where
  pub form : IfOk result (IfShown (λ x y. Shows x (address / 512) × Shows y (last_page address count)))
  pub one : IfOk result (IfShown (λ x y. address / 512 ≡ last_page address count → y ≡ x))
  pub is_kept : IfOk result (IfShown (λ x y. IsKept new.kept y))
  pub access : (m : List Sector) (named : Triples) (ss : List Space) → IsKnownAs old m named ss → IfOk result (λ r. outcome r ≡ access_of ss writes address count)
  pub intervals_at : (m : List Sector) (named : Triples) (ss : List Space) → IsKnownAs old m named ss
      → IfOk result (IfShown (λ x y. IsIntervalAt ss (address / 512) x × IsIntervalAt ss (last_page address count) y))
  pub seen : (ss : List Space) → IsSeenAs old ss → IfOk result (IfShown (λ x y. IsIntervalAt ss (address / 512) x × IsIntervalAt ss (last_page address count) y))

-- The slots of its first and of its last page, or what an attempt comes to.
pub record Foresees (writes : Bool) (address count : ℕ) (old new : CoreView) (result : Result Prospect Halt) : Type 0 where
  pub clients : IfOk result (IfReady (λ i j. HasClient new.frames.slots i × HasClient new.frames.slots j))
  pub here : IfOk result (IfReady (λ i j. IsHere new.kept new.frames.slots (last_page address count)))
  pub slots : (m : List Sector) (named : Triples) (ss : List Space) → IsKnownAs old m named ss
      → IfOk result (IfReady (λ i j. IsSlotOf ss new.frames.slots (address / 512) i × IsSlotOf ss new.frames.slots (last_page address count) j))
  pub granted : (m : List Sector) (named : Triples) (ss : List Space) → IsKnownAs old m named ss → IfOk result (IfReady (λ i j. Done ≡ access_of ss writes address count))
  pub access : (m : List Sector) (named : Triples) (ss : List Space) → IsKnownAs old m named ss
      → IfOk result (IfSettled (IfAccess (λ a. a ≡ access_of ss writes address count)))
  pub absent : (m : List Sector) (named : Triples) (ss : List Space) → IsKnownAs old m named ss
      → IfOk result (IfSettled (IfAbsent (IsAbsent ss new.frames.slots writes address count)))
  pub referred : IfOk result (IfSettled (IfAbsent (IsReferred address count)))
  pub unmoved : IfOk result (IfSettled (λ t. t ≢ moved))
  pub present : IsReady old.kept old.frames.slots (address / 512) → IsReady old.kept old.frames.slots (last_page address count) → AreApart old.kept
      → IfOk result (IfSettled (IfAbsent (λ page. ⊥)))

-- An attempt comes to what the reference comes to, or to its first page that is not resident; where all pages are ready, to none.
pub record Attempts (writes : Bool) (address count : ℕ) (old new : CoreView) (result : Result Attempt Halt) : Type 0 where
  pub access : (m : List Sector) (named : Triples) (ss : List Space) → IsKnownAs old m named ss → IfOk result (IfAccess (λ a. a ≡ access_of ss writes address count))
  pub absent : (m : List Sector) (named : Triples) (ss : List Space) → IsKnownAs old m named ss → IfOk result (IfAbsent (IsAbsent ss new.frames.slots writes address count))
  pub present : (m : List Sector) (named : Triples) (ss : List Space) → IsKnownAs old m named ss → IfOk result (λ t. t ≡ moved → ArePresent ss new.frames.slots address count)
  pub referred : IfOk result (IfAbsent (IsReferred address count))
  pub here : IfOk result (λ t. t ≡ moved → IsHere new.kept new.frames.slots (last_page address count))
  pub ready : IsReady old.kept old.frames.slots (address / 512) → IsReady old.kept old.frames.slots (last_page address count) → AreApart old.kept
      → IfOk result (IfAbsent (λ page. ⊥))

-- what it loads: all bytes, or none
pub record TriesToLoad (address : ℕ) (before after : List ℕ) (old : CoreView) (result : Result Attempt Halt) : Type 0 where
  pub bytes : (m : List Sector) (named : Triples) (ss : List Space) → IsKnownAs old m named ss → IfOk result (λ t. t ≡ moved → Loads ss address after m)
  pub width : length after ≡ length before
  pub unmoved : result ≢ Ok moved → after ≡ before

-- what it stores: all bytes, or none
pub record TriesToStore (address : ℕ) (bytes : List ℕ) (old new : CoreView) (result : Result Attempt Halt) : Type 0 where
  pub stored : (m : List Sector) (named : Triples) (ss : List Space) → IsKnownAs old m named ss
      → IfOk result (λ t. GoesTo (StoresTried t ss address bytes) (IsTouchedOrOwn ss address (length bytes)) [] old.frames new.frames)
  pub unmoved : result ≢ Ok moved → Reaches old.frames new.frames
  pub dirty : (m : List Sector) (named : Triples) (ss : List Space) → IsKnownAs old m named ss
      → IfOk result (λ t. t ≡ moved → IsShownDirty ss new.frames.slots (last_page address (length bytes)))

-- A reference that is carried out comes to what it comes to by the projection; where it is done, its last page is ready.
pub record Accesses (writes : Bool) (address count : ℕ) (old new : CoreView) (result : Result Access Halt) : Type 0 where
  pub access : (m : List Sector) (named : Triples) (ss : List Space) → IsKnownAs old m named ss → IfOk result (λ a. a ≡ access_of ss writes address count)
  pub ready : IfOk result (λ a. a ≡ Done → IsReady new.kept new.frames.slots (last_page address count))

-- what it loads: all bytes, or none where it is refused, or is on one page and fails
pub record LoadsBytes (address : ℕ) (before after : List ℕ) (old : CoreView) (result : Result Access Halt) : Type 0 where
  pub bytes : (m : List Sector) (named : Triples) (ss : List Space) → IsKnownAs old m named ss → IfOk result (λ a. a ≡ Done → Loads ss address after m)
  pub width : length after ≡ length before
  pub refused : IfOk result (λ a. a ≢ Done → after ≡ before)
  pub intact : address % 512 + length before ≤ 512 → OnErr result (after ≡ before)

-- what it stores: all bytes, none where it is refused, and some first pieces where it fails
pub record StoresBytes (address : ℕ) (bytes : List ℕ) (old new : CoreView) (result : Result Access Halt) : Type 0 where
  pub stored : (m : List Sector) (named : Triples) (ss : List Space) → IsKnownAs old m named ss
      → IfOk result (λ a. GoesTo (StoresAs a ss address bytes) (IsTouchedOrOwn ss address (length bytes)) [] old.frames new.frames)
  pub halted : (m : List Sector) (named : Triples) (ss : List Space) → IsKnownAs old m named ss
      → OnErr result (GoesTo (StoresSome ss address bytes) (IsTouchedOrOwn ss address (length bytes)) [] old.frames new.frames)
  pub tested : (m : List Sector) (named : Triples) (ss : List Space) → IsKnownAs old m named ss → access_of ss true address (length bytes) ≢ Done → Reaches old.frames new.frames
  pub refused : IfOk result (λ a. a ≢ Done → Reaches old.frames new.frames)
  pub dirty : (m : List Sector) (named : Triples) (ss : List Space) → IsKnownAs old m named ss
      → IfOk result (λ a. a ≡ Done → IsShownDirty ss new.frames.slots (last_page address (length bytes)))

-- ---- The swap unit of a page.

-- the slot of the page, whose swap unit is resident; where the core is known, there is none exactly where no window shows it
pub record Fetches (page : ℕ) (old new : CoreView) (result : Result (Option ℕ) Halt) : Type 0 where
  pub ready : IfOk result (λ o. IfSome o (IsTouched new.kept new.frames.slots page))
  pub slot : (m : List Sector) (named : Triples) (ss : List Space) → IsKnownAs old m named ss → IfOk result (λ o. IfSome o (IsSlotOf ss new.frames.slots page))
  pub none : (m : List Sector) (named : Triples) (ss : List Space) → IsKnownAs old m named ss → IfOk result (λ o. (o ≡ None) ↔ (shown_at ss page ≡ None))

-- its first page, and the home of each of its pages
pub record Resolves (page : ℕ) (old new : CoreView) (result : Result (Option Plan) Halt) : Type 0 where
  pub unit : IfOk result (λ o. IfSome o (λ plan. IsKeptPlan new.kept page plan.first (homes_in plan.homes)))
  pub homes : (m : List Sector) (named : Triples) (ss : List Space) → IsKnownAs old m named ss
      → IfOk result (λ o. IfSome o (λ plan. IsPlanAt ss named page plan.first (homes_in plan.homes)))
  pub none : (m : List Sector) (named : Triples) (ss : List Space) → IsKnownAs old m named ss → IfOk result (λ o. (o ≡ None) ↔ (shown_at ss page ≡ None))

-- ---- A range.

-- the page after the unit, and how many pages it has; or where no window shows the page, that after its interval, and 0
pub record GivesUnit (page end : ℕ) (old : CoreView) (result : Result (ℕ × ℕ) Halt) : Type 0 where
  pub further : IfOk result (λ r. page < r.0)
  pub shown : (m : List Sector) (named : Triples) (ss : List Space) → IsKnownAs old m named ss → IfOk result (λ r. r.1 ≢ 0 → IsUnitAt ss page r.0 r.1)
  pub bare : (m : List Sector) (named : Triples) (ss : List Space) → IsKnownAs old m named ss → IfOk result (λ r. r.1 ≡ 0 → AreBare ss page r.0 × IsNextPart ss page end r.0)

-- one more unit was brought in, or an interval passed; or the unit has more pages than may still be brought in
pub record TakesTurn (so_far : Progress) (end : ℕ) (old new : CoreView) (result : Result (Option Progress) Halt) : Type 0 where
  pub turn : IfOk result (λ o. IfSome o (IsTurn so_far))
  pub further : (m : List Sector) (named : Triples) (ss : List Space) → IsKnownAs old m named ss → IfOk result (λ o. IfSome o (IsFurther ss end so_far))
  pub whole : (m : List Sector) (named : Triples) (ss : List Space) → IsKnownAs old m named ss
      → IfOk result (λ o. IfSome o (λ now. AreWhole ss new.frames.slots so_far.page now.page))
  pub too_long : (m : List Sector) (named : Triples) (ss : List Space) → IsKnownAs old m named ss → IfOk result (λ o. o ≡ None → IsTooLong ss so_far)

-- how many units of the range were brought in, and the page that was last
pub record BringsUnits (first pages : ℕ) (old new : CoreView) (result : Result (ℕ × ℕ) Halt) : Type 0 where
  pub within : IfOk result (λ r. r.0 ≢ 0 → (first ≤ r.1) × (r.1 < first + pages))
  pub units : (m : List Sector) (named : Triples) (ss : List Space) → IsKnownAs old m named ss
      → IfOk result (λ r. AreUnits ss (first + pages) (start_at first (length old.frames.slots / 2)) r.0 r.1)
  pub shown : (m : List Sector) (named : Triples) (ss : List Space) → IsKnownAs old m named ss → IfOk result (λ r. r.0 ≢ 0 → IsShownAt ss r.1)
  pub all : (m : List Sector) (named : Triples) (ss : List Space) → IsKnownAs old m named ss
      → IfOk result (λ r. (slot : ℕ) → IsEmpty new.frames.slots slot → r.0 ≢ 0 → AreWhole ss new.frames.slots first (r.1 + 1))

-- What one interval shows of a range from a page on was flushed or evicted, and this is the first page after it.
pub record WritesPart (write_back : WriteBack) (page end : ℕ) (old new : CoreView) (result : Result ℕ Halt) : Type 0 where
  pub further : IfOk result (λ next. (page < next) × (next ≤ end))
  pub rest : (m : List Sector) (named : Triples) (ss : List Space) → IsKnownAs old m named ss → IfOk result (AreWrittenBack write_back ss new.frames.slots page)
  pub part : (m : List Sector) (named : Triples) (ss : List Space) → IsKnownAs old m named ss → IfOk result (IsNextPart ss page end)

-- what it shows there was given up
pub record KillsPart (page end : ℕ) (old new : CoreView) (result : Result ℕ Halt) : Type 0 where
  pub next : IfOk result (λ next. (page < next) × (next ≤ end))
  pub part : (m : List Sector) (named : Triples) (ss : List Space) → IsKnownAs old m named ss → IfOk result (IsNextPart ss page end)
  pub gone : (m : List Sector) (named : Triples) (ss : List Space) → IsKnownAs old m named ss → IfOk result (AreWritableSo (is_absent new.frames.slots) ss page)
