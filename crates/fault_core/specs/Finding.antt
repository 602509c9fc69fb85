-- What the calls on a filer come to that look for pages of clients, and move their bytes.
use Rattle.std.specs.Prelude.{◌≡◌, ◌↔◌, true, ℕ, ◌+◌, ◌%◌, ◌<◌, ◌≤◌, List, length, Option, None, Result, Ok, IfOk, IfErr, IfSome, OnOk, OnErr}
use Rattle.labelled_disk.specs.declared.evidence.Halt.{Halt}
use Rattle.labelled_disk.specs.Sectors.{Sector}
use Rattle.frame_pool.specs.declared.home.Home.{Home}
use Rattle.frame_pool.specs.Frames.{HasPage}
use Rattle.file_map.specs.declared.run.Run.{Run}
use Rattle.file_map.specs.FileMap.{IsFound, IsNowhere, Triples}
use Rattle.file_map.specs.Run.{IsRun, holds, sector_at}
use Rattle.flat_machine.specs.declared.space.Space.{Space}
use Rattle.flat_machine.specs.Space.{root_pages}
use Rattle.swap_units.specs.declared.interval.Interval.{Interval}
use Rattle.swap_units.specs.Unit.{Holds}
use Rattle.swapper_kernel.specs.Goes.{IsDirty, Same}
use Rattle.session_words.specs.CellLaws.{Stores, StoresAt}
use Rattle.space_tables.specs.declared.error.SpaceError.{SpaceError}
use Rattle.space_tables.specs.Answer.{FromMemory, IfMalformed, IfMem, NotRefused}
use Rattle.space_tables.specs.Form.{BreaksLookUp}
use Rattle.space_tables.specs.SpaceTables.{IsIntervalAt}
use Rattle.space_tables.specs.Stored.{RevealSpaces}
use Rattle.filer_kernel.specs.Causes.{IsGiven}
use Rattle.filer_kernel.specs.Tables.{IsTableAccounted}
use Rattle.filer_kernel.specs.Triples.{MapIs}
use Rattle.filer_kernel.specs.View.{HasMemory, TablesAre, View, kept_by}
use Rattle.fault_core.specs.declared.homes.Homes.{Homes}
use Rattle.fault_core.specs.Access.{last_page}
use Rattle.fault_core.specs.Homes.{AreHomesOf, homes_in}
use Rattle.fault_core.specs.Kept.{IsFormed}
use Rattle.fault_core.specs.Moves.{AreSeen, HasBytes, Leaves, Loads, StoresSome}
use Rattle.fault_core.specs.Reach.{IsReachedHome}
use Rattle.fault_core.specs.Revealed.{Known}
use Rattle.fault_core.specs.Unit.{AreShownStored, IsWhole, file_page}
use Rattle.swapper_kernel.specs.Homes.{IsAmong}

-- ---- Where a page stands.

-- the interval that the tables give is in form, and has the page; where they are revealed, it is the projection's
pub record LooksUp (intervals page : ℕ) (v : View) (result : Result (Option Interval) Halt) : Type 0 where
  pub none : IfOk result (λ o. (o ≡ None) ↔ (root_pages ≤ page))
  pub form : IfOk result (λ o. IfSome o (λ x. IsFormed x × Holds x page))
  pub interval : (b : List ℕ) (ss : List Space) → TablesAre v b → RevealSpaces (λ c. c ≡ b) intervals ss → IfOk result (λ o. IfSome o (IsIntervalAt ss page))

-- Asking them fails where a page breaks its form for that look-up, or in the memory; where they are revealed, in the memory alone.
pub record FailsToAsk {T : Type 0} (intervals page : ℕ) (v w : View) (result : Result T (SpaceError Halt)) : Type 0 where
  pub right : (ss : List Space) → RevealSpaces (TablesAre v) intervals ss → IfErr result FromMemory
  pub malformed : (b : List ℕ) → TablesAre v b → IfErr result (IfMalformed (BreaksLookUp page intervals b))
  pub refused : IfErr result NotRefused
  pub cause : IfErr result (IfMem (IsTableAccounted v.disk v.slots v.layout v.runs w.disk))

-- a run of the map that has the page, which was kept or read; and there is none where the page is nowhere
pub record FindsRun (id page : ℕ) (v : View) (result : Result (Option Run) Halt) : Type 0 where
  pub form : IfOk result (λ o. IfSome o (IsRun v.layout.sectors))
  pub holds : IfOk result (λ o. IfSome o (λ run. holds run id page ≡ true))
  pub given : IfOk result (λ o. IfSome o (IsGiven v.layout v.disk v.slots (kept_by v)))
  pub nowhere : (m : List Sector) (named : Triples) → HasMemory v m → MapIs v.layout named m → result ≡ Ok None → IsNowhere named id page
  pub found : (m : List Sector) (named : Triples) (b : List ℕ) → Known v m named b → IfOk result (IsFound named id page)

-- the run was kept or read; where the map is known, each page of the file that the run has stands where it says
pub record IsRunFor (id : ℕ) (v : View) (r : Run) : Type 0 where
  pub form : IsRun v.layout.sectors r
  pub given : IsGiven v.layout v.disk v.slots (kept_by v) r
  pub named : (m : List Sector) (named : Triples) (b : List ℕ) → Known v m named b → (p : ℕ) → holds r id p ≡ true → named id p (sector_at r p) ≡ true

-- the homes of so many pages
pub record FindsHomes (id first pages : ℕ) (v : View) (result : Result Homes Halt) : Type 0 where
  pub are : IfOk result (λ homes. AreHomesOf id first pages (homes_in homes))
  pub found : IfOk result (λ homes. (h : Home) → IsAmong (homes_in homes) h → IsReachedHome v h)
  pub named : (m : List Sector) (named : Triples) (b : List ℕ) → Known v m named b
      → IfOk result (λ homes. (h : Home) → IsAmong (homes_in homes) h → named h.id h.page h.sector ≡ true)

-- the slot of the page, whose whole swap unit is resident
pub record TouchesPage (x : Interval) (page : ℕ) (w : View) (result : Result ℕ Halt) : Type 0 where
  pub slot : IfOk result (λ i. HasPage w.slots i x.id (file_page x page))
  pub below : IfOk result (λ i. i < length w.slots)
  pub whole : OnOk result (IsWhole w.slots x page)

-- ---- Bytes.

-- what is loaded of one page: all bytes, or none
pub record LoadsPart {T : Type 0} (x : Interval) (page from : ℕ) (before after : List ℕ) (v : View) (result : Result T Halt) : Type 0 where
  pub bytes : (m : List Sector) (named : Triples) (b : List ℕ) → Known v m named b → AreShownStored named m x → OnOk result (HasBytes x.id (file_page x page) from after m)
  pub width : length after ≡ length before
  pub intact : OnErr result (after ≡ before)

-- and of the pages of a reference
pub record LoadsShown {T : Type 0} (first last : Interval) (address : ℕ) (before after : List ℕ) (v : View) (result : Result T Halt) : Type 0 where
  pub bytes : (m : List Sector) (named : Triples) (b : List ℕ) (ss : List Space) → Known v m named b → AreSeen ss named m first → AreSeen ss named m last
      → OnOk result (Loads ss address after m)
  pub width : length after ≡ length before
  pub intact : address % 512 + length before ≤ 512 → OnErr result (after ≡ before)

-- what is stored to one page: all bytes, or none; its frame is dirty then
pub record StoresPart {T : Type 0} (x : Interval) (page from : ℕ) (bytes : List ℕ) (v w : View) (result : Result T Halt) : Type 0 where
  pub stored : (m : List Sector) (named : Triples) (b : List ℕ) → Known v m named b → AreShownStored named m x
      → OnOk result (Leaves (StoresAt x.id (file_page x page) from bytes) m named b w)
  pub halted : (m : List Sector) (named : Triples) (b : List ℕ) → Known v m named b → OnErr result (Leaves Same m named b w)
  pub dirty : OnOk result (IsDirty w.slots x.id (file_page x page))

-- and to the pages of a reference: some first pieces, where it fails
pub record StoresShown {T : Type 0} (first last : Interval) (address : ℕ) (bytes : List ℕ) (v w : View) (result : Result T Halt) : Type 0 where
  pub stored : (m : List Sector) (named : Triples) (b : List ℕ) (ss : List Space) → Known v m named b → AreSeen ss named m first → AreSeen ss named m last
      → OnOk result (Leaves (Stores ss address bytes) m named b w)
  pub halted : (m : List Sector) (named : Triples) (b : List ℕ) (ss : List Space) → Known v m named b → AreSeen ss named m first
      → OnErr result (Leaves (StoresSome ss address bytes) m named b w)
  pub dirty : OnOk result (IsDirty w.slots last.id (file_page last (last_page address (length bytes))))
