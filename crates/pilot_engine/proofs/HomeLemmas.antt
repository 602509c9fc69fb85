-- A page of a file that is or was at home: so it is after each call, and so it is of a file that was found.
use Rattle.std.proofs.Common.{◌≡◌, inl, inr, ℕ, ◌-◌, ◌≤◌, ◌<◌, List, Option, Some, true, sym, subst, arith}
use Rattle.std.specs.Prelude.{IfSome}
use Rattle.labelled_disk.specs.declared.disk.Disk.{Ghosts}
use Rattle.labelled_disk.specs.declared.disk.DiskWrite.{DiskWrite}
use Rattle.labelled_disk.specs.declared.evidence.Halt.{Halt}
use Rattle.labelled_disk.specs.declared.layout.Layout.{Layout}
use Rattle.labelled_disk.specs.Label.{leader_page}
use Rattle.labelled_disk.specs.Sectors.{Sector}
use Rattle.labelled_disk.specs.State.{DiskState}
use Rattle.flat_machine.specs.declared.space.Space.{Space}
use Rattle.frame_pool.specs.Frames.{Slots}
use Rattle.file_map.specs.declared.run.Run.{Run}
use Rattle.file_map.specs.FileMap.{IsSize, Triples}
use Rattle.swapper_kernel.specs.Goes.{Makes, Pages}
use Rattle.swapper_kernel.specs.Stands.{Stands}
use Rattle.filer_kernel.specs.Triples.{AreOf, MapIs}
use Rattle.file_manager.specs.declared.attributes.Attributes.{Attributes}
use Rattle.file_manager.specs.Grounds.{IsPageOf}
use Rattle.file_manager.specs.Reasons.{IsOfFile, KeepsTo, InitialState, WasBelow, WasThere}
use Rattle.file_manager.specs.LaterLaws.{at_home_later}
use Rattle.fault_core.specs.declared.core_over.Core.{Core}
use Rattle.fault_core.specs.Lack.{MissesPage}
use Rattle.fault_core.proofs.LackLemmas.{misses_wider}
use Rattle.running_words.specs.Session.{WroteIn}
use Rattle.running_words.specs.Blameless.{NeverBlamesForm}
use Rattle.space_calls.specs.FilesLaws.{HaveLower, last_once, on_wider}
use Rattle.space_calls.specs.Mapping.{IsLastFrom, ReachesOver}
use Rattle.space_calls.specs.Sees.{AreOn, SeesFiles, StillSees}
use Rattle.pilot_engine.specs.Reasons.{IsBlameless, SeesHome}
use Rattle.pilot_engine.proofs.LackLemmas.{own_pages}
use Rattle.fault_core.specs.Core.{state}

-- the pages of what files are or were
abbrev pub file_pages : InitialState → DiskState → Pages
file_pages o disk id page = IsOfFile o disk id page

-- each page that is or was at home on the one disk is or was so on the other
abbrev pub FilesStay : InitialState → DiskState → DiskState → Type 0
FilesStay o a b = (id page : ℕ) → WasThere o a id page → WasThere o b id page

-- so it is with the disk before a call and after it
pub file_later : (o : InitialState) {pages : Pages} {run : List DiskWrite} {a b : DiskState} {s t : Slots} → Makes pages run a s b t → FilesStay o a b
file_later o makes id page (sector, at) = (sector, at_home_later o makes (record { sector = sector; id = id; page = page }) at)

pub file_after : (o : InitialState) {pages : Pages} {a b : DiskState} {s t : Slots} → WroteIn pages a s b t → FilesStay o a b
file_after o wrote = file_later o wrote.makes

-- and so it is with the pages below one
pub below_later : (o : InitialState) (a b : DiskState) → FilesStay o a b → (id page : ℕ) → WasBelow o a id page → WasBelow o b id page
below_later o a b stay id page (later, from, below, there) = (later, from, below, stay id later there)

-- and with what a file is or was
pub of_file_later : (o : InitialState) (a b : DiskState) → FilesStay o a b → (id page : ℕ) → IsOfFile o a id page → IsOfFile o b id page
of_file_later o a b stay id page (inl (leader, there)) = inl (leader, stay id leader_page there)
of_file_later o a b stay id page (inr below) = inr (below_later o a b stay id page below)

pub files_later : (o : InitialState) {pages : Pages} {run : List DiskWrite} {a b : DiskState} {s t : Slots} → Makes pages run a s b t → (ss : List Space) → AreOn (WasBelow o a) ss → AreOn (WasBelow o b) ss
files_later o {a = a} {b = b} makes ss on = on_wider (WasBelow o a) (WasBelow o b) (below_later o a b (file_later o makes)) ss on

-- each page before one that is below the end is below it
pub have_lower : (o : InitialState) (disk : DiskState) → HaveLower (WasBelow o disk)
have_lower o disk id page last before (later, from, below, there) = (later, omega (arith, before, from), below, there)

-- ---- What the file map names.

module _ {o : InitialState} {layout : Layout} {kept : List Run} {disk : DiskState} {slots : Slots} {named : Triples} (h : KeepsTo o layout kept disk slots named) where
  -- a page that it names is or was at home
  pub named_there : (id page : ℕ) → (sector : ℕ) × (named id page sector ≡ true) → WasThere o disk id page
  named_there id page (sector, is) = (sector, h.homes (record { sector = sector; id = id; page = page }) is)

  -- so one below the size is below the end of what the file is or was
  pub sized_below : (id size page : ℕ) → IsSize named id size → page < size → WasBelow o disk id page
  sized_below id size page is below =
      let fits = is.below in
      (size - 1, omega (arith, below), omega (arith, below, fits), named_there id (size - 1) (is.reached (size - 1) (omega (arith, below))))

  -- and so is the last that a space shows, where it names that page or a later one
  pub reached_below : (ss : List Space) (space id page : ℕ) → ReachesOver ss space id page named → (last : ℕ) → IsLastFrom ss space page last → WasBelow o disk id last
  reached_below ss space id page (end, later, sector, shows, from, below, is) last at =
      (later, subst (λ (n : ℕ). n ≤ later) (last_once ss space page end last shows at) from, below, named_there id later (sector, is))

  -- the leader, or a page below the size, is of what the file is or was
  own_of_file : (later : DiskState) → FilesStay o disk later → (id : ℕ) → WasThere o later id leader_page → (page : ℕ) → IsPageOf layout disk slots id page → IsOfFile o later id page
  own_of_file later stay id led page (inl leader) = inl (leader, led)
  own_of_file later stay id led page (inr below) =
      let at = below h.memory named h.stands h.map in
      inr (below_later o disk later stay id page (sized_below id at.0 page at.1 at.2))

  -- where such a page may be missing after a call, it is one of what the file is or was
  pub misses_file : (later : DiskState) → FilesStay o disk later → (id : ℕ) → WasThere o later id leader_page → (e : Halt) → MissesPage (own_pages layout disk slots id) e → MissesPage (file_pages o later) e
  misses_file later stay id led e misses =
      misses_wider (own_pages layout disk slots id) (file_pages o later) (λ other page own. subst (λ (n : ℕ). IsOfFile o later n page) (sym own.0) (own_of_file later stay id led page own.1)) e misses

-- a file has its leader named, if it was found
abbrev pub IsLed : Layout → List Run → DiskState → Slots → ℕ → Option Attributes → Type 0
IsLed layout kept disk slots id found = (m : List Sector) (named : Triples) → Stands disk slots m → MapIs layout named m → AreOf named kept → IfSome found (λ _. (sector : ℕ) × (named id leader_page sector ≡ true))

-- so the leader of one that was found is or was at home
pub found_file : {o : InitialState} {layout : Layout} {kept : List Run} {disk : DiskState} {slots : Slots} {named : Triples} → KeepsTo o layout kept disk slots named
    → (id : ℕ) (found : Option Attributes) (x : Attributes) → found ≡ Some x → IsLed layout kept disk slots id found → WasThere o disk id leader_page
found_file {named = named} h id found x is led = named_there h id leader_page (subst (λ (r : Option Attributes). IfSome r (λ _. (sector : ℕ) × (named id leader_page sector ≡ true))) is (led h.memory named h.stands h.map h.kept))

-- ---- What is seen.

module _ {D A : Type 0} {G : Ghosts D} (o : InitialState) (old new : Core D A G) where
  -- where the same spaces are seen after a call, what they show was there still
  pub home_still : {pages : Pages} {run : List DiskWrite} → Makes pages run (state old).disk (state old).slots (state new).disk (state new).slots
      → StillSees old new → SeesHome o old → SeesHome o new
  home_still makes still (ss, (sees, on)) = (ss, (still ss sees, files_later o makes ss on))

  -- where the last pages that windows show were below the ends of their files
  pub home_on : {pages : Pages} {run : List DiskWrite} → Makes pages run (state old).disk (state old).slots (state new).disk (state new).slots
      → SeesFiles (WasBelow o (state old).disk) new → SeesHome o new
  home_on makes (ss, (sees, on)) = (ss, (sees, files_later o makes ss on))

-- ---- What is revealed.

-- none but pages of the space tables are missing
pub none_blameless : (o : InitialState) (disk : DiskState) (e : Halt) → NeverBlamesForm e → ((pages : Pages) → MissesPage pages e) → IsBlameless o disk e
none_blameless o disk e form misses = (form, misses (file_pages o disk))

-- or pages of what files are or were
pub files_blameless : (o : InitialState) (disk : DiskState) (pages : Pages) → ((id page : ℕ) → pages id page → IsOfFile o disk id page) → (e : Halt) → NeverBlamesForm e → MissesPage pages e → IsBlameless o disk e
files_blameless o disk pages were e form misses = (form, misses_wider pages (file_pages o disk) were e misses)
