-- What keeps to an initial state does so after single calls: the map is searched or changed, a label is read, frames are given up.
use Rattle.std.proofs.Common.{◌≡◌, ◌⊎◌, inl, inr, ℕ, ◌+◌, ◌<◌, ◌≤◌, true, false, List, [], sym, ◌∙◌, subst, arith}
use Rattle.std.specs.Prelude.{IfSome}
use Rattle.std.proofs.lemmas.Option.{none-some}
use Rattle.std.proofs.lemmas.Bool.Decides.{nat_tests}
use Rattle.labelled_disk.specs.declared.disk.DiskWrite.{DiskWrite}
use Rattle.labelled_disk.specs.declared.label.Label.{Label}
use Rattle.labelled_disk.specs.declared.layout.Layout.{Layout}
use Rattle.labelled_disk.specs.Calls.{RevealsSame}
use Rattle.labelled_disk.specs.Sectors.{Sector}
use Rattle.labelled_disk.specs.State.{DiskState}
use Rattle.frame_pool.specs.declared.home.Home.{Home}
use Rattle.frame_pool.specs.Frames.{Slots}
use Rattle.file_map.specs.declared.run.Run.{Run}
use Rattle.file_map.specs.FileMap.{Triples}
use Rattle.swapper_kernel.specs.declared.manager.Manager.TheVariants.{AllocationMap, FileMap}
use Rattle.swapper_kernel.specs.Differs.{Differs}
use Rattle.swapper_kernel.specs.Goes.{Makes, Pages, no_page}
use Rattle.swapper_kernel.specs.Homes.{IsLayout, IsHeld, Brings}
use Rattle.swapper_kernel.specs.Stands.{Stands}
use Rattle.swapper_kernel.specs.Window.{Beside, in_map}
use Rattle.filer_kernel.specs.declared.cached.CachedRuns.{CachedRuns}
use Rattle.filer_kernel.specs.Becomes.{Becomes}
use Rattle.filer_kernel.specs.Cached.{runs_of}
use Rattle.filer_kernel.specs.Marks.{Marks, BitsAre}
use Rattle.filer_kernel.specs.Tables.{AreOverTables}
use Rattle.filer_kernel.specs.Triples.{MapIs, AreOf}
use Rattle.file_manager.specs.Grounds.{IsMapsHome}
use Rattle.file_manager.specs.Reasons.{InitialState, AreTabled, IsReleased, KeepsTo}
use Rattle.file_manager.specs.LaterLaws.{released_later}
use Rattle.file_manager.specs.WriteLaws.{GivesNot, RootsBelow, UpNot, no_roots, takes_not}
use Rattle.file_manager.specs.KeepLaws.{keeps_after, unframed_still}
use Rattle.file_manager.proofs.FreedReasons.{found_keeps}
use Rattle.file_manager.proofs.ForgottenRun.{SamePrefix, map_stays, bits_stay}
use Rattle.file_manager.proofs.FreedRun.{shows_still}
use Rattle.file_manager.proofs.MadeRun.{maps_come}

-- ---- One step from what keeps to an initial state.

-- none of the writes gives a sector to a page
abbrev pub GivesNone : List DiskWrite → Type 0
GivesNone run = (home : Home) → GivesNot run home

-- none of them gives a sector up
abbrev pub UpNone : List DiskWrite → Type 0
UpNone run = (sector : ℕ) → UpNot run sector

-- A later memory that has the same bits, and whose map names nothing else: runs that are kept are the map's.
pub keeps_stepped : {pages : Pages} {run : List DiskWrite} {o : InitialState} {layout : Layout} {kept runs : List Run} {a b : DiskState} {s t : Slots} {named later : Triples} → (k : KeepsTo o layout kept a s named)
    → Makes pages run a s b t → Brings (IsMapsHome layout) s t → AreOverTables t later → (n : List Sector) → Stands b t n → MapIs layout later n → BitsAre layout k.marks n
    → ((id page sector : ℕ) → later id page sector ≡ true → named id page sector ≡ true) → AreOf later runs
    → ((home : Home) → layout.first ≤ home.sector → 16 ≤ home.id → named home.id home.page home.sector ≡ true → (later home.id home.page home.sector ≡ true) ⊎ IsReleased o a home) → GivesNone run → UpNone run → RootsBelow o.next run
    → (IfSome o.tables (AreTabled layout named k.memory) → IfSome o.tables (AreTabled layout later n)) → KeepsTo o layout runs b t later
keeps_stepped {o = o} {runs = runs} {later = later} k makes brings over n stands map bits only are still none up below tables =
    keeps_after k makes n stands later map (λ home is. inl (only home.id home.page home.sector is)) runs are (λ home held. elim (brings.homes home held) [ inl was ↦ inl was | inr own ↦ inr (inl own) ])
    (unframed_still brings k.unframed) over k.marks bits (λ sector from below clear. inl (clear, takes_not _ sector (λ id page. none (record { sector = sector; id = id; page = page }))))
    (λ home from may was. elim (still home from may was) [ inl is ↦ inl is | inr evict ↦ inr (released_later o makes home (none home) evict) ]) (λ home from may. inr (none home)) (λ sector from below is. inl (is, up sector)) below (λ home turn w at gives. absurd (none home turn w at gives)) tables

-- what was said by one layout is said by the same
pub keeps_at : {o : InitialState} {layout place : Layout} {b : DiskState} {t : Slots} {named : Triples} (runs : CachedRuns) → place ≡ layout
    → KeepsTo o layout (runs_of layout.sectors runs) b t named → KeepsTo o place (runs_of place.sectors runs) b t named
keeps_at {o = o} {b = b} {t = t} {named = named} runs same k = subst (λ (l : Layout). KeepsTo o l (runs_of l.sectors runs) b t named) (sym same) k

-- no write at all gives none
pub no_writes : GivesNone []
no_writes home turn w at gives = none-some w at

pub none_up : UpNone []
none_up sector turn w at up = none-some w at

-- sectors before the data are as they were, and no frame came
pub keeps_prefix : {pages : Pages} {run : List DiskWrite} {o : InitialState} {layout : Layout} {kept : List Run} {a b : DiskState} {s t : Slots} {named : Triples} → IsLayout layout → (k : KeepsTo o layout kept a s named)
    → Makes pages run a s b t → ((home : Home) → IsHeld t home → IsHeld s home) → (n : List Sector) → Stands b t n → SamePrefix layout k.memory n → GivesNone run → UpNone run → RootsBelow o.next run
    → (IfSome o.tables (AreTabled layout named k.memory) → IfSome o.tables (AreTabled layout named n)) → KeepsTo o layout kept b t named
keeps_prefix {layout = layout} {named = named} is k makes left n stands stays none up below tables =
    keeps_stepped k makes (record { homes = λ home held. inl (left home held) }) (λ home held. k.over home (left home held)) n stands (map_stays is stays k.map) (bits_stay is stays k.bits) (λ id page sector one. one) k.kept (λ home from may was. inl was) none up below tables

-- a label is read
pub keeps_revealed : {o : InitialState} {layout : Layout} {kept : List Run} {a b : DiskState} {s t : Slots} {named : Triples} → IsLayout layout → KeepsTo o layout kept a s named
    → RevealsSame a b → Makes no_page [] a s b t → t ≡ s → KeepsTo o layout kept b t named
keeps_revealed {o = o} {layout = layout} {kept = kept} {a = a} {b = b} {s = s} {named = named} is k revealed makes frames =
    subst (λ (u : Slots). KeepsTo o layout kept b u named) (sym frames)
    (keeps_prefix is k (subst (λ (u : Slots). Makes no_page [] a s b u) frames makes) (λ home held. held) k.memory (record { sectors = k.stands.sectors; revealed = revealed.contents ∙ k.stands.revealed; merged = k.stands.merged }) (λ i x below here. here) no_writes none_up (no_roots o.next) (λ tables. tables))

-- ---- Calls on the map.

-- its pages are not those of the other
before_file_map : (layout : Layout) (j : ℕ) (l : Label) → j < layout.vam → in_map FileMap layout (1 + j) l ≡ false
before_file_map layout j l below = grind (arith, nat_tests)

-- the bits stay
pub bits_beside : (layout : Layout) (marks : Marks) (m n : List Sector) → Differs (in_map FileMap layout) m n → BitsAre layout marks m → BitsAre layout marks n
bits_beside layout marks m n differs bits = record {
  bytes = bits.bytes;
  shows = shows_still AllocationMap layout m n bits.bytes (λ j x below here. differs.pages (1 + j) x here (before_file_map layout j x.0 below)) bits.shows;
  are = bits.are;
}

-- the map is changed: it names nothing else
pub keeps_changed : {o : InitialState} {layout last : Layout} {kept runs : List Run} {a b : DiskState} {s t : Slots} {named later : Triples} → (k : KeepsTo o layout kept a s named) → Beside FileMap a s layout b t last → AreOverTables t later
    → (becomes : Becomes FileMap layout k.memory (MapIs layout later) b t) → ((id page sector : ℕ) → later id page sector ≡ true → named id page sector ≡ true) → AreOf later runs
    → ((home : Home) → layout.first ≤ home.sector → 16 ≤ home.id → named home.id home.page home.sector ≡ true → (later home.id home.page home.sector ≡ true) ⊎ IsReleased o a home)
    → (IfSome o.tables (AreTabled layout named k.memory) → IfSome o.tables (AreTabled layout later becomes.memory)) → KeepsTo o layout runs b t later
keeps_changed {o = o} {layout = layout} k beside over becomes only are still tables =
    keeps_stepped k beside.goes.makes (maps_come beside) over becomes.memory becomes.stands becomes.is (bits_beside layout k.marks k.memory becomes.memory becomes.differs k.bits) only are still no_writes none_up (no_roots o.next) tables

-- ---- The map is searched: the memory stays.

-- the runs that are kept are those that were
pub keeps_asked : {o : InitialState} {layout last : Layout} {a b : DiskState} {s t : Slots} {named : Triples} (runs now : CachedRuns) → now ≡ runs → KeepsTo o layout (runs_of layout.sectors runs) a s named → Beside FileMap a s layout b t last
    → ((m : List Sector) (named : Triples) → Stands a s m → MapIs layout named m → Stands b t m) → KeepsTo o last (runs_of last.sectors now) b t named
keeps_asked {layout = layout} runs now same k beside stays =
    found_keeps runs now beside stays (λ m named stands map are. subst (λ (r : CachedRuns). AreOf named (runs_of layout.sectors r)) (sym same) are) k
