-- The tables of the root alone are written, and the session has spaces.
use Rattle.std.proofs.Common.{◌≡◌, inl, inr, ℕ, true, List, [], ◌∷◌, refl, sym, ◌∙◌, ap, subst}
use Rattle.std.specs.List.{concat}
use Rattle.labelled_disk.specs.declared.disk.Disk.{Ghosts}
use Rattle.labelled_disk.specs.declared.layout.Layout.{Layout}
use Rattle.labelled_disk.specs.Sectors.{Sector}
use Rattle.frame_pool.specs.Frames.{ArePages}
use Rattle.flat_machine.specs.Machine.{Machine}
use Rattle.flat_machine.specs.Space.{root}
use Rattle.flat_machine.specs.Start.{start}
use Rattle.swap_units.specs.declared.interval.Interval.{Interval}
use Rattle.filer_kernel.specs.declared.filer.Filer.{Filer}
use Rattle.filer_kernel.specs.Tables.{BesideTables}
use Rattle.space_tables.specs.Stored.{RevealSpaces}
use Rattle.session_words.specs.FrameLaws.{HasFrames}
use Rattle.session_words.specs.Parts.{DirtyAreLoose}
use Rattle.session_words.proofs.LooseLemmas.{volume_loose}
use Rattle.file_manager.specs.declared.volume.Volume.{Volume}
use Rattle.file_manager.proofs.BookLemmas.{known_after}
use Rattle.fault_core.specs.declared.core_over.Core.{Core}
use Rattle.fault_core.specs.Core.{kept}
use Rattle.fault_core.specs.Lack.{Sees}
use Rattle.fault_core.specs.Reach.{BringsOwn}
use Rattle.fault_core.specs.Revealed.{Known}
use Rattle.filer_kernel.specs.View.{FitsLayout, View, TablesAre, view_of}
use Rattle.space_calls.specs.Sees.{SeesFiles}
use Rattle.swapper_kernel.specs.Goes.{no_page}
use Rattle.running_words.specs.Running.{IsRunning, Runs}
use Rattle.running_words.specs.RunningLaws.{IsWhole}
use Rattle.running_words.specs.Session.{AreInForm, IsOpen, IsSession}
use Rattle.running_words.proofs.ChangedLemmas.{session_changed}
use Rattle.running_words.proofs.KnownLemmas.{session_known}
use Rattle.running_words.proofs.LaterLemmas.{tables_own}
use Rattle.pilot_engine.specs.Opening.{root_alone}
use Rattle.pilot_engine.specs.Reasons.{SeesRoot}
use Rattle.pilot_engine.specs.Referring.{TakesCalls}

module _ (v : View) (volume : Volume) (d : List Sector) (whole : IsWhole v) (s : IsSession root_alone v.disk v.slots v.layout v.runs volume (start d)) where
  -- the bytes of the pages that were made
  abbrev pub bytes : List ℕ
  bytes = concat s.stands.is.by.tables.pages

  pub known_before : Known v s.stands.memory s.stands.is.named bytes
  known_before = session_known root_alone v volume (start d) whole s s.stands.is.by.tables.pages refl

  pub tables_before : TablesAre v bytes
  tables_before =
      let k = known_before in
      record { memory = s.stands.memory; stands = k.stands; triples = s.stands.is.named; map = k.map; kept = k.runs; size = k.size; count = k.count; page = k.page; held = k.held }

  module _ (w : View) (b : BesideTables v.disk v.slots v.layout v.runs w.disk w.slots w.layout w.runs) (came : BringsOwn v.slots w.slots) where
    has : HasFrames w.slots (root ∷ [])
    has = known_after v.slots w.slots (root ∷ []) came s.stands.frames

    loose : DirtyAreLoose w.slots []
    loose id page dirty = elim (b.goes.makes.dirty id page dirty) [ inl was ↦ s.stands.dirty id page was | inr own ↦ volume_loose [] id page (tables_own id page own) ]

    pub begun_runs : AreInForm w.disk → ArePages w.slots → RevealSpaces (TablesAre w) 1 (root ∷ []) → IsRunning w [] 1 volume (start d)
    begun_runs form frames reveals = session_changed root_alone v w 1 volume (start d) (root ∷ []) whole form frames s bytes known_before b reveals [] s.stands.is.by.machine has loose

-- a core over that filer
pub runs_over : {D A : Type 0} {G : Ghosts D} (c : Core D A G) (filer : Filer D A G) (volume : Volume) (m : Machine) → c.filer ≡ filer → kept c ≡ [] → c.intervals ≡ 1 → IsRunning (view_of filer) [] 1 volume m → Runs c volume m
runs_over {D} {A} {G} c filer volume m same none one runs =
    subst (λ (n : ℕ). IsRunning (view_of c.filer) (kept c) n volume m) (sym one)
    (subst (λ (ks : List Interval). IsRunning (view_of c.filer) ks 1 volume m) (sym none) (subst (λ (f : Filer D A G). IsRunning (view_of f) [] 1 volume m) (sym same) runs))

-- the disk has as many sectors as its layout afterwards too
pub begun_fits : (v w : View) → w.disk.sectors ≡ v.disk.sectors → w.layout ≡ v.layout → FitsLayout v → FitsLayout w
begun_fits v w sectors layout fits = sectors ∙ fits ∙ ap (λ (l : Layout). l.sectors) (sym layout)

-- the session takes calls
pub takes_over : {D A : Type 0} {G : Ghosts D} (c : Core D A G) (filer : Filer D A G) (volume : Volume) → c.filer ≡ filer → FitsLayout (view_of filer) → IsOpen (view_of filer).layout volume
    → TakesCalls (record { core = c; volume = volume; running = true })
takes_over {D} {A} {G} c filer volume same fits opened = record {
  size = subst (λ (f : Filer D A G). FitsLayout (view_of f)) (sym same) fits;
  opened = subst (λ (f : Filer D A G). IsOpen (view_of f).layout volume) (sym same) opened;
  running = refl;
}

-- what is seen of the tables by the filer, the core sees: no window is there
pub sees_over : {D A : Type 0} {G : Ghosts D} (c : Core D A G) (filer : Filer D A G) → c.filer ≡ filer → kept c ≡ [] → c.intervals ≡ 1 → SeesRoot (view_of filer) → SeesFiles no_page c
sees_over {D} {A} {G} c filer same none one sees = (
  root ∷ [],
  (
    subst (λ (n : ℕ). Sees (view_of c.filer) (kept c) n (root ∷ [])) (sym one)
        (subst (λ (ks : List Interval). Sees (view_of c.filer) ks 1 (root ∷ [])) (sym none) (subst (λ (f : Filer D A G). Sees (view_of f) [] 1 (root ∷ [])) (sym same) sees)),
    (tt, tt),
  ),
)
