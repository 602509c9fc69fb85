-- A core that stands for a machine, from call to call of its tables.
use Rattle.std.proofs.Common.{◌≡◌, ◌≤◌, ℕ, true, List, Result, Ok, Err, sym, ◌∙◌, ap, subst}
use Rattle.std.specs.Prelude.{[], IfOk, IfErr, MatchResult}
use Rattle.labelled_disk.specs.declared.disk.Disk.{Ghosts}
use Rattle.labelled_disk.specs.declared.layout.Layout.{Layout}
use Rattle.labelled_disk.specs.State.{DiskState}
use Rattle.labelled_disk.specs.Sectors.{Sector}
use Rattle.file_map.specs.FileMap.{Triples}
use Rattle.swapper_kernel.specs.HaltLaws.{brings_itself}
use Rattle.frame_pool.specs.Frames.{ArePages, Slots}
use Rattle.flat_machine.specs.declared.call.Call.{Call}
use Rattle.flat_machine.specs.declared.space.FilePage.{FilePage}
use Rattle.flat_machine.specs.declared.space.Space.{Space}
use Rattle.flat_machine.specs.IsMachine.{IsMachine}
use Rattle.flat_machine.specs.Machine.{Machine}
use Rattle.swap_units.specs.declared.interval.Interval.{Interval}
use Rattle.swapper_kernel.specs.Goes.{Makes}
use Rattle.swapper_kernel.specs.GoesLaws.{makes_wider}
use Rattle.swapper_kernel.specs.Homes.{IsLayout}
use Rattle.space_tables.specs.Stored.{RevealSpaces}
use Rattle.session_words.specs.FrameLaws.{BringsKnown, HasFrames, is_shown}
use Rattle.session_words.specs.Parts.{DirtyAreLoose, shapes_of}
use Rattle.session_words.specs.Volume.{volume_page}
use Rattle.file_manager.specs.Book.{Books}
use Rattle.file_manager.specs.declared.volume.Volume.{Volume}
use Rattle.fault_core.specs.declared.core_over.Core.{Core}
use Rattle.fault_core.specs.Core.{kept, state, Knows}
use Rattle.fault_core.specs.Reach.{Reaches, BringsOwn}
use Rattle.fault_core.specs.Revealed.{Revealed}
use Rattle.filer_kernel.specs.View.{TablesAre, View, view_of}
use Rattle.table_calls.specs.Answers.{Asked, Retabled}
use Rattle.running_words.specs.Running.{exactly, IsRunning, Runs}
use Rattle.running_words.specs.RunningLaws.{IsWhole}
use Rattle.running_words.specs.Session.{AreInForm, WroteIn}
use Rattle.running_words.specs.Stages.{Passes}
use Rattle.running_words.proofs.LaterLemmas.{tables_own}
use Rattle.running_words.proofs.RunningLemmas.{running_laws}
use Rattle.running_words.proofs.SessionLemmas.{asked_at, known_brought, session_books}

-- ---- Disk and frames.

pub reached_makes : {v w : View} → Reaches v w → Makes volume_page [] v.disk v.slots w.disk w.slots
reached_makes reaches = makes_wider volume_page tables_own reaches.goes.makes

pub nothing_labelled : {a b : DiskState} {s t : Slots} → Makes volume_page [] a s b t → WroteIn volume_page a s b t
nothing_labelled makes = record { labels = []; makes = makes; opens = tt }

-- ---- Results.

pub if_revealed : {X E : Type 0} (r : Result X E) (P Q : X → Type 0) (F : E → Type 0) → MatchResult r P F → ((x : X) → P x → Q x) → IfOk r Q
if_revealed (Ok x) P Q F h wider = wider x h
if_revealed (Err e) P Q F h wider = tt

pub if_failed : {X E : Type 0} (r : Result X E) (P : X → Type 0) (F : E → Type 0) → MatchResult r P F → IfErr r F
if_failed (Ok x) P F h = tt
if_failed (Err e) P F h = h

-- ---- Machines.

-- what the calls on files know
pub books_of : {v : View} {kept : List Interval} {count : ℕ} {volume : Volume} {m : Machine} (r : IsRunning v kept count volume m) → Books v.disk v.slots v.layout v.runs (shapes_of m.files) m.spaces r.session.stands.memory
books_of {v = v} {volume = volume} {m = m} r = session_books (exactly r.pages m.spaces) v.disk v.slots v.layout v.runs volume m r.session

-- a call on files that only asks leaves the machine
pub looked_runs : {v w : View} {kept : List Interval} {count : ℕ} {volume : Volume} {m : Machine} (r : IsRunning v kept count volume m) → Makes volume_page [] v.disk v.slots w.disk w.slots
    → BringsOwn v.slots w.slots → Books w.disk w.slots v.layout w.runs (shapes_of m.files) m.spaces r.session.stands.memory → w.layout ≡ v.layout → IsRunning w kept count volume m
looked_runs {v = v} {w = w} {volume = volume} {m = m} r makes brings books layout = record {
  pages = r.pages;
  tables = r.tables;
  session = asked_at (exactly r.pages m.spaces) v.disk w.disk v.slots w.slots v.layout v.runs w.runs volume m r.session makes brings books w.layout layout;
  cached = r.cached;
}

module _ {D A : Type 0} {G : Ghosts D} where
  -- a core of which the same is seen
  pub same_runs : (c d : Core D A G) (volume : Volume) (m : Machine) → state d ≡ state c → kept d ≡ kept c → d.intervals ≡ c.intervals → Runs c volume m → Runs d volume m
  same_runs c d volume m view intervals count r =
      subst (λ (v : View). IsRunning v (kept d) d.intervals volume m) (sym view) (subst (λ (k : List Interval). IsRunning (state c) k d.intervals volume m) (sym intervals)
      (subst (λ (n : ℕ). IsRunning (state c) (kept c) n volume m) (sym count) r))

  module _ (c : Core D A G) (layout : IsLayout (view_of c.filer).layout) (size : (view_of c.filer).disk.sectors ≡ (view_of c.filer).layout.sectors) where
    whole : IsWhole (state c)
    whole = record { layout = layout; size = size }

    -- what it knows of its memory
    pub knows : (volume : Volume) (m : Machine) (r : Runs c volume m) → Knows c r.session.stands.memory r.session.stands.is.named m.spaces
    knows volume m r = running_laws.known (state c) (kept c) c.intervals volume m whole r

    -- a core of which as much is known
    pub reached_runs : (d : Core D A G) (volume : Volume) (m : Machine) (r : Runs c volume m) → Reaches (state c) (state d) → BringsOwn (view_of c.filer).slots (view_of d.filer).slots → d.intervals ≡ c.intervals
        → Knows d r.session.stands.memory r.session.stands.is.named m.spaces → Runs d volume m
    reached_runs d volume m r reaches came count known =
        let brought : BringsKnown m.spaces (state c).slots (state d).slots = known_brought (exactly r.pages m.spaces) m (view_of c.filer).slots (view_of d.filer).slots came in
        subst (λ (n : ℕ). IsRunning (state d) (kept d) n volume m) (sym count)
        (running_laws.asked (state c) (state d) (kept c) (kept d) c.intervals volume m whole r reaches brought
        (subst (λ (n : ℕ). Revealed (state d) (kept d) n r.session.stands.memory r.session.stands.is.named m.spaces) count known))

    -- the tables were asked
    pub asked_runs : (d : Core D A G) (volume : Volume) (m : Machine) → Asked c d → Runs c volume m → Runs d volume m
    asked_runs d volume m asked r = reached_runs d volume m r asked.reaches asked.came asked.intervals (asked.same _ _ m.spaces (knows volume m r))

    module _ (d : Core D A G) (form : AreInForm (view_of d.filer).disk) (pages : ArePages (view_of d.filer).slots) (volume : Volume) (m : Machine) (retabled : Retabled c d) (spaces : List Space)
        (reveals : RevealSpaces (TablesAre (state d)) d.intervals spaces) (r : Runs c volume m) where
      -- the tables were changed, and what windows show is still shown
      pub reshaped_runs : IsMachine (record m { spaces = spaces }) → ((id page : ℕ) → is_shown m.spaces id page ≡ true → is_shown spaces id page ≡ true) → Runs d volume (record m { spaces = spaces })
      reshaped_runs is still =
          subst (λ (k : List Interval). IsRunning (state d) k d.intervals volume (record m { spaces = spaces })) (sym retabled.kept)
          (running_laws.reshaped (state c) (state d) (kept c) c.intervals d.intervals volume m spaces whole form pages r retabled.beside retabled.came reveals is still)

      -- and pages became settled
      pub changed_runs : (unforced : List FilePage) → IsMachine (record m { spaces = spaces; unforced = unforced }) → HasFrames (view_of d.filer).slots spaces → DirtyAreLoose (view_of d.filer).slots unforced
          → Runs d volume (record m { spaces = spaces; unforced = unforced })
      changed_runs unforced is frames loose =
          subst (λ (k : List Interval). IsRunning (state d) k d.intervals volume (record m { spaces = spaces; unforced = unforced })) (sym retabled.kept)
          (running_laws.changed (state c) (state d) (kept c) c.intervals d.intervals volume m spaces unforced whole form pages r retabled.beside reveals is frames loose)

  -- each crash state reveals the settled files of before
  pub quiet_passes : (c d : Core D A G) (volume : Volume) (m : Machine) (call : Call) → AreInForm (view_of c.filer).disk → Runs c volume m
      → Makes volume_page [] (view_of c.filer).disk (view_of c.filer).slots (view_of d.filer).disk (view_of d.filer).slots
      → Passes m call (view_of c.filer).disk (view_of d.filer).disk
  quiet_passes c d volume m call form r makes = running_laws.quiet call (state c) (state d) (kept c) c.intervals volume m form r makes

  -- ---- What tables that were changed or asked did to the frames.

  pub retabled_makes : (c d : Core D A G) → Retabled c d → Makes volume_page [] (view_of c.filer).disk (view_of c.filer).slots (view_of d.filer).disk (view_of d.filer).slots
  retabled_makes c d retabled = makes_wider volume_page tables_own retabled.beside.goes.makes

  pub retabled_then : (c d e : Core D A G) → Retabled c d → e ≡ d → Makes volume_page [] (view_of c.filer).disk (view_of c.filer).slots (view_of e.filer).disk (view_of e.filer).slots
  retabled_then c d e retabled same =
      subst (λ (x : Core D A G). Makes volume_page [] (view_of c.filer).disk (view_of c.filer).slots (view_of x.filer).disk (view_of x.filer).slots) (sym same) (retabled_makes c d retabled)

  pub asked_makes : (c d : Core D A G) → Asked c d → Makes volume_page [] (view_of c.filer).disk (view_of c.filer).slots (view_of d.filer).disk (view_of d.filer).slots
  asked_makes c d asked = makes_wider volume_page tables_own asked.reaches.goes.makes

  -- the disk still has as many sectors as the layout
  pub size_kept : (c d : Core D A G) → Makes volume_page [] (view_of c.filer).disk (view_of c.filer).slots (view_of d.filer).disk (view_of d.filer).slots
      → (view_of d.filer).layout ≡ (view_of c.filer).layout → (view_of c.filer).disk.sectors ≡ (view_of c.filer).layout.sectors → (view_of d.filer).disk.sectors ≡ (view_of d.filer).layout.sectors
  size_kept c d makes layout size = makes.went.sectors ∙ size ∙ ap (λ (l : Layout). l.sectors) (sym layout)

  -- ---- The same core.

  pub moved_runs : (c e : Core D A G) (volume : Volume) (m : Machine) → e ≡ c → Runs c volume m → Runs e volume m
  moved_runs c e volume m same r = subst (λ (x : Core D A G). Runs x volume m) (sym same) r

  pub moved_size : (c e : Core D A G) → e ≡ c → (view_of c.filer).disk.sectors ≡ (view_of c.filer).layout.sectors → (view_of e.filer).disk.sectors ≡ (view_of e.filer).layout.sectors
  moved_size c e same size = subst (λ (x : Core D A G). (view_of x.filer).disk.sectors ≡ (view_of x.filer).layout.sectors) (sym same) size

  pub moved_reaches : (c e d : Core D A G) → e ≡ c → Reaches (state e) (state d) → Makes volume_page [] (view_of c.filer).disk (view_of c.filer).slots (view_of d.filer).disk (view_of d.filer).slots
  moved_reaches c e d same reaches =
      subst (λ (x : Core D A G). Makes volume_page [] (view_of x.filer).disk (view_of x.filer).slots (view_of d.filer).disk (view_of d.filer).slots) same (makes_wider volume_page tables_own reaches.goes.makes)

  -- what was written is on the medium
  pub settled_runs : (c d : Core D A G) → IsLayout (view_of c.filer).layout → (view_of c.filer).disk.sectors ≡ (view_of c.filer).layout.sectors → (volume : Volume) (m : Machine) → Runs c volume m → Reaches (state c) (state d)
      → (view_of d.filer).slots ≡ (view_of c.filer).slots → d.intervals ≡ c.intervals → ((x : List Sector) (named : Triples) (ss : List Space) → Knows c x named ss → Knows d x named ss) → Runs d volume m
  settled_runs c d layout size volume m r reaches frames count same =
      let came : BringsOwn (view_of c.filer).slots (view_of d.filer).slots = subst (λ (s : Slots). BringsOwn (view_of c.filer).slots s) (sym frames) (brings_itself (λ home. (1 ≤ home.id) × (home.id ≤ 3)) (view_of c.filer).slots) in
      reached_runs c layout size d volume m r reaches came count (same _ _ m.spaces (knows c layout size volume m r))
