-- A space that gets a window.
use Rattle.std.proofs.Common.{◌≡◌, ℕ, Bool, false, List, Some, None, inl, inr, Result, Ok, Err, refl, sym, subst}
use Rattle.labelled_disk.specs.declared.disk.Disk.{Ghosts}
use Rattle.frame_pool.specs.Frames.{ArePages}
use Rattle.flat_machine.specs.declared.call.Call.TheVariants as call
use Rattle.flat_machine.specs.declared.call.Refusal.{Refusal}
use Rattle.flat_machine.specs.declared.call.Reply.{Reply}
use Rattle.flat_machine.specs.declared.call.Reply.TheVariants as reply
use Rattle.flat_machine.specs.declared.space.FilePage.{FilePage}
use Rattle.flat_machine.specs.declared.space.Space.{Space}
use Rattle.flat_machine.specs.IsMachine.{IsMachine}
use Rattle.flat_machine.specs.Machine.{Machine}
use Rattle.flat_machine.specs.Next.{set_window}
use Rattle.flat_machine.specs.Refusal.{refusal}
use Rattle.flat_machine.specs.Space.{space_at}
use Rattle.flat_machine.proofs.Keep.{spaces_of}
use Rattle.projection_laws.specs.Spaces.{MayHaveWindow}
use Rattle.swapper_kernel.specs.Homes.{IsLayout}
use Rattle.space_tables.specs.declared.shown.Shown.{Shown}
use Rattle.space_tables.specs.Shows.{window_of}
use Rattle.session_words.specs.FrameLaws.{HasFrames}
use Rattle.session_words.specs.Parts.{DirtyAreLoose}
use Rattle.session_words.proofs.KnownLemmas.{frames_brought}
use Rattle.session_words.proofs.LooseLemmas.{volume_loose}
use Rattle.space_tables.specs.Stored.{RevealSpaces}
use Rattle.file_manager.specs.declared.volume.Volume.{Volume}
use Rattle.fault_core.specs.declared.core_over.Core.{Core}
use Rattle.fault_core.specs.Core.{state}
use Rattle.filer_kernel.specs.View.{TablesAre, view_of}
use Rattle.table_calls.specs.Answers.{IsDone, Retabled}
use Rattle.running_words.specs.Running.{Carried, Runs, exactly}
use Rattle.running_words.specs.Session.{AreInForm}
use Rattle.running_words.proofs.LaterLemmas.{tables_own}
use Rattle.running_words.proofs.SessionLemmas.{known_brought}
use Rattle.space_calls.proofs.CarryLemmas.{done_carried}
use Rattle.space_calls.proofs.RunLemmas.{changed_runs, reshaped_runs}
use Rattle.space_calls.proofs.ShownLemmas.{given_shown, unmapped_bare}
use Rattle.space_calls.proofs.TableAnswers.{was_done}

module _ {D A : Type 0} {G : Ghosts D} (c d e : Core D A G) (layout : IsLayout (view_of c.filer).layout) (size : (view_of c.filer).disk.sectors ≡ (view_of c.filer).layout.sectors)
    (form : AreInForm (view_of d.filer).disk) (pages : ArePages (view_of e.filer).slots) (same : e ≡ d) (retabled : Retabled c d) (volume : Volume) (m : Machine) (r : Runs c volume m)
    (handle : ℕ) (x : Space) (may : MayHaveWindow m.spaces x) (named : x.handle ≡ handle) where
  at : space_at m.spaces handle ≡ Some x
  at = subst (λ (n : ℕ). space_at m.spaces n ≡ Some x) named may.there

  pub window_given : x.window ≡ None → (shown : Shown) → IsMachine (record m { spaces = set_window handle (Some (window_of shown)) m.spaces }) → (o : Result Unit Refusal) → o ≡ Ok tt
      → IsDone (RevealSpaces (TablesAre (state d)) d.intervals (set_window handle (Some (window_of shown)) m.spaces)) o
      → (◌≡◌ {A = Reply} reply.Done reply.Done) × Runs e volume (record m { spaces = set_window handle (Some (window_of shown)) m.spaces })
  window_given bare shown is o ok done =
      let spaces = set_window handle (Some (window_of shown)) m.spaces in
      let reveals = was_done (RevealSpaces (TablesAre (state d)) d.intervals (set_window handle (Some (window_of shown)) m.spaces)) o ok done in
      let are = spaces_of m r.session.stands.is.by.machine in (
        refl,
        subst (λ (y : Core D A G). Runs y volume (record m { spaces = set_window handle (Some (window_of shown)) m.spaces })) (sym same)
            (reshaped_runs c layout size d form (subst (λ (y : Core D A G). ArePages (view_of y.filer).slots) same pages) volume m retabled spaces reveals r is
            (λ id page before. given_shown m.spaces id page before are handle x at (unmapped_bare m.spaces id page before are handle x at bare) (Some (window_of shown)))),
      )

-- ---- Another window, or none.

module _ {D A : Type 0} {G : Ghosts D} (c d e : Core D A G) (layout : IsLayout (view_of c.filer).layout) (size : (view_of c.filer).disk.sectors ≡ (view_of c.filer).layout.sectors)
    (form : AreInForm (view_of d.filer).disk) (pages : ArePages (view_of e.filer).slots) (same : e ≡ d) (retabled : Retabled c d) (volume : Volume) (m : Machine) (r : Runs c volume m)
    (spaces : List Space) (unforced : List FilePage) (is : IsMachine (record m { spaces = spaces; unforced = unforced })) (frames : HasFrames (view_of c.filer).slots spaces) (loose : DirtyAreLoose (view_of c.filer).slots unforced) where
  frames_then : HasFrames (view_of d.filer).slots spaces
  frames_then = frames_brought (view_of c.filer).slots (view_of d.filer).slots spaces (known_brought (exactly r.pages m.spaces) (record m { spaces = spaces }) (view_of c.filer).slots (view_of d.filer).slots retabled.came) frames

  loose_then : DirtyAreLoose (view_of d.filer).slots unforced
  loose_then id page dirty = elim (retabled.beside.goes.makes.dirty id page dirty) [ inl was ↦ loose id page was | inr own ↦ volume_loose unforced id page (tables_own id page own) ]

  pub window_changed : (o : Result Unit Refusal) → IsDone (RevealSpaces (TablesAre (state d)) d.intervals spaces) o → IsDone (Runs e volume (record m { spaces = spaces; unforced = unforced })) o
  window_changed (Ok u) reveals =
      subst (λ (y : Core D A G). Runs y volume (record m { spaces = spaces; unforced = unforced })) (sym same)
      (changed_runs c layout size d form (subst (λ (y : Core D A G). ArePages (view_of y.filer).slots) same pages) volume m retabled spaces reveals r unforced is frames_then loose_then)
  window_changed (Err word) no_way = no_way

-- the machine's next after a call that maps a space
pub window_carried : {D A : Type 0} {G : Ghosts D} (d : Core D A G) (volume : Volume) (m : Machine) (handle id page : ℕ) (writable : Bool) → refusal m (call.Map handle id page writable) ≡ None
    → (answer : Reply) → answer ≡ reply.Done → Runs d volume (record m { spaces = set_window handle (Some (record { file = id; first = page; writable = writable; anonymous = false })) m.spaces })
    → Carried m (call.Map handle id page writable) d volume answer
window_carried d volume m handle id page writable none answer is runs = done_carried d volume m (call.Map handle id page writable) answer none is runs
