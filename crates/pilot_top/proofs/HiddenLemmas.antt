-- A file that no window shows: no call makes a page of it dirty, and it stays so until a line shows it.
use Rattle.std.proofs.Common.{◌≡◌, ◌≢◌, inl, inr, ℕ, ◌≤◌, false, List, [], ◌∷◌, ◌++◌, Ok, Some, sym, ◌∙◌, arith}
use Rattle.std.proofs.lemmas.Bool.{eq-eqb, true≢false}
use Rattle.std.proofs.lemmas.Option.{none-some, same_Some}
use Rattle.labelled_disk.specs.declared.disk.Disk.{Ghosts}
use Rattle.labelled_disk.specs.declared.disk.DiskWrite.{DiskWrite}
use Rattle.labelled_disk.specs.Root.{root_page}
use Rattle.labelled_disk.specs.Sectors.{Sector}
use Rattle.labelled_disk.specs.State.{DiskState}
use Rattle.flat_machine.specs.declared.call.Call.{Call}
use Rattle.flat_machine.specs.declared.call.Call.TheVariants as call
use Rattle.flat_machine.specs.declared.space.Space.{Space}
use Rattle.file_map.specs.FileMap.{Triples}
use Rattle.swapper_kernel.specs.Goes.{Makes, no_page}
use Rattle.swapper_kernel.specs.GoesLaws.{makes_wider}
use Rattle.volume_root.specs.RootPage.{root_in, root_write}
use Rattle.file_manager.specs.Creating.{IsMonotone, next_id}
use Rattle.file_manager.specs.Reasons.{InitialState, IsNotOlder, KeepsOn, giving, initial_state}
use Rattle.fault_core.specs.Core.{state}
use Rattle.space_calls.specs.FilesLaws.{HaveLower, later_on, on_wider, shown_on}
use Rattle.space_calls.specs.Sees.{AreOn, StillOnOr}
use Rattle.pilot_engine.specs.declared.session.Session.{Session}
use Rattle.pilot_engine.specs.Reasons.{IsBegun}
use Rattle.pilot_engine.specs.Showing.{DirtiesShown, dirties, mapped_by, maps}
use Rattle.pilot_engine.specs.Starting.{AccountsAtStart}
use Rattle.pilot_top.specs.Sparing.{Hides, maps_file, other_file}
use Rattle.pilot_top.proofs.ReasonLemmas.{not_older_then}

have_lower : (id : ℕ) → HaveLower (other_file id)
have_lower id file page last before other = other

-- the pages that a call may make dirty are other files'
dirty_other : (id : ℕ) → 16 ≤ id → (c : Call) (ss : List Space) → AreOn (other_file id) ss → (file page : ℕ) → dirties c ss file page → other_file id file page
dirty_other id client (call.Store address bytes) ss on file page one = elim one [
  | inl touched ↦ shown_on (other_file id) (have_lower id) ss on touched.virtual (record { file = file; page = page }) touched.shown
  | inr own ↦ λ is. omega (arith, own, client, is)
]
dirty_other id client c ss on file page own = λ is. omega (arith, own, client, is)

-- the file that a call shows is another one
maps_other : (id new : ℕ) (c : Call) → maps_file id (Some c) ≡ false → new ≢ id → (file : ℕ) → maps new c ≡ Some file → file ≢ id
maps_other id new (call.Map space named page writable) free other file is = λ same. true≢false (sym (eq-eqb named id (same_Some named file is ∙ same)) ∙ free)
maps_other id new (call.MapAnonymous space) free other file is = λ same. other (same_Some new file is ∙ same)
maps_other id new c free other file is = absurd (none-some file is)

module _ {D A : Type 0} {G : Ghosts D} (old new : Session D A G) (c : Call) (id : ℕ) (client : 16 ≤ id) (h : Hides old id) where
  -- no page of it becomes dirty
  pub hidden_makes : DirtiesShown c old new → (run : List DiskWrite) × Makes (other_file id) run (state old.core).disk (state old.core).slots (state new.core).disk (state new.core).slots
  hidden_makes shown =
      let ss = h.hidden.0 in
      let wrote = shown ss h.hidden.1.0 in
      (wrote.labels, makes_wider (other_file id) (dirty_other id client c ss h.hidden.1.1) wrote.makes)

  -- and no window shows it after a call that does not map it
  pub hidden_still : next_id old.volume.root ≢ id → maps_file id (Some c) ≡ false → IsMonotone old.volume.root new.volume.root
      → ((o : InitialState) → KeepsOn o old.core.filer → IsNotOlder o old.volume.root → KeepsOn (giving o (next_id new.volume.root)) new.core.filer)
      → ((o : InitialState) → KeepsOn o old.core.filer → IsNotOlder o old.volume.root → StillOnOr (mapped_by (next_id old.volume.root) c) old.core new.core) → Hides new id
  hidden_still other free up keeps still =
      let o = h.initial_state in
      let ss = h.hidden.0 in
      record {
        initial_state = giving o (next_id new.volume.root);
        keeps = keeps o h.keeps h.not_older;
        not_older = not_older_then o old.volume.root new.volume.root h.not_older up;
        hidden = later_on (other_file id) (mapped_by (next_id old.volume.root) c ss) new.core ss h.hidden.1.1
            (λ file page is. maps_other id (next_id old.volume.root) c free other file is) (still o h.keeps h.not_older ss h.hidden.1.0);
      }

-- a session that started on a disk whose file map was in form shows no file
pub hidden_first : {D A : Type 0} {G : Ghosts D} (s : Session D A G) (disk : DiskState)
    → ((d : List Sector) (named : Triples) (ws : List DiskWrite) → IsBegun d named ws disk → AccountsAtStart d named ws (Ok s))
    → ((d : List Sector) → disk.contents ≡ Some d → IsMonotone (root_in (root_page d)) s.volume.root)
    → (d : List Sector) (named : Triples) (ws : List DiskWrite) → IsBegun d named ws disk → (id : ℕ) → Hides s id
hidden_first s disk accounts monotone d named ws begun id =
    let kept = (accounts d named ws begun).keeps_to in
    let seen = (accounts d named ws begun).sees in
    let up = monotone d begun.contents in
    record {
      initial_state = initial_state d named (ws ++ (root_write kept.0 ∷ []));
      keeps = kept.1;
      not_older = record { monotone = up; next = up.0 };
      hidden = (seen.0, (seen.1.0, on_wider no_page (other_file id) (λ file page none. absurd none) seen.0 seen.1.1));
    }
