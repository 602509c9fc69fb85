-- Each cut of a run has the settled files of the machine at one place of the trace.
use Rattle.std.proofs.Common.{◌≡◌, ℕ, ◌≤◌, true, false, List, ◌++◌, map, length, Option, Some, None, refl, sym, ◌∙◌, ap, subst, arith}
use Rattle.std.specs.Prelude.{is_some, option_map, slice_get}
use Rattle.std.proofs.lemmas.Bool.{true≢false}
use Rattle.std.proofs.lemmas.Option.{none-some, same_Some, slice_get_within}
use Rattle.labelled_disk.specs.declared.disk.DiskWrite.{DiskWrite}
use Rattle.labelled_disk.specs.CrashState.{crash_state}
use Rattle.labelled_disk.specs.File.{File, Page, byte, file_at}
use Rattle.labelled_disk.specs.FilesOn.{disk_file}
use Rattle.labelled_disk.specs.Root.{counter_of, root_page, serial_of}
use Rattle.labelled_disk.specs.Sectors.{Sector}
use Rattle.labelled_disk.specs.State.{DiskState}
use Rattle.labelled_disk.specs.Syncing.{RevealsSyncs}
use Rattle.label_laws.specs.Shape.{bare_file}
use Rattle.label_laws.proofs.PermittedLemmas.{by_each}
use Rattle.cut_laws.specs.Cut.{unit, AtSome, IsCut}
use Rattle.cut_laws.specs.NewPages.{AddsZeros, HasOwnNewPages, HasPlainFree}
use Rattle.cut_laws.specs.OneCrashState.{AreFilesWhole, FilesOfOneCrashState}
use Rattle.cut_laws.proofs.AddedZeroLemmas.{pages_are_added_as_zeros}
use Rattle.cut_laws.proofs.ApartLemmas.{changes_apart}
use Rattle.cut_laws.proofs.ChangeRowLemmas.{apart_are_changes_apart}
use Rattle.cut_laws.proofs.NewPageLemmas.{new_pages_are_own}
use Rattle.cut_laws.proofs.PlainFreeLemmas.{plain_free_stays}
use Rattle.cut_laws.proofs.UnitLemmas.{same_units}
use Rattle.cut_laws.proofs.WholeLemmas.{right_is_whole}
use Rattle.flat_machine.specs.After.{TraceLine}
use Rattle.flat_machine.specs.Machine.{Machine}
use Rattle.flat_machine.specs.Settled.{settled}
use Rattle.session_words.specs.StandsFor.{RevealsSettled}
use Rattle.volume_root.specs.declared.root.Root.{Root}
use Rattle.volume_root.specs.RootPage.{root_in}
use Rattle.pilot_top.specs.CrashStates.{CrashStates, Lawfully, staged}
use Rattle.pilot_top.specs.Forcing.{AtEach}
use Rattle.pilot_top.specs.OnePlace.{ChangesApart, CutsHaveFiles, ForcesIfThere, HasCounterAt, IsAboveFiles, IsOfOnePlace}
use Rattle.pilot_top.specs.Parts.{RaisesRoot}
use Rattle.pilot_top.proofs.ForceLemmas.{forced_on}
use Rattle.pilot_top.proofs.GivenLemmas.{above_files, numbers_of_one}
use Rattle.pilot_top.proofs.RaisedLemmas.{cuts_go_on, permitted_each}
use Rattle.pilot_top.proofs.RevealedShapes.{reveals_shapes}

-- where the writes are revealed, the syncs are
pub syncs_there : (writes : Option (List DiskWrite)) (syncs : Option (List ℕ)) {synced : _} → RevealsSyncs writes syncs synced → (made : List DiskWrite) → writes ≡ Some made → (before : List ℕ) × (syncs ≡ Some before)
syncs_there writes None reveals made is = absurd (true≢false (sym (ap is_some is) ∙ sym reveals.revealed))
syncs_there writes (Some before) reveals made is = (before, refl)

module _ (m : Machine) (lines : List TraceLine) (d : List Sector) {a c : DiskState} (states : CrashStates m lines a c) (revealed : a.contents ≡ Some d) where
  abbrev now : ℕ → List Sector
  now i = crash_state d states.writes i

  abbrev place : ℕ → Machine
  place i = staged m lines (states.line i) (states.step i)

  reveals : (i : ℕ) → RevealsSettled (now i) (place i)
  reveals i = (states.each d i revealed).revealed

  whole : (i : ℕ) → AreFilesWhole false (now i)
  whole i id f file = right_is_whole false (serial_of (now i)) (counter_of (now i)) (now i) id f (reveals i).right.files file

  -- a page that the machine has forced wherever it has the file
  forced_if_there : (id page : ℕ) (bytes : List ℕ) (i : ℕ) (g : File) → ForcesIfThere id page bytes (place i) → disk_file false (now i) id ≡ Some g → slice_get g.pages page ≡ Some (map byte bytes)
  forced_if_there id page bytes i g forces file = by (file_at (settled (place i)) id) refl
    where
      by : (o : Option File) → file_at (settled (place i)) id ≡ o → slice_get g.pages page ≡ Some (map byte bytes)
      by None none =
          absurd (none-some (bare_file g) (sym (reveals_shapes (now i) (place i) (reveals i) id ∙ ap (λ (o : Option File). option_map bare_file o) none) ∙ ap (λ (o : Option File). option_map bare_file o) file))
      by (Some f) found = forced_on (now i) (place i) id page bytes (reveals i) g (f, found, forces f found) file

  -- the machine's counter, before the line or after it
  has_counter : (s k : ℕ) (e : List Sector) → s ≤ k → k ≤ length states.writes → IsCut d states.writes s k e → AtSome s k (λ i. HasCounterAt m lines (states.line i) (counter_of e))
  has_counter s k e ordered few cut =
      let some = numbers_of_one d states.writes s k e ordered few cut in
      (some.0, some.1, some.2, subst (HasCounterAt m lines (states.line some.0)) (sym some.3.1) (states.each d some.0 revealed).counter)

  module _ (s k : ℕ) (e : List Sector) (one : FilesOfOneCrashState false d states.writes s k e) where
    has_bytes : (id page : ℕ) (f : File) (bytes : List ℕ) → disk_file false e id ≡ Some f → AtEach m lines states.line states.step s k (ForcesIfThere id page bytes) → slice_get f.pages page ≡ Some (map byte bytes)
    has_bytes id page f bytes file each =
        let own = one.pages id page f file (λ j g low below is. slice_get_within g.pages page (map byte bytes) (forced_if_there id page bytes j g (each j low below) is)) in
        own.1 ∙ ap (λ (c : Page). Some c) (same_units own.0 (map byte bytes) (λ u.
        let some = own.2 u in
        let unit_there = some.3 in
        sym unit_there.4
        ∙ ap (unit u) (same_Some unit_there.2 (map byte bytes) (sym unit_there.3 ∙ forced_if_there id page bytes some.0 unit_there.0 (each some.0 some.1 some.2) unit_there.1))))

    of_one_place : AtSome s k (λ i. HasCounterAt m lines (states.line i) (counter_of e)) → IsAboveFiles e → (HasPlainFree d → (id : ℕ) → HasOwnNewPages false id d states.writes s k e)
        → ((id : ℕ) → AddsZeros false id d states.writes) → IsOfOnePlace m lines d states.writes states.line states.step s k e
    of_one_place counter above own zeros = record {
      place =
          let some = one.shapes in
          (some.0, some.1, some.2, λ id. some.3 id ∙ reveals_shapes (now some.0) (place some.0) (reveals some.0) id);
      bytes = has_bytes;
      units = one.pages;
      counter = counter;
      above = above;
      own = own;
      zeros = zeros;
    }

-- the changes of its files are apart
pub cuts_have_files : (m : Machine) (lines : List TraceLine) (d : List Sector) {a c : DiskState} → CrashStates m lines a c → a.contents ≡ Some d
    → ((made : List DiskWrite) (syncs : List ℕ) → a.writes ≡ Some made → c.syncs ≡ Some syncs → (before : List ℕ) × (a.syncs ≡ Some before)) → ChangesApart true a c
    → m.serial ≡ serial_of d → Lawfully a c → (last : Root) × RaisesRoot (root_in (root_page d)) last a c → CutsHaveFiles m lines d a c
cuts_have_files m lines d {a = a} {c = c} states revealed known changes serial lawful raises = record {
  places = states;
  files = λ at made syncs is have k s e few since cut.
      let before = known made syncs is have in
      let wrote : c.writes ≡ Some (made ++ at.writes) = at.appended.revealed ∙ ap (option_map (λ (xs : List DiskWrite). xs ++ at.writes)) is in
      let rows = changes.apart d made at.writes before.0 syncs revealed is wrote before.1 have in
      let apart = apart_are_changes_apart false syncs (length made) d at.writes true rows in
      let permitted = by_each d at.writes (permitted_each d revealed lawful made at.writes is wrote) in
      let files : (j : ℕ) → j ≤ length at.writes → AreFilesWhole false (crash_state d at.writes j) = λ j low. whole m lines d at revealed j in
      let order = since.by_then in
      let one = changes_apart false d (length made) at.writes syncs files apart k s e few since cut in
      of_one_place m lines d at revealed s k e one (has_counter m lines d at revealed s k e (omega (arith, order)) few cut)
      (above_files d at.writes (length made) syncs apart k s few since (λ i. (reveals m lines d at revealed i).right) m.serial (λ i. (at.each d i revealed).same_serial) e cut one.shapes)
      (λ plain id. new_pages_are_own false d (length made) at.writes syncs true permitted files rows k s e few since cut (plain_free_stays d at.writes permitted plain s) id)
      (pages_are_added_as_zeros false d at.writes permitted files);
  counter = cuts_go_on m lines d states revealed serial lawful raises;
}
