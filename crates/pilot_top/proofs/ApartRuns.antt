-- Writes between two states of a disk that change files apart from each other: of calls in a row, of one call, and of an end.
use Rattle.std.proofs.Common.{◌≡◌, ℕ, suc, ◌≤◌, Bool, true, false, List, [], ◌++◌, length, Option, Some, None, refl, sym, ◌∙◌, ap, subst, arith}
use Rattle.std.specs.Prelude.{Contains, option_map, slice_get, if◌then◌else◌}
use Rattle.std.proofs.lemmas.List.{append_cancel_left, length-append}
use Rattle.std.proofs.lemmas.Option.{none-some, same_Some}
use Rattle.labelled_disk.specs.declared.disk.DiskWrite.{DiskWrite}
use Rattle.labelled_disk.specs.declared.disk.DiskWrite.TheVariants.{LabelOnly, Page, Whole}
use Rattle.labelled_disk.specs.Calls.{RevealsSame}
use Rattle.labelled_disk.specs.CrashState.{crash_state}
use Rattle.labelled_disk.specs.File.{File, file_at}
use Rattle.labelled_disk.specs.Permitted.{Permitted}
use Rattle.labelled_disk.specs.Sectors.{Sector}
use Rattle.labelled_disk.specs.State.{DiskState}
use Rattle.labelled_disk.specs.WriteRuns.{Appended, after_writes}
use Rattle.labelled_disk.proofs.WriteRunLemmas.{appended_none, appended_then}
use Rattle.label_laws.specs.Mixed.{gives_label}
use Rattle.label_laws.specs.Shape.{BareFile, bare_file}
use Rattle.label_calls.specs.Synced.{SyncsAround}
use Rattle.flat_machine.specs.declared.call.Call.{Call}
use Rattle.flat_machine.specs.IsMachine.{IsMachine}
use Rattle.flat_machine.specs.Machine.{Machine}
use Rattle.swapper_kernel.specs.Goes.{KeepsSyncs, is_page_write}
use Rattle.cut_laws.specs.ChangeRows.{AreApart}
use Rattle.cut_laws.proofs.ChangeRowLemmas.{apart_later, apart_then, apart_whether_failed}
use Rattle.file_manager.specs.Synced.{LabelsAfterSync}
use Rattle.session_words.specs.StandsFor.{RevealsSettled}
use Rattle.running_words.specs.Stages.{Passes, stage}
use Rattle.pilot_top.specs.OnePlace.{ChangesApart, HasShapesOf, settled_shape}
use Rattle.pilot_top.proofs.CallApartLemmas.{Resizes, keeps_apart, marks_are_apart, pages_are_apart, sizes_are_apart}
use Rattle.pilot_top.proofs.RevealedShapes.{reveals_shapes}
use Rattle.pilot_top.proofs.SettledShapes.{ChangesMarks, KeepsShapes, permanent_shape, shape_at}

-- writes that were made are those that are revealed
pub same_writes : {a c : DiskState} (ws made writes : List DiskWrite) → Appended ws a c → a.writes ≡ Some made → c.writes ≡ Some (made ++ writes) → ws ≡ writes
same_writes ws made writes appended is now =
    let e : Some (made ++ ws) ≡ Some (made ++ writes) = sym (appended.revealed ∙ ap (option_map (λ (earlier : List DiskWrite). earlier ++ ws)) is) ∙ now in
    append_cancel_left made ws writes (same_Some (made ++ ws) (made ++ writes) e)

-- Said of the writes that were made.
pub by_writes : (failed : Bool) {a c : DiskState} (ws : List DiskWrite) → Appended ws a c
    → ((d : List Sector) (earlier : List DiskWrite) (before syncs : List ℕ) → a.contents ≡ Some d → a.writes ≡ Some earlier → c.writes ≡ Some (earlier ++ ws) → a.syncs ≡ Some before → c.syncs ≡ Some syncs
    → AreApart false syncs (length earlier) d ws failed)
    → ChangesApart failed a c
by_writes failed {a = a} {c = c} ws appended each = record {
  apart = λ d earlier writes before syncs revealed made now had have.
      let same : ws ≡ writes = same_writes ws earlier writes appended made now in
      subst (λ (xs : List DiskWrite). AreApart false syncs (length earlier) d xs failed) same
      (each d earlier before syncs revealed made (subst (λ (xs : List DiskWrite). c.writes ≡ Some (earlier ++ xs)) (sym same) now) had have);
}

pub apart_of_any : (failed : Bool) {a c : DiskState} → ChangesApart false a c → ChangesApart failed a c
apart_of_any failed changes = record { apart = λ d earlier writes before syncs revealed made now had have. apart_whether_failed false syncs (length earlier) d writes failed (changes.apart d earlier writes before syncs revealed made now had have) }

-- nothing was written
pub apart_none : {a c : DiskState} → RevealsSame a c → ChangesApart false a c
apart_none same = by_writes false [] (appended_none same) (λ d earlier before syncs revealed made now had have. λ k write here. absurd (none-some write here))

-- Calls that did not fail, and then more.
pub apart_after : (failed : Bool) {a b c : DiskState} (first next : List DiskWrite) → Appended first a b → Appended next b c → KeepsSyncs a b → KeepsSyncs b c → ChangesApart false a b → ChangesApart failed b c → ChangesApart failed a c
apart_after failed {a = a} {b = b} {c = c} first next one two kept more changes then_changes = by_writes failed (first ++ next) (appended_then first next one two) (λ d earlier before syncs revealed made now had have.
    let mid = kept before had in
    let late = more mid.0 mid.1 in
    let made_then : b.writes ≡ Some (earlier ++ first) = one.revealed ∙ ap (option_map (λ (xs : List DiskWrite). xs ++ first)) made in
    let now_then : c.writes ≡ Some ((earlier ++ first) ++ next) = two.revealed ∙ ap (option_map (λ (xs : List DiskWrite). xs ++ next)) made_then in
    let there : b.contents ≡ Some (after_writes first d) = one.contents ∙ ap (option_map (after_writes first)) revealed in
    let is_late : late.0 ≡ syncs = same_Some late.0 syncs (sym late.1 ∙ have) in
    apart_then false syncs (length earlier) d first next failed
    (apart_later false mid.0 syncs (length earlier) d first false (λ s has. subst (λ (xs : List ℕ). Contains xs s) is_late (late.2 s has)) (changes.apart d earlier first before mid.0 revealed made made_then had mid.1))
    (subst (λ (n : ℕ). AreApart false syncs n (after_writes first d) next failed) (length-append earlier first) (then_changes.apart (after_writes first d) (earlier ++ first) next mid.0 syncs there made_then now_then mid.1 have)))

-- The settled files are those of one machine throughout.
pub settled_apart : (m : Machine) {a c : DiskState} (ws : List DiskWrite) → Appended ws a c → ((d : List Sector) (k : ℕ) → a.contents ≡ Some d → RevealsSettled (crash_state d ws k) m) → ChangesApart false a c
settled_apart m ws appended reveals = by_writes false ws appended (λ d earlier before syncs revealed made now had have.
    keeps_apart syncs (length earlier) d ws false (λ k. m) (λ k. reveals_shapes (crash_state d ws k) m (reveals d k revealed)) (λ k id. refl))

-- over any contents, bytes of pages alone
pub pages_apart : {a c : DiskState} (ws : List DiskWrite) → Appended ws a c → (m : Machine) (done : Call) → Passes m done a c
    → ((d : List Sector) (k : ℕ) (w : DiskWrite) → a.contents ≡ Some d → slice_get ws k ≡ Some w → Permitted (crash_state d ws k) w)
    → ((before writes : List DiskWrite) → a.writes ≡ Some before → c.writes ≡ Some (before ++ writes) → (k : ℕ) (w : DiskWrite) → slice_get writes k ≡ Some w → is_page_write w ≡ true)
    → ChangesApart false a c
pages_apart {a = a} {c = c} ws appended m done passes permitted pages = by_writes false ws appended (λ d earlier before syncs revealed made now had have.
    let same : passes.writes ≡ ws = same_writes passes.writes earlier ws passes.appended made now in
    pages_are_apart syncs (length earlier) d ws false (λ k. stage m done (passes.steps k))
    (λ k. subst (λ (xs : List DiskWrite). HasShapesOf (crash_state d xs k) (stage m done (passes.steps k))) same (reveals_shapes (crash_state d passes.writes k) (stage m done (passes.steps k)) (passes.reveals d k revealed)))
    (λ k w here. permitted d k w revealed here) (λ k w here. no_label w (pages earlier ws made now k w here)))
  where
    no_label : (w : DiskWrite) → is_page_write w ≡ true → gives_label w ≡ false
    no_label (Whole sector label page) is = sym is
    no_label (LabelOnly sector label) is = sym is
    no_label (Page sector wanted page) is = refl

-- A call that leads over machines with the same settled files.
module _ (m : Machine) (done : Call) {a c : DiskState} (passes : Passes m done a c) where
  abbrev place : ℕ → Machine
  place k = stage m done (passes.steps k)

  reveals_at : (d : List Sector) → a.contents ≡ Some d → (k : ℕ) → HasShapesOf (crash_state d passes.writes k) (place k)
  reveals_at d revealed k = reveals_shapes (crash_state d passes.writes k) (place k) (passes.reveals d k revealed)

  pub passes_keep : ((i j : ℕ) → KeepsShapes (stage m done i) (stage m done j)) → ChangesApart false a c
  passes_keep keeps = by_writes false passes.writes passes.appended (λ d earlier before syncs revealed made now had have.
      keeps_apart syncs (length earlier) d passes.writes false place (reveals_at d revealed) (λ k. keeps (passes.steps k) (passes.steps (suc k))))

  module _ (ws : List DiskWrite) (appended : Appended ws a c) (permitted : (d : List Sector) (k : ℕ) (w : DiskWrite) → a.contents ≡ Some d → slice_get ws k ≡ Some w → Permitted (crash_state d ws k) w) where
    may : (d : List Sector) (earlier : List DiskWrite) → a.contents ≡ Some d → a.writes ≡ Some earlier → c.writes ≡ Some (earlier ++ passes.writes)
        → (k : ℕ) (w : DiskWrite) → slice_get passes.writes k ≡ Some w → Permitted (crash_state d passes.writes k) w
    may d earlier revealed made now =
        let same : ws ≡ passes.writes = same_writes ws earlier passes.writes appended made now in
        subst (λ (xs : List DiskWrite). (k : ℕ) (w : DiskWrite) → slice_get xs k ≡ Some w → Permitted (crash_state d xs k) w) same (λ k w here. permitted d k w revealed here)

    -- one file appears, goes or gets a mark
    pub passes_mark : (failed : Bool) (id : ℕ) → ((i j : ℕ) → i ≤ j → ChangesMarks id (stage m done i) (stage m done j)) → SyncsAround failed a c → ChangesApart failed a c
    passes_mark failed id marks around = by_writes failed passes.writes passes.appended (λ d earlier before syncs revealed made now had have.
        marks_are_apart syncs (length earlier) d passes.writes failed place (reveals_at d revealed) (may d earlier revealed made now) id
        (λ k. marks (passes.steps k) (passes.steps (suc k)) (passes.rise k (suc k) (omega arith))) (around.around d earlier passes.writes before syncs revealed made now had have))

    -- one gets another size
    pub passes_size : (id : ℕ) → ((i : ℕ) → Resizes id m (stage m done i)) → ((b : BareFile) → settled_shape m id ≡ Some b → LabelsAfterSync a c) → ChangesApart false a c
    passes_size id sizes after = by_writes false passes.writes passes.appended (λ d earlier before syncs revealed made now had have.
        sizes_are_apart syncs (length earlier) d passes.writes false place (reveals_at d revealed) (may d earlier revealed made now) id m
        (λ k. sizes (passes.steps k)) (λ b is k w here gives.
        let label = (after b is).after earlier passes.writes before syncs made now had have k w here (no_page w gives) in
        (label.0, label.1, label.2, label.3 d revealed)))
      where
        no_page : (w : DiskWrite) → gives_label w ≡ true → is_page_write w ≡ false
        no_page (Whole sector label page) is = refl
        no_page (LabelOnly sector label) is = refl
        no_page (Page sector wanted page) is = sym is

-- a settled file is one of the machine's, and permanent
pub settled_is_there : (m : Machine) → IsMachine m → (id : ℕ) (b : BareFile) → settled_shape m id ≡ Some b → (f : File) × (file_at m.files id ≡ Some f) × (f.permanent ≡ true)
settled_is_there m h id b is = by (file_at m.files id) refl (sym (shape_at m h.ids_rise id) ∙ is)
  where
    mark : (f : File) (x : Bool) → f.permanent ≡ x → option_map bare_file (if x then Some f else None) ≡ Some b → f.permanent ≡ true
    mark f true marked is = marked
    mark f false marked is = absurd (none-some b is)

    by : (o : Option File) → file_at m.files id ≡ o → permanent_shape (file_at m.files id) ≡ Some b → (f : File) × (file_at m.files id ≡ Some f) × (f.permanent ≡ true)
    by None found shape = absurd (none-some b (sym (ap permanent_shape found) ∙ shape))
    by (Some f) found shape = (f, found, mark f f.permanent refl (sym (ap permanent_shape found) ∙ shape))
