-- What a stop among the writes of a close leaves.
use Rattle.std.proofs.Common.{◌≡◌, ◌≢◌, inl, inr, ℕ, zero, suc, ◌+◌, ◌-◌, ◌≤◌, Bool, true, false, not, List, [], ◌∷◌, ◌++◌, filter, length, Option, Some, None, refl, sym, ◌∙◌, ap, subst, arith}
use Rattle.std.specs.Prelude.{slice_get, slice_set, option_map, map, if◌then◌else◌}
use Rattle.std.specs.Option.{option_map_or}
use Rattle.std.proofs.lemmas.Bool.{cases_lt}
use Rattle.std.proofs.lemmas.Option.{same_Some, none-some}
use Rattle.labelled_disk.specs.declared.disk.DiskWrite.{DiskWrite}
use Rattle.labelled_disk.specs.declared.disk.DiskWrite.TheVariants as write
use Rattle.labelled_disk.specs.Calls.{RevealsSame}
use Rattle.labelled_disk.specs.File.{File, file_at}
use Rattle.labelled_disk.specs.FilesOn.{files_on}
use Rattle.labelled_disk.specs.Label.{names}
use Rattle.labelled_disk.specs.Permitted.{Permitted}
use Rattle.labelled_disk.specs.CrashState.{crash_state, written}
use Rattle.labelled_disk.specs.Root.{number_at, root_page, short_at, page_in, LabelsRight}
use Rattle.labelled_disk.specs.RootLaws.{StaysRight}
use Rattle.labelled_disk.specs.Runs.{freeing}
use Rattle.labelled_disk.specs.Sectors.{Sector}
use Rattle.labelled_disk.specs.State.{DiskState}
use Rattle.labelled_disk.specs.WriteRuns.{after_writes}
use Rattle.labelled_disk.proofs.Finds.{get_set_other}
use Rattle.labelled_disk.proofs.WriteLemmas.{first_positive}
use Rattle.labelled_disk.proofs.WriteRunLemmas.{appended_then, appended_no_more, crash_state-earlier, crash_state-end, crash_state-later}
use Rattle.label_laws.specs.MixedVolumes.{label_count}
use Rattle.frame_pool.specs.Frames.{Slots}
use Rattle.flat_machine.specs.Settled.{Agrees, settled, settled_file}
use Rattle.flat_machine.specs.Machine.{Machine}
use Rattle.flat_machine.specs.Space.{root}
use Rattle.flat_machine.specs.Next.{without_file}
use Rattle.swapper_kernel.specs.GoesLaws.{makes_then}
use Rattle.swapper_kernel.specs.Goes.{Makes, Wrote, is_page_write}
use Rattle.session_words.specs.Parts.{TablesMeaning, Shape, shapes_of}
use Rattle.session_words.specs.RunStops.{deleted_after}
use Rattle.session_words.specs.StandsFor.{StandsFor, RevealsSettled}
use Rattle.session_words.specs.Volume.{volume_page}
use Rattle.session_words.proofs.LooseLemmas.{stands_is_settled}
use Rattle.session_words.proofs.RunStopLemmas.{run_stops}
use Rattle.session_words.proofs.SettledLemmas.{settled_is_revealed}
use Rattle.file_manager.specs.declared.attributes.Attributes.{Attributes}
use Rattle.file_manager.specs.Attributes.{IsAttributesOf}
use Rattle.file_manager.specs.Deleting.{AreOfDeleted, DeletesFirst}
use Rattle.pilot_engine.specs.Closing.{IsOpenStop, IsStop, Sheds, Throughout}
use Rattle.pilot_engine.proofs.CallLemmas.{file_revealed}
use Rattle.pilot_engine.proofs.AloneLemmas.{delete_alone}
use Rattle.pilot_engine.proofs.ShedLemmas.{sheds_deleted}
use Rattle.running_words.specs.Session.{AreInForm}
use Rattle.running_words.proofs.StageLemmas.{begun, same_labels}

-- Writes in a row.

module _ (P : List Sector → Type 0) where
  -- the last crash state
  pub ends : {a b : DiskState} → Throughout P a b → (e : List Sector) → b.contents ≡ Some e → P e
  ends {a = a} h e revealed = from a.contents refl
    where
      from : (o : Option (List Sector)) → a.contents ≡ o → P e
      from None is = absurd (none-some e (sym (h.appended.contents ∙ ap (option_map (after_writes h.writes)) is) ∙ revealed))
      from (Some d) is =
          let last : after_writes h.writes d ≡ e = same_Some (after_writes h.writes d) e (sym (h.appended.contents ∙ ap (option_map (after_writes h.writes)) is) ∙ revealed) in
          subst P (crash_state-end d h.writes ∙ last) (h.each d (length h.writes) is)

  pub throughout_then : {a b c : DiskState} → Throughout P a b → Throughout P b c → Throughout P a c
  throughout_then {a = a} h k = record {
    writes = h.writes ++ k.writes;
    appended = appended_then h.writes k.writes h.appended k.appended;
    each = λ d j revealed. elim (cases_lt (length h.writes) j) [
      | inl past ↦
          let at : j ≡ length h.writes + (j - length h.writes) = omega (arith, past) in
          subst P (sym (ap (crash_state d (h.writes ++ k.writes)) at ∙ crash_state-later d h.writes k.writes (j - length h.writes)))
          (k.each (after_writes h.writes d) (j - length h.writes) (h.appended.contents ∙ ap (option_map (after_writes h.writes)) revealed))
      | inr few ↦ subst P (sym (crash_state-earlier d h.writes k.writes j few)) (h.each d j revealed)
    ];
  }

  -- and then nothing is written
  pub throughout_still : {a b c : DiskState} → Throughout P a b → RevealsSame b c → Throughout P a c
  throughout_still h same = record { writes = h.writes; appended = appended_no_more h.writes h.appended same; each = h.each }

-- more is said
pub throughout_less : (P Q : List Sector → Type 0) {a b : DiskState} → ((d : List Sector) → P d → Q d) → Throughout P a b → Throughout Q a b
throughout_less P Q less h = record { writes = h.writes; appended = h.appended; each = λ d k revealed. less _ (h.each d k revealed) }

-- The root stays.

-- none of the writes sets label and page at once
abbrev pub NoWhole : List DiskWrite → Type 0
NoWhole [] = Unit {0}
NoWhole (write.Whole sector label page ∷ ws) = ⊥
NoWhole (write.LabelOnly sector label ∷ ws) = NoWhole ws
NoWhole (write.Page sector wanted page ∷ ws) = NoWhole ws

by_labels : (ws : List DiskWrite) → NoWhole (filter (λ w. not (is_page_write w)) ws) → NoWhole ws
by_labels [] none = tt
by_labels (write.Whole sector label page ∷ ws) none = none
by_labels (write.LabelOnly sector label ∷ ws) none = by_labels ws none
by_labels (write.Page sector wanted page ∷ ws) none = by_labels ws none

pub freeing_none : (is : List ℕ) → NoWhole (freeing is)
freeing_none [] = tt
freeing_none (i ∷ is) = freeing_none is

past_root : (d : List Sector) (sector : ℕ) (t : Sector → Sector) → sector ≢ 0 → (o : Option Sector) → slice_get (option_map_or (λ old. slice_set d sector (t old)) o d) 0 ≡ slice_get d 0
past_root d sector t above None = refl
past_root d sector t above (Some old) = get_set_other d sector 0 (t old) (λ e. above (sym e))

past_page : (d : List Sector) (sector : ℕ) (t : Sector → Sector) (f : Sector → Bool) → sector ≢ 0 → (o : Option Sector) → slice_get (option_map_or (λ old. if f old then slice_set d sector (t old) else d) o d) 0 ≡ slice_get d 0
past_page d sector t f above None = refl
past_page d sector t f above (Some old) = by (f old)
  where
    by : (b : Bool) → slice_get (if b then slice_set d sector (t old) else d) 0 ≡ slice_get d 0
    by true = get_set_other d sector 0 (t old) (λ e. above (sym e))
    by false = refl

root_stays : (ws : List DiskWrite) (d : List Sector) (k : ℕ) → NoWhole ws → ((j : ℕ) (w : DiskWrite) → slice_get ws j ≡ Some w → Permitted (crash_state d ws j) w) → slice_get (crash_state d ws k) 0 ≡ slice_get d 0
root_stays [] d zero none permitted = refl
root_stays [] d (suc k) none permitted = refl
root_stays (w ∷ ws) d zero none permitted = refl
root_stays (write.Whole sector label page ∷ ws) d (suc k) none permitted = absurd none
root_stays (write.LabelOnly sector label ∷ ws) d (suc k) none permitted =
    root_stays ws (written (write.LabelOnly sector label) d) k none (λ j v at. permitted (suc j) v at)
    ∙ past_root d sector (λ old. (label, old.1))
    (λ z. let at = (permitted 0 (write.LabelOnly sector label) refl).old.1.is_data in let positive = first_positive false 0 0 (length d) in omega (arith, z, at, positive)) (slice_get d sector)
root_stays (write.Page sector wanted page ∷ ws) d (suc k) none permitted =
    root_stays ws (written (write.Page sector wanted page) d) k none (λ j v at. permitted (suc j) v at)
    ∙ past_page d sector (λ old. (old.0, page)) (λ old. names old.0 wanted) (λ z. let at = (permitted 0 (write.Page sector wanted page) refl).not_root in omega (arith, z, at)) (slice_get d sector)

-- its page is that of before
pub root_kept : {run : List DiskWrite} {old new : DiskState} {before : Slots} (wrote : Wrote volume_page run old before new) → NoWhole run → (d : List Sector) (k : ℕ) → old.contents ≡ Some d
    → root_page (crash_state d wrote.writes k) ≡ root_page d
root_kept wrote none d k revealed = ap page_in (root_stays wrote.writes d k (by_labels wrote.writes (subst NoWhole (sym wrote.labels) none)) (λ j w at. wrote.permitted d j w revealed at))

pub flag_stays : {run : List DiskWrite} {old new : DiskState} {before : Slots} (wrote : Wrote volume_page run old before new) → NoWhole run → (d : List Sector) (k : ℕ) → old.contents ≡ Some d → short_at (root_page d) 10 ≡ 0
    → short_at (root_page (crash_state d wrote.writes k)) 10 ≡ 0
flag_stays wrote none d k revealed open_flag = ap (λ (page : List ℕ). short_at page 10) (root_kept wrote none d k revealed) ∙ open_flag

-- as are its numbers
pub number_stays : {run : List DiskWrite} {old new : DiskState} {before : Slots} (wrote : Wrote volume_page run old before new) → NoWhole run → (d : List Sector) (k : ℕ) → old.contents ≡ Some d → (place number : ℕ)
    → number_at (root_page d) place ≡ number → number_at (root_page (crash_state d wrote.writes k)) place ≡ number
number_stays wrote none d k revealed place number is = ap (λ (page : List ℕ). number_at page place) (root_kept wrote none d k revealed) ∙ is

-- The settled files of a machine.

pub settled_alike : (m n : Machine) → Sheds m n → settled n ≡ settled m
settled_alike m n h = ap settled h.rest ∙ ap (λ (fs : List File). map (settled_file m.unforced) fs) h.permanent

pub stop_less : (m n : Machine) → Sheds m n → (d : List Sector) → IsOpenStop n d → IsOpenStop m d
stop_less m n h d stop = record {
  revealed = record { agrees = subst (Agrees (files_on d)) (settled_alike m n h) stop.revealed.agrees; right = stop.revealed.right };
  same_serial = stop.same_serial ∙ ap (λ (x : Machine). x.serial) h.rest;
  same_counter = stop.same_counter ∙ ap (λ (x : Machine). x.counter) h.rest;
  open_flag = stop.open_flag;
}

pub open_is_stop : (m : Machine) (d : List Sector) → IsOpenStop m d → IsStop m d
open_is_stop m d stop = record {
  revealed = stop.revealed;
  same_serial = stop.same_serial;
  same_counter = stop.same_counter;
  honest = λ set. absurd (let unset = stop.open_flag in omega (arith, set, unset));
}

module _ (spaces_of : TablesMeaning) (old new : DiskState) (before after : Slots) (m : Machine) (stands : StandsFor spaces_of old before m) (form : AreInForm old) where
  -- label writes, in each crash state of which the settled files are revealed
  pub stops_by : (run : List DiskWrite) → NoWhole run → (makes : Makes volume_page run old before new after)
      → ((d : List Sector) (k : ℕ) → old.contents ≡ Some d → RevealsSettled (crash_state d makes.wrote.writes k) m) → Throughout (IsOpenStop m) old new
  stops_by run none makes reveals = record {
    writes = makes.wrote.writes;
    appended = makes.wrote.appended;
    each = λ d k revealed.
        let root = (stands_is_settled spaces_of old before m d stands revealed (form d revealed)).root in
        record {
          revealed = reveals d k revealed;
          same_serial = number_stays makes.wrote none d k revealed 16 m.serial root.has_serial;
          same_counter = number_stays makes.wrote none d k revealed 20 m.counter root.has_counter;
          open_flag = flag_stays makes.wrote none d k revealed root.open_flag;
        };
  }

  -- none
  pub stops_quiet : Makes volume_page [] old before new after → Throughout (IsOpenStop m) old new
  stops_quiet makes = stops_by [] tt makes (λ d k revealed.
      let b = begun spaces_of old before m d stands revealed (form d revealed) in
      run_stops.quiet_stops m [] old new before d makes.wrote b (λ j few. still d j few (settled_is_revealed d m b.settled_disk).right) k)
    where
      still : (d : List Sector) (j : ℕ) → j ≤ 0 → LabelsRight d → StaysRight false d (crash_state d [] j)
      still d zero few right = record { files = refl; right = right }
      still d (suc j) few right = absurd (omega (arith, few))

  -- those of a temporary file
  pub stops_deleting : (id leader : ℕ) (f : File) (is : List ℕ) → file_at m.files id ≡ Some f → Sheds m (record m { files = without_file id m.files }) → AreOfDeleted id stands.memory leader is
      → Makes volume_page (freeing (leader ∷ is)) old before new after → Throughout (IsOpenStop m) old new
  stops_deleting id leader f is found sheds are makes = stops_by (freeing (leader ∷ is)) (freeing_none (leader ∷ is)) makes (λ d k revealed.
      let facts = are d (same_labels old before stands.memory d stands.stands revealed) in
      alike (crash_state d makes.wrote.writes k) (label_count makes.wrote.writes k)
      (run_stops.deletion_stops m id leader f is old new before d makes.wrote (begun spaces_of old before m d stands revealed (form d revealed)) found facts.0 facts.1 k))
    where
      alike : (e : List Sector) (k : ℕ) → RevealsSettled e (deleted_after id k m) → RevealsSettled e m
      alike e zero revealed = revealed
      alike e (suc k) revealed = record { agrees = subst (Agrees (files_on e)) (settled_alike m (record m { files = without_file id m.files }) sheds) revealed.agrees; right = revealed.right }

  -- after a look at the file
  pub stops_deleted : (mid : DiskState) (between : Slots) (id : ℕ) (a : Attributes) → m.spaces ≡ root ∷ [] → IsAttributesOf (shapes_of m.files id) (Some a) → a.permanent ≡ false → Makes volume_page [] old before mid between
      → DeletesFirst id stands.memory mid between new after → Throughout (IsOpenStop m) old new
  stops_deleted mid between id a alone revealed temporary look (inl none) = stops_quiet (makes_then look none)
  stops_deleted mid between id a alone revealed temporary look (inr some) =
      let f = file_revealed m id a revealed in
      let mark : f.0.permanent ≡ false = ap (λ (w : Shape). w.permanent) f.2 ∙ temporary in
      stops_deleting id some.leader f.0 some.sectors f.1 (sheds_deleted m id f.0 stands.is.by.machine (delete_alone m alone id f.0 f.1) f.1 mark) some.stops (makes_then look some.makes)
