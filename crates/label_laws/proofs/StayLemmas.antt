-- Runs of label writes that keep the permanent files.
use Rattle.std.proofs.Common.{◌≡◌, ◌≢◌, ⊎_elim, ℕ, zero, suc, ◌+◌, ◌<◌, ◌≤◌, false, ◌&&◌, ◌||◌, List, [], ◌∷◌, length, Some, None, refl, sym, ◌∙◌, ap, subst, arith, eqb, length-set}
use Rattle.std.specs.Prelude.{slice_set}
use Rattle.std.specs.List.{AllByRecursion}
use Rattle.std.proofs.lemmas.Bool.{and_left, and_right, cases_eq}
use Rattle.labelled_disk.specs.declared.label.Label.{Label}
use Rattle.labelled_disk.specs.declared.disk.DiskWrite.TheVariants.{Whole}
use Rattle.labelled_disk.specs.Label.{is_file, is_permanent, leader_page, page_label}
use Rattle.labelled_disk.specs.Sectors.{Sector}
use Rattle.labelled_disk.specs.CrashState.{crash_state}
use Rattle.labelled_disk.specs.Layout.{first_data}
use Rattle.labelled_disk.specs.File.{File, file_at}
use Rattle.labelled_disk.specs.FilesOn.{disk_file, files_among}
use Rattle.labelled_disk.specs.Root.{IsRoot, LabelsRight, number_at, serial_of, counter_of}
use Rattle.labelled_disk.specs.RootLaws.{StaysRight}
use Rattle.labelled_disk.specs.Runs.{growth, creation, sector_of, AreUnused}
use Rattle.labelled_disk.specs.WriteLaws.{HasData, Changed}
use Rattle.labelled_disk.proofs.Finds.{get_set_other}
use Rattle.labelled_disk.proofs.AscendingLemmas.{same_by_look_up}
use Rattle.labelled_disk.proofs.RootLemmas.{root_written}
use Rattle.labelled_disk.proofs.RunLemmas as run
use Rattle.labelled_disk.proofs.WriteLemmas as laws
use Rattle.label_laws.specs.Unseen.{IsOfNoOther}
use Rattle.label_laws.specs.StayLaws.{StayLaws}
use Rattle.label_laws.proofs.FileLemmas.{reserved_have_none}
use Rattle.label_laws.proofs.NeededLemmas.{freed_crash_states, freed_stay_right}
use Rattle.label_laws.proofs.UnseenLemmas.{unseen_crash_states, unseen_orders}

-- the data is another than sector 0
above_root : (d : List Sector) (i : ℕ) (s : Sector) → HasData d i s → i ≢ 0
above_root d i s there e = let low = laws.first_positive false 0 0 (length d) in let after = there.is_data in omega (arith, low, after, e)

unused_under : (d : List Sector) (t : Sector) (is : List ℕ) → AreUnused d is → AreUnused (slice_set d 0 t) is
unused_under d t [] unused = tt
unused_under d t (i ∷ is) unused = (
  record {
    s = unused.0.s;
    there = record {
      is_data = subst (λ (n : ℕ). first_data n ≤ i) (sym (length-set d 0 t)) unused.0.there.is_data;
      here = get_set_other d 0 i t (above_root d i unused.0.s unused.0.there) ∙ unused.0.there.here;
    };
    unused = unused.0.unused;
  },
  unused.1,
  unused_under d t is unused.2,
)

grown_data : (d : List Sector) (id kind page : ℕ) (is : List ℕ) → AreUnused d is → AllByRecursion (λ one. first_data (length d) ≤ sector_of one) (growth id kind page is)
grown_data d id kind page [] unused = tt
grown_data d id kind page (i ∷ is) unused = (unused.0.there.is_data, grown_data d id kind (page + 1) is unused.2)

own_data : (d : List Sector) (id kind page : ℕ) (is : List ℕ) → AllByRecursion (IsOfNoOther id d) is → AllByRecursion (λ one. first_data (length d) ≤ sector_of one) (growth id kind page is)
own_data d id kind page [] own = tt
own_data d id kind page (i ∷ is) own = (own.0.1.is_data, own_data d id kind (page + 1) is own.1)

-- a file that is not there, before and after
files_stay : (serial counter : ℕ) (d e : List Sector) (id : ℕ) → disk_file false d id ≡ None → Changed false serial counter d e id None → files_among false e ≡ files_among false d
files_stay serial counter d e id none change =
    same_by_look_up (files_among false e) (files_among false d) (laws.files_on_rise false 0 0 e) (laws.files_on_rise false 0 0 d)
    (λ i. laws.look_up false 0 0 e i ∙ ⊎_elim
    (λ (q : i ≡ id). ap (disk_file false e) q ∙ change.file ∙ sym (ap (disk_file false d) q ∙ none))
    (λ (q : i ≢ id). change.others i q)
    (cases_eq i id) ∙ sym (laws.look_up false 0 0 d i))

created_stay : (d : List Sector) (id kind leader : ℕ) (is : List ℕ) → LabelsRight d → disk_file false d id ≡ None → AreUnused d (leader ∷ is) → length is < leader_page
    → (k : ℕ) → k ≤ suc (length is) → StaysRight false d (crash_state d (creation id kind leader is) k)
created_stay d id kind leader is right none unused few k low =
    let change = run.creation_unseen false (serial_of d) (counter_of d) d id kind leader is right.files none
    (and_left (is_file (page_label id kind leader_page) && eqb leader_page leader_page && (false || is_permanent (page_label id kind leader_page))) (eqb id id)
    (and_right (is_file (page_label id kind leader_page) && eqb leader_page leader_page) (false || is_permanent (page_label id kind leader_page)) refl))
    unused few k low in
    record {
      files = files_stay (serial_of d) (counter_of d) d (crash_state d (creation id kind leader is) k) id none change;
      right = run.data_runs false d (creation id kind leader is) k right (unused.0.there.is_data, grown_data d id kind 0 is unused.2) change.right;
    }

stay_then : (d e g : List Sector) → StaysRight false d e → StaysRight false e g → StaysRight false d g
stay_then d e g one more = record { files = more.files ∙ one.files; right = more.right }

root_then_created : (d : List Sector) (label : Label) (page : List ℕ) (id kind leader : ℕ) (is : List ℕ) → LabelsRight d → IsRoot (length d) (Some (label, page)) → number_at page 16 ≡ serial_of d → counter_of d ≤ number_at page 20
    → disk_file false d id ≡ None → AreUnused d (leader ∷ is) → length is < leader_page
    → (k : ℕ) → k ≤ suc (suc (length is)) → StaysRight false d (crash_state d (Whole 0 label page ∷ creation id kind leader is) k)
root_then_created d label page id kind leader is right valid serials counters none unused few zero low = record { files = refl; right = right }
root_then_created d label page id kind leader is right valid serials counters none unused few (suc k) low =
    let first = root_written false d (label, page) right valid serials counters in
    stay_then d (slice_set d 0 (label, page)) (crash_state (slice_set d 0 (label, page)) (creation id kind leader is) k) first
    (created_stay (slice_set d 0 (label, page)) id kind leader is first.right
    (sym (laws.look_up false 0 0 (slice_set d 0 (label, page)) id) ∙ ap (λ (l : List File). file_at l id) first.files ∙ laws.look_up false 0 0 d id ∙ none)
    (unused_under d (label, page) (leader ∷ is) unused) few k (omega (arith, low)))

pub stay_laws : StayLaws
stay_laws = record {
  created = root_then_created;
  freed = λ d is right all k. record { files = (freed_crash_states false d is all k).files; right = (freed_stay_right false).volume d is all right k };
  tables = λ d page is right own few k.
      let kept = unseen_crash_states false 3 (serial_of d) (counter_of d) d (growth 3 0 page is) right.files (reserved_have_none false d 3 refl) ((unseen_orders false 3).grown d 0 page is own few) k in
      record { files = kept.files; right = run.data_runs false d (growth 3 0 page is) k right (own_data d 3 0 page is own) kept.right };
}
