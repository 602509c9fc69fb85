-- Writes of a file that does not count.
use Rattle.std.proofs.Common.{◌≡◌, ◌⊎◌, inl, inr, ℕ, zero, suc, ◌+◌, ◌-◌, ◌≤◌, ◌≢◌, Bool, true, false, ◌&&◌, ◌||◌, List, [], ◌∷◌, length, Option, Some, None, refl, sym, ◌∙◌, ap, subst, arith, eqb, length-set}
use Rattle.std.specs.Prelude.{slice_get, slice_set, if◌then◌else◌}
use Rattle.std.specs.Option.{option_map_or}
use Rattle.std.specs.List.{AllByRecursion}
use Rattle.std.proofs.lemmas.Bool.{cases_eq, and_left, and_right}
use Rattle.std.proofs.lemmas.Option.{slice_get_within}
use Rattle.labelled_disk.specs.declared.disk.DiskWrite.{DiskWrite}
use Rattle.labelled_disk.specs.declared.disk.DiskWrite.TheVariants.{Whole, LabelOnly, Page}
use Rattle.labelled_disk.specs.Label.{is_file, is_permanent, names, leader_page, page_label}
use Rattle.labelled_disk.specs.Sectors.{Sector, free_label}
use Rattle.labelled_disk.specs.CrashState.{written}
use Rattle.labelled_disk.specs.Layout.{data_sectors, first_data}
use Rattle.labelled_disk.specs.File.{File, file_at}
use Rattle.labelled_disk.specs.FilesOn.{leads_file, disk_file}
use Rattle.labelled_disk.specs.Right.{FilesRight}
use Rattle.labelled_disk.specs.Runs.{zero_bytes, growth, freeing}
use Rattle.labelled_disk.specs.WriteLaws.{HasData, IsOnlyOf, Kept}
use Rattle.labelled_disk.proofs.Finds.{none_passes, get_set_same, get_set_other}
use Rattle.labelled_disk.proofs.SectorWrites as w
use Rattle.labelled_disk.proofs.WriteLemmas as laws
use Rattle.labelled_disk.proofs.RootLemmas.{only_self}
use Rattle.label_laws.specs.Unseen.{IsOfNoOther, IsUnseen, AreUnseen, UnseenAppended, UnseenCrashStates, UnseenOrders, UnseenCreation}
use Rattle.label_laws.proofs.FileLemmas.{label_written, page_written}

pub unseen_append : (with_temporary : Bool) (id : ℕ) → UnseenAppended with_temporary id
unseen_append with_temporary id d [] next one more = more
unseen_append with_temporary id d (write ∷ first) next one more = (one.0, unseen_append with_temporary id (written write d) first next one.1 more)

module _ (with_temporary : Bool) (id serial counter : ℕ) where
  kept_same : (d : List Sector) → FilesRight with_temporary serial counter d → Kept with_temporary serial counter d d
  kept_same d right = record { files = refl; right = right }

  -- where the files are the same, there still is none
  still_none : (d e : List Sector) → Kept with_temporary serial counter d e → disk_file with_temporary d id ≡ None → disk_file with_temporary e id ≡ None
  still_none d e kept none =
      sym (laws.look_up with_temporary serial counter e id) ∙ ap (λ (l : List File). file_at l id) kept.files ∙ laws.look_up with_temporary serial counter d id ∙ none

  pub unseen_one : (d : List Sector) (one : DiskWrite) → FilesRight with_temporary serial counter d → disk_file with_temporary d id ≡ None → IsUnseen with_temporary id d one → Kept with_temporary serial counter d (written one d)
  unseen_one d (Whole i label page) right none is =
      laws.temporary_written with_temporary serial counter d i is.old.0 (label, page) id right is.old.1 is.old.2 (is.new page) none (is.leads_none page)
  unseen_one d (LabelOnly i label) right none is =
      let s : Sector = is.old.0 in
      subst (λ (e : List Sector). Kept with_temporary serial counter d e) (sym (label_written d i s label is.old.1.here))
      (laws.temporary_written with_temporary serial counter d i s (label, s.1) id right is.old.1 is.old.2 (is.new s.1) none (is.leads_none s.1))
  unseen_one d (Page i wanted page) right none (inl low) = either (slice_get d i)
    where
      choice : (b : Bool) (s : Sector) → Kept with_temporary serial counter d (if b then slice_set d i (s.0, page) else d)
      choice true s = laws.low_written with_temporary serial counter d i (s.0, page) right low
      choice false s = kept_same d right

      either : (o : Option Sector) → Kept with_temporary serial counter d (option_map_or (λ old. if names old.0 wanted then slice_set d i (old.0, page) else d) o d)
      either None = kept_same d right
      either (Some s) = choice (names s.0 wanted) s
  unseen_one d (Page i wanted page) right none (inr own) =
      let s : Sector = own.0 in
      subst (λ (e : List Sector). Kept with_temporary serial counter d e) (sym (page_written d i s wanted page own.1.here)) (choice (names s.0 wanted))
    where
      hidden : leads_file with_temporary id own.0 ≡ false
      hidden = none_passes (leads_file with_temporary id) (data_sectors d) (w.none_leads with_temporary (data_sectors d) id none) (i - first_data (length d)) own.0 (laws.data_get with_temporary serial counter d i own.0 own.1.is_data own.1.here)

      choice : (b : Bool) → Kept with_temporary serial counter d (if b then slice_set d i (own.0.0, page) else d)
      choice true = laws.temporary_written with_temporary serial counter d i own.0 (own.0.0, page) id right own.1 own.2 own.2 none hidden
      choice false = kept_same d right

  pub unseen_crash_states : UnseenCrashStates with_temporary id serial counter
  unseen_crash_states d writes right none are zero = kept_same d right
  unseen_crash_states d [] right none are (suc k) = kept_same d right
  unseen_crash_states d (one ∷ writes) right none are (suc k) =
      let first = unseen_one d one right none are.0 in
      let rest = unseen_crash_states (written one d) writes first.right (still_none d (written one d) first none) are.1 k in
      record { files = rest.files ∙ first.files; right = rest.right }

-- The orders of a file that does not count.

-- sectors of the file or of none, after one got a label that is so too
own_still : (id : ℕ) (d : List Sector) (i : ℕ) (s t : Sector) (is : List ℕ) → HasData d i s → IsOnlyOf id t → AllByRecursion (IsOfNoOther id d) is → AllByRecursion (IsOfNoOther id (slice_set d i t)) is
own_still id d i s t [] holds only own = tt
own_still id d i s t (j ∷ js) holds only own = (one (cases_eq j i), own_still id d i s t js holds only own.1)
  where
    one : (j ≡ i) ⊎ (j ≢ i) → IsOfNoOther id (slice_set d i t) j
    one (inl e) = subst (IsOfNoOther id (slice_set d i t)) (sym e) (
      t,
      record { is_data = subst (λ (n : ℕ). first_data n ≤ i) (sym (length-set d i t)) holds.is_data; here = get_set_same d i t (slice_get_within d i s holds.here) },
      only,
    )
    one (inr apart) = (
      own.0.0,
      record { is_data = subst (λ (n : ℕ). first_data n ≤ j) (sym (length-set d i t)) own.0.1.is_data; here = get_set_other d i j t apart ∙ own.0.1.here },
      own.0.2,
    )

module _ (with_temporary : Bool) (id : ℕ) where
  free_only : (page : List ℕ) → IsOnlyOf id (free_label, page)
  free_only page = laws.only_none with_temporary 0 0 id (free_label, page) refl

  freed_unseen : (d : List Sector) (is : List ℕ) → AllByRecursion (IsOfNoOther id d) is → AreUnseen with_temporary id d (freeing is)
  freed_unseen d [] own = tt
  freed_unseen d (i ∷ is) own =
      let s : Sector = own.0.0 in (
        record { old = own.0; new = free_only; leads_none = λ page. w.not_of-not_leader with_temporary id (free_label, page) (and_left (is_file free_label) (eqb free_label.id id) refl) },
        subst (λ (e : List Sector). AreUnseen with_temporary id e (freeing is)) (sym (label_written d i s free_label own.0.1.here))
            (freed_unseen (slice_set d i (free_label, s.1)) is (own_still id d i s (free_label, s.1) is own.0.1 (free_only s.1) own.1)),
      )

  grown_unseen : (d : List Sector) (kind page : ℕ) (is : List ℕ) → AllByRecursion (IsOfNoOther id d) is → page + length is ≤ leader_page → AreUnseen with_temporary id d (growth id kind page is)
  grown_unseen d kind page [] own few = tt
  grown_unseen d kind page (i ∷ is) own few =
      let t : Sector = (page_label id kind page, zero_bytes) in (
        record {
          old = own.0;
          new = λ bytes. only_self (page_label id kind page, bytes) id refl;
          leads_none = λ bytes. w.other_than_leader with_temporary id (page_label id kind page, bytes) (λ e. omega (arith, e, few));
        },
        grown_unseen (slice_set d i t) kind (page + 1) is (own_still id d i own.0.0 t is own.0.1 (only_self t id refl) own.1) (omega (arith, few)),
      )

  pub unseen_orders : UnseenOrders with_temporary id
  unseen_orders = record { freed = freed_unseen; grown = grown_unseen }

pub unseen_creation : (id : ℕ) → UnseenCreation id
unseen_creation id d kind leader is own owns few =
    let t : Sector = (page_label id kind leader_page, zero_bytes) in (
      record {
        old = own;
        new = λ bytes. only_self (page_label id kind leader_page, bytes) id refl;
        leads_none = λ bytes. and_left (is_file (page_label id kind leader_page) && eqb leader_page leader_page && (false || is_permanent (page_label id kind leader_page))) (eqb id id)
            (and_right (is_file (page_label id kind leader_page) && eqb leader_page leader_page) (false || is_permanent (page_label id kind leader_page)) refl);
      },
      grown_unseen false id (slice_set d leader t) kind 0 is (own_still id d leader own.0 t is own.1 (only_self t id refl) owns) (omega (arith, few)),
    )
