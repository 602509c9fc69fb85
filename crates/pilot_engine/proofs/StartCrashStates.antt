-- In each crash state of a start the permanent files are those of before, and all labels are right.
use Rattle.std.proofs.Common.{◌≡◌, ◌⊎◌, inl, inr, ℕ, zero, suc, ◌+◌, ◌<◌, ◌≤◌, ◌^◌, Bool, true, false, not, List, [], ◌∷◌, length, take, Some, refl, sym, ◌∙◌, ap, subst, arith, length-set, ◌&&◌}
use Rattle.std.specs.Prelude.{slice_set, filter, ◌==◌}
use Rattle.std.specs.List.{AllByRecursion}
use Rattle.std.proofs.lemmas.Bool.{true≢false, cases_eq}
use Rattle.labelled_disk.specs.declared.disk.DiskWrite.{DiskWrite}
use Rattle.labelled_disk.specs.declared.disk.DiskWrite.TheVariants.{Whole, LabelOnly, Page}
use Rattle.labelled_disk.specs.declared.label.Label.{Label}
use Rattle.labelled_disk.specs.Label.{is_free, root_label, page_label}
use Rattle.labelled_disk.specs.Permitted.{Permitted, IsNextLabel}
use Rattle.labelled_disk.specs.Layout.{first_data}
use Rattle.labelled_disk.specs.CrashState.{crash_state, written}
use Rattle.labelled_disk.specs.Root.{IsRoot, LabelsRight, number_at, root_page, serial_of, counter_of}
use Rattle.labelled_disk.specs.RootLaws.{StaysRight}
use Rattle.labelled_disk.specs.Runs.{growth, zero_bytes}
use Rattle.labelled_disk.specs.Sectors.{Sector}
use Rattle.labelled_disk.specs.State.{DiskState}
use Rattle.labelled_disk.specs.WriteLaws.{HasData}
use Rattle.labelled_disk.proofs.Finds.{get_set_other}
use Rattle.labelled_disk.proofs.RootLemmas.{root_written}
use Rattle.frame_pool.specs.Frames.{Slots}
use Rattle.swapper_kernel.specs.DiffersLaws.{same_length, other_sector}
use Rattle.swapper_kernel.specs.Goes.{is_page_write}
use Rattle.swapper_kernel.specs.Stands.{labels_of}
use Rattle.session_words.proofs.RunStopLemmas.{run_stops}
use Rattle.label_laws.specs.PermittedRuns.{ArePermitted}
use Rattle.label_laws.specs.Unseen.{IsOfNoOther}
use Rattle.label_laws.proofs.FileLemmas.{free_none}
use Rattle.label_laws.proofs.PermittedLemmas.{by_each}
use Rattle.label_laws.proofs.MixedLemmas.{labels_whole, labels_only, labels_page}
use Rattle.label_laws.proofs.StayLemmas.{stay_laws}
use Rattle.volume_root.specs.declared.root.Root.{Root}
use Rattle.volume_root.specs.RootPage.{IsValidRoot, root_write, root_bytes}
use Rattle.volume_root.proofs.WrittenLemmas.{is_root, serial_read, counter_read}
use Rattle.pilot_engine.specs.Opening.{in_use, IsBare, StartsSome, KeepsFiles}
use Rattle.running_words.specs.Session.{AreOpen}
use Rattle.pilot_engine.proofs.GrowthLemmas.{take_growth}
use Rattle.running_words.proofs.FlagLemmas.{growth_open, open_writes, opened_by, root_open, take_open}
use Rattle.running_words.proofs.RootLemmas.{RootsHave, growth_have, have_at, root_have, take_have}

-- a data sector of a disk with the same labels
data_alike : (d e : List Sector) → labels_of e ≡ labels_of d → (i : ℕ) (s : Sector) → HasData d i s → (t : Sector) × HasData e i t × (t.0 ≡ s.0)
data_alike d e same i s has =
    let t = other_sector e d (sym same) i s has.here in
    (t.0, record { is_data = subst (λ (n : ℕ). first_data n ≤ i) (sym (same_length d e same)) has.is_data; here = t.1 }, t.2)

-- a label write that is permitted is so on each disk with the same labels
permitted_alike : (d e : List Sector) → labels_of e ≡ labels_of d → (w : DiskWrite) → is_page_write w ≡ false → Permitted d w → Permitted e w
permitted_alike d e same (Whole sector label page) none (inl root) =
    inl (record { place = root.place; root_label = root.root_label; valid = subst (λ (n : ℕ). IsRoot n (Some (label, page))) (sym (same_length d e same)) root.valid })
permitted_alike d e same (Whole sector label page) none (inr fresh) =
    let t = data_alike d e same sector fresh.old.0 fresh.old.1 in
    inr (record { old = (t.0, t.1, ap is_free t.2 ∙ fresh.old.2); of_file = fresh.of_file; no_flags = fresh.no_flags; zero_page = fresh.zero_page })
permitted_alike d e same (LabelOnly sector label) none only =
    let t = data_alike d e same sector only.old.0 only.old.1 in
    record { old = (t.0, t.1, subst (λ (l : Label). (l.id ≡ 3) ⊎ (16 ≤ l.id)) (sym t.2) only.old.2, subst (λ (l : Label). IsNextLabel l label) (sym t.2) only.old.3) }
permitted_alike d e same (Page sector wanted page) none is = absurd (true≢false none)

-- and makes the same labels
labels_alike : (d e : List Sector) → labels_of e ≡ labels_of d → (w : DiskWrite) → is_page_write w ≡ false → labels_of (written w e) ≡ labels_of (written w d)
labels_alike d e same (Whole sector label page) none = labels_whole e sector label page ∙ ap (λ (ls : List Label). slice_set ls sector label) same ∙ sym (labels_whole d sector label page)
labels_alike d e same (LabelOnly sector label) none = labels_only e sector label ∙ ap (λ (ls : List Label). slice_set ls sector label) same ∙ sym (labels_only d sector label)
labels_alike d e same (Page sector wanted page) none = absurd (true≢false none)

-- of writes that are permitted in a row the label writes alone are so
label_row : (writes : List DiskWrite) (d e : List Sector) → labels_of e ≡ labels_of d → ArePermitted d writes → ArePermitted e (filter (λ w. not (is_page_write w)) writes)
label_row [] d e same permitted = tt
label_row (Whole sector label page ∷ writes) d e same permitted = (
  permitted_alike d e same (Whole sector label page) refl permitted.0,
  label_row writes (written (Whole sector label page) d) (written (Whole sector label page) e) (labels_alike d e same (Whole sector label page) refl) permitted.1,
)
label_row (LabelOnly sector label ∷ writes) d e same permitted = (
  permitted_alike d e same (LabelOnly sector label) refl permitted.0,
  label_row writes (written (LabelOnly sector label) d) (written (LabelOnly sector label) e) (labels_alike d e same (LabelOnly sector label) refl) permitted.1,
)
label_row (Page sector wanted page ∷ writes) d e same permitted =
    label_row writes (written (Page sector wanted page) d) e (same ∙ sym (labels_page d sector wanted page)) permitted.1

-- a free data sector is no file's
free_own : (d : List Sector) (i : ℕ) (s : Sector) → HasData d i s → is_free s.0 ≡ true → IsOfNoOther 3 d i
free_own d i s has free = (s, has, λ other apart. ap (λ (b : Bool). b && s.0.id == other) (free_none s.0 free))

-- a sector that was relabelled was free, so it is the space tables' own or none's
own_before : (d : List Sector) (i j : ℕ) (s t : Sector) → HasData d i s → is_free s.0 ≡ true → IsOfNoOther 3 (slice_set d i t) j → IsOfNoOther 3 d j
own_before d i j s t has free own = elim (cases_eq j i) [
  | inl here ↦ subst (IsOfNoOther 3 d) (sym here) (free_own d i s has free)
  | inr other ↦ (
    own.0,
    record {
      is_data = subst (λ (n : ℕ). first_data n ≤ j) (length-set d i t) own.1.is_data;
      here = sym (get_set_other d i j t other) ∙ own.1.here;
    },
    own.2,
  )
]

all_before : (is : List ℕ) (d : List Sector) (i : ℕ) (s t : Sector) → HasData d i s → is_free s.0 ≡ true → AllByRecursion (IsOfNoOther 3 (slice_set d i t)) is → AllByRecursion (IsOfNoOther 3 d) is
all_before [] d i s t has free all = tt
all_before (j ∷ is) d i s t has free all = (own_before d i j s t has free all.0, all_before is d i s t has free all.1)

-- so pages of the space tables that are made as permitted come into such sectors
grown_own : (is : List ℕ) (page : ℕ) (d : List Sector) → ArePermitted d (growth 3 0 page is) → AllByRecursion (IsOfNoOther 3 d) is
grown_own [] page d permitted = tt
grown_own (i ∷ is) page d permitted = elim permitted.0 [
  | inl root ↦ absurd (not_root (ap (λ (l : Label). l.id) root.root_label))
  | inr fresh ↦ (
    free_own d i fresh.old.0 fresh.old.1 fresh.old.2,
    all_before is d i fresh.old.0 (page_label 3 0 page, zero_bytes) fresh.old.1 fresh.old.2 (grown_own is (page + 1) (slice_set d i (page_label 3 0 page, zero_bytes)) permitted.1),
  )
]
  where
    not_root : ◌≡◌ {A = ℕ} 3 4 → ⊥
    not_root e = omega (arith, e)

take_few : (n : ℕ) (is : List ℕ) → length (take n is) ≤ length is
take_few zero is = omega arith
take_few (suc n) [] = omega arith
take_few (suc n) (i ∷ is) = let few = take_few n is in omega (arith, few)

module _ (d : List Sector) (right : LabelsRight d) (root : Root) (valid : IsValidRoot (length d) root) (serial : root.serial < 2 ^ 32) (counter : root.counter < 2 ^ 32)
    (same_serial : root.serial ≡ serial_of d) (same_counter : root.counter ≡ counter_of d) where
  itself : StaysRight false d d
  itself = record { files = refl; right = right }

  rooted : StaysRight false d (written (root_write (in_use root)) d)
  rooted =
      let used : IsValidRoot (length d) (in_use root) = record { version = valid.version; accepted = valid.accepted; count = valid.count; serial = valid.serial; counter = valid.counter } in
      let high = counter_read (in_use root) counter in
      root_written false d (root_label, root_bytes (in_use root)) right (is_root (length d) (in_use root) used serial counter) (serial_read (in_use root) serial ∙ same_serial) (omega (arith, high, same_counter))

  -- the label writes alone
  stays : (n : ℕ) (is : List ℕ) → length is ≤ 96 → ArePermitted d (take n (root_write (in_use root) ∷ growth 3 0 0 is)) → (k : ℕ) → StaysRight false d (crash_state d (take n (root_write (in_use root) ∷ growth 3 0 0 is)) k)
  stays zero is few permitted zero = itself
  stays zero is few permitted (suc k) = itself
  stays (suc n) is few permitted zero = itself
  stays (suc n) is few permitted (suc k) =
      let x = written (root_write (in_use root)) d in
      let own = grown_own (take n is) 0 x (subst (ArePermitted x) (take_growth n 3 0 0 is) permitted.1) in
      let fewer = take_few n is in
      let made = stay_laws.tables x 0 (take n is) rooted.right own (omega (arith, few, fewer)) k in
      let then_made : StaysRight false x (crash_state x (take n (growth 3 0 0 is)) k) = subst (λ (ws : List DiskWrite). StaysRight false x (crash_state x ws k)) (sym (take_growth n 3 0 0 is)) made in
      record { files = then_made.files ∙ rooted.files; right = then_made.right }

  -- with the numbers of before
  abbrev HasSame : List ℕ → Type 0
  HasSame page = (number_at page 16 ≡ serial_of d) × (number_at page 20 ≡ counter_of d)

  same_numbers : (n : ℕ) (is : List ℕ) → RootsHave HasSame (take n (root_write (in_use root) ∷ growth 3 0 0 is))
  same_numbers n is =
      take_have HasSame n (root_write (in_use root) ∷ growth 3 0 0 is)
      (root_have HasSame (in_use root) (growth 3 0 0 is) (serial_read (in_use root) serial ∙ same_serial, counter_read (in_use root) counter ∙ same_counter) (growth_have HasSame 3 0 0 is not_four))
    where
      not_four : ◌≡◌ {A = ℕ} 3 4 → ⊥
      not_four e = omega (arith, e)

  -- all writes
  pub files_kept : (old new : DiskState) (before after : Slots) → old.contents ≡ Some d → IsBare before → StartsSome root old before new after → KeepsFiles d old new
  files_kept old new before after revealed bare starts =
      let wrote = starts.makes.wrote in
      let permitted = by_each d wrote.writes (λ k w here. wrote.permitted d k w revealed here) in
      let order = subst (ArePermitted d) wrote.labels (label_row wrote.writes d d refl permitted) in
      let numbers : (k : ℕ) → HasSame (root_page (crash_state d wrote.writes k)) = λ k. have_at HasSame wrote (same_numbers starts.count starts.sectors) d k revealed (refl, refl) in
      record {
        writes = wrote.writes;
        appended = wrote.appended;
        right = run_stops.start_stops (take starts.count (root_write (in_use root) ∷ growth 3 0 0 starts.sectors)) old new before d wrote (λ id page dirty. absurd (bare dirty.slot dirty.frame dirty.has)) revealed
            (λ k within. stays starts.count starts.sectors starts.few order k);
        same_serial = λ k. (numbers k).0;
        same_counter = λ k. (numbers k).1;
        opened = opened_by wrote.writes (in_use root) refl starts.first
            (open_writes wrote.writes (subst AreOpen (sym wrote.labels) (take_open starts.count (root_write (in_use root) ∷ growth 3 0 0 starts.sectors) (root_open (in_use root) (growth 3 0 0 starts.sectors) refl (growth_open 3 0 0 starts.sectors)))))
            d (λ j w here. wrote.permitted d j w revealed here);
      }
