-- Changes of permanent files, by the labels that are written and the syncs around them.
use Rattle.std.proofs.Common.{◌≡◌, ◌≢◌, ◌⊎◌, inl, inr, ℕ, ◌-◌, ◌≤◌, Bool, true, false, List, length, Option, Some, None, refl, sym, ◌∙◌, ap, subst}
use Rattle.std.specs.Prelude.{slice_get, find, option_map}
use Rattle.std.proofs.lemmas.Bool.{cases_eq, true≢false}
use Rattle.std.proofs.lemmas.Option.{none-some, same_Some}
use Rattle.labelled_disk.specs.declared.label.Label.{Label}
use Rattle.labelled_disk.specs.declared.disk.DiskWrite.{DiskWrite}
use Rattle.labelled_disk.specs.declared.disk.DiskWrite.TheVariants.{Whole, LabelOnly, Page}
use Rattle.labelled_disk.specs.CrashState.{crash_state, written}
use Rattle.labelled_disk.specs.File.{File, size}
use Rattle.labelled_disk.specs.FilesOn.{disk_file, file_by, leader_among, leads_file, page_at, pages_from}
use Rattle.labelled_disk.specs.Label.{leader_page}
use Rattle.labelled_disk.specs.Layout.{data_sectors, first_data}
use Rattle.labelled_disk.specs.Permitted.{Permitted}
use Rattle.labelled_disk.specs.Sectors.{Sector}
use Rattle.labelled_disk.specs.WriteLaws.{HasData}
use Rattle.labelled_disk.proofs.Finds.{none_passes}
use Rattle.labelled_disk.proofs.WriteLemmas as laws
use Rattle.label_laws.specs.Mixed.{gives_label}
use Rattle.label_laws.specs.OneFile.{id_of}
use Rattle.label_laws.specs.PermittedRuns.{ArePermitted}
use Rattle.label_laws.specs.Shape.{BareFile, SameShape, bare_file}
use Rattle.label_laws.proofs.MixedLemmas.{written_long}
use Rattle.label_laws.proofs.PermittedLemmas.{each_permitted}
use Rattle.cut_laws.specs.ChangesApart.{IsQuiet, IsResize, LabelsApart, LeavesOthers, MarksApart, ResizesApart}
use Rattle.cut_laws.specs.LabelsApart.{AreLabelsApart, ArePagesApart, IsAtMostPageOf, IsLeaderApart, LabelsApartAreChangesApart}
use Rattle.cut_laws.specs.LeaderWrites.{KeepsLeader, WritesLeader}
use Rattle.cut_laws.specs.Windows.{IsLabelWriteOf}
use Rattle.cut_laws.proofs.CommonLemmas.{file_of_shape}
use Rattle.cut_laws.proofs.FirstLabelLemmas.{labelled_there}
use Rattle.cut_laws.proofs.LeaderWriteLemmas.{leaders_change}
use Rattle.cut_laws.proofs.PairLemmas.{Alike}
use Rattle.cut_laws.proofs.ResizedLemmas.{shape_by_leader}
use Rattle.cut_laws.proofs.SteadyLemmas.{data_pairs}
use Rattle.cut_laws.proofs.StayLemmas.{Of, shape_pairs, turn_alike}
use Rattle.cut_laws.proofs.TurnLemmas.{turn}

-- a leader makes a file
pub there_by_leader : (all : Bool) (x : List Sector) (i : ℕ) (t : Sector) (id : ℕ) → HasData x i t → leads_file all id t ≡ true → (f : File) × (disk_file all x id ≡ Some f)
there_by_leader all x i t id at leads = either (find (leads_file all id) (data_sectors x)) refl
  where
    either : (o : Option Sector) → find (leads_file all id) (data_sectors x) ≡ o → (f : File) × (disk_file all x id ≡ Some f)
    either None none =
        absurd (true≢false (sym leads ∙ none_passes (leads_file all id) (data_sectors x) none (i - first_data (length x)) t (laws.data_get true 0 0 x i t at.is_data at.here)))
    either (Some s) found = (file_by (data_sectors x) s.0, ap (λ (o : Option Sector). option_map (file_by (data_sectors x)) (option_map (λ s. s.0) o)) found)

module _ (now : List Sector) (write : DiskWrite) (permitted : Permitted now write) where
  abbrev after : List Sector
  after = written write now

  -- a file of which no label is written keeps its shape
  keeps_shape : (id : ℕ) → (IsLabelWriteOf id now write → ⊥) → SameShape false now after id
  keeps_shape id none =
      shape_pairs false id (data_sectors now) (data_sectors after)
      (data_pairs (λ s t. Alike (Of id) s.0 t.0) now after (written_long now write)
      (λ i s t low here there. turn_alike id now write i s t here (λ gives same. none (gives, sym same)) (turn now write i s t permitted low here there)))

  pub page_quiet : gives_label write ≡ false → IsQuiet false now write
  page_quiet page id = keeps_shape id (λ of. true≢false (sym of.0 ∙ page))

  leaves_others : LeavesOthers false (id_of now write) now write
  leaves_others other off = keeps_shape other (λ of. off (sym of.1))

  -- one that is not there is not there after it, where it gets no leader
  absent_quiet : KeepsLeader (id_of now write) now write → disk_file false now (id_of now write) ≡ None → IsQuiet false now write
  absent_quiet keeps none id = elim (cases_eq id (id_of now write)) [
    | inl same ↦ subst (SameShape false now after) (sym same) (ap (λ (o : Option File). option_map bare_file o) (no_file (leader_among false (data_sectors now) (id_of now write)) refl ∙ sym none))
    | inr off ↦ leaves_others id off
  ]
    where
      no_file : (o : Option Label) → leader_among false (data_sectors now) (id_of now write) ≡ o → disk_file false after (id_of now write) ≡ None
      no_file None is = ap (λ (o : Option Label). option_map (file_by (data_sectors after)) o) (keeps ∙ is)
      no_file (Some l) is = absurd (none-some (file_by (data_sectors now) l) (sym none ∙ ap (λ (o : Option Label). option_map (file_by (data_sectors now)) o) is))

  -- one that is there has another size at most
  there_resized : (f : File) → KeepsLeader (id_of now write) now write → disk_file false now (id_of now write) ≡ Some f → IsResize false (id_of now write) now write
  there_resized f keeps file =
      let bare = shape_by_leader false (id_of now write) (data_sectors now) (data_sectors after) f keeps file in
      let g = file_of_shape false after (id_of now write) (record (bare_file f) { pages = length (pages_from (page_at (data_sectors after) (id_of now write)) 0 leader_page) }) bare in
      (leaves_others, f, file, g.0, g.1, g.2 ∙ ap (λ (n : ℕ). record (bare_file f) { pages = n }) (sym (ap (λ (b : BareFile). b.pages) g.2)))

  -- where labels of pages of one file alone are written, that one gets another size, or none changes
  resize_or_quiet : (id : ℕ) → IsAtMostPageOf id now write → IsQuiet false now write ⊎ IsResize false id now write
  resize_or_quiet id most = by_label (gives_label write) refl
    where
      by_file : KeepsLeader (id_of now write) now write → gives_label write ≡ true → (o : Option File) → disk_file false now (id_of now write) ≡ o → IsQuiet false now write ⊎ IsResize false id now write
      by_file keeps gives None none = inl (absent_quiet keeps none)
      by_file keeps gives (Some f) file = inr (subst (λ (n : ℕ). IsResize false n now write) ((most (id_of now write)).1 ((gives, refl), f, file)) (there_resized f keeps file))

      by_label : (b : Bool) → gives_label write ≡ b → IsQuiet false now write ⊎ IsResize false id now write
      by_label false page = inl (page_quiet page)
      by_label true gives = elim (leaders_change now write (id_of now write) permitted) [
        | inl keeps ↦ by_file keeps gives (disk_file false now (id_of now write)) refl
        | inr writes ↦ absurd ((most (id_of now write)).0 writes)
      ]

module _ (d : List Sector) (made : ℕ) (writes : List DiskWrite) (syncs : List ℕ) (failed : Bool) (permitted : ArePermitted d writes) (apart : AreLabelsApart syncs made d writes failed) where
  module _ (k : ℕ) (write : DiskWrite) (here : slice_get writes k ≡ Some write) where
    abbrev now : List Sector
    now = crash_state d writes k

    abbrev id : ℕ
    id = id_of now write

    may : Permitted now write
    may = each_permitted d writes permitted k write here

    abbrev Changes : Type 0
    Changes = IsQuiet false now write ⊎ MarksApart false syncs made d writes k write ⊎ LabelsApart false syncs made d writes k write ⊎ ResizesApart false syncs made d writes k

    by_leader : (write : DiskWrite) → WritesLeader (id_of now write) now write → LeavesOthers false (id_of now write) now write → IsLeaderApart syncs made d writes failed k write
        → MarksApart false syncs made d writes k write ⊎ LabelsApart false syncs made d writes k write
    by_leader (Whole sector label page) writes_leader others at = absurd writes_leader
    by_leader (Page sector wanted page) writes_leader others at = absurd writes_leader
    by_leader (LabelOnly sector label) (s, data_is, page, inl goes) others at = inr (at.0, (id_of now (LabelOnly sector label), others), elim (at.1 goes.0) [ inl has ↦ inl has | inr ended ↦ inr ended.1 ])
    by_leader (LabelOnly sector label) (s, data_is, page, inr leads) others at =
        let f = there_by_leader false (written (LabelOnly sector label) now) sector (label, s.1) (id_of now (LabelOnly sector label))
        (record { is_data = subst (λ (n : ℕ). first_data n ≤ sector) (sym (written_long now (LabelOnly sector label))) data_is.is_data; here = labelled_there now sector label s data_is.here }) leads in
        inl (at.0, id_of now (LabelOnly sector label), (others, s, data_is, page, leads, f.0, f.1))

    as_leader : WritesLeader id now write → Changes
    as_leader writes_leader = elim (by_leader write writes_leader (leaves_others now write may) ((apart k write id here).0 writes_leader)) [
      | inl mark ↦ inr (inl mark)
      | inr label ↦ inr (inr (inl label))
    ]

    as_page : (f : File) → KeepsLeader id now write → disk_file false now id ≡ Some f → ArePagesApart syncs made d writes id k → Changes
    as_page f keeps file (since, low, has, most) =
        inr (inr (inr (
          id,
          since,
          low,
          has,
          λ other there. subst (IsResize false id now) (same_Some write other (sym here ∙ there)) (there_resized now write may f keeps file),
          λ i other past by there. resize_or_quiet (crash_state d writes i) other (each_permitted d writes permitted i other there) id (most i other past by there),
        )))

    changes : Changes
    changes = by_label (gives_label write) refl
      where
        by_file : KeepsLeader id now write → gives_label write ≡ true → (o : Option File) → disk_file false now id ≡ o → Changes
        by_file keeps gives None none = inl (absent_quiet now write may keeps none)
        by_file keeps gives (Some f) file = elim ((apart k write id here).1 ((gives, refl), f, file)) [
          | inl writes_leader ↦ as_leader writes_leader
          | inr pages ↦ as_page f keeps file pages
        ]

        by_label : (b : Bool) → gives_label write ≡ b → Changes
        by_label false page = inl (page_quiet now write may page)
        by_label true gives = elim (leaders_change now write id may) [
          | inl keeps ↦ by_file keeps gives (disk_file false now id) refl
          | inr writes_leader ↦ as_leader writes_leader
        ]

pub labels_apart : LabelsApartAreChangesApart
labels_apart d made writes syncs failed permitted apart k write here = changes d made writes syncs failed permitted apart k write here
