-- One write that shortens or lengthens a file leaves it whole.
use Rattle.std.proofs.Common.{◌≡◌, ◌≢◌, ◌⊎◌, inl, inr, ℕ, suc, ◌-◌, ◌<◌, ◌≤◌, Bool, true, false, ◌&&◌, List, length, Some, refl, sym, ◌∙◌, ap, subst, eqb}
use Rattle.std.proofs.lemmas.Bool.{cases_eq, true≢false}
use Rattle.std.proofs.lemmas.Option.{same_Some}
use Rattle.labelled_disk.specs.declared.label.Label.{Label}
use Rattle.labelled_disk.specs.declared.disk.DiskWrite.{DiskWrite}
use Rattle.labelled_disk.specs.declared.disk.DiskWrite.TheVariants as kind
use Rattle.labelled_disk.specs.File.{File, size}
use Rattle.labelled_disk.specs.FilesOn.{is_of, is_page, disk_file}
use Rattle.labelled_disk.specs.Label.{leader_page}
use Rattle.labelled_disk.specs.Permitted.{Permitted}
use Rattle.labelled_disk.specs.Layout.{data_sectors, first_data}
use Rattle.labelled_disk.specs.CrashState.{written}
use Rattle.labelled_disk.specs.Sectors.{Sector}
use Rattle.labelled_disk.proofs.WriteLemmas as laws
use Rattle.label_laws.specs.Mixed.{gives_label}
use Rattle.label_laws.specs.OneFile.{id_of}
use Rattle.label_laws.proofs.FileLemmas.{free_none, label_written}
use Rattle.label_laws.proofs.MixedLemmas.{written_long}
use Rattle.cut_laws.specs.ResizeLaws.{AddsNextPage, FreesLastPage}
use Rattle.cut_laws.specs.ShapeLaws.{IsWholeOn}
use Rattle.cut_laws.specs.Windows.{IsLabelWriteOf}
use Rattle.cut_laws.proofs.PairLemmas.{Alike}
use Rattle.cut_laws.proofs.SteadyLemmas.{data_pairs}
use Rattle.cut_laws.proofs.StayLemmas.{Of, turn_alike}
use Rattle.cut_laws.proofs.TurnLemmas.{turn}
use Rattle.cut_laws.proofs.WholeLemmas.{IsSizedAmong, IsSizedOn, whole_alike, whole_among, whole_longer, whole_on, whole_shorter}

same_size : (now : List Sector) (id : ℕ) (f g : File) → disk_file true now id ≡ Some f → disk_file true now id ≡ Some g → size f ≡ size g
same_size now id f g a b = ap size (same_Some f g (sym a ∙ b))

-- a write that is no label write of the file
pub step_other : (id : ℕ) (now : List Sector) (write : DiskWrite) → Permitted now write → (gives_label write ≡ true → id ≢ id_of now write) → (whole : IsWholeOn now id) → IsSizedOn (written write now) id (size whole.0)
step_other id now write permitted apart whole =
    whole_on (written write now) id (size whole.0)
    (whole_alike id (data_sectors now) (data_sectors (written write now))
    (data_pairs (λ s t. Alike (Of id) s.0 t.0) now (written write now) (written_long now write)
    (λ i s t low here there. turn_alike id now write i s t here apart (turn now write i s t permitted low here there)))
    (whole_among now id whole))

-- the last page is freed
pub step_frees : (id : ℕ) (now : List Sector) (write : DiskWrite) → Permitted now write → FreesLastPage id now write → (whole : IsWholeOn now id) → (p : ℕ) × (size whole.0 ≡ suc p) × IsSizedOn (written write now) id p
step_frees id now (kind.Whole sector label page) may last whole = absurd last
step_frees id now (kind.Page sector wanted page) may last whole = absurd last
step_frees id now (kind.LabelOnly sector label) may last whole =
    let is_data : first_data (length now) ≤ sector = may.old.1.is_data in
    let s = last.3 in
    let count : size whole.0 ≡ suc last.5 = same_size now id whole.0 last.1 whole.1 last.2 ∙ last.6 in (
      last.5,
      count,
      whole_on (written (kind.LabelOnly sector label) now) id last.5
          (subst (λ (xs : List Sector). IsSizedAmong xs id last.5)
          (sym (ap data_sectors (label_written now sector s label last.4) ∙ laws.data_set true 0 0 now sector (label, s.1) is_data))
          (whole_shorter id (data_sectors now) (sector - first_data (length now)) s (label, s.1) (laws.data_get true 0 0 now sector s is_data last.4) (whole_among now id whole) last.5
          count last.7 (ap (λ (l : Label). is_of id (l, s.1)) last.0))),
    )

-- the next page is added
pub step_adds : (id : ℕ) (now : List Sector) (write : DiskWrite) → Permitted now write → AddsNextPage id now write → (whole : IsWholeOn now id) → IsSizedOn (written write now) id (suc (size whole.0))
step_adds id now (kind.LabelOnly sector label) may next whole = absurd next
step_adds id now (kind.Page sector wanted page) may next whole = absurd next
step_adds id now (kind.Whole sector label page) (inl root) next whole = absurd (true≢false (sym next.2 ∙ ap (λ (l : Label). is_page id (size next.0) (l, page)) root.root_label))
step_adds id now (kind.Whole sector label page) (inr may) next whole =
    let s = may.old.0 in
    let is_data : first_data (length now) ≤ sector = may.old.1.is_data in
    let same : size next.0 ≡ size whole.0 = same_size now id next.0 whole.0 next.1 whole.1 in
    whole_on (written (kind.Whole sector label page) now) id (suc (size whole.0))
    (subst (λ (xs : List Sector). IsSizedAmong xs id (suc (size whole.0))) (sym (laws.data_set true 0 0 now sector (label, page) is_data))
    (whole_longer id (data_sectors now) (sector - first_data (length now)) s (label, page) (laws.data_get true 0 0 now sector s is_data may.old.1.here) (whole_among now id whole)
    (ap (λ (b : Bool). b && eqb s.0.id id) (free_none s.0 may.old.2)) (ap (λ (n : ℕ). is_page id n (label, page)) (sym same) ∙ next.2)
    (subst (λ (n : ℕ). suc n < leader_page) same next.3)))

pub whole_step : (id : ℕ) (now : List Sector) (write : DiskWrite) → Permitted now write → (IsLabelWriteOf id now write → FreesLastPage id now write ⊎ AddsNextPage id now write) → IsWholeOn now id
    → IsWholeOn (written write now) id
whole_step id now write permitted ends whole = either (gives_label write) refl (cases_eq id (id_of now write))
  where
    own : FreesLastPage id now write ⊎ AddsNextPage id now write → IsWholeOn (written write now) id
    own (inl last) = (step_frees id now write permitted last whole).2.0
    own (inr next) = (step_adds id now write permitted next whole).0

    either : (b : Bool) → gives_label write ≡ b → (id ≡ id_of now write) ⊎ (id ≢ id_of now write) → IsWholeOn (written write now) id
    either false f of = (step_other id now write permitted (λ gives. absurd (true≢false (sym gives ∙ f))) whole).0
    either true f (inr apart) = (step_other id now write permitted (λ gives. apart) whole).0
    either true f (inl of) = own (ends (f, sym of))
