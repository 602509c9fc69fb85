-- What a permitted write makes of a data sector.
use Rattle.std.proofs.Common.{◌≡◌, ◌≢◌, ◌⊎◌, inl, inr, ℕ, suc, ◌<◌, ◌≤◌, Bool, true, false, List, length, replicate, Option, Some, refl, sym, ◌∙◌, ap, subst, arith}
use Rattle.std.specs.Prelude.{slice_get, slice_set, if◌then◌else◌}
use Rattle.std.specs.Option.{option_map_or}
use Rattle.std.proofs.lemmas.Bool.{cases_eq, ne_eqb}
use Rattle.std.proofs.lemmas.Option.{same_Some, slice_get_within}
use Rattle.labelled_disk.specs.declared.label.Label.{Label}
use Rattle.labelled_disk.specs.declared.label.Wanted.{Wanted}
use Rattle.labelled_disk.specs.declared.disk.DiskWrite.{DiskWrite}
use Rattle.labelled_disk.specs.declared.disk.DiskWrite.TheVariants as kind
use Rattle.labelled_disk.specs.Label.{is_file, is_free, names, leader_page}
use Rattle.labelled_disk.specs.Permitted.{Permitted, IsNextLabel}
use Rattle.labelled_disk.specs.Layout.{first_data}
use Rattle.labelled_disk.specs.CrashState.{crash_state, written}
use Rattle.labelled_disk.specs.Runs.{sector_of, zero_bytes}
use Rattle.labelled_disk.specs.Sectors.{Sector, free_label}
use Rattle.labelled_disk.proofs.Finds.{get_set_same}
use Rattle.labelled_disk.proofs.WriteLemmas as laws
use Rattle.label_laws.specs.PermittedRuns.{ArePermitted}
use Rattle.label_laws.specs.OneFile.{id_of}
use Rattle.label_laws.proofs.FileLemmas.{label_written, page_written, named_id}
use Rattle.label_laws.proofs.PermittedLemmas.{each_permitted}
use Rattle.label_laws.proofs.MixedLemmas.{written_other, crash_state_long}
use Rattle.cut_laws.proofs.CrashStateLemmas.{history}

-- Sector i was s, and is t after the write.
pub data Turn (write : DiskWrite) (i : ℕ) (s t : Sector) : Type 0 where
  stays : t ≡ s → Turn write i s t
  bytes : (wanted : Wanted) → write ≡ kind.Page i wanted t.1 → names s.0 wanted ≡ true → t.0 ≡ s.0 → Turn write i s t
  fresh : write ≡ kind.Whole i t.0 t.1 → is_free s.0 ≡ true → is_free t.0 ≡ false → t.1 ≡ zero_bytes → Turn write i s t
  freed : write ≡ kind.LabelOnly i free_label → t ≡ (free_label, s.1) → Turn write i s t
  marked : write ≡ kind.LabelOnly i t.0 → t.0.id ≡ s.0.id → s.0.page ≡ leader_page → t.0.page ≡ leader_page → t.1 ≡ s.1 → Turn write i s t

zeros : replicate 512 0 ≡ zero_bytes
unfolding zero_bytes
zeros = refl

-- the new sector, where the write puts one
put : (d : List Sector) (i : ℕ) (s t u : Sector) → slice_get d i ≡ Some s → slice_get (slice_set d i u) i ≡ Some t → u ≡ t
put d i s t u here there = same_Some u t (sym (get_set_same d i u (slice_get_within d i s here)) ∙ there)

same_sector : (d : List Sector) (i : ℕ) (s u : Sector) → slice_get d i ≡ Some s → slice_get d i ≡ Some u → u ≡ s
same_sector d i s u here there = same_Some u s (sym there ∙ here)

pub turn : (d : List Sector) (write : DiskWrite) (i : ℕ) (s t : Sector) → Permitted d write → first_data (length d) ≤ i → slice_get d i ≡ Some s → slice_get (written write d) i ≡ Some t → Turn write i s t
turn d write i s t permitted is_data here there = either (cases_eq (sector_of write) i)
  where
    at : (write : DiskWrite) → Permitted d write → sector_of write ≡ i → slice_get (written write d) i ≡ Some t → Turn write i s t
    at (kind.Whole sector label page) (inl root) is there = absurd (omega (arith, root.place, is, is_data, laws.first_positive true 0 0 (length d)))
    at (kind.Whole sector label page) (inr now) is there =
        let old : now.old.0 ≡ s = same_sector d i s now.old.0 here (ap (λ (j : ℕ). slice_get d j) (sym is) ∙ now.old.1.here) in
        let new : (label, page) ≡ t = put d i s t (label, page) here (ap (λ (j : ℕ). slice_get (slice_set d j (label, page)) i) (sym is) ∙ there) in
        fresh
        ((λ x. kind.Whole (is x) (new x).0 (new x).1))
        (ap (λ (v : Sector). is_free v.0) (sym old) ∙ now.old.2)
        (ap (λ (v : Sector). is_free v.0) (sym new) ∙ taken label now.of_file)
        (ap (λ (v : Sector). v.1) (sym new) ∙ now.zero_page ∙ zeros)
      where
        taken : (label : Label) → ((label.page < 96) × (label ≡ record { id = 3; page = label.page; kind = 0; flags = 0; last = 0 })) ⊎ (is_file label ≡ true) → is_free label ≡ false
        taken label (inl table) = ap (λ (l : Label). is_free l) table.1
        taken label (inr file) = ne_eqb label.id 0 (λ e. omega (arith, e, (laws.file_id label file).0))
    at (kind.LabelOnly sector label) now is there = next label now.old.3 is there
      where
        old : now.old.0 ≡ s
        old = same_sector d i s now.old.0 here (ap (λ (j : ℕ). slice_get d j) (sym is) ∙ now.old.1.here)

        set : (label : Label) → sector ≡ i → slice_get (written (kind.LabelOnly sector label) d) i ≡ Some t → (label, s.1) ≡ t
        set label is there =
            put d i s t (label, s.1) here
            (ap (λ (e : List Sector). slice_get e i) (sym (label_written d i s label here)) ∙ ap (λ (j : ℕ). slice_get (written (kind.LabelOnly j label) d) i) (sym is) ∙ there)

        next : (label : Label) → IsNextLabel now.old.0.0 label → sector ≡ i → slice_get (written (kind.LabelOnly sector label) d) i ≡ Some t → Turn (kind.LabelOnly sector label) i s t
        next label (inl free) is there =
            freed (λ x. kind.LabelOnly (is x) (free x)) (sym (set label is there) ∙ ap (λ (l : Label). (l, s.1)) free)
        next label (inr mark) is there =
            let new : (label, s.1) ≡ t = set label is there in
            let kept : (label.id ≡ now.old.0.0.id) × (label.page ≡ now.old.0.0.page) = elim mark.1 [
              | inl e ↦ (ap (λ (l : Label). l.id) e, ap (λ (l : Label). l.page) e)
              | inr e ↦ (ap (λ (l : Label). l.id) e, ap (λ (l : Label). l.page) e)
            ] in
            marked
            (λ x. kind.LabelOnly (is x) (new x).0)
            (ap (λ (v : Sector). v.0.id) (sym new) ∙ kept.0 ∙ ap (λ (v : Sector). v.0.id) old)
            (ap (λ (v : Sector). v.0.page) (sym old) ∙ mark.0)
            (ap (λ (v : Sector). v.0.page) (sym new) ∙ kept.1 ∙ mark.0)
            (ap (λ (v : Sector). v.1) (sym new))
    at (kind.Page sector wanted page) now is there =
        let old : now.old.0 ≡ s = same_sector d i s now.old.0 here (ap (λ (j : ℕ). slice_get d j) (sym is) ∙ now.old.1) in
        let named : names s.0 wanted ≡ true = ap (λ (v : Sector). names v.0 wanted) (sym old) ∙ now.old.2 in
        let new : (s.0, page) ≡ t =
        put d i s t (s.0, page) here
        (ap (λ (b : Bool). slice_get (if b then slice_set d i (s.0, page) else d) i) (sym named)
        ∙ ap (λ (e : List Sector). slice_get e i) (sym (page_written d i s wanted page here)) ∙ ap (λ (j : ℕ). slice_get (written (kind.Page j wanted page) d) i) (sym is) ∙ there) in
        bytes wanted (λ x. kind.Page (is x) wanted (new x).1) named (ap (λ (v : Sector). v.0) (sym new))

    either : (sector_of write ≡ i) ⊎ (sector_of write ≢ i) → Turn write i s t
    either (inl is) = at write permitted is there
    either (inr apart) = stays (same_Some t s (sym there ∙ written_other d write i apart ∙ here))

-- What holds of a data sector at first, and after each turn if before it, holds of it in each crash state.
pub turns : (P : ℕ → Sector → Type 0) (d : List Sector) (writes : List DiskWrite) (i : ℕ) → ArePermitted d writes → first_data (length d) ≤ i
    → ((s : Sector) → slice_get d i ≡ Some s → P 0 s)
    → ((k : ℕ) (write : DiskWrite) (s t : Sector) → k < length writes → slice_get writes k ≡ Some write → slice_get (crash_state d writes k) i ≡ Some s → slice_get (crash_state d writes (suc k)) i ≡ Some t
    → Turn write i s t → P k s → P (suc k) t)
    → (k : ℕ) → k ≤ length writes → (s : Sector) → slice_get (crash_state d writes k) i ≡ Some s → P k s
turns P d writes i permitted is_data start step =
    history P d writes i start (λ k write s t low is here now there before.
    step k write s t low is here there
    (turn (crash_state d writes k) write i s t (each_permitted d writes permitted k write is) (subst (λ (n : ℕ). first_data n ≤ i) (sym (crash_state_long d writes k)) is_data) here now) before)

-- the identifier of the sector that is written
pub id_of_label : (d : List Sector) (write : DiskWrite) (i : ℕ) (label : Label) (s : Sector) → write ≡ kind.LabelOnly i label → slice_get d i ≡ Some s → id_of d write ≡ s.0.id
id_of_label d write i label s is here = ap (id_of d) is ∙ ap (λ (o : Option Sector). option_map_or (λ (u : Sector). u.0.id) o 0) here

pub id_of_page : (d : List Sector) (write : DiskWrite) (i : ℕ) (wanted : Wanted) (page : List ℕ) (l : Label) → write ≡ kind.Page i wanted page → names l wanted ≡ true → id_of d write ≡ l.id
id_of_page d write i wanted page l is named = ap (id_of d) is ∙ sym (named_id l wanted named)
