-- Writes over any disk, and marks.
use Rattle.std.proofs.Common.{◌≡◌, ◌≢◌, ◌⊎◌, inl, inr, ⊎_elim, ℕ, zero, suc, ◌-◌, ◌<◌, ◌≤◌, ◌/◌, ◌%◌, Bool, true, false, ◌&&◌, List, [], ◌∷◌, map, length, Option, Some, refl, sym, ◌∙◌, ap, subst, arith, eqb, bit_or, ◌||◌, None}
use Rattle.std.specs.Prelude.{slice_get, slice_set, option_map, if◌then◌else◌, nat_lt}
use Rattle.std.specs.Option.{option_map_or}
use Rattle.std.proofs.lemmas.Bool.{cases_lt, and_parts, and_left, and_from, eqb-true, ltb-true, true≢false}
use Rattle.std.proofs.lemmas.Option.{slice_get_within}
use Rattle.labelled_disk.specs.declared.label.Label.{Label}
use Rattle.labelled_disk.specs.declared.label.Wanted.{Wanted}
use Rattle.labelled_disk.specs.declared.disk.DiskWrite.TheVariants.{Whole, LabelOnly, Page}
use Rattle.labelled_disk.specs.Label.{is_file, is_file_id, is_free, is_immutable, is_permanent, names, leader_page}
use Rattle.labelled_disk.specs.Sectors.{Sector}
use Rattle.labelled_disk.specs.CrashState.{written}
use Rattle.labelled_disk.specs.Layout.{data_sectors, first_data}
use Rattle.labelled_disk.specs.File.{Page as Cells, byte}
use Rattle.labelled_disk.specs.FilesOn.{is_of, is_page, leads, leads_file, leader_among, page_at, pages_from, file_by, disk_file, file_among, files_among}
use Rattle.labelled_disk.specs.Permitted.{IsNextLabel}
use Rattle.labelled_disk.specs.WriteLaws.{HasData, IsOnlyOf, with_page}
use Rattle.labelled_disk.proofs.Finds.{find_new, find_none}
use Rattle.labelled_disk.proofs.Pages.{pages_same}
use Rattle.labelled_disk.proofs.SectorWrites as w
use Rattle.labelled_disk.proofs.WriteLemmas as laws
use Rattle.labelled_disk.proofs.RootLemmas.{only_self}
use Rattle.label_laws.specs.AnyDisk.{FileAppears, PageMayChange}
use Rattle.label_laws.specs.Marks.{MarksAreAdded}
use Rattle.label_laws.specs.OneFile.{id_of, OthersStay, OthersStayInRuns}

-- a label with the identifier 0 is no file's
pub free_none : (l : Label) → is_free l ≡ true → is_file l ≡ false
free_none l free = either (is_file l) refl
  where
    either : (b : Bool) → is_file l ≡ b → is_file l ≡ false
    either false e = e
    either true e = absurd (omega (arith, (laws.file_id l e).0, eqb-true l.id 0 free))

-- what a write makes where a sector stands
pub label_written : (d : List Sector) (i : ℕ) (s : Sector) (label : Label) → slice_get d i ≡ Some s → written (LabelOnly i label) d ≡ slice_set d i (label, s.1)
label_written d i s label here = ap (λ (o : Option Sector). option_map_or (λ (old : Sector). slice_set d i (label, old.1)) o d) here

pub page_written : (d : List Sector) (i : ℕ) (s : Sector) (wanted : Wanted) (page : List ℕ) → slice_get d i ≡ Some s → written (Page i wanted page) d ≡ (if names s.0 wanted then slice_set d i (s.0, page) else d)
page_written d i s wanted page here = ap (λ (o : Option Sector). option_map_or (λ (old : Sector). if names old.0 wanted then slice_set d i (old.0, page) else d) o d) here

-- the label that names a page has its identifier
pub named_id : (l : Label) (wanted : Wanted) → names l wanted ≡ true → l.id ≡ wanted.id
named_id l wanted is =
    let a = and_parts (eqb l.id wanted.id && eqb l.page wanted.page && nat_lt l.flags 4) (eqb l.last 0) is in
    let b = and_parts (eqb l.id wanted.id && eqb l.page wanted.page) (nat_lt l.flags 4) a.0 in
    eqb-true l.id wanted.id (and_parts (eqb l.id wanted.id) (eqb l.page wanted.page) b.0).0

module _ (with_temporary : Bool) where
  -- no other file is changed where old and new label are of one
  one_sector : (d : List Sector) (i : ℕ) (s t : Sector) (id : ℕ) → slice_get d i ≡ Some s → IsOnlyOf id s → IsOnlyOf id t
      → (other : ℕ) → other ≢ id → disk_file with_temporary (slice_set d i t) other ≡ disk_file with_temporary d other
  one_sector d i s t id here old new other apart =
      ⊎_elim (λ (l : i < first_data (length d)). ap (λ (xs : List Sector). file_among with_temporary xs other) (laws.data_past with_temporary 0 0 d i t l))
      (λ (l : first_data (length d) ≤ i). laws.others with_temporary 0 0 d i s t id l here old new other apart)
      (cases_lt i (first_data (length d)))

  pub others_stay : OthersStay with_temporary
  others_stay d (Whole sector label page) other (inl root) apart =
      ap (λ (xs : List Sector). file_among with_temporary xs other) (laws.data_past with_temporary 0 0 d sector (label, page) (omega (arith, root.place, laws.first_positive with_temporary 0 0 (length d))))
  others_stay d (Whole sector label page) other (inr fresh) apart =
      one_sector d sector fresh.old.0 (label, page) label.id fresh.old.1.here (laws.only_none with_temporary 0 0 label.id fresh.old.0 (free_none fresh.old.0.0 fresh.old.2)) (only_self (label, page) label.id refl) other apart
  others_stay d (LabelOnly sector label) other write apart =
      let s : Sector = write.old.0 in
      let here : slice_get d sector ≡ Some s = write.old.1.here in
      let same : id_of d (LabelOnly sector label) ≡ s.0.id = ap (λ (o : Option Sector). option_map_or (λ (u : Sector). u.0.id) o 0) here in
      ap (λ (e : List Sector). disk_file with_temporary e other) (label_written d sector s label here)
      ∙ one_sector d sector s (label, s.1) s.0.id here (only_self s s.0.id refl) (new s label write.old.3) other (λ q. apart (q ∙ sym same))
    where
      new : (s : Sector) (label : Label) → IsNextLabel s.0 label → IsOnlyOf s.0.id (label, s.1)
      new s label (inl free) = laws.only_none with_temporary 0 0 s.0.id (label, s.1) (free_none label (ap is_free free))
      new s label (inr marked) = elim marked.1 [
        | inl e ↦ only_self (label, s.1) s.0.id (ap (λ (l : Label). l.id) e)
        | inr e ↦ only_self (label, s.1) s.0.id (ap (λ (l : Label). l.id) e)
      ]
  others_stay d (Page sector wanted page) other write apart =
      let s : Sector = write.old.0 in
      let here : slice_get d sector ≡ Some s = write.old.1 in
      let same : s.0.id ≡ wanted.id = named_id s.0 wanted write.old.2 in
      ap (λ (e : List Sector). disk_file with_temporary e other) (page_written d sector s wanted page here ∙ ap (λ (b : Bool). if b then slice_set d sector (s.0, page) else d) write.old.2)
      ∙ one_sector d sector s (s.0, page) s.0.id here (only_self s s.0.id refl) (only_self (s.0, page) s.0.id refl) other (λ q. apart (q ∙ same))

  pub others_stay_in_runs : OthersStayInRuns with_temporary
  others_stay_in_runs d writes other zero permitted none = refl
  others_stay_in_runs d [] other (suc k) permitted none = refl
  others_stay_in_runs d (write ∷ writes) other (suc k) permitted none =
      others_stay_in_runs (written write d) writes other k permitted.1 none.1 ∙ others_stay d write other permitted.0 none.0

  pub low_leaves : (d : List Sector) (i : ℕ) (t : Sector) → i < first_data (length d) → files_among with_temporary (slice_set d i t) ≡ files_among with_temporary d
  low_leaves d i t low = laws.same_files with_temporary 0 0 d (slice_set d i t) (λ id. ap (λ (xs : List Sector). file_among with_temporary xs id) (laws.data_past with_temporary 0 0 d i t low))

  pub page_leaves : (d : List Sector) (i : ℕ) (s : Sector) (page : List ℕ) (id k : ℕ) → HasData d i s → is_page id k s ≡ true → PageMayChange with_temporary d (slice_set d i (s.0, page)) id k page
  page_leaves d i s page id k holds is =
      let here = laws.data_get with_temporary 0 0 d i s holds.is_data holds.here in
      let only = laws.only_of with_temporary 0 0 id s (w.page_of with_temporary id k s is) in
      record {
        file = subst (λ (xs : List Sector). (file_among with_temporary xs id ≡ disk_file with_temporary d id) ⊎ (file_among with_temporary xs id ≡ option_map (with_page k (map byte page)) (disk_file with_temporary d id)))
            (sym (laws.data_set with_temporary 0 0 d i (s.0, page) holds.is_data))
            (w.page_written with_temporary (data_sectors d) (i - first_data (length d)) s (s.0, page) here id k is refl);
        others = λ other apart. one_sector d i s (s.0, page) id holds.here only only other apart;
      }

  -- no file has a reserved identifier, as those of root, maps and space tables
  pub reserved_have_none : (d : List Sector) (id : ℕ) → is_file_id id ≡ false → disk_file with_temporary d id ≡ None
  reserved_have_none d id reserved =
      w.file_none with_temporary (data_sectors d) id
      (ap (λ (o : Option Sector). option_map (λ (u : Sector). u.0) o) (find_none (leads_file with_temporary id) (data_sectors d) (λ j u at. either u (leads_file with_temporary id u) refl)))
    where
      either : (u : Sector) (b : Bool) → leads_file with_temporary id u ≡ b → leads_file with_temporary id u ≡ false
      either u false e = e
      either u true e =
          let p = and_parts (leads with_temporary u) (eqb u.0.id id) e in
          let q = and_parts (is_file u.0 && eqb u.0.page leader_page) (with_temporary || is_permanent u.0) p.0 in
          let r = and_parts (is_file u.0) (eqb u.0.page leader_page) q.0 in
          let f = and_parts (is_file_id u.0.id && nat_lt u.0.flags 4) (eqb u.0.last 0) r.0 in
          let g = and_parts (is_file_id u.0.id) (nat_lt u.0.flags 4) f.0 in
          absurd (true≢false (sym g.0 ∙ ap is_file_id (eqb-true u.0.id id p.1) ∙ reserved))

  pub leader_added : (d : List Sector) (i : ℕ) (s t : Sector) (id : ℕ) → HasData d i s → is_file s.0 ≡ false → leads_file with_temporary id t ≡ true → disk_file with_temporary d id ≡ None
      → FileAppears with_temporary d (slice_set d i t) id t.0
  leader_added d i s t id holds plain led none =
      let xs : List Sector = data_sectors d in
      let j : ℕ = i - first_data (length d) in
      let here : slice_get xs j ≡ Some s = laws.data_get with_temporary 0 0 d i s holds.is_data holds.here in
      let number : t.0.page ≡ leader_page = w.leader_number with_temporary id t led in
      let lead : leader_among with_temporary (slice_set xs j t) id ≡ Some t.0 =
      ap (λ (o : Option Sector). option_map (λ (u : Sector). u.0) o) (find_new (leads_file with_temporary id) xs j t (slice_get_within xs j s here) (w.none_leads with_temporary xs id none) led) in
      let pages : pages_from (page_at (slice_set xs j t) t.0.id) 0 leader_page ≡ pages_from (page_at xs t.0.id) 0 leader_page =
      pages_same (page_at xs t.0.id) (page_at (slice_set xs j t) t.0.id) 0 leader_page
      (λ k l m. w.page_past with_temporary xs j s t here t.0.id k (and_left (is_of t.0.id s) (eqb s.0.page k) (and_left (is_file s.0) (eqb s.0.id t.0.id) plain))
      (w.other_page with_temporary t.0.id leader_page k t number (λ q. omega (arith, q, m)))) in
      record {
        file = ap (λ (ys : List Sector). file_among with_temporary ys id) (laws.data_set with_temporary 0 0 d i t holds.is_data)
            ∙ ap (λ (o : Option Label). option_map (file_by (slice_set xs j t)) o) lead
            ∙ ap (λ (p : List Cells). Some (record { id = t.0.id; kind = t.0.kind; permanent = is_permanent t.0; immutable = is_immutable t.0; pages = p })) pages;
        others = λ other apart. one_sector d i s t id holds.here (laws.only_none with_temporary 0 0 id s plain) (laws.only_of with_temporary 0 0 id t (laws.leader_of with_temporary 0 0 id t led)) other apart;
      }

-- The flags of a file's label.

pub record Marked (old by_one by_two : ℕ) : Type 0 where
  pub few : nat_lt by_one 4 ≡ true
  pub permanent : eqb (by_one % 2) 1 ≡ true
  pub immutable_stays : eqb (by_one / 2 % 2) 1 ≡ eqb (old / 2 % 2) 1
  pub few_too : nat_lt by_two 4 ≡ true
  pub immutable : eqb (by_two / 2 % 2) 1 ≡ true
  pub permanent_stays : eqb (by_two % 2) 1 ≡ eqb (old % 2) 1

marked : (flags : ℕ) → flags < 4 → Marked flags (bit_or flags 1) (bit_or flags 2)
marked zero few = record { few = refl; permanent = refl; immutable_stays = refl; few_too = refl; immutable = refl; permanent_stays = refl }
marked (suc zero) few = record { few = refl; permanent = refl; immutable_stays = refl; few_too = refl; immutable = refl; permanent_stays = refl }
marked (suc (suc zero)) few = record { few = refl; permanent = refl; immutable_stays = refl; few_too = refl; immutable = refl; permanent_stays = refl }
marked (suc (suc (suc zero))) few = record { few = refl; permanent = refl; immutable_stays = refl; few_too = refl; immutable = refl; permanent_stays = refl }
marked (suc (suc (suc (suc n)))) few = absurd (omega (arith, few))

pub marks_are_added : MarksAreAdded
marks_are_added l is =
    let a = and_parts (is_file_id l.id && nat_lt l.flags 4) (eqb l.last 0) is in
    let b = and_parts (is_file_id l.id) (nat_lt l.flags 4) a.0 in
    let m = marked l.flags (ltb-true l.flags 4 b.1) in
    record {
      file = and_from (is_file_id l.id && nat_lt (bit_or l.flags 1) 4) (eqb l.last 0) (and_from (is_file_id l.id) (nat_lt (bit_or l.flags 1) 4) b.0 m.few) a.1;
      is_now_permanent = m.permanent;
      immutable_as_before = m.immutable_stays;
      file_too = and_from (is_file_id l.id && nat_lt (bit_or l.flags 2) 4) (eqb l.last 0) (and_from (is_file_id l.id) (nat_lt (bit_or l.flags 2) 4) b.0 m.few_too) a.1;
      is_now_immutable = m.immutable;
      permanent_as_before = m.permanent_stays;
    }
