-- The laws of writes, for a volume's root and maps too.
use Rattle.std.proofs.Common.{◌≡◌, ◌≢◌, ◌⊎◌, inl, inr, ⊎_elim, ℕ, ◌+◌, ◌<◌, ◌≤◌, Bool, true, false, ◌&&◌, List, map, length, Option, Some, None, refl, sym, ◌∙◌, ap, subst, arith, eqb, length-set, bit_or}
use Rattle.std.specs.Prelude.{slice_get, slice_set, option_map, if◌then◌else◌, IsTrue, IsSomeAnd}
use Rattle.std.specs.Option.{option_map_or}
use Rattle.std.proofs.lemmas.Option.{same_Some, none-some, slice_get_within, slice_get-map}
use Rattle.std.proofs.lemmas.Bool.{cases_lt, cases_eq, eqb-true, ne_eqb}
use Rattle.labelled_disk.specs.declared.label.Label.{Label}
use Rattle.labelled_disk.specs.declared.label.Wanted.{Wanted}
use Rattle.labelled_disk.specs.declared.disk.DiskWrite.TheVariants.{Whole, LabelOnly, Page}
use Rattle.labelled_disk.specs.Label.{is_file, is_free, names, leader_page}
use Rattle.labelled_disk.specs.Sectors.{Sector, free_label}
use Rattle.labelled_disk.specs.CrashState.{written}
use Rattle.labelled_disk.specs.Layout.{first_data, vam}
use Rattle.labelled_disk.specs.FilesOn.{disk_file, file_among}
use Rattle.labelled_disk.specs.Right.{FilesRight, OnlyMaps}
use Rattle.labelled_disk.specs.Root.{IsRoot, HasMaps, RightFor, page_in, number_at, serial_of, counter_of}
use Rattle.labelled_disk.specs.WriteLaws.{IsOnlyOf}
use Rattle.labelled_disk.specs.RootLaws.{DataWritten, RootWritten, MapWritten, MapsDiffer, OneFileAtMost}
use Rattle.labelled_disk.proofs.Finds.{get_set_same, get_set_other}
use Rattle.labelled_disk.proofs.WriteLemmas as laws

-- the label of a sector, if there is one
abbrev label_in : Option Sector → Option Label
label_in o = option_map (λ s. s.0) o

maps_kept : (d e : List Sector) → ((i : ℕ) → 1 ≤ i → i < first_data (length d) → label_in (slice_get e i) ≡ label_in (slice_get d i))
    → HasMaps (length d) d → HasMaps (length d) e
unfolding first_data
maps_kept d e labels maps = record {
  allocation = λ k l. named (1 + k) (record { id = 1; page = k }) (omega arith) (omega (arith, l)) (maps.allocation k l);
  file_map = λ k l. named (1 + vam (length d) + k) (record { id = 2; page = k }) (omega arith) (omega (arith, l)) (maps.file_map k l);
}
  where
    named : (i : ℕ) (w : Wanted) → 1 ≤ i → i < first_data (length d) → IsSomeAnd (slice_get d i) (λ s. IsTrue (names s.0 w)) → IsSomeAnd (slice_get e i) (λ s. IsTrue (names s.0 w))
    named i w high low is = either (slice_get d i) (slice_get e i) (labels i high low) is
      where
        either : (o p : Option Sector) → label_in p ≡ label_in o → IsSomeAnd o (λ s. IsTrue (names s.0 w)) → IsSomeAnd p (λ s. IsTrue (names s.0 w))
        either None p same h = absurd h
        either (Some s) None same h = absurd (none-some s.0 same)
        either (Some s) (Some t) same h = subst (λ (l : Label). IsTrue (names l w)) (sym (same_Some t.0 s.0 same)) h

-- another disk with the same root, and the same labels of the maps
pub right_still : (with_temporary : Bool) (d e : List Sector) → length e ≡ length d → slice_get e 0 ≡ slice_get d 0
    → ((i : ℕ) → 1 ≤ i → i < first_data (length d) → label_in (slice_get e i) ≡ label_in (slice_get d i))
    → FilesRight with_temporary (serial_of d) (counter_of d) e → RightFor with_temporary d → RightFor with_temporary e
right_still with_temporary d e long root labels files right = record {
  has_root = subst (λ (o : Option Sector). IsRoot (length e) o) (sym root) (subst (λ (n : ℕ). IsRoot n (slice_get d 0)) (sym long) right.has_root);
  has_maps = subst (λ (n : ℕ). HasMaps n e) (sym long) (maps_kept d e labels right.has_maps);
  files = subst (λ (o : Option Sector). FilesRight with_temporary (number_at (page_in o) 16) (number_at (page_in o) 20) e) (sym root) files;
}

pub only_self : (s : Sector) (id : ℕ) → s.0.id ≡ id → IsOnlyOf id s
only_self s id same other apart = right (is_file s.0) (ne_eqb s.0.id other (λ q. apart (sym q ∙ same)))
  where
    right : (a : Bool) → eqb s.0.id other ≡ false → (a && eqb s.0.id other) ≡ false
    right true e = e
    right false e = refl

-- a label with the identifier 0 is no file's
free_none : (l : Label) → is_free l ≡ true → is_file l ≡ false
free_none l free = either (is_file l) refl
  where
    either : (b : Bool) → is_file l ≡ b → is_file l ≡ false
    either false e = e
    either true e = absurd (omega (arith, (laws.file_id l e).0, eqb-true l.id 0 free))

label_written : (d : List Sector) (i : ℕ) (s : Sector) (label : Label) → slice_get d i ≡ Some s → written (LabelOnly i label) d ≡ slice_set d i (label, s.1)
label_written d i s label here = ap (λ (o : Option Sector). option_map_or (λ (old : Sector). slice_set d i (label, old.1)) o d) here

page_written : (d : List Sector) (i : ℕ) (s : Sector) (wanted : Wanted) (page : List ℕ) → slice_get d i ≡ Some s → names s.0 wanted ≡ true → written (Page i wanted page) d ≡ slice_set d i (s.0, page)
page_written d i s wanted page here named =
    ap (λ (o : Option Sector). option_map_or (λ (old : Sector). if names old.0 wanted then slice_set d i (old.0, page) else d) o d) here
    ∙ ap (λ (b : Bool). if b then slice_set d i (s.0, page) else d) named

module _ (with_temporary : Bool) where
  pub data_written : DataWritten with_temporary
  data_written d i s t right holds files =
      right_still with_temporary d (slice_set d i t) (length-set d i t)
      (get_set_other d i 0 t (λ e. omega (arith, e, holds.is_data, laws.first_positive with_temporary 0 0 (length d))))
      (λ j high low. ap label_in (get_set_other d i j t (λ e. omega (arith, e, low, holds.is_data))))
      files right

  pub root_written : RootWritten with_temporary
  root_written d t right valid serials counters =
      let long = length-set d 0 t in
      let first = laws.first_positive with_temporary (serial_of d) (counter_of d) (length d) in
      let within : 0 < length d = omega (arith, right.has_root.accepted.0) in
      let there : slice_get (slice_set d 0 t) 0 ≡ Some t = get_set_same d 0 t within in
      let low = laws.low_written with_temporary (serial_of d) (counter_of d) d 0 t right.files first in
      let raised : FilesRight with_temporary (serial_of d) (number_at t.1 20) (slice_set d 0 t) =
      laws.counter_raised with_temporary (serial_of d) (counter_of d) (slice_set d 0 t) (number_at t.1 20) counters low.right in
      let mine : FilesRight with_temporary (number_at t.1 16) (number_at t.1 20) (slice_set d 0 t) =
      subst (λ (n : ℕ). FilesRight with_temporary n (number_at t.1 20) (slice_set d 0 t)) (sym serials) raised in
      record {
        files = low.files;
        right = record {
          has_root = subst (λ (o : Option Sector). IsRoot (length (slice_set d 0 t)) o) (sym there) (subst (λ (n : ℕ). IsRoot n (Some t)) (sym long) valid);
          has_maps = subst (λ (n : ℕ). HasMaps n (slice_set d 0 t)) (sym long)
              (maps_kept d (slice_set d 0 t) (λ i high l. ap label_in (get_set_other d 0 i t (λ e. omega (arith, e, high)))) right.has_maps);
          files = subst (λ (o : Option Sector). FilesRight with_temporary (number_at (page_in o) 16) (number_at (page_in o) 20) (slice_set d 0 t)) (sym there) mine;
        };
      }

  same_label : (d e : List Sector) → OnlyMaps d e → (i : ℕ) → label_in (slice_get e i) ≡ label_in (slice_get d i)
  same_label d e only i =
      sym (slice_get-map (λ (s : Sector). s.0) e i) ∙ ap (λ (l : List Label). slice_get l i) only.labels ∙ slice_get-map (λ (s : Sector). s.0) d i

  pub maps_differ : MapsDiffer with_temporary
  maps_differ d e only right =
      let kept = laws.maps_may_differ with_temporary (serial_of d) (counter_of d) d e only right.files in
      record {
        files = kept.files;
        right = right_still with_temporary d e (laws.maps_length with_temporary 0 0 d e only) (only.pages 0 (inl refl)) (λ i high l. same_label d e only i) kept.right right;
      }

  pub map_written : MapWritten with_temporary
  map_written d i s page right high low here =
      maps_differ d (slice_set d i (s.0, page)) (record { labels = laws.same_elements with_temporary 0 0 _ _ each; pages = pages }) right
    where
      label : (j : ℕ) → (j ≡ i) ⊎ (j ≢ i) → label_in (slice_get (slice_set d i (s.0, page)) j) ≡ label_in (slice_get d j)
      label j (inr apart) = ap label_in (get_set_other d i j (s.0, page) apart)
      label j (inl e) =
          ap (λ (k : ℕ). label_in (slice_get (slice_set d i (s.0, page)) k)) e
          ∙ ap label_in (get_set_same d i (s.0, page) (slice_get_within d i s here))
          ∙ sym (ap (λ (k : ℕ). label_in (slice_get d k)) e ∙ ap label_in here)

      each : (j : ℕ) → slice_get (map (λ (u : Sector). u.0) (slice_set d i (s.0, page))) j ≡ slice_get (map (λ (u : Sector). u.0) d) j
      each j = slice_get-map (λ (u : Sector). u.0) (slice_set d i (s.0, page)) j ∙ label j (cases_eq j i) ∙ sym (slice_get-map (λ (u : Sector). u.0) d j)

      pages : (j : ℕ) → (j ≡ 0) ⊎ (first_data (length d) ≤ j) → slice_get (slice_set d i (s.0, page)) j ≡ slice_get d j
      pages j (inl e) = get_set_other d i j (s.0, page) (λ q. omega (arith, q, e, high))
      pages j (inr l) = get_set_other d i j (s.0, page) (λ q. omega (arith, q, l, low))

  -- no other file is changed where old and new label are of one
  one_sector : (d : List Sector) (i : ℕ) (s t : Sector) (id : ℕ) → slice_get d i ≡ Some s → IsOnlyOf id s → IsOnlyOf id t
      → (other : ℕ) → other ≢ id → disk_file with_temporary (slice_set d i t) other ≡ disk_file with_temporary d other
  one_sector d i s t id here old new other apart =
      ⊎_elim (λ (l : i < first_data (length d)). ap (λ (xs : List Sector). file_among with_temporary xs other) (laws.data_past with_temporary 0 0 d i t l))
      (λ (l : first_data (length d) ≤ i). laws.others with_temporary 0 0 d i s t id l here old new other apart)
      (cases_lt i (first_data (length d)))

  pub one_file_at_most : OneFileAtMost with_temporary
  one_file_at_most d (Whole sector label page) (inl root) =
      (0, λ other apart. ap (λ (xs : List Sector). file_among with_temporary xs other) (laws.data_past with_temporary 0 0 d sector (label, page) (omega (arith, root.place, laws.first_positive with_temporary 0 0 (length d)))))
  one_file_at_most d (Whole sector label page) (inr fresh) =
      (label.id, one_sector d sector fresh.old.0 (label, page) label.id fresh.old.1.here (laws.only_none with_temporary 0 0 label.id fresh.old.0 (free_none fresh.old.0.0 fresh.old.2)) (only_self (label, page) label.id refl))
  one_file_at_most d (LabelOnly sector label) write =
      let s : Sector = write.old.0 in (
        s.0.id,
        λ other apart. ap (λ (e : List Sector). disk_file with_temporary e other) (label_written d sector s label write.old.1.here)
            ∙ one_sector d sector s (label, s.1) s.0.id write.old.1.here (only_self s s.0.id refl) (new s label write.old.3) other apart,
      )
    where
      new : (s : Sector) (label : Label)
          → (label ≡ free_label) ⊎ ((s.0.page ≡ leader_page) × ((label ≡ record s.0 { flags = bit_or s.0.flags 1 }) ⊎ (label ≡ record s.0 { flags = bit_or s.0.flags 2 }))) → IsOnlyOf s.0.id (label, s.1)
      new s label (inl free) = laws.only_none with_temporary 0 0 s.0.id (label, s.1) (free_none label (ap is_free free))
      new s label (inr marked) = elim marked.1 [
        | inl e ↦ only_self (label, s.1) s.0.id (ap (λ (l : Label). l.id) e)
        | inr e ↦ only_self (label, s.1) s.0.id (ap (λ (l : Label). l.id) e)
      ]
  one_file_at_most d (Page sector wanted page) write =
      let s : Sector = write.old.0 in (
        s.0.id,
        λ other apart. ap (λ (e : List Sector). disk_file with_temporary e other) (page_written d sector s wanted page write.old.1 write.old.2)
            ∙ one_sector d sector s (s.0, page) s.0.id write.old.1 (only_self s s.0.id refl) (only_self (s.0, page) s.0.id refl) other apart,
      )
