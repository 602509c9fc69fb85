-- Disks with the same labels.
use Rattle.std.proofs.Common.{◌≡◌, ◌⊎◌, inl, inr, ℕ, zero, suc, ◌+◌, ◌<◌, ◌≤◌, ◌/◌, ◌%◌, ◌^◌, Bool, true, false, not, ◌&&◌, ◌||◌, cond, List, [], ◌∷◌, map, length, drop, take, Option, Some, None, refl, sym, ◌∙◌, ap, subst, arith, eqb}
use Rattle.std.specs.Prelude.{slice_get, option_map, find, nat_lt}
use Rattle.std.specs.Option.{option_map_or}
use Rattle.std.specs.List.{position_or_len, AllZip}
use Rattle.std.proofs.lemmas.Option.{same_Some, none-some, slice_get-map, slice_get_past}
use Rattle.std.proofs.lemmas.Bool.{cases_lt}
use Rattle.std.proofs.lemmas.List.{length-map, drop-map}
use Rattle.std.proofs.lemmas.List.Sums.{sum_by-cons}
use Rattle.labelled_disk.specs.declared.label.Label.{Label}
use Rattle.labelled_disk.specs.Label.{is_permanent, is_immutable, leader_page}
use Rattle.labelled_disk.specs.Sectors.{Sector}
use Rattle.labelled_disk.specs.CrashState.{crash_state}
use Rattle.labelled_disk.specs.Layout.{data_sectors, first_data}
use Rattle.labelled_disk.specs.File.{File, Page, byte, size, file_at, room_of, total_room}
use Rattle.labelled_disk.specs.FilesOn.{is_of, is_page, leads_file, leader_among, page_at, pages_from, file_by, file_among, files_among, disk_file}
use Rattle.labelled_disk.specs.Lowest.{is_first, is_needed}
use Rattle.labelled_disk.specs.Right.{FilesRight, IsWhole, IsGiven}
use Rattle.labelled_disk.specs.Ascending.{BothBy}
use Rattle.labelled_disk.proofs.Pages.{pages_more, pages_end, pages_zero}
use Rattle.labelled_disk.proofs.AscendingLemmas.{zip_by_look_up}
use Rattle.labelled_disk.proofs.WriteLemmas as laws
use Rattle.label_laws.specs.Mixed.{labels, label_writes}
use Rattle.label_laws.specs.Shape.{BareFile, bare_file, LabelsGiveShape, MixedShapes, SameByPages}
use Rattle.label_laws.proofs.MixedLemmas.{labels_by_label_writes}

-- Tests of labels.
module _ (test : Label → Bool) where
  find_labels : (xs : List Sector) → option_map (λ s. s.0) (find (λ s. test s.0) xs) ≡ find test (labels xs)
  find_labels [] = refl
  find_labels (x ∷ xs) = either (test x.0) (find_labels xs)
    where
      either : (b : Bool) → option_map (λ s. s.0) (find (λ s. test s.0) xs) ≡ find test (labels xs)
          → option_map (λ s. s.0) (cond b (Some x) (find (λ s. test s.0) xs)) ≡ cond b (Some x.0) (find test (labels xs))
      either true more = refl
      either false more = more

  position_labels : (xs : List Sector) → position_or_len (λ s. test s.0) xs ≡ position_or_len test (labels xs)
  position_labels [] = refl
  position_labels (x ∷ xs) = ap (λ (n : ℕ). cond (not (test x.0)) (1 + n) 0) (position_labels xs)

  find_alike : (xs ys : List Sector) → labels ys ≡ labels xs → option_map (λ s. s.0) (find (λ s. test s.0) ys) ≡ option_map (λ s. s.0) (find (λ s. test s.0) xs)
  find_alike xs ys same = find_labels ys ∙ ap (λ (l : List Label). find test l) same ∙ sym (find_labels xs)

  first_alike : (xs ys : List Sector) → labels ys ≡ labels xs → (i : ℕ) → is_first (λ s. test s.0) ys i ≡ is_first (λ s. test s.0) xs i
  first_alike xs ys same i = ap (λ (n : ℕ). eqb n i) (position_labels ys ∙ ap (λ (l : List Label). position_or_len test l) same ∙ sym (position_labels xs))

-- a sector of the other disk has the same label
label_at : (xs ys : List Sector) → labels ys ≡ labels xs → (j : ℕ) (u : Sector) → slice_get ys j ≡ Some u → (s : Sector) × (slice_get xs j ≡ Some s) × (s.0 ≡ u.0)
label_at xs ys same j u at =
    either (slice_get xs j) refl
    (sym (slice_get-map (λ (s : Sector). s.0) xs j) ∙ ap (λ (l : List Label). slice_get l j) (sym same) ∙ slice_get-map (λ (s : Sector). s.0) ys j ∙ ap (λ (o : Option Sector). option_map (λ s. s.0) o) at)
  where
    either : (o : Option Sector) → slice_get xs j ≡ o → option_map (λ s. s.0) o ≡ Some u.0 → (s : Sector) × (slice_get xs j ≡ Some s) × (s.0 ≡ u.0)
    either None e h = absurd (none-some u.0 h)
    either (Some s) e h = (s, e, same_Some s.0 u.0 h)

none_at : (xs ys : List Sector) → labels ys ≡ labels xs → (j : ℕ) → slice_get ys j ≡ None → slice_get xs j ≡ None
none_at xs ys same j at =
    either (slice_get xs j) refl
    (sym (slice_get-map (λ (s : Sector). s.0) xs j) ∙ ap (λ (l : List Label). slice_get l j) (sym same) ∙ slice_get-map (λ (s : Sector). s.0) ys j ∙ ap (λ (o : Option Sector). option_map (λ s. s.0) o) at)
  where
    either : (o : Option Sector) → slice_get xs j ≡ o → option_map (λ s. s.0) o ≡ None → slice_get xs j ≡ None
    either None e h = e
    either (Some s) e h = absurd (none-some s.0 (sym h))

-- as many pages
pages_alike : (xs ys : List Sector) → labels ys ≡ labels xs → (id k n : ℕ) → length (pages_from (page_at ys id) k n) ≡ length (pages_from (page_at xs id) k n)
pages_alike xs ys same id k zero = ap (λ (l : List Page). length l) (pages_zero (page_at ys id) k ∙ sym (pages_zero (page_at xs id) k))
pages_alike xs ys same id k (suc n) =
    either (find (is_page id k) xs) refl (find (is_page id k) ys) refl (find_alike (λ (l : Label). is_page id k (l, [])) xs ys same) (pages_alike xs ys same id (k + 1) n)
  where
    seen : (zs : List Sector) (o : Option Sector) → find (is_page id k) zs ≡ o → page_at zs id k ≡ option_map (λ (u : Sector). map byte u.1) o
    seen zs o e = ap (λ (p : Option Sector). option_map (λ (u : Sector). map byte u.1) p) e

    either : (o : Option Sector) → find (is_page id k) xs ≡ o → (p : Option Sector) → find (is_page id k) ys ≡ p
        → option_map (λ s. s.0) (find (is_page id k) ys) ≡ option_map (λ s. s.0) (find (is_page id k) xs)
        → length (pages_from (page_at ys id) (k + 1) n) ≡ length (pages_from (page_at xs id) (k + 1) n)
        → length (pages_from (page_at ys id) k (suc n)) ≡ length (pages_from (page_at xs id) k (suc n))
    either None e None f alike more = ap (λ (l : List Page). length l) (pages_end (page_at ys id) k (suc n) (seen ys None f) ∙ sym (pages_end (page_at xs id) k (suc n) (seen xs None e)))
    either None e (Some t) f alike more =
        absurd (none-some t.0 (sym (sym (ap (λ (o : Option Sector). option_map (λ s. s.0) o) f) ∙ alike ∙ ap (λ (o : Option Sector). option_map (λ s. s.0) o) e)))
    either (Some s) e None f alike more =
        absurd (none-some s.0 (sym (ap (λ (o : Option Sector). option_map (λ s. s.0) o) f) ∙ alike ∙ ap (λ (o : Option Sector). option_map (λ s. s.0) o) e))
    either (Some s) e (Some t) f alike more =
        let a = ap (λ (l : List Page). length l) (pages_more (page_at ys id) k n (map byte t.1) (seen ys (Some t) f)) in
        let b = ap (λ (l : List Page). length l) (pages_more (page_at xs id) k n (map byte s.1) (seen xs (Some s) e)) in
        omega (arith, a, b, more)

-- the labels of the data
pub data_labels : (d e : List Sector) → labels e ≡ labels d → labels (data_sectors e) ≡ labels (data_sectors d)
data_labels d e same =
    let long : length e ≡ length d = sym (length-map e (λ (s : Sector). s.0)) ∙ ap (λ (l : List Label). length l) same ∙ length-map d (λ (s : Sector). s.0) in
    sym (drop-map (λ (s : Sector). s.0) (first_data (length e)) e)
    ∙ ap (λ (n : ℕ). drop (first_data n) (labels e)) long
    ∙ ap (λ (l : List Label). drop (first_data (length d)) l) same
    ∙ drop-map (λ (s : Sector). s.0) (first_data (length d)) d

-- a file with the same shape is whole
whole_alike : (xs ys : List Sector) → labels ys ≡ labels xs → (f g : File) → g.id ≡ f.id → size g ≡ size f → IsWhole xs f → IsWhole ys g
whole_alike xs ys same f g ids long whole = record {
  no_other = λ j u at of.
      let s = label_at xs ys same j u at in
      elim (whole.no_other j s.0 s.1 (back u s.0 s.2 of)) [
        | inl h ↦ inl (ap (λ (l : Label). l.page) (sym s.2) ∙ h)
        | inr h ↦ inr (omega (arith, h, long, ap (λ (l : Label). l.page) s.2))
      ];
  once = λ j k u v at_j at_k of_u of_v pages.
      let s = label_at xs ys same j u at_j in
      let t = label_at xs ys same k v at_k in
      whole.once j k s.0 t.0 s.1 t.1 (back u s.0 s.2 of_u) (back v t.0 t.2 of_v) (ap (λ (l : Label). l.page) s.2 ∙ pages ∙ ap (λ (l : Label). l.page) (sym t.2));
}
  where
    back : (u s : Sector) → s.0 ≡ u.0 → is_of g.id u ≡ true → is_of f.id s ≡ true
    back u s is of = ap (λ (l : Label). is_of f.id (l, [])) is ∙ ap (λ (n : ℕ). is_of n u) (sym ids) ∙ of

-- files of the same shapes need as much room
room_zip : (fs gs : List File) → AllZip (λ f g. bare_file f ≡ bare_file g) fs gs → total_room fs ≡ total_room gs
room_zip [] [] all = refl
room_zip [] (g ∷ gs) all = absurd all
room_zip (f ∷ fs) [] all = absurd all
room_zip (f ∷ fs) (g ∷ gs) all = omega (arith, sum_by-cons room_of f fs, sum_by-cons room_of g gs, ap (λ (s : BareFile). s.pages) all.0, room_zip fs gs all.1)

both_shapes : (o p : Option File) → option_map bare_file o ≡ option_map bare_file p → BothBy (λ f g. bare_file f ≡ bare_file g) o p
both_shapes None None e = tt
both_shapes None (Some g) e = none-some (bare_file g) e
both_shapes (Some f) None e = none-some (bare_file f) (sym e)
both_shapes (Some f) (Some g) e = same_Some (bare_file f) (bare_file g) e

pub same_by_pages : SameByPages
same_by_pages f g alike pages = whole f g alike (laws.same_elements true 0 0 g.pages f.pages (λ p. at p (cases_lt p (size f))))
  where
    at : (p : ℕ) → (p < size f) ⊎ (size f ≤ p) → slice_get g.pages p ≡ slice_get f.pages p
    at p (inl low) = pages p low
    at p (inr high) = slice_get_past g.pages p (omega (arith, high, ap (λ (s : BareFile). s.pages) alike)) ∙ sym (slice_get_past f.pages p high)

    whole : (f g : File) → bare_file g ≡ bare_file f → g.pages ≡ f.pages → g ≡ f
    whole f g alike same = λ x. record { id = (alike x).id; kind = (alike x).kind; permanent = (alike x).permanent; immutable = (alike x).immutable; pages = same x }

module _ (with_temporary : Bool) where
  shapes : (xs ys : List Sector) → labels ys ≡ labels xs → (id : ℕ) → option_map bare_file (file_among with_temporary ys id) ≡ option_map bare_file (file_among with_temporary xs id)
  shapes xs ys same id =
      ap (λ (o : Option Label). option_map bare_file (option_map (file_by ys) o)) (find_alike (λ (l : Label). leads_file with_temporary id (l, [])) xs ys same)
      ∙ either (leader_among with_temporary xs id)
    where
      either : (o : Option Label) → option_map bare_file (option_map (file_by ys) o) ≡ option_map bare_file (option_map (file_by xs) o)
      either None = refl
      either (Some l) =
          ap (λ (n : ℕ). Some (record { id = l.id; kind = l.kind; permanent = is_permanent l; immutable = is_immutable l; pages = n })) (pages_alike xs ys same l.id 0 leader_page)

  room_alike : (d e : List Sector) → labels e ≡ labels d → total_room (files_among with_temporary e) ≡ total_room (files_among with_temporary d)
  room_alike d e same =
      room_zip (files_among with_temporary e) (files_among with_temporary d)
      (zip_by_look_up (λ f g. bare_file f ≡ bare_file g) (λ f g is. ap (λ (s : BareFile). s.id) is) (files_among with_temporary e) (files_among with_temporary d)
      (laws.files_on_rise with_temporary 0 0 e) (laws.files_on_rise with_temporary 0 0 d)
      (λ id. both_shapes (file_at (files_among with_temporary e) id) (file_at (files_among with_temporary d) id)
      (ap (λ (o : Option File). option_map bare_file o) (laws.look_up with_temporary 0 0 e id) ∙ shapes (data_sectors d) (data_sectors e) (data_labels d e same) id
      ∙ ap (λ (o : Option File). option_map bare_file o) (sym (laws.look_up with_temporary 0 0 d id)))))

  -- what labels say of need
  abbrev needs_by : List Sector → ℕ → Label → ℕ → Bool
  needs_by xs i l n = is_first (leads_file with_temporary l.id) xs i || (nat_lt l.page n && is_first (is_page l.id l.page) xs i)

  needs_alike : (xs ys : List Sector) → labels ys ≡ labels xs → (i : ℕ) (l : Label) (n : ℕ) → needs_by ys i l n ≡ needs_by xs i l n
  needs_alike xs ys same i l n =
      ap (λ (b : Bool). b || (nat_lt l.page n && is_first (is_page l.id l.page) ys i)) (first_alike (λ (m : Label). leads_file with_temporary l.id (m, [])) xs ys same i)
      ∙ ap (λ (b : Bool). is_first (leads_file with_temporary l.id) xs i || (nat_lt l.page n && b)) (first_alike (λ (m : Label). is_page l.id l.page (m, [])) xs ys same i)

  needed_alike : (xs ys : List Sector) → labels ys ≡ labels xs → (i : ℕ) → is_needed with_temporary ys i ≡ is_needed with_temporary xs i
  needed_alike xs ys same i = either (slice_get ys i) refl
    where
      at : List Sector → ℕ → Option Sector → Bool
      at zs i o = option_map_or (λ s. option_map_or (λ f. needs_by zs i s.0 (size f)) (file_among with_temporary zs s.0.id) false) o false

      by_shape : (zs : List Sector) (l : Label) (o : Option File) → option_map_or (λ f. needs_by zs i l (size f)) o false ≡ option_map_or (λ (s : BareFile). needs_by zs i l s.pages) (option_map bare_file o) false
      by_shape zs l None = refl
      by_shape zs l (Some f) = refl

      by_need : (l : Label) (o : Option BareFile) → option_map_or (λ (s : BareFile). needs_by ys i l s.pages) o false ≡ option_map_or (λ (s : BareFile). needs_by xs i l s.pages) o false
      by_need l None = refl
      by_need l (Some s) = needs_alike xs ys same i l s.pages

      by_label : (l : Label) → option_map_or (λ f. needs_by ys i l (size f)) (file_among with_temporary ys l.id) false ≡ option_map_or (λ f. needs_by xs i l (size f)) (file_among with_temporary xs l.id) false
      by_label l =
          by_shape ys l (file_among with_temporary ys l.id)
          ∙ ap (λ (o : Option BareFile). option_map_or (λ (s : BareFile). needs_by ys i l s.pages) o false) (shapes xs ys same l.id)
          ∙ by_need l (option_map bare_file (file_among with_temporary xs l.id))
          ∙ sym (by_shape xs l (file_among with_temporary xs l.id))

      either : (o : Option Sector) → slice_get ys i ≡ o → is_needed with_temporary ys i ≡ is_needed with_temporary xs i
      either None e =
          ap (λ (o : Option Sector). option_map_or (λ s. option_map_or (λ f. needs_by ys i s.0 (size f)) (file_among with_temporary ys s.0.id) false) o false) e
          ∙ sym (ap (λ (o : Option Sector). option_map_or (λ s. option_map_or (λ f. needs_by xs i s.0 (size f)) (file_among with_temporary xs s.0.id) false) o false) (none_at xs ys same i e))
      either (Some u) e =
          let s = label_at xs ys same i u e in
          ap (λ (o : Option Sector). option_map_or (λ s. option_map_or (λ f. needs_by ys i s.0 (size f)) (file_among with_temporary ys s.0.id) false) o false) e
          ∙ by_label u.0
          ∙ ap (λ (l : Label). option_map_or (λ f. needs_by xs i l (size f)) (file_among with_temporary xs l.id) false) (sym s.2)
          ∙ sym (ap (λ (o : Option Sector). option_map_or (λ s. option_map_or (λ f. needs_by xs i s.0 (size f)) (file_among with_temporary xs s.0.id) false) o false) s.1)

  pub right_alike : (d e : List Sector) → labels e ≡ labels d → (serial counter : ℕ) → FilesRight with_temporary serial counter d → FilesRight with_temporary serial counter e
  right_alike d e same serial counter right =
      let long : length e ≡ length d = sym (length-map e (λ (s : Sector). s.0)) ∙ ap (λ (l : List Label). length l) same ∙ length-map d (λ (s : Sector). s.0) in
      laws.labels_kept with_temporary serial counter d e long
      (λ id g is. either id g (disk_file with_temporary d id) refl (sym (ap (λ (o : Option File). option_map bare_file o) is) ∙ shapes (data_sectors d) (data_sectors e) (data_labels d e same) id))
      (omega (arith, room_alike d e same, right.room)) right
    where
      either : (id : ℕ) (g : File) (o : Option File) → disk_file with_temporary d id ≡ o → Some (bare_file g) ≡ option_map bare_file (disk_file with_temporary d id) → IsWhole (data_sectors e) g × IsGiven serial counter g
      either id g None e1 h = absurd (none-some (bare_file g) (sym (h ∙ ap (λ (o : Option File). option_map bare_file o) e1)))
      either id g (Some f) e1 h =
          let alike : bare_file g ≡ bare_file f = same_Some (bare_file g) (bare_file f) (h ∙ ap (λ (o : Option File). option_map bare_file o) e1) in
          let ids : g.id ≡ f.id = ap (λ (s : BareFile). s.id) alike in (
            whole_alike (data_sectors d) (data_sectors e) (data_labels d e same) f g ids (ap (λ (s : BareFile). s.pages) alike)
                (laws.of_file with_temporary serial counter (IsWhole (data_sectors d)) d right.whole_files id f e1),
            subst (λ (n : ℕ). n / 2 ^ 32 ≡ serial → n % 2 ^ 32 < counter) (sym ids) (laws.of_file with_temporary serial counter (IsGiven serial counter) d right.ids_given id f e1),
          )

  pub labels_give_shape : LabelsGiveShape with_temporary
  labels_give_shape d e same = record {
    shapes = shapes (data_sectors d) (data_sectors e) (data_labels d e same);
    room = room_alike d e same;
    needed = needed_alike (data_sectors d) (data_sectors e) (data_labels d e same);
    right = right_alike d e same;
  }

  pub mixed_shapes : MixedShapes with_temporary
  mixed_shapes d writes k = labels_give_shape (crash_state d (label_writes writes) (length (label_writes (take k writes)))) (crash_state d writes k) (labels_by_label_writes d writes k)
