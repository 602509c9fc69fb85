-- A stop among the writes of a call.
use Rattle.std.proofs.Common.{◌≡◌, ◌⊎◌, inl, inr, ℕ, ◌+◌, ◌<◌, Bool, true, false, ◌||◌, ◌&&◌, List, map, length, drop, Option, Some, None, refl, sym, ◌∙◌, ap, subst, arith}
use Rattle.std.specs.Prelude.{slice_get, option_map, find, ◌==◌, IsTrue, IsSomeAnd, ◌/◌, ◌%◌, ◌^◌}
use Rattle.std.specs.List.{AllZip}
use Rattle.std.proofs.lemmas.Option.{same_Some, none-some, slice_get_within, slice_get-map}
use Rattle.std.proofs.lemmas.Bool.{and_parts, eqb-true}
use Rattle.std.proofs.lemmas.List.{length-map}
use Rattle.labelled_disk.specs.declared.label.Label.{Label}
use Rattle.labelled_disk.specs.Label.{is_file, names, is_permanent, leader_page}
use Rattle.labelled_disk.specs.Layout.{data_sectors, first_data}
use Rattle.labelled_disk.specs.Sectors.{Sector, AreSectors}
use Rattle.labelled_disk.specs.File.{File, Page, byte, any_page, file_at, size, total_room}
use Rattle.labelled_disk.specs.Right.{IsWhole, IsGiven}
use Rattle.labelled_disk.specs.FilesOn.{is_of, disk_file, file_by, files_on, is_page, page_at, pages_from}
use Rattle.labelled_disk.specs.Ascending.{BothBy}
use Rattle.labelled_disk.specs.Root.{serial_of, counter_of}
use Rattle.labelled_disk.proofs.RootLemmas.{right_still}
use Rattle.labelled_disk.proofs.Pages.{pages_each}
use Rattle.labelled_disk.proofs.AscendingLemmas.{zip_by_look_up}
use Rattle.labelled_disk.proofs.SectorWrites as w
use Rattle.labelled_disk.proofs.WriteLemmas as laws
use Rattle.flat_machine.specs.declared.space.FilePage.{FilePage}
use Rattle.flat_machine.specs.Settled.{FileAgrees, PageAgrees}
use Rattle.swapper_kernel.specs.Stands.{labels_of}
use Rattle.swapper_kernel.specs.Differs.{Differs}
use Rattle.session_words.specs.Parts.{is_loose, is_loose_at}
use Rattle.session_words.specs.StopLaws.{LooseAgree, LooseRight, AreAnyWhereUnforced, StopLaws}
use Rattle.session_words.proofs.SettledLemmas.{same_rooms}
use Rattle.swapper_kernel.specs.DiffersLaws.{same_length, same_place, other_sector}
use Rattle.session_words.proofs.LooseLemmas.{firm_root, names_id}
use Rattle.session_words.proofs.CellLemmas.{any_agrees}
use Rattle.session_words.proofs.SameLabelLemmas.{found_both, pages_long, same_data_labels, zip_at, zip_by_place, zip_long, zip_looked}
use Rattle.session_words.proofs.CrashStateLemmas.{few_labels, crash_states_are_like}

module _ (unforced : List FilePage) (d e : List Sector) (differs : Differs (is_loose_at unforced) d e) (are : AreSectors e) where
  start : data_sectors e ≡ drop (first_data (length d)) e
  start = ap (λ (n : ℕ). drop (first_data n) e) (same_length d e differs.labels)

  labels : labels_of (data_sectors e) ≡ labels_of (data_sectors d)
  labels = same_data_labels d e differs.labels

  -- a sector among the data
  in_d : (i : ℕ) (s : Sector) → slice_get (data_sectors d) i ≡ Some s → slice_get d (first_data (length d) + i) ≡ Some s
  in_d i s at = sym (laws.get_drop (first_data (length d)) d i) ∙ at

  in_e : (i : ℕ) (s : Sector) → slice_get (data_sectors e) i ≡ Some s → slice_get e (first_data (length d) + i) ≡ Some s
  in_e i s at = sym (laws.get_drop (first_data (length d)) e i) ∙ ap (λ (l : List Sector). slice_get l i) (sym start) ∙ at

  module _ (id : ℕ) where
    both_pages : (k : ℕ) → ((page_at (data_sectors d) id k ≡ None) × (page_at (data_sectors e) id k ≡ None))
        ⊎ ((p : Page) × (q : Page) × (page_at (data_sectors d) id k ≡ Some p) × (page_at (data_sectors e) id k ≡ Some q))
    both_pages k = elim (found_both (λ l. is_file l && (l.id == id) && (l.page == k)) (data_sectors d) (data_sectors e) labels) [
      | inl (a, b) ↦ inl (ap (option_map (λ (s : Sector). map byte s.1)) a, ap (option_map (λ (s : Sector). map byte s.1)) b)
      | inr f ↦ inr (map byte f.x.1, map byte f.y.1, ap (option_map (λ (s : Sector). map byte s.1)) f.in_x, ap (option_map (λ (s : Sector). map byte s.1)) f.in_y)
    ]

    -- the other page is the same, or the page is loose and the other one is whole
    other_page : (k : ℕ) (q : Page) → page_at (data_sectors e) id k ≡ Some q → (page_at (data_sectors d) id k ≡ Some q) ⊎ ((is_loose unforced id k ≡ true) × (length q ≡ 512))
    other_page k q at = elim (found_both (λ l. is_file l && (l.id == id) && (l.page == k)) (data_sectors d) (data_sectors e) labels) [
      | inl (a, b) ↦ absurd (none-some q (sym (ap (option_map (λ (s : Sector). map byte s.1)) b) ∙ at))
      | inr f ↦
          let same : map byte f.y.1 ≡ q = same_Some (map byte f.y.1) q (sym (ap (option_map (λ (s : Sector). map byte s.1)) f.in_y) ∙ at) in
          let parts = and_parts (is_file f.x.0 && (f.x.0.id == id)) (f.x.0.page == k) f.passes in
          let ids = eqb-true f.x.0.id id (and_parts (is_file f.x.0) (f.x.0.id == id) parts.0).1 in
          let pages = eqb-true f.x.0.page k parts.1 in
          either (is_loose unforced id k) refl f.place f.x f.y f.at_x f.at_y f.in_x same (λ i. is_loose unforced (ids i) (pages i))
    ]
      where
        either : (b : Bool) → is_loose unforced id k ≡ b → (place : ℕ) (x y : Sector) → slice_get (data_sectors d) place ≡ Some x → slice_get (data_sectors e) place ≡ Some y
            → find (is_page id k) (data_sectors d) ≡ Some x → map byte y.1 ≡ q → is_loose unforced x.0.id x.0.page ≡ is_loose unforced id k → (page_at (data_sectors d) id k ≡ Some q) ⊎ ((is_loose unforced id k ≡ true) × (length q ≡ 512))
        either true l place x y at_x at_y in_x same loose = inr (l, ap (λ (p : Page). length p) (sym same) ∙ length-map y.1 byte ∙ (are (first_data (length d) + place) y (in_e place y at_y)).whole_page)
        either false l place x y at_x at_y in_x same loose =
            let stays = differs.pages (first_data (length d) + place) x (in_d place x at_x) (loose ∙ l) in
            let xy : x ≡ y = same_Some x y (sym stays ∙ in_e place y at_y) in
            inl (ap (option_map (λ (s : Sector). map byte s.1)) in_x ∙ ap (λ (s : Sector). Some (map byte s.1)) xy ∙ ap (λ (p : Page). Some p) same)

    long : length (pages_from (page_at (data_sectors e) id) 0 leader_page) ≡ length (pages_from (page_at (data_sectors d) id) 0 leader_page)
    long = pages_long (page_at (data_sectors d) id) (page_at (data_sectors e) id) 0 leader_page both_pages

    pages_agree : (gs : List Page) → ((k : ℕ) (q : Page) → slice_get gs k ≡ Some q → is_loose unforced id k ≡ true → q ≡ any_page)
        → AllZip PageAgrees (pages_from (page_at (data_sectors d) id) 0 leader_page) gs → AllZip PageAgrees (pages_from (page_at (data_sectors e) id) 0 leader_page) gs
    pages_agree gs any_there all = zip_by_place PageAgrees (pages_from (page_at (data_sectors e) id) 0 leader_page) gs (long ∙ zip_long PageAgrees (pages_from (page_at (data_sectors d) id) 0 leader_page) gs all)
        (λ k p q at bt.
        let z : 0 + k ≡ k = omega arith in
        let below : k < length (pages_from (page_at (data_sectors e) id) 0 leader_page) = slice_get_within (pages_from (page_at (data_sectors e) id) 0 leader_page) k p at in
        let here : page_at (data_sectors e) id k ≡ Some p = ap (page_at (data_sectors e) id) (sym z) ∙ sym (pages_each (page_at (data_sectors e) id) 0 leader_page k below) ∙ at in
        elim (other_page k p here) [
          | inl same ↦ zip_at PageAgrees (pages_from (page_at (data_sectors d) id) 0 leader_page) gs all k p q
              (pages_each (page_at (data_sectors d) id) 0 leader_page k (omega (arith, below, long)) ∙ ap (page_at (data_sectors d) id) z ∙ same) bt
          | inr (l, whole) ↦ subst (PageAgrees p) (sym (any_there k q bt l)) (any_agrees p whole)
        ])

  file_agrees : (gs : List File) → AreAnyWhereUnforced unforced gs → (id : ℕ) → BothBy FileAgrees (disk_file false d id) (file_at gs id) → BothBy FileAgrees (disk_file false e id) (file_at gs id)
  file_agrees gs any_there id both = elim (found_both (λ l. is_file l && (l.page == leader_page) && (false || is_permanent l) && (l.id == id)) (data_sectors d) (data_sectors e) labels) [
    | inl (a, b) ↦
        let of_d : disk_file false d id ≡ None = ap (λ (o : Option Sector). option_map (file_by (data_sectors d)) (option_map (λ (s : Sector). s.0) o)) a in
        let of_e : disk_file false e id ≡ None = ap (λ (o : Option Sector). option_map (file_by (data_sectors e)) (option_map (λ (s : Sector). s.0) o)) b in
        subst (λ (o : Option File). BothBy FileAgrees o (file_at gs id)) (of_d ∙ sym of_e) both
    | inr f ↦
        let of_d : disk_file false d id ≡ Some (file_by (data_sectors d) f.x.0) = ap (λ (o : Option Sector). option_map (file_by (data_sectors d)) (option_map (λ (s : Sector). s.0) o)) f.in_x in
        let of_e : disk_file false e id ≡ Some (file_by (data_sectors e) f.x.0) =
        ap (λ (o : Option Sector). option_map (file_by (data_sectors e)) (option_map (λ (s : Sector). s.0) o)) f.in_y ∙ ap (λ (l : Label). Some (file_by (data_sectors e) l)) (sym f.label) in
        subst (λ (o : Option File). BothBy FileAgrees o (file_at gs id)) (sym of_e)
        (either f.x.0 (file_at gs id) refl (w.leader_id false id f.x f.passes) (subst (λ (o : Option File). BothBy FileAgrees o (file_at gs id)) of_d both))
  ]
    where
      either : (l : Label) (o : Option File) → file_at gs id ≡ o → l.id ≡ id → BothBy FileAgrees (Some (file_by (data_sectors d) l)) o → BothBy FileAgrees (Some (file_by (data_sectors e) l)) o
      either l None at own h = h
      either l (Some g) at own h = record {
        same_id = h.same_id;
        same_kind = h.same_kind;
        same_immutable = h.same_immutable;
        pages_agree = pages_agree l.id g.pages (λ k q bt loose. any_there id k g q at bt (ap (λ (n : ℕ). is_loose unforced n k) (sym own) ∙ loose)) h.pages_agree;
      }

pub loose_agree : LooseAgree
loose_agree unforced d e gs differs are ascending any_there all =
    zip_by_look_up FileAgrees (λ f g a. a.same_id) (files_on e) gs (laws.files_on_rise false 0 0 e) ascending
    (λ id. subst (λ (o : Option File). BothBy FileAgrees o (file_at gs id)) (sym (laws.look_up false 0 0 e id))
    (file_agrees unforced d e differs are gs any_there id
    (subst (λ (o : Option File). BothBy FileAgrees o (file_at gs id)) (laws.look_up false 0 0 d id) (zip_looked FileAgrees (λ f g a. a.same_id) (files_on d) gs all id))))

-- Right labels.

record SameShape (f g : File) : Type 0 where
  same_id : f.id ≡ g.id
  same_size : size f ≡ size g

module _ (unforced : List FilePage) (d e : List Sector) (differs : Differs (is_loose_at unforced) d e) where
  -- lengths of pages, as in both
  both_there : (id k : ℕ) → ((page_at (data_sectors d) id k ≡ None) × (page_at (data_sectors e) id k ≡ None))
      ⊎ ((p : Page) × (q : Page) × (page_at (data_sectors d) id k ≡ Some p) × (page_at (data_sectors e) id k ≡ Some q))
  both_there id k = elim (found_both (λ l. is_file l && (l.id == id) && (l.page == k)) (data_sectors d) (data_sectors e) (same_data_labels d e differs.labels)) [
    | inl (a, b) ↦ inl (ap (option_map (λ (s : Sector). map byte s.1)) a, ap (option_map (λ (s : Sector). map byte s.1)) b)
    | inr f ↦ inr (map byte f.x.1, map byte f.y.1, ap (option_map (λ (s : Sector). map byte s.1)) f.in_x, ap (option_map (λ (s : Sector). map byte s.1)) f.in_y)
  ]

  both_files : (id : ℕ) → BothBy SameShape (disk_file false e id) (disk_file false d id)
  both_files id = elim (found_both (λ l. is_file l && (l.page == leader_page) && (false || is_permanent l) && (l.id == id)) (data_sectors d) (data_sectors e) (same_data_labels d e differs.labels)) [
    | inl (a, b) ↦
        let of_d : disk_file false d id ≡ None = ap (λ (o : Option Sector). option_map (file_by (data_sectors d)) (option_map (λ (s : Sector). s.0) o)) a in
        let of_e : disk_file false e id ≡ None = ap (λ (o : Option Sector). option_map (file_by (data_sectors e)) (option_map (λ (s : Sector). s.0) o)) b in
        subst (λ (o : Option File). BothBy SameShape o (disk_file false d id)) (sym of_e) (subst (λ (o : Option File). BothBy SameShape None o) (sym of_d) tt)
    | inr f ↦
        let of_d : disk_file false d id ≡ Some (file_by (data_sectors d) f.x.0) = ap (λ (o : Option Sector). option_map (file_by (data_sectors d)) (option_map (λ (s : Sector). s.0) o)) f.in_x in
        let of_e : disk_file false e id ≡ Some (file_by (data_sectors e) f.x.0) =
        ap (λ (o : Option Sector). option_map (file_by (data_sectors e)) (option_map (λ (s : Sector). s.0) o)) f.in_y ∙ ap (λ (l : Label). Some (file_by (data_sectors e) l)) (sym f.label) in
        let shape : SameShape (file_by (data_sectors e) f.x.0) (file_by (data_sectors d) f.x.0) = record {
          same_id = refl;
          same_size = pages_long (page_at (data_sectors d) f.x.0.id) (page_at (data_sectors e) f.x.0.id) 0 leader_page (both_there f.x.0.id);
        } in
        subst (λ (o : Option File). BothBy SameShape o (disk_file false d id)) (sym of_e) (subst (λ (o : Option File). BothBy SameShape (Some (file_by (data_sectors e) f.x.0)) o) (sym of_d) shape)
  ]

  -- each file of the one is one of the other
  from_e : (id : ℕ) (f : File) → disk_file false e id ≡ Some f → (g : File) × (disk_file false d id ≡ Some g) × SameShape f g
  from_e id f is = either (disk_file false d id) refl
    where
      either : (o : Option File) → disk_file false d id ≡ o → (g : File) × (disk_file false d id ≡ Some g) × SameShape f g
      either None q = absurd (subst (λ (o : Option File). BothBy SameShape (Some f) o) q (subst (λ (o : Option File). BothBy SameShape o (disk_file false d id)) is (both_files id)))
      either (Some g) q = (g, q, subst (λ (o : Option File). BothBy SameShape (Some f) o) q (subst (λ (o : Option File). BothBy SameShape o (disk_file false d id)) is (both_files id)))

  whole_still : (f g : File) → SameShape f g → IsWhole (data_sectors d) g → IsWhole (data_sectors e) f
  whole_still f g same whole = record {
    no_other = λ i s here of.
        let t = other_sector (data_sectors d) (data_sectors e) (same_data_labels d e differs.labels) i s here in
        elim (whole.no_other i t.0 t.1 (moves_of s t.0 t.2 of)) [
          | inl leader ↦ inl (ap (λ (l : Label). l.page) (sym t.2) ∙ leader)
          | inr below ↦ inr (let p : t.0.0.page ≡ s.0.page = ap (λ (l : Label). l.page) t.2 in omega (arith, below, p, same.same_size))
        ];
    once = λ i j s t here there of also pages.
        let u = other_sector (data_sectors d) (data_sectors e) (same_data_labels d e differs.labels) i s here in
        let v = other_sector (data_sectors d) (data_sectors e) (same_data_labels d e differs.labels) j t there in
        whole.once i j u.0 v.0 u.1 v.1 (moves_of s u.0 u.2 of) (moves_of t v.0 v.2 also) (ap (λ (l : Label). l.page) u.2 ∙ pages ∙ ap (λ (l : Label). l.page) (sym v.2));
  }
    where
      moves_of : (s t : Sector) → t.0 ≡ s.0 → is_of f.id s ≡ true → is_of g.id t ≡ true
      moves_of s t label of = (λ i. is_file (label i) && ((label i).id == sym same.same_id i)) ∙ of

pub loose_right : LooseRight
loose_right unforced d e differs right =
    let long = same_length d e differs.labels in
    let place : slice_get e 0 ≡ slice_get d 0 = same_place (is_loose_at unforced) d e differs 0 (λ s here. firm_root unforced s.0.id s.0.page
    (names_id s.0 (record { id = 4; page = 0 }) (subst (λ (o : Option Sector). IsSomeAnd o (λ t. IsTrue (names t.0 (record { id = 4; page = 0 })))) here right.has_root.label))) in
    let rooms : total_room (files_on e) ≡ total_room (files_on d) = same_rooms SameShape (λ f g s. s.same_size) (files_on e) (files_on d)
    (zip_by_look_up SameShape (λ f g s. s.same_id) (files_on e) (files_on d) (laws.files_on_rise false 0 0 e) (laws.files_on_rise false 0 0 d)
    (λ id. subst (λ (o : Option File). BothBy SameShape o (file_at (files_on d) id)) (sym (laws.look_up false 0 0 e id))
    (subst (λ (o : Option File). BothBy SameShape (disk_file false e id) o) (sym (laws.look_up false 0 0 d id)) (both_files unforced d e differs id)))) in
    right_still false d e long place
    (λ i low high. sym (slice_get-map (λ (s : Sector). s.0) e i) ∙ ap (λ (l : List Label). slice_get l i) differs.labels ∙ slice_get-map (λ (s : Sector). s.0) d i)
    (laws.labels_kept false (serial_of d) (counter_of d) d e long
    (λ id f is.
    let g = from_e unforced d e differs id f is in (
      whole_still unforced d e differs f g.0 g.2 (laws.of_file false (serial_of d) (counter_of d) (IsWhole (data_sectors d)) d right.files.whole_files id g.0 g.1),
      subst (λ (n : ℕ). n / 2 ^ 32 ≡ serial_of d → n % 2 ^ 32 < counter_of d) (sym g.2.same_id) (laws.of_file false (serial_of d) (counter_of d) (IsGiven (serial_of d) (counter_of d)) d right.files.ids_given id g.0 g.1),
    ))
    (omega (arith, rooms, right.files.room)) right.files)
    right

pub stop_laws : StopLaws
stop_laws = record { crash_states = crash_states_are_like; few = few_labels; agree = loose_agree; right = loose_right }
