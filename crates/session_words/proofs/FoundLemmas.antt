-- What is found on a disk whose labels are those of some files.
use Rattle.std.proofs.Common.{◌≡◌, ◌≢◌, ◌⊎◌, inl, inr, ⊎_elim, ℕ, ◌+◌, ◌-◌, ◌<◌, ◌≤◌, Bool, true, false, ◌&&◌, ◌||◌, not, List, map, length, Option, Some, None, refl, sym, ◌∙◌, ap, subst, arith, eqb, ltb}
use Rattle.std.specs.Prelude.{slice_get, find, option_map, nat_lt, nat_le, ◌==◌, ◌%◌, ◌^◌, if◌then◌else◌}
use Rattle.std.specs.Option.{option_map_or}
use Rattle.std.proofs.lemmas.Option.{same_Some, none-some, slice_get_within}
use Rattle.std.proofs.lemmas.Bool.{and_parts, eq-eqb, ne_eqb, eqb-true, leb-true, ltb-true, true≢false, false≢true, cases_lt}
use Rattle.std.proofs.lemmas.List.{length-map}
use Rattle.labelled_disk.specs.declared.label.Label.{Label}
use Rattle.labelled_disk.specs.Label.{is_file, is_file_id, is_free, names, leader_page}
use Rattle.labelled_disk.specs.Layout.{data_sectors, first_data}
use Rattle.labelled_disk.specs.Sectors.{Sector}
use Rattle.labelled_disk.specs.File.{File, Page, byte}
use Rattle.labelled_disk.specs.FilesOn.{disk_file, file_by, is_of, is_page, leads_file, page_at, pages_from}
use Rattle.labelled_disk.proofs.Finds.{found_at, none_passes, find_none}
use Rattle.labelled_disk.proofs.Pages.{pages_each, pages_stop, pages_below}
use Rattle.labelled_disk.proofs.SectorWrites as w
use Rattle.labelled_disk.proofs.WriteLemmas.{get_drop, leader_of}
use Rattle.swapper_kernel.specs.Stands.{labels_of}
use Rattle.swapper_kernel.specs.Kinds.{a_file, the_tables, unused}
use Rattle.session_words.specs.Parts.{Shape, Shapes, HasLabel, HasLabelsUpto, is_owned_upto}
use Rattle.session_words.specs.Found.{AreShapes, HasPage, IsFound}
use Rattle.swapper_kernel.specs.DiffersLaws.{label_here, sector_of_label}
use Rattle.swapper_kernel.proofs.KindLemmas.{data_kind}

-- as many pages as are there in a row
pages_count : (page : ℕ → Option Page) (n t : ℕ) → t < n → ((j : ℕ) → j < t → page j ≢ None) → page t ≡ None → length (pages_from page 0 n) ≡ t
pages_count page n t below there ends =
    let most = pages_below page 0 n t (omega arith) ends in
    let stop = pages_stop page 0 n (omega (arith, most)) in
    ⊎_elim
    (λ (less : length (pages_from page 0 n) < t). let z : 0 + length (pages_from page 0 n) ≡ length (pages_from page 0 n) = omega arith in absurd (there (length (pages_from page 0 n)) less (ap page (sym z) ∙ stop)))
    (λ (l : t ≤ length (pages_from page 0 n)). omega (arith, most))
    (cases_lt (length (pages_from page 0 n)) t)

-- Labels.

both_true : (a b : Bool) → a ≡ true → b ≡ true → (a && b) ≡ true
both_true true b p q = q
both_true false b p q = p

pub file_label : (l : Label) → is_file_id l.id ≡ true → names l (record { id = l.id; page = l.page }) ≡ true → is_file l ≡ true
file_label l given named =
    let a = and_parts ((l.id == l.id) && (l.page == l.page) && nat_lt l.flags 4) (l.last == 0) named in
    let b = and_parts ((l.id == l.id) && (l.page == l.page)) (nat_lt l.flags 4) a.0 in
    both_true (is_file_id l.id && nat_lt l.flags 4) (l.last == 0) (both_true (is_file_id l.id) (nat_lt l.flags 4) given b.1) a.1

pub above_reserved : (id : ℕ) → is_file_id id ≡ true → 16 ≤ id
above_reserved id given = leb-true 16 id (and_parts (nat_le 16 id) (not (id % 2 ^ 32 == 4294967295)) given).0

pub file_id_of : (l : Label) → is_file l ≡ true → is_file_id l.id ≡ true
file_id_of l is = (and_parts (is_file_id l.id) (nat_lt l.flags 4) (and_parts (is_file_id l.id && nat_lt l.flags 4) (l.last == 0) is).0).0

pub file_not_free : (l : Label) → is_file l ≡ true → is_free l ≡ false
file_not_free l is = let low = above_reserved l.id (file_id_of l is) in ne_eqb l.id 0 (omega arith)

-- a page that is owned, and not one of file 3, is a file's
pub owner_upto : (n : ℕ) (shapes : Shapes) (id page : ℕ) → id ≢ 3 → is_owned_upto n shapes id page ≡ true → (f : Shape) × (shapes id ≡ Some f) × ((page ≡ leader_page) ⊎ (page < f.size))
owner_upto n shapes id page other owned = either (shapes id) refl
  where
    three : eqb id 3 ≡ false
    three = ne_eqb id 3 other

    files_own : option_map_or (λ (f : Shape). page == leader_page || nat_lt page f.size) (shapes id) false ≡ true
    files_own = sym (ap (λ (b : Bool). (b && nat_lt page n) || option_map_or (λ (f : Shape). page == leader_page || nat_lt page f.size) (shapes id) false) three) ∙ owned

    one : (f : Shape) → (b : Bool) → eqb page leader_page ≡ b → (b || nat_lt page f.size) ≡ true → (page ≡ leader_page) ⊎ (page < f.size)
    one f true e h = inl (eqb-true page leader_page e)
    one f false e h = inr (ltb-true page f.size h)

    either : (o : Option Shape) → shapes id ≡ o → (f : Shape) × (shapes id ≡ Some f) × ((page ≡ leader_page) ⊎ (page < f.size))
    either None e = absurd (false≢true (sym (ap (λ (o : Option Shape). option_map_or (λ (f : Shape). page == leader_page || nat_lt page f.size) o false) e) ∙ files_own))
    either (Some f) e = (f, e, one f (eqb page leader_page) refl (sym (ap (λ (o : Option Shape). option_map_or (λ (g : Shape). page == leader_page || nat_lt page g.size) o false) e) ∙ files_own))

pub owner : (shapes : Shapes) (id page : ℕ) → id ≢ 3 → is_owned_upto 96 shapes id page ≡ true → (f : Shape) × (shapes id ≡ Some f) × ((page ≡ leader_page) ⊎ (page < f.size))
owner shapes id page other owned = owner_upto 96 shapes id page other owned

-- the leader and the pages of a file are owned
pub owned_by : (n : ℕ) (shapes : Shapes) (id page : ℕ) (f : Shape) → shapes id ≡ Some f → (page ≡ leader_page) ⊎ (page < f.size) → is_owned_upto n shapes id page ≡ true
owned_by n shapes id page f is which =
    right (eqb id 3 && nat_lt page n) (option_map_or (λ (g : Shape). page == leader_page || nat_lt page g.size) (shapes id) false)
    (ap (λ (o : Option Shape). option_map_or (λ (g : Shape). page == leader_page || nat_lt page g.size) o false) is ∙ one which)
  where
    right : (a b : Bool) → b ≡ true → (a || b) ≡ true
    right true b h = refl
    right false b h = h

    left : (a b : Bool) → a ≡ true → (a || b) ≡ true
    left true b h = refl
    left false b h = absurd (false≢true h)

    one : (page ≡ leader_page) ⊎ (page < f.size) → (page == leader_page || nat_lt page f.size) ≡ true
    one (inl e) = left (eqb page leader_page) (nat_lt page f.size) (eq-eqb page leader_page e)
    one (inr l) = right (eqb page leader_page) (nat_lt page f.size) (let b : ltb page f.size ≡ true = grind arith in b)

module _ (n : ℕ) (d : List Sector) (shapes : Shapes) (h : HasLabelsUpto n (labels_of d) shapes) (are : AreShapes shapes) where
  start : ℕ
  start = first_data (length d)

  abbrev xs : List Sector
  xs = data_sectors d

  long : length (labels_of d) ≡ length d
  long = length-map d (λ s. s.0)

  -- a data sector's label
  pub data_label : (k : ℕ) (s : Sector) → first_data (length d) ≤ k → slice_get d k ≡ Some s → HasLabel (labels_of d) k s.0
  data_label k s above here = record { is_data = subst (λ (n : ℕ). first_data n ≤ k) (sym long) above; here = label_here d k s here }

  pub from_data : (i : ℕ) (s : Sector) → slice_get xs i ≡ Some s → HasLabel (labels_of d) (first_data (length d) + i) s.0
  from_data i s here = data_label (first_data (length d) + i) s (omega arith) (sym (get_drop (first_data (length d)) d i) ∙ here)

  -- a sector with a file's label is one of a file
  pub file_of : (i : ℕ) (s : Sector) → slice_get xs i ≡ Some s → is_file s.0 ≡ true → (f : Shape) × (shapes s.0.id ≡ Some f) × ((s.0.page ≡ leader_page) ⊎ (s.0.page < f.size))
  file_of i s here is =
      let low = above_reserved s.0.id (file_id_of s.0 is) in
      owner_upto n shapes s.0.id s.0.page (omega arith) (h.pages.only (first_data (length d) + i) s.0 (from_data i s here) (file_not_free s.0 is)).is

  -- each page of a file has a sector
  place_of : (id page : ℕ) (f : Shape) → shapes id ≡ Some f → (page ≡ leader_page) ⊎ (page < f.size) → (i : ℕ) × (s : Sector) × (slice_get xs i ≡ Some s) × (is_page id page s ≡ true)
  place_of id page f is which =
      let p = h.pages.all id page (owned_by n shapes id page f is which) in
      let there = sector_of_label d p.place p.label p.there.here in
      let above : first_data (length d) ≤ p.place = subst (λ (n : ℕ). first_data n ≤ p.place) long p.there.is_data in
      let s : Sector = there.0 in
      let same_id : s.0.id ≡ id = ap (λ (l : Label). l.id) there.2 ∙ p.same_id in
      let same_page : s.0.page ≡ page = ap (λ (l : Label). l.page) there.2 ∙ p.same_page in
      let given : is_file_id s.0.id ≡ true = ap is_file_id same_id ∙ are.given id f is in
      let low : 16 ≤ s.0.id = above_reserved s.0.id given in
      let owned = h.pages.only p.place s.0 (data_label p.place s above there.1) (ne_eqb s.0.id 0 (omega arith)) in
      let z : first_data (length d) + (p.place - first_data (length d)) ≡ p.place = omega arith in (
        p.place - first_data (length d),
        s,
        get_drop (first_data (length d)) d (p.place - first_data (length d)) ∙ ap (slice_get d) z ∙ there.1,
        both_true (is_of id s) (eqb s.0.page page) (both_true (is_file s.0) (eqb s.0.id id) (file_label s.0 given owned.named) (eq-eqb s.0.id id same_id)) (eq-eqb s.0.page page same_page),
      )

  -- each of them alone
  pub once_in : (i j : ℕ) (s t : Sector) → slice_get xs i ≡ Some s → slice_get xs j ≡ Some t → is_file s.0 ≡ true → s.0.id ≡ t.0.id → s.0.page ≡ t.0.page → i ≡ j
  once_in i j s t here there is same_id same_page =
      let e = h.pages.once (first_data (length d) + i) (first_data (length d) + j) s.0 t.0 (from_data i s here) (from_data j t there) (file_not_free s.0 is) same_id same_page in
      omega (arith, e)

  -- no file of that identifier
  pub file_missing : (id : ℕ) → shapes id ≡ None → disk_file true d id ≡ None
  file_missing id none =
      w.file_none true xs id (ap (λ (o : Option Sector). option_map (λ (s : Sector). s.0) o) (find_none (leads_file true id) xs (λ i s here. fails i s here (leads_file true id s) refl)))
    where
      fails : (i : ℕ) (s : Sector) → slice_get xs i ≡ Some s → (b : Bool) → leads_file true id s ≡ b → leads_file true id s ≡ false
      fails i s here false e = e
      fails i s here true e =
          let of = and_parts (is_file s.0) (eqb s.0.id id) (leader_of true 0 0 id s e) in
          let f = file_of i s here of.0 in
          absurd (none-some f.0 (sym none ∙ ap shapes (sym (eqb-true s.0.id id of.1)) ∙ f.1))

  module _ (id : ℕ) (f : Shape) (is : shapes id ≡ Some f) where
    missing : page_at xs id f.size ≡ None
    missing = ap (λ (o : Option Sector). option_map (λ (s : Sector). map byte s.1) o) (find_none (is_page id f.size) xs (λ i s here. fails i s here (is_page id f.size s) refl))
      where
        fails : (i : ℕ) (s : Sector) → slice_get xs i ≡ Some s → (b : Bool) → is_page id f.size s ≡ b → is_page id f.size s ≡ false
        fails i s here false e = e
        fails i s here true e =
            let of = and_parts (is_file s.0) (eqb s.0.id id) (w.page_of true id f.size s e) in
            let g = file_of i s here of.0 in
            let number : s.0.page ≡ f.size = w.page_number true id f.size s e in
            let same : f ≡ g.0 = same_Some f g.0 (sym is ∙ ap shapes (sym (eqb-true s.0.id id of.1)) ∙ g.1) in
            let size : f.size ≡ g.0.size = ap (λ (x : Shape). x.size) same in
            let short = are.short id f is in
            absurd (⊎_elim (λ (l : s.0.page ≡ leader_page). omega arith) (λ (l : s.0.page < g.0.size). omega arith) g.2)

    there : (j : ℕ) → j < f.size → page_at xs id j ≢ None
    there j below none =
        let p = place_of id j f is (inr below) in
        true≢false (sym p.3 ∙ none_passes (is_page id j) xs (w.page_missing true xs id j none) p.0 p.1 p.2)

    pages_size : length (pages_from (page_at xs id) 0 leader_page) ≡ f.size
    pages_size = pages_count (page_at xs id) leader_page f.size (are.short id f is) there missing

    has_page : (j : ℕ) (p : Page) → slice_get (pages_from (page_at xs id) 0 leader_page) j ≡ Some p → HasPage d id j p
    has_page j p at = either (find (is_page id j) xs) refl
      where
        here : page_at xs id j ≡ Some p
        here =
            let z : 0 + j ≡ j = omega arith in
            ap (page_at xs id) (sym z) ∙ sym (pages_each (page_at xs id) 0 leader_page j (slice_get_within (pages_from (page_at xs id) 0 leader_page) j p at)) ∙ at

        either : (o : Option Sector) → find (is_page id j) xs ≡ o → HasPage d id j p
        either None e = absurd (none-some p (sym (ap (λ (o : Option Sector). option_map (λ (s : Sector). map byte s.1) o) e) ∙ here))
        either (Some s) e =
            let place = found_at (is_page id j) xs s e in
            let of = and_parts (is_file s.0) (eqb s.0.id id) (w.page_of true id j s place.2) in
            let low = above_reserved s.0.id (file_id_of s.0 of.0) in
            let three : eqb s.0.id 3 ≡ false = ne_eqb s.0.id 3 (omega arith) in
            record {
              place = first_data (length d) + place.0;
              s = s;
              there = record {
                here = sym (get_drop (first_data (length d)) d place.0) ∙ place.1;
                is = data_kind (length d) (first_data (length d) + place.0) s.0 (omega arith)
                    ∙ ap (λ (b : Bool). if b then the_tables else (if is_file s.0 then a_file else unused)) three
                    ∙ ap (λ (b : Bool). if b then a_file else unused) of.0;
              };
              same_id = eqb-true s.0.id id of.1;
              same_page = w.page_number true id j s place.2;
              bytes = sym (same_Some (map byte s.1) p (sym (ap (λ (o : Option Sector). option_map (λ (s : Sector). map byte s.1) o) e) ∙ here));
            }

    leader : (s : Sector) × (find (leads_file true id) xs ≡ Some s)
    leader = either (find (leads_file true id) xs) refl
      where
        four : (a b c : Bool) → ((a && b) && c) ≡ true → ((a && c && true) && b) ≡ true
        four true true true h = refl
        four true true false h = h
        four true false c h = absurd (false≢true h)
        four false b c h = h

        either : (o : Option Sector) → find (leads_file true id) xs ≡ o → (s : Sector) × (find (leads_file true id) xs ≡ Some s)
        either (Some s) e = (s, e)
        either None e =
            let p = place_of id leader_page f is (inl refl) in
            absurd (true≢false (sym (four (is_file p.1.0) (eqb p.1.0.id id) (eqb p.1.0.page leader_page) p.3) ∙ none_passes (leads_file true id) xs e p.0 p.1 p.2))

    pub file_found : (g : File) × IsFound d id f g
    file_found =
        let s : Sector = leader.0 in
        let place = found_at (leads_file true id) xs s leader.1 in
        let same : s.0.id ≡ id = w.leader_id true id s place.2 in
        let pages : pages_from (page_at xs s.0.id) 0 leader_page ≡ pages_from (page_at xs id) 0 leader_page = ap (λ (n : ℕ). pages_from (page_at xs n) 0 leader_page) same in
        let l = h.leaders.reveal (first_data (length d) + place.0) s.0 f (from_data place.0 s place.1) (ap shapes same ∙ is) (w.leader_number true id s place.2) in (
          file_by xs s.0,
          record {
            found = ap (λ (o : Option Sector). option_map (file_by xs) (option_map (λ (t : Sector). t.0) o)) leader.1;
            same_id = same;
            same_shape = λ i. record { kind = l.kind i; permanent = l.permanent i; immutable = l.immutable i; size = (ap (λ (ps : List Page). length ps) pages ∙ pages_size) i };
            pages = λ j p at. has_page j p (ap (λ (ps : List Page). slice_get ps j) (sym pages) ∙ at);
          },
        )
