-- The labels of a sound volume.
use Rattle.std.proofs.Common.{◌≡◌, ◌≢◌, ◌⊎◌, inl, inr, ℕ, zero, suc, ◌+◌, ◌-◌, ◌<◌, ◌≤◌, Bool, true, false, ◌&&◌, ◌||◌, not, cond, List, [], ◌∷◌, length, Option, Some, None, refl, sym, ◌∙◌, ap, subst, arith}
use Rattle.std.specs.Prelude.{slice_get, slice_set, option_map, nat_lt, ◌==◌}
use Rattle.std.specs.Option.{option_map_or}
use Rattle.std.specs.List.{position_or_len}
use Rattle.std.proofs.lemmas.Option.{same_Some, none-some}
use Rattle.std.proofs.lemmas.Bool.{and_parts, eq-eqb, ne_eqb, eqb-true, ltb-true, true≢false, false≢true, cases_eq}
use Rattle.std.proofs.lemmas.Bool.Decides.{nat_tests}
use Rattle.std.proofs.lemmas.List.{length-map}
use Rattle.labelled_disk.specs.declared.label.Label.{Label}
use Rattle.labelled_disk.specs.Label.{is_file, is_file_id, is_free, names, leader_page, is_permanent, is_immutable}
use Rattle.labelled_disk.specs.Layout.{data_sectors, first_data}
use Rattle.labelled_disk.specs.Lowest.{is_needed, is_first}
use Rattle.labelled_disk.specs.Sectors.{Sector}
use Rattle.labelled_disk.specs.File.{File, size}
use Rattle.labelled_disk.specs.FilesOn.{is_of, is_page, leads_file, file_among, files_on, disk_file}
use Rattle.labelled_disk.specs.Right.{IsWhole}
use Rattle.labelled_disk.specs.Root.{LabelsRight}
use Rattle.labelled_disk.proofs.LowestLemmas.{files_are_as_revealed}
use Rattle.labelled_disk.proofs.SectorWrites as w
use Rattle.labelled_disk.proofs.WriteLemmas as laws
use Rattle.swapper_kernel.specs.Stands.{labels_of}
use Rattle.session_words.specs.Parts.{is_owned_upto, Shape, Shapes, shape_of, shapes_of, HasLabel, HasPlace, IsOwned}
use Rattle.session_words.specs.PlaceLaws.{with_page}
use Rattle.session_words.specs.StartLaws.{table_label, IsFilesAlone, StartLaws}
use Rattle.swapper_kernel.specs.DiffersLaws.{label_here, sector_of_label}
use Rattle.session_words.proofs.MapBitLemmas.{bits_by_page}
use Rattle.session_words.proofs.FoundLemmas.{above_reserved, file_id_of, file_not_free}
use Rattle.session_words.proofs.SettledLemmas.{shape_at}
use Rattle.session_words.proofs.PlaceLemmas.{same_pages, page_made}

-- the first that passes, passes
first_passes : (test : Sector → Bool) (xs : List Sector) (i : ℕ) (s : Sector) → is_first test xs i ≡ true → slice_get xs i ≡ Some s → test s ≡ true
first_passes test xs i s is here = at xs i (eqb-true (position_or_len test xs) i is) here
  where
    at : (xs : List Sector) (i : ℕ) → position_or_len test xs ≡ i → slice_get xs i ≡ Some s → test s ≡ true
    at [] i is here = absurd (none-some s here)
    at (x ∷ xs) i is here = either (test x) refl i is here (at xs)
      where
        either : (b : Bool) → test x ≡ b → (i : ℕ) → cond (not b) (1 + position_or_len test xs) 0 ≡ i → slice_get (x ∷ xs) i ≡ Some s
            → ((j : ℕ) → position_or_len test xs ≡ j → slice_get xs j ≡ Some s → test s ≡ true) → test s ≡ true
        either true e zero is here more = ap test (sym (same_Some x s here)) ∙ e
        either true e (suc i) is here more = absurd (omega arith)
        either false e zero is here more = absurd (omega arith)
        either false e (suc i) is here more = more i (omega arith) here

-- a file's label names its page
file_names : (l : Label) → is_file l ≡ true → names l (record { id = l.id; page = l.page }) ≡ true
file_names l is =
    let a = and_parts (is_file_id l.id && nat_lt l.flags 4) (l.last == 0) is in
    let b = and_parts (is_file_id l.id) (nat_lt l.flags 4) a.0 in
    let c : (l.id == l.id) ≡ true = eq-eqb l.id l.id refl in
    let e : (l.page == l.page) ≡ true = eq-eqb l.page l.page refl in
    let f = b.1 in
    let g = a.1 in
    rw (c, e, f, g) refl

module _ (d : List Sector) (right : LabelsRight d) (needed : (i : ℕ) (s : Sector) → slice_get (data_sectors d) i ≡ Some s → (is_free s.0 ≡ true) ⊎ (is_needed false (data_sectors d) i ≡ true)) where
  shapes : Shapes
  shapes = shapes_of (files_on d)

  long : length (labels_of d) ≡ length d
  long = length-map d (λ s. s.0)

  -- a data sector by its place among the data
  of_label : (k : ℕ) (l : Label) → HasLabel (labels_of d) k l → (i : ℕ) × (s : Sector) × (slice_get (data_sectors d) i ≡ Some s) × (s.0 ≡ l) × (k ≡ first_data (length d) + i)
  of_label k l has =
      let there = sector_of_label d k l has.here in
      let above : first_data (length d) ≤ k = subst (λ (n : ℕ). first_data n ≤ k) long has.is_data in
      let z : k ≡ first_data (length d) + (k - first_data (length d)) = omega arith in
      (k - first_data (length d), there.0, laws.data_get false 0 0 d k there.0 above there.1, there.2, z)

  -- a sector with a needed label
  file_there : (i : ℕ) (s : Sector) → slice_get (data_sectors d) i ≡ Some s → is_free s.0 ≡ false
      → (f : File) × (disk_file false d s.0.id ≡ Some f) × (is_file s.0 ≡ true) × ((s.0.page ≡ leader_page) ⊎ (s.0.page < size f))
  file_there i s here taken = elim (needed i s here) [
    | inl free ↦ absurd (true≢false (sym free ∙ taken))
    | inr need ↦ either (file_among false (data_sectors d) s.0.id) refl
        (sym (ap (λ (o : Option Sector). option_map_or (λ s. option_map_or (λ f. is_first (leads_file false s.0.id) (data_sectors d) i || (nat_lt s.0.page (size f) && is_first (is_page s.0.id s.0.page) (data_sectors d) i))
        (file_among false (data_sectors d) s.0.id) false) o false) here) ∙ need)
  ]
    where
      which : (f : File) → file_among false (data_sectors d) s.0.id ≡ Some f → (a b c : Bool) → is_first (leads_file false s.0.id) (data_sectors d) i ≡ a → nat_lt s.0.page (size f) ≡ b
          → is_first (is_page s.0.id s.0.page) (data_sectors d) i ≡ c → (a || (b && c)) ≡ true
          → (g : File) × (disk_file false d s.0.id ≡ Some g) × (is_file s.0 ≡ true) × ((s.0.page ≡ leader_page) ⊎ (s.0.page < size g))
      which f e true b c p q r h =
          let passes = first_passes (leads_file false s.0.id) (data_sectors d) i s p here in
          (f, e, (and_parts (is_file s.0) (s.0.id == s.0.id) (laws.leader_of false 0 0 s.0.id s passes)).0, inl (w.leader_number false s.0.id s passes))
      which f e false true true p q r h =
          let passes = first_passes (is_page s.0.id s.0.page) (data_sectors d) i s r here in
          (f, e, (and_parts (is_file s.0) (s.0.id == s.0.id) (w.page_of false s.0.id s.0.page s passes)).0, inr (ltb-true s.0.page (size f) q))
      which f e false true false p q r h = absurd (false≢true h)
      which f e false false c p q r h = absurd (false≢true h)

      either : (o : Option File) → file_among false (data_sectors d) s.0.id ≡ o
          → option_map_or (λ f. is_first (leads_file false s.0.id) (data_sectors d) i || (nat_lt s.0.page (size f) && is_first (is_page s.0.id s.0.page) (data_sectors d) i)) (file_among false (data_sectors d) s.0.id) false ≡ true
          → (g : File) × (disk_file false d s.0.id ≡ Some g) × (is_file s.0 ≡ true) × ((s.0.page ≡ leader_page) ⊎ (s.0.page < size g))
      either None e h = absurd (false≢true (sym (ap (λ (o : Option File). option_map_or (λ f. is_first (leads_file false s.0.id) (data_sectors d) i || (nat_lt s.0.page (size f) && is_first (is_page s.0.id s.0.page) (data_sectors d) i)) o false) e) ∙ h))
      either (Some f) e h =
          which f e (is_first (leads_file false s.0.id) (data_sectors d) i) (nat_lt s.0.page (size f)) (is_first (is_page s.0.id s.0.page) (data_sectors d) i) refl refl refl
          (sym (ap (λ (o : Option File). option_map_or (λ f. is_first (leads_file false s.0.id) (data_sectors d) i || (nat_lt s.0.page (size f) && is_first (is_page s.0.id s.0.page) (data_sectors d) i)) o false) e) ∙ h)

  shape_there : (id : ℕ) (f : File) → disk_file false d id ≡ Some f → shapes_of (files_on d) id ≡ Some (shape_of f)
  shape_there id f is = ap (λ (o : Option File). option_map shape_of o) (laws.look_up false 0 0 d id ∙ is)

  file_by_shape : (id : ℕ) (sh : Shape) → shapes_of (files_on d) id ≡ Some sh → (f : File) × (disk_file false d id ≡ Some f) × (shape_of f ≡ sh)
  file_by_shape id sh is = let f = shape_at (files_on d) id sh is in (f.0, sym (laws.look_up false 0 0 d id) ∙ f.1, f.2)

  whole : (id : ℕ) (f : File) → disk_file false d id ≡ Some f → IsWhole (data_sectors d) f
  whole id f is = laws.of_file false 0 0 (IsWhole (data_sectors d)) d right.files.whole_files id f is

  -- two sectors of one page
  one_place : (i j : ℕ) (s t : Sector) → slice_get (data_sectors d) i ≡ Some s → slice_get (data_sectors d) j ≡ Some t → is_file s.0 ≡ true → is_file t.0 ≡ true → (f : File) → disk_file false d s.0.id ≡ Some f
      → s.0.id ≡ t.0.id → s.0.page ≡ t.0.page → i ≡ j
  one_place i j s t here there file_s file_t f is ids pages =
      let own : f.id ≡ s.0.id = laws.file_id_is false 0 0 d s.0.id f is in
      (whole s.0.id f is).once i j s t here there (both (is_file s.0) (s.0.id == f.id) file_s (eq-eqb s.0.id f.id (sym own))) (both (is_file t.0) (t.0.id == f.id) file_t (eq-eqb t.0.id f.id (sym ids ∙ sym own))) pages
    where
      both : (a b : Bool) → a ≡ true → b ≡ true → (a && b) ≡ true
      both true b p q = q
      both false b p q = p

  at_place : (id page i : ℕ) (s : Sector) → slice_get (data_sectors d) i ≡ Some s → is_of id s ≡ true → s.0.page ≡ page → HasPlace (labels_of d) id page
  at_place id page i s here of number =
      let parts = and_parts (is_file s.0) (s.0.id == id) of in
      record {
        place = first_data (length d) + i;
        label = s.0;
        there = record {
          is_data = subst (λ (n : ℕ). first_data n ≤ first_data (length d) + i) (sym long) (omega arith);
          here = label_here d (first_data (length d) + i) s (sym (laws.get_drop (first_data (length d)) d i) ∙ here);
        };
        taken = file_not_free s.0 parts.0;
        same_id = eqb-true s.0.id id parts.1;
        same_page = number;
      }

  no_table : (id page : ℕ) → (id == 3 && nat_lt page 0) ≡ false
  no_table id page = let a : nat_lt page 0 ≡ false = grind arith in ends (id == 3) (nat_lt page 0) a
    where
      ends : (a b : Bool) → b ≡ false → (a && b) ≡ false
      ends true b e = e
      ends false b e = refl

  owned_file : (id page : ℕ) → is_owned_upto 0 (shapes_of (files_on d)) id page ≡ true → (f : File) × (disk_file false d id ≡ Some f) × ((page ≡ leader_page) ⊎ (page < size f))
  owned_file id page owned = either (shapes_of (files_on d) id) refl (sym (ap (λ (b : Bool). b || option_map_or (λ (f : Shape). page == leader_page || nat_lt page f.size) (shapes_of (files_on d) id) false) (no_table id page)) ∙ owned)
    where
      one : (n : ℕ) (b : Bool) → (page == leader_page) ≡ b → (b || nat_lt page n) ≡ true → (page ≡ leader_page) ⊎ (page < n)
      one n true e h = inl (eqb-true page leader_page e)
      one n false e h = inr (ltb-true page n h)

      either : (o : Option Shape) → shapes_of (files_on d) id ≡ o → option_map_or (λ f. page == leader_page || nat_lt page f.size) (shapes_of (files_on d) id) false ≡ true
          → (f : File) × (disk_file false d id ≡ Some f) × ((page ≡ leader_page) ⊎ (page < size f))
      either None e h = absurd (false≢true (sym (ap (λ (o : Option Shape). option_map_or (λ f. page == leader_page || nat_lt page f.size) o false) e) ∙ h))
      either (Some sh) e h =
          let f = file_by_shape id sh e in
          let sizes : sh.size ≡ size f.0 = ap (λ (x : Shape). x.size) (sym f.2) in
          (f.0, f.1, one (size f.0) (page == leader_page) refl (ap (λ (n : ℕ). (page == leader_page) || nat_lt page n) (sym sizes) ∙ sym (ap (λ (o : Option Shape). option_map_or (λ f. page == leader_page || nat_lt page f.size) o false) e) ∙ h))

  file_owned : (id page : ℕ) (f : File) → disk_file false d id ≡ Some f → (page ≡ leader_page) ⊎ (page < size f) → is_owned_upto 0 (shapes_of (files_on d)) id page ≡ true
  file_owned id page f is which =
      ap (λ (b : Bool). b || option_map_or (λ (f : Shape). page == leader_page || nat_lt page f.size) (shapes_of (files_on d) id) false) (no_table id page)
      ∙ ap (λ (o : Option Shape). option_map_or (λ f. page == leader_page || nat_lt page f.size) o false) (shape_there id f is) ∙ one which
    where
      one : (page ≡ leader_page) ⊎ (page < size f) → (page == leader_page || nat_lt page (size f)) ≡ true
      one (inl e) = let a : (page == leader_page) ≡ true = eq-eqb page leader_page e in rw a refl
      one (inr l) = right_true (page == leader_page) (nat_lt page (size f)) (let b : nat_lt page (size f) ≡ true = grind arith in b)
        where
          right_true : (a b : Bool) → b ≡ true → (a || b) ≡ true
          right_true true b h = refl
          right_true false b h = h

  pub files_alone_there : IsFilesAlone d
  files_alone_there = record {
    pages = record {
      only = λ k l has taken.
          let at = of_label k l has in
          let f = file_there at.0 at.1 at.2 (ap is_free at.3 ∙ taken) in
          subst (IsOwned (is_owned_upto 0 (shapes_of (files_on d)))) at.3 (record { is = file_owned at.1.0.id at.1.0.page f.0 f.1 f.3; named = file_names at.1.0 f.2 });
      all = λ id page owned.
          let f = owned_file id page owned in
          let revealed = ((files_are_as_revealed false d).revealed id f.0 f.1) in
          elim f.2 [
            | inl leader ↦
                let low = revealed.0.leader in
                let passes = low.2.passes in
                at_place id page low.0 low.1 low.2.here (subst (λ (n : ℕ). is_of n low.1 ≡ true) revealed.1 (laws.leader_of false 0 0 f.0.id low.1 passes)) (w.leader_number false f.0.id low.1 passes ∙ sym leader)
            | inr below ↦
                let low = revealed.0.page page below in
                at_place id page low.0 low.1 low.2.here (subst (λ (n : ℕ). is_of n low.1 ≡ true) revealed.1 (w.page_of false f.0.id page low.1 low.2.passes)) (w.page_number false f.0.id page low.1 low.2.passes)
          ];
      once = λ i j a b at_a at_b taken same_id same_page.
          let p = of_label i a at_a in
          let q = of_label j b at_b in
          let f = file_there p.0 p.1 p.2 (ap is_free p.3 ∙ taken) in
          let g = file_there q.0 q.1 q.2 (ap is_free q.3 ∙ ap (λ (n : ℕ). n == 0) (sym same_id) ∙ taken) in
          let same = one_place p.0 q.0 p.1 q.1 p.2 q.2 f.2 g.2 f.0 f.1 (ap (λ (l : Label). l.id) p.3 ∙ same_id ∙ ap (λ (l : Label). l.id) (sym q.3)) (ap (λ (l : Label). l.page) p.3 ∙ same_page ∙ ap (λ (l : Label). l.page) (sym q.3)) in
          p.4 ∙ ap (λ (n : ℕ). first_data (length d) + n) same ∙ sym q.4;
    };
    leaders = record {
      reveal = λ k l sh has found leader.
          let p = of_label k l has in
          let f = file_by_shape l.id sh found in
          let revealed = (files_are_as_revealed false d).revealed l.id f.0 f.1 in
          let low = revealed.0.leader in
          let is_file_low = and_parts (is_file low.1.0) (low.1.0.id == f.0.id) (laws.leader_of false 0 0 f.0.id low.1 low.2.passes) in
          let high = above_reserved low.1.0.id (file_id_of low.1.0 is_file_low.0) in
          let ids : low.1.0.id ≡ l.id = eqb-true low.1.0.id f.0.id is_file_low.1 ∙ revealed.1 in
          let own = file_there p.0 p.1 p.2 (ne_eqb p.1.0.id 0 (λ z. omega (arith, z, high, ids, ap (λ (x : Label). x.id) p.3))) in
          let same = one_place low.0 p.0 low.1 p.1 low.2.here p.2 is_file_low.0 own.2 f.0 (ap (disk_file false d) ids ∙ f.1) (ids ∙ ap (λ (x : Label). x.id) (sym p.3))
          (w.leader_number false f.0.id low.1 low.2.passes ∙ sym leader ∙ ap (λ (x : Label). x.page) (sym p.3)) in
          let label : low.1.0 ≡ l = ap (λ (x : Sector). x.0) (same_Some low.1 p.1 (sym low.2.here ∙ ap (slice_get (data_sectors d)) same ∙ p.2)) ∙ p.3 in
          record {
            kind = ap (λ (x : Label). x.kind) (sym label) ∙ sym low.3 ∙ ap (λ (x : Shape). x.kind) f.2;
            permanent = ap (λ (x : Label). is_permanent x) (sym label) ∙ sym low.4 ∙ ap (λ (x : Shape). x.permanent) f.2;
            immutable = ap (λ (x : Label). is_immutable x) (sym label) ∙ sym low.5 ∙ ap (λ (x : Shape). x.immutable) f.2;
          };
    };
  }

-- the space tables

table_owned : (shapes : Shapes) (n i p : ℕ) → with_page (is_owned_upto n shapes) 3 n i p ≡ is_owned_upto (suc n) shapes i p
table_owned shapes n i p = either (i == 3) (cases_eq p n) (option_map_or (λ f. p == leader_page || nat_lt p f.size) (shapes i) false)
  where
    either : (a : Bool) → (p ≡ n) ⊎ (p ≢ n) → (b : Bool) → ((a && p == n) || ((a && nat_lt p n) || b)) ≡ ((a && nat_lt p (suc n)) || b)
    either true (inl e) b = let x : (p == n) ≡ true = eq-eqb p n e in let y : nat_lt p (suc n) ≡ true = grind arith in rw (x, y) refl
    either true (inr apart) b = let x : (p == n) ≡ false = ne_eqb p n apart in let y : nat_lt p (suc n) ≡ nat_lt p n = grind (arith, nat_tests) in rw (x, y) refl
    either false which b = refl

pub start_laws : StartLaws
start_laws = record {
  bits = bits_by_page;
  files = files_alone_there;
  table = λ labels k n shapes h made. same_pages (slice_set labels k (table_label n)) (with_page (is_owned_upto n shapes) 3 n) (is_owned_upto (suc n) shapes) (table_owned shapes n)
      (page_made labels k (table_label n) (is_owned_upto n shapes) h made);
  whole = λ labels shapes h. h;
}
