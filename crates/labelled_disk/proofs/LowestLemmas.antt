-- The files of a disk, in words.
use Rattle.std.proofs.Common.{◌≡◌, ◌≢◌, ◌⊎◌, inl, inr, ⊎_elim, ℕ, zero, suc, ◌+◌, ◌-◌, ◌<◌, ◌≤◌, Bool, true, false, not, ◌&&◌, ◌||◌, cond, List, [], ◌∷◌, map, length, Option, Some, None, refl, sym, ◌∙◌, ap, subst, arith, eqb}
use Rattle.std.specs.Prelude.{slice_get, slice_set, find, option_map, nat_lt}
use Rattle.std.specs.Option.{option_map_or}
use Rattle.std.specs.List.{position_or_len}
use Rattle.std.proofs.lemmas.Option.{same_Some, none-some, slice_get_past}
use Rattle.std.proofs.lemmas.Bool.{cases_lt, cases_eq, and_parts, and_left, eqb-true, eqb-false, eq-eqb, ne_eqb, lt-ltb, ltb-true, false≢true, true≢false, and_from}
use Rattle.labelled_disk.specs.declared.label.Label.{Label}
use Rattle.labelled_disk.specs.Label.{is_file, is_permanent, leader_page}
use Rattle.labelled_disk.specs.Sectors.{Sector}
use Rattle.labelled_disk.specs.Layout.{data_sectors, first_data}
use Rattle.labelled_disk.specs.File.{File, Page, byte, size}
use Rattle.labelled_disk.specs.FilesOn.{leads, leads_file, is_page, is_of, page_at, leader_among, pages_from, file_by, file_among, files_by}
use Rattle.labelled_disk.specs.Right.{IsWhole}
use Rattle.labelled_disk.specs.Lowest.{IsLowest, IsFileOn, is_first, is_needed, FilesAreAsRevealed, UnneededFreed, NeededAreWhole, EmptyHasNone, RightAreNeeded}
use Rattle.labelled_disk.proofs.Finds.{none_passes, find_none, IsAlone}
use Rattle.labelled_disk.proofs.Pages.{pages_each, pages_stop, pages_most, pages_below, pages_stay}
use Rattle.labelled_disk.proofs.SectorWrites as w
use Rattle.labelled_disk.proofs.WriteLemmas as laws

module _ (test : Sector → Bool) where
  lowest : (xs : List Sector) (s : Sector) → find test xs ≡ Some s → (i : ℕ) × IsLowest test xs i s
  lowest [] s is = absurd (none-some s is)
  lowest (x ∷ xs) s is = either (test x) refl is (lowest xs s)
    where
      first : test x ≡ false → (m : (i : ℕ) × IsLowest test xs i s) → (j : ℕ) (u : Sector) → j < suc m.0 → slice_get (x ∷ xs) j ≡ Some u → test u ≡ false
      first t m zero u l at = ap test (sym (same_Some x u at)) ∙ t
      first t m (suc j) u l at = m.1.none_below j u (omega arith) at

      either : (b : Bool) → test x ≡ b → cond b (Some x) (find test xs) ≡ Some s → (find test xs ≡ Some s → (i : ℕ) × IsLowest test xs i s) → (i : ℕ) × IsLowest test (x ∷ xs) i s
      either true t e more = (0, record { here = e; passes = ap test (sym (same_Some x s e)) ∙ t; none_below = λ j u l. absurd (omega (arith, l)) })
      either false t e more = let m = more e in (suc m.0, record { here = m.1.here; passes = m.1.passes; none_below = first t m })

  find_lowest : (xs : List Sector) (i : ℕ) (s : Sector) → IsLowest test xs i s → find test xs ≡ Some s
  find_lowest [] i s low = low.here
  find_lowest (x ∷ xs) zero s low = let e : test x ≡ true = ap test (same_Some x s low.here) ∙ low.passes in rw e low.here
  find_lowest (x ∷ xs) (suc i) s low =
      let e : test x ≡ false = low.none_below 0 x (omega arith) refl in
      rw e (find_lowest xs i s (record { here = low.here; passes = low.passes; none_below = λ j t l at. low.none_below (suc j) t (omega arith) at }))

  -- not the first that passes
  find_later : (xs : List Sector) (i : ℕ) (s t : Sector) → slice_get xs i ≡ Some s → is_first test xs i ≡ false → test t ≡ false → find test (slice_set xs i t) ≡ find test xs
  find_later [] i s t here later new = refl
  find_later (x ∷ xs) zero s t here later new = rw new (either (test x) later)
    where
      either : (b : Bool) → eqb (cond (not b) (1 + position_or_len test xs) 0) 0 ≡ false → find test xs ≡ cond b (Some x) (find test xs)
      either true h = absurd (true≢false h)
      either false h = refl
  find_later (x ∷ xs) (suc i) s t here later new = either (test x) later (λ l. find_later xs i s t here l new)
    where
      either : (b : Bool) → eqb (cond (not b) (1 + position_or_len test xs) 0) (suc i) ≡ false → (is_first test xs i ≡ false → find test (slice_set xs i t) ≡ find test xs)
          → cond b (Some x) (find test (slice_set xs i t)) ≡ cond b (Some x) (find test xs)
      either true h more = refl
      either false h more = more (ne_eqb (position_or_len test xs) i (λ e. eqb-false (1 + position_or_len test xs) (suc i) h (omega (arith, e))))

module _ (with_temporary : Bool) where
  page_there : (xs : List Sector) (id k : ℕ) (p : Page) → page_at xs id k ≡ Some p → (s : Sector) × (find (is_page id k) xs ≡ Some s) × (map byte s.1 ≡ p)
  page_there xs id k p is = either (find (is_page id k) xs) refl is
    where
      either : (o : Option Sector) → find (is_page id k) xs ≡ o → option_map (λ s. map byte s.1) o ≡ Some p → (s : Sector) × (find (is_page id k) xs ≡ Some s) × (map byte s.1 ≡ p)
      either None e h = absurd (none-some p h)
      either (Some s) e h = (s, e, same_Some (map byte s.1) p h)

  get_some : {X : Type 0} (xs : List X) (i : ℕ) → i < length xs → (x : X) × (slice_get xs i ≡ Some x)
  get_some [] i below = absurd (omega arith)
  get_some (x ∷ xs) zero below = (x, refl)
  get_some (x ∷ xs) (suc i) below = get_some xs i (omega arith)

  revealed : (xs : List Sector) (id : ℕ) (f : File) → file_among with_temporary xs id ≡ Some f → IsFileOn with_temporary xs f × (f.id ≡ id)
  revealed xs id f is = either (find (leads_file with_temporary id) xs) refl is
    where
      as_revealed : (s : Sector) → find (leads_file with_temporary s.0.id) xs ≡ Some s → IsFileOn with_temporary xs (file_by xs s.0)
      as_revealed s e = record {
        leader = let l = lowest (leads_file with_temporary s.0.id) xs s e in (l.0, s, l.1, refl, refl, refl);
        page = λ k below.
            let one = get_some (pages_from (page_at xs s.0.id) 0 leader_page) k below in
            let z : 0 + k ≡ k = omega arith in
            let there = page_there xs s.0.id k one.0 (ap (page_at xs s.0.id) (sym z) ∙ sym (pages_each (page_at xs s.0.id) 0 leader_page k below) ∙ one.1) in
            let l = lowest (is_page s.0.id k) xs there.0 there.1 in
            (l.0, there.0, l.1, one.1 ∙ ap (λ (p : Page). Some p) (sym there.2));
        numbered = pages_most (page_at xs s.0.id) 0 leader_page;
        ends = ⊎_elim
            (λ (l : length (pages_from (page_at xs s.0.id) 0 leader_page) < leader_page).
            inr (none_passes (is_page s.0.id (length (pages_from (page_at xs s.0.id) 0 leader_page))) xs
            (w.page_missing with_temporary xs s.0.id (length (pages_from (page_at xs s.0.id) 0 leader_page))
            (let z : 0 + length (pages_from (page_at xs s.0.id) 0 leader_page) ≡ length (pages_from (page_at xs s.0.id) 0 leader_page) = omega arith in
            ap (page_at xs s.0.id) (sym z) ∙ pages_stop (page_at xs s.0.id) 0 leader_page l))))
            (λ (l : leader_page ≤ length (pages_from (page_at xs s.0.id) 0 leader_page)). inl (omega (arith, l, pages_most (page_at xs s.0.id) 0 leader_page)))
            (cases_lt (length (pages_from (page_at xs s.0.id) 0 leader_page)) leader_page);
      }

      either : (o : Option Sector) → find (leads_file with_temporary id) xs ≡ o → option_map (file_by xs) (option_map (λ s. s.0) o) ≡ Some f → IsFileOn with_temporary xs f × (f.id ≡ id)
      either None e h = absurd (none-some f h)
      either (Some s) e h =
          let l = lowest (leads_file with_temporary id) xs s e in
          let same : s.0.id ≡ id = w.leader_id with_temporary id s l.1.passes in
          let eq : file_by xs s.0 ≡ f = same_Some (file_by xs s.0) f h in
          subst (λ (g : File). IsFileOn with_temporary xs g × (g.id ≡ id)) eq (as_revealed s (ap (λ (n : ℕ). find (leads_file with_temporary n) xs) same ∙ e), same)

  same_file : (f g : File) → f.id ≡ g.id → f.kind ≡ g.kind → f.permanent ≡ g.permanent → f.immutable ≡ g.immutable → f.pages ≡ g.pages → f ≡ g
  same_file f g a b c e h = λ x. record { id = a x; kind = b x; permanent = c x; immutable = e x; pages = h x }

  all_revealed : (xs : List Sector) (f : File) → IsFileOn with_temporary xs f → file_among with_temporary xs f.id ≡ Some f
  all_revealed xs f is =
      let lead : leader_among with_temporary xs f.id ≡ Some is.leader.1.0 = ap (λ (o : Option Sector). option_map (λ (s : Sector). s.0) o) (find_lowest (leads_file with_temporary f.id) xs is.leader.0 is.leader.1 is.leader.2) in
      let same : is.leader.1.0.id ≡ f.id = w.leader_id with_temporary f.id is.leader.1 is.leader.2.passes in
      ap (λ (o : Option Label). option_map (file_by xs) o) lead
      ∙ ap (λ (g : File). Some g) (same_file (file_by xs is.leader.1.0) f same (sym is.leader.3) (sym is.leader.4) (sym is.leader.5)
      (ap (λ (n : ℕ). pages_from (page_at xs n) 0 leader_page) same ∙ pages))
    where
      there : (k : ℕ) → k < size f → page_at xs f.id k ≡ slice_get f.pages k
      there k below = let p = is.page k below in ap (λ (o : Option Sector). option_map (λ (s : Sector). map byte s.1) o) (find_lowest (is_page f.id k) xs p.0 p.1 p.2) ∙ sym p.3

      long : length (pages_from (page_at xs f.id) 0 leader_page) ≡ size f
      long = omega (arith, most, least (cases_lt (length (pages_from (page_at xs f.id) 0 leader_page)) (size f)))
        where
          most : length (pages_from (page_at xs f.id) 0 leader_page) ≤ size f
          most = elim is.ends [
            | inl e ↦ omega (arith, e, pages_most (page_at xs f.id) 0 leader_page)
            | inr nowhere ↦ omega (
              arith,
              pages_below (page_at xs f.id) 0 leader_page (size f) (omega arith)
                  (ap (λ (o : Option Sector). option_map (λ (s : Sector). map byte s.1) o) (find_none (is_page f.id (size f)) xs nowhere)),
            )
          ]

          least : (length (pages_from (page_at xs f.id) 0 leader_page) < size f) ⊎ (size f ≤ length (pages_from (page_at xs f.id) 0 leader_page)) → size f ≤ length (pages_from (page_at xs f.id) 0 leader_page)
          least (inr l) = l
          least (inl l) =
              let z : 0 + length (pages_from (page_at xs f.id) 0 leader_page) ≡ length (pages_from (page_at xs f.id) 0 leader_page) = omega arith in
              let end = pages_stop (page_at xs f.id) 0 leader_page (omega (arith, l, is.numbered)) in
              let p = is.page (length (pages_from (page_at xs f.id) 0 leader_page)) l in
              absurd (none-some (map byte p.1.1) (sym end ∙ ap (page_at xs f.id) z ∙ there (length (pages_from (page_at xs f.id) 0 leader_page)) l ∙ p.3))

      pages : pages_from (page_at xs f.id) 0 leader_page ≡ f.pages
      pages = laws.same_elements with_temporary 0 0 (pages_from (page_at xs f.id) 0 leader_page) f.pages (λ k. at k (cases_lt k (size f)))
        where
          at : (k : ℕ) → (k < size f) ⊎ (size f ≤ k) → slice_get (pages_from (page_at xs f.id) 0 leader_page) k ≡ slice_get f.pages k
          at k (inl l) = let z : 0 + k ≡ k = omega arith in pages_each (page_at xs f.id) 0 leader_page k (omega (arith, l, long)) ∙ ap (page_at xs f.id) z ∙ there k l
          at k (inr l) = slice_get_past (pages_from (page_at xs f.id) 0 leader_page) k (omega (arith, l, long)) ∙ sym (slice_get_past f.pages k l)

  pub files_are_as_revealed : (d : List Sector) → FilesAreAsRevealed with_temporary d
  files_are_as_revealed d = record { revealed = revealed (data_sectors d); all = all_revealed (data_sectors d) }

  -- Sectors that no file needs.

  needed_at : (xs : List Sector) (i : ℕ) (s : Sector) (f : File) → slice_get xs i ≡ Some s → file_among with_temporary xs s.0.id ≡ Some f
      → is_needed with_temporary xs i ≡ (is_first (leads_file with_temporary s.0.id) xs i || (nat_lt s.0.page (size f) && is_first (is_page s.0.id s.0.page) xs i))
  needed_at xs i s f here is =
      ap (λ (o : Option Sector). option_map_or (λ s. option_map_or (λ f. is_first (leads_file with_temporary s.0.id) xs i || (nat_lt s.0.page (size f) && is_first (is_page s.0.id s.0.page) xs i)) (file_among with_temporary xs s.0.id) false) o false) here
      ∙ ap (λ (o : Option File). option_map_or (λ f. is_first (leads_file with_temporary s.0.id) xs i || (nat_lt s.0.page (size f) && is_first (is_page s.0.id s.0.page) xs i)) o false) is

  or_false : (a b : Bool) → (a || b) ≡ false → (a ≡ false) × (b ≡ false)
  or_false false b h = (refl, h)
  or_false true b h = absurd (true≢false h)

  and_true_false : (a b : Bool) → (a && b) ≡ false → a ≡ true → b ≡ false
  and_true_false true b h e = h
  and_true_false false b h e = absurd (false≢true e)

  freed_own : (xs : List Sector) (i : ℕ) (s t : Sector) → slice_get xs i ≡ Some s → is_needed with_temporary xs i ≡ false → is_file t.0 ≡ false → file_among with_temporary (slice_set xs i t) s.0.id ≡ file_among with_temporary xs s.0.id
  freed_own xs i s t here free new = either (file_among with_temporary xs s.0.id) refl
    where
      not_of : is_of s.0.id t ≡ false
      not_of = and_left (is_file t.0) (eqb t.0.id s.0.id) new

      either : (o : Option File) → file_among with_temporary xs s.0.id ≡ o → file_among with_temporary (slice_set xs i t) s.0.id ≡ file_among with_temporary xs s.0.id
      either None e = w.temporary_stays with_temporary xs i s t here s.0.id e (w.not_of-not_leader with_temporary s.0.id t not_of) ∙ sym e
      either (Some f) e =
          let parts = or_false (is_first (leads_file with_temporary s.0.id) xs i) (nat_lt s.0.page (size f) && is_first (is_page s.0.id s.0.page) xs i) (sym (needed_at xs i s f here e) ∙ free) in
          let long : size f ≡ length (w.all_pages with_temporary xs s.0.id) = ap (λ (l : List Page). length l) (w.file_pages with_temporary xs s.0.id f e) in
          w.by_same_pages with_temporary xs (slice_set xs i t) s.0.id
          (ap (λ (o : Option Sector). option_map (λ (u : Sector). u.0) o) (find_later (leads_file with_temporary s.0.id) xs i s t here parts.0 (w.not_of-not_leader with_temporary s.0.id t not_of)))
          (pages_stay (page_at xs s.0.id) (page_at (slice_set xs i t) s.0.id) 0 leader_page
          (λ j l m o. page f long parts.1 j (omega (arith, m, long)) (omega (arith, o)) (cases_eq j s.0.page) (cases_lt j (size f)) (cases_is (is_page s.0.id j s))))
        where
          cases_is : (b : Bool) → (b ≡ true) ⊎ (b ≡ false)
          cases_is true = inl refl
          cases_is false = inr refl

          page : (f : File) → size f ≡ length (w.all_pages with_temporary xs s.0.id) → (nat_lt s.0.page (size f) && is_first (is_page s.0.id s.0.page) xs i) ≡ false
              → (j : ℕ) → j ≤ size f → j < leader_page → (j ≡ s.0.page) ⊎ (j ≢ s.0.page) → (j < size f) ⊎ (size f ≤ j) → (is_page s.0.id j s ≡ true) ⊎ (is_page s.0.id j s ≡ false)
              → page_at (slice_set xs i t) s.0.id j ≡ page_at xs s.0.id j
          page f long later j most low (inr apart) m is = w.page_past with_temporary xs i s t here s.0.id j (w.other_page with_temporary s.0.id s.0.page j s refl apart) (and_left (is_of s.0.id t) (eqb t.0.page j) not_of)
          page f long later j most low (inl e) (inl l) is =
              let first : is_first (is_page s.0.id s.0.page) xs i ≡ false = and_true_false (nat_lt s.0.page (size f)) (is_first (is_page s.0.id s.0.page) xs i) later (lt-ltb s.0.page (size f) (omega (arith, e, l))) in
              ap (λ (o : Option Sector). option_map (λ (u : Sector). map byte u.1) o)
              (find_later (is_page s.0.id j) xs i s t here (ap (λ (k : ℕ). is_first (is_page s.0.id k) xs i) e ∙ first) (and_left (is_of s.0.id t) (eqb t.0.page j) not_of))
          page f long later j most low (inl e) (inr l) (inr fails) = w.page_past with_temporary xs i s t here s.0.id j fails (and_left (is_of s.0.id t) (eqb t.0.page j) not_of)
          page f long later j most low (inl e) (inr l) (inl is) =
              let z : 0 + length (w.all_pages with_temporary xs s.0.id) ≡ j = omega (arith, l, most, long) in
              let end : page_at xs s.0.id j ≡ None = ap (page_at xs s.0.id) (sym z) ∙ pages_stop (page_at xs s.0.id) 0 leader_page (omega (arith, z, low)) in
              absurd (true≢false (sym is ∙ none_passes (is_page s.0.id j) xs (w.page_missing with_temporary xs s.0.id j end) i s here))

  pub unneeded_freed : UnneededFreed with_temporary
  unneeded_freed d i s t holds free new =
      let here = laws.data_get with_temporary 0 0 d i s holds.is_data holds.here in
      laws.same_files with_temporary 0 0 d (slice_set d i t) (λ id. ap (λ (xs : List Sector). file_among with_temporary xs id) (laws.data_set with_temporary 0 0 d i t holds.is_data) ∙ one id here (is_of id s) refl)
    where
      one : (id : ℕ) → slice_get (data_sectors d) (i - first_data (length d)) ≡ Some s → (b : Bool) → is_of id s ≡ b
          → file_among with_temporary (slice_set (data_sectors d) (i - first_data (length d)) t) id ≡ file_among with_temporary (data_sectors d) id
      one id here false e = w.others_stay with_temporary (data_sectors d) (i - first_data (length d)) s t here id e (and_left (is_file t.0) (eqb t.0.id id) new)
      one id here true e =
          let same : s.0.id ≡ id = eqb-true s.0.id id (and_parts (is_file s.0) (eqb s.0.id id) e).1 in
          subst (λ (n : ℕ). file_among with_temporary (slice_set (data_sectors d) (i - first_data (length d)) t) n ≡ file_among with_temporary (data_sectors d) n) same
          (freed_own (data_sectors d) (i - first_data (length d)) s t here free new)

  -- Files of which each sector is needed.

  first_passes : (test : Sector → Bool) (xs : List Sector) (i : ℕ) (s : Sector) → slice_get xs i ≡ Some s → is_first test xs i ≡ true → test s ≡ true
  first_passes test [] i s here first = absurd (none-some s here)
  first_passes test (x ∷ xs) zero s here first = ap test (sym (same_Some x s here)) ∙ either (test x) refl first
    where
      either : (b : Bool) → test x ≡ b → eqb (cond (not b) (1 + position_or_len test xs) 0) 0 ≡ true → test x ≡ true
      either true e h = e
      either false e h = absurd (omega (arith, eqb-true (1 + position_or_len test xs) 0 h))
  first_passes test (x ∷ xs) (suc i) s here first = either (test x) first (λ h. first_passes test xs i s here h)
    where
      either : (b : Bool) → eqb (cond (not b) (1 + position_or_len test xs) 0) (suc i) ≡ true → (is_first test xs i ≡ true → test s ≡ true) → test s ≡ true
      either true h more = absurd (omega (arith, eqb-true 0 (suc i) h))
      either false h more = more (eq-eqb (position_or_len test xs) i (omega (arith, eqb-true (1 + position_or_len test xs) (suc i) h)))

  or_true : (a b : Bool) → (a || b) ≡ true → (a ≡ true) ⊎ (b ≡ true)
  or_true true b h = inl refl
  or_true false b h = inr h

  abbrev Part : List Sector → File → ℕ → Sector → Type 0
  Part d f i s = ((s.0.page ≡ leader_page) × (position_or_len (leads_file with_temporary f.id) (data_sectors d) ≡ i)) ⊎ ((s.0.page < size f) × (position_or_len (is_page f.id s.0.page) (data_sectors d) ≡ i))

  pub needed_are_whole : NeededAreWhole with_temporary
  needed_are_whole d needed = laws.each_file with_temporary 0 0 (IsWhole (data_sectors d)) d (λ id f is.
      let own : file_among with_temporary (data_sectors d) f.id ≡ Some f = ap (λ (n : ℕ). file_among with_temporary (data_sectors d) n) (revealed (data_sectors d) id f is).1 ∙ is in
      record {
        no_other = λ i s at of. elim (part f own i s at of) [ inl h ↦ inl h.0 | inr h ↦ inr h.0 ];
        once = λ i j s t at_i at_j of_s of_t same. together f own i j s t same (part f own i s at_i of_s) (part f own j t at_j of_t);
      })
    where
      part : (f : File) → file_among with_temporary (data_sectors d) f.id ≡ Some f → (i : ℕ) (s : Sector) → slice_get (data_sectors d) i ≡ Some s → is_of f.id s ≡ true → Part d f i s
      part f own i s at of =
          let parts = and_parts (is_file s.0) (eqb s.0.id f.id) of in
          let same : s.0.id ≡ f.id = eqb-true s.0.id f.id parts.1 in
          let here : file_among with_temporary (data_sectors d) s.0.id ≡ Some f = ap (λ (n : ℕ). file_among with_temporary (data_sectors d) n) same ∙ own in
          elim (or_true (is_first (leads_file with_temporary s.0.id) (data_sectors d) i) (nat_lt s.0.page (size f) && is_first (is_page s.0.id s.0.page) (data_sectors d) i)
          (sym (needed_at (data_sectors d) i s f at here) ∙ needed i s at parts.0)) [
            | inl h ↦ inl (
              w.leader_number with_temporary s.0.id s (first_passes (leads_file with_temporary s.0.id) (data_sectors d) i s at h),
              ap (λ (n : ℕ). position_or_len (leads_file with_temporary n) (data_sectors d)) (sym same) ∙ eqb-true (position_or_len (leads_file with_temporary s.0.id) (data_sectors d)) i h,
            )
            | inr h ↦ let both = and_parts (nat_lt s.0.page (size f)) (is_first (is_page s.0.id s.0.page) (data_sectors d) i) h in
                inr (
                  ltb-true s.0.page (size f) both.0,
                  ap (λ (n : ℕ). position_or_len (is_page n s.0.page) (data_sectors d)) (sym same) ∙ eqb-true (position_or_len (is_page s.0.id s.0.page) (data_sectors d)) i both.1,
                )
          ]

      numbered : (f : File) → file_among with_temporary (data_sectors d) f.id ≡ Some f → size f ≤ leader_page
      numbered f own = (revealed (data_sectors d) f.id f own).0.numbered

      together : (f : File) → file_among with_temporary (data_sectors d) f.id ≡ Some f → (i j : ℕ) (s t : Sector) → s.0.page ≡ t.0.page → Part d f i s → Part d f j t → i ≡ j
      together f own i j s t same (inl a) (inl b) = sym a.1 ∙ b.1
      together f own i j s t same (inr a) (inr b) = sym a.1 ∙ ap (λ (k : ℕ). position_or_len (is_page f.id k) (data_sectors d)) same ∙ b.1
      together f own i j s t same (inl a) (inr b) = absurd (omega (arith, a.0, b.0, same, numbered f own))
      together f own i j s t same (inr a) (inl b) = absurd (omega (arith, a.0, b.0, same, numbered f own))

  -- No file, and files with right labels.

  no_files : (all rest : List Sector) → ((i : ℕ) (s : Sector) → slice_get rest i ≡ Some s → is_file s.0 ≡ false) → files_by with_temporary all rest ≡ []
  no_files all [] none = refl
  no_files all (s ∷ rest) none =
      let fails : leads with_temporary s ≡ false = and_left (is_file s.0 && eqb s.0.page leader_page) (with_temporary || is_permanent s.0) (and_left (is_file s.0) (eqb s.0.page leader_page) (none 0 s refl)) in
      rw fails (no_files all rest (λ i t at. none (suc i) t at))

  pub empty_has_none : EmptyHasNone with_temporary
  empty_has_none d none = no_files (data_sectors d) (data_sectors d) none

  -- one that passes alone is the first
  first_alone : (test : Sector → Bool) (xs : List Sector) (i : ℕ) (s : Sector) → slice_get xs i ≡ Some s → test s ≡ true → IsAlone test xs i → is_first test xs i ≡ true
  first_alone test [] i s here passes alone = absurd (none-some s here)
  first_alone test (x ∷ xs) zero s here passes alone = let e : test x ≡ true = ap test (same_Some x s here) ∙ passes in rw e refl
  first_alone test (x ∷ xs) (suc i) s here passes alone = either (test x) refl (λ h. first_alone test xs i s here passes h)
    where
      less : test x ≡ false → IsAlone test xs i
      less e j t at t_passes = omega (arith, alone (suc j) t at t_passes)

      either : (b : Bool) → test x ≡ b → (IsAlone test xs i → is_first test xs i ≡ true) → eqb (cond (not b) (1 + position_or_len test xs) 0) (suc i) ≡ true
      either true e more = absurd (omega (arith, alone 0 x refl e))
      either false e more = eq-eqb (1 + position_or_len test xs) (suc i) (omega (arith, eqb-true (position_or_len test xs) i (more (less e))))

  or_left : (a b : Bool) → a ≡ true → (a || b) ≡ true
  or_left true b e = refl
  or_left false b e = absurd (false≢true e)

  or_right : (a b : Bool) → b ≡ true → (a || b) ≡ true
  or_right true b e = refl
  or_right false b e = e

  pub right_are_needed : RightAreNeeded with_temporary
  right_are_needed serial counter d i s f right here is file =
      let whole = laws.of_file with_temporary 0 0 (IsWhole (data_sectors d)) d right.whole_files s.0.id f file in
      let same : f.id ≡ s.0.id = (revealed (data_sectors d) s.0.id f file).1 in
      let of : is_of s.0.id s ≡ true = and_from (is_file s.0) (eqb s.0.id s.0.id) is (eq-eqb s.0.id s.0.id refl) in
      let mine : is_of f.id s ≡ true = ap (λ (n : ℕ). is_of n s) same ∙ of in
      needed_at (data_sectors d) i s f here file ∙ elim (whole.no_other i s here mine) [
        | inl h ↦ or_left (is_first (leads_file with_temporary s.0.id) (data_sectors d) i) (nat_lt s.0.page (size f) && is_first (is_page s.0.id s.0.page) (data_sectors d) i) (leads whole same mine h)
        | inr h ↦ or_right (is_first (leads_file with_temporary s.0.id) (data_sectors d) i) (nat_lt s.0.page (size f) && is_first (is_page s.0.id s.0.page) (data_sectors d) i)
            (and_from (nat_lt s.0.page (size f)) (is_first (is_page s.0.id s.0.page) (data_sectors d) i) (lt-ltb s.0.page (size f) h)
            (first_alone (is_page s.0.id s.0.page) (data_sectors d) i s here (and_from (is_of s.0.id s) (eqb s.0.page s.0.page) of (eq-eqb s.0.page s.0.page refl))
            (λ j t at passes. whole.once j i t s at here (ap (λ (n : ℕ). is_of n t) same ∙ w.page_of with_temporary s.0.id s.0.page t passes) mine (w.page_number with_temporary s.0.id s.0.page t passes))))
      ]
    where
      leads : IsWhole (data_sectors d) f → f.id ≡ s.0.id → is_of f.id s ≡ true → s.0.page ≡ leader_page → is_first (leads_file with_temporary s.0.id) (data_sectors d) i ≡ true
      leads whole same mine page =
          let low = lowest_leader in
          let at : low.0 ≡ i = whole.once low.0 i low.1 s low.2.here here (ap (λ (n : ℕ). is_of n low.1) same ∙ laws.leader_of with_temporary 0 0 s.0.id low.1 low.2.passes) mine (w.leader_number with_temporary s.0.id low.1 low.2.passes ∙ sym page) in
          let eq : low.1 ≡ s = same_Some low.1 s (sym low.2.here ∙ ap (λ (j : ℕ). slice_get (data_sectors d) j) at ∙ here) in
          first_alone (leads_file with_temporary s.0.id) (data_sectors d) i s here (ap (leads_file with_temporary s.0.id) (sym eq) ∙ low.2.passes)
          (λ j t at_j passes. whole.once j i t s at_j here (ap (λ (n : ℕ). is_of n t) same ∙ laws.leader_of with_temporary 0 0 s.0.id t passes) mine (w.leader_number with_temporary s.0.id t passes ∙ sym page))
        where
          lowest_leader : (j : ℕ) × (t : Sector) × IsLowest (leads_file with_temporary s.0.id) (data_sectors d) j t
          lowest_leader = let l = (revealed (data_sectors d) s.0.id f file).0.leader in subst (λ (n : ℕ). (j : ℕ) × (t : Sector) × IsLowest (leads_file with_temporary n) (data_sectors d) j t) (revealed (data_sectors d) s.0.id f file).1 (l.0, l.1, l.2)
