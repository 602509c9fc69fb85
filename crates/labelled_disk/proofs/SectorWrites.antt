-- What one write makes of the files, permanent or all.
use Rattle.std.proofs.Common.{◌≡◌, ◌≢◌, ◌⊎◌, inl, inr, ℕ, ◌+◌, ◌<◌, Bool, true, false, ◌&&◌, ◌||◌, List, [], ◌∷◌, ◌++◌, map, length, take, Option, Some, None, refl, sym, ◌∙◌, ap, subst, arith, eqb}
use Rattle.std.specs.Prelude.{slice_get, slice_set, find, option_map}
use Rattle.std.proofs.lemmas.Option.{same_Some, none-some, slice_get_within}
use Rattle.std.proofs.lemmas.Bool.{cases_eq, and_parts, and_left, eqb-true, ne_eqb}
use Rattle.labelled_disk.specs.declared.label.Label.{Label}
use Rattle.labelled_disk.specs.File.{File, Page, byte, size}
use Rattle.labelled_disk.specs.FilesOn.{file_among, file_by, is_of, is_page, leader_among, leads, leads_file, page_at, pages_from}
use Rattle.labelled_disk.specs.Label.{is_file, is_immutable, is_permanent, leader_page}
use Rattle.labelled_disk.specs.Sectors.{Sector}
use Rattle.labelled_disk.proofs.Finds.{IsAlone, find_past, find_new, find_over, found_at, none_passes, find_alone, get_set_same, alone_after, none_alone}
use Rattle.labelled_disk.proofs.Pages.{pages_same, set_page, cut_pages, grow_pages}

module _ (all : Bool) where
  -- Tests.

  pub not_of-not_page : (id k : ℕ) (s : Sector) → is_of id s ≡ false → is_page id k s ≡ false
  not_of-not_page id k s fails = and_left (is_of id s) (eqb s.0.page k) fails

  four : (a b c e : Bool) → (a && e) ≡ false → ((a && b && c) && e) ≡ false
  four true true true e h = h
  four true true false e h = refl
  four true false c e h = refl
  four false b c e h = refl

  pub not_of-not_leader : (id : ℕ) (s : Sector) → is_of id s ≡ false → leads_file all id s ≡ false
  not_of-not_leader id s fails = four (is_file s.0) (eqb s.0.page leader_page) (all || is_permanent s.0) (eqb s.0.id id) fails

  pub leader_id : (id : ℕ) (s : Sector) → leads_file all id s ≡ true → s.0.id ≡ id
  leader_id id s is = eqb-true s.0.id id (and_parts (leads all s) (eqb s.0.id id) is).1

  pub page_number : (id k : ℕ) (s : Sector) → is_page id k s ≡ true → s.0.page ≡ k
  page_number id k s is = eqb-true s.0.page k (and_parts (is_of id s) (eqb s.0.page k) is).1

  pub page_of : (id k : ℕ) (s : Sector) → is_page id k s ≡ true → is_of id s ≡ true
  page_of id k s is = (and_parts (is_of id s) (eqb s.0.page k) is).0

  right_fails : (a b : Bool) → b ≡ false → (a && b) ≡ false
  right_fails true b e = e
  right_fails false b e = refl

  pub other_page : (id k j : ℕ) (s : Sector) → s.0.page ≡ k → j ≢ k → is_page id j s ≡ false
  other_page id k j s n apart = right_fails (is_of id s) (eqb s.0.page j) (ne_eqb s.0.page j (λ q. apart (sym q ∙ n)))

  -- a page is no leader
  middle_fails : (a b c e : Bool) → b ≡ false → ((a && b && c) && e) ≡ false
  middle_fails true b c e h = rw h refl
  middle_fails false b c e h = refl

  pub other_than_leader : (id : ℕ) (s : Sector) → s.0.page ≢ leader_page → leads_file all id s ≡ false
  other_than_leader id s apart = middle_fails (is_file s.0) (eqb s.0.page leader_page) (all || is_permanent s.0) (eqb s.0.id id) (ne_eqb s.0.page leader_page apart)

  pub leader_number : (id : ℕ) (s : Sector) → leads_file all id s ≡ true → s.0.page ≡ leader_page
  leader_number id s is =
      let a = (and_parts (leads all s) (eqb s.0.id id) is).0 in
      let b = (and_parts (is_file s.0 && eqb s.0.page leader_page) (all || is_permanent s.0) a).0 in
      eqb-true s.0.page leader_page (and_parts (is_file s.0) (eqb s.0.page leader_page) b).1

  -- a sector is of one file alone
  pub of_one : (id other : ℕ) (s : Sector) → is_of id s ≡ true → other ≢ id → is_of other s ≡ false
  of_one id other s is apart =
      let p = eqb-true s.0.id id (and_parts (is_file s.0) (eqb s.0.id id) is).1 in
      let e : eqb s.0.id other ≡ false = ne_eqb s.0.id other (λ q. apart (sym q ∙ p)) in
      either (is_file s.0) e
    where
      either : (b : Bool) → eqb s.0.id other ≡ false → (b && eqb s.0.id other) ≡ false
      either true e = e
      either false e = refl

  -- The same leader, and other pages.

  pub leader_at_id : (xs : List Sector) (id : ℕ) (l : Label) → leader_among all xs id ≡ Some l → l.id ≡ id
  leader_at_id xs id l is = either (find (leads_file all id) xs) refl is
    where
      either : (o : Option Sector) → find (leads_file all id) xs ≡ o → option_map (λ s. s.0) o ≡ Some l → l.id ≡ id
      either None e h = absurd (none-some l h)
      either (Some s) e h =
          let f = found_at (leads_file all id) xs s e in
          ap (λ (m : Label). m.id) (sym (same_Some s.0 l h)) ∙ leader_id id s f.2

  abbrev pub all_pages : List Sector → ℕ → List Page
  all_pages xs id = pages_from (page_at xs id) 0 leader_page

  pub by_pages : (xs ys : List Sector) (id : ℕ) (g : List Page → List Page) → leader_among all ys id ≡ leader_among all xs id → all_pages ys id ≡ g (all_pages xs id)
      → file_among all ys id ≡ option_map (λ (f : File). record f { pages = g f.pages }) (file_among all xs id)
  by_pages xs ys id g leaders pages = either (leader_among all xs id) refl (leaders)
    where
      either : (o : Option Label) → leader_among all xs id ≡ o → leader_among all ys id ≡ o
          → option_map (file_by ys) (leader_among all ys id) ≡ option_map (λ (f : File). record f { pages = g f.pages }) (option_map (file_by xs) (leader_among all xs id))
      either None a b = ap (λ (o : Option Label). option_map (file_by ys) o) b ∙ sym (ap (λ (o : Option Label). option_map (λ (f : File). record f { pages = g f.pages }) (option_map (file_by xs) o)) a)
      either (Some l) a b =
          let same : l.id ≡ id = leader_at_id xs id l a in
          let e : all_pages ys l.id ≡ g (all_pages xs l.id) = subst (λ (n : ℕ). all_pages ys n ≡ g (all_pages xs n)) (sym same) pages in
          ap (λ (o : Option Label). option_map (file_by ys) o) b
          ∙ ap (λ (p : List Page). Some (record { id = l.id; kind = l.kind; permanent = is_permanent l; immutable = is_immutable l; pages = p })) e
          ∙ sym (ap (λ (o : Option Label). option_map (λ (f : File). record f { pages = g f.pages }) (option_map (file_by xs) o)) a)

  option_same : (o : Option File) → option_map (λ (f : File). record f { pages = f.pages }) o ≡ o
  option_same None = refl
  option_same (Some f) = refl

  pub by_same_pages : (xs ys : List Sector) (id : ℕ) → leader_among all ys id ≡ leader_among all xs id → all_pages ys id ≡ all_pages xs id → file_among all ys id ≡ file_among all xs id
  by_same_pages xs ys id leaders pages = by_pages xs ys id (λ (p : List Page). p) leaders pages ∙ option_same (file_among all xs id)

  -- where there is a file, its pages are all there are
  pub file_pages : (xs : List Sector) (id : ℕ) (f : File) → file_among all xs id ≡ Some f → f.pages ≡ all_pages xs id
  file_pages xs id f is = either (leader_among all xs id) refl is
    where
      either : (o : Option Label) → leader_among all xs id ≡ o → option_map (file_by xs) o ≡ Some f → f.pages ≡ all_pages xs id
      either None e h = absurd (none-some f h)
      either (Some l) e h = ap (λ (h : File). h.pages) (sym (same_Some (file_by xs l) f h)) ∙ ap (λ (n : ℕ). all_pages xs n) (leader_at_id xs id l e)

  -- a file has a leader
  pub file_leader : (xs : List Sector) (id : ℕ) (f : File) → file_among all xs id ≡ Some f
      → (l : Label) × (leader_among all xs id ≡ Some l) × (f ≡ file_by xs l)
  file_leader xs id f is = either (leader_among all xs id) refl is
    where
      either : (o : Option Label) → leader_among all xs id ≡ o → option_map (file_by xs) o ≡ Some f → (l : Label) × (leader_among all xs id ≡ Some l) × (f ≡ file_by xs l)
      either None e h = absurd (none-some f h)
      either (Some l) e h = (l, e, sym (same_Some (file_by xs l) f h))

  pub file_none : (xs : List Sector) (id : ℕ) → leader_among all xs id ≡ None → file_among all xs id ≡ None
  file_none xs id e = ap (λ (o : Option Label). option_map (file_by xs) o) e

  pub none_leads : (xs : List Sector) (id : ℕ) → file_among all xs id ≡ None → find (leads_file all id) xs ≡ None
  none_leads xs id h = either (find (leads_file all id) xs) refl h
    where
      either : (o : Option Sector) → find (leads_file all id) xs ≡ o → option_map (file_by xs) (option_map (λ s. s.0) o) ≡ None → find (leads_file all id) xs ≡ None
      either None e h = e
      either (Some s) e h = absurd (none-some (file_by xs s.0) (sym h))

  pub page_missing : (xs : List Sector) (id k : ℕ) → page_at xs id k ≡ None → find (is_page id k) xs ≡ None
  page_missing xs id k h = either (find (is_page id k) xs) refl h
    where
      either : (o : Option Sector) → find (is_page id k) xs ≡ o → option_map (λ s. map byte s.1) o ≡ None → find (is_page id k) xs ≡ None
      either None e h = e
      either (Some s) e h = absurd (none-some (map byte s.1) (sym h))

  -- Sector i, which was s, is t.
  module _ (xs : List Sector) (i : ℕ) (s t : Sector) (here : slice_get xs i ≡ Some s) where
    within : i < length xs
    within = slice_get_within xs i s here

    -- another file's sector, before and after
    pub leader_past : (id : ℕ) → leads_file all id s ≡ false → leads_file all id t ≡ false → leader_among all (slice_set xs i t) id ≡ leader_among all xs id
    leader_past id old new = ap (λ (o : Option Sector). option_map (λ (u : Sector). u.0) o) (find_past (leads_file all id) xs i s t here old new)

    pub page_past : (id k : ℕ) → is_page id k s ≡ false → is_page id k t ≡ false → page_at (slice_set xs i t) id k ≡ page_at xs id k
    page_past id k old new = ap (λ (o : Option Sector). option_map (λ (u : Sector). map byte u.1) o) (find_past (is_page id k) xs i s t here old new)

    -- a write over a sector of other files with a label of other files
    pub others_stay : (id : ℕ) → is_of id s ≡ false → is_of id t ≡ false → file_among all (slice_set xs i t) id ≡ file_among all xs id
    others_stay id old new =
        by_same_pages xs (slice_set xs i t) id (leader_past id (not_of-not_leader id s old) (not_of-not_leader id t new))
        (pages_same (page_at xs id) (page_at (slice_set xs i t) id) 0 leader_page (λ k l m. page_past id k (not_of-not_page id k s old) (not_of-not_page id k t new)))

    -- whatever stood there: no file comes from a label that is no permanent leader
    pub temporary_stays : (id : ℕ) → file_among all xs id ≡ None → leads_file all id t ≡ false → file_among all (slice_set xs i t) id ≡ None
    temporary_stays id none new =
        let f = none_leads xs id none in
        file_none (slice_set xs i t) id
        (ap (λ (o : Option Sector). option_map (λ (u : Sector). u.0) o) (find_past (leads_file all id) xs i s t here (none_passes (leads_file all id) xs f i s here) new ∙ f))

    -- the file's leader stays where the label is the same
    leader_same : (id : ℕ) → t.0 ≡ s.0 → leader_among all (slice_set xs i t) id ≡ leader_among all xs id
    leader_same id same = elim (find_over (leads_file all id) xs i s t here (ap (λ (l : Label). leads_file all id (l, s.1)) same)) [
      | inl e ↦ ap (λ (o : Option Sector). option_map (λ (u : Sector). u.0) o) e
      | inr e ↦ ap (λ (o : Option Sector). option_map (λ (u : Sector). u.0) o) e.1 ∙ ap (λ (l : Label). Some l) same ∙ sym (ap (λ (o : Option Sector). option_map (λ (u : Sector). u.0) o) e.0)
    ]

    -- page k of file id has other bytes: its file is the same, or has these bytes there
    pub page_written : (id k : ℕ) → is_page id k s ≡ true → t.0 ≡ s.0
        → (file_among all (slice_set xs i t) id ≡ file_among all xs id)
        ⊎ (file_among all (slice_set xs i t) id ≡ option_map (λ (f : File). record f { pages = slice_set f.pages k (map byte t.1) }) (file_among all xs id))
    page_written id k old same = elim (find_over (is_page id k) xs i s t here (ap (λ (l : Label). is_page id k (l, s.1)) same)) [
      | inl e ↦ inl (by_same_pages xs (slice_set xs i t) id (leader_same id same)
          (pages_same (page_at xs id) (page_at (slice_set xs i t) id) 0 leader_page (λ j l m. one e j (cases_eq j k))))
      | inr e ↦ inr (by_pages xs (slice_set xs i t) id (λ (p : List Page). slice_set p k (map byte t.1)) (leader_same id same)
          (set_page (page_at xs id) (page_at (slice_set xs i t) id) leader_page k (map byte s.1) (map byte t.1) (seen xs s e.0) (seen (slice_set xs i t) t e.1) (λ j apart. other j apart)))
    ]
      where
        other : (j : ℕ) → j ≢ k → page_at (slice_set xs i t) id j ≡ page_at xs id j
        other j apart =
            let n : s.0.page ≡ k = page_number id k s old in
            let m : t.0.page ≡ k = ap (λ (l : Label). l.page) same ∙ n in
            page_past id j (other_page id k j s n apart) (other_page id k j t m apart)

        one : find (is_page id k) (slice_set xs i t) ≡ find (is_page id k) xs → (j : ℕ) → (j ≡ k) ⊎ (j ≢ k) → page_at (slice_set xs i t) id j ≡ page_at xs id j
        one e j (inl is) = subst (λ (n : ℕ). page_at (slice_set xs i t) id n ≡ page_at xs id n) (sym is) (ap (λ (o : Option Sector). option_map (λ (u : Sector). map byte u.1) o) e)
        one e j (inr apart) = other j apart

        seen : (ys : List Sector) (u : Sector) → find (is_page id k) ys ≡ Some u → page_at ys id k ≡ Some (map byte u.1)
        seen ys u e = ap (λ (o : Option Sector). option_map (λ (u : Sector). map byte u.1) o) e

    -- page k of file id, which no other sector is, has other bytes
    pub page_written_alone : (id k : ℕ) → is_page id k s ≡ true → IsAlone (is_page id k) xs i → t.0 ≡ s.0
        → file_among all (slice_set xs i t) id ≡ option_map (λ (f : File). record f { pages = slice_set f.pages k (map byte t.1) }) (file_among all xs id)
    page_written_alone id k old alone same =
        let new : is_page id k t ≡ true = ap (λ (l : Label). is_page id k (l, s.1)) same ∙ old in
        let there = get_set_same xs i t within in
        by_pages xs (slice_set xs i t) id (λ (p : List Page). slice_set p k (map byte t.1)) (leader_same id same)
        (set_page (page_at xs id) (page_at (slice_set xs i t) id) leader_page k (map byte s.1) (map byte t.1)
        (ap (λ (o : Option Sector). option_map (λ (u : Sector). map byte u.1) o) (find_alone (is_page id k) xs i s here old alone))
        (ap (λ (o : Option Sector). option_map (λ (u : Sector). map byte u.1) o) (find_alone (is_page id k) (slice_set xs i t) i t there new (alone_after (is_page id k) xs i t alone)))
        (λ j apart. page_past id j (other_page id k j s (page_number id k s old) apart) (other_page id k j t (page_number id k t new) apart)))

    -- one page more: the sector was another file's or free
    pub grown : (id : ℕ) (f : File) → file_among all xs id ≡ Some f → is_of id s ≡ false → is_page id (size f) t ≡ true → page_at xs id (size f) ≡ None → page_at xs id (size f + 1) ≡ None → size f < leader_page
        → file_among all (slice_set xs i t) id ≡ Some (record f { pages = f.pages ++ map byte t.1 ∷ [] })
    grown id f is old new last next room =
        let m : t.0.page ≡ size f = page_number id (size f) t new in
        let n : size f + 1 ≢ size f = λ (q : size f + 1 ≡ size f). omega (arith, q) in
        let long : length (all_pages xs id) ≡ size f = ap (λ (p : List Page). length p) (sym (file_pages xs id f is)) in
        let found : find (is_page id (size f)) xs ≡ None = page_missing xs id (size f) last in
        let lead : leader_among all (slice_set xs i t) id ≡ leader_among all xs id = leader_past id (not_of-not_leader id s old) (other_than_leader id t (λ q. omega (arith, q, m, room))) in
        by_pages xs (slice_set xs i t) id (λ (p : List Page). p ++ map byte t.1 ∷ []) lead
        (grow_pages (page_at xs id) (page_at (slice_set xs i t) id) leader_page (size f) (map byte t.1) long room
        (ap (λ (o : Option Sector). option_map (λ (u : Sector). map byte u.1) o) (find_new (is_page id (size f)) xs i t within found new))
        (page_past id (size f + 1) (not_of-not_page id (size f + 1) s old) (other_page id (size f) (size f + 1) t m n) ∙ next)
        (λ j l. page_past id j (not_of-not_page id j s old) (other_page id (size f) j t m (λ q. omega (arith, q, l)))))
        ∙ ap (λ (o : Option File). option_map (λ (g : File). record g { pages = g.pages ++ map byte t.1 ∷ [] }) o) is

    -- page k, which no other sector is, goes
    pub cut : (id k : ℕ) → is_page id k s ≡ true → IsAlone (is_page id k) xs i → k < leader_page → is_of id t ≡ false
        → file_among all (slice_set xs i t) id ≡ option_map (λ (f : File). record f { pages = take k f.pages }) (file_among all xs id)
    cut id k old alone low new =
        let n : s.0.page ≡ k = page_number id k s old in
        by_pages xs (slice_set xs i t) id (λ (p : List Page). take k p)
        (leader_past id (other_than_leader id s (λ q. omega (arith, q, n, low))) (not_of-not_leader id t new))
        (cut_pages (page_at xs id) (page_at (slice_set xs i t) id) leader_page k
        (ap (λ (o : Option Sector). option_map (λ (u : Sector). map byte u.1) o) (none_alone (is_page id k) xs i t alone (not_of-not_page id k t new)))
        (λ j l. page_past id j (other_page id k j s n (λ q. omega (arith, q, l))) (not_of-not_page id j t new)))

    -- the only leader goes
    pub deleted : (id : ℕ) → IsAlone (leads_file all id) xs i → leads_file all id t ≡ false → file_among all (slice_set xs i t) id ≡ None
    deleted id alone new =
        file_none (slice_set xs i t) id (ap (λ (o : Option Sector). option_map (λ (u : Sector). u.0) o) (none_alone (leads_file all id) xs i t alone new))

    -- a leader, and no other sector was one, has other marks
    pub leader_marked : (id : ℕ) → s.0.page ≡ leader_page → IsAlone (leads_file all id) xs i → leads_file all id t ≡ true
        → file_among all (slice_set xs i t) id ≡ Some (file_by xs t.0)
    leader_marked id old alone new =
        let there = get_set_same xs i t within in
        let n : t.0.page ≡ leader_page = leader_number id t new in
        let lead : leader_among all (slice_set xs i t) id ≡ Some t.0 =
        ap (λ (o : Option Sector). option_map (λ (u : Sector). u.0) o) (find_alone (leads_file all id) (slice_set xs i t) i t there new (alone_after (leads_file all id) xs i t alone)) in
        let pages : all_pages (slice_set xs i t) t.0.id ≡ all_pages xs t.0.id =
        pages_same (page_at xs t.0.id) (page_at (slice_set xs i t) t.0.id) 0 leader_page
        (λ j l m. page_past t.0.id j (other_page t.0.id leader_page j s old (λ q. omega (arith, q, m))) (other_page t.0.id leader_page j t n (λ q. omega (arith, q, m)))) in
        ap (λ (o : Option Label). option_map (file_by (slice_set xs i t)) o) lead
        ∙ ap (λ (p : List Page). Some (record { id = t.0.id; kind = t.0.kind; permanent = is_permanent t.0; immutable = is_immutable t.0; pages = p })) pages
