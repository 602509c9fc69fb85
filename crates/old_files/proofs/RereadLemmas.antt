-- Old labels read as those of today.
use Rattle.std.proofs.Common.{◌≡◌, ◌≢◌, ◌⊎◌, inl, inr, ℕ, zero, suc, ◌+◌, ◌<◌, ◌≤◌, Bool, true, false, not, ◌&&◌, ◌||◌, cond, List, [], ◌∷◌, map, length, Option, Some, None, refl, sym, ◌∙◌, ap, arith, eqb}
use Rattle.std.specs.Prelude.{slice_get, find, option_map, nat_lt, nat_le, if◌then◌else◌}
use Rattle.std.specs.Option.{option_map_or}
use Rattle.std.specs.List.{position_or_len}
use Rattle.std.proofs.lemmas.Option.{same_Some, none-some}
use Rattle.std.proofs.lemmas.Bool.{cases_lt, cases_eq, and_parts, eqb-true, eq-eqb, ne_eqb, lt-ltb, le-ltb, true≢false, leb-true, leb-false}
use Rattle.labelled_disk.specs.Label.{is_file, is_permanent, leader_page}
use Rattle.labelled_disk.specs.Sectors.{Sector}
use Rattle.labelled_disk.specs.File.{File, Page, byte, size}
use Rattle.labelled_disk.specs.FilesOn.{is_page, page_at, pages_from, leads_file, file_among, file_by}
use Rattle.labelled_disk.specs.Lowest.{is_first, is_needed}
use Rattle.labelled_disk.proofs.Pages.{pages_most, pages_stop, pages_each, pages_below}
use Rattle.old_files.specs.OldFiles.{heads, heads_file, head_among, old_page_at, old_file_by, old_file_among, is_old_needed}
use Rattle.old_files.specs.Reread.{page_before, label_before, reread, all_reread, IsShort, RereadAsToday}

-- The page before, case by case.

before_zero : (k : ℕ) → eqb (page_before 0) k ≡ eqb leader_page k
before_zero k = refl

-- it is the leader's exactly before page 0
pub before_leader : (p : ℕ) → eqb (page_before p) leader_page ≡ eqb p 0
before_leader zero = refl
before_leader (suc p) = either (nat_le (suc p) leader_page) refl
  where
    either : (b : Bool) → nat_le (suc p) leader_page ≡ b → eqb (if b then p else suc p) leader_page ≡ eqb (suc p) 0
    either true e = let low = leb-true (suc p) leader_page e in
        ne_eqb p leader_page (λ is. absurd (omega (arith, is, low))) ∙ sym (ne_eqb (suc p) 0 (λ is. absurd (omega (arith, is))))
    either false e = let high = leb-false (suc p) leader_page e in
        ne_eqb (suc p) leader_page (λ is. absurd (omega (arith, is, high))) ∙ sym (ne_eqb (suc p) 0 (λ is. absurd (omega (arith, is))))

-- it is page k exactly before page k + 1
before_page : (p k : ℕ) → k < leader_page → eqb (page_before p) k ≡ eqb p (suc k)
before_page zero k below = ne_eqb leader_page k (λ is. absurd (omega (arith, is, below))) ∙ sym (ne_eqb 0 (suc k) (λ is. absurd (omega (arith, is))))
before_page (suc p) k below = either (nat_le (suc p) leader_page) refl (cases_eq p k)
  where
    either : (b : Bool) → nat_le (suc p) leader_page ≡ b → (p ≡ k) ⊎ (p ≢ k) → eqb (if b then p else suc p) k ≡ eqb (suc p) (suc k)
    either true e (inl is) = eq-eqb p k is ∙ sym (eq-eqb (suc p) (suc k) (omega (arith, is)))
    either true e (inr apart) = ne_eqb p k apart ∙ sym (ne_eqb (suc p) (suc k) (λ is. apart (omega (arith, is))))
    either false e c = let high = leb-false (suc p) leader_page e in
        ne_eqb (suc p) k (λ is. absurd (omega (arith, is, high, below))) ∙ sym (ne_eqb (suc p) (suc k) (λ is. absurd (omega (arith, is, high, below))))

-- Searches.

pub leads_reread : (id : ℕ) (s : Sector) → leads_file false id (reread s) ≡ heads_file id s
leads_reread id s = ap (λ (b : Bool). is_file s.0 && b && is_permanent s.0 && eqb s.0.id id) (before_leader s.0.page)

page_reread : (id k : ℕ) (s : Sector) → k < leader_page → is_page id k (reread s) ≡ is_page id (suc k) s
page_reread id k s below = ap (λ (b : Bool). is_file s.0 && eqb s.0.id id && b) (before_page s.0.page k below)

module _ (test old : Sector → Bool) (same : (s : Sector) → test (reread s) ≡ old s) where
  pub find_reread : (xs : List Sector) → find test (all_reread xs) ≡ option_map reread (find old xs)
  find_reread [] = refl
  find_reread (x ∷ xs) = rw (same x) (either (old x) (find_reread xs))
    where
      either : (b : Bool) → find test (all_reread xs) ≡ option_map reread (find old xs) → cond b (Some (reread x)) (find test (all_reread xs)) ≡ option_map reread (cond b (Some x) (find old xs))
      either true more = refl
      either false more = more

  place_reread : (xs : List Sector) → position_or_len test (all_reread xs) ≡ position_or_len old xs
  place_reread [] = refl
  place_reread (x ∷ xs) = rw (same x) (either (old x) (place_reread xs))
    where
      either : (b : Bool) → position_or_len test (all_reread xs) ≡ position_or_len old xs → cond (not b) (1 + position_or_len test (all_reread xs)) 0 ≡ cond (not b) (1 + position_or_len old xs) 0
      either true more = refl
      either false more = ap (λ (n : ℕ). 1 + n) more

  first_reread : (xs : List Sector) (i : ℕ) → is_first test (all_reread xs) i ≡ is_first old xs i
  first_reread xs i = ap (λ (n : ℕ). eqb n i) (place_reread xs)

pub get_reread : (xs : List Sector) (i : ℕ) → slice_get (all_reread xs) i ≡ option_map reread (slice_get xs i)
get_reread [] i = refl
get_reread (x ∷ xs) zero = refl
get_reread (x ∷ xs) (suc i) = get_reread xs i

module _ (xs : List Sector) (short : IsShort xs) where
  leader : (id : ℕ) → find (leads_file false id) (all_reread xs) ≡ option_map reread (head_among xs id)
  leader id = find_reread (leads_file false id) (heads_file id) (leads_reread id) xs

  -- the bytes of a page are those of the page after
  page : (id k : ℕ) → k < leader_page → page_at (all_reread xs) id k ≡ old_page_at xs id (suc k)
  page id k below = ap (λ (o : Option Sector). option_map (λ s. map byte s.1) o) (find_reread (is_page id k) (is_page id (suc k)) (λ s. page_reread id k s below) xs) ∙ bytes (find (is_page id (suc k)) xs)
    where
      bytes : (o : Option Sector) → option_map (λ s. map byte s.1) (option_map reread o) ≡ option_map (λ s. map byte s.1) o
      bytes None = refl
      bytes (Some s) = refl

  -- the pages that a file is found to have
  abbrev count : ℕ → ℕ
  count id = length (pages_from (page_at (all_reread xs) id) 0 leader_page)

  abbrev old_count : ℕ → ℕ
  old_count id = length (pages_from (old_page_at xs id) 0 leader_page)

  -- with a page 0, one more
  one_more : (id : ℕ) (h : Sector) → head_among xs id ≡ Some h → old_count id ≡ count id + 1
  one_more id h is = omega (arith, least, most)
    where
      here : old_page_at xs id 0 ≡ Some (map byte h.1)
      here = ap (λ (o : Option Sector). option_map (λ u. map byte u.1) o) is

      below : count id < leader_page
      below = short id h is

      -- each page up to there
      there : (k : ℕ) → k < count id → (q : Page) × (page_at (all_reread xs) id k ≡ Some q)
      there k l = some (slice_get (pages_from (page_at (all_reread xs) id) 0 leader_page) k) (pages_each (page_at (all_reread xs) id) 0 leader_page k l) (get_page (pages_from (page_at (all_reread xs) id) 0 leader_page) k l)
        where
          get_page : (ps : List Page) (k : ℕ) → k < length ps → (q : Page) × (slice_get ps k ≡ Some q)
          get_page [] k m = absurd (omega arith)
          get_page (q ∷ ps) zero m = (q, refl)
          get_page (q ∷ ps) (suc k) m = get_page ps k (omega arith)

          some : (o : Option Page) → o ≡ page_at (all_reread xs) id (0 + k) → (q : Page) × (slice_get (pages_from (page_at (all_reread xs) id) 0 leader_page) k ≡ Some q) → (q : Page) × (page_at (all_reread xs) id k ≡ Some q)
          some o e q = let z : 0 + k ≡ k = omega arith in
              (q.0, ap (page_at (all_reread xs) id) (sym z) ∙ sym (pages_each (page_at (all_reread xs) id) 0 leader_page k l) ∙ q.1)

      missing : page_at (all_reread xs) id (count id) ≡ None
      missing = let z : 0 + count id ≡ count id = omega arith in ap (page_at (all_reread xs) id) (sym z) ∙ pages_stop (page_at (all_reread xs) id) 0 leader_page below

      most : old_count id ≤ count id + 1
      most =
          let gone : old_page_at xs id (suc (count id)) ≡ None = sym (page id (count id) below) ∙ missing in
          omega (arith, pages_below (old_page_at xs id) 0 leader_page (suc (count id)) (omega arith) gone)

      least : count id + 1 ≤ old_count id
      least = by (cases_lt (old_count id) (count id + 1))
        where
          gone : (n : ℕ) → n ≤ count id → old_page_at xs id n ≡ None → ⊥
          gone zero l none = none-some (map byte h.1) (sym none ∙ here)
          gone (suc k) l none = let q = there k (omega arith) in none-some q.0 (sym none ∙ sym (page id k (omega (arith, l, below))) ∙ q.1)

          by : (old_count id < count id + 1) ⊎ (count id + 1 ≤ old_count id) → count id + 1 ≤ old_count id
          by (inr l) = l
          by (inl l) =
              let z : 0 + old_count id ≡ old_count id = omega arith in
              absurd (gone (old_count id) (omega (arith, l)) (ap (old_page_at xs id) (sym z) ∙ pages_stop (old_page_at xs id) 0 leader_page (omega (arith, l, below))))

  -- the file
  new_file : (id : ℕ) → file_among false (all_reread xs) id ≡ option_map (λ s. file_by (all_reread xs) (label_before s.0)) (head_among xs id)
  new_file id = ap (λ (o : Option Sector). option_map (file_by (all_reread xs)) (option_map (λ s. s.0) o)) (leader id) ∙ by (head_among xs id)
    where
      by : (o : Option Sector) → option_map (file_by (all_reread xs)) (option_map (λ s. s.0) (option_map reread o)) ≡ option_map (λ s. file_by (all_reread xs) (label_before s.0)) o
      by None = refl
      by (Some s) = refl

  head_of : (id : ℕ) (s : Sector) → head_among xs id ≡ Some s → s.0.id ≡ id
  head_of id s is = let f = found (heads_file id) xs s is in eqb-true s.0.id id (and_parts (heads s) (eqb s.0.id id) f).1
    where
      found : (test : Sector → Bool) (xs : List Sector) (s : Sector) → find test xs ≡ Some s → test s ≡ true
      found test [] s is = absurd (none-some s is)
      found test (x ∷ xs) s is = either (test x) refl is (found test xs s)
        where
          either : (b : Bool) → test x ≡ b → cond b (Some x) (find test xs) ≡ Some s → (find test xs ≡ Some s → test s ≡ true) → test s ≡ true
          either true t e more = ap test (sym (same_Some x s e)) ∙ t
          either false t e more = more e

  first_page : (id : ℕ) (s : Sector) → head_among xs id ≡ Some s → old_page_at xs id 0 ≡ Some (map byte s.1)
  first_page id s is = ap (λ (o : Option Sector). option_map (λ u. map byte u.1) o) is

  room : (id : ℕ) → option_map (λ f. size f + 1) (file_among false (all_reread xs) id) ≡ option_map size (old_file_among xs id)
  room id = ap (λ (o : Option File). option_map (λ f. size f + 1) o) (new_file id) ∙ by (head_among xs id) refl
    where
      by : (o : Option Sector) → head_among xs id ≡ o → option_map (λ f. size f + 1) (option_map (λ s. file_by (all_reread xs) (label_before s.0)) o) ≡ option_map size (option_map (old_file_by xs) (option_map (λ s. s.0) o))
      by None e = refl
      by (Some s) e = ap (λ (n : ℕ). Some n) (sym (one_more s.0.id s (ap (λ (n : ℕ). head_among xs n) (head_of id s e) ∙ e)))

  needed : (i : ℕ) → is_needed false (all_reread xs) i ≡ is_old_needed xs i
  needed i = ap (λ (o : Option Sector). option_map_or (λ s. option_map_or (λ f. is_first (leads_file false s.0.id) (all_reread xs) i || (nat_lt s.0.page (size f) && is_first (is_page s.0.id s.0.page) (all_reread xs) i))
      (file_among false (all_reread xs) s.0.id) false) o false) (get_reread xs i) ∙ by (slice_get xs i) refl
    where
      own : (id : ℕ) (h : Sector) → head_among xs id ≡ Some h → head_among xs h.0.id ≡ Some h
      own id h is = ap (λ (n : ℕ). head_among xs n) (head_of id h is) ∙ is

      lt_le : (m n : ℕ) → m < n → m ≤ n
      lt_le m n l = omega arith

      no_first : (a b : Bool) → a ≡ false → (a && b) ≡ false
      no_first true b h = absurd (true≢false h)
      no_first false b h = refl

      second : (id : ℕ) (h : Sector) (p : ℕ) → head_among xs id ≡ Some h
          → (nat_lt (page_before p) (count h.0.id) && is_first (is_page id (page_before p)) (all_reread xs) i)
          ≡ (nat_lt 0 p && (nat_lt p (old_count h.0.id) && is_first (is_page id p) xs i))
      second id h zero is = no_first (nat_lt leader_page (count h.0.id)) (is_first (is_page id leader_page) (all_reread xs) i) (le-ltb leader_page (count h.0.id) (lt_le (count h.0.id) leader_page (short h.0.id h (own id h is))))
      second id h (suc k) is = either (nat_le (suc k) leader_page) refl
        where
          more : old_count h.0.id ≡ count h.0.id + 1
          more = one_more h.0.id h (own id h is)

          lt : (cases : (k < count h.0.id) ⊎ (count h.0.id ≤ k)) → nat_lt k (count h.0.id) ≡ nat_lt (suc k) (old_count h.0.id)
          lt (inl l) = lt-ltb k (count h.0.id) l ∙ sym (lt-ltb (suc k) (old_count h.0.id) (omega (arith, l, more)))
          lt (inr l) = le-ltb k (count h.0.id) l ∙ sym (le-ltb (suc k) (old_count h.0.id) (omega (arith, l, more)))

          above : nat_lt 0 (suc k) ≡ true
          above = lt-ltb 0 (suc k) (omega arith)

          either : (b : Bool) → nat_le (suc k) leader_page ≡ b
              → (nat_lt (if b then k else suc k) (count h.0.id) && is_first (is_page id (if b then k else suc k)) (all_reread xs) i)
              ≡ (nat_lt 0 (suc k) && (nat_lt (suc k) (old_count h.0.id) && is_first (is_page id (suc k)) xs i))
          either true e =
              let low = leb-true (suc k) leader_page e in
              ap (λ (b : Bool). b && is_first (is_page id k) (all_reread xs) i) (lt (cases_lt k (count h.0.id)))
              ∙ ap (λ (b : Bool). nat_lt (suc k) (old_count h.0.id) && b) (first_reread (is_page id k) (is_page id (suc k)) (λ s. page_reread id k s (omega (arith, low))) xs i)
              ∙ ap (λ (b : Bool). b && (nat_lt (suc k) (old_count h.0.id) && is_first (is_page id (suc k)) xs i)) (sym above)
          either false e =
              let high = leb-false (suc k) leader_page e in
              no_first (nat_lt (suc k) (count h.0.id)) (is_first (is_page id (suc k)) (all_reread xs) i) (le-ltb (suc k) (count h.0.id) (omega (arith, high, short h.0.id h (own id h is))))
              ∙ sym (no_first (nat_lt (suc k) (old_count h.0.id)) (is_first (is_page id (suc k)) xs i) (le-ltb (suc k) (old_count h.0.id) (omega (arith, high, pages_most (old_page_at xs h.0.id) 0 leader_page))))
              ∙ ap (λ (b : Bool). b && (nat_lt (suc k) (old_count h.0.id) && is_first (is_page id (suc k)) xs i)) (sym above)

      by : (o : Option Sector) → slice_get xs i ≡ o
          → option_map_or (λ s. option_map_or (λ f. is_first (leads_file false s.0.id) (all_reread xs) i || (nat_lt s.0.page (size f) && is_first (is_page s.0.id s.0.page) (all_reread xs) i)) (file_among false (all_reread xs) s.0.id) false) (option_map reread o) false
          ≡ option_map_or (λ s. option_map_or (λ f. is_first (heads_file s.0.id) xs i || (nat_lt 0 s.0.page && (nat_lt s.0.page (size f) && is_first (is_page s.0.id s.0.page) xs i))) (old_file_among xs s.0.id) false) o false
      by None e = refl
      by (Some s) e =
          ap (λ (o : Option File). option_map_or (λ f. is_first (leads_file false s.0.id) (all_reread xs) i || (nat_lt (page_before s.0.page) (size f) && is_first (is_page s.0.id (page_before s.0.page)) (all_reread xs) i)) o false) (new_file s.0.id)
          ∙ file (head_among xs s.0.id) refl
        where
          file : (o : Option Sector) → head_among xs s.0.id ≡ o
              → option_map_or (λ f. is_first (leads_file false s.0.id) (all_reread xs) i || (nat_lt (page_before s.0.page) (size f) && is_first (is_page s.0.id (page_before s.0.page)) (all_reread xs) i)) (option_map (λ h. file_by (all_reread xs) (label_before h.0)) o) false
              ≡ option_map_or (λ f. is_first (heads_file s.0.id) xs i || (nat_lt 0 s.0.page && (nat_lt s.0.page (size f) && is_first (is_page s.0.id s.0.page) xs i))) (option_map (old_file_by xs) (option_map (λ h. h.0) o)) false
          file None n = refl
          file (Some h) n =
              let a = first_reread (leads_file false s.0.id) (heads_file s.0.id) (leads_reread s.0.id) xs i in
              let b = second s.0.id h s.0.page n in
              ap (λ (c : Bool). c || (nat_lt (page_before s.0.page) (count h.0.id) && is_first (is_page s.0.id (page_before s.0.page)) (all_reread xs) i)) a
              ∙ ap (λ (c : Bool). is_first (heads_file s.0.id) xs i || c) b

pub reread_as_today : RereadAsToday
reread_as_today xs short = record { leader = leader xs short; needed = needed xs short; room = room xs short }
