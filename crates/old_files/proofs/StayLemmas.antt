-- Old files stay while only sectors that none of them needs change.
use Rattle.std.proofs.Common.{◌≡◌, ◌≢◌, ◌⊎◌, inl, inr, ℕ, zero, suc, ◌+◌, ◌<◌, ◌≤◌, Bool, true, false, ◌&&◌, ◌||◌, List, [], ◌∷◌, map, length, Option, Some, None, refl, sym, ◌∙◌, ap, subst, arith, eqb}
use Rattle.std.specs.Prelude.{slice_get, find, option_map, nat_lt}
use Rattle.std.specs.Option.{option_map_or}
use Rattle.std.specs.List.{position_or_len}
use Rattle.std.proofs.lemmas.Option.{same_Some, none-some, slice_get_within}
use Rattle.std.proofs.lemmas.Bool.{cases_lt, cases_eq, and_parts, and_left, eqb-true, eqb-false, ne_eqb, lt-ltb, false≢true, true≢false}
use Rattle.labelled_disk.specs.Label.{is_file, is_permanent, is_immutable, leader_page}
use Rattle.labelled_disk.specs.Sectors.{Sector}
use Rattle.labelled_disk.specs.Layout.{data_sectors}
use Rattle.labelled_disk.specs.File.{File, byte, size}
use Rattle.labelled_disk.specs.FilesOn.{is_page, is_of, page_at, pages_from}
use Rattle.labelled_disk.specs.Lowest.{is_first}
use Rattle.labelled_disk.proofs.Finds.{none_passes, found_at}
use Rattle.labelled_disk.proofs.Pages.{pages_stay, pages_stop}
use Rattle.old_files.specs.OldFiles.{heads, heads_file, head_among, old_page_at, old_file_by, old_file_among, is_old_needed}
use Rattle.old_files.specs.Laws.{OnlyUnneeded, IsNoPage, OldFilesStay}
use Rattle.old_files.proofs.OldLemmas.{same_old_files}

pub get_some : (xs : List Sector) (i : ℕ) → i < length xs → (x : Sector) × (slice_get xs i ≡ Some x)
get_some [] i below = absurd (omega arith)
get_some (x ∷ xs) zero below = (x, refl)
get_some (x ∷ xs) (suc i) below = get_some xs i (omega arith)

-- A search in a list of which elements that it doesn't find were replaced by ones that fail.
module _ (test : Sector → Bool) where
  abbrev pub IsReplaced : List Sector → List Sector → ℕ → Type 0
  IsReplaced xs ys i = (slice_get ys i ≡ slice_get xs i) ⊎ ((is_first test xs i ≡ false) × (t : Sector) × (slice_get ys i ≡ Some t) × (test t ≡ false))

  pub find_same : (xs ys : List Sector) → length ys ≡ length xs → ((i : ℕ) → IsReplaced xs ys i) → find test ys ≡ find test xs
  find_same [] [] long each = refl
  find_same [] (y ∷ ys) long each = absurd (omega (arith, long))
  find_same (x ∷ xs) [] long each = absurd (omega (arith, long))
  find_same (x ∷ xs) (y ∷ ys) long each = either (test x) refl (each 0) (λ rest. find_same xs ys (omega (arith, long)) rest)
    where
      after : test x ≡ false → (i : ℕ) → IsReplaced (x ∷ xs) (y ∷ ys) (suc i) → IsReplaced xs ys i
      after e i (inl same) = inl same
      after e i (inr how) = inr (ne_eqb (position_or_len test xs) i (λ is. eqb-false (position_or_len test (x ∷ xs)) (suc i) how.0 (place e is)), how.1, how.2, how.3)
        where
          place : test x ≡ false → position_or_len test xs ≡ i → position_or_len test (x ∷ xs) ≡ suc i
          place e is = rw e (omega (arith, is))

      either : (b : Bool) → test x ≡ b → IsReplaced (x ∷ xs) (y ∷ ys) 0 → (((i : ℕ) → IsReplaced xs ys i) → find test ys ≡ find test xs)
          → find test (y ∷ ys) ≡ find test (x ∷ xs)
      either true e (inl same) more = let is : y ≡ x = same_Some y x same in rw (is, e) refl
      either true e (inr how) more = absurd (eqb-false (position_or_len test (x ∷ xs)) 0 how.0 (rw e refl))
      either false e (inl same) more = let is : y ≡ x = same_Some y x same in rw (is, e) (more (λ i. after e i (each (suc i))))
      either false e (inr how) more =
          let is : y ≡ how.1 = same_Some y how.1 how.2 in
          let fails : test y ≡ false = ap test is ∙ how.3 in
          rw (fails, e) (more (λ i. after e i (each (suc i))))

  -- the first that passes does pass
  pub not_first : (xs : List Sector) (i : ℕ) (s : Sector) → slice_get xs i ≡ Some s → test s ≡ false → is_first test xs i ≡ false
  not_first [] i s here fails = absurd (none-some s here)
  not_first (x ∷ xs) zero s here fails =
      let e : test x ≡ false = ap test (same_Some x s here) ∙ fails in rw e (ne_eqb (1 + position_or_len test xs) 0 (λ is. absurd (omega (arith, is))))
  not_first (x ∷ xs) (suc i) s here fails = either (test x) refl (not_first xs i s here fails)
    where
      either : (b : Bool) → test x ≡ b → is_first test xs i ≡ false → is_first test (x ∷ xs) (suc i) ≡ false
      either true e more = rw e (ne_eqb 0 (suc i) (λ is. absurd (omega (arith, is))))
      either false e more = ne_eqb (position_or_len test (x ∷ xs)) (suc i) (λ is. eqb-false (position_or_len test xs) i more (back e is))
        where
          back : test x ≡ false → position_or_len test (x ∷ xs) ≡ suc i → position_or_len test xs ≡ i
          back e is = omega (arith, (rw e at is))

-- A file of which no needed sector was changed.
module _ (xs ys : List Sector) (only : OnlyUnneeded xs ys) where
  -- the label that replaces one is no page below the leader's number, and no head
  no_head : (t : Sector) (id : ℕ) → IsNoPage t → heads_file id t ≡ false
  no_head t id (inl none) = and_left (heads t) (eqb t.0.id id) (and_left (is_file t.0 && eqb t.0.page 0) (is_permanent t.0) (and_left (is_file t.0) (eqb t.0.page 0) none))
  no_head t id (inr leads) =
      let other : eqb t.0.page 0 ≡ false = ne_eqb t.0.page 0 (λ is. absurd (omega (arith, is, leads))) in
      and_left (heads t) (eqb t.0.id id) (and_left (is_file t.0 && eqb t.0.page 0) (is_permanent t.0) (and_right (is_file t.0) (eqb t.0.page 0) other))
    where
      and_right : (a b : Bool) → b ≡ false → (a && b) ≡ false
      and_right true b h = h
      and_right false b h = refl

  no_page : (t : Sector) (id k : ℕ) → k < leader_page → IsNoPage t → is_page id k t ≡ false
  no_page t id k below (inl none) = and_left (is_of id t) (eqb t.0.page k) (and_left (is_file t.0) (eqb t.0.id id) none)
  no_page t id k below (inr leads) =
      let other : eqb t.0.page k ≡ false = ne_eqb t.0.page k (λ is. absurd (omega (arith, is, leads, below))) in
      and_right (is_of id t) (eqb t.0.page k) other
    where
      and_right : (a b : Bool) → b ≡ false → (a && b) ≡ false
      and_right true b h = h
      and_right false b h = refl

  or_false : (a b : Bool) → (a || b) ≡ false → (a ≡ false) × (b ≡ false)
  or_false false b h = (refl, h)
  or_false true b h = absurd (true≢false h)

  and_true_false : (a b : Bool) → (a && b) ≡ false → a ≡ true → b ≡ false
  and_true_false true b h e = h
  and_true_false false b h e = absurd (false≢true e)

  -- what a sector of a file that is not needed says
  pub record Spare (id n i : ℕ) : Type 0 where
    pub head : is_first (heads_file id) xs i ≡ false
    pub page : (k : ℕ) → 0 < k → k < n → is_first (is_page id k) xs i ≡ false

  spare_at : (id : ℕ) (f : File) (i : ℕ) (s : Sector) → old_file_among xs id ≡ Some f → slice_get xs i ≡ Some s → is_old_needed xs i ≡ false → Spare id (size f) i
  spare_at id f i s file here free = either (is_of id s) refl
    where
      other_head : is_of id s ≡ false → heads_file id s ≡ false
      other_head e = by (is_file s.0) (eqb s.0.id id) e
        where
          by : (a b : Bool) → (a && b) ≡ false → ((a && eqb s.0.page 0 && is_permanent s.0) && b) ≡ false
          by true b h = and_no (eqb s.0.page 0 && is_permanent s.0) b h
            where
              and_no : (a b : Bool) → b ≡ false → (a && b) ≡ false
              and_no true b h = h
              and_no false b h = refl
          by false b h = refl

      either : (b : Bool) → is_of id s ≡ b → Spare id (size f) i
      either false e = record {
        head = not_first (heads_file id) xs i s here (other_head e);
        page = λ k above below. not_first (is_page id k) xs i s here (and_left (is_of id s) (eqb s.0.page k) e);
      }
      either true e =
          let same : s.0.id ≡ id = eqb-true s.0.id id (and_parts (is_file s.0) (eqb s.0.id id) e).1 in
          let own : old_file_among xs s.0.id ≡ Some f = ap (λ (n : ℕ). old_file_among xs n) same ∙ file in
          let said : (is_first (heads_file s.0.id) xs i || (nat_lt 0 s.0.page && (nat_lt s.0.page (size f) && is_first (is_page s.0.id s.0.page) xs i))) ≡ false =
          sym (ap (λ (o : Option Sector). option_map_or (λ s. option_map_or (λ f. is_first (heads_file s.0.id) xs i || (nat_lt 0 s.0.page && (nat_lt s.0.page (size f) && is_first (is_page s.0.id s.0.page) xs i))) (old_file_among xs s.0.id) false) o false) here
          ∙ ap (λ (o : Option File). option_map_or (λ f. is_first (heads_file s.0.id) xs i || (nat_lt 0 s.0.page && (nat_lt s.0.page (size f) && is_first (is_page s.0.id s.0.page) xs i))) o false) own) ∙ free in
          let parts = or_false (is_first (heads_file s.0.id) xs i) (nat_lt 0 s.0.page && (nat_lt s.0.page (size f) && is_first (is_page s.0.id s.0.page) xs i)) said in
          record {
            head = ap (λ (n : ℕ). is_first (heads_file n) xs i) (sym same) ∙ parts.0;
            page = λ k above below. page same parts.1 k above below (cases_eq s.0.page k);
          }
        where
          page : s.0.id ≡ id → (nat_lt 0 s.0.page && (nat_lt s.0.page (size f) && is_first (is_page s.0.id s.0.page) xs i)) ≡ false → (k : ℕ) → 0 < k → k < size f → (s.0.page ≡ k) ⊎ (s.0.page ≢ k) → is_first (is_page id k) xs i ≡ false
          page same said k above below (inl is) =
              let first = and_true_false (nat_lt s.0.page (size f)) (is_first (is_page s.0.id s.0.page) xs i)
              (and_true_false (nat_lt 0 s.0.page) (nat_lt s.0.page (size f) && is_first (is_page s.0.id s.0.page) xs i) said (lt-ltb 0 s.0.page (omega (arith, is, above))))
              (lt-ltb s.0.page (size f) (omega (arith, is, below))) in
              ap (λ (n : ℕ). is_first (is_page n k) xs i) (sym same) ∙ ap (λ (j : ℕ). is_first (is_page s.0.id j) xs i) (sym is) ∙ first
          page same said k above below (inr apart) = not_first (is_page id k) xs i s here (and_no (is_of id s) (eqb s.0.page k) (ne_eqb s.0.page k apart))
            where
              and_no : (a b : Bool) → b ≡ false → (a && b) ≡ false
              and_no true b h = h
              and_no false b h = refl

  -- a search that finds none of the changed sectors finds the same
  found_same : (test : Sector → Bool) → ((i : ℕ) (s : Sector) → slice_get xs i ≡ Some s → is_old_needed xs i ≡ false → is_first test xs i ≡ false)
      → ((t : Sector) → IsNoPage t → test t ≡ false) → find test ys ≡ find test xs
  found_same test spare fails = find_same test xs ys only.same_length (λ i. at i (only.each i))
    where
      at : (i : ℕ) → (slice_get ys i ≡ slice_get xs i) ⊎ ((is_old_needed xs i ≡ false) × (t : Sector) × (slice_get ys i ≡ Some t) × IsNoPage t) → IsReplaced test xs ys i
      at i (inl same) = inl same
      at i (inr how) =
          let s = get_some xs i (omega (arith, slice_get_within ys i how.1 how.2, only.same_length)) in
          inr (spare i s.0 s.1 how.0, how.1, how.2, fails how.1 how.3)

  -- where no sector passes, none does afterwards
  found_none : (test : Sector → Bool) → find test xs ≡ None → ((t : Sector) → IsNoPage t → test t ≡ false) → find test ys ≡ None
  found_none test none fails = found_same test (λ i s here free. not_first test xs i s here (none_passes test xs none i s here)) fails ∙ none

  module _ (id : ℕ) where
    kept_none : head_among xs id ≡ None → old_file_among ys id ≡ old_file_among xs id
    kept_none none =
        ap (λ (o : Option Sector). option_map (old_file_by ys) (option_map (λ s. s.0) o)) (found_none (heads_file id) none (λ t no. no_head t id no))
        ∙ sym (ap (λ (o : Option Sector). option_map (old_file_by xs) (option_map (λ s. s.0) o)) none)

    head_id : (s : Sector) → head_among xs id ≡ Some s → s.0.id ≡ id
    head_id s is = let f = found_at (heads_file id) xs s is in eqb-true s.0.id id (and_parts (heads s) (eqb s.0.id id) f.2).1

    kept_some : (s : Sector) → head_among xs id ≡ Some s → old_file_among ys id ≡ old_file_among xs id
    kept_some s is =
        ap (λ (o : Option Sector). option_map (old_file_by ys) (option_map (λ s. s.0) o)) (head ∙ is)
        ∙ ap (λ (f : File). Some f) same
        ∙ sym (ap (λ (o : Option Sector). option_map (old_file_by xs) (option_map (λ s. s.0) o)) is)
      where
        file : old_file_among xs id ≡ Some (old_file_by xs s.0)
        file = ap (λ (o : Option Sector). option_map (old_file_by xs) (option_map (λ s. s.0) o)) is

        head : head_among ys id ≡ head_among xs id
        head = found_same (heads_file id) (λ i u here free. (spare_at id (old_file_by xs s.0) i u file here free).head) (λ t no. no_head t id no)

        own : s.0.id ≡ id
        own = head_id s is

        page : (j : ℕ) → j ≤ length (pages_from (old_page_at xs s.0.id) 0 leader_page) → j < leader_page → (j < length (pages_from (old_page_at xs s.0.id) 0 leader_page)) ⊎ (length (pages_from (old_page_at xs s.0.id) 0 leader_page) ≤ j)
            → old_page_at ys s.0.id j ≡ old_page_at xs s.0.id j
        page zero most low where_ = ap (λ (o : Option Sector). option_map (λ u. map byte u.1) o) (subst (λ (n : ℕ). head_among ys n ≡ head_among xs n) (sym own) head)
        page (suc k) most low (inl below) =
            ap (λ (o : Option Sector). option_map (λ u. map byte u.1) o)
            (found_same (is_page s.0.id (suc k)) (λ i u here free. (spare_at s.0.id (old_file_by xs s.0) i u (ap (λ (n : ℕ). old_file_among xs n) own ∙ file) here free).page (suc k) (omega arith) below) (λ t no. no_page t s.0.id (suc k) low no))
        page (suc k) most low (inr past) =
            let z : 0 + length (pages_from (old_page_at xs s.0.id) 0 leader_page) ≡ suc k = omega (arith, past, most) in
            let end : page_at xs s.0.id (suc k) ≡ None = ap (old_page_at xs s.0.id) (sym z) ∙ pages_stop (old_page_at xs s.0.id) 0 leader_page (omega (arith, z, low)) in
            ap (λ (o : Option Sector). option_map (λ u. map byte u.1) o)
            (found_none (is_page s.0.id (suc k)) (nowhere (find (is_page s.0.id (suc k)) xs) refl end) (λ t no. no_page t s.0.id (suc k) low no)
            ∙ sym (nowhere (find (is_page s.0.id (suc k)) xs) refl end))
          where
            nowhere : (o : Option Sector) → find (is_page s.0.id (suc k)) xs ≡ o → page_at xs s.0.id (suc k) ≡ None → find (is_page s.0.id (suc k)) xs ≡ None
            nowhere None e h = e
            nowhere (Some u) e h = absurd (none-some (map byte u.1) (sym h ∙ ap (λ (o : Option Sector). option_map (λ u. map byte u.1) o) e))

        same : old_file_by ys s.0 ≡ old_file_by xs s.0
        same =
            let pages : pages_from (old_page_at ys s.0.id) 0 leader_page ≡ pages_from (old_page_at xs s.0.id) 0 leader_page =
            pages_stay (old_page_at xs s.0.id) (old_page_at ys s.0.id) 0 leader_page
            (λ j l m o. page j (omega (arith, m)) (omega (arith, o)) (cases_lt j (length (pages_from (old_page_at xs s.0.id) 0 leader_page)))) in
            λ i. record { id = s.0.id; kind = s.0.kind; permanent = is_permanent s.0; immutable = is_immutable s.0; pages = pages i }

    pub kept : old_file_among ys id ≡ old_file_among xs id
    kept = either (head_among xs id) refl
      where
        either : (o : Option Sector) → head_among xs id ≡ o → old_file_among ys id ≡ old_file_among xs id
        either None e = kept_none e
        either (Some s) e = kept_some s e

-- each file has the same page 0
pub heads_stay : (xs ys : List Sector) → OnlyUnneeded xs ys → (id : ℕ) → head_among ys id ≡ head_among xs id
heads_stay xs ys only id = either (head_among xs id) refl
  where
    either : (o : Option Sector) → head_among xs id ≡ o → head_among ys id ≡ head_among xs id
    either None e = found_none xs ys only (heads_file id) e (λ t no. no_head xs ys only t id no) ∙ sym e
    either (Some s) e =
        let file : old_file_among xs id ≡ Some (old_file_by xs s.0) = ap (λ (o : Option Sector). option_map (old_file_by xs) (option_map (λ s. s.0) o)) e in
        found_same xs ys only (heads_file id) (λ i u here free. (spare_at xs ys only id (old_file_by xs s.0) i u file here free).head) (λ t no. no_head xs ys only t id no)

pub old_files_stay : OldFilesStay
old_files_stay d e long only = same_old_files d e (λ id. kept (data_sectors d) (data_sectors e) only id)
