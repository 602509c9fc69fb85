-- Sectors that no file needs.
use Rattle.std.proofs.Common.{◌≡◌, ◌≢◌, ◌⊎◌, inl, inr, ℕ, zero, suc, ◌+◌, ◌-◌, ◌<◌, ◌≤◌, Bool, true, false, not, ◌&&◌, ◌||◌, cond, List, [], ◌∷◌, length, drop, Option, Some, None, refl, sym, ◌∙◌, ap, subst, arith, eqb, length-set, get_or}
use Rattle.std.specs.Prelude.{slice_get, slice_set, nat_lt, Contains, slice_index_or}
use Rattle.std.specs.Option.{option_map_or}
use Rattle.std.specs.List.{position_or_len, AllByRecursion}
use Rattle.std.proofs.lemmas.Option.{same_Some, none-some, slice_get-get_or, slice_get_within}
use Rattle.std.proofs.lemmas.Bool.{cases_eq, and_parts, and_left, and_from, eqb-true, eqb-false, eq-eqb, ne_eqb, true≢false, or_left, or_right}
use Rattle.labelled_disk.specs.declared.disk.DiskWrite.TheVariants as write
use Rattle.labelled_disk.specs.Label.{is_file, is_free}
use Rattle.labelled_disk.specs.Sectors.{Sector, free_label, zero_sector}
use Rattle.labelled_disk.specs.CrashState.{crash_state, written}
use Rattle.labelled_disk.specs.Layout.{data_sectors, first_data}
use Rattle.labelled_disk.specs.File.{File, size, file_at}
use Rattle.labelled_disk.specs.FilesOn.{is_of, is_page, leads_file, file_among, files_among, disk_file}
use Rattle.labelled_disk.specs.Lowest.{is_first, is_needed}
use Rattle.labelled_disk.specs.Right.{FilesRight}
use Rattle.labelled_disk.specs.Root.{serial_of, counter_of}
use Rattle.labelled_disk.specs.Runs.{freeing, sector_of}
use Rattle.labelled_disk.specs.WriteLaws.{HasData}
use Rattle.labelled_disk.proofs.Finds.{get_set_same, get_set_other}
use Rattle.labelled_disk.proofs.SectorWrites as w
use Rattle.labelled_disk.proofs.WriteLemmas as laws
use Rattle.labelled_disk.proofs.LowestLemmas as lowest
use Rattle.labelled_disk.proofs.RootLemmas.{only_self}
use Rattle.labelled_disk.proofs.RunLemmas.{data_runs}
use Rattle.label_laws.specs.Unneeded.{FreedStayRight, IsUnneeded, SameNeeds, FreedCrashStates, FreedAll, NeededIfFiles}
use Rattle.label_laws.proofs.FileLemmas.{free_none, label_written}
use Rattle.label_laws.proofs.MixedLemmas.{written_other}

-- the first that passes passes
pub first_passes : (test : Sector → Bool) (xs : List Sector) (i : ℕ) (s : Sector) → slice_get xs i ≡ Some s → is_first test xs i ≡ true → test s ≡ true
first_passes test [] i s here first = absurd (none-some s here)
first_passes test (x ∷ xs) zero s here first = ap test (sym (same_Some x s here)) ∙ either (test x) refl first
  where
    either : (b : Bool) → test x ≡ b → eqb (cond (not b) (1 + position_or_len test xs) 0) 0 ≡ true → test x ≡ true
    either true e h = e
    either false e h = absurd (omega (arith, eqb-true (1 + position_or_len test xs) 0 h))
first_passes test (x ∷ xs) (suc i) s here first = either (test x) first (λ h. first_passes test xs i s here h)
  where
    either : (b : Bool) → eqb (cond (not b) (1 + position_or_len test xs) 0) (suc i) ≡ true → (is_first test xs i ≡ true → test s ≡ true) → test s ≡ true
    either true h more = absurd (omega (arith, eqb-true 0 (suc i) h))
    either false h more = more (eq-eqb (position_or_len test xs) i (omega (arith, eqb-true (1 + position_or_len test xs) (suc i) h)))

-- where one that is not the first becomes one that fails, the first stays
position_stays : (test : Sector → Bool) (xs : List Sector) (i : ℕ) (s t : Sector) → slice_get xs i ≡ Some s → is_first test xs i ≡ false → test t ≡ false
    → position_or_len test (slice_set xs i t) ≡ position_or_len test xs
position_stays test [] i s t here later new = refl
position_stays test (x ∷ xs) zero s t here later new = rw new (either (test x) later)
  where
    either : (b : Bool) → eqb (cond (not b) (1 + position_or_len test xs) 0) 0 ≡ false → 1 + position_or_len test xs ≡ cond (not b) (1 + position_or_len test xs) 0
    either true h = absurd (true≢false h)
    either false h = refl
position_stays test (x ∷ xs) (suc i) s t here later new = either (test x) later (λ l. position_stays test xs i s t here l new)
  where
    either : (b : Bool) → eqb (cond (not b) (1 + position_or_len test xs) 0) (suc i) ≡ false → (is_first test xs i ≡ false → position_or_len test (slice_set xs i t) ≡ position_or_len test xs)
        → cond (not b) (1 + position_or_len test (slice_set xs i t)) 0 ≡ cond (not b) (1 + position_or_len test xs) 0
    either true h more = refl
    either false h more = ap (λ (n : ℕ). 1 + n) (more (ne_eqb (position_or_len test xs) i (λ e. eqb-false (1 + position_or_len test xs) (suc i) h (omega (arith, e)))))

module _ (with_temporary : Bool) where
  -- what a file needs of a sector with its identifier
  abbrev pub needs : List Sector → ℕ → Sector → File → Bool
  needs xs i s f = is_first (leads_file with_temporary s.0.id) xs i || (nat_lt s.0.page (size f) && is_first (is_page s.0.id s.0.page) xs i)

  pub needed_at : (xs : List Sector) (i : ℕ) (s : Sector) → slice_get xs i ≡ Some s → is_needed with_temporary xs i ≡ option_map_or (needs xs i s) (file_among with_temporary xs s.0.id) false
  needed_at xs i s here = ap (λ (o : Option Sector). option_map_or (λ s. option_map_or (needs xs i s) (file_among with_temporary xs s.0.id) false) o false) here

  pub needed_by : (xs : List Sector) (i : ℕ) (s : Sector) (f : File) → slice_get xs i ≡ Some s → file_among with_temporary xs s.0.id ≡ Some f → is_needed with_temporary xs i ≡ needs xs i s f
  needed_by xs i s f here is = needed_at xs i s here ∙ ap (λ (o : Option File). option_map_or (needs xs i s) o false) is

  -- a sector that is no file's is not needed
  pub plain_unneeded : (xs : List Sector) (i : ℕ) (t : Sector) → slice_get xs i ≡ Some t → is_file t.0 ≡ false → is_needed with_temporary xs i ≡ false
  plain_unneeded xs i t here plain = needed_at xs i t here ∙ either (file_among with_temporary xs t.0.id)
    where
      not_of : is_of t.0.id t ≡ false
      not_of = and_left (is_file t.0) (eqb t.0.id t.0.id) plain

      not_first : (test : Sector → Bool) → test t ≡ false → (b : Bool) → is_first test xs i ≡ b → b ≡ false
      not_first test fails false e = refl
      not_first test fails true e = absurd (true≢false (sym (first_passes test xs i t here e) ∙ fails))

      both : (a b c : Bool) → a ≡ false → c ≡ false → (a || (b && c)) ≡ false
      both true b c p q = absurd (true≢false p)
      both false true c p q = q
      both false false c p q = refl

      either : (o : Option File) → option_map_or (needs xs i t) o false ≡ false
      either None = refl
      either (Some f) =
          both (is_first (leads_file with_temporary t.0.id) xs i) (nat_lt t.0.page (size f)) (is_first (is_page t.0.id t.0.page) xs i)
          (not_first (leads_file with_temporary t.0.id) (w.not_of-not_leader with_temporary t.0.id t not_of) (is_first (leads_file with_temporary t.0.id) xs i) refl)
          (not_first (is_page t.0.id t.0.page) (w.not_of-not_page with_temporary t.0.id t.0.page t not_of) (is_first (is_page t.0.id t.0.page) xs i) refl)

  -- Sector i, which no file needs, becomes no file's.
  module _ (xs : List Sector) (i : ℕ) (s t : Sector) (here : slice_get xs i ≡ Some s) (free : is_needed with_temporary xs i ≡ false) (new : is_file t.0 ≡ false)
      (same : (id : ℕ) → file_among with_temporary (slice_set xs i t) id ≡ file_among with_temporary xs id) where
    fails : (id : ℕ) → is_of id t ≡ false
    fails id = and_left (is_file t.0) (eqb t.0.id id) new

    -- it is not the first of what a file needs
    no_leader : (id : ℕ) (f : File) → file_among with_temporary xs id ≡ Some f → (b : Bool) → is_first (leads_file with_temporary id) xs i ≡ b → b ≡ false
    no_leader id f is false e = refl
    no_leader id f is true e =
        let own : s.0.id ≡ id = w.leader_id with_temporary id s (first_passes (leads_file with_temporary id) xs i s here e) in
        let mine : is_first (leads_file with_temporary s.0.id) xs i ≡ true = ap (λ (n : ℕ). is_first (leads_file with_temporary n) xs i) own ∙ e in
        let needed : is_needed with_temporary xs i ≡ true =
        needed_by xs i s f here (ap (file_among with_temporary xs) own ∙ is) ∙ or_left (is_first (leads_file with_temporary s.0.id) xs i) (nat_lt s.0.page (size f) && is_first (is_page s.0.id s.0.page) xs i) mine in
        absurd (true≢false (sym needed ∙ free))

    no_page : (id p : ℕ) (f : File) → file_among with_temporary xs id ≡ Some f → nat_lt p (size f) ≡ true → (b : Bool) → is_first (is_page id p) xs i ≡ b → b ≡ false
    no_page id p f is low false e = refl
    no_page id p f is low true e =
        let passes = first_passes (is_page id p) xs i s here e in
        let own : s.0.id ≡ id = eqb-true s.0.id id (and_parts (is_file s.0) (eqb s.0.id id) (w.page_of with_temporary id p s passes)).1 in
        let number : s.0.page ≡ p = w.page_number with_temporary id p s passes in
        let mine : is_first (is_page s.0.id s.0.page) xs i ≡ true = ap (λ (n : ℕ). is_first (is_page n s.0.page) xs i) own ∙ ap (λ (n : ℕ). is_first (is_page id n) xs i) number ∙ e in
        let needed : is_needed with_temporary xs i ≡ true =
        needed_by xs i s f here (ap (file_among with_temporary xs) own ∙ is)
        ∙ or_right (is_first (leads_file with_temporary s.0.id) xs i) (nat_lt s.0.page (size f) && is_first (is_page s.0.id s.0.page) xs i)
        (and_from (nat_lt s.0.page (size f)) (is_first (is_page s.0.id s.0.page) xs i) (ap (λ (n : ℕ). nat_lt n (size f)) number ∙ low) mine) in
        absurd (true≢false (sym needed ∙ free))

    first_stays : (test : Sector → Bool) (j : ℕ) → is_first test xs i ≡ false → test t ≡ false → is_first test (slice_set xs i t) j ≡ is_first test xs j
    first_stays test j later plain = ap (λ (n : ℕ). eqb n j) (position_stays test xs i s t here later plain)

    needs_stay : (j : ℕ) (u : Sector) (f : File) → file_among with_temporary xs u.0.id ≡ Some f → needs (slice_set xs i t) j u f ≡ needs xs j u f
    needs_stay j u f is =
        ap (λ (b : Bool). b || (nat_lt u.0.page (size f) && is_first (is_page u.0.id u.0.page) (slice_set xs i t) j))
        (first_stays (leads_file with_temporary u.0.id) j (no_leader u.0.id f is (is_first (leads_file with_temporary u.0.id) xs i) refl) (w.not_of-not_leader with_temporary u.0.id t (fails u.0.id)))
        ∙ ap (λ (b : Bool). is_first (leads_file with_temporary u.0.id) xs j || b) (either (nat_lt u.0.page (size f)) refl)
      where
        either : (b : Bool) → nat_lt u.0.page (size f) ≡ b → (b && is_first (is_page u.0.id u.0.page) (slice_set xs i t) j) ≡ (b && is_first (is_page u.0.id u.0.page) xs j)
        either false e = refl
        either true e = first_stays (is_page u.0.id u.0.page) j (no_page u.0.id u.0.page f is e (is_first (is_page u.0.id u.0.page) xs i) refl) (w.not_of-not_page with_temporary u.0.id u.0.page t (fails u.0.id))

    pub needed_stays : (j : ℕ) → is_needed with_temporary (slice_set xs i t) j ≡ is_needed with_temporary xs j
    needed_stays j = by (cases_eq j i)
      where
        file : (u : Sector) (o : Option File) → file_among with_temporary xs u.0.id ≡ o → option_map_or (needs (slice_set xs i t) j u) o false ≡ option_map_or (needs xs j u) o false
        file u None e = refl
        file u (Some f) e = needs_stay j u f e

        sector : (o : Option Sector) → slice_get xs j ≡ o → slice_get (slice_set xs i t) j ≡ o → is_needed with_temporary (slice_set xs i t) j ≡ is_needed with_temporary xs j
        sector None e n =
            ap (λ (o : Option Sector). option_map_or (λ u. option_map_or (needs (slice_set xs i t) j u) (file_among with_temporary (slice_set xs i t) u.0.id) false) o false) n
            ∙ sym (ap (λ (o : Option Sector). option_map_or (λ u. option_map_or (needs xs j u) (file_among with_temporary xs u.0.id) false) o false) e)
        sector (Some u) e n =
            needed_at (slice_set xs i t) j u n ∙ ap (λ (o : Option File). option_map_or (needs (slice_set xs i t) j u) o false) (same u.0.id)
            ∙ file u (file_among with_temporary xs u.0.id) refl ∙ sym (needed_at xs j u e)

        by : (j ≡ i) ⊎ (j ≢ i) → is_needed with_temporary (slice_set xs i t) j ≡ is_needed with_temporary xs j
        by (inl e) =
            ap (is_needed with_temporary (slice_set xs i t)) e
            ∙ plain_unneeded (slice_set xs i t) i t (get_set_same xs i t (slice_get_within xs i s here)) new
            ∙ sym (ap (is_needed with_temporary xs) e ∙ free)
        by (inr apart) = sector (slice_get xs j) refl (get_set_other xs i j t apart)

  -- One sector of a disk is freed.
  freed_one : (d : List Sector) (i : ℕ) (s t : Sector) → IsUnneeded with_temporary d i → slice_get d i ≡ Some s → is_file t.0 ≡ false → SameNeeds with_temporary d (slice_set d i t)
  freed_one d i s t un here new =
      let files : files_among with_temporary (slice_set d i t) ≡ files_among with_temporary d = lowest.unneeded_freed with_temporary d i s t (record { is_data = un.is_data; here = here }) un.unneeded new in
      let moved : data_sectors (slice_set d i t) ≡ slice_set (data_sectors d) (i - first_data (length d)) t = laws.data_set with_temporary 0 0 d i t un.is_data in
      record {
        sectors = length-set d i t;
        files = files;
        needed = λ j. ap (λ (xs : List Sector). is_needed with_temporary xs j) moved
            ∙ needed_stays (data_sectors d) (i - first_data (length d)) s t (laws.data_get with_temporary 0 0 d i s un.is_data here) un.unneeded new
            (λ id. ap (λ (xs : List Sector). file_among with_temporary xs id) (sym moved) ∙ sym (laws.look_up with_temporary 0 0 (slice_set d i t) id) ∙ ap (λ (l : List File). file_at l id) files ∙ laws.look_up with_temporary 0 0 d id)
            j;
      }

  still_unneeded : (d e : List Sector) (is : List ℕ) → SameNeeds with_temporary d e → AllByRecursion (IsUnneeded with_temporary d) is → AllByRecursion (IsUnneeded with_temporary e) is
  still_unneeded d e [] same all = tt
  still_unneeded d e (i ∷ is) same all = (
    record {
      is_data = subst (λ (n : ℕ). first_data n ≤ i) (sym same.sectors) all.0.is_data;
      within = subst (λ (n : ℕ). i < n) (sym same.sectors) all.0.within;
      unneeded = same.needed (i - first_data (length e)) ∙ ap (λ (n : ℕ). is_needed with_temporary (data_sectors d) (i - first_data n)) same.sectors ∙ all.0.unneeded;
    },
    still_unneeded d e is same all.1,
  )

  same_then : (d e g : List Sector) → SameNeeds with_temporary d e → SameNeeds with_temporary e g → SameNeeds with_temporary d g
  same_then d e g one more = record { sectors = more.sectors ∙ one.sectors; files = more.files ∙ one.files; needed = λ j. more.needed j ∙ one.needed j }

  pub freed_crash_states : FreedCrashStates with_temporary
  freed_crash_states d is all zero = record { sectors = refl; files = refl; needed = λ j. refl }
  freed_crash_states d [] all (suc k) = record { sectors = refl; files = refl; needed = λ j. refl }
  freed_crash_states d (i ∷ is) all (suc k) =
      let s : Sector = get_or d i zero_sector in
      let here : slice_get d i ≡ Some s = slice_get-get_or d i zero_sector all.0.within in
      let t : Sector = (free_label, s.1) in
      let one : SameNeeds with_temporary d (slice_set d i t) = freed_one d i s t all.0 here refl in
      subst (λ (e : List Sector). SameNeeds with_temporary d (crash_state e (freeing is) k)) (sym (label_written d i s free_label here))
      (same_then d (slice_set d i t) (crash_state (slice_set d i t) (freeing is) k) one (freed_crash_states (slice_set d i t) is (still_unneeded d (slice_set d i t) is one all.1) k))

-- after the freeing a sector is free, or it is none of them and stands as it stood
freed_or_stays : (d : List Sector) (is : List ℕ) (i : ℕ) (u : Sector) → slice_get (crash_state d (freeing is) (length is)) i ≡ Some u
    → (is_free u.0 ≡ true) ⊎ ((slice_get d i ≡ Some u) × AllByRecursion (λ j. j ≢ i) is)
freed_or_stays d [] i u at = inr (at, tt)
freed_or_stays d (k ∷ is) i u at = elim (freed_or_stays (written (write.LabelOnly k free_label) d) is i u at) [
  | inl free ↦ inl free
  | inr stays ↦ one stays.0 stays.1 (cases_eq k i)
]
  where
    set : (o : Option Sector) → slice_get d k ≡ o → slice_get (option_map_or (λ old. slice_set d k (free_label, old.1)) o d) k ≡ Some u → is_free u.0 ≡ true
    set None e here = absurd (none-some u (sym e ∙ here))
    set (Some s) e here =
        let same : (free_label, s.1) ≡ u = same_Some _ u (sym (get_set_same d k (free_label, s.1) (slice_get_within d k s e)) ∙ here) in
        ap (λ (v : Sector). is_free v.0) (sym same)

    one : slice_get (written (write.LabelOnly k free_label) d) i ≡ Some u → AllByRecursion (λ j. j ≢ i) is → (k ≡ i) ⊎ (k ≢ i)
        → (is_free u.0 ≡ true) ⊎ ((slice_get d i ≡ Some u) × AllByRecursion (λ j. j ≢ i) (k ∷ is))
    one here apart (inl e) = inl (set (slice_get d k) refl (ap (λ (j : ℕ). slice_get (written (write.LabelOnly k free_label) d) j) e ∙ here))
    one here apart (inr other) = inr (sym (written_other d (write.LabelOnly k free_label) i other) ∙ here, (other, apart))

none_contained : (is : List ℕ) (i : ℕ) → AllByRecursion (λ j. j ≢ i) is → Contains is i → ⊥
none_contained [] i apart within = omega (arith, within.1)
none_contained (j ∷ js) i apart within = either within.0 within.1 within.2 (none_contained js i apart.1)
  where
    either : (k : ℕ) → k < length (j ∷ js) → slice_index_or (j ∷ js) k i ≡ i → (Contains js i → ⊥) → ⊥
    either zero low e more = apart.0 e
    either (suc k) low e more = more (k, omega (arith, low), e)

module _ (with_temporary : Bool) where
  pub freed_all : FreedAll with_temporary
  freed_all d is unneeded all i u at =
      let e : List Sector = crash_state d (freeing is) (length is) in
      let same : SameNeeds with_temporary d e = freed_crash_states with_temporary d is unneeded (length is) in
      let long : length e ≡ length d = same.sectors in
      let first : ℕ = first_data (length d) in
      let there : slice_get e (first + i) ≡ Some u = sym (laws.get_drop first e i) ∙ ap (λ (n : ℕ). slice_get (drop (first_data n) e) i) (sym long) ∙ at in
      elim (freed_or_stays d is (first + i) u there) [
        | inl free ↦ inl free
        | inr stays ↦ either i u (same.needed i) stays.0 stays.1 (is_free u.0) refl (is_needed with_temporary (data_sectors d) i) refl
      ]
    where
      either : (i : ℕ) (u : Sector) → is_needed with_temporary (data_sectors (crash_state d (freeing is) (length is))) i ≡ is_needed with_temporary (data_sectors d) i → slice_get d (first_data (length d) + i) ≡ Some u
          → AllByRecursion (λ j. j ≢ first_data (length d) + i) is → (b : Bool) → is_free u.0 ≡ b → (c : Bool) → is_needed with_temporary (data_sectors d) i ≡ c
          → (is_free u.0 ≡ true) ⊎ (is_needed with_temporary (data_sectors (crash_state d (freeing is) (length is))) i ≡ true)
      either i u same here apart true p c q = inl p
      either i u same here apart false p true q = inr (same ∙ q)
      either i u same here apart false p false q =
          let z : first_data (length d) + i - first_data (length d) ≡ i = omega arith in
          absurd (none_contained is (first_data (length d) + i) apart
          (all (first_data (length d) + i) u (record { is_data = omega arith; here = here }) p (ap (is_needed with_temporary (data_sectors d)) z ∙ q)))

  pub needed_if_files : NeededIfFiles with_temporary
  needed_if_files d are i s here file = elim (are i s here) [
    | inl free ↦ absurd (true≢false (sym file ∙ free_none s.0 free))
    | inr needed ↦ needed
  ]

  -- with right labels, a sector that no file needs is of no file that counts
  freed_right : (serial counter : ℕ) (d : List Sector) (i : ℕ) (s : Sector) → IsUnneeded with_temporary d i → slice_get d i ≡ Some s → FilesRight with_temporary serial counter d
      → FilesRight with_temporary serial counter (slice_set d i (free_label, s.1))
  freed_right serial counter d i s un at right = either (is_file s.0) refl (disk_file with_temporary d s.0.id) refl
    where
      holds : HasData d i s
      holds = record { is_data = un.is_data; here = at }

      either : (b : Bool) → is_file s.0 ≡ b → (o : Option File) → disk_file with_temporary d s.0.id ≡ o → FilesRight with_temporary serial counter (slice_set d i (free_label, s.1))
      either false p o q = (laws.plain_written with_temporary serial counter d i s (free_label, s.1) right holds p refl).right
      either true p None q =
          (laws.temporary_written with_temporary serial counter d i s (free_label, s.1) s.0.id right holds (only_self s s.0.id refl) (laws.only_none with_temporary 0 0 s.0.id (free_label, s.1) refl) q
          (w.not_of-not_leader with_temporary s.0.id (free_label, s.1) (and_left (is_file free_label) (eqb free_label.id s.0.id) refl))).right
      either true p (Some f) q =
          absurd (true≢false (sym (lowest.right_are_needed with_temporary serial counter d (i - first_data (length d)) s f right (laws.data_get with_temporary 0 0 d i s un.is_data at) p q) ∙ un.unneeded))

  freed_files_right : (serial counter : ℕ) (d : List Sector) (is : List ℕ) → AllByRecursion (IsUnneeded with_temporary d) is → FilesRight with_temporary serial counter d
      → (k : ℕ) → FilesRight with_temporary serial counter (crash_state d (freeing is) k)
  freed_files_right serial counter d is all right zero = right
  freed_files_right serial counter d [] all right (suc k) = right
  freed_files_right serial counter d (i ∷ is) all right (suc k) =
      let s : Sector = get_or d i zero_sector in
      let here : slice_get d i ≡ Some s = slice_get-get_or d i zero_sector all.0.within in
      let e : List Sector = slice_set d i (free_label, s.1) in
      subst (λ (e : List Sector). FilesRight with_temporary serial counter (crash_state e (freeing is) k)) (sym (label_written d i s free_label here))
      (freed_files_right serial counter e is (still_unneeded with_temporary d e is (freed_one with_temporary d i s (free_label, s.1) all.0 here refl) all.1) (freed_right serial counter d i s all.0 here right) k)

  freed_data : (d : List Sector) (is : List ℕ) → AllByRecursion (IsUnneeded with_temporary d) is → AllByRecursion (λ one. first_data (length d) ≤ sector_of one) (freeing is)
  freed_data d [] all = tt
  freed_data d (i ∷ is) all = (all.0.is_data, freed_data d is all.1)

  pub freed_stay_right : FreedStayRight with_temporary
  freed_stay_right = record {
    files = freed_files_right;
    volume = λ d is all right k. data_runs with_temporary d (freeing is) k right (freed_data d is all) (freed_files_right (serial_of d) (counter_of d) d is all right.files k);
  }
