-- Each sector of a file is needed, where each old file has its leader.
use Rattle.std.proofs.Common.{◌≡◌, ◌⊎◌, inl, inr, ℕ, zero, suc, ◌+◌, ◌<◌, ◌≤◌, Bool, true, false, not, ◌&&◌, ◌||◌, cond, List, [], ◌∷◌, map, length, Option, Some, None, refl, sym, ◌∙◌, ap, subst, arith, eqb}
use Rattle.std.specs.Prelude.{slice_get, option_map, nat_lt}
use Rattle.std.specs.Option.{option_map_or}
use Rattle.std.specs.List.{position_or_len}
use Rattle.std.proofs.lemmas.Option.{same_Some, none-some}
use Rattle.std.proofs.lemmas.Bool.{cases_lt, and_parts, and_from, eqb-true, eq-eqb, lt-ltb, true≢false}
use Rattle.labelled_disk.specs.Label.{is_file, leader_page}
use Rattle.labelled_disk.specs.Sectors.{Sector}
use Rattle.labelled_disk.specs.Layout.{data_sectors}
use Rattle.labelled_disk.specs.File.{File, byte, size}
use Rattle.labelled_disk.specs.FilesOn.{is_page, is_of, pages_from, leads_file, file_among}
use Rattle.labelled_disk.specs.Lowest.{is_first, is_needed}
use Rattle.labelled_disk.proofs.Finds.{IsAlone, found_at}
use Rattle.labelled_disk.proofs.Pages.{pages_stop}
use Rattle.old_files.specs.OldFiles.{heads, heads_file, head_among, old_page_at, old_file_by, old_file_among, is_old_needed}
use Rattle.old_files.specs.Laws.{as_leader}
use Rattle.old_files.specs.Arranging.{IsSettled, SettledAreNeeded}
use Rattle.old_files.proofs.OldLemmas.{same_among}
use Rattle.old_files.proofs.StayLemmas.{kept}
use Rattle.old_files.proofs.ArrangeLemmas.{IsPart, part_of, only, what_is, have_leaders, below_leader, leader_parts, head_page, leads_page, first_passes, leads_as}

-- one that passes alone is the first
first_alone : (test : Sector → Bool) (xs : List Sector) (i : ℕ) (s : Sector) → slice_get xs i ≡ Some s → test s ≡ true → IsAlone test xs i → is_first test xs i ≡ true
first_alone test [] i s here passes alone = absurd (none-some s here)
first_alone test (x ∷ xs) zero s here passes alone = let e : test x ≡ true = ap test (same_Some x s here) ∙ passes in rw e refl
first_alone test (x ∷ xs) (suc i) s here passes alone = either (test x) refl (λ h. first_alone test xs i s here passes h)
  where
    less : test x ≡ false → IsAlone test xs i
    less e j t at t_passes = omega (arith, alone (suc j) t at t_passes)

    either : (b : Bool) → test x ≡ b → (IsAlone test xs i → is_first test xs i ≡ true) → eqb (cond (not b) (1 + position_or_len test xs) 0) (suc i) ≡ true
    either true e more = absurd (omega (arith, alone 0 x refl e))
    either false e more = eq-eqb (1 + position_or_len test xs) (suc i) (omega (arith, eqb-true (position_or_len test xs) i (more (less e))))

-- two firsts are one
same_first : (test : Sector → Bool) (xs : List Sector) (i j : ℕ) → is_first test xs i ≡ true → is_first test xs j ≡ true → i ≡ j
same_first test xs i j a b = sym (eqb-true (position_or_len test xs) i a) ∙ eqb-true (position_or_len test xs) j b

abbrev What : List Sector → ℕ → Sector → ℕ → Type 0
What xs i s n = (is_first (heads_file s.0.id) xs i ≡ true) ⊎ ((0 < s.0.page) × (s.0.page < n) × (is_first (is_page s.0.id s.0.page) xs i ≡ true))

module _ (xs ys : List Sector) (settled : IsSettled xs ys) where
  same_file : (id : ℕ) → file_among false ys id ≡ old_file_among xs id
  same_file id = same_among ys (have_leaders xs ys settled) id ∙ kept xs ys (only xs ys settled) id

  -- how a file needs a sector
  by_file : (i : ℕ) (y : Sector) (f : File) → slice_get ys i ≡ Some y → old_file_among xs y.0.id ≡ Some f
      → (is_first (leads_file false y.0.id) ys i ≡ true) ⊎ ((y.0.page < size f) × (is_first (is_page y.0.id y.0.page) ys i ≡ true))
      → is_needed false ys i ≡ true
  by_file i y f at is how =
      ap (λ (o : Option Sector). option_map_or (λ s. option_map_or (λ f. is_first (leads_file false s.0.id) ys i || (nat_lt s.0.page (size f) && is_first (is_page s.0.id s.0.page) ys i)) (file_among false ys s.0.id) false) o false) at
      ∙ ap (λ (o : Option File). option_map_or (λ f. is_first (leads_file false y.0.id) ys i || (nat_lt y.0.page (size f) && is_first (is_page y.0.id y.0.page) ys i)) o false) (same_file y.0.id ∙ is)
      ∙ by how
    where
      or_right : (a b : Bool) → b ≡ true → (a || b) ≡ true
      or_right true b h = refl
      or_right false b h = h

      or_left : (a b : Bool) → a ≡ true → (a || b) ≡ true
      or_left true b h = refl
      or_left false b h = absurd (true≢false (sym h))

      by : (is_first (leads_file false y.0.id) ys i ≡ true) ⊎ ((y.0.page < size f) × (is_first (is_page y.0.id y.0.page) ys i ≡ true))
          → (is_first (leads_file false y.0.id) ys i || (nat_lt y.0.page (size f) && is_first (is_page y.0.id y.0.page) ys i)) ≡ true
      by (inl a) = or_left (is_first (leads_file false y.0.id) ys i) (nat_lt y.0.page (size f) && is_first (is_page y.0.id y.0.page) ys i) a
      by (inr b) = or_right (is_first (leads_file false y.0.id) ys i) (nat_lt y.0.page (size f) && is_first (is_page y.0.id y.0.page) ys i)
          (and_from (nat_lt y.0.page (size f)) (is_first (is_page y.0.id y.0.page) ys i) (lt-ltb y.0.page (size f) b.0) b.1)

  -- a file that has page 0 has a page
  some_pages : (id : ℕ) (h : Sector) → head_among xs id ≡ Some h → 0 < size (old_file_by xs h.0)
  some_pages id h is = by (cases_lt 0 (size (old_file_by xs h.0)))
    where
      own : h.0.id ≡ id
      own = let f = found_at (heads_file id) xs h is in eqb-true h.0.id id (and_parts (heads h) (eqb h.0.id id) f.2).1

      by : (0 < size (old_file_by xs h.0)) ⊎ (size (old_file_by xs h.0) ≤ 0) → 0 < size (old_file_by xs h.0)
      by (inl l) = l
      by (inr l) =
          let z : 0 + length (pages_from (old_page_at xs h.0.id) 0 leader_page) ≡ 0 = omega (arith, l) in
          let end = pages_stop (old_page_at xs h.0.id) 0 leader_page (omega (arith, l)) in
          absurd (none-some (map byte h.1) (sym end ∙ ap (old_page_at xs h.0.id) z ∙ ap (λ (n : ℕ). old_page_at xs n 0) own ∙ ap (λ (o : Option Sector). option_map (λ u. map byte u.1) o) is))

  -- of one page of a file there is one sector
  page_alone : (i : ℕ) (y : Sector) → slice_get ys i ≡ Some y → is_file y.0 ≡ true → slice_get xs i ≡ Some y → is_old_needed xs i ≡ true → IsAlone (is_page y.0.id y.0.page) ys i
  page_alone i y at file here needs j t t_at passes =
      let a = and_parts (is_of y.0.id t) (eqb t.0.page y.0.page) passes in
      let b = and_parts (is_file t.0) (eqb t.0.id y.0.id) a.0 in
      let same_page : t.0.page ≡ y.0.page = eqb-true t.0.page y.0.page a.1 in
      let same_id : t.0.id ≡ y.0.id = eqb-true t.0.id y.0.id b.1 in
      elim (what_is xs ys settled j t t_at b.0) [
        | inl k ↦ both k.1 k.0 same_page same_id (part_of xs i y here needs).what (part_of xs j t k.1 k.0).what
        | inr h ↦ absurd (omega (arith, same_page, below_leader xs ys settled i y here needs, leads_page xs ys settled t h.0 h.2))
      ]
    where
      zero_of : (k : ℕ) (s : Sector) → slice_get xs k ≡ Some s → is_first (heads_file s.0.id) xs k ≡ true → s.0.page ≡ 0
      zero_of k s s_at first = (head_page s.0.id s (first_passes (heads_file s.0.id) xs k s s_at first)).1

      both : {m n : ℕ} → slice_get xs j ≡ Some t → is_old_needed xs j ≡ true → t.0.page ≡ y.0.page → t.0.id ≡ y.0.id → What xs i y m → What xs j t n → j ≡ i
      both t_here t_needs same_page same_id (inl p) (inl q) = same_first (heads_file y.0.id) xs j i (ap (λ (n : ℕ). is_first (heads_file n) xs j) (sym same_id) ∙ q) p
      both t_here t_needs same_page same_id (inr p) (inr q) =
          same_first (is_page y.0.id y.0.page) xs j i (ap (λ (n : ℕ). is_first (is_page n y.0.page) xs j) (sym same_id) ∙ ap (λ (n : ℕ). is_first (is_page t.0.id n) xs j) (sym same_page) ∙ q.2) p.2
      both t_here t_needs same_page same_id (inl p) (inr q) = absurd (omega (arith, zero_of i y here p, same_page, q.0))
      both t_here t_needs same_page same_id (inr p) (inl q) = absurd (omega (arith, zero_of j t t_here q, same_page, p.0))

  needed : (i : ℕ) (y : Sector) → slice_get ys i ≡ Some y → is_file y.0 ≡ true → is_needed false ys i ≡ true
  needed i y at file = elim (what_is xs ys settled i y at file) [
    | inl k ↦ page k.1 k.0 (part_of xs i y k.1 k.0)
    | inr h ↦ leader h.0 h.1 h.2
  ]
    where
      page : slice_get xs i ≡ Some y → is_old_needed xs i ≡ true → IsPart xs i y → is_needed false ys i ≡ true
      page here needs p =
          let passes : is_page y.0.id y.0.page y ≡ true = and_from (is_of y.0.id y) (eqb y.0.page y.0.page) (and_from (is_file y.0) (eqb y.0.id y.0.id) file (eq-eqb y.0.id y.0.id refl)) (eq-eqb y.0.page y.0.page refl) in
          by_file i y p.file at p.is (inr (short p.what, first_alone (is_page y.0.id y.0.page) ys i y at passes (page_alone i y at file here needs)))
        where
          short : (is_first (heads_file y.0.id) xs i ≡ true) ⊎ ((0 < y.0.page) × (y.0.page < size p.file) × (is_first (is_page y.0.id y.0.page) xs i ≡ true)) → y.0.page < size p.file
          short (inr q) = q.1
          short (inl first) =
              let zero_ : y.0.page ≡ 0 = (head_page y.0.id y (first_passes (heads_file y.0.id) xs i y here first)).1 in
              some (head_among xs y.0.id) refl zero_
            where
              some : (o : Option Sector) → head_among xs y.0.id ≡ o → y.0.page ≡ 0 → y.0.page < size p.file
              some None e z = absurd (none-some p.file (sym (ap (λ (o : Option Sector). option_map (old_file_by xs) (option_map (λ s. s.0) o)) e) ∙ p.is))
              some (Some h) e z =
                  let same : old_file_by xs h.0 ≡ p.file = same_Some (old_file_by xs h.0) p.file (sym (ap (λ (o : Option Sector). option_map (old_file_by xs) (option_map (λ s. s.0) o)) e) ∙ p.is) in
                  let l : 0 < size p.file = subst (λ (g : File). 0 < size g) same (some_pages y.0.id h e) in
                  omega (arith, z, l)

      leader : (h : Sector) → head_among xs y.0.id ≡ Some h → y.0 ≡ as_leader h.0 → is_needed false ys i ≡ true
      leader h is like =
          let f = found_at (heads_file y.0.id) xs h is in
          let passes = leads_as xs ys settled y.0.id h y like f.2 in
          by_file i y (old_file_by xs h.0) at (ap (λ (o : Option Sector). option_map (old_file_by xs) (option_map (λ s. s.0) o)) is)
          (inl (first_alone (leads_file false y.0.id) ys i y at passes (λ j t t_at t_passes.
          let r = leader_parts xs ys settled y.0.id t t_passes in
          let q = leader_parts xs ys settled y.0.id y passes in
          settled.once j i t y t_at at r.0 r.1 q.1 (r.2 ∙ sym q.2))))

pub settled_are_needed : SettledAreNeeded
settled_are_needed d e long settled i y at file = needed (data_sectors d) (data_sectors e) settled i y at file
