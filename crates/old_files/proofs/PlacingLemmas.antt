-- Leaders that are placed in the lowest free sectors.
use Rattle.std.proofs.Common.{◌≡◌, ◌⊎◌, inl, inr, ℕ, zero, suc, ◌+◌, ◌<◌, ◌≤◌, Bool, true, false, ◌&&◌, List, length, Some, refl, sym, ◌∙◌, ap, arith}
use Rattle.std.specs.Prelude.{slice_get, nat_lt, if◌then◌else◌, ◌==◌}
use Rattle.std.proofs.lemmas.Option.{same_Some, slice_get_within}
use Rattle.std.proofs.lemmas.Bool.{cases_lt, cases_order, true≢false, eqb-true}
use Rattle.labelled_disk.specs.declared.label.Label.{Label}
use Rattle.labelled_disk.specs.Label.{is_file, is_file_id, is_free, leader_page}
use Rattle.labelled_disk.specs.Sectors.{Sector}
use Rattle.old_files.specs.OldFiles.{head_among, is_old_needed}
use Rattle.old_files.specs.Laws.{as_leader}
use Rattle.old_files.specs.Arranging.{IsSettled}
use Rattle.old_files.specs.Placing.{spare_below, IsPlaced, PlacedAreSettled}
use Rattle.old_files.proofs.StayLemmas.{get_some}
use Rattle.old_files.proofs.ArrangeLemmas.{page_of_needed}

-- a free label is no file's
pub free_is_none : (l : Label) → is_free l ≡ true → is_file l ≡ false
free_is_none l free = ap (λ (n : ℕ). is_file_id n && nat_lt l.flags 4 && l.last == 0) (eqb-true l.id 0 free)

cases_bool : (b : Bool) → (b ≡ true) ⊎ (b ≡ false)
cases_bool true = inl refl
cases_bool false = inr refl

module _ (xs : List Sector) where
  -- one gap more
  pub one_gap : (i : ℕ) → is_old_needed xs i ≡ false → spare_below xs (suc i) ≡ spare_below xs i + 1
  one_gap i gap = ap (λ (b : Bool). spare_below xs i + (if b then 0 else 1)) gap

  pub no_gap : (i : ℕ) → is_old_needed xs i ≡ true → spare_below xs (suc i) ≡ spare_below xs i
  no_gap i needs = ap (λ (b : Bool). spare_below xs i + (if b then 0 else 1)) needs ∙ omega arith

  more : (i : ℕ) → spare_below xs i ≤ spare_below xs (suc i)
  more i = omega arith

  far : (i j : ℕ) → i ≤ j → spare_below xs i ≤ spare_below xs j
  far i zero l = let z : i ≡ 0 = omega (arith, l) in omega (arith, ap (spare_below xs) z)
  far i (suc j) l = elim (cases_lt j i) [
    | inl past ↦ let s : i ≡ suc j = omega (arith, l, past) in omega (arith, ap (spare_below xs) s)
    | inr below ↦ let f = far i j below in let m = more j in omega (arith, f, m)
  ]

  -- a gap has the number of the gaps below it, and no other has
  apart : (i j : ℕ) → is_old_needed xs i ≡ false → is_old_needed xs j ≡ false → spare_below xs i ≡ spare_below xs j → i ≡ j
  apart i j a b same = elim (cases_order i j) [
    | inl is ↦ is
    | inr (inl l) ↦ let f = far (suc i) j (omega (arith, l)) in let g = one_gap i a in absurd (omega (arith, f, g, same))
    | inr (inr l) ↦ let f = far (suc j) i (omega (arith, l)) in let g = one_gap j b in absurd (omega (arith, f, g, same))
  ]

  -- each number below that of all gaps is a gap's
  pub reached : (m n : ℕ) → n < spare_below xs m → (i : ℕ) × (i < m) × (is_old_needed xs i ≡ false) × (spare_below xs i ≡ n)
  reached zero n below = absurd (omega (arith, below))
  reached (suc m) n below = elim (cases_bool (is_old_needed xs m)) [
    | inl needs ↦ let g = no_gap m needs in let r = reached m n (omega (arith, below, g)) in (r.0, omega (arith, r.1), r.2, r.3)
    | inr gap ↦
        let g = one_gap m gap in
        elim (cases_lt n (spare_below xs m)) [
          | inl l ↦ let r = reached m n l in (r.0, omega (arith, r.1), r.2, r.3)
          | inr l ↦ (m, omega arith, gap, omega (arith, below, g, l))
        ]
  ]

module _ (xs ys : List Sector) (leaders : List Label) (is : IsPlaced xs ys leaders) where
  rest : (i : ℕ) (y : Sector) → is_old_needed xs i ≡ false → slice_get ys i ≡ Some y
      → (is_file y.0 ≡ false) ⊎ ((h : Sector) × (head_among xs y.0.id ≡ Some h) × (y.0 ≡ as_leader h.0))
  rest i y gap at = elim (is.gaps i y gap at) [
    | inl leads ↦ inr (is.leaders_are.each (spare_below xs i) y.0 leads)
    | inr free ↦ inl (free_is_none y.0 free.1)
  ]

  placed : (id : ℕ) (h : Sector) → head_among xs id ≡ Some h → (j : ℕ) × (y : Sector) × (slice_get ys j ≡ Some y) × (y.0 ≡ as_leader h.0)
  placed id h head =
      let a = is.leaders_are.all id h head in
      let within = slice_get_within leaders a.0 (as_leader h.0) a.1 in
      let r = reached xs (length xs) a.0 (omega (arith, within, is.enough)) in
      let y = get_some ys r.0 (omega (arith, r.1, is.same_length)) in
      elim (is.gaps r.0 y.0 r.2 y.1) [
        | inl leads ↦ (r.0, y.0, y.1, same_Some y.0.0 (as_leader h.0) (sym leads ∙ ap (slice_get leaders) r.3 ∙ a.1))
        | inr free ↦ absurd (omega (arith, free.0, r.3, within))
      ]

  once : (j k : ℕ) (y z : Sector) → slice_get ys j ≡ Some y → slice_get ys k ≡ Some z → is_file y.0 ≡ true → y.0.page ≡ leader_page → z.0.page ≡ leader_page → y.0.id ≡ z.0.id → j ≡ k
  once j k y z at_j at_k file page_y page_z same = both (cases_bool (is_old_needed xs j)) (cases_bool (is_old_needed xs k))
    where
      not_kept : (i : ℕ) (u : Sector) → slice_get ys i ≡ Some u → u.0.page ≡ leader_page → is_old_needed xs i ≡ true → ⊥
      not_kept i u at page needs =
          let below = page_of_needed xs i u (sym (is.kept i needs) ∙ at) needs in
          omega (arith, page, below)

      -- a free label has no file's identifier
      none_free : (u : Label) → u.id ≡ y.0.id → is_free u ≡ true → ⊥
      none_free u own free = true≢false (sym file ∙ ap (λ (n : ℕ). is_file_id n && nat_lt y.0.flags 4 && y.0.last == 0) (sym own ∙ eqb-true u.id 0 free))

      leads : (i : ℕ) (u : Sector) → slice_get ys i ≡ Some u → is_old_needed xs i ≡ false → u.0.id ≡ y.0.id → slice_get leaders (spare_below xs i) ≡ Some u.0
      leads i u at gap own = elim (is.gaps i u gap at) [
        | inl l ↦ l
        | inr free ↦ absurd (none_free u.0 own free.1)
      ]

      both : (is_old_needed xs j ≡ true) ⊎ (is_old_needed xs j ≡ false) → (is_old_needed xs k ≡ true) ⊎ (is_old_needed xs k ≡ false) → j ≡ k
      both (inl a) b = absurd (not_kept j y at_j page_y a)
      both (inr a) (inl b) = absurd (not_kept k z at_k page_z b)
      both (inr a) (inr b) = apart xs j k a b (is.leaders_are.once (spare_below xs j) (spare_below xs k) y.0 z.0 (leads j y at_j a refl) (leads k z at_k b (sym same)) same)

  pub placed_are : IsSettled xs ys
  placed_are = record { same_length = is.same_length; kept = is.kept; rest = rest; placed = placed; once = once }

pub placed_are_settled : PlacedAreSettled
placed_are_settled xs ys leaders is = placed_are xs ys leaders is
