-- The lowest sector that passes a test, and the tests that a sector passes by its place in its file.
use Rattle.std.proofs.Common.{◌≡◌, ℕ, zero, suc, ◌+◌, ◌^◌, ◌<◌, Bool, true, false, not, ◌&&◌, ◌||◌, cond, List, [], ◌∷◌, Some, refl, sym, ◌∙◌, ap, arith, eqb}
use Rattle.std.specs.Prelude.{slice_get}
use Rattle.std.specs.List.{position_or_len}
use Rattle.std.proofs.lemmas.Option.{same_Some, none-some}
use Rattle.std.proofs.lemmas.Bool.{and_parts, and_from, eqb-true, eq-eqb, ne_eqb, false≢true, true≢false}
use Rattle.labelled_disk.specs.Label.{is_file, is_permanent, leader_page}
use Rattle.labelled_disk.specs.Sectors.{Sector}
use Rattle.labelled_disk.specs.FilesOn.{leads, leads_file, is_page, is_of}
use Rattle.labelled_disk.specs.Lowest.{is_first}
use Rattle.label_survey.specs.Entries.{place_of}

-- The first that passes.

pub first_if : (test : Sector → Bool) (xs : List Sector) (i : ℕ) (s : Sector) → slice_get xs i ≡ Some s → test s ≡ true → ((j : ℕ) (t : Sector) → j < i → slice_get xs j ≡ Some t → test t ≡ false)
    → is_first test xs i ≡ true
first_if test [] i s here passes lower = absurd (none-some s here)
first_if test (x ∷ xs) zero s here passes lower = let e : test x ≡ true = ap test (same_Some x s here) ∙ passes in rw e refl
first_if test (x ∷ xs) (suc i) s here passes lower =
    let e : test x ≡ false = lower 0 x (omega arith) refl in
    let more = first_if test xs i s here passes (λ j t l at. lower (suc j) t (omega (arith, l)) at) in
    rw e (eq-eqb (1 + position_or_len test xs) (suc i) (omega (arith, eqb-true (position_or_len test xs) i more)))

pub not_first : (test : Sector → Bool) (xs : List Sector) (i j : ℕ) (t : Sector) → j < i → slice_get xs j ≡ Some t → test t ≡ true → is_first test xs i ≡ true → ⊥
not_first test [] i j t l at passes first = none-some t at
not_first test (x ∷ xs) zero j t l at passes first = omega (arith, l)
not_first test (x ∷ xs) (suc i) zero t l at passes first = let e : test x ≡ true = ap test (same_Some x t at) ∙ passes in either (test x) e first
  where
    either : (b : Bool) → b ≡ true → eqb (cond (not b) (1 + position_or_len test xs) 0) (suc i) ≡ true → ⊥
    either true e h = omega (arith, eqb-true 0 (suc i) h)
    either false e h = false≢true e
not_first test (x ∷ xs) (suc i) (suc j) t l at passes first = either (test x) first (λ h. not_first test xs i j t (omega (arith, l)) at passes h)
  where
    either : (b : Bool) → eqb (cond (not b) (1 + position_or_len test xs) 0) (suc i) ≡ true → (is_first test xs i ≡ true → ⊥) → ⊥
    either true h more = omega (arith, eqb-true 0 (suc i) h)
    either false h more = more (eq-eqb (position_or_len test xs) i (omega (arith, eqb-true (1 + position_or_len test xs) (suc i) h)))

pub first_passes : (test : Sector → Bool) (xs : List Sector) (i : ℕ) (s : Sector) → slice_get xs i ≡ Some s → is_first test xs i ≡ true → test s ≡ true
first_passes test [] i s here first = absurd (none-some s here)
first_passes test (x ∷ xs) zero s here first = ap test (sym (same_Some x s here)) ∙ either (test x) refl first
  where
    either : (b : Bool) → test x ≡ b → eqb (cond (not b) (1 + position_or_len test xs) 0) 0 ≡ true → test x ≡ true
    either true e h = e
    either false e h = absurd (omega (arith, eqb-true (1 + position_or_len test xs) 0 h))
first_passes test (x ∷ xs) (suc i) s here first = either (test x) first (λ h. first_passes test xs i s here h)
  where
    either : (b : Bool) → eqb (cond (not b) (1 + position_or_len test xs) 0) (suc i) ≡ true → (is_first test xs i ≡ true → test s ≡ true) → test s ≡ true
    either true h more = absurd (omega (arith, eqb-true 0 (suc i) h))
    either false h more = more (eq-eqb (position_or_len test xs) i (omega (arith, eqb-true (1 + position_or_len test xs) (suc i) h)))

-- A place, and the tests that it passes.

pub leader_bits : (b c : Bool) (n : ℕ) → cond b (cond c 0 (2 ^ 32)) (n + 1) ≡ 0 → (b ≡ true) × (c ≡ true)
leader_bits true true n e = (refl, refl)
leader_bits true false n e = absurd (omega (arith, e))
leader_bits false c n e = absurd (omega (arith, e))

pub page_bits : (b c : Bool) (n q : ℕ) → cond b (cond c 0 (2 ^ 32)) (n + 1) ≡ suc q → suc q < 2 ^ 32 → (b ≡ false) × (n ≡ q)
page_bits true true n q e l = absurd (omega (arith, e))
page_bits true false n q e l = absurd (omega (arith, e, l))
page_bits false c n q e l = (refl, omega (arith, e))

as_leader : (b c : Bool) (n : ℕ) → b ≡ true → c ≡ true → cond b (cond c 0 (2 ^ 32)) (n + 1) ≡ 0
as_leader true true n e f = refl
as_leader true false n e f = absurd (false≢true f)
as_leader false c n e f = absurd (false≢true e)

as_page : (b c : Bool) (n q : ℕ) → b ≡ false → n ≡ q → cond b (cond c 0 (2 ^ 32)) (n + 1) ≡ suc q
as_page true c n q e f = absurd (true≢false e)
as_page false c n q e f = omega (arith, f)

pub leads_by_place : (id : ℕ) (s : Sector) → is_file s.0 ≡ true → s.0.id ≡ id → place_of s.0 ≡ 0 → leads_file false id s ≡ true
leads_by_place id s is same at =
    let bits = leader_bits (eqb s.0.page leader_page) (is_permanent s.0) s.0.page at in
    and_from (leads false s) (eqb s.0.id id)
    (and_from (is_file s.0 && eqb s.0.page leader_page) (false || is_permanent s.0) (and_from (is_file s.0) (eqb s.0.page leader_page) is bits.0) bits.1)
    (eq-eqb s.0.id id same)

pub page_by_place : (id k : ℕ) (s : Sector) → is_file s.0 ≡ true → s.0.id ≡ id → place_of s.0 ≡ suc k → suc k < 2 ^ 32 → is_page id k s ≡ true
page_by_place id k s is same at below =
    let bits = page_bits (eqb s.0.page leader_page) (is_permanent s.0) s.0.page k at below in
    and_from (is_of id s) (eqb s.0.page k) (and_from (is_file s.0) (eqb s.0.id id) is (eq-eqb s.0.id id same)) (eq-eqb s.0.page k bits.1)

pub place_of_leader : (id : ℕ) (s : Sector) → leads_file false id s ≡ true → (is_file s.0 ≡ true) × (s.0.id ≡ id) × (place_of s.0 ≡ 0)
place_of_leader id s is =
    let parts = and_parts (leads false s) (eqb s.0.id id) is in
    let bits = and_parts (is_file s.0 && eqb s.0.page leader_page) (false || is_permanent s.0) parts.0 in
    let own = and_parts (is_file s.0) (eqb s.0.page leader_page) bits.0 in
    (own.0, eqb-true s.0.id id parts.1, as_leader (eqb s.0.page leader_page) (is_permanent s.0) s.0.page own.1 bits.1)

pub place_of_page : (id k : ℕ) (s : Sector) → is_page id k s ≡ true → suc k < 2 ^ 32 → (is_file s.0 ≡ true) × (s.0.id ≡ id) × (place_of s.0 ≡ suc k)
place_of_page id k s is below =
    let parts = and_parts (is_of id s) (eqb s.0.page k) is in
    let own = and_parts (is_file s.0) (eqb s.0.id id) parts.0 in
    let page : s.0.page ≡ k = eqb-true s.0.page k parts.1 in
    (own.0, eqb-true s.0.id id own.1, as_page (eqb s.0.page leader_page) (is_permanent s.0) s.0.page k (ne_eqb s.0.page leader_page (λ e. omega (arith, e, page, below))) page)
