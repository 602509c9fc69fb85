-- Pages that are laid one after the other.
use Rattle.std.proofs.Common.{◌≡◌, inl, inr, Bool, true, false, ◌&&◌, Option, subst, ℕ, zero, suc, ◌+◌, ◌-◌, ◌*◌, ◌<◌, List, [], ◌∷◌, ◌++◌, length, take, drop, replicate, Some, refl, sym, ◌∙◌, ap, arith}
use Rattle.std.specs.Prelude.{◌↔◌, slice_get, IsSomeAnd, IsTrue}
use Rattle.std.proofs.lemmas.Bool.{cases_eq, and_parts, false≢true}
use Rattle.labelled_disk.specs.Label.{names}
use Rattle.labelled_disk.specs.Layout.{vam, vfm}
use Rattle.labelled_disk.specs.Root.{HasMaps}
use Rattle.std.specs.List.{flat_map}
use Rattle.std.proofs.lemmas.Grind.{flat_map-append}
use Rattle.std.proofs.lemmas.List.{length-append, length-replicate}
use Rattle.labelled_disk.specs.declared.label.Label.{Label}
use Rattle.labelled_disk.specs.Sectors.{Sector}
use Rattle.flat_mem.specs.Memory.{overwritten}
use Rattle.volume_view.specs.Pages.{bytes_of, SaysNamed}
use Rattle.volume_view.proofs.ListLemmas.{dropped, one_more, nothing_more}

-- one page more
pub page_more : (d : List Sector) (first k : ℕ) (label : Label) (page : List ℕ) → slice_get d (first + k) ≡ Some (label, page) → bytes_of d first (k + 1) ≡ bytes_of d first k ++ page
page_more d first k label page here =
    let s : k + 1 ≡ suc k = omega arith in
    ap (λ (m : ℕ). bytes_of d first m) s
    ∙ ap (flat_map (λ (t : Sector). t.1)) (one_more (drop first d) k (label, page) (dropped d first k ∙ here))
    ∙ flat_map-append (λ (t : Sector). t.1) (take k (drop first d)) ((label, page) ∷ [])
    ∙ ap (λ (b : List ℕ). bytes_of d first k ++ b) (nothing_more page)

take_prefix : (xs ys : List ℕ) → take (length xs) (xs ++ ys) ≡ xs
take_prefix [] ys = refl
take_prefix (x ∷ xs) ys = ap (λ (l : List ℕ). x ∷ l) (take_prefix xs ys)

drop_prefix : (xs ys : List ℕ) (n : ℕ) → drop (length xs + n) (xs ++ ys) ≡ drop n ys
drop_prefix [] ys n = let z : 0 + n ≡ n = omega arith in ap (λ (m : ℕ). drop m ys) z
drop_prefix (x ∷ xs) ys n = let s : suc (length xs) + n ≡ suc (length xs + n) = omega arith in ap (λ (m : ℕ). drop m (x ∷ (xs ++ ys))) s ∙ drop_prefix xs ys n

-- a page over the first of the zeros
laid_over : (xs page zeros rest : List ℕ) (at : ℕ) → length xs ≡ at → length page ≡ length zeros → overwritten (xs ++ (zeros ++ rest)) at page ≡ (xs ++ page) ++ rest
laid_over xs page zeros rest at long size =
    let past : at + length page ≡ length xs + (length zeros + 0) = omega (arith, long, size) in
    let prefix : take at (xs ++ (zeros ++ rest)) ≡ xs = ap (λ (m : ℕ). take m (xs ++ (zeros ++ rest))) (sym long) ∙ take_prefix xs (zeros ++ rest) in
    let back : drop (at + length page) (xs ++ (zeros ++ rest)) ≡ rest =
    ap (λ (m : ℕ). drop m (xs ++ (zeros ++ rest))) past ∙ drop_prefix xs (zeros ++ rest) (length zeros + 0) ∙ drop_prefix zeros rest 0 in
    ap (λ (l : List ℕ). (l ++ page) ++ drop (at + length page) (xs ++ (zeros ++ rest))) prefix ∙ ap (λ (l : List ℕ). (xs ++ page) ++ l) back

abbrev zeros : ℕ → List ℕ
zeros n = replicate {A = ℕ} n 0

zeros_split : (a b : ℕ) → zeros (a + b) ≡ zeros a ++ zeros b
zeros_split zero b = let z : 0 + b ≡ b = omega arith in ap zeros z
zeros_split (suc a) b = let s : suc a + b ≡ suc (a + b) = omega arith in ap zeros s ∙ ap (λ (l : List ℕ). 0 ∷ l) (zeros_split a b)

fewer_zeros : (n k : ℕ) → k < n → zeros (512 * (n - k)) ≡ zeros 512 ++ zeros (512 * (n - (k + 1)))
fewer_zeros n k below = let e : 512 * (n - k) ≡ 512 + 512 * (n - (k + 1)) = omega (arith, below) in ap zeros e ∙ zeros_split 512 (512 * (n - (k + 1)))

-- the pages so far, and zeros after them
pub laid_more : (d : List Sector) (first n k : ℕ) (label : Label) (page old new : List ℕ) → k < n → length old ≡ 512 * n → length page ≡ 512 → slice_get d (first + k) ≡ Some (label, page)
    → old ≡ bytes_of d first k ++ zeros (512 * (n - k)) → new ≡ overwritten old (512 * k) page → new ≡ bytes_of d first (k + 1) ++ zeros (512 * (n - (k + 1)))
laid_more d first n k label page old new below size whole here so_far is =
    let left : length (zeros (512 * (n - k))) ≡ 512 * (n - k) = (let nought : ℕ = 0 in length-replicate (512 * (n - k)) nought) in
    let whole_zeros : length (zeros 512) ≡ 512 = (let nought : ℕ = 0 in length-replicate 512 nought) in
    let both = length-append (bytes_of d first k) (zeros (512 * (n - k))) in
    let long : length (bytes_of d first k) ≡ 512 * k = omega (arith, both, left, size, below, ap length so_far) in
    is
    ∙ ap (λ (b : List ℕ). overwritten b (512 * k) page) so_far
    ∙ ap (λ (z : List ℕ). overwritten (bytes_of d first k ++ z) (512 * k) page) (fewer_zeros n k below)
    ∙ laid_over (bytes_of d first k) page (zeros 512) (zeros (512 * (n - (k + 1)))) (512 * k) long (omega (arith, whole, whole_zeros))
    ∙ ap (λ (b : List ℕ). b ++ zeros (512 * (n - (k + 1)))) (sym (page_more d first k label page here))

pub laid_all : (d : List Sector) (first n k : ℕ) (bytes : List ℕ) → k ≡ n → bytes ≡ bytes_of d first k ++ zeros (512 * (n - k)) → bytes ≡ bytes_of d first n
laid_all d first n k bytes all is =
    let none : 512 * (n - k) ≡ 0 = omega (arith, all) in
    is ∙ ap (λ (m : ℕ). bytes_of d first k ++ zeros m) none ∙ nothing_more (bytes_of d first k) ∙ ap (bytes_of d first) all

pub laid_none : (d : List Sector) (first n : ℕ) (bytes : List ℕ) → bytes ≡ zeros (512 * n) → bytes ≡ bytes_of d first 0 ++ zeros (512 * (n - 0))
laid_none d first n bytes is = let e : 512 * n ≡ 512 * (n - 0) = omega arith in is ∙ ap zeros e

-- ---- labels that name the pages of a map

module _ (d : List Sector) (id first : ℕ) where
  pub named_none : (b : Bool) → SaysNamed b b d id first 0
  named_none b = (λ yes_so. (yes_so, λ k below. absurd (omega (arith, below))), λ both. both.0)

  pub named_more : (k : ℕ) (label : Label) (page : List ℕ) (before now after : Bool) → slice_get d (first + k) ≡ Some (label, page) → SaysNamed before now d id first k
      → after ≡ (now && names label (record { id = id; page = k })) → SaysNamed before after d id first (k + 1)
  named_more k label page before now after here so_far is = (
    λ said.
        let parts = and_parts now (names label (record { id = id; page = k })) (sym is ∙ said) in
        let old = so_far.0 parts.0 in (
          old.0,
          λ j below. elim (cases_eq j k) [
            | inl same ↦ subst (λ (i : ℕ). IsSomeAnd (slice_get d (first + i)) (λ s. IsTrue (names s.0 (record { id = id; page = i })))) (sym same) (subst (λ (o : Option Sector). IsSomeAnd o (λ s. IsTrue (names s.0 (record { id = id; page = k })))) (sym here) parts.1)
            | inr apart ↦ old.1 j (omega (arith, below, apart))
          ],
        ),
    λ both.
        let right = subst (λ (o : Option Sector). IsSomeAnd o (λ s. IsTrue (names s.0 (record { id = id; page = k })))) here (both.1 k (omega arith)) in
        is ∙ both_true now (names label (record { id = id; page = k })) (so_far.1 (both.0, λ j below. both.1 j (omega (arith, below)))) right,
  )
    where
      both_true : (a b : Bool) → a ≡ true → b ≡ true → (a && b) ≡ true
      both_true true b h k = k
      both_true false b h k = absurd (false≢true h)

pub both_named : (now named after : Bool) → now ≡ true → after ≡ named → after ≡ (now && named)
both_named true named after on is = is
both_named false named after on is = absurd (false≢true on)

pub not_named : (now named after : Bool) → now ≡ false → after ≡ now → after ≡ (now && named)
not_named true named after off is = absurd (false≢true (sym off))
not_named false named after off is = is

-- both maps have their labels
pub maps_named : (d : List Sector) (n : ℕ) (one two : Bool) → SaysNamed true one d 1 1 (vam n) → SaysNamed one two d 2 (1 + vam n) (vfm n) → (two ≡ true) ↔ HasMaps n d
maps_named d n one two bits file_map = (
  λ said. let last = file_map.0 said in record { allocation = (bits.0 last.0).1; file_map = last.1 },
  λ has. file_map.1 (bits.1 (refl, has.allocation), has.file_map),
)
