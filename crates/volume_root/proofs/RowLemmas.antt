-- Sectors in rows, one row after the other, and pages with few bytes.
use Rattle.std.proofs.Common.{◌≡◌, ◌⊎◌, inl, inr, ℕ, zero, suc, ◌+◌, ◌-◌, ◌<◌, ◌≤◌, Bool, true, List, [], ◌∷◌, ◌++◌, length, take, drop, replicate, Some, refl, sym, ◌∙◌, ap, arith, ltb}
use Rattle.std.specs.Prelude.{slice_get, All, ◌&&◌}
use Rattle.std.specs.List.{AllByRecursion}
use Rattle.std.proofs.Math.Seq.{take-append_seam, drop-append_seam}
use Rattle.std.proofs.lemmas.Bool.{and_parts, ltb-true}
use Rattle.std.proofs.lemmas.List.{length-append, length-replicate}
use Rattle.std.proofs.lemmas.List.Elements.{All-append, All-replicate, All-from_recursion}
use Rattle.std.proofs.lemmas.Option.{same_Some, none-some}
use Rattle.page_tree.specs.Page.{page_at}
use Rattle.labelled_disk.specs.Sectors.{Sector}
use Rattle.volume_root.specs.ThreeFiles.{page_of, sector, unused_pages}

-- an element of two rows is one of the first, or one of the second
pub in_rows : {X : Type 0} (xs ys : List X) (i : ℕ) (x : X) → slice_get (xs ++ ys) i ≡ Some x → (slice_get xs i ≡ Some x) ⊎ ((j : ℕ) × (i ≡ length xs + j) × (slice_get ys j ≡ Some x))
in_rows [] ys i x here = inr (i, omega arith, here)
in_rows (w ∷ xs) ys zero x here = inl here
in_rows (w ∷ xs) ys (suc i) x here = elim (in_rows xs ys i x here) [
  | inl first ↦ inl first
  | inr second ↦ inr (second.0, (let e = second.1 in omega (arith, e)), second.2)
]

-- an element of a row of equal ones is that one
pub in_replicate : {X : Type 0} (n : ℕ) (y : X) (i : ℕ) (x : X) → slice_get (replicate n y) i ≡ Some x → x ≡ y
in_replicate zero y i x here = absurd (none-some x here)
in_replicate (suc n) y zero x here = sym (same_Some y x here)
in_replicate (suc n) y (suc i) x here = in_replicate n y i x here

pub in_unused : (k n i : ℕ) (rest : List Sector) → i < n → slice_get (unused_pages k n ++ rest) i ≡ Some (sector 2 (k + i) 0 0 [])
in_unused k zero i rest below = absurd (omega (arith, below))
in_unused k (suc n) zero rest below = ap (λ (j : ℕ). Some (sector 2 j 0 0 [])) (let e : k ≡ k + 0 = omega arith in e)
in_unused k (suc n) (suc i) rest below = in_unused (k + 1) n i rest (omega (arith, below)) ∙ ap (λ (j : ℕ). Some (sector 2 j 0 0 [])) (let e : k + 1 + i ≡ k + suc i = omega arith in e)

pub length-unused : (k n : ℕ) → length (unused_pages k n) ≡ n
length-unused k zero = refl
length-unused k (suc n) = ap suc (length-unused (k + 1) n)

-- each byte is one
abbrev pub are_bytes : List ℕ → Bool
are_bytes [] = true
are_bytes (b ∷ bytes) = ltb b 256 && are_bytes bytes

each_byte : (bytes : List ℕ) → are_bytes bytes ≡ true → AllByRecursion (λ b. b < 256) bytes
each_byte [] passes = tt
each_byte (b ∷ bytes) passes = let parts = and_parts (ltb b 256) (are_bytes bytes) passes in (ltb-true b 256 parts.0, each_byte bytes parts.1)

pub page_bytes : (bytes : List ℕ) → are_bytes bytes ≡ true → All (λ b. b < 256) (page_of bytes)
unfolding page_of
page_bytes bytes passes =
    All-append (λ (b : ℕ). b < 256) bytes (replicate (512 - length bytes) 0) (All-from_recursion (λ (b : ℕ). b < 256) bytes (each_byte bytes passes))
    (All-replicate (λ (b : ℕ). b < 256) (512 - length bytes) 0 (omega arith))

pub page_size : (bytes : List ℕ) → length bytes ≤ 512 → length (page_of bytes) ≡ 512
unfolding page_of
page_size bytes few = length-append bytes (replicate (512 - length bytes) 0) ∙ omega (arith, few, length-replicate {A = ℕ} (512 - length bytes) 0)

-- the first and the second of pages in a row
pub first_of_pages : (page rest : List ℕ) → length page ≡ 512 → page_at (page ++ rest) 0 ≡ page
first_of_pages page rest size = ap (λ (n : ℕ). take n (page ++ rest)) (sym size) ∙ take-append_seam page rest

pub second_of_pages : (page next rest : List ℕ) → length page ≡ 512 → length next ≡ 512 → page_at (page ++ (next ++ rest)) 1 ≡ next
second_of_pages page next rest size next_size =
    ap (λ (n : ℕ). take 512 (drop n (page ++ (next ++ rest)))) (sym size) ∙ ap (take 512) (drop-append_seam page (next ++ rest)) ∙ first_of_pages next rest next_size
