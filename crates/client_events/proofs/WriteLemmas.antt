-- Lines that are put one after the other.
use Rattle.std.proofs.Common.{◌≡◌, ℕ, zero, suc, ◌+◌, ◌-◌, ◌≤◌, List, [], ◌∷◌, ◌++◌, Option, sym, ◌∙◌, ap, subst, arith, append_assoc, append-nil}
use Rattle.std.specs.Prelude.{flat_map}
use Rattle.std.specs.List.{range_with_len}
use Rattle.std.specs.Io.KnownBytes.{Appends}
use Rattle.std.proofs.KnownBytes.{Appends-trans}
use Rattle.std.proofs.lemmas.Grind.{flat_map-append}
use Rattle.trace_io.specs.Stream.{AppendsPrefix}

module _ {X : Type 0} (lines : X → List ℕ) (a b c : Option (List ℕ)) where
  -- the lines of one more
  pub lines_put : (xs : List X) (x : X) → Appends a b (flat_map lines xs) → Appends b c (lines x) → Appends a c (flat_map lines (xs ++ x ∷ []))
  lines_put xs x first put =
      subst (λ (bytes : List ℕ). Appends a c bytes) (sym (flat_map-append lines xs (x ∷ []) ∙ ap (λ (bytes : List ℕ). flat_map lines xs ++ bytes) (append-nil (lines x))))
      (Appends-trans a b c (flat_map lines xs) (lines x) first put)

  -- a prefix of them
  pub lines_begun : (xs : List X) (x : X) (rest all : List X) → xs ++ x ∷ rest ≡ all → Appends a b (flat_map lines xs) → AppendsPrefix b c (lines x) → AppendsPrefix a c (flat_map lines all)
  lines_begun xs x rest all are first put =
      let before = flat_map lines xs in
      let after = flat_map lines rest in
      let one : flat_map lines (xs ++ x ∷ rest) ≡ before ++ (lines x ++ after) = flat_map-append lines xs (x ∷ rest) in
      let whole : flat_map lines all ≡ (before ++ put.0) ++ (put.1.0 ++ after) =
      ap (λ (ys : List X). flat_map lines ys) (sym are) ∙ one ∙ ap (λ (bytes : List ℕ). before ++ (bytes ++ after)) put.1.1
      ∙ ap (λ (bytes : List ℕ). before ++ bytes) (append_assoc put.0 put.1.0 after) ∙ sym (append_assoc before put.0 (put.1.0 ++ after)) in
      (before ++ put.0, (put.1.0 ++ after, whole), Appends-trans a b c before put.0 first put.2)

-- Numbers in a row, cut in two.

range_split : (a m n k : ℕ) → k ≡ m + n → range_with_len a k ≡ range_with_len a m ++ range_with_len (a + m) n
range_split a zero n k is =
    let same : k ≡ n = omega (arith, is) in
    let start : a ≡ a + 0 = omega arith in
    ap (λ (i : ℕ). range_with_len a i) same ∙ ap (λ (i : ℕ). range_with_len i n) start
range_split a (suc m) n zero is = absurd (omega (arith, is))
range_split a (suc m) n (suc k) is =
    let rest : k ≡ m + n = omega (arith, is) in
    let start : (a + 1) + m ≡ a + suc m = omega arith in
    ap (λ (xs : List ℕ). a ∷ xs) (range_split (a + 1) m n k rest ∙ ap (λ (i : ℕ). range_with_len (a + 1) m ++ range_with_len i n) start)

pub range_more : (client : ℕ) → 1 ≤ client → range_with_len 1 (client + 1 - 1) ≡ range_with_len 1 (client - 1) ++ client ∷ []
range_more client some =
    let size : client + 1 - 1 ≡ (client - 1) + 1 = omega (arith, some) in
    let here : 1 + (client - 1) ≡ client = omega (arith, some) in
    range_split 1 (client - 1) 1 (client + 1 - 1) size ∙ ap (λ (i : ℕ). range_with_len 1 (client - 1) ++ range_with_len i 1) here
