-- The bytes of a store, one by one.
use Rattle.std.proofs.Common.{◌≡◌, ℕ, suc, ◌+◌, ◌*◌, ◌%◌, ◌<◌, List, [], ◌∷◌, ◌++◌, length, map, refl, sym, ap, ◌∙◌, arith}
use Rattle.std.specs.List.{range_with_len}
use Rattle.std.proofs.lemmas.List.FromFn.{length-map-range_with_len, map-range_with_len_more}
use Rattle.trace_maker.specs.Drawn.{number, number_after}

-- so many bytes, from that of the value on
abbrev pub bytes_from : ℕ → ℕ → List ℕ
bytes_from u k = map (λ n. n % 256) (range_with_len u k)

-- there is room for one more
pub has_room : (u k : ℕ) (bytes : List ℕ) → bytes ≡ bytes_from u k → k < 1 + u % 64 → length bytes < 64
has_room u k bytes is below =
    let long : length bytes ≡ k = ap (λ (l : List ℕ). length l) is ∙ length-map-range_with_len (λ n. n % 256) u k in
    omega (arith, long, below)

-- and one more is the next
pub one_more : (u k : ℕ) (bytes : List ℕ) → bytes ≡ bytes_from u k → bytes ++ (u + k) % 256 ∷ [] ≡ bytes_from u (k + 1)
one_more u k bytes is = ap (λ (l : List ℕ). l ++ (u + k) % 256 ∷ []) is ∙ sym (map-range_with_len_more (λ n. n % 256) u k (u + k) refl)

-- three numbers on
pub three_on : (seed index x y z w : ℕ) → x ≡ number seed (3 * index) → y ≡ number_after x → z ≡ number_after y → w ≡ number_after z → w ≡ number seed (3 * suc index)
three_on seed index x y z w first second third fourth =
    let three : suc (suc (suc (3 * index))) ≡ 3 * suc index = omega arith in
    fourth ∙ ap number_after (third ∙ ap number_after (second ∙ ap number_after first)) ∙ ap (number seed) three
