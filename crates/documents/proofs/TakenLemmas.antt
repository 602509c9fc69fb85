-- Pieces that a sink took, put together.
use Rattle.std.proofs.Common.{◌≡◌, ◌≤◌, ◌+◌, ◌-◌, ◌++◌, arith, ℕ, List, Option, length, length-append}
use Rattle.std.proofs.KnownBytes.{Appends-trans}
use Rattle.documents.specs.Ends.{TookSoMany}

pub took_then : (n k t : ℕ) (a b c : Option (List ℕ)) → TookSoMany n a b → TookSoMany k b c → t ≡ n + k → TookSoMany t a c
took_then n k t a b c first second is =
    let xs : List ℕ = first.0 in
    let ys : List ℕ = second.0 in
    let long : length (xs ++ ys) ≡ t = omega (arith, length-append xs ys, first.1, second.1, is) in
    (xs ++ ys, long, Appends-trans a b c xs ys first.2 second.2)

-- so many are left, and a piece of so many is handed over
pub split_count : (bytes left count k : ℕ) → left ≤ bytes → count ≤ left → k ≡ count → bytes - (left - count) ≡ bytes - left + k
split_count bytes left count k within few is = omega (arith, within, few, is)
