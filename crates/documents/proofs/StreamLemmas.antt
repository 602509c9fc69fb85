-- Bytes that a source gave, in a buffer.
use Rattle.std.proofs.Common.{◌≡◌, ◌∙◌, ℕ, zero, suc, ◌+◌, ◌-◌, ◌≤◌, refl, sym, ap, subst, arith, List, [], ◌∷◌, ◌++◌, length, Option, Some, None, Result, Ok, Err, IfOk}
use Rattle.std.specs.Prelude.{drop, option_to_list, slice_set, take}
use Rattle.std.specs.Io.KnownBytes.{Consumes}
use Rattle.std.proofs.KnownBytes.{Consumes-trans}
use Rattle.std.proofs.Math.Seq.{take-add}
use Rattle.std.proofs.lemmas.List.{drop_at, length-take-le, take-append-le}
use borrow.Rule.Slice.PartMut.{put_mid, take_put}

-- a piece that was put behind the first bytes
pub took_more : (done n count : ℕ) (room piece : List ℕ) → done ≤ length room → count ≤ length piece
    → take (done + count) (put_mid done n room piece) ≡ take done room ++ take count piece
took_more done n count room piece low fits =
    let rest : List ℕ = drop n (drop done room) in
    take-add done count (put_mid done n room piece)
    ∙ (λ i. take_put done n room piece low i ++ take count (drop_at (take done room) (piece ++ rest) done (length-take-le done room low) i))
    ∙ ap (λ (l : List ℕ). take done room ++ l) (take-append-le count piece rest fits)

-- bytes that were taken, and then more of them
pub consumed_more : (a b c : Option (List ℕ)) (done n count : ℕ) (room piece : List ℕ) → done ≤ length room → count ≤ length piece
    → Consumes a b (take done room) → Consumes b c (take count piece) → Consumes a c (take (done + count) (put_mid done n room piece))
consumed_more a b c done n count room piece low fits first second =
    subst (λ (l : List ℕ). Consumes a c l) (sym (took_more done n count room piece low fits)) (Consumes-trans a b c (take done room) (take count piece) first second)

one_first : (x : ℕ) (room : List ℕ) → 1 ≤ length room → take 1 (slice_set room 0 x) ≡ x ∷ []
one_first x [] some = absurd (omega (arith, some))
one_first x (y ∷ ys) some = refl

set_long : (x : ℕ) (room : List ℕ) → length (slice_set room 0 x) ≡ length room
set_long x [] = refl
set_long x (y ∷ ys) = refl

-- a byte that was taken stands in front
pub consumed_first : {E : Type 0} (a b c : Option (List ℕ)) (got : Result (Option ℕ) E) (x n count : ℕ) (room piece : List ℕ) → 1 ≤ length room → count ≤ length piece
    → IfOk got (λ o. Consumes a b (option_to_list o)) → got ≡ Ok (Some x) → Consumes b c (take count piece)
    → Consumes a c (take (1 + count) (put_mid 1 n (slice_set room 0 x) piece))
consumed_first a b c got x n count room piece some fits first is second =
    let one : Consumes a b (x ∷ []) = subst (λ (r : Result (Option ℕ) _). IfOk r (λ o. Consumes a b (option_to_list o))) is first in
    consumed_more a b c 1 n count (slice_set room 0 x) piece (omega (arith, set_long x room, some)) fits
    (subst (λ (l : List ℕ). Consumes a b l) (sym (one_first x room some)) one) second
