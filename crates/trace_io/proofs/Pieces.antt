-- A piece that is written part by part.
use Rattle.std.proofs.Common.{◌≡◌, ℕ, ◌+◌, ◌-◌, ◌≤◌, List, Option, Some, None, Result, Ok, Err, [], ◌++◌, length, take, drop, sym, ap, ◌∙◌, append_assoc, arith}
use Rattle.std.proofs.Math.Seq.{take-add}
use Rattle.std.proofs.lemmas.List.{take-append-drop, drop-take, length-take-le, take-append-le, take_all, drop-drop}
use Rattle.std.specs.Io.KnownBytes.{Appends, Consumes, WriteAppends, prepend_known}
use Rattle.std.proofs.KnownBytes.{Appends-trans, Appends-kept, prepend_known-nil}
use Rattle.trace_io.specs.Stream.{IsPrefixOf}

-- a further part
pub appends_part : (a b c : Option (List ℕ)) (piece : List ℕ) (at n : ℕ) → Appends a b (take at piece) → Appends b c (take n (drop at piece)) → Appends a c (take (at + n) piece)
appends_part a b c piece at n first next =
    rw (take-add at n piece) (Appends-trans a b c (take at piece) (take n (drop at piece)) first next)

-- what is written after one write more is a prefix of the piece
pub written_prefix : {E : Type 0} (a b c : Option (List ℕ)) (piece : List ℕ) (at : ℕ) (r : Result ℕ E) → Appends a b (take at piece) → WriteAppends b c r (drop at piece)
    → (prefix : List ℕ) × IsPrefixOf prefix piece × Appends a c prefix
written_prefix a b c piece at (Ok n) first next =
    (take (at + n) piece, (drop (at + n) piece, sym (take-append-drop (at + n) piece)), appends_part a b c piece at n first next)
written_prefix a b c piece at (Err e) first next =
    (take at piece, (drop at piece, sym (take-append-drop at piece)), Appends-kept a b c (take at piece) first next)

pub nothing_before : (a : Option (List ℕ)) → prepend_known [] a ≡ a
nothing_before a = prepend_known-nil a

-- the bytes of a buffer that are at hand, of which n were copied to the start of some room
module _ (buffer room copied : List ℕ) (at end n : ℕ) (copy : copied ≡ take n (take (end - at) (drop at buffer))) (within : n ≤ length (take (end - at) (drop at buffer))) (ordered : at ≤ end) where
  hand : drop at (take end buffer) ≡ take (end - at) (drop at buffer)
  hand = let whole : end ≡ at + (end - at) = omega arith in ap (λ (k : ℕ). drop at (take k buffer)) whole ∙ drop-take at (end - at) buffer

  long : length copied ≡ n
  long = ap length copy ∙ length-take-le n (take (end - at) (drop at buffer)) within

  pub copied_prefix : take n (copied ++ drop n room) ≡ take n (drop at (take end buffer))
  copied_prefix = take-append-le n copied (drop n room) (omega (arith, long)) ∙ take_all n copied (omega (arith, long)) ∙ copy ∙ ap (take n) (sym hand)

  pub hands_over : (known : Option (List ℕ)) → Consumes (prepend_known (drop at (take end buffer)) known) (prepend_known (drop (at + n) (take end buffer)) known) (take n (copied ++ drop n room))
  hands_over None = tt
  hands_over (Some xs) =
      let bytes = drop at (take end buffer) in
      let rest : drop (at + n) (take end buffer) ≡ drop n bytes = sym (drop-drop n at (take end buffer)) in
      ap (λ b. b ++ xs) (sym (take-append-drop n bytes)) ∙ append_assoc (take n bytes) (drop n bytes) xs ∙ ap (λ f. f ++ (drop n bytes ++ xs)) (sym copied_prefix) ∙ ap (λ r. take n (copied ++ drop n room) ++ (r ++ xs)) (sym rest)
