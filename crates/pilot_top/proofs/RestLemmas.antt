-- What is left of a source that is not read to its end.
use Rattle.std.proofs.Common.{◌≡◌, ℕ, zero, suc, ◌+◌, ◌<◌, ◌≤◌, false, List, [], ◌∷◌, ◌++◌, length, drop, Option, Some, None, refl, sym, ap, ◌∙◌, arith, append-nil, length-append}
use Rattle.std.specs.List.{join_with_byte, list_any}
use Rattle.std.specs.Io.KnownBytes.{Consumes}
use Rattle.std.proofs.lemmas.List.{drop-drop}
use Rattle.std.proofs.lemmas.List.Splits.{join_with_byte-slice_split}
use Rattle.std.proofs.lemmas.Option.{same_Some}
use Rattle.flat_machine.specs.After.{TraceLine}
use Rattle.trace_io.specs.Course.{AreLines, HasRead, GoesOn}
use Rattle.trace_io.specs.Items.{left_after}
use Rattle.trace_io.specs.Progress.{Progress}
use Rattle.trace_io.specs.Reading.{is_last, parts_of, reading, rest_of}
use Rattle.trace_io.specs.declared.progress.Stop.{Stop}
use Rattle.trace_io.specs.declared.progress.Stop.TheVariants as stop
use Rattle.trace_io.proofs.ReadingLemmas.{reading-nil}
use Rattle.pilot_top.specs.Ending.{closes}
use Rattle.pilot_top.proofs.EndLemmas.{none_close}

-- Parts that are joined.

one_more : (p q : List ℕ) (ps : List (List ℕ)) → length (join_with_byte 10 (q ∷ ps)) < length (join_with_byte 10 (p ∷ q ∷ ps))
one_more p q ps = omega (arith, length-append p (10 ∷ join_with_byte 10 (q ∷ ps)))

-- fewer of them are no longer
fewer : (k : ℕ) (ps : List (List ℕ)) → length (join_with_byte 10 (drop k ps)) ≤ length (join_with_byte 10 ps)
fewer zero ps = omega arith
fewer (suc k) [] = omega arith
fewer (suc zero) (p ∷ []) = omega arith
fewer (suc (suc k)) (p ∷ []) = omega arith
fewer (suc k) (p ∷ q ∷ ps) = omega (arith, fewer k (q ∷ ps), one_more p q ps)

shorter : (k : ℕ) (ps : List (List ℕ)) → 0 < length (join_with_byte 10 ps) → length (join_with_byte 10 (drop (suc k) ps)) < length (join_with_byte 10 ps)
shorter k [] some = absurd (omega (arith, some))
shorter zero (p ∷ []) some = some
shorter (suc k) (p ∷ []) some = some
shorter k (p ∷ q ∷ ps) some = omega (arith, fewer k (q ∷ ps), one_more p q ps)

-- A source with all of its bytes.

rest_is : (s : List ℕ) → rest_of s ≡ join_with_byte 10 (drop (length (reading s)) (parts_of s))
unfolding left_after
rest_is s = refl

-- where all of a source is left after its lines, it has none
none_there : (s : List ℕ) → rest_of s ≡ s → reading s ≡ []
none_there [] same = reading-nil
none_there (b ∷ s) same = by (reading (b ∷ s)) refl
  where
    by : (lines : List TraceLine) → reading (b ∷ s) ≡ lines → lines ≡ []
    by [] is = refl
    by (line ∷ lines) is =
        let whole : join_with_byte 10 (parts_of (b ∷ s)) ≡ b ∷ s = join_with_byte-slice_split 10 (b ∷ s) in
        let left : b ∷ s ≡ join_with_byte 10 (drop (suc (length lines)) (parts_of (b ∷ s))) = sym same ∙ rest_is (b ∷ s) ∙ ap (λ (ls : List TraceLine). join_with_byte 10 (drop (length ls) (parts_of (b ∷ s)))) is in
        let less = shorter (length lines) (parts_of (b ∷ s)) (omega (arith, ap length whole)) in
        absurd (omega (arith, less, ap length whole, ap length left))

-- Lines that were read, none of which ends the trace.

module _ (x : List ℕ) (lines : List TraceLine) (none : list_any is_last lines ≡ false) where
  -- what is left after the lines is left after all of them, so there are no others
  after_lines : (bytes s : List ℕ) → x ≡ bytes ++ s → AreLines bytes lines → s ≡ rest_of x → reading x ≡ lines
  after_lines bytes s are is left =
      let reads : reading x ≡ lines ++ reading s = ap reading are ∙ is.reads s in
      let count : length (reading x) ≡ length lines + length (reading s) = ap length reads ∙ length-append lines (reading s) in
      let rest : rest_of x ≡ rest_of s =
      rest_is x ∙ ap (λ (b : List ℕ). join_with_byte 10 (drop (length (reading x)) (parts_of b))) are
      ∙ ap (λ (n : ℕ). join_with_byte 10 (drop n (parts_of (bytes ++ s)))) count
      ∙ ap (join_with_byte 10) (sym (drop-drop (length (reading s)) (length lines) (parts_of (bytes ++ s))))
      ∙ ap (λ (ps : List (List ℕ)). join_with_byte 10 (drop (length (reading s)) ps)) (is.parts s)
      ∙ sym (rest_is s) in
      reads ∙ ap (λ (ls : List TraceLine). lines ++ ls) (none_there s (sym (left ∙ rest))) ∙ append-nil lines

  -- so the trace is ended by no `close`
  pub not_closed : (c : Option (List ℕ)) (q : Progress) → HasRead (Some x) c q lines → c ≡ Some (rest_of x) → closes (reading x) ≡ false
  not_closed c q read left = from c read.took left q.stopped read.goes_on
    where
      from : (c : Option (List ℕ)) → Consumes (Some x) c read.bytes → c ≡ Some (rest_of x) → (s : Option Stop) → GoesOn s (Some x) c q.taken q.limit read.bytes lines → closes (reading x) ≡ false
      from None took left s goes = absurd took
      from (Some s) took left None goes = ap closes (after_lines read.bytes s took goes (same_Some s (rest_of x) left)) ∙ none_close lines none
      from (Some s) took left (Some stop.End) goes = ap closes goes.0.items_are ∙ none_close lines none
      from (Some s) took left (Some stop.ReadFault) goes = absurd goes
      from (Some s) took left (Some stop.Long) goes = absurd goes
