-- Each call that a line says is in form.
use Rattle.std.proofs.Common.{◌≡◌, ℕ, ◌*◌, ◌≤◌, List, [], ◌∷◌, length, Option, Some, None, IfSome, refl, sym, ◌∙◌, subst, arith}
use Rattle.std.specs.Prelude.{◌&&◌, nat_lt, nat_le}
use Rattle.std.specs.Result.{result_ok}
use Rattle.hex.specs.Hex.{decode_of}
use Rattle.hex.proofs.HexLemmas.{decode_of-ok}
use Rattle.flat_machine.specs.declared.call.Call.{Call}
use Rattle.flat_machine.specs.Form.{IsInForm}
use Rattle.trace_io.specs.Grammar.{number_of, bytes_of, count_of, only_id, only_number, number_and_type, id_and_number, two_numbers, number_and_mode, number_and_count, number_and_bytes, place, window, nothing, verb_of, with_fields, words_of, call_of_words, call_of}
use Rattle.trace_io.specs.Form.{GivesForm}
use Rattle.trace_io.specs.Lines.{line_of}
use Rattle.trace_io.specs.declared.calls.Verb.{Verb}
use Rattle.trace_io.specs.declared.progress.Line.{Line}
use Rattle.trace_io.specs.declared.calls.Verb.TheVariants as verb
use Rattle.trace_io.proofs.LongLines.{some_same, then_some, cond_some, result_some, both-some}

count-form : (word : List ℕ) (n : ℕ) → count_of word ≡ Some n → (1 ≤ n) × (n ≤ 64)
unfolding count_of
count-form word n e =
    let got = then_some _ (number_of word) n e in
    let test = cond_some (nat_le 1 got.0 && nat_le got.0 64) (Some got.0) n got.2 in
    let same : got.0 ≡ n = some_same test.1 in
    let low : 1 ≤ got.0 = grind arith in
    let high : got.0 ≤ 64 = grind arith in
    (omega arith, omega arith)

bytes-form : (word bytes : List ℕ) → bytes_of word ≡ Some bytes → (1 ≤ length bytes) × (length bytes ≤ 64)
unfolding bytes_of
bytes-form word bytes e =
    let test = cond_some (nat_lt 0 (length word) && nat_le (length word) 128) (result_ok (decode_of word)) bytes e in
    let twice : length word ≡ 2 * length bytes = (decode_of-ok word bytes (result_some _ bytes test.1)).2 in
    let low : 1 ≤ length word = grind arith in
    let high : length word ≤ 128 = grind arith in
    (omega arith, omega arith)

number_and_count-form : (ws : List (List ℕ)) (y : ℕ × ℕ) → number_and_count ws ≡ Some y → (1 ≤ y.1) × (y.1 ≤ 64)
unfolding number_and_count
number_and_count-form (a ∷ b ∷ []) y e = let s = both-some (number_of a) (count_of b) y e in subst (λ (z : ℕ × ℕ). (1 ≤ z.1) × (z.1 ≤ 64)) s.4 (count-form b s.1 s.3)
number_and_count-form ws y e = absurd (cc)

number_and_bytes-form : (ws : List (List ℕ)) (y : ℕ × List ℕ) → number_and_bytes ws ≡ Some y → (1 ≤ length y.1) × (length y.1 ≤ 64)
unfolding number_and_bytes
number_and_bytes-form (a ∷ b ∷ []) y e = let s = both-some (number_of a) (bytes_of b) y e in subst (λ (z : ℕ × List ℕ). (1 ≤ length z.1) × (length z.1 ≤ 64)) s.4 (bytes-form b s.1 s.3)
number_and_bytes-form ws y e = absurd (cc)

fields-form : (v : Verb) (ws : List (List ℕ)) (c : Call) → with_fields v ws ≡ Some c → IsInForm c
unfolding with_fields
fields-form verb.Create ws c e = let a = then_some _ (number_and_type ws) c e in subst IsInForm (some_same a.2) tt
fields-form verb.Delete ws c e = let a = then_some _ (only_id ws) c e in subst IsInForm (some_same a.2) tt
fields-form verb.Attr ws c e = let a = then_some _ (only_id ws) c e in subst IsInForm (some_same a.2) tt
fields-form verb.SetSize ws c e = let a = then_some _ (id_and_number ws) c e in subst IsInForm (some_same a.2) tt
fields-form verb.Permanent ws c e = let a = then_some _ (only_id ws) c e in subst IsInForm (some_same a.2) tt
fields-form verb.Immutable ws c e = let a = then_some _ (only_id ws) c e in subst IsInForm (some_same a.2) tt
fields-form verb.Next ws c e = let a = then_some _ (only_id ws) c e in subst IsInForm (some_same a.2) tt
fields-form verb.Volume ws c e = let a = then_some _ (nothing ws) c e in subst IsInForm (some_same a.2) tt
fields-form verb.Space ws c e = let a = then_some _ (place ws) c e in subst IsInForm (some_same a.2) tt
fields-form verb.Remove ws c e = let a = then_some _ (only_number ws) c e in subst IsInForm (some_same a.2) tt
fields-form verb.Where ws c e = let a = then_some _ (only_number ws) c e in subst IsInForm (some_same a.2) tt
fields-form verb.Units ws c e = let a = then_some _ (two_numbers ws) c e in subst IsInForm (some_same a.2) tt
fields-form verb.Map ws c e = let a = then_some _ (window ws) c e in subst IsInForm (some_same a.2) tt
fields-form verb.MapData ws c e = let a = then_some _ (only_number ws) c e in subst IsInForm (some_same a.2) tt
fields-form verb.Unmap ws c e = let a = then_some _ (only_number ws) c e in subst IsInForm (some_same a.2) tt
fields-form verb.Protect ws c e = let a = then_some _ (number_and_mode ws) c e in subst IsInForm (some_same a.2) tt
fields-form verb.Load ws c e = let a = then_some _ (number_and_count ws) c e in subst IsInForm (some_same a.2) (number_and_count-form ws a.0 a.1)
fields-form verb.Store ws c e = let a = then_some _ (number_and_bytes ws) c e in subst IsInForm (some_same a.2) (number_and_bytes-form ws a.0 a.1)
fields-form verb.Activate ws c e = let a = then_some _ (only_number ws) c e in subst IsInForm (some_same a.2) tt
fields-form verb.Deactivate ws c e = let a = then_some _ (only_number ws) c e in subst IsInForm (some_same a.2) tt
fields-form verb.Kill ws c e = let a = then_some _ (only_number ws) c e in subst IsInForm (some_same a.2) tt
fields-form verb.Force ws c e = let a = then_some _ (only_number ws) c e in subst IsInForm (some_same a.2) tt
fields-form verb.Close ws c e = let a = then_some _ (nothing ws) c e in subst IsInForm (some_same a.2) tt
fields-form verb.Halt ws c e = let a = then_some _ (nothing ws) c e in subst IsInForm (some_same a.2) tt

pub words-form : (ws : List (List ℕ)) (c : Call) → call_of_words ws ≡ Some c → IsInForm c
unfolding call_of_words
words-form [] c e = absurd (cc)
words-form (w ∷ ws) c e =
    let a = then_some _ (verb_of w) c e in
    fields-form a.0 ws c a.2

form_of : (o : Option Call) → ((c : Call) → o ≡ Some c → IsInForm c) → IfSome o IsInForm
form_of None h = tt
form_of (Some c) h = h c refl

-- what a line says is in form
call_of-form : (o : Option Call) (line : List ℕ) → o ≡ call_of line → IfSome o IsInForm
call_of-form o line is = form_of o (λ c e. words-form (words_of line) c (sym is ∙ e))

line_of-form : (o : Option Call) → IfSome o IsInForm → GivesForm (line_of o)
line_of-form None form = tt
line_of-form (Some c) form = form

-- so is the call of a line
pub line-form : (said : Line) (line : List ℕ) → said ≡ line_of (call_of line) → GivesForm said
line-form said line is = subst GivesForm (sym is) (line_of-form (call_of line) (call_of-form (call_of line) line refl))
