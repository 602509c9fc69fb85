-- The line of a call is read back as that call.
use Rattle.std.proofs.Common.{◌≡◌, ◌≢◌, inl, inr, ℕ, zero, suc, ◌-◌, ◌≤◌, true, eqb, List, [], ◌∷◌, ◌++◌, length, get_or, Some, None, length-append, append_assoc, map, cond, refl, ap, ◌∙◌, arith, nat_lt}
use Rattle.std.specs.Prelude.{codes}
use Rattle.std.specs.List.{slice_split, join_with_byte, AllByRecursion}
use Rattle.std.proofs.lemmas.Bool.{cases_lt}
use Rattle.std.proofs.lemmas.List.{get_or_append_left}
use Rattle.std.proofs.Math.Seq.{get_or-append_right}
use Rattle.flat_machine.specs.declared.call.Call.{Call}
use Rattle.flat_machine.specs.declared.call.Call.TheVariants as call
use Rattle.flat_machine.specs.Form.{IsInForm}
use Rattle.trace_io.specs.Stream.{Misses}
use Rattle.trace_io.specs.Grammar.{only_id, only_number, number_and_type, id_and_number, two_numbers, number_and_mode, number_and_count, number_and_bytes, place, window, nothing, verb_of, with_fields, call_of_words, call_of}
use Rattle.trace_io.specs.CallText.{call_words, call_text, HasFields, IsWritable, trace_text}
use Rattle.trace_io.specs.Reading.{reading, is_last, through_last}
use Rattle.trace_io.proofs.ReadingLemmas.{reading-nil, reading-line}
use Rattle.trace_io.proofs.Cuts.{split_first, split_none}
use Rattle.trace_io.proofs.LongLines.{call_of-long}
use Rattle.trace_io.proofs.WordTexts.{IsWord, word_of, decimal-word, id-word, mode-word, hex-word, number_of-decimal, type_of-decimal, count_of-decimal, id_of-text, bytes_of-text, mode_of-text}

-- one word or more
abbrev HasWords : List (List ℕ) → Type 0
HasWords [] = ⊥
HasWords (w ∷ []) = IsWord w
HasWords (w ∷ v ∷ ws) = IsWord w × HasWords (v ∷ ws)

word-misses : (c : ℕ) (word : List ℕ) → c ≤ 32 → IsWord word → Misses c word
word-misses c word low passes k l = let above : nat_lt 32 (get_or word k 0) ≡ true = passes k 0 l in grind arith

-- words with a space between each two are cut at these
split-join : (ws : List (List ℕ)) → HasWords ws → slice_split (λ b. eqb b 32) (join_with_byte 32 ws) ≡ ws
split-join [] are = absurd are
split-join (w ∷ []) are = split_none 32 w (word-misses 32 w (omega arith) are)
split-join (w ∷ v ∷ ws) are = split_first 32 w (join_with_byte 32 (v ∷ ws)) (word-misses 32 w (omega arith) are.0) ∙ ap (λ r. w ∷ r) (split-join (v ∷ ws) are.1)

Misses-cons : (c x : ℕ) (xs : List ℕ) → x ≢ c → Misses c xs → Misses c (x ∷ xs)
Misses-cons c x xs other rest zero l = other
Misses-cons c x xs other rest (suc k) l = rest k (omega arith)

pub Misses-append : (c : ℕ) (xs ys : List ℕ) → Misses c xs → Misses c ys → Misses c (xs ++ ys)
Misses-append c xs ys prefix back k l = elim (cases_lt k (length xs)) [
  | inl below ↦ rw (get_or_append_left xs ys 0 k below) (prefix k below)
  | inr past ↦ rw (get_or-append_right xs ys k 0 past) (back (k - length xs) (omega (arith, length-append xs ys)))
]

Misses-join : (ws : List (List ℕ)) → HasWords ws → Misses 10 (join_with_byte 32 ws)
Misses-join [] are = absurd are
Misses-join (w ∷ []) are = word-misses 10 w (omega arith) are
Misses-join (w ∷ v ∷ ws) are =
    Misses-append 10 w (32 ∷ join_with_byte 32 (v ∷ ws)) (word-misses 10 w (omega arith) are.0) (Misses-cons 10 32 (join_with_byte 32 (v ∷ ws)) (omega arith) (Misses-join (v ∷ ws) are.1))

call-words : (c : Call) → HasFields c → HasWords (call_words c)
call-words (call.Create pages kind) fits = (word_of (codes "create") refl, (decimal-word pages fits.0, decimal-word kind (omega (arith, fits.1))))
call-words (call.Delete id) fits = (word_of (codes "delete") refl, id-word id)
call-words (call.Attributes id) fits = (word_of (codes "attr") refl, id-word id)
call-words (call.SetSize id pages) fits = (word_of (codes "setsize") refl, (id-word id, decimal-word pages fits.1))
call-words (call.MakePermanent id) fits = (word_of (codes "permanent") refl, id-word id)
call-words (call.MakeImmutable id) fits = (word_of (codes "immutable") refl, id-word id)
call-words (call.Next id) fits = (word_of (codes "next") refl, id-word id)
call-words call.Volume fits = word_of (codes "volume") refl
call-words (call.MakeSpace parent pages None) fits = (word_of (codes "space") refl, (decimal-word parent fits.0, decimal-word pages fits.1))
call-words (call.MakeSpace parent pages (Some first)) fits = (word_of (codes "space") refl, (decimal-word parent fits.0, (decimal-word pages fits.1, decimal-word first fits.2)))
call-words (call.RemoveSpace space) fits = (word_of (codes "remove") refl, decimal-word space fits)
call-words (call.Place page) fits = (word_of (codes "where") refl, decimal-word page fits)
call-words (call.Units space pages) fits = (word_of (codes "units") refl, (decimal-word space fits.0, decimal-word pages fits.1))
call-words (call.Map space id page writable) fits = (word_of (codes "map") refl, (decimal-word space fits.0, (id-word id, (decimal-word page fits.2, mode-word writable))))
call-words (call.MapAnonymous space) fits = (word_of (codes "mapdata") refl, decimal-word space fits)
call-words (call.Unmap space) fits = (word_of (codes "unmap") refl, decimal-word space fits)
call-words (call.Protect space writable) fits = (word_of (codes "protect") refl, (decimal-word space fits, mode-word writable))
call-words (call.Load address count) fits = (word_of (codes "load") refl, (decimal-word address fits.0, decimal-word count (omega (arith, fits.1))))
call-words (call.Store address bytes) fits = (word_of (codes "store") refl, (decimal-word address fits.0, hex-word bytes fits.1))
call-words (call.Activate space) fits = (word_of (codes "activate") refl, decimal-word space fits)
call-words (call.Deactivate space) fits = (word_of (codes "deactivate") refl, decimal-word space fits)
call-words (call.Kill space) fits = (word_of (codes "kill") refl, decimal-word space fits)
call-words (call.ForceOut space) fits = (word_of (codes "force") refl, decimal-word space fits)
call-words call.Close fits = word_of (codes "close") refl
call-words call.Halt fits = word_of (codes "halt") refl

-- the words of a call are read as that call
words-read : (c : Call) → IsInForm c → HasFields c → call_of_words (call_words c) ≡ Some c
unfolding call_of_words verb_of with_fields only_id only_number number_and_type id_and_number two_numbers number_and_mode number_and_count number_and_bytes place window nothing
words-read (call.Create pages kind) form fits = rw (number_of-decimal pages fits.0, type_of-decimal kind fits.1) refl
words-read (call.Delete id) form fits = rw (id_of-text id fits) refl
words-read (call.Attributes id) form fits = rw (id_of-text id fits) refl
words-read (call.SetSize id pages) form fits = rw (id_of-text id fits.0, number_of-decimal pages fits.1) refl
words-read (call.MakePermanent id) form fits = rw (id_of-text id fits) refl
words-read (call.MakeImmutable id) form fits = rw (id_of-text id fits) refl
words-read (call.Next id) form fits = rw (id_of-text id fits) refl
words-read call.Volume form fits = refl
words-read (call.MakeSpace parent pages None) form fits = rw (number_of-decimal parent fits.0, number_of-decimal pages fits.1) refl
words-read (call.MakeSpace parent pages (Some first)) form fits = rw (number_of-decimal parent fits.0, number_of-decimal pages fits.1, number_of-decimal first fits.2) refl
words-read (call.RemoveSpace space) form fits = rw (number_of-decimal space fits) refl
words-read (call.Place page) form fits = rw (number_of-decimal page fits) refl
words-read (call.Units space pages) form fits = rw (number_of-decimal space fits.0, number_of-decimal pages fits.1) refl
words-read (call.Map space id page writable) form fits = rw (number_of-decimal space fits.0, id_of-text id fits.1, number_of-decimal page fits.2, mode_of-text writable) refl
words-read (call.MapAnonymous space) form fits = rw (number_of-decimal space fits) refl
words-read (call.Unmap space) form fits = rw (number_of-decimal space fits) refl
words-read (call.Protect space writable) form fits = rw (number_of-decimal space fits, mode_of-text writable) refl
words-read (call.Load address count) form fits = rw (number_of-decimal address fits.0, count_of-decimal count form.0 form.1) refl
words-read (call.Store address bytes) form fits = rw (number_of-decimal address fits.0, bytes_of-text bytes form.0 form.1 fits.1) refl
words-read (call.Activate space) form fits = rw (number_of-decimal space fits) refl
words-read (call.Deactivate space) form fits = rw (number_of-decimal space fits) refl
words-read (call.Kill space) form fits = rw (number_of-decimal space fits) refl
words-read (call.ForceOut space) form fits = rw (number_of-decimal space fits) refl
words-read call.Close form fits = refl
words-read call.Halt form fits = refl

pub call_of-text : (c : Call) → IsInForm c → HasFields c → call_of (call_text c) ≡ Some c
unfolding call_text
call_of-text c form fits = ap call_of_words (split-join (call_words c) (call-words c fits)) ∙ words-read c form fits

pub text-misses : (c : Call) → HasFields c → Misses 10 (call_text c)
unfolding call_text
text-misses c fits = Misses-join (call_words c) (call-words c fits)

pub text-short : (c : Call) → IsInForm c → HasFields c → length (call_text c) ≤ 255
text-short c form fits = elim (cases_lt 255 (length (call_text c))) [
  | inl long ↦ let none = call_of-long (call_text c) long ∙ call_of-text c form fits in absurd (cc)
  | inr short ↦ short
]

-- the lines of calls are read back up to the first that ends the trace
pub trace-read : (calls : List Call) → AllByRecursion IsWritable calls → reading (trace_text calls) ≡ through_last (map Some calls)
trace-read [] are = reading-nil
trace-read (c ∷ calls) are =
    let line = call_text c in
    let is = call_of-text c are.0.0 are.0.1 in
    ap reading (append_assoc line (10 ∷ []) (trace_text calls))
    ∙ reading-line line (trace_text calls) (text-misses c are.0.1)
    ∙ ap (λ item. item ∷ cond (is_last item) [] (reading (trace_text calls))) is
    ∙ ap (λ rest. Some c ∷ cond (is_last (Some c)) [] rest) (trace-read calls are.1)
