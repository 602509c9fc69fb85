-- Lines that were answered, one after the other.
use Rattle.std.proofs.Common.{◌≡◌, ◌⊎◌, inl, inr, ℕ, zero, suc, ◌+◌, Bool, true, false, List, [], ◌∷◌, ◌++◌, length, Some, None, refl, sym, ◌∙◌, ap, subst, arith, length-append}
use Rattle.std.specs.Prelude.{fold, slice_get}
use Rattle.std.proofs.lemmas.Option.{none-some, same_Some}
use Rattle.std.proofs.lemmas.List.Folds.{list_any-append}
use Rattle.pair_machine.specs.Pair.{Pair}
use Rattle.pair_machine.specs.Transcripts.{AllowsAllBy}
use Rattle.pair_machine.specs.declared.call.PairCall.TheVariants as call
use Rattle.pair_machine.specs.declared.call.PairReply.{PairReply}
use Rattle.pair_machine.specs.declared.call.PairReply.TheVariants as reply
use Rattle.label_calls.specs.OwnLaws.{place_in}
use Rattle.trace_io.specs.PairGrammar.{Ask, Close, is_last_pair_item}
use Rattle.trace_io.specs.PairText.{pair_text}
use Rattle.pair_session.specs.Ended.{closes}
use Rattle.pair_session.specs.Lines.{AllowsLine, Answers, AnswersAreTranscripts, AnswersSuit, AreTo, Item, Suits, after_lines, next_line}
use Rattle.pair_session.specs.Second.{IsCopied}

-- one line more
pub after_more : (p : Pair) (items : List Item) (item : Item) → after_lines p (items ++ item ∷ []) ≡ next_line (after_lines p items) item
after_more p [] item = refl
after_more p (x ∷ items) item = after_more (next_line p x) items item

allowed_more : (p : Pair) (items : List Item) (replies : List PairReply) (item : Item) (r : PairReply) → length replies ≡ length items → AllowsAllBy next_line AllowsLine pair_text p items replies
    → AllowsLine (after_lines p items) item r → AllowsAllBy next_line AllowsLine pair_text p (items ++ item ∷ []) (replies ++ r ∷ [])
allowed_more p [] [] item r long each one = (one, tt)
allowed_more p [] (s ∷ replies) item r long each one = absurd each
allowed_more p (x ∷ items) [] item r long each one = absurd (omega (arith, long))
allowed_more p (x ∷ items) (s ∷ replies) item r long each one = (each.0, allowed_more (next_line p x) items replies item r (omega (arith, long)) each.1 one)

pub answers_none : (p : Pair) → Answers p [] []
answers_none p = record { one_a_line = refl; allowed = tt }

pub answers_more : (p : Pair) (items : List Item) (replies : List PairReply) (item : Item) (r : PairReply) → Answers p items replies → AllowsLine (after_lines p items) item r → Answers p (items ++ item ∷ []) (replies ++ r ∷ [])
answers_more p items replies item r are one = record {
  one_a_line = omega (arith, are.one_a_line, length-append items (item ∷ []), length-append replies (r ∷ []));
  allowed = allowed_more p items replies item r are.one_a_line are.allowed one;
}

pub to_more : (items : List Item) (replies : List PairReply) (item : Item) (r : PairReply) → AreTo items replies → Suits item r → AreTo (items ++ item ∷ []) (replies ++ r ∷ [])
to_more [] [] item r each is = (is, tt)
to_more [] (s ∷ replies) item r each is = absurd each
to_more (x ∷ items) [] item r each is = absurd each
to_more (x ∷ items) (s ∷ replies) item r each is = (each.0, to_more items replies item r each.1 is)

-- a line that does not end the text is added to such lines
pub closes_more : (items : List Item) (item : Item) → closes items ≡ false → is_last_pair_item item ≡ false → closes (items ++ item ∷ []) ≡ false
closes_more items item none last = let here : closes (item ∷ []) ≡ false = rw last refl in list_any-append is_last_pair_item items (item ∷ []) ∙ rw (none, here) refl

-- and one that does
pub closes_last : (items : List Item) → closes items ≡ false → closes (items ++ Some Close ∷ []) ≡ true
closes_last items none = list_any-append is_last_pair_item items (Some Close ∷ []) ∙ rw none refl

-- a copy that was answered among these lines and one more
pub copied_more : (items : List Item) (replies : List PairReply) (item : Item) (r : PairReply) → length replies ≡ length items → (j : ℕ) → IsCopied (items ++ item ∷ []) (replies ++ r ∷ []) j
    → IsCopied items replies j ⊎ ((j ≡ length items) × (id : ℕ) × (item ≡ Some (Ask (call.Copy id))) × (r ≡ reply.Done))
copied_more items replies item r long j (id, at, answered) = elim (place_in items (item ∷ []) j (Some (Ask (call.Copy id))) at) [
  | inl (below, here) ↦ elim (place_in replies (r ∷ []) j reply.Done answered) [
    | inl (few, there) ↦ inl (id, here, there)
    | inr (i, past, there) ↦ absurd (omega (arith, below, past, long))
  ]
  | inr (i, past, here) ↦
      let one = alone item i (Some (Ask (call.Copy id))) here in
      elim (place_in replies (r ∷ []) j reply.Done answered) [
        | inl (few, there) ↦ absurd (omega (arith, few, past, long))
        | inr (k, more, there) ↦ let first = one.0 in inr (omega (arith, past, first), id, one.1, (alone r k reply.Done there).1)
      ]
]
  where
    alone : {X : Type 0} (x : X) (i : ℕ) (y : X) → slice_get (x ∷ []) i ≡ Some y → (i ≡ 0) × (x ≡ y)
    alone x zero y is = (refl, same_Some x y is)
    alone x (suc i) y is = absurd (none-some y is)

-- the line that ends the text copies nothing
pub copied_close : (items : List Item) (replies : List PairReply) → length replies ≡ length items → (j : ℕ) → IsCopied (items ++ Some Close ∷ []) (replies ++ reply.Done ∷ []) j → IsCopied items replies j
copied_close items replies long j copied = elim (copied_more items replies (Some Close) reply.Done long j copied) [ inl was ↦ was | inr (last, id, line, done) ↦ absurd (cc line) ]

-- ---- The laws.

suits : (p : Pair) (item : Item) (r : PairReply) → AllowsLine p item r → Suits item r
suits p (Some (Ask c)) r is = tt
suits p (Some Close) r is = is
suits p None r is = is

suit_all : (p : Pair) (items : List Item) (replies : List PairReply) → length replies ≡ length items → AllowsAllBy next_line AllowsLine pair_text p items replies → AreTo items replies
suit_all p [] [] long is = tt
suit_all p [] (r ∷ replies) long is = absurd is
suit_all p (item ∷ items) [] long is = absurd (omega (arith, long))
suit_all p (item ∷ items) (r ∷ replies) long is = (suits p item r is.0, suit_all (next_line p item) items replies (omega (arith, long)) is.1)

pub answers_suit : AnswersSuit
answers_suit p items replies are = suit_all p items replies are.one_a_line are.allowed

pub answers_are_transcripts : AnswersAreTranscripts
answers_are_transcripts p items replies are = record { replies = replies; one_a_line = are.one_a_line; allowed = are.allowed; text_is = refl }
