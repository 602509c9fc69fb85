-- How lines for a pair end.
use Rattle.std.proofs.Common.{◌≡◌, ◌⊎◌, inl, inr, ℕ, ◌^◌, false, List, [], ◌∷◌, ◌++◌, length, Option, Some, None, refl, sym, ap, ◌∙◌, subst, append_assoc, append-nil}
use Rattle.std.specs.Prelude.{flat_map}
use Rattle.std.specs.Io.KnownBytes.{Appends}
use Rattle.std.proofs.KnownBytes.{Appends-trans}
use Rattle.pair_machine.specs.declared.call.PairReply.{PairReply}
use Rattle.trace_io.specs.Items.{FitsIn}
use Rattle.trace_io.specs.PairGrammar.{Close, pair_item_of, is_last_pair_item}
use Rattle.trace_io.specs.PairLines.{TakesPairLine}
use Rattle.trace_io.specs.PairReading.{pair_reading, whole_pair_reading}
use Rattle.trace_io.specs.PairText.{pair_text}
use Rattle.trace_io.specs.Progress.{Progress}
use Rattle.trace_io.specs.Stream.{IsPrefixOf}
use Rattle.trace_io.specs.Taken.{TakesPart}
use Rattle.trace_io.specs.declared.progress.Stop.{Stop}
use Rattle.trace_io.proofs.ItemCourseLemmas.{HasItems-last, HasItems-end, HasItems-part, HasItems-long}
use Rattle.volume_pair.specs.declared.fault.PairHalt.{PairHalt}
use Rattle.pair_session.specs.Causes.{IsShortText}
use Rattle.pair_session.specs.Ended.{TakesWhole}
use Rattle.pair_session.specs.Ending.{AreBegun, EndsAt, TookTexts, outcome_of}
use Rattle.pair_session.specs.Lines.{Item}
use Rattle.pair_session.specs.Turn.{EndsSo}
use Rattle.pair_session.specs.declared.ending.Ending.{Ending}
use Rattle.pair_session.specs.declared.ending.Ending.TheVariants as ending
use Rattle.pair_session.specs.declared.outcome.Outcome.TheVariants as outcome
use Rattle.pair_session.proofs.GoingLemmas.{Going, revealed_bytes, revealed_end, read_prefix, has_taken, to_last}

-- the lines that were begun, by how they ended
module _ (halted : PairHalt → Item → Type 0) (b c : Option (List ℕ)) (p q : Progress) where
  abbrev pub begun_lines : (how : Ending) → EndsSo how b c p q halted → List Item → List Item
  begun_lines (ending.Halted why) is items = items ++ is.1 ∷ []
  begun_lines ending.Close is items = items
  begun_lines ending.End is items = items
  begun_lines ending.Long is items = items
  begun_lines ending.ReadFault is items = items
  begun_lines ending.SinkFault is items = items

  pub are_begun : (how : Ending) (is : EndsSo how b c p q halted) (items : List Item) → AreBegun how items (begun_lines how is items)
  are_begun (ending.Halted why) is items = (is.1, refl)
  are_begun ending.Close is items = refl
  are_begun ending.End is items = refl
  are_begun ending.Long is items = refl
  are_begun ending.ReadFault is items = refl
  are_begun ending.SinkFault is items = refl

-- they are the first of the text's
pub first_lines : (how : Ending) (b : List ℕ) (left : Option (List ℕ)) (t : List ℕ) (took : Option (List ℕ)) (items : List Item) (replies : List PairReply) (lines : List Item) → AreBegun how items lines → EndsAt how b left t took items replies lines
    → (more : List Item) × (pair_reading b ≡ lines ++ more)
first_lines ending.Close b left t took items replies lines begun e = (Some Close ∷ [], e.0 ∙ ap (λ (xs : List Item). xs ++ Some Close ∷ []) (sym begun))
first_lines ending.End b left t took items replies lines begun e = ([], e.0 ∙ sym begun ∙ sym (append-nil lines))
first_lines ending.Long b left t took items replies lines begun e = let taken = e.0.0.0 in (taken.more, taken.first ∙ ap (λ (xs : List Item). xs ++ taken.more) (sym begun))
first_lines ending.ReadFault b left t took items replies lines begun e = let taken = e.0.0 in (taken.more, taken.first ∙ ap (λ (xs : List Item). xs ++ taken.more) (sym begun))
first_lines ending.SinkFault b left t took items replies lines begun e = let taken = e.0.0 in (taken.more, taken.first ∙ ap (λ (xs : List Item). xs ++ taken.more) (sym begun))
first_lines (ending.Halted why) b left t took items replies lines begun e = let taken = e.0.0 in (taken.more, taken.first)

module _ {x t : List ℕ} {b u : Option (List ℕ)} {p : Progress} {holds : List Item → List PairReply → Type 0} (going : Going (Some x) b (Some t) u p holds) where
  took_texts : TookTexts t u going.replies
  took_texts = revealed_bytes t u (flat_map pair_text going.replies) going.wrote

  -- part of a line was taken
  takes_whole : (c : Option (List ℕ)) (q : Progress) {why : Stop} → p.stopped ≡ None → TakesPart why b c p q → (takes : TakesWhole x c going.items) × (q.taken ≡ length takes.0.bytes)
  takes_whole c q {why = why} none takes =
      let whole = HasItems-part pair_item_of is_last_pair_item (Some x) b c p q why going.items going.read none takes in
      let prefix = read_prefix x b p going.items going.read in
      let taken = has_taken x c whole.bytes going.items prefix.0 whole.took prefix.1 in
      ((taken.0, ap whole_pair_reading taken.1 ∙ whole.items_are), whole.count ∙ ap length (sym taken.1))

  -- the lines ended so
  pub ends_at : (halted : PairHalt → Item → Type 0) (c : Option (List ℕ)) (q : Progress) → p.limit ≡ 2 ^ 32 → (how : Ending) (is : EndsSo how b c p q halted) → EndsAt how x c t u going.items going.replies (begun_lines halted b c p q how is going.items)
  ends_at halted c q limit ending.Close is =
      let all = HasItems-last pair_item_of is_last_pair_item (Some x) b c p q going.items (Some Close) going.read is.0 is.1 refl in
      (all.items_are, all.rest_is, to_last x b c p q going.items (Some Close) going.read is.0 is.1, took_texts)
  ends_at halted c q limit ending.End (inl is) =
      let all = HasItems-end pair_item_of is_last_pair_item (Some x) b c p going.items going.read is.0 is.1 is.2 is.3 in
      (all.items_are, all.rest_is, revealed_end x c all.bytes all.took is.2, took_texts)
  ends_at halted c q limit ending.End (inr is) =
      let all = rw is.0 at going.read.goes_on in
      (all.0.items_are, is.1 ∙ all.0.rest_is, is.1 ∙ revealed_end x b all.0.bytes all.0.took all.1, took_texts)
  ends_at halted c q limit ending.Long is =
      let whole = takes_whole c q is.0 is.1 in
      ((whole.0, sym whole.1 ∙ is.2 ∙ is.1.limit ∙ limit), took_texts)
  ends_at halted c q limit ending.ReadFault is = ((takes_whole c q is.0 is.1).0, took_texts)
  ends_at halted c q limit ending.SinkFault is = absurd is
  ends_at halted c q limit (ending.Halted why) is = (to_last x b c p q going.items is.1 going.read is.0 is.2, took_texts)

  -- the sink failed on the reply to one more
  pub cut_short : (c v : Option (List ℕ)) (q : Progress) (item : Item) (r : PairReply) → p.stopped ≡ None → TakesPairLine item b c p q → (prefix : List ℕ) → IsPrefixOf prefix (pair_text r) → Appends u v prefix → (lines : List Item)
      → EndsAt ending.SinkFault x c t v (going.items ++ item ∷ []) (going.replies ++ r ∷ []) lines
  cut_short c v q item r none takes prefix is_prefix wrote lines =
      let before = flat_map pair_text going.replies in (
        to_last x b c p q going.items item going.read none takes,
        record {
          replies = going.replies;
          last = r;
          are = refl;
          prefix = prefix;
          is_prefix = is_prefix;
          took_is = revealed_bytes t v (before ++ prefix) (Appends-trans (Some t) u v before prefix going.wrote wrote) ∙ ap Some (sym (append_assoc t before prefix));
        },
      )

fits : (x : List ℕ) (n : ℕ) → n ≡ 2 ^ 32 → FitsIn pair_item_of is_last_pair_item n x → IsShortText x
fits x n is short = subst (λ (k : ℕ). FitsIn pair_item_of is_last_pair_item k x) is short

-- Whether the text fits in the limit.
module _ {x : List ℕ} {b t u : Option (List ℕ)} {p : Progress} {holds : List Item → List PairReply → Type 0} (going : Going (Some x) b t u p holds) (halted : PairHalt → Item → Type 0) (c : Option (List ℕ)) (q : Progress) (limit : p.limit ≡ 2 ^ 32) where
  pub short : (how : Ending) → EndsSo how b c p q halted → outcome_of how ≡ outcome.Done → IsShortText x
  short ending.Close is which = fits x q.limit (is.1.limit ∙ limit) (HasItems-last pair_item_of is_last_pair_item (Some x) b c p q going.items (Some Close) going.read is.0 is.1 refl).short
  short ending.End (inl is) which = fits x p.limit limit (HasItems-end pair_item_of is_last_pair_item (Some x) b c p going.items going.read is.0 is.1 is.2 is.3).short
  short ending.End (inr is) which = let all = rw is.0 at going.read.goes_on in fits x p.limit limit all.0.short
  short ending.Long is same = absurd (cc same)
  short ending.ReadFault is same = absurd (cc same)
  short ending.SinkFault is same = absurd is
  short (ending.Halted why) is same = absurd (cc same)

  pub long : (how : Ending) → EndsSo how b c p q halted → outcome_of how ≡ outcome.Long → IsShortText x → ⊥
  long ending.Long is which is_short =
      HasItems-long pair_item_of is_last_pair_item x b c p q going.items going.read is.0 is.1 is.2 (subst (λ (n : ℕ). FitsIn pair_item_of is_last_pair_item n x) (sym (is.1.limit ∙ limit)) is_short)
  long ending.Close is same is_short = absurd (cc same)
  long ending.End is same is_short = absurd (cc same)
  long ending.ReadFault is same is_short = absurd (cc same)
  long ending.SinkFault is same is_short = absurd is
  long (ending.Halted why) is same is_short = absurd (cc same)

-- no turn ends by the sink
pub no_sink : (halted : PairHalt → Item → Type 0) (b c : Option (List ℕ)) (p q : Progress) (how : Ending) → EndsSo how b c p q halted → outcome_of how ≡ outcome.SinkFault → ⊥
no_sink halted b c p q ending.SinkFault is same = is
no_sink halted b c p q ending.Close is same = absurd (cc same)
no_sink halted b c p q ending.End is same = absurd (cc same)
no_sink halted b c p q ending.Long is same = absurd (cc same)
no_sink halted b c p q ending.ReadFault is same = absurd (cc same)
no_sink halted b c p q (ending.Halted why) is same = absurd (cc same)

-- a fault of the source alone is told as one
pub read_fault : (how : Ending) → outcome_of how ≡ outcome.ReadFault → how ≡ ending.ReadFault
read_fault ending.ReadFault same = refl
read_fault ending.Close same = absurd (cc same)
read_fault ending.End same = absurd (cc same)
read_fault ending.Long same = absurd (cc same)
read_fault ending.SinkFault same = absurd (cc same)
read_fault (ending.Halted why) same = absurd (cc same)
