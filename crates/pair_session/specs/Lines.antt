-- Lines for a pair of volumes, and the replies that a pair allows to them.
use Rattle.std.specs.Prelude.{◌≡◌, List, fold, length, flat_map, Option, Some, None}
use Rattle.std.specs.List.{AllZip}
use Rattle.pair_machine.specs.Pair.{AllowsPair, Pair, next_pair}
use Rattle.pair_machine.specs.Transcripts.{AllowsAllBy, TranscriptBy}
use Rattle.pair_machine.specs.declared.call.PairRefusal.TheVariants as why
use Rattle.pair_machine.specs.declared.call.PairReply.{PairReply}
use Rattle.pair_machine.specs.declared.call.PairReply.TheVariants as reply
use Rattle.trace_io.specs.PairGrammar.{PairItem, Ask, Close}
use Rattle.trace_io.specs.PairText.{pair_text}

-- a line says a call, or that the text ends, or nothing where it is bad
abbrev pub Item : Type 0
Item = Option PairItem

-- The pair after a line: one that is bad, or that ends the text, changes nothing.
abbrev pub next_line : Pair → Item → Pair
next_line p (Some (Ask c)) = next_pair p c
next_line p (Some Close) = p
next_line p None = p

-- The pair allows this reply: a bad line is refused, and one that ends the text is done.
abbrev pub AllowsLine : Pair → Item → PairReply → Type 0
AllowsLine p (Some (Ask c)) r = AllowsPair p c r
AllowsLine p (Some Close) r = r ≡ reply.Done
AllowsLine p None r = r ≡ reply.Refused why.Syntax

-- the pair after all of these lines
abbrev pub after_lines : Pair → List Item → Pair
after_lines p items = fold next_line p items

-- a reply to each of these lines, which the pair allows where it stands
pub record Answers (p : Pair) (items : List Item) (replies : List PairReply) : Type 0 where
  pub one_a_line : length replies ≡ length items
  pub allowed : AllowsAllBy next_line AllowsLine pair_text p items replies

-- their texts in a row are a transcript
abbrev pub AnswersAreTranscripts : Type 0
AnswersAreTranscripts = (p : Pair) (items : List Item) (replies : List PairReply) → Answers p items replies
    → TranscriptBy next_line AllowsLine pair_text p items (length items) (flat_map pair_text replies)

-- Whatever is stood for, the reply may be one to such a line.
abbrev pub Suits : Item → PairReply → Type 0
Suits (Some (Ask c)) r = Unit {0}
Suits (Some Close) r = r ≡ reply.Done
Suits None r = r ≡ reply.Refused why.Syntax

-- one reply to each of these lines
abbrev pub AreTo : List Item → List PairReply → Type 0
AreTo items replies = AllZip Suits items replies

-- replies that a pair allows may be those to the lines
abbrev pub AnswersSuit : Type 0
AnswersSuit = (p : Pair) (items : List Item) (replies : List PairReply) → Answers p items replies → AreTo items replies
