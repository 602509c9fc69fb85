-- What is written for a client is one line.
use Rattle.std.proofs.Common.{◌≡◌, ℕ, ◌^◌, ◌<◌, true, nat_lt, List, [], ◌∷◌, ◌++◌, length, get_or, refl, sym, ap, ◌∙◌, append_assoc, arith}
use Rattle.std.specs.Prelude.{codes}
use Rattle.std.specs.Fmt.{decimal}
use Rattle.std.specs.Int.{IsInRange}
use Rattle.std.specs.List.{list_all}
use Rattle.std.proofs.lemmas.List.{get_or_default}
use Rattle.std.proofs.lemmas.List.Sums.{AllPass-from_list_all}
use Rattle.std.proofs.lemmas.Fmt.{digits_decimal}
use Rattle.std.proofs.lemmas.Str.Parse.{numerals_by_value, tells_by_index}
use Rattle.flat_machine.specs.Laws.{IsOneLine, RepliesAreLines}
use Rattle.flat_machine.specs.Text.{text, reply_text}
use Rattle.flat_machine.specs.declared.call.Reply.{Reply}
use Rattle.trace_io.specs.Stream.{Misses}
use Rattle.trace_io.specs.ClientText.{client_text, ClientLinesAreLines}
use Rattle.trace_io.specs.declared.client.ClientLine.TheVariants as line
use Rattle.trace_io.proofs.CallTextLemmas.{Misses-append}

-- a text without a line feed
pub is_line : (xs : List ℕ) → Misses 10 xs → IsOneLine (xs ++ 10 ∷ [])
is_line xs misses = record { line = xs; ends = refl; misses = λ k d l. rw (get_or_default xs k d 0 l) (misses k l) }

pub words_miss : (xs : List ℕ) → list_all (nat_lt 31) xs ≡ true → Misses 10 xs
words_miss xs all k l = let above : nat_lt 31 (get_or xs k 0) ≡ true = AllPass-from_list_all (nat_lt 31) xs all k 0 l in grind arith

decimal_digits : (n : ℕ) → n < 2 ^ 64 → (i : ℕ) → i < length (decimal n) → IsInRange 48 57 (get_or (decimal n) i 0)
decimal_digits n small = digits_decimal (numerals_by_value _ tells_by_index) n small

pub decimal_misses : (n : ℕ) → n < 2 ^ 64 → Misses 10 (decimal n)
decimal_misses n small k l = let digit = decimal_digits n small k l in grind arith

-- a client, and words after it
client_misses : (client : ℕ) (words : List ℕ) → client < 2 ^ 8 → list_all (nat_lt 31) words ≡ true → Misses 10 (decimal client ++ words)
client_misses client words small all = Misses-append 10 (decimal client) words (decimal_misses client (omega arith)) (words_miss words all)

reply_is_line : (client : ℕ) (reply : Reply) → client < 2 ^ 8 → IsOneLine (text reply) → IsOneLine ((decimal client ++ codes " " ++ reply_text reply) ++ 10 ∷ [])
unfolding text
reply_is_line client reply small one =
    let start : List ℕ = decimal client ++ codes " " in
    let missing : Misses 10 (start ++ one.line) = Misses-append 10 start one.line (client_misses client (codes " ") small refl) (λ k l. one.misses k 0 l) in
    record {
      line = start ++ one.line;
      ends = append_assoc start (reply_text reply) (10 ∷ []) ∙ ap (λ (r : List ℕ). start ++ r) one.ends ∙ sym (append_assoc start one.line (10 ∷ []));
      misses = λ k d l. rw (get_or_default (start ++ one.line) k d 0 l) (missing k l);
    }

pub client_lines_are : RepliesAreLines → ClientLinesAreLines
unfolding client_text
client_lines_are replies (line.Reply client reply) small = reply_is_line client reply small (replies reply)
client_lines_are replies (line.Busy client) small = is_line _ (client_misses client (codes " busy") small refl)
client_lines_are replies (line.Waits client flight) small =
    is_line _ (Misses-append 10 (decimal client ++ codes " waits ") (decimal flight) (client_misses client (codes " waits ") small.0 refl) (decimal_misses flight small.1))
client_lines_are replies (line.Dropped client) small = is_line _ (client_misses client (codes " dropped") small refl)
client_lines_are replies line.NoFlight small = is_line (codes "error flight") (words_miss (codes "error flight") refl)
