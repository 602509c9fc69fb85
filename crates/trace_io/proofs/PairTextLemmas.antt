-- Each reply of a pair is one line.
use Rattle.std.proofs.Common.{ℕ, ◌^◌, ◌<◌, ◌++◌, refl, arith}
use Rattle.std.specs.Prelude.{codes}
use Rattle.std.specs.Fmt.{decimal}
use Rattle.pair_machine.specs.declared.call.PairRefusal.{PairRefusal}
use Rattle.pair_machine.specs.declared.call.PairRefusal.TheVariants as why
use Rattle.pair_machine.specs.declared.call.PairReply.TheVariants as reply
use Rattle.flat_machine.specs.Laws.{IsOneLine}
use Rattle.trace_io.specs.PairText.{pair_text, pair_reply_text, pair_refusal_text, PairRepliesAreLines}
use Rattle.trace_io.proofs.CallTextLemmas.{Misses-append}
use Rattle.trace_io.proofs.ClientTextLemmas.{is_line, words_miss, decimal_misses}

refused_is_line : (w : PairRefusal) → IsOneLine (pair_text (reply.Refused w))
unfolding pair_reply_text
refused_is_line why.Syntax = is_line (codes "error syntax") (words_miss (codes "error syntax") refl)
refused_is_line why.File = is_line (codes "error file") (words_miss (codes "error file") refl)
refused_is_line why.Mutable = is_line (codes "error mutable") (words_miss (codes "error mutable") refl)
refused_is_line why.Exists = is_line (codes "error exists") (words_miss (codes "error exists") refl)
refused_is_line why.Serial = is_line (codes "error serial") (words_miss (codes "error serial") refl)
refused_is_line why.Full = is_line (codes "error full") (words_miss (codes "error full") refl)

pub pair_replies_are : PairRepliesAreLines
unfolding pair_reply_text
pair_replies_are reply.Done small = is_line (codes "ok") (words_miss (codes "ok") refl)
pair_replies_are reply.Same small = is_line (codes "same") (words_miss (codes "same") refl)
pair_replies_are (reply.Differs page) small =
    is_line (codes "differs " ++ decimal page) (Misses-append 10 (codes "differs ") (decimal page) (words_miss (codes "differs ") refl) (decimal_misses page (omega arith)))
pair_replies_are (reply.Refused w) small = refused_is_line w
