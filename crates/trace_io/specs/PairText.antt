-- The lines of a pair's replies.
use Rattle.std.specs.Prelude.{◌<◌, ◌^◌, ℕ, List, [], ◌∷◌, ◌++◌, codes}
use Rattle.std.specs.Fmt.{decimal}
use Rattle.flat_machine.specs.Laws.{IsOneLine}
use Rattle.pair_machine.specs.declared.call.PairRefusal.{PairRefusal}
use Rattle.pair_machine.specs.declared.call.PairRefusal.TheVariants as why
use Rattle.pair_machine.specs.declared.call.PairReply.{PairReply}
use Rattle.pair_machine.specs.declared.call.PairReply.TheVariants as reply

-- why a call was refused
abbrev pub pair_refusal_text : PairRefusal → List ℕ
pair_refusal_text why.Syntax = codes "syntax"
pair_refusal_text why.File = codes "file"
pair_refusal_text why.Mutable = codes "mutable"
pair_refusal_text why.Exists = codes "exists"
pair_refusal_text why.Serial = codes "serial"
pair_refusal_text why.Full = codes "full"

-- the words of a reply
unfoldable pub pair_reply_text : PairReply → List ℕ
pair_reply_text reply.Done = codes "ok"
pair_reply_text reply.Same = codes "same"
pair_reply_text (reply.Differs page) = codes "differs " ++ decimal page
pair_reply_text (reply.Refused w) = codes "error " ++ pair_refusal_text w

-- the line of a reply
abbrev pub pair_text : PairReply → List ℕ
pair_text r = pair_reply_text r ++ 10 ∷ []

-- the page of a reply is a number of 32 bits
abbrev pub HasPage : PairReply → Type 0
HasPage (reply.Differs page) = page < 2 ^ 32
HasPage other = Unit {0}

-- each reply is one line
abbrev pub PairRepliesAreLines : Type 0
PairRepliesAreLines = (r : PairReply) → HasPage r → IsOneLine (pair_text r)
