-- What is proved of pairs and of their replies.
use Rattle.std.specs.Prelude.{◌≡◌, ◌↔◌, ℕ, List, Some}
use Rattle.std.specs.List.{AllByRecursion, AllZip}
use Rattle.labelled_disk.specs.File.{File}
use Rattle.flat_machine.specs.Machine.{Machine}
use Rattle.flat_machine.specs.After.{TraceLine, next_line, AllowsLine, AllowsAll, Transcript}
use Rattle.flat_machine.specs.Settled.{Agrees}
use Rattle.flat_machine.specs.Text.{text}
use Rattle.flat_machine.specs.declared.call.Reply.{Reply}
use Rattle.pair_machine.specs.declared.call.PairCall.{PairCall}
use Rattle.pair_machine.specs.declared.call.PairRefusal.{PairRefusal}
use Rattle.pair_machine.specs.declared.call.PairReply.{PairReply}
use Rattle.pair_machine.specs.Exact.{HasBytes}
use Rattle.pair_machine.specs.Pair.{Pair, AllowsPair, IsPair, next_pair, pair_refusal}
use Rattle.pair_machine.specs.Transcripts.{AllowsAllBy, TranscriptBy}

-- What holds of every pair holds after a call, a refused call changes nothing, and each call has an allowed reply.
pub record PairsStay : Type 0 where
  pub stays : (p : Pair) (c : PairCall) → IsPair p → IsPair (next_pair p c)
  pub refused : (p : Pair) (c : PairCall) (why : PairRefusal) → pair_refusal p c ≡ Some why → next_pair p c ≡ p
  pub some : (p : Pair) (c : PairCall) → (r : PairReply) × AllowsPair p c r

-- replies that are allowed one by one are so by the general form, and the other way round
abbrev pub AllowedAreAllowed : Type 0
AllowedAreAllowed = (m : Machine) (lines : List TraceLine) (replies : List Reply)
    → AllowsAllBy next_line AllowsLine text m lines replies ↔ AllowsAll m lines replies

abbrev pub TranscriptsAreTranscripts : Type 0
TranscriptsAreTranscripts = (m : Machine) (lines : List TraceLine) (k : ℕ) (bytes : List ℕ)
    → Transcript m lines k bytes ↔ TranscriptBy next_line AllowsLine text m lines k bytes

-- files of a disk that agree with files of bytes alone, with the same marks, are those files
abbrev pub AgreeingAreSame : Type 0
AgreeingAreSame = (fs gs : List File) → Agrees fs gs → AllByRecursion HasBytes gs
    → AllZip (λ f g. f.permanent ≡ g.permanent) fs gs → fs ≡ gs
