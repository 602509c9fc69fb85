-- The general form of transcripts.
use Rattle.std.proofs.Common.{List, [], ◌∷◌}
use Rattle.flat_machine.specs.Machine.{Machine}
use Rattle.flat_machine.specs.After.{TraceLine, next_line, AllowsLine, AllowsAll}
use Rattle.flat_machine.specs.Text.{text}
use Rattle.flat_machine.specs.declared.call.Reply.{Reply}
use Rattle.pair_machine.specs.Laws.{AllowedAreAllowed, TranscriptsAreTranscripts}
use Rattle.pair_machine.specs.Transcripts.{AllowsAllBy}

there : (m : Machine) (lines : List TraceLine) (replies : List Reply) → AllowsAllBy next_line AllowsLine text m lines replies → AllowsAll m lines replies
there m lines [] h = tt
there m [] (r ∷ rs) h = absurd h
there m (line ∷ lines) (r ∷ rs) h = (h.0, there (next_line m line) lines rs h.1)

back : (m : Machine) (lines : List TraceLine) (replies : List Reply) → AllowsAll m lines replies → AllowsAllBy next_line AllowsLine text m lines replies
back m lines [] h = tt
back m [] (r ∷ rs) h = absurd h
back m (line ∷ lines) (r ∷ rs) h = (h.0, back (next_line m line) lines rs h.1)

pub allowed : AllowedAreAllowed
allowed m lines replies = (there m lines replies, back m lines replies)

pub same : TranscriptsAreTranscripts
same m lines k bytes = (
  λ t. record { replies = t.replies; one_a_line = t.one_a_line; allowed = back m lines t.replies t.allowed; text_is = t.text_is },
  λ t. record { replies = t.replies; one_a_line = t.one_a_line; allowed = there m lines t.replies t.allowed; text_is = t.text_is },
)
