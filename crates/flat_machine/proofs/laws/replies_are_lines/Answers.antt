use Rattle.flat_machine.proofs.LineLemmas as lemmas
use Rattle.flat_machine.proofs.laws.replies_are_lines.Goals as goal

pub returns : goal.returns
returns c = record { lines = lemmas.replies_are_lines; count = lemmas.transcripts_count }
