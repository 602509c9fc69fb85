use Rattle.session_words.proofs.RunStopLemmas as laws
use Rattle.session_words.proofs.laws.stops_reveal_settled.Goals as goal

pub returns : goal.returns
returns c = laws.run_stops
