use Rattle.session_words.proofs.LooseLemmas as loose
use Rattle.session_words.proofs.SettledLemmas as laws
use Rattle.session_words.proofs.laws.disk_reveals_settled.Goals as goal

pub returns : goal.returns
returns c spaces_of = record {
  revealed = laws.settled_is_revealed;
  differ = loose.loose_may_differ;
  written = loose.loose_written;
  stands = loose.stands_is_settled spaces_of;
  swaps = loose.swap_stands spaces_of;
  crash_states = loose.swap_crash_states spaces_of;
}
