use Rattle.std.proofs.Common.{false}
use Rattle.scavenger.proofs.ScavengeLemmas.{restores}
use Rattle.scavenger.proofs.laws.scavenging_restores.Goals as goal

pub returns : goal.returns
returns c = λ g o are has is_for. restores (record {
  freed_crash_states = c.unneeded_are_freed.ensures.crash_states false;
  freed_right = c.unneeded_are_freed.ensures.right false;
  relabelled = c.map_labels.ensures.written false;
  by_room = c.sound_when_closed.ensures.by_room;
  files = c.sector_states_reveal.ensures.files;
}) (record {
  windows = c.cuts_are_parts_of_writes.ensures.windows;
  kept = c.restored_keep_files_in_cuts.ensures false;
  flags = c.root_in_cuts.ensures.laws;
  whole = c.root_in_cuts.ensures.written;
}) g o has is_for
