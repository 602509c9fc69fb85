use Rattle.std.proofs.Common.{map, string_bytes}
use Rattle.command_words.proofs.MeaningLemmas.{meant_in_range}
use Rattle.command_words.proofs.laws.what_is_meant_is_in_range.Goals as goal

pub returns : goal.returns
returns c words command meant = meant_in_range (map string_bytes words) command meant
