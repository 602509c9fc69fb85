use Rattle.std.proofs.Common.{map, string_bytes}
use Rattle.command_words.proofs.MeaningLemmas.{one_meaning, plain_means}
use Rattle.command_words.proofs.laws.plain_is_meant.Goals as goal

pub returns-clause-plain : goal.returns-clause-plain
returns-clause-plain c words command plain = plain_means (map string_bytes words) command plain

pub returns-clause-one : goal.returns-clause-one
returns-clause-one c words first second meant also = one_meaning (map string_bytes words) first second meant also
