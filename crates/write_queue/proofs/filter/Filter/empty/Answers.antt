use Rattle.std.proofs.Common.{ℕ, ◌%◌, ◌<◌, false, arith}
use Rattle.std.proofs.lemmas.List.{get_or-replicate}
use Rattle.write_queue.proofs.filter.Filter.empty.Goals as goal

pub returns : goal.returns
returns c sector = get_or-replicate 512 (sector % 512) false false (omega arith)
