-- What is counted of replies.
use Rattle.std.specs.Prelude.{◌≡◌, ◌%◌, ◌^◌, List, filter, length, sum_by}
use Rattle.flat_machine.specs.declared.call.Reply.{Reply}
use Rattle.pilot_top.specs.declared.counting.Counts.{Counts}
use Rattle.pilot_top.specs.Trial.{bytes_given, is_refused}

-- the counts of these replies
pub record AreOf (counts : Counts) (replies : List Reply) : Type 0 where
  pub errors : counts.errors ≡ length (filter is_refused replies)
  pub loaded : counts.loaded ≡ length (bytes_given replies)
  pub sum : counts.sum ≡ sum_by (λ b. b) (bytes_given replies) % 2 ^ 32
