use Rattle.std.proofs.Common.{◌≡◌, length}
use Rattle.flat_machine.specs.Allows.{plain_bytes}
use Rattle.slow_machine.proofs.SlowMachine.bytes_at.Given as goal

abbrev pub invariant-loop-k : goal.invariant-loop-k
invariant-loop-k g l = record { so_far : l.bytes ≡ plain_bytes l.self l.address l.k; counted : length l.bytes ≡ l.k }
