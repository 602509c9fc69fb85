use Rattle.std.proofs.Common.{◌≡◌, ◌+◌, drop}
use Rattle.flat_machine.specs.Next.{store_bytes}
use Rattle.slow_machine.proofs.files.write_bytes.Given as goal

abbrev pub invariant-loop-byte : goal.invariant-loop-byte
invariant-loop-byte g l = record {
  next_address : l.at ≡ l.address + l.byte-index;
  rest : store_bytes l.spaces l.at (drop l.byte-index l.bytes) l.files ≡ store_bytes l.spaces l.address l.bytes l.initial.files;
}
