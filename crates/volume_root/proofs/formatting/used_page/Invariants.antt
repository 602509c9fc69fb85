use Rattle.std.proofs.Common.{◌≡◌, ◌*◌, replicate}
use Rattle.volume_root.specs.Format.{used_byte}
use Rattle.volume_root.proofs.Filling.{filled}
use Rattle.volume_root.proofs.formatting.used_page.Given as goal

abbrev pub invariant-loop-at : goal.invariant-loop-at
invariant-loop-at l = l.bytes ≡ filled (used_byte l.used) (512 * l.page) (replicate 512 0) l.at
