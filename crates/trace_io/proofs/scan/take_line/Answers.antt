use Rattle.std.proofs.Common.{rules, ◌≡◌, ℕ, List, [], ◌∷◌, ◌++◌, length, arith, ◌+◌}
use Rattle.std.proofs.KnownBytes.{Consumes-trans}
use Rattle.std.proofs.lemmas.List.{length_push}
use Rattle.trace_io.specs.Scan.{Keeps255}
use Rattle.trace_io.proofs.Scanning.{Misses-push, Keeps255-push, Keeps255-past}
use Rattle.trace_io.proofs.scan.take_line.Goals as goal
use Rattle.trace_io.proofs.scan.take_line.Goals.{then-size, else-size}

pub loop-size-init : goal.loop-size-init
loop-size-init g c =
    let prefix = c.take_prefix-prefix.ensures.prefix in
    record {
      part = (prefix.line, prefix.misses, prefix.long, prefix.keeps, prefix.took);
      room = search rules;
      faults = omega (arith, c.take_prefix-prefix.ensures.faults);
    }

pub loop-size-preserved : goal.loop-size-preserved
loop-size-preserved g c =
    let left = g.S.Source.left in
    let before = c.loop-size.invariant.part in
    let line : List ℕ = before.0 in
    let x = c.in-Some.byte in
    let got = rw c.in-Some.is at c.in-Ok.ensures.byte in
    let took = Consumes-trans (left c.args.source.now) (left c.loop-size.source) (left c.next.new.self) line (x ∷ []) before.4 got in
    let size : length line ≡ c.loop-size.size = before.2 in
    let longer : length (line ++ x ∷ []) ≡ c.loop-size.size + 1 = omega (arith, length_push line x) in
    let keeps : Keeps255 c.if-size.buffer (line ++ x ∷ []) = elim c.if-size.branch [
      | then-size w ↦ rw w.buffer-is (Keeps255-push c.loop-size.buffer line c.loop-size.size x c.loop-size.invariant.room size w.if-size.true before.3)
      | else-size w ↦ rw w.buffer-is (Keeps255-past c.loop-size.buffer line x (omega arith) before.3)
    ] in
    record {
      part = (line ++ x ∷ [], Misses-push 10 line x before.1 c.if-byte-eq10.false, longer, keeps, took);
      room = c.if-size.array_long;
      faults = omega (arith, c.loop-size.invariant.faults, c.in-Ok.ensures.cause.later);
    }
