use Rattle.std.proofs.Common.{◌≡◌, ◌≤◌, ◌-◌, ◌∙◌, ◌++◌, length, take, drop, ap, refl, arith}
use Rattle.std.proofs.lemmas.List.{length-take-le, length-take, take-take, take-append-le, take_all}
use Rattle.trace_io.proofs.Pieces.{hands_over}
use Rattle.trace_io.proofs.adapters.ReaderSourceSource.take_before.Goals as goal

pub returns-clause-bytes : goal.returns-clause-bytes
returns-clause-bytes g c =
    let s = c.args.self.now in
    let n = c.copy_before-count.result in
    let hand = take (s.end - s.at) (drop s.at s.buffer) in
    let most : n ≤ c.min-most.result = omega (arith, c.copy_before-count.ensures.within, length-take c.min-most.result hand) in
    let within : n ≤ length hand = omega (arith, c.copy_before-count.ensures.within, length-take c.min-most.result hand) in
    let room : c.copy_before-count.new.room ≡ take n hand ++ drop n c.args.room.now = c.copy_before-count.ensures.room ∙ ap (λ f. f ++ drop n c.args.room.now) (take-take n c.min-most.result hand most) in
    rw room (hands_over s.buffer c.args.room.now (take n hand) s.at s.end n refl within s.in_order (g.R.Read.remaining s.reader))

pub returns-clause-misses : goal.returns-clause-misses
returns-clause-misses g c =
    let s = c.args.self.now in
    let n = c.copy_before-count.result in
    let hand = take (s.end - s.at) (drop s.at s.buffer) in
    let prefix = take n (take c.min-most.result hand) in
    let long : length prefix ≡ n = length-take-le n (take c.min-most.result hand) c.copy_before-count.ensures.within in
    let same : take n c.copy_before-count.new.room ≡ prefix = ap (take n) c.copy_before-count.ensures.room ∙ take-append-le n prefix (drop n c.args.room.now) (omega (arith, long)) ∙ take_all n prefix (omega (arith, long)) in
    rw same c.copy_before-count.ensures.misses
