use Rattle.std.proofs.Common.{◌∙◌, ℕ, ◌+◌, ◌/◌, ◌%◌, ◌≤◌, sym, ap, subst}
use Rattle.flat_mem.specs.Memory.{part}
use Rattle.frame_pool.specs.FrameLaws.{filled_of, has_below}
use Rattle.filer_kernel.specs.View.{accepted, placed, view_of}
use Rattle.fault_core.specs.Unit.{file_page}
use Rattle.fault_core.proofs.FrameLemmas.{frame_bytes}
use Rattle.fault_core.proofs.PieceLemmas.{loads_first, one_loaded}
use Rattle.fault_core.proofs.ReadyLemmas.{hand_seen}
use Rattle.fault_core.proofs.ready.load_at_hand.Goals as goal

pub copy_out-requires-clause-below : goal.copy_out-requires-clause-below
copy_out-requires-clause-below g c =
    let has = c.in-Some.ensures.ready.has in
    rw c.slot_at_hand.ensures.same (has_below (view_of c.args.filer.now).slots c.in-Some.slot has.0 has.1)

pub copy_out-requires-clause-filled : goal.copy_out-requires-clause-filled
copy_out-requires-clause-filled g c =
    let has = c.in-Some.ensures.ready.has in
    rw c.slot_at_hand.ensures.same (filled_of (view_of c.args.filer.now).slots c.in-Some.slot has.0 has.1)

pub copy_out-requires-clause-inside : goal.copy_out-requires-clause-inside
copy_out-requires-clause-inside g c = c.in-Some.ensures.ready.inside

pub returns-clause-ready : goal.returns-clause-ready
returns-clause-ready g c = λ is. (c.in-Some.slot, c.in-Some.ensures.ready)

pub returns-clause-bytes : goal.returns-clause-bytes
returns-clause-bytes g c = λ n m named ss is r.
    let hand = c.in-Some.ensures.ready in
    let x = hand.interval in
    let p = c.args.address / 512 in
    let a = c.args.address in
    let now = c.args.filer.now in
    let into = c.copy_out.new.into in
    let seen = hand_seen hand r in
    let own = seen.stored p hand.shows.holds in
    let inside = subst (λ (k : ℕ). a % 512 + k ≤ 512) (sym c.copy_out.ensures.width) hand.inside in
    let copied = (rw c.slot_at_hand.ensures.same at c.copy_out.ensures.bytes) in
    let has = frame_bytes (accepted now) r.known (placed now) c.in-Some.slot hand.has.0 hand.has.1 x.id (file_page x p) hand.has.2 own.of_file (a % 512) into inside
    (copied hand.has.0 hand.has.1 ∙ ap (part hand.has.0.bytes (a % 512)) (sym c.copy_out.ensures.width)) in
    one_loaded ss named m a into inside (loads_first ss named m a x into seen hand.shows.holds has)
