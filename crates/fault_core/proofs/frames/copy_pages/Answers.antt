use Rattle.std.proofs.Common.{rules, ◌≡◌, ◌∙◌, ◌/◌, ◌%◌, ◌+◌, ◌-◌, ◌≤◌, length, sym, ap, arith}
use Rattle.flat_mem.specs.Memory.{part}
use Rattle.frame_pool.specs.FrameLaws.{filled_of, has_below}
use Rattle.fault_core.specs.Unit.{IsSlotOf}
use Rattle.fault_core.proofs.MovedLemmas.{read_first, read_next}
use Rattle.fault_core.proofs.PieceLemmas.{last_is_next, one_loaded, two_loaded}
use Rattle.fault_core.proofs.frames.copy_pages.Goals as goal
use Rattle.filer_kernel.specs.View.{accepted, placed, view_of}

-- ---- On one page.

pub returns-then-into-room-clause-bytes : goal.returns-then-into-room-clause-bytes
returns-then-into-room-clause-bytes g c = λ m named b ss known stored first last.
    let filer = c.args.filer.now in
    let into = c.copy_out.new.into in
    let width = c.copy_out.ensures.width in
    let fits = c.if-into-room.true in
    let inside : c.args.address % 512 + length into ≤ 512 = omega (arith, fits, width) in
    one_loaded ss named m c.args.address into inside
    (read_first (accepted filer) (placed filer) known stored c.args.address first into inside (λ f has. c.copy_out.ensures.bytes f has ∙ ap (part f.bytes (c.args.address % 512)) (sym width)))

-- ---- On two pages.

pub returns-clause-bytes : goal.returns-clause-bytes
returns-clause-bytes g c = λ m named b ss known stored first last.
    let filer = c.args.filer.now in
    let low = c.copy_out-2.new.into in
    let high = c.copy_out-3.new.into in
    let past = c.if-into-room.false in
    let page = last_is_next c.args.address (length c.args.into.now) c.requires.few (omega (arith, past)) in
    let next : IsSlotOf ss (view_of filer).slots (c.args.address / 512 + 1) c.args.last = rw page last in
    let prefix : length low ≡ 512 - c.args.address % 512 = search rules in
    let back : 1 ≤ length high = search rules in
    let inside : length high ≤ 512 = search rules in
    let bytes_low = c.copy_out-2.ensures.bytes in
    let bytes_high = rw c.copy_out-2.ensures.same at c.copy_out-3.ensures.bytes in
    two_loaded ss named m c.args.address low high prefix back
    (read_first (accepted filer) (placed filer) known stored c.args.address first low (omega (arith, prefix)) (λ f has. bytes_low f has ∙ ap (part f.bytes (c.args.address % 512)) (sym c.copy_out-2.ensures.width)))
    (read_next (accepted filer) (placed filer) known stored c.args.address next high inside (λ f has. bytes_high f has ∙ ap (part f.bytes 0) (sym c.copy_out-3.ensures.width)))

-- ---- The slots have pages.

pub copy_out-requires-clause-below : goal.copy_out-requires-clause-below
copy_out-requires-clause-below g c = has_below (view_of c.args.filer.now).slots c.args.first c.requires.first.has.0 c.requires.first.has.1

pub copy_out-requires-clause-filled : goal.copy_out-requires-clause-filled
copy_out-requires-clause-filled g c = filled_of (view_of c.args.filer.now).slots c.args.first c.requires.first.has.0 c.requires.first.has.1

pub copy_out-requires-2-clause-below : goal.copy_out-requires-2-clause-below
copy_out-requires-2-clause-below g c = has_below (view_of c.args.filer.now).slots c.args.first c.requires.first.has.0 c.requires.first.has.1

pub copy_out-requires-2-clause-filled : goal.copy_out-requires-2-clause-filled
copy_out-requires-2-clause-filled g c = filled_of (view_of c.args.filer.now).slots c.args.first c.requires.first.has.0 c.requires.first.has.1

pub copy_out-requires-3-clause-below : goal.copy_out-requires-3-clause-below
copy_out-requires-3-clause-below g c = rw c.copy_out-2.ensures.same (has_below (view_of c.args.filer.now).slots c.args.last c.requires.last.has.0 c.requires.last.has.1)

pub copy_out-requires-3-clause-filled : goal.copy_out-requires-3-clause-filled
copy_out-requires-3-clause-filled g c = rw c.copy_out-2.ensures.same (filled_of (view_of c.args.filer.now).slots c.args.last c.requires.last.has.0 c.requires.last.has.1)

pub returns-then-into-room-clause-width : goal.returns-then-into-room-clause-width
returns-then-into-room-clause-width g c = c.copy_out.ensures.width

pub returns-then-into-room-clause-same : goal.returns-then-into-room-clause-same
returns-then-into-room-clause-same g c = c.copy_out.ensures.same

pub returns-clause-same : goal.returns-clause-same
returns-clause-same g c = c.copy_out-3.ensures.same ∙ c.copy_out-2.ensures.same
