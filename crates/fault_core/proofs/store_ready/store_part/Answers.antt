use Rattle.std.proofs.Common.{rules, ◌+◌, ◌/◌, ◌%◌, ◌≤◌, true, length, ap, arith}
use Rattle.std.specs.Prelude.{slice_range}
use Rattle.filer_kernel.specs.View.{view_of}
use Rattle.fault_core.specs.Ready.{IsAtHand}
use Rattle.fault_core.specs.Unit.{file_page}
use Rattle.fault_core.proofs.AttemptLemmas.{client_slot}
use Rattle.fault_core.proofs.RowLemmas.{byte_here}
use Rattle.fault_core.proofs.StoreReadyLemmas.{here_keeps}
use Rattle.fault_core.proofs.UnitLemmas.{own_unit}
use Rattle.fault_core.proofs.store_ready.store_part.Goals as goal

pub overflow_add-x : goal.overflow_add-x
overflow_add-x g c =
    let here = byte_here (view_of c.args.filer.now).slots c.args.x.now c.args.address c.args.count c.requires.here c.args.done c.requires.more in
    let fits = (c.requires.formed.shows c.requires.mapped).1 in
    omega (arith, here.0, fits)

pub slot_of-slot-requires : goal.slot_of-slot-requires
slot_of-slot-requires g c =
    let at = (c.args.address + c.args.done) / 512 in
    let here = byte_here (view_of c.args.filer.now).slots c.args.x.now c.args.address c.args.count c.requires.here c.args.done c.requires.more in
    record { resident = here.1 at (own_unit c.args.x.now at here.0) }

pub change_in-requires-clause-slot : goal.change_in-requires-clause-slot
change_in-requires-clause-slot g c =
    let at = (c.args.address + c.args.done) / 512 in
    let here = byte_here (view_of c.args.filer.now).slots c.args.x.now c.args.address c.args.count c.requires.here c.args.done c.requires.more in
    rw c.slot_of-slot.ensures.same
    (client_slot (view_of c.args.filer.now).slots c.args.x.now at c.slot_of-slot.result (record { formed = c.requires.formed; holds = here.0; mapped = c.requires.mapped }) c.slot_of-slot.ensures.slot)

pub returns-clause-changed : goal.returns-clause-changed
returns-clause-changed g c = λ kept is_kept.
    let now = c.args.filer.now in
    let x = c.args.x.now in
    let done = c.args.done in
    let at = c.args.address + done in
    let n = c.min-part.result in
    let piece = slice_range c.args.bytes.now done (done + n) in
    let here = byte_here (view_of now).slots x c.args.address c.args.count c.requires.here done c.requires.more in
    let inside : at % 512 + length piece ≤ 512 = search rules in
    let hand : IsAtHand kept (view_of now).slots true at (length piece) c.slot_of-slot.result = record {
      interval = x;
      is_kept = is_kept;
      shows = record { formed = c.requires.formed; holds = here.0; mapped = c.requires.mapped };
      allowed = λ writes. c.requires.allowed;
      whole = here.1;
      has = c.slot_of-slot.ensures.slot;
      inside = inside;
    } in
    let h : IsAtHand kept (view_of c.slot_of-slot.new.filer).slots true at (length piece) c.slot_of-slot.result = rw c.slot_of-slot.ensures.same hand in
    let p = file_page x (at / 512) in
    rw (← c.slot_of-slot.ensures.same) (record {
      slot = c.slot_of-slot.result;
      hand = h;
      stored = λ m named b known of_file. c.change_in.ensures.stored m named b x.id p known h.has of_file;
      dirty = c.change_in.ensures.dirty x.id p h.has;
      touches = c.change_in.ensures.touches x.id p h.has (c.requires.formed.shows c.requires.mapped).0;
      came = c.change_in.ensures.came;
      slots = c.change_in.ensures.slots;
      disk = ap g.D.Disk.state c.change_in.ensures.disk;
    })

pub returns-clause-here : goal.returns-clause-here
returns-clause-here g c =
    let keeps = rw c.slot_of-slot.ensures.same at c.change_in.ensures.slots in
    here_keeps (view_of c.args.filer.now).slots (view_of c.change_in.new.filer).slots c.args.x.now c.args.address c.args.count keeps c.requires.here
