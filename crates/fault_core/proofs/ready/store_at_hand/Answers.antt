use Rattle.std.proofs.Common.{◌/◌, true, length, ap}
use Rattle.descriptor_cache.specs.Cache.{kept_in}
use Rattle.filer_kernel.specs.View.{view_of}
use Rattle.fault_core.specs.Ready.{IsAtHand}
use Rattle.fault_core.specs.Unit.{file_page}
use Rattle.fault_core.proofs.AttemptLemmas.{client_slot}
use Rattle.fault_core.proofs.ready.store_at_hand.Goals as goal

pub change_in-requires-clause-slot : goal.change_in-requires-clause-slot
change_in-requires-clause-slot g c =
    let h = c.in-Some.ensures.ready in
    rw c.slot_at_hand.ensures.same (client_slot (view_of c.args.filer.now).slots h.interval (c.args.address / 512) c.in-Some.slot h.shows h.has)

pub change_in-requires-clause-inside : goal.change_in-requires-clause-inside
change_in-requires-clause-inside g c = c.in-Some.ensures.ready.inside

pub returns-clause-stored : goal.returns-clause-stored
returns-clause-stored g c = λ is.
    let h : IsAtHand (kept_in c.args.kept.now) (view_of c.slot_at_hand.new.filer).slots true c.args.address (length c.args.bytes.now) c.in-Some.slot = rw c.slot_at_hand.ensures.same c.in-Some.ensures.ready in
    let x = h.interval in
    let p = file_page x (c.args.address / 512) in
    rw (← c.slot_at_hand.ensures.same) (record {
      slot = c.in-Some.slot;
      hand = h;
      stored = λ m named b known of_file. c.change_in.ensures.stored m named b x.id p known h.has of_file;
      dirty = c.change_in.ensures.dirty x.id p h.has;
      touches = c.change_in.ensures.touches x.id p h.has (h.shows.formed.shows h.shows.mapped).0;
      came = c.change_in.ensures.came;
      slots = c.change_in.ensures.slots;
      disk = ap g.D.Disk.state c.change_in.ensures.disk;
    })
