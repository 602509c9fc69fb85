use Rattle.std.proofs.Common.{rules, ◌≡◌, ◌∙◌, ℕ, ◌+◌, ◌-◌, ◌/◌, ◌%◌, ◌≤◌, List, [], ◌∷◌, length, Some, sym, subst, arith, inl, inr}
use Rattle.std.specs.Prelude.{slice_get}
use Rattle.frame_pool.specs.FrameLaws.{filled_of}
use Rattle.filer_kernel.specs.View.{accepted, placed, view_of}
use Rattle.fault_core.specs.Unit.{file_page}
use Rattle.fault_core.proofs.FrameLemmas.{frame_bytes}
use Rattle.fault_core.proofs.PutLemmas.{put_here, put_other}
use Rattle.fault_core.proofs.RowLemmas.{byte_here, byte_loads, byte_of_part, loaded_then}
use Rattle.fault_core.proofs.UnitLemmas.{own_unit}
use borrow.Rule.Slice.PartMut.{put_mid}
use Rattle.fault_core.proofs.ready.load_part.Goals as goal

pub overflow_add-x : goal.overflow_add-x
overflow_add-x g c =
    let here = byte_here (view_of c.args.filer.now).slots c.args.x.now c.args.address c.args.count c.requires.here c.args.done c.requires.more in
    let fits = (c.requires.formed.shows c.requires.mapped).1 in
    omega (arith, here.0, fits)

pub slot_of-slot-requires : goal.slot_of-slot-requires
slot_of-slot-requires g c =
    let at = (c.args.address + c.args.done) / 512 in
    let here = byte_here (view_of c.args.filer.now).slots c.args.x.now c.args.address c.args.count c.requires.here c.args.done c.requires.more in
    record { resident = here.1 at (own_unit c.args.x.now at here.0) }

pub copy_out-requires-clause-filled : goal.copy_out-requires-clause-filled
copy_out-requires-clause-filled g c =
    let has = c.slot_of-slot.ensures.slot in
    rw c.slot_of-slot.ensures.same (filled_of (view_of c.args.filer.now).slots c.slot_of-slot.result has.0 has.1)

pub returns-clause-bytes : goal.returns-clause-bytes
returns-clause-bytes g c = λ m named b ss known seen had.
    let now = c.args.filer.now in
    let x = c.args.x.now in
    let address = c.args.address in
    let done = c.args.done in
    let at = address + done in
    let n = c.min-part.result in
    let part = (done + n) - done in
    let into = c.args.into.now in
    let bytes = c.copy_out.new.into in
    let here = byte_here (view_of now).slots x address c.args.count c.requires.here done c.requires.more in
    let own = seen.stored (at / 512) here.0 in
    let has = c.slot_of-slot.ensures.slot in
    let copied = rw c.slot_of-slot.ensures.same at c.copy_out.ensures.bytes in
    let on_page : at % 512 + n ≤ 512 = search rules in
    let fits : done + n ≤ length into = search rules in
    let long : length bytes ≡ n = search rules in
    loaded_then ss named m address done n into (put_mid done part into bytes) had
    (λ k early. put_other done n part into bytes fits long (omega arith) k (inl early))
    (λ j byte below got.
    let read : slice_get bytes j ≡ Some byte = sym (put_here done n part into bytes fits long (omega arith) j below) ∙ got in
    byte_loads ss named m x seen at j byte here.0 (omega (arith, on_page, below))
    (frame_bytes (accepted now) known (placed now) c.slot_of-slot.result has.0 has.1 x.id (file_page x (at / 512)) has.2 own.of_file (at % 512 + j) (byte ∷ []) (omega (arith, on_page, below))
    (byte_of_part has.0.bytes (at % 512) _ j byte (omega (arith, below, long, c.copy_out.ensures.width))
    (subst (λ (l : List ℕ). slice_get l j ≡ Some byte) (copied has.0 has.1) read))))

pub returns-clause-rest : goal.returns-clause-rest
returns-clause-rest g c = λ k past.
    let done = c.args.done in
    let n = c.min-part.result in
    let part = (done + n) - done in
    let into = c.args.into.now in
    let bytes = c.copy_out.new.into in
    let fits : done + n ≤ length into = search rules in
    let long : length bytes ≡ n = search rules in
    put_other done n part into bytes fits long (omega arith) k (inr past)
