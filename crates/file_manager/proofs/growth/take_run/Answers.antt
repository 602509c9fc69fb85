use Rattle.std.proofs.Common.{inl, refl, sym, ◌∙◌, ◌≡◌, arith}
use Rattle.std.proofs.lemmas.Bool.{true≢false}
use Rattle.alloc_map.specs.Runs.{IfMem}
use Rattle.labelled_disk.specs.declared.evidence.Halt.TheVariants as halt
use Rattle.file_manager.proofs.Faults.{counted, no_fault}
use Rattle.swapper_kernel.specs.declared.manager.Manager.TheVariants.{AllocationMap}
use Rattle.filer_kernel.specs.EvidenceLaws.{fits, map_homes_placed, so_of_halts}
use Rattle.file_manager.proofs.MakeStops.{taken_halt}
use Rattle.file_manager.proofs.MadeReasons.{room_reasons, take_reasons}
use Rattle.file_manager.proofs.growth.take_run.Goals as goal
use Rattle.filer_kernel.specs.View.{swapper_of, view_of}

pub returns-in-Err-NoRoom-clause-sound : goal.returns-in-Err-NoRoom-clause-sound
returns-in-Err-NoRoom-clause-sound g c = λ m marks k stands bits named above below free.
    absurd (true≢false (sym ((rw (c.in-Err-NoRoom.is, c.in-Err-NoRoom.field-0-is) at c.take.ensures.no_room) m marks stands bits refl k above below) ∙ free))

pub returns-in-Err-Mem-clause-sound : goal.returns-in-Err-Mem-clause-sound
returns-in-Err-Mem-clause-sound g c = λ m marks k stands bits named above below free.
    let cause : IfMem (λ e. e ≡ halt.Disk) c.in-Err-Mem.field-0 = c.in-Err-Mem.ensures.fails.sound m stands named in
    rw (c.in-Err-Mem.field-0-is, c.in-Err-Mem.halt-is) at cause

pub returns-in-Err-NoRoom-clause-fails : goal.returns-in-Err-NoRoom-clause-fails
returns-in-Err-NoRoom-clause-fails g c =
    let full = rw (c.in-Err-NoRoom.is, c.in-Err-NoRoom.field-0-is) at c.take.ensures.no_room in
    let same = rw (c.in-Err-NoRoom.is, c.in-Err-NoRoom.field-0-is) at c.take.ensures.same in
    record {
      cause = (refl, refl, λ m marks stands bits. (full m marks stands bits refl, same m marks stands bits refl));
      counted = no_fault;
      evidence_seen = inl (refl, omega arith);
    }

pub returns-in-Err-Mem-clause-fails : goal.returns-in-Err-Mem-clause-fails
returns-in-Err-Mem-clause-fails g c =
    let cause = c.in-Err-Mem.ensures.fails.cause in
    record {
      cause = taken_halt (view_of c.args.filer.now).layout (view_of c.args.filer.now).disk (view_of c.take.new.self).disk (view_of c.args.filer.now).slots (view_of c.take.new.self).slots _ (rw (c.in-Err-Mem.field-0-is, c.in-Err-Mem.halt-is) at cause);
      counted = counted _ _ (view_of c.args.filer.now).disk (view_of c.take.new.self).disk _ (omega arith) (rw (c.in-Err-Mem.field-0-is, c.in-Err-Mem.halt-is) at cause);
      evidence_seen = so_of_halts (fits (swapper_of c.args.filer.now) c.requires.size) c.take.ensures.kept.goes.makes _ _ (map_homes_placed AllocationMap _) (rw (c.in-Err-Mem.field-0-is, c.in-Err-Mem.halt-is) at cause);
    }

pub returns-in-Err-NoRoom-clause-reasons : goal.returns-in-Err-NoRoom-clause-reasons
returns-in-Err-NoRoom-clause-reasons g c = λ o named h.
    room_reasons h c.take.ensures.kept (λ m marks stands bits. (rw (c.in-Err-NoRoom.is, c.in-Err-NoRoom.field-0-is) at c.take.ensures.no_room) m marks stands bits refl)

pub returns-in-Err-Mem-clause-reasons : goal.returns-in-Err-Mem-clause-reasons
returns-in-Err-Mem-clause-reasons g c = λ o named h.
    let cause = c.in-Err-Mem.ensures.fails.cause in
    take_reasons h c.take.ensures.kept c.in-Err-Mem.halt (rw (c.in-Err-Mem.field-0-is, c.in-Err-Mem.halt-is) at cause)
