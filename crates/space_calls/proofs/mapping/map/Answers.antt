use Rattle.std.proofs.Common.{◌≡◌}
use Rattle.flat_machine.specs.declared.call.Call.TheVariants as call
use Rattle.flat_machine.specs.declared.call.Reply.TheVariants as reply
use Rattle.swapper_kernel.specs.GoesLaws.{makes_then}
use Rattle.filer_kernel.proofs.Outcomes.{ok_wider}
use Rattle.space_calls.proofs.MapLemmas.{map_passed, map_stopped, may_be_given}
use Rattle.space_calls.proofs.RunLemmas.{quiet_passes}
use Rattle.space_calls.proofs.WindowLemmas.{window_carried}
use Rattle.fault_core.specs.Core.{state}
use Rattle.space_calls.proofs.HaltLemmas.{given_map}
use Rattle.space_calls.specs.Mapping.{IsLastFrom, MayShow, ReachesOver}
use Rattle.space_calls.proofs.RangeLemmas.{given_so}
use Rattle.space_calls.specs.FilesLaws.{shown_or}
use Rattle.space_calls.proofs.OnLemmas.{given_still_on}
use Rattle.space_calls.proofs.SizeLemmas.{where_done}
use Rattle.space_calls.proofs.mapping.map.Goals as goal
use Rattle.space_calls.proofs.OutcomeLemmas.{halts_wider, if_halts_after, made_looked, made_then, own_looked, own_made}
use Rattle.space_calls.proofs.LookLemmas.{looked_fault, looked_word}
use Rattle.filer_kernel.specs.View.{accepted, disk_of}

pub returns-in-Ok-Err-clause-answers : goal.returns-in-Ok-Err-clause-answers
returns-in-Ok-Err-clause-answers g c = λ volume m r.
    let is = map_stopped m c.args.space c.args.id c.args.page c.args.writable c.in-Ok-Err.field-0 c.in-Ok-Err.word c.in-Ok-Err.field-0-is (c.in-Ok-Err.ensures.answer volume m r) in
    looked_word c.may_map.ensures.looks (g.met.D.Disk.in_form (disk_of c.args.core.now.filer)) r (call.Map c.args.space c.args.id c.args.page c.args.writable) c.in-Ok-Err.word is

pub returns-clause-answers : goal.returns-clause-answers
returns-clause-answers g c = λ volume m r.
    let revealed = map_passed m c.args.space c.args.id c.args.page c.args.writable c.in-Ok-Ok.field-0 c.in-Ok-Ok.field-0-0 c.in-Ok-Ok.field-0-is (c.in-Ok-Ok.ensures.answer volume m r) in
    let may = may_be_given m c.args.space c.args.id c.args.page c.args.writable r.session.stands.is.by.machine revealed.0 revealed.1 in
    record {
      carried = (ok_wider c.give_window.result _ _ (λ reply done. window_carried c.give_window.new.core volume m c.args.space c.args.id c.args.page c.args.writable revealed.0 reply done.0 done.1)
          (c.give_window.ensures.given volume m may.x (c.may_map.ensures.looks.runs volume m r) may.may may.named_so may.bare may.fits may.machine));
      sound = (c.give_window.ensures.sound volume m may.x (c.may_map.ensures.looks.runs volume m r) may.may may.named_so may.bare may.fits);
      passes = (quiet_passes c.args.core.now c.give_window.new.core volume m _ (g.met.D.Disk.in_form (disk_of c.args.core.now.filer)) r (makes_then c.may_map.ensures.looks.makes c.give_window.ensures.went.makes));
    }

pub returns-in-Err-clause-answers : goal.returns-in-Err-clause-answers
returns-in-Err-clause-answers g c = λ volume m r.
    looked_fault c.may_map.ensures.looks (g.met.D.Disk.in_form (disk_of c.args.core.now.filer)) r (call.Map c.args.space c.args.id c.args.page c.args.writable) c.in-Err.halt (c.in-Err.ensures.answer volume m r)

-- ---- Why it failed.

pub returns-in-Err-clause-fails : goal.returns-in-Err-clause-fails
returns-in-Err-clause-fails g c = halts_wider c.in-Err.ensures.fails c.in-Err.ensures.fails.cause

pub returns-clause-fails : goal.returns-clause-fails
returns-clause-fails g c =
    let v = state c.args.core.now in
    let x = c.may_map.new.core in
    let count = c.args.core.now.intervals in
    let looks = c.may_map.ensures.looks in
    if_halts_after looks c.give_window.result c.give_window.ensures.fails (given_map v (state x) (state c.give_window.new.core) c.args.space c.args.id count looks.reaches x.intervals looks.intervals)

-- ---- What was written.

pub returns-in-Ok-Err-clause-went : goal.returns-in-Ok-Err-clause-went
returns-in-Ok-Err-clause-went g c = own_looked c.may_map.ensures.looks

pub returns-in-Err-clause-went : goal.returns-in-Err-clause-went
returns-in-Err-clause-went g c = own_looked c.may_map.ensures.looks

pub returns-clause-went : goal.returns-clause-went
returns-clause-went g c = own_made (made_then (accepted c.args.core.now.filer) (made_looked c.may_map.ensures.looks) c.give_window.ensures.went)

-- ---- The tables are revealed.

pub returns-in-Ok-Err-clause-sees : goal.returns-in-Ok-Err-clause-sees
returns-in-Ok-Err-clause-sees g c = λ ss s. (ss, (c.may_map.ensures.looks.still ss s, shown_or (λ file last. (reply.Refused c.in-Ok-Err.word ≡ reply.Done) × (file ≡ c.args.id) × IsLastFrom ss c.args.space c.args.page last) ss))

pub returns-clause-sees : goal.returns-clause-sees
returns-clause-sees g c = given_still_on c.args.core.now c.give_window.new.core c.args.space c.args.id c.args.page c.give_window.result (λ ss s.
    let may = given_so (λ u. MayShow ss c.args.space c.args.id c.args.page c.args.writable) c.in-Ok-Ok.field-0-0 c.in-Ok-Ok.field-0 c.in-Ok-Ok.field-0-is (c.in-Ok-Ok.ensures.seen ss s) in
    c.give_window.ensures.sees ss may.0 (c.may_map.ensures.looks.still ss s) may.1 may.2 may.3)

-- ---- What the space shows is below the file's end.

pub returns-clause-found : goal.returns-clause-found
returns-clause-found g c = λ ss m named s stands map are.
    where_done c.give_window.result (ReachesOver ss c.args.space c.args.id c.args.page named)
    (given_so (λ u. ReachesOver ss c.args.space c.args.id c.args.page named) c.in-Ok-Ok.field-0-0 c.in-Ok-Ok.field-0 c.in-Ok-Ok.field-0-is (c.in-Ok-Ok.ensures.found ss m named s stands map are))
