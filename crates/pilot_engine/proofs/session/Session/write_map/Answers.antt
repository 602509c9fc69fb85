use Rattle.std.proofs.Common.{refl, rules, ◌≡◌, subst}
use Rattle.swapper_kernel.specs.Maps.{id_of, pages_of}
use Rattle.pilot_engine.proofs.EndCosts.{few_written}
use Rattle.pilot_engine.proofs.EndLemmas.{map_clean}
use Rattle.filer_kernel.specs.EvidenceLaws.{fits, so_of_halts}
use Rattle.swapper_kernel.specs.Homes.{no_home}
use Rattle.fault_core.specs.Core.{state}
use Rattle.filer_kernel.specs.View.{accepted, swapper_of, View}
use Rattle.swapper_kernel.specs.Homes.{no_home}
use Rattle.file_manager.specs.ReasonLaws.{label_reasons}
use Rattle.pilot_engine.proofs.InitialStateLemmas.{keeps_written, written_reaches}
use Rattle.fault_core.proofs.LackLemmas.{brought_misses}
use Rattle.pilot_engine.proofs.EndNeverBlames.{end_blameless, label_no_table}
use Rattle.pilot_engine.proofs.FormLemmas.{label_form}
use Rattle.pilot_engine.proofs.HomeLemmas.{file_pages}
use Rattle.pilot_engine.specs.Halting.{WriteHalts}
use Rattle.pilot_engine.proofs.session.Session.write_map.Goals as goal

pub returns-in-Ok-clause-clean : goal.returns-in-Ok-clause-clean
returns-in-Ok-clause-clean g c =
    let of_map : c.id.result ≡ id_of c.args.which = search rules in
    let many : c.pages.result ≡ pages_of c.args.which c.swapper_over-swapper.result.now.layout = search rules in
    map_clean c.args.which _ _ _ _ _ c.flush.new.memory.placed c.flush.ensures.layout of_map many c.in-Ok.ensures.clean

pub returns-in-Err-clause-sound : goal.returns-in-Err-clause-sound
returns-in-Err-clause-sound g c = λ x stands. (rw (c.swapper_over-swapper.ensures.value) at c.in-Err.ensures.sound) x stands

pub returns-in-Ok-clause-cost : goal.returns-in-Ok-clause-cost
returns-in-Ok-clause-cost g c =
    few_written c.id.result 0 c.pages.result c.frames-slots.result c.frames.result.now (state c.args.self.now.core).slots (state c.args.self.now.core).disk.transfers (g.D.Disk.state c.flush.new.memory.disk).transfers
    (rw c.swapper_over-swapper.ensures.value at c.frames.ensures) c.frames-slots.ensures.count c.frames-slots.ensures.most (rw c.swapper_over-swapper.ensures.value at c.flush.ensures.cost)

pub returns-in-Err-clause-cost : goal.returns-in-Err-clause-cost
returns-in-Err-clause-cost g c =
    few_written c.id.result 0 c.pages.result c.frames-slots.result c.frames.result.now (state c.args.self.now.core).slots (state c.args.self.now.core).disk.transfers (g.D.Disk.state c.flush.new.memory.disk).transfers
    (rw c.swapper_over-swapper.ensures.value at c.frames.ensures) c.frames-slots.ensures.count c.frames-slots.ensures.most (rw c.swapper_over-swapper.ensures.value at c.flush.ensures.cost)

-- ---- Why it failed.

pub returns-in-Err-clause-fails : goal.returns-in-Err-clause-fails
returns-in-Err-clause-fails g c =
    let cause = rw c.swapper_over-swapper.ensures.value at c.in-Err.ensures.cause in
    record {
      cause = cause;
      counted = λ is. subst (WriteHalts (state c.args.self.now.core) (record (state c.args.self.now.core) { disk = g.D.Disk.state c.flush.new.memory.disk })) is cause;
      evidence_seen = so_of_halts (fits (swapper_of c.args.self.now.core.filer) c.requires.size) (rw c.swapper_over-swapper.ensures.value at c.flush.ensures.swaps).makes c.in-Err.halt no_home (λ home none. absurd none) cause;
    }

-- ---- What began stays a reason.

pub returns-in-Ok-clause-keeps_to : goal.returns-in-Ok-clause-keeps_to
returns-in-Ok-clause-keeps_to g c = λ o keeps.
    let v = state c.args.self.now.core in
    let w : View = record v { disk = g.D.Disk.state c.flush.new.memory.disk; slots = c.flush.new.memory.pool; layout = c.flush.new.memory.layout } in
    let swaps = (rw c.swapper_over-swapper.ensures.value at c.flush.ensures.swaps) in
    let run = (rw c.swapper_over-swapper.ensures.value at c.flush.ensures.run) in
    let layout = (rw c.swapper_over-swapper.ensures.value at c.flush.ensures.layout) in
    (keeps.0, (keeps_written o v w keeps.0 (accepted c.args.self.now.core.filer) keeps.1.1 keeps.1.0 (written_reaches v w (accepted c.args.self.now.core.filer) swaps run.frames layout refl), keeps.1.1))

pub returns-in-Err-clause-reasons : goal.returns-in-Err-clause-reasons
returns-in-Err-clause-reasons g c = λ o keeps.
    let v = state c.args.self.now.core in
    let w : View = record v { disk = g.D.Disk.state c.flush.new.memory.disk; slots = c.flush.new.memory.pool; layout = c.flush.new.memory.layout } in
    let swaps = (rw c.swapper_over-swapper.ensures.value at c.flush.ensures.swaps) in
    let halts = (rw c.swapper_over-swapper.ensures.value at c.in-Err.ensures.cause) in
    label_reasons keeps.1.0 swaps.makes no_home (λ home none. absurd none) c.in-Err.halt halts

-- ---- No page of the space tables is reported as broken, and none is missing.

pub returns-in-Err-clause-right : goal.returns-in-Err-clause-right
returns-in-Err-clause-right g c = λ o.
    let v = state c.args.self.now.core in
    let disk = g.D.Disk.state c.flush.new.memory.disk in
    let cause = rw c.swapper_over-swapper.ensures.value at c.in-Err.ensures.cause in
    end_blameless o disk c.in-Err.halt (label_form no_home v.disk v.slots disk c.in-Err.halt cause, brought_misses no_home v.disk v.slots disk (file_pages o disk) c.in-Err.halt cause)
    (label_no_table no_home v.disk v.slots disk c.in-Err.halt cause)
