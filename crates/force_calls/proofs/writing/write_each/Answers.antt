use Rattle.std.proofs.Common.{◌≡◌, ◌<◌, sym, subst, rules, length, Err}
use Rattle.std.proofs.lemmas.Bool.{false_from_ne_true}
use Rattle.std.proofs.lemmas.Option.{same_Some}
use Rattle.frame_pool.specs.Frames.{Slots}
use Rattle.swapper_kernel.specs.Homes.{no_home}
use Rattle.swapper_kernel.specs.GoesLaws.{swaps_stands, went_itself}
use Rattle.swapper_kernel.specs.HaltLaws.{brings_same, halts_later}
use Rattle.force_calls.proofs.LoopLemmas.{found_below, has_in}
use Rattle.force_calls.proofs.ForceLemmas.{forcing_none, forcing_on, forcing_written, forcing_failed}
use Rattle.force_calls.proofs.writing.write_each.Goals as goal
use Rattle.force_calls.proofs.writing.write_each.Goals.{in-Some+in_ok-write_out, in_default}

pub loop-look-init : goal.loop-look-init
loop-look-init g c = forcing_none c.is_short-by_page.result c.args.run.now.id c.args.run.now.first c.args.run.now.pages _ c.args.memory.now.pool c.args.memory.now.layout c.requires.size

pub write_out-requires-clause-below : goal.write_out-requires-clause-below
write_out-requires-clause-below g c =
    let pool : c.frames-in-loop-look.result.now ≡ c.loop-look.memory.pool = search rules in
    let below = c.in-Some.ensures.below in
    subst (λ (s : Slots). c.in-Some.slot < length s) pool below

pub returns-in_err-write_out-clause-forces : goal.returns-in_err-write_out-clause-forces
returns-in_err-write_out-clause-forces g c =
    let pool : c.frames-in-loop-look.result.now ≡ c.loop-look.memory.pool = search rules in
    let f = c.in-Some.ensures.dirty in
    forcing_failed c.loop-look.invariant c.in-Some.slot f.0 (has_in pool f.1) f.2 f.3 c.write_out.ensures.cost c.write_out.ensures.moves.swaps c.write_out.ensures.moves.steps c.in_err-write_out.ensures.kept

pub returns-in_err-write_out-clause-sound : goal.returns-in_err-write_out-clause-sound
returns-in_err-write_out-clause-sound g c = λ m h.
    let same : c.from_residual.result ≡ Err c.in_err-write_out.field-0.0 = search rules in
    rw same (c.in_err-write_out.ensures.sound m (swaps_stands c.loop-look.invariant.forces.swaps m h))

pub returns-in_err-write_out-clause-cause : goal.returns-in_err-write_out-clause-cause
returns-in_err-write_out-clause-cause g c =
    let same : c.from_residual.result ≡ Err c.in_err-write_out.field-0.0 = search rules in
    let so_far = c.loop-look.invariant.forces in
    rw same (halts_later no_home no_home (λ h no. no) so_far.swaps.makes.went so_far.swaps.makes.wrote (brings_same no_home so_far.run.frames)
    (went_itself (g.D.Disk.state c.write_out.new.self.disk)) c.in_err-write_out.field-0.0 c.in_err-write_out.ensures.cause)

pub loop-look-preserved : goal.loop-look-preserved
loop-look-preserved g c =
    let so_far = c.loop-look.invariant in
    let pool : c.frames-in-loop-look.result.now ≡ c.loop-look.memory.pool = search rules in
    elim c.match-dirty_found.branch [
      | in-Some+in_ok-write_out w ↦
          let f = w.in-Some.ensures.dirty in
          rw w.memory-is (forcing_written so_far w.in-Some.slot f.0 (has_in pool f.1) f.2 f.3 w.write_out.ensures.cost w.write_out.ensures.moves.swaps w.write_out.ensures.moves.steps _ w.in_ok-write_out.ensures.cleaned w.write_out.ensures.layout
          (λ i x has within look dirty. sym (same_Some w.in-Some.slot i (w.in-Some.ensures.all i x (has_in (sym pool) has) within look dirty))))
      | in_default w ↦
          rw w.memory-is (forcing_on so_far (λ i x has within look. false_from_ne_true x.dirty (λ dirty. w.in_default.not-Some i (c.dirty_found.ensures.all i x (has_in (sym pool) has) within look dirty))))
    ]

pub returns-clause-clean : goal.returns-clause-clean
returns-clause-clean g c = λ i f has within.
    let so_far = c.loop-look.invariant in
    so_far.past i f (found_below c.is_short-by_page.result c.args.run.now.id c.args.run.now.first c.args.run.now.pages c.args.memory.now.pool c.loop-look.memory.pool i c.loop-look.look c.looks-look-end.result f so_far.forces.swaps.makes.count (search rules) c.loop-look-test.false has within) has within
