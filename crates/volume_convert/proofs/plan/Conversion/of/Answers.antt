use Rattle.std.proofs.Common.{◌≡◌, ◌+◌, ◌∙◌, Err, rules, arith, ap, sym}
use Rattle.labelled_disk.specs.declared.layout.Layout.{Layout}
use Rattle.volume_convert.proofs.PlannedLemmas.{revealed_moved, revealed_room, unfit_is}
use Rattle.volume_convert.proofs.plan.Conversion.of.Goals as goal

pub returns-in_err-judge_room-clause-unfit : goal.returns-in_err-judge_room-clause-unfit
returns-in_err-judge_room-clause-unfit g c = λ wanted room is.
    let same : c.from_residual.result ≡ Err c.in_err-judge_room.field-0.0 = search rules in
    let parts = unfit_is c.from_residual.result c.in_err-judge_room.field-0.0 wanted room (c.revealed_of-revealed.result.files + c.revealed_of-revealed.result.pages) c.args.layout.now.capacity same c.in_err-judge_room.ensures.unfit.0 is in
    let capacity = ap (λ (l : Layout). l.capacity) c.requires.layout in (
      parts.1 ∙ capacity,
      omega (arith, parts.0, parts.1, c.in_err-judge_room.ensures.unfit.1),
      λ d has.
          parts.0 ∙ sym (revealed_room d c.revealed_of-revealed.result
          (revealed_moved d c.args.layout.now.sectors c.requires.counted c.args.labels.items c.deref.result.now c.in-Ok-find_old_sector_states.sector_states.items c.deref-2.result.now c.revealed_of-revealed.result has
          c.deref.ensures.value c.deref-2.ensures.value (c.in-Ok-find_old_sector_states.ensures.sector_states d) (c.revealed_of-revealed.ensures.revealed d))),
    )

pub returns-in-Ok-make-clause-room : goal.returns-in-Ok-make-clause-room
returns-in-Ok-make-clause-room g c = λ d has.
    let capacity = ap (λ (l : Layout). l.capacity) c.requires.layout in
    let room = revealed_room d c.revealed_of-revealed.result
    (revealed_moved d c.args.layout.now.sectors c.requires.counted c.args.labels.items c.deref.result.now c.in-Ok-find_old_sector_states.sector_states.items c.deref-2.result.now c.revealed_of-revealed.result has
    c.deref.ensures.value c.deref-2.ensures.value (c.in-Ok-find_old_sector_states.ensures.sector_states d) (c.revealed_of-revealed.ensures.revealed d)) in
    omega (arith, room, capacity, c.in_ok-judge_room.ensures.fits)
