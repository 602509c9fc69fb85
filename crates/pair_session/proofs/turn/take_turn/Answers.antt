use Rattle.std.proofs.Common.{◌≡◌, None, Some, refl, sym, ◌∙◌}
use Rattle.filer_kernel.specs.View.{disk_of}
use Rattle.pair_machine.specs.declared.call.PairRefusal.TheVariants as why
use Rattle.trace_io.specs.PairGrammar.{Ask}
use Rattle.volume_pair.specs.Owned.{no_file}
use Rattle.volume_pair.proofs.OwnedLemmas.{writes_none}
use Rattle.volume_pair.proofs.ReplyLemmas.{refused_not_done}
use Rattle.volume_pair.proofs.SideLemmas.{looked_nothing}
use Rattle.volume_pair.proofs.SyncedLemmas.{synced_now}
use Rattle.pair_session.specs.Pairs.{shown}
use Rattle.pair_session.proofs.StateLemmas.{keeps_bad}
use Rattle.pair_session.proofs.TurnLemmas.{none_stopped}
use Rattle.pair_session.proofs.WroteLemmas.{goes_itself, permitted_of, shows_halt}
use Rattle.pair_session.proofs.turn.take_turn.Goals as goal

-- ---- A call.

pub returns-in-Ok-clause-turns : goal.returns-in-Ok-clause-turns
returns-in-Ok-clause-turns g c =
    let none = none_stopped _ _ _ c.next.result c.requires.stopped c.next.ensures.again (λ is. absurd (cc (sym c.in-Call.is ∙ is))) in
    let steps = c.step.ensures.to in (
      none,
      Some (Ask c.in-Call.call),
      c.in-Call.ensures.next none,
      refl,
      tt,
      (steps.own, λ p stands. let r = c.in-Ok.ensures.replies p stands in record { allowed = r.allowed; stands = r.stands; crash_states = steps.crash_states p stands; synced = λ done. synced_now (shown c.step.new.self).to.disk (g.met.E.Disk.sync_counts (disk_of c.step.new.self.to)) (c.in-Ok.ensures.leaves.on_medium done) }),
    )

pub returns-in-Ok-clause-goes_on : goal.returns-in-Ok-clause-goes_on
returns-in-Ok-clause-goes_on g c =
    let to = c.step.ensures.to in
    record { from = c.step.ensures.from; to = permitted_of to.makes.went to.makes.wrote; same_root = c.step.ensures.in_use.same_root }

pub returns-in-Err-clause-turns : goal.returns-in-Err-clause-turns
returns-in-Err-clause-turns g c =
    let none = none_stopped _ _ _ c.next.result c.requires.stopped c.next.ensures.again (λ is. absurd (cc (sym c.in-Call.is ∙ is))) in
    let steps = c.step.ensures.to in (
      none,
      Some (Ask c.in-Call.call),
      c.in-Call.ensures.next none,
      refl,
      (steps.own, λ p stands. (c.in-Err.ensures.replies p stands, steps.crash_states p stands)),
    )

pub returns-in-Err-clause-goes_on : goal.returns-in-Err-clause-goes_on
returns-in-Err-clause-goes_on g c =
    let to = c.step.ensures.to in
    record { from = c.step.ensures.from; to = permitted_of to.makes.went to.makes.wrote; same_root = c.step.ensures.in_use.same_root }

pub returns-in-Err-clause-halt : goal.returns-in-Err-clause-halt
returns-in-Err-clause-halt g c = shows_halt (shown c.args.pair.now) (shown c.step.new.self) c.in-Err.halt c.in-Err.ensures.why

-- ---- Another line.

pub returns-in-Bad-clause-turns : goal.returns-in-Bad-clause-turns
returns-in-Bad-clause-turns g c =
    let none = none_stopped _ _ _ c.next.result c.requires.stopped c.next.ensures.again (λ is. absurd (cc (sym c.in-Bad.is ∙ is))) in (
      none,
      None,
      c.in-Bad.ensures.next none,
      refl,
      refl,
      (writes_none no_file (looked_nothing (shown c.args.pair.now).to), λ p stands. record { allowed = refl; stands = stands; crash_states = keeps_bad (shown c.args.pair.now) p stands; synced = λ done. absurd (refused_not_done why.Syntax done) }),
    )

pub returns-in-Bad-clause-goes_on : goal.returns-in-Bad-clause-goes_on
returns-in-Bad-clause-goes_on g c = goes_itself (shown c.args.pair.now)

pub returns-in-Close-clause-goes_on : goal.returns-in-Close-clause-goes_on
returns-in-Close-clause-goes_on g c = goes_itself (shown c.args.pair.now)

pub returns-in-End-clause-goes_on : goal.returns-in-End-clause-goes_on
returns-in-End-clause-goes_on g c = goes_itself (shown c.args.pair.now)

pub returns-in-ReadFault-clause-goes_on : goal.returns-in-ReadFault-clause-goes_on
returns-in-ReadFault-clause-goes_on g c = goes_itself (shown c.args.pair.now)

pub returns-in-Long-clause-goes_on : goal.returns-in-Long-clause-goes_on
returns-in-Long-clause-goes_on g c = goes_itself (shown c.args.pair.now)
