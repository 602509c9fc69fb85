use Rattle.label_survey.proofs.WalkLemmas.{takes_orphan, takes_leader, takes_lost, takes_page}
use Rattle.label_survey.proofs.walk.Progress.take.Goals as goal
use Rattle.label_survey.proofs.walk.Progress.take.Goals.{then-entry-self-2-via-then-entry-self-2, then-entry-self-2-via-else-entry-self-2+then-entry-eq-TEMPORARY}

pub returns-then-entry-ne0-clause-next : goal.returns-then-entry-ne0-clause-next
returns-then-entry-ne0-clause-next c = λ d entries k of order at come. takes_orphan d entries of order k c.args.entry.now at c.args.self.now come c.if-entry-self.true c.if-entry-ne0.true

pub returns-then-entry-self-clause-next : goal.returns-then-entry-self-clause-next
returns-then-entry-self-clause-next c = λ d entries k of order at come. takes_leader d entries of order k c.args.entry.now at c.args.self.now come c.if-entry-self.true c.if-entry-ne0.false

pub returns-then-entry-self-2-clause-next : goal.returns-then-entry-self-2-clause-next
returns-then-entry-self-2-clause-next c = λ d entries k of order at come. takes_lost d entries of order k c.args.entry.now at c.args.self.now come c.if-entry-self.false
    (elim c.then-entry-self-2.branch [
      | then-entry-self-2-via-then-entry-self-2 w ↦ λ same. absurd (w.if-entry-self-2.true same)
      | then-entry-self-2-via-else-entry-self-2+then-entry-eq-TEMPORARY w ↦ λ same. w.if-entry-eq-TEMPORARY.true
    ])

pub returns-clause-next : goal.returns-clause-next
returns-clause-next c = λ d entries k of order at come. takes_page d entries of order k c.args.entry.now at c.args.self.now come c.if-entry-self.false c.if-entry-self-2.false c.if-entry-eq-TEMPORARY.false
