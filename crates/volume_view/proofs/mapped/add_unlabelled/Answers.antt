use Rattle.std.proofs.Common.{ℕ, ◌+◌, ◌∙◌, List, sym, ap, subst, arith}
use Rattle.label_survey.specs.declared.triples.Triple.{Triple}
use Rattle.label_survey.specs.Runs.{all_triples}
use Rattle.volume_view.specs.Names.{labelled}
use Rattle.volume_view.specs.Rows.{AreJoined}
use Rattle.volume_view.proofs.NameLemmas.{IsAddedTo, added_same, added_more, added_all}
use Rattle.volume_view.proofs.mapped.add_unlabelled.Goals as goal
use Rattle.volume_view.proofs.mapped.add_unlabelled.Goals.{then-not-is_labelled+in_ok-add_page, else-not-is_labelled}

pub loop-k-preserved : goal.loop-k-preserved
loop-k-preserved g c =
    let said = labelled c.args.first c.args.labels.now in
    let old = all_triples c.args.pages.now.items in
    let so_far = c.loop-k.invariant in
    let k = c.loop-k.k in
    elim c.if-not-is_labelled.branch [
      | then-not-is_labelled+in_ok-add_page w ↦ record {
        added =
            added_more c.args.run said k c.args.left c.loop-k.now old (all_triples c.loop-k.pages.items) so_far.added c.if-not-is_labelled.now (all_triples c.if-not-is_labelled.pages.items) (omega (arith, w.now-is, c.if-now-eq0.false)) c.loop-k-test.true
            (sym c.is_labelled.ensures ∙ w.if-not-is_labelled.true) (ap (λ v. all_triples v.items) w.pages-is ∙ w.in_ok-add_page.ensures.pages);
        joined = λ was. subst AreJoined (sym (ap (λ v. v.items) w.pages-is)) (w.in_ok-add_page.ensures.joined (so_far.joined was));
      }
      | else-not-is_labelled w ↦ record {
        added =
            subst (λ (m : ℕ). IsAddedTo c.args.run said (k + 1) c.args.left m old (all_triples c.if-not-is_labelled.pages.items)) (sym w.now-is)
            (subst (λ (ts : List Triple). IsAddedTo c.args.run said (k + 1) c.args.left c.loop-k.now old ts) (sym (ap (λ v. all_triples v.items) w.pages-is))
            (added_same c.args.run said k c.args.left c.loop-k.now old (all_triples c.loop-k.pages.items) so_far.added (sym c.is_labelled.ensures ∙ w.if-not-is_labelled.false)));
        joined = λ was. subst AreJoined (sym (ap (λ v. v.items) w.pages-is)) (so_far.joined was);
      }
    ]

pub returns-clause-adds : goal.returns-clause-adds
returns-clause-adds g c =
    added_all c.args.run (labelled c.args.first c.args.labels.now) c.loop-k.k c.args.left c.loop-k.now (all_triples c.args.pages.now.items) (all_triples c.loop-k.pages.items) c.loop-k.invariant.added (omega (arith, c.loop-k-test.false))

pub returns-clause-once : goal.returns-clause-once
returns-clause-once g c = c.loop-k.invariant.added.once
