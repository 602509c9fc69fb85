use Rattle.std.proofs.Common.{◌≡◌, ◌+◌, ◌∙◌, ℕ, suc, List, ◌∷◌, [], ◌++◌, take, sym, ap, subst, arith, slice_index_or}
use Rattle.std.proofs.lemmas.List.{take_all}
use Rattle.std.proofs.lemmas.Option.{slice_get-get_or}
use Rattle.label_survey.specs.declared.triples.Triple.{Triple}
use Rattle.label_survey.specs.Runs.{all_triples}
use Rattle.volume_view.specs.Rows.{AreJoined}
use Rattle.volume_view.proofs.ListLemmas.{one_more}
use Rattle.volume_view.proofs.rows.join_pages.Goals as goal

pub loop-i-init : goal.loop-i-init
loop-i-init g c = record { pages = ap all_triples c.new-runs.ensures.items; joined = subst AreJoined (sym c.new-runs.ensures.items) record { long = tt; apart = tt } }

pub loop-i-preserved : goal.loop-i-preserved
loop-i-preserved g c =
    let pages = c.args.pages.now in
    let i = c.loop-i.i in
    let t = slice_index_or pages i (record { id = 0; page = 0; sector = 0 }) in
    let here = slice_get-get_or pages i (record { id = 0; page = 0; sector = 0 }) c.loop-i-test.true in
    let s : suc i ≡ i + 1 = omega arith in
    record {
      pages = c.in_ok-add_page.ensures.pages ∙ ap (λ (l : List Triple). l ++ t ∷ []) c.loop-i.invariant.pages ∙ sym (one_more pages i t here) ∙ ap (λ (k : ℕ). take k pages) s;
      joined = c.in_ok-add_page.ensures.joined c.loop-i.invariant.joined;
    }

pub returns-clause-pages : goal.returns-clause-pages
returns-clause-pages g c = c.loop-i.invariant.pages ∙ take_all c.loop-i.i c.args.pages.now (omega (arith, c.loop-i-test.false))

pub returns-clause-joined : goal.returns-clause-joined
returns-clause-joined g c = c.loop-i.invariant.joined
