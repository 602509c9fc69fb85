use Rattle.std.proofs.Common.{◌++◌, ◌∙◌, ◌∷◌, [], ℕ, List, map, take, refl, ap, arith}
use Rattle.std.proofs.lemmas.List.{append_assoc, take_all}
use Rattle.label_survey.proofs.ScanLemmas.{pushed_more}
use Rattle.volume_view.specs.declared.levels.Child.{Child}
use Rattle.volume_view.proofs.LevelLemmas.{child_of, child_pages, no_child}
use Rattle.volume_view.proofs.levels.add_pages.Goals as goal

pub loop-j-preserved : goal.loop-j-preserved
loop-j-preserved g c =
    let page = λ (x : Child). x.page in
    let before = map page (take c.loop-j.j c.args.level.now) in
    let here = (child_of c.args.level.now c.loop-j.j).page in
    c.in_ok-push.ensures.items
    ∙ ap (λ (l : List ℕ). l ++ here ∷ []) c.loop-j.invariant
    ∙ append_assoc c.args.used.now.items before (here ∷ [])
    ∙ ap (λ (l : List ℕ). c.args.used.now.items ++ l) (pushed_more page c.args.level.now c.loop-j.j no_child before here c.loop-j-test.true refl refl)

pub returns : goal.returns
returns g c =
    let all = take_all c.loop-j.j c.args.level.now (omega (arith, c.loop-j-test.false, c.loop-j.auto.j-end)) in
    c.loop-j.invariant ∙ ap (λ (l : List ℕ). c.args.used.now.items ++ l) (ap (map (λ (x : Child). x.page)) all ∙ child_pages c.args.level.now)
