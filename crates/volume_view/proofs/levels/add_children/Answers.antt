use Rattle.std.proofs.Common.{◌≡◌, ◌++◌, ◌∙◌, ℕ, suc, ap, arith}
use Rattle.page_tree.specs.Page.{filled}
use Rattle.volume_view.specs.Level.{key_in, items_of}
use Rattle.volume_view.specs.Walk.{values, child_at}
use Rattle.volume_view.proofs.LevelLemmas.{children_more}
use Rattle.volume_view.proofs.levels.add_children.Goals as goal

pub loop-i-preserved : goal.loop-i-preserved
loop-i-preserved g c =
    children_more (key_in c.args.parent.now.key) c.args.page.now c.loop-i.i c.args.children.now.items c.loop-i.children.items c.push-in-loop-i.new.self.items c.key_of.result c.link_of-in-loop-i.result c.key_of.ensures
    c.link_of-in-loop-i.ensures c.in_ok-push-2.ensures.items c.loop-i.invariant

pub returns : goal.returns
returns g c =
    let all : c.loop-i.i ≡ filled c.args.page.now = omega (arith, c.loop-i-test.false, c.loop-i.auto.i-end, c.filled_of-i-end.ensures) in
    c.loop-i.invariant ∙ ap (λ (n : ℕ). items_of c.args.children.now.items ++ values (child_at (key_in c.args.parent.now.key) c.args.page.now) (suc n)) all
