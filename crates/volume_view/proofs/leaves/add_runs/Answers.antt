use Rattle.std.proofs.Common.{◌≡◌, ◌∙◌, ◌++◌, ℕ, ◌<◌, ◌^◌, List, length, refl, ap, subst, arith}
use Rattle.page_tree.specs.Page.{record_at, filled}
use Rattle.file_map.specs.declared.run.Run.{Run}
use Rattle.volume_view.specs.Form.{AreRead}
use Rattle.volume_view.specs.Records.{last_of}
use Rattle.volume_view.specs.Walk.{values}
use Rattle.volume_view.proofs.LayoutLemmas.{of_layout}
use Rattle.volume_view.proofs.LeafLemmas.{read_one, read_broken}
use Rattle.volume_view.proofs.leaves.add_runs.Goals as goal

pub read_after-requires : goal.read_after-requires
read_after-requires g c = (of_layout c.args.layout.now c.args.layout.now.sectors c.requires.layout).first

pub returns-in_default-clause-broken : goal.returns-in_default-clause-broken
returns-in_default-clause-broken g c = λ records all before _ whole.
    let n = c.args.layout.now.sectors in
    let few : n < 2 ^ 32 = omega (arith, c.requires.counted.1) in
    let last = c.last_run-last.ensures ∙ ap (λ (l : List Run). last_of l (length l)) c.deref.ensures.value in
    read_broken n few records (record_at 24 c.args.page.now) c.loop-i.i c.loop-i.runs.items c.last_run-last.result c.record_of-bytes.result (c.loop-i.invariant records before) last c.record_of-bytes.ensures (filled c.args.page.now) all
    (omega (arith, c.loop-i-test.true, c.loop-i.auto.i-end, c.filled_of-i-end.ensures)) (c.in_default.ensures.broken refl) whole

pub loop-i-preserved : goal.loop-i-preserved
loop-i-preserved g c = λ records before.
    let n = c.args.layout.now.sectors in
    let few : n < 2 ^ 32 = omega (arith, c.requires.counted.1) in
    let last = c.last_run-last.ensures ∙ ap (λ (l : List Run). last_of l (length l)) c.deref.ensures.value in
    read_one n few records (record_at 24 c.args.page.now) c.loop-i.i c.loop-i.runs.items c.last_run-last.result c.record_of-bytes.result (c.loop-i.invariant records before) last c.record_of-bytes.ensures c.push.new.self.items c.in-Some.run'
    c.in-Some.ensures.form c.in-Some.ensures.same c.in-Some.ensures.follows c.in_ok-push.ensures.items

pub returns-clause-read : goal.returns-clause-read
returns-clause-read g c = λ records before _.
    let all : c.loop-i.i ≡ filled c.args.page.now = omega (arith, c.loop-i-test.false, c.loop-i.auto.i-end, c.filled_of-i-end.ensures) in
    subst (λ (m : ℕ). AreRead c.args.layout.now.sectors (records ++ values (record_at 24 c.args.page.now) m) c.loop-i.runs.items) all (c.loop-i.invariant records before)
