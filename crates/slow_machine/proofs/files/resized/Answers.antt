use Rattle.std.proofs.Common.{◌∙◌}
use Rattle.std.specs.Prelude.{if◌then◌else◌, ◌==◌}
use Rattle.flat_machine.specs.File.{File}
use Rattle.flat_machine.specs.Next.{resized}
use Rattle.slow_machine.proofs.EditLemmas.{pushed_more}
use Rattle.slow_machine.proofs.files.resized.Goals as goal

pub loop-f-preserved : goal.loop-f-preserved
loop-f-preserved g c =
    let each = λ (f : File). if f.id == c.args.id then resized c.args.pages f else f in
    c.in_ok-push.ensures.items
    ∙ pushed_more each c.args.files.now c.loop-f.made.items c.loop-f.f-index c.f-item.result c.in_ok-resized.field-0 c.loop-f-test.true c.f-item.is c.loop-f.invariant c.in_ok-resized.ensures
