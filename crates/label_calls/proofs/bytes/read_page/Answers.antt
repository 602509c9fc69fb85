use Rattle.std.proofs.Common.{◌≡◌, rules, true, false}
use Rattle.labelled_disk.specs.Calls.{RevealsSame, Moves}
use Rattle.labelled_disk.specs.Label.{names}
use Rattle.swapper_kernel.proofs.StepLemmas.{step_laws}
use Rattle.label_calls.specs.Labels.{ones_of}
use Rattle.label_calls.proofs.BytesLemmas.{not_named}
use Rattle.label_calls.proofs.RelabelLemmas.{in_memory}
use Rattle.label_calls.proofs.bytes.read_page.Goals as goal

pub returns-in-Err-clause-makes : goal.returns-in-Err-clause-makes
returns-in-Err-clause-makes g c =
    let same : RevealsSame (g.D.Disk.state c.args.memory.now.disk) (g.D.Disk.state c.read.new.self) = search rules in
    let moves : Moves (g.D.Disk.state c.args.memory.now.disk) (g.D.Disk.state c.read.new.self) = search rules in
    (step_laws.read _ _ c.args.memory.now.pool same moves).makes

pub returns-then-not-names-clause-makes : goal.returns-then-not-names-clause-makes
returns-then-not-names-clause-makes g c =
    let same : RevealsSame (g.D.Disk.state c.args.memory.now.disk) (g.D.Disk.state c.read.new.self) = search rules in
    let moves : Moves (g.D.Disk.state c.args.memory.now.disk) (g.D.Disk.state c.read.new.self) = search rules in
    (step_laws.read _ _ c.args.memory.now.pool same moves).makes

pub returns-clause-makes : goal.returns-clause-makes
returns-clause-makes g c =
    let same : RevealsSame (g.D.Disk.state c.args.memory.now.disk) (g.D.Disk.state c.read.new.self) = search rules in
    let moves : Moves (g.D.Disk.state c.args.memory.now.disk) (g.D.Disk.state c.read.new.self) = search rules in
    (step_laws.read _ _ c.args.memory.now.pool same moves).makes

pub returns-then-not-names-clause-fails : goal.returns-then-not-names-clause-fails
returns-then-not-names-clause-fails g c = record {
  sound = λ m stands one.
      let named : names c.in-Ok.found c.args.wanted ≡ true = in_memory (ones_of c.args.wanted) _ _ _ c.in-Ok.found m (search rules) stands one in
      let other : names c.in-Ok.found c.args.wanted ≡ false = search rules in
      absurd (not_named c.args.wanted c.in-Ok.found other named);
  cause = search rules;
  evidence_seen = search rules;
}

pub returns-in-Err-clause-fails : goal.returns-in-Err-clause-fails
returns-in-Err-clause-fails g c = record { sound = λ m stands one. search rules; cause = search rules; evidence_seen = search rules }
