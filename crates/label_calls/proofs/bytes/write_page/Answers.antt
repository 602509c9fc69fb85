use Rattle.std.proofs.Common.{◌≡◌, ◌⊎◌, rules, true, false}
use Rattle.labelled_disk.specs.declared.disk.DiskWrite.TheVariants as write
use Rattle.labelled_disk.specs.Calls.{RevealsSame, RevealsWrite, Moves}
use Rattle.labelled_disk.specs.Label.{names}
use Rattle.labelled_disk.specs.State.{NamesThere}
use Rattle.swapper_kernel.proofs.StepLemmas.{went_by}
use Rattle.label_calls.specs.Labels.{ones_of}
use Rattle.label_calls.proofs.BytesLemmas.{may_write, not_named, page_form, was_written}
use Rattle.label_calls.proofs.RelabelLemmas.{in_memory}
use Rattle.label_calls.proofs.bytes.write_page.Goals as goal

pub returns-in-Ok-clause-written : goal.returns-in-Ok-clause-written
returns-in-Ok-clause-written g c =
    let old = g.D.Disk.state c.args.memory.now.disk in
    let new = g.D.Disk.state c.write_data.new.self in
    let form = page_form c.args.bytes.now c.told-bytes c.fits-bytes in
    let made : RevealsWrite (write.Page c.args.sector c.args.wanted c.args.bytes.now) old new = search rules in
    let named : NamesThere old c.args.sector c.args.wanted true = search rules in
    let moves : Moves old new = search rules in
    was_written c.args.sector c.args.wanted c.args.bytes.now old new c.args.memory.now.pool c.requires.not_root form made named (went_by moves)

pub returns-in-Err-Failed-clause-stopped : goal.returns-in-Err-Failed-clause-stopped
returns-in-Err-Failed-clause-stopped g c =
    let old = g.D.Disk.state c.args.memory.now.disk in
    let new = g.D.Disk.state c.write_data.new.self in
    let form = page_form c.args.bytes.now c.told-bytes c.fits-bytes in
    let either : RevealsSame old new ⊎ (RevealsWrite (write.Page c.args.sector c.args.wanted c.args.bytes.now) old new × NamesThere old c.args.sector c.args.wanted true) = search rules in
    let moves : Moves old new = search rules in
    may_write c.args.sector c.args.wanted c.args.bytes.now old new c.args.memory.now.pool c.requires.not_root form (went_by moves) either

pub returns-in-Err-Wrong-clause-fails : goal.returns-in-Err-Wrong-clause-fails
returns-in-Err-Wrong-clause-fails g c = record {
  sound = λ m stands one.
      let named : names c.in-Err-Wrong.found c.args.wanted ≡ true = in_memory (ones_of c.args.wanted) _ _ _ c.in-Err-Wrong.found m (search rules) stands one in
      let other : names c.in-Err-Wrong.found c.args.wanted ≡ false = search rules in
      absurd (not_named c.args.wanted c.in-Err-Wrong.found other named);
  cause = search rules;
  evidence_seen = search rules;
}

pub returns-in-Err-Failed-clause-fails : goal.returns-in-Err-Failed-clause-fails
returns-in-Err-Failed-clause-fails g c = record { sound = λ m stands one. search rules; cause = search rules; evidence_seen = search rules }
