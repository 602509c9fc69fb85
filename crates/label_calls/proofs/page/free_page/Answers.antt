use Rattle.std.proofs.Common.{◌≡◌, inl, inr, rules, true, false, true≢false, sym, ◌∙◌}
use Rattle.labelled_disk.specs.Label.{names}
use Rattle.labelled_disk.specs.Calls.{RevealsSame, Moves}
use Rattle.labelled_disk.specs.Sectors.{free_label}
use Rattle.labelled_disk.specs.State.{HasLabel}
use Rattle.swapper_kernel.proofs.StepLemmas.{went_by}
use Rattle.swapper_kernel.specs.Homes.{IsLayout}
use Rattle.label_calls.specs.Labels.{ones_of}
use Rattle.label_calls.proofs.RelabelLemmas.{had_one, in_memory, freed_laws}
use Rattle.label_calls.specs.OwnLaws.{relabels_own, same_own, read_own}
use Rattle.label_calls.specs.SyncedLaws.{syncs_around, same_synced, read_synced, read_stopped}
use Rattle.label_calls.proofs.OwnLemmas.{of_page}
use Rattle.label_calls.proofs.page.free_page.Goals as goal

pub returns-then-not-names-clause-stopped : goal.returns-then-not-names-clause-stopped
returns-then-not-names-clause-stopped g c = inl (search rules)

pub returns-in-Err-relabel-clause-stopped : goal.returns-in-Err-relabel-clause-stopped
returns-in-Err-relabel-clause-stopped g c =
    let old = g.D.Disk.state c.args.memory.now.disk in
    let mid = g.D.Disk.state c.read_label.new.memory.disk in
    let new = g.D.Disk.state c.relabel.new.memory.disk in
    let there : HasLabel old c.args.sector c.in-Ok.found = search rules in
    let same : RevealsSame old mid = search rules in
    let read : Moves old mid = search rules in
    let layout : IsLayout c.args.memory.now.layout = search rules in
    let named : names c.in-Ok.found c.args.wanted ≡ true = search rules in
    inr (
      had_one old mid c.args.memory.now.pool c.args.sector c.in-Ok.found there same (went_by read) (ones_of c.args.wanted) named,
      (freed_laws c.args.memory.now.layout old mid new c.args.memory.now.pool c.args.sector c.in-Ok.found layout (λ d revealed. g.met.D.Disk.whole c.args.memory.now.disk d revealed ∙ c.requires.data.size) c.requires.data.first there same (went_by read) c.relabel.ensures.went c.args.wanted c.requires.of_file named).stopped c.in-Err-relabel.ensures.stopped,
    )

pub returns-clause-freed : goal.returns-clause-freed
returns-clause-freed g c =
    let old = g.D.Disk.state c.args.memory.now.disk in
    let mid = g.D.Disk.state c.read_label.new.memory.disk in
    let new = g.D.Disk.state c.relabel.new.memory.disk in
    let there : HasLabel old c.args.sector c.in-Ok.found = search rules in
    let same : RevealsSame old mid = search rules in
    let read : Moves old mid = search rules in
    let layout : IsLayout c.args.memory.now.layout = search rules in
    let named : names c.in-Ok.found c.args.wanted ≡ true = search rules in
    (freed_laws c.args.memory.now.layout old mid new c.args.memory.now.pool c.args.sector c.in-Ok.found layout (λ d revealed. g.met.D.Disk.whole c.args.memory.now.disk d revealed ∙ c.requires.data.size) c.requires.data.first there same (went_by read) c.relabel.ensures.went c.args.wanted c.requires.of_file named).made c.in-Ok-relabel.ensures.writes

pub returns-in-Err-clause-fails : goal.returns-in-Err-clause-fails
returns-in-Err-clause-fails g c = record { sound = λ m stands one. search rules; cause = search rules; evidence_seen = search rules }

pub returns-then-not-names-clause-fails : goal.returns-then-not-names-clause-fails
returns-then-not-names-clause-fails g c = record {
  sound = λ m stands one.
      let named : names c.in-Ok.found c.args.wanted ≡ true = in_memory (ones_of c.args.wanted) _ _ _ c.in-Ok.found m (search rules) stands one in
      let other : names c.in-Ok.found c.args.wanted ≡ false = search rules in
      absurd (true≢false (sym named ∙ other));
  cause = search rules;
  evidence_seen = search rules;
}

pub returns-in-Err-relabel-clause-fails : goal.returns-in-Err-relabel-clause-fails
returns-in-Err-relabel-clause-fails g c = record { sound = λ m stands one. search rules; cause = search rules; evidence_seen = search rules }

pub returns-in-Err-clause-labels : goal.returns-in-Err-clause-labels
returns-in-Err-clause-labels g c = record {
  own = relabels_own (same_own c.args.wanted.id c.read_label.ensures.same);
  around = syncs_around (same_synced true c.read_label.ensures.same (went_by c.read_label.ensures.moves));
}

pub returns-then-not-names-clause-labels : goal.returns-then-not-names-clause-labels
returns-then-not-names-clause-labels g c = record {
  own = relabels_own (same_own c.args.wanted.id c.read_label.ensures.same);
  around = syncs_around (same_synced true c.read_label.ensures.same (went_by c.read_label.ensures.moves));
}

pub returns-in-Err-relabel-clause-labels : goal.returns-in-Err-relabel-clause-labels
returns-in-Err-relabel-clause-labels g c =
    let there : HasLabel (g.D.Disk.state c.args.memory.now.disk) c.args.sector c.in-Ok.found = search rules in
    let named : names c.in-Ok.found c.args.wanted ≡ true = search rules in
    record {
      own = read_own c.args.sector c.in-Ok.found free_label there (of_page c.args.wanted c.in-Ok.found named) c.read_label.ensures.same c.in-Err-relabel.ensures.stopped;
      around = read_stopped c.args.sector c.in-Ok.found free_label there c.read_label.ensures.same (went_by c.read_label.ensures.moves) c.in-Err-relabel.ensures.stopped c.relabel.ensures.went c.in-Err-relabel.ensures.stopped_around;
    }

pub returns-clause-labels : goal.returns-clause-labels
returns-clause-labels g c =
    let there : HasLabel (g.D.Disk.state c.args.memory.now.disk) c.args.sector c.in-Ok.found = search rules in
    let named : names c.in-Ok.found c.args.wanted ≡ true = search rules in
    record {
      own = read_own c.args.sector c.in-Ok.found free_label there (of_page c.args.wanted c.in-Ok.found named) c.read_label.ensures.same (inr c.in-Ok-relabel.ensures.writes);
      around = read_synced c.args.sector c.in-Ok.found free_label there c.read_label.ensures.same (went_by c.read_label.ensures.moves) c.in-Ok-relabel.ensures.writes c.relabel.ensures.went c.in-Ok-relabel.ensures.around;
    }
