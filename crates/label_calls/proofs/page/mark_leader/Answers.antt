use Rattle.std.proofs.Common.{◌≡◌, ◌⊎◌, inl, inr, rules, true, false, true≢false, sym, ◌∙◌}
use Rattle.labelled_disk.specs.Label.{names, leader_page}
use Rattle.labelled_disk.specs.Calls.{RevealsSame, RevealsWrite, Moves}
use Rattle.labelled_disk.specs.declared.disk.DiskWrite.TheVariants as write
use Rattle.labelled_disk.specs.Runs.{zero_bytes}
use Rattle.labelled_disk.specs.Sectors.{IsSector}
use Rattle.labelled_disk.specs.State.{HasLabel}
use Rattle.swapper_kernel.proofs.StepLemmas.{went_by}
use Rattle.swapper_kernel.specs.Homes.{IsLayout}
use Rattle.label_calls.specs.Labels.{ones_of, with_mark}
use Rattle.label_calls.proofs.RelabelLemmas.{in_memory, marked_laws, fresh_in_form}
use Rattle.label_calls.specs.OwnLaws.{relabels_own, same_own, read_own}
use Rattle.label_calls.specs.SyncedLaws.{syncs_around, same_synced, read_synced, read_stopped}
use Rattle.label_calls.proofs.OwnLemmas.{of_page}
use Rattle.label_calls.proofs.page.mark_leader.Goals as goal

pub returns-in-Err-clause-stopped : goal.returns-in-Err-clause-stopped
returns-in-Err-clause-stopped g c = record { written = inl (search rules); had = inl (search rules) }

pub returns-then-not-names-clause-stopped : goal.returns-then-not-names-clause-stopped
returns-then-not-names-clause-stopped g c = record { written = inl (search rules); had = inl (search rules) }

pub returns-in-Err-relabel-clause-stopped : goal.returns-in-Err-relabel-clause-stopped
returns-in-Err-relabel-clause-stopped g c =
    let old = g.D.Disk.state c.args.memory.now.disk in
    let mid = g.D.Disk.state c.read_label.new.memory.disk in
    let new = g.D.Disk.state c.relabel.new.memory.disk in
    let there : HasLabel old c.args.sector c.in-Ok.found = search rules in
    let same : RevealsSame old mid = search rules in
    let read : Moves old mid = search rules in
    let layout : IsLayout c.args.memory.now.layout = search rules in
    let named : names c.in-Ok.found (record { id = c.args.id; page = leader_page }) ≡ true = search rules in
    let form : IsSector (with_mark c.args.mark c.in-Ok.found, zero_bytes) = fresh_in_form (with_mark c.args.mark c.in-Ok.found) (search rules) (search rules) (search rules) (search rules) (search rules) in
    let laws = marked_laws c.args.memory.now.layout old mid new c.args.memory.now.pool c.args.sector c.in-Ok.found layout (λ d revealed. g.met.D.Disk.whole c.args.memory.now.disk d revealed ∙ c.requires.data.size) c.requires.data.first there same (went_by read) c.relabel.ensures.went c.args.mark c.args.id c.requires.of_file form named in
    let either : RevealsSame mid new ⊎ RevealsWrite (write.LabelOnly c.args.sector (with_mark c.args.mark c.in-Ok.found)) mid new = search rules in
    record { written = inr (c.in-Ok.found, there, laws.stopped either); had = search rules }

pub returns-clause-marked : goal.returns-clause-marked
returns-clause-marked g c =
    let old = g.D.Disk.state c.args.memory.now.disk in
    let mid = g.D.Disk.state c.read_label.new.memory.disk in
    let new = g.D.Disk.state c.relabel.new.memory.disk in
    let there : HasLabel old c.args.sector c.in-Ok.found = search rules in
    let same : RevealsSame old mid = search rules in
    let read : Moves old mid = search rules in
    let layout : IsLayout c.args.memory.now.layout = search rules in
    let named : names c.in-Ok.found (record { id = c.args.id; page = leader_page }) ≡ true = search rules in
    let form : IsSector (with_mark c.args.mark c.in-Ok.found, zero_bytes) = fresh_in_form (with_mark c.args.mark c.in-Ok.found) (search rules) (search rules) (search rules) (search rules) (search rules) in
    let laws = marked_laws c.args.memory.now.layout old mid new c.args.memory.now.pool c.args.sector c.in-Ok.found layout (λ d revealed. g.met.D.Disk.whole c.args.memory.now.disk d revealed ∙ c.requires.data.size) c.requires.data.first there same (went_by read) c.relabel.ensures.went c.args.mark c.args.id c.requires.of_file form named in
    let made : RevealsWrite (write.LabelOnly c.args.sector (with_mark c.args.mark c.in-Ok.found)) mid new = search rules in
    (c.in-Ok.found, laws.made made)

pub returns-in-Err-clause-fails : goal.returns-in-Err-clause-fails
returns-in-Err-clause-fails g c = record { sound = λ m stands one. search rules; cause = search rules; evidence_seen = search rules }

pub returns-then-not-names-clause-fails : goal.returns-then-not-names-clause-fails
returns-then-not-names-clause-fails g c = record {
  sound = λ m stands one.
      let named : names c.in-Ok.found (record { id = c.args.id; page = leader_page }) ≡ true = in_memory (ones_of (record { id = c.args.id; page = leader_page })) _ _ _ c.in-Ok.found m (search rules) stands one in
      let other : names c.in-Ok.found (record { id = c.args.id; page = leader_page }) ≡ false = search rules in
      absurd (true≢false (sym named ∙ other));
  cause = search rules;
  evidence_seen = search rules;
}

pub returns-in-Err-relabel-clause-fails : goal.returns-in-Err-relabel-clause-fails
returns-in-Err-relabel-clause-fails g c = record { sound = λ m stands one. search rules; cause = search rules; evidence_seen = search rules }

pub returns-in-Err-clause-labels : goal.returns-in-Err-clause-labels
returns-in-Err-clause-labels g c = record {
  own = relabels_own (same_own c.args.id c.read_label.ensures.same);
  around = syncs_around (same_synced true c.read_label.ensures.same (went_by c.read_label.ensures.moves));
}

pub returns-then-not-names-clause-labels : goal.returns-then-not-names-clause-labels
returns-then-not-names-clause-labels g c = record {
  own = relabels_own (same_own c.args.id c.read_label.ensures.same);
  around = syncs_around (same_synced true c.read_label.ensures.same (went_by c.read_label.ensures.moves));
}

pub returns-in-Err-relabel-clause-labels : goal.returns-in-Err-relabel-clause-labels
returns-in-Err-relabel-clause-labels g c =
    let there : HasLabel (g.D.Disk.state c.args.memory.now.disk) c.args.sector c.in-Ok.found = search rules in
    let named : names c.in-Ok.found (record { id = c.args.id; page = leader_page }) ≡ true = search rules in
    record {
      own = read_own c.args.sector c.in-Ok.found _ there (of_page (record { id = c.args.id; page = leader_page }) c.in-Ok.found named) c.read_label.ensures.same c.in-Err-relabel.ensures.stopped;
      around = read_stopped c.args.sector c.in-Ok.found c.on.result there c.read_label.ensures.same (went_by c.read_label.ensures.moves) c.in-Err-relabel.ensures.stopped c.relabel.ensures.went c.in-Err-relabel.ensures.stopped_around;
    }

pub returns-clause-labels : goal.returns-clause-labels
returns-clause-labels g c =
    let there : HasLabel (g.D.Disk.state c.args.memory.now.disk) c.args.sector c.in-Ok.found = search rules in
    let named : names c.in-Ok.found (record { id = c.args.id; page = leader_page }) ≡ true = search rules in
    record {
      own = read_own c.args.sector c.in-Ok.found _ there (of_page (record { id = c.args.id; page = leader_page }) c.in-Ok.found named) c.read_label.ensures.same (inr c.in-Ok-relabel.ensures.writes);
      around = read_synced c.args.sector c.in-Ok.found c.on.result there c.read_label.ensures.same (went_by c.read_label.ensures.moves) c.in-Ok-relabel.ensures.writes c.relabel.ensures.went c.in-Ok-relabel.ensures.around;
    }
