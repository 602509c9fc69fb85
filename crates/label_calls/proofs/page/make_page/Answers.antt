use Rattle.std.proofs.Common.{◌≡◌, inl, inr, rules, true, false, true≢false, sym, ◌∙◌}
use Rattle.labelled_disk.specs.Label.{is_free}
use Rattle.labelled_disk.specs.Calls.{RevealsSame, Moves}
use Rattle.labelled_disk.specs.Runs.{zero_bytes}
use Rattle.labelled_disk.specs.Sectors.{IsSector}
use Rattle.labelled_disk.specs.State.{HasLabel}
use Rattle.swapper_kernel.proofs.StepLemmas.{went_by}
use Rattle.swapper_kernel.specs.Homes.{IsLayout}
use Rattle.label_calls.specs.Labels.{free_ones}
use Rattle.label_calls.proofs.RelabelLemmas.{in_memory, had_one, fresh_laws, fresh_in_form}
use Rattle.label_calls.specs.OwnLaws.{relabels_own, same_own, fresh_own}
use Rattle.label_calls.proofs.FreshLemmas.{fresh_alone}
use Rattle.label_calls.proofs.page.make_page.Goals as goal

pub returns-then-not-is_free-clause-stopped : goal.returns-then-not-is_free-clause-stopped
returns-then-not-is_free-clause-stopped g c = inl (search rules)

pub returns-in-Err-write_fresh-clause-stopped : goal.returns-in-Err-write_fresh-clause-stopped
returns-in-Err-write_fresh-clause-stopped g c =
    let old = g.D.Disk.state c.args.memory.now.disk in
    let mid = g.D.Disk.state c.read_label.new.memory.disk in
    let new = g.D.Disk.state c.write_fresh.new.memory.disk in
    let there : HasLabel old c.args.sector c.in-Ok.found = search rules in
    let same : RevealsSame old mid = search rules in
    let read : Moves old mid = search rules in
    let moves : Moves mid new = search rules in
    let layout : IsLayout c.args.memory.now.layout = search rules in
    let free : is_free c.in-Ok.found ≡ true = search rules in
    let form : IsSector (c.args.label, zero_bytes) = fresh_in_form c.args.label (search rules) (search rules) (search rules) (search rules) (search rules) in
    inr (
      had_one old mid c.args.memory.now.pool c.args.sector c.in-Ok.found there same (went_by read) free_ones free,
      (fresh_laws c.args.memory.now.layout old mid new c.args.memory.now.pool c.args.sector c.in-Ok.found layout (λ d revealed. g.met.D.Disk.whole c.args.memory.now.disk d revealed ∙ c.requires.data.size) c.requires.data.first there same (went_by read) (went_by moves) c.args.label c.requires.form form free).stopped c.in-Err-write_fresh.ensures.writes,
    )

pub returns-clause-made : goal.returns-clause-made
returns-clause-made g c =
    let old = g.D.Disk.state c.args.memory.now.disk in
    let mid = g.D.Disk.state c.read_label.new.memory.disk in
    let new = g.D.Disk.state c.write_fresh.new.memory.disk in
    let there : HasLabel old c.args.sector c.in-Ok.found = search rules in
    let same : RevealsSame old mid = search rules in
    let read : Moves old mid = search rules in
    let moves : Moves mid new = search rules in
    let layout : IsLayout c.args.memory.now.layout = search rules in
    let free : is_free c.in-Ok.found ≡ true = search rules in
    let form : IsSector (c.args.label, zero_bytes) = fresh_in_form c.args.label (search rules) (search rules) (search rules) (search rules) (search rules) in
    (fresh_laws c.args.memory.now.layout old mid new c.args.memory.now.pool c.args.sector c.in-Ok.found layout (λ d revealed. g.met.D.Disk.whole c.args.memory.now.disk d revealed ∙ c.requires.data.size) c.requires.data.first there same (went_by read) (went_by moves) c.args.label c.requires.form form free).made c.in-Ok-write_fresh.ensures.writes

pub returns-in-Err-clause-own : goal.returns-in-Err-clause-own
returns-in-Err-clause-own g c = λ other. relabels_own (same_own other c.read_label.ensures.same)

pub returns-then-not-is_free-clause-own : goal.returns-then-not-is_free-clause-own
returns-then-not-is_free-clause-own g c = λ other. relabels_own (same_own other c.read_label.ensures.same)

pub returns-in-Err-write_fresh-clause-own : goal.returns-in-Err-write_fresh-clause-own
returns-in-Err-write_fresh-clause-own g c = λ other. fresh_own other c.args.sector c.args.label zero_bytes c.read_label.ensures.same c.in-Err-write_fresh.ensures.writes

pub returns-clause-own : goal.returns-clause-own
returns-clause-own g c = λ other. fresh_own other c.args.sector c.args.label zero_bytes c.read_label.ensures.same (inr c.in-Ok-write_fresh.ensures.writes)

pub returns-in-Err-clause-fails : goal.returns-in-Err-clause-fails
returns-in-Err-clause-fails g c = record { sound = λ m stands one. search rules; cause = search rules; evidence_seen = search rules }

pub returns-then-not-is_free-clause-fails : goal.returns-then-not-is_free-clause-fails
returns-then-not-is_free-clause-fails g c = record {
  sound = λ m stands one.
      let free : is_free c.in-Ok.found ≡ true = in_memory free_ones _ _ _ c.in-Ok.found m (search rules) stands one in
      let taken : is_free c.in-Ok.found ≡ false = search rules in
      absurd (true≢false (sym free ∙ taken));
  cause = search rules;
  evidence_seen = search rules;
}

pub returns-in-Err-write_fresh-clause-fails : goal.returns-in-Err-write_fresh-clause-fails
returns-in-Err-write_fresh-clause-fails g c = record { sound = λ m stands one. search rules; cause = search rules; evidence_seen = search rules }

pub returns-in-Err-write_fresh-clause-alone : goal.returns-in-Err-write_fresh-clause-alone
returns-in-Err-write_fresh-clause-alone g c =
    let old = g.D.Disk.state c.args.memory.now.disk in
    let mid = g.D.Disk.state c.read_label.new.memory.disk in
    let there : HasLabel old c.args.sector c.in-Ok.found = search rules in
    let same : RevealsSame old mid = search rules in
    let read : Moves old mid = search rules in
    let free : is_free c.in-Ok.found ≡ true = search rules in
    fresh_alone c.args.sector c.args.label same (had_one old mid c.args.memory.now.pool c.args.sector c.in-Ok.found there same (went_by read) free_ones free) c.in-Err-write_fresh.ensures.writes
