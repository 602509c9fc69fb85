use Rattle.std.proofs.Common.{◌≡◌, inr, rules, false, sym, ◌∙◌}
use Rattle.std.proofs.lemmas.Bool.{true≢false}
use Rattle.labelled_disk.specs.Label.{is_free}
use Rattle.swapper_kernel.specs.GoesLaws.{went_itself, went_then}
use Rattle.swapper_kernel.proofs.StepLemmas.{went_by}
use Rattle.label_calls.proofs.SyncedCalls.{around_alone, around_stopped}
use Rattle.label_calls.proofs.label.relabel_alone.Goals as goal

pub returns-in-Err-write_label-clause-stopped_around : goal.returns-in-Err-write_label-clause-stopped_around
returns-in-Err-write_label-clause-stopped_around g c = inr (around_stopped c.args.found c.args.label c.in-Ok.ensures.synced c.sync.ensures.went (went_by c.write_label.ensures.moves))

pub returns-then-not-is_free-clause-around : goal.returns-then-not-is_free-clause-around
returns-then-not-is_free-clause-around g c =
    let other : is_free c.args.label ≡ false = search rules in
    around_alone c.args.sector c.args.found c.args.label c.sync.ensures.same c.in-Ok.ensures.synced c.sync.ensures.went c.in-Ok-write_label.ensures.writes (went_by c.write_label.ensures.moves)
    (λ free. absurd (true≢false (sym free ∙ other))) (went_itself _)

pub returns-in-Ok-sync-clause-around : goal.returns-in-Ok-sync-clause-around
returns-in-Ok-sync-clause-around g c =
    around_alone c.args.sector c.args.found c.args.label c.sync.ensures.same c.in-Ok.ensures.synced c.sync.ensures.went c.in-Ok-write_label.ensures.writes (went_by c.write_label.ensures.moves)
    (λ free. c.in-Ok-sync.ensures.synced) c.sync-2.ensures.went

pub returns-in-Err-sync-clause-stopped_around : goal.returns-in-Err-sync-clause-stopped_around
returns-in-Err-sync-clause-stopped_around g c =
    inr (around_stopped c.args.found c.args.label c.in-Ok.ensures.synced c.sync.ensures.went (went_then (went_by c.write_label.ensures.moves) c.sync-2.ensures.went))
