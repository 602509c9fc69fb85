use Rattle.std.proofs.Common.{◌∙◌, rules}
use Rattle.label_calls.specs.ClearedLaws.{quiet_after}
use Rattle.label_calls.proofs.ClearedCalls.{clears_then_same, cleared_made, cleared_stopped, cleared_fails, cleared_own, stopped_own, none_made, none_own, fault_fails, cleared_after_sync}
use Rattle.label_calls.proofs.cleared.make_cleared_pages.Goals as goal

-- ---- The clearing failed.

pub returns-in-Err-clause-stopped : goal.returns-in-Err-clause-stopped
returns-in-Err-clause-stopped g c = none_made _ _ _ c.in-Err.ensures.writes

pub returns-in-Err-clause-fails : goal.returns-in-Err-clause-fails
returns-in-Err-clause-fails g c = record { sound = λ m stands right. search rules; cause = search rules; evidence_seen = search rules }

pub returns-in-Err-clause-own : goal.returns-in-Err-clause-own
returns-in-Err-clause-own g c = λ other. none_own other c.in-Err.ensures.writes

pub returns-in-Err-clause-cleared : goal.returns-in-Err-clause-cleared
returns-in-Err-clause-cleared g c = quiet_after c.in-Err.ensures.writes

-- ---- The sync failed.

pub returns-in-Err-sync-clause-stopped : goal.returns-in-Err-sync-clause-stopped
returns-in-Err-sync-clause-stopped g c = none_made _ _ _ (clears_then_same c.in-Ok.ensures.writes c.sync.ensures.same c.sync.ensures.went).makes

pub returns-in-Err-sync-clause-fails : goal.returns-in-Err-sync-clause-fails
returns-in-Err-sync-clause-fails g c = fault_fails _ (g.D.Disk.state c.clear_pages.new.memory.disk) _ _ _ c.in-Err-sync.halt c.in-Ok.ensures.writes.makes.went.faults c.in-Err-sync.ensures.cause

pub returns-in-Err-sync-clause-own : goal.returns-in-Err-sync-clause-own
returns-in-Err-sync-clause-own g c = λ other. none_own other (clears_then_same c.in-Ok.ensures.writes c.sync.ensures.same c.sync.ensures.went).makes

pub returns-in-Err-sync-clause-cleared : goal.returns-in-Err-sync-clause-cleared
returns-in-Err-sync-clause-cleared g c = quiet_after (clears_then_same c.in-Ok.ensures.writes c.sync.ensures.same c.sync.ensures.went).makes

-- ---- The pages could not be made, or not all of them.

pub returns-in-Err-make_pages-clause-stopped : goal.returns-in-Err-make_pages-clause-stopped
returns-in-Err-make_pages-clause-stopped g c =
    cleared_stopped c.in-Ok.ensures.writes c.sync.ensures.same c.sync.ensures.went (c.sync.ensures.frames ∙ c.clear_pages.ensures.frames) _ c.in-Err-make_pages.ensures.stopped

pub returns-in-Err-make_pages-clause-fails : goal.returns-in-Err-make_pages-clause-fails
returns-in-Err-make_pages-clause-fails g c =
    cleared_fails c.in-Ok.ensures.writes c.sync.ensures.same c.sync.ensures.went (c.sync.ensures.frames ∙ c.clear_pages.ensures.frames) c.in-Err-make_pages.halt c.in-Err-make_pages.ensures.fails

pub returns-in-Err-make_pages-clause-own : goal.returns-in-Err-make_pages-clause-own
returns-in-Err-make_pages-clause-own g c = λ other.
    stopped_own c.in-Ok.ensures.writes c.sync.ensures.same c.sync.ensures.went (c.sync.ensures.frames ∙ c.clear_pages.ensures.frames) other c.args.id c.args.kind c.args.page c.in-Err-make_pages.ensures.stopped

pub returns-in-Err-make_pages-clause-cleared : goal.returns-in-Err-make_pages-clause-cleared
returns-in-Err-make_pages-clause-cleared g c =
    cleared_after_sync c.in-Ok.ensures.writes c.sync.ensures.same c.in-Ok-sync.ensures.synced c.sync.ensures.makes c.in-Err-make_pages.ensures.stopped.makes c.make_pages.ensures.fresh

-- ---- All of them were made.

pub returns-clause-made : goal.returns-clause-made
returns-clause-made g c =
    cleared_made c.in-Ok.ensures.writes c.sync.ensures.same c.sync.ensures.went (c.sync.ensures.frames ∙ c.clear_pages.ensures.frames) c.args.id c.args.kind c.args.page c.in-Ok-make_pages.ensures.made

pub returns-clause-own : goal.returns-clause-own
returns-clause-own g c = λ other.
    cleared_own c.in-Ok.ensures.writes c.sync.ensures.same c.sync.ensures.went (c.sync.ensures.frames ∙ c.clear_pages.ensures.frames) other c.args.id c.args.kind c.args.page c.in-Ok-make_pages.ensures.made

pub returns-clause-cleared : goal.returns-clause-cleared
returns-clause-cleared g c =
    cleared_after_sync c.in-Ok.ensures.writes c.sync.ensures.same c.in-Ok-sync.ensures.synced c.sync.ensures.makes c.in-Ok-make_pages.ensures.made.relabels.makes c.make_pages.ensures.fresh
