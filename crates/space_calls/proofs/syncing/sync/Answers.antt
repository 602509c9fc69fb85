use Rattle.std.proofs.Common.{rules, refl}
use Rattle.labelled_disk.specs.Calls.{Rose, Syncs}
use Rattle.fault_core.specs.Core.{state}
use Rattle.swapper_kernel.specs.SyncLaws.{synced_went}
use Rattle.space_calls.proofs.SettledCore.{settled_reaches, settled_revealed}
use Rattle.space_calls.proofs.SeesLemmas.{reached_sees}
use Rattle.space_calls.proofs.syncing.sync.Goals as goal

pub returns-in-Ok-clause-waits : goal.returns-in-Ok-clause-waits
returns-in-Ok-clause-waits g c =
    let syncs : Syncs (state c.args.core.now).disk c.sync.result (g.D.Disk.state c.sync.new.self) = search rules in
    let went = synced_went _ _ c.sync.result syncs in
    let reaches = settled_reaches (state c.args.core.now) (g.D.Disk.state c.sync.new.self) went syncs.same in
    record {
      reaches = reaches;
      same = syncs.same;
      frames = refl;
      layout = refl;
      runs = refl;
      kept = refl;
      intervals = refl;
      known = λ x named ss. settled_revealed _ _ went syncs.same _ _ x named ss;
      still = λ ss s. reached_sees reaches refl refl s;
    }

pub returns-in-Err-clause-waits : goal.returns-in-Err-clause-waits
returns-in-Err-clause-waits g c =
    let syncs : Syncs (state c.args.core.now).disk c.sync.result (g.D.Disk.state c.sync.new.self) = search rules in
    let went = synced_went _ _ c.sync.result syncs in
    let reaches = settled_reaches (state c.args.core.now) (g.D.Disk.state c.sync.new.self) went syncs.same in
    record {
      reaches = reaches;
      same = syncs.same;
      frames = refl;
      layout = refl;
      runs = refl;
      kept = refl;
      intervals = refl;
      known = λ x named ss. settled_revealed _ _ went syncs.same _ _ x named ss;
      still = λ ss s. reached_sees reaches refl refl s;
    }

pub returns-in-Err-clause-fails : goal.returns-in-Err-clause-fails
returns-in-Err-clause-fails g c =
    let rose : Rose (state c.args.core.now).disk.faults (g.D.Disk.state c.sync.new.self).faults = search rules in
    record { cause = refl; counted = λ is. rose; evidence_seen = tt; right = λ s. tt }
