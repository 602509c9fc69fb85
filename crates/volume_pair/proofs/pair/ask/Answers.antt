use Rattle.std.proofs.Common.{refl}
use Rattle.filer_kernel.specs.View.{view_of}
use Rattle.volume_pair.proofs.AskLemmas.{compare_replies, in_use_still, looked_only, no_copy}
use Rattle.volume_pair.proofs.CostLemmas.{compare_less}
use Rattle.volume_pair.proofs.CopyLemmas.{keeps_numbers}
use Rattle.volume_pair.proofs.CopyStateLemmas.{compare_writes, copy_writes}
use Rattle.volume_pair.proofs.WriteLemmas.{looked_written}
use Rattle.volume_pair.proofs.pair.ask.Goals as goal

pub returns-in-Copy-clause-replies : goal.returns-in-Copy-clause-replies
returns-in-Copy-clause-replies g c = rw c.in-Copy.is c.copy.ensures.replies

pub returns-in-Copy-clause-in_use : goal.returns-in-Copy-clause-in_use
returns-in-Copy-clause-in_use g c = record { in_use = in_use_still c.requires.in_use c.copy.ensures.from_looks c.copy.ensures.to_writes c.copy.ensures.volume; same_root = c.copy.ensures.volume.root }

pub returns-in-Copy-clause-from : goal.returns-in-Copy-clause-from
returns-in-Copy-clause-from g c = looked_only c.requires.in_use.clean c.copy.ensures.from_looks

pub returns-in-Compare-clause-replies : goal.returns-in-Compare-clause-replies
returns-in-Compare-clause-replies g c = rw c.in-Compare.is (λ p h. compare_replies p _ _ _ _ c.compare.result h (c.compare.ensures.compared p.from p.to h.first h.second h.from_is h.to_is))

pub returns-in-Compare-clause-in_use : goal.returns-in-Compare-clause-in_use
returns-in-Compare-clause-in_use g c = record {
  in_use = in_use_still c.requires.in_use c.compare.ensures.from_looks (looked_written 0 c.compare.ensures.to_looks) (keeps_numbers c.args.volume.now);
  same_root = refl;
}

pub returns-in-Compare-clause-from : goal.returns-in-Compare-clause-from
returns-in-Compare-clause-from g c = looked_only c.requires.in_use.clean c.compare.ensures.from_looks

pub returns-in-Compare-clause-to : goal.returns-in-Compare-clause-to
returns-in-Compare-clause-to g c = rw c.in-Compare.is (compare_writes (view_of c.args.from.now) (view_of c.args.to.now) c.args.volume.now c.in-Compare.id c.compare.result (view_of c.compare.new.to) c.compare.ensures.to_looks)

pub returns-in-Copy-clause-to : goal.returns-in-Copy-clause-to
returns-in-Copy-clause-to g c = rw c.in-Copy.is (copy_writes (view_of c.args.from.now) (view_of c.args.to.now) c.args.volume.now c.in-Copy.id c.copy.result (view_of c.copy.new.to) c.copy.ensures.to_writes c.copy.ensures.around c.copy.ensures.crash_states)

pub returns-in-Copy-clause-leaves : goal.returns-in-Copy-clause-leaves
returns-in-Copy-clause-leaves g c = c.copy.ensures.leaves

pub returns-in-Compare-clause-leaves : goal.returns-in-Compare-clause-leaves
returns-in-Compare-clause-leaves g c = no_copy (view_of c.args.to.now) (view_of c.compare.new.to) c.compare.result c.compare.ensures.to_looks c.compare.ensures.not_done

pub returns-in-Copy-clause-cost : goal.returns-in-Copy-clause-cost
returns-in-Copy-clause-cost g c = rw c.in-Copy.is c.copy.ensures.cost

pub returns-in-Compare-clause-cost : goal.returns-in-Compare-clause-cost
returns-in-Compare-clause-cost g c = rw c.in-Compare.is (λ p h. compare_less p _ _ _ _ _ (c.compare.ensures.cost p.from p.to h.first h.second h.from_is h.to_is))
