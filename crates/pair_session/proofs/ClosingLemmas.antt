-- The end of a pair.
use Rattle.std.proofs.Common.{◌≡◌, List, Result, Ok, Err, subst}
use Rattle.std.specs.Prelude.{IfErr, MatchResult}
use Rattle.labelled_disk.specs.Sectors.{Sector}
use Rattle.labelled_disk.specs.State.{DiskState}
use Rattle.pair_machine.specs.Pair.{Pair}
use Rattle.volume_pair.specs.CrashStates.{KeepsFiles}
use Rattle.volume_pair.specs.Ends.{HasClosed, IsWritten}
use Rattle.volume_pair.specs.Kept.{IsRootOf}
use Rattle.volume_pair.specs.Pairs.{IsFaultOfDisk, IsOfSecond}
use Rattle.volume_pair.specs.declared.fault.PairHalt.{PairHalt}
use Rattle.volume_pair.specs.declared.fault.PairHalt.TheVariants as on
use Rattle.pair_session.specs.Causes.{ShowsHalt}
use Rattle.pair_session.specs.Closing.{Finishes}
use Rattle.pair_session.specs.Pairs.{PairView, StandsFor}
use Rattle.pair_session.specs.declared.outcome.Outcome.TheVariants as outcome
use Rattle.pair_session.proofs.LeftLemmas.{closed_with}
use Rattle.pair_session.proofs.WroteLemmas.{permitted_of}

second_shows : (from to new_from new_to : DiskState) (why : PairHalt) → IsOfSecond to new_to why → ShowsHalt from to new_from new_to why
second_shows from to new_from new_to (on.From e) is = absurd is
second_shows from to new_from new_to (on.To e) is = is

-- what `finish` says of a pair, with its answer
module _ (v : PairView) (answer : Result (Unit {0}) PairHalt) (from to : DiskState)
    (closed : (p : Pair) → StandsFor v p → MatchResult answer (λ _. HasClosed p v.volume.root to) IsFaultOfDisk) (states : (p : Pair) → StandsFor v p → KeepsFiles p.to v.volume.root.serial v.volume.root.counter v.to.disk to)
    (same : from ≡ v.from.disk) (wrote : IsWritten v.to.slots v.to.disk to) where
  closed_ok : answer ≡ Ok tt → (p : Pair) → StandsFor v p → HasClosed p v.volume.root to
  closed_ok is p stands = subst (λ (a : Result (Unit {0}) PairHalt). MatchResult a (λ _. HasClosed p v.volume.root to) IsFaultOfDisk) is (closed p stands)

  pub finishes_done : answer ≡ Ok tt → Finishes outcome.Done v from to
  finishes_done is = record { shut = λ d p root stands. closed_with d v.volume.root root p to (closed_ok is p stands); crash_states = states; same = same; wrote = permitted_of wrote.went wrote.wrote; own = wrote.own; halted = tt }

  pub finishes_unheard : answer ≡ Ok tt → Finishes outcome.SinkFault v from to
  finishes_unheard is = record { shut = λ d p root stands. closed_with d v.volume.root root p to (closed_ok is p stands); crash_states = states; same = same; wrote = permitted_of wrote.went wrote.wrote; own = wrote.own; halted = tt }

  pub finishes_halted : (why : PairHalt) → answer ≡ Err why → IfErr answer (IsOfSecond v.to.disk to) → Finishes (outcome.Halted why) v from to
  finishes_halted why is shows = record {
    shut = λ d p root stands. subst (λ (a : Result (Unit {0}) PairHalt). MatchResult a (λ _. HasClosed p v.volume.root to) IsFaultOfDisk) is (closed p stands);
    crash_states = states;
    same = same;
    wrote = permitted_of wrote.went wrote.wrote;
    own = wrote.own;
    halted = second_shows v.from.disk v.to.disk from to why (subst (λ (a : Result (Unit {0}) PairHalt). IfErr a (IsOfSecond v.to.disk to)) is shows);
  }
