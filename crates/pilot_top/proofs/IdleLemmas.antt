-- A turn in which no call was carried out.
use Rattle.std.proofs.Common.{◌≢◌, refl}
use Rattle.labelled_disk.specs.declared.disk.Disk.{Ghosts}
use Rattle.labelled_disk.specs.declared.evidence.Halt.{Halt}
use Rattle.fault_core.specs.Core.{state}
use Rattle.file_manager.specs.Creating.{next_id}
use Rattle.file_manager.specs.Reasons.{InitialState, IsNotOlder, KeepsOn}
use Rattle.file_manager.specs.RetoldLaws.{on_giving}
use Rattle.pilot_engine.specs.declared.session.Session.{Session}
use Rattle.pilot_engine.specs.Referring.{TakesCalls}
use Rattle.pilot_top.specs.Turn.{stops_session}
use Rattle.pilot_top.specs.Turning.{AccountsTurn, StaysInTurn, WritesTurn}
use Rattle.pilot_top.specs.declared.turn.Turn.{Turn}
use Rattle.pilot_top.specs.declared.turn.Turn.TheVariants as turn
use Rattle.pilot_top.proofs.ApartRuns.{apart_none, apart_of_any}
use Rattle.pilot_top.proofs.RootLemmas.{turns_none}
use Rattle.pilot_top.proofs.TurnLemmas.{nothing_wrote}

-- nothing is done to the session
module _ {D A : Type 0} {G : Ghosts D} (s : Session D A G) (t : Turn) where
  pub idle_accounts : {o : InitialState} → ((why : Halt) → t ≢ turn.Halts why) → KeepsOn o s.core.filer → IsNotOlder o s.volume.root → AccountsTurn o t s s
  idle_accounts {o = o} other keeps not_older = record {
    keeps_to = λ going. on_giving o s.core.filer (next_id s.volume.root) keeps not_older.next;
    reasons = λ why is. absurd (other why is);
    sees = λ seen going. seen;
    right = λ seen why is. absurd (other why is);
  }

  pub idle_stays : TakesCalls s → StaysInTurn t s s
  idle_stays ready = record { idle = λ is. refl; going = λ is. ready.running; open_still = ready.opened; layout = refl }

  pub idle_writes : WritesTurn t s s
  idle_writes = record {
    wrote = nothing_wrote (state s.core).disk (state s.core).slots;
    roots = turns_none s.volume.root (state s.core).disk;
    apart = λ m is. apart_of_any (stops_session t) (apart_none (record { contents = refl; writes = refl }));
  }
