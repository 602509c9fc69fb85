-- A core after calls that only look.
use Rattle.std.proofs.Common.{◌≡◌, List, None, Some, Result, Ok, Err, inl, refl, subst, ◌∙◌}
use Rattle.std.specs.Prelude.{MatchResult}
use Rattle.labelled_disk.specs.declared.disk.Disk.{Ghosts}
use Rattle.labelled_disk.specs.declared.evidence.Halt.{Halt}
use Rattle.labelled_disk.specs.declared.evidence.Halt.TheVariants as halt
use Rattle.labelled_disk.specs.Sectors.{Sector}
use Rattle.file_map.specs.FileMap.{Triples}
use Rattle.flat_machine.specs.declared.call.Call.{Call}
use Rattle.flat_machine.specs.declared.call.Refusal.{Refusal}
use Rattle.flat_machine.specs.declared.call.Reply.{Reply}
use Rattle.flat_machine.specs.declared.call.Reply.TheVariants as reply
use Rattle.flat_machine.specs.declared.space.Space.{Space}
use Rattle.flat_machine.specs.Allows.{Answers as AllowedAs}
use Rattle.flat_machine.specs.Machine.{Machine}
use Rattle.flat_machine.specs.Next.{next}
use Rattle.flat_machine.specs.Refusal.{refusal}
use Rattle.swapper_kernel.specs.GoesLaws.{makes_then}
use Rattle.swapper_kernel.specs.HaltLaws.{brings_then}
use Rattle.filer_kernel.specs.View.{FitsLayout, accepted}
use Rattle.fault_core.specs.declared.core_over.Core.{Core}
use Rattle.fault_core.specs.Core.{Knows, state}
use Rattle.fault_core.specs.Reach.{BringsOwn, Reaches}
use Rattle.fault_core.proofs.ReachLemmas.{reaches_itself, reaches_then}
use Rattle.table_calls.specs.Answers.{Asked, Retabled}
use Rattle.file_manager.specs.declared.volume.Volume.{Volume}
use Rattle.running_words.specs.Running.{Carried, Runs}
use Rattle.running_words.specs.Session.{AreInForm}
use Rattle.running_words.specs.Stages.{Passes}
use Rattle.space_calls.specs.Calls.{Answers, Looks}
use Rattle.space_calls.specs.Outcomes.{WaitsFor}
use Rattle.space_calls.specs.Sees.{StillSees}
use Rattle.space_calls.proofs.CarryLemmas.{allowed_done, refused_carried}
use Rattle.space_calls.proofs.RangeLemmas.{no_frame_came}
use Rattle.space_calls.proofs.RunLemmas.{if_failed, if_revealed, knows, moved_size, quiet_passes, reached_makes, reached_runs, retabled_makes, retabled_then, size_kept}

module _ {D A : Type 0} {G : Ghosts D} where
  pub looks_itself : (core : Core D A G) → Looks core core
  looks_itself core = record {
    runs = λ volume m r. r;
    still = λ ss sees. sees;
    reaches = reaches_itself (state core);
    came = record { homes = λ home held. inl held };
    makes = reached_makes (reaches_itself (state core));
    layout = refl;
    intervals = refl;
  }

  -- pages were found and brought in, and what is known of the core stayed so
  pub looks_reached : {old new : Core D A G} → FitsLayout (state old) → Reaches (state old) (state new) → BringsOwn (state old).slots (state new).slots → new.intervals ≡ old.intervals
      → ((m : List Sector) (named : Triples) (spaces : List Space) → Knows old m named spaces → Knows new m named spaces) → StillSees old new → Looks old new
  looks_reached {old = old} {new = new} size reaches came intervals same still = record {
    runs = λ volume m r. reached_runs old (accepted old.filer) size new volume m r reaches came intervals (same _ _ m.spaces (knows old (accepted old.filer) size volume m r));
    still = still;
    reaches = reaches;
    came = came;
    makes = reached_makes reaches;
    layout = reaches.layout;
    intervals = intervals;
  }

  -- so it is of a core that was looked at before, and is the same
  pub looks_moved : {old mid new : Core D A G} → mid ≡ old → FitsLayout (state old) → Reaches (state mid) (state new) → BringsOwn (state mid).slots (state new).slots → new.intervals ≡ mid.intervals
      → ((m : List Sector) (named : Triples) (spaces : List Space) → Knows mid m named spaces → Knows new m named spaces) → StillSees mid new → Looks old new
  looks_moved {old = old} {mid = mid} {new = new} is size reaches came intervals same still =
      subst (λ (core : Core D A G). Looks core new) is (looks_reached (moved_size old mid is size) reaches came intervals same still)

  -- a question to the space tables
  pub looks_asked : {old new : Core D A G} → FitsLayout (state old) → Asked old new → StillSees old new → Looks old new
  looks_asked size asked still = looks_reached size asked.reaches asked.came asked.intervals asked.same still

  pub looks_then : {a b c : Core D A G} → Looks a b → Looks b c → Looks a c
  looks_then {a = a} {b = b} {c = c} first second = record {
    runs = λ volume m r. second.runs volume m (first.runs volume m r);
    still = λ ss sees. second.still ss (first.still ss sees);
    reaches = reaches_then (state a) (state b) (accepted a.filer) first.reaches (state c) second.reaches;
    came = brings_then first.came second.came;
    makes = makes_then first.makes second.makes;
    layout = second.layout ∙ first.layout;
    intervals = second.intervals ∙ first.intervals;
  }

  pub looks_fits : {old new : Core D A G} → Looks old new → FitsLayout (state old) → FitsLayout (state new)
  looks_fits {old = old} {new = new} looks size = size_kept old new looks.makes looks.layout size

  -- a question after others
  pub looks_asked_then : {a b c : Core D A G} → FitsLayout (state a) → Looks a b → Asked b c → StillSees b c → Looks a c
  looks_asked_then size first asked still = looks_then first (looks_asked (looks_fits first size) asked still)

  -- the disk was waited for
  pub looks_waited : {old new : Core D A G} → FitsLayout (state old) → WaitsFor old new → Looks old new
  looks_waited {old} {new} size waits = looks_reached size waits.reaches (no_frame_came (state old).slots (state new).slots waits.frames) waits.intervals waits.known waits.still

  -- ---- What a call that only looked answers.

  module _ {old new : Core D A G} (looks : Looks old new) (form : AreInForm (state old).disk) {volume : Volume} {m : Machine} (r : Runs old volume m) (call : Call) where
    -- it was refused
    pub looked_word : (word : Refusal) → refusal m call ≡ Some word → Answers m call old new volume (Ok (reply.Refused word))
    looked_word word is = record {
      carried = refused_carried new volume m call word is (looks.runs volume m r);
      sound = tt;
      passes = quiet_passes old new volume m call form r looks.makes;
    }

    -- the disk failed
    pub looked_fault : (e : Halt) → e ≡ halt.Disk → Answers m call old new volume (Err e)
    looked_fault e is = record { carried = tt; sound = is; passes = quiet_passes old new volume m call form r looks.makes }

    -- it is done, and changes nothing
    pub looked_done : (given : Reply) → refusal m call ≡ None → AllowedAs m call given → m ≡ next m call → Answers m call old new volume (Ok given)
    looked_done given free allowed stays = record {
      carried = record { allowed = allowed_done m call given free allowed; runs = subst (λ (n : Machine). Runs new volume n) stays (looks.runs volume m r) };
      sound = tt;
      passes = quiet_passes old new volume m call form r looks.makes;
    }

  -- what was given, or why not, is what the call answers
  pub answers_of : {old new : Core D A G} {volume : Volume} {m : Machine} {call : Call} (r : Result Reply Halt) → MatchResult r (Carried m call new volume) (λ e. e ≡ halt.Disk) → Passes m call (state old).disk (state new).disk
      → Answers m call old new volume r
  answers_of {new = new} {volume = volume} {m = m} {call = call} r h passes = record {
    carried = if_revealed r (Carried m call new volume) (Carried m call new volume) (λ e. e ≡ halt.Disk) h (λ reply one. one);
    sound = if_failed r (Carried m call new volume) (λ e. e ≡ halt.Disk) h;
    passes = passes;
  }

  -- ---- What a call answers that changed the tables.

  module _ {old mid : Core D A G} (retabled : Retabled old mid) (form : AreInForm (state old).disk) {volume : Volume} {m : Machine} (r : Runs old volume m) (call : Call) where
    pub retabled_reply : {new : Core D A G} → new ≡ mid → {given : Reply} → Carried m call new volume given → Answers m call old new volume (Ok given)
    retabled_reply {new} same carried = record { carried = carried; sound = tt; passes = quiet_passes old new volume m call form r (retabled_then old mid new retabled same) }

    -- the disk failed
    pub retabled_fault : (e : Halt) → e ≡ halt.Disk → Answers m call old mid volume (Err e)
    retabled_fault e is = record { carried = tt; sound = is; passes = quiet_passes old mid volume m call form r (retabled_makes old mid retabled) }
