-- A command whose session started, or did not: why it ended so, and what it left alone.
use Rattle.std.proofs.Common.{◌≡◌, ◌≢◌, ◌⊎◌, inl, inr, ℕ, ◌^◌, ◌≤◌, List, Option, Some}
use Rattle.std.specs.Prelude.{String}
use Rattle.std.specs.declared.alloc.Global.{Global}
use Rattle.labelled_disk.specs.declared.layout.RootFault.{RootFault}
use Rattle.labelled_disk.specs.declared.layout.RootFault.TheVariants as fault
use Rattle.labelled_disk.specs.Calls.{OnlyReads}
use Rattle.labelled_disk.specs.Layout.{IsCount}
use Rattle.labelled_disk.specs.Sectors.{Sector}
use Rattle.labelled_disk.specs.State.{DiskState, lent_state}
use Rattle.command_words.specs.Meaning.{Means}
use Rattle.command_words.specs.declared.words.Command.TheVariants as command
use Rattle.trace_io.specs.Reading.{IsShort}
use Rattle.volume_root.specs.Flag.{IsRefused}
use Rattle.pilot_engine.specs.declared.fault.StartFault.{StartFault}
use Rattle.pilot_engine.specs.declared.fault.StartFault.TheVariants as start_fault
use Rattle.pilot_engine.specs.Opening.{IsDiskFault, IsEarly, IsRightRefusal}
use Rattle.pilot_top.specs.Causes.{HasReason, ReadsText}
use Rattle.pilot_top.specs.Last.{Puts}
use Rattle.pilot_top.specs.Processing.{IsShortText}
use Rattle.pilot_top.specs.Started.{HasCauses, LeavesStreams, Refuses}
use Rattle.pilot_top.specs.Stopping.{StopsAs}
use Rattle.pilot_top.specs.World.{World, DiskFailed, Gives, SinkFailed, SourceFailed, world}
use Rattle.pilot_top.specs.declared.status.Status.{Status}
use Rattle.pilot_top.specs.declared.status.Status.TheVariants as status
use Rattle.pilot_top.proofs.AfterLemmas.{reads_after, rose_after}
use Rattle.pilot_top.proofs.CommandLemmas.{no_run}
use Rattle.pilot_top.proofs.RefusedLemmas.{never_so, refused_count, refused_disk}
use Rattle.pilot_top.proofs.RunLemmas.{is_early, memory_early, not_done, refused_early, refused_ends, refused_line, refused_why}
use Rattle.pilot_top.proofs.StatusLemmas.{is_done}
use Rattle.pilot_top.proofs.TopLemmas.{rose_later}

-- ---- A session started.

-- so the volume was not refused, and there was memory
module _ (s : Status) (opened : s ≢ status.NotOpened) (room : s ≢ status.NoMemory) where
  pub started_refuses : {no_volume : List Sector → RootFault → Type 0} (old new : DiskState) (puts : List ℕ → Type 0) → ((d : List Sector) (why : RootFault) → old.contents ≡ Some d → no_volume d why → ⊥)
      → (¬ IsCount old.sectors → ⊥) → Refuses no_volume s old new puts
  started_refuses old new puts none some = record {
    not_opened = λ d revealed is. absurd (opened is);
    refused = λ d why revealed refused. absurd (none d why revealed refused);
    refused_unwritten = λ d why revealed refused. absurd (none d why revealed refused);
    line = λ is. absurd (opened is);
    count = λ no_count. absurd (some no_count);
    unwritten = λ is. absurd (opened is);
    memory = λ is. absurd (room is);
  }

  pub started_streams : (contents : Option (List Sector)) (kept quiet : Type 0) → ((d : List Sector) (why : RootFault) → contents ≡ Some d → IsRefused d why → ⊥) → LeavesStreams s contents kept quiet
  started_streams contents kept quiet none = record {
    source = λ is. elim is [ inl refused ↦ absurd (opened refused) | inr memory ↦ absurd (room memory) ];
    refused = λ d why revealed refused. absurd (none d why revealed refused);
    sink = λ is. absurd (room is);
  }

-- what it ended for, since an earlier state of the disk
pub causes_since : {fits : List ℕ → Type 0} {s : Status} (first : DiskState) {before after : World} → first.faults ≤ before.disk.faults → HasCauses fits s before after
    → HasCauses fits s (world first before.left before.source_faults before.took before.sink_faults) after
causes_since first later causes = record { disk = λ is. rose_later _ _ _ later (causes.disk is); stream = causes.stream; long = causes.long; no_other = causes.no_other }

-- ---- No session started.

module _ {K : Type 0} (f : StartFault) (s : Status) (old new : K) (took : K → Option (List ℕ)) (failed : Type 0) (stops : StopsAs f s old new (Puts failed (took old) (took new))) (first disk : DiskState) where
  pub unstarted_causes : (fits : List ℕ → Type 0) (before after : World) → (IsDiskFault f → DiskFailed before after) → HasCauses fits s before after
  unstarted_causes fits before after counted =
      let never = never_so f s old new took failed stops in
      record {
        disk = λ is. counted (refused_disk f s old new took failed stops is);
        stream = λ is. absurd ((not_done f s old new took failed stops).1 is);
        long = λ b there is. absurd (never.0 is);
        no_other = (never.1, never.2);
      }

  pub unstarted_refuses : ((d : List Sector) → first.contents ≡ Some d → IsRightRefusal d f)
      → ((d : List Sector) (why : RootFault) → first.contents ≡ Some d → IsRefused d why → (f ≡ start_fault.Root why) ⊎ (f ≡ start_fault.Root fault.Disk))
      → (¬ IsCount first.sectors → f ≡ start_fault.Root (fault.BadCount first.sectors)) → (IsEarly f → OnlyReads first disk) → Refuses IsRefused s first disk (Puts failed (took old) (took new))
  unstarted_refuses judged refused count unwritten = record {
    not_opened = λ d revealed is. refused_why f s old new took failed stops d (judged d revealed) is;
    refused = λ d why revealed is. refused_ends f s old new took failed stops why (refused d why revealed is);
    refused_unwritten = λ d why revealed is. unwritten (is_early f why (refused d why revealed is));
    line = λ is. refused_line f s old new took failed stops is;
    count = λ none. refused_count f s old new took failed stops first.sectors (count none);
    unwritten = λ is. unwritten (refused_early f s old new took failed stops is);
    memory = λ is. unwritten (memory_early f s old new took failed stops is).0;
  }

  pub unstarted_streams : (kept : Type 0) → kept → LeavesStreams s first.contents kept (new ≡ old)
  unstarted_streams kept still = record {
    source = λ is. still;
    refused = λ d why revealed is. still;
    sink = λ is. (memory_early f s old new took failed stops is).1;
  }

-- there was no memory, before anything was written
pub unmade_causes : {fits : List ℕ → Type 0} {before after : World} → HasCauses fits status.NoMemory before after
unmade_causes = record { disk = λ is. absurd (cc is); stream = λ is. absurd (cc is); long = λ b there is. absurd (cc is); no_other = (λ is. cc is, λ is. cc is) }

pub unmade_refuses : {no_volume : List Sector → RootFault → Type 0} (old new : DiskState) (puts : List ℕ → Type 0) → OnlyReads old new → ((d : List Sector) (why : RootFault) → old.contents ≡ Some d → no_volume d why → ⊥)
    → (¬ IsCount old.sectors → ⊥) → Refuses no_volume status.NoMemory old new puts
unmade_refuses old new puts reads none some = record {
  not_opened = λ d revealed is. absurd (cc is);
  refused = λ d why revealed refused. absurd (none d why revealed refused);
  refused_unwritten = λ d why revealed refused. absurd (none d why revealed refused);
  line = λ is. absurd (cc is);
  count = λ no_count. absurd (some no_count);
  unwritten = λ is. absurd (cc is);
  memory = λ is. reads;
}

pub unmade_streams : {contents : Option (List Sector)} {kept quiet : Type 0} → kept → quiet → LeavesStreams status.NoMemory contents kept quiet
unmade_streams kept quiet = record { source = λ is. kept; refused = λ d why revealed refused. kept; sink = λ is. quiet }

-- ---- What follows.

-- where nothing failed and the text fits, a run of a sound volume is done, or it had no memory
pub completes : {fits : List ℕ → Type 0} {s : Status} {before after : World} → HasCauses fits s before after → s ≢ status.NotOpened × s ≢ status.Damaged → (b : List ℕ) → Gives before b → fits b
    → ¬ DiskFailed before after → ¬ SourceFailed before after → ¬ SinkFailed before after → (s ≡ status.Done) ⊎ (s ≡ status.NoMemory)
completes {fits = fits} {s = s} {before = before} {after = after} causes sound b source short disk_held source_held sink_held =
    is_done s (DiskFailed before after) (SourceFailed before after) (SinkFailed before after) (fits b) causes.disk causes.stream (causes.long b source) sound causes.no_other short disk_held source_held sink_held

-- nothing was taken from the source, where it is said so
pub source_kept : {s : Status} {contents : Option (List Sector)} {kept quiet : Type 0} (words : List (String Global)) → ReadsText words → s ≢ status.Usage → LeavesStreams s contents kept quiet
    → ¬ ReadsText words ⊎ (s ≡ status.Usage) ⊎ (s ≡ status.NotOpened) ⊎ (s ≡ status.NoMemory) ⊎ ((d : List Sector) × (why : RootFault) × (contents ≡ Some d) × IsRefused d why) → kept
source_kept words reads other leaves takes = elim takes [
  | inl none ↦ absurd (none reads)
  | inr (inl usage) ↦ absurd (other usage)
  | inr (inr (inl opened)) ↦ leaves.source (inl opened)
  | inr (inr (inr (inl memory))) ↦ leaves.source (inr memory)
  | inr (inr (inr (inr (d, why, revealed, refused)))) ↦ leaves.refused d why revealed refused
]

-- the reason of each status: of a run
pub run_reasons : {s : Status} {before after : World} (words : List (String Global)) (frames queue : ℕ) → Means words (command.Run frames queue) → HasCauses (IsShort (2 ^ 32)) s before after
    → Refuses IsRefused s before.disk after.disk (Puts (SinkFailed before after) before.took after.took) → HasReason words s before after
run_reasons words frames queue meant causes refuses = record {
  disk = causes.disk;
  stream = causes.stream;
  not_opened = λ is. let line = refuses.line is in (refuses.unwritten is, line.0, line.1);
  count = λ some none. inr (refuses.count none);
  long = λ n room b other. causes.long b;
  long_events = λ n b other source is short. no_run words n frames queue other meant;
  long_read = λ is. inl (frames, queue, meant);
  memory = λ is. (refuses.memory is, command.Run frames queue, meant.named);
  damaged = λ is. inl (inl (frames, queue, meant));
  unfit = λ is. absurd (causes.no_other.1 is);
}

-- and of clients
pub clients_reasons : {s : Status} {before after : World} (words : List (String Global)) (frames : ℕ) → Means words (command.Processes frames) → HasCauses IsShortText s before after
    → Refuses IsRefused s before.disk after.disk (Puts (SinkFailed before after) before.took after.took) → HasReason words s before after
clients_reasons words frames meant causes refuses = record {
  disk = causes.disk;
  stream = causes.stream;
  not_opened = λ is. let line = refuses.line is in (refuses.unwritten is, line.0, line.1);
  count = λ some none. inr (refuses.count none);
  long = λ n room b other source is short. no_run words frames n room meant other;
  long_events = λ n b other. causes.long b;
  long_read = λ is. inr (inl (frames, meant));
  memory = λ is. (refuses.memory is, command.Processes frames, meant.named);
  damaged = λ is. inl (inr (inl (frames, meant)));
  unfit = λ is. absurd (causes.no_other.1 is);
}

-- what is so of a disk that is lent is so of the disk
module _ {D : Type 0} (state : D → DiskState) (x y : D) (same : x ≡ y) (first : DiskState) (m n : ℕ) {s : Status} where
  pub causes_after : {fits : List ℕ → Type 0} {left0 took0 left1 took1 : Option (List ℕ)} {source0 sink0 source1 sink1 : ℕ}
      → HasCauses fits s (world (lent_state m first) left0 source0 took0 sink0) (world (lent_state n (state y)) left1 source1 took1 sink1)
      → HasCauses fits s (world first left0 source0 took0 sink0) (world (state x) left1 source1 took1 sink1)
  causes_after causes = record { disk = λ is. rose_after state x y same first.faults (causes.disk is); stream = causes.stream; long = causes.long; no_other = causes.no_other }

  pub refuses_after : {no_volume : List Sector → RootFault → Type 0} {puts : List ℕ → Type 0} → Refuses no_volume s (lent_state m first) (lent_state n (state y)) puts → Refuses no_volume s first (state x) puts
  refuses_after refuses = record {
    not_opened = refuses.not_opened;
    refused = refuses.refused;
    refused_unwritten = λ d why revealed is. reads_after state x y same first m n (refuses.refused_unwritten d why revealed is);
    line = refuses.line;
    count = refuses.count;
    unwritten = λ is. reads_after state x y same first m n (refuses.unwritten is);
    memory = λ is. reads_after state x y same first m n (refuses.memory is);
  }
