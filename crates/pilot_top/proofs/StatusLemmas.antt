-- What is left for a status, and which never come.
use Rattle.std.proofs.Common.{◌≡◌, ◌≢◌, ◌⊎◌, inl, inr, List, refl}
use Rattle.std.specs.Prelude.{String}
use Rattle.std.specs.declared.alloc.Global.{Global}
use Rattle.labelled_disk.specs.declared.evidence.Halt.{Halt}
use Rattle.labelled_disk.specs.declared.evidence.Halt.TheVariants as halt
use Rattle.command_words.specs.Meaning.{Means}
use Rattle.command_words.specs.declared.words.Command.{Command}
use Rattle.pilot_top.specs.Causes.{Understands}
use Rattle.pilot_top.specs.Stopping.{status_of}
use Rattle.pilot_top.specs.World.{World}
use Rattle.pilot_top.specs.declared.status.Status.{Status}
use Rattle.pilot_top.specs.declared.status.Status.TheVariants as status

-- where nothing failed and the trace is short, a run of a sound volume is done, or it had no memory
pub is_done : (s : Status) (disk source sink short : Type 0) → (s ≡ status.DiskFault → disk) → (s ≡ status.StreamFault → source ⊎ sink) → (s ≡ status.Long → short → ⊥)
    → s ≢ status.NotOpened × s ≢ status.Damaged → s ≢ status.Usage × s ≢ status.Unfit
    → short → (disk → ⊥) → (source → ⊥) → (sink → ⊥) → (s ≡ status.Done) ⊎ (s ≡ status.NoMemory)
is_done status.Done disk source sink is_short on_disk on_stream on_long sound other short no_disk no_source no_sink = inl refl
is_done status.NoMemory disk source sink is_short on_disk on_stream on_long sound other short no_disk no_source no_sink = inr refl
is_done status.DiskFault disk source sink is_short on_disk on_stream on_long sound other short no_disk no_source no_sink = absurd (no_disk (on_disk refl))
is_done status.StreamFault disk source sink is_short on_disk on_stream on_long sound other short no_disk no_source no_sink = elim (on_stream refl) [ inl h ↦ absurd (no_source h) | inr h ↦ absurd (no_sink h) ]
is_done status.Long disk source sink is_short on_disk on_stream on_long sound other short no_disk no_source no_sink = absurd (on_long refl short)
is_done status.NotOpened disk source sink is_short on_disk on_stream on_long sound other short no_disk no_source no_sink = absurd (sound.0 refl)
is_done status.Damaged disk source sink is_short on_disk on_stream on_long sound other short no_disk no_source no_sink = absurd (sound.1 refl)
is_done status.Usage disk source sink is_short on_disk on_stream on_long sound other short no_disk no_source no_sink = absurd (other.0 refl)
is_done status.Unfit disk source sink is_short on_disk on_stream on_long sound other short no_disk no_source no_sink = absurd (other.1 refl)

-- a refusal, where there may be no memory for the words
pub with_memory : (s : Status) → (s ≡ status.NotOpened) ⊎ (s ≡ status.DiskFault) → (s ≡ status.NotOpened) ⊎ (s ≡ status.DiskFault) ⊎ (s ≡ status.NoMemory)
with_memory s (inl opened) = inl opened
with_memory s (inr disk) = inr (inl disk)

-- How no command ends but `run`, and the line of usage.

-- one that ends with these statuses alone
module _ (s : Status) where
  -- a `format`
  pub made_ends : (s ≡ status.Done) ⊎ (s ≡ status.StreamFault) ⊎ (s ≡ status.DiskFault) ⊎ (s ≡ status.NotOpened)
      → s ≢ status.Usage × s ≢ status.Long × s ≢ status.NoMemory × s ≢ status.Damaged × s ≢ status.Unfit
  made_ends (inl e) = (λ is. cc (e, is), λ is. cc (e, is), λ is. cc (e, is), λ is. cc (e, is), λ is. cc (e, is))
  made_ends (inr (inl e)) = (λ is. cc (e, is), λ is. cc (e, is), λ is. cc (e, is), λ is. cc (e, is), λ is. cc (e, is))
  made_ends (inr (inr (inl e))) = (λ is. cc (e, is), λ is. cc (e, is), λ is. cc (e, is), λ is. cc (e, is), λ is. cc (e, is))
  made_ends (inr (inr (inr e))) = (λ is. cc (e, is), λ is. cc (e, is), λ is. cc (e, is), λ is. cc (e, is), λ is. cc (e, is))

  -- a `scavenge`
  pub restored_ends : (s ≡ status.Done) ⊎ (s ≡ status.StreamFault) ⊎ (s ≡ status.DiskFault) ⊎ (s ≡ status.NotOpened) ⊎ (s ≡ status.NoMemory)
      → s ≢ status.Usage × s ≢ status.Long × s ≢ status.Damaged × s ≢ status.Unfit
  restored_ends (inl e) = (λ is. cc (e, is), λ is. cc (e, is), λ is. cc (e, is), λ is. cc (e, is))
  restored_ends (inr (inl e)) = (λ is. cc (e, is), λ is. cc (e, is), λ is. cc (e, is), λ is. cc (e, is))
  restored_ends (inr (inr (inl e))) = (λ is. cc (e, is), λ is. cc (e, is), λ is. cc (e, is), λ is. cc (e, is))
  restored_ends (inr (inr (inr (inl e)))) = (λ is. cc (e, is), λ is. cc (e, is), λ is. cc (e, is), λ is. cc (e, is))
  restored_ends (inr (inr (inr (inr e)))) = (λ is. cc (e, is), λ is. cc (e, is), λ is. cc (e, is), λ is. cc (e, is))

  -- a `trial`
  pub tried_ends : (s ≡ status.Done) ⊎ (s ≡ status.StreamFault) ⊎ (s ≡ status.DiskFault) ⊎ (s ≡ status.NotOpened) ⊎ (s ≡ status.NoMemory) ⊎ (s ≡ status.Damaged)
      → s ≢ status.Usage × s ≢ status.Long × s ≢ status.Unfit
  tried_ends (inl e) = (λ is. cc (e, is), λ is. cc (e, is), λ is. cc (e, is))
  tried_ends (inr (inl e)) = (λ is. cc (e, is), λ is. cc (e, is), λ is. cc (e, is))
  tried_ends (inr (inr (inl e))) = (λ is. cc (e, is), λ is. cc (e, is), λ is. cc (e, is))
  tried_ends (inr (inr (inr (inl e)))) = (λ is. cc (e, is), λ is. cc (e, is), λ is. cc (e, is))
  tried_ends (inr (inr (inr (inr (inl e))))) = (λ is. cc (e, is), λ is. cc (e, is), λ is. cc (e, is))
  tried_ends (inr (inr (inr (inr (inr e))))) = (λ is. cc (e, is), λ is. cc (e, is), λ is. cc (e, is))

  -- the end of a trace
  pub trace_ends : (s ≡ status.Done) ⊎ (s ≡ status.StreamFault) ⊎ (s ≡ status.DiskFault) ⊎ (s ≡ status.Damaged)
      → s ≢ status.Long × s ≢ status.Usage × s ≢ status.NotOpened × s ≢ status.NoMemory × s ≢ status.Unfit
  trace_ends (inl e) = (λ is. cc (e, is), λ is. cc (e, is), λ is. cc (e, is), λ is. cc (e, is), λ is. cc (e, is))
  trace_ends (inr (inl e)) = (λ is. cc (e, is), λ is. cc (e, is), λ is. cc (e, is), λ is. cc (e, is), λ is. cc (e, is))
  trace_ends (inr (inr (inl e))) = (λ is. cc (e, is), λ is. cc (e, is), λ is. cc (e, is), λ is. cc (e, is), λ is. cc (e, is))
  trace_ends (inr (inr (inr e))) = (λ is. cc (e, is), λ is. cc (e, is), λ is. cc (e, is), λ is. cc (e, is), λ is. cc (e, is))

-- a session that stopped
pub halt_ends : (why : Halt) (s : Status) → s ≡ status_of why
    → s ≢ status.Done × s ≢ status.StreamFault × s ≢ status.Long × s ≢ status.Usage × s ≢ status.NotOpened × s ≢ status.NoMemory × s ≢ status.Unfit
halt_ends halt.Disk s e = (λ is. cc (e, is), λ is. cc (e, is), λ is. cc (e, is), λ is. cc (e, is), λ is. cc (e, is), λ is. cc (e, is), λ is. cc (e, is))
halt_ends (halt.Damaged shown) s e = (λ is. cc (e, is), λ is. cc (e, is), λ is. cc (e, is), λ is. cc (e, is), λ is. cc (e, is), λ is. cc (e, is), λ is. cc (e, is))

pub halt_disk : (why : Halt) (s : Status) → s ≡ status_of why → s ≡ status.DiskFault → why ≡ halt.Disk
halt_disk halt.Disk s e is = refl
halt_disk (halt.Damaged shown) s e is = absurd (cc (e, is))

-- the words mean a command, and it did not end with the line of usage
pub understood : (words : List (String Global)) (c : Command) (s : Status) (before after : World) → Means words c → s ≢ status.Usage → Understands words s before after
understood words c s before after means other = record {
  usage = λ is. absurd (other is);
  no_command = λ none. absurd (none c means);
  unknown = λ none. absurd (none c means.named);
  line = λ is. absurd (other is);
}
