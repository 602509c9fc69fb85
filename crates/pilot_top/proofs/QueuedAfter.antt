-- What a run with a queue did through a reference it did to the disk.
use Rattle.std.proofs.Common.{◌≡◌, inl, inr, ℕ, List, Option}
use Rattle.labelled_disk.specs.Sectors.{Sector}
use Rattle.labelled_disk.specs.State.{DiskState, lent_state}
use Rattle.trace_io.specs.Reading.{reading}
use Rattle.pilot_top.specs.Headline.{at_end}
use Rattle.pilot_top.specs.Queued.{RanQueued, RepliedQueued, RevealsSeen, RunQueued}
use Rattle.pilot_top.specs.World.{world}
use Rattle.pilot_top.specs.declared.status.Status.{Status}
use Rattle.pilot_top.specs.declared.status.Status.TheVariants as status
use Rattle.pilot_top.proofs.AfterLemmas.{none_rose_after, reads_after, shut_after, so_there}

-- what was answered
answers_lent : (s : Status) (d : List Sector) (b t : List ℕ) (left took : Option (List ℕ)) (failed : Type 0) (n : ℕ) (disk : DiskState) → RunQueued s d b left t took failed (lent_state n disk) → RunQueued s d b left t took failed disk
answers_lent status.Done d b t left took failed n disk is = is
answers_lent status.Long d b t left took failed n disk is = is
answers_lent status.DiskFault d b t left took failed n disk is = is
answers_lent status.StreamFault d b t left took failed n disk is = is
answers_lent status.NotOpened d b t left took failed n disk is = is
answers_lent status.NoMemory d b t left took failed n disk is = is
answers_lent status.Usage d b t left took failed n disk is = is
answers_lent status.Damaged d b t left took failed n disk is = is
answers_lent status.Unfit d b t left took failed n disk is = is

module _ {D : Type 0} (state : D → DiskState) (x y : D) (same : x ≡ y) (n : ℕ) where
  -- what shows damage
  module _ {t : List ℕ} {took : Option (List ℕ)} {failed : Type 0} where
    abbrev seen_after : RevealsSeen t took failed (lent_state n (state y)) → RevealsSeen t took failed (state x)
    seen_after revealed = record {
      replies = revealed.replies;
      evidence = revealed.evidence;
      evidence_seen = elim revealed.evidence_seen [
        | inl evident ↦ inl (so_there state x y same n revealed.evidence evident)
        | inr change ↦ inr (change.0, rw same change.1)
      ];
      written = revealed.written;
    }

  queued_replied : (s : Status) (b t : List ℕ) (left took : Option (List ℕ)) (failed : Type 0) → RepliedQueued s b left t took failed (lent_state n (state y)) → RepliedQueued s b left t took failed (state x)
  queued_replied status.Damaged b t left took failed is = (seen_after is.0, is.1)
  queued_replied status.Done b t left took failed is = is
  queued_replied status.DiskFault b t left took failed is = is
  queued_replied status.Long b t left took failed is = is
  queued_replied status.StreamFault b t left took failed is = is
  queued_replied status.NotOpened b t left took failed is = is
  queued_replied status.NoMemory b t left took failed is = is
  queued_replied status.Usage b t left took failed is = is
  queued_replied status.Unfit b t left took failed is = is

  pub queued_after : (first : DiskState) (m : ℕ) (s : Status) (left0 took0 left1 took1 : Option (List ℕ)) (source0 sink0 source1 sink1 : ℕ)
      → RanQueued s (world (lent_state m first) left0 source0 took0 sink0) (world (lent_state n (state y)) left1 source1 took1 sink1)
      → RanQueued s (world first left0 source0 took0 sink0) (world (state x) left1 source1 took1 sink1)
  queued_after first m s left0 took0 left1 took1 source0 sink0 source1 sink1 r = record {
    answers = λ d b t revealed sound source sink. rw same (answers_lent s d b t left1 took1 _ n (state y) (r.answers d b t revealed sound source sink));
    replied = λ b t source sink. queued_replied s b t left1 took1 _ (r.replied b t source sink);
    closed = λ d b revealed sound source done going. shut_after state x y same (at_end d (reading b)) n (r.closed d b revealed sound source done going);
    closed_unheard = λ d b revealed sound source failed held rest closes. shut_after state x y same (at_end d (reading b)) n (r.closed_unheard d b revealed sound source failed held rest closes);
    halted = λ is. rw same (r.halted is);
    transfers = λ d b revealed sound source. rw same (r.transfers d b revealed sound source);
    damage = λ t sink is. seen_after (r.damage t sink is);
    sound = r.sound;
    not_opened = r.not_opened;
    refused = r.refused;
    refused_unwritten = λ d why revealed refused. reads_after state x y same first m n (r.refused_unwritten d why revealed refused);
    complete = λ d b revealed sound source short disk_held source_held sink_held. r.complete d b revealed sound source short (none_rose_after state first.faults x y disk_held same) source_held sink_held;
    short = r.short;
  }
