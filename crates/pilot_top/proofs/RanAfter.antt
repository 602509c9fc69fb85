-- What a run did through a reference it did to the disk.
use Rattle.std.proofs.Common.{◌≡◌, ◌+◌, ℕ, List, Option}
use Rattle.labelled_disk.specs.declared.evidence.Evidence.{Evidence}
use Rattle.labelled_disk.specs.Root.{root_page}
use Rattle.labelled_disk.specs.State.{DiskState, lent_state}
use Rattle.flat_machine.specs.Start.{start}
use Rattle.trace_io.specs.Reading.{reading}
use Rattle.volume_root.specs.RootPage.{root_in}
use Rattle.pilot_top.specs.Headline.{at_end, run_bound}
use Rattle.pilot_top.specs.InitialState.{FromInitialState}
use Rattle.pilot_top.specs.Parts.{PartMay}
use Rattle.pilot_top.specs.Running.{Ran}
use Rattle.pilot_top.specs.World.{world}
use Rattle.pilot_top.specs.declared.status.Status.{Status}
use Rattle.pilot_top.proofs.AfterLemmas.{crash_states_after, cut_files_after, cuts_after, damage_after, from_after, lawfully_after, none_rose_after, open_after, reads_after, replied_after, roots_after, run_after, shut_after, spared_after, spent_after, stays_after, stops_after}
use Rattle.pilot_top.proofs.ForceLemmas.{keeps_forced}
use Rattle.pilot_top.proofs.ReasonLemmas.{replied_reasoned}
use Rattle.pilot_top.proofs.StayLemmas.{spared_stays}

module _ {D : Type 0} (state : D → DiskState) (x y : D) (same : x ≡ y) (first : DiskState) (m n : ℕ) where
  abbrev reasoned : Evidence → Type 0
  reasoned = FromInitialState first (state x)

  reason : (e : Evidence) → FromInitialState (lent_state m first) (lent_state n (state y)) e → reasoned e
  reason = from_after state x y same first m n

  pub ran_after : (s : Status) {left0 took0 left1 took1 : Option (List ℕ)} {source0 sink0 source1 sink1 : ℕ} → Ran s (world (lent_state m first) left0 source0 took0 sink0) (world (lent_state n (state y)) left1 source1 took1 sink1)
      → Ran s (world first left0 source0 took0 sink0) (world (state x) left1 source1 took1 sink1)
  ran_after s {left1 = left1} {took1 = took1} r = record {
    answers = λ d b t revealed sound source sink. run_after state x y same first m n s d b t left1 took1 _ (r.answers d b t revealed sound source sink);
    replied = λ b t source sink. replied_after state x y same s b t left1 took1 _ n reasoned (replied_reasoned s b t left1 took1 _ _ _ reasoned reason (r.replied b t source sink));
    closed = λ d b revealed sound source done going. shut_after state x y same (at_end d (reading b)) n (r.closed d b revealed sound source done going);
    closed_unheard = λ d b revealed sound source failed held rest closes. shut_after state x y same (at_end d (reading b)) n (r.closed_unheard d b revealed sound source failed held rest closes);
    crash_states = λ d b revealed sound source. crash_states_after state x y same first m n (start d) (reading b) (r.crash_states d b revealed sound source);
    some_crash_states = λ d revealed sound. let some = r.some_crash_states d revealed sound in (some.0, crash_states_after state x y same first m n (start d) some.0 some.1);
    cuts = λ d revealed sound. cuts_after state x y same first d (r.cuts d revealed sound);
    stops = λ b t source sink. stops_after state x y same first m n s b t left1 took1 _ (PartMay (reading b)) (r.stops b t source sink);
    spares = λ d earlier b id revealed made source file untouched. spared_after state x y same first m n id (reading b) d (r.spares d earlier b id revealed made source file untouched);
    roots = λ d revealed. let on = r.roots d revealed in (on.0, roots_after state x y same first m n (root_in (root_page d)) on.0 on.1);
    stays = λ d earlier b id revealed made source file untouched. spared_stays id (reading b) d (spared_after state x y same first m n id (reading b) d (r.spares d earlier b id revealed made source file untouched));
    stays_since = λ d earlier b revealed made source. stays_after state x y same first m n (reading b) d (r.stays_since d earlier b revealed made source);
    forced = λ d b revealed sound source. keeps_forced (start d) (reading b) d (crash_states_after state x y same first m n (start d) (reading b) (r.crash_states d b revealed sound source)) revealed;
    cut_files = λ d b revealed sound source. cut_files_after state x y same first m n (start d) (reading b) d (r.cut_files d b revealed sound source);
    some_cut_files = λ d revealed sound. let some = r.some_cut_files d revealed sound in (some.0, cut_files_after state x y same first m n (start d) some.0 d some.1);
    stays_open = λ b source early. open_after state x y same (r.stays_open b source early);
    untaken = λ b source failed some. open_after state x y same (r.untaken b source failed some);
    left_open = λ is. open_after state x y same (r.left_open is);
    transfers = λ d b revealed sound source. spent_after state x y same (first.transfers + run_bound first.sectors (reading b)) (r.transfers d b revealed sound source);
    permitted = lawfully_after state x y same first m n r.permitted;
    damage = λ t sink is. let all = r.damage t sink is in damage_after state x y same n all.0 reasoned (reason all.0.evidence all.1);
    sound = r.sound;
    not_opened = r.not_opened;
    refused = r.refused;
    refused_unwritten = λ d why revealed refused. reads_after state x y same first m n (r.refused_unwritten d why revealed refused);
    complete = λ d b revealed sound source short disk_held source_held sink_held. r.complete d b revealed sound source short (none_rose_after state first.faults x y disk_held same) source_held sink_held;
    short = r.short;
  }
