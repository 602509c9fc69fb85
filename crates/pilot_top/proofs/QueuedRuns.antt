-- A run with a queue that ended before its session began, and what lies beneath one.
use Rattle.std.proofs.Common.{◌≡◌, ◌≢◌, ◌⊎◌, inl, inr, ℕ, ◌+◌, ◌*◌, ◌^◌, ◌≤◌, true, List, length, Option, Some, None, Result, Ok, Err, refl, sym, ◌∙◌, subst, arith}
use Rattle.std.specs.Prelude.{slice_get, sum_by}
use Rattle.labelled_disk.specs.declared.evidence.Evidence.{Evidence}
use Rattle.labelled_disk.specs.declared.label.Label.{Label}
use Rattle.labelled_disk.specs.declared.layout.RootFault.{RootFault}
use Rattle.labelled_disk.specs.declared.layout.RootFault.TheVariants as fault
use Rattle.labelled_disk.specs.Calls.{OnlyReads, Rose}
use Rattle.labelled_disk.specs.Layout.{IsCount}
use Rattle.labelled_disk.specs.Sectors.{AreSectors, Sector}
use Rattle.labelled_disk.specs.State.{DiskState, HasLabel}
use Rattle.flat_machine.specs.After.{TraceLine}
use Rattle.trace_io.specs.Reading.{reading}
use Rattle.volume_root.specs.declared.root.Root.{Root}
use Rattle.volume_root.specs.Flag.{IsRefused}
use Rattle.volume_root.specs.RootPage.{IsUnlessFault, judged}
use Rattle.volume_root.specs.Sound.{Sound}
use Rattle.pilot_engine.proofs.StartFaults.{early_outside}
use Rattle.pilot_engine.specs.declared.fault.StartFault.TheVariants as start_fault
use Rattle.pilot_top.specs.Headline.{RevealsDamage, line_bound, run_bound}
use Rattle.pilot_top.specs.Last.{last_line, Puts}
use Rattle.pilot_top.specs.Queued.{RanQueued, RepliedQueued, RepliesChange, RevealsSeen, RunQueued, WroteChange}
use Rattle.pilot_top.specs.Replied.{Replied}
use Rattle.pilot_top.specs.RunDisk.{IsChange}
use Rattle.pilot_top.specs.Stopping.{StopsAs}
use Rattle.pilot_top.specs.World.{World, world}
use Rattle.pilot_top.specs.declared.last.Cause.TheVariants as cause
use Rattle.pilot_top.specs.declared.status.Status.{Status}
use Rattle.pilot_top.specs.declared.status.Status.TheVariants as status
use Rattle.pilot_top.proofs.QueuedLemmas.{change_beneath, change_replied, disk_answers, replied_beneath, seen_beneath}
use Rattle.pilot_top.proofs.PutLemmas.{put_alone}
use Rattle.pilot_top.proofs.RunLemmas.{not_done, not_sound, refused_ends, refused_why, replied_refused}
use Rattle.pilot_top.proofs.StatusLemmas.{with_memory}

-- a run has a bound
pub some_bound : (n : ℕ) (lines : List TraceLine) → 1 ≤ run_bound n lines
some_bound n lines = by (64 * n * n) (sum_by (line_bound n) lines)
  where
    by : (x y : ℕ) → 1 ≤ 2 * (2 ^ 30 + x) + y
    by x y = omega arith

-- There was no memory, and at most the root was read.
module _ (before after : World) (reads : OnlyReads before.disk after.disk) (few : after.disk.transfers ≤ before.disk.transfers + 1) (left : after.left ≡ before.left) (took : after.took ≡ before.took) where
  pub queued_nothing : RanQueued status.NoMemory before after
  queued_nothing = record {
    answers = λ d b t revealed sound source sink. (left ∙ source, took ∙ sink);
    replied = λ b t source sink. (left ∙ source, took ∙ sink);
    closed = λ d b revealed sound source done going. absurd (cc done);
    closed_unheard = λ d b revealed sound source failed held rest closes. absurd (cc failed);
    halted = λ is. absurd (elim is [ inl done ↦ cc done | inr long ↦ cc long ]);
    transfers = λ d b revealed sound source. let most = some_bound before.disk.sectors (reading b) in omega (arith, few, most);
    damage = λ t sink is. absurd (cc is);
    sound = λ d revealed sound. (λ is. cc is, λ is. cc is);
    not_opened = λ d revealed is. absurd (cc is);
    refused = λ d why revealed refused. inr (inr refl);
    refused_unwritten = λ d why revealed refused. reads;
    complete = λ d b revealed sound source short disk_held source_held sink_held. inr refl;
    short = λ b source done. absurd (cc done);
  }

-- a root that was refused is no end of a run
pub root_ends : {K : Type 0} (why : RootFault) (s : Status) (old new : K) (puts : List ℕ → Type 0) → StopsAs (start_fault.Root why) s old new puts
    → s ≢ status.Long × s ≢ status.Damaged × s ≢ status.Usage × s ≢ status.Unfit × s ≢ status.NoMemory
root_ends fault.Disk s old new puts is = let e = is.0 in (λ x. cc (e, x), λ x. cc (e, x), λ x. cc (e, x), λ x. cc (e, x), λ x. cc (e, x))
root_ends (fault.NotVolume what) s old new puts is = let e = is.0 in (λ x. cc (e, x), λ x. cc (e, x), λ x. cc (e, x), λ x. cc (e, x), λ x. cc (e, x))
root_ends fault.Unclean s old new puts is = let e = is.0 in (λ x. cc (e, x), λ x. cc (e, x), λ x. cc (e, x), λ x. cc (e, x), λ x. cc (e, x))
root_ends (fault.Version v) s old new puts is = let e = is.0 in (λ x. cc (e, x), λ x. cc (e, x), λ x. cc (e, x), λ x. cc (e, x), λ x. cc (e, x))
root_ends (fault.BadCount n) s old new puts is = let e = is.0 in (λ x. cc (e, x), λ x. cc (e, x), λ x. cc (e, x), λ x. cc (e, x), λ x. cc (e, x))

-- a fault of the disk where the root was read
pub root_fault : {K : Type 0} (why : RootFault) (s : Status) (old new : K) (puts : List ℕ → Type 0) → StopsAs (start_fault.Root why) s old new puts → s ≡ status.DiskFault → why ≡ fault.Disk
root_fault fault.Disk s old new puts is failed = refl
root_fault (fault.NotVolume what) s old new puts is failed = absurd (let e = is.0 in cc (e, failed))
root_fault fault.Unclean s old new puts is failed = absurd (let e = is.0 in cc (e, failed))
root_fault (fault.Version v) s old new puts is failed = absurd (let e = is.0 in cc (e, failed))
root_fault (fault.BadCount n) s old new puts is failed = absurd (let e = is.0 in cc (e, failed))

-- The root was not read, or refused.
module _ {K : Type 0} (why : RootFault) (s : Status) (old new : K) (state : K → Option (List ℕ)) (sink_faults : K → ℕ) (before : DiskState) (left : Option (List ℕ)) (source_faults : ℕ) (after : DiskState)
    (stops : StopsAs (start_fault.Root why) s old new (Puts (Rose (sink_faults old) (sink_faults new)) (state old) (state new)))
    (form : (d : List Sector) → before.contents ≡ Some d → AreSectors d)
    (judge : (d : List Sector) → before.contents ≡ Some d → (why ≡ fault.Disk) ⊎ IsRefused d why)
    (refuses : (d : List Sector) (w : RootFault) → before.contents ≡ Some d → IsRefused d w → (start_fault.Root why ≡ start_fault.Root w) ⊎ (start_fault.Root why ≡ start_fault.Root fault.Disk))
    (reads : OnlyReads before after) (few : after.transfers ≤ before.transfers + 1) (counted : why ≡ fault.Disk → Rose before.faults after.faults) where
  abbrev pub failed_sink : Type 0
  failed_sink = Rose (sink_faults old) (sink_faults new)

  pub outside : (d : List Sector) → before.contents ≡ Some d → Sound d → why ≡ fault.Disk
  outside d revealed sound = early_outside d (form d revealed) sound (start_fault.Root why) tt (judge d revealed)

  pub answers_unread : (d : List Sector) (b t : List ℕ) → before.contents ≡ Some d → Sound d → state old ≡ Some t → RunQueued s d b left t (state new) failed_sink after
  answers_unread d b t revealed sound sink =
      let stopped : (s ≡ status.DiskFault) × Puts failed_sink (state old) (state new) (last_line cause.DiskFault) =
      subst (λ (w : RootFault). StopsAs (start_fault.Root w) s old new (Puts failed_sink (state old) (state new))) (outside d revealed sound) stops in
      subst (λ (x : Status). RunQueued x d b left t (state new) failed_sink after) (sym stopped.0)
      (disk_answers d b t left (state new) failed_sink after (put_alone failed_sink t (state old) (state new) (last_line cause.DiskFault) sink stopped.1))

  pub queued_unread : RanQueued s (world before left source_faults (state old) (sink_faults old)) (world after left source_faults (state new) (sink_faults new))
  queued_unread = record {
    answers = λ d b t revealed sound source sink. answers_unread d b t revealed sound sink;
    replied = λ b t source sink.
        replied_beneath after after refl (λ k l has. has) s b t left (state new) failed_sink
        (replied_refused (start_fault.Root why) s old new state failed_sink stops b t left after (λ e. Unit {0}) tt (λ e is. absurd (cc is)) tt source sink);
    closed = λ d b revealed sound source done going. absurd ((not_done (start_fault.Root why) s old new state failed_sink stops).0 done);
    closed_unheard = λ d b revealed sound source failed held rest closes. absurd ((not_done (start_fault.Root why) s old new state failed_sink stops).1 failed);
    halted = λ is. elim is [
      | inl done ↦ absurd ((not_done (start_fault.Root why) s old new state failed_sink stops).0 done)
      | inr long ↦ absurd ((root_ends why s old new (Puts failed_sink (state old) (state new)) stops).0 long)
    ];
    transfers = λ d b revealed sound source. let most = some_bound before.sectors (reading b) in omega (arith, few, most);
    damage = λ t sink is. absurd ((root_ends why s old new (Puts failed_sink (state old) (state new)) stops).1 is);
    sound = λ d revealed sound. not_sound (start_fault.Root why) s old new state failed_sink stops (outside d revealed sound);
    not_opened = λ d revealed is. refused_why (start_fault.Root why) s old new state failed_sink stops d (judge d revealed) is;
    refused = λ d w revealed refused. with_memory s (refused_ends (start_fault.Root why) s old new state failed_sink stops w (refuses d w revealed refused));
    refused_unwritten = λ d w revealed refused. reads;
    complete = λ d b revealed sound source short disk_held source_held sink_held. absurd (disk_held (counted (outside d revealed sound)));
    short = λ b source done. absurd ((not_done (start_fault.Root why) s old new state failed_sink stops).0 done);
  }

-- What was replied where a label had changed, or none had.
module _ (shown : Option Evidence) (queue under : DiskState) (s : Status) (law : (e : Evidence) → shown ≡ Some e → IsChange e × (queue.contents ≡ None)) (unrevealed : queue.contents ≡ None → under.contents ≡ None)
    (sectors : under.sectors ≡ queue.sectors) (labels : (k : ℕ) (l : Label) → HasLabel queue k l → HasLabel under k l) (t : List ℕ) (took : Option (List ℕ)) (failed : Type 0) where
  is_damaged : (x : Status) → (x ≡ status.Damaged) ⊎ (x ≢ status.Damaged)
  is_damaged status.Damaged = inl refl
  is_damaged status.Done = inr (λ is. cc is)
  is_damaged status.DiskFault = inr (λ is. cc is)
  is_damaged status.Long = inr (λ is. cc is)
  is_damaged status.StreamFault = inr (λ is. cc is)
  is_damaged status.NotOpened = inr (λ is. cc is)
  is_damaged status.NoMemory = inr (λ is. cc is)
  is_damaged status.Usage = inr (λ is. cc is)
  is_damaged status.Unfit = inr (λ is. cc is)

  pub all_replied : (b : List ℕ) (left : Option (List ℕ)) → ((s ≡ status.Damaged → shown ≡ None) → Replied s b left t took failed queue (λ e. Unit {0}))
      → ((e : Evidence) → s ≡ status.Damaged → shown ≡ Some e → RepliesChange b t took failed e) → RepliedQueued s b left t took failed under
  all_replied b left plain change = elim (is_damaged s) [
    | inr other ↦ replied_beneath queue under sectors labels s b t left took failed (plain (λ is. absurd (other is)))
    | inl damaged ↦ by shown refl damaged
  ]
    where
      by : (o : Option Evidence) → shown ≡ o → s ≡ status.Damaged → RepliedQueued s b left t took failed under
      by None none damaged = replied_beneath queue under sectors labels s b t left took failed (plain (λ is. none))
      by (Some e) some damaged = let there = law e some in change_replied queue under e there.0 (unrevealed there.1) t took failed s b left damaged (change e damaged some)

  pub all_seen : s ≡ status.Damaged → (shown ≡ None → RevealsDamage t took failed queue) → ((e : Evidence) → shown ≡ Some e → WroteChange t took failed e) → RevealsSeen t took failed under
  all_seen damaged plain change = by shown refl
    where
      by : (o : Option Evidence) → shown ≡ o → RevealsSeen t took failed under
      by None none = seen_beneath queue under sectors labels (plain none)
      by (Some e) some = let there = law e some in change_beneath queue under e there.0 (unrevealed there.1) t took failed (change e some)

-- a root that is read is not one that is refused
pub root_opened : (d : List Sector) (n : ℕ) → length d ≡ n → (result : Result Root RootFault) (root : Root) → result ≡ Ok root → IsCount n
    → (IsCount n → (s : Sector) → slice_get d 0 ≡ Some s → IsUnlessFault result (judged true (length d) s)) → (why : RootFault) → IsRefused d why → ⊥
root_opened d n long result root is count given why (inl bad) = bad.0 (subst IsCount (sym long) count)
root_opened d n long result root is count given why (inr bad) =
    let answer : Ok root ≡ judged true (length d) bad.1 = subst (λ (r : Result Root RootFault). IsUnlessFault r (judged true (length d) bad.1)) is (given count bad.1 bad.2) in
    let both : ◌≡◌ {A = Result Root RootFault} (Ok root) (Err why) = answer ∙ bad.3 in
    cc both
