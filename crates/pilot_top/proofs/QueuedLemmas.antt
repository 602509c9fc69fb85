-- A run with a queue: what is so of the queue, as a disk, is so of the disk beneath.
use Rattle.std.proofs.Common.{◌≡◌, ◌≢◌, ◌⊎◌, inl, inr, ℕ, ◌<◌, true, List, [], ◌∷◌, ◌++◌, length, Option, Some, None, refl, sym, ap, ◌∙◌, subst, arith, append-nil}
use Rattle.std.specs.List.{list_any}
use Rattle.std.proofs.lemmas.Option.{none-some}
use Rattle.labelled_disk.specs.declared.evidence.Evidence.{Evidence}
use Rattle.labelled_disk.specs.declared.evidence.Evidence.TheVariants.{Mismatch, Malformed, Missing}
use Rattle.labelled_disk.specs.declared.evidence.Halt.TheVariants as halt
use Rattle.labelled_disk.specs.declared.label.Label.{Label}
use Rattle.labelled_disk.specs.declared.label.Wanted.{Wanted}
use Rattle.labelled_disk.specs.declared.layout.RootFault.{RootFault}
use Rattle.labelled_disk.specs.declared.layout.RootFault.TheVariants as fault
use Rattle.labelled_disk.specs.Sectors.{Sector}
use Rattle.labelled_disk.specs.State.{DiskState, HasLabel}
use Rattle.filer_kernel.specs.Evidence.{IsEvident, MayBeIn}
use Rattle.flat_machine.specs.After.{TraceLine}
use Rattle.flat_machine.specs.Machine.{Machine}
use Rattle.flat_machine.specs.Start.{start}
use Rattle.trace_io.specs.Reading.{is_last, reading, whole_reading}
use Rattle.pilot_engine.specs.declared.fault.StartFault.{StartFault}
use Rattle.pilot_engine.specs.declared.fault.StartFault.TheVariants as start_fault
use Rattle.pilot_engine.specs.Closing.{HasShut}
use Rattle.pilot_engine.specs.Opening.{IsDiskFault, IsOutside}
use Rattle.pilot_top.specs.Headline.{Answering, HasFilesAt, LeadsTo, HasWritten, RevealsDamage}
use Rattle.pilot_top.specs.Last.{last_line, Puts}
use Rattle.pilot_top.specs.Queued.{RepliedQueued, RepliesChange, RevealsSeen, RunQueued, WroteChange}
use Rattle.pilot_top.specs.Replied.{Replied}
use Rattle.pilot_top.specs.RunDisk.{IsChange, fault_on, shown_of}
use Rattle.pilot_top.specs.Stopping.{StopsAs}
use Rattle.pilot_top.specs.declared.last.Cause.TheVariants as cause
use Rattle.pilot_top.specs.declared.status.Status.{Status}
use Rattle.pilot_top.specs.declared.status.Status.TheVariants as status
use Rattle.pilot_top.proofs.PutLemmas.{put_alone}
use Rattle.pilot_top.proofs.ShownLemmas.{not_shown}
use Rattle.pilot_top.proofs.SuitLemmas.{none_first}

-- Over the queue.

-- what a run answers has the settled files where nothing waited
pub settled_of : (s : Status) (d : List Sector) (b t : List ℕ) (left took : Option (List ℕ)) (failed : Type 0) (before disk : DiskState)
    → Answering s (start d) b left t took failed (LeadsTo (start d) (reading b) before disk) → RunQueued s d b left t took failed disk
settled_of status.Done d b t left took failed before disk is = (is.0, is.1, is.2, is.3, is.4.0)
settled_of status.Long d b t left took failed before disk is = (is.0, is.1, is.2, is.3, is.4, is.5.0)
settled_of status.DiskFault d b t left took failed before disk is = (is.0, is.1, is.2, is.3, is.4, is.5, tt)
settled_of status.StreamFault d b t left took failed before disk is = elim is [
  | inl a ↦ inl (a.0, a.1, a.2, a.3, tt)
  | inr (inl a) ↦ inr (inl (a.0, a.1, a.2, tt))
  | inr (inr a) ↦ inr (inr (a.0, a.1, a.2, tt))
]
settled_of status.NotOpened d b t left took failed before disk is = absurd is
settled_of status.NoMemory d b t left took failed before disk is = absurd is
settled_of status.Usage d b t left took failed before disk is = is
settled_of status.Damaged d b t left took failed before disk is = is
settled_of status.Unfit d b t left took failed before disk is = is

-- No session started, on a disk before which pages may wait.

-- nothing was answered
none_before_last : (lines : List TraceLine) → list_any is_last lines ≡ true → 0 < length lines
none_before_last [] some = absurd (cc some)
none_before_last (line ∷ lines) some = omega arith

pub disk_answers : (d : List Sector) (b t : List ℕ) (left took : Option (List ℕ)) (failed : Type 0) (disk : DiskState) → HasWritten failed t took (last_line cause.DiskFault) → RunQueued status.DiskFault d b left t took failed disk
disk_answers d b t left took failed disk wrote = (
  0,
  [],
  record { replies = []; one_a_line = refl; allowed = tt; text_is = refl },
  none_before_last (reading b),
  subst (λ (u : List ℕ). HasWritten failed u took (last_line cause.DiskFault)) (sym (append-nil t)) wrote,
  0,
  tt,
)

module _ {K : Type 0} (shown : Option Evidence) (f : StartFault) (s : Status) (old new : K) (took : K → Option (List ℕ)) (failed : Type 0) (no_root : (why : RootFault) → f ≢ start_fault.Root why)
    (stops : StopsAs (fault_on shown f) s old new (Puts failed (took old) (took new))) where
  abbrev IsHalted : Type 0
  IsHalted = ((s ≡ status.DiskFault) × (shown ≡ None) × (f ≡ start_fault.Halt halt.Disk) × Puts failed (took old) (took new) (last_line cause.DiskFault))
      ⊎ ((e : Evidence) × (shown ≡ None) × (f ≡ start_fault.Halt (halt.Damaged e)) × (s ≡ status.Damaged) × Puts failed (took old) (took new) (last_line (cause.Damaged e)))
      ⊎ ((e : Evidence) × (shown ≡ Some e) × (s ≡ status.Damaged) × Puts failed (took old) (took new) (last_line (cause.Damaged e)))

  pub halted_or_not : IsHalted ⊎ ((f ≡ start_fault.NoMemory) × (s ≡ status.NoMemory) × (new ≡ old))
  halted_or_not = by shown refl f refl stops
    where
      by : (o : Option Evidence) → shown ≡ o → (x : StartFault) → f ≡ x → StopsAs (fault_on o x) s old new (Puts failed (took old) (took new))
          → IsHalted ⊎ ((f ≡ start_fault.NoMemory) × (s ≡ status.NoMemory) × (new ≡ old))
      by o same start_fault.NoMemory is stops = inr (is, stops.0, stops.1)
      by o same (start_fault.Root why) is stops = absurd (no_root why is)
      by (Some e) same (start_fault.Halt h) is stops = inl (inr (inr (e, same, stops.0, stops.1)))
      by None same (start_fault.Halt halt.Disk) is stops = inl (inl (stops.0, same, is, stops.1))
      by None same (start_fault.Halt (halt.Damaged e)) is stops = inl (inr (inl (e, same, is, stops.0, stops.1)))

  -- where no label had changed, it stopped as without a queue
  pub stops_plain : (s ≡ status.Damaged → shown ≡ None) → StopsAs f s old new (Puts failed (took old) (took new))
  stops_plain plain = by shown refl f stops
    where
      by : (o : Option Evidence) → shown ≡ o → (x : StartFault) → StopsAs (fault_on o x) s old new (Puts failed (took old) (took new)) → StopsAs x s old new (Puts failed (took old) (took new))
      by o same start_fault.NoMemory stops = stops
      by o same (start_fault.Root fault.Disk) stops = stops
      by o same (start_fault.Root (fault.NotVolume what)) stops = stops
      by o same (start_fault.Root fault.Unclean) stops = stops
      by o same (start_fault.Root (fault.Version v)) stops = stops
      by o same (start_fault.Root (fault.BadCount n)) stops = stops
      by (Some e) same (start_fault.Halt h) stops = not_shown (plain stops.0) same
      by None same (start_fault.Halt h) stops = stops

  pub never_ends : s ≢ status.Done × s ≢ status.StreamFault × s ≢ status.Long × s ≢ status.NotOpened × s ≢ status.Usage × s ≢ status.Unfit
  never_ends = elim halted_or_not [
    | inl (inl h) ↦ let e = h.0 in (λ is. cc (e, is), λ is. cc (e, is), λ is. cc (e, is), λ is. cc (e, is), λ is. cc (e, is), λ is. cc (e, is))
    | inl (inr (inl h)) ↦ let e = h.3 in (λ is. cc (e, is), λ is. cc (e, is), λ is. cc (e, is), λ is. cc (e, is), λ is. cc (e, is), λ is. cc (e, is))
    | inl (inr (inr h)) ↦ let e = h.2 in (λ is. cc (e, is), λ is. cc (e, is), λ is. cc (e, is), λ is. cc (e, is), λ is. cc (e, is), λ is. cc (e, is))
    | inr m ↦ let e = m.1 in (λ is. cc (e, is), λ is. cc (e, is), λ is. cc (e, is), λ is. cc (e, is), λ is. cc (e, is), λ is. cc (e, is))
  ]

  -- a sound volume shows no damage
  pub never_damaged : shown ≡ None → IsOutside f → s ≢ status.Damaged
  never_damaged none outside damaged = elim halted_or_not [
    | inl (inl h) ↦ let e = h.0 in cc (e, damaged)
    | inl (inr (inl h)) ↦ let e : halt.Damaged h.0 ≡ halt.Disk = subst IsOutside h.2 outside in cc e
    | inl (inr (inr h)) ↦ not_shown none h.1
    | inr m ↦ let e = m.1 in cc (e, damaged)
  ]

  pub never_took : s ≡ status.NoMemory → (f ≡ start_fault.NoMemory) × (new ≡ old)
  never_took is = elim halted_or_not [
    | inl (inl h) ↦ absurd (let e = h.0 in cc (e, is))
    | inl (inr (inl h)) ↦ absurd (let e = h.3 in cc (e, is))
    | inl (inr (inr h)) ↦ absurd (let e = h.2 in cc (e, is))
    | inr m ↦ (m.0, m.2)
  ]

  pub never_read : s ≡ status.DiskFault → (shown ≡ None) × IsDiskFault f
  never_read is = elim halted_or_not [
    | inl (inl h) ↦ (h.1, subst IsDiskFault (sym h.2) refl)
    | inl (inr (inl h)) ↦ absurd (let e = h.3 in cc (e, is))
    | inl (inr (inr h)) ↦ absurd (let e = h.2 in cc (e, is))
    | inr m ↦ absurd (let e = m.1 in cc (e, is))
  ]

  -- the line of a label that had changed, before any reply
  module _ (t : List ℕ) (e : Evidence) (sink : took old ≡ Some t) (is : s ≡ status.Damaged) (shows : shown ≡ Some e) where
    change_put : Puts failed (took old) (took new) (last_line (cause.Damaged e))
    change_put = elim halted_or_not [
      | inl (inl h) ↦ absurd (let d = h.0 in cc (d, is))
      | inl (inr (inl h)) ↦ not_shown h.1 shows
      | inl (inr (inr h)) ↦ let same : ◌≡◌ {A = Option Evidence} (Some h.0) (Some e) = sym h.1 ∙ shows in subst (λ (x : Evidence). Puts failed (took old) (took new) (last_line (cause.Damaged x))) (cc same) h.3
      | inr m ↦ absurd (let d = m.1 in cc (d, is))
    ]

    change_text : HasWritten failed (t ++ []) (took new) (last_line (cause.Damaged e))
    change_text = subst (λ (u : List ℕ). HasWritten failed u (took new) (last_line (cause.Damaged e))) (sym (append-nil t)) (put_alone failed t (took old) (took new) (last_line (cause.Damaged e)) sink change_put)

    pub change_alone : WroteChange t (took new) failed e
    change_alone = ([], change_text)

    pub change_first : (b : List ℕ) → RepliesChange b t (took new) failed e
    change_first b = ([], none_first (reading b), change_text)

  -- what was answered on a sound volume
  pub answers_refused : (d : List Sector) (b t : List ℕ) (left : Option (List ℕ)) (disk : DiskState) → shown ≡ None → IsOutside f → left ≡ Some b → took old ≡ Some t → RunQueued s d b left t (took new) failed disk
  answers_refused d b t left disk none outside source sink = elim halted_or_not [
    | inl (inl h) ↦
        subst (λ (x : Status). RunQueued x d b left t (took new) failed disk) (sym h.0)
        (disk_answers d b t left (took new) failed disk (put_alone failed t (took old) (took new) (last_line cause.DiskFault) sink h.3))
    | inl (inr (inl h)) ↦ absurd (never_damaged none outside h.3)
    | inl (inr (inr h)) ↦ absurd (never_damaged none outside h.2)
    | inr m ↦ subst (λ (x : Status). RunQueued x d b left t (took new) failed disk) (sym m.1) (source, ap took m.2 ∙ sink)
  ]

-- Beneath the queue.

module _ (queue under : DiskState) where
  files_beneath : (m : Machine) (lines : List TraceLine) (k i : ℕ) → under.contents ≡ queue.contents → HasFilesAt m lines queue k i → HasFilesAt m lines under k i
  files_beneath m lines k i same has = (has.0, λ e revealed. has.1 e (sym same ∙ revealed))

  -- the files, where nothing waited
  pub answers_beneath : (s : Status) (d : List Sector) (b t : List ℕ) (left took : Option (List ℕ)) (failed : Type 0)
      → ((s ≡ status.Done) ⊎ (s ≡ status.Long) → under.contents ≡ queue.contents) → RunQueued s d b left t took failed queue → RunQueued s d b left t took failed under
  answers_beneath status.Done d b t left took failed same is = (is.0, is.1, is.2, is.3, files_beneath (start d) (reading b) (length (reading b)) 0 (same (inl refl)) is.4)
  answers_beneath status.Long d b t left took failed same is = (is.0, is.1, is.2, is.3, is.4, files_beneath (start d) (reading b) (length (whole_reading is.0.bytes)) 0 (same (inr refl)) is.5)
  answers_beneath status.DiskFault d b t left took failed same is = is
  answers_beneath status.StreamFault d b t left took failed same is = is
  answers_beneath status.NotOpened d b t left took failed same is = is
  answers_beneath status.NoMemory d b t left took failed same is = is
  answers_beneath status.Usage d b t left took failed same is = is
  answers_beneath status.Damaged d b t left took failed same is = is
  answers_beneath status.Unfit d b t left took failed same is = is

  -- a volume that is closed
  pub shut_beneath : (m : Machine) → HasShut m queue → (under.contents ≡ queue.contents) × (under.synced ≡ true) → HasShut m under
  shut_beneath m shut stands = record {
    reveals = record { sectors = shut.reveals.sectors; revealed = stands.0 ∙ shut.reveals.revealed; shut = shut.reveals.shut };
    synced = stands.1;
  }

  -- what shows damage
  module _ (sectors : under.sectors ≡ queue.sectors) (labels : (k : ℕ) (l : Label) → HasLabel queue k l → HasLabel under k l) where
    pub evident_beneath : (e : Evidence) → IsEvident queue e → IsEvident under e
    evident_beneath (Mismatch sector wanted found) is = (labels sector found is.0, is.1, subst (λ (n : ℕ). MayBeIn n sector wanted) (sym sectors) is.2)
    evident_beneath (Malformed structure page) is = is
    evident_beneath (Missing id page) is = is

    module _ {t : List ℕ} {took : Option (List ℕ)} {failed : Type 0} where
      abbrev pub seen_beneath : RevealsDamage t took failed queue → RevealsSeen t took failed under
      seen_beneath revealed = record {
        replies = revealed.replies;
        evidence = revealed.evidence;
        evidence_seen = inl (evident_beneath revealed.evidence revealed.evidence_seen);
        written = revealed.written;
      }

    pub replied_beneath : (s : Status) (b t : List ℕ) (left took : Option (List ℕ)) (failed : Type 0) → Replied s b left t took failed queue (λ e. Unit {0}) → RepliedQueued s b left t took failed under
    replied_beneath status.Damaged b t left took failed is = (seen_beneath is.0, is.1)
    replied_beneath status.Done b t left took failed is = is
    replied_beneath status.DiskFault b t left took failed is = is
    replied_beneath status.Long b t left took failed is = is
    replied_beneath status.StreamFault b t left took failed is = is
    replied_beneath status.NotOpened b t left took failed is = is
    replied_beneath status.NoMemory b t left took failed is = is
    replied_beneath status.Usage b t left took failed is = is
    replied_beneath status.Unfit b t left took failed is = is

  -- a label that had changed
  module _ (e : Evidence) (change : IsChange e) (unrevealed : under.contents ≡ None) (t : List ℕ) (took : Option (List ℕ)) (failed : Type 0) where
    abbrev pub change_beneath : WroteChange t took failed e → RevealsSeen t took failed under
    change_beneath wrote = record { replies = wrote.0; evidence = e; evidence_seen = inr (change, unrevealed); written = wrote.1 }

    pub change_replied : (s : Status) (b : List ℕ) (left : Option (List ℕ)) → s ≡ status.Damaged → RepliesChange b t took failed e → RepliedQueued s b left t took failed under
    change_replied s b left is wrote = subst (λ (x : Status). RepliedQueued x b left t took failed under) (sym is) (change_beneath (wrote.0, wrote.2), wrote.1)

-- no change is shown where there is none
pub unchanged_of : (o : Option (ℕ × Wanted × Label)) → shown_of o ≡ None → o ≡ None
unchanged_of None is = refl
unchanged_of (Some c) is = absurd (none-some _ (sym is))
