-- A call on a file, after a question that only looked.
use Rattle.std.proofs.Common.{◌≡◌, ℕ, ◌≤◌, ◌+◌, ◌^◌, [], Ok, Err, Result, refl, ap, ◌∙◌, sym, arith, List, subst}
use Rattle.std.specs.Prelude.{IfErr}
use Rattle.labelled_disk.specs.declared.disk.Disk.{Ghosts}
use Rattle.labelled_disk.specs.declared.evidence.Halt.{Halt}
use Rattle.labelled_disk.specs.declared.evidence.Halt.TheVariants as halt
use Rattle.labelled_disk.specs.declared.layout.Layout.{Layout}
use Rattle.flat_machine.specs.declared.call.Call.{Call}
use Rattle.flat_machine.specs.declared.call.Call.TheVariants as call
use Rattle.flat_machine.specs.declared.call.Reply.{Reply}
use Rattle.flat_machine.specs.Machine.{Machine}
use Rattle.flat_machine.specs.Next.{change}
use Rattle.file_map.specs.FileMap.{Triples}
use Rattle.filer_kernel.specs.View.{MakesOnly, accepted}
use Rattle.swap_units.specs.declared.interval.Interval.{Interval}
use Rattle.session_words.specs.Parts.{TablesMeaning}
use Rattle.session_words.specs.Volume.{volume_page}
use Rattle.swapper_kernel.specs.GoesLaws.{makes_then}
use Rattle.swapper_kernel.specs.HaltLaws.{brings_then}
use Rattle.file_manager.specs.declared.volume.Volume.{Volume}
use Rattle.file_manager.specs.Reasons.{InitialState, Keeps, telling}
use Rattle.file_manager.specs.Stays.{LooksAlone}
use Rattle.fault_core.specs.declared.core_over.Core.{Core}
use Rattle.fault_core.specs.Core.{kept, state}
use Rattle.fault_core.specs.Lack.{Sees}
use Rattle.fault_core.proofs.ReachLemmas.{reaches_then}
use Rattle.running_words.specs.Bound.{CostsOther}
use Rattle.running_words.specs.Running.{Carried, Runs}
use Rattle.running_words.specs.Session.{AreInForm, IsOpen}
use Rattle.space_calls.specs.Calls.{Looks}
use Rattle.space_calls.proofs.HaltLemmas.{look_reaches}
use Rattle.pilot_engine.specs.declared.session.Session.{Session}
use Rattle.pilot_engine.specs.Calls.{Answers, Stays}
use Rattle.pilot_engine.specs.Outcomes.{AccountsOn, AccountsSeen, AnswersIn, IsIn, IsSetUp, LooksOn, Remains, RemainsInside, WritesFile, WritesPages}
use Rattle.pilot_engine.specs.Seen.{CostsInside}
use Rattle.pilot_engine.specs.Sparing.{SparesBut}
use Rattle.pilot_engine.proofs.BoundLemmas.{asked_inside, spent_besides}
use Rattle.pilot_engine.proofs.CameOwn.{brought_then}
use Rattle.pilot_engine.proofs.HomeLemmas.{file_later, home_still}
use Rattle.pilot_engine.proofs.LabelLemmas.{pages_alone}
use Rattle.pilot_engine.proofs.LiftLemmas.{asked_passes, carried_out, still_open}
use Rattle.pilot_engine.proofs.PassThen.{asked_then}
use Rattle.pilot_engine.proofs.ReasonSteps.{reached_on, reasons_since}
use Rattle.pilot_engine.proofs.SeesLemmas.{AreHome, same_next, same_still, seen_still, then_next}
use Rattle.pilot_engine.proofs.SparedCalls.{all_but, but_then, spares_quiet}
use Rattle.pilot_engine.proofs.WindowLemmas.{still_then}
use Rattle.pilot_engine.proofs.WritingLemmas.{only_quiet, only_then}
use Rattle.pilot_engine.proofs.WroteLemmas.{wrote_by, wrote_then}

module _ {D A : Type 0} {G : Ghosts D} where
  -- ---- What it wrote.

  -- where no label is written
  pub asked_pages : {old new : Session D A G} → MakesOnly volume_page [] (state old.core) (state new.core) → WritesPages old new
  asked_pages makes = record { wrote = wrote_by makes tt; unlabelled = pages_alone makes }

  pub asked_writes : {old new : Session D A G} (c : Call) {id : ℕ} → MakesOnly volume_page [] (state old.core) (state new.core) → WritesFile c (SparesBut id) old new
  asked_writes c makes = record { wrote = wrote_by makes tt; own = only_quiet c makes; spares = all_but (spares_quiet makes) }

  -- a call on a file that follows
  pub writes_after : {old mid new : Session D A G} (c : Call) {id : ℕ} → MakesOnly volume_page [] (state old.core) (state mid.core) → WritesFile c (SparesBut id) mid new → WritesFile c (SparesBut id) old new
  writes_after c makes later = record {
    wrote = wrote_then (wrote_by makes tt) later.wrote;
    own = only_then (only_quiet c makes) later.own;
    spares = but_then (all_but (spares_quiet makes)) later.spares;
  }

  -- ---- What it keeps to.

  -- the same, where it gives something else
  pub accounts_again : {X Y : Type 0} {x : X} {y : Y} {o : InitialState} {old new : Session D A G} → AccountsSeen o old new (Ok x) → AccountsSeen o old new (Ok y)
  accounts_again a = record { keeps_to = a.keeps_to; reasons = tt; sees = a.sees; windows = a.windows }

  pub accounts_failed : {X Y : Type 0} {e : Halt} {o : InitialState} {old new : Session D A G} → AccountsSeen {T = X} o old new (Err e) → AccountsSeen {T = Y} o old new (Err e)
  accounts_failed a = record { keeps_to = tt; reasons = a.reasons; sees = a.sees; windows = tt }

  -- a call that follows
  pub accounts_after : {X Y : Type 0} {x : X} {old mid new : Session D A G} (r : Result Y Halt) → (state mid.core).layout ≡ (state old.core).layout → AccountsOn old mid (Ok x) → AccountsOn mid new r → AccountsOn old new r
  accounts_after {old = old} {mid = mid} {new = new} r layout first later o k =
      let a = first o k in
      let b = later o a.keeps_to in
      record {
        keeps_to = b.keeps_to;
        reasons = reasons_since r o (state new.core).disk layout b.reasons;
        sees = λ seen. b.sees (a.sees seen);
        windows = still_then r old.core mid.core new.core a.windows b.windows;
      }

  -- nothing was done
  pub accounts_itself : {X : Type 0} {x : X} {s : Session D A G} → AccountsOn s s (Ok x)
  accounts_itself o k = record { keeps_to = k; reasons = tt; sees = λ seen. seen; windows = λ ss s. s }

  -- the tables were asked
  pub accounts_looked : {X : Type 0} {x : X} {old : Session D A G} {core : Core D A G} → Looks old.core core → AccountsOn old (record old { core = core }) (Ok x)
  accounts_looked {old = old} {core = core} looks o k = record {
    keeps_to = reached_on o (state old.core) (state core) (accepted old.core.filer) looks.reaches k;
    reasons = tt;
    sees = λ seen. home_still o old.core core looks.makes looks.still seen;
    windows = looks.still;
  }

  -- a file was looked up, or searched for
  pub accounts_found : {X : Type 0} {x : X} (old new : Session D A G) → ((o : InitialState) (named : Triples) → Keeps o old.core.filer named → Keeps o new.core.filer named) → MakesOnly volume_page [] (state old.core) (state new.core)
      → kept new.core ≡ kept old.core → new.core.intervals ≡ old.core.intervals → AccountsOn old new (Ok x)
  accounts_found old new keeps makes same_kept same_count o k = record {
    keeps_to = (k.0, (keeps o k.0 k.1.0, k.1.1));
    reasons = tt;
    sees = λ seen.
        subst (λ (count : ℕ). AreHome o (state new.core) (kept new.core) count) (sym same_count)
        (subst (λ (them : List Interval). AreHome o (state new.core) them old.core.intervals) (sym same_kept)
        (seen_still o (state old.core) (accepted old.core.filer) k (state new.core) (λ b. keeps (telling o b) k.0) (file_later o makes) seen));
    windows = λ ss s.
        subst (λ (count : ℕ). Sees (state new.core) (kept new.core) count ss) (sym same_count)
        (subst (λ (them : List Interval). Sees (state new.core) them old.core.intervals ss) (sym same_kept)
        (same_still o (state old.core) (accepted old.core.filer) k (state new.core) (λ b. keeps (telling o b) k.0) ss s));
  }

  -- ---- What a question leaves.

  pub looks_alone : {old : Session D A G} {core : Core D A G} → Looks old.core core → LooksOn old (record old { core = core })
  looks_alone looks = record {
    reaches = looks.reaches;
    came = looks.came;
    makes = looks.makes;
    layout = looks.layout;
    volume = refl;
    running = refl;
    intervals = looks.intervals;
  }

  pub looks_found : (old new : Session D A G) → LooksAlone (state old.core) (state new.core) → new.volume ≡ old.volume → new.running ≡ old.running → new.core.intervals ≡ old.core.intervals → LooksOn old new
  looks_found old new looks volume running intervals = record {
    reaches = look_reaches (state old.core) (state new.core) looks.looks looks.layout;
    came = looks.brings;
    makes = looks.makes;
    layout = looks.layout;
    volume = volume;
    running = running;
    intervals = intervals;
  }

  pub looks_then : {old mid new : Session D A G} → LooksOn old mid → LooksOn mid new → LooksOn old new
  looks_then {old = old} {mid = mid} {new = new} looks later = record {
    reaches = reaches_then (state old.core) (state mid.core) (accepted old.core.filer) looks.reaches (state new.core) later.reaches;
    came = brings_then looks.came later.came;
    makes = makes_then looks.makes later.makes;
    layout = later.layout ∙ looks.layout;
    volume = later.volume ∙ looks.volume;
    running = later.running ∙ looks.running;
    intervals = later.intervals ∙ looks.intervals;
  }

  -- ---- What a call leaves that has not changed the volume.

  pub remains_files : (old new : Session D A G) → (state new.core).layout ≡ (state old.core).layout → IsOpen (state old.core).layout old.volume → new.volume ≡ old.volume → new.running ≡ old.running → kept new.core ≡ kept old.core
      → new.core.intervals ≡ old.core.intervals → RemainsInside old new
  remains_files old new layout opened volume running same_kept intervals = record {
    stays = record {
      open_still = still_open _ _ _ _ opened layout volume;
      monotone = same_next old.volume.root new.volume.root (ap (λ (v : Volume). v.root) volume);
      serial = ap (λ (v : Volume). v.root.serial) volume;
      layout = layout;
    };
    running = running;
    kept = same_kept;
    intervals = intervals;
  }

  pub remains_itself : {s : Session D A G} → IsOpen (state s.core).layout s.volume → RemainsInside s s
  remains_itself opened = record { stays = record { open_still = opened; monotone = omega arith; serial = refl; layout = refl }; running = refl; kept = refl; intervals = refl }

  -- ---- After a question.

  module _ {old mid : Session D A G} (looks : LooksOn old mid) where
    -- the session takes the call
    open_asked : IsOpen (state old.core).layout old.volume → IsOpen (state mid.core).layout mid.volume
    open_asked opened = still_open _ _ _ _ opened looks.layout looks.volume

    pub set_up_asked : IsSetUp old → IsSetUp mid
    set_up_asked set = record { size = looks.makes.went.sectors ∙ set.size ∙ ap (λ (l : Layout). l.sectors) (sym looks.layout); opened = open_asked set.opened }

    -- it stays
    pub stays_asked : IsOpen (state old.core).layout old.volume → Stays old mid
    stays_asked opened = record {
      open_still = open_asked opened;
      monotone = same_next old.volume.root mid.volume.root (ap (λ (v : Volume). v.root) looks.volume);
      serial = ap (λ (v : Volume). v.root.serial) looks.volume;
      layout = looks.layout;
    }

    pub remains_asked : IsOpen (state old.core).layout old.volume → Remains old mid
    remains_asked opened = record { stays = stays_asked opened; running = looks.running }

    pub remains_after : {new : Session D A G} → RemainsInside mid new → Remains old new
    remains_after {new = new} later = record {
      stays = record {
        open_still = later.stays.open_still;
        monotone = then_next old.volume.root mid.volume.root new.volume.root (ap (λ (v : Volume). v.root) looks.volume) later.stays.monotone;
        serial = later.stays.serial ∙ ap (λ (v : Volume). v.root.serial) looks.volume;
        layout = later.stays.layout ∙ looks.layout;
      };
      running = later.running ∙ looks.running;
    }

    -- and pays for another call
    pub paid_after : (new : Session D A G) (few : ℕ) → few ≤ 2 ^ 29 → (state mid.core).disk.transfers ≤ (state old.core).disk.transfers + few → CostsInside (state mid.core).disk (state new.core).disk → CostsOther (state old.core).disk (state new.core).disk
    paid_after new few small cost paid = spent_besides (state old.core).disk (state mid.core).disk (state new.core).disk looks.makes.went.sectors (omega (arith, small, cost)) paid

    -- ---- What was answered.

    module _ {m : Machine} (r : Runs old.core old.volume m) (form : AreInForm (state old.core).disk) (c : Call) (few : ℕ) (small : few ≤ 2 ^ 29) (cost : (state mid.core).disk.transfers ≤ (state old.core).disk.transfers + few) where
      -- the question itself
      pub answers_asked : {reply : Reply} → Carried m c mid.core mid.volume reply → Answers m c old mid (Ok reply)
      answers_asked carried = record {
        carried = carried;
        sound = tt;
        passes = asked_passes old.core old.volume m c r form looks.makes;
        came = λ quiet. looks.came;
        cost = asked_inside (state old.core).disk (state mid.core).disk few small cost;
      }

      pub answers_halted : {e : Halt} → e ≡ halt.Disk → Answers m c old mid (Err e)
      answers_halted fault = record {
        carried = tt;
        sound = fault;
        passes = asked_passes old.core old.volume m c r form looks.makes;
        came = λ quiet. tt;
        cost = asked_inside (state old.core).disk (state mid.core).disk few small cost;
      }

      -- a call that follows, inside
      pub answers_after : {new : Session D A G} (result : Result Reply Halt) → (now : Runs mid.core mid.volume m) → (change m c).spaces ≡ m.spaces → RemainsInside mid new
          → ((spaces_of : TablesMeaning) → IsIn spaces_of mid m → AnswersIn spaces_of m c mid new result) → IfErr result (λ e. e ≡ halt.Disk) → CostsOther (state old.core).disk (state new.core).disk → Answers m c old new result
      answers_after {new = new} result now spaces remains inside sound paid =
          let here = inside _ now.session in
          record {
            carried = carried_out mid.core new.core mid.volume new.volume m c remains.kept remains.intervals spaces now result (λ spaces_of s. (inside spaces_of s).carried);
            sound = sound;
            passes = asked_then m c (asked_passes old.core old.volume m call.Volume r form looks.makes) here.passes;
            came = λ quiet. brought_then result (state new.core).slots looks.came here.came;
            cost = paid;
          }
