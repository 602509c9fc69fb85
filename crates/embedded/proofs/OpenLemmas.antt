-- A session that begins in an engine, and one that ends.
use Rattle.std.proofs.Common.{◌≡◌, ◌⊎◌, ◌∙◌, length, sym, ap, subst, refl, inl, inr, ℕ, true, false, Option, Some, None, Result, Ok, Err}
use Rattle.labelled_disk.specs.State.{DiskState}
use Rattle.labelled_disk.specs.declared.disk.Disk.{Ghosts}
use Rattle.flat_machine.specs.Machine.{Machine}
use Rattle.running_words.specs.Running.{Runs}
use Rattle.pilot_engine.specs.declared.fault.StartFault.{StartFault}
use Rattle.pilot_engine.specs.declared.session.Session.{Session}
use Rattle.embedded.specs.declared.code.Code.{Code}
use Rattle.embedded.specs.declared.code.Code.TheVariants as code
use Rattle.embedded.specs.declared.engine.Engine.{Engine}
use Rattle.embedded.specs.declared.held.Held.{Held}
use Rattle.embedded.specs.declared.held.Held.TheVariants as held
use Rattle.embedded.specs.declared.live.Live.{Live}
use Rattle.embedded.specs.Begun.{Begins, HasFrames, Opens}
use Rattle.embedded.specs.Closed.{Abandons, Closes}
use Rattle.embedded.specs.Engine.{IsClosed, IsIn, OfBoth, disk_in, disk_of, is_running}
use Rattle.embedded.specs.Later.{Later}
use Rattle.embedded.specs.Opened.{IsFrames}
use Rattle.embedded.specs.Spending.{IsLater}
use Rattle.embedded.specs.Taking.{MissesFree, free_disk}
use Rattle.embedded.proofs.CallLemmas.{open_in}
use Rattle.embedded.proofs.SpendLemmas.{later_itself}
use Rattle.embedded.proofs.TakeLemmas.{not_taken, taken, takes_alike}
use Rattle.fault_core.specs.Core.{state}

-- one of two faults is one of two outcomes
pub either_outcome : {w a b : StartFault} → (w ≡ a) ⊎ (w ≡ b) → (◌≡◌ {A = Result (Unit {0}) StartFault} (Err w) (Err a)) ⊎ (◌≡◌ {A = Result (Unit {0}) StartFault} (Err w) (Err b))
either_outcome (inl is) = inl (ap (λ (x : StartFault). Err x) is)
either_outcome (inr is) = inr (ap (λ (x : StartFault). Err x) is)

module _ {D A : Type 0} {G : Ghosts D} where
  -- a session stands for what it stood for
  pub stands_of : (live : Live D A G) (s : Session D A G) (m : Machine) → live.session ≡ s → s.running ≡ true → Runs s.core s.volume m → IsIn (held.Session live) m
  stands_of live s m same running runs = subst (λ (x : Session D A G). (x.running ≡ true) × Runs x.core x.volume m) (sym same) (running, runs)

  -- its disk, its frames, and that it carries out calls
  pub same_disk : (live : Live D A G) (s : Session D A G) → live.session ≡ s → disk_in (held.Session live) ≡ Some (state s.core).disk
  same_disk live s same = ap (λ (x : Session D A G). Some (state x.core).disk) same

  pub frames_of : (live : Live D A G) (s : Session D A G) (frames : ℕ) → live.session ≡ s → length (state s.core).slots ≡ frames → HasFrames frames (held.Session live)
  frames_of live s frames same are = ap (λ (x : Session D A G). length (state x.core).slots) same ∙ are

  pub open_of : (live : Live D A G) (s : Session D A G) → live.session ≡ s → s.running ≡ true → is_running (held.Session live) ≡ true
  open_of live s same running = ap (λ (x : Session D A G). x.running) same ∙ running

  -- an open over an engine that is another at its disk alone
  pub opens_alike : (frames : ℕ) (old middle new : Engine D A G) (answer : Result (Unit {0}) Code) → IsFrames frames → free_disk middle ≡ free_disk old
      → (free_disk old ≡ None → middle ≡ old) → Opens frames middle answer new → Opens frames old answer new
  opens_alike frames old middle new answer are free same opens = record {
    argument = λ not. absurd (not are);
    begins = λ are. takes_alike (λ disk. Begins frames disk answer new) old middle new answer free same (opens.begins are);
  }

  -- a session that was let go, after which the disk did what it says nothing of
  pub abandons_then : (old middle new : Engine D A G) → Abandons old (Ok tt) middle → (IsClosed middle → IsClosed new) → disk_of new ≡ disk_of middle → new.halt ≡ middle.halt
      → Abandons old (Ok tt) new
  abandons_then old middle new abandons closed disk halt = record {
    done = λ is. refl;
    none = λ closed. absurd (cc (abandons.none closed).0);
    ended = closed abandons.ended;
    disk = disk ∙ abandons.disk;
    same_halt = halt ∙ abandons.same_halt;
  }

  -- an open that found no disk without a session, and one that took the disk
  pub not_opened : (frames : ℕ) (old new : Engine D A G) (e : Code) → IsFrames frames → MissesFree old.held e → new ≡ old → Opens frames old (Err e) new
  not_opened frames old new e are misses same = record {
    argument = λ not. absurd (not are);
    begins = λ are. not_taken (Unit {0}) (λ disk. Begins frames disk (Err e) new) old new e misses same;
  }

  pub opened : (frames : ℕ) (old new : Engine D A G) (answer : Result (Unit {0}) Code) (disk : D) → IsFrames frames → old.held ≡ held.Disk disk
      → Begins frames (G.state disk) answer new → Opens frames old answer new
  opened frames old new answer disk are is begins = record {
    argument = λ not. absurd (not are);
    begins = λ are. taken (λ d. Begins frames d answer new) old new answer disk is begins;
  }

  -- An end: of a session that was taken out of the engine.

  -- it stands for what the engine stood for
  pub runs_of : (h : Held D A G) (live : Live D A G) (s : Session D A G) (m : Machine) → h ≡ held.Session live → s ≡ live.session → IsIn h m → Runs s.core s.volume m
  runs_of h live s m is same stands =
      subst (λ (x : Session D A G). Runs x.core x.volume m) (sym same) (subst (λ (x : Held D A G). IsIn x m) is stands).1

  -- from its disk to the one that it left
  pub ended_between : (P : DiskState → DiskState → Type 0) (h : Held D A G) (live : Live D A G) (s : Session D A G) (left : DiskState) → h ≡ held.Session live → s ≡ live.session
      → P (state s.core).disk left → OfBoth P (disk_in h) (Some left)
  ended_between P h live s left is same p =
      subst (λ (x : Held D A G). OfBoth P (disk_in x) (Some left)) (sym is)
      (subst (λ (x : Session D A G). P (state x.core).disk left) same p)

  pub ended_later : (h : Held D A G) (live : Live D A G) (s : Session D A G) (left : DiskState) → h ≡ held.Session live → s ≡ live.session
      → Later (state s.core).disk left → IsLater (disk_in h) (Some left)
  ended_later h live s left is same later =
      subst (λ (x : Held D A G). IsLater (disk_in x) (Some left)) (sym is)
      (subst (λ (x : Session D A G). Later (state x.core).disk left) same later)

  -- the engine had one that ran
  pub had_open : (h : Held D A G) (live : Live D A G) → h ≡ held.Session live → live.session.running ≡ true → is_running h ≡ true
  had_open h live is running = subst (λ (x : Held D A G). is_running x ≡ true) (sym is) running

  closes_none : (e : Engine D A G) → IsClosed e → Closes e (Err code.Closed) e
  closes_none e closed = record {
    closed = λ m stands. tt;
    sound = λ m stands. absurd (cc (open_in e.held m stands, closed));
    stops = λ m stands. absurd (cc (open_in e.held m stands, closed));
    synced = tt;
    stopped = λ why is. absurd (cc is);
    cause = λ is. absurd (cc is);
    none = λ is. (refl, refl);
    ended = closed;
    later = later_itself (disk_of e);
  }

  -- there was none
  pub not_closed : (old new : Engine D A G) → IsClosed old → new ≡ old → Closes old (Err code.Closed) new
  not_closed old new closed same = subst (λ (e : Engine D A G). Closes old (Err code.Closed) e) (sym same) (closes_none old closed)
