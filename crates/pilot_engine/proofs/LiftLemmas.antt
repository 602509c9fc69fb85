-- From what disk and frames stand for, whatever the pages of the space tables mean, to the machine that a core stands for.
use Rattle.std.proofs.Common.{◌≡◌, ℕ, Bool, true, false, cond, List, [], Some, None, Result, Ok, Err, refl, sym, ◌∙◌, subst}
use Rattle.std.specs.Prelude.{IfOk, is_none}
use Rattle.std.specs.List.{concat}
use Rattle.labelled_disk.specs.declared.disk.Disk.{Ghosts}
use Rattle.labelled_disk.specs.declared.evidence.Halt.{Halt}
use Rattle.labelled_disk.specs.declared.layout.Layout.{Layout}
use Rattle.labelled_disk.specs.State.{DiskState}
use Rattle.frame_pool.specs.Frames.{Slots}
use Rattle.flat_machine.specs.declared.call.Call.{Call}
use Rattle.flat_machine.specs.declared.call.Reply.{Reply}
use Rattle.flat_machine.specs.declared.call.Reply.TheVariants as reply
use Rattle.flat_machine.specs.declared.call.Refusal.{Refusal}
use Rattle.flat_machine.specs.declared.space.Space.{Space}
use Rattle.flat_machine.specs.Allows.{Answers}
use Rattle.flat_machine.specs.Machine.{Machine}
use Rattle.flat_machine.proofs.StoreLemmas.{unrefused}
use Rattle.flat_machine.specs.Next.{change, next}
use Rattle.flat_machine.specs.Refusal.{refusal}
use Rattle.swap_units.specs.declared.interval.Interval.{Interval}
use Rattle.space_tables.specs.Stored.{RevealSpaces}
use Rattle.labelled_disk.specs.Sectors.{Sector}
use Rattle.session_words.specs.Parts.{Shapes, TablesMeaning, shapes_of}
use Rattle.session_words.specs.Volume.{volume_page}
use Rattle.swapper_kernel.specs.Goes.{Makes}
use Rattle.file_manager.specs.declared.volume.Volume.{Volume}
use Rattle.file_manager.specs.Book.{Books, BringsOwn}
use Rattle.fault_core.specs.declared.core_over.Core.{Core}
use Rattle.fault_core.specs.Core.{kept, state}
use Rattle.fault_core.specs.Kept.{IsKept}
use Rattle.fault_core.specs.Revealed.{IsIntervalOf}
use Rattle.filer_kernel.specs.View.{View}
use Rattle.running_words.specs.Running.{Carried, IsRunning, Runs, exactly}
use Rattle.running_words.specs.Session.{AreInForm, Carries, IsOpen, IsSession}
use Rattle.running_words.specs.Stages.{Passes}
use Rattle.running_words.proofs.SessionLemmas.{asked_at, session_books}
use Rattle.running_words.proofs.StageLemmas.{no_step}
use Rattle.pilot_engine.proofs.CarryLemmas.{answers, refuses, stays_refused}

-- Disk and frames stand for another machine with the same spaces, and the same is known of the space tables.
pub lifted : (v w : View) (kept later : List Interval) (count now : ℕ) (volume next_volume : Volume) (m n : Machine) (r : IsRunning v kept count volume m) → later ≡ kept → now ≡ count → n.spaces ≡ m.spaces
    → ((spaces_of : TablesMeaning) → IsSession spaces_of v.disk v.slots v.layout v.runs volume m → IsSession spaces_of w.disk w.slots w.layout w.runs next_volume n)
    → IsRunning w later now next_volume n
lifted v w kept later count now volume next_volume m n r same_kept same_count same inner = record {
  pages = r.pages;
  tables = subst (λ (ss : List Space). RevealSpaces (λ b. b ≡ concat r.pages) now ss) (sym same) (subst (λ (k : ℕ). RevealSpaces (λ b. b ≡ concat r.pages) k m.spaces) (sym same_count) r.tables);
  session = subst (λ (ss : List Space). IsSession (exactly r.pages ss) w.disk w.slots w.layout w.runs next_volume n) (sym same) (inner (exactly r.pages m.spaces) r.session);
  cached = λ x is. subst (λ (ss : List Space). IsIntervalOf ss x) (sym same) (r.cached x (subst (λ (l : List Interval). IsKept l x) same_kept is));
}

-- a call on files leaves the spaces
pub same_spaces : (m : Machine) (c : Call) → (change m c).spaces ≡ m.spaces → (next m c).spaces ≡ m.spaces
same_spaces m c same = by (is_none (refusal m c))
  where
    by : (b : Bool) → (cond b (change m c) m).spaces ≡ m.spaces
    by true = same
    by false = refl

module _ {D A : Type 0} {G : Ghosts D} where
  module _ (old new : Core D A G) (volume next_volume : Volume) (m : Machine) (c : Call) (same_kept : kept new ≡ kept old) (same_count : new.intervals ≡ old.intervals) (spaces : (change m c).spaces ≡ m.spaces) (r : Runs old volume m) where
    -- what was carried out, whatever those pages mean
    pub carried_out : (result : Result Reply Halt)
        → ((spaces_of : TablesMeaning) → IsSession spaces_of (state old).disk (state old).slots (state old).layout (state old).runs volume m
        → IfOk result (λ reply. Carries spaces_of m c reply (state new).disk (state new).slots (state new).layout (state new).runs next_volume))
        → IfOk result (Carried m c new next_volume)
    carried_out (Err e) inner = tt
    carried_out (Ok reply) inner = record {
      allowed = (inner (exactly r.pages m.spaces) r.session).allowed;
      runs = lifted (state old) (state new) (kept old) (kept new) old.intervals new.intervals volume next_volume m (next m c) r same_kept same_count (same_spaces m c spaces) (λ spaces_of s. (inner spaces_of s).stands);
    }

  -- a call is refused after a question
  pub refused_running : (core : Core D A G) (volume : Volume) (m : Machine) (c : Call) (word : Refusal) → Runs core volume m → refusal m c ≡ Some word → Carried m c core volume (reply.Refused word)
  refused_running core volume m c word r is = record { allowed = refuses m c word is; runs = subst (λ (n : Machine). Runs core volume n) (stays_refused m c word is) r }

  -- or answered, and changes nothing
  pub replied_running : (core : Core D A G) (volume : Volume) (m : Machine) (c : Call) (r : Reply) → Runs core volume m → refusal m c ≡ None → Answers m c r → change m c ≡ m → Carried m c core volume r
  replied_running core volume m c r runs free answer still = record {
    allowed = answers m c r free answer;
    runs = subst (λ (n : Machine). Runs core volume n) (sym (unrefused m c free ∙ still)) runs;
  }

  -- and nothing was written but pages of the volume's own
  pub asked_passes : (core : Core D A G) (volume : Volume) (m : Machine) (c : Call) → Runs core volume m → AreInForm (state core).disk → {new : DiskState} {after : Slots} → Makes volume_page [] (state core).disk (state core).slots new after
      → Passes m c (state core).disk new
  asked_passes core volume m c r form {new = new} {after = after} makes = no_step (exactly r.pages m.spaces) (state core).disk new (state core).slots after m c r.session.stands makes form

  -- pages were searched for, and the runs that were found are kept
  pub searched_running : (old new : Core D A G) (volume : Volume) (m : Machine) → Runs old volume m → kept new ≡ kept old → new.intervals ≡ old.intervals → Makes volume_page [] (state old).disk (state old).slots (state new).disk (state new).slots
      → BringsOwn (state old).slots (state new).slots
      → ((x : List Sector) (shapes : Shapes) (spaces : List Space) → Books (state old).disk (state old).slots (state old).layout (state old).runs shapes spaces x → Books (state new).disk (state new).slots (state old).layout (state new).runs shapes spaces x)
      → (state new).layout ≡ (state old).layout → Runs new volume m
  searched_running old new volume m r same_kept same_count makes brings same layout =
      lifted (state old) (state new) (kept old) (kept new) old.intervals new.intervals volume volume m m r same_kept same_count refl
      (λ spaces_of s.
      asked_at spaces_of (state old).disk (state new).disk (state old).slots (state new).slots (state old).layout (state old).runs (state new).runs volume m s makes brings
      (same s.stands.memory (shapes_of m.files) m.spaces (session_books spaces_of (state old).disk (state old).slots (state old).layout (state old).runs volume m s)) (state new).layout layout)

-- the volume is open with the layout said otherwise
pub still_open : (layout now : Layout) (volume later : Volume) → IsOpen layout volume → now ≡ layout → later ≡ volume → IsOpen now later
still_open layout now volume later opened same kept = subst (λ (v : Volume). IsOpen now v) (sym kept) (subst (λ (l : Layout). IsOpen l volume) (sym same) opened)
