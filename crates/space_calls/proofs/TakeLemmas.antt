-- A window that is taken away, or gets another mode.
use Rattle.std.proofs.Common.{◌≡◌, ℕ, ◌+◌, Bool, true, false, List, [], ◌∷◌, Option, Some, None, inl, inr, refl, sym, ◌∙◌, ap, subst}
use Rattle.std.specs.Prelude.{IfSome, option_and_then, option_map, if◌then◌else◌}
use Rattle.std.specs.Bool.{then_some}
use Rattle.std.specs.Option.{option_map_or}
use Rattle.labelled_disk.specs.declared.disk.Disk.{Ghosts}
use Rattle.flat_machine.specs.declared.call.Call.TheVariants as call
use Rattle.flat_machine.specs.declared.call.Refusal.{Refusal}
use Rattle.flat_machine.specs.declared.call.Refusal.TheVariants as why
use Rattle.flat_machine.specs.declared.call.Reply.TheVariants as reply
use Rattle.flat_machine.specs.declared.space.Space.{Space}
use Rattle.flat_machine.specs.declared.space.Window.{Window}
use Rattle.flat_machine.specs.IsMachine.{IsMachine}
use Rattle.flat_machine.specs.Machine.{Machine}
use Rattle.flat_machine.specs.Next.{change, protected, set_mode, set_window, with_mode, without_window_of}
use Rattle.flat_machine.specs.Refusal.{first_of, is_immutable, refusal, shows_immutable}
use Rattle.flat_machine.specs.Space.{space_at}
use Rattle.flat_machine.proofs.Keep.{spaces_of}
use Rattle.flat_machine.proofs.KeepUnmap.{protect_keeps}
use Rattle.flat_machine.proofs.Lists.{all_in, looked_up}
use Rattle.projection_laws.specs.Laws.{WindowFits, WindowsFit}
use Rattle.projection_laws.specs.Spaces.{MayHaveWindow}
use Rattle.projection_laws.specs.Tests.{window_row}
use Rattle.projection_laws.proofs.OneLemmas.{mode_is_window}
use Rattle.projection_laws.proofs.Passes.{tests_on_spaces}
use Rattle.space_tables.specs.declared.shown.Shown.{Shown}
use Rattle.space_tables.specs.Shows.{window_of}
use Rattle.session_words.specs.FrameLaws.{HasFrames}
use Rattle.session_words.specs.Parts.{DirtyAreLoose}
use Rattle.file_manager.specs.declared.volume.Volume.{Volume}
use Rattle.fault_core.specs.declared.core_over.Core.{Core}
use Rattle.fault_core.specs.Range.{AreClean, AreGone}
use Rattle.running_words.specs.Running.{Carried, Runs}
use Rattle.space_calls.specs.Unmapping.{without_window}
use Rattle.space_calls.proofs.AwayLemmas.{frames_left, gone_clean, loose_left}
use Rattle.space_calls.proofs.CarryLemmas.{done_carried, next_done}
use Rattle.space_calls.proofs.ShownLemmas.{moded_shown}
use Rattle.space_calls.proofs.TakenMachine.{may_have, named, row_passed, taken_machine}
use Rattle.filer_kernel.specs.View.{view_of}

-- ---- The tests.

module _ (m : Machine) (k : ℕ) (writable : Bool) where
  agreed : refusal m (call.Protect k writable) ≡ first_of (first_of (window_row m.spaces k) ∷ (if writable then shows_immutable m k else None) ∷ [])
  agreed = (tests_on_spaces m).protect k writable

  pub row_refused : (word : Refusal) → first_of (window_row m.spaces k) ≡ Some word → refusal m (call.Protect k writable) ≡ Some word
  row_refused word e = agreed ∙ says (first_of (window_row m.spaces k)) (if writable then shows_immutable m k else None) e
    where
      says : (a b : Option Refusal) → a ≡ Some word → first_of (a ∷ b ∷ []) ≡ Some word
      says a b e = rw e refl

  module _ (row : first_of (window_row m.spaces k) ≡ None) where
    pub last_decides : (o : Option Refusal) → (if writable then shows_immutable m k else None) ≡ o → refusal m (call.Protect k writable) ≡ o
    last_decides o e = agreed ∙ says (first_of (window_row m.spaces k)) (if writable then shows_immutable m k else None) row ∙ e
      where
        only : (b : Option Refusal) → first_of (b ∷ []) ≡ b
        only None = refl
        only (Some word) = refl

        says : (a b : Option Refusal) → a ≡ None → first_of (a ∷ b ∷ []) ≡ b
        says a b e = rw e (only b)

-- ---- What is known of the window.

module _ {D A : Type 0} {G : Ghosts D} (l : Core D A G) (volume : Volume) (m : Machine) (r : Runs l volume m) (k : ℕ) (shown : Shown) (s : Space) (at : space_at m.spaces k ≡ Some s) (has : s.window ≡ Some (window_of shown)) where
  is : IsMachine m
  is = r.session.stands.is.by.machine

  pub handle_is : s.handle ≡ k
  handle_is = named m is k s (window_of shown) at has

  pub may : MayHaveWindow m.spaces s
  may = may_have m is k s (window_of shown) at has

  pub row : first_of (window_row m.spaces k) ≡ None
  row = row_passed m.spaces k s (window_of shown) at has

  -- ---- It is taken away.

  pub machine_left : IsMachine (without_window k s m)
  machine_left = taken_machine m is k s (window_of shown) at has

  module _ (first pages : ℕ) (begins : first ≡ s.first) (long : pages ≡ s.pages) where
    pub gone_frames : AreGone m.spaces (view_of l.filer).slots first (first + pages) → HasFrames (view_of l.filer).slots (set_window k None m.spaces)
    gone_frames gone =
        frames_left m.spaces (spaces_of m is) k s (window_of shown) at has (view_of l.filer).slots
        (subst (λ (n : ℕ). AreGone m.spaces (view_of l.filer).slots n (n + s.pages)) begins (subst (λ (n : ℕ). AreGone m.spaces (view_of l.filer).slots first (first + n)) long gone)) r.session.stands.frames

    pub clean_loose : AreClean m.spaces (view_of l.filer).slots first (first + pages) → DirtyAreLoose (view_of l.filer).slots (without_window_of s m.unforced)
    clean_loose clean =
        loose_left m.spaces (spaces_of m is) k s (window_of shown) at has (view_of l.filer).slots
        (subst (λ (n : ℕ). AreClean m.spaces (view_of l.filer).slots n (n + s.pages)) begins (subst (λ (n : ℕ). AreClean m.spaces (view_of l.filer).slots first (first + n)) long clean)) m.unforced r.session.stands.dirty

    pub gone_loose : AreGone m.spaces (view_of l.filer).slots first (first + pages) → DirtyAreLoose (view_of l.filer).slots (without_window_of s m.unforced)
    gone_loose gone = clean_loose (gone_clean m.spaces (view_of l.filer).slots first (first + pages) gone)

  -- ---- It gets another mode.

  module _ (writable : Bool) where
    -- the same window in that mode
    abbrev pub now : Window
    now = with_mode writable (window_of shown)

    pub mode_fits : WindowFits s.pages now
    mode_fits =
        let fit : WindowsFit m.spaces = subst WindowsFit r.tables.spaces r.tables.right.windows in
        let one : IfSome s.window (WindowFits s.pages) = all_in (λ t. IfSome t.window (WindowFits t.pages)) m.spaces fit s (looked_up (λ t. t.handle) m.spaces k s at).0 in
        let of : WindowFits s.pages (window_of shown) = subst (λ (o : Option Window). IfSome o (WindowFits s.pages)) has one in
        record { above_reserved = of.above_reserved; small = of.small; pages_fit = of.pages_fit }

    pub mode_frames : HasFrames (view_of l.filer).slots (set_window k (Some now) m.spaces)
    mode_frames = record { known = λ id page there. elim (r.session.stands.frames.known id page there) [ inl low ↦ inl low | inr before ↦ inr (moded_shown m.spaces id page before (spaces_of m is) k s at (window_of shown) now has refl refl) ] }

    spaces_are : set_mode s.handle writable m.spaces ≡ set_window k (Some now) m.spaces
    spaces_are =
        mode_is_window m.spaces s writable (spaces_of m is) may.there ∙ ap (λ (o : Option Window). set_window s.handle (option_map (with_mode writable) o) m.spaces) has
        ∙ ap (λ (n : ℕ). set_window n (Some now) m.spaces) handle_is

    pub mode_next : change m (call.Protect k writable) ≡ record m { spaces = set_window k (Some now) m.spaces; unforced = if writable then m.unforced else without_window_of s m.unforced }
    mode_next = ap (λ (o : Option Space). option_map_or (protected m writable) o m) at ∙ ap (λ (ss : List Space). record m { spaces = ss; unforced = if writable then m.unforced else without_window_of s m.unforced }) spaces_are

    pub mode_machine : refusal m (call.Protect k writable) ≡ None → IsMachine (record m { spaces = set_window k (Some now) m.spaces; unforced = if writable then m.unforced else without_window_of s m.unforced })
    mode_machine none = subst IsMachine (next_done m (call.Protect k writable) none ∙ mode_next) (protect_keeps k writable m is)

  -- ---- Whether it may.

  pub mode_refused : (b : Bool) → is_immutable m shown.id ≡ then_some b why.Immutable → refusal m (call.Protect k true) ≡ then_some b why.Immutable
  mode_refused b revealed =
      last_decides m k true row (then_some b why.Immutable) (ap (λ (o : Option Space). option_and_then (λ t. option_and_then (λ w. is_immutable m w.file) t.window) o) at
      ∙ ap (λ (o : Option Window). option_and_then (λ w. is_immutable m w.file) o) has ∙ revealed)

  pub read_only_allowed : refusal m (call.Protect k false) ≡ None
  read_only_allowed = last_decides m k false row None refl

  module _ (writable : Bool) (none : refusal m (call.Protect k writable) ≡ None) where
    -- the machine's next
    pub mode_carried : (d : Core D A G) → Runs d volume (record m { spaces = set_window k (Some (with_mode writable (window_of shown))) m.spaces; unforced = if writable then m.unforced else without_window_of s m.unforced })
        → Carried m (call.Protect k writable) d volume reply.Done
    mode_carried d runs = done_carried d volume m (call.Protect k writable) reply.Done none refl (subst (λ (n : Machine). Runs d volume n) (sym (mode_next writable)) runs)
