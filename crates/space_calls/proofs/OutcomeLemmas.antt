-- How calls on spaces end: what calls in a row wrote, and how the last of them fails.
use Rattle.std.specs.Prelude.{[], IfErr, IfOk, MatchResult, OnOk}
use Rattle.std.proofs.Common.{◌≡◌, ℕ, List, Result, Ok, Err, ap, refl, arith}
use Rattle.std.proofs.lemmas.Result.{IfErr-at_err, IfErr-weaker}
use Rattle.labelled_disk.specs.declared.disk.Disk.{Ghosts}
use Rattle.labelled_disk.specs.declared.evidence.Halt.{Halt}
use Rattle.labelled_disk.specs.declared.evidence.Halt.TheVariants as halt
use Rattle.labelled_disk.specs.Calls.{Rose}
use Rattle.flat_machine.specs.declared.space.Space.{Space}
use Rattle.session_words.specs.Volume.{volume_page}
use Rattle.swapper_kernel.specs.Goes.{Pages}
use Rattle.swapper_kernel.specs.GoesLaws.{makes_then}
use Rattle.swapper_kernel.specs.HaltLaws.{brings_then, rose_wider}
use Rattle.swapper_kernel.specs.Homes.{IsLayout}
use Rattle.filer_kernel.specs.Evidence.{ShowsEvidence}
use Rattle.filer_kernel.specs.EvidenceLaws.{fits}
use Rattle.filer_kernel.specs.Fails.{Fails}
use Rattle.filer_kernel.specs.FailsLaws.{cause_in, counted_in, evidence_seen_in}
use Rattle.filer_kernel.specs.View.{FitsLayout, MakesOnly, View, swapper_of}
use Rattle.fault_core.specs.declared.core_over.Core.{Core}
use Rattle.fault_core.specs.Core.{core_view, state}
use Rattle.fault_core.specs.CoreView.{IsSeenAs}
use Rattle.fault_core.specs.NeverBlames.{NeverBlamesTables}
use Rattle.fault_core.specs.Outcomes.{FailsBy, FailsToBring}
use Rattle.fault_core.specs.Reach.{BringsOwn, Reaches, ReachHalts, TouchHalts}
use Rattle.fault_core.proofs.EvidenceLemmas.{shows_evidence, touch_so}
use Rattle.table_calls.specs.Answers.{Retabled}
use Rattle.fault_core.specs.Moves.{client_page}
use Rattle.fault_core.specs.Touch.{Touches}
use Rattle.fault_core.specs.Lack.{MissesPage}
use Rattle.running_words.specs.Stages.{client_or_own}
use Rattle.running_words.specs.MovingLaws.{moves_of_reaches, moves_of_touches, moves_then}
use Rattle.space_calls.specs.Calls.{Looks}
use Rattle.space_calls.specs.FilesLaws.{shown_here}
use Rattle.space_calls.specs.Outcomes.{HaltsBy, HaltsToBring, MakesOwn, MovesOver, MovesOwn, WaitsFor}
use Rattle.space_calls.specs.ReasonLaws.{moves_of_reshapes}
use Rattle.space_calls.specs.Sees.{SeesOn, StillOn}
use Rattle.space_calls.specs.Unmapping.{Reshapes}
use Rattle.space_calls.proofs.CameLemmas.{store_makes, wrote_so}
use Rattle.space_calls.proofs.LookLemmas.{looks_itself}
use Rattle.space_calls.proofs.MovesLemmas.{moves_tables}
use Rattle.space_calls.proofs.RangeLemmas.{no_frame_came}
use Rattle.space_calls.proofs.SeesLemmas.{fault_never_blames}
use Rattle.space_calls.proofs.RunLemmas.{nothing_labelled, reached_makes, retabled_makes}

-- ---- What was given, or why not.

pub given_or_not : {X E : Type 0} (P : X → Type 0) (Q : E → Type 0) (r : Result X E) → IfOk r P → IfErr r Q → MatchResult r P Q
given_or_not P Q (Ok x) given why = given
given_or_not P Q (Err e) given why = why

pub done_or_not : {X E : Type 0} (P : Type 0) (Q : E → Type 0) (r : Result X E) → OnOk r P → IfErr r Q → MatchResult r (λ x. P) Q
done_or_not P Q (Ok x) done why = done
done_or_not P Q (Err e) done why = why

-- ---- What was written.

-- pages were found
pub own_reached : {v w : View} → Reaches v w → BringsOwn v.slots w.slots → MovesOwn v w
own_reached {v} {w} reaches came = record { wrote = nothing_labelled (reached_makes reaches); moves = moves_of_reaches v w reaches; came = came }

-- pages of clients too
pub over_reached : {v w : View} → Reaches v w → MovesOver volume_page v w
over_reached {v} {w} reaches = record { wrote = nothing_labelled (reached_makes reaches); moves = moves_of_reaches v w reaches }

-- and bytes of them were stored
pub over_stored : {v w : View} → Touches client_page v w → MovesOver client_or_own v w
over_stored {v} {w} touches = record { wrote = wrote_so (store_makes touches); moves = moves_of_touches v w client_page touches }

-- no label was written
pub own_made : {v w : View} → MakesOwn v w → MovesOwn v w
own_made h = record { wrote = nothing_labelled h.makes; moves = h.moves; came = h.came }

pub made_reached : {v w : View} → Reaches v w → BringsOwn v.slots w.slots → MakesOwn v w
made_reached {v} {w} reaches came = record { makes = reached_makes reaches; moves = moves_of_reaches v w reaches; came = came }

pub made_reshaped : {v w : View} → MakesOnly volume_page [] v w → Reshapes v w → MakesOwn v w
made_reshaped {v} {w} makes reshapes = record { makes = makes; moves = moves_of_reshapes v w reshapes; came = reshapes.came }

-- one after the other
pub made_then : {u v w : View} → IsLayout u.layout → MakesOwn u v → MakesOwn v w → MakesOwn u w
made_then {u} {v} {w} is h k = record { makes = makes_then h.makes k.makes; moves = moves_then u v w is h.moves k.moves; came = brings_then h.came k.came }

-- ---- What failed.

abbrev pub err_of : {S : Type 0} → Halt → Result S Halt
err_of e = Err e

-- a fault that was counted is a fault, whatever the call would have given
err_again : {S T : Type 0} (e : Halt) → ◌≡◌ {A = Result T Halt} (Err e) (Err halt.Disk) → ◌≡◌ {A = Result S Halt} (Err e) (Err halt.Disk)
err_again {S = S} e is = IfErr-at_err (λ (x : Halt). ◌≡◌ {A = Result S Halt} (Err e) (Err x)) is refl

module _ {D A : Type 0} {G : Ghosts D} where
  -- a call that only looks
  pub own_looked : {old new : Core D A G} → Looks old new → MovesOwn (state old) (state new)
  own_looked looks = own_reached looks.reaches looks.came

  pub made_looked : {old new : Core D A G} → Looks old new → MakesOwn (state old) (state new)
  made_looked looks = made_reached looks.reaches looks.came

  -- the tables were changed
  pub made_tables : {old new : Core D A G} → Retabled old new → MakesOwn (state old) (state new)
  made_tables {old} {new} retabled = record { makes = retabled_makes old new retabled; moves = moves_tables (state old) (state new) retabled.beside; came = retabled.came }

  pub own_tables : {old new : Core D A G} → Retabled old new → MovesOwn (state old) (state new)
  own_tables retabled = own_made (made_tables retabled)

  -- the disk was waited for
  pub made_waited : {old new : Core D A G} → WaitsFor old new → MakesOwn (state old) (state new)
  made_waited {old} {new} waits = made_reached waits.reaches (no_frame_came (state old).slots (state new).slots waits.frames)

  -- what windows showed is what they show
  pub on_looked : {old new : Core D A G} → Looks old new → StillOn old new
  on_looked looks ss s = (ss, (looks.still ss s, shown_here ss))

  -- ---- How it fails.

  -- it is said of the halt alone
  pub halts_of_fails : {T : Type 0} {why : Halt → Type 0} {old new : Core D A G} (r : Result T Halt) → IfErr r (Fails why (state old) (state new)) → (SeesOn old → IfErr r NeverBlamesTables) → HaltsBy why old new r
  halts_of_fails {why = why} {old = old} {new = new} r fails right = record {
    cause = cause_in why (state old) (state new) r fails;
    counted = counted_in why (state old) (state new) r fails;
    evidence_seen = evidence_seen_in why (state old) (state new) r fails;
    right = right;
  }

  -- the same halt, which has another cause too, and calls that only looked went before
  pub halts_after : {S T : Type 0} {how why : Halt → Type 0} {start mid new : Core D A G} {e : Halt} → Looks start mid → HaltsBy {T = S} how mid new (Err e) → why e → HaltsBy {T = T} why start new (Err e)
  halts_after {start = start} {mid = mid} {new = new} {e = e} looks h cause = record {
    cause = cause;
    counted = λ is. rose_wider (state start).disk.faults (state mid).disk.faults (state new).disk.faults (state new).disk.faults looks.makes.went.faults (omega arith) (h.counted (err_again e is));
    evidence_seen = h.evidence_seen;
    right = λ s. h.right (s.0, looks.still s.0 s.1);
  }

  pub halts_wider : {S T : Type 0} {how why : Halt → Type 0} {old new : Core D A G} {e : Halt} → HaltsBy {T = S} how old new (Err e) → why e → HaltsBy {T = T} why old new (Err e)
  halts_wider {old = old} h cause = halts_after (looks_itself old) h cause

  -- the disk was waited for, after calls that wrote no label
  pub halts_written : {S T : Type 0} {why : Halt → Type 0} {pages : Pages} {start mid new : Core D A G} {e : Halt} → MakesOnly pages [] (state start) (state mid) → HaltsBy {T = S} (λ x. x ≡ halt.Disk) mid new (Err e)
      → (Rose (state mid).disk.faults (state new).disk.faults → why e) → HaltsBy {T = T} why start new (Err e)
  halts_written {S = S} {start = start} {mid = mid} {new = new} {e = e} makes h cause =
      let rose = h.counted (ap (err_of {S = S}) h.cause) in
      record {
        cause = cause rose;
        counted = λ is. rose_wider (state start).disk.faults (state mid).disk.faults (state new).disk.faults (state new).disk.faults makes.went.faults (omega arith) rose;
        evidence_seen = h.evidence_seen;
        right = λ s. fault_never_blames e h.cause;
      }

  -- so it is of a result that is handed on
  pub if_halts_after : {T : Type 0} {how why : Halt → Type 0} {start mid new : Core D A G} → Looks start mid → (r : Result T Halt) → HaltsBy how mid new r → ((e : Halt) → how e → why e) → HaltsBy why start new r
  if_halts_after {how = how} {why = why} {start = start} {mid = mid} {new = new} looks r h wider = record {
    cause = IfErr-weaker r how why wider h.cause;
    counted = λ is. rose_wider (state start).disk.faults (state mid).disk.faults (state new).disk.faults (state new).disk.faults looks.makes.went.faults (omega arith) (h.counted is);
    evidence_seen = h.evidence_seen;
    right = λ s. h.right (s.0, looks.still s.0 s.1);
  }

  -- only these pages may be the ones without a sector
  pub bringing : {S T : Type 0} {how why : Halt → Type 0} {pages : List Space → Pages} {old new : Core D A G} {e : Halt} → HaltsBy {T = S} how old new (Err e) → why e
      → ((ss : List Space) → IsSeenAs (core_view old) ss → MissesPage (pages ss) e) → HaltsToBring {T = T} why pages old new (Err e)
  bringing {e = e} h cause missing = record { cause = cause; missing = missing; counted = λ is. h.counted (err_again e is); evidence_seen = h.evidence_seen; right = h.right }

  module _ {pages : Pages} {breaks : ℕ → Type 0} {old new : Core D A G} (size : FitsLayout (state old)) (makes : MakesOnly pages [] (state old) (state new)) where
    -- a call that looked for pages of clients failed
    pub halts_touched : {T : Type 0} (r : Result T Halt) → IfErr r (TouchHalts breaks (state old) (state new)) → ((ss : List Space) → IsSeenAs (core_view old) ss → IfErr r NeverBlamesTables)
        → HaltsBy (TouchHalts breaks (state old) (state new)) old new r
    halts_touched r cause right = record {
      cause = cause;
      counted = λ is. IfErr-at_err (TouchHalts breaks (state old) (state new)) is cause;
      evidence_seen = IfErr-weaker r (TouchHalts breaks (state old) (state new)) (ShowsEvidence (state new).disk) (λ e halts. touch_so breaks (state old) (state new) (fits (swapper_of old.filer) size) makes e halts) cause;
      right = λ s. right s.0 s.1;
    }

    -- and one that looked for pages of the space tables alone
    pub halts_reached : {T : Type 0} (r : Result T Halt) → IfErr r (ReachHalts breaks (state old) (state new)) → ((ss : List Space) → IsSeenAs (core_view old) ss → IfErr r NeverBlamesTables)
        → HaltsBy (ReachHalts breaks (state old) (state new)) old new r
    halts_reached r cause right = record {
      cause = cause;
      counted = λ is. IfErr-at_err (ReachHalts breaks (state old) (state new)) is cause;
      evidence_seen = IfErr-weaker r (ReachHalts breaks (state old) (state new)) (ShowsEvidence (state new).disk) (λ e halts. shows_evidence breaks (state old) (state new) (fits (swapper_of old.filer) size) makes e halts) cause;
      right = λ s. right s.0 s.1;
    }

    pub halts_core : {T : Type 0} (r : Result T Halt) → FailsBy (ReachHalts breaks (state old) (state new)) (core_view old) r → HaltsBy (ReachHalts breaks (state old) (state new)) old new r
    halts_core r h = halts_reached r h.cause h.right

    -- the halt of one
    pub halts_at : (e : Halt) → ReachHalts breaks (state old) (state new) e → ((ss : List Space) → IsSeenAs (core_view old) ss → NeverBlamesTables e)
        → HaltsBy {T = Unit {0}} (ReachHalts breaks (state old) (state new)) old new (Err e)
    halts_at e cause right = halts_reached (Err e) cause right

    -- and of one that looked for pages of clients
    pub halts_bringing : {S T : Type 0} {units : List Space → Pages} (e : Halt) → FailsToBring {T = S} (TouchHalts breaks (state old) (state new)) units (core_view old) (Err e)
        → HaltsToBring {T = T} (TouchHalts breaks (state old) (state new)) units old new (Err e)
    halts_bringing e h = bringing (halts_touched (err_of {S = Unit {0}} e) h.cause h.right) h.cause h.missing
