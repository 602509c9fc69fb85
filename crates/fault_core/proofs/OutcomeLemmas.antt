-- How calls of a core end that are made one after the other.
use Rattle.std.proofs.Common.{ℕ, ◌≤◌, ◌∙◌, List, Err, refl, inl}
use Rattle.labelled_disk.specs.declared.evidence.Halt.{Halt}
use Rattle.flat_machine.specs.declared.space.Space.{Space}
use Rattle.swapper_kernel.specs.Goes.{Pages}
use Rattle.swapper_kernel.specs.HaltLaws.{brings_itself, brings_then}
use Rattle.swapper_kernel.specs.Homes.{IsLayout}
use Rattle.session_words.specs.CellLaws.{IsTouched}
use Rattle.session_words.specs.FrameLaws.{IsKnown}
use Rattle.filer_kernel.specs.View.{TablesAre, TablesBeside, View}
use Rattle.fault_core.specs.CoreView.{CoreView, IsSeenAs}
use Rattle.fault_core.specs.Outcomes.{FailsBy, FailsToBring, FetchesInRoom, FetchesKnown, FindsAlone, StaysKnown, StaysSeen, StaysRevealed, ChangesAlone, ChangesKnown}
use Rattle.fault_core.specs.Moves.{client_page}
use Rattle.fault_core.specs.Reach.{ReachHalts, Reaches, TouchHalts}
use Rattle.fault_core.specs.ReachLaws.{reach_misses, touch_of_reach}
use Rattle.fault_core.proofs.BeforeLemmas.{touches_of}
use Rattle.fault_core.proofs.LackLemmas.{misses_wider, sees_after}
use Rattle.fault_core.proofs.LeaveLemmas.{revealed_stands}
use Rattle.fault_core.proofs.ReachLemmas.{reaches_itself, reaches_then}
use Rattle.fault_core.proofs.RevealedLemmas.{revealed_after}
use Rattle.fault_core.proofs.RoomLemmas.{room_itself, room_then, steps_room}
use Rattle.fault_core.proofs.ShowLemmas.{own_came}
use Rattle.fault_core.proofs.TurnLemmas.{own_tables, reaches_tables}
use Rattle.fault_core.proofs.YieldLemmas.{pages_yield, tables_yield, yield_itself, yield_then}

-- ---- What stays.

pub stays_itself : (v : CoreView) → StaysKnown v v
stays_itself v = record { sees = λ ss s. s; same = λ m named ss knows. knows; intervals = refl }

pub stays_then : {u v w : CoreView} → StaysKnown u v → StaysKnown v w → StaysKnown u w
stays_then h k = record {
  sees = λ ss s. k.sees ss (h.sees ss s);
  same = λ m named ss knows. k.same m named ss (h.same m named ss knows);
  intervals = k.intervals ∙ h.intervals;
}

-- pages were found, and the same intervals are kept
pub stays_found : (v : CoreView) (w : View) → IsLayout v.frames.layout → Reaches v.frames w → StaysKnown v (record { frames = w; kept = v.kept; intervals = v.intervals })
stays_found v w is reaches = record {
  sees = λ ss s. sees_after s w v.kept reaches (λ x one. inl one);
  same = λ m named ss knows. revealed_after knows w v.kept is reaches (λ x one. inl one);
  intervals = refl;
}

-- ---- Which pages came.

pub alone_itself : (v : View) → FindsAlone v v
alone_itself v = record { reaches = reaches_itself v; came = brings_itself (λ home. (1 ≤ home.id) × (home.id ≤ 3)) v.slots; room = room_itself v.slots; stay = yield_itself v.slots }

pub alone_then : (u v w : View) → IsLayout u.layout → FindsAlone u v → FindsAlone v w → FindsAlone u w
alone_then u v w is h k = record { reaches = reaches_then u v is h.reaches w k.reaches; came = brings_then h.came k.came; room = room_then h.room k.room; stay = yield_then h.stay k.stay }

-- pages were found, and then brought in
pub found_fetches : (u v w : CoreView) → IsLayout u.frames.layout → FindsAlone u.frames v.frames → StaysKnown u v → FetchesInRoom v w → FetchesInRoom u w
found_fetches u v w is h stays k = record {
  reaches = reaches_then u.frames v.frames is h.reaches w.frames k.reaches;
  came = λ m named ss knows. brings_then (own_came ss u.frames.slots v.frames.slots h.came) (k.came m named ss (stays.same m named ss knows));
  room = room_then h.room k.room;
}

pub fetches_then : (u v w : CoreView) → IsLayout u.frames.layout → FetchesKnown u v → StaysKnown u v → FetchesInRoom v w → FetchesKnown u w
fetches_then u v w is h stays k = record {
  reaches = reaches_then u.frames v.frames is h.reaches w.frames k.reaches;
  came = λ m named ss knows. brings_then (h.came m named ss knows) (k.came m named ss (stays.same m named ss knows));
}

-- of a core that has not changed
pub alone_known : (v : CoreView) → FetchesKnown v v
alone_known v = record { reaches = reaches_itself v.frames; came = λ m named ss knows. brings_itself (λ home. IsKnown ss home.id home.page) v.frames.slots }

-- where pages of the maps alone came, known pages did
pub own_fetches : (u v : CoreView) → FindsAlone u.frames v.frames → FetchesKnown u v
own_fetches u v h = record { reaches = h.reaches; came = λ m named ss knows. own_came ss u.frames.slots v.frames.slots h.came }

pub own_fetches_in_room : (u v : CoreView) → FindsAlone u.frames v.frames → FetchesInRoom u v
own_fetches_in_room u v h = record { reaches = h.reaches; came = λ m named ss knows. own_came ss u.frames.slots v.frames.slots h.came; room = h.room }

-- ---- How a call fails that comes after another.

module _ {A B : Type 0} {u v : CoreView} (stays : StaysKnown u v) {why more : Halt → Type 0} (wider : (e : Halt) → why e → more e) (e : Halt) where
  pub failed_after : FailsBy {T = A} why v (Err e) → FailsBy {T = B} more u (Err e)
  failed_after h = record { cause = wider e h.cause; right = λ ss s. h.right ss (stays.sees ss s); sound = λ m named ss knows. h.sound m named ss (stays.same m named ss knows) }

  pub brought_after : {pages others : List Space → Pages} → ((ss : List Space) → IsSeenAs u ss → (id page : ℕ) → pages ss id page → others ss id page)
      → FailsToBring {T = A} why pages v (Err e) → FailsToBring {T = B} more others u (Err e)
  brought_after {pages = pages} {others = others} among h = record {
    cause = wider e h.cause;
    missing = λ ss s. misses_wider (pages ss) (others ss) (among ss s) e (h.missing ss (stays.sees ss s));
    right = λ ss s. h.right ss (stays.sees ss s);
    sound = λ m named ss knows. h.sound m named ss (stays.same m named ss knows);
  }

-- under another type of answer
pub failed_on : {A B : Type 0} {why : Halt → Type 0} {v : CoreView} (e : Halt) → FailsBy {T = A} why v (Err e) → FailsBy {T = B} why v (Err e)
failed_on e h = record { cause = h.cause; right = h.right; sound = h.sound }

-- as one that was to bring pages in
pub failed_early : {A B : Type 0} (breaks : ℕ → Type 0) (u : CoreView) (w : View) (pages : List Space → Pages) (e : Halt) → FailsBy {T = A} (ReachHalts breaks u.frames w) u (Err e)
    → FailsToBring {T = B} (TouchHalts breaks u.frames w) pages u (Err e)
failed_early breaks u w pages e h = record {
  cause = touch_of_reach breaks u.frames w e h.cause;
  missing = λ ss s. reach_misses breaks u.frames w (pages ss) e h.cause;
  right = h.right;
  sound = h.sound;
}

pub brought_on : {A B : Type 0} {why : Halt → Type 0} {pages : List Space → Pages} {v : CoreView} (e : Halt) → FailsToBring {T = A} why pages v (Err e) → FailsToBring {T = B} why pages v (Err e)
brought_on e h = record { cause = h.cause; missing = h.missing; right = h.right; sound = h.sound }

-- ---- Of less.

pub stays_seen : {u v : CoreView} → StaysKnown u v → StaysSeen u v
stays_seen h = record { sees = h.sees; intervals = h.intervals }

pub stays_told : {u v : CoreView} → StaysKnown u v → StaysRevealed u v
stays_told h = record { sees = h.sees; known = λ m n named ss knows stands. revealed_stands (h.same m named ss knows) n stands; intervals = h.intervals }

pub alone_changes : {v w : View} → FindsAlone v w → ChangesAlone v w
alone_changes h = record { touches = touches_of client_page h.reaches; came = h.came; room = h.room; stay = pages_yield h.stay }

pub own_changes : (address count : ℕ) (u v : CoreView) → FindsAlone u.frames v.frames → ChangesKnown address count u v
own_changes address count u v h = record {
  touches = touches_of client_page h.reaches;
  shown = λ ss s. touches_of (IsTouched ss address count) h.reaches;
  came = λ m named ss knows. own_came ss u.frames.slots v.frames.slots h.came;
}

-- ---- The tables were asked.

pub asked_alone : (v w : View) → TablesBeside v w → ((b : List ℕ) → TablesAre v b → TablesAre w b) → FindsAlone v w
asked_alone v w beside same = record { reaches = reaches_tables v w beside same; came = own_tables v w.slots beside.brings; room = steps_room beside.steps; stay = tables_yield v w beside }
