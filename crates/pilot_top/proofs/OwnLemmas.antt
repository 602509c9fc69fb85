-- Writes of lines, one line after the other.
use Rattle.std.proofs.Common.{◌≡◌, ◌⊎◌, inl, inr, ℕ, zero, suc, ◌+◌, ◌<◌, ◌≤◌, List, [], ◌∷◌, ◌++◌, length, Option, Some, sym, ◌∙◌, ap, subst, arith}
use Rattle.std.specs.Prelude.{option_map, slice_get}
use Rattle.labelled_disk.specs.declared.disk.DiskWrite.{DiskWrite}
use Rattle.labelled_disk.specs.CrashState.{crash_state}
use Rattle.labelled_disk.specs.Permitted.{Permitted}
use Rattle.labelled_disk.specs.Sectors.{Sector}
use Rattle.labelled_disk.specs.State.{DiskState}
use Rattle.labelled_disk.specs.WriteRuns.{Appended, after_writes}
use Rattle.labelled_disk.proofs.WriteRunLemmas.{crash_state-earlier, crash_state-later}
use Rattle.flat_machine.specs.declared.call.Call.TheVariants.{Close}
use Rattle.flat_machine.specs.After.{TraceLine}
use Rattle.frame_pool.specs.Frames.{Slots}
use Rattle.volume_root.specs.declared.root.Root.{Root}
use Rattle.pilot_engine.specs.Closing.{WroteOn}
use Rattle.pilot_engine.specs.Writing.{Written}
use Rattle.pilot_top.specs.LineWrites.{AreOfLines, IsOfLine, LineMay, StartMay}
use Rattle.pilot_top.specs.Parts.{LineWrote}
use Rattle.pilot_top.proofs.LineParts.{get_first, same_list}
use Rattle.pilot_top.proofs.PermittedRuns.{get_append}

-- the lines after some of them
pub get_after : (lines more : List TraceLine) (j : ℕ) → slice_get (lines ++ more) (length lines + j) ≡ slice_get more j
get_after [] more j = ap (slice_get more) (let z : 0 + j ≡ j = omega arith in z)
get_after (line ∷ lines) more j =
    ap (slice_get (line ∷ (lines ++ more))) (let z : suc (length lines) + j ≡ suc (length lines + j) = omega arith in z) ∙ get_after lines more j

-- the line of a write is one of them, and stays so where there are more
is_there : (lines : List TraceLine) (j : ℕ) (d : List Sector) (w : DiskWrite) → IsOfLine (slice_get lines j) d w → j < length lines
is_there [] j d w is = absurd is
is_there (line ∷ lines) zero d w is = omega arith
is_there (line ∷ lines) (suc j) d w is = let below = is_there lines j d w is in omega (arith, below)

stays_there : (lines more : List TraceLine) (j : ℕ) (d : List Sector) (w : DiskWrite) → IsOfLine (slice_get lines j) d w → IsOfLine (slice_get (lines ++ more) j) d w
stays_there lines more j d w is = subst (λ (line : Option TraceLine). IsOfLine line d w) (sym (get_first lines more j (is_there lines j d w is))) is

-- Each write was made at one of these lines, and is one that this line may make.
abbrev pub AreAllOfLines : List TraceLine → List DiskWrite → (ℕ → ℕ) → DiskState → Type 0
AreAllOfLines lines writes place old = (d : List Sector) (made : List DiskWrite) (i : ℕ) (w : DiskWrite) → old.contents ≡ Some d → old.writes ≡ Some made → slice_get writes i ≡ Some w
    → IsOfLine (slice_get lines (place i)) (crash_state d writes i) w

pub all_below : (lines : List TraceLine) (k : ℕ) (writes : List DiskWrite) (place : ℕ → ℕ) (old : DiskState) → AreAllOfLines lines writes place old → AreOfLines lines k writes place old
all_below lines k writes place old all d made i w revealed told below at = inl (all d made i w revealed told at)

pub all_before : (lines more : List TraceLine) (writes : List DiskWrite) (place : ℕ → ℕ) (old : DiskState) → AreAllOfLines lines writes place old → AreAllOfLines (lines ++ more) writes place old
all_before lines more writes place old all d made i w revealed told at = stays_there lines more (place i) (crash_state d writes i) w (all d made i w revealed told at)

pub of_lines_before : (lines more : List TraceLine) (k : ℕ) (writes : List DiskWrite) (place : ℕ → ℕ) (old : DiskState) → AreOfLines lines k writes place old → AreOfLines (lines ++ more) k writes place old
of_lines_before lines more k writes place old of_lines d made i w revealed told below at = elim (of_lines d made i w revealed told below at) [
  | inl line ↦ inl (stays_there lines more (place i) (crash_state d writes i) w line)
  | inr start ↦ inr start
]

-- Writes of some lines, and then others.
module _ (lines more : List TraceLine) (one two : List DiskWrite) (place next all : ℕ → ℕ) {a b : DiskState} (appended : Appended one a b) (first_at : (i : ℕ) → i < length one → all i ≡ place i)
    (other_at : (i : ℕ) → all (length one + i) ≡ length lines + next i) where
  -- what the first ones say
  at_first : (d : List Sector) (i : ℕ) (w : DiskWrite) → i < length one → IsOfLine (slice_get lines (place i)) (crash_state d one i) w → IsOfLine (slice_get (lines ++ more) (all i)) (crash_state d (one ++ two) i) w
  at_first d i w below is =
      subst (λ (e : List Sector). IsOfLine (slice_get (lines ++ more) (all i)) e w) (sym (crash_state-earlier d one two i (omega (arith, below))))
      (subst (λ (j : ℕ). IsOfLine (slice_get (lines ++ more) j) (crash_state d one i) w) (sym (first_at i below)) (stays_there lines more (place i) (crash_state d one i) w is))

  -- and the others
  at_other : (d : List Sector) (i q : ℕ) (w : DiskWrite) → i ≡ length one + q → IsOfLine (slice_get more (next q)) (crash_state (after_writes one d) two q) w → IsOfLine (slice_get (lines ++ more) (all i)) (crash_state d (one ++ two) i) w
  at_other d i q w past is =
      subst (λ (e : List Sector). IsOfLine (slice_get (lines ++ more) (all i)) e w) (sym (ap (crash_state d (one ++ two)) past ∙ crash_state-later d one two q))
      (subst (λ (line : Option TraceLine). IsOfLine line (crash_state (after_writes one d) two q) w) (sym (ap (slice_get (lines ++ more)) (ap all past ∙ other_at q) ∙ get_after lines more (next q))) is)

  pub all_then : AreAllOfLines lines one place a → AreAllOfLines more two next b → AreAllOfLines (lines ++ more) (one ++ two) all a
  all_then early late d made i w revealed told at = elim (get_append one two i w at) [
    | inl (below, here) ↦ at_first d i w below (early d made i w revealed told here)
    | inr (q, past, there) ↦
        at_other d i q w past
        (late (after_writes one d) (made ++ one) q w (appended.contents ∙ ap (option_map (after_writes one)) revealed) (appended.revealed ∙ ap (option_map (λ (ws : List DiskWrite). ws ++ one)) told) there)
  ]

  -- where all lines were answered before the others
  pub below_then : (k : ℕ) → k ≤ length lines → AreAllOfLines lines one place a → AreOfLines (lines ++ more) k (one ++ two) all a
  below_then k few early d made i w revealed told below at = elim (get_append one two i w at) [
    | inl (less, here) ↦ inl (at_first d i w less (early d made i w revealed told here))
    | inr (q, past, there) ↦ let here = ap all past ∙ other_at q in absurd (omega (arith, here, below, few))
  ]

-- writes of a start, and then of lines
pub started_then : (lines : List TraceLine) (k : ℕ) (one two : List DiskWrite) (place next all : ℕ → ℕ) {a b : DiskState} → Appended one a b → ((i : ℕ) → i < length one → all i ≡ place i) → ((i : ℕ) → place i ≤ 0)
    → ((i : ℕ) → all (length one + i) ≡ next i) → ((d : List Sector) (made : List DiskWrite) (i : ℕ) (w : DiskWrite) → a.contents ≡ Some d → a.writes ≡ Some made → slice_get one i ≡ Some w → StartMay w)
    → AreOfLines lines k two next b → AreOfLines lines k (one ++ two) all a
started_then lines k one two place next all appended first_at at_start other_at started late d made i w revealed told below at = elim (get_append one two i w at) [
  | inl (less, here) ↦ inr (let same = first_at i less in let none = at_start i in omega (arith, same, none), started d made i w revealed told here)
  | inr (q, past, there) ↦
      let place_is : all i ≡ next q = ap all past ∙ other_at q in
      let is = late (after_writes one d) (made ++ one) q w (appended.contents ∙ ap (option_map (after_writes one)) revealed) (appended.revealed ∙ ap (option_map (λ (ws : List DiskWrite). ws ++ one)) told)
      (omega (arith, place_is, below)) there in
      subst (λ (e : List Sector). IsOfLine (slice_get lines (all i)) e w ⊎ ((all i ≡ 0) × StartMay w)) (sym (ap (crash_state d (one ++ two)) past ∙ crash_state-later d one two q))
      (subst (λ (j : ℕ). IsOfLine (slice_get lines j) (crash_state (after_writes one d) two q) w ⊎ ((j ≡ 0) × StartMay w)) (sym place_is) is)
]

-- One line.

-- what it wrote is such as it may make
pub line_made : (line : TraceLine) (writes : List DiskWrite) {a b : DiskState} → Appended writes a b → LineWrote line a b → (d : List Sector) (made : List DiskWrite) (i : ℕ) (w : DiskWrite) → a.contents ≡ Some d → a.writes ≡ Some made
    → slice_get writes i ≡ Some w → LineMay line (crash_state d writes i) w
line_made line writes appended wrote d made i w revealed told at =
    subst (λ (ws : List DiskWrite). (j : ℕ) (v : DiskWrite) → slice_get ws j ≡ Some v → LineMay line (crash_state d ws j) v) (same_list made wrote.writes writes told wrote.appended appended)
    (λ j v there. (wrote.each d made j v revealed told there).1) i w at

-- and a start, whose writes are all such
pub start_made : (writes : List DiskWrite) {a b : DiskState} → Appended writes a b → Written (λ d w. Permitted d w × StartMay w) a b → (d : List Sector) (made : List DiskWrite) (i : ℕ) (w : DiskWrite) → a.contents ≡ Some d → a.writes ≡ Some made
    → slice_get writes i ≡ Some w → StartMay w
start_made writes appended wrote d made i w revealed told at =
    subst (λ (ws : List DiskWrite). (j : ℕ) (v : DiskWrite) → slice_get ws j ≡ Some v → StartMay v) (same_list made wrote.writes writes told wrote.appended appended)
    (λ j v there. (wrote.each d made j v revealed told there).1) i w at

-- the line `close` makes the writes of the session's end
pub close_wrote : {root : Root} {before : Slots} {a b : DiskState} → WroteOn root before a b → LineWrote (Some Close) a b
close_wrote on = record { writes = on.wrote.writes; appended = on.wrote.appended; each = λ d earlier k w revealed told at. (on.wrote.permitted d k w revealed at, tt) }
