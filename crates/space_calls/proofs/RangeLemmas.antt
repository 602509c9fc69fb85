-- The range of pages that the tables gave for a space, and what a call on it leaves.
use Rattle.std.proofs.Common.{◌≡◌, inl, inr, ℕ, ◌+◌, ◌≤◌, Bool, true, false, List, Some, None, Result, Ok, Err, refl, sym, ◌∙◌, subst, arith}
use Rattle.std.specs.Prelude.{if◌then◌else◌, is_none}
use Rattle.std.proofs.lemmas.Option.{none-some, same_Some}
use Rattle.flat_machine.specs.declared.call.Call.TheVariants as call
use Rattle.flat_machine.specs.declared.call.Refusal.{Refusal}
use Rattle.flat_machine.specs.declared.space.Space.{Space}
use Rattle.flat_machine.specs.Machine.{Machine}
use Rattle.flat_machine.specs.Next.{next}
use Rattle.flat_machine.specs.Refusal.{refusal, no_space}
use Rattle.flat_machine.specs.Space.{space_at}
use Rattle.frame_pool.specs.Frames.{Slots}
use Rattle.labelled_disk.specs.declared.evidence.Halt.{Halt}
use Rattle.labelled_disk.specs.declared.evidence.Halt.TheVariants.{Disk}
use Rattle.labelled_disk.specs.Calls.{Rose}
use Rattle.space_tables.specs.Form.{BreaksLookUp, BreaksSlot}
use Rattle.space_tables.specs.Shows.{IsRunAt}
use Rattle.swapper_kernel.specs.HaltLaws.{brings_itself, rose_wider}
use Rattle.swapper_kernel.specs.Homes.{IsLayout}
use Rattle.fault_core.specs.Kill.{BreaksWithin}
use Rattle.filer_kernel.specs.Evidence.{MayBeMissing}
use Rattle.fault_core.specs.Lack.{MissesPage, range_units}
use Rattle.fault_core.specs.Reach.{BringsOwn, Reaches, ReachHalts, TouchHalts}
use Rattle.filer_kernel.specs.View.{View}
use Rattle.fault_core.proofs.ReachLemmas.{finds_before, halts_before, reaches_itself}
use Rattle.fault_core.proofs.LackLemmas.{misses_wider}
use Rattle.table_calls.specs.Answers.{IfGiven, TablesBreak, TablesSay, Reveals}
use Rattle.space_calls.specs.Ranges.{BreaksInSpace, BreaksRange, space_units}

-- the run is that of the space of this handle
abbrev pub IsSpaceRun : List Space → ℕ → (ℕ × ℕ) → Type 0
IsSpaceRun ss space run = (s : Space) × (space_at ss space ≡ Some s) × (run ≡ (s.first, s.pages))

-- what is so of an answer that was given
pub given_so : {A : Type 0} (P : A → Type 0) (answer : A) (r : Result A Refusal) → r ≡ Ok answer → IfGiven P r → P answer
given_so P answer r is evidence_seen = subst (IfGiven P) is evidence_seen

module _ (ss : List Space) (space : ℕ) where
  pub found_run : (run : ℕ × ℕ) (r : Result (ℕ × ℕ) Refusal) → r ≡ Ok run → Reveals (no_space ss space) (IsSpaceRun ss space) r → (no_space ss space ≡ None) × IsSpaceRun ss space run
  found_run run r is reveals = subst (Reveals (no_space ss space) (IsSpaceRun ss space)) is reveals

  pub found_word : (word : Refusal) (r : Result (ℕ × ℕ) Refusal) → r ≡ Err word → Reveals (no_space ss space) (IsSpaceRun ss space) r → no_space ss space ≡ Some word
  found_word word r is reveals = (subst (Reveals (no_space ss space) (IsSpaceRun ss space)) is reveals).0

  -- where there is the space, it was not refused
  pub never_refused : (s : Space) (word : Refusal) → space_at ss space ≡ Some s → no_space ss space ≡ Some word → ⊥
  never_refused s word there is = none-some word (sym free ∙ is)
    where
      free : no_space ss space ≡ None
      free = rw there refl

  -- what is so of the space's pages is so of the run
  pub of_run : (s : Space) (run : ℕ × ℕ) (P : ℕ → ℕ → Type 0) → IsSpaceRun ss space run → space_at ss space ≡ Some s → P s.first (s.first + s.pages) → P run.0 (run.0 + run.1)
  of_run s run P found there is =
      let same : found.0 ≡ s = same_Some found.0 s (sym found.1 ∙ there) in
      let pages : run ≡ (s.first, s.pages) = found.2 ∙ (λ i. ((same i).first, (same i).pages)) in
      subst (λ (q : ℕ × ℕ). P q.0 (q.0 + q.1)) (sym pages) is

  -- what is so of the run is so of the space's pages
  pub of_space : (s : Space) (run : ℕ × ℕ) (P : ℕ → ℕ → Type 0) → IsSpaceRun ss space run → space_at ss space ≡ Some s → P run.0 (run.0 + run.1) → P s.first (s.first + s.pages)
  of_space s run P found there is =
      let same : found.0 ≡ s = same_Some found.0 s (sym found.1 ∙ there) in
      let pages : run ≡ (s.first, s.pages) = found.2 ∙ (λ i. ((same i).first, (same i).pages)) in
      subst (λ (q : ℕ × ℕ). P q.0 (q.0 + q.1)) pages is

  -- what is missing of the swap units of the run is so of those of the space
  pub run_misses : (run : ℕ × ℕ) → IsSpaceRun ss space run → (e : Halt) → MissesPage (range_units ss run.0 (run.0 + run.1)) e → MissesPage (space_units ss space) e
  run_misses run (s, at, pages) e h =
      misses_wider (range_units ss run.0 (run.0 + run.1)) (space_units ss space) (λ id page one. (s, (at, subst (λ (q : ℕ × ℕ). range_units ss q.0 (q.0 + q.1) id page) pages one))) e h

-- advice changes nothing
pub deactivate_stays : (m : Machine) (space : ℕ) → m ≡ next m (call.Deactivate space)
deactivate_stays m space = either (is_none (refusal m (call.Deactivate space)))
  where
    either : (b : Bool) → m ≡ (if b then m else m)
    either true = refl
    either false = refl

-- the same frames
pub no_frame_came : (before after : Slots) → after ≡ before → BringsOwn before after
no_frame_came before after same = subst (λ (s : Slots). BringsOwn before s) (sym same) (brings_itself _ before)

-- ---- Why it failed.

module _ (v w : View) (is : IsLayout v.layout) (space : ℕ) where
  -- the tables could not be asked
  pub asked_halt : (count : ℕ) (e : Halt) → ReachHalts (TablesBreak v (λ b page. BreaksSlot b page space)) v w e → ReachHalts (BreaksRange v count space) v w e
  asked_halt count e halts = halts_before v v is (reaches_itself v) (TablesBreak v (λ b page. BreaksSlot b page space)) (BreaksRange v count space) (λ page breaks. inl breaks) w w (omega arith) e halts

  module _ (reaches : Reaches v w) (count now : ℕ) (same : now ≡ count) (z : View) where
    pub within_before : (first to page : ℕ) → BreaksWithin w now first to page → BreaksWithin v count first to page
    within_before first to page within = record {
      asked = within.asked;
      from = within.from;
      below = within.below;
      breaks = record {
        in_root = within.breaks.in_root;
        breaks = λ b revealed. subst (λ (j : ℕ). BreaksLookUp within.asked j b page) same (within.breaks.breaks b (reaches.revealed b revealed));
      };
    }

    -- a page of the range that the tables gave could not be looked up
    pub in_space : (run : ℕ × ℕ) → TablesSay v (λ b. IsRunAt b space) run → (page : ℕ) → BreaksWithin w now run.0 (run.0 + run.1) page → BreaksInSpace v count space page
    in_space run read page within = record {
      first = run.0;
      pages = run.1;
      read = read;
      within = within_before run.0 (run.0 + run.1) page within;
    }

    pub within_halt : (run : ℕ × ℕ) → TablesSay v (λ b. IsRunAt b space) run → (e : Halt) → ReachHalts (BreaksWithin w now run.0 (run.0 + run.1)) w z e → ReachHalts (BreaksRange v count space) v z e
    within_halt run read e halts =
        halts_before v w is reaches (BreaksWithin w now run.0 (run.0 + run.1)) (BreaksRange v count space) (λ page within. inr (in_space run read page within)) z z (omega arith) e halts

    -- or a page of a client's file is missing
    pub within_touch : (run : ℕ × ℕ) → TablesSay v (λ b. IsRunAt b space) run → (e : Halt) → TouchHalts (BreaksWithin w now run.0 (run.0 + run.1)) w z e → TouchHalts (BreaksRange v count space) v z e
    within_touch run read e halts =
        finds_before v w is reaches MayBeMissing (BreaksWithin w now run.0 (run.0 + run.1)) (BreaksRange v count space) (λ page within. inr (in_space run read page within)) z z (omega arith) e halts

-- a fault was counted
pub fault_halt : (breaks : ℕ → Type 0) (v w z : View) (e : Halt) → v.disk.faults ≤ w.disk.faults → e ≡ Disk → Rose w.disk.faults z.disk.faults → ReachHalts breaks v z e
fault_halt breaks v w z e later is rose = subst (ReachHalts breaks v z) (sym is) (rose_wider v.disk.faults w.disk.faults z.disk.faults z.disk.faults later (omega arith) rose)
