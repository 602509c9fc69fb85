-- Why a window could not be taken away, or made read-only.
use Rattle.std.proofs.Common.{◌≡◌, inl, inr, ℕ, ◌+◌, subst, arith}
use Rattle.labelled_disk.specs.declared.evidence.Halt.{Halt}
use Rattle.space_tables.specs.Form.{Breaks, BreaksSlot}
use Rattle.space_tables.specs.Shows.{IsRunAt}
use Rattle.swapper_kernel.specs.Homes.{IsLayout}
use Rattle.fault_core.specs.Kill.{BreaksWithin}
use Rattle.fault_core.specs.Reach.{Reaches, ReachHalts}
use Rattle.filer_kernel.specs.View.{View}
use Rattle.fault_core.proofs.ReachLemmas.{halts_before, reaches_itself}
use Rattle.table_calls.specs.Answers.{TablesBreak, TablesSay}
use Rattle.space_calls.specs.Ranges.{BreaksPart, BreaksWindow}
use Rattle.space_calls.proofs.RangeLemmas.{in_space}

module _ (v w : View) (is : IsLayout v.layout) (space : ℕ) (reaches : Reaches v w) where
  -- the record of the space could not be read, after pages were brought in
  pub slot_halt : (z : View) (e : Halt) → ReachHalts (TablesBreak w (λ b page. BreaksSlot b page space)) w z e → ReachHalts (TablesBreak v (λ b page. BreaksSlot b page space)) v z e
  slot_halt z e halts =
      halts_before v w is reaches (TablesBreak w (λ b page. BreaksSlot b page space)) (TablesBreak v (λ b page. BreaksSlot b page space)) (λ page breaks b revealed. breaks b (reaches.revealed b revealed)) z z (omega arith) e halts

  module _ (count now : ℕ) (same : now ≡ count) (z : View) where
    -- the space could not be looked up
    pub slot_window : (e : Halt) → ReachHalts (TablesBreak w (λ b page. BreaksSlot b page space)) w z e → ReachHalts (BreaksWindow v count space) v z e
    slot_window e halts =
        halts_before v w is reaches (TablesBreak w (λ b page. BreaksSlot b page space)) (BreaksWindow v count space) (λ page breaks. inl (inl (λ b revealed. breaks b (reaches.revealed b revealed)))) z z (omega arith) e halts

    -- a page of its range could not be
    pub range_window : (run : ℕ × ℕ) → TablesSay v (λ b. IsRunAt b space) run → (e : Halt) → ReachHalts (BreaksWithin w now run.0 (run.0 + run.1)) w z e → ReachHalts (BreaksWindow v count space) v z e
    range_window run read e halts =
        halts_before v w is reaches (BreaksWithin w now run.0 (run.0 + run.1)) (BreaksWindow v count space) (λ page within. inl (inr (in_space v w is space reaches count now same z run read page within))) z z (omega arith) e halts

    change_before : (page : ℕ) → TablesBreak w (Breaks now) page → TablesBreak v (Breaks count) page
    change_before page breaks b revealed = subst (λ (j : ℕ). Breaks j b page) same (breaks b (reaches.revealed b revealed))

    -- the tables could not be changed
    pub change_halt : (e : Halt) → ReachHalts (TablesBreak w (Breaks now)) w z e → ReachHalts (BreaksWindow v count space) v z e
    change_halt e halts =
        halts_before v w is reaches (TablesBreak w (Breaks now)) (BreaksWindow v count space) (λ page breaks. inr (change_before page breaks)) z z (omega arith) e halts

    -- so it is where pages of a range were looked up before
    pub part_change : (first to : ℕ) (e : Halt) → ReachHalts (TablesBreak w (Breaks now)) w z e → ReachHalts (BreaksPart v count first to) v z e
    part_change first to e halts = halts_before v w is reaches (TablesBreak w (Breaks now)) (BreaksPart v count first to) (λ page breaks. inr (change_before page breaks)) z z (omega arith) e halts

    -- the pages of the space could not be looked up, or its record not be changed, after it was found
    pub window_halt : (run : ℕ × ℕ) → TablesSay v (λ b. IsRunAt b space) run → (e : Halt) → ReachHalts (BreaksPart w now run.0 (run.0 + run.1)) w z e → ReachHalts (BreaksWindow v count space) v z e
    window_halt run read e halts = halts_before v w is reaches (BreaksPart w now run.0 (run.0 + run.1)) (BreaksWindow v count space) (λ page breaks. elim breaks [
      | inl within ↦ inl (inr (in_space v w is space reaches count now same z run read page within))
      | inr any ↦ inr (change_before page any)
    ]) z z (omega arith) e halts

-- a page of a range could not be looked up
pub part_halt : (v w : View) (is : IsLayout v.layout) (count first to : ℕ) (e : Halt) → ReachHalts (BreaksWithin v count first to) v w e → ReachHalts (BreaksPart v count first to) v w e
part_halt v w is count first to e halts = halts_before v v is (reaches_itself v) (BreaksWithin v count first to) (BreaksPart v count first to) (λ page within. inl within) w w (omega arith) e halts
