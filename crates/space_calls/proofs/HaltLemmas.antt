-- Why a call stops the session that asks the tables and looks at a file, one after the other.
use Rattle.std.proofs.Common.{◌≡◌, inl, inr, ℕ, Bool, true, false, sym, subst, arith}
use Rattle.labelled_disk.specs.declared.layout.Layout.{Layout}
use Rattle.labelled_disk.specs.declared.evidence.Halt.{Halt}
use Rattle.space_tables.specs.Form.{Breaks, BreaksHierarchy, BreaksLookUp, BreaksSlot}
use Rattle.space_tables.specs.declared.shown.Shown.{Shown}
use Rattle.space_tables.specs.Shows.{IsShownAt}
use Rattle.swapper_kernel.specs.GoesLaws.{goes_wider}
use Rattle.swapper_kernel.specs.Differs.{Differs}
use Rattle.swapper_kernel.specs.DiffersLaws.{differs_itself}
use Rattle.swapper_kernel.specs.Goes.{Same}
use Rattle.swapper_kernel.specs.HaltLaws.{brings_wider}
use Rattle.swapper_kernel.specs.Homes.{IsLayout}
use Rattle.swapper_kernel.specs.Stands.{Stands}
use Rattle.filer_kernel.specs.Cached.{runs_of}
use Rattle.filer_kernel.specs.Tables.{in_tables, table_pages}
use Rattle.filer_kernel.specs.TableOnce.{map_over, tables_stay}
use Rattle.filer_kernel.specs.Triples.{AreOf, IsOneOf}
use Rattle.file_manager.specs.Looking.{Looks}
use Rattle.fault_core.specs.Reach.{IsReached, Reaches, ReachHalts}
use Rattle.fault_core.specs.Revealed.{BreaksTables}
use Rattle.filer_kernel.specs.View.{View, kept_by}
use Rattle.fault_core.proofs.ReachLemmas.{halts_before, reaches_itself}
use Rattle.table_calls.specs.Answers.{TablesBreak, TablesSay}
use Rattle.space_calls.specs.Ranges.{BreaksWindow}
use Rattle.space_calls.specs.Halts.{BreaksSight, ChangeHalts, MapFileHalts, NamedHalts, PathHalts, ProtectHalts, SightHalts, SlotHalts, WritableHalts}

-- ---- What a look leaves.

pub look_reaches : (v w : View) → Looks v.layout v.disk v.slots (kept_by v) w.disk w.slots (runs_of v.layout.sectors w.runs) → w.layout ≡ v.layout → Reaches v w
look_reaches v w looks layout = record {
  goes = goes_wider Same (Differs (in_tables v.layout)) table_pages (λ m n same. subst (Differs (in_tables v.layout) m) (sym same) (differs_itself (in_tables v.layout) m)) (λ id page no. absurd no) looks.goes;
  brings = brings_wider (IsReached v) (λ home map. inl map) looks.brings;
  layout = layout;
  given = λ r one. looks.given r (subst (λ (l : Layout). IsOneOf r (runs_of l.sectors w.runs)) layout one);
  runs_are = λ m named stands map are. subst (λ (l : Layout). AreOf named (runs_of l.sectors w.runs)) (sym layout) (looks.runs_are m named stands map are);
  revealed = λ b reveals.
      tables_stay layout looks.goes.makes.went.sectors (λ m named stands map. let now = looks.goes.memory m stands in subst (Stands w.disk w.slots) now.2 now.1) (λ m named stands map are. looks.runs_are m named stands map are) b reveals (map_over v.layout reveals.triples looks.brings);
}

-- ---- The tables, asked after pages were brought in.

module _ (v w : View) (is : IsLayout v.layout) (reaches : Reaches v w) (count now : ℕ) (same : now ≡ count) (z : View) where
  look_up_before : (asked page : ℕ) → BreaksTables w now asked page → BreaksTables v count asked page
  look_up_before asked page breaks = record {
    in_root = breaks.in_root;
    breaks = λ b revealed. subst (λ (j : ℕ). BreaksLookUp asked j b page) same (breaks.breaks b (reaches.revealed b revealed));
  }

  -- page 0 could not be looked up
  pub first_sight : (e : Halt) → ReachHalts (BreaksTables w now 0) w z e → SightHalts count v z e
  first_sight e halts = halts_before v w is reaches (BreaksTables w now 0) (BreaksSight v count) (λ page breaks. inl (look_up_before 0 page breaks)) z z (omega arith) e halts

  -- the search of a window failed
  pub search_sight : (e : Halt) → PathHalts w z e → SightHalts count v z e
  search_sight e halts = halts_before v w is reaches (TablesBreak w BreaksHierarchy) (BreaksSight v count) (λ page breaks. inr (λ b revealed. breaks b (reaches.revealed b revealed))) z z (omega arith) e halts

  -- either
  pub later_sight : (e : Halt) → SightHalts now w z e → SightHalts count v z e
  later_sight e halts = halts_before v w is reaches (BreaksSight w now) (BreaksSight v count) (λ page breaks. elim breaks [
    | inl first ↦ inl (look_up_before 0 page first)
    | inr any ↦ inr (λ b revealed. any b (reaches.revealed b revealed))
  ]) z z (omega arith) e halts

-- the tables could not be asked before they changed
pub path_change : (v : View) (is : IsLayout v.layout) (count : ℕ) (w : View) (e : Halt) → PathHalts v w e → ChangeHalts count v w e
path_change v is count w e halts = halts_before v v is (reaches_itself v) (TablesBreak v BreaksHierarchy) (TablesBreak v (Breaks count)) (λ page breaks b revealed. inl (breaks b revealed)) w w (omega arith) e halts

-- where there are as many intervals
pub counted_change : (v w : View) (count now : ℕ) → now ≡ count → (e : Halt) → ChangeHalts now v w e → ChangeHalts count v w e
counted_change v w count now same e halts = subst (λ (j : ℕ). ChangeHalts j v w e) same halts

-- ---- A space shows a file.

module _ (v u w : View) (space id count : ℕ) (reaches : Reaches v u) where
  -- the file could not be looked up
  pub named_map : (now : ℕ) → now ≡ count → (e : Halt) → NamedHalts id now u w e → MapFileHalts space id count v w e
  named_map now same e halts = elim (subst (λ (j : ℕ). NamedHalts id j u w e) same halts) [
    | inl sight ↦ inr (u, reaches, inl sight)
    | inr (x, found, look) ↦ inr (u, reaches, inr (x, found, inl look))
  ]

-- the tables could not be changed after that
pub given_map : (v x w : View) (space id count : ℕ) → Reaches v x → (now : ℕ) → now ≡ count → (e : Halt) → ChangeHalts now x w e → MapFileHalts space id count v w e
given_map v x w space id count looked now same e halts = inr (v, reaches_itself v, inr (v, reaches_itself v, inr (x, looked, counted_change x w count now same e halts)))

-- ---- A window gets another mode.

pub slot_protect : (v : View) (is : IsLayout v.layout) (space : ℕ) (writable : Bool) (count : ℕ) (w : View) (e : Halt) → SlotHalts space v w e → ProtectHalts space writable count v w e
slot_protect v is space true count w e halts = inl halts
slot_protect v is space false count w e halts =
    halts_before v v is (reaches_itself v) (TablesBreak v (λ b page. BreaksSlot b page space)) (BreaksWindow v count space) (λ page breaks. inl (inl breaks)) w w (omega arith) e halts

pub writable_protect : (v u w : View) (space count now : ℕ) (shown : Shown) → TablesSay v (λ b. IsShownAt b space) shown → Reaches v u → now ≡ count → (e : Halt) → WritableHalts shown.id now u w e → ProtectHalts space true count v w e
writable_protect v u w space count now shown read reaches same e halts = inr (shown, read, (u, reaches, subst (λ (j : ℕ). WritableHalts shown.id j u w e) same halts))
