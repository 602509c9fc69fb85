-- What is seen of the space tables after calls on files, and what identifier the volume gives out next.
use Rattle.std.proofs.Common.{◌≡◌, ℕ, ◌≤◌, List, sym, subst, arith}
use Rattle.labelled_disk.specs.declared.evidence.Halt.{Halt}
use Rattle.labelled_disk.specs.declared.layout.Layout.{Layout}
use Rattle.labelled_disk.specs.State.{DiskState}
use Rattle.flat_machine.specs.declared.space.Space.{Space}
use Rattle.swap_units.specs.declared.interval.Interval.{Interval}
use Rattle.file_map.specs.FileMap.{Triples}
use Rattle.swapper_kernel.specs.Homes.{IsLayout}
use Rattle.volume_root.specs.declared.root.Root.{Root}
use Rattle.file_manager.specs.Creating.{counted, next_id}
use Rattle.file_manager.specs.Reasons.{KeepsTo, NamesTables, InitialState, ShowsReason, WasBelow, telling}
use Rattle.file_manager.specs.RevealedLaws.{keeps_telling, tables_of}
use Rattle.fault_core.specs.Lack.{MissesPage, Sees}
use Rattle.filer_kernel.specs.View.{View, kept_by}
use Rattle.space_calls.specs.FilesLaws.{on_wider}
use Rattle.space_calls.specs.Sees.{AreOn}
use Rattle.running_words.specs.BlamelessLaws.{form_kept, sees_kept}
use Rattle.pilot_engine.specs.Reasons.{IsBlameless}
use Rattle.pilot_engine.proofs.HomeLemmas.{FilesStay, below_later, file_pages}
use Rattle.pilot_engine.proofs.ReasonSteps.{ViewKeepsOn}

-- ---- Calls on files.

-- the space tables are revealed there, and in form
abbrev pub AreSeen : View → List Interval → ℕ → Type 0
AreSeen v kept count = (ss : List Space) × Sees v kept count ss

-- each page of a file that a window shows is below the end of what the file is or was besides
abbrev pub AreHome : InitialState → View → List Interval → ℕ → Type 0
AreHome o v kept count = (ss : List Space) × (Sees v kept count ss × AreOn (WasBelow o v.disk) ss)

-- what is seen keeps to the initial state with these bytes of the tables, the file map naming these triples
abbrev pub KeepsWith : InitialState → List ℕ → View → Triples → Type 0
KeepsWith o b v named = KeepsTo (telling o b) v.layout (kept_by v) v.disk v.slots named

module _ (o : InitialState) (v : View) (is : IsLayout v.layout) (k : ViewKeepsOn o v) where
  -- a call that keeps to the initial state, whatever bytes it reveals, leaves them so
  pub seen_still : (w : View) → ((b : List ℕ) → KeepsWith o b v k.0 → KeepsWith o b w k.0) → FilesStay o v.disk w.disk → {kept : List Interval} {count : ℕ} → AreHome o v kept count → AreHome o w kept count
  seen_still w call stay {kept = kept} {count = count} (ss, (sees, on)) = (ss, (sees_kept o v k.0 is k.1 w k.0 call kept count ss sees, on_wider (WasBelow o v.disk) (WasBelow o w.disk) (below_later o v.disk w.disk stay) ss on))

  -- the same spaces are seen
  pub same_still : (w : View) → ((b : List ℕ) → KeepsWith o b v k.0 → KeepsWith o b w k.0) → {kept : List Interval} {count : ℕ} (ss : List Space) → Sees v kept count ss → Sees w kept count ss
  same_still w call {kept = kept} {count = count} ss sees = sees_kept o v k.0 is k.1 w k.0 call kept count ss sees

  -- also where the file map may name others after the call
  pub same_from : (w : View) → ((b : List ℕ) → KeepsWith o b v k.0 → (later : Triples) × KeepsWith o b w later × (NamesTables k.0 → NamesTables later))
      → {kept : List Interval} {count : ℕ} (ss : List Space) → Sees v kept count ss → Sees w kept count ss
  same_from w call ss sees =
      let from = call sees.bytes (keeps_telling is v.runs sees.bytes sees.revealed k.1.0) in
      record { bytes = sees.bytes; revealed = tables_of o sees.bytes sees.revealed.count from.1; tables = sees.tables; cached = sees.cached }

  -- so they are revealed still
  pub seen_from : (w : View) → ((b : List ℕ) → KeepsWith o b v k.0 → (later : Triples) × KeepsWith o b w later × (NamesTables k.0 → NamesTables later))
      → FilesStay o v.disk w.disk → {kept : List Interval} {count : ℕ} → AreHome o v kept count → AreHome o w kept count
  seen_from w call stay (ss, (sees, on)) = (ss, (same_from w call ss sees, on_wider (WasBelow o v.disk) (WasBelow o w.disk) (below_later o v.disk w.disk stay) ss on))

  -- where a call stops with a reason, whatever bytes are revealed, no page of theirs breaks its form
  pub seen_blameless : (layout : Layout) (disk : DiskState) (e : Halt) → ((b : List ℕ) → KeepsWith o b v k.0 → ShowsReason (telling o b) layout disk e) → MissesPage (file_pages o disk) e
      → {kept : List Interval} {count : ℕ} → AreSeen v kept count → IsBlameless o disk e
  seen_blameless layout disk e call misses seen = (form_kept o v k.0 is k.1 layout disk e seen.1 call, misses)

-- ---- The next identifier.

-- it stays with the root
pub same_next : (old new : Root) → new ≡ old → next_id old ≤ next_id new
same_next old new same = subst (λ (r : Root). next_id old ≤ next_id r) (sym same) (omega arith)

-- it is given out
pub counted_next : (old new : Root) → new ≡ counted old → next_id old ≤ next_id new
counted_next old new is = subst (λ (r : Root). next_id old ≤ next_id r) (sym is) (omega arith)

-- a call after one that left the root gives out no lower one
pub then_next : (old mid new : Root) → mid ≡ old → next_id mid ≤ next_id new → next_id old ≤ next_id new
then_next old mid new same up = subst (λ (r : Root). next_id r ≤ next_id new) same up
