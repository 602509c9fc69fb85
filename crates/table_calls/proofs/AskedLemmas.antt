-- What a call leaves of a core whose tables it asked.
use Rattle.std.proofs.Common.{◌≡◌, inl, ℕ, List, sym, subst}
use Rattle.labelled_disk.specs.declared.disk.Disk.{Ghosts}
use Rattle.swap_units.specs.declared.interval.Interval.{Interval}
use Rattle.fault_core.specs.declared.core_over.Core.{Core}
use Rattle.fault_core.specs.Core.{kept, state}
use Rattle.fault_core.specs.Kept.{IsKept}
use Rattle.fault_core.specs.Revealed.{Revealed}
use Rattle.filer_kernel.specs.View.{accepted}
use Rattle.fault_core.proofs.RevealedLemmas.{revealed_after}
use Rattle.fault_core.proofs.TurnLemmas.{reaches_tables, own_tables}
use Rattle.fault_core.proofs.YieldLemmas.{tables_yield}
use Rattle.table_calls.specs.Answers.{Asked, AskedTables}

pub asked : {D A : Type 0} {G : Ghosts D} (old new : Core D A G) → AskedTables (state old) (state new)
    → kept new ≡ kept old → new.intervals ≡ old.intervals → Asked old new
asked old new tables keeps count =
    let beside = tables.beside in
    let reaches = reaches_tables (state old) (state new) beside tables.same in
    record {
      reaches = reaches;
      came = own_tables (state old) (state new).slots beside.brings;
      stay = tables_yield (state old) (state new) beside;
      kept = keeps;
      intervals = count;
      same = λ m named ss knows. subst (λ (n : ℕ). Revealed (state new) (kept new) n m named ss) (sym count)
          (revealed_after knows (state new) (kept new) (accepted old.filer) reaches (λ x one. inl (subst (λ (l : List Interval). IsKept l x) keeps one)));
    }
