-- Halts of a call that looks for the leader of a file.
use Rattle.std.proofs.Common.{inl, inr, ℕ, List, [], sym, ◌∙◌, ap, subst, arith}
use Rattle.labelled_disk.specs.declared.layout.Layout.{Layout}
use Rattle.labelled_disk.specs.declared.label.Wanted.{Wanted}
use Rattle.labelled_disk.specs.declared.evidence.Evidence.TheVariants.{Mismatch, Malformed, Missing}
use Rattle.labelled_disk.specs.declared.evidence.Halt.{Halt}
use Rattle.labelled_disk.specs.declared.evidence.Halt.TheVariants as halt
use Rattle.labelled_disk.specs.Label.{leader_page, names}
use Rattle.labelled_disk.specs.State.{DiskState, HasLabel}
use Rattle.frame_pool.specs.Frames.{Slots}
use Rattle.file_map.specs.declared.run.Run.{Run}
use Rattle.swapper_kernel.specs.Goes.{Makes, Pages}
use Rattle.swapper_kernel.specs.Halts.{HasCause}
use Rattle.swapper_kernel.specs.HaltLaws.{label_before, rose_wider}
use Rattle.swapper_kernel.specs.Homes.{home_at}
use Rattle.label_calls.specs.Labels.{IsNotOf}
use Rattle.filer_kernel.specs.Causes.{MapHalts, IsRunHome}
use Rattle.file_manager.specs.Causes.{LeaderHalts}

module _ (layout : Layout) (kept : List Run) (id : ℕ) (old : DiskState) (before : Slots) where
  -- of the search
  pub search_halts : (new : DiskState) (e : Halt) → MapHalts layout old before new e → LeaderHalts layout kept id old before new e
  search_halts new halt.Disk is = is
  search_halts new (halt.Damaged (Mismatch sector wanted found)) is = record { there = is.there; other = is.other; reason = inl is.reason }
  search_halts new (halt.Damaged (Malformed structure page)) is = is
  search_halts new (halt.Damaged (Missing missing page)) is = absurd is

  -- and of the reading after it
  pub label_halts : {pages : Pages} (mid new : DiskState) (slots : Slots) (sector : ℕ) → Makes pages [] old before mid slots → IsRunHome layout old before kept (home_at sector (record { id = id; page = leader_page }))
      → (e : Halt) → HasCause (IsNotOf sector (record { id = id; page = leader_page }) mid) mid new e → LeaderHalts layout kept id old before new e
  label_halts mid new slots sector makes given halt.Disk is = rose_wider old.faults mid.faults new.faults new.faults makes.went.faults (omega arith) is
  label_halts mid new slots sector makes given (halt.Damaged (Mismatch place wanted found)) (at, page, has, other) = record {
    there = label_before makes.wrote place found (subst (λ (k : ℕ). HasLabel mid k found) (sym at) has);
    other = ap (names found) page ∙ other;
    reason = inr (ap (home_at place) page, subst (λ (w : Wanted). IsRunHome layout old before kept (home_at place w)) (sym page) (subst (λ (k : ℕ). IsRunHome layout old before kept (home_at k (record { id = id; page = leader_page }))) (sym at) given));
  }
  label_halts mid new slots sector makes given (halt.Damaged (Malformed structure page)) is = absurd is
  label_halts mid new slots sector makes given (halt.Damaged (Missing missing page)) is = absurd is
