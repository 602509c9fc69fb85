-- What a halt shows of the disk as a call left it.
use Rattle.std.proofs.Common.{◌≡◌, ◌⊎◌, inl, inr, ℕ, ◌+◌, ◌<◌, ◌≤◌, sym, ◌∙◌, ap, subst, arith}
use Rattle.labelled_disk.specs.declared.evidence.Evidence.{Evidence}
use Rattle.labelled_disk.specs.declared.evidence.Evidence.TheVariants.{Mismatch, Malformed, Missing}
use Rattle.labelled_disk.specs.declared.evidence.Halt.{Halt}
use Rattle.labelled_disk.specs.declared.evidence.Halt.TheVariants.{Disk, Damaged}
use Rattle.labelled_disk.specs.declared.label.Wanted.{Wanted}
use Rattle.labelled_disk.specs.declared.layout.Layout.{Layout}
use Rattle.labelled_disk.specs.Label.{names}
use Rattle.labelled_disk.specs.State.{DiskState, HasLabel}
use Rattle.file_map.specs.declared.run.Run.{Run}
use Rattle.file_map.specs.Run.{IsRun}
use Rattle.swapper_kernel.specs.declared.manager.Manager.{Manager}
use Rattle.swapper_kernel.specs.declared.manager.Manager.TheVariants.{AllocationMap, FileMap}
use Rattle.swapper_kernel.specs.Halts.{HasCause}
use Rattle.swapper_kernel.specs.Homes.{IsLayout, home_at}
use Rattle.swapper_kernel.specs.Maps.{id_of}
use Rattle.swapper_kernel.proofs.PlacedLemmas.{file_placed}
use Rattle.label_calls.specs.Labels.{IsTaken, IsNotOf, nobody}
use Rattle.label_calls.specs.Runs.{IsOneTaken, IsOneNotOf}
use Rattle.filer_kernel.specs.Evidence.{MayBeIn, IsEvident, ShowsEvidence}
use Rattle.filer_kernel.specs.EvidenceLaws.{may_be_in}

-- a fault of the disk shows nothing
pub fault_shows : (disk : DiskState) (halt : Halt) → halt ≡ Disk → ShowsEvidence disk halt
fault_shows disk halt is = subst (ShowsEvidence disk) (sym is) tt

may_move : (sectors : ℕ) {a b : ℕ} {u w : Wanted} → a ≡ b → u ≡ w → MayBeIn sectors b w → MayBeIn sectors a u
may_move sectors {a = a} {w = w} place page may = subst (λ (v : Wanted). MayBeIn sectors a v) (sym page) (subst (λ (n : ℕ). MayBeIn sectors n w) (sym place) may)

module _ (disk : DiskState) where
  taken_so : (k : ℕ) (e : Evidence) → MayBeIn disk.sectors k nobody → IsTaken k disk e → IsEvident disk e
  taken_so k (Mismatch sector wanted found) may is = (subst (λ (n : ℕ). HasLabel disk n found) (sym is.0) is.2, inl (is.1, is.3), may_move disk.sectors is.0 is.1 may)
  taken_so k (Malformed structure page) may is = absurd is
  taken_so k (Missing id page) may is = absurd is

  not_of_so : (k : ℕ) (w : Wanted) (e : Evidence) → MayBeIn disk.sectors k w → IsNotOf k w disk e → IsEvident disk e
  not_of_so k w (Mismatch sector wanted found) may is = (subst (λ (n : ℕ). HasLabel disk n found) (sym is.0) is.2, inr (ap (names found) is.1 ∙ is.3), may_move disk.sectors is.0 is.1 may)
  not_of_so k w (Malformed structure page) may is = absurd is
  not_of_so k w (Missing id page) may is = absurd is

  -- a label that isn't that of a page
  pub so_of_other : (k : ℕ) (w : Wanted) → MayBeIn disk.sectors k w → (old new : DiskState) (halt : Halt) → HasCause (IsNotOf k w disk) old new halt → ShowsEvidence disk halt
  so_of_other k w may old new Disk is = tt
  so_of_other k w may old new (Damaged e) is = not_of_so k w e may is

-- On a disk that has as many sectors as the layout.
module _ (layout : Layout) (disk : DiskState) (accepted : IsLayout layout) (size : disk.sectors ≡ layout.sectors) where
  -- a page of a file, or of the space tables, may be in each data sector
  pub file_may : (sector : ℕ) (wanted : Wanted) → (wanted.id ≡ 3) ⊎ (16 ≤ wanted.id) → layout.first ≤ sector → sector < layout.sectors → MayBeIn disk.sectors sector wanted
  file_may sector wanted of_file from below = may_be_in layout disk.sectors sector wanted accepted size (file_placed layout (home_at sector wanted) (record { id = of_file; from = from; below = below }))

  -- and each may be free
  free_may : (sector : ℕ) → layout.first ≤ sector → sector < layout.sectors → MayBeIn disk.sectors sector nobody
  free_may sector from below = may_be_in layout disk.sectors sector nobody accepted size (record { of_map = λ which same. absurd (apart which same); of_file = λ other. (from, below) })
    where
      apart : (which : Manager) → 0 ≡ id_of which → ⊥
      apart AllocationMap same = omega (arith, same)
      apart FileMap same = omega (arith, same)

  -- one of the labels of data sectors in a row, which isn't free
  pub so_of_taken : (sector pages : ℕ) → layout.first ≤ sector → sector + pages ≤ layout.sectors → (old new : DiskState) (halt : Halt) → HasCause (IsOneTaken sector pages disk) old new halt → ShowsEvidence disk halt
  so_of_taken sector pages from to old new Disk is = tt
  so_of_taken sector pages from to old new (Damaged e) is = taken_so disk (sector + is.0) e (let below = is.1 in free_may (sector + is.0) (omega (arith, from)) (omega (arith, below, to))) is.2

  -- one of those of a run, which isn't that of its page
  pub so_of_run : (run : Run) → layout.first ≤ run.sector → IsRun layout.sectors run → (old new : DiskState) (halt : Halt)
      → HasCause (IsOneNotOf run.sector run.pages (λ k. record { id = run.id; page = run.first + k }) disk) old new halt → ShowsEvidence disk halt
  so_of_run run from form old new Disk is = tt
  so_of_run run from form old new (Damaged e) is =
      let below = is.1 in
      let to = form.inside in
      not_of_so disk (run.sector + is.0) (record { id = run.id; page = run.first + is.0 }) e
      (file_may (run.sector + is.0) (record { id = run.id; page = run.first + is.0 }) form.of_file (omega (arith, from)) (omega (arith, below, to))) is.2
