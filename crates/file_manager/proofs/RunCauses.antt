-- Why the freeing of a run stops the session, and what it keeps.
use Rattle.std.proofs.Common.{◌≡◌, ◌⊎◌, ℕ, ◌+◌, ◌-◌, ◌<◌, ◌≤◌, true, List, Some, refl, subst, arith}
use Rattle.std.specs.Prelude.{slice_get, ◌==◌, ◌&&◌, nat_le, nat_lt}
use Rattle.std.proofs.lemmas.Bool.{and_parts, leb-true, ltb-true}
use Rattle.std.proofs.lemmas.Bool.Decides.{nat_tests}
use Rattle.labelled_disk.specs.declared.evidence.Halt.{Halt}
use Rattle.labelled_disk.specs.declared.layout.Layout.{Layout}
use Rattle.labelled_disk.specs.Runs.{freeing}
use Rattle.labelled_disk.specs.Sectors.{Sector}
use Rattle.labelled_disk.specs.State.{DiskState}
use Rattle.frame_pool.specs.Frames.{Slots}
use Rattle.file_map.specs.declared.run.Run.{Run}
use Rattle.file_map.specs.Run.{IsRun, holds}
use Rattle.swapper_kernel.specs.declared.manager.Manager.TheVariants.{AllocationMap}
use Rattle.swapper_kernel.specs.Halts.{HasCause, Halts}
use Rattle.swapper_kernel.specs.Homes.{IsLayout, home_at}
use Rattle.swapper_kernel.specs.Maps.{IsMapHome}
use Rattle.swapper_kernel.specs.Window.{Beside}
use Rattle.label_calls.specs.Labels.{ones_of}
use Rattle.label_calls.specs.Runs.{HaveOnes, RelabelsRun, IsOneNotOf}
use Rattle.filer_kernel.specs.Causes.{IsGiven, IsRunHome}
use Rattle.filer_kernel.specs.PlaceLaws.{data_first}
use Rattle.file_manager.specs.Grounds.{IsUnframed, FreeHalts, KeepsMap}
use Rattle.file_manager.proofs.Keeping.{keeps_then, keeps_labels, keeps_marks, row_halts_after, map_halts_after}

-- ---- Where runs have pages.

-- a run that has a page has those from its first to its last
pub run_home : (layout : Layout) (a : DiskState) (s : Slots) (kept : List Run) (r : Run) → IsGiven layout a s kept r → IsRun layout.sectors r → (id p q : ℕ) → holds r id p ≡ true → r.first ≤ q → q < r.first + r.pages
    → IsRunHome layout a s kept (home_at (r.sector + (q - r.first)) (record { id = id; page = q }))
run_home layout a s kept r is_given form id p q held from below =
    let parts = and_parts (r.id == id) (nat_le r.first p && nat_lt p (r.first + r.pages)) held in
    let x : (nat_le r.first q && nat_lt q (r.first + r.pages)) ≡ true = within r.first q (r.first + r.pages) from below in
    record { run = r; given = is_given; form = form; has = (λ i. parts.0 i && x i); at = refl }
  where
    within : (m n o : ℕ) → m ≤ n → n < o → (nat_le m n && nat_lt n o) ≡ true
    within m n o first last = grind (arith, nat_tests)

held_from : (r : Run) (id p : ℕ) → holds r id p ≡ true → (r.first ≤ p) × (p < r.first + r.pages)
held_from r id p held =
    let parts = and_parts (r.id == id) (nat_le r.first p && nat_lt p (r.first + r.pages)) held in
    let more = and_parts (nat_le r.first p) (nat_lt p (r.first + r.pages)) parts.1 in
    (leb-true r.first p more.0, ltb-true p (r.first + r.pages) more.1)

module _ (layout : Layout) (a : DiskState) (s : Slots) (kept : List Run) (r : Run) (is_given : IsGiven layout a s kept r) (form : IsRun layout.sectors r) (id : ℕ) where
  -- those of a part from a page on
  pub part_homes : (page count : ℕ) → holds r id page ≡ true → count ≤ r.pages - (page - r.first) → (k : ℕ) → k < count
      → IsRunHome layout a s kept (home_at (r.sector + (page - r.first) + k) (record { id = id; page = page + k }))
  part_homes page count held few k below =
      let bounds = held_from r id page held in
      let from = bounds.0 in
      let last = bounds.1 in
      let z : r.sector + (page + k - r.first) ≡ r.sector + (page - r.first) + k = omega (arith, from) in
      subst (λ (n : ℕ). IsRunHome layout a s kept (home_at n (record { id = id; page = page + k }))) z
      (run_home layout a s kept r is_given form id page (page + k) held (omega (arith, from)) (omega (arith, from, last, few, below)))

  -- and of one up to a page
  pub last_homes : (end first : ℕ) → holds r id (end - 1) ≡ true → 1 ≤ end → r.first ≤ first → (k : ℕ) → k < end - first
      → IsRunHome layout a s kept (home_at (r.sector + (first - r.first) + k) (record { id = id; page = first + k }))
  last_homes end first held some from k below =
      let bounds = held_from r id (end - 1) held in
      let last = bounds.1 in
      let z : r.sector + (first + k - r.first) ≡ r.sector + (first - r.first) + k = omega (arith, from) in
      subst (λ (n : ℕ). IsRunHome layout a s kept (home_at n (record { id = id; page = first + k }))) z
      (run_home layout a s kept r is_given form id (end - 1) (first + k) held (omega (arith, from)) (omega (arith, some, from, last, below)))

-- ---- A run of a file that is freed: its labels, and then its sectors in the allocation map.

module _ {layout : Layout} {id : ℕ} {a b : DiskState} {s t : Slots} {kept mid : List Run} (is : IsLayout layout) (file : (id ≡ 3) ⊎ (16 ≤ id)) (run : Run) (form : IsRun layout.sectors run) (same_id : run.id ≡ id)
    (keep : KeepsMap (IsUnframed s id) layout id a s kept b t mid) where
  on_data : layout.first ≤ run.sector
  on_data = let first = data_first layout is in let from = form.from_data in omega (arith, first, from)

  -- where it stops at a label
  pub at_labels : (pages : ℕ → Type 0) → ((k : ℕ) → k < run.pages → IsRunHome layout a s kept (home_at (run.sector + k) (record { id = id; page = run.first + k }))) → (c : DiskState) (halt : Halt)
      → HasCause (IsOneNotOf run.sector run.pages (λ k. record { id = run.id; page = run.first + k }) b) b c halt → FreeHalts (IsUnframed s id) layout kept id pages a s c halt
  at_labels pages homes c halt why =
      row_halts_after keep pages run.sector run.pages run.first on_data form.inside (λ k below none. homes k below) c halt
      (subst (λ (i : ℕ). HasCause (IsOneNotOf run.sector run.pages (λ k. record { id = i; page = run.first + k }) b) b c halt) same_id why)

  module _ {c : DiskState} (sectors : List ℕ) (has : (j k : ℕ) → slice_get sectors j ≡ Some k → (i : ℕ) × (i < run.pages) × (k ≡ run.sector + i)) (made : RelabelsRun run.sector run.pages (freeing sectors) b t c)
      (were : (d : List Sector) → b.contents ≡ Some d → HaveOnes (λ k. ones_of (record { id = run.id; page = run.first + k })) d run.sector run.pages) where
    labels_kept : KeepsMap (IsUnframed s id) layout id a s kept c t mid
    labels_kept = keeps_then keep (keeps_labels mid is run.sector run.pages (λ k. run.first + k) sectors on_data has made
        (subst (λ (i : ℕ). (d : List Sector) → b.contents ≡ Some d → HaveOnes (λ k. ones_of (record { id = i; page = run.first + k })) d run.sector run.pages) same_id were))

    -- where it stops at the allocation map
    pub at_marks : (pages : ℕ → Type 0) (d : DiskState) (halt : Halt) → Halts (IsMapHome AllocationMap layout) c t d halt → FreeHalts (IsUnframed s id) layout kept id pages a s d halt
    at_marks pages d halt why = map_halts_after labels_kept AllocationMap pages d halt why

    pub run_kept : {d : DiskState} {u : Slots} {later : Layout} → Beside AllocationMap c t layout d u later → KeepsMap (IsUnframed s id) layout id a s kept d u mid
    run_kept beside = keeps_then labels_kept (keeps_marks mid is file beside)
