-- The swap unit of a page as a run of a file's pages, and what is resident of it.
use Rattle.std.proofs.Common.{◌≡◌, ◌⊎◌, true, inl, inr, ℕ, ◌+◌, ◌-◌, ◌<◌, ◌≤◌, List, refl, sym, ◌∙◌, subst, arith}
use Rattle.labelled_disk.specs.Sectors.{Sector}
use Rattle.frame_pool.specs.Frames.{Slots}
use Rattle.file_map.specs.FileMap.{Triples}
use Rattle.swap_units.specs.declared.interval.Interval.{Interval}
use Rattle.swap_units.specs.Mode.{is_mapped}
use Rattle.swap_units.specs.Unit.{Holds, IsUnit, IsAmong, LiesIn}
use Rattle.swapper_kernel.specs.HaltLaws.{brings_wider}
use Rattle.fault_core.specs.Kept.{IsFormed}
use Rattle.fault_core.specs.Revealed.{IsStored}
use Rattle.fault_core.specs.Unit.{InUnit, IsResident, AreResident, IsWhole, IsUnitRun, AreShownStored, AreRunStored, BringsRun, BringsShown, IsOfInterval}

pub unit_run_is : (x : Interval) (page : ℕ) (run : ℕ × ℕ) → IsFormed x → Holds x page → is_mapped x.mode ≡ true → IsUnit x page run → IsAmong run page → LiesIn x run → run.1 ≤ x.unit
    → IsUnitRun x page (x.page + (run.0 - x.first), run.1)
unit_run_is x page run formed holds mapped unit among lies size =
    let fits = (formed.shows mapped).1 in
    let units = formed.unit_fits in
    record {
      some = omega (arith, among);
      few = omega (arith, size, units);
      fits = omega (arith, lies, fits, among);
      each = λ j below.
          let in_run : IsAmong run (run.0 + j) = (omega arith, omega (arith, below)) in
          (run.0 + j, (unit.same_block (run.0 + j)).0 in_run, omega (arith, lies));
      all = λ other own.
          let in_run = (unit.same_block other).1 own in
          (other - run.0, omega (arith, in_run), omega (arith, in_run, lies));
    }

module _ {x : Interval} {page : ℕ} {run : ℕ × ℕ} (h : IsUnitRun x page run) where
  -- the run is resident where the unit is, and the other way round
  pub whole_of_run : (s : Slots) → AreResident s x.id run.0 run.1 → IsWhole s x page
  whole_of_run s there other own = let at = h.all other own in subst (λ (n : ℕ). IsResident s x.id n) (sym at.2) (there at.0 at.1)

  pub run_of_whole : (s : Slots) → IsWhole s x page → AreResident s x.id run.0 run.1
  run_of_whole s whole j below = let at = h.each j below in subst (λ (n : ℕ). IsResident s x.id n) at.2 (whole at.0 at.1)

  pub run_stored : (named : Triples) (m : List Sector) → AreShownStored named m x → AreRunStored named m x.id run.0 run.1
  run_stored named m all j below = let at = h.each j below in subst (λ (n : ℕ). IsStored named m (record { file = x.id; page = n })) at.2 (all at.0 at.1.0)

  pub run_shown : (s t : Slots) → BringsRun x.id run.0 run.1 s t → BringsShown x s t
  run_shown s t brings = brings_wider (λ home. ((1 ≤ home.id) × (home.id ≤ 3)) ⊎ IsOfInterval x home) (λ home come. elim come [
    | inl own ↦ inl own
    | inr within ↦
        let j = home.page - run.0 in
        let below : j < run.1 = omega (arith, within.1, within.2) in
        let at = h.each j below in
        let back : run.0 + j ≡ home.page = omega (arith, within.1) in
        inr (record { page = at.0; holds = at.1.0; same_id = within.0; same_page = sym (at.2 ∙ back) })
  ]) brings

pub own_unit : (x : Interval) (page : ℕ) → Holds x page → InUnit x page page
own_unit x page holds = (holds, refl)
