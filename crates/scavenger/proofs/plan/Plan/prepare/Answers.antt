use Rattle.std.proofs.Common.{◌≡◌, ℕ, List, Result, Err, length, rules, ◌∙◌, sym, ap, arith}
use Rattle.labelled_disk.specs.declared.disk.DiskError.{DiskError}
use Rattle.labelled_disk.specs.Layout.{vam, vfm}
use Rattle.labelled_disk.specs.Runs.{freeing}
use Rattle.labelled_disk.specs.State.{DiskState}
use Rattle.label_survey.specs.declared.sector_state.SectorState.{SectorState}
use Rattle.label_survey.specs.Survey.{is_freed, places_by}
use Rattle.scavenger.specs.Carries.{Carries}
use Rattle.scavenger.specs.Plan.{orders}
use Rattle.scavenger.proofs.LayoutLemmas.{of_layout, first_within}
use Rattle.scavenger.proofs.OrderLemmas.{stopped_frees, stopped_bits, prepared}
use Rattle.scavenger.proofs.RowLemmas.{carries_as, carries_err}
use Rattle.scavenger.proofs.plan.Plan.prepare.Goals as goal

-- freed by sector states that are the same ones
freed_as : (first : ℕ) (xs ys : List SectorState) (a b : DiskState) (r : Result (Unit {0}) DiskError) → xs ≡ ys → Carries (freeing (places_by is_freed first xs)) a r b → Carries (freeing (places_by is_freed first ys)) a r b
freed_as first xs ys a b r same = carries_as (freeing (places_by is_freed first xs)) (freeing (places_by is_freed first ys)) a b r (ap (λ (l : List SectorState). freeing (places_by is_freed first l)) same)

pub free_sectors-requires : goal.free_sectors-requires
free_sectors-requires g c =
    let parts = of_layout c.args.layout.now (g.D.Disk.state c.args.disk.now).sectors c.requires.layout in
    omega (
      arith,
      parts.first,
      c.requires.sized.sector_states,
      ap (λ (l : List SectorState). length l) c.deref.ensures.value,
      first_within (g.D.Disk.state c.args.disk.now).sectors c.requires.counted,
    )

pub returns-in_err-free_sectors : goal.returns-in_err-free_sectors
returns-in_err-free_sectors g c =
    let parts = of_layout c.args.layout.now (g.D.Disk.state c.args.disk.now).sectors c.requires.layout in
    let is : c.from_residual.result ≡ Err c.in_err-free_sectors.field-0.0 = search rules in
    λ root same. carries_err _ _ _ _ c.in_err-free_sectors.field-0.0 is
    (stopped_frees (orders root c.args.layout.now.first c.args.self) c.args.layout.now.vam c.args.layout.now.vfm (parts.bits ∙ ap vam (sym same)) (parts.names ∙ ap vfm (sym same))
    _ _ _ _ (freed_as c.args.layout.now.first _ _ _ _ _ c.deref.ensures.value c.in_err-free_sectors.ensures))

pub returns-in_err-write_map : goal.returns-in_err-write_map
returns-in_err-write_map g c =
    let parts = of_layout c.args.layout.now (g.D.Disk.state c.args.disk.now).sectors c.requires.layout in
    let is : c.from_residual-in_err-write_map.result ≡ Err c.in_err-write_map.field-0.0 = search rules in
    λ root same. carries_err _ _ _ _ c.in_err-write_map.field-0.0 is
    (stopped_bits (orders root c.args.layout.now.first c.args.self) c.args.layout.now.vam c.args.layout.now.vfm (parts.bits ∙ ap vam (sym same)) (parts.names ∙ ap vfm (sym same))
    _ _ _ (freed_as c.args.layout.now.first _ _ _ _ _ c.deref.ensures.value c.in_ok-free_sectors.ensures) _ _ c.in_err-write_map.ensures)

pub returns : goal.returns
returns g c =
    let parts = of_layout c.args.layout.now (g.D.Disk.state c.args.disk.now).sectors c.requires.layout in
    λ root same. prepared (orders root c.args.layout.now.first c.args.self) c.args.layout.now.vam c.args.layout.now.vfm (parts.bits ∙ ap vam (sym same)) (parts.names ∙ ap vfm (sym same))
    _ _ _ (freed_as c.args.layout.now.first _ _ _ _ _ c.deref.ensures.value c.in_ok-free_sectors.ensures) _ c.write_map-2.result c.in_ok-write_map.ensures c.write_map-2.ensures
