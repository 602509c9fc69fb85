use Rattle.std.proofs.Common.{◌≡◌, List, Err, rules, arith, length, ap, subst}
use Rattle.labelled_disk.specs.Runs.{freeing}
use Rattle.label_survey.specs.declared.sector_state.SectorState.{SectorState}
use Rattle.label_survey.specs.Survey.{is_freed, places_by}
use Rattle.scavenger.specs.Carries.{Carries}
use Rattle.scavenger.specs.Orders.{closing_writes}
use Rattle.scavenger.specs.Plan.{orders}
use Rattle.volume_root.specs.declared.root.Root.{Root}
use Rattle.convert_laws.specs.Converted.{today}
use Rattle.convert_laws.specs.Orders.{leader_writes}
use Rattle.volume_convert.specs.Heads.{leaders_by}
use Rattle.volume_convert.specs.Settled.{is_spare}
use Rattle.volume_convert.proofs.PlannedLemmas.{stopped_first, stopped_second, all_three, freed_moved, led_moved, data_fits}
use Rattle.volume_convert.proofs.plan.Conversion.carry_out.Goals as goal

pub free_sectors-requires : goal.free_sectors-requires
free_sectors-requires g c =
    let same = ap (λ (xs : List SectorState). length xs) c.deref.ensures.value in
    let f = data_fits c.args.layout.now (g.D.Disk.state c.args.disk.now).sectors (length c.args.self.sector_states.items) c.requires.layout c.requires.valid.accepted c.requires.fit.sector_states in
    omega (arith, f, same)

pub returns-in_err-free_sectors : goal.returns-in_err-free_sectors
returns-in_err-free_sectors g c =
    let same : c.from_residual.result ≡ Err c.in_err-free_sectors.field-0.0 = search rules in
    rw same (stopped_first (freeing (places_by is_freed c.args.layout.now.first c.args.self.sector_states.items)) (leader_writes (places_by is_spare c.args.layout.now.first c.args.self.sector_states.items) (leaders_by c.args.self.heads.items))
    (closing_writes (orders (today c.args.root.now) c.args.layout.now.first c.args.self.maps))
    (g.D.Disk.state c.args.disk.now) (g.D.Disk.state c.free_sectors.new.disk) _ _ (freed_moved c.args.layout.now.first c.args.self.sector_states.items c.deref.result.now (g.D.Disk.state c.args.disk.now) (g.D.Disk.state c.free_sectors.new.disk) _ c.deref.ensures.value c.in_err-free_sectors.ensures))

pub write_leaders-requires : goal.write_leaders-requires
write_leaders-requires g c =
    let same = ap (λ (xs : List SectorState). length xs) c.deref-2.ensures.value in
    let f = data_fits c.args.layout.now (g.D.Disk.state c.args.disk.now).sectors (length c.args.self.sector_states.items) c.requires.layout c.requires.valid.accepted c.requires.fit.sector_states in
    omega (arith, f, same, c.in_ok-free_sectors.ensures.later.sectors)

pub returns-in_err-write_leaders : goal.returns-in_err-write_leaders
returns-in_err-write_leaders g c =
    let same : c.from_residual-in_err-write_leaders.result ≡ Err c.in_err-write_leaders.field-0.0 = search rules in
    rw same (stopped_second (freeing (places_by is_freed c.args.layout.now.first c.args.self.sector_states.items)) (leader_writes (places_by is_spare c.args.layout.now.first c.args.self.sector_states.items) (leaders_by c.args.self.heads.items))
    (closing_writes (orders (today c.args.root.now) c.args.layout.now.first c.args.self.maps))
    (g.D.Disk.state c.args.disk.now) (g.D.Disk.state c.free_sectors.new.disk) (g.D.Disk.state c.write_leaders.new.disk) _ _
    (freed_moved c.args.layout.now.first c.args.self.sector_states.items c.deref.result.now (g.D.Disk.state c.args.disk.now) (g.D.Disk.state c.free_sectors.new.disk) _ c.deref.ensures.value c.in_ok-free_sectors.ensures)
    (led_moved c.args.layout.now.first c.args.self.sector_states.items c.deref-2.result.now c.args.self.heads.items c.deref-3.result.now (g.D.Disk.state c.free_sectors.new.disk) (g.D.Disk.state c.write_leaders.new.disk) _ c.deref-2.ensures.value c.deref-3.ensures.value c.in_err-write_leaders.ensures))

pub returns : goal.returns
returns g c =
    all_three (freeing (places_by is_freed c.args.layout.now.first c.args.self.sector_states.items)) (leader_writes (places_by is_spare c.args.layout.now.first c.args.self.sector_states.items) (leaders_by c.args.self.heads.items))
    (closing_writes (orders (today c.args.root.now) c.args.layout.now.first c.args.self.maps))
    (g.D.Disk.state c.args.disk.now) (g.D.Disk.state c.free_sectors.new.disk) (g.D.Disk.state c.write_leaders.new.disk) (g.D.Disk.state c.carry_out.new.disk) c.carry_out.result
    (freed_moved c.args.layout.now.first c.args.self.sector_states.items c.deref.result.now (g.D.Disk.state c.args.disk.now) (g.D.Disk.state c.free_sectors.new.disk) _ c.deref.ensures.value c.in_ok-free_sectors.ensures)
    (led_moved c.args.layout.now.first c.args.self.sector_states.items c.deref-2.result.now c.args.self.heads.items c.deref-3.result.now (g.D.Disk.state c.free_sectors.new.disk) (g.D.Disk.state c.write_leaders.new.disk) _ c.deref-2.ensures.value c.deref-3.ensures.value c.in_ok-write_leaders.ensures)
    (subst (λ (r : Root). Carries (closing_writes (orders r c.args.layout.now.first c.args.self.maps)) (g.D.Disk.state c.write_leaders.new.disk) c.carry_out.result (g.D.Disk.state c.carry_out.new.disk)) c.today.ensures c.carry_out.ensures)
