use Rattle.std.proofs.Common.{rules, ℕ, ◌⊎◌, ◌+◌, ◌*◌, ◌≤◌, IfErr, OnOk, List, ◌∙◌, ap, arith}
use Rattle.labelled_disk.specs.declared.layout.Layout.{Layout}
use Rattle.labelled_disk.specs.Sectors.{Sector}
use Rattle.file_map.specs.Cause.{IsToCut}
use Rattle.file_map.specs.FileMap.{IsSize, Triples, without_from}
use Rattle.swapper_kernel.specs.declared.manager.Manager.TheVariants.{FileMap}
use Rattle.swapper_kernel.specs.Stands.{Stands}
use Rattle.filer_kernel.specs.Becomes.{Becomes}
use Rattle.filer_kernel.specs.Causes.{MapShows, MapHalts, CutHalts}
use Rattle.filer_kernel.specs.Triples.{MapIs}
use Rattle.filer_kernel.proofs.Lent.{lent}
use Rattle.filer_kernel.proofs.Outcomes.{err_wider}
use Rattle.filer_kernel.proofs.FileLemmas.{names_revealed, becomes_named, match_on_ok}
use Rattle.filer_kernel.proofs.CutLemmas.{IsBegun, begun_here, begun_halts, IsAtCrashState, crash_state_here, cut_halts, cut_sound, cut_right}
use Rattle.filer_kernel.proofs.filer.Filer.cut.Given as given
use Rattle.filer_kernel.proofs.filer.Filer.cut.Goals as goal

pub returns-clause-cut : goal.returns-clause-cut
returns-clause-cut g c =
    let x = c.args.self.now.swapper.layout in
    lent (λ d s. (m : List Sector) (named : Triples) → Stands (g.D.Disk.state c.args.self.now.swapper.disk) c.args.self.now.swapper.pool m → MapIs x named m
    → OnOk c.halted.result (Becomes FileMap x m (MapIs x (without_from named c.args.id c.args.from)) d s))
    _ (g.D.Disk.state c.cut.new.self.mem.swapper.now.disk) _ c.cut.new.self.mem.swapper.now.pool (search rules) (search rules) (λ m named stands map.
    let revealed = names_revealed c.requires.size m named stands map in
    let done = c.cut.ensures.cut named (rw (c.over-map.ensures.sectors, c.layout-layout.ensures, c.over-map.ensures.memory, c.map_memory.ensures.value, c.map_memory.ensures.which) revealed) in
    let which = rw (c.over-map.ensures.memory, c.map_memory.ensures.which) at c.cut.ensures.kept.1 in
    let kept = rw (c.over-map.ensures.memory, c.map_memory.ensures.value, c.map_memory.ensures.which) at c.cut.ensures.kept.2 in
    let of = c.cut.ensures.sectors ∙ c.over-map.ensures.sectors ∙ ap (λ (l : Layout). l.sectors) c.layout-layout.ensures in
    rw c.halted.ensures (match_on_ok c.cut.result _ _ _ done (becomes_named which kept m stands (without_from named c.args.id c.args.from) _ of)))

-- what the window accounts for
crash_state : (g : given.Over) (c : goal.After-halted g) → IfErr c.cut.result (IsAtCrashState c.over-map.result.sectors FileMap (g.D.Disk.state c.args.self.now.swapper.disk) c.args.self.now.swapper.pool c.args.self.now.swapper.layout
    (g.D.Disk.state c.cut.new.self.mem.swapper.now.disk) c.cut.new.self.mem.swapper.now.pool c.cut.new.self.mem.swapper.now.layout)
crash_state g c =
    crash_state_here c.cut.result c.over-map.result.sectors (g.D.Disk.state c.cut.new.self.mem.swapper.now.disk) c.cut.new.self.mem.swapper.now.pool c.cut.new.self.mem.swapper.now.layout
    {also = FileMap} {b = g.D.Disk.state c.args.self.now.swapper.disk} {u = c.args.self.now.swapper.pool} {z = c.args.self.now.swapper.layout} (search rules) (search rules) (search rules) (search rules)
    (err_wider c.cut.result _ _ (λ error why. record {
      what = why.0.which;
      disk = g.D.Disk.state why.0.swapper.now.disk;
      slots = why.0.swapper.now.pool;
      place = why.0.swapper.now.layout;
      same = why.1.1;
      since = why.1.2;
      until = why.2.2;
      cause = why.3;
    }) c.cut.ensures.cause)

pub returns-clause-sound : goal.returns-clause-sound
returns-clause-sound g c = λ m named stands map labels.
    let revealed = names_revealed c.requires.size m named stands map in
    let own = c.cut.ensures.cut named (rw (c.over-map.ensures.sectors, c.layout-layout.ensures, c.over-map.ensures.memory, c.map_memory.ensures.value, c.map_memory.ensures.which) revealed) in
    rw c.halted.ensures (cut_sound c.cut.result _ _ c.args.self.now.swapper.layout _ _ c.args.self.now.swapper.pool _ _ own (crash_state g c) m stands labels)

pub returns-clause-right : goal.returns-clause-right
returns-clause-right g c = λ m named stands map.
    let revealed = names_revealed c.requires.size m named stands map in
    let own = c.cut.ensures.cut named (rw (c.over-map.ensures.sectors, c.layout-layout.ensures, c.over-map.ensures.memory, c.map_memory.ensures.value, c.map_memory.ensures.which) revealed) in
    rw c.halted.ensures (cut_right c.cut.result _ _ c.args.self.now.swapper.layout _ _ c.args.self.now.swapper.pool _ _ own (crash_state g c))

pub returns-clause-cause : goal.returns-clause-cause
returns-clause-cause g c =
    let x = c.args.self.now.swapper.layout in
    let of = c.over-map.ensures.sectors ∙ ap (λ (l : Layout). l.sectors) c.layout-layout.ensures in
    let halts : IfErr c.halted.result (CutHalts x (g.D.Disk.state c.args.self.now.swapper.disk) c.args.self.now.swapper.pool (g.D.Disk.state c.cut.new.self.mem.swapper.now.disk) c.cut.new.self.mem.swapper.now.pool) =
    rw c.halted.ensures (cut_halts c.cut.result _ x _ _ _ _ _ of c.requires.size (crash_state g c)) in
    search (rules, halts)

begun : (g : given.Over) (c : goal.After-halted g) → IfErr c.cut.result (IsBegun c.over-map.result.sectors c.args.id c.args.from FileMap (g.D.Disk.state c.args.self.now.swapper.disk) c.args.self.now.swapper.pool c.args.self.now.swapper.layout (g.D.Disk.state c.cut.new.self.mem.swapper.now.disk))
begun g c = begun_here c.cut.result c.over-map.result.sectors c.args.id c.args.from (g.D.Disk.state c.cut.new.self.mem.swapper.now.disk) (search rules) (search rules) (search rules) (search rules) c.cut.ensures.begun

pub returns-clause-begun : goal.returns-clause-begun
returns-clause-begun g c =
    let x = c.args.self.now.swapper.layout in
    let of = c.over-map.ensures.sectors ∙ ap (λ (l : Layout). l.sectors) c.layout-layout.ensures in
    let halts : IfErr c.halted.result (λ h. MapHalts x (g.D.Disk.state c.args.self.now.swapper.disk) c.args.self.now.swapper.pool (g.D.Disk.state c.cut.new.self.mem.swapper.now.disk) h ⊎ IsToCut c.args.id c.args.from (MapShows x (g.D.Disk.state c.args.self.now.swapper.disk) c.args.self.now.swapper.pool)) =
    rw c.halted.ensures (begun_halts c.cut.result _ c.args.id c.args.from x _ _ _ of c.requires.size (begun g c)) in
    search (rules, halts)

-- on the disk of the map that was lent
sized : (g : given.Over) (c : goal.After-halted g) (m : List Sector) (named : Triples) (size : ℕ) → Stands (g.D.Disk.state c.args.self.now.swapper.disk) c.args.self.now.swapper.pool m → MapIs c.args.self.now.swapper.layout named m → IsSize named c.args.id size
    → (g.D.Disk.state c.cut.new.self.mem.swapper.now.disk).transfers ≤ (g.D.Disk.state c.args.self.now.swapper.disk).transfers + 2 * (1 + 51 * (size + 2))
sized g c m named size stands map is =
    let revealed = names_revealed c.requires.size m named stands map in
    let paid = c.cut.ensures.cost_sized named size (rw (c.over-map.ensures.sectors, c.layout-layout.ensures, c.over-map.ensures.memory, c.map_memory.ensures.value, c.map_memory.ensures.which) revealed) is in
    let spent = rw (c.over-map.ensures.memory, c.map_memory.ensures.value, c.map_memory.ensures.which) at paid in
    omega (arith, spent)

pub returns-clause-cost_sized : goal.returns-clause-cost_sized
returns-clause-cost_sized g c = λ m named size stands map is. let all = sized g c m named size stands map is in search (rules, all)
