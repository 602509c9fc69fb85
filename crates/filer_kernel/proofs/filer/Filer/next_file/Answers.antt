use Rattle.std.proofs.Common.{rules, List, IfErr, MatchResult, ◌∙◌, ap}
use Rattle.labelled_disk.specs.declared.layout.Layout.{Layout}
use Rattle.labelled_disk.specs.Sectors.{Sector}
use Rattle.file_map.specs.Cause.{FromMemory}
use Rattle.file_map.specs.FileMap.{Triples, IsNext}
use Rattle.swapper_kernel.specs.declared.manager.Manager.TheVariants.{FileMap}
use Rattle.swapper_kernel.specs.Stands.{Stands}
use Rattle.swapper_kernel.specs.Window.{Reveals}
use Rattle.filer_kernel.specs.Causes.{MapHalts}
use Rattle.filer_kernel.specs.Triples.{MapIs}
use Rattle.filer_kernel.proofs.Lent.{lent}
use Rattle.filer_kernel.proofs.MapLemmas.{stays_shown}
use Rattle.filer_kernel.proofs.FileLemmas.{IsWindowCause, map_revealed, names_revealed, cause_here, map_halts, map_sound, map_right, match_halted, revealed_at}
use Rattle.filer_kernel.proofs.filer.Filer.next_file.Given as given
use Rattle.filer_kernel.proofs.filer.Filer.next_file.Goals as goal

-- what the map answers
answer : (g : given.Over) (c : goal.After-halted g) (m : List Sector) (named : Triples) → Stands (g.D.Disk.state c.args.self.now.swapper.disk) c.args.self.now.swapper.pool m → MapIs c.args.self.now.swapper.layout named m
    → MatchResult c.next_file.result (IsNext named c.args.id) FromMemory
answer g c m named stands map =
    let revealed = names_revealed c.requires.size m named stands map in
    c.next_file.ensures.next named (rw (c.over-map.ensures.sectors, c.layout-layout.ensures, c.over-map.ensures.memory, c.map_memory.ensures.value, c.map_memory.ensures.which) revealed)

-- why it answers an error
cause : (g : given.Over) (c : goal.After-halted g) → IfErr c.next_file.result (IsWindowCause c.over-map.result.sectors ⊥ FileMap (g.D.Disk.state c.args.self.now.swapper.disk) c.args.self.now.swapper.pool c.args.self.now.swapper.layout (g.D.Disk.state c.next_file.new.self.mem.swapper.now.disk))
cause g c = cause_here c.next_file.result c.over-map.result.sectors (λ w d s l. ⊥) (g.D.Disk.state c.next_file.new.self.mem.swapper.now.disk) (search rules) (search rules) (search rules) (search rules) c.next_file.ensures.cause

pub returns-clause-next : goal.returns-clause-next
returns-clause-next g c = λ m named stands map. rw c.halted.ensures (match_halted c.next_file.result _ _ (answer g c m named stands map))

pub returns-clause-sound : goal.returns-clause-sound
returns-clause-sound g c = λ m named stands map labels.
    rw c.halted.ensures (map_sound c.next_file.result _ c.over-map.result.sectors ⊥ c.args.self.now.swapper.layout _ _ c.args.self.now.swapper.pool (answer g c m named stands map) (cause g c) m stands labels)

pub returns-clause-right : goal.returns-clause-right
returns-clause-right g c = λ m named stands map.
    rw c.halted.ensures (map_right c.next_file.result _ c.over-map.result.sectors ⊥ c.args.self.now.swapper.layout _ _ c.args.self.now.swapper.pool (answer g c m named stands map) (cause g c))

pub returns-clause-same : goal.returns-clause-same
returns-clause-same g c = λ m named stands map.
    let revealed = map_revealed c.requires.size m named stands map in
    let which = rw (c.over-map.ensures.memory, c.map_memory.ensures.which) at c.next_file.ensures.kept.1 in
    let kept = rw (c.over-map.ensures.memory, c.map_memory.ensures.value, c.map_memory.ensures.which) at c.next_file.ensures.kept.2 in
    lent (λ d s. Stands d s m) _ (g.D.Disk.state c.next_file.new.self.mem.swapper.now.disk) _ c.next_file.new.self.mem.swapper.now.pool (search rules) (search rules)
    (stays_shown which kept m stands map.bytes map.shows (c.next_file.ensures.same_bytes map.bytes (rw (c.over-map.ensures.memory, c.map_memory.ensures.value, c.map_memory.ensures.which) revealed)))

pub returns-clause-cause : goal.returns-clause-cause
returns-clause-cause g c =
    let of = c.over-map.ensures.sectors ∙ ap (λ (l : Layout). l.sectors) c.layout-layout.ensures in
    let halts : IfErr c.halted.result (MapHalts c.args.self.now.swapper.layout (g.D.Disk.state c.args.self.now.swapper.disk) c.args.self.now.swapper.pool (g.D.Disk.state c.next_file.new.self.mem.swapper.now.disk)) =
    rw c.halted.ensures (map_halts c.next_file.result _ c.args.self.now.swapper.layout (g.D.Disk.state c.args.self.now.swapper.disk) _ c.args.self.now.swapper.pool of c.requires.size (cause g c)) in
    search (rules, halts)

pub returns-clause-same_bytes : goal.returns-clause-same_bytes
returns-clause-same_bytes g c = λ b reveals.
    let x = c.args.self.now.swapper.layout in
    let mem = c.next_file.new.self.mem in
    let which = rw (c.over-map.ensures.memory, c.map_memory.ensures.which) at c.next_file.ensures.kept.1 in
    let kept = rw (c.over-map.ensures.memory, c.map_memory.ensures.value, c.map_memory.ensures.which) at c.next_file.ensures.kept.2 in
    lent (λ d s. Reveals FileMap d s x b) _ (g.D.Disk.state mem.swapper.now.disk) _ mem.swapper.now.pool (search rules) (search rules)
    (revealed_at which kept.layout b (c.next_file.ensures.same_bytes b (rw (c.over-map.ensures.memory, c.map_memory.ensures.value, c.map_memory.ensures.which) reveals)))
