use Rattle.std.proofs.Common.{rules, List, IfErr, MatchResult, ◌∙◌, ap}
use Rattle.labelled_disk.specs.declared.layout.Layout.{Layout}
use Rattle.labelled_disk.specs.Sectors.{Sector}
use Rattle.file_map.specs.Cause.{FromMemory}
use Rattle.file_map.specs.FileMap.{Triples, IsFound}
use Rattle.swapper_kernel.specs.declared.manager.Manager.TheVariants.{FileMap}
use Rattle.swapper_kernel.specs.Stands.{Stands}
use Rattle.swapper_kernel.specs.Window.{Reveals}
use Rattle.filer_kernel.specs.Causes.{MapHalts}
use Rattle.filer_kernel.specs.Triples.{MapIs}
use Rattle.filer_kernel.proofs.Lent.{lent}
use Rattle.filer_kernel.proofs.MapLemmas.{stays_shown}
use Rattle.filer_kernel.proofs.FileLemmas.{IsWindowCause, map_revealed, names_revealed, cause_here, map_halts, map_sound, map_right, ok_shown, match_halted, revealed_at}
use Rattle.filer_kernel.proofs.filer.Filer.search.Given as given
use Rattle.filer_kernel.proofs.filer.Filer.search.Goals as goal

-- what the map answers
answer : (g : given.Over) (c : goal.After-halted g) (m : List Sector) (named : Triples) → Stands (g.D.Disk.state c.args.self.now.swapper.disk) c.args.self.now.swapper.pool m → MapIs c.args.self.now.swapper.layout named m
    → MatchResult c.find.result (IsFound named c.args.id c.args.page) FromMemory
answer g c m named stands map =
    let revealed = names_revealed c.requires.size m named stands map in
    c.find.ensures.found named (rw (c.over-map.ensures.sectors, c.layout-layout.ensures, c.over-map.ensures.memory, c.map_memory.ensures.value, c.map_memory.ensures.which) revealed)

-- why it answers an error
cause : (g : given.Over) (c : goal.After-halted g) → IfErr c.find.result (IsWindowCause c.over-map.result.sectors ⊥ FileMap (g.D.Disk.state c.args.self.now.swapper.disk) c.args.self.now.swapper.pool c.args.self.now.swapper.layout (g.D.Disk.state c.find.new.self.mem.swapper.now.disk))
cause g c = cause_here c.find.result c.over-map.result.sectors (λ w d s l. ⊥) (g.D.Disk.state c.find.new.self.mem.swapper.now.disk) (search rules) (search rules) (search rules) (search rules) c.find.ensures.cause

pub returns-clause-found : goal.returns-clause-found
returns-clause-found g c = λ m named stands map. rw c.halted.ensures (match_halted c.find.result _ _ (answer g c m named stands map))

pub returns-clause-read : goal.returns-clause-read
returns-clause-read g c =
    let read = rw (c.over-map.ensures.memory, c.map_memory.ensures.value, c.map_memory.ensures.which) at c.find.ensures.read in
    rw c.halted.ensures (ok_shown c.find.result c.args.self.now.swapper.layout (g.D.Disk.state c.args.self.now.swapper.disk) c.args.self.now.swapper.pool c.requires.size read)

pub returns-clause-fails : goal.returns-clause-fails
returns-clause-fails g c = record {
  sound = λ m named stands map labels.
      rw c.halted.ensures (map_sound c.find.result _ c.over-map.result.sectors ⊥ c.args.self.now.swapper.layout _ _ c.args.self.now.swapper.pool (answer g c m named stands map) (cause g c) m stands labels);
  right = λ m named stands map.
      rw c.halted.ensures (map_right c.find.result _ c.over-map.result.sectors ⊥ c.args.self.now.swapper.layout _ _ c.args.self.now.swapper.pool (answer g c m named stands map) (cause g c));
  cause =
      let of = c.over-map.ensures.sectors ∙ ap (λ (l : Layout). l.sectors) c.layout-layout.ensures in
      let halts : IfErr c.halted.result (MapHalts c.args.self.now.swapper.layout (g.D.Disk.state c.args.self.now.swapper.disk) c.args.self.now.swapper.pool (g.D.Disk.state c.find.new.self.mem.swapper.now.disk)) =
      rw c.halted.ensures (map_halts c.find.result _ c.args.self.now.swapper.layout (g.D.Disk.state c.args.self.now.swapper.disk) _ c.args.self.now.swapper.pool of c.requires.size (cause g c)) in
      search (rules, halts);
}

pub returns-clause-leaves : goal.returns-clause-leaves
returns-clause-leaves g c = record {
  same = λ m named stands map.
      let revealed = map_revealed c.requires.size m named stands map in
      let which = rw (c.over-map.ensures.memory, c.map_memory.ensures.which) at c.find.ensures.kept.1 in
      let kept = rw (c.over-map.ensures.memory, c.map_memory.ensures.value, c.map_memory.ensures.which) at c.find.ensures.kept.2 in
      lent (λ d s. Stands d s m) _ (g.D.Disk.state c.find.new.self.mem.swapper.now.disk) _ c.find.new.self.mem.swapper.now.pool (search rules) (search rules)
      (stays_shown which kept m stands map.bytes map.shows (c.find.ensures.same_bytes map.bytes (rw (c.over-map.ensures.memory, c.map_memory.ensures.value, c.map_memory.ensures.which) revealed)));
  same_bytes = λ b reveals.
      let x = c.args.self.now.swapper.layout in
      let mem = c.find.new.self.mem in
      let which = rw (c.over-map.ensures.memory, c.map_memory.ensures.which) at c.find.ensures.kept.1 in
      let kept = rw (c.over-map.ensures.memory, c.map_memory.ensures.value, c.map_memory.ensures.which) at c.find.ensures.kept.2 in
      lent (λ d s. Reveals FileMap d s x b) _ (g.D.Disk.state mem.swapper.now.disk) _ mem.swapper.now.pool (search rules) (search rules)
      (revealed_at which kept.layout b (c.find.ensures.same_bytes b (rw (c.over-map.ensures.memory, c.map_memory.ensures.value, c.map_memory.ensures.which) reveals)));
  beside = search rules;
  looked = search rules;
}
