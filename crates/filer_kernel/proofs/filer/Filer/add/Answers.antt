use Rattle.std.proofs.Common.{rules, ℕ, ◌<◌, List, IfOk, IfErr, OnOk, ◌∙◌, ap, subst}
use Rattle.labelled_disk.specs.declared.layout.Layout.{Layout}
use Rattle.labelled_disk.specs.Sectors.{Sector}
use Rattle.file_map.specs.FileMap.{Triples, IsNew, with_run, most_records}
use Rattle.swapper_kernel.specs.declared.manager.Manager.TheVariants.{FileMap}
use Rattle.swapper_kernel.specs.Stands.{Stands}
use Rattle.filer_kernel.specs.Becomes.{Becomes}
use Rattle.filer_kernel.specs.Causes.{AddHalts}
use Rattle.filer_kernel.specs.Triples.{MapIs}
use Rattle.filer_kernel.proofs.Lent.{lent}
use Rattle.filer_kernel.proofs.FileLemmas.{names_revealed, becomes_named, ok_halted, match_on_ok}
use Rattle.filer_kernel.proofs.AddLemmas.{IsWindowAddCause, add_cause_here, RevealsMost, has_room, add_sound, add_right, add_halts}
use Rattle.filer_kernel.proofs.filer.Filer.add.Given as given
use Rattle.filer_kernel.proofs.filer.Filer.add.Goals as goal

-- why the map answers an error
cause : (g : given.Over) (c : goal.After-halted g) → IfErr c.add.result (IsWindowAddCause c.over-map.result.sectors (RevealsMost c.over-map.result.sectors FileMap (g.D.Disk.state c.args.self.now.swapper.disk) c.args.self.now.swapper.pool c.args.self.now.swapper.layout)
    FileMap (g.D.Disk.state c.args.self.now.swapper.disk) c.args.self.now.swapper.pool c.args.self.now.swapper.layout (g.D.Disk.state c.add.new.self.mem.swapper.now.disk))
cause g c = add_cause_here c.add.result c.over-map.result.sectors (RevealsMost c.over-map.result.sectors) (g.D.Disk.state c.add.new.self.mem.swapper.now.disk) (search rules) (search rules) (search rules) (search rules) c.add.ensures.cause

pub returns-clause-added : goal.returns-clause-added
returns-clause-added g c =
    let x = c.args.self.now.swapper.layout in
    let run = c.args.run in
    lent (λ d s. (m : List Sector) (named : Triples) → Stands (g.D.Disk.state c.args.self.now.swapper.disk) c.args.self.now.swapper.pool m → MapIs x named m → IsNew named run → OnOk c.halted.result (Becomes FileMap x m (MapIs x (with_run named run)) d s))
    _ (g.D.Disk.state c.add.new.self.mem.swapper.now.disk) _ c.add.new.self.mem.swapper.now.pool (search rules) (search rules) (λ m named stands map new.
    let revealed = names_revealed c.requires.size m named stands map in
    let added = c.add.ensures.added named (rw (c.over-map.ensures.sectors, c.layout-layout.ensures, c.over-map.ensures.memory, c.map_memory.ensures.value, c.map_memory.ensures.which) revealed) new in
    let which = rw (c.over-map.ensures.memory, c.map_memory.ensures.which) at c.add.ensures.kept.1 in
    let kept = rw (c.over-map.ensures.memory, c.map_memory.ensures.value, c.map_memory.ensures.which) at c.add.ensures.kept.2 in
    let of = c.add.ensures.sectors ∙ c.over-map.ensures.sectors ∙ ap (λ (l : Layout). l.sectors) c.layout-layout.ensures in
    rw c.halted.ensures (match_on_ok c.add.result _ _ _ added (becomes_named which kept m stands (with_run named run) _ of)))

pub returns-clause-room : goal.returns-clause-room
returns-clause-room g c = λ n counted.
    let of = c.over-map.ensures.sectors ∙ ap (λ (l : Layout). l.sectors) c.layout-layout.ensures in
    let room = c.add.ensures.room n (counted.0, (rw (c.over-map.ensures.memory, c.map_memory.ensures.value, c.map_memory.ensures.which) counted.1), counted.2) in
    rw c.halted.ensures (ok_halted c.add.result _ (subst (λ (k : ℕ). IfOk c.add.result (λ value. n < most_records k)) of room))

pub returns-clause-sound : goal.returns-clause-sound
returns-clause-sound g c = λ m named used stands map new labels once among room.
    let revealed = names_revealed c.requires.size m named stands map in
    let added = c.add.ensures.added named (rw (c.over-map.ensures.sectors, c.layout-layout.ensures, c.over-map.ensures.memory, c.map_memory.ensures.value, c.map_memory.ensures.which) revealed) new in
    let of = c.over-map.ensures.sectors ∙ ap (λ (l : Layout). l.sectors) c.layout-layout.ensures in
    rw c.halted.ensures (add_sound c.add.result _ c.over-map.result.sectors _ _ _ c.args.self.now.swapper.layout _ _ c.args.self.now.swapper.pool
    (λ full. has_room c.requires.size m named used stands map once among room c.over-map.result.sectors of (full.0, (rw (c.over-map.ensures.memory, c.map_memory.ensures.value, c.map_memory.ensures.which) at full.1), full.2)) added (cause g c) m stands labels)

pub returns-clause-right : goal.returns-clause-right
returns-clause-right g c = λ m named stands map new.
    let revealed = names_revealed c.requires.size m named stands map in
    let added = c.add.ensures.added named (rw (c.over-map.ensures.sectors, c.layout-layout.ensures, c.over-map.ensures.memory, c.map_memory.ensures.value, c.map_memory.ensures.which) revealed) new in
    let of = c.over-map.ensures.sectors ∙ ap (λ (l : Layout). l.sectors) c.layout-layout.ensures in
    rw c.halted.ensures (add_right c.add.result _ c.over-map.result.sectors _ _ _ c.args.self.now.swapper.layout _ _ c.args.self.now.swapper.pool of
    (λ full. (full.0, (rw (c.over-map.ensures.memory, c.map_memory.ensures.value, c.map_memory.ensures.which) at full.1), full.2)) added (cause g c))

pub returns-clause-cause : goal.returns-clause-cause
returns-clause-cause g c =
    let of = c.over-map.ensures.sectors ∙ ap (λ (l : Layout). l.sectors) c.layout-layout.ensures in
    let halts : IfErr c.halted.result (AddHalts c.args.self.now.swapper.layout (g.D.Disk.state c.args.self.now.swapper.disk) c.args.self.now.swapper.pool (g.D.Disk.state c.add.new.self.mem.swapper.now.disk)) =
    rw c.halted.ensures (add_halts c.add.result _ c.args.self.now.swapper.layout (g.D.Disk.state c.args.self.now.swapper.disk) _ c.args.self.now.swapper.pool of c.requires.size (cause g c)) in
    search (rules, halts)
