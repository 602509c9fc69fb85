use Rattle.std.proofs.Common.{rules, ◌≡◌, ◌∙◌}
use Rattle.labelled_disk.specs.declared.evidence.Halt.TheVariants as halt
use Rattle.swapper_kernel.specs.Stands.{Stands}
use Rattle.filer_kernel.proofs.Lent.{lent}
use Rattle.filer_kernel.proofs.Outcomes.{ok_wider, err_wider}
use Rattle.filer_kernel.proofs.MapLemmas.{stays_shown}
use Rattle.filer_kernel.proofs.MarkLemmas.{free_are, bits_revealed}
use Rattle.filer_kernel.proofs.filer.Filer.free_count.Goals as goal

pub returns-clause-sound : goal.returns-clause-sound
returns-clause-sound g c = λ m stands named.
    err_wider c.free_count.result _ (λ e. e ≡ halt.Disk) (λ e is. is.sound m stands named)
    (rw (c.over-map.ensures.memory, c.map_memory.ensures.value, c.map_memory.ensures.which) at c.free_count.ensures.cause)

pub returns-clause-count : goal.returns-clause-count
returns-clause-count g c = λ m marks stands bits.
    let revealed = bits_revealed c.requires.size m marks stands bits in
    ok_wider c.free_count.result _ _ (λ n is. is ∙ free_are c.args.self.now.swapper.layout marks bits.bytes bits.are)
    (rw (c.over-map.ensures.first, c.over-map.ensures.sectors, c.layout-layout.ensures) at c.free_count.ensures.count bits.bytes (rw (c.over-map.ensures.memory, c.map_memory.ensures.value, c.map_memory.ensures.which) revealed))

pub returns-clause-same : goal.returns-clause-same
returns-clause-same g c = λ m marks stands bits.
    let revealed = bits_revealed c.requires.size m marks stands bits in
    let which = rw (c.over-map.ensures.memory, c.map_memory.ensures.which) at c.free_count.ensures.kept.1 in
    let kept = rw (c.over-map.ensures.memory, c.map_memory.ensures.value, c.map_memory.ensures.which) at c.free_count.ensures.kept.2 in
    lent (λ d s. Stands d s m) _ (g.D.Disk.state c.free_count.new.self.mem.swapper.now.disk) _ c.free_count.new.self.mem.swapper.now.pool (search rules) (search rules)
    (stays_shown which kept m stands bits.bytes bits.shows (c.free_count.ensures.unchanged bits.bytes (rw (c.over-map.ensures.memory, c.map_memory.ensures.value, c.map_memory.ensures.which) revealed)))

pub returns-clause-form : goal.returns-clause-form
returns-clause-form g c = rw (c.over-map.ensures.first, c.over-map.ensures.sectors, c.layout-layout.ensures) at c.free_count.ensures.form
