use Rattle.std.proofs.Common.{ℕ, ◌≡◌, ◌∙◌, ◌*◌, length, ap, sym, subst, arith}
use Rattle.flat_mem.specs.Vec.{vec_mem_bytes}
use Rattle.labelled_disk.specs.Layout.{IsCount, first_data, vam}
use Rattle.volume_view.specs.Bits.{taken}
use Rattle.volume_view.specs.Pages.{bytes_of, SaysNamed}
use Rattle.volume_view.proofs.BitLemmas.{taken_is, wrong_bits}
use Rattle.volume_view.proofs.LayoutLemmas.{of_layout, first_within, bits_cover}
use Rattle.volume_view.proofs.bits.look_at_bits.Goals as goal

pub returns-in-Ok-compare_bits-clause-bits : goal.returns-in-Ok-compare_bits-clause-bits
returns-in-Ok-compare_bits-clause-bits g c = λ d revealed are.
    let parts = of_layout c.args.layout.now (g.D.Disk.state c.args.disk.now).sectors c.requires.layout in
    let long : length d ≡ (g.D.Disk.state c.args.disk.now).sectors = g.met.D.Disk.whole c.args.disk.now d revealed in
    let from : c.args.layout.now.first ≡ first_data (length d) = parts.first ∙ ap first_data (sym long) in
    let bits : c.args.layout.now.vam ≡ vam (length d) = parts.bits ∙ ap vam (sym long) in
    let within = first_within (length d) (subst IsCount (sym long) c.requires.counted) in
    let cover = bits_cover (length d) in
    wrong_bits d within (vec_mem_bytes c.in_ok-map.map) (taken c.args.layout.now.first c.args.labels.now) (4096 * c.args.layout.now.vam) c.in-Ok-compare_bits.runs.items
    (c.in_ok-map.ensures.bytes d revealed ∙ ap (bytes_of d 1) bits) (taken_is d c.args.labels.now c.args.layout.now.first from are)
    (omega (arith, c.in_ok-map.ensures.size)) (omega (arith, cover, bits)) c.in-Ok-compare_bits.ensures

pub returns-in-Ok-compare_bits-clause-labelled : goal.returns-in-Ok-compare_bits-clause-labelled
returns-in-Ok-compare_bits-clause-labelled g c = λ d revealed.
    let parts = of_layout c.args.layout.now (g.D.Disk.state c.args.disk.now).sectors c.requires.layout in
    let long : length d ≡ (g.D.Disk.state c.args.disk.now).sectors = g.met.D.Disk.whole c.args.disk.now d revealed in
    let bits : c.args.layout.now.vam ≡ vam (length d) = parts.bits ∙ ap vam (sym long) in
    subst (λ (n : ℕ). SaysNamed c.args.labelled.now c.read_pages.new.labelled d 1 1 n) bits (c.in_ok-map.ensures.labels d revealed)
