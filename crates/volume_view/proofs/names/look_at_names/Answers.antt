use Rattle.std.proofs.Common.{◌≡◌, ℕ, ◌+◌, ◌∙◌, Ok, length, sym, ap, subst}
use Rattle.flat_mem.specs.Vec.{vec_mem_bytes}
use Rattle.labelled_disk.specs.Layout.{first_data, vam, vfm}
use Rattle.file_map.specs.FileMap.{names_triple}
use Rattle.file_map.specs.InSectors.{label_triples}
use Rattle.volume_view.specs.Names.{labelled, IsComparison}
use Rattle.volume_view.specs.Pages.{bytes_of, SaysNamed}
use Rattle.volume_view.proofs.RecordedLemmas.{alike_on}
use Rattle.volume_view.proofs.LayoutLemmas.{of_layout}
use Rattle.volume_view.proofs.AgreeLemmas.{agrees_as_revealed, form_named, form_as_revealed}
use Rattle.volume_view.proofs.NameLemmas.{names_in, labels_say, comparison_alike, never_stopped}
use Rattle.volume_view.proofs.names.look_at_names.Goals as goal

pub returns-in-Ok-compare_names-clause-revealed : goal.returns-in-Ok-compare_names-clause-revealed
returns-in-Ok-compare_names-clause-revealed g c = λ d revealed are named map_is.
    let parts = of_layout c.args.layout.now (g.D.Disk.state c.args.disk.now).sectors c.requires.layout in
    let long : length d ≡ (g.D.Disk.state c.args.disk.now).sectors = g.met.D.Disk.whole c.args.disk.now d revealed in
    let from : c.args.layout.now.first ≡ first_data (length d) = parts.first ∙ ap first_data (sym long) in
    let bits : c.args.layout.now.vam ≡ vam (length d) = parts.bits ∙ ap vam (sym long) in
    let pages : c.args.layout.now.vfm ≡ vfm (length d) = parts.names ∙ ap vfm (sym long) in
    let bytes = c.is_in_form.ensures.same ∙ c.in_ok-map.ensures.bytes d revealed ∙ ap (λ (n : ℕ). bytes_of d (1 + n) c.args.layout.now.vfm) bits ∙ ap (bytes_of d (1 + vam (length d))) pages in
    let there = names_in d c.args.layout.now.sectors (vec_mem_bytes c.is_in_form.new.map) named (long ∙ sym parts.sectors) bytes map_is in
    let said = labels_say d c.args.labels.now c.args.layout.now.first from are in
    let alike = comparison_alike (labelled c.args.layout.now.first c.args.labels.now) (label_triples d) said c.args.layout.now.sectors named c.in-Ok-compare_names.differences (c.in-Ok-compare_names.ensures.compared named there) in
    subst (λ (n : ℕ). IsComparison n named (label_triples d) c.in-Ok-compare_names.differences) (parts.sectors ∙ sym long) alike

pub returns-in-Err-Broken-clause-revealed : goal.returns-in-Err-Broken-clause-revealed
returns-in-Err-Broken-clause-revealed g c = λ d revealed are named map_is.
    let parts = of_layout c.args.layout.now (g.D.Disk.state c.args.disk.now).sectors c.requires.layout in
    let long : length d ≡ (g.D.Disk.state c.args.disk.now).sectors = g.met.D.Disk.whole c.args.disk.now d revealed in
    let bits : c.args.layout.now.vam ≡ vam (length d) = parts.bits ∙ ap vam (sym long) in
    let pages : c.args.layout.now.vfm ≡ vfm (length d) = parts.names ∙ ap vfm (sym long) in
    let bytes = c.is_in_form.ensures.same ∙ c.in_ok-map.ensures.bytes d revealed ∙ ap (λ (n : ℕ). bytes_of d (1 + n) c.args.layout.now.vfm) bits ∙ ap (bytes_of d (1 + vam (length d))) pages in
    let there = names_in d c.args.layout.now.sectors (vec_mem_bytes c.is_in_form.new.map) named (long ∙ sym parts.sectors) bytes map_is in
    never_stopped c.in-Err-Broken.field-0 _ c.in-Err-Broken.field-0-is (c.in-Err-Broken.ensures.compared named there)

pub returns-in-Ok-compare_names-clause-alike : goal.returns-in-Ok-compare_names-clause-alike
returns-in-Ok-compare_names-clause-alike g c = λ d revealed are none.
    let parts = of_layout c.args.layout.now (g.D.Disk.state c.args.disk.now).sectors c.requires.layout in
    let long : length d ≡ (g.D.Disk.state c.args.disk.now).sectors = g.met.D.Disk.whole c.args.disk.now d revealed in
    let from : c.args.layout.now.first ≡ first_data (length d) = parts.first ∙ ap first_data (sym long) in
    let bits : c.args.layout.now.vam ≡ vam (length d) = parts.bits ∙ ap vam (sym long) in
    let pages : c.args.layout.now.vfm ≡ vfm (length d) = parts.names ∙ ap vfm (sym long) in
    let bytes = c.is_in_form.ensures.same ∙ c.in_ok-map.ensures.bytes d revealed ∙ ap (λ (n : ℕ). bytes_of d (1 + n) c.args.layout.now.vfm) bits ∙ ap (bytes_of d (1 + vam (length d))) pages in
    alike_on d c.args.layout.now.sectors (vec_mem_bytes c.is_in_form.new.map) (labelled c.args.layout.now.first c.args.labels.now) (parts.sectors ∙ sym long) bytes (labels_say d c.args.labels.now c.args.layout.now.first from are) (c.in-Ok-compare_names.ensures.alike none)

pub returns-in-Ok-compare_names-clause-agrees : goal.returns-in-Ok-compare_names-clause-agrees
returns-in-Ok-compare_names-clause-agrees g c = λ d revealed are.
    let parts = of_layout c.args.layout.now (g.D.Disk.state c.args.disk.now).sectors c.requires.layout in
    let long : length d ≡ (g.D.Disk.state c.args.disk.now).sectors = g.met.D.Disk.whole c.args.disk.now d revealed in
    let bits : c.args.layout.now.vam ≡ vam (length d) = parts.bits ∙ ap vam (sym long) in
    let pages : c.args.layout.now.vfm ≡ vfm (length d) = parts.names ∙ ap vfm (sym long) in
    let bytes = c.in_ok-map.ensures.bytes d revealed ∙ ap (λ (n : ℕ). bytes_of d (1 + n) c.args.layout.now.vfm) bits ∙ ap (bytes_of d (1 + vam (length d))) pages in
    agrees_as_revealed d c.args.layout.now.sectors (vec_mem_bytes c.in_ok-map.map) c.in-Ok-is_in_form.in_form _ (parts.sectors ∙ sym long) bytes (λ is. c.in-Ok-is_in_form.ensures.yes (ap Ok is)) (λ is. c.in-Ok-is_in_form.ensures.no (ap Ok is))
    (returns-in-Ok-compare_names-clause-revealed g c d revealed are)

pub returns-in-Err-Broken-clause-agrees : goal.returns-in-Err-Broken-clause-agrees
returns-in-Err-Broken-clause-agrees g c = λ d revealed are. (λ never. absurd never, returns-in-Err-Broken-clause-revealed g c d revealed are (label_triples d))

pub returns-in-Ok-compare_names-clause-form : goal.returns-in-Ok-compare_names-clause-form
returns-in-Ok-compare_names-clause-form g c = λ d revealed are.
    let parts = of_layout c.args.layout.now (g.D.Disk.state c.args.disk.now).sectors c.requires.layout in
    let long : length d ≡ (g.D.Disk.state c.args.disk.now).sectors = g.met.D.Disk.whole c.args.disk.now d revealed in
    let bits : c.args.layout.now.vam ≡ vam (length d) = parts.bits ∙ ap vam (sym long) in
    let pages : c.args.layout.now.vfm ≡ vfm (length d) = parts.names ∙ ap vfm (sym long) in
    let bytes = c.in_ok-map.ensures.bytes d revealed ∙ ap (λ (n : ℕ). bytes_of d (1 + n) c.args.layout.now.vfm) bits ∙ ap (bytes_of d (1 + vam (length d))) pages in
    form_as_revealed d c.args.layout.now.sectors (vec_mem_bytes c.in_ok-map.map) c.in-Ok-is_in_form.in_form (parts.sectors ∙ sym long) bytes (λ is. c.in-Ok-is_in_form.ensures.yes (ap Ok is)) (λ is. c.in-Ok-is_in_form.ensures.no (ap Ok is))

pub returns-in-Err-Broken-clause-form : goal.returns-in-Err-Broken-clause-form
returns-in-Err-Broken-clause-form g c = λ d revealed are form. returns-in-Err-Broken-clause-revealed g c d revealed are (names_triple form.runs) (form_named d form)

pub returns-in-Ok-compare_names-clause-labelled : goal.returns-in-Ok-compare_names-clause-labelled
returns-in-Ok-compare_names-clause-labelled g c = λ d revealed.
    let parts = of_layout c.args.layout.now (g.D.Disk.state c.args.disk.now).sectors c.requires.layout in
    let long : length d ≡ (g.D.Disk.state c.args.disk.now).sectors = g.met.D.Disk.whole c.args.disk.now d revealed in
    let bits : c.args.layout.now.vam ≡ vam (length d) = parts.bits ∙ ap vam (sym long) in
    let pages : c.args.layout.now.vfm ≡ vfm (length d) = parts.names ∙ ap vfm (sym long) in
    subst (λ (n : ℕ). SaysNamed c.args.labelled.now c.read_pages.new.labelled d 2 (1 + vam (length d)) n) pages (subst (λ (n : ℕ). SaysNamed c.args.labelled.now c.read_pages.new.labelled d 2 (1 + n) c.args.layout.now.vfm) bits (c.in_ok-map.ensures.labels d revealed))

pub returns-in-Err-Broken-clause-labelled : goal.returns-in-Err-Broken-clause-labelled
returns-in-Err-Broken-clause-labelled g c = λ d revealed.
    let parts = of_layout c.args.layout.now (g.D.Disk.state c.args.disk.now).sectors c.requires.layout in
    let long : length d ≡ (g.D.Disk.state c.args.disk.now).sectors = g.met.D.Disk.whole c.args.disk.now d revealed in
    let bits : c.args.layout.now.vam ≡ vam (length d) = parts.bits ∙ ap vam (sym long) in
    let pages : c.args.layout.now.vfm ≡ vfm (length d) = parts.names ∙ ap vfm (sym long) in
    subst (λ (n : ℕ). SaysNamed c.args.labelled.now c.read_pages.new.labelled d 2 (1 + vam (length d)) n) pages (subst (λ (n : ℕ). SaysNamed c.args.labelled.now c.read_pages.new.labelled d 2 (1 + n) c.args.layout.now.vfm) bits (c.in_ok-map.ensures.labels d revealed))
