use Rattle.std.proofs.Common.{◌≡◌, ◌∙◌, length, refl, sym, ap, subst}
use Rattle.labelled_disk.specs.Layout.{IsCount, layout_of, first_data}
use Rattle.labelled_disk.proofs.CallLemmas.{only_reads_then}
use Rattle.volume_view.proofs.LayoutLemmas.{of_layout}
use Rattle.volume_view.proofs.PageLemmas.{maps_named}
use Rattle.volume_view.proofs.LookLemmas.{labels_cost, bits_cost, names_cost, labels_all, bits_all, names_all}
use Rattle.volume_view.proofs.view.look_inside.Goals as goal

pub returns-in_err-labels-clause-cost : goal.returns-in_err-labels-clause-cost
returns-in_err-labels-clause-cost g c =
    let n = (g.D.Disk.state c.args.disk.now).sectors in
    labels_all n c.requires.counted (labels_cost n c.requires.counted refl c.root_of.ensures.cost c.labels_of.ensures.cost)

pub returns-in_default-clone-clause-cost : goal.returns-in_default-clone-clause-cost
returns-in_default-clone-clause-cost g c =
    let n = (g.D.Disk.state c.args.disk.now).sectors in
    labels_all n c.requires.counted (labels_cost n c.requires.counted refl c.root_of.ensures.cost c.labels_of.ensures.cost)

pub returns-in_default-find_files-clause-cost : goal.returns-in_default-find_files-clause-cost
returns-in_default-find_files-clause-cost g c =
    let n = (g.D.Disk.state c.args.disk.now).sectors in
    labels_all n c.requires.counted (labels_cost n c.requires.counted refl c.root_of.ensures.cost c.labels_of.ensures.cost)

pub returns-in_default-clone-2-clause-cost : goal.returns-in_default-clone-2-clause-cost
returns-in_default-clone-2-clause-cost g c =
    let n = (g.D.Disk.state c.args.disk.now).sectors in
    labels_all n c.requires.counted (labels_cost n c.requires.counted refl c.root_of.ensures.cost c.labels_of.ensures.cost)

pub returns-in_err-bits-clause-cost : goal.returns-in_err-bits-clause-cost
returns-in_err-bits-clause-cost g c =
    let n = (g.D.Disk.state c.args.disk.now).sectors in
    bits_all n c.requires.counted (bits_cost n c.requires.counted refl (labels_cost n c.requires.counted refl c.root_of.ensures.cost c.labels_of.ensures.cost) c.look_at_bits.ensures.cost)

pub returns-in_err-names-clause-cost : goal.returns-in_err-names-clause-cost
returns-in_err-names-clause-cost g c =
    let n = (g.D.Disk.state c.args.disk.now).sectors in
    names_all n c.requires.counted
    (names_cost n c.requires.counted refl (bits_cost n c.requires.counted refl (labels_cost n c.requires.counted refl c.root_of.ensures.cost c.labels_of.ensures.cost) c.look_at_bits.ensures.cost) c.look_at_names.ensures.cost)

pub returns-clause-cost : goal.returns-clause-cost
returns-clause-cost g c =
    let n = (g.D.Disk.state c.args.disk.now).sectors in
    names_all n c.requires.counted
    (names_cost n c.requires.counted refl (bits_cost n c.requires.counted refl (labels_cost n c.requires.counted refl c.root_of.ensures.cost c.labels_of.ensures.cost) c.look_at_bits.ensures.cost) c.look_at_names.ensures.cost)

pub returns-clause-view : goal.returns-clause-view
returns-clause-view g c = λ d revealed.
    let n = (g.D.Disk.state c.args.disk.now).sectors in
    let parts = of_layout c.args.layout n c.requires.layout in
    let long : length d ≡ n = g.met.D.Disk.whole c.args.disk.now d revealed in
    let from : c.args.layout.first ≡ first_data (length d) = parts.first ∙ ap first_data (sym long) in
    let one = c.root_of.ensures.cost.only in
    let two = only_reads_then one c.labels_of.ensures.cost.only in
    let three = only_reads_then two c.look_at_bits.ensures.cost.only in
    let are = c.in_ok-labels.ensures.labels d (one.contents ∙ revealed) in
    let names = c.in_ok-names.ensures.revealed d (three.contents ∙ revealed) (c.deref-3.ensures.value ∙ are) in
    let marks = c.in_ok-bits.ensures.labelled d (two.contents ∙ revealed) in
    let pages = c.in_ok-names.ensures.labelled d (three.contents ∙ revealed) in
    record {
      counted = subst IsCount (sym long) c.requires.counted;
      layout = c.requires.layout ∙ ap layout_of (sym long);
      maps_labelled = maps_named d (length d) c.look_at_bits.new.labelled c.look_at_names.new.labelled marks pages;
      root = λ s here. c.in_ok-root.ensures.root d revealed s here;
      labels = are;
      found = c.in-Ok-find_files.ensures d from (c.deref.ensures.value ∙ are);
      bits = c.in_ok-bits.ensures.bits d (two.contents ∙ revealed) (c.deref-2.ensures.value ∙ are);
      names = names;
      form = c.in_ok-names.ensures.form d (three.contents ∙ revealed) (c.deref-3.ensures.value ∙ are);
      agrees = c.in_ok-names.ensures.agrees d (three.contents ∙ revealed) (c.deref-3.ensures.value ∙ are);
      alike = c.in_ok-names.ensures.alike d (three.contents ∙ revealed) (c.deref-3.ensures.value ∙ are);
    }
