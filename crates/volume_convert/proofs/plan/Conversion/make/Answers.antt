use Rattle.std.proofs.Common.{◌<◌, ◌^◌, ◌∙◌, List, rules, arith, length, sym, ap, subst, ◌++◌, take, drop}
use Rattle.labelled_disk.specs.declared.label.Label.{Label}
use Rattle.label_survey.specs.declared.sector_state.SectorState.{SectorState}
use Rattle.volume_root.specs.declared.root.Root.{Root}
use Rattle.scavenger.specs.Orders.{AreFor}
use Rattle.scavenger.specs.Plan.{orders}
use Rattle.scavenger.specs.Stays.{HasLabels}
use Rattle.scavenger.proofs.LayoutLemmas.{of_layout}
use Rattle.volume_convert.specs.declared.heads.Head.{Head}
use Rattle.volume_convert.specs.Heads.{leaders_by}
use Rattle.volume_convert.specs.Settled.{settled_label_at, settled_sector_states}
use Rattle.volume_convert.proofs.PlannedLemmas.{planned_for, stand_for, heads_moved, settled_items}
use Rattle.volume_convert.proofs.SettledLemmas.{made_long}
use Rattle.volume_convert.proofs.plan.Conversion.make.Goals as goal

pub of-requires-clause-all : goal.of-requires-clause-all
of-requires-clause-all g c =
    ap (λ (ls : List Label). length ls) (settled_items c.args.labels.len c.args.labels.items c.deref_mut.result.now c.arrange_labels.new.labels c.args.sector_states.items c.deref-4.result.now c.in_ok-heads.heads.items c.deref-5.result.now
    (sym c.deref_mut.ensures.len) c.deref_mut.ensures.value c.deref-4.ensures.value c.deref-5.ensures.value c.arrange_labels.ensures)
    ∙ made_long (settled_label_at c.args.labels.items c.args.sector_states.items (leaders_by c.in_ok-heads.heads.items)) 0 (length c.args.labels.items)
    ∙ c.requires.all

pub of-requires-clause-sector_states : goal.of-requires-clause-sector_states
of-requires-clause-sector_states g c =
    stand_for c.args.layout.now.sectors c.args.labels.items c.args.sector_states.items c.in_ok-heads.heads.items c.requires.counted c.requires.same_length (heads_moved c.args.labels.items c.deref.result.now c.args.sector_states.items c.deref-2.result.now c.in_ok-heads.heads.items c.deref.ensures.value c.deref-2.ensures.value c.in_ok-heads.ensures)
    c.requires.sector_states c.args.revealed c.requires.revealed c.requires.room (take c.args.labels.len (c.arrange_labels.new.labels ++ drop (length c.arrange_labels.new.labels) c.args.labels.items)) c.in_ok-settled.settled.items c.len.result (settled_items c.args.labels.len c.args.labels.items c.deref_mut.result.now c.arrange_labels.new.labels c.args.sector_states.items c.deref-4.result.now c.in_ok-heads.heads.items c.deref-5.result.now
    (sym c.deref_mut.ensures.len) c.deref_mut.ensures.value c.deref-4.ensures.value c.deref-5.ensures.value c.arrange_labels.ensures) (c.in_ok-settled.ensures ∙ ap (λ (xs : List SectorState). settled_sector_states xs c.len.result) c.deref-3.ensures.value)
    (c.len.ensures ∙ sym c.deref-5.ensures.len ∙ ap (λ (hs : List Head). length hs) c.deref-5.ensures.value)

pub returns-clause-fit : goal.returns-clause-fit
returns-clause-fit g c = record {
  sized = c.in_ok-maps.ensures.sized;
  sector_states = c.requires.same_length ∙ c.requires.all;
  counter = (let counter = ap (λ (r : Root). r.counter) c.today.ensures in omega (arith, counter, c.in_ok-maps.ensures.counter));
}

pub returns-clause-planned : goal.returns-clause-planned
returns-clause-planned g c = λ d has form read.
    let parts = of_layout c.args.layout.now c.args.layout.now.sectors c.requires.layout in
    let serial : c.today.result.serial < 2 ^ 32 = search rules in
    let counter : c.today.result.counter < 2 ^ 32 = search rules in
    let same_serial = ap (λ (r : Root). r.serial) c.today.ensures in
    let same_counter = ap (λ (r : Root). r.counter) c.today.ensures in
    planned_for c.args.layout.now.sectors c.args.labels.items c.args.root.now c.args.layout.now.first
    (record { sector_states = c.args.sector_states; heads = c.in_ok-heads.heads; maps = c.in_ok-maps.maps; revealed = c.args.revealed })
    c.requires.counted c.requires.valid c.requires.same_length (heads_moved c.args.labels.items c.deref.result.now c.args.sector_states.items c.deref-2.result.now c.in_ok-heads.heads.items c.deref.ensures.value c.deref-2.ensures.value c.in_ok-heads.ensures) parts.first d has form (c.requires.sector_states d has) (c.requires.revealed d has) c.requires.room read
    (λ e e_has root. subst (λ (r : Root). AreFor e (orders r c.args.layout.now.first c.in_ok-maps.maps)) c.today.ensures
    (c.in_ok-maps.ensures.plan e (subst (λ (ls : List Label). HasLabels e c.args.layout.now.sectors ls) (sym (settled_items c.args.labels.len c.args.labels.items c.deref_mut.result.now c.arrange_labels.new.labels c.args.sector_states.items c.deref-4.result.now c.in_ok-heads.heads.items c.deref-5.result.now
    (sym c.deref_mut.ensures.len) c.deref_mut.ensures.value c.deref-4.ensures.value c.deref-5.ensures.value c.arrange_labels.ensures)) e_has) (c.today.ensures ∙ root)))
    (omega (arith, serial, same_serial)) (omega (arith, counter, same_counter))
