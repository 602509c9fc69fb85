use Rattle.std.proofs.Common.{◌≡◌, ℕ, ◌+◌, ◌-◌, List, ◌++◌, ◌∷◌, [], length, map, take, drop, sym, ◌∙◌, ap, subst, arith}
use Rattle.labelled_disk.specs.declared.label.Label.{Label}
use Rattle.labelled_disk.specs.Layout.{first_data}
use Rattle.labelled_disk.specs.Sectors.{Sector}
use Rattle.labelled_disk.proofs.CallLemmas.{reads_one, reads_at_most_then, reads_at_most_wider}
use Rattle.label_survey.proofs.ScanLemmas.{scanned_more, scanned_all, of_layout, first_within, pushed_length}
use Rattle.label_survey.proofs.reading.read_labels.Goals as goal

pub returns-in_default-read-clause-cost : goal.returns-in_default-read-clause-cost
returns-in_default-read-clause-cost g c =
    let parts = of_layout c.args.layout.now (g.D.Disk.state c.args.disk.now).sectors c.requires.layout in
    reads_at_most_wider (omega (arith, parts.0, parts.1, c.loop-sector-test.true, c.loop-sector.auto.sector)) (reads_at_most_then c.loop-sector.invariant.cost (reads_one c.read.ensures))

pub loop-sector-preserved : goal.loop-sector-preserved
loop-sector-preserved g c =
    let parts = of_layout c.args.layout.now (g.D.Disk.state c.args.disk.now).sectors c.requires.layout in
    let so_far = c.loop-sector.invariant in
    record {
      cost = reads_at_most_wider (omega (arith, c.loop-sector.auto.sector)) (reads_at_most_then so_far.cost (reads_one c.read.ensures));
      len = omega (arith, so_far.len, c.in-Ok-push.ensures.len, c.loop-sector.auto.sector);
      count = omega (arith, so_far.count, ap length c.in-Ok-push.ensures.items, pushed_length c.loop-sector.labels.items c.in-Ok-read.label, c.loop-sector.auto.sector);
      room = omega (arith, so_far.room, c.push.ensures.capacity);
      revealed = λ d revealed.
          let at = c.in-Ok-read.ensures.found d (so_far.cost.only.contents ∙ revealed) in
          let long : length d ≡ (g.D.Disk.state c.args.disk.now).sectors = g.met.D.Disk.whole c.args.disk.now d revealed in
          let from : first_data (length d) ≡ c.args.layout.now.first = ap first_data long ∙ sym parts.1 in
          c.in-Ok-push.ensures.items
          ∙ ap (λ (l : List Label). l ++ c.in-Ok-read.label ∷ []) (so_far.revealed d revealed)
          ∙ subst (λ (n : ℕ). map (λ (s : Sector). s.0) (take (c.loop-sector.sector - c.args.layout.now.first) (drop n d)) ++ c.in-Ok-read.label ∷ []
          ≡ map (λ (s : Sector). s.0) (take (c.loop-sector.sector + 1 - c.args.layout.now.first) (drop n d))) (sym from)
          (sym (scanned_more (λ (s : Sector). s.0) d c.args.layout.now.first c.loop-sector.sector (c.in-Ok-read.label, c.read.new.page) (omega (arith, c.loop-sector.auto.sector)) at));
    }

pub returns-clause-labels : goal.returns-clause-labels
returns-clause-labels g c = λ d revealed.
    let parts = of_layout c.args.layout.now (g.D.Disk.state c.args.disk.now).sectors c.requires.layout in
    let long : length d ≡ (g.D.Disk.state c.args.disk.now).sectors = g.met.D.Disk.whole c.args.disk.now d revealed in
    let from : first_data (length d) ≡ c.args.layout.now.first = ap first_data long ∙ sym parts.1 in
    c.loop-sector.invariant.revealed d revealed
    ∙ scanned_all (λ (s : Sector). s.0) d (first_data (length d)) (c.loop-sector.sector - c.args.layout.now.first) (omega (arith, long, from, parts.0, c.loop-sector-test.false))

pub returns-clause-all : goal.returns-clause-all
returns-clause-all g c =
    let parts = of_layout c.args.layout.now (g.D.Disk.state c.args.disk.now).sectors c.requires.layout in
    omega (arith, c.loop-sector.invariant.count, parts.0, parts.1, c.loop-sector-test.false, c.loop-sector.auto.sector-end, first_within (g.D.Disk.state c.args.disk.now).sectors c.requires.counted)

pub returns-clause-cost : goal.returns-clause-cost
returns-clause-cost g c =
    let parts = of_layout c.args.layout.now (g.D.Disk.state c.args.disk.now).sectors c.requires.layout in
    reads_at_most_wider (omega (arith, parts.0, parts.1, c.loop-sector.auto.sector, c.loop-sector.auto.sector-end, first_within (g.D.Disk.state c.args.disk.now).sectors c.requires.counted)) c.loop-sector.invariant.cost
