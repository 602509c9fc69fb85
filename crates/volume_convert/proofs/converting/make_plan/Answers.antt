use Rattle.std.proofs.Common.{◌≡◌, ℕ, ◌≤◌, List, length, Result, Ok, Err, IfOk, OnOk, ◌∙◌, sym, ap, subst}
use Rattle.labelled_disk.specs.File.{total_room}
use Rattle.labelled_disk.specs.Layout.{capacity}
use Rattle.labelled_disk.specs.Sectors.{Sector}
use Rattle.scavenger.proofs.LayoutLemmas.{of_layout}
use Rattle.old_files.specs.OldFiles.{files_old}
use Rattle.volume_convert.proofs.LoopLemmas.{if_ok_then}
use Rattle.volume_convert.proofs.converting.make_plan.Goals as goal

pub returns-clause-planned : goal.returns-clause-planned
returns-clause-planned g c = if_ok_then c.of.result c.of.ensures.planned (λ conversion each d revealed is.
    let parts = of_layout c.args.layout.now (g.D.Disk.state c.args.disk.now).sectors c.requires.layout in
    each d (record { sectors = g.met.D.Disk.whole c.args.disk.now d revealed ∙ sym parts.sectors; are = c.in-Ok-read_labels.ensures.labels d revealed }) (g.met.D.Disk.in_form c.args.disk.now d revealed) is)

on_ok : {T E : Type 0} (P : Type 0) (r : Result T E) → IfOk r (λ x. P) → OnOk r P
on_ok P (Ok x) holds = holds
on_ok P (Err e) holds = holds

pub returns-clause-room : goal.returns-clause-room
returns-clause-room g c =
    let parts = of_layout c.args.layout.now (g.D.Disk.state c.args.disk.now).sectors c.requires.layout in
    record {
      wants = λ wanted room is. let u = c.of.ensures.unfit wanted room is in (u.0 ∙ ap capacity parts.sectors, u.1);
      unfit = λ wanted room is d revealed. (c.of.ensures.unfit wanted room is).2 d (record { sectors = g.met.D.Disk.whole c.args.disk.now d revealed ∙ sym parts.sectors; are = c.in-Ok-read_labels.ensures.labels d revealed });
      fits = λ d revealed.
          let whole = g.met.D.Disk.whole c.args.disk.now d revealed in
          on_ok (total_room (files_old d) ≤ capacity (length d)) c.of.result (if_ok_then c.of.result c.of.ensures.room (λ conversion each.
          subst (λ (n : ℕ). total_room (files_old d) ≤ capacity n) (parts.sectors ∙ sym whole)
          (each d (record { sectors = whole ∙ sym parts.sectors; are = c.in-Ok-read_labels.ensures.labels d revealed }))));
    }
