use Rattle.std.proofs.Common.{rules, ◌≡◌, ap, false}
use Rattle.std.specs.Prelude.{is_err}
use Rattle.labelled_disk.specs.declared.disk.DiskWrite.TheVariants as write
use Rattle.write_queue.specs.Queue.{view_of}
use Rattle.write_queue.specs.View.{View}
use Rattle.disk_callers.proofs.SettledLemmas.{stands_settled}
use Rattle.disk_callers.proofs.settled.sync_label.Goals as goal

pub returns : goal.returns
returns g c is =
    let view = c.in-Ok.ensures.view in
    let done : is_err c.write_label-answer.result ≡ false = search rules in
    rw (c.into_disk-2.ensures.disk)
    (stands_settled (write.LabelOnly c.args.sector c.args.label.now) (g.D.Disk.state c.args.disk) (view_of c.in-Ok.queue) (view_of c.write_label-answer.new.self) (view_of c.sync-settled.new.self)
    c.write_label-answer.result c.sync-settled.result (ap (λ (v : View). v.waiting) view) (ap (λ (v : View). v.beneath) view) c.write_label-answer.ensures.beneath done
    c.sync-settled.ensures.beneath c.sync-settled.ensures.synced is)
