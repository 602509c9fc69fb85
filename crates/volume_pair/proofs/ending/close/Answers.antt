use Rattle.std.proofs.Common.{inr, ◌∙◌}
use Rattle.filer_kernel.specs.View.{accepted, disk_of, placed, view_of}
use Rattle.volume_pair.proofs.CrashStateLemmas.{quiet_then, same_then}
use Rattle.volume_pair.proofs.EndStateLemmas.{map_states, root_states}
use Rattle.volume_pair.proofs.EndLemmas.{has_closed, no_tables, own_then, swaps_own, valid_at, volume_written}
use Rattle.volume_pair.proofs.SideLemmas.{why_after}
use Rattle.volume_pair.proofs.ending.close.Goals as goal

pub returns-in-Err-clause-closed : goal.returns-in-Err-clause-closed
returns-in-Err-clause-closed g c = λ p y side root. c.in-Err.ensures.sound y side.stands

pub returns-in-Err-clause-writes : goal.returns-in-Err-clause-writes
returns-in-Err-clause-writes g c = swaps_own (view_of c.args.filer.now) (view_of c.sync_maps.new.filer) c.sync_maps.ensures.swaps

pub returns-in-Err-write_closed-clause-closed : goal.returns-in-Err-write_closed-clause-closed
returns-in-Err-write_closed-clause-closed g c = λ p y side root. c.in-Err-write_closed.ensures.fault

pub returns-in-Err-write_closed-clause-writes : goal.returns-in-Err-write_closed-clause-writes
returns-in-Err-write_closed-clause-writes g c = own_then (swaps_own (view_of c.args.filer.now) (view_of c.sync_maps.new.filer) c.sync_maps.ensures.swaps) c.write_closed.ensures.writes

pub returns-in-Err-write_closed-clause-why : goal.returns-in-Err-write_closed-clause-why
returns-in-Err-write_closed-clause-why g c = why_after c.sync_maps.ensures.swaps.makes.went.faults c.in-Err-write_closed.ensures.why

pub returns-in-Ok-sync_disk-clause-closed : goal.returns-in-Ok-sync_disk-clause-closed
returns-in-Ok-sync_disk-clause-closed g c = λ p y side root.
    let v = view_of c.args.filer.now in
    let w = view_of c.sync_maps.new.filer in
    let ready = volume_written v w p c.args.root y side root c.sync_maps.ensures.swaps c.in-Ok.ensures.clean (no_tables v p.to y side (placed c.args.filer.now) (accepted c.args.filer.now)) in
    let long = g.met.D.Disk.whole (disk_of c.sync_maps.new.filer) ready.sectors ready.revealed ∙ c.sync_maps.ensures.swaps.makes.went.sectors ∙ c.requires.size in
    has_closed p c.args.root w.disk ready (valid_at _ _ c.args.root long c.requires.valid) _ _ c.in-Ok-write_closed.ensures.made c.sync_disk.ensures.same.contents c.in-Ok-sync_disk.ensures.synced

pub returns-in-Ok-sync_disk-clause-writes : goal.returns-in-Ok-sync_disk-clause-writes
returns-in-Ok-sync_disk-clause-writes g c = own_then (own_then (swaps_own (view_of c.args.filer.now) (view_of c.sync_maps.new.filer) c.sync_maps.ensures.swaps) c.write_closed.ensures.writes) (swaps_own (view_of c.write_closed.new.filer) (view_of c.sync_disk.new.filer) c.sync_disk.ensures.swaps)

pub returns-in-Err-sync_disk-clause-closed : goal.returns-in-Err-sync_disk-clause-closed
returns-in-Err-sync_disk-clause-closed g c = λ p y side root. c.in-Err-sync_disk.ensures.fault

pub returns-in-Err-sync_disk-clause-writes : goal.returns-in-Err-sync_disk-clause-writes
returns-in-Err-sync_disk-clause-writes g c = own_then (own_then (swaps_own (view_of c.args.filer.now) (view_of c.sync_maps.new.filer) c.sync_maps.ensures.swaps) c.write_closed.ensures.writes) (swaps_own (view_of c.write_closed.new.filer) (view_of c.sync_disk.new.filer) c.sync_disk.ensures.swaps)

pub returns-in-Err-sync_disk-clause-why : goal.returns-in-Err-sync_disk-clause-why
returns-in-Err-sync_disk-clause-why g c = why_after (own_then (swaps_own (view_of c.args.filer.now) (view_of c.sync_maps.new.filer) c.sync_maps.ensures.swaps) c.write_closed.ensures.writes).makes.went.faults c.in-Err-sync_disk.ensures.why

-- ---- In each crash state.

pub returns-in-Err-clause-crash_states : goal.returns-in-Err-clause-crash_states
returns-in-Err-clause-crash_states g c = λ p y side root.
    map_states (view_of c.args.filer.now) (view_of c.sync_maps.new.filer) p c.args.root y side root (record { makes = c.sync_maps.ensures.swaps.makes; layout = c.sync_maps.ensures.layout })

pub returns-in-Err-write_closed-clause-crash_states : goal.returns-in-Err-write_closed-clause-crash_states
returns-in-Err-write_closed-clause-crash_states g c = λ p y side root.
    let v = view_of c.args.filer.now in
    let w = view_of c.sync_maps.new.filer in
    let first = map_states v w p c.args.root y side root (record { makes = c.sync_maps.ensures.swaps.makes; layout = c.sync_maps.ensures.layout }) in
    let ready = volume_written v w p c.args.root y side root c.sync_maps.ensures.swaps c.in-Ok.ensures.clean (no_tables v p.to y side (placed c.args.filer.now) (accepted c.args.filer.now)) in
    let long = g.met.D.Disk.whole (disk_of c.sync_maps.new.filer) ready.sectors ready.revealed ∙ c.sync_maps.ensures.swaps.makes.went.sectors ∙ c.requires.size in
    let second = root_states p c.args.root w.disk ready (valid_at _ _ c.args.root long c.requires.valid) (view_of c.write_closed.new.filer).disk c.in-Err-write_closed.ensures.made in
    quiet_then first second (λ i e is. is) (λ i e is. is)

pub returns-in-Ok-sync_disk-clause-crash_states : goal.returns-in-Ok-sync_disk-clause-crash_states
returns-in-Ok-sync_disk-clause-crash_states g c = λ p y side root.
    let v = view_of c.args.filer.now in
    let w = view_of c.sync_maps.new.filer in
    let first = map_states v w p c.args.root y side root (record { makes = c.sync_maps.ensures.swaps.makes; layout = c.sync_maps.ensures.layout }) in
    let ready = volume_written v w p c.args.root y side root c.sync_maps.ensures.swaps c.in-Ok.ensures.clean (no_tables v p.to y side (placed c.args.filer.now) (accepted c.args.filer.now)) in
    let long = g.met.D.Disk.whole (disk_of c.sync_maps.new.filer) ready.sectors ready.revealed ∙ c.sync_maps.ensures.swaps.makes.went.sectors ∙ c.requires.size in
    let second = root_states p c.args.root w.disk ready (valid_at _ _ c.args.root long c.requires.valid) (view_of c.write_closed.new.filer).disk (inr c.in-Ok-write_closed.ensures.made) in
    same_then (quiet_then first second (λ i e is. is) (λ i e is. is)) c.sync_disk.ensures.same

pub returns-in-Err-sync_disk-clause-crash_states : goal.returns-in-Err-sync_disk-clause-crash_states
returns-in-Err-sync_disk-clause-crash_states g c = λ p y side root.
    let v = view_of c.args.filer.now in
    let w = view_of c.sync_maps.new.filer in
    let first = map_states v w p c.args.root y side root (record { makes = c.sync_maps.ensures.swaps.makes; layout = c.sync_maps.ensures.layout }) in
    let ready = volume_written v w p c.args.root y side root c.sync_maps.ensures.swaps c.in-Ok.ensures.clean (no_tables v p.to y side (placed c.args.filer.now) (accepted c.args.filer.now)) in
    let long = g.met.D.Disk.whole (disk_of c.sync_maps.new.filer) ready.sectors ready.revealed ∙ c.sync_maps.ensures.swaps.makes.went.sectors ∙ c.requires.size in
    let second = root_states p c.args.root w.disk ready (valid_at _ _ c.args.root long c.requires.valid) (view_of c.write_closed.new.filer).disk (inr c.in-Ok-write_closed.ensures.made) in
    same_then (quiet_then first second (λ i e is. is) (λ i e is. is)) c.sync_disk.ensures.same
