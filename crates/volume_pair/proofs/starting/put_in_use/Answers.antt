use Rattle.std.proofs.Common.{◌∙◌, rules, subst, sym, arith}
use Rattle.swapper_kernel.proofs.PlacedLemmas.{parts}
use Rattle.swapper_kernel.specs.declared.manager.Manager.TheVariants.{AllocationMap}
use Rattle.swapper_kernel.specs.Maps.{IsMapHome}
use Rattle.filer_kernel.specs.EvidenceLaws.{fits, map_homes_placed, so_of_halts}
use Rattle.filer_kernel.specs.View.{accepted, disk_of, swapper_of, view_of}
use Rattle.file_manager.proofs.Faults.{counted}
use Rattle.volume_pair.specs.Ends.{in_use}
use Rattle.volume_pair.specs.Sides.{AreClean}
use Rattle.volume_pair.proofs.CrashStateLemmas.{same_then}
use Rattle.volume_pair.proofs.EndLemmas.{own_then, swaps_own}
use Rattle.volume_pair.proofs.EndStateLemmas.{in_use_as, may_made_states, root_made_states}
use Rattle.volume_pair.proofs.SideLemmas.{clean_still, looked_same, why_after}
use Rattle.volume_pair.proofs.StartLemmas.{bare_clean, bits, is_started, made_in_use, map_named, marks, opened, opened_stands}
use Rattle.volume_pair.proofs.starting.put_in_use.Goals as goal

pub used_of-requires-clause-first : goal.used_of-requires-clause-first
used_of-requires-clause-first g c = rw c.requires.same_layout (parts (view_of c.args.filer.now).layout (accepted c.args.filer.now)).1

pub returns-in-Err-clause-started : goal.returns-in-Err-clause-started
returns-in-Err-clause-started g c = λ d revealed sound same. c.in-Err.ensures.fault

pub returns-in-Err-free_count-clause-started : goal.returns-in-Err-free_count-clause-started
returns-in-Err-free_count-clause-started g c = λ d revealed sound same.
    let v = view_of c.args.filer.now in
    let is = accepted c.args.filer.now in
    let none = c.requires.fresh.1 v.layout.sectors in
    let sectors = g.met.D.Disk.in_form (disk_of c.args.filer.now) d revealed in
    let long = g.met.D.Disk.whole (disk_of c.args.filer.now) d revealed ∙ c.requires.size in
    let made = made_in_use (in_use c.args.root) v.slots d c.requires.fresh.0 revealed (rw c.in_use-root.ensures.root at c.in-Ok.ensures.made) in
    let d1 = (view_of c.write_in_use.new.filer).disk in
    let form = g.met.D.Disk.in_form (disk_of c.write_in_use.new.filer) in
    (rw (c.write_in_use.ensures.stays.frames, c.write_in_use.ensures.stays.layout) at c.in-Err-free_count.ensures.sound) (opened d sectors sound v.layout is long c.args.root same v.slots c.requires.fresh.0 c.args.filer.now.runs none d1 form made)
    (opened_stands d sectors sound v.layout is long c.args.root same v.slots c.requires.fresh.0 c.args.filer.now.runs none d1 form made) (map_named d sectors sound v.layout is long c.args.root same v.slots c.requires.fresh.0 c.args.filer.now.runs none d1 form made)

pub returns-in-Err-free_count-clause-writes : goal.returns-in-Err-free_count-clause-writes
returns-in-Err-free_count-clause-writes g c = own_then c.write_in_use.ensures.writes (swaps_own (view_of c.write_in_use.new.filer) (view_of c.free_count.new.self) c.free_count.ensures.looked.swaps)

pub returns-in-Err-free_count-clause-why : goal.returns-in-Err-free_count-clause-why
returns-in-Err-free_count-clause-why g c =
    let u = view_of c.write_in_use.new.filer in
    why_after {v = u} c.write_in_use.ensures.writes.makes.went.faults (record {
      counted = counted _ _ u.disk (view_of c.free_count.new.self).disk _ (omega arith) c.in-Err-free_count.ensures.cause;
      evidence_seen = so_of_halts (fits (swapper_of c.write_in_use.new.filer) (search rules)) c.free_count.ensures.looked.swaps.makes c.in-Err-free_count.halt (IsMapHome AllocationMap u.layout) (map_homes_placed AllocationMap u.layout) c.in-Err-free_count.ensures.cause;
    })

pub returns-in-Ok-free_count-clause-started : goal.returns-in-Ok-free_count-clause-started
returns-in-Ok-free_count-clause-started g c = λ d revealed sound same.
    let v = view_of c.args.filer.now in
    let is = accepted c.args.filer.now in
    let none = c.requires.fresh.1 v.layout.sectors in
    let sectors = g.met.D.Disk.in_form (disk_of c.args.filer.now) d revealed in
    let long = g.met.D.Disk.whole (disk_of c.args.filer.now) d revealed ∙ c.requires.size in
    let made = made_in_use (in_use c.args.root) v.slots d c.requires.fresh.0 revealed (rw c.in_use-root.ensures.root at c.in-Ok.ensures.made) in
    let d1 = (view_of c.write_in_use.new.filer).disk in
    let form = g.met.D.Disk.in_form (disk_of c.write_in_use.new.filer) in
    let x = opened d sectors sound v.layout is long c.args.root same v.slots c.requires.fresh.0 c.args.filer.now.runs none d1 form made in
    let now = opened_stands d sectors sound v.layout is long c.args.root same v.slots c.requires.fresh.0 c.args.filer.now.runs none d1 form made in
    let marked = marks d sectors sound v.layout is long c.args.root same v.slots c.requires.fresh.0 c.args.filer.now.runs none d1 form made in
    let bit = bits d sectors sound v.layout is long c.args.root same v.slots c.requires.fresh.0 c.args.filer.now.runs none d1 form made in
    let beside = rw (c.write_in_use.ensures.stays.frames, c.write_in_use.ensures.stays.layout) at c.free_count.ensures.kept in
    let still = (rw (c.write_in_use.ensures.stays.frames, c.write_in_use.ensures.stays.layout) at c.free_count.ensures.same) x marked now bit in
    let count = (rw (c.write_in_use.ensures.stays.frames, c.write_in_use.ensures.stays.layout) at c.in-Ok-free_count.ensures.count) x marked now bit in
    let used = rw c.requires.same_layout at c.used_of.ensures in
    is_started d sectors sound v.layout is long c.args.root same v.slots c.requires.fresh.0 c.args.filer.now.runs none d1 form made (view_of c.free_count.new.self) beside still (c.free_count.ensures.runs ∙ c.write_in_use.ensures.stays.runs) _ c.in-Ok-free_count.free count used

pub returns-in-Ok-free_count-clause-writes : goal.returns-in-Ok-free_count-clause-writes
returns-in-Ok-free_count-clause-writes g c = own_then c.write_in_use.ensures.writes (swaps_own (view_of c.write_in_use.new.filer) (view_of c.free_count.new.self) c.free_count.ensures.looked.swaps)

-- ---- In each crash state.

pub returns-in-Err-clause-crash_states : goal.returns-in-Err-clause-crash_states
returns-in-Err-clause-crash_states g c = λ d revealed sound same.
    let v = view_of c.args.filer.now in
    let sectors = g.met.D.Disk.in_form (disk_of c.args.filer.now) d revealed in
    may_made_states d sectors sound c.args.root same v.disk (view_of c.write_in_use.new.filer).disk v.slots revealed c.requires.fresh.0 (rw c.in_use-root.ensures.root at c.in-Err.ensures.made)

pub returns-in-Err-free_count-clause-crash_states : goal.returns-in-Err-free_count-clause-crash_states
returns-in-Err-free_count-clause-crash_states g c = λ d revealed sound same.
    let v = view_of c.args.filer.now in
    let u = view_of c.write_in_use.new.filer in
    let sectors = g.met.D.Disk.in_form (disk_of c.args.filer.now) d revealed in
    let made = root_made_states d sectors sound c.args.root same v.disk u.disk v.slots v.slots revealed c.requires.fresh.0 (rw c.in_use-root.ensures.root at c.in-Ok.ensures.made).makes in
    let still : AreClean u.slots = subst AreClean (sym c.write_in_use.ensures.stays.frames) (bare_clean v.slots c.requires.fresh.0) in
    same_then made (looked_same {v = u} {w = view_of c.free_count.new.self} still (record { makes = c.free_count.ensures.looked.swaps.makes; layout = c.free_count.ensures.looked.layout }))

pub returns-in-Ok-free_count-clause-crash_states : goal.returns-in-Ok-free_count-clause-crash_states
returns-in-Ok-free_count-clause-crash_states g c = λ d revealed sound same.
    let v = view_of c.args.filer.now in
    let u = view_of c.write_in_use.new.filer in
    let sectors = g.met.D.Disk.in_form (disk_of c.args.filer.now) d revealed in
    let made = root_made_states d sectors sound c.args.root same v.disk u.disk v.slots v.slots revealed c.requires.fresh.0 (rw c.in_use-root.ensures.root at c.in-Ok.ensures.made).makes in
    let still : AreClean u.slots = subst AreClean (sym c.write_in_use.ensures.stays.frames) (bare_clean v.slots c.requires.fresh.0) in
    same_then made (looked_same {v = u} {w = view_of c.free_count.new.self} still (record { makes = c.free_count.ensures.looked.swaps.makes; layout = c.free_count.ensures.looked.layout }))

-- ---- The volume is in use, over any contents.

pub returns-in-Ok-free_count-clause-in_use : goal.returns-in-Ok-free_count-clause-in_use
returns-in-Ok-free_count-clause-in_use g c = λ d e revealed same now.
    let v = view_of c.args.filer.now in
    let u = view_of c.write_in_use.new.filer in
    let long = g.met.D.Disk.whole (disk_of c.args.filer.now) d revealed ∙ c.requires.size in
    let least = (accepted c.args.filer.now).0.0 in
    let still : AreClean u.slots = subst AreClean (sym c.write_in_use.ensures.stays.frames) (bare_clean v.slots c.requires.fresh.0) in
    in_use_as c.args.root c.in_use-root.ensures.serial c.in_use-root.ensures.counter c.requires.fresh.0 (rw c.in_use-root.ensures.root at c.in-Ok.ensures.made).makes
    (looked_same {v = u} {w = view_of c.free_count.new.self} still (record { makes = c.free_count.ensures.looked.swaps.makes; layout = c.free_count.ensures.looked.layout })) d e (omega (arith, long, least)) revealed same now

pub returns-in-Ok-free_count-clause-clean : goal.returns-in-Ok-free_count-clause-clean
returns-in-Ok-free_count-clause-clean g c =
    let v = view_of c.args.filer.now in
    let u = view_of c.write_in_use.new.filer in
    let still : AreClean u.slots = subst AreClean (sym c.write_in_use.ensures.stays.frames) (bare_clean v.slots c.requires.fresh.0) in
    clean_still {v = u} {w = view_of c.free_count.new.self} still (record { makes = c.free_count.ensures.looked.swaps.makes; layout = c.free_count.ensures.looked.layout })
