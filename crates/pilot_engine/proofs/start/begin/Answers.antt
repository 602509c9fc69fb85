use Rattle.std.proofs.Common.{◌≡◌, ◌+◌, length, ◌<◌, ◌≤◌, ◌-◌, min, [], ◌∷◌, refl, ◌∙◌, subst, inl, inr, rules, ◌++◌, sym, arith}
use Rattle.volume_root.specs.declared.root.Root.{Root}
use Rattle.labelled_disk.specs.FilesOn.{files_on}
use Rattle.flat_machine.specs.Space.{root}
use Rattle.session_words.specs.Parts.{shapes_of}
use Rattle.file_manager.specs.declared.volume.Volume.{Volume}
use Rattle.swapper_kernel.proofs.PlacedLemmas.{parts}
use Rattle.volume_root.specs.RootPage.{root_write}
use Rattle.pilot_engine.specs.Opening.{IsBare, in_use}
use Rattle.pilot_engine.proofs.StartStands.{bare_stands, opened, opened_stands, marks, bits, map_named, free_are, may_begin, session_begun}
use Rattle.pilot_engine.proofs.StartWrites.{root_some, count_some, tables_some, tables_all}
use Rattle.swapper_kernel.specs.declared.manager.Manager.TheVariants.{AllocationMap}
use Rattle.filer_kernel.specs.EvidenceLaws.{fits, map_homes_placed, so_of_halts}
use Rattle.file_manager.proofs.RunLeads.{map_makes}
use Rattle.pilot_engine.proofs.UnsetLemmas.{leaves_open, unset_open, unset_root}
use Rattle.pilot_engine.proofs.StartWrites.{first_made}
use Rattle.running_words.proofs.FlagLemmas.{growth_open, take_open}
use Rattle.labelled_disk.specs.Runs.{growth}
use Rattle.filer_kernel.specs.View.{accepted, disk_of, swapper_of, TablesAre, view_of}
use Rattle.pilot_engine.proofs.BeginLemmas.{rooted}
use Rattle.labelled_disk.specs.declared.layout.Layout.{Layout}
use Rattle.swapper_kernel.specs.Maps.{IsMapHome}
use Rattle.swapper_kernel.specs.Goes.{no_page}
use Rattle.file_manager.specs.Creating.{IsMonotone, next_id}
use Rattle.file_manager.specs.Reasons.{ShowsReason, giving, initial_state, telling}
use Rattle.file_manager.specs.RevealedLaws.{tables_of}
use Rattle.fault_core.proofs.LackLemmas.{brought_misses}
use Rattle.pilot_engine.proofs.FormLemmas.{create_form, label_form}
use Rattle.pilot_engine.proofs.LackLemmas.{new_misses}
use Rattle.pilot_engine.proofs.InitialStateLemmas.{begun_keeps, begun_untabled, counted_reasons, counted_unframed, keeps_counted, rooted_at, rooted_untabled, rooted_writes}
use Rattle.swapper_kernel.specs.GoesLaws.{went_then}
use Rattle.swapper_kernel.specs.SyncLaws.{has_sync_later}
use Rattle.pilot_engine.proofs.FailSteps.{fails_after, fails_fault}
use Rattle.filer_kernel.specs.Fails.{Fails}
use Rattle.pilot_engine.specs.Beginning.{CountHalts}
use Rattle.pilot_engine.proofs.start.begin.Goals as goal

pub used_of-requires-clause-first : goal.used_of-requires-clause-first
used_of-requires-clause-first g c = rw c.requires.blank.same_layout (parts (view_of c.args.filer.now).layout (accepted c.args.filer.now)).1

pub returns-in-Err-clause-starts : goal.returns-in-Err-clause-starts
returns-in-Err-clause-starts g c = rw c.in-Err.ensures.stays.frames (root_some c.args.root _ _ c.requires.blank.bare (rw c.in_use-root.ensures.root at c.in-Err.ensures.writes))

pub returns-in-Err-free_count-clause-begun : goal.returns-in-Err-free_count-clause-begun
returns-in-Err-free_count-clause-begun g c = λ d revealed sound same.
    let layout = (view_of c.args.filer.now).layout in
    let is = (accepted c.args.filer.now) in
    let slots = (view_of c.args.filer.now).slots in
    let kept = c.args.filer.now.runs in
    let none = c.requires.blank.no_runs layout.sectors in
    let sectors = g.met.D.Disk.in_form (disk_of c.args.filer.now) d revealed in
    let long = g.met.D.Disk.whole (disk_of c.args.filer.now) d revealed ∙ c.requires.blank.size in
    let made = (rw c.in_use-root.ensures.root at c.in-Ok.ensures.writes).memory d (bare_stands (view_of c.args.filer.now).disk slots d c.requires.blank.bare revealed) in
    let d1 = (view_of c.put_in_use.new.filer).disk in
    let form = g.met.D.Disk.in_form (disk_of c.put_in_use.new.filer) in
    (rw (c.in-Ok.ensures.stays.frames, c.in-Ok.ensures.stays.layout) at c.in-Err-free_count.ensures.sound) (opened d sectors sound layout is long c.args.root same slots c.requires.blank.bare kept none d1 form made) (opened_stands d sectors sound layout is long c.args.root same slots c.requires.blank.bare kept none d1 form made) (map_named d sectors sound layout is long c.args.root same slots c.requires.blank.bare kept none d1 form made)

pub returns-in-Err-free_count-clause-starts : goal.returns-in-Err-free_count-clause-starts
returns-in-Err-free_count-clause-starts g c =
    count_some c.args.root _ _ c.requires.blank.bare (rw c.in_use-root.ensures.root at c.in-Ok.ensures.writes).makes c.in-Ok.ensures.synced (rw (c.in-Ok.ensures.stays.frames, c.in-Ok.ensures.stays.layout) at c.in-Err-free_count.ensures.kept)

pub returns-in-Err-make_tables-clause-begun : goal.returns-in-Err-make_tables-clause-begun
returns-in-Err-make_tables-clause-begun g c = λ d revealed sound same.
    let layout = (view_of c.args.filer.now).layout in
    let is = (accepted c.args.filer.now) in
    let slots = (view_of c.args.filer.now).slots in
    let kept = c.args.filer.now.runs in
    let none = c.requires.blank.no_runs layout.sectors in
    let sectors = g.met.D.Disk.in_form (disk_of c.args.filer.now) d revealed in
    let long = g.met.D.Disk.whole (disk_of c.args.filer.now) d revealed ∙ c.requires.blank.size in
    let made = (rw c.in_use-root.ensures.root at c.in-Ok.ensures.writes).memory d (bare_stands (view_of c.args.filer.now).disk slots d c.requires.blank.bare revealed) in
    let d1 = (view_of c.put_in_use.new.filer).disk in
    let form = g.met.D.Disk.in_form (disk_of c.put_in_use.new.filer) in
    let x = opened d sectors sound layout is long c.args.root same slots c.requires.blank.bare kept none d1 form made in
    let now = opened_stands d sectors sound layout is long c.args.root same slots c.requires.blank.bare kept none d1 form made in
    let beside = rw (c.in-Ok.ensures.stays.frames, c.in-Ok.ensures.stays.layout) at c.in-Ok-free_count.ensures.kept in
    let still = (rw (c.in-Ok.ensures.stays.frames, c.in-Ok.ensures.stays.layout) at c.in-Ok-free_count.ensures.same) x (marks d sectors sound layout is long c.args.root same slots c.requires.blank.bare kept none d1 form made) now (bits d sectors sound layout is long c.args.root same slots c.requires.blank.bare kept none d1 form made) in
    let lay : (view_of c.free_count.new.self).layout ≡ layout = c.in-Ok-free_count.ensures.kept.layout ∙ c.in-Ok.ensures.stays.layout in
    let runs : c.free_count.new.self.runs ≡ kept = c.in-Ok-free_count.ensures.runs ∙ c.in-Ok.ensures.stays.runs in
    let may = may_begin d sectors sound layout is long c.args.root same slots c.requires.blank.bare kept none d1 form made _ _ _ beside still in
    (rw (lay, runs) at c.in-Err-make_tables.ensures.made) x (shapes_of (files_on d)) (root ∷ []) may

pub returns-in-Err-make_tables-clause-starts : goal.returns-in-Err-make_tables-clause-starts
returns-in-Err-make_tables-clause-starts g c =
    tables_some c.args.root _ _ c.requires.blank.bare (rw c.in_use-root.ensures.root at c.in-Ok.ensures.writes).makes c.in-Ok.ensures.synced (rw (c.in-Ok.ensures.stays.frames, c.in-Ok.ensures.stays.layout) at c.in-Ok-free_count.ensures.kept) c.in-Err-make_tables.ensures.writes

pub returns-clause-begun : goal.returns-clause-begun
returns-clause-begun g c = λ d revealed sound same.
    let layout = (view_of c.args.filer.now).layout in
    let is = (accepted c.args.filer.now) in
    let slots = (view_of c.args.filer.now).slots in
    let kept = c.args.filer.now.runs in
    let none = c.requires.blank.no_runs layout.sectors in
    let sectors = g.met.D.Disk.in_form (disk_of c.args.filer.now) d revealed in
    let long = g.met.D.Disk.whole (disk_of c.args.filer.now) d revealed ∙ c.requires.blank.size in
    let made = (rw c.in_use-root.ensures.root at c.in-Ok.ensures.writes).memory d (bare_stands (view_of c.args.filer.now).disk slots d c.requires.blank.bare revealed) in
    let d1 = (view_of c.put_in_use.new.filer).disk in
    let form = g.met.D.Disk.in_form (disk_of c.put_in_use.new.filer) in
    let x = opened d sectors sound layout is long c.args.root same slots c.requires.blank.bare kept none d1 form made in
    let now = opened_stands d sectors sound layout is long c.args.root same slots c.requires.blank.bare kept none d1 form made in
    let beside = rw (c.in-Ok.ensures.stays.frames, c.in-Ok.ensures.stays.layout) at c.in-Ok-free_count.ensures.kept in
    let still = (rw (c.in-Ok.ensures.stays.frames, c.in-Ok.ensures.stays.layout) at c.in-Ok-free_count.ensures.same) x (marks d sectors sound layout is long c.args.root same slots c.requires.blank.bare kept none d1 form made) now (bits d sectors sound layout is long c.args.root same slots c.requires.blank.bare kept none d1 form made) in
    let lay : (view_of c.free_count.new.self).layout ≡ layout = c.in-Ok-free_count.ensures.kept.layout ∙ c.in-Ok.ensures.stays.layout in
    let runs : c.free_count.new.self.runs ≡ kept = c.in-Ok-free_count.ensures.runs ∙ c.in-Ok.ensures.stays.runs in
    let may = may_begin d sectors sound layout is long c.args.root same slots c.requires.blank.bare kept none d1 form made _ _ _ beside still in
    let begun = (rw (lay, runs) at c.in-Ok-make_tables.ensures.made) x (shapes_of (files_on d)) (root ∷ []) may in
    let free = (rw (c.in-Ok.ensures.stays.frames, c.in-Ok.ensures.stays.layout) at c.in-Ok-free_count.ensures.count) x (marks d sectors sound layout is long c.args.root same slots c.requires.blank.bare kept none d1 form made) now (bits d sectors sound layout is long c.args.root same slots c.requires.blank.bare kept none d1 form made) in
    let volume : Volume = record { layout = c.args.layout; root = c.in_use-root.result; used = c.used_of.result } in
    let session = session_begun d sectors sound layout is long c.args.root same slots c.requires.blank.bare kept none d1 form made _ _ _ beside still _ _ _ begun volume (view_of c.make_tables.new.filer).layout (c.in-Ok-make_tables.ensures.stays.layout ∙ lay) c.in_use-root.ensures.root
    c.in-Ok-free_count.free (free_are d sectors sound layout is long c.args.root same slots c.requires.blank.bare kept none d1 form made c.in-Ok-free_count.free free) (rw c.requires.blank.same_layout at c.used_of.ensures) in
    c.in-Ok-write_tables.ensures.runs d volume session

pub returns-in-Err-write_tables-clause-begun : goal.returns-in-Err-write_tables-clause-begun
returns-in-Err-write_tables-clause-begun g c = λ d revealed sound same.
    let layout = (view_of c.args.filer.now).layout in
    let is = (accepted c.args.filer.now) in
    let slots = (view_of c.args.filer.now).slots in
    let kept = c.args.filer.now.runs in
    let none = c.requires.blank.no_runs layout.sectors in
    let sectors = g.met.D.Disk.in_form (disk_of c.args.filer.now) d revealed in
    let long = g.met.D.Disk.whole (disk_of c.args.filer.now) d revealed ∙ c.requires.blank.size in
    let made = (rw c.in_use-root.ensures.root at c.in-Ok.ensures.writes).memory d (bare_stands (view_of c.args.filer.now).disk slots d c.requires.blank.bare revealed) in
    let d1 = (view_of c.put_in_use.new.filer).disk in
    let form = g.met.D.Disk.in_form (disk_of c.put_in_use.new.filer) in
    let x = opened d sectors sound layout is long c.args.root same slots c.requires.blank.bare kept none d1 form made in
    let now = opened_stands d sectors sound layout is long c.args.root same slots c.requires.blank.bare kept none d1 form made in
    let beside = rw (c.in-Ok.ensures.stays.frames, c.in-Ok.ensures.stays.layout) at c.in-Ok-free_count.ensures.kept in
    let still = (rw (c.in-Ok.ensures.stays.frames, c.in-Ok.ensures.stays.layout) at c.in-Ok-free_count.ensures.same) x (marks d sectors sound layout is long c.args.root same slots c.requires.blank.bare kept none d1 form made) now (bits d sectors sound layout is long c.args.root same slots c.requires.blank.bare kept none d1 form made) in
    let lay : (view_of c.free_count.new.self).layout ≡ layout = c.in-Ok-free_count.ensures.kept.layout ∙ c.in-Ok.ensures.stays.layout in
    let runs : c.free_count.new.self.runs ≡ kept = c.in-Ok-free_count.ensures.runs ∙ c.in-Ok.ensures.stays.runs in
    let may = may_begin d sectors sound layout is long c.args.root same slots c.requires.blank.bare kept none d1 form made _ _ _ beside still in
    let begun = (rw (lay, runs) at c.in-Ok-make_tables.ensures.made) x (shapes_of (files_on d)) (root ∷ []) may in
    let free = (rw (c.in-Ok.ensures.stays.frames, c.in-Ok.ensures.stays.layout) at c.in-Ok-free_count.ensures.count) x (marks d sectors sound layout is long c.args.root same slots c.requires.blank.bare kept none d1 form made) now (bits d sectors sound layout is long c.args.root same slots c.requires.blank.bare kept none d1 form made) in
    let volume : Volume = record { layout = c.args.layout; root = c.in_use-root.result; used = min ((layout.sectors - layout.first) - c.in-Ok-free_count.free) layout.capacity } in
    let session = session_begun d sectors sound layout is long c.args.root same slots c.requires.blank.bare kept none d1 form made _ _ _ beside still _ _ _ begun volume (view_of c.make_tables.new.filer).layout (c.in-Ok-make_tables.ensures.stays.layout ∙ lay) c.in_use-root.ensures.root
    c.in-Ok-free_count.free (free_are d sectors sound layout is long c.args.root same slots c.requires.blank.bare kept none d1 form made c.in-Ok-free_count.free free) refl in
    c.in-Err-write_tables.ensures.sound d volume session

pub returns-clause-starts : goal.returns-clause-starts
returns-clause-starts g c =
    tables_all c.args.root _ _ c.requires.blank.bare (rw c.in_use-root.ensures.root at c.in-Ok.ensures.writes).makes c.in-Ok.ensures.synced (rw (c.in-Ok.ensures.stays.frames, c.in-Ok.ensures.stays.layout) at c.in-Ok-free_count.ensures.kept) c.in-Ok-make_tables.ensures.writes c.write_tables.ensures.makes

pub returns-in-Err-write_tables-clause-starts : goal.returns-in-Err-write_tables-clause-starts
returns-in-Err-write_tables-clause-starts g c =
    tables_all c.args.root _ _ c.requires.blank.bare (rw c.in_use-root.ensures.root at c.in-Ok.ensures.writes).makes c.in-Ok.ensures.synced (rw (c.in-Ok.ensures.stays.frames, c.in-Ok.ensures.stays.layout) at c.in-Ok-free_count.ensures.kept) c.in-Ok-make_tables.ensures.writes c.write_tables.ensures.makes

-- what evidence says is so
-- the clean flag is 0 from the first write on
pub returns-in-Err-clause-left_open : goal.returns-in-Err-clause-left_open
returns-in-Err-clause-left_open g c = rw c.in-Err.ensures.fault.0 tt

pub returns-in-Err-free_count-clause-left_open : goal.returns-in-Err-free_count-clause-left_open
returns-in-Err-free_count-clause-left_open g c =
    let made = (rw c.in_use-root.ensures.root at c.in-Ok.ensures.writes).makes in
    let begun = unset_root c.args.root _ _ (first_made c.args.root _ _ c.requires.blank.bare made) in
    leaves_open (view_of c.free_count.new.self).disk (unset_open begun (map_makes c.in-Err-free_count.ensures.kept).wrote tt) c.in-Err-free_count.halt

pub returns-in-Err-make_tables-clause-left_open : goal.returns-in-Err-make_tables-clause-left_open
returns-in-Err-make_tables-clause-left_open g c =
    let made = (rw c.in_use-root.ensures.root at c.in-Ok.ensures.writes).makes in
    let begun = unset_root c.args.root _ _ (first_made c.args.root _ _ c.requires.blank.bare made) in
    let some = c.in-Err-make_tables.ensures.writes in
    leaves_open (view_of c.make_tables.new.filer).disk (unset_open (unset_open begun (map_makes c.in-Ok-free_count.ensures.kept).wrote tt) some.makes.wrote (take_open some.count (growth 3 0 0 some.sectors) (growth_open 3 0 0 some.sectors))) c.in-Err-make_tables.halt

pub returns-in-Err-write_tables-clause-left_open : goal.returns-in-Err-write_tables-clause-left_open
returns-in-Err-write_tables-clause-left_open g c =
    let made = (rw c.in_use-root.ensures.root at c.in-Ok.ensures.writes).makes in
    let begun = unset_root c.args.root _ _ (first_made c.args.root _ _ c.requires.blank.bare made) in
    let all = c.in-Ok-make_tables.ensures.writes in
    leaves_open (view_of c.write_tables.new.filer).disk (unset_open (unset_open (unset_open begun (map_makes c.in-Ok-free_count.ensures.kept).wrote tt) all.makes.wrote (growth_open 3 0 0 all.sectors)) c.write_tables.ensures.makes.wrote tt) c.in-Err-write_tables.halt

pub returns-clause-left_open : goal.returns-clause-left_open
returns-clause-left_open g c =
    let made = (rw c.in_use-root.ensures.root at c.in-Ok.ensures.writes).makes in
    let begun = unset_root c.args.root _ _ (first_made c.args.root _ _ c.requires.blank.bare made) in
    let all = c.in-Ok-make_tables.ensures.writes in
    unset_open (unset_open (unset_open begun (map_makes c.in-Ok-free_count.ensures.kept).wrote tt) all.makes.wrote (growth_open 3 0 0 all.sectors)) c.write_tables.ensures.makes.wrote tt

pub returns-clause-synced : goal.returns-clause-synced
returns-clause-synced g c = λ writes is.
    has_sync_later (length writes + 1) (went_then (map_makes c.in-Ok-free_count.ensures.kept).went (went_then c.in-Ok-make_tables.ensures.writes.makes.went c.write_tables.ensures.makes.went)) (c.in-Ok.ensures.synced writes is)

-- ---- Why it failed.

pub returns-in-Err-clause-fails : goal.returns-in-Err-clause-fails
returns-in-Err-clause-fails g c = fails_fault c.in-Err.ensures.fault.0 c.in-Err.ensures.fault.1 (inl (c.in-Err.ensures.fault.0, c.in-Err.ensures.fault.1))

pub returns-in-Err-free_count-clause-fails : goal.returns-in-Err-free_count-clause-fails
returns-in-Err-free_count-clause-fails g c =
    let v = view_of c.args.filer.now in
    let u = view_of c.put_in_use.new.filer in
    let begun = rooted c.args.root c.in_use-root.result v u c.in_use-root.ensures.root c.in-Ok.ensures.writes c.in-Ok.ensures.stays.frames c.in-Ok.ensures.stays.layout in
    let w = view_of c.free_count.new.self in
    let halts = c.in-Err-free_count.ensures.cause in
    let fails : Fails (CountHalts u w) u w c.in-Err-free_count.halt = record {
      cause = halts;
      counted = λ is. subst (CountHalts u w) is halts;
      evidence_seen = so_of_halts (fits (swapper_of c.put_in_use.new.filer) (search rules)) (map_makes c.in-Err-free_count.ensures.kept) c.in-Err-free_count.halt _ (map_homes_placed AllocationMap _) halts;
    } in
    fails_after begun.0.makes.went.faults (λ h. inr (u, begun, inl h)) fails

pub returns-in-Err-make_tables-clause-fails : goal.returns-in-Err-make_tables-clause-fails
returns-in-Err-make_tables-clause-fails g c =
    let v = view_of c.args.filer.now in
    let u = view_of c.put_in_use.new.filer in
    let begun = rooted c.args.root c.in_use-root.result v u c.in_use-root.ensures.root c.in-Ok.ensures.writes c.in-Ok.ensures.stays.frames c.in-Ok.ensures.stays.layout in
    let y = view_of c.free_count.new.self in
    let first = begun.0.makes.went.faults in
    let second = (map_makes c.in-Ok-free_count.ensures.kept).went.faults in
    let later : v.disk.faults ≤ y.disk.faults = omega (arith, first, second) in
    fails_after later (λ h. inr (u, begun, inr (y, c.in-Ok-free_count.ensures.kept, inl h))) c.in-Err-make_tables.ensures.fails

pub returns-in-Err-write_tables-clause-fails : goal.returns-in-Err-write_tables-clause-fails
returns-in-Err-write_tables-clause-fails g c =
    let v = view_of c.args.filer.now in
    let u = view_of c.put_in_use.new.filer in
    let begun = rooted c.args.root c.in_use-root.result v u c.in_use-root.ensures.root c.in-Ok.ensures.writes c.in-Ok.ensures.stays.frames c.in-Ok.ensures.stays.layout in
    let y = view_of c.free_count.new.self in
    let t = view_of c.make_tables.new.filer in
    let made = c.in-Ok-make_tables.ensures in
    let first = begun.0.makes.went.faults in
    let second = (map_makes c.in-Ok-free_count.ensures.kept).went.faults in
    let third = made.writes.makes.went.faults in
    let later : v.disk.faults ≤ t.disk.faults = omega (arith, first, second, third) in
    fails_after later (λ h. inr (u, begun, inr (y, c.in-Ok-free_count.ensures.kept, inr (t, (made.writes, made.stays.layout), h)))) c.in-Err-write_tables.ensures.fails

-- ---- What began is a reason.

pub returns-in-Err-clause-accounts : goal.returns-in-Err-clause-accounts
returns-in-Err-clause-accounts g c = λ d named ws begun. record {
  keeps_to = tt;
  reasons = rw c.in-Err.ensures.fault.0 tt;
  sees = rw c.in-Err.ensures.fault.0 (tt, tt);
}

pub returns-in-Err-free_count-clause-accounts : goal.returns-in-Err-free_count-clause-accounts
returns-in-Err-free_count-clause-accounts g c = λ d named ws begun.
    let filer = c.args.filer.now in
    let root = in_use c.args.root in
    let next = next_id c.in_use-root.result in
    let least : next ≤ next = omega arith in
    let o = initial_state d named (ws ++ (root_write root ∷ [])) in
    let homes = IsMapHome AllocationMap (view_of c.put_in_use.new.filer).layout in
    let before = (view_of c.put_in_use.new.filer).disk in
    let slots = (view_of c.put_in_use.new.filer).slots in
    record {
      keeps_to = tt;
      reasons = (let first = begun_keeps next (view_of filer).layout d named ws (view_of filer).disk (view_of filer).slots filer.runs (accepted filer) c.requires.blank.size (g.met.D.Disk.in_form (disk_of filer) d begun.contents)
          (g.met.D.Disk.whole (disk_of filer) d begun.contents ∙ c.requires.blank.size) c.requires.blank.bare (c.requires.blank.no_runs (view_of filer).layout.sectors) begun in
          let written = rooted_writes ws (root_write root) (rw c.in_use-root.ensures.root at c.in-Ok.ensures.writes).makes c.requires.blank.bare begun.writes in
          let bare = subst IsBare (sym c.in-Ok.ensures.stays.frames) c.requires.blank.bare in
          let rooted_keeps = rooted_at d named ws root next (view_of c.put_in_use.new.filer) (accepted c.put_in_use.new.filer) bare written (c.in-Ok.ensures.keeps_to (giving (initial_state d named ws) next) named first least) in
          let v = view_of c.put_in_use.new.filer in
          let w = view_of c.free_count.new.self in
          subst (λ (l : Layout). ShowsReason o l w.disk c.in-Err-free_count.halt) c.in-Ok.ensures.stays.layout (counted_reasons o v w named rooted_keeps c.in-Err-free_count.ensures.kept c.in-Err-free_count.halt c.in-Err-free_count.ensures.cause));
      sees = (let after = (view_of c.free_count.new.self).disk in (
        label_form homes before slots after c.in-Err-free_count.halt c.in-Err-free_count.ensures.cause,
        brought_misses homes before slots after no_page c.in-Err-free_count.halt c.in-Err-free_count.ensures.cause,
      ));
    }

pub returns-in-Err-make_tables-clause-accounts : goal.returns-in-Err-make_tables-clause-accounts
returns-in-Err-make_tables-clause-accounts g c = λ d named ws begun.
    let filer = c.args.filer.now in
    let root = in_use c.args.root in
    let next = next_id c.in_use-root.result in
    let least : next ≤ next = omega arith in
    let o = initial_state d named (ws ++ (root_write root ∷ [])) in
    let v = view_of c.free_count.new.self in
    record {
      keeps_to = tt;
      reasons = (let first = begun_keeps next (view_of filer).layout d named ws (view_of filer).disk (view_of filer).slots filer.runs (accepted filer) c.requires.blank.size (g.met.D.Disk.in_form (disk_of filer) d begun.contents)
          (g.met.D.Disk.whole (disk_of filer) d begun.contents ∙ c.requires.blank.size) c.requires.blank.bare (c.requires.blank.no_runs (view_of filer).layout.sectors) begun in
          let written = rooted_writes ws (root_write root) (rw c.in_use-root.ensures.root at c.in-Ok.ensures.writes).makes c.requires.blank.bare begun.writes in
          let bare = subst IsBare (sym c.in-Ok.ensures.stays.frames) c.requires.blank.bare in
          let rooted_keeps = rooted_at d named ws root next (view_of c.put_in_use.new.filer) (accepted c.put_in_use.new.filer) bare written (c.in-Ok.ensures.keeps_to (giving (initial_state d named ws) next) named first least) in
          let counted = keeps_counted o (view_of c.put_in_use.new.filer) (view_of c.free_count.new.self) named rooted_keeps c.in-Ok-free_count.ensures.kept c.in-Ok-free_count.ensures.same c.in-Ok-free_count.ensures.runs in
          subst (λ (l : Layout). ShowsReason o l (view_of c.make_tables.new.filer).disk c.in-Err-make_tables.halt) (c.in-Ok-free_count.ensures.kept.layout ∙ c.in-Ok.ensures.stays.layout)
          (c.in-Err-make_tables.ensures.accounts o named counted (counted_unframed bare c.in-Ok-free_count.ensures.kept) refl));
      sees = (let w = view_of c.make_tables.new.filer in (
        create_form v.layout 3 (λ page. page < 96) v.disk v.slots w.disk w.slots c.in-Err-make_tables.halt c.in-Err-make_tables.ensures.fails.cause,
        new_misses no_page 3 (λ page. page < 96) v w c.in-Err-make_tables.halt c.in-Err-make_tables.ensures.fails.cause,
      ));
    }

pub returns-in-Err-write_tables-clause-accounts : goal.returns-in-Err-write_tables-clause-accounts
returns-in-Err-write_tables-clause-accounts g c = λ d named ws begun.
    let filer = c.args.filer.now in
    let root = in_use c.args.root in
    let next = next_id c.in_use-root.result in
    let least : next ≤ next = omega arith in
    let o = initial_state d named (ws ++ (root_write root ∷ [])) in
    record {
      keeps_to = tt;
      reasons = (let first = begun_keeps next (view_of filer).layout d named ws (view_of filer).disk (view_of filer).slots filer.runs (accepted filer) c.requires.blank.size (g.met.D.Disk.in_form (disk_of filer) d begun.contents)
          (g.met.D.Disk.whole (disk_of filer) d begun.contents ∙ c.requires.blank.size) c.requires.blank.bare (c.requires.blank.no_runs (view_of filer).layout.sectors) begun in
          let written = rooted_writes ws (root_write root) (rw c.in_use-root.ensures.root at c.in-Ok.ensures.writes).makes c.requires.blank.bare begun.writes in
          let bare = subst IsBare (sym c.in-Ok.ensures.stays.frames) c.requires.blank.bare in
          let rooted_keeps = rooted_at d named ws root next (view_of c.put_in_use.new.filer) (accepted c.put_in_use.new.filer) bare written (c.in-Ok.ensures.keeps_to (giving (initial_state d named ws) next) named first least) in
          let counted = keeps_counted o (view_of c.put_in_use.new.filer) (view_of c.free_count.new.self) named rooted_keeps c.in-Ok-free_count.ensures.kept c.in-Ok-free_count.ensures.same c.in-Ok-free_count.ensures.runs in
          let none = counted_unframed bare c.in-Ok-free_count.ensures.kept in
          let made = c.in-Ok-make_tables.ensures.accounts o named counted none refl in
          subst (λ (l : Layout). ShowsReason o l (view_of c.write_tables.new.filer).disk c.in-Err-write_tables.halt) (c.in-Ok-make_tables.ensures.stays.layout ∙ c.in-Ok-free_count.ensures.kept.layout ∙ c.in-Ok.ensures.stays.layout)
          (c.in-Err-write_tables.ensures.reasons o made));
      sees = (let filer = c.args.filer.now in
          let root = in_use c.args.root in
          let next = next_id c.in_use-root.result in
          let least : next ≤ next = omega arith in
          let o = telling (initial_state d named (ws ++ (root_write root ∷ []))) [] in
          let first = begun_untabled next (view_of filer).layout d named ws (view_of filer).disk (view_of filer).slots filer.runs (accepted filer) c.requires.blank.size (g.met.D.Disk.in_form (disk_of filer) d begun.contents)
          (g.met.D.Disk.whole (disk_of filer) d begun.contents ∙ c.requires.blank.size) c.requires.blank.bare (c.requires.blank.no_runs (view_of filer).layout.sectors) begun in
          let written = rooted_writes ws (root_write root) (rw c.in_use-root.ensures.root at c.in-Ok.ensures.writes).makes c.requires.blank.bare begun.writes in
          let bare = subst IsBare (sym c.in-Ok.ensures.stays.frames) c.requires.blank.bare in
          let rooted_keeps = rooted_untabled d named ws root next (view_of c.put_in_use.new.filer) (accepted c.put_in_use.new.filer) bare written (c.in-Ok.ensures.keeps_to (telling (giving (initial_state d named ws) next) []) named first least) in
          let counted = keeps_counted o (view_of c.put_in_use.new.filer) (view_of c.free_count.new.self) named rooted_keeps c.in-Ok-free_count.ensures.kept c.in-Ok-free_count.ensures.same c.in-Ok-free_count.ensures.runs in
          let none = counted_unframed bare c.in-Ok-free_count.ensures.kept in
          let made = c.in-Ok-make_tables.ensures.tables (initial_state d named (ws ++ (root_write root ∷ []))) named counted none in
          let revealed : TablesAre (view_of c.make_tables.new.filer) made.1.0 = tables_of (initial_state d named (ws ++ (root_write root ∷ []))) made.1.0 made.1.1.1.0 made.1.1.0 in
          c.in-Err-write_tables.ensures.sees made.1.0 revealed);
    }

pub returns-clause-accounts : goal.returns-clause-accounts
returns-clause-accounts g c = λ d named ws begun.
    let filer = c.args.filer.now in
    let root = in_use c.args.root in
    let next = next_id c.in_use-root.result in
    let least : next ≤ next = omega arith in
    let o = initial_state d named (ws ++ (root_write root ∷ [])) in
    record {
      keeps_to = (let first = begun_keeps next (view_of filer).layout d named ws (view_of filer).disk (view_of filer).slots filer.runs (accepted filer) c.requires.blank.size (g.met.D.Disk.in_form (disk_of filer) d begun.contents)
          (g.met.D.Disk.whole (disk_of filer) d begun.contents ∙ c.requires.blank.size) c.requires.blank.bare (c.requires.blank.no_runs (view_of filer).layout.sectors) begun in
          let written = rooted_writes ws (root_write root) (rw c.in_use-root.ensures.root at c.in-Ok.ensures.writes).makes c.requires.blank.bare begun.writes in
          let bare = subst IsBare (sym c.in-Ok.ensures.stays.frames) c.requires.blank.bare in
          let rooted_keeps = rooted_at d named ws root next (view_of c.put_in_use.new.filer) (accepted c.put_in_use.new.filer) bare written (c.in-Ok.ensures.keeps_to (giving (initial_state d named ws) next) named first least) in
          let counted = keeps_counted o (view_of c.put_in_use.new.filer) (view_of c.free_count.new.self) named rooted_keeps c.in-Ok-free_count.ensures.kept c.in-Ok-free_count.ensures.same c.in-Ok-free_count.ensures.runs in
          let none = counted_unframed bare c.in-Ok-free_count.ensures.kept in
          let made = c.in-Ok-make_tables.ensures.accounts o named counted none refl in
          c.in-Ok-write_tables.ensures.keeps_to o made);
      reasons = tt;
      sees = (let filer = c.args.filer.now in
          let root = in_use c.args.root in
          let next = next_id c.in_use-root.result in
          let least : next ≤ next = omega arith in
          let o = telling (initial_state d named (ws ++ (root_write root ∷ []))) [] in
          let first = begun_untabled next (view_of filer).layout d named ws (view_of filer).disk (view_of filer).slots filer.runs (accepted filer) c.requires.blank.size (g.met.D.Disk.in_form (disk_of filer) d begun.contents)
          (g.met.D.Disk.whole (disk_of filer) d begun.contents ∙ c.requires.blank.size) c.requires.blank.bare (c.requires.blank.no_runs (view_of filer).layout.sectors) begun in
          let written = rooted_writes ws (root_write root) (rw c.in_use-root.ensures.root at c.in-Ok.ensures.writes).makes c.requires.blank.bare begun.writes in
          let bare = subst IsBare (sym c.in-Ok.ensures.stays.frames) c.requires.blank.bare in
          let rooted_keeps = rooted_untabled d named ws root next (view_of c.put_in_use.new.filer) (accepted c.put_in_use.new.filer) bare written (c.in-Ok.ensures.keeps_to (telling (giving (initial_state d named ws) next) []) named first least) in
          let counted = keeps_counted o (view_of c.put_in_use.new.filer) (view_of c.free_count.new.self) named rooted_keeps c.in-Ok-free_count.ensures.kept c.in-Ok-free_count.ensures.same c.in-Ok-free_count.ensures.runs in
          let none = counted_unframed bare c.in-Ok-free_count.ensures.kept in
          let made = c.in-Ok-make_tables.ensures.tables (initial_state d named (ws ++ (root_write root ∷ []))) named counted none in
          let revealed : TablesAre (view_of c.make_tables.new.filer) made.1.0 = tables_of (initial_state d named (ws ++ (root_write root ∷ []))) made.1.0 made.1.1.1.0 made.1.1.0 in
          c.in-Ok-write_tables.ensures.sees made.1.0 revealed);
    }

-- ---- The root is of the same volume, and gives out next the same identifier.

pub returns-clause-numbers : goal.returns-clause-numbers
returns-clause-numbers g c = record { serial = c.in_use-root.ensures.serial; counter = c.in_use-root.ensures.counter; monotone = subst (λ (r : Root). IsMonotone c.args.root r) (sym c.in_use-root.ensures.root) (omega arith, refl) }

pub returns-in-Err-clause-begun : goal.returns-in-Err-clause-begun
returns-in-Err-clause-begun g c = λ d revealed sound same. c.in-Err.ensures.fault.0

pub returns-in-Err-clause-numbers : goal.returns-in-Err-clause-numbers
returns-in-Err-clause-numbers g c = record { serial = c.in_use-root.ensures.serial; counter = c.in_use-root.ensures.counter; monotone = tt }

pub returns-in-Err-free_count-clause-numbers : goal.returns-in-Err-free_count-clause-numbers
returns-in-Err-free_count-clause-numbers g c = record { serial = c.in_use-root.ensures.serial; counter = c.in_use-root.ensures.counter; monotone = tt }

pub returns-in-Err-make_tables-clause-numbers : goal.returns-in-Err-make_tables-clause-numbers
returns-in-Err-make_tables-clause-numbers g c = record { serial = c.in_use-root.ensures.serial; counter = c.in_use-root.ensures.counter; monotone = tt }

pub returns-in-Err-write_tables-clause-numbers : goal.returns-in-Err-write_tables-clause-numbers
returns-in-Err-write_tables-clause-numbers g c = record { serial = c.in_use-root.ensures.serial; counter = c.in_use-root.ensures.counter; monotone = tt }
