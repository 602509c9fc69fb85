use Rattle.std.proofs.Common.{◌≤◌, refl, sym, subst, arith, rules}
use Rattle.labelled_disk.specs.declared.layout.Layout.{Layout}
use Rattle.labelled_disk.specs.Label.{leader_page}
use Rattle.file_map.specs.Run.{IsRun}
use Rattle.file_map.specs.FileMap.{without_from}
use Rattle.swapper_kernel.specs.declared.manager.Manager.TheVariants.{FileMap}
use Rattle.swapper_kernel.specs.DiffersLaws.{differs_then}
use Rattle.swapper_kernel.specs.FormLaws.{memory_in_form}
use Rattle.swapper_kernel.specs.Maps.{IsMapHome}
use Rattle.swapper_kernel.specs.Window.{in_map}
use Rattle.swapper_kernel.specs.WindowLaws.{beside_then, named_kept}
use Rattle.filer_kernel.specs.PlaceLaws.{data_first}
use Rattle.file_manager.specs.Shrinking.{leader_run}
use Rattle.file_manager.proofs.CountedLemmas.{rose_of, rose_after}
use Rattle.file_manager.proofs.CutSteps.{leader_in_form, few_left, leader_new, once_left, others_left}
use Rattle.filer_kernel.specs.EvidenceLaws.{fits, so_of_add, so_of_cut}
use Rattle.file_manager.proofs.Keeping.{keeps_none}
use Rattle.file_manager.proofs.CutCauses.{cut_halts_after, shrink_of_cut, shrink_of_add}
use Rattle.filer_kernel.specs.Cached.{runs_of}
use Rattle.file_manager.specs.Grounds.{IsUnframed}
use Rattle.file_manager.proofs.KeepSteps.{keeps_at}
use Rattle.file_manager.proofs.CutReasons.{added_reasons, has_leader}
use Rattle.file_manager.specs.KeepLaws.{client_untabled}
use Rattle.file_manager.specs.TabledLaws.{client_leaves}
use Rattle.file_manager.proofs.KeepCut.{keeps_led, less_named, tables_left, tables_more}
use Rattle.file_manager.proofs.ReasonCauses.{cut_reasons}
use Rattle.file_manager.proofs.SyncSteps.{quiet_last}
use Rattle.file_manager.proofs.cutting.cut_to.Goals as goal
use Rattle.filer_kernel.specs.View.{accepted, disk_of, swapper_of, view_of}

pub returns-in-Err-clause-sound : goal.returns-in-Err-clause-sound
returns-in-Err-clause-sound g c = λ m named stands map labels once alone. c.in-Err.ensures.sound m named stands map labels

pub returns-in-Err-clause-fails : goal.returns-in-Err-clause-fails
returns-in-Err-clause-fails g c =
    let layout = (view_of c.args.filer.now).layout in
    let old = (view_of c.args.filer.now).disk in
    let pool = (view_of c.args.filer.now).slots in
    let kept = runs_of layout.sectors c.args.filer.now.runs in
    let new = (view_of c.cut_synced.new.filer).disk in
    record {
      cause = shrink_of_cut (IsUnframed pool c.args.id) layout kept c.args.id c.args.from (λ p. ⊥) old new pool (view_of c.cut_synced.new.filer).slots c.in-Err.halt (cut_halts_after (keeps_none (IsUnframed pool c.args.id) layout c.args.id old pool kept (λ none. none)) c.args.from (λ p. ⊥) new (view_of c.cut_synced.new.filer).slots c.in-Err.halt c.in-Err.ensures.cause.1 c.in-Err.ensures.cause.0);
      counted = rose_of _ (view_of c.args.filer.now).disk (view_of c.cut_synced.new.filer).disk c.in-Err.halt c.in-Err.ensures.cause.0;
      evidence_seen = so_of_cut (fits (swapper_of c.args.filer.now) c.requires.size) c.cut_synced.ensures.stays.beside.goes.makes c.in-Err.halt c.in-Err.ensures.cause.0;
    }

pub add-requires-clause-form : goal.add-requires-clause-form
add-requires-clause-form g c =
    subst (λ (l : Layout). IsRun l.sectors (leader_run c.args.id c.args.leader)) (sym c.cut_synced.ensures.stays.beside.layout)
    (leader_in_form (view_of c.args.filer.now).layout c.args.id c.args.leader (accepted c.args.filer.now) c.requires.of_file c.ranges.id.fits c.requires.data c.requires.inside)

pub returns-in-Err-add-clause-sound : goal.returns-in-Err-add-clause-sound
returns-in-Err-add-clause-sound g c = λ m named stands map labels once alone.
    let layout = (view_of c.args.filer.now).layout in
    let lay = c.cut_synced.ensures.stays.beside.layout in
    let bound = c.ranges.from.fits in
    let few : c.args.from ≤ leader_page = omega (arith, bound) in
    let b = c.in-Ok.ensures.cut m named stands map in
    let first = data_first layout (accepted c.args.filer.now) in
    let above = c.requires.data in
    (rw lay at c.in-Err-add.ensures.sound) b.memory _ _ b.stands b.is (leader_new named c.args.id c.args.from c.args.leader few)
    (named_kept (IsMapHome FileMap layout) m b.memory b.differs.labels labels) (once_left named c.args.id c.args.from c.args.leader once) (others_left named c.args.id c.args.from c.args.leader few alone)
    (few_left layout.sectors c.args.leader (omega (arith, first, above)) c.requires.inside)

pub returns-in-Err-add-clause-fails : goal.returns-in-Err-add-clause-fails
returns-in-Err-add-clause-fails g c =
    let layout = (view_of c.args.filer.now).layout in
    let lay = c.cut_synced.ensures.stays.beside.layout in
    let bound = c.ranges.from.fits in
    let few : c.args.from ≤ leader_page = omega (arith, bound) in
    let right = rw lay at c.in-Err-add.ensures.right in
    record {
      cause = shrink_of_add (IsUnframed (view_of c.args.filer.now).slots c.args.id) (runs_of layout.sectors c.args.filer.now.runs) c.args.id c.args.from (λ p. ⊥) c.cut_synced.ensures.stays.beside (rw lay at c.add.ensures.beside) c.in-Err-add.halt (rw lay at c.in-Err-add.ensures.cause) (λ m named stands map. let b = c.in-Ok.ensures.cut m named stands map in (b.memory, b.stands, b.is, right b.memory (without_from named c.args.id c.args.from) b.stands b.is (leader_new named c.args.id c.args.from c.args.leader few)));
      counted = rose_after (view_of c.args.filer.now).disk (view_of c.cut_synced.new.filer).disk (view_of c.add.new.self).disk c.cut_synced.ensures.stays.beside.goes.makes.went.faults (rose_of _ (view_of c.cut_synced.new.filer).disk (view_of c.add.new.self).disk c.in-Err-add.halt c.in-Err-add.ensures.cause);
      evidence_seen = so_of_add (fits (swapper_of c.cut_synced.new.filer) (search rules)) c.add.ensures.beside.goes.makes c.in-Err-add.halt c.in-Err-add.ensures.cause;
    }

pub returns-in-Err-add-clause-stays : goal.returns-in-Err-add-clause-stays
returns-in-Err-add-clause-stays g c = record {
  beside = beside_then refl c.cut_synced.ensures.stays.beside c.add.ensures.beside;
  runs = λ n. rw c.add.ensures.runs (c.cut_synced.ensures.stays.runs n);
}

pub returns-clause-cut : goal.returns-clause-cut
returns-clause-cut g c = λ m named stands map.
    let layout = (view_of c.args.filer.now).layout in
    let lay = c.cut_synced.ensures.stays.beside.layout in
    let bound = c.ranges.from.fits in
    let few : c.args.from ≤ leader_page = omega (arith, bound) in
    let b = c.in-Ok.ensures.cut m named stands map in
    let a = (rw lay at c.in-Ok-add.ensures.added) b.memory _ b.stands b.is (leader_new named c.args.id c.args.from c.args.leader few) in
    rw c.frames_of.ensures.same (record { memory = a.memory; stands = a.stands; differs = differs_then (in_map FileMap layout) m b.memory a.memory b.differs a.differs; is = a.is })

pub returns-clause-in_form : goal.returns-clause-in_form
returns-clause-in_form g c = rw c.frames_of.ensures.same (λ y stands. memory_in_form _ _ y stands (g.met.D.Disk.in_form (disk_of c.add.new.self) stands.sectors stands.revealed) c.frames_of.ensures.pages)

pub returns-clause-stays : goal.returns-clause-stays
returns-clause-stays g c = record {
  beside = rw c.frames_of.ensures.same (beside_then refl c.cut_synced.ensures.stays.beside c.add.ensures.beside);
  runs = λ n. rw (c.frames_of.ensures.same, c.add.ensures.runs) (c.cut_synced.ensures.stays.runs n);
}

-- ---- What it keeps to, and the reasons of its halts.

pub returns-in-Err-clause-accounts : goal.returns-in-Err-clause-accounts
returns-in-Err-clause-accounts g c = λ o named k led. cut_reasons k c.cut_synced.ensures.stays.beside.goes.makes c.in-Err.halt c.in-Err.ensures.cause.0 (c.in-Err.ensures.cut k.memory named k.stands k.map)

pub returns-in-Err-add-clause-accounts : goal.returns-in-Err-add-clause-accounts
returns-in-Err-add-clause-accounts g c = λ o named k led.
    let bound = c.ranges.from.fits in
    let few : c.args.from ≤ leader_page = omega (arith, bound) in
    let layout = (view_of c.args.filer.now).layout in
    let is = (accepted c.args.filer.now) in
    let lay = c.cut_synced.ensures.stays.beside.layout in
    let cut = c.in-Ok.ensures.cut k.memory named k.stands k.map in
    let beside = rw lay at c.add.ensures.beside in
    let new = leader_new named c.args.id c.args.from c.args.leader few in
    let right = rw lay at c.in-Err-add.ensures.right in
    added_reasons k is c.cut_synced.ensures.stays.beside cut (less_named named c.args.id c.args.from) beside.goes.makes (record { sector = c.args.leader; id = c.args.id; page = leader_page }) led (λ sector. new leader_page sector (has_leader c.args.id c.args.leader))
    c.in-Err-add.halt (rw lay at c.in-Err-add.ensures.cause) (right cut.memory (without_from named c.args.id c.args.from) cut.stands cut.is new)

pub returns-clause-accounts : goal.returns-clause-accounts
returns-clause-accounts g c = λ o named k led evict.
    let layout = (view_of c.args.filer.now).layout in
    (_, keeps_at c.frames_of.new.filer.runs ((returns-clause-stays g c).beside).layout (keeps_led k ((returns-clause-stays g c).beside) c.args.id c.args.from ((returns-clause-stays g c).runs layout.sectors) (accepted c.args.filer.now) (client_leaves o c.args.id c.requires.of_file) (client_untabled c.args.id c.requires.of_file) c.args.leader led evict (returns-clause-cut g c)), λ all. tables_more (without_from named c.args.id c.args.from) (leader_run c.args.id c.args.leader) (tables_left named c.args.id c.args.from c.requires.of_file all))

pub returns-clause-synced : goal.returns-clause-synced
returns-clause-synced g c = λ syncs. rw c.frames_of.ensures.same (quiet_last (c.in-Ok.ensures.synced syncs) c.add.ensures.beside.goes.makes)
