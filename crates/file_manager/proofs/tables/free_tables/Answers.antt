use Rattle.std.proofs.Common.{◌≡◌, inl, [], refl, sym, ◌∙◌, arith, ap, subst, rules, ◌≤◌, ◌<◌, inr}
use Rattle.swapper_kernel.specs.FormLaws.{memory_in_form}
use Rattle.swapper_kernel.specs.declared.manager.Manager.TheVariants.{FileMap}
use Rattle.file_manager.proofs.FreedRun.{all_stop}
use Rattle.file_manager.proofs.TablesFreed.{bare, tables_all, tables_may, tables_some, tables_ended, forgot_freed, forgot_some, freed_cut}
use Rattle.file_manager.proofs.Faults.{counted, counted_then}
use Rattle.filer_kernel.specs.EvidenceLaws.{fits, so_of_cut}
use Rattle.file_manager.proofs.Forgotten.{keeps_forgotten, forgotten_keeps, forgotten_untabled}
use Rattle.file_manager.proofs.Keeping.{keeps_then, free_halts_before}
use Rattle.file_manager.proofs.CutCauses.{cut_of_free, cut_halts_after}
use Rattle.filer_kernel.specs.Cached.{runs_of}
use Rattle.file_manager.specs.Grounds.{AreTables}
use Rattle.label_calls.specs.OwnLaws.{own_then, quiet_own}
use Rattle.file_manager.proofs.OwnSteps.{map_own, freed_own, some_own, own_after}
use Rattle.file_manager.proofs.RootCalls.{freed_some_root, freed_root}
use Rattle.labelled_disk.specs.declared.layout.Layout.{Layout}
use Rattle.filer_kernel.specs.declared.cached.CachedRuns.{CachedRuns}
use Rattle.file_manager.proofs.KeepSteps.{keeps_at}
use Rattle.file_manager.specs.KeepLaws.{untabled_still}
use Rattle.file_manager.specs.TabledLaws.{untold_leaves}
use Rattle.file_manager.proofs.KeepCut.{keeps_cut}
use Rattle.file_manager.proofs.ReasonCauses.{cut_reasons}
use Rattle.file_manager.specs.Reasons.{KeepsTo, ShowsReason}
use Rattle.file_manager.proofs.LackLemmas.{cut_misses_none}
use Rattle.file_manager.proofs.tables.free_tables.Goals as goal
use Rattle.filer_kernel.specs.View.{accepted, disk_of, placed, swapper_of, view_of}

pub returns-in-Err-clause-freed : goal.returns-in-Err-clause-freed
returns-in-Err-clause-freed g c = λ x shapes spaces books.
    let layout = (view_of c.args.filer.now).layout in
    let is = (accepted c.args.filer.now) in
    let kept = c.args.filer.now.runs in
    let f = c.discard_tables.ensures in
    let may = tables_may layout is kept shapes spaces x _ _ books _ _ f.gone f.left f.goes f.form in
    let m = bare layout is kept shapes spaces x _ _ books _ _ f.gone f.left f.goes f.form in
    let freed = (rw (f.stays.layout, f.stays.runs) at c.in-Err.ensures.freed) books.booked.named spaces m.0 may in
    (freed.0, tables_some layout is kept shapes spaces x _ _ books _ _ f.gone f.left f.goes f.form _ _ freed.1)

pub returns-in-Err-clause-writes : goal.returns-in-Err-clause-writes
returns-in-Err-clause-writes g c = forgot_some c.discard_tables.ensures.goes c.in-Err.ensures.writes

pub returns-in-Err-cut-clause-freed : goal.returns-in-Err-cut-clause-freed
returns-in-Err-cut-clause-freed g c = λ x shapes spaces books. (
  let layout = (view_of c.args.filer.now).layout in
      let f = c.discard_tables.ensures in
      let may = tables_may layout (accepted c.args.filer.now) c.args.filer.now.runs shapes spaces x _ _ books _ _ f.gone f.left f.goes f.form in
      let m = bare layout (accepted c.args.filer.now) c.args.filer.now.runs shapes spaces x _ _ books _ _ f.gone f.left f.goes f.form in
      let h = (rw (f.stays.layout, f.stays.runs) at c.in-Ok.ensures.freed) books.booked.named spaces m.0 may in
      let lay : (view_of c.free_up.new.filer).layout ≡ layout = c.in-Ok.ensures.stays.layout ∙ f.stays.layout in
      (rw lay at c.in-Err-cut.ensures.sound) h.memory books.booked.named h.rest.stands h.rest.map (h.rest.map_labels FileMap),
  let layout = (view_of c.args.filer.now).layout in
      let is = (accepted c.args.filer.now) in
      let kept = c.args.filer.now.runs in
      let f = c.discard_tables.ensures in
      let may = tables_may layout is kept shapes spaces x _ _ books _ _ f.gone f.left f.goes f.form in
      let m = bare layout is kept shapes spaces x _ _ books _ _ f.gone f.left f.goes f.form in
      let h = (rw (f.stays.layout, f.stays.runs) at c.in-Ok.ensures.freed) books.booked.named spaces m.0 may in
      tables_all layout is kept shapes spaces x _ _ books _ _ f.gone f.left f.goes f.form _ _ _ _ _ _ _ h c.in-Err-cut.ensures.beside,
)

pub returns-in-Err-cut-clause-writes : goal.returns-in-Err-cut-clause-writes
returns-in-Err-cut-clause-writes g c = all_stop (freed_cut (forgot_freed c.discard_tables.ensures.goes c.in-Ok.ensures.writes) c.in-Err-cut.ensures.beside)

pub returns-clause-freed : goal.returns-clause-freed
returns-clause-freed g c = λ x shapes spaces books.
    let layout = (view_of c.args.filer.now).layout in
    let is = (accepted c.args.filer.now) in
    let kept = c.args.filer.now.runs in
    let f = c.discard_tables.ensures in
    let may = tables_may layout is kept shapes spaces x _ _ books _ _ f.gone f.left f.goes f.form in
    let m = bare layout is kept shapes spaces x _ _ books _ _ f.gone f.left f.goes f.form in
    let h = (rw (f.stays.layout, f.stays.runs) at c.in-Ok.ensures.freed) books.booked.named spaces m.0 may in
    let lay : (view_of c.free_up.new.filer).layout ≡ layout = c.in-Ok.ensures.stays.layout ∙ f.stays.layout in
    let cut = (rw lay at c.in-Ok-cut.ensures.cut) h.memory books.booked.named h.rest.stands h.rest.map in
    rw c.frames_of.ensures.same
    (tables_ended layout is kept shapes spaces x _ _ books _ _ f.gone f.left f.goes f.form _ _ c.free_up.new.filer.runs h _ _ _ _ c.cut.new.self.runs c.in-Ok-cut.ensures.beside cut (c.in-Ok-cut.ensures.runs layout.sectors)
    (λ y stands. memory_in_form _ _ y stands (g.met.D.Disk.in_form (disk_of c.cut.new.self) stands.sectors stands.revealed) c.frames_of.ensures.pages))

pub returns-clause-writes : goal.returns-clause-writes
returns-clause-writes g c = rw c.frames_of.ensures.same (freed_cut (forgot_freed c.discard_tables.ensures.goes c.in-Ok.ensures.writes) c.in-Ok-cut.ensures.beside)

pub returns-in-Err-clause-fails : goal.returns-in-Err-clause-fails
returns-in-Err-clause-fails g c =
    let layout = (view_of c.args.filer.now).layout in
    let old = (view_of c.args.filer.now).disk in
    let pool = (view_of c.args.filer.now).slots in
    let kept = runs_of layout.sectors c.args.filer.now.runs in
    let f = c.discard_tables.ensures in
    let keep = keeps_forgotten kept (accepted c.args.filer.now) (placed c.args.filer.now) f.gone f.left f.goes (ap g.D.Disk.state f.disk) in
    let new = (view_of c.free_up.new.filer).disk in
    record {
      cause = cut_of_free (AreTables pool) layout kept 3 0 (λ page. page < 96) old new pool c.in-Err.halt (free_halts_before keep (λ p. (0 ≤ p) × (p < 96)) (λ page. page < 96) (λ p own. own.1) c.requires.size new c.in-Err.halt (rw (f.stays.layout, f.stays.runs) at c.in-Err.ensures.fails.cause));
      counted = counted_then _ _ _ c.discard_tables.ensures.goes.makes.went.faults c.in-Err.ensures.fails.counted;
      evidence_seen = c.in-Err.ensures.fails.evidence_seen (λ page below. inl (refl, below));
    }

pub returns-in-Err-cut-clause-fails : goal.returns-in-Err-cut-clause-fails
returns-in-Err-cut-clause-fails g c =
    let layout = (view_of c.args.filer.now).layout in
    let old = (view_of c.args.filer.now).disk in
    let pool = (view_of c.args.filer.now).slots in
    let kept = runs_of layout.sectors c.args.filer.now.runs in
    let f = c.discard_tables.ensures in
    let keep = keeps_forgotten kept (accepted c.args.filer.now) (placed c.args.filer.now) f.gone f.left f.goes (ap g.D.Disk.state f.disk) in
    let lay : (view_of c.free_up.new.filer).layout ≡ layout = c.in-Ok.ensures.stays.layout ∙ f.stays.layout in
    let first = c.discard_tables.ensures.goes.makes.went.faults in
    let second = c.in-Ok.ensures.writes.makes.went.faults in
    record {
      cause = cut_halts_after (keeps_then keep (rw (f.stays.layout, f.stays.runs) at c.in-Ok.ensures.stays.keeps)) 0 (λ page. page < 96) (view_of c.cut.new.self).disk (view_of c.cut.new.self).slots c.in-Err-cut.halt (rw lay at c.in-Err-cut.ensures.begun) (rw lay at c.in-Err-cut.ensures.cause);
      counted = counted _ _ (view_of c.free_up.new.filer).disk (view_of c.cut.new.self).disk _ (omega (arith, first, second)) c.in-Err-cut.ensures.cause;
      evidence_seen = so_of_cut (fits (swapper_of c.free_up.new.filer) (search rules)) c.cut.ensures.beside.goes.makes c.in-Err-cut.halt c.in-Err-cut.ensures.cause;
    }

pub returns-in-Err-clause-own : goal.returns-in-Err-clause-own
returns-in-Err-clause-own g c = own_after (quiet_own 3 c.discard_tables.ensures.goes.makes) (some_own c.in-Err.ensures.writes c.in-Err.ensures.labels.own)

pub returns-in-Err-cut-clause-own : goal.returns-in-Err-cut-clause-own
returns-in-Err-cut-clause-own g c = own_after (quiet_own 3 c.discard_tables.ensures.goes.makes) (own_then (freed_own c.in-Ok.ensures.writes c.in-Ok.ensures.labels.own) (map_own 3 c.in-Err-cut.ensures.beside))

pub returns-clause-own : goal.returns-clause-own
returns-clause-own g c = rw c.frames_of.ensures.same (own_after (quiet_own 3 c.discard_tables.ensures.goes.makes) (own_then (freed_own c.in-Ok.ensures.writes c.in-Ok.ensures.labels.own) (map_own 3 c.in-Ok-cut.ensures.beside)))

pub returns-in-Err-clause-stays : goal.returns-in-Err-clause-stays
returns-in-Err-clause-stays g c = record { root = freed_some_root (returns-in-Err-clause-writes g c); layout = search rules }

pub returns-in-Err-cut-clause-stays : goal.returns-in-Err-cut-clause-stays
returns-in-Err-cut-clause-stays g c = record { root = freed_some_root (returns-in-Err-cut-clause-writes g c); layout = search rules }

pub returns-clause-stays : goal.returns-clause-stays
returns-clause-stays g c = record { root = freed_root (returns-clause-writes g c); layout = search rules }

-- ---- What it keeps to, and the reasons of its halts.

pub returns-in-Err-clause-accounts : goal.returns-in-Err-clause-accounts
returns-in-Err-clause-accounts g c = λ o named k untold tables.
    let f = c.discard_tables.ensures in
    let forgot = keeps_at c.discard_tables.new.filer.runs f.stays.layout (subst (λ (r : CachedRuns). KeepsTo o (view_of c.args.filer.now).layout (runs_of (view_of c.args.filer.now).layout.sectors r) (view_of c.discard_tables.new.filer).disk (view_of c.discard_tables.new.filer).slots named) (sym f.stays.runs)
    (forgotten_keeps [] (accepted c.args.filer.now) (placed c.args.filer.now) f.gone f.left f.goes (ap g.D.Disk.state f.disk) untold k)) in (
      subst (λ (l : Layout). ShowsReason o l (view_of c.free_up.new.filer).disk c.in-Err.halt) f.stays.layout ((c.in-Err.ensures.accounts o named forgot (untold_leaves o 3 untold)).0 (λ page below. inr (refl, below, tables))),
      (c.in-Err.ensures.accounts o named forgot (untold_leaves o 3 untold)).1 tables,
    )

pub returns-in-Err-cut-clause-accounts : goal.returns-in-Err-cut-clause-accounts
returns-in-Err-cut-clause-accounts g c = λ o named k untold tables.
    let f = c.discard_tables.ensures in
    let forgot = keeps_at c.discard_tables.new.filer.runs f.stays.layout (subst (λ (r : CachedRuns). KeepsTo o (view_of c.args.filer.now).layout (runs_of (view_of c.args.filer.now).layout.sectors r) (view_of c.discard_tables.new.filer).disk (view_of c.discard_tables.new.filer).slots named) (sym f.stays.runs)
    (forgotten_keeps [] (accepted c.args.filer.now) (placed c.args.filer.now) f.gone f.left f.goes (ap g.D.Disk.state f.disk) untold k)) in
    let now = (c.in-Ok.ensures.accounts o named forgot (untold_leaves o 3 untold)).0 in
    let old = c.free_up.new.filer.swapper in
    let new = c.cut.new.self.swapper in (
      subst (λ (l : Layout). ShowsReason o l (view_of c.cut.new.self).disk c.in-Err-cut.halt) (c.in-Ok.ensures.stays.layout ∙ f.stays.layout) (cut_reasons now c.cut.ensures.beside.goes.makes c.in-Err-cut.halt c.in-Err-cut.ensures.cause (c.in-Err-cut.ensures.right now.memory named now.stands now.map)),
      cut_misses_none old.layout (g.D.Disk.state old.disk) old.pool (g.D.Disk.state new.disk) new.pool c.in-Err-cut.halt c.in-Err-cut.ensures.cause,
    )

pub returns-clause-accounts : goal.returns-clause-accounts
returns-clause-accounts g c = λ o named k untold.
    let f = c.discard_tables.ensures in
    let forgot = keeps_at c.discard_tables.new.filer.runs f.stays.layout (subst (λ (r : CachedRuns). KeepsTo o (view_of c.args.filer.now).layout (runs_of (view_of c.args.filer.now).layout.sectors r) (view_of c.discard_tables.new.filer).disk (view_of c.discard_tables.new.filer).slots named) (sym f.stays.runs)
    (forgotten_keeps [] (accepted c.args.filer.now) (placed c.args.filer.now) f.gone f.left f.goes (ap g.D.Disk.state f.disk) untold k)) in
    let now = (c.in-Ok.ensures.accounts o named forgot (untold_leaves o 3 untold)).0 in
    rw c.frames_of.ensures.same (
      _,
      (
        keeps_at c.cut.new.self.runs c.cut.ensures.beside.layout (keeps_cut now c.cut.ensures.beside 3 0 (c.cut.ensures.runs (view_of c.free_up.new.filer).layout.sectors)
            (accepted c.free_up.new.filer) (untold_leaves o 3 untold) (λ tables. untabled_still c.in-Ok.ensures.stays.keeps.brings (forgotten_untabled f.gone)) (λ page sector may from is. absurd (omega (arith, may))) c.in-Ok-cut.ensures.cut),
        untold,
      ),
    )

-- ---- None of their pages is reported as missing.
