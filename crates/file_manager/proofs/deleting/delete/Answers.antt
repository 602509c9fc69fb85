use Rattle.std.proofs.Common.{◌≡◌, ◌+◌, ◌*◌, inl, ◌∙◌, arith, ◌⊎◌, ◌<◌, inr, ap, subst, rules, false, true}
use Rattle.swapper_kernel.specs.declared.manager.Manager.TheVariants.{FileMap}
use Rattle.file_map.specs.FileMap.{most_records}
use Rattle.swapper_kernel.specs.FormLaws.{memory_in_form}
use Rattle.file_manager.proofs.BookLemmas.{map_is, map_named}
use Rattle.file_manager.proofs.FreedRun.{map_makes, map_stops}
use Rattle.file_manager.proofs.DeletedFile.{may_free, size_is, deletes_first, deletes_all, deleted_by, delete_makes, delete_stops, free_stops, revealed_cost, sized_cost}
use Rattle.file_manager.proofs.Faults.{counted, counted_then}
use Rattle.filer_kernel.specs.EvidenceLaws.{fits, so_of_map, so_of_cut}
use Rattle.file_manager.proofs.Keeping.{keeps_none, keeps_read, keeps_then, search_halts_after, free_halts_before}
use Rattle.file_manager.proofs.CutCauses.{cut_of_free, cut_halts_after}
use Rattle.labelled_disk.specs.Label.{leader_page}
use Rattle.filer_kernel.specs.Cached.{runs_of}
use Rattle.filer_kernel.specs.Triples.{IsOneOf}
use Rattle.file_manager.specs.Grounds.{IsUnframed, IsPageOf}
use Rattle.label_calls.specs.OwnLaws.{relabels_own, own_then}
use Rattle.file_manager.proofs.OwnSteps.{map_own, freed_own, some_own, own_after}
use Rattle.file_manager.proofs.RootCalls.{freed_some_root, deleted_root}
use Rattle.labelled_disk.specs.declared.layout.Layout.{Layout}
use Rattle.file_manager.proofs.KeepSteps.{keeps_at, keeps_asked}
use Rattle.file_manager.specs.KeepLaws.{client_untabled}
use Rattle.file_manager.specs.TabledLaws.{client_leaves}
use Rattle.file_manager.proofs.KeepCut.{keeps_cut, all_pages, tables_left}
use Rattle.file_manager.proofs.ReasonCauses.{cut_reasons}
use Rattle.file_manager.specs.ReasonLaws.{map_reasons}
use Rattle.file_manager.specs.Reasons.{ShowsReason}
use Rattle.label_calls.specs.SyncedLaws.{around_after, quiet_synced, synced_then, syncs_around, wrote_synced}
use Rattle.file_manager.proofs.deleting.delete.Goals as goal
use Rattle.filer_kernel.specs.View.{accepted, disk_of, swapper_of, view_of}

pub returns-in-Err-clause-deleted : goal.returns-in-Err-clause-deleted
returns-in-Err-clause-deleted g c = λ x shapes spaces f books found.
    let is = (accepted c.args.filer.now) in
    let b = books.booked in
    let first = c.size.ensures.cost in
    record {
      used = tt;
      cost = omega (arith, first);
      deleted = λ hidden. (c.in-Err.ensures.sound x b.named books.stands (map_is _ _ shapes x is b) (map_named _ x is b.long b.map_labels), inl (map_makes c.size.ensures.beside));
      cost_sized = λ hidden. omega (arith, first);
    }

pub returns-in-Err-free_all-clause-deleted : goal.returns-in-Err-free_all-clause-deleted
returns-in-Err-free_all-clause-deleted g c = λ x shapes spaces f books found.
    let layout = (view_of c.args.filer.now).layout in
    let is = (accepted c.args.filer.now) in
    let b = books.booked in
    let map = map_is _ _ shapes x is b in
    let asked = c.in-Ok.ensures.size x b.named books.stands map in
    let stands = c.size.ensures.same x b.named books.stands map in
    let size : c.in-Ok.pages ≡ f.size = size_is _ _ shapes x b c.args.id c.requires.client f found c.in-Ok.pages asked in
    let two = rw (c.size.ensures.beside.layout) at c.free_all.ensures.cost in
    record {
      used = tt;
      cost = revealed_cost (view_of c.args.filer.now).disk.transfers (view_of c.size.new.self).disk.transfers (view_of c.free_all.new.filer).disk.transfers (view_of c.free_all.new.filer).disk.transfers f.size c.in-Ok.pages (16 + 4 * layout.vam) (2 * (1 + 51 * most_records layout.sectors)) size c.size.ensures.cost two (omega arith);
      deleted = λ hidden.
          let may = may_free layout is c.args.filer.now.runs shapes spaces x _ _ books c.args.id c.requires.client f found hidden _ _ _ _ c.size.ensures.runs c.size.ensures.beside stands c.in-Ok.pages asked in
          let freed = (rw (c.size.ensures.beside.layout) at c.in-Err-free_all.ensures.freed) b.named spaces x may in
          (freed.0, deletes_first layout is c.args.filer.now.runs shapes spaces x _ _ books c.args.id c.requires.client f found hidden _ _ _ _ c.size.ensures.runs c.size.ensures.beside stands c.in-Ok.pages asked freed.1);
      cost_sized = λ hidden. sized_cost (view_of c.args.filer.now).disk.transfers (view_of c.size.new.self).disk.transfers (view_of c.free_all.new.filer).disk.transfers (view_of c.free_all.new.filer).disk.transfers f.size c.in-Ok.pages (16 + 4 * layout.vam) size c.size.ensures.cost two (omega arith);
    }

pub returns-in-Err-cut-clause-deleted : goal.returns-in-Err-cut-clause-deleted
returns-in-Err-cut-clause-deleted g c = λ x shapes spaces f books found.
    let layout = (view_of c.args.filer.now).layout in
    let is = (accepted c.args.filer.now) in
    let b = books.booked in
    let map = map_is _ _ shapes x is b in
    let asked = c.in-Ok.ensures.size x b.named books.stands map in
    let stands = c.size.ensures.same x b.named books.stands map in
    let size : c.in-Ok.pages ≡ f.size = size_is _ _ shapes x b c.args.id c.requires.client f found c.in-Ok.pages asked in
    let two = rw (c.size.ensures.beside.layout) at c.free_all.ensures.cost in
    let lay : (view_of c.free_all.new.filer).layout ≡ layout = c.free_all.ensures.stays.layout ∙ c.size.ensures.beside.layout in
    record {
      used = tt;
      cost = revealed_cost (view_of c.args.filer.now).disk.transfers (view_of c.size.new.self).disk.transfers (view_of c.free_all.new.filer).disk.transfers (view_of c.cut.new.self).disk.transfers f.size c.in-Ok.pages (16 + 4 * layout.vam) (2 * (1 + 51 * most_records layout.sectors)) size c.size.ensures.cost two (rw lay at c.cut.ensures.cost);
      deleted = λ hidden.
          let freed = (rw (c.size.ensures.beside.layout) at c.in-Ok-free_all.ensures.freed) b.named spaces x (may_free layout is c.args.filer.now.runs shapes spaces x _ _ books c.args.id c.requires.client f found hidden _ _ _ _ c.size.ensures.runs c.size.ensures.beside stands c.in-Ok.pages asked) in (
            (rw lay at c.in-Err-cut.ensures.sound) freed.memory b.named freed.rest.stands freed.rest.map (freed.rest.map_labels FileMap),
            deletes_all layout is c.args.filer.now.runs shapes spaces x _ _ books c.args.id c.requires.client f found hidden _ _ _ _ c.size.ensures.runs c.size.ensures.beside stands c.in-Ok.pages asked _ _ _ freed (rw lay at c.in-Err-cut.ensures.beside),
          );
      cost_sized = λ hidden.
          let freed = (rw (c.size.ensures.beside.layout) at c.in-Ok-free_all.ensures.freed) b.named spaces x (may_free layout is c.args.filer.now.runs shapes spaces x _ _ books c.args.id c.requires.client f found hidden _ _ _ _ c.size.ensures.runs c.size.ensures.beside stands c.in-Ok.pages asked) in
          let three = (rw lay at c.cut.ensures.cost_sized) freed.memory b.named c.in-Ok.pages freed.rest.stands freed.rest.map asked in
          sized_cost (view_of c.args.filer.now).disk.transfers (view_of c.size.new.self).disk.transfers (view_of c.free_all.new.filer).disk.transfers (view_of c.cut.new.self).disk.transfers f.size c.in-Ok.pages (16 + 4 * layout.vam) size c.size.ensures.cost two three;
    }

pub returns-clause-deleted : goal.returns-clause-deleted
returns-clause-deleted g c = λ x shapes spaces f books found.
    let layout = (view_of c.args.filer.now).layout in
    let is = (accepted c.args.filer.now) in
    let b = books.booked in
    let map = map_is _ _ shapes x is b in
    let asked = c.in-Ok.ensures.size x b.named books.stands map in
    let stands = c.size.ensures.same x b.named books.stands map in
    let size : c.in-Ok.pages ≡ f.size = size_is _ _ shapes x b c.args.id c.requires.client f found c.in-Ok.pages asked in
    let two = rw (c.size.ensures.beside.layout) at c.free_all.ensures.cost in
    let lay : (view_of c.free_all.new.filer).layout ≡ layout = c.free_all.ensures.stays.layout ∙ c.size.ensures.beside.layout in
    record {
      used = omega (arith, size);
      cost = rw c.frames_of-volume.ensures.same (revealed_cost (view_of c.args.filer.now).disk.transfers (view_of c.size.new.self).disk.transfers (view_of c.free_all.new.filer).disk.transfers (view_of c.cut.new.self).disk.transfers f.size c.in-Ok.pages (16 + 4 * layout.vam) (2 * (1 + 51 * most_records layout.sectors)) size c.size.ensures.cost two (rw lay at c.cut.ensures.cost));
      deleted = λ hidden.
          let freed = (rw (c.size.ensures.beside.layout) at c.in-Ok-free_all.ensures.freed) b.named spaces x (may_free layout is c.args.filer.now.runs shapes spaces x _ _ books c.args.id c.requires.client f found hidden _ _ _ _ c.size.ensures.runs c.size.ensures.beside stands c.in-Ok.pages asked) in
          let cut = (rw lay at c.in-Ok-cut.ensures.cut) freed.memory b.named freed.rest.stands freed.rest.map in
          rw c.frames_of-volume.ensures.same
          (deleted_by layout is c.args.filer.now.runs shapes spaces x _ _ books c.args.id c.requires.client f found hidden _ _ _ _ c.size.ensures.runs c.size.ensures.beside stands c.in-Ok.pages asked _ _ _ freed _ _ _ c.cut.new.self.runs (rw lay at c.in-Ok-cut.ensures.beside) cut (c.in-Ok-cut.ensures.runs layout.sectors)
          (λ y stood. memory_in_form _ _ y stood (g.met.D.Disk.in_form (disk_of c.cut.new.self) stood.sectors stood.revealed) c.frames_of-volume.ensures.pages));
      cost_sized = λ hidden.
          let freed = (rw (c.size.ensures.beside.layout) at c.in-Ok-free_all.ensures.freed) b.named spaces x (may_free layout is c.args.filer.now.runs shapes spaces x _ _ books c.args.id c.requires.client f found hidden _ _ _ _ c.size.ensures.runs c.size.ensures.beside stands c.in-Ok.pages asked) in
          let three = (rw lay at c.cut.ensures.cost_sized) freed.memory b.named c.in-Ok.pages freed.rest.stands freed.rest.map asked in
          rw c.frames_of-volume.ensures.same (sized_cost (view_of c.args.filer.now).disk.transfers (view_of c.size.new.self).disk.transfers (view_of c.free_all.new.filer).disk.transfers (view_of c.cut.new.self).disk.transfers f.size c.in-Ok.pages (16 + 4 * layout.vam) size c.size.ensures.cost two three);
    }

pub returns-in-Err-clause-writes : goal.returns-in-Err-clause-writes
returns-in-Err-clause-writes g c = map_stops c.size.ensures.beside

pub returns-in-Err-free_all-clause-writes : goal.returns-in-Err-free_all-clause-writes
returns-in-Err-free_all-clause-writes g c = free_stops c.size.ensures.beside c.in-Err-free_all.ensures.writes

pub returns-in-Err-cut-clause-writes : goal.returns-in-Err-cut-clause-writes
returns-in-Err-cut-clause-writes g c =
    let lay = c.in-Ok-free_all.ensures.stays.layout ∙ c.size.ensures.beside.layout in
    delete_stops c.in-Ok.pages c.size.ensures.beside c.in-Ok-free_all.ensures.writes (rw lay at c.in-Err-cut.ensures.beside)

pub returns-clause-writes : goal.returns-clause-writes
returns-clause-writes g c =
    let lay = c.in-Ok-free_all.ensures.stays.layout ∙ c.size.ensures.beside.layout in
    rw c.frames_of-volume.ensures.same (c.in-Ok.pages, delete_makes c.in-Ok.pages c.size.ensures.beside c.in-Ok-free_all.ensures.writes (rw lay at c.in-Ok-cut.ensures.beside))

pub returns-in-Err-clause-fails : goal.returns-in-Err-clause-fails
returns-in-Err-clause-fails g c =
    let layout = (view_of c.args.filer.now).layout in
    let old = (view_of c.args.filer.now).disk in
    let pool = (view_of c.args.filer.now).slots in
    let kept = runs_of layout.sectors c.args.filer.now.runs in
    let pages = IsPageOf layout old pool c.args.id in
    let new = (view_of c.size.new.self).disk in
    record {
      cause = cut_of_free (IsUnframed pool c.args.id) layout kept c.args.id 0 pages old new pool c.in-Err.halt (search_halts_after (keeps_none (IsUnframed pool c.args.id) layout c.args.id old pool kept (λ none. none)) pages new c.in-Err.halt c.in-Err.ensures.cause);
      counted = counted _ _ (view_of c.args.filer.now).disk (view_of c.size.new.self).disk _ (omega arith) c.in-Err.ensures.cause;
      evidence_seen = so_of_map (fits (swapper_of c.args.filer.now) c.requires.size) c.size.ensures.beside.goes.makes c.in-Err.halt c.in-Err.ensures.cause;
    }

pub returns-in-Err-free_all-clause-fails : goal.returns-in-Err-free_all-clause-fails
returns-in-Err-free_all-clause-fails g c = record {
  cause =
      let layout = (view_of c.args.filer.now).layout in
      let old = (view_of c.args.filer.now).disk in
      let pool = (view_of c.args.filer.now).slots in
      let kept = runs_of layout.sectors c.args.filer.now.runs in
      let pages = IsPageOf layout old pool c.args.id in
      let same : runs_of layout.sectors c.size.new.self.runs ≡ kept = ap (runs_of layout.sectors) c.size.ensures.runs in
      let keep = keeps_read (inr c.requires.client) c.size.ensures.beside c.size.ensures.same_bytes (λ r one. inl (subst (IsOneOf r) same one)) in
      let new = (view_of c.free_all.new.filer).disk in
      cut_of_free (IsUnframed pool c.args.id) layout kept c.args.id 0 pages old new pool c.in-Err-free_all.halt (free_halts_before keep (λ p. (p ≡ leader_page) ⊎ (p < c.in-Ok.pages)) pages (λ p h. elim h [ inl leads ↦ inl leads | inr below ↦ inr (λ m named stands map. (c.in-Ok.pages, c.in-Ok.ensures.size m named stands map, below)) ]) c.requires.size new c.in-Err-free_all.halt (rw c.size.ensures.beside.layout at c.in-Err-free_all.ensures.fails.cause));
  counted = counted_then _ _ _ (map_makes c.size.ensures.beside).went.faults c.in-Err-free_all.ensures.fails.counted;
  evidence_seen = search rules;
}

pub returns-in-Err-cut-clause-fails : goal.returns-in-Err-cut-clause-fails
returns-in-Err-cut-clause-fails g c =
    let layout = (view_of c.args.filer.now).layout in
    let old = (view_of c.args.filer.now).disk in
    let pool = (view_of c.args.filer.now).slots in
    let kept = runs_of layout.sectors c.args.filer.now.runs in
    let pages = IsPageOf layout old pool c.args.id in
    let same : runs_of layout.sectors c.size.new.self.runs ≡ kept = ap (runs_of layout.sectors) c.size.ensures.runs in
    let keep = keeps_read (inr c.requires.client) c.size.ensures.beside c.size.ensures.same_bytes (λ r one. inl (subst (IsOneOf r) same one)) in
    let lay : (view_of c.free_all.new.filer).layout ≡ layout = c.in-Ok-free_all.ensures.stays.layout ∙ c.size.ensures.beside.layout in
    let first = (map_makes c.size.ensures.beside).went.faults in
    let second = c.in-Ok-free_all.ensures.writes.makes.went.faults in
    record {
      cause = cut_halts_after (keeps_then keep (rw c.size.ensures.beside.layout at c.in-Ok-free_all.ensures.stays.keeps)) 0 pages (view_of c.cut.new.self).disk (view_of c.cut.new.self).slots c.in-Err-cut.halt (rw lay at c.in-Err-cut.ensures.begun) (rw lay at c.in-Err-cut.ensures.cause);
      counted = counted _ _ (view_of c.free_all.new.filer).disk (view_of c.cut.new.self).disk _ (omega (arith, first, second)) c.in-Err-cut.ensures.cause;
      evidence_seen = so_of_cut (fits (swapper_of c.free_all.new.filer) (search rules)) c.cut.ensures.beside.goes.makes c.in-Err-cut.halt c.in-Err-cut.ensures.cause;
    }

pub returns-in-Err-clause-labels : goal.returns-in-Err-clause-labels
returns-in-Err-clause-labels g c = record { own = relabels_own (map_own c.args.id c.size.ensures.beside); around = syncs_around (quiet_synced true c.size.ensures.beside.goes.makes) }

pub returns-in-Err-free_all-clause-labels : goal.returns-in-Err-free_all-clause-labels
returns-in-Err-free_all-clause-labels g c = record {
  own = own_after (map_own c.args.id c.size.ensures.beside) (some_own c.in-Err-free_all.ensures.writes c.in-Err-free_all.ensures.labels.own);
  around = around_after (quiet_synced false c.size.ensures.beside.goes.makes) (wrote_synced c.in-Err-free_all.ensures.writes.makes c.in-Err-free_all.ensures.labels.around);
}

pub returns-in-Err-cut-clause-labels : goal.returns-in-Err-cut-clause-labels
returns-in-Err-cut-clause-labels g c = record {
  own = own_after (map_own c.args.id c.size.ensures.beside) (own_then (freed_own c.in-Ok-free_all.ensures.writes c.in-Ok-free_all.ensures.labels.own) (map_own c.args.id c.in-Err-cut.ensures.beside));
  around = around_after (quiet_synced false c.size.ensures.beside.goes.makes) (synced_then (wrote_synced c.in-Ok-free_all.ensures.writes.makes c.in-Ok-free_all.ensures.labels.around) (quiet_synced true c.in-Err-cut.ensures.beside.goes.makes));
}

pub returns-clause-labels : goal.returns-clause-labels
returns-clause-labels g c = record {
  own = rw c.frames_of-volume.ensures.same (own_after (map_own c.args.id c.size.ensures.beside) (own_then (freed_own c.in-Ok-free_all.ensures.writes c.in-Ok-free_all.ensures.labels.own) (map_own c.args.id c.in-Ok-cut.ensures.beside)));
  around = rw c.frames_of-volume.ensures.same (around_after (quiet_synced false c.size.ensures.beside.goes.makes) (synced_then (wrote_synced c.in-Ok-free_all.ensures.writes.makes c.in-Ok-free_all.ensures.labels.around) (quiet_synced false c.in-Ok-cut.ensures.beside.goes.makes)));
}

pub returns-in-Err-clause-stays : goal.returns-in-Err-clause-stays
returns-in-Err-clause-stays g c = record { root = freed_some_root (returns-in-Err-clause-writes g c); layout = search rules }

pub returns-in-Err-free_all-clause-stays : goal.returns-in-Err-free_all-clause-stays
returns-in-Err-free_all-clause-stays g c = record { root = freed_some_root (returns-in-Err-free_all-clause-writes g c); layout = search rules }

pub returns-in-Err-cut-clause-stays : goal.returns-in-Err-cut-clause-stays
returns-in-Err-cut-clause-stays g c = record { root = freed_some_root (returns-in-Err-cut-clause-writes g c); layout = search rules }

pub returns-clause-stays : goal.returns-clause-stays
returns-clause-stays g c = record { root = deleted_root (returns-clause-writes g c); layout = search rules }

-- ---- What it keeps to, and the reasons of its halts.

pub returns-in-Err-clause-accounts : goal.returns-in-Err-clause-accounts
returns-in-Err-clause-accounts g c = λ o named k. map_reasons k c.size.ensures.beside.goes.makes (accepted c.args.filer.now) c.in-Err.halt c.in-Err.ensures.cause

pub returns-in-Err-free_all-clause-accounts : goal.returns-in-Err-free_all-clause-accounts
returns-in-Err-free_all-clause-accounts g c = λ o named k.
    subst (λ (l : Layout). ShowsReason o l (view_of c.free_all.new.filer).disk c.in-Err-free_all.halt) c.size.ensures.beside.layout
    (c.in-Err-free_all.ensures.accounts o named (keeps_asked c.args.filer.now.runs c.size.new.self.runs c.size.ensures.runs k c.size.ensures.beside c.size.ensures.same))

pub returns-in-Err-cut-clause-accounts : goal.returns-in-Err-cut-clause-accounts
returns-in-Err-cut-clause-accounts g c = λ o named k.
    let now = (c.in-Ok-free_all.ensures.accounts o named (keeps_asked c.args.filer.now.runs c.size.new.self.runs c.size.ensures.runs k c.size.ensures.beside c.size.ensures.same)).0 in
    subst (λ (l : Layout). ShowsReason o l (view_of c.cut.new.self).disk c.in-Err-cut.halt) (c.in-Ok-free_all.ensures.stays.layout ∙ c.size.ensures.beside.layout)
    (cut_reasons now c.cut.ensures.beside.goes.makes c.in-Err-cut.halt c.in-Err-cut.ensures.cause (c.in-Err-cut.ensures.right now.memory named now.stands now.map))

pub returns-clause-accounts : goal.returns-clause-accounts
returns-clause-accounts g c = λ o named k.
    let asked = keeps_asked c.args.filer.now.runs c.size.new.self.runs c.size.ensures.runs k c.size.ensures.beside c.size.ensures.same in
    let now = (c.in-Ok-free_all.ensures.accounts o named asked).0 in
    let sized = c.in-Ok.ensures.size k.memory named k.stands k.map in
    rw c.frames_of-volume.ensures.same (
      _,
      keeps_at c.cut.new.self.runs c.cut.ensures.beside.layout (keeps_cut now c.cut.ensures.beside c.args.id 0 (c.cut.ensures.runs (view_of c.free_all.new.filer).layout.sectors)
          (accepted c.free_all.new.filer) (client_leaves o c.args.id c.requires.client) (client_untabled c.args.id c.requires.client)
          (λ page sector may from is. (c.in-Ok-free_all.ensures.accounts o named asked).1 page sector (all_pages sized k.map page sector is) is) c.in-Ok-cut.ensures.cut),
      tables_left named c.args.id 0 c.requires.client,
    )

-- ---- What is on the medium.
