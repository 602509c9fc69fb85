use Rattle.std.proofs.Common.{◌≡◌, inr, true, ℕ, List, Option, ◌+◌, ◌-◌, ◌*◌, ◌<◌, ◌≤◌, sym, ◌∙◌, ap, subst, arith, rules, inl, refl}
use Rattle.std.specs.Prelude.{IfSome}
use Rattle.std.proofs.lemmas.Option.{none-some}
use Rattle.labelled_disk.specs.Sectors.{Sector}
use Rattle.file_map.specs.FileMap.{Triples, IsSize, most_records}
use Rattle.swapper_kernel.specs.Stands.{Stands, labels_of}
use Rattle.session_words.specs.Parts.{Shape}
use Rattle.file_manager.specs.Causes.{NamesNone}
use Rattle.file_manager.specs.Finding.{IsFoundFile, shape_of_leader}
use Rattle.file_manager.proofs.Faults.{counted_then, no_fault}
use Rattle.file_manager.proofs.NextLemmas.{file_id}
use Rattle.file_manager.proofs.SizeSteps.{shape_is, may_grow_now, may_shrink_now, grown_revealed, shrunk_revealed, grew_revealed, some_revealed, grew_none, some_none, grown_makes, grown_stops, shrunk_makes, shrunk_stops, none_resized, room_grown, room_shrunk, grow_cost, shrink_cost}
use Rattle.file_manager.proofs.ResizeStops.{above_size, resize_of_file, resize_of_make, resize_of_shrink}
use Rattle.file_manager.proofs.MakeStops.{LeavesUnnamed, make_halts_before}
use Rattle.file_manager.specs.Taking.{no_page_of}
use Rattle.file_manager.proofs.CutCauses.{shrink_halts_after}
use Rattle.filer_kernel.specs.Cached.{runs_of}
use Rattle.label_calls.specs.OwnLaws.{relabels_own, quiet_own}
use Rattle.file_manager.proofs.OwnSteps.{grown_own, grew_own, freed_own, some_own, own_after}
use Rattle.filer_kernel.specs.Triples.{MapIs}
use Rattle.file_manager.specs.declared.finding.FoundFile.{FoundFile}
use Rattle.file_manager.proofs.RootCalls.{quiet_root, file_no_root, resized_root, resized_some_root}
use Rattle.labelled_disk.specs.declared.layout.Layout.{Layout}
use Rattle.labelled_disk.specs.Label.{leader_page}
use Rattle.file_manager.specs.KeepLaws.{named_takes}
use Rattle.file_manager.specs.Reasons.{ShowsReason}
use Rattle.file_manager.specs.ReasonLaws.{missing_reason}
use Rattle.file_manager.proofs.KeepCut.{none_above}
use Rattle.label_calls.specs.ClearedLaws.{later_after_sync, quiet_after}
use Rattle.file_manager.proofs.SyncSteps.{freeing_bare, labels_after, quiet_before}
use Rattle.file_manager.specs.Synced.{SyncsQuietly}
use Rattle.labelled_disk.specs.Label.{is_permanent}
use Rattle.file_manager.proofs.resizing.set_size.Goals as goal
use Rattle.filer_kernel.specs.View.{view_of}

pub find_file-requires-clause-client : goal.find_file-requires-clause-client
find_file-requires-clause-client g c = file_id c.args.id c.requires.of_file

pub returns-in-Ok-None-clause-resized : goal.returns-in-Ok-None-clause-resized
returns-in-Ok-None-clause-resized g c = λ x shapes spaces f books found.
    let none = subst (IsFoundFile (labels_of x) shapes c.args.id) c.in-Ok-None.field-0-is (c.in-Ok-None.ensures.revealed 96 x shapes spaces books).0 in
    absurd (none-some f (sym none ∙ found))

pub returns-in-Err-clause-resized : goal.returns-in-Err-clause-resized
returns-in-Err-clause-resized g c = λ x shapes spaces f books found.
    let asked = c.in-Err.ensures.revealed 96 x shapes spaces books in
    let first = c.find_file.ensures.cost in
    record {
      grown = λ may few. (asked.0, grew_none c.find_file.ensures.stays.makes);
      shrunk = λ may. (asked.0, some_none c.find_file.ensures.stays.makes);
      cost = omega (arith, first);
      after_sync = λ permanent. quiet_after c.find_file.ensures.stays.makes;
      synced = λ permanent less. tt;
    }

pub returns-in-Ok-clause-resized : goal.returns-in-Ok-clause-resized
returns-in-Ok-clause-resized g c =
    let here : c.in-Ok-Some.file.pages ≤ c.args.pages = search rules in
    λ x shapes spaces f books found.
    let asked = c.in-Ok-Some.ensures.revealed 96 x shapes spaces books in
    let led = subst (IsFoundFile (labels_of x) shapes c.args.id) c.in-Ok-Some.field-0-is asked.0 in
    let same : f ≡ shape_of_leader c.in-Ok-Some.file.leader c.in-Ok-Some.file.pages = shape_is shapes c.args.id f c.in-Ok-Some.file.leader c.in-Ok-Some.file.pages found led.1 in
    let size = ap (λ (w : Shape). w.size) same in
    let kept = ap (λ (w : Shape). w.permanent) same in
    let few : c.args.pages - c.in-Ok-Some.file.pages ≤ ((c.args.pages - f.size) + (f.size - c.args.pages)) = omega (arith, size) in
    record {
      grown = λ may fewer.
          let grew = (rw c.find_file.ensures.stays.layout at c.in-Ok.ensures.grown) x shapes spaces f (may_grow_now books asked.1 may) size in
          (grown_revealed books asked.1 c.find_file.ensures.stays.makes c.find_file.ensures.stays.brings f c.in-Ok-Some.file.leader c.in-Ok-Some.file.pages same c.args.id c.args.pages grew, rw size c.in-Ok.ensures.volume);
      shrunk = λ may. let fewer = may.fewer in absurd (omega (arith, here, size, fewer));
      cost = grow_cost (view_of c.args.filer.now).disk.transfers (view_of c.find_file.new.filer).disk.transfers (view_of c.grow.new.filer).disk.transfers (c.args.pages - c.in-Ok-Some.file.pages) ((c.args.pages - f.size) + (f.size - c.args.pages)) (view_of c.args.filer.now).layout.vam (102 * most_records (view_of c.args.filer.now).layout.sectors) few c.find_file.ensures.cost (rw c.find_file.ensures.stays.layout at c.grow.ensures.cost);
      after_sync = λ permanent. later_after_sync c.find_file.ensures.stays.makes c.in-Ok.ensures.writes.makes (c.in-Ok.ensures.cleared (sym kept ∙ permanent));
      synced = λ permanent less. absurd (omega (arith, here, less, size));
    }

pub returns-in-Err-grow-clause-resized : goal.returns-in-Err-grow-clause-resized
returns-in-Err-grow-clause-resized g c =
    let here : c.in-Ok-Some.file.pages ≤ c.args.pages = search rules in
    λ x shapes spaces f books found.
    let asked = c.in-Ok-Some.ensures.revealed 96 x shapes spaces books in
    let led = subst (IsFoundFile (labels_of x) shapes c.args.id) c.in-Ok-Some.field-0-is asked.0 in
    let same : f ≡ shape_of_leader c.in-Ok-Some.file.leader c.in-Ok-Some.file.pages = shape_is shapes c.args.id f c.in-Ok-Some.file.leader c.in-Ok-Some.file.pages found led.1 in
    let size = ap (λ (w : Shape). w.size) same in
    let kept = ap (λ (w : Shape). w.permanent) same in
    let few : c.args.pages - c.in-Ok-Some.file.pages ≤ ((c.args.pages - f.size) + (f.size - c.args.pages)) = omega (arith, size) in
    record {
      grown = λ may fewer.
          let grew = (rw c.find_file.ensures.stays.layout at c.in-Err-grow.ensures.grown) x shapes spaces f (may_grow_now books asked.1 may) size in
          (grew.0, grew_revealed c.find_file.ensures.stays.makes f c.in-Ok-Some.file.leader c.in-Ok-Some.file.pages same c.args.id c.args.pages grew.1);
      shrunk = λ may. let fewer = may.fewer in absurd (omega (arith, here, size, fewer));
      cost = grow_cost (view_of c.args.filer.now).disk.transfers (view_of c.find_file.new.filer).disk.transfers (view_of c.grow.new.filer).disk.transfers (c.args.pages - c.in-Ok-Some.file.pages) ((c.args.pages - f.size) + (f.size - c.args.pages)) (view_of c.args.filer.now).layout.vam (102 * most_records (view_of c.args.filer.now).layout.sectors) few c.find_file.ensures.cost (rw c.find_file.ensures.stays.layout at c.grow.ensures.cost);
      after_sync = λ permanent. later_after_sync c.find_file.ensures.stays.makes c.in-Err-grow.ensures.writes.makes (c.in-Err-grow.ensures.cleared (sym kept ∙ permanent));
      synced = λ permanent less. tt;
    }

pub returns-in-Ok-shrink-clause-resized : goal.returns-in-Ok-shrink-clause-resized
returns-in-Ok-shrink-clause-resized g c =
    let here : c.args.pages < c.in-Ok-Some.file.pages = search rules in
    λ x shapes spaces f books found.
    let asked = c.in-Ok-Some.ensures.revealed 96 x shapes spaces books in
    let led = subst (IsFoundFile (labels_of x) shapes c.args.id) c.in-Ok-Some.field-0-is asked.0 in
    let same : f ≡ shape_of_leader c.in-Ok-Some.file.leader c.in-Ok-Some.file.pages = shape_is shapes c.args.id f c.in-Ok-Some.file.leader c.in-Ok-Some.file.pages found led.1 in
    let size = ap (λ (w : Shape). w.size) same in
    let kept = ap (λ (w : Shape). w.permanent) same in
    let synced = subst (λ (o : Option FoundFile). IfSome o (λ file. is_permanent file.leader ≡ true → SyncsQuietly (view_of c.args.filer.now).disk (view_of c.find_file.new.filer).disk)) c.in-Ok-Some.field-0-is (c.in-Ok-Some.ensures.synced refl) in
    let few : c.in-Ok-Some.file.pages - c.args.pages ≤ ((c.args.pages - f.size) + (f.size - c.args.pages)) = omega (arith, size) in
    record {
      grown = λ may few. absurd (omega (arith, here, size, few));
      shrunk = λ may.
          let less = (rw c.find_file.ensures.stays.layout at c.in-Ok-shrink.ensures.shrunk) x shapes spaces f (may_shrink_now books asked.1 may) size led.0 in
          (shrunk_revealed books asked.1 c.find_file.ensures.stays.makes c.find_file.ensures.stays.brings f c.in-Ok-Some.file.leader c.in-Ok-Some.file.pages same c.args.id c.args.pages less, rw size c.in-Ok-shrink.ensures.volume);
      cost = shrink_cost (view_of c.args.filer.now).disk.transfers (view_of c.find_file.new.filer).disk.transfers (view_of c.shrink.new.filer).disk.transfers (c.in-Ok-Some.file.pages - c.args.pages) ((c.args.pages - f.size) + (f.size - c.args.pages)) (view_of c.args.filer.now).layout.vam (most_records (view_of c.args.filer.now).layout.sectors) few c.find_file.ensures.cost (rw c.find_file.ensures.stays.layout at c.shrink.ensures.cost);
      after_sync = λ permanent. let made = c.in-Ok-shrink.ensures.writes in labels_after (freeing_bare made.sectors) (synced (sym kept ∙ permanent)) made.makes;
      synced = λ permanent less. quiet_before c.find_file.ensures.stays.makes c.in-Ok-shrink.ensures.writes.makes (c.in-Ok-shrink.ensures.labels.1 (sym kept ∙ permanent));
    }

pub returns-in-Err-shrink-clause-resized : goal.returns-in-Err-shrink-clause-resized
returns-in-Err-shrink-clause-resized g c =
    let here : c.args.pages < c.in-Ok-Some.file.pages = search rules in
    λ x shapes spaces f books found.
    let asked = c.in-Ok-Some.ensures.revealed 96 x shapes spaces books in
    let led = subst (IsFoundFile (labels_of x) shapes c.args.id) c.in-Ok-Some.field-0-is asked.0 in
    let same : f ≡ shape_of_leader c.in-Ok-Some.file.leader c.in-Ok-Some.file.pages = shape_is shapes c.args.id f c.in-Ok-Some.file.leader c.in-Ok-Some.file.pages found led.1 in
    let size = ap (λ (w : Shape). w.size) same in
    let kept = ap (λ (w : Shape). w.permanent) same in
    let synced = subst (λ (o : Option FoundFile). IfSome o (λ file. is_permanent file.leader ≡ true → SyncsQuietly (view_of c.args.filer.now).disk (view_of c.find_file.new.filer).disk)) c.in-Ok-Some.field-0-is (c.in-Ok-Some.ensures.synced refl) in
    let few : c.in-Ok-Some.file.pages - c.args.pages ≤ ((c.args.pages - f.size) + (f.size - c.args.pages)) = omega (arith, size) in
    record {
      grown = λ may few. absurd (omega (arith, here, size, few));
      shrunk = λ may.
          let less = (rw c.find_file.ensures.stays.layout at c.in-Err-shrink.ensures.shrunk) x shapes spaces f (may_shrink_now books asked.1 may) size led.0 in
          (less.0, some_revealed c.find_file.ensures.stays.makes f c.in-Ok-Some.file.leader c.in-Ok-Some.file.pages same c.args.id c.args.pages less.1);
      cost = shrink_cost (view_of c.args.filer.now).disk.transfers (view_of c.find_file.new.filer).disk.transfers (view_of c.shrink.new.filer).disk.transfers (c.in-Ok-Some.file.pages - c.args.pages) ((c.args.pages - f.size) + (f.size - c.args.pages)) (view_of c.args.filer.now).layout.vam (most_records (view_of c.args.filer.now).layout.sectors) few c.find_file.ensures.cost (rw c.find_file.ensures.stays.layout at c.shrink.ensures.cost);
      after_sync = λ permanent. let made = c.in-Err-shrink.ensures.writes in labels_after (freeing_bare made.sectors) (synced (sym kept ∙ permanent)) made.makes;
      synced = λ permanent less. tt;
    }

pub returns-in-Ok-None-clause-writes : goal.returns-in-Ok-None-clause-writes
returns-in-Ok-None-clause-writes g c = none_resized c.args.id c.args.pages c.find_file.ensures.stays.makes

pub returns-in-Err-clause-writes : goal.returns-in-Err-clause-writes
returns-in-Err-clause-writes g c = none_resized c.args.id c.args.pages c.find_file.ensures.stays.makes

pub returns-in-Ok-clause-writes : goal.returns-in-Ok-clause-writes
returns-in-Ok-clause-writes g c = let here : c.in-Ok-Some.file.pages ≤ c.args.pages = search rules in grown_makes c.find_file.ensures.stays.makes c.args.id c.in-Ok-Some.file.leader.kind c.in-Ok-Some.file.pages c.args.pages here c.in-Ok.ensures.writes

pub returns-in-Err-grow-clause-writes : goal.returns-in-Err-grow-clause-writes
returns-in-Err-grow-clause-writes g c = grown_stops c.find_file.ensures.stays.makes c.args.id c.in-Ok-Some.file.leader.kind c.in-Ok-Some.file.pages c.args.pages c.in-Err-grow.ensures.writes

pub returns-in-Ok-shrink-clause-writes : goal.returns-in-Ok-shrink-clause-writes
returns-in-Ok-shrink-clause-writes g c = let here : c.args.pages < c.in-Ok-Some.file.pages = search rules in shrunk_makes c.find_file.ensures.stays.makes c.args.id c.in-Ok-Some.file.pages c.args.pages here c.in-Ok-shrink.ensures.writes

pub returns-in-Err-shrink-clause-writes : goal.returns-in-Err-shrink-clause-writes
returns-in-Err-shrink-clause-writes g c = shrunk_stops c.find_file.ensures.stays.makes c.args.id c.args.pages c.in-Err-shrink.ensures.writes

pub returns-in-Ok-clause-cost : goal.returns-in-Ok-clause-cost
returns-in-Ok-clause-cost g c =
    let fits = c.ranges.pages.fits in
    let few : c.args.pages - c.in-Ok-Some.file.pages ≤ 4294967295 = omega (arith, fits) in
    grow_cost (view_of c.args.filer.now).disk.transfers (view_of c.find_file.new.filer).disk.transfers (view_of c.grow.new.filer).disk.transfers (c.args.pages - c.in-Ok-Some.file.pages) 4294967295 (view_of c.args.filer.now).layout.vam (102 * most_records (view_of c.args.filer.now).layout.sectors) few c.find_file.ensures.cost (rw c.find_file.ensures.stays.layout at c.grow.ensures.cost)

pub returns-in-Err-grow-clause-cost : goal.returns-in-Err-grow-clause-cost
returns-in-Err-grow-clause-cost g c =
    let fits = c.ranges.pages.fits in
    let few : c.args.pages - c.in-Ok-Some.file.pages ≤ 4294967295 = omega (arith, fits) in
    grow_cost (view_of c.args.filer.now).disk.transfers (view_of c.find_file.new.filer).disk.transfers (view_of c.grow.new.filer).disk.transfers (c.args.pages - c.in-Ok-Some.file.pages) 4294967295 (view_of c.args.filer.now).layout.vam (102 * most_records (view_of c.args.filer.now).layout.sectors) few c.find_file.ensures.cost (rw c.find_file.ensures.stays.layout at c.grow.ensures.cost)

pub returns-in-Ok-shrink-clause-cost : goal.returns-in-Ok-shrink-clause-cost
returns-in-Ok-shrink-clause-cost g c =
    let fits : c.in-Ok-Some.file.pages < 4294967296 = search rules in
    let few : c.in-Ok-Some.file.pages - c.args.pages ≤ 4294967295 = omega (arith, fits) in
    shrink_cost (view_of c.args.filer.now).disk.transfers (view_of c.find_file.new.filer).disk.transfers (view_of c.shrink.new.filer).disk.transfers (c.in-Ok-Some.file.pages - c.args.pages) 4294967295 (view_of c.args.filer.now).layout.vam (most_records (view_of c.args.filer.now).layout.sectors) few c.find_file.ensures.cost (rw c.find_file.ensures.stays.layout at c.shrink.ensures.cost)

pub returns-in-Err-shrink-clause-cost : goal.returns-in-Err-shrink-clause-cost
returns-in-Err-shrink-clause-cost g c =
    let fits : c.in-Ok-Some.file.pages < 4294967296 = search rules in
    let few : c.in-Ok-Some.file.pages - c.args.pages ≤ 4294967295 = omega (arith, fits) in
    shrink_cost (view_of c.args.filer.now).disk.transfers (view_of c.find_file.new.filer).disk.transfers (view_of c.shrink.new.filer).disk.transfers (c.in-Ok-Some.file.pages - c.args.pages) 4294967295 (view_of c.args.filer.now).layout.vam (most_records (view_of c.args.filer.now).layout.sectors) few c.find_file.ensures.cost (rw c.find_file.ensures.stays.layout at c.shrink.ensures.cost)

pub returns-in-Ok-None-clause-fails : goal.returns-in-Ok-None-clause-fails
returns-in-Ok-None-clause-fails g c = record {
  cause = inl (refl, refl, c.find_file.ensures.missing (search rules));
  counted = no_fault;
  evidence_seen = inr (file_id c.args.id c.requires.of_file);
}

pub returns-in-Err-clause-fails : goal.returns-in-Err-clause-fails
returns-in-Err-clause-fails g c = record {
  cause =
      let layout = (view_of c.args.filer.now).layout in
      let old = (view_of c.args.filer.now).disk in
      let pool = (view_of c.args.filer.now).slots in
      let kept = runs_of layout.sectors c.args.filer.now.runs in
      resize_of_file layout kept c.args.id c.args.pages old (view_of c.find_file.new.filer).disk pool (view_of c.find_file.new.filer).slots c.in-Err.halt c.in-Err.ensures.fails.cause;
  counted = c.in-Err.ensures.fails.counted;
  evidence_seen = search rules;
}

pub returns-in-Err-grow-clause-fails : goal.returns-in-Err-grow-clause-fails
returns-in-Err-grow-clause-fails g c = record {
  cause =
      let layout = (view_of c.args.filer.now).layout in
      let old = (view_of c.args.filer.now).disk in
      let pool = (view_of c.args.filer.now).slots in
      let kept = runs_of layout.sectors c.args.filer.now.runs in
      let more = λ (p : ℕ). (c.in-Ok-Some.file.pages ≤ p) × (p < c.args.pages) in
      let sized = λ (m : List Sector) (named : Triples) (stands : Stands old pool m) (map : MapIs layout named m). subst (λ (o : Option FoundFile). IfSome o (λ file. IsSize named c.args.id file.pages)) c.in-Ok-Some.field-0-is ((c.in-Ok-Some.ensures.named m named stands map).0) in
      let new = (view_of c.grow.new.filer).disk in
      let leaves : LeavesUnnamed layout c.args.id no_page_of more no_page_of old pool = record { own = λ m named stands map none page sector not. absurd not; next = λ m named later stands map none adds. above_size layout kept c.args.id c.args.pages old new pool (view_of c.grow.new.filer).slots c.in-Ok-Some.file.pages named later c.requires.numbers (sized m named stands map) adds } in
      let fresh : (p : ℕ) → more p → (p < c.args.pages) × NamesNone layout old pool c.args.id p = λ p own. (own.1, λ m named stands map sector. none_above named c.args.id c.in-Ok-Some.file.pages c.args.pages (let few = c.requires.numbers in omega (arith, few)) (sized m named stands map) p sector own) in
      resize_of_make layout kept c.args.id c.args.pages old new pool (view_of c.grow.new.filer).slots c.in-Err-grow.halt (make_halts_before no_page_of more no_page_of c.find_file.ensures.stays.makes c.in-Ok-Some.ensures.takes leaves more (λ p. (p < c.args.pages) × NamesNone layout old pool c.args.id p) fresh (λ p own not. not) (inl (λ none. c.find_file.ensures.stays.same_bytes)) (view_of c.grow.new.filer).disk (view_of c.grow.new.filer).slots c.in-Err-grow.halt (rw c.find_file.ensures.stays.layout at c.in-Err-grow.ensures.fails.cause));
  counted = counted_then _ _ _ c.find_file.ensures.stays.makes.went.faults c.in-Err-grow.ensures.fails.counted;
  evidence_seen = search rules;
}

pub returns-in-Err-shrink-clause-fails : goal.returns-in-Err-shrink-clause-fails
returns-in-Err-shrink-clause-fails g c = record {
  cause =
      let layout = (view_of c.args.filer.now).layout in
      let old = (view_of c.args.filer.now).disk in
      let pool = (view_of c.args.filer.now).slots in
      let kept = runs_of layout.sectors c.args.filer.now.runs in
      let pages = λ (p : ℕ). (c.args.pages ≤ p) × (p < c.in-Ok-Some.file.pages) in
      let sized = λ (m : List Sector) (named : Triples) (stands : Stands old pool m) (map : MapIs layout named m). subst (λ (o : Option FoundFile). IfSome o (λ file. IsSize named c.args.id file.pages)) c.in-Ok-Some.field-0-is ((c.in-Ok-Some.ensures.named m named stands map).0) in
      resize_of_shrink layout kept c.args.id c.args.pages old (view_of c.shrink.new.filer).disk pool (view_of c.shrink.new.filer).slots c.in-Ok-Some.file.pages (λ p below m named stands map. (c.in-Ok-Some.file.pages, sized m named stands map, below)) c.in-Err-shrink.halt (shrink_halts_after c.find_file.ensures.stays.keeps c.requires.sectors c.args.pages pages pages (λ p own. own) (view_of c.shrink.new.filer).disk (view_of c.shrink.new.filer).slots c.in-Err-shrink.halt (rw c.find_file.ensures.stays.layout at c.in-Err-shrink.ensures.fails.cause));
  counted = counted_then _ _ _ c.find_file.ensures.stays.makes.went.faults c.in-Err-shrink.ensures.fails.counted;
  evidence_seen = search rules;
}

pub returns-in-Ok-clause-volume : goal.returns-in-Ok-clause-volume
returns-in-Ok-clause-volume g c = record {
  same_numbers = search rules;
  same_volume = search rules;
  room = λ within. room_grown c.args.volume.now c.grow.new.volume (c.args.pages - c.in-Ok-Some.file.pages) c.in-Ok.ensures.volume;
}

pub returns-in-Ok-shrink-clause-volume : goal.returns-in-Ok-shrink-clause-volume
returns-in-Ok-shrink-clause-volume g c = record {
  same_numbers = search rules;
  same_volume = search rules;
  room = room_shrunk c.args.volume.now c.shrink.new.volume (c.in-Ok-Some.file.pages - c.args.pages) c.in-Ok-shrink.ensures.volume;
}

pub returns-in-Ok-None-clause-own : goal.returns-in-Ok-None-clause-own
returns-in-Ok-None-clause-own g c = relabels_own (quiet_own c.args.id c.find_file.ensures.stays.makes)

pub returns-in-Err-clause-own : goal.returns-in-Err-clause-own
returns-in-Err-clause-own g c = relabels_own (quiet_own c.args.id c.find_file.ensures.stays.makes)

pub returns-in-Ok-clause-own : goal.returns-in-Ok-clause-own
returns-in-Ok-clause-own g c = own_after (quiet_own c.args.id c.find_file.ensures.stays.makes) (grown_own c.args.id c.in-Ok.ensures.writes)

pub returns-in-Err-grow-clause-own : goal.returns-in-Err-grow-clause-own
returns-in-Err-grow-clause-own g c = own_after (quiet_own c.args.id c.find_file.ensures.stays.makes) (grew_own c.args.id c.in-Err-grow.ensures.writes)

pub returns-in-Ok-shrink-clause-own : goal.returns-in-Ok-shrink-clause-own
returns-in-Ok-shrink-clause-own g c = own_after (quiet_own c.args.id c.find_file.ensures.stays.makes) (freed_own c.in-Ok-shrink.ensures.writes c.in-Ok-shrink.ensures.labels.0)

pub returns-in-Err-shrink-clause-own : goal.returns-in-Err-shrink-clause-own
returns-in-Err-shrink-clause-own g c = own_after (quiet_own c.args.id c.find_file.ensures.stays.makes) (some_own c.in-Err-shrink.ensures.writes c.in-Err-shrink.ensures.labels.0)

pub returns-in-Ok-None-clause-stays : goal.returns-in-Ok-None-clause-stays
returns-in-Ok-None-clause-stays g c = record { root = quiet_root c.find_file.ensures.stays.makes; layout = search rules }

pub returns-in-Err-clause-stays : goal.returns-in-Err-clause-stays
returns-in-Err-clause-stays g c = record { root = quiet_root c.find_file.ensures.stays.makes; layout = search rules }

pub returns-in-Ok-clause-stays : goal.returns-in-Ok-clause-stays
returns-in-Ok-clause-stays g c = record {
  root = resized_root (file_no_root c.args.id (file_id c.args.id c.requires.of_file)) (returns-in-Ok-clause-writes g c);
  layout = search rules;
}

pub returns-in-Err-grow-clause-stays : goal.returns-in-Err-grow-clause-stays
returns-in-Err-grow-clause-stays g c = record {
  root = resized_some_root c.args.pages (file_no_root c.args.id (file_id c.args.id c.requires.of_file)) (returns-in-Err-grow-clause-writes g c);
  layout = search rules;
}

pub returns-in-Ok-shrink-clause-stays : goal.returns-in-Ok-shrink-clause-stays
returns-in-Ok-shrink-clause-stays g c = record {
  root = resized_root (file_no_root c.args.id (file_id c.args.id c.requires.of_file)) (returns-in-Ok-shrink-clause-writes g c);
  layout = search rules;
}

pub returns-in-Err-shrink-clause-stays : goal.returns-in-Err-shrink-clause-stays
returns-in-Err-shrink-clause-stays g c = record {
  root = resized_some_root c.args.pages (file_no_root c.args.id (file_id c.args.id c.requires.of_file)) (returns-in-Err-shrink-clause-writes g c);
  layout = search rules;
}

-- ---- What it keeps to, and the reasons of its halts.

pub returns-in-Err-clause-accounts : goal.returns-in-Err-clause-accounts
returns-in-Err-clause-accounts g c = c.in-Err.ensures.accounts

pub returns-in-Ok-None-clause-accounts : goal.returns-in-Ok-None-clause-accounts
returns-in-Ok-None-clause-accounts g c = λ o named k. missing_reason k c.find_file.ensures.stays.makes c.args.id leader_page (file_id c.args.id c.requires.of_file) (c.find_file.ensures.missing (search rules))

pub returns-in-Ok-clause-accounts : goal.returns-in-Ok-clause-accounts
returns-in-Ok-clause-accounts g c = λ o named k.
    let sized = subst (λ (o : Option FoundFile). IfSome o (λ file. IsSize named c.args.id file.pages)) c.in-Ok-Some.field-0-is ((c.in-Ok-Some.ensures.named k.memory named k.stands k.map).0) in
    let none = none_above named c.args.id c.in-Ok-Some.file.pages c.args.pages (let few = c.requires.numbers in omega (arith, few)) sized in
    let led = subst (λ (o : Option FoundFile). IfSome o (λ file. named c.args.id leader_page file.sector ≡ true)) c.in-Ok-Some.field-0-is ((c.in-Ok-Some.ensures.named k.memory named k.stands k.map).1 k.kept) in
    c.in-Ok.ensures.accounts o named (c.in-Ok-Some.ensures.accounts o named k) (named_takes k c.args.id leader_page c.in-Ok-Some.file.sector led) none

pub returns-in-Err-grow-clause-accounts : goal.returns-in-Err-grow-clause-accounts
returns-in-Err-grow-clause-accounts g c = λ o named k.
    let sized = subst (λ (o : Option FoundFile). IfSome o (λ file. IsSize named c.args.id file.pages)) c.in-Ok-Some.field-0-is ((c.in-Ok-Some.ensures.named k.memory named k.stands k.map).0) in
    let none = none_above named c.args.id c.in-Ok-Some.file.pages c.args.pages (let few = c.requires.numbers in omega (arith, few)) sized in
    let led = subst (λ (o : Option FoundFile). IfSome o (λ file. named c.args.id leader_page file.sector ≡ true)) c.in-Ok-Some.field-0-is ((c.in-Ok-Some.ensures.named k.memory named k.stands k.map).1 k.kept) in
    subst (λ (l : Layout). ShowsReason o l (view_of c.grow.new.filer).disk c.in-Err-grow.halt) c.find_file.ensures.stays.layout (c.in-Err-grow.ensures.accounts o named (c.in-Ok-Some.ensures.accounts o named k) (named_takes k c.args.id leader_page c.in-Ok-Some.file.sector led) none)

pub returns-in-Ok-shrink-clause-accounts : goal.returns-in-Ok-shrink-clause-accounts
returns-in-Ok-shrink-clause-accounts g c = λ o named k.
    let led = subst (λ (o : Option FoundFile). IfSome o (λ file. named c.args.id leader_page file.sector ≡ true)) c.in-Ok-Some.field-0-is ((c.in-Ok-Some.ensures.named k.memory named k.stands k.map).1 k.kept) in
    let sized = subst (λ (o : Option FoundFile). IfSome o (λ file. IsSize named c.args.id file.pages)) c.in-Ok-Some.field-0-is ((c.in-Ok-Some.ensures.named k.memory named k.stands k.map).0) in
    c.in-Ok-shrink.ensures.accounts o named (c.in-Ok-Some.ensures.accounts o named k) led (none_above named c.args.id c.in-Ok-Some.file.pages 4294967295 (omega arith) sized)

pub returns-in-Err-shrink-clause-accounts : goal.returns-in-Err-shrink-clause-accounts
returns-in-Err-shrink-clause-accounts g c = λ o named k.
    let led = subst (λ (o : Option FoundFile). IfSome o (λ file. named c.args.id leader_page file.sector ≡ true)) c.in-Ok-Some.field-0-is ((c.in-Ok-Some.ensures.named k.memory named k.stands k.map).1 k.kept) in
    subst (λ (l : Layout). ShowsReason o l (view_of c.shrink.new.filer).disk c.in-Err-shrink.halt) c.find_file.ensures.stays.layout (c.in-Err-shrink.ensures.accounts o named (c.in-Ok-Some.ensures.accounts o named k) led)

-- ---- What is on the medium.
