-- What the freeing of the last run leads to.
use Rattle.std.proofs.Common.{◌≡◌, inl, inr, ⊎_elim, ℕ, ◌+◌, ◌-◌, ◌<◌, ◌≤◌, true, false, List, [], ◌++◌, length, take, Some, refl, sym, ◌∙◌, ap, subst, arith}
use Rattle.std.specs.Prelude.{slice_get, ◌==◌, ◌&&◌, nat_le, nat_lt}
use Rattle.std.proofs.lemmas.Option.{same_Some}
use Rattle.std.proofs.lemmas.Bool.{and_parts, ltb-true}
use Rattle.std.proofs.lemmas.Bool.Decides.{nat_tests}
use Rattle.labelled_disk.specs.declared.disk.DiskWrite.{DiskWrite}
use Rattle.labelled_disk.specs.declared.label.Label.{Label}
use Rattle.labelled_disk.specs.declared.layout.Layout.{Layout}
use Rattle.labelled_disk.specs.Label.{names}
use Rattle.labelled_disk.specs.Runs.{freeing}
use Rattle.labelled_disk.specs.Sectors.{Sector}
use Rattle.labelled_disk.specs.State.{DiskState}
use Rattle.labelled_disk.specs.WriteRuns.{after_writes}
use Rattle.frame_pool.specs.declared.home.Home.{Home}
use Rattle.frame_pool.specs.Frames.{Slots}
use Rattle.file_map.specs.declared.run.Run.{Run}
use Rattle.file_map.specs.Run.{holds}
use Rattle.file_map.specs.FileMap.{Triples, IsFound}
use Rattle.flat_machine.specs.declared.space.Space.{Space}
use Rattle.swapper_kernel.specs.declared.manager.Manager.{Manager}
use Rattle.swapper_kernel.specs.declared.manager.Manager.TheVariants.{AllocationMap, FileMap}
use Rattle.swapper_kernel.specs.Maps.{IsMapHome}
use Rattle.swapper_kernel.specs.Homes.{IsLayout, IsNamed, wanted_at}
use Rattle.swapper_kernel.specs.Stands.{Stands, labels_of}
use Rattle.swapper_kernel.specs.DiffersLaws.{label_here, sector_of_label, same_length, names_id, names_page}
use Rattle.swapper_kernel.specs.Goes.{Makes, Goes}
use Rattle.swapper_kernel.specs.GoesLaws.{makes_then, makes_wider, makes_nothing, goes_then}
use Rattle.swapper_kernel.specs.HaltLaws.{brings_then}
use Rattle.swapper_kernel.specs.Window.{Beside, in_map}
use Rattle.label_calls.specs.Labels.{ones_of}
use Rattle.label_calls.specs.Runs.{AreUncovered, HaveOnes, RelabelsRun, MadeSome}
use Rattle.filer_kernel.specs.declared.cached.CachedRuns.{CachedRuns}
use Rattle.filer_kernel.specs.Cached.{runs_of}
use Rattle.filer_kernel.specs.Becomes.{Becomes}
use Rattle.filer_kernel.specs.Marks.{Marks, BitsAre, marked}
use Rattle.filer_kernel.specs.Triples.{MapIs, AreOf}
use Rattle.session_words.specs.FrameLaws.{IsThere, is_shown}
use Rattle.session_words.specs.Volume.{volume_page}
use Rattle.session_words.proofs.FrameLemmas.{frame_laws}
use Rattle.file_manager.specs.Book.{BringsOwn}
use Rattle.file_manager.specs.Freeing.{IsNone, FreesSectors, HasPageAt, MayFree, NamesAll, MakesFree, MakesSomeFree}
use Rattle.file_manager.specs.Shrinking.{IsLastPart, FreedDown, StoppedDown, AreNamedDown, run_down}
use Rattle.file_manager.proofs.BookLemmas.{known_after}
use Rattle.file_manager.proofs.FreedSectors.{labels_at, freed_elsewhere, freed_long, freed_here, freeing_append, long_append, take_freeing, frees_then, frees_none}
use Rattle.file_manager.proofs.FreedRun.{hidden_then, one_memory, map_makes, map_brings, append_none, shows_still, after_map, first_is, map_low}
use Rattle.file_manager.proofs.DownLemmas.{down_has, down_long, down_clears, run_named, down_append, down_take, take_few}

module _ (layout : Layout) (is : IsLayout layout) (named : Triples) (spaces : List Space) (id from end : ℕ) (file : 16 ≤ id) (m : List Sector) (d0 : DiskState) (s0 : Slots) (kept : CachedRuns)
    (may : MayFree d0 s0 layout kept named spaces id from end m) (run : Run) (part : IsLastPart layout.sectors id from end run) (all : NamesAll named run)
    (d1 : DiskState) (s1 : Slots) (l1 : Layout) (beside : Beside FileMap d0 s0 layout d1 s1 l1) (stands : Stands d1 s1 m) where
  pub named_run : (k : ℕ) → k < run.pages → named id (run.first + k) (run.sector + k) ≡ true
  named_run k below = ap (λ (i : ℕ). named i (run.first + k) (run.sector + k)) (sym part.same_id) ∙ all k below

  run_label : (k : ℕ) → k < run.pages → HasPageAt layout m id (run.first + k) (run.sector + k)
  run_label k below =
      let above = part.above in
      let reaches = part.reaches in
      may.labelled (run.first + k) (run.sector + k) (omega (arith, above)) (omega (arith, reaches, below)) (named_run k below)

  above_maps : layout.first ≤ run.sector
  above_maps =
      let some = part.form.some in
      let first : layout.first ≤ run.sector + 0 = (run_label 0 (omega (arith, some))).0 in
      omega (arith, first)

  pub none_over : AreUncovered s1 run.sector run.pages
  none_over k below i f has at =
      let one = (run_label k below).1 in
      let own : one.0.0.id ≡ id = names_id one.0.0 (record { id = id; page = run.first + k }) one.2 in
      ⊎_elim
      (λ (h : (16 ≤ id) × ((page : ℕ) → is_shown spaces id page ≡ false)).
      let shown : is_shown spaces one.0.0.id one.0.0.page ≡ false = ap (λ (n : ℕ). is_shown spaces n one.0.0.page) own ∙ h.1 one.0.0.page in
      frame_laws.none_over stands.sectors s1 m spaces (run.sector + k) one.0 stands.merged (known_after s0 s1 spaces (map_brings beside) may.frames) one.1 shown (inr (omega (arith, own, file))) i f has at)
      (λ (none : (page : ℕ) → IsThere s1 id page → ⊥).
      let home = stands.merged.frames i f has in
      let label : home.label ≡ one.0.0 = ap (λ (t : Sector). t.0) (same_Some {A = Sector} (home.label, f.bytes) one.0 (sym home.keeps ∙ ap (slice_get m) at ∙ one.1)) in
      let ids : f.home.id ≡ id = sym (names_id home.label (wanted_at f.home) home.named) ∙ ap (λ (l : Label). l.id) label ∙ own in
      none f.home.page (record { slot = i; frame = f; has = has; same_id = ids; same_page = refl }))
      (hidden_then spaces (inr file) beside may.hidden)

  pub ones : HaveOnes (λ k. ones_of (record { id = run.id; page = run.first + k })) m run.sector run.pages
  ones k below =
      let one = (run_label k below).1 in
      (one.0, one.1, ap (λ (i : ℕ). names one.0.0 (record { id = i; page = run.first + k })) part.same_id ∙ one.2)

  pub is_named : AreNamedDown named id end (run_down run)
  is_named = run_named named id run end part.reaches named_run

  pub few_pages : run.pages ≤ end - from
  few_pages = let above = part.above in let reaches = part.reaches in omega (arith, above, reaches)

  -- sectors of root and maps are none of the run's
  low_apart : (k : ℕ) → k < layout.first → IsNone (run_down run) k
  low_apart k low j at = let r = down_has run j k at in let same = r.2 in let above = above_maps in omega (arith, low, same, above)

  module _ (d2 : DiskState) (made : RelabelsRun run.sector run.pages (freeing (run_down run)) d1 s1 d2) where
    pub labelled : (n : List Sector) × Stands d2 s1 n × (n ≡ after_writes (freeing (run_down run)) m)
    labelled = (made.goes none_over).memory m stands

    labelled_same : (k : ℕ) → IsNone (run_down run) k → slice_get labelled.0 k ≡ slice_get m k
    labelled_same k none = ap (λ (l : List Sector). slice_get l k) labelled.2 ∙ freed_elsewhere (run_down run) m k none

    -- the bits are as they were
    pub bits_then : (marks : Marks) → BitsAre layout marks m → BitsAre layout marks labelled.0
    bits_then marks bits = record {
      bytes = bits.bytes;
      shows = shows_still AllocationMap layout m labelled.0 bits.bytes (λ k s below here.
          labelled_same (1 + k) (low_apart (1 + k) (let f = first_is layout is in omega (arith, f, below))) ∙ here) bits.shows;
      are = bits.are;
    }

    -- and the labels of the maps
    pub named_then : (which : Manager) (home : Home) → IsMapHome which layout home → IsNamed labelled.0 home
    named_then which home of =
        let was = may.map_labels which home of in
        record { sector = was.sector; here = labelled_same home.sector (low_apart home.sector (map_low which layout is home of)) ∙ was.here; named = was.named }

    module _ (d3 : DiskState) (s3 : Slots) (l3 : Layout) (later : CachedRuns) (runs_of_map : AreOf named (runs_of layout.sectors later)) (beside_then : Beside AllocationMap d2 s1 layout d3 s3 l3)
        (given : (marks : Marks) → BitsAre layout marks labelled.0 → Becomes AllocationMap layout labelled.0 (BitsAre layout (marked false run.sector run.pages marks)) d3 s3) where
      final : Becomes AllocationMap layout labelled.0 (BitsAre layout (marked false run.sector run.pages may.marks)) d3 s3
      final = given may.marks (bits_then may.marks may.bits)

      labels_now : (k : ℕ) → slice_get (labels_of final.memory) k ≡ slice_get (labels_of (after_writes (freeing (run_down run)) m)) k
      labels_now k = ap (λ (l : List Label). slice_get l k) final.differs.labels ∙ ap (λ (l : List Sector). slice_get (labels_of l) k) labelled.2

      pages_now : (k : ℕ) (s : Sector) → slice_get m k ≡ Some s → IsNone (run_down run) k → in_map AllocationMap layout k s.0 ≡ false → slice_get final.memory k ≡ Some s
      pages_now k s here none apart = final.differs.pages k s (labelled_same k none ∙ here) apart

      run_frees : FreesSectors layout (run_down run) m final.memory
      run_frees = record {
        long = same_length labelled.0 final.memory final.differs.labels ∙ ap (λ (l : List Sector). length l) labelled.2 ∙ freed_long (run_down run) m;
        freed = λ j k at below. labels_now k ∙ freed_here (run_down run) m j k at below;
        labels = λ k none. labels_now k ∙ labels_at (after_writes (freeing (run_down run)) m) m k (freed_elsewhere (run_down run) m k none);
        pages = pages_now;
        bits = λ marks bits.
            let g = given marks (bits_then marks bits) in
            (marked false run.sector run.pages marks, subst (BitsAre layout (marked false run.sector run.pages marks)) (one_memory d3 s3 g.memory final.memory g.stands final.stands) g.is, down_clears run marks);
      }

      map_now : MapIs layout named final.memory
      map_now =
          let was = may.map in
          record {
            bytes = was.bytes;
            shows = shows_still FileMap layout m final.memory was.bytes (λ k s below here.
                pages_now (1 + layout.vam + k) s here (low_apart (1 + layout.vam + k) (let f = first_is layout is in omega (arith, f, below))) (after_map AllocationMap layout (1 + layout.vam + k) s.0 (omega arith))) was.shows;
            names = was.names;
          }

      names_now : (which : Manager) (home : Home) → IsMapHome which layout home → IsNamed final.memory home
      names_now which home of =
          let was = named_then which home of in
          let label = ap (λ (l : List Label). slice_get l home.sector) final.differs.labels ∙ label_here labelled.0 home.sector was.sector was.here in
          let s = sector_of_label final.memory home.sector was.sector.0 label in
          record { sector = s.0; here = s.1; named = ap (λ (l : Label). names l (record { id = home.id; page = home.page })) s.2 ∙ was.named }

      labelled_now : (p s : ℕ) → from ≤ p → p < end - run.pages → named id p s ≡ true → HasPageAt layout final.memory id p s
      labelled_now p s above below named_there =
          let was = may.labelled p s above (omega (arith, below)) named_there in
          let one = was.1 in
          let reaches = part.reaches in
          let apart : IsNone (run_down run) s = λ j at.
          let r = down_has run j s at in
          let inside = r.1 in
          let other = (run_label r.0 inside).1 in
          let same : other.0 ≡ one.0 = same_Some other.0 one.0 (sym other.1 ∙ ap (slice_get m) (sym r.2) ∙ one.1) in
          let a : other.0.0.page ≡ run.first + r.0 = names_page other.0.0 (record { id = id; page = run.first + r.0 }) other.2 in
          let b : one.0.0.page ≡ p = names_page one.0.0 (record { id = id; page = p }) one.2 in
          let c : other.0.0.page ≡ one.0.0.page = ap (λ (t : Sector). t.0.page) same in
          omega (arith, below, reaches, a, b, c) in
          (was.0, (one.0, pages_now s one.0 one.1 apart (after_map AllocationMap layout s one.0.0 (let f = first_is layout is in let low = was.0 in omega (arith, f, low))), one.2))

      brings : BringsOwn s0 s3
      brings = brings_then (map_brings beside) (map_brings beside_then)

      pub run_freed : FreedDown layout named spaces id from run.pages end d0 s0 d3 s3 later
      run_freed = record {
        sectors = run_down run;
        long = down_long run;
        down = is_named;
        goes = record {
          makes = subst (λ (ws : List DiskWrite). Makes volume_page ws d0 s0 d3 s3) (append_none (freeing (run_down run)))
              (makes_then (map_makes beside) (makes_then (makes_wider volume_page (λ id page none. absurd none) made.makes) (map_makes beside_then)));
          memory = λ x stood. (final.memory, final.stands, subst (λ (z : List Sector). FreesSectors layout (run_down run) z final.memory) (one_memory d0 s0 m x may.stands stood) run_frees);
        };
        brings = brings;
        memory = final.memory;
        rest = record {
          stands = final.stands;
          long = run_frees.long ∙ may.long;
          map = map_now;
          kept = runs_of_map;
          marks = marked false run.sector run.pages may.marks;
          bits = final.is;
          map_labels = names_now;
          frames = known_after s0 s3 spaces brings may.frames;
          hidden = hidden_then spaces (inr file) beside_then (hidden_then spaces (inr file) beside may.hidden);
          mapped = λ p above below. may.mapped p above (omega (arith, below));
          labelled = labelled_now;
        };
      }

-- runs before runs
pub freed_down_then : {layout : Layout} {named : Triples} {spaces : List Space} {id from first next end : ℕ} {a b c : DiskState} {s t u : Slots} {runs later : CachedRuns}
    → FreedDown layout named spaces id from first end a s b t runs → FreedDown layout named spaces id from next (end - first) b t c u later → FreedDown layout named spaces id from (first + next) end a s c u later
freed_down_then {layout = layout} {named = named} {spaces = spaces} {id = id} {from = from} {first = first} {next = next} {end = end} {a = a} {c = c} {s = s} {u = u} {later = later} h k = record {
  sectors = h.sectors ++ k.sectors;
  long = long_append h.sectors k.sectors ∙ (λ i. h.long i + k.long i);
  down = down_append named id end h.sectors k.sectors h.down (subst (λ (n : ℕ). AreNamedDown named id (end - n) k.sectors) (sym h.long) k.down);
  goes = subst (λ (ws : List DiskWrite). Goes (FreesSectors layout (h.sectors ++ k.sectors)) volume_page ws a s c u) (freeing_append h.sectors k.sectors)
      (goes_then (FreesSectors layout h.sectors) (FreesSectors layout k.sectors) (FreesSectors layout (h.sectors ++ k.sectors)) (λ m n o x y. frees_then layout h.sectors k.sectors m n o x y) h.goes k.goes);
  brings = brings_then h.brings k.brings;
  memory = k.memory;
  rest = subst (λ (n : ℕ). MayFree c u layout later named spaces id from n k.memory) (let z : end - first - next ≡ end - (first + next) = omega arith in z) k.rest;
}

-- no page yet
pub freed_down_none : {layout : Layout} {named : Triples} {spaces : List Space} {id from end : ℕ} {d : DiskState} {s : Slots} {runs : CachedRuns} (m : List Sector)
    → MayFree d s layout runs named spaces id from end m → FreedDown layout named spaces id from 0 end d s d s runs
freed_down_none {layout = layout} {named = named} {spaces = spaces} {id = id} {from = from} {end = end} {d = d} {s = s} {runs = runs} m may = record {
  sectors = [];
  long = refl;
  down = tt;
  goes = record { makes = makes_nothing volume_page d s; memory = λ x stands. (x, stands, frees_none layout x) };
  brings = record { homes = λ home held. inl held };
  memory = m;
  rest = subst (λ (n : ℕ). MayFree d s layout runs named spaces id from n m) (let z : end ≡ end - 0 = omega arith in z) may;
}

-- over any contents
pub down_makes : {l2 l3 : Layout} {a b c d : DiskState} {s t u v : Slots} (run : Run) → Makes volume_page [] a s b t → u ≡ t → RelabelsRun run.sector run.pages (freeing (run_down run)) b t c → Beside AllocationMap c u l2 d v l3
    → MakesFree run.pages a s d v
down_makes {a = a} {b = b} {c = c} {d = d} {s = s} {t = t} {u = u} {v = v} run first same made last = record {
  sectors = run_down run;
  long = down_long run;
  makes = subst (λ (ws : List DiskWrite). Makes volume_page ws a s d v) (append_none (freeing (run_down run)))
      (makes_then first (makes_then (subst (Makes volume_page (freeing (run_down run)) b t c) (sym same) (makes_wider volume_page (λ id page none. absurd none) made.makes)) (map_makes last)));
}

-- the first of the run's labels were written
some_labels : {a b c : DiskState} {s t u : Slots} (run : Run) → Makes volume_page [] a s b t → u ≡ t → (some : MadeSome (freeing (run_down run)) b t c) → Makes volume_page (freeing (take some.count (run_down run))) a s c u
some_labels {a = a} {b = b} {c = c} {s = s} {t = t} {u = u} run first same some =
    subst (λ (ws : List DiskWrite). Makes volume_page ws a s c u) (take_freeing some.count (run_down run))
    (makes_then first (subst (Makes volume_page (take some.count (freeing (run_down run))) b t c) (sym same) (makes_wider volume_page (λ id page none. absurd none) some.makes)))

pub down_stops : {a b c : DiskState} {s t u : Slots} (run : Run) → Makes volume_page [] a s b t → u ≡ t → MadeSome (freeing (run_down run)) b t c → MakesSomeFree a s c u
down_stops run first same some = record { sectors = take some.count (run_down run); makes = some_labels run first same some }

-- and where they are revealed, they are those of the last pages
pub down_broken : {a b c : DiskState} {s t u : Slots} {named : Triples} {id pages end : ℕ} (run : Run) → Makes volume_page [] a s b t → u ≡ t → AreNamedDown named id end (run_down run) → run.pages ≤ pages
    → MadeSome (freeing (run_down run)) b t c → StoppedDown named id pages end a s c u
down_broken {named = named} {id = id} {end = end} run first same down few some = record {
  sectors = take some.count (run_down run);
  few = let n = take_few some.count (run_down run) in let long = down_long run in omega (arith, n, long, few);
  down = down_take named id some.count end (run_down run) down;
  makes = some_labels run first same some;
}

-- none of them
pub none_broken : {layout l1 : Layout} {a b : DiskState} {s t : Slots} {named : Triples} {id pages end : ℕ} → Beside FileMap a s layout b t l1 → StoppedDown named id pages end a s b t
none_broken beside = record { sectors = []; few = omega arith; down = tt; makes = map_makes beside }

-- all of them
pub all_broken : {l2 l3 : Layout} {a b c d : DiskState} {s t u v : Slots} {named : Triples} {id pages end : ℕ} (run : Run) → Makes volume_page [] a s b t → u ≡ t → AreNamedDown named id end (run_down run) → run.pages ≤ pages
    → RelabelsRun run.sector run.pages (freeing (run_down run)) b t c → Beside AllocationMap c u l2 d v l3 → StoppedDown named id pages end a s d v
unfolding down_makes
all_broken run first same down few made last =
    let all = down_makes run first same made last in
    record { sectors = run_down run; few = let long = down_long run in omega (arith, long, few); down = down; makes = all.makes }

-- after pages that were freed
pub broken_then : {layout : Layout} {named : Triples} {spaces : List Space} {id from first next end : ℕ} {a b c : DiskState} {s t u : Slots} {runs : CachedRuns}
    → FreedDown layout named spaces id from first end a s b t runs → StoppedDown named id next (end - first) b t c u → StoppedDown named id (first + next) end a s c u
broken_then {named = named} {id = id} {end = end} {a = a} {c = c} {s = s} {u = u} h k = record {
  sectors = h.sectors ++ k.sectors;
  few = let long = long_append h.sectors k.sectors in let one = h.long in let more = k.few in omega (arith, long, one, more);
  down = down_append named id end h.sectors k.sectors h.down (subst (λ (n : ℕ). AreNamedDown named id (end - n) k.sectors) (sym h.long) k.down);
  makes = subst (λ (ws : List DiskWrite). Makes volume_page ws a s c u) (freeing_append h.sectors k.sectors) (makes_then h.goes.makes k.makes);
}

-- what a run that is found has of pages up to one
pub last_named : (named : Triples) (id end first : ℕ) (r : Run) → IsFound named id (end - 1) (Some r) → 1 ≤ end → r.first ≤ first → (k : ℕ) → k < end - first → named id (first + k) (r.sector + (first - r.first) + k) ≡ true
last_named named id end first r found some from k below =
    let parts = and_parts (r.id == id) (nat_le r.first (end - 1) && nat_lt (end - 1) (r.first + r.pages)) found.0 in
    let more = and_parts (nat_le r.first (end - 1)) (nat_lt (end - 1) (r.first + r.pages)) parts.1 in
    let inside : end - 1 < r.first + r.pages = ltb-true (end - 1) (r.first + r.pages) more.1 in
    let x : (nat_le r.first (first + k) && nat_lt (first + k) (r.first + r.pages)) ≡ true = within r.first (first + k) (r.first + r.pages) (omega (arith, from)) (omega (arith, some, inside, below)) in
    let has : holds r id (first + k) ≡ true = (λ i. parts.0 i && x i) in
    let z : r.sector + (first + k - r.first) ≡ r.sector + (first - r.first) + k = omega (arith, from) in
    subst (λ (s : ℕ). named id (first + k) s ≡ true) z (found.1 (first + k) has)
  where
    within : (a b c : ℕ) → a ≤ b → b < c → (nat_le a b && nat_lt b c) ≡ true
    within a b c from inside = grind (arith, nat_tests)
