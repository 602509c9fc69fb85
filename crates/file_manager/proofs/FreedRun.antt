-- What the freeing of a run leads to.
use Rattle.std.proofs.Common.{◌≡◌, ◌⊎◌, inl, inr, ⊎_elim, ℕ, zero, suc, ◌+◌, ◌-◌, ◌<◌, ◌≤◌, true, false, List, [], ◌∷◌, ◌++◌, length, take, Some, refl, sym, ◌∙◌, ap, subst, arith}
use Rattle.std.specs.Prelude.{slice_get, ◌==◌, ◌&&◌, nat_le, nat_lt}
use Rattle.std.proofs.lemmas.Option.{same_Some}
use Rattle.std.proofs.lemmas.List.FromFn.{length-range_with_len}
use Rattle.std.proofs.lemmas.Bool.{and_parts, leb-true, ltb-true}
use Rattle.std.proofs.lemmas.Bool.Decides.{nat_tests}
use Rattle.labelled_disk.specs.declared.disk.DiskWrite.{DiskWrite}
use Rattle.labelled_disk.specs.declared.label.Label.{Label}
use Rattle.labelled_disk.specs.declared.layout.Layout.{Layout}
use Rattle.labelled_disk.specs.Label.{names}
use Rattle.labelled_disk.specs.Runs.{freeing}
use Rattle.labelled_disk.specs.Sectors.{Sector}
use Rattle.labelled_disk.specs.State.{DiskState}
use Rattle.labelled_disk.specs.WriteRuns.{after_writes}
use Rattle.frame_pool.specs.declared.home.Home.{Home}
use Rattle.frame_pool.specs.Frames.{Slots}
use Rattle.file_map.specs.declared.run.Run.{Run}
use Rattle.file_map.specs.Run.{holds}
use Rattle.file_map.specs.FileMap.{Triples, IsFound}
use Rattle.flat_machine.specs.declared.space.Space.{Space}
use Rattle.swapper_kernel.specs.declared.manager.Manager.{Manager}
use Rattle.swapper_kernel.specs.declared.manager.Manager.TheVariants.{AllocationMap, FileMap}
use Rattle.swapper_kernel.specs.Maps.{id_of, pages_of, start_of, IsMapHome}
use Rattle.swapper_kernel.specs.Homes.{IsLayout, IsNamed, wanted_at}
use Rattle.swapper_kernel.specs.Stands.{Stands, labels_of}
use Rattle.swapper_kernel.specs.DiffersLaws.{label_here, sector_of_label, same_length, names_id, names_page}
use Rattle.swapper_kernel.specs.Goes.{Makes, Goes}
use Rattle.swapper_kernel.specs.GoesLaws.{makes_then, makes_wider, makes_nothing, goes_then}
use Rattle.swapper_kernel.specs.HaltLaws.{brings_then}
use Rattle.swapper_kernel.specs.OnceLaws.{stands_once}
use Rattle.swapper_kernel.specs.Window.{Shows, Beside, in_map}
use Rattle.label_calls.specs.Labels.{ones_of}
use Rattle.label_calls.specs.Runs.{AreUncovered, HaveOnes, RelabelsRun, MadeSome}
use Rattle.filer_kernel.specs.declared.cached.CachedRuns.{CachedRuns}
use Rattle.filer_kernel.specs.Cached.{runs_of}
use Rattle.filer_kernel.specs.Becomes.{Becomes}
use Rattle.filer_kernel.specs.Marks.{Marks, BitsAre, marked}
use Rattle.filer_kernel.specs.Triples.{MapIs, AreOf}
use Rattle.filer_kernel.proofs.MapLemmas.{same_elements}
use Rattle.session_words.specs.FrameLaws.{IsThere, is_shown}
use Rattle.session_words.specs.Volume.{volume_page}
use Rattle.session_words.proofs.FrameLemmas.{frame_laws}
use Rattle.file_manager.specs.Book.{BringsOwn}
use Rattle.file_manager.specs.Freeing.{IsNone, FreesSectors, AreNamedUp, HasPageAt, IsHidden, MayFree, IsPartOf, NamesAll, Freed, MakesFree, MakesSomeFree, run_sectors}
use Rattle.file_manager.proofs.BookLemmas.{own_maps, known_after}
use Rattle.file_manager.proofs.FreedSectors.{row_has, row_clears, labels_at, freed_elsewhere, freed_long, freed_here, freeing_append, long_append, up_append, take_freeing, frees_then, frees_none}

-- one memory stands on disk and frames
pub one_memory : (d : DiskState) (s : Slots) (m n : List Sector) → Stands d s m → Stands d s n → m ≡ n
one_memory d s m n a b = same_elements m n (stands_once d s m n a b)

map_volume : (which : Manager) (id page : ℕ) → id ≡ id_of which → id < 4
map_volume AllocationMap id page is = omega (arith, is)
map_volume FileMap id page is = omega (arith, is)

pub map_makes : {which : Manager} {layout later : Layout} {a b : DiskState} {s t : Slots} → Beside which a s layout b t later → Makes volume_page [] a s b t
map_makes {which = which} beside = makes_wider volume_page (map_volume which) beside.goes.makes

pub map_brings : {which : Manager} {layout later : Layout} {a b : DiskState} {s t : Slots} → Beside which a s layout b t later → BringsOwn s t
map_brings {which = which} {layout = layout} {s = s} {t = t} beside = own_maps which layout s t beside.brings

pub append_none : (xs : List DiskWrite) → xs ++ [] ≡ xs
append_none [] = refl
append_none (x ∷ xs) = ap (λ (l : List DiskWrite). x ∷ l) (append_none xs)

-- where the pages of a map stay, it shows the same
pub shows_still : (which : Manager) (layout : Layout) (m n : List Sector) (b : List ℕ) → ((k : ℕ) (s : Sector) → k < pages_of which layout → slice_get m (start_of which layout + k) ≡ Some s → slice_get n (start_of which layout + k) ≡ Some s)
    → Shows which m layout b → Shows which n layout b
shows_still which layout m n b stays shows = record {
  count = shows.count;
  page = λ k below.
      let was = shows.page k below in
      record { label = was.label; keeps = stays k _ below was.keeps };
}

-- after a map
pub after_map : (which : Manager) (layout : Layout) (k : ℕ) (l : Label) → start_of which layout + pages_of which layout ≤ k → in_map which layout k l ≡ false
after_map which layout k l past = grind (arith, nat_tests)

pub first_is : (layout : Layout) → IsLayout layout → layout.first ≡ 1 + layout.vam + layout.vfm
first_is layout is = ap (λ (l : Layout). l.first) is.1 ∙ sym (ap (λ (l : Layout). 1 + l.vam + l.vfm) is.1)

-- a home of a map is before the data
pub map_low : (which : Manager) (layout : Layout) → IsLayout layout → (home : Home) → IsMapHome which layout home → home.sector < layout.first
map_low AllocationMap layout is home (page, below, at) = let f = first_is layout is in let place : home.sector ≡ 1 + page = ap (λ (h : Home). h.sector) at in omega (arith, f, place, below)
map_low FileMap layout is home (page, below, at) = let f = first_is layout is in let place : home.sector ≡ 1 + layout.vam + page = ap (λ (h : Home). h.sector) at in omega (arith, f, place, below)

-- what a run that is found has of pages from one on
pub run_part : (named : Triples) (id page n : ℕ) (r : Run) → IsFound named id page (Some r) → n ≤ r.pages - (page - r.first) → (k : ℕ) → k < n → named id (page + k) (r.sector + (page - r.first) + k) ≡ true
run_part named id page n r found few k below =
    let parts = and_parts (r.id == id) (nat_le r.first page && nat_lt page (r.first + r.pages)) found.0 in
    let more = and_parts (nat_le r.first page) (nat_lt page (r.first + r.pages)) parts.1 in
    let from : r.first ≤ page = leb-true r.first page more.0 in
    let inside : page < r.first + r.pages = ltb-true page (r.first + r.pages) more.1 in
    let x : (nat_le r.first (page + k) && nat_lt (page + k) (r.first + r.pages)) ≡ true = within r.first (page + k) (r.first + r.pages) (omega (arith, from)) (omega (arith, from, inside, few, below)) in
    let has : holds r id (page + k) ≡ true = (λ i. parts.0 i && x i) in
    let z : r.sector + (page + k - r.first) ≡ r.sector + (page - r.first) + k = omega (arith, from) in
    subst (λ (s : ℕ). named id (page + k) s ≡ true) z (found.1 (page + k) has)
  where
    within : (a b c : ℕ) → a ≤ b → b < c → (nat_le a b && nat_lt b c) ≡ true
    within a b c from inside = grind (arith, nat_tests)

-- pages of a map alone came: a file that was hidden is so still
pub hidden_then : {which : Manager} {layout later : Layout} {a b : DiskState} {s t : Slots} (spaces : List Space) {id : ℕ} → (id ≡ 3) ⊎ (16 ≤ id) → Beside which a s layout b t later → IsHidden s spaces id → IsHidden t spaces id
hidden_then spaces file beside (inl h) = inl h
hidden_then {which = which} {layout = layout} spaces {id = id} file beside (inr none) = inr (λ page there. elim (beside.brings.homes there.frame.home (record { slot = there.slot; frame = there.frame; has = there.has; at = refl })) [
  | inl was ↦ none page (record { slot = was.slot; frame = was.frame; has = was.has; same_id = ap (λ (h : Home). h.id) was.at ∙ there.same_id; same_page = ap (λ (h : Home). h.page) was.at ∙ there.same_page })
  | inr own ↦ apart which there.frame.home own (sym there.same_id)
])
  where
    apart : (which : Manager) (home : Home) → IsMapHome which layout home → id ≡ home.id → ⊥
    apart AllocationMap home (page, below, at) same = let own : home.id ≡ 1 = ap (λ (h : Home). h.id) at in ⊎_elim (λ (q : id ≡ 3). omega (arith, own, same, q)) (λ (q : 16 ≤ id). omega (arith, own, same, q)) file
    apart FileMap home (page, below, at) same = let own : home.id ≡ 2 = ap (λ (h : Home). h.id) at in ⊎_elim (λ (q : id ≡ 3). omega (arith, own, same, q)) (λ (q : 16 ≤ id). omega (arith, own, same, q)) file

module _ (layout : Layout) (is : IsLayout layout) (named : Triples) (spaces : List Space) (id page end : ℕ) (file : (id ≡ 3) ⊎ (16 ≤ id)) (m : List Sector) (d0 : DiskState) (s0 : Slots) (kept : CachedRuns)
    (may : MayFree d0 s0 layout kept named spaces id page end m) (run : Run) (part : IsPartOf layout.sectors id page end run) (all : NamesAll named run)
    (d1 : DiskState) (s1 : Slots) (l1 : Layout) (beside : Beside FileMap d0 s0 layout d1 s1 l1) (stands : Stands d1 s1 m) where
  run_label : (k : ℕ) → k < run.pages → HasPageAt layout m id (page + k) (run.sector + k)
  run_label k below =
      let few = part.few in
      may.labelled (page + k) (run.sector + k) (omega arith) (omega (arith, few, below)) ((λ i. named (sym part.same_id i) (sym part.same_first i + k) (run.sector + k)) ∙ all k below)

  above_maps : layout.first ≤ run.sector
  above_maps =
      let some = part.form.some in
      let first : layout.first ≤ run.sector + 0 = (run_label 0 (omega (arith, some))).0 in
      omega (arith, first)

  pub none_over : AreUncovered s1 run.sector run.pages
  none_over k below i f has at =
      let one = (run_label k below).1 in
      let own : one.0.0.id ≡ id = names_id one.0.0 (record { id = id; page = page + k }) one.2 in
      ⊎_elim
      (λ (h : (16 ≤ id) × ((page : ℕ) → is_shown spaces id page ≡ false)).
      let high = h.0 in
      let shown : is_shown spaces one.0.0.id one.0.0.page ≡ false = ap (λ (n : ℕ). is_shown spaces n one.0.0.page) own ∙ h.1 one.0.0.page in
      frame_laws.none_over stands.sectors s1 m spaces (run.sector + k) one.0 stands.merged (known_after s0 s1 spaces (map_brings beside) may.frames) one.1 shown (inr (omega (arith, own, high))) i f has at)
      (λ (none : (page : ℕ) → IsThere s1 id page → ⊥).
      let home = stands.merged.frames i f has in
      let label : home.label ≡ one.0.0 = ap (λ (t : Sector). t.0) (same_Some {A = Sector} (home.label, f.bytes) one.0 (sym home.keeps ∙ ap (slice_get m) at ∙ one.1)) in
      let ids : f.home.id ≡ id = sym (names_id home.label (wanted_at f.home) home.named) ∙ ap (λ (l : Label). l.id) label ∙ own in
      none f.home.page (record { slot = i; frame = f; has = has; same_id = ids; same_page = refl }))
      (hidden_then spaces file beside may.hidden)

  pub ones : HaveOnes (λ k. ones_of (record { id = run.id; page = run.first + k })) m run.sector run.pages
  ones k below =
      let one = (run_label k below).1 in
      (one.0, one.1, (λ i. names one.0.0 (record { id = part.same_id i; page = part.same_first i + k })) ∙ one.2)

  -- sectors of root and maps are none of the run's
  low_apart : (k : ℕ) → k < layout.first → IsNone (run_sectors run) k
  low_apart k low j at = let r = row_has run.sector run.pages j k at in let same = r.1 in let above = above_maps in omega (arith, low, same, above)

  module _ (d2 : DiskState) (made : RelabelsRun run.sector run.pages (freeing (run_sectors run)) d1 s1 d2) where
    pub labelled : (n : List Sector) × Stands d2 s1 n × (n ≡ after_writes (freeing (run_sectors run)) m)
    labelled = (made.goes none_over).memory m stands

    labelled_same : (k : ℕ) → IsNone (run_sectors run) k → slice_get labelled.0 k ≡ slice_get m k
    labelled_same k none = ap (λ (l : List Sector). slice_get l k) labelled.2 ∙ freed_elsewhere (run_sectors run) m k none

    -- the bits are as they were
    pub bits_then : (marks : Marks) → BitsAre layout marks m → BitsAre layout marks labelled.0
    bits_then marks bits = record {
      bytes = bits.bytes;
      shows = shows_still AllocationMap layout m labelled.0 bits.bytes (λ k s below here.
          labelled_same (1 + k) (low_apart (1 + k) (let f = first_is layout is in omega (arith, f, below))) ∙ here) bits.shows;
      are = bits.are;
    }

    -- and the labels of the maps
    pub named_then : (which : Manager) (home : Home) → IsMapHome which layout home → IsNamed labelled.0 home
    named_then which home of =
        let was = may.map_labels which home of in
        record { sector = was.sector; here = labelled_same home.sector (low_apart home.sector (map_low which layout is home of)) ∙ was.here; named = was.named }

    module _ (d3 : DiskState) (s3 : Slots) (l3 : Layout) (later : CachedRuns) (runs_of_map : AreOf named (runs_of layout.sectors later)) (beside_then : Beside AllocationMap d2 s1 layout d3 s3 l3)
        (given : (marks : Marks) → BitsAre layout marks labelled.0 → Becomes AllocationMap layout labelled.0 (BitsAre layout (marked false run.sector run.pages marks)) d3 s3) where
      final : Becomes AllocationMap layout labelled.0 (BitsAre layout (marked false run.sector run.pages may.marks)) d3 s3
      final = given may.marks (bits_then may.marks may.bits)

      labels_now : (k : ℕ) → slice_get (labels_of final.memory) k ≡ slice_get (labels_of (after_writes (freeing (run_sectors run)) m)) k
      labels_now k = ap (λ (l : List Label). slice_get l k) final.differs.labels ∙ ap (λ (l : List Sector). slice_get (labels_of l) k) labelled.2

      pages_now : (k : ℕ) (s : Sector) → slice_get m k ≡ Some s → IsNone (run_sectors run) k → in_map AllocationMap layout k s.0 ≡ false → slice_get final.memory k ≡ Some s
      pages_now k s here none apart = final.differs.pages k s (labelled_same k none ∙ here) apart

      run_frees : FreesSectors layout (run_sectors run) m final.memory
      run_frees = record {
        long = same_length labelled.0 final.memory final.differs.labels ∙ ap (λ (l : List Sector). length l) labelled.2 ∙ freed_long (run_sectors run) m;
        freed = λ j k at below. labels_now k ∙ freed_here (run_sectors run) m j k at below;
        labels = λ k none. labels_now k ∙ labels_at (after_writes (freeing (run_sectors run)) m) m k (freed_elsewhere (run_sectors run) m k none);
        pages = pages_now;
        bits = λ marks bits.
            let g = given marks (bits_then marks bits) in
            (marked false run.sector run.pages marks, subst (BitsAre layout (marked false run.sector run.pages marks)) (one_memory d3 s3 g.memory final.memory g.stands final.stands) g.is, row_clears run.sector run.pages marks);
      }

      map_now : MapIs layout named final.memory
      map_now =
          let was = may.map in
          record {
            bytes = was.bytes;
            shows = shows_still FileMap layout m final.memory was.bytes (λ k s below here.
                pages_now (1 + layout.vam + k) s here (low_apart (1 + layout.vam + k) (let f = first_is layout is in omega (arith, f, below))) (after_map AllocationMap layout (1 + layout.vam + k) s.0 (omega arith))) was.shows;
            names = was.names;
          }

      names_now : (which : Manager) (home : Home) → IsMapHome which layout home → IsNamed final.memory home
      names_now which home of =
          let was = named_then which home of in
          let label = ap (λ (l : List Label). slice_get l home.sector) final.differs.labels ∙ label_here labelled.0 home.sector was.sector was.here in
          let s = sector_of_label final.memory home.sector was.sector.0 label in
          record { sector = s.0; here = s.1; named = ap (λ (l : Label). names l (record { id = home.id; page = home.page })) s.2 ∙ was.named }

      labelled_now : (p s : ℕ) → page + run.pages ≤ p → p < end → named id p s ≡ true → HasPageAt layout final.memory id p s
      labelled_now p s above below is_named =
          let was = may.labelled p s (omega (arith, above)) below is_named in
          let one = was.1 in
          let apart : IsNone (run_sectors run) s = λ j at.
          let r = row_has run.sector run.pages j s at in
          let inside = r.0 in
          let other = (run_label j inside).1 in
          let same : other.0 ≡ one.0 = same_Some other.0 one.0 (sym other.1 ∙ ap (slice_get m) (sym r.1) ∙ one.1) in
          let a : other.0.0.page ≡ page + j = names_page other.0.0 (record { id = id; page = page + j }) other.2 in
          let b : one.0.0.page ≡ p = names_page one.0.0 (record { id = id; page = p }) one.2 in
          let c : other.0.0.page ≡ one.0.0.page = ap (λ (t : Sector). t.0.page) same in
          omega (arith, above, inside, a, b, c) in
          (was.0, (one.0, pages_now s one.0 one.1 apart (after_map AllocationMap layout s one.0.0 (let f = first_is layout is in let low = was.0 in omega (arith, f, low))), one.2))

      brings : BringsOwn s0 s3
      brings = brings_then (map_brings beside) (map_brings beside_then)

      up_now : (a b n : ℕ) → ((k : ℕ) → k < n → named id (a + k) (b + k) ≡ true) → AreNamedUp named id a (run_sectors (record { id = id; first = a; pages = n; sector = b }))
      up_now a b zero each = tt
      up_now a b (suc n) each = (
        subst (λ (k : ℕ). named id k b ≡ true) (let z : a + 0 ≡ a = omega arith in z) (subst (λ (k : ℕ). named id (a + 0) k ≡ true) (let z : b + 0 ≡ b = omega arith in z) (each 0 (omega arith))),
        up_now (a + 1) (b + 1) n (λ k below.
            subst (λ (x : ℕ). named id x (b + 1 + k) ≡ true) (let z : a + suc k ≡ a + 1 + k = omega arith in z)
            (subst (λ (x : ℕ). named id (a + suc k) x ≡ true) (let z : b + suc k ≡ b + 1 + k = omega arith in z) (each (suc k) (omega (arith, below))))),
      )

      pub run_freed : Freed layout named spaces id page run.pages end d0 s0 d3 s3 later
      run_freed = record {
        sectors = run_sectors run;
        long = length-range_with_len run.sector run.pages;
        up = up_now page run.sector run.pages (λ k below. (λ i. named (sym part.same_id i) (sym part.same_first i + k) (run.sector + k)) ∙ all k below);
        goes = record {
          makes = subst (λ (ws : List DiskWrite). Makes volume_page ws d0 s0 d3 s3) (append_none (freeing (run_sectors run)))
              (makes_then (map_makes beside) (makes_then (makes_wider volume_page (λ id page none. absurd none) made.makes) (map_makes beside_then)));
          memory = λ x stood. (final.memory, final.stands, subst (λ (z : List Sector). FreesSectors layout (run_sectors run) z final.memory) (one_memory d0 s0 m x may.stands stood) run_frees);
        };
        brings = brings;
        memory = final.memory;
        rest = record {
          stands = final.stands;
          long = run_frees.long ∙ may.long;
          map = map_now;
          kept = runs_of_map;
          marks = marked false run.sector run.pages may.marks;
          bits = final.is;
          map_labels = names_now;
          frames = known_after s0 s3 spaces brings may.frames;
          hidden = hidden_then spaces file beside_then (hidden_then spaces file beside may.hidden);
          mapped = λ p above below. may.mapped p (omega (arith, above)) below;
          labelled = labelled_now;
        };
      }

-- runs after runs
pub freed_then : {layout : Layout} {named : Triples} {spaces : List Space} {id from first next end : ℕ} {a b c : DiskState} {s t u : Slots} {runs later : CachedRuns}
    → Freed layout named spaces id from first end a s b t runs → Freed layout named spaces id (from + first) next end b t c u later → Freed layout named spaces id from (first + next) end a s c u later
freed_then {layout = layout} {named = named} {spaces = spaces} {id = id} {from = from} {first = first} {next = next} {end = end} {a = a} {c = c} {s = s} {u = u} {later = later} h k = record {
  sectors = h.sectors ++ k.sectors;
  long = long_append h.sectors k.sectors ∙ (λ i. h.long i + k.long i);
  up = up_append named id from h.sectors k.sectors h.up (subst (λ (n : ℕ). AreNamedUp named id (from + n) k.sectors) (sym h.long) k.up);
  goes = subst (λ (ws : List DiskWrite). Goes (FreesSectors layout (h.sectors ++ k.sectors)) volume_page ws a s c u) (freeing_append h.sectors k.sectors)
      (goes_then (FreesSectors layout h.sectors) (FreesSectors layout k.sectors) (FreesSectors layout (h.sectors ++ k.sectors)) (λ m n o x y. frees_then layout h.sectors k.sectors m n o x y) h.goes k.goes);
  brings = brings_then h.brings k.brings;
  memory = k.memory;
  rest = subst (λ (n : ℕ). MayFree c u layout later named spaces id n end k.memory) (let z : from + first + next ≡ from + (first + next) = omega arith in z) k.rest;
}

-- no page yet
pub freed_none : {layout : Layout} {named : Triples} {spaces : List Space} {id from end : ℕ} {d : DiskState} {s : Slots} {runs : CachedRuns} (m : List Sector)
    → MayFree d s layout runs named spaces id from end m → Freed layout named spaces id from 0 end d s d s runs
freed_none {layout = layout} {named = named} {spaces = spaces} {id = id} {from = from} {end = end} {d = d} {s = s} {runs = runs} m may = record {
  sectors = [];
  long = refl;
  up = tt;
  goes = record { makes = makes_nothing volume_page d s; memory = λ x stands. (x, stands, frees_none layout x) };
  brings = record { homes = λ home held. inl held };
  memory = m;
  rest = subst (λ (n : ℕ). MayFree d s layout runs named spaces id n end m) (let z : from ≡ from + 0 = omega arith in z) may;
}

-- over any contents
pub run_makes : {l2 l3 : Layout} {a b c d : DiskState} {s t u v : Slots} (run : Run) → Makes volume_page [] a s b t → u ≡ t → RelabelsRun run.sector run.pages (freeing (run_sectors run)) b t c → Beside AllocationMap c u l2 d v l3
    → MakesFree run.pages a s d v
run_makes {a = a} {b = b} {c = c} {d = d} {s = s} {t = t} {u = u} {v = v} run first same made last = record {
  sectors = run_sectors run;
  long = length-range_with_len run.sector run.pages;
  makes = subst (λ (ws : List DiskWrite). Makes volume_page ws a s d v) (append_none (freeing (run_sectors run)))
      (makes_then first (makes_then (subst (Makes volume_page (freeing (run_sectors run)) b t c) (sym same) (makes_wider volume_page (λ id page none. absurd none) made.makes)) (map_makes last)));
}

pub run_stops : {a b c : DiskState} {s t u : Slots} (run : Run) → Makes volume_page [] a s b t → u ≡ t → MadeSome (freeing (run_sectors run)) b t c → MakesSomeFree a s c u
run_stops {a = a} {b = b} {c = c} {s = s} {t = t} {u = u} run first same some = record {
  sectors = take some.count (run_sectors run);
  makes = subst (λ (ws : List DiskWrite). Makes volume_page ws a s c u) (take_freeing some.count (run_sectors run))
      (makes_then first (subst (Makes volume_page (take some.count (freeing (run_sectors run))) b t c) (sym same) (makes_wider volume_page (λ id page none. absurd none) some.makes)));
}

pub all_stop : {pages : ℕ} {a b : DiskState} {s t : Slots} → MakesFree pages a s b t → MakesSomeFree a s b t
all_stop h = record { sectors = h.sectors; makes = h.makes }

pub map_stops : {layout l1 : Layout} {a b : DiskState} {s t : Slots} → Beside FileMap a s layout b t l1 → MakesSomeFree a s b t
map_stops beside = record { sectors = []; makes = map_makes beside }

pub makes_free_then : {first next : ℕ} {a b c : DiskState} {s t u : Slots} → MakesFree first a s b t → MakesFree next b t c u → MakesFree (first + next) a s c u
makes_free_then {a = a} {c = c} {s = s} {u = u} h k = record {
  sectors = h.sectors ++ k.sectors;
  long = long_append h.sectors k.sectors ∙ (λ i. h.long i + k.long i);
  makes = subst (λ (ws : List DiskWrite). Makes volume_page ws a s c u) (freeing_append h.sectors k.sectors) (makes_then h.makes k.makes);
}

pub stops_then : {first : ℕ} {a b c : DiskState} {s t u : Slots} → MakesFree first a s b t → MakesSomeFree b t c u → MakesSomeFree a s c u
stops_then {a = a} {c = c} {s = s} {u = u} h k = record {
  sectors = h.sectors ++ k.sectors;
  makes = subst (λ (ws : List DiskWrite). Makes volume_page ws a s c u) (freeing_append h.sectors k.sectors) (makes_then h.makes k.makes);
}
