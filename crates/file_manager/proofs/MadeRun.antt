-- A run that is taken, labelled and added: what it makes of a memory, whatever that held.
use Rattle.std.proofs.Common.{◌≡◌, ◌≢◌, ◌⊎◌, inl, inr, ℕ, ◌+◌, ◌<◌, ◌≤◌, Bool, true, false, ◌&&◌, ◌||◌, List, length, Some, refl, sym, ◌∙◌, ap, subst, arith}
use Rattle.std.specs.Prelude.{slice_get, nat_le, nat_lt, ◌==◌, if◌then◌else◌}
use Rattle.std.proofs.lemmas.Bool.{and_parts, leb-true, ltb-true, eqb-true}
use Rattle.std.proofs.lemmas.Bool.Decides.{nat_tests}
use Rattle.std.proofs.lemmas.List.FromFn.{length-range_with_len}
use Rattle.std.proofs.lemmas.Option.{same_Some, slice_get_within}
use Rattle.labelled_disk.specs.declared.label.Label.{Label}
use Rattle.labelled_disk.specs.declared.layout.Layout.{Layout}
use Rattle.labelled_disk.specs.Calls.{RevealsSame}
use Rattle.labelled_disk.specs.Runs.{growth}
use Rattle.labelled_disk.specs.Sectors.{Sector}
use Rattle.labelled_disk.specs.State.{DiskState}
use Rattle.labelled_disk.specs.WriteRuns.{after_writes}
use Rattle.frame_pool.specs.Frames.{Slots}
use Rattle.alloc_map.specs.Runs.{IsDataRun}
use Rattle.file_map.specs.declared.run.Run.{Run}
use Rattle.file_map.specs.Run.{holds, sector_at}
use Rattle.file_map.specs.FileMap.{Triples, IsNew, with_run, run_names}
use Rattle.swapper_kernel.specs.declared.manager.Manager.{Manager}
use Rattle.swapper_kernel.specs.declared.manager.Manager.TheVariants.{AllocationMap, FileMap}
use Rattle.swapper_kernel.specs.Differs.{Differs}
use Rattle.swapper_kernel.specs.DiffersLaws.{other_sector, same_length, names_id}
use Rattle.swapper_kernel.specs.HaltLaws.{brings_itself, brings_then, brings_wider}
use Rattle.swapper_kernel.specs.Homes.{IsLayout, Brings, wanted_at}
use Rattle.swapper_kernel.specs.Stands.{Stands, labels_of}
use Rattle.swapper_kernel.specs.Window.{Shows, Reveals, Beside, in_map}
use Rattle.label_calls.specs.Clearing.{RelabelsCleared}
use Rattle.label_calls.specs.Runs.{AreUncovered}
use Rattle.filer_kernel.specs.Becomes.{Becomes}
use Rattle.filer_kernel.specs.Marks.{Marks, BitsAre, marked}
use Rattle.filer_kernel.specs.Triples.{MapIs}
use Rattle.filer_kernel.proofs.MapLemmas.{within_or_not}
use Rattle.file_manager.specs.Grounds.{IsMapsHome, IsUnframed, MakesFor}
use Rattle.file_manager.specs.Making.{sectors_of}
pub use Rattle.file_manager.specs.KeepLaws.{unframed_still}
use Rattle.file_manager.specs.TabledLaws.{KeepsSectors, prefix_only, keeps_undiffering}
use Rattle.file_manager.specs.Taking.{IsTakenFor, TakesLabels, TakesBits, TakesSectors, NamesNoneOf, AddsPages, no_page_of}
use Rattle.file_manager.proofs.FreedRun.{after_map, first_is, one_memory, shows_still}
use Rattle.file_manager.proofs.FreedSectors.{row_at}
use Rattle.file_manager.proofs.GrowSteps.{long_grown}
use Rattle.file_manager.proofs.RowLemmas.{is_in, in_row, growth_labels, growth_elsewhere, growth_own, growth_page}
use Rattle.file_manager.proofs.RunStages.{beside_map, there_is}
use Rattle.file_manager.proofs.TakingLemmas.{not_taken, takes_none, takes_then, takes_wider, sectors_then, adds_none}

-- ---- Frames.

-- a call on a map brings pages of maps
pub maps_come : {which : Manager} {layout later : Layout} {a b : DiskState} {s t : Slots} → Beside which a s layout b t later → Brings (IsMapsHome layout) s t
maps_come {which = which} {layout = layout} beside = brings_wider (IsMapsHome layout) (λ home own. (which, own)) beside.brings

-- ---- Calls in a row.

pub made_none : (layout : Layout) (id : ℕ) (p : ℕ → Type 0) (a : DiskState) (s : Slots) → MakesFor layout id p a s a s
made_none layout id p a s = record { brings = brings_itself (IsMapsHome layout) s; memory = λ none m stands. (m, stands, takes_wider no_page_of p (λ page not. absurd not) (takes_none layout id m)) }

pub made_then : {layout : Layout} {id : ℕ} (p q r : ℕ → Type 0) {a b c : DiskState} {s t u : Slots} → ((page : ℕ) → p page → r page) → ((page : ℕ) → q page → r page) → ((page : ℕ) → q page → p page → ⊥)
    → MakesFor layout id p a s b t → MakesFor layout id q b t c u → MakesFor layout id r a s c u
made_then p q r of_p of_q apart first next = record {
  brings = brings_then first.brings next.brings;
  memory = λ none m stands.
      let one = first.memory none m stands in
      let two = next.memory (unframed_still first.brings none) one.0 one.1 in
      (two.0, two.1, takes_then p q r of_p of_q apart one.2 two.2);
}

-- calls that only read
pub reads_then : {layout : Layout} {id : ℕ} {a b c : DiskState} {s t u : Slots} → MakesFor layout id no_page_of a s b t → MakesFor layout id no_page_of b t c u → MakesFor layout id no_page_of a s c u
reads_then first next = made_then no_page_of no_page_of no_page_of (λ page not. not) (λ page not. not) (λ page not other. not) first next

-- ---- What single calls make.

-- where labels are the same, and the allocation map's pages
pub same_labels : (layout : Layout) (id : ℕ) (m n : List Sector) → labels_of n ≡ labels_of m → TakesLabels layout id m n
same_labels layout id m n labels = record { long = same_length m n labels; each = λ sector s from here. inl (other_sector n m (sym labels) sector s here) }

pub file_map_alone : (layout : Layout) (id : ℕ) (m n : List Sector) → Differs (in_map FileMap layout) m n → TakesSectors layout id m n
file_map_alone layout id m n differs = record {
  labels = same_labels layout id m n differs.labels;
  bits = λ marks bits. (
    marks,
    record { bytes = bits.bytes; shows = shows_still AllocationMap layout m n bits.bytes (λ k s below here. differs.pages (1 + k) s here (beside_map FileMap layout (1 + k) s.0 (inl (omega (arith, below))))) bits.shows; are = bits.are },
    λ sector from. inl refl,
  );
}

-- a call that reads the file map
pub made_read : {layout later : Layout} (id : ℕ) {a b : DiskState} {s t : Slots} → a.sectors ≡ layout.sectors → Beside FileMap a s layout b t later
    → ((bytes : List ℕ) → Reveals FileMap a s layout bytes → Reveals FileMap b t layout bytes) → MakesFor layout id no_page_of a s b t
made_read {layout = layout} id {b = b} {t = t} size beside stays = record {
  brings = maps_come beside;
  memory = λ none m stands.
      let now = beside.goes.memory m stands in (
        now.0,
        now.1,
        record {
          taken = file_map_alone layout id m now.0 now.2;
          of = λ other sector from taken. absurd (not_taken id m now.0 sector other taken (λ s here. other_sector now.0 m (sym now.2.labels) sector s here));
          names = λ named map nothing.
              let revealed = stays map.bytes (record { memory = m; stands = stands; shows = map.shows; size = size }) in
              let same = one_memory b t revealed.memory now.0 revealed.stands now.1 in
              (named, record { bytes = map.bytes; shows = subst (λ (x : List Sector). Shows FileMap x layout map.bytes) same revealed.shows; names = map.names }, adds_none id no_page_of named);
        },
      );
}

-- a label that is read
pub made_look : (layout : Layout) (id : ℕ) {a b : DiskState} {s t : Slots} → RevealsSame a b → t ≡ s → MakesFor layout id no_page_of a s b t
made_look layout id {a = a} {b = b} {s = s} revealed frames = subst (λ (u : Slots). MakesFor layout id no_page_of a s b u) (sym frames) (record {
  brings = brings_itself (IsMapsHome layout) s;
  memory = λ none m stands. (m, record { sectors = stands.sectors; revealed = revealed.contents ∙ stands.revealed; merged = stands.merged }, takes_none layout id m);
})

-- ---- A run: its sectors are taken, and labelled.

-- the pages of a run
run_pages : (run : Run) (id page : ℕ) → holds run id page ≡ true → (run.id ≡ id) × (run.first ≤ page) × (page < run.first + run.pages)
run_pages run id page held =
    let parts = and_parts (run.id == id) (nat_le run.first page && nat_lt page (run.first + run.pages)) held in
    let more = and_parts (nat_le run.first page) (nat_lt page (run.first + run.pages)) parts.1 in
    (eqb-true run.id id parts.0, leb-true run.first page more.0, ltb-true page (run.first + run.pages) more.1)

pub new_run : (run : Run) (named : Triples) → NamesNoneOf run.id (λ page. (run.first ≤ page) × (page < run.first + run.pages)) named → IsNew named run
new_run run named nothing page sector held = let own = run_pages run run.id page held in nothing page sector (own.1, own.2)

pub run_adds : (run : Run) (named : Triples) → AddsPages run.id (λ page. (run.first ≤ page) × (page < run.first + run.pages)) named (with_run named run)
run_adds run named = record {
  kept = λ i page sector is. ap (λ (b : Bool). b || run_names run i page sector) is;
  only = λ i page sector is. either i page sector (named i page sector) refl is;
}
  where
    either : (i page sector : ℕ) (b : Bool) → named i page sector ≡ b → (b || run_names run i page sector) ≡ true → (named i page sector ≡ true) ⊎ ((i ≡ run.id) × ((run.first ≤ page) × (page < run.first + run.pages)))
    either i page sector true e is = inl e
    either i page sector false e is =
        let held = (and_parts (holds run i page) (sector == sector_at run page) is).0 in
        let own = run_pages run i page held in
        inr (sym own.0, (own.1, own.2))

-- The file has taken the run's sectors, and the file map's pages are as they were; so are sectors that had labels of the space
-- tables.
pub record IsLabelledFor (layout : Layout) (id : ℕ) (m n : List Sector) : Type 0 where
  pub taken : TakesSectors layout id m n
  pub map : (bytes : List ℕ) → Shows FileMap m layout bytes → Shows FileMap n layout bytes
  pub keeps : KeepsSectors layout m n

module _ {layout l1 : Layout} {a b c : DiskState} {s t : Slots} (is : IsLayout layout) (run : Run) (kind most : ℕ) (form : IsDataRun layout.first layout.sectors most (run.sector, run.pages)) (taken : Beside AllocationMap a s layout b t l1)
    (marked_so : (m : List Sector) (marks : Marks) → Stands a s m → BitsAre layout marks m → Becomes AllocationMap layout m (BitsAre layout (marked true run.sector run.pages marks)) b t)
    (made : RelabelsCleared run.sector run.pages (growth run.id kind run.first (sectors_of run)) b t c) where
  -- no frame is over a label that was found free
  pub none_over : IsUnframed t 0 → (m : List Sector) → Stands b t m → AreUncovered t run.sector run.pages
  none_over none m stands k below i f in_slot at =
      let disk = made.were stands.sectors stands.revealed k below in
      let one = other_sector m stands.sectors (sym stands.merged.labels) (run.sector + k) disk.0 disk.1 in
      let home = stands.merged.frames i f in_slot in
      let label : home.label ≡ one.0.0 = ap (λ (x : Sector). x.0) (same_Some {A = Sector} (home.label, f.bytes) one.0 (sym home.keeps ∙ ap (slice_get m) at ∙ one.1)) in
      let ids : f.home.id ≡ 0 = sym (names_id home.label (wanted_at f.home) home.named) ∙ ap (λ (l : Label). l.id) (label ∙ one.2) ∙ eqb-true disk.0.0.id 0 disk.2 in
      none f.home.page (record { slot = i; frame = f; has = in_slot; same_id = ids; same_page = refl })

  module _ (m : List Sector) (stands : Stands a s m) (m1 : List Sector) (stands1 : Stands b t m1) (differs : Differs (in_map AllocationMap layout) m m1) (m2 : List Sector) (is2 : m2 ≡ after_writes (growth run.id kind run.first (sectors_of run)) m1) where
    grown_long : length m2 ≡ length m1
    grown_long = long_grown run.id kind run.first (sectors_of run) m1 m2 (ap (λ (l : List Sector). labels_of l) is2 ∙ growth_labels run.id kind run.first (sectors_of run) m1)

    elsewhere : (k : ℕ) → ((j : ℕ) → slice_get (sectors_of run) j ≢ Some k) → slice_get m2 k ≡ slice_get m1 k
    elsewhere k none = ap (λ (l : List Sector). slice_get l k) is2 ∙ growth_elsewhere run.id kind run.first (sectors_of run) m1 k none

    -- sectors of root and maps are none of the run's
    low_apart : (k : ℕ) → k < layout.first → (j : ℕ) → slice_get (sectors_of run) j ≢ Some k
    low_apart k low j at = let r = in_row run.sector run.pages j k at in let same = r.1 in let above = form.above in omega (arith, low, same, above)

    one_taken : (j k : ℕ) → j < run.pages → k ≡ run.sector + j → IsTakenFor run.id m m2 k
    one_taken j k below same =
        let disk = made.were stands1.sectors stands1.revealed j below in
        let one = other_sector m stands1.sectors (sym stands1.merged.labels ∙ differs.labels) (run.sector + j) disk.0 disk.1 in
        let within = slice_get_within m (run.sector + j) one.0 one.1 in
        let long = same_length m m1 differs.labels in
        let grown = grown_long in
        let now = there_is m2 k (omega (arith, within, same, long, grown)) in
        let at : slice_get (sectors_of run) j ≡ Some k = row_at run.sector run.pages j below ∙ ap (λ (i : ℕ). Some i) (sym same) in
        record {
          was = (one.0, ap (slice_get m) same ∙ one.1, ap (λ (l : Label). l.id == 0) one.2 ∙ disk.2);
          now = (now.0, now.1, growth_own run.id kind run.first (sectors_of run) m1 j k now.0 at (ap (λ (l : List Sector). slice_get l k) (sym is2) ∙ now.1));
        }

    run_labels : TakesLabels layout run.id m m2
    run_labels = record {
      long = grown_long ∙ same_length m m1 differs.labels;
      each = λ k s from here. elim (is_in (sectors_of run) k) [
        | inl (j, at) ↦ let r = in_row run.sector run.pages j k at in inr (one_taken j k r.0 r.1)
        | inr none ↦ let one = other_sector m1 m (sym differs.labels) k s here in inl (one.0, elsewhere k none ∙ one.1, one.2)
      ];
    }

    run_bits : (marks : Marks) → TakesBits layout run.id m m2 marks (marked true run.sector run.pages marks)
    run_bits marks k from = elim (within_or_not run.sector run.pages k) [
      | inl out ↦ inl (ap (λ (b : Bool). if b then true else marks k) out)
      | inr (j, below, same) ↦ inr (ap (λ (b : Bool). if b then true else marks k) (inside run.sector run.pages j k below same), one_taken j k below same)
    ]
      where
        inside : (first n j k : ℕ) → j < n → k ≡ first + j → (nat_le first k && nat_lt k (first + n)) ≡ true
        inside first n j k below same = grind (arith, nat_tests)

    -- the pages of a map, but for those of the allocation map that was revealed
    bits_stay : (marks : Marks) → BitsAre layout marks m1 → BitsAre layout marks m2
    bits_stay marks bits = record {
      bytes = bits.bytes;
      shows = shows_still AllocationMap layout m1 m2 bits.bytes (λ k s below here. elsewhere (1 + k) (low_apart (1 + k) (let f = first_is layout is in omega (arith, f, below))) ∙ here) bits.shows;
      are = bits.are;
    }

    map_stays : (bytes : List ℕ) → Shows FileMap m layout bytes → Shows FileMap m2 layout bytes
    map_stays bytes shows = shows_still FileMap layout m m2 bytes (λ k s below here.
        elsewhere (1 + layout.vam + k) (low_apart (1 + layout.vam + k) (let f = first_is layout is in omega (arith, f, below)))
        ∙ differs.pages (1 + layout.vam + k) s here (after_map AllocationMap layout (1 + layout.vam + k) s.0 (omega arith))) shows

    -- sectors with labels of the space tables
    in_tables_still : KeepsSectors layout m m2
    in_tables_still k s from here own = elim (is_in (sectors_of run) k) [
      | inl (j, at) ↦
          let r = in_row run.sector run.pages j k at in
          let disk = made.were stands1.sectors stands1.revealed j r.0 in
          let one = other_sector m stands1.sectors (sym stands1.merged.labels ∙ differs.labels) (run.sector + j) disk.0 disk.1 in
          let same : one.0 ≡ s = same_Some one.0 s (sym one.1 ∙ ap (slice_get m) (sym r.1) ∙ here) in
          let free : s.0.id ≡ 0 = ap (λ (t : Sector). t.0.id) (sym same) ∙ ap (λ (l : Label). l.id) one.2 ∙ eqb-true disk.0.0.id 0 disk.2 in
          absurd (omega (arith, free, own))
      | inr none ↦ elsewhere k none ∙ keeps_undiffering layout m m1 differs (λ sector l above named. prefix_only AllocationMap layout sector l is above) k s from here own
    ]

    -- sectors that were taken have labels of the run's pages
    run_of : run.id ≢ 0 → (k : ℕ) → IsTakenFor run.id m m2 k → (s : Sector) → slice_get m2 k ≡ Some s → (run.first ≤ s.0.page) × (s.0.page < run.first + run.pages)
    run_of other k taken s here = elim (is_in (sectors_of run) k) [
      | inl (j, at) ↦
          let own = growth_page run.id kind run.first (sectors_of run) m1 j k s at (ap (λ (l : List Sector). slice_get l k) (sym is2) ∙ here) in
          let below = own.1 in
          let long = length-range_with_len run.sector run.pages in
          (own.0, omega (arith, below, long))
      | inr none ↦ absurd (not_taken run.id m m2 k other taken (λ t there. let one = other_sector m1 m (sym differs.labels) k t there in (one.0, elsewhere k none ∙ one.1, one.2)))
    ]

    run_taken : TakesSectors layout run.id m m2
    run_taken = record {
      labels = run_labels;
      bits = λ marks bits.
          let now = marked_so m marks stands bits in
          let later = marked true run.sector run.pages marks in
          let one = one_memory b t now.memory m1 now.stands stands1 in
          (later, bits_stay later (subst (BitsAre layout later) one now.is), run_bits marks);
    }

  pub labelled : IsUnframed s 0 → (m : List Sector) → Stands a s m → (n : List Sector) × Stands c t n × IsLabelledFor layout run.id m n
  labelled none m stands =
      let one = taken.goes.memory m stands in
      let two = (made.goes (none_over (unframed_still (maps_come taken) none) one.0 one.1)).memory one.0 one.1 in (
        two.0,
        two.1,
        record {
          taken = run_taken m stands one.0 one.1 one.2 two.0 two.2;
          map = map_stays m stands one.0 one.1 one.2 two.0 two.2;
          keeps = in_tables_still m stands one.0 one.1 one.2 two.0 two.2;
        },
      )

  labelled_of : IsUnframed s 0 → (m : List Sector) → Stands a s m → (n : List Sector) → Stands c t n → run.id ≢ 0 → (k : ℕ) → IsTakenFor run.id m n k → (x : Sector) → slice_get n k ≡ Some x → (run.first ≤ x.0.page) × (x.0.page < run.first + run.pages)
  labelled_of none m stands n stands_n =
      let one = taken.goes.memory m stands in
      let two = (made.goes (none_over (unframed_still (maps_come taken) none) one.0 one.1)).memory one.0 one.1 in
      subst (λ (y : List Sector). run.id ≢ 0 → (k : ℕ) → IsTakenFor run.id m y k → (x : Sector) → slice_get y k ≡ Some x → (run.first ≤ x.0.page) × (x.0.page < run.first + run.pages)) (one_memory c t two.0 n two.1 stands_n)
      (run_of m stands one.0 one.1 one.2 two.0 two.2)

  -- the bits of the run's sectors alone are other ones
  pub labelled_bits : IsUnframed s 0 → (m : List Sector) → Stands a s m → (marks : Marks) → BitsAre layout marks m → (n : List Sector) → Stands c t n → BitsAre layout (marked true run.sector run.pages marks) n
  labelled_bits none m stands marks bits n stands_n =
      let one = taken.goes.memory m stands in
      let two = (made.goes (none_over (unframed_still (maps_come taken) none) one.0 one.1)).memory one.0 one.1 in
      let now = marked_so m marks stands bits in
      let later = marked true run.sector run.pages marks in
      let same = one_memory b t now.memory one.0 now.stands one.1 in
      subst (BitsAre layout later) (one_memory c t two.0 n two.1 stands_n) (bits_stay m stands one.0 one.1 one.2 two.0 two.2 later (subst (BitsAre layout later) same now.is))

  -- the bytes of the file map are reported as they were
  pub bytes_revealed : IsUnframed s 0 → (bytes : List ℕ) → Reveals FileMap a s layout bytes → Reveals FileMap c t layout bytes
  bytes_revealed none bytes reveals =
      let now = labelled none reveals.memory reveals.stands in
      record { memory = now.0; stands = now.1; shows = now.2.map bytes reveals.shows; size = made.makes.went.sectors ∙ taken.goes.makes.went.sectors ∙ reveals.size }

  pub map_then : (m n : List Sector) (named : Triples) → IsLabelledFor layout run.id m n → MapIs layout named m → MapIs layout named n
  map_then m n named h map = record { bytes = map.bytes; shows = h.map map.bytes map.shows; names = map.names }

  -- ---- And it is added to the file map.

  module _ {d : DiskState} {u : Slots} {l3 : Layout} (beside : Beside FileMap c t layout d u l3)
      (added : (m : List Sector) (named : Triples) → Stands c t m → MapIs layout named m → IsNew named run → Becomes FileMap layout m (MapIs layout (with_run named run)) d u) where
    pub made_run : MakesFor layout run.id (λ page. (run.first ≤ page) × (page < run.first + run.pages)) a s d u
    made_run = record {
      brings = brings_then (maps_come taken) (maps_come beside);
      memory = λ none m stands.
          let now = labelled none m stands in
          let last = beside.goes.memory now.0 now.1 in (
            last.0,
            last.1,
            record {
              taken = sectors_then now.2.taken (file_map_alone layout run.id now.0 last.0 last.2);
              of = λ other sector from taken_so.
                  let back = other_sector now.0 last.0 last.2.labels sector taken_so.now.0 taken_so.now.1 in
                  let own = labelled_of none m stands now.0 now.1 other sector (record { was = taken_so.was; now = (back.0, back.1, ap (λ (l : Label). l.id) back.2 ∙ taken_so.now.2) }) back.0 back.1 in
                  (taken_so.now.0, taken_so.now.1, subst (λ (p : ℕ). (run.first ≤ p) × (p < run.first + run.pages)) (ap (λ (l : Label). l.page) back.2) own);
              names = λ named map nothing.
                  let more = added now.0 named now.1 (map_then m now.0 named now.2 map) (new_run run named nothing) in
                  let one = one_memory d u more.memory last.0 more.stands last.1 in
                  (with_run named run, subst (MapIs layout (with_run named run)) one more.is, run_adds run named);
            },
          );
    }
