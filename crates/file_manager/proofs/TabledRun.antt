-- A run of the space tables that is taken, labelled and added: the bytes of their pages are reported as before, and those of the run's are zeros.
use Rattle.std.proofs.Common.{◌≡◌, ◌≢◌, inl, inr, ℕ, zero, suc, ◌+◌, ◌-◌, ◌*◌, ◌<◌, ◌≤◌, Bool, true, ◌||◌, List, ◌++◌, length, Some, None, refl, sym, ◌∙◌, ap, subst, arith, length-set}
use Rattle.std.specs.Prelude.{slice_get, slice_set, ◌==◌, take, drop, replicate}
use Rattle.std.specs.List.{range_with_len}
use Rattle.std.proofs.lemmas.Bool.{cases_lt, eqb-true}
use Rattle.std.proofs.lemmas.Option.{same_Some, slice_get_within}
use Rattle.std.proofs.lemmas.List.{length-append, length-drop, length-replicate, take-append-le, take-replicate, drop-append-le, drop-replicate}
use Rattle.std.proofs.Math.Seq.{drop-append-add}
use Rattle.labelled_disk.specs.declared.label.Label.{Label}
use Rattle.labelled_disk.specs.declared.layout.Layout.{Layout}
use Rattle.labelled_disk.specs.Label.{names, page_label}
use Rattle.labelled_disk.specs.Runs.{growth, zero_bytes}
use Rattle.labelled_disk.specs.Sectors.{Sector}
use Rattle.labelled_disk.specs.State.{DiskState}
use Rattle.labelled_disk.specs.WriteRuns.{after_writes}
use Rattle.labelled_disk.proofs.Finds.{get_set_same}
use Rattle.flat_mem.specs.Memory.{part}
use Rattle.frame_pool.specs.Frames.{Slots}
use Rattle.alloc_map.specs.Runs.{IsDataRun}
use Rattle.file_map.specs.declared.run.Run.{Run}
use Rattle.file_map.specs.FileMap.{Triples, IsNew, with_run, run_names}
use Rattle.swapper_kernel.specs.declared.manager.Manager.TheVariants.{AllocationMap, FileMap}
use Rattle.swapper_kernel.specs.Differs.{Differs}
use Rattle.swapper_kernel.specs.DiffersLaws.{other_sector, same_place, names_id}
use Rattle.swapper_kernel.specs.Goes.{Makes}
use Rattle.swapper_kernel.specs.Homes.{IsLayout}
use Rattle.swapper_kernel.specs.Stands.{Stands}
use Rattle.swapper_kernel.specs.Window.{Beside, in_map}
use Rattle.label_calls.specs.Labels.{free_ones, HasOne}
use Rattle.label_calls.specs.Clearing.{RelabelsCleared}
use Rattle.filer_kernel.specs.Becomes.{Becomes}
use Rattle.filer_kernel.specs.Marks.{Marks, BitsAre, marked}
use Rattle.filer_kernel.specs.PlaceLaws.{on_data}
use Rattle.filer_kernel.specs.Tables.{IsTablePage}
use Rattle.filer_kernel.specs.Triples.{MapIs}
use Rattle.session_words.specs.Volume.{volume_page}
use Rattle.session_words.proofs.GrownLemmas.{page_label_named}
use Rattle.file_manager.specs.Grounds.{IsUnframed}
use Rattle.file_manager.specs.Making.{sectors_of}
use Rattle.file_manager.specs.Reasons.{InitialState, AreTabled, KeepsTo, telling}
use Rattle.file_manager.specs.RetoldLaws.{retold}
use Rattle.file_manager.specs.Taking.{NamesNoneOf}
use Rattle.file_manager.proofs.FreedRun.{after_map, first_is, one_memory}
use Rattle.file_manager.proofs.KeepCut.{or_right}
use Rattle.file_manager.proofs.MadeReasons.{names_turn, run_keeps}
use Rattle.file_manager.proofs.MadeRun.{labelled, maps_come, map_then, new_run, none_over, unframed_still}
use Rattle.file_manager.proofs.RowLemmas.{growth_elsewhere, in_row}

-- ---- Bytes.

-- those of a page before are as they were where more stand after
part_prefix : (b more : List ℕ) (at long : ℕ) → at + long ≤ length b → part (b ++ more) at long ≡ part b at long
part_prefix b more at long within =
    let left : long ≤ length (drop at b) = let size = length-drop at b in omega (arith, size, within) in
    ap (take long) (drop-append-le at b more (omega (arith, within))) ∙ take-append-le long (drop at b) more left

-- those of a page among zeros are zeros
part_after : (b : List ℕ) (count at j long : ℕ) → at ≡ length b + j → j + long ≤ count → part (b ++ replicate count 0) at long ≡ replicate long 0
part_after b count at j long place within =
    ap (λ (k : ℕ). part (b ++ replicate count 0) k long) place ∙ ap (take long) (drop-append-add b (replicate count 0) j ∙ drop-replicate j count 0) ∙ take-replicate long (count - j) 0 (omega (arith, within))

-- a page of zeros
zeros_after : (b : List ℕ) (first pages k : ℕ) → length b ≡ 512 * first → first ≤ k → k < first + pages → part (b ++ replicate (512 * pages) 0) (512 * k) 512 ≡ zero_bytes
unfolding zero_bytes
zeros_after b first pages k long from below = part_after b (512 * pages) (512 * k) (512 * (k - first)) 512 (omega (arith, long, from)) (omega (arith, from, below))

-- so many bytes are revealed then
pub zeros_more : (b : List ℕ) (first pages : ℕ) → length b ≡ 512 * first → length (b ++ replicate (512 * pages) 0) ≡ 512 * (first + pages)
zeros_more b first pages long = let both = length-append b (replicate (512 * pages) 0) in let more = length-replicate {A = ℕ} (512 * pages) 0 in omega (arith, both, more, long)

-- a run of at most so many pages ends within
pub run_within : (first pages most : ℕ) → pages ≤ most → first + most ≤ 96 → first + pages ≤ 96
run_within first pages most few within = omega (arith, few, within)

-- ---- Sectors.

-- the sectors of a growth have their labels and zeros
growth_made : (id kind page first n j : ℕ) (d : List Sector) → j < n → first + n ≤ length d → slice_get (after_writes (growth id kind page (range_with_len first n)) d) (first + j) ≡ Some (page_label id kind (page + j), zero_bytes)
growth_made id kind page first zero j d below within = absurd (omega (arith, below))
growth_made id kind page first (suc n) zero d below within =
    let place : first + 0 ≡ first = omega arith in
    let of : page + 0 ≡ page = omega arith in
    let next = slice_set d first (page_label id kind page, zero_bytes) in
    ap (slice_get (after_writes (growth id kind (page + 1) (range_with_len (first + 1) n)) next)) place
    ∙ growth_elsewhere id kind (page + 1) (range_with_len (first + 1) n) next first (λ i at. let r = in_row (first + 1) n i first at in let same = r.1 in omega (arith, same))
    ∙ get_set_same d first (page_label id kind page, zero_bytes) (omega (arith, within)) ∙ ap (λ (p : ℕ). Some (page_label id kind p, zero_bytes)) (sym of)
growth_made id kind page first (suc n) (suc j) d below within =
    let place : first + suc j ≡ first + 1 + j = omega arith in
    let of : page + 1 + j ≡ page + suc j = omega arith in
    let next = slice_set d first (page_label id kind page, zero_bytes) in
    let size = length-set d first (page_label id kind page, zero_bytes) in
    ap (slice_get (after_writes (growth id kind (page + 1) (range_with_len (first + 1) n)) next)) place
    ∙ growth_made id kind (page + 1) (first + 1) n j next (omega (arith, below)) (omega (arith, size, within)) ∙ ap (λ (p : ℕ). Some (page_label id kind p, zero_bytes)) of

-- The sectors of the run had free labels, and have those of its pages, with zeros; other data sectors are as they were.
record IsGrown (layout : Layout) (run : Run) (kind : ℕ) (m n : List Sector) : Type 0 where
  made : (j : ℕ) → j < run.pages → slice_get n (run.sector + j) ≡ Some (page_label run.id kind (run.first + j), zero_bytes)
  was : (j : ℕ) → j < run.pages → HasOne free_ones m (run.sector + j)
  other : (k : ℕ) → layout.first ≤ k → ((j : ℕ) → j < run.pages → k ≢ run.sector + j) → slice_get n k ≡ slice_get m k

-- data sectors are after both maps
data_same : (layout : Layout) (m n : List Sector) → IsLayout layout → Differs (in_map FileMap layout) m n → (k : ℕ) → layout.first ≤ k → slice_get n k ≡ slice_get m k
data_same layout m n is differs k from = same_place (in_map FileMap layout) m n differs k (λ s here. after_map FileMap layout k s.0 (let first = first_is layout is in omega (arith, first, from)))

-- so they are when the run is added to the file map
grown_then : {layout : Layout} {run : Run} {kind : ℕ} {m n o : List Sector} → IsLayout layout → layout.first ≤ run.sector → IsGrown layout run kind m n → Differs (in_map FileMap layout) n o → IsGrown layout run kind m o
grown_then {layout = layout} {run = run} {n = n} {o = o} is from g differs = record {
  made = λ j below. data_same layout n o is differs (run.sector + j) (omega (arith, from)) ∙ g.made j below;
  was = g.was;
  other = λ k above none. data_same layout n o is differs k above ∙ g.other k above none;
}

module _ {layout l1 : Layout} {a b c : DiskState} {s t : Slots} (is : IsLayout layout) (run : Run) (kind most : ℕ) (form : IsDataRun layout.first layout.sectors most (run.sector, run.pages)) (taken : Beside AllocationMap a s layout b t l1)
    (marked_so : (m : List Sector) (marks : Marks) → Stands a s m → BitsAre layout marks m → Becomes AllocationMap layout m (BitsAre layout (marked true run.sector run.pages marks)) b t)
    (made : RelabelsCleared run.sector run.pages (growth run.id kind run.first (sectors_of run)) b t c) where
  module _ (m : List Sector) (m1 : List Sector) (stands : Stands b t m1) (differs : Differs (in_map AllocationMap layout) m m1) where
    -- each was free, so it is there
    was_free : (j : ℕ) → j < run.pages → HasOne free_ones m (run.sector + j)
    was_free j below =
        let disk = made.were stands.sectors stands.revealed j below in
        let one = other_sector m stands.sectors (sym stands.merged.labels ∙ differs.labels) (run.sector + j) disk.0 disk.1 in
        (one.0, one.1, ap (λ (l : Label). l.id == 0) one.2 ∙ disk.2)

    inside : run.sector + run.pages ≤ length m1
    inside =
        let some = form.some in
        let disk = made.were stands.sectors stands.revealed (run.pages - 1) (omega (arith, some)) in
        let one = other_sector m1 stands.sectors (sym stands.merged.labels) (run.sector + (run.pages - 1)) disk.0 disk.1 in
        let within = slice_get_within m1 (run.sector + (run.pages - 1)) one.0 one.1 in
        omega (arith, some, within)

    once_grown : (n : List Sector) → n ≡ after_writes (growth run.id kind run.first (sectors_of run)) m1 → IsGrown layout run kind m n
    once_grown n is_n = record {
      made = λ j below. ap (λ (l : List Sector). slice_get l (run.sector + j)) is_n ∙ growth_made run.id kind run.first run.sector run.pages j m1 below inside;
      was = was_free;
      other = λ k from none.
          ap (λ (l : List Sector). slice_get l k) is_n
          ∙ growth_elsewhere run.id kind run.first (sectors_of run) m1 k (λ j at. let r = in_row run.sector run.pages j k at in none j r.0 r.1)
          ∙ same_place (in_map AllocationMap layout) m m1 differs k (λ x here. after_map AllocationMap layout k x.0 (let first = first_is layout is in omega (arith, first, from)));
    }

  grown : IsUnframed s 0 → (m : List Sector) → Stands a s m → (n : List Sector) → Stands c t n → IsGrown layout run kind m n
  grown none m stands n stands_n =
      let one = taken.goes.memory m stands in
      let two = (made.goes (none_over is run kind most form taken marked_so made (unframed_still (maps_come taken) none) one.0 one.1)).memory one.0 one.1 in
      subst (IsGrown layout run kind m) (one_memory c t two.0 n two.1 stands_n) (once_grown m one.0 one.1 one.2 two.0 two.2)

-- ---- Pages of the space tables.

-- a free label is that of none
not_free : (l : Label) (k : ℕ) → free_ones l → names l (record { id = 3; page = k }) ≡ true → ⊥
not_free l k none is = let of : l.id ≡ 3 = names_id l (record { id = 3; page = k }) is in let nobody : l.id ≡ 0 = eqb-true l.id 0 none in omega (arith, of, nobody)

module _ (layout : Layout) (run : Run) (kind : ℕ) (named : Triples) (m n : List Sector) (is : IsLayout layout) (tables : run.id ≡ 3) (from : layout.first ≤ run.sector) (map : MapIs layout named m) (g : IsGrown layout run kind m n) where
  -- a page before is as it was
  old_page : (k : ℕ) (page : List ℕ) → k < run.first → IsTablePage layout named m k page → IsTablePage layout (with_run named run) n k page
  old_page k page before p = record {
    sector = p.sector;
    label = p.label;
    found = ap (λ (b : Bool). b || run_names run 3 k p.sector) p.found;
    keeps = g.other p.sector place (λ j below same.
        let free = g.was j below in
        let label : p.label ≡ free.0.0 = ap (λ (x : Sector). x.0) (same_Some {A = Sector} (p.label, page) free.0 (sym p.keeps ∙ ap (slice_get m) same ∙ free.1)) in
        not_free free.0.0 k free.2 (ap (λ (l : Label). names l (record { id = 3; page = k })) (sym label) ∙ p.named_so)) ∙ p.keeps;
    named_so = p.named_so;
  }
    where
      place : layout.first ≤ p.sector
      place = on_data layout named m map is 3 k p.sector p.found

  -- one of the run's has zeros
  new_page : (k : ℕ) (page : List ℕ) → run.first ≤ k → k < run.first + run.pages → page ≡ zero_bytes → IsTablePage layout (with_run named run) n k page
  new_page k page after below zeros =
      let j = k - run.first in
      let of : run.first + j ≡ k = omega (arith, after) in
      let inside : j < run.pages = omega (arith, after, below) in
      record {
        sector = run.sector + j;
        label = page_label 3 kind k;
        found = or_right (named 3 k (run.sector + j)) (run_names run 3 k (run.sector + j)) (names_turn run 3 k (run.sector + j) j tables of inside refl);
        keeps = g.made j inside ∙ (λ i. Some (page_label (tables i) kind (of i), sym zeros i));
        named_so = page_label_named 3 kind k;
      }

  tabled_grown : (bytes : List ℕ) → length bytes ≡ 512 * run.first → run.first + run.pages ≤ 96 → AreTabled layout named m bytes → AreTabled layout (with_run named run) n (bytes ++ replicate (512 * run.pages) 0)
  tabled_grown bytes long fits h =
      let size = h.long in
      let count : h.count ≡ run.first = omega (arith, size, long) in
      record {
        count = run.first + run.pages;
        most = fits;
        long = zeros_more bytes run.first run.pages long;
        page = λ k below. elim (cases_lt k run.first) [
          | inl before ↦
              let same = part_prefix bytes (replicate (512 * run.pages) 0) (512 * k) 512 (omega (arith, before, long)) in
              subst (IsTablePage layout (with_run named run) n k) (sym same) (old_page k (part bytes (512 * k) 512) before (h.page k (omega (arith, before, count))))
          | inr after ↦
              new_page k (part (bytes ++ replicate (512 * run.pages) 0) (512 * k) 512) after below (zeros_after bytes run.first run.pages k long after below)
        ];
      }

-- ---- What keeps to an initial state.

module _ (o : InitialState) {x l1 l3 : Layout} {k : List Run} {a b c d : DiskState} {s t u : Slots} {named : Triples} (bytes : List ℕ) (h : KeepsTo (telling o bytes) x k a s named) (is : IsLayout x) (run : Run) (kind most : ℕ) (form : IsDataRun x.first x.sectors most (run.sector, run.pages))
    (taken : Beside AllocationMap a s x b t l1) (marked_so : (m : List Sector) (marks : Marks) → Stands a s m → BitsAre x marks m → Becomes AllocationMap x m (BitsAre x (marked true run.sector run.pages marks)) b t)
    (made : RelabelsCleared run.sector run.pages (growth run.id kind run.first (sectors_of run)) b t c)
    (beside : Beside FileMap c t x d u l3) (makes : Makes volume_page (growth run.id kind run.first (sectors_of run)) a s d u) (nothing : NamesNoneOf run.id (λ page. (run.first ≤ page) × (page < run.first + run.pages)) named) where
  -- a run of the tables: its pages are reported as zeros
  pub run_tables : run.id ≡ 3 → run.first + run.pages ≤ 96 → length bytes ≡ 512 * run.first
      → ((m : List Sector) (named : Triples) → Stands c t m → MapIs x named m → IsNew named run → Becomes FileMap x m (MapIs x (with_run named run)) d u)
      → KeepsTo (telling o (bytes ++ replicate (512 * run.pages) 0)) x k d u (with_run named run)
  run_tables tables fits long added =
      let mid = labelled is run kind most form taken marked_so made h.unframed h.memory h.stands in
      let map = map_then is run kind most form taken marked_so made h.memory mid.0 named mid.2 h.map in
      let more = added mid.0 named mid.1 map (new_run run named nothing) in
      let g = grown_then is form.above (grown is run kind most form taken marked_so made h.unframed h.memory h.stands mid.0 mid.1) more.differs in
      let tabled = tabled_grown x run kind named h.memory more.memory is tables form.above h.map g bytes long fits h.tabled in
      let keeps = run_keeps (retold None h tt) is run kind most form taken marked_so made beside makes nothing (λ client. absurd (omega (arith, tables, client))) (λ own. refl) added in
      retold (Some (bytes ++ replicate (512 * run.pages) 0)) keeps
      (subst (λ (m : List Sector). AreTabled x (with_run named run) m (bytes ++ replicate (512 * run.pages) 0)) (one_memory d u more.memory keeps.memory more.stands keeps.stands) tabled)
