-- A page of the space tables changes in its frame.
use Rattle.std.proofs.Common.{◌≡◌, ◌≢◌, inl, inr, ℕ, ◌+◌, ◌*◌, ◌<◌, ◌≤◌, true, List, [], length, Some, refl, sym, ◌∙◌, ap, arith, rules}
use Rattle.std.specs.Prelude.{slice_get, slice_set}
use Rattle.std.proofs.lemmas.Bool.{cases_eq, true≢false}
use Rattle.std.proofs.lemmas.Bool.Decides.{nat_tests}
use Rattle.std.proofs.lemmas.List.{same_lists, places}
use Rattle.std.proofs.lemmas.Option.{same_Some}
use Rattle.labelled_disk.specs.declared.label.Label.{Label}
use Rattle.labelled_disk.specs.declared.layout.Layout.{Layout}
use Rattle.labelled_disk.specs.Label.{names}
use Rattle.labelled_disk.specs.Sectors.{Sector}
use Rattle.labelled_disk.specs.State.{DiskState}
use Rattle.flat_mem.specs.Memory.{part, overwritten}
use Rattle.flat_mem.specs.Parts.{part-overwritten, length-overwritten}
use Rattle.frame_pool.specs.declared.home.Home.{Home}
use Rattle.frame_pool.specs.Frames.{Slots, Frame, Has, changed}
use Rattle.frame_pool.specs.FrameLaws.{has_set, has_below}
use Rattle.frame_pool.specs.ListLaws.{get_other, get_same, below_of}
use Rattle.file_map.specs.FileMap.{Triples}
use Rattle.swapper_kernel.specs.Homes.{IsLayout, IsHeld, IsPlaced, no_home}
use Rattle.swapper_kernel.specs.Goes.{Goes, this_page}
use Rattle.swapper_kernel.specs.GoesLaws.{goes_wider}
use Rattle.swapper_kernel.specs.Differs.{ChangesAt, Differs}
use Rattle.swapper_kernel.specs.DiffersLaws.{set_labels, names_id, names_page}
use Rattle.swapper_kernel.specs.Steps.{Steps}
use Rattle.swapper_kernel.specs.CourseLaws.{steps_wider}
use Rattle.swapper_kernel.proofs.WindowLemmas.{part_elsewhere}
use Rattle.filer_kernel.specs.declared.cached.CachedRuns.{CachedRuns}
use Rattle.filer_kernel.specs.Cached.{runs_of}
use Rattle.filer_kernel.specs.PlaceLaws.{map_kept, one_sector}
use Rattle.filer_kernel.specs.Tables.{in_tables, table_pages, IsTableHome, IsComing, IsChanging, IsTablePage, TablesReveal, BesideTables}
use Rattle.filer_kernel.proofs.TableLemmas.{table_on_data}

-- no byte is written
pub nothing_written : (b : List ℕ) (at : ℕ) (bytes : List ℕ) → length bytes ≡ 0 → overwritten b at bytes ≡ b
nothing_written b at bytes none = same_lists _ _ (search (rules, places)) (λ k d h. grind (arith, places))

table_sector : (layout : Layout) (place : ℕ) (l : Label) → layout.first ≤ place → l.id ≡ 3 → in_tables layout place l ≡ true
table_sector layout place l first three = grind (arith, nat_tests)

-- In the memory, page k changes in the sector of its frame's home.
module _ (x : Layout) (k from : ℕ) (bytes : List ℕ) (home : Home) (m n : List Sector) (first : x.first ≤ home.sector) (three : home.id ≡ 3) (at : home.page ≡ k) (c : ChangesAt home from bytes m n) where
  named_here : names c.s.0 (record { id = 3; page = k }) ≡ true
  named_here = sym (λ j. names c.s.0 (record { id = three j; page = at j })) ∙ c.named

  -- in no sector but the tables'
  pub change_differs : Differs (in_tables x) m n
  change_differs = record {
    labels = rw c.is (set_labels m home.sector c.s (overwritten c.s.1 from bytes) c.here);
    pages = λ j t here fails. elim (cases_eq j home.sector) [
      | inl own ↦
          let same : c.s ≡ t = same_Some c.s t (sym c.here ∙ ap (slice_get m) (sym own) ∙ here) in
          let id : t.0.id ≡ 3 = ap (λ (z : Sector). z.0.id) (sym same) ∙ names_id c.s.0 (record { id = 3; page = k }) named_here in
          absurd (true≢false (sym (table_sector x j t.0 (rw own first) id) ∙ fails))
      | inr other ↦ rw c.is (get_other m home.sector j (c.s.0, overwritten c.s.1 from bytes) other ∙ here)
    ];
  }

  -- the bytes of each page are those that are revealed then
  module _ (named : Triples) (over : (sector : ℕ) → named 3 k sector ≡ true → home.sector ≡ sector) (b : List ℕ) (page : (j : ℕ) → j < 96 → IsTablePage x named m j (part b (512 * j) 512)) (long : length b ≡ 512 * 96) (below : k < 96) (fits : from + length bytes ≤ 512) where
    piece : 512 * k + from + length bytes ≤ length b
    piece = omega (arith, long, below, fits)

    page_same : (j : ℕ) → j < 96 → j ≡ k → IsTablePage x named n j (part (overwritten b (512 * k + from) bytes) (512 * j) 512)
    page_same j j_below same =
        let p : IsTablePage x named m k (part b (512 * k) 512) = page k below in
        let sector : home.sector ≡ p.sector = over p.sector p.found in
        let old : c.s ≡ (p.label, part b (512 * k) 512) = same_Some {A = Sector} c.s (p.label, part b (512 * k) 512) (sym c.here ∙ ap (slice_get m) sector ∙ p.keeps) in
        let now : IsTablePage x named n k (part (overwritten b (512 * k + from) bytes) (512 * k) 512) = record {
          sector = p.sector;
          label = c.s.0;
          found = p.found;
          keeps = ap (slice_get n) (sym sector)
              ∙ ap (λ (l : List Sector). slice_get l home.sector) c.is ∙ get_same m home.sector (c.s.0, overwritten c.s.1 from bytes) (below_of m home.sector c.s c.here)
              ∙ ap (λ (l : List ℕ). Some (c.s.0, l)) (ap (λ (t : Sector). overwritten t.1 from bytes) old ∙ sym (part-overwritten b bytes (512 * k) 512 from (omega (arith, long, below)) fits));
          named_so = named_here;
        } in
        rw same now

    page_other : (j : ℕ) → j < 96 → j ≢ k → IsTablePage x named n j (part (overwritten b (512 * k + from) bytes) (512 * j) 512)
    page_other j j_below other =
        let p : IsTablePage x named m j (part b (512 * j) 512) = page j j_below in
        let apart : p.sector ≢ home.sector = λ same.
        let one : c.s ≡ (p.label, part b (512 * j) 512) = same_Some {A = Sector} c.s (p.label, part b (512 * j) 512) (sym c.here ∙ ap (slice_get m) (sym same) ∙ p.keeps) in
        other (sym (names_page p.label (record { id = 3; page = j }) p.named_so) ∙ ap (λ (z : Sector). z.0.page) (sym one) ∙ names_page c.s.0 (record { id = 3; page = k }) named_here) in
        record {
          sector = p.sector;
          label = p.label;
          found = p.found;
          keeps = ap (λ (l : List Sector). slice_get l p.sector) c.is ∙ get_other m home.sector p.sector (c.s.0, overwritten c.s.1 from bytes) apart
              ∙ p.keeps ∙ ap (λ (l : List ℕ). Some (p.label, l)) (sym (part_elsewhere b from bytes j k other fits piece));
          named_so = p.named_so;
        }

    pub changed_page : (j : ℕ) → j < 96 → IsTablePage x named n j (part (overwritten b (512 * k + from) bytes) (512 * j) 512)
    changed_page j j_below = elim (cases_eq j k) [ inl same ↦ page_same j j_below same | inr other ↦ page_other j j_below other ]

-- a frame that changed stays where it was
held_before : (s t : Slots) (f : Frame) (from : ℕ) (bytes : List ℕ) (i : ℕ) → Has s i f → t ≡ slice_set s i (Some (changed f from bytes)) → (home : Home) → IsHeld t home → IsHeld s home
held_before s t f from bytes i has slots home held = elim (has_set s i held.slot (Some (changed f from bytes)) held.frame (has_below s i f has) (record { is = ap (λ (l : Slots). slice_get l held.slot) (sym slots) ∙ held.has.is })) [
  | inl (_, own) ↦ record { slot = i; frame = f; has = has; at = ap (λ (g : Frame). g.home) (same_Some (changed f from bytes) held.frame own) ∙ held.at }
  | inr (_, was) ↦ record { slot = held.slot; frame = held.frame; has = was; at = held.at }
]

-- A frame of page `page` was changed.
module _ {a b : DiskState} {s t : Slots} {x y : Layout} {k : CachedRuns} (is : IsLayout x) (page : ℕ) (below : page < 96) (same : y ≡ x) (f : Frame) (placed : IsPlaced x f.home) (three : f.home.id ≡ 3) (at : f.home.page ≡ page)
    (from : ℕ) (bytes : List ℕ) (fits : from + length bytes ≤ 512) (goes : Goes (ChangesAt f.home from bytes) (this_page f.home.id f.home.page) [] a s b t)
    (i : ℕ) (has : Has s i f) (slots : t ≡ slice_set s i (Some (changed f from bytes))) where
  pub tables_changed : (all : List ℕ) → TablesReveal a s x k all → TablesReveal b t y k (overwritten all (512 * page + from) bytes)
  tables_changed all reveals =
      let now = goes.memory reveals.memory reveals.stands in
      let first = (table_on_data x f.home placed three).0 in
      let here : reveals.triples 3 page f.home.sector ≡ true =
      ap (λ (j : ℕ). reveals.triples 3 j f.home.sector) (sym at) ∙ reveals.held f.home (record { slot = i; frame = f; has = has; at = refl }) three (omega (arith, at, below)) in
      let over = one_sector x reveals.triples reveals.memory reveals.map 3 page f.home.sector in
      let piece : 512 * page + from + length bytes ≤ length all = omega (arith, reveals.count, below, fits) in
      let changed : TablesReveal b t x k (overwritten all (512 * page + from) bytes) = record {
        memory = now.0;
        stands = now.1;
        triples = reveals.triples;
        map = map_kept x reveals.triples reveals.memory now.0 is (change_differs x page from bytes f.home reveals.memory now.0 first three at now.2) reveals.map;
        kept = reveals.kept;
        size = goes.makes.went.sectors ∙ reveals.size;
        count = length-overwritten all bytes (512 * page + from) piece ∙ reveals.count;
        page = changed_page x page from bytes f.home reveals.memory now.0 first three at now.2 reveals.triples (λ sector found. over sector here found) all reveals.page reveals.count below fits;
        held = λ home held. reveals.held home (held_before s t f from bytes i has slots home held);
      } in
      rw same changed

  pub beside_changed : Steps no_home (λ (h : Home). h ≡ f.home) a s b t → BesideTables a s x k b t y k
  beside_changed steps = record {
    goes = goes_wider (ChangesAt f.home from bytes) (Differs (in_tables x)) table_pages (λ m n c. change_differs x page from bytes f.home m n (table_on_data x f.home placed three).0 three at c) (λ id p own. inl (own.0 ∙ three)) goes;
    brings = record { homes = λ home held. inl (held_before s t f from bytes i has slots home held) };
    steps = steps_wider (IsComing x a s (runs_of x.sectors k)) (IsChanging x) (λ h no. absurd no) (λ h own. inr (rw own changing)) steps;
    layout = same;
    given = λ r one. inl one;
    runs_are = λ m named stands map are. are;
    revealed = λ all reveals. (overwritten all (512 * page + from) bytes, tables_changed all reveals);
  }
    where
      changing : IsTableHome x f.home
      changing =
          let data_sector = table_on_data x f.home placed three in
          record { of_tables = three; on_data = record { id = inl three; from = data_sector.0; below = data_sector.1 } }
