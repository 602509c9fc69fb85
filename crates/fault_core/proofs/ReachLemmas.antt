-- Pages that are found and brought in, one after the other.
use Rattle.std.proofs.Common.{◌≡◌, ◌⊎◌, inl, inr, ℕ, ◌*◌, ◌<◌, ◌≤◌, false, List, Some, Option, refl, sym, ◌∙◌, ap, subst, arith}
use Rattle.std.specs.Prelude.{slice_get, None, []}
use Rattle.std.proofs.lemmas.Bool.{cases_lt, cases_eq}
use Rattle.std.proofs.lemmas.Bool.Decides.{nat_tests}
use Rattle.std.proofs.lemmas.Option.{same_Some, none-some}
use Rattle.labelled_disk.specs.declared.label.Label.{Label}
use Rattle.labelled_disk.specs.declared.layout.Layout.{Layout}
use Rattle.labelled_disk.specs.declared.evidence.Halt.{Halt}
use Rattle.labelled_disk.specs.Sectors.{Sector}
use Rattle.labelled_disk.specs.State.{DiskState}
use Rattle.flat_mem.specs.Memory.{part}
use Rattle.frame_pool.specs.declared.home.Home.{Home}
use Rattle.frame_pool.specs.Frames.{Slots}
use Rattle.file_map.specs.FileMap.{Triples}
use Rattle.swapper_kernel.specs.Homes.{IsLayout}
use Rattle.swapper_kernel.specs.Stands.{Stands, labels_of}
use Rattle.swapper_kernel.specs.Differs.{Differs}
use Rattle.swapper_kernel.specs.DiffersLaws.{differs_itself, differs_then, same_place, label_here, sector_of_label}
use Rattle.swapper_kernel.specs.Goes.{Goes, Pages, no_page}
use Rattle.swapper_kernel.specs.GoesLaws.{goes_itself, goes_then, makes_wider}
use Rattle.session_words.specs.Volume.{Searches, volume_page}
use Rattle.swapper_kernel.specs.HaltLaws.{brings_itself, brings_then, brings_wider}
use Rattle.swapper_kernel.specs.OnceLaws.{stands_once}
use Rattle.filer_kernel.specs.declared.cached.CachedRuns.{CachedRuns}
use Rattle.filer_kernel.specs.Triples.{MapIs}
use Rattle.filer_kernel.specs.NamedLaws.{maps_named_once}
use Rattle.filer_kernel.specs.PlaceLaws.{map_kept, one_sector}
use Rattle.filer_kernel.specs.Tables.{in_tables, table_pages, IsTablePage, TablesReveal}
use Rattle.filer_kernel.proofs.MapLemmas.{same_elements}
use Rattle.filer_kernel.specs.View.{View, TablesAre}
use Rattle.fault_core.specs.Reach.{IsReachedHome, IsReached, Reaches, FindHalts, ReachHalts, table_page}
use Rattle.fault_core.specs.Revealed.{IsTabled, Known}
use Rattle.fault_core.proofs.BeforeLemmas.{touches_of, given_before, found_before, came_before, halt_before}

pub reaches_itself : (v : View) → Reaches v v
reaches_itself v = record {
  goes = goes_itself (Differs (in_tables v.layout)) table_pages v.disk v.slots (λ m. differs_itself (in_tables v.layout) m);
  brings = brings_itself (IsReached v) v.slots;
  layout = refl;
  given = λ r one. inl one;
  runs_are = λ m named stands map are. are;
  revealed = λ b reveals. reveals;
}

module _ (v w : View) (is : IsLayout v.layout) (h : Reaches v w) where
  pub reached_home_before : (home : Home) → IsReachedHome w home → IsReachedHome v home
  reached_home_before home g = found_before v w is (touches_of no_page h) home g

  pub finds_before : (may : Pages) (breaks broke : ℕ → Type 0) → ((page : ℕ) → breaks page → broke page) → (x y : View) → x.disk.faults ≤ y.disk.faults → (e : Halt) → FindHalts breaks may w x e → FindHalts broke may v y e
  finds_before may breaks broke earlier x y later e g = halt_before v w is (touches_of no_page h) breaks broke earlier may x y later e g

  pub halts_before : (breaks broke : ℕ → Type 0) → ((page : ℕ) → breaks page → broke page) → (x y : View) → x.disk.faults ≤ y.disk.faults → (e : Halt) → ReachHalts breaks w x e → ReachHalts broke v y e
  halts_before breaks broke earlier x y later e g = finds_before table_page breaks broke earlier x y later e g

  pub reaches_then : (x : View) → Reaches w x → Reaches v x
  reaches_then x k = record {
    goes = goes_then (Differs (in_tables v.layout)) (Differs (in_tables v.layout)) (Differs (in_tables v.layout)) (λ m n o first last. differs_then (in_tables v.layout) m n o first last) h.goes
        (subst (λ (l : Layout). Goes (Differs (in_tables l)) table_pages [] w.disk w.slots x.disk x.slots) h.layout k.goes);
    brings = brings_then h.brings (brings_wider (IsReached v) (came_before v w is (touches_of no_page h)) k.brings);
    layout = k.layout ∙ h.layout;
    given = λ r one. given_before v w is (touches_of no_page h) r (k.given r one);
    runs_are = λ m named stands map are. let mid = h.goes.memory m stands in
        k.runs_are mid.0 named mid.1 (rw h.layout (map_kept v.layout named m mid.0 is mid.2 map)) (h.runs_are m named stands map are);
    revealed = λ b reveals. k.revealed b (h.revealed b reveals);
  }

-- ---- The memory.

pub same_memory : (d : DiskState) (s : Slots) (m n : List Sector) → Stands d s m → Stands d s n → m ≡ n
same_memory d s m n h k = same_elements m n (stands_once d s m n h k)

-- whether a data sector has the identifier of the space tables
tables_or_not : (layout : Layout) (k : ℕ) (l : Label) → (in_tables layout k l ≡ false) ⊎ ((layout.first ≤ k) × (l.id ≡ 3))
tables_or_not layout k l = elim (cases_lt k layout.first) [
  | inl prefix ↦ inl (grind (arith, nat_tests))
  | inr from ↦ elim (cases_eq l.id 3) [
    | inl three ↦ inr (from, three)
    | inr other ↦ inl (grind (arith, nat_tests))
  ]
]

-- where the bytes of the space tables are the same, the memory is
same_tabled : (v : View) (m : List Sector) (named : Triples) (b : List ℕ) (n : List Sector) (more : Triples) → IsTabled v.layout named m → MapIs v.layout named m → ((id page sector : ℕ) → more id page sector ≡ named id page sector)
    → ((k : ℕ) → k < 96 → IsTablePage v.layout named m k (part b (512 * k) 512)) → ((k : ℕ) → k < 96 → IsTablePage v.layout more n k (part b (512 * k) 512)) → Differs (in_tables v.layout) m n → n ≡ m
same_tabled v m named b n more tabled map once before after differs = same_elements n m (λ k. same_place_cases k (slice_get m k) refl)
  where
    there : (k : ℕ) (s : Sector) → slice_get m k ≡ Some s → v.layout.first ≤ k → s.0.id ≡ 3 → slice_get n k ≡ slice_get m k
    there k s here from three =
        let own = tabled k s from here three in
        let a : IsTablePage v.layout named m s.0.page (part b (512 * s.0.page) 512) = before s.0.page own.0 in
        let c : IsTablePage v.layout more n s.0.page (part b (512 * s.0.page) 512) = after s.0.page own.0 in
        let at : k ≡ a.sector = one_sector v.layout named m map 3 s.0.page k a.sector own.1 a.found in
        let label : slice_get (labels_of n) k ≡ Some s.0 = ap (λ (ls : List Label). slice_get ls k) differs.labels ∙ label_here m k s here in
        let now = sector_of_label n k s.0 label in
        let t : Sector = now.0 in
        let also : k ≡ c.sector = one_sector v.layout named m map 3 s.0.page k c.sector own.1 (sym (once 3 s.0.page c.sector) ∙ c.found) in
        let bytes_now : t.1 ≡ part b (512 * s.0.page) 512 = ap (λ (t : Sector). t.1) (same_Some {A = Sector} t (c.label, part b (512 * s.0.page) 512) (sym now.1 ∙ ap (slice_get n) also ∙ c.keeps)) in
        let bytes_then : s.1 ≡ part b (512 * s.0.page) 512 = ap (λ (t : Sector). t.1) (same_Some {A = Sector} s (a.label, part b (512 * s.0.page) 512) (sym here ∙ ap (slice_get m) at ∙ a.keeps)) in
        now.1 ∙ (λ i. Some (now.2 i, (bytes_now ∙ sym bytes_then) i)) ∙ sym here

    same_place_cases : (k : ℕ) (o : Option Sector) → slice_get m k ≡ o → slice_get n k ≡ slice_get m k
    same_place_cases k None none = same_place (in_tables v.layout) m n differs k (λ s here. absurd (none-some s (sym none ∙ here)))
    same_place_cases k (Some s) here = elim (tables_or_not v.layout k s.0) [
      | inl outside ↦ differs.pages k s here outside ∙ sym here
      | inr (from, three) ↦ there k s here from three
    ]

pub tables_of : (v : View) (m : List Sector) (named : Triples) (b : List ℕ) → Known v m named b → TablesAre v b
tables_of v m named b k = record { memory = m; stands = k.stands; triples = named; map = k.map; kept = k.runs; size = k.size; count = k.count; page = k.page; held = k.held }

moved_pages : (d : DiskState) (s : Slots) (l : Layout) (k : CachedRuns) (b : List ℕ) (t : TablesReveal d s l k b) (x : Layout) (n : List Sector) → n ≡ t.memory → l ≡ x
    → ((j : ℕ) → j < 96 → IsTablePage x t.triples n j (part b (512 * j) 512)) × MapIs x t.triples n
moved_pages d s l k b t x n at layout =
    subst (λ (y : Layout). ((j : ℕ) → j < 96 → IsTablePage y t.triples n j (part b (512 * j) 512)) × MapIs y t.triples n) layout
    (subst (λ (o : List Sector). ((j : ℕ) → j < 96 → IsTablePage l t.triples o j (part b (512 * j) 512)) × MapIs l t.triples o) (sym at) (t.page, t.map))

-- what stood stands, where the tables are revealed
pub known_after : (v w : View) (m : List Sector) (named : Triples) (b : List ℕ) → IsLayout v.layout → Reaches v w → Known v m named b → Known w m named b
known_after v w m named b is h k =
    let mid = h.goes.memory m k.stands in
    let revealed = h.revealed b (tables_of v m named b k) in
    let last : mid.0 ≡ revealed.memory = same_memory w.disk w.slots mid.0 revealed.memory mid.1 revealed.stands in
    let moved = moved_pages w.disk w.slots w.layout w.runs b revealed v.layout mid.0 last h.layout in
    let once = maps_named_once v.layout mid.0 mid.0 named revealed.triples is (revealed.size ∙ ap (λ (l : Layout). l.sectors) h.layout) mid.1 mid.1 (map_kept v.layout named m mid.0 is mid.2 k.map) moved.1 in
    let same : mid.0 ≡ m = same_tabled v m named b mid.0 revealed.triples k.tabled k.map once k.page moved.0 mid.2 in
    record {
      stands = subst (Stands w.disk w.slots) same mid.1;
      size = revealed.size;
      long = rw h.layout k.long;
      sectors = k.sectors;
      map = rw h.layout k.map;
      map_labels = rw h.layout k.map_labels;
      runs = h.runs_are m named k.stands k.map k.runs;
      tabled = rw h.layout k.tabled;
      count = k.count;
      page = rw h.layout k.page;
      held = λ home there three below. sym (once 3 home.page home.sector) ∙ revealed.held home there three below;
    }

own_pages : (id page : ℕ) → table_pages id page → volume_page id page
own_pages id page own = elim own [ inl three ↦ omega (arith, three) | inr two ↦ omega (arith, two) ]

-- finding pages is a search, where the memory is known
pub reaches_searches : (v w : View) (m : List Sector) (named : Triples) (b : List ℕ) → IsLayout v.layout → Reaches v w → Known v m named b → Searches v.disk v.slots w.disk w.slots
reaches_searches v w m named b is h k = record {
  makes = makes_wider volume_page own_pages h.goes.makes;
  memory = λ n stands.
      let same : n ≡ m = same_memory v.disk v.slots n m stands k.stands in
      (n, subst (Stands w.disk w.slots) (sym same) (known_after v w m named b is h k).stands, refl);
}
