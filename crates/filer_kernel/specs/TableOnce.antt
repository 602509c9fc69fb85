-- The pages of the space tables are one list of bytes at most, and swapping leaves it.
use Rattle.std.specs.Prelude.{◌≡◌, ◌⊎◌, ℕ, ◌<◌, ◌*◌, ◌/◌, ◌%◌, true, List, [], Some, slice_get, get_or}
use Rattle.std.proofs.Common.{inl, inr, sym, ◌∙◌, ap, arith}
use Rattle.std.proofs.lemmas.Option.{same_Some}
use Rattle.std.proofs.lemmas.List.{same_lists}
use Rattle.labelled_disk.specs.declared.layout.Layout.{Layout}
use Rattle.labelled_disk.specs.Sectors.{Sector}
use Rattle.labelled_disk.specs.State.{DiskState}
use Rattle.flat_mem.specs.Memory.{part}
use Rattle.frame_pool.specs.declared.home.Home.{Home}
use Rattle.frame_pool.specs.Frames.{Slots}
use Rattle.file_map.specs.FileMap.{Triples}
use Rattle.swapper_kernel.specs.declared.manager.Manager.TheVariants.{FileMap}
use Rattle.swapper_kernel.specs.Maps.{IsMapHome}
use Rattle.swapper_kernel.specs.Homes.{Homes, IsLayout, IsHeld, Brings}
use Rattle.swapper_kernel.specs.Stands.{Stands}
use Rattle.swapper_kernel.specs.Differs.{Differs}
use Rattle.swapper_kernel.specs.Goes.{Goes, Pages, Swaps}
use Rattle.swapper_kernel.specs.GoesLaws.{swaps_stands}
use Rattle.swapper_kernel.specs.OnceLaws.{stands_once, byte_in}
use Rattle.filer_kernel.specs.declared.cached.CachedRuns.{CachedRuns}
use Rattle.filer_kernel.specs.Cached.{runs_of}
use Rattle.filer_kernel.specs.Causes.{IsRunHome}
use Rattle.filer_kernel.specs.NamedLaws.{maps_named_once, run_home_named}
use Rattle.filer_kernel.specs.PlaceLaws.{map_kept, one_sector}
use Rattle.filer_kernel.specs.Tables.{in_tables, IsComing, IsTablePage, TablesReveal}
use Rattle.filer_kernel.specs.Triples.{MapIs, AreOf}

pub tables_reveal_once : (disk : DiskState) (slots : Slots) (layout : Layout) (runs : CachedRuns) (b c : List ℕ) → IsLayout layout → TablesReveal disk slots layout runs b → TablesReveal disk slots layout runs c → b ≡ c
tables_reveal_once disk slots layout runs b c is h l =
    same_lists b c (h.count ∙ sym l.count) (λ k d below.
    let page : k / 512 < 96 = omega (arith, h.count, below) in
    byte_in b k d ∙ ap (λ (x : List ℕ). get_or x (k % 512) d) (same_page (k / 512) page) ∙ sym (byte_in c k d))
  where
    same_page : (j : ℕ) → j < 96 → part b (512 * j) 512 ≡ part c (512 * j) 512
    same_page j below =
        let x : IsTablePage layout h.triples h.memory j (part b (512 * j) 512) = h.page j below in
        let y : IsTablePage layout l.triples l.memory j (part c (512 * j) 512) = l.page j below in
        let there : slice_get h.memory y.sector ≡ Some (y.label, part c (512 * j) 512) = stands_once disk slots h.memory l.memory h.stands l.stands y.sector ∙ y.keeps in
        let found : h.triples 3 j y.sector ≡ true = maps_named_once layout l.memory h.memory l.triples h.triples is h.size l.stands h.stands l.map h.map 3 j y.sector ∙ y.found in
        let same : y.sector ≡ x.sector = one_sector layout h.triples h.memory h.map 3 j y.sector x.sector found x.found in
        ap (λ (s : Sector). s.1) (same_Some {A = Sector} (x.label, part b (512 * j) 512) (y.label, part c (512 * j) 512) (sym x.keeps ∙ ap (slice_get h.memory) (sym same) ∙ there))

-- ---- Frames that come.

-- each frame of one of the pages of the space tables was there before, or is over the sector where the map has that page
abbrev pub ComeOver : Slots → Slots → Triples → Type 0
ComeOver before after named = (home : Home) → IsHeld after home → home.id ≡ 3 → home.page < 96 → IsHeld before home ⊎ (named 3 home.page home.sector ≡ true)

-- by the homes of pages that come
pub come_over : {s t : Slots} (come : Homes) (named : Triples) → ((home : Home) → come home → home.id ≡ 3 → named 3 home.page home.sector ≡ true) → Brings come s t → ComeOver s t named
come_over come named all brings = λ home held three below. elim (brings.homes home held) [ inl was ↦ inl was | inr new ↦ inr (all home new three) ]

-- none is at a home of the file map
pub map_not_over : (x : Layout) (home : Home) → IsMapHome FileMap x home → home.id ≡ 3 → ⊥
map_not_over x home at three = let two : home.id ≡ 2 = ap (λ (h : Home). h.id) at.2 in omega (arith, two, three)

-- so it is where pages of the file map alone come
pub map_over : {s t : Slots} (x : Layout) (named : Triples) → Brings (IsMapHome FileMap x) s t → ComeOver s t named
map_over x named brings = come_over (IsMapHome FileMap x) named (λ home at three. absurd (map_not_over x home at three)) brings

-- a page of the space tables is where a run has it that was kept, or that the map shows
pub run_home_over : {a : DiskState} {s : Slots} {x : Layout} {k : CachedRuns} {b : List ℕ} → IsLayout x → (reveals : TablesReveal a s x k b) → (home : Home) → IsRunHome x a s (runs_of x.sectors k) home → home.id ≡ 3
    → reveals.triples 3 home.page home.sector ≡ true
run_home_over {x = x} {k = k} is reveals home by_run three =
    ap (λ (i : ℕ). reveals.triples i home.page home.sector) (sym three) ∙ run_home_named is reveals.size reveals.stands reveals.map (runs_of x.sectors k) reveals.kept home by_run

-- and so it is where such pages come
pub coming_over : {a : DiskState} {s t : Slots} {x : Layout} {k : CachedRuns} {b : List ℕ} → IsLayout x → (reveals : TablesReveal a s x k b) → Brings (IsComing x a s (runs_of x.sectors k)) s t → ComeOver s t reveals.triples
coming_over {a = a} {s = s} {x = x} {k = k} is reveals brings =
    come_over (IsComing x a s (runs_of x.sectors k)) reveals.triples (λ home coming three. elim coming [
      | inl at ↦ absurd (map_not_over x home at three)
      | inr found ↦ run_home_over is reveals home found.by_run three
    ]) brings

-- what is revealed before and after changes of the pages of the tables has them in the same sectors
pub same_sectors : {pages : Pages} {a b : DiskState} {s t : Slots} {x y : Layout} {k l : CachedRuns} {bytes later : List ℕ} → IsLayout x → y ≡ x → Goes (Differs (in_tables x)) pages [] a s b t
    → (reveals : TablesReveal a s x k bytes) → (revealed : TablesReveal b t y l later) → (id page sector : ℕ) → revealed.triples id page sector ≡ reveals.triples id page sector
same_sectors {x = x} is same goes reveals revealed id page sector =
    let now = goes.memory reveals.memory reveals.stands in
    let kept : MapIs x reveals.triples now.0 = map_kept x reveals.triples reveals.memory now.0 is now.2 reveals.map in
    maps_named_once x now.0 revealed.memory reveals.triples revealed.triples is (goes.makes.went.sectors ∙ reveals.size) now.1 revealed.stands kept (rw same at revealed.map) id page sector

-- ---- What is revealed stays.

-- where the memory whose map is in form stays, runs that are kept are the map's, and frames come over their pages, what is revealed stays
pub tables_stay : {a b : DiskState} {s t : Slots} {x y : Layout} {k l : CachedRuns} → y ≡ x → b.sectors ≡ a.sectors → ((m : List Sector) (named : Triples) → Stands a s m → MapIs x named m → Stands b t m)
    → ((m : List Sector) (named : Triples) → Stands a s m → MapIs x named m → AreOf named (runs_of x.sectors k) → AreOf named (runs_of x.sectors l))
    → (bytes : List ℕ) → (reveals : TablesReveal a s x k bytes) → ComeOver s t reveals.triples → TablesReveal b t y l bytes
tables_stay {b = b} {t = t} {x = x} {l = l} same sectors stays are bytes h over =
    let now : TablesReveal b t x l bytes = record {
      memory = h.memory;
      stands = stays h.memory h.triples h.stands h.map;
      triples = h.triples;
      map = h.map;
      kept = are h.memory h.triples h.stands h.map h.kept;
      size = sectors ∙ h.size;
      count = h.count;
      page = h.page;
      held = λ home held three below. elim (over home held three below) [ inl was ↦ h.held home was three below | inr found ↦ found ];
    } in
    rw same now

-- so it does where pages are swapped, those of the space tables too
pub tables_swapped : {a b : DiskState} {s t : Slots} {x y : Layout} {k : CachedRuns} → y ≡ x → Swaps a s b t → (bytes : List ℕ) → (reveals : TablesReveal a s x k bytes) → ComeOver s t reveals.triples → TablesReveal b t y k bytes
tables_swapped same swaps bytes h over = tables_stay same swaps.makes.went.sectors (λ m named stands map. swaps_stands swaps m stands) (λ m named stands map are. are) bytes h over
