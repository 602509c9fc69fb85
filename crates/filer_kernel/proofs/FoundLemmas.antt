-- Pages of the space tables, where a search of the map finds them.
use Rattle.std.proofs.Common.{◌≡◌, inl, inr, ℕ, ◌*◌, ◌<◌, true, List, length, Some, refl, sym, ◌∙◌, ap, subst, arith}
use Rattle.std.specs.Prelude.{slice_get}
use Rattle.std.proofs.lemmas.Bool.{true≢false}
use Rattle.labelled_disk.specs.declared.layout.Layout.{Layout}
use Rattle.labelled_disk.specs.declared.evidence.Evidence.TheVariants.{Mismatch, Malformed, Missing}
use Rattle.labelled_disk.specs.declared.evidence.Halt.{Halt}
use Rattle.labelled_disk.specs.declared.evidence.Halt.TheVariants.{Disk, Damaged}
use Rattle.labelled_disk.specs.Sectors.{Sector, AreSectors}
use Rattle.labelled_disk.specs.State.{DiskState}
use Rattle.flat_mem.specs.Memory.{part}
use Rattle.frame_pool.specs.Frames.{Slots, ArePages}
use Rattle.file_map.specs.declared.run.Run.{Run}
use Rattle.file_map.specs.Run.{IsRun, holds, sector_at}
use Rattle.file_map.specs.FileMap.{Triples, IsNowhere}
use Rattle.file_map.proofs.Runs.{has_page}
use Rattle.swapper_kernel.specs.declared.manager.Manager.TheVariants.{FileMap}
use Rattle.swapper_kernel.specs.Maps.{IsMapHome}
use Rattle.swapper_kernel.specs.Homes.{IsLayout, AreNamed, IsNamed, no_home}
use Rattle.swapper_kernel.specs.Stands.{Stands}
use Rattle.swapper_kernel.specs.DiffersLaws.{differs_itself, same_length}
use Rattle.swapper_kernel.specs.FormLaws.{memory_in_form}
use Rattle.swapper_kernel.specs.GoesLaws.{makes_wider, swaps_stands}
use Rattle.swapper_kernel.specs.HaltLaws.{brings_wider}
use Rattle.swapper_kernel.specs.CourseLaws.{steps_wider}
use Rattle.swapper_kernel.specs.OnceLaws.{stands_once}
use Rattle.swapper_kernel.specs.ThereLaws.{reveals_there}
use Rattle.swapper_kernel.specs.Window.{Shows, Reveals, Beside, Looked, map_bytes}
use Rattle.filer_kernel.specs.declared.cached.CachedRuns.{CachedRuns}
use Rattle.filer_kernel.specs.Cached.{runs_of}
use Rattle.filer_kernel.specs.Triples.{MapIs, AreOf, IsOneOf}
use Rattle.filer_kernel.specs.Causes.{IsGiven, MapHalts}
use Rattle.filer_kernel.specs.PlaceLaws.{data_first, one_sector}
use Rattle.filer_kernel.specs.Tables.{in_tables, table_pages, IsFoundHome, FoundHalts, IfMissing, IsComing, IsChanging, IsTablePage, TablesReveal, BesideTables, LookedTables, IsTableAccounted}
use Rattle.filer_kernel.specs.TableOnce.{map_over, tables_stay}
use Rattle.filer_kernel.proofs.MapLemmas.{same_elements, stays_shown}

same_memory : (d : DiskState) (s : Slots) (m n : List Sector) → Stands d s m → Stands d s n → m ≡ n
same_memory d s m n h k = same_elements m n (stands_once d s m n h k)

-- where the bytes of the map stay, whatever they are, so does the memory
pub memory_stays : {a b : DiskState} {s t : Slots} {x y : Layout} → IsLayout x → a.sectors ≡ x.sectors → ((all : List Sector) → a.contents ≡ Some all → length all ≡ a.sectors)
    → ((all : List Sector) → a.contents ≡ Some all → AreSectors all) → ArePages s → Beside FileMap a s x b t y → ((bytes : List ℕ) → Reveals FileMap a s x bytes → Reveals FileMap b t x bytes)
    → (m : List Sector) → Stands a s m → Stands b t m
memory_stays {a = a} {b = b} {s = s} {t = t} {x = x} is size whole form pages beside stays m stands =
    let long : length m ≡ x.sectors = same_length stands.sectors m stands.merged.labels ∙ whole stands.sectors stands.revealed ∙ size in
    let reveals = reveals_there FileMap a s x m is size stands long (memory_in_form a s m stands (form stands.sectors stands.revealed) pages) in
    let bytes = map_bytes FileMap x m in
    let same : m ≡ reveals.memory = same_memory a s m reveals.memory stands reveals.stands in
    stays_shown refl beside m stands bytes (subst (λ (n : List Sector). Shows FileMap n x bytes) (sym same) reveals.shows)
    (subst (λ (l : Layout). Reveals FileMap b t l bytes) (sym beside.layout) (stays bytes reveals))

-- a search of the map
pub beside_found : {a b : DiskState} {s t : Slots} {x y : Layout} {k l : CachedRuns} → Beside FileMap a s x b t y → ((m : List Sector) → Stands a s m → Stands b t m)
    → ((r : Run) → IsOneOf r (runs_of x.sectors l) → IsGiven x a s (runs_of x.sectors k) r)
    → ((m : List Sector) (named : Triples) → Stands a s m → MapIs x named m → AreOf named (runs_of x.sectors k) → AreOf named (runs_of x.sectors l)) → BesideTables a s x k b t y l
beside_found {a = a} {s = s} {x = x} {k = k} h stays given are = record {
  goes = record { makes = makes_wider table_pages (λ id page is. inr is) h.goes.makes; memory = λ m stands. (m, stays m stands, differs_itself (in_tables x) m) };
  brings = brings_wider (IsComing x a s (runs_of x.sectors k)) (λ home is. inl is) h.brings;
  steps = steps_wider (IsComing x a s (runs_of x.sectors k)) (IsChanging x) (λ home is. inl is) (λ home is. inl is) h.steps;
  layout = h.layout;
  given = given;
  runs_are = are;
  revealed = λ bytes reveals. (bytes, tables_stay h.layout h.goes.makes.went.sectors (λ m named stands map. stays m stands) are bytes reveals (map_over x reveals.triples h.brings));
}

-- which only looks
pub looked_found : {a b : DiskState} {s t : Slots} {x y : Layout} {k l : CachedRuns} → Looked FileMap a s x b t y → ((r : Run) → IsOneOf r (runs_of x.sectors l) → IsGiven x a s (runs_of x.sectors k) r)
    → ((m : List Sector) (named : Triples) → Stands a s m → MapIs x named m → AreOf named (runs_of x.sectors k) → AreOf named (runs_of x.sectors l)) → LookedTables a s x k b t y l
looked_found {a = a} {s = s} {x = x} {k = k} h given are = record {
  swaps = h.swaps;
  brings = brings_wider (IsComing x a s (runs_of x.sectors k)) (λ home is. inl is) h.brings;
  steps = steps_wider (IsComing x a s (runs_of x.sectors k)) no_home (λ home is. inl is) (λ home no. no) h.steps;
  layout = h.layout;
  given = given;
  runs_are = are;
  revealed = λ bytes reveals. tables_stay h.layout h.swaps.makes.went.sectors (λ m named stands map. swaps_stands h.swaps m stands) are bytes reveals (map_over x reveals.triples h.brings);
}

-- the home that a run gives to a page of the space tables
pub found_home : (x : Layout) (a : DiskState) (s : Slots) (kept : List Run) (r : Run) (page : ℕ) → IsLayout x → IsGiven x a s kept r → IsRun x.sectors r → holds r 3 page ≡ true
    → IsFoundHome x a s kept (record { sector = sector_at r page; id = 3; page = page })
found_home x a s kept r page is given form held =
    let has = has_page r 3 page held in
    let from = form.from_data in
    let inside = form.inside in
    let first = data_first x is in
    record {
      table = record { of_tables = refl; on_data = record { id = inl refl; from = omega (arith, from, first); below = omega (arith, inside, has.from, has.below) } };
      by_run = record { run = r; given = given; form = form; has = held; at = refl };
    }

-- its label names the page, where the tables are revealed
pub found_named : (x : Layout) (a : DiskState) (s : Slots) (k : CachedRuns) (b : List ℕ) (page sector : ℕ) → page < 96 → (reveals : TablesReveal a s x k b) → reveals.triples 3 page sector ≡ true
    → (m : List Sector) → Stands a s m → IsNamed m (record { sector = sector; id = 3; page = page })
found_named x a s k b page sector below reveals found m stands =
    let p : IsTablePage x reveals.triples reveals.memory page (part b (512 * page) 512) = reveals.page page below in
    let same : sector ≡ p.sector = one_sector x reveals.triples reveals.memory reveals.map 3 page sector p.sector found p.found in
    record { sector = (p.label, part b (512 * page) 512); here = ap (slice_get m) same ∙ stands_once a s m reveals.memory stands reveals.stands p.sector ∙ p.keeps; named = p.named_so }

-- ---- Halts.

found_wider : (x : Layout) (a b : DiskState) (s : Slots) (kept : List Run) (e : Halt) → MapHalts x a s b e → FoundHalts x a s kept b e
found_wider x a b s kept Disk h = h
found_wider x a b s kept (Damaged (Mismatch sector wanted found)) h = record { there = h.there; other = h.other; reason = inl h.reason }
found_wider x a b s kept (Damaged (Malformed structure page)) h = h
found_wider x a b s kept (Damaged (Missing id page)) h = absurd h

-- a halt of the search
pub accounted_found : (x : Layout) (a b : DiskState) (s : Slots) (k : CachedRuns) (e : Halt) → MapHalts x a s b e
    → ((m : List Sector) (named : Triples) → Stands a s m → MapIs x named m → AreNamed m (IsMapHome FileMap x) → e ≡ Disk) → IsTableAccounted a s x k b e
accounted_found x a b s k e cause sound = record {
  cause = found_wider x a b s (runs_of x.sectors k) e cause;
  sound = λ m bytes stands named reveals. sound m reveals.triples stands (rw (same_memory a s m reveals.memory stands reveals.stands) reveals.map) named;
}

-- it names no page that is missing
pub none_missing : (x : Layout) (a b : DiskState) (s : Slots) (page : ℕ) (e : Halt) → MapHalts x a s b e → IfMissing page e
none_missing x a b s page Disk h = tt
none_missing x a b s page (Damaged (Mismatch sector wanted found)) h = tt
none_missing x a b s page (Damaged (Malformed structure broken)) h = tt
none_missing x a b s page (Damaged (Missing id missing)) h = absurd h

-- the map has no sector for the page
pub accounted_missing : (x : Layout) (a b : DiskState) (s : Slots) (k : CachedRuns) (page : ℕ) → page < 96
    → ((m : List Sector) (named : Triples) → Stands a s m → MapIs x named m → IsNowhere named 3 page) → IsTableAccounted a s x k b (Damaged (Missing 3 page))
accounted_missing x a b s k page below nowhere = record {
  cause = (refl, below, nowhere);
  sound = λ m bytes stands named reveals.
      let p : IsTablePage x reveals.triples reveals.memory page (part bytes (512 * page) 512) = reveals.page page below in
      absurd (true≢false (sym p.found ∙ nowhere reveals.memory reveals.triples reveals.stands reveals.map p.sector));
}
