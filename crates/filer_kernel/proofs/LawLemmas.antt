-- Runs that stay right, the other map, and the bytes of the maps' sectors.
use Rattle.std.proofs.Common.{◌≡◌, ◌↔◌, ℕ, zero, suc, ◌+◌, ◌*◌, ◌<◌, Bool, true, false, not, ◌==◌, ◌&&◌, List, [], ◌∷◌, length, filter, Some, None, refl, sym, ◌∙◌, ap, subst, arith}
use Rattle.std.specs.Prelude.{cond, slice_get, nat_le}
use Rattle.std.proofs.lemmas.Bool.{or_left, and_from, true≢false}
use Rattle.std.proofs.lemmas.Bool.Decides.{nat_tests}
use Rattle.std.proofs.lemmas.Option.{same_Some, none-some}
use Rattle.labelled_disk.specs.declared.label.Label.{Label}
use Rattle.labelled_disk.specs.declared.layout.Layout.{Layout}
use Rattle.labelled_disk.specs.Layout.{vfm}
use Rattle.labelled_disk.specs.Sectors.{Sector, AreSectors}
use Rattle.labelled_disk.specs.State.{DiskState}
use Rattle.flat_mem.specs.Memory.{part}
use Rattle.alloc_map.specs.Bits.{is_used}
use Rattle.page_tree.specs.Reveals.{RevealsTree}
use Rattle.file_map.specs.declared.run.Run.{Run}
use Rattle.file_map.specs.Run.{sector_at}
use Rattle.file_map.specs.FileMap.{Triples, AreNamed, with_run, without_from, run_names}
use Rattle.file_map.specs.InSectors.{MapNames, map_bytes as file_map_bytes}
use Rattle.swapper_kernel.specs.declared.manager.Manager.{Manager}
use Rattle.swapper_kernel.specs.declared.manager.Manager.TheVariants.{AllocationMap, FileMap}
use Rattle.swapper_kernel.specs.Homes.{IsLayout}
use Rattle.swapper_kernel.specs.Maps.{pages_of, start_of}
use Rattle.swapper_kernel.specs.Stands.{Stands}
use Rattle.swapper_kernel.specs.Differs.{Differs}
use Rattle.swapper_kernel.specs.OnceLaws.{reveals_once}
use Rattle.swapper_kernel.specs.ThereLaws.{shows_there}
use Rattle.swapper_kernel.specs.Window.{IsPage, Shows, in_map, map_bytes}
use Rattle.filer_kernel.specs.Marks.{Marks, BitsAre}
use Rattle.filer_kernel.specs.Triples.{MapIs, AreOf, IsOneOf}

pub are_of_more : (named : Triples) (runs : List Run) (run : Run) → AreOf named runs → AreOf (with_run named run) runs
are_of_more named runs run are k r at page has = or_left (named r.id page (sector_at r page)) (run_names run r.id page (sector_at r page)) (are k r at page has)

-- what passes is in the list
left_by : (test : Run → Bool) (x : Run) (xs : List Run) (b : Bool) → test x ≡ b → ((k : ℕ) (r : Run) → slice_get (filter test xs) k ≡ Some r → IsOneOf r xs × (test r ≡ true))
    → (k : ℕ) (r : Run) → slice_get (cond b (x ∷ filter test xs) (filter test xs)) k ≡ Some r → IsOneOf r (x ∷ xs) × (test r ≡ true)
left_by test x xs true is rest zero r at = ((zero, at), subst (λ (y : Run). test y ≡ true) (same_Some x r at) is)
left_by test x xs true is rest (suc k) r at = let later = rest k r at in ((suc later.0.0, later.0.1), later.1)
left_by test x xs false is rest k r at = let later = rest k r at in ((suc later.0.0, later.0.1), later.1)

in_filter : (test : Run → Bool) (xs : List Run) (k : ℕ) (r : Run) → slice_get (filter test xs) k ≡ Some r → IsOneOf r xs × (test r ≡ true)
in_filter test [] k r at = absurd (none-some r at)
in_filter test (x ∷ xs) k r at = left_by test x xs (test x) refl (in_filter test xs) k r at

-- what fails the test of the one passes that of the rest
not_cut : (b c d : Bool) → d ≡ true → not b ≡ true → (d && not (b && c)) ≡ true
not_cut true c d named other = absurd (true≢false (sym other))
not_cut false c d named other = and_from d true named refl

pub are_of_fewer : (named : Triples) (runs : List Run) (id from : ℕ) → AreOf named runs → AreOf (without_from named id from) (filter (λ r. not (r.id == id)) runs)
are_of_fewer named runs id from are k r at page has =
    let kept = in_filter (λ r. not (r.id == id)) runs k r at in
    not_cut (r.id == id) (nat_le from page) (named r.id page (sector_at r page)) (are kept.0.0 r kept.0.1 page has) kept.1

-- a page of the one map is none of the other's
not_of_files : (layout : Layout) (k : ℕ) (l : Label) → k < layout.vam → in_map FileMap layout (1 + k) l ≡ false
not_of_files layout k l below = grind (arith, nat_tests)

not_of_marks : (layout : Layout) (k : ℕ) (l : Label) → k < layout.vfm → in_map AllocationMap layout (1 + layout.vam + k) l ≡ false
not_of_marks layout k l below = grind (arith, nat_tests)

shows_apart : (which also : Manager) (layout : Layout) (m n : List Sector) (b : List ℕ) → ((k : ℕ) (l : Label) → k < pages_of also layout → in_map which layout (start_of also layout + k) l ≡ false)
    → Differs (in_map which layout) m n → Shows also m layout b → Shows also n layout b
shows_apart which also layout m n b apart differs shows = record {
  count = shows.count;
  page = λ k below.
      let was : IsPage m (start_of also layout + k) (part b (512 * k) 512) = shows.page k below in
      record { label = was.label; keeps = differs.pages (start_of also layout + k) (was.label, part b (512 * k) 512) was.keeps (apart k was.label below) };
}

pub marks_stay : (layout : Layout) (marks : Marks) (m n : List Sector) → Differs (in_map FileMap layout) m n → BitsAre layout marks m → BitsAre layout marks n
marks_stay layout marks m n differs bits = record { bytes = bits.bytes; shows = shows_apart FileMap AllocationMap layout m n bits.bytes (not_of_files layout) differs bits.shows; are = bits.are }

pub named_stays : (layout : Layout) (named : Triples) (m n : List Sector) → Differs (in_map AllocationMap layout) m n → MapIs layout named m → MapIs layout named n
named_stays layout named m n differs map = record { bytes = map.bytes; shows = shows_apart AllocationMap FileMap layout m n map.bytes (not_of_marks layout) differs map.shows; names = map.names }

-- a disk without frames that reveals this memory
abbrev reveals_alone : Layout → List Sector → DiskState
reveals_alone layout m = record { sectors = layout.sectors; contents = Some m; writes = None; syncs = None; transfers = 0; faults = 0; synced = true; lent = [] }

alone : (layout : Layout) (m : List Sector) → Stands (reveals_alone layout m) [] m
alone layout m = record { sectors = m; revealed = refl; merged = record { labels = refl; frames = λ i f has. absurd (none-some (Some f) has.is); clean = λ k clean. refl } }

shows_once : (which : Manager) (layout : Layout) (m : List Sector) (b c : List ℕ) → Shows which m layout b → Shows which m layout c → b ≡ c
shows_once which layout m b c first second =
    reveals_once which (reveals_alone layout m) [] layout b c (record { memory = m; stands = alone layout m; shows = first; size = refl }) (record { memory = m; stands = alone layout m; shows = second; size = refl })

pub marks_in_sectors : (layout : Layout) (marks : Marks) (m : List Sector) → IsLayout layout → length m ≡ layout.sectors → AreSectors m
    → BitsAre layout marks m ↔ ((sector : ℕ) → marks sector ≡ is_used (map_bytes AllocationMap layout m) sector)
marks_in_sectors layout marks m is size sectors =
    let there = shows_there AllocationMap layout m is size sectors in (
      λ bits sector. bits.are sector ∙ ap (λ (b : List ℕ). is_used b sector) (shows_once AllocationMap layout m bits.bytes (map_bytes AllocationMap layout m) bits.shows there),
      λ are. record { bytes = map_bytes AllocationMap layout m; shows = there; are = are },
    )

names_as : {n k p q : ℕ} {b c : List ℕ} {named : Triples} → n ≡ k → p ≡ q → b ≡ c → AreNamed n (RevealsTree 24 12 p (λ x. x ≡ b)) named → AreNamed k (RevealsTree 24 12 q (λ x. x ≡ c)) named
names_as same pages is h = rw (← same, ← pages, ← is) h

same_bytes : (layout : Layout) (m : List Sector) → IsLayout layout → length m ≡ layout.sectors → map_bytes FileMap layout m ≡ file_map_bytes m
same_bytes layout m is size = rw (size, is.1) refl

pub named_in_sectors : (layout : Layout) (named : Triples) (m : List Sector) → IsLayout layout → length m ≡ layout.sectors → AreSectors m → MapIs layout named m ↔ MapNames m named
named_in_sectors layout named m is size sectors =
    let there = shows_there FileMap layout m is size sectors in
    let bytes = same_bytes layout m is size in
    let pages : layout.vfm ≡ vfm (length m) = ap (λ (l : Layout). l.vfm) is.1 ∙ ap vfm (sym size) in (
      λ map. names_as (sym size) pages (shows_once FileMap layout m map.bytes (map_bytes FileMap layout m) map.shows there ∙ bytes) map.names,
      λ names. record { bytes = map_bytes FileMap layout m; shows = there; names = names_as size (sym pages) (sym bytes) names },
    )
