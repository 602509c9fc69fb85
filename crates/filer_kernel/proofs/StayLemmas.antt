-- What the maps say, and what the space tables reveal, where their sectors stay.
use Rattle.std.proofs.Common.{◌≡◌, ◌↔◌, ℕ, ◌+◌, ◌*◌, ◌<◌, ◌≤◌, ◌==◌, ◌&&◌, true, List, Some, ◌∙◌, arith}
use Rattle.std.specs.Prelude.{slice_get, nat_lt}
use Rattle.std.proofs.lemmas.Bool.{eqb-true, and_parts}
use Rattle.labelled_disk.specs.declared.label.Label.{Label}
use Rattle.labelled_disk.specs.declared.layout.Layout.{Layout}
use Rattle.labelled_disk.specs.Label.{names}
use Rattle.labelled_disk.specs.Sectors.{Sector}
use Rattle.labelled_disk.specs.State.{DiskState}
use Rattle.flat_mem.specs.Memory.{part}
use Rattle.frame_pool.specs.Frames.{Slots}
use Rattle.file_map.specs.FileMap.{Triples}
use Rattle.swapper_kernel.specs.declared.manager.Manager.{Manager}
use Rattle.swapper_kernel.specs.declared.manager.Manager.TheVariants.{AllocationMap, FileMap}
use Rattle.swapper_kernel.specs.Homes.{IsLayout}
use Rattle.swapper_kernel.specs.Maps.{pages_of, start_of}
use Rattle.swapper_kernel.specs.Stands.{Stands}
use Rattle.swapper_kernel.specs.Window.{IsPage, Shows}
use Rattle.swapper_kernel.proofs.PlacedLemmas.{parts}
use Rattle.filer_kernel.specs.declared.cached.CachedRuns.{CachedRuns}
use Rattle.filer_kernel.specs.Cached.{runs_of}
use Rattle.filer_kernel.specs.Marks.{Marks, BitsAre}
use Rattle.filer_kernel.specs.PlaceLaws.{on_data}
use Rattle.filer_kernel.specs.Tables.{AreOverTables, IsTablePage, TablesReveal}
use Rattle.filer_kernel.specs.Triples.{MapIs, AreOf}

-- the sectors before the data sectors
abbrev pub Same : Layout → List Sector → List Sector → Type 0
Same layout m n = (sector : ℕ) → sector < layout.first → slice_get n sector ≡ slice_get m sector

shows_before : (which : Manager) (layout : Layout) (m n : List Sector) (b : List ℕ) → ((k : ℕ) → k < pages_of which layout → start_of which layout + k < layout.first) → Same layout m n → Shows which m layout b → Shows which n layout b
shows_before which layout m n b before same shows = record {
  count = shows.count;
  page = λ k below.
      let was : IsPage m (start_of which layout + k) (part b (512 * k) 512) = shows.page k below in
      record { label = was.label; keeps = same (start_of which layout + k) (before k below) ∙ was.keeps };
}

pub marks_before : (layout : Layout) (marks : Marks) (m n : List Sector) → IsLayout layout → Same layout m n → BitsAre layout marks m → BitsAre layout marks n
marks_before layout marks m n is same bits =
    let first = (parts layout is).0 in
    record { bytes = bits.bytes; shows = shows_before AllocationMap layout m n bits.bytes (λ k below. omega (arith, first, below)) same bits.shows; are = bits.are }

pub named_before : (layout : Layout) (named : Triples) (m n : List Sector) → IsLayout layout → Same layout m n → MapIs layout named m → MapIs layout named n
named_before layout named m n is same map =
    let first = (parts layout is).0 in
    record { bytes = map.bytes; shows = shows_before FileMap layout m n map.bytes (λ k below. omega (arith, first, below)) same map.shows; names = map.names }

-- a label that names a page of the space tables is of file 3
of_tables : (label : Label) (k : ℕ) → names label (record { id = 3; page = k }) ≡ true → label.id ≡ 3
of_tables label k named = eqb-true label.id 3
    (and_parts (label.id == 3) (label.page == k) (and_parts (label.id == 3 && label.page == k) (nat_lt label.flags 4) (and_parts (label.id == 3 && label.page == k && nat_lt label.flags 4) (label.last == 0) named).0).0).0

pub tables_revealed : (old new : DiskState) (before after : Slots) (layout : Layout) (kept runs : CachedRuns) (b : List ℕ) (n : List Sector) (named : Triples) → IsLayout layout
    → (revealed : TablesReveal old before layout kept b) → Stands new after n → new.sectors ≡ layout.sectors → MapIs layout named n → AreOf named (runs_of layout.sectors runs)
    → ((page sector : ℕ) → page < 96 → revealed.triples 3 page sector ≡ true → named 3 page sector ≡ true)
    → ((sector : ℕ) (s : Sector) → layout.first ≤ sector → s.0.id ≡ 3 → slice_get revealed.memory sector ≡ Some s ↔ slice_get n sector ≡ Some s)
    → AreOverTables after named → TablesReveal new after layout runs b
tables_revealed old new before after layout kept runs b n named is revealed stands size map are has same over = record {
  memory = n;
  stands = stands;
  triples = named;
  map = map;
  kept = are;
  size = size;
  count = revealed.count;
  page = λ k below.
      let p : IsTablePage layout revealed.triples revealed.memory k (part b (512 * k) 512) = revealed.page k below in
      let from = on_data layout revealed.triples revealed.memory revealed.map is 3 k p.sector p.found in
      record {
        sector = p.sector;
        label = p.label;
        found = has k p.sector below p.found;
        keeps = (same p.sector (p.label, part b (512 * k) 512) from (of_tables p.label k p.named_so)).0 p.keeps;
        named_so = p.named_so;
      };
  held = over;
}
