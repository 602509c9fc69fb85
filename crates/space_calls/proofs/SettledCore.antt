-- A disk that is settled reveals the same, and a core over it knows the same.
use Rattle.std.proofs.Common.{inl, ℕ, List, [], ◌∙◌, refl}
use Rattle.labelled_disk.specs.Calls.{RevealsSame}
use Rattle.labelled_disk.specs.Sectors.{Sector}
use Rattle.labelled_disk.specs.State.{DiskState}
use Rattle.file_map.specs.FileMap.{Triples}
use Rattle.flat_machine.specs.declared.space.Space.{Space}
use Rattle.swap_units.specs.declared.interval.Interval.{Interval}
use Rattle.swapper_kernel.specs.DiffersLaws.{differs_itself}
use Rattle.swapper_kernel.specs.Goes.{Makes, Pages, Went}
use Rattle.swapper_kernel.specs.GoesLaws.{wrote_none}
use Rattle.swapper_kernel.specs.HaltLaws.{brings_itself}
use Rattle.swapper_kernel.specs.Stands.{Stands}
use Rattle.filer_kernel.specs.Tables.{in_tables, table_pages}
use Rattle.fault_core.specs.Reach.{IsReached, Reaches}
use Rattle.fault_core.specs.Revealed.{Revealed}
use Rattle.filer_kernel.specs.View.{View, TablesAre}

module _ (v : View) (disk : DiskState) (went : Went v.disk disk) (same : RevealsSame v.disk disk) where
  now_view : View
  now_view = record v { disk = disk }

  stands_settled : (x : List Sector) → Stands v.disk v.slots x → Stands disk v.slots x
  stands_settled x s = record { sectors = s.sectors; revealed = same.contents ∙ s.revealed; merged = s.merged }

  settled_makes : (pages : Pages) → Makes pages [] v.disk v.slots disk v.slots
  settled_makes pages = record { went = went; dirty = λ id page is. inl is; wrote = wrote_none pages v.slots same; count = refl }

  tables_settled : (b : List ℕ) → TablesAre v b → TablesAre (record v { disk = disk }) b
  tables_settled b t = record {
    memory = t.memory;
    stands = stands_settled t.memory t.stands;
    triples = t.triples;
    map = t.map;
    kept = t.kept;
    size = went.sectors ∙ t.size;
    count = t.count;
    page = t.page;
    held = t.held;
  }

  pub settled_reaches : Reaches v (record v { disk = disk })
  settled_reaches = record {
    goes = record { makes = settled_makes table_pages; memory = λ x s. (x, stands_settled x s, differs_itself (in_tables v.layout) x) };
    brings = brings_itself (IsReached v) v.slots;
    layout = refl;
    given = λ r one. inl one;
    runs_are = λ x named s map are. are;
    revealed = tables_settled;
  }

  pub settled_revealed : (kept : List Interval) (count : ℕ) (x : List Sector) (named : Triples) (ss : List Space) → Revealed v kept count x named ss → Revealed (record v { disk = disk }) kept count x named ss
  settled_revealed kept count x named ss t = record {
    bytes = t.bytes;
    known = record {
      stands = stands_settled x t.known.stands;
      size = went.sectors ∙ t.known.size;
      long = t.known.long;
      sectors = t.known.sectors;
      map = t.known.map;
      map_labels = t.known.map_labels;
      runs = t.known.runs;
      tabled = t.known.tabled;
      count = t.known.count;
      page = t.known.page;
      held = t.known.held;
    };
    tables = t.tables;
    cached = t.cached;
    stored = t.stored;
  }
