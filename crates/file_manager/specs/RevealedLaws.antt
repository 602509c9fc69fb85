-- The bytes of the space tables that an initial state reveals are those that are revealed of them, and the other way.
use Rattle.std.proofs.Common.{◌≡◌, ℕ, ◌*◌, ◌<◌, List, length, Option, Some, None, sym, ◌∙◌, subst, arith}
use Rattle.std.specs.Prelude.{slice_get, IfSome}
use Rattle.labelled_disk.specs.declared.layout.Layout.{Layout}
use Rattle.labelled_disk.specs.State.{DiskState}
use Rattle.flat_mem.specs.Memory.{part}
use Rattle.frame_pool.specs.Frames.{Slots}
use Rattle.file_map.specs.declared.run.Run.{Run}
use Rattle.file_map.specs.FileMap.{Triples}
use Rattle.swapper_kernel.specs.Homes.{IsLayout}
use Rattle.swapper_kernel.specs.OnceLaws.{stands_once}
use Rattle.filer_kernel.specs.declared.cached.CachedRuns.{CachedRuns}
use Rattle.filer_kernel.specs.Cached.{runs_of}
use Rattle.filer_kernel.specs.NamedLaws.{maps_named_once}
use Rattle.filer_kernel.specs.Tables.{IsTablePage, TablesReveal}
use Rattle.file_manager.specs.Reasons.{InitialState, AreTabled, KeepsTo, telling}
use Rattle.file_manager.specs.RetoldLaws.{retold}

module _ {o : InitialState} {layout : Layout} {k : List Run} {a : DiskState} {s : Slots} {named : Triples} (is : IsLayout layout) where
  -- whatever is revealed, what keeps to the initial state with these bytes of the tables keeps to it without them
  pub keeps_untold : (b : List ℕ) → KeepsTo (telling o b) layout k a s named → (o.tables ≡ None) → KeepsTo o layout k a s named
  keeps_untold b h none = retold o.tables h (subst (λ (t : Option (List ℕ)). IfSome t (AreTabled layout named h.memory)) (sym none) tt)

  -- what keeps to an initial state keeps to it with the bytes of the tables, where they are revealed
  pub keeps_telling : (runs : CachedRuns) (b : List ℕ) → TablesReveal a s layout runs b → KeepsTo o layout k a s named → KeepsTo (telling o b) layout k a s named
  keeps_telling runs b t h =
      retold (Some b) h (record {
        count = 96;
        most = omega arith;
        long = t.count;
        page = λ j below. page_there j below;
      })
    where
      one : (j : ℕ) → slice_get h.memory j ≡ slice_get t.memory j
      one j = stands_once a s h.memory t.memory h.stands t.stands j

      page_there : (j : ℕ) → j < 96 → IsTablePage layout named h.memory j (part b (512 * j) 512)
      page_there j below =
          let p : IsTablePage layout t.triples t.memory j (part b (512 * j) 512) = t.page j below in
          record {
            sector = p.sector;
            label = p.label;
            found = maps_named_once layout t.memory h.memory t.triples named is h.size t.stands h.stands t.map h.map 3 j p.sector ∙ p.found;
            keeps = one p.sector ∙ p.keeps;
            named_so = p.named_so;
          }

-- where those of all pages are revealed, they are the tables'
pub tables_of : (o : InitialState) {layout : Layout} {runs : CachedRuns} {a : DiskState} {s : Slots} {named : Triples} (b : List ℕ) → length b ≡ 512 * 96 → KeepsTo (telling o b) layout (runs_of layout.sectors runs) a s named → TablesReveal a s layout runs b
tables_of o {named = named} b long h =
    let t = h.tabled in
    let of = t.long in
    let count : t.count ≡ 96 = omega (arith, of, long) in
    record {
      memory = h.memory;
      stands = h.stands;
      triples = named;
      map = h.map;
      kept = h.kept;
      size = h.size;
      count = long;
      page = λ j below. t.page j (omega (arith, count, below));
      held = h.over;
    }
