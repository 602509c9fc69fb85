-- What the file map of a memory says: in which sector each page of each file stands.
use Rattle.std.specs.Prelude.{◌≡◌, ℕ, true, List, Some, slice_get}
use Rattle.labelled_disk.specs.declared.layout.Layout.{Layout}
use Rattle.labelled_disk.specs.Sectors.{Sector}
use Rattle.page_tree.specs.Reveals.{RevealsTree}
use Rattle.file_map.specs.declared.run.Run.{Run}
use Rattle.file_map.specs.Run.{holds, sector_at}
use Rattle.file_map.specs.FileMap.{Triples, AreNamed}
use Rattle.swapper_kernel.specs.declared.manager.Manager.TheVariants.{FileMap}
use Rattle.swapper_kernel.specs.Window.{Shows}

-- the map's pages reveal a map in form, which names these triples
pub record MapIs (layout : Layout) (named : Triples) (memory : List Sector) : Type 0 where
  pub bytes : List ℕ
  pub shows : Shows FileMap memory layout bytes
  pub names : AreNamed layout.sectors (RevealsTree 24 12 layout.vfm (λ b. b ≡ bytes)) named

-- for each page of each of the runs, what the run says is named
abbrev pub AreOf : Triples → List Run → Type 0
AreOf named runs = (k : ℕ) (r : Run) → slice_get runs k ≡ Some r → (page : ℕ) → holds r r.id page ≡ true → named r.id page (sector_at r page) ≡ true

-- the run is one of these
abbrev pub IsOneOf : Run → List Run → Type 0
IsOneOf r runs = (k : ℕ) × (slice_get runs k ≡ Some r)
