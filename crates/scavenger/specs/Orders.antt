-- The writes by which a volume is restored, in their order.
use Rattle.std.specs.Prelude.{◌≡◌, ℕ, ◌+◌, ◌<◌, ◌^◌, true, false, List, [], ◌∷◌, ◌++◌, map}
use Rattle.std.specs.List.{range_with_len}
use Rattle.labelled_disk.specs.Label.{page_label}
use Rattle.labelled_disk.specs.declared.disk.DiskWrite.{DiskWrite}
use Rattle.labelled_disk.specs.declared.disk.DiskWrite.TheVariants.{Whole}
use Rattle.labelled_disk.specs.Layout.{vam, vfm}
use Rattle.labelled_disk.specs.Root.{root_page, serial_of, counter_of}
use Rattle.labelled_disk.specs.Runs.{freeing}
use Rattle.labelled_disk.specs.Sectors.{Sector}
use Rattle.page_tree.specs.Page.{page_at}
use Rattle.volume_root.specs.declared.root.Root.{Root}
use Rattle.volume_root.specs.RootPage.{root_in, root_write}
use Rattle.label_laws.specs.Counts.{unneeded_sectors}
use Rattle.label_survey.specs.Counter.{IsRaised}
use Rattle.scavenger.specs.Stays.{AreBits, AreNames}

-- What is written: the root that was read, the sectors that are freed, the bytes of both maps, and the counter.
pub record Orders : Type 0 where
  pub root : Root
  pub freed : List ℕ
  pub bits : List ℕ
  pub names : List ℕ
  pub counter : ℕ

-- the first k pages of a map whose page 0 stands in this sector, each with its label
abbrev pub map_writes : ℕ → ℕ → List ℕ → ℕ → List DiskWrite
map_writes id first bytes k = map (λ i. Whole (first + i) (page_label id 0 i) (page_at bytes i)) (range_with_len 0 k)

-- the root with the new counter: not clean, as it is written first, and clean, as it is written last
abbrev pub opened : Orders → Root
opened o = record o.root { clean = false; counter = o.counter }

abbrev pub closed : Orders → Root
closed o = record o.root { clean = true; counter = o.counter }

-- a free label for each freed sector; the allocation map; the file map
abbrev pub preparing_writes : Orders → List DiskWrite
preparing_writes o = freeing o.freed ++ (map_writes 1 1 o.bits (vam o.root.sectors)
    ++ map_writes 2 (1 + vam o.root.sectors) o.names (vfm o.root.sectors))

-- on a volume that is not clean: these, and the root closed
abbrev pub closing_writes : Orders → List DiskWrite
closing_writes o = preparing_writes o ++ root_write (closed o) ∷ []

-- the root opened, whether it was clean or not; then those
abbrev pub scavenge_writes : Orders → List DiskWrite
scavenge_writes o = root_write (opened o) ∷ closing_writes o

-- They are those for a disk of these sectors: its root, all its unneeded sectors, ascending, what stays in both maps, and a
-- counter above its files.
pub record AreFor (g : List Sector) (o : Orders) : Type 0 where
  pub root : o.root ≡ root_in (root_page g)
  pub freed : o.freed ≡ unneeded_sectors false g
  pub bits : AreBits g o.bits
  pub names : AreNames g o.names
  pub counter : IsRaised g (serial_of g) (counter_of g) o.counter
  pub serial_fits : o.root.serial < 2 ^ 32
  pub counter_fits : o.counter < 2 ^ 32
