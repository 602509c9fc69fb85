-- What is to be written, as it is kept in memory.
use Rattle.std.specs.Prelude.{◌≡◌, ℕ, ◌-◌, ◌≤◌, List, ◌++◌, length}
use Rattle.flat_mem.specs.Vec.{vec_mem_bytes}
use Rattle.labelled_disk.specs.declared.disk.DiskWrite.{DiskWrite}
use Rattle.labelled_disk.specs.Layout.{first_data}
use Rattle.labelled_disk.specs.Runs.{freeing}
use Rattle.labelled_disk.specs.Sectors.{Sector}
use Rattle.volume_root.specs.declared.root.Root.{Root}
use Rattle.label_survey.specs.Survey.{is_freed, places_by}
use Rattle.scavenger.specs.Orders.{closing_writes}
use Rattle.scavenger.specs.Plan.{orders, IsSized}
use Rattle.convert_laws.specs.Converted.{Conversion as Orders, convert_writes, today}
use Rattle.convert_laws.specs.Conversions.{IsFor}
use Rattle.convert_laws.specs.Orders.{leader_writes}
use Rattle.volume_convert.specs.declared.plan.Conversion.{Conversion}
use Rattle.volume_convert.specs.Heads.{leaders_by}
use Rattle.volume_convert.specs.Leaves.{IsRevealed}
use Rattle.volume_convert.specs.Settled.{is_spare}

module _ {A : Type 0} where
  -- free labels and leaders, the first data sector being sector `first`
  abbrev pub arranging : ℕ → Conversion A → List DiskWrite
  arranging first c = freeing (places_by is_freed first c.sector_states.items)
      ++ leader_writes (places_by is_spare first c.sector_states.items) (leaders_by c.heads.items)

  -- the orders of a conversion
  abbrev pub orders_of : Root → ℕ → Conversion A → Orders
  orders_of root first c = record {
    root = root;
    arrange = arranging first c;
    bits = vec_mem_bytes c.maps.bits;
    names = vec_mem_bytes c.maps.names;
    counter = c.maps.counter;
  }

  -- all that is written: free labels and leaders, and what is written where these stand on a volume of today that is
  -- open
  abbrev pub all_writes : Root → ℕ → Conversion A → List DiskWrite
  all_writes root first c = arranging first c ++ closing_writes (orders (today root) first c.maps)

  -- its parts are those of a volume of n sectors with this root
  pub record IsFit (n : ℕ) (root : Root) (c : Conversion A) : Type 0 where
    pub sized : IsSized n c.maps
    pub sector_states : length c.sector_states.items ≡ n - first_data n
    pub counter : root.counter ≤ c.maps.counter

  -- it is that of this disk
  pub record IsPlannedFor (d : List Sector) (root : Root) (first : ℕ) (c : Conversion A) : Type 0 where
    pub for_it : IsFor d (orders_of root first c)
    pub writes : all_writes root first c ≡ convert_writes (orders_of root first c)
    pub revealed : IsRevealed d c.revealed
