-- What is to be written, as it is kept in memory.
use Rattle.std.specs.Prelude.{◌≡◌, ℕ, ◌-◌, ◌*◌, length}
use Rattle.flat_mem.specs.Vec.{vec_mem_bytes}
use Rattle.labelled_disk.specs.Layout.{vam, vfm, first_data}
use Rattle.volume_root.specs.declared.root.Root.{Root}
use Rattle.label_survey.specs.Survey.{is_freed, places_by}
use Rattle.scavenger.specs.declared.plan.Plan.{Plan}
use Rattle.scavenger.specs.Orders.{Orders}

module _ {A : Type 0} where
  -- the orders of a plan, the first data sector being sector `first`
  abbrev pub orders : Root → ℕ → Plan A → Orders
  orders root first plan = record {
    root = root;
    freed = places_by is_freed first plan.sector_states.items;
    bits = vec_mem_bytes plan.bits;
    names = vec_mem_bytes plan.names;
    counter = plan.counter;
  }

  -- its parts are those of a volume of n sectors
  pub record IsSized (n : ℕ) (plan : Plan A) : Type 0 where
    pub sector_states : length plan.sector_states.items ≡ n - first_data n
    pub bits : length (vec_mem_bytes plan.bits) ≡ 512 * vam n
    pub names : length (vec_mem_bytes plan.names) ≡ 512 * vfm n
