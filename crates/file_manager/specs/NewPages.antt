-- Pages that are to be made, in a row.
use Rattle.std.specs.Prelude.{ℕ, ◌+◌, ◌≤◌, ◌^◌}
use Rattle.label_calls.specs.Runs.{AreOfFile}

-- at least one page of a file or of the space tables, from one on
pub record AreToMake (id kind page most : ℕ) : Type 0 where
  pub pages : (1 ≤ most) × (page + most ≤ 2 ^ 32)
  pub of_file : AreOfFile id kind page most
