-- What holds of the lists of each pool.
use Rattle.std.specs.Prelude.{◌≤◌, ℕ, length}
use Rattle.frame_pool.specs.Frames.{HasDistinct, ArePages}
use Rattle.frame_pool.specs.Lists.{Lists, IsSized}
use Rattle.frame_pool.specs.Index.{IsIndex, bucket_at}
use Rattle.frame_pool.specs.Order.{IsOrder, HasEmpties}

-- the index finds what the slots have, the order has the empty slots first, no page is in two slots, and each frame
-- has the bytes of a page
pub record IsPool (lists : Lists) (empties : ℕ) : Type 0 where
  pub least : 24 ≤ length lists.frames
  pub most : length lists.frames ≤ 4096
  pub sized : IsSized lists
  pub index : IsIndex (bucket_at lists.frames) lists
  pub order : IsOrder lists
  pub first_empties : HasEmpties lists empties
  pub distinct : HasDistinct lists.frames
  pub pages : ArePages lists.frames
