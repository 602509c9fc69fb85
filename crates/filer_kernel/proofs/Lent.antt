-- What holds of a swapper that was lent holds of the one that came back.
use Rattle.std.specs.Prelude.{◌≡◌}

-- revealed by its disk and its frames, as the goal names them
pub lent : {X Y : Type 0} (P : X → Y → Type 0) (a b : X) (s t : Y) → a ≡ b → s ≡ t → P b t → P a s
lent P a b s t x y h = rw (x, y) h
