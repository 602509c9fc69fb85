-- What holds of a filer that was lent holds of the one that came back.
use Rattle.std.specs.Prelude.{◌≡◌}

-- revealed by four of its parts, as the goal names them
pub lent : {W X Y Z : Type 0} (P : W → X → Y → Z → Type 0) (v w : W) (a b : X) (s t : Y) (x y : Z) → v ≡ w → a ≡ b → s ≡ t → x ≡ y → P w b t y → P v a s x
lent P v w a b s t x y disk slots layout runs h = rw (disk, slots, layout, runs) h
