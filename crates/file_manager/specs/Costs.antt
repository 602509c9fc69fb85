-- What a page costs that is made.
use Rattle.std.specs.Prelude.{ℕ, Bool, true, false}

-- How many transfers a label costs that a sector gets: it is read there, and written with a page of zeros. Where the sector is cleared
-- before, zeros are written once more.
abbrev pub label_cost : Bool → ℕ
label_cost true = 3
label_cost false = 2
