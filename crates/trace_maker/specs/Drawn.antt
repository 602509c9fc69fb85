-- Numbers that are drawn one after another, by a seed.
use Rattle.std.specs.Prelude.{ℕ, zero, suc, ◌+◌, ◌*◌, ◌/◌, ◌%◌, ◌^◌}

-- the number after this one
unfoldable pub number_after : ℕ → ℕ
number_after x = (x * 6364136223846793005 + 1442695040888963407) % 2 ^ 64

-- number j: number 0 is the seed
abbrev pub number : ℕ → ℕ → ℕ
number seed zero = seed
number seed (suc j) = number_after (number seed j)

-- the value that a number gives: its upper 31 bits
abbrev pub value_of : ℕ → ℕ
value_of x = x / 2 ^ 33

-- value j: the first number that gives one stands after the seed
abbrev pub value : ℕ → ℕ → ℕ
value seed j = value_of (number seed (suc j))
