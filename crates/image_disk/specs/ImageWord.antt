-- What an image word asks for.
use Rattle.std.specs.Prelude.{◌≡◌, ℕ, ◌^◌, ◌<◌, List, ◌∷◌, ◌++◌}
use Rattle.std.specs.Str.Parse.{IsNumeral, digits_value}
use Rattle.image_disk.specs.declared.word.Image.{Image}
use Rattle.image_disk.specs.declared.word.Image.TheVariants.{Memory, New, File}

-- the text is decimal digits alone, and they are a number below 2 ^ 32
pub record IsCount (text : List ℕ) (n : ℕ) : Type 0 where
  pub digits : IsNumeral 10 text
  pub value : digits_value 10 text ≡ n
  pub fits : n < 2 ^ 32

-- a colon and a number
pub record IsMemory (word : List ℕ) (sectors : ℕ) : Type 0 where
  pub count : List ℕ
  pub whole : word ≡ 58 ∷ count
  pub counts : IsCount count sectors

-- a number, a colon and a path
pub record IsNew (word : List ℕ) (sectors : ℕ) (path : List ℕ) : Type 0 where
  pub count : List ℕ
  pub whole : word ≡ count ++ 58 ∷ path
  pub counts : IsCount count sectors

-- neither of the two
pub record IsPath (word : List ℕ) : Type 0 where
  pub no_memory : (sectors : ℕ) → ¬ IsMemory word sectors
  pub not_new : (sectors : ℕ) (path : List ℕ) → ¬ IsNew word sectors path

-- what the word asks for
abbrev pub Asks : List ℕ → Image → Type 0
Asks word (Memory sectors) = IsMemory word sectors
Asks word (New sectors path) = IsNew word sectors path.now
Asks word (File path) = (path.now ≡ word) × IsPath word
