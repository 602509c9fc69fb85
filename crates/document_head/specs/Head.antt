-- The page that is the head of a document.
use Rattle.std.specs.Prelude.{ℕ, List, [], ◌∷◌, ◌++◌, ◌+◌, ◌-◌, replicate, length}
use Rattle.std.specs.Int.{div_ceil}
use Rattle.byteorder.specs.Endian.{big_bytes}

-- the letters PilotDoc
abbrev pub magic : List ℕ
magic = 80 ∷ 105 ∷ 108 ∷ 111 ∷ 116 ∷ 68 ∷ 111 ∷ 99 ∷ []

-- what stands before the name: the letters, how many bytes the document has, and how many its name has
unfoldable pub before_name : ℕ → ℕ → List ℕ
before_name bytes count = magic ++ (big_bytes 8 bytes ++ count ∷ [])

-- that, the name, and zeros
abbrev pub head_page : ℕ → List ℕ → List ℕ
head_page bytes name = (before_name bytes (length name) ++ name) ++ replicate (512 - (17 + length name)) 0

-- the pages of the file of a document of so many bytes: its head, and those that the bytes fill
abbrev pub pages_of : ℕ → ℕ
pages_of bytes = 1 + div_ceil bytes 512
