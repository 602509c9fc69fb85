-- Replies to lines, one after the other, of any machine. A line is an item, or none where it is bad.
use Rattle.std.specs.Prelude.{◌≡◌, ℕ, List, [], ◌∷◌, take, fold, length, flat_map}

-- `next` is the machine after a line, `Allows` which replies it allows, and `text` the bytes of a reply
module _ {M L R : Type 0} (next : M → L → M) (Allows : M → L → R → Type 0) (text : R → List ℕ) where
  -- the machine after the first k lines
  abbrev pub after_by : M → List L → ℕ → M
  after_by m lines k = fold next m (take k lines)

  -- the replies are allowed one by one
  abbrev pub AllowsAllBy : M → List L → List R → Type 0
  AllowsAllBy m lines [] = Unit {0}
  AllowsAllBy m [] (r ∷ rs) = ⊥
  AllowsAllBy m (line ∷ lines) (r ∷ rs) = Allows m line r × AllowsAllBy (next m line) lines rs

  -- the bytes are the text of replies to the first k lines, each allowed where it stands
  pub record TranscriptBy (m : M) (lines : List L) (k : ℕ) (bytes : List ℕ) : Type 0 where
    pub replies : List R
    pub one_a_line : length replies ≡ k
    pub allowed : AllowsAllBy m lines replies
    pub text_is : bytes ≡ flat_map text replies
