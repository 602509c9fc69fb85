-- What the bytes of a tree show of its entries.
use Rattle.std.specs.Prelude.{◌≡◌, ℕ, List}
use Rattle.std.proofs.Common.{◌∙◌, ap, sym}
use Rattle.page_tree.specs.Page.{page_at, count_in}
use Rattle.page_tree.specs.Reveals.{StandsIn}
use Rattle.page_tree.specs.Broken.{Breaks, StopsInsertion}
use Rattle.file_map.specs.Entries.{Sight, Entry, Count, Broken, Stops}

abbrev pub IsShown : ℕ → List ℕ → Sight → Type 0
IsShown pages b (Entry page entry) = StandsIn 24 12 b entry page
IsShown pages b (Count n) = n ≡ count_in (page_at b 0)
IsShown pages b (Broken page) = Breaks 24 12 pages b page
IsShown pages b (Stops page) = StopsInsertion 24 12 pages b page

pub counted_same : (n m : ℕ) (b c : List ℕ) → b ≡ c → n ≡ count_in (page_at b 0) → m ≡ count_in (page_at c 0) → n ≡ m
counted_same n m b c same h k = h ∙ ap (λ (x : List ℕ). count_in (page_at x 0)) same ∙ sym k
