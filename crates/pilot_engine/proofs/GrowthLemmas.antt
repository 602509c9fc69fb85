-- The first of the writes of a growth.
use Rattle.std.proofs.Common.{◌≡◌, ◌≢◌, ℕ, zero, suc, ◌+◌, List, [], ◌∷◌, take, refl, ap}
use Rattle.std.specs.List.{AllByRecursion}
use Rattle.labelled_disk.specs.declared.disk.DiskWrite.{DiskWrite}
use Rattle.labelled_disk.specs.declared.disk.DiskWrite.TheVariants.{Whole}
use Rattle.labelled_disk.specs.Runs.{growth, zero_bytes, AreUnused}
use Rattle.labelled_disk.specs.Label.{page_label}
use Rattle.labelled_disk.specs.Sectors.{Sector}

-- they are a growth into the first of the sectors
pub take_growth : (n id kind page : ℕ) (is : List ℕ) → take n (growth id kind page is) ≡ growth id kind page (take n is)
take_growth zero id kind page is = refl
take_growth (suc n) id kind page [] = refl
take_growth (suc n) id kind page (i ∷ is) = ap (λ (ws : List DiskWrite). Whole i (page_label id kind page) zero_bytes ∷ ws) (take_growth n id kind (page + 1) is)

take_others : (i n : ℕ) (is : List ℕ) → AllByRecursion (λ j. j ≢ i) is → AllByRecursion (λ j. j ≢ i) (take n is)
take_others i zero is apart = tt
take_others i (suc n) [] apart = tt
take_others i (suc n) (j ∷ is) apart = (apart.0, take_others i n is apart.1)

-- which are no file's, if all are none's
pub take_unused : (n : ℕ) (d : List Sector) (is : List ℕ) → AreUnused d is → AreUnused d (take n is)
take_unused zero d is unused = tt
take_unused (suc n) d [] unused = tt
take_unused (suc n) d (i ∷ is) unused = (unused.0, take_others i n is unused.1, take_unused n d is unused.2)
