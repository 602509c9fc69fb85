-- Where a page of a file stands, by runs.
use Rattle.std.proofs.Common.{◌≡◌, ◌⊎◌, inl, inr, ℕ, zero, suc, ◌+◌, ◌-◌, ◌^◌, ◌<◌, ◌≤◌, List, [], ◌∷◌, ◌++◌, Option, Some, None, refl, sym, ◌∙◌, ap, arith}
use Rattle.std.specs.Prelude.{slice_get, SomeIff}
use Rattle.std.proofs.lemmas.Option.{same_Some, none-some}
use Rattle.label_survey.specs.declared.runs.Run.{Run}
use Rattle.label_survey.specs.declared.triples.Triple.{Triple}
use Rattle.label_survey.specs.Runs.{triples_in_row, triples_of, all_triples}
use Rattle.volume_view.specs.Names.{IsListed}
use Rattle.volume_view.specs.Placed.{IsPlaced, IsPlace}

abbrev triple : ℕ → ℕ → ℕ → Triple
triple id page sector = record { id = id; page = page; sector = sector }

-- ---- in a row

row_there : (id page sector n k : ℕ) → k < n → slice_get (triples_in_row id page sector n) k ≡ Some (triple id (page + k) (sector + k))
row_there id page sector zero k low = absurd (omega (arith, low))
row_there id page sector (suc n) zero low =
    let p : page ≡ page + 0 = omega arith in
    let s : sector ≡ sector + 0 = omega arith in
    λ x. Some (triple id (p x) (s x))
row_there id page sector (suc n) (suc k) low =
    let p : page + 1 + k ≡ page + suc k = omega arith in
    let s : sector + 1 + k ≡ sector + suc k = omega arith in
    row_there id (page + 1) (sector + 1) n k (omega (arith, low)) ∙ (λ x. Some (triple id (p x) (s x)))

row_within : (id page sector n k : ℕ) (t : Triple) → slice_get (triples_in_row id page sector n) k ≡ Some t → k < n
row_within id page sector zero k t here = absurd (none-some t here)
row_within id page sector (suc n) zero t here = omega arith
row_within id page sector (suc n) (suc k) t here = let more = row_within id (page + 1) (sector + 1) n k t here in omega (arith, more)

-- what a run says of a page that it lists
record InRun (r : Run) (id page sector : ℕ) : Type 0 where
  pub same_id : id ≡ r.id
  pub from : r.first ≤ page
  pub below : page < r.first + r.pages
  pub place : sector ≡ r.sector + (page - r.first)

in_run : (r : Run) (id page sector : ℕ) → IsPlaced (triples_of r) id page sector → InRun r id page sector
in_run r id page sector listed =
    let k = listed.0 in
    let low = row_within r.id r.first r.sector r.pages k (triple id page sector) listed.1 in
    let same = same_Some (triple id page sector) (triple r.id (r.first + k) (r.sector + k)) (sym listed.1 ∙ row_there r.id r.first r.sector r.pages k low) in
    let same_page : page ≡ r.first + k = ap (λ (t : Triple). t.page) same in
    let same_sector : sector ≡ r.sector + k = ap (λ (t : Triple). t.sector) same in
    record {
      same_id = ap (λ (t : Triple). t.id) same;
      from = omega (arith, same_page);
      below = omega (arith, same_page, low);
      place = omega (arith, same_page, same_sector);
    }

-- ---- the answer for one run

pub other_file : (r : Run) (id page : ℕ) → (r.id ≡ id → ⊥) → IsPlace (triples_of r) id page None
other_file r id page apart = λ sector fits listed. apart (sym (in_run r id page sector listed).same_id)

pub page_before : (r : Run) (id page : ℕ) → page < r.first → IsPlace (triples_of r) id page None
page_before r id page before = λ sector fits listed. omega (arith, before, (in_run r id page sector listed).from)

pub page_after : (r : Run) (id page : ℕ) → r.first + r.pages ≤ page → IsPlace (triples_of r) id page None
page_after r id page after = λ sector fits listed. omega (arith, after, (in_run r id page sector listed).below)

-- the sum of the run's sector and the distance to the page, where it is a number
pub place_in : (r : Run) (id page : ℕ) (sum : Option ℕ) → r.id ≡ id → r.first ≤ page → page - r.first < r.pages → SomeIff sum (r.sector + (page - r.first) < 2 ^ 32) (r.sector + (page - r.first)) → IsPlace (triples_of r) id page sum
place_in r id page None same_id from below past = λ sector fits listed. past (omega (arith, fits, (in_run r id page sector listed).place))
place_in r id page (Some sector) same_id from below place =
    let k : ℕ = page - r.first in
    let same_page : r.first + k ≡ page = omega (arith, from) in
    let same_sector : r.sector + k ≡ sector = sym place.1 in
    (k, row_there r.id r.first r.sector r.pages k below ∙ (λ x. Some (triple (same_id x) (same_page x) (same_sector x))))

-- ---- the answer for all runs

listed_left : (xs ys : List Triple) (k : ℕ) (t : Triple) → slice_get xs k ≡ Some t → IsListed (xs ++ ys) t
listed_left [] ys k t here = absurd (none-some t here)
listed_left (x ∷ xs) ys zero t here = (0, here)
listed_left (x ∷ xs) ys (suc k) t here = let more = listed_left xs ys k t here in (suc more.0, more.1)

listed_right : (xs ys : List Triple) (t : Triple) → IsListed ys t → IsListed (xs ++ ys) t
listed_right [] ys t listed = listed
listed_right (x ∷ xs) ys t listed = let more = listed_right xs ys t listed in (suc more.0, more.1)

listed_either : (xs ys : List Triple) (k : ℕ) (t : Triple) → slice_get (xs ++ ys) k ≡ Some t → IsListed xs t ⊎ IsListed ys t
listed_either [] ys k t here = inr (k, here)
listed_either (x ∷ xs) ys zero t here = inl (0, here)
listed_either (x ∷ xs) ys (suc k) t here = elim (listed_either xs ys k t here) [
  | inl left ↦ inl (suc left.0, left.1)
  | inr right ↦ inr right
]

pub placed_in_all : (runs : List Run) (k : ℕ) (r : Run) (id page sector : ℕ) → slice_get runs k ≡ Some r → IsPlace (triples_of r) id page (Some sector) → IsPlace (all_triples runs) id page (Some sector)
placed_in_all [] k r id page sector at placed = absurd (none-some r at)
placed_in_all (q ∷ runs) zero r id page sector at placed =
    let same : r ≡ q = sym (same_Some q r at) in
    listed_left (triples_of q) (all_triples runs) placed.0 (triple id page sector) (ap (λ (p : Run). slice_get (triples_of p) placed.0) (sym same) ∙ placed.1)
placed_in_all (q ∷ runs) (suc k) r id page sector at placed =
    listed_right (triples_of q) (all_triples runs) (triple id page sector) (placed_in_all runs k r id page sector at placed)

pub placed_in_none : (runs : List Run) (id page : ℕ) → ((k : ℕ) (r : Run) → slice_get runs k ≡ Some r → IsPlace (triples_of r) id page None) → IsPlace (all_triples runs) id page None
placed_in_none [] id page never = λ sector fits listed. none-some (triple id page sector) listed.1
placed_in_none (q ∷ runs) id page never = λ sector fits listed. elim (listed_either (triples_of q) (all_triples runs) listed.0 (triple id page sector) listed.1) [
  | inl here ↦ never 0 q refl sector fits here
  | inr later ↦ placed_in_none runs id page (λ k r at. never (suc k) r at) sector fits later
]
