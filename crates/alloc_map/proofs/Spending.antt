-- What a walk over the pages of the map spends.
use Rattle.std.proofs.Common.{◌≡◌, ℕ, ◌+◌, ◌-◌, ◌*◌, ◌/◌, ◌<◌, ◌≤◌, arith}
use Rattle.std.proofs.lemmas.Nat.{mul-le}
use Rattle.alloc_map.specs.Pages.{first_sector_after, pages_to, pages_between}

-- so many of the pages from one sector to another were walked, and each took at most so much
pub record HasSpent (each from end at start spent : ℕ) : Type 0 where
  pub pages : ℕ
  pub few : pages ≤ pages_between from end
  pub passed : at < end → pages + from / 4096 ≤ at / 4096
  pub paid : spent ≤ start + pages * each

-- the page of a sector below the end is one of those to the end
pub page_fits : (at end : ℕ) → at < end → 512 * (at / 4096) + 512 ≤ 512 * pages_to end
page_fits at end below = omega arith

pub page_inside : (at end size now : ℕ) → at < end → size ≡ now → 512 * pages_to end ≤ size → 512 * (at / 4096) + 512 ≤ now
page_inside at end size now below same fits = omega (arith, page_fits at end below, same, fits)

pub spent_none : (each from end start : ℕ) → HasSpent each from end from start start
spent_none each from end start = record { pages = 0; few = omega arith; passed = λ below. omega arith; paid = omega arith }

pub spent_more : (each from end at stop start spent after : ℕ) → at < end → (stop < end → stop ≡ first_sector_after at) → after ≤ spent + each → HasSpent each from end at start spent → HasSpent each from end stop start after
spent_more each from end at stop start spent after below whole more had =
    let passed : had.pages + from / 4096 ≤ at / 4096 = had.passed below in
    record {
      pages = had.pages + 1;
      few = omega (arith, passed, page_fits at end below);
      passed = λ left. omega (arith, whole left, passed);
      paid = omega (arith, more, had.paid);
    }

pub spent_all : (each from end at start spent : ℕ) → HasSpent each from end at start spent → spent ≤ start + pages_between from end * each
spent_all each from end at start spent had = omega (arith, mul-le had.pages each (pages_between from end) each had.few (omega arith), had.paid)

-- ---- calls in a row

pub pages_of_part : (from end sectors : ℕ) → end ≤ sectors → pages_between from end ≤ pages_to sectors
pages_of_part from end sectors within = omega (arith, within)

-- one page, those after it, and then those before it
pub spent_round : (first low at stop sectors cost a b c d : ℕ) → low ≤ at → stop ≡ first_sector_after at → stop < sectors → b ≤ a + cost → c ≤ b + pages_between stop sectors * cost → d ≤ c + (low / 4096 - first / 4096) * cost → d ≤ a + pages_to sectors * cost
spent_round first low at stop sectors cost a b c d before after more one two three =
    let fit : 1 + pages_between stop sectors + (low / 4096 - first / 4096) ≤ pages_to sectors = omega (arith, before, after, more) in
    omega (arith, mul-le (1 + pages_between stop sectors + (low / 4096 - first / 4096)) cost (pages_to sectors) cost fit (omega arith), one, two, three)

-- two searches, and then marks
pub spent_taken : (p q r t cost a b c d : ℕ) → p ≤ t → q ≤ t → r ≤ t → b ≤ a + p * cost → c ≤ b + q * cost → d ≤ c + 2 * r * cost → d ≤ a + 4 * t * cost
spent_taken p q r t cost a b c d first second third one two three =
    omega (arith, mul-le p cost t cost first (omega arith), mul-le q cost t cost second (omega arith), mul-le r cost t cost third (omega arith), one, two, three)
