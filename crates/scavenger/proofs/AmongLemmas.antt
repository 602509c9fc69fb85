-- Triples in a list, and in a run.
use Rattle.std.proofs.Common.{◌≡◌, ◌≢◌, ◌⊎◌, inl, inr, ℕ, zero, suc, ◌+◌, ◌-◌, ◌<◌, ◌≤◌, Bool, true, false, not, ◌&&◌, ◌||◌, cond, List, [], ◌∷◌, ◌++◌, length, Option, Some, None, refl, sym, ◌∙◌, ap, subst, arith, eqb, leb, length-append}
use Rattle.std.specs.Prelude.{slice_get, nat_lt, nat_le}
use Rattle.std.specs.List.{list_any, count_by, range_with_len}
use Rattle.std.proofs.lemmas.Bool.{cases_eq, and_parts, and_from, eqb-true, eq-eqb, le-leb, leb-true, lt-ltb, ltb-true, true≢false, false≢true}
use Rattle.std.proofs.lemmas.List.Sums.{sum_by-cons, count_by-le-length}
use Rattle.std.proofs.lemmas.List.FromFn.{length-range_with_len}
use Rattle.std.proofs.lemmas.Option.{same_Some, none-some, slice_get_within}
use Rattle.file_map.specs.Run.{holds, sector_at}
use Rattle.file_map.specs.FileMap.{run_names}
use Rattle.label_survey.specs.declared.triples.Triple.{Triple}
use Rattle.label_survey.specs.declared.runs.Run.{Run as LabelRun}
use Rattle.label_survey.specs.Runs.{triples_in_row, triples_of}
use Rattle.scavenger.specs.Naming.{among, map_run}

abbrev triple : ℕ → ℕ → ℕ → Triple
triple id page sector = record { id = id; page = page; sector = sector }

-- Lists, one after the other.

pub get_left : {X : Type 0} (xs ys : List X) (k : ℕ) (x : X) → slice_get xs k ≡ Some x → slice_get (xs ++ ys) k ≡ Some x
get_left [] ys k x here = absurd (none-some x here)
get_left (z ∷ xs) ys zero x here = here
get_left (z ∷ xs) ys (suc k) x here = get_left xs ys k x here

pub get_right : {X : Type 0} (xs ys : List X) (k : ℕ) → slice_get (xs ++ ys) (length xs + k) ≡ slice_get ys k
get_right [] ys k = let e : 0 + k ≡ k = omega arith in ap (slice_get ys) e
get_right (z ∷ xs) ys k = let e : length (z ∷ xs) + k ≡ suc (length xs + k) = omega arith in ap (slice_get (z ∷ (xs ++ ys))) e ∙ get_right xs ys k

-- A test that is passed by two tests alike.

pub same_bools : (a b : Bool) → (a ≡ true → b ≡ true) → (b ≡ true → a ≡ true) → a ≡ b
same_bools true b there back = sym (there refl)
same_bools false true there back = back refl
same_bools false false there back = refl

-- In a list.

is_triple : (t : Triple) (id page sector : ℕ) → (eqb t.id id && (eqb t.page page && eqb t.sector sector)) ≡ true → t ≡ triple id page sector
is_triple t id page sector e =
    let one = and_parts (eqb t.id id) (eqb t.page page && eqb t.sector sector) e in
    let two = and_parts (eqb t.page page) (eqb t.sector sector) one.1 in
    let same_id = eqb-true t.id id one.0 in
    let same_page = eqb-true t.page page two.0 in
    let same_sector = eqb-true t.sector sector two.1 in
    λ x. triple (same_id x) (same_page x) (same_sector x)

pub among_there : (ts : List Triple) (k : ℕ) (id page sector : ℕ) → slice_get ts k ≡ Some (triple id page sector) → among ts id page sector ≡ true
among_there [] k id page sector here = absurd (none-some (triple id page sector) here)
among_there (t ∷ ts) zero id page sector here =
    let same = same_Some t (triple id page sector) here in
    ap (λ (u : Triple). (eqb u.id id && (eqb u.page page && eqb u.sector sector)) || among ts id page sector) same
    ∙ rw (eq-eqb id id refl, eq-eqb page page refl, eq-eqb sector sector refl) refl
among_there (t ∷ ts) (suc k) id page sector here = either (eqb t.id id && (eqb t.page page && eqb t.sector sector)) (among_there ts k id page sector here)
  where
    either : (b : Bool) → among ts id page sector ≡ true → (b || among ts id page sector) ≡ true
    either true e = refl
    either false e = e

pub among_is : (ts : List Triple) (id page sector : ℕ) → among ts id page sector ≡ true → (k : ℕ) × (slice_get ts k ≡ Some (triple id page sector))
among_is [] id page sector e = absurd (false≢true e)
among_is (t ∷ ts) id page sector e = either (eqb t.id id && (eqb t.page page && eqb t.sector sector)) refl e (λ f. among_is ts id page sector f)
  where
    either : (b : Bool) → (eqb t.id id && (eqb t.page page && eqb t.sector sector)) ≡ b → (b || among ts id page sector) ≡ true
        → (among ts id page sector ≡ true → (k : ℕ) × (slice_get ts k ≡ Some (triple id page sector))) → (k : ℕ) × (slice_get (t ∷ ts) k ≡ Some (triple id page sector))
    either true here f more = (0, ap (λ (u : Triple). Some u) (is_triple t id page sector here))
    either false here f more = let rest = more f in (suc rest.0, rest.1)

-- In a row.

pub row_there : (id page sector n k : ℕ) → k < n → slice_get (triples_in_row id page sector n) k ≡ Some (triple id (page + k) (sector + k))
row_there id page sector zero k low = absurd (omega (arith, low))
row_there id page sector (suc n) zero low =
    let p : page ≡ page + 0 = omega arith in
    let s : sector ≡ sector + 0 = omega arith in
    λ x. Some (triple id (p x) (s x))
row_there id page sector (suc n) (suc k) low =
    let p : page + 1 + k ≡ page + suc k = omega arith in
    let s : sector + 1 + k ≡ sector + suc k = omega arith in
    row_there id (page + 1) (sector + 1) n k (omega (arith, low)) ∙ (λ x. Some (triple id (p x) (s x)))

row_within : (id page sector n k : ℕ) (t : Triple) → slice_get (triples_in_row id page sector n) k ≡ Some t → k < n
row_within id page sector zero k t here = absurd (none-some t here)
row_within id page sector (suc n) zero t here = omega arith
row_within id page sector (suc n) (suc k) t here = let more = row_within id (page + 1) (sector + 1) n k t here in omega (arith, more)

-- a run names what its triples are
pub run_names_row : (r : LabelRun) (id page sector : ℕ) → run_names (map_run r) id page sector ≡ among (triples_of r) id page sector
run_names_row r id page sector = same_bools (run_names (map_run r) id page sector) (among (triples_of r) id page sector) there back
  where
    there : run_names (map_run r) id page sector ≡ true → among (triples_of r) id page sector ≡ true
    there e =
        let parts = and_parts (holds (map_run r) id page) (eqb sector (sector_at (map_run r) page)) e in
        let held = and_parts (eqb r.id id) (nat_le r.first page && nat_lt page (r.first + r.pages)) parts.0 in
        let range = and_parts (nat_le r.first page) (nat_lt page (r.first + r.pages)) held.1 in
        let same_id : r.id ≡ id = eqb-true r.id id held.0 in
        let from = leb-true r.first page range.0 in
        let below = ltb-true page (r.first + r.pages) range.1 in
        let k : ℕ = page - r.first in
        let same_page : r.first + k ≡ page = omega (arith, from) in
        let same_sector : r.sector + k ≡ sector = sym (eqb-true sector (sector_at (map_run r) page) parts.1) in
        among_there (triples_of r) k id page sector
        (row_there r.id r.first r.sector r.pages k (omega (arith, from, below)) ∙ (λ x. Some (triple (same_id x) (same_page x) (same_sector x))))

    back : among (triples_of r) id page sector ≡ true → run_names (map_run r) id page sector ≡ true
    back e =
        let found = among_is (triples_of r) id page sector e in
        let k = found.0 in
        let low = row_within r.id r.first r.sector r.pages k (triple id page sector) found.1 in
        let same = same_Some (triple id page sector) (triple r.id (r.first + k) (r.sector + k)) (sym found.1 ∙ row_there r.id r.first r.sector r.pages k low) in
        let same_id : id ≡ r.id = ap (λ (t : Triple). t.id) same in
        let same_page : page ≡ r.first + k = ap (λ (t : Triple). t.page) same in
        let same_sector : sector ≡ r.sector + k = ap (λ (t : Triple). t.sector) same in
        and_from (holds (map_run r) id page) (eqb sector (sector_at (map_run r) page))
        (and_from (eqb r.id id) (nat_le r.first page && nat_lt page (r.first + r.pages)) (eq-eqb r.id id (sym same_id))
        (and_from (nat_le r.first page) (nat_lt page (r.first + r.pages)) (le-leb r.first page (omega (arith, same_page))) (lt-ltb page (r.first + r.pages) (omega (arith, same_page, low)))))
        (eq-eqb sector (sector_at (map_run r) page) (omega (arith, same_page, same_sector)))

-- a count that misses one
pub count_missing : (p : ℕ → Bool) (a n j : ℕ) → a ≤ j → j < a + n → p j ≡ false → count_by p (range_with_len a n) < n
count_missing p a zero j from below fails = absurd (omega (arith, from, below))
count_missing p a (suc n) j from below fails = either (p a) refl (cases_eq a j) (λ apart. count_missing p (a + 1) n j (omega (arith, from, apart)) (omega (arith, below)) fails)
  where
    counted : count_by p (range_with_len a (suc n)) ≡ cond (p a) 1 0 + count_by p (range_with_len (a + 1) n)
    counted = sum_by-cons (λ (y : ℕ). cond (p y) 1 0) a (range_with_len (a + 1) n)

    either : (b : Bool) → p a ≡ b → (a ≡ j) ⊎ (a ≢ j) → (a ≢ j → count_by p (range_with_len (a + 1) n) < n) → count_by p (range_with_len a (suc n)) < suc n
    either true e (inl same) more = absurd (true≢false (sym e ∙ ap p same ∙ fails))
    either false e at more =
        let few = count_by-le-length p (range_with_len (a + 1) n) in
        let long = length-range_with_len (a + 1) n in
        let now : count_by p (range_with_len a (suc n)) ≡ 0 + count_by p (range_with_len (a + 1) n) = counted ∙ ap (λ (b : Bool). cond b 1 0 + count_by p (range_with_len (a + 1) n)) e in
        omega (arith, few, long, now)
    either true e (inr apart) more =
        let rest = more apart in
        let now : count_by p (range_with_len a (suc n)) ≡ 1 + count_by p (range_with_len (a + 1) n) = counted ∙ ap (λ (b : Bool). cond b 1 0 + count_by p (range_with_len (a + 1) n)) e in
        omega (arith, rest, now)
