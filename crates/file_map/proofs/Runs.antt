-- Runs in ascending order of their keys, of which no two have one page: they lie one after the other among all pages of all files.
use Rattle.std.proofs.Common.{◌≡◌, inl, inr, ℕ, suc, ◌+◌, ◌<◌, ◌≤◌, Bool, true, false, ◌&&◌, ◌==◌, nat_lt, nat_le, List, [], length, map, take, refl, sym, ◌∙◌, ap, arith}
use Rattle.std.proofs.lemmas.Bool.{cases_lt, false≢true, eqb-true, eq-eqb, leb-true, le-leb}
use Rattle.std.proofs.lemmas.List.{get_or-map, length-map}
use Rattle.flat_mem.specs.Order.{key_at, at_most, IsInKeyOrder}
use Rattle.file_map.specs.declared.run.Run.{Run}
use Rattle.file_map.specs.Run.{IsRun, holds, key_bytes, run_bytes}
use Rattle.file_map.specs.FileMap.{AreRuns, run_at, no_run}
use Rattle.file_map.proofs.Keys.{rank, keys_ordered}
use Rattle.file_map.proofs.Records.{key_of_run}

abbrev pub rank_of : Run → ℕ
rank_of r = rank r.id r.first

-- ---- pages of a run

pub and_parts : (a b : Bool) → (a && b) ≡ true → (a ≡ true) × (b ≡ true)
and_parts true b h = (refl, h)
and_parts false b h = absurd (false≢true h)

pub and_both : (a b : Bool) → a ≡ true → b ≡ true → (a && b) ≡ true
and_both true b h k = k
and_both false b h k = absurd (false≢true h)

pub record HasPage (r : Run) (id page : ℕ) : Type 0 where
  pub same : r.id ≡ id
  pub from : r.first ≤ page
  pub below : page < r.first + r.pages

pub has_page : (r : Run) (id page : ℕ) → holds r id page ≡ true → HasPage r id page
has_page r id page h =
    let parts = and_parts (r.id == id) (nat_le r.first page && nat_lt page (r.first + r.pages)) h in
    let bounds = and_parts (nat_le r.first page) (nat_lt page (r.first + r.pages)) parts.1 in
    record { same = eqb-true r.id id parts.0; from = leb-true r.first page bounds.0; below = leb-true (suc page) (r.first + r.pages) bounds.1 }

pub page_held : (r : Run) (id page : ℕ) → HasPage r id page → holds r id page ≡ true
page_held r id page h = and_both (r.id == id) _ (eq-eqb r.id id h.same) (and_both (nat_le r.first page) _ (le-leb r.first page h.from) (le-leb (suc page) (r.first + r.pages) h.below))

pub first_held : (n : ℕ) (r : Run) → IsRun n r → holds r r.id r.first ≡ true
first_held n r form = page_held r r.id r.first record { same = refl; from = omega arith; below = omega (arith, form.some) }

-- of two runs that have no page together, the one with the lesser key ends before the other
pub ends_before : (n : ℕ) (a b : Run) → IsRun n a → IsRun n b → rank_of a ≤ rank_of b → (holds a b.id b.first ≡ true → ⊥) → rank_of a + a.pages ≤ rank_of b
ends_before n a b a_form b_form order apart = elim (cases_lt (rank_of b) (rank_of a + a.pages)) [
  | inl inside ↦
      let same : a.id ≡ b.id = omega (arith, inside, order, a_form.pages_fit, b_form.pages_fit, b_form.some) in
      absurd (apart (page_held a b.id b.first record { same = same; from = omega (arith, same, order); below = omega (arith, same, inside) }))
  | inr not ↦ not
]

-- ---- keys of a list of runs

pub key_of_entry : (runs : List Run) (j : ℕ) → j < length runs → key_at 12 (map run_bytes runs) j ≡ key_bytes (run_at runs j).id (run_at runs j).first
key_of_entry runs j below = ap (take 12) (get_or-map run_bytes runs j no_run [] below) ∙ key_of_run (run_at runs j)

pub record AreSorted (n : ℕ) (runs : List Run) : Type 0 where
  pub form : AreRuns n runs
  pub ascending : IsInKeyOrder 12 (map run_bytes runs)

-- the first page of each run is above all pages of the runs before it
abbrev pub AreSpread : List Run → Type 0
AreSpread runs = (j k : ℕ) → j < k → k < length runs → rank_of (run_at runs j) + (run_at runs j).pages ≤ rank_of (run_at runs k)

module _ (n : ℕ) (runs : List Run) (sorted : AreSorted n runs) where
  pub ordered : (j k : ℕ) → j ≤ k → k < length runs → rank_of (run_at runs j) ≤ rank_of (run_at runs k)
  ordered j k order below =
      let a = sorted.form.each j (omega (arith, order, below)) in
      let b = sorted.form.each k below in
      let test = sorted.ascending j k order (omega (arith, below, length-map runs run_bytes)) in
      let tested : at_most (key_bytes (run_at runs j).id (run_at runs j).first) (key_bytes (run_at runs k).id (run_at runs k).first) ≡ true =
      rw (← key_of_entry runs j (omega (arith, order, below)), ← key_of_entry runs k below) test in
      elim (cases_lt (rank_of (run_at runs k)) (rank_of (run_at runs j))) [
        | inl more ↦
            absurd (false≢true (sym ((keys_ordered _ _ _ _ a.id_fits (omega (arith, a.some, a.pages_fit)) b.id_fits (omega (arith, b.some, b.pages_fit))).high more) ∙ tested))
        | inr not ↦ not
      ]

  pub spread : AreSpread runs
  spread j k order below =
      let a = sorted.form.each j (omega (arith, order, below)) in
      let b = sorted.form.each k below in
      ends_before n (run_at runs j) (run_at runs k) a b (ordered j k (omega (arith, order)) below)
      (λ held. let same = sorted.form.once j k _ _ (omega (arith, order, below)) below held (first_held n _ b) in omega (arith, same, order))
