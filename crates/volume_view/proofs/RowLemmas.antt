-- Runs that a page more is added to.
use Rattle.std.proofs.Common.{◌≡◌, ◌⊎◌, inl, inr, ℕ, zero, suc, ◌+◌, ◌<◌, ◌≤◌, ◌^◌, true, false, ◌&&◌, List, [], ◌∷◌, ◌++◌, length, refl, sym, ◌∙◌, ap, arith, eqb, length-append}
use Rattle.std.specs.List.{AllByRecursion}
use Rattle.std.proofs.lemmas.Bool.{and_parts, eqb-true}
use Rattle.label_survey.specs.declared.triples.Triple.{Triple}
use Rattle.label_survey.specs.declared.runs.Run.{Run}
use Rattle.label_survey.specs.Runs.{triples_in_row, triples_of, all_triples, IsLong, run_of, goes_on}
use Rattle.volume_view.specs.Rows.{AreApart, AreJoined}

nothing_more : (ts : List Triple) → ts ++ [] ≡ ts
nothing_more [] = refl
nothing_more (t ∷ ts) = ap (λ (l : List Triple). t ∷ l) (nothing_more ts)

appended : (ts us vs : List Triple) → (ts ++ us) ++ vs ≡ ts ++ (us ++ vs)
appended [] us vs = refl
appended (t ∷ ts) us vs = ap (λ (l : List Triple). t ∷ l) (appended ts us vs)

row_more : (id page sector n : ℕ) → triples_in_row id page sector (suc n) ≡ triples_in_row id page sector n ++ record { id = id; page = page + n; sector = sector + n } ∷ []
row_more id page sector zero =
    let p : page ≡ page + 0 = omega arith in
    let s : sector ≡ sector + 0 = omega arith in
    ap (λ (m : ℕ). record { id = id; page = m; sector = sector } ∷ []) p ∙ ap (λ (m : ℕ). record { id = id; page = page + 0; sector = m } ∷ []) s
row_more id page sector (suc n) =
    let p : page + 1 + n ≡ page + suc n = omega arith in
    let s : sector + 1 + n ≡ sector + suc n = omega arith in
    ap (λ (l : List Triple). record { id = id; page = page; sector = sector } ∷ l)
    (row_more id (page + 1) (sector + 1) n
    ∙ ap (λ (m : ℕ). triples_in_row id (page + 1) (sector + 1) n ++ record { id = id; page = m; sector = sector + 1 + n } ∷ []) p
    ∙ ap (λ (m : ℕ). triples_in_row id (page + 1) (sector + 1) n ++ record { id = id; page = page + suc n; sector = m } ∷ []) s)

-- the run with the page after its last
abbrev longer : Run → Run
longer r = record r { pages = r.pages + 1 }

longer_pages : (r : Run) (t : Triple) → goes_on r t ≡ true → triples_of (longer r) ≡ triples_of r ++ t ∷ []
longer_pages r t goes =
    let outer = and_parts (eqb t.id r.id && eqb t.page (r.first + r.pages)) (eqb t.sector (r.sector + r.pages)) goes in
    let inner = and_parts (eqb t.id r.id) (eqb t.page (r.first + r.pages)) outer.0 in
    let id : t.id ≡ r.id = eqb-true t.id r.id inner.0 in
    let page : t.page ≡ r.first + r.pages = eqb-true t.page (r.first + r.pages) inner.1 in
    let sector : t.sector ≡ r.sector + r.pages = eqb-true t.sector (r.sector + r.pages) outer.1 in
    let is : record { id = r.id; page = r.first + r.pages; sector = r.sector + r.pages } ≡ t = sym (λ x. record { id = id x; page = page x; sector = sector x }) in
    let s : r.pages + 1 ≡ suc r.pages = omega arith in
    ap (triples_in_row r.id r.first r.sector) s ∙ row_more r.id r.first r.sector r.pages ∙ ap (λ (u : Triple). triples_of r ++ u ∷ []) is

-- the last run is made longer
pub longer_all : (runs : List Run) (last : Run) (t : Triple) → goes_on last t ≡ true → all_triples (runs ++ longer last ∷ []) ≡ all_triples (runs ++ last ∷ []) ++ t ∷ []
longer_all [] last t goes = nothing_more (triples_of (longer last)) ∙ longer_pages last t goes ∙ ap (λ (l : List Triple). l ++ t ∷ []) (sym (nothing_more (triples_of last)))
longer_all (r ∷ runs) last t goes = ap (λ (l : List Triple). triples_of r ++ l) (longer_all runs last t goes) ∙ sym (appended (triples_of r) (all_triples (runs ++ last ∷ [])) (t ∷ []))

longer_long : (runs : List Run) (last : Run) → AllByRecursion IsLong (runs ++ last ∷ []) → AllByRecursion IsLong (runs ++ longer last ∷ [])
longer_long [] last all = (omega arith, tt)
longer_long (r ∷ runs) last all = (all.0, longer_long runs last all.1)

longer_apart : (runs : List Run) (last : Run) → AreApart (runs ++ last ∷ []) → AreApart (runs ++ longer last ∷ [])
longer_apart [] last all = tt
longer_apart (r ∷ []) last all = (all.0, tt)
longer_apart (r ∷ q ∷ runs) last all = (all.0, longer_apart (q ∷ runs) last all.1)

pub longer_joined : (runs : List Run) (last : Run) → AreJoined (runs ++ last ∷ []) → AreJoined (runs ++ longer last ∷ [])
longer_joined runs last joined = record { long = longer_long runs last joined.long; apart = longer_apart runs last joined.apart }

-- a run of one page more
pub one_more_all : (runs : List Run) (t : Triple) → all_triples (runs ++ run_of t ∷ []) ≡ all_triples runs ++ t ∷ []
one_more_all [] t = refl
one_more_all (r ∷ runs) t = ap (λ (l : List Triple). triples_of r ++ l) (one_more_all runs t) ∙ sym (appended (triples_of r) (all_triples runs) (t ∷ []))

more_long : (runs : List Run) (t : Triple) → AllByRecursion IsLong runs → AllByRecursion IsLong (runs ++ run_of t ∷ [])
more_long [] t all = (omega arith, tt)
more_long (r ∷ runs) t all = (all.0, more_long runs t all.1)

more_apart : (runs : List Run) (last : Run) (t : Triple) → goes_on last t ≡ false → AreApart (runs ++ last ∷ []) → AreApart ((runs ++ last ∷ []) ++ run_of t ∷ [])
more_apart [] last t ends all = (ends, tt)
more_apart (r ∷ []) last t ends all = (all.0, (ends, tt))
more_apart (r ∷ q ∷ runs) last t ends all = (all.0, more_apart (q ∷ runs) last t ends all.1)

pub one_more_joined : (runs : List Run) (last : Run) (t : Triple) → goes_on last t ≡ false → AreJoined (runs ++ last ∷ []) → AreJoined ((runs ++ last ∷ []) ++ run_of t ∷ [])
one_more_joined runs last t ends joined = record { long = more_long (runs ++ last ∷ []) t joined.long; apart = more_apart runs last t ends joined.apart }

row_long : (id page sector n : ℕ) → length (triples_in_row id page sector n) ≡ n
row_long id page sector zero = refl
row_long id page sector (suc n) = ap suc (row_long id (page + 1) (sector + 1) n)

last_within : (runs : List Run) (last : Run) → last.pages ≤ length (all_triples (runs ++ last ∷ []))
last_within [] last =
    let sum = length-append (triples_of last) [] in
    let long = row_long last.id last.first last.sector last.pages in
    omega (arith, sum, long)
last_within (r ∷ runs) last =
    let sum = length-append (triples_of r) (all_triples (runs ++ last ∷ [])) in
    let within = last_within runs last in
    omega (arith, sum, within)

-- the last run has room for the page after it, by its sector or by how many pages there are
pub longer_fits : (runs : List Run) (last : Run) (t : Triple) → goes_on last t ≡ true → (t.sector + 1 < 2 ^ 32) ⊎ (length (all_triples (runs ++ last ∷ [])) + 1 < 2 ^ 32) → last.pages + 1 < 2 ^ 32
longer_fits runs last t goes few = elim few [
  | inl low ↦
      let outer = and_parts (eqb t.id last.id && eqb t.page (last.first + last.pages)) (eqb t.sector (last.sector + last.pages)) goes in
      let sector : t.sector ≡ last.sector + last.pages = eqb-true t.sector (last.sector + last.pages) outer.1 in
      omega (arith, sector, low)
  | inr short ↦ let within = last_within runs last in omega (arith, within, short)
]

pub first_joined : (t : Triple) → AreJoined (run_of t ∷ [])
first_joined t = record { long = (omega arith, tt); apart = tt }
