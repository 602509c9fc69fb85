-- Runs that are made triple by triple.
use Rattle.std.proofs.Common.{◌≡◌, ℕ, zero, suc, ◌+◌, ◌≤◌, true, ◌&&◌, List, [], ◌∷◌, ◌++◌, length, take, Some, refl, sym, ◌∙◌, ap, subst, arith, eqb}
use Rattle.std.specs.Prelude.{slice_get}
use Rattle.std.specs.List.{AllByRecursion}
use Rattle.std.proofs.lemmas.Option.{same_Some, none-some}
use Rattle.std.proofs.lemmas.Bool.{and_parts, eqb-true}
use Rattle.std.proofs.lemmas.List.{take_all}
use Rattle.label_survey.specs.declared.triples.Triple.{Triple}
use Rattle.label_survey.specs.declared.runs.Run.{Run}
use Rattle.label_survey.specs.Runs.{triples_in_row, triples_of, all_triples, IsLong, AreRunsOf, run_of, goes_on}
use Rattle.label_survey.proofs.SortLemmas.{append_nil}

taken : (ts : List Triple) (k : ℕ) (t : Triple) → slice_get ts k ≡ Some t → take (suc k) ts ≡ take k ts ++ t ∷ []
taken [] k t here = absurd (none-some t here)
taken (u ∷ ts) zero t here = ap (λ (v : Triple). v ∷ []) (same_Some u t here)
taken (u ∷ ts) (suc k) t here = ap (λ (l : List Triple). u ∷ l) (taken ts k t here)

appended : (ts us vs : List Triple) → (ts ++ us) ++ vs ≡ ts ++ (us ++ vs)
appended [] us vs = refl
appended (t ∷ ts) us vs = ap (λ (l : List Triple). t ∷ l) (appended ts us vs)

row_more : (id page sector n : ℕ) → triples_in_row id page sector (suc n) ≡ triples_in_row id page sector n ++ record { id = id; page = page + n; sector = sector + n } ∷ []
row_more id page sector zero =
    let p : page ≡ page + 0 = omega arith in
    let s : sector ≡ sector + 0 = omega arith in
    ap (λ (m : ℕ). record { id = id; page = m; sector = sector } ∷ []) p ∙ ap (λ (m : ℕ). record { id = id; page = page + 0; sector = m } ∷ []) s
row_more id page sector (suc n) =
    let p : page + 1 + n ≡ page + suc n = omega arith in
    let s : sector + 1 + n ≡ sector + suc n = omega arith in
    ap (λ (l : List Triple). record { id = id; page = page; sector = sector } ∷ l)
    (row_more id (page + 1) (sector + 1) n
    ∙ ap (λ (m : ℕ). triples_in_row id (page + 1) (sector + 1) n ++ record { id = id; page = m; sector = sector + 1 + n } ∷ []) p
    ∙ ap (λ (m : ℕ). triples_in_row id (page + 1) (sector + 1) n ++ record { id = id; page = page + suc n; sector = m } ∷ []) s)

runs_more : (rs : List Run) (r : Run) → all_triples (rs ++ r ∷ []) ≡ all_triples rs ++ triples_of r
runs_more [] r = append_nil (triples_of r)
runs_more (q ∷ rs) r = ap (λ (l : List Triple). triples_of q ++ l) (runs_more rs r) ∙ sym (appended (triples_of q) (all_triples rs) (triples_of r))

long_more : (rs : List Run) (r : Run) → AllByRecursion IsLong rs → IsLong r → AllByRecursion IsLong (rs ++ r ∷ [])
long_more [] r all one = (one, tt)
long_more (q ∷ rs) r all one = (all.0, long_more rs r all.1 one)

-- the runs and the open one are the first k triples
pub record AreBegun (triples : List Triple) (k : ℕ) (runs : List Run) (open_run : Run) : Type 0 where
  pub same : all_triples runs ++ triples_of open_run ≡ take k triples
  pub long : AllByRecursion IsLong runs
  pub open_long : IsLong open_run
  pub few : open_run.pages ≤ k

pub first_begun : (triples : List Triple) (t : Triple) → slice_get triples 0 ≡ Some t → AreBegun triples 1 [] (run_of t)
first_begun triples t here = record { same = sym (taken triples 0 t here); long = tt; open_long = omega arith; few = omega arith }

module _ (triples : List Triple) (k : ℕ) (runs : List Run) (open_run : Run) (begun : AreBegun triples k runs open_run) where
  pub joined : (t : Triple) → slice_get triples k ≡ Some t → goes_on open_run t ≡ true → AreBegun triples (k + 1) runs (record open_run { pages = open_run.pages + 1 })
  joined t here goes =
      let parts = and_parts (eqb t.id open_run.id && eqb t.page (open_run.first + open_run.pages)) (eqb t.sector (open_run.sector + open_run.pages)) goes in
      let more = and_parts (eqb t.id open_run.id) (eqb t.page (open_run.first + open_run.pages)) parts.0 in
      let id : t.id ≡ open_run.id = eqb-true t.id open_run.id more.0 in
      let page : t.page ≡ open_run.first + open_run.pages = eqb-true t.page (open_run.first + open_run.pages) more.1 in
      let sector : t.sector ≡ open_run.sector + open_run.pages = eqb-true t.sector (open_run.sector + open_run.pages) parts.1 in
      let is : record { id = open_run.id; page = open_run.first + open_run.pages; sector = open_run.sector + open_run.pages } ≡ t =
      sym (λ x. record { id = id x; page = page x; sector = sector x }) in
      let s : open_run.pages + 1 ≡ suc open_run.pages = omega arith in
      let n : suc k ≡ k + 1 = omega arith in
      record {
        same =
            ap (λ (m : ℕ). all_triples runs ++ triples_in_row open_run.id open_run.first open_run.sector m) s
            ∙ ap (λ (l : List Triple). all_triples runs ++ l) (row_more open_run.id open_run.first open_run.sector open_run.pages ∙ ap (λ (u : Triple). triples_of open_run ++ u ∷ []) is)
            ∙ sym (appended (all_triples runs) (triples_of open_run) (t ∷ []))
            ∙ ap (λ (l : List Triple). l ++ t ∷ []) begun.same
            ∙ sym (taken triples k t here)
            ∙ ap (λ (m : ℕ). take m triples) n;
        long = begun.long;
        open_long = omega arith;
        few = omega (arith, begun.few);
      }

  pub opened : (t : Triple) → slice_get triples k ≡ Some t → AreBegun triples (k + 1) (runs ++ open_run ∷ []) (run_of t)
  opened t here =
      let n : suc k ≡ k + 1 = omega arith in
      record {
        same =
            ap (λ (l : List Triple). l ++ t ∷ []) (runs_more runs open_run ∙ begun.same)
            ∙ sym (taken triples k t here)
            ∙ ap (λ (m : ℕ). take m triples) n;
        long = long_more runs open_run begun.long begun.open_long;
        open_long = omega arith;
        few = omega arith;
      }

  pub closed : length triples ≤ k → AreRunsOf triples (runs ++ open_run ∷ [])
  closed full = record { same = runs_more runs open_run ∙ begun.same ∙ take_all k triples full; long = long_more runs open_run begun.long begun.open_long }

pub no_triples : (triples : List Triple) → length triples ≡ 0 → AreRunsOf triples []
no_triples [] none = record { same = refl; long = tt }
no_triples (t ∷ ts) none = absurd (omega (arith, none))

pub begun_as : (triples : List Triple) (k : ℕ) (runs now : List Run) (open_run one : Run) → now ≡ runs → one ≡ open_run → AreBegun triples k runs open_run → AreBegun triples k now one
begun_as triples k runs now open_run one same_runs same_run begun = record {
  same = ap (λ (rs : List Run). all_triples rs ++ triples_of one) same_runs ∙ ap (λ (r : Run). all_triples runs ++ triples_of r) same_run ∙ begun.same;
  long = subst (λ (rs : List Run). AllByRecursion IsLong rs) (sym same_runs) begun.long;
  open_long = subst IsLong (sym same_run) begun.open_long;
  few = subst (λ (r : Run). r.pages ≤ k) (sym same_run) begun.few;
}
