-- Pages that an insertion uses, one after the other.
use Rattle.std.proofs.Common.{◌≡◌, ◌≢◌, ◌⊎◌, inl, inr, ℕ, ◌+◌, ◌*◌, ◌<◌, ◌≤◌, Bool, true, false, List, length, get_or, arith, refl, sym, ◌∙◌, ap, subst}
use Rattle.std.proofs.lemmas.Bool.{cases_eq, false≢true}
use Rattle.std.proofs.lemmas.Nat.{mul-le}
use Rattle.flat_mem.specs.Memory.{overwritten}
use Rattle.flat_mem.specs.Parts.{length-overwritten}
use Rattle.page_tree.specs.Page.{page_at, kind_of, filled, top_in, free_in, next_in}
use Rattle.page_tree.specs.Broken.{Meets, Frees, Breaks, StopsInsertion, IsInnerForm, IfMalformed}
use Rattle.page_tree.specs.Met.{IsMetPath}
use Rattle.page_tree.specs.Answer.{FromMemory}
use Rattle.page_tree.specs.declared.error.TreeError.{TreeError}
use Rattle.page_tree.specs.declared.error.TreeError.TheVariants.{Full, Malformed, Mem}
use Rattle.page_tree.specs.Way.{IsSpent, IsUnderWay, IsTakenOn, WasFull, GoesOn}
use Rattle.page_tree.proofs.Once.{page_same, page_other}

pub spent_wider : (k : ℕ) (b : List ℕ) (level level' n n' q : ℕ) → level ≤ level' → n ≤ n' → IsSpent k b level n q → IsSpent k b level' n' q
spent_wider k b level level' n n' q up more (IsSpent.tree l some most met) = IsSpent.tree l some (omega (arith, most, up)) met
spent_wider k b level level' n n' q up more (IsSpent.list m less listed some) = IsSpent.list m (omega (arith, less, more)) listed some
spent_wider k b level level' n n' q up more (IsSpent.above past) = IsSpent.above past

-- a page that is used is not the next of the list
pub spent_free : (e k pages : ℕ) (b : List ℕ) (level n q : ℕ) → Frees b n q → 1 ≤ q → IsSpent k b level n q → Breaks e k pages b q
spent_free e k pages b level n q listed some (IsSpent.tree l some_level most met) = Breaks.used n l listed some met
spent_free e k pages b level n q listed some (IsSpent.list m less before some_page) = Breaks.again m n before listed some less
spent_free e k pages b level n q listed some (IsSpent.above past) = Breaks.above (inr (n, listed)) past

-- nor one that is met further up
pub spent_met : (e k pages : ℕ) (b : List ℕ) (level n q up : ℕ) → Meets k b up q → level < up → IsSpent k b level n q → Breaks e k pages b q
spent_met e k pages b level n q up here more (IsSpent.tree l some_level most met) = Breaks.twice l up met here (omega (arith, most, more))
spent_met e k pages b level n q up here more (IsSpent.list m less before some_page) = Breaks.used m up before some_page here
spent_met e k pages b level n q up here more (IsSpent.above past) = Breaks.above (inl (up, here)) past

-- at the start
pub way_begun : (k : ℕ) (b : List ℕ) (free top : ℕ) → free ≡ free_in (page_at b 0) → 512 * free + 512 ≤ length b → top ≡ top_in (page_at b 0) → IsUnderWay k b b 0 0 free top
way_begun k b free top free_is fits top_is = record { n = 0; n_most = omega arith; long = refl; free_is = Frees.first 0 free refl free_is fits; top_is = omega (arith, top_is); pages = λ q. inl refl }

module _ (k : ℕ) (b c : List ℕ) (level t free top : ℕ) (way : IsUnderWay k b c level t free top) where
  -- the list is at its end: the page above the greatest is taken
  pub takes_above : (page : ℕ) → page ≡ top + 1 → IsTakenOn k b c level t page free page
  takes_above page is = record {
    way = record { n = way.n; n_most = omega (arith, way.n_most); long = way.long; free_is = way.free_is; top_is = omega (arith, way.top_is, is); pages = way.pages };
    spent = IsSpent.above (omega (arith, way.top_is, way.n_most, is));
  }

  pub none_left : (e pages : ℕ) → free ≡ 0 → pages ≤ top + 1 → t ≤ 5 → StopsInsertion e k pages b 0
  none_left e pages ends most few = StopsInsertion.none_left way.n refl (subst (Frees b way.n) ends way.free_is) (omega (arith, way.top_is, most, few))

  -- the first of the list is taken
  module _ (some : 1 ≤ free) where
    same : kind_of (page_at c free) ≡ 0 → page_at c free ≡ page_at b free
    same kind = elim (way.pages free) [
      | inl as_before ↦ as_before
      | inr written ↦ absurd (written.0 kind)
    ]

    pub takes_first : (next : ℕ) → kind_of (page_at c free) ≡ 0 → next ≡ next_in (page_at c free) → 512 * next + 512 ≤ length c → IsTakenOn k b c level t free next top
    takes_first next kind is fits = record {
      way = record {
        n = way.n + 1;
        n_most = omega (arith, way.n_most);
        long = way.long;
        free_is = Frees.next way.n free (way.n + 1) next way.free_is refl some (ap kind_of (sym (same kind)) ∙ kind) (is ∙ ap next_in (same kind)) (omega (arith, fits, way.long));
        top_is = omega (arith, way.top_is);
        pages = λ q. elim (way.pages q) [
          | inl as_before ↦ inl as_before
          | inr written ↦ inr (written.0, spent_wider k b level level way.n (way.n + 1) q (omega arith) (omega arith) written.1)
        ];
      };
      spent = IsSpent.list way.n (omega arith) way.free_is some;
    }

    pub not_free : (e pages : ℕ) → kind_of (page_at c free) ≢ 0 → StopsInsertion e k pages b free
    not_free e pages unlike = elim (way.pages free) [
      | inl as_before ↦ StopsInsertion.broken (Breaks.free way.n way.free_is some (inl (λ kind. unlike (ap kind_of as_before ∙ kind))))
      | inr written ↦ StopsInsertion.broken (spent_free e k pages b level way.n free way.free_is some written.1)
    ]

    pub next_outside : (e pages next : ℕ) → kind_of (page_at c free) ≡ 0 → next ≡ next_in (page_at c free) → pages ≤ next → StopsInsertion e k pages b free
    next_outside e pages next kind is past = StopsInsertion.broken (Breaks.free way.n way.free_is some (inr (omega (arith, past, is ∙ ap next_in (same kind)))))

-- both halves of a page that is met are written, one into the page that was taken
pub halves_written : (k : ℕ) (b c : List ℕ) (level up t page free top at : ℕ) (left right : List ℕ) → IsTakenOn k b c level t page free top → up ≡ level + 1 → Meets k b up at → length left ≡ 512 → length right ≡ 512
    → kind_of left ≢ 0 → kind_of right ≢ 0 → 512 * at + 512 ≤ length c → 512 * page + 512 ≤ length c → IsUnderWay k b (overwritten (overwritten c (512 * at) left) (512 * page) right) up (t + 1) free top
halves_written k b c level up t page free top at left right taken next met long long_right left_kind right_kind fits page_fits = record {
  n = taken.way.n;
  n_most = taken.way.n_most;
  long = length-overwritten half right (512 * page) (omega (arith, long_right, half_fits)) ∙ length-overwritten c left (512 * at) (omega (arith, long, fits)) ∙ taken.way.long;
  free_is = taken.way.free_is;
  top_is = taken.way.top_is;
  pages = λ q. elim (cases_eq q page) [
    | inl is ↦ inr (
      (λ kind. right_kind (ap kind_of (sym (page_same half right page long_right half_fits)) ∙ ap (λ (i : ℕ). kind_of (page_at (overwritten half (512 * page) right) i)) (sym is) ∙ kind)),
      subst (IsSpent k b up taken.way.n) (sym is) (spent_wider k b level up taken.way.n taken.way.n page (omega (arith, next)) (omega arith) taken.spent),
    )
    | inr other ↦ elim (cases_eq q at) [
      | inl here ↦
          let is_left : page_at (overwritten half (512 * page) right) q ≡ left = page_other half right page q long_right half_fits other ∙ ap (page_at half) here ∙ page_same c left at long fits in
          inr ((λ kind. left_kind (ap kind_of (sym is_left) ∙ kind)), subst (IsSpent k b up taken.way.n) (sym here) (IsSpent.tree up (omega (arith, next)) (omega arith) met))
      | inr away ↦
          let is_old : page_at (overwritten half (512 * page) right) q ≡ page_at c q = page_other half right page q long_right half_fits other ∙ page_other c left at q long fits away in
          elim (taken.way.pages q) [
            | inl as_before ↦ inl (is_old ∙ as_before)
            | inr written ↦ inr ((λ kind. written.0 (ap kind_of (sym is_old) ∙ kind)), spent_wider k b level up taken.way.n taken.way.n q (omega (arith, next)) (omega arith) written.1)
          ]
    ]
  ];
}
  where
    half : List ℕ
    half = overwritten c (512 * at) left

    half_fits : 512 * page + 512 ≤ length half
    half_fits = omega (arith, length-overwritten c left (512 * at) (omega (arith, long, fits)), page_fits)

pub goes_on : (k : ℕ) (reveals : List ℕ → Type 0) (b : List ℕ) (level free top : ℕ) (done : Bool) → done ≡ false → GoesOn k reveals b level free top done → (d : List ℕ) × reveals d × IsUnderWay k b d level level free top
goes_on k reveals b level free top false is way = way
goes_on k reveals b level free top true is way = absurd (false≢true (sym is))

-- the page of the path that is read again is as it was, or it breaks the form
pub read_again : (e k pages : ℕ) (b c : List ℕ) (levels level root free top : ℕ) (paths index : List ℕ) → IsUnderWay k b c level level free top → IsMetPath k b levels 1 root paths index → 1 ≤ level → level < levels
    → (page_at c (get_or paths (level + 1) 0) ≡ page_at b (get_or paths (level + 1) 0)) ⊎ Breaks e k pages b (get_or paths (level + 1) 0)
read_again e k pages b c levels level root free top paths index way path some less = elim (way.pages (get_or paths (level + 1) 0)) [
  | inl same ↦ inl same
  | inr written ↦ inr (spent_met e k pages b level way.n _ (level + 1) (path.met (level + 1) (omega (arith, some)) (omega (arith, less))) (omega arith) written.1)
]

-- so it passes the tests that it passed before
pub form_again : (k : ℕ) (b c page : List ℕ) (levels level root : ℕ) (paths index : List ℕ) → IsMetPath k b levels 1 root paths index → 1 ≤ level → level < levels → page ≡ page_at c (get_or paths (level + 1) 0) → page_at c (get_or paths (level + 1) 0) ≡ page_at b (get_or paths (level + 1) 0)
    → IsInnerForm k page × (get_or index (level + 1) 0 ≤ filled page)
form_again k b c page levels level root paths index path some less read same = rw (read ∙ same) (path.form (level + 1) (omega (arith, some)) (omega (arith, less)), path.chosen (level + 1) (omega (arith, some)) (omega (arith, less)))

pub from_memory : {X : Type 0} (P : ℕ → Type 0) (why : TreeError X) → FromMemory why → IfMalformed P why
from_memory P Full h = tt
from_memory P (Malformed page) h = absurd h
from_memory P (Mem error) h = tt

pub malformed_wider : {X : Type 0} (P Q : ℕ → Type 0) (why : TreeError X) → ((page : ℕ) → P page → Q page) → IfMalformed P why → IfMalformed Q why
malformed_wider P Q Full wider h = tt
malformed_wider P Q (Malformed page) wider h = wider page h
malformed_wider P Q (Mem error) wider h = tt

-- what a climb spends
pub spends : (before after old c m next : ℕ) → next ≡ m + 1 → before ≤ old + m * c → after ≤ before + c → after ≤ old + next * c
spends before after old c m next is had paid = rw is (omega (arith, had, paid))

pub spends_most : (spent old c m : ℕ) → m ≤ 5 → spent ≤ old + m * c → spent ≤ old + 5 * c
spends_most spent old c m few had = omega (arith, had, mul-le m c 5 c few (omega arith))

-- a root on level 6 that was full breaks the form
pub root_full : (e k pages : ℕ) (b : List ℕ) (levels level root : ℕ) (paths index : List ℕ) → IsMetPath k b levels 1 root paths index → Meets k b levels root → level ≡ levels → levels ≡ 6 → (1 < level → WasFull e k pages b (get_or paths level 0)) → StopsInsertion e k pages b root
root_full e k pages b levels level root paths index path met at_top six full =
    let named : get_or paths level 0 ≡ root = ap (λ (l : ℕ). get_or paths l 0) at_top ∙ path.top (omega (arith, six)) in
    elim (rw named at (full (omega (arith, at_top, six)))) [
      | inl filled_is ↦ StopsInsertion.seventh (rw six at met) filled_is
      | inr broken ↦ StopsInsertion.broken broken
    ]
