-- A path whose pages are linked, on its way down.
use Rattle.std.proofs.Common.{◌≡◌, ◌≢◌, inl, inr, ℕ, suc, ◌+◌, ◌<◌, ◌≤◌, if◌then◌else◌, Bool, List, length, set, get_or, arith, refl, sym, ◌∙◌, ap}
use Rattle.std.proofs.lemmas.Bool.{cases_eq, eq-eqb, ne_eqb}
use Rattle.std.proofs.lemmas.List.{get_or-set_same, get_or-set_other}
use Rattle.page_tree.specs.Page.{page_at, link_at}
use Rattle.page_tree.specs.Walked.{page_on, IsThread, IsLedDown}

pub on_here : (pages : List ℕ) (level at l : ℕ) → l ≡ level → page_on pages level at l ≡ at
on_here pages level at l same = ap (λ (t : Bool). if t then at else get_or pages l 0) (eq-eqb l level same)

pub on_other : (pages : List ℕ) (level at l : ℕ) → l ≢ level → page_on pages level at l ≡ get_or pages l 0
on_other pages level at l other = ap (λ (t : Bool). if t then at else get_or pages l 0) (ne_eqb l level other)

-- at the root
pub thread_root : (k : ℕ) (b : List ℕ) (levels root : ℕ) (pages index : List ℕ) → IsThread k b levels levels root pages index root
thread_root k b levels root pages index = record { top = on_here pages levels root levels refl; linked = λ l from below. absurd (omega (arith, from, below)) }

-- the path as far as a level above
pub thread_cut : (k : ℕ) (b : List ℕ) (levels root : ℕ) (pages index : List ℕ) (at n : ℕ) → 1 < n → IsThread k b levels 1 root pages index at → n ≤ levels → IsThread k b levels n root pages index (get_or pages n 0)
thread_cut k b levels root pages index at n above thread most = record {
  top = same levels (omega (arith, above, most)) ∙ thread.top;
  linked = λ l from below. same l (omega (arith, above, from)) ∙ thread.linked l (omega (arith, above, from)) below;
}
  where
    same : (l : ℕ) → 1 < l → page_on pages n (get_or pages n 0) l ≡ page_on pages 1 at l
    same l more = elim (cases_eq l n) [
      | inl is ↦ on_here pages n (get_or pages n 0) l is ∙ ap (λ (i : ℕ). get_or pages i 0) (sym is) ∙ sym (on_other pages 1 at l (omega (arith, more)))
      | inr other ↦ on_other pages n (get_or pages n 0) l other ∙ sym (on_other pages 1 at l (omega (arith, more)))
    ]

-- one step down
module _ (k : ℕ) (b : List ℕ) (levels l m root : ℕ) (pages index : List ℕ) (at c child : ℕ) (thread : IsThread k b levels l root pages index at) (next : l ≡ m + 1) (most : l ≤ levels) (long : l < length pages) (long_index : l < length index)
    (is : child ≡ link_at k (page_at b at) c) where
  on_same : (n : ℕ) → m < n → page_on (set pages l at) m child n ≡ page_on pages l at n
  on_same n above = on_other (set pages l at) m child n (omega (arith, above)) ∙ elim (cases_eq n l) [
    | inl same ↦ ap (λ (i : ℕ). get_or (set pages l at) i 0) same ∙ get_or-set_same pages l at 0 long ∙ sym (on_here pages l at n same)
    | inr other ↦ get_or-set_other pages l n at 0 other ∙ sym (on_other pages l at n other)
  ]

  link_of : ℕ → List ℕ → List ℕ → ℕ
  link_of n ps is_index = link_at k (page_at b (get_or ps n 0)) (get_or is_index n 0)

  pub thread_down : IsThread k b levels m root (set pages l at) (set index l c) child
  thread_down = record {
    top = on_same levels (omega (arith, next, most)) ∙ thread.top;
    linked = λ n from below. elim (cases_eq n m) [
      | inl same ↦
          let here : suc n ≡ l = omega (arith, same, next) in
          on_here (set pages l at) m child n same ∙ is
          ∙ sym (ap (λ (i : ℕ). link_at k (page_at b i) (get_or (set index l c) (suc n) 0)) (ap (λ (i : ℕ). get_or (set pages l at) i 0) here ∙ get_or-set_same pages l at 0 long)
          ∙ ap (link_at k (page_at b at)) (ap (λ (i : ℕ). get_or (set index l c) i 0) here ∙ get_or-set_same index l c 0 long_index))
      | inr other ↦
          on_same n (omega (arith, from, other)) ∙ thread.linked n (omega (arith, from, other, next)) below
          ∙ sym (ap (λ (i : ℕ). link_at k (page_at b i) (get_or (set index l c) (suc n) 0)) (get_or-set_other pages l (suc n) at 0 (omega (arith, from, other, next)))
          ∙ ap (link_at k (page_at b (get_or pages (suc n) 0))) (get_or-set_other index l (suc n) c 0 (omega (arith, from, other, next))))
    ];
  }

-- where a way down has come from the start of it
pub record IsComing (level at place : ℕ) (pages index : List ℕ) (now now_at now_place : ℕ) (pages' index' : List ℕ) : Type 0 where
  pub above_pages : (l : ℕ) → level < l → get_or pages' l 0 ≡ get_or pages l 0
  pub above_index : (l : ℕ) → level < l → get_or index' l 0 ≡ get_or index l 0
  pub here_page : now < level → get_or pages' level 0 ≡ at
  pub here_index : now < level → get_or index' level 0 ≡ place
  pub first : (l : ℕ) → now < l → l < level → get_or index' l 0 ≡ 0
  pub fresh_at : now ≡ level → now_at ≡ at
  pub fresh_place : now ≡ level → now_place ≡ place
  pub below_place : now < level → now_place ≡ 0

pub coming_from : (level at place : ℕ) (pages index : List ℕ) → IsComing level at place pages index level at place pages index
coming_from level at place pages index = record {
  above_pages = λ l above. refl;
  above_index = λ l above. refl;
  here_page = λ less. absurd (omega (arith, less));
  here_index = λ less. absurd (omega (arith, less));
  first = λ l above below. absurd (omega (arith, above, below));
  fresh_at = λ same. refl;
  fresh_place = λ same. refl;
  below_place = λ less. absurd (omega (arith, less));
}

pub come_down : (level at place : ℕ) (pages index : List ℕ) (now next now_at now_place child : ℕ) (pages' index' : List ℕ) → now ≡ next + 1 → now ≤ level → now < length pages' → now < length index' → IsComing level at place pages index now now_at now_place pages' index'
    → IsComing level at place pages index next child 0 (set pages' now now_at) (set index' now now_place)
come_down level at place pages index now next now_at now_place child pages' index' step most long long_index was = record {
  above_pages = λ l above. get_or-set_other pages' now l now_at 0 (omega (arith, most, above)) ∙ was.above_pages l above;
  above_index = λ l above. get_or-set_other index' now l now_place 0 (omega (arith, most, above)) ∙ was.above_index l above;
  here_page = λ less. elim (cases_eq level now) [
    | inl same ↦ ap (λ (i : ℕ). get_or (set pages' now now_at) i 0) same ∙ get_or-set_same pages' now now_at 0 long ∙ was.fresh_at (sym same)
    | inr other ↦ get_or-set_other pages' now level now_at 0 other ∙ was.here_page (omega (arith, other, most))
  ];
  here_index = λ less. elim (cases_eq level now) [
    | inl same ↦ ap (λ (i : ℕ). get_or (set index' now now_place) i 0) same ∙ get_or-set_same index' now now_place 0 long_index ∙ was.fresh_place (sym same)
    | inr other ↦ get_or-set_other index' now level now_place 0 other ∙ was.here_index (omega (arith, other, most))
  ];
  first = λ l above below. elim (cases_eq l now) [
    | inl same ↦ ap (λ (i : ℕ). get_or (set index' now now_place) i 0) same ∙ get_or-set_same index' now now_place 0 long_index ∙ was.below_place (omega (arith, same, below))
    | inr other ↦ get_or-set_other index' now l now_place 0 other ∙ was.first l (omega (arith, above, other, step)) below
  ];
  fresh_at = λ same. absurd (omega (arith, same, step, most));
  fresh_place = λ same. absurd (omega (arith, same, step, most));
  below_place = λ less. refl;
}

pub come_to : (level at place : ℕ) (pages index : List ℕ) (now now_at now_place : ℕ) (pages' index' : List ℕ) → now ≡ 1 → IsComing level at place pages index now now_at now_place pages' index' → IsLedDown level at place pages index pages' index'
come_to level at place pages index now now_at now_place pages' index' one was = record {
  above_pages = was.above_pages;
  above_index = was.above_index;
  here_page = λ more. was.here_page (omega (arith, more, one));
  here_index = λ more. was.here_index (omega (arith, more, one));
  first = λ l above below. was.first l (omega (arith, above, one)) below;
}
