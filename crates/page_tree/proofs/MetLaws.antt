-- A search through pages that are met.
use Rattle.std.proofs.Common.{◌≡◌, ◌≢◌, ◌⊎◌, inl, inr, ℕ, ◌+◌, ◌*◌, ◌/◌, ◌<◌, ◌≤◌, List, Result, Ok, Err, IfErr, length, set, get_or, arith, sym, ◌∙◌, ap, subst}
use Rattle.std.proofs.lemmas.Bool.{cases_eq}
use Rattle.std.proofs.lemmas.List.{get_or-set_same, get_or-set_other}
use Rattle.page_tree.specs.Page.{page_at, kind_of, filled, key_room, link_at}
use Rattle.page_tree.specs.Broken.{IsInnerForm, IsLeafForm, Meets, Frees, Breaks, StopsInsertion, IfMalformed}
use Rattle.page_tree.specs.declared.error.TreeError.{TreeError}
use Rattle.page_tree.specs.declared.error.TreeError.TheVariants.{Full, Malformed, Mem}
use Rattle.page_tree.specs.Met.{IsMetPath}

-- a page that is met is a page of the bytes, at a level, and not the header
pub met_low : (k : ℕ) (b : List ℕ) (l p : ℕ) → Meets k b l p → 1 ≤ l
met_low k b l p (Meets.root _ _ is named low after fits) = low
met_low k b l p (Meets.child m q i _ _ met next low form inside is after fits) = low

pub met_after : (k : ℕ) (b : List ℕ) (l p : ℕ) → Meets k b l p → 1 ≤ p
met_after k b l p (Meets.root _ _ is named low after fits) = after
met_after k b l p (Meets.child m q i _ _ met next low form inside is after fits) = after

pub met_fits : (k : ℕ) (b : List ℕ) (l p : ℕ) → Meets k b l p → 512 * p + 512 ≤ length b
met_fits k b l p (Meets.root _ _ is named low after fits) = fits
met_fits k b l p (Meets.child m q i _ _ met next low form inside is after fits) = fits

free_fits : (b : List ℕ) (n p : ℕ) → Frees b n p → 512 * p + 512 ≤ length b
free_fits b n p (Frees.first _ _ start named fits) = fits
free_fits b n p (Frees.next m q _ _ was next some kind named fits) = fits

-- so a page that breaks the form, or stops an insertion, is one
broken_fits : (e k pages : ℕ) (b : List ℕ) (page : ℕ) → 512 ≤ length b → Breaks e k pages b page → 512 * page + 512 ≤ length b
broken_fits e k pages b page some (Breaks.header is unlike) = omega (arith, is, some)
broken_fits e k pages b page some (Breaks.level l met low unlike) = met_fits k b l page met
broken_fits e k pages b page some (Breaks.link l i met above form inside outside) = met_fits k b l page met
broken_fits e k pages b page some (Breaks.twice l m low high less) = met_fits k b l page low
broken_fits e k pages b page some (Breaks.free n was after either) = free_fits b n page was
broken_fits e k pages b page some (Breaks.used n l was after met) = met_fits k b l page met
broken_fits e k pages b page some (Breaks.again n m one two after less) = free_fits b n page one
broken_fits e k pages b page some (Breaks.above either past) = elim either [
  | inl met ↦ met_fits k b met.0 page met.1
  | inr was ↦ free_fits b was.0 page was.1
]
broken_fits e k pages b page some (Breaks.underfull l met low below underfull) = met_fits k b l page met
broken_fits e k pages b page some (Breaks.uncounted is level none) = omega (arith, is, some)
broken_fits e k pages b page some (Breaks.few is less) = omega (arith, is, some)
broken_fits e k pages b page some (Breaks.crowded is many) = omega (arith, is, some)

stop_fits : (e k pages : ℕ) (b : List ℕ) (page : ℕ) → 512 ≤ length b → StopsInsertion e k pages b page → 512 * page + 512 ≤ length b
stop_fits e k pages b page some (StopsInsertion.broken broken) = broken_fits e k pages b page some broken
stop_fits e k pages b page some (StopsInsertion.none_left n is was short) = omega (arith, is, some)
stop_fits e k pages b page some (StopsInsertion.seventh met full) = met_fits k b 6 page met

pub err_wider : {T X : Type 0} (r : Result T X) (P Q : X → Type 0) → ((why : X) → P why → Q why) → IfErr r P → IfErr r Q
err_wider (Ok x) P Q f h = tt
err_wider (Err why) P Q f h = f why h

pub broken_inside : {X : Type 0} (e k size : ℕ) (b : List ℕ) (why : TreeError X) → length b ≡ size → 512 ≤ size → IfMalformed (Breaks e k (size / 512) b) why → IfMalformed (λ page. page < size / 512) why
broken_inside e k size b Full long some h = tt
broken_inside e k size b (Malformed page) long some h = omega (arith, long, broken_fits e k (size / 512) b page (omega (arith, long, some)) h)
broken_inside e k size b (Mem error) long some h = tt

pub past_inside : {X : Type 0} (e k size : ℕ) (b : List ℕ) (P : Type 0) (why : TreeError X) → length b ≡ size → 512 ≤ size → IfMalformed (λ page. Breaks e k (size / 512) b page ⊎ ((page ≡ 0) × P)) why → IfMalformed (λ page. page < size / 512) why
past_inside e k size b P Full long some h = tt
past_inside e k size b P (Malformed page) long some h = elim h [
  | inl broken ↦ omega (arith, long, broken_fits e k (size / 512) b page (omega (arith, long, some)) broken)
  | inr header ↦ omega (arith, header.0, some)
]
past_inside e k size b P (Mem error) long some h = tt

pub stop_inside : {X : Type 0} (e k size : ℕ) (b : List ℕ) (why : TreeError X) → length b ≡ size → 512 ≤ size → IfMalformed (StopsInsertion e k (size / 512) b) why → IfMalformed (λ page. page < size / 512) why
stop_inside e k size b Full long some h = tt
stop_inside e k size b (Malformed page) long some h = omega (arith, long, stop_fits e k (size / 512) b page (omega (arith, long, some)) h)
stop_inside e k size b (Mem error) long some h = tt

-- at the root no page is on the path yet
pub met_root : (k : ℕ) (b : List ℕ) (levels root : ℕ) (pages index : List ℕ) → IsMetPath k b levels levels root pages index
met_root k b levels root pages index = record {
  met = λ l from most. absurd (omega (arith, from, most));
  form = λ l from most. absurd (omega (arith, from, most));
  chosen = λ l from most. absurd (omega (arith, from, most));
  top = λ less. absurd (omega (arith, less));
}

-- what was read of a page is so of the page
pub inner_form : (k : ℕ) (b page : List ℕ) (at : ℕ) → page ≡ page_at b at → kind_of page ≡ 2 → 1 ≤ filled page → filled page ≤ key_room k → IsInnerForm k (page_at b at)
inner_form k b page at read kind some most = subst (IsInnerForm k) read (record { kind = kind; some = some; most = most })

-- one step down, to a child of an inner page that is met
module _ (k : ℕ) (b : List ℕ) (levels l m root : ℕ) (pages index : List ℕ) (at c : ℕ) (path : IsMetPath k b levels l root pages index) (met : Meets k b l at) (form : IsInnerForm k (page_at b at)) (inside : c ≤ filled (page_at b at))
    (next : l ≡ m + 1) (some : 1 ≤ m) (most : l ≤ levels) (long : l < length pages) (long_index : l < length index) (starts : l ≡ levels → at ≡ root) where
  pub met_child : (child : ℕ) → child ≡ link_at k (page_at b at) c → 1 ≤ child → 512 * child + 512 ≤ length b → Meets k b m child
  met_child child is after fits = Meets.child l at c m child met next some form inside is after fits

  page_same : (n : ℕ) → n ≡ l → get_or (set pages l at) n 0 ≡ at
  page_same n same = ap (λ (i : ℕ). get_or (set pages l at) i 0) same ∙ get_or-set_same pages l at 0 long

  page_other : (n : ℕ) → n ≢ l → get_or (set pages l at) n 0 ≡ get_or pages n 0
  page_other n other = get_or-set_other pages l n at 0 other

  index_same : (n : ℕ) → n ≡ l → get_or (set index l c) n 0 ≡ c
  index_same n same = ap (λ (i : ℕ). get_or (set index l c) i 0) same ∙ get_or-set_same index l c 0 long_index

  index_other : (n : ℕ) → n ≢ l → get_or (set index l c) n 0 ≡ get_or index n 0
  index_other n other = get_or-set_other index l n c 0 other

  -- what holds of the page that is added holds of all
  all_down : (P : ℕ → ℕ → ℕ → Type 0) → P l at c → ((n : ℕ) → l < n → n ≤ levels → P n (get_or pages n 0) (get_or index n 0)) → (n : ℕ) → m < n → n ≤ levels → P n (get_or (set pages l at) n 0) (get_or (set index l c) n 0)
  all_down P here above n from below = elim (cases_eq n l) [
    | inl same ↦ rw (page_same n same, index_same n same, same) here
    | inr other ↦ rw (page_other n other, index_other n other) (above n (omega (arith, from, other, next)) below)
  ]

  pub met_down : IsMetPath k b levels m root (set pages l at) (set index l c)
  met_down = record {
    met = all_down (λ n p i. Meets k b n p) met path.met;
    form = all_down (λ n p i. IsInnerForm k (page_at b p)) form path.form;
    chosen = all_down (λ n p i. i ≤ filled (page_at b p)) inside path.chosen;
    top = λ less. elim (cases_eq levels l) [
      | inl same ↦ page_same levels same ∙ starts (sym same)
      | inr other ↦ page_other levels other ∙ path.top (omega (arith, other, most))
    ];
  }

-- the pages of the path lie in the memory
pub path_inside : (l m levels bound at : ℕ) (paths : List ℕ) → l ≡ m + 1 → at < bound → l < length paths → ((n : ℕ) → l < n → n ≤ levels → get_or paths n 0 < bound) → (n : ℕ) → m < n → n ≤ levels → get_or (set paths l at) n 0 < bound
path_inside l m levels bound at paths next here long above n from below = elim (cases_eq n l) [
  | inl same ↦ omega (arith, here, ap (λ (i : ℕ). get_or (set paths l at) i 0) same, get_or-set_same paths l at 0 long)
  | inr other ↦ omega (arith, get_or-set_other paths l n at 0 other, above n (omega (arith, from, other, next)) below)
]

-- a page that is met and is not what its level asks
pub inner_broken : (e k pages : ℕ) (b : List ℕ) (l at : ℕ) → Meets k b l at → 1 < l → ¬ IsInnerForm k (page_at b at) → Breaks e k pages b at
inner_broken e k pages b l at met some unlike = Breaks.level l met (omega (arith, some)) (λ form. unlike (form.inner some))

pub leaf_broken : (e k pages : ℕ) (b : List ℕ) (l at : ℕ) → l ≡ 1 → Meets k b l at → ¬ IsLeafForm e (page_at b at) → Breaks e k pages b at
leaf_broken e k pages b l at one met unlike = Breaks.level l met (omega (arith, one)) (λ form. unlike (form.leaf one))

pub link_broken : (e k pages : ℕ) (b : List ℕ) (l at i child : ℕ) → Meets k b l at → 1 < l → IsInnerForm k (page_at b at) → i ≤ filled (page_at b at) → child ≡ link_at k (page_at b at) i → (child ≡ 0) ⊎ (pages ≤ child) → Breaks e k pages b at
link_broken e k pages b l at i child met some form inside is outside = Breaks.link l i met some form inside (subst (λ (q : ℕ). (q ≡ 0) ⊎ (pages ≤ q)) is outside)

-- the end of the path
pub met_end : (k : ℕ) (b : List ℕ) (levels l root : ℕ) (pages index : List ℕ) (at : ℕ) → l ≡ 1 → Meets k b l at → IsMetPath k b levels l root pages index → Meets k b 1 at × IsMetPath k b levels 1 root pages index
met_end k b levels l root pages index at one met path = (subst (λ (m : ℕ). Meets k b m at) one met, subst (λ (m : ℕ). IsMetPath k b levels m root pages index) one path)
