-- Marks of the pages that were met.
use Rattle.std.proofs.Common.{◌≡◌, inl, inr, ℕ, suc, ◌+◌, ◌<◌, ◌≤◌, Bool, true, false, List, [], length, take, get_or, set, replicate, refl, sym, ◌∙◌, ap, arith}
use Rattle.std.proofs.lemmas.Bool.{cases_lt, cases_eq, true≢false}
use Rattle.std.proofs.lemmas.List.{get_or-set_same, get_or-set_other, get_or-replicate, length-set, length-replicate}
use Rattle.std.proofs.lemmas.List.Sums.{sum_by_more, sum_by-take-le}
use Rattle.page_tree.specs.Tree.{one_at, frees}
use Rattle.volume_view.specs.Walk.{AreUsedOnce}
use Rattle.volume_view.specs.Marks.{mark_at, AreMarks}
use Rattle.volume_view.proofs.FormedLemmas.{mark, unmarked}

pub new_marks : (top n : ℕ) (marks : List Bool) → n ≡ suc top → marks ≡ set (replicate n false) 0 true → AreMarks top [] marks
new_marks top n marks many is =
    let long : length (replicate n false) ≡ suc top = length-replicate n false ∙ many in
    let first : mark_at marks 0 ≡ true = ap (λ (l : List Bool). mark_at l 0) is ∙ get_or-set_same (replicate n false) 0 true false (omega (arith, long)) in
    record {
      long = ap length is ∙ length-set (replicate n false) 0 true ∙ long;
      first = first;
      header = refl;
      marked = λ q some most set_there.
          let none = ap (λ (l : List Bool). mark_at l q) is ∙ get_or-set_other (replicate n false) 0 q true false (λ same. omega (arith, same, some)) ∙ get_or-replicate n q false false (omega (arith, most, many)) in
          absurd (true≢false (sym set_there ∙ none));
      unmarked = λ q some most set_there. refl;
      past = λ q above. refl;
    }

module _ (top : ℕ) (used : List ℕ) (j : ℕ) (below : j < length used) (marks : List Bool) (is : AreMarks top (take j used) marks) where
  abbrev pub page : ℕ
  page = get_or used j 0

  more : (q : ℕ) → frees q (take (j + 1) used) ≡ frees q (take j used) + one_at page q
  more q = sum_by_more (λ (p : ℕ). one_at p q) used j 0 below

  within : (q : ℕ) → frees q (take (j + 1) used) ≤ frees q used
  within q = sum_by-take-le (λ (p : ℕ). one_at p q) used (j + 1)

  -- the next page, which has no mark yet
  pub marked_more : page ≤ top → mark_at marks page ≡ false → AreMarks top (take (j + 1) used) (set marks page true)
  marked_more most free_mark =
      let some : 1 ≤ page = elim (cases_lt 0 page) [
        | inl above ↦ above
        | inr none ↦ let at : page ≡ 0 = omega (arith, none) in absurd (true≢false (sym is.first ∙ ap (mark_at marks) (sym at) ∙ free_mark))
      ] in
      record {
        long = length-set marks page true ∙ is.long;
        first = get_or-set_other marks page 0 true false (λ same. omega (arith, same, some)) ∙ is.first;
        header = let apart = unmarked page 0 (λ same. omega (arith, same, some)) in omega (arith, more 0, apart, is.header);
        marked = λ q q_some q_most set_there. elim (cases_eq q page) [
          | inl same ↦
              let none = is.unmarked page some most free_mark in
              let one = mark page q (sym same) in
              let at = ap (λ (p : ℕ). frees p (take j used)) same in
              omega (arith, more q, one, at, none)
          | inr other ↦
              let before = is.marked q q_some q_most (sym (get_or-set_other marks page q true false other) ∙ set_there) in
              let apart = unmarked page q (λ same. other (sym same)) in
              omega (arith, more q, apart, before)
        ];
        unmarked = λ q q_some q_most none_there. elim (cases_eq q page) [
          | inl same ↦
              let there : mark_at (set marks page true) q ≡ true = ap (mark_at (set marks page true)) same ∙ get_or-set_same marks page true false (omega (arith, most, is.long)) in
              absurd (true≢false (sym there ∙ none_there))
          | inr other ↦
              let before = is.unmarked q q_some q_most (sym (get_or-set_other marks page q true false other) ∙ none_there) in
              let apart = unmarked page q (λ same. other (sym same)) in
              omega (arith, more q, apart, before)
        ];
        past = λ q above.
            let apart = unmarked page q (λ same. omega (arith, same, above, most)) in
            omega (arith, more q, apart, is.past q above);
      }

  -- a page above all, and one that has a mark
  pub above_all : top < page → AreUsedOnce top used → ⊥
  above_all above once =
      let one = mark page page refl in
      omega (arith, once.past page above, more page, one, within page)

  pub met_again : page ≤ top → mark_at marks page ≡ true → AreUsedOnce top used → ⊥
  met_again most set_mark once =
      let one = mark page page refl in
      elim (cases_lt 0 page) [
        | inl some ↦ omega (arith, once.once page some most, is.marked page some most set_mark, more page, one, within page)
        | inr none ↦
            let at : page ≡ 0 = omega (arith, none) in
            let zero_one = mark page 0 at in
            omega (arith, once.header, more 0, zero_one, within 0)
      ]

-- all marks are set
pub all_once : (top : ℕ) (used : List ℕ) (marks : List Bool) → AreMarks top used marks → top ≡ length used → ((q : ℕ) → q < length marks → mark_at marks q ≡ true) → AreUsedOnce top used
all_once top used marks is count all = record {
  once = λ q some most. is.marked q some most (all q (omega (arith, most, is.long)));
  header = is.header;
  past = is.past;
  counted = count;
}

pub one_missing : (top : ℕ) (used : List ℕ) (marks : List Bool) (q : ℕ) → AreMarks top used marks → q < length marks → mark_at marks q ≡ false → AreUsedOnce top used → ⊥
one_missing top used marks q is below none once = elim (cases_lt 0 q) [
  | inl some ↦ omega (arith, once.once q some (omega (arith, below, is.long)), is.unmarked q some (omega (arith, below, is.long)) none)
  | inr zero_q ↦ let at : q ≡ 0 = omega (arith, zero_q) in true≢false (sym is.first ∙ ap (mark_at marks) (sym at) ∙ none)
]
