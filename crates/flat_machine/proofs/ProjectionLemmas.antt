-- Spans of the projection.
use Rattle.std.proofs.Common.{◌≡◌, ◌≢◌, ◌⊎◌, inl, inr, ℕ, zero, suc, ◌+◌, ◌<◌, ◌≤◌, List, [], ◌∷◌, Option, Some, None, refl, sym, ◌∙◌, ap, subst, arith}
use Rattle.std.specs.Prelude.{slice_get}
use Rattle.std.proofs.lemmas.Bool.{cases_lt, cases_eq}
use Rattle.std.proofs.lemmas.Option.{same_Some, none-some}
use Rattle.flat_machine.specs.Space.{Space, root_pages}
use Rattle.flat_machine.specs.Projection.{Span, View, view_at, IsProjectionFrom, IsMaximalFrom, end_of}
use Rattle.flat_machine.specs.Laws.{ProjectionIsUnique, ProjectionCovers, ProjectionExists}

same_span : (i j : Span) → i.first ≡ j.first → i.pages ≡ j.pages → i.view ≡ j.view → i ≡ j
same_span i j f p v = λ t. record { first = f t; pages = p t; view = v t }

-- the longer of two maximal spans would go on where the shorter one ends
no_longer : (spaces : List Space) (page : ℕ) (i j : Span) → IsMaximalFrom spaces page i → IsMaximalFrom spaces page j
    → i.view ≡ j.view → end_of i < end_of j → ⊥
no_longer spaces page i j a b v l =
    let in_root : end_of i < root_pages = omega (arith, b.in_root) in
    let low : page ≤ end_of i = omega (arith, a.begins) in
    a.maximal in_root (b.one_view (end_of i) low l ∙ sym v)

one_span : (spaces : List Space) (page : ℕ) (i j : Span) → IsMaximalFrom spaces page i → IsMaximalFrom spaces page j → i ≡ j
one_span spaces page i j a b =
    let here_i : page < end_of i = omega (arith, a.begins, a.not_empty) in
    let here_j : page < end_of j = omega (arith, b.begins, b.not_empty) in
    let low : page ≤ page = omega arith in
    let v : i.view ≡ j.view = sym (a.one_view page low here_i) ∙ b.one_view page low here_j in
    let not_over : end_of i < end_of j → ⊥ = no_longer spaces page i j a b v in
    let not_under : end_of j < end_of i → ⊥ = no_longer spaces page j i b a (sym v) in
    let p : i.pages ≡ j.pages = omega (arith, a.begins, b.begins, not_over, not_under) in
    same_span i j (a.begins ∙ sym b.begins) p v

unique_from : (spaces : List Space) (page : ℕ) (is js : List Span) → IsProjectionFrom spaces page is → IsProjectionFrom spaces page js → is ≡ js
unique_from spaces page [] [] a b = refl
unique_from spaces page [] (j ∷ js) a b = absurd (omega (arith, a, b.0.begins, b.0.not_empty, b.0.in_root))
unique_from spaces page (i ∷ is) [] a b = absurd (omega (arith, b, a.0.begins, a.0.not_empty, a.0.in_root))
unique_from spaces page (i ∷ is) (j ∷ js) a b =
    let e : i ≡ j = one_span spaces page i j a.0 b.0 in
    let P : Span → Type 0 = λ k. IsProjectionFrom spaces (end_of k) js in
    let rest : is ≡ js = unique_from spaces (end_of i) is js a.1 (subst P (sym e) b.1) in
    λ t. e t ∷ rest t

pub projection_is_unique : ProjectionIsUnique
projection_is_unique spaces is js a b = unique_from spaces 0 is js a b

-- Each page of the root is in a span.

covers_from : (spaces : List Space) (page : ℕ) (is : List Span) → IsProjectionFrom spaces page is → (p : ℕ) → page ≤ p → p < root_pages
    → (k : ℕ) × (i : Span) × (slice_get is k ≡ Some i) × (i.first ≤ p) × (p < end_of i)
covers_from spaces page [] at p low high = absurd (omega (arith, at, low, high))
covers_from spaces page (i ∷ is) at p low high = either (cases_lt p (end_of i)) (λ l. covers_from spaces (end_of i) is at.1 p l high)
  where
    either : (p < end_of i) ⊎ (end_of i ≤ p) → (end_of i ≤ p → (k : ℕ) × (j : Span) × (slice_get is k ≡ Some j) × (j.first ≤ p) × (p < end_of j))
        → (k : ℕ) × (j : Span) × (slice_get (i ∷ is) k ≡ Some j) × (j.first ≤ p) × (p < end_of j)
    either (inl l) late = (0, i, refl, omega (arith, at.0.begins, low), l)
    either (inr l) late = let r = late l in (suc r.0, r.1, r.2, r.3, r.4)

pub projection_covers : ProjectionCovers
projection_covers spaces is h p l = covers_from spaces 0 is h p (omega arith) l

-- There is a projection.

same_number : (o p : Option ℕ) → (o ≡ p) ⊎ (o ≢ p)
same_number None None = inl refl
same_number None (Some b) = inr (λ e. none-some b e)
same_number (Some a) None = inr (λ e. none-some a (sym e))
same_number (Some a) (Some b) = either (cases_eq a b)
  where
    either : (a ≡ b) ⊎ (a ≢ b) → (Some a ≡ Some b) ⊎ (Some a ≢ Some b)
    either (inl e) = inl (ap Some e)
    either (inr n) = inr (λ e. n (same_Some a b e))

same_view : (u v : View) → (u ≡ v) ⊎ (u ≢ v)
same_view u v = either (same_number u.innermost_handle v.innermost_handle) (same_number u.mapped_handle v.mapped_handle)
  where
    either : (u.innermost_handle ≡ v.innermost_handle) ⊎ (u.innermost_handle ≢ v.innermost_handle) → (u.mapped_handle ≡ v.mapped_handle) ⊎ (u.mapped_handle ≢ v.mapped_handle)
        → (u ≡ v) ⊎ (u ≢ v)
    either (inl e) (inl f) = inl (λ t. record { innermost_handle = e t; mapped_handle = f t })
    either (inr n) f = inr (λ e. n (ap (λ (w : View). w.innermost_handle) e))
    either (inl e) (inr n) = inr (λ f. n (ap (λ (w : View). w.mapped_handle) f))

module _ (spaces : List Space) where
  -- one page alone, before spans of other views
  alone : (page : ℕ) (is : List Span) → page < root_pages → IsProjectionFrom spaces (page + 1) is
      → (page + 1 < root_pages → view_at spaces (page + 1) ≢ view_at spaces page) → (js : List Span) × IsProjectionFrom spaces page js
  alone page is l rest other =
      let i : Span = record { first = page; pages = 1; view = view_at spaces page } in (
        i ∷ is,
        (
          record {
            begins = refl;
            not_empty = omega arith;
            in_root = omega (arith, l);
            one_view = λ p low high. let e : page ≡ p = omega (arith, low, high) in ap (λ (n : ℕ). view_at spaces n) (sym e);
            maximal = other;
          },
          rest,
        ),
      )

  -- one page more, before a span of its view
  longer : (page : ℕ) (j : Span) (js : List Span) → page < root_pages → IsMaximalFrom spaces (page + 1) j → IsProjectionFrom spaces (end_of j) js → view_at spaces page ≡ j.view
      → (ks : List Span) × IsProjectionFrom spaces page ks
  longer page j js l at rest e =
      let i : Span = record { first = page; pages = j.pages + 1; view = j.view } in
      let ends : end_of j ≡ end_of i = omega (arith, at.begins) in (
        i ∷ js,
        (
          record {
            begins = refl;
            not_empty = omega arith;
            in_root = omega (arith, at.in_root, ends);
            one_view = λ p low high. by p low high (cases_eq page p);
            maximal = λ k. subst (λ (n : ℕ). n < root_pages → view_at spaces n ≢ j.view) ends at.maximal k;
          },
          subst (λ (n : ℕ). IsProjectionFrom spaces n js) ends rest,
        ),
      )
    where
      by : (p : ℕ) → page ≤ p → p < page + (j.pages + 1) → (page ≡ p) ⊎ (page ≢ p) → view_at spaces p ≡ j.view
      by p low high (inl q) = ap (λ (n : ℕ). view_at spaces n) (sym q) ∙ e
      by p low high (inr q) = at.one_view p (omega (arith, low, q)) (omega (arith, high, at.begins))

  exists_from : (n page : ℕ) → page + n ≡ root_pages → (is : List Span) × IsProjectionFrom spaces page is
  exists_from zero page e = ([], omega (arith, e))
  exists_from (suc n) page e = add (exists_from n (page + 1) (omega (arith, e)))
    where
      add : (is : List Span) × IsProjectionFrom spaces (page + 1) is → (js : List Span) × IsProjectionFrom spaces page js
      add ([], at) = alone page [] (omega (arith, e)) at (λ l. absurd (omega (arith, at, l)))
      add (j ∷ js, at) = either (same_view (view_at spaces page) j.view)
        where
          either : (view_at spaces page ≡ j.view) ⊎ (view_at spaces page ≢ j.view) → (ks : List Span) × IsProjectionFrom spaces page ks
          either (inl q) = longer page j js (omega (arith, e)) at.0 at.1 q
          either (inr q) = alone page (j ∷ js) (omega (arith, e)) at
              (λ l f. q (sym f ∙ at.0.one_view (page + 1) (omega arith) (omega (arith, at.0.begins, at.0.not_empty))))

pub projection_exists : ProjectionExists
projection_exists spaces = exists_from spaces root_pages 0 (omega arith)
