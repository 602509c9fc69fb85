-- Two files that are compared: their sizes, and each page.
use Rattle.std.proofs.Common.{◌≡◌, ◌≢◌, inl, inr, ℕ, zero, suc, ◌+◌, ◌<◌, ◌≤◌, Bool, true, false, List, [], ◌∷◌, map, length, Option, Some, None, Result, Ok, Err, refl, sym, ◌∙◌, ap, subst, arith, ◌*◌}
use Rattle.std.specs.Prelude.{slice_get, option_map, ◌==◌, if◌then◌else◌, min}
use Rattle.std.specs.Option.{option_map_or}
use Rattle.std.proofs.lemmas.Bool.{cases_eq, cases_lt, eqb-false, eqb-true}
use Rattle.std.proofs.lemmas.Option.{same_Some, none-some, slice_get_within}
use Rattle.labelled_disk.specs.declared.evidence.Halt.{Halt}
use Rattle.labelled_disk.specs.File.{Cell, File, byte, file_at, size}
use Rattle.labelled_disk.specs.Sectors.{Sector}
use Rattle.filer_kernel.specs.View.{View}
use Rattle.session_words.specs.Parts.{shape_of, shapes_of}
use Rattle.session_words.proofs.SettledLemmas.{shape_at}
use Rattle.file_manager.specs.declared.attributes.Attributes.{Attributes}
use Rattle.file_manager.specs.Attributes.{IsAttributesOf}
use Rattle.pair_machine.specs.declared.call.PairReply.{PairReply}
use Rattle.pair_machine.specs.declared.call.PairReply.TheVariants as reply
use Rattle.pair_machine.specs.declared.call.PairCall.TheVariants.{Compare}
use Rattle.pair_machine.specs.declared.call.PairRefusal.TheVariants as why
use Rattle.pair_machine.specs.Pair.{AllowsPair, IsFirstDifference, Pair}
use Rattle.volume_pair.specs.Comparing.{AnswersCompare, AreSameBelow, AreSizes, IsDifference, IsSamePage, IsSizeIn, LackOne, compare_reply}
use Rattle.volume_pair.specs.Sides.{HasPageBytes, IsLookedAt, IsSide}
use Rattle.volume_pair.proofs.CostLemmas.{spends_none, spends_page}
use Rattle.volume_pair.proofs.ReplyLemmas.{allows_others, allows_refused}
use Rattle.volume_pair.proofs.SideLemmas.{looked_nothing, looked_then, side_cells}

-- what is revealed of a file is that of the list's
pub has_file : (fs : List File) (id : ℕ) (a : Attributes) → IsAttributesOf (shapes_of fs id) (Some a) → (f : File) × (file_at fs id ≡ Some f) × (a.pages ≡ size f)
has_file fs id a is =
    let g = shape_at fs id _ is in
    (g.0, g.1, sym (ap (λ s. s.size) g.2))

-- or the list has none
pub has_none : (fs : List File) (id : ℕ) → IsAttributesOf (shapes_of fs id) None → file_at fs id ≡ None
has_none fs id is = either (file_at fs id) refl
  where
    either : (o : Option File) → file_at fs id ≡ o → file_at fs id ≡ None
    either None e = e
    either (Some f) e = absurd (none-some (shape_of f) (sym is ∙ ap (λ (o : Option File). option_map shape_of o) e))

pub first_lacks : (fs gs : List File) (id : ℕ) → file_at fs id ≡ None → LackOne fs gs id
first_lacks fs gs id none f g both = none-some f (sym none ∙ both.from)

pub second_lacks : (fs gs : List File) (id : ℕ) → file_at gs id ≡ None → LackOne fs gs id
second_lacks fs gs id none f g both = none-some g (sym none ∙ both.to)

pub both_have : (fs gs : List File) (id m n : ℕ) → IsSizeIn fs id (Some m) → IsSizeIn gs id (Some n) → AreSizes fs gs id (Some (m, n))
both_have fs gs id m n first second = (first.0, second.0, record { from = first.1; to = second.1 }, first.2, second.2)

-- no file below identifier 16 is revealed
pub some_client : {P : Type 0} (id : ℕ) (result : Result (Option Attributes) Halt) (a : Attributes) → result ≡ Ok (Some a) → (id < 16 → (result ≡ Ok None) × P) → 16 ≤ id
some_client id result a is reserved = elim (cases_lt id 16) [
  | inl low ↦ absurd (none_not (sym (reserved low).0 ∙ is))
  | inr high ↦ high
]
  where
    none_not : ◌≡◌ {A = Result (Option Attributes) Halt} (Ok None) (Ok (Some a)) → ⊥
    none_not same = none-some a (ap value same)
      where
        value : Result (Option Attributes) Halt → Option Attributes
        value (Ok o) = o
        value (Err e) = None

-- bytes are the same where their cells are
same_bytes : (xs ys : List ℕ) → map byte xs ≡ map byte ys → xs ≡ ys
same_bytes [] [] same = refl
same_bytes [] (y ∷ ys) same = absurd (none-some (byte y) (ap (λ (l : List Cell). slice_get l 0) same))
same_bytes (x ∷ xs) [] same = absurd (none-some (byte x) (sym (ap (λ (l : List Cell). slice_get l 0) same)))
same_bytes (x ∷ xs) (y ∷ ys) same =
    let first : x ≡ y = same_Some x y (same_Some (byte x) (byte y) (ap (λ (l : List Cell). slice_get l 0) same)) in
    let rest : map byte xs ≡ map byte ys = ap (λ (l : List Cell). tail l) same in
    (λ i. first i ∷ same_bytes xs ys rest i)
  where
    tail : List Cell → List Cell
    tail [] = []
    tail (c ∷ cs) = cs

-- a page of both files, as it was read
module _ (f g : File) (page : ℕ) (here there : List ℕ) (first : slice_get f.pages page ≡ Some (map byte here)) (second : slice_get g.pages page ≡ Some (map byte there)) where
  pub page_same : here ≡ there → slice_get f.pages page ≡ slice_get g.pages page
  page_same same = first ∙ ap (λ (b : List ℕ). Some (map byte b)) same ∙ sym second

  pub page_differs : here ≢ there → slice_get f.pages page ≢ slice_get g.pages page
  page_differs other same = other (same_bytes here there (same_Some (map byte here) (map byte there) (sym first ∙ same ∙ second)))

-- one page more is the same
pub same_below_more : (f g : File) (page : ℕ) → AreSameBelow f g page → IsSamePage f g page true → AreSameBelow f g (page + 1)
same_below_more f g page below same k under = elim (cases_eq k page) [
  | inl is ↦ subst (λ (j : ℕ). slice_get f.pages j ≡ slice_get g.pages j) (sym is) same
  | inr other ↦ below k (omega (arith, under, other))
]

-- ---- The answer.

beyond : {X : Type 0} (xs : List X) (k : ℕ) → length xs ≤ k → slice_get xs k ≡ None
beyond {X} xs k past = either (slice_get xs k) refl
  where
    either : (o : Option X) → slice_get xs k ≡ o → slice_get xs k ≡ None
    either None e = e
    either (Some x) e = let within = slice_get_within xs k x e in absurd (omega (arith, within, past))

same_lists : {X : Type 0} (xs ys : List X) → ((k : ℕ) → slice_get xs k ≡ slice_get ys k) → xs ≡ ys
same_lists [] [] same = refl
same_lists [] (y ∷ ys) same = absurd (none-some y (same 0))
same_lists (x ∷ xs) [] same = absurd (none-some x (sym (same 0)))
same_lists (x ∷ xs) (y ∷ ys) same = (λ i. same_Some x y (same 0) i ∷ same_lists xs ys (λ k. same (suc k)) i)

-- all pages are the same
pub all_same : (f g : File) (n : ℕ) → size f ≡ n → size g ≡ n → AreSameBelow f g n → f.pages ≡ g.pages
all_same f g n first second below = same_lists f.pages g.pages each
  where
    each : (k : ℕ) → slice_get f.pages k ≡ slice_get g.pages k
    each k = elim (cases_lt k n) [
      | inl under ↦ below k under
      | inr past ↦ beyond f.pages k (omega (arith, first, past)) ∙ sym (beyond g.pages k (omega (arith, second, past)))
    ]

-- the shorter one misses a page that the other has
pub sizes_differ : (f g : File) (n : ℕ) → n ≡ min (size f) (size g) → size f ≢ size g → AreSameBelow f g n → IsFirstDifference f g n
sizes_differ f g n least other below = record { differs = differ; below = below }
  where
    there_is : {X : Type 0} (xs : List X) (k : ℕ) → k < length xs → (x : X) × (slice_get xs k ≡ Some x)
    there_is [] k under = absurd (omega (arith, under))
    there_is (x ∷ xs) zero under = (x, refl)
    there_is (x ∷ xs) (suc k) under = there_is xs k (omega (arith, under))

    differ : slice_get f.pages n ≢ slice_get g.pages n
    differ same = elim (cases_lt (size f) (size g)) [
      | inl shorter ↦
          let q = there_is g.pages n (omega (arith, least, shorter)) in
          none-some q.0 (sym (beyond f.pages n (omega (arith, least, shorter))) ∙ same ∙ q.1)
      | inr longer ↦
          let q = there_is f.pages n (omega (arith, least, longer, other)) in
          none-some q.0 (sym (beyond g.pages n (omega (arith, least, longer))) ∙ sym same ∙ q.1)
    ]

-- ---- Page by page.

-- both pages were read
pub read_both : (v w : View) (fs gs : List File) (x y : List Sector) (id page : ℕ) (f g : File) (here there : List ℕ) (same : Bool) → IsSide v fs x → IsSide w gs y → file_at fs id ≡ Some f → file_at gs id ≡ Some g → page < size f → page < size g
    → HasPageBytes x id page here → HasPageBytes y id page there → (same ≡ true → here ≡ there) → (same ≡ false → here ≢ there) → IsSamePage f g page same
read_both v w fs gs x y id page f g here there same from to in_from in_to below under first second is other =
    let a = side_cells v fs x id page here f from in_from below first in
    let b = side_cells w gs y id page there g to in_to under second in
    either same refl a b
  where
    either : (b : Bool) → same ≡ b → slice_get f.pages page ≡ Some (map byte here) → slice_get g.pages page ≡ Some (map byte there) → IsSamePage f g page b
    either true e a b = page_same f g page here there a b (is e)
    either false e a b = page_differs f g page here there a b (other e)

-- The pages up to this one are the same, and both sides were looked at alone.
pub record AreSameUpTo (id page : ℕ) (from0 to0 from to : View) : Type 0 where
  pub from_looks : IsLookedAt from0 from
  pub to_looks : IsLookedAt to0 to
  pub from_spends : from.disk.transfers ≤ from0.disk.transfers + 15 * page
  pub to_spends : to.disk.transfers ≤ to0.disk.transfers + 15 * page
  pub same : (fs gs : List File) (x y : List Sector) → IsSide from0 fs x → IsSide to0 gs y → IsSide from fs x × IsSide to gs y
      × ((f g : File) → file_at fs id ≡ Some f → file_at gs id ≡ Some g → page ≤ size f → page ≤ size g → AreSameBelow f g page)

pub same_none : (id : ℕ) (from to : View) → AreSameUpTo id 0 from to from to
same_none id from to = record {
  from_looks = looked_nothing from;
  to_looks = looked_nothing to;
  from_spends = spends_none from.disk.transfers;
  to_spends = spends_none to.disk.transfers;
  same = λ fs gs x y first second. (first, second, λ f g a b c d k below. absurd (omega (arith, below)));
}

module _ (id page : ℕ) {from0 to0 from to from1 to1 : View} (h : AreSameUpTo id page from0 to0 from to) where
  pub same_one : {b : Bool} → b ≡ true → IsLookedAt from from1 → IsLookedAt to to1 → from1.disk.transfers ≤ from.disk.transfers + 15 → to1.disk.transfers ≤ to.disk.transfers + 15
      → ((fs gs : List File) (x y : List Sector) → IsSide from fs x → IsSide to gs y → IsSide from1 fs x × IsSide to1 gs y
      × ((f g : File) → file_at fs id ≡ Some f → file_at gs id ≡ Some g → page < size f → page < size g → IsSamePage f g page b))
      → AreSameUpTo id (page + 1) from0 to0 from1 to1
  same_one is from_looks to_looks from_cost to_cost step = record {
    from_looks = looked_then h.from_looks from_looks;
    to_looks = looked_then h.to_looks to_looks;
    from_spends = spends_page from0.disk.transfers from.disk.transfers from1.disk.transfers page h.from_spends from_cost;
    to_spends = spends_page to0.disk.transfers to.disk.transfers to1.disk.transfers page h.to_spends to_cost;
    same = λ fs gs x y first second.
        let now = h.same fs gs x y first second in
        let then_ = step fs gs x y now.0 now.1 in (
          then_.0,
          then_.1,
          λ f g a b c d.
              same_below_more f g page (now.2 f g a b (omega (arith, c)) (omega (arith, d))) (subst (IsSamePage f g page) is (then_.2 f g a b (omega (arith, c)) (omega (arith, d)))),
        );
  }

  -- a page that differs is the first
  pub this_differs : {b : Bool} → b ≡ false → (pages : ℕ) → page < pages
      → ((fs gs : List File) (x y : List Sector) → IsSide from fs x → IsSide to gs y → IsSide from1 fs x × IsSide to1 gs y
      × ((f g : File) → file_at fs id ≡ Some f → file_at gs id ≡ Some g → page < size f → page < size g → IsSamePage f g page b))
      → (fs gs : List File) (x y : List Sector) → IsSide from0 fs x → IsSide to0 gs y → IsSide from1 fs x × IsSide to1 gs y
      × ((f g : File) → file_at fs id ≡ Some f → file_at gs id ≡ Some g → pages ≤ size f → pages ≤ size g → IsDifference f g pages (Some page))
  this_differs is pages below step fs gs x y first second =
      let now = h.same fs gs x y first second in
      let then_ = step fs gs x y now.0 now.1 in (
        then_.0,
        then_.1,
        λ f g a b c d.
            (below, subst (IsSamePage f g page) is (then_.2 f g a b (omega (arith, c, below)) (omega (arith, d, below))), now.2 f g a b (omega (arith, c, below)) (omega (arith, d, below))),
      )

  -- a halt
  pub stopped_at : {P : Type 0} (pages : ℕ) → page < pages
      → ((fs gs : List File) (x y : List Sector) → IsSide from fs x → IsSide to gs y → IsSide from1 fs x × IsSide to1 gs y
      × ((f g : File) → file_at fs id ≡ Some f → file_at gs id ≡ Some g → page < size f → page < size g → P))
      → (fs gs : List File) (x y : List Sector) → IsSide from0 fs x → IsSide to0 gs y → IsSide from1 fs x × IsSide to1 gs y
      × ((f g : File) → file_at fs id ≡ Some f → file_at gs id ≡ Some g → pages ≤ size f → pages ≤ size g → P)
  stopped_at pages below step fs gs x y first second =
      let now = h.same fs gs x y first second in
      let then_ = step fs gs x y now.0 now.1 in
      (then_.0, then_.1, λ f g a b c d. then_.2 f g a b (omega (arith, c, below)) (omega (arith, d, below)))

-- ---- The answer of a comparison.

pub lacks_answer : (fs gs : List File) (id : ℕ) → AreSizes fs gs id None → AnswersCompare fs gs id (reply.Refused why.File)
lacks_answer fs gs id lacks = inl (lacks, refl)

module _ (fs gs : List File) (id m n : ℕ) (sizes : AreSizes fs gs id (Some (m, n))) where
  -- by the first page that differs, and the sizes
  pub difference_answer : (least : ℕ) → least ≡ min m n → (d : Option ℕ) → ((f g : File) → file_at fs id ≡ Some f → file_at gs id ≡ Some g → least ≤ size f → least ≤ size g → IsDifference f g least d) → AnswersCompare fs gs id (compare_reply d m n)
  difference_answer least is (Some page) found =
      let first = sizes.3 in
      let second = sizes.4 in
      let d = found sizes.0 sizes.1 sizes.2.from sizes.2.to (omega (arith, is, first)) (omega (arith, is, second)) in
      inr (sizes.0, sizes.1, sizes.2, record { differs = d.1; below = d.2 })
  difference_answer least is None found =
      let first = sizes.3 in
      let second = sizes.4 in
      let below = found sizes.0 sizes.1 sizes.2.from sizes.2.to (omega (arith, is, first)) (omega (arith, is, second)) in
      either (m == n) refl (subst (AreSameBelow sizes.0 sizes.1) is below)
    where
      either : (b : Bool) → (m == n) ≡ b → AreSameBelow sizes.0 sizes.1 (min m n) → AnswersCompare fs gs id (if b then reply.Same else reply.Differs (min m n))
      either true e below =
          let equal = eqb-true m n e in
          let first = sizes.3 in
          let second = sizes.4 in
          inr (sizes.0, sizes.1, sizes.2, all_same sizes.0 sizes.1 (min m n) (omega (arith, first, second, equal)) (omega (arith, first, second, equal)) below)
      either false e below =
          let first = sizes.3 in
          let second = sizes.4 in
          inr (sizes.0, sizes.1, sizes.2, sizes_differ sizes.0 sizes.1 (min m n) (omega (arith, first, second)) (λ q. eqb-false m n e (first ∙ q ∙ sym second)) below)

  -- a halt came
  pub halted_first : {P : Type 0} (least : ℕ) → least ≡ min m n → ((f g : File) → file_at fs id ≡ Some f → file_at gs id ≡ Some g → least ≤ size f → least ≤ size g → P) → P
  halted_first least is found =
      let first = sizes.3 in
      let second = sizes.4 in
      found sizes.0 sizes.1 sizes.2.from sizes.2.to (omega (arith, is, first)) (omega (arith, is, second))

-- ---- What the machine allows.

pub compare_allowed : (p : Pair) (id : ℕ) (r : PairReply) → AnswersCompare p.from p.to id r → AllowsPair p (Compare id) r
compare_allowed p id r (inl (lacks, is)) = either (file_at p.from id) refl (file_at p.to id) refl
  where
    either : (a : Option File) → file_at p.from id ≡ a → (b : Option File) → file_at p.to id ≡ b → AllowsPair p (Compare id) r
    either None e b k = subst (λ (s : PairReply). AllowsPair p (Compare id) s) (sym is) (allows_refused p (Compare id) why.File (ap (λ (o : Option File). option_map_or (λ f. option_map_or (λ g. None) (file_at p.to id) (Some why.File)) o (Some why.File)) e))
    either (Some f) e None k = subst (λ (s : PairReply). AllowsPair p (Compare id) s) (sym is) (allows_refused p (Compare id) why.File
        ((λ i. option_map_or (λ f. option_map_or (λ g. None) (k i) (Some why.File)) (e i) (Some why.File))))
    either (Some f) e (Some g) k = absurd (lacks f g (record { from = e; to = k }))
compare_allowed p id r (inr (f, g, both, compares)) =
    allows_others p (Compare id) r ((λ i. option_map_or (λ f. option_map_or (λ g. None) (both.to i) (Some why.File)) (both.from i) (Some why.File))) (f, g, both.from, both.to, compares)
