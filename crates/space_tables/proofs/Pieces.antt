-- The parts of an interval are put in the place of it, and the tables with a space more.
use Rattle.std.proofs.Common.{◌≡◌, ◌≢◌, ◌⊎◌, inl, inr, ℕ, zero, suc, ◌+◌, ◌-◌, ◌*◌, ◌<◌, ◌≤◌, Bool, true, false, List, [], ◌∷◌, ◌++◌, take, drop, length, Option, Some, None, refl, sym, ◌∙◌, ap, subst, arith, ◌==◌}
use Rattle.std.specs.Prelude.{slice_get, slice_set, not, nat_lt, if◌then◌else◌, Result, Ok, Err, IfErr, min}
use Rattle.std.specs.List.{list_any}
use Rattle.std.specs.Bool.{then_some}
use Rattle.std.proofs.lemmas.Option.{same_Some, none-some, slice_get_past}
use Rattle.std.proofs.lemmas.Bool.{cases_eq, cases_lt}
use Rattle.std.proofs.lemmas.Bool.Decides.{nat_tests}
use Rattle.flat_machine.specs.declared.call.Refusal.TheVariants as why
use Rattle.flat_machine.specs.declared.space.Space.{Space}
use Rattle.flat_machine.specs.Space.{root, space_at, end}
use Rattle.flat_machine.specs.Refusal.{no_size}
use Rattle.flat_machine.specs.Next.{put_space, is_unused, lowest_unused, first_page_for}
use Rattle.flat_machine.proofs.Lists.{find_in, in_any}
use Rattle.projection_laws.specs.Sight.{Interval, end_of}
use Rattle.projection_laws.specs.Slots.{listed, AreNumbered}
use Rattle.projection_laws.specs.Spaces.{MayBeAdded}
use Rattle.projection_laws.specs.Tests.{no_spaces, made}
use Rattle.projection_laws.specs.Edits.{some_pages, replaced, pieces, cut}
use Rattle.projection_laws.proofs.SlotLemmas.{slot_free, slot_written}
use Rattle.projection_laws.proofs.Added.{added_splits}
use Rattle.projection_laws.proofs.Counts.{few_intervals}
use Rattle.projection_laws.proofs.FitLemmas.{windows_stay_fit}
use Rattle.space_tables.specs.declared.error.SpaceError.{SpaceError}
use Rattle.space_tables.specs.declared.error.SpaceError.TheVariants.{Refused, Malformed, Mem}
use Rattle.space_tables.specs.Answer.{IfMem, IfMalformed}
use Rattle.space_tables.specs.Change.{put_in}
use Rattle.space_tables.specs.Scan.{AreTaken, IsLowestFree}
use Rattle.space_tables.specs.Stored.{HoldTables, AreRight, RevealSpaces}
use Rattle.space_tables.proofs.ReadBack.{get_or_at}
use Rattle.space_tables.proofs.Right.{in_list}
use Rattle.space_tables.proofs.Sets.{in_slot}

assoc : (xs ys zs : List Interval) → (xs ++ ys) ++ zs ≡ xs ++ (ys ++ zs)
assoc [] ys zs = refl
assoc (x ∷ xs) ys zs = ap (λ (ws : List Interval). x ∷ ws) (assoc xs ys zs)

around : (xs : List Interval) (k : ℕ) (i m : Interval) (fs bs : List Interval) → slice_get xs k ≡ Some i → put_in (put_in (slice_set xs k m) (suc k) bs) k fs ≡ replaced xs k (fs ++ (m ∷ bs))
around [] k i m fs bs e = absurd (none-some i e)
around (x ∷ xs) zero i m fs bs e = sym (assoc fs (m ∷ bs) xs)
around (x ∷ xs) (suc k) i m fs bs e = ap (λ (ws : List Interval). x ∷ ws) (around xs k i m fs bs e)

-- the one at an index is written over, and others are put in after it and before it
pub put_around : (xs : List Interval) (k : ℕ) (i m : Interval) (fs bs : List Interval) → slice_get xs k ≡ Some i → put_in (put_in (slice_set xs k m) (k + 1) bs) k fs ≡ replaced xs k (fs ++ (m ∷ bs))
put_around xs k i m fs bs e =
    let n : k + 1 ≡ suc k = omega arith in ap (λ (j : ℕ). put_in (put_in (slice_set xs k m) j bs) k fs) n ∙ around xs k i m fs bs e

pub put_none : (xs : List Interval) (k : ℕ) → put_in xs k [] ≡ xs
put_none [] zero = refl
put_none [] (suc k) = refl
put_none (x ∷ xs) zero = refl
put_none (x ∷ xs) (suc k) = ap (λ (ws : List Interval). x ∷ ws) (put_none xs k)

-- ---- how many parts there are

one_part : (i : Interval) → i.pages ≢ 0 → length (some_pages i) ≡ 1
one_part i n = let t : (i.pages == 0) ≡ false = grind (arith, nat_tests) in ap (λ (b : Bool). length (if b then [] else i ∷ [])) t

around_mid : (fs bs : List Interval) (m : Interval) → length (fs ++ (m ∷ bs)) ≡ length fs + length bs + 1
around_mid [] bs m = omega arith
around_mid (f ∷ fs) bs m = let l = around_mid fs bs m in omega (arith, l)

-- so many parts more than one
pub parts_more : (x : Space) (i : Interval) (m : ℕ) → m ≤ 2 → (x.first - i.first ≡ 0 → m ≤ 1) → (end_of i - end x ≡ 0 → m ≤ 1) → (x.first - i.first ≡ 0 → end_of i - end x ≡ 0 → m ≡ 0)
    → m + 1 ≤ length (pieces x i)
parts_more x i m two prefix back none = by (cases_eq (x.first - i.first) 0) (cases_eq (end_of i - end x) 0)
  where
    f : Interval
    f = cut i i.first (x.first - i.first)

    k : Interval
    k = cut i (end x) (end_of i - end x)

    long : length (pieces x i) ≡ length (some_pages f) + length (some_pages k) + 1
    long = around_mid (some_pages f) (some_pages k) _

    by : (x.first - i.first ≡ 0) ⊎ (x.first - i.first ≢ 0) → (end_of i - end x ≡ 0) ⊎ (end_of i - end x ≢ 0) → m + 1 ≤ length (pieces x i)
    by (inl a) (inl d) = let l = long in let n = none a d in omega (arith, l, n)
    by (inl a) (inr d) = let l = long in let o = one_part k d in let n = prefix a in omega (arith, l, o, n)
    by (inr a) (inl d) = let l = long in let o = one_part f a in let n = back d in omega (arith, l, o, n)
    by (inr a) (inr d) = let l = long in let o = one_part f a in let p = one_part k d in omega (arith, l, o, p, two)

-- ---- how many spaces there are

listed_most : (slots : List (Option Space)) → length (listed slots) ≤ length slots
listed_most [] = omega arith
listed_most (None ∷ os) = let l = listed_most os in omega (arith, l)
listed_most (Some s ∷ os) = let l = listed_most os in omega (arith, l)

one_free : (slots : List (Option Space)) (h : ℕ) → slice_get slots h ≡ Some None → length (listed slots) + 1 ≤ length slots
one_free [] h e = absurd (none-some None e)
one_free (None ∷ os) zero e = let l = listed_most os in omega (arith, l)
one_free (Some s ∷ os) zero e = absurd (none-some s (sym (same_Some (Some s) None e)))
one_free (None ∷ os) (suc h) e = let l = one_free os h e in omega (arith, l)
one_free (Some s ∷ os) (suc h) e = let l = one_free os h e in omega (arith, l)

all_listed : (slots : List (Option Space)) → ((j : ℕ) → slice_get slots j ≡ Some None → ⊥) → length (listed slots) ≡ length slots
all_listed [] f = refl
all_listed (None ∷ os) f = absurd (f zero refl)
all_listed (Some s ∷ os) f = ap suc (all_listed os (λ j e. f (suc j) e))

few_spaces : (ss : List Space) → length ss ≤ 511 → no_spaces ss ≡ None
few_spaces ss l = let t : nat_lt 511 (length ss) ≡ false = grind (arith, nat_tests) in ap (λ (b : Bool). then_some b why.Spaces) t

many_spaces : (ss : List Space) → 511 < length ss → no_spaces ss ≡ Some why.Spaces
many_spaces ss l = let t : nat_lt 511 (length ss) ≡ true = grind (arith, nat_tests) in ap (λ (b : Bool). then_some b why.Spaces) t

pub some_size : (pages : ℕ) → pages ≢ 0 → no_size pages ≡ None
some_size pages n = let t : (pages == 0) ≡ false = grind (arith, nat_tests) in ap (λ (b : Bool). then_some b why.Size) t

pub zero_size : (pages : ℕ) → pages ≡ 0 → no_size pages ≡ Some why.Size
zero_size pages e = ap no_size e

module _ (reveals : List ℕ → Type 0) (n : ℕ) (ss : List Space) (t : RevealSpaces reveals n ss) where
  root_stands : slice_get t.slots 0 ≡ Some (Some root)
  root_stands = in_slot reveals n ss t 0 root (ap (λ (rs : List Space). space_at rs 0) (sym t.spaces) ∙ t.right.spaces.has_root)

  pub all_taken : IsLowestFree t.slots None → no_spaces ss ≡ Some why.Spaces
  all_taken taken =
      let all = all_listed t.slots (λ j e. by j e (cases_eq j 0) (cases_lt j 512)) in
      ap no_spaces (sym t.spaces) ∙ many_spaces (listed t.slots) (omega (arith, all, t.hold.are.handles))
    where
      by : (j : ℕ) → slice_get t.slots j ≡ Some None → (j ≡ 0) ⊎ (j ≢ 0) → (j < 512) ⊎ (512 ≤ j) → ⊥
      by j e (inl z) l = none-some root (same_Some None (Some root) (sym e ∙ ap (slice_get t.slots) z ∙ root_stands))
      by j e (inr m) (inl l) = taken j (omega (arith, m)) l e
      by j e (inr m) (inr l) = none-some None (sym (slice_get_past t.slots j (omega (arith, l, t.hold.are.handles))) ∙ e)

  module _ (h : ℕ) (free : IsLowestFree t.slots (Some h)) where
    pub few_listed : length (listed t.slots) ≤ 511
    few_listed = let l = one_free t.slots h free.1 in omega (arith, l, t.hold.are.handles)

    pub one_more : no_spaces ss ≡ None
    one_more = ap no_spaces (sym t.spaces) ∙ few_spaces (listed t.slots) few_listed

    pub few_now : n ≤ 1021
    few_now = let l = few_intervals (listed t.slots) t.xs t.right.spaces t.right.intervals in let f = few_listed in omega (arith, l, f, t.counted)

    used : (j : ℕ) (s : Space) → slice_get t.slots j ≡ Some (Some s) → is_unused (listed t.slots) j ≡ false
    used j s e = let i = find_in (λ s. s.handle == j) (listed t.slots) s (in_list t.slots t.xs t.right j s e) in ap not (in_any (λ s. s.handle == j) (listed t.slots) s i.0 i.1)

    below : (j : ℕ) → j < h → (o : Option Space) → slice_get t.slots j ≡ Some o → (j ≡ 0) ⊎ (j ≢ 0) → is_unused (listed t.slots) j ≡ false
    below j l o e (inl z) = used j root (ap (slice_get t.slots) z ∙ root_stands)
    below j l None e (inr m) = absurd (free.2 j (omega (arith, m)) l e)
    below j l (Some s) e (inr m) = used j s e

    pub lowest_is : h < 512 → h ≡ lowest_unused ss
    lowest_is small =
        sym (slot_free t.slots h t.right.numbered free.0 free.1 (λ j l. let at = get_or_at t.slots j (omega (arith, l, small, t.hold.are.handles)) in below j l at.0 at.1 (cases_eq j 0)))
        ∙ ap lowest_unused t.spaces

pub is_made : (ss : List Space) (h parent pages at u : ℕ) (first : Option ℕ) → h ≡ lowest_unused ss → at ≡ first_page_for ss parent pages first → u ≡ min pages 16
    → record { handle = h; parent = parent; first = at; pages = pages; unit = u; window = None } ≡ made ss parent pages first
is_made ss h parent pages at u first e f k = λ t. record { handle = e t; parent = parent; first = f t; pages = pages; unit = k t; window = None }

-- ---- the tables with a space more

pub added : (reveals now : List ℕ → Type 0) (n m : ℕ) (ss : List Space) (t : RevealSpaces reveals n ss) (x p : Space) (k : ℕ) (i : Interval) → MayBeAdded ss x p → slice_get t.slots x.handle ≡ Some None
    → slice_get t.xs k ≡ Some i → i.first ≤ x.first → x.first < end_of i
    → HoldTables now (slice_set t.slots x.handle (Some x)) (replaced t.xs k (pieces x i)) → length (replaced t.xs k (pieces x i)) ≡ m → RevealSpaces now m (put_space x ss)
added reveals now n m ss t x p k i may free e low high hold long =
    let also : MayBeAdded (listed t.slots) x p = subst (λ (rs : List Space). MayBeAdded rs x p) (sym t.spaces) may in
    let written = slot_written t.slots x t.right.numbered free in
    let split = added_splits (listed t.slots) x p t.xs k i t.right.spaces also t.right.intervals e low high in record {
      slots = slice_set t.slots x.handle (Some x);
      xs = replaced t.xs k (pieces x i);
      hold = hold;
      right = record {
        numbered = written.numbered;
        spaces = rw written.spaces split.new.spaces;
        windows = rw written.spaces ((windows_stay_fit (listed t.slots) t.right.spaces t.right.windows).put x also.unmapped);
        intervals = rw written.spaces split.new.intervals;
      };
      counted = long;
      spaces = written.spaces ∙ ap (put_space x) t.spaces;
    }

-- ---- where a page is malformed

pub malformed_as : {X : Type 0} (P Q : ℕ → Type 0) → ((page : ℕ) → P page → Q page) → (e : SpaceError X) → IfMalformed P e → IfMalformed Q e
malformed_as P Q f (Refused word) h = tt
malformed_as P Q f (Malformed page) h = f page h
malformed_as P Q f (Mem error) h = tt

pub mem_as : {X : Type 0} (P Q : X → Type 0) → ((x : X) → P x → Q x) → (e : SpaceError X) → IfMem P e → IfMem Q e
mem_as P Q f (Refused word) h = tt
mem_as P Q f (Malformed page) h = tt
mem_as P Q f (Mem error) h = f error h

pub errs_as : {T X : Type 0} (r : Result T (SpaceError X)) (P Q : X → Type 0) → ((x : X) → P x → Q x) → IfErr r (IfMem P) → IfErr r (IfMem Q)
errs_as (Ok v) P Q f h = tt
errs_as (Err e) P Q f h = mem_as P Q f e h
