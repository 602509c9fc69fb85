-- What is written out, one first page after the other, is the sweep.
use Rattle.std.proofs.Common.{◌≡◌, ◌≢◌, ◌⊎◌, inl, inr, ℕ, zero, suc, ◌+◌, ◌^◌, ◌<◌, ◌≤◌, leb, List, [], ◌∷◌, ◌++◌, Some, None, refl, sym, ◌∙◌, ap, subst, arith, Bool, true, false, eq-eqb, ne_eqb, ltb-true, lt-ltb}
use Rattle.std.specs.Prelude.{slice_get, ◌==◌, nat_lt, if◌then◌else◌}
use Rattle.std.proofs.lemmas.Option.{same_Some, none-some}
use Rattle.std.proofs.lemmas.Bool.{cases_eq}
use Rattle.std.proofs.lemmas.Bool.Decides.{leb_tells}
use Rattle.write_queue.specs.declared.entry.Entry.{Entry}
use Rattle.write_queue.specs.Entries.{waiting_at}
use Rattle.write_queue.specs.Sweeps.{IsLess, Sweeps, sweep_key}
use Rattle.write_queue.specs.QueueLaws.{waits_there}
use Rattle.write_queue.specs.SweepLaws.{AreShort, IsSweep, Rise, SweepsRise}

at-or-above : (head s : ℕ) → head ≤ s → sweep_key head s ≡ s
at-or-above head s above = ap (λ (b : Bool). if b then 2 ^ 32 + s else s) (not_below (nat_lt s head) refl)
  where
    not_below : (b : Bool) → nat_lt s head ≡ b → b ≡ false
    not_below true is = let below : s < head = ltb-true s head is in absurd (omega (arith, below, above))
    not_below false is = refl

below : (head s : ℕ) → s < head → sweep_key head s ≡ 2 ^ 32 + s
below head s is = ap (λ (b : Bool). if b then 2 ^ 32 + s else s) (lt-ltb s head is)

abbrev IsIn : Entry → List Entry → Type 0
IsIn f xs = (k : ℕ) × (slice_get xs k ≡ Some f)

in-left : (f : Entry) (xs ys : List Entry) → IsIn f xs → IsIn f (xs ++ ys)
in-left f [] ys is = absurd (none-some f is.1)
in-left f (x ∷ xs) ys (zero, is) = (0, is)
in-left f (x ∷ xs) ys (suc k, is) = let more = in-left f xs ys (k, is) in (suc more.0, more.1)

in-right : (f : Entry) (xs ys : List Entry) → IsIn f ys → IsIn f (xs ++ ys)
in-right f [] ys is = is
in-right f (x ∷ xs) ys is = let more = in-right f xs ys is in (suc more.0, more.1)

-- what waits among the fewer waited before, and is another
among : (es fewer : List Entry) (e : Entry) → IsLess es e fewer → (f : Entry) → waiting_at fewer f.sector ≡ Some f → (waiting_at es f.sector ≡ Some f) × (e.sector ≢ f.sector)
among es fewer e less f waits = either (cases_eq e.sector f.sector)
  where
    either : (e.sector ≡ f.sector) ⊎ (e.sector ≢ f.sector) → (waiting_at es f.sector ≡ Some f) × (e.sector ≢ f.sector)
    either (inl same) = absurd (none-some f (sym (less.rest f.sector ∙ ap (λ (t : Bool). if t then None else waiting_at es f.sector) (eq-eqb e.sector f.sector same)) ∙ waits))
    either (inr apart) = (sym (less.rest f.sector ∙ ap (λ (t : Bool). if t then None else waiting_at es f.sector) (ne_eqb e.sector f.sector apart)) ∙ waits, apart)

-- what is left waited before
pub waited_before : (head : ℕ) (es swept left : List Entry) → Sweeps head es swept left → (k : ℕ) (f : Entry) → waiting_at left k ≡ Some f → waiting_at es k ≡ Some f
waited_before head es [] left is k f waits = ap (λ (x : List Entry). waiting_at x k) (sym is) ∙ waits
waited_before head es (e ∷ swept) left is k f waits = either (waited_before e.sector is.0 swept left is.4 k f waits) (cases_eq e.sector k)
  where
    either : waiting_at is.0 k ≡ Some f → (e.sector ≡ k) ⊎ (e.sector ≢ k) → waiting_at es k ≡ Some f
    either was (inl same) = absurd (none-some f (sym (is.2.rest k ∙ ap (λ (t : Bool). if t then None else waiting_at es k) (eq-eqb e.sector k same)) ∙ was))
    either was (inr apart) = sym (is.2.rest k ∙ ap (λ (t : Bool). if t then None else waiting_at es k) (ne_eqb e.sector k apart)) ∙ was

-- and so did what was written out
pub some_swept : (head : ℕ) (es swept left : List Entry) → Sweeps head es swept left → (f : Entry) (k : ℕ) → slice_get swept k ≡ Some f → waiting_at es f.sector ≡ Some f
some_swept head es [] left is f k at = absurd (none-some f at)
some_swept head es (e ∷ swept) left is f zero at = subst (λ (x : Entry). waiting_at es x.sector ≡ Some x) (same_Some e f at) is.1.there
some_swept head es (e ∷ swept) left is f (suc k) at = (among es is.0 e is.2 f (some_swept e.sector is.0 swept left is.4 f k at)).0

short-fewer : (es fewer : List Entry) (e : Entry) → IsLess es e fewer → AreShort es → AreShort fewer
short-fewer es fewer e less short k f waits =
    let at = waits_there fewer k f waits in
    let here : waiting_at fewer f.sector ≡ Some f = ap (λ (n : ℕ). waiting_at fewer n) at.2 ∙ waits in
    short f.sector f (among es fewer e less f here).0

append-nil : (xs : List Entry) → xs ++ [] ≡ xs
append-nil [] = refl
append-nil (x ∷ xs) = ap (λ (l : List Entry). x ∷ l) (append-nil xs)

rise-more : (e : Entry) (xs : List Entry) → ((f : Entry) → IsIn f xs → e.sector < f.sector) → Rise xs → Rise (e ∷ xs)
rise-more e xs first rest zero zero a b p q less = absurd (omega (arith, less))
rise-more e xs first rest zero (suc k) a b p q less = subst (λ (x : Entry). x.sector < b.sector) (same_Some e a p) (first b (k, q))
rise-more e xs first rest (suc j) zero a b p q less = absurd (omega (arith, less))
rise-more e xs first rest (suc j) (suc k) a b p q less = rest j k a b p q (omega (arith, less))

sweep_more : (head : ℕ) (es : List Entry) (e : Entry) (swept : List Entry) → AreShort es → (is : Sweeps head es (e ∷ swept) []) → IsSweep e.sector is.0 swept → IsSweep head es (e ∷ swept)
sweep_more head es e swept short is r = either (leb_tells head e.sector)
  where
    -- each other one waited too, elsewhere, and is after the first
    other : (f : Entry) → IsIn f swept → (waiting_at es f.sector ≡ Some f) × (e.sector ≢ f.sector)
    other f at = among es is.0 e is.2 f (some_swept e.sector is.0 swept [] is.4 f at.0 at.1)

    after : (f : Entry) → IsIn f swept → sweep_key head e.sector ≤ sweep_key head f.sector
    after f at = is.1.least f.sector f (other f at).0

    in-above : (f : Entry) → IsIn f r.above → IsIn f swept
    in-above f at = subst (IsIn f) (sym r.all) (in-left f r.above r.below at)

    in-below : (f : Entry) → IsIn f r.below → IsIn f swept
    in-below f at = subst (IsIn f) (sym r.all) (in-right f r.above r.below at)

    higher : (f : Entry) → IsIn f r.above → e.sector < f.sector
    higher f at = omega (arith, r.above_head at.0 f at.1, (other f (in-above f at)).1)

    same : (k : ℕ) → waiting_at (e ∷ swept) k ≡ waiting_at es k
    same k = which (cases_eq e.sector k)
      where
        which : (e.sector ≡ k) ⊎ (e.sector ≢ k) → (if e.sector == k then Some e else waiting_at swept k) ≡ waiting_at es k
        which (inl at) = ap (λ (t : Bool). if t then Some e else waiting_at swept k) (eq-eqb e.sector k at) ∙ sym is.1.there ∙ ap (λ (n : ℕ). waiting_at es n) at
        which (inr apart) = ap (λ (t : Bool). if t then Some e else waiting_at swept k) (ne_eqb e.sector k apart) ∙ r.same k ∙ is.2.rest k
            ∙ ap (λ (t : Bool). if t then None else waiting_at es k) (ne_eqb e.sector k apart)

    either : ((leb head e.sector ≡ true) × (head ≤ e.sector)) ⊎ ((leb head e.sector ≡ false) × (e.sector < head)) → IsSweep head es (e ∷ swept)
    either (inl at) = record {
      above = e ∷ r.above;
      below = r.below;
      all = ap (λ (l : List Entry). e ∷ l) r.all;
      above_head = above-head;
      below_head = below-head;
      above_rises = rise-more e r.above higher r.above_rises;
      below_rises = r.below_rises;
      same = same;
    }
      where
        above-head : (k : ℕ) (f : Entry) → slice_get (e ∷ r.above) k ≡ Some f → head ≤ f.sector
        above-head zero f here = subst (λ (x : Entry). head ≤ x.sector) (same_Some e f here) at.1
        above-head (suc k) f here = omega (arith, at.1, higher f (k, here))

        below-head : (k : ℕ) (f : Entry) → slice_get r.below k ≡ Some f → f.sector < head
        below-head k f here = low (leb_tells head f.sector)
          where
            low : ((leb head f.sector ≡ true) × (head ≤ f.sector)) ⊎ ((leb head f.sector ≡ false) × (f.sector < head)) → f.sector < head
            low (inr is) = is.1
            low (inl is) = absurd (omega (arith, after f (in-below f (k, here)), at-or-above head e.sector at.1, at-or-above head f.sector is.1, r.below_head k f here))
    either (inr at) = record {
      above = [];
      below = e ∷ r.above;
      all = ap (λ (l : List Entry). e ∷ l) (r.all ∙ ap (λ (l : List Entry). r.above ++ l) (none r.below refl) ∙ append-nil r.above);
      above_head = λ k f here. absurd (none-some f here);
      below_head = below-head;
      above_rises = λ j k a b here. absurd (none-some a here);
      below_rises = rise-more e r.above higher r.above_rises;
      same = same;
    }
      where
        none : (l : List Entry) → r.below ≡ l → l ≡ []
        none [] is = refl
        none (f ∷ l) is =
            let here : slice_get r.below 0 ≡ Some f = ap (λ (x : List Entry). slice_get x 0) is in
            let low : f.sector < e.sector = r.below_head 0 f here in
            absurd (omega (arith, after f (in-below f (0, here)), below head e.sector at.1, below head f.sector (omega (arith, low, at.1)), low))

        below-head : (k : ℕ) (f : Entry) → slice_get (e ∷ r.above) k ≡ Some f → f.sector < head
        below-head zero f here = subst (λ (x : Entry). x.sector < head) (same_Some e f here) at.1
        below-head (suc k) f here = low (leb_tells head f.sector)
          where
            low : ((leb head f.sector ≡ true) × (head ≤ f.sector)) ⊎ ((leb head f.sector ≡ false) × (f.sector < head)) → f.sector < head
            low (inr is) = is.1
            low (inl is) = absurd (omega (arith, after f (in-above f (k, here)), below head e.sector at.1, at-or-above head f.sector is.1, short f.sector f (other f (in-above f (k, here))).0))

pub sweep : SweepsRise
sweep head es [] short is = record {
  above = [];
  below = [];
  all = refl;
  above_head = λ k e at. absurd (none-some e at);
  below_head = λ k e at. absurd (none-some e at);
  above_rises = λ j k e f at. absurd (none-some e at);
  below_rises = λ j k e f at. absurd (none-some e at);
  same = λ k. ap (λ (l : List Entry). waiting_at l k) is;
}
sweep head es (e ∷ swept) short is = sweep_more head es e swept short is (sweep e.sector is.0 swept (short-fewer es is.0 e is.2 short) is.4)
