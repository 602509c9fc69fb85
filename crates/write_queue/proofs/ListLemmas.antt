-- Lists by index, and what waits among them.
use Rattle.std.proofs.Common.{◌≡◌, ◌≢◌, ◌⊎◌, inl, inr, ℕ, zero, suc, ◌-◌, ◌<◌, ◌≤◌, List, [], ◌∷◌, ◌++◌, length, take, get_or, Option, Some, None, refl, sym, ◌∙◌, ap, arith, Bool, true, false, leb, eq-eqb, ne_eqb, eqb-true}
use Rattle.std.specs.Prelude.{slice_get, slice_set, swap_remove, ◌==◌, if◌then◌else◌}
use Rattle.std.proofs.lemmas.Option.{same_Some, none-some, slice_get_within, slice_get-get_or}
use Rattle.std.proofs.lemmas.Bool.{cases_eq, true≢false}
use Rattle.std.proofs.lemmas.Bool.Decides.{leb_tells}
use Rattle.labelled_disk.proofs.Finds.{find_none, find_alone, none_passes, get_set_same, get_set_other}
use Rattle.write_queue.specs.declared.entry.Entry.{Entry}
use Rattle.write_queue.specs.Entries.{waiting_at, IsOnce}
use Rattle.write_queue.specs.Sweeps.{IsLess}
use Rattle.write_queue.specs.QueueLaws.{waits_there}

-- two lists with the same elements by index are the same
pub same_by_index : {X : Type 0} (xs ys : List X) → ((k : ℕ) → slice_get xs k ≡ slice_get ys k) → xs ≡ ys
same_by_index [] [] same = refl
same_by_index [] (y ∷ ys) same = absurd (none-some y (same 0))
same_by_index (x ∷ xs) [] same = absurd (none-some x (sym (same 0)))
same_by_index (x ∷ xs) (y ∷ ys) same =
    let head : x ≡ y = same_Some x y (same 0) in
    let tail : xs ≡ ys = same_by_index xs ys (λ k. same (suc k)) in
    ap (λ (z : _). z ∷ xs) head ∙ ap (λ (zs : _). y ∷ zs) tail

-- no page waits for a sector where none has it
pub nowhere_waits : (es : List Entry) (k : ℕ) → ((j : ℕ) (e : Entry) → slice_get es j ≡ Some e → e.sector ≢ k) → waiting_at es k ≡ None
nowhere_waits es k apart = find_none (λ (e : Entry). e.sector == k) es (λ j e is. ne_eqb e.sector k (apart j e is))

-- and where none waits, none has it
pub none_has : (es : List Entry) (k : ℕ) → waiting_at es k ≡ None → (j : ℕ) (e : Entry) → slice_get es j ≡ Some e → e.sector ≢ k
none_has es k none j e is same = true≢false (sym (eq-eqb e.sector k same) ∙ none_passes (λ (f : Entry). f.sector == k) es none j e is)

-- a page that stands among them waits for its sector
pub stands_waiting : (es : List Entry) → IsOnce es → (j : ℕ) (e : Entry) → slice_get es j ≡ Some e → (k : ℕ) → e.sector ≡ k → waiting_at es k ≡ Some e
stands_waiting es once j e is k same =
    find_alone (λ (e : Entry). e.sector == k) es j e is (eq-eqb e.sector k same)
    (λ i f there passes. once i j f e there is (eqb-true f.sector k passes ∙ sym same))

get-take : {X : Type 0} (n : ℕ) (xs : List X) (i : ℕ) → i < n → slice_get (take n xs) i ≡ slice_get xs i
get-take zero xs i below = absurd (omega arith)
get-take (suc n) [] i below = refl
get-take (suc n) (x ∷ xs) zero below = refl
get-take (suc n) (x ∷ xs) (suc i) below = get-take n xs i (omega arith)

get-take-past : {X : Type 0} (n : ℕ) (xs : List X) (i : ℕ) → n ≤ i → slice_get (take n xs) i ≡ None
get-take-past zero xs i past = refl
get-take-past (suc n) [] i past = refl
get-take-past (suc n) (x ∷ xs) zero past = absurd (omega arith)
get-take-past (suc n) (x ∷ xs) (suc i) past = get-take-past n xs i (omega arith)

module _ (es : List Entry) (j : ℕ) (below : j < length es) (d : Entry) where
  last : ℕ
  last = length es - 1

  abbrev end : Entry
  end = get_or es (length es - 1) d

  abbrev fewer : List Entry
  fewer = swap_remove es j d

  -- the element at the removed one's index is the last one
  pub removed-here : j < length es - 1 → slice_get fewer j ≡ slice_get es (length es - 1)
  removed-here inside =
      get-take (length es - 1) (slice_set es j end) j inside
      ∙ get_set_same es j end below
      ∙ sym (slice_get-get_or es (length es - 1) d (omega (arith, below)))

  pub removed-other : (i : ℕ) → i < length es - 1 → i ≢ j → slice_get fewer i ≡ slice_get es i
  removed-other i inside other =
      get-take (length es - 1) (slice_set es j end) i inside ∙ get_set_other es j i end other

  pub removed-past : (i : ℕ) → length es - 1 ≤ i → slice_get fewer i ≡ None
  removed-past i past = get-take-past (length es - 1) (slice_set es j end) i past

  -- where an element stood before, which is not the removed one's place
  pub stood : (i : ℕ) (f : Entry) → slice_get fewer i ≡ Some f → (k : ℕ) × (slice_get es k ≡ Some f) × (k ≢ j) × (i < length es - 1) × (k ≡ (if i == j then length es - 1 else i))
  stood i f is = either (cases_eq i j) (inside (leb_tells (length es - 1) i))
    where
      inside : ((leb (length es - 1) i ≡ true) × (length es - 1 ≤ i)) ⊎ ((leb (length es - 1) i ≡ false) × (i < length es - 1)) → i < length es - 1
      inside (inr b) = b.1
      inside (inl past) = absurd (none-some f (sym (removed-past i past.1) ∙ is))

      either : (i ≡ j) ⊎ (i ≢ j) → i < length es - 1 → (k : ℕ) × (slice_get es k ≡ Some f) × (k ≢ j) × (i < length es - 1) × (k ≡ (if i == j then length es - 1 else i))
      either (inl same) b =
          let bj : j < length es - 1 = omega (arith, b, same) in (
            length es - 1,
            sym (removed-here bj) ∙ ap (λ (n : ℕ). slice_get fewer n) (sym same) ∙ is,
            (λ e. absurd (omega (arith, e, bj))),
            b,
            ap (λ (t : Bool). if t then length es - 1 else i) (sym (eq-eqb i j same)),
          )
      either (inr other) b = (i, sym (removed-other i b other) ∙ is, other, b, ap (λ (t : Bool). if t then length es - 1 else i) (sym (ne_eqb i j other)))

  -- where an element that is not the removed one stands afterwards
  pub stands : (k : ℕ) (f : Entry) → slice_get es k ≡ Some f → k ≢ j → (i : ℕ) × (slice_get fewer i ≡ Some f)
  stands k f is other = either (cases_eq k (length es - 1))
    where
      inside : k < length es
      inside = slice_get_within es k f is

      either : (k ≡ length es - 1) ⊎ (k ≢ length es - 1) → (i : ℕ) × (slice_get fewer i ≡ Some f)
      either (inl same) =
          let bj : j < length es - 1 = omega (arith, same, other, below) in
          (j, removed-here bj ∙ ap (λ (n : ℕ). slice_get es n) (sym same) ∙ is)
      either (inr apart) = (k, removed-other k (omega (arith, inside, apart)) other ∙ is)

  -- one page waits for a sector at most, still
  pub once-fewer : IsOnce es → IsOnce fewer
  once-fewer once a b e f here there same =
      let x = stood a e here in
      let y = stood b f there in
      apart a b x.0 y.0 (once x.0 y.0 e f x.1 y.1 same) x.3 y.3 x.4 y.4
    where
      apart : (a b x y : ℕ) → x ≡ y → a < length es - 1 → b < length es - 1 → x ≡ (if a == j then length es - 1 else a) → y ≡ (if b == j then length es - 1 else b) → a ≡ b
      apart a b x y same la lb xa yb = either (cases_eq a j) (cases_eq b j)
        where
          at-j : (n : ℕ) → n ≡ j → (if n == j then length es - 1 else n) ≡ length es - 1
          at-j n e = ap (λ (t : Bool). if t then length es - 1 else n) (eq-eqb n j e)

          past-j : (n : ℕ) → n ≢ j → (if n == j then length es - 1 else n) ≡ n
          past-j n e = ap (λ (t : Bool). if t then length es - 1 else n) (ne_eqb n j e)

          either : (a ≡ j) ⊎ (a ≢ j) → (b ≡ j) ⊎ (b ≢ j) → a ≡ b
          either (inl p) (inl q) = p ∙ sym q
          either (inl p) (inr q) = absurd (omega (arith, same, xa, yb, at-j a p, past-j b q, lb))
          either (inr p) (inl q) = absurd (omega (arith, same, xa, yb, past-j a p, at-j b q, la))
          either (inr p) (inr q) = omega (arith, same, xa, yb, past-j a p, past-j b q)

  -- all wait but the removed one
  pub less-fewer : IsOnce es → (e : Entry) → slice_get es j ≡ Some e → IsLess es e fewer
  less-fewer once e is = record { rest = λ k. either k (cases_eq e.sector k) }
    where
      others : (k : ℕ) → e.sector ≢ k → (o : Option Entry) → waiting_at es k ≡ o → waiting_at fewer k ≡ o
      others k apart None none = nowhere_waits fewer k (λ i f here. let s = stood i f here in none_has es k none s.0 f s.1)
      others k apart (Some f) some =
          let t = waits_there es k f some in
          let s = stands t.0 f t.1 (λ same. apart (ap (λ (x : Entry). x.sector) (same_Some e f (sym is ∙ ap (λ (n : ℕ). slice_get es n) (sym same) ∙ t.1)) ∙ t.2)) in
          stands_waiting fewer (once-fewer once) s.0 f s.1 k t.2

      either : (k : ℕ) → (e.sector ≡ k) ⊎ (e.sector ≢ k) → waiting_at fewer k ≡ (if e.sector == k then None else waiting_at es k)
      either k (inl same) =
          nowhere_waits fewer k (λ i f here sector. let s = stood i f here in s.2 (once s.0 j f e s.1 is (sector ∙ sym same)))
          ∙ ap (λ (t : Bool). if t then None else waiting_at es k) (sym (eq-eqb e.sector k same))
      either k (inr apart) = others k apart (waiting_at es k) refl ∙ ap (λ (t : Bool). if t then None else waiting_at es k) (sym (ne_eqb e.sector k apart))

-- one page more, for a sector that none waited for
module _ (es : List Entry) (e : Entry) (free : waiting_at es e.sector ≡ None) where
  pub added-there : (i : ℕ) (f : Entry) → slice_get (es ++ e ∷ []) i ≡ Some f → ((i < length es) × (slice_get es i ≡ Some f)) ⊎ ((i ≡ length es) × (f ≡ e))
  added-there i f is = go es i is
    where
      go : (xs : List Entry) (i : ℕ) → slice_get (xs ++ e ∷ []) i ≡ Some f → ((i < length xs) × (slice_get xs i ≡ Some f)) ⊎ ((i ≡ length xs) × (f ≡ e))
      go [] zero is = inr (refl, sym (same_Some e f is))
      go [] (suc i) is = absurd (none-some f is)
      go (x ∷ xs) zero is = inl (omega arith, is)
      go (x ∷ xs) (suc i) is = step (go xs i is)
        where
          step : ((i < length xs) × (slice_get xs i ≡ Some f)) ⊎ ((i ≡ length xs) × (f ≡ e)) → ((suc i < length (x ∷ xs)) × (slice_get (x ∷ xs) (suc i) ≡ Some f)) ⊎ ((suc i ≡ length (x ∷ xs)) × (f ≡ e))
          step (inl h) = inl (omega (arith, h.0), h.1)
          step (inr h) = inr (ap suc h.0, h.1)

  pub once-added : IsOnce es → IsOnce (es ++ e ∷ [])
  once-added once a b f g here there same = either (added-there a f here) (added-there b g there)
    where
      either : ((a < length es) × (slice_get es a ≡ Some f)) ⊎ ((a ≡ length es) × (f ≡ e)) → ((b < length es) × (slice_get es b ≡ Some g)) ⊎ ((b ≡ length es) × (g ≡ e)) → a ≡ b
      either (inl p) (inl q) = once a b f g p.1 q.1 same
      either (inl p) (inr q) = absurd (none_has es e.sector free a f p.1 (same ∙ ap (λ (x : Entry). x.sector) q.1))
      either (inr p) (inl q) = absurd (none_has es e.sector free b g q.1 (sym same ∙ ap (λ (x : Entry). x.sector) p.1))
      either (inr p) (inr q) = p.0 ∙ sym q.0

  pub waiting-added : IsOnce es → (k : ℕ) → waiting_at (es ++ e ∷ []) k ≡ (if e.sector == k then Some e else waiting_at es k)
  waiting-added once k = either (cases_eq e.sector k)
    where
      all : List Entry
      all = es ++ e ∷ []

      others : e.sector ≢ k → (o : Option Entry) → waiting_at es k ≡ o → waiting_at (es ++ e ∷ []) k ≡ o
      others apart None none = nowhere_waits (es ++ e ∷ []) k (λ i f here. past i f (added-there i f here))
        where
          past : (i : ℕ) (f : Entry) → ((i < length es) × (slice_get es i ≡ Some f)) ⊎ ((i ≡ length es) × (f ≡ e)) → f.sector ≢ k
          past i f (inl p) = none_has es k none i f p.1
          past i f (inr p) = λ same. apart (ap (λ (x : Entry). x.sector) (sym p.1) ∙ same)
      others apart (Some f) some =
          let t = waits_there es k f some in
          stands_waiting (es ++ e ∷ []) (once-added once) t.0 f (earlier es t.0 t.1) k t.2
        where
          earlier : (xs : List Entry) (i : ℕ) → slice_get xs i ≡ Some f → slice_get (xs ++ e ∷ []) i ≡ Some f
          earlier [] i is = absurd (none-some f is)
          earlier (x ∷ xs) zero is = is
          earlier (x ∷ xs) (suc i) is = earlier xs i is

      at-end : (xs : List Entry) → slice_get (xs ++ e ∷ []) (length xs) ≡ Some e
      at-end [] = refl
      at-end (x ∷ xs) = at-end xs

      either : (e.sector ≡ k) ⊎ (e.sector ≢ k) → waiting_at (es ++ e ∷ []) k ≡ (if e.sector == k then Some e else waiting_at es k)
      either (inl same) = stands_waiting (es ++ e ∷ []) (once-added once) (length es) e (at-end es) k same
          ∙ ap (λ (t : Bool). if t then Some e else waiting_at es k) (sym (eq-eqb e.sector k same))
      either (inr apart) = others apart (waiting_at es k) refl ∙ ap (λ (t : Bool). if t then Some e else waiting_at es k) (sym (ne_eqb e.sector k apart))

-- another page for the same sector
module _ (es : List Entry) (j : ℕ) (e : Entry) (f : Entry) (is : slice_get es j ≡ Some e) (same : f.sector ≡ e.sector) where
  pub set-there : (i : ℕ) (g : Entry) → slice_get (slice_set es j f) i ≡ Some g → ((i ≡ j) × (g ≡ f)) ⊎ ((i ≢ j) × (slice_get es i ≡ Some g))
  set-there i g here = either (cases_eq i j)
    where
      either : (i ≡ j) ⊎ (i ≢ j) → ((i ≡ j) × (g ≡ f)) ⊎ ((i ≢ j) × (slice_get es i ≡ Some g))
      either (inl at) = inl (at, same_Some g f (sym here ∙ ap (λ (n : ℕ). slice_get (slice_set es j f) n) at ∙ get_set_same es j f (slice_get_within es j e is)))
      either (inr apart) = inr (apart, sym (get_set_other es j i f apart) ∙ here)

  pub once-set : IsOnce es → IsOnce (slice_set es j f)
  once-set once a b x y here there alike = either (set-there a x here) (set-there b y there)
    where
      either : ((a ≡ j) × (x ≡ f)) ⊎ ((a ≢ j) × (slice_get es a ≡ Some x)) → ((b ≡ j) × (y ≡ f)) ⊎ ((b ≢ j) × (slice_get es b ≡ Some y)) → a ≡ b
      either (inl p) (inl q) = p.0 ∙ sym q.0
      either (inl p) (inr q) = absurd (q.0 (once b j y e q.1 is (sym alike ∙ ap (λ (z : Entry). z.sector) p.1 ∙ same)))
      either (inr p) (inl q) = absurd (p.0 (once a j x e p.1 is (alike ∙ ap (λ (z : Entry). z.sector) q.1 ∙ same)))
      either (inr p) (inr q) = once a b x y p.1 q.1 alike

  pub waiting-set : IsOnce es → (k : ℕ) → waiting_at (slice_set es j f) k ≡ (if f.sector == k then Some f else waiting_at es k)
  waiting-set once k = either (cases_eq f.sector k)
    where
      others : f.sector ≢ k → (o : Option Entry) → waiting_at es k ≡ o → waiting_at (slice_set es j f) k ≡ o
      others apart None none = nowhere_waits (slice_set es j f) k (λ i g here. past i g (set-there i g here))
        where
          past : (i : ℕ) (g : Entry) → ((i ≡ j) × (g ≡ f)) ⊎ ((i ≢ j) × (slice_get es i ≡ Some g)) → g.sector ≢ k
          past i g (inl p) = λ at. apart (ap (λ (z : Entry). z.sector) (sym p.1) ∙ at)
          past i g (inr p) = none_has es k none i g p.1
      others apart (Some g) some =
          let t = waits_there es k g some in
          let other : t.0 ≢ j = λ at. apart (same ∙ ap (λ (z : Entry). z.sector) (same_Some e g (sym is ∙ ap (λ (n : ℕ). slice_get es n) (sym at) ∙ t.1)) ∙ t.2) in
          stands_waiting (slice_set es j f) (once-set once) t.0 g (get_set_other es j t.0 f other ∙ t.1) k t.2

      either : (f.sector ≡ k) ⊎ (f.sector ≢ k) → waiting_at (slice_set es j f) k ≡ (if f.sector == k then Some f else waiting_at es k)
      either (inl at) = stands_waiting (slice_set es j f) (once-set once) j f (get_set_same es j f (slice_get_within es j e is)) k at
          ∙ ap (λ (t : Bool). if t then Some f else waiting_at es k) (sym (eq-eqb f.sector k at))
      either (inr apart) = others apart (waiting_at es k) refl ∙ ap (λ (t : Bool). if t then Some f else waiting_at es k) (sym (ne_eqb f.sector k apart))
