-- A run of fewer pages than there are slots leaves a slot out.
use Rattle.std.proofs.Common.{◌≡◌, ◌≢◌, ◌<◌, ◌≤◌, ◌+◌, ◌-◌, ◌∙◌, ℕ, Option, Some, None, true, false, refl, ap, sym, zero, suc, length, arith, inl, inr, ◌⊎◌}
use Rattle.std.proofs.lemmas.Bool.{cases_eq}
use Rattle.frame_pool.specs.Frames.{Frame, Slots, frame_at, is_kept, IsWithin, IsOutside, HasDistinct}
use Rattle.frame_pool.specs.FrameLaws.{frame_of_has, has_of_frame}

-- x, or y in its place where x is m
abbrev pick : (x y m : ℕ) → (x ≡ m) ⊎ (x ≡ m → ⊥) → ℕ
pick x y m (inl _) = y
pick x y m (inr _) = x

pick_below : (x y m : ℕ) (d : (x ≡ m) ⊎ (x ≡ m → ⊥)) → x < m + 1 → y < m + 1 → (x ≡ m → y ≢ m) → pick x y m d < m
pick_below x y m (inl e) a b apart = let h = apart e in omega (arith, b, h)
pick_below x y m (inr d) a b apart = omega (arith, a, d)

pick_same : (x y z m : ℕ) (d : (x ≡ m) ⊎ (x ≡ m → ⊥)) (e : (y ≡ m) ⊎ (y ≡ m → ⊥)) → x ≢ z → y ≢ z → pick x z m d ≡ pick y z m e → x ≡ y
pick_same x y z m (inl a) (inl b) p q same = a ∙ sym b
pick_same x y z m (inl a) (inr b) p q same = absurd (q (sym same))
pick_same x y z m (inr a) (inl b) p q same = absurd (p same)
pick_same x y z m (inr a) (inr b) p q same = same

-- so many different numbers below m are at most m
pub pigeonhole : (n m : ℕ) (f : ℕ → ℕ) → ((i : ℕ) → i < n → f i < m) → ((i j : ℕ) → i < n → j < n → f i ≡ f j → i ≡ j) → n ≤ m
pigeonhole zero m f below apart = omega arith
pigeonhole (suc n) zero f below apart = let h = below n (omega arith) in absurd (omega (arith, h))
pigeonhole (suc n) (suc m) f below apart =
    let last : n < suc n = omega arith in
    let differs : (i : ℕ) → i < n → f i ≢ f n = λ i low same. let e = apart i n (omega (arith, low)) last same in omega (arith, e, low) in
    let less = pigeonhole n m (λ i. pick (f i) (f n) m (cases_eq (f i) m))
    (λ i low.
    let bound = below i (omega (arith, low)) in
    let bound_last = below n last in
    let other = differs i low in
    pick_below (f i) (f n) m (cases_eq (f i) m) (omega (arith, bound)) (omega (arith, bound_last)) (λ e e2. other (e ∙ sym e2)))
    (λ i j low low2 same. apart i j (omega (arith, low)) (omega (arith, low2)) (pick_same (f i) (f j) (f n) m (cases_eq (f i) m) (cases_eq (f j) m) (differs i low) (differs j low2) same)) in
    omega (arith, less)

-- how far the page of a slot is from the first one
abbrev offset_in : ℕ → Option Frame → ℕ
offset_in first None = 0
offset_in first (Some f) = f.home.page - first

record Kept (id first pages : ℕ) (x : Option Frame) : Type 0 where
  pub frame : Frame
  pub is : x ≡ Some frame
  pub same_id : frame.home.id ≡ id
  pub least : first ≤ frame.home.page
  pub most : frame.home.page < first + pages

kept_frame : (id first pages : ℕ) (x : Option Frame) → is_kept id first pages x ≡ true → Kept id first pages x
kept_frame id first pages None is = absurd cc
kept_frame id first pages (Some f) is = record { frame = f; is = refl; same_id = grind (arith, is); least = grind (arith, is); most = grind (arith, is) }

offset_below : (id first pages : ℕ) (x : Option Frame) → Kept id first pages x → offset_in first x < pages
offset_below id first pages x kept = rw kept.is (let l = kept.least in let m = kept.most in omega (arith, l, m))

pub all_kept : (slots : Slots) (id first pages : ℕ) → HasDistinct slots → ((i : ℕ) → i < length slots → is_kept id first pages (frame_at slots i) ≡ true) → length slots ≤ pages
all_kept slots id first pages distinct all =
    pigeonhole (length slots) pages (λ i. offset_in first (frame_at slots i))
    (λ i below. offset_below id first pages (frame_at slots i) (kept_frame id first pages (frame_at slots i) (all i below)))
    (λ i j below below2 same.
    let a : Kept id first pages (frame_at slots i) = kept_frame id first pages (frame_at slots i) (all i below) in
    let b : Kept id first pages (frame_at slots j) = kept_frame id first pages (frame_at slots j) (all j below2) in
    let offsets : a.frame.home.page - first ≡ b.frame.home.page - first = ap (offset_in first) (sym a.is) ∙ same ∙ ap (offset_in first) b.is in
    let la = a.least in
    let lb = b.least in
    distinct i j a.frame b.frame (has_of_frame slots i a.frame below a.is) (has_of_frame slots j b.frame below2 b.is) (a.same_id ∙ sym b.same_id) (omega (arith, offsets, la, lb)))

kept_of_within : (id first pages : ℕ) (f : Frame) → IsWithin id first pages f.home → is_kept id first pages (Some f) ≡ true
kept_of_within id first pages f within = grind (arith, within)

pub outside_of : (slots : Slots) (slot id first pages : ℕ) → is_kept id first pages (frame_at slots slot) ≡ false → IsOutside slots slot id first pages
outside_of slots slot id first pages is f has within =
    let kept : is_kept id first pages (frame_at slots slot) ≡ true = ap (is_kept id first pages) (frame_of_has slots slot f has) ∙ kept_of_within id first pages f within in
    cc
