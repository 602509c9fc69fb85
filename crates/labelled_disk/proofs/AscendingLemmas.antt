-- Lists of files in ascending identifiers: what is looked up decides them.
use Rattle.std.proofs.Common.{◌≡◌, ◌≢◌, ◌⊎◌, inl, inr, ⊎_elim, ℕ, ◌<◌, ◌≤◌, Bool, true, false, cond, List, [], ◌∷◌, map, Option, Some, None, refl, sym, ◌∙◌, ap, subst, arith, eqb}
use Rattle.std.specs.Prelude.{nat_lt, if◌then◌else◌}
use Rattle.std.specs.List.{AllByRecursion, AllZip}
use Rattle.std.proofs.lemmas.Option.{same_Some, none-some}
use Rattle.std.proofs.lemmas.Bool.{cases_lt, cases_order, eqb-true, eqb-false, eq-eqb, ne_eqb, ltb-true, ltb-false}
use Rattle.labelled_disk.specs.File.{File, file_at}
use Rattle.labelled_disk.specs.FilesOn.{put_file}
use Rattle.labelled_disk.specs.Ascending.{AreAscending, BothBy}

-- what is looked up after a file was put in
pub at_put : (f : File) (fs : List File) (id : ℕ) → file_at (put_file f fs) id ≡ cond (eqb f.id id) (Some f) (file_at fs id)
at_put f [] id = refl
at_put f (g ∷ gs) id = either (nat_lt f.id g.id) refl (eqb f.id g.id) refl (at_put f gs id)
  where
    third : eqb f.id g.id ≡ false → (b c : Bool) → eqb f.id id ≡ b → eqb g.id id ≡ c
        → cond c (Some g) (cond b (Some f) (file_at gs id)) ≡ cond b (Some f) (cond c (Some g) (file_at gs id))
    third e true true x y = absurd (eqb-false f.id g.id e (omega (arith, eqb-true f.id id x, eqb-true g.id id y)))
    third e true false x y = refl
    third e false true x y = refl
    third e false false x y = refl

    second : eqb f.id g.id ≡ true → (b c : Bool) → eqb f.id id ≡ b → eqb g.id id ≡ c → cond b (Some f) (file_at gs id) ≡ cond b (Some f) (cond c (Some g) (file_at gs id))
    second e true c x y = refl
    second e false true x y = absurd (eqb-false f.id id x (omega (arith, eqb-true f.id g.id e, eqb-true g.id id y)))
    second e false false x y = refl

    either : (b : Bool) → nat_lt f.id g.id ≡ b → (c : Bool) → eqb f.id g.id ≡ c → file_at (put_file f gs) id ≡ cond (eqb f.id id) (Some f) (file_at gs id)
        → file_at (if b then f ∷ g ∷ gs else (if c then f ∷ gs else g ∷ put_file f gs)) id ≡ cond (eqb f.id id) (Some f) (file_at (g ∷ gs) id)
    either true l c e more = refl
    either false l true e more = second e (eqb f.id id) (eqb g.id id) refl refl
    either false l false e more =
        ap (λ (o : Option File). cond (eqb g.id id) (Some g) o) more ∙ third e (eqb f.id id) (eqb g.id id) refl refl

-- ascending order is kept
above_put : (f : File) (gs : List File) (low : ℕ) → low < f.id → AllByRecursion (λ y. low < y) (map (λ g. g.id) gs) → AllByRecursion (λ y. low < y) (map (λ g. g.id) (put_file f gs))
above_put f [] low l h = (l, tt)
above_put f (g ∷ gs) low l h = either (nat_lt f.id g.id) (eqb f.id g.id) (above_put f gs low l h.1)
  where
    either : (b c : Bool) → AllByRecursion (λ y. low < y) (map (λ g. g.id) (put_file f gs))
        → AllByRecursion (λ y. low < y) (map (λ g. g.id) (if b then f ∷ g ∷ gs else (if c then f ∷ gs else g ∷ put_file f gs)))
    either true c m = (l, h)
    either false true m = (l, h.1)
    either false false m = (h.0, m)

lower : (a b : ℕ) (xs : List ℕ) → a < b → AllByRecursion (λ y. b < y) xs → AllByRecursion (λ y. a < y) xs
lower a b [] l h = tt
lower a b (x ∷ xs) l h = (omega (arith, h.0), lower a b xs l h.1)

pub ascending_put : (f : File) (fs : List File) → AreAscending fs → AreAscending (put_file f fs)
ascending_put f [] r = (tt, tt)
ascending_put f (g ∷ gs) r = either (nat_lt f.id g.id) refl (eqb f.id g.id) refl (ascending_put f gs r.1)
  where
    either : (b : Bool) → nat_lt f.id g.id ≡ b → (c : Bool) → eqb f.id g.id ≡ c → AreAscending (put_file f gs)
        → AreAscending (if b then f ∷ g ∷ gs else (if c then f ∷ gs else g ∷ put_file f gs))
    either true l c e more = let lt = ltb-true f.id g.id l in ((lt, lower f.id g.id (map (λ h. h.id) gs) lt r.0), r)
    either false l true e more = let same : g.id ≡ f.id = sym (eqb-true f.id g.id e) in (subst (λ (n : ℕ). AllByRecursion (λ y. n < y) (map (λ h. h.id) gs)) same r.0, r.1)
    either false l false e more =
        let lt : g.id < f.id = omega (arith, ltb-false f.id g.id l, eqb-false f.id g.id e) in
        (above_put f gs g.id lt r.0, more)

-- nothing at or below an identifier that is below all
pub at_low : (fs : List File) (low id : ℕ) → AllByRecursion (λ y. low < y) (map (λ g. g.id) fs) → id ≤ low → file_at fs id ≡ None
at_low [] low id h l = refl
at_low (f ∷ fs) low id h l = let e : eqb f.id id ≡ false = ne_eqb f.id id (λ s. omega (arith, s, h.0)) in rw e (at_low fs low id h.1 l)

pub at_head : (f : File) (fs : List File) → file_at (f ∷ fs) f.id ≡ Some f
at_head f fs = let e : eqb f.id f.id ≡ true = eq-eqb f.id f.id refl in rw e refl

pub at_tail : (f : File) (fs : List File) (id : ℕ) → f.id ≢ id → file_at (f ∷ fs) id ≡ file_at fs id
at_tail f fs id n = let e : eqb f.id id ≡ false = ne_eqb f.id id n in rw e refl

-- two ascending lists of files agree by R, where what is looked up does
pub zip_by_look_up : (R : File → File → Type 0) → ((f g : File) → R f g → f.id ≡ g.id) → (fs gs : List File) → AreAscending fs → AreAscending gs
    → ((id : ℕ) → BothBy R (file_at fs id) (file_at gs id)) → AllZip R fs gs
zip_by_look_up R ids [] [] rf rg same = tt
zip_by_look_up R ids [] (g ∷ gs) rf rg same = absurd (subst (λ (o : Option File). BothBy R None o) (at_head g gs) (same g.id))
zip_by_look_up R ids (f ∷ fs) [] rf rg same = absurd (subst (λ (o : Option File). BothBy R o None) (at_head f fs) (same f.id))
zip_by_look_up R ids (f ∷ fs) (g ∷ gs) rf rg same = by (cases_order f.id g.id) (λ e. zip_by_look_up R ids fs gs rf.1 rg.1 (rest e))
  where
    rest : f.id ≡ g.id → (id : ℕ) → BothBy R (file_at fs id) (file_at gs id)
    rest e id =
        ⊎_elim (λ (l : f.id < id).
        subst (λ (o : Option File). BothBy R o (file_at gs id)) (at_tail f fs id (omega arith))
        (subst (λ (o : Option File). BothBy R (file_at (f ∷ fs) id) o) (at_tail g gs id (omega arith)) (same id)))
        (λ (l : id ≤ f.id).
        subst (λ (o : Option File). BothBy R o (file_at gs id)) (sym (at_low fs f.id id rf.0 l))
        (subst (λ (o : Option File). BothBy R None o) (sym (at_low gs g.id id rg.0 (omega arith))) tt))
        (cases_lt f.id id)

    by : (f.id ≡ g.id) ⊎ ((f.id < g.id) ⊎ (g.id < f.id)) → (f.id ≡ g.id → AllZip R fs gs) → R f g × AllZip R fs gs
    by (inl e) more = (
      subst (λ (o : Option File). BothBy R (Some f) o) (ap (λ (n : ℕ). file_at (g ∷ gs) n) e ∙ at_head g gs)
          (subst (λ (o : Option File). BothBy R o (file_at (g ∷ gs) f.id)) (at_head f fs) (same f.id)),
      more e,
    )
    by (inr (inl l)) more =
        absurd (subst (λ (o : Option File). BothBy R (Some f) o) (at_low (g ∷ gs) f.id f.id (l, lower f.id g.id (map (λ h. h.id) gs) l rg.0) (omega arith))
        (subst (λ (o : Option File). BothBy R o (file_at (g ∷ gs) f.id)) (at_head f fs) (same f.id)))
    by (inr (inr l)) more =
        absurd (subst (λ (o : Option File). BothBy R o (Some g)) (at_low (f ∷ fs) g.id g.id (l, lower g.id f.id (map (λ h. h.id) fs) l rf.0) (omega arith))
        (subst (λ (o : Option File). BothBy R (file_at (f ∷ fs) g.id) o) (at_head g gs) (same g.id)))

same_zip : (fs gs : List File) → AllZip (λ f g. f ≡ g) fs gs → fs ≡ gs
same_zip [] [] h = refl
same_zip [] (g ∷ gs) h = absurd h
same_zip (f ∷ fs) [] h = absurd h
same_zip (f ∷ fs) (g ∷ gs) h = let e = h.0 in let r = same_zip fs gs h.1 in cc

both_same : (o p : Option File) → o ≡ p → BothBy (λ f g. f ≡ g) o p
both_same None None e = tt
both_same None (Some g) e = none-some g e
both_same (Some f) None e = none-some f (sym e)
both_same (Some f) (Some g) e = same_Some f g e

-- ascending lists of files with the same look-ups are the same
pub same_by_look_up : (fs gs : List File) → AreAscending fs → AreAscending gs → ((id : ℕ) → file_at fs id ≡ file_at gs id) → fs ≡ gs
same_by_look_up fs gs rf rg same =
    same_zip fs gs (zip_by_look_up (λ f g. f ≡ g) (λ f g e. ap (λ (h : File). h.id) e) fs gs rf rg (λ id. both_same (file_at fs id) (file_at gs id) (same id)))

-- what is found has the identifier
pub at_id : (fs : List File) (id : ℕ) (f : File) → file_at fs id ≡ Some f → f.id ≡ id
at_id [] id f e = absurd (none-some f e)
at_id (g ∷ gs) id f e = either (eqb g.id id) refl e (at_id gs id f)
  where
    either : (b : Bool) → eqb g.id id ≡ b → cond b (Some g) (file_at gs id) ≡ Some f → (file_at gs id ≡ Some f → f.id ≡ id) → f.id ≡ id
    either true t h more = ap (λ (h : File). h.id) (sym (same_Some g f h)) ∙ eqb-true g.id id t
    either false t h more = more h

-- what holds of each file holds of each that is looked up, and the other way round
pub each_at : (P : File → Type 0) (fs : List File) → AllByRecursion P fs → (id : ℕ) (f : File) → file_at fs id ≡ Some f → P f
each_at P [] all id f e = absurd (none-some f e)
each_at P (g ∷ gs) all id f e = either (eqb g.id id) e (each_at P gs all.1 id f)
  where
    either : (b : Bool) → cond b (Some g) (file_at gs id) ≡ Some f → (file_at gs id ≡ Some f → P f) → P f
    either true h more = subst P (same_Some g f h) all.0
    either false h more = more h

pub each_by_look_up : (P : File → Type 0) (fs : List File) → AreAscending fs → ((id : ℕ) (f : File) → file_at fs id ≡ Some f → P f) → AllByRecursion P fs
each_by_look_up P [] r each = tt
each_by_look_up P (f ∷ fs) r each =
    (each f.id f (at_head f fs), each_by_look_up P fs r.1 (λ id g e. each id g (late id g e)))
  where
    late : (id : ℕ) (g : File) → file_at fs id ≡ Some g → file_at (f ∷ fs) id ≡ Some g
    late id g e =
        ⊎_elim (λ (l : f.id < id). at_tail f fs id (omega arith) ∙ e)
        (λ (l : id ≤ f.id). absurd (none-some g (sym (at_low fs f.id id r.0 l) ∙ e)))
        (cases_lt f.id id)
