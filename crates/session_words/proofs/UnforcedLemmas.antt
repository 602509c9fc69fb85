-- Pages that get unforced.
use Rattle.std.proofs.Common.{◌≡◌, ℕ, zero, suc, ◌<◌, ◌≤◌, Bool, true, false, ◌&&◌, ◌||◌, List, [], ◌∷◌, ◌++◌, Option, Some, None, refl, sym, ◌∙◌, ap, subst, arith, eqb}
use Rattle.std.specs.Prelude.{slice_get, nat_le, nat_lt, if◌then◌else◌, fold, IsSomeAnd}
use Rattle.std.specs.Option.{option_map_or}
use Rattle.std.specs.List.{list_any}
use Rattle.std.proofs.lemmas.Option.{same_Some, none-some}
use Rattle.std.proofs.lemmas.Bool.{eq-eqb, false≢true}
use Rattle.labelled_disk.specs.File.{File, file_at, size}
use Rattle.labelled_disk.proofs.AscendingLemmas.{at_id, each_at}
use Rattle.flat_machine.specs.declared.space.Space.{Space}
use Rattle.flat_machine.specs.declared.space.FilePage.{FilePage}
use Rattle.flat_machine.specs.Machine.{Machine, IsFileId}
use Rattle.flat_machine.specs.IsMachine.{IsMachine}
use Rattle.flat_machine.specs.At.{shown_at}
use Rattle.flat_machine.specs.Next.{mark, mark_page, is_same_page}
use Rattle.flat_machine.specs.Settled.{is_unforced}
use Rattle.flat_machine.proofs.MoreLaws.{shown_is_there}
use Rattle.session_words.specs.Parts.{is_loose}

-- Unforced pages.

any_more : (p : FilePage → Bool) (us : List FilePage) (v : FilePage) → list_any p us ≡ true → list_any p (us ++ v ∷ []) ≡ true
any_more p [] v h = absurd (false≢true h)
any_more p (u ∷ us) v h = either (p u) h (any_more p us v)
  where
    either : (b : Bool) → (b || list_any p us) ≡ true → (list_any p us ≡ true → list_any p (us ++ v ∷ []) ≡ true) → (b || list_any p (us ++ v ∷ [])) ≡ true
    either true h more = refl
    either false h more = more h

any_last : (p : FilePage → Bool) (us : List FilePage) (v : FilePage) → p v ≡ true → list_any p (us ++ v ∷ []) ≡ true
any_last p [] v h = rw h refl
any_last p (u ∷ us) v h = either (p u) (any_last p us v h)
  where
    either : (b : Bool) → list_any p (us ++ v ∷ []) ≡ true → (b || list_any p (us ++ v ∷ [])) ≡ true
    either true more = refl
    either false more = more

mark_stays : (u : FilePage) (us : List FilePage) (id page : ℕ) → is_unforced us id page ≡ true → is_unforced (mark u us) id page ≡ true
mark_stays u us id page h = either (list_any (is_same_page u) us)
  where
    either : (b : Bool) → is_unforced (if b then us else us ++ u ∷ []) id page ≡ true
    either true = h
    either false = any_more (is_same_page (record { file = id; page = page })) us u h

mark_there : (u : FilePage) (us : List FilePage) → is_unforced (mark u us) u.file u.page ≡ true
mark_there u us = either (list_any (is_same_page u) us) refl
  where
    self : is_same_page u u ≡ true
    self = let a : eqb u.file u.file ≡ true = eq-eqb u.file u.file refl in let b : eqb u.page u.page ≡ true = eq-eqb u.page u.page refl in rw (a, b) refl

    either : (b : Bool) → list_any (is_same_page u) us ≡ b → is_unforced (if b then us else us ++ u ∷ []) u.file u.page ≡ true
    either true e = e
    either false e = any_last (is_same_page u) us u self

module _ (spaces : List Space) where
  page_stays : (p : ℕ) (us : List FilePage) (id page : ℕ) → is_unforced us id page ≡ true → is_unforced (mark_page spaces us p) id page ≡ true
  page_stays p us id page h = either (shown_at spaces p)
    where
      either : (o : Option FilePage) → is_unforced (option_map_or (λ u. mark u us) o us) id page ≡ true
      either None = h
      either (Some u) = mark_stays u us id page h

  pub pages_stay : (ps : List ℕ) (us : List FilePage) (id page : ℕ) → is_unforced us id page ≡ true → is_unforced (fold (mark_page spaces) us ps) id page ≡ true
  pages_stay [] us id page h = h
  pages_stay (p ∷ ps) us id page h = pages_stay ps (mark_page spaces us p) id page (page_stays p us id page h)

  pub pages_there : (ps : List ℕ) (us : List FilePage) (k p : ℕ) (u : FilePage) → slice_get ps k ≡ Some p → shown_at spaces p ≡ Some u → is_unforced (fold (mark_page spaces) us ps) u.file u.page ≡ true
  pages_there [] us k p u at shown = absurd (none-some p at)
  pages_there (q ∷ ps) us zero p u at shown =
      pages_stay ps (mark_page spaces us q) u.file u.page
      (subst (λ (o : Option FilePage). is_unforced (option_map_or (λ v. mark v us) o us) u.file u.page ≡ true) (sym (ap (shown_at spaces) (same_Some q p at) ∙ shown)) (mark_there u us))
  pages_there (q ∷ ps) us (suc k) p u at shown = pages_there ps (mark_page spaces us q) k p u at shown

pub loose_more : (us vs : List FilePage) → ((id page : ℕ) → is_unforced us id page ≡ true → is_unforced vs id page ≡ true) → (id page : ℕ) → is_loose us id page ≡ true → is_loose vs id page ≡ true
loose_more us vs more id page = either (nat_lt id 4) (nat_le 16 id) (is_unforced us id page) (is_unforced vs id page) (more id page)
  where
    either : (a b c e : Bool) → (c ≡ true → e ≡ true) → (a || (b && c)) ≡ true → (a || (b && e)) ≡ true
    either true b c e f h = refl
    either false true c e f h = f h
    either false false c e f h = h

pub loose_unforced : (us : List FilePage) (id page : ℕ) → 16 ≤ id → is_unforced us id page ≡ true → is_loose us id page ≡ true
loose_unforced us id page high is =
    let a : nat_lt id 4 ≡ false = grind arith in
    let b : nat_le 16 id ≡ true = grind arith in
    rw (a, b, is) refl

-- a page that is shown is one of a file
pub shown_high : (m : Machine) → IsMachine m → (p : ℕ) (u : FilePage) → shown_at m.spaces p ≡ Some u → 16 ≤ u.file
shown_high m h p u shown = either (file_at m.files u.file) refl (shown_is_there m h p u shown)
  where
    either : (o : Option File) → file_at m.files u.file ≡ o → IsSomeAnd o (λ f. u.page < size f) → 16 ≤ u.file
    either None e there = absurd there
    either (Some f) e there = let given = (each_at (λ f. IsFileId m.serial m.counter f.id) m.files h.ids_given u.file f e).above_reserved in omega (arith, given, at_id m.files u.file f e)
