-- What an interval of the projection says of the windows.
use Rattle.std.proofs.Common.{◌≡◌, ◌⊎◌, inl, inr, ◌≤◌, ◌<◌, ℕ, zero, suc, ◌+◌, ◌-◌, Bool, true, false, List, [], ◌∷◌, Some, Option, refl, sym, ◌∙◌, ap, subst, arith}
use Rattle.std.specs.Prelude.{slice_get, None, if◌then◌else◌, ◌&&◌, option_map, option_and_then}
use Rattle.std.specs.List.{list_any}
use Rattle.std.proofs.lemmas.Bool.Decides.{nat_tests}
use Rattle.std.proofs.lemmas.Option.{same_Some, none-some}
use Rattle.labelled_disk.specs.Sectors.{Sector}
use Rattle.file_map.specs.FileMap.{Triples}
use Rattle.flat_machine.specs.declared.space.Space.{Space}
use Rattle.flat_machine.specs.declared.space.Window.{Window}
use Rattle.flat_machine.specs.declared.space.FilePage.{FilePage}
use Rattle.flat_machine.specs.Space.{holds, mapped_at, is_mapped, shows, end, root_pages}
use Rattle.flat_machine.specs.At.{shown_at, page_through}
use Rattle.flat_machine.proofs.Lists.{find_in}
use Rattle.projection_laws.proofs.Inside.{in_the_root}
use Rattle.swap_units.specs.declared.interval.Interval.{Interval}
use Rattle.swap_units.specs.Mode as mode
use Rattle.swap_units.specs.Unit.{Holds}
use Rattle.projection_laws.specs.Laws.{Reveals}
use Rattle.projection_laws.specs.Spaces.{AreSpaces}
use Rattle.projection_laws.proofs.RevealLemmas.{intervals_reveal}
use Rattle.space_tables.specs.Stored.{RevealSpaces}
use Rattle.frame_pool.specs.declared.home.Home.{Home}
use Rattle.frame_pool.specs.Frames.{Slots}
use Rattle.swapper_kernel.specs.HaltLaws.{brings_wider}
use Rattle.fault_core.specs.Reach.{BringsOwn}
use Rattle.fault_core.specs.Revealed.{IsIntervalOf, AreStored}
use Rattle.session_words.specs.FrameLaws.{is_shown, IsKnown, BringsKnown}
use Rattle.fault_core.specs.Unit.{file_page, AreShownStored, IsOfInterval, BringsShown, BringsBoth}
use Rattle.fault_core.specs.Moves.{AreSeen}
use Rattle.fault_core.proofs.KeptLemmas.{find_is}

module _ {reveals : List ℕ → Type 0} {count : ℕ} {ss : List Space} (t : RevealSpaces reveals count ss) (x : Interval) (of : IsIntervalOf ss x) where
  pub reveals_page : (page : ℕ) → Holds x page → Reveals ss x page
  reveals_page page held = intervals_reveal ss of.xs of.index page x (subst AreSpaces t.spaces t.right.spaces) of.projection of.there held

  -- where the interval is mapped, the page that is shown
  pub shown_is : (page : ℕ) → Holds x page → mode.is_mapped x.mode ≡ true → shown_at ss page ≡ Some (record { file = x.id; page = file_page x page })
  shown_is page held mapped = (reveals_page page held).shown ∙ ap (λ (b : Bool). if b then Some (record { file = x.id; page = file_page x page }) else None) mapped

  -- where it isn't, none is
  pub shown_none : (page : ℕ) → Holds x page → mode.is_mapped x.mode ≡ false → shown_at ss page ≡ None
  shown_none page held bare = (reveals_page page held).shown ∙ ap (λ (b : Bool). if b then Some (record { file = x.id; page = file_page x page }) else None) bare

  pub all_stored : (named : Triples) (m : List Sector) → AreStored named m ss → mode.is_mapped x.mode ≡ true → AreShownStored named m x
  all_stored named m stored mapped other held = stored other _ (shown_is other held mapped)

-- ---- Pages that are shown are shown by some window.

any_of : {X : Type 0} (p : X → Bool) (xs : List X) (k : ℕ) (x : X) → slice_get xs k ≡ Some x → p x ≡ true → list_any p xs ≡ true
any_of p [] k x here passes = absurd (none-some x here)
any_of p (y ∷ ys) zero x here passes = rw (same_Some y x here, passes) refl
any_of {X = X} p (y ∷ ys) (suc k) x here passes = by (p y) refl (any_of p ys k x here passes)
  where
    by : (b : Bool) → p y ≡ b → list_any p ys ≡ true → list_any p (y ∷ ys) ≡ true
    by true e rest = rw e refl
    by false e rest = rw (e, rest) refl

pub shows_through : (s : Space) (w : Window) (page : ℕ) → s.window ≡ Some w → holds s page ≡ true → shows w.file (w.first + (page - s.first)) s ≡ true
shows_through s w page has held = rw has (grind (arith, nat_tests, held))

through : (s : Space) (page : ℕ) (u : FilePage) → holds s page ≡ true → option_map (λ (w : Window). page_through s w page) s.window ≡ Some u → shows u.file u.page s ≡ true
through s page u held is = by s.window refl
  where
    by : (o : Option Window) → s.window ≡ o → shows u.file u.page s ≡ true
    by None e = absurd (none-some u (sym (ap (λ (o : Option Window). option_map (λ (w : Window). page_through s w page) o) e) ∙ is))
    by (Some w) e =
        let same : page_through s w page ≡ u = same_Some (page_through s w page) u (sym (ap (λ (o : Option Window). option_map (λ (w : Window). page_through s w page) o) e) ∙ is) in
        subst (λ (v : FilePage). shows v.file v.page s ≡ true) same (shows_through s w page e held)

pub shown_known : (ss : List Space) (page : ℕ) (u : FilePage) → shown_at ss page ≡ Some u → is_shown ss u.file u.page ≡ true
shown_known ss page u is = by (mapped_at ss page) refl
  where
    by : (o : Option Space) → mapped_at ss page ≡ o → is_shown ss u.file u.page ≡ true
    by None e = absurd (none-some u (sym (ap (λ (o : Option Space). option_and_then (λ s. option_map (λ w. page_through s w page) s.window) o) e) ∙ is))
    by (Some s) e =
        let found = find_is (λ s. is_mapped s && holds s page) ss s e in
        let both = found.2 in
        let held : holds s page ≡ true = grind (arith, both) in
        any_of (shows u.file u.page) ss found.0 s found.1 (through s page u held (sym (ap (λ (o : Option Space). option_and_then (λ s. option_map (λ w. page_through s w page) s.window) o) e) ∙ is))

-- pages that an interval shows are pages that a window shows
pub known_came : {reveals : List ℕ → Type 0} {count : ℕ} {ss : List Space} → RevealSpaces reveals count ss → (x : Interval) → IsIntervalOf ss x → mode.is_mapped x.mode ≡ true → (s t : Slots) → BringsShown x s t → BringsKnown ss s t
known_came {ss = ss} revealed x of mapped s t brings = brings_wider (λ home. IsKnown ss home.id home.page) (λ home come. elim come [
  | inl own ↦ inl own
  | inr shown ↦ inr (rw (shown.same_id, shown.same_page) (shown_known ss shown.page (record { file = x.id; page = file_page x shown.page }) (shown_is revealed x of shown.page shown.holds mapped)))
]) brings

-- so are pages of the maps and of the space tables
pub own_came : (ss : List Space) (s t : Slots) → BringsOwn s t → BringsKnown ss s t
own_came ss s t brings = brings_wider (λ home. IsKnown ss home.id home.page) (λ home own. inl own) brings

-- ---- Two intervals.

module _ (x y : Interval) (s t : Slots) where
  pub came_first : BringsShown x s t → BringsBoth x y s t
  came_first brings = brings_wider (λ home. ((1 ≤ home.id) × (home.id ≤ 3)) ⊎ (IsOfInterval x home ⊎ IsOfInterval y home)) (λ home come. elim come [ inl own ↦ inl own | inr shown ↦ inr (inl shown) ]) brings

  pub came_last : BringsShown y s t → BringsBoth x y s t
  came_last brings = brings_wider (λ home. ((1 ≤ home.id) × (home.id ≤ 3)) ⊎ (IsOfInterval x home ⊎ IsOfInterval y home)) (λ home come. elim come [ inl own ↦ inl own | inr shown ↦ inr (inr shown) ]) brings

pub seen_of : {reveals : List ℕ → Type 0} {count : ℕ} {ss : List Space} → RevealSpaces reveals count ss → (x : Interval) → IsIntervalOf ss x → mode.is_mapped x.mode ≡ true → (named : Triples) (m : List Sector) → AreStored named m ss → AreSeen ss named m x
seen_of revealed x of mapped named m stored = record { shown = λ page held. shown_is revealed x of page held mapped; stored = all_stored revealed x of named m stored mapped }

seen_home : (ss : List Space) (named : Triples) (m : List Sector) (x : Interval) → AreSeen ss named m x → (home : Home) → IsOfInterval x home → is_shown ss home.id home.page ≡ true
seen_home ss named m x seen home of = rw (of.same_id, of.same_page) (shown_known ss of.page (record { file = x.id; page = file_page x of.page }) (seen.shown of.page of.holds))

pub both_came : (ss : List Space) (named : Triples) (m : List Sector) (x y : Interval) → AreSeen ss named m x → AreSeen ss named m y → (s t : Slots) → BringsBoth x y s t → BringsKnown ss s t
both_came ss named m x y seen also s t brings = brings_wider (λ home. IsKnown ss home.id home.page) (λ home come. elim come [
  | inl own ↦ inl own
  | inr (inl of) ↦ inr (seen_home ss named m x seen home of)
  | inr (inr of) ↦ inr (seen_home ss named m y also home of)
]) brings

-- ---- After the root.

-- no window shows a page there
pub none_past : {reveals : List ℕ → Type 0} {count : ℕ} {ss : List Space} → RevealSpaces reveals count ss → (page : ℕ) → root_pages ≤ page → shown_at ss page ≡ None
none_past {ss = ss} revealed page past = by (mapped_at ss page) refl
  where
    by : (o : Option Space) → mapped_at ss page ≡ o → shown_at ss page ≡ None
    by None e = ap (λ (o : Option Space). option_and_then (λ s. option_map (λ w. page_through s w page) s.window) o) e
    by (Some s) e =
        let found = find_in (λ s. is_mapped s && holds s page) ss s e in
        let both = found.1 in
        let below : page < end s = grind (arith, nat_tests, both) in
        let last = (in_the_root ss (subst AreSpaces revealed.spaces revealed.right.spaces) s found.0).last in
        absurd (omega (arith, below, last, past))
