-- Frames after the pages that a window shows came to rest.
use Rattle.std.proofs.Common.{◌≡◌, inl, inr, ℕ, ◌+◌, ◌-◌, ◌<◌, ◌≤◌, Bool, true, false, ◌&&◌, ◌||◌, List, Option, Some, None, refl, sym, ◌∙◌, ap, arith}
use Rattle.std.specs.Prelude.{◌==◌, is_some, nat_le, nat_lt, option_and_then, option_map}
use Rattle.std.specs.Option.{option_map_or}
use Rattle.std.proofs.lemmas.Bool.Decides.{nat_tests}
use Rattle.frame_pool.specs.Frames.{Slots}
use Rattle.flat_machine.specs.declared.space.FilePage.{FilePage}
use Rattle.flat_machine.specs.declared.space.Space.{Space}
use Rattle.flat_machine.specs.declared.space.Window.{Window}
use Rattle.flat_machine.specs.At.{page_through, shown_at}
use Rattle.flat_machine.specs.Next.{set_window, without_window_of}
use Rattle.flat_machine.specs.Settled.{is_unforced}
use Rattle.flat_machine.specs.Space.{holds, mapped_at, shows, space_at}
use Rattle.flat_machine.specs.Spaces.{AreSpaces}
use Rattle.flat_machine.proofs.Lists.{looked_up}
use Rattle.projection_laws.proofs.Inside.{found_showing}
use Rattle.session_words.specs.FrameLaws.{HasFrames, IsThere, is_shown}
use Rattle.session_words.specs.Parts.{DirtyAreLoose}
use Rattle.fault_core.specs.Range.{AreClean, AreGone}
use Rattle.space_calls.proofs.ShownLemmas.{given_shown}
use Rattle.space_calls.proofs.TakenMachine.{still_unforced}

-- the space shows the page of the file at a page of its own
record IsPageAt (ss : List Space) (s : Space) (id page : ℕ) : Type 0 where
  at : ℕ
  above : s.first ≤ at
  below : at < s.first + s.pages
  shown : shown_at ss at ≡ Some (record { file = id; page = page })

-- where no frame has a page, none that is dirty has it
pub gone_clean : (ss : List Space) (slots : Slots) (from to : ℕ) → AreGone ss slots from to → AreClean ss slots from to
gone_clean ss slots from to gone page shown above below is dirty = gone page shown above below is (dirty.slot, (dirty.frame, dirty.has, (dirty.same_id, dirty.same_page)))

module _ (ss : List Space) (are : AreSpaces ss) (k : ℕ) (s : Space) (w : Window) (there_at : space_at ss k ≡ Some s) (has : s.window ≡ Some w) (slots : Slots) where
  -- a page that the window shows is one of the space's
  window_page : (id page : ℕ) → shows id page s ≡ true → IsPageAt ss s id page
  window_page id page is =
      let p : ℕ = s.first + (page - w.first) in
      let tests : (w.file == id && nat_le w.first page && nat_lt page (w.first + s.pages)) ≡ true =
      sym (ap (λ (o : Option Window). option_map_or (λ w. w.file == id && nat_le w.first page && nat_lt page (w.first + s.pages)) o false) has) ∙ is in
      let same : w.file ≡ id = grind (arith, nat_tests, tests) in
      let from : w.first ≤ page = grind (arith, nat_tests, tests) in
      let last : page < w.first + s.pages = grind (arith, nat_tests, tests) in
      let held : holds s p ≡ true = grind (arith, nat_tests, from, last) in
      let mapped : is_some s.window ≡ true = ap is_some has in
      let here : mapped_at ss p ≡ Some s = found_showing ss are p s (record { there = (looked_up (λ t. t.handle) ss k s there_at).0; mapped = mapped; holds_it = held }) in
      let place : w.first + (p - s.first) ≡ page = omega (arith, from) in
      let shown : shown_at ss p ≡ Some (record { file = id; page = page }) =
      ap (λ (o : Option Space). option_and_then (λ s. option_map (λ w. page_through s w p) s.window) o) here ∙ ap (λ (o : Option Window). option_map (λ w. page_through s w p) o) has ∙ (λ i. Some (record { file = same i; page = place i })) in
      record { at = p; above = omega arith; below = omega (arith, from, last); shown = shown }

  -- frames have no page that the window alone shows
  pub frames_left : AreGone ss slots s.first (s.first + s.pages) → HasFrames slots ss → HasFrames slots (set_window k None ss)
  frames_left rest frames = record { known = λ id page there. elim (frames.known id page there) [ inl low ↦ inl low | inr shown ↦ inr (by id page there shown (shows id page s) refl) ] }
    where
      by : (id page : ℕ) → IsThere slots id page → is_shown ss id page ≡ true → (b : Bool) → shows id page s ≡ b → is_shown (set_window k None ss) id page ≡ true
      by id page there shown true is = let p = window_page id page is in absurd (rest p.at (record { file = id; page = page }) p.above p.below p.shown (there.slot, (there.frame, there.has, (there.same_id, there.same_page))))
      by id page there shown false is = given_shown ss id page shown are k s there_at is None

  -- dirty frames are of other pages
  pub loose_left : AreClean ss slots s.first (s.first + s.pages) → (us : List FilePage) → DirtyAreLoose slots us → DirtyAreLoose slots (without_window_of s us)
  loose_left rest us loose id page dirty = by (shows id page s) refl (nat_lt id 4) (nat_le 16 id) (loose id page dirty)
    where
      by : (b : Bool) → shows id page s ≡ b → (low client : Bool) → low || (client && is_unforced us id page) ≡ true → low || (client && is_unforced (without_window_of s us) id page) ≡ true
      by true is low client before = let p = window_page id page is in absurd (rest p.at (record { file = id; page = page }) p.above p.below p.shown dirty)
      by false is true client before = refl
      by false is false false before = before
      by false is false true before = still_unforced s us id page before is
