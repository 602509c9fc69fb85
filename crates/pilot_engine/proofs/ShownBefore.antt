-- What windows show at a page of the virtual memory after a call, from what they showed there before it.
use Rattle.std.proofs.Common.{◌≡◌, ◌⊎◌, inl, inr, ℕ, ◌+◌, ◌<◌, ◌≤◌, map, Bool, true, false, List, Option, Some, None, refl, sym, ◌∙◌, ap, subst}
use Rattle.std.specs.Prelude.{◌==◌, if◌then◌else◌, is_none, option_and_then, option_map}
use Rattle.std.proofs.lemmas.Bool.{eqb-true, true≢false}
use Rattle.std.specs.Option.{option_map_or}
use Rattle.std.proofs.lemmas.Option.{none-some, same_Some}
use Rattle.flat_machine.specs.declared.call.Call.{Call}
use Rattle.flat_machine.specs.declared.call.Call.TheVariants as call
use Rattle.flat_machine.specs.declared.call.Refusal.{Refusal}
use Rattle.flat_machine.specs.declared.space.FilePage.{FilePage}
use Rattle.flat_machine.specs.declared.space.Space.{Space}
use Rattle.flat_machine.specs.declared.space.Window.{Window}
use Rattle.flat_machine.specs.After.{ends_trace}
use Rattle.flat_machine.specs.At.{page_through, shown_at}
use Rattle.flat_machine.specs.IsMachine.{IsMachine}
use Rattle.flat_machine.specs.Machine.{Machine}
use Rattle.flat_machine.specs.Next.{change, killed_file, without_shown_within, change_space, mapped_anonymous, new_id, new_space, next, protected, put_space, set_window, unmapped, with_mode, without_space}
use Rattle.flat_machine.specs.Refusal.{refusal}
use Rattle.flat_machine.specs.Space.{holds, is_mapped, mapped_at, space_at}
use Rattle.flat_machine.specs.Spaces.{AreSpaces}
use Rattle.flat_machine.proofs.Keep.{spaces_of}
use Rattle.flat_machine.proofs.Lists.{In, in_filter, in_map, look_up}
use Rattle.flat_machine.proofs.SpaceEdits.{in_put}
use Rattle.flight_core.specs.Tried.{IsMapped}
use Rattle.projection_laws.proofs.Inside.{found_showing, hold_parts, showing_found}

-- the space has a window, which shows this at its page
pub record ShowsSo (page : ℕ) (u : FilePage) (s : Space) : Type 0 where
  pub window : Window
  pub has : s.window ≡ Some window
  pub holds_it : holds s page ≡ true
  pub shows : page_through s window page ≡ u

-- one of these does
abbrev IsShownBy : List Space → ℕ → FilePage → Type 0
IsShownBy ss page u = (s : Space) × In s ss × ShowsSo page u s

by_shown : (ss : List Space) (page : ℕ) (u : FilePage) → shown_at ss page ≡ Some u → IsShownBy ss page u
by_shown ss page u is = by (mapped_at ss page) refl is
  where
    through : (s : Space) → In s ss → holds s page ≡ true → (o : Option Window) → s.window ≡ o → option_map (λ w. page_through s w page) o ≡ Some u → IsShownBy ss page u
    through s there held None has so = absurd (none-some u so)
    through s there held (Some w) has so = (s, there, record { window = w; has = has; holds_it = held; shows = same_Some (page_through s w page) u so })

    by : (o : Option Space) → mapped_at ss page ≡ o → option_and_then (λ s. option_map (λ w. page_through s w page) s.window) o ≡ Some u → IsShownBy ss page u
    by None at so = absurd (none-some u so)
    by (Some s) at so = let found = showing_found ss page s at in through s found.there found.holds_it s.window refl so

module _ (ss : List Space) (are : AreSpaces ss) (page : ℕ) (u : FilePage) where
  shown_by : (s : Space) → In s ss → ShowsSo page u s → shown_at ss page ≡ Some u
  shown_by s there shows =
      let at : mapped_at ss page ≡ Some s = found_showing ss are page s (record { there = there; mapped = ap (λ (o : Option Window). is_mapped (record s { window = o })) shows.has; holds_it = shows.holds_it }) in
      ap (λ (o : Option Space). option_and_then (λ t. option_map (λ w. page_through t w page) t.window) o) at
      ∙ ap (λ (o : Option Window). option_map (λ w. page_through s w page) o) shows.has ∙ ap (λ (v : FilePage). Some v) shows.shows

  -- where it was shown before, this is so
  module _ (G : Type 0) (still : shown_at ss page ≡ Some u → G) where
    shown_still : (s : Space) → In s ss → ShowsSo page u s → G
    shown_still s there shows = still (shown_by s there shows)

    -- a space more, which has no window
    put_before : (x : Space) → x.window ≡ None → shown_at (put_space x ss) page ≡ Some u → G
    put_before x bare is =
        let found = by_shown (put_space x ss) page u is in
        by found.0 (in_put x ss found.0 found.1) found.2
      where
        by : (t : Space) → (x ≡ t) ⊎ In t ss → ShowsSo page u t → G
        by t (inl same) shows = absurd (none-some shows.window (sym bare ∙ ap (λ (s : Space). s.window) same ∙ shows.has))
        by t (inr there) shows = shown_still t there shows

    -- a space fewer
    left_before : (handle : ℕ) → shown_at (without_space handle ss) page ≡ Some u → G
    left_before handle is =
        let found = by_shown (without_space handle ss) page u is in
        shown_still found.0 (in_filter _ ss found.0 found.1).0 found.2

    -- the space of one handle is changed
    changed_before : (handle : ℕ) (how : Space → Space) → ((s : Space) → In s ss → s.handle ≡ handle → ShowsSo page u (how s) → G) → shown_at (change_space handle how ss) page ≡ Some u → G
    changed_before handle how there_so is =
        let found = by_shown (change_space handle how ss) page u is in
        let was = in_map (λ s. if s.handle == handle then how s else s) ss found.0 found.1 in
        by was.0 was.1 (was.0.handle == handle) refl (subst (λ (t : Space). ShowsSo page u t) (sym was.2) found.2)
      where
        by : (s : Space) → In s ss → (b : Bool) → (s.handle == handle) ≡ b → ShowsSo page u (if b then how s else s) → G
        by s there true same shows = there_so s there (eqb-true s.handle handle same) shows
        by s there false other shows = shown_still s there shows

    refitted_before : (handle unit : ℕ) → shown_at (change_space handle (λ s. record s { unit = unit }) ss) page ≡ Some u → G
    refitted_before handle unit = changed_before handle (λ s. record s { unit = unit }) (λ s there same shows. shown_still s there (record { window = shows.window; has = shows.has; holds_it = shows.holds_it; shows = shows.shows }))

    bared_before : (handle : ℕ) → shown_at (set_window handle None ss) page ≡ Some u → G
    bared_before handle = changed_before handle (λ s. record s { window = None }) (λ s there same shows. absurd (none-some shows.window shows.has))

    moded_before : (handle : ℕ) (writable : Bool) → shown_at (change_space handle (λ s. record s { window = option_map (with_mode writable) s.window }) ss) page ≡ Some u → G
    moded_before handle writable = changed_before handle (λ s. record s { window = option_map (with_mode writable) s.window }) (λ s there same shows. by s there s.window refl shows)
      where
        by : (s : Space) → In s ss → (o : Option Window) → s.window ≡ o → ShowsSo page u (record s { window = option_map (with_mode writable) o }) → G
        by s there None has shows = absurd (none-some shows.window shows.has)
        by s there (Some v) has shows =
            let mode : with_mode writable v ≡ shows.window = same_Some (with_mode writable v) shows.window shows.has in
            shown_still s there (record { window = v; has = has; holds_it = shows.holds_it; shows = ap (λ (w : Window). page_through s w page) mode ∙ shows.shows })

    given_before : (handle : ℕ) (w : Window) → ((s : Space) → space_at ss handle ≡ Some s → s.first ≤ page → page < s.first + s.pages → w.file ≡ u.file → G) → shown_at (set_window handle (Some w) ss) page ≡ Some u → G
    given_before handle w here = changed_before handle (λ s. record s { window = Some w }) (λ s there same shows.
        let held = hold_parts s page shows.holds_it in
        let it : w ≡ shows.window = same_Some w shows.window shows.has in
        here s (look_up (λ t. t.handle) ss are.rise s there handle same) held.0 held.1 (ap (λ (v : Window). v.file) it ∙ ap (λ (v : FilePage). v.file) shows.shows))

-- It was shown there before the call; or the page is one of a space that the call maps, or what is shown is of a new file.
abbrev pub WasShown : Machine → Call → ℕ → FilePage → Type 0
WasShown m c page u = (shown_at m.spaces page ≡ Some u) ⊎ (IsMapped m c page ⊎ (u.file ≡ new_id m))

module _ (m : Machine) (h : IsMachine m) (page : ℕ) (u : FilePage) where
  are : AreSpaces m.spaces
  are = spaces_of m h

  changed : (c : Call) → ends_trace c ≡ false → refusal m c ≡ None → shown_at (change m c).spaces page ≡ Some u → WasShown m c page u
  changed (call.MakeSpace parent pages first) more free is = put_before m.spaces are page u _ inl (new_space m.spaces parent pages first) refl is
  changed (call.RemoveSpace space) more free is = left_before m.spaces are page u _ inl space is
  changed (call.Units space pages) more free is = refitted_before m.spaces are page u _ inl space pages is
  changed (call.Map space id first writable) more free is =
      given_before m.spaces are page u _ inl space (record { file = id; first = first; writable = writable; anonymous = false }) (λ s at low below file. inr (inl (free, (s, at, low, below)))) is
  changed (call.MapAnonymous space) more free is = by (space_at m.spaces space) is
    where
      by : (o : Option Space) → shown_at (option_map_or (mapped_anonymous m) o m).spaces page ≡ Some u → WasShown m (call.MapAnonymous space) page u
      by None is = inl is
      by (Some s) is = given_before m.spaces are page u _ inl s.handle (record { file = new_id m; first = 0; writable = true; anonymous = true }) (λ t at low below file. inr (inr (sym file))) is
  changed (call.Unmap space) more free is = by (space_at m.spaces space) is
    where
      by : (o : Option Space) → shown_at (option_map_or (unmapped m) o m).spaces page ≡ Some u → WasShown m (call.Unmap space) page u
      by None is = inl is
      by (Some s) is = bared_before m.spaces are page u _ inl s.handle is
  changed (call.Protect space writable) more free is = by (space_at m.spaces space) is
    where
      by : (o : Option Space) → shown_at (option_map_or (protected m writable) o m).spaces page ≡ Some u → WasShown m (call.Protect space writable) page u
      by None is = inl is
      by (Some s) is = moded_before m.spaces are page u _ inl s.handle writable is
  changed (call.Kill space) more free is = by (space_at m.spaces space) is
    where
      by : (o : Option Space) → shown_at (option_map_or (λ s. record m { files = map (killed_file m.spaces s) m.files }) o m).spaces page ≡ Some u → WasShown m (call.Kill space) page u
      by None is = inl is
      by (Some s) is = inl is
  changed (call.ForceOut space) more free is = by (space_at m.spaces space) is
    where
      by : (o : Option Space) → shown_at (option_map_or (λ s. record m { unforced = without_shown_within m.spaces s m.unforced }) o m).spaces page ≡ Some u → WasShown m (call.ForceOut space) page u
      by None is = inl is
      by (Some s) is = inl is
  changed call.Close more free is = absurd (true≢false more)
  changed call.Halt more free is = absurd (true≢false more)
  changed (call.Create pages kind) more free is = inl is
  changed (call.Delete id) more free is = inl is
  changed (call.Attributes id) more free is = inl is
  changed (call.SetSize id pages) more free is = inl is
  changed (call.MakePermanent id) more free is = inl is
  changed (call.MakeImmutable id) more free is = inl is
  changed (call.Next id) more free is = inl is
  changed call.Volume more free is = inl is
  changed (call.Place at) more free is = inl is
  changed (call.Load address count) more free is = inl is
  changed (call.Store address bytes) more free is = inl is
  changed (call.Activate space) more free is = inl is
  changed (call.Deactivate space) more free is = inl is

  -- what is shown after a call
  pub was_shown : (c : Call) → ends_trace c ≡ false → shown_at (next m c).spaces page ≡ Some u → WasShown m c page u
  was_shown c more is = by (refusal m c) refl is
    where
      by : (o : Option Refusal) → refusal m c ≡ o → shown_at (if is_none o then change m c else m).spaces page ≡ Some u → WasShown m c page u
      by None free is = changed c more free is
      by (Some word) refused is = inl is
