-- What windows show is still shown after calls on spaces.
use Rattle.std.proofs.Common.{◌≡◌, ◌≢◌, ◌⊎◌, inl, inr, ℕ, ◌+◌, Bool, true, false, not, ◌&&◌, List, map, Option, Some, None, sym, ◌∙◌, ap}
use Rattle.std.specs.Prelude.{◌==◌, nat_le, nat_lt, if◌then◌else◌}
use Rattle.std.specs.List.{list_any}
use Rattle.std.specs.Option.{option_map_or}
use Rattle.std.proofs.lemmas.Bool.{eq-eqb, ne_eqb, true≢false, cases_eq}
use Rattle.flat_machine.specs.declared.space.Space.{Space}
use Rattle.flat_machine.specs.declared.space.Window.{Window}
use Rattle.flat_machine.specs.Space.{shows, space_at}
use Rattle.flat_machine.specs.Spaces.{AreSpaces}
use Rattle.flat_machine.specs.Next.{change_space, put_space, set_window, without_space}
use Rattle.flat_machine.proofs.Lists.{In, any_in, in_any, filter_in, looked_up, map_in, one_key}
use Rattle.flat_machine.proofs.SpaceEdits.{put_in}

module _ (ss : List Space) (id page : ℕ) (before : list_any (shows id page) ss ≡ true) where
  found : (s : Space) × In s ss × (shows id page s ≡ true)
  found = any_in (shows id page) ss before

  -- a space more
  pub put_shown : (x : Space) → list_any (shows id page) (put_space x ss) ≡ true
  put_shown x = in_any (shows id page) (put_space x ss) found.0 (put_in x ss found.0 found.1) found.2

  -- each space that shows the page does so when it is changed
  map_shown : (change : Space → Space) → ((s : Space) → In s ss → shows id page s ≡ true → shows id page (change s) ≡ true) → list_any (shows id page) (map change ss) ≡ true
  map_shown change still = in_any (shows id page) (map change ss) (change found.0) (map_in change ss found.0 found.1) (still found.0 found.1 found.2)

  -- another unit
  pub refitted_shown : (handle unit : ℕ) → list_any (shows id page) (change_space handle (λ s. record s { unit = unit }) ss) ≡ true
  refitted_shown handle unit = map_shown (λ s. if s.handle == handle then record s { unit = unit } else s) (λ s there is. by s (s.handle == handle) is)
    where
      by : (s : Space) (b : Bool) → shows id page s ≡ true → shows id page (if b then record s { unit = unit } else s) ≡ true
      by s true is = is
      by s false is = is

  module _ (are : AreSpaces ss) (handle : ℕ) (x : Space) (at : space_at ss handle ≡ Some x) where
    -- the space of that handle
    is_it : (s : Space) → In s ss → s.handle ≡ handle → s ≡ x
    is_it s there same = let one = looked_up (λ t. t.handle) ss handle x at in one_key (λ t. t.handle) ss are.rise s x there one.0 (same ∙ sym one.1)

    -- a space without a window shows nothing
    pub unmapped_bare : x.window ≡ None → shows id page x ≡ false
    unmapped_bare none = ap (λ (o : Option Window). option_map_or (λ w. w.file == id && nat_le w.first page && nat_lt page (w.first + x.pages)) o false) none

    module _ (bare : shows id page x ≡ false) where
      -- a space that shows the page is not this one
      elsewhere : (s : Space) → In s ss → shows id page s ≡ true → s.handle ≢ handle
      elsewhere s there is same = true≢false (sym is ∙ ap (λ (t : Space). shows id page t) (is_it s there same) ∙ bare)

      -- this space fewer
      pub left_shown : list_any (shows id page) (without_space handle ss) ≡ true
      left_shown =
          let other = elsewhere found.0 found.1 found.2 in
          in_any (shows id page) (without_space handle ss) found.0 (filter_in (λ s. not (s.handle == handle)) ss found.0 found.1 (ap not (ne_eqb found.0.handle handle other))) found.2

      -- another window of it, or none
      pub given_shown : (o : Option Window) → list_any (shows id page) (set_window handle o ss) ≡ true
      given_shown o = map_shown (λ s. if s.handle == handle then record s { window = o } else s) (λ s there is.
          let no : (s.handle == handle) ≡ false = ne_eqb s.handle handle (elsewhere s there is) in
          ap (λ (b : Bool). shows id page (if b then record s { window = o } else s)) no ∙ is)

    -- a window that shows the same
    pub moded_shown : (w v : Window) → x.window ≡ Some w → v.file ≡ w.file → v.first ≡ w.first → list_any (shows id page) (set_window handle (Some v) ss) ≡ true
    moded_shown w v has file first = map_shown (λ s. if s.handle == handle then record s { window = Some v } else s) (λ s there is. by s there is (cases_eq s.handle handle))
      where
        same_page : shows id page (record x { window = Some v }) ≡ shows id page (record x { window = Some w })
        same_page = λ i. file i == id && nat_le (first i) page && nat_lt page (first i + x.pages)

        by : (s : Space) → In s ss → shows id page s ≡ true → (s.handle ≡ handle) ⊎ (s.handle ≢ handle) → shows id page (if s.handle == handle then record s { window = Some v } else s) ≡ true
        by s there is (inl same) =
            let it : s ≡ x = is_it s there same in
            let yes : (s.handle == handle) ≡ true = eq-eqb s.handle handle same in
            ap (λ (b : Bool). shows id page (if b then record s { window = Some v } else s)) yes ∙ ap (λ (t : Space). shows id page (record t { window = Some v })) it ∙ same_page
            ∙ ap (λ (o : Option Window). shows id page (record x { window = o })) (sym has) ∙ ap (λ (t : Space). shows id page t) (sym it) ∙ is
        by s there is (inr other) =
            let no : (s.handle == handle) ≡ false = ne_eqb s.handle handle other in
            ap (λ (b : Bool). shows id page (if b then record s { window = Some v } else s)) no ∙ is
