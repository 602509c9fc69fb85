-- A run of pages is shown in a space of its own, and the space is taken away.
use Rattle.std.proofs.Common.{◌≡◌, ◌≢◌, ◌⊎◌, inl, inr, ℕ, zero, suc, ◌+◌, ◌-◌, ◌*◌, ◌/◌, ◌%◌, ◌<◌, ◌≤◌, Bool, true, false, not, ◌&&◌, ◌||◌, cond, List, [], ◌∷◌, map, filter, length, Option, Some, None, refl, sym, ◌∙◌, ap, subst, arith, eqb}
use Rattle.std.specs.Prelude.{nat_le, nat_lt, is_none, is_some, option_map, option_and_then, find, ◌==◌, if◌then◌else◌}
use Rattle.std.specs.Bool.{then_some}
use Rattle.std.specs.Option.{option_map_or}
use Rattle.std.specs.List.{AllByRecursion, list_any}
use Rattle.std.proofs.lemmas.Bool.{eqb-true, eqb-false, eq-eqb, ne_eqb, true≢false, and_parts, cases_eq}
use Rattle.std.proofs.lemmas.Bool.Decides.{nat_tests}
use Rattle.flat_machine.specs.declared.call.Call.{Call}
use Rattle.flat_machine.specs.declared.call.Call.TheVariants.{MakeSpace, RemoveSpace, Map, Unmap}
use Rattle.flat_machine.specs.declared.call.Refusal.{Refusal}
use Rattle.flat_machine.specs.declared.call.Refusal.TheVariants as why
use Rattle.flat_machine.specs.declared.space.Space.{Space}
use Rattle.flat_machine.specs.declared.space.Window.{Window}
use Rattle.flat_machine.specs.declared.space.FilePage.{FilePage}
use Rattle.flat_machine.specs.File.{File, size, file_at}
use Rattle.flat_machine.specs.Space.{root, end, holds, overlap, space_at, is_child_of, is_mapped, mapped_at}
use Rattle.flat_machine.specs.Machine.{Machine, IsSpace}
use Rattle.flat_machine.specs.IsMachine.{IsMachine}
use Rattle.flat_machine.specs.Spaces.{AreSpaces}
use Rattle.flat_machine.specs.At.{Spot, spot_at, shown_at, page_through}
use Rattle.flat_machine.specs.Refusal.{refusal, first_of, no_space, is_root, has_children, self_mapped, no_size, no_spaces, no_place, no_file, path_mapped, past_end, is_immutable, fits}
use Rattle.flat_machine.specs.Next.{next, change, new_space, first_page_for, lowest_unused, is_unused, put_space, set_window, without_space, without_window_of, at_space, unmapped}
use Rattle.flat_machine.proofs.Lists.{In, all_in, in_map, any_not, find_in, not_found, one_key, looked_up, look_up, map_in}
use Rattle.flat_machine.proofs.TestLemmas.{four_none, six_none, then_none, space_there, not_root, file_there, of_file_none, of_space_none}
use Rattle.flat_machine.proofs.HandleLemmas.{lowest_free, put_rises}
use Rattle.flat_machine.proofs.SpaceLemmas.{parent_at, two_at}
use Rattle.flat_machine.proofs.SpaceEdits.{in_put, put_there, other_handles}
use Rattle.flat_machine.proofs.KeepSpaces.{place_fits, inside_of, zero_used}
use Rattle.flat_machine.proofs.Keep.{spaces_of}
use Rattle.flat_machine.proofs.NextLemmas.{next_keeps_machine}
use Rattle.flat_machine.proofs.StoreLemmas.{unrefused}
use Rattle.documents.specs.Windows.{place}

-- Lists of spaces.

same_handle : (h : ℕ) → h == h ≡ true
same_handle h = eq-eqb h h refl

without_unused : (ss : List Space) (h : ℕ) → is_unused ss h ≡ true → without_space h ss ≡ ss
without_unused [] h u = refl
without_unused (s ∷ ss) h u = either (s.handle == h) u (without_unused ss h)
  where
    either : (b : Bool) → not (b || list_any (λ t. t.handle == h) ss) ≡ true → (is_unused ss h ≡ true → without_space h ss ≡ ss)
        → cond (not b) (s ∷ without_space h ss) (without_space h ss) ≡ s ∷ ss
    either true q f = absurd (true≢false (sym q))
    either false q f = ap (λ (rest : List Space). s ∷ rest) (f q)

-- what was put in is taken out again
without_put : (x : Space) (ss : List Space) → is_unused ss x.handle ≡ true → without_space x.handle (put_space x ss) ≡ ss
without_put x [] u = ap (λ (b : Bool). cond (not b) (x ∷ []) []) (same_handle x.handle)
without_put x (s ∷ ss) u = either (nat_lt x.handle s.handle) (s.handle == x.handle) refl u (without_put x ss)
  where
    either : (b c : Bool) → s.handle == x.handle ≡ c → not (c || list_any (λ t. t.handle == x.handle) ss) ≡ true
        → (is_unused ss x.handle ≡ true → without_space x.handle (put_space x ss) ≡ ss)
        → without_space x.handle (cond b (x ∷ s ∷ ss) (s ∷ put_space x ss)) ≡ s ∷ ss
    either b true e q f = absurd (true≢false (sym q))
    either true false e q f =
        ap (λ (d : Bool). cond (not d) (x ∷ without_space x.handle (s ∷ ss)) (without_space x.handle (s ∷ ss))) (same_handle x.handle)
        ∙ ap (λ (d : Bool). cond (not d) (s ∷ without_space x.handle ss) (without_space x.handle ss)) e
        ∙ ap (λ (rest : List Space). s ∷ rest) (without_unused ss x.handle q)
    either false false e q f =
        ap (λ (d : Bool). cond (not d) (s ∷ without_space x.handle (put_space x ss)) (without_space x.handle (put_space x ss))) e
        ∙ ap (λ (rest : List Space). s ∷ rest) (f q)

-- a window that is given and taken away, where there was none
pub window_back : (h : ℕ) (o : Option Window) (ss : List Space) → ((s : Space) → In s ss → s.handle ≡ h → s.window ≡ None) → set_window h None (set_window h o ss) ≡ ss
window_back h o [] none = refl
window_back h o (s ∷ ss) none =
    let rest = window_back h o ss (λ t i. none t (inr i)) in
    λ i. one (s.handle == h) refl i ∷ rest i
  where
    one : (b : Bool) → s.handle == h ≡ b
        → (if (if s.handle == h then record s { window = o } else s).handle == h then record (if s.handle == h then record s { window = o } else s) { window = None } else (if s.handle == h then record s { window = o } else s)) ≡ s
    one true e =
        ap (λ (b : Bool). if (if b then record s { window = o } else s).handle == h then record (if b then record s { window = o } else s) { window = None } else (if b then record s { window = o } else s)) e
        ∙ ap (λ (b : Bool). if b then record s { window = None } else record s { window = o }) e
        ∙ ap (λ (w : Option Window). record s { window = w }) (sym (none s (inl refl) (eqb-true s.handle h e)))
    one false e =
        ap (λ (b : Bool). if (if b then record s { window = o } else s).handle == h then record (if b then record s { window = o } else s) { window = None } else (if b then record s { window = o } else s)) e
        ∙ ap (λ (b : Bool). if b then record s { window = None } else s) e

-- what has the handle has the window
pub given_at : (h : ℕ) (o : Option Window) (ss : List Space) (s : Space) → space_at ss h ≡ Some s → space_at (set_window h o ss) h ≡ Some (record s { window = o })
given_at h o [] s is = absurd (cc is)
given_at h o (t ∷ ts) s is = either (t.handle == h) refl is (given_at h o ts s)
  where
    either : (b : Bool) → t.handle == h ≡ b → cond b (Some t) (space_at ts h) ≡ Some s → (space_at ts h ≡ Some s → space_at (set_window h o ts) h ≡ Some (record s { window = o }))
        → cond ((if t.handle == h then record t { window = o } else t).handle == h) (Some (if t.handle == h then record t { window = o } else t)) (space_at (set_window h o ts) h) ≡ Some (record s { window = o })
    either true e q f =
        let same : t ≡ s = cc q in
        ap (λ (b : Bool). cond ((if b then record t { window = o } else t).handle == h) (Some (if b then record t { window = o } else t)) (space_at (set_window h o ts) h)) e
        ∙ ap (λ (b : Bool). cond b (Some (record t { window = o })) (space_at (set_window h o ts) h)) e
        ∙ ap (λ (r : Space). Some (record r { window = o })) same
    either false e q f =
        ap (λ (b : Bool). cond ((if b then record t { window = o } else t).handle == h) (Some (if b then record t { window = o } else t)) (space_at (set_window h o ts) h)) e
        ∙ ap (λ (b : Bool). cond b (Some t) (space_at (set_window h o ts) h)) e
        ∙ f q

-- A space for a run.

-- what is so of it
pub record IsMade (m : Machine) (pages : ℕ) : Type 0 where
  pub unused : is_unused m.spaces (place m pages).handle ≡ true
  pub not_root : (place m pages).handle ≢ 0
  pub some : 1 ≤ pages
  pub inside : (place m pages).first + pages ≤ 8126464
  pub there : space_at (put_space (place m pages) m.spaces) (place m pages).handle ≡ Some (place m pages)
  pub after : next m (MakeSpace 0 pages None) ≡ record m { spaces = put_space (place m pages) m.spaces }

pub is_made : (m : Machine) (pages : ℕ) → IsMachine m → refusal m (MakeSpace 0 pages None) ≡ None → IsMade m pages
is_made m pages h e =
    let tests = four_none (no_space m.spaces 0) (no_size pages) (no_spaces m.spaces) (no_place m.spaces 0 pages None) e in
    let spaces = spaces_of m h in
    let free = lowest_free m.spaces spaces.rise (zero_used m.spaces spaces) in
    let some : pages ≢ 0 = eqb-false pages 0 (then_none (pages == 0) why.Size tests.1) in
    let good = place_fits m.spaces 0 pages None root h.has_root tests.3 in
    let inside = inside_of m.spaces root pages (first_page_for m.spaces 0 pages None) good in
    record {
      unused = free.0;
      not_root = λ z. absurd (omega (arith, free.1, z));
      some = omega (arith, some);
      inside = inside.1;
      there = look_up (λ s. s.handle) (put_space (place m pages) m.spaces) (put_rises (place m pages) m.spaces spaces.rise free.0) (place m pages)
          (put_there (place m pages) m.spaces) (place m pages).handle refl;
      after = unrefused m (MakeSpace 0 pages None) e;
    }

-- no space has it as its parent
no_child : (m : Machine) (pages : ℕ) → IsMachine m → IsMade m pages → list_any (is_child_of (place m pages).handle) (put_space (place m pages) m.spaces) ≡ false
no_child m pages h made = any_not (is_child_of x.handle) (put_space x m.spaces) (λ s i. either s (in_put x m.spaces s i))
  where
    x : Space
    x = place m pages

    not_parent : (s : Space) → s.parent ≢ (place m pages).handle → is_child_of (place m pages).handle s ≡ false
    not_parent s n =
        let f : eqb s.parent (place m pages).handle ≡ false = ne_eqb s.parent (place m pages).handle n in
        ap (λ (b : Bool). not (s.handle == 0) && b) f ∙ last (not (s.handle == 0))
      where
        last : (b : Bool) → b && false ≡ false
        last true = refl
        last false = refl

    either : (s : Space) → (place m pages ≡ s) ⊎ In s m.spaces → is_child_of (place m pages).handle s ≡ false
    either s (inl e) = subst (λ (t : Space). is_child_of (place m pages).handle t ≡ false) e (not_parent (place m pages) (λ q. made.not_root (sym q)))
    either s (inr i) =
        let p = parent_at m.spaces s (all_in (IsSpace m.spaces) m.spaces h.whole_spaces s i) in
        not_parent s (λ q. other_handles m.spaces (place m pages).handle made.unused p.0 p.1.there (p.1.parent ∙ q))

-- The space is taken away, where it has no window.
pub removed : (m n : Machine) (pages : ℕ) → IsMachine m → IsMade m pages → n.spaces ≡ put_space (place m pages) m.spaces
    → (refusal n (RemoveSpace (place m pages).handle) ≡ None) × (next n (RemoveSpace (place m pages).handle) ≡ record n { spaces = m.spaces })
removed m n pages h made same =
    let free : refusal n (RemoveSpace x.handle) ≡ None = ap (λ (ss : List Space). first_of (no_space ss x.handle ∷ is_root x.handle ∷ has_children ss x.handle ∷ self_mapped ss x.handle ∷ [])) same ∙ tests in
    (free, unrefused n (RemoveSpace x.handle) free ∙ ap (λ (ss : List Space). record n { spaces = ss }) (ap (λ (ss : List Space). without_space x.handle ss) same ∙ without_put x m.spaces made.unused))
  where
    x : Space
    x = place m pages

    tests : first_of (no_space (put_space (place m pages) m.spaces) (place m pages).handle ∷ is_root (place m pages).handle
        ∷ has_children (put_space (place m pages) m.spaces) (place m pages).handle ∷ self_mapped (put_space (place m pages) m.spaces) (place m pages).handle ∷ []) ≡ None
    tests =
        ap (λ (o : Option Space). first_of (then_some (is_none o) why.Space ∷ is_root (place m pages).handle
        ∷ has_children (put_space (place m pages) m.spaces) (place m pages).handle
        ∷ option_and_then (λ s. then_some (is_mapped s) (why.Mapped (place m pages).handle)) o ∷ [])) made.there
        ∙ ap (λ (b : Bool). first_of (then_some b why.Root ∷ has_children (put_space (place m pages) m.spaces) (place m pages).handle ∷ None ∷ [])) (ne_eqb (place m pages).handle 0 made.not_root)
        ∙ ap (λ (b : Bool). first_of (then_some b why.Children ∷ None ∷ [])) (no_child m pages h made)
