-- Calls that change units and windows keep a machine.
use Rattle.std.proofs.Common.{◌≡◌, ◌≢◌, ◌⊎◌, inl, inr, ℕ, ◌+◌, ◌<◌, ◌≤◌, Bool, true, false, ◌&&◌, ◌||◌, List, [], ◌∷◌, map, Option, Some, None, refl, sym, ◌∙◌, ap, subst, arith, eqb}
use Rattle.std.specs.Prelude.{IfSome, IsSomeAnd, IsFalse, nat_lt, is_some, ◌==◌, if◌then◌else◌}
use Rattle.std.specs.Option.{option_map_or}
use Rattle.std.specs.Bool.{then_some}
use Rattle.std.proofs.lemmas.Bool.{eq-eqb, ne_eqb, true≢false, false≢true, and_parts, ltb-false, cases_eq}
use Rattle.std.proofs.lemmas.Bool.Decides.{nat_tests}
use Rattle.std.proofs.lemmas.Option.{same_Some}
use Rattle.flat_machine.specs.declared.call.Call.TheVariants.{Units, Map}
use Rattle.flat_machine.specs.declared.call.Refusal.TheVariants as why
use Rattle.flat_machine.specs.File.{File, size, file_at}
use Rattle.flat_machine.specs.Space.{Space, Window, FilePage, root, end, overlap, space_at, is_mapped, is_writable, shows}
use Rattle.flat_machine.specs.Machine.{Machine, IsSpace, IsWindow}
use Rattle.flat_machine.specs.IsMachine.{IsMachine}
use Rattle.flat_machine.specs.Refusal.{refusal, no_space, is_root, no_unit, no_file, path_mapped, past_end, is_immutable, of_file}
use Rattle.flat_machine.specs.Next.{next, change_space, set_window}
use Rattle.flat_machine.proofs.Lists.{In, all_in, in_all, in_map, map_in, any_in, in_any, not_any, one_key, looked_up}
use Rattle.flat_machine.proofs.TestLemmas.{three_none, six_none, then_none, file_there, of_file_none, space_there, of_space_none, path_free, not_root, none_anonymous}
use Rattle.flat_machine.specs.Spaces.{AreAlone}
use Rattle.flat_machine.proofs.SpaceLemmas.{AreSpaces, fitted, fitted_spaces, fitted_alone, two_at, two_by}
use Rattle.flat_machine.proofs.SpaceEdits.{overlap_swap}
use Rattle.flat_machine.proofs.KeepSpaces.{mapped_of}
use Rattle.flat_machine.proofs.Keep.{Linked, Shown, spaces_of, refused_or, with_spaces, window_at, if_window}

pub map_same : {X Y : Type 0} (f g : X → Y) → ((x : X) → f x ≡ g x) → (xs : List X) → map f xs ≡ map g xs
map_same f g k [] = refl
map_same f g k (x ∷ xs) = λ t. k x t ∷ map_same f g k xs t

-- The windows of changed spaces.

pub linked_fitted : (fs : List File) (u : Space → ℕ) (w : Space → Option Window) (ss : List Space)
    → ((s : Space) (v : Window) → In s ss → w s ≡ Some v → IsWindow fs s.pages v) → Linked fs (map (fitted u w) ss)
linked_fitted fs u w ss f = in_all _ (map (fitted u w) ss) (λ y i. let r = in_map (fitted u w) ss y i in
    subst (λ (t : Space). IfSome t.window (IsWindow fs t.pages)) r.2 (if_window (IsWindow fs r.0.pages) (w r.0) (λ v e. f r.0 v r.1 e)))

-- each page is shown by a space whose window stays
pub shown_fitted : (u : Space → ℕ) (w : Space → Option Window) (ss : List Space) (us : List FilePage)
    → ((x : FilePage) → In x us → (s : Space) × In s ss × (is_writable (fitted u w s) && shows x.file x.page (fitted u w s) ≡ true)) → Shown (map (fitted u w) ss) us
shown_fitted u w ss us f = in_all _ us (λ x i. let r = f x i in
    in_any (λ s. is_writable s && shows x.file x.page s) (map (fitted u w) ss) (fitted u w r.0) (map_in (fitted u w) ss r.0 r.1) r.2)

pub shown_still : (u : Space → ℕ) (w : Space → Option Window) (s : Space) (x : FilePage) → w s ≡ s.window → is_writable s && shows x.file x.page s ≡ true
    → is_writable (fitted u w s) && shows x.file x.page (fitted u w s) ≡ true
shown_still u w s x e t = subst (λ (o : Option Window). is_writable (record s { unit = u s; window = o }) && shows x.file x.page (record s { unit = u s; window = o }) ≡ true) (sym e) t

-- the same unit
abbrev pub own : Space → ℕ
own s = s.unit

-- units

-- the given unit for one space
abbrev pub units_of : ℕ → ℕ → Space → ℕ
units_of k n s = if s.handle == k then n else s.unit

abbrev pub window_of : Space → Option Window
window_of s = s.window

pub units_are_set : (k n : ℕ) (ss : List Space) → map (fitted (units_of k n) window_of) ss ≡ change_space k (λ s. record s { unit = n }) ss
units_are_set k n ss = map_same (fitted (units_of k n) window_of) (λ s. if s.handle == k then record s { unit = n } else s) (λ s. either s (s.handle == k)) ss
  where
    either : (s : Space) (b : Bool) → record s { unit = if b then n else s.unit; window = s.window } ≡ (if b then record s { unit = n } else s)
    either s true = refl
    either s false = refl

pub units_keeps : (space n : ℕ) (m : Machine) → IsMachine m → IsMachine (next m (Units space n))
units_keeps space n m h = refused_or m (Units space n) h kept
  where
    in_range : (n == 0) || nat_lt 16 n ≡ false → (1 ≤ n) × (n ≤ 16)
    in_range e = (grind (arith, nat_tests), grind (arith, nat_tests))

    units : (1 ≤ n) × (n ≤ 16) → (s : Space) (b : Bool) → (1 ≤ s.unit) × (s.unit ≤ 16) → (1 ≤ (if b then n else s.unit)) × ((if b then n else s.unit) ≤ 16)
    units r s true old = r
    units r s false old = old

    kept : refusal m (Units space n) ≡ None → IsMachine (record m { spaces = change_space space (λ s. record s { unit = n }) m.spaces })
    kept e =
        let tests = three_none (no_space m.spaces space) (is_root space) (no_unit n) e in
        let range = in_range (then_none ((n == 0) || nat_lt 16 n) why.Size tests.2) in
        let other : eqb 0 space ≡ false = ne_eqb 0 space (λ q. not_root space tests.1 (sym q)) in
        subst (λ (ss : List Space). IsMachine (record m { spaces = ss })) (units_are_set space n m.spaces)
        (with_spaces m (map (fitted (units_of space n) window_of) m.spaces)
        (fitted_spaces (units_of space n) window_of m.spaces (ap (λ (b : Bool). record root { unit = if b then n else 16 }) other) (λ s i old. units range s (s.handle == space) old)
        h.one_mapped_on_a_path (spaces_of m h))
        (fitted_alone (units_of space n) window_of m.spaces h.anonymous_alone)
        (linked_fitted m.files (units_of space n) window_of m.spaces (λ s v i q. window_at m.files m.spaces h.whole_windows s v i q))
        (shown_fitted (units_of space n) window_of m.spaces m.unforced (λ x i. any_in _ m.spaces (all_in _ m.unforced h.unforced_shown x i))) h)

-- One space's window.

-- the given window for one space
abbrev pub win : ℕ → Option Window → Space → Option Window
win k o s = if s.handle == k then o else s.window

pub win_here : (k : ℕ) (o : Option Window) (s : Space) → s.handle ≡ k → win k o s ≡ o
win_here k o s e = let t : eqb s.handle k ≡ true = eq-eqb s.handle k e in ap (λ (b : Bool). if b then o else s.window) t

pub win_else : (k : ℕ) (o : Option Window) (s : Space) → s.handle ≢ k → win k o s ≡ s.window
win_else k o s n = let t : eqb s.handle k ≡ false = ne_eqb s.handle k n in ap (λ (b : Bool). if b then o else s.window) t

pub win_is_set : (k : ℕ) (o : Option Window) (ss : List Space) → map (fitted own (win k o)) ss ≡ set_window k o ss
win_is_set k o ss = map_same (fitted own (win k o)) (λ s. if s.handle == k then record s { window = o } else s) (λ s. either s (s.handle == k)) ss
  where
    either : (s : Space) (b : Bool) → record s { unit = s.unit; window = if b then o else s.window } ≡ (if b then record s { window = o } else s)
    either s true = refl
    either s false = refl

pub win_root : (k : ℕ) (o : Option Window) → k ≢ 0 → fitted own (win k o) root ≡ root
win_root k o n = ap (λ (p : Option Window). record root { window = p }) (win_else k o root (λ e. n (sym e)))

-- the first window is anonymous, and the second is on its file
abbrev pub shares : Option Window → Option Window → Bool
shares o p = option_map_or (λ w. w.anonymous && option_map_or (λ v. v.file == w.file) p false) o false

pub shares_none : (o : Option Window) → shares o None ≡ false
shares_none None = refl
shares_none (Some w) = either w.anonymous
  where
    either : (b : Bool) → b && false ≡ false
    either true = refl
    either false = refl

-- A window is given to a space that shares no page with a mapped one.

pub given_spaces : (ss : List Space) (k : ℕ) (s : Space) (w : Window) → space_at ss k ≡ Some s → k ≢ 0 → ((t : Space) → In t ss → is_mapped t ≡ true → overlap s t ≡ false)
    → AreSpaces ss → AreSpaces (map (fitted own (win k (Some w))) ss)
given_spaces ss k s w is n free h =
    fitted_spaces own (win k (Some w)) ss (win_root k (Some w) n) (λ t i old. old)
    (two_by _ ss (λ x y i j d. path x y i j d (cases_eq x.handle k) (cases_eq y.handle k))) h
  where
    is_it : (x : Space) → In x ss → x.handle ≡ k → s ≡ x
    is_it x i e = let at = looked_up (λ t. t.handle) ss k s is in one_key (λ t. t.handle) ss h.rise s x at.0 i (at.1 ∙ sym e)

    mapped_there : (x : Space) → x.handle ≢ k → is_some (win k (Some w) x) ≡ true → is_mapped x ≡ true
    mapped_there x d e = ap (λ (o : Option Window). is_some o) (sym (win_else k (Some w) x d)) ∙ e

    path : (x y : Space) → In x ss → In y ss → x.handle ≢ y.handle → (x.handle ≡ k) ⊎ (x.handle ≢ k) → (y.handle ≡ k) ⊎ (y.handle ≢ k)
        → is_some (win k (Some w) x) && is_some (win k (Some w) y) ≡ true → overlap x y ≡ false
    path x y i j d (inl p) (inl q) t = absurd (d (p ∙ sym q))
    path x y i j d (inl p) (inr q) t =
        let parts = and_parts (is_some (win k (Some w) x)) (is_some (win k (Some w) y)) t in
        subst (λ (z : Space). overlap z y ≡ false) (is_it x i p) (free y j (mapped_there y q parts.1))
    path x y i j d (inr p) (inl q) t =
        let parts = and_parts (is_some (win k (Some w) x)) (is_some (win k (Some w) y)) t in
        overlap_swap x y ∙ subst (λ (z : Space). overlap z x ≡ false) (is_it y j q) (free x i (mapped_there x p parts.0))
    path x y i j d (inr p) (inr q) t =
        let parts = and_parts (is_some (win k (Some w) x)) (is_some (win k (Some w) y)) t in
        let a : is_mapped x ≡ true = mapped_there x p parts.0 in
        let b : is_mapped y ≡ true = mapped_there y q parts.1 in
        two_at _ ss h.path x y i j d (rw (a, b) refl)

pub given_alone : (ss : List Space) (k : ℕ) (w : Window) → ((t : Space) → In t ss → t.handle ≢ k → shares (Some w) t.window ≡ false)
    → ((t : Space) → In t ss → t.handle ≢ k → shares t.window (Some w) ≡ false) → AreAlone ss → AreAlone (map (fitted own (win k (Some w))) ss)
given_alone ss k w first second h =
    fitted_alone own (win k (Some w)) ss (two_by _ ss (λ x y i j d. alone x y i j d (cases_eq x.handle k) (cases_eq y.handle k)))
  where
    alone : (x y : Space) → In x ss → In y ss → x.handle ≢ y.handle → (x.handle ≡ k) ⊎ (x.handle ≢ k) → (y.handle ≡ k) ⊎ (y.handle ≢ k)
        → shares (win k (Some w) x) (win k (Some w) y) ≡ false
    alone x y i j d (inl p) (inl q) = absurd (d (p ∙ sym q))
    alone x y i j d (inl p) (inr q) =
        subst (λ (o : Option Window). shares o (win k (Some w) y) ≡ false) (sym (win_here k (Some w) x p))
        (subst (λ (o : Option Window). shares (Some w) o ≡ false) (sym (win_else k (Some w) y q)) (first y j q))
    alone x y i j d (inr p) (inl q) =
        subst (λ (o : Option Window). shares o (win k (Some w) y) ≡ false) (sym (win_else k (Some w) x p))
        (subst (λ (o : Option Window). shares x.window o ≡ false) (sym (win_here k (Some w) y q)) (second x i p))
    alone x y i j d (inr p) (inr q) =
        subst (λ (o : Option Window). shares o (win k (Some w) y) ≡ false) (sym (win_else k (Some w) x p))
        (subst (λ (o : Option Window). shares x.window o ≡ false) (sym (win_else k (Some w) y q)) (two_at _ ss h x y i j d))

-- a space on whose path nothing is mapped is not mapped itself
pub own_free : (m : Machine) (k : ℕ) (s : Space) → IsMachine m → space_at m.spaces k ≡ Some s → path_mapped m.spaces k ≡ None → s.window ≡ None
own_free m k s h is e = either s.window refl
  where
    either : (o : Option Window) → s.window ≡ o → s.window ≡ None
    either None q = q
    either (Some w) q =
        let at = looked_up (λ t. t.handle) m.spaces k s is in
        let some = (all_in (IsSpace m.spaces) m.spaces h.whole_spaces s at.0).not_empty in
        let apart : overlap s s ≡ false = path_free m.spaces k s is e s at.0 (ap (λ (o : Option Window). is_some o) q) in
        absurd (true≢false (sym (inside s.first (end s) (omega (arith, some))) ∙ apart))
      where
        inside : (a b : ℕ) → a < b → nat_lt a b && nat_lt a b ≡ true
        inside a b l = grind (arith, nat_tests)

-- what was shown before a space got a window is shown
pub given_shown : (ss : List Space) (us : List FilePage) (k : ℕ) (s : Space) (w : Window) → AreSpaces ss → space_at ss k ≡ Some s → s.window ≡ None → Shown ss us
    → Shown (map (fitted own (win k (Some w))) ss) us
given_shown ss us k s w h is free shown = shown_fitted own (win k (Some w)) ss us (λ x i.
    let r = any_in _ ss (all_in _ us shown x i) in
    let at = looked_up (λ t. t.handle) ss k s is in
    let other : r.0.handle ≢ k = λ q. mapped_of r.0 x.file x.page r.2 (ap (λ (t : Space). t.window) (one_key (λ t. t.handle) ss h.rise r.0 s r.1 at.0 (q ∙ sym at.1)) ∙ free) in
    (r.0, r.1, shown_still own (win k (Some w)) r.0 x (win_else k (Some w) r.0 other) r.2))

-- the given window is one on its file, and the others are as they were
pub given_linked : (fs : List File) (ss : List Space) (k : ℕ) (s : Space) (w : Window) → AreSpaces ss → space_at ss k ≡ Some s → Linked fs ss → IsWindow fs s.pages w
    → Linked fs (map (fitted own (win k (Some w))) ss)
given_linked fs ss k s w h is linked good = linked_fitted fs own (win k (Some w)) ss (λ x v i e. either x v i e (cases_eq x.handle k))
  where
    either : (x : Space) (v : Window) → In x ss → win k (Some w) x ≡ Some v → (x.handle ≡ k) ⊎ (x.handle ≢ k) → IsWindow fs x.pages v
    either x v i e (inl q) =
        let at = looked_up (λ t. t.handle) ss k s is in
        let it : s ≡ x = one_key (λ t. t.handle) ss h.rise s x at.0 i (at.1 ∙ sym q) in
        let same : w ≡ v = same_Some w v (sym (win_here k (Some w) x q) ∙ e) in
        subst (λ (y : Space). IsWindow fs y.pages v) it (subst (λ (y : Window). IsWindow fs s.pages y) same good)
    either x v i e (inr q) = window_at fs ss linked x v i (sym (win_else k (Some w) x q) ∙ e)

-- map

-- the window that a client asks for
abbrev asked : ℕ → ℕ → Bool → Window
asked id page writable = record { file = id; first = page; writable = writable; anonymous = false }

pub map_keeps : (space id page : ℕ) (writable : Bool) (m : Machine) → IsMachine m → IsMachine (next m (Map space id page writable))
map_keeps space id page writable m h = refused_or m (Map space id page writable) h kept
  where
    mutable : (f : File) → file_at m.files id ≡ Some f → (b : Bool) → (if b then is_immutable m id else None) ≡ None → b ≡ true → f.immutable ≡ false
    mutable f is true e t = then_none f.immutable why.Immutable (of_file_none m id (λ x. then_some x.immutable why.Immutable) f is e)
    mutable f is false e t = absurd (false≢true t)

    kept : refusal m (Map space id page writable) ≡ None → IsMachine (record m { spaces = set_window space (Some (asked id page writable)) m.spaces })
    kept e =
        let tests = six_none (no_space m.spaces space) (is_root space) (no_file m id) (path_mapped m.spaces space) (past_end m space id page) (if writable then is_immutable m id else None) e in
        let there = space_there m.spaces space tests.0 in
        let s : Space = there.0 in
        let found = file_there m id tests.2 in
        let f : File = found.0 in
        let spaces = spaces_of m h in
        let none = none_anonymous m.spaces id (not_any _ m.spaces found.2) in
        let fit = ltb-false (size f) (page + s.pages) (then_none (nat_lt (size f) (page + s.pages)) why.Window
        (of_file_none m id (λ x. then_some (nat_lt (size x) (page + s.pages)) why.Window) f found.1
        (of_space_none m.spaces space (λ t. of_file m id (λ x. then_some (nat_lt (size x) (page + t.pages)) why.Window)) s there.1 tests.4))) in
        let good : IsWindow m.files s.pages (asked id page writable) = record {
          inside_file = subst (λ (o : Option File). IsSomeAnd o (λ x. page + s.pages ≤ size x)) (sym found.1) (omega (arith, fit));
          writable_mutable = λ t. subst (λ (o : Option File). IfSome o (λ x. IsFalse x.immutable)) (sym found.1) (mutable f found.1 writable tests.5 t);
          anonymous_temporary = λ t. absurd (false≢true t);
        } in
        subst (λ (ss : List Space). IsMachine (record m { spaces = ss })) (win_is_set space (Some (asked id page writable)) m.spaces)
        (with_spaces m (map (fitted own (win space (Some (asked id page writable)))) m.spaces)
        (given_spaces m.spaces space s (asked id page writable) there.1 (not_root space tests.1) (path_free m.spaces space s there.1 tests.3) spaces)
        (given_alone m.spaces space (asked id page writable) (λ t i d. refl) (λ t i d. second t i none t.window refl) h.anonymous_alone)
        (given_linked m.files m.spaces space s (asked id page writable) spaces there.1 h.whole_windows good)
        (given_shown m.spaces m.unforced space s (asked id page writable) spaces there.1 (own_free m space s h there.1 tests.3) h.unforced_shown) h)
      where
        second : (t : Space) → In t m.spaces → ((x : Space) (v : Window) → In x m.spaces → x.window ≡ Some v → v.file ≡ id → v.anonymous ≡ false)
            → (o : Option Window) → t.window ≡ o → shares o (Some (asked id page writable)) ≡ false
        second t i none None q = refl
        second t i none (Some v) q = either (cases_eq id v.file)
          where
            either : (id ≡ v.file) ⊎ (id ≢ v.file) → v.anonymous && (id == v.file) ≡ false
            either (inl p) = let a : v.anonymous ≡ false = none t v i q (sym p) in ap (λ (b : Bool). b && (id == v.file)) a
            either (inr p) = let a : eqb id v.file ≡ false = ne_eqb id v.file p in ap (λ (b : Bool). v.anonymous && b) a ∙ shares_none (Some v)
