-- Taking a window away, and changing its mode, keep a machine.
use Rattle.std.proofs.Common.{◌≡◌, ◌≢◌, ◌⊎◌, inl, inr, ℕ, Bool, true, false, not, ◌&&◌, List, map, Option, Some, None, refl, sym, ◌∙◌, ap, subst, eqb}
use Rattle.std.specs.Prelude.{IfSome, IsFalse, is_some, ◌==◌, option_map, option_and_then, if◌then◌else◌}
use Rattle.std.specs.Option.{option_map_or}
use Rattle.std.specs.Bool.{then_some}
use Rattle.std.proofs.lemmas.Bool.{eq-eqb, ne_eqb, true≢false, false≢true, not-true, and_parts, cases_eq}
use Rattle.std.proofs.lemmas.Option.{same_Some, none-some}
use Rattle.flat_machine.specs.declared.call.Call.TheVariants.{Unmap, Protect}
use Rattle.flat_machine.specs.declared.call.Refusal.TheVariants as why
use Rattle.flat_machine.specs.File.{File, file_at}
use Rattle.flat_machine.specs.Space.{Space, Window, FilePage, root, space_at, is_mapped, is_writable, shows}
use Rattle.flat_machine.specs.Machine.{Machine, IsWindow}
use Rattle.flat_machine.specs.IsMachine.{IsMachine, AreOnce}
use Rattle.flat_machine.specs.Refusal.{refusal, no_space, not_mapped, shows_immutable, is_immutable}
use Rattle.flat_machine.specs.Next.{next, set_window, set_mode, with_mode, without_anonymous, without_file, without_window_of, unmapped, protected}
use Rattle.flat_machine.proofs.Lists.{In, all_in, in_filter, any_in, one_key, looked_up}
use Rattle.flat_machine.proofs.TestLemmas.{two_none, three_none, then_none, of_file_none, of_space_none, window_there}
use Rattle.flat_machine.proofs.FileLemmas.{AreFiles, fewer_files, window_file, window_kept}
use Rattle.flat_machine.specs.Spaces.{AreAlone}
use Rattle.flat_machine.proofs.SpaceLemmas.{AreSpaces, fitted, fitted_spaces, fitted_alone, two_at, two_by}
use Rattle.flat_machine.proofs.KeepFiles.{follows_self, left_at}
use Rattle.flat_machine.proofs.KeepWindows.{own, win, win_here, win_else, win_is_set, win_root, shares, shares_none, map_same, linked_fitted, shown_fitted, shown_still}
use Rattle.flat_machine.proofs.Keep.{Linked, Shown, join, files_of, spaces_of, refused_or, at_there, window_at, once_filter}

-- a mapped space is not the root
mapped_not_root : (ss : List Space) (k : ℕ) (s : Space) (w : Window) → AreSpaces ss → space_at ss k ≡ Some s → s.window ≡ Some w → k ≢ 0
mapped_not_root ss k s w h is q e =
    let same : s ≡ root = same_Some s root (sym is ∙ ap (λ (n : ℕ). space_at ss n) e ∙ h.has_root) in
    none-some w (sym (ap (λ (t : Space). t.window) same) ∙ q)

-- a page that the space's window doesn't show is shown by another space
shown_elsewhere : (ss : List Space) (us : List FilePage) (k : ℕ) (s : Space) (u : Space → ℕ) (w : Space → Option Window) → AreSpaces ss → space_at ss k ≡ Some s
    → ((t : Space) → t.handle ≢ k → w t ≡ t.window) → Shown ss us → Shown (map (fitted u w) ss) (without_window_of s us)
shown_elsewhere ss us k s u w h is same shown = shown_fitted u w ss (without_window_of s us) (λ x i.
    let p = λ (v : FilePage). not (shows v.file v.page s) in
    let kept = in_filter p us x i in
    let r = any_in _ ss (all_in _ us shown x kept.0) in
    let at = looked_up (λ t. t.handle) ss k s is in
    let other : r.0.handle ≢ k = λ q.
    let it : r.0 ≡ s = one_key (λ t. t.handle) ss h.rise r.0 s r.1 at.0 (q ∙ sym at.1) in
    let yes : shows x.file x.page s ≡ true = ap (λ (t : Space). shows x.file x.page t) (sym it) ∙ (and_parts (is_writable r.0) (shows x.file x.page r.0) r.2).1 in
    true≢false (sym yes ∙ not-true (shows x.file x.page s) kept.1) in
    (r.0, r.1, shown_still u w r.0 x (same r.0 other) r.2))

-- unmap

taken_spaces : (ss : List Space) (k : ℕ) → k ≢ 0 → AreSpaces ss → AreSpaces (map (fitted own (win k None)) ss)
taken_spaces ss k n h =
    fitted_spaces own (win k None) ss (win_root k None n) (λ s i old. old)
    (two_by _ ss (λ x y i j d t. two_at _ ss h.path x y i j d (both x y (x.handle == k) (y.handle == k) t)))
    h
  where
    both : (x y : Space) (b c : Bool) → is_some (if b then None else x.window) && is_some (if c then None else y.window) ≡ true → is_mapped x && is_mapped y ≡ true
    both x y true c t = absurd (false≢true t)
    both x y false true t = absurd (false≢true (and_parts (is_mapped x) false t).1)
    both x y false false t = t

taken_alone : (ss : List Space) (k : ℕ) → AreAlone ss → AreAlone (map (fitted own (win k None)) ss)
taken_alone ss k h = fitted_alone own (win k None) ss (two_by _ ss (λ x y i j d. fewer x y (x.handle == k) (y.handle == k) (two_at _ ss h x y i j d)))
  where
    fewer : (x y : Space) (b c : Bool) → shares x.window y.window ≡ false → shares (if b then None else x.window) (if c then None else y.window) ≡ false
    fewer x y true c t = refl
    fewer x y false true t = shares_none x.window
    fewer x y false false t = t

files_left : (serial counter capacity : ℕ) (w : Window) (fs : List File) → AreFiles serial counter capacity fs → AreFiles serial counter capacity (without_anonymous w fs)
files_left serial counter capacity w fs h = either w.anonymous
  where
    either : (b : Bool) → AreFiles serial counter capacity (if b then without_file w.file fs else fs)
    either true = fewer_files serial counter capacity (λ f. not (f.id == w.file)) fs h
    either false = h

taken_linked : (m : Machine) (k : ℕ) (s : Space) (w : Window) → IsMachine m → space_at m.spaces k ≡ Some s → s.window ≡ Some w
    → Linked (without_anonymous w m.files) (map (fitted own (win k None)) m.spaces)
taken_linked m k s w h is q = linked_fitted (without_anonymous w m.files) own (win k None) m.spaces (λ x v i e. either x v i e (cases_eq x.handle k))
  where
    stays : (v : Window) (f : File) (b : Bool) → b && (v.file == w.file) ≡ false → file_at m.files v.file ≡ Some f → file_at (if b then without_file w.file m.files else m.files) v.file ≡ Some f
    stays v f true t found = left_at m.files w.file v.file h.ids_rise (λ e. true≢false (sym (eq-eqb v.file w.file e) ∙ t)) f found
    stays v f false t found = found

    either : (x : Space) (v : Window) → In x m.spaces → win k None x ≡ Some v → (x.handle ≡ k) ⊎ (x.handle ≢ k) → IsWindow (without_anonymous w m.files) x.pages v
    either x v i e (inl p) = absurd (none-some v (sym (win_here k None x p) ∙ e))
    either x v i e (inr p) =
        let own_window : x.window ≡ Some v = sym (win_else k None x p) ∙ e in
        let at = looked_up (λ t. t.handle) m.spaces k s is in
        let alone : shares s.window x.window ≡ false = two_at _ m.spaces h.anonymous_alone s x at.0 i (λ d. p (sym d ∙ at.1)) in
        let apart : w.anonymous && (v.file == w.file) ≡ false = subst (λ (o : Option Window). shares (Some w) o ≡ false) own_window (subst (λ (o : Option Window). shares o x.window ≡ false) q alone) in
        window_kept m.files (without_anonymous w m.files) x.pages v (window_at m.files m.spaces h.whole_windows x v i own_window)
        (λ f found. (f, stays v f w.anonymous apart found, follows_self v f))

pub unmap_keeps : (space : ℕ) (m : Machine) → IsMachine m → IsMachine (next m (Unmap space))
unmap_keeps space m h = refused_or m (Unmap space) h kept
  where
    kept : refusal m (Unmap space) ≡ None → IsMachine (option_map_or (unmapped m) (space_at m.spaces space) m)
    kept e =
        let tests = two_none (no_space m.spaces space) (not_mapped m.spaces space) e in
        at_there m (space_at m.spaces space) (unmapped m) h (λ s is.
        let at = looked_up (λ t. t.handle) m.spaces space s is in
        let window = window_there m.spaces space s is tests.1 in
        let w : Window = window.0 in
        let spaces = spaces_of m h in
        let us = without_window_of s m.unforced in
        let new = map (fitted own (win space None)) m.spaces in
        subst (λ (k : ℕ). IsMachine (record (unmapped m s) { spaces = set_window k None m.spaces })) (sym at.1)
        (subst (λ (o : Option Window). IsMachine (record m { files = option_map_or (λ v. without_anonymous v m.files) o m.files; spaces = set_window space None m.spaces; unforced = us })) (sym window.1)
        (subst (λ (ss : List Space). IsMachine (record m { files = without_anonymous w m.files; spaces = ss; unforced = us })) (win_is_set space None m.spaces)
        (join (record m { files = without_anonymous w m.files; spaces = new; unforced = us }) h.serial_fits h.counter_fits
        (files_left m.serial m.counter m.capacity w m.files (files_of m h))
        (taken_spaces m.spaces space (mapped_not_root m.spaces space s w spaces is window.1) spaces) (taken_alone m.spaces space h.anonymous_alone)
        (taken_linked m space s w h is window.1)
        (shown_elsewhere m.spaces m.unforced space s own (win space None) spaces is (win_else space None) h.unforced_shown) (once_filter (λ u. not (shows u.file u.page s)) m.unforced h.unforced_once)))))

-- protect

-- the window with that mode for one space
abbrev mode : ℕ → Bool → Space → Option Window
mode k b s = if s.handle == k then option_map (with_mode b) s.window else s.window

mode_here : (k : ℕ) (b : Bool) (s : Space) → s.handle ≡ k → mode k b s ≡ option_map (with_mode b) s.window
mode_here k b s e = let t : eqb s.handle k ≡ true = eq-eqb s.handle k e in ap (λ (c : Bool). if c then option_map (with_mode b) s.window else s.window) t

mode_else : (k : ℕ) (b : Bool) (s : Space) → s.handle ≢ k → mode k b s ≡ s.window
mode_else k b s n = let t : eqb s.handle k ≡ false = ne_eqb s.handle k n in ap (λ (c : Bool). if c then option_map (with_mode b) s.window else s.window) t

mode_is_set : (k : ℕ) (b : Bool) (ss : List Space) → map (fitted own (mode k b)) ss ≡ set_mode k b ss
mode_is_set k b ss = map_same (fitted own (mode k b)) (λ s. if s.handle == k then record s { window = option_map (with_mode b) s.window } else s) (λ s. either s (s.handle == k)) ss
  where
    either : (s : Space) (c : Bool) → record s { unit = s.unit; window = if c then option_map (with_mode b) s.window else s.window } ≡ (if c then record s { window = option_map (with_mode b) s.window } else s)
    either s true = refl
    either s false = refl

same_some : (b c : Bool) (o : Option Window) → is_some (if c then option_map (with_mode b) o else o) ≡ is_some o
same_some b true None = refl
same_some b true (Some w) = refl
same_some b false o = refl

same_shares : (b c d : Bool) (o p : Option Window) → shares (if c then option_map (with_mode b) o else o) (if d then option_map (with_mode b) p else p) ≡ shares o p
same_shares b true true None p = refl
same_shares b true true (Some w) None = refl
same_shares b true true (Some w) (Some v) = refl
same_shares b true false None p = refl
same_shares b true false (Some w) p = refl
same_shares b false true None p = refl
same_shares b false true (Some w) None = refl
same_shares b false true (Some w) (Some v) = refl
same_shares b false false o p = refl

moded_spaces : (ss : List Space) (k : ℕ) (b : Bool) → k ≢ 0 → AreSpaces ss → AreSpaces (map (fitted own (mode k b)) ss)
moded_spaces ss k b n h =
    fitted_spaces own (mode k b) ss (ap (λ (o : Option Window). record root { window = o }) (mode_else k b root (λ e. n (sym e)))) (λ s i old. old)
    (two_by _ ss (λ x y i j d t. two_at _ ss h.path x y i j d (both x y t)))
    h
  where
    both : (x y : Space) → is_some (mode k b x) && is_some (mode k b y) ≡ true → is_mapped x && is_mapped y ≡ true
    both x y t =
        let p = same_some b (x.handle == k) x.window in
        let q = same_some b (y.handle == k) y.window in
        sym (ap (λ (c : Bool). c && is_some (mode k b y)) p ∙ ap (λ (c : Bool). is_some x.window && c) q) ∙ t

moded_alone : (ss : List Space) (k : ℕ) (b : Bool) → AreAlone ss → AreAlone (map (fitted own (mode k b)) ss)
moded_alone ss k b h = fitted_alone own (mode k b) ss (two_by _ ss (λ x y i j d. same_shares b (x.handle == k) (y.handle == k) x.window y.window ∙ two_at _ ss h x y i j d))

moded_linked : (m : Machine) (k : ℕ) (s : Space) (b : Bool) → IsMachine m → space_at m.spaces k ≡ Some s
    → ((w : Window) → s.window ≡ Some w → b ≡ true → is_immutable m w.file ≡ None) → Linked m.files (map (fitted own (mode k b)) m.spaces)
moded_linked m k s b h is mutable = linked_fitted m.files own (mode k b) m.spaces (λ x v i e. either x v i e (cases_eq x.handle k))
  where
    good : (x : Space) (v w : Window) → In x m.spaces → s ≡ x → x.window ≡ Some w → with_mode b w ≡ v → IsWindow m.files x.pages v
    good x v w i it has same =
        let old = window_at m.files m.spaces h.whole_windows x w i has in
        let f = window_file m.files x.pages w old in
        subst (λ (y : Window). IsWindow m.files x.pages y) same (record {
          inside_file = old.inside_file;
          writable_mutable = λ t. subst (λ (o : Option File). IfSome o (λ g. IsFalse g.immutable)) (sym f.1)
              (then_none f.0.immutable why.Immutable (of_file_none m w.file (λ g. then_some g.immutable why.Immutable) f.0 f.1 (mutable w (ap (λ (y : Space). y.window) it ∙ has) t)));
          anonymous_temporary = old.anonymous_temporary;
        })

    here : (x : Space) (v : Window) → In x m.spaces → s ≡ x → (o : Option Window) → x.window ≡ o → option_map (with_mode b) o ≡ Some v → IsWindow m.files x.pages v
    here x v i it None has e = absurd (none-some v e)
    here x v i it (Some w) has e = good x v w i it has (same_Some (with_mode b w) v e)

    either : (x : Space) (v : Window) → In x m.spaces → mode k b x ≡ Some v → (x.handle ≡ k) ⊎ (x.handle ≢ k) → IsWindow m.files x.pages v
    either x v i e (inl p) =
        let at = looked_up (λ t. t.handle) m.spaces k s is in
        here x v i (one_key (λ t. t.handle) m.spaces h.handles_rise s x at.0 i (at.1 ∙ sym p)) x.window refl (sym (mode_here k b x p) ∙ e)
    either x v i e (inr p) = window_at m.files m.spaces h.whole_windows x v i (sym (mode_else k b x p) ∙ e)

-- what a writable window shows, it shows
writable_shown : (ss : List Space) (us : List FilePage) (k : ℕ) → Shown ss us → Shown (map (fitted own (mode k true)) ss) us
writable_shown ss us k shown = shown_fitted own (mode k true) ss us (λ x i. let r = any_in _ ss (all_in _ us shown x i) in
    (r.0, r.1, still r.0 x (r.0.handle == k) r.0.window r.2))
  where
    still : (t : Space) (x : FilePage) (c : Bool) (o : Option Window)
        → is_writable (record t { window = o }) && shows x.file x.page (record t { window = o }) ≡ true
        → is_writable (record t { window = if c then option_map (with_mode true) o else o }) && shows x.file x.page (record t { window = if c then option_map (with_mode true) o else o }) ≡ true
    still t x false o e = e
    still t x true None e = e
    still t x true (Some w) e = (and_parts w.writable (shows x.file x.page (record t { window = Some w })) e).1

pub protect_keeps : (space : ℕ) (writable : Bool) (m : Machine) → IsMachine m → IsMachine (next m (Protect space writable))
protect_keeps space writable m h = refused_or m (Protect space writable) h kept
  where
    mutable : (s : Space) → space_at m.spaces space ≡ Some s → (b : Bool) → (if b then shows_immutable m space else None) ≡ None
        → (w : Window) → s.window ≡ Some w → b ≡ true → is_immutable m w.file ≡ None
    mutable s is true e w q t =
        ap (λ (o : Option Window). option_and_then (λ v. is_immutable m v.file) o) (sym q)
        ∙ of_space_none m.spaces space (λ y. option_and_then (λ v. is_immutable m v.file) y.window) s is e
    mutable s is false e w q t = absurd (false≢true t)

    shown : (s : Space) → space_at m.spaces space ≡ Some s → (b : Bool) → Shown (map (fitted own (mode space b)) m.spaces) (if b then m.unforced else without_window_of s m.unforced)
    shown s is true = writable_shown m.spaces m.unforced space h.unforced_shown
    shown s is false = shown_elsewhere m.spaces m.unforced space s own (mode space false) (spaces_of m h) is (mode_else space false) h.unforced_shown

    once : (s : Space) (b : Bool) → AreOnce (if b then m.unforced else without_window_of s m.unforced)
    once s true = h.unforced_once
    once s false = once_filter (λ u. not (shows u.file u.page s)) m.unforced h.unforced_once

    kept : refusal m (Protect space writable) ≡ None → IsMachine (option_map_or (protected m writable) (space_at m.spaces space) m)
    kept e =
        let tests = three_none (no_space m.spaces space) (not_mapped m.spaces space) (if writable then shows_immutable m space else None) e in
        at_there m (space_at m.spaces space) (protected m writable) h (λ s is.
        let at = looked_up (λ t. t.handle) m.spaces space s is in
        let window = window_there m.spaces space s is tests.1 in
        let spaces = spaces_of m h in
        let us = if writable then m.unforced else without_window_of s m.unforced in
        let new = map (fitted own (mode space writable)) m.spaces in
        subst (λ (k : ℕ). IsMachine (record (protected m writable s) { spaces = set_mode k writable m.spaces })) (sym at.1)
        (subst (λ (ss : List Space). IsMachine (record m { spaces = ss; unforced = us })) (mode_is_set space writable m.spaces)
        (join (record m { spaces = new; unforced = us }) h.serial_fits h.counter_fits (files_of m h)
        (moded_spaces m.spaces space writable (mapped_not_root m.spaces space s window.0 spaces is window.1) spaces) (moded_alone m.spaces space writable h.anonymous_alone)
        (moded_linked m space s writable h is (mutable s is writable tests.2))
        (shown s is writable) (once s writable))))
