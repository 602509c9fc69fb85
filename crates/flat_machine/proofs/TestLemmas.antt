-- What is known where the tests of a call do not hold.
use Rattle.std.proofs.Common.{◌≡◌, ◌≢◌, ℕ, ◌+◌, ◌≤◌, Bool, true, false, not, ◌&&◌, List, [], ◌∷◌, Option, Some, None, refl, sym, ◌∙◌, ap, arith, eqb}
use Rattle.std.proofs.lemmas.Bool.Decides.{nat_tests}
use Rattle.std.specs.Prelude.{find, nat_lt, is_none, is_some, option_map, option_and_then, ◌==◌, if◌then◌else◌}
use Rattle.std.specs.Bool.{then_some}
use Rattle.std.specs.Option.{option_map_or}
use Rattle.std.proofs.lemmas.Option.{none-some}
use Rattle.std.proofs.lemmas.Bool.{eqb-false, eq-eqb, true≢false}
use Rattle.flat_machine.specs.declared.call.Refusal.{Refusal}
use Rattle.flat_machine.specs.declared.call.Refusal.TheVariants as why
use Rattle.flat_machine.specs.File.{File, file_at}
use Rattle.flat_machine.specs.Space.{Space, Window, space_at, is_mapped, has_window, overlap}
use Rattle.flat_machine.specs.Machine.{Machine, used, nameable, is_anonymous}
use Rattle.flat_machine.specs.Refusal.{Test, first_of, no_room, no_file, of_file, file_mapped, lowest_handle, no_space, of_space, is_root, self_mapped, path_mapped, not_mapped}
use Rattle.flat_machine.proofs.Lists.{In, not_found}

-- Where no word is the first, no test holds.

pub one_none : (a : Test) → first_of (a ∷ []) ≡ None → (a ≡ None)
one_none (Some w) e = absurd (none-some w (sym e))
one_none None e = refl

pub two_none : (a b : Test) → first_of (a ∷ b ∷ []) ≡ None → (a ≡ None) × (b ≡ None)
two_none (Some w) b e = absurd (none-some w (sym e))
two_none None (Some w) e = absurd (none-some w (sym e))
two_none None None e = (refl, refl)

pub three_none : (a b c : Test) → first_of (a ∷ b ∷ c ∷ []) ≡ None → (a ≡ None) × (b ≡ None) × (c ≡ None)
three_none (Some w) b c e = absurd (none-some w (sym e))
three_none None (Some w) c e = absurd (none-some w (sym e))
three_none None None (Some w) e = absurd (none-some w (sym e))
three_none None None None e = (refl, refl, refl)

pub four_none : (a b c d : Test) → first_of (a ∷ b ∷ c ∷ d ∷ []) ≡ None → (a ≡ None) × (b ≡ None) × (c ≡ None) × (d ≡ None)
four_none (Some w) b c d e = absurd (none-some w (sym e))
four_none None (Some w) c d e = absurd (none-some w (sym e))
four_none None None (Some w) d e = absurd (none-some w (sym e))
four_none None None None (Some w) e = absurd (none-some w (sym e))
four_none None None None None e = (refl, refl, refl, refl)

pub five_none : (a b c d f : Test) → first_of (a ∷ b ∷ c ∷ d ∷ f ∷ []) ≡ None → (a ≡ None) × (b ≡ None) × (c ≡ None) × (d ≡ None) × (f ≡ None)
five_none (Some w) b c d f e = absurd (none-some w (sym e))
five_none None (Some w) c d f e = absurd (none-some w (sym e))
five_none None None (Some w) d f e = absurd (none-some w (sym e))
five_none None None None (Some w) f e = absurd (none-some w (sym e))
five_none None None None None (Some w) e = absurd (none-some w (sym e))
five_none None None None None None e = (refl, refl, refl, refl, refl)

pub six_none : (a b c d f g : Test) → first_of (a ∷ b ∷ c ∷ d ∷ f ∷ g ∷ []) ≡ None → (a ≡ None) × (b ≡ None) × (c ≡ None) × (d ≡ None) × (f ≡ None) × (g ≡ None)
six_none (Some w) b c d f g e = absurd (none-some w (sym e))
six_none None (Some w) c d f g e = absurd (none-some w (sym e))
six_none None None (Some w) d f g e = absurd (none-some w (sym e))
six_none None None None (Some w) f g e = absurd (none-some w (sym e))
six_none None None None None (Some w) g e = absurd (none-some w (sym e))
six_none None None None None None (Some w) e = absurd (none-some w (sym e))
six_none None None None None None None e = (refl, refl, refl, refl, refl, refl)

pub then_none : (b : Bool) (word : Refusal) → then_some b word ≡ None → b ≡ false
then_none true word e = absurd (none-some word (sym e))
then_none false word e = refl

pub is_there : {X : Type 0} (o : Option X) → is_none o ≡ false → (x : X) × (o ≡ Some x)
is_there None e = absurd (true≢false e)
is_there (Some x) e = (x, refl)

pub map_none : {X Y : Type 0} (f : X → Y) (o : Option X) → option_map f o ≡ None → o ≡ None
map_none f None e = refl
map_none f (Some x) e = absurd (none-some (f x) (sym e))

pub room_there : (m : Machine) (wanted : ℕ) → no_room m wanted ≡ None → used m + wanted ≤ m.capacity
room_there m wanted e = let b = then_none (nat_lt m.capacity (used m + wanted)) why.Full e in grind (arith, nat_tests)

-- the file is there, and no anonymous window shows it
pub file_there : (m : Machine) (id : ℕ) → no_file m id ≡ None → (f : File) × (file_at m.files id ≡ Some f) × (is_anonymous m.spaces id ≡ false)
file_there m id e = either (is_anonymous m.spaces id) refl (is_there (nameable m id) (then_none (is_none (nameable m id)) why.File e))
  where
    either : (b : Bool) → is_anonymous m.spaces id ≡ b → (f : File) × ((if b then None else file_at m.files id) ≡ Some f)
        → (f : File) × (file_at m.files id ≡ Some f) × (is_anonymous m.spaces id ≡ false)
    either true q r = absurd (none-some r.0 r.1)
    either false q r = (r.0, r.1, q)

pub of_file_none : (m : Machine) (id : ℕ) (test : File → Test) (f : File) → file_at m.files id ≡ Some f → of_file m id test ≡ None → test f ≡ None
of_file_none m id test f is e = ap (λ (o : Option File). option_and_then test o) (sym is) ∙ e

pub space_there : (ss : List Space) (h : ℕ) → no_space ss h ≡ None → (s : Space) × (space_at ss h ≡ Some s)
space_there ss h e = is_there (space_at ss h) (then_none (is_none (space_at ss h)) why.Space e)

pub of_space_none : (ss : List Space) (h : ℕ) (test : Space → Test) (s : Space) → space_at ss h ≡ Some s → of_space ss h test ≡ None → test s ≡ None
of_space_none ss h test s is e = ap (λ (o : Option Space). option_and_then test o) (sym is) ∙ e

-- no space passes the test
pub no_lowest : (word : ℕ → Refusal) (test : Space → Bool) (ss : List Space) → option_map word (lowest_handle test ss) ≡ None → (s : Space) → In s ss → test s ≡ false
no_lowest word test ss e = not_found test ss (map_none (λ s. s.handle) (find test ss) (map_none word (lowest_handle test ss) e))

pub window_test : (test : Window → Bool) (s : Space) (w : Window) → s.window ≡ Some w → has_window test s ≡ test w
window_test test s w is = ap (λ (o : Option Window). option_map_or test o false) is

-- each window on the file fails the test
pub windows_fail : (m : Machine) (id : ℕ) (test : Window → Bool) → file_mapped m id test ≡ None
    → (s : Space) (w : Window) → In s m.spaces → s.window ≡ Some w → w.file ≡ id → test w ≡ false
windows_fail m id test e s w i is same =
    let no = no_lowest why.FileMapped (has_window (λ v. v.file == id && test v)) m.spaces e s i in
    let at : eqb w.file id && test w ≡ false = sym (window_test (λ v. v.file == id && test v) s w is) ∙ no in
    right (eqb w.file id) (eq-eqb w.file id same) at
  where
    right : (b : Bool) → b ≡ true → b && test w ≡ false → test w ≡ false
    right true t h = h
    right false t h = absurd (true≢false (sym t))

-- no window shows the file
pub not_shown : (m : Machine) (id : ℕ) → file_mapped m id (λ w. true) ≡ None → (s : Space) (w : Window) → In s m.spaces → s.window ≡ Some w → w.file ≢ id
not_shown m id e s w i is same = true≢false (windows_fail m id (λ w. true) e s w i is same)

-- no anonymous window shows the file
pub none_anonymous : (ss : List Space) (id : ℕ) → ((s : Space) → In s ss → has_window (λ w. w.anonymous && w.file == id) s ≡ false)
    → (s : Space) (w : Window) → In s ss → s.window ≡ Some w → w.file ≡ id → w.anonymous ≡ false
none_anonymous ss id none s w i is same =
    let at : w.anonymous && eqb w.file id ≡ false = sym (window_test (λ v. v.anonymous && v.file == id) s w is) ∙ none s i in
    left w.anonymous (eqb w.file id) (eq-eqb w.file id same) at
  where
    left : (a b : Bool) → b ≡ true → a && b ≡ false → a ≡ false
    left false b t h = refl
    left true b t h = absurd (true≢false (sym t ∙ h))

pub not_root : (h : ℕ) → is_root h ≡ None → h ≢ 0
not_root h e = eqb-false h 0 (then_none (h == 0) why.Root e)

-- the space has a window
pub window_there : (ss : List Space) (h : ℕ) (s : Space) → space_at ss h ≡ Some s → not_mapped ss h ≡ None → (w : Window) × (s.window ≡ Some w)
window_there ss h s is e = either s.window refl (then_none (not (is_mapped s)) why.NotMapped (of_space_none ss h (λ t. then_some (not (is_mapped t)) why.NotMapped) s is e))
  where
    either : (o : Option Window) → s.window ≡ o → not (is_some o) ≡ false → (w : Window) × (s.window ≡ Some w)
    either None q f = absurd (true≢false f)
    either (Some w) q f = (w, q)

-- the space has no window
pub window_free : (ss : List Space) (h : ℕ) (s : Space) → space_at ss h ≡ Some s → self_mapped ss h ≡ None → s.window ≡ None
window_free ss h s is e = either s.window refl (then_none (is_mapped s) (why.Mapped h) (of_space_none ss h (λ t. then_some (is_mapped t) (why.Mapped h)) s is e))
  where
    either : (o : Option Window) → s.window ≡ o → is_some o ≡ false → s.window ≡ None
    either None q f = q
    either (Some w) q f = absurd (true≢false f)

-- no mapped space shares a page with the space
pub path_free : (ss : List Space) (h : ℕ) (s : Space) → space_at ss h ≡ Some s → path_mapped ss h ≡ None
    → (t : Space) → In t ss → is_mapped t ≡ true → overlap s t ≡ false
path_free ss h s is e t i mapped =
    right (is_mapped t) mapped (no_lowest why.Mapped (λ u. is_mapped u && overlap s u) ss (of_space_none ss h (λ r. option_map why.Mapped (lowest_handle (λ u. is_mapped u && overlap r u) ss)) s is e) t i)
  where
    right : (b : Bool) → b ≡ true → b && overlap s t ≡ false → overlap s t ≡ false
    right true q f = f
    right false q f = absurd (true≢false (sym q))
