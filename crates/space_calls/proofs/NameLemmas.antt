-- Which file a call may name, by the first window on it.
use Rattle.std.proofs.Common.{◌≡◌, ◌≢◌, ◌⊎◌, inl, inr, ℕ, Bool, true, false, not, ◌&&◌, ◌||◌, Option, Some, None, refl, sym, ◌∙◌, ap, subst}
use Rattle.std.specs.Prelude.{find, option_map, ◌==◌}
use Rattle.std.specs.Option.{option_map_or}
use Rattle.std.proofs.lemmas.Option.{none-some, same_Some}
use Rattle.std.proofs.lemmas.Bool.{eqb-true, eq-eqb, ne_eqb, true≢false, and_parts, cases_eq}
use Rattle.flat_machine.specs.declared.space.Space.{Space}
use Rattle.flat_machine.specs.declared.space.Window.{Window}
use Rattle.flat_machine.specs.File.{File, file_at}
use Rattle.flat_machine.specs.Space.{has_window}
use Rattle.flat_machine.specs.Machine.{Machine, is_anonymous, nameable}
use Rattle.flat_machine.specs.IsMachine.{IsMachine}
use Rattle.flat_machine.proofs.Lists.{In, any_not, in_any, find_in, not_found, one_key}
use Rattle.flat_machine.proofs.SpaceLemmas.{two_at}
use Rattle.session_words.specs.Parts.{Shape, shape_of, shapes_of}
use Rattle.file_manager.specs.declared.attributes.Attributes.{Attributes}
use Rattle.file_manager.specs.Attributes.{IsAttributesOf, shape_revealed}
use Rattle.space_tables.specs.declared.shown.Shown.{Shown}
use Rattle.space_tables.specs.Shows.{IsFirstWith, shows, window_of}
use Rattle.space_calls.specs.Naming.{IsNameable, IsSeen}

-- a window on the file
abbrev on_file : ℕ → Window → Bool
on_file id w = w.file == id && (not false || w.writable)

abbrev anonymous_on : ℕ → Window → Bool
anonymous_on id w = w.anonymous && w.file == id

not_anonymous : (id : ℕ) (o : Option Window) → option_map_or (on_file id) o false ≡ false → option_map_or (anonymous_on id) o false ≡ false
not_anonymous id None e = refl
not_anonymous id (Some w) e = by w.anonymous (w.file == id) e
  where
    by : (a b : Bool) → b && (not false || w.writable) ≡ false → a && b ≡ false
    by false b e = refl
    by true false e = refl
    by true true e = absurd (true≢false e)

-- the window of another space that shows the file too is not anonymous
other_named : (id : ℕ) (w : Window) → w.file ≡ id → (o : Option Window) → option_map_or (λ v. v.anonymous && (w.file == v.file)) o false ≡ false → option_map_or (anonymous_on id) o false ≡ false
other_named id w is None e = refl
other_named id w is (Some v) e = by v.anonymous e (cases_eq v.file id)
  where
    by : (a : Bool) → a && (w.file == v.file) ≡ false → (v.file ≡ id) ⊎ (v.file ≢ id) → a && (v.file == id) ≡ false
    by false e both = refl
    by true e (inl same) = absurd (true≢false (sym (eq-eqb w.file v.file (is ∙ sym same)) ∙ e))
    by true e (inr other) = ne_eqb v.file id other

module _ (m : Machine) (id : ℕ) where
  pub named_where : is_anonymous m.spaces id ≡ false → nameable m id ≡ file_at m.files id
  named_where none = rw none refl

  -- no window shows the file
  pub none_shows : find (has_window (on_file id)) m.spaces ≡ None → nameable m id ≡ file_at m.files id
  none_shows none = named_where (any_not _ m.spaces (λ s there. not_anonymous id s.window (not_found (has_window (on_file id)) m.spaces none s there)))

  module _ (s : Space) (w : Window) (first : find (has_window (on_file id)) m.spaces ≡ Some s) (shown : s.window ≡ Some w) where
    there : In s m.spaces
    there = (find_in (has_window (on_file id)) m.spaces s first).0

    same_file : w.file ≡ id
    same_file =
        let passes : on_file id w ≡ true = sym (ap (λ (o : Option Window). option_map_or (on_file id) o false) shown) ∙ (find_in (has_window (on_file id)) m.spaces s first).1 in
        eqb-true w.file id (and_parts (w.file == id) (not false || w.writable) passes).0

    -- an anonymous window shows it
    pub anonymous_shows : w.anonymous ≡ true → nameable m id ≡ None
    anonymous_shows is =
        let on : (w.file == id) ≡ true = eq-eqb w.file id same_file in
        let passes : anonymous_on id w ≡ true = rw (is, on) refl in
        let any : is_anonymous m.spaces id ≡ true = in_any (has_window (anonymous_on id)) m.spaces s there (ap (λ (o : Option Window). option_map_or (anonymous_on id) o false) shown ∙ passes) in
        rw any refl

    -- another window does: no anonymous one can
    pub named_shows : IsMachine m → w.anonymous ≡ false → nameable m id ≡ file_at m.files id
    named_shows is plain = named_where (any_not _ m.spaces (λ t among. by t among (cases_eq t.handle s.handle)))
      where
        by : (t : Space) → In t m.spaces → (t.handle ≡ s.handle) ⊎ (t.handle ≢ s.handle) → has_window (anonymous_on id) t ≡ false
        by t among (inl same) =
            let it : t ≡ s = one_key (λ x. x.handle) m.spaces is.handles_rise t s among there same in
            ap (λ (x : Space). has_window (anonymous_on id) x) it ∙ ap (λ (o : Option Window). option_map_or (anonymous_on id) o false) shown ∙ ap (λ (b : Bool). b && (w.file == id)) plain
        by t among (inr other) =
            other_named id w same_file t.window
            (subst (λ (o : Option Window). option_map_or (λ v. v.anonymous && option_map_or (λ u. u.file == v.file) o false) t.window false ≡ false) shown
            (two_at _ m.spaces is.anonymous_alone t s among there other))

-- ---- What is revealed of it.

-- the shape that attributes reveal is the file's
same_attributes : (f : File) (a : Attributes) → shape_of f ≡ shape_revealed a → IsNameable (Some f) (Some a)
same_attributes f a same = (sym (ap (λ (s : Shape). s.size) same), sym (ap (λ (s : Shape). s.kind) same), sym (ap (λ (s : Shape). s.permanent) same), sym (ap (λ (s : Shape). s.immutable) same))

shape_nameable : (o : Option File) (revealed : Option Attributes) → IsAttributesOf (option_map shape_of o) revealed → IsNameable o revealed
shape_nameable (Some f) (Some a) same = same_attributes f a (same_Some (shape_of f) (shape_revealed a) same)
shape_nameable (Some f) None same = absurd (none-some (shape_of f) (sym same))
shape_nameable None (Some a) same = absurd (none-some (shape_revealed a) same)
shape_nameable None None same = tt

-- no window shows the file, or none that is anonymous
revealed_nameable : (m : Machine) (id : ℕ) (revealed : Option Attributes) → nameable m id ≡ file_at m.files id → IsAttributesOf (shapes_of m.files id) revealed → IsNameable (nameable m id) revealed
revealed_nameable m id revealed is same = rw is (shape_nameable (file_at m.files id) revealed same)

hidden_nameable : (m : Machine) (id : ℕ) → nameable m id ≡ None → IsNameable (nameable m id) None
hidden_nameable m id none = rw none tt

-- ---- The first window on it decides.

first_sees : (m : Machine) (id : ℕ) → IsMachine m → (at : ℕ × Shown) → IsFirstWith (shows id false) m.spaces (Some at) → IsSeen m id (not at.1.anonymous)
first_sees m id is at first = by at.1.anonymous refl
  where
    by : (b : Bool) → at.1.anonymous ≡ b → IsSeen m id (not b)
    by true anonymous = anonymous_shows m id first.0 (window_of at.1) first.1 first.3 anonymous
    by false plain = named_shows m id first.0 (window_of at.1) first.1 first.3 is plain

pub seen_past : (m : Machine) (id handle : ℕ) (shown : Shown) (o : Option (ℕ × Shown)) → IsMachine m → o ≡ Some (handle, shown) → IsFirstWith (shows id false) m.spaces o → IsSeen m id (not shown.anonymous)
seen_past m id handle shown o is same first = first_sees m id is (handle, shown) (subst (λ (o : Option (ℕ × Shown)). IsFirstWith (shows id false) m.spaces o) same first)

pub seen_bare : (m : Machine) (id : ℕ) (o : Option (ℕ × Shown)) → o ≡ None → IsFirstWith (shows id false) m.spaces o → IsSeen m id true
seen_bare m id o same first = none_shows m id (subst (λ (o : Option (ℕ × Shown)). IsFirstWith (shows id false) m.spaces o) same first)

pub seen_revealed : (m : Machine) (id : ℕ) (seen : Bool) (revealed : Option Attributes) → seen ≡ true → IsSeen m id seen → IsAttributesOf (shapes_of m.files id) revealed → IsNameable (nameable m id) revealed
seen_revealed m id seen revealed is sees same = revealed_nameable m id revealed (subst (λ (b : Bool). IsSeen m id b) is sees) same

pub seen_not : (m : Machine) (id : ℕ) (seen : Bool) → seen ≡ false → IsSeen m id seen → IsNameable (nameable m id) None
seen_not m id seen is sees = hidden_nameable m id (subst (λ (b : Bool). IsSeen m id b) is sees)

-- the file is not there
pub gone_revealed : (m : Machine) (id : ℕ) (revealed : Option Attributes) → revealed ≡ None → IsAttributesOf (shapes_of m.files id) revealed → IsNameable (nameable m id) None
gone_revealed m id revealed gone same = by (is_anonymous m.spaces id) refl
  where
    by : (b : Bool) → is_anonymous m.spaces id ≡ b → IsNameable (nameable m id) None
    by true is = hidden_nameable m id (rw is refl)
    by false is = revealed_nameable m id None (named_where m id is) (subst (λ (o : Option Attributes). IsAttributesOf (shapes_of m.files id) o) gone same)
