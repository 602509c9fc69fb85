-- The tests of a call that shows a file in a space, one after the other.
use Rattle.std.proofs.Common.{◌≡◌, ◌≢◌, ◌⊎◌, inl, inr, ℕ, ◌+◌, ◌^◌, ◌<◌, ◌≤◌, Bool, true, false, ◌&&◌, [], ◌∷◌, Option, Some, None, Result, Ok, Err, refl, sym, ◌∙◌, ap, subst, arith}
use Rattle.std.specs.Prelude.{◌==◌, is_none, nat_lt, option_and_then, if◌then◌else◌}
use Rattle.std.specs.Bool.{then_some}
use Rattle.std.proofs.lemmas.Bool.{eqb-true, ne_eqb, true≢false}
use Rattle.std.proofs.lemmas.Bool.Decides.{nat_tests}
use Rattle.std.proofs.lemmas.Option.{same_Some}
use Rattle.flat_machine.specs.declared.call.Call.TheVariants as call
use Rattle.flat_machine.specs.declared.call.Refusal.{Refusal}
use Rattle.flat_machine.specs.declared.call.Refusal.TheVariants as why
use Rattle.flat_machine.specs.declared.space.Space.{Space}
use Rattle.flat_machine.specs.File.{File, size, file_at}
use Rattle.flat_machine.specs.IsMachine.{IsMachine}
use Rattle.flat_machine.specs.Machine.{IsFileId, Machine, nameable}
use Rattle.flat_machine.specs.Next.{set_window}
use Rattle.flat_machine.specs.Refusal.{Test, first_of, is_immutable, is_root, no_file, of_file, past_end, refusal}
use Rattle.flat_machine.specs.Space.{space_at}
use Rattle.flat_machine.proofs.Keep.{spaces_of}
use Rattle.flat_machine.proofs.KeepWindows.{map_keeps, own_free}
use Rattle.flat_machine.proofs.Lists.{all_in, find_in}
use Rattle.flat_machine.proofs.TestLemmas.{file_there, six_none}
use Rattle.projection_laws.specs.Laws.{WindowFits}
use Rattle.projection_laws.specs.Spaces.{MayHaveWindow}
use Rattle.projection_laws.specs.Tests.{map_row, no_space, path_mapped}
use Rattle.projection_laws.proofs.Passes.{map_passes, tests_on_spaces}
use Rattle.table_calls.specs.Answers.{Reveals}
use Rattle.file_manager.specs.declared.attributes.Attributes.{Attributes}
use Rattle.space_calls.specs.Mapping.{IsInReach}
use Rattle.space_calls.specs.Naming.{IsNameable}
use Rattle.space_calls.proofs.CarryLemmas.{answered, declined, next_done}
use Rattle.space_calls.proofs.NameLemmas.{named_where}

-- ---- A row of six tests.

module _ (a b f c d g : Test) (word : Refusal) where
  first_says : a ≡ Some word → first_of (a ∷ b ∷ f ∷ c ∷ d ∷ g ∷ []) ≡ Some word
  first_says e = rw e refl

  second_says : a ≡ None → b ≡ Some word → first_of (a ∷ b ∷ f ∷ c ∷ d ∷ g ∷ []) ≡ Some word
  second_says p e = rw (p, e) refl

  third_says : a ≡ None → b ≡ None → f ≡ Some word → first_of (a ∷ b ∷ f ∷ c ∷ d ∷ g ∷ []) ≡ Some word
  third_says p q e = rw (p, q, e) refl

  fourth_says : a ≡ None → b ≡ None → f ≡ None → c ≡ Some word → first_of (a ∷ b ∷ f ∷ c ∷ d ∷ g ∷ []) ≡ Some word
  fourth_says p q r e = rw (p, q, r, e) refl

  fifth_says : a ≡ None → b ≡ None → f ≡ None → c ≡ None → d ≡ Some word → first_of (a ∷ b ∷ f ∷ c ∷ d ∷ g ∷ []) ≡ Some word
  fifth_says p q r s e = rw (p, q, r, s, e) refl

  sixth_says : a ≡ None → b ≡ None → f ≡ None → c ≡ None → d ≡ None → g ≡ Some word → first_of (a ∷ b ∷ f ∷ c ∷ d ∷ g ∷ []) ≡ Some word
  sixth_says p q r s t e = rw (p, q, r, s, t, e) refl

none_says : (a b f c d g : Test) → a ≡ None → b ≡ None → f ≡ None → c ≡ None → d ≡ None → g ≡ None → first_of (a ∷ b ∷ f ∷ c ∷ d ∷ g ∷ []) ≡ None
none_says a b f c d g p q r s t e = rw (p, q, r, s, t, e) refl

-- ---- The tests.

root_named : (handle : ℕ) → handle ≡ 0 → is_root handle ≡ Some why.Root
root_named handle zero = rw zero refl

not_the_root : (handle : ℕ) → handle ≢ 0 → is_root handle ≡ None
not_the_root handle other = ap (λ (b : Bool). then_some b why.Root) (ne_eqb handle 0 other)

-- a file that may be named
pub record IsNamed (m : Machine) (id : ℕ) (a : Attributes) : Type 0 where
  pub f : File
  pub nameable_is : nameable m id ≡ Some f
  pub there : file_at m.files id ≡ Some f
  pub long : a.pages ≡ size f
  pub immutable : a.immutable ≡ f.immutable

module _ (m : Machine) (id : ℕ) where
  file_missing : nameable m id ≡ None → no_file m id ≡ Some why.File
  file_missing none = ap (λ (o : Option File). then_some (is_none o) why.File) none

  file_found : (f : File) → nameable m id ≡ Some f → no_file m id ≡ None
  file_found f some = ap (λ (o : Option File). then_some (is_none o) why.File) some

  revealed_none : (o : Option File) → IsNameable o None → o ≡ None
  revealed_none None revealed = refl
  revealed_none (Some f) revealed = absurd revealed

  revealed_some : (o : Option File) (a : Attributes) → IsNameable o (Some a) → (f : File) × (o ≡ Some f) × (a.pages ≡ size f) × (a.immutable ≡ f.immutable)
  revealed_some None a revealed = absurd revealed
  revealed_some (Some f) a revealed = (f, refl, revealed.0, revealed.3)

  named : (a : Attributes) → IsNameable (nameable m id) (Some a) → IsNamed m id a
  named a revealed =
      let found = revealed_some (nameable m id) a revealed in
      let f = file_there m id (file_found found.0 found.1) in
      record { f = found.0; nameable_is = found.1; there = sym (named_where m id f.2) ∙ found.1; long = found.2; immutable = found.3 }

-- the window from that page on ends in the file, or past its end
past_or_not : (m : Machine) (handle id page : ℕ) (s : Space) (f : File) → space_at m.spaces handle ≡ Some s → file_at m.files id ≡ Some f → past_end m handle id page ≡ then_some (nat_lt (size f) (page + s.pages)) why.Window
past_or_not m handle id page s f at there =
    ap (λ (o : Option Space). option_and_then (λ t. of_file m id (λ g. then_some (nat_lt (size g) (page + t.pages)) why.Window)) o) at
    ∙ ap (λ (o : Option File). option_and_then (λ g. then_some (nat_lt (size g) (page + s.pages)) why.Window) o) there

immutable_or_not : (m : Machine) (id : ℕ) (f : File) → file_at m.files id ≡ Some f → is_immutable m id ≡ then_some f.immutable why.Immutable
immutable_or_not m id f there = ap (λ (o : Option File). option_and_then (λ g. then_some g.immutable why.Immutable) o) there

module _ (m : Machine) (handle id page : ℕ) (writable : Bool) where
  agreed : refusal m (call.Map handle id page writable) ≡ first_of (no_space m.spaces handle ∷ is_root handle ∷ no_file m id ∷ first_of (map_row m.spaces handle) ∷ past_end m handle id page ∷ (if writable then is_immutable m id else None) ∷ [])
  agreed = (tests_on_spaces m).map handle id page writable

  pub space_missing : (word : Refusal) → no_space m.spaces handle ≡ Some word → refusal m (call.Map handle id page writable) ≡ Some word
  space_missing word e = agreed ∙ first_says (no_space m.spaces handle) (is_root handle) (no_file m id) (first_of (map_row m.spaces handle)) (past_end m handle id page) (if writable then is_immutable m id else None) word e

  module _ (there : no_space m.spaces handle ≡ None) where
    pub root_given : handle ≡ 0 → refusal m (call.Map handle id page writable) ≡ Some why.Root
    root_given zero =
        agreed ∙ second_says (no_space m.spaces handle) (is_root handle) (no_file m id) (first_of (map_row m.spaces handle)) (past_end m handle id page) (if writable then is_immutable m id else None) why.Root there (root_named handle zero)

    module _ (other : handle ≢ 0) where
      pub no_such_file : IsNameable (nameable m id) None → refusal m (call.Map handle id page writable) ≡ Some why.File
      no_such_file revealed =
          agreed ∙ third_says (no_space m.spaces handle) (is_root handle) (no_file m id) (first_of (map_row m.spaces handle)) (past_end m handle id page) (if writable then is_immutable m id else None) why.File
          there (not_the_root handle other) (file_missing m id (revealed_none m id (nameable m id) revealed))

      module _ (a : Attributes) (revealed : IsNameable (nameable m id) (Some a)) where
        found : IsNamed m id a
        found = named m id a revealed

        pub path_taken : (word : Refusal) → first_of (map_row m.spaces handle) ≡ Some word → refusal m (call.Map handle id page writable) ≡ Some word
        path_taken word e =
            agreed ∙ fourth_says (no_space m.spaces handle) (is_root handle) (no_file m id) (first_of (map_row m.spaces handle)) (past_end m handle id page) (if writable then is_immutable m id else None) word
            there (not_the_root handle other) (file_found m id found.f found.nameable_is) e

        module _ (free : first_of (map_row m.spaces handle) ≡ None) (s : Space) (at : space_at m.spaces handle ≡ Some s) where
          pub window_long : a.pages < page + s.pages → refusal m (call.Map handle id page writable) ≡ Some why.Window
          window_long long =
              let same = found.long in
              let past : nat_lt (size found.f) (page + s.pages) ≡ true = grind (arith, nat_tests, long, same) in
              agreed ∙ fifth_says (no_space m.spaces handle) (is_root handle) (no_file m id) (first_of (map_row m.spaces handle)) (past_end m handle id page) (if writable then is_immutable m id else None) why.Window
              there (not_the_root handle other) (file_found m id found.f found.nameable_is) free (past_or_not m handle id page s found.f at found.there ∙ ap (λ (b : Bool). then_some b why.Window) past)

          module _ (fits : page + s.pages ≤ a.pages) where
            not_past : past_end m handle id page ≡ None
            not_past =
                let same = found.long in
                let inside : nat_lt (size found.f) (page + s.pages) ≡ false = grind (arith, nat_tests, fits, same) in
                past_or_not m handle id page s found.f at found.there ∙ ap (λ (b : Bool). then_some b why.Window) inside

            pub file_immutable : writable ≡ true → a.immutable ≡ true → refusal m (call.Map handle id page writable) ≡ Some why.Immutable
            file_immutable is immutable =
                agreed ∙ sixth_says (no_space m.spaces handle) (is_root handle) (no_file m id) (first_of (map_row m.spaces handle)) (past_end m handle id page) (if writable then is_immutable m id else None) why.Immutable
                there (not_the_root handle other) (file_found m id found.f found.nameable_is) free not_past
                (ap (λ (b : Bool). if b then is_immutable m id else None) is ∙ immutable_or_not m id found.f found.there ∙ ap (λ (b : Bool). then_some b why.Immutable) (sym found.immutable ∙ immutable))

            pub window_allowed : writable && a.immutable ≡ false → refusal m (call.Map handle id page writable) ≡ None
            window_allowed mutable =
                agreed ∙ none_says (no_space m.spaces handle) (is_root handle) (no_file m id) (first_of (map_row m.spaces handle)) (past_end m handle id page) (if writable then is_immutable m id else None)
                there (not_the_root handle other) (file_found m id found.f found.nameable_is) free not_past (by writable mutable)
              where
                by : (b : Bool) → b && a.immutable ≡ false → (if b then is_immutable m id else None) ≡ None
                by true not_so = immutable_or_not m id found.f found.there ∙ ap (λ (b : Bool). then_some b why.Immutable) (sym found.immutable ∙ not_so)
                by false not_so = refl

pub both_not : (a b : Bool) → (a ≡ false) ⊎ (b ≡ false) → a && b ≡ false
both_not false b either = refl
both_not true b (inl off) = absurd (true≢false off)
both_not true b (inr off) = off

-- ---- What passing them gives.

pub record MayBeGiven (m : Machine) (handle id page : ℕ) (writable : Bool) : Type 0 where
  pub x : Space
  pub named_so : x.handle ≡ handle
  pub may : MayHaveWindow m.spaces x
  pub bare : x.window ≡ None
  pub fits : WindowFits x.pages (record { file = id; first = page; writable = writable; anonymous = false })
  pub machine : IsMachine (record m { spaces = set_window handle (Some (record { file = id; first = page; writable = writable; anonymous = false })) m.spaces })

pub may_be_given : (m : Machine) (handle id page : ℕ) (writable : Bool) → IsMachine m → refusal m (call.Map handle id page writable) ≡ None → IsInReach m handle page → MayBeGiven m handle id page writable
may_be_given m handle id page writable is none reach =
    let tests = six_none (no_space m.spaces handle) (is_root handle) (no_file m id) (path_mapped m.spaces handle) (past_end m handle id page) (if writable then is_immutable m id else None) none in
    let free : first_of (map_row m.spaces handle) ≡ None = rw (tests.0, tests.1, tests.3) refl in
    let may = map_passes m.spaces handle (spaces_of m is) free in
    let x : Space = may.0 in
    let at : space_at m.spaces handle ≡ Some x = subst (λ (n : ℕ). space_at m.spaces n ≡ Some x) may.1 may.2.there in
    let f = file_there m id tests.2 in
    let in_files = find_in (λ g. g.id == id) m.files f.0 f.1 in
    let given : IsFileId m.serial m.counter id = subst (IsFileId m.serial m.counter) (eqb-true f.0.id id in_files.1) (all_in (λ g. IsFileId m.serial m.counter g.id) m.files is.ids_given f.0 in_files.0) in
    let same : reach.0 ≡ x = same_Some reach.0 x (sym reach.1 ∙ at) in
    record {
      x = x;
      named_so = may.1;
      may = may.2;
      bare = own_free m handle x is at tests.3;
      fits = record { above_reserved = given.above_reserved; small = given.fits; pages_fit = subst (λ (s : Space). page + s.pages ≤ 2 ^ 32) same reach.2 };
      machine = subst IsMachine (next_done m (call.Map handle id page writable) none) (map_keeps handle id page writable m is);
    }

-- ---- The answer of the tests.

module _ (m : Machine) (handle id page : ℕ) (writable : Bool) (o : Result Unit Refusal) where
  pub map_passed : (u : Unit {0}) → o ≡ Ok u → Reveals (refusal m (call.Map handle id page writable)) (λ v. IsInReach m handle page) o → (refusal m (call.Map handle id page writable) ≡ None) × IsInReach m handle page
  map_passed u is revealed = answered (refusal m (call.Map handle id page writable)) (λ v. IsInReach m handle page) (Unit {0}) o u is revealed

  pub map_stopped : (word : Refusal) → o ≡ Err word → Reveals (refusal m (call.Map handle id page writable)) (λ v. IsInReach m handle page) o → refusal m (call.Map handle id page writable) ≡ Some word
  map_stopped word is revealed = (declined (refusal m (call.Map handle id page writable)) (λ v. IsInReach m handle page) (Unit {0}) o word is revealed).0
