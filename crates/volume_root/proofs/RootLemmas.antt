-- A valid root passes each test, and passes no other.
use Rattle.std.proofs.Common.{◌≡◌, ℕ, zero, suc, ◌+◌, ◌≤◌, Bool, true, false, not, List, [], ◌∷◌, drop, Option, Some, None, Ok, Err, refl, sym, ap, arith, eqb}
use Rattle.std.specs.Prelude.{All, Result, codes, slice_range, option_map, nat_lt, if◌then◌else◌}
use Rattle.std.specs.Bool.{then_some}
use Rattle.std.specs.Option.{option_map_or}
use Rattle.std.proofs.lemmas.Bool.{eq-eqb, eqb-true, ne_eqb, ltb-true, ltb-false, true≢false, false≢true}
use Rattle.std.proofs.lemmas.Option.{none-some}
use Rattle.std.proofs.lemmas.Slice.Eq.{bytes_eq-Decides}
use Rattle.labelled_disk.specs.declared.layout.RootFault.{RootFault}
use Rattle.labelled_disk.specs.declared.layout.RootFault.TheVariants as fault
use Rattle.labelled_disk.specs.declared.layout.Difference.TheVariants as difference
use Rattle.labelled_disk.specs.Label.{names}
use Rattle.labelled_disk.specs.Sectors.{Sector}
use Rattle.labelled_disk.specs.Layout.{IsCount}
use Rattle.labelled_disk.specs.Root.{IsRoot, short_at, number_at}
use Rattle.volume_root.specs.declared.root.Root.{Root}
use Rattle.volume_root.specs.RootPage.{Test, first_of, is_version, tests, tests_by, judged, judged_by, root_in, has_magic, first_from, first_rest}

-- a test passes where its condition doesn't hold
none_of : {T : Type 0} (b : Bool) (x : T) → b ≡ false → then_some b x ≡ None
none_of true x e = absurd (true≢false e)
none_of false x e = refl

pub of_none : {T : Type 0} (b : Bool) (x : T) → then_some b x ≡ None → b ≡ false
of_none true x e = absurd (none-some x (sym e))
of_none false x e = refl

not_false : (b : Bool) → b ≡ true → not b ≡ false
not_false true e = refl
not_false false e = absurd (false≢true e)

pub false_not : (b : Bool) → not b ≡ false → b ≡ true
false_not true e = refl
false_not false e = absurd (true≢false e)

-- no test fails
abbrev pub AllPass : List Test → Type 0
AllPass [] = Unit {0}
AllPass (test ∷ tests) = (test ≡ None) × AllPass tests

first_none : (tests : List Test) → AllPass tests → first_of tests ≡ None
first_none [] all = refl
first_none (Some why ∷ tests) all = absurd (none-some why (sym all.0))
first_none (None ∷ tests) all = first_none tests all.1

none_first : (tests : List Test) → first_of tests ≡ None → AllPass tests
none_first [] e = tt
none_first (Some why ∷ tests) e = absurd (none-some why (sym e))
none_first (None ∷ tests) e = (refl, none_first tests e)

pub some_of : (k : ℕ) → eqb k 0 ≡ false → 1 ≤ k
some_of zero e = absurd (true≢false e)
some_of (suc k) e = omega arith

-- where a root is taken, each test passes, and the root is the page's
pub passed : (version : Test) (clean_only : Bool) (n : ℕ) (s : Sector) (root : Root) → judged_by version clean_only n s ≡ Ok root → AllPass (tests_by version clean_only n s.0 s.1) × (root ≡ root_in s.1)
passed version clean_only n s root is = let found = either (first_of (tests_by version clean_only n s.0 s.1)) is in (none_first (tests_by version clean_only n s.0 s.1) found.0, found.1)
  where
    root_of : Result Root RootFault → Root
    root_of (Ok r) = r
    root_of (Err why) = root

    either : (o : Test) → option_map_or (λ (why : RootFault). Err why) o (Ok (root_in s.1)) ≡ Ok root → (o ≡ None) × (root ≡ root_in s.1)
    either None e = (refl, sym (ap root_of e))
    either (Some why) e = absurd (cc e)

zeros : (i : ℕ) (bs : List ℕ) → All (λ b. b ≡ 0) bs → first_from i bs ≡ None
zeros i [] all = refl
zeros i (b ∷ bs) all =
    let here : b ≡ 0 = all 0 0 (omega arith) in
    rw (eq-eqb b 0 here) (zeros (i + 1) bs (λ k d below. all (suc k) d (omega (arith, below))))

all_zero : (i : ℕ) (bs : List ℕ) → first_from i bs ≡ None → All (λ b. b ≡ 0) bs
all_zero i [] e = λ k d below. absurd (omega (arith, below))
all_zero i (b ∷ bs) e = either (eqb b 0) refl e (λ h. all_zero (i + 1) bs h)
  where
    each : b ≡ 0 → All (λ b. b ≡ 0) bs → All (λ b. b ≡ 0) (b ∷ bs)
    each here rest zero d below = here
    each here rest (suc k) d below = rest k d (omega (arith, below))

    either : (t : Bool) → eqb b 0 ≡ t → (if t then first_from (i + 1) bs else Some i) ≡ None → (first_from (i + 1) bs ≡ None → All (λ b. b ≡ 0) bs) → All (λ b. b ≡ 0) (b ∷ bs)
    either true q h more = each (eqb-true b 0 q) (more h)
    either false q h more = absurd (none-some i (sym h))

pub passes : (n : ℕ) (s : Sector) → IsRoot n (Some s) → judged false n s ≡ Ok (root_in s.1)
passes n s valid =
    ap (λ (t : Test). option_map_or (λ (why : RootFault). Err why) t (Ok (root_in s.1)))
    (first_none (tests false n s.0 s.1) (
      none_of _ _ (not_false (names s.0 (record { id = 4; page = 0 })) valid.label),
      (
        none_of _ _ (not_false (has_magic s.1) ((bytes_eq-Decides (slice_range s.1 0 8) (codes "PILOTVOL")).1 valid.magic)),
        (
          none_of _ _ (not_false (eqb (short_at s.1 8) 3) (eq-eqb (short_at s.1 8) 3 valid.version)),
          (
            none_of _ _ (not_false (eqb (number_at s.1 12) n) (eq-eqb (number_at s.1 12) n valid.count)),
            (
              none_of _ _ (ne_eqb (number_at s.1 16) 0 (λ e. omega (arith, e, valid.serial))),
              (
                none_of _ _ (ne_eqb (number_at s.1 20) 0 (λ e. omega (arith, e, valid.counter))),
                (
                  none_of _ _ (low (nat_lt 1 (short_at s.1 10)) refl),
                  (
                    ap (λ (o : Option ℕ). option_map (λ i. fault.NotVolume (difference.Rest i)) o) (zeros 24 (drop 24 s.1) valid.rest),
                    (refl, tt),
                  ),
                ),
              ),
            ),
          ),
        ),
      ),
    ))
  where
    low : (b : Bool) → nat_lt 1 (short_at s.1 10) ≡ b → nat_lt 1 (short_at s.1 10) ≡ false
    low false e = e
    low true e = absurd (omega (arith, ltb-true 1 (short_at s.1 10) e, valid.flag))

pub valid : (n : ℕ) (s : Sector) → IsCount n → (root : Root) → judged false n s ≡ Ok root → IsRoot n (Some s)
valid n s count root is = record {
  accepted = count;
  label = false_not (names s.0 (record { id = 4; page = 0 })) (of_none _ _ all.0);
  magic = (bytes_eq-Decides (slice_range s.1 0 8) (codes "PILOTVOL")).0 (false_not (has_magic s.1) (of_none _ _ all.1.0));
  version = eqb-true (short_at s.1 8) 3 (false_not (eqb (short_at s.1 8) 3) (of_none _ _ all.1.1.0));
  flag = low (nat_lt 1 (short_at s.1 10)) refl (of_none _ _ all.1.1.1.1.1.1.0);
  count = eqb-true (number_at s.1 12) n (false_not (eqb (number_at s.1 12) n) (of_none _ _ all.1.1.1.0));
  serial = some_of (number_at s.1 16) (of_none _ _ all.1.1.1.1.0);
  counter = some_of (number_at s.1 20) (of_none _ _ all.1.1.1.1.1.0);
  rest = all_zero 24 (drop 24 s.1) (unmapped (first_rest s.1) all.1.1.1.1.1.1.1.0);
}
  where
    all : AllPass (tests false n s.0 s.1)
    all = (passed (is_version s.1) false n s root is).0

    unmapped : (o : Option ℕ) → option_map (λ i. fault.NotVolume (difference.Rest i)) o ≡ None → o ≡ None
    unmapped None e = refl
    unmapped (Some i) e = absurd (none-some (fault.NotVolume (difference.Rest i)) (sym e))

    low : (b : Bool) → nat_lt 1 (short_at s.1 10) ≡ b → nat_lt 1 (short_at s.1 10) ≡ false → short_at s.1 10 ≤ 1
    low b e fails = ltb-false 1 (short_at s.1 10) fails
