-- What a root that is taken has, whatever the test of its version.
use Rattle.std.proofs.Common.{◌≡◌, ◌⊎◌, inl, inr, ℕ, ◌≤◌, Bool, true, false, not, ◌&&◌, List, None, Result, Ok, Err, refl, sym, ◌∙◌, ap, subst, arith, eqb}
use Rattle.std.specs.Prelude.{IfOk}
use Rattle.std.specs.Bool.{then_some}
use Rattle.std.proofs.lemmas.Bool.{eqb-true}
use Rattle.std.proofs.lemmas.Option.{none-some}
use Rattle.labelled_disk.specs.declared.layout.RootFault.{RootFault}
use Rattle.labelled_disk.specs.declared.layout.RootFault.TheVariants as fault
use Rattle.labelled_disk.specs.Layout.{IsCount}
use Rattle.labelled_disk.specs.Root.{short_at, number_at}
use Rattle.labelled_disk.specs.Sectors.{Sector}
use Rattle.volume_root.specs.declared.root.Root.{Root}
use Rattle.volume_root.specs.OldRoot.{is_old_version, judged_old, IsOldCount, IsValidOldRoot}
use Rattle.volume_root.specs.RootPage.{Test, is_version, judged, judged_by, root_in, IsUnlessFault, IsValidRoot}
use Rattle.volume_root.proofs.RootLemmas.{passed, of_none, false_not, some_of}

-- unless the disk failed
as_judged : (result right : Result Root RootFault) → result ≡ right → IsUnlessFault result right
as_judged (Ok root) right same = same
as_judged (Err (fault.NotVolume why)) right same = same
as_judged (Err fault.Unclean) right same = same
as_judged (Err (fault.Version v)) right same = same
as_judged (Err (fault.BadCount n)) right same = same
as_judged (Err fault.Disk) right same = tt

-- what was read is judged as it stands on the disk
pub judged_there : (version : List ℕ → Test) (clean_only : Bool) (m n : ℕ) (t s : Sector) (result : Result Root RootFault) → m ≡ n → t ≡ s → result ≡ judged_by (version t.1) clean_only m t
    → IsUnlessFault result (judged_by (version s.1) clean_only n s)
judged_there version clean_only m n t s result size same is =
    as_judged result (judged_by (version s.1) clean_only n s)
    (is ∙ ap (λ (k : ℕ). judged_by (version t.1) clean_only k t) size ∙ ap (λ (u : Sector). judged_by (version u.1) clean_only n u) same)

-- the fields that are tested alike
record IsTaken (version : Test) (n : ℕ) (s : Sector) (root : Root) : Type 0 where
  passes : version ≡ None
  same : root ≡ root_in s.1
  count : root.sectors ≡ n
  serial : 1 ≤ root.serial
  counter : 1 ≤ root.counter

taken : (version : Test) (clean_only : Bool) (n : ℕ) (s : Sector) (root : Root) → judged_by version clean_only n s ≡ Ok root → IsTaken version n s root
taken version clean_only n s root is =
    let given = passed version clean_only n s root is in
    let serial = some_of (number_at s.1 16) (of_none _ _ given.0.1.1.1.1.0) in
    let counter = some_of (number_at s.1 20) (of_none _ _ given.0.1.1.1.1.1.0) in
    record {
      passes = given.0.1.1.0;
      same = given.1;
      count = ap (λ (r : Root). r.sectors) given.1 ∙ eqb-true (number_at s.1 12) n (false_not (eqb (number_at s.1 12) n) (of_none _ _ given.0.1.1.1.0));
      serial = omega (arith, serial, ap (λ (r : Root). r.serial) given.1);
      counter = omega (arith, counter, ap (λ (r : Root). r.counter) given.1);
    }

if_ok : (P : Root → Type 0) (result right : Result Root RootFault) → result ≡ right → ((root : Root) → right ≡ Ok root → P root) → IfOk result P
if_ok P (Ok root) right same each = each root (sym same)
if_ok P (Err why) right same each = tt

pub valid_taken : (result : Result Root RootFault) (clean_only : Bool) (n : ℕ) (s : Sector) → result ≡ judged clean_only n s → IsCount n → IfOk result (IsValidRoot n)
valid_taken result clean_only n s is counted = if_ok (IsValidRoot n) result (judged clean_only n s) is (λ root same.
    let fields = taken (is_version s.1) clean_only n s root same in
    record {
      version = ap (λ (r : Root). r.version) fields.same ∙ eqb-true (short_at s.1 8) 3 (false_not (eqb (short_at s.1 8) 3) (of_none _ _ fields.passes));
      accepted = counted;
      count = fields.count;
      serial = fields.serial;
      counter = fields.counter;
    })

one_or_two : (v : ℕ) → then_some (not (eqb v 1) && not (eqb v 2)) (fault.Version v) ≡ None → (v ≡ 1) ⊎ (v ≡ 2)
one_or_two v passes = either (eqb v 1) (eqb v 2) refl refl passes
  where
    either : (a b : Bool) → eqb v 1 ≡ a → eqb v 2 ≡ b → then_some (not a && not b) (fault.Version v) ≡ None → (v ≡ 1) ⊎ (v ≡ 2)
    either true b one two passes = inl (eqb-true v 1 one)
    either false true one two passes = inr (eqb-true v 2 two)
    either false false one two passes = absurd (none-some (fault.Version v) (sym passes))

pub old_taken : (result : Result Root RootFault) (n : ℕ) (s : Sector) → result ≡ judged_old n s → IsOldCount n → IfOk result (IsValidOldRoot n)
old_taken result n s is counted = if_ok (IsValidOldRoot n) result (judged_old n s) is (λ root same.
    let fields = taken (is_old_version s.1) false n s root same in
    record {
      version = subst (λ (v : ℕ). (v ≡ 1) ⊎ (v ≡ 2)) (sym (ap (λ (r : Root). r.version) fields.same)) (one_or_two (short_at s.1 8) fields.passes);
      accepted = counted;
      count = fields.count;
      serial = fields.serial;
      counter = fields.counter;
    })
