-- A root that one reading takes is refused by the other for its version.
use Rattle.std.proofs.Common.{◌≡◌, ℕ, Bool, true, false, not, ◌&&◌, List, ◌∷◌, Some, None, Ok, Err, refl, sym, ◌∙◌, ap, arith, eqb, Result}
use Rattle.std.specs.Bool.{then_some}
use Rattle.std.specs.Option.{option_map_or}
use Rattle.std.proofs.lemmas.Bool.{eqb-true}
use Rattle.std.proofs.lemmas.Option.{none-some}
use Rattle.labelled_disk.specs.declared.layout.RootFault.{RootFault}
use Rattle.labelled_disk.specs.declared.layout.RootFault.TheVariants as fault
use Rattle.labelled_disk.specs.Root.{short_at}
use Rattle.labelled_disk.specs.Sectors.{Sector}
use Rattle.volume_root.specs.declared.root.Root.{Root}
use Rattle.volume_root.specs.OldRoot.{is_old_version, IsOldOrNew}
use Rattle.volume_root.specs.RootPage.{Test, first_of, is_labelled, is_magic, is_version, judged_by, root_in}
use Rattle.volume_root.proofs.RootLemmas.{passed}

-- the third test is the first that fails
third : (a b c : Test) (rest : List Test) (why : RootFault) → a ≡ None → b ≡ None → c ≡ Some why → first_of (a ∷ b ∷ c ∷ rest) ≡ Some why
third None None None rest why pa pb fails = absurd (none-some why fails)
third None None (Some w) rest why pa pb fails = fails
third None (Some w) c rest why pa pb fails = absurd (none-some w (sym pb))
third (Some w) b c rest why pa pb fails = absurd (none-some w (sym pa))

-- the version that is read is 3, or neither 1 nor 2
old_is_not_new : (v : ℕ) → then_some (not (eqb v 1) && not (eqb v 2)) (fault.Version v) ≡ None → then_some (not (eqb v 3)) (fault.Version v) ≡ Some (fault.Version v)
old_is_not_new v passes = either (eqb v 1) (eqb v 2) (eqb v 3) refl refl refl passes
  where
    either : (a b c : Bool) → eqb v 1 ≡ a → eqb v 2 ≡ b → eqb v 3 ≡ c → then_some (not a && not b) (fault.Version v) ≡ None → then_some (not c) (fault.Version v) ≡ Some (fault.Version v)
    either a b false ea eb ec passes = refl
    either true b true ea eb ec passes = let one : v ≡ 1 = eqb-true v 1 ea in let three : v ≡ 3 = eqb-true v 3 ec in absurd (omega (arith, one, three))
    either false true true ea eb ec passes = let two : v ≡ 2 = eqb-true v 2 eb in let three : v ≡ 3 = eqb-true v 3 ec in absurd (omega (arith, two, three))
    either false false true ea eb ec passes = absurd (none-some (fault.Version v) (sym passes))

new_is_not_old : (v : ℕ) → then_some (not (eqb v 3)) (fault.Version v) ≡ None → then_some (not (eqb v 1) && not (eqb v 2)) (fault.Version v) ≡ Some (fault.Version v)
new_is_not_old v passes = either (eqb v 3) refl passes
  where
    either : (c : Bool) → eqb v 3 ≡ c → then_some (not c) (fault.Version v) ≡ None → then_some (not (eqb v 1) && not (eqb v 2)) (fault.Version v) ≡ Some (fault.Version v)
    either false e passes = absurd (none-some (fault.Version v) (sym passes))
    either true e passes = let three : v ≡ 3 = eqb-true v 3 e in ap (λ (k : ℕ). then_some (not (eqb k 1) && not (eqb k 2)) (fault.Version v)) three

-- taken with one test of the version, and refused by another
other_way : (one two : Test) (asked again : Bool) (n : ℕ) (s : Sector) (root : Root) → judged_by one asked n s ≡ Ok root → (one ≡ None → two ≡ Some (fault.Version (short_at s.1 8))) → judged_by two again n s ≡ Err (fault.Version root.version)
other_way one two asked again n s root is fails =
    let given = passed one asked n s root is in
    ap (λ (o : Test). option_map_or (λ (why : RootFault). Err why) o (Ok (root_in s.1)))
    (third (is_labelled s.0) (is_magic s.1) two _ (fault.Version (short_at s.1 8)) given.0.0 given.0.1.0 (fails given.0.1.1.0))
    ∙ ap refusal (sym given.1)
  where
    refusal : Root → Result Root RootFault
    refusal r = Err (fault.Version r.version)

pub old_or_new : (n : ℕ) (s : Sector) → IsOldOrNew n s
old_or_new n s = record {
  old = λ root is clean_only. other_way (is_old_version s.1) (is_version s.1) false clean_only n s root is (old_is_not_new (short_at s.1 8));
  new = λ clean_only root is. other_way (is_version s.1) (is_old_version s.1) clean_only false n s root is (new_is_not_old (short_at s.1 8));
}
