-- The tests of a root speak of its sector: none says that a count of sectors is refused, or that the disk failed.
use Rattle.std.proofs.Common.{◌≡◌, ℕ, Bool, true, false, List, [], ◌∷◌, Option, Some, None, Ok, Err, subst}
use Rattle.std.specs.Prelude.{option_map}
use Rattle.std.specs.Bool.{then_some}
use Rattle.std.specs.List.{AllByRecursion}
use Rattle.std.specs.Option.{option_map_or}
use Rattle.labelled_disk.specs.declared.layout.RootFault.{RootFault}
use Rattle.labelled_disk.specs.declared.layout.RootFault.TheVariants as fault
use Rattle.labelled_disk.specs.declared.layout.Difference.TheVariants as difference
use Rattle.labelled_disk.specs.Sectors.{Sector}
use Rattle.volume_root.specs.OldRoot.{is_old_version, judged_old}
use Rattle.volume_root.specs.RootPage.{Test, first_of, first_rest, is_version, tests_by, judged, judged_by, root_in}

-- the sector is the reason
abbrev pub IsOfSector : RootFault → Type 0
IsOfSector (fault.NotVolume why) = Unit {0}
IsOfSector fault.Unclean = Unit {0}
IsOfSector (fault.Version v) = Unit {0}
IsOfSector (fault.BadCount n) = ⊥
IsOfSector fault.Disk = ⊥

abbrev SaysSo : Test → Type 0
SaysSo None = Unit {0}
SaysSo (Some why) = IsOfSector why

so_if : (b : Bool) (why : RootFault) → IsOfSector why → SaysSo (then_some b why)
so_if true why is = is
so_if false why is = tt

so_rest : (o : Option ℕ) → SaysSo (option_map (λ i. fault.NotVolume (difference.Rest i)) o)
so_rest None = tt
so_rest (Some i) = tt

so_first : (ts : List Test) → AllByRecursion SaysSo ts → SaysSo (first_of ts)
so_first [] all = tt
so_first (Some why ∷ ts) all = all.0
so_first (None ∷ ts) all = so_first ts all.1

so_judged : (version : Test) → SaysSo version → (clean_only : Bool) (n : ℕ) (s : Sector) (why : RootFault) → judged_by version clean_only n s ≡ Err why → IsOfSector why
so_judged version so clean_only n s why is = to_first (first_of (tests_by version clean_only n s.0 s.1)) is
    (so_first (tests_by version clean_only n s.0 s.1)
    (so_if _ _ tt, (so_if _ _ tt, (so, (so_if _ _ tt, (so_if _ _ tt, (so_if _ _ tt, (so_if _ _ tt, (so_rest (first_rest s.1), (so_if _ _ tt, tt))))))))))
  where
    to_first : (o : Test) → option_map_or (λ (w : RootFault). Err w) o (Ok (root_in s.1)) ≡ Err why → SaysSo o → IsOfSector why
    to_first None e so = absurd (cc)
    to_first (Some w) e so = let same : w ≡ why = cc in subst IsOfSector same so

pub refused : (clean_only : Bool) (n : ℕ) (s : Sector) (why : RootFault) → judged clean_only n s ≡ Err why → IsOfSector why
refused clean_only n s = so_judged (is_version s.1) (so_if _ _ tt) clean_only n s

pub old_refused : (n : ℕ) (s : Sector) (why : RootFault) → judged_old n s ≡ Err why → IsOfSector why
old_refused n s = so_judged (is_old_version s.1) (so_if _ _ tt) false n s
