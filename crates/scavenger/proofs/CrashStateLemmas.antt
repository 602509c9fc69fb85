-- The crash states of two rows of writes, one after the other.
use Rattle.std.proofs.Common.{◌≡◌, ◌⊎◌, inl, inr, ℕ, ◌+◌, ◌-◌, ◌<◌, ◌≤◌, List, [], ◌∷◌, ◌++◌, length, take, refl, sym, ◌∙◌, ap, subst, arith}
use Rattle.std.proofs.lemmas.Bool.{cases_lt}
use Rattle.labelled_disk.specs.declared.disk.DiskWrite.{DiskWrite}
use Rattle.labelled_disk.specs.CrashState.{crash_state}
use Rattle.labelled_disk.specs.Sectors.{Sector}
use Rattle.labelled_disk.specs.WriteRuns.{after_writes}
use Rattle.labelled_disk.proofs.WriteRunLemmas.{after_writes-append, crash_state-earlier, crash_state-end, crash_state-later}

-- each crash state is so
abbrev pub AtEach : (List Sector → Type 0) → List Sector → List DiskWrite → Type 0
AtEach P d writes = (k : ℕ) → P (crash_state d writes k)

pub each_then : (P : List Sector → Type 0) (d : List Sector) (first next : List DiskWrite) → AtEach P d first → AtEach P (after_writes first d) next → AtEach P d (first ++ next)
each_then P d first next one more k = either (cases_lt (length first) k)
  where
    either : (length first < k) ⊎ (k ≤ length first) → P (crash_state d (first ++ next) k)
    either (inr early) = subst P (sym (crash_state-earlier d first next k early)) (one k)
    either (inl late) =
        let e : length first + (k - length first) ≡ k = omega (arith, late) in
        subst P (sym (crash_state-later d first next (k - length first)) ∙ ap (crash_state d (first ++ next)) e) (more (k - length first))

-- the end is a crash state
pub at_end : (P : List Sector → Type 0) (d : List Sector) (writes : List DiskWrite) → AtEach P d writes → P (after_writes writes d)
at_end P d writes each = subst P (crash_state-end d writes) (each (length writes))
