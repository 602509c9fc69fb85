-- Each crash state of what a disk reveals that was written, where the writes are the first ones of a restoration.
use Rattle.std.proofs.Common.{◌≡◌, inl, ℕ, zero, suc, List, [], ◌∷◌, ◌++◌, length, take, Some, Result, refl, sym, ◌∙◌, ap, subst}
use Rattle.std.specs.Prelude.{option_map, slice_get}
use Rattle.std.proofs.lemmas.List.{append_cancel_left}
use Rattle.std.proofs.lemmas.Option.{same_Some}
use Rattle.labelled_disk.specs.declared.disk.DiskWrite.{DiskWrite}
use Rattle.labelled_disk.specs.Calls.{OnlyReads, RevealsSame}
use Rattle.labelled_disk.specs.CrashState.{crash_state}
use Rattle.labelled_disk.specs.Root.{IsRoot}
use Rattle.labelled_disk.specs.Sectors.{Sector, AreSectors}
use Rattle.labelled_disk.specs.State.{DiskState}
use Rattle.labelled_disk.specs.WriteRuns.{Appended, after_writes}
use Rattle.labelled_disk.proofs.WriteRunLemmas.{appended_none}
use Rattle.volume_root.specs.Format.{PartMade}
use Rattle.scavenger.specs.Carries.{Carries}
use Rattle.scavenger.specs.Orders.{Orders, AreFor, scavenge_writes}
use Rattle.scavenger.specs.Restored.{IsBetween, ScavengingRestores, RestoresEach}
use Rattle.scavenger.proofs.RowLemmas.{carries_part}
use Rattle.scavenger.proofs.TopLemmas.{part_after}

-- nothing was written
pub reads_same : {a b : DiskState} → OnlyReads a b → RevealsSame a b
reads_same only = record { contents = only.contents; writes = only.writes }

-- the writes that were revealed are those that were made
revealed_writes : (made : List DiskWrite) (a c : DiskState) (before writes : List DiskWrite) → Appended made a c → a.writes ≡ Some before → c.writes ≡ Some (before ++ writes) → made ≡ writes
revealed_writes made a c before writes appended revealed later =
    append_cancel_left before made writes (same_Some (before ++ made) (before ++ writes) (sym (appended.revealed ∙ ap (option_map (λ (earlier : List DiskWrite). earlier ++ made)) revealed) ∙ later))

-- the disk as it was
between_itself : (g : List Sector) → IsBetween g g
between_itself g = record { files = refl; right = λ right. right; clean = λ clean. inl refl }

between_none : (g : List Sector) (k : ℕ) → IsBetween g (crash_state g [] k)
between_none g zero = between_itself g
between_none g (suc k) = between_itself g

-- some first ones of some first ones
take_both : (k m : ℕ) (ws : List DiskWrite) → (j : ℕ) × (take k (take m ws) ≡ take j ws)
take_both zero m ws = (0, refl)
take_both (suc k) zero ws = (0, refl)
take_both (suc k) (suc m) [] = (0, refl)
take_both (suc k) (suc m) (w ∷ ws) = let rest = take_both k m ws in (suc rest.0, ap (λ (l : List DiskWrite). w ∷ l) rest.1)

between_part : (g : List Sector) (o : Orders) → ScavengingRestores g o → (m k : ℕ) → IsBetween g (crash_state g (take m (scavenge_writes o)) k)
between_part g o laws m k =
    let both = take_both k m (scavenge_writes o) in
    subst (λ (ws : List DiskWrite). IsBetween g (after_writes ws g)) (sym both.1) (laws.crash_states both.0)

-- where a disk that held g reveals what was written on it
module _ (g : List Sector) (a c : DiskState) (before writes : List DiskWrite) (earlier : a.writes ≡ Some before) (later : c.writes ≡ Some (before ++ writes)) (k : ℕ) where
  pub crash_states_of_none : RevealsSame a c → IsBetween g (crash_state g writes k)
  crash_states_of_none same = subst (λ (ws : List DiskWrite). IsBetween g (crash_state g ws k)) (revealed_writes [] a c before writes (appended_none same) earlier later) (between_none g k)

  crash_states_of_part : (o : Orders) → ScavengingRestores g o → PartMade (scavenge_writes o) a c → IsBetween g (crash_state g writes k)
  crash_states_of_part o laws part =
      subst (λ (ws : List DiskWrite). IsBetween g (crash_state g ws k)) (revealed_writes (take part.0 (scavenge_writes o)) a c before writes part.2 earlier later) (between_part g o laws part.0 k)

  -- a restoration after calls that wrote nothing
  pub crash_states_of_carried : {E : Type 0} (o : Orders) (b : DiskState) (r : Result (Unit {0}) E) → RestoresEach → AreSectors g → IsRoot (length g) (slice_get g 0) → AreFor g o → OnlyReads a b
      → Carries (scavenge_writes o) b r c → IsBetween g (crash_state g writes k)
  crash_states_of_carried o b r laws sectors root are reads carries =
      crash_states_of_part o (laws g o sectors root are) (part_after (scavenge_writes o) a b c reads (carries_part (scavenge_writes o) b c r carries))
