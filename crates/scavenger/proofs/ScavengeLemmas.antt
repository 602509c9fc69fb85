-- The writes of a restoration restore a disk.
use Rattle.std.proofs.Common.{◌≡◌, ◌⊎◌, inl, ℕ, zero, suc, ◌+◌, List, [], ◌∷◌, ◌++◌, length, refl, sym, ◌∙◌, ap, subst, append_assoc}
use Rattle.std.specs.Prelude.{slice_get}
use Rattle.labelled_disk.specs.declared.disk.DiskWrite.{DiskWrite}
use Rattle.labelled_disk.specs.CrashState.{crash_state, written}
use Rattle.labelled_disk.specs.Layout.{vam, vfm}
use Rattle.labelled_disk.specs.Root.{IsRoot, root_page, short_at}
use Rattle.labelled_disk.specs.Runs.{freeing}
use Rattle.labelled_disk.specs.Sectors.{Sector}
use Rattle.labelled_disk.specs.WriteRuns.{after_writes}
use Rattle.volume_root.specs.RootPage.{root_write}
use Rattle.scavenger.specs.Orders.{Orders, AreFor, closed, closing_writes, map_writes, opened, scavenge_writes}
use Rattle.scavenger.specs.Restored.{IsRestored, ScavengingRestores}
use Rattle.scavenger.proofs.CutLemmas.{PowerLaws, survives}
use Rattle.scavenger.proofs.RestoreLemmas.{Laws, IsOnTheWay, on_way_between, opened_clear, open_disk, opened_first, after, h, the_end, each_on_the_way, ends_so}

-- the writes after the first, as they stand in a row
closing_same : (o : Orders) → closing_writes o ≡ after o o.root.sectors o.freed
closing_same o =
    let bits = map_writes 1 1 o.bits (vam o.root.sectors) in
    let names = map_writes 2 (1 + vam o.root.sectors) o.names (vfm o.root.sectors) in
    append_assoc (freeing o.freed) (bits ++ names) (root_write (closed o) ∷ [])
    ∙ ap (λ (ws : List DiskWrite). freeing o.freed ++ ws) (append_assoc bits names (root_write (closed o) ∷ []))

-- the disk before all
at_first : (g h : List Sector) → IsOnTheWay g h g
at_first g h = record { files = refl; right = λ r. r; clean = λ flag. inl refl }

-- the crash states of one write and a row
first_then : (g end : List Sector) (w : DiskWrite) (ws : List DiskWrite) → ((k : ℕ) → IsOnTheWay g end (crash_state (written w g) ws k)) → (k : ℕ) → IsOnTheWay g end (crash_state g (w ∷ ws) k)
first_then g end w ws each zero = at_first g end
first_then g end w ws each (suc k) = each k

module _ (laws : Laws) (power : PowerLaws) (g : List Sector) (o : Orders) (has : IsRoot (length g) (slice_get g 0)) (is_for : AreFor g o) where
  abbrev start : List Sector
  start = open_disk g o has is_for

  abbrev rest : List DiskWrite
  rest = after o o.root.sectors o.freed

  abbrev end : List Sector
  end = h laws g start o has is_for (opened_first g o has is_for)

  same : scavenge_writes o ≡ root_write (opened o) ∷ rest
  same = ap (λ (ws : List DiskWrite). root_write (opened o) ∷ ws) (closing_same o)

  ends : after_writes (scavenge_writes o) g ≡ end
  ends = ap (λ (ws : List DiskWrite). after_writes ws g) same ∙ ends_so laws g start o has is_for (opened_first g o has is_for)

  restored : IsRestored g (after_writes (scavenge_writes o) g)
  restored = subst (IsRestored g) (sym ends) (the_end laws g start o has is_for (opened_first g o has is_for))

  each : (k : ℕ) → IsOnTheWay g end (crash_state g (scavenge_writes o) k)
  each k = subst (λ (ws : List DiskWrite). IsOnTheWay g end (crash_state g ws k)) (sym same)
      (first_then g end (root_write (opened o)) rest (each_on_the_way laws g start o has is_for (opened_first g o has is_for)) k)

  closes : short_at (root_page g) 10 ≡ 0 → IsRestored g (after_writes (closing_writes o) g)
  closes flag =
      let clear = opened_clear g flag in
      subst (IsRestored g) (sym (ap (λ (ws : List DiskWrite). after_writes ws g) (closing_same o) ∙ ends_so laws g g o has is_for clear)) (the_end laws g g o has is_for clear)

  pub restores : ScavengingRestores g o
  restores = record {
    restored = restored;
    crash_states = λ k. on_way_between g end (crash_state g (scavenge_writes o) k) (subst (IsRestored g) ends restored) (each k);
    ends = λ k. subst (λ (x : List Sector). short_at (root_page (crash_state g (scavenge_writes o) k)) 10 ≡ 1 → (crash_state g (scavenge_writes o) k ≡ g) ⊎ (crash_state g (scavenge_writes o) k ≡ x)) (sym ends) (each k).clean;
    closing = closes;
    cuts = λ e cut. survives laws power g o has is_for restored e cut;
  }
