-- When a disk was settled. A sync is reported as the number of the writes that had been made before it.
use Rattle.std.specs.Prelude.{◌≡◌, ◌⊎◌, ◌↔◌, ℕ, ◌+◌, ◌-◌, ◌≤◌, Bool, true, false, nat_eq, if◌then◌else◌, List, [], ◌∷◌, ◌++◌, length, slice_get, All, Contains, Option, Some, None, option_map, is_some}
use Rattle.std.specs.Option.{option_map_or}
use Rattle.std.specs.List.Sorted.{IsStrictlyIncreasing}
use Rattle.std.proofs.Common.{refl, ap, subst}
use Rattle.std.proofs.lemmas.Option.{same_Some, none-some}
use Rattle.labelled_disk.specs.declared.disk.DiskWrite.{DiskWrite}

-- the last of these numbers
abbrev pub last_of : List ℕ → Option ℕ
last_of syncs = slice_get syncs (length syncs - 1)

-- n is the last of these numbers
abbrev pub is_last : ℕ → List ℕ → Bool
is_last n syncs = option_map_or (nat_eq n) (last_of syncs) false

-- these syncs, and one after n writes, which is none where the last of them was after as many
abbrev pub synced_at : ℕ → List ℕ → List ℕ
synced_at n syncs = if is_last n syncs then syncs else syncs ++ n ∷ []

-- what a disk reveals of its syncs after one more, where it revealed these writes and these syncs
abbrev pub synced_by : Option (List DiskWrite) → Option (List ℕ) → Option (List ℕ)
synced_by None syncs = syncs
synced_by (Some writes) syncs = option_map (synced_at (length writes)) syncs

-- The syncs of a disk on which n writes were made: each number once, in their order, none above n. Where all writes are
-- on the medium, the last one is n.
pub record AreSyncs (n : ℕ) (synced : Bool) (syncs : List ℕ) : Type 0 where
  pub ascending : IsStrictlyIncreasing syncs
  pub made : All (λ s. s ≤ n) syncs
  pub last : synced ≡ true → last_of syncs ≡ Some n

-- syncs are revealed where the writes are, and they are such
pub record RevealsSyncs (writes : Option (List DiskWrite)) (syncs : Option (List ℕ)) (synced : Bool) : Type 0 where
  pub revealed : is_some syncs ≡ is_some writes
  pub are : (w : List DiskWrite) (s : List ℕ) → writes ≡ Some w → syncs ≡ Some s → AreSyncs (length w) synced s

pub record SyncingLaws (n : ℕ) (syncs : List ℕ) : Type 0 where
  pub sync_counts : AreSyncs n true (synced_at n syncs)
  pub written : (more : ℕ) → n ≤ more → AreSyncs more false syncs
  -- one more, and none is lost
  pub added : (s : ℕ) → Contains (synced_at n syncs) s ↔ (Contains syncs s ⊎ (n ≡ s))
  pub few : length syncs ≤ n + 1

-- what is so of the syncs of a disk is so of what it reveals of them, where it reveals them
pub revealed_syncs : (recording synced : Bool) (writes : List DiskWrite) (syncs : List ℕ) → (recording ≡ true → AreSyncs (length writes) synced syncs)
    → RevealsSyncs (if recording then Some writes else None) (if recording then Some syncs else None) synced
revealed_syncs false synced writes syncs are = record { revealed = refl; are = λ w s made revealed. absurd (none-some w made) }
revealed_syncs true synced writes syncs are = record {
  revealed = refl;
  are = λ w s made revealed. subst (λ (n : ℕ). AreSyncs n synced s) (ap length (same_Some writes w made))
      (subst (λ (xs : List ℕ). AreSyncs (length writes) synced xs) (same_Some syncs s revealed) (are refl));
}

-- who reveals no writes reveals no syncs
pub no_syncs : (synced : Bool) → RevealsSyncs None None synced
no_syncs synced = record { revealed = refl; are = λ w s made revealed. absurd (none-some w made) }
