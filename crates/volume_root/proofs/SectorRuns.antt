-- What calls in a row leave of a disk that is made a volume.
use Rattle.std.proofs.Common.{◌≡◌, ◌⊎◌, inl, inr, ℕ, zero, suc, ◌+◌, ◌-◌, ◌<◌, ◌≤◌, List, [], ◌∷◌, ◌++◌, refl, sym, ◌∙◌, ap, subst, arith}
use Rattle.std.proofs.lemmas.List.FromFn.{length-map-range_with_len, map-range_with_len_more, take-map-range_with_len}
use Rattle.labelled_disk.specs.declared.disk.DiskWrite.{DiskWrite}
use Rattle.labelled_disk.specs.declared.disk.DiskWrite.TheVariants.{Whole}
use Rattle.labelled_disk.specs.declared.layout.Layout.{Layout}
use Rattle.labelled_disk.specs.Calls.{Moves, RevealsSame, RevealsWrite}
use Rattle.labelled_disk.specs.Sectors.{Sector}
use Rattle.labelled_disk.specs.State.{DiskState}
use Rattle.labelled_disk.specs.WriteRuns.{Appended}
use Rattle.labelled_disk.proofs.WriteRunLemmas.{appended_none, appended_one, appended_then, appended_no_more}
use Rattle.volume_root.specs.Format.{new_sector, sector_writes, PartMade}
use Rattle.volume_root.specs.Later.{IsLater}

pub later_itself : (s : DiskState) → IsLater s s
later_itself s = record { sectors = refl; lent = refl; faults = omega arith }

pub later_then : (a b c : DiskState) → IsLater a b → IsLater b c → IsLater a c
later_then a b c first next = record {
  sectors = next.sectors ∙ first.sectors;
  lent = next.lent ∙ first.lent;
  faults = omega (arith, first.faults, next.faults);
}

pub moved_later : (a b : DiskState) → Moves a b → IsLater a b
moved_later a b moves = record { sectors = moves.sectors; lent = moves.lent; faults = moves.faults }

abbrev pub write_of : Layout → ℕ → DiskWrite
write_of layout i = Whole i (new_sector layout i).0 (new_sector layout i).1

-- The sectors before this one, from `from` on, are those of a new volume.
pub record IsSoFar (layout : Layout) (from : ℕ) (old new : DiskState) (sector : ℕ) : Type 0 where
  pub count : ℕ
  pub place : from + count ≡ sector
  pub later : IsLater old new
  pub syncs : new.syncs ≡ old.syncs
  pub made : Appended (sector_writes layout from count) old new

pub none_so_far : (layout : Layout) (from : ℕ) (s : DiskState) → IsSoFar layout from s s from
none_so_far layout from s = record {
  count = 0;
  place = omega arith;
  later = later_itself s;
  syncs = refl;
  made = appended_none (record { contents = refl; writes = refl });
}

module _ (layout : Layout) (from sector : ℕ) (a b c : DiskState) (s : Sector) (so_far : IsSoFar layout from a b sector) (new : s ≡ new_sector layout sector) where
  made_more : RevealsWrite (Whole sector s.0 s.1) b c → Appended (sector_writes layout from (so_far.count + 1)) a c
  made_more reveals =
      subst (λ (ws : List DiskWrite). Appended ws a c)
      (ap (λ (t : Sector). sector_writes layout from so_far.count ++ Whole sector t.0 t.1 ∷ []) new ∙ sym (map-range_with_len_more (write_of layout) from so_far.count sector so_far.place))
      (appended_then (sector_writes layout from so_far.count) (Whole sector s.0 s.1 ∷ []) so_far.made (appended_one (Whole sector s.0 s.1) reveals))

  -- one write more
  pub one_more : RevealsWrite (Whole sector s.0 s.1) b c → Moves b c → IsSoFar layout from a c (sector + 1)
  one_more reveals moves = record {
    count = so_far.count + 1;
    place = omega (arith, so_far.place);
    later = later_then a b c so_far.later (moved_later b c moves);
    syncs = moves.syncs ∙ so_far.syncs;
    made = made_more reveals;
  }

  first_made : (n k : ℕ) → k ≤ n → Appended (sector_writes layout from k) a c → PartMade (sector_writes layout from n) a c
  first_made n k few made = (
    k,
    omega (arith, few, length-map-range_with_len (write_of layout) from n),
    subst (λ (ws : List DiskWrite). Appended ws a c) (sym (take-map-range_with_len (write_of layout) from n k few)) made,
  )

  -- a failed write is the next one, or none
  pub stopped : (to : ℕ) → sector < to → (RevealsSame b c ⊎ RevealsWrite (Whole sector s.0 s.1) b c) → PartMade (sector_writes layout from (to - from)) a c
  stopped to below (inl same) = first_made (to - from) so_far.count (omega (arith, below, so_far.place)) (appended_no_more (sector_writes layout from so_far.count) so_far.made same)
  stopped to below (inr reveals) = first_made (to - from) (so_far.count + 1) (omega (arith, below, so_far.place)) (made_more reveals)

-- all of them
pub all_so_far : (layout : Layout) (from sector to : ℕ) (a b : DiskState) → IsSoFar layout from a b sector → sector ≡ to → Appended (sector_writes layout from (to - from)) a b
all_so_far layout from sector to a b so_far end =
    subst (λ (k : ℕ). Appended (sector_writes layout from k) a b) (let z : so_far.count ≡ to - from = omega (arith, so_far.place, end) in z) so_far.made

-- sector 0, and then the others
pub split_writes : (layout : Layout) (n : ℕ) → 1 ≤ n → sector_writes layout 0 1 ++ sector_writes layout 1 (n - 1) ≡ sector_writes layout 0 n
split_writes layout zero some = absurd (omega (arith, some))
split_writes layout (suc n) some =
    let z : suc n - 1 ≡ n = omega arith in
    let same : sector_writes layout 0 1 ++ sector_writes layout 1 n ≡ sector_writes layout 0 (suc n) = refl in
    ap (λ (k : ℕ). sector_writes layout 0 1 ++ sector_writes layout 1 k) z ∙ same
