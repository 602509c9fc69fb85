-- Writes in a row, as calls that may fail make them.
use Rattle.std.proofs.Common.{◌≡◌, ◌⊎◌, inl, inr, ◌+◌, List, [], ◌∷◌, ◌++◌, length, take, Result, Ok, Err, refl, sym, ◌∙◌, subst, arith, length-append}
use Rattle.std.proofs.lemmas.List.{take_all, take-append-le}
use Rattle.std.proofs.Math.Seq.{take-append-add}
use Rattle.labelled_disk.specs.declared.disk.DiskError.{DiskError}
use Rattle.labelled_disk.specs.declared.disk.DiskWrite.{DiskWrite}
use Rattle.labelled_disk.specs.Calls.{Moves, Rose, Syncs, RevealsSame, RevealsWrite, Writes}
use Rattle.labelled_disk.specs.State.{DiskState}
use Rattle.labelled_disk.specs.WriteRuns.{Appended}
use Rattle.labelled_disk.proofs.CallLemmas.{rose_earlier}
use Rattle.labelled_disk.proofs.WriteRunLemmas.{appended_none, appended_one, appended_then, appended_no_more}
use Rattle.cut_words.proofs.KeepLemmas.{keeps_same, keeps_then, moved_keeps, sync_keeps}
use Rattle.volume_root.specs.Format.{PartMade}
use Rattle.volume_root.specs.Later.{IsLater}
use Rattle.scavenger.specs.Carries.{Carries, MakesWithBarriers}

pub later_itself : (a : DiskState) → IsLater a a
later_itself a = record { sectors = refl; lent = refl; faults = omega arith }

pub later_then : {a b c : DiskState} → IsLater a b → IsLater b c → IsLater a c
later_then first next = record {
  sectors = next.sectors ∙ first.sectors;
  lent = next.lent ∙ first.lent;
  faults = omega (arith, first.faults, next.faults);
}

pub moved_later : {a b : DiskState} → Moves a b → IsLater a b
moved_later moves = record { sectors = moves.sectors; lent = moves.lent; faults = moves.faults }

-- all of them are the first ones
all_made : (writes : List DiskWrite) (a b : DiskState) → Appended writes a b → PartMade writes a b
all_made writes a b made = (length writes, omega arith, subst (λ (ws : List DiskWrite). Appended ws a b) (sym (take_all (length writes) writes (omega arith))) made)

-- some first ones of a row are first ones of a longer one
part_longer : (first next : List DiskWrite) (a b : DiskState) → PartMade first a b → PartMade (first ++ next) a b
part_longer first next a b part =
    (part.0, omega (arith, part.1, length-append first next), subst (λ (ws : List DiskWrite). Appended ws a b) (sym (take-append-le part.0 first next part.1)) part.2)

-- a row, and then some first ones of another
part_then : (first next : List DiskWrite) (a b c : DiskState) → Appended first a b → PartMade next b c → PartMade (first ++ next) a c
part_then first next a b c one part = (
  length first + part.0,
  omega (arith, part.1, length-append first next),
  subst (λ (ws : List DiskWrite). Appended ws a c) (sym (take-append-add first next part.0)) (appended_then first (take part.0 next) one part.2),
)

-- all of a row, or some first ones
pub carries_part : {E : Type 0} (writes : List DiskWrite) (a b : DiskState) (r : Result (Unit {0}) E) → Carries writes a r b → PartMade writes a b
carries_part writes a b (Ok x) carries = all_made writes a b carries.all
carries_part writes a b (Err e) carries = carries.part

-- no write
pub carries_none : {E : Type 0} (a : DiskState) → Carries {E = E} [] a (Ok tt) a
carries_none a = record {
  all = appended_none (record { contents = refl; writes = refl });
  part = tt;
  cause = tt;
  later = later_itself a;
  syncs = keeps_same a a refl;
  transfers = omega arith;
}

-- one write that was made
pub carries_made : {E : Type 0} (w : DiskWrite) (a b : DiskState) → RevealsWrite w a b → Moves a b → Carries {E = E} (w ∷ []) a (Ok tt) b
carries_made w a b reveals moves = record {
  all = appended_one w reveals;
  part = tt;
  cause = tt;
  later = moved_later moves;
  syncs = moved_keeps a b moves;
  transfers = omega (arith, moves.transfers.by_one);
}

-- one write that failed, and was made or not
pub carries_failed : {E : Type 0} (e : E) (w : DiskWrite) (a b : DiskState) → (RevealsSame a b ⊎ RevealsWrite w a b) → Rose a.faults b.faults → Moves a b → Carries (w ∷ []) a (Err e) b
carries_failed e w a b reveals rose moves = record {
  all = tt;
  part = either reveals;
  cause = rose;
  later = moved_later moves;
  syncs = moved_keeps a b moves;
  transfers = omega (arith, moves.transfers.by_one);
}
  where
    either : (RevealsSame a b ⊎ RevealsWrite w a b) → PartMade (w ∷ []) a b
    either (inl same) = (0, omega arith, appended_none same)
    either (inr made) = all_made (w ∷ []) a b (appended_one w made)

-- one call that writes
pub carries_one : (w : DiskWrite) (a b : DiskState) (r : Result (Unit {0}) DiskError) → Writes w a r b → Carries (w ∷ []) a r b
carries_one w a b (Ok x) writes = carries_made w a b writes.written writes.moves
carries_one w a b (Err e) writes = carries_failed e w a b writes.whole_or_absent writes.fails.cause writes.moves

-- one row, and then another
pub carries_then : {E F : Type 0} (first next : List DiskWrite) (a b c : DiskState) (r : Result (Unit {0}) F) → Carries {E = E} first a (Ok tt) b → Carries next b r c → Carries (first ++ next) a r c
carries_then first next a b c (Ok x) one more = record {
  all = appended_then first next one.all more.all;
  part = tt;
  cause = tt;
  later = later_then one.later more.later;
  syncs = keeps_then a b c one.syncs more.syncs;
  transfers = omega (arith, one.transfers, more.transfers, length-append first next);
}
carries_then first next a b c (Err e) one more = record {
  all = tt;
  part = part_then first next a b c one.all more.part;
  cause = rose_earlier a.faults b.faults c.faults one.later.faults more.cause;
  later = later_then one.later more.later;
  syncs = keeps_then a b c one.syncs more.syncs;
  transfers = omega (arith, one.transfers, more.transfers, length-append first next);
}

-- a row that failed is the beginning of a longer one
pub carries_stopped : {E F : Type 0} (first next : List DiskWrite) (a b : DiskState) (e : E) (f : F) → Carries first a (Err e) b → Carries (first ++ next) a (Err f) b
carries_stopped first next a b e f failed = record {
  all = tt;
  part = part_longer first next a b failed.part;
  cause = failed.cause;
  later = failed.later;
  syncs = failed.syncs;
  transfers = omega (arith, failed.transfers, length-append first next);
}

-- the same row by another list
pub carries_as : {E : Type 0} (writes others : List DiskWrite) (a b : DiskState) (r : Result (Unit {0}) E) → writes ≡ others → Carries writes a r b → Carries others a r b
carries_as writes others a b r same carries = subst (λ (ws : List DiskWrite). Carries ws a r b) same carries

-- an answer that is this error
pub carries_err : {E : Type 0} (writes : List DiskWrite) (a b : DiskState) (r : Result (Unit {0}) E) (e : E) → r ≡ Err e → Carries writes a (Err e) b → Carries writes a r b
carries_err writes a b r e same carries = subst (λ (x : _). Carries writes a x b) (sym same) carries

-- a row that was made, and is on the medium
pub carries_settled : {E F : Type 0} (writes : List DiskWrite) (a b c : DiskState) → Carries {E = E} writes a (Ok tt) b → Syncs b (Ok tt) c → Carries {E = F} writes a (Ok tt) c
carries_settled writes a b c made settled = record {
  all = appended_no_more writes made.all settled.same;
  part = tt;
  cause = tt;
  later = later_then made.later (record { sectors = settled.sectors; lent = settled.lent; faults = settled.faults });
  syncs = keeps_then a b c made.syncs (sync_keeps b c (Ok tt) settled);
  transfers = omega (arith, made.transfers, settled.transfers);
}

-- or is not
pub carries_unsettled : {E F : Type 0} (f : F) (e : DiskError) (writes : List DiskWrite) (a b c : DiskState) → Carries {E = E} writes a (Ok tt) b → Syncs b (Err e) c → Carries writes a (Err f) c
carries_unsettled f e writes a b c made settled = record {
  all = tt;
  part = all_made writes a c (appended_no_more writes made.all settled.same);
  cause = rose_earlier a.faults b.faults c.faults made.later.faults settled.fails.cause;
  later = later_then made.later (record { sectors = settled.sectors; lent = settled.lent; faults = settled.faults });
  syncs = keeps_then a b c made.syncs (sync_keeps b c (Err e) settled);
  transfers = omega (arith, made.transfers, settled.transfers);
}

-- the same of barriers
pub barriers_err : {E : Type 0} (writes : List DiskWrite) (a b : DiskState) (r : Result (Unit {0}) E) (e : E) → r ≡ Err e → MakesWithBarriers writes a (Err e) b → MakesWithBarriers writes a r b
barriers_err writes a b r e same makes = subst (λ (x : _). MakesWithBarriers writes a x b) (sym same) makes
