-- Both disks, over calls in a row.
use Rattle.std.proofs.Common.{◌≡◌, inl, inr, ℕ, not, List, [], ◌∷◌, ◌++◌, Some, refl, sym, ◌∙◌, ap, subst, arith}
use Rattle.std.specs.Prelude.{filter, slice_get}
use Rattle.labelled_disk.specs.declared.disk.DiskWrite.{DiskWrite}
use Rattle.labelled_disk.specs.declared.evidence.Halt.{Halt}
use Rattle.labelled_disk.specs.declared.evidence.Halt.TheVariants as halt
use Rattle.labelled_disk.specs.Calls.{OnlyReads, ReadsAtMost, RevealsSame}
use Rattle.labelled_disk.specs.Sectors.{Sector}
use Rattle.labelled_disk.specs.State.{DiskState}
use Rattle.frame_pool.specs.Frames.{Slots}
use Rattle.swapper_kernel.specs.Goes.{Makes, Pages, Went, Wrote, is_page_write}
use Rattle.swapper_kernel.specs.GoesLaws.{makes_then, same_syncs, went_itself, went_then, wrote_none}
use Rattle.volume_pair.specs.Kept.{IsOnlyRead, IsRootOf}
use Rattle.volume_pair.specs.Pairs.{ShowsSide}
use Rattle.volume_pair.specs.declared.fault.PairHalt.{PairHalt}
use Rattle.volume_pair.specs.declared.fault.PairHalt.TheVariants as on
use Rattle.pair_session.specs.Causes.{IsPermitted, ShowsHalt}
use Rattle.pair_session.specs.Pairs.{GoesOn, PairView}

-- any page
abbrev any : Pages
any id page = Unit {0}

pub permitted_of : {pages : Pages} {labels : List DiskWrite} {slots : Slots} {a b : DiskState} → Went a b → Wrote pages labels a slots b → IsPermitted a b
permitted_of went h = record { went = went; writes = h.writes; appended = h.appended; form = h.form; permitted = h.permitted }

-- they are so without any frame
made_any : {a b : DiskState} (h : IsPermitted a b) → Makes any (filter (λ w. not (is_page_write w)) h.writes) a [] b []
made_any h = record {
  went = h.went;
  dirty = λ id page is. inl is;
  wrote = record { writes = h.writes; appended = h.appended; form = h.form; permitted = h.permitted; labels = refl; of_dirty = λ k sector wanted bytes here. inr tt };
  count = refl;
}

pub permitted_then : {a b c : DiskState} → IsPermitted a b → IsPermitted b c → IsPermitted a c
permitted_then h k = let both = makes_then (made_any h) (made_any k) in permitted_of both.went both.wrote

pub went_read : {a b : DiskState} → OnlyReads a b → Went a b
went_read {a = a} {b = b} h = record { sectors = h.sectors; lent = h.lent; syncs = same_syncs a b h.syncs; faults = h.faults; transfers = h.transfers }

pub permitted_read : {a b : DiskState} → OnlyReads a b → IsPermitted a b
permitted_read h = permitted_of (went_read h) (wrote_none any [] (record { contents = h.contents; writes = h.writes }))

pub permitted_itself : (a : DiskState) → IsPermitted a a
permitted_itself a = permitted_of (went_itself a) (wrote_none any [] (record { contents = refl; writes = refl }))

pub only_reads : {n : ℕ} {a b : DiskState} → ReadsAtMost n a b → IsOnlyRead a b
only_reads h = record { went = went_read h.only; same = record { contents = h.only.contents; writes = h.only.writes } }

pub only_itself : (a : DiskState) → IsOnlyRead a a
only_itself a = record { went = went_itself a; same = record { contents = refl; writes = refl } }

pub only_then : {a b c : DiskState} → IsOnlyRead a b → IsOnlyRead b c → IsOnlyRead a c
only_then h k = record { went = went_then h.went k.went; same = record { contents = k.same.contents ∙ h.same.contents; writes = k.same.writes ∙ h.same.writes } }

-- calls of a pair in a row
pub goes_itself : (v : PairView) → GoesOn v v
goes_itself v = record { from = only_itself v.from.disk; to = permitted_itself v.to.disk; same_root = refl }

pub goes_then : {u v w : PairView} → GoesOn u v → GoesOn v w → GoesOn u w
goes_then h k = record { from = only_then h.from k.from; to = permitted_then h.to k.to; same_root = k.same_root ∙ h.same_root }

pub goes_same : (v w : PairView) → w ≡ v → GoesOn v w
goes_same v w same = subst (λ (x : PairView). GoesOn v x) (sym same) (goes_itself v)

-- the root is that of the volume still
pub root_still : {v w : PairView} → GoesOn v w → (d : List Sector) → IsRootOf d v.volume.root → IsRootOf d w.volume.root
root_still goes d is = goes.same_root ∙ is

-- and the first disk is the same still
pub first_still : {v w : PairView} → GoesOn v w → (from : DiskState) → from ≡ w.from.disk → IsOnlyRead v.from.disk from
first_still {v = v} goes from same = subst (λ (x : DiskState). IsOnlyRead v.from.disk x) (sym same) goes.from

-- ---- Halts.

pub shows_halt : (v w : PairView) (why : PairHalt) → ShowsSide v.from v.to w.from w.to why → ShowsHalt v.from.disk v.to.disk w.from.disk w.to.disk why
shows_halt v w (on.From e) h = (h.counted, h.evidence_seen)
shows_halt v w (on.To e) h = (h.counted, h.evidence_seen)

-- after other calls
pub halt_after : {from0 to0 from to : DiskState} (from1 to1 : DiskState) → Went from0 from → Went to0 to → (why : PairHalt) → ShowsHalt from to from1 to1 why → ShowsHalt from0 to0 from1 to1 why
halt_after from1 to1 first second (on.From e) h = (λ is. let rose = h.0 is in let before = first.faults in omega (arith, rose, before), h.1)
halt_after from1 to1 first second (on.To e) h = (λ is. let rose = h.0 is in let before = second.faults in omega (arith, rose, before), h.1)
