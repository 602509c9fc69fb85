-- What a call of a pair leaves.
use Rattle.std.proofs.Common.{◌∙◌, ℕ, Result, Ok, Err, subst, sym}
use Rattle.std.specs.Prelude.{◌≢◌, IfOk, MatchResult}
use Rattle.labelled_disk.specs.declared.layout.Layout.{Layout}
use Rattle.filer_kernel.specs.View.{View}
use Rattle.volume_root.specs.declared.root.Root.{Root}
use Rattle.volume_root.specs.RootPage.{IsValidRoot}
use Rattle.file_manager.specs.declared.volume.Volume.{Volume}
use Rattle.pair_machine.specs.declared.call.PairCall.TheVariants.{Compare}
use Rattle.pair_machine.specs.declared.call.PairReply.{PairReply}
use Rattle.pair_machine.specs.declared.call.PairReply.TheVariants as reply
use Rattle.pair_machine.specs.Pair.{Pair}
use Rattle.volume_pair.specs.declared.fault.PairHalt.{PairHalt}
use Rattle.volume_pair.specs.Comparing.{AnswersCompare}
use Rattle.volume_pair.specs.Copying.{KeepsNumbers, LeavesSecond, RepliesPair}
use Rattle.volume_pair.specs.Kept.{IsOnlyRead}
use Rattle.volume_pair.specs.Pairs.{IsFaultOfDisk, IsInUse, IsPaired}
use Rattle.volume_pair.specs.Sides.{AreClean, IsLookedAt, IsSide, IsWrittenFor}
use Rattle.volume_pair.proofs.CompareLemmas.{compare_allowed}
use Rattle.volume_pair.proofs.CopyLemmas.{paired_then, written_fits}
use Rattle.volume_pair.proofs.SideLemmas.{clean_still, fits_still, looked_same}

-- both volumes may be asked again
pub in_use_still : {from to v w : View} {volume later : Volume} {file : ℕ} → IsInUse from to volume → IsLookedAt from v → IsWrittenFor file to w → KeepsNumbers volume later → IsInUse v w later
in_use_still {w = w} {volume = volume} {later = later} h looked written keeps = record {
  from_fits = fits_still looked h.from_fits;
  to_fits = written_fits written h.to_fits;
  clean = clean_still h.clean looked;
  layout = keeps.layout ∙ h.layout ∙ sym written.layout;
  valid = subst (λ (r : Root). IsValidRoot w.layout.sectors r) (sym keeps.root) (subst (λ (l : Layout). IsValidRoot l.sectors volume.root) (sym written.layout) h.valid);
}

-- a volume with no dirty frame is only read where it is looked at
pub looked_only : {v w : View} → AreClean v.slots → IsLookedAt v w → IsOnlyRead v.disk w.disk
looked_only clean h = record { went = h.makes.went; same = looked_same clean h }

-- a comparison's reply
pub compare_replies : (p : Pair) (id : ℕ) {from to : View} (v w : View) (volume : Volume) (result : Result PairReply PairHalt) (h : IsPaired from to volume p) → IsSide v p.from h.first × IsSide w p.to h.second × MatchResult result (AnswersCompare p.from p.to id) IsFaultOfDisk
    → MatchResult result (RepliesPair p (Compare id) v w volume) IsFaultOfDisk
compare_replies p id v w volume (Ok r) h (first, second, answers) = record { allowed = compare_allowed p id r answers; stands = paired_then volume p v w h first second }
compare_replies p id v w volume (Err e) h (first, second, disk) = disk

-- a comparison makes no copy
pub no_copy : (v w : View) (result : Result PairReply PairHalt) → IsLookedAt v w → IfOk result (λ r. r ≢ reply.Done) → IfOk result (LeavesSecond v w)
no_copy v w (Ok r) looked other = record { on_medium = λ is. absurd (other is); looked = λ none. looked }
no_copy v w (Err e) looked other = tt
