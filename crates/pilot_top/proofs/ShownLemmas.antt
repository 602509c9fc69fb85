-- A run that is stopped on a disk before which pages may wait: a label that had changed comes before any other halt.
use Rattle.std.proofs.Common.{◌≡◌, ◌≢◌, ◌⊎◌, inl, inr, ℕ, List, Option, Some, None, refl, sym, ap, ◌∙◌, subst}
use Rattle.std.specs.Prelude.{option_map}
use Rattle.std.proofs.lemmas.Option.{none-some, same_Some}
use Rattle.labelled_disk.specs.declared.disk.DiskWrite.{DiskWrite}
use Rattle.labelled_disk.specs.declared.evidence.Evidence.{Evidence}
use Rattle.labelled_disk.specs.declared.evidence.Halt.{Halt}
use Rattle.labelled_disk.specs.declared.evidence.Halt.TheVariants as halt
use Rattle.labelled_disk.specs.Sectors.{Sector}
use Rattle.labelled_disk.specs.State.{DiskState}
use Rattle.labelled_disk.specs.WriteRuns.{Appended, after_writes}
use Rattle.filer_kernel.specs.Evidence.{IsEvident, ShowsEvidence}
use Rattle.pilot_engine.specs.Opening.{IsUnset, LeavesOpen}
use Rattle.pilot_top.specs.Last.{last_line, Puts}
use Rattle.pilot_top.specs.RunDisk.{HasSeen, IsChange, halt_on}
use Rattle.pilot_top.specs.Stopping.{status_of, cause_of}
use Rattle.pilot_top.specs.declared.last.Cause.TheVariants as cause
use Rattle.pilot_top.specs.declared.status.Status.{Status}
use Rattle.pilot_top.specs.declared.status.Status.TheVariants as status

-- a disk that reveals what it holds reveals it after writes
pub revealed_then : (writes : List DiskWrite) (a b : DiskState) → Appended writes a b → (d : List Sector) → a.contents ≡ Some d → (e : List Sector) × (b.contents ≡ Some e)
revealed_then writes a b appended d is = (after_writes writes d, appended.contents ∙ ap (option_map (after_writes writes)) is)

-- a disk after which a label that had changed may be shown
module _ (shown : Option Evidence) (disk : DiskState) (law : (e : Evidence) → shown ≡ Some e → IsChange e × (disk.contents ≡ None)) where
  -- where it reveals what it holds, none is
  pub none_shown : (e : List Sector) → disk.contents ≡ Some e → shown ≡ None
  none_shown e revealed = by shown refl
    where
      by : (o : Option Evidence) → shown ≡ o → shown ≡ None
      by None is = is
      by (Some f) is = absurd (none-some e (sym (law f is).1 ∙ revealed))

  -- where one is, nothing is said of the clean flag
  pub unset_shown : (e : Evidence) → shown ≡ Some e → IsUnset disk
  unset_shown e is d revealed = absurd (none-some d (sym (law e is).1 ∙ revealed))

-- The status after a halt.
module _ (shown : Option Evidence) (h : Halt) (s : Status) (is : s ≡ status_of (halt_on shown h)) where
  pub on_ends : (s ≡ status.DiskFault) ⊎ (s ≡ status.Damaged)
  on_ends = by shown h is
    where
      by : (o : Option Evidence) (h : Halt) → s ≡ status_of (halt_on o h) → (s ≡ status.DiskFault) ⊎ (s ≡ status.Damaged)
      by (Some e) h is = inr is
      by None halt.Disk is = inl is
      by None (halt.Damaged e) is = inr is

  -- the disk failed
  pub on_disk : (failed : Type 0) (u v : Option (List ℕ)) → s ≡ status.DiskFault → Puts failed u v (last_line (cause_of (halt_on shown h)))
      → (shown ≡ None) × (h ≡ halt.Disk) × Puts failed u v (last_line cause.DiskFault)
  on_disk failed u v disk puts = by shown h is puts
    where
      by : (o : Option Evidence) (h : Halt) → s ≡ status_of (halt_on o h) → Puts failed u v (last_line (cause_of (halt_on o h))) → (o ≡ None) × (h ≡ halt.Disk) × Puts failed u v (last_line cause.DiskFault)
      by (Some e) h is puts = absurd (cc (is, disk))
      by None halt.Disk is puts = (refl, refl, puts)
      by None (halt.Damaged e) is puts = absurd (cc (is, disk))

  -- the volume is damaged, or a label had changed
  pub on_damage : (failed : Type 0) (u v : Option (List ℕ)) (disk : DiskState) (reasoned : Evidence → Type 0) → ShowsEvidence disk h → ((e : Evidence) → h ≡ halt.Damaged e → reasoned e)
      → s ≡ status.Damaged → Puts failed u v (last_line (cause_of (halt_on shown h))) → (e : Evidence) × HasSeen shown disk reasoned e × Puts failed u v (last_line (cause.Damaged e))
  on_damage failed u v disk reasoned seen reason damaged puts = by shown h is seen reason puts
    where
      by : (o : Option Evidence) (h : Halt) → s ≡ status_of (halt_on o h) → ShowsEvidence disk h → ((e : Evidence) → h ≡ halt.Damaged e → reasoned e) → Puts failed u v (last_line (cause_of (halt_on o h)))
          → (e : Evidence) × HasSeen o disk reasoned e × Puts failed u v (last_line (cause.Damaged e))
      by (Some e) h is seen reason puts = (e, refl, puts)
      by None halt.Disk is seen reason puts = absurd (cc (is, damaged))
      by None (halt.Damaged e) is seen reason puts = (e, (seen, reason e refl), puts)

  -- where the disk failed and the volume is damaged all the same, a label had changed
  pub on_change : (failed : Type 0) (u v : Option (List ℕ)) → h ≡ halt.Disk → s ≡ status.Damaged → Puts failed u v (last_line (cause_of (halt_on shown h)))
      → (e : Evidence) × (shown ≡ Some e) × Puts failed u v (last_line (cause.Damaged e))
  on_change failed u v disk damaged puts = by shown h is disk puts
    where
      by : (o : Option Evidence) (h : Halt) → s ≡ status_of (halt_on o h) → h ≡ halt.Disk → Puts failed u v (last_line (cause_of (halt_on o h))) → (e : Evidence) × (o ≡ Some e) × Puts failed u v (last_line (cause.Damaged e))
      by (Some e) h is disk puts = (e, refl, puts)
      by None halt.Disk is disk puts = absurd (cc (is, damaged))
      by None (halt.Damaged e) is disk puts = absurd (cc disk)

  -- no label had changed, and the disk failed
  pub on_sound : shown ≡ None → h ≡ halt.Disk → s ≢ status.Damaged
  on_sound none disk damaged = let e : s ≡ status.DiskFault = is ∙ ap (λ (o : Option Evidence). status_of (halt_on o h)) none ∙ ap status_of disk in absurd (cc (e, damaged))

  -- the volume is left open
  pub on_unset : (disk : DiskState) → ((e : Evidence) → shown ≡ Some e → IsChange e × (disk.contents ≡ None)) → LeavesOpen disk h → s ≡ status.Damaged → IsUnset disk
  on_unset disk law left damaged = by shown refl h is left
    where
      by : (o : Option Evidence) → shown ≡ o → (h : Halt) → s ≡ status_of (halt_on o h) → LeavesOpen disk h → IsUnset disk
      by (Some e) same h is left = unset_shown shown disk law e same
      by None same halt.Disk is left = absurd (cc (is, damaged))
      by None same (halt.Damaged e) is left = left

-- the status in what a call hands back
pub some_of : {s t : Status} → ◌≡◌ {A = Option Status} (Some s) (Some t) → s ≡ t
some_of e = cc e

-- no label had changed where the volume is not damaged, or where it is said so
pub on_plain : (shown : Option Evidence) (h : Halt) (s : Status) → s ≡ status_of (halt_on shown h) → (s ≡ status.Damaged → shown ≡ None) → shown ≡ None
on_plain None h s is plain = refl
on_plain (Some e) h s is plain = plain is

-- the end of a trace that is too long
pub long_ends : (s : Status) → (s ≡ status.Long) ⊎ (s ≡ status.DiskFault) ⊎ (s ≡ status.Damaged)
    → s ≢ status.Done × s ≢ status.StreamFault × s ≢ status.Usage × s ≢ status.NotOpened × s ≢ status.NoMemory × s ≢ status.Unfit
long_ends s (inl e) = (λ is. cc (e, is), λ is. cc (e, is), λ is. cc (e, is), λ is. cc (e, is), λ is. cc (e, is), λ is. cc (e, is))
long_ends s (inr (inl e)) = (λ is. cc (e, is), λ is. cc (e, is), λ is. cc (e, is), λ is. cc (e, is), λ is. cc (e, is), λ is. cc (e, is))
long_ends s (inr (inr e)) = (λ is. cc (e, is), λ is. cc (e, is), λ is. cc (e, is), λ is. cc (e, is), λ is. cc (e, is), λ is. cc (e, is))

-- what is shown is one
pub one_shown : {o : Option Evidence} {e f : Evidence} → o ≡ Some e → o ≡ Some f → e ≡ f
one_shown {e = e} {f = f} is also = same_Some e f (sym is ∙ also)

pub not_shown : {P : Type 0} {o : Option Evidence} {e : Evidence} → o ≡ None → o ≡ Some e → P
not_shown {e = e} none is = absurd (none-some e (sym none ∙ is))

-- what was seen, where no label is shown, and where one is
pub seen_plain : {shown : Option Evidence} (disk : DiskState) (reasoned : Evidence → Type 0) (e : Evidence) → shown ≡ None → HasSeen shown disk reasoned e → IsEvident disk e × reasoned e
seen_plain disk reasoned e none seen = subst (λ (o : Option Evidence). HasSeen o disk reasoned e) none seen

pub seen_shown : {shown : Option Evidence} (disk : DiskState) (reasoned : Evidence → Type 0) (e f : Evidence) → shown ≡ Some f → HasSeen shown disk reasoned e → f ≡ e
seen_shown disk reasoned e f is seen = subst (λ (o : Option Evidence). HasSeen o disk reasoned e) is seen

pub seen_change : {shown : Option Evidence} (disk : DiskState) (reasoned : Evidence → Type 0) (e : Evidence) → shown ≡ Some e → HasSeen shown disk reasoned e
seen_change disk reasoned e is = subst (λ (o : Option Evidence). HasSeen o disk reasoned e) (sym is) refl
