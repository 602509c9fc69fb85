-- Steps of a call that bring pages in and write them out, and leave what is known of a core.
use Rattle.std.proofs.Common.{◌≡◌, inl, inr, ℕ, List, [], sym, ◌∙◌, subst}
use Rattle.labelled_disk.specs.declared.disk.Disk.{Ghosts}
use Rattle.labelled_disk.specs.Sectors.{Sector}
use Rattle.labelled_disk.specs.State.{DiskState}
use Rattle.file_map.specs.FileMap.{Triples}
use Rattle.frame_pool.specs.Frames.{Slots}
use Rattle.flat_machine.specs.declared.call.Call.{Call}
use Rattle.flat_machine.specs.declared.space.Space.{Space}
use Rattle.flat_machine.specs.Machine.{Machine}
use Rattle.swap_units.specs.declared.interval.Interval.{Interval}
use Rattle.swapper_kernel.specs.Goes.{Makes, Pages, no_page}
use Rattle.swapper_kernel.specs.GoesLaws.{makes_wider}
use Rattle.swapper_kernel.specs.HaltLaws.{brings_then}
use Rattle.swapper_kernel.specs.Homes.{IsLayout}
use Rattle.session_words.specs.CellLaws.{IsTouched, IsTouchedOrOwn}
use Rattle.session_words.specs.FrameLaws.{BringsKnown}
use Rattle.session_words.specs.Volume.{volume_page}
use Rattle.file_manager.specs.declared.volume.Volume.{Volume}
use Rattle.fault_core.specs.declared.core_over.Core.{Core}
use Rattle.fault_core.specs.Core.{state}
use Rattle.fault_core.specs.Moves.{client_page}
use Rattle.fault_core.specs.Reach.{Reaches, BringsOwn}
use Rattle.fault_core.specs.Revealed.{Revealed}
use Rattle.fault_core.specs.Touch.{Touches}
use Rattle.filer_kernel.specs.View.{accepted, View}
use Rattle.fault_core.proofs.ReachLemmas.{reaches_then}
use Rattle.fault_core.proofs.ShowLemmas.{own_came}
use Rattle.running_words.proofs.LaterLemmas.{tables_own}
use Rattle.running_words.specs.Running.{IsRunning}
use Rattle.running_words.specs.RunningLaws.{IsWhole, RunningLaws}
use Rattle.running_words.specs.Session.{AreInForm, WroteIn}
use Rattle.running_words.specs.Stages.{Passes, client_or_own}

-- what giving pages up makes
pub give_makes : {v w : View} → Touches no_page v w → Makes volume_page [] v.disk v.slots w.disk w.slots
give_makes h = makes_wider volume_page (λ id page is. elim is [ inl own_page ↦ tables_own id page own_page | inr none ↦ absurd none ]) h.goes.makes

-- and storing in clients' pages
pub store_makes : {v w : View} → Touches client_page v w → Makes client_or_own [] v.disk v.slots w.disk w.slots
store_makes h = makes_wider client_or_own (λ id page is. elim is [ inl own_page ↦ inl (tables_own id page own_page) | inr client ↦ inr client ]) h.goes.makes

pub touched_makes : {v w : View} (ss : List Space) (address count : ℕ) → Touches (IsTouched ss address count) v w → Makes (IsTouchedOrOwn ss address count) [] v.disk v.slots w.disk w.slots
touched_makes ss address count h = makes_wider (IsTouchedOrOwn ss address count) (λ id page is. elim is [ inl own_page ↦ inr (tables_own id page own_page) | inr touched ↦ inl touched ]) h.goes.makes

-- no label was written
pub wrote_so : {pages : Pages} {old new : DiskState} {before after : Slots} → Makes pages [] old before new after → WroteIn pages old before new after
wrote_so makes = record { labels = []; makes = makes; opens = tt }

-- Pages were found and brought in, or were written out or given up, and the same is known.
pub record Came (v w : View) (kept later : List Interval) (count now : ℕ) : Type 0 where
  pub reaches : Reaches v w
  pub brings : (x : List Sector) (named : Triples) (ss : List Space) → Revealed v kept count x named ss → BringsKnown ss v.slots w.slots
  pub known : (x : List Sector) (named : Triples) (ss : List Space) → Revealed v kept count x named ss → Revealed w later now x named ss
  pub same_count : now ≡ count

-- where pages of the volume's own came alone
pub came_own : {v w : View} {kept later : List Interval} {count now : ℕ} → Reaches v w → BringsOwn v.slots w.slots
    → ((x : List Sector) (named : Triples) (ss : List Space) → Revealed v kept count x named ss → Revealed w later now x named ss) → now ≡ count → Came v w kept later count now
came_own {v} {w} reaches came known same = record { reaches = reaches; brings = λ x named ss revealed. own_came ss v.slots w.slots came; known = known; same_count = same }

-- one after the other
pub came_then : (v w z : View) {kept later last : List Interval} {count now end : ℕ} → IsLayout v.layout → Came v w kept later count now → Came w z later last now end → Came v z kept last count end
came_then v w z is h k = record {
  reaches = reaches_then v w is h.reaches z k.reaches;
  brings = λ x named ss revealed. brings_then (h.brings x named ss revealed) (k.brings x named ss (h.known x named ss revealed));
  known = λ x named ss revealed. k.known x named ss (h.known x named ss revealed);
  same_count = k.same_count ∙ h.same_count;
}

-- the disk still fits the layout
pub whole_after : {v w : View} → IsWhole v → Reaches v w → IsWhole w
whole_after whole h = record {
  layout = subst IsLayout (sym h.layout) whole.layout;
  size = h.goes.makes.went.sectors ∙ whole.size ∙ sym (λ i. (h.layout i).sectors);
}

module _ (laws : RunningLaws) {v : View} {kept : List Interval} {count : ℕ} (whole : IsWhole v) {volume : Volume} {m : Machine} (r : IsRunning v kept count volume m) where
  -- what is known of the core
  pub knows : Revealed v kept count r.session.stands.memory r.session.stands.is.named m.spaces
  knows = laws.known v kept count volume m whole r

  -- the core stands for the same machine
  pub still_runs : {w : View} {later : List Interval} {now : ℕ} → Came v w kept later count now → IsRunning w later now volume m
  still_runs {w} {later} {now} came =
      let x = r.session.stands.memory in
      let named = r.session.stands.is.named in
      subst (λ (n : ℕ). IsRunning w later n volume m) (sym came.same_count)
      (laws.asked v w kept later count volume m whole r came.reaches (came.brings x named m.spaces knows)
      (subst (λ (n : ℕ). Revealed w later n x named m.spaces) came.same_count (came.known x named m.spaces knows)))

  -- each crash state reveals the files of before
  pub still_reveals : (w : View) → AreInForm v.disk → (call : Call) → Makes volume_page [] v.disk v.slots w.disk w.slots → Passes m call v.disk w.disk
  still_reveals w form call makes = laws.quiet call v w kept count volume m form r makes

-- of a core
pub whole_of : {D A : Type 0} {G : Ghosts D} (core : Core D A G) → (state core).disk.sectors ≡ (state core).layout.sectors → IsWhole (state core)
whole_of core size = record { layout = (accepted core.filer); size = size }
