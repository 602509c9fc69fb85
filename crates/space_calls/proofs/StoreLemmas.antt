-- A store that is refused brings pages in at most, and each crash state of any reveals the files of before or of after.
use Rattle.std.proofs.Common.{◌≡◌, ◌≢◌, ◌≤◌, ◌<◌, ℕ, suc, true, List, [], ◌∷◌, length, Some, None, refl, sym, ◌∙◌, ap, subst, slice_index_or}
use Rattle.labelled_disk.specs.Sectors.{Sector}
use Rattle.file_map.specs.FileMap.{Triples}
use Rattle.flat_machine.specs.declared.call.Call.TheVariants as call
use Rattle.flat_machine.specs.declared.space.Space.{Space}
use Rattle.flat_machine.specs.declared.call.Refusal.{Refusal}
use Rattle.flat_machine.specs.declared.call.Reply.TheVariants as reply
use Rattle.flat_machine.specs.Allows.{Allows}
use Rattle.flat_machine.specs.Bytes.{AreBytes}
use Rattle.flat_machine.specs.Next.{next}
use Rattle.flat_machine.specs.Form.{IsTyped}
use Rattle.flat_machine.specs.Machine.{Machine}
use Rattle.flat_machine.specs.Refusal.{refusal}
use Rattle.swap_units.specs.declared.interval.Interval.{Interval}
use Rattle.swapper_kernel.specs.Goes.{Goes, Makes}
use Rattle.swapper_kernel.specs.Stands.{Stands}
use Rattle.session_words.specs.CellLaws.{IsTouchedOrOwn}
use Rattle.session_words.specs.FrameLaws.{BringsKnown}
use Rattle.file_manager.specs.declared.volume.Volume.{Volume}
use Rattle.fault_core.specs.declared.reference.Access.{Access}
use Rattle.fault_core.specs.declared.reference.Access.TheVariants.{Done, NoMap, ReadOnly}
use Rattle.fault_core.specs.Access.{access_of}
use Rattle.fault_core.specs.Moves.{StoresAs}
use Rattle.fault_core.specs.Reach.{Reaches}
use Rattle.fault_core.specs.ReferenceLaws.{reply_to, word_of}
use Rattle.fault_core.specs.Revealed.{Revealed}
use Rattle.filer_kernel.specs.View.{View}
use Rattle.fault_core.proofs.AllowedLemmas.{stores_tested}
use Rattle.fault_core.proofs.AnswerLemmas.{stores_answered}
use Rattle.running_words.specs.Running.{IsRunning}
use Rattle.running_words.specs.RunningLaws.{IsWhole, RunningLaws}
use Rattle.running_words.specs.Session.{AreInForm}
use Rattle.running_words.specs.Stages.{Passes}
use Rattle.space_calls.proofs.CarryLemmas.{next_refused}
use Rattle.space_calls.proofs.RunLemmas.{reached_makes}
use Rattle.space_calls.proofs.CameLemmas.{Came, knows, still_runs}
use Rattle.space_calls.proofs.LoadLemmas.{IsDone, store_is_done}

pub other_than_done : (a : Access) → (IsDone a → ⊥) → a ≢ Done
other_than_done a other same = other (subst IsDone (sym same) tt)

-- where a memory stays, it is known
pub refused_came : {v w : View} {kept later : List Interval} {count now : ℕ} → Reaches v w
    → ((x : List Sector) (named : Triples) (ss : List Space) → Revealed v kept count x named ss → BringsKnown ss v.slots w.slots)
    → ((x : List Sector) (named : Triples) (ss : List Space) → Revealed v kept count x named ss → Stands w.disk w.slots x)
    → ((x n : List Sector) (named : Triples) (ss : List Space) → Revealed v kept count x named ss → Stands w.disk w.slots n → Revealed w later now n named ss) → now ≡ count → Came v w kept later count now
refused_came reaches brings stays known same = record {
  reaches = reaches;
  brings = brings;
  known = λ x named ss revealed. known x x named ss revealed (stays x named ss revealed);
  same_count = same;
}

-- the memory stays
pub stays_where : (v w : View) (a b : Access) (ss : List Space) (address : ℕ) (bytes : List ℕ) (x : List Sector) → b ≡ a → (IsDone a → ⊥) → Stands v.disk v.slots x
    → Goes (StoresAs b ss address bytes) (IsTouchedOrOwn ss address (length bytes)) [] v.disk v.slots w.disk w.slots → Stands w.disk w.slots x
stays_where v w a b ss address bytes x same refused stands goes =
    let now = goes.memory x stands in
    subst (Stands w.disk w.slots) (by a refused now.0 (subst (λ (c : Access). StoresAs c ss address bytes x now.0) same now.2)) now.1
  where
    by : (a : Access) → (IsDone a → ⊥) → (n : List Sector) → StoresAs a ss address bytes x n → n ≡ x
    by Done refused n is = absurd (refused tt)
    by (NoMap page) refused n is = is
    by (ReadOnly page) refused n is = is

module _ (laws : RunningLaws) {v : View} {kept : List Interval} {count : ℕ} (whole : IsWhole v) {volume : Volume} {m : Machine} (r : IsRunning v kept count volume m) (form : AreInForm v.disk) where
  -- whatever it came to
  pub store_reveals : (w : View) (address : ℕ) (bytes : List ℕ) → IsTyped (call.Store address bytes) → length bytes ≤ 512
      → Makes (IsTouchedOrOwn m.spaces address (length bytes)) [] v.disk v.slots w.disk w.slots → (access_of m.spaces true address (length bytes) ≢ Done → Reaches v w)
      → Passes m (call.Store address bytes) v.disk w.disk
  store_reveals w address bytes typed few makes tested = by (access_of m.spaces true address (length bytes)) refl
    where
      found : Reaches v w → Passes m (call.Store address bytes) v.disk w.disk
      found reaches = laws.quiet (call.Store address bytes) v w kept count volume m form r (reached_makes reaches)

      by : (a : Access) → access_of m.spaces true address (length bytes) ≡ a → Passes m (call.Store address bytes) v.disk w.disk
      by Done is = laws.store_passes address bytes v w kept count volume m form typed few (stores_tested m address bytes ∙ ap word_of is) r makes
      by (NoMap page) is = found (tested (λ done. other_than_done (NoMap page) (λ no. no) (sym is ∙ done)))
      by (ReadOnly page) is = found (tested (λ done. other_than_done (ReadOnly page) (λ no. no) (sym is ∙ done)))

-- a store to the cells of its pages
module _ (laws : RunningLaws) {v : View} {kept : List Interval} {count : ℕ} (whole : IsWhole v) {volume : Volume} {m : Machine} (r : IsRunning v kept count volume m) where
  pub store_allowed : (address : ℕ) (bytes : List ℕ) (a b : Access) → a ≡ b
      → ((x : List Sector) (named : Triples) (ss : List Space) → Revealed v kept count x named ss → a ≡ access_of ss true address (length bytes)) → Allows m (call.Store address bytes) (reply_to reply.Done b)
  store_allowed address bytes a b is access = stores_answered m address bytes b (sym is ∙ access r.session.stands.memory r.session.stands.is.named m.spaces (knows laws whole r))

  pub store_not_refused : (address : ℕ) (bytes : List ℕ) (a b : Access) → a ≡ b
      → ((x : List Sector) (named : Triples) (ss : List Space) → Revealed v kept count x named ss → a ≡ access_of ss true address (length bytes)) → refusal m (call.Store address bytes) ≡ None → IsDone b
  store_not_refused address bytes a b is access free =
      store_is_done m address bytes b (sym is ∙ access r.session.stands.memory r.session.stands.is.named m.spaces (knows laws whole r)) free

  -- one that was refused
  pub store_stays : {w : View} {later : List Interval} {now : ℕ} (address : ℕ) (bytes : List ℕ) (word : Refusal) → refusal m (call.Store address bytes) ≡ Some word → Came v w kept later count now → IsRunning w later now volume (next m (call.Store address bytes))
  store_stays {w} {later} {now} address bytes word is came = subst (λ (n : Machine). IsRunning w later now volume n) (sym (next_refused m (call.Store address bytes) word is)) (still_runs laws whole r came)

  -- the word of one that came to this
  pub store_word : (address : ℕ) (bytes : List ℕ) (a b : Access) → a ≡ b
      → ((x : List Sector) (named : Triples) (ss : List Space) → Revealed v kept count x named ss → a ≡ access_of ss true address (length bytes)) → refusal m (call.Store address bytes) ≡ word_of b
  store_word address bytes a b is access =
      stores_tested m address bytes ∙ ap word_of (sym (access r.session.stands.memory r.session.stands.is.named m.spaces (knows laws whole r)) ∙ is)

-- the bytes of a slice are bytes
pub are_bytes : (bytes : List ℕ) → ((k : ℕ) → slice_index_or bytes k 0 < 256) → AreBytes bytes
are_bytes [] each = tt
are_bytes (b ∷ bs) each = (each 0, are_bytes bs (λ k. each (suc k)))
