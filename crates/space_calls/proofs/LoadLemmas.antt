-- What a session replies to a load, and that it stands for the same machine then.
use Rattle.std.proofs.Common.{◌≡◌, ℕ, Bool, true, false, List, length, None, refl, sym, ◌∙◌, ap, subst}
use Rattle.std.specs.Prelude.{if◌then◌else◌, is_none}
use Rattle.std.proofs.lemmas.Option.{none-some}
use Rattle.flat_machine.specs.declared.call.Call.TheVariants.{Load, Store}
use Rattle.flat_machine.specs.declared.call.Refusal.TheVariants as why
use Rattle.flat_machine.specs.declared.call.Reply.TheVariants as reply
use Rattle.flat_machine.specs.Allows.{Allows}
use Rattle.flat_machine.specs.Machine.{Machine}
use Rattle.flat_machine.specs.Next.{next}
use Rattle.flat_machine.specs.Refusal.{refusal}
use Rattle.labelled_disk.specs.Sectors.{Sector}
use Rattle.session_words.specs.Parts.{TablesMeaning}
use Rattle.session_words.specs.StandsFor.{IsFor}
use Rattle.fault_core.specs.declared.reference.Access.{Access}
use Rattle.fault_core.specs.declared.reference.Access.TheVariants.{Done, NoMap, ReadOnly}
use Rattle.fault_core.specs.Access.{access_of}
use Rattle.fault_core.specs.Moves.{Loads}
use Rattle.fault_core.specs.ReferenceLaws.{reply_to, word_of}
use Rattle.fault_core.specs.Revealed.{Revealed}
use Rattle.filer_kernel.specs.View.{View}
use Rattle.file_manager.specs.declared.volume.Volume.{Volume}
use Rattle.file_map.specs.FileMap.{Triples}
use Rattle.flat_machine.specs.declared.space.Space.{Space}
use Rattle.swap_units.specs.declared.interval.Interval.{Interval}
use Rattle.running_words.specs.Running.{IsRunning, exactly}
use Rattle.running_words.specs.RunningLaws.{IsWhole, RunningLaws}
use Rattle.space_calls.proofs.CameLemmas.{Came, knows, still_runs}
use Rattle.fault_core.proofs.AllowedLemmas.{loads_tested, stores_tested}
use Rattle.fault_core.proofs.AnswerLemmas.{loads_answered}

-- it was not refused
abbrev pub IsDone : Access → Type 0
IsDone Done = Unit {0}
IsDone (NoMap page) = ⊥
IsDone (ReadOnly page) = ⊥

pub no_word : (a : Access) → word_of a ≡ None → IsDone a
no_word Done is = tt
no_word (NoMap page) is = absurd (none-some (why.NoMap page) (sym is))
no_word (ReadOnly page) is = absurd (none-some (why.ReadOnly page) (sym is))

module _ (m : Machine) (address count : ℕ) (a : Access) (is : a ≡ access_of m.spaces false address count) where
  -- where the machine refuses no load, none was refused
  pub load_is_done : refusal m (Load address count) ≡ None → IsDone a
  load_is_done free = no_word a (ap word_of is ∙ sym (loads_tested m address count) ∙ free)

module _ (m : Machine) (address : ℕ) (bytes : List ℕ) (a : Access) (is : a ≡ access_of m.spaces true address (length bytes)) where
  -- and no store
  pub store_is_done : refusal m (Store address bytes) ≡ None → IsDone a
  store_is_done free = no_word a (ap word_of is ∙ sym (stores_tested m address bytes) ∙ free)

-- a load changes nothing
pub load_stays : (m : Machine) (address count : ℕ) → m ≡ next m (Load address count)
load_stays m address count = either (is_none (refusal m (Load address count)))
  where
    either : (b : Bool) → m ≡ (if b then m else m)
    either true = refl
    either false = refl

-- the reply is allowed
pub load_allowed : (spaces_of : TablesMeaning) (x : List Sector) (m : Machine) (address count : ℕ) (bytes : List ℕ) (a : Access) → IsFor spaces_of x m → length bytes ≡ count → a ≡ access_of m.spaces false address count
    → (a ≡ Done → Loads m.spaces address bytes x) → Allows m (Load address count) (reply_to (reply.Bytes bytes) a)
load_allowed spaces_of x m address count bytes a h long is loads =
    subst (λ (n : ℕ). Allows m (Load address n) (reply_to (reply.Bytes bytes) a)) long
    (loads_answered spaces_of x m address bytes a h (is ∙ ap (λ (n : ℕ). access_of m.spaces false address n) (sym long)) loads)

module _ (laws : RunningLaws) {v w : View} {kept later : List Interval} {count now : ℕ} (whole : IsWhole v) {volume : Volume} {m : Machine} (r : IsRunning v kept count volume m) (came : Came v w kept later count now) where
  -- whatever the load came to
  pub load_carried : (address so_many n : ℕ) (bytes : List ℕ) (a b : Access) → length bytes ≡ n → length bytes ≡ so_many → a ≡ b
      → ((x : List Sector) (named : Triples) (ss : List Space) → Revealed v kept count x named ss → a ≡ access_of ss false address n)
      → ((x : List Sector) (named : Triples) (ss : List Space) → Revealed v kept count x named ss → a ≡ Done → Loads ss address bytes x)
      → Allows m (Load address so_many) (reply_to (reply.Bytes bytes) b) × IsRunning w later now volume (next m (Load address so_many))
  load_carried address so_many n bytes a b width long is access loads =
      let x = r.session.stands.memory in
      let named = r.session.stands.is.named in
      let revealed = knows laws whole r in (
        load_allowed (exactly r.pages m.spaces) x m address so_many bytes b r.session.stands.is long
            (sym is ∙ access x named m.spaces revealed ∙ ap (λ (k : ℕ). access_of m.spaces false address k) (sym width ∙ long)) (λ done. loads x named m.spaces revealed (is ∙ done)),
        subst (λ (k : Machine). IsRunning w later now volume k) (load_stays m address so_many) (still_runs laws whole r came),
      )

module _ (laws : RunningLaws) {v : View} {kept : List Interval} {count : ℕ} (whole : IsWhole v) {volume : Volume} {m : Machine} (r : IsRunning v kept count volume m) where
  pub load_not_refused : (address so_many n : ℕ) (a b : Access) → n ≡ so_many → a ≡ b
      → ((x : List Sector) (named : Triples) (ss : List Space) → Revealed v kept count x named ss → a ≡ access_of ss false address n) → refusal m (Load address so_many) ≡ None → IsDone b
  load_not_refused address so_many n a b long is access free =
      load_is_done m address so_many b (sym is ∙ access r.session.stands.memory r.session.stands.is.named m.spaces (knows laws whole r) ∙ ap (λ (k : ℕ). access_of m.spaces false address k) long) free
