-- What a stop leaves of calls in a row, and calls of which it sees nothing.
use Rattle.std.proofs.Common.{◌≡◌, ◌⊎◌, inl, inr, ◌∙◌, ℕ, zero, suc, ◌+◌, ◌*◌, ◌≤◌, Bool, true, refl, sym, ap, subst, List, length, Option, Some, None, Result, Ok, Err, MatchOption}
use Rattle.std.specs.Prelude.{is_none, MatchResult, if◌then◌else◌}
use Rattle.labelled_disk.specs.declared.disk.Disk.{Ghosts}
use Rattle.labelled_disk.specs.declared.evidence.Halt.{Halt}
use Rattle.labelled_disk.specs.declared.evidence.Halt.TheVariants as halt
use Rattle.labelled_disk.specs.Sectors.{Sector}
use Rattle.labelled_disk.specs.State.{DiskState}
use Rattle.flat_machine.specs.declared.call.Call.{Call}
use Rattle.flat_machine.specs.declared.call.Call.TheVariants as call
use Rattle.flat_machine.specs.declared.call.Refusal.{Refusal}
use Rattle.flat_machine.specs.declared.call.Reply.{Reply}
use Rattle.flat_machine.specs.Machine.{Machine}
use Rattle.flat_machine.specs.IsMachine.{IsMachine}
use Rattle.flat_machine.specs.Next.{change, next}
use Rattle.flat_machine.specs.Refusal.{refusal}
use Rattle.session_words.specs.StandsFor.{RevealsSettled}
use Rattle.running_words.specs.Stages.{Passes, stage}
use Rattle.pilot_engine.specs.Closing.{Throughout}
use Rattle.pilot_engine.proofs.StopLemmas.{throughout_less, throughout_then}
use Rattle.embedded.specs.declared.code.Code.{Code}
use Rattle.embedded.specs.declared.code.Code.TheVariants as code
use Rattle.embedded.specs.declared.engine.Engine.{Engine}
use Rattle.embedded.specs.Called.{Called, HasStopped}
use Rattle.embedded.specs.Engine.{Between, IsClosed, OfBoth, StandsFor, disk_of}
use Rattle.embedded.specs.References.{Stored}
use Rattle.embedded.specs.Stops.{IsPartway, Leaves, RevealsPart}
use Rattle.documents.specs.Stands.{is_failure}
use Rattle.documents.specs.Stops.{IsLike, IsUnseen, LooksLike, Marks, StaysUnseen}
use Rattle.documents.specs.Windows.{IsShown, showing}
use Rattle.documents.proofs.LooksLemmas.{Keeps, keeps_create, keeps_delete, keeps_make_space, keeps_map, keeps_remove_space, keeps_size, keeps_unmap, looks_reveals}
use Rattle.documents.proofs.MachineLemmas.{machine_of}
use Rattle.documents.proofs.ShownLooks.{looks_stored}

-- Two states of a disk.

both_then : (P : List Sector → Type 0) (o p q : Option DiskState) → OfBoth (Throughout P) o p → OfBoth (Throughout P) p q → OfBoth (Throughout P) o q
both_then P (Some a) (Some b) (Some c) one two = throughout_then P one two
both_then P (Some a) (Some b) None one two = absurd two
both_then P (Some a) None q one two = absurd one
both_then P None p q one two = absurd one

both_less : (P Q : List Sector → Type 0) → ((d : List Sector) → P d → Q d) → (o p : Option DiskState) → OfBoth (Throughout P) o p → OfBoth (Throughout Q) o p
both_less P Q less (Some a) (Some b) all = throughout_less P Q less all
both_less P Q less (Some a) None all = absurd all
both_less P Q less None p all = absurd all

passed : (P : List Sector → Type 0) (m : Machine) (one : Call) → ((d : List Sector) (k : ℕ) → RevealsSettled d (stage m one k) → P d) → (o p : Option DiskState) → OfBoth (Passes m one) o p → OfBoth (Throughout P) o p
passed P m one such (Some a) (Some b) passes = record { writes = passes.writes; appended = passes.appended; each = λ d k revealed. such _ (passes.steps k) (passes.reveals d k revealed) }
passed P m one such (Some a) None passes = absurd passes
passed P m one such None p passes = absurd passes

-- a machine that a question leaves as it is
unchanged : (o : Option Refusal) (m : Machine) → (if is_none o then m else m) ≡ m
unchanged None m = refl
unchanged (Some word) m = refl

module _ {D A : Type 0} {G : Ghosts D} where
  -- One engine after the other.

  pub leaves_then : (P : List Sector → Type 0) (a b c : Engine D A G) → Leaves P a b → Leaves P b c → Leaves P a c
  leaves_then P a b c (inl same) (inl still) = inl (still ∙ same)
  leaves_then P a b c (inl same) (inr two) = inr (subst (λ (e : Engine D A G). Between (Throughout P) e c) same two)
  leaves_then P a b c (inr one) (inl still) = inr (subst (λ (e : Engine D A G). Between (Throughout P) a e) (sym still) one)
  leaves_then P a b c (inr one) (inr two) = inr (both_then P (disk_of a) (disk_of b) (disk_of c) one two)

  pub leaves_less : (P Q : List Sector → Type 0) → ((d : List Sector) → P d → Q d) → (a b : Engine D A G) → Leaves P a b → Leaves Q a b
  leaves_less P Q less a b (inl same) = inl same
  leaves_less P Q less a b (inr all) = inr (both_less P Q less (disk_of a) (disk_of b) all)

  -- a call, each of whose steps leaves such sectors
  pub leaves_call : (P : List Sector → Type 0) (m : Machine) (one : Call) (a b : Engine D A G) (answer : Result Reply Code) → ((d : List Sector) (k : ℕ) → RevealsSettled d (stage m one k) → P d)
      → Called one a answer b → StandsFor a m → Leaves P a b
  leaves_call P m one a b answer such called stands = inr (passed P m one such (disk_of a) (disk_of b) (called.passes m stands))

  -- a question
  pub leaves_asked : (m : Machine) (id : ℕ) (a b : Engine D A G) (answer : Result Reply Code) → Called (call.Attributes id) a answer b → StandsFor a m → Leaves (λ d. RevealsSettled d m) a b
  leaves_asked m id a b answer called stands = leaves_call (λ d. RevealsSettled d m) m (call.Attributes id) a b answer still called stands
    where
      still : (d : List Sector) (k : ℕ) → RevealsSettled d (stage m (call.Attributes id) k) → RevealsSettled d m
      still d zero r = r
      still d (suc k) r = subst (λ (x : Machine). RevealsSettled d x) (unchanged (refusal m (call.Attributes id)) m) r

  -- Nothing is seen.

  pub unseen_itself : (m : Machine) (id : ℕ) (e : Engine D A G) → IsLike m id e → IsUnseen m id e e
  unseen_itself m id e like = record { leaves = inl refl; goes_on = like }

  pub unseen_then : (m : Machine) (id : ℕ) (a b c : Engine D A G) → IsUnseen m id a b → IsUnseen m id b c → IsUnseen m id a c
  unseen_then m id a b c one two = record { leaves = leaves_then (λ d. RevealsSettled d m) a b c one.leaves two.leaves; goes_on = two.goes_on }

  pub stays_itself : (id : ℕ) (e : Engine D A G) → StaysUnseen id e e
  stays_itself id e = λ m like. unseen_itself m id e like

  pub stays_then : (id : ℕ) (a b c : Engine D A G) → StaysUnseen id a b → StaysUnseen id b c → StaysUnseen id a c
  stays_then id a b c one two = λ m like. let first = one m like in unseen_then m id a b c first (two m first.goes_on)

  -- without a session nothing is called
  unseen_shut : (m : Machine) (id : ℕ) (a b : Engine D A G) → IsClosed a → b ≡ a → IsUnseen m id a b
  unseen_shut m id a b shut same = record { leaves = inl same; goes_on = inl (subst (λ (e : Engine D A G). IsClosed e) (sym same) shut) }

  -- a call that a stop does not see
  pub stays_called : (id : ℕ) (one : Call) (a b : Engine D A G) (answer : Result Reply Code) → ((m : Machine) → Keeps m id one) → Called one a answer b → StaysUnseen id a b
  stays_called id one a b answer keeps called = λ m like. elim like [
    | inl shut ↦ unseen_shut m id a b shut (called.closed shut).1
    | inr s ↦
        let steps = keeps m s.0 (machine_of a s.0 s.2) s.1 in
        record {
          leaves = leaves_call (λ d. RevealsSettled d m) s.0 one a b answer (λ d k r. looks_reveals m id (stage s.0 one k) (steps.1 k) d r) called s.2;
          goes_on = elim (called.answers s.0 s.2) [
            | inl follows ↦ inr (next s.0 one, steps.0, follows.stands)
            | inr bad ↦ inl (called.stopped halt.Disk bad).closed
          ];
        }
  ]

  pub stays_create : (id pages kind : ℕ) (a b : Engine D A G) (answer : Result Reply Code) → Called (call.Create pages kind) a answer b → StaysUnseen id a b
  stays_create id pages kind a b answer called = stays_called id (call.Create pages kind) a b answer (λ m. keeps_create m id pages kind) called

  pub stays_size : (id pages : ℕ) (a b : Engine D A G) (answer : Result Reply Code) → Called (call.SetSize id pages) a answer b → StaysUnseen id a b
  stays_size id pages a b answer called = stays_called id (call.SetSize id pages) a b answer (λ m. keeps_size m id pages) called

  pub stays_delete : (id : ℕ) (a b : Engine D A G) (answer : Result Reply Code) → Called (call.Delete id) a answer b → StaysUnseen id a b
  stays_delete id a b answer called = stays_called id (call.Delete id) a b answer (λ m. keeps_delete m id) called

  pub stays_make_space : (id parent pages : ℕ) (first : Option ℕ) (a b : Engine D A G) (answer : Result Reply Code) → Called (call.MakeSpace parent pages first) a answer b → StaysUnseen id a b
  stays_make_space id parent pages first a b answer called = stays_called id (call.MakeSpace parent pages first) a b answer (λ m. keeps_make_space m id parent pages first) called

  pub stays_remove_space : (id space : ℕ) (a b : Engine D A G) (answer : Result Reply Code) → Called (call.RemoveSpace space) a answer b → StaysUnseen id a b
  stays_remove_space id space a b answer called = stays_called id (call.RemoveSpace space) a b answer (λ m. keeps_remove_space m id space) called

  pub stays_map : (id space file page : ℕ) (writable : Bool) (a b : Engine D A G) (answer : Result Reply Code) → Called (call.Map space file page writable) a answer b → StaysUnseen id a b
  stays_map id space file page writable a b answer called = stays_called id (call.Map space file page writable) a b answer (λ m. keeps_map m id space file page writable) called

  pub stays_unmap : (id space : ℕ) (a b : Engine D A G) (answer : Result Reply Code) → Called (call.Unmap space) a answer b → StaysUnseen id a b
  stays_unmap id space a b answer called = stays_called id (call.Unmap space) a b answer (λ m. keeps_unmap m id space) called

  -- Bytes are moved through a window.

  pub loaded_unseen : (m : Machine) (id : ℕ) (n : Machine) (b c : Engine D A G) (moved : Result (Unit {0}) Code) → LooksLike m id n → Leaves (λ d. RevealsSettled d n) b c
      → StandsFor c n ⊎ (moved ≡ Err is_failure) → ((why : Halt) → moved ≡ Err (code.Halted why) → HasStopped why c) → IsUnseen m id b c
  loaded_unseen m id n b c moved like leaves still stopped = record {
    leaves = leaves_less (λ d. RevealsSettled d n) (λ d. RevealsSettled d m) (λ d r. looks_reveals m id n like d r) b c leaves;
    goes_on = elim still [
      | inl stands ↦ inr (n, like, stands)
      | inr bad ↦ inl (stopped halt.Disk bad).closed
    ];
  }

  pub stored_unseen : (m : Machine) (id : ℕ) (n : Machine) (page pages space address done : ℕ) (bytes : List ℕ) (b c : Engine D A G) (moved : Result (Unit {0}) Code) → LooksLike m id n → IsMachine n
      → IsShown n id page pages true space address → length bytes ≤ 512 * pages → Leaves (RevealsPart (showing n id page pages true) address bytes) b c
      → Stored (showing n id page pages true) address done bytes c ⊎ (moved ≡ Err is_failure) → done ≤ length bytes → ((why : Halt) → moved ≡ Err (code.Halted why) → HasStopped why c)
      → IsUnseen m id b c
  stored_unseen m id n page pages space address done bytes b c moved like h shown fits leaves stored part stopped = record {
    leaves = leaves_less (RevealsPart (showing n id page pages true) address bytes) (λ d. RevealsSettled d m)
        (λ d r. looks_reveals m id r.0 (looks_stored m id n page pages space address bytes r.0 h like shown fits r.1) d r.2) b c leaves;
    goes_on = elim stored [
      | inl s ↦
          let here : IsPartway (showing n id page pages true) address bytes s.after = record { done = done; part = part; pieces = s.pieces; some = s.some; whole = s.whole; lead = s.lead } in
          inr (s.after, looks_stored m id n page pages space address bytes s.after h like shown fits here, s.stands)
      | inr bad ↦ inl (stopped halt.Disk bad).closed
    ];
  }

  -- Ways a file is marked.

  pub marks_less : {T E : Type 0} (P Q : List Sector → Type 0) (m : Machine) (id : ℕ) (a b : Engine D A G) (result : Result T E) → ((d : List Sector) → P d → Q d) → Marks P m id a result b → Marks Q m id a result b
  marks_less P Q m id a b (Ok done) less all = leaves_less P Q less a b all
  marks_less P Q m id a b (Err e) less (inl unseen) = inl unseen
  marks_less P Q m id a b (Err e) less (inr ended) = inr (ended.0, leaves_less P Q less a b ended.1)
