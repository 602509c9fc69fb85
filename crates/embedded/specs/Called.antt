-- What a call of a client does to an engine.
use Rattle.std.specs.Prelude.{◌≡◌, ◌⊎◌, true, None, Some, Result, Ok, Err, OnOk}
use Rattle.labelled_disk.specs.Calls.{Rose}
use Rattle.labelled_disk.specs.declared.disk.Disk.{Ghosts}
use Rattle.labelled_disk.specs.declared.evidence.Halt.{Halt}
use Rattle.labelled_disk.specs.declared.evidence.Halt.TheVariants as halt
use Rattle.filer_kernel.specs.Evidence.{ShowsEvidence}
use Rattle.flat_machine.specs.declared.call.Call.{Call}
use Rattle.flat_machine.specs.declared.call.Reply.{Reply}
use Rattle.flat_machine.specs.Allows.{Allows}
use Rattle.flat_machine.specs.Machine.{Machine}
use Rattle.flat_machine.specs.References.{is_reference}
use Rattle.flat_machine.specs.Next.{next}
use Rattle.flat_machine.specs.Refusal.{refusal}
use Rattle.running_words.specs.Stages.{Passes}
use Rattle.pilot_engine.specs.Stepping.{waits}
use Rattle.embedded.specs.declared.code.Code.{Code}
use Rattle.embedded.specs.declared.code.Code.TheVariants as code
use Rattle.embedded.specs.declared.engine.Engine.{Engine}
use Rattle.embedded.specs.Answers.{answer_to}
use Rattle.embedded.specs.Engine.{Between, IsClosed, OfDisk, StandsFor, disk_of}
use Rattle.embedded.specs.Spending.{IsLater, MovedFew}

module _ {D A : Type 0} {G : Ghosts D} where
  -- the answer is that of a reply which the machine allows, and the engine stands for the machine after the call
  pub record Follows (m : Machine) (call : Call) (answer : Result Reply Code) (new : Engine D A G) : Type 0 where
    pub reply : Reply
    pub allowed : Allows m call reply
    pub answered : answer ≡ answer_to reply
    pub stands : StandsFor new (next m call)

  -- a halt ended the session: it is kept, and what it says of the disk is so
  pub record HasStopped (why : Halt) (new : Engine D A G) : Type 0 where
    pub closed : IsClosed new
    pub kept : new.halt ≡ Some why
    pub evident : OfDisk (λ disk. ShowsEvidence disk why) new

  -- A call was carried out, or is answered by why it was not. Where the engine stood for a machine, the answer follows
  -- from that, or the disk failed, and the transfers are bounded. No fault of the disk is lost.
  pub record Called (call : Call) (old : Engine D A G) (answer : Result Reply Code) (new : Engine D A G) : Type 0 where
    pub answers : (m : Machine) → StandsFor old m → Follows m call answer new ⊎ (answer ≡ Err (code.Halted halt.Disk))
    pub passes : (m : Machine) → StandsFor old m → Between (Passes m call) old new
    pub forced : (m : Machine) → StandsFor old m → waits call ≡ true → refusal m call ≡ None
        → OnOk answer (OfDisk (λ disk. disk.synced ≡ true) new)
    pub closed : IsClosed old → (answer ≡ Err code.Closed) × (new ≡ old)
    pub stopped : (why : Halt) → answer ≡ Err (code.Halted why) → HasStopped why new
    pub cause : answer ≡ Err (code.Halted halt.Disk) → Between (λ before after. Rose before.faults after.faults) old new
    pub later : IsLater (disk_of old) (disk_of new)
    pub cost : (m : Machine) → StandsFor old m → MovedFew 1 0 (disk_of old) (disk_of new)
    pub few : is_reference call ≡ true → MovedFew 0 1 (disk_of old) (disk_of new)
