-- What every call on spaces does to a core, whatever the call.
use Rattle.std.specs.Prelude.{◌≡◌, ℕ, [], IfOk, IfErr, Result}
use Rattle.labelled_disk.specs.declared.disk.Disk.{Ghosts}
use Rattle.labelled_disk.specs.declared.evidence.Halt.{Halt}
use Rattle.labelled_disk.specs.declared.evidence.Halt.TheVariants as halt
use Rattle.flat_machine.specs.declared.call.Call.{Call}
use Rattle.flat_machine.specs.declared.call.Refusal.{Refusal}
use Rattle.flat_machine.specs.declared.call.Reply.{Reply}
use Rattle.flat_machine.specs.Machine.{Machine}
use Rattle.flat_machine.specs.Refusal.{first_of}
use Rattle.projection_laws.specs.Tests.{window_row}
use Rattle.space_tables.specs.declared.shown.Shown.{Shown}
use Rattle.session_words.specs.Volume.{volume_page}
use Rattle.filer_kernel.specs.View.{MakesOnly}
use Rattle.fault_core.specs.declared.core_over.Core.{Core}
use Rattle.fault_core.specs.Core.{state}
use Rattle.fault_core.specs.Reach.{BringsOwn, Reaches}
use Rattle.file_manager.specs.declared.volume.Volume.{Volume}
use Rattle.running_words.specs.Running.{Carried, Runs}
use Rattle.running_words.specs.Stages.{Passes}
use Rattle.table_calls.specs.Answers.{Reveals}
use Rattle.space_calls.specs.Sees.{StillSees}
use Rattle.space_calls.specs.Unmapping.{IsRefused, IsTaken}

module _ {D A : Type 0} {G : Ghosts D} where
  -- The core stood for the machine: the reply is allowed, and the core stands for the machine after the call; the one halt is a
  -- fault of the disk; and each crash state between is one of the call.
  pub record Answers (m : Machine) (call : Call) (old new : Core D A G) (volume : Volume) (result : Result Reply Halt) : Type 0 where
    pub carried : IfOk result (Carried m call new volume)
    pub sound : IfErr result (λ e. e ≡ halt.Disk)
    pub passes : Passes m call (state old).disk (state new).disk

  -- The core stood for the machine: it stands for the one without the window of the space, which showed what is given; or that is refused, and it
  -- stands for the same; the one halt is a fault of the disk.
  pub record TakesWindow (m : Machine) (space : ℕ) (new : Core D A G) (volume : Volume) (result : Result (Result Shown Refusal) Halt) : Type 0 where
    pub taken : IfOk result (Reveals (first_of (window_row m.spaces space)) (IsTaken m space (λ n. Runs new volume n)))
    pub refused : IfOk result (IsRefused (Runs new volume m))
    pub sound : IfErr result (λ e. e ≡ halt.Disk)

  -- The call only looked: the core stands for what it stood for and sees what it saw, pages came and went, and nothing else. Those that came
  -- are of the maps and of the space tables.
  pub record Looks (old new : Core D A G) : Type 0 where
    pub runs : (volume : Volume) (m : Machine) → Runs old volume m → Runs new volume m
    pub still : StillSees old new
    pub reaches : Reaches (state old) (state new)
    pub came : BringsOwn (state old).slots (state new).slots
    pub makes : MakesOnly volume_page [] (state old) (state new)
    pub layout : (state new).layout ≡ (state old).layout
    pub intervals : new.intervals ≡ old.intervals
