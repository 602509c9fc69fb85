-- Pages of the maps and of the space tables alone came into frames, in calls in a row.
use Rattle.std.proofs.Common.{inl, Result, Ok, Err}
use Rattle.std.specs.Prelude.{OnOk}
use Rattle.frame_pool.specs.Frames.{Slots}
use Rattle.swapper_kernel.specs.HaltLaws.{brings_then}
use Rattle.fault_core.specs.Reach.{BringsOwn}

-- none came
pub own_itself : (s : Slots) → BringsOwn s s
own_itself s = record { homes = λ home held. inl held }

-- in one that went on, after another one
pub brought_then : {T E : Type 0} (result : Result T E) {s t : Slots} (u : Slots) → BringsOwn s t → OnOk result (BringsOwn t u) → OnOk result (BringsOwn s u)
brought_then (Ok x) u first later = brings_then first later
brought_then (Err e) u first later = tt
