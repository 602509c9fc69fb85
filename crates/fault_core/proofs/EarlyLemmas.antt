-- What is left where a page has no home: no page of a client's came, and none was given up but for a page of the volume's own.
use Rattle.labelled_disk.specs.declared.evidence.Evidence.TheVariants.{Mismatch, Malformed, Missing}
use Rattle.labelled_disk.specs.declared.evidence.Halt.{Halt}
use Rattle.labelled_disk.specs.declared.evidence.Halt.TheVariants.{Disk, Damaged}
use Rattle.labelled_disk.specs.State.{DiskState}
use Rattle.frame_pool.specs.Frames.{Slots}
use Rattle.swapper_kernel.specs.Halts.{Halts}
use Rattle.swapper_kernel.specs.HaltLaws.{brings_then}
use Rattle.swapper_kernel.specs.Homes.{Homes}
use Rattle.fault_core.specs.Early.{IfUnfound, KeepsClients}
use Rattle.fault_core.proofs.YieldLemmas.{yield_then}

-- whatever the halt is
pub unfound_so : (P : Type 0) (e : Halt) → P → IfUnfound P e
unfound_so P Disk p = tt
unfound_so P (Damaged (Mismatch sector wanted found)) p = tt
unfound_so P (Damaged (Malformed structure page)) p = p
unfound_so P (Damaged (Missing id page)) p = p

-- where this holds, so does that
pub unfound_less : (P Q : Type 0) → (P → Q) → (e : Halt) → IfUnfound P e → IfUnfound Q e
unfound_less P Q less Disk p = tt
unfound_less P Q less (Damaged (Mismatch sector wanted found)) p = tt
unfound_less P Q less (Damaged (Malformed structure page)) p = less p
unfound_less P Q less (Damaged (Missing id page)) p = less p

-- pages whose homes were found stop at a label or at a fault of the disk
pub brought_found : (come : Homes) (old : DiskState) (before : Slots) (new : DiskState) (P : Type 0) (e : Halt) → Halts come old before new e → IfUnfound P e
brought_found come old before new P Disk h = tt
brought_found come old before new P (Damaged (Mismatch sector wanted found)) h = tt
brought_found come old before new P (Damaged (Malformed structure page)) h = absurd h
brought_found come old before new P (Damaged (Missing id page)) h = absurd h

-- two calls in a row
pub clients_then : {s t u : Slots} → KeepsClients s t → KeepsClients t u → KeepsClients s u
clients_then h k = record { came = brings_then h.came k.came; stay = yield_then h.stay k.stay }
