-- One step: a refused call, or one that is carried out.
use Rattle.std.proofs.Common.{◌≡◌, Some, None, refl}
use Rattle.flat_machine.specs.declared.call.Call.{Call}
use Rattle.flat_machine.specs.declared.call.Reply.{Reply}
use Rattle.flat_machine.specs.declared.call.Reply.TheVariants as reply
use Rattle.flat_machine.specs.declared.call.Refusal.{Refusal}
use Rattle.flat_machine.specs.Machine.{Machine}
use Rattle.flat_machine.specs.Refusal.{refusal}
use Rattle.flat_machine.specs.Next.{next, change}
use Rattle.flat_machine.specs.Allows.{plain_reply, reply_of}

pub refused_step : (m : Machine) (call : Call) (word : Refusal) → refusal m call ≡ Some word → (reply.Refused word ≡ reply_of m call) × (m ≡ next m call)
refused_step m call word e = rw e (refl, refl)

pub unrefused_step : (m n : Machine) (call : Call) (r : Reply) → refusal m call ≡ None → (r ≡ plain_reply m call) × (n ≡ change m call)
    → (r ≡ reply_of m call) × (n ≡ next m call)
unrefused_step m n call r e h = rw e h
