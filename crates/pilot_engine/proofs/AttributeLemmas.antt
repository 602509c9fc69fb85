-- What is revealed of a file that may be named, over a core.
use Rattle.std.proofs.Common.{◌≡◌, ℕ, Option, Some, None, refl, ap, subst}
use Rattle.std.specs.Prelude.{is_none}
use Rattle.std.specs.Bool.{then_some}
use Rattle.labelled_disk.specs.declared.disk.Disk.{Ghosts}
use Rattle.labelled_disk.specs.File.{File, size}
use Rattle.flat_machine.specs.declared.call.Call.TheVariants as call
use Rattle.flat_machine.specs.declared.call.Reply.TheVariants as reply
use Rattle.flat_machine.specs.declared.call.Refusal.TheVariants as why
use Rattle.flat_machine.specs.Machine.{Machine, nameable}
use Rattle.flat_machine.specs.Refusal.{no_file, refusal}
use Rattle.file_manager.specs.declared.attributes.Attributes.{Attributes}
use Rattle.file_manager.specs.declared.volume.Volume.{Volume}
use Rattle.fault_core.specs.declared.core_over.Core.{Core}
use Rattle.space_calls.specs.Naming.{IsNameable}
use Rattle.running_words.specs.Running.{Carried, Runs}
use Rattle.pilot_engine.proofs.LiftLemmas.{refused_running}
use Rattle.pilot_engine.proofs.RefusalLemmas.{attributes_gone}

nameless : (o : Option File) → IsNameable o None → o ≡ None
nameless None is = refl
nameless (Some f) is = absurd is

revealed_of : (o : Option File) (a : Attributes) → IsNameable o (Some a) → (f : File) × (o ≡ Some f) × (a.pages ≡ size f) × (a.kind ≡ f.kind) × (a.permanent ≡ f.permanent) × (a.immutable ≡ f.immutable)
revealed_of None a is = absurd is
revealed_of (Some f) a is = (f, refl, is.0, is.1, is.2, is.3)

module _ {D A : Type 0} {G : Ghosts D} (core : Core D A G) (volume : Volume) (m : Machine) (id : ℕ) where
  pub nameless_running : Runs core volume m → IsNameable (nameable m id) None → Carried m (call.Attributes id) core volume (reply.Refused why.File)
  nameless_running r none =
      let gone : no_file m id ≡ Some why.File = ap (λ (o : Option File). then_some (is_none o) why.File) (nameless (nameable m id) none) in
      refused_running core volume m (call.Attributes id) why.File r (attributes_gone m id gone)

  pub attributes_running : (a : Attributes) → Runs core volume m → IsNameable (nameable m id) (Some a) → Carried m (call.Attributes id) core volume (reply.Attributes a.pages a.kind a.permanent a.immutable)
  attributes_running a r some =
      let f = revealed_of (nameable m id) a some in
      let there : no_file m id ≡ None = ap (λ (o : Option File). then_some (is_none o) why.File) f.1 in
      let free : refusal m (call.Attributes id) ≡ None = rw there refl in
      record {
        allowed = rw (free, f.1) (λ i. reply.Attributes (f.2 i) (f.3 i) (f.4 i) (f.5 i));
        runs = subst (λ (n : Machine). Runs core volume n) (let e : m ≡ _ = rw free refl in e) r;
      }
