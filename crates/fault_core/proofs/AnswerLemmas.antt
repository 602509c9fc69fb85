-- What a session replies to a load or a store, and what it stands for then.
use Rattle.std.proofs.Common.{◌≡◌, ℕ, List, length, Option, refl, sym, ◌∙◌, ap, subst}
use Rattle.std.specs.Prelude.{MatchOption}
use Rattle.flat_machine.specs.declared.call.Call.TheVariants.{Load, Store}
use Rattle.flat_machine.specs.declared.call.Refusal.{Refusal}
use Rattle.flat_machine.specs.declared.call.Reply.TheVariants as reply
use Rattle.flat_machine.specs.Machine.{Machine}
use Rattle.flat_machine.specs.Allows.{Answers}
use Rattle.flat_machine.specs.Refusal.{refusal}
use Rattle.session_words.proofs.CellLemmas.{store_stands}
use Rattle.fault_core.specs.declared.reference.Access.{Access}
use Rattle.fault_core.specs.declared.reference.Access.TheVariants.{Done, NoMap, ReadOnly}
use Rattle.fault_core.specs.ReferenceLaws.{LoadsAreAnswered, StoresAreAnswered, StoresStand, reply_to, word_of}
use Rattle.fault_core.proofs.AllowedLemmas.{loads_allowed, loads_tested, stores_tested}

load_answer : (m : Machine) (address : ℕ) (bytes : List ℕ) (a : Access) → (a ≡ Done → Answers m (Load address (length bytes)) (reply.Bytes bytes))
    → MatchOption (word_of a) (Answers m (Load address (length bytes)) (reply_to (reply.Bytes bytes) a)) (λ word. reply_to (reply.Bytes bytes) a ≡ reply.Refused word)
load_answer m address bytes Done done = done refl
load_answer m address bytes (NoMap page) done = refl
load_answer m address bytes (ReadOnly page) done = refl

store_answer : (m : Machine) (address : ℕ) (bytes : List ℕ) (a : Access) → MatchOption (word_of a) (Answers m (Store address bytes) (reply_to reply.Done a)) (λ word. reply_to reply.Done a ≡ reply.Refused word)
store_answer m address bytes Done = refl
store_answer m address bytes (NoMap page) = refl
store_answer m address bytes (ReadOnly page) = refl

pub loads_answered : LoadsAreAnswered
loads_answered spaces_of x m address bytes a h is loads =
    let word : word_of a ≡ refusal m (Load address (length bytes)) = ap word_of is ∙ sym (loads_tested m address (length bytes)) in
    subst (λ (o : Option Refusal). MatchOption o (Answers m (Load address (length bytes)) (reply_to (reply.Bytes bytes) a)) (λ word. reply_to (reply.Bytes bytes) a ≡ reply.Refused word)) word
    (load_answer m address bytes a (λ done. (bytes, refl, loads_allowed x m address bytes h.by.sectors h.by.cells (loads done))))

pub stores_answered : StoresAreAnswered
stores_answered m address bytes a is =
    let word : word_of a ≡ refusal m (Store address bytes) = ap word_of is ∙ sym (stores_tested m address bytes) in
    subst (λ (o : Option Refusal). MatchOption o (Answers m (Store address bytes) (reply_to reply.Done a)) (λ word. reply_to reply.Done a ≡ reply.Refused word)) word (store_answer m address bytes a)

pub stores_lead : StoresStand
stores_lead spaces_of address bytes old new before after m typed is goes came stands =
    store_stands spaces_of address bytes old new before after m typed (stores_tested m address bytes ∙ ap word_of (sym is)) goes came stands
