-- The event that was taken, by what the reader holds.
use Rattle.std.proofs.Common.{◌≡◌, ℕ, List, take, Option, Some, None, Ok, refl, sym, ap, ◌∙◌, subst}
use Rattle.trace_io.specs.EventGrammar.{EventLine, Ask, Done, Close, Halt, event_of}
use Rattle.trace_io.specs.Progress.{Progress}
use Rattle.trace_io.specs.Events.{TakesEvent, TakesNextEvent, event_at}
use Rattle.trace_io.specs.Held.{Holds}
use Rattle.trace_io.specs.declared.event.Event.{Event}
use Rattle.trace_io.proofs.HeldLemmas.{TakesSaid-text}
use Rattle.trace_io.proofs.EventLemmas.{event_of-long}

module _ (a c : Option (List ℕ)) (p now q : Progress) (buffer : List ℕ) where
  said : (item : Option EventLine) → TakesEvent item a c p q → TakesNextEvent (event_at item) a c p q
  said None takes = takes
  said (Some (Ask client call)) takes = takes
  said (Some (Done flight)) takes = takes
  said (Some Close) takes = takes
  said (Some Halt) takes = takes

  -- what the reader holds, from where the reading goes on
  held_by : (held known : Option ℕ) → held ≡ known → p ≡ now → (p.stopped ≡ None → Holds (Ok held) buffer a c p q) → now.stopped ≡ None → Holds (Ok known) buffer a c p q
  held_by held known is same holds going = subst (λ (h : Option ℕ). Holds (Ok h) buffer a c p q) is (holds (ap (λ (x : Progress). x.stopped) same ∙ going))

  -- a line that is held
  pub TakesNextEvent-held : (held : Option ℕ) (size : ℕ) (line : List ℕ) (e : Event) → held ≡ Some size → line ≡ take size buffer → e ≡ event_at (event_of line) → p ≡ now
      → (p.stopped ≡ None → Holds (Ok held) buffer a c p q) → now.stopped ≡ None → TakesNextEvent e a c now q
  TakesNextEvent-held held size line e is text says same holds going =
      let takes = held_by held (Some size) is same holds going in
      let item = event_of (take size buffer) in
      let e_is : e ≡ event_at item = says ∙ ap (λ (l : List ℕ). event_at (event_of l)) text in
      let next = said item (TakesSaid-text event_of (take size buffer) item a c p q refl takes) in
      subst (λ (x : Progress). TakesNextEvent e a c x q) same (subst (λ (x : Event). TakesNextEvent x a c p q) (sym e_is) next)

  -- a line that is too long
  pub TakesEvent-long : (held : Option ℕ) → held ≡ None → p ≡ now → (p.stopped ≡ None → Holds (Ok held) buffer a c p q) → now.stopped ≡ None → TakesEvent None a c now q
  TakesEvent-long held is same holds going =
      let long = held_by held None is same holds going in
      subst (λ (x : Progress). TakesEvent None a c x q) same (TakesSaid-text event_of long.0 None a c p q (event_of-long long.0 long.1) long.2)
