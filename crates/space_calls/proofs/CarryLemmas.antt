-- What calls on spaces answer, and the machine that the core stands for after them.
use Rattle.std.proofs.Common.{◌≡◌, ℕ, true, List, Option, Some, None, Result, Ok, Err, refl, sym, ◌∙◌, ap, subst}
use Rattle.std.specs.Prelude.{MatchOption, is_none, if◌then◌else◌}
use Rattle.labelled_disk.specs.declared.disk.Disk.{Ghosts}
use Rattle.frame_pool.specs.Frames.{ArePages}
use Rattle.flat_machine.specs.declared.call.Call.{Call}
use Rattle.flat_machine.specs.declared.call.Refusal.{Refusal}
use Rattle.flat_machine.specs.declared.call.Reply.{Reply}
use Rattle.flat_machine.specs.declared.call.Reply.TheVariants as reply
use Rattle.flat_machine.specs.declared.space.Space.{Space}
use Rattle.flat_machine.specs.Allows.{Allows, Answers}
use Rattle.flat_machine.specs.IsMachine.{IsMachine}
use Rattle.flat_machine.specs.Machine.{Machine}
use Rattle.flat_machine.specs.Next.{change, next}
use Rattle.flat_machine.specs.Refusal.{refusal}
use Rattle.swapper_kernel.specs.Homes.{IsLayout}
use Rattle.space_tables.specs.Stored.{RevealSpaces}
use Rattle.session_words.specs.FrameLaws.{is_shown}
use Rattle.file_manager.specs.declared.volume.Volume.{Volume}
use Rattle.fault_core.specs.declared.core_over.Core.{Core}
use Rattle.fault_core.specs.Core.{state}
use Rattle.filer_kernel.specs.View.{TablesAre, view_of}
use Rattle.table_calls.specs.Answers.{Changes, Retabled}
use Rattle.running_words.specs.Running.{Carried, Runs}
use Rattle.running_words.specs.Session.{AreInForm}
use Rattle.space_calls.proofs.RunLemmas.{reshaped_runs}

-- ---- Answers of the tables.

pub answered : {A : Type 0} (refused : Option Refusal) (P : A → Type 0) (stays : Type 0) (o : Result A Refusal) (x : A) → o ≡ Ok x → Changes refused P stays o → (refused ≡ None) × P x
answered {A = A} refused P stays o x is h = subst (λ (o : Result A Refusal). Changes refused P stays o) is h

pub declined : {A : Type 0} (refused : Option Refusal) (P : A → Type 0) (stays : Type 0) (o : Result A Refusal) (word : Refusal) → o ≡ Err word → Changes refused P stays o → (refused ≡ Some word) × stays
declined {A = A} refused P stays o word is h = subst (λ (o : Result A Refusal). Changes refused P stays o) is h

-- ---- The machine's replies, and its next.

module _ (m : Machine) (call : Call) where
  pub allowed_done : (r : Reply) → refusal m call ≡ None → Answers m call r → Allows m call r
  allowed_done r none answers = subst (λ (o : Option Refusal). MatchOption o (Answers m call r) (λ word. r ≡ reply.Refused word)) (sym none) answers

  pub allowed_refused : (word : Refusal) → refusal m call ≡ Some word → Allows m call (reply.Refused word)
  allowed_refused word some = subst (λ (o : Option Refusal). MatchOption o (Answers m call (reply.Refused word)) (λ w. reply.Refused word ≡ reply.Refused w)) (sym some) refl

  pub next_done : refusal m call ≡ None → next m call ≡ change m call
  next_done none = ap (λ (o : Option Refusal). if is_none o then change m call else m) none

  pub next_refused : (word : Refusal) → refusal m call ≡ Some word → next m call ≡ m
  next_refused word some = ap (λ (o : Option Refusal). if is_none o then change m call else m) some

module _ {D A : Type 0} {G : Ghosts D} (d : Core D A G) (volume : Volume) (m : Machine) (call : Call) where
  -- a call that is refused leaves the machine
  pub refused_carried : (word : Refusal) → refusal m call ≡ Some word → Runs d volume m → Carried m call d volume (reply.Refused word)
  refused_carried word some r = record { allowed = allowed_refused m call word some; runs = subst (λ (n : Machine). Runs d volume n) (sym (next_refused m call word some)) r }

  -- one that isn't leads to the machine that it changes
  pub done_carried : (r : Reply) → refusal m call ≡ None → Answers m call r → Runs d volume (change m call) → Carried m call d volume r
  done_carried r none answers runs = record { allowed = allowed_done m call r none answers; runs = subst (λ (n : Machine). Runs d volume n) (sym (next_done m call none)) runs }

-- ---- Calls that change the tables alone: what windows show is still shown.

module _ {D A : Type 0} {G : Ghosts D} (c d e : Core D A G) (layout : IsLayout (view_of c.filer).layout) (size : (view_of c.filer).disk.sectors ≡ (view_of c.filer).layout.sectors)
    (form : AreInForm (view_of d.filer).disk) (pages : ArePages (view_of e.filer).slots) (same : e ≡ d) (retabled : Retabled c d) (volume : Volume) (m : Machine) (r : Runs c volume m) (call : Call) where
  pages_then : ArePages (view_of d.filer).slots
  pages_then = subst (λ (x : Core D A G). ArePages (view_of x.filer).slots) same pages

  pub tables_refused : (word : Refusal) → refusal m call ≡ Some word → RevealSpaces (TablesAre (state d)) d.intervals m.spaces → Carried m call e volume (reply.Refused word)
  tables_refused word some reveals =
      subst (λ (x : Core D A G). Carried m call x volume (reply.Refused word)) (sym same)
      (refused_carried d volume m call word some (reshaped_runs c layout size d form pages_then volume m retabled m.spaces reveals r r.session.stands.is.by.machine (λ id page shown. shown)))

  pub tables_done : (answer : Reply) (spaces : List Space) → refusal m call ≡ None → Answers m call answer → change m call ≡ record m { spaces = spaces } → IsMachine (next m call)
      → ((id page : ℕ) → is_shown m.spaces id page ≡ true → is_shown spaces id page ≡ true) → RevealSpaces (TablesAre (state d)) d.intervals spaces → Carried m call e volume answer
  tables_done answer spaces none answers changed is still reveals =
      let machine : IsMachine (record m { spaces = spaces }) = subst IsMachine (next_done m call none ∙ changed) is in
      subst (λ (x : Core D A G). Carried m call x volume answer) (sym same)
      (done_carried d volume m call answer none answers (subst (λ (n : Machine). Runs d volume n) (sym changed) (reshaped_runs c layout size d form pages_then volume m retabled spaces reveals r machine still)))
