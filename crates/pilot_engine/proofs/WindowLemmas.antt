-- Which windows are seen after calls in a row, and which pages a call makes dirty.
use Rattle.std.proofs.Common.{◌≡◌, ◌⊎◌, inl, inr, ℕ, List, Result, Ok, Err}
use Rattle.std.specs.Prelude.{IfOk, MatchResult, OnOk}
use Rattle.labelled_disk.specs.declared.disk.Disk.{Ghosts}
use Rattle.labelled_disk.specs.declared.evidence.Halt.{Halt}
use Rattle.flat_machine.specs.declared.call.Reply.{Reply}
use Rattle.flat_machine.specs.declared.call.Reply.TheVariants.{Done}
use Rattle.flat_machine.specs.declared.space.Space.{Space}
use Rattle.swapper_kernel.specs.Goes.{Pages}
use Rattle.fault_core.specs.Core.{kept, state}
use Rattle.fault_core.specs.Lack.{Sees}
use Rattle.fault_core.specs.declared.core_over.Core.{Core}
use Rattle.space_calls.specs.FilesLaws.{on_wider, shown_or}
use Rattle.space_calls.specs.Mapping.{IsLastFrom}
use Rattle.space_calls.specs.Sees.{IsShown, SeesFiles, StillOn, StillOnOr, StillSees}

module _ {D A : Type 0} {G : Ghosts D} where
  -- ---- Calls in a row.

  -- a call that keeps the spaces that are seen, after one that does
  pub still_then : {X : Type 0} (r : Result X Halt) (a b c : Core D A G) → StillSees a b → OnOk r (StillSees b c) → OnOk r (StillSees a c)
  still_then (Ok x) a b c first next = λ ss s. next ss (first ss s)
  still_then (Err e) a b c first next = tt

  -- and after one that takes windows away
  pub on_then : (a b c : Core D A G) → StillOn a b → StillSees b c → StillOn a c
  on_then a b c first next = λ ss s. let mid = first ss s in (mid.0, (next mid.0 mid.1.0, mid.1.1))

  -- ---- One call.

  wider : (more : Pages) (core : Core D A G) (ss : List Space) → SeesFiles (IsShown ss) core → SeesFiles (λ id page. IsShown ss id page ⊎ more id page) core
  wider more core ss (now, (sees, on)) = (now, (sees, on_wider (IsShown ss) (λ id page. IsShown ss id page ⊎ more id page) (λ id page one. inl one) now on))

  -- what is shown was shown before, or is some more
  pub on_or_more : {X : Type 0} (more : List Space → Pages) (r : Result X Halt) (a b : Core D A G) → OnOk r (StillOn a b) → OnOk r (StillOnOr more a b)
  on_or_more more (Ok x) a b still = λ ss s. wider (more ss) b ss (still ss s)
  on_or_more more (Err e) a b still = tt

  -- so it is where the same spaces are seen
  pub sees_or : (more : List Space → Pages) (a b : Core D A G) → StillSees a b → StillOnOr more a b
  sees_or more a b still = λ ss s. (ss, (still ss s, shown_or (more ss) ss))

  pub sees_or_more : {X : Type 0} (more : List Space → Pages) (r : Result X Halt) (a b : Core D A G) → OnOk r (StillSees a b) → OnOk r (StillOnOr more a b)
  sees_or_more more (Ok x) a b still = sees_or more a b still
  sees_or_more more (Err e) a b still = tt

  more_wider : (some more : List Space → Pages) (a b : Core D A G) → ((ss : List Space) (id page : ℕ) → some ss id page → more ss id page) → StillOnOr some a b → StillOnOr more a b
  more_wider some more a b too still = λ ss s.
      let later = still ss s in (
        later.0,
        (
          later.1.0,
          on_wider (λ id page. IsShown ss id page ⊎ some ss id page) (λ id page. IsShown ss id page ⊎ more ss id page)
              (λ id page one. elim one [ inl was ↦ inl was | inr new ↦ inr (too ss id page new) ]) later.0 later.1.1,
        ),
      )

  -- where a space shows a file from a page on, pages of it
  pub map_or_more : (more : List Space → Pages) (space id page : ℕ) (r : Result Reply Halt) (a b : Core D A G)
      → IfOk r (λ reply. StillOnOr (λ ss file last. (reply ≡ Done) × (file ≡ id) × IsLastFrom ss space page last) a b)
      → ((ss : List Space) (file last : ℕ) → file ≡ id → more ss file last) → OnOk r (StillOnOr more a b)
  map_or_more more space id page (Ok reply) a b still are = more_wider (λ ss file last. (reply ≡ Done) × (file ≡ id) × IsLastFrom ss space page last) more a b (λ ss file last one. are ss file last one.1) still
  map_or_more more space id page (Err e) a b still are = tt

  -- what holds for each list of spaces where the call goes on
  pub ok_for_each : {X : Type 0} (more : List Space → Pages) (r : Result X Halt) (a b : Core D A G)
      → ((ss : List Space) → Sees (state a) (kept a) a.intervals ss → OnOk r (SeesFiles (λ id page. IsShown ss id page ⊎ more ss id page) b)) → OnOk r (StillOnOr more a b)
  ok_for_each more (Ok x) a b each = each
  ok_for_each more (Err e) a b each = tt

  pub if_ok : {X : Type 0} (r : Result X Halt) (a b : Core D A G) (stops : Halt → Type 0) → MatchResult r (λ x. StillSees a b) stops → OnOk r (StillSees a b)
  if_ok (Ok x) a b stops still = still
  if_ok (Err e) a b stops stopped = tt
