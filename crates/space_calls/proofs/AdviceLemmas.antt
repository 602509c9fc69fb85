-- What a session stands for after pages of a space were brought in.
use Rattle.std.proofs.Common.{◌≡◌, ℕ, ◌+◌, ◌/◌, Bool, true, false, List, ◌∷◌, [], Option, Some, None, Result, Ok, Err, refl, sym, ◌∙◌, ap, subst}
use Rattle.std.specs.Prelude.{if◌then◌else◌, is_none}
use Rattle.std.proofs.lemmas.Option.{none-some, same_Some}
use Rattle.flat_machine.specs.declared.call.Call.TheVariants as call
use Rattle.flat_machine.specs.declared.call.Refusal.{Refusal}
use Rattle.flat_machine.specs.declared.space.Space.{Space}
use Rattle.flat_machine.specs.Machine.{Machine}
use Rattle.flat_machine.specs.Next.{next}
use Rattle.flat_machine.specs.Refusal.{refusal, first_of, no_space}
use Rattle.flat_machine.specs.Space.{space_at}
use Rattle.frame_pool.specs.Frames.{Slots}
use Rattle.space_tables.proofs.Asks.{space_is}
use Rattle.swap_units.specs.declared.interval.Interval.{Interval}
use Rattle.labelled_disk.specs.declared.disk.Disk.{Ghosts}
use Rattle.fault_core.specs.declared.core_over.Core.{Core}
use Rattle.fault_core.specs.Activate.{AreBrought, IsActive}
use Rattle.fault_core.specs.Core.{kept, state}
use Rattle.running_words.specs.RunningLaws.{IsWhole}
use Rattle.table_calls.specs.Answers.{Asked, Reveals}
use Rattle.space_calls.proofs.CameLemmas.{Came, came_own}
use Rattle.filer_kernel.specs.View.{accepted}

-- the disk fits the layout
pub whole_core : {D A : Type 0} {G : Ghosts D} (c : Core D A G) → (state c).disk.sectors ≡ (state c).layout.sectors → IsWhole (state c)
whole_core c size = record { layout = (accepted c.filer); size = size }

-- the tables were asked
pub came_asked : {D A : Type 0} {G : Ghosts D} {old new : Core D A G} → Asked old new → Came (state old) (state new) (kept old) (kept new) old.intervals new.intervals
came_asked a = came_own a.reaches a.came a.same a.intervals

-- the pages of the space
abbrev pub IsRangeOf : List Space → ℕ → ℕ × ℕ → Type 0
IsRangeOf ss space run = (s : Space) × (space_at ss space ≡ Some s) × (run ≡ (s.first, s.pages))

-- they refused, or gave it
pub asked_word : (ss : List Space) (space : ℕ) (r : Result (ℕ × ℕ) Refusal) (word : Refusal) → r ≡ Err word → Reveals (no_space ss space) (IsRangeOf ss space) r → no_space ss space ≡ Some word
asked_word ss space r word is revealed = (subst (Reveals (no_space ss space) (IsRangeOf ss space)) is revealed).0

pub asked_range : (ss : List Space) (space : ℕ) (r : Result (ℕ × ℕ) Refusal) (run : ℕ × ℕ) → r ≡ Ok run → Reveals (no_space ss space) (IsRangeOf ss space) r → (no_space ss space ≡ None) × IsRangeOf ss space run
asked_range ss space r run is revealed = subst (Reveals (no_space ss space) (IsRangeOf ss space)) is revealed

-- it changes nothing
pub activate_stays : (m : Machine) (space : ℕ) → m ≡ next m (call.Activate space)
activate_stays m space = either (is_none (refusal m (call.Activate space)))
  where
    either : (b : Bool) → m ≡ (if b then m else m)
    either true = refl
    either false = refl

one_test : (o p : Option Refusal) → o ≡ p → first_of (o ∷ []) ≡ first_of (p ∷ [])
one_test o p is = ap (λ (q : Option Refusal). first_of (q ∷ [])) is

module _ (m : Machine) (space : ℕ) where
  pub activate_there : no_space m.spaces space ≡ None → refusal m (call.Activate space) ≡ None
  activate_there free = one_test _ _ free

  pub activate_refused : (word : Refusal) → no_space m.spaces space ≡ Some word → refusal m (call.Activate space) ≡ Some word
  activate_refused word is = one_test _ _ is

  -- a space that is there is not refused
  pub never_refused : (kept : List Interval) (slots : Slots) (s : Space) (word : Refusal) → space_at m.spaces space ≡ Some s → no_space m.spaces space ≡ Some word → IsActive m.spaces kept slots s.first (s.first + s.pages)
  never_refused kept slots s word there is = absurd (none-some word (sym (space_is m.spaces space s there) ∙ is))

  pub never_brought : (kept : List Interval) (slots : Slots) (most : ℕ) (s : Space) (word : Refusal) → space_at m.spaces space ≡ Some s → no_space m.spaces space ≡ Some word
      → (units : ℕ) × AreBrought m.spaces kept slots s.first (s.first + s.pages) most units
  never_brought kept slots most s word there is = absurd (none-some word (sym (space_is m.spaces space s there) ∙ is))

-- the range that the tables gave is that of the space
pub range_active : (ss : List Space) (kept : List Interval) (slots : Slots) (space : ℕ) (s : Space) (run : ℕ × ℕ) → space_at ss space ≡ Some s → IsRangeOf ss space run
    → IsActive ss kept slots run.0 (run.0 + run.1) → IsActive ss kept slots s.first (s.first + s.pages)
range_active ss kept slots space s run there (t, also, is) active =
    let same : t ≡ s = same_Some t s (sym also ∙ there) in
    subst (λ (u : Space). IsActive ss kept slots u.first (u.first + u.pages)) same (subst (λ (q : ℕ × ℕ). IsActive ss kept slots q.0 (q.0 + q.1)) is active)

pub range_brought : (ss : List Space) (kept : List Interval) (slots : Slots) (space : ℕ) (s : Space) (run : ℕ × ℕ) (frames now units : ℕ) → now ≡ frames → space_at ss space ≡ Some s → IsRangeOf ss space run
    → AreBrought ss kept slots run.0 (run.0 + run.1) (now / 2) units → (n : ℕ) × AreBrought ss kept slots s.first (s.first + s.pages) (frames / 2) n
range_brought ss kept slots space s run frames now units count there (t, also, is) brought =
    let same : t ≡ s = same_Some t s (sym also ∙ there) in
    let at_t = subst (λ (q : ℕ × ℕ). AreBrought ss kept slots q.0 (q.0 + q.1) (now / 2) units) is brought in
    let at_s = subst (λ (u : Space). AreBrought ss kept slots u.first (u.first + u.pages) (now / 2) units) same at_t in
    (units, subst (λ (f : ℕ). AreBrought ss kept slots s.first (s.first + s.pages) (f / 2) units) count at_s)
