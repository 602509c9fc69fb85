-- What the tables revealed of a space, and what they refused.
use Rattle.std.proofs.Common.{◌≡◌, ℕ, List, Some, None, Result, Ok, Err, subst}
use Rattle.flat_machine.specs.declared.call.Refusal.{Refusal}
use Rattle.flat_machine.specs.declared.space.Space.{Space}
use Rattle.flat_machine.specs.Refusal.{first_of}
use Rattle.flat_machine.specs.Space.{space_at}
use Rattle.projection_laws.specs.Tests.{map_row, no_space, window_row}
use Rattle.space_tables.specs.declared.shown.Shown.{Shown}
use Rattle.space_tables.specs.Shows.{window_of}
use Rattle.table_calls.specs.Answers.{IsDone, Reveals}
use Rattle.space_calls.proofs.CarryLemmas.{answered, declined}

-- first page and pages of the space of that handle
abbrev pub IsRunOf : List Space → ℕ → ℕ × ℕ → Type 0
IsRunOf ss handle run = (s : Space) × (space_at ss handle ≡ Some s) × (run ≡ (s.first, s.pages))

-- what it shows
abbrev pub IsShownBy : List Space → ℕ → Shown → Type 0
IsShownBy ss handle shown = (s : Space) × (space_at ss handle ≡ Some s) × (s.window ≡ Some (window_of shown))

module _ (ss : List Space) (handle : ℕ) where
  module _ (o : Result (ℕ × ℕ) Refusal) where
    pub bounds_revealed : (run : ℕ × ℕ) → o ≡ Ok run → Reveals (no_space ss handle) (IsRunOf ss handle) o → (no_space ss handle ≡ None) × IsRunOf ss handle run
    bounds_revealed run is revealed = answered (no_space ss handle) (IsRunOf ss handle) (Unit {0}) o run is revealed

    pub bounds_refused : (word : Refusal) → o ≡ Err word → Reveals (no_space ss handle) (IsRunOf ss handle) o → no_space ss handle ≡ Some word
    bounds_refused word is revealed = (declined (no_space ss handle) (IsRunOf ss handle) (Unit {0}) o word is revealed).0

    pub map_revealed : (run : ℕ × ℕ) → o ≡ Ok run → Reveals (first_of (map_row ss handle)) (IsRunOf ss handle) o → (first_of (map_row ss handle) ≡ None) × IsRunOf ss handle run
    map_revealed run is revealed = answered (first_of (map_row ss handle)) (IsRunOf ss handle) (Unit {0}) o run is revealed

    pub map_refused : (word : Refusal) → o ≡ Err word → Reveals (first_of (map_row ss handle)) (IsRunOf ss handle) o → first_of (map_row ss handle) ≡ Some word
    map_refused word is revealed = (declined (first_of (map_row ss handle)) (IsRunOf ss handle) (Unit {0}) o word is revealed).0

  module _ (o : Result Shown Refusal) where
    pub shown_revealed : (shown : Shown) → o ≡ Ok shown → Reveals (first_of (window_row ss handle)) (IsShownBy ss handle) o → (first_of (window_row ss handle) ≡ None) × IsShownBy ss handle shown
    shown_revealed shown is revealed = answered (first_of (window_row ss handle)) (IsShownBy ss handle) (Unit {0}) o shown is revealed

    pub shown_refused : (word : Refusal) → o ≡ Err word → Reveals (first_of (window_row ss handle)) (IsShownBy ss handle) o → first_of (window_row ss handle) ≡ Some word
    shown_refused word is revealed = (declined (first_of (window_row ss handle)) (IsShownBy ss handle) (Unit {0}) o word is revealed).0

-- ---- A window that was set.

pub was_done : (P : Type 0) (o : Result Unit Refusal) → o ≡ Ok tt → IsDone P o → P
was_done P o is done = subst (λ (o : Result Unit Refusal). IsDone P o) is done

pub not_refused : (P : Type 0) (o : Result Unit Refusal) (word : Refusal) → o ≡ Err word → IsDone P o → ⊥
not_refused P o word is done = subst (λ (o : Result Unit Refusal). IsDone P o) is done
