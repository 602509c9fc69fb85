-- Writes in a row, one row after the other, and a stop among them.
use Rattle.std.proofs.Common.{◌≡◌, ℕ, zero, suc, ◌≤◌, List, [], ◌∷◌, ◌++◌, length, take, Option, Some, None, refl, sym, ◌∙◌, ap, arith, append_assoc, ◌+◌}
use Rattle.std.specs.Prelude.{option_map}
use Rattle.std.proofs.Math.Seq.{take-append-add}
use Rattle.std.proofs.lemmas.List.{take_all}
use Rattle.std.proofs.lemmas.List.Sums.{fold-append}
use Rattle.labelled_disk.specs.declared.disk.DiskWrite.{DiskWrite}
use Rattle.labelled_disk.specs.Calls.{RevealsSame, RevealsWrite}
use Rattle.labelled_disk.specs.CrashState.{written, crash_state}
use Rattle.labelled_disk.specs.Sectors.{Sector}
use Rattle.labelled_disk.specs.State.{DiskState}
use Rattle.labelled_disk.specs.WriteRuns.{after_writes, Appended}

option_map_itself : {X : Type 0} (f : X → X) (o : Option X) → ((x : X) → f x ≡ x) → o ≡ option_map f o
option_map_itself f None same = refl
option_map_itself f (Some x) same = ap (λ (z : _). Some z) (sym (same x))

option_map_twice : {X : Type 0} (f g h : X → X) (o : Option X) → ((x : X) → f (g x) ≡ h x) → option_map f (option_map g o) ≡ option_map h o
option_map_twice f g h None same = refl
option_map_twice f g h (Some x) same = ap (λ (z : _). Some z) (same x)

append_nil : {X : Type 0} (xs : List X) → xs ++ [] ≡ xs
append_nil [] = refl
append_nil (x ∷ xs) = ap (λ (l : _). x ∷ l) (append_nil xs)

-- one row and then another are one row
pub after_writes-append : (first next : List DiskWrite) (d : List Sector) → after_writes next (after_writes first d) ≡ after_writes (first ++ next) d
after_writes-append first next d = sym (fold-append (λ (now : List Sector) (w : DiskWrite). written w now) d first next)

-- the last crash state is after all writes
pub crash_state-end : (d : List Sector) (writes : List DiskWrite) → crash_state d writes (length writes) ≡ after_writes writes d
crash_state-end d writes = ap (λ (l : List DiskWrite). after_writes l d) (take_all (length writes) writes (omega arith))

take-append : {X : Type 0} (k : ℕ) (xs ys : List X) → k ≤ length xs → take k (xs ++ ys) ≡ take k xs
take-append zero xs ys few = refl
take-append (suc k) [] ys few = absurd (omega arith)
take-append (suc k) (x ∷ xs) ys few = ap (λ (l : _). x ∷ l) (take-append k xs ys (omega arith))

-- later writes change no earlier crash state
pub crash_state-earlier : (d : List Sector) (first next : List DiskWrite) (k : ℕ) → k ≤ length first → crash_state d (first ++ next) k ≡ crash_state d first k
crash_state-earlier d first next k few = ap (λ (l : List DiskWrite). after_writes l d) (take-append k first next few)

-- later crash states begin where the earlier writes end
pub crash_state-later : (d : List Sector) (first next : List DiskWrite) (j : ℕ) → crash_state d (first ++ next) (length first + j) ≡ crash_state (after_writes first d) next j
crash_state-later d first next j = ap (λ (ws : List DiskWrite). after_writes ws d) (take-append-add first next j) ∙ sym (after_writes-append first (take j next) d)

-- no write
pub appended_none : {a b : DiskState} → RevealsSame a b → Appended [] a b
appended_none same = record {
  contents = same.contents ∙ option_map_itself (after_writes []) _ (λ d. refl);
  revealed = same.writes ∙ option_map_itself (λ (earlier : List DiskWrite). earlier ++ []) _ (λ l. append_nil l);
}

-- one write
pub appended_one : {a b : DiskState} (write : DiskWrite) → RevealsWrite write a b → Appended (write ∷ []) a b
appended_one write made = record { contents = made.contents; revealed = made.writes }

-- one row and then another
pub appended_then : {a b c : DiskState} (first next : List DiskWrite) → Appended first a b → Appended next b c → Appended (first ++ next) a c
appended_then first next one more = record {
  contents = more.contents ∙ ap (option_map (after_writes next)) one.contents
      ∙ option_map_twice (after_writes next) (after_writes first) (after_writes (first ++ next)) _ (after_writes-append first next);
  revealed = more.revealed ∙ ap (option_map (λ (earlier : List DiskWrite). earlier ++ next)) one.revealed
      ∙ option_map_twice (λ (l : List DiskWrite). l ++ next) (λ (l : List DiskWrite). l ++ first) (λ (l : List DiskWrite). l ++ (first ++ next)) _ (λ l. append_assoc l first next);
}

-- calls that wrote nothing add nothing
pub appended_no_more : {a b c : DiskState} (writes : List DiskWrite) → Appended writes a b → RevealsSame b c → Appended writes a c
appended_no_more writes so_far same = record { contents = same.contents ∙ so_far.contents; revealed = same.writes ∙ so_far.revealed }
