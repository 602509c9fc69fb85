-- A table that was given one entry more.
use Rattle.std.specs.Prelude.{◌≡◌, ◌+◌, ℕ, if◌then◌else◌, List, Result, Ok, Err, OnOk, is_ok}
use Rattle.std.proofs.Common.{subst}
use Rattle.record_table.specs.Edits.{IsInserted}
use Rattle.record_table.specs.Table.{RevealsEntries}

pub inserted_at : {X : Type 0} (r : Result (Unit {0}) X) (n m : ℕ) (reveals : List ℕ → Type 0) (xs : List (List ℕ)) (entry : List ℕ) → n ≡ (if is_ok r then m + 1 else m)
    → OnOk r (IsInserted 12 (RevealsEntries 24 reveals n) xs entry) → OnOk r (IsInserted 12 (RevealsEntries 24 reveals (m + 1)) xs entry)
inserted_at (Ok x) n m reveals xs entry count is = subst (λ (k : ℕ). IsInserted 12 (RevealsEntries 24 reveals k) xs entry) count is
inserted_at (Err e) n m reveals xs entry count is = is
