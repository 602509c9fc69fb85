-- What the tables answer of a filer that was lent.
use Rattle.std.proofs.Common.{◌≡◌, ℕ, ◌≤◌, true, Result, Ok, Err, Option, Some, None}
use Rattle.std.specs.Prelude.{IfOk, IfSome}
use Rattle.labelled_disk.specs.State.{DiskState}
use Rattle.swap_units.specs.declared.interval.Interval.{Interval}
use Rattle.swap_units.specs.Unit.{Holds, has_page}
use Rattle.space_tables.specs.Form.{in_form}
use Rattle.fault_core.specs.Kept.{IsFormed}
use Rattle.fault_core.proofs.RevealedLemmas.{formed_of, holds_it}

-- what holds of a filer that was lent holds of the one that came back
pub lent : {W X Y Z : Type 0} (P : W → X → Y → Z → Type 0) (v w : W) (a b : X) (s t : Y) (x y : Z) → v ≡ w → a ≡ b → s ≡ t → x ≡ y → P w b t y → P v a s x
lent P v w a b s t x y disk slots layout runs h = rw (disk, slots, layout, runs) h

pub at_most : {D : Type 0} (state : D → DiskState) (u v : D) (n : ℕ) → u ≡ v → (state v).transfers ≤ n → (state u).transfers ≤ n
at_most state u v n same h = rw same h

pub formed_found : {E : Type 0} (r : Result (Option Interval) E) (page : ℕ) → IfOk r (λ o. IfSome o (λ x. (in_form x ≡ true) × (has_page page x ≡ true))) → IfOk r (λ o. IfSome o (λ x. IsFormed x × Holds x page))
formed_found (Ok (Some x)) page is = (formed_of x is.0, holds_it x page is.1)
formed_found (Ok None) page is = tt
formed_found (Err e) page is = tt
