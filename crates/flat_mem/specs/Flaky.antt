-- What stands beside the bytes of a memory that may fail.
use Rattle.std.specs.Prelude.{◌≡◌, ℕ, ◌≤◌, List, length}
use Rattle.flat_mem.specs.declared.flaky.FlakyMem.{FlakyMem}

-- its bytes
abbrev pub flaky_bytes : {A : Type 0} → FlakyMem A → List ℕ
flaky_bytes m = m.bytes.items

-- how many accesses it counted
abbrev pub flaky_accesses : {A : Type 0} → FlakyMem A → ℕ
flaky_accesses m = m.accesses

-- as long, with the same period, and with no fewer faults
pub record IsLater {A : Type 0} (a b : FlakyMem A) : Type 0 where
  pub size : length a.bytes.items ≡ length b.bytes.items
  pub period : a.period ≡ b.period
  pub faults : a.faults ≤ b.faults
