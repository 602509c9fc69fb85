-- Pages of records, one after another.
use Rattle.std.proofs.Common.{◌≡◌, ◌⊎◌, inl, inr, ℕ, ◌+◌, ◌-◌, ◌*◌, ◌/◌, ◌<◌, ◌≤◌, arith}
use Rattle.space_tables.proofs.Passes.{paid_more}

-- the next page has the next index, unless that is the end
pub goes_on : (end number last : ℕ) → (last ≡ end) ⊎ (last ≡ 16 * number + 16) → last < end → last / 16 ≡ number + 1
goes_on end number last (inl is) below = absurd (omega (arith, is, below))
goes_on end number last (inr is) below = omega (arith, is)

-- the page has some index
pub some_more : (end number last index : ℕ) → (last ≡ end) ⊎ (last ≡ 16 * number + 16) → index < end → index / 16 ≡ number → index < last
some_more end number last index (inl is) below page = omega (arith, is, below)
some_more end number last index (inr is) below page = omega (arith, is, page)

-- one page more is paid
pub page_paid : (number low k t s u : ℕ) → low ≤ number → s ≤ t + (number - low) * k → u ≤ s + k → u ≤ t + (number + 1 - low) * k
page_paid number low k t s u above cost step = let same : number + 1 - low ≡ number - low + 1 = omega (arith, above) in rw same (paid_more (number - low) k t s u cost step)
