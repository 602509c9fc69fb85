-- Which pages a call may report as missing: more of them, and those of the space tables alone.
use Rattle.std.proofs.Common.{ℕ, inl}
use Rattle.labelled_disk.specs.declared.evidence.Evidence.TheVariants.{Mismatch, Malformed, Missing}
use Rattle.labelled_disk.specs.declared.evidence.Halt.{Halt}
use Rattle.labelled_disk.specs.declared.evidence.Halt.TheVariants.{Disk, Damaged}
use Rattle.swapper_kernel.specs.Goes.{Pages}
use Rattle.filer_kernel.specs.Evidence.{MayBeMissing}
use Rattle.fault_core.specs.Lack.{MissesPage}
use Rattle.fault_core.specs.Reach.{FindHalts, ReachHalts, TouchHalts, table_page}
use Rattle.filer_kernel.specs.View.{View}

module _ (breaks : ℕ → Type 0) (v w : View) where
  -- more pages may be missing
  pub finds_wider : (may more : Pages) → ((id page : ℕ) → may id page → more id page) → (e : Halt) → FindHalts breaks may v w e → FindHalts breaks more v w e
  finds_wider may more too Disk h = h
  finds_wider may more too (Damaged (Mismatch sector wanted found)) h = h
  finds_wider may more too (Damaged (Malformed structure page)) h = h
  finds_wider may more too (Damaged (Missing id page)) h = (too id page h.0, h.1)

  -- a call that looks for pages of the space tables alone is one that may look for pages of clients' files as well
  pub touch_of_reach : (e : Halt) → ReachHalts breaks v w e → TouchHalts breaks v w e
  touch_of_reach e h = finds_wider table_page MayBeMissing (λ id page own. inl own) e h

  -- a page that it reports as missing is one of the space tables
  pub reach_misses : (more : Pages) (e : Halt) → ReachHalts breaks v w e → MissesPage more e
  reach_misses more Disk h = tt
  reach_misses more (Damaged (Mismatch sector wanted found)) h = tt
  reach_misses more (Damaged (Malformed structure page)) h = tt
  reach_misses more (Damaged (Missing id page)) h = inl h.0.0
