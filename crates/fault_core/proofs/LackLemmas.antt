-- Which page of a client's file was found to have no sector.
use Rattle.std.proofs.Common.{◌≡◌, ◌⊎◌, true, inl, inr, ℕ, ◌+◌, ◌-◌, ◌<◌, List, sym, ◌∙◌, arith}
use Rattle.labelled_disk.specs.declared.evidence.Evidence.TheVariants.{Mismatch, Malformed, Missing}
use Rattle.labelled_disk.specs.declared.evidence.Halt.{Halt}
use Rattle.labelled_disk.specs.declared.evidence.Halt.TheVariants.{Disk, Damaged}
use Rattle.labelled_disk.specs.State.{DiskState}
use Rattle.frame_pool.specs.Frames.{Slots}
use Rattle.flat_machine.specs.declared.space.Space.{Space}
use Rattle.swap_units.specs.declared.interval.Interval.{Interval}
use Rattle.swap_units.specs.Mode.{is_mapped}
use Rattle.swapper_kernel.specs.Goes.{Pages}
use Rattle.swapper_kernel.specs.Halts.{Halts}
use Rattle.swapper_kernel.specs.Homes.{Homes}
use Rattle.space_tables.specs.SpaceTables.{IsIntervalAt}
use Rattle.fault_core.specs.Access.{Shows}
use Rattle.fault_core.specs.Kept.{IsKept}
use Rattle.fault_core.specs.Lack.{MissesPage, Sees, run_pages, shown_unit, unit_pages}
use Rattle.fault_core.specs.Reach.{Reaches}
use Rattle.fault_core.specs.Revealed.{IsIntervalOf}
use Rattle.fault_core.specs.Unit.{IsUnitRun}
use Rattle.filer_kernel.specs.View.{View}
use Rattle.fault_core.proofs.ShowLemmas.{shown_is}
use Rattle.fault_core.proofs.RevealedLemmas.{interval_at}

pub misses_wider : (pages more : Pages) → ((id page : ℕ) → pages id page → more id page) → (e : Halt) → MissesPage pages e → MissesPage more e
misses_wider pages more too Disk h = tt
misses_wider pages more too (Damaged (Mismatch sector wanted found)) h = tt
misses_wider pages more too (Damaged (Malformed structure broken)) h = tt
misses_wider pages more too (Damaged (Missing id page)) h = elim h [ inl three ↦ inl three | inr one ↦ inr (too id page one) ]

-- ---- What is asked below.

pub brought_misses : (come : Homes) (old : DiskState) (before : Slots) (new : DiskState) (more : Pages) (e : Halt) → Halts come old before new e → MissesPage more e
brought_misses come old before new more Disk h = tt
brought_misses come old before new more (Damaged (Mismatch sector wanted found)) h = tt
brought_misses come old before new more (Damaged (Malformed structure broken)) h = absurd h
brought_misses come old before new more (Damaged (Missing id page)) h = absurd h

-- ---- A swap unit.

-- its run of pages
pub run_unit : (x : Interval) (page : ℕ) (run : ℕ × ℕ) → IsUnitRun x page run → (id number : ℕ) → run_pages x.id run.0 run.1 id number → unit_pages x page id number
run_unit x page run h id number (same, from, below) =
    let j = number - run.0 in
    let under : j < run.1 = omega (arith, from, below) in
    let own = h.each j under in
    let back : run.0 + j ≡ number = omega (arith, from) in
    (own.0, own.1, same, sym back ∙ sym own.2)

-- by the interval of the projection
module _ {v : View} {kept : List Interval} {count : ℕ} {ss : List Space} (s : Sees v kept count ss) where
  pub seen_at : (x : Interval) (page : ℕ) → IsKept kept x → Shows x page → IsIntervalAt ss page x
  seen_at x page one shows = interval_at ss page x (s.cached x one) shows.holds

  pub unit_shown : (x : Interval) (page : ℕ) → IsIntervalAt ss page x → is_mapped x.mode ≡ true → (id number : ℕ) → unit_pages x page id number → shown_unit ss page id number
  unit_shown x page at mapped id number (other, own, same_id, same_page) =
      let of : IsIntervalOf ss x = record { xs = at.xs; projection = at.projection; index = at.index; there = at.there } in
      (x, at, (other, own, rw (same_id, same_page) (shown_is s.tables x of other own.0 mapped)))

  pub sees_after : (w : View) (more : List Interval) → Reaches v w → ((x : Interval) → IsKept more x → IsKept kept x ⊎ IsIntervalOf ss x) → Sees w more count ss
  sees_after w more h before = record {
    bytes = s.bytes;
    revealed = h.revealed s.bytes s.revealed;
    tables = s.tables;
    cached = λ x one. elim (before x one) [ inl was ↦ s.cached x was | inr of ↦ of ];
  }
