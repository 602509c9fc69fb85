-- Bytes of pages in a row that are at hand.
use Rattle.std.proofs.Common.{◌≡◌, ◌∙◌, inl, inr, ℕ, zero, suc, ◌+◌, ◌-◌, ◌*◌, ◌/◌, ◌%◌, ◌^◌, ◌<◌, ◌≤◌, true, false, List, [], ◌∷◌, Some, refl, sym, subst, arith}
use Rattle.std.specs.Prelude.{slice_get, take, drop}
use Rattle.std.proofs.lemmas.Bool.{cases_lt, true≢false}
use Rattle.std.proofs.lemmas.Option.{none-some}
use Rattle.labelled_disk.specs.Sectors.{Sector}
use Rattle.file_map.specs.FileMap.{Triples}
use Rattle.flat_mem.specs.Memory.{part}
use Rattle.frame_pool.specs.Frames.{Slots}
use Rattle.flat_machine.specs.declared.space.Space.{Space}
use Rattle.swap_units.specs.declared.interval.Interval.{Interval}
use Rattle.swap_units.specs.Mode.{is_mapped}
use Rattle.swap_units.specs.Unit.{Holds}
use Rattle.fault_core.specs.Kept.{IsFormed, IsKept}
use Rattle.fault_core.specs.Moves.{AreSeen, HasBytes, Loads}
use Rattle.fault_core.specs.Ready.{AreHere, AreLoaded, IsAtHand}
use Rattle.fault_core.specs.Unit.{AreResident, InUnit, IsUnitRun, IsWhole, file_page}
use Rattle.fault_core.proofs.PieceLemmas.{loads_first, one_loaded}
use Rattle.fault_core.proofs.PutLemmas.{get_drop, get_take}
use Rattle.fault_core.proofs.UnitLemmas.{own_unit, whole_of_run}

-- ---- One byte of a page.

one_of : (xs : List ℕ) (j b : ℕ) → slice_get xs j ≡ Some b → b ∷ [] ≡ take 1 (drop j xs)
one_of [] zero b got = absurd (none-some b got)
one_of [] (suc j) b got = absurd (none-some b got)
one_of (x ∷ xs) zero b got = cc got
one_of (x ∷ xs) (suc j) b got = one_of xs j b got

-- a byte of a part of a page
pub byte_of_part : (bytes : List ℕ) (from n j b : ℕ) → j < n → slice_get (part bytes from n) j ≡ Some b → b ∷ [] ≡ part bytes (from + j) 1
byte_of_part bytes from n j b below got =
    one_of bytes (from + j) b (get_drop from bytes (from + j) j refl ∙ (sym (get_take n (drop from bytes) j below) ∙ got))

-- ---- Pages of a unit that is resident.

module _ (x : Interval) (page : ℕ) (run : ℕ × ℕ) (unit : IsUnitRun x page run) (holds : Holds x page) (address count left : ℕ) (at : address / 512 ≡ page)
    (is : left + address % 512 ≡ (run.0 + run.1 - file_page x page) * 512) (few : count ≤ left) where
  -- those of a resident unit, as far as it goes
  pub here_of : (slots : Slots) → AreResident slots x.id run.0 run.1 → AreHere slots x address count
  here_of slots there p low high =
      let own = unit.all page (own_unit x page holds) in
      let j = (file_page x page - run.0) + (p - page) in
      let below : j < run.1 = omega (arith, own.1, own.2, low, high, at, is, few) in
      let each = unit.each j below in
      let same : each.0 ≡ p = omega (arith, each.2, each.1.0, own.2, holds, low, at) in
      let in_unit : InUnit x page p = subst (λ (q : ℕ). InUnit x page q) same each.1 in
      (in_unit.0, λ other of. whole_of_run unit slots there other (of.0, of.1 ∙ in_unit.1))

  -- they end where the memory ends, or before
  pub ends_below : IsFormed x → address + count ≤ 2 ^ 32
  ends_below formed =
      let own = unit.all page (own_unit x page holds) in
      let some = unit.some in
      let last = unit.each (run.1 - 1) (omega (arith, some)) in
      let root : x.first + x.pages ≤ 8126464 = formed.in_root in
      omega (arith, own.1, own.2, last.1.0, last.2, root, holds, at, is, few, some)

module _ (slots : Slots) (x : Interval) (address count : ℕ) (here : AreHere slots x address count) where
  pub byte_here : (k : ℕ) → k < count → Holds x ((address + k) / 512) × IsWhole slots x ((address + k) / 512)
  byte_here k below = here ((address + k) / 512) (omega arith) (omega (arith, below))

  -- each byte is at hand
  pub byte_hand : (kept : List Interval) → IsKept kept x → IsFormed x → is_mapped x.mode ≡ true → (k : ℕ) → k < count → (slot : ℕ) × IsAtHand kept slots false (address + k) 1 slot
  byte_hand kept is_kept formed mapped k below =
      let at = byte_here k below in
      let there = at.1 ((address + k) / 512) (own_unit x ((address + k) / 512) at.0) in (
        there.0,
        record {
          interval = x;
          is_kept = is_kept;
          shows = record { formed = formed; holds = at.0; mapped = mapped };
          allowed = λ writes. absurd (true≢false (sym writes));
          whole = at.1;
          has = there.1;
          inside = omega arith;
        },
      )

-- ---- Loads.

-- where all were loaded
pub all_loaded : (ss : List Space) (m : List Sector) (address done count : ℕ) (bytes : List ℕ) → count ≤ done → AreLoaded ss address done bytes m → AreLoaded ss address count bytes m
all_loaded ss m address done count bytes all had k b below got = had k b (omega (arith, all, below)) got

module _ (ss : List Space) (named : Triples) (m : List Sector) where
  -- a byte of the page that is shown at an address, so many bytes after it
  pub byte_loads : (x : Interval) → AreSeen ss named m x → (at j b : ℕ) → Holds x (at / 512) → at % 512 + j < 512 → HasBytes x.id (file_page x (at / 512)) (at % 512 + j) (b ∷ []) m → Loads ss (at + j) (b ∷ []) m
  byte_loads x seen at j b holds inside has =
      let page : (at + j) / 512 ≡ at / 512 = omega (arith, inside) in
      let off : (at + j) % 512 ≡ at % 512 + j = omega (arith, inside) in
      one_loaded ss named m (at + j) (b ∷ []) (omega arith) (loads_first ss named m (at + j) x (b ∷ []) seen (rw page holds) (rw (page, off) has))

  -- the bytes of one page after others
  pub loaded_then : (address done n : ℕ) (old new : List ℕ) → AreLoaded ss address done old m → ((k : ℕ) → k < done → slice_get new k ≡ slice_get old k)
      → ((j b : ℕ) → j < n → slice_get new (done + j) ≡ Some b → Loads ss ((address + done) + j) (b ∷ []) m) → AreLoaded ss address (done + n) new m
  loaded_then address done n old new had other piece k b below got = elim (cases_lt k done) [
    | inl early ↦ had k b early (sym (other k early) ∙ got)
    | inr late ↦
        let j = k - done in
        let at : k ≡ done + j = omega (arith, late) in
        let there : (address + done) + j ≡ address + k = omega (arith, late) in
        subst (λ (a : ℕ). Loads ss a (b ∷ []) m) there (piece j b (omega (arith, below, late)) (subst (λ (i : ℕ). slice_get new i ≡ Some b) at got))
  ]
