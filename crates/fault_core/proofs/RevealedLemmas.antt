-- What is known of a core before a call is known after it.
use Rattle.std.proofs.Common.{◌≡◌, ◌⊎◌, inl, inr, ℕ, true, List, sym, subst, arith}
use Rattle.std.proofs.lemmas.Bool.Decides.{nat_tests}
use Rattle.labelled_disk.specs.Sectors.{Sector}
use Rattle.file_map.specs.FileMap.{Triples}
use Rattle.flat_machine.specs.declared.space.Space.{Space}
use Rattle.swap_units.specs.declared.interval.Interval.{Interval}
use Rattle.swap_units.specs.Unit.{Holds, has_page}
use Rattle.space_tables.specs.Form.{in_form}
use Rattle.space_tables.specs.SpaceTables.{IsIntervalAt}
use Rattle.space_tables.specs.Stored.{RevealSpaces}
use Rattle.swapper_kernel.specs.Homes.{IsLayout}
use Rattle.fault_core.specs.Kept.{IsKept, IsFormed}
use Rattle.filer_kernel.specs.View.{View, TablesAre}
use Rattle.fault_core.specs.Reach.{Reaches}
use Rattle.fault_core.specs.Revealed.{Revealed, IsIntervalOf}
use Rattle.fault_core.proofs.ReachLemmas.{tables_of, known_after}

-- the tables of these bytes are those that a memory reveals
pub spaces_in : (reveals : List ℕ → Type 0) (count : ℕ) (ss : List Space) (b : List ℕ) → reveals b → RevealSpaces (λ c. c ≡ b) count ss → RevealSpaces reveals count ss
spaces_in reveals count ss b revealed t = record {
  slots = t.slots;
  xs = t.xs;
  hold = record { bytes = t.hold.bytes; revealed = subst reveals (sym t.hold.revealed) revealed; are = t.hold.are };
  right = t.right;
  counted = t.counted;
  spaces = t.spaces;
}

module _ {v : View} {kept : List Interval} {count : ℕ} {m : List Sector} {named : Triples} {ss : List Space} (h : Revealed v kept count m named ss) where
  pub tables_revealed : TablesAre v h.bytes
  tables_revealed = tables_of v m named h.bytes h.known

  pub revealed_after : (w : View) (more : List Interval) → IsLayout v.layout → Reaches v w → ((x : Interval) → IsKept more x → IsKept kept x ⊎ IsIntervalOf ss x) → Revealed w more count m named ss
  revealed_after w more is reaches before = record {
    bytes = h.bytes;
    known = known_after v w m named h.bytes is reaches h.known;
    tables = h.tables;
    cached = λ x one. elim (before x one) [ inl was ↦ h.cached x was | inr of ↦ of ];
    stored = h.stored;
  }

pub interval_of : (ss : List Space) (page : ℕ) (x : Interval) → IsIntervalAt ss page x → IsIntervalOf ss x
interval_of ss page x at = record { xs = at.xs; projection = at.projection; index = at.index; there = at.there }

pub interval_at : (ss : List Space) (page : ℕ) (x : Interval) → IsIntervalOf ss x → Holds x page → IsIntervalAt ss page x
interval_at ss page x of holds = record { xs = of.xs; projection = of.projection; index = of.index; there = of.there; holds = holds }

-- what the tables test of an interval
pub formed_of : (x : Interval) → in_form x ≡ true → IsFormed x
formed_of x is = record {
  some_pages = grind (arith, nat_tests, is);
  in_root = grind (arith, nat_tests, is);
  starts = grind (arith, nat_tests, is);
  unit_fits = (grind (arith, nat_tests, is), grind (arith, nat_tests, is));
  shows = λ mapped. (grind (arith, nat_tests, is, mapped), grind (arith, nat_tests, is, mapped));
}

pub holds_it : (x : Interval) (page : ℕ) → has_page page x ≡ true → Holds x page
holds_it x page is = (grind (arith, nat_tests, is), grind (arith, nat_tests, is))
