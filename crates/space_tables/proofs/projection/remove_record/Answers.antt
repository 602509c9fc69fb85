use Rattle.std.proofs.Common.{rules, ◌≡◌, ℕ, ◌+◌, ◌*◌, ◌-◌, ◌<◌, ◌≤◌, ◌∙◌, ap, List, length, map, is_ok, if◌then◌else◌, OnOk, MutBor, arith, refl}
use Rattle.std.specs.List.{insert, remove}
use Rattle.flat_mem.specs.Memory.{part}
use Rattle.record_table.specs.Table.{entries, pages_of}
use Rattle.projection_laws.specs.Stored.{bytes_of}
use Rattle.space_tables.specs.Stored.{HoldTables}
use Rattle.space_tables.proofs.InPart.{lent, counted, counted_down, lent_error}
use Rattle.space_tables.proofs.Entries.{entries_are, tables_moved, revealed_whole, map_remove}
use Rattle.space_tables.proofs.projection.remove_record.Goals as goal
use Rattle.std.proofs.lemmas.Nat.{mul-le}
use Rattle.std.proofs.lemmas.Result.{on_ok_weaker}
use Rattle.record_table.specs.Edits.{IsRemoved}

pub returns-clause-removed : goal.returns-clause-removed
returns-clause-removed g c = λ slots xs h same.
    let n = c.args.count in
    let w = h.bytes in
    let over = c.over-table.result in
    let table = c.remove.new.self in
    let first : over.mem.first ≡ 32 = rw c.over-table.ensures.memory c.of.ensures.first_is in
    let pages : over.mem.pages ≡ 64 = rw c.over-table.ensures.memory c.of.ensures.pages_is in
    let before : g.M.FlatMem.reveals over.mem.mem.now w = rw (c.over-table.ensures.memory, c.of.ensures.mem_is) h.revealed in
    let within : 512 * 32 + 512 * 64 ≤ length w = omega (arith, c.requires.size, g.met.M.FlatMem.revealed_length c.args.mem.now w h.revealed) in
    let old = entries_are w slots xs n h.are same (omega (arith, c.requires.few)) in
    let listed = on_ok_weaker c.remove.result (λ (i : IsRemoved 4 _ (entries 32 (part w 16384 32768) n) c.args.at). i.listed) (c.remove.ensures.removed (entries 32 (part w 16384 32768) n) record {
      bytes = part w (512 * 32) (512 * 64);
      revealed = record { whole = w; revealed = before; inside = rw (first, pages) within; is = rw (first, pages) refl };
      are = rw c.over-table.ensures.count refl;
    }) in
    let count : table.count ≡ (if is_ok c.remove.result then n - 1 else n) = rw (← c.over-table.ensures.count) c.remove.ensures.count in
    let moved : remove (entries 32 (part w 16384 32768) n) c.args.at ≡ map bytes_of (remove xs c.args.at) = rw old (map_remove xs c.args.at (omega (arith, c.requires.order, same))) in
    lent (λ (m : g.row.M.Denot). OnOk c.remove.result (HoldTables (g.M.FlatMem.reveals m) slots (remove xs c.args.at))) _ table.mem.mem.now (search rules)
    (counted_down c.remove.result n table.count _ _ count
    (λ more done.
    let whole = revealed_whole (λ (m : MutBor g.row.M.Denot) (b : List ℕ). g.M.FlatMem.reveals m.now b) _ (λ m w v. g.met.M.FlatMem.revealed_once m.now w v) over.mem table.mem table.count w (remove (entries 32 (part w 16384 32768) n) c.args.at)
    first pages c.remove.ensures.kept before done in
    record {
      bytes = whole.0;
      revealed = whole.1;
      are = tables_moved w whole.0 slots xs (remove xs c.args.at) table.count h.are whole.2 (whole.3 ∙ moved) (omega (arith, more, c.requires.few));
    })
    listed)

few_pages : (n : ℕ) → n ≤ 1023 → pages_of 32 n ≤ 64
few_pages n few = omega (arith, few)

times : (p k s t : ℕ) → p ≤ 64 → s ≤ t + 2 * p * k → s ≤ t + 128 * k
times p k s t h l = let m = mul-le (2 * p) k 128 k (omega (arith, h)) (omega arith) in omega (arith, m, l)

pub returns-clause-cost : goal.returns-clause-cost
returns-clause-cost g c =
    lent (λ (m : g.row.M.Denot). g.M.FlatMem.spent m ≤ g.M.FlatMem.spent c.args.mem.now + 128 * g.M.FlatMem.cost) _ c.remove.new.self.mem.mem.now (search rules)
    (times (pages_of 32 c.args.count) g.M.FlatMem.cost _ _ (few_pages c.args.count (omega (arith, c.requires.few))) (rw (c.over-table.ensures.memory, c.over-table.ensures.count, c.of.ensures.mem_is) at c.remove.ensures.cost))

pub returns-clause-kept : goal.returns-clause-kept
returns-clause-kept g c =
    lent (λ (m : g.row.M.Denot). g.M.FlatMem.beside c.args.mem.now m) _ c.remove.new.self.mem.mem.now (search rules) (rw (c.over-table.ensures.memory, c.of.ensures.mem_is) at c.remove.ensures.kept.mem.1)
