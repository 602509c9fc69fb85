use Rattle.std.proofs.Common.{rules, ◌≡◌, ℕ, ◌+◌, ◌*◌, ◌-◌, ◌<◌, ◌≤◌, ◌∙◌, ap, List, length, map, is_ok, if◌then◌else◌, OnOk, MutBor, arith, refl}
use Rattle.std.specs.List.{insert, remove}
use Rattle.flat_mem.specs.Memory.{part}
use Rattle.record_table.specs.Table.{entries, pages_of}
use Rattle.projection_laws.specs.Stored.{bytes_of}
use Rattle.space_tables.specs.Stored.{HoldTables}
use Rattle.space_tables.proofs.InPart.{lent, counted, counted_down, lent_error}
use Rattle.space_tables.proofs.Entries.{entries_are, tables_moved, revealed_whole, map_insert}
use Rattle.space_tables.proofs.projection.insert_record.Goals as goal
use Rattle.std.proofs.lemmas.Nat.{mul-le}

pub returns-clause-inserted : goal.returns-clause-inserted
returns-clause-inserted g c = λ slots xs x h same is.
    let n = c.args.count in
    let w = h.bytes in
    let over = c.over-table.result in
    let table = c.insert_at.new.self in
    let first : over.mem.first ≡ 32 = rw c.over-table.ensures.memory c.of.ensures.first_is in
    let pages : over.mem.pages ≡ 64 = rw c.over-table.ensures.memory c.of.ensures.pages_is in
    let before : g.M.FlatMem.reveals over.mem.mem.now w = rw (c.over-table.ensures.memory, c.of.ensures.mem_is) h.revealed in
    let within : 512 * 32 + 512 * 64 ≤ length w = omega (arith, c.requires.size, g.met.M.FlatMem.revealed_length c.args.mem.now w h.revealed) in
    let old = entries_are w slots xs n h.are same (omega (arith, c.requires.few)) in
    let listed = c.insert_at.ensures.inserted (entries 32 (part w 16384 32768) n) record {
      bytes = part w (512 * 32) (512 * 64);
      revealed = record { whole = w; revealed = before; inside = rw (first, pages) within; is = rw (first, pages) refl };
      are = rw c.over-table.ensures.count refl;
    } in
    let count : table.count ≡ (if is_ok c.insert_at.result then n + 1 else n) = rw (← c.over-table.ensures.count) c.insert_at.ensures.count in
    let moved : insert (entries 32 (part w 16384 32768) n) c.args.at c.args.bytes.now ≡ map bytes_of (insert xs c.args.at x) = rw (old, is) (map_insert xs c.args.at x (omega (arith, c.requires.order, same))) in
    lent (λ (m : g.row.M.Denot). OnOk c.insert_at.result (HoldTables (g.M.FlatMem.reveals m) slots (insert xs c.args.at x))) _ table.mem.mem.now (search rules)
    (counted c.insert_at.result n table.count _ _ count
    (λ more done.
    let whole = revealed_whole (λ (m : MutBor g.row.M.Denot) (b : List ℕ). g.M.FlatMem.reveals m.now b) _ (λ m w v. g.met.M.FlatMem.revealed_once m.now w v) over.mem table.mem table.count w (insert (entries 32 (part w 16384 32768) n) c.args.at c.args.bytes.now)
    first pages c.insert_at.ensures.kept before done in
    record {
      bytes = whole.0;
      revealed = whole.1;
      are = tables_moved w whole.0 slots xs (insert xs c.args.at x) table.count h.are whole.2 (whole.3 ∙ moved) (omega (arith, more, c.requires.few));
    })
    listed)

few_pages : (n : ℕ) → n ≤ 1023 → pages_of 32 n ≤ 64
few_pages n few = omega (arith, few)

times : (p k s t : ℕ) → p ≤ 64 → s ≤ t + 2 * p * k → s ≤ t + 128 * k
times p k s t h l = let m = mul-le (2 * p) k 128 k (omega (arith, h)) (omega arith) in omega (arith, m, l)

pub returns-clause-cost : goal.returns-clause-cost
returns-clause-cost g c =
    lent (λ (m : g.row.M.Denot). g.M.FlatMem.spent m ≤ g.M.FlatMem.spent c.args.mem.now + 128 * g.M.FlatMem.cost) _ c.insert_at.new.self.mem.mem.now (search rules)
    (times (pages_of 32 (c.args.count + 1)) g.M.FlatMem.cost _ _ (few_pages (c.args.count + 1) (omega (arith, c.requires.few))) (rw (c.over-table.ensures.memory, c.over-table.ensures.count, c.of.ensures.mem_is) at c.insert_at.ensures.cost))

pub returns-clause-kept : goal.returns-clause-kept
returns-clause-kept g c =
    lent (λ (m : g.row.M.Denot). g.M.FlatMem.beside c.args.mem.now m) _ c.insert_at.new.self.mem.mem.now (search rules) (rw (c.over-table.ensures.memory, c.of.ensures.mem_is) at c.insert_at.ensures.kept.mem.1)

pub returns-clause-cause : goal.returns-clause-cause
returns-clause-cause g c =
    lent_error c.insert_at.result (g.M.FlatMem.accounted c.args.mem.now) _ c.insert_at.new.self.mem.mem.now (search rules) (rw (c.over-table.ensures.memory, c.of.ensures.mem_is) at c.insert_at.ensures.cause)
