use Rattle.std.proofs.Common.{rules, ◌≡◌, ℕ, ◌+◌, ◌*◌, ◌≤◌, List, length, OnOk, is_ok, if◌then◌else◌, arith, refl}
use Rattle.flat_mem.specs.Memory.{part}
use Rattle.record_table.specs.Table.{entries}
use Rattle.record_table.specs.InPart.{IsInsertedIn}
use Rattle.record_table.specs.InPartLaws.{counted, inserted_in}
use Rattle.filer_kernel.specs.declared.window.TableMemory.{TableMemory}
use Rattle.filer_kernel.specs.Tables.{TablesReveal}
use Rattle.filer_kernel.specs.TableOnce.{tables_reveal_once}
use Rattle.filer_callers.proofs.Lent.{lent}
use Rattle.filer_callers.proofs.register.RegisterOver.add.Goals as goal
use Rattle.filer_kernel.specs.View.{accepted, view_of}

pub returns-clause-inserted : goal.returns-clause-inserted
returns-clause-inserted g c =
    let n = c.args.self.now.count in
    let mem = c.over-table.result.mem in
    let table = c.insert-answer.new.self in
    let now = table.mem.mem.filer.now in
    let count : table.count ≡ (if is_ok c.insert-answer.result then n + 1 else n) = rw (← c.over-table.ensures.count) c.insert-answer.ensures.count in
    λ b reveals.
    let first : mem.first ≡ 32 = rw c.over-table.ensures.memory c.of.ensures.first_is in
    let pages : mem.pages ≡ 64 = rw c.over-table.ensures.memory c.of.ensures.pages_is in
    let filer = mem.mem.filer.now in
    let before : TablesReveal (view_of filer).disk (view_of filer).slots (view_of filer).layout filer.runs b = rw (c.over-table.ensures.memory, c.of.ensures.mem_is, c.table_memory.ensures.value) reveals in
    let within : 512 * 32 + 512 * 64 ≤ length b = omega (arith, reveals.count) in
    let listed = c.insert-answer.ensures.inserted (entries 32 (part b (512 * 32) (512 * 64)) n) record {
      bytes = part b (512 * 32) (512 * 64);
      revealed = record { whole = b; revealed = before; inside = rw (first, pages) within; is = rw (first, pages) refl };
      are = rw c.over-table.ensures.count refl;
    } in
    lent (λ d s x k. OnOk c.insert-answer.result (IsInsertedIn 32 4 32 64 (TablesReveal d s x k) b n c.args.entry.now)) _ (view_of now).disk _ (view_of now).slots _ (view_of now).layout _ now.runs (search rules) (search rules) (search rules) (search rules)
    (counted c.insert-answer.result n table.count _ _ count
    (λ more inserted. inserted_in (λ (w : TableMemory g.row.D.Denot g.row.A.Denot g.D.Disk) (x : List ℕ). TablesReveal (view_of w.filer.now).disk (view_of w.filer.now).slots (view_of w.filer.now).layout w.filer.now.runs x) _
    (λ w x y h k. tables_reveal_once _ _ _ _ x y (accepted w.filer.now) h k) 32 4 32 64 mem table.mem b first pages c.insert-answer.ensures.kept before n table.count c.args.entry.now more inserted)
    listed)
