use Rattle.std.proofs.Common.{rules, ◌≡◌, ℕ, ◌+◌, ◌*◌, ◌^◌, ◌≤◌, List, length, arith, refl}
use Rattle.labelled_disk.specs.State.{DiskState}
use Rattle.flat_mem.specs.Memory.{part}
use Rattle.flat_mem.specs.PartLaws.{whole_unchanged}
use Rattle.record_table.specs.Table.{entries, pages_of}
use Rattle.filer_kernel.specs.declared.window.TableMemory.{TableMemory}
use Rattle.filer_kernel.specs.Tables.{TablesReveal}
use Rattle.filer_kernel.specs.TableOnce.{tables_reveal_once}
use Rattle.filer_callers.proofs.Lent.{lent}
use Rattle.filer_callers.proofs.register.RegisterOver.find.Goals as goal
use Rattle.filer_kernel.specs.View.{accepted, disk_of, view_of}

pub returns-clause-found : goal.returns-clause-found
returns-clause-found g c = λ b reveals ascending.
    let mem = c.over-table.result.mem in
    let first : mem.first ≡ 32 = rw c.over-table.ensures.memory c.of.ensures.first_is in
    let pages : mem.pages ≡ 64 = rw c.over-table.ensures.memory c.of.ensures.pages_is in
    let filer = mem.mem.filer.now in
    let before : TablesReveal (view_of filer).disk (view_of filer).slots (view_of filer).layout filer.runs b = rw (c.over-table.ensures.memory, c.of.ensures.mem_is, c.table_memory.ensures.value) reveals in
    let within : 512 * 32 + 512 * 64 ≤ length b = omega (arith, reveals.count) in
    c.find_last_at_most.ensures.found (entries 32 (part b (512 * 32) (512 * 64)) c.args.self.now.count) record {
      bytes = part b (512 * 32) (512 * 64);
      revealed = record { whole = b; revealed = before; inside = rw (first, pages) within; is = rw (first, pages) refl };
      are = rw c.over-table.ensures.count refl;
    } ascending

pub returns-clause-same : goal.returns-clause-same
returns-clause-same g c =
    let old = c.args.self.now.filer in
    let mem = c.over-table.result.mem in
    let after = c.find_last_at_most.new.self.mem in
    let now = after.mem.filer.now in
    let first : mem.first ≡ 32 = rw c.over-table.ensures.memory c.of.ensures.first_is in
    let pages : mem.pages ≡ 64 = rw c.over-table.ensures.memory c.of.ensures.pages_is in
    lent (λ d s x k. (b : List ℕ) → TablesReveal (view_of old).disk (view_of old).slots (view_of old).layout old.runs b → TablesReveal d s x k b) _ (view_of now).disk _ (view_of now).slots _ (view_of now).layout _ now.runs
    (search rules) (search rules) (search rules) (search rules) (λ b reveals.
    let filer = mem.mem.filer.now in
    let before : TablesReveal (view_of filer).disk (view_of filer).slots (view_of filer).layout filer.runs b = rw (c.over-table.ensures.memory, c.of.ensures.mem_is, c.table_memory.ensures.value) reveals in
    let within : 512 * 32 + 512 * 64 ≤ length b = omega (arith, reveals.count) in
    let revealed = c.find_last_at_most.ensures.same_bytes (part b (512 * mem.first) (512 * mem.pages)) record { whole = b; revealed = before; inside = rw (first, pages) within; is = refl } in
    whole_unchanged (λ (w : TableMemory g.row.D.Denot g.row.A.Denot g.D.Disk) (x : List ℕ). TablesReveal (view_of w.filer.now).disk (view_of w.filer.now).slots (view_of w.filer.now).layout w.filer.now.runs x) _
    (λ w x y h k. tables_reveal_once _ _ _ _ x y (accepted w.filer.now) h k) mem after b c.find_last_at_most.ensures.kept before revealed)

few_pages : (n : ℕ) → n ≤ 1024 → pages_of 32 n ≤ 2 ^ 6
few_pages n few = omega (arith, few)

at_most : {D : Type 0} (state : D → DiskState) (u v : D) (n : ℕ) → u ≡ v → (state v).transfers ≤ n → (state u).transfers ≤ n
at_most state u v n same h = rw same h

pub returns-clause-cost : goal.returns-clause-cost
returns-clause-cost g c =
    let few : pages_of 32 c.over-table.result.count ≤ 2 ^ 6 = rw c.over-table.ensures.count (few_pages c.args.self.now.count c.requires.few) in
    at_most g.D.Disk.state _ (disk_of c.find_last_at_most.new.self.mem.mem.filer.now) ((view_of c.args.self.now.filer).disk.transfers + 196) (search rules)
    (rw (c.over-table.ensures.memory, c.of.ensures.mem_is, c.table_memory.ensures.value) at (c.find_last_at_most.ensures.cost 6 few))
