use Rattle.std.proofs.Common.{◌≡◌, ◌<◌, ◌+◌, ◌*◌, ◌/◌, ◌%◌, ℕ, sym, subst, refl, rules, arith, Err}
use Rattle.flat_mem.specs.Memory.{overwritten}
use Rattle.frame_pool.specs.FrameLaws.{filled_of}
use Rattle.filer_kernel.specs.Tables.{TablesReveal}
use Rattle.filer_kernel.specs.TableLaws.{beside_tables_itself, beside_tables_then}
use Rattle.filer_kernel.proofs.TableChange.{tables_changed, beside_changed, nothing_written}
use Rattle.filer_kernel.proofs.window.TableMemoryFlatMem.write.Goals as goal

pub returns-then-is_empty-clause-written : goal.returns-then-is_empty-clause-written
returns-then-is_empty-clause-written g c = λ b reveals.
    let filer = c.args.self.now.filer.now in
    subst (TablesReveal (g.D.Disk.state filer.swapper.disk) filer.swapper.pool filer.swapper.layout filer.runs) (sym (nothing_written b c.args.at c.args.bytes.now (search rules))) reveals

pub returns-then-is_empty-clause-kept : goal.returns-then-is_empty-clause-kept
returns-then-is_empty-clause-kept g c =
    let filer = c.args.self.now.filer.now in
    (refl, beside_tables_itself _ filer.swapper.pool filer.swapper.layout filer.runs)

pub returns-in_err-slot-clause-unchanged : goal.returns-in_err-slot-clause-unchanged
returns-in_err-slot-clause-unchanged g c = λ b reveals.
    let same : c.from_residual.result ≡ Err c.in_err-slot.field-0.0 = search rules in
    rw same (c.in_err-slot.ensures.looks.same b reveals)

pub change-requires-clause-filled : goal.change-requires-clause-filled
change-requires-clause-filled g c =
    let there = c.in_ok-slot.ensures.there in
    filled_of c.fetch_table_page.new.self.swapper.pool c.in_ok-slot.slot there.0 there.1

pub returns-clause-written : goal.returns-clause-written
returns-clause-written g c =
    let now = c.fetch_table_page.new.self in
    let below : c.args.at / 512 < 96 = search rules in
    let there = c.in_ok-slot.ensures.there in
    let place : 512 * (c.args.at / 512) + c.args.at % 512 ≡ c.args.at = omega arith in
    λ b reveals.
    let changed = tables_changed now.swapper.accepted (c.args.at / 512) below c.change.ensures.layout there.0 (now.swapper.placed c.in_ok-slot.slot there.0 there.1) there.2 there.3 (c.args.at % 512) c.args.bytes.now
    c.requires.in_one_page (c.change.ensures.goes there.0 there.1) c.in_ok-slot.slot there.1 (c.change.ensures.frame there.0 there.1) b (c.in_ok-slot.ensures.looks.same b reveals) in
    subst (λ (n : ℕ). TablesReveal (g.D.Disk.state c.change.new.self.disk) c.change.new.self.pool c.change.new.self.layout now.runs (overwritten b n c.args.bytes.now)) place changed

pub returns-clause-kept : goal.returns-clause-kept
returns-clause-kept g c =
    let now = c.fetch_table_page.new.self in
    let below : c.args.at / 512 < 96 = search rules in
    let there = c.in_ok-slot.ensures.there in
    let changed = beside_changed now.swapper.accepted (c.args.at / 512) below c.change.ensures.layout there.0 (now.swapper.placed c.in_ok-slot.slot there.0 there.1) there.2 there.3 (c.args.at % 512) c.args.bytes.now c.requires.in_one_page
    (c.change.ensures.goes there.0 there.1) c.in_ok-slot.slot there.1 (c.change.ensures.frame there.0 there.1) (c.change.ensures.steps there.0 there.1) in
    (refl, beside_tables_then c.args.self.now.filer.now.swapper.accepted c.in_ok-slot.ensures.looks.kept changed)
