use Rattle.std.proofs.Common.{◌≡◌, ◌+◌, ◌*◌, ◌/◌, ◌%◌, ℕ, List, ◌∙◌, ap, refl, arith, length}
use Rattle.flat_mem.specs.Memory.{part}
use Rattle.flat_mem.specs.Parts.{part-part}
use Rattle.frame_pool.specs.FrameLaws.{filled_of}
use Rattle.filer_kernel.specs.TableLaws.{beside_tables_itself, looked_tables_itself}
use Rattle.filer_kernel.proofs.window.TableMemoryFlatMem.read.Goals as goal

pub returns-then-is_empty-clause-kept : goal.returns-then-is_empty-clause-kept
returns-then-is_empty-clause-kept g c =
    let filer = c.args.self.now.filer.now in
    (refl, beside_tables_itself _ filer.swapper.pool filer.swapper.layout filer.runs)

pub returns-then-is_empty-clause-looked : goal.returns-then-is_empty-clause-looked
returns-then-is_empty-clause-looked g c =
    let filer = c.args.self.now.filer.now in
    (refl, looked_tables_itself _ filer.swapper.pool filer.swapper.layout filer.runs)

pub copy_out-requires-clause-filled : goal.copy_out-requires-clause-filled
copy_out-requires-clause-filled g c =
    let there = c.in_ok-slot.ensures.there in
    filled_of c.fetch_table_page.new.self.swapper.pool c.in_ok-slot.slot there.0 there.1

pub returns-clause-read : goal.returns-clause-read
returns-clause-read g c = λ b reveals.
    let shown = c.in_ok-slot.ensures.shown b reveals in
    let place : 512 * (c.args.at / 512) + c.args.at % 512 ≡ c.args.at = omega arith in
    c.copy_out.ensures shown.0 shown.1
    ∙ ap (λ (l : List ℕ). part l (c.args.at % 512) (length c.args.into.now)) shown.2
    ∙ part-part b (512 * (c.args.at / 512)) 512 (c.args.at % 512) (length c.args.into.now) c.requires.in_one_page
    ∙ ap (λ (n : ℕ). part b n (length c.args.into.now)) place
