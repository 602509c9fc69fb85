use Rattle.std.proofs.Common.{rules, ◌≡◌, ℕ, ◌+◌, ◌*◌, ◌≤◌, ◌∙◌, List, length, MutBor, arith, refl, sym, false}
use Rattle.flat_mem.specs.Memory.{part}
use Rattle.flat_mem.specs.Order.{at_most}
use Rattle.flat_mem.specs.Parts.{part-part}
use Rattle.record_table.specs.Table.{pages_of}
use Rattle.space_tables.proofs.InPart.{lent, whole_unchanged}
use Rattle.space_tables.proofs.projection.look_up_record.Goals as goal

pub returns-clause-unchanged : goal.returns-clause-unchanged
returns-clause-unchanged g c = λ w h.
    let is = c.of-projection.ensures in
    let p = c.of-projection.result in
    let before : g.M.FlatMem.reveals p.mem.now w = rw is.mem_is h in
    let within : 512 * 32 + 512 * 64 ≤ length w = omega (arith, c.requires.size, g.met.M.FlatMem.revealed_length c.args.mem.now w h) in
    let revealed = c.look_up.ensures.unchanged (part w (512 * p.first) (512 * p.pages)) record { whole = w; revealed = before; inside = rw (is.first_is, is.pages_is) within; is = refl } in
    lent (λ (m : g.row.M.Denot). g.M.FlatMem.reveals m w) _ c.look_up.new.mem.mem.now (search rules)
    (whole_unchanged (λ (m : MutBor g.row.M.Denot) (b : List ℕ). g.M.FlatMem.reveals m.now b) _ (λ m w v. g.met.M.FlatMem.revealed_once m.now w v) p c.look_up.new.mem w c.look_up.ensures.kept before revealed)

pub returns-clause-answer : goal.returns-clause-answer
returns-clause-answer g c = λ w h.
    let is = c.of-projection.ensures in
    let p = c.of-projection.result in
    let before : g.M.FlatMem.reveals p.mem.now w = rw is.mem_is h in
    let within : 512 * 32 + 512 * 64 ≤ length w = omega (arith, c.requires.size, g.met.M.FlatMem.revealed_length c.args.mem.now w h) in
    let answer = c.look_up.ensures.answer (part w (512 * 32) (512 * 64)) record { whole = w; revealed = before; inside = rw (is.first_is, is.pages_is) within; is = rw (is.first_is, is.pages_is) refl } in
    rw c.to_be_bytes-key.ensures at answer

pub returns-clause-turn : goal.returns-clause-turn
returns-clause-turn g c = λ w h.
    let is = c.of-projection.ensures in
    let before : g.M.FlatMem.reveals c.of-projection.result.mem.now w = rw is.mem_is h in
    let within : 512 * 32 + 512 * 64 ≤ length w = omega (arith, c.requires.size, g.met.M.FlatMem.revealed_length c.args.mem.now w h) in
    let turn = c.look_up.ensures.turn (part w (512 * 32) (512 * 64)) record { whole = w; revealed = before; inside = rw (is.first_is, is.pages_is) within; is = rw (is.first_is, is.pages_is) refl } in
    rw c.to_be_bytes-key.ensures at turn

pub returns-clause-before : goal.returns-clause-before
returns-clause-before g c = λ w h none some.
    let is = c.of-projection.ensures in
    let p = c.of-projection.result in
    let before : g.M.FlatMem.reveals p.mem.now w = rw is.mem_is h in
    let within : 512 * 32 + 512 * 64 ≤ length w = omega (arith, c.requires.size, g.met.M.FlatMem.revealed_length c.args.mem.now w h) in
    let above = c.look_up.ensures.before (part w (512 * 32) (512 * 64)) record { whole = w; revealed = before; inside = rw (is.first_is, is.pages_is) within; is = rw (is.first_is, is.pages_is) refl } none some in
    let key : part (part w 16384 32768) 0 4 ≡ part w 16384 4 = part-part w 16384 32768 0 4 (omega arith) in
    rw (c.to_be_bytes-key.ensures, key) at above

few_pages : (n m : ℕ) → n ≤ m → m ≤ 1023 → pages_of 32 n ≤ 64
few_pages n m below few = omega (arith, below, few)

pub returns-clause-cost : goal.returns-clause-cost
returns-clause-cost g c =
    let cost = c.look_up.ensures.cost 6 (λ n below is. few_pages n c.args.count below c.requires.few) in
    lent (λ (m : g.row.M.Denot). g.M.FlatMem.spent m ≤ g.M.FlatMem.spent c.args.mem.now + 7 * g.M.FlatMem.cost) _ c.look_up.new.mem.mem.now (search rules) (rw c.of-projection.ensures.mem_is at cost)

pub returns-clause-looked : goal.returns-clause-looked
returns-clause-looked g c =
    lent (λ (m : g.row.M.Denot). g.M.FlatMem.only_reads c.args.mem.now m) _ c.look_up.new.mem.mem.now (search rules) (rw c.of-projection.ensures.mem_is at c.look_up.ensures.looked.mem.1)
