-- What the lines of a run cost.
use Rattle.std.proofs.Common.{◌≡◌, ℕ, ◌+◌, ◌*◌, ◌≤◌, true, List, [], ◌∷◌, ◌++◌, Some, None, refl, sym, subst, arith}
use Rattle.std.specs.Prelude.{sum_by}
use Rattle.std.proofs.lemmas.List.Sums.{sum_by_push, sum_by-append}
use Rattle.labelled_disk.specs.State.{DiskState}
use Rattle.flat_machine.specs.After.{TraceLine}
use Rattle.flat_machine.specs.declared.call.Call.{Call}
use Rattle.flat_machine.specs.declared.call.Call.TheVariants as call
use Rattle.flat_machine.specs.References.{is_reference}
use Rattle.running_words.specs.Bound.{CostsOther, other_bound}
use Rattle.pilot_engine.specs.Rest.{CostsRest}
use Rattle.pilot_top.specs.Headline.{CostsLine, CostsLines, line_bound, run_bound}

-- One line.

-- a disk that is as it was
spent_none : (a b : DiskState) (n : ℕ) → b ≡ a → b.transfers ≤ a.transfers + n
spent_none a b n same = subst (λ (d : DiskState). d.transfers ≤ a.transfers + n) (sym same) (omega arith)

pub nothing_spent : (a : DiskState) → CostsOther a a
nothing_spent a = spent_none a a (other_bound a.sectors) refl

-- as many transfers
pub spent_same : (a b : DiskState) → b.transfers ≡ a.transfers → CostsOther a b
spent_same a b same = subst (λ (n : ℕ). n ≤ a.transfers + other_bound a.sectors) (sym same) (nothing_spent a)

-- a call
pub call_costs : (c : Call) (a b : DiskState) → (is_reference c ≡ true → b.transfers ≤ a.transfers + 1680) → CostsOther a b → CostsLine (Some c) a b
call_costs (call.Load first count) a b few cost = few refl
call_costs (call.Store first bytes) a b few cost = few refl
call_costs c a b few cost = cost

-- a bad line
pub bad_costs : (a : DiskState) → CostsLine None a a
bad_costs a = nothing_spent a

-- Lines in a row.

pub none_cost : (a : DiskState) → CostsLines [] a a
none_cost a = omega arith

pub more_cost : (lines : List TraceLine) (line : TraceLine) (a b c : DiskState) → b.sectors ≡ a.sectors → CostsLines lines a b → CostsLine line b c → CostsLines (lines ++ line ∷ []) a c
more_cost lines line a b c same first last =
    let here : c.transfers ≤ b.transfers + line_bound a.sectors line = subst (λ (n : ℕ). c.transfers ≤ b.transfers + line_bound n line) same last in
    omega (arith, first, here, sum_by_push (line_bound a.sectors) lines line)

-- The whole run: lines that were read are the first ones of its trace.

-- so many transfers at most, but for the start
abbrev pub Spends : List TraceLine → DiskState → DiskState → Type 0
Spends lines a b = b.transfers ≤ a.transfers + (other_bound a.sectors + sum_by (line_bound a.sectors) lines)

prefix_sum : (n : ℕ) (lines more all : List TraceLine) → all ≡ lines ++ more → sum_by (line_bound n) lines ≤ sum_by (line_bound n) all
prefix_sum n lines more all are = subst (λ (ls : List TraceLine). sum_by (line_bound n) lines ≤ sum_by (line_bound n) ls) (sym are) (omega (arith, sum_by-append (line_bound n) lines more))

pub prefix_spends : (lines more all : List TraceLine) (a b : DiskState) → all ≡ lines ++ more → CostsLines lines a b → Spends all a b
prefix_spends lines more all a b are cost = omega (arith, cost, prefix_sum a.sectors lines more all are)

-- the session is ended after them
pub end_spends : (lines more all : List TraceLine) (a b c : DiskState) → all ≡ lines ++ more → b.sectors ≡ a.sectors → CostsLines lines a b → CostsOther b c → Spends all a c
end_spends lines more all a b c are same cost last =
    let here : c.transfers ≤ b.transfers + other_bound a.sectors = subst (λ (n : ℕ). c.transfers ≤ b.transfers + other_bound n) same last in
    omega (arith, cost, here, prefix_sum a.sectors lines more all are)

-- the start is before them
pub run_spends : (lines : List TraceLine) (a b c : DiskState) → b.sectors ≡ a.sectors → CostsOther a b → Spends lines b c → c.transfers ≤ a.transfers + run_bound a.sectors lines
run_spends lines a b c same first last =
    let here : c.transfers ≤ b.transfers + (other_bound a.sectors + sum_by (line_bound a.sectors) lines) =
    subst (λ (n : ℕ). c.transfers ≤ b.transfers + (other_bound n + sum_by (line_bound n) lines)) same last in
    omega (arith, first, here)

-- no session started
pub start_spends : (lines : List TraceLine) (a b : DiskState) → CostsOther a b → b.transfers ≤ a.transfers + run_bound a.sectors lines
start_spends lines a b first = omega (arith, first)

-- so it is where the root was read before, and one transfer less was made
pub rest_spends : (lines : List TraceLine) (a b c : DiskState) → b.sectors ≡ a.sectors → CostsRest a b → Spends lines b c → c.transfers + 1 ≤ a.transfers + run_bound a.sectors lines
rest_spends lines a b c same first last =
    let here : c.transfers ≤ b.transfers + (other_bound a.sectors + sum_by (line_bound a.sectors) lines) =
    subst (λ (n : ℕ). c.transfers ≤ b.transfers + (other_bound n + sum_by (line_bound n) lines)) same last in
    omega (arith, first, here)

pub rest_spends_none : (lines : List TraceLine) (a b : DiskState) → CostsRest a b → b.transfers + 1 ≤ a.transfers + run_bound a.sectors lines
rest_spends_none lines a b first = omega (arith, first)

-- the calls of a queue that was made over a disk of so many sectors
pub few_calls : (lines : List TraceLine) (n : ℕ) (a b : DiskState) → a.sectors ≡ n → a.transfers ≡ 0 → b.transfers + 1 ≤ a.transfers + run_bound a.sectors lines → b.transfers + 1 ≤ run_bound n lines
few_calls lines n a b same none few =
    let here : b.transfers + 1 ≤ a.transfers + run_bound n lines = subst (λ (k : ℕ). b.transfers + 1 ≤ a.transfers + run_bound k lines) same few in
    omega (arith, here, none)

-- and what was moved beneath it, the reading of the root with it
pub queued_spends : (most before read calls under : ℕ) → read ≤ before + 1 → under ≤ read + 2 * calls + 1 → calls + 1 ≤ most → under ≤ before + 2 * most
queued_spends most before read calls under one moved few = omega (arith, one, moved, few)
