use Rattle.std.proofs.Common.{◌≤◌, length, arith}
use Rattle.std.proofs.lemmas.Nat.{mul-le}
use Rattle.space_tables.proofs.Begins.{bare_start, bare_more, bare_end}
use Rattle.space_tables.proofs.Passes.{paid_more, paid_all}
use Rattle.space_tables.proofs.Outs.{handed, cause_on}
use Rattle.space_tables.proofs.begin.clear.Goals as goal

pub clearing-init : goal.clearing-init
clearing-init g c = record {
  within = omega arith;
  bare = λ h. h;
  kept = g.met.M.FlatMem.beside_itself c.store.new.mem;
  cost = omega arith;
}

pub clearing-preserved : goal.clearing-preserved
clearing-preserved g c = record {
  within = omega (arith, c.clearing-test.true);
  bare = λ h.
      let was = c.clearing.invariant.bare h in
      let size = g.met.M.FlatMem.same_size _ _ c.clearing.invariant.kept in
      let first = g.met.M.FlatMem.same_size _ _ c.store.ensures.kept in
      let revealed_long = g.met.M.FlatMem.revealed_length c.clearing.mem was.bytes was.revealed in
      let long : 49152 ≤ length was.bytes = omega (arith, revealed_long, size, first, c.requires.size) in
      bare_more (g.M.FlatMem.reveals c.clearing.mem) (g.M.FlatMem.reveals c.store-in-clearing.new.mem) c.clearing.handle was (omega (arith, c.clearing-test.true)) long (c.in_ok-store-2.ensures.written was.bytes was.revealed);
  kept = g.met.M.FlatMem.beside_through _ _ _ c.clearing.invariant.kept c.store-in-clearing.ensures.kept;
  cost = paid_more c.clearing.handle g.M.FlatMem.cost _ _ _ c.clearing.invariant.cost c.store-in-clearing.ensures.cost;
}

pub returns-clause-cleared : goal.returns-clause-cleared
returns-clause-cleared g c = λ b h.
    let long : 49152 ≤ length b = rw (g.met.M.FlatMem.revealed_length c.args.mem.now b h) c.requires.size in
    bare_end (g.M.FlatMem.reveals c.clearing.mem) c.clearing.handle (omega (arith, c.clearing.invariant.within, c.clearing-test.false))
    (c.clearing.invariant.bare (bare_start (g.M.FlatMem.reveals c.store.new.mem) b c.interval_bytes.result (c.in_ok-store.ensures.written b h) c.interval_bytes.ensures long))

pub returns-in_err-store-2-clause-cost : goal.returns-in_err-store-2-clause-cost
returns-in_err-store-2-clause-cost g c =
    let p = paid_all c.clearing.handle 512 g.M.FlatMem.cost _ _ _ c.clearing.invariant.cost c.store-in-clearing.ensures.cost (omega (arith, c.clearing-test.true)) in omega (arith, p, c.store.ensures.cost)

pub returns-clause-cost : goal.returns-clause-cost
returns-clause-cost g c =
    let m = mul-le c.clearing.handle g.M.FlatMem.cost 512 g.M.FlatMem.cost c.clearing.invariant.within (omega arith) in omega (arith, m, c.clearing.invariant.cost, c.store.ensures.cost)

pub returns-in_err-store-clause-kept : goal.returns-in_err-store-clause-kept
returns-in_err-store-clause-kept g c = c.store.ensures.kept

pub returns-in_err-store-clause-cause : goal.returns-in_err-store-clause-cause
returns-in_err-store-clause-cause g c = handed _ _ _ _ c.from_residual.ensures.1 c.in_err-store.ensures.cause

pub returns-in_err-store-clause-cost : goal.returns-in_err-store-clause-cost
returns-in_err-store-clause-cost g c = omega (arith, c.store.ensures.cost)

pub returns-in_err-store-clause-cleared : goal.returns-in_err-store-clause-cleared
returns-in_err-store-clause-cleared g c = λ b h. handed _ _ _ _ c.from_residual.ensures.1 tt

pub returns-in_err-store-clause-memory : goal.returns-in_err-store-clause-memory
returns-in_err-store-clause-memory g c = handed _ _ _ _ c.from_residual.ensures.1 c.in_err-store.ensures.memory

pub returns-in_err-store-2-clause-kept : goal.returns-in_err-store-2-clause-kept
returns-in_err-store-2-clause-kept g c = g.met.M.FlatMem.beside_through _ _ _ (g.met.M.FlatMem.beside_through _ _ _ c.store.ensures.kept c.clearing.invariant.kept) c.store-in-clearing.ensures.kept

pub returns-in_err-store-2-clause-cause : goal.returns-in_err-store-2-clause-cause
returns-in_err-store-2-clause-cause g c = handed _ _ _ _ c.from_residual-in_err-store-2.ensures.1 (cause_on g.M.FlatMem g.met.M.FlatMem.beside_itself g.met.M.FlatMem.accounted_wider _ _ _ (g.met.M.FlatMem.beside_through _ _ _ c.store.ensures.kept c.clearing.invariant.kept) c.store-in-clearing.ensures.kept _ c.in_err-store-2.ensures.cause)

pub returns-in_err-store-2-clause-cleared : goal.returns-in_err-store-2-clause-cleared
returns-in_err-store-2-clause-cleared g c = λ b h. handed _ _ _ _ c.from_residual-in_err-store-2.ensures.1 tt

pub returns-in_err-store-2-clause-memory : goal.returns-in_err-store-2-clause-memory
returns-in_err-store-2-clause-memory g c = handed _ _ _ _ c.from_residual-in_err-store-2.ensures.1 c.in_err-store-2.ensures.memory

pub returns-clause-kept : goal.returns-clause-kept
returns-clause-kept g c = g.met.M.FlatMem.beside_through _ _ _ c.store.ensures.kept c.clearing.invariant.kept

pub returns-clause-cause : goal.returns-clause-cause
returns-clause-cause g c = tt

pub returns-clause-memory : goal.returns-clause-memory
returns-clause-memory g c = tt

pub store-requires-in-clearing-clause-size : goal.store-requires-in-clearing-clause-size
store-requires-in-clearing-clause-size g c =
    omega (arith, g.met.M.FlatMem.same_size _ _ c.store.ensures.kept, g.met.M.FlatMem.same_size _ _ c.clearing.invariant.kept, c.requires.size)
