use Rattle.std.proofs.Common.{◌∙◌, arith}
use Rattle.fault_core.proofs.RowLemmas.{all_loaded}
use Rattle.fault_core.proofs.ready.load_parts.Goals as goal

pub load_part-done-requires-clause-here : goal.load_part-done-requires-clause-here
load_part-done-requires-clause-here g c = rw c.parts.invariant.same c.requires.here

pub parts-preserved : goal.parts-preserved
parts-preserved g c = record {
  within = c.load_part-done.ensures.fits;
  long = c.load_part-done.ensures.width ∙ c.parts.invariant.long;
  same = c.load_part-done.ensures.same ∙ c.parts.invariant.same;
  loaded = λ m named b ss known seen.
      (rw c.parts.invariant.same at c.load_part-done.ensures.bytes) m named b ss known seen (c.parts.invariant.loaded m named b ss known seen);
  rest = λ k past. c.load_part-done.ensures.rest k (omega (arith, past, c.load_part-done.ensures.fits)) ∙ c.parts.invariant.rest k past;
}

pub returns-clause-bytes : goal.returns-clause-bytes
returns-clause-bytes g c = λ m named b ss known seen.
    all_loaded ss m c.args.address c.parts.done c.args.count c.parts.into (omega (arith, c.parts-test.false)) (c.parts.invariant.loaded m named b ss known seen)
