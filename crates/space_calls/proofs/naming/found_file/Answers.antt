use Rattle.std.specs.Prelude.{IfSome}
use Rattle.std.proofs.Common.{refl}
use Rattle.std.proofs.lemmas.Result.{IfErr-weaker, IfOk-weaker}
use Rattle.session_words.specs.Parts.{shapes_of}
use Rattle.space_calls.proofs.RunLemmas.{books_of, looked_runs}
use Rattle.fault_core.specs.Core.{state}
use Rattle.filer_kernel.specs.FailsLaws.{cause_in}
use Rattle.fault_core.specs.NeverBlames.{NeverBlamesTables}
use Rattle.space_calls.specs.Halts.{LookHalts}
use Rattle.space_calls.proofs.HaltLemmas.{look_reaches}
use Rattle.space_calls.proofs.OutcomeLemmas.{halts_of_fails}
use Rattle.space_calls.proofs.SeesLemmas.{client_so, look_never_blames, reached_sees}
use Rattle.file_map.specs.FileMap.{IsSize}
use Rattle.space_calls.proofs.naming.found_file.Goals as goal

pub returns-clause-answer : goal.returns-clause-answer
returns-clause-answer g c = λ volume m r. (c.attributes_of.ensures.revealed 96 _ (shapes_of m.files) m.spaces (books_of r)).0

pub returns-clause-looks : goal.returns-clause-looks
returns-clause-looks g c =
    let u = c.args.core.now in
    let w = state (record u { filer = c.attributes_of.new.filer }) in
    let reaches = look_reaches (state u) w c.attributes_of.ensures.stays.looks c.attributes_of.ensures.stays.layout in
    record {
      runs = (λ volume m r. looked_runs r c.attributes_of.ensures.stays.makes c.attributes_of.ensures.stays.brings ((c.attributes_of.ensures.revealed 96 _ (shapes_of m.files) m.spaces (books_of r)).1) c.attributes_of.ensures.stays.layout);
      still = (λ ss s. reached_sees reaches refl refl s);
      reaches = reaches;
      came = c.attributes_of.ensures.stays.brings;
      makes = c.attributes_of.ensures.stays.makes;
      layout = c.attributes_of.ensures.stays.layout;
      intervals = refl;
    }

pub returns-clause-fails : goal.returns-clause-fails
returns-clause-fails g c =
    let v = state c.args.core.now in
    let w = state (record c.args.core.now { filer = c.attributes_of.new.filer }) in
    let fails = c.attributes_of.ensures.fails in
    halts_of_fails c.attributes_of.result fails (λ s. IfErr-weaker c.attributes_of.result (LookHalts c.args.id v w) NeverBlamesTables (look_never_blames v w c.args.id) (cause_in (LookHalts c.args.id v w) v w c.attributes_of.result fails))

pub returns-clause-client : goal.returns-clause-client
returns-clause-client g c = client_so c.args.id c.attributes_of.result (λ low. (c.attributes_of.ensures.reserved low).0)

pub returns-clause-size : goal.returns-clause-size
returns-clause-size g c = λ m named has map are.
    IfOk-weaker c.attributes_of.result _ (λ o. IfSome o (λ a. IsSize named c.args.id a.pages)) (λ o p. p.0) (c.attributes_of.ensures.named m named has map)
