use Rattle.std.proofs.Common.{◌≡◌, inl, inr, ℕ, suc, ◌+◌, ◌∙◌, List, Some, length, MatchResult, sym, ap, subst, arith}
use Rattle.std.specs.Prelude.{slice_get}
use Rattle.std.proofs.lemmas.List.{take_all, length_push}
use Rattle.flat_mem.specs.Vec.{vec_mem_bytes}
use Rattle.file_map.specs.declared.run.Run.{Run}
use Rattle.file_map.specs.Run.{IsRun}
use Rattle.volume_view.specs.Records.{AreRunsOfMap, AreAllInForm, IsInForm, IsNoMemory, IsStep, last_of}
use Rattle.volume_view.specs.Recorded.{StandsInLeaf, AllStand}
use Rattle.volume_view.proofs.RecordedLemmas.{in_some, stand_more}
use Rattle.volume_view.proofs.ListLemmas.{in_pushed, if_ok_more}
use Rattle.volume_view.proofs.RecordLemmas.{taken_more}
use Rattle.volume_view.proofs.records.read_runs.Goals as goal

pub loop-k-preserved : goal.loop-k-preserved
loop-k-preserved g c =
    let so_far = c.loop-k.invariant in
    let n = c.args.layout.now.sectors in
    let pushed = c.in-Ok-push.ensures.items in
    let form = subst (IsInForm n) c.in-Some.is c.in-Ok-next_run.ensures.form in
    let step : (runs : List Run) → AreRunsOfMap n (vec_mem_bytes c.args.map.now) runs → IsStep runs c.loop-k.k (Some c.in-Some.run') =
    λ runs is. subst (IsStep runs c.loop-k.k) c.in-Some.is
    (c.in-Ok-next_run.ensures.next runs c.loop-k.k (subst (λ (b : List ℕ). AreRunsOfMap n b runs) (sym so_far.same) is) (so_far.last runs is) (omega (arith, c.loop-k-test.true, c.in-Ok.ensures.count runs is))) in
    record {
      same = c.in-Ok-next_run.ensures.same ∙ so_far.same;
      stand = stand_more (vec_mem_bytes c.args.map.now) c.loop-k.runs.items c.push.new.self.items c.in-Some.run' so_far.stand
          (subst (λ (b : List ℕ). StandsInLeaf b c.in-Some.run') so_far.same (in_some _ c.in-Some.run' (StandsInLeaf (vec_mem_bytes c.loop-k.map)) c.in-Some.is c.in-Ok-next_run.ensures.stands)) pushed;
      counted = omega (arith, ap length pushed, length_push c.loop-k.runs.items c.in-Some.run', so_far.counted);
      form = λ j r at. elim (in_pushed c.loop-k.runs.items c.in-Some.run' j r (ap (λ (l : List Run). slice_get l j) (sym pushed) ∙ at)) [
        | inl old ↦ so_far.form j r old
        | inr last ↦ subst (IsRun n) last form
      ];
      read = λ runs is. taken_more runs c.loop-k.runs.items c.push.new.self.items c.loop-k.k c.in-Some.run' (step runs is).0 (step runs is).1 (so_far.read runs is) pushed;
      last = λ runs is. let s : c.loop-k.k + 1 ≡ suc c.loop-k.k = omega arith in (step runs is).1 ∙ sym (ap (last_of runs) s);
    }

pub returns-clause-read : goal.returns-clause-read
returns-clause-read g c = λ runs is.
    let so_far = c.loop-k.invariant in
    let all : c.loop-k.k ≡ length runs = omega (arith, c.loop-k-test.false, c.loop-k.auto.k-end, c.in-Ok.ensures.count runs is) in
    subst (λ (l : List Run). MatchResult c.end_of.result (λ found. found.items ≡ l) IsNoMemory) (so_far.read runs is ∙ take_all c.loop-k.k runs (omega (arith, all)))
    (c.end_of.ensures.end runs (subst (λ (b : List ℕ). AreRunsOfMap c.args.layout.now.sectors b runs) (sym so_far.same) is) (so_far.last runs is ∙ ap (last_of runs) all))

pub returns-clause-form : goal.returns-clause-form
returns-clause-form g c = if_ok_more c.end_of.result _ _ c.end_of.ensures.found (λ x same. subst (AreAllInForm c.args.layout.now.sectors) (sym same) c.loop-k.invariant.form)

pub returns-clause-stand : goal.returns-clause-stand
returns-clause-stand g c = if_ok_more c.end_of.result _ _ c.end_of.ensures.found (λ x same. subst (AllStand (vec_mem_bytes c.args.map.now)) (sym same) c.loop-k.invariant.stand)

pub returns-clause-counted : goal.returns-clause-counted
returns-clause-counted g c =
    let all : c.loop-k.k ≡ c.in-Ok.count = omega (arith, c.loop-k-test.false, c.loop-k.auto.k-end) in
    if_ok_more c.end_of.result _ _ c.end_of.ensures.found (λ x same. ap length same ∙ c.loop-k.invariant.counted ∙ all ∙ c.in-Ok.ensures.header)
