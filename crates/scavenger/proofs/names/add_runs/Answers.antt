use Rattle.std.proofs.Common.{◌≡◌, ℕ, ◌<◌, ◌^◌, suc, ◌+◌, List, [], take, drop, length, refl, sym, ◌∙◌, ap, subst, arith, slice_index_or}
use Rattle.std.proofs.lemmas.List.{take_all}
use Rattle.std.proofs.lemmas.Option.{slice_get-get_or}
use Rattle.flat_mem.specs.Vec.{vec_mem_bytes}
use Rattle.file_map.specs.declared.run.Run.{Run}
use Rattle.file_map.specs.FileMap.{with_run, no_triples, IsNew}
use Rattle.file_map.specs.Run.{IsRun}
use Rattle.label_survey.specs.declared.runs.Run.{Run as LabelRun}
use Rattle.label_survey.specs.declared.triples.Triple.{Triple}
use Rattle.label_survey.specs.Runs.{all_triples, triples_of}
use Rattle.scavenger.specs.Naming.{among, HasRoomFor, IsNaming, map_run}
use Rattle.scavenger.proofs.NamingLemmas.{naming_alike, run_fits, is_new, has_room, with_run_is, taken_runs, split_runs, long_run}
use Rattle.scavenger.proofs.names.add_runs.Given as given
use Rattle.scavenger.proofs.names.add_runs.Goals as goal

abbrev no_run : LabelRun
no_run = record { id = 0; first = 0; pages = 0; sector = 0 }

pub loop-i-init : goal.loop-i-init
loop-i-init g c = naming_alike c.args.sectors no_triples (among []) (vec_mem_bytes c.args.map.now) (λ id page sector. refl) c.requires.empty

pub add_run-requires-clause-run : goal.add_run-requires-clause-run
add_run-requires-clause-run g c =
    let runs = c.args.runs.now in
    let i = c.loop-i.i in
    let r = slice_index_or runs i no_run in
    let there = slice_get-get_or runs i no_run c.loop-i-test.true in
    let form = c.requires.form in
    subst (IsRun c.args.sectors) (sym c.map_run.ensures.same)
    (run_fits c.args.sectors form.0 (all_triples (take i runs)) (all_triples (drop (suc i) runs)) form.1 r (long_run runs i r form.2.long there) (split_runs runs i r there ∙ form.2.same)
    (subst (λ (m : ℕ). m < 2 ^ 64) (ap (λ (q : Run). q.id) c.map_run.ensures.same) c.map_run.ensures.id))

pub add_run-requires-clause-room : goal.add_run-requires-clause-room
add_run-requires-clause-room g c =
    let runs = c.args.runs.now in
    let i = c.loop-i.i in
    let r = slice_index_or runs i no_run in
    let there = slice_get-get_or runs i no_run c.loop-i-test.true in
    let form = c.requires.form in
    subst (HasRoomFor c.args.sectors (vec_mem_bytes c.loop-i.map)) (sym c.map_run.ensures.same)
    (has_room c.args.sectors form.0 (all_triples (take i runs)) (all_triples (drop (suc i) runs)) form.1 r (long_run runs i r form.2.long there) (split_runs runs i r there ∙ form.2.same)
    (vec_mem_bytes c.loop-i.map) c.loop-i.invariant)

pub loop-i-preserved : goal.loop-i-preserved
loop-i-preserved g c =
    let runs = c.args.runs.now in
    let i = c.loop-i.i in
    let r = slice_index_or runs i no_run in
    let prefix = all_triples (take i runs) in
    let there = slice_get-get_or runs i no_run c.loop-i-test.true in
    let form = c.requires.form in
    let new = is_new c.args.sectors form.0 prefix (all_triples (drop (suc i) runs)) form.1 r (long_run runs i r form.2.long there) (split_runs runs i r there ∙ form.2.same) in
    let added = c.add_run.ensures (among prefix) c.loop-i.invariant (subst (IsNew (among prefix)) (sym c.map_run.ensures.same) new) in
    naming_alike c.args.sectors (with_run (among prefix) c.map_run.result) (among (all_triples (take (i + 1) runs))) (vec_mem_bytes c.add_run.new.map)
    (λ id page sector.
    ap (λ (ts : List Triple). among ts id page sector) (taken_runs runs i r there)
    ∙ with_run_is prefix r id page sector
    ∙ ap (λ (q : Run). with_run (among prefix) q id page sector) (sym c.map_run.ensures.same)) added

pub returns : goal.returns
returns g c =
    subst (λ (rs : List LabelRun). IsNaming c.args.sectors (among (all_triples rs)) (vec_mem_bytes c.loop-i.map))
    (take_all c.loop-i.i c.args.runs.now (omega (arith, c.loop-i-test.false))) c.loop-i.invariant
