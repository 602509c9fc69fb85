use Rattle.std.proofs.Common.{◌≡◌, ◌∙◌, [], ap, refl, length, map, rules, arith}
use Rattle.flat_mem.specs.Vec.{vec_mem_bytes}
use Rattle.file_map.specs.Run.{run_bytes}
use Rattle.volume_view.proofs.RecordedLemmas.{stands_by}
use Rattle.volume_view.proofs.LayoutLemmas.{of_layout}
use Rattle.volume_view.proofs.RecordLemmas.{to_tree, never_malformed, next_some, next_none, found_step, found_record, none_step}
use Rattle.volume_view.proofs.records.next_run.Goals as goal

pub read_after-requires : goal.read_after-requires
read_after-requires g c = (of_layout c.args.layout.now c.args.layout.now.sectors c.requires.layout).first

pub returns-in-Some-clause-next : goal.returns-in-Some-clause-next
returns-in-Some-clause-next g c = λ runs k is last within.
    let same : vec_mem_bytes c.over.result.mem.now ≡ vec_mem_bytes c.args.map.now = search rules in
    let tree = to_tree c.args.layout.now.sectors (vec_mem_bytes c.args.map.now) (vec_mem_bytes c.over.result.mem.now) (map run_bytes runs) same (ap length same ∙ c.requires.size) is.listed in
    found_step c.args.layout.now.sectors (vec_mem_bytes c.args.map.now) runs (omega (arith, c.requires.counted.1)) is k _ _ c.args.last c.in-Some.run' within last c.key_of.ensures
    (next_some _ _ (map run_bytes runs) _ _ c.in-Ok-Some.field-0-is (c.in-Ok-Some.ensures.found (map run_bytes runs) tree)) c.in-Some.ensures.form c.in-Some.ensures.same

pub returns-in-None-clause-next : goal.returns-in-None-clause-next
returns-in-None-clause-next g c = λ runs k is last within.
    let same : vec_mem_bytes c.over.result.mem.now ≡ vec_mem_bytes c.args.map.now = search rules in
    let tree = to_tree c.args.layout.now.sectors (vec_mem_bytes c.args.map.now) (vec_mem_bytes c.over.result.mem.now) (map run_bytes runs) same (ap length same ∙ c.requires.size) is.listed in
    let there = found_record c.args.layout.now.sectors (vec_mem_bytes c.args.map.now) runs (omega (arith, c.requires.counted.1)) is k _ _ c.args.last within last c.key_of.ensures
    (next_some _ _ (map run_bytes runs) _ _ c.in-Ok-Some.field-0-is (c.in-Ok-Some.ensures.found (map run_bytes runs) tree)) in
    c.in-None.ensures.broken refl there.1 there.0

pub returns-in-Ok-None-clause-next : goal.returns-in-Ok-None-clause-next
returns-in-Ok-None-clause-next g c = λ runs k is last within.
    let same : vec_mem_bytes c.over.result.mem.now ≡ vec_mem_bytes c.args.map.now = search rules in
    let tree = to_tree c.args.layout.now.sectors (vec_mem_bytes c.args.map.now) (vec_mem_bytes c.over.result.mem.now) (map run_bytes runs) same (ap length same ∙ c.requires.size) is.listed in
    none_step c.args.layout.now.sectors (vec_mem_bytes c.args.map.now) runs (omega (arith, c.requires.counted.1)) is k _ [] c.args.last within last c.key_of.ensures
    (next_none _ _ (map run_bytes runs) _ c.in-Ok-None.field-0-is (c.in-Ok-None.ensures.found (map run_bytes runs) tree))

pub returns-in-Err-Malformed-clause-next : goal.returns-in-Err-Malformed-clause-next
returns-in-Err-Malformed-clause-next g c = λ runs k is last within.
    let same : vec_mem_bytes c.over.result.mem.now ≡ vec_mem_bytes c.args.map.now = search rules in
    let tree = to_tree c.args.layout.now.sectors (vec_mem_bytes c.args.map.now) (vec_mem_bytes c.over.result.mem.now) (map run_bytes runs) same (ap length same ∙ c.requires.size) is.listed in
    never_malformed c.in-Err-Malformed.field-0 _ c.in-Err-Malformed.field-0-is (c.in-Err-Malformed.ensures.found (map run_bytes runs) tree)

pub returns-in-Some-clause-stands : goal.returns-in-Some-clause-stands
returns-in-Some-clause-stands g c =
    let same : vec_mem_bytes c.over.result.mem.now ≡ vec_mem_bytes c.args.map.now = search rules in
    stands_by (vec_mem_bytes c.args.map.now) (vec_mem_bytes c.over.result.mem.now) _ _ _ c.in-Some.run' c.in-Ok-Some.field-0-is same c.in-Ok-Some.ensures.page c.in-Some.ensures.same
