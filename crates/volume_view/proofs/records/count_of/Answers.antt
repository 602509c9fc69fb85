use Rattle.std.proofs.Common.{◌≡◌, ◌∙◌, ap, sym, length, map, rules}
use Rattle.std.proofs.lemmas.List.{length-map}
use Rattle.flat_mem.specs.Vec.{vec_mem_bytes}
use Rattle.file_map.specs.Run.{run_bytes}
use Rattle.volume_view.proofs.RecordLemmas.{to_tree, never_malformed}
use Rattle.volume_view.proofs.records.count_of.Goals as goal

pub returns-in-Ok-clause-count : goal.returns-in-Ok-clause-count
returns-in-Ok-clause-count g c = λ runs is.
    let same : vec_mem_bytes c.over.result.mem.now ≡ vec_mem_bytes c.args.map.now = search rules in
    let tree = to_tree c.args.sectors (vec_mem_bytes c.args.map.now) (vec_mem_bytes c.over.result.mem.now) (map run_bytes runs) same (ap length same ∙ c.requires.size) is.listed in
    c.in-Ok.ensures.count (map run_bytes runs) tree ∙ length-map runs run_bytes

pub returns-in-Err-Malformed-clause-count : goal.returns-in-Err-Malformed-clause-count
returns-in-Err-Malformed-clause-count g c = λ runs is.
    let same : vec_mem_bytes c.over.result.mem.now ≡ vec_mem_bytes c.args.map.now = search rules in
    let tree = to_tree c.args.sectors (vec_mem_bytes c.args.map.now) (vec_mem_bytes c.over.result.mem.now) (map run_bytes runs) same (ap length same ∙ c.requires.size) is.listed in
    never_malformed c.in-Err-Malformed.field-0 _ c.in-Err-Malformed.field-0-is (c.in-Err-Malformed.ensures.count (map run_bytes runs) tree)

pub returns-in-Ok-clause-header : goal.returns-in-Ok-clause-header
returns-in-Ok-clause-header g c =
    let same : vec_mem_bytes c.over.result.mem.now ≡ vec_mem_bytes c.args.map.now = search rules in
    c.in-Ok.ensures.header (vec_mem_bytes c.args.map.now) (sym same)
