use Rattle.std.proofs.Common.{◌≡◌, ℕ, ◌*◌, sym, ◌∙◌, ap, rules, subst}
use Rattle.flat_mem.specs.Vec.{vec_mem_bytes}
use Rattle.labelled_disk.specs.Layout.{vfm}
use Rattle.file_map.specs.FileMap.{most_records, with_run}
use Rattle.file_map.specs.Laws.{AreFew}
use Rattle.scavenger.proofs.NamingLemmas.{to_map, from_map, not_full, full_says, malformed_never}
use Rattle.scavenger.proofs.names.add_run.Goals as goal

pub unreachable-requires : goal.unreachable-requires
unreachable-requires g c =
    let room = c.requires.room in
    let same : vec_mem_bytes c.over-map.result.mem.now ≡ vec_mem_bytes c.args.map.now = search rules in
    let names = to_map c.args.sectors c.over-map.result.sectors (vec_mem_bytes c.args.map.now) (vec_mem_bytes c.over-map.result.mem.now) room.named c.over-map.ensures.sectors same room.naming in
    let full = full_says c.in-Err-Full.field-0 c.in-Err-Full.field-0-is (c.in-Err-Full.ensures.added room.named names room.is_new) in
    let few = c.records_are_few.ensures room.named names (most_records c.over-map.result.sectors) full.0 in
    not_full c.args.sectors (vec_mem_bytes c.args.map.now) c.args.run (most_records c.over-map.result.sectors) c.requires.counted c.requires.run room
    (subst (λ (m : ℕ). AreFew m room.named (most_records c.over-map.result.sectors)) c.over-map.ensures.sectors few) (ap most_records c.over-map.ensures.sectors)

pub unreachable-requires-in-Err-Malformed : goal.unreachable-requires-in-Err-Malformed
unreachable-requires-in-Err-Malformed g c =
    let room = c.requires.room in
    let same : vec_mem_bytes c.over-map.result.mem.now ≡ vec_mem_bytes c.args.map.now = search rules in
    let names = to_map c.args.sectors c.over-map.result.sectors (vec_mem_bytes c.args.map.now) (vec_mem_bytes c.over-map.result.mem.now) room.named c.over-map.ensures.sectors same room.naming in
    malformed_never _ _ c.in-Err-Malformed.field-0 _ c.in-Err-Malformed.field-0-is (c.in-Err-Malformed.ensures.added room.named names room.is_new)

pub returns : goal.returns
returns g c = λ named naming new.
    let same : vec_mem_bytes c.over-map.result.mem.now ≡ vec_mem_bytes c.args.map.now = search rules in
    let names = to_map c.args.sectors c.over-map.result.sectors (vec_mem_bytes c.args.map.now) (vec_mem_bytes c.over-map.result.mem.now) named c.over-map.ensures.sectors same naming in
    from_map c.args.sectors c.add.new.self.sectors _ (vec_mem_bytes c.add.new.self.mem.now) (with_run named c.args.run)
    (c.in-Ok.ensures.sectors ∙ c.over-map.ensures.sectors) (search rules)
    (sym c.in-Ok.ensures.kept.1 ∙ c.over-map.result.pages ∙ ap (λ (n : ℕ). 512 * vfm n) c.over-map.ensures.sectors) (c.in-Ok.ensures.added named names new)
