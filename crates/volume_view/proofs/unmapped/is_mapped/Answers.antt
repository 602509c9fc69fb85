use Rattle.std.proofs.Common.{◌≡◌, ◌+◌, ◌∙◌, ap, sym, length, rules, arith, eqb}
use Rattle.std.proofs.lemmas.Bool.{eqb-true, eq-eqb, false≢true}
use Rattle.flat_mem.specs.Vec.{vec_mem_bytes}
use Rattle.volume_view.proofs.RecordedLemmas.{recorded_by}
use Rattle.volume_view.proofs.NameLemmas.{to_map, found_reveals, found_some, found_none, never_broken}
use Rattle.volume_view.proofs.unmapped.is_mapped.Goals as goal

pub returns-in-Ok-Some-clause-mapped : goal.returns-in-Ok-Some-clause-mapped
returns-in-Ok-Some-clause-mapped g c = λ named is.
    let same : vec_mem_bytes c.over.result.mem.now ≡ vec_mem_bytes c.args.map.now = search rules in
    let names = to_map c.args.sectors c.over.result.sectors (vec_mem_bytes c.args.map.now) (vec_mem_bytes c.over.result.mem.now) named c.over.ensures.sectors same (ap length same ∙ c.requires.size) is in
    found_reveals c.args.sectors _ named is c.args.triple.id c.args.triple.page c.args.triple.sector _ (eqb (c.from.result + c.from-in-Ok-Some.result) c.from-in-Ok-Some-2.result) (found_some named c.args.triple.id c.args.triple.page _ _ c.in-Ok-Some.field-0-is (c.in-Ok-Some.ensures.found named names))
    (λ e. omega (arith, eqb-true _ _ e, c.from.ensures, c.from-in-Ok-Some.ensures, c.from-in-Ok-Some-2.ensures))
    (λ e f. false≢true (sym e ∙ eq-eqb (c.from.result + c.from-in-Ok-Some.result) c.from-in-Ok-Some-2.result (omega (arith, f, c.from.ensures, c.from-in-Ok-Some.ensures, c.from-in-Ok-Some-2.ensures))))

pub returns-in-Ok-None-clause-mapped : goal.returns-in-Ok-None-clause-mapped
returns-in-Ok-None-clause-mapped g c = λ named is.
    let same : vec_mem_bytes c.over.result.mem.now ≡ vec_mem_bytes c.args.map.now = search rules in
    let names = to_map c.args.sectors c.over.result.sectors (vec_mem_bytes c.args.map.now) (vec_mem_bytes c.over.result.mem.now) named c.over.ensures.sectors same (ap length same ∙ c.requires.size) is in
    sym (found_none named c.args.triple.id c.args.triple.page _ c.in-Ok-None.field-0-is (c.in-Ok-None.ensures.found named names) c.args.triple.sector)

pub returns-in-Err-Malformed-clause-mapped : goal.returns-in-Err-Malformed-clause-mapped
returns-in-Err-Malformed-clause-mapped g c = λ named is.
    let same : vec_mem_bytes c.over.result.mem.now ≡ vec_mem_bytes c.args.map.now = search rules in
    let names = to_map c.args.sectors c.over.result.sectors (vec_mem_bytes c.args.map.now) (vec_mem_bytes c.over.result.mem.now) named c.over.ensures.sectors same (ap length same ∙ c.requires.size) is in
    never_broken c.in-Err-Malformed.field-0 _ c.in-Err-Malformed.field-0-is (c.in-Err-Malformed.ensures.found named names)

pub returns-in-Ok-Some-clause-recorded : goal.returns-in-Ok-Some-clause-recorded
returns-in-Ok-Some-clause-recorded g c = λ e.
    let same : vec_mem_bytes c.over.result.mem.now ≡ vec_mem_bytes c.args.map.now = search rules in
    recorded_by c.args.sectors c.over.result.sectors (vec_mem_bytes c.args.map.now) (vec_mem_bytes c.over.result.mem.now) c.args.triple.id c.args.triple.page c.args.triple.sector _ _ c.in-Ok-Some.field-0-is c.over.ensures.sectors same
    c.in-Ok-Some.ensures.form c.in-Ok-Some.ensures.holds c.in-Ok-Some.ensures.read (omega (arith, eqb-true _ _ e, c.from.ensures, c.from-in-Ok-Some.ensures, c.from-in-Ok-Some-2.ensures))
