use Rattle.std.proofs.Common.{◌≡◌, ◌∙◌, false, refl, sym, arith, slice_index_or}
use Rattle.std.proofs.lemmas.Option.{slice_get-get_or, none-some}
use Rattle.labelled_disk.specs.Label.{leader_page}
use Rattle.label_survey.specs.declared.triples.Triple.{Triple}
use Rattle.volume_view.proofs.FileLemmas.{line_there, label_there}
use Rattle.volume_view.proofs.files.line_of.Goals as goal

abbrev no_triple : Triple
no_triple = record { id = 0; page = 0; sector = 0 }

pub returns-in-Some : goal.returns-in-Some
returns-in-Some c = λ d from are sorted.
    let revealed = c.files_are_as_revealed.ensures false d in
    let t = slice_index_or c.args.triples.now c.args.k no_triple in
    let at = slice_get-get_or c.args.triples.now c.args.k no_triple c.requires in
    let lead : t.page ≡ leader_page = omega (arith, c.if-triple.false) in
    let there = label_there d revealed c.args.triples.now sorted c.args.labels.now c.args.first from are c.args.k t at in
    line_there d revealed c.args.triples.now sorted c.args.labels.now c.args.first from are c.args.k t
    (record { id = t.id; pages = c.pages_before.result; kind = c.in-Some.label.kind; immutable = c.marks.result.immutable; leader = t.sector }) c.in-Some.label
    at lead (sym (c.in-Some.ensures there.0)) refl (λ f is. c.pages_before.ensures d sorted t f at lead is) refl c.marks.ensures.immutable refl

pub returns-in-None : goal.returns-in-None
returns-in-None c = λ d from are sorted t at lead.
    let revealed = c.files_are_as_revealed.ensures false d in
    let own = slice_index_or c.args.triples.now c.args.k no_triple in
    let there = label_there d revealed c.args.triples.now sorted c.args.labels.now c.args.first from are c.args.k own (slice_get-get_or c.args.triples.now c.args.k no_triple c.requires) in
    none-some there.1.0 (c.in-None.ensures there.0 ∙ there.1.1)
