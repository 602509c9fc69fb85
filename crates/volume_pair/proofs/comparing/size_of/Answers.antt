use Rattle.std.proofs.Common.{[], ◌∙◌, Ok, Option, ap, subst}
use Rattle.filer_kernel.specs.View.{view_of}
use Rattle.session_words.specs.Parts.{shapes_of}
use Rattle.file_manager.specs.declared.attributes.Attributes.{Attributes}
use Rattle.file_manager.specs.Attributes.{IsAttributesOf}
use Rattle.volume_pair.proofs.CompareLemmas.{has_file, has_none, some_client}
use Rattle.volume_pair.proofs.SideLemmas.{asked_side, looked_alone, side_books, why_of}
use Rattle.volume_pair.proofs.comparing.size_of.Goals as goal

pub returns-in-Ok-Some-clause-known : goal.returns-in-Ok-Some-clause-known
returns-in-Ok-Some-clause-known g c = λ fs x side.
    let v = view_of c.args.filer.now in
    let r = asked_side v (view_of c.attributes_of.new.filer) fs x side c.attributes_of.ensures.stays.layout (c.in-Ok-Some.ensures.revealed 0 x (shapes_of fs) [] (side_books v fs x side)) in
    (r.1, has_file fs c.args.id c.in-Ok-Some.file (subst (IsAttributesOf (shapes_of fs c.args.id)) c.in-Ok-Some.field-0-is r.0))

pub returns-in-Ok-Some-clause-client : goal.returns-in-Ok-Some-clause-client
returns-in-Ok-Some-clause-client g c = some_client c.args.id _ c.in-Ok-Some.file (c.in-Ok-Some.is ∙ ap (λ (o : Option Attributes). Ok o) c.in-Ok-Some.field-0-is) c.attributes_of.ensures.reserved

pub returns-in-Ok-Some-clause-looks : goal.returns-in-Ok-Some-clause-looks
returns-in-Ok-Some-clause-looks g c = looked_alone c.attributes_of.ensures.stays

pub returns-in-Ok-None-clause-known : goal.returns-in-Ok-None-clause-known
returns-in-Ok-None-clause-known g c = λ fs x side.
    let v = view_of c.args.filer.now in
    let r = asked_side v (view_of c.attributes_of.new.filer) fs x side c.attributes_of.ensures.stays.layout (c.in-Ok-None.ensures.revealed 0 x (shapes_of fs) [] (side_books v fs x side)) in
    (r.1, has_none fs c.args.id (subst (IsAttributesOf (shapes_of fs c.args.id)) c.in-Ok-None.field-0-is r.0))

pub returns-in-Ok-None-clause-looks : goal.returns-in-Ok-None-clause-looks
returns-in-Ok-None-clause-looks g c = looked_alone c.attributes_of.ensures.stays

pub returns-in-Err-clause-known : goal.returns-in-Err-clause-known
returns-in-Err-clause-known g c = λ fs x side.
    let v = view_of c.args.filer.now in
    let r = asked_side v (view_of c.attributes_of.new.filer) fs x side c.attributes_of.ensures.stays.layout (c.in-Err.ensures.revealed 0 x (shapes_of fs) [] (side_books v fs x side)) in
    (r.1, r.0)

pub returns-in-Err-clause-looks : goal.returns-in-Err-clause-looks
returns-in-Err-clause-looks g c = looked_alone c.attributes_of.ensures.stays

pub returns-in-Err-clause-why : goal.returns-in-Err-clause-why
returns-in-Err-clause-why g c = why_of c.in-Err.ensures.fails
