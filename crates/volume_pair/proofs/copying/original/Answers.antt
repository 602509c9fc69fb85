use Rattle.std.proofs.Common.{◌≡◌, [], false, inl, refl, rules, subst}
use Rattle.labelled_disk.specs.Label.{is_file_id}
use Rattle.filer_kernel.specs.View.{view_of}
use Rattle.session_words.specs.Parts.{shapes_of}
use Rattle.file_manager.specs.Attributes.{IsAttributesOf}
use Rattle.volume_pair.proofs.CompareLemmas.{has_none}
use Rattle.volume_pair.proofs.CopyLemmas.{no_such_file, original_is}
use Rattle.volume_pair.proofs.SideLemmas.{asked_side, looked_alone, looked_nothing, side_books, why_of}
use Rattle.volume_pair.proofs.copying.original.Goals as goal

pub returns-then-not-is_file_id-clause-known : goal.returns-then-not-is_file_id-clause-known
returns-then-not-is_file_id-clause-known g c = λ fs x side.
    let other : is_file_id c.args.id ≡ false = search rules in
    (side, inl (no_such_file (view_of c.args.from.now) fs x c.args.id side other, refl))

pub returns-then-not-is_file_id-clause-looks : goal.returns-then-not-is_file_id-clause-looks
returns-then-not-is_file_id-clause-looks g c = looked_nothing (view_of c.args.from.now)

pub returns-in-Ok-Some-clause-known : goal.returns-in-Ok-Some-clause-known
returns-in-Ok-Some-clause-known g c = λ fs x side.
    let v = view_of c.args.from.now in
    let r = asked_side v (view_of c.attributes_of.new.filer) fs x side c.attributes_of.ensures.stays.layout (c.in-Ok-Some.ensures.revealed 0 x (shapes_of fs) [] (side_books v fs x side)) in
    (r.1, rw c.judged.ensures (original_is fs c.args.id c.in-Ok-Some.file (subst (IsAttributesOf (shapes_of fs c.args.id)) c.in-Ok-Some.field-0-is r.0)))

pub returns-in-Ok-Some-clause-looks : goal.returns-in-Ok-Some-clause-looks
returns-in-Ok-Some-clause-looks g c = looked_alone c.attributes_of.ensures.stays

pub returns-in-Ok-None-clause-known : goal.returns-in-Ok-None-clause-known
returns-in-Ok-None-clause-known g c = λ fs x side.
    let v = view_of c.args.from.now in
    let r = asked_side v (view_of c.attributes_of.new.filer) fs x side c.attributes_of.ensures.stays.layout (c.in-Ok-None.ensures.revealed 0 x (shapes_of fs) [] (side_books v fs x side)) in
    (r.1, inl (has_none fs c.args.id (subst (IsAttributesOf (shapes_of fs c.args.id)) c.in-Ok-None.field-0-is r.0), refl))

pub returns-in-Ok-None-clause-looks : goal.returns-in-Ok-None-clause-looks
returns-in-Ok-None-clause-looks g c = looked_alone c.attributes_of.ensures.stays

pub returns-in-Err-clause-known : goal.returns-in-Err-clause-known
returns-in-Err-clause-known g c = λ fs x side.
    let v = view_of c.args.from.now in
    let r = asked_side v (view_of c.attributes_of.new.filer) fs x side c.attributes_of.ensures.stays.layout (c.in-Err.ensures.revealed 0 x (shapes_of fs) [] (side_books v fs x side)) in
    (r.1, r.0)

pub returns-in-Err-clause-looks : goal.returns-in-Err-clause-looks
returns-in-Err-clause-looks g c = looked_alone c.attributes_of.ensures.stays

pub returns-in-Err-clause-why : goal.returns-in-Err-clause-why
returns-in-Err-clause-why g c = why_of c.in-Err.ensures.fails
