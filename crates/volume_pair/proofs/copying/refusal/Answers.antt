use Rattle.std.proofs.Common.{◌∙◌, Option, Some, ap, subst, sym}
use Rattle.std.specs.Option.{option_map_or}
use Rattle.labelled_disk.specs.File.{File}
use Rattle.pair_machine.specs.declared.call.PairRefusal.TheVariants as why
use Rattle.volume_pair.specs.Comparing.{IsSizeIn}
use Rattle.volume_pair.specs.Copying.{room_refusal}
use Rattle.volume_pair.proofs.CopyLemmas.{exists_not_none}
use Rattle.volume_pair.proofs.copying.refusal.Goals as goal

pub returns-in-Ok-Some-clause-known : goal.returns-in-Ok-Some-clause-known
returns-in-Ok-Some-clause-known g c = λ gs y side.
    let r = c.in-Ok-Some.ensures.known gs y side in
    let found = subst (IsSizeIn gs c.args.id) c.in-Ok-Some.field-0-is r.1 in
    (r.0, sym (ap (λ (o : Option File). option_map_or (λ g. Some why.Exists) o (room_refusal c.args.volume.now c.args.id c.args.pages)) found.1))

pub returns-in-Ok-Some-clause-takes : goal.returns-in-Ok-Some-clause-takes
returns-in-Ok-Some-clause-takes g c = λ none. exists_not_none none

pub returns-in-Ok-None-clause-known : goal.returns-in-Ok-None-clause-known
returns-in-Ok-None-clause-known g c = λ gs y side.
    let r = c.in-Ok-None.ensures.known gs y side in
    let none = subst (IsSizeIn gs c.args.id) c.in-Ok-None.field-0-is r.1 in
    (r.0, c.refusal_of.ensures.exact ∙ sym (ap (λ (o : Option File). option_map_or (λ g. Some why.Exists) o (room_refusal c.args.volume.now c.args.id c.args.pages)) none))
