use Rattle.std.proofs.Common.{sym, ◌∙◌, ap, false}
use Rattle.std.specs.Prelude.{nat_le, slice_get, ◌==◌}
use Rattle.std.specs.List.{position_or_len}
use Rattle.std.specs.Option.{option_map_or}
use Rattle.slow_machine.proofs.PlaceLemmas.{put_over, put_between}
use Rattle.slow_machine.proofs.files.put.Goals as goal

pub returns-then-names-clause-ok : goal.returns-then-names-clause-ok
returns-then-names-clause-ok g c =
    put_over c.args.file c.args.files.now.items c.place_of-place.result c.id-id.result c.id-id.ensures
    (c.place_of-place.ensures.is ∙ ap (λ fs. position_or_len (λ f. nat_le c.id-id.result f.id) fs) c.deref.ensures.value)
    (sym (c.names.ensures.is ∙ ap (λ fs. option_map_or (λ f. f.id == c.id-id.result) (slice_get fs c.place_of-place.result) false) c.deref-2.ensures.value) ∙ c.if-names.true)

pub returns-clause-ok : goal.returns-clause-ok
returns-clause-ok g c =
    rw c.in_ok-insert.ensures.items
    (put_between c.args.file c.args.files.now.items c.place_of-place.result c.id-id.result c.id-id.ensures
    (c.place_of-place.ensures.is ∙ ap (λ fs. position_or_len (λ f. nat_le c.id-id.result f.id) fs) c.deref.ensures.value)
    (sym (c.names.ensures.is ∙ ap (λ fs. option_map_or (λ f. f.id == c.id-id.result) (slice_get fs c.place_of-place.result) false) c.deref-2.ensures.value) ∙ c.if-names.false))
