use Rattle.std.proofs.Common.{◌≡◌, ◌<◌, ℕ, List, length, map, sym, ◌∙◌, ap, subst, arith}
use Rattle.std.specs.Prelude.{slice_get, Some}
use Rattle.std.proofs.lemmas.List.{length-map}
use Rattle.std.proofs.lemmas.Option.{slice_get_within}
use Rattle.labelled_disk.specs.declared.label.Label.{Label}
use Rattle.label_survey.specs.declared.entries.Entry.{Entry}
use Rattle.label_survey.specs.Entries.{AreInOrder, AreOf}
use Rattle.label_survey.specs.SectorStates.{AreSectorStates, unclaimed}
use Rattle.label_survey.proofs.SortLemmas.{refilled}
use Rattle.label_survey.proofs.walk.find_sector_states.Goals as goal

within : (labels : List Label) (entries : List Entry) → AreOf labels entries → (k : ℕ) (e : Entry) → slice_get entries k ≡ Some e → e.sector < length labels
within labels entries of k e here = let l = of.each k e here in slice_get_within labels e.sector l.0 l.1

pub claim_sectors-requires-clause-within : goal.claim_sectors-requires-clause-within
claim_sectors-requires-clause-within g c k e here =
    let inside = within c.args.labels.now c.deref.result.now (subst (AreOf c.args.labels.now) (sym c.deref.ensures.value) c.in_ok-entries.ensures.of) k e here in
    let long = ap length c.in_ok-sector_states.ensures in
    omega (arith, inside, long, length-map c.args.labels.now unclaimed, c.deref_mut.ensures.len, ap length c.deref_mut.ensures.value)

pub claim_sectors-requires-clause-order : goal.claim_sectors-requires-clause-order
claim_sectors-requires-clause-order g c = subst AreInOrder (sym c.deref.ensures.value) c.in_ok-entries.ensures.order

pub returns-clause-sector_states : goal.returns-clause-sector_states
returns-clause-sector_states g c = λ d labels.
    let was = c.deref_mut.ensures.value in
    let filled = refilled c.in_ok-sector_states.sector_states.len c.in_ok-sector_states.sector_states.items c.claim_sectors.new.sector_states (omega (arith, c.deref_mut.ensures.len, ap length was)) (c.claim_sectors.ensures.len ∙ ap length was) in
    let are = subst (λ (ls : List Label). AreOf ls c.deref.result.now) labels (subst (AreOf c.args.labels.now) (sym c.deref.ensures.value) c.in_ok-entries.ensures.of) in
    subst (AreSectorStates d) (sym filled) (c.claim_sectors.ensures.claimed d are (was ∙ c.in_ok-sector_states.ensures ∙ ap (map unclaimed) labels))

pub returns-clause-len : goal.returns-clause-len
returns-clause-len g c =
    let was = c.deref_mut.ensures.value in
    let filled = refilled c.in_ok-sector_states.sector_states.len c.in_ok-sector_states.sector_states.items c.claim_sectors.new.sector_states (omega (arith, c.deref_mut.ensures.len, ap length was)) (c.claim_sectors.ensures.len ∙ ap length was) in
    ap length filled ∙ c.claim_sectors.ensures.len ∙ ap length was ∙ ap length c.in_ok-sector_states.ensures ∙ length-map c.args.labels.now unclaimed
