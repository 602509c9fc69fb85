use Rattle.std.proofs.Common.{ℕ, ◌*◌, ◌<◌, ◌^◌, List, length, rules, sym, ◌∙◌, ap, subst, arith}
use Rattle.flat_mem.specs.Vec.{vec_mem_bytes}
use Rattle.labelled_disk.specs.Layout.{first_data, vam}
use Rattle.volume_root.specs.declared.root.Root.{Root}
use Rattle.label_survey.specs.declared.sector_state.SectorState.{SectorState}
use Rattle.label_survey.specs.declared.triples.Triple.{Triple}
use Rattle.label_survey.specs.Counter.{IsRaised}
use Rattle.label_survey.specs.SectorStates.{AreSectorStates}
use Rattle.label_survey.specs.Survey.{is_freed, places_by}
use Rattle.label_survey.specs.Triples.{AreNeeded}
use Rattle.scavenger.specs.Marks.{marks}
use Rattle.scavenger.specs.Naming.{among}
use Rattle.scavenger.proofs.LayoutLemmas.{of_layout, first_within}
use Rattle.scavenger.proofs.NamingLemmas.{names_of}
use Rattle.scavenger.proofs.PlanLemmas.{imagined, imagined_has, are_triples, names_stay, marks_stay, stand_each}
use Rattle.scavenger.proofs.plan.Plan.of.Goals as goal

pub needed_triples-requires-clause-same_length : goal.needed_triples-requires-clause-same_length
needed_triples-requires-clause-same_length g c =
    let n = c.args.layout.now.sectors in
    let has = imagined_has n c.args.labels.items (omega (arith, c.requires.all, first_within n c.requires.counted)) in
    let same = stand_each (imagined n c.args.labels.items) n c.args.labels.items c.args.sector_states.items has (c.requires.sector_states (imagined n c.args.labels.items) has) in
    omega (arith, same, ap length c.deref.ensures.value, ap length c.deref-2.ensures.value)

pub make_names-requires-clause-form : goal.make_names-requires-clause-form
make_names-requires-clause-form g c =
    let n = c.args.layout.now.sectors in
    let parts = of_layout c.args.layout.now n c.requires.layout in
    let d = imagined n c.args.labels.items in
    let has = imagined_has n c.args.labels.items (omega (arith, c.requires.all, first_within n c.requires.counted)) in
    are_triples c.sector_states_reveal.ensures.files d n c.in_ok-triples.triples.items has.sectors
    (c.in_ok-triples.ensures.needed d (parts.first ∙ ap first_data (sym has.sectors)) (c.deref.ensures.value ∙ has.are)
    (subst (λ (xs : List SectorState). AreSectorStates d xs) (sym c.deref-2.ensures.value) (c.requires.sector_states d has)))

pub make_bits-requires-clause-all : goal.make_bits-requires-clause-all
make_bits-requires-clause-all g c =
    let n = c.args.layout.now.sectors in
    let has = imagined_has n c.args.labels.items (omega (arith, c.requires.all, first_within n c.requires.counted)) in
    let same = stand_each (imagined n c.args.labels.items) n c.args.labels.items c.args.sector_states.items has (c.requires.sector_states (imagined n c.args.labels.items) has) in
    ap length c.deref-4.ensures.value ∙ same ∙ c.requires.all

pub returns-clause-sized : goal.returns-clause-sized
returns-clause-sized g c =
    let n = c.args.layout.now.sectors in
    let has = imagined_has n c.args.labels.items (omega (arith, c.requires.all, first_within n c.requires.counted)) in
    let same = stand_each (imagined n c.args.labels.items) n c.args.labels.items c.args.sector_states.items has (c.requires.sector_states (imagined n c.args.labels.items) has) in
    record { sector_states = same ∙ c.requires.all; bits = c.in_ok-bits.ensures.size; names = c.in_ok-names.ensures.size }

pub returns-clause-counter : goal.returns-clause-counter
returns-clause-counter g c =
    let n = c.args.layout.now.sectors in
    let parts = of_layout c.args.layout.now n c.requires.layout in
    let d = imagined n c.args.labels.items in
    let has = imagined_has n c.args.labels.items (omega (arith, c.requires.all, first_within n c.requires.counted)) in
    let needed = c.in_ok-triples.ensures.needed d (parts.first ∙ ap first_data (sym has.sectors)) (c.deref.ensures.value ∙ has.are)
    (subst (λ (xs : List SectorState). AreSectorStates d xs) (sym c.deref-2.ensures.value) (c.requires.sector_states d has)) in
    (c.raise_counter-counter.ensures d (subst (λ (ts : List Triple). AreNeeded d ts) (sym c.deref-3.ensures.value) needed)).kept

pub returns-clause-plan : goal.returns-clause-plan
returns-clause-plan g c =
    let serial : c.args.root.now.serial < 2 ^ 32 = search rules in
    let counter : c.raise_counter-counter.result < 2 ^ 32 = search rules in
    λ d has is.
    let n = c.args.layout.now.sectors in
    let parts = of_layout c.args.layout.now n c.requires.layout in
    let at = parts.first ∙ ap first_data (sym has.sectors) in
    let stand = c.requires.sector_states d has in
    let needed = c.in_ok-triples.ensures.needed d at (c.deref.ensures.value ∙ has.are) (subst (λ (xs : List SectorState). AreSectorStates d xs) (sym c.deref-2.ensures.value) stand) in
    let raised = c.raise_counter-counter.ensures d (subst (λ (ts : List Triple). AreNeeded d ts) (sym c.deref-3.ensures.value) needed) in
    record {
      root = is;
      freed = ap (λ (k : ℕ). places_by is_freed k c.args.sector_states.items) at ∙ c.sector_states_reveal.ensures.freed d c.args.sector_states.items stand;
      bits = record {
        size = c.in_ok-bits.ensures.size ∙ ap (λ (m : ℕ). 512 * vam m) (sym has.sectors);
        used = λ i.
            c.in_ok-bits.ensures.used i
            ∙ ap (λ (xs : List SectorState). marks c.args.layout.now.first xs i) c.deref-4.ensures.value
            ∙ ap (λ (m : ℕ). marks m c.args.sector_states.items i) at
            ∙ marks_stay c.sector_states_reveal.ensures.kept d c.args.sector_states.items stand i;
      };
      names = names_of d n (among c.in_ok-triples.triples.items) (vec_mem_bytes c.in_ok-names.names) has.sectors (names_stay d c.in_ok-triples.triples.items needed) c.in_ok-names.ensures;
      counter = subst (λ (r : Root). IsRaised d r.serial r.counter c.raise_counter-counter.result) is raised;
      serial_fits = serial;
      counter_fits = counter;
    }
