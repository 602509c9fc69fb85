-- Two slots that change places in the order.
use Rattle.std.proofs.Common.{◌≡◌, ◌≢◌, ◌<◌, ◌∙◌, ℕ, ap, sym, length, set, inl, inr, get_or-set_same, get_or-set_other, length-set}
use Rattle.std.proofs.lemmas.Bool.{cases_eq}
use Rattle.frame_pool.specs.Lists.{Lists, IsSized}
use Rattle.frame_pool.specs.Order.{slot_at, place_of, IsOrder, Exchanges}

module _ (lists : Lists) (slot place : ℕ) (sized : IsSized lists) (order : IsOrder lists) (slot_in : slot < length lists.frames) (place_in : place < length lists.frames) where
  abbrev from : ℕ
  from = place_of lists slot

  abbrev other : ℕ
  other = slot_at lists place

  abbrev pub exchanged : Lists
  exchanged = record lists { orders = set (set lists.orders from other) place slot; positions = set (set lists.positions other from) slot place }

  orders_long : length lists.orders ≡ length lists.frames
  orders_long = sized.orders

  positions_long : length lists.positions ≡ length lists.frames
  positions_long = sized.positions

  from_in : from < length lists.frames
  from_in = (order.places slot slot_in).0

  other_in : other < length lists.frames
  other_in = (order.slots place place_in).0

  -- what the new order has
  slot_here : slot_at exchanged place ≡ slot
  slot_here = get_or-set_same (set lists.orders from other) place slot 0 (rw (length-set lists.orders from other, sized.orders) place_in)

  slot_there : from ≢ place → slot_at exchanged from ≡ other
  slot_there apart = get_or-set_other (set lists.orders from other) place from slot 0 apart ∙ get_or-set_same lists.orders from other 0 (rw sized.orders from_in)

  slot_elsewhere : (k : ℕ) → k ≢ place → k ≢ from → slot_at exchanged k ≡ slot_at lists k
  slot_elsewhere k a b = get_or-set_other (set lists.orders from other) place k slot 0 a ∙ get_or-set_other lists.orders from k other 0 b

  place_here : place_of exchanged slot ≡ place
  place_here = get_or-set_same (set lists.positions other from) slot place 0 (rw (length-set lists.positions other from, sized.positions) slot_in)

  place_there : other ≢ slot → place_of exchanged other ≡ from
  place_there apart = get_or-set_other (set lists.positions other from) slot other place 0 apart ∙ get_or-set_same lists.positions other from 0 (rw sized.positions other_in)

  place_elsewhere : (i : ℕ) → i ≢ slot → i ≢ other → place_of exchanged i ≡ place_of lists i
  place_elsewhere i a b = get_or-set_other (set lists.positions other from) slot i place 0 a ∙ get_or-set_other lists.positions other i from 0 b

  other_place : place_of lists other ≡ place
  other_place = (order.slots place place_in).1

  from_slot : slot_at lists from ≡ slot
  from_slot = (order.places slot slot_in).1

  pub exchanged_order : IsOrder exchanged
  exchanged_order = record {
    slots = λ k below. elim (cases_eq k place) [
      | inl same ↦ rw (same, slot_here) (slot_in, place_here)
      | inr a ↦ elim (cases_eq k from) [
        | inl same ↦
            let moved : from ≢ place = λ e. a (same ∙ e) in
            let apart : other ≢ slot = λ e. moved (ap (place_of lists) (sym e) ∙ other_place) in
            rw (same, slot_there moved) (other_in, place_there apart)
        | inr b ↦
            let apart : slot_at lists k ≢ slot = λ e. b (sym (order.slots k below).1 ∙ ap (place_of lists) e) in
            let apart2 : slot_at lists k ≢ other = λ e. a (sym (order.slots k below).1 ∙ ap (place_of lists) e ∙ other_place) in
            rw (slot_elsewhere k a b) ((order.slots k below).0, place_elsewhere (slot_at lists k) apart apart2 ∙ (order.slots k below).1)
      ]
    ];
    places = λ i below. elim (cases_eq i slot) [
      | inl same ↦ rw (same, place_here) (place_in, slot_here)
      | inr a ↦ elim (cases_eq i other) [
        | inl same ↦
            let apart : other ≢ slot = λ e. a (same ∙ e) in
            let moved : from ≢ place = λ e. apart (ap (slot_at lists) (sym e) ∙ from_slot) in
            rw (same, place_there apart) (from_in, slot_there moved)
        | inr b ↦
            let apart : place_of lists i ≢ place = λ e. b (sym (order.places i below).1 ∙ ap (slot_at lists) e) in
            let apart2 : place_of lists i ≢ from = λ e. a (sym (order.places i below).1 ∙ ap (slot_at lists) e ∙ from_slot) in
            rw (place_elsewhere i a b) ((order.places i below).0, slot_elsewhere (place_of lists i) apart apart2 ∙ (order.places i below).1)
      ]
    ];
  }

  pub exchanged_places : Exchanges lists exchanged slot place
  exchanged_places = record {
    here = place_here;
    displaced = λ i below a at.
        let it : i ≡ other = sym (order.places i below).1 ∙ ap (slot_at lists) at in
        rw it (place_there (λ e. a (it ∙ e)));
    others = λ i below a apart. place_elsewhere i a (λ e. apart (ap (place_of lists) e ∙ other_place));
  }
