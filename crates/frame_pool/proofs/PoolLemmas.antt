-- A slot of a pool is filled or emptied.
use Rattle.std.proofs.Common.{◌≡◌, ◌≢◌, ◌<◌, ◌≤◌, ◌+◌, ◌∙◌, ℕ, List, Option, Some, None, refl, ap, sym, length, get_or, set, arith, inl, inr, Bool, get_or-set_same, get_or-set_other, length-set}
use Rattle.std.specs.Prelude.{option_map}
use Rattle.frame_pool.specs.declared.found.FoundRun.{FoundRun}
use Rattle.frame_pool.specs.declared.home.Home.{Home}
use Rattle.std.proofs.lemmas.Bool.{cases_eq, cases_lt}
use Rattle.std.proofs.lemmas.Option.{same_Some, none-some}
use Rattle.frame_pool.specs.Frames.{Frame, Slots, frame_at, shown, IsNowhere, IsPageBytes}
use Rattle.frame_pool.specs.FrameLaws.{distinct_put, distinct_cleared, pages_filled, pages_cleared}
use Rattle.frame_pool.specs.Lists.{Lists, IsSized}
use Rattle.frame_pool.specs.Index.{bucket_of, bucket_in, bucket_at, IsIndex, Puts, KeepsButChains}
use Rattle.frame_pool.specs.Order.{slot_at, place_of, IsOrder, Exchanges, HasEmpties, KeepsButOrder}
use Rattle.frame_pool.specs.Pool.{IsPool}

-- the order speaks of the number of slots, and of no frame
pub order_kept : (a b : Lists) → length b.frames ≡ length a.frames → b.orders ≡ a.orders → b.positions ≡ a.positions → IsOrder a → IsOrder b
order_kept a b size orders positions order = record {
  slots = rw (size, orders, positions) order.slots;
  places = rw (size, orders, positions) order.places;
}

index_kept : (at : ℕ → Option ℕ) (a b : Lists) → length b.frames ≡ length a.frames → b.heads ≡ a.heads → b.nexts ≡ a.nexts → IsIndex at a → IsIndex at b
index_kept at a b size heads nexts index = record {
  heads = rw (size, heads) index.heads;
  links = rw nexts index.links;
}

pub sized_chains : (a b : Lists) → KeepsButChains a b → IsSized a → IsSized b
sized_chains a b kept sized = record {
  heads = kept.heads ∙ sized.heads ∙ ap (λ (l : Slots). length l) (sym kept.frames);
  nexts = kept.nexts ∙ sized.nexts ∙ ap (λ (l : Slots). length l) (sym kept.frames);
  orders = ap (λ (l : List ℕ). length l) kept.orders ∙ sized.orders ∙ ap (λ (l : Slots). length l) (sym kept.frames);
  positions = ap (λ (l : List ℕ). length l) kept.positions ∙ sized.positions ∙ ap (λ (l : Slots). length l) (sym kept.frames);
}

pub order_chains : (a b : Lists) → KeepsButChains a b → IsOrder a → IsOrder b
order_chains a b kept order = order_kept a b (ap (λ (l : Slots). length l) kept.frames) kept.orders kept.positions order

-- the lists after a slot's frame was set
abbrev pub with_frame : Lists → Lists → ℕ → Option Frame → Lists
with_frame old new slot x = record new { frames = set old.frames slot x }

-- the buckets of the slots after one was set
pub bucket_puts : (slots : Slots) (slot : ℕ) (x : Option Frame) → slot < length slots → Puts (bucket_at slots) slot (bucket_in (length slots) x) (bucket_at (set slots slot x))
bucket_puts slots slot x below = record {
  here = rw (length-set slots slot x, get_or-set_same slots slot x None below) refl;
  others = λ other apart. rw (length-set slots slot x, get_or-set_other slots slot other x None apart) refl;
}

module _ (l0 l1 l2 : Lists) (slot place : ℕ) (x : Option Frame) (below : slot < length l0.frames) (chains : KeepsButChains l0 l1) (orders : KeepsButOrder l1 l2) where
  abbrev l3 : Lists
  l3 = with_frame l0 l2 slot x

  size : length l3.frames ≡ length l0.frames
  size = length-set l0.frames slot x

  size1 : length l1.frames ≡ length l0.frames
  size1 = ap (λ (l : Slots). length l) chains.frames

  size2 : length l2.frames ≡ length l0.frames
  size2 = ap (λ (l : Slots). length l) (orders.frames ∙ chains.frames)

  sized_set : IsSized l0 → IsSized l3
  sized_set sized = record {
    heads = ap (λ (l : List (Option ℕ)). length l) orders.heads ∙ chains.heads ∙ sized.heads ∙ sym size;
    nexts = ap (λ (l : List (Option ℕ)). length l) orders.nexts ∙ chains.nexts ∙ sized.nexts ∙ sym size;
    orders = orders.orders ∙ ap (λ (l : List ℕ). length l) chains.orders ∙ sized.orders ∙ sym size;
    positions = orders.positions ∙ ap (λ (l : List ℕ). length l) chains.positions ∙ sized.positions ∙ sym size;
  }

  index_set : IsIndex (bucket_at l3.frames) l1 → IsIndex (bucket_at l3.frames) l3
  index_set index = index_kept (bucket_at l3.frames) l1 l3 (size ∙ sym size1) orders.heads orders.nexts index

  order_set : IsOrder l2 → IsOrder l3
  order_set order = order_kept l2 l3 (size ∙ sym size2) refl refl order

  -- where the slots stood before
  was : (i : ℕ) → place_of l1 i ≡ place_of l0 i
  was i = ap (λ (l : List ℕ). get_or l i 0) chains.positions

  moved_here : Exchanges l1 l2 slot place → place_of l2 slot ≡ place
  moved_here moved = moved.here

  moved_displaced : Exchanges l1 l2 slot place → (i : ℕ) → i < length l0.frames → i ≢ slot → place_of l0 i ≡ place → place_of l2 i ≡ place_of l0 slot
  moved_displaced moved i inside apart at = moved.displaced i (rw size1 inside) apart (was i ∙ at) ∙ was slot

  moved_others : Exchanges l1 l2 slot place → (i : ℕ) → i < length l0.frames → i ≢ slot → place_of l0 i ≢ place → place_of l2 i ≡ place_of l0 i
  moved_others moved i inside apart off = moved.others i (rw size1 inside) apart (λ at. off (sym (was i) ∙ at)) ∙ was i

  -- two slots do not stand at one place
  one_place : IsOrder l0 → (i : ℕ) → i < length l0.frames → place_of l0 i ≡ place_of l0 slot → i ≡ slot
  one_place order i inside same = sym (order.places i inside).1 ∙ ap (slot_at l0) same ∙ (order.places slot below).1

  frame_here : frame_at l3.frames slot ≡ x
  frame_here = get_or-set_same l0.frames slot x None below

  frame_there : (i : ℕ) → i ≢ slot → frame_at l3.frames i ≡ frame_at l0.frames i
  frame_there i apart = get_or-set_other l0.frames slot i x None apart

filled_empties : (l0 l1 l2 : Lists) (slot place : ℕ) (f : Frame) → slot < length l0.frames → KeepsButChains l0 l1 → KeepsButOrder l1 l2 → Exchanges l1 l2 slot place → IsOrder l0 → HasEmpties l0 (place + 1) → frame_at l0.frames slot ≡ None
    → HasEmpties (with_frame l0 l2 slot (Some f)) place
filled_empties l0 l1 l2 slot place f below chains orders moved order empties none =
    let long : length (set l0.frames slot (Some f)) ≡ length l0.frames = length-set l0.frames slot (Some f) in
    record {
      few = let few = empties.few in omega (arith, long, few);
      empty = λ i inside low.
          let within : i < length l0.frames = omega (arith, long, inside) in
          elim (cases_eq i slot) [
            | inl same ↦
                let at : place_of l2 i ≡ place = rw same (moved_here l0 l1 l2 slot place (Some f) below chains orders moved) in
                absurd (omega (arith, at, low))
            | inr apart ↦ frame_there l0 l1 l2 slot place (Some f) below chains orders i apart ∙ elim (cases_eq (place_of l0 i) place) [
              | inl at ↦ empties.empty i within (omega (arith, at))
              | inr off ↦
                  let stays = moved_others l0 l1 l2 slot place (Some f) below chains orders moved i within apart off in
                  empties.empty i within (omega (arith, stays, low))
            ]
          ];
      placed = λ i inside is.
          let within : i < length l0.frames = omega (arith, long, inside) in
          elim (cases_eq i slot) [
            | inl same ↦ absurd (none-some f (sym is ∙ ap (frame_at (set l0.frames slot (Some f))) same ∙ frame_here l0 l1 l2 slot place (Some f) below chains orders))
            | inr apart ↦
                let old : place_of l0 i < place + 1 = empties.placed i within (sym (frame_there l0 l1 l2 slot place (Some f) below chains orders i apart) ∙ is) in
                elim (cases_eq (place_of l0 i) place) [
                  | inl at ↦
                      let goes = moved_displaced l0 l1 l2 slot place (Some f) below chains orders moved i within apart at in
                      let own : place_of l0 slot < place + 1 = empties.placed slot below none in
                      let differs : place_of l0 slot ≢ place = λ e. apart (one_place l0 l1 l2 slot place (Some f) below chains orders order i within (at ∙ sym e)) in
                      omega (arith, goes, own, differs)
                  | inr off ↦
                      let stays = moved_others l0 l1 l2 slot place (Some f) below chains orders moved i within apart off in
                      omega (arith, stays, old, off)
                ]
          ];
    }

cleared_empties : (l0 l1 l2 : Lists) (slot place : ℕ) (f : Frame) → slot < length l0.frames → KeepsButChains l0 l1 → KeepsButOrder l1 l2 → Exchanges l1 l2 slot place → IsOrder l0 → HasEmpties l0 place → frame_at l0.frames slot ≡ Some f
    → HasEmpties (with_frame l0 l2 slot None) (place + 1)
cleared_empties l0 l1 l2 slot place f below chains orders moved order empties some =
    let long : length (set l0.frames slot None) ≡ length l0.frames = length-set l0.frames slot None in
    let high : place ≤ place_of l0 slot = elim (cases_lt (place_of l0 slot) place) [
      | inl low ↦ absurd (none-some f (sym (empties.empty slot below low) ∙ some))
      | inr least ↦ least
    ] in
    let inside_place = (order.places slot below).0 in
    record {
      few = omega (arith, long, high, inside_place);
      empty = λ i inside low.
          let within : i < length l0.frames = omega (arith, long, inside) in
          elim (cases_eq i slot) [
            | inl same ↦ ap (frame_at (set l0.frames slot None)) same ∙ frame_here l0 l1 l2 slot place None below chains orders
            | inr apart ↦ frame_there l0 l1 l2 slot place None below chains orders i apart ∙ elim (cases_eq (place_of l0 i) place) [
              | inl at ↦
                  let goes = moved_displaced l0 l1 l2 slot place None below chains orders moved i within apart at in
                  let same : place_of l0 slot ≡ place = omega (arith, goes, low, high) in
                  absurd (apart (one_place l0 l1 l2 slot place None below chains orders order i within (at ∙ sym same)))
              | inr off ↦
                  let stays = moved_others l0 l1 l2 slot place None below chains orders moved i within apart off in
                  empties.empty i within (omega (arith, stays, low, off))
            ]
          ];
      placed = λ i inside is.
          let within : i < length l0.frames = omega (arith, long, inside) in
          elim (cases_eq i slot) [
            | inl same ↦
                let at : place_of l2 i ≡ place = rw same (moved_here l0 l1 l2 slot place None below chains orders moved) in
                omega (arith, at)
            | inr apart ↦
                let old : place_of l0 i < place = empties.placed i within (sym (frame_there l0 l1 l2 slot place None below chains orders i apart) ∙ is) in
                let off : place_of l0 i ≢ place = omega (arith, old) in
                let stays = moved_others l0 l1 l2 slot place None below chains orders moved i within apart off in
                omega (arith, stays, old)
          ];
    }

pub filled_pool : (l0 l1 l2 : Lists) (slot place : ℕ) (f : Frame) → IsPool l0 (place + 1) → slot < length l0.frames → frame_at l0.frames slot ≡ None → IsNowhere l0.frames f.home.id f.home.page → IsPageBytes f.bytes
    → KeepsButChains l0 l1 → ((at : ℕ → Option ℕ) → Puts (bucket_at l0.frames) slot (Some (bucket_of (length l0.frames) f.home.id f.home.page)) at → IsIndex at l1)
    → KeepsButOrder l1 l2 → IsOrder l2 → Exchanges l1 l2 slot place
    → IsPool (with_frame l0 l2 slot (Some f)) place
filled_pool l0 l1 l2 slot place f pool below none nowhere page chains linked orders order moved =
    let long : length (set l0.frames slot (Some f)) ≡ length l0.frames = length-set l0.frames slot (Some f) in
    record {
      least = rw long pool.least;
      most = rw long pool.most;
      sized = sized_set l0 l1 l2 slot place (Some f) below chains orders pool.sized;
      index = index_set l0 l1 l2 slot place (Some f) below chains orders (linked (bucket_at (set l0.frames slot (Some f))) (bucket_puts l0.frames slot (Some f) below));
      order = order_set l0 l1 l2 slot place (Some f) below chains orders order;
      first_empties = filled_empties l0 l1 l2 slot place f below chains orders moved pool.order pool.first_empties none;
      distinct = distinct_put l0.frames slot f below pool.distinct nowhere;
      pages = pages_filled l0.frames slot f below pool.pages page;
    }

pub cleared_pool : (l0 l1 l2 : Lists) (slot place : ℕ) (f : Frame) → IsPool l0 place → slot < length l0.frames → frame_at l0.frames slot ≡ Some f
    → KeepsButChains l0 l1 → ((at : ℕ → Option ℕ) → Puts (bucket_at l0.frames) slot None at → IsIndex at l1)
    → KeepsButOrder l1 l2 → IsOrder l2 → Exchanges l1 l2 slot place
    → IsPool (with_frame l0 l2 slot None) (place + 1)
cleared_pool l0 l1 l2 slot place f pool below some chains unlinked orders order moved =
    let long : length (set l0.frames slot None) ≡ length l0.frames = length-set l0.frames slot None in
    record {
      least = rw long pool.least;
      most = rw long pool.most;
      sized = sized_set l0 l1 l2 slot place None below chains orders pool.sized;
      index = index_set l0 l1 l2 slot place None below chains orders (unlinked (bucket_at (set l0.frames slot None)) (bucket_puts l0.frames slot None below));
      order = order_set l0 l1 l2 slot place None below chains orders order;
      first_empties = cleared_empties l0 l1 l2 slot place f below chains orders moved pool.order pool.first_empties some;
      distinct = distinct_cleared l0.frames slot below pool.distinct;
      pages = pages_cleared l0.frames slot below pool.pages;
    }

-- what the slots remember has no part in it
pub found_pool : (l : Lists) (e : ℕ) (founds : List FoundRun) → IsPool l e → IsPool (record l { founds = founds }) e
found_pool l e founds pool = record {
  least = pool.least;
  most = pool.most;
  sized = record { heads = pool.sized.heads; nexts = pool.sized.nexts; orders = pool.sized.orders; positions = pool.sized.positions };
  index = index_kept (bucket_at l.frames) l (record l { founds = founds }) refl refl refl pool.index;
  order = order_kept l (record l { founds = founds }) refl refl refl pool.order;
  first_empties = record { few = pool.first_empties.few; empty = pool.first_empties.empty; placed = pool.first_empties.placed };
  distinct = pool.distinct;
  pages = pool.pages;
}

-- what is held is of a frame
pub held_frame : (x : Option Frame) (h : Home) (d : Bool) → Some (h, d) ≡ option_map shown x → (f : Frame) × (x ≡ Some f) × (f.home ≡ h)
held_frame None h d is = absurd (none-some (h, d) (sym is))
held_frame (Some f) h d is = (f, refl, ap (λ (p : Home × Bool). p.0) (sym (same_Some (h, d) (shown f) is)))
