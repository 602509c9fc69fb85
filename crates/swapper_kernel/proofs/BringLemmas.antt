-- Pages that are brought in one after the other.
use Rattle.std.specs.Prelude.{◌≡◌, ℕ, ◌+◌, ◌*◌, ◌<◌, ◌≤◌, List, length, get_or, Some, slice_get}
use Rattle.std.proofs.Common.{refl, sym, ◌∙◌, ap, subst, arith, inl, inr}
use Rattle.std.proofs.lemmas.Bool.{cases_eq}
use Rattle.std.proofs.lemmas.Option.{same_Some, slice_get-get_or}
use Rattle.labelled_disk.specs.declared.layout.Layout.{Layout}
use Rattle.labelled_disk.specs.Sectors.{Sector}
use Rattle.labelled_disk.specs.State.{DiskState}
use Rattle.frame_pool.specs.declared.home.Home.{Home}
use Rattle.frame_pool.specs.Frames.{Slots, Frame, HasPage, IsOf}
use Rattle.frame_pool.specs.ListLaws.{below_of}
use Rattle.swapper_kernel.specs.Homes.{Brings, IsAmong, IsRow, no_home}
use Rattle.swapper_kernel.specs.Stands.{Stands}
use Rattle.swapper_kernel.specs.Goes.{Swaps}
use Rattle.swapper_kernel.specs.GoesLaws.{swaps_itself, swaps_then}
use Rattle.swapper_kernel.specs.Steps.{Steps}
use Rattle.swapper_kernel.specs.CourseLaws.{steps_itself, steps_then, steps_wider}
use Rattle.swapper_kernel.specs.HaltLaws.{brings_itself, brings_then, brings_wider}
use Rattle.swapper_kernel.specs.Bring.{AreThere, IsShown, KeepsRun}

-- the pages of the first n homes were brought in
pub record IsBringing (homes : List Home) (first : DiskState) (before : Slots) (place : Layout) (now : DiskState) (after : Slots) (later : Layout) (n : ℕ) : Type 0 where
  pub swaps : Swaps first before now after
  pub steps : Steps (IsAmong homes) no_home first before now after
  pub brings : Brings (IsAmong homes) before after
  pub there : AreThere after homes n
  pub idle : AreThere before homes (length homes) → (now ≡ first) × (after ≡ before)
  pub same_place : later ≡ place
  pub size : now.sectors ≡ later.sectors
  pub cost : now.transfers ≤ first.transfers + 2 * n

pub bringing_none : (homes : List Home) (disk : DiskState) (slots : Slots) (place : Layout) → disk.sectors ≡ place.sectors → IsBringing homes disk slots place disk slots place 0
bringing_none homes disk slots place size = record {
  swaps = swaps_itself disk slots;
  steps = steps_itself (IsAmong homes) no_home disk slots;
  brings = brings_itself (IsAmong homes) slots;
  there = λ k h below is. absurd (omega (arith, below));
  idle = λ all. (refl, refl);
  same_place = refl;
  size = size;
  cost = omega arith;
}

-- one page more is there, and none of those before it left
pub there_more : (homes : List Home) (before after : Slots) (n : ℕ) (first this : Home) → IsRow homes → slice_get homes 0 ≡ Some first → slice_get homes n ≡ Some this → n < length homes
    → AreThere before homes n → KeepsRun before after this.id first.page (length homes) → (i : ℕ) → HasPage after i this.id this.page → AreThere after homes (n + 1)
there_more homes before after n first this row first_is this_is below there keeps i new k h within is = elim (cases_eq k n) [
  | inl same ↦
      let own : this ≡ h = same_Some this h (sym this_is ∙ ap (slice_get homes) (sym same) ∙ is) in
      (i, subst (λ (x : Home). HasPage after i x.id x.page) own new)
  | inr other ↦
      let old : (j : ℕ) × HasPage before j h.id h.page = there k h (omega (arith, within, other)) is in
      let at = row 0 k first h first_is is in
      let beside = row n k this h this_is is in
      let held : HasPage before old.0 h.id h.page = old.1 in
      let frame : Frame = held.0 in
      let own : IsOf frame h.id h.page = held.2 in
      let id : frame.home.id ≡ this.id = own.0 ∙ beside.0 in
      let page = own.1 in
      let place = at.1 in
      (old.0, (frame, keeps old.0 frame held.1 (id, omega (arith, page, place), omega (arith, page, place, below, within, other)), own))
]

-- nothing was done, where all pages were there
pub stays_idle : {homes : List Home} {first : DiskState} {before : Slots} {place : Layout} {now : DiskState} {slots : Slots} {later : Layout} {n : ℕ}
    → IsBringing homes first before place now slots later n → (this : Home) → slice_get homes n ≡ Some this → (new : DiskState) (after : Slots)
    → ((i : ℕ) → HasPage slots i this.id this.page → (new ≡ now) × (after ≡ slots)) → AreThere before homes (length homes) → (new ≡ first) × (after ≡ before)
stays_idle {homes = homes} {n = n} h this is new after idle all =
    let was = h.idle all in
    let own = all n this (below_of homes n this is) is in
    let next = idle own.0 (subst (λ (s : Slots). HasPage s own.0 this.id this.page) (sym was.1) own.1) in
    (next.0 ∙ was.0, next.1 ∙ was.1)

pub bring_more : {homes : List Home} {first_disk : DiskState} {before : Slots} {place : Layout} {now : DiskState} {slots : Slots} {later : Layout} {n : ℕ}
    → IsBringing homes first_disk before place now slots later n → (this : Home) → slice_get homes n ≡ Some this → (new : DiskState) (after : Slots) (last : Layout) → Swaps now slots new after
    → Steps (λ h. h ≡ this) no_home now slots new after → Brings (λ h. h ≡ this) slots after → last ≡ later → new.transfers ≤ now.transfers + 2
    → ((i : ℕ) → HasPage slots i this.id this.page → (new ≡ now) × (after ≡ slots)) → AreThere after homes (n + 1) → IsBringing homes first_disk before place new after last (n + 1)
bring_more {homes = homes} {n = n} h this is new after last swaps steps brings layout cost idle there = record {
  swaps = swaps_then h.swaps swaps;
  steps = steps_then h.steps (steps_wider (IsAmong homes) no_home (λ home own. (n, is ∙ ap (λ (x : Home). Some x) (sym own))) (λ home no. no) steps);
  brings = brings_then h.brings (brings_wider (IsAmong homes) (λ home own. (n, is ∙ ap (λ (x : Home). Some x) (sym own))) brings);
  there = there;
  idle = stays_idle h this is new after idle;
  same_place = layout ∙ h.same_place;
  size = cc (swaps.makes.went.sectors, h.size, layout);
  cost = omega (arith, h.cost, cost);
}

-- what is there is shown as the memory has it
pub all_shown : (homes : List Home) (disk : DiskState) (slots : Slots) (m : List Sector) → Stands disk slots m → AreThere slots homes (length homes) → (h : Home) → IsAmong homes h → IsShown slots m h
all_shown homes disk slots m stands there h among =
    let its = there among.0 h (below_of homes among.0 h among.1) among.1 in
    record { slot = its.0; frame = its.1.0; has = its.1.1; is = its.1.2; at = stands.merged.frames its.0 its.1.0 its.1.1 }

-- the home at a place of the list is one of them
pub among_at : (homes : List Home) (k : ℕ) (h : Home) → k < length homes → h ≡ get_or homes k (record { sector = 0; id = 0; page = 0 }) → IsAmong homes h
among_at homes k h below own = (k, slice_get-get_or homes k (record { sector = 0; id = 0; page = 0 }) below ∙ ap (λ (x : Home). Some x) (sym own))

-- the loop has come to the end
pub all_there : (homes : List Home) (slots : Slots) (n : ℕ) → length homes ≤ n → AreThere slots homes n → AreThere slots homes (length homes)
all_there homes slots n end there k h below is = there k h (omega (arith, below, end)) is
