-- Homes of pages in a row, found one after the other.
use Rattle.std.proofs.Common.{◌≡◌, ◌⊎◌, inl, inr, ℕ, zero, suc, ◌+◌, ◌*◌, ◌<◌, ◌≤◌, true, List, [], ◌∷◌, length, take, Option, Some, refl, sym, ◌∙◌, ap, subst, arith, length-set}
use Rattle.std.specs.Prelude.{IfSome, slice_get, slice_set}
use Rattle.std.proofs.lemmas.Bool.{cases_eq}
use Rattle.std.proofs.lemmas.List.{length-take-le}
use Rattle.std.proofs.lemmas.Option.{same_Some, none-some}
use Rattle.labelled_disk.specs.Sectors.{Sector}
use Rattle.labelled_disk.specs.declared.evidence.Halt.{Halt}
use Rattle.labelled_disk.specs.declared.evidence.Halt.TheVariants.{Disk}
use Rattle.frame_pool.specs.declared.home.Home.{Home}
use Rattle.frame_pool.specs.Frames.{Slots}
use Rattle.frame_pool.specs.ListLaws.{get_same, get_other, below_of}
use Rattle.file_map.specs.declared.run.Run.{Run}
use Rattle.file_map.specs.Run.{IsRun, holds, sector_at}
use Rattle.file_map.specs.FileMap.{Triples}
use Rattle.file_map.proofs.Runs.{has_page}
use Rattle.filer_kernel.specs.Causes.{IsGiven}
use Rattle.filer_kernel.specs.Evidence.{MayBeMissing}
use Rattle.filer_kernel.specs.PlaceLaws.{data_first}
use Rattle.swapper_kernel.specs.Goes.{no_page}
use Rattle.swapper_kernel.specs.Homes.{IsLayout, IsAmong}
use Rattle.swapper_kernel.specs.HaltLaws.{brings_itself, brings_then}
use Rattle.filer_kernel.specs.View.{View, kept_by}
use Rattle.fault_core.specs.Reach.{IsReachedHome, Reaches, StayOrYield, TouchHalts, BringsOwn, no_break}
use Rattle.fault_core.specs.Revealed.{Known}
use Rattle.fault_core.specs.Finding.{IsRunFor}
use Rattle.fault_core.specs.Homes.{AreHomesOf, HaveSectors}
use Rattle.fault_core.specs.Room.{KeepsWhileEmpty}
use Rattle.fault_core.proofs.BeforeLemmas.{given_before, touches_of}
use Rattle.fault_core.proofs.ReachLemmas.{reaches_itself, reaches_then, finds_before, known_after}
use Rattle.fault_core.proofs.RoomLemmas.{room_itself, room_then}
use Rattle.fault_core.proofs.YieldLemmas.{yield_itself, yield_then}

-- a home that was found for the page
pub record IsHomeFor (v : View) (id page : ℕ) (h : Home) : Type 0 where
  pub is_id : h.id ≡ id
  pub is_page : h.page ≡ page
  pub reached : IsReachedHome v h

-- the homes of the first k pages were found
pub record IsFinding (v : View) (id first pages : ℕ) (w : View) (homes : List Home) (k : ℕ) : Type 0 where
  pub below : k ≤ pages
  pub size : w.disk.sectors ≡ w.layout.sectors
  pub reaches : Reaches v w
  pub came : BringsOwn v.slots w.slots
  pub room : KeepsWhileEmpty v.slots w.slots
  pub stay : StayOrYield v.slots w.slots
  pub long : length homes ≡ 16
  pub found : (j : ℕ) (h : Home) → j < k → slice_get homes j ≡ Some h → IsHomeFor v id (first + j) h
  pub are_named : (m : List Sector) (named : Triples) (b : List ℕ) → Known v m named b → (j : ℕ) (h : Home) → j < k → slice_get homes j ≡ Some h → named h.id h.page h.sector ≡ true
  pub cost : w.disk.transfers ≤ v.disk.transfers + 14 * k

-- the run at hand, if there is one, is one that the map gave
abbrev pub IsInHand : ℕ → View → Option Run → Type 0
IsInHand id v hand = IfSome hand (IsRunFor id v)

-- the home that a run gives to a page of a client's file
pub home_found : (v : View) (r : Run) (id page : ℕ) → IsLayout v.layout → 16 ≤ id → IsGiven v.layout v.disk v.slots (kept_by v) r → IsRun v.layout.sectors r → holds r id page ≡ true
    → IsReachedHome v (record { sector = sector_at r page; id = id; page = page })
home_found v r id page is client given form held =
    let has = has_page r id page held in
    let from = form.from_data in
    let inside = form.inside in
    let first = data_first v.layout is in
    record {
      on_data = record { id = inr client; from = omega (arith, from, first); below = omega (arith, inside, has.from, has.below) };
      by_run = record { run = r; given = given; form = form; has = held; at = refl };
    }

pub finding_none : (v : View) (id first pages : ℕ) (homes : List Home) → v.disk.sectors ≡ v.layout.sectors → length homes ≡ 16 → IsFinding v id first pages v homes 0
finding_none v id first pages homes size long = record {
  below = omega arith;
  size = size;
  reaches = reaches_itself v;
  came = brings_itself (λ home. (1 ≤ home.id) × (home.id ≤ 3)) v.slots;
  room = room_itself v.slots;
  stay = yield_itself v.slots;
  long = long;
  found = λ j h below here. absurd (omega (arith, below));
  are_named = λ m named b known j h below here. absurd (omega (arith, below));
  cost = omega arith;
}

-- an element after one was set
set_cases : (homes : List Home) (k j : ℕ) (home h : Home) → k < length homes → j < k + 1 → slice_get (slice_set homes k home) j ≡ Some h → ((j ≡ k) × (home ≡ h)) ⊎ ((j < k) × (slice_get homes j ≡ Some h))
set_cases homes k j home h long below here = elim (cases_eq j k) [
  | inl same ↦ inl (same, same_Some home h (sym (get_same homes k home long) ∙ ap (slice_get (slice_set homes k home)) (sym same) ∙ here))
  | inr other ↦ inr (omega (arith, below, other), sym (get_other homes k j home other) ∙ here)
]

module _ {v : View} {id first pages : ℕ} {w : View} {homes : List Home} {k : ℕ} (is : IsLayout v.layout) (h : IsFinding v id first pages w homes k) where
  -- a run that the map gave later, or that was at hand
  pub finding_run : (hand : Option Run) (r : Run) → IsInHand id v hand → (hand ≡ Some r) ⊎ IsRunFor id w r → IsRunFor id v r
  finding_run hand r in_hand which = elim which [
    | inl same ↦ subst (λ (o : Option Run). IfSome o (IsRunFor id v)) same in_hand
    | inr is_new ↦ record {
      form = subst (λ l. IsRun l.sectors r) h.reaches.layout is_new.form;
      given = given_before v w is (touches_of no_page h.reaches) r is_new.given;
      named = λ m named b known p held. is_new.named m named b (known_after v w m named b is h.reaches known) p held;
    }
  ]

  pub finding_more : (x : View) (r : Run) → pages ≤ 16 → k < pages → 16 ≤ id → IsRunFor id v r → holds r id (first + k) ≡ true
      → Reaches w x → BringsOwn w.slots x.slots → KeepsWhileEmpty w.slots x.slots → StayOrYield w.slots x.slots → x.disk.transfers ≤ w.disk.transfers + 14
      → IsFinding v id first pages x (slice_set homes k (record { sector = sector_at r (first + k); id = id; page = first + k })) (k + 1)
  finding_more x r few below client run held next came room stay cost =
      let home : Home = record { sector = sector_at r (first + k); id = id; page = first + k } in
      let long = h.long in
      let inside : k < length homes = omega (arith, long, below, few) in
      let same_long : length (slice_set homes k home) ≡ length homes = simp length-set in
      record {
        below = omega (arith, below);
        size = next.goes.makes.went.sectors ∙ h.size ∙ ap (λ l. l.sectors) (sym next.layout);
        reaches = reaches_then v w is h.reaches x next;
        came = brings_then h.came came;
        room = room_then h.room room;
        stay = yield_then h.stay stay;
        long = same_long ∙ long;
        found = λ j g under here. elim (set_cases homes k j home g inside under here) [
          | inl (at, same) ↦ subst (IsHomeFor v id (first + j)) same (record { is_id = refl; is_page = ap (λ n. first + n) (sym at); reached = home_found v r id (first + k) is client run.given run.form held })
          | inr (prefix, was) ↦ h.found j g prefix was
        ];
        are_named = λ m named b known j g under here. elim (set_cases homes k j home g inside under here) [
          | inl (at, same) ↦ subst (λ (o : Home). named o.id o.page o.sector ≡ true) same (run.named m named b known (first + k) held)
          | inr (prefix, was) ↦ h.are_named m named b known j g prefix was
        ];
        cost = let c = h.cost in omega (arith, c, cost);
      }

  pub finding_halt : (x : View) (e : Halt) → TouchHalts no_break w x e → TouchHalts no_break v x e
  finding_halt x e halts = finds_before v w is h.reaches MayBeMissing no_break no_break (λ page none. none) x x (omega arith) e halts

  pub finding_sound : (e : Halt) → k < pages → ((m : List Sector) (named : Triples) (b : List ℕ) (sector : ℕ) → Known w m named b → named id (first + k) sector ≡ true → e ≡ Disk)
      → (m : List Sector) (named : Triples) (b : List ℕ) → Known v m named b → HaveSectors named id first pages → e ≡ Disk
  finding_sound e below sound m named b known have =
      let own = have k below in
      sound m named b own.0 (known_after v w m named b is h.reaches known) own.1

  pub finding_came : (t : Slots) → BringsOwn w.slots t → BringsOwn v.slots t
  finding_came t came = brings_then h.came came

  pub finding_room : (t : Slots) → KeepsWhileEmpty w.slots t → KeepsWhileEmpty v.slots t
  finding_room t room = room_then h.room room

  pub finding_stay : (t : Slots) → StayOrYield w.slots t → StayOrYield v.slots t
  finding_stay t stay = yield_then h.stay stay

  pub finding_stopped : (x : View) → Reaches w x → Reaches v x
  finding_stopped x next = reaches_then v w is h.reaches x next

  pub finding_cost : (x : View) → k < pages → x.disk.transfers ≤ w.disk.transfers + 14 → x.disk.transfers ≤ v.disk.transfers + 14 * pages
  finding_cost x below cost = let c = h.cost in omega (arith, c, cost, below)

-- ---- The list of them.

get_taken : {X : Type 0} (n : ℕ) (xs : List X) (k : ℕ) (x : X) → slice_get (take n xs) k ≡ Some x → slice_get xs k ≡ Some x
get_taken zero xs k x here = absurd (none-some x here)
get_taken (suc n) [] k x here = here
get_taken (suc n) (y ∷ ys) zero x here = here
get_taken (suc n) (y ∷ ys) (suc k) x here = get_taken n ys k x here

long_taken : (k : ℕ) (homes : List Home) → k ≤ 16 → length homes ≡ 16 → length (take k homes) ≡ k
long_taken k homes few long = length-take-le k homes (omega (arith, few, long))

module _ {v : View} {id first pages : ℕ} {w : View} {homes : List Home} {k : ℕ} (few : k ≤ 16) (h : IsFinding v id first pages w homes k) where
  below_taken : (j : ℕ) (g : Home) → slice_get (take k homes) j ≡ Some g → j < k
  below_taken j g here =
      let below = below_of (take k homes) j g here in
      let long = long_taken k homes few h.long in
      omega (arith, below, long)

  pub found_are : AreHomesOf id first k (take k homes)
  found_are = record {
    count = long_taken k homes few h.long;
    each = λ j g here. let own = h.found j g (below_taken j g here) (get_taken k homes j g here) in (own.is_id, own.is_page);
  }

  pub found_each : (g : Home) → IsAmong (take k homes) g → IsReachedHome v g
  found_each g among = (h.found among.0 g (below_taken among.0 g among.1) (get_taken k homes among.0 g among.1)).reached

  pub found_named : (m : List Sector) (named : Triples) (b : List ℕ) → Known v m named b → (g : Home) → IsAmong (take k homes) g → named g.id g.page g.sector ≡ true
  found_named m named b known g among = h.are_named m named b known among.0 g (below_taken among.0 g among.1) (get_taken k homes among.0 g among.1)
