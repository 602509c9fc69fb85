-- What an interval shows of a range, and what is resident of it.
use Rattle.std.proofs.Common.{◌≡◌, true, false, inl, inr, ℕ, ◌+◌, ◌<◌, ◌≤◌, List, Some, sym, ◌∙◌, ap, subst, refl, arith}
use Rattle.std.specs.Prelude.{slice_get}
use Rattle.std.proofs.lemmas.Bool.{cases_eq, cases_lt}
use Rattle.std.proofs.lemmas.Option.{none-some, same_Some}
use Rattle.labelled_disk.specs.Sectors.{Sector}
use Rattle.file_map.specs.FileMap.{Triples}
use Rattle.frame_pool.specs.Frames.{Slots, IsEmpty}
use Rattle.flat_machine.specs.declared.space.Space.{Space}
use Rattle.flat_machine.specs.Space.{root_pages}
use Rattle.swap_units.specs.declared.interval.Interval.{Interval}
use Rattle.swap_units.specs.Mode.{is_mapped}
use Rattle.swap_units.specs.Unit.{Holds, block_of}
use Rattle.projection_laws.proofs.Finds.{firsts_are_ascending}
use Rattle.projection_laws.proofs.OneLemmas.{intervals_are_one}
use Rattle.space_tables.specs.SpaceTables.{IsIntervalAt}
use Rattle.space_tables.specs.Stored.{RevealSpaces}
use Rattle.fault_core.specs.Activate.{AreBare, AreWhole, IsShownAt, IsUnitAt}
use Rattle.fault_core.specs.Revealed.{Revealed}
use Rattle.fault_core.specs.Unit.{IsReady, IsResident, IsWhole, file_page}
use Rattle.fault_core.specs.Room.{KeepsWhileEmpty}
use Rattle.filer_kernel.specs.View.{View}
use Rattle.fault_core.proofs.ShowLemmas.{none_past, shown_is, shown_none}
use Rattle.fault_core.proofs.RevealedLemmas.{interval_at, interval_of}

-- ---- What one interval shows.

pub shown_here : {reveals : List ℕ → Type 0} {count : ℕ} {ss : List Space} (t : RevealSpaces reveals count ss) (x : Interval) (page : ℕ) → IsIntervalAt ss page x → is_mapped x.mode ≡ true → IsShownAt ss page
shown_here {ss = ss} t x page at mapped = (record { file = x.id; page = file_page x page }, shown_is t x (interval_of ss page x at) page at.holds mapped)

pub bare_here : {reveals : List ℕ → Type 0} {count : ℕ} {ss : List Space} (t : RevealSpaces reveals count ss) (x : Interval) (page next : ℕ) → IsIntervalAt ss page x → next ≤ x.first + x.pages → is_mapped x.mode ≡ false → AreBare ss page next
bare_here {ss = ss} t x page next at inside bare p from below =
    let low = at.holds.0 in
    shown_none t x (interval_of ss page x at) p (omega (arith, low, from), omega (arith, below, inside)) bare

pub bare_then : (ss : List Space) (a b c : ℕ) → AreBare ss a b → AreBare ss b c → AreBare ss a c
bare_then ss a b c first next p from below = elim (cases_lt p b) [ inl prefix ↦ first p from prefix | inr after ↦ next p after below ]

pub bare_nowhere : (ss : List Space) (a : ℕ) → AreBare ss a a
bare_nowhere ss a p from below = absurd (omega (arith, from, below))

-- after the root no window shows a page
pub bare_past : {reveals : List ℕ → Type 0} {count : ℕ} {ss : List Space} → RevealSpaces reveals count ss → (page stop to : ℕ) → ((p : ℕ) → p < to → p < root_pages → p < stop) → stop ≤ page → AreBare ss page to
bare_past t page stop to all past p above below = elim (cases_lt p root_pages) [
  | inl inside ↦ let before = all p below inside in absurd (omega (arith, before, past, above))
  | inr outside ↦ none_past t p outside
]

-- ---- What is resident of it.

-- two intervals of the same spaces that have a page are one
one_at : (ss : List Space) (page : ℕ) (x y : Interval) → IsIntervalAt ss page x → IsIntervalAt ss page y → x ≡ y
one_at ss page x y at_x at_y =
    let one : at_x.xs ≡ at_y.xs = intervals_are_one ss at_x.xs at_y.xs at_x.projection at_y.projection in
    let there : slice_get at_y.xs at_x.index ≡ Some x = ap (λ (l : List Interval). slice_get l at_x.index) (sym one) ∙ at_x.there in
    let rise = firsts_are_ascending ss at_y.xs at_y.projection in
    let from_x = at_x.holds.0 in
    let below_x = at_x.holds.1 in
    let from_y = at_y.holds.0 in
    let below_y = at_y.holds.1 in
    elim (cases_eq at_x.index at_y.index) [
      | inl same ↦ same_Some x y (sym there ∙ ap (slice_get at_y.xs) same ∙ at_y.there)
      | inr other ↦ elim (cases_lt at_x.index at_y.index) [
        | inl before ↦ let ends = rise.rises at_x.index at_y.index x y before there at_y.there in absurd (omega (arith, ends, below_x, from_y))
        | inr not_before ↦
            let after : at_y.index < at_x.index = omega (arith, other, not_before) in
            let ends = rise.rises at_y.index at_x.index y x after at_y.there there in
            absurd (omega (arith, ends, below_y, from_x))
      ]
    ]

-- no window shows a page there
pub none_whole : {reveals : List ℕ → Type 0} {count : ℕ} {ss : List Space} (t : RevealSpaces reveals count ss) (slots : Slots) (from to : ℕ) → AreBare ss from to → AreWhole ss slots from to
none_whole {ss = ss} t slots from to bare page x above below at mapped =
    let shown = shown_here t x page at mapped in
    absurd (none-some shown.0 (sym (bare page above below) ∙ shown.1))

-- up to its end, a unit that is resident
pub unit_whole : {v : View} {kept : List Interval} {count : ℕ} {m : List Sector} {named : Triples} {ss : List Space} → Revealed v kept count m named ss → (slots : Slots) (page after pages : ℕ) → IsUnitAt ss page after pages → IsReady kept slots page
    → AreWhole ss slots page after
unit_whole {ss = ss} revealed slots page after pages unit ready p x above below at mapped other own =
    let y = unit.interval in
    let z = ready.interval in
    let same : z ≡ y = one_at ss page z y (interval_at ss page z (revealed.cached z ready.is_kept) ready.holds) unit.projected in
    let prefix = (unit.unit.same_block page).1 (unit.projected.holds, refl) in
    let low = prefix.0 in
    let ends = unit.ends in
    let from_first : unit.first ≤ p = omega (arith, low, above) in
    let up_to_last : p < unit.first + pages = omega (arith, below, ends) in
    let in_unit = (unit.unit.same_block p).0 (from_first, up_to_last) in
    let also : x ≡ y = one_at ss p x y at (interval_at ss p y (interval_of ss page y unit.projected) in_unit.0) in
    let held : Holds y other = subst (λ (i : Interval). Holds i other) also own.0 in
    let block : block_of y other ≡ block_of y p = subst (λ (i : Interval). block_of i other ≡ block_of i p) also own.1 in
    let whole : IsWhole slots y page = subst (λ (i : Interval). IsWhole slots i page) same ready.whole in
    subst (λ (i : Interval). IsResident slots i.id (file_page i other)) (sym also) (whole other (held, block ∙ in_unit.1))

-- while a slot is empty they stay
pub whole_stays : (ss : List Space) (s t : Slots) (from to slot : ℕ) → KeepsWhileEmpty s t → IsEmpty t slot → AreWhole ss s from to → AreWhole ss t from to
whole_stays ss s t from to slot room empty whole page x above below at mapped other own = room.resident slot empty x.id (file_page x other) (whole page x above below at mapped other own)

-- and then others are
pub whole_then : (ss : List Space) (s t : Slots) (from mid to slot : ℕ) → KeepsWhileEmpty s t → IsEmpty t slot → AreWhole ss s from mid → AreWhole ss t mid to → AreWhole ss t from to
whole_then ss s t from mid to slot room empty first next page x above below at mapped = elim (cases_lt page mid) [
  | inl prefix ↦ whole_stays ss s t from mid slot room empty first page x above prefix at mapped
  | inr after ↦ next page x after below at mapped
]
