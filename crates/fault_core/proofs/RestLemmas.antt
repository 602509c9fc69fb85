-- Frames that are flushed or evicted, and stay so.
use Rattle.std.proofs.Common.{◌≡◌, ◌⊎◌, inl, inr, ℕ, ◌+◌, ◌-◌, ◌<◌, ◌≤◌, Bool, true, false, List, [], ◌∷◌, length, refl, sym, ◌∙◌, ap, subst, arith}
use Rattle.std.specs.Prelude.{if◌then◌else◌, min}
use Rattle.std.proofs.lemmas.Bool.{cases_lt}
use Rattle.std.proofs.lemmas.Option.{same_Some, none-some}
use Rattle.labelled_disk.specs.Sectors.{Sector}
use Rattle.file_map.specs.FileMap.{Triples}
use Rattle.force_calls.specs.Run.{dirty_count, is_dirty_in}
use Rattle.frame_pool.specs.declared.home.Home.{Home}
use Rattle.frame_pool.specs.Frames.{Frame, Slots, Has}
use Rattle.flat_machine.specs.declared.space.Space.{Space}
use Rattle.flat_machine.specs.declared.space.FilePage.{FilePage}
use Rattle.flat_machine.specs.Space.{root_pages}
use Rattle.swap_units.specs.declared.interval.Interval.{Interval}
use Rattle.swap_units.specs.Mode.{is_mapped}
use Rattle.swap_units.specs.Unit.{Holds}
use Rattle.swapper_kernel.specs.Goes.{Swaps}
use Rattle.swapper_kernel.specs.HaltLaws.{brings_same}
use Rattle.swapper_kernel.specs.Homes.{IsLayout, no_home}
use Rattle.session_words.proofs.FoundLemmas.{above_reserved}
use Rattle.space_tables.specs.Stored.{RevealSpaces}
use Rattle.fault_core.specs.declared.range.WriteBack.{WriteBack}
use Rattle.fault_core.specs.declared.range.WriteBack.TheVariants.{Flush, Evict}
use Rattle.fault_core.specs.Range.{AreWrittenBack, IsWrittenBack, LeavesFrames}
use Rattle.fault_core.specs.Reach.{Reaches, BringsOwn, StayOrYield}
use Rattle.fault_core.specs.Revealed.{IsIntervalOf, Revealed}
use Rattle.fault_core.specs.Unit.{file_page}
use Rattle.filer_kernel.specs.View.{View}
use Rattle.fault_core.proofs.ReachLemmas.{reaches_itself}
use Rattle.fault_core.proofs.ShowLemmas.{none_past, shown_is, shown_none}
use Rattle.fault_core.proofs.TurnLemmas.{reaches_brought}
use Rattle.fault_core.proofs.YieldLemmas.{stay_yields, yield_then}

-- frames are written out, or given up
pub write_back_reaches : (v x : View) → IsLayout v.layout → Swaps v.disk v.slots x.disk x.slots → ((i : ℕ) (f : Frame) → Has x.slots i f → (g : Frame) × Has v.slots i g × (g.home ≡ f.home) × (g.bytes ≡ f.bytes)) → x.layout ≡ v.layout → x.runs ≡ v.runs → Reaches v x
write_back_reaches v x is swaps frames layout runs = reaches_brought v v x is (reaches_itself v) no_home (λ home none. absurd none) swaps (brings_same no_home frames) layout runs

pub few_dirty : (id first pages : ℕ) (s : Slots) → dirty_count id first pages s ≤ length s
few_dirty id first pages [] = omega arith
few_dirty id first pages (o ∷ s) = by (is_dirty_in id first pages o) (few_dirty id first pages s)
  where
    by : (b : Bool) → dirty_count id first pages s ≤ length s → (if b then 1 else 0) + dirty_count id first pages s ≤ length (o ∷ s)
    by true few = omega (arith, few)
    by false few = omega (arith, few)

-- ---- What is flushed or evicted stays so, where pages of clients don't come.

rest_stays : (v w : View) → Reaches v w → BringsOwn v.slots w.slots → (write_back : WriteBack) (id page : ℕ) → 16 ≤ id → IsWrittenBack write_back v.slots id page → IsWrittenBack write_back w.slots id page
rest_stays v w h came Flush id page client rest = λ dirty. elim (h.goes.makes.dirty id page dirty) [
  | inl was ↦ rest was
  | inr (inl three) ↦ absurd (omega (arith, client, three))
  | inr (inr two) ↦ absurd (omega (arith, client, two))
]
rest_stays v w h came Evict id page client rest = λ there.
    let f = there.1.0 in
    let own = there.1.2 in
    elim (came.homes f.home (record { slot = there.0; frame = f; has = there.1.1; at = refl })) [
      | inl held ↦ rest (held.slot, (held.frame, held.has, (ap (λ (h : Home). h.id) held.at ∙ own.0, ap (λ (h : Home). h.page) held.at ∙ own.1)))
      | inr low ↦ let most = low.1 in let same = own.0 in absurd (omega (arith, client, most, same))
    ]

pub rests_stay : {v w : View} {kept : List Interval} {count : ℕ} {m : List Sector} {named : Triples} {ss : List Space} → Revealed v kept count m named ss → Reaches v w → BringsOwn v.slots w.slots
    → (write_back : WriteBack) (from to : ℕ) → AreWrittenBack write_back ss v.slots from to → AreWrittenBack write_back ss w.slots from to
rests_stay {v = v} {w = w} revealed h came write_back from to rest page shown above below is =
    rest_stays v w h came write_back shown.file shown.page (above_reserved shown.file (revealed.stored page shown is).of_file) (rest page shown above below is)

pub rest_then : (write_back : WriteBack) (ss : List Space) (s : Slots) (a b c : ℕ) → AreWrittenBack write_back ss s a b → AreWrittenBack write_back ss s b c → AreWrittenBack write_back ss s a c
rest_then write_back ss s a b c first next page shown above below is = elim (cases_lt page b) [ inl low ↦ first page shown above low is | inr high ↦ next page shown high below is ]

pub rest_nowhere : (write_back : WriteBack) (ss : List Space) (s : Slots) (a : ℕ) → AreWrittenBack write_back ss s a a
rest_nowhere write_back ss s a page shown above below is = absurd (omega (arith, above, below))

-- ---- What one interval shows.

module _ {reveals : List ℕ → Type 0} {count : ℕ} {ss : List Space} (t : RevealSpaces reveals count ss) (write_back : WriteBack) (s : Slots) (page next : ℕ) where
  pub none_written_back : root_pages ≤ page → AreWrittenBack write_back ss s page next
  none_written_back past p u above below is = absurd (none-some u (sym (none_past t p (omega (arith, past, above))) ∙ is))

  module _ (x : Interval) (of : IsIntervalOf ss x) (holds : Holds x page) (inside : next ≤ x.first + x.pages) where
    pub bare_written_back : is_mapped x.mode ≡ false → AreWrittenBack write_back ss s page next
    bare_written_back bare p u above below is =
        let from = holds.0 in
        let held : Holds x p = (omega (arith, from, above), omega (arith, below, inside)) in
        absurd (none-some u (sym (shown_none t x of p held bare) ∙ is))

    pub run_written_back : is_mapped x.mode ≡ true → ((q : ℕ) → file_page x page ≤ q → q < file_page x page + (next - page) → IsWrittenBack write_back s x.id q) → AreWrittenBack write_back ss s page next
    run_written_back mapped rest p u above below is =
        let from = holds.0 in
        let held : Holds x p = (omega (arith, from, above), omega (arith, below, inside)) in
        let same : u ≡ record { file = x.id; page = file_page x p } = same_Some u (record { file = x.id; page = file_page x p }) (sym is ∙ shown_is t x of p held mapped) in
        subst (λ (u : FilePage). IsWrittenBack write_back s u.file u.page) (sym same) (rest (file_page x p) (omega (arith, from, above)) (omega (arith, from, above, below)))

pub next_of : (next a b : ℕ) → next ≡ min a b → (next ≡ b) ⊎ (next ≡ a)
next_of next a b is = elim (cases_lt a b) [ inl less ↦ inr (omega (arith, is, less)) | inr from ↦ inl (omega (arith, is, from)) ]

-- ---- Frames that stay.

pub leaves_same : (write_back : WriteBack) (id first pages : ℕ) (s t : Slots) → t ≡ s → LeavesFrames write_back id first pages s t
leaves_same write_back id first pages s t same = subst (LeavesFrames write_back id first pages s) (sym same) (itself write_back)
  where
    itself : (write_back : WriteBack) → LeavesFrames write_back id first pages s s
    itself Flush = λ i f has. (f, has, refl, refl)
    itself Evict = record { others = λ i outside. refl; frames = λ i f has. (f, has, refl, refl) }

-- an interval that was kept is the one that was looked up
pub part_all : (x y : Interval) (next end : ℕ) → next ≡ min (x.first + x.pages) end → y ≡ x → end ≤ y.first + y.pages → next ≡ end
part_all x y next end least same inside =
    let ends : y.first + y.pages ≡ x.first + x.pages = ap (λ (z : Interval). z.first + z.pages) same in
    omega (arith, least, ends, inside)

pub part_leaves : (write_back : WriteBack) (x y : Interval) (page next end : ℕ) (s t u : Slots) → y ≡ x → next ≡ end → t ≡ s → LeavesFrames write_back x.id (file_page x page) (next - page) t u → LeavesFrames write_back y.id (file_page y page) (end - page) s u
part_leaves write_back x y page next end s t u same all slots left =
    subst (λ (z : Interval). LeavesFrames write_back z.id (file_page z page) (end - page) s u) (sym same)
    (subst (λ (n : ℕ). LeavesFrames write_back x.id (file_page x page) (n - page) s u) all (subst (λ (b : Slots). LeavesFrames write_back x.id (file_page x page) (next - page) b u) slots left))

-- pages of the volume's own came, and frames of a run were written out
pub run_yields : (write_back : WriteBack) (id first pages : ℕ) (s t u : Slots) → StayOrYield s t → LeavesFrames write_back id first pages t u → write_back ≡ Flush → StayOrYield s u
run_yields write_back id first pages s t u come leaves forced = yield_then come (stay_yields (subst (λ (w : WriteBack). LeavesFrames w id first pages t u) forced leaves))
