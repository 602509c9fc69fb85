-- What an interval reveals of its pages.
use Rattle.std.proofs.Common.{◌≡◌, ◌≢◌, ℕ, ◌+◌, ◌-◌, ◌≤◌, true, false, not, cond, Option, Some, None, refl, sym, ◌∙◌, ap, arith, eqb}
use Rattle.std.specs.Prelude.{option_map, option_and_then, ◌==◌, if◌then◌else◌, is_some}
use Rattle.std.specs.Option.{option_map_or}
use Rattle.std.proofs.lemmas.Bool.{false≢true, ne_eqb}
use Rattle.flat_machine.specs.declared.space.Space.{Space}
use Rattle.flat_machine.specs.declared.space.Window.{Window}
use Rattle.flat_machine.specs.Space.{innermost, mapped_at, is_mapped, is_writable}
use Rattle.flat_machine.specs.At.{page_through}
use Rattle.swap_units.specs.Mode as mode
use Rattle.projection_laws.specs.Sight.{Interval, Inner, Shown, Sight, sight_at, inner_of, shown_of, mode_through, mode_shown, id_shown, page_shown, handle_shown}
use Rattle.projection_laws.specs.Laws.{IntervalsReveal}
use Rattle.projection_laws.proofs.Inside.{showing_found, hold_parts, mapped_named}
use Rattle.projection_laws.proofs.Bridge.{from_there}
use Rattle.projection_laws.proofs.Forms.{part_at, says}

-- the file page that a mapped space shows, by its window
through_window : (t : Space) (first page : ℕ) (o : Option Window) → is_some o ≡ true → t.first ≤ first → first ≤ page
    → option_map (λ w. page_through t w page) o
    ≡ (if mode.is_mapped (mode_through o) then Some (record { file = option_map_or (λ w. w.file) o 0; page = option_map_or (λ w. w.first + (first - t.first)) o 0 + (page - first) }) else None)
through_window t first page None e l m = absurd (false≢true e)
through_window t first page (Some w) e l m =
    ap (λ (n : ℕ). Some (record { file = w.file; page = n })) (moved w.first t.first first page l m)
  where
    moved : (a b c d : ℕ) → b ≤ c → c ≤ d → a + (d - b) ≡ a + (c - b) + (d - c)
    moved a b c d h k = omega arith

shown_by : (o : Option Space) (first page : ℕ) → ((t : Space) → o ≡ Some t → (is_mapped t ≡ true) × (t.first ≤ first)) → first ≤ page
    → option_and_then (λ s. option_map (λ w. page_through s w page) s.window) o
    ≡ (if mode.is_mapped (mode_shown (option_map shown_of o)) then Some (record { file = id_shown (option_map shown_of o); page = page_shown (option_map shown_of o) first + (page - first) }) else None)
shown_by None first page h l = refl
shown_by (Some t) first page h l = let r = h t refl in through_window t first page t.window r.0 r.1 l

read_only_by : (o : Option Space) → ((t : Space) → o ≡ Some t → is_mapped t ≡ true)
    → option_map_or (λ s. not (is_writable s)) o false ≡ mode.is_read_only (mode_shown (option_map shown_of o))
read_only_by None h = refl
read_only_by (Some t) h = window t.window (h t refl)
  where
    window : (o : Option Window) → is_some o ≡ true → not (option_map_or (λ w. w.writable) o false) ≡ mode.is_read_only (mode_through o)
    window None e = absurd (false≢true e)
    window (Some w) e = refl

mapped_by : (o : Option Space) → ((t : Space) → o ≡ Some t → t.handle ≢ 0)
    → option_map (λ (s : Space). s.handle) o ≡ (if handle_shown (option_map shown_of o) == 0 then None else Some (handle_shown (option_map shown_of o)))
mapped_by None h = refl
mapped_by (Some t) h = let e : eqb t.handle 0 ≡ false = ne_eqb t.handle 0 (h t refl) in λ i. cond (sym e i) None (Some t.handle)

pub intervals_reveal : IntervalsReveal
intervals_reveal ss xs k page x h are e holds =
    let part = part_at ss xs k x h are e in
    let same : sight_at ss page ≡ sight_at ss x.first = part.one page holds.0 holds.1 in
    let inner : (sight_at ss page).inner ≡ Some part.within.0 = ap (λ (v : Sight). v.inner) same ∙ part.within.1 in
    let r = from_there Space Inner inner_of (innermost ss page) part.within.0 inner in
    let is = says (sight_at ss x.first) x.first x.pages x r.0 part.full (part.within.1 ∙ ap Some (sym r.2)) in
    let shows : option_map shown_of (mapped_at ss page) ≡ (sight_at ss x.first).shown = ap (λ (v : Sight). v.shown) same in
    let moded : mode_shown (option_map shown_of (mapped_at ss page)) ≡ x.mode = ap mode_shown shows ∙ ap (λ (i : Interval). i.mode) part.full in
    let id : id_shown (option_map shown_of (mapped_at ss page)) ≡ x.id = ap id_shown shows ∙ ap (λ (i : Interval). i.id) part.full in
    let first : page_shown (option_map shown_of (mapped_at ss page)) x.first ≡ x.page = ap (λ (o : Option Shown). page_shown o x.first) shows ∙ ap (λ (i : Interval). i.page) part.full in
    let handle : handle_shown (option_map shown_of (mapped_at ss page)) ≡ x.mapped = ap handle_shown shows ∙ ap (λ (i : Interval). i.mapped) part.full in
    record {
      innermost_is = (r.0, r.1, is.handle, is.unit, is.start);
      mapped_is = mapped_by (mapped_at ss page) (λ t f. let a = showing_found ss page t f in mapped_named ss h t a.there a.mapped)
          ∙ (λ i. if handle i == 0 then None else Some (handle i));
      shown = shown_by (mapped_at ss page) x.first page (λ t f. let a = showing_found ss page t f in (a.mapped, started t f (from_first same t f))) holds.0
          ∙ (λ i. if mode.is_mapped (moded i) then Some (record { file = id i; page = first i + (page - x.first) }) else None);
      read_only = read_only_by (mapped_at ss page) (λ t f. (showing_found ss page t f).mapped) ∙ ap mode.is_read_only moded;
    }
  where
    -- the mapped space shows the interval's first page too
    from_first : sight_at ss page ≡ sight_at ss x.first → (t : Space) → mapped_at ss page ≡ Some t → (u : Space) × (mapped_at ss x.first ≡ Some u) × (shown_of u ≡ shown_of t)
    from_first same t f = from_there Space Shown shown_of (mapped_at ss x.first) (shown_of t) (sym (ap (λ (v : Sight). v.shown) same) ∙ ap (λ (o : Option Space). option_map shown_of o) f)

    started : (t : Space) → mapped_at ss page ≡ Some t → (u : Space) × (mapped_at ss x.first ≡ Some u) × (shown_of u ≡ shown_of t) → t.first ≤ x.first
    started t f r =
        let a = hold_parts r.0 x.first (showing_found ss x.first r.0 r.1).holds_it in
        let q = ap (λ (s : Shown). s.start) r.2 in
        omega (arith, a.0, q)
