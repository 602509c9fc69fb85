-- What an interval says of a window.
use Rattle.std.proofs.Common.{◌≡◌, ◌-◌, ◌≤◌, true, false, Option, Some, None, refl, sym, ◌∙◌, ap, subst, arith}
use Rattle.std.specs.Prelude.{option_map, is_some, IfSome}
use Rattle.std.proofs.lemmas.Bool.{false≢true, true≢false}
use Rattle.flat_machine.specs.declared.space.Space.{Space}
use Rattle.flat_machine.specs.declared.space.Window.{Window}
use Rattle.flat_machine.specs.Space.{end, mapped_at}
use Rattle.flat_machine.proofs.Lists.{In, all_in}
use Rattle.swap_units.specs.Mode.{is_mapped}
use Rattle.projection_laws.specs.Sight.{Interval, Shown, Sight, sight_at, shown_of, mode_shown, id_shown, page_shown, end_of}
use Rattle.projection_laws.specs.Laws.{WindowFits, ShowsInForm, WindowsAreFormed}
use Rattle.projection_laws.proofs.Inside.{showing_found, hold_parts, same}
use Rattle.projection_laws.proofs.Bridge.{from_there}
use Rattle.projection_laws.proofs.Forms.{part_at}

pub windows_are_formed : WindowsAreFormed
windows_are_formed ss xs k x h fit are e =
    let part = part_at ss xs k x h are e in
    let alike : sight_at ss (end_of x - 1) ≡ sight_at ss x.first = part.one (end_of x - 1) (omega (arith, part.not_empty)) (omega (arith, part.not_empty)) in
    by (mapped_at ss x.first) refl part.not_empty (ap (λ (i : Interval). i.mode) (sym part.full)) (ap (λ (i : Interval). i.id) (sym part.full)) (ap (λ (i : Interval). i.page) (sym part.full))
    (ap (λ (v : Sight). v.shown) alike)
  where
    window : (t : Space) → In t ss → t.first ≤ x.first → end_of x ≤ end t → 1 ≤ x.pages → (o : Option Window) → t.window ≡ o → is_some o ≡ true
        → x.id ≡ id_shown (Some (record { handle = t.handle; start = t.first; window = o })) → x.page ≡ page_shown (Some (record { handle = t.handle; start = t.first; window = o })) x.first
        → x.mode ≡ mode_shown (Some (record { handle = t.handle; start = t.first; window = o })) → ShowsInForm x
    window t i low high some None f m id page mode = absurd (false≢true m)
    window t i low high some (Some w) f m id page mode =
        let fits : WindowFits t.pages w = subst (λ (o : Option Window). IfSome o (WindowFits t.pages)) f (all_in (λ s. IfSome s.window (WindowFits s.pages)) ss fit t i) in record {
          shown = λ n. (omega (arith, id, fits.above_reserved), omega (arith, page, fits.pages_fit));
          bare = λ n. absurd (true≢false (sym (ap is_mapped mode) ∙ n));
          small = omega (arith, id, fits.small);
        }

    by : (o : Option Space) → mapped_at ss x.first ≡ o → 1 ≤ x.pages → x.mode ≡ mode_shown (option_map shown_of (mapped_at ss x.first)) → x.id ≡ id_shown (option_map shown_of (mapped_at ss x.first))
        → x.page ≡ page_shown (option_map shown_of (mapped_at ss x.first)) x.first → option_map shown_of (mapped_at ss (end_of x - 1)) ≡ option_map shown_of (mapped_at ss x.first)
        → ShowsInForm x
    by None f some mode id page alike =
        let none = ap (λ (o : Option Space). mode_shown (option_map shown_of o)) f in
        let no_id = ap (λ (o : Option Space). id_shown (option_map shown_of o)) f in
        let no_page = ap (λ (o : Option Space). page_shown (option_map shown_of o) x.first) f in record {
          shown = λ n. absurd (false≢true (sym (ap is_mapped (mode ∙ none)) ∙ n));
          bare = λ n. (id ∙ no_id, page ∙ no_page);
          small = omega (arith, id, no_id);
        }
    by (Some t) f some mode id page alike =
        let a = showing_found ss x.first t f in
        let u = from_there Space Shown shown_of (mapped_at ss (end_of x - 1)) (shown_of t) (alike ∙ ap (λ (o : Option Space). option_map shown_of o) f) in
        let b = showing_found ss (end_of x - 1) u.0 u.1 in
        let one : u.0 ≡ t = same ss h u.0 t b.there a.there (ap (λ (s : Shown). s.handle) u.2) in
        let ends : end u.0 ≡ end t = ap end one in
        let low = hold_parts t x.first a.holds_it in
        let high = hold_parts u.0 (end_of x - 1) b.holds_it in
        window t a.there low.0 (omega (arith, ends, high.1)) some t.window refl a.mapped (id ∙ ap (λ (o : Option Space). id_shown (option_map shown_of o)) f)
        (page ∙ ap (λ (o : Option Space). page_shown (option_map shown_of o) x.first) f)
        (mode ∙ ap (λ (o : Option Space). mode_shown (option_map shown_of o)) f)
