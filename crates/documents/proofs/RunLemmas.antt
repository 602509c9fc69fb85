-- What the addresses of a space show, and its end.
use Rattle.std.proofs.Common.{◌≡◌, ◌≢◌, ◌⊎◌, inl, inr, ℕ, zero, suc, ◌+◌, ◌-◌, ◌*◌, ◌/◌, ◌%◌, ◌<◌, ◌≤◌, Bool, true, false, not, ◌&&◌, List, [], ◌∷◌, filter, Option, Some, None, refl, sym, ◌∙◌, ap, subst, arith, eqb}
use Rattle.std.specs.Prelude.{nat_le, nat_lt, is_none, is_some, option_map, option_and_then, find, ◌==◌, if◌then◌else◌}
use Rattle.std.specs.Bool.{then_some}
use Rattle.std.specs.Option.{option_map_or}
use Rattle.std.proofs.lemmas.Bool.{eqb-true, true≢false, and_parts, cases_eq, leb-true, ltb-true, ltb-false}
use Rattle.std.proofs.lemmas.Bool.Decides.{nat_tests}
use Rattle.flat_machine.specs.declared.call.Call.TheVariants.{MakeSpace, RemoveSpace, Map, Unmap}
use Rattle.flat_machine.specs.declared.call.Refusal.TheVariants as why
use Rattle.flat_machine.specs.declared.space.Space.{Space}
use Rattle.flat_machine.specs.declared.space.Window.{Window}
use Rattle.flat_machine.specs.declared.space.FilePage.{FilePage}
use Rattle.flat_machine.specs.File.{File, size, file_at}
use Rattle.flat_machine.specs.Space.{end, holds, overlap, space_at, is_mapped, mapped_at}
use Rattle.flat_machine.specs.Machine.{Machine}
use Rattle.flat_machine.specs.IsMachine.{IsMachine}
use Rattle.flat_machine.specs.At.{Spot, spot_at, shown_at, page_through}
use Rattle.flat_machine.specs.Refusal.{refusal, first_of, no_space, is_root, no_file, path_mapped, past_end, is_immutable, of_file, not_mapped}
use Rattle.flat_machine.specs.Next.{next, change, put_space, set_window, unmapped}
use Rattle.flat_machine.proofs.Lists.{In, find_in, not_found, one_key, looked_up}
use Rattle.flat_machine.proofs.TestLemmas.{six_none, then_none, file_there, of_file_none, of_space_none}
use Rattle.flat_machine.proofs.SpaceLemmas.{two_at}
use Rattle.flat_machine.proofs.NextLemmas.{next_keeps_machine}
use Rattle.flat_machine.proofs.StoreLemmas.{unrefused}
use Rattle.documents.specs.Pieces.{forced}
use Rattle.documents.specs.Windows.{place, showing, IsHidden}
use Rattle.documents.proofs.WindowLemmas.{IsMade, is_made, removed, given_at, window_back}
use Rattle.flat_machine.proofs.SpaceEdits.{in_put, other_handles}

-- the window on a run
abbrev pub window_on : ℕ → ℕ → Bool → Window
window_on id page writable = record { file = id; first = page; writable = writable; anonymous = false }

-- the spaces with one more, which shows a run
abbrev pub with_run : Machine → ℕ → ℕ → ℕ → Bool → List Space
with_run m id page pages writable = set_window (place m pages).handle (Some (window_on id page writable)) (put_space (place m pages) m.spaces)

-- what is mapped at a page
holds_both : (s t : Space) (page : ℕ) → holds s page ≡ true → holds t page ≡ true → overlap s t ≡ true
holds_both s t page hs ht =
    let a = and_parts (nat_le s.first page) (nat_lt page (end s)) hs in
    let b = and_parts (nat_le t.first page) (nat_lt page (end t)) ht in
    let p = leb-true s.first page a.0 in
    let q = ltb-true page (end s) a.1 in
    let r = leb-true t.first page b.0 in
    let v = ltb-true page (end t) b.1 in
    both (nat_lt s.first (end t)) refl (nat_lt t.first (end s)) refl (omega (arith, p, v)) (omega (arith, r, q))
  where
    both : (c : Bool) → nat_lt s.first (end t) ≡ c → (d : Bool) → nat_lt t.first (end s) ≡ d → s.first < end t → t.first < end s → c && d ≡ true
    both true e true f l k = refl
    both true e false f l k = absurd (omega (arith, ltb-false t.first (end s) f, k))
    both false e d f l k = absurd (omega (arith, ltb-false s.first (end t) e, l))

mapped_is : (n : Machine) (s : Space) (page : ℕ) → IsMachine n → In s n.spaces → is_mapped s ≡ true → holds s page ≡ true → mapped_at n.spaces page ≡ Some s
mapped_is n s page h i mapped there = either (mapped_at n.spaces page) refl
  where
    passes : is_mapped s && holds s page ≡ true
    passes = ap (λ (b : Bool). b && holds s page) mapped ∙ there

    either : (o : Option Space) → mapped_at n.spaces page ≡ o → mapped_at n.spaces page ≡ Some s
    either None e = absurd (true≢false (sym passes ∙ not_found (λ t. is_mapped t && holds t page) n.spaces e s i))
    either (Some t) e =
        let found = find_in (λ r. is_mapped r && holds r page) n.spaces t e in
        let parts = and_parts (is_mapped t) (holds t page) found.1 in
        same t e found.0 parts.0 parts.1 (cases_eq t.handle s.handle)
      where
        same : (t : Space) → mapped_at n.spaces page ≡ Some t → In t n.spaces → is_mapped t ≡ true → holds t page ≡ true
            → (t.handle ≡ s.handle) ⊎ (t.handle ≢ s.handle) → mapped_at n.spaces page ≡ Some s
        same t e j m k (inl q) = e ∙ ap Some (one_key (λ r. r.handle) n.spaces h.handles_rise t s j i q)
        same t e j m k (inr d) =
            let two : is_mapped t && is_mapped s ≡ true = ap (λ (b : Bool). b && is_mapped s) m ∙ mapped in
            absurd (true≢false (sym (holds_both t s page k there) ∙ two_at _ n.spaces h.one_mapped_on_a_path t s j i d two))

-- A run is shown.

-- what is so where the calls that show it were not refused
pub record IsShowing (m n : Machine) (id page pages : ℕ) (writable : Bool) : Type 0 where
  pub made : IsMade m pages
  pub machine : IsMachine n
  pub after : n ≡ record m { spaces = with_run m id page pages writable }
  pub file : File
  pub there : file_at m.files id ≡ Some file
  pub inside : page + pages ≤ size file

pub is_showing : (m : Machine) (id page pages : ℕ) (writable : Bool) → IsMachine m → refusal m (MakeSpace 0 pages None) ≡ None
    → refusal (next m (MakeSpace 0 pages None)) (Map (place m pages).handle id page writable) ≡ None
    → IsShowing m (showing m id page pages writable) id page pages writable
is_showing m id page pages writable h e f =
    let made = is_made m pages h e in
    let n : Machine = record m { spaces = put_space (place m pages) m.spaces } in
    let free : refusal n (Map (place m pages).handle id page writable) ≡ None = ap (λ (k : Machine). refusal k (Map (place m pages).handle id page writable)) (sym made.after) ∙ f in
    let tests = six_none (no_space n.spaces (place m pages).handle) (is_root (place m pages).handle) (no_file n id) (path_mapped n.spaces (place m pages).handle)
    (past_end n (place m pages).handle id page) (if writable then is_immutable n id else None) free in
    let file = file_there n id tests.2 in
    let short = of_space_none n.spaces (place m pages).handle (λ s. of_file n id (λ g. then_some (nat_lt (size g) (page + s.pages)) why.Window)) (place m pages) made.there tests.4 in
    let enough = then_none (nat_lt (size file.0) (page + pages)) why.Window (of_file_none n id (λ g. then_some (nat_lt (size g) (page + pages)) why.Window) file.0 file.1 short) in
    record {
      made = made;
      machine = next_keeps_machine (next m (MakeSpace 0 pages None)) (Map (place m pages).handle id page writable) tt
          (next_keeps_machine m (MakeSpace 0 pages None) tt h);
      after = unrefused (next m (MakeSpace 0 pages None)) (Map (place m pages).handle id page writable) f
          ∙ ap (λ (k : Machine). change k (Map (place m pages).handle id page writable)) made.after;
      file = file.0;
      there = file.1;
      inside = ltb-false (size file.0) (page + pages) enough;
    }

-- its addresses
pub shown_here : (m n : Machine) (id page pages : ℕ) (writable : Bool) → IsShowing m n id page pages writable → (j : ℕ) → j < pages
    → shown_at (with_run m id page pages writable) ((place m pages).first + j) ≡ Some (record { file = id; page = page + j })
shown_here m n id page pages writable s j low =
    let at = looked_up (λ t. t.handle) (with_run m id page pages writable) (place m pages).handle x' (given_at (place m pages).handle (Some (window_on id page writable)) (put_space (place m pages) m.spaces) (place m pages) s.made.there) in
    let spaces : n.spaces ≡ with_run m id page pages writable = ap (λ (k : Machine). k.spaces) s.after in
    let in_n : In x' n.spaces = subst (λ (ss : List Space). In x' ss) (sym spaces) at.0 in
    let back : (place m pages).first + j - (place m pages).first ≡ j = omega arith in
    ap (λ (o : Option Space). option_and_then (λ t. option_map (λ w. page_through t w ((place m pages).first + j)) t.window) o)
    (ap (λ (ss : List Space). mapped_at ss ((place m pages).first + j)) (sym spaces) ∙ mapped_is n x' ((place m pages).first + j) s.machine in_n refl (holds_it (place m pages).first))
    ∙ ap (λ (k : ℕ). Some (record { file = id; page = page + k })) back
  where
    x' : Space
    x' = record (place m pages) { window = Some (window_on id page writable) }

    holds_it : (first : ℕ) → nat_le first (first + j) && nat_lt (first + j) (first + pages) ≡ true
    holds_it first = both (nat_le first (first + j)) (grind (arith, nat_tests)) (nat_lt (first + j) (first + pages)) (grind (arith, nat_tests))
      where
        both : (c : Bool) → c ≡ true → (d : Bool) → d ≡ true → c && d ≡ true
        both true e d f = f
        both false e d f = absurd (true≢false (sym e))

pub spot_here : (m n : Machine) (id page pages : ℕ) (writable : Bool) → IsShowing m n id page pages writable → (k : ℕ) → k < 512 * pages
    → spot_at (with_run m id page pages writable) (512 * (place m pages).first + k) ≡ Some (record { file = id; page = (512 * page + k) / 512; offset = (512 * page + k) % 512 })
spot_here m n id page pages writable s k low =
    let low_page : k / 512 < pages = omega (arith, low) in
    let at : (512 * (place m pages).first + k) / 512 ≡ (place m pages).first + k / 512 = omega arith in
    let left : page + k / 512 ≡ (512 * page + k) / 512 = omega arith in
    let right : (512 * (place m pages).first + k) % 512 ≡ (512 * page + k) % 512 = omega arith in
    ap (λ (o : Option FilePage). option_map (λ u. record { file = u.file; page = u.page; offset = (512 * (place m pages).first + k) % 512 }) o)
    (ap (λ (i : ℕ). shown_at (with_run m id page pages writable) i) at ∙ shown_here m n id page pages writable s (k / 512) low_page)
    ∙ (λ i. Some (record { file = id; page = left i; offset = right i }))

-- The space is taken away with its window.

pub is_hidden : (m n : Machine) (id page pages : ℕ) (writable : Bool) → IsMachine m → IsMade m pages → n.spaces ≡ with_run m id page pages writable
    → IsHidden n (place m pages).handle (record n { spaces = m.spaces; unforced = forced id page pages n.unforced })
is_hidden m n id page pages writable h made same =
    let free : refusal n (Unmap (place m pages).handle) ≡ None =
    ap (λ (o : Option Space). first_of (then_some (is_none o) why.Space ∷ option_and_then (λ s. then_some (not (is_mapped s)) why.NotMapped) o ∷ [])) is in
    let left : next n (Unmap (place m pages).handle) ≡ record n { spaces = put_space (place m pages) m.spaces; unforced = forced id page pages n.unforced } =
    unrefused n (Unmap (place m pages).handle) free
    ∙ ap (λ (o : Option Space). option_map_or (unmapped n) o n) is
    ∙ ap (λ (ss : List Space). record n { spaces = ss; unforced = forced id page pages n.unforced })
    (ap (λ (ss : List Space). set_window (place m pages).handle None ss) same ∙ window_back (place m pages).handle (Some (window_on id page writable)) (put_space (place m pages) m.spaces) bare) in
    let gone = removed m (record n { spaces = put_space (place m pages) m.spaces; unforced = forced id page pages n.unforced }) pages h made refl in
    record {
      unmaps = free;
      removes = ap (λ (k : Machine). refusal k (RemoveSpace (place m pages).handle)) left ∙ gone.0;
      after = ap (λ (k : Machine). next k (RemoveSpace (place m pages).handle)) left ∙ gone.1;
    }
  where
    x' : Space
    x' = record (place m pages) { window = Some (window_on id page writable) }

    is : space_at n.spaces (place m pages).handle ≡ Some (record (place m pages) { window = Some (window_on id page writable) })
    is = ap (λ (ss : List Space). space_at ss (place m pages).handle) same ∙ given_at (place m pages).handle (Some (window_on id page writable)) (put_space (place m pages) m.spaces) (place m pages) made.there

    bare : (s : Space) → In s (put_space (place m pages) m.spaces) → s.handle ≡ (place m pages).handle → s.window ≡ None
    bare s i e = either (in_put (place m pages) m.spaces s i)
      where
        either : (place m pages ≡ s) ⊎ In s m.spaces → s.window ≡ None
        either (inl q) = ap (λ (t : Space). t.window) (sym q)
        either (inr j) = absurd (other_handles m.spaces (place m pages).handle made.unused s j e)
