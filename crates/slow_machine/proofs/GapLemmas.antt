-- Where a new space stands: the lowest gap, child by child, and inside the root.
use Rattle.std.proofs.Common.{◌≡◌, ℕ, ◌+◌, ◌<◌, ◌≤◌, Bool, true, false, not, ◌&&◌, cond, List, [], ◌∷◌, ◌++◌, map, filter, take, get_or, length, Option, Some, None, refl, ◌∙◌, ap, arith}
use Rattle.std.proofs.lemmas.Bool.Decides.{nat_tests}
use Rattle.std.proofs.lemmas.List.Elements.{filter-append}
use Rattle.std.proofs.lemmas.List.{take_more}
use Rattle.std.specs.Prelude.{nat_le, nat_lt, ◌==◌, if◌then◌else◌, IfSome, is_none, option_and_then, unwrap_or}
use Rattle.std.specs.Option.{option_map_or}
use Rattle.std.specs.List.{AllByRecursion}
use Rattle.std.specs.Bool.{then_some}
use Rattle.flat_machine.specs.declared.call.Call.TheVariants.{MakeSpace}
use Rattle.flat_machine.specs.declared.call.Refusal.TheVariants as why
use Rattle.flat_machine.specs.declared.space.Space.{Space}
use Rattle.flat_machine.specs.Space.{end, root_pages, is_child_of, space_at}
use Rattle.flat_machine.specs.Machine.{Machine}
use Rattle.flat_machine.specs.Refusal.{Test, least, is_clear, fits, gap_starts, lowest_gap, refusal, first_of, no_space, no_size, no_spaces, no_place}
use Rattle.flat_machine.specs.Next.{first_page_for}
use Rattle.slow_machine.specs.Lists.{AreSpaces, gap_with}
use Rattle.slow_machine.proofs.LeastLemmas.{filter_passed, and_true, least_among}

-- The lowest gap, child by child.

least_push : (ns : List ℕ) (n : ℕ) → least (ns ++ n ∷ []) ≡ Some (option_map_or (λ k. if nat_lt n k then n else k) (least ns) n)
least_push [] n = refl
least_push (m ∷ ns) n = rw (least_push ns n) (ordered (least ns))
  where
    three : (k : ℕ) → (if nat_lt (if nat_lt n k then n else k) m then (if nat_lt n k then n else k) else m)
        ≡ (if nat_lt n (if nat_lt k m then k else m) then n else (if nat_lt k m then k else m))
    three k = grind (arith, nat_tests)

    ordered : (o : Option ℕ) → Some (if nat_lt (option_map_or (λ k. if nat_lt n k then n else k) o n) m then option_map_or (λ k. if nat_lt n k then n else k) o n else m)
        ≡ Some (if nat_lt n (option_map_or (λ k. if nat_lt k m then k else m) o m) then n else option_map_or (λ k. if nat_lt k m then k else m) o m)
    ordered None = refl
    ordered (Some k) = ap Some (three k)

append_empty : {X : Type 0} (xs : List X) → xs ++ [] ≡ xs
append_empty [] = refl
append_empty (x ∷ xs) = ap (λ l. x ∷ l) (append_empty xs)

gap_push : (p : ℕ → Bool) (xs : List ℕ) (n : ℕ) → least (filter p (xs ++ n ∷ []))
    ≡ (if p n then Some (option_map_or (λ k. if nat_lt n k then n else k) (least (filter p xs)) n) else least (filter p xs))
gap_push p xs n = rw (filter-append p xs (n ∷ [])) (either (p n))
  where
    either : (b : Bool) → least (filter p xs ++ cond b (n ∷ []) [])
        ≡ (if b then Some (option_map_or (λ k. if nat_lt n k then n else k) (least (filter p xs)) n) else least (filter p xs))
    either true = least_push (filter p xs) n
    either false = ap least (append_empty (filter p xs))

-- the lowest gap that begins with the parent or after one of these spaces
abbrev pub gap_so_far : List Space → Space → ℕ → List Space → Option ℕ
gap_so_far spaces parent pages done = least (filter (fits spaces parent pages) (gap_starts done parent))

starts_push : (parent : Space) (done : List Space) (s : Space) → is_child_of parent.handle s ≡ true
    → gap_starts (done ++ s ∷ []) parent ≡ gap_starts done parent ++ end s ∷ []
starts_push parent done s e = ap (λ l. parent.first ∷ l) (rest done)
  where
    rest : (ds : List Space) → map end (filter (is_child_of parent.handle) (ds ++ s ∷ [])) ≡ map end (filter (is_child_of parent.handle) ds) ++ end s ∷ []
    rest [] = rw e refl
    rest (d ∷ ds) = either (is_child_of parent.handle d) (rest ds)
      where
        either : (b : Bool) → map end (filter (is_child_of parent.handle) (ds ++ s ∷ [])) ≡ map end (filter (is_child_of parent.handle) ds) ++ end s ∷ []
            → map end (cond b (d ∷ filter (is_child_of parent.handle) (ds ++ s ∷ [])) (filter (is_child_of parent.handle) (ds ++ s ∷ [])))
            ≡ map end (cond b (d ∷ filter (is_child_of parent.handle) ds) (filter (is_child_of parent.handle) ds)) ++ end s ∷ []
        either true q = ap (λ l. end d ∷ l) q
        either false q = q

starts_skip : (parent : Space) (done : List Space) (s : Space) → is_child_of parent.handle s ≡ false
    → gap_starts (done ++ s ∷ []) parent ≡ gap_starts done parent
starts_skip parent done s e =
    let kept : filter (is_child_of parent.handle) (done ++ s ∷ []) ≡ filter (is_child_of parent.handle) done =
    filter-append (is_child_of parent.handle) done (s ∷ []) ∙ rw e (append_empty (filter (is_child_of parent.handle) done)) in
    ap (λ l. parent.first ∷ map end l) kept

gap_step : (spaces done : List Space) (parent s : Space) (pages : ℕ)
    → gap_so_far spaces parent pages (done ++ s ∷ []) ≡ gap_with spaces parent pages (gap_so_far spaces parent pages done) s
gap_step spaces done parent s pages = either (is_child_of parent.handle s) refl
  where
    either : (b : Bool) → is_child_of parent.handle s ≡ b → gap_so_far spaces parent pages (done ++ s ∷ [])
        ≡ (if b then (if fits spaces parent pages (end s) then Some (option_map_or (λ k. if nat_lt (end s) k then end s else k) (gap_so_far spaces parent pages done) (end s)) else gap_so_far spaces parent pages done) else gap_so_far spaces parent pages done)
    either true e = ap (λ l. least (filter (fits spaces parent pages) l)) (starts_push parent done s e) ∙ gap_push (fits spaces parent pages) (gap_starts done parent) (end s)
    either false e = ap (λ l. least (filter (fits spaces parent pages) l)) (starts_skip parent done s e)

pub gap_taken : (spaces : List Space) (parent : Space) (pages i : ℕ) (d : Space) → i < length spaces
    → gap_so_far spaces parent pages (take (i + 1) spaces) ≡ gap_with spaces parent pages (gap_so_far spaces parent pages (take i spaces)) (get_or spaces i d)
gap_taken spaces parent pages i d h = rw (take_more spaces i d h) (gap_step spaces (take i spaces) parent (get_or spaces i d) pages)

-- An unrefused space lies in the root.

four_none : (a b c d : Test) → first_of (a ∷ b ∷ c ∷ d ∷ []) ≡ None → (a ≡ None) × (b ≡ None) × (c ≡ None) × (d ≡ None)
four_none None None None None e = (refl, refl, refl, refl)
four_none (Some w) b c d e = absurd (cc)
four_none None (Some w) c d e = absurd (cc)
four_none None None (Some w) d e = absurd (cc)
four_none None None None (Some w) e = absurd (cc)

found_end : (ss : List Space) (h : ℕ) → AllByRecursion (λ s. end s ≤ root_pages) ss → IfSome (space_at ss h) (λ s. end s ≤ root_pages)
found_end [] h a = tt
found_end (s ∷ ss) h a = either (s.handle == h) (found_end ss h a.1)
  where
    either : (b : Bool) → IfSome (space_at ss h) (λ t. end t ≤ root_pages) → IfSome (cond b (Some s) (space_at ss h)) (λ t. end t ≤ root_pages)
    either true k = a.0
    either false k = k

le_true : (a b : ℕ) → nat_le a b ≡ true → a ≤ b
le_true a b h = grind (arith, nat_tests)

fits_end : (ss : List Space) (s : Space) (pages first : ℕ) → fits ss s pages first ≡ true → first + pages ≤ end s
fits_end ss s pages first h =
    let outer = and_true (nat_le s.first first && nat_le (first + pages) (end s)) (is_clear ss s pages first) h in
    le_true (first + pages) (end s) (and_true (nat_le s.first first) (nat_le (first + pages) (end s)) outer.0).1

range_none : (o : Option Space) (ss : List Space) (pages first : ℕ) → IfSome o (λ s. end s ≤ root_pages) → then_some (is_none o) why.Space ≡ None
    → option_and_then (λ s. then_some (not (fits ss s pages first)) why.Range) o ≡ None → first + pages ≤ root_pages
range_none None ss pages first a e f = absurd (cc)
range_none (Some s) ss pages first a e f = either (fits ss s pages first) refl f
  where
    either : (b : Bool) → fits ss s pages first ≡ b → then_some (not b) why.Range ≡ None → first + pages ≤ root_pages
    either true t g = omega (arith, fits_end ss s pages first t, a)
    either false t g = absurd (cc)

gap_fits : (ss : List Space) (s : Space) (pages g : ℕ) → lowest_gap ss s pages ≡ Some g → fits ss s pages g ≡ true
gap_fits ss s pages g e = filter_passed (fits ss s pages) (gap_starts ss s) g (least_among _ g e)

gap_none : (o : Option Space) (ss : List Space) (pages : ℕ) → IfSome o (λ s. end s ≤ root_pages) → then_some (is_none o) why.Space ≡ None
    → option_and_then (λ s. then_some (is_none (lowest_gap ss s pages)) why.Gap) o ≡ None
    → option_map_or (λ s. unwrap_or (lowest_gap ss s pages) 0) o 0 + pages ≤ root_pages
gap_none None ss pages a e f = absurd (cc)
gap_none (Some s) ss pages a e f = either (lowest_gap ss s pages) refl f
  where
    either : (g : Option ℕ) → lowest_gap ss s pages ≡ g → then_some (is_none g) why.Gap ≡ None → unwrap_or g 0 + pages ≤ root_pages
    either None t k = absurd (cc)
    either (Some g) t k = omega (arith, fits_end ss s pages g (gap_fits ss s pages g t), a)

pub made_inside : (m : Machine) (parent pages : ℕ) (first : Option ℕ) → AreSpaces m.spaces → refusal m (MakeSpace parent pages first) ≡ None
    → first_page_for m.spaces parent pages first + pages ≤ root_pages
made_inside m parent pages None a e =
    let p = four_none (no_space m.spaces parent) (no_size pages) (no_spaces m.spaces) (no_place m.spaces parent pages None) e in
    gap_none (space_at m.spaces parent) m.spaces pages (found_end m.spaces parent a.ends) p.0 p.3
made_inside m parent pages (Some first) a e =
    let p = four_none (no_space m.spaces parent) (no_size pages) (no_spaces m.spaces) (no_place m.spaces parent pages (Some first)) e in
    range_none (space_at m.spaces parent) m.spaces pages first (found_end m.spaces parent a.ends) p.0 p.3

few_none : (n : ℕ) → then_some (nat_lt 511 n) why.Spaces ≡ None → n ≤ 511
few_none n e = either (nat_lt 511 n) refl e
  where
    either : (b : Bool) → nat_lt 511 n ≡ b → then_some b why.Spaces ≡ None → n ≤ 511
    either true t g = absurd (cc)
    either false t g = grind (arith, nat_tests)

pub made_few : (m : Machine) (parent pages : ℕ) (first : Option ℕ) → refusal m (MakeSpace parent pages first) ≡ None → length m.spaces ≤ 511
made_few m parent pages first e =
    few_none (length m.spaces) (four_none (no_space m.spaces parent) (no_size pages) (no_spaces m.spaces) (no_place m.spaces parent pages first) e).2
