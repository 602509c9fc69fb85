-- Where each cell is a byte, a load gives these bytes.
use Rattle.std.proofs.Common.{◌≡◌, inl, inr, ℕ, zero, suc, ◌+◌, ◌/◌, ◌%◌, ◌<◌, ◌≤◌, List, [], ◌∷◌, length, Option, Some, None, refl, sym, ◌∙◌, ap, subst, arith}
use Rattle.std.specs.Prelude.{slice_index_or, option_map, IsSome, IsSomeAnd, MatchOption}
use Rattle.std.specs.List.{AllByRecursion}
use Rattle.std.specs.Option.{option_map_or}
use Rattle.flat_machine.specs.declared.call.Call.{Call}
use Rattle.flat_machine.specs.declared.call.Call.TheVariants.{Load}
use Rattle.flat_machine.specs.declared.call.Reply.{Reply}
use Rattle.flat_machine.specs.declared.call.Reply.TheVariants as reply
use Rattle.flat_machine.specs.declared.call.Refusal.{Refusal}
use Rattle.flat_machine.specs.declared.space.FilePage.{FilePage}
use Rattle.flat_machine.specs.Allows.{AgreesWithCells, Allows, Answers}
use Rattle.flat_machine.specs.At.{cell_at, cell_of, cells_at, pages_of, shown_at}
use Rattle.flat_machine.specs.File.{File, Cell, Page, any, file_at, size}
use Rattle.flat_machine.specs.Form.{IsInForm}
use Rattle.flat_machine.specs.IsMachine.{IsMachine}
use Rattle.flat_machine.specs.Laws.{IsOneOf}
use Rattle.flat_machine.specs.Machine.{Machine, IsFile}
use Rattle.flat_machine.specs.Refusal.{refusal}
use Rattle.flat_machine.proofs.Lists.{all_in, looked_up}
use Rattle.flat_machine.proofs.MoreLaws.{shown_is_there}
use Rattle.flat_machine.proofs.ReferenceLemmas.{touched_are_shown}
use Rattle.flat_machine.proofs.UnitLemmas.{reference_touches}
use Rattle.trace_maker.specs.Fixed.{AreKnown, IsKnown}

-- what is so of each element is so of the one at an index
at_index : {X : Type 0} (Q : X → Type 0) (xs : List X) (k : ℕ) (d : X) → AllByRecursion Q xs → k < length xs → Q (slice_index_or xs k d)
at_index Q [] k d all below = absurd (omega (arith, below))
at_index Q (x ∷ xs) zero d all below = all.0
at_index Q (x ∷ xs) (suc k) d all below = at_index Q xs k d all.1 (omega (arith, below))

one_of : (P : ℕ → Type 0) (pages : List ℕ) (page : ℕ) → AllByRecursion P pages → IsOneOf pages page → P page
one_of P [] page all is = absurd is
one_of P (p ∷ ps) page all (inl same) = subst P same all.0
one_of P (p ∷ ps) page all (inr more) = one_of P ps page all.1 more

some_of : {X : Type 0} (o : Option X) → IsSome o → (x : X) × (o ≡ Some x)
some_of None is = absurd (cc is)
some_of (Some x) is = (x, refl)

module _ (m : Machine) (h : IsMachine m) (known : AreKnown m.files) where
  -- the cell of an address that is shown
  cell_known : (address : ℕ) (u : FilePage) → shown_at m.spaces (address / 512) ≡ Some u → IsKnown (cell_at m address)
  cell_known address u is =
      let there = shown_is_there m h (address / 512) u is in
      subst (λ (o : Option FilePage). IsKnown (option_map_or (cell_of m.files) (option_map (λ v. record { file = v.file; page = v.page; offset = address % 512 }) o) any)) (sym is)
      (in_file (file_at m.files u.file) refl there)
    where
      in_file : (o : Option File) → file_at m.files u.file ≡ o → IsSomeAnd o (λ f. u.page < size f)
          → IsKnown (option_map_or (λ (f : File). slice_index_or (slice_index_or f.pages u.page []) (address % 512) any) o any)
      in_file None e there = absurd there
      in_file (Some f) e there =
          let at = looked_up (λ (g : File). g.id) m.files u.file f e in
          let long = at_index (λ (p : Page). length p ≡ 512) f.pages u.page [] (all_in IsFile m.files h.whole_files f at.0).whole_pages there in
          let page = at_index (AllByRecursion IsKnown) f.pages u.page [] (all_in (λ (g : File). AllByRecursion (AllByRecursion IsKnown) g.pages) m.files known f at.0) there in
          at_index IsKnown (slice_index_or f.pages u.page []) (address % 512) any page (omega (arith, long))

  cells_known : (address count : ℕ) → ((k : ℕ) → k < count → IsKnown (cell_at m (address + k))) → AllByRecursion IsKnown (cells_at m address count)
  cells_known address zero each = tt
  cells_known address (suc n) each = (
    subst (λ (a : ℕ). IsKnown (cell_at m a)) (let z : address + 0 ≡ address = omega arith in z) (each 0 (omega arith)),
    cells_known (address + 1) n (λ k below. subst (λ (a : ℕ). IsKnown (cell_at m a)) (let y : address + suc k ≡ address + 1 + k = omega arith in y) (each (suc k) (omega (arith, below)))),
  )

  loaded : (address count : ℕ) → 1 ≤ count → count ≤ 64 → refusal m (Load address count) ≡ None → AllByRecursion IsKnown (cells_at m address count)
  loaded address count some few none =
      let shown = touched_are_shown m (Load address count) none in
      let touched = reference_touches address count some (omega (arith, few)) in
      cells_known address count (λ k below.
      let u = some_of (shown_at m.spaces ((address + k) / 512)) (one_of (λ page. IsSome (shown_at m.spaces page)) (pages_of address count) ((address + k) / 512) shown (touched.each k below)) in
      cell_known (address + k) u.0 u.1)

  -- bytes that agree with them are these
  agree : (cells : List Cell) (xs ys : List ℕ) → AllByRecursion IsKnown cells → AgreesWithCells cells xs → AgreesWithCells cells ys → xs ≡ ys
  agree [] [] [] all one two = refl
  agree [] [] (y ∷ ys) all one two = absurd two
  agree [] (x ∷ xs) ys all one two = absurd one
  agree (c ∷ cs) [] ys all one two = absurd one
  agree (c ∷ cs) (x ∷ xs) [] all one two = absurd two
  agree (c ∷ cs) (x ∷ xs) (y ∷ ys) all one two =
      let first = subst (λ (cell : Cell). MatchOption cell (x < 256) (λ b. x ≡ b)) all.0.1 one.0 in
      let second = subst (λ (cell : Cell). MatchOption cell (y < 256) (λ b. y ≡ b)) all.0.1 two.0 in
      let same : x ≡ y = first ∙ sym second in
      let rest = agree cs xs ys all.1 one.1 two.1 in
      λ i. same i ∷ rest i

  answers_same : (c : Call) (r s : Reply) → IsInForm c → refusal m c ≡ None → Answers m c r → Answers m c s → r ≡ s
  answers_same (Load address count) r s form none one two =
      one.1 ∙ ap reply.Bytes (agree (cells_at m address count) one.0 two.0 (loaded address count form.0 form.1 none) one.2 two.2) ∙ sym two.1
  answers_same c r s form none one two = one ∙ sym two

  -- one reply is allowed
  pub same_reply : (c : Call) (r s : Reply) → IsInForm c → Allows m c r → Allows m c s → r ≡ s
  same_reply c r s form = either (refusal m c) refl
    where
      either : (o : Option Refusal) → refusal m c ≡ o → MatchOption o (Answers m c r) (λ word. r ≡ reply.Refused word) → MatchOption o (Answers m c s) (λ word. s ≡ reply.Refused word) → r ≡ s
      either None e one two = answers_same c r s form e one two
      either (Some word) e one two = one ∙ sym two
