-- Calls on spaces where nothing is known but that the tables are revealed and in form.
use Rattle.std.proofs.Common.{◌≡◌, inl, inr, ℕ, ◌≤◌, ◌<◌, Bool, true, false, List, Option, Some, None, Result, Ok, Err, refl, sym, ◌∙◌, subst, arith}
use Rattle.std.specs.Prelude.{IfOk, IfSome, nat_lt}
use Rattle.std.proofs.lemmas.Bool.Decides.{nat_tests}
use Rattle.std.proofs.lemmas.Option.{same_Some}
use Rattle.labelled_disk.specs.declared.evidence.Evidence.TheVariants.{Mismatch, Malformed, Missing}
use Rattle.labelled_disk.specs.StructureLaws.{map_or_tables}
use Rattle.labelled_disk.specs.declared.evidence.Halt.{Halt}
use Rattle.labelled_disk.specs.declared.evidence.Halt.TheVariants.{Disk, Damaged}
use Rattle.flat_machine.specs.declared.call.Refusal.{Refusal}
use Rattle.flat_machine.specs.declared.space.Space.{Space}
use Rattle.flat_machine.specs.declared.space.Window.{Window}
use Rattle.flat_machine.specs.Next.{with_mode}
use Rattle.flat_machine.specs.Refusal.{first_of}
use Rattle.flat_machine.specs.Space.{space_at}
use Rattle.flat_machine.specs.Spaces.{AreSpaces}
use Rattle.flat_machine.proofs.Lists.{all_in, looked_up}
use Rattle.projection_laws.specs.Laws.{WindowFits, WindowsFit}
use Rattle.projection_laws.specs.Spaces.{MayHaveWindow}
use Rattle.projection_laws.specs.Tests.{map_row}
use Rattle.projection_laws.proofs.Passes.{map_passes, window_passes}
use Rattle.swap_units.specs.declared.interval.Interval.{Interval}
use Rattle.fault_core.specs.Lack.{Sees}
use Rattle.fault_core.specs.Reach.{Reaches}
use Rattle.fault_core.specs.NeverBlames.{NeverBlamesTables}
use Rattle.filer_kernel.specs.View.{View}
use Rattle.fault_core.proofs.LackLemmas.{sees_after}
use Rattle.table_calls.specs.Answers.{Changes, IsDone}
use Rattle.file_manager.specs.declared.attributes.Attributes.{Attributes}
use Rattle.space_calls.specs.Halts.{LookHalts}
use Rattle.space_calls.proofs.TakenMachine.{row_passed}

-- ---- What is seen after a call.

-- the tables are found again where pages were brought in, and no interval more is kept
pub reached_sees : {v w : View} {old new : List Interval} {count now : ℕ} {ss : List Space} → Reaches v w → new ≡ old → now ≡ count → Sees v old count ss → Sees w new now ss
reached_sees {w = w} {old = old} {new = new} {count = count} {ss = ss} reaches same_kept same_count s =
    subst (λ (n : ℕ). Sees w new n ss) (sym same_count) (subst (λ (l : List Interval). Sees w l count ss) (sym same_kept) (sees_after s w old reaches (λ x one. inl one)))

module _ {A : Type 0} (refusal : Option Refusal) (P : A → Type 0) (stays X : Type 0) where
  -- whether tables were changed or not, this is so
  pub either_way : ((a : A) → P a → X) → (stays → X) → (r : Result A Refusal) → Changes refusal P stays r → X
  either_way f g (Ok answer) h = f answer h.1
  either_way f g (Err word) h = g h.1

-- a window was set
pub set_so : (P X : Type 0) → (P → X) → (r : Result Unit Refusal) → IsDone P r → X
set_so P X f (Ok answer) h = f h
set_so P X f (Err word) h = absurd h

-- a look at a file reveals no page of the tables as broken, nor as missing
pub look_never_blames : (v w : View) (id : ℕ) (e : Halt) → LookHalts id v w e → NeverBlamesTables e
look_never_blames v w id Disk h = tt
look_never_blames v w id (Damaged (Mismatch sector wanted found)) h = tt
look_never_blames v w id (Damaged (Malformed structure page)) h = λ three. elim h [ inl map ↦ absurd (map_or_tables structure map.0 three) | inr leader ↦ absurd leader.other ]
look_never_blames v w id (Damaged (Missing number page)) h = elim h [ inl map ↦ absurd map | inr leader ↦ absurd leader.other ]

-- ---- The space of a window.

module _ (ss : List Space) (handle : ℕ) (are : AreSpaces ss) (s : Space) (at : space_at ss handle ≡ Some s) where
  same_space : (may : (x : Space) × (x.handle ≡ handle) × MayHaveWindow ss x) → MayHaveWindow ss s
  same_space may = subst (MayHaveWindow ss) (same_Some may.0 s (sym (subst (λ (n : ℕ). space_at ss n ≡ Some may.0) may.1 may.2.there) ∙ at)) may.2

  pub handle_so : s.handle ≡ handle
  handle_so = (looked_up (λ t. t.handle) ss handle s at).1

  -- it may be mapped
  pub free_may : first_of (map_row ss handle) ≡ None → MayHaveWindow ss s
  free_may none = same_space (map_passes ss handle are none)

  module _ (w : Window) (has : s.window ≡ Some w) where
    -- or is
    pub shown_may : MayHaveWindow ss s
    shown_may = same_space (window_passes ss handle are (row_passed ss handle s w at has))

    pub shown_fits : WindowsFit ss → (writable : Bool) → WindowFits s.pages (with_mode writable w)
    shown_fits fit writable =
        let one : IfSome s.window (WindowFits s.pages) = all_in (λ t. IfSome t.window (WindowFits t.pages)) ss fit s (looked_up (λ t. t.handle) ss handle s at).0 in
        let of : WindowFits s.pages w = subst (λ (o : Option Window). IfSome o (WindowFits s.pages)) has one in
        record { above_reserved = of.above_reserved; small = of.small; pages_fit = of.pages_fit }

-- the tables' spaces
module _ {v : View} {cached : List Interval} {count : ℕ} {ss : List Space} (s : Sees v cached count ss) where
  pub are_seen : AreSpaces ss
  are_seen = subst AreSpaces s.tables.spaces s.tables.right.spaces

  pub windows_seen : WindowsFit ss
  windows_seen = subst WindowsFit s.tables.spaces s.tables.right.windows

-- ---- Answers.

-- a fault of the disk names no page
pub fault_never_blames : (e : Halt) → e ≡ Disk → NeverBlamesTables e
fault_never_blames e is = subst NeverBlamesTables (sym is) tt

abbrev RevealsNone : Result (Option Attributes) Halt → Type 0
RevealsNone (Ok None) = Unit {0}
RevealsNone (Ok (Some found)) = ⊥
RevealsNone (Err e) = ⊥

-- a file that is revealed is a client's
pub client_so : (id : ℕ) (r : Result (Option Attributes) Halt) → (id < 16 → r ≡ Ok None) → IfOk r (λ o. IfSome o (λ a. 16 ≤ id))
client_so id (Err e) low = tt
client_so id (Ok None) low = tt
client_so id (Ok (Some found)) low = by (nat_lt id 16) refl
  where
    by : (b : Bool) → nat_lt id 16 ≡ b → 16 ≤ id
    by true e = absurd (subst RevealsNone (sym (low (grind (arith, nat_tests, e)))) tt)
    by false e = grind (arith, nat_tests, e)
