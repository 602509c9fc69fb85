-- The tables after another unit or another window of a space.
use Rattle.std.proofs.Common.{◌≡◌, ◌≢◌, ℕ, ◌+◌, ◌≤◌, List, length, map, Option, Some, None, refl, sym, ◌∙◌, ap, subst, arith, ◌==◌}
use Rattle.std.specs.Prelude.{slice_get, slice_set, option_and_then, IfSome}
use Rattle.std.proofs.lemmas.Bool.{eqb-true}
use Rattle.std.proofs.lemmas.Option.{same_Some, none-some}
use Rattle.flat_machine.specs.declared.space.Space.{Space}
use Rattle.flat_machine.specs.declared.space.Window.{Window}
use Rattle.flat_machine.specs.Space.{space_at}
use Rattle.flat_machine.specs.Next.{change_space, set_window}
use Rattle.flat_machine.proofs.Lists.{find_in}
use Rattle.projection_laws.specs.Slots.{listed, AreNumbered}
use Rattle.projection_laws.specs.Spaces.{MayHaveWindow}
use Rattle.projection_laws.specs.Laws.{WindowFits}
use Rattle.projection_laws.specs.Edits.{refitted, reshown_in, through}
use Rattle.projection_laws.proofs.SlotLemmas.{slot_found, slot_changed}
use Rattle.projection_laws.proofs.Other.{window_reshows, unit_refits}
use Rattle.projection_laws.proofs.FitLemmas.{windows_stay_fit}
use Rattle.space_tables.specs.declared.change.Change.TheVariants.{Window as Show}
use Rattle.space_tables.specs.Change.{Counts}
use Rattle.space_tables.specs.Stored.{HoldTables, RevealSpaces}
use Rattle.space_tables.proofs.Changed.{length_map}

-- the space of a handle stands in its slot
stands : (o : Option (Option Space)) (s : Space) → option_and_then (λ q. q) o ≡ Some s → o ≡ Some (Some s)
stands None s e = absurd (none-some s e)
stands (Some None) s e = absurd (none-some s e)
stands (Some (Some t)) s e = ap Some e

pub in_slot : (reveals : List ℕ → Type 0) (n : ℕ) (ss : List Space) (t : RevealSpaces reveals n ss) (h : ℕ) (s : Space) → space_at ss h ≡ Some s → slice_get t.slots h ≡ Some (Some s)
in_slot reveals n ss t h s e = stands (slice_get t.slots h) s (sym (slot_found t.slots h t.right.numbered) ∙ ap (λ (rs : List Space). space_at rs h) t.spaces ∙ e)

pub handle_is : (ss : List Space) (h : ℕ) (s : Space) → space_at ss h ≡ Some s → s.handle ≡ h
handle_is ss h s e = eqb-true s.handle h (find_in (λ t. t.handle == h) ss s e).1

module _ (reveals now : List ℕ → Type 0) (n : ℕ) (ss : List Space) (t : RevealSpaces reveals n ss) where
  pub unit_set : (h u : ℕ) (s : Space) → space_at ss h ≡ Some s → h ≢ 0 → 1 ≤ u → u ≤ 16 → HoldTables now (slice_set t.slots h (Some (record s { unit = u }))) (map (refitted h u) t.xs)
      → RevealSpaces now n (change_space h (λ s. record s { unit = u }) ss)
  unit_set h u s e apart low high hold =
      let own = handle_is ss h s e in
      let slot : slice_get t.slots s.handle ≡ Some (Some s) = ap (slice_get t.slots) own ∙ in_slot reveals n ss t h s e in
      let written = slot_changed t.slots s (λ s. record s { unit = u }) t.right.numbered slot refl in
      let spaces : listed (slice_set t.slots h (Some (record s { unit = u }))) ≡ change_space h (λ s. record s { unit = u }) (listed t.slots) =
      subst (λ (j : ℕ). listed (slice_set t.slots j (Some (record s { unit = u }))) ≡ change_space j (λ s. record s { unit = u }) (listed t.slots)) own written.spaces in
      let kept = unit_refits (listed t.slots) h u t.xs t.right.spaces apart low high t.right.intervals in record {
        slots = slice_set t.slots h (Some (record s { unit = u }));
        xs = map (refitted h u) t.xs;
        hold = hold;
        right = record {
          numbered = subst (λ (j : ℕ). AreNumbered 0 (slice_set t.slots j (Some (record s { unit = u })))) own written.numbered;
          spaces = rw spaces kept.spaces;
          windows = rw spaces ((windows_stay_fit (listed t.slots) t.right.spaces t.right.windows).refitted h u);
          intervals = rw spaces kept.intervals;
        };
        counted = length_map (refitted h u) t.xs ∙ t.counted;
        spaces = spaces ∙ ap (change_space h (λ s. record s { unit = u })) t.spaces;
      }

  pub window_set : (x : Space) (w : Option Window) → MayHaveWindow ss x → IfSome w (WindowFits x.pages) → HoldTables now (slice_set t.slots x.handle (Some (record x { window = w }))) (map (reshown_in x (through x w)) t.xs)
      → RevealSpaces now n (set_window x.handle w ss)
  window_set x w may fits hold =
      let slot : slice_get t.slots x.handle ≡ Some (Some x) = in_slot reveals n ss t x.handle x may.there in
      let written = slot_changed t.slots x (λ s. record s { window = w }) t.right.numbered slot refl in
      let spaces : listed (slice_set t.slots x.handle (Some (record x { window = w }))) ≡ set_window x.handle w (listed t.slots) = written.spaces in
      let also : MayHaveWindow (listed t.slots) x = subst (λ (rs : List Space). MayHaveWindow rs x) (sym t.spaces) may in
      let kept = window_reshows (listed t.slots) x w t.xs t.right.spaces also t.right.intervals in record {
        slots = slice_set t.slots x.handle (Some (record x { window = w }));
        xs = map (reshown_in x (through x w)) t.xs;
        hold = hold;
        right = record {
          numbered = written.numbered;
          spaces = rw spaces kept.spaces;
          windows = rw spaces ((windows_stay_fit (listed t.slots) t.right.spaces t.right.windows).shown x w also.there fits);
          intervals = rw spaces kept.intervals;
        };
        counted = length_map (reshown_in x (through x w)) t.xs ∙ t.counted;
        spaces = spaces ∙ ap (set_window x.handle w) t.spaces;
      }

  pub window_set_at : (x : Space) (w : Option Window) (h : ℕ) → x.handle ≡ h → MayHaveWindow ss x → IfSome w (WindowFits x.pages) → HoldTables now (slice_set t.slots h (Some (record x { window = w }))) (map (reshown_in x (through x w)) t.xs)
      → RevealSpaces now n (set_window h w ss)
  window_set_at x w h own may fits hold =
      subst (λ (j : ℕ). RevealSpaces now n (set_window j w ss)) own
      (window_set x w may fits (subst (λ (j : ℕ). HoldTables now (slice_set t.slots j (Some (record x { window = w }))) (map (reshown_in x (through x w)) t.xs)) (sym own) hold))

pub counts : (x : Space) (w : Option Window) → IfSome w (WindowFits x.pages) → Counts (Show x w)
counts x None f = tt
counts x (Some w) f = f.pages_fit

pub same_space : (ss : List Space) (h : ℕ) (s x : Space) → space_at ss h ≡ Some s → space_at ss x.handle ≡ Some x → x.handle ≡ h → s ≡ x
same_space ss h s x e f own = same_Some s x (sym e ∙ ap (space_at ss) (sym own) ∙ f)
