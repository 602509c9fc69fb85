-- Which serial and which counter machines have at the places of a trace.
use Rattle.std.proofs.Common.{◌≡◌, ◌⊎◌, inl, inr, ℕ, zero, suc, ◌+◌, ◌≤◌, Bool, true, false, cond, List, [], ◌∷◌, ◌++◌, length, Option, Some, None, refl, sym, ◌∙◌, ap, subst, arith}
use Rattle.std.specs.Prelude.{is_none}
use Rattle.std.specs.Option.{option_map_or}
use Rattle.labelled_disk.specs.Root.{counter_of}
use Rattle.labelled_disk.specs.Sectors.{Sector}
use Rattle.flat_machine.specs.declared.call.Call.{Call}
use Rattle.flat_machine.specs.declared.call.Call.TheVariants as call
use Rattle.flat_machine.specs.declared.space.Space.{Space}
use Rattle.flat_machine.specs.After.{TraceLine, after, next_line}
use Rattle.flat_machine.specs.Machine.{Machine}
use Rattle.flat_machine.specs.Next.{change}
use Rattle.flat_machine.specs.Refusal.{refusal}
use Rattle.flat_machine.specs.Space.{space_at}
use Rattle.pilot_top.specs.CrashStates.{IsBy}

-- no call gives the machine another serial
spaced_serial : (m : Machine) (f : Space → Machine) → ((s : Space) → (f s).serial ≡ m.serial) → (o : Option Space) → (option_map_or f o m).serial ≡ m.serial
spaced_serial m f same None = refl
spaced_serial m f same (Some s) = same s

changed_serial : (m : Machine) (c : Call) → (change m c).serial ≡ m.serial
changed_serial m (call.MapAnonymous space) = spaced_serial m _ (λ s. refl) (space_at m.spaces space)
changed_serial m (call.Unmap space) = spaced_serial m _ (λ s. refl) (space_at m.spaces space)
changed_serial m (call.Protect space writable) = spaced_serial m _ (λ s. refl) (space_at m.spaces space)
changed_serial m (call.Kill space) = spaced_serial m _ (λ s. refl) (space_at m.spaces space)
changed_serial m (call.ForceOut space) = spaced_serial m _ (λ s. refl) (space_at m.spaces space)
changed_serial m other = refl

next_serial : (m : Machine) (line : TraceLine) → (next_line m line).serial ≡ m.serial
next_serial m None = refl
next_serial m (Some c) = by (is_none (refusal m c))
  where
    by : (b : Bool) → (cond b (change m c) m).serial ≡ m.serial
    by true = changed_serial m c
    by false = refl

pub after_serial : (m : Machine) (lines : List TraceLine) (k : ℕ) → (after m lines k).serial ≡ m.serial
after_serial m lines zero = refl
after_serial m [] (suc k) = refl
after_serial m (line ∷ lines) (suc k) = after_serial (next_line m line) lines k ∙ next_serial m line

-- later lines change no machine before them
after_before : (m : Machine) (lines more : List TraceLine) (k : ℕ) → k ≤ length lines → after m (lines ++ more) k ≡ after m lines k
after_before m lines more zero few = refl
after_before m [] more (suc k) few = absurd (omega (arith, few))
after_before m (line ∷ lines) more (suc k) few = after_before (next_line m line) lines more k (omega (arith, few))

-- and go on from the one after these
after_after : (m : Machine) (lines more : List TraceLine) (j : ℕ) → after m (lines ++ more) (length lines + j) ≡ after (after m lines (length lines)) more j
after_after m [] more j = ap (after m more) (let z : 0 + j ≡ j = omega arith in z)
after_after m (line ∷ lines) more j =
    ap (after m (line ∷ (lines ++ more))) (let z : suc (length lines) + j ≡ suc (length lines + j) = omega arith in z) ∙ after_after (next_line m line) lines more j

-- no line is left after them
after_end : (m : Machine) (lines : List TraceLine) → after m lines (suc (length lines)) ≡ after m lines (length lines)
after_end m [] = refl
after_end m (line ∷ lines) = after_end (next_line m line) lines

-- the counter is that of before the line or of after it
abbrev pub HasCounter : Machine → List TraceLine → ℕ → List Sector → Type 0
HasCounter m lines j d = (counter_of d ≡ (after m lines j).counter) ⊎ (counter_of d ≡ (after m lines (suc j)).counter)

pub counter_before : (m : Machine) (lines more : List TraceLine) (j i : ℕ) (d : List Sector) → IsBy j i (length lines) 0 → HasCounter m lines j d → HasCounter m (lines ++ more) j d
counter_before m lines more j i d (inl less) (inl same) = inl (same ∙ sym (ap (λ (n : Machine). n.counter) (after_before m lines more j (omega (arith, less)))))
counter_before m lines more j i d (inl less) (inr same) = inr (same ∙ sym (ap (λ (n : Machine). n.counter) (after_before m lines more (suc j) (omega (arith, less)))))
counter_before m lines more j i d (inr few) (inl same) = inl (same ∙ sym (ap (λ (n : Machine). n.counter) (after_before m lines more j (let e = few.0 in omega (arith, e)))))
counter_before m lines more j i d (inr few) (inr same) =
    inl (same
    ∙ subst (λ (k : ℕ). (after m lines (suc k)).counter ≡ (after m lines k).counter) (sym few.0) (ap (λ (n : Machine). n.counter) (after_end m lines))
    ∙ sym (ap (λ (n : Machine). n.counter) (after_before m lines more j (let e = few.0 in omega (arith, e)))))

pub counter_after : (m : Machine) (lines more : List TraceLine) (j : ℕ) (d : List Sector) → HasCounter (after m lines (length lines)) more j d → HasCounter m (lines ++ more) (length lines + j) d
counter_after m lines more j d (inl same) = inl (same ∙ sym (ap (λ (n : Machine). n.counter) (after_after m lines more j)))
counter_after m lines more j d (inr same) =
    let z : length lines + suc j ≡ suc (length lines + j) = omega arith in
    inr (same ∙ sym (ap (λ (n : Machine). n.counter) (after_after m lines more (suc j))) ∙ ap (λ (k : ℕ). (after m (lines ++ more) k).counter) z)
