-- A volume that is left open.
use Rattle.std.proofs.Common.{◌≡◌, ◌≢◌, ◌⊎◌, inl, inr, ℕ, true, false, List, Option, Some, refl, sym, ◌∙◌, subst}
use Rattle.flat_machine.specs.Machine.{Machine}
use Rattle.trace_io.specs.Progress.{Progress}
use Rattle.trace_io.specs.Reading.{reading}
use Rattle.pilot_top.specs.Ending.{is_closed, is_halted}
use Rattle.pilot_top.specs.Headline.{EndsEarly}
use Rattle.pilot_top.specs.Turn.{EndsTrace}
use Rattle.pilot_top.specs.declared.status.Status.{Status}
use Rattle.pilot_top.specs.declared.status.Status.TheVariants as status
use Rattle.pilot_top.specs.declared.turn.End.{End}
use Rattle.pilot_top.specs.declared.turn.End.TheVariants as end
use Rattle.pilot_top.proofs.EndLemmas.{End-halts, End-closes}
use Rattle.pilot_top.proofs.TopLemmas.{Going}

by_halt : (how : End) → is_halted how ≡ true → how ≡ end.Halt
by_halt end.Halt is = refl
by_halt end.Close is = absurd (cc is)
by_halt end.Trace is = absurd (cc is)

by_no_close : (how : End) → is_closed how ≡ false → how ≢ end.Trace → how ≡ end.Halt
by_no_close end.Halt is other = refl
by_no_close end.Close is other = absurd (cc is)
by_no_close end.Trace is other = absurd (other refl)

-- where a trace at its end has left the session open, it was stopped by `halt`, or the volume is damaged
pub early_halt : (x : List ℕ) (b t u : Option (List ℕ)) (p : Progress) (first now : Machine → Type 0) (going : Going (Some x) b t u p first now) (s : Status) (how : End) (c : Option (List ℕ)) (q : Progress) → EndsTrace how b c p q
    → (s ≡ status.Done) ⊎ (s ≡ status.StreamFault) ⊎ (s ≡ status.DiskFault) ⊎ (s ≡ status.Damaged) → (s ≡ status.StreamFault → how ≢ end.Trace) → EndsEarly s (reading x) → (how ≡ end.Halt) ⊎ (s ≡ status.Damaged)
early_halt x b t u p first now going s how c q ended (inl done) heard early =
    inl (by_halt how (sym (End-halts x b t u p first now going how c q ended) ∙ subst (λ (y : Status). EndsEarly y (reading x)) done early))
early_halt x b t u p first now going s how c q ended (inr (inl stream)) heard early =
    inl (by_no_close how (sym (End-closes x b t u p first now going how c q ended) ∙ subst (λ (y : Status). EndsEarly y (reading x)) stream early) (heard stream))
early_halt x b t u p first now going s how c q ended (inr (inr (inl disk))) heard early = absurd (subst (λ (y : Status). EndsEarly y (reading x)) disk early)
early_halt x b t u p first now going s how c q ended (inr (inr (inr damaged))) heard early = inr damaged
