-- Runs of sectors that a sector more is added to.
use Rattle.std.proofs.Common.{◌≡◌, ◌≢◌, inl, inr, ℕ, ◌+◌, Bool, List, [], ◌∷◌, ◌++◌, length, sym, ◌∙◌, ap, subst, arith}
use Rattle.std.proofs.lemmas.Bool.{cases_eq}
use Rattle.std.proofs.lemmas.Option.{none-some}
use Rattle.volume_view.specs.declared.bit_runs.BitRun.{BitRun}
use Rattle.volume_view.specs.BitRuns.{IsInSome, IsWrong, IsWrongRun, IsAfter, AreBitsApart, AreCompared}
use Rattle.volume_view.proofs.ListLemmas.{in_pushed, pushed_prefix, pushed_last}

-- the sector alone
abbrev one_of : ℕ → Bool → BitRun
one_of n used = record { first = n; sectors = 1; used = used }

-- the run with the sector after its last
abbrev longer : BitRun → BitRun
longer r = record r { sectors = r.sectors + 1 }

longer_apart : (runs : List BitRun) (last : BitRun) → AreBitsApart (runs ++ last ∷ []) → AreBitsApart (runs ++ longer last ∷ [])
longer_apart [] last all = tt
longer_apart (r ∷ []) last all = (all.0, tt)
longer_apart (r ∷ q ∷ runs) last all = (all.0, longer_apart (q ∷ runs) last all.1)

more_apart : (runs : List BitRun) (last x : BitRun) → IsAfter last x → AreBitsApart (runs ++ last ∷ []) → AreBitsApart ((runs ++ last ∷ []) ++ x ∷ [])
more_apart [] last x after all = (after, tt)
more_apart (r ∷ []) last x after all = (all.0, (after, tt))
more_apart (r ∷ q ∷ runs) last x after all = (all.0, more_apart (q ∷ runs) last x after all.1)

pub compared_none : (says right : ℕ → Bool) → AreCompared says right 0 []
compared_none says right = record { each = λ k r at. absurd (none-some r at); all = λ i below. absurd (omega (arith, below)); apart = tt; below = λ k r at. absurd (none-some r at) }

module _ (says right : ℕ → Bool) (n : ℕ) where
  pub compared_same : (runs : List BitRun) → AreCompared says right n runs → says n ≡ right n → AreCompared says right (n + 1) runs
  compared_same runs so_far same = record {
    each = so_far.each;
    all = λ i below other. elim (cases_eq i n) [
      | inl here ↦ absurd (other (ap says here ∙ same ∙ ap right (sym here)))
      | inr apart ↦ so_far.all i (omega (arith, below, apart)) other
    ];
    apart = so_far.apart;
    below = λ k r at. omega (arith, so_far.below k r at);
  }

  module _ (used : Bool) (wrong : IsWrong says right used n) where
    one_wrong : IsWrongRun says right (one_of n used)
    one_wrong = record { some = omega arith; each = λ i in_it. let at : n ≡ i = omega (arith, in_it.0, in_it.1) in subst (IsWrong says right used) at wrong }

    -- a run of its own
    module _ (runs : List BitRun) (so_far : AreCompared says right n runs) (apart : AreBitsApart (runs ++ one_of n used ∷ [])) where
      one_more : AreCompared says right (n + 1) (runs ++ one_of n used ∷ [])
      one_more = record {
        each = λ k r at. elim (in_pushed runs (one_of n used) k r at) [ inl old ↦ so_far.each k r old | inr last ↦ subst (IsWrongRun says right) last one_wrong ];
        all = λ i below other. elim (cases_eq i n) [
          | inl here ↦ (length runs, one_of n used, pushed_last runs (one_of n used), (omega (arith, here), omega (arith, here)))
          | inr not_here ↦ let old = so_far.all i (omega (arith, below, not_here)) other in (old.0, old.1, pushed_prefix runs (one_of n used) old.0 old.1 old.2, old.3)
        ];
        apart = apart;
        below = λ k r at. elim (in_pushed runs (one_of n used) k r at) [ inl old ↦ omega (arith, so_far.below k r old) | inr last ↦ omega (arith, ap (λ (q : BitRun). q.first + q.sectors) (sym last)) ];
      }

    pub compared_first : (runs : List BitRun) → runs ≡ [] → AreCompared says right n runs → AreCompared says right (n + 1) (one_of n used ∷ [])
    compared_first runs none so_far = one_more [] (subst (AreCompared says right n) none so_far) tt

    module _ (runs : List BitRun) (last : BitRun) (so_far : AreCompared says right n (runs ++ last ∷ [])) where
      pub compared_more : (last.first + last.sectors ≡ n → last.used ≢ used) → AreCompared says right (n + 1) ((runs ++ last ∷ []) ++ one_of n used ∷ [])
      compared_more ends = one_more (runs ++ last ∷ []) so_far (more_apart runs last (one_of n used) (so_far.below (length runs) last (pushed_last runs last), ends) so_far.apart)

      pub compared_longer : last.first + last.sectors ≡ n → last.used ≡ used → AreCompared says right (n + 1) (runs ++ longer last ∷ [])
      compared_longer ends same = record {
        each = λ k r at. elim (in_pushed runs (longer last) k r at) [ inl old ↦ so_far.each k r (pushed_prefix runs last k r old) | inr it ↦ subst (IsWrongRun says right) it long_wrong ];
        all = λ i below other. elim (cases_eq i n) [
          | inl here ↦ (length runs, longer last, pushed_last runs (longer last), (omega (arith, here, ends), omega (arith, here, ends)))
          | inr not_here ↦ in_longer i (so_far.all i (omega (arith, below, not_here)) other)
        ];
        apart = longer_apart runs last so_far.apart;
        below = λ k r at. elim (in_pushed runs (longer last) k r at) [
          | inl old ↦ omega (arith, so_far.below k r (pushed_prefix runs last k r old))
          | inr it ↦ omega (arith, ends, ap (λ (q : BitRun). q.first + q.sectors) (sym it))
        ];
      }
        where
          last_wrong : IsWrongRun says right last
          last_wrong = so_far.each (length runs) last (pushed_last runs last)

          long_wrong : IsWrongRun says right (longer last)
          long_wrong = record {
            some = omega arith;
            each = λ i in_it. elim (cases_eq i n) [
              | inl here ↦ subst (λ (b : Bool). IsWrong says right b i) (sym same) (subst (IsWrong says right used) (sym here) wrong)
              | inr not_here ↦ last_wrong.each i (in_it.0, omega (arith, in_it.1, ends, not_here))
            ];
          }

          in_longer : (i : ℕ) → IsInSome (runs ++ last ∷ []) i → IsInSome (runs ++ longer last ∷ []) i
          in_longer i old = elim (in_pushed runs last old.0 old.1 old.2) [
            | inl prefix ↦ (old.0, old.1, pushed_prefix runs (longer last) old.0 old.1 prefix, old.3)
            | inr it ↦ (length runs, longer last, pushed_last runs (longer last), (omega (arith, old.3.0, ap (λ (q : BitRun). q.first) it), omega (arith, old.3.1, ap (λ (q : BitRun). q.first + q.sectors) it)))
          ]
