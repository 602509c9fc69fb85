-- A counter that is raised triple by triple.
use Rattle.std.proofs.Common.{◌≡◌, ◌⊎◌, inl, inr, ℕ, ◌+◌, ◌-◌, ◌/◌, ◌%◌, ◌^◌, ◌<◌, ◌≤◌, false, List, length, Some, refl, sym, ◌∙◌, ap, subst, arith, min}
use Rattle.std.specs.Prelude.{slice_get}
use Rattle.std.proofs.lemmas.Option.{same_Some, slice_get_within}
use Rattle.std.proofs.lemmas.Bool.{cases_lt}
use Rattle.labelled_disk.specs.Sectors.{Sector}
use Rattle.labelled_disk.specs.File.{File}
use Rattle.labelled_disk.specs.FilesOn.{disk_file}
use Rattle.labelled_disk.specs.Right.{IsGiven}
use Rattle.labelled_disk.proofs.WriteLemmas as laws
use Rattle.label_survey.specs.declared.triples.Triple.{Triple}
use Rattle.label_survey.specs.Counter.{IsRaised}
use Rattle.label_survey.specs.Triples.{AreNeeded}
use Rattle.label_survey.proofs.SectorStateLemmas.{needed_file, file_leader, file_low}

-- one more than the low half of the identifier, as far as it fits
abbrev pub above : Triple → ℕ
above t = min (t.id % 2 ^ 32 + 1) (2 ^ 32 - 1)

pub record IsRaisedBy (triples : List Triple) (serial counter k now : ℕ) : Type 0 where
  pub kept : counter ≤ now
  pub over : (j : ℕ) (t : Triple) → j < k → slice_get triples j ≡ Some t → t.id / 2 ^ 32 ≡ serial → above t ≤ now
  pub least : (now ≡ counter) ⊎ ((j : ℕ) × (t : Triple) × (slice_get triples j ≡ Some t) × (t.id / 2 ^ 32 ≡ serial) × (above t ≡ now))

pub none_yet : (triples : List Triple) (serial counter : ℕ) → IsRaisedBy triples serial counter 0 counter
none_yet triples serial counter = record { kept = omega arith; over = λ j t l. absurd (omega (arith, l)); least = inl refl }

module _ (triples : List Triple) (serial counter k now : ℕ) (t : Triple) (at : slice_get triples k ≡ Some t) (so_far : IsRaisedBy triples serial counter k now) where
  this_one : (P : Triple → Type 0) (j : ℕ) (u : Triple) → j < k + 1 → slice_get triples j ≡ Some u → (j < k → P u) → P t → P u
  this_one P j u l here earlier this = either (cases_lt j k)
    where
      either : (j < k) ⊎ (k ≤ j) → P u
      either (inl m) = earlier m
      either (inr m) = let same : k ≡ j = omega (arith, l, m) in subst P (same_Some t u (sym at ∙ ap (slice_get triples) same ∙ here)) this

  pub one_raises : (new : ℕ) → t.id / 2 ^ 32 ≡ serial → new ≡ above t → now < new → IsRaisedBy triples serial counter (k + 1) new
  one_raises new same is l = record {
    kept = omega (arith, so_far.kept, l);
    over = λ j u m here own. this_one (λ (v : Triple). above v ≤ new) j u m here (λ n. let o = so_far.over j u n here own in omega (arith, o, l)) (omega (arith, is));
    least = inr (k, t, at, same, sym is);
  }

  pub one_passes : (t.id / 2 ^ 32 ≡ serial → above t ≤ now) → IsRaisedBy triples serial counter (k + 1) now
  one_passes low = record {
    kept = so_far.kept;
    over = λ j u m here. this_one (λ (v : Triple). v.id / 2 ^ 32 ≡ serial → above v ≤ now) j u m here (λ n. so_far.over j u n here) low;
    least = so_far.least;
  }

module _ (d : List Sector) (triples : List Triple) (needed : AreNeeded d triples) where
  pub raised : (serial counter k now : ℕ) → length triples ≤ k → IsRaisedBy triples serial counter k now → IsRaised d serial counter now
  raised serial counter k now full by = record {
    kept = by.kept;
    given = laws.each_file false 0 0 (IsGiven serial now) d (λ id f is own. file id f is own);
    least = elim by.least [
      | inl same ↦ inl same
      | inr one ↦
          let t = needed.each one.0 one.1 one.2 in
          let f = needed_file d one.1.sector t.0 t.1 t.2 in
          let low = file_low d f.0 f.1 in
          let id : f.0.id ≡ one.1.id = f.2 ∙ sym t.3 in
          inr (f.0, f.1, ap (λ (n : ℕ). n / 2 ^ 32) id ∙ one.3, omega (arith, one.4, low, ap (λ (n : ℕ). n % 2 ^ 32) id))
    ];
  }
    where
      file : (id : ℕ) (f : File) → disk_file false d id ≡ Some f → f.id / 2 ^ 32 ≡ serial → f.id % 2 ^ 32 < now
      file id f is own =
          let lead = file_leader d id f is in
          let found = needed.all lead.0 lead.1 lead.2 lead.3 in
          let over = by.over found.0 _ (omega (arith, full, slice_get_within triples found.0 _ found.1)) found.1 (ap (λ (n : ℕ). n / 2 ^ 32) lead.4 ∙ own) in
          let low = file_low d f (ap (disk_file false d) lead.5 ∙ is) in
          omega (arith, over, low, ap (λ (n : ℕ). n % 2 ^ 32) lead.4)
