-- Bytes moved through a window, which is then taken away.
use Rattle.std.proofs.Common.{◌≡◌, ◌∙◌, ◌⊎◌, inl, inr, ℕ, ◌+◌, ◌-◌, ◌*◌, ◌/◌, ◌%◌, ◌<◌, ◌≤◌, ◌^◌, Bool, false, true, refl, sym, ap, subst, arith, List, length, Result, Ok, Err, IsOk, IfErr, OnOk}
use Rattle.std.specs.Prelude.{take, MatchResult}
use Rattle.std.specs.Int.{div_ceil}
use Rattle.std.proofs.Math.Seq.{take-length}
use Rattle.labelled_disk.specs.declared.disk.Disk.{Ghosts}
use Rattle.labelled_disk.specs.declared.evidence.Halt.{Halt}
use Rattle.labelled_disk.specs.declared.evidence.Halt.TheVariants as halt
use Rattle.flat_machine.specs.declared.call.Call.{Call}
use Rattle.flat_machine.specs.declared.call.Reply.{Reply}
use Rattle.flat_machine.specs.Machine.{Machine}
use Rattle.flat_machine.specs.IsMachine.{IsMachine}
use Rattle.embedded.specs.declared.code.Code.{Code}
use Rattle.embedded.specs.declared.code.Code.TheVariants as code
use Rattle.embedded.specs.declared.engine.Engine.{Engine}
use Rattle.embedded.specs.Called.{Called, HasStopped}
use Rattle.embedded.specs.Engine.{IsClosed, StandsFor}
use Rattle.embedded.specs.References.{AreAt, Stored}
use Rattle.documents.specs.Pieces.{after_look, after_store, forced}
use Rattle.documents.specs.Stands.{HasRead, StillFor, StoredPart, is_failure}
use Rattle.documents.specs.Windows.{IsHidden, IsShown, place, showing}
use Rattle.documents.proofs.MachineLemmas.{forced_among}
use Rattle.documents.proofs.ShowLemmas.{look_hides, loaded_is}
use Rattle.documents.proofs.StoredLemmas.{store_hides}
use Rattle.documents.proofs.WindowLemmas.{is_made}

-- Parts of a match.

module _ {T E : Type 0} where
  pub match_ok : (P : Type 0) (Q : E → Type 0) (r : Result T E) → MatchResult r (λ done. P) Q → OnOk r P
  match_ok P Q (Ok t) p = p
  match_ok P Q (Err e) q = tt

  pub match_err : (P : Type 0) (Q : E → Type 0) (r : Result T E) → MatchResult r (λ done. P) Q → IfErr r Q
  match_err P Q (Ok t) p = tt
  match_err P Q (Err e) q = q

  pub match_weaker : (P : Type 0) (Q R : E → Type 0) (r : Result T E) → ((e : E) → Q e → R e) → MatchResult r (λ done. P) Q → MatchResult r (λ done. P) R
  match_weaker P Q R (Ok t) f p = p
  match_weaker P Q R (Err e) f q = f e q

-- as many pages as so many bytes fill
pub pages_fill : (count pages : ℕ) → pages ≡ div_ceil count 512 → count ≤ 512 * pages
pages_fill count pages is = omega (arith, is)

-- they are as many as were asked for, where a space of so many was made
pub pages_are : (m : Machine) (id page pages count : ℕ) (writable : Bool) (space address : ℕ) → IsMachine m → IsShown m id page pages writable space address
    → (pages < 2 ^ 32 - 1 → pages ≡ div_ceil count 512) → pages ≡ div_ceil count 512
pages_are m id page pages count writable space address h shown few =
    let inside = (is_made m pages h shown.makes).inside in
    few (omega (arith, inside))

module _ {D A : Type 0} {G : Ghosts D} where
  -- what was begun was taken back, or the disk failed meanwhile
  pub kept_back : {P : Type 0} (call : Call) (c d : Engine D A G) (handed error : Code) (gone : Result Reply Code) → Called call c gone d → (error ≡ is_failure → HasStopped halt.Disk c)
      → (handed ≡ error) ⊎ ((why : Halt) × (gone ≡ Err (code.Halted why)) × (handed ≡ code.Halted why)) → (gone ≡ Err is_failure → handed ≡ is_failure)
      → (error ≡ is_failure) ⊎ (P ⊎ (gone ≡ Err is_failure)) → (handed ≡ is_failure) ⊎ P
  kept_back call c d handed error gone called stopped which halted (inl bad) =
      let shut = (called.closed (stopped bad).closed).0 in
      inl (elim which [
        | inl same ↦ same ∙ bad
        | inr other ↦ absurd (cc (shut, other.1))
      ])
  kept_back call c d handed error gone called stopped which halted (inr (inl p)) = inr p
  kept_back call c d handed error gone called stopped which halted (inr (inr bad)) = inl (halted bad)

  -- the window goes, where bytes were not moved
  pub end_err : (last : Machine) (d : Engine D A G) (handed : Code) (hidden : Result (Unit {0}) Code)
      → (hidden ≡ Err is_failure → handed ≡ is_failure) → MatchResult hidden (λ done. StandsFor d last) (λ e. e ≡ is_failure) → (handed ≡ is_failure) ⊎ StandsFor d last
  end_err last d handed (Ok done) halted st = inr st
  end_err last d handed (Err e) halted bad = inl (halted (ap (λ (x : Code). Err x) bad))

  -- the disk failed while they were moved
  pub end_failed : (c : Engine D A G) (handed error : Code) (hidden : Result (Unit {0}) Code) → (error ≡ is_failure → HasStopped halt.Disk c) → (IsClosed c → hidden ≡ Err code.Closed)
      → (handed ≡ error) ⊎ ((why : Halt) × (hidden ≡ Err (code.Halted why)) × (handed ≡ code.Halted why)) → error ≡ is_failure → handed ≡ is_failure
  end_failed c handed error hidden stopped shut (inl same) bad = same ∙ bad
  end_failed c handed error hidden stopped shut (inr other) bad = absurd (cc (shut (stopped bad).closed, other.1))

  -- Bytes were loaded.
  module _ (m : Machine) (id page pages : ℕ) (writable : Bool) (space address count asked : ℕ) (bytes : List ℕ) (moved : Result (Unit {0}) Code) (c d : Engine D A G) (h : IsMachine m)
      (shown : IsShown m id page pages writable space address) (few : pages < 2 ^ 32 - 1 → pages ≡ div_ceil asked 512) (width : length bytes ≡ asked) where
    pub load_ends : (result : Result (Unit {0}) Code) → (StandsFor c (showing m id page pages writable) ⊎ (moved ≡ Err is_failure))
        → AreAt (showing m id page pages writable) address count bytes → OnOk moved (count ≡ asked)
        → ((n last : Machine) → StandsFor c n → IsHidden n space last → MatchResult result (λ done. StandsFor d last) (λ e. (e ≡ is_failure) ⊎ StandsFor d last))
        → (moved ≡ Err is_failure → result ≡ Err is_failure) → OnOk result (IsOk moved)
        → MatchResult result (λ done. HasRead m id page bytes d) (λ e. (e ≡ is_failure) ⊎ StillFor m d)
    load_ends result (inr bad) at whole ends fails ok =
        subst (λ (r : Result (Unit {0}) Code). MatchResult r (λ done. HasRead m id page bytes d) (λ e. (e ≡ is_failure) ⊎ StillFor m d)) (sym (fails bad)) (inl refl)
    load_ends (Err e) (inl stands) at whole ends fails ok =
        elim (ends (showing m id page pages writable) (after_look id page pages m) stands (look_hides m id page pages writable space address h shown)) [
          | inl bad ↦ inl bad
          | inr st ↦ inr (forced id page pages m.unforced, forced_among id page pages m.unforced, st)
        ]
    load_ends (Ok done) (inl stands) at whole ends fails ok =
        let st = ends (showing m id page pages writable) (after_look id page pages m) stands (look_hides m id page pages writable space address h shown) in
        let all : count ≡ asked = when moved ok whole in
        let is = pages_are m id page pages asked writable space address h shown few in
        loaded_is m id page pages writable space address count bytes d h shown (omega (arith, all, width)) (omega (arith, pages_fill asked pages is, width)) at st
      where
        when : {P : Type 0} (r : Result (Unit {0}) Code) → IsOk r → OnOk r P → P
        when (Ok done) o p = p
        when (Err e) o p = let wrong : false ≡ true = o in absurd (cc wrong)

  -- Bytes were stored.
  module _ (m : Machine) (id page pages space address done : ℕ) (bytes : List ℕ) (moved : Result (Unit {0}) Code) (c d : Engine D A G) (h : IsMachine m)
      (shown : IsShown m id page pages true space address) (few : pages < 2 ^ 32 - 1 → pages ≡ div_ceil (length bytes) 512) where
    pub store_ends : (result : Result (Unit {0}) Code) → (Stored (showing m id page pages true) address done bytes c ⊎ (moved ≡ Err is_failure))
        → done ≤ length bytes → OnOk moved (done ≡ length bytes)
        → ((n last : Machine) → StandsFor c n → IsHidden n space last → MatchResult result (λ ok. StandsFor d last) (λ e. (e ≡ is_failure) ⊎ StandsFor d last))
        → (moved ≡ Err is_failure → result ≡ Err is_failure) → OnOk result (IsOk moved)
        → MatchResult result (λ ok. StandsFor d (after_store id page (div_ceil (length bytes) 512) bytes m)) (λ e. StoredPart m id page bytes e d)
    store_ends result (inr bad) part whole ends fails ok =
        subst (λ (r : Result (Unit {0}) Code). MatchResult r (λ ok. StandsFor d (after_store id page (div_ceil (length bytes) 512) bytes m)) (λ e. StoredPart m id page bytes e d)) (sym (fails bad)) (inl refl)
    store_ends (Err e) (inl s) part whole ends fails ok =
        let is = pages_are m id page pages (length bytes) true space address h shown few in
        elim (ends s.after (after_store id page pages (take done bytes) m) s.stands
        (store_hides m id page pages space address done bytes c h shown s part (pages_fill (length bytes) pages is))) [
          | inl bad ↦ inl bad
          | inr st ↦ inr (inr (done, subst (λ (p : ℕ). StandsFor d (after_store id page p (take done bytes) m)) is st))
        ]
    store_ends (Ok it) (inl s) part whole ends fails ok =
        let is = pages_are m id page pages (length bytes) true space address h shown few in
        let st = ends s.after (after_store id page pages (take done bytes) m) s.stands
        (store_hides m id page pages space address done bytes c h shown s part (pages_fill (length bytes) pages is)) in
        let all : take done bytes ≡ bytes = ap (λ (k : ℕ). take k bytes) (when moved ok whole) ∙ take-length bytes in
        subst (λ (p : ℕ). StandsFor d (after_store id page p bytes m)) is
        (subst (λ (l : List ℕ). StandsFor d (after_store id page pages l m)) all st)
      where
        when : {P : Type 0} (r : Result (Unit {0}) Code) → IsOk r → OnOk r P → P
        when (Ok done) o p = p
        when (Err e) o p = let wrong : false ≡ true = o in absurd (cc wrong)
