-- A disk is taken out of an engine, or there is none to be taken.
use Rattle.std.proofs.Common.{◌≡◌, sym, ap, subst, refl, Option, Some, None, Result, Err}
use Rattle.labelled_disk.specs.declared.disk.Disk.{Ghosts}
use Rattle.labelled_disk.specs.State.{DiskState}
use Rattle.embedded.specs.declared.code.Code.{Code}
use Rattle.embedded.specs.declared.engine.Engine.{Engine}
use Rattle.embedded.specs.declared.held.Held.{Held}
use Rattle.embedded.specs.declared.held.Held.TheVariants as held
use Rattle.embedded.specs.Taking.{MissesFree, Takes, TakesIn, free_disk, free_in}

module _ (T : Type 0) {D A : Type 0} {G : Ghosts D} where
  misses_in : (P : DiskState → Type 0) (h : Held D A G) (e : Code) (same : Type 0) → MissesFree h e → same → TakesIn {T = T} P h (Err e) same
  misses_in P held.Nothing e same is there = (ap (λ (x : Code). Err x) is, there)
  misses_in P (held.Disk disk) e same is there = absurd is
  misses_in P (held.Session live) e same is there = (ap (λ (x : Code). Err x) is, there)

  -- there is none, and this is why
  pub not_taken : (P : DiskState → Type 0) (old new : Engine D A G) (e : Code) → MissesFree old.held e → new ≡ old → Takes {T = T} P old (Err e) new
  not_taken P old new e misses same = misses_in P old.held e (new ≡ old) misses same

module _ {D A : Type 0} {G : Ghosts D} where
  -- what is put in the place of the disk that was taken out
  pub held_again : (a old : Engine D A G) (h : Held D A G) → a ≡ record old { held = held.Nothing } → ◌≡◌ {A = Engine D A G} (record a { held = h }) (record old { held = h })
  held_again a old h taken = ap (λ (e : Engine D A G). record e { held = h }) taken

  -- what an engine misses is said of what it holds
  pub misses_at : (h k : Held D A G) (e : Code) → h ≡ k → MissesFree h e → MissesFree k e
  misses_at h k e same misses = subst (λ (x : Held D A G). MissesFree x e) same misses

module _ {D A : Type 0} {G : Ghosts D} {T : Type 0} where
  -- it was taken, and so it is
  pub taken : (P : DiskState → Type 0) (old new : Engine D A G) (answer : Result T Code) (disk : D) → old.held ≡ held.Disk disk → P (G.state disk)
      → Takes P old answer new
  taken P old new answer disk is p = subst (λ (h : Held D A G). TakesIn P h answer (new ≡ old)) (sym is) p

  alike_in : (P : DiskState → Type 0) (h k : Held D A G) (answer : Result T Code) (was is : Type 0) → free_in k ≡ free_in h → (free_in h ≡ None → k ≡ h)
      → (free_in h ≡ None → is → was) → TakesIn P k answer is → TakesIn P h answer was
  alike_in P held.Nothing k answer was is free same back taken =
      let t = subst (λ (x : Held D A G). TakesIn P x answer is) (same refl) taken in
      (t.0, back refl t.1)
  alike_in P (held.Disk disk) held.Nothing answer was is free same back taken = absurd (cc free)
  alike_in P (held.Disk disk) (held.Disk other) answer was is free same back taken =
      let state : G.state other ≡ G.state disk = cc free in
      subst P state taken
  alike_in P (held.Disk disk) (held.Session live) answer was is free same back taken = absurd (cc free)
  alike_in P (held.Session live) k answer was is free same back taken =
      let t = subst (λ (x : Held D A G). TakesIn P x answer is) (same refl) taken in
      (t.0, back refl t.1)

  -- the same of an engine that is another at its disk alone, whose state is the same
  pub takes_alike : (P : DiskState → Type 0) (old middle new : Engine D A G) (answer : Result T Code) → free_disk middle ≡ free_disk old
      → (free_disk old ≡ None → middle ≡ old) → Takes P middle answer new → Takes P old answer new
  takes_alike P old middle new answer free same taken =
      alike_in P old.held middle.held answer (new ≡ old) (new ≡ middle) free (λ none. ap (λ (e : Engine D A G). e.held) (same none))
      (λ none is. subst (λ (e : Engine D A G). new ≡ e) (same none) is) taken
