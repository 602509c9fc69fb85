-- The leader of a file is freed, and then its pages.
use Rattle.std.proofs.Common.{◌≡◌, ℕ, zero, suc, ◌+◌, ◌-◌, ◌<◌, ◌≤◌, true, List, [], ◌∷◌, ◌++◌, length, Some, refl, sym, ◌∙◌, ap, subst, arith}
use Rattle.std.specs.Prelude.{slice_get}
use Rattle.std.proofs.lemmas.Option.{same_Some, none-some}
use Rattle.labelled_disk.specs.declared.layout.Layout.{Layout}
use Rattle.labelled_disk.specs.Label.{leader_page}
use Rattle.labelled_disk.specs.Runs.{freeing}
use Rattle.labelled_disk.specs.Sectors.{Sector}
use Rattle.labelled_disk.specs.State.{DiskState}
use Rattle.frame_pool.specs.Frames.{Slots}
use Rattle.file_map.specs.FileMap.{Triples}
use Rattle.flat_machine.specs.declared.space.Space.{Space}
use Rattle.swapper_kernel.specs.declared.manager.Manager.TheVariants.{AllocationMap}
use Rattle.swapper_kernel.specs.DiffersLaws.{names_page}
use Rattle.swapper_kernel.specs.Homes.{IsLayout}
use Rattle.swapper_kernel.specs.Goes.{Goes}
use Rattle.swapper_kernel.specs.GoesLaws.{goes_then}
use Rattle.swapper_kernel.specs.HaltLaws.{brings_then}
use Rattle.filer_kernel.specs.declared.cached.CachedRuns.{CachedRuns}
use Rattle.session_words.specs.Volume.{volume_page}
use Rattle.file_manager.specs.Freeing.{IsNone, FreesSectors, AreNamedUp, HasPageAt, MayFree, MayFreeAll, Freed, FreedAll, MakesFree}
use Rattle.file_manager.proofs.FreedSectors.{freeing_append, frees_then}
use Rattle.file_manager.proofs.FreedRun.{one_memory, after_map, first_is, makes_free_then}

-- each of the sectors is named for the page of its turn
pub up_at : (named : Triples) (id page : ℕ) (is : List ℕ) → AreNamedUp named id page is → (j s : ℕ) → slice_get is j ≡ Some s → (j < length is) × (named id (page + j) s ≡ true)
up_at named id page [] up j s at = absurd (none-some s at)
up_at named id page (i ∷ is) up zero s at =
    (omega arith, subst (λ (p : ℕ). named id p s ≡ true) (let z : page ≡ page + 0 = omega arith in z) (subst (λ (k : ℕ). named id page k ≡ true) (same_Some i s at) up.0))
up_at named id page (i ∷ is) up (suc j) s at =
    let rest = up_at named id (page + 1) is up.1 j s at in
    let below = rest.0 in
    (omega (arith, below), subst (λ (p : ℕ). named id p s ≡ true) (let z : page + 1 + j ≡ page + suc j = omega arith in z) rest.1)

pub one_alone : (xs : List ℕ) → length xs ≡ 1 → (x : ℕ) × (xs ≡ x ∷ [])
one_alone [] long = absurd (omega (arith, long))
one_alone (x ∷ []) long = (x, refl)
one_alone (x ∷ y ∷ xs) long = absurd (omega (arith, long))

module _ {layout : Layout} {named : Triples} {spaces : List Space} {id pages first : ℕ} {d0 d1 : DiskState} {s0 s1 : Slots} {kept later : CachedRuns} (is : IsLayout layout) (m : List Sector)
    (all : MayFreeAll d0 s0 layout kept named spaces id pages m) (few : pages ≤ leader_page) (one : first ≡ 1) (h : Freed layout named spaces id leader_page first (leader_page + 1) d0 s0 d1 s1 later) where
  frees : FreesSectors layout h.sectors m h.memory
  frees = let now = h.goes.memory m all.rest.stands in subst (FreesSectors layout h.sectors m) (one_memory d1 s1 now.0 h.memory now.1 h.rest.stands) now.2

  labelled_then : (p s : ℕ) → 0 ≤ p → p < pages → named id p s ≡ true → HasPageAt layout h.memory id p s
  labelled_then p s above below is_named =
      let was = all.rest.labelled p s above below is_named in
      let one_there = was.1 in
      let apart : IsNone h.sectors s = λ j at.
      let u = up_at named id leader_page h.sectors h.up j s at in
      let inside = u.0 in
      let long = h.long in
      let other = (all.leader.labelled (leader_page + j) s (omega arith) (omega (arith, inside, long, one)) u.1).1 in
      let same : other.0 ≡ one_there.0 = same_Some other.0 one_there.0 (sym other.1 ∙ one_there.1) in
      let a : other.0.0.page ≡ leader_page + j = names_page other.0.0 (record { id = id; page = leader_page + j }) other.2 in
      let b : one_there.0.0.page ≡ p = names_page one_there.0.0 (record { id = id; page = p }) one_there.2 in
      let c : other.0.0.page ≡ one_there.0.0.page = ap (λ (t : Sector). t.0.page) same in
      omega (arith, below, few, a, b, c) in
      (was.0, (one_there.0, frees.pages s one_there.0 one_there.1 apart (after_map AllocationMap layout s one_there.0.0 (let f = first_is layout is in let low = was.0 in omega (arith, f, low))), one_there.2))

  pub may_rest : MayFree d1 s1 layout later named spaces id 0 pages h.memory
  may_rest = record {
    stands = h.rest.stands;
    long = h.rest.long;
    map = h.rest.map;
    kept = h.rest.kept;
    marks = h.rest.marks;
    bits = h.rest.bits;
    map_labels = h.rest.map_labels;
    frames = h.rest.frames;
    hidden = h.rest.hidden;
    mapped = all.rest.mapped;
    labelled = labelled_then;
  }

  pub all_freed : {d2 : DiskState} {s2 : Slots} {last : CachedRuns} → Freed layout named spaces id 0 (pages - 0) pages d1 s1 d2 s2 last → FreedAll layout named spaces id pages d0 s0 d2 s2 last
  all_freed {d2 = d2} {s2 = s2} {last = last} k =
      let alone = one_alone h.sectors (h.long ∙ one) in
      let z : pages - 0 ≡ pages = omega arith in
      let goes : Goes (FreesSectors layout (h.sectors ++ k.sectors)) volume_page (freeing (h.sectors ++ k.sectors)) d0 s0 d2 s2 =
      subst (λ ws. Goes (FreesSectors layout (h.sectors ++ k.sectors)) volume_page ws d0 s0 d2 s2) (freeing_append h.sectors k.sectors)
      (goes_then (FreesSectors layout h.sectors) (FreesSectors layout k.sectors) (FreesSectors layout (h.sectors ++ k.sectors)) (λ m n o x y. frees_then layout h.sectors k.sectors m n o x y) h.goes k.goes) in
      let up = subst (λ (xs : List ℕ). AreNamedUp named id leader_page xs) alone.1 h.up in
      record {
        leader = alone.0;
        leads = up.0;
        sectors = k.sectors;
        long = k.long ∙ z;
        up = k.up;
        goes = subst (λ (xs : List ℕ). Goes (FreesSectors layout (xs ++ k.sectors)) volume_page (freeing (xs ++ k.sectors)) d0 s0 d2 s2) alone.1 goes;
        brings = brings_then h.brings k.brings;
        memory = k.memory;
        rest = subst (λ (n : ℕ). MayFree d2 s2 layout last named spaces id n pages k.memory) (let y : 0 + (pages - 0) ≡ pages = omega arith in y) k.rest;
      }

pub all_made : {first : ℕ} {a b c : DiskState} {s t u : Slots} (pages : ℕ) → first ≡ 1 → MakesFree first a s b t → MakesFree (pages - 0) b t c u → MakesFree (1 + pages) a s c u
all_made {first = first} {a = a} {c = c} {s = s} {u = u} pages one h k = subst (λ (n : ℕ). MakesFree n a s c u) (let z : first + (pages - 0) ≡ 1 + pages = omega (arith, one) in z) (makes_free_then h k)

pub one_page : {n : ℕ} → (1 ≤ n) × (n ≤ 1) → n ≡ 1
one_page some = let a = some.0 in let b = some.1 in omega (arith, a, b)
