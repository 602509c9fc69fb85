-- A stop while pages of a file are freed: which of them were.
use Rattle.std.proofs.Common.{◌≡◌, inl, inr, ℕ, zero, suc, ◌+◌, ◌-◌, ◌<◌, ◌≤◌, true, List, [], ◌∷◌, ◌++◌, length, take, refl, sym, ◌∙◌, ap, subst, arith}
use Rattle.std.specs.List.{range_with_len}
use Rattle.std.proofs.lemmas.List.FromFn.{length-range_with_len}
use Rattle.labelled_disk.specs.declared.disk.DiskWrite.{DiskWrite}
use Rattle.labelled_disk.specs.declared.layout.Layout.{Layout}
use Rattle.labelled_disk.specs.Label.{leader_page}
use Rattle.labelled_disk.specs.Runs.{freeing}
use Rattle.labelled_disk.specs.Sectors.{Sector}
use Rattle.labelled_disk.specs.State.{DiskState}
use Rattle.frame_pool.specs.Frames.{Slots}
use Rattle.file_map.specs.declared.run.Run.{Run}
use Rattle.file_map.specs.FileMap.{Triples}
use Rattle.flat_machine.specs.declared.space.Space.{Space}
use Rattle.swapper_kernel.specs.declared.manager.Manager.TheVariants.{AllocationMap}
use Rattle.swapper_kernel.specs.Goes.{Makes}
use Rattle.swapper_kernel.specs.GoesLaws.{makes_then, makes_wider}
use Rattle.swapper_kernel.specs.Window.{Beside}
use Rattle.label_calls.specs.Runs.{RelabelsRun, MadeSome}
use Rattle.filer_kernel.specs.declared.cached.CachedRuns.{CachedRuns}
use Rattle.session_words.specs.Volume.{volume_page}
use Rattle.file_manager.specs.Freeing.{AreNamedUp, MayFree, IsPartOf, NamesAll, Freed, FreedSome, FreedFirst, run_sectors}
use Rattle.file_manager.proofs.AllFreed.{one_alone}
use Rattle.file_manager.proofs.FreedRun.{map_makes}
use Rattle.file_manager.proofs.FreedSectors.{freeing_append, long_append, take_freeing, up_append}
use Rattle.file_manager.proofs.FreedUpTo.{IsFreedTo}

append_none : (xs : List DiskWrite) → xs ++ [] ≡ xs
append_none [] = refl
append_none (x ∷ xs) = ap (λ (l : List DiskWrite). x ∷ l) (append_none xs)

take_up : (named : Triples) (id page n : ℕ) (is : List ℕ) → AreNamedUp named id page is → AreNamedUp named id page (take n is)
take_up named id page zero is up = tt
take_up named id page (suc n) [] up = tt
take_up named id page (suc n) (i ∷ is) up = (up.0, take_up named id (page + 1) n is up.1)

take_few : (n : ℕ) (is : List ℕ) → length (take n is) ≤ length is
take_few zero is = omega arith
take_few (suc n) [] = omega arith
take_few (suc n) (i ∷ is) = let rest = take_few n is in omega (arith, rest)

row_up : (named : Triples) (id a b n : ℕ) → ((k : ℕ) → k < n → named id (a + k) (b + k) ≡ true) → AreNamedUp named id a (range_with_len b n)
row_up named id a b zero each = tt
row_up named id a b (suc n) each = (
  subst (λ (k : ℕ). named id k b ≡ true) (let z : a + 0 ≡ a = omega arith in z) (subst (λ (k : ℕ). named id (a + 0) k ≡ true) (let z : b + 0 ≡ b = omega arith in z) (each 0 (omega arith))),
  row_up named id (a + 1) (b + 1) n (λ k below.
      subst (λ (x : ℕ). named id x (b + 1 + k) ≡ true) (let z : a + suc k ≡ a + 1 + k = omega arith in z)
      (subst (λ (x : ℕ). named id (a + suc k) x ≡ true) (let z : b + suc k ≡ b + 1 + k = omega arith in z) (each (suc k) (omega (arith, below))))),
)

module _ {a b : DiskState} {s t : Slots} (named : Triples) (id page end : ℕ) (under : page ≤ end) (first : Makes volume_page [] a s b t) where
  -- none yet
  pub some_none : FreedSome named id page end a s b t
  some_none = record { sectors = []; few = omega (arith, under); up = tt; makes = first }

  module _ (n : ℕ) (run : Run) (part : IsPartOf n id page end run) (all : NamesAll named run) where
    run_up : AreNamedUp named id page (run_sectors run)
    run_up = row_up named id page run.sector run.pages (λ k below. (λ i. named (sym part.same_id i) (sym part.same_first i + k) (run.sector + k)) ∙ all k below)

    -- some of a run
    pub some_labels : {c : DiskState} {u : Slots} → u ≡ t → MadeSome (freeing (run_sectors run)) b t c → FreedSome named id page end a s c u
    some_labels {c = c} {u = u} same some = record {
      sectors = take some.count (run_sectors run);
      few = let fewer = take_few some.count (run_sectors run) in let long = length-range_with_len run.sector run.pages in let few = part.few in omega (arith, fewer, long, few);
      up = take_up named id page some.count (run_sectors run) run_up;
      makes = subst (λ (ws : List DiskWrite). Makes volume_page ws a s c u) (take_freeing some.count (run_sectors run))
          (makes_then first (subst (Makes volume_page (take some.count (freeing (run_sectors run))) b t c) (sym same) (makes_wider volume_page (λ id page none. absurd none) some.makes)));
    }

    -- all of it
    pub some_run : {c d : DiskState} {u v : Slots} {l2 l3 : Layout} → u ≡ t → RelabelsRun run.sector run.pages (freeing (run_sectors run)) b t c → Beside AllocationMap c u l2 d v l3 → FreedSome named id page end a s d v
    some_run {d = d} {v = v} same made last = record {
      sectors = run_sectors run;
      few = let long = length-range_with_len run.sector run.pages in let few = part.few in omega (arith, long, few);
      up = run_up;
      makes = subst (λ (ws : List DiskWrite). Makes volume_page ws a s d v) (append_none (freeing (run_sectors run)))
          (makes_then first (makes_then (subst (Makes volume_page (freeing (run_sectors run)) b t _) (sym same) (makes_wider volume_page (λ id page none. absurd none) made.makes)) (map_makes last)));
    }

-- after runs that were freed
pub some_then : {id from end page : ℕ} {d0 d e : DiskState} {s0 s t : Slots} {layout later : Layout} {kept runs : CachedRuns} → IsFreedTo id from end page d0 s0 layout kept d s later runs → page < end
    → (named : Triples) (spaces : List Space) (m : List Sector) → MayFree d0 s0 layout kept named spaces id from end m → FreedSome named id page (page + (end - page)) d s e t → FreedSome named id from end d0 s0 e t
some_then {id = id} {from = from} {page = page} {d0 = d0} {e = e} {s0 = s0} {t = t} h under named spaces m may k =
    let first = h.revealed named spaces m may in
    let long = first.long in
    let above = h.above in
    let few = k.few in
    let all = long_append first.sectors k.sectors in
    record {
      sectors = first.sectors ++ k.sectors;
      few = omega (arith, all, long, above, few, under);
      up = up_append named id from first.sectors k.sectors first.up (subst (λ (n : ℕ). AreNamedUp named id n k.sectors) (let z : page ≡ from + length first.sectors = omega (arith, long, above) in z) k.up);
      makes = subst (λ (ws : List DiskWrite). Makes volume_page ws d0 s0 e t) (freeing_append first.sectors k.sectors) (makes_then first.goes.makes k.makes);
    }

-- at the leader
pub leader_some : {a b : DiskState} {s t : Slots} (named : Triples) (id pages : ℕ) → FreedSome named id leader_page (leader_page + 1) a s b t → FreedFirst named id pages a s b t
leader_some {a = a} {b = b} {s = s} {t = t} named id pages h = either h.sectors h.few h.up h.makes
  where
    either : (is : List ℕ) → leader_page + length is ≤ leader_page + 1 → AreNamedUp named id leader_page is → Makes volume_page (freeing is) a s b t → FreedFirst named id pages a s b t
    either [] few up makes = inl makes
    either (i ∷ []) few up makes = inr (record { leader = i; leads = up.0; sectors = []; few = omega arith; up = tt; makes = makes })
    either (i ∷ j ∷ is) few up makes = absurd (omega (arith, few))

-- and after it
pub pages_some : {layout : Layout} {named : Triples} {spaces : List Space} {id pages first : ℕ} {a b c : DiskState} {s t u : Slots} {runs : CachedRuns} → first ≡ 1 → Freed layout named spaces id leader_page first (leader_page + 1) a s b t runs
    → FreedSome named id 0 pages b t c u → FreedFirst named id pages a s c u
pages_some {named = named} {id = id} {a = a} {b = b} {c = c} {s = s} {t = t} {u = u} one h k =
    let alone = one_alone h.sectors (h.long ∙ one) in
    let up = subst (λ (is : List ℕ). AreNamedUp named id leader_page is) alone.1 h.up in
    inr (record {
      leader = alone.0;
      leads = up.0;
      sectors = k.sectors;
      few = let few = k.few in omega (arith, few);
      up = k.up;
      makes = makes_then (subst (λ (is : List ℕ). Makes volume_page (freeing is) a s b t) alone.1 h.goes.makes) k.makes;
    })
