-- The pages of a file down to one, freed in a loop over runs.
use Rattle.std.proofs.Common.{◌≡◌, inl, inr, ℕ, ◌+◌, ◌-◌, ◌*◌, ◌<◌, ◌≤◌, List, [], refl, sym, ◌∙◌, ap, subst, arith}
use Rattle.std.proofs.lemmas.Bool.Decides.{leb_tells}
use Rattle.labelled_disk.specs.declared.evidence.Halt.{Halt}
use Rattle.labelled_disk.specs.declared.layout.Layout.{Layout}
use Rattle.labelled_disk.specs.Sectors.{Sector}
use Rattle.labelled_disk.specs.State.{DiskState}
use Rattle.frame_pool.specs.Frames.{Slots}
use Rattle.file_map.specs.FileMap.{Triples}
use Rattle.flat_machine.specs.declared.space.Space.{Space}
use Rattle.swapper_kernel.specs.GoesLaws.{makes_nothing}
use Rattle.label_calls.specs.Own.{RelabelsOwn}
use Rattle.label_calls.specs.OwnLaws.{WroteOwn, own_then, quiet_own}
use Rattle.filer_kernel.specs.declared.cached.CachedRuns.{CachedRuns}
use Rattle.filer_kernel.specs.Cached.{runs_of}
use Rattle.session_words.specs.Volume.{volume_page}
use Rattle.file_manager.specs.Freeing.{MayFree, MakesFree}
use Rattle.file_manager.specs.Shrinking.{FreedDown, StoppedDown}
use Rattle.file_manager.specs.Grounds.{IsUnframed, FreeHalts, KeepsMap}
use Rattle.file_manager.specs.Reasons.{InitialState, AreReleased, KeepsTo, ShowsReason}
use Rattle.file_manager.proofs.FreedReasons.{released_more}
use Rattle.file_manager.proofs.FreedRun.{makes_free_then}
use Rattle.file_manager.proofs.Keeping.{keeps_none, keeps_then, free_halts_before}
use Rattle.file_manager.proofs.FreedUpTo.{cost_then}
use Rattle.file_manager.proofs.OwnSteps.{freed_own}
use Rattle.file_manager.proofs.DownRun.{freed_down_then, freed_down_none, broken_then}

pub record IsFreedDownTo (id from end page : ℕ) (d0 : DiskState) (s0 : Slots) (layout : Layout) (kept : CachedRuns) (d : DiskState) (s : Slots) (later : Layout) (runs : CachedRuns) : Type 0 where
  pub above : from ≤ page
  pub below : page ≤ end
  pub same_layout : later ≡ layout
  pub size : d.sectors ≡ later.sectors
  pub cost : d.transfers ≤ d0.transfers + (end - page) * (16 + 4 * layout.vam)
  pub makes : MakesFree (end - page) d0 s0 d s
  pub keeps : KeepsMap (IsUnframed s0 id) layout id d0 s0 (runs_of layout.sectors kept) d s (runs_of layout.sectors runs)
  pub revealed : (named : Triples) (spaces : List Space) (m : List Sector) → MayFree d0 s0 layout kept named spaces id from end m → FreedDown layout named spaces id from (end - page) end d0 s0 d s runs
  pub own : WroteOwn id d0 d
  pub keeps_to : (o : InitialState) (named : Triples) → KeepsTo o layout (runs_of layout.sectors kept) d0 s0 named → KeepsTo o later (runs_of later.sectors runs) d s named
  pub evict : (o : InitialState) (named : Triples) → KeepsTo o layout (runs_of layout.sectors kept) d0 s0 named → AreReleased o d named id (λ p. (page ≤ p) × (p < end))

down_cost : (t0 t u from page end v : ℕ) → page ≤ end → from < page → t ≤ t0 + (end - page) * (16 + 4 * v) → u ≤ t + (14 + 2 * (page - from) + 4 * v) → u ≤ t0 + (end - from) * (16 + 4 * v)
down_cost t0 t u from page end v above below before here =
    let all = cost_then t0 t u (end - page) (page - from) v (omega (arith, below)) before here in
    subst (λ (n : ℕ). u ≤ t0 + n * (16 + 4 * v)) (let z : end - page + (page - from) ≡ end - from = omega (arith, above, below) in z) all

-- no page yet
pub down_none : (id from end : ℕ) (d0 : DiskState) (s0 : Slots) (layout : Layout) (kept : CachedRuns) → from ≤ end → d0.sectors ≡ layout.sectors → IsFreedDownTo id from end end d0 s0 layout kept d0 s0 layout kept
down_none id from end d0 s0 layout kept order size =
    let z : 0 ≡ end - end = omega arith in
    record {
      above = order;
      below = omega arith;
      same_layout = refl;
      size = size;
      cost = omega arith;
      makes = subst (λ (n : ℕ). MakesFree n d0 s0 d0 s0) z (record { sectors = []; long = refl; makes = makes_nothing volume_page d0 s0 });
      keeps = keeps_none (IsUnframed s0 id) layout id d0 s0 (runs_of layout.sectors kept) (λ none. none);
      revealed = λ named spaces m may. subst (λ (n : ℕ). FreedDown layout named spaces id from n end d0 s0 d0 s0 kept) z (freed_down_none m may);
      own = quiet_own id (makes_nothing volume_page d0 s0);
      keeps_to = λ o named h. h;
      evict = λ o named h p sector own is. let above = own.0 in let below = own.1 in absurd (omega (arith, above, below));
    }

-- and a run more
pub down_then : {id from end page pages : ℕ} {d0 d e : DiskState} {s0 s t : Slots} {layout later last : Layout} {kept runs more : CachedRuns} → IsFreedDownTo id from end page d0 s0 layout kept d s later runs
    → from < page → (1 ≤ pages) × (pages ≤ page - from) → last ≡ later → e.transfers ≤ d.transfers + (14 + 2 * pages + 4 * later.vam) → MakesFree pages d s e t
    → KeepsMap (IsUnframed s id) later id d s (runs_of later.sectors runs) e t (runs_of later.sectors more)
    → ((named : Triples) (spaces : List Space) (m : List Sector) → MayFree d s later runs named spaces id from page m → FreedDown later named spaces id from pages page d s e t more)
    → RelabelsOwn id d e → ((o : InitialState) (named : Triples) → KeepsTo o later (runs_of later.sectors runs) d s named → KeepsTo o last (runs_of last.sectors more) e t named)
    → ((o : InitialState) (named : Triples) → KeepsTo o later (runs_of later.sectors runs) d s named → AreReleased o e named id (λ p. (page - pages ≤ p) × (p < page)))
    → IsFreedDownTo id from end (page - pages) d0 s0 layout kept e t last more
down_then {id = id} {from = from} {end = end} {page = page} {pages = pages} {d0 = d0} {d = d} {e = e} {s0 = s0} {s = s} {t = t} {layout = layout} {later = later} {last = last} {kept = kept} {runs = runs} {more = more} h under some same cost makes keeps revealed own keeps_to evict =
    let few = some.1 in
    let below = h.below in
    let z : end - page + pages ≡ end - (page - pages) = omega (arith, below, few) in
    let y : end - (end - page) ≡ page = omega (arith, below) in
    let v : later.vam ≡ layout.vam = ap (λ (l : Layout). l.vam) h.same_layout in
    record {
      above = omega (arith, under, few);
      below = omega (arith, below);
      same_layout = same ∙ h.same_layout;
      size = makes.makes.went.sectors ∙ h.size ∙ ap (λ (l : Layout). l.sectors) (sym same);
      cost = subst (λ (n : ℕ). e.transfers ≤ d0.transfers + n * (16 + 4 * layout.vam)) z (cost_then d0.transfers d.transfers e.transfers (end - page) pages layout.vam some.0 h.cost (subst (λ (n : ℕ). e.transfers ≤ d.transfers + (14 + 2 * pages + 4 * n)) v cost));
      makes = subst (λ (n : ℕ). MakesFree n d0 s0 e t) z (makes_free_then h.makes makes);
      keeps = keeps_then h.keeps (subst (λ (l : Layout). KeepsMap (IsUnframed s id) l id d s (runs_of l.sectors runs) e t (runs_of l.sectors more)) h.same_layout keeps);
      revealed = λ named spaces m may.
          let first = h.revealed named spaces m may in
          let rest : MayFree d s layout runs named spaces id from page first.memory = subst (λ (n : ℕ). MayFree d s layout runs named spaces id from n first.memory) y first.rest in
          let next = revealed named spaces first.memory (subst (λ (l : Layout). MayFree d s l runs named spaces id from page first.memory) (sym h.same_layout) rest) in
          let next_there = subst (λ (l : Layout). FreedDown l named spaces id from pages page d s e t more) h.same_layout next in
          subst (λ (n : ℕ). FreedDown layout named spaces id from n end d0 s0 e t more) z
          (freed_down_then first (subst (λ (n : ℕ). FreedDown layout named spaces id from pages n d s e t more) (sym y) next_there));
      own = own_then h.own (freed_own makes own);
      keeps_to = λ o named k. keeps_to o named (h.keeps_to o named k);
      evict = λ o named k p sector own is.
          let now = h.keeps_to o named k in
          let first = own.0 in
          let last = own.1 in
          released_more o named makes.sectors id (λ q. (page ≤ q) × (q < end)) (λ q. (page - pages ≤ q) × (q < page)) makes.makes (h.evict o named k) (evict o named now) p sector
          (elim (leb_tells page p) [ inl (_, above_it) ↦ inl (above_it, last) | inr (_, not_above) ↦ inr (first, omega (arith, not_above)) ]) is;
    }

module _ {id from end page : ℕ} {d0 d : DiskState} {s0 s : Slots} {layout later : Layout} {kept runs : CachedRuns} (h : IsFreedDownTo id from end page d0 s0 layout kept d s later runs) where
  -- the rest may be freed
  pub down_rest : (named : Triples) (spaces : List Space) (m : List Sector) → MayFree d0 s0 layout kept named spaces id from end m → (n : List Sector) × MayFree d s later runs named spaces id from page n
  down_rest named spaces m may =
      let first = h.revealed named spaces m may in
      let below = h.below in
      let y : end - (end - page) ≡ page = omega (arith, below) in
      let rest : MayFree d s layout runs named spaces id from page first.memory = subst (λ (n : ℕ). MayFree d s layout runs named spaces id from n first.memory) y first.rest in
      (first.memory, subst (λ (l : Layout). MayFree d s l runs named spaces id from page first.memory) (sym h.same_layout) rest)

  -- all are freed
  pub down_freed : page ≡ from → (named : Triples) (spaces : List Space) (m : List Sector) → MayFree d0 s0 layout kept named spaces id from end m → FreedDown layout named spaces id from (end - from) end d0 s0 d s runs
  down_freed all named spaces m may = subst (λ (n : ℕ). FreedDown layout named spaces id from (end - n) end d0 s0 d s runs) all (h.revealed named spaces m may)

  pub down_made : page ≡ from → MakesFree (end - from) d0 s0 d s
  down_made all = subst (λ (n : ℕ). MakesFree (end - n) d0 s0 d s) all h.makes

  pub down_spent : page ≡ from → d.transfers ≤ d0.transfers + (end - from) * (16 + 4 * layout.vam)
  down_spent all = subst (λ (n : ℕ). d.transfers ≤ d0.transfers + (end - n) * (16 + 4 * layout.vam)) all h.cost

  pub down_stopped_cost : (e : DiskState) → from < page → e.transfers ≤ d.transfers + (14 + 2 * (page - from) + 4 * later.vam) → e.transfers ≤ d0.transfers + (end - from) * (16 + 4 * layout.vam)
  down_stopped_cost e below here =
      let v : later.vam ≡ layout.vam = ap (λ (l : Layout). l.vam) h.same_layout in
      down_cost d0.transfers d.transfers e.transfers from page end layout.vam h.below below h.cost (subst (λ (n : ℕ). e.transfers ≤ d.transfers + (14 + 2 * (page - from) + 4 * n)) v here)

  -- a stop after them
  pub down_broken_off : {e : DiskState} {t : Slots} → ((named : Triples) (spaces : List Space) (m : List Sector) → MayFree d s later runs named spaces id from page m → StoppedDown named id (page - from) page d s e t)
      → (named : Triples) (spaces : List Space) (m : List Sector) → MayFree d0 s0 layout kept named spaces id from end m → StoppedDown named id (end - from) end d0 s0 e t
  down_broken_off {e = e} {t = t} stopped named spaces m may =
      let first = h.revealed named spaces m may in
      let rest = down_rest named spaces m may in
      let above = h.above in
      let below = h.below in
      let y : page ≡ end - (end - page) = omega (arith, below) in
      let z : end - page + (page - from) ≡ end - from = omega (arith, above, below) in
      subst (λ (n : ℕ). StoppedDown named id n end d0 s0 e t) z
      (broken_then first (subst (λ (n : ℕ). StoppedDown named id (page - from) n d s e t) y (stopped named spaces rest.0 rest.1)))

  -- why it stopped
  pub down_halts : d0.sectors ≡ layout.sectors → from < page → (e : DiskState) (halt : Halt) → FreeHalts (IsUnframed s id) later (runs_of later.sectors runs) id (λ p. p ≡ page - 1) d s e halt
      → FreeHalts (IsUnframed s0 id) layout (runs_of layout.sectors kept) id (λ p. (from ≤ p) × (p < end)) d0 s0 e halt
  down_halts size under e halt why =
      let below = h.below in
      free_halts_before h.keeps (λ p. p ≡ page - 1) (λ p. (from ≤ p) × (p < end)) (λ p same. (omega (arith, under, same), omega (arith, under, below, same))) size e halt
      (subst (λ (l : Layout). FreeHalts (IsUnframed s id) l (runs_of l.sectors runs) id (λ p. p ≡ page - 1) d s e halt) h.same_layout why)

  -- and its reason
  pub down_reason : (e : DiskState) (halt : Halt) → ((o : InitialState) (named : Triples) → KeepsTo o later (runs_of later.sectors runs) d s named → ShowsReason o later e halt)
      → (o : InitialState) (named : Triples) → KeepsTo o layout (runs_of layout.sectors kept) d0 s0 named → ShowsReason o layout e halt
  down_reason e halt why o named k = subst (λ (l : Layout). ShowsReason o l e halt) h.same_layout (why o named (h.keeps_to o named k))
