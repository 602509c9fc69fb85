-- The pages of a file up to one, freed in a loop over runs.
use Rattle.std.proofs.Common.{false, ◌≡◌, inl, inr, ℕ, zero, suc, ◌+◌, ◌-◌, ◌*◌, ◌<◌, ◌≤◌, List, [], refl, sym, ◌∙◌, ap, subst, arith}
use Rattle.std.proofs.lemmas.Bool.Decides.{leb_tells}
use Rattle.labelled_disk.specs.declared.evidence.Halt.{Halt}
use Rattle.labelled_disk.specs.declared.layout.Layout.{Layout}
use Rattle.labelled_disk.specs.Sectors.{Sector}
use Rattle.labelled_disk.specs.State.{DiskState}
use Rattle.frame_pool.specs.Frames.{Slots}
use Rattle.file_map.specs.FileMap.{Triples}
use Rattle.flat_machine.specs.declared.space.Space.{Space}
use Rattle.swapper_kernel.specs.GoesLaws.{makes_nothing}
use Rattle.label_calls.specs.Own.{RelabelsOwn}
use Rattle.label_calls.specs.OwnLaws.{WroteOwn, own_then, quiet_own}
use Rattle.label_calls.specs.Synced.{SyncsAround}
use Rattle.label_calls.specs.SyncedLaws.{WroteSynced, quiet_synced, synced_then, wrote_synced}
use Rattle.filer_kernel.specs.declared.cached.CachedRuns.{CachedRuns}
use Rattle.filer_kernel.specs.Cached.{runs_of}
use Rattle.session_words.specs.Volume.{volume_page}
use Rattle.file_manager.specs.Freeing.{MayFree, Freed, MakesFree}
use Rattle.file_manager.specs.Grounds.{IsUnframed, FreeHalts, KeepsMap}
use Rattle.file_manager.specs.Reasons.{AreReleased, KeepsTo, LeavesTables, InitialState}
use Rattle.file_manager.proofs.FreedReasons.{released_more}
use Rattle.file_manager.proofs.FreedRun.{freed_then, freed_none, makes_free_then}
use Rattle.file_manager.proofs.Keeping.{keeps_none, keeps_then, free_halts_before}
use Rattle.file_manager.proofs.OwnSteps.{freed_own}

pub record IsFreedTo (id from end page : ℕ) (d0 : DiskState) (s0 : Slots) (layout : Layout) (kept : CachedRuns) (d : DiskState) (s : Slots) (later : Layout) (runs : CachedRuns) : Type 0 where
  pub above : from ≤ page
  pub below : page ≤ end
  pub same_layout : later ≡ layout
  pub size : d.sectors ≡ later.sectors
  pub cost : d.transfers ≤ d0.transfers + (page - from) * (16 + 4 * layout.vam)
  pub makes : MakesFree (page - from) d0 s0 d s
  pub keeps : KeepsMap (IsUnframed s0 id) layout id d0 s0 (runs_of layout.sectors kept) d s (runs_of layout.sectors runs)
  pub revealed : (named : Triples) (spaces : List Space) (m : List Sector) → MayFree d0 s0 layout kept named spaces id from end m → Freed layout named spaces id from (page - from) end d0 s0 d s runs
  pub own : WroteOwn id d0 d
  pub synced : WroteSynced false d0 d
  pub keeps_to : (o : InitialState) (named : Triples) → KeepsTo o layout (runs_of layout.sectors kept) d0 s0 named → LeavesTables o id → KeepsTo o later (runs_of later.sectors runs) d s named
  pub evict : (o : InitialState) (named : Triples) → KeepsTo o layout (runs_of layout.sectors kept) d0 s0 named → LeavesTables o id → AreReleased o d named id (λ p. (from ≤ p) × (p < page))

-- what a run costs is at most so much a page
pub per_page : (p v : ℕ) → 1 ≤ p → 14 + 2 * p + 4 * v ≤ p * (16 + 4 * v)
per_page zero v some = absurd (omega (arith, some))
per_page (suc zero) v some = omega arith
per_page (suc (suc q)) v some = let rest = per_page (suc q) v (omega arith) in omega (arith, rest)

pub cost_then : (t0 t u a p v : ℕ) → 1 ≤ p → t ≤ t0 + a * (16 + 4 * v) → u ≤ t + (14 + 2 * p + 4 * v) → u ≤ t0 + (a + p) * (16 + 4 * v)
cost_then t0 t u a p v some before here = let one = per_page p v some in omega (arith, one, before, here)

pub to_cost : (t0 t u from page end v : ℕ) → from ≤ page → page < end → t ≤ t0 + (page - from) * (16 + 4 * v) → u ≤ t + (14 + 2 * (end - page) + 4 * v) → u ≤ t0 + (end - from) * (16 + 4 * v)
to_cost t0 t u from page end v above below before here =
    let all = cost_then t0 t u (page - from) (end - page) v (omega (arith, below)) before here in
    subst (λ (n : ℕ). u ≤ t0 + n * (16 + 4 * v)) (let z : page - from + (end - page) ≡ end - from = omega (arith, above, below) in z) all

-- no page yet
pub to_none : (id from end : ℕ) (d0 : DiskState) (s0 : Slots) (layout : Layout) (kept : CachedRuns) → from ≤ end → d0.sectors ≡ layout.sectors → IsFreedTo id from end from d0 s0 layout kept d0 s0 layout kept
to_none id from end d0 s0 layout kept order size =
    let z : 0 ≡ from - from = omega arith in
    record {
      above = omega arith;
      below = order;
      same_layout = refl;
      size = size;
      cost = omega arith;
      makes = subst (λ (n : ℕ). MakesFree n d0 s0 d0 s0) z (record { sectors = []; long = refl; makes = makes_nothing volume_page d0 s0 });
      keeps = keeps_none (IsUnframed s0 id) layout id d0 s0 (runs_of layout.sectors kept) (λ none. none);
      revealed = λ named spaces m may. subst (λ (n : ℕ). Freed layout named spaces id from n end d0 s0 d0 s0 kept) z (freed_none m may);
      own = quiet_own id (makes_nothing volume_page d0 s0);
      synced = quiet_synced false (makes_nothing volume_page d0 s0);
      keeps_to = λ o named h never_blames. h;
      evict = λ o named h never_blames p sector own is. let above = own.0 in let below = own.1 in absurd (omega (arith, above, below));
    }

-- and a run more
pub to_then : {id from end page pages : ℕ} {d0 d e : DiskState} {s0 s t : Slots} {layout later last : Layout} {kept runs more : CachedRuns} → IsFreedTo id from end page d0 s0 layout kept d s later runs
    → page < end → (1 ≤ pages) × (pages ≤ end - page) → last ≡ later → e.transfers ≤ d.transfers + (14 + 2 * pages + 4 * later.vam) → MakesFree pages d s e t
    → KeepsMap (IsUnframed s id) later id d s (runs_of later.sectors runs) e t (runs_of later.sectors more)
    → ((named : Triples) (spaces : List Space) (m : List Sector) → MayFree d s later runs named spaces id page (page + (end - page)) m → Freed later named spaces id page pages (page + (end - page)) d s e t more)
    → RelabelsOwn id d e → SyncsAround false d e → ((o : InitialState) (named : Triples) → KeepsTo o later (runs_of later.sectors runs) d s named → LeavesTables o id → KeepsTo o last (runs_of last.sectors more) e t named)
    → ((o : InitialState) (named : Triples) → KeepsTo o later (runs_of later.sectors runs) d s named → LeavesTables o id → AreReleased o e named id (λ p. (page ≤ p) × (p < page + pages)))
    → IsFreedTo id from end (page + pages) d0 s0 layout kept e t last more
to_then {id = id} {from = from} {end = end} {page = page} {pages = pages} {d0 = d0} {d = d} {e = e} {s0 = s0} {s = s} {t = t} {layout = layout} {later = later} {last = last} {kept = kept} {runs = runs} {more = more} h under some same cost makes keeps revealed own around keeps_to evict =
    let few = some.1 in
    let whole : page + (end - page) ≡ end = omega (arith, under) in
    let above = h.above in
    let z : page - from + pages ≡ page + pages - from = omega (arith, above) in
    let y : from + (page - from) ≡ page = omega (arith, above) in
    let v : later.vam ≡ layout.vam = ap (λ (l : Layout). l.vam) h.same_layout in
    record {
      above = omega (arith, above);
      below = omega (arith, under, few);
      same_layout = same ∙ h.same_layout;
      size = makes.makes.went.sectors ∙ h.size ∙ ap (λ (l : Layout). l.sectors) (sym same);
      cost = subst (λ (n : ℕ). e.transfers ≤ d0.transfers + n * (16 + 4 * layout.vam)) z (cost_then d0.transfers d.transfers e.transfers (page - from) pages layout.vam some.0 h.cost (subst (λ (n : ℕ). e.transfers ≤ d.transfers + (14 + 2 * pages + 4 * n)) v cost));
      makes = subst (λ (n : ℕ). MakesFree n d0 s0 e t) z (makes_free_then h.makes makes);
      keeps = keeps_then h.keeps (subst (λ (l : Layout). KeepsMap (IsUnframed s id) l id d s (runs_of l.sectors runs) e t (runs_of l.sectors more)) h.same_layout keeps);
      revealed = λ named spaces m may.
          let first = h.revealed named spaces m may in
          let rest : MayFree d s layout runs named spaces id page end first.memory = subst (λ (n : ℕ). MayFree d s layout runs named spaces id n end first.memory) y first.rest in
          let open_rest = subst (λ (n : ℕ). MayFree d s later runs named spaces id page n first.memory) (sym whole) (subst (λ (l : Layout). MayFree d s l runs named spaces id page end first.memory) (sym h.same_layout) rest) in
          let next = subst (λ (n : ℕ). Freed later named spaces id page pages n d s e t more) whole (revealed named spaces first.memory open_rest) in
          let next_there = subst (λ (l : Layout). Freed l named spaces id page pages end d s e t more) h.same_layout next in
          subst (λ (n : ℕ). Freed layout named spaces id from n end d0 s0 e t more) z
          (freed_then first (subst (λ (n : ℕ). Freed layout named spaces id n pages end d s e t more) (sym y) next_there));
      own = own_then h.own (freed_own makes own);
      synced = synced_then h.synced (wrote_synced makes.makes around);
      keeps_to = λ o named k never_blames. keeps_to o named (h.keeps_to o named k never_blames) never_blames;
      evict = λ o named k never_blames p sector own is.
          let now = h.keeps_to o named k never_blames in
          let first = own.0 in
          let last = own.1 in
          released_more o named makes.sectors id (λ q. (from ≤ q) × (q < page)) (λ q. (page ≤ q) × (q < page + pages)) makes.makes (h.evict o named k never_blames) (evict o named now never_blames) p sector
          (elim (leb_tells page p) [ inl (_, above_it) ↦ inr (above_it, last) | inr (_, not_above) ↦ inl (first, omega (arith, not_above)) ]) is;
    }

module _ {id from end page : ℕ} {d0 d : DiskState} {s0 s : Slots} {layout later : Layout} {kept runs : CachedRuns} (h : IsFreedTo id from end page d0 s0 layout kept d s later runs) where
  -- the rest may be freed
  pub to_rest : page < end → (named : Triples) (spaces : List Space) (m : List Sector) → MayFree d0 s0 layout kept named spaces id from end m → (n : List Sector) × MayFree d s later runs named spaces id page (page + (end - page)) n
  to_rest under named spaces m may =
      let first = h.revealed named spaces m may in
      let above = h.above in
      let y : from + (page - from) ≡ page = omega (arith, above) in
      let whole : page + (end - page) ≡ end = omega (arith, under) in
      let rest : MayFree d s layout runs named spaces id page end first.memory = subst (λ (n : ℕ). MayFree d s layout runs named spaces id n end first.memory) y first.rest in
      let there : MayFree d s later runs named spaces id page end first.memory = subst (λ (l : Layout). MayFree d s l runs named spaces id page end first.memory) (sym h.same_layout) rest in
      (first.memory, subst (λ (n : ℕ). MayFree d s later runs named spaces id page n first.memory) (sym whole) there)

  -- all are freed
  pub to_all : page ≡ end → (named : Triples) (spaces : List Space) (m : List Sector) → MayFree d0 s0 layout kept named spaces id from end m → Freed layout named spaces id from (end - from) end d0 s0 d s runs
  to_all all named spaces m may = subst (λ (n : ℕ). Freed layout named spaces id from (n - from) end d0 s0 d s runs) all (h.revealed named spaces m may)

  pub to_made : page ≡ end → MakesFree (end - from) d0 s0 d s
  to_made all = subst (λ (n : ℕ). MakesFree (n - from) d0 s0 d s) all h.makes

  pub to_spent : page ≡ end → d.transfers ≤ d0.transfers + (end - from) * (16 + 4 * layout.vam)
  to_spent all = subst (λ (n : ℕ). d.transfers ≤ d0.transfers + (n - from) * (16 + 4 * layout.vam)) all h.cost

  pub to_stopped_cost : (e : DiskState) → page < end → e.transfers ≤ d.transfers + (14 + 2 * (end - page) + 4 * later.vam) → e.transfers ≤ d0.transfers + (end - from) * (16 + 4 * layout.vam)
  to_stopped_cost e below here =
      let v : later.vam ≡ layout.vam = ap (λ (l : Layout). l.vam) h.same_layout in
      to_cost d0.transfers d.transfers e.transfers from page end layout.vam h.above below h.cost (subst (λ (n : ℕ). e.transfers ≤ d.transfers + (14 + 2 * (end - page) + 4 * n)) v here)

  -- a stop after them
  pub to_halts : d0.sectors ≡ layout.sectors → page < end → (e : DiskState) (halt : Halt) → FreeHalts (IsUnframed s id) later (runs_of later.sectors runs) id (λ p. p ≡ page) d s e halt
      → FreeHalts (IsUnframed s0 id) layout (runs_of layout.sectors kept) id (λ p. (from ≤ p) × (p < end)) d0 s0 e halt
  to_halts size under e halt why =
      let above = h.above in
      free_halts_before h.keeps (λ p. p ≡ page) (λ p. (from ≤ p) × (p < end)) (λ p same. (omega (arith, above, same), omega (arith, under, same))) size e halt
      (subst (λ (l : Layout). FreeHalts (IsUnframed s id) l (runs_of l.sectors runs) id (λ p. p ≡ page) d s e halt) h.same_layout why)
