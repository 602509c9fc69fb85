-- The pages of a file up to one, in a loop over runs.
use Rattle.std.proofs.Common.{◌≡◌, ◌⊎◌, inl, inr, ℕ, zero, suc, ◌+◌, ◌-◌, ◌*◌, ◌<◌, ◌≤◌, Bool, List, [], ◌∷◌, ◌++◌, true, length, take, refl, sym, ◌∙◌, ap, subst, arith}
use Rattle.std.proofs.lemmas.Bool.{cases_eq, cases_lt}
use Rattle.std.proofs.lemmas.List.{length-append}
use Rattle.labelled_disk.specs.declared.disk.DiskWrite.{DiskWrite}
use Rattle.labelled_disk.specs.declared.evidence.Halt.{Halt}
use Rattle.labelled_disk.specs.declared.evidence.Halt.TheVariants as halt
use Rattle.labelled_disk.specs.declared.layout.Layout.{Layout}
use Rattle.labelled_disk.specs.Label.{leader_page}
use Rattle.labelled_disk.specs.Layout.{first_data}
use Rattle.labelled_disk.specs.Runs.{growth}
use Rattle.labelled_disk.specs.Sectors.{Sector}
use Rattle.labelled_disk.specs.State.{DiskState}
use Rattle.frame_pool.specs.Frames.{Slots}
use Rattle.file_map.specs.declared.run.Run.{Run}
use Rattle.flat_machine.specs.declared.space.Space.{Space}
use Rattle.swapper_kernel.specs.Homes.{IsLayout, Brings}
use Rattle.swapper_kernel.specs.declared.manager.Manager.TheVariants.{FileMap}
use Rattle.swapper_kernel.specs.Goes.{Makes}
use Rattle.swapper_kernel.specs.GoesLaws.{makes_nothing, makes_then}
use Rattle.swapper_kernel.specs.HaltLaws.{brings_itself, brings_then}
use Rattle.filer_kernel.specs.declared.cached.CachedRuns.{CachedRuns}
use Rattle.filer_kernel.specs.Cached.{runs_of}
use Rattle.filer_kernel.specs.Marks.{Marks, BitsAre}
use Rattle.filer_kernel.specs.PlaceLaws.{data_first}
use Rattle.session_words.specs.Parts.{Shape, Shapes}
use Rattle.session_words.specs.GrowLaws.{Grows}
use Rattle.session_words.specs.Volume.{volume_page}
use Rattle.file_manager.specs.Book.{BooksUpto, Leads, AreTrue}
use Rattle.file_manager.specs.Costs.{label_cost}
use Rattle.label_calls.specs.ClearedLaws.{both_after_sync, quiet_after}
use Rattle.label_calls.specs.Synced.{LabelsAfterSync}
use Rattle.file_manager.specs.Making.{AreUnownedUpto, ShowsNoFree, MayGrowUpto, GrownBy, MakesAll, MakesSome, IsRunFor, free_count, sectors_of}
use Rattle.file_manager.specs.Grounds.{IsMapsHome, IsUnframed, LabelsRun, EndsAt, MakesFor, MakeHalts, RangeHalts}
use Rattle.file_manager.proofs.GrowSteps.{growth_append, grows_none}
use Rattle.file_manager.proofs.KeptUpTo.{RunKeeps, KeepsUpTo, keeps_more}
use Rattle.file_manager.proofs.RunLeads.{one_memory}
use Rattle.file_manager.proofs.UpLemmas.{after, books_then, unowned_then, some_then, run_then, longer}
use Rattle.swapper_kernel.specs.Stands.{Stands, labels_of}
use Rattle.swapper_kernel.specs.Window.{Reveals}
use Rattle.file_manager.proofs.MadeRun.{made_none, made_then, unframed_still}
use Rattle.file_manager.proofs.MakeStops.{leaves_apart, make_halts_before}
use Rattle.file_manager.proofs.TakingLemmas.{labels_then, taken_then}

pub record IsUpTo (clears : Bool) (id kind from end page : ℕ) (d0 : DiskState) (s0 : Slots) (layout : Layout) (kept : CachedRuns) (d : DiskState) (s : Slots) (later : Layout) (runs : CachedRuns) : Type 0 where
  pub above : from ≤ page
  pub below : page ≤ end
  pub same_layout : later ≡ layout
  pub same_runs : runs ≡ kept
  pub size : d.sectors ≡ later.sectors
  pub cost : d.transfers ≤ d0.transfers + (page - from) * (8 * layout.vam + (98 + label_cost clears))
  pub cleared : clears ≡ true → LabelsAfterSync d0 d
  pub makes : MakesAll id kind from (page - from) d0 s0 d s
  pub come : Brings (IsMapsHome layout) s0 s
  pub takes : MakesFor layout id (λ p. (from ≤ p) × (p < page)) d0 s0 d s
  pub untouched : page ≡ from → (bytes : List ℕ) → Reveals FileMap d0 s0 layout bytes → Reveals FileMap d s layout bytes
  pub last : from < page → page < end → LabelsRun layout id d0 s0 d s
  pub revealed : (tables : ℕ) (x : List Sector) (shapes : Shapes) (spaces : List Space) (f : Shape) → MayGrowUpto tables d0 s0 layout kept shapes spaces id f end x → f.size ≡ from → GrownBy id kind from (page - from) d0 s0 layout d s kept
  pub keeps : KeepsUpTo id from end page d0 s0 layout kept d s later runs

-- what a run costs is at most so much a page
per_page : (p v n : ℕ) → 1 ≤ p → 8 * v + n * p + 98 ≤ p * (8 * v + (98 + n))
per_page zero v n some = absurd (omega (arith, some))
per_page (suc zero) v n some = omega arith
per_page (suc (suc q)) v n some = let rest = per_page (suc q) v n (omega arith) in omega (arith, rest)

cost_then : (t0 t u a p v n : ℕ) → 1 ≤ p → t ≤ t0 + a * (8 * v + (98 + n)) → u ≤ t + (8 * v + n * p + 98) → u ≤ t0 + (a + p) * (8 * v + (98 + n))
cost_then t0 t u a p v n some before here = let one = per_page p v n some in omega (arith, one, before, here)

pub take_past : (xs ys : List DiskWrite) (j : ℕ) → take (length xs + j) (xs ++ ys) ≡ xs ++ take j ys
take_past [] ys j = ap (λ (k : ℕ). take k ys) (let z : 0 + j ≡ j = omega arith in z)
take_past (x ∷ xs) ys j = ap (λ (k : ℕ). take k (x ∷ (xs ++ ys))) (let z : suc (length xs) + j ≡ suc (length xs + j) = omega arith in z) ∙ ap (λ (l : List DiskWrite). x ∷ l) (take_past xs ys j)

-- no page yet
pub up_none : {clears : Bool} (id kind from end : ℕ) (d0 : DiskState) (s0 : Slots) (layout : Layout) (kept : CachedRuns) → from ≤ end → d0.sectors ≡ layout.sectors → IsUpTo clears id kind from end from d0 s0 layout kept d0 s0 layout kept
up_none id kind from end d0 s0 layout kept order size = record {
  above = omega arith;
  below = order;
  same_layout = refl;
  same_runs = refl;
  size = size;
  cost = omega arith;
  cleared = λ clear. quiet_after (makes_nothing volume_page d0 s0);
  makes = record { sectors = []; long = omega arith; makes = makes_nothing volume_page d0 s0 };
  come = brings_itself (IsMapsHome layout) s0;
  takes = made_none layout id (λ p. (from ≤ p) × (p < from)) d0 s0;
  untouched = λ same bytes reveals. reveals;
  last = λ past below. absurd (omega (arith, past));
  keeps = λ o named h may untold none. (named, h, none, (λ i p sector is. is), (λ p above below. absurd (omega (arith, above, below))));
  revealed = λ tables x shapes spaces f may is. record {
    sectors = [];
    long = omega arith;
    leads = record {
      goes = record { makes = makes_nothing volume_page d0 s0; memory = λ m stands. (m, stands, subst (λ (z : List Sector). Grows id kind from [] z z) (one_memory d0 s0 x m may.books.stands stands) (grows_none id kind from x may.books.booked.sectors)) };
      brings = brings_itself (λ home. (1 ≤ home.id) × (home.id ≤ 3)) s0;
      true_runs = λ m stands. subst (λ (z : List Sector). AreTrue (labels_of z) (runs_of layout.sectors kept)) (one_memory d0 s0 x m may.books.stands stands) may.books.booked.kept;
    };
  };
}

module _ {clears : Bool} (id kind from end page : ℕ) (d0 : DiskState) (s0 : Slots) (layout : Layout) (is_layout : IsLayout layout) (kept : CachedRuns) (d : DiskState) (s : Slots) (later : Layout) (runs : CachedRuns)
    (up : IsUpTo clears id kind from end page d0 s0 layout kept d s later runs) (short : end < leader_page) where
  reached : (f : Shape) (is : List ℕ) → f.size ≡ from → length is ≡ page - from → f.size + length is ≡ page
  reached f is size long = let above = up.above in omega (arith, size, long, above)

  -- a run more
  pub up_more : (run : Run) (d2 : DiskState) (s2 : Slots) (l2 : Layout) (r2 : CachedRuns) → page < end → IsRunFor later.sectors id page (end - page) run → Makes volume_page (growth id kind page (sectors_of run)) d s d2 s2
      → ((tables : ℕ) (x : List Sector) (shapes : Shapes) (spaces : List Space) → BooksUpto tables d s later runs shapes spaces x → ShowsNoFree spaces → AreUnownedUpto tables shapes id page (end - page) → 1 ≤ free_count later x
      → Leads (Grows id kind page (sectors_of run)) (growth id kind page (sectors_of run)) d s later d2 s2 r2)
      → l2 ≡ later → r2 ≡ runs → d2.transfers ≤ d.transfers + (8 * later.vam + label_cost clears * run.pages + 98) → Brings (IsMapsHome later) s s2 → MakesFor later id (λ p. (page ≤ p) × (p < page + run.pages)) d s d2 s2
      → (run.pages < end - page → (m : List Sector) (marks : Marks) → Stands d s m → BitsAre later marks m → run.sector + run.pages < later.sectors → marks (run.sector + run.pages) ≡ true)
      → RunKeeps id page (end - page) run d s later runs d2 s2 l2 r2 → (clears ≡ true → LabelsAfterSync d d2) → IsUpTo clears id kind from end (page + run.pages) d0 s0 layout kept d2 s2 l2 r2
  up_more run d2 s2 l2 r2 below for_it makes made same_layout same_runs cost come takes longest keeps cleared =
      let few = for_it.few in
      let above = up.above in
      let all = up.makes in
      let so_far = from_page all.sectors all.long in
      record {
        above = omega (arith, above);
        below = omega (arith, few, below);
        same_layout = same_layout ∙ up.same_layout;
        same_runs = same_runs ∙ up.same_runs;
        cost = let sum : page - from + run.pages ≡ page + run.pages - from = omega (arith, above) in
            subst (λ (n : ℕ). d2.transfers ≤ d0.transfers + n * (8 * layout.vam + (98 + label_cost clears))) sum
            (cost_then d0.transfers d.transfers d2.transfers (page - from) run.pages layout.vam (label_cost clears) for_it.form.some up.cost
            (subst (λ (l : Layout). d2.transfers ≤ d.transfers + (8 * l.vam + label_cost clears * run.pages + 98)) up.same_layout cost));
        cleared = λ clear. both_after_sync all.makes (up.cleared clear) makes (cleared clear);
        size = makes.went.sectors ∙ up.size ∙ ap (λ (l : Layout). l.sectors) (sym same_layout);
        makes = record {
          sectors = all.sectors ++ sectors_of run;
          long = let n = longer all.sectors run from page so_far in omega (arith, n, above);
          makes = subst (λ (ws : List DiskWrite). Makes volume_page ws d0 s0 d2 s2) (sym (growth_append id kind from all.sectors (sectors_of run)))
              (makes_then all.makes (subst (λ (n : ℕ). Makes volume_page (growth id kind n (sectors_of run)) d s d2 s2) (sym so_far) makes));
        };
        come = brings_then up.come (subst (λ (l : Layout). Brings (IsMapsHome l) s s2) up.same_layout come);
        takes = made_then (λ p. (from ≤ p) × (p < page)) (λ p. (page ≤ p) × (p < page + run.pages)) (λ p. (from ≤ p) × (p < page + run.pages))
            (λ p own. (own.0, let below = own.1 in omega (arith, below))) (λ p own. (let after = own.0 in omega (arith, above, after), own.1)) (λ p own other. let after = own.0 in let before = other.1 in omega (arith, after, before))
            up.takes (subst (λ (l : Layout). MakesFor l id (λ p. (page ≤ p) × (p < page + run.pages)) d s d2 s2) up.same_layout takes);
        keeps = keeps_more kept runs r2 run for_it.same_id for_it.same_first below up.keeps keeps;
        untouched = λ same. let some = for_it.form.some in absurd (omega (arith, same, above, some));
        last = λ past short. record {
          prefix = growth id kind from all.sectors;
          kind = kind;
          run = run;
          some = for_it.form.some;
          from = from_first;
          makes = makes_then all.makes (subst (λ (n : ℕ). Makes volume_page (growth id kind n (sectors_of run)) d s d2 s2) (sym for_it.same_first) makes);
          ended = inr (run_ends (omega (arith, short, few)) (subst (λ (l : Layout). MakesFor l id (λ p. (page ≤ p) × (p < page + run.pages)) d s d2 s2) up.same_layout takes) (rw up.same_layout at longest));
        };
        revealed = λ tables x shapes spaces f may size.
            let g = up.revealed tables x shapes spaces f may size in
            let at = reached f g.sectors size g.long in
            let leads = subst (λ (n : ℕ). Leads (Grows id kind n g.sectors) (growth id kind n g.sectors) d0 s0 layout d s kept) (sym size) g.leads in
            let y = after layout is_layout kept shapes spaces x d0 s0 id kind f end may short g.sectors page at up.below d s leads in
            let books = books_then layout is_layout kept shapes spaces x d0 s0 id kind f end may short g.sectors page at up.below d s leads in
            let unowned = unowned_then layout is_layout kept shapes spaces x d0 s0 id kind f end may short g.sectors page at up.below d s leads in
            let some = some_then layout is_layout kept shapes spaces x d0 s0 id kind f end may short g.sectors page at up.below d s leads below in
            let here = (rw (up.same_layout, up.same_runs) at made) tables y.0 _ spaces books may.hidden unowned some in
            let next = subst (λ (r : CachedRuns). Leads (Grows id kind page (sectors_of run)) (growth id kind page (sectors_of run)) d s layout d2 s2 r) (same_runs ∙ up.same_runs) here in
            record {
              sectors = g.sectors ++ sectors_of run;
              long = let n = longer g.sectors run f.size page at in omega (arith, n, size, above);
              leads = subst (λ (n : ℕ). Leads (Grows id kind n (g.sectors ++ sectors_of run)) (growth id kind n (g.sectors ++ sectors_of run)) d0 s0 layout d2 s2 kept) size
                  (run_then layout is_layout kept shapes spaces x d0 s0 id kind f end may short g.sectors page at up.below d s leads run d2 s2 next);
            };
      }
    where
      from_first : layout.first ≤ run.sector
      from_first = let is = data_first layout is_layout in let sectors = subst (λ (l : Layout). first_data l.sectors ≤ run.sector) up.same_layout for_it.form.from_data in omega (arith, is, sectors)

      run_ends : run.pages < end - page → MakesFor layout id (λ p. (page ≤ p) × (p < page + run.pages)) d s d2 s2
          → (run.pages < end - page → (m : List Sector) (marks : Marks) → Stands d s m → BitsAre layout marks m → run.sector + run.pages < layout.sectors → marks (run.sector + run.pages) ≡ true)
          → IsUnframed s0 0 → (m : List Sector) (marks : Marks) → Stands d0 s0 m → BitsAre layout marks m → EndsAt layout id m marks d2 s2 (run.sector + run.pages)
      run_ends short takes longest none m marks stands bits =
          let now = up.takes.memory none m stands in
          let later = now.2.taken.bits marks bits in
          let two = takes.memory (unframed_still up.takes.brings none) now.0 now.1 in
          let at : layout.first ≤ run.sector + run.pages = let from = from_first in omega (arith, from) in
          record {
            memory = two.0;
            stands = two.1;
            labels = labels_then now.2.taken.labels two.2.taken.labels;
            ends = elim (cases_lt (run.sector + run.pages) layout.sectors) [
              | inr past ↦ inl past
              | inl below ↦ elim (later.2 (run.sector + run.pages) at) [
                | inl same ↦ inr (inl (sym same ∙ longest short now.0 later.0 now.1 later.1 below))
                | inr (_, taken) ↦ inr (inr (taken_then (run.sector + run.pages) at taken two.2.taken.labels))
              ]
            ];
          }

      from_page : (is : List ℕ) → length is ≡ page - from → from + length is ≡ page
      from_page is long = let above = up.above in omega (arith, long, above)

  -- a halt of the next run
  pub up_sound : (e : Halt) → page < end → ((tables : ℕ) (x : List Sector) (shapes : Shapes) (spaces : List Space) → BooksUpto tables d s later runs shapes spaces x → ShowsNoFree spaces → AreUnownedUpto tables shapes id page (end - page) → 1 ≤ free_count later x → e ≡ halt.Disk)
      → (tables : ℕ) (x : List Sector) (shapes : Shapes) (spaces : List Space) (f : Shape) → MayGrowUpto tables d0 s0 layout kept shapes spaces id f end x → f.size ≡ from → e ≡ halt.Disk
  up_sound e below sound tables x shapes spaces f may size =
      let g = up.revealed tables x shapes spaces f may size in
      let at = reached f g.sectors size g.long in
      let leads = subst (λ (n : ℕ). Leads (Grows id kind n g.sectors) (growth id kind n g.sectors) d0 s0 layout d s kept) (sym size) g.leads in
      let y = after layout is_layout kept shapes spaces x d0 s0 id kind f end may short g.sectors page at up.below d s leads in
      let books = books_then layout is_layout kept shapes spaces x d0 s0 id kind f end may short g.sectors page at up.below d s leads in
      let unowned = unowned_then layout is_layout kept shapes spaces x d0 s0 id kind f end may short g.sectors page at up.below d s leads in
      let some = some_then layout is_layout kept shapes spaces x d0 s0 id kind f end may short g.sectors page at up.below d s leads below in
      (rw (up.same_layout, up.same_runs) at sound) tables y.0 _ spaces books may.hidden unowned some

  -- what it cost
  pub up_cost : (d2 : DiskState) → page < end → d2.transfers ≤ d.transfers + (8 * later.vam + label_cost clears * (end - page) + 98) → d2.transfers ≤ d0.transfers + (end - from) * (8 * layout.vam + (98 + label_cost clears))
  up_cost d2 below cost =
      let above = up.above in
      let sum : page - from + (end - page) ≡ end - from = omega (arith, above, below) in
      subst (λ (n : ℕ). d2.transfers ≤ d0.transfers + n * (8 * layout.vam + (98 + label_cost clears))) sum
      (cost_then d0.transfers d.transfers d2.transfers (page - from) (end - page) layout.vam (label_cost clears) (omega (arith, below)) up.cost
      (subst (λ (l : Layout). d2.transfers ≤ d.transfers + (8 * l.vam + label_cost clears * (end - page) + 98)) up.same_layout cost))

  pub up_stopped : (d2 : DiskState) (s2 : Slots) → page ≤ end → MakesSome id kind page (end - page) d s d2 s2 → MakesSome id kind from (end - from) d0 s0 d2 s2
  up_stopped d2 s2 below some =
      let all = up.makes in
      let above = up.above in
      let long = all.long in
      let so_far : from + length all.sectors ≡ page = omega (arith, long, above) in
      record {
        sectors = all.sectors ++ some.sectors;
        few = let a = length-append all.sectors some.sectors in let few = some.few in omega (arith, a, few, long, above, below);
        count = length (growth id kind from all.sectors) + some.count;
        makes = subst (λ (ws : List DiskWrite). Makes volume_page ws d0 s0 d2 s2)
            (sym (ap (take (length (growth id kind from all.sectors) + some.count)) (growth_append id kind from all.sectors some.sectors) ∙ take_past (growth id kind from all.sectors) (growth id kind (from + length all.sectors) some.sectors) some.count))
            (makes_then all.makes (subst (λ (n : ℕ). Makes volume_page (take some.count (growth id kind n some.sectors)) d s d2 s2) (sym so_far) some.makes));
      }

  -- why it stopped
  pub up_cause : (r : ℕ → Type 0) → ((p : ℕ) → (from ≤ p) × (p < end) → r p) → (d2 : DiskState) (s2 : Slots) (e : Halt) → page < end → RangeHalts layout id page (page + (end - page)) d s d2 s2 e → MakeHalts layout id r r d0 s0 d2 s2 e
  up_cause r within d2 s2 e below why =
      let above = up.above in
      make_halts_before (λ p. (from ≤ p) × (p < page)) (λ p. (page ≤ p) × (p < page + (end - page))) r up.makes.makes up.takes
      (leaves_apart layout id (λ p. (from ≤ p) × (p < page)) (λ p. (page ≤ p) × (p < page + (end - page))) r d0 s0
      (λ p own. within p (own.0, let before = own.1 in omega (arith, before, below)))
      (λ p own. within p (let after = own.0 in omega (arith, after, above), let before = own.1 in omega (arith, before, below)))
      (λ p own other. let after = own.0 in let before = other.1 in omega (arith, after, before)))
      (λ p. (page ≤ p) × (p < page + (end - page))) r
      (λ p own. within p (let after = own.0 in omega (arith, after, above), let before = own.1 in omega (arith, before, below)))
      (λ p own other. let after = own.0 in let before = other.1 in omega (arith, after, before))
      begun d2 s2 e why
    where
      begun : (IsUnframed s0 0 → (bytes : List ℕ) → Reveals FileMap d0 s0 layout bytes → Reveals FileMap d s layout bytes) ⊎ LabelsRun layout id d0 s0 d s
      begun = elim (cases_eq page from) [
        | inl same ↦ inl (λ none. up.untouched same)
        | inr other ↦ let above = up.above in inr (up.last (omega (arith, other, above)) below)
      ]

-- all pages are made
pub up_all : {clears : Bool} (id kind from end page : ℕ) (d0 : DiskState) (s0 : Slots) (layout : Layout) (kept : CachedRuns) (d : DiskState) (s : Slots) (later : Layout) (runs : CachedRuns) → page ≡ end
    → IsUpTo clears id kind from end page d0 s0 layout kept d s later runs
    → (tables : ℕ) (x : List Sector) (shapes : Shapes) (spaces : List Space) (f : Shape) → MayGrowUpto tables d0 s0 layout kept shapes spaces id f end x → f.size ≡ from → GrownBy id kind from (end - from) d0 s0 layout d s runs
up_all id kind from end page d0 s0 layout kept d s later runs all up tables x shapes spaces f may size =
    subst (λ (r : CachedRuns). GrownBy id kind from (end - from) d0 s0 layout d s r) (sym up.same_runs)
    (subst (λ (n : ℕ). GrownBy id kind from (n - from) d0 s0 layout d s kept) all (up.revealed tables x shapes spaces f may size))
