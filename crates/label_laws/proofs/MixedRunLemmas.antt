-- The orders of a file, with writes of page bytes anywhere among them.
use Rattle.std.proofs.Common.{◌≡◌, ℕ, zero, suc, ◌+◌, ◌≤◌, Bool, false, replicate, List, [], ◌∷◌, length, Option, Some, None, refl, sym, subst, arith}
use Rattle.labelled_disk.specs.declared.disk.DiskWrite.{DiskWrite}
use Rattle.labelled_disk.specs.declared.disk.DiskWrite.TheVariants as write
use Rattle.labelled_disk.specs.Sectors.{Sector}
use Rattle.labelled_disk.specs.CrashState.{crash_state}
use Rattle.labelled_disk.specs.File.{File, size, zero_page}
use Rattle.labelled_disk.specs.FilesOn.{disk_file}
use Rattle.labelled_disk.specs.WriteLaws.{Changed}
use Rattle.labelled_disk.specs.Runs.{growth, creation, freeing}
use Rattle.labelled_disk.proofs.RunLemmas as runs
use Rattle.label_laws.specs.Mixed.{label_writes}
use Rattle.label_laws.specs.MixedVolumes.{ShapeChanged, label_count}
use Rattle.label_laws.specs.MixedRuns.{LabelCountRises, MixedRunLaws}
use Rattle.label_laws.proofs.VolumeLemmas.{changes, fewer_labels}

pub label_count_rises : LabelCountRises
label_count_rises writes zero k low = omega arith
label_count_rises writes (suc j) zero low = absurd (omega (arith, low))
label_count_rises [] (suc j) (suc k) low = omega arith
label_count_rises (write.Whole sector label page ∷ writes) (suc j) (suc k) low = omega (arith, label_count_rises writes j k (omega (arith, low)))
label_count_rises (write.LabelOnly sector label ∷ writes) (suc j) (suc k) low = omega (arith, label_count_rises writes j k (omega (arith, low)))
label_count_rises (write.Page sector wanted page ∷ writes) (suc j) (suc k) low = label_count_rises writes j k (omega (arith, low))

growth_long : (id kind page : ℕ) (is : List ℕ) → length (growth id kind page is) ≡ length is
growth_long id kind page [] = refl
growth_long id kind page (i ∷ is) = let more = growth_long id kind (page + 1) is in omega (arith, more)

freeing_long : (is : List ℕ) → length (freeing is) ≡ length is
freeing_long [] = refl
freeing_long (i ∷ is) = let more = freeing_long is in omega (arith, more)

-- the label writes so far are some of these
within : (writes order : List DiskWrite) (k : ℕ) → label_writes writes ≡ order → label_count writes k ≤ length order
within writes order k is = subst (λ (l : List DiskWrite). label_count writes k ≤ length l) is (fewer_labels writes k)

module _ (with_temporary : Bool) (serial counter : ℕ) where
  -- what an order makes of a file, and the writes have as label writes, they make of its shape
  lifted : (d : List Sector) (writes order : List DiskWrite) (k id : ℕ) (now : Option File) → label_writes writes ≡ order → Changed with_temporary serial counter d (crash_state d order (label_count writes k)) id now
      → ShapeChanged with_temporary serial counter d (crash_state d writes k) id now
  lifted d writes order k id now is change =
      changes with_temporary serial counter d writes k id now (subst (λ (l : List DiskWrite). Changed with_temporary serial counter d (crash_state d l (label_count writes k)) id now) (sym is) change)

  pub mixed_runs : MixedRunLaws with_temporary serial counter
  mixed_runs = record {
    before = λ d writes k id right none.
        changes with_temporary serial counter d writes k id (disk_file with_temporary d id)
        (subst (λ (n : ℕ). Changed with_temporary serial counter d (crash_state d (label_writes writes) n) id (disk_file with_temporary d id)) (sym none)
        (record { file = refl; others = λ other apart. refl; right = right }));
    growth = λ d writes k id kind f is order right file unused room.
        let low = within writes (growth id kind (size f) is) k order in
        lifted d writes (growth id kind (size f) is) k id _ order
        (runs.growth_crash_states with_temporary serial counter d id kind f is right file unused room (label_count writes k) (omega (arith, low, growth_long id kind (size f) is)));
    shrinking = λ d writes k id f is order right file pages.
        let low = within writes (freeing is) k order in
        lifted d writes (freeing is) k id _ order
        (runs.shrinking_crash_states with_temporary serial counter d id f is right file pages (label_count writes k) (omega (arith, low, freeing_long is)));
    creation = λ d writes k j id kind leader is order right leads nowhere given unused room count.
        let low = within writes (creation id kind leader is) k order in
        lifted d writes (creation id kind leader is) k id _ order
        (subst (λ (n : ℕ). Changed with_temporary serial counter d (crash_state d (creation id kind leader is) n) id
        (Some (record { id = id; kind = kind; permanent = false; immutable = false; pages = replicate j zero_page }))) (sym count)
        (runs.creation_crash_states with_temporary serial counter d id kind leader is right leads nowhere given unused room j (omega (arith, low, count, growth_long id kind 0 is))));
    deletion = λ d writes k j id leader f is order right file led pages count.
        let low = within writes (freeing (leader ∷ is)) k order in
        lifted d writes (freeing (leader ∷ is)) k id None order
        (subst (λ (n : ℕ). Changed with_temporary serial counter d (crash_state d (freeing (leader ∷ is)) n) id None) (sym count)
        (runs.deletion_crash_states with_temporary serial counter d id leader f is right file led pages j (omega (arith, low, count, freeing_long (leader ∷ is)))));
  }
