-- The writes of a volume: sector 0, all others, the root.
use Rattle.std.proofs.Common.{◌≡◌, ◌⊎◌, inl, inr, ◌-◌, ◌≤◌, List, [], ◌∷◌, ◌++◌, length, sym, ◌∙◌, ap, subst, arith, append_assoc, Result, Ok, Err, OnOk, OnErr}
use Rattle.labelled_disk.specs.declared.disk.DiskWrite.{DiskWrite}
use Rattle.labelled_disk.specs.declared.layout.Layout.{Layout}
use Rattle.labelled_disk.specs.Calls.{RevealsSame, RevealsWrite}
use Rattle.labelled_disk.specs.State.{DiskState}
use Rattle.labelled_disk.proofs.WriteRunLemmas.{appended_none, appended_one}
use Rattle.cut_words.specs.Barriers.{HasBarriers}
use Rattle.cut_words.proofs.BarrierCallLemmas.{Part, MadePart}
use Rattle.volume_root.specs.declared.root.Root.{Root}
use Rattle.volume_root.specs.Format.{sector_writes, volume_writes}
use Rattle.volume_root.specs.RootPage.{root_write}
use Rattle.volume_root.proofs.SectorRuns.{split_writes}

-- what holds is so after an error, too
pub any_err : {T E : Type 0} {P : Type 0} (r : Result T E) → P → OnErr r P
any_err (Ok x) holds = tt
any_err (Err e) holds = holds

pub ok_then : {T E : Type 0} {P Q : Type 0} (r : Result T E) → OnOk r P → (P → Q) → OnOk r Q
ok_then (Ok x) holds more = more holds
ok_then (Err e) holds more = tt

pub err_then : {T E : Type 0} {P Q : Type 0} (r : Result T E) → OnErr r P → (P → Q) → OnErr r Q
err_then (Ok x) holds more = tt
err_then (Err e) holds more = more holds

-- one write that was made or not
pub one_part : (w : DiskWrite) (a b : DiskState) → (RevealsSame a b ⊎ RevealsWrite w a b) → Part (w ∷ []) a b
one_part w a b (inl same) = (0, omega arith, appended_none same)
one_part w a b (inr made) = (1, omega arith, appended_one w made)

module _ (layout : Layout) (root : Root) where
  abbrev pub w1 : List DiskWrite
  w1 = sector_writes layout 0 1

  abbrev pub w2 : List DiskWrite
  w2 = sector_writes layout 1 (layout.sectors - 1)

  abbrev pub w3 : List DiskWrite
  w3 = root_write root ∷ []

  same : 1 ≤ layout.sectors → w1 ++ (w2 ++ w3) ≡ volume_writes layout root
  same some = sym (append_assoc w1 w2 w3) ∙ ap (λ (ws : List DiskWrite). ws ++ w3) (split_writes layout layout.sectors some)

  pub as_part : (a b : DiskState) → 1 ≤ layout.sectors → MadePart (w1 ++ (w2 ++ w3)) a b → MadePart (volume_writes layout root) a b
  as_part a b some part = (part.0, subst (λ (ws : List DiskWrite). HasBarriers ws part.0 a b) (same some) part.1)

  pub as_all : (a b : DiskState) → 1 ≤ layout.sectors → HasBarriers (w1 ++ (w2 ++ w3)) (length (w1 ++ (w2 ++ w3))) a b → HasBarriers (volume_writes layout root) (length (volume_writes layout root)) a b
  as_all a b some has = subst (λ (ws : List DiskWrite). HasBarriers ws (length ws) a b) (same some) has
