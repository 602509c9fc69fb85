-- What the calls of a look cost together.
use Rattle.std.proofs.Common.{◌≡◌, ℕ, ◌+◌, ◌-◌, ◌≤◌, Result, Err, IfErr, ◌∙◌, subst, arith}
use Rattle.labelled_disk.specs.Calls.{ReadsAtMost}
use Rattle.labelled_disk.specs.Layout.{IsCount, first_data, vam, vfm}
use Rattle.labelled_disk.specs.State.{DiskState}
use Rattle.labelled_disk.proofs.CallLemmas.{reads_at_most_then, reads_at_most_wider}
use Rattle.volume_view.specs.declared.fault.LookFault.{LookFault}
use Rattle.volume_view.specs.declared.fault.LookFault.TheVariants.{BadCount}
use Rattle.volume_view.specs.Pages.{IsDiskOrMemory}
use Rattle.volume_view.proofs.LayoutLemmas.{first_within, first_is}

module _ (n : ℕ) (count : IsCount n) where
  fits : 1 + (n - first_data n) + vam n + vfm n ≤ n
  fits = let within = first_within n count in let parts = first_is n in omega (arith, within, parts)

  pub labels_cost : {a b c : DiskState} → a.sectors ≡ n → ReadsAtMost 1 a b → ReadsAtMost (b.sectors - first_data b.sectors) b c → ReadsAtMost (1 + (n - first_data n)) a c
  labels_cost {a} {b} {c} at root labels = reads_at_most_then root (subst (λ (m : ℕ). ReadsAtMost (m - first_data m) b c) (root.only.sectors ∙ at) labels)

  pub bits_cost : {a b c : DiskState} → a.sectors ≡ n → ReadsAtMost (1 + (n - first_data n)) a b → ReadsAtMost (vam b.sectors) b c → ReadsAtMost (1 + (n - first_data n) + vam n) a c
  bits_cost {a} {b} {c} at so_far bits = reads_at_most_then so_far (subst (λ (m : ℕ). ReadsAtMost (vam m) b c) (so_far.only.sectors ∙ at) bits)

  pub names_cost : {a b c : DiskState} → a.sectors ≡ n → ReadsAtMost (1 + (n - first_data n) + vam n) a b → ReadsAtMost (vfm b.sectors) b c → ReadsAtMost (1 + (n - first_data n) + vam n + vfm n) a c
  names_cost {a} {b} {c} at so_far names = reads_at_most_then so_far (subst (λ (m : ℕ). ReadsAtMost (vfm m) b c) (so_far.only.sectors ∙ at) names)

  pub labels_all : {a b : DiskState} → ReadsAtMost (1 + (n - first_data n)) a b → ReadsAtMost n a b
  labels_all reads = let all = fits in reads_at_most_wider (omega (arith, all)) reads

  pub bits_all : {a b : DiskState} → ReadsAtMost (1 + (n - first_data n) + vam n) a b → ReadsAtMost n a b
  bits_all reads = let all = fits in reads_at_most_wider (omega (arith, all)) reads

  pub names_all : {a b : DiskState} → ReadsAtMost (1 + (n - first_data n) + vam n + vfm n) a b → ReadsAtMost n a b
  names_all reads = reads_at_most_wider fits reads

-- no count is refused
pub never_bad : {T : Type 0} (r : Result T LookFault) (m : ℕ) → r ≡ Err (BadCount m) → IfErr r IsDiskOrMemory → ⊥
never_bad {T} r m is says = subst (λ (x : Result T LookFault). IfErr x IsDiskOrMemory) is says
