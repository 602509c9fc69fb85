-- Why a call that gives a file another size stops the session.
use Rattle.std.proofs.Common.{◌≡◌, inl, inr, ℕ, ◌<◌, ◌≤◌, Bool, true, false, List, refl, sym, ◌∙◌, ap, subst, arith}
use Rattle.labelled_disk.specs.declared.evidence.Evidence.{Evidence}
use Rattle.labelled_disk.specs.declared.evidence.Evidence.TheVariants.{Mismatch, Malformed, Missing}
use Rattle.labelled_disk.specs.declared.evidence.Halt.{Halt}
use Rattle.labelled_disk.specs.declared.evidence.Halt.TheVariants.{Disk, Damaged}
use Rattle.labelled_disk.specs.declared.label.Wanted.{Wanted}
use Rattle.labelled_disk.specs.declared.layout.Layout.{Layout}
use Rattle.labelled_disk.specs.Label.{leader_page, names}
use Rattle.labelled_disk.specs.State.{DiskState, HasLabel}
use Rattle.frame_pool.specs.Frames.{Slots}
use Rattle.file_map.specs.declared.run.Run.{Run}
use Rattle.file_map.specs.FileMap.{Triples, IsSize}
use Rattle.swapper_kernel.specs.Homes.{home_at}
use Rattle.filer_kernel.specs.Causes.{MapEvidence, IsRunHome}
use Rattle.file_manager.specs.Causes.{LeaderEvidence, NamesNone}
use Rattle.file_manager.specs.Finding.{IsNoLeader, FileHalts}
use Rattle.file_manager.specs.Grounds.{IsUnframed, IsBelowSize, FreeEvidence, MakeHalts, ShrinkHalts, ResizeHalts}
use Rattle.file_manager.specs.Taking.{AddsPages, NamesNoneOf, no_page_of}
use Rattle.file_manager.proofs.TakingLemmas.{none_later}

module _ (layout : Layout) (kept : List Run) (id pages : ℕ) (a c : DiskState) (s u : Slots) where
  searched : (e : Evidence) → MapEvidence layout a s e → LeaderEvidence layout kept id a s e
  searched (Mismatch sector wanted found) is = record { there = is.there; other = is.other; reason = inl is.reason }
  searched (Malformed structure page) is = is
  searched (Missing missing page) is = absurd is

  no_leader : (e : Evidence) → IsNoLeader layout kept id a s e → LeaderEvidence layout kept id a s e
  no_leader (Mismatch place wanted found) is =
      let at = is.other.0 in
      let page = is.other.1 in
      record {
        there = subst (λ (k : ℕ). HasLabel a k found) (sym at) is.other.2;
        other = ap (names found) page ∙ is.other.3;
        reason = inr (ap (home_at place) page, subst (λ (w : Wanted). IsRunHome layout a s kept (home_at place w)) (sym page) (subst (λ (k : ℕ). IsRunHome layout a s kept (home_at k (record { id = id; page = leader_page }))) (sym at) is.by_run));
      }
  no_leader (Malformed structure page) is = absurd is.other
  no_leader (Missing missing page) is = absurd is.other

  -- where the file is looked up
  pub resize_of_file : (halt : Halt) → FileHalts layout kept id a s c halt → ResizeHalts layout kept id pages a s c u halt
  resize_of_file Disk is = is
  resize_of_file (Damaged e) is = elim is [ inl map ↦ inl (searched e map) | inr other ↦ inl (no_leader e other) ]

  -- where pages are made
  pub resize_of_make : (halt : Halt) → MakeHalts layout id no_page_of (λ p. (p < pages) × NamesNone layout a s id p) a s c u halt → ResizeHalts layout kept id pages a s c u halt
  resize_of_make Disk is = is
  resize_of_make (Damaged e) is = inr (inl is)

  fewer : (size : ℕ) → ((page : ℕ) → page < size → IsBelowSize layout a s id page) → (e : Evidence) → FreeEvidence (IsUnframed s id) layout kept id (λ p. (pages ≤ p) × (p < size)) a s e → FreeEvidence (IsUnframed s id) layout kept id (λ p. (pages ≤ p) × IsBelowSize layout a s id p) a s e
  fewer size revealed (Mismatch sector wanted found) is = is
  fewer size revealed (Malformed structure page) is = is
  fewer size revealed (Missing missing page) is = (is.0, (is.1.0, revealed page is.1.1), is.2)

  -- no page from the size of a file on is named
  pub above_size : (size : ℕ) (named later : Triples) → pages < 4294967295 → IsSize named id size → AddsPages id no_page_of named later → NamesNoneOf id (λ p. (size ≤ p) × (p < pages)) later
  above_size size named later few sized adds = none_later id no_page_of (λ p. (size ≤ p) × (p < pages)) named later adds (λ p sector own. either p sector own.0 own.1 (named id p sector) refl) (λ p own not. not)
    where
      either : (p sector : ℕ) → size ≤ p → p < pages → (b : Bool) → named id p sector ≡ b → named id p sector ≡ false
      either p sector from below false e = e
      either p sector from below true e = let within = sized.highest p sector e (omega (arith, below, few)) in absurd (omega (arith, within, from))

  -- where pages are freed
  pub resize_of_shrink : (size : ℕ) → ((page : ℕ) → page < size → IsBelowSize layout a s id page) → (halt : Halt) → ShrinkHalts (IsUnframed s id) layout kept id pages (λ p. (pages ≤ p) × (p < size)) a s c u halt → ResizeHalts layout kept id pages a s c u halt
  resize_of_shrink size revealed Disk is = is
  resize_of_shrink size revealed (Damaged e) is = elim is [
    | inl free ↦ inr (inr (inl (fewer size revealed e free)))
    | inr (inl out) ↦ inr (inr (inr (inl out)))
    | inr (inr back) ↦ inr (inr (inr (inr back)))
  ]
