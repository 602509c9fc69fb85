-- An addition to the file map that stops has its reason: where the map is full, as many pages are at home as it may have records, and
-- one more, whose run was to be added.
use Rattle.std.proofs.Common.{◌≡◌, ◌≢◌, ◌⊎◌, inl, inr, ℕ, zero, suc, ◌+◌, ◌<◌, true, false, List, ◌∷◌, Some, sym, ◌∙◌, ap, subst, arith}
use Rattle.std.specs.Prelude.{slice_get}
use Rattle.std.proofs.lemmas.Bool.{true≢false}
use Rattle.std.proofs.lemmas.Option.{same_Some}
use Rattle.labelled_disk.specs.declared.evidence.Evidence.TheVariants.{Mismatch, Malformed, Missing}
use Rattle.labelled_disk.specs.declared.evidence.Halt.{Halt}
use Rattle.labelled_disk.specs.declared.evidence.Halt.TheVariants.{Disk, Damaged}
use Rattle.labelled_disk.specs.declared.layout.Layout.{Layout}
use Rattle.labelled_disk.specs.Sectors.{Sector}
use Rattle.labelled_disk.specs.State.{DiskState}
use Rattle.frame_pool.specs.declared.home.Home.{Home}
use Rattle.frame_pool.specs.Frames.{Slots}
use Rattle.file_map.specs.FileMap.{Triples, most_records}
use Rattle.swapper_kernel.specs.declared.manager.Manager.TheVariants.{FileMap}
use Rattle.swapper_kernel.specs.Homes.{Homes, IsHeld, IsLayout, home_at}
use Rattle.swapper_kernel.specs.Stands.{Stands}
use Rattle.filer_kernel.specs.Causes.{AddHalts, IsFaultOrMost}
use Rattle.filer_kernel.specs.Triples.{MapIs}
use Rattle.file_manager.specs.Grounds.{IsMapsHome}
use Rattle.file_manager.specs.ShownLaws.{named_homes}
use Rattle.file_manager.specs.Reasons.{AreHomes, IsAtHome, InitialState, ShowsReason}
use Rattle.file_manager.proofs.MakeStops.{page_in}

-- one home more, of a page that is none of theirs
one_more : {are : Homes} {n : ℕ} (h : AreHomes are n) (extra : Home) → are extra → ((k : ℕ) (home : Home) → slice_get h.homes k ≡ Some home → extra.id ≡ home.id → extra.page ≢ home.page) → AreHomes are (n + 1)
one_more {are = are} {n = n} h extra at other = record {
  homes = extra ∷ h.homes;
  counted = let n' = h.counted in omega (arith, n');
  each = each;
  apart = apart;
}
  where
    each : (k : ℕ) (home : Home) → slice_get (extra ∷ h.homes) k ≡ Some home → are home
    each zero home here = subst are (same_Some extra home here) at
    each (suc k) home here = h.each k home here

    apart : (j k : ℕ) (x y : Home) → slice_get (extra ∷ h.homes) j ≡ Some x → slice_get (extra ∷ h.homes) k ≡ Some y → j < k → x.id ≡ y.id → x.page ≢ y.page
    apart j zero x y first second before same = absurd (omega (arith, before))
    apart zero (suc k) x y first second before same = λ page.
        let e = same_Some extra x first in
        other k y second (ap (λ (h : Home). h.id) e ∙ same) (ap (λ (h : Home). h.page) e ∙ page)
    apart (suc j) (suc k) x y first second before same = h.apart j k x y first second (omega (arith, before)) same

-- The map is asked to add a run in a state whose memory it is in form in: each page that it names is at home when the call ends, so is
-- each page of a frame, and so is the first page of the run, which it does not name.
module _ (o : InitialState) (d : DiskState) {x : Layout} {c : DiskState} {t : Slots} {named : Triples} (is : IsLayout x) (size : c.sectors ≡ x.sectors) (n : List Sector) (stands : Stands c t n) (map : MapIs x named n)
    (homes : (home : Home) → named home.id home.page home.sector ≡ true → IsAtHome o d home) (held : (home : Home) → IsHeld t home → IsMapsHome x home ⊎ IsAtHome o d home)
    (extra : Home) (at : IsAtHome o d extra) (none : (sector : ℕ) → named extra.id extra.page sector ≡ false) where
  pub add_at : (e : Halt) → AddHalts x c t d e → IsFaultOrMost x c t e → ShowsReason o x d e
  add_at Disk cause right = tt
  add_at (Damaged (Mismatch sector wanted found)) cause right = elim cause.reason [
    | inl frame ↦ elim (held (home_at sector wanted) frame) [ inl own ↦ inl own | inr here ↦ inr (inl here) ]
    | inr own ↦ inl (FileMap, own)
  ]
  add_at (Damaged (Malformed structure page)) cause right = elim right [
    | inl not ↦ absurd not
    | inr (same, counts) ↦
        let full = named_homes is size stands map (most_records x.sectors) counts in
        let at_home : AreHomes (IsAtHome o d) (most_records x.sectors) = record { homes = full.homes; counted = full.counted; each = λ j home here. homes home (full.each j home here); apart = full.apart } in
        inl (
          cause.0,
          ap page_in same,
          one_more at_home extra at (λ k home here same_id same_page.
              true≢false (sym (full.each k home here) ∙ (λ i. named (sym same_id i) (sym same_page i) home.sector) ∙ none home.sector)),
        )
  ]
  add_at (Damaged (Missing id page)) cause right = absurd cause
