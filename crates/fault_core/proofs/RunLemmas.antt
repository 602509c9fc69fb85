-- Pages in a row whose homes were found are brought in.
use Rattle.std.proofs.Common.{◌≡◌, ◌⊎◌, inl, inr, ℕ, ◌+◌, ◌<◌, ◌≤◌, true, List, length, sym, ◌∙◌, subst, arith}
use Rattle.std.specs.Prelude.{get_or}
use Rattle.std.proofs.lemmas.Option.{slice_get-get_or}
use Rattle.labelled_disk.specs.Sectors.{Sector}
use Rattle.labelled_disk.specs.declared.layout.Layout.{Layout}
use Rattle.frame_pool.specs.declared.home.Home.{Home}
use Rattle.frame_pool.specs.Frames.{Slots, HasPage, IsWithin}
use Rattle.frame_pool.specs.ListLaws.{below_of}
use Rattle.file_map.specs.FileMap.{Triples}
use Rattle.swapper_kernel.specs.Bring.{AreThere}
use Rattle.swapper_kernel.specs.Homes.{AreFileHomes, AreNamed, Brings, IsAmong, IsFileHome, IsNamed, IsRow}
use Rattle.swapper_kernel.specs.HaltLaws.{brings_then, brings_wider}
use Rattle.filer_kernel.specs.PlaceLaws.{one_sector}
use Rattle.filer_kernel.specs.View.{View}
use Rattle.fault_core.specs.Reach.{IsReachedHome, BringsOwn}
use Rattle.fault_core.specs.Revealed.{Known, IsStored}
use Rattle.fault_core.specs.Homes.{AreHomesOf, HaveSectors}
use Rattle.fault_core.specs.Unit.{AreResident, AreRunStored, BringsRun}

module _ {id first pages : ℕ} {homes : List Home} (are : AreHomesOf id first pages homes) where
  pub homes_row : IsRow homes
  homes_row j k g h at_j at_k =
      let a = are.each j g at_j in
      let b = are.each k h at_k in
      let pa = a.1 in
      let pb = b.1 in
      (b.0 ∙ sym a.0, omega (arith, pa, pb))

  pub homes_resident : (s : Slots) → AreThere s homes (length homes) → AreResident s id first pages
  homes_resident s there j below =
      let nothing : Home = record { sector = 0; id = 0; page = 0 } in
      let count = are.count in
      let inside : j < length homes = omega (arith, below, count) in
      let here = slice_get-get_or homes j nothing inside in
      let own = are.each j (get_or homes j nothing) here in
      let at = there j (get_or homes j nothing) inside here in
      (at.0, subst (λ (n : ℕ). HasPage s at.0 id n) own.1 (subst (λ (n : ℕ). HasPage s at.0 n (get_or homes j nothing).page) own.0 at.1))

  homes_within : (h : Home) → IsAmong homes h → IsWithin id first pages h
  homes_within h among =
      let own = are.each among.0 h among.1 in
      let below = below_of homes among.0 h among.1 in
      let count = are.count in
      let page = own.1 in
      (own.0, omega (arith, page), omega (arith, page, below, count))

  pub run_came : (s t u : Slots) → BringsOwn s t → Brings (IsAmong homes) t u → BringsRun id first pages s u
  run_came s t u own brought =
      let come = λ (home : Home). ((1 ≤ home.id) × (home.id ≤ 3)) ⊎ IsWithin id first pages home in
      brings_then (brings_wider come (λ home is. inl is) own) (brings_wider come (λ home is. inr (homes_within home is)) brought)

  pub homes_are_named : (v : View) (m : List Sector) (named : Triples) (b : List ℕ) → Known v m named b → AreRunStored named m id first pages
      → ((h : Home) → IsAmong homes h → named h.id h.page h.sector ≡ true) → AreNamed m (IsAmong homes)
  homes_are_named v m named b known stored is_named h among =
      let own = are.each among.0 h among.1 in
      let below = below_of homes among.0 h among.1 in
      let count = are.count in
      let there : IsStored named m (record { file = id; page = first + among.0 }) = stored among.0 (omega (arith, below, count)) in
      let found : named id (first + among.0) h.sector ≡ true = subst (λ (n : ℕ). named id n h.sector ≡ true) own.1 (subst (λ (n : ℕ). named n h.page h.sector ≡ true) own.0 (is_named h among)) in
      let same : there.sector ≡ h.sector = one_sector v.layout named m known.map id (first + among.0) there.sector h.sector there.found found in
      subst (IsNamed m) (λ i. record { sector = same i; id = sym own.0 i; page = sym own.1 i }) there.is_named

pub have_sectors : (named : Triples) (m : List Sector) (id first pages : ℕ) → AreRunStored named m id first pages → HaveSectors named id first pages
have_sectors named m id first pages stored j below = let at = stored j below in (at.sector, at.found)

pub homes_placed : (v w : View) (homes : List Home) → w.layout ≡ v.layout → ((h : Home) → IsAmong homes h → IsReachedHome v h) → AreFileHomes homes w.layout
homes_placed v w homes layout found k h at = subst (λ (l : Layout). IsFileHome l h) (sym layout) (found h (k, at)).on_data
