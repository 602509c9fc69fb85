-- The orders of a file are permitted.
use Rattle.std.proofs.Common.{◌≡◌, ◌≢◌, inl, inr, ℕ, ◌+◌, ◌≤◌, true, ◌&&◌, List, [], ◌∷◌, replicate, refl, sym, ◌∙◌, subst, length-set, eqb, arith, length}
use Rattle.std.specs.Prelude.{slice_set, nat_lt}
use Rattle.std.specs.List.{AllByRecursion}
use Rattle.std.proofs.lemmas.Bool.{and_from}
use Rattle.labelled_disk.specs.Label.{is_file_id, leader_page, page_label}
use Rattle.labelled_disk.specs.Layout.{first_data}
use Rattle.labelled_disk.specs.Sectors.{Sector, free_label}
use Rattle.labelled_disk.specs.Runs.{zero_bytes, growth, creation, freeing}
use Rattle.labelled_disk.specs.WriteLaws.{HasData}
use Rattle.labelled_disk.proofs.Finds.{get_set_other}
use Rattle.label_laws.specs.PermittedOrders.{IsFreeSector, IsTakenSector, AreApart, OrdersArePermitted}
use Rattle.label_laws.specs.PermittedRuns.{ArePermitted}
use Rattle.label_laws.proofs.FileLemmas.{label_written}

zero_is : zero_bytes ≡ replicate 512 0
unfolding zero_bytes
zero_is = refl

still_there : (d : List Sector) (i j : ℕ) (s t : Sector) → j ≢ i → HasData d j s → HasData (slice_set d i t) j s
still_there d i j s t apart there = record { is_data = subst (λ (n : ℕ). first_data n ≤ j) (sym (length-set d i t)) there.is_data; here = get_set_other d i j t apart ∙ there.here }

still_apart : (P Q : ℕ → Type 0) (i : ℕ) (is : List ℕ) → ((j : ℕ) → j ≢ i → P j → Q j) → AllByRecursion (λ j. j ≢ i) is → AreApart P is → AreApart Q is
still_apart P Q i [] more others apart = tt
still_apart P Q i (j ∷ js) more others apart = (more j others.0 apart.0, apart.1, still_apart P Q i js more others.1 apart.2)

growth_permitted : (d : List Sector) (id kind page : ℕ) (is : List ℕ) → is_file_id id ≡ true → AreApart (IsFreeSector d) is → ArePermitted d (growth id kind page is)
growth_permitted d id kind page [] file apart = tt
growth_permitted d id kind page (i ∷ is) file apart =
    let t : Sector = (page_label id kind page, zero_bytes) in (
      inr (record { old = apart.0; of_file = inr (and_from (is_file_id id && nat_lt 0 4) (eqb 0 0) (and_from (is_file_id id) (nat_lt 0 4) file refl) refl); no_flags = refl; zero_page = zero_is }),
      growth_permitted (slice_set d i t) id kind (page + 1) is file
          (still_apart (IsFreeSector d) (IsFreeSector (slice_set d i t)) i is (λ j other free. (free.0, still_there d i j free.0 t other free.1, free.2)) apart.1 apart.2),
    )

creation_permitted : (d : List Sector) (id kind leader : ℕ) (is : List ℕ) → is_file_id id ≡ true → AreApart (IsFreeSector d) (leader ∷ is) → ArePermitted d (creation id kind leader is)
creation_permitted d id kind leader is file apart =
    let t : Sector = (page_label id kind leader_page, zero_bytes) in (
      inr (record { old = apart.0; of_file = inr (and_from (is_file_id id && nat_lt 0 4) (eqb 0 0) (and_from (is_file_id id) (nat_lt 0 4) file refl) refl); no_flags = refl; zero_page = zero_is }),
      growth_permitted (slice_set d leader t) id kind 0 is file
          (still_apart (IsFreeSector d) (IsFreeSector (slice_set d leader t)) leader is (λ j other free. (free.0, still_there d leader j free.0 t other free.1, free.2)) apart.1 apart.2),
    )

freeing_permitted : (d : List Sector) (is : List ℕ) → AreApart (IsTakenSector d) is → ArePermitted d (freeing is)
freeing_permitted d [] apart = tt
freeing_permitted d (i ∷ is) apart =
    let s : Sector = apart.0.0 in
    let t : Sector = (free_label, s.1) in (
      record { old = (s, apart.0.1, apart.0.2, inl refl) },
      subst (λ (e : List Sector). ArePermitted e (freeing is)) (sym (label_written d i s free_label apart.0.1.here))
          (freeing_permitted (slice_set d i t) is
          (still_apart (IsTakenSector d) (IsTakenSector (slice_set d i t)) i is (λ j other taken. (taken.0, still_there d i j taken.0 t other taken.1, taken.2)) apart.1 apart.2)),
    )

tables_permitted : (d : List Sector) (page : ℕ) (is : List ℕ) → page + length is ≤ 96 → AreApart (IsFreeSector d) is → ArePermitted d (growth 3 0 page is)
tables_permitted d page [] few apart = tt
tables_permitted d page (i ∷ is) few apart =
    let t : Sector = (page_label 3 0 page, zero_bytes) in (
      inr (record { old = apart.0; of_file = inl (omega (arith, few), refl); no_flags = refl; zero_page = zero_is }),
      tables_permitted (slice_set d i t) (page + 1) is (omega (arith, few))
          (still_apart (IsFreeSector d) (IsFreeSector (slice_set d i t)) i is (λ j other free. (free.0, still_there d i j free.0 t other free.1, free.2)) apart.1 apart.2),
    )

pub orders_are_permitted : OrdersArePermitted
orders_are_permitted = record { grown = growth_permitted; created = creation_permitted; freed = freeing_permitted; tables = tables_permitted }
