-- The sectors of a new volume, part by part.
use Rattle.std.proofs.Common.{◌≡◌, ◌≢◌, ℕ, ◌-◌, ◌<◌, ◌≤◌, arith, List, refl, replicate, sym, ◌∙◌, ap}
use Rattle.std.proofs.lemmas.Bool.{eq-eqb, ne_eqb, le-leb, lt-leb, lt-ltb, le-ltb}
use Rattle.labelled_disk.specs.declared.disk.DiskWrite.TheVariants.{Whole}
use Rattle.labelled_disk.specs.Label.{page_label}
use Rattle.labelled_disk.specs.declared.label.Label.{Label}
use Rattle.labelled_disk.specs.declared.layout.Layout.{Layout}
use Rattle.labelled_disk.specs.Sectors.{Sector, zero_sector}
use Rattle.volume_root.specs.Format.{used_page, new_sector}

module _ (layout : Layout) (i : ℕ) where
  pub in_allocation : i ≢ 0 → i ≤ layout.vam → new_sector layout i ≡ (page_label 1 0 (i - 1), used_page layout.first (i - 1))
  unfolding new_sector
  in_allocation z a = rw (ne_eqb i 0 z, le-leb i layout.vam a) refl

  pub in_file_map : layout.vam < i → i < layout.first → new_sector layout i ≡ (page_label 2 0 (i - 1 - layout.vam), replicate 512 0)
  unfolding new_sector
  in_file_map a m = rw (ne_eqb i 0 (λ e. omega (arith, e, a)), lt-leb i layout.vam a, lt-ltb i layout.first m) refl

  pub in_data : layout.vam < i → layout.first ≤ i → new_sector layout i ≡ zero_sector
  unfolding new_sector
  in_data a m = rw (ne_eqb i 0 (λ e. omega (arith, e, a)), lt-leb i layout.vam a, le-ltb i layout.first m) refl

  pub at_root : i ≡ 0 → new_sector layout i ≡ zero_sector
  unfolding new_sector
  at_root z = rw (eq-eqb i 0 z) refl

pub same_sector : (l m : Label) (p q : List ℕ) (s : Sector) → l ≡ m → p ≡ q → s ≡ (m, q) → (l, p) ≡ s
same_sector l m p q s e f g = cc

-- the write of a free sector
pub bare_write : (layout : Layout) (i : ℕ) (zeros : List ℕ) → new_sector layout i ≡ zero_sector → zeros ≡ replicate 512 0 → Whole i zero_sector.0 zeros ≡ Whole i (new_sector layout i).0 (new_sector layout i).1
bare_write layout i zeros bare none = ap (λ (p : List ℕ). Whole i zero_sector.0 p) none ∙ ap (λ (s : Sector). Whole i s.0 s.1) (sym bare)
