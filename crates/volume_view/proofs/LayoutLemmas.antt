-- A layout, and what it says of a volume's sectors.
use Rattle.std.proofs.Common.{◌≡◌, ℕ, ◌+◌, ◌*◌, ◌≤◌, min, refl, ap, arith}
use Rattle.std.specs.Prelude.{◌/◌, ◌%◌}
use Rattle.labelled_disk.specs.declared.layout.Layout.{Layout}
use Rattle.labelled_disk.specs.Layout.{IsCount, layout_of, first_data, vam, vfm, capacity}

-- its parts
pub record IsLayout (l : Layout) (n : ℕ) : Type 0 where
  pub sectors : l.sectors ≡ n
  pub first : l.first ≡ first_data n
  pub bits : l.vam ≡ vam n
  pub names : l.vfm ≡ vfm n
  pub capacity : l.capacity ≡ capacity n

pub of_layout : (l : Layout) (n : ℕ) → l ≡ layout_of n → IsLayout l n
unfolding first_data
of_layout l n is = record {
  sectors = ap (λ (k : Layout). k.sectors) is;
  first = ap (λ (k : Layout). k.first) is;
  bits = ap (λ (k : Layout). k.vam) is;
  names = ap (λ (k : Layout). k.vfm) is;
  capacity = ap (λ (k : Layout). k.capacity) is;
}

ceil_small : (n : ℕ) → n / 4096 + min 1 (n % 4096) ≤ n / 4096 + 1
ceil_small n = omega arith

-- the data sectors begin on the disk
pub first_within : (n : ℕ) → IsCount n → first_data n ≤ n
unfolding first_data
first_within n count = let few = ceil_small n in omega (arith, few, count.0, count.1)

pub first_is : (n : ℕ) → first_data n ≡ 1 + vam n + vfm n
unfolding first_data
first_is n = refl

-- the allocation map has a bit for each sector
pub bits_cover : (n : ℕ) → n ≤ 4096 * vam n
bits_cover n = omega arith
