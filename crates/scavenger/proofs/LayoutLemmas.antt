-- The parts of a layout.
use Rattle.std.proofs.Common.{◌≡◌, ℕ, ◌+◌, ◌≤◌, ap, arith}
use Rattle.std.specs.Prelude.{◌/◌}
use Rattle.labelled_disk.specs.declared.layout.Layout.{Layout}
use Rattle.labelled_disk.specs.Layout.{IsCount, layout_of, first_data, vam, vfm}

pub record IsLaidOut (l : Layout) (n : ℕ) : Type 0 where
  pub sectors : l.sectors ≡ n
  pub first : l.first ≡ first_data n
  pub bits : l.vam ≡ vam n
  pub names : l.vfm ≡ vfm n
  pub parts : first_data n ≡ 1 + vam n + vfm n

pub of_layout : (l : Layout) (n : ℕ) → l ≡ layout_of n → IsLaidOut l n
unfolding first_data
of_layout l n is = record {
  sectors = ap (λ (k : Layout). k.sectors) is;
  first = ap (λ (k : Layout). k.first) is;
  bits = ap (λ (k : Layout). k.vam) is;
  names = ap (λ (k : Layout). k.vfm) is;
  parts = λ i. 1 + vam n + vfm n;
}

pub first_is : (n : ℕ) → first_data n ≡ 1 + vam n + vfm n
unfolding first_data
first_is n = λ i. 1 + vam n + vfm n

ceil_small : (m : ℕ) → vam m ≤ m / 4096 + 1
ceil_small m = omega arith

-- the first data sector is on the disk
pub first_within : (n : ℕ) → IsCount n → first_data n ≤ n
unfolding first_data
first_within n count = let few = ceil_small n in omega (arith, few, count.0, count.1)

-- and there are few sectors before it
pub first_few : (n : ℕ) → IsCount n → (vam n ≤ 257) × (first_data n ≤ 131331)
unfolding first_data
first_few n count = let few = ceil_small n in (omega (arith, few, count.0, count.1), omega (arith, few, count.0, count.1))
