-- A first page of zeros is a map without records.
use Rattle.std.proofs.Common.{◌≡◌, ℕ, ◌*◌, ◌/◌, ◌≤◌, List, [], replicate, refl, arith}
use Rattle.labelled_disk.specs.Layout.{IsCount, vfm}
use Rattle.page_tree.specs.Page.{page_at}
use Rattle.page_tree.specs.Reveals.{RevealsTree}
use Rattle.page_tree.proofs.Grown.{zero_tree}
use Rattle.page_tree.proofs.Listed.{lists_tree}
use Rattle.file_map.specs.FileMap.{AreNamed, no_triples}

pub zero_map : (n size : ℕ) (reveals : List ℕ → Type 0) (b : List ℕ) → IsCount n → size ≡ 512 * vfm n → reveals b → page_at b 0 ≡ replicate 512 0 → AreNamed n (RevealsTree 24 12 (size / 512) reveals) no_triples
zero_map n size reveals b is size_is revealed zeros =
    let some : 1 ≤ size / 512 = omega (arith, is.0, is.1, size_is) in
    record {
      runs = [];
      listed = lists_tree 24 12 (size / 512) reveals b [] revealed (zero_tree 24 12 (size / 512) b some zeros);
      form = record { each = λ j below. absurd (omega (arith, below)); once = λ j k id page below others held also. absurd (omega (arith, below)) };
      few = omega arith;
      are = λ id page sector. refl;
    }
