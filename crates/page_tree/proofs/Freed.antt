-- The bytes of a free page.
use Rattle.std.proofs.Common.{◌≡◌, ℕ, ◌+◌, ◌^◌, ◌<◌, ◌≤◌, List, [], ◌∷◌, length, arith, refl, sym, ◌∙◌, ap}
use Rattle.std.proofs.lemmas.List.{append-nil}
use Rattle.std.specs.Int.{bytes_high_first}
use Rattle.byteorder.specs.Endian.{big_number}
use Rattle.byteorder.specs.Numbers.{big_number-reads_back, length-bytes_high_first}
use Rattle.flat_mem.specs.Memory.{overwritten}
use Rattle.flat_mem.specs.Parts.{length-overwritten, part-overwritten_same}
use Rattle.page_tree.specs.Page.{kind_of, next_in}
use Rattle.page_tree.specs.Copied.{with_free}
use Rattle.page_tree.proofs.Cells.{kind_kept}

module _ (page : List ℕ) (next : ℕ) (long : length page ≡ 512) where
  abbrev marked : List ℕ
  marked = overwritten page 0 (0 ∷ [])

  long_marked : length marked ≡ 512
  long_marked = length-overwritten page (0 ∷ []) 0 (omega (arith, long)) ∙ long

  fits : 4 + length (bytes_high_first 4 next) ≤ length marked
  fits = omega (arith, long_marked, length-bytes_high_first 4 next)

  pub freed_long : length (with_free page next) ≡ 512
  freed_long = length-overwritten marked (bytes_high_first 4 next) 4 fits ∙ long_marked

  pub freed_kind : kind_of (with_free page next) ≡ 0
  freed_kind = kind_kept marked (bytes_high_first 4 next) 4 (omega arith) fits ∙ refl

  pub freed_next : next < 2 ^ 32 → next_in (with_free page next) ≡ next
  freed_next small =
      ap (big_number 4) (part-overwritten_same marked (bytes_high_first 4 next) 4 4 (length-bytes_high_first 4 next) fits)
      ∙ ap (big_number 4) (sym (append-nil (bytes_high_first 4 next))) ∙ big_number-reads_back 4 next [] (omega (arith, small))
