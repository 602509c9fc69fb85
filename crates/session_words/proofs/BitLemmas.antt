-- Bits of the allocation map that say the same.
use Rattle.std.proofs.Common.{◌≡◌, ℕ, ◌*◌, ◌<◌, ◌≤◌, Bool, List, length, ◌∙◌, arith}
use Rattle.std.proofs.lemmas.Option.{slice_get_within}
use Rattle.labelled_disk.specs.declared.label.Label.{Label}
use Rattle.labelled_disk.specs.Layout.{vam, first_data}
use Rattle.session_words.specs.Parts.{MarksFit}

-- the map has a bit for each sector
pub inside_has_bit : (n k : ℕ) → k < n → k < 4096 * vam n
inside_has_bit n k below = omega (arith, below)

-- and for each sector of root and maps
pub low_has_bit : (n k : ℕ) → 1 ≤ n → k < first_data n → k < 4096 * vam n
unfolding first_data
low_has_bit n k some below = omega (arith, some, below)

-- bits that are the same wherever the map has one
pub bits_alike : (labels : List Label) (marks later : ℕ → Bool) → 1 ≤ length labels → ((k : ℕ) → k < 4096 * vam (length labels) → later k ≡ marks k) → MarksFit marks labels → MarksFit later labels
bits_alike labels marks later some same h = record {
  low = λ k below. same k (low_has_bit (length labels) k some below) ∙ h.low k below;
  bits = λ k l has. same k (inside_has_bit (length labels) k (slice_get_within labels k l has.here)) ∙ h.bits k l has;
  past = λ k end below. same k below ∙ h.past k end below;
}
