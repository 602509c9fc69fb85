-- Bits of the allocation map, over its pages in order or page by page.
use Rattle.std.proofs.Common.{◌≡◌, ⊎_elim, ℕ, zero, suc, ◌+◌, ◌-◌, ◌*◌, ◌/◌, ◌%◌, ◌^◌, ◌<◌, ◌≤◌, false, not, List, [], ◌∷◌, ◌++◌, length, take, drop, Option, Some, refl, sym, ◌∙◌, ap, subst, arith}
use Rattle.std.specs.Prelude.{slice_get, slice_index, ◌==◌}
use Rattle.std.specs.List.{flat_map}
use Rattle.std.specs.Int.{bit_at}
use Rattle.std.proofs.lemmas.Nat.Bits.{bit_at-zero}
use Rattle.std.proofs.lemmas.Option.{none-some, slice_get_within}
use Rattle.std.proofs.lemmas.Bool.{true≢false, cases_lt}
use Rattle.std.proofs.lemmas.List.{length-map}
use Rattle.labelled_disk.specs.declared.label.Label.{Label}
use Rattle.labelled_disk.specs.Label.{is_free}
use Rattle.labelled_disk.specs.Layout.{first_data, vam}
use Rattle.labelled_disk.specs.Sectors.{Sector, AreSectors}
use Rattle.labelled_disk.specs.Root.{page_in}
use Rattle.labelled_disk.proofs.WriteLemmas.{get_drop, first_positive}
use Rattle.volume_root.specs.Sound as sound
use Rattle.alloc_map.specs.Bits.{is_used}
use Rattle.swapper_kernel.specs.Stands.{labels_of}
use Rattle.session_words.specs.Parts.{MarksFit, is_marked}
use Rattle.swapper_kernel.specs.DiffersLaws.{label_here, sector_of_label}
use Rattle.session_words.proofs.StayLemmas.{get_take, get_take_past}
use Rattle.session_words.proofs.BitLemmas.{inside_has_bit, low_has_bit}

index_low : (p rest : List ℕ) (r : ℕ) → r < length p → slice_index (p ++ rest) r ≡ slice_index p r
index_low [] rest r below = absurd (omega arith)
index_low (b ∷ p) rest zero below = refl
index_low (b ∷ p) rest (suc r) below = index_low p rest r (omega arith)

index_high : (p rest : List ℕ) (k : ℕ) → slice_index (p ++ rest) (length p + k) ≡ slice_index rest k
index_high [] rest k = let z : 0 + k ≡ k = omega arith in ap (slice_index rest) z
index_high (b ∷ p) rest k = (let z : suc (length p) + k ≡ suc (length p + k) = omega arith in ap (slice_index (b ∷ (p ++ rest))) z) ∙ index_high p rest k

index_none : (r : ℕ) → slice_index [] r ≡ 0
index_none zero = refl
index_none (suc r) = refl

index_flat : (ss : List Sector) (q r : ℕ) → r < 512 → ((k : ℕ) (s : Sector) → slice_get ss k ≡ Some s → length s.1 ≡ 512) → slice_index (flat_map (λ s. s.1) ss) (512 * q + r) ≡ slice_index (page_in (slice_get ss q)) r
index_flat [] q r below whole = index_none (512 * q + r) ∙ sym (index_none r)
index_flat (s ∷ ss) zero r below whole =
    (let z : 512 * 0 + r ≡ r = omega arith in ap (slice_index (s.1 ++ flat_map (λ s. s.1) ss)) z) ∙ index_low s.1 (flat_map (λ s. s.1) ss) r (omega (arith, whole 0 s refl))
index_flat (s ∷ ss) (suc q) r below whole =
    (let z : 512 * suc q + r ≡ length s.1 + (512 * q + r) = omega (arith, whole 0 s refl) in ap (slice_index (s.1 ++ flat_map (λ s. s.1) ss)) z)
    ∙ index_high s.1 (flat_map (λ s. s.1) ss) (512 * q + r) ∙ index_flat ss q r below (λ k t at. whole (suc k) t at)

-- a byte of the map, in its page
byte_of_map : (d : List Sector) → AreSectors d → (q r : ℕ) → r < 512 → slice_index (sound.map_bytes d) (512 * q + r) ≡ slice_index (page_in (slice_get (take (vam (length d)) (drop 1 d)) q)) r
byte_of_map d are q r below = index_flat (take (vam (length d)) (drop 1 d)) q r below whole
  where
    whole : (k : ℕ) (s : Sector) → slice_get (take (vam (length d)) (drop 1 d)) k ≡ Some s → length s.1 ≡ 512
    whole k s at = ⊎_elim
        (λ (l : k < vam (length d)). (are (1 + k) s (sym (get_drop 1 d k) ∙ sym (get_take (vam (length d)) (drop 1 d) k l) ∙ at)).whole_page)
        (λ (l : vam (length d) ≤ k). absurd (none-some s (sym (get_take_past (vam (length d)) (drop 1 d) k l) ∙ at)))
        (cases_lt k (vam (length d)))

-- a bit of the map is that of its page
pub mark_of_bytes : (d : List Sector) → AreSectors d → (k : ℕ) → k < 4096 * vam (length d) → is_marked d k ≡ is_used (sound.map_bytes d) k
unfolding is_used
mark_of_bytes d are k inside =
    let below : k / 4096 < vam (length d) = omega (arith, inside) in
    let page : slice_get (take (vam (length d)) (drop 1 d)) (k / 4096) ≡ slice_get d (1 + k / 4096) = get_take (vam (length d)) (drop 1 d) (k / 4096) below ∙ get_drop 1 d (k / 4096) in
    let place : 512 * (k / 4096) + k % 4096 / 8 ≡ k / 8 = omega arith in
    let bit : k % 4096 % 8 ≡ k % 8 = omega arith in
    let small : k % 4096 / 8 < 512 = omega arith in
    let byte : slice_index (page_in (slice_get d (1 + k / 4096))) (k % 4096 / 8) ≡ slice_index (sound.map_bytes d) (k / 8) =
    ap (λ (o : Option Sector). slice_index (page_in o) (k % 4096 / 8)) (sym page) ∙ sym (byte_of_map d are (k / 4096) (k % 4096 / 8) small) ∙ ap (slice_index (sound.map_bytes d)) place in
    λ i. byte i / 2 ^ (7 - bit i) % 2 == 1

pub bits_by_page : (d : List Sector) → AreSectors d → sound.HasBits d → MarksFit (is_marked d) (labels_of d)
bits_by_page d are h = record {
  low = λ k below.
      let low : k < first_data (length d) = subst (λ (n : ℕ). k < first_data n) long below in
      same k (low_has_bit (length d) k some low) ∙ h.low k low;
  bits = λ k l has.
      let there = sector_of_label d k l has.here in
      let above : first_data (length d) ≤ k = subst (λ (n : ℕ). first_data n ≤ k) long has.is_data in
      same k (inside_has_bit (length d) k (slice_get_within d k there.0 there.1))
      ∙ h.by_label k there.0 (record { is_data = above; here = there.1 }) ∙ ap (λ (x : Label). not (is_free x)) there.2;
  past = λ k end below. same k (subst (λ (n : ℕ). k < 4096 * vam n) long below) ∙ h.past k (omega (arith, end, long));
}
  where
    long : length (labels_of d) ≡ length d
    long = length-map d (λ s. s.0)

    same : (k : ℕ) → k < 4096 * vam (length d) → is_marked d k ≡ is_used (sound.map_bytes d) k
    same k inside = mark_of_bytes d are k inside

    some : 1 ≤ length d
    some = ⊎_elim
        (λ (none : length d < 1). absurd (true≢false (sym (h.low 0 (first_positive false 0 0 (length d))) ∙ h.past 0 (omega arith))))
        (λ (l : 1 ≤ length d). l)
        (cases_lt (length d) 1)

-- after the map's pages there are no bits
beyond : (d : List Sector) → AreSectors d → (k : ℕ) → 4096 * vam (length d) ≤ k → is_used (sound.map_bytes d) k ≡ false
unfolding is_used
beyond d are k far =
    let past : vam (length d) ≤ k / 4096 = omega (arith, far) in
    let place : 512 * (k / 4096) + k % 4096 / 8 ≡ k / 8 = omega arith in
    let byte : slice_index (sound.map_bytes d) (k / 8) ≡ 0 =
    ap (slice_index (sound.map_bytes d)) (sym place) ∙ byte_of_map d are (k / 4096) (k % 4096 / 8) (omega arith)
    ∙ ap (λ (o : Option Sector). slice_index (page_in o) (k % 4096 / 8)) (get_take_past (vam (length d)) (drop 1 d) (k / 4096) past) ∙ index_none (k % 4096 / 8) in
    ap (λ (b : ℕ). bit_at b (7 - k % 8) == 1) byte ∙ ap (λ (b : ℕ). b == 1) (bit_at-zero (7 - k % 8))

-- and back: the bits in the map's bytes, in order
pub bits_in_order : (d : List Sector) → AreSectors d → 1 ≤ length d → MarksFit (is_marked d) (labels_of d) → sound.HasBits d
bits_in_order d are some h = record {
  low = λ i below. sym (mark_of_bytes d are i (low_has_bit (length d) i some below)) ∙ h.low i (subst (λ (n : ℕ). i < first_data n) (sym long) below);
  by_label = λ i s there.
      sym (mark_of_bytes d are i (inside_has_bit (length d) i (slice_get_within d i s there.here)))
      ∙ h.bits i s.0 (record { is_data = subst (λ (n : ℕ). first_data n ≤ i) (sym long) there.is_data; here = label_here d i s there.here });
  past = λ i end. ⊎_elim
      (λ (inside : i < 4096 * vam (length d)). sym (mark_of_bytes d are i inside) ∙ h.past i (omega (arith, end, long)) (subst (λ (n : ℕ). i < 4096 * vam n) (sym long) inside))
      (λ (far : 4096 * vam (length d) ≤ i). beyond d are i far)
      (cases_lt i (4096 * vam (length d)));
}
  where
    long : length (labels_of d) ≡ length d
    long = length-map d (λ s. s.0)
