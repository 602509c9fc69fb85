-- The records of the projection as the entries of a table in its pages.
use Rattle.std.proofs.Common.{◌≡◌, ℕ, zero, suc, ◌+◌, ◌*◌, ◌<◌, ◌≤◌, List, [], ◌∷◌, map, take, length, Option, Some, refl, sym, ◌∙◌, ap, subst, arith}
use Rattle.std.specs.Prelude.{slice_get, option_map}
use Rattle.std.specs.List.{insert, remove}
use Rattle.std.proofs.lemmas.List.FromFn.{fill_by_all, length-map-range_with_len, get_or-map-range_with_len}
use Rattle.std.proofs.lemmas.Option.{slice_get-map, get_or_from_slice_get, slice_get_within}
use Rattle.flat_mem.specs.Memory.{part}
use Rattle.flat_mem.specs.Order.{entry_at, key_at}
use Rattle.flat_mem.specs.Parts.{part-part}
use Rattle.flat_mem.specs.Part.{IsSameBeside, RevealsPart, IsKept}
use Rattle.flat_mem.specs.PartLaws.{others_kept}
use Rattle.flat_mem.specs.declared.part.Part.{Part}
use Rattle.record_table.specs.Table.{place, entry, entries, RevealsEntries}
use Rattle.flat_machine.specs.declared.space.Space.{Space}
use Rattle.projection_laws.specs.Sight.{Interval}
use Rattle.projection_laws.specs.Stored.{bytes_of}
use Rattle.space_tables.specs.Form.{slot_record, interval_record, key_in}
use Rattle.space_tables.specs.Stored.{AreTables}
use Rattle.space_tables.proofs.ReadBack.{get_or_at}

pub record_is : (b : List ℕ) (k : ℕ) → k < 1024 → entry 32 (part b 16384 32768) k ≡ interval_record b k
unfolding place
record_is b k small =
    let at : place 32 k ≡ 32 * k = omega arith in
    let there : 16384 + 32 * k ≡ 32 * (512 + k) = omega arith in
    ap (λ (p : ℕ). part (part b 16384 32768) p 32) at ∙ part-part b 16384 32768 (32 * k) 32 (omega (arith, small)) ∙ ap (λ (p : ℕ). part b p 32) there

pub length-entries : (b : List ℕ) (n : ℕ) → length (entries 32 b n) ≡ n
length-entries b n = length-map-range_with_len (entry 32 b) 0 n

pub entry_of : (b : List ℕ) (n i : ℕ) → i < n → entry_at (entries 32 b n) i ≡ entry 32 b i
entry_of b n i below = get_or-map-range_with_len (entry 32 b) 0 n i i [] below (omega arith)

key_is : (b : List ℕ) (k : ℕ) → take 4 (interval_record b k) ≡ key_in b k
key_is b k = let at : 32 * (512 + k) + 0 ≡ 32 * (512 + k) = omega arith in part-part b (32 * (512 + k)) 32 0 4 (omega arith) ∙ ap (λ (n : ℕ). part b n 4) at

-- the key of an entry is that of the interval
pub key_of : (b : List ℕ) (n i : ℕ) → i < n → n ≤ 1024 → key_at 4 (entries 32 (part b 16384 32768) n) i ≡ key_in b i
key_of b n i below few = ap (take 4) (entry_of (part b 16384 32768) n i below ∙ record_is b i (omega (arith, below, few))) ∙ key_is b i

length-bytes : (xs : List Interval) → length (map bytes_of xs) ≡ length xs
length-bytes [] = refl
length-bytes (x ∷ xs) = ap suc (length-bytes xs)

bytes_at : (xs : List Interval) (k : ℕ) (x : Interval) → slice_get xs k ≡ Some x → entry_at (map bytes_of xs) k ≡ bytes_of x
bytes_at xs k x e = get_or_from_slice_get (map bytes_of xs) k (bytes_of x) [] (slice_get-map bytes_of xs k ∙ ap (option_map bytes_of) e)

-- the entries are the bytes of the intervals
pub entries_are : (b : List ℕ) (slots : List (Option Space)) (xs : List Interval) (n : ℕ) → AreTables b slots xs → length xs ≡ n → n ≤ 1024 → entries 32 (part b 16384 32768) n ≡ map bytes_of xs
entries_are b slots xs n are long few = sym (fill_by_all (entry 32 (part b 16384 32768)) (map bytes_of xs) n [] (length-bytes xs ∙ long) (λ k below. by k below (get_or_at xs k (omega (arith, below, long)))))
  where
    by : (k : ℕ) → k < n → (x : Interval) × (slice_get xs k ≡ Some x) → entry_at (map bytes_of xs) k ≡ entry 32 (part b 16384 32768) k
    by k below (x, e) = bytes_at xs k x e ∙ sym (are.projection k x e) ∙ sym (record_is b k (omega (arith, below, few)))

-- and where they are, the intervals are read there
pub records_are : (b : List ℕ) (xs : List Interval) (n : ℕ) → entries 32 (part b 16384 32768) n ≡ map bytes_of xs → n ≤ 1024 → (k : ℕ) (x : Interval) → slice_get xs k ≡ Some x → interval_record b k ≡ bytes_of x
records_are b xs n same few k x e =
    let long : n ≡ length xs = sym (length-entries (part b 16384 32768) n) ∙ ap length same ∙ length-bytes xs in
    let below : k < n = omega (arith, long, slice_get_within xs k x e) in
    sym (record_is b k (omega (arith, below, few))) ∙ sym (entry_of (part b 16384 32768) n k below) ∙ ap (λ (ys : List (List ℕ)). entry_at ys k) same ∙ bytes_at xs k x e

slot_kept : (w v : List ℕ) → IsSameBeside 32 64 w v → (h : ℕ) → h < 512 → slot_record v h ≡ slot_record w h
slot_kept w v same h below =
    let inside : 32 * h + 32 ≤ 16384 = omega (arith, below) in
    let at : 0 + 32 * h ≡ 32 * h = omega arith in
    ap (λ (n : ℕ). part v n 32) (sym at) ∙ sym (part-part v 0 16384 (32 * h) 32 inside) ∙ ap (λ (b : List ℕ). part b (32 * h) 32) same.prefix ∙ part-part w 0 16384 (32 * h) 32 inside ∙ ap (λ (n : ℕ). part w n 32) at

-- the hierarchy stays where the projection is changed
pub tables_moved : (w v : List ℕ) (slots : List (Option Space)) (xs ys : List Interval) (n : ℕ) → AreTables w slots xs → IsSameBeside 32 64 w v → entries 32 (part v 16384 32768) n ≡ map bytes_of ys → n ≤ 1024
    → AreTables v slots ys
tables_moved w v slots xs ys n are same listed few = record {
  handles = are.handles;
  hierarchy = λ h o e. let within = slice_get_within slots h o e in slot_kept w v same h (omega (arith, within, are.handles)) ∙ are.hierarchy h o e;
  projection = records_are v ys n listed few;
}

pub map_insert : (xs : List Interval) (i : ℕ) (x : Interval) → i ≤ length xs → insert (map bytes_of xs) i (bytes_of x) ≡ map bytes_of (insert xs i x)
map_insert [] zero x l = refl
map_insert [] (suc i) x l = absurd (omega (arith, l))
map_insert (y ∷ ys) zero x l = refl
map_insert (y ∷ ys) (suc i) x l = ap (λ (bs : List (List ℕ)). bytes_of y ∷ bs) (map_insert ys i x (omega (arith, l)))

pub map_remove : (xs : List Interval) (i : ℕ) → i < length xs → remove (map bytes_of xs) i ≡ map bytes_of (remove xs i)
map_remove [] i l = absurd (omega (arith, l))
map_remove (y ∷ ys) zero l = refl
map_remove (y ∷ ys) (suc i) l = ap (λ (bs : List (List ℕ)). bytes_of y ∷ bs) (map_remove ys i (omega (arith, l)))

module _ {M X : Type 0} (reveals : M → List ℕ → Type 0) (beside : M → M → Type 0) (once : (m : M) (w v : List ℕ) → reveals m w → reveals m v → w ≡ v) where
  -- what the whole memory reveals, where the table in its pages lists entries
  pub revealed_whole : (p q : Part M X) (n : ℕ) (w : List ℕ) (ys : List (List ℕ)) → p.first ≡ 32 → p.pages ≡ 64 → IsKept reveals beside p q → reveals p.mem w → RevealsEntries 32 (RevealsPart reveals q) n ys
      → (v : List ℕ) × reveals q.mem v × IsSameBeside 32 64 w v × (entries 32 (part v 16384 32768) n ≡ ys)
  revealed_whole p q n w ys first pages kept before listed =
      let revealed = listed.revealed in
      let first_now : q.first ≡ 32 = sym kept.first ∙ first in
      let pages_now : q.pages ≡ 64 = sym kept.pages ∙ pages in
      let bytes_are : listed.bytes ≡ part revealed.whole 16384 32768 = rw (first_now, pages_now) at revealed.is in (
        revealed.whole,
        revealed.revealed,
        rw (first, pages) at (others_kept reveals beside once p q w revealed.whole kept before revealed.revealed),
        rw bytes_are at listed.are,
      )
