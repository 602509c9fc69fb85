-- Where the first colon of a word stands.
use Rattle.std.proofs.Common.{◌≡◌, ℕ, ◌<◌, Bool, false, eqb, List, [], ◌∷◌, ◌++◌, length, refl, ap, arith}
use Rattle.std.specs.List.{position_or_len, before_first, after_first}
use Rattle.std.specs.Str.Parse.{AllDigits}
use Rattle.std.proofs.Math.Seq.{take-append_seam, drop-append-add}
use Rattle.std.proofs.lemmas.List.{length-append}
use Rattle.std.proofs.lemmas.Str.Parse.{digit_from_value}
use Rattle.image_disk.specs.ImageWord.{IsCount, IsPath}

abbrev is_colon : ℕ → Bool
is_colon b = eqb b 58

-- a digit is no colon
digit_no_colon : (c : ℕ) (cs : List ℕ) → AllDigits 10 (c ∷ cs) → is_colon c ≡ false
digit_no_colon c cs digits = let range = digit_from_value c digits.0 in grind arith

-- the first colon after digits
position_at : (count path : List ℕ) → AllDigits 10 count → position_or_len is_colon (count ++ 58 ∷ path) ≡ length count
position_at [] path digits = refl
position_at (c ∷ cs) path digits = rw (digit_no_colon c cs digits) (omega (arith, position_at cs path digits.1))

-- digits and a colon are cut after the digits
record IsCut (word count path : List ℕ) : Type 0 where
  before : before_first is_colon word ≡ count
  after : after_first is_colon word ≡ path
  inside : position_or_len is_colon word < length word

cut_at : (word count path : List ℕ) → word ≡ count ++ 58 ∷ path → AllDigits 10 count → IsCut word count path
cut_at word count path whole digits = rw whole (record {
  before = rw (position_at count path digits) (take-append_seam count (58 ∷ path));
  after = rw (position_at count path digits) (drop-append-add count (58 ∷ path) 1);
  inside = omega (arith, position_at count path digits, length-append count (58 ∷ path));
})

-- a word without a colon is a path
pub path_without_colon : (word : List ℕ) → position_or_len is_colon word ≡ length word → IsPath word
path_without_colon word none = record {
  no_memory = λ n memory. let cut = cut_at word [] memory.count memory.whole tt in omega (arith, cut.inside);
  not_new = λ n path new. let cut = cut_at word new.count path new.whole new.counts.digits.1 in omega (arith, cut.inside);
}

-- so is one that begins with a colon, but not with a number after it
pub path_after_colon : (word count : List ℕ) → count ≡ after_first is_colon word → length (before_first is_colon word) ≡ 0
    → ((n : ℕ) → ¬ IsCount count n) → IsPath word
path_after_colon word count is empty no_count = record {
  no_memory = λ n memory. let cut = cut_at word [] memory.count memory.whole tt in no_count n (rw is (rw cut.after memory.counts));
  not_new = λ n path new. let cut = cut_at word new.count path new.whole new.counts.digits.1 in omega (arith, new.counts.digits.0, ap length cut.before);
}

-- and one with something else before its first colon
pub path_before_colon : (word count : List ℕ) → count ≡ before_first is_colon word → 0 < length count
    → ((n : ℕ) → ¬ IsCount count n) → IsPath word
path_before_colon word count is some no_count = record {
  no_memory = λ n memory. let cut = cut_at word [] memory.count memory.whole tt in omega (arith, some, ap length is, ap length cut.before);
  not_new = λ n path new. let cut = cut_at word new.count path new.whole new.counts.digits.1 in no_count n (rw is (rw cut.before new.counts));
}
