-- The text of a reply is one line, and so many line feeds are so many replies.
use Rattle.std.proofs.Common.{◌≡◌, ℕ, zero, suc, ◌+◌, ◌/◌, ◌%◌, Bool, true, false, not, nat_lt, nat_eq, List, [], ◌∷◌, ◌++◌, refl, sym, ◌∙◌, ap, append_assoc, length, flat_map, slice_index, decimal, codes, arith}
use Rattle.std.specs.Prelude.{if◌then◌else◌}
use Rattle.std.specs.List.{list_all}
use Rattle.std.specs.Fmt.{digits, digits_onto, digit_glyph}
use Rattle.std.specs.Int.{to_be_bytes, w64}
use Rattle.std.proofs.lemmas.Bool.{and_from, and_parts, eq-eqb, ne_eqb, true≢false}
use Rattle.std.proofs.lemmas.List.Sums.{AllPass-from_list_all}
use Rattle.hex.specs.Hex.{encode_with, encode_lower, lower_digits}
use Rattle.flat_machine.specs.declared.call.Reply.{Reply}
use Rattle.flat_machine.specs.declared.call.Reply.TheVariants as reply
use Rattle.flat_machine.specs.declared.call.Refusal.{Refusal}
use Rattle.flat_machine.specs.declared.call.Refusal.TheVariants as why
use Rattle.flat_machine.specs.Text.{text, reply_text, refusal_text}
use Rattle.flat_machine.specs.Laws.{RepliesAreLines, TranscriptsCount}

-- the byte is no line feed
abbrev no_feed : ℕ → Bool
no_feed b = not (nat_eq b 10)

-- no line feed is in the text
abbrev IsPlain : List ℕ → Type 0
IsPlain xs = list_all no_feed xs ≡ true

both : (xs ys : List ℕ) → IsPlain xs → IsPlain ys → IsPlain (xs ++ ys)
both [] ys p q = q
both (x ∷ xs) ys p q = let parts = and_parts (no_feed x) (list_all no_feed xs) p in and_from _ _ parts.0 (both xs ys parts.1 q)

either : (b : Bool) (xs ys : List ℕ) → IsPlain xs → IsPlain ys → IsPlain (if b then xs else ys)
either true xs ys p q = p
either false xs ys p q = q

-- decimal digits, of any number

glyph_plain : (d : ℕ) → no_feed (digit_glyph false d) ≡ true
glyph_plain d = by (nat_lt d 10)
  where
    by : (b : Bool) → no_feed (if b then 48 + d else 87 + d) ≡ true
    by true = ap not (ne_eqb (48 + d) 10 (λ e. omega (arith, e)))
    by false = ap not (ne_eqb (87 + d) 10 (λ e. omega (arith, e)))

onto_plain : (k n : ℕ) (acc : List ℕ) → IsPlain acc → IsPlain (digits_onto k 10 false n acc)
onto_plain zero n acc p = p
onto_plain (suc k) n acc p =
    let more = and_from _ _ (glyph_plain (n % 10)) p in
    either (nat_eq (n / 10) 0) (digit_glyph false (n % 10) ∷ acc) (digits_onto k 10 false (n / 10) (digit_glyph false (n % 10) ∷ acc)) more
    (onto_plain k (n / 10) (digit_glyph false (n % 10) ∷ acc) more)

decimal_plain : (n : ℕ) → IsPlain (decimal n)
unfolding digits
decimal_plain n = onto_plain 64 n [] refl

-- hex digits, of any numbers: past the table a digit is 0

read_plain : (xs : List ℕ) → IsPlain xs → (i : ℕ) → no_feed (slice_index xs i) ≡ true
read_plain [] p i = refl
read_plain (x ∷ xs) p zero = (and_parts (no_feed x) (list_all no_feed xs) p).0
read_plain (x ∷ xs) p (suc i) = read_plain xs (and_parts (no_feed x) (list_all no_feed xs) p).1 i

hex_plain : (bytes : List ℕ) → IsPlain (encode_lower bytes)
unfolding encode_with
hex_plain [] = refl
hex_plain (b ∷ bytes) =
    and_from _ _ (read_plain lower_digits refl (b / 16)) (and_from _ _ (read_plain lower_digits refl (b % 16)) (hex_plain bytes))

-- a text, and then a number
with_number : (xs : List ℕ) (n : ℕ) → IsPlain xs → IsPlain (xs ++ decimal n)
with_number xs n p = both xs (decimal n) p (decimal_plain n)

-- a text, and then a space and a number
with_next : (xs : List ℕ) (n : ℕ) → IsPlain xs → IsPlain (xs ++ codes " " ++ decimal n)
with_next xs n p = with_number (xs ++ codes " ") n (both xs (codes " ") p refl)

-- the words of refusals and replies

refusal_plain : (w : Refusal) → IsPlain (refusal_text w)
refusal_plain why.Syntax = refl
refusal_plain why.Space = refl
refusal_plain why.File = refl
refusal_plain why.Size = refl
refusal_plain why.Full = refl
refusal_plain why.Spaces = refl
refusal_plain why.Gap = refl
refusal_plain why.Range = refl
refusal_plain why.Children = refl
refusal_plain (why.Mapped handle) = with_number (codes "mapped ") handle refl
refusal_plain why.Window = refl
refusal_plain why.Immutable = refl
refusal_plain why.NotMapped = refl
refusal_plain (why.NoMap page) = with_number (codes "nomap ") page refl
refusal_plain (why.ReadOnly page) = with_number (codes "readonly ") page refl
refusal_plain (why.FileMapped handle) = with_number (codes "filemapped ") handle refl
refusal_plain why.Root = refl
refusal_plain why.Ids = refl

reply_plain : (r : Reply) → IsPlain (reply_text r)
reply_plain reply.Done = refl
reply_plain (reply.File id) = both (codes "file ") (encode_lower (to_be_bytes w64 id)) refl (hex_plain (to_be_bytes w64 id))
reply_plain reply.Nothing = refl
reply_plain (reply.Attributes pages kind permanent immutable) =
    let prefix : List ℕ = codes "attr " ++ decimal pages ++ codes " " ++ decimal kind in
    let plain : IsPlain prefix = with_next (codes "attr " ++ decimal pages) kind (with_number (codes "attr ") pages refl) in
    let life : List ℕ = if permanent then codes " perm" else codes " temp" in
    let change : List ℕ = if immutable then codes " immutable" else codes " mutable" in
    both (prefix ++ life) change (both prefix life plain (either permanent (codes " perm") (codes " temp") refl refl))
    (either immutable (codes " immutable") (codes " mutable") refl refl)
reply_plain (reply.Volume capacity free) = with_next (codes "volume " ++ decimal capacity) free (with_number (codes "volume ") capacity refl)
reply_plain (reply.Space handle first) = with_next (codes "space " ++ decimal handle) first (with_number (codes "space ") handle refl)
reply_plain (reply.Place handle first pages) =
    with_next (codes "where " ++ decimal handle ++ codes " " ++ decimal first) pages
    (with_next (codes "where " ++ decimal handle) first (with_number (codes "where ") handle refl))
reply_plain (reply.Bytes bytes) = both (codes "bytes ") (encode_lower bytes) refl (hex_plain bytes)
reply_plain (reply.Refused w) = both (codes "error ") (refusal_text w) refl (refusal_plain w)

-- what passes the test is not 10
not_ten : (b : ℕ) → no_feed b ≡ true → b ≡ 10 → ⊥
not_ten b p e = true≢false (sym p ∙ ap not (eq-eqb b 10 e))

pub replies_are_lines : RepliesAreLines
unfolding text
replies_are_lines r = record {
  line = reply_text r;
  ends = refl;
  misses = λ k d l. not_ten _ (AllPass-from_list_all no_feed (reply_text r) (reply_plain r) k d l);
}

-- how many line feeds are in the bytes
abbrev feeds : List ℕ → ℕ
feeds [] = 0
feeds (b ∷ bs) = if no_feed b then feeds bs else suc (feeds bs)

feeds_past : (xs rest : List ℕ) → IsPlain xs → feeds (xs ++ rest) ≡ feeds rest
feeds_past [] rest p = refl
feeds_past (x ∷ xs) rest p =
    let parts = and_parts (no_feed x) (list_all no_feed xs) p in
    ap (λ b. if b then feeds (xs ++ rest) else suc (feeds (xs ++ rest))) parts.0 ∙ feeds_past xs rest parts.1

feeds_text : (r : Reply) (rest : List ℕ) → feeds (text r ++ rest) ≡ suc (feeds rest)
unfolding text
feeds_text r rest = ap feeds (append_assoc (reply_text r) (10 ∷ []) rest) ∙ feeds_past (reply_text r) (10 ∷ rest) (reply_plain r)

feeds_all : (rs : List Reply) → feeds (flat_map text rs) ≡ length rs
feeds_all [] = refl
feeds_all (r ∷ rs) = feeds_text r (flat_map text rs) ∙ ap suc (feeds_all rs)

pub transcripts_count : TranscriptsCount
transcripts_count m m' lines lines' k k' bytes t t' =
    sym t.one_a_line ∙ sym (feeds_all t.replies) ∙ ap feeds (sym t.text_is ∙ t'.text_is) ∙ feeds_all t'.replies ∙ t'.one_a_line
