-- A run and its record go into each other.
use Rattle.std.proofs.Common.{◌≡◌, ℕ, zero, suc, ◌+◌, ◌<◌, ◌^◌, List, [], ◌∷◌, ◌++◌, length, get_or, take, drop, refl, sym, subst, ◌∙◌, ap, arith}
use Rattle.std.proofs.lemmas.List.{drop_more, drop_all}
use Rattle.std.proofs.lemmas.Nat.{be_bytes_8, be_bytes_4, from_be_bytes-to_be_bytes_8, from_be_bytes-to_be_bytes_4}
use Rattle.std.specs.Int.{w32, w64, to_be_bytes, from_be_bytes}
use Rattle.file_map.specs.declared.run.Run.{Run}
use Rattle.file_map.specs.Run.{IsRun, IsRecord, run_bytes, run_in, key_bytes}

-- n elements from index i on
abbrev reads : ℕ → ℕ → List ℕ → List ℕ
reads i zero b = []
reads i (suc n) b = get_or b i 0 ∷ reads (suc i) n b

reads-all : (i n : ℕ) (b : List ℕ) → length b ≡ i + n → reads i n b ≡ drop i b
reads-all i zero b len = sym (drop_all i b (omega arith))
reads-all i (suc n) b len =
    let more : drop i b ≡ get_or b i 0 ∷ drop (i + 1) b = drop_more b i 0 (omega arith) in
    let same : i + 1 ≡ suc i = omega arith in
    let next : drop (i + 1) b ≡ drop (suc i) b = ap (λ (k : ℕ). drop k b) same in
    ap (λ (l : List ℕ). get_or b i 0 ∷ l) (reads-all (suc i) n b (omega arith) ∙ sym next) ∙ sym more

pub last_four : (b : List ℕ) → length b ≡ 24 → drop 20 b ≡ get_or b 20 0 ∷ get_or b 21 0 ∷ get_or b 22 0 ∷ get_or b 23 0 ∷ []
last_four b len = sym (reads-all 20 4 b len)

pub rest_zero : (b : List ℕ) → length b ≡ 24 → drop 20 b ≡ 0 ∷ 0 ∷ 0 ∷ 0 ∷ [] → from_be_bytes w32 (get_or b 20 0 ∷ get_or b 21 0 ∷ get_or b 22 0 ∷ get_or b 23 0 ∷ []) ≡ 0
rest_zero b len is = ap (from_be_bytes w32) (sym (last_four b len) ∙ is)

module _ (b : List ℕ) (len : length b ≡ 24) (bytes : (k : ℕ) → get_or b k 0 < 256) where
  part_bytes : (i n : ℕ) (k : ℕ) → get_or (reads i n b) k 0 < 256
  part_bytes i zero k = omega arith
  part_bytes i (suc n) zero = bytes i
  part_bytes i (suc n) (suc k) = part_bytes (suc i) n k

  pub zero_rest : from_be_bytes w32 (get_or b 20 0 ∷ get_or b 21 0 ∷ get_or b 22 0 ∷ get_or b 23 0 ∷ []) ≡ 0 → drop 20 b ≡ 0 ∷ 0 ∷ 0 ∷ 0 ∷ []
  zero_rest is = last_four b len ∙ sym (be_bytes_4 (reads 20 4 b) 0 refl (part_bytes 20 4) (sym is))

  -- a record whose last bytes are zeros is that of the run that it reveals
  pub bytes_back : (r : Run) → r.id ≡ from_be_bytes w64 (reads 0 8 b) → r.first ≡ from_be_bytes w32 (reads 8 4 b) → r.pages ≡ from_be_bytes w32 (reads 12 4 b)
      → r.sector ≡ from_be_bytes w32 (reads 16 4 b) → drop 20 b ≡ 0 ∷ 0 ∷ 0 ∷ 0 ∷ [] → run_bytes r ≡ b
  unfolding run_bytes
  bytes_back r id first pages sector rest =
      let e8 : to_be_bytes w64 r.id ≡ reads 0 8 b = be_bytes_8 (reads 0 8 b) r.id refl (part_bytes 0 8) id in
      let f4 : to_be_bytes w32 r.first ≡ reads 8 4 b = be_bytes_4 (reads 8 4 b) r.first refl (part_bytes 8 4) first in
      let p4 : to_be_bytes w32 r.pages ≡ reads 12 4 b = be_bytes_4 (reads 12 4 b) r.pages refl (part_bytes 12 4) pages in
      let s4 : to_be_bytes w32 r.sector ≡ reads 16 4 b = be_bytes_4 (reads 16 4 b) r.sector refl (part_bytes 16 4) sector in
      let l4 : 0 ∷ 0 ∷ 0 ∷ 0 ∷ [] ≡ reads 20 4 b = sym (reads-all 20 4 b len ∙ rest) in
      (λ i. e8 i ++ f4 i ++ p4 i ++ s4 i ++ l4 i) ∙ reads-all 0 24 b len

-- the run is read back from its record
pub read_back : (r : Run) → r.id < 2 ^ 64 → r.first < 2 ^ 32 → r.pages < 2 ^ 32 → r.sector < 2 ^ 32 → run_in (run_bytes r) ≡ r
unfolding run_bytes run_in
read_back r id first pages sector =
    λ i. record {
      id = from_be_bytes-to_be_bytes_8 r.id id i;
      first = from_be_bytes-to_be_bytes_4 r.first first i;
      pages = from_be_bytes-to_be_bytes_4 r.pages pages i;
      sector = from_be_bytes-to_be_bytes_4 r.sector sector i;
    }

-- on a volume whose sectors are counted by 4 bytes, that is so of each run in form
pub run_back : (n : ℕ) (r : Run) → n < 2 ^ 32 → IsRun n r → run_in (run_bytes r) ≡ r
run_back n r few form = read_back r form.id_fits (omega (arith, form.some, form.pages_fit)) (omega (arith, form.inside, few)) (omega (arith, form.some, form.inside, few))

pub record_of_run : (n : ℕ) (r : Run) → n < 2 ^ 32 → IsRun n r → IsRecord n (run_bytes r)
record_of_run n r few form = record {
  form = subst (λ (x : Run). IsRun n x) (sym (run_back n r few form)) form;
  same = sym (ap run_bytes (run_back n r few form));
}

-- the last bytes of a record in form are zeros
pub zeros_at_end : (n : ℕ) (b : List ℕ) → IsRecord n b → drop 20 b ≡ 0 ∷ 0 ∷ 0 ∷ 0 ∷ []
unfolding run_bytes
zeros_at_end n b is = ap (drop 20) is.same

pub key_of_run : (r : Run) → take 12 (run_bytes r) ≡ key_bytes r.id r.first
unfolding run_bytes key_bytes
key_of_run r = refl

-- a record that is not that of a run in form
pub not_record : (n : ℕ) (b : List ℕ) (r : Run) → r ≡ run_in b → (IsRun n r → ⊥) → IsRecord n b → ⊥
not_record n b r is not_form record_is = not_form (subst (λ (x : Run). IsRun n x) (sym is) record_is.form)
