-- What was put is what is got.
use Rattle.std.proofs.Common.{◌≡◌, ◌∙◌, ℕ, suc, ◌+◌, ◌-◌, ◌<◌, ◌^◌, refl, sym, ap, subst, arith, List, [], ◌∷◌, ◌++◌, length, length-append, replicate, Some}
use Rattle.std.proofs.lemmas.List.{length-replicate}
use Rattle.std.specs.Prelude.{slice_get, MatchOption}
use borrow.Rule.Slice.PartMut.{mid_of}
use Rattle.byteorder.specs.Endian.{big_number}
use Rattle.document_head.specs.Head.{before_name, head_page}
use Rattle.document_head.specs.Says.{Says}
use Rattle.document_head.specs.declared.head.Head.{Head}
use Rattle.document_head.proofs.PageLemmas.{bytes_found, name_found}
use Rattle.flat_machine.specs.File.{File, Cell}
use Rattle.documents.specs.Contents.{Holds, Reads}
use Rattle.documents.specs.Laws.{WhatIsPutIsGot}
use Rattle.documents.specs.Stands.{IsGot}

-- lists of one length that agree at each place
abbrev pub Agree : List ℕ → List ℕ → Type 0
Agree xs ys = (k b c : ℕ) → slice_get xs k ≡ Some b → slice_get ys k ≡ Some c → b ≡ c

pub same_lists : (xs ys : List ℕ) → length xs ≡ length ys → Agree xs ys → xs ≡ ys
same_lists [] [] long agree = refl
same_lists [] (y ∷ ys) long agree = absurd (omega (arith, long))
same_lists (x ∷ xs) [] long agree = absurd (omega (arith, long))
same_lists (x ∷ xs) (y ∷ ys) long agree =
    let first = agree 0 x y refl refl in
    let rest = same_lists xs ys (omega (arith, long)) (λ k b c p q. agree (suc k) b c p q) in
    λ i. first i ∷ rest i

-- what a file holds is what is read of it
pub read_agrees : (f : File) (from : ℕ) (read held : List ℕ) → Reads f from read → Holds f from held → Agree read held
read_agrees f from read held reads holds k b c p q =
    subst (λ (x : Cell). MatchOption x (b < 256) (λ d. b ≡ d)) (holds k c q) (reads k b p)

before_long : (bytes count : ℕ) → length (before_name bytes count) ≡ 17
unfolding before_name
before_long bytes count = refl

pub page_long : (bytes : ℕ) (name : List ℕ) → length (head_page bytes name) ≡ 17 + length name + (512 - (17 + length name))
page_long bytes name =
    let zeros : List ℕ = replicate (512 - (17 + length name)) 0 in
    omega (
      arith,
      length-append (before_name bytes (length name) ++ name) zeros,
      length-append (before_name bytes (length name)) name,
      before_long bytes (length name),
      length-replicate {A = ℕ} (512 - (17 + length name)) 0,
    )

count_at : (bytes : ℕ) (name : List ℕ) → slice_get (head_page bytes name) 16 ≡ Some (length name)
unfolding before_name
count_at bytes name = refl

-- pages of heads that agree say the same
one_head : (a b : ℕ) (xs ys : List ℕ) → a < 2 ^ 64 → b < 2 ^ 64 → Agree (head_page a xs) (head_page b ys) → (a ≡ b) × (xs ≡ ys)
one_head a b xs ys a_fits b_fits agree =
    let long : length xs ≡ length ys = agree 16 (length xs) (length ys) (count_at a xs) (count_at b ys) in
    let pages : length (head_page a xs) ≡ length (head_page b ys) =
    page_long a xs ∙ ap (λ (n : ℕ). 17 + n + (512 - (17 + n))) long ∙ sym (page_long b ys) in
    let same = same_lists (head_page a xs) (head_page b ys) pages agree in (
      sym (bytes_found a xs a_fits) ∙ ap (λ (p : List ℕ). big_number 8 (mid_of 8 504 p)) same ∙ bytes_found b ys b_fits,
      sym (name_found a xs) ∙ (λ i. mid_of 17 (17 + long i - 17) (same i)) ∙ name_found b ys,
    )

-- what is got of a file that holds the head and the bytes of a document
pub what_is_held_is_got : (f : File) (name bytes got : List ℕ) (head : Head) → length bytes < 2 ^ 64 → head.bytes < 2 ^ 64
    → Holds f 0 (head_page (length bytes) name) → Holds f 512 bytes → IsGot f head got → (got ≡ bytes) × Says (length bytes) name head
what_is_held_is_got f name bytes got head fits head_fits first body is =
    let one = one_head head.bytes (length bytes) head.name.bytes name head_fits fits
    (read_agrees f 0 (head_page head.bytes head.name.bytes) (head_page (length bytes) name) is.head_read first) in
    (same_lists got bytes (is.count ∙ one.0) (read_agrees f 512 got bytes is.body body), one)

pub what_is_put_is_got : WhatIsPutIsGot
what_is_put_is_got f name bytes got head fits head_fits document is =
    what_is_held_is_got f name bytes got head fits head_fits document.head document.body is
