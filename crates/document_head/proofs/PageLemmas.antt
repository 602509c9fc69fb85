-- Bytes that are written into a page of zeros, and read from a head.
use Rattle.std.proofs.Common.{◌≡◌, ◌<◌, ◌^◌, ◌+◌, ◌-◌, ◌++◌, ◌∷◌, ℕ, List, sym, refl, arith, length, replicate, take, append_assoc, get_or}
use Rattle.std.proofs.lemmas.List.{take_at, drop_at, drop-replicate}
use borrow.Rule.Slice.PartMut.{put_mid, mid_of}
use Rattle.document_head.specs.Head.{head_page, before_name}
use Rattle.byteorder.specs.Endian.{big_number}
use Rattle.byteorder.specs.Numbers.{big_number-reads_back}

-- the bytes stand after the front, and zeros after them
pub written : (front bytes : List ℕ) (place n : ℕ) → length front ≡ place → n ≡ length bytes
    → put_mid place n (front ++ replicate (512 - place) 0) bytes
    ≡ (front ++ bytes) ++ replicate (512 - (place + length bytes)) 0
written front bytes place n long same =
    let count : 512 - place - n ≡ 512 - (place + length bytes) = omega (arith, same) in
    rw (take_at front (replicate (512 - place) 0) place long) (
    rw (drop_at front (replicate (512 - place) 0) place long) (
    rw (drop-replicate {X = ℕ} n (512 - place) 0) (
    rw count (
    sym (append_assoc front bytes (replicate (512 - (place + length bytes)) 0))))))

pub bytes_found : (bytes : ℕ) (name : List ℕ) → bytes < 2 ^ 64
    → big_number 8 (mid_of 8 504 (head_page bytes name)) ≡ bytes
unfolding before_name
bytes_found bytes name fits =
    big_number-reads_back 8 bytes (take 496 ((length name ∷ name) ++ replicate (512 - (17 + length name)) 0)) fits

pub count_found : (bytes : ℕ) (name : List ℕ) → get_or (head_page bytes name) 16 0 ≡ length name
unfolding before_name
count_found bytes name = refl

pub name_found : (bytes : ℕ) (name : List ℕ) → mid_of 17 (17 + length name - 17) (head_page bytes name) ≡ name
unfolding before_name
name_found bytes name = take_at name (replicate (512 - (17 + length name)) 0) _ (omega arith)
