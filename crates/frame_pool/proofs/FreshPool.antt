-- A new pool.
use Rattle.std.proofs.Common.{◌≡◌, ◌<◌, ◌≤◌, ◌+◌, ◌∙◌, ℕ, Option, Some, None, refl, ap, sym, zero, suc, length, get_or, arith}
use Rattle.std.specs.Prelude.{replicate}
use Rattle.std.specs.List.{range_with_len}
use Rattle.std.proofs.lemmas.List.{length-replicate, get_or-replicate}
use Rattle.std.proofs.lemmas.List.FromFn.{get_or-range_with_len, length-range_with_len}
use Rattle.std.proofs.lemmas.Option.{none-some}
use Rattle.frame_pool.specs.Frames.{Slots, frame_at}
use Rattle.frame_pool.specs.FrameLaws.{frame_of_has}
use Rattle.frame_pool.specs.Lists.{fresh_lists}
use Rattle.frame_pool.specs.Index.{bucket_in, bucket_at, IsLastBelow}
use Rattle.frame_pool.specs.Pool.{IsPool}

abbrev empty_slots : ℕ → Slots
empty_slots n = replicate n None

none_there : (n i : ℕ) → frame_at (empty_slots n) i ≡ None
none_there zero i = refl
none_there (suc n) zero = refl
none_there (suc n) (suc i) = none_there n i

no_bucket : (n i bucket : ℕ) → bucket_at (empty_slots n) i ≡ Some bucket → ⊥
no_bucket n i bucket is = none-some bucket (sym (ap (bucket_in (length (empty_slots n))) (none_there n i)) ∙ is)

none_last : (n bucket limit : ℕ) → IsLastBelow (bucket_at (empty_slots n)) bucket limit None
none_last n bucket limit = record { within = tt; covers = λ other below is. no_bucket n other bucket is }

in_order : (n i : ℕ) → i < n → get_or (range_with_len 0 n) i 0 ≡ i
in_order n i below = let own : 0 + i ≡ i = omega arith in get_or-range_with_len 0 n i 0 below ∙ own

pub fresh_pool : (n : ℕ) → 24 ≤ n → n ≤ 4096 → IsPool (fresh_lists n) n
fresh_pool n least most =
    let size : length (empty_slots n) ≡ n = length-replicate n None in
    record {
      least = rw size least;
      most = rw size most;
      sized = record {
        heads = length-replicate n None ∙ sym size;
        nexts = length-replicate n None ∙ sym size;
        orders = length-range_with_len 0 n ∙ sym size;
        positions = length-range_with_len 0 n ∙ sym size;
      };
      index = record {
        heads = λ bucket below. rw (get_or-replicate {A = Option ℕ} n bucket None None (rw (sym size) below)) (none_last n bucket (length (empty_slots n)));
        links = λ slot bucket is. absurd (no_bucket n slot bucket is);
      };
      order = record {
        slots = λ place below.
            let low : place < n = rw (sym size) below in
            rw (in_order n place low) (below, in_order n place low);
        places = λ slot below.
            let low : slot < n = rw (sym size) below in
            rw (in_order n slot low) (below, in_order n slot low);
      };
      first_empties = record {
        few = rw size (omega arith);
        empty = λ slot below low. none_there n slot;
        placed = λ slot below is.
            let low : slot < n = rw (sym size) below in
            rw (in_order n slot low) low;
      };
      distinct = λ i j f g has has2 ids pages. absurd (none-some f (sym (none_there n i) ∙ frame_of_has (empty_slots n) i f has));
      pages = λ i f has. absurd (none-some f (sym (none_there n i) ∙ frame_of_has (empty_slots n) i f has));
    }
