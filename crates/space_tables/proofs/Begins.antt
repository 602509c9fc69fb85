-- Tables where no space stands but the root.
use Rattle.std.proofs.Common.{◌≡◌, ◌≢◌, ◌⊎◌, inl, inr, ℕ, zero, suc, ◌+◌, ◌*◌, ◌<◌, ◌≤◌, List, [], ◌∷◌, length, Option, Some, None, replicate, refl, sym, ◌∙◌, ap, arith}
use Rattle.std.specs.Prelude.{slice_get, slice_set}
use Rattle.std.proofs.lemmas.Bool.{cases_eq}
use Rattle.std.proofs.lemmas.Option.{same_Some, none-some}
use Rattle.flat_mem.specs.Memory.{part, overwritten}
use Rattle.flat_mem.specs.Parts.{part-overwritten_same}
use Rattle.flat_machine.specs.declared.space.Space.{Space}
use Rattle.flat_machine.specs.Space.{root}
use Rattle.flat_machine.specs.Next.{put_space}
use Rattle.projection_laws.specs.Sight.{Interval}
use Rattle.projection_laws.specs.Slots.{listed, AreNumbered}
use Rattle.projection_laws.specs.Stored.{bytes_of, slot_bytes}
use Rattle.projection_laws.proofs.SlotLemmas.{slot_written}
use Rattle.projection_laws.proofs.RootLemmas.{root_is_one}
use Rattle.space_tables.specs.Form.{slot_record, interval_record}
use Rattle.space_tables.specs.Stored.{AreTables, HoldTables, RevealSpaces}
use Rattle.space_tables.specs.Begin.{root_interval, bare_slots}
use Rattle.space_tables.proofs.Writes.{other}

-- The records of the handles below this one are zeros, and the first interval is the root's.
pub record IsBare (reveals : List ℕ → Type 0) (n : ℕ) : Type 0 where
  pub bytes : List ℕ
  pub revealed : reveals bytes
  pub zeros : (j : ℕ) → j < n → slot_record bytes j ≡ replicate 32 0
  pub interval : interval_record bytes 0 ≡ bytes_of root_interval

pub bare_start : (reveals : List ℕ → Type 0) (b r : List ℕ) → reveals (overwritten b (32 * 512) r) → r ≡ bytes_of root_interval → 49152 ≤ length b → IsBare reveals 0
bare_start reveals b r revealed is long = record {
  bytes = overwritten b (32 * 512) r;
  revealed = revealed;
  zeros = λ j below. absurd (omega (arith, below));
  interval = part-overwritten_same b r (32 * 512) 32 (ap length is) (omega (arith, ap length is, long)) ∙ is;
}

pub bare_more : (reveals now : List ℕ → Type 0) (n : ℕ) (h : IsBare reveals n) → n < 512 → 49152 ≤ length h.bytes → now (overwritten h.bytes (32 * n) (replicate 32 0)) → IsBare now (n + 1)
bare_more reveals now n h below long revealed = record {
  bytes = overwritten h.bytes (32 * n) (replicate 32 0);
  revealed = revealed;
  zeros = λ j less. by j less (cases_eq j n);
  interval = other h.bytes (replicate 32 0) n (512 + 0) refl (omega (arith, below, long)) (λ q. omega (arith, q, below)) ∙ h.interval;
}
  where
    by : (j : ℕ) → j < n + 1 → (j ≡ n) ⊎ (j ≢ n) → slot_record (overwritten h.bytes (32 * n) (replicate 32 0)) j ≡ replicate 32 0
    by j less (inl same) = ap (λ (i : ℕ). part (overwritten h.bytes (32 * n) (replicate 32 0)) (32 * i) 32) same ∙ part-overwritten_same h.bytes (replicate 32 0) (32 * n) 32 refl (omega (arith, below, long))
    by j less (inr apart) = other h.bytes (replicate 32 0) n j refl (omega (arith, below, long)) (λ q. apart (sym q)) ∙ h.zeros j (omega (arith, less, apart))

length_bare : (n : ℕ) → length (bare_slots n) ≡ n
unfolding bare_slots
length_bare zero = refl
length_bare (suc n) = ap suc (length_bare n)

bare_is_none : (n h : ℕ) (o : Option Space) → slice_get (bare_slots n) h ≡ Some o → (h < n) × (o ≡ None)
unfolding bare_slots
bare_is_none zero h o e = absurd (none-some o e)
bare_is_none (suc n) zero o e = (omega arith, sym (same_Some None o e))
bare_is_none (suc n) (suc h) o e = let r = bare_is_none n h o e in (omega (arith, r.0), r.1)

bare_first : (n : ℕ) → slice_get (bare_slots (suc n)) 0 ≡ Some None
unfolding bare_slots
bare_first n = refl

none_listed : (n : ℕ) → listed (bare_slots n) ≡ []
unfolding bare_slots
none_listed zero = refl
none_listed (suc n) = none_listed n

none_numbered : (m n : ℕ) → AreNumbered m (bare_slots n)
unfolding bare_slots
none_numbered m zero = tt
none_numbered m (suc n) = (tt, none_numbered (suc m) n)

pub bare_end : (reveals : List ℕ → Type 0) (n : ℕ) → n ≡ 512 → IsBare reveals n → HoldTables reveals (bare_slots 512) (root_interval ∷ [])
bare_end reveals n all h = record {
  bytes = h.bytes;
  revealed = h.revealed;
  are = record {
    handles = length_bare 512;
    hierarchy = λ j o e. let r = bare_is_none 512 j o e in h.zeros j (omega (arith, r.0, all)) ∙ sym (zeros o r.1);
    projection = one;
  };
}
  where
    zeros : (o : Option Space) → o ≡ None → slot_bytes o ≡ replicate 32 0
    zeros o e = ap slot_bytes e

    one : (k : ℕ) (x : Interval) → slice_get (root_interval ∷ []) k ≡ Some x → interval_record h.bytes k ≡ bytes_of x
    one zero x e = h.interval ∙ ap bytes_of (same_Some root_interval x e)
    one (suc k) x e = absurd (none-some x e)

pub begins : (reveals : List ℕ → Type 0) → HoldTables reveals (slice_set (bare_slots 512) 0 (Some root)) (root_interval ∷ []) → RevealSpaces reveals 1 (root ∷ [])
begins reveals h =
    let written = slot_written (bare_slots 512) root (none_numbered 0 512) (bare_first 511) in
    let spaces : listed (slice_set (bare_slots 512) 0 (Some root)) ≡ root ∷ [] = written.spaces ∙ ap (put_space root) (none_listed 512) in record {
      slots = slice_set (bare_slots 512) 0 (Some root);
      xs = root_interval ∷ [];
      hold = h;
      right = record {
        numbered = written.numbered;
        spaces = rw spaces root_is_one.spaces;
        windows = rw spaces (tt, tt);
        intervals = rw spaces root_is_one.intervals;
      };
      counted = refl;
      spaces = spaces;
    }
