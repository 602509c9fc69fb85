-- Laws of a table in a part of a memory that was lent to it.
use Rattle.std.specs.Prelude.{◌≡◌, ℕ, ◌+◌, ◌-◌, ◌*◌, List, Result, Ok, Err, OnOk, IfErr, is_ok, if◌then◌else◌}
use Rattle.std.proofs.Common.{sym, ◌∙◌}
use Rattle.flat_mem.specs.declared.error.TableError.{TableError}
use Rattle.flat_mem.specs.declared.part.Part.{Part}
use Rattle.flat_mem.specs.Memory.{part}
use Rattle.flat_mem.specs.Part.{IsSameBeside, RevealsPart, IsKept}
use Rattle.flat_mem.specs.PartLaws.{others_kept}
use Rattle.record_table.specs.Table.{entries, RevealsEntries}
use Rattle.record_table.specs.Edits.{IsInserted, IsReplaced, IsRemoved, IfMem}
use Rattle.record_table.specs.InPart.{IsInsertedIn, IsReplacedIn, IsRemovedIn}

-- what holds of the memory that was lent holds of it under another name
pub lent : {M : Type 0} (P : M → Type 0) (m n : M) → m ≡ n → P n → P m
lent P m n same h = rw same h

pub lent_error : {M T X : Type 0} (r : Result T (TableError X)) (P : M → X → Type 0) (m n : M) → m ≡ n → IfErr r (IfMem (P n)) → IfErr r (IfMem (P m))
lent_error r P m n same h = rw same h

-- what an Ok says, where the count is one more
pub counted : {T X : Type 0} (r : Result T X) (n m : ℕ) (P Q : Type 0) → m ≡ (if is_ok r then n + 1 else n) → (m ≡ n + 1 → P → Q) → OnOk r P → OnOk r Q
counted (Ok v) n m P Q is f p = f is p
counted (Err e) n m P Q is f p = p

-- what an Ok says, where the count is one less
pub discounted : {T X : Type 0} (r : Result T X) (n m : ℕ) (P Q : Type 0) → m ≡ (if is_ok r then n - 1 else n) → (m ≡ n - 1 → P → Q) → OnOk r P → OnOk r Q
discounted (Ok v) n m P Q is f p = f is p
discounted (Err e) n m P Q is f p = p

module _ {M X : Type 0} (reveals : M → List ℕ → Type 0) (beside : M → M → Type 0) (once : (m : M) (w v : List ℕ) → reveals m w → reveals m v → w ≡ v) (e k first pages : ℕ) (p q : Part M X) (w : List ℕ)
    (first_is : p.first ≡ first) (pages_is : p.pages ≡ pages) (kept : IsKept reveals beside p q) (before : reveals p.mem w) where
  first_now : q.first ≡ first
  first_now = sym kept.first ∙ first_is

  pages_now : q.pages ≡ pages
  pages_now = sym kept.pages ∙ pages_is

  others_are : (v : List ℕ) → reveals q.mem v → IsSameBeside first pages w v
  others_are v revealed = rw (first_is, pages_is) at (others_kept reveals beside once p q w v kept before revealed)

  bytes_are : (b v : List ℕ) → b ≡ part v (512 * q.first) (512 * q.pages) → b ≡ part v (512 * first) (512 * pages)
  bytes_are b v is = rw (first_now, pages_now) at is

  pub inserted_in : (n m : ℕ) (new : List ℕ) → m ≡ n + 1 → IsInserted k (RevealsEntries e (RevealsPart reveals q) m) (entries e (part w (512 * first) (512 * pages)) n) new → IsInsertedIn e k first pages (reveals q.mem) w n new
  inserted_in n m new count i =
      let revealed = i.listed.revealed in
      record {
        whole = revealed.whole;
        revealed = revealed.revealed;
        others = others_are revealed.whole revealed.revealed;
        table = record { at = i.at; within = i.within; listed = rw (bytes_are i.listed.bytes revealed.whole revealed.is, count) at i.listed.are; after = i.after; ascending = i.ascending };
      }

  pub replaced_in : (n m place : ℕ) (new : List ℕ) → m ≡ n → IsReplaced k (RevealsEntries e (RevealsPart reveals q) m) (entries e (part w (512 * first) (512 * pages)) n) place new → IsReplacedIn e k first pages (reveals q.mem) w n place new
  replaced_in n m place new count i =
      let revealed = i.listed.revealed in
      record {
        whole = revealed.whole;
        revealed = revealed.revealed;
        others = others_are revealed.whole revealed.revealed;
        table = record { listed = rw (bytes_are i.listed.bytes revealed.whole revealed.is, count) at i.listed.are; ascending = i.ascending };
      }

  pub removed_in : (n m place : ℕ) → m ≡ n - 1 → IsRemoved k (RevealsEntries e (RevealsPart reveals q) m) (entries e (part w (512 * first) (512 * pages)) n) place → IsRemovedIn e k first pages (reveals q.mem) w n place
  removed_in n m place count i =
      let revealed = i.listed.revealed in
      record {
        whole = revealed.whole;
        revealed = revealed.revealed;
        others = others_are revealed.whole revealed.revealed;
        table = record { listed = rw (bytes_are i.listed.bytes revealed.whole revealed.is, count) at i.listed.are; ascending = i.ascending };
      }
