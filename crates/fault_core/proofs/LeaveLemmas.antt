-- What stores leave of a memory that is known, one after the other.
use Rattle.std.proofs.Common.{◌≡◌, inl, inr, ℕ, ◌+◌, ◌-◌, ◌/◌, ◌%◌, ◌<◌, ◌≤◌, false, List, [], ◌∷◌, length, take, drop, refl, sym, ◌∙◌, subst, arith}
use Rattle.std.specs.Prelude.{nat_le, Result, Ok, Err, OnErr}
use Rattle.std.proofs.lemmas.Bool.Decides.{nat_tests}
use Rattle.labelled_disk.specs.Sectors.{Sector}
use Rattle.file_map.specs.FileMap.{Triples}
use Rattle.flat_machine.specs.declared.space.Space.{Space}
use Rattle.swap_units.specs.declared.interval.Interval.{Interval}
use Rattle.swap_units.specs.Unit.{Holds}
use Rattle.swapper_kernel.specs.Goes.{Change, Goes, Pages, Same, no_page}
use Rattle.swapper_kernel.specs.GoesLaws.{makes_wider}
use Rattle.swapper_kernel.specs.Stands.{Stands}
use Rattle.session_words.specs.CellLaws.{IsTouchedOrOwn, Stores, StoresAt, StoresIn, StoresPieces, pieces}
use Rattle.fault_core.specs.Access.{last_page}
use Rattle.fault_core.specs.Moves.{AreSeen, Leaves, StoresSome, client_page, of_reference}
use Rattle.fault_core.specs.Reach.{Reaches}
use Rattle.fault_core.specs.Revealed.{Revealed}
use Rattle.fault_core.specs.Touch.{and_own, Touches}
use Rattle.fault_core.specs.Unit.{AreShownStored, file_page}
use Rattle.filer_kernel.specs.View.{View}
use Rattle.fault_core.proofs.AccessLemmas.{first_touched, last_touched}
use Rattle.fault_core.proofs.BeforeLemmas.{touches_of}
use Rattle.fault_core.proofs.PieceLemmas.{one_piece, next_address, next_offset}
use Rattle.fault_core.proofs.ReachLemmas.{same_memory}
use Rattle.fault_core.proofs.StoreLemmas.{stored_still}

pub leaves_wider : {P Q : Change} {m : List Sector} {named : Triples} {b : List ℕ} {w : View} → ((n : List Sector) → P m n → Q m n) → Leaves P m named b w → Leaves Q m named b w
leaves_wider wider l = record { memory = l.memory; changed = wider l.memory l.changed; known = l.known; labels = l.labels }

pub leaves_then : {P Q R : Change} {m : List Sector} {named : Triples} {b : List ℕ} {v w : View} → (l : Leaves P m named b v) → ((n : List Sector) → Q l.memory n → R m n) → Leaves Q l.memory named b w → Leaves R m named b w
leaves_then l joins next = record { memory = next.memory; changed = joins next.memory next.changed; known = next.known; labels = next.labels ∙ l.labels }

pub still_stored : {P : Change} {m : List Sector} {named : Triples} {b : List ℕ} {w : View} → (l : Leaves P m named b w) → (x : Interval) → AreShownStored named m x → AreShownStored named l.memory x
still_stored {m = m} {named = named} l x stored other holds = stored_still m l.memory named l.labels (stored other holds)

-- ---- The pieces of a store.

pub pieces_past : (address : ℕ) (bytes : List ℕ) → 512 < address % 512 + length bytes
    → pieces address bytes ≡ (address, take (512 - address % 512) bytes) ∷ (address + (512 - address % 512), drop (512 - address % 512) bytes) ∷ []
pieces_past address bytes past =
    let test : nat_le (address % 512 + length bytes) 512 ≡ false = grind (arith, nat_tests, past) in
    rw test refl

module _ (ss : List Space) (named : Triples) (m : List Sector) (address : ℕ) where
  pub stores_first : (x : Interval) (bytes : List ℕ) (k n : List Sector) → AreSeen ss named m x → Holds x (address / 512) → StoresAt x.id (file_page x (address / 512)) (address % 512) bytes k n → StoresIn ss address bytes k n
  stores_first x bytes k n seen holds stored = record { shown = record { file = x.id; page = file_page x (address / 512) }; is_shown = seen.shown (address / 512) holds; stored = stored }

  pub stores_next : (x : Interval) (bytes : List ℕ) (k n : List Sector) → AreSeen ss named m x → Holds x (address / 512 + 1) → StoresAt x.id (file_page x (address / 512 + 1)) 0 bytes k n → StoresIn ss (address + (512 - address % 512)) bytes k n
  stores_next x bytes k n seen holds stored = record {
    shown = record { file = x.id; page = file_page x (address / 512 + 1) };
    is_shown = rw (next_address address) (seen.shown (address / 512 + 1) holds);
    stored = rw (next_offset address) stored;
  }

pub one_stored : (ss : List Space) (address : ℕ) (bytes : List ℕ) (m n : List Sector) → address % 512 + length bytes ≤ 512 → StoresIn ss address bytes m n → Stores ss address bytes m n
one_stored ss address bytes m n fits own = subst (λ (ps : List (ℕ × List ℕ)). StoresPieces ss ps m n) (sym (one_piece address bytes fits)) (n, own, refl)

pub two_stored : (ss : List Space) (address : ℕ) (bytes : List ℕ) (m k n : List Sector) → 512 < address % 512 + length bytes → StoresIn ss address (take (512 - address % 512) bytes) m k
    → StoresIn ss (address + (512 - address % 512)) (drop (512 - address % 512) bytes) k n → Stores ss address bytes m n
two_stored ss address bytes m k n past first next = subst (λ (ps : List (ℕ × List ℕ)). StoresPieces ss ps m n) (sym (pieces_past address bytes past)) (k, first, (n, next, refl))

pub none_stored : (ss : List Space) (address : ℕ) (bytes : List ℕ) (m n : List Sector) → n ≡ m → StoresSome ss address bytes m n
none_stored ss address bytes m n same = record { k = 0; stored = same }

pub some_stored : (ss : List Space) (address : ℕ) (bytes : List ℕ) (m k n : List Sector) → 512 < address % 512 + length bytes → StoresIn ss address (take (512 - address % 512) bytes) m k → n ≡ k → StoresSome ss address bytes m n
some_stored ss address bytes m k n past first same = record {
  k = 1;
  stored = subst (λ (ps : List (ℕ × List ℕ)). StoresPieces ss (take 1 ps) m n) (sym (pieces_past address bytes past)) (k, first, same);
}

-- a store on one page
pub stored_on_one : {ss : List Space} {named : Triples} {m : List Sector} {b : List ℕ} {w : View} (address : ℕ) (bytes : List ℕ) (x : Interval) → AreSeen ss named m x → Holds x (address / 512) → address % 512 + length bytes ≤ 512
    → Leaves (StoresAt x.id (file_page x (address / 512)) (address % 512) bytes) m named b w → Leaves (Stores ss address bytes) m named b w
stored_on_one {ss = ss} {named = named} {m = m} address bytes x seen holds fits l =
    leaves_wider (λ n stored. one_stored ss address bytes m n fits (stores_first ss named m address x bytes m n seen holds stored)) l

pub stored_none : {ss : List Space} {named : Triples} {m : List Sector} {b : List ℕ} {w : View} (address : ℕ) (bytes : List ℕ) → Leaves Same m named b w → Leaves (StoresSome ss address bytes) m named b w
stored_none {ss = ss} {m = m} address bytes l = leaves_wider (λ n same. none_stored ss address bytes m n same) l

-- a store on two pages, after the first
module _ {ss : List Space} {named : Triples} {m : List Sector} {b : List ℕ} {w : View} (address : ℕ) (bytes : List ℕ) (x : Interval) (seen : AreSeen ss named m x) (holds : Holds x (address / 512))
    (past : 512 < address % 512 + length bytes) (l : Leaves (StoresAt x.id (file_page x (address / 512)) (address % 512) (take (512 - address % 512) bytes)) m named b w) where
  first_stored : StoresIn ss address (take (512 - address % 512) bytes) m l.memory
  first_stored = stores_first ss named m address x (take (512 - address % 512) bytes) m l.memory seen holds l.changed

  pub stored_first : {v : View} → Leaves Same l.memory named b v → Leaves (StoresSome ss address bytes) m named b v
  stored_first next = leaves_then l (λ n same. some_stored ss address bytes m l.memory n past first_stored same) next

  pub stored_both : {v : View} (y : Interval) → AreSeen ss named m y → Holds y (address / 512 + 1) → Leaves (StoresAt y.id (file_page y (address / 512 + 1)) 0 (drop (512 - address % 512) bytes)) l.memory named b v
      → Leaves (Stores ss address bytes) m named b v
  stored_both y also last next =
      leaves_then l (λ n stored. two_stored ss address bytes m l.memory n past first_stored (stores_next ss named m address y (drop (512 - address % 512) bytes) l.memory n also last stored)) next

-- ---- The whole of a core.

-- where the memory is known, what was touched goes from it to the one that is left
pub goes_revealed : (P : Change) (pages more : Pages) {v w : View} {m : List Sector} → Touches pages v w → ((id page : ℕ) → and_own pages id page → more id page) → Stands v.disk v.slots m
    → (n : List Sector) → Stands w.disk w.slots n → P m n → Goes P more [] v.disk v.slots w.disk w.slots
goes_revealed P pages more {v = v} {w = w} {m = m} h too stands n now changed = record {
  makes = makes_wider more too h.goes.makes;
  memory = λ k other. subst (λ (j : List Sector). (n : List Sector) × Stands w.disk w.slots n × P j n) (same_memory v.disk v.slots m k stands other) (n, now, changed);
}

pub revealed_leaves : {P : Change} {v w : View} {kept : List Interval} {count : ℕ} {m : List Sector} {named : Triples} {ss : List Space} → (h : Revealed v kept count m named ss) → (l : Leaves P m named h.bytes w) → Revealed w kept count l.memory named ss
revealed_leaves {m = m} {named = named} h l = record {
  bytes = h.bytes;
  known = l.known;
  tables = h.tables;
  cached = h.cached;
  stored = λ p page shown. stored_still m l.memory named l.labels (h.stored p page shown);
}

pub touched_or_own : (ss : List Space) (named : Triples) (m : List Sector) (x y : Interval) (address count : ℕ) → AreSeen ss named m x → AreSeen ss named m y → Holds x (address / 512) → Holds y (last_page address count)
    → (id page : ℕ) → and_own (of_reference x y address count) id page → IsTouchedOrOwn ss address count id page
touched_or_own ss named m x y address count seen also first last id page one = elim one [
  | inl (inl three) ↦ inr (omega (arith, three))
  | inl (inr two) ↦ inr (omega (arith, two))
  | inr (inl (same_id, same_page)) ↦ inl (record { k = 0; virtual = address / 512; touched = first_touched (address / 512) (last_page address count); shown = rw (same_id, same_page) (seen.shown (address / 512) first) })
  | inr (inr (same_id, same_page)) ↦
      let at = last_touched (address / 512) (last_page address count) in
      inl (record { k = at.0; virtual = last_page address count; touched = at.1; shown = rw (same_id, same_page) (also.shown (last_page address count) last) })
]

pub revealed_stands : {w : View} {kept : List Interval} {count : ℕ} {m : List Sector} {named : Triples} {ss : List Space} → Revealed w kept count m named ss → (n : List Sector) → Stands w.disk w.slots n → Revealed w kept count n named ss
revealed_stands {w = w} {kept = kept} {count = count} {m = m} {named = named} {ss = ss} h n stands =
    subst (λ (k : List Sector). Revealed w kept count k named ss) (same_memory w.disk w.slots m n h.known.stands stands) h

own_only : (ss : List Space) (address count id page : ℕ) → and_own no_page id page → IsTouchedOrOwn ss address count id page
own_only ss address count id page own = elim own [
  | inl (inl three) ↦ inr (omega (arith, three))
  | inl (inr two) ↦ inr (omega (arith, two))
  | inr none ↦ absurd none
]

-- a store that changed nothing
pub goes_refused : (P : Change) {v w : View} {k l : List Interval} {i j : ℕ} {m : List Sector} {named : Triples} {ss : List Space} (address count : ℕ) → P m m → Reaches v w → Revealed v k i m named ss → Revealed w l j m named ss
    → Goes P (IsTouchedOrOwn ss address count) [] v.disk v.slots w.disk w.slots
goes_refused P {m = m} {ss = ss} address count same h before after =
    goes_revealed P no_page (IsTouchedOrOwn ss address count) (touches_of no_page h) (own_only ss address count) before.known.stands m after.known.stands same

pub clients_alone : (x y : Interval) (address count : ℕ) → 16 ≤ x.id → 16 ≤ y.id → (id page : ℕ) → of_reference x y address count id page → client_page id page
clients_alone x y address count high also id page one = elim one [ inl (same, _) ↦ rw same high | inr (same, _) ↦ rw same also ]

pub on_err_wider : {T E : Type 0} (r : Result T E) (P Q : Type 0) → (P → Q) → OnErr r P → OnErr r Q
on_err_wider (Ok x) P Q f p = p
on_err_wider (Err e) P Q f p = f p
