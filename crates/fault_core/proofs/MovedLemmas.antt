-- Bytes that are read from frames, and written over those in frames.
use Rattle.std.proofs.Common.{◌≡◌, inl, inr, ℕ, ◌+◌, ◌-◌, ◌/◌, ◌%◌, ◌<◌, ◌≤◌, true, List, length, take, drop, arith}
use Rattle.labelled_disk.specs.Label.{is_file_id}
use Rattle.labelled_disk.specs.Sectors.{Sector}
use Rattle.flat_mem.specs.Memory.{part}
use Rattle.file_map.specs.FileMap.{Triples}
use Rattle.frame_pool.specs.Frames.{Frame, Slots, Has}
use Rattle.flat_machine.specs.declared.space.Space.{Space}
use Rattle.swapper_kernel.specs.Homes.{ArePlaced, IsLayout}
use Rattle.session_words.specs.CellLaws.{IsTouchedOrOwn, Stores, StoresAt}
use Rattle.session_words.proofs.FoundLemmas.{above_reserved}
use Rattle.fault_core.specs.Access.{last_page}
use Rattle.fault_core.specs.Attempt.{HasClient, either}
use Rattle.fault_core.specs.Moves.{HasBytes, Leaves, LoadsIn, client_page}
use Rattle.fault_core.specs.Revealed.{AreStored, Known}
use Rattle.fault_core.specs.Touch.{and_own}
use Rattle.fault_core.specs.Unit.{IsSlotOf}
use Rattle.fault_core.specs.Room.{KeepsSlots}
use Rattle.filer_kernel.specs.View.{View}
use Rattle.fault_core.proofs.AccessLemmas.{first_touched, last_touched}
use Rattle.fault_core.proofs.FrameLemmas.{frame_bytes}
use Rattle.fault_core.proofs.LeaveLemmas.{leaves_then, leaves_wider, one_stored, two_stored}
use Rattle.fault_core.proofs.PieceLemmas.{next_address, next_offset}

-- the page that is shown is one of a file
pub of_a_file : {ss : List Space} {named : Triples} {m : List Sector} {slots : Slots} {page slot : ℕ} → AreStored named m ss → (s : IsSlotOf ss slots page slot) → is_file_id s.shown.file ≡ true
of_a_file {page = page} stored s = (stored page s.shown s.is_shown).of_file

pub of_a_client : {ss : List Space} {named : Triples} {m : List Sector} {slots : Slots} {page slot : ℕ} → AreStored named m ss → (s : IsSlotOf ss slots page slot) → 16 ≤ s.shown.file
of_a_client stored s = above_reserved s.shown.file (of_a_file stored s)

-- ---- Read.

module _ {v : View} {m : List Sector} {named : Triples} {b : List ℕ} {ss : List Space} (is : IsLayout v.layout) (placed : ArePlaced v.slots v.layout) (known : Known v m named b) (stored : AreStored named m ss) where
  read_bytes : {page slot : ℕ} (s : IsSlotOf ss v.slots page slot) (from : ℕ) (bytes : List ℕ) → from + length bytes ≤ 512 → ((f : Frame) → Has v.slots slot f → bytes ≡ part f.bytes from (length bytes))
      → HasBytes s.shown.file s.shown.page from bytes m
  read_bytes {slot = slot} s from bytes inside are =
      frame_bytes is known placed slot s.has.0 s.has.1 s.shown.file s.shown.page s.has.2 (of_a_file stored s) from bytes inside (are s.has.0 s.has.1)

  pub read_first : (address : ℕ) {slot : ℕ} (s : IsSlotOf ss v.slots (address / 512) slot) (bytes : List ℕ) → address % 512 + length bytes ≤ 512 → ((f : Frame) → Has v.slots slot f → bytes ≡ part f.bytes (address % 512) (length bytes))
      → LoadsIn ss address bytes m
  read_first address s bytes inside are = record { shown = s.shown; is_shown = s.is_shown; has = read_bytes s (address % 512) bytes inside are }

  pub read_next : (address : ℕ) {slot : ℕ} (s : IsSlotOf ss v.slots (address / 512 + 1) slot) (bytes : List ℕ) → length bytes ≤ 512 → ((f : Frame) → Has v.slots slot f → bytes ≡ part f.bytes 0 (length bytes))
      → LoadsIn ss (address + (512 - address % 512)) bytes m
  read_next address s bytes inside are = record {
    shown = s.shown;
    is_shown = rw (next_address address) s.is_shown;
    has = rw (next_offset address) (read_bytes s 0 bytes (omega (arith, inside)) are);
  }

-- ---- Written over.

-- a client's page stays in its slot
pub client_stays : {s t : Slots} {slot : ℕ} → KeepsSlots s t → HasClient s slot → HasClient t slot
client_stays {slot = slot} stays own = record { id = own.id; page = own.page; has = stays slot own.id own.page own.has; client = own.client }

-- a store on one page
pub written_one : {ss : List Space} {slots : Slots} {named : Triples} {m : List Sector} {b : List ℕ} {w : View} (address : ℕ) (bytes : List ℕ) {slot : ℕ} (s : IsSlotOf ss slots (address / 512) slot) → address % 512 + length bytes ≤ 512
    → Leaves (StoresAt s.shown.file s.shown.page (address % 512) bytes) m named b w → Leaves (Stores ss address bytes) m named b w
written_one {ss = ss} {m = m} address bytes s fits l =
    leaves_wider (λ n stored. one_stored ss address bytes m n fits (record { shown = s.shown; is_shown = s.is_shown; stored = stored })) l

-- a store on two pages
pub written_both : {ss : List Space} {slots : Slots} {named : Triples} {m : List Sector} {b : List ℕ} {v w : View} (address : ℕ) (bytes : List ℕ) {i j : ℕ} (s : IsSlotOf ss slots (address / 512) i) (t : IsSlotOf ss slots (address / 512 + 1) j)
    → 512 < address % 512 + length bytes → (l : Leaves (StoresAt s.shown.file s.shown.page (address % 512) (take (512 - address % 512) bytes)) m named b v)
    → Leaves (StoresAt t.shown.file t.shown.page 0 (drop (512 - address % 512) bytes)) l.memory named b w → Leaves (Stores ss address bytes) m named b w
written_both {ss = ss} {m = m} address bytes s t past l next = leaves_then l (λ n stored.
    two_stored ss address bytes m l.memory n past
    (record { shown = s.shown; is_shown = s.is_shown; stored = l.changed })
    (record { shown = t.shown; is_shown = rw (next_address address) t.is_shown; stored = rw (next_offset address) stored })) next

-- the pages that were written over are pages of the reference
pub either_touched : {ss : List Space} {slots : Slots} (address count : ℕ) {i j : ℕ} (s : IsSlotOf ss slots (address / 512) i) (t : IsSlotOf ss slots (last_page address count) j)
    → (id page : ℕ) → and_own (either s.shown.file s.shown.page t.shown.file t.shown.page) id page → IsTouchedOrOwn ss address count id page
either_touched address count s t id page one = elim one [
  | inl (inl three) ↦ inr (omega (arith, three))
  | inl (inr two) ↦ inr (omega (arith, two))
  | inr (inl (same_id, same_page)) ↦ inl (record { k = 0; virtual = address / 512; touched = first_touched (address / 512) (last_page address count); shown = rw (same_id, same_page) s.is_shown })
  | inr (inr (same_id, same_page)) ↦
      let at = last_touched (address / 512) (last_page address count) in
      inl (record { k = at.0; virtual = last_page address count; touched = at.1; shown = rw (same_id, same_page) t.is_shown })
]

pub either_client : (i p j q : ℕ) → 16 ≤ i → 16 ≤ j → (id page : ℕ) → either i p j q id page → client_page id page
either_client i p j q high also id page one = elim one [ inl (same, _) ↦ rw same high | inr (same, _) ↦ rw same also ]
