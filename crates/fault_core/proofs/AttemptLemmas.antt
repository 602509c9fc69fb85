-- A reference that brings in no page of a client: what is in frames, and what is moved there.
use Rattle.std.proofs.Common.{◌≡◌, ◌≢◌, ◌⊎◌, inl, inr, ℕ, zero, suc, ◌/◌, ◌<◌, Bool, true, false, List, [], ◌∷◌, Some, refl, sym, ◌∙◌, ap, subst, arith}
use Rattle.std.specs.Prelude.{slice_get, ◌==◌}
use Rattle.std.proofs.lemmas.Bool.{true≢false}
use Rattle.std.proofs.lemmas.Bool.Decides.{nat_tests}
use Rattle.std.proofs.lemmas.Option.{same_Some, none-some}
use Rattle.labelled_disk.specs.Sectors.{Sector}
use Rattle.file_map.specs.FileMap.{Triples}
use Rattle.frame_pool.specs.Frames.{Slots, HasPage}
use Rattle.flat_machine.specs.declared.space.Space.{Space}
use Rattle.flat_machine.specs.At.{one_or_two}
use Rattle.swap_units.specs.declared.interval.Interval.{Interval}
use Rattle.fault_core.specs.declared.reference.Access.{Access}
use Rattle.fault_core.specs.declared.reference.Access.TheVariants as access
use Rattle.fault_core.specs.declared.attempt.Attempt.{Attempt}
use Rattle.fault_core.specs.declared.attempt.Attempt.TheVariants as attempt
use Rattle.fault_core.specs.declared.attempt.Prospect.{Prospect}
use Rattle.fault_core.specs.declared.attempt.Prospect.TheVariants as prospect
use Rattle.fault_core.specs.Access.{Shows, last_page}
use Rattle.fault_core.specs.Attempt.{ArePresent, HasClient, IfAbsent, IfAccess, IfReady, IfSettled, IsAway, IsFirstAway, IsHere, IsPresent, IsReferred, IsUnfound, StoresTried, moved}
use Rattle.fault_core.specs.Kill.{is_absent}
use Rattle.fault_core.specs.Moves.{AreSeen}
use Rattle.fault_core.specs.Unit.{IsSlotOf, IsWhole, file_page}
use Rattle.fault_core.specs.Room.{KeepsSlots}
use Rattle.fault_core.proofs.AccessLemmas.{first_touched, last_touched}

-- ---- The pages of a reference.

one_of_one : (x : ℕ) (k page : ℕ) → slice_get (x ∷ []) k ≡ Some page → x ≡ page
one_of_one x zero page here = same_Some x page here
one_of_one x (suc k) page here = absurd (none-some page here)

one_of_two : (x y : ℕ) (k page : ℕ) → slice_get (x ∷ y ∷ []) k ≡ Some page → (x ≡ page) ⊎ (y ≡ page)
one_of_two x y zero page here = inl (same_Some x page here)
one_of_two x y (suc k) page here = inr (one_of_one y k page here)

-- what holds of both pages holds of each
pub both_pages : (P : ℕ → Type 0) (a b : ℕ) → P a → P b → (k page : ℕ) → slice_get (one_or_two a b) k ≡ Some page → P page
both_pages P a b first last k page here = by (a == b) refl
  where
    by : (same : Bool) → (a == b) ≡ same → P page
    by true e =
        let own : slice_get (a ∷ []) k ≡ Some page = rw e at here in
        subst P (one_of_one a k page own) first
    by false e =
        let own : slice_get (a ∷ b ∷ []) k ≡ Some page = rw e at here in
        elim (one_of_two a b k page own) [ inl is ↦ subst P is first | inr is ↦ subst P is last ]

-- before the last page is none, or the first one
pub before_last : (P : ℕ → Type 0) (a b : ℕ) → P a → (k : ℕ) × (slice_get (one_or_two a b) k ≡ Some b) × ((j page : ℕ) → j < k → slice_get (one_or_two a b) j ≡ Some page → P page)
before_last P a b first = by (a == b) refl
  where
    by : (same : Bool) → (a == b) ≡ same → (k : ℕ) × (slice_get (one_or_two a b) k ≡ Some b) × ((j page : ℕ) → j < k → slice_get (one_or_two a b) j ≡ Some page → P page)
    by true e =
        let same : a ≡ b = grind (arith, nat_tests, e) in
        (0, rw e (ap (λ (n : ℕ). Some n) same), λ j page below here. absurd (omega (arith, below)))
    by false e = (
      1,
      rw e refl,
      λ j page below here.
          let zeroth : j ≡ 0 = omega (arith, below) in
          let at : slice_get (one_or_two a b) 0 ≡ Some page = subst (λ (i : ℕ). slice_get (one_or_two a b) i ≡ Some page) zeroth here in
          subst P (same_Some a page (sym (first_touched a b) ∙ at)) first,
    )

pub first_referred : (address count : ℕ) → IsReferred address count (address / 512)
first_referred address count = record { k = 0; touched = first_touched (address / 512) (last_page address count) }

pub last_referred : (address count : ℕ) → IsReferred address count (last_page address count)
last_referred address count = let at = last_touched (address / 512) (last_page address count) in record { k = at.0; touched = at.1 }

-- both pages are in slots, so each is
pub all_present : (ss : List Space) (slots : Slots) (address count i j : ℕ) → IsSlotOf ss slots (address / 512) i → IsSlotOf ss slots (last_page address count) j → ArePresent ss slots address count
all_present ss slots address count i j first last k page here =
    both_pages (IsPresent ss slots) (address / 512) (last_page address count) (i, first) (j, last) k page here

-- ---- By the intervals that show them.

module _ {ss : List Space} {named : Triples} {m : List Sector} (slots : Slots) (x : Interval) (page : ℕ) (seen : AreSeen ss named m x) (shows : Shows x page) where
  pub slot_shown : (i : ℕ) → HasPage slots i x.id (file_page x page) → IsSlotOf ss slots page i
  slot_shown i has = record { shown = record { file = x.id; page = file_page x page }; is_shown = seen.shown page shows.holds; has = has }

  pub away_shown : is_absent slots x.id (file_page x page) → IsAway ss slots page
  away_shown absent = record { shown = record { file = x.id; page = file_page x page }; is_shown = seen.shown page shows.holds; absent = absent }

pub client_slot : (slots : Slots) (x : Interval) (page i : ℕ) → Shows x page → HasPage slots i x.id (file_page x page) → HasClient slots i
client_slot slots x page i shows has = record { id = x.id; page = file_page x page; has = has; client = (shows.formed.shows shows.mapped).0 }

-- the first page that was not found
pub first_away : {ss : List Space} {named : Triples} {m : List Sector} (slots : Slots) (x y : Interval) (address count page : ℕ) → AreSeen ss named m x → AreSeen ss named m y → Shows x (address / 512) → Shows y (last_page address count)
    → IsUnfound slots x y address count page → IsFirstAway ss slots address count page
first_away {ss = ss} slots x y address count page seen also first last unfound = elim unfound [
  | inl (is, absent) ↦ subst (IsFirstAway ss slots address count) (sym is) (record {
    k = 0;
    touched = first_touched (address / 512) (last_page address count);
    away = away_shown slots x (address / 512) seen first absent;
    before = λ j earlier below here. absurd (omega (arith, below));
  })
  | inr (is, absent, there) ↦
      let at = before_last (IsPresent ss slots) (address / 512) (last_page address count) (there.0, slot_shown slots x (address / 512) seen first there.0 there.1) in
      subst (IsFirstAway ss slots address count) (sym is) (record {
        k = at.0;
        touched = at.1;
        away = away_shown slots y (last_page address count) also last absent;
        before = at.2;
      })
]

pub unfound_referred : (slots : Slots) (x y : Interval) (address count page : ℕ) → IsUnfound slots x y address count page → IsReferred address count page
unfound_referred slots x y address count page unfound = elim unfound [
  | inl (is, absent) ↦ subst (IsReferred address count) (sym is) (first_referred address count)
  | inr (is, absent, there) ↦ subst (IsReferred address count) (sym is) (last_referred address count)
]

-- where both swap units are resident, so are the pages
pub unfound_never : (slots : Slots) (x y : Interval) (address count page : ℕ) → Shows x (address / 512) → Shows y (last_page address count) → IsWhole slots x (address / 512) → IsWhole slots y (last_page address count)
    → IsUnfound slots x y address count page → ⊥
unfound_never slots x y address count page first last whole also unfound = elim unfound [
  | inl (is, absent) ↦ absent (whole (address / 512) (first.holds, refl))
  | inr (is, absent, there) ↦ absent (also (last_page address count) (last.holds, refl))
]

-- ---- What was found says what comes of it.

pub ready_wider : (P Q : ℕ → ℕ → Type 0) (r : Prospect) → ((i j : ℕ) → P i j → Q i j) → IfReady P r → IfReady Q r
ready_wider P Q (prospect.Ready i j) wider p = wider i j p
ready_wider P Q (prospect.Settled t) wider p = tt

pub ready_both : (P Q : ℕ → ℕ → Type 0) (r : Prospect) → IfReady P r → IfReady Q r → IfReady (λ i j. P i j × Q i j) r
ready_both P Q (prospect.Ready i j) p q = (p, q)
ready_both P Q (prospect.Settled t) p q = tt

pub absent_wider : (P Q : ℕ → Type 0) (r : Prospect) → ((page : ℕ) → P page → Q page) → IfSettled (IfAbsent P) r → IfSettled (IfAbsent Q) r
absent_wider P Q (prospect.Ready i j) wider p = tt
absent_wider P Q (prospect.Settled (attempt.Access a)) wider p = tt
absent_wider P Q (prospect.Settled (attempt.Absent page)) wider p = wider page p

pub access_wider : (P Q : Access → Type 0) (r : Prospect) → ((a : Access) → P a → Q a) → IfSettled (IfAccess P) r → IfSettled (IfAccess Q) r
access_wider P Q (prospect.Ready i j) wider p = tt
access_wider P Q (prospect.Settled (attempt.Access a)) wider p = wider a p
access_wider P Q (prospect.Settled (attempt.Absent page)) wider p = tt

pub ready_always : (P : Type 0) (r : Prospect) → P → IfReady (λ i j. P) r
ready_always P (prospect.Ready i j) p = p
ready_always P (prospect.Settled t) p = tt

pub at_ready : (P : ℕ → ℕ → Type 0) (r : Prospect) (i j : ℕ) → r ≡ prospect.Ready i j → IfReady P r → P i j
at_ready P r i j is p = subst (IfReady P) is p

pub at_settled : (P : Attempt → Type 0) (r : Prospect) (t : Attempt) → r ≡ prospect.Settled t → IfSettled P r → P t
at_settled P r t is p = subst (IfSettled P) is p

-- ---- No byte was moved.

abbrev is_moved : Attempt → Bool
is_moved (attempt.Access access.Done) = true
is_moved (attempt.Access (access.NoMap page)) = false
is_moved (attempt.Access (access.ReadOnly page)) = false
is_moved (attempt.Absent page) = false

pub no_map_unmoved : (page : ℕ) → attempt.Access (access.NoMap page) ≢ moved
no_map_unmoved page e = true≢false (sym (ap is_moved e))

pub read_only_unmoved : (page : ℕ) → attempt.Access (access.ReadOnly page) ≢ moved
read_only_unmoved page e = true≢false (sym (ap is_moved e))

absent_unmoved : (page : ℕ) → attempt.Absent page ≢ moved
absent_unmoved page e = true≢false (sym (ap is_moved e))

pub settled_unmoved : (r : Prospect) → IfSettled (IfAccess (λ a. ⊥)) r → IfSettled (λ t. t ≢ moved) r
settled_unmoved (prospect.Ready i j) none = tt
settled_unmoved (prospect.Settled (attempt.Access a)) none = absurd none
settled_unmoved (prospect.Settled (attempt.Absent page)) none = absent_unmoved page

-- the memory is the same then
pub tried_stays : (t : Attempt) (ss : List Space) (address : ℕ) (bytes : List ℕ) (m : List Sector) → t ≢ moved → StoresTried t ss address bytes m m
tried_stays (attempt.Access access.Done) ss address bytes m other = absurd (other refl)
tried_stays (attempt.Access (access.NoMap page)) ss address bytes m other = refl
tried_stays (attempt.Access (access.ReadOnly page)) ss address bytes m other = refl
tried_stays (attempt.Absent page) ss address bytes m other = refl

-- ---- Pages that stay in their slots.

pub slot_stays : {ss : List Space} {s t : Slots} {page slot : ℕ} → KeepsSlots s t → IsSlotOf ss s page slot → IsSlotOf ss t page slot
slot_stays {slot = slot} stays own = record { shown = own.shown; is_shown = own.is_shown; has = stays slot own.shown.file own.shown.page own.has }

pub here_stays : {kept : List Interval} {s t : Slots} {page : ℕ} → KeepsSlots s t → IsHere kept s page → IsHere kept t page
here_stays {page = page} stays here = record {
  interval = here.interval;
  is_kept = here.is_kept;
  holds = here.holds;
  mapped = here.mapped;
  resident = (here.resident.0, stays here.resident.0 here.interval.id (file_page here.interval page) here.resident.1);
}
