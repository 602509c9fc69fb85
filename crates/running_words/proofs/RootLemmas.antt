-- What holds of the page of a root stays where each root that is written is so.
use Rattle.std.proofs.Common.{◌≡◌, ◌≢◌, ◌⊎◌, inl, inr, ℕ, zero, suc, ◌+◌, Bool, true, false, List, [], ◌∷◌, length, take, Option, Some, None, refl, sym, ap, subst, arith}
use Rattle.std.specs.Prelude.{filter, not, if◌then◌else◌, slice_get, slice_set}
use Rattle.std.specs.Option.{option_map_or}
use Rattle.labelled_disk.specs.declared.disk.DiskWrite.{DiskWrite}
use Rattle.labelled_disk.specs.declared.disk.DiskWrite.TheVariants as write
use Rattle.labelled_disk.specs.declared.label.Label.{Label}
use Rattle.labelled_disk.specs.Label.{names}
use Rattle.labelled_disk.specs.Permitted.{Permitted}
use Rattle.labelled_disk.specs.CrashState.{crash_state, written}
use Rattle.labelled_disk.specs.Root.{number_at, root_page}
use Rattle.labelled_disk.specs.Runs.{growth, creation, freeing}
use Rattle.labelled_disk.specs.Sectors.{Sector, AreSectors}
use Rattle.labelled_disk.specs.State.{DiskState}
use Rattle.labelled_disk.proofs.WriteLemmas.{first_positive}
use Rattle.frame_pool.specs.Frames.{Slots}
use Rattle.flat_machine.specs.declared.call.Call.{Call}
use Rattle.flat_machine.specs.Machine.{Machine}
use Rattle.flat_machine.specs.Next.{next}
use Rattle.swapper_kernel.specs.Goes.{Wrote, is_page_write}
use Rattle.session_words.specs.Parts.{TablesMeaning}
use Rattle.session_words.specs.StandsFor.{StandsFor}
use Rattle.session_words.specs.Volume.{volume_page}
use Rattle.session_words.proofs.LooseLemmas.{stands_is_settled}
use Rattle.volume_root.specs.declared.root.Root.{Root}
use Rattle.volume_root.specs.RootPage.{root_bytes, root_write}
use Rattle.running_words.specs.Stages.{HasNumbers}

-- The roots among some writes.

-- the page of each root among these writes is such
abbrev pub RootsHave : (List ℕ → Type 0) → List DiskWrite → Type 0
RootsHave P [] = Unit {0}
RootsHave P (write.Whole sector label page ∷ ws) = (label.id ≡ 4 → P page) × RootsHave P ws
RootsHave P (write.LabelOnly sector label ∷ ws) = RootsHave P ws
RootsHave P (write.Page sector wanted page ∷ ws) = RootsHave P ws

module _ (P : List ℕ → Type 0) where
  -- writes of page bytes are of no root
  pub have_writes : (ws : List DiskWrite) → RootsHave P (filter (λ w. not (is_page_write w)) ws) → RootsHave P ws
  have_writes [] have = tt
  have_writes (write.Whole sector label page ∷ ws) have = (have.0, have_writes ws have.1)
  have_writes (write.LabelOnly sector label ∷ ws) have = have_writes ws have
  have_writes (write.Page sector wanted page ∷ ws) have = have_writes ws have

  pub take_have : (n : ℕ) (ws : List DiskWrite) → RootsHave P ws → RootsHave P (take n ws)
  take_have zero ws have = tt
  take_have (suc n) [] have = tt
  take_have (suc n) (write.Whole sector label page ∷ ws) have = (have.0, take_have n ws have.1)
  take_have (suc n) (write.LabelOnly sector label ∷ ws) have = take_have n ws have
  take_have (suc n) (write.Page sector wanted page ∷ ws) have = take_have n ws have

  -- files are made, lengthened and freed without one
  pub growth_have : (id kind page : ℕ) (is : List ℕ) → id ≢ 4 → RootsHave P (growth id kind page is)
  growth_have id kind page [] other = tt
  growth_have id kind page (i ∷ is) other = (λ four. absurd (other four), growth_have id kind (page + 1) is other)

  pub creation_have : (id kind leader : ℕ) (is : List ℕ) → id ≢ 4 → RootsHave P (creation id kind leader is)
  creation_have id kind leader is other = (λ four. absurd (other four), growth_have id kind 0 is other)

  pub freeing_have : (is : List ℕ) → RootsHave P (freeing is)
  freeing_have [] = tt
  freeing_have (i ∷ is) = freeing_have is

  -- such a root among them
  pub root_have : (root : Root) (ws : List DiskWrite) → P (root_bytes root) → RootsHave P ws → RootsHave P (root_write root ∷ ws)
  root_have root ws is have = (λ four. is, have)

  -- What one permitted write makes of sector 0.

  whole_have : (d : List Sector) (sector : ℕ) (label : Label) (page : List ℕ) → Permitted d (write.Whole sector label page) → (label.id ≡ 4 → P page) → P (root_page d) → P (root_page (slice_set d sector (label, page)))
  whole_have [] sector label page permitted have is = is
  whole_have (s ∷ rest) zero label page (inl root) have is = have (ap (λ (l : Label). l.id) root.root_label)
  whole_have (s ∷ rest) zero label page (inr fresh) have is = absurd (let at = fresh.old.1.is_data in let positive = first_positive false 0 0 (length (s ∷ rest)) in omega (arith, at, positive))
  whole_have (s ∷ rest) (suc n) label page permitted have is = is

  label_have : (d : List Sector) (sector : ℕ) (label : Label) → P (root_page d) → P (root_page (written (write.LabelOnly sector label) d))
  label_have [] sector label is = is
  label_have (s ∷ rest) zero label is = is
  label_have (s ∷ rest) (suc n) label is = by (slice_get rest n)
    where
      by : (o : Option Sector) → P (root_page (option_map_or (λ (old : Sector). slice_set (s ∷ rest) (suc n) (label, old.1)) o (s ∷ rest)))
      by None = is
      by (Some old) = is

  page_have : (d : List Sector) (sector : ℕ) (t : Sector → Sector) (f : Sector → Bool) → P (root_page d) → (o : Option Sector)
      → P (root_page (option_map_or (λ old. if f old then slice_set d (suc sector) (t old) else d) o d))
  page_have d sector t f is None = is
  page_have d sector t f is (Some old) = by (f old)
    where
      rest_have : (d : List Sector) → P (root_page d) → P (root_page (slice_set d (suc sector) (t old)))
      rest_have [] is = is
      rest_have (s ∷ rest) is = is

      by : (b : Bool) → P (root_page (if b then slice_set d (suc sector) (t old) else d))
      by true = rest_have d is
      by false = is

  -- and what permitted writes in a row make of it
  pub rows_have : (ws : List DiskWrite) (d : List Sector) (k : ℕ) → RootsHave P ws → ((j : ℕ) (w : DiskWrite) → slice_get ws j ≡ Some w → Permitted (crash_state d ws j) w) → P (root_page d) → P (root_page (crash_state d ws k))
  rows_have [] d zero have permitted is = is
  rows_have [] d (suc k) have permitted is = is
  rows_have (w ∷ ws) d zero have permitted is = is
  rows_have (write.Whole sector label page ∷ ws) d (suc k) have permitted is =
      rows_have ws (written (write.Whole sector label page) d) k have.1 (λ j v here. permitted (suc j) v here) (whole_have d sector label page (permitted 0 (write.Whole sector label page) refl) have.0 is)
  rows_have (write.LabelOnly sector label ∷ ws) d (suc k) have permitted is =
      rows_have ws (written (write.LabelOnly sector label) d) k have (λ j v here. permitted (suc j) v here) (label_have d sector label is)
  rows_have (write.Page zero wanted page ∷ ws) d (suc k) have permitted is = absurd (let past = (permitted 0 (write.Page zero wanted page) refl).not_root in omega (arith, past))
  rows_have (write.Page (suc n) wanted page ∷ ws) d (suc k) have permitted is =
      rows_have ws (written (write.Page (suc n) wanted page) d) k have (λ j v here. permitted (suc j) v here)
      (page_have d n (λ old. (old.0, page)) (λ old. names old.0 wanted) is (slice_get d (suc n)))

  pub have_at : {run : List DiskWrite} {old new : DiskState} {before : Slots} (wrote : Wrote volume_page run old before new) → RootsHave P run → (d : List Sector) (k : ℕ) → old.contents ≡ Some d → P (root_page d)
      → P (root_page (crash_state d wrote.writes k))
  have_at wrote have d k revealed is = rows_have wrote.writes d k (have_writes wrote.writes (subst (RootsHave P) (sym wrote.labels) have)) (λ j w here. wrote.permitted d j w revealed here) is

-- The numbers of a machine.

-- the page of a root with the machine's serial, and the counter of before the call or of after it
pub record PageNumbers (m : Machine) (call : Call) (page : List ℕ) : Type 0 where
  pub same_serial : number_at page 16 ≡ m.serial
  pub counter : (number_at page 20 ≡ m.counter) ⊎ (number_at page 20 ≡ (next m call).counter)

-- a session's disk has the numbers of its machine
pub numbers_at : (spaces_of : TablesMeaning) (old : DiskState) (before : Slots) (m : Machine) (call : Call) → StandsFor spaces_of old before m → (d : List Sector) → old.contents ≡ Some d → AreSectors d → PageNumbers m call (root_page d)
numbers_at spaces_of old before m call stands d revealed are =
    let root = (stands_is_settled spaces_of old before m d stands revealed are).root in
    record { same_serial = root.has_serial; counter = inl root.has_counter }

-- and each crash state has them
pub numbers_stay : (spaces_of : TablesMeaning) (old new : DiskState) (before : Slots) (m : Machine) (call : Call) → StandsFor spaces_of old before m → ((d : List Sector) → old.contents ≡ Some d → AreSectors d) → {run : List DiskWrite} {slots : Slots}
    → (wrote : Wrote volume_page run old slots new) → RootsHave (PageNumbers m call) run → (d : List Sector) (k : ℕ) → old.contents ≡ Some d → HasNumbers m call (crash_state d wrote.writes k)
numbers_stay spaces_of old new before m call stands form wrote have d k revealed =
    let page = have_at (PageNumbers m call) wrote have d k revealed (numbers_at spaces_of old before m call stands d revealed (form d revealed)) in
    record { same_serial = page.same_serial; counter = page.counter }
