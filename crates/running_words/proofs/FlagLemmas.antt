-- The clean flag stays 0 where no root with a set one is written.
use Rattle.std.proofs.Common.{◌≡◌, ◌⊎◌, inl, inr, ℕ, zero, suc, ◌+◌, Bool, true, false, List, [], ◌∷◌, ◌++◌, take, Option, Some, None, refl, sym, ◌∙◌, ap, subst, arith}
use Rattle.std.specs.Prelude.{filter, not, if◌then◌else◌, slice_get, slice_set}
use Rattle.std.specs.Option.{option_map_or}
use Rattle.labelled_disk.specs.declared.disk.DiskWrite.{DiskWrite}
use Rattle.labelled_disk.specs.declared.disk.DiskWrite.TheVariants as write
use Rattle.labelled_disk.specs.declared.label.Label.{Label}
use Rattle.labelled_disk.specs.declared.label.Wanted.{Wanted}
use Rattle.labelled_disk.specs.Label.{names}
use Rattle.labelled_disk.specs.Permitted.{Permitted}
use Rattle.labelled_disk.specs.CrashState.{crash_state, written}
use Rattle.labelled_disk.specs.Root.{root_page, short_at}
use Rattle.labelled_disk.specs.Runs.{growth, creation, freeing, zero_bytes}
use Rattle.labelled_disk.specs.Sectors.{Sector, AreSectors}
use Rattle.labelled_disk.specs.State.{DiskState}
use Rattle.frame_pool.specs.Frames.{Slots}
use Rattle.flat_machine.specs.Machine.{Machine}
use Rattle.swapper_kernel.specs.Goes.{Wrote, is_page_write}
use Rattle.session_words.specs.Parts.{TablesMeaning}
use Rattle.session_words.specs.StandsFor.{StandsFor}
use Rattle.session_words.specs.Volume.{volume_page}
use Rattle.session_words.proofs.LooseLemmas.{stands_is_settled}
use Rattle.volume_root.specs.declared.root.Root.{Root}
use Rattle.volume_root.specs.RootPage.{root_write}
use Rattle.volume_root.proofs.WrittenLemmas.{flag_read}
use Rattle.running_words.specs.Session.{BeginWith}
use Rattle.running_words.specs.Session.{AreOpen}

pub open_writes : (ws : List DiskWrite) → AreOpen (filter (λ w. not (is_page_write w)) ws) → AreOpen ws
open_writes [] opens = tt
open_writes (write.Whole sector label page ∷ ws) opens = (opens.0, open_writes ws opens.1)
open_writes (write.LabelOnly sector label ∷ ws) opens = open_writes ws opens
open_writes (write.Page sector wanted page ∷ ws) opens = open_writes ws opens

pub take_open : (n : ℕ) (ws : List DiskWrite) → AreOpen ws → AreOpen (take n ws)
take_open zero ws opens = tt
take_open (suc n) [] opens = tt
take_open (suc n) (write.Whole sector label page ∷ ws) opens = (opens.0, take_open n ws opens.1)
take_open (suc n) (write.LabelOnly sector label ∷ ws) opens = take_open n ws opens
take_open (suc n) (write.Page sector wanted page ∷ ws) opens = take_open n ws opens

pub append_open : (ws more : List DiskWrite) → AreOpen ws → AreOpen more → AreOpen (ws ++ more)
append_open [] more opens others = others
append_open (write.Whole sector label page ∷ ws) more opens others = (opens.0, append_open ws more opens.1 others)
append_open (write.LabelOnly sector label ∷ ws) more opens others = append_open ws more opens others
append_open (write.Page sector wanted page ∷ ws) more opens others = append_open ws more opens others

zero_flag : short_at zero_bytes 10 ≡ 0
unfolding zero_bytes
zero_flag = refl

pub growth_open : (id kind page : ℕ) (is : List ℕ) → AreOpen (growth id kind page is)
growth_open id kind page [] = tt
growth_open id kind page (i ∷ is) = (zero_flag, growth_open id kind (page + 1) is)

pub creation_open : (id kind leader : ℕ) (is : List ℕ) → AreOpen (creation id kind leader is)
creation_open id kind leader is = (zero_flag, growth_open id kind 0 is)

pub freeing_open : (is : List ℕ) → AreOpen (freeing is)
freeing_open [] = tt
freeing_open (i ∷ is) = freeing_open is

-- a root with the flag 0 among them
pub root_open : (root : Root) (ws : List DiskWrite) → root.clean ≡ false → AreOpen ws → AreOpen (root_write root ∷ ws)
root_open root ws unset opens = (flag_read root ∙ ap (λ (b : Bool). if b then 1 else 0) unset, opens)

whole_flag : (d : List Sector) (sector : ℕ) (x : Sector) → short_at x.1 10 ≡ 0 → short_at (root_page d) 10 ≡ 0 → short_at (root_page (slice_set d sector x)) 10 ≡ 0
whole_flag [] sector x opens is = is
whole_flag (s ∷ rest) zero x opens is = opens
whole_flag (s ∷ rest) (suc n) x opens is = is

label_flag : (d : List Sector) (sector : ℕ) (label : Label) → short_at (root_page d) 10 ≡ 0 → short_at (root_page (written (write.LabelOnly sector label) d)) 10 ≡ 0
label_flag [] sector label is = is
label_flag (s ∷ rest) zero label is = is
label_flag (s ∷ rest) (suc n) label is = by (slice_get rest n)
  where
    by : (o : Option Sector) → short_at (root_page (option_map_or (λ (old : Sector). slice_set (s ∷ rest) (suc n) (label, old.1)) o (s ∷ rest))) 10 ≡ 0
    by None = is
    by (Some old) = is

page_flag : (d : List Sector) (sector : ℕ) (t : Sector → Sector) (f : Sector → Bool) → short_at (root_page d) 10 ≡ 0 → (o : Option Sector)
    → short_at (root_page (option_map_or (λ old. if f old then slice_set d (suc sector) (t old) else d) o d)) 10 ≡ 0
page_flag d sector t f is None = is
page_flag d sector t f is (Some old) = by (f old)
  where
    rest_flag : (d : List Sector) → short_at (root_page d) 10 ≡ 0 → short_at (root_page (slice_set d (suc sector) (t old))) 10 ≡ 0
    rest_flag [] is = is
    rest_flag (s ∷ rest) is = is

    by : (b : Bool) → short_at (root_page (if b then slice_set d (suc sector) (t old) else d)) 10 ≡ 0
    by true = rest_flag d is
    by false = is

pub rows_flag : (ws : List DiskWrite) (d : List Sector) (k : ℕ) → AreOpen ws → ((j : ℕ) (w : DiskWrite) → slice_get ws j ≡ Some w → Permitted (crash_state d ws j) w) → short_at (root_page d) 10 ≡ 0
    → short_at (root_page (crash_state d ws k)) 10 ≡ 0
rows_flag [] d zero opens permitted is = is
rows_flag [] d (suc k) opens permitted is = is
rows_flag (w ∷ ws) d zero opens permitted is = is
rows_flag (write.Whole sector label page ∷ ws) d (suc k) opens permitted is =
    rows_flag ws (written (write.Whole sector label page) d) k opens.1 (λ j v here. permitted (suc j) v here) (whole_flag d sector (label, page) opens.0 is)
rows_flag (write.LabelOnly sector label ∷ ws) d (suc k) opens permitted is =
    rows_flag ws (written (write.LabelOnly sector label) d) k opens (λ j v here. permitted (suc j) v here) (label_flag d sector label is)
rows_flag (write.Page zero wanted page ∷ ws) d (suc k) opens permitted is = absurd (let past = (permitted 0 (write.Page zero wanted page) refl).not_root in omega (arith, past))
rows_flag (write.Page (suc n) wanted page ∷ ws) d (suc k) opens permitted is =
    rows_flag ws (written (write.Page (suc n) wanted page) d) k opens (λ j v here. permitted (suc j) v here)
    (page_flag d n (λ old. (old.0, page)) (λ old. names old.0 wanted) is (slice_get d (suc n)))

pub flag_open : {run : List DiskWrite} {old new : DiskState} {before : Slots} (wrote : Wrote volume_page run old before new) → AreOpen run → (d : List Sector) (k : ℕ) → old.contents ≡ Some d → short_at (root_page d) 10 ≡ 0
    → short_at (root_page (crash_state d wrote.writes k)) 10 ≡ 0
flag_open wrote opens d k revealed is = rows_flag wrote.writes d k (open_writes wrote.writes (subst AreOpen (sym wrote.labels) opens)) (λ j w here. wrote.permitted d j w revealed here) is

-- a root with the flag 0 is written, whatever stood there
pub root_flag : (d : List Sector) (root : Root) → root.clean ≡ false → short_at (root_page (written (root_write root) d)) 10 ≡ 0
root_flag [] root unset = refl
root_flag (s ∷ rest) root unset = (root_open root [] unset tt).0

-- where such a root is the first of what is written, the flag is 0 from then on
pub opened_by : (ws : List DiskWrite) (root : Root) → root.clean ≡ false → BeginWith (root_write root) ws → AreOpen ws → (d : List Sector) → ((j : ℕ) (w : DiskWrite) → slice_get ws j ≡ Some w → Permitted (crash_state d ws j) w)
    → (k : ℕ) → (crash_state d ws k ≡ d) ⊎ (short_at (root_page (crash_state d ws k)) 10 ≡ 0)
opened_by ws root unset (inl none) opens d permitted k = inl (ap (λ (xs : List DiskWrite). crash_state d xs k) none ∙ still k)
  where
    still : (k : ℕ) → crash_state d [] k ≡ d
    still zero = refl
    still (suc k) = refl
opened_by ws root unset (inr some) opens d permitted k =
    subst (λ (xs : List DiskWrite). (crash_state d xs k ≡ d) ⊎ (short_at (root_page (crash_state d xs k)) 10 ≡ 0)) (sym some.1)
    (from (subst AreOpen some.1 opens) (subst (λ (xs : List DiskWrite). (j : ℕ) (w : DiskWrite) → slice_get xs j ≡ Some w → Permitted (crash_state d xs j) w) some.1 permitted) k)
  where
    from : AreOpen (root_write root ∷ some.0) → ((j : ℕ) (w : DiskWrite) → slice_get (root_write root ∷ some.0) j ≡ Some w → Permitted (crash_state d (root_write root ∷ some.0) j) w) → (k : ℕ)
        → (crash_state d (root_write root ∷ some.0) k ≡ d) ⊎ (short_at (root_page (crash_state d (root_write root ∷ some.0) k)) 10 ≡ 0)
    from opens permitted zero = inl refl
    from opens permitted (suc k) = inr (rows_flag some.0 (written (root_write root) d) k opens.1 (λ j v here. permitted (suc j) v here) (root_flag d root unset))

-- writes without one of page bytes are label writes alone
pub labels_alone : (ws : List DiskWrite) → ((k sector : ℕ) (wanted : Wanted) (bytes : List ℕ) → slice_get ws k ≡ Some (write.Page sector wanted bytes) → ⊥) → ws ≡ filter (λ w. not (is_page_write w)) ws
labels_alone [] none = refl
labels_alone (write.Whole sector label page ∷ ws) none = ap (λ (xs : List DiskWrite). write.Whole sector label page ∷ xs) (labels_alone ws (λ k i wanted bytes here. none (suc k) i wanted bytes here))
labels_alone (write.LabelOnly sector label ∷ ws) none = ap (λ (xs : List DiskWrite). write.LabelOnly sector label ∷ xs) (labels_alone ws (λ k i wanted bytes here. none (suc k) i wanted bytes here))
labels_alone (write.Page sector wanted page ∷ ws) none = absurd (none zero sector wanted page refl)

-- the clean flag of a session's disk is 0
pub flag_at : (spaces_of : TablesMeaning) (old : DiskState) (before : Slots) (m : Machine) → StandsFor spaces_of old before m → (d : List Sector) → old.contents ≡ Some d → AreSectors d → short_at (root_page d) 10 ≡ 0
flag_at spaces_of old before m stands d revealed are = (stands_is_settled spaces_of old before m d stands revealed are).root.open_flag
