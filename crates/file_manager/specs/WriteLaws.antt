-- Writes in a row: which are of labels, what gives a sector to a page or gives it up, and what is so of a write by its turn.
use Rattle.std.proofs.Common.{◌≡◌, ◌⊎◌, inl, inr, ℕ, zero, suc, ◌+◌, ◌<◌, ◌≤◌, Bool, true, false, not, List, [], ◌∷◌, ◌++◌, drop, length, Some, refl, sym, ◌∙◌, ap, arith}
use Rattle.std.specs.Prelude.{slice_get, filter}
use Rattle.std.proofs.lemmas.Bool.{true≢false}
use Rattle.std.proofs.lemmas.Option.{same_Some, none-some, slice_get_within}
use Rattle.labelled_disk.specs.declared.disk.DiskWrite.{DiskWrite}
use Rattle.labelled_disk.specs.declared.disk.DiskWrite.TheVariants as write
use Rattle.labelled_disk.specs.declared.label.Label.{Label}
use Rattle.labelled_disk.specs.Sectors.{free_label}
use Rattle.frame_pool.specs.declared.home.Home.{Home}
use Rattle.swapper_kernel.specs.Goes.{is_page_write}
use Rattle.volume_root.specs.declared.root.Root.{Root}
use Rattle.file_manager.specs.Creating.{next_id}
use Rattle.file_manager.specs.Reasons.{Gives, GivesOut, GivesUp, HasRoot, IsAt, IsOne, Releases, Takes}

-- ---- Rows of writes.

pub get_prefix : (xs ys : List DiskWrite) (k : ℕ) (w : DiskWrite) → slice_get xs k ≡ Some w → slice_get (xs ++ ys) k ≡ Some w
get_prefix [] ys k w at = absurd (none-some w at)
get_prefix (x ∷ xs) ys zero w at = at
get_prefix (x ∷ xs) ys (suc k) w at = get_prefix xs ys k w at

pub get_end : (xs ys : List DiskWrite) (k : ℕ) (w : DiskWrite) → slice_get ys k ≡ Some w → (j : ℕ) × (j ≡ length xs + k) × (slice_get (xs ++ ys) j ≡ Some w)
get_end [] ys k w at = (k, omega arith, at)
get_end (x ∷ xs) ys k w at = let rest = get_end xs ys k w at in let same = rest.1 in (suc rest.0, omega (arith, same), rest.2)

-- what stands in two rows stands in one of them
pub get_either : (xs ys : List DiskWrite) (k : ℕ) (w : DiskWrite) → slice_get (xs ++ ys) k ≡ Some w → (slice_get xs k ≡ Some w) ⊎ ((j : ℕ) × (k ≡ length xs + j) × (slice_get ys j ≡ Some w))
get_either [] ys k w at = inr (k, omega arith, at)
get_either (x ∷ xs) ys zero w at = inl at
get_either (x ∷ xs) ys (suc k) w at = elim (get_either xs ys k w at) [ inl was ↦ inl was | inr (j, same, here) ↦ inr (j, omega (arith, same), here) ]

-- what stands after the same writes is the same
pub same_end : (xs ys zs : List DiskWrite) → xs ++ ys ≡ xs ++ zs → ys ≡ zs
same_end [] ys zs same = same
same_end (x ∷ xs) ys zs same = same_end xs ys zs (ap (λ (l : List DiskWrite). drop 1 l) same)

-- ---- Writes of labels.

-- those of them that are of labels
abbrev pub labels_in : List DiskWrite → List DiskWrite
labels_in ws = filter (λ w. not (is_page_write w)) ws

-- each write of a label before one place of them is before that place of the row of labels
abbrev pub AreBefore : List DiskWrite → List DiskWrite → ℕ → ℕ → Type 0
AreBefore ws labels j k = (i : ℕ) (v : DiskWrite) → i < j → slice_get ws i ≡ Some v → is_page_write v ≡ false → (m : ℕ) × (m < k) × (slice_get labels m ≡ Some v)

prefix_of_page : (w : DiskWrite) (ws labels : List DiskWrite) (j k : ℕ) → is_page_write w ≡ true → AreBefore ws labels j k → AreBefore (w ∷ ws) labels (suc j) k
prefix_of_page w ws labels j k page rest zero v below at label = absurd (true≢false (sym page ∙ ap is_page_write (same_Some w v at) ∙ label))
prefix_of_page w ws labels j k page rest (suc i) v below at label = rest i v (omega (arith, below)) at label

prefix_of_label : (w : DiskWrite) (ws labels : List DiskWrite) (j k : ℕ) → AreBefore ws labels j k → AreBefore (w ∷ ws) (w ∷ labels) (suc j) (suc k)
prefix_of_label w ws labels j k rest zero v below at label = (zero, omega arith, at)
prefix_of_label w ws labels j k rest (suc i) v below at label = let m = rest i v (omega (arith, below)) at label in let first = m.1 in (suc m.0, omega (arith, first), m.2)

-- a write of a label is one of the writes, and those before it are before it in both rows
pub label_among : (ws : List DiskWrite) (k : ℕ) (w : DiskWrite) → slice_get (labels_in ws) k ≡ Some w → (j : ℕ) × (slice_get ws j ≡ Some w) × AreBefore ws (labels_in ws) j k
label_among [] k w at = absurd (none-some w at)
label_among (write.Page sector wanted bytes ∷ ws) k w at =
    let rest = label_among ws k w at in (suc rest.0, rest.1, prefix_of_page (write.Page sector wanted bytes) ws (labels_in ws) rest.0 k refl rest.2)
label_among (write.Whole sector label bytes ∷ ws) zero w at = (zero, at, λ i v below. absurd (omega (arith, below)))
label_among (write.Whole sector label bytes ∷ ws) (suc k) w at =
    let rest = label_among ws k w at in (suc rest.0, rest.1, prefix_of_label (write.Whole sector label bytes) ws (labels_in ws) rest.0 k rest.2)
label_among (write.LabelOnly sector label ∷ ws) zero w at = (zero, at, λ i v below. absurd (omega (arith, below)))
label_among (write.LabelOnly sector label ∷ ws) (suc k) w at =
    let rest = label_among ws k w at in (suc rest.0, rest.1, prefix_of_label (write.LabelOnly sector label) ws (labels_in ws) rest.0 k rest.2)

-- and each write among them that is not of a page is one of the writes of labels
pub label_back : (ws : List DiskWrite) (k : ℕ) (w : DiskWrite) → slice_get ws k ≡ Some w → is_page_write w ≡ false → (j : ℕ) × (slice_get (labels_in ws) j ≡ Some w)
label_back [] k w at label = absurd (none-some w at)
label_back (write.Page sector wanted bytes ∷ ws) zero w at label = absurd (true≢false (ap is_page_write (same_Some (write.Page sector wanted bytes) w at) ∙ label))
label_back (write.Page sector wanted bytes ∷ ws) (suc k) w at label = label_back ws k w at label
label_back (write.Whole sector l bytes ∷ ws) zero w at label = (zero, at)
label_back (write.Whole sector l bytes ∷ ws) (suc k) w at label = let rest = label_back ws k w at label in (suc rest.0, rest.1)
label_back (write.LabelOnly sector l ∷ ws) zero w at label = (zero, at)
label_back (write.LabelOnly sector l ∷ ws) (suc k) w at label = let rest = label_back ws k w at label in (suc rest.0, rest.1)

-- where no label was written, each write is of a page
pub no_label : (ws : List DiskWrite) (k : ℕ) (w : DiskWrite) → labels_in ws ≡ [] → slice_get ws k ≡ Some w → is_page_write w ≡ false → ⊥
no_label ws k w none at label = let there = label_back ws k w at label in none-some w (ap (λ (labels : List DiskWrite). slice_get labels there.0) (sym none) ∙ there.1)

-- ---- Writes that give a sector to a page, give one up, or have a root.

-- none of the writes gives the home's sector to its page
abbrev pub GivesNot : List DiskWrite → Home → Type 0
GivesNot run home = (turn : ℕ) (w : DiskWrite) → slice_get run turn ≡ Some w → Gives home w → ⊥

-- none of them gives the sector to any page
abbrev pub TakesNot : List DiskWrite → ℕ → Type 0
TakesNot run sector = (turn : ℕ) (w : DiskWrite) → slice_get run turn ≡ Some w → Takes sector w → ⊥

-- none of them gives the sector up
abbrev pub UpNot : List DiskWrite → ℕ → Type 0
UpNot run sector = (turn : ℕ) (w : DiskWrite) → slice_get run turn ≡ Some w → GivesUp sector w → ⊥

-- each root of theirs gives out only lower identifiers than this one
abbrev pub RootsBelow : ℕ → List DiskWrite → Type 0
RootsBelow next run = (root : Root) (turn : ℕ) → HasRoot root run turn → next_id root ≤ next

pub takes_not : (run : List DiskWrite) (sector : ℕ) → ((id page : ℕ) → GivesNot run (record { sector = sector; id = id; page = page })) → TakesNot run sector
takes_not run sector none turn w at takes = none takes.0 takes.1 turn w at takes.2

-- where a write goes
abbrev pub sector_of : DiskWrite → ℕ
sector_of (write.Whole sector label bytes) = sector
sector_of (write.LabelOnly sector label) = sector
sector_of (write.Page sector wanted bytes) = sector

-- a write of a label alone gives no sector to a page, and has no root; one of a whole sector gives none up
abbrev is_whole : DiskWrite → Bool
is_whole (write.Whole sector label bytes) = true
is_whole (write.LabelOnly sector label) = false
is_whole (write.Page sector wanted bytes) = false

pub label_gives_not : (sector : ℕ) (label : Label) (home : Home) → Gives home (write.LabelOnly sector label) → ⊥
label_gives_not sector label home (kind, is) = true≢false (sym (ap is_whole is))

pub whole_not_up : (sector : ℕ) (label : Label) (bytes : List ℕ) (other : ℕ) → GivesUp other (write.Whole sector label bytes) → ⊥
whole_not_up sector label bytes other is = true≢false (ap is_whole is)

-- no write at all has a root
pub no_roots : (next : ℕ) → RootsBelow next []
no_roots next root turn (label, (page, (at, is))) = absurd (none-some (write.Whole 0 label page) at)

-- nor has one of a label alone
pub label_no_root : (next sector : ℕ) (label : Label) → RootsBelow next (write.LabelOnly sector label ∷ [])
label_no_root next sector label root zero (other, (page, (at, is))) = absurd (true≢false (sym (ap is_whole (same_Some (write.LabelOnly sector label) (write.Whole 0 other page) at))))
label_no_root next sector label root (suc turn) (other, (page, (at, is))) = absurd (none-some (write.Whole 0 other page) at)

-- all these are writes of labels
pub takes_label : (sector : ℕ) (w : DiskWrite) → Takes sector w → is_page_write w ≡ false
takes_label sector w (id, page, (kind, is)) = ap is_page_write is

pub gives_up_label : (sector : ℕ) (w : DiskWrite) → GivesUp sector w → is_page_write w ≡ false
gives_up_label sector w is = ap is_page_write is

pub gives_label : (home : Home) (w : DiskWrite) → Gives home w → is_page_write w ≡ false
gives_label home w (kind, is) = ap is_page_write is

-- ---- What is so of a write by its turn.

-- it stays so where writes follow
abbrev pub Stays : (List DiskWrite → ℕ → Type 0) → Type 0
Stays is = (xs ys : List DiskWrite) (turn : ℕ) → is xs turn → is (xs ++ ys) turn

-- and it was so before those that follow, where none of them is of a label
abbrev pub WasSo : (List DiskWrite → ℕ → Type 0) → Type 0
WasSo is = (xs ys : List DiskWrite) (turn : ℕ) → labels_in ys ≡ [] → is (xs ++ ys) turn → is xs turn

pub at_stays : (w : DiskWrite) → Stays (IsAt w)
at_stays w xs ys turn at = get_prefix xs ys turn w at

pub at_was : (w : DiskWrite) → is_page_write w ≡ false → WasSo (IsAt w)
at_was w label xs ys turn none at = elim (get_either xs ys turn w at) [ inl was ↦ was | inr (j, same, here) ↦ absurd (no_label ys j w none here label) ]

pub one_stays : (does : DiskWrite → Type 0) → Stays (IsOne does)
one_stays does xs ys turn (w, evidence_seen, at) = (w, evidence_seen, get_prefix xs ys turn w at)

pub one_was : (does : DiskWrite → Type 0) → ((w : DiskWrite) → does w → is_page_write w ≡ false) → WasSo (IsOne does)
one_was does label xs ys turn none (w, evidence_seen, at) = (w, evidence_seen, at_was w (label w evidence_seen) xs ys turn none at)

pub root_stays : (root : Root) → Stays (HasRoot root)
root_stays root xs ys turn (label, (page, (at, is))) = (label, (page, (get_prefix xs ys turn (write.Whole 0 label page) at, is)))

pub root_was : (root : Root) → WasSo (HasRoot root)
root_was root xs ys turn none (label, (page, (at, is))) = (label, (page, (at_was (write.Whole 0 label page) refl xs ys turn none at, is)))

-- a root that stands before another write of the first row is of that row
root_before : (root : Root) (xs ys : List DiskWrite) (earlier turn : ℕ) (w : DiskWrite) → slice_get xs turn ≡ Some w → earlier < turn → HasRoot root (xs ++ ys) earlier → HasRoot root xs earlier
root_before root xs ys earlier turn w there before (label, (page, (at, is))) = elim (get_either xs ys earlier (write.Whole 0 label page) at) [
  | inl was ↦ (label, (page, (was, is)))
  | inr (j, same, here) ↦ let within : turn < length xs = slice_get_within xs turn w there in absurd (omega (arith, before, same, within))
]

gives_out_stays : (old : Root) (id : ℕ) → Stays (GivesOut old id)
gives_out_stays old id xs ys turn h = record {
  root = h.root;
  is = root_stays h.root xs ys turn h.is;
  counts = h.counts;
  first = λ earlier other before has. h.first earlier other before (root_before other xs ys earlier turn (write.Whole 0 h.is.0 h.is.1.0) h.is.1.1.0 before has);
}

gives_out_was : (old : Root) (id : ℕ) → WasSo (GivesOut old id)
gives_out_was old id xs ys turn none h = record {
  root = h.root;
  is = root_was h.root xs ys turn none h.is;
  counts = h.counts;
  first = λ earlier other before has. h.first earlier other before (root_stays other xs ys earlier has);
}

pub releases_stays : (lied : Type 0) (old : Root) (home : Home) → Stays (Releases lied old home)
releases_stays lied old home xs ys turn (inl up) = inl (at_stays (write.LabelOnly home.sector free_label) xs ys turn up)
releases_stays lied old home xs ys turn (inr (had, out)) = inr (had, gives_out_stays old home.id xs ys turn out)

pub releases_was : (lied : Type 0) (old : Root) (home : Home) → WasSo (Releases lied old home)
releases_was lied old home xs ys turn none (inl up) = inl (at_was (write.LabelOnly home.sector free_label) refl xs ys turn none up)
releases_was lied old home xs ys turn none (inr (had, out)) = inr (had, gives_out_was old home.id xs ys turn none out)
