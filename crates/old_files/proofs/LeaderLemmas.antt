-- The leaders of the old files, from their list.
use Rattle.std.proofs.Common.{◌≡◌, ◌≢◌, ℕ, zero, suc, ◌+◌, ◌<◌, true, List, [], ◌∷◌, map, Option, Some, None, refl, sym, ◌∙◌, ap, subst, arith, eqb}
use Rattle.std.specs.Prelude.{slice_get, option_map, nat_lt, if◌then◌else◌, ◌&&◌, ◌/◌, ◌%◌}
use Rattle.std.specs.List.{AllByRecursion}
use Rattle.std.proofs.lemmas.Option.{same_Some, none-some, slice_get-map}
use Rattle.std.proofs.lemmas.Bool.{and_parts, eqb-true, ltb-true}
use Rattle.labelled_disk.specs.declared.label.Label.{Label}
use Rattle.labelled_disk.specs.Label.{is_file, is_file_id, is_permanent, leader_page}
use Rattle.labelled_disk.specs.Sectors.{Sector}
use Rattle.labelled_disk.specs.Layout.{data_sectors}
use Rattle.labelled_disk.specs.File.{File, file_at}
use Rattle.labelled_disk.specs.Ascending.{AreAscending}
use Rattle.labelled_disk.proofs.Finds.{found_at}
use Rattle.labelled_disk.proofs.AscendingLemmas.{at_head, at_tail}
use Rattle.old_files.specs.OldFiles.{heads, heads_file, head_among, old_file_by, files_old}
use Rattle.old_files.specs.Laws.{as_leader}
use Rattle.old_files.specs.Placing.{leader_of, old_leaders, OldLeadersAre}
use Rattle.old_files.proofs.OldLemmas.{old_files_are_those}

-- the flags of a file are two
two_flags : (n : ℕ) → n < 4 → (if eqb (n % 2) 1 then 1 else 0) + (if eqb (n / 2 % 2) 1 then 2 else 0) ≡ n
two_flags zero l = refl
two_flags (suc zero) l = refl
two_flags (suc (suc zero)) l = refl
two_flags (suc (suc (suc zero))) l = refl
two_flags (suc (suc (suc (suc n)))) l = absurd (omega (arith, l))

-- the leader of a file has the label of its page 0 but for the page
pub leader_same : (xs : List Sector) (l : Label) → is_file l ≡ true → leader_of (old_file_by xs l) ≡ as_leader l
leader_same xs l file =
    let a = and_parts (is_file_id l.id && nat_lt l.flags 4) (eqb l.last 0) file in
    let b = and_parts (is_file_id l.id) (nat_lt l.flags 4) a.0 in
    let flags = two_flags l.flags (ltb-true l.flags 4 b.1) in
    let last = eqb-true l.last 0 a.1 in
    λ i. record { id = l.id; page = leader_page; kind = l.kind; flags = flags i; last = sym last i }

pub head_is : (id : ℕ) (s : Sector) → heads_file id s ≡ true → (is_file s.0 ≡ true) × (s.0.id ≡ id)
head_is id s h =
    let a = and_parts (heads s) (eqb s.0.id id) h in
    let b = and_parts (is_file s.0 && eqb s.0.page 0) (is_permanent s.0) a.0 in
    let c = and_parts (is_file s.0) (eqb s.0.page 0) b.0 in
    (c.0, eqb-true s.0.id id a.1)

-- a file of an ascending list is the one that is looked up by its identifier
pub looked_up : (fs : List File) → AreAscending fs → (k : ℕ) (f : File) → slice_get fs k ≡ Some f → file_at fs f.id ≡ Some f
looked_up [] up k f here = absurd (none-some f here)
looked_up (g ∷ gs) up zero f here = subst (λ (h : File). file_at (g ∷ gs) h.id ≡ Some h) (same_Some g f here) (at_head g gs)
looked_up (g ∷ gs) up (suc k) f here = at_tail g gs f.id (above gs k up.0 here) ∙ looked_up gs up.1 k f here
  where
    above : (hs : List File) (j : ℕ) → AllByRecursion (λ y. g.id < y) (map (λ h. h.id) hs) → slice_get hs j ≡ Some f → g.id ≢ f.id
    above [] j all at = absurd (none-some f at)
    above (h ∷ hs) zero all at = λ same. absurd (omega (arith, all.0, same, ap (λ (e : File). e.id) (same_Some h f at)))
    above (h ∷ hs) (suc j) all at = above hs j all.1 at

-- what is looked up stands in the list
pub looked_at : (fs : List File) (id : ℕ) (f : File) → file_at fs id ≡ Some f → (k : ℕ) × (slice_get fs k ≡ Some f)
looked_at fs id f is = let a = found_at (λ (g : File). eqb g.id id) fs f is in (a.0, a.1)

-- in an ascending list no identifier comes twice
pub ascending_once : (fs : List File) → AreAscending fs → (j k : ℕ) (a b : File) → slice_get fs j ≡ Some a → slice_get fs k ≡ Some b → a.id ≡ b.id → j ≡ k
ascending_once [] up j k a b at_j at_k same = absurd (none-some a at_j)
ascending_once (f ∷ fs) up zero zero a b at_j at_k same = refl
ascending_once (f ∷ fs) up zero (suc k) a b at_j at_k same = absurd (above fs k b up.0 at_k (ap (λ (e : File). e.id) (same_Some f a at_j) ∙ same))
  where
    above : (hs : List File) (k : ℕ) (b : File) → AllByRecursion (λ y. f.id < y) (map (λ h. h.id) hs) → slice_get hs k ≡ Some b → f.id ≢ b.id
    above [] k b all at = absurd (none-some b at)
    above (h ∷ hs) zero b all at = λ same. absurd (omega (arith, all.0, same, ap (λ (e : File). e.id) (same_Some h b at)))
    above (h ∷ hs) (suc k) b all at = above hs k b all.1 at
ascending_once (f ∷ fs) up (suc j) zero a b at_j at_k same = absurd (above fs j a up.0 at_j (ap (λ (e : File). e.id) (same_Some f b at_k) ∙ sym same))
  where
    above : (hs : List File) (k : ℕ) (b : File) → AllByRecursion (λ y. f.id < y) (map (λ h. h.id) hs) → slice_get hs k ≡ Some b → f.id ≢ b.id
    above [] k b all at = absurd (none-some b at)
    above (h ∷ hs) zero b all at = λ same. absurd (omega (arith, all.0, same, ap (λ (e : File). e.id) (same_Some h b at)))
    above (h ∷ hs) (suc k) b all at = above hs k b all.1 at
ascending_once (f ∷ fs) up (suc j) (suc k) a b at_j at_k same = ap (λ (n : ℕ). suc n) (ascending_once fs up.1 j k a b at_j at_k same)

from_map : (fs : List File) (k : ℕ) (l : Label) → slice_get (map leader_of fs) k ≡ Some l → (f : File) × (slice_get fs k ≡ Some f) × (l ≡ leader_of f)
from_map [] k l at = absurd (none-some l at)
from_map (f ∷ fs) zero l at = (f, refl, sym (same_Some (leader_of f) l at))
from_map (f ∷ fs) (suc k) l at = from_map fs k l at

module _ (d : List Sector) where
  abbrev xs : List Sector
  xs = data_sectors d

  -- the file of a head
  of_head : (id : ℕ) (s : Sector) → head_among xs id ≡ Some s → file_at (files_old d) id ≡ Some (old_file_by xs s.0)
  of_head id s is = (old_files_are_those d).each id ∙ ap (λ (o : Option Sector). option_map (old_file_by xs) (option_map (λ t. t.0) o)) is

  -- the head of a file
  has_head : (id : ℕ) (f : File) → file_at (files_old d) id ≡ Some f → (s : Sector) × (head_among xs id ≡ Some s) × (f ≡ old_file_by xs s.0)
  has_head id f is = by (head_among xs id) refl (sym ((old_files_are_those d).each id) ∙ is)
    where
      by : (o : Option Sector) → head_among xs id ≡ o → option_map (old_file_by xs) (option_map (λ t. t.0) (head_among xs id)) ≡ Some f → (s : Sector) × (head_among xs id ≡ Some s) × (f ≡ old_file_by xs s.0)
      by None e h = absurd (none-some f (sym (ap (λ (o : Option Sector). option_map (old_file_by xs) (option_map (λ t. t.0) o)) e) ∙ h))
      by (Some s) e h = (s, e, sym (same_Some (old_file_by xs s.0) f (sym (ap (λ (o : Option Sector). option_map (old_file_by xs) (option_map (λ t. t.0) o)) e) ∙ h)))

  each : (k : ℕ) (l : Label) → slice_get (old_leaders d) k ≡ Some l → (s : Sector) × (head_among xs l.id ≡ Some s) × (l ≡ as_leader s.0)
  each k l at =
      let f = from_map (files_old d) k l at in
      let h = has_head f.0.id f.0 (looked_up (files_old d) (old_files_are_those d).rise k f.0 f.1) in
      let found = found_at (heads_file f.0.id) xs h.0 h.1 in
      let file = (head_is f.0.id h.0 found.2).0 in
      (h.0, ap (λ (m : Label). head_among xs m.id) f.2 ∙ h.1, f.2 ∙ ap leader_of h.2 ∙ leader_same xs h.0.0 file)

  all : (id : ℕ) (s : Sector) → head_among xs id ≡ Some s → (k : ℕ) × (slice_get (old_leaders d) k ≡ Some (as_leader s.0))
  all id s is =
      let a = looked_at (files_old d) id (old_file_by xs s.0) (of_head id s is) in
      let found = found_at (heads_file id) xs s is in
      let file = (head_is id s found.2).0 in
      (a.0, slice_get-map leader_of (files_old d) a.0 ∙ ap (option_map leader_of) a.1 ∙ ap (λ (l : Label). Some l) (leader_same xs s.0 file))

  once : (j k : ℕ) (a b : Label) → slice_get (old_leaders d) j ≡ Some a → slice_get (old_leaders d) k ≡ Some b → a.id ≡ b.id → j ≡ k
  once j k a b at_j at_k same =
      let f = from_map (files_old d) j a at_j in
      let g = from_map (files_old d) k b at_k in
      ascending_once (files_old d) (old_files_are_those d).rise j k f.0 g.0 f.1 g.1 (sym (ap (λ (m : Label). m.id) f.2) ∙ same ∙ ap (λ (m : Label). m.id) g.2)

pub old_leaders_are : OldLeadersAre
old_leaders_are d = record { each = each d; all = all d; once = once d }
