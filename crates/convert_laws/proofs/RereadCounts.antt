-- Counts of the old files, by the labels read as those of today.
use Rattle.std.proofs.Common.{◌≡◌, ℕ, zero, suc, ◌+◌, ◌-◌, ◌<◌, ◌≤◌, Bool, true, false, not, ◌&&◌, List, [], ◌∷◌, length, drop, Option, Some, None, refl, sym, ◌∙◌, ap, subst, arith, eqb}
use Rattle.std.specs.Prelude.{option_map, if◌then◌else◌, sum_by, find}
use Rattle.std.specs.List.{AllZip}
use Rattle.std.proofs.lemmas.List.{length-map}
use Rattle.std.proofs.lemmas.List.Sums.{sum_by-cons}
use Rattle.std.proofs.lemmas.Option.{same_Some, none-some}
use Rattle.labelled_disk.specs.Label.{leader_page}
use Rattle.labelled_disk.specs.Layout.{data_sectors, first_data}
use Rattle.labelled_disk.specs.File.{File, size, file_at}
use Rattle.labelled_disk.specs.FilesOn.{files_on, file_among, file_by, page_at, pages_from, leads_file}
use Rattle.labelled_disk.specs.Lowest.{is_needed}
use Rattle.labelled_disk.specs.Ascending.{BothBy}
use Rattle.labelled_disk.specs.Sectors.{Sector}
use Rattle.labelled_disk.proofs.Finds.{found_at}
use Rattle.labelled_disk.proofs.AscendingLemmas.{zip_by_look_up, at_id}
use Rattle.labelled_disk.proofs.WriteLemmas as laws
use Rattle.label_laws.specs.Counts.{places, data_places, needs_place, total_pages}
use Rattle.label_laws.proofs.CountLemmas.{count_laws}
use Rattle.old_files.specs.OldFiles.{files_old, heads_file, is_old_needed}
use Rattle.old_files.specs.Placing.{spare_below}
use Rattle.old_files.specs.Reread.{reread, all_reread, label_before, IsShort, RereadLaws}
use Rattle.old_files.proofs.LeaderLemmas.{head_is}
use Rattle.old_files.proofs.OldLemmas.{old_files_are_those}
use Rattle.old_files.proofs.RereadLemmas.{reread_as_today, find_reread, leads_reread}
use Rattle.convert_laws.specs.Orders.{needs_old}

-- Lists.

drop_reread : (n : ℕ) (xs : List Sector) → drop n (all_reread xs) ≡ all_reread (drop n xs)
drop_reread zero xs = refl
drop_reread (suc n) [] = refl
drop_reread (suc n) (x ∷ xs) = drop_reread n xs

pub reread_long : (d : List Sector) → length (all_reread d) ≡ length d
reread_long d = length-map d reread

pub reread_data : (d : List Sector) → data_sectors (all_reread d) ≡ all_reread (data_sectors d)
reread_data d = ap (λ (n : ℕ). drop (first_data n) (all_reread d)) (reread_long d) ∙ drop_reread (first_data (length d)) d

-- the places of those that pass, read so
pub places_reread : (test old : ℕ → Sector → Bool) (n : ℕ) (xs : List Sector) → ((i : ℕ) (s : Sector) → test i (reread s) ≡ old i s) → places test n (all_reread xs) ≡ places old n xs
places_reread test old n [] same = refl
places_reread test old n (x ∷ xs) same = rw (same n x) (either (old n x) (places_reread test old (n + 1) xs same))
  where
    either : (b : Bool) → places test (n + 1) (all_reread xs) ≡ places old (n + 1) xs
        → (if b then n ∷ places test (n + 1) (all_reread xs) else places test (n + 1) (all_reread xs)) ≡ (if b then n ∷ places old (n + 1) xs else places old (n + 1) xs)
    either true e = ap (λ (l : List ℕ). n ∷ l) e
    either false e = e

-- those that pass are those of two kinds
places_split : (test kind : ℕ → Sector → Bool) (n : ℕ) (xs : List Sector)
    → length (places (λ i s. test i s && kind i s) n xs) + length (places (λ i s. test i s && not (kind i s)) n xs) ≡ length (places test n xs)
places_split test kind n [] = refl
places_split test kind n (x ∷ xs) = either (test n x) (kind n x) (places_split test kind (n + 1) xs)
  where
    either : (p q : Bool) → length (places (λ i s. test i s && kind i s) (n + 1) xs) + length (places (λ i s. test i s && not (kind i s)) (n + 1) xs) ≡ length (places test (n + 1) xs)
        → length (if p && q then n ∷ places (λ i s. test i s && kind i s) (n + 1) xs else places (λ i s. test i s && kind i s) (n + 1) xs)
        + length (if p && not q then n ∷ places (λ i s. test i s && not (kind i s)) (n + 1) xs else places (λ i s. test i s && not (kind i s)) (n + 1) xs)
        ≡ length (if p then n ∷ places test (n + 1) xs else places test (n + 1) xs)
    either true true e = omega (arith, e)
    either true false e = omega (arith, e)
    either false q e = e

places_few : (test : ℕ → Sector → Bool) (n : ℕ) (xs : List Sector) → length (places test n xs) ≤ length xs
places_few test n [] = omega arith
places_few test n (x ∷ xs) = either (test n x) (places_few test (n + 1) xs)
  where
    either : (b : Bool) → length (places test (n + 1) xs) ≤ length xs → length (if b then n ∷ places test (n + 1) xs else places test (n + 1) xs) ≤ suc (length xs)
    either true e = omega (arith, e)
    either false e = omega (arith, e)

-- the size of one is no more than that of all
size_within : (fs : List File) (id : ℕ) (f : File) → file_at fs id ≡ Some f → size f ≤ total_pages fs
size_within [] id f is = absurd (none-some f is)
size_within (g ∷ gs) id f is = either (eqb g.id id) is (size_within gs id f)
  where
    sum : sum_by size (g ∷ gs) ≡ size g + sum_by size gs
    sum = sum_by-cons size g gs

    either : (b : Bool) → (if b then Some g else file_at gs id) ≡ Some f → (file_at gs id ≡ Some f → size f ≤ total_pages gs) → size f ≤ total_pages (g ∷ gs)
    either true e more = let s = sum_by-cons size g gs in omega (arith, s, ap (λ (h : File). size h) (same_Some g f e))
    either false e more = let s = sum_by-cons size g gs in let m = more e in omega (arith, s, m)

-- a file with one page more
abbrev IsOneMore : File → File → Type 0
IsOneMore f g = (f.id ≡ g.id) × (size f + 1 ≡ size g)

zipped_counts : (fs gs : List File) → AllZip (λ f g. (f.id ≡ g.id) × (size f + 1 ≡ size g)) fs gs → (length fs ≡ length gs) × (length fs + total_pages fs ≡ total_pages gs)
zipped_counts [] [] z = (refl, refl)
zipped_counts [] (g ∷ gs) z = absurd z
zipped_counts (f ∷ fs) [] z = absurd z
zipped_counts (f ∷ fs) (g ∷ gs) z =
    let more = zipped_counts fs gs z.1 in
    let a = sum_by-cons size f fs in
    let b = sum_by-cons size g gs in
    (omega (arith, more.0), omega (arith, more.1, a, b, z.0.1))

-- how many of the places k, k + 1, .. are not needed, so many of them
abbrev gaps_to : (ℕ → Bool) → ℕ → ℕ → ℕ
gaps_to needed k zero = 0
gaps_to needed k (suc m) = (if needed k then 0 else 1) + gaps_to needed (k + 1) m

gaps_end : (needed : ℕ → Bool) (k m : ℕ) → gaps_to needed k (suc m) ≡ gaps_to needed k m + (if needed (k + m) then 0 else 1)
gaps_end needed k zero = let z : k ≡ k + 0 = omega arith in ap (λ (n : ℕ). (if needed n then 0 else 1) + 0) z ∙ omega arith
gaps_end needed k (suc m) =
    let z : k + 1 + m ≡ k + suc m = omega arith in
    let more = gaps_end needed (k + 1) m ∙ ap (λ (n : ℕ). gaps_to needed (k + 1) m + (if needed n then 0 else 1)) z in
    omega (arith, more)

-- the others are those that pass
counted : (needed : ℕ → Bool) (first k : ℕ) (test : ℕ → Bool) → ((j : ℕ) → test (first + j) ≡ needed j) → (ys : List Sector)
    → gaps_to needed k (length ys) + length (places (λ i s. test i) (first + k) ys) ≡ length ys
counted needed first k test same [] = refl
counted needed first k test same (y ∷ ys) =
    let z : first + k + 1 ≡ first + (k + 1) = omega arith in
    rw (same k) (either (needed k) (counted needed first (k + 1) test same ys) (ap (λ (n : ℕ). places (λ i s. test i) n ys) z))
  where
    either : (b : Bool) → gaps_to needed (k + 1) (length ys) + length (places (λ i s. test i) (first + (k + 1)) ys) ≡ length ys
        → places (λ i s. test i) (first + k + 1) ys ≡ places (λ i s. test i) (first + (k + 1)) ys
        → (if b then 0 else 1) + gaps_to needed (k + 1) (length ys) + length (if b then (first + k) ∷ places (λ i s. test i) (first + k + 1) ys else places (λ i s. test i) (first + k + 1) ys) ≡ suc (length ys)
    either true e q = let l = ap (λ (l : List ℕ). length l) q in omega (arith, e, l)
    either false e q = let l = ap (λ (l : List ℕ). length l) q in omega (arith, e, l)

module _ (d : List Sector) (few : length d < leader_page) where
  abbrev xs : List Sector
  xs = data_sectors d

  few_data : length (data_sectors (all_reread d)) ≤ length d
  few_data = ap_le (reread_data d)
    where
      dropped : (n : ℕ) (ys : List Sector) → length (drop n ys) ≤ length ys
      dropped zero ys = omega arith
      dropped (suc n) [] = omega arith
      dropped (suc n) (y ∷ ys) = let m = dropped n ys in omega (arith, m)

      ap_le : data_sectors (all_reread d) ≡ all_reread (data_sectors d) → length (data_sectors (all_reread d)) ≤ length d
      ap_le e = let m = dropped (first_data (length (all_reread d))) (all_reread d) in omega (arith, m, reread_long d)

  -- of all files together, no more pages than sectors
  pages_few : total_pages (files_on (all_reread d)) ≤ length d
  pages_few = let m = places_few (λ i s. needs_place false (all_reread d) i && not (eqb s.0.page leader_page)) (first_data (length (all_reread d))) (data_sectors (all_reread d)) in
      omega (arith, m, few_data, (count_laws false).pages (all_reread d))

  pub is_short : IsShort xs
  is_short id h head =
      let found = found_at (heads_file id) xs h head in
      let own : h.0.id ≡ id = (head_is id h found.2).1 in
      let leads : find (leads_file false id) (all_reread xs) ≡ Some (reread h) = find_reread (leads_file false id) (heads_file id) (leads_reread id) xs ∙ ap (option_map reread) head in
      let file : file_at (files_on (all_reread d)) id ≡ Some (file_by (all_reread xs) (label_before h.0)) =
      laws.look_up false 0 0 (all_reread d) id ∙ ap (λ (l : List Sector). file_among false l id) (reread_data d)
      ∙ ap (λ (o : Option Sector). option_map (file_by (all_reread xs)) (option_map (λ s. s.0) o)) leads in
      let most = size_within (files_on (all_reread d)) id (file_by (all_reread xs) (label_before h.0)) file in
      let same : length (pages_from (page_at (all_reread xs) h.0.id) 0 leader_page) ≡ length (pages_from (page_at (all_reread xs) id) 0 leader_page) = ap (λ (n : ℕ). length (pages_from (page_at (all_reread xs) n) 0 leader_page)) own in
      omega (arith, most, pages_few, few, same)

  pub laws_hold : RereadLaws xs
  laws_hold = reread_as_today xs is_short

  -- each file with one page more
  zipped : AllZip (λ f g. (f.id ≡ g.id) × (size f + 1 ≡ size g)) (files_on (all_reread d)) (files_old d)
  zipped = zip_by_look_up (λ f g. (f.id ≡ g.id) × (size f + 1 ≡ size g)) (λ f g r. r.0) (files_on (all_reread d)) (files_old d) (laws.files_on_rise false 0 0 (all_reread d)) (old_files_are_those d).rise
      (λ id. both id (file_at (files_on (all_reread d)) id) (file_at (files_old d) id) refl refl (same id))
    where
      same : (id : ℕ) → option_map (λ f. size f + 1) (file_at (files_on (all_reread d)) id) ≡ option_map size (file_at (files_old d) id)
      same id =
          ap (λ (o : Option File). option_map (λ f. size f + 1) o) (laws.look_up false 0 0 (all_reread d) id ∙ ap (λ (l : List Sector). file_among false l id) (reread_data d))
          ∙ laws_hold.room id
          ∙ ap (λ (o : Option File). option_map size o) (sym ((old_files_are_those d).each id))

      both : (id : ℕ) (o p : Option File) → file_at (files_on (all_reread d)) id ≡ o → file_at (files_old d) id ≡ p → option_map (λ f. size f + 1) (file_at (files_on (all_reread d)) id) ≡ option_map size (file_at (files_old d) id)
          → BothBy (λ f g. (f.id ≡ g.id) × (size f + 1 ≡ size g)) (file_at (files_on (all_reread d)) id) (file_at (files_old d) id)
      both id o p e f s = subst (λ (x : Option File). BothBy (λ f g. (f.id ≡ g.id) × (size f + 1 ≡ size g)) x (file_at (files_old d) id)) (sym e)
          (subst (λ (x : Option File). BothBy (λ f g. (f.id ≡ g.id) × (size f + 1 ≡ size g)) o x) (sym f) (by o p e f (sym (ap (λ (x : Option File). option_map (λ f. size f + 1) x) e) ∙ s ∙ ap (λ (x : Option File). option_map size x) f)))
        where
          by : (o p : Option File) → file_at (files_on (all_reread d)) id ≡ o → file_at (files_old d) id ≡ p → option_map (λ f. size f + 1) o ≡ option_map size p → BothBy (λ f g. (f.id ≡ g.id) × (size f + 1 ≡ size g)) o p
          by None None e f s = tt
          by None (Some g) e f s = absurd (none-some (size g) s)
          by (Some h) None e f s = absurd (none-some (size h + 1) (sym s))
          by (Some h) (Some g) e f s = (at_id (files_on (all_reread d)) id h e ∙ sym (at_id (files_old d) id g f), same_Some (size h + 1) (size g) s)

  -- as many files, and each has one page more
  pub files_same : length (files_on (all_reread d)) ≡ length (files_old d)
  files_same = (zipped_counts (files_on (all_reread d)) (files_old d) zipped).0

  pub pages_same : length (files_on (all_reread d)) + total_pages (files_on (all_reread d)) ≡ total_pages (files_old d)
  pages_same = (zipped_counts (files_on (all_reread d)) (files_old d) zipped).1

  -- a sector is needed that old files need
  pub needs_same : (i : ℕ) → needs_place false (all_reread d) i ≡ needs_old d i
  needs_same i =
      ap (λ (l : List Sector). is_needed false l (i - first_data (length (all_reread d)))) (reread_data d)
      ∙ ap (λ (n : ℕ). is_needed false (all_reread xs) (i - first_data n)) (reread_long d)
      ∙ laws_hold.needed (i - first_data (length d))

  -- as many sectors as there are pages
  pub needed_count : length (data_places (λ i s. needs_old d i) d) ≡ total_pages (files_old d)
  needed_count =
      let split = places_split (λ i s. needs_place false (all_reread d) i) (λ i s. eqb s.0.page leader_page) (first_data (length (all_reread d))) (data_sectors (all_reread d)) in
      let all_ : places (λ i s. needs_place false (all_reread d) i) (first_data (length (all_reread d))) (data_sectors (all_reread d)) ≡ data_places (λ i s. needs_old d i) d =
      ap (λ (l : List Sector). places (λ i s. needs_place false (all_reread d) i) (first_data (length (all_reread d))) l) (reread_data d)
      ∙ ap (λ (n : ℕ). places (λ i s. needs_place false (all_reread d) i) (first_data n) (all_reread xs)) (reread_long d)
      ∙ places_reread (λ i s. needs_place false (all_reread d) i) (λ i s. needs_old d i) (first_data (length d)) xs (λ i s. needs_same i) in
      omega (arith, split, ap (λ (l : List ℕ). length l) all_, (count_laws false).files (all_reread d), (count_laws false).pages (all_reread d), pages_same)

  -- each data sector is needed or spare
  pub spare_count : spare_below xs (length xs) + total_pages (files_old d) ≡ length xs
  spare_count =
      let c = counted (λ j. is_old_needed xs j) (first_data (length d)) 0 (λ i. needs_old d i) (λ j. (let z : first_data (length d) + j - first_data (length d) ≡ j = omega arith in ap (is_old_needed xs) z)) xs in
      let s = never_blames (length xs) in
      let z : first_data (length d) + 0 ≡ first_data (length d) = omega arith in
      let same = ap (λ (n : ℕ). length (places (λ i s. needs_old d i) n xs)) z in
      omega (arith, needed_count, c, s, same)
    where
      never_blames : (m : ℕ) → spare_below xs m ≡ gaps_to (λ j. is_old_needed xs j) 0 m
      never_blames zero = refl
      never_blames (suc m) =
          let z : m ≡ 0 + m = omega arith in
          ap (λ (n : ℕ). n + (if is_old_needed xs m then 0 else 1)) (never_blames m)
          ∙ ap (λ (k : ℕ). gaps_to (λ j. is_old_needed xs j) 0 m + (if is_old_needed xs k then 0 else 1)) z
          ∙ sym (gaps_end (λ j. is_old_needed xs j) 0 m)
