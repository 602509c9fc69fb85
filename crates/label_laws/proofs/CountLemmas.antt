-- What is counted of a disk that is put in order.
use Rattle.std.proofs.Common.{◌≡◌, ◌≢◌, inl, inr, ℕ, zero, suc, ◌+◌, ◌-◌, ◌<◌, ◌≤◌, Bool, true, false, not, ◌&&◌, ◌||◌, List, [], ◌∷◌, map, length, Option, Some, None, refl, sym, ◌∙◌, ap, arith, eqb}
use Rattle.std.specs.Prelude.{slice_get, nat_lt, sum_by, Contains, if◌then◌else◌}
use Rattle.std.specs.Option.{option_map_or}
use Rattle.std.specs.List.{AllByRecursion}
use Rattle.std.proofs.lemmas.Option.{slice_get_within}
use Rattle.std.proofs.lemmas.Bool.{and_parts, and_from, eqb-true, eqb-false, eq-eqb, ne_eqb, ltb-true, ltb-false, lt-ltb, le-ltb, true≢false, or_right, not_from_false, cases_eq}
use Rattle.std.proofs.lemmas.List.Sums.{sum_by-cons}
use Rattle.labelled_disk.specs.Label.{is_file, is_free, leader_page}
use Rattle.labelled_disk.specs.Sectors.{Sector}
use Rattle.labelled_disk.specs.Layout.{data_sectors, first_data}
use Rattle.labelled_disk.specs.File.{File, size, file_at, room_of, total_room}
use Rattle.labelled_disk.specs.FilesOn.{is_page, leads_file, file_among, files_among, disk_file}
use Rattle.labelled_disk.specs.Lowest.{is_first, IsFileOn}
use Rattle.labelled_disk.specs.Ascending.{AreAscending}
use Rattle.labelled_disk.specs.WriteLaws.{HasData}
use Rattle.labelled_disk.proofs.SectorWrites as w
use Rattle.labelled_disk.proofs.WriteLemmas as laws
use Rattle.labelled_disk.proofs.LowestLemmas as lowest
use Rattle.label_laws.specs.Counts.{total_pages, places, needs_place, unneeded_sectors, is_of_some_file, lost_sectors, IsLost, UnneededListLaws, CountLaws, needed_leaders, needed_pages}
use Rattle.label_laws.specs.Unneeded.{IsUnneeded, AreAllUnneeded}
use Rattle.label_laws.proofs.NeededLemmas.{first_passes, needed_at, needs, freed_all}
use Rattle.label_laws.proofs.PlaceLemmas.{places_each, places_all, places_rise, places_same, places_none, places_or, first_counts}

not_false : (b : Bool) → not b ≡ true → b ≡ false
not_false true e = absurd (true≢false (sym e))
not_false false e = refl

-- a data sector by its place
at_place : (d : List Sector) (n j : ℕ) (s : Sector) → n ≡ first_data (length d) + j → slice_get (data_sectors d) j ≡ Some s → HasData d n s
at_place d n j s is here = record { is_data = omega (arith, is); here = ap (λ (m : ℕ). slice_get d m) is ∙ sym (laws.get_drop (first_data (length d)) d j) ∙ here }

module _ (with_temporary : Bool) where
  each_unneeded : (d : List Sector) → AllByRecursion (IsUnneeded with_temporary d) (unneeded_sectors with_temporary d)
  each_unneeded d = places_each (IsUnneeded with_temporary d) (λ i s. not (is_free s.0) && not (needs_place with_temporary d i)) (first_data (length d)) (data_sectors d)
      (λ n j s is here passes.
      let there = at_place d n j s is here in
      record { is_data = there.is_data; within = slice_get_within d n s there.here; unneeded = not_false (needs_place with_temporary d n) (and_parts (not (is_free s.0)) (not (needs_place with_temporary d n)) passes).1 })

  all_unneeded : (d : List Sector) → AreAllUnneeded with_temporary d (unneeded_sectors with_temporary d)
  all_unneeded d i s there taken free =
      let after = there.is_data in
      places_all (λ i s. not (is_free s.0) && not (needs_place with_temporary d i)) (first_data (length d)) (data_sectors d) i (i - first_data (length d)) s (omega (arith, after))
      (laws.data_get with_temporary 0 0 d i s there.is_data there.here)
      (and_from (not (is_free s.0)) (not (needs_place with_temporary d i)) (not_from_false (is_free s.0) taken) (not_from_false (needs_place with_temporary d i) free))

  each_lost : (d : List Sector) → AllByRecursion (IsLost with_temporary d) (lost_sectors with_temporary d)
  each_lost d = places_each (IsLost with_temporary d) (λ i s. not (needs_place with_temporary d i) && is_of_some_file with_temporary d s) (first_data (length d)) (data_sectors d)
      (λ n j s is here passes.
      let parts = and_parts (not (needs_place with_temporary d n)) (is_of_some_file with_temporary d s) passes in
      let marks = and_parts (is_file s.0) (option_map_or (λ f. true) (disk_file with_temporary d s.0.id) false) parts.1 in
      let f = found (disk_file with_temporary d s.0.id) marks.1 in
      record { s = s; there = at_place d n j s is here; file_label = marks.0; f = f.0; file = f.1; unneeded = not_false (needs_place with_temporary d n) parts.0 })
    where
      found : (o : Option File) → option_map_or (λ f. true) o false ≡ true → (f : File) × (o ≡ Some f)
      found None e = absurd (true≢false (sym e))
      found (Some f) e = (f, refl)

  all_lost : (d : List Sector) (i : ℕ) → IsLost with_temporary d i → Contains (lost_sectors with_temporary d) i
  all_lost d i lost =
      let after = lost.there.is_data in
      places_all (λ i s. not (needs_place with_temporary d i) && is_of_some_file with_temporary d s) (first_data (length d)) (data_sectors d) i (i - first_data (length d)) lost.s (omega (arith, after))
      (laws.data_get with_temporary 0 0 d i lost.s lost.there.is_data lost.there.here)
      (and_from (not (needs_place with_temporary d i)) (is_of_some_file with_temporary d lost.s) (not_from_false (needs_place with_temporary d i) lost.unneeded)
      (and_from (is_file lost.s.0) (option_map_or (λ f. true) (disk_file with_temporary d lost.s.0.id) false) lost.file_label (ap (λ (o : Option File). option_map_or (λ f. true) o false) lost.file)))

  pub list_laws : UnneededListLaws with_temporary
  list_laws = record {
    each = each_unneeded;
    all = all_unneeded;
    ascending = λ d. places_rise (λ i s. not (is_free s.0) && not (needs_place with_temporary d i)) (first_data (length d)) (data_sectors d);
    freed = λ d. freed_all with_temporary d (unneeded_sectors with_temporary d) (each_unneeded d) (all_unneeded d);
    lost_each = each_lost;
    lost_all = all_lost;
    lost_ascending = λ d. places_rise (λ i s. not (needs_place with_temporary d i) && is_of_some_file with_temporary d s) (first_data (length d)) (data_sectors d);
  }

-- a test of the sectors of each file's identifier
abbrev OfFile : Type 0
OfFile = File → ℕ → Sector → Bool

-- a sector that passes it for the file that has its identifier
abbrev any_of : OfFile → List File → ℕ → Sector → Bool
any_of test [] n s = false
any_of test (f ∷ fs) n s = (eqb s.0.id f.id && test f n s) || any_of test fs n s

-- a file of a greater identifier is another
none_of : (test : OfFile) (id : ℕ) (fs : List File) (n : ℕ) (s : Sector) → AllByRecursion (λ f. id < f.id) fs → s.0.id ≡ id → any_of test fs n s ≡ false
none_of test id [] n s above is = refl
none_of test id (f ∷ fs) n s above is =
    let other : eqb s.0.id f.id ≡ false = ne_eqb s.0.id f.id (λ e. omega (arith, e, is, above.0)) in
    ap (λ (b : Bool). (b && test f n s) || any_of test fs n s) other ∙ none_of test id fs n s above.1 is

greater : (id : ℕ) (fs : List File) → AllByRecursion (λ y. id < y) (map (λ f. f.id) fs) → AllByRecursion (λ f. id < f.id) fs
greater id [] all = tt
greater id (f ∷ fs) all = (all.0, greater id fs all.1)

-- it is the file of the identifier
any_at : (test : OfFile) (fs : List File) (n : ℕ) (s : Sector) → AreAscending fs → any_of test fs n s ≡ option_map_or (λ f. test f n s) (file_at fs s.0.id) false
any_at test [] n s rise = refl
any_at test (f ∷ fs) n s rise = either (eqb f.id s.0.id) refl (any_at test fs n s rise.1)
  where
    or_false : (b : Bool) → (b || false) ≡ b
    or_false true = refl
    or_false false = refl

    either : (b : Bool) → eqb f.id s.0.id ≡ b → any_of test fs n s ≡ option_map_or (λ f. test f n s) (file_at fs s.0.id) false → ((eqb s.0.id f.id && test f n s) || any_of test fs n s) ≡ option_map_or (λ f. test f n s) (if b then Some f else file_at fs s.0.id) false
    either true e more =
        let own : f.id ≡ s.0.id = eqb-true f.id s.0.id e in
        let here : eqb s.0.id f.id ≡ true = eq-eqb s.0.id f.id (sym own) in
        ap (λ (b : Bool). (b && test f n s) || any_of test fs n s) here ∙ ap (λ (b : Bool). test f n s || b) (none_of test f.id fs n s (greater f.id fs rise.0) (sym own)) ∙ or_false (test f n s)
    either false e more =
        let here : eqb s.0.id f.id ≡ false = ne_eqb s.0.id f.id (λ q. eqb-false f.id s.0.id e (sym q)) in
        ap (λ (b : Bool). (b && test f n s) || any_of test fs n s) here ∙ more

module _ (with_temporary : Bool) (base : ℕ) (xs : List Sector) (test : OfFile) (count : File → ℕ) where
  -- as many sectors as each file counts
  any_counts : (fs : List File) → AreAscending fs → AllByRecursion (λ f. length (places (λ n s. eqb s.0.id f.id && test f n s) base xs) ≡ count f) fs
      → length (places (any_of test fs) base xs) ≡ sum_by count fs
  any_counts [] rise each = places_none base xs
  any_counts (f ∷ fs) rise each =
      let more = any_counts fs rise.1 each.1 in
      let sums = sum_by-cons count f fs in
      let both = places_or (λ n s. eqb s.0.id f.id && test f n s) (any_of test fs) base xs
      (λ n j s is here one other.
      let own : s.0.id ≡ f.id = eqb-true s.0.id f.id (and_parts (eqb s.0.id f.id) (test f n s) one).0 in
      true≢false (sym other ∙ none_of test f.id fs n s (greater f.id fs rise.0) own)) in
      both ∙ omega (arith, more, each.0, sums)

-- equal tests, by the pieces
split_lead : (l p e : Bool) → (l ≡ true → e ≡ true) → (p ≡ true → e ≡ false) → ((l || p) && e) ≡ l
split_lead true p e one other = one refl
split_lead false true e one other = other refl
split_lead false false e one other = refl

split_page : (l p e : Bool) → (l ≡ true → e ≡ true) → (p ≡ true → e ≡ false) → ((l || p) && not e) ≡ p
split_page true true e one other = absurd (true≢false (sym (one refl) ∙ other refl))
split_page true false e one other = ap not (one refl)
split_page false true e one other = ap not (other refl)
split_page false false e one other = refl

-- the sector is the leader of the file, and it is a page below page m of it, the first of each
abbrev leads_it : Bool → List Sector → OfFile
leads_it with_temporary d f n s = is_first (leads_file with_temporary f.id) (data_sectors d) (n - first_data (length d))

abbrev is_below : List Sector → ℕ → OfFile
is_below d m f n s = nat_lt s.0.page m && is_first (is_page f.id s.0.page) (data_sectors d) (n - first_data (length d))

abbrev of_file : OfFile → File → ℕ → Sector → Bool
of_file test f n s = eqb s.0.id f.id && test f n s

and_false : (b : Bool) → (b && false) ≡ false
and_false true = refl
and_false false = refl

same_below : (p m : ℕ) → p ≢ m → nat_lt p (suc m) ≡ nat_lt p m
same_below p m other = either (nat_lt p m) refl
  where
    either : (b : Bool) → nat_lt p m ≡ b → nat_lt p (suc m) ≡ b
    either true e = let low = ltb-true p m e in lt-ltb p (suc m) (omega (arith, low))
    either false e = let high = ltb-false p m e in le-ltb p (suc m) (omega (arith, high, other))

module _ (with_temporary : Bool) (d : List Sector) where
  -- a place of the data sectors
  sector_at : (n j : ℕ) (s : Sector) → n ≡ first_data (length d) + j → slice_get (data_sectors d) j ≡ Some s → slice_get (data_sectors d) (n - first_data (length d)) ≡ Some s
  sector_at n j s is here = ap (λ (m : ℕ). slice_get (data_sectors d) m) (let m : n - first_data (length d) ≡ j = omega (arith, is) in m) ∙ here

  -- one leader
  leader_counts : (f : File) → IsFileOn with_temporary (data_sectors d) f → length (places (of_file (leads_it with_temporary d) f) (first_data (length d)) (data_sectors d)) ≡ 1
  leader_counts f revealed =
      ap (λ (l : List ℕ). length l)
      (places_same (of_file (leads_it with_temporary d) f) (leads_it with_temporary d f) (first_data (length d)) (data_sectors d)
      (λ n j s is here. either s (n - first_data (length d)) (sector_at n j s is here) (is_first (leads_file with_temporary f.id) (data_sectors d) (n - first_data (length d))) refl))
      ∙ first_counts (leads_file with_temporary f.id) (data_sectors d) (first_data (length d)) revealed.leader.0 revealed.leader.1 revealed.leader.2
    where
      either : (s : Sector) (j : ℕ) → slice_get (data_sectors d) j ≡ Some s → (b : Bool) → is_first (leads_file with_temporary f.id) (data_sectors d) j ≡ b → (eqb s.0.id f.id && b) ≡ b
      either s j here true e =
          ap (λ (b : Bool). b && true) (eq-eqb s.0.id f.id (w.leader_id with_temporary f.id s (first_passes (leads_file with_temporary f.id) (data_sectors d) j s here e)))
      either s j here false e = and_false (eqb s.0.id f.id)

  -- page m more
  one_more : (f : File) (m n j : ℕ) (s : Sector) → slice_get (data_sectors d) j ≡ Some s
      → (eqb s.0.id f.id && (nat_lt s.0.page (suc m) && is_first (is_page f.id s.0.page) (data_sectors d) j))
      ≡ ((eqb s.0.id f.id && (nat_lt s.0.page m && is_first (is_page f.id s.0.page) (data_sectors d) j)) || is_first (is_page f.id m) (data_sectors d) j)
  one_more f m n j s here = either (is_first (is_page f.id m) (data_sectors d) j) refl
    where
      either : (b : Bool) → is_first (is_page f.id m) (data_sectors d) j ≡ b
          → (eqb s.0.id f.id && (nat_lt s.0.page (suc m) && is_first (is_page f.id s.0.page) (data_sectors d) j))
          ≡ ((eqb s.0.id f.id && (nat_lt s.0.page m && is_first (is_page f.id s.0.page) (data_sectors d) j)) || b)
      either true e =
          let passes : is_page f.id m s ≡ true = first_passes (is_page f.id m) (data_sectors d) j s here e in
          let page : s.0.page ≡ m = w.page_number with_temporary f.id m s passes in
          let own : eqb s.0.id f.id ≡ true = (and_parts (is_file s.0) (eqb s.0.id f.id) (w.page_of with_temporary f.id m s passes)).1 in
          let first : is_first (is_page f.id s.0.page) (data_sectors d) j ≡ true = ap (λ (p : ℕ). is_first (is_page f.id p) (data_sectors d) j) page ∙ e in
          and_from (eqb s.0.id f.id) (nat_lt s.0.page (suc m) && is_first (is_page f.id s.0.page) (data_sectors d) j) own
          (and_from (nat_lt s.0.page (suc m)) (is_first (is_page f.id s.0.page) (data_sectors d) j) (lt-ltb s.0.page (suc m) (omega (arith, page))) first)
          ∙ sym (or_right (eqb s.0.id f.id && (nat_lt s.0.page m && is_first (is_page f.id s.0.page) (data_sectors d) j)) true refl)
      either false e = elim (cases_eq s.0.page m) [
        | inl same ↦
            let gone : is_first (is_page f.id s.0.page) (data_sectors d) j ≡ false = ap (λ (p : ℕ). is_first (is_page f.id p) (data_sectors d) j) same ∙ e in
            none (eqb s.0.id f.id) (nat_lt s.0.page (suc m)) (is_first (is_page f.id s.0.page) (data_sectors d) j) gone
            ∙ sym (or_none (eqb s.0.id f.id && (nat_lt s.0.page m && is_first (is_page f.id s.0.page) (data_sectors d) j))
            (none (eqb s.0.id f.id) (nat_lt s.0.page m) (is_first (is_page f.id s.0.page) (data_sectors d) j) gone))
        | inr other ↦ ap (λ (b : Bool). eqb s.0.id f.id && (b && is_first (is_page f.id s.0.page) (data_sectors d) j)) (same_below s.0.page m other)
            ∙ sym (or_same (eqb s.0.id f.id && (nat_lt s.0.page m && is_first (is_page f.id s.0.page) (data_sectors d) j)))
      ]
        where
          none : (a b c : Bool) → c ≡ false → (a && (b && c)) ≡ false
          none true true c e = e
          none true false c e = refl
          none false b c e = refl

          or_none : (b : Bool) → b ≡ false → (b || false) ≡ false
          or_none true e = e
          or_none false e = refl

          or_same : (b : Bool) → (b || false) ≡ b
          or_same true = refl
          or_same false = refl

  -- as many pages as the file has below m
  pages_count : (f : File) → IsFileOn with_temporary (data_sectors d) f → (m : ℕ) → m ≤ size f → length (places (of_file (is_below d m) f) (first_data (length d)) (data_sectors d)) ≡ m
  pages_count f revealed zero low =
      ap (λ (l : List ℕ). length l)
      (places_same (of_file (is_below d 0) f) (λ n s. false) (first_data (length d)) (data_sectors d)
      (λ n j s is here. ap (λ (b : Bool). eqb s.0.id f.id && (b && is_first (is_page f.id s.0.page) (data_sectors d) (n - first_data (length d)))) (le-ltb s.0.page 0 (omega arith)) ∙ and_false (eqb s.0.id f.id)))
      ∙ places_none (first_data (length d)) (data_sectors d)
  pages_count f revealed (suc m) low =
      let page = revealed.page m (omega (arith, low)) in
      let fewer = pages_count f revealed m (omega (arith, low)) in
      let last = first_counts (is_page f.id m) (data_sectors d) (first_data (length d)) page.0 page.1 page.2 in
      ap (λ (l : List ℕ). length l)
      (places_same (of_file (is_below d (suc m)) f) (λ n s. of_file (is_below d m) f n s || is_first (is_page f.id m) (data_sectors d) (n - first_data (length d))) (first_data (length d)) (data_sectors d)
      (λ n j s is here. one_more f m n (n - first_data (length d)) s (sector_at n j s is here)))
      ∙ places_or (of_file (is_below d m) f) (λ n s. is_first (is_page f.id m) (data_sectors d) (n - first_data (length d))) (first_data (length d)) (data_sectors d)
      (λ n j s is here below is_m.
      let low_page = ltb-true s.0.page m (and_parts (nat_lt s.0.page m) (is_first (is_page f.id s.0.page) (data_sectors d) (n - first_data (length d)))
      (and_parts (eqb s.0.id f.id) (nat_lt s.0.page m && is_first (is_page f.id s.0.page) (data_sectors d) (n - first_data (length d))) below).1).0 in
      let same = w.page_number with_temporary f.id m s (first_passes (is_page f.id m) (data_sectors d) (n - first_data (length d)) s (sector_at n j s is here) is_m) in
      omega (arith, low_page, same))
      ∙ omega (arith, fewer, last)

  -- each file of the disk is revealed
  each_revealed : (P : File → Type 0) → ((f : File) → IsFileOn with_temporary (data_sectors d) f → P f) → AllByRecursion P (files_among with_temporary d)
  each_revealed P holds = laws.each_file with_temporary 0 0 P d (λ id f is. holds f ((lowest.files_are_as_revealed with_temporary d).revealed id f is).0)

  -- of a sector, the leader that its file needs, or a page
  parted : (n j : ℕ) (s : Sector) → n ≡ first_data (length d) + j → slice_get (data_sectors d) j ≡ Some s
      → ((needs_place with_temporary d n && eqb s.0.page leader_page) ≡ any_of (leads_it with_temporary d) (files_among with_temporary d) n s)
      × ((needs_place with_temporary d n && not (eqb s.0.page leader_page)) ≡ any_of (λ f. is_below d (size f) f) (files_among with_temporary d) n s)
  parted n j s is here = (
    ap (λ (b : Bool). b && eqb s.0.page leader_page) (needed_at with_temporary (data_sectors d) (n - first_data (length d)) s at) ∙ (by_file (file_among with_temporary (data_sectors d) s.0.id) refl).0
        ∙ sym (any_at (leads_it with_temporary d) (files_among with_temporary d) n s (laws.files_on_rise with_temporary 0 0 d) ∙ ap (λ (o : Option File). option_map_or (λ f. leads_it with_temporary d f n s) o false) (laws.look_up with_temporary 0 0 d s.0.id)),
    ap (λ (b : Bool). b && not (eqb s.0.page leader_page)) (needed_at with_temporary (data_sectors d) (n - first_data (length d)) s at) ∙ (by_file (file_among with_temporary (data_sectors d) s.0.id) refl).1
        ∙ sym (any_at (λ f. is_below d (size f) f) (files_among with_temporary d) n s (laws.files_on_rise with_temporary 0 0 d) ∙ ap (λ (o : Option File). option_map_or (λ f. is_below d (size f) f n s) o false) (laws.look_up with_temporary 0 0 d s.0.id)),
  )
    where
      at : slice_get (data_sectors d) (n - first_data (length d)) ≡ Some s
      at = sector_at n j s is here

      by_file : (o : Option File) → file_among with_temporary (data_sectors d) s.0.id ≡ o
          → ((option_map_or (needs with_temporary (data_sectors d) (n - first_data (length d)) s) o false && eqb s.0.page leader_page) ≡ option_map_or (λ f. leads_it with_temporary d f n s) o false)
          × ((option_map_or (needs with_temporary (data_sectors d) (n - first_data (length d)) s) o false && not (eqb s.0.page leader_page)) ≡ option_map_or (λ f. is_below d (size f) f n s) o false)
      by_file None e = (refl, refl)
      by_file (Some f) e =
          let revealed = (lowest.files_are_as_revealed with_temporary d).revealed s.0.id f e in
          let lead : is_first (leads_file with_temporary s.0.id) (data_sectors d) (n - first_data (length d)) ≡ true → eqb s.0.page leader_page ≡ true =
          λ h. eq-eqb s.0.page leader_page (w.leader_number with_temporary s.0.id s (first_passes (leads_file with_temporary s.0.id) (data_sectors d) (n - first_data (length d)) s at h)) in
          let page : (nat_lt s.0.page (size f) && is_first (is_page s.0.id s.0.page) (data_sectors d) (n - first_data (length d))) ≡ true → eqb s.0.page leader_page ≡ false =
          λ h. ne_eqb s.0.page leader_page (λ q.
          omega (arith, q, revealed.0.numbered, ltb-true s.0.page (size f) (and_parts (nat_lt s.0.page (size f)) (is_first (is_page s.0.id s.0.page) (data_sectors d) (n - first_data (length d))) h).0)) in (
            split_lead (is_first (leads_file with_temporary s.0.id) (data_sectors d) (n - first_data (length d)))
                (nat_lt s.0.page (size f) && is_first (is_page s.0.id s.0.page) (data_sectors d) (n - first_data (length d))) (eqb s.0.page leader_page) lead page
                ∙ ap (λ (k : ℕ). is_first (leads_file with_temporary k) (data_sectors d) (n - first_data (length d))) (sym revealed.1),
            split_page (is_first (leads_file with_temporary s.0.id) (data_sectors d) (n - first_data (length d)))
                (nat_lt s.0.page (size f) && is_first (is_page s.0.id s.0.page) (data_sectors d) (n - first_data (length d))) (eqb s.0.page leader_page) lead page
                ∙ ap (λ (k : ℕ). nat_lt s.0.page (size f) && is_first (is_page k s.0.page) (data_sectors d) (n - first_data (length d))) (sym revealed.1),
          )

ones : (files : List File) → sum_by (λ f. 1) files ≡ length files
ones [] = refl
ones (f ∷ files) = sum_by-cons (λ (g : File). 1) f files ∙ (let more = ones files in omega (arith, more))

pub rooms : (files : List File) → total_room files ≡ length files + total_pages files
rooms [] = refl
rooms (f ∷ files) = let more = rooms files in let a = sum_by-cons room_of f files in let b = sum_by-cons size f files in omega (arith, more, a, b)

module _ (with_temporary : Bool) where
  pub files_count : (d : List Sector) → length (needed_leaders with_temporary d) ≡ length (files_among with_temporary d)
  files_count d =
      ap (λ (l : List ℕ). length l)
      (places_same (λ i s. needs_place with_temporary d i && eqb s.0.page leader_page) (any_of (leads_it with_temporary d) (files_among with_temporary d)) (first_data (length d)) (data_sectors d) (λ n j s is here. (parted with_temporary d n j s is here).0))
      ∙ any_counts with_temporary (first_data (length d)) (data_sectors d) (leads_it with_temporary d) (λ f. 1) (files_among with_temporary d) (laws.files_on_rise with_temporary 0 0 d) (each_revealed with_temporary d (λ f. length (places (of_file (leads_it with_temporary d) f) (first_data (length d)) (data_sectors d)) ≡ 1) (λ f revealed. leader_counts with_temporary d f revealed))
      ∙ ones (files_among with_temporary d)

  pub pages_counted : (d : List Sector) → length (needed_pages with_temporary d) ≡ total_pages (files_among with_temporary d)
  pages_counted d =
      ap (λ (l : List ℕ). length l)
      (places_same (λ i s. needs_place with_temporary d i && not (eqb s.0.page leader_page)) (any_of (λ f. is_below d (size f) f) (files_among with_temporary d)) (first_data (length d)) (data_sectors d) (λ n j s is here. (parted with_temporary d n j s is here).1))
      ∙ any_counts with_temporary (first_data (length d)) (data_sectors d) (λ f. is_below d (size f) f) size (files_among with_temporary d) (laws.files_on_rise with_temporary 0 0 d)
      (each_revealed with_temporary d (λ f. length (places (of_file (λ g. is_below d (size g) g) f) (first_data (length d)) (data_sectors d)) ≡ size f) (λ f revealed. pages_count with_temporary d f revealed (size f) (omega arith)))

  pub count_laws : CountLaws with_temporary
  count_laws = record { files = files_count; pages = pages_counted; room = rooms }
