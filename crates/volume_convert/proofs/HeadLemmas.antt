-- The heads that are collected and sorted are the files of an old volume.
use Rattle.std.proofs.Common.{◌≡◌, ◌≢◌, ◌⊎◌, inl, inr, ℕ, zero, suc, ◌+◌, ◌<◌, ◌≤◌, Bool, true, false, not, ◌&&◌, ◌||◌, cond, List, [], ◌∷◌, length, map, Option, Some, None, refl, sym, ◌∙◌, ap, subst, arith, eqb}
use Rattle.std.specs.Prelude.{slice_get, slice_index_or, option_map, find, sum_by, nat_lt}
use Rattle.std.specs.Option.{option_map_or}
use Rattle.std.specs.List.{AllByRecursion, position_or_len, All}
use Rattle.std.proofs.lemmas.List.Sorted.{sum_by-IsPermutation, All-permutation, Contains-permutation}
use Rattle.std.proofs.lemmas.List.Sums.{sum_by-cons}
use Rattle.std.proofs.lemmas.Option.{same_Some, none-some, slice_get-map, slice_get_within, slice_get-get_or, get_or_from_slice_get}
use Rattle.std.proofs.lemmas.Bool.{cases_eq, and_parts, and_from, eq-eqb, ne_eqb, eqb-true, true≢false, false≢true}
use Rattle.labelled_disk.specs.declared.label.Label.{Label}
use Rattle.labelled_disk.specs.Label.{is_file, is_file_id, is_permanent, leader_page}
use Rattle.labelled_disk.specs.File.{File, file_at, size}
use Rattle.labelled_disk.specs.FilesOn.{is_page}
use Rattle.labelled_disk.specs.Layout.{data_sectors}
use Rattle.labelled_disk.specs.Lowest.{is_first}
use Rattle.labelled_disk.specs.Ascending.{AreAscending}
use Rattle.labelled_disk.specs.Sectors.{Sector}
use Rattle.labelled_disk.proofs.Finds.{found_at, find_none}
use Rattle.labelled_disk.proofs.AscendingLemmas.{same_by_look_up}
use Rattle.label_survey.specs.declared.sector_state.SectorState.{SectorState}
use Rattle.label_survey.specs.SectorStates.{sector_state, AreSectorStates}
use Rattle.label_survey.specs.Survey.{is_leader}
use Rattle.old_files.specs.OldFiles.{heads, heads_file, head_among, old_file_by, old_file_among, old_file, files_old, is_old_needed}
use Rattle.old_files.specs.Placing.{leader_of, old_leaders}
use Rattle.old_files.specs.Reread.{reread, all_reread}
use Rattle.old_files.proofs.LeaderLemmas.{leader_same, head_is, looked_up}
use Rattle.old_files.proofs.OldLemmas.{old_files_are_those}
use Rattle.old_files.proofs.ArrangeLemmas.{part_of}
use Rattle.volume_convert.specs.declared.heads.Head.{Head}
use Rattle.volume_convert.specs.Heads.{head_of, leader_by, heads_from, AreHeads, AreHeadsUp, leaders_by}
use Rattle.volume_convert.proofs.StandLemmas.{stands, leader_is}

-- Collected.

pub record IsFrom (ls : List Label) (xs : List SectorState) (h : Head) : Type 0 where
  pub k : ℕ
  pub l : Label
  pub x : SectorState
  pub here : slice_get ls k ≡ Some l
  pub there : slice_get xs k ≡ Some x
  pub leads : is_leader x ≡ true
  pub is : h ≡ head_of l

each_from : (ls : List Label) (xs : List SectorState) (j : ℕ) (h : Head) → slice_get (heads_from ls xs) j ≡ Some h → IsFrom ls xs h
each_from [] xs j h at = absurd (none-some h at)
each_from (l ∷ ls) [] j h at = absurd (none-some h at)
each_from (l ∷ ls) (x ∷ xs) j h at = either (is_leader x) refl (λ i e. each_from ls xs i h e) j at
  where
    later : IsFrom ls xs h → IsFrom (l ∷ ls) (x ∷ xs) h
    later f = record { k = suc f.k; l = f.l; x = f.x; here = f.here; there = f.there; leads = f.leads; is = f.is }

    either : (b : Bool) → is_leader x ≡ b → ((i : ℕ) → slice_get (heads_from ls xs) i ≡ Some h → IsFrom ls xs h)
        → (i : ℕ) → slice_get (cond b (head_of l ∷ heads_from ls xs) (heads_from ls xs)) i ≡ Some h → IsFrom (l ∷ ls) (x ∷ xs) h
    either true e more zero at = record { k = 0; l = l; x = x; here = refl; there = refl; leads = e; is = sym (same_Some (head_of l) h at) }
    either true e more (suc i) at = later (more i at)
    either false e more i at = later (more i at)

all_from : (ls : List Label) (xs : List SectorState) (k : ℕ) (l : Label) (x : SectorState) → slice_get ls k ≡ Some l → slice_get xs k ≡ Some x → is_leader x ≡ true → (j : ℕ) × (slice_get (heads_from ls xs) j ≡ Some (head_of l))
all_from [] xs k l x here there leads = absurd (none-some l here)
all_from (m ∷ ls) [] k l x here there leads = absurd (none-some x there)
all_from (m ∷ ls) (y ∷ xs) zero l x here there leads = either (is_leader y) (ap is_leader (same_Some y x there) ∙ leads) (ap head_of (same_Some m l here))
  where
    either : (b : Bool) → b ≡ true → head_of m ≡ head_of l → (j : ℕ) × (slice_get (cond b (head_of m ∷ heads_from ls xs) (heads_from ls xs)) j ≡ Some (head_of l))
    either true e same = (0, ap (λ (h : Head). Some h) same)
    either false e same = absurd (false≢true e)
all_from (m ∷ ls) (y ∷ xs) (suc k) l x here there leads = either (is_leader y) (all_from ls xs k l x here there leads)
  where
    either : (b : Bool) → (j : ℕ) × (slice_get (heads_from ls xs) j ≡ Some (head_of l)) → (i : ℕ) × (slice_get (cond b (head_of m ∷ heads_from ls xs) (heads_from ls xs)) i ≡ Some (head_of l))
    either true r = (suc r.0, r.1)
    either false r = r

-- No identifier comes twice, in whatever order.

abbrev is_of_id : ℕ → Head → ℕ
is_of_id id h = cond (eqb h.id id) 1 0

abbrev AreApart : List Label → List SectorState → Type 0
AreApart ls xs = (i j : ℕ) (l m : Label) (x y : SectorState) → slice_get ls i ≡ Some l → slice_get ls j ≡ Some m → slice_get xs i ≡ Some x → slice_get xs j ≡ Some y
    → is_leader x ≡ true → is_leader y ≡ true → l.id ≡ m.id → i ≡ j

none_of : (id : ℕ) (hs : List Head) → ((k : ℕ) (h : Head) → slice_get hs k ≡ Some h → h.id ≢ id) → sum_by (is_of_id id) hs ≡ 0
none_of id [] none = refl
none_of id (h ∷ hs) none =
    let more = none_of id hs (λ k g at. none (suc k) g at) in
    let here : is_of_id id h ≡ 0 = ap (λ (b : Bool). cond b 1 0) (ne_eqb h.id id (none 0 h refl)) in
    let sum = sum_by-cons (is_of_id id) h hs in
    omega (arith, more, here, sum)

one_of : (id : ℕ) (ls : List Label) (xs : List SectorState) → AreApart ls xs → sum_by (is_of_id id) (heads_from ls xs) ≤ 1
one_of id [] xs apart = omega arith
one_of id (l ∷ ls) [] apart = omega arith
one_of id (l ∷ ls) (x ∷ xs) apart = either (is_leader x) refl (one_of id ls xs (λ i j m n y z a b c e f g same. (let s = apart (suc i) (suc j) m n y z a b c e f g same in omega (arith, s)))) (cases_eq l.id id)
  where
    others : is_leader x ≡ true → l.id ≡ id → (k : ℕ) (h : Head) → slice_get (heads_from ls xs) k ≡ Some h → h.id ≢ id
    others e own k h at =
        let f = each_from ls xs k h at in
        λ same. absurd (omega (arith, apart 0 (suc f.k) l f.l x f.x refl f.here refl f.there e f.leads (own ∙ sym same ∙ ap (λ (g : Head). g.id) f.is)))

    either : (b : Bool) → is_leader x ≡ b → sum_by (is_of_id id) (heads_from ls xs) ≤ 1 → (l.id ≡ id) ⊎ (l.id ≢ id) → sum_by (is_of_id id) (cond b (head_of l ∷ heads_from ls xs) (heads_from ls xs)) ≤ 1
    either false e more c = more
    either true e more (inl own) =
        let none = none_of id (heads_from ls xs) (others e own) in
        let here : is_of_id id (head_of l) ≡ 1 = ap (λ (b : Bool). cond b 1 0) (eq-eqb l.id id own) in
        let sum = sum_by-cons (is_of_id id) (head_of l) (heads_from ls xs) in
        omega (arith, none, here, sum)
    either true e more (inr other) =
        let here : is_of_id id (head_of l) ≡ 0 = ap (λ (b : Bool). cond b 1 0) (ne_eqb l.id id other) in
        let sum = sum_by-cons (is_of_id id) (head_of l) (heads_from ls xs) in
        omega (arith, more, here, sum)

counted : (id : ℕ) (hs : List Head) (k : ℕ) (b : Head) → slice_get hs k ≡ Some b → b.id ≡ id → 1 ≤ sum_by (is_of_id id) hs
counted id [] k b here is = absurd (none-some b here)
counted id (x ∷ xs) zero b here is =
    let one : is_of_id id x ≡ 1 = ap (is_of_id id) (same_Some x b here) ∙ ap (λ (c : Bool). cond c 1 0) (eq-eqb b.id id is) in
    let sum = sum_by-cons (is_of_id id) x xs in
    omega (arith, one, sum)
counted id (x ∷ xs) (suc k) b here is = let more = counted id xs k b here is in let sum = sum_by-cons (is_of_id id) x xs in omega (arith, more, sum)

-- ascending identifiers, where each comes once and none is after a higher one
rises : (file : Head → File) → ((h : Head) → (file h).id ≡ h.id) → (hs : List Head) → ((id : ℕ) → sum_by (is_of_id id) hs ≤ 1) → AreHeadsUp hs → AreAscending (map file hs)
rises file own [] once up = tt
rises file own (h ∷ hs) once up = (above hs (λ k g at. by_index k g at), rises file own hs (λ id. (let sum = sum_by-cons (is_of_id id) h hs in let o = once id in omega (arith, sum, o))) (λ i j a b l at_i at_j. up (suc i) (suc j) a b (omega (arith, l)) at_i at_j))
  where
    by_index : (k : ℕ) (g : Head) → slice_get hs k ≡ Some g → h.id < g.id
    by_index k g at = elim (up 0 (suc k) h g (omega arith) refl at) [
      | inl less ↦ less
      | inr same ↦
          let more = counted g.id hs k g at refl in
          let one : is_of_id g.id h ≡ 1 = ap (λ (b : Bool). cond b 1 0) (eq-eqb h.id g.id same.0) in
          let sum = sum_by-cons (is_of_id g.id) h hs in
          let o = once g.id in
          absurd (omega (arith, more, one, sum, o))
    ]

    above : (gs : List Head) → ((k : ℕ) (g : Head) → slice_get gs k ≡ Some g → h.id < g.id) → AllByRecursion (λ y. (file h).id < y) (map (λ f. f.id) (map file gs))
    above [] each = tt
    above (g ∷ gs) each = (omega (arith, own h, own g, each 0 g refl), above gs (λ k e at. each (suc k) e at))

-- The first that passes.

first_found : (test : Sector → Bool) (xs : List Sector) (i : ℕ) (s : Sector) → slice_get xs i ≡ Some s → is_first test xs i ≡ true → find test xs ≡ Some s
first_found test [] i s at first = absurd (none-some s at)
first_found test (x ∷ xs) zero s at first = either (test x) first
  where
    either : (b : Bool) → eqb (cond (not b) (1 + position_or_len test xs) 0) 0 ≡ true → cond b (Some x) (find test xs) ≡ Some s
    either true h = at
    either false h = absurd (omega (arith, eqb-true (1 + position_or_len test xs) 0 h))
first_found test (x ∷ xs) (suc i) s at first = either (test x) first (λ h. first_found test xs i s at h)
  where
    either : (b : Bool) → eqb (cond (not b) (1 + position_or_len test xs) 0) (suc i) ≡ true → (is_first test xs i ≡ true → find test xs ≡ Some s) → cond b (Some x) (find test xs) ≡ Some s
    either true h more = absurd (omega (arith, eqb-true 0 (suc i) h))
    either false h more = more (eq-eqb (position_or_len test xs) i (omega (arith, eqb-true (1 + position_or_len test xs) (suc i) h)))

found_first : (test : Sector → Bool) (xs : List Sector) (s : Sector) → find test xs ≡ Some s → (i : ℕ) × (slice_get xs i ≡ Some s) × (is_first test xs i ≡ true)
found_first test [] s is = absurd (none-some s is)
found_first test (x ∷ xs) s is = either (test x) is (found_first test xs s)
  where
    either : (b : Bool) → cond b (Some x) (find test xs) ≡ Some s → (find test xs ≡ Some s → (i : ℕ) × (slice_get xs i ≡ Some s) × (is_first test xs i ≡ true))
        → (i : ℕ) × (slice_get (x ∷ xs) i ≡ Some s) × (eqb (cond (not b) (1 + position_or_len test xs) 0) i ≡ true)
    either true e more = (0, e, refl)
    either false e more = let r = more e in (suc r.0, r.1, eq-eqb (1 + position_or_len test xs) (suc r.0) (omega (arith, eqb-true (position_or_len test xs) r.0 r.2)))

-- Of an old volume.

module _ (d : List Sector) (few : length d < leader_page) (labels : List Label) (sector_states : List SectorState) (labelled : labels ≡ map (λ s. s.0) (data_sectors d)) (are : AreSectorStates (all_reread d) sector_states) where
  abbrev xs : List Sector
  xs = data_sectors d

  sector_at : (k : ℕ) (l : Label) → slice_get labels k ≡ Some l → (s : Sector) × (slice_get xs k ≡ Some s) × (s.0 ≡ l)
  sector_at k l at = by (slice_get xs k) refl (sym (slice_get-map (λ (s : Sector). s.0) xs k) ∙ ap (λ (ls : List Label). slice_get ls k) (sym labelled) ∙ at)
    where
      by : (o : Option Sector) → slice_get xs k ≡ o → option_map (λ (s : Sector). s.0) (slice_get xs k) ≡ Some l → (s : Sector) × (slice_get xs k ≡ Some s) × (s.0 ≡ l)
      by None e h = absurd (none-some l (sym (ap (λ (o : Option Sector). option_map (λ (s : Sector). s.0) o) e) ∙ h))
      by (Some s) e h = (s, e, same_Some s.0 l (sym (ap (λ (o : Option Sector). option_map (λ (s : Sector). s.0) o) e) ∙ h))

  -- a sector that stands as a leader is the first page 0 of its file
  head_at : (k : ℕ) (s : Sector) (x : SectorState) → slice_get xs k ≡ Some s → slice_get sector_states k ≡ Some x → is_leader x ≡ true → (is_first (heads_file s.0.id) xs k ≡ true) × (head_among xs s.0.id ≡ Some s)
  head_at k s x at there leads =
      let is : sector_state (all_reread d) k (reread s) ≡ x = same_Some (sector_state (all_reread d) k (reread s)) x (sym (ap (option_map (λ (t : Sector). sector_state (all_reread d) k (reread t))) at) ∙ sym (stands d few sector_states are k) ∙ there) in
      let both = and_parts (is_old_needed xs k) (eqb s.0.page 0) (sym (leader_is d few sector_states are k s) ∙ ap is_leader is ∙ leads) in
      let zero_page : s.0.page ≡ 0 = eqb-true s.0.page 0 both.1 in
      elim (part_of xs k s at both.0).what [
        | inl first ↦ (first, first_found (heads_file s.0.id) xs k s at first)
        | inr page ↦ absurd (omega (arith, page.0, zero_page))
      ]

  -- and the first page 0 of a file stands as a leader
  leads_at : (id : ℕ) (s : Sector) → head_among xs id ≡ Some s → (k : ℕ) × (slice_get xs k ≡ Some s) × (x : SectorState) × (slice_get sector_states k ≡ Some x) × (is_leader x ≡ true)
  leads_at id s head =
      let f = found_first (heads_file id) xs s head in
      let passes = (found_at (heads_file id) xs s head).2 in
      let own = (head_is id s passes).1 in
      let first : is_first (heads_file s.0.id) xs f.0 ≡ true = ap (λ (n : ℕ). is_first (heads_file n) xs f.0) own ∙ f.2 in
      let file : old_file_among xs s.0.id ≡ Some (old_file_by xs s.0) = ap (λ (o : Option Sector). option_map (old_file_by xs) (option_map (λ t. t.0) o)) (ap (λ (n : ℕ). head_among xs n) own ∙ head) in
      let needs : is_old_needed xs f.0 ≡ true =
      ap (λ (o : Option Sector). option_map_or (λ s. option_map_or (λ g. is_first (heads_file s.0.id) xs f.0 || (nat_lt 0 s.0.page && (nat_lt s.0.page (size g) && is_first (is_page s.0.id s.0.page) xs f.0))) (old_file_among xs s.0.id) false) o false) f.1
      ∙ ap (λ (o : Option File). option_map_or (λ g. is_first (heads_file s.0.id) xs f.0 || (nat_lt 0 s.0.page && (nat_lt s.0.page (size g) && is_first (is_page s.0.id s.0.page) xs f.0))) o false) file
      ∙ or_left (is_first (heads_file s.0.id) xs f.0) (nat_lt 0 s.0.page && (nat_lt s.0.page (size (old_file_by xs s.0)) && is_first (is_page s.0.id s.0.page) xs f.0)) first in
      let zero_page : eqb s.0.page 0 ≡ true = page_zero s passes in (
        f.0,
        f.1,
        sector_state (all_reread d) f.0 (reread s),
        stands d few sector_states are f.0 ∙ ap (option_map (λ (t : Sector). sector_state (all_reread d) f.0 (reread t))) f.1,
        leader_is d few sector_states are f.0 s ∙ and_from (is_old_needed xs f.0) (eqb s.0.page 0) needs zero_page,
      )
    where
      or_left : (a b : Bool) → a ≡ true → (a || b) ≡ true
      or_left true b h = refl
      or_left false b h = absurd (true≢false (sym h))

      page_zero : (t : Sector) → heads_file id t ≡ true → eqb t.0.page 0 ≡ true
      page_zero t h = (and_parts (is_file t.0) (eqb t.0.page 0) (and_parts (is_file t.0 && eqb t.0.page 0) (is_permanent t.0) (and_parts (heads t) (eqb t.0.id id) h).0).0).1

  apart : AreApart labels sector_states
  apart i j l m x y at_i at_j x_at y_at lead_x lead_y same =
      let a = sector_at i l at_i in
      let b = sector_at j m at_j in
      let p = head_at i a.0 x a.1 x_at lead_x in
      let q = head_at j b.0 y b.1 y_at lead_y in
      let ids : a.0.0.id ≡ b.0.0.id = ap (λ (n : Label). n.id) a.2 ∙ same ∙ sym (ap (λ (n : Label). n.id) b.2) in
      sym (eqb-true (position_or_len (heads_file a.0.0.id) xs) i p.0)
      ∙ ap (λ (n : ℕ). position_or_len (heads_file n) xs) ids
      ∙ eqb-true (position_or_len (heads_file b.0.0.id) xs) j q.0

  module _ (hs : List Head) (sorted : AreHeads labels sector_states hs) where
    -- each is the head of a file
    pub each : (k : ℕ) (h : Head) → slice_get hs k ≡ Some h → (s : Sector) × (head_among xs h.id ≡ Some s) × (h ≡ head_of s.0)
    each k h at =
        let f = from k h at in
        let a = sector_at f.k f.l f.here in
        let p = head_at f.k a.0 f.x a.1 f.there f.leads in
        let is : h ≡ head_of a.0.0 = f.is ∙ ap head_of (sym a.2) in
        (a.0, ap (λ (g : Head). head_among xs g.id) is ∙ p.1, is)
      where
        given : All (IsFrom labels sector_states) (heads_from labels sector_states)
        given k h l = each_from labels sector_states k (slice_index_or (heads_from labels sector_states) k h) (slice_get-get_or (heads_from labels sector_states) k h l)

        from : (k : ℕ) (h : Head) → slice_get hs k ≡ Some h → IsFrom labels sector_states h
        from k h at = subst (IsFrom labels sector_states) (get_or_from_slice_get hs k h h at) (All-permutation (IsFrom labels sector_states) (heads_from labels sector_states) hs sorted.moved given k h (slice_get_within hs k h at))

    -- each file has its head
    pub all_heads : (id : ℕ) (s : Sector) → head_among xs id ≡ Some s → (k : ℕ) × (slice_get hs k ≡ Some (head_of s.0))
    all_heads id s head =
        let a = leads_at id s head in
        let label : slice_get labels a.0 ≡ Some s.0 = ap (λ (ls : List Label). slice_get ls a.0) labelled ∙ slice_get-map (λ (t : Sector). t.0) xs a.0 ∙ ap (option_map (λ (t : Sector). t.0)) a.1 in
        let from = all_from labels sector_states a.0 s.0 a.2 label a.3 a.4 in
        let has = Contains-permutation (heads_from labels sector_states) hs (head_of s.0) sorted.moved (from.0, slice_get_within (heads_from labels sector_states) from.0 (head_of s.0) from.1, get_or_from_slice_get (heads_from labels sector_states) from.0 (head_of s.0) (head_of s.0) from.1) in
        (has.0, slice_get-get_or hs has.0 (head_of s.0) has.1 ∙ ap (λ (h : Head). Some h) has.2)

    abbrev file : Head → File
    file h = old_file_by xs (leader_by h)

    ascending : AreAscending (map file hs)
    ascending = rises file (λ h. refl) hs (λ id. (let same = sum_by-IsPermutation (is_of_id id) (heads_from labels sector_states) hs sorted.moved in let one = one_of id labels sector_states apart in omega (arith, same, one))) sorted.up

    looks : (id : ℕ) → file_at (map file hs) id ≡ file_at (files_old d) id
    looks id = by (head_among xs id) refl ∙ sym ((old_files_are_those d).each id)
      where
        by : (o : Option Sector) → head_among xs id ≡ o → file_at (map file hs) id ≡ old_file d id
        by None e =
            find_none (λ (f : File). eqb f.id id) (map file hs) (λ k f at. ne_eqb f.id id (λ own. nothing k f at own))
            ∙ sym (ap (λ (o : Option Sector). option_map (old_file_by xs) (option_map (λ t. t.0) o)) e)
          where
            nothing : (k : ℕ) (f : File) → slice_get (map file hs) k ≡ Some f → f.id ≡ id → ⊥
            nothing k f at own = of (slice_get hs k) refl (sym (slice_get-map file hs k) ∙ at)
              where
                of : (o : Option Head) → slice_get hs k ≡ o → option_map file (slice_get hs k) ≡ Some f → ⊥
                of None q h = none-some f (sym (ap (option_map file) q) ∙ h)
                of (Some g) q h =
                    let is : file g ≡ f = same_Some (file g) f (sym (ap (option_map file) q) ∙ h) in
                    let s = each k g q in
                    none-some s.0 (sym e ∙ ap (λ (n : ℕ). head_among xs n) (sym (ap (λ (f : File). f.id) is ∙ own)) ∙ s.1)
        by (Some s) e =
            let a = all_heads id s e in
            let own : s.0.id ≡ id = (head_is id s (found_at (heads_file id) xs s e).2).1 in
            let at : slice_get (map file hs) a.0 ≡ Some (file (head_of s.0)) = slice_get-map file hs a.0 ∙ ap (option_map file) a.1 in
            ap (λ (n : ℕ). file_at (map file hs) n) (sym own) ∙ looked_up (map file hs) ascending a.0 (file (head_of s.0)) at
            ∙ sym (ap (λ (o : Option Sector). option_map (old_file_by xs) (option_map (λ t. t.0) o)) e)

    -- so their leaders are those of the old files
    pub leaders_are : leaders_by hs ≡ old_leaders d
    leaders_are = mapped hs (λ k h at. file_label h (each k h at)) ∙ ap (map leader_of) (same_by_look_up (map file hs) (files_old d) ascending (old_files_are_those d).rise looks)
      where
        file_label : (h : Head) → (s : Sector) × (head_among xs h.id ≡ Some s) × (h ≡ head_of s.0) → leader_by h ≡ leader_of (file h)
        file_label h s =
            let is = (head_is h.id s.0 (found_at (heads_file h.id) xs s.0 s.1).2).0 in
            let flags = and_parts (is_file_id s.0.0.id && nat_lt s.0.0.flags 4) (eqb s.0.0.last 0) is in
            let leads : is_file (leader_by h) ≡ true = ap (λ (g : Head). is_file (leader_by g)) s.2 ∙ and_from (is_file_id s.0.0.id && nat_lt s.0.0.flags 4) true flags.0 refl in
            sym (leader_same xs (leader_by h) leads)

        mapped : (gs : List Head) → ((k : ℕ) (h : Head) → slice_get gs k ≡ Some h → leader_by h ≡ leader_of (file h)) → map leader_by gs ≡ map leader_of (map file gs)
        mapped [] same = refl
        mapped (g ∷ gs) same = let a = same 0 g refl in let b = mapped gs (λ k h at. same (suc k) h at) in λ i. a i ∷ b i
