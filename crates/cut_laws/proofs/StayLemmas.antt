-- Files that no write is of, files that there are not, and pages of which no label was written.
use Rattle.std.proofs.Common.{◌≡◌, ◌≢◌, inl, inr, ℕ, zero, suc, ◌+◌, ◌<◌, ◌≤◌, Bool, true, false, ◌&&◌, List, [], ◌∷◌, length, Option, Some, None, refl, sym, ◌∙◌, ap, subst, arith, eqb}
use Rattle.std.specs.Prelude.{slice_get, find, option_map, nat_lt}
use Rattle.std.proofs.lemmas.Bool.{true≢false, eqb-true, and_parts}
use Rattle.std.proofs.lemmas.Option.{same_Some, none-some}
use Rattle.labelled_disk.specs.declared.label.Label.{Label}
use Rattle.labelled_disk.specs.declared.label.Wanted.{Wanted}
use Rattle.labelled_disk.specs.declared.disk.DiskWrite.{DiskWrite}
use Rattle.labelled_disk.specs.File.{Page}
use Rattle.labelled_disk.specs.FilesOn.{is_of, is_page, leads_file, page_at, file_among}
use Rattle.labelled_disk.specs.Label.{is_file, is_free, names, leader_page}
use Rattle.labelled_disk.specs.Layout.{data_sectors, first_data}
use Rattle.labelled_disk.specs.CrashState.{crash_state, written}
use Rattle.labelled_disk.specs.Sectors.{Sector, free_label}
use Rattle.labelled_disk.proofs.Finds.{none_passes}
use Rattle.labelled_disk.proofs.Pages.{pages_same, pages_each}
use Rattle.labelled_disk.proofs.SectorWrites as w
use Rattle.label_laws.specs.PermittedRuns.{ArePermitted}
use Rattle.label_laws.specs.Mixed.{gives_label}
use Rattle.label_laws.specs.Shape.{bare_file}
use Rattle.label_laws.specs.OneFile.{NoneOf, id_of}
use Rattle.label_laws.proofs.FileLemmas.{free_none, named_id}
use Rattle.label_laws.proofs.MixedLemmas.{crash_state_long}
use Rattle.cut_laws.specs.Cut.{IsCutSince}
use Rattle.cut_laws.specs.ShapeLaws.{PagesStay}
use Rattle.cut_laws.specs.StayLaws.{OthersStayInCuts, NoneAppears, PagesOfFile}
use Rattle.cut_laws.specs.Windows.{EachWrite, IsPageWriteOf, IsUnwritten}
use Rattle.cut_laws.proofs.CrashStateLemmas.{data_at}
use Rattle.cut_laws.proofs.PairLemmas.{Pairs, Alike, alike_less, alike_then, lowest, leader_pairs, there_pairs, count_pairs, shape_by_count}
use Rattle.cut_laws.proofs.SteadyLemmas.{SameBy, Steady, Still, same_then, same_alike, steady_units, still_pairs, page_pairs, not_of-not_page, not_of-not_leader, other_id}
use Rattle.cut_laws.proofs.TurnLemmas.{Turn, stays, bytes, fresh, freed, marked, turns, id_of_label, id_of_page}

none_each : (d : List Sector) (writes : List DiskWrite) (id : ℕ) → NoneOf id d writes → EachWrite (λ now write. id ≢ id_of now write) d writes
none_each d [] id none k write here = absurd (none-some write here)
none_each d (w ∷ ws) id none zero write here = subst (λ (v : DiskWrite). id ≢ id_of d v) (same_Some w write here) none.0
none_each d (w ∷ ws) id none (suc k) write here = none_each (written w d) ws id none.1 k write here

abbrev pub Of : ℕ → Label → Bool
Of id l = is_of id (l, [])

pub free_fails : (id : ℕ) (l : Label) → is_free l ≡ true → Of id l ≡ false
free_fails id l free = ap (λ (b : Bool). b && eqb l.id id) (free_none l free)

pub of_id : (id : ℕ) (s : Sector) → is_of id s ≡ true → s.0.id ≡ id
of_id id s is = eqb-true s.0.id id (and_parts (is_file s.0) (eqb s.0.id id) is).1

pub named_page : (l : Label) (wanted : Wanted) → names l wanted ≡ true → l.page ≡ wanted.page
named_page l wanted is =
    let a = and_parts (eqb l.id wanted.id && eqb l.page wanted.page && nat_lt l.flags 4) (eqb l.last 0) is in
    let b = and_parts (eqb l.id wanted.id && eqb l.page wanted.page) (nat_lt l.flags 4) a.0 in
    eqb-true l.page wanted.page (and_parts (eqb l.id wanted.id) (eqb l.page wanted.page) b.0).1

-- a write of another file
pub turn_same : (id : ℕ) (now : List Sector) (write : DiskWrite) (i : ℕ) (s t : Sector) → slice_get now i ≡ Some s → id ≢ id_of now write → Turn write i s t → SameBy (Of id) s t
turn_same id now write i s t here apart (stays e) = inl e
turn_same id now write i s t here apart (bytes wanted is named label) =
    let own : s.0.id ≢ id = λ e. apart (sym e ∙ sym (id_of_page now write i wanted t.1 s.0 is named)) in
    inr (other_id id s.0 own, ap (Of id) label ∙ other_id id s.0 own)
turn_same id now write i s t here apart (fresh is free taken page) = inr (free_fails id s.0 free, other_id id t.0 (λ e. apart (sym e ∙ sym (ap (id_of now) is))))
turn_same id now write i s t here apart (freed is new) =
    inr (other_id id s.0 (λ e. apart (sym e ∙ sym (id_of_label now write i free_label s is here))), ap (λ (v : Sector). Of id v.0) new)
turn_same id now write i s t here apart (marked is same old new page) =
    let own : s.0.id ≢ id = λ e. apart (sym e ∙ sym (id_of_label now write i t.0 s is here)) in
    inr (other_id id s.0 own, other_id id t.0 (λ e. own (sym same ∙ e)))

-- a write that is no label write of this file
pub turn_alike : (id : ℕ) (now : List Sector) (write : DiskWrite) (i : ℕ) (s t : Sector) → slice_get now i ≡ Some s → (gives_label write ≡ true → id ≢ id_of now write) → Turn write i s t → Alike (Of id) s.0 t.0
turn_alike id now write i s t here apart (stays e) = inl (ap (λ (v : Sector). v.0) (sym e))
turn_alike id now write i s t here apart (bytes wanted is named label) = inl (sym label)
turn_alike id now write i s t here apart (fresh is free taken page) = same_alike (Of id) s t (turn_same id now write i s t here (apart (ap gives_label is)) (fresh is free taken page))
turn_alike id now write i s t here apart (freed is new) = same_alike (Of id) s t (turn_same id now write i s t here (apart (ap gives_label is)) (freed is new))
turn_alike id now write i s t here apart (marked is same old new page) = same_alike (Of id) s t (turn_same id now write i s t here (apart (ap gives_label is)) (marked is same old new page))

-- what each turn leaves alike is alike in each crash state
pub steady_by_turns : (test : Label → Bool) (d : List Sector) (writes : List DiskWrite) → ArePermitted d writes
    → ((k : ℕ) (write : DiskWrite) (i : ℕ) (s t : Sector) → slice_get writes k ≡ Some write → first_data (length d) ≤ i → slice_get (crash_state d writes k) i ≡ Some s → Turn write i s t → Alike test s.0 t.0)
    → Steady test d writes
steady_by_turns test d writes permitted each i s low here =
    turns (λ k t. Alike test s.0 t.0) d writes i permitted low (λ t there. inl (ap (λ (v : Sector). v.0) (same_Some s t (sym here ∙ there))))
    (λ k write u t few is now then turn before. alike_then test s.0 u.0 t.0 before (each k write i u t is low now turn))

pub still_by_turns : (test : Label → Bool) (d : List Sector) (writes : List DiskWrite) → ArePermitted d writes
    → ((k : ℕ) (write : DiskWrite) (i : ℕ) (s t : Sector) → slice_get writes k ≡ Some write → first_data (length d) ≤ i → slice_get (crash_state d writes k) i ≡ Some s → Turn write i s t → SameBy test s t)
    → Still test d writes
still_by_turns test d writes permitted each i s low here =
    turns (λ k t. SameBy test s t) d writes i permitted low (λ t there. inl (same_Some t s (sym there ∙ here)))
    (λ k write u t few is now then turn before. same_then test s u t before (each k write i u t is low now turn))

-- pairs under a narrower test
less_pairs : (test narrow : Label → Bool) (xs ys : List Sector) → ((l : Label) → test l ≡ false → narrow l ≡ false) → Pairs (λ s t. Alike test s.0 t.0) xs ys → Pairs (λ s t. Alike narrow s.0 t.0) xs ys
less_pairs test narrow xs ys less pairs = record { long = pairs.long; each = λ i s t here there. alike_less test narrow s.0 t.0 less (pairs.each i s t here there) }

less_steady : (test narrow : Label → Bool) (d : List Sector) (writes : List DiskWrite) → ((l : Label) → test l ≡ false → narrow l ≡ false) → Steady test d writes → Steady narrow d writes
less_steady test narrow d writes less steady i s low here k few t there = alike_less test narrow s.0 t.0 less (steady i s low here k few t there)

-- the shape rests on the labels of the file
pub shape_pairs : (all : Bool) (id : ℕ) (xs ys : List Sector) → Pairs (λ s t. Alike (Of id) s.0 t.0) xs ys
    → option_map bare_file (file_among all ys id) ≡ option_map bare_file (file_among all xs id)
shape_pairs all id xs ys pairs =
    shape_by_count all id xs ys (leader_pairs all id xs ys (less_pairs (Of id) (λ l. leads_file all id (l, [])) xs ys (λ l fails. not_of-not_leader all id l fails) pairs))
    (count_pairs (page_at xs id) (page_at ys id) 0 leader_page (λ k low. there_pairs id k xs ys (less_pairs (Of id) (λ l. is_page id k (l, [])) xs ys (λ l fails. not_of-not_page id k l fails) pairs)))

-- Where writes of labels leave the sectors of a page as they are.
abbrev pub LabelsLeavePage : ℕ → ℕ → List Sector → List DiskWrite → Type 0
LabelsLeavePage id p d writes = (k : ℕ) (write : DiskWrite) (i : ℕ) (s t : Sector) → slice_get writes k ≡ Some write → slice_get (crash_state d writes k) i ≡ Some s → gives_label write ≡ true
    → Turn write i s t → SameBy (λ l. is_page id p (l, [])) s t

pub steady_page : (id p : ℕ) (d : List Sector) (writes : List DiskWrite) → ArePermitted d writes → LabelsLeavePage id p d writes → Steady (λ l. is_page id p (l, [])) d writes
steady_page id p d writes permitted leave = steady_by_turns (λ l. is_page id p (l, [])) d writes permitted (λ k write i s t is low now turn. one k write i s t is now turn)
  where
    one : (k : ℕ) (write : DiskWrite) (i : ℕ) (s t : Sector) → slice_get writes k ≡ Some write → slice_get (crash_state d writes k) i ≡ Some s → Turn write i s t → Alike (λ l. is_page id p (l, [])) s.0 t.0
    one k write i s t is now (stays e) = inl (ap (λ (v : Sector). v.0) (sym e))
    one k write i s t is now (bytes wanted eq named label) = inl (sym label)
    one k write i s t is now (fresh a b c e) = same_alike (λ l. is_page id p (l, [])) s t (leave k write i s t is now (ap gives_label a) (fresh a b c e))
    one k write i s t is now (freed a b) = same_alike (λ l. is_page id p (l, [])) s t (leave k write i s t is now (ap gives_label a) (freed a b))
    one k write i s t is now (marked a b c e f) = same_alike (λ l. is_page id p (l, [])) s t (leave k write i s t is now (ap gives_label a) (marked a b c e f))

still_page : (id p : ℕ) (d : List Sector) (writes : List DiskWrite) → ArePermitted d writes → LabelsLeavePage id p d writes → IsUnwritten id p d writes → Still (λ l. is_page id p (l, [])) d writes
still_page id p d writes permitted leave same = still_by_turns (λ l. is_page id p (l, [])) d writes permitted (λ k write i s t is low now turn. one k write i s t is now turn)
  where
    other : (s : Sector) (wanted : Wanted) → ((wanted.id ≡ id) × (wanted.page ≡ p) → ⊥) → names s.0 wanted ≡ true → is_page id p s ≡ false
    other s wanted apart named = either (is_page id p s) refl
      where
        either : (b : Bool) → is_page id p s ≡ b → is_page id p s ≡ false
        either false f = f
        either true f = absurd (apart (sym (named_id s.0 wanted named) ∙ of_id id s (w.page_of true id p s f), sym (named_page s.0 wanted named) ∙ w.page_number true id p s f))

    one : (k : ℕ) (write : DiskWrite) (i : ℕ) (s t : Sector) → slice_get writes k ≡ Some write → slice_get (crash_state d writes k) i ≡ Some s → Turn write i s t → SameBy (λ l. is_page id p (l, [])) s t
    one k write i s t is now (stays e) = inl e
    one k write i s t is now (bytes wanted eq named label) =
        let fails : is_page id p s ≡ false = other s wanted (λ both. same k write is (subst (λ (v : DiskWrite). IsPageWriteOf id p v) (sym eq) both)) named in
        inr (fails, ap (λ (l : Label). is_page id p (l, [])) label ∙ fails)
    one k write i s t is now (fresh a b c e) = leave k write i s t is now (ap gives_label a) (fresh a b c e)
    one k write i s t is now (freed a b) = leave k write i s t is now (ap gives_label a) (freed a b)
    one k write i s t is now (marked a b c e f) = leave k write i s t is now (ap gives_label a) (marked a b c e f)

pub pages_stay : (d : List Sector) (writes : List DiskWrite) (e : List Sector) (id : ℕ) → ArePermitted d writes → IsCutSince d writes e → ((p : ℕ) → p < leader_page → LabelsLeavePage id p d writes) → PagesStay d writes e id
pages_stay d writes e id permitted cut leave = record {
  pages = λ p u cells low is. steady_units d writes e cut id p (steady_page id p d writes permitted (leave p low)) u cells is;
  unwritten = λ p low same. page_pairs id p (data_sectors d) (data_sectors e) (still_pairs d writes e cut (λ l. is_page id p (l, [])) (still_page id p d writes permitted (leave p low) same));
}

-- sectors of another file are no page of this one
pub narrow_page : (id p : ℕ) (s t : Sector) → SameBy (Of id) s t → SameBy (λ l. is_page id p (l, [])) s t
narrow_page id p s t (inl e) = inl e
narrow_page id p s t (inr f) = inr (not_of-not_page id p s.0 f.0, not_of-not_page id p t.0 f.1)

module _ (all : Bool) where
  pub others_stay_in_cuts : OthersStayInCuts all
  others_stay_in_cuts d writes e id permitted cut none =
      w.by_same_pages all (data_sectors d) (data_sectors e) id
      (leader_pairs all id (data_sectors d) (data_sectors e) (leads pairs))
      (pages_same (page_at (data_sectors d) id) (page_at (data_sectors e) id) 0 leader_page (λ k low high. page_pairs id k (data_sectors d) (data_sectors e) (pages k pairs)))
    where
      pairs : Pairs (SameBy (Of id)) (data_sectors d) (data_sectors e)
      pairs = still_pairs d writes e cut (Of id) (still_by_turns (Of id) d writes permitted (λ k write i s t is low now turn. turn_same id (crash_state d writes k) write i s t now (none_each d writes id none k write is) turn))

      leads : Pairs (SameBy (Of id)) (data_sectors d) (data_sectors e) → Pairs (λ s t. Alike (λ l. leads_file all id (l, [])) s.0 t.0) (data_sectors d) (data_sectors e)
      leads p = record { long = p.long; each = λ i s t here there. alike_less (Of id) (λ l. leads_file all id (l, [])) s.0 t.0 (λ l fails. not_of-not_leader all id l fails) (same_alike (Of id) s t (p.each i s t here there)) }

      pages : (k : ℕ) → Pairs (SameBy (Of id)) (data_sectors d) (data_sectors e) → Pairs (SameBy (λ l. is_page id k (l, []))) (data_sectors d) (data_sectors e)
      pages k p = record { long = p.long; each = λ i s t here there. narrow_page id k s t (p.each i s t here there) }

  pub none_appears : NoneAppears all
  none_appears d writes e id cut none = w.file_none all (data_sectors e) id (ap (λ (o : Option Sector). option_map (λ s. s.0) o) (nowhere (find (leads_file all id) (data_sectors e)) refl))
    where
      nowhere : (o : Option Sector) → find (leads_file all id) (data_sectors e) ≡ o → find (leads_file all id) (data_sectors e) ≡ None
      nowhere None f = f
      nowhere (Some t) f =
          let low = lowest (leads_file all id) (data_sectors e) t f in
          let one = cut.labels (first_data (length e) + low.0) t (sym (data_at e low.0) ∙ low.1.here) in
          let long : length (crash_state d writes one.0) ≡ length e = crash_state_long d writes one.0 ∙ sym cut.sectors in
          let at : slice_get (data_sectors (crash_state d writes one.0)) low.0 ≡ Some one.3.0 =
          data_at (crash_state d writes one.0) low.0 ∙ ap (λ (n : ℕ). slice_get (crash_state d writes one.0) (first_data n + low.0)) long ∙ one.3.1 in
          let fails : leads_file all id one.3.0 ≡ false =
          none_passes (leads_file all id) (data_sectors (crash_state d writes one.0)) (w.none_leads all (data_sectors (crash_state d writes one.0)) id (none one.0 one.2)) low.0 one.3.0 at in
          absurd (true≢false (sym low.1.passes ∙ ap (λ (l : Label). leads_file all id (l, [])) (sym one.3.2) ∙ fails))

  pub pages_of_file : PagesOfFile all
  pages_of_file d id p f is low =
      let same : f.pages ≡ w.all_pages all (data_sectors d) id = w.file_pages all (data_sectors d) id f is in
      ap (λ (l : List Page). slice_get l p) same
      ∙ pages_each (page_at (data_sectors d) id) 0 leader_page p (omega (arith, low, ap (λ (l : List Page). length l) same))
      ∙ ap (page_at (data_sectors d) id) (let z : 0 + p ≡ p = omega arith in z)
