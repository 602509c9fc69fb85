-- The label writes of one file among writes of all.
use Rattle.std.proofs.Common.{◌≡◌, ◌≢◌, ◌⊎◌, inl, inr, ℕ, zero, suc, ◌+◌, ◌<◌, ◌≤◌, Bool, true, false, ◌&&◌, List, [], ◌∷◌, ◌++◌, length, Some, refl, sym, ◌∙◌, ap, subst, arith, eqb}
use Rattle.std.specs.Prelude.{slice_get, if◌then◌else◌, nat_lt}
use Rattle.std.proofs.lemmas.Bool.{and_parts, and_from, eqb-true, eq-eqb, true≢false}
use Rattle.std.proofs.lemmas.Option.{same_Some, none-some, slice_get_within}
use Rattle.labelled_disk.specs.declared.label.Label.{Label}
use Rattle.labelled_disk.specs.declared.disk.DiskWrite.{DiskWrite}
use Rattle.labelled_disk.specs.declared.disk.DiskWrite.TheVariants as kind
use Rattle.labelled_disk.specs.declared.disk.DiskWrite.TheVariants.{Whole}
use Rattle.labelled_disk.specs.File.{size}
use Rattle.labelled_disk.specs.FilesOn.{is_of, is_page, leads_file}
use Rattle.labelled_disk.specs.Label.{is_file, is_file_id, leader_page, page_label}
use Rattle.labelled_disk.specs.Permitted.{Permitted}
use Rattle.labelled_disk.specs.Layout.{first_data}
use Rattle.labelled_disk.specs.CrashState.{crash_state, written}
use Rattle.labelled_disk.specs.Runs.{IsAt, ArePagesDown, freeing, growth, sector_of, zero_bytes}
use Rattle.labelled_disk.specs.Sectors.{Sector, free_label}
use Rattle.labelled_disk.specs.WriteRuns.{after_writes}
use Rattle.labelled_disk.proofs.LowestLemmas as lowest
use Rattle.labelled_disk.proofs.SectorWrites as w
use Rattle.labelled_disk.proofs.WriteLemmas as laws
use Rattle.label_laws.specs.PermittedRuns.{ArePermitted}
use Rattle.label_laws.specs.Mixed.{gives_label}
use Rattle.label_laws.specs.OneFile.{id_of}
use Rattle.label_laws.proofs.MixedLemmas.{written_long, written_other}
use Rattle.cut_laws.specs.OwnRuns.{OwnRunLaws, own_label_writes}
use Rattle.cut_laws.specs.ResizeLaws.{AddsNextPage, FreesLastPage}
use Rattle.cut_laws.specs.ShapeLaws.{FreesLeader, IsOnLeader, IsWholeOn}
use Rattle.cut_laws.specs.Windows.{EachWrite, IsLabelWriteOf, NoLabelOf}
use Rattle.cut_laws.proofs.CrashStateLemmas.{get_some}
use Rattle.cut_laws.proofs.PairLemmas.{alike_passes}
use Rattle.cut_laws.proofs.StayLemmas.{Of, turn_alike}
use Rattle.cut_laws.proofs.TurnLemmas.{turn}
use Rattle.cut_laws.proofs.WholeLemmas.{IsSizedOn}
use Rattle.cut_laws.proofs.WholeWriteLemmas.{step_adds, step_frees, step_other}

-- Writes one by one.

pub each_cons : (P : List Sector → DiskWrite → Type 0) (d : List Sector) (write : DiskWrite) (writes : List DiskWrite) → P d write → EachWrite P (written write d) writes → EachWrite P d (write ∷ writes)
each_cons P d write writes first rest zero one here = subst (P d) (same_Some write one here) first
each_cons P d write writes first rest (suc k) one here = rest k one here

each_nil : (P : List Sector → DiskWrite → Type 0) (d : List Sector) → EachWrite P d []
each_nil P d k write here = absurd (none-some write here)

pub each_append : (P : List Sector → DiskWrite → Type 0) (d : List Sector) (first next : List DiskWrite) → EachWrite P d first → EachWrite P (after_writes first d) next → EachWrite P d (first ++ next)
each_append P d [] next one more = more
each_append P d (write ∷ first) next one more = each_cons P d write (first ++ next) (one zero write refl) (each_append P (written write d) first next (λ k w here. one (suc k) w here) more)

each_weaker : (P Q : List Sector → DiskWrite → Type 0) (d : List Sector) (writes : List DiskWrite) → ((now : List Sector) (write : DiskWrite) → P now write → Q now write) → EachWrite P d writes → EachWrite Q d writes
each_weaker P Q d writes less each k write here = less (crash_state d writes k) write (each k write here)

module _ (id : ℕ) where
  -- the write is one of the file, or not
  is_own : List Sector → DiskWrite → Bool
  is_own d write = gives_label write && eqb (id_of d write) id

  own_is : (d : List Sector) (write : DiskWrite) → is_own d write ≡ true → IsLabelWriteOf id d write
  unfolding is_own
  own_is d write is = let both = and_parts (gives_label write) (eqb (id_of d write) id) is in (both.0, eqb-true (id_of d write) id both.1)

  is_not_own : (d : List Sector) (write : DiskWrite) → is_own d write ≡ false → IsLabelWriteOf id d write → ⊥
  unfolding is_own
  is_not_own d write fails of = true≢false (sym (and_from (gives_label write) (eqb (id_of d write) id) of.0 (eq-eqb (id_of d write) id of.1)) ∙ fails)

  appended : (d : List Sector) (first next : List DiskWrite) → own_label_writes id d (first ++ next) ≡ own_label_writes id d first ++ own_label_writes id (after_writes first d) next
  appended d [] next = refl
  appended d (write ∷ first) next = either (gives_label write && eqb (id_of d write) id) (appended (written write d) first next)
    where
      either : (b : Bool) → own_label_writes id (written write d) (first ++ next) ≡ own_label_writes id (written write d) first ++ own_label_writes id (after_writes first (written write d)) next
          → (if b then write ∷ own_label_writes id (written write d) (first ++ next) else own_label_writes id (written write d) (first ++ next))
          ≡ (if b then write ∷ own_label_writes id (written write d) first else own_label_writes id (written write d) first) ++ own_label_writes id (after_writes first (written write d)) next
      either true more = ap (λ (l : List DiskWrite). write ∷ l) more
      either false more = more

  -- the first write is the run's first, or none of the file
  own_cases : (d : List Sector) (write : DiskWrite) (writes run : List DiskWrite) → own_label_writes id d (write ∷ writes) ≡ run
      → ((IsLabelWriteOf id d write) × (write ∷ own_label_writes id (written write d) writes ≡ run)) ⊎ ((IsLabelWriteOf id d write → ⊥) × (own_label_writes id (written write d) writes ≡ run))
  unfolding is_own
  own_cases d write writes run is = either (is_own d write) refl is
    where
      either : (b : Bool) → is_own d write ≡ b → (if b then write ∷ own_label_writes id (written write d) writes else own_label_writes id (written write d) writes) ≡ run
          → ((IsLabelWriteOf id d write) × (write ∷ own_label_writes id (written write d) writes ≡ run)) ⊎ ((IsLabelWriteOf id d write → ⊥) × (own_label_writes id (written write d) writes ≡ run))
      either true e h = inl (own_is d write e, h)
      either false e h = inr (is_not_own d write e, h)

  none : (d : List Sector) (writes : List DiskWrite) → own_label_writes id d writes ≡ [] → NoLabelOf id d writes
  none d [] is = each_nil (λ now write. IsLabelWriteOf id now write → ⊥) d
  none d (write ∷ writes) is = either (own_cases d write writes [] is) (λ rest. none (written write d) writes rest)
    where
      either : ((IsLabelWriteOf id d write) × (write ∷ own_label_writes id (written write d) writes ≡ [])) ⊎ ((IsLabelWriteOf id d write → ⊥) × (own_label_writes id (written write d) writes ≡ []))
          → (own_label_writes id (written write d) writes ≡ [] → NoLabelOf id (written write d) writes) → NoLabelOf id d (write ∷ writes)
      either (inl own) more = absurd (omega (arith, ap (λ (l : List DiskWrite). length l) own.1))
      either (inr other) more = each_cons (λ now write. IsLabelWriteOf id now write → ⊥) d write writes other.0 (more other.1)

  -- a sector of the file stands where the write is none of the file
  at_stays : (test : Label → Bool) → ((l : Label) → test l ≡ true → Of id l ≡ true) → (d : List Sector) (write : DiskWrite) (i : ℕ) → Permitted d write → (IsLabelWriteOf id d write → ⊥) → IsAt (λ s. test s.0) d i
      → IsAt (λ s. test s.0) (written write d) i
  at_stays test of d write i permitted other at =
      let t = get_some (written write d) i (omega (arith, slice_get_within d i at.s at.there.here, written_long d write)) in
      let same : at.s.0 ≡ t.0.0 =
      alike_passes (Of id) at.s.0 t.0.0 (turn_alike id d write i at.s t.0 at.there.here (λ gives e. other (gives, sym e)) (turn d write i at.s t.0 permitted at.there.is_data at.there.here t.1)) (of at.s.0 at.passes) in
      record { s = t.0; there = record { is_data = subst (λ (n : ℕ). first_data n ≤ i) (sym (written_long d write)) at.there.is_data; here = t.1 }; passes = ap test (sym same) ∙ at.passes }

  -- or is made on another sector
  at_other : (test : Sector → Bool) (d : List Sector) (write : DiskWrite) (i : ℕ) → sector_of write ≢ i → IsAt test d i → IsAt test (written write d) i
  at_other test d write i off at = record {
    s = at.s;
    there = record { is_data = subst (λ (n : ℕ). first_data n ≤ i) (sym (written_long d write)) at.there.is_data; here = written_other d write i off ∙ at.there.here };
    passes = at.passes;
  }

  leads_of : (l : Label) → leads_file true id (l, []) ≡ true → Of id l ≡ true
  leads_of l is = laws.leader_of true 0 0 id (l, []) is

  page_of : (p : ℕ) (l : Label) → is_page id p (l, []) ≡ true → Of id l ≡ true
  page_of p l is = w.page_of true id p (l, []) is

  heads : (x y : DiskWrite) (xs ys : List DiskWrite) → x ∷ xs ≡ y ∷ ys → x ≡ y
  heads x y xs ys same = same_Some x y (ap (λ (l : List DiskWrite). slice_get l 0) same)

  tails : (x y : DiskWrite) (xs ys : List DiskWrite) → x ∷ xs ≡ y ∷ ys → xs ≡ ys
  tails x y xs ys same = ap (λ (l : List DiskWrite). tail l) same
    where
      tail : List DiskWrite → List DiskWrite
      tail [] = []
      tail (z ∷ zs) = zs

  -- One write on the leader.
  module _ (P : List Sector → DiskWrite → Type 0) (leader : ℕ) (label : Label) (so : (now : List Sector) → IsAt (leads_file true id) now leader → P now (kind.LabelOnly leader label)) where
    pub one_on_leader : (d : List Sector) (writes : List DiskWrite) → ArePermitted d writes → IsAt (leads_file true id) d leader → own_label_writes id d writes ≡ kind.LabelOnly leader label ∷ []
        → EachWrite (λ now write. IsLabelWriteOf id now write → P now write) d writes
    one_on_leader d [] permitted at is = absurd (omega (arith, ap (λ (l : List DiskWrite). length l) is))
    one_on_leader d (write ∷ writes) permitted at is = either (own_cases d write writes (kind.LabelOnly leader label ∷ []) is)
        (λ other rest. one_on_leader (written write d) writes permitted.1 (at_stays (λ l. leads_file true id (l, [])) leads_of d write leader permitted.0 other at) rest)
      where
        either : ((IsLabelWriteOf id d write) × (write ∷ own_label_writes id (written write d) writes ≡ kind.LabelOnly leader label ∷ []))
            ⊎ ((IsLabelWriteOf id d write → ⊥) × (own_label_writes id (written write d) writes ≡ kind.LabelOnly leader label ∷ []))
            → ((IsLabelWriteOf id d write → ⊥) → own_label_writes id (written write d) writes ≡ kind.LabelOnly leader label ∷ [] → EachWrite (λ now write. IsLabelWriteOf id now write → P now write) (written write d) writes)
            → EachWrite (λ now write. IsLabelWriteOf id now write → P now write) d (write ∷ writes)
        either (inl own) more =
            let rest = none (written write d) writes (tails write (kind.LabelOnly leader label) (own_label_writes id (written write d) writes) [] own.1) in
            each_cons (λ now write. IsLabelWriteOf id now write → P now write) d write writes (λ of. subst (P d) (sym (heads write (kind.LabelOnly leader label) (own_label_writes id (written write d) writes) [] own.1)) (so d at))
            (λ k one here of. absurd (rest k one here of))
        either (inr other) more = each_cons (λ now write. IsLabelWriteOf id now write → P now write) d write writes (λ of. absurd (other.0 of)) (more other.0 other.1)

  on_leader : (leader : ℕ) (label : Label) (now : List Sector) → IsAt (leads_file true id) now leader → IsOnLeader id now (kind.LabelOnly leader label)
  on_leader leader label now at = (at.s, at.there.here, at.passes)

  -- Pages from the last down.

  down_stay : (d : List Sector) (write : DiskWrite) (n : ℕ) (is : List ℕ) → Permitted d write → (IsLabelWriteOf id d write → ⊥) → ArePagesDown d id n is → ArePagesDown (written write d) id n is
  down_stay d write n [] permitted other down = tt
  down_stay d write zero (i ∷ is) permitted other down = down
  down_stay d write (suc n) (i ∷ is) permitted other down = (at_stays (λ l. is_page id n (l, [])) (page_of n) d write i permitted other down.0, down_stay d write n is permitted other down.1)

  -- the sectors of lower pages are others
  down_other : (d : List Sector) (write : DiskWrite) (p : ℕ) (s : Sector) → slice_get d (sector_of write) ≡ Some s → is_page id p s ≡ true → (n : ℕ) (is : List ℕ) → n ≤ p → ArePagesDown d id n is → ArePagesDown (written write d) id n is
  down_other d write p s here passes n [] low down = tt
  down_other d write p s here passes zero (i ∷ is) low down = down
  down_other d write p s here passes (suc n) (i ∷ is) low down = (
    at_other (is_page id n) d write i (λ e.
        let same : s ≡ down.0.s = same_Some s down.0.s (sym here ∙ ap (λ (k : ℕ). slice_get d k) e ∙ down.0.there.here) in
        omega (arith, low, sym (w.page_number true id p s passes) ∙ ap (λ (v : Sector). v.0.page) same ∙ w.page_number true id n down.0.s down.0.passes)) down.0,
    down_other d write p s here passes n is (omega (arith, low)) down.1,
  )

  abbrev Ends : List Sector → DiskWrite → Type 0
  Ends now write = IsLabelWriteOf id now write → FreesLastPage id now write ⊎ AddsNextPage id now write

  abbrev Shortens : List Sector → List DiskWrite → Type 0
  Shortens d writes = (n : ℕ) → IsSizedOn d id n → (is : List ℕ) → ArePagesDown d id n is → own_label_writes id d writes ≡ freeing is → EachWrite Ends d writes

  shortened : (d : List Sector) (writes : List DiskWrite) → ArePermitted d writes → Shortens d writes
  shortened d [] permitted n sized is down run = each_nil Ends d
  shortened d (write ∷ writes) permitted n sized is down run = either n sized is down (own_cases d write writes (freeing is) run) (shortened (written write d) writes permitted.1)
    where
      either : (n : ℕ) → IsSizedOn d id n → (is : List ℕ) → ArePagesDown d id n is
          → ((IsLabelWriteOf id d write) × (write ∷ own_label_writes id (written write d) writes ≡ freeing is)) ⊎ ((IsLabelWriteOf id d write → ⊥) × (own_label_writes id (written write d) writes ≡ freeing is))
          → Shortens (written write d) writes → EachWrite Ends d (write ∷ writes)
      either n sized is down (inr other) more =
          let v = step_other id d write permitted.0 (λ gives e. other.0 (gives, sym e)) sized.0 in
          each_cons Ends d write writes (λ of. absurd (other.0 of)) (more n (v.0, v.1 ∙ sized.1) is (down_stay d write n is permitted.0 other.0 down) other.1)
      either n sized [] down (inl own) more = absurd (omega (arith, ap (λ (l : List DiskWrite). length l) own.1))
      either zero sized (i ∷ is) down (inl own) more = absurd down
      either (suc m) sized (i ∷ is) down (inl own) more =
          let at = down.0 in
          let eq : write ≡ kind.LabelOnly i free_label = heads write (kind.LabelOnly i free_label) (own_label_writes id (written write d) writes) (freeing is) own.1 in
          let last : FreesLastPage id d write = subst (FreesLastPage id d) (sym eq) (refl, sized.0.0, sized.0.1, at.s, at.there.here, m, sized.1, at.passes) in
          let v = step_frees id d write permitted.0 last sized.0 in
          let same : v.0 ≡ m = omega (arith, v.1, sized.1) in
          let there : slice_get d (sector_of write) ≡ Some at.s = ap (λ (one : DiskWrite). slice_get d (sector_of one)) eq ∙ at.there.here in
          each_cons Ends d write writes (λ of. inl last)
          (more m (v.2.0, v.2.1 ∙ same) is (down_other d write m at.s there at.passes m is (omega arith) down.1)
          (tails write (kind.LabelOnly i free_label) (own_label_writes id (written write d) writes) (freeing is) own.1))

  -- Pages added at the end.

  -- a label of the file that is there
  page_is : (d : List Sector) → IsWholeOn d id → (n kind : ℕ) (page : List ℕ) → is_page id n (page_label id kind n, page) ≡ true
  page_is d whole n kind page =
      let revealed = (lowest.files_are_as_revealed true d).revealed id whole.0 whole.1 in
      let leader : is_of whole.0.id revealed.0.leader.1 ≡ true = laws.leader_of true 0 0 whole.0.id revealed.0.leader.1 revealed.0.leader.2.passes in
      let parts = and_parts (is_file revealed.0.leader.1.0) (eqb revealed.0.leader.1.0.id whole.0.id) leader in
      let file : is_file_id revealed.0.leader.1.0.id ≡ true =
      (and_parts (is_file_id revealed.0.leader.1.0.id) (nat_lt revealed.0.leader.1.0.flags 4) (and_parts (is_file_id revealed.0.leader.1.0.id && nat_lt revealed.0.leader.1.0.flags 4) (eqb revealed.0.leader.1.0.last 0) parts.0).0).0 in
      let mine : is_file_id id ≡ true = ap is_file_id (sym revealed.1 ∙ sym (eqb-true revealed.0.leader.1.0.id whole.0.id parts.1)) ∙ file in
      and_from (is_of id (page_label id kind n, page)) (eqb n n)
      (and_from (is_file (page_label id kind n)) (eqb id id) (ap (λ (b : Bool). b && true && true) mine) (eq-eqb id id refl)) (eq-eqb n n refl)

  abbrev Lengthens : List Sector → List DiskWrite → Type 0
  Lengthens d writes = (n kind : ℕ) → IsSizedOn d id n → (is : List ℕ) → n + length is < leader_page → own_label_writes id d writes ≡ growth id kind n is → EachWrite Ends d writes

  lengthened : (d : List Sector) (writes : List DiskWrite) → ArePermitted d writes → Lengthens d writes
  lengthened d [] permitted n kind sized is room run = each_nil Ends d
  lengthened d (write ∷ writes) permitted n kind sized is room run = either is room (own_cases d write writes (growth id kind n is) run) (lengthened (written write d) writes permitted.1)
    where
      either : (is : List ℕ) → n + length is < leader_page
          → ((IsLabelWriteOf id d write) × (write ∷ own_label_writes id (written write d) writes ≡ growth id kind n is)) ⊎ ((IsLabelWriteOf id d write → ⊥) × (own_label_writes id (written write d) writes ≡ growth id kind n is))
          → Lengthens (written write d) writes → EachWrite Ends d (write ∷ writes)
      either is room (inr other) more =
          let v = step_other id d write permitted.0 (λ gives e. other.0 (gives, sym e)) sized.0 in
          each_cons Ends d write writes (λ of. absurd (other.0 of)) (more n kind (v.0, v.1 ∙ sized.1) is room other.1)
      either [] room (inl own) more = absurd (omega (arith, ap (λ (l : List DiskWrite). length l) own.1))
      either (i ∷ is) room (inl own) more =
          let eq : write ≡ Whole i (page_label id kind n) zero_bytes = heads write (Whole i (page_label id kind n) zero_bytes) (own_label_writes id (written write d) writes) (growth id kind (n + 1) is) own.1 in
          let next : AddsNextPage id d write =
          subst (AddsNextPage id d) (sym eq)
          (sized.0.0, sized.0.1, ap (λ (k : ℕ). is_page id k (page_label id kind n, zero_bytes)) sized.1 ∙ page_is d sized.0 n kind zero_bytes, omega (arith, room, sized.1)) in
          let v = step_adds id d write permitted.0 next sized.0 in
          each_cons Ends d write writes (λ of. inr next)
          (more (n + 1) kind (v.0, (let z : suc (size sized.0.0) ≡ n + 1 = omega (arith, sized.1) in v.1 ∙ z)) is (omega (arith, room))
          (tails write (Whole i (page_label id kind n) zero_bytes) (own_label_writes id (written write d) writes) (growth id kind (n + 1) is) own.1))

pub own_run_laws : (id : ℕ) → OwnRunLaws id
own_run_laws id = record {
  appended = appended id;
  none = none id;
  marked = λ d writes leader label permitted at run. one_on_leader id (IsOnLeader id) leader label (on_leader id leader label) d writes permitted at run;
  freed = λ d writes leader permitted at run. one_on_leader id (FreesLeader id) leader free_label (λ now here. (on_leader id leader free_label now here, refl)) d writes permitted at run;
  shortened = λ d writes whole is permitted down run. shortened id d writes permitted (size whole.0) (whole, refl) is down run;
  lengthened = λ d writes whole kind is permitted room run. lengthened id d writes permitted (size whole.0) kind (whole, refl) is room run;
}
