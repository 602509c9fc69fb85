-- What spares a file: writes one by one, and in a row.
use Rattle.std.proofs.Common.{◌≡◌, ◌≢◌, ◌⊎◌, inl, inr, ℕ, zero, suc, ◌+◌, ◌-◌, ◌<◌, ◌≤◌, Bool, true, false, List, [], ◌∷◌, ◌++◌, length, take, Option, Some, None, refl, sym, ◌∙◌, ap, subst, arith, eqb}
use Rattle.std.specs.Prelude.{filter, not, option_map, slice_get, slice_set, if◌then◌else◌}
use Rattle.std.specs.Option.{option_map_or}
use Rattle.std.proofs.lemmas.Bool.{cases_eq, cases_lt, eq-eqb, eqb-true, ne_eqb}
use Rattle.std.proofs.lemmas.List.{take_all}
use Rattle.std.proofs.lemmas.Option.{none-some, same_Some, slice_get_within}
use Rattle.labelled_disk.specs.declared.disk.DiskWrite.{DiskWrite}
use Rattle.labelled_disk.specs.declared.disk.DiskWrite.TheVariants as write
use Rattle.labelled_disk.specs.declared.label.Label.{Label}
use Rattle.labelled_disk.specs.Calls.{RevealsSame}
use Rattle.labelled_disk.specs.CrashState.{crash_state, written}
use Rattle.labelled_disk.specs.Label.{is_free, is_permanent, leader_page, names}
use Rattle.labelled_disk.specs.Layout.{first_data}
use Rattle.labelled_disk.specs.Permitted.{IsNextLabel, Permitted}
use Rattle.labelled_disk.specs.Sectors.{Sector, free_label}
use Rattle.labelled_disk.specs.State.{DiskState}
use Rattle.labelled_disk.specs.WriteRuns.{Appended, after_writes}
use Rattle.labelled_disk.proofs.WriteRunLemmas.{appended_no_more, appended_none, appended_then, crash_state-earlier, crash_state-end, crash_state-later}
use Rattle.pilot_engine.specs.Sparing.{HasSameLabels, IsLasting, Spares, label_for}

-- ---- Sectors.

get_other : {X : Type 0} → (xs : List X) (i k : ℕ) (a : X) → k ≢ i → slice_get (slice_set xs i a) k ≡ slice_get xs k
get_other [] i k a other = refl
get_other (x ∷ xs) zero zero a other = absurd (other refl)
get_other (x ∷ xs) zero (suc k) a other = refl
get_other (x ∷ xs) (suc i) zero a other = refl
get_other (x ∷ xs) (suc i) (suc k) a other = get_other xs i k a (omega arith)

get_set : {X : Type 0} → (xs : List X) (i : ℕ) (s a : X) → slice_get xs i ≡ Some s → slice_get (slice_set xs i a) i ≡ Some a
get_set [] i s a there = absurd (none-some s there)
get_set (x ∷ xs) zero s a there = refl
get_set (x ∷ xs) (suc i) s a there = get_set xs i s a there

-- a label of another file
pub no_label : (id : ℕ) (s : Sector) → s.0.id ≢ id → label_for id (Some s) ≡ None
no_label id s other = ap (λ (b : Bool). if b then Some s.0 else None) (ne_eqb s.0.id id other)

pub own_label : (id : ℕ) (s : Sector) → s.0.id ≡ id → label_for id (Some s) ≡ Some s.0
own_label id s own = ap (λ (b : Bool). if b then Some s.0 else None) (eq-eqb s.0.id id own)

-- a label that names the file
named_by : (id : ℕ) (o : Option Sector) (l : Label) → label_for id o ≡ Some l → (s : Sector) × (o ≡ Some s) × (s.0 ≡ l) × (s.0.id ≡ id)
named_by id None l is = absurd (none-some l is)
named_by id (Some s) l is = elim (cases_eq s.0.id id) [
  | inl own ↦ (s, refl, same_Some s.0 l (sym (own_label id s own) ∙ is), own)
  | inr other ↦ absurd (none-some l (sym (no_label id s other) ∙ is))
]

pub same_labels : (id : ℕ) (d : List Sector) → HasSameLabels id d d
same_labels id d i above = refl

pub labels_then : (id : ℕ) (c d e : List Sector) → HasSameLabels id c d → HasSameLabels id d e → HasSameLabels id c e
labels_then id c d e one more i above = more i above ∙ one i above

pub lasting_still : (id : ℕ) (d e : List Sector) → HasSameLabels id d e → IsLasting id d → IsLasting id e
lasting_still id d e same lasts i s above there own leads =
    let before = named_by id (slice_get d i) s.0 (sym (same i above) ∙ ap (label_for id) there ∙ own_label id s own) in
    let is : before.0.0 ≡ s.0 = before.2 in
    subst (λ (l : Label). is_permanent l ≡ true) is (lasts i before.0 above before.1 before.3 (ap (λ (l : Label). l.page) is ∙ leads))

-- one sector is another, which says the same of the file
turned : (id : ℕ) (d : List Sector) (sector : ℕ) (s t : Sector) → slice_get d sector ≡ Some s → (0 < sector → label_for id (Some t) ≡ label_for id (Some s)) → HasSameLabels id d (slice_set d sector t)
turned id d sector s t there same i above = elim (cases_eq i sector) [
  | inl here ↦ subst (λ (j : ℕ). label_for id (slice_get (slice_set d sector t) j) ≡ label_for id (slice_get d j)) (sym here)
      (ap (label_for id) (get_set d sector s t there) ∙ same (subst (λ (j : ℕ). 0 < j) here above) ∙ ap (label_for id) (sym there))
  | inr other ↦ ap (label_for id) (get_other d sector i t other)
]

-- ---- One write.

-- the write gives no sector a label of the file, and takes none away
abbrev pub LeavesFile : ℕ → List Sector → DiskWrite → Type 0
LeavesFile id d (write.Whole sector label page) = (sector ≡ 0) ⊎ (label.id ≢ id)
LeavesFile id d (write.LabelOnly sector label) = (s : Sector) → slice_get d sector ≡ Some s → s.0.id ≢ id
LeavesFile id d (write.Page sector wanted page) = Unit {0}

free_id : (l : Label) → is_free l ≡ true → l.id ≡ 0
free_id l free = eqb-true l.id 0 free

-- nothing stands in sector 0 alone
outside : (id : ℕ) (d : List Sector) (t : Sector) → HasSameLabels id d (slice_set d 0 t)
outside id d t i above = ap (label_for id) (get_other d 0 i t (omega (arith, above)))

next_other : (id : ℕ) (old new : Label) → 16 ≤ id → old.id ≢ id → IsNextLabel old new → new.id ≢ id
next_other id old new client other (inl free) own = let zero_id : 0 ≡ id = sym (ap (λ (l : Label). l.id) free) ∙ own in omega (arith, client, zero_id)
next_other id old new client other (inr (leads, inl marked)) own = other (sym (ap (λ (l : Label). l.id) marked) ∙ own)
next_other id old new client other (inr (leads, inr marked)) own = other (sym (ap (λ (l : Label). l.id) marked) ∙ own)

by_names : (id : ℕ) (d : List Sector) (sector : ℕ) (s : Sector) (bytes : List ℕ) (b : Bool) → slice_get d sector ≡ Some s → HasSameLabels id d (if b then slice_set d sector (s.0, bytes) else d)
by_names id d sector s bytes true there = turned id d sector s (s.0, bytes) there (λ above. refl)
by_names id d sector s bytes false there = same_labels id d

pub write_leaves : (id : ℕ) → 16 ≤ id → (d : List Sector) (w : DiskWrite) → Permitted d w → LeavesFile id d w → HasSameLabels id d (written w d)
write_leaves id client d (write.Whole sector label page) (inl root) leaves = subst (λ (k : ℕ). HasSameLabels id d (slice_set d k (label, page))) (sym root.place) (outside id d (label, page))
write_leaves id client d (write.Whole sector label page) (inr fresh) (inl root) = subst (λ (k : ℕ). HasSameLabels id d (slice_set d k (label, page))) (sym root) (outside id d (label, page))
write_leaves id client d (write.Whole sector label page) (inr fresh) (inr other) =
    let s = fresh.old.0 in
    let was : s.0.id ≡ 0 = free_id s.0 fresh.old.2 in
    turned id d sector s (label, page) fresh.old.1.here (λ above. no_label id (label, page) other ∙ sym (no_label id s (λ own. let z : 0 ≡ id = sym was ∙ own in omega (arith, client, z))))
write_leaves id client d (write.LabelOnly sector label) permitted leaves =
    let s = permitted.old.0 in
    let other = leaves s permitted.old.1.here in
    subst (λ (o : Option Sector). HasSameLabels id d (option_map_or (λ old. slice_set d sector (label, old.1)) o d)) (sym permitted.old.1.here)
    (turned id d sector s (label, s.1) permitted.old.1.here (λ above. no_label id (label, s.1) (next_other id s.0 label client other permitted.old.3) ∙ sym (no_label id s other)))
write_leaves id client d (write.Page sector wanted bytes) permitted leaves =
    let s = permitted.old.0 in
    subst (λ (o : Option Sector). HasSameLabels id d (option_map_or (λ old. if names old.0 wanted then slice_set d sector (old.0, bytes) else d) o d)) (sym permitted.old.1)
    (by_names id d sector s bytes (names s.0 wanted) permitted.old.1)

-- ---- Writes in a row.

-- so it is of each, where it is made
abbrev pub EachLeaves : ℕ → List Sector → List DiskWrite → Type 0
EachLeaves id d ws = (k : ℕ) (w : DiskWrite) → slice_get ws k ≡ Some w → Permitted (crash_state d ws k) w × LeavesFile id (crash_state d ws k) w

pub row_leaves : (id : ℕ) → 16 ≤ id → (d : List Sector) (ws : List DiskWrite) → EachLeaves id d ws → (k : ℕ) → HasSameLabels id d (crash_state d ws k)
row_leaves id client d ws each zero = same_labels id d
row_leaves id client d [] each (suc k) = same_labels id d
row_leaves id client d (w ∷ ws) each (suc k) =
    let first = each 0 w refl in
    labels_then id d (written w d) (crash_state (written w d) ws k) (write_leaves id client d w first.0 first.1) (row_leaves id client (written w d) ws (λ j v at. each (suc j) v at) k)

-- one call, and then another
pub spares_then : {id : ℕ} {a b c : DiskState} → Spares id a b → Spares id b c → Spares id a c
spares_then {id = id} {a = a} {b = b} {c = c} one more = record {
  writes = one.writes ++ more.writes;
  appended = appended_then one.writes more.writes one.appended more.appended;
  same = λ d earlier revealed made lasts k.
      let first = one.same d earlier revealed made lasts in
      let mid : List Sector = after_writes one.writes d in
      let there : HasSameLabels id d mid = subst (HasSameLabels id d) (crash_state-end d one.writes) (first (length one.writes)) in
      elim (cases_lt (length one.writes) k) [
        | inl past ↦
            let j : k ≡ length one.writes + (k - length one.writes) = omega (arith, past) in
            subst (HasSameLabels id d) (sym (ap (crash_state d (one.writes ++ more.writes)) j ∙ crash_state-later d one.writes more.writes (k - length one.writes)))
            (labels_then id d mid (crash_state mid more.writes (k - length one.writes)) there
            (more.same mid (earlier ++ one.writes) (one.appended.contents ∙ ap (option_map (after_writes one.writes)) revealed) (one.appended.revealed ∙ ap (option_map (λ (l : List DiskWrite). l ++ one.writes)) made)
            (lasting_still id d mid there lasts) (k - length one.writes)))
        | inr few ↦ subst (HasSameLabels id d) (sym (crash_state-earlier d one.writes more.writes k (omega (arith, few)))) (first k)
      ];
}

none_made : (id : ℕ) (d : List Sector) (k : ℕ) → HasSameLabels id d (crash_state d [] k)
none_made id d zero = same_labels id d
none_made id d (suc k) = same_labels id d

-- a root that is written
pub root_leaves : (id : ℕ) (label : Label) (page : List ℕ) (d : List Sector) (k : ℕ) → HasSameLabels id d (crash_state d (write.Whole 0 label page ∷ []) k)
root_leaves id label page d zero = same_labels id d
root_leaves id label page d (suc k) = labels_then id d (slice_set d 0 (label, page)) (crash_state (slice_set d 0 (label, page)) [] k) (outside id d (label, page)) (none_made id (slice_set d 0 (label, page)) k)

pub spares_same : (id : ℕ) {a b : DiskState} → RevealsSame a b → Spares id a b
spares_same id same = record { writes = []; appended = appended_none same; same = λ d earlier revealed made lasts k. none_made id d k }

-- and then nothing is written
pub spares_still : {id : ℕ} {a b c : DiskState} → Spares id a b → RevealsSame b c → Spares id a c
spares_still one same = record { writes = one.writes; appended = appended_no_more one.writes one.appended same; same = one.same }
