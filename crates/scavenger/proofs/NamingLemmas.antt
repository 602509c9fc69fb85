-- A file map that names the triples of one run more.
use Rattle.std.proofs.Common.{◌≡◌, ◌≢◌, ◌⊎◌, inl, inr, ℕ, zero, suc, ◌+◌, ◌-◌, ◌*◌, ◌/◌, ◌^◌, ◌<◌, ◌≤◌, Bool, true, false, not, ◌&&◌, ◌||◌, List, [], ◌∷◌, ◌++◌, length, replicate, take, drop, Option, Some, None, refl, sym, ◌∙◌, ap, subst, arith, eqb, append_assoc}
use Rattle.std.specs.Prelude.{slice_get, nat_lt, nat_le}
use Rattle.std.specs.List.{AllByRecursion}
use Rattle.std.proofs.lemmas.Bool.{and_parts, eqb-true, eq-eqb, leb-true, ltb-true, ne_eqb, true≢false}
use Rattle.std.proofs.lemmas.List.{length-replicate, take-replicate}
use Rattle.std.proofs.lemmas.List.Folds.{list_any-append}
use Rattle.std.proofs.lemmas.Option.{same_Some, none-some, slice_get_within}
use Rattle.labelled_disk.specs.Layout.{IsCount, capacity, first_data, vam, vfm}
use Rattle.labelled_disk.specs.Sectors.{Sector}
use Rattle.page_tree.specs.Page.{page_at}
use Rattle.page_tree.specs.Reveals.{RevealsTree}
use Rattle.file_map.specs.declared.error.MapError.{MapError}
use Rattle.file_map.specs.declared.error.MapError.TheVariants.{Full, Malformed}
use Rattle.file_map.specs.Cause.{IsFullOr}
use Rattle.file_map.proofs.Empty.{zero_map}
use Rattle.file_map.specs.declared.run.Run.{Run}
use Rattle.file_map.specs.Run.{IsRun, holds}
use Rattle.file_map.specs.FileMap.{Triples, AreNamed, IsNew, most_records, with_run, no_triples}
use Rattle.file_map.specs.Laws.{AreFew, AreOnce}
use Rattle.label_survey.specs.declared.triples.Triple.{Triple}
use Rattle.label_survey.specs.declared.runs.Run.{Run as LabelRun}
use Rattle.label_survey.specs.Runs.{all_triples, triples_of, IsLong, AreRunsOf}
use Rattle.scavenger.specs.Naming.{among, AreTriples, IsNaming, HasRoomFor, map_run}
use Rattle.scavenger.specs.Stays.{AreNames, staying}
use Rattle.scavenger.proofs.AmongLemmas.{get_left, get_right, among_is, row_there, run_names_row, count_missing}

-- the same map by triples that are the same ones
pub naming_alike : (n : ℕ) (a b : Triples) (bytes : List ℕ) → ((id page sector : ℕ) → b id page sector ≡ a id page sector) → IsNaming n a bytes → IsNaming n b bytes
naming_alike n a b bytes alike is = record {
  size = is.size;
  names = record {
    runs = is.names.runs;
    listed = is.names.listed;
    form = is.names.form;
    few = is.names.few;
    are = λ id page sector. alike id page sector ∙ is.names.are id page sector;
  };
}

-- a map with room for a run that names none of its pages and not its sector is not full
pub not_full : (n : ℕ) (bytes : List ℕ) (run : Run) (count : ℕ) → IsCount n → IsRun n run → (room : HasRoomFor n bytes run) → AreFew n room.named count → count ≡ most_records n → ⊥
unfolding first_data
not_full n bytes run count is_count is_run room few full =
    let elsewhere : ℕ → Bool = λ (s : ℕ). not (eqb s run.sector) in
    let most = few elsewhere room.once (λ id page sector named. ap not (ne_eqb sector run.sector (room.elsewhere id page sector named))) in
    let missing = count_missing elsewhere (first_data n) (n - first_data n) run.sector is_run.from_data
    (omega (arith, is_run.from_data, is_run.inside, is_run.some)) (ap not (eq-eqb run.sector run.sector refl)) in
    omega (arith, most, missing, full, is_count.0, is_count.1, ceil_small n)
  where
    ceil_small : (m : ℕ) → vam m ≤ m / 4096 + 1
    ceil_small m = omega arith

-- Triples that are a prefix, a run, and a back.
module _ (n : ℕ) (triples prefix back : List Triple) (are : AreTriples n triples) (r : LabelRun) (long : 1 ≤ r.pages) (split : prefix ++ (triples_of r ++ back) ≡ triples) where
  before : (k : ℕ) (t : Triple) → slice_get prefix k ≡ Some t → slice_get triples k ≡ Some t
  before k t here = ap (λ (ts : List Triple). slice_get ts k) (sym split) ∙ get_left prefix (triples_of r ++ back) k t here

  abbrev member : ℕ → Triple
  member k = record { id = r.id; page = r.first + k; sector = r.sector + k }

  in_row : (k : ℕ) → k < r.pages → slice_get triples (length prefix + k) ≡ Some (member k)
  in_row k low =
      ap (λ (ts : List Triple). slice_get ts (length prefix + k)) (sym split) ∙ get_right prefix (triples_of r ++ back) k
      ∙ get_left (triples_of r) back k (member k) (row_there r.id r.first r.sector r.pages k low)

  -- the run may be one of the volume
  pub run_fits : r.id < 2 ^ 64 → IsRun n (map_run r)
  run_fits id_fits =
      let first = are.each (length prefix + 0) (member 0) (in_row 0 (omega (arith, long))) in
      let last = are.each (length prefix + (r.pages - 1)) (member (r.pages - 1)) (in_row (r.pages - 1) (omega (arith, long))) in
      record {
        of_file = inr first.of_file;
        id_fits = id_fits;
        some = long;
        pages_fit = omega (arith, last.page_fits, long);
        from_data = omega (arith, first.from_data);
        inside = omega (arith, last.inside, long);
      }

  -- none of its pages is named so far
  pub is_new : IsNew (among prefix) (map_run r)
  is_new page sector held = either (among prefix r.id page sector) refl
    where
      either : (b : Bool) → among prefix r.id page sector ≡ b → b ≡ false
      either false e = refl
      either true e =
          let parts = and_parts (eqb r.id r.id) (nat_le r.first page && nat_lt page (r.first + r.pages)) held in
          let range = and_parts (nat_le r.first page) (nat_lt page (r.first + r.pages)) parts.1 in
          let from = leb-true r.first page range.0 in
          let below = ltb-true page (r.first + r.pages) range.1 in
          let found = among_is prefix r.id page sector e in
          let k : ℕ = page - r.first in
          let same = are.apart found.0 (length prefix + k) (record { id = r.id; page = page; sector = sector }) (member k) (before found.0 _ found.1) (in_row k (omega (arith, from, below))) refl (omega (arith, from)) in
          absurd (omega (arith, same, slice_get_within prefix found.0 _ found.1))

  -- each sector is named once so far
  pub once : AreOnce (among prefix)
  once id page other number sector one two =
      let a = among_is prefix id page sector one in
      let b = among_is prefix other number sector two in
      let same = are.once a.0 b.0 (record { id = id; page = page; sector = sector }) (record { id = other; page = number; sector = sector }) (before a.0 _ a.1) (before b.0 _ b.1) refl in
      let equal = same_Some _ _ (sym a.1 ∙ ap (slice_get prefix) same ∙ b.1) in
      (ap (λ (t : Triple). t.id) equal, ap (λ (t : Triple). t.page) equal)

  -- and the first sector of the run is not
  pub elsewhere : (id page sector : ℕ) → among prefix id page sector ≡ true → sector ≢ r.sector
  elsewhere id page sector named at =
      let a = among_is prefix id page sector named in
      let same = are.once a.0 (length prefix + 0) (record { id = id; page = page; sector = sector }) (member 0) (before a.0 _ a.1) (in_row 0 (omega (arith, long))) (omega (arith, at)) in
      omega (arith, same, slice_get_within prefix a.0 _ a.1)

  pub has_room : (bytes : List ℕ) → IsNaming n (among prefix) bytes → HasRoomFor n bytes (map_run r)
  has_room bytes naming = record { named = among prefix; naming = naming; is_new = is_new; once = once; elsewhere = elsewhere }

-- with the run they are those of the longer prefix
pub with_run_is : (prefix : List Triple) (r : LabelRun) (id page sector : ℕ) → among (prefix ++ triples_of r) id page sector ≡ with_run (among prefix) (map_run r) id page sector
with_run_is prefix r id page sector =
    list_any-append (λ (t : Triple). eqb t.id id && (eqb t.page page && eqb t.sector sector)) prefix (triples_of r)
    ∙ ap (λ (b : Bool). among prefix id page sector || b) (sym (run_names_row r id page sector))

-- Runs one by one.

pub taken_runs : (runs : List LabelRun) (k : ℕ) (r : LabelRun) → slice_get runs k ≡ Some r → all_triples (take (k + 1) runs) ≡ all_triples (take k runs) ++ triples_of r
taken_runs runs k r here = let s : k + 1 ≡ suc k = omega arith in ap (λ (m : ℕ). all_triples (take m runs)) s ∙ more runs k here
  where
    nothing : (ts : List Triple) → ts ++ [] ≡ ts
    nothing [] = refl
    nothing (t ∷ ts) = ap (λ (l : List Triple). t ∷ l) (nothing ts)

    more : (runs : List LabelRun) (k : ℕ) → slice_get runs k ≡ Some r → all_triples (take (suc k) runs) ≡ all_triples (take k runs) ++ triples_of r
    more [] k here = absurd (none-some r here)
    more (q ∷ runs) zero here = nothing (triples_of q) ∙ ap triples_of (same_Some q r here)
    more (q ∷ runs) (suc k) here = ap (λ (l : List Triple). triples_of q ++ l) (more runs k here) ∙ sym (append_assoc (triples_of q) (all_triples (take k runs)) (triples_of r))

-- the triples before a run, its own, and those after it
pub split_runs : (runs : List LabelRun) (k : ℕ) (r : LabelRun) → slice_get runs k ≡ Some r → all_triples (take k runs) ++ (triples_of r ++ all_triples (drop (suc k) runs)) ≡ all_triples runs
split_runs [] k r here = absurd (none-some r here)
split_runs (q ∷ runs) zero r here = ap (λ (p : LabelRun). triples_of p ++ all_triples runs) (sym (same_Some q r here))
split_runs (q ∷ runs) (suc k) r here =
    append_assoc (triples_of q) (all_triples (take k runs)) (triples_of r ++ all_triples (drop (suc k) runs)) ∙ ap (λ (l : List Triple). triples_of q ++ l) (split_runs runs k r here)

pub long_run : (runs : List LabelRun) (k : ℕ) (r : LabelRun) → AllByRecursion IsLong runs → slice_get runs k ≡ Some r → IsLong r
long_run [] k r all here = absurd (none-some r here)
long_run (q ∷ runs) zero r all here = subst IsLong (same_Some q r here) all.0
long_run (q ∷ runs) (suc k) r all here = long_run runs k r all.1 here

-- The map as a memory reveals it.

pub to_map : (n s : ℕ) (bytes c : List ℕ) (named : Triples) → s ≡ n → c ≡ bytes → IsNaming n named bytes → AreNamed s (RevealsTree 24 12 (length c / 512) (λ b. b ≡ c)) named
to_map n s bytes c named same_count same is =
    let pages : vfm n ≡ length c / 512 = omega (arith, is.size, ap (λ (b : List ℕ). length b) same) in
    subst (λ (m : ℕ). AreNamed m (RevealsTree 24 12 (length c / 512) (λ b. b ≡ c)) named) (sym same_count)
    (subst (λ (m : ℕ). AreNamed n (RevealsTree 24 12 m (λ b. b ≡ c)) named) pages
    (subst (λ (x : List ℕ). AreNamed n (RevealsTree 24 12 (vfm n) (λ b. b ≡ x)) named) (sym same) is.names))

pub from_map : (n s : ℕ) (bytes c : List ℕ) (named : Triples) → s ≡ n → c ≡ bytes → length c ≡ 512 * vfm n → AreNamed s (RevealsTree 24 12 (length c / 512) (λ b. b ≡ c)) named → IsNaming n named bytes
from_map n s bytes c named same_count same size is = record {
  size = sym (ap (λ (b : List ℕ). length b) same) ∙ size;
  names =
      let pages : length c / 512 ≡ vfm n = omega (arith, size) in
      subst (λ (x : List ℕ). AreNamed n (RevealsTree 24 12 (vfm n) (λ b. b ≡ x)) named) same
      (subst (λ (m : ℕ). AreNamed n (RevealsTree 24 12 m (λ b. b ≡ c)) named) pages
      (subst (λ (m : ℕ). AreNamed m (RevealsTree 24 12 (length c / 512) (λ b. b ≡ c)) named) same_count is));
}

-- a map of zeros names nothing
pub naming_nothing : (n pages : ℕ) (bytes : List ℕ) → IsCount n → pages ≡ vfm n → bytes ≡ replicate (512 * pages) 0 → IsNaming n no_triples bytes
naming_nothing n pages bytes count same zeros =
    let long : length bytes ≡ 512 * vfm n = ap (λ (b : List ℕ). length b) zeros ∙ (let zero : ℕ = 0 in length-replicate (512 * pages) zero) ∙ ap (λ (m : ℕ). 512 * m) same in
    let few : 512 ≤ 512 * pages = omega (arith, same) in
    let start : 512 * 0 ≡ 0 = omega arith in
    let first : page_at bytes 0 ≡ replicate 512 0 =
    ap (λ (m : ℕ). take 512 (drop m bytes)) start ∙ ap (take 512) zeros ∙ (let zero : ℕ = 0 in take-replicate 512 (512 * pages) zero few) in
    from_map n n bytes bytes no_triples refl refl long
    (subst (λ (m : ℕ). AreNamed n (RevealsTree 24 12 (m / 512) (λ b. b ≡ bytes)) no_triples) (sym long)
    (zero_map n (512 * vfm n) (λ b. b ≡ bytes) bytes count refl refl first))

-- Why a run that was refused would have been.

pub full_says : {X : Type 0} {A B : Type 0} (e : MapError X) → e ≡ Full → IsFullOr A B e → A × B
full_says {X} {A} {B} e same says = subst (λ (x : MapError X). IsFullOr A B x) same says

pub malformed_never : {X : Type 0} (A B : Type 0) (e : MapError X) (page : ℕ) → e ≡ Malformed page → IsFullOr A B e → ⊥
malformed_never {X} A B e page same says = subst (λ (x : MapError X). IsFullOr A B x) same says

-- the same map on a disk of n sectors
pub names_of : (d : List Sector) (n : ℕ) (a : Triples) (bytes : List ℕ) → length d ≡ n → ((id page sector : ℕ) → staying d id page sector ≡ a id page sector) → IsNaming n a bytes → AreNames d bytes
names_of d n a bytes long alike is =
    let now = naming_alike n a (staying d) bytes alike is in
    record {
      size = now.size ∙ ap (λ (m : ℕ). 512 * vfm m) (sym long);
      named = subst (λ (m : ℕ). AreNamed m (RevealsTree 24 12 (vfm m) (λ b. b ≡ bytes)) (staying d)) (sym long) now.names;
    }
