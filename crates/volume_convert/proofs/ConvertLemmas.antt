-- What calls in a row make of a disk that is converted.
use Rattle.std.proofs.Common.{◌≡◌, ◌⊎◌, inl, inr, ℕ, zero, suc, ◌+◌, ◌-◌, ◌≤◌, List, [], ◌∷◌, ◌++◌, length, take, Some, Result, Ok, Err, refl, sym, ◌∙◌, ap, subst, arith, length-append}
use Rattle.std.specs.Prelude.{option_map}
use Rattle.std.proofs.lemmas.List.{append_cancel_left, length-map}
use Rattle.std.proofs.lemmas.Option.{same_Some}
use Rattle.labelled_disk.specs.declared.disk.DiskWrite.{DiskWrite}
use Rattle.labelled_disk.specs.declared.disk.DiskWrite.TheVariants.{Whole}
use Rattle.labelled_disk.specs.declared.label.Label.{Label}
use Rattle.labelled_disk.specs.declared.layout.RootFault.{RootFault}
use Rattle.labelled_disk.specs.declared.layout.RootFault.TheVariants as fault
use Rattle.labelled_disk.specs.Calls.{OnlyReads, RevealsSame}
use Rattle.labelled_disk.specs.Label.{page_label}
use Rattle.labelled_disk.specs.File.{total_room}
use Rattle.labelled_disk.specs.Layout.{capacity, first_data, vam, vfm}
use Rattle.labelled_disk.specs.CrashState.{crash_state}
use Rattle.labelled_disk.specs.Runs.{freeing}
use Rattle.labelled_disk.specs.Sectors.{Sector, AreSectors}
use Rattle.labelled_disk.specs.State.{DiskState}
use Rattle.labelled_disk.specs.WriteRuns.{Appended, after_writes}
use Rattle.labelled_disk.proofs.WriteRunLemmas.{appended_none}
use Rattle.page_tree.specs.Page.{page_at}
use Rattle.volume_root.specs.declared.root.Root.{Root}
use Rattle.volume_root.specs.Format.{PartMade}
use Rattle.volume_root.specs.RootPage.{root_write}
use Rattle.volume_root.specs.OldRoot.{IsOldCount, IsValidOldRoot, judged_old}
use Rattle.scavenger.specs.Carries.{Carries}
use Rattle.scavenger.specs.Orders.{map_writes}
use Rattle.scavenger.specs.Restored.{RestoresEach}
use Rattle.scavenger.proofs.BetweenLemmas.{reads_same}
use Rattle.scavenger.proofs.LayoutLemmas.{first_is}
use Rattle.scavenger.proofs.RowLemmas.{carries_part}
use Rattle.scavenger.proofs.TopLemmas.{appended_after, part_after}
use Rattle.old_files.specs.OldFiles.{files_old}
use Rattle.old_files.specs.Placing.{leader_of, old_leaders}
use Rattle.convert_laws.specs.Converted.{Conversion as Orders, closed_today, convert_writes, both_maps}
use Rattle.convert_laws.specs.Conversions.{IsFor, IsConvertedTo, IsOldOrConverted, ConvertsAll, ConversionsConvert}
use Rattle.convert_laws.specs.Orders.{leader_writes, old_unneeded, old_spare}
use Rattle.volume_convert.specs.declared.fault.ConvertFault.{ConvertFault}
use Rattle.volume_convert.specs.declared.fault.ConvertFault.TheVariants as why
use Rattle.volume_convert.specs.declared.plan.Conversion.{Conversion}
use Rattle.volume_convert.specs.Answers.{AccordsOld, JudgesRoot, JudgesRoom, IsNoOldVolume, HasNoRoom}
use Rattle.volume_convert.specs.Leaves.{most_transfers}
use Rattle.volume_convert.specs.Planned.{orders_of, all_writes, IsPlannedFor}
use Rattle.volume_convert.proofs.SettledLemmas.{made_long}

-- Crash states.

revealed_writes : (made : List DiskWrite) (a c : DiskState) (before writes : List DiskWrite) → Appended made a c → a.writes ≡ Some before → c.writes ≡ Some (before ++ writes) → made ≡ writes
revealed_writes made a c before writes appended revealed later =
    append_cancel_left before made writes (same_Some (before ++ made) (before ++ writes) (sym (appended.revealed ∙ ap (option_map (λ (earlier : List DiskWrite). earlier ++ made)) revealed) ∙ later))

take_both : (k m : ℕ) (ws : List DiskWrite) → (j : ℕ) × (take k (take m ws) ≡ take j ws)
take_both zero m ws = (0, refl)
take_both (suc k) zero ws = (0, refl)
take_both (suc k) (suc m) [] = (0, refl)
take_both (suc k) (suc m) (w ∷ ws) = let rest = take_both k m ws in (suc rest.0, ap (λ (l : List DiskWrite). w ∷ l) rest.1)

old_itself : (d : List Sector) → IsOldOrConverted d d
old_itself d = inl (record { sectors = refl; root = refl; files = refl })

old_none : (d : List Sector) (k : ℕ) → IsOldOrConverted d (crash_state d [] k)
old_none d zero = old_itself d
old_none d (suc k) = old_itself d

-- nothing was written
pub crash_states_of_none : (a c : DiskState) → OnlyReads a c → (d : List Sector) (before writes : List DiskWrite) → a.writes ≡ Some before → c.writes ≡ Some (before ++ writes) → (k : ℕ) → IsOldOrConverted d (crash_state d writes k)
crash_states_of_none a c only d before writes earlier later k =
    subst (λ (ws : List DiskWrite). IsOldOrConverted d (crash_state d ws k)) (revealed_writes [] a c before writes (appended_none (reads_same only)) earlier later) (old_none d k)

-- Counts.

freeing_long : (is : List ℕ) → length (freeing is) ≡ length is
freeing_long [] = refl
freeing_long (i ∷ is) = ap (λ (n : ℕ). suc n) (freeing_long is)

leaders_long : (is : List ℕ) (hs : List Label) → length (leader_writes is hs) ≤ length hs
leaders_long [] hs = omega arith
leaders_long (i ∷ is) [] = omega arith
leaders_long (i ∷ is) (h ∷ hs) = let more = leaders_long is hs in omega (arith, more)

maps_long : (id first : ℕ) (bytes : List ℕ) (n : ℕ) → length (map_writes id first bytes n) ≡ n
maps_long id first bytes n = made_long (λ i. Whole (first + i) (page_label id 0 i) (page_at bytes i)) 0 n

writes_long : (d : List Sector) (o : Orders) → IsFor d o → o.root.sectors ≡ length d → length (convert_writes o) ≤ length (old_unneeded d) + length (files_old d) + (first_data (length d) - 1) + 1
writes_long d o is count =
    let arrange = ap (λ (ws : List DiskWrite). length ws) is.arrange in
    let split = length-append (freeing (old_unneeded d)) (leader_writes (old_spare d) (old_leaders d)) in
    let freed = freeing_long (old_unneeded d) in
    let led = leaders_long (old_spare d) (old_leaders d) in
    let files = length-map (files_old d) leader_of in
    let maps = length-append (map_writes 1 1 o.bits (vam o.root.sectors)) (map_writes 2 (1 + vam o.root.sectors) o.names (vfm o.root.sectors)) in
    let bits = maps_long 1 1 o.bits (vam o.root.sectors) in
    let names = maps_long 2 (1 + vam o.root.sectors) o.names (vfm o.root.sectors) in
    let first = first_is (length d) in
    let sizes = ap (λ (n : ℕ). 1 + vam n + vfm n) count in
    let two = length-append o.arrange (both_maps o) in
    let all = length-append (o.arrange ++ both_maps o) (root_write (closed_today o) ∷ []) in
    omega (arith, arrange, split, freed, led, files, maps, bits, names, first, sizes, two, all)

-- A conversion that is carried out after calls that only read.
module _ {A : Type 0} (restores : RestoresEach) (converts : ConversionsConvert) (a b c : DiskState) (only : OnlyReads a b) (d : List Sector) (revealed : a.contents ≡ Some d) (form : AreSectors d) (root : Root) (first : ℕ)
    (conversion : Conversion A) (valid : IsValidOldRoot (length d) root) (room : total_room (files_old d) ≤ capacity (length d)) (planned : IsPlannedFor d root first conversion) where
  laws_hold : ConvertsAll d (orders_of root first conversion)
  laws_hold = converts restores d (orders_of root first conversion) form valid room planned.for_it

  made_all : Appended (all_writes root first conversion) b c → Appended (convert_writes (orders_of root first conversion)) a c
  made_all made = appended_after (convert_writes (orders_of root first conversion)) a b c only (subst (λ (ws : List DiskWrite). Appended ws b c) planned.writes made)

  pub all_made : Appended (all_writes root first conversion) b c → (o : Orders) × IsFor d o × Appended (convert_writes o) a c
  all_made made = (orders_of root first conversion, planned.for_it, made_all made)

  pub is_converted : Appended (all_writes root first conversion) b c → (h : List Sector) × (c.contents ≡ Some h) × IsConvertedTo d h
  is_converted made = (
    after_writes (convert_writes (orders_of root first conversion)) d,
    (made_all made).contents ∙ ap (option_map (after_writes (convert_writes (orders_of root first conversion)))) revealed,
    laws_hold.converted,
  )

  made_part : PartMade (all_writes root first conversion) b c → PartMade (convert_writes (orders_of root first conversion)) a c
  made_part part = part_after (convert_writes (orders_of root first conversion)) a b c only (subst (λ (ws : List DiskWrite). PartMade ws b c) planned.writes part)

  pub part_made : PartMade (all_writes root first conversion) b c → RevealsSame a c ⊎ ((o : Orders) × IsFor d o × PartMade (convert_writes o) a c)
  part_made part = inr (orders_of root first conversion, planned.for_it, made_part part)

  pub crash_states_of : {E : Type 0} (r : Result (Unit {0}) E) → Carries (all_writes root first conversion) b r c → (before writes : List DiskWrite) → a.writes ≡ Some before → c.writes ≡ Some (before ++ writes) → (k : ℕ) → IsOldOrConverted d (crash_state d writes k)
  crash_states_of r carries before writes earlier later k =
      let part = made_part (carries_part (all_writes root first conversion) b c r carries) in
      let both = take_both k part.0 (convert_writes (orders_of root first conversion)) in
      subst (λ (ws : List DiskWrite). IsOldOrConverted d (crash_state d ws k)) (revealed_writes (take part.0 (convert_writes (orders_of root first conversion))) a c before writes part.2 earlier later)
      (subst (λ (ws : List DiskWrite). IsOldOrConverted d (after_writes ws d)) (sym both.1) (laws_hold.crash_states both.0))

  -- the transfers of all calls
  pub costs : {E : Type 0} (r : Result (Unit {0}) E) → (read : b.transfers ≤ a.transfers + 1 + (length d - first_data (length d))) → Carries (all_writes root first conversion) b r c → c.transfers ≤ a.transfers + most_transfers d
  costs r read carries =
      let long = writes_long d (orders_of root first conversion) planned.for_it valid.count in
      let same = ap (λ (ws : List DiskWrite). length ws) planned.writes in
      omega (arith, read, long, same, carries.transfers)

  -- there is an old volume whose files have room
  pub is_no_other : JudgesRoot {T = Root} a (Ok root) → length d ≡ a.sectors → ((f : RootFault) × IsNoOldVolume d f) ⊎ HasNoRoom d → ⊥
  is_no_other judges whole (inr none) = omega (arith, none, room)
  is_no_other judges whole (inl (f, inl count)) = count.0 valid.accepted
  is_no_other judges whole (inl (f, inr judged)) =
      let right = judges.judged (subst (λ (n : ℕ). IsOldCount n) whole judged.0) d revealed judged.1 judged.2 in
      ok_err right.0 f (sym right.1 ∙ judged.3)
    where
      ok_err : (r : Root) (g : RootFault) → ◌≡◌ {A = Result Root RootFault} (Ok r) (Err g) → ⊥
      ok_err r g e = absurd (cc e)

-- Answers of calls in a row.

-- an error of the root's
pub judges_err : {T U : Type 0} (a : DiskState) (e : ConvertFault) → JudgesRoot {T = T} a (Err e) → JudgesRoot {T = U} a (Err e)
judges_err {T} {U} a e judges = record {
  count = λ none. ap (λ (f : ConvertFault). Err f) (same_error e (why.Root (fault.BadCount a.sectors)) (judges.count none));
  bad_count = λ n is. judges.bad_count n (ap (λ (f : ConvertFault). Err f) (same_error_of e (why.Root (fault.BadCount n)) is));
  judged = λ count d revealed s here. moved e (judged_old (length d) s) (judges.judged count d revealed s here);
}
  where
    error_in : {V : Type 0} → ConvertFault → Result V ConvertFault → ConvertFault
    error_in other (Ok x) = other
    error_in other (Err f) = f

    same_error : (f h : ConvertFault) → ◌≡◌ {A = Result T ConvertFault} (Err f) (Err h) → f ≡ h
    same_error f h is = ap (λ (r : Result T ConvertFault). error_in f r) is

    same_error_of : (f h : ConvertFault) → ◌≡◌ {A = Result U ConvertFault} (Err f) (Err h) → f ≡ h
    same_error_of f h is = ap (λ (r : Result U ConvertFault). error_in f r) is

    moved : (f : ConvertFault) (right : Result Root RootFault) → AccordsOld {T = T} (Err f) right → AccordsOld {T = U} (Err f) right
    moved (why.Root g) right is = is
    moved why.NoMemory right is = is
    moved why.Disk right is = is
    moved (why.Unfit wanted room) right is = is

-- no refusal of the root
abbrev pub IsNoRefusal : {T : Type 0} → Result T ConvertFault → Type 0
IsNoRefusal (Ok x) = Unit {0}
IsNoRefusal (Err (why.Root f)) = ⊥
IsNoRefusal (Err why.NoMemory) = Unit {0}
IsNoRefusal (Err why.Disk) = Unit {0}
IsNoRefusal (Err (why.Unfit wanted room)) = Unit {0}

pub no_refusal : (T : Type 0) (e : ConvertFault) → (e ≡ why.Disk) ⊎ (e ≡ why.NoMemory) ⊎ ((wanted room : ℕ) × (e ≡ why.Unfit wanted room)) → IsNoRefusal {T = T} (Err e)
no_refusal T e (inl is) = subst (λ (f : ConvertFault). IsNoRefusal {T = T} (Err f)) (sym is) tt
no_refusal T e (inr (inl is)) = subst (λ (f : ConvertFault). IsNoRefusal {T = T} (Err f)) (sym is) tt
no_refusal T e (inr (inr is)) = subst (λ (f : ConvertFault). IsNoRefusal {T = T} (Err f)) (sym is.2) tt

-- an answer after a root that was taken
pub judges_later : {T : Type 0} (a : DiskState) (root : Root) → JudgesRoot {T = Root} a (Ok root) → IsOldCount a.sectors → (r : Result T ConvertFault) → IsNoRefusal r → JudgesRoot a r
judges_later {T} a root judges accepted r none = record {
  count = λ no_count. absurd (no_count accepted);
  bad_count = λ n is. absurd (subst (λ (x : Result T ConvertFault). IsNoRefusal x) is none);
  judged = λ count d revealed s here. accords r none (judged_old (length d) s) (judges.judged count d revealed s here);
}
  where
    accords : (x : Result T ConvertFault) → IsNoRefusal x → (right : Result Root RootFault) → (other : Root) × (right ≡ Ok other) → AccordsOld x right
    accords (Ok y) n right is = is
    accords (Err (why.Root f)) n right is = absurd n
    accords (Err why.NoMemory) n right is = is
    accords (Err why.Disk) n right is = tt
    accords (Err (why.Unfit wanted room)) n right is = is

-- no want of room
abbrev pub IsNoUnfit : {T : Type 0} → Result T ConvertFault → Type 0
IsNoUnfit (Ok x) = Unit {0}
IsNoUnfit (Err (why.Root f)) = Unit {0}
IsNoUnfit (Err why.NoMemory) = Unit {0}
IsNoUnfit (Err why.Disk) = Unit {0}
IsNoUnfit (Err (why.Unfit wanted room)) = ⊥

pub room_of_none : {T : Type 0} (a : DiskState) (e : ConvertFault) → IsNoUnfit {T = T} (Err e) → JudgesRoom {T = T} a (Err e)
room_of_none {T} a e none = record {
  wants = λ wanted room is. absurd (subst (λ (x : Result T ConvertFault). IsNoUnfit x) is none);
  unfit = λ wanted room is. absurd (subst (λ (x : Result T ConvertFault). IsNoUnfit x) is none);
  fits = λ d revealed. tt;
}

pub room_of_ok : {T : Type 0} (a : DiskState) (x : T) → ((d : List Sector) → a.contents ≡ Some d → total_room (files_old d) ≤ capacity (length d)) → JudgesRoom {T = T} a (Ok x)
room_of_ok {T} a x fits = record {
  wants = λ wanted room is. absurd (cc is);
  unfit = λ wanted room is. absurd (cc is);
  fits = fits;
}

-- an error of a plan's, after calls that only read
pub room_of_err : {T U : Type 0} (a b : DiskState) (e : ConvertFault) → OnlyReads a b → JudgesRoom {T = T} b (Err e) → JudgesRoom {T = U} a (Err e)
room_of_err {T} {U} a b e only judges = record {
  wants = λ wanted room is. (let w = judges.wants wanted room (so wanted room is) in (w.0 ∙ ap capacity only.sectors, w.1));
  unfit = λ wanted room is d revealed. judges.unfit wanted room (so wanted room is) d (only.contents ∙ revealed);
  fits = λ d revealed. tt;
}
  where
    error_in : ConvertFault → Result U ConvertFault → ConvertFault
    error_in other (Ok x) = other
    error_in other (Err f) = f

    so : (wanted room : ℕ) → ◌≡◌ {A = Result U ConvertFault} (Err e) (Err (why.Unfit wanted room)) → ◌≡◌ {A = Result T ConvertFault} (Err e) (Err (why.Unfit wanted room))
    so wanted room is = ap (λ (f : ConvertFault). Err f) (ap (λ (r : Result U ConvertFault). error_in e r) is)
