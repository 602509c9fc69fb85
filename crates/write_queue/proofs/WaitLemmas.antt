-- What waits before a disk, while that changes.
use Rattle.std.proofs.Common.{◌≡◌, ◌≢◌, ◌⊎◌, inl, inr, ℕ, map, min, ◌-◌, ◌^◌, ◌+◌, ◌<◌, ◌≤◌, List, [], ◌∷◌, ◌++◌, length, get_or, Option, Some, None, refl, sym, ◌∙◌, ap, subst, arith, true, false, Bool, Result, Ok, Err}
use Rattle.std.specs.Prelude.{slice_get, slice_set, swap_remove, option_map, ◌==◌, if◌then◌else◌}
use Rattle.std.specs.Option.{option_map_or}
use Rattle.labelled_disk.specs.declared.disk.DiskWrite.{DiskWrite}
use Rattle.std.proofs.lemmas.Option.{same_Some, none-some}
use Rattle.std.proofs.lemmas.List.Elements.{All-from_get_or}
use Rattle.std.proofs.lemmas.Bool.{true≢false}
use Rattle.labelled_disk.specs.declared.disk.DiskError.{DiskError}
use Rattle.labelled_disk.specs.declared.disk.DiskError.TheVariants as err
use Rattle.labelled_disk.specs.Label.{names}
use Rattle.labelled_disk.specs.declared.label.Label.{Label}
use Rattle.labelled_disk.specs.declared.label.Wanted.{Wanted}
use Rattle.labelled_disk.specs.declared.disk.DiskWrite.TheVariants.{Page}
use Rattle.labelled_disk.specs.Calls.{RevealsSame, RevealsWrite, WritesData}
use Rattle.labelled_disk.specs.CrashState.{written}
use Rattle.labelled_disk.specs.WriteRuns.{Appended}
use Rattle.labelled_disk.proofs.CallLemmas.{reveals_same_itself}
use Rattle.labelled_disk.proofs.WriteRunLemmas.{appended_none, appended_one, appended_then, appended_no_more}
use Rattle.labelled_disk.specs.Sectors.{Sector}
use Rattle.labelled_disk.specs.State.{DiskState, Holds, NamesThere}
use Rattle.write_queue.specs.declared.entry.Entry.{Entry}
use Rattle.write_queue.specs.Entries.{AreWaiting, Waits, waiting_at, laid, laid_over, page_write}
use Rattle.write_queue.specs.Inside.{LabelsStay, MakesRoom, Sweeping, WritesOut}
use Rattle.write_queue.specs.Sweeps.{IsFirst, IsLess, Sweeps, head_after}
use Rattle.write_queue.proofs.ListLemmas.{stood, once-fewer, added-there, once-added, set-there, once-set}
use Rattle.write_queue.proofs.LaidLemmas.{labels-stay, laid-out, laid-still, laid-put, laid-through}
use Rattle.write_queue.specs.QueueLaws.{revealed_before, get-laid}

pub labels_same : (old new : DiskState) → RevealsSame old new → LabelsStay old new
labels_same old new same k l has d is = has d (sym same.contents ∙ is)

pub labels_written : (old new : DiskState) (n : ℕ) (wanted : Wanted) (page : List ℕ) → RevealsWrite (Page n wanted page) old new → LabelsStay old new
labels_written old new n wanted page made k l has d is =
    let t = revealed_before (written (Page n wanted page)) old.contents d (sym made.contents ∙ is) in
    ap (λ (x : List Sector). option_map (λ (s : Sector). s.0) (slice_get x k)) (sym t.2) ∙ labels-stay n wanted page t.0 k ∙ has t.0 t.1

pub waits_kept : (old new : DiskState) (e : Entry) → new.sectors ≡ old.sectors → LabelsStay old new → Waits old e → Waits new e
waits_kept old new e sectors stay w = record {
  inside = omega (arith, sectors, w.inside);
  in_form = w.in_form;
  named = w.named;
  stands = stay e.sector e.label w.stands;
}

pub are_kept : (old new : DiskState) (es : List Entry) → new.sectors ≡ old.sectors → LabelsStay old new → AreWaiting old es → AreWaiting new es
are_kept old new es sectors stay are = record { each = λ k e is. waits_kept old new e sectors stay (are.each k e is); once = are.once }

pub are_fewer : (under : DiskState) (es : List Entry) (j : ℕ) (below : j < length es) (d : Entry) → AreWaiting under es → AreWaiting under (swap_remove es j d)
are_fewer under es j below d are = record {
  each = λ k e is. let s = stood es j below d k e is in are.each s.0 e s.1;
  once = once-fewer es j below d are.once;
}

pub are_more : (under : DiskState) (es : List Entry) (e : Entry) → waiting_at es e.sector ≡ None → Waits under e → AreWaiting under es → AreWaiting under (es ++ e ∷ [])
are_more under es e free waits are = record {
  each = λ k f is. either k f (added-there es e free k f is);
  once = once-added es e free are.once;
}
  where
    either : (k : ℕ) (f : Entry) → ((k < length es) × (slice_get es k ≡ Some f)) ⊎ ((k ≡ length es) × (f ≡ e)) → Waits under f
    either k f (inl p) = are.each k f p.1
    either k f (inr p) = subst (Waits under) (sym p.1) waits

pub are_others : (under : DiskState) (es : List Entry) (j : ℕ) (e f : Entry) → slice_get es j ≡ Some e → f.sector ≡ e.sector → Waits under f → AreWaiting under es → AreWaiting under (slice_set es j f)
are_others under es j e f is same waits are = record {
  each = λ k g here. either k g (set-there es j e f is same k g here);
  once = once-set es j e f is same are.once;
}
  where
    either : (k : ℕ) (g : Entry) → ((k ≡ j) × (g ≡ f)) ⊎ ((k ≢ j) × (slice_get es k ≡ Some g)) → Waits under g
    either k g (inl p) = subst (Waits under) (sym p.1) waits
    either k g (inr p) = are.each k g p.1

-- the labels that stood stand after a page was written, whatever the answer
pub labels_after : (old new : DiskState) (n : ℕ) (wanted : Wanted) (page : List ℕ) (result : Result (Unit {0}) DiskError) → WritesData n wanted page old result new → LabelsStay old new
labels_after old new n wanted page (Ok x) w = labels_written old new n wanted page w.written
labels_after old new n wanted page (Err err.Failed) w = either w.whole_or_absent
  where
    either : RevealsSame old new ⊎ (RevealsWrite (Page n wanted page) old new × NamesThere old n wanted true) → LabelsStay old new
    either (inl same) = labels_same old new same
    either (inr made) = labels_written old new n wanted page made.0
labels_after old new n wanted page (Err (err.Wrong found)) w = labels_same old new w.wrong.2

-- what was revealed before the call is revealed after it
pub revealed_after : (old new : DiskState) (n : ℕ) (wanted : Wanted) (page : List ℕ) (result : Result (Unit {0}) DiskError) → WritesData n wanted page old result new
    → (d : List Sector) → new.contents ≡ Some d → (b : List Sector) × (old.contents ≡ Some b)
revealed_after old new n wanted page (Ok x) w d is = let t = revealed_before (written (Page n wanted page)) old.contents d (sym w.written.contents ∙ is) in (t.0, t.1)
revealed_after old new n wanted page (Err err.Failed) w d is = either w.whole_or_absent
  where
    either : RevealsSame old new ⊎ (RevealsWrite (Page n wanted page) old new × NamesThere old n wanted true) → (b : List Sector) × (old.contents ≡ Some b)
    either (inl same) = (d, sym same.contents ∙ is)
    either (inr made) = let t = revealed_before (written (Page n wanted page)) old.contents d (sym made.0.contents ∙ is) in (t.0, t.1)
revealed_after old new n wanted page (Err (err.Wrong found)) w d is = (d, sym w.wrong.2.contents ∙ is)

-- another label is found in no sector of a page that waits, where the contents are revealed
pub never_wrong : (old new : DiskState) (e : Entry) (found : Label) → Waits old e → WritesData e.sector e.wanted e.page old (Err (err.Wrong found)) new
    → (d : List Sector) → new.contents ≡ Some d → ⊥
never_wrong old new e found waits w d is =
    let revealed : old.contents ≡ Some d = sym w.wrong.2.contents ∙ is in
    let same : Some found ≡ Some e.label = sym (w.wrong.1 d revealed) ∙ waits.stands d revealed in
    true≢false (sym waits.named ∙ ap (λ (l : Label). names l e.wanted) (sym (same_Some found e.label same)) ∙ w.wrong.0)

pub differs_then : (n : ℕ) (wanted : Wanted) (found : Label) → names found wanted ≡ false → (x : ℕ × Wanted × Label) → Some (n, wanted, found) ≡ Some x → names x.2 x.1 ≡ false
differs_then n wanted found differs x is =
    let same : (n, wanted, found) ≡ x = same_Some (n, wanted, found) x is in
    ap (λ (y : ℕ × Wanted × Label). names y.2 y.1) (sym same) ∙ differs

pub made_or_not : {A B C : Type 0} → A ⊎ (B × C) → A ⊎ B
made_or_not (inl a) = inl a
made_or_not (inr b) = inr b.0

named_there : (under : DiskState) (e : Entry) → Waits under e → (d : List Sector) → under.contents ≡ Some d → (s : Sector) → slice_get d e.sector ≡ Some s → names s.0 e.wanted ≡ true
named_there under e waits d revealed s is =
    let same : Some s.0 ≡ Some e.label = ap (λ (o : Option Sector). option_map (λ (x : Sector). x.0) o) (sym is) ∙ waits.stands d revealed in
    ap (λ (l : Label). names l e.wanted) (same_Some s.0 e.label same) ∙ waits.named

over_revealed : {X Y : Type 0} (f g : X → Y) (o : Option X) → ((x : X) → o ≡ Some x → f x ≡ g x) → option_map f o ≡ option_map g o
over_revealed f g None same = refl
over_revealed f g (Some x) same = ap (λ (z : _). Some z) (same x refl)

twice : {X Y Z : Type 0} (f : X → Y) (g : Y → Z) (o : Option X) → option_map g (option_map f o) ≡ option_map (λ x. g (f x)) o
twice f g None = refl
twice f g (Some x) = refl

-- a page that waited was written, and waits no more: nothing is revealed of it
pub revealed_out : (old new : DiskState) (es fewer : List Entry) (e : Entry) → waiting_at es e.sector ≡ Some e → IsLess es e fewer → Waits old e → RevealsWrite (page_write e) old new
    → option_map (laid fewer) new.contents ≡ option_map (laid es) old.contents
revealed_out old new es fewer e waits less w made =
    ap (option_map (laid fewer)) made.contents ∙ twice (written (page_write e)) (laid fewer) old.contents
    ∙ over_revealed (λ d. laid fewer (written (page_write e) d)) (laid es) old.contents (λ d revealed. laid-out es fewer e d waits less (named_there old e w d revealed))

-- a page that waits was written or not, and waits still
pub revealed_still : (old new : DiskState) (es : List Entry) (e : Entry) → waiting_at es e.sector ≡ Some e → RevealsSame old new ⊎ RevealsWrite (page_write e) old new
    → option_map (laid es) new.contents ≡ option_map (laid es) old.contents
revealed_still old new es e waits (inl same) = ap (option_map (laid es)) same.contents
revealed_still old new es e waits (inr made) =
    ap (option_map (laid es)) made.contents ∙ twice (written (page_write e)) (laid es) old.contents
    ∙ over_revealed (λ d. laid es (written (page_write e) d)) (laid es) old.contents (λ d revealed. laid-still es e d waits)

-- a page waits that did not, or another one for the same sector
pub revealed_put : (under : DiskState) (es fs : List Entry) (f : Entry) → ((k : ℕ) → waiting_at fs k ≡ (if f.sector == k then Some f else waiting_at es k)) → Waits under f
    → option_map (laid fs) under.contents ≡ option_map (written (page_write f)) (option_map (laid es) under.contents)
revealed_put under es fs f put w =
    over_revealed (laid fs) (λ d. written (page_write f) (laid es d)) under.contents (λ d revealed. laid-put es fs f d put (named_there under f w d revealed))
    ∙ sym (twice (laid es) (written (page_write f)) under.contents)

-- where nothing waits, a write is what it is beneath
pub revealed_through : (old new : DiskState) (w : DiskWrite) → RevealsWrite w old new → option_map (laid []) new.contents ≡ option_map (written w) (option_map (laid []) old.contents)
revealed_through old new w made =
    ap (option_map (laid [])) made.contents ∙ twice (written w) (laid []) old.contents
    ∙ over_revealed (λ d. laid [] (written w d)) (λ d. written w (laid [] d)) old.contents (λ d revealed. laid-through w d)
    ∙ sym (twice (laid []) (written w) old.contents)

-- what is revealed of a sector for which nothing waits is what is revealed beneath
pub revealed_beneath : (under : DiskState) (es : List Entry) (k : ℕ) (s : Sector) → waiting_at es k ≡ None → Holds under k s
    → (d : List Sector) → option_map (laid es) under.contents ≡ Some d → slice_get d k ≡ Some s
revealed_beneath under es k s free holds d is =
    let t = revealed_before (laid es) under.contents d is in
    ap (λ (x : List Sector). slice_get x k) (sym t.2) ∙ get-laid es t.0 k ∙ ap (option_map (laid_over es k)) (holds t.0 t.1)
    ∙ ap (λ (o : Option Entry). Some (option_map_or (λ (e : Entry). (s.0, e.page)) o s)) free

-- what is revealed of a sector for which a page waits is that page, under the label that was found
pub revealed_waiting : (under : DiskState) (es : List Entry) (e : Entry) → waiting_at es e.sector ≡ Some e → Waits under e
    → (d : List Sector) → option_map (laid es) under.contents ≡ Some d → slice_get d e.sector ≡ Some (e.label, e.page)
revealed_waiting under es e waits w d is = found (slice_get t.0 e.sector) refl
  where
    t : (b : List Sector) × (under.contents ≡ Some b) × (laid es b ≡ d)
    t = revealed_before (laid es) under.contents d is

    found : (o : Option Sector) → slice_get t.0 e.sector ≡ o → slice_get d e.sector ≡ Some (e.label, e.page)
    found None none = absurd (none-some e.label (sym (ap (option_map (λ (s : Sector). s.0)) none) ∙ w.stands t.0 t.1))
    found (Some s) some =
        let label : s.0 ≡ e.label = same_Some s.0 e.label (sym (ap (option_map (λ (x : Sector). x.0)) some) ∙ w.stands t.0 t.1) in
        ap (λ (x : List Sector). slice_get x e.sector) (sym t.2) ∙ get-laid es t.0 e.sector ∙ ap (option_map (laid_over es e.sector)) some
        ∙ ap (λ (o : Option Entry). Some (option_map_or (λ (f : Entry). (s.0, f.page)) o s)) waits ∙ ap (λ (l : Label). Some (l, e.page)) label

-- one page more in a sweep
pub sweeps_more : (head : ℕ) (es swept mid left : List Entry) (e : Entry) → Sweeps head es swept mid → IsFirst (head_after head swept) mid e → IsLess mid e left → length left + 1 ≡ length mid
    → Sweeps head es (swept ++ e ∷ []) left
sweeps_more head es [] mid left e is first less long =
    (left, subst (λ (x : List Entry). IsFirst head x e) is first, subst (λ (x : List Entry). IsLess x e left) is less, long ∙ ap (λ (x : List Entry). length x) is, refl)
sweeps_more head es (f ∷ swept) mid left e is first less long = (is.0, is.1, is.2, is.3, sweeps_more f.sector is.0 swept mid left e is.4 first less long)

pub head_more : (head : ℕ) (swept : List Entry) (e : Entry) → head_after head (swept ++ e ∷ []) ≡ e.sector
head_more head [] e = refl
head_more head (f ∷ swept) e = head_more f.sector swept e

-- as many were written as wait no more
pub sweeps_long : (head : ℕ) (es swept left : List Entry) → Sweeps head es swept left → length swept + length left ≡ length es
sweeps_long head es [] left is = let long : length left ≡ length es = ap (λ (x : List Entry). length x) is in omega (arith, long)
sweeps_long head es (e ∷ swept) left is = let more = sweeps_long e.sector is.0 swept left is.4 in omega (arith, more, is.3)

-- What a sweep has done so far, of what waited before it.
pub record SoFar (head : ℕ) (es : List Entry) (old : DiskState) (own : ℕ) (left : List Entry) (now_head : ℕ) (now : DiskState) (now_own : ℕ) : Type 0 where
  pub swept : List Entry
  pub sweeps : Sweeps head es swept left
  pub ends : now_head ≡ head_after head swept
  pub wrote : Appended (map page_write swept) old now
  pub cost : now.transfers ≤ old.transfers + length swept
  pub revealed : option_map (laid left) now.contents ≡ option_map (laid es) old.contents
  pub sectors : now.sectors ≡ old.sectors
  pub lent : now.lent ≡ old.lent
  pub later_transfers : old.transfers ≤ now.transfers
  pub faults : old.faults ≤ now.faults
  pub rises : min (old.faults + own) (2 ^ 64 - 1) ≤ min (now.faults + now_own) (2 ^ 64 - 1)

pub none_so_far : (head : ℕ) (es : List Entry) (old : DiskState) (own : ℕ) → SoFar head es old own es head old own
none_so_far head es old own = record {
  swept = [];
  sweeps = refl;
  ends = refl;
  wrote = appended_none (reveals_same_itself old);
  cost = omega arith;
  revealed = refl;
  sectors = refl;
  lent = refl;
  later_transfers = omega arith;
  faults = omega arith;
  rises = omega arith;
}

map_more : (swept : List Entry) (e : Entry) → map page_write (swept ++ e ∷ []) ≡ map page_write swept ++ page_write e ∷ []
map_more [] e = refl
map_more (f ∷ swept) e = ap (λ (ws : List DiskWrite). page_write f ∷ ws) (map_more swept e)

length_more : (swept : List Entry) (e : Entry) → length (swept ++ e ∷ []) ≡ length swept + 1
length_more [] e = refl
length_more (f ∷ swept) e = let more = length_more swept e in omega (arith, more)

-- one page more was written
pub so_far_more : (head : ℕ) (es : List Entry) (old : DiskState) (own : ℕ) (mid : List Entry) (mid_head : ℕ) (now : DiskState) (mid_own : ℕ)
    (left : List Entry) (later : ℕ) (new : DiskState) (new_own : ℕ) → SoFar head es old own mid mid_head now mid_own
    → WritesOut mid_head mid now (Ok tt) new left later → option_map (laid left) new.contents ≡ option_map (laid mid) now.contents
    → min (now.faults + mid_own) (2 ^ 64 - 1) ≤ min (new.faults + new_own) (2 ^ 64 - 1) → SoFar head es old own left later new new_own
so_far_more head es old own mid mid_head now mid_own left later new new_own s out revealed rises = record {
  swept = s.swept ++ out.first ∷ [];
  sweeps = sweeps_more head es s.swept mid left out.first s.sweeps (subst (λ (h : ℕ). IsFirst h mid out.first) s.ends out.is_first) out.out.1 out.out.3;
  ends = out.out.2 ∙ sym (head_more head s.swept out.first);
  wrote = subst (λ (ws : List DiskWrite). Appended ws old new) (sym (map_more s.swept out.first)) (appended_then (map page_write s.swept) (page_write out.first ∷ []) s.wrote (appended_one (page_write out.first) out.out.0));
  cost = omega (arith, s.cost, out.moves.transfers.by_one, length_more s.swept out.first);
  revealed = revealed ∙ s.revealed;
  sectors = out.moves.sectors ∙ s.sectors;
  lent = out.moves.lent ∙ s.lent;
  later_transfers = omega (arith, s.later_transfers, out.moves.transfers.later);
  faults = omega (arith, s.faults, out.moves.faults);
  rises = omega (arith, s.rises, rises);
}

-- nothing waits any more
pub all_swept : (head : ℕ) (es : List Entry) (old : DiskState) (own : ℕ) (left : List Entry) (later : ℕ) (new : DiskState) (new_own : ℕ)
    → SoFar head es old own left later new new_own → left ≡ [] → Sweeping head es old (Ok tt) new left later
all_swept head es old own left later new new_own s none = record {
  swept = s.swept;
  sweeps = s.sweeps;
  ends = s.ends;
  all = (none, s.wrote, s.cost);
  part = tt;
  sectors = s.sectors;
  lent = s.lent;
  later_transfers = s.later_transfers;
  faults = s.faults;
}

-- a page was not written, or its write failed
pub part_swept : (head : ℕ) (es : List Entry) (old : DiskState) (own : ℕ) (mid : List Entry) (mid_head : ℕ) (now : DiskState) (mid_own : ℕ) (e : DiskError)
    (left : List Entry) (later : ℕ) (new : DiskState) → SoFar head es old own mid mid_head now mid_own
    → WritesOut mid_head mid now (Err e) new left later → Sweeping head es old (Err e) new left later
part_swept head es old own mid mid_head now mid_own e left later new s out = record {
  swept = s.swept;
  sweeps = subst (Sweeps head es s.swept) (sym out.stays.0) s.sweeps;
  ends = out.stays.1 ∙ s.ends;
  all = tt;
  part = (
    out.first,
    subst (λ (h : ℕ). IsFirst h left out.first) (sym out.stays.1) (subst (λ (x : List Entry). IsFirst mid_head x out.first) (sym out.stays.0) out.is_first),
    either out.stays.2,
    omega (arith, s.cost, out.moves.transfers.by_one),
  );
  sectors = out.moves.sectors ∙ s.sectors;
  lent = out.moves.lent ∙ s.lent;
  later_transfers = omega (arith, s.later_transfers, out.moves.transfers.later);
  faults = omega (arith, s.faults, out.moves.faults);
}
  where
    either : RevealsSame now new ⊎ RevealsWrite (page_write out.first) now new
        → Appended (map page_write s.swept) old new ⊎ Appended (map page_write s.swept ++ page_write out.first ∷ []) old new
    either (inl same) = inl (appended_no_more (map page_write s.swept) s.wrote same)
    either (inr made) = inr (appended_then (map page_write s.swept) (page_write out.first ∷ []) s.wrote (appended_one (page_write out.first) made))

-- another page waits in the place of one, where the label that was found names it
pub waits_again : (under : DiskState) (e : Entry) (wanted : Wanted) (page : List ℕ) → Waits under e → names e.label wanted ≡ true → length page ≡ 512 → ((k : ℕ) → get_or page k 0 < 256)
    → Waits under (record { sector = e.sector; wanted = wanted; label = e.label; page = page })
waits_again under e wanted page w named long bytes = record {
  inside = w.inside;
  in_form = record {
    id_fits = w.in_form.id_fits;
    page_fits = w.in_form.page_fits;
    kind_fits = w.in_form.kind_fits;
    flags_fit = w.in_form.flags_fit;
    last_fits = w.in_form.last_fits;
    whole_page = long;
    bytes = All-from_get_or (λ b. b < 256) page 0 (λ k below. bytes k);
  };
  named = named;
  stands = w.stands;
}

labels_out : (head : ℕ) (es : List Entry) (old new : DiskState) (r : Result (Unit {0}) DiskError) (left : List Entry) (later : ℕ) → WritesOut head es old r new left later → LabelsStay old new
labels_out head es old new (Ok x) left later out = labels_written old new out.first.sector out.first.wanted out.first.page out.out.0
labels_out head es old new (Err e) left later out = either out.stays.2
  where
    either : RevealsSame old new ⊎ RevealsWrite (page_write out.first) old new → LabelsStay old new
    either (inl same) = labels_same old new same
    either (inr made) = labels_written old new out.first.sector out.first.wanted out.first.page made

free_out : (head : ℕ) (es : List Entry) (old new : DiskState) (r : Result (Unit {0}) DiskError) (left : List Entry) (later : ℕ) → WritesOut head es old r new left later
    → (k : ℕ) → waiting_at es k ≡ None → waiting_at left k ≡ None
free_out head es old new (Ok x) left later out k free = out.out.1.rest k ∙ ap (λ (o : Option Entry). if out.first.sector == k then None else o) free ∙ either (out.first.sector == k)
  where
    either : (b : Bool) → ◌≡◌ {A = Option Entry} (if b then None else None) None
    either true = refl
    either false = refl
free_out head es old new (Err e) left later out k free = ap (λ (x : List Entry). waiting_at x k) out.stays.0 ∙ free

-- the first page was written, to make room
pub made_out : (head : ℕ) (es : List Entry) (old new : DiskState) (r : Result (Unit {0}) DiskError) (left : List Entry) (later : ℕ) → WritesOut head es old r new left later → MakesRoom old es new left
made_out head es old new r left later out = record {
  labels = labels_out head es old new r left later out;
  free = free_out head es old new r left later out;
  sectors = out.moves.sectors;
  lent = out.moves.lent;
}
