-- What one call of a queue does beneath.
use Rattle.std.proofs.Common.{◌≡◌, ◌⊎◌, inl, inr, ℕ, ◌+◌, ◌<◌, ◌≤◌, List, [], ◌∷◌, ◌++◌, map, length, Some, None, refl, sym, ◌∙◌, ap, subst, arith, true, false, Result, Ok, Err}
use Rattle.std.specs.Prelude.{slice_get, slice_set, if◌then◌else◌}
use Rattle.std.proofs.lemmas.Option.{same_Some, none-some}
use Rattle.labelled_disk.specs.declared.disk.DiskError.{DiskError}
use Rattle.labelled_disk.specs.declared.disk.DiskError.TheVariants.{Wrong}
use Rattle.labelled_disk.specs.declared.disk.DiskWrite.{DiskWrite}
use Rattle.labelled_disk.specs.declared.label.Label.{Label}
use Rattle.labelled_disk.specs.declared.label.Wanted.{Wanted}
use Rattle.labelled_disk.specs.Calls.{Reads, RevealsSame, RevealsWrite, Writes}
use Rattle.labelled_disk.specs.Label.{names}
use Rattle.labelled_disk.specs.State.{DiskState}
use Rattle.labelled_disk.specs.WriteRuns.{Appended}
use Rattle.labelled_disk.proofs.CallLemmas.{reveals_same_itself, reveals_same_then, reveals_write_later}
use Rattle.labelled_disk.proofs.WriteRunLemmas.{appended_one, appended_then, appended_no_more}
use Rattle.write_queue.specs.declared.entry.Entry.{Entry}
use Rattle.write_queue.specs.Beneath.{Empties, FirstOut, IsStill, Meets, MetNone, MetOther, PassesOn, ReadsOne, StopsAfter, TakesIn}
use Rattle.write_queue.specs.Entries.{IsOnce, page_write, waiting_at}
use Rattle.write_queue.specs.Inside.{RoomMade, Sweeping, WritesOut}
use Rattle.write_queue.specs.Sweeps.{IsFirst}
use Rattle.write_queue.specs.View.{View}
use Rattle.write_queue.proofs.ListLemmas.{stands_waiting, waiting-added, waiting-set}

-- the same queue, over another state of the disk
abbrev pub over : View → DiskState → View
over v under = record { beneath = under; waiting = v.waiting; room = v.room; head = v.head; own = v.own; changed = v.changed }

-- the same queue, with other pages that wait
abbrev pub with_waiting : View → List Entry → View
with_waiting v es = record { beneath = v.beneath; waiting = es; room = v.room; head = v.head; own = v.own; changed = v.changed }

-- no label was met at first
pub meets_later : (a b c : View) (r : Result (Unit {0}) DiskError) → MetNone a b → Meets b r c → Meets a r c
meets_later a b c (Ok x) none met = ((met.0.0 ∙ none.0, met.0.1 ∙ none.1), tt)
meets_later a b c (Err e) none met = (tt, either met.1)
  where
    either : MetNone b c ⊎ MetOther b.own c → MetNone a c ⊎ MetOther a.own c
    either (inl m) = inl (m.0 ∙ none.0, m.1 ∙ none.1)
    either (inr m) = inr (subst (λ (n : ℕ). MetOther n c) none.0 m)

-- a page that waits is read
pub reads_kept : (v : View) (place sector : ℕ) (e f : Entry) → IsOnce v.waiting → slice_get v.waiting place ≡ Some e → e.sector ≡ sector → slice_get v.waiting place ≡ Some f
    → ReadsOne sector f.page v (Ok f.label) v
reads_kept v place sector e f once is there at = record {
  waits = λ x waits.
      let same : f ≡ x = same_Some f x (sym (stands_waiting v.waiting once place f at sector (ap (λ (y : Entry). y.sector) (same_Some f e (sym at ∙ is)) ∙ there)) ∙ waits) in
      (ap (λ (y : Entry). Ok y.label) same, ap (λ (y : Entry). y.page) same, refl);
  free = λ none. absurd (none-some e (sym none ∙ stands_waiting v.waiting once place e is sector there));
  waiting = refl;
  head = refl;
  met = (refl, refl);
  few = omega arith;
}

-- another sector is read beneath
pub reads_under : (v : View) (under : DiskState) (sector : ℕ) (page : List ℕ) (r : Result Label DiskError) → waiting_at v.waiting sector ≡ None → Reads v.beneath sector page r under
    → ReadsOne sector page v r (over v under)
reads_under v under sector page r free read = record {
  waits = λ x waits. absurd (none-some x (sym free ∙ waits));
  free = λ none. read;
  waiting = refl;
  head = refl;
  met = (refl, refl);
  few = omega (arith, read.moves.transfers.by_one);
}

-- what a sweep did
pub emptied : (old : View) (r : Result (Unit {0}) DiskError) (new : View) → Sweeping old.head old.waiting old.beneath r new.beneath new.waiting new.head → Meets old r new → Empties old r new
emptied old (Ok x) new s met = record { swept = s.swept; sweeps = s.sweeps; head = s.ends; all = (s.all.0, s.all.1); part = tt; met = met }
emptied old (Err e) new s met = record { swept = s.swept; sweeps = s.sweeps; head = s.ends; all = tt; part = either s.part.2; met = met }
  where
    either : Appended (map page_write s.swept) old.beneath new.beneath ⊎ Appended (map page_write s.swept ++ page_write s.part.0 ∷ []) old.beneath new.beneath → StopsAfter s.swept old new
    either (inl made) = inl made
    either (inr made) = inr (s.part.0, s.part.1, made)

-- and no more was written then
pub emptied_then : (old mid : View) (x : Unit {0}) (under : DiskState) (r : Result (Unit {0}) DiskError) → Empties old (Ok x) mid → RevealsSame mid.beneath under → Empties old r (over mid under)
emptied_then old mid x under (Ok y) e same = record {
  swept = e.swept;
  sweeps = e.sweeps;
  head = e.head;
  all = (e.all.0, appended_no_more (map page_write e.swept) e.all.1 same);
  part = tt;
  met = (e.met.0, tt);
}
emptied_then old mid x under (Err y) e same = record {
  swept = e.swept;
  sweeps = e.sweeps;
  head = e.head;
  all = tt;
  part = inl (appended_no_more (map page_write e.swept) e.all.1 same);
  met = (tt, inl e.met.0);
}

-- nothing was passed on
pub passed_none : (w : DiskWrite) (old new : View) (y : DiskError) → Empties old (Err y) new → PassesOn w old (Err y) new
passed_none w old new y e = record { swept = e.swept; sweeps = e.sweeps; head = e.head; all = tt; part = inl e.part; met = e.met }

-- all that waited was written, and the call's own write was made
pub passed : (w : DiskWrite) (old mid : View) (x : Unit {0}) (under : DiskState) (r : Result (Unit {0}) DiskError) → Empties old (Ok x) mid → Writes w mid.beneath r under → PassesOn w old r (over mid under)
passed w old mid x under (Ok y) e made = record {
  swept = e.swept;
  sweeps = e.sweeps;
  head = e.head;
  all = (e.all.0, appended_then (map page_write e.swept) (w ∷ []) e.all.1 (appended_one w made.written));
  part = tt;
  met = (e.met.0, tt);
}
passed w old mid x under (Err y) e made = record {
  swept = e.swept;
  sweeps = e.sweeps;
  head = e.head;
  all = tt;
  part = either made.whole_or_absent;
  met = (tt, inl e.met.0);
}
  where
    either : RevealsSame mid.beneath under ⊎ RevealsWrite w mid.beneath under
        → StopsAfter e.swept old (over mid under) ⊎ ((mid.waiting ≡ []) × Appended (map page_write e.swept ++ w ∷ []) old.beneath under)
    either (inl same) = inl (inl (appended_no_more (map page_write e.swept) e.all.1 same))
    either (inr t) = inr (e.all.0, appended_then (map page_write e.swept) (w ∷ []) e.all.1 (appended_one w t))

-- a page waits for the sector, and another label was kept than the wanted one
pub takes_wrong : (v : View) (place : ℕ) (e f : Entry) (wanted : Wanted) (page : List ℕ) → IsOnce v.waiting → slice_get v.waiting place ≡ Some e → slice_get v.waiting place ≡ Some f
    → names f.label wanted ≡ false → TakesIn e.sector wanted page v (Err (Wrong f.label)) v
takes_wrong v place e f wanted page once is at differs =
    let same : e ≡ f = same_Some e f (sym is ∙ at) in
    record {
      taken = tt;
      left = record { waiting = refl; head = refl; beneath = inl (reveals_same_itself v.beneath) };
      waits = λ x waits.
          let one : f ≡ x = same_Some f x (sym (stands_waiting v.waiting once place f at e.sector (ap (λ (y : Entry). y.sector) (sym same))) ∙ waits) in
          (sym (ap (λ (y : Entry). if names y.label wanted then Ok tt else Err (Wrong y.label)) (sym one) ∙ ap (λ (b : _). if b then Ok tt else Err (Wrong f.label)) differs), refl);
      met = (tt, inl (refl, refl));
      few = omega arith;
    }

-- a page waits for the sector, and another one waits now
pub takes_again : (v : View) (place : ℕ) (e f : Entry) (wanted : Wanted) (page : List ℕ) → IsOnce v.waiting → slice_get v.waiting place ≡ Some e → slice_get v.waiting place ≡ Some f
    → names f.label wanted ≡ true
    → TakesIn e.sector wanted page v (Ok tt) (with_waiting v (slice_set v.waiting place (record { sector = f.sector; wanted = wanted; label = f.label; page = page })))
takes_again v place e f wanted page once is at named =
    let same : e ≡ f = same_Some e f (sym is ∙ at) in
    let new : Entry = record { sector = f.sector; wanted = wanted; label = f.label; page = page } in
    let sector : f.sector ≡ e.sector = ap (λ (y : Entry). y.sector) (sym same) in
    let there : waiting_at v.waiting e.sector ≡ Some f = stands_waiting v.waiting once place f at e.sector sector in
    record {
      taken = record {
        entry = new;
        in_sector = sector;
        as_wanted = refl;
        has_page = refl;
        rest = v.waiting;
        put = waiting-set v.waiting place f new at refl once;
        made = inl (record { waiting = refl; head = refl; same = reveals_same_itself v.beneath }, (λ none. absurd (none-some f (sym none ∙ there))));
      };
      left = tt;
      waits = λ x waits.
          let one : f ≡ x = same_Some f x (sym there ∙ waits) in
          (sym (ap (λ (y : Entry). if names y.label wanted then Ok tt else Err (Wrong y.label)) (sym one) ∙ ap (λ (b : _). if b then Ok tt else Err (Wrong f.label)) named), refl);
      met = ((refl, refl), tt);
      few = omega arith;
    }

-- the label beneath was not read, or doesn't name the page
pub takes_none : (v : View) (under : DiskState) (sector : ℕ) (wanted : Wanted) (page : List ℕ) (y : DiskError) → waiting_at v.waiting sector ≡ None → RevealsSame v.beneath under
    → under.transfers ≤ v.beneath.transfers + 1 → TakesIn sector wanted page v (Err y) (over v under)
takes_none v under sector wanted page y free same few = record {
  taken = tt;
  left = record { waiting = refl; head = refl; beneath = inl same };
  waits = λ x waits. absurd (none-some x (sym free ∙ waits));
  met = (tt, inl (refl, refl));
  few = omega (arith, few);
}

-- the label was read, and no room could be made
pub takes_no_room : (v : View) (under : DiskState) (new : View) (sector : ℕ) (wanted : Wanted) (page : List ℕ) (y : DiskError) → waiting_at v.waiting sector ≡ None → RevealsSame v.beneath under
    → under.transfers ≤ v.beneath.transfers + 1 → new.beneath.transfers ≤ under.transfers + 1 → RoomMade (over v under) (Err y) new → TakesIn sector wanted page v (Err y) new
takes_no_room v under new sector wanted page y free same few more room = record {
  taken = tt;
  left = record { waiting = room.left.waiting; head = room.left.head; beneath = either room.left.beneath };
  waits = λ x waits. absurd (none-some x (sym free ∙ waits));
  met = room.met;
  few = omega (arith, few, more);
}
  where
    either : RevealsSame under new.beneath ⊎ ((first : Entry) × (length v.waiting ≡ v.room) × IsFirst v.head v.waiting first × RevealsWrite (page_write first) under new.beneath)
        → RevealsSame v.beneath new.beneath ⊎ ((first : Entry) × (length v.waiting ≡ v.room) × IsFirst v.head v.waiting first × RevealsWrite (page_write first) v.beneath new.beneath)
    either (inl s) = inl (reveals_same_then same s)
    either (inr w) = inr (w.0, w.1, w.2, reveals_write_later (page_write w.0) same w.3)

-- the label was read and room was made, and one page more waits
pub takes_more : (v : View) (under : DiskState) (mid : View) (e : Entry) → waiting_at v.waiting e.sector ≡ None → RevealsSame v.beneath under
    → under.transfers ≤ v.beneath.transfers + 1 → mid.beneath.transfers ≤ under.transfers + 1 → RoomMade (over v under) (Ok tt) mid → IsOnce mid.waiting → waiting_at mid.waiting e.sector ≡ None
    → TakesIn e.sector e.wanted e.page v (Ok tt) (with_waiting mid (mid.waiting ++ e ∷ []))
takes_more v under mid e free same few more room once none = record {
  taken = record {
    entry = e;
    in_sector = refl;
    as_wanted = refl;
    has_page = refl;
    rest = mid.waiting;
    put = waiting-added mid.waiting e none once;
    made = either room.made;
  };
  left = tt;
  waits = λ x waits. absurd (none-some x (sym free ∙ waits));
  met = (room.met.0, tt);
  few = omega (arith, few, more);
}
  where
    either : (IsStill (over v under) mid.waiting mid × (length v.waiting < v.room)) ⊎ FirstOut (over v under) mid.waiting mid
        → (IsStill v mid.waiting (with_waiting mid (mid.waiting ++ e ∷ [])) × (waiting_at v.waiting e.sector ≡ None → length v.waiting < v.room))
        ⊎ (FirstOut v mid.waiting (with_waiting mid (mid.waiting ++ e ∷ [])) × (waiting_at v.waiting e.sector ≡ None))
    either (inl still) = inl (record { waiting = still.0.waiting; head = still.0.head; same = reveals_same_then same still.0.same }, (λ n. still.1))
    either (inr out) = inr (
      record {
        full = out.full;
        first = out.first;
        is_first = out.is_first;
        less = out.less;
        head = out.head;
        wrote = reveals_write_later (page_write out.first) same out.wrote;
      },
      free,
    )

-- there was room
pub room_there : (v : View) → length v.waiting < v.room → RoomMade v (Ok tt) v
room_there v room = record { made = inl (record { waiting = refl; head = refl; same = reveals_same_itself v.beneath }, room); left = tt; met = ((refl, refl), tt) }

-- the first page was written out, or it waits still
pub room_out : (old : View) (r : Result (Unit {0}) DiskError) (new : View) → length old.waiting ≡ old.room → WritesOut old.head old.waiting old.beneath r new.beneath new.waiting new.head → Meets old r new → RoomMade old r new
room_out old (Ok x) new full out met = record {
  made = inr (record { full = full; first = out.first; is_first = out.is_first; less = out.out.1; head = out.out.2; wrote = out.out.0 });
  left = tt;
  met = met;
}
room_out old (Err y) new full out met = record { made = tt; left = record { waiting = out.stays.0; head = out.stays.1; beneath = either out.stays.2 }; met = met }
  where
    either : RevealsSame old.beneath new.beneath ⊎ RevealsWrite (page_write out.first) old.beneath new.beneath
        → RevealsSame old.beneath new.beneath ⊎ ((first : Entry) × (length old.waiting ≡ old.room) × IsFirst old.head old.waiting first × RevealsWrite (page_write first) old.beneath new.beneath)
    either (inl same) = inl same
    either (inr wrote) = inr (out.first, full, out.is_first, wrote)
