-- The roots that a run writes.
use Rattle.std.proofs.Common.{◌≡◌, ◌≢◌, ◌⊎◌, inl, inr, ℕ, ◌+◌, ◌*◌, ◌^◌, ◌≤◌, List, [], length, refl, sym, ◌∙◌, ap, subst, arith}
use Rattle.std.proofs.lemmas.Option.{none-some}
use Rattle.labelled_disk.specs.declared.disk.DiskWrite.{DiskWrite}
use Rattle.labelled_disk.specs.declared.disk.DiskWrite.TheVariants as write
use Rattle.labelled_disk.specs.declared.label.Label.{Label}
use Rattle.labelled_disk.specs.Calls.{RevealsSame}
use Rattle.labelled_disk.specs.CrashState.{crash_state}
use Rattle.labelled_disk.specs.Layout.{first_data}
use Rattle.labelled_disk.specs.Permitted.{Permitted}
use Rattle.labelled_disk.specs.Sectors.{Sector}
use Rattle.labelled_disk.specs.State.{DiskState}
use Rattle.labelled_disk.proofs.WriteRunLemmas.{appended_no_more, appended_none}
use Rattle.frame_pool.specs.Frames.{Slots}
use Rattle.flat_machine.specs.declared.call.Call.{Call}
use Rattle.flat_machine.specs.declared.call.Call.TheVariants as call
use Rattle.swapper_kernel.specs.Goes.{Pages}
use Rattle.volume_root.specs.declared.root.Root.{Root}
use Rattle.volume_root.specs.RootPage.{root_in}
use Rattle.file_manager.specs.Creating.{IsMonotone, counted, next_id}
use Rattle.running_words.specs.Session.{WroteIn}
use Rattle.pilot_engine.specs.Opening.{WroteFirst}
use Rattle.pilot_engine.specs.Writing.{BeginMay, CallMay, EndMay, HasNumbers, IsLabelOf, Written}
use Rattle.pilot_top.specs.Parts.{InParts, RaisesRoot, RootMay, TurnsRoot}
use Rattle.pilot_top.proofs.LineParts.{permitted_there}
use Rattle.pilot_top.proofs.PartLemmas.{parts_above, parts_then}

-- ---- Rows of writes.

-- no write
pub raises_none : (first last : Root) {a b : DiskState} → next_id first ≤ next_id last → RevealsSame a b → RaisesRoot first last a b
raises_none first last le same = record {
  roots = record {
    writes = [];
    appended = appended_none same;
    part = λ k. next_id first;
    rise = λ j k less. omega arith;
    by_last = λ k. le;
    each = λ d earlier k w revealed told at. absurd (none-some w at);
  };
  from = λ k. omega arith;
}

pub raises_itself : (root : Root) (disk : DiskState) → RaisesRoot root root disk disk
raises_itself root disk = raises_none root root (omega arith) (record { contents = refl; writes = refl })

-- and then nothing is written
pub raises_still : {first last : Root} {a b c : DiskState} → RaisesRoot first last a b → RevealsSame b c → RaisesRoot first last a c
raises_still on same = record {
  roots = record {
    writes = on.roots.writes;
    appended = appended_no_more on.roots.writes on.roots.appended same;
    part = on.roots.part;
    rise = on.roots.rise;
    by_last = on.roots.by_last;
    each = on.roots.each;
  };
  from = on.from;
}

-- each root that was written is this one
pub raises_one : (first last root : Root) {a b : DiskState} → next_id first ≤ next_id root → next_id root ≤ next_id last → Written (RootMay first.serial (next_id root)) a b → RaisesRoot first last a b
raises_one first last root low high wrote = record {
  roots = record {
    writes = wrote.writes;
    appended = wrote.appended;
    part = λ k. next_id root;
    rise = λ j k less. omega arith;
    by_last = λ k. high;
    each = wrote.each;
  };
  from = λ k. low;
}

-- calls in a row
pub raises_then : {first mid last : Root} {a b c : DiskState} → IsMonotone first mid → RaisesRoot first mid a b → RaisesRoot mid last b c → RaisesRoot first last a c
raises_then {first = first} {mid = mid} {last = last} {b = b} {c = c} on one more =
    let may = RootMay first.serial in
    let two : InParts may (next_id last) b c = record {
      writes = more.roots.writes;
      appended = more.roots.appended;
      part = more.roots.part;
      rise = more.roots.rise;
      by_last = more.roots.by_last;
      each = λ d earlier k w revealed told at. subst (λ (s : ℕ). RootMay s (more.roots.part k) (crash_state d more.roots.writes k) w) on.1 (more.roots.each d earlier k w revealed told at);
    } in
    record {
      roots = parts_then may (next_id mid) (next_id last) one.roots two more.from;
      from = parts_above may (next_id mid) (next_id last) one.roots two more.from (next_id first) one.from (λ k. let up = on.0 in let next = more.from k in omega (arith, up, next));
    }

-- ---- What a write of sector 0 is.

data_after : (n k : ℕ) → first_data n ≤ k → 0 ≢ k
unfolding first_data
data_after n k from same = omega (arith, from, same)

-- a label with its page that is no root's stands elsewhere
no_root : (d : List Sector) (sector : ℕ) (label : Label) (page : List ℕ) → Permitted d (write.Whole sector label page) → label.id ≢ 4 → sector ≢ 0
no_root d sector label page (inl root) other zero = other (ap (λ (l : Label). l.id) root.root_label)
no_root d sector label page (inr fresh) other zero = data_after (length d) sector fresh.old.1.is_data (sym zero)

numbers_next : (root : Root) (page : List ℕ) → HasNumbers root page → next_id (root_in page) ≡ next_id root
numbers_next root page numbers i = numbers.0 i * 2 ^ 32 + numbers.1 i

-- a root with the numbers of this one
numbers_may : (first root : Root) → root.serial ≡ first.serial → (page : List ℕ) → HasNumbers root page → ((root_in page).serial ≡ first.serial) × (next_id (root_in page) ≡ next_id root)
numbers_may first root same page numbers = (numbers.0 ∙ same, numbers_next root page numbers)

module _ (first root : Root) (same : root.serial ≡ first.serial) (new : ℕ) (high : 16 ≤ new) (d : List Sector) where
  new_may : (sector : ℕ) (label : Label) (page : List ℕ) → Permitted d (write.Whole sector label page) → ((sector ≡ 0) × HasNumbers root page) ⊎ IsLabelOf new label → RootMay first.serial (next_id root) d (write.Whole sector label page)
  new_may sector label page permitted (inl is) zero = numbers_may first root same page is.1
  new_may sector label page permitted (inr own) zero = absurd (no_root d sector label page permitted (λ is. let of_file = own.0 in let client = own.1 in omega (arith, is, of_file, client)) zero)

  whole_may : (c : Call) (sector : ℕ) (label : Label) (page : List ℕ) → Permitted d (write.Whole sector label page) → CallMay new root c d (write.Whole sector label page) → RootMay first.serial (next_id root) d (write.Whole sector label page)
  whole_may (call.Create pages kind) sector label page permitted may = new_may sector label page permitted may
  whole_may (call.MapAnonymous space) sector label page permitted may = new_may sector label page permitted may
  whole_may (call.SetSize id pages) sector label page permitted may = λ zero. absurd (no_root d sector label page permitted (λ is. let of_file = may.0 in let client = may.1 in omega (arith, is, of_file, client)) zero)
  whole_may other sector label page permitted may = absurd may

  call_may : (c : Call) (w : DiskWrite) → Permitted d w → CallMay new root c d w → RootMay first.serial (next_id root) d w
  call_may c (write.Whole sector label page) permitted may = whole_may c sector label page permitted may
  call_may c (write.LabelOnly sector label) permitted may = tt
  call_may c (write.Page sector wanted page) permitted may = tt

-- ---- A call, an end, and a start.

-- the identifier that a volume gives out is a client's
next_high : (root : Root) → 1 ≤ root.serial → 16 ≤ next_id root
next_high root some = omega (arith, some)

-- a call after which the root of the volume is this one
pub raises_call : (first root : Root) (c : Call) {pages : Pages} {a b : DiskState} {s t : Slots} → 1 ≤ first.serial → IsMonotone first root → WroteIn pages a s b t → Written (CallMay (next_id first) root c) a b → RaisesRoot first root a b
raises_call first root c some up wrote allowed = raises_one first root root up.0 (omega arith) (record {
  writes = allowed.writes;
  appended = allowed.appended;
  each = λ d earlier k w revealed told at.
      call_may first root up.1 (next_id first) (next_high first some) (crash_state d allowed.writes k) c w (permitted_there wrote.makes.wrote allowed.writes allowed.appended d earlier k w revealed told at)
      (allowed.each d earlier k w revealed told at);
})

pub counted_up : (root : Root) → IsMonotone root (counted root)
counted_up root = (omega arith, refl)

-- an end
pub raises_end : (root : Root) {a b : DiskState} → Written (EndMay root) a b → RaisesRoot root root a b
raises_end root wrote = raises_one root root root (omega arith) (omega arith) (record { writes = wrote.writes; appended = wrote.appended; each = λ d earlier k w revealed told at. by (crash_state d wrote.writes k) w (wrote.each d earlier k w revealed told at) })
  where
    by : (d : List Sector) (w : DiskWrite) → EndMay root d w → RootMay root.serial (next_id root) d w
    by d (write.Whole sector label page) may = λ zero. numbers_may root root refl page may.1
    by d (write.LabelOnly sector label) may = tt
    by d (write.Page sector wanted page) may = tt

-- a start
pub raises_start : (root last : Root) {a b : DiskState} → next_id root ≤ next_id last → WroteFirst a b → Written (BeginMay root) a b → RaisesRoot root last a b
raises_start root last le first wrote = raises_one root last root (omega arith) le (record {
  writes = wrote.writes;
  appended = wrote.appended;
  each = λ d earlier k w revealed told at. by (crash_state d wrote.writes k) w (permitted_there first.wrote wrote.writes wrote.appended d earlier k w revealed told at) (wrote.each d earlier k w revealed told at);
})
  where
    by : (d : List Sector) (w : DiskWrite) → Permitted d w → BeginMay root d w → RootMay root.serial (next_id root) d w
    by d (write.Whole sector label page) permitted (inl is) = λ zero. numbers_may root root refl page is.1
    by d (write.Whole sector label page) permitted (inr table) = λ zero. absurd (no_root d sector label page permitted (λ is. omega (arith, is, table)) zero)
    by d (write.LabelOnly sector label) permitted may = tt
    by d (write.Page sector wanted page) permitted may = tt

-- a line that wrote nothing
pub turns_none : {going : Type 0} (root : Root) (disk : DiskState) → TurnsRoot going root root disk disk
turns_none root disk = record {
  monotone = (omega arith, refl);
  raises = λ goes. raises_itself root disk;
  counts = raises_none root (counted root) (omega arith) (record { contents = refl; writes = refl });
}
