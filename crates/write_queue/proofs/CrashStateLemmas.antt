-- What stands beneath while pages that wait are written out.
use Rattle.std.proofs.Common.{◌≡◌, ◌≢◌, ◌⊎◌, inl, inr, ℕ, zero, suc, ◌<◌, ◌≤◌, List, [], ◌∷◌, ◌++◌, map, length, Option, Some, None, refl, sym, ◌∙◌, ap, subst, arith, Bool, true, false, eq-eqb, ne_eqb, leb, length-append, Result, Ok, Err}
use Rattle.std.specs.Prelude.{slice_get, ◌==◌, ◌&&◌, if◌then◌else◌, option_map}
use Rattle.std.specs.Option.{option_map_or}
use Rattle.std.proofs.lemmas.Option.{same_Some, none-some, slice_get-map}
use Rattle.std.proofs.lemmas.Bool.{cases_eq}
use Rattle.std.proofs.lemmas.Bool.Decides.{leb_tells}
use Rattle.std.proofs.lemmas.List.{take_all}
use Rattle.labelled_disk.specs.declared.disk.DiskError.{DiskError}
use Rattle.labelled_disk.specs.declared.disk.DiskWrite.{DiskWrite}
use Rattle.labelled_disk.specs.declared.label.Wanted.{Wanted}
use Rattle.labelled_disk.specs.Calls.{RevealsSame, RevealsWrite}
use Rattle.labelled_disk.specs.Label.{names}
use Rattle.labelled_disk.specs.CrashState.{crash_state, written}
use Rattle.labelled_disk.specs.Sectors.{Sector}
use Rattle.labelled_disk.specs.WriteRuns.{Appended, after_writes}
use Rattle.labelled_disk.proofs.WriteRunLemmas.{appended_none, appended_one, crash_state-earlier}
use Rattle.write_queue.specs.declared.entry.Entry.{Entry}
use Rattle.write_queue.specs.Beneath.{Empties, PassesOn, StopsAfter, TakesIn, IsStill, FirstOut}
use Rattle.write_queue.specs.Entries.{laid, laid_over, page_write, waiting_at}
use Rattle.write_queue.specs.CrashStates.{IsBetween, CrashStatesBetween, labels_of, page_in, revealed_by}
use Rattle.write_queue.specs.Sweeps.{IsFirst, Sweeps}
use Rattle.write_queue.specs.QueueLaws.{get-laid}
use Rattle.write_queue.specs.View.{View}
use Rattle.write_queue.proofs.LaidLemmas.{get-written, laid-still, laid-none, labels-stay, labels-laid}
use Rattle.write_queue.proofs.ListLemmas.{same_by_index}
use Rattle.write_queue.proofs.SweepLemmas.{some_swept, waited_before}

-- each sector is as it was, or has the page that waited for it
abbrev IsAmid : List Entry → List Sector → List Sector → Type 0
IsAmid es d m = (k : ℕ) → (slice_get m k ≡ slice_get d k) ⊎ (slice_get m k ≡ slice_get (laid es d) k)

-- the pages are some that wait
abbrev AreSome : List Entry → List Entry → Type 0
AreSome es swept = (k : ℕ) (e : Entry) → slice_get swept k ≡ Some e → waiting_at es e.sector ≡ Some e

-- after one page was written each sector is as it was, or has the page that waited for it
one-written : (es : List Entry) (e : Entry) (d : List Sector) (k : ℕ) → waiting_at es e.sector ≡ Some e
    → (slice_get (written (page_write e) d) k ≡ slice_get d k) ⊎ (slice_get (written (page_write e) d) k ≡ slice_get (laid es d) k)
one-written es e d k waits = found (slice_get d k) refl
  where
    found : (o : Option Sector) → slice_get d k ≡ o → (slice_get (written (page_write e) d) k ≡ slice_get d k) ⊎ (slice_get (written (page_write e) d) k ≡ slice_get (laid es d) k)
    found None none = inl (get-written e.sector e.wanted e.page d k ∙ ap (option_map _) none ∙ sym none)
    found (Some s) some = either (cases_eq e.sector k) (names s.0 e.wanted) refl
      where
        now : slice_get (written (page_write e) d) k ≡ Some (if e.sector == k && names s.0 e.wanted then (s.0, e.page) else s)
        now = get-written e.sector e.wanted e.page d k ∙ ap (option_map _) some

        either : (e.sector ≡ k) ⊎ (e.sector ≢ k) → (b : Bool) → names s.0 e.wanted ≡ b
            → (slice_get (written (page_write e) d) k ≡ slice_get d k) ⊎ (slice_get (written (page_write e) d) k ≡ slice_get (laid es d) k)
        either (inl same) true named =
            let here : waiting_at es k ≡ Some e = ap (λ (m : ℕ). waiting_at es m) (sym same) ∙ waits in
            inr (now ∙ ap (λ (t : Bool). Some (if t then (s.0, e.page) else s)) (ap (λ (t : Bool). t && names s.0 e.wanted) (eq-eqb e.sector k same) ∙ named)
            ∙ ap (λ (o : Option Entry). Some (option_map_or (λ (f : Entry). (s.0, f.page)) o s)) (sym here)
            ∙ ap (option_map (laid_over es k)) (sym some) ∙ sym (get-laid es d k))
        either (inl same) false named = inl (now ∙ ap (λ (t : Bool). Some (if t then (s.0, e.page) else s)) (ap (λ (t : Bool). t && names s.0 e.wanted) (eq-eqb e.sector k same) ∙ named) ∙ sym some)
        either (inr apart) b named = inl (now ∙ ap (λ (t : Bool). Some (if t && names s.0 e.wanted then (s.0, e.page) else s)) (ne_eqb e.sector k apart) ∙ sym some)

crash_states_between : (es swept : List Entry) (d : List Sector) (n : ℕ) → AreSome es swept → IsAmid es d (crash_state d (map page_write swept) n)
crash_states_between es [] d zero some k = inl refl
crash_states_between es [] d (suc n) some k = inl refl
crash_states_between es (e ∷ swept) d zero some k = inl refl
crash_states_between es (e ∷ swept) d (suc n) some k =
    let more = crash_states_between es swept (written (page_write e) d) n (λ j f is. some (suc j) f is) k in
    either more (one-written es e d k (some 0 e refl))
  where
    m : List Sector
    m = crash_state d (map page_write (e ∷ swept)) (suc n)

    either : (slice_get m k ≡ slice_get (written (page_write e) d) k) ⊎ (slice_get m k ≡ slice_get (laid es (written (page_write e) d)) k)
        → (slice_get (written (page_write e) d) k ≡ slice_get d k) ⊎ (slice_get (written (page_write e) d) k ≡ slice_get (laid es d) k)
        → (slice_get m k ≡ slice_get d k) ⊎ (slice_get m k ≡ slice_get (laid es d) k)
    either (inr at) step = inr (at ∙ ap (λ (x : List Sector). slice_get x k) (laid-still es e d (some 0 e refl)))
    either (inl at) (inl same) = inl (at ∙ same)
    either (inl at) (inr came) = inr (at ∙ came)

labels_by_index : (a b : List Sector) → ((k : ℕ) → option_map (λ (s : Sector). s.0) (slice_get a k) ≡ option_map (λ (s : Sector). s.0) (slice_get b k)) → labels_of a ≡ labels_of b
labels_by_index a b same = same_by_index (labels_of a) (labels_of b)
    (λ k. slice_get-map (λ (s : Sector). s.0) a k ∙ same k ∙ sym (slice_get-map (λ (s : Sector). s.0) b k))

labels_crash_state : (swept : List Entry) (d : List Sector) (n : ℕ) → labels_of (crash_state d (map page_write swept) n) ≡ labels_of d
labels_crash_state [] d zero = refl
labels_crash_state [] d (suc n) = refl
labels_crash_state (e ∷ swept) d zero = refl
labels_crash_state (e ∷ swept) d (suc n) =
    labels_crash_state swept (written (page_write e) d) n ∙ labels_by_index (written (page_write e) d) d (labels-stay e.sector e.wanted e.page d)

-- a crash state of pages that waited
between_pages : (es swept : List Entry) (d exit : List Sector) (k : ℕ) → AreSome es swept → IsBetween d (laid es d) exit (crash_state d (map page_write swept) k)
between_pages es swept d exit k some = record {
  labels = inl (labels_crash_state swept d k ∙ sym (labels_by_index (laid es d) d (labels-laid es d)));
  pages = λ j. either j (crash_states_between es swept d k some j);
}
  where
    m : List Sector
    m = crash_state d (map page_write swept) k

    either : (j : ℕ) → (slice_get (crash_state d (map page_write swept) k) j ≡ slice_get d j) ⊎ (slice_get (crash_state d (map page_write swept) k) j ≡ slice_get (laid es d) j)
        → (page_in (crash_state d (map page_write swept) k) j ≡ page_in d j) ⊎ ((page_in (crash_state d (map page_write swept) k) j ≡ page_in (laid es d) j) ⊎ (page_in (crash_state d (map page_write swept) k) j ≡ page_in exit j))
    either j (inl same) = inl (ap (option_map (λ (s : Sector). s.1)) same)
    either j (inr came) = inr (inl (ap (option_map (λ (s : Sector). s.1)) came))

some_more : (es swept : List Entry) (e : Entry) → AreSome es swept → waiting_at es e.sector ≡ Some e → AreSome es (swept ++ e ∷ [])
some_more es [] e some waits zero f is = subst (λ (x : Entry). waiting_at es x.sector ≡ Some x) (same_Some e f is) waits
some_more es [] e some waits (suc k) f is = absurd (none-some f is)
some_more es (x ∷ swept) e some waits zero f is = some zero f is
some_more es (x ∷ swept) e some waits (suc k) f is = some_more es swept e (λ j g at. some (suc j) g at) waits k f is

map_more : (swept : List Entry) (e : Entry) → map page_write (swept ++ e ∷ []) ≡ map page_write swept ++ page_write e ∷ []
map_more [] e = refl
map_more (f ∷ swept) e = ap (λ (ws : List DiskWrite). page_write f ∷ ws) (map_more swept e)

same_after : (xs ys zs : List DiskWrite) → xs ++ ys ≡ xs ++ zs → ys ≡ zs
same_after [] ys zs is = is
same_after (x ∷ xs) ys zs is = let rest : xs ++ ys ≡ xs ++ zs = cc is in same_after xs ys zs rest

-- these writes were made, and each of their crash states is between
module _ (old new : View) (ws : List DiskWrite) (made : Appended ws old.beneath new.beneath) where
  from_crash_states : ((d exit : List Sector) (k : ℕ) → old.beneath.contents ≡ Some d → revealed_by new ≡ Some exit → IsBetween d (laid old.waiting d) exit (crash_state d ws k)) → CrashStatesBetween old new
  from_crash_states each d entry exit earlier writes k revealed here there had has =
      let rest : writes ≡ ws = same_after earlier writes ws (same_Some (earlier ++ writes) (earlier ++ ws) (sym has ∙ made.revealed ∙ ap (option_map (λ (l : List DiskWrite). l ++ ws)) had)) in
      let first : laid old.waiting d ≡ entry = same_Some (laid old.waiting d) entry (sym (ap (option_map (laid old.waiting)) revealed) ∙ here) in
      subst (λ (x : List Sector). IsBetween d x exit (crash_state d writes k)) first
      (subst (λ (x : List DiskWrite). IsBetween d (laid old.waiting d) exit (crash_state d x k)) (sym rest) (each d exit k revealed there))

-- pages that waited were written, or none
from_pages : (old new : View) (swept : List Entry) → AreSome old.waiting swept → Appended (map page_write swept) old.beneath new.beneath → CrashStatesBetween old new
from_pages old new swept some made = from_crash_states old new (map page_write swept) made (λ d exit k revealed there. between_pages old.waiting swept d exit k some)

pub crash_states_same : (old new : View) → RevealsSame old.beneath new.beneath → CrashStatesBetween old new
crash_states_same old new same = from_pages old new [] (λ k e is. absurd (none-some e is)) (appended_none same)

from_stop : (old new : View) (swept : List Entry) → Sweeps old.head old.waiting swept new.waiting → StopsAfter swept old new → CrashStatesBetween old new
from_stop old new swept sweeps (inl made) = from_pages old new swept (λ k e is. some_swept old.head old.waiting swept new.waiting sweeps e k is) made
from_stop old new swept sweeps (inr made) =
    let next : Entry = made.0 in
    from_pages old new (swept ++ next ∷ [])
    (some_more old.waiting swept next (λ k e is. some_swept old.head old.waiting swept new.waiting sweeps e k is)
    (waited_before old.head old.waiting swept new.waiting sweeps next.sector next made.1.there))
    (subst (λ (x : List DiskWrite). Appended x old.beneath new.beneath) (sym (map_more swept next)) made.2)

pub crash_states_emptied : (old : View) (r : Result (Unit {0}) DiskError) (new : View) → Empties old r new → CrashStatesBetween old new
crash_states_emptied old (Ok x) new e = from_stop old new e.swept e.sweeps (inl e.all.1)
crash_states_emptied old (Err x) new e = from_stop old new e.swept e.sweeps e.part

-- pages that waited were written, and then the call's own write
sent : (write : DiskWrite) (old new : View) (swept : List Entry) → Sweeps old.head old.waiting swept new.waiting → new.waiting ≡ []
    → Appended (map page_write swept ++ write ∷ []) old.beneath new.beneath → CrashStatesBetween old new
sent write old new swept sweeps none made = from_crash_states old new (map page_write swept ++ write ∷ []) made (λ d exit k revealed there. either d exit k revealed there (leb_tells k (length (map page_write swept))))
  where
    either : (d exit : List Sector) (k : ℕ) → old.beneath.contents ≡ Some d → revealed_by new ≡ Some exit
        → ((leb k (length (map page_write swept)) ≡ true) × (k ≤ length (map page_write swept))) ⊎ ((leb k (length (map page_write swept)) ≡ false) × (length (map page_write swept) < k))
        → IsBetween d (laid old.waiting d) exit (crash_state d (map page_write swept ++ write ∷ []) k)
    either d exit k revealed there (inl few) =
        subst (IsBetween d (laid old.waiting d) exit) (sym (crash_state-earlier d (map page_write swept) (write ∷ []) k few.1))
        (between_pages old.waiting swept d exit k (λ j e is. some_swept old.head old.waiting swept new.waiting sweeps e j is))
    either d exit k revealed there (inr past) =
        let end : crash_state d (map page_write swept ++ write ∷ []) k ≡ after_writes (map page_write swept ++ write ∷ []) d =
        ap (λ (l : List DiskWrite). after_writes l d) (take_all k (map page_write swept ++ write ∷ []) (omega (arith, past.1, length-append (map page_write swept) (write ∷ [])))) in
        let now : new.beneath.contents ≡ Some (after_writes (map page_write swept ++ write ∷ []) d) = made.contents ∙ ap (option_map (after_writes (map page_write swept ++ write ∷ []))) revealed in
        let out : laid new.waiting (after_writes (map page_write swept ++ write ∷ []) d) ≡ exit =
        same_Some (laid new.waiting (after_writes (map page_write swept ++ write ∷ []) d)) exit (sym (ap (option_map (laid new.waiting)) now) ∙ there) in
        let same : crash_state d (map page_write swept ++ write ∷ []) k ≡ exit =
        end ∙ sym (ap (λ (es : List Entry). laid es (after_writes (map page_write swept ++ write ∷ []) d)) none ∙ laid-none (after_writes (map page_write swept ++ write ∷ []) d)) ∙ out in
        record { labels = inr (ap labels_of same); pages = λ j. inr (inr (ap (λ (x : List Sector). page_in x j) same)) }

pub crash_states_passed : (write : DiskWrite) (old : View) (r : Result (Unit {0}) DiskError) (new : View) → PassesOn write old r new → CrashStatesBetween old new
crash_states_passed write old (Ok x) new p = sent write old new p.swept p.sweeps p.all.0 p.all.1
crash_states_passed write old (Err x) new p = either p.part
  where
    either : StopsAfter p.swept old new ⊎ ((new.waiting ≡ []) × Appended (map page_write p.swept ++ write ∷ []) old.beneath new.beneath) → CrashStatesBetween old new
    either (inl stop) = from_stop old new p.swept p.sweeps stop
    either (inr made) = sent write old new p.swept p.sweeps made.0 made.1

-- the first page of the sweep was written
from_first : (old new : View) (e : Entry) → waiting_at old.waiting e.sector ≡ Some e → RevealsWrite (page_write e) old.beneath new.beneath → CrashStatesBetween old new
from_first old new e waits made = from_pages old new (e ∷ []) (some_more old.waiting [] e (λ k f is. absurd (none-some f is)) waits) (appended_one (page_write e) made)

pub crash_states_taken : (sector : ℕ) (wanted : Wanted) (page : List ℕ) (old : View) (r : Result (Unit {0}) DiskError) (new : View) → TakesIn sector wanted page old r new → CrashStatesBetween old new
crash_states_taken sector wanted page old (Ok x) new t = either t.taken.made
  where
    either : (IsStill old t.taken.rest new × (waiting_at old.waiting sector ≡ None → length old.waiting < old.room))
        ⊎ (FirstOut old t.taken.rest new × (waiting_at old.waiting sector ≡ None)) → CrashStatesBetween old new
    either (inl still) = crash_states_same old new still.0.same
    either (inr out) = from_first old new out.0.first out.0.is_first.there out.0.wrote
crash_states_taken sector wanted page old (Err x) new t = either t.left.beneath
  where
    either : RevealsSame old.beneath new.beneath ⊎ ((first : Entry) × (length old.waiting ≡ old.room) × IsFirst old.head old.waiting first × RevealsWrite (page_write first) old.beneath new.beneath)
        → CrashStatesBetween old new
    either (inl same) = crash_states_same old new same
    either (inr out) = from_first old new out.0 out.2.there out.3
