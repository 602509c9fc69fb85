-- A queue as a disk: what one call of it comes to.
use Rattle.std.proofs.Common.{◌≡◌, ◌⊎◌, inl, inr, ℕ, ◌+◌, ◌-◌, ◌^◌, ◌<◌, ◌≤◌, min, List, [], ◌∷◌, ◌++◌, length, get_or, Option, Some, None, refl, sym, ◌∙◌, ap, subst, arith, true, false, eqb-true, Result, Ok, Err}
use Rattle.std.specs.Prelude.{slice_get, slice_set, ◌==◌, if◌then◌else◌, option_map, IfOk, OnErr, ◌&&◌, Bool}
use Rattle.labelled_disk.specs.declared.label.Label.{Label}
use Rattle.labelled_disk.specs.declared.label.Wanted.{Wanted}
use Rattle.labelled_disk.specs.declared.disk.DiskError.{DiskError}
use Rattle.labelled_disk.specs.declared.disk.DiskError.TheVariants as err
use Rattle.labelled_disk.specs.declared.disk.DiskWrite.{DiskWrite}
use Rattle.labelled_disk.specs.declared.disk.DiskWrite.TheVariants.{Page}
use Rattle.labelled_disk.proofs.CallLemmas.{reveals_write_later, reveals_same_then, rose_earlier}
use Rattle.labelled_disk.specs.Label.{names}
use Rattle.labelled_disk.specs.Calls.{Moved, Moves, Rose, RevealsSame, RevealsWrite, Reads, Writes, WritesData}
use Rattle.labelled_disk.specs.Sectors.{Sector, IsSector}
use Rattle.labelled_disk.specs.State.{DiskState, Holds, NamesThere}
use Rattle.write_queue.specs.declared.entry.Entry.{Entry}
use Rattle.write_queue.specs.Entries.{AreWaiting, IsOnce, Waits, waiting_at, laid}
use Rattle.write_queue.specs.Inside.{LabelsStay, MakesRoom}
use Rattle.write_queue.specs.Queue.{StandsBeneath, queued}
use Rattle.write_queue.specs.QueueLaws.{revealed_before}
use Rattle.write_queue.specs.View.{View}
use Rattle.write_queue.proofs.LaidLemmas.{labels-laid, laid-none}
use Rattle.write_queue.proofs.WaitLemmas.{revealed_put, revealed_waiting, revealed_beneath, revealed_through, waits_again}
use Rattle.write_queue.proofs.ListLemmas.{stands_waiting, waiting-set, waiting-added}
use Rattle.std.proofs.lemmas.Option.{same_Some}

moves_itself : (d : DiskState) → Moves d d
moves_itself d = record { sectors = refl; lent = refl; syncs = refl; transfers = record { later = omega arith; by_one = omega arith }; faults = omega arith }

-- another label is kept for the page that waits
pub data_wrong : (under : DiskState) (es : List Entry) (transfers own : ℕ) (e : Entry) (wanted : Wanted) (page : List ℕ) → waiting_at es e.sector ≡ Some e → Waits under e
    → names e.label wanted ≡ false → WritesData e.sector wanted page (queued under es transfers own) (Err (err.Wrong e.label)) (queued under es transfers own)
data_wrong under es transfers own e wanted page waits w differs = record {
  written = tt;
  named = tt;
  wrong = (differs, (λ d revealed. ap (option_map (λ (s : Sector). s.0)) (revealed_waiting under es e waits w d revealed)), record { contents = refl; writes = refl });
  whole_or_absent = tt;
  cause = tt;
  moves = moves_itself (queued under es transfers own);
}

-- a page waits, and it is revealed
pub data_put : (under : DiskState) (es fs : List Entry) (transfers own : ℕ) (f : Entry) → ((k : ℕ) → waiting_at fs k ≡ (if f.sector == k then Some f else waiting_at es k)) → Waits under f
    → WritesData f.sector f.wanted f.page (queued under es transfers own) (Ok tt) (queued under fs transfers own)
data_put under es fs transfers own f put w = record {
  written = record { contents = revealed_put under es fs f put w; writes = refl };
  named = λ d revealed.
      let t = revealed_before (laid es) under.contents d revealed in
      named t.0 d t.2 (w.stands t.0 t.1);
  wrong = tt;
  whole_or_absent = tt;
  cause = tt;
  moves = record { sectors = refl; lent = refl; syncs = refl; transfers = record { later = omega arith; by_one = omega arith }; faults = omega arith };
}
  where
    says : (o : Option Sector) → option_map (λ (s : Sector). s.0) o ≡ Some f.label → option_map (λ (s : Sector). names s.0 f.wanted) o ≡ Some true
    says None is = absurd (cc is)
    says (Some s) is =
        let same : s.0 ≡ f.label = cc is in
        ap (λ (l : Label). Some (names l f.wanted)) same ∙ ap (λ (b : _). Some b) w.named

    named : (b d : List Sector) → laid es b ≡ d → option_map (λ (s : Sector). s.0) (slice_get b f.sector) ≡ Some f.label → option_map (λ (s : Sector). names s.0 f.wanted) (slice_get d f.sector) ≡ Some true
    named b d is label = says (slice_get d f.sector) (ap (λ (x : List Sector). option_map (λ (s : Sector). s.0) (slice_get x f.sector)) (sym is) ∙ labels-laid es b f.sector ∙ label)

-- the call begins later, where all was as it is revealed now
module _ (old mid new : DiskState) (same : RevealsSame old mid) (sectors : mid.sectors ≡ old.sectors) (lent : mid.lent ≡ old.lent) (syncs : mid.syncs ≡ old.syncs) (moved : Moved old.transfers new.transfers) (faults : old.faults ≤ mid.faults) where
  moves-from : Moves mid new → Moves old new
  moves-from m = record { sectors = m.sectors ∙ sectors; lent = m.lent ∙ lent; syncs = m.syncs ∙ syncs; transfers = moved; faults = omega (arith, faults, m.faults) }

  pub data_from : (n : ℕ) (wanted : Wanted) (page : List ℕ) (r : Result (Unit {0}) DiskError) → WritesData n wanted page mid r new → WritesData n wanted page old r new
  data_from n wanted page (Ok x) w = record {
    written = reveals_write_later (Page n wanted page) same w.written;
    named = λ d revealed. w.named d (same.contents ∙ revealed);
    wrong = tt;
    whole_or_absent = tt;
    cause = tt;
    moves = moves-from w.moves;
  }
  data_from n wanted page (Err err.Failed) w = record {
    written = tt;
    named = tt;
    wrong = tt;
    whole_or_absent = either w.whole_or_absent;
    cause = rose_earlier old.faults mid.faults new.faults faults w.cause;
    moves = moves-from w.moves;
  }
    where
      either : RevealsSame mid new ⊎ (RevealsWrite (Page n wanted page) mid new × NamesThere mid n wanted true) → RevealsSame old new ⊎ (RevealsWrite (Page n wanted page) old new × NamesThere old n wanted true)
      either (inl s) = inl (reveals_same_then same s)
      either (inr w) = inr (reveals_write_later (Page n wanted page) same w.0, (λ d revealed. w.1 d (same.contents ∙ revealed)))
  data_from n wanted page (Err (err.Wrong found)) w = record {
    written = tt;
    named = tt;
    wrong = (w.wrong.0, (λ d revealed. w.wrong.1 d (same.contents ∙ revealed)), reveals_same_then same w.wrong.2);
    whole_or_absent = tt;
    cause = tt;
    moves = moves-from w.moves;
  }

  pub writes_from : (w : DiskWrite) (r : Result (Unit {0}) DiskError) → Writes w mid r new → Writes w old r new
  writes_from w (Ok x) h = record {
    written = reveals_write_later w same h.written;
    whole_or_absent = tt;
    moves = moves-from h.moves;
    fails = record { failed = tt; cause = tt };
  }
  writes_from w (Err e) h = record {
    written = tt;
    whole_or_absent = either h.whole_or_absent;
    moves = moves-from h.moves;
    fails = record { failed = h.fails.failed; cause = rose_earlier old.faults mid.faults new.faults faults h.fails.cause };
  }
    where
      either : RevealsSame mid new ⊎ RevealsWrite w mid new → RevealsSame old new ⊎ RevealsWrite w old new
      either (inl s) = inl (reveals_same_then same s)
      either (inr t) = inr (reveals_write_later w same t)

-- the same, by the place where it waits
pub data_wrong_at : (under : DiskState) (es : List Entry) (transfers own place : ℕ) (e f : Entry) (wanted : Wanted) (page : List ℕ) → AreWaiting under es → slice_get es place ≡ Some e → slice_get es place ≡ Some f
    → names f.label wanted ≡ false → WritesData e.sector wanted page (queued under es transfers own) (Err (err.Wrong f.label)) (queued under es transfers own)
data_wrong_at under es transfers own place e f wanted page are is at differs =
    let same : e ≡ f = same_Some e f (sym is ∙ at) in
    subst (λ (x : Entry). WritesData x.sector wanted page (queued under es transfers own) (Err (err.Wrong f.label)) (queued under es transfers own)) (sym same)
    (data_wrong under es transfers own f wanted page (stands_waiting es are.once place f at f.sector refl) (are.each place f at) differs)

pub data_put_at : (under : DiskState) (es : List Entry) (transfers own place : ℕ) (e f : Entry) (wanted : Wanted) (page : List ℕ) → AreWaiting under es → slice_get es place ≡ Some e → slice_get es place ≡ Some f
    → names f.label wanted ≡ true → length page ≡ 512 → ((k : ℕ) → get_or page k 0 < 256)
    → WritesData e.sector wanted page (queued under es transfers own) (Ok tt) (queued under (slice_set es place (record { sector = f.sector; wanted = wanted; label = f.label; page = page })) transfers own)
data_put_at under es transfers own place e f wanted page are is at named long bytes =
    let same : e ≡ f = same_Some e f (sym is ∙ at) in
    let new : Entry = record { sector = f.sector; wanted = wanted; label = f.label; page = page } in
    subst (λ (x : Entry). WritesData x.sector wanted page (queued under es transfers own) (Ok tt) (queued under (slice_set es place new) transfers own)) (sym same)
    (data_put under es (slice_set es place new) transfers own new (waiting-set es place f new at refl are.once) (waits_again under f wanted page (are.each place f at) named long bytes))

-- a sector for which nothing waits was read, and its label names another page
pub data_other : (u v : DiskState) (es : List Entry) (t own sector : ℕ) (label : Label) (found : List ℕ) (wanted : Wanted) (page : List ℕ) → Reads u sector found (Ok label) v → waiting_at es sector ≡ None
    → names label wanted ≡ false → WritesData sector wanted page (queued u es t own) (Err (err.Wrong label)) (queued v es t own)
data_other u v es t own sector label found wanted page read free differs = record {
  written = tt;
  named = tt;
  wrong = (
    differs,
    (λ d revealed. ap (option_map (λ (s : Sector). s.0)) (revealed_beneath u es sector (label, found) free read.found d revealed)),
    record { contents = ap (option_map (laid es)) read.same.contents; writes = refl },
  );
  whole_or_absent = tt;
  cause = tt;
  moves = record { sectors = read.moves.sectors; lent = read.moves.lent; syncs = refl; transfers = record { later = omega arith; by_one = omega arith }; faults = omega (arith, read.moves.faults) };
}

-- what was read names the page, which waits now
pub waits_read : (u v w : DiskState) (sector : ℕ) (label : Label) (found : List ℕ) (wanted : Wanted) (page : List ℕ) → Reads u sector found (Ok label) v → sector < u.sectors → names label wanted ≡ true → IsSector (label, page)
    → w.sectors ≡ v.sectors → LabelsStay v w → Waits w (record { sector = sector; wanted = wanted; label = label; page = page })
waits_read u v w sector label found wanted page read inside named form sectors stay = record {
  inside = omega (arith, inside, sectors, read.moves.sectors);
  in_form = form;
  named = named;
  stands = stay sector label (λ d revealed. ap (option_map (λ (s : Sector). s.0)) (read.found d (sym read.same.contents ∙ revealed)));
}

-- a page was taken in, after the label was read and room was made
pub data_taken : (u v w : DiskState) (es left : List Entry) (t own more sector : ℕ) (label : Label) (found : List ℕ) (wanted : Wanted) (page : List ℕ) → Reads u sector found (Ok label) v
    → option_map (laid left) w.contents ≡ option_map (laid es) v.contents → MakesRoom v es w left → min (v.faults + own) (2 ^ 64 - 1) ≤ min (w.faults + more) (2 ^ 64 - 1) → IsOnce left
    → waiting_at es sector ≡ None → Waits w (record { sector = sector; wanted = wanted; label = label; page = page })
    → WritesData sector wanted page (queued u es t own) (Ok tt) (queued w (left ++ (record { sector = sector; wanted = wanted; label = label; page = page }) ∷ []) t more)
data_taken u v w es left t own more sector label found wanted page read revealed made faults once free waits =
    let e : Entry = record { sector = sector; wanted = wanted; label = label; page = page } in
    data_from (queued u es t own) (queued w left t more) (queued w (left ++ e ∷ []) t more)
    (record { contents = revealed ∙ ap (option_map (laid es)) read.same.contents; writes = refl })
    (made.sectors ∙ read.moves.sectors) (made.lent ∙ read.moves.lent) refl (record { later = omega arith; by_one = omega arith })
    (omega (arith, faults, read.moves.faults)) sector wanted page (Ok tt)
    (data_put w left (left ++ e ∷ []) t more e (waiting-added left e (made.free sector free) once) waits)

-- a page that waits is read
pub reads_waiting : (u : DiskState) (es : List Entry) (t own counted place sector : ℕ) (e f : Entry) → Moved t counted → AreWaiting u es → slice_get es place ≡ Some e → e.sector ≡ sector → slice_get es place ≡ Some f
    → Reads (queued u es t own) sector f.page (Ok f.label) (queued u es counted own)
reads_waiting u es t own counted place sector e f moved are is there at =
    let same : e ≡ f = same_Some e f (sym is ∙ at) in
    let here : f.sector ≡ sector = ap (λ (x : Entry). x.sector) (sym same) ∙ there in
    record {
      found = λ d revealed. ap (λ (k : ℕ). slice_get d k) (sym here) ∙ revealed_waiting u es f (stands_waiting es are.once place f at f.sector refl) (are.each place f at) d revealed;
      same = record { contents = refl; writes = refl };
      moves = record { sectors = refl; lent = refl; syncs = refl; transfers = moved; faults = omega arith };
      fails = record { failed = tt; cause = tt };
      synced = λ is. is;
    }

both : (a b : Bool) → (a && b) ≡ true → (a ≡ true) × (b ≡ true)
both true true is = (refl, refl)
both true false is = absurd (cc is)
both false b is = absurd (cc is)

join : (a b : Bool) → a ≡ true → b ≡ true → (a && b) ≡ true
join true true p q = refl
join true false p q = absurd (cc q)
join false b p q = absurd (cc p)

-- a sector for which nothing waits is read beneath
pub reads_beneath : (u v : DiskState) (es : List Entry) (t own counted sector : ℕ) (page : List ℕ) (r : Result Label DiskError) → Moved t counted → waiting_at es sector ≡ None → Reads u sector page r v
    → Reads (queued u es t own) sector page r (queued v es counted own)
reads_beneath u v es t own counted sector page r moved free read = record {
  found = found r read.found;
  same = record { contents = ap (option_map (laid es)) read.same.contents; writes = refl };
  moves = record { sectors = read.moves.sectors; lent = read.moves.lent; syncs = refl; transfers = moved; faults = omega (arith, read.moves.faults) };
  fails = record { failed = read.fails.failed; cause = cause r read.fails.cause };
  synced = λ is. let b = both (length es == 0) u.synced is in join (length es == 0) v.synced b.0 (read.synced b.1);
}
  where
    found : (r : Result Label DiskError) → IfOk r (λ label. Holds u sector (label, page)) → IfOk r (λ label. Holds (queued u es t own) sector (label, page))
    found (Ok label) holds = revealed_beneath u es sector (label, page) free holds
    found (Err e) holds = tt

    cause : (r : Result Label DiskError) → OnErr r (Rose u.faults v.faults) → OnErr r (Rose (min (u.faults + own) (2 ^ 64 - 1)) (min (v.faults + own) (2 ^ 64 - 1)))
    cause (Ok label) rose = tt
    cause (Err e) rose = omega (arith, rose)

-- a write is passed on, where nothing waits
pub writes_beneath : (u v : DiskState) (own : ℕ) (w : DiskWrite) (t counted : ℕ) (r : Result (Unit {0}) DiskError) → Moved t counted → Writes w u r v → Writes w (queued u [] t own) r (queued v [] counted own)
writes_beneath u v own w t counted (Ok x) moved h = record {
  written = record { contents = revealed_through u v w h.written; writes = refl };
  whole_or_absent = tt;
  moves = record { sectors = h.moves.sectors; lent = h.moves.lent; syncs = refl; transfers = moved; faults = omega (arith, h.moves.faults) };
  fails = record { failed = tt; cause = tt };
}
writes_beneath u v own w t counted (Err e) moved h = record {
  written = tt;
  whole_or_absent = either h.whole_or_absent;
  moves = record { sectors = h.moves.sectors; lent = h.moves.lent; syncs = refl; transfers = moved; faults = omega (arith, h.moves.faults) };
  fails = record { failed = h.fails.failed; cause = (let rose = h.fails.cause in omega (arith, rose)) };
}
  where
    either : RevealsSame u v ⊎ RevealsWrite w u v → RevealsSame (queued u [] t own) (queued v [] counted own) ⊎ RevealsWrite w (queued u [] t own) (queued v [] counted own)
    either (inl s) = inl (record { contents = ap (option_map (laid [])) s.contents; writes = refl })
    either (inr made) = inr (record { contents = revealed_through u v w made; writes = refl })

-- a write is passed on, after all that waited was written
pub writes_swept : (u mid v : DiskState) (es left : List Entry) (t own counted more : ℕ) (w : DiskWrite) (r : Result (Unit {0}) DiskError) → left ≡ []
    → option_map (laid left) mid.contents ≡ option_map (laid es) u.contents → mid.sectors ≡ u.sectors → mid.lent ≡ u.lent → Moved t counted
    → min (u.faults + own) (2 ^ 64 - 1) ≤ min (mid.faults + more) (2 ^ 64 - 1) → Writes w mid r v → Writes w (queued u es t own) r (queued v left counted more)
writes_swept u mid v es left t own counted more w r none revealed sectors lent moved faults made =
    subst (λ (l : List Entry). option_map (laid l) mid.contents ≡ option_map (laid es) u.contents → Writes w (queued u es t own) r (queued v l counted more)) (sym none)
    (λ same. writes_from (queued u es t own) (queued mid [] counted more) (queued v [] counted more) (record { contents = same; writes = refl }) sectors lent refl moved faults w r
    (writes_beneath mid v more w counted counted r (record { later = omega arith; by_one = omega arith }) made)) revealed

-- another page waits, and the call was counted before
pub data_replaced : (u v : DiskState) (es fs : List Entry) (t own counted later more place sector : ℕ) (e : Entry) (wanted : Wanted) (page : List ℕ) (r : Result (Unit {0}) DiskError) → Moved t counted → later ≡ counted
    → e.sector ≡ sector → WritesData e.sector wanted page (queued u es counted own) r (queued v fs later more) → WritesData sector wanted page (queued u es t own) r (queued v fs later more)
data_replaced u v es fs t own counted later more place sector e wanted page r moved same there w =
    data_from (queued u es t own) (queued u es counted own) (queued v fs later more) (record { contents = refl; writes = refl }) refl refl refl
    (record { later = omega (arith, moved.later, same); by_one = omega (arith, moved.by_one, same) }) (omega arith) sector wanted page r
    (subst (λ (k : ℕ). WritesData k wanted page (queued u es counted own) r (queued v fs later more)) there w)

-- a page was written, and the call was counted before
pub data_later : (u v : DiskState) (es fs : List Entry) (t own counted later more n : ℕ) (wanted : Wanted) (page : List ℕ) (r : Result (Unit {0}) DiskError) → Moved t counted → later ≡ counted
    → WritesData n wanted page (queued u es counted own) r (queued v fs later more) → WritesData n wanted page (queued u es t own) r (queued v fs later more)
data_later u v es fs t own counted later more n wanted page r moved same w =
    data_from (queued u es t own) (queued u es counted own) (queued v fs later more) (record { contents = refl; writes = refl }) refl refl refl
    (record { later = omega (arith, moved.later, same); by_one = omega (arith, moved.by_one, same) }) (omega arith) n wanted page r w

-- where the queue is synced nothing waits, and what it reveals is what stands beneath
pub synced_beneath : (v : View) (t : ℕ) → (queued v.beneath v.waiting t v.own).synced ≡ true → StandsBeneath (queued v.beneath v.waiting t v.own) v
synced_beneath v t is =
    let b = both (length v.waiting == 0) v.beneath.synced is in
    let none : v.waiting ≡ [] = empty v.waiting (eqb-true (length v.waiting) 0 b.0) in
    record { waiting = none; contents = sym (ap (λ (l : List Entry). option_map (laid l) v.beneath.contents) none ∙ same v.beneath.contents); synced = b.1 }
  where
    empty : (l : List Entry) → length l ≡ 0 → l ≡ []
    empty [] is = refl
    empty (e ∷ l) is = absurd (omega (arith, is))

    same : (o : Option (List Sector)) → option_map (laid []) o ≡ o
    same None = refl
    same (Some d) = ap (λ (x : List Sector). Some x) (laid-none d)
