-- A write that went through a queue stands beneath once that is settled.
use Rattle.std.proofs.Common.{◌≡◌, ℕ, List, [], ◌∷◌, ◌++◌, map, Option, Some, None, Result, Ok, Err, refl, ◌∙◌, ap, subst, true}
use Rattle.std.specs.Prelude.{option_map, is_err, OnOk, false}
use Rattle.std.proofs.lemmas.Option.{none-some}
use Rattle.labelled_disk.specs.declared.disk.DiskError.{DiskError}
use Rattle.labelled_disk.specs.declared.disk.DiskWrite.{DiskWrite}
use Rattle.labelled_disk.specs.CrashState.{written}
use Rattle.labelled_disk.specs.Sectors.{Sector}
use Rattle.labelled_disk.specs.State.{DiskState}
use Rattle.labelled_disk.specs.WriteRuns.{after_writes}
use Rattle.write_queue.specs.declared.entry.Entry.{Entry}
use Rattle.write_queue.specs.Beneath.{Empties, PassesOn}
use Rattle.write_queue.specs.Entries.{page_write, waiting_at}
use Rattle.write_queue.specs.Sweeps.{Sweeps}
use Rattle.disk_callers.specs.Settled.{StandsSettled}
use Rattle.write_queue.specs.View.{View}

-- where nothing waits nothing is written out
none_swept : (head : ℕ) (es swept left : List Entry) → es ≡ [] → Sweeps head es swept left → swept ≡ []
none_swept head es [] left none sweeps = refl
none_swept head es (e ∷ swept) left none sweeps = absurd (none-some e (subst (λ (x : List Entry). waiting_at x e.sector ≡ Some e) none sweeps.1.there))

itself : (o : Option (List Sector)) → option_map (after_writes []) o ≡ o
itself None = refl
itself (Some d) = refl

pub passed_and_settled : (write : DiskWrite) (a b c : View) → a.waiting ≡ [] → PassesOn write a (Ok tt) b → Empties b (Ok tt) c
    → c.beneath.contents ≡ option_map (written write) a.beneath.contents
passed_and_settled write a b c none passed emptied =
    let first : passed.swept ≡ [] = none_swept a.head a.waiting passed.swept b.waiting none passed.sweeps in
    let second : emptied.swept ≡ [] = none_swept b.head b.waiting emptied.swept c.waiting passed.all.0 emptied.sweeps in
    emptied.all.1.contents ∙ ap (λ (x : List Entry). option_map (after_writes (map page_write x)) b.beneath.contents) second ∙ itself b.beneath.contents
    ∙ passed.all.1.contents ∙ ap (λ (x : List Entry). option_map (after_writes (map page_write x ++ write ∷ [])) a.beneath.contents) first

-- the same, by the answers
pub stands_settled : (write : DiskWrite) (start : DiskState) (a b c : View) (r s : Result (Unit {0}) DiskError) → a.waiting ≡ [] → a.beneath ≡ start → PassesOn write a r b → is_err r ≡ false
    → Empties b s c → OnOk s (c.beneath.synced ≡ true) → s ≡ Ok tt → StandsSettled write start c.beneath
stands_settled write start a b c (Err e) s none first passed done emptied synced is = absurd (cc done)
stands_settled write start a b c (Ok x) (Err e) none first passed done emptied synced is = absurd (cc is)
stands_settled write start a b c (Ok x) (Ok y) none first passed done emptied synced is = record {
  contents = passed_and_settled write a b c none passed emptied ∙ ap (λ (d : DiskState). option_map (written write) d.contents) first;
  synced = synced;
}
