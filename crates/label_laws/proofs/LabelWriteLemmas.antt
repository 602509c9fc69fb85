-- The label writes among writes in a row.
use Rattle.std.proofs.Common.{◌≡◌, ◌⊎◌, inl, inr, ⊎_elim, ℕ, ◌<◌, true, List, [], ◌∷◌, ◌++◌, Ok, Err, Result, refl, ◌∙◌, ap}
use Rattle.std.specs.Prelude.{option_map, OnOk, OnErr}
use Rattle.labelled_disk.specs.declared.label.Wanted.{Wanted}
use Rattle.labelled_disk.specs.declared.disk.DiskError.{DiskError}
use Rattle.labelled_disk.specs.declared.disk.DiskError.TheVariants.{Failed, Wrong}
use Rattle.labelled_disk.specs.declared.disk.DiskWrite.{DiskWrite}
use Rattle.labelled_disk.specs.declared.disk.DiskWrite.TheVariants as write
use Rattle.labelled_disk.specs.Calls.{RevealsSame, RevealsWrite, Writes, WritesData}
use Rattle.labelled_disk.specs.State.{DiskState, NamesThere}
use Rattle.labelled_disk.specs.WriteRuns.{after_writes}
use Rattle.labelled_disk.proofs.WriteRunLemmas.{appended_none, appended_one, appended_then}
use Rattle.label_laws.specs.LabelWrites.{LabelWritesAppended, LaterByLabels, LabelLaterLaws}
use Rattle.label_laws.specs.PermittedRuns.{PermittedThere, LawfullyLater}
use Rattle.label_laws.specs.Mixed.{gives_label, label_writes}
use Rattle.label_laws.proofs.PermittedLemmas.{permitted_append, names_there}

pub label_writes_appended : LabelWritesAppended
label_writes_appended [] next = refl
label_writes_appended (write.Whole sector label page ∷ first) next = ap (λ (l : List DiskWrite). write.Whole sector label page ∷ l) (label_writes_appended first next)
label_writes_appended (write.LabelOnly sector label ∷ first) next = ap (λ (l : List DiskWrite). write.LabelOnly sector label ∷ l) (label_writes_appended first next)
label_writes_appended (write.Page sector wanted page ∷ first) next = label_writes_appended first next

alone : (one : DiskWrite) → gives_label one ≡ true → label_writes (one ∷ []) ≡ one ∷ []
alone one gives = rw gives refl

pub labels_same : (a b : DiskState) → RevealsSame a b → LaterByLabels [] a b
labels_same a b same = record { by = λ d is. ([], appended_none same, tt, refl) }

pub labels_then : (run more : List DiskWrite) (a b c : DiskState) → LaterByLabels run a b → LaterByLabels more b c → LaterByLabels (run ++ more) a c
labels_then run more a b c one later = record {
  by = λ d is.
      let first = one.by d is in
      let next = later.by (after_writes first.0 d) (first.1.contents ∙ ap (option_map (after_writes first.0)) is) in (
        first.0 ++ next.0,
        appended_then first.0 next.0 first.1 next.1,
        permitted_append d first.0 next.0 first.2 next.2,
        label_writes_appended first.0 next.0 ∙ ap (λ (l : List DiskWrite). l ++ label_writes next.0) first.3 ∙ ap (λ (l : List DiskWrite). run ++ l) next.3,
      );
}

pub labels_one : (a b : DiskState) (one : DiskWrite) → RevealsWrite one a b → PermittedThere a one → gives_label one ≡ true → LaterByLabels (one ∷ []) a b
labels_one a b one made permitted gives = record { by = λ d is. (one ∷ [], appended_one one made, (permitted d is, tt), alone one gives) }

pub labels_writes : (a b : DiskState) (one : DiskWrite) (result : Result (Unit {0}) DiskError) → Writes one a result b → PermittedThere a one → gives_label one ≡ true
    → OnOk result (LaterByLabels (one ∷ []) a b) × OnErr result (LaterByLabels [] a b ⊎ LaterByLabels (one ∷ []) a b)
labels_writes a b one (Ok x) call permitted gives = (labels_one a b one call.written permitted gives, tt)
labels_writes a b one (Err e) call permitted gives = (
  tt,
  elim call.whole_or_absent [ inl same ↦ inl (labels_same a b same) | inr made ↦ inr (labels_one a b one made permitted gives) ],
)

page_made : (a b : DiskState) (sector : ℕ) (wanted : Wanted) (page : List ℕ) → 0 < sector → RevealsWrite (write.Page sector wanted page) a b → NamesThere a sector wanted true → LaterByLabels [] a b
page_made a b sector wanted page above made named = record {
  by = λ d is. (write.Page sector wanted page ∷ [], appended_one (write.Page sector wanted page) made, (names_there a sector wanted page above named d is, tt), refl);
}

pub labels_data : (a b : DiskState) (sector : ℕ) (wanted : Wanted) (page : List ℕ) (result : Result (Unit {0}) DiskError) → 0 < sector
    → WritesData sector wanted page a result b → LaterByLabels [] a b
labels_data a b sector wanted page (Ok x) above call = page_made a b sector wanted page above call.written call.named
labels_data a b sector wanted page (Err Failed) above call =
    ⊎_elim (λ (same : RevealsSame a b). labels_same a b same)
    (λ (made : RevealsWrite (write.Page sector wanted page) a b × NamesThere a sector wanted true). page_made a b sector wanted page above made.0 made.1)
    call.whole_or_absent
labels_data a b sector wanted page (Err (Wrong found)) above call = labels_same a b call.wrong.2

pub labels_permitted : (run : List DiskWrite) (a b : DiskState) → LaterByLabels run a b → LawfullyLater a b
labels_permitted run a b later = record { by = λ d is. let since = later.by d is in (since.0, since.1, since.2) }

pub label_later_laws : LabelLaterLaws
label_later_laws = record {
  same = labels_same;
  then_later = labels_then;
  one = labels_one;
  writes = labels_writes;
  writes_data = labels_data;
  permitted = labels_permitted;
}
