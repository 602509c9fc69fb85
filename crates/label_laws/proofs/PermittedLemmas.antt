-- Permitted writes in a row, and states of a disk that are as permitted later.
use Rattle.std.proofs.Common.{◌≡◌, ⊎_elim, ℕ, zero, suc, ◌<◌, true, List, [], ◌∷◌, ◌++◌, Option, Some, None, Ok, Err, Result, refl, ◌∙◌, ap, subst}
use Rattle.std.specs.Prelude.{slice_get, option_map}
use Rattle.std.proofs.lemmas.Option.{same_Some, none-some}
use Rattle.labelled_disk.specs.declared.label.Wanted.{Wanted}
use Rattle.labelled_disk.specs.declared.disk.DiskError.{DiskError}
use Rattle.labelled_disk.specs.declared.disk.DiskError.TheVariants.{Failed, Wrong}
use Rattle.labelled_disk.specs.declared.disk.DiskWrite.{DiskWrite}
use Rattle.labelled_disk.specs.declared.disk.DiskWrite.TheVariants.{Page}
use Rattle.labelled_disk.specs.Calls.{OnlyReads, RevealsSame, RevealsWrite, Writes, WritesData}
use Rattle.labelled_disk.specs.Label.{names}
use Rattle.labelled_disk.specs.Permitted.{Permitted, IsPageWrite}
use Rattle.labelled_disk.specs.CrashState.{written}
use Rattle.labelled_disk.specs.Sectors.{Sector}
use Rattle.labelled_disk.specs.State.{DiskState, NamesThere, lent_state}
use Rattle.labelled_disk.specs.WriteRuns.{after_writes}
use Rattle.labelled_disk.proofs.RunLemmas.{sectors_stay}
use Rattle.labelled_disk.proofs.WriteRunLemmas.{appended_none, appended_one, appended_then}
use Rattle.label_laws.specs.PermittedRuns.{LawfullyLater, PermittedThere, RevealsPermitted, PermittedAppended, PermittedSplit, EachIsPermitted, PermittedByEach, CrashStatesAreSectors}

pub permitted_append : PermittedAppended
permitted_append d [] next one more = more
permitted_append d (write ∷ first) next one more = (one.0, permitted_append (written write d) first next one.1 more)

pub permitted_split : PermittedSplit
permitted_split d [] next all = (tt, all)
permitted_split d (write ∷ first) next all = let rest = permitted_split (written write d) first next all.1 in ((all.0, rest.0), rest.1)

pub each_permitted : EachIsPermitted
each_permitted d [] all k write here = absurd (none-some write here)
each_permitted d (first ∷ writes) all zero write here = subst (λ (w : DiskWrite). Permitted d w) (same_Some first write here) all.0
each_permitted d (first ∷ writes) all (suc k) write here = each_permitted (written first d) writes all.1 k write here

pub by_each : PermittedByEach
by_each d [] each = tt
by_each d (first ∷ writes) each = (each 0 first refl, by_each (written first d) writes (λ k write here. each (suc k) write here))

pub crash_states_are_sectors : CrashStatesAreSectors
crash_states_are_sectors d writes zero are form = are
crash_states_are_sectors d [] (suc k) are form = are
crash_states_are_sectors d (first ∷ writes) (suc k) are form = crash_states_are_sectors (written first d) writes k (sectors_stay d first are (form 0 first refl)) (λ j write here. form (suc j) write here)

pub later_same : (a b : DiskState) → RevealsSame a b → LawfullyLater a b
later_same a b same = record { by = λ d is. ([], appended_none same, tt) }

pub later_then : (a b c : DiskState) → LawfullyLater a b → LawfullyLater b c → LawfullyLater a c
later_then a b c one more = record {
  by = λ d is.
      let first = one.by d is in
      let next = more.by (after_writes first.0 d) (first.1.contents ∙ ap (option_map (after_writes first.0)) is) in
      (first.0 ++ next.0, appended_then first.0 next.0 first.1 next.1, permitted_append d first.0 next.0 first.2 next.2);
}

pub later_one : (a b : DiskState) (write : DiskWrite) → RevealsWrite write a b → PermittedThere a write → LawfullyLater a b
later_one a b write made permitted = record { by = λ d is. (write ∷ [], appended_one write made, (permitted d is, tt)) }

pub later_reads : (a b : DiskState) → OnlyReads a b → LawfullyLater a b
later_reads a b reads = later_same a b (record { contents = reads.contents; writes = reads.writes })

pub later_writes : (a b : DiskState) (write : DiskWrite) (result : Result (Unit {0}) DiskError) → Writes write a result b → PermittedThere a write → LawfullyLater a b
later_writes a b write (Ok x) call permitted = later_one a b write call.written permitted
later_writes a b write (Err e) call permitted = ⊎_elim (λ (same : RevealsSame a b). later_same a b same) (λ (made : RevealsWrite write a b). later_one a b write made permitted) call.whole_or_absent

pub names_there : (a : DiskState) (sector : ℕ) (wanted : Wanted) (page : List ℕ) → 0 < sector → NamesThere a sector wanted true → PermittedThere a (Page sector wanted page)
names_there a sector wanted page above named d is = either (slice_get d sector) refl (named d is)
  where
    either : (o : Option Sector) → slice_get d sector ≡ o → option_map (λ (s : Sector). names s.0 wanted) o ≡ Some true → IsPageWrite d sector wanted
    either None e h = absurd (none-some true h)
    either (Some s) e h = record { not_root = above; old = (s, e, same_Some (names s.0 wanted) true h) }

pub later_writes_data : (a b : DiskState) (sector : ℕ) (wanted : Wanted) (page : List ℕ) (result : Result (Unit {0}) DiskError) → 0 < sector
    → WritesData sector wanted page a result b → LawfullyLater a b
later_writes_data a b sector wanted page (Ok x) above call = later_one a b (Page sector wanted page) call.written (names_there a sector wanted page above call.named)
later_writes_data a b sector wanted page (Err Failed) above call =
    ⊎_elim (λ (same : RevealsSame a b). later_same a b same)
    (λ (made : RevealsWrite (Page sector wanted page) a b × NamesThere a sector wanted true). later_one a b (Page sector wanted page) made.0 (names_there a sector wanted page above made.1))
    call.whole_or_absent
later_writes_data a b sector wanted page (Err (Wrong found)) above call = later_same a b call.wrong.2

pub later_reveals : (a b : DiskState) (d : List Sector) (earlier : List DiskWrite) → LawfullyLater a b → a.contents ≡ Some d → a.writes ≡ Some earlier → RevealsPermitted d earlier b
later_reveals a b d earlier later contents revealed =
    let since = later.by d contents in
    record {
      more = since.0;
      writes = since.1.revealed ∙ ap (option_map (λ (l : List DiskWrite). l ++ since.0)) revealed;
      contents = since.1.contents ∙ ap (option_map (after_writes since.0)) contents;
      each = each_permitted d since.0 since.2;
    }

pub later_lent : (name : ℕ) (a b : DiskState) → LawfullyLater a b → LawfullyLater (lent_state name a) (lent_state name b)
later_lent name a b later = record { by = λ d is. let since = later.by d is in (since.0, record { contents = since.1.contents; revealed = since.1.revealed }, since.2) }

pub later_given_back : (name : ℕ) (a b : DiskState) → LawfullyLater (lent_state name a) (lent_state name b) → LawfullyLater a b
later_given_back name a b later = record { by = λ d is. let since = later.by d is in (since.0, record { contents = since.1.contents; revealed = since.1.revealed }, since.2) }
