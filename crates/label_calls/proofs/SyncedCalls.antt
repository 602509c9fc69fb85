-- A sync, and one label that is written between two of them.
use Rattle.std.proofs.Common.{◌≡◌, inl, inr, ℕ, suc, ◌+◌, ◌-◌, Bool, true, false, List, [], ◌∷◌, ◌++◌, length, Option, Some, refl, sym, ◌∙◌, ap, subst, arith}
use Rattle.std.specs.Prelude.{Contains, option_map}
use Rattle.std.proofs.lemmas.Bool.{true≢false}
use Rattle.std.proofs.lemmas.List.{length-append}
use Rattle.std.proofs.lemmas.List.Elements.{Contains-get_or, Contains-push}
use Rattle.std.proofs.lemmas.Option.{same_Some, slice_get_within, get_or_from_slice_get}
use Rattle.labelled_disk.specs.declared.disk.DiskWrite.{DiskWrite}
use Rattle.labelled_disk.specs.declared.disk.DiskWrite.TheVariants as write
use Rattle.labelled_disk.specs.declared.label.Label.{Label}
use Rattle.labelled_disk.specs.Calls.{RevealsSame, RevealsWrite}
use Rattle.labelled_disk.specs.CrashState.{written}
use Rattle.labelled_disk.specs.Label.{is_free, is_permanent}
use Rattle.labelled_disk.specs.State.{DiskState}
use Rattle.labelled_disk.specs.Syncing.{last_of, synced_at, synced_by}
use Rattle.labelled_disk.proofs.SyncLemmas.{added}
use Rattle.swapper_kernel.specs.Goes.{Went}
use Rattle.label_calls.specs.Synced.{SyncedThere, SyncsAroundOne}
use Rattle.label_calls.specs.SyncedLaws.{kept_at}

last_contains : (n : ℕ) (syncs : List ℕ) → last_of syncs ≡ Some n → Contains syncs n
last_contains n syncs is =
    let low = slice_get_within syncs (length syncs - 1) n is in
    subst (Contains syncs) (get_or_from_slice_get syncs (length syncs - 1) n 0 is) (Contains-get_or syncs (length syncs - 1) 0 low)

at_contains : (n : ℕ) (syncs : List ℕ) → Contains (synced_at n syncs) n
at_contains n syncs = elim (added n syncs) [
  | inl same ↦ subst (λ (xs : List ℕ). Contains xs n) (sym same.0) (last_contains n syncs same.1)
  | inr more ↦ subst (λ (xs : List ℕ). Contains xs n) (sym more.0) (Contains-push syncs n)
]

-- where a sync was made it is revealed
pub synced_there : (old new : DiskState) → new.syncs ≡ synced_by old.writes old.syncs → SyncedThere old new
synced_there old new made earlier before syncs was had has =
    let is : new.syncs ≡ Some (synced_at (length earlier) before) = made ∙ ap (λ (w : Option (List DiskWrite)). synced_by w old.syncs) was ∙ ap (option_map (synced_at (length earlier))) had in
    subst (λ (xs : List ℕ). Contains xs (length earlier)) (same_Some (synced_at (length earlier) before) syncs (sym is ∙ has)) (at_contains (length earlier) before)

-- a write between two calls that wrote nothing
pub made_between : {w : DiskWrite} {a b c d : DiskState} → RevealsSame a b → RevealsWrite w b c → RevealsSame c d → RevealsWrite w a d
made_between {w = w} before made after = record {
  contents = after.contents ∙ made.contents ∙ ap (option_map (written w)) before.contents;
  writes = after.writes ∙ made.writes ∙ ap (option_map (λ (l : List DiskWrite). l ++ w ∷ [])) before.writes;
}

pub same_between : {a b c : DiskState} → RevealsSame a b → RevealsSame b c → RevealsSame a c
same_between first next = record { contents = next.contents ∙ first.contents; writes = next.writes ∙ first.writes }

-- neither label is that of a permanent file's leader
pub around_none : {failed : Bool} {found label : Label} (a b : DiskState) → is_permanent found ≡ false → is_permanent label ≡ false → SyncsAroundOne failed found label a b
around_none a b was now earlier before syncs is had has = record {
  before = λ of. elim of [ inl goes ↦ absurd (true≢false (sym goes ∙ was)) | inr comes ↦ absurd (true≢false (sym comes ∙ now)) ];
  after = λ goes free. absurd (true≢false (sym goes ∙ was));
}

-- a label that was written between two syncs
pub around_alone : {a b c d : DiskState} (sector : ℕ) (found label : Label) → RevealsSame a b → SyncedThere a b → Went a b → RevealsWrite (write.LabelOnly sector label) b c → Went b c
    → (is_free label ≡ true → SyncedThere c d) → Went c d → SyncsAroundOne false found label a d
around_alone {c = c} {d = d} sector found label same there first made next gone last earlier before syncs was had has =
    let one = first.syncs before had in
    let two = next.syncs one.0 one.1 in
    let n = length earlier in
    let synced = kept_at c d n two.0 syncs last.syncs two.1 has (two.2 n (there earlier before one.0 was had one.1)) in
    let more = earlier ++ write.LabelOnly sector label ∷ [] in
    let now = made.writes ∙ ap (option_map (λ (l : List DiskWrite). l ++ write.LabelOnly sector label ∷ [])) (same.writes ∙ was) in
    let long : length (earlier ++ write.LabelOnly sector label ∷ []) ≡ length earlier + 1 = length-append earlier (write.LabelOnly sector label ∷ []) in
    let place : length (earlier ++ write.LabelOnly sector label ∷ []) ≡ suc (length earlier) = omega (arith, long) in
    record {
      before = λ of. synced;
      after = λ goes free. inl (subst (Contains syncs) place (gone free more two.0 syncs now two.1 has));
    }

-- a label that may have been written after a sync
pub around_stopped : {a b d : DiskState} (found label : Label) → SyncedThere a b → Went a b → Went b d → SyncsAroundOne true found label a d
around_stopped {b = b} {d = d} found label there first last earlier before syncs was had has =
    let one = first.syncs before had in
    record {
      before = λ of. kept_at b d (length earlier) one.0 syncs last.syncs one.1 has (there earlier before one.0 was had one.1);
      after = λ goes free. inr refl;
    }
