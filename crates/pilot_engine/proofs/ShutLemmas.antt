-- What an end has written: the last of its writes alone may set the clean flag.
use Rattle.std.proofs.Common.{◌≡◌, ◌⊎◌, inl, inr, ℕ, zero, suc, ◌+◌, ◌<◌, ◌^◌, List, [], ◌∷◌, ◌++◌, length, Some, refl, sym, ◌∙◌, ap, subst, arith, append_assoc}
use Rattle.std.specs.Prelude.{not, slice_get, option_map}
use Rattle.std.proofs.lemmas.List.Elements.{filter-append}
use Rattle.std.proofs.lemmas.Option.{same_Some, none-some}
use Rattle.labelled_disk.specs.declared.disk.DiskWrite.{DiskWrite}
use Rattle.labelled_disk.specs.declared.disk.DiskWrite.TheVariants as write
use Rattle.labelled_disk.specs.declared.label.Wanted.{Wanted}
use Rattle.labelled_disk.specs.Calls.{Moves, RevealsSame, RevealsWrite}
use Rattle.labelled_disk.specs.Permitted.{Permitted}
use Rattle.labelled_disk.specs.CrashState.{crash_state}
use Rattle.labelled_disk.specs.Root.{IsRoot}
use Rattle.labelled_disk.specs.Runs.{IsWriteInForm}
use Rattle.labelled_disk.specs.Sectors.{Sector}
use Rattle.labelled_disk.specs.State.{DiskState}
use Rattle.labelled_disk.specs.WriteRuns.{after_writes}
use Rattle.labelled_disk.proofs.WriteRunLemmas.{appended_no_more, appended_none, appended_one, appended_then, crash_state-earlier, crash_state-later}
use Rattle.frame_pool.specs.Frames.{Slots}
use Rattle.swapper_kernel.specs.Goes.{IsDirty, Makes, Pages, Went, is_page_write}
use Rattle.swapper_kernel.specs.GoesLaws.{same_syncs, went_then}
use Rattle.session_words.specs.Volume.{volume_page}
use Rattle.volume_root.specs.declared.root.Root.{Root}
use Rattle.volume_root.specs.RootPage.{IsValidRoot, root_bytes, root_write}
use Rattle.labelled_disk.specs.Label.{root_label}
use Rattle.volume_root.proofs.WrittenLemmas.{is_root}
use Rattle.file_manager.proofs.RootForm.{root_in_form}
use Rattle.running_words.specs.Session.{AreOpen, Wrote, WroteIn}
use Rattle.running_words.proofs.FlagLemmas.{append_open, open_writes}
use Rattle.pilot_engine.specs.Closing.{ShutLast, WroteAny, WroteOn, closed_root}
use Rattle.pilot_engine.specs.Writing.{EndMay, FreeMay, Written}
use Rattle.pilot_engine.proofs.WroteLemmas.{wrote_nothing}
use Rattle.pilot_engine.proofs.WritingLemmas.{closes_end, frees_end, only_same, only_then}

-- none of the writes of a call sets the clean flag
pub writes_open : {pages : Pages} {a b : DiskState} {s t : Slots} (h : WroteIn pages a s b t) → AreOpen h.makes.wrote.writes
writes_open h = open_writes h.makes.wrote.writes (subst AreOpen (sym h.makes.wrote.labels) h.opens)

pub any_of : (root : Root) {a b : DiskState} {s t : Slots} → Wrote a s b t → Written FreeMay a b → WroteAny root a s b t
any_of root h frees = record { labels = h.labels; makes = h.makes; shut = inl (writes_open h); ends = frees_end root frees }

pub nothing_on : (root : Root) (disk : DiskState) (slots : Slots) → WroteOn root slots disk disk
nothing_on root disk slots =
    let none = wrote_nothing disk slots in
    record { labels = none.labels; went = none.makes.went; wrote = none.makes.wrote; shut = inl (writes_open none); ends = only_same (EndMay root) (record { contents = refl; writes = refl }) }

pub on_of : {root : Root} {a b : DiskState} {s t : Slots} → WroteAny root a s b t → WroteOn root s a b
on_of h = record { labels = h.labels; went = h.makes.went; wrote = h.makes.wrote; shut = h.shut; ends = h.ends }

-- an element of two lists in a row
get_append : {X : Type 0} (xs ys : List X) (k : ℕ) (x : X) → slice_get (xs ++ ys) k ≡ Some x
    → ((k < length xs) × (slice_get xs k ≡ Some x)) ⊎ ((j : ℕ) × (k ≡ length xs + j) × (slice_get ys j ≡ Some x))
get_append [] ys k x is = inr (k, let z : k ≡ 0 + k = omega arith in z, is)
get_append (y ∷ xs) ys zero x is = inl (omega arith, is)
get_append (y ∷ xs) ys (suc k) x is = elim (get_append xs ys k x is) [
  | inl (below, here) ↦ inl (omega arith, here)
  | inr (j, past, here) ↦ inr (j, let z : suc k ≡ suc (length xs) + j = omega arith in z, here)
]

-- calls in a row, with their writes in a row
module _ {run more : List DiskWrite} {a b c : DiskState} {s t u : Slots} (h : Makes volume_page run a s b t) (k : Makes volume_page more b t c u) where
  joined_form : (i : ℕ) (w : DiskWrite) → slice_get (h.wrote.writes ++ k.wrote.writes) i ≡ Some w → IsWriteInForm w
  joined_form i w at = elim (get_append h.wrote.writes k.wrote.writes i w at) [ inl first ↦ h.wrote.form i w first.1 | inr next ↦ k.wrote.form next.0 w next.2 ]

  joined_permitted : (d : List Sector) (i : ℕ) (w : DiskWrite) → a.contents ≡ Some d → slice_get (h.wrote.writes ++ k.wrote.writes) i ≡ Some w → Permitted (crash_state d (h.wrote.writes ++ k.wrote.writes) i) w
  joined_permitted d i w revealed at = elim (get_append h.wrote.writes k.wrote.writes i w at) [
    | inl (below, here) ↦ subst (λ (now : List Sector). Permitted now w) (sym (crash_state-earlier d h.wrote.writes k.wrote.writes i (omega arith))) (h.wrote.permitted d i w revealed here)
    | inr (j, past, here) ↦ subst (λ (now : List Sector). Permitted now w) (sym (ap (crash_state d (h.wrote.writes ++ k.wrote.writes)) past ∙ crash_state-later d h.wrote.writes k.wrote.writes j))
        (k.wrote.permitted (after_writes h.wrote.writes d) j w (h.wrote.appended.contents ∙ ap (option_map (after_writes h.wrote.writes)) revealed) here)
  ]

  joined_dirty : (i sector : ℕ) (wanted : Wanted) (bytes : List ℕ) → slice_get (h.wrote.writes ++ k.wrote.writes) i ≡ Some (write.Page sector wanted bytes) → IsDirty s wanted.id wanted.page ⊎ volume_page wanted.id wanted.page
  joined_dirty i sector wanted bytes at = elim (get_append h.wrote.writes k.wrote.writes i (write.Page sector wanted bytes) at) [
    | inl first ↦ h.wrote.of_dirty i sector wanted bytes first.1
    | inr next ↦ elim (k.wrote.of_dirty next.0 sector wanted bytes next.2) [ inl was ↦ h.dirty wanted.id wanted.page was | inr own ↦ inr own ]
  ]

  abbrev joined : Makes volume_page (run ++ more) a s c u
  joined = record {
    went = went_then h.went k.went;
    dirty = λ id page is. elim (k.dirty id page is) [ inl was ↦ h.dirty id page was | inr own ↦ inr own ];
    wrote = record {
      writes = h.wrote.writes ++ k.wrote.writes;
      appended = appended_then h.wrote.writes k.wrote.writes h.wrote.appended k.wrote.appended;
      form = joined_form;
      permitted = joined_permitted;
      labels = filter-append (λ w. not (is_page_write w)) h.wrote.writes k.wrote.writes ∙ (λ i. h.wrote.labels i ++ k.wrote.labels i);
      of_dirty = joined_dirty;
    };
    count = k.count ∙ h.count;
  }

shut_after : (ws more : List DiskWrite) → AreOpen ws → ShutLast more → ShutLast (ws ++ more)
shut_after ws more opens (inl others) = inl (append_open ws more opens others)
shut_after ws more opens (inr (earlier, root, is, others)) =
    inr (ws ++ earlier, root, ap (λ (l : List DiskWrite). ws ++ l) is ∙ sym (append_assoc ws earlier (root_write (closed_root root) ∷ [])), append_open ws earlier opens others)

-- calls of a session, and then the end of one
pub shut_then : {root : Root} {a b c : DiskState} {s t u : Slots} → Wrote a s b t → Written FreeMay a b → WroteAny root b t c u → WroteAny root a s c u
shut_then {root = root} h frees k = record {
  labels = h.labels ++ k.labels;
  makes = joined h.makes k.makes;
  shut = shut_after h.makes.wrote.writes k.makes.wrote.writes (writes_open h) k.shut;
  ends = only_then (frees_end root frees) k.ends;
}

-- an end, and then nothing is written
pub shut_still : {root : Root} {a b c : DiskState} {s t u : Slots} → WroteAny root a s b t → RevealsSame b c → Wrote b t c u → WroteAny root a s c u
shut_still {root = root} h same k = record {
  labels = h.labels;
  makes = record {
    went = went_then h.makes.went k.makes.went;
    dirty = λ id page is. elim (k.makes.dirty id page is) [ inl was ↦ h.makes.dirty id page was | inr own ↦ inr own ];
    wrote = record {
      writes = h.makes.wrote.writes;
      appended = appended_no_more h.makes.wrote.writes h.makes.wrote.appended same;
      form = h.makes.wrote.form;
      permitted = h.makes.wrote.permitted;
      labels = h.makes.wrote.labels;
      of_dirty = h.makes.wrote.of_dirty;
    };
    count = k.makes.count ∙ h.makes.count;
  };
  shut = h.shut;
  ends = only_then h.ends (only_same (EndMay root) same);
}

-- the same of a root that stayed
pub any_root_is : {root now : Root} {a b : DiskState} {s t : Slots} → now ≡ root → WroteAny now a s b t → WroteAny root a s b t
any_root_is {a = a} {b = b} {s = s} {t = t} same wrote = subst (λ (r : Root). WroteAny r a s b t) same wrote

-- The root of the closed volume is written, and nothing else.
module _ (old new : DiskState) (slots : Slots) (n : ℕ) (root : Root) (valid : IsValidRoot n (closed_root root)) (serial : root.serial < 2 ^ 32) (counter : root.counter < 2 ^ 32)
    (whole : (d : List Sector) → old.contents ≡ Some d → length d ≡ n) (moves : Moves old new) where
  went : Went old new
  went = record { sectors = moves.sectors; lent = moves.lent; syncs = same_syncs old new moves.syncs; faults = moves.faults; transfers = moves.transfers.later }

  form : (k : ℕ) (w : DiskWrite) → slice_get (root_write (closed_root root) ∷ []) k ≡ Some w → IsWriteInForm w
  form zero w here = subst IsWriteInForm (same_Some (root_write (closed_root root)) w here) (root_in_form (closed_root root))
  form (suc k) w here = absurd (none-some w here)

  permitted : (d : List Sector) (k : ℕ) (w : DiskWrite) → old.contents ≡ Some d → slice_get (root_write (closed_root root) ∷ []) k ≡ Some w → Permitted (crash_state d (root_write (closed_root root) ∷ []) k) w
  permitted d zero w revealed here = subst (Permitted d) (same_Some (root_write (closed_root root)) w here) (inl (record {
    place = refl;
    root_label = refl;
    valid = subst (λ (m : ℕ). IsRoot m (Some (root_label, root_bytes (closed_root root)))) (sym (whole d revealed)) (is_root n (closed_root root) valid serial counter);
  }))
  permitted d (suc k) w revealed here = absurd (none-some w here)

  of_none : (k sector : ℕ) (wanted : Wanted) (bytes : List ℕ) → slice_get (root_write (closed_root root) ∷ []) k ≡ Some (write.Page sector wanted bytes) → IsDirty slots wanted.id wanted.page ⊎ volume_page wanted.id wanted.page
  of_none zero sector wanted bytes here = absurd (cc here)
  of_none (suc k) sector wanted bytes here = absurd (none-some (write.Page sector wanted bytes) here)

  pub any_root : RevealsSame old new ⊎ RevealsWrite (root_write (closed_root root)) old new → WroteAny root old slots new slots
  any_root (inl same) = record {
    labels = [];
    makes = record {
      went = went;
      dirty = λ id page is. inl is;
      wrote = record {
        writes = [];
        appended = appended_none same;
        form = λ k w here. absurd (none-some w here);
        permitted = λ d k w revealed here. absurd (none-some w here);
        labels = refl;
        of_dirty = λ k sector wanted bytes here. absurd (none-some (write.Page sector wanted bytes) here);
      };
      count = refl;
    };
    shut = inl tt;
    ends = closes_end root serial counter (inl same);
  }
  any_root (inr made) = record {
    labels = root_write (closed_root root) ∷ [];
    makes = record {
      went = went;
      dirty = λ id page is. inl is;
      wrote = record {
        writes = root_write (closed_root root) ∷ [];
        appended = appended_one (root_write (closed_root root)) made;
        form = form;
        permitted = permitted;
        labels = refl;
        of_dirty = of_none;
      };
      count = refl;
    };
    shut = inr ([], root, refl, tt);
    ends = closes_end root serial counter (inr made);
  }
