-- What stands where the power went in a restoration.
use Rattle.std.proofs.Common.{◌≡◌, ◌⊎◌, inl, inr, ℕ, zero, suc, ◌-◌, false, List, [], ◌∷◌, ◌++◌, length, length-append, take, drop, Option, Some, refl, sym, ◌∙◌, ap, subst, arith}
use Rattle.std.specs.Prelude.{slice_get}
use Rattle.std.specs.List.{AllByRecursion}
use Rattle.std.proofs.lemmas.List.{take_all, take-append-le, drop-append-le, drop_all}
use Rattle.std.proofs.lemmas.Option.{same_Some, none-some}
use Rattle.labelled_disk.specs.declared.disk.DiskWrite.{DiskWrite}
use Rattle.labelled_disk.specs.CrashState.{crash_state, written}
use Rattle.labelled_disk.specs.Label.{root_label}
use Rattle.labelled_disk.specs.Root.{IsRoot, page_in, short_at}
use Rattle.labelled_disk.specs.Sectors.{Sector}
use Rattle.labelled_disk.specs.WriteRuns.{after_writes}
use Rattle.labelled_disk.proofs.WriteRunLemmas.{after_writes-append, crash_state-earlier, crash_state-end}
use Rattle.cut_words.specs.Cut.{IsCut, IsCutSince}
use Rattle.cut_laws.specs.CutLaws.{WindowLaws, between}
use Rattle.cut_laws.specs.Restored.{IsRestoring, RestoredKeepsFiles}
use Rattle.cut_laws.specs.Roots.{FlagLaws, flag_of}
use Rattle.cut_laws.specs.RootWrites.{RootIsWhole}
use Rattle.volume_root.specs.RootPage.{root_bytes, root_write}
use Rattle.scavenger.specs.Orders.{Orders, AreFor, closed, opened, preparing_writes, scavenge_writes}
use Rattle.scavenger.specs.Restored.{IsRestored, Survives}
use Rattle.scavenger.proofs.FreedLemmas.{IsSameVolume}
use Rattle.scavenger.proofs.RestoreLemmas.{Laws, IsOpened, open_disk, open_there, opened_first, same_prep, prep_crash_states, prep_restoring}

-- The laws of cuts that are used.
pub record PowerLaws : Type 0 where
  pub windows : WindowLaws
  pub kept : RestoredKeepsFiles false
  pub flags : FlagLaws
  pub whole : RootIsWhole

each_of : (P : DiskWrite → Type 0) (ws : List DiskWrite) → AllByRecursion P ws → (k : ℕ) (w : DiskWrite) → slice_get ws k ≡ Some w → P w
each_of P [] all k w here = absurd (none-some w here)
each_of P (v ∷ ws) all zero w here = subst P (same_Some v w here) all.0
each_of P (v ∷ ws) all (suc k) w here = each_of P ws all.1 k w here

take_first : (xs ys : List DiskWrite) → take (length xs) (xs ++ ys) ≡ xs
take_first xs ys = take-append-le (length xs) xs ys (omega arith) ∙ take_all (length xs) xs (omega arith)

drop_first : (xs ys : List DiskWrite) → drop (length xs) (xs ++ ys) ≡ ys
drop_first xs ys = drop-append-le (length xs) xs ys (omega arith) ∙ ap (λ (l : List DiskWrite). l ++ ys) (drop_all (length xs) xs (omega arith))

module _ (laws : Laws) (power : PowerLaws) (g : List Sector) (o : Orders) (has : IsRoot (length g) (slice_get g 0)) (is_for : AreFor g o)
    (restored : IsRestored g (after_writes (scavenge_writes o) g)) (e : List Sector) where
  abbrev all : List DiskWrite
  all = scavenge_writes o

  abbrev some : List DiskWrite
  some = preparing_writes o

  abbrev last : DiskWrite
  last = root_write (closed o)

  abbrev start : List Sector
  start = open_disk g o has is_for

  is_open : IsOpened g start
  is_open = opened_first g o has is_for

  long : length all ≡ suc (suc (length some))
  long = omega (arith, length-append some (last ∷ []))

  -- before the last write the volume is the one that was opened
  same_volume : (k : ℕ) → IsSameVolume start (crash_state start some k)
  same_volume k = subst (λ (ws : List DiskWrite). IsSameVolume start (crash_state start ws k)) (sym (same_prep laws g start o has is_for is_open)) (prep_crash_states laws g start o has is_for is_open k)

  same_flag : (now : List Sector) → IsSameVolume start now → flag_of now ≡ 0
  same_flag now same = ap (λ (s : Option Sector). short_at (page_in s) 10) same.root ∙ is_open.flag

  not_clean : {P : Type 0} (now : List Sector) → flag_of now ≡ 0 → flag_of now ≡ 1 → P
  not_clean now clear set = absurd (omega (arith, clear, set))

  -- Parts of all writes but the first and the last.
  first_window : IsCut g all 1 (suc (length some)) e → Survives g e
  first_window cut =
      let part : IsCutSince start some e =
      subst (λ (ws : List DiskWrite). IsCutSince start ws e) (take_first some (last ∷ [])) (power.windows.cut g all 1 (suc (length some)) e (omega arith) cut) in
      let restoring : AllByRecursion (IsRestoring false start) some =
      subst (λ (ws : List DiskWrite). AllByRecursion (IsRestoring false start) ws) (sym (same_prep laws g start o has is_for is_open)) (prep_restoring laws g start o has is_for is_open) in
      let flag = (power.flags.root start some e part).flag in
      record {
        files = power.kept start some e part (each_of (IsRestoring false start) some restoring) ∙ is_open.files;
        clean = not_clean e (flag.3 ∙ same_flag (crash_state start some flag.0) (same_volume flag.0));
      }

  -- The last write alone.
  abbrev ready : List Sector
  ready = crash_state start some (length some)

  at_ready : crash_state g all (suc (length some)) ≡ ready
  at_ready = crash_state-earlier start some (last ∷ []) (length some) (omega arith)

  at_end : written last ready ≡ after_writes all g
  at_end = ap (λ (d : List Sector). written last d) (crash_state-end start some) ∙ after_writes-append some (last ∷ []) start

  root_there : slice_get ready 0 ≡ Some (root_label, root_bytes (opened o))
  root_there = (same_volume (length some)).root ∙ open_there g o has is_for

  last_window : IsCut g all (suc (length some)) (suc (suc (length some))) e → Survives g e
  last_window cut =
      let tail : between (suc (length some)) (suc (suc (length some))) all ≡ last ∷ [] =
      ap (λ (ws : List DiskWrite). drop (suc (length some)) ws) (take_all (suc (suc (length some))) all (omega (arith, long))) ∙ drop_first some (last ∷ []) in
      let part : IsCutSince ready (last ∷ []) e =
      subst (λ (d : List Sector). IsCutSince d (last ∷ []) e) at_ready
      (subst (λ (ws : List DiskWrite). IsCutSince (crash_state g all (suc (length some))) ws e) tail (power.windows.cut g all (suc (length some)) (suc (suc (length some))) e (omega arith) cut)) in
      elim (power.whole ready (opened o) (closed o) e root_there refl refl part) [
        | inl before ↦ subst (λ (d : List Sector). Survives g d) (sym before) (record {
          files = (same_volume (length some)).files ∙ is_open.files;
          clean = not_clean ready (same_flag ready (same_volume (length some)));
        })
        | inr after ↦ subst (λ (d : List Sector). Survives g d) (sym (after ∙ at_end)) (record { files = restored.files; clean = λ set. restored })
      ]

  pub survives : IsCut g all 1 (length all - 1) e ⊎ IsCut g all (length all - 1) (length all) e → Survives g e
  survives (inl cut) =
      let z : length all - 1 ≡ suc (length some) = omega (arith, long) in
      first_window (subst (λ (k : ℕ). IsCut g all 1 k e) z cut)
  survives (inr cut) =
      let z : length all - 1 ≡ suc (length some) = omega (arith, long) in
      last_window (subst (λ (k : ℕ). IsCut g all (suc (length some)) k e) long (subst (λ (k : ℕ). IsCut g all k (length all) e) z cut))
