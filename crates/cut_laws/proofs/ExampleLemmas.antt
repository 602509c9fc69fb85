-- Disks that are written out.
use Rattle.std.proofs.Common.{◌≡◌, inl, inr, ℕ, zero, suc, ◌*◌, ◌≤◌, List, [], ◌∷◌, ◌++◌, length, take, replicate, Some, refl, sym, ◌∙◌, ap, subst, arith, ◌⊎◌, ◌<◌, true, false}
use Rattle.std.specs.Prelude.{slice_get, slice_index}
use Rattle.std.proofs.lemmas.List.{drop_all}
use Rattle.std.proofs.lemmas.Bool.{true≢false}
use Rattle.std.proofs.lemmas.Option.{same_Some, none-some}
use Rattle.labelled_disk.specs.declared.disk.DiskWrite.{DiskWrite}
use Rattle.labelled_disk.specs.declared.disk.DiskWrite.TheVariants as kind
use Rattle.labelled_disk.specs.FilesOn.{is_of, pages_from}
use Rattle.label_laws.specs.Mixed.{gives_label}
use Rattle.cut_laws.specs.ResizeLaws.{IsResized}
use Rattle.cut_laws.specs.ShapeLaws.{IsWholeOn}
use Rattle.cut_laws.proofs.OwnRunLemmas.{own_run_laws}
use Rattle.labelled_disk.specs.Label.{leader_page, root_label, page_label}
use Rattle.labelled_disk.specs.Layout.{data_sectors, first_data}
use Rattle.labelled_disk.specs.CrashState.{crash_state}
use Rattle.labelled_disk.specs.Runs.{growth, sector_of, zero_bytes}
use Rattle.labelled_disk.specs.Sectors.{Sector, free_label}
use Rattle.label_laws.specs.PermittedRuns.{ArePermitted}
use Rattle.cut_laws.specs.Cut.{unit, AtSome, HasLabelAt, HasUnitAt, IsCutSince}
use Rattle.cut_laws.specs.Example.{ExampleCuts, ForeignBytes, UnitIsWhole, closed_root, given_on, mixed_up, one_file, open_root, torn_root, two_files}

-- after the last unit there is none
past_end : (u : ℕ) (page : List ℕ) → length page ≤ 16 * u → unit u page ≡ []
past_end u page long = ap (λ (l : List ℕ). take 16 l) (drop_all (16 * u) page long)

root_cut : IsCutSince ((root_label, open_root) ∷ []) (kind.Whole 0 root_label closed_root ∷ []) ((root_label, torn_root) ∷ [])
root_cut = record { sectors = refl; labels = label; units = part }
  where
    label : (i : ℕ) (t : Sector) → slice_get {X = Sector} ((root_label, torn_root) ∷ []) i ≡ Some t → AtSome 0 1 (λ j. HasLabelAt (crash_state ((root_label, open_root) ∷ []) (kind.Whole 0 root_label closed_root ∷ []) j) i t.0)
    label zero t here = (0, omega arith, omega arith, ((root_label, open_root), refl, ap (λ (v : Sector). v.0) (same_Some (root_label, torn_root) t here)))
    label (suc i) t here = absurd (none-some t here)

    of_torn : (u : ℕ) → AtSome 0 1 (λ j. HasUnitAt (crash_state ((root_label, open_root) ∷ []) (kind.Whole 0 root_label closed_root ∷ []) j) 0 u (unit u torn_root))
    of_torn zero = (1, omega arith, omega arith, ((root_label, closed_root), refl, refl))
    of_torn (suc zero) = (0, omega arith, omega arith, ((root_label, open_root), refl, refl))
    of_torn (suc (suc u)) = (0, omega arith, omega arith, ((root_label, open_root), refl, past_end (suc (suc u)) open_root (omega arith) ∙ sym (past_end (suc (suc u)) torn_root (omega arith))))

    part : (i u : ℕ) (t : Sector) → slice_get {X = Sector} ((root_label, torn_root) ∷ []) i ≡ Some t → AtSome 0 1 (λ j. HasUnitAt (crash_state ((root_label, open_root) ∷ []) (kind.Whole 0 root_label closed_root ∷ []) j) i u (unit u t.1))
    part zero u t here = subst (λ (v : Sector). AtSome 0 1 (λ j. HasUnitAt (crash_state ((root_label, open_root) ∷ []) (kind.Whole 0 root_label closed_root ∷ []) j) 0 u (unit u v.1))) (same_Some (root_label, torn_root) t here) (of_torn u)
    part (suc i) u t here = absurd (none-some t here)

unit_is_whole : UnitIsWhole
unit_is_whole cut = either (cut.units 0 0 (root_label, replicate 8 1 ++ replicate 8 0) refl)
  where
    either : AtSome 0 1 (λ j. HasUnitAt (crash_state ((free_label, replicate 16 0) ∷ []) (kind.Whole 0 root_label (replicate 16 1) ∷ []) j) 0 0 (replicate 8 1 ++ replicate 8 0)) → ⊥
    either some = at some.0 some.2 some.3
      where
        at : (j : ℕ) → j ≤ 1 → HasUnitAt (crash_state ((free_label, replicate 16 0) ∷ []) (kind.Whole 0 root_label (replicate 16 1) ∷ []) j) 0 0 (replicate 8 1 ++ replicate 8 0) → ⊥
        at zero few has = omega (arith, ap (λ (l : List ℕ). slice_index l 0) (ap (λ (v : Sector). unit 0 v.1) (same_Some (free_label, replicate 16 0) has.0 has.1) ∙ has.2))
        at (suc zero) few has = omega (arith, ap (λ (l : List ℕ). slice_index l 15) (ap (λ (v : Sector). unit 0 v.1) (same_Some (root_label, replicate 16 1) has.0 has.1) ∙ has.2))
        at (suc (suc j)) few has = omega (arith, few)

module _ (bytes : List ℕ) where
  permitted : ArePermitted (two_files bytes) given_on
  unfolding first_data zero_bytes
  permitted = (
    record { old = ((page_label 17 0 0, bytes), record { is_data = omega arith; here = refl }, inr (omega arith), inl refl) },
    (inr (record { old = ((free_label, bytes), record { is_data = omega arith; here = refl }, refl); of_file = inr refl; no_flags = refl; zero_page = refl }), tt),
  )

  label : (i : ℕ) (t : Sector) → slice_get (mixed_up bytes) i ≡ Some t → AtSome 0 2 (λ j. HasLabelAt (crash_state (two_files bytes) given_on j) i t.0)
  label zero t here = (0, omega arith, omega arith, (t, here, refl))
  label (suc zero) t here = (0, omega arith, omega arith, (t, here, refl))
  label (suc (suc zero)) t here = (0, omega arith, omega arith, (t, here, refl))
  label (suc (suc (suc zero))) t here = (0, omega arith, omega arith, (t, here, refl))
  label (suc (suc (suc (suc zero)))) t here = (0, omega arith, omega arith, (t, here, refl))
  label (suc (suc (suc (suc (suc zero))))) t here = (0, omega arith, omega arith, (t, here, refl))
  label (suc (suc (suc (suc (suc (suc zero)))))) t here = (2, omega arith, omega arith, ((page_label 16 0 0, zero_bytes), refl, ap (λ (v : Sector). v.0) (same_Some (page_label 16 0 0, bytes) t here)))
  label (suc (suc (suc (suc (suc (suc (suc i))))))) t here = absurd (none-some t here)

  part : (i u : ℕ) (t : Sector) → slice_get (mixed_up bytes) i ≡ Some t → AtSome 0 2 (λ j. HasUnitAt (crash_state (two_files bytes) given_on j) i u (unit u t.1))
  part zero u t here = (0, omega arith, omega arith, (t, here, refl))
  part (suc zero) u t here = (0, omega arith, omega arith, (t, here, refl))
  part (suc (suc zero)) u t here = (0, omega arith, omega arith, (t, here, refl))
  part (suc (suc (suc zero))) u t here = (0, omega arith, omega arith, (t, here, refl))
  part (suc (suc (suc (suc zero)))) u t here = (0, omega arith, omega arith, (t, here, refl))
  part (suc (suc (suc (suc (suc zero))))) u t here = (0, omega arith, omega arith, (t, here, refl))
  part (suc (suc (suc (suc (suc (suc zero)))))) u t here =
      (0, omega arith, omega arith, ((page_label 17 0 0, bytes), refl, ap (λ (v : Sector). unit u v.1) (same_Some (page_label 16 0 0, bytes) t here)))
  part (suc (suc (suc (suc (suc (suc (suc i))))))) u t here = absurd (none-some t here)

  foreign_bytes : ForeignBytes bytes
  unfolding first_data
  foreign_bytes = record { permitted = permitted; cut = record { sectors = refl; labels = label; units = part }; foreign = refl }

-- a file that can be lengthened
grows_permitted : ArePermitted one_file (growth 16 0 0 (5 ∷ []))
unfolding first_data zero_bytes
grows_permitted =
    (inr (record { old = ((free_label, replicate 512 0), record { is_data = omega arith; here = refl }, refl); of_file = inr refl; no_flags = refl; zero_page = refl }), tt)

whole : IsWholeOn one_file 16
unfolding first_data pages_from
whole = (
  record { id = 16; kind = 0; permanent = false; immutable = false; pages = [] },
  refl,
  record {
    no_other = λ i s at of. number i s at of;
    once = λ i j s t at there of also same. first i s at of ∙ sym (first j t there also);
  },
)
  where
    number : (i : ℕ) (s : Sector) → slice_get (data_sectors one_file) i ≡ Some s → is_of 16 s ≡ true → (s.0.page ≡ leader_page) ⊎ (s.0.page < 0)
    number zero s at of = inl (ap (λ (v : Sector). v.0.page) (sym (same_Some (page_label 16 0 leader_page, []) s at)))
    number (suc zero) s at of = absurd (true≢false (sym of ∙ ap (is_of 16) (sym (same_Some (free_label, zero_bytes) s at))))
    number (suc (suc i)) s at of = absurd (none-some s at)

    first : (i : ℕ) (s : Sector) → slice_get (data_sectors one_file) i ≡ Some s → is_of 16 s ≡ true → i ≡ 0
    first zero s at of = refl
    first (suc zero) s at of = absurd (true≢false (sym of ∙ ap (is_of 16) (sym (same_Some (free_label, zero_bytes) s at))))
    first (suc (suc i)) s at of = absurd (none-some s at)

grows_resized : IsResized one_file (growth 16 0 0 (5 ∷ [])) 16
unfolding whole
grows_resized = record {
  whole = whole;
  at_end = (own_run_laws 16).lengthened one_file (growth 16 0 0 (5 ∷ [])) whole 0 (5 ∷ []) grows_permitted (let room : 1 < leader_page = omega arith in room) refl;
  one_label = λ k l write other here of there gives on. only k write here l other there;
  zeros = λ k write s here of at free. zeros k write s here at;
  free_unwritten = λ k write here none. absurd (no_page k write here none);
}
  where
    only : (k : ℕ) (write : DiskWrite) → slice_get (growth 16 0 0 (5 ∷ [])) k ≡ Some write → (l : ℕ) (other : DiskWrite) → slice_get (growth 16 0 0 (5 ∷ [])) l ≡ Some other → l ≡ k
    only zero write here zero other there = refl
    only (suc k) write here l other there = absurd (none-some write here)
    only zero write here (suc l) other there = absurd (none-some other there)

    zeros : (k : ℕ) (write : DiskWrite) (s : Sector) → slice_get (growth 16 0 0 (5 ∷ [])) k ≡ Some write → slice_get one_file (sector_of write) ≡ Some s → s.1 ≡ zero_bytes
    zeros zero write s here at =
        let on : sector_of write ≡ 5 = ap sector_of (sym (same_Some (kind.Whole 5 (page_label 16 0 0) zero_bytes) write here)) in
        ap (λ (v : Sector). v.1) (same_Some s (free_label, zero_bytes) (sym at ∙ ap (λ (n : ℕ). slice_get one_file n) on))
    zeros (suc k) write s here at = absurd (none-some write here)

    no_page : (k : ℕ) (write : DiskWrite) → slice_get (growth 16 0 0 (5 ∷ [])) k ≡ Some write → gives_label write ≡ false → ⊥
    no_page zero write here none = true≢false (ap gives_label (same_Some (kind.Whole 5 (page_label 16 0 0) zero_bytes) write here) ∙ none)
    no_page (suc k) write here none = absurd (none-some write here)

pub example_cuts : ExampleCuts
unfolding first_data
example_cuts = record {
  torn_root = record { cut = root_cut; flag = refl; counter = refl; flag_before = refl; counter_after = refl };
  unit_is_whole = unit_is_whole;
  foreign_bytes = foreign_bytes;
  one_page_more = record { permitted = grows_permitted; resized = grows_resized };
}
