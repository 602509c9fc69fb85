-- The files of a disk, temporary ones among them, stand for those of a machine; and so they do after a change of one.
use Rattle.std.proofs.Common.{◌≡◌, ◌≢◌, inl, inr, ⊎_elim, ℕ, zero, suc, ◌+◌, ◌-◌, ◌<◌, ◌≤◌, Bool, true, false, ◌&&◌, ◌||◌, List, [], ◌∷◌, ◌++◌, map, length, take, replicate, filter, Option, Some, None, refl, sym, ◌∙◌, ap, subst, arith}
use Rattle.std.specs.Prelude.{slice_get, option_map, nat_lt, nat_le, if◌then◌else◌}
use Rattle.std.specs.List.{AllZip, enumerate_from}
use Rattle.std.proofs.lemmas.Option.{same_Some, none-some}
use Rattle.std.proofs.lemmas.Bool.{cases_eq, true≢false, false≢true, cases_lt}
use Rattle.std.proofs.lemmas.List.{length-map}
use Rattle.labelled_disk.specs.Sectors.{Sector, AreSectors}
use Rattle.labelled_disk.specs.File.{File, Page, byte, any_page, zero_page, file_at, size}
use Rattle.labelled_disk.specs.FilesOn.{disk_file, files_on}
use Rattle.labelled_disk.specs.Right.{FilesRight}
use Rattle.labelled_disk.specs.Ascending.{AreAscending, BothBy}
use Rattle.labelled_disk.specs.Root.{LabelsRight}
use Rattle.labelled_disk.specs.Runs.{lengthened, shortened}
use Rattle.labelled_disk.specs.WriteLaws.{Changed}
use Rattle.labelled_disk.proofs.AscendingLemmas.{zip_by_look_up, at_id}
use Rattle.labelled_disk.proofs.WriteLemmas as laws
use Rattle.flat_machine.specs.declared.space.FilePage.{FilePage}
use Rattle.flat_machine.specs.Machine.{Machine}
use Rattle.flat_machine.specs.Next.{with_any}
use Rattle.flat_machine.specs.Settled.{FileAgrees, PageAgrees, CellAgrees, Agrees, is_unforced, settled, settled_file}
use Rattle.flat_machine.proofs.FileLemmas.{look_up_changed}
use Rattle.flat_machine.proofs.Lists.{ascending_map}
use Rattle.label_laws.specs.AllPermanent.{if_permanent}
use Rattle.label_laws.proofs.PermanentLemmas.{at_permanents, ascending_permanents, one}
use Rattle.swapper_kernel.specs.Differs.{Differs}
use Rattle.session_words.specs.Parts.{Shape, is_loose_at}
use Rattle.session_words.specs.StandsFor.{IsSettled, RevealsSettled}
use Rattle.session_words.specs.StopLaws.{AreAnyWhereUnforced}
use Rattle.session_words.proofs.CellLemmas.{any_agrees, page_with_any}
use Rattle.session_words.proofs.GrowLemmas.{get_longer}
use Rattle.session_words.proofs.SettledLemmas.{Reveals, both}
use Rattle.session_words.proofs.SameLabelLemmas.{zip_by_place, zip_at, zip_long}
use Rattle.session_words.proofs.StopLemmas.{loose_agree, loose_right}

-- a file of a disk agrees with a machine's, once that is settled, and is as permanent
pub record Stands (unforced : List FilePage) (g f : File) : Type 0 where
  pub agrees : FileAgrees g (settled_file unforced f)
  pub as_permanent : g.permanent ≡ f.permanent

-- a page where some are any
get_with_any : (test : ℕ → Bool) (ps : List Page) (k : ℕ) (p : Page) → slice_get ps k ≡ Some p → slice_get (with_any test ps) k ≡ Some (if test k then any_page else p)
get_with_any test ps k p at = from 0 ps k at ∙ (let z : 0 + k ≡ k = omega arith in ap (λ (i : ℕ). Some (if test i then any_page else p)) z)
  where
    from : (n : ℕ) (ps : List Page) (k : ℕ) → slice_get ps k ≡ Some p → slice_get (map (λ e. if test e.0 then any_page else e.1) (enumerate_from n ps)) k ≡ Some (if test (n + k) then any_page else p)
    from n [] k at = absurd (none-some p at)
    from n (q ∷ ps) zero at = let z : n ≡ n + 0 = omega arith in ap (λ (x : Page). Some (if test n then any_page else x)) (same_Some q p at) ∙ ap (λ (i : ℕ). Some (if test i then any_page else p)) z
    from n (q ∷ ps) (suc k) at = let z : n + 1 + k ≡ n + suc k = omega arith in from (n + 1) ps k at ∙ ap (λ (i : ℕ). Some (if test i then any_page else p)) z

with_any_long : (test : ℕ → Bool) (ps : List Page) → length (with_any test ps) ≡ length ps
with_any_long test ps = from 0 ps
  where
    from : (n : ℕ) (ps : List Page) → length (map (λ e. if test e.0 then any_page else e.1) (enumerate_from n ps)) ≡ length ps
    from n [] = refl
    from n (q ∷ ps) = ap suc (from (n + 1) ps)

-- pages agree, one by one, where the second are any in some
pages_by_place : (test : ℕ → Bool) (ps qs : List Page) → length ps ≡ length qs → ((k : ℕ) (p q : Page) → slice_get ps k ≡ Some p → slice_get qs k ≡ Some q → PageAgrees p (if test k then any_page else q))
    → AllZip PageAgrees ps (with_any test qs)
pages_by_place test ps qs long each =
    zip_by_place PageAgrees ps (with_any test qs) (long ∙ sym (with_any_long test qs))
    (λ k p q at bt. let was = page_with_any test qs k q bt in subst (PageAgrees p) (sym was.2) (each k p was.0 at was.1))

by_place : (test : ℕ → Bool) (ps qs : List Page) → AllZip PageAgrees ps (with_any test qs) → (k : ℕ) (p q : Page) → slice_get ps k ≡ Some p → slice_get qs k ≡ Some q → PageAgrees p (if test k then any_page else q)
by_place test ps qs all k p q at bt = zip_at PageAgrees ps (with_any test qs) all k p (if test k then any_page else q) at (get_with_any test qs k q bt)

zero_agrees : (b : Bool) → PageAgrees zero_page (if b then any_page else zero_page)
unfolding zero_page any_page
zero_agrees true = any_agrees zero_page refl
zero_agrees false = same 512
  where
    same : (n : ℕ) → AllZip CellAgrees (replicate n (byte 0)) (replicate n (byte 0))
    same zero = tt
    same (suc n) = (refl, same n)

module _ (unforced : List FilePage) where
  stand_size : (g f : File) → Stands unforced g f → size g ≡ size f
  stand_size g f h = zip_long PageAgrees g.pages (with_any (is_unforced unforced f.id) f.pages) h.agrees.pages_agree ∙ with_any_long (is_unforced unforced f.id) f.pages

  get_below_take : (n : ℕ) (ps : List Page) (k : ℕ) (p : Page) → slice_get (take n ps) k ≡ Some p → slice_get ps k ≡ Some p
  get_below_take zero ps k p at = absurd (none-some p at)
  get_below_take (suc n) [] k p at = absurd (none-some p at)
  get_below_take (suc n) (q ∷ ps) zero p at = at
  get_below_take (suc n) (q ∷ ps) (suc k) p at = get_below_take n ps k p at

  long_take : (n : ℕ) (ps qs : List Page) → length ps ≡ length qs → length (take n ps) ≡ length (take n qs)
  long_take zero ps qs long = refl
  long_take (suc n) [] [] long = refl
  long_take (suc n) [] (q ∷ qs) long = absurd (omega arith)
  long_take (suc n) (p ∷ ps) [] long = absurd (omega arith)
  long_take (suc n) (p ∷ ps) (q ∷ qs) long = ap suc (long_take n ps qs (omega arith))

  long_append : (ps qs rest : List Page) → length ps ≡ length qs → length (ps ++ rest) ≡ length (qs ++ rest)
  long_append [] [] rest long = refl
  long_append [] (q ∷ qs) rest long = absurd (omega arith)
  long_append (p ∷ ps) [] rest long = absurd (omega arith)
  long_append (p ∷ ps) (q ∷ qs) rest long = ap suc (long_append ps qs rest (omega arith))

  pub lengthened_stands : (n : ℕ) (g f : File) → Stands unforced g f → Stands unforced (lengthened n g) (lengthened n f)
  lengthened_stands n g f h = record {
    agrees = record {
      same_id = h.agrees.same_id;
      same_kind = h.agrees.same_kind;
      same_immutable = h.agrees.same_immutable;
      pages_agree = pages_by_place (is_unforced unforced f.id) (g.pages ++ replicate n zero_page) (f.pages ++ replicate n zero_page) (long_append g.pages f.pages (replicate n zero_page) (stand_size g f h))
          (λ k p q at bt. either k p q at bt);
    };
    as_permanent = h.as_permanent;
  }
    where
      at_end : (ps : List Page) (k : ℕ) (p : Page) → length ps ≤ k → slice_get (ps ++ replicate n zero_page) k ≡ Some p → p ≡ zero_page
      at_end ps k p high at = elim (get_longer ps n k p at) [ inl (below, here) ↦ absurd (omega (arith, below, high)) | inr zeros ↦ zeros ]

      below_end : (ps : List Page) (k : ℕ) (p : Page) → k < length ps → slice_get (ps ++ replicate n zero_page) k ≡ Some p → slice_get ps k ≡ Some p
      below_end [] k p low at = absurd (omega arith)
      below_end (q ∷ ps) zero p low at = at
      below_end (q ∷ ps) (suc k) p low at = below_end ps k p (omega arith) at

      either : (k : ℕ) (p q : Page) → slice_get (g.pages ++ replicate n zero_page) k ≡ Some p → slice_get (f.pages ++ replicate n zero_page) k ≡ Some q
          → PageAgrees p (if is_unforced unforced f.id k then any_page else q)
      either k p q at bt = ⊎_elim
          (λ (low : k < size f).
          by_place (is_unforced unforced f.id) g.pages f.pages h.agrees.pages_agree k p q
          (below_end g.pages k p (let s = stand_size g f h in omega (arith, s, low)) at) (below_end f.pages k q low bt))
          (λ (high : size f ≤ k).
          subst (λ (x : Page). PageAgrees x (if is_unforced unforced f.id k then any_page else q)) (sym (at_end g.pages k p (let s = stand_size g f h in omega (arith, s, high)) at))
          (subst (λ (x : Page). PageAgrees zero_page (if is_unforced unforced f.id k then any_page else x)) (sym (at_end f.pages k q high bt)) (zero_agrees (is_unforced unforced f.id k))))
          (cases_lt k (size f))

  pub shortened_stands : (n : ℕ) (g f : File) → Stands unforced g f → Stands unforced (shortened n g) (shortened n f)
  shortened_stands n g f h =
      let sizes = stand_size g f h in
      let same : size g - n ≡ size f - n = omega (arith, sizes) in
      record {
        agrees = record {
          same_id = h.agrees.same_id;
          same_kind = h.agrees.same_kind;
          same_immutable = h.agrees.same_immutable;
          pages_agree = pages_by_place (is_unforced unforced f.id) (take (size g - n) g.pages) (take (size f - n) f.pages)
              (long_take (size g - n) g.pages f.pages sizes ∙ ap (λ (i : ℕ). length (take i f.pages)) same)
              (λ k p q at bt. by_place (is_unforced unforced f.id) g.pages f.pages h.agrees.pages_agree k p q (get_below_take (size g - n) g.pages k p at) (get_below_take (size f - n) f.pages k q bt));
        };
        as_permanent = h.as_permanent;
      }

  pub permanent_stands : (g f : File) → Stands unforced g f → Stands unforced (record g { permanent = true }) (record f { permanent = true })
  permanent_stands g f h = record {
    agrees = record { same_id = h.agrees.same_id; same_kind = h.agrees.same_kind; same_immutable = h.agrees.same_immutable; pages_agree = h.agrees.pages_agree };
    as_permanent = refl;
  }

  pub immutable_stands : (g f : File) → Stands unforced g f → Stands unforced (record g { immutable = true }) (record f { immutable = true })
  immutable_stands g f h = record {
    agrees = record { same_id = h.agrees.same_id; same_kind = h.agrees.same_kind; same_immutable = refl; pages_agree = h.agrees.pages_agree };
    as_permanent = h.as_permanent;
  }

  -- each file of the disk stands for that of the machine
  abbrev pub AllStand : List Sector → List File → Type 0
  AllStand d files = (id : ℕ) → BothBy (Stands unforced) (disk_file true d id) (file_at files id)

  -- after a change of one file
  pub changed_stand : (serial counter : ℕ) (d e : List Sector) (files later : List File) (id : ℕ) (now : Option File) → AllStand d files → Changed true serial counter d e id now
      → ((other : ℕ) → other ≢ id → file_at later other ≡ file_at files other) → BothBy (Stands unforced) now (file_at later id) → AllStand e later
  changed_stand serial counter d e files later id now all change others here i = ⊎_elim
      (λ (q : i ≡ id). subst (λ (n : ℕ). BothBy (Stands unforced) (disk_file true e n) (file_at later n)) (sym q) (subst (λ (o : Option File). BothBy (Stands unforced) o (file_at later id)) (sym change.file) here))
      (λ (q : i ≢ id). subst (λ (o : Option File). BothBy (Stands unforced) o (file_at later i)) (sym (change.others i q))
      (subst (λ (o : Option File). BothBy (Stands unforced) (disk_file true d i) o) (sym (others i q)) (all i)))
      (cases_eq i id)

  -- the permanent ones agree with the settled ones
  permanent_both : (o p : Option File) → BothBy (Stands unforced) o p → BothBy FileAgrees (if_permanent o) (option_map (settled_file unforced) (if_permanent p))
  permanent_both None None h = tt
  permanent_both None (Some f) h = absurd h
  permanent_both (Some g) None h = absurd h
  permanent_both (Some g) (Some f) h = by g.permanent f.permanent h.as_permanent
    where
      by : (a b : Bool) → a ≡ b → BothBy FileAgrees (if a then Some g else None) (option_map (settled_file unforced) (if b then Some f else None))
      by true true e = h.agrees
      by true false e = absurd (true≢false e)
      by false true e = absurd (false≢true e)
      by false false e = tt

  settled_at_id : (files : List File) → AreAscending files → (id : ℕ) → file_at (map (settled_file unforced) (filter (λ f. f.permanent) files)) id ≡ option_map (settled_file unforced) (if_permanent (file_at files id))
  settled_at_id files rise id = look_up_changed (settled_file unforced) (λ f. refl) (filter (λ f. f.permanent) files) id ∙ ap (option_map (settled_file unforced)) (at_permanents files rise id)

  pub settled_ascending : (files : List File) → AreAscending files → AreAscending (map (settled_file unforced) (filter (λ f. f.permanent) files))
  settled_ascending files rise = ascending_map (λ f. f.id) (settled_file unforced) (λ f. refl) (filter (λ f. f.permanent) files) (ascending_permanents files rise)

  pub all_agree : (serial counter : ℕ) (e : List Sector) (files : List File) → FilesRight true serial counter e → AreAscending files → AllStand e files
      → Agrees (files_on e) (map (settled_file unforced) (filter (λ f. f.permanent) files))
  all_agree serial counter e files right rise all =
      zip_by_look_up FileAgrees (λ f g a. a.same_id) (files_on e) (map (settled_file unforced) (filter (λ f. f.permanent) files)) (laws.files_on_rise false 0 0 e) (settled_ascending files rise)
      (λ id. subst (λ (o : Option File). BothBy FileAgrees o (file_at (map (settled_file unforced) (filter (λ f. f.permanent) files)) id)) (sym (laws.look_up false 0 0 e id ∙ one serial counter e right id))
      (subst (λ (o : Option File). BothBy FileAgrees (if_permanent (disk_file true e id)) o) (sym (settled_at_id files rise id)) (permanent_both (disk_file true e id) (file_at files id) (all id))))

  -- the settled files are any where they are unforced
  pub settled_any : (files : List File) → AreAscending files → ((id : ℕ) (f : File) → file_at files id ≡ Some f → 16 ≤ id) → AreAnyWhereUnforced unforced (map (settled_file unforced) (filter (λ f. f.permanent) files))
  settled_any files rise high id k g q at here loose = either (file_at files id) refl (sym (settled_at_id files rise id) ∙ at)
    where
      unforced_page : 16 ≤ id → is_unforced unforced id k ≡ true
      unforced_page above = by (nat_lt id 4) (let a : nat_lt id 4 ≡ false = grind arith in a) (nat_le 16 id) loose
        where
          by : (a : Bool) → a ≡ false → (b : Bool) → (a || (b && is_unforced unforced id k)) ≡ true → is_unforced unforced id k ≡ true
          by true e b h = absurd (true≢false e)
          by false e true h = h
          by false e false h = absurd (false≢true h)

      of : (f : File) → file_at files id ≡ Some f → (b : Bool) → option_map (settled_file unforced) (if b then Some f else None) ≡ Some g → q ≡ any_page
      of f e false is = absurd (none-some g is)
      of f e true is =
          let same : settled_file unforced f ≡ g = same_Some (settled_file unforced f) g is in
          let page = page_with_any (is_unforced unforced f.id) f.pages k q (ap (λ (w : File). slice_get w.pages k) same ∙ here) in
          page.2 ∙ ap (λ (b : Bool). if b then any_page else page.0) (ap (λ (n : ℕ). is_unforced unforced n k) (at_id files id f e) ∙ unforced_page (high id f e))

      either : (o : Option File) → file_at files id ≡ o → option_map (settled_file unforced) (if_permanent o) ≡ Some g → q ≡ any_page
      either None e is = absurd (none-some g is)
      either (Some f) e is = of f e f.permanent is

-- a settled disk
pub settled_stand : (d : List Sector) (m : Machine) → IsSettled d m → AllStand m.unforced d m.files
settled_stand d m h id = by (disk_file true d id) (file_at m.files id) (both d m h id)
  where
    stand : (g f : File) → Reveals d m h g f → Stands m.unforced g f
    stand g f t = record {
      agrees = record {
        same_id = t.same_id;
        same_kind = ap (λ (s : Shape). s.kind) t.same_shape;
        same_immutable = ap (λ (s : Shape). s.immutable) t.same_shape;
        pages_agree = pages_by_place (is_unforced m.unforced f.id) g.pages f.pages (ap (λ (s : Shape). s.size) t.same_shape)
            (λ k p q at bt. page k p q at bt (is_unforced m.unforced f.id k) refl);
      };
      as_permanent = ap (λ (s : Shape). s.permanent) t.same_shape;
    }
      where
        page : (k : ℕ) (p q : Page) → slice_get g.pages k ≡ Some p → slice_get f.pages k ≡ Some q → (b : Bool) → is_unforced m.unforced f.id k ≡ b → PageAgrees p (if b then any_page else q)
        page k p q at bt true e =
            let x = t.pages k p at in
            any_agrees p (ap (λ (c : Page). length c) x.bytes ∙ length-map x.s.1 byte ∙ (h.sectors x.place x.s x.there.here).whole_page)
        page k p q at bt false e =
            let x = t.pages k p at in
            subst (λ (c : Page). PageAgrees c q) (sym x.bytes)
            (h.cells.agrees x.place x.s f q x.there (ap (file_at m.files) x.same_id ∙ t.machine_file) (ap (slice_get f.pages) x.same_page ∙ bt)
            ((λ i. is_unforced m.unforced (x.same_id i) (x.same_page i)) ∙ e))

    by : (o p : Option File) → BothBy (Reveals d m h) o p → BothBy (Stands m.unforced) o p
    by None None b = tt
    by None (Some f) b = absurd b
    by (Some g) None b = absurd b
    by (Some g) (Some f) b = stand g f b

-- a disk whose files stand for those of a machine, but for loose pages
pub revealed_but_loose : (serial counter : ℕ) (e now : List Sector) (m : Machine) → FilesRight true serial counter e → LabelsRight e → AreAscending m.files → ((id : ℕ) (f : File) → file_at m.files id ≡ Some f → 16 ≤ id)
    → AllStand m.unforced e m.files → Differs (is_loose_at m.unforced) e now → AreSectors now → RevealsSettled now m
revealed_but_loose serial counter e now m right labels rise high all differs are = record {
  agrees = loose_agree m.unforced e now (settled m) differs are (settled_ascending m.unforced m.files rise) (settled_any m.unforced m.files rise high) (all_agree m.unforced serial counter e m.files right rise all);
  right = loose_right m.unforced e now differs labels;
}
