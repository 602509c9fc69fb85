-- What calls do to one page of the files.
use Rattle.std.proofs.Common.{◌≡◌, ◌≢◌, ◌⊎◌, inl, inr, ℕ, zero, suc, ◌+◌, ◌-◌, ◌/◌, ◌%◌, ◌<◌, Bool, true, false, not, cond, List, [], ◌∷◌, ◌++◌, map, length, take, replicate, Option, Some, None, refl, sym, ◌∙◌, ap, subst, arith}
use Rattle.std.specs.Prelude.{slice_get, option_map, option_and_then, unwrap_or, is_none, find, nat_lt, ◌==◌, if◌then◌else◌}
use Rattle.std.specs.Option.{option_map_or}
use Rattle.std.specs.List.{enumerate_from}
use Rattle.std.specs.Bool.{then_some}
use Rattle.std.proofs.lemmas.Bool.{eqb-true, eqb-false, ltb-true, ltb-false}
use Rattle.std.proofs.lemmas.Bool.Decides.{nat_tests}
use Rattle.labelled_disk.proofs.Finds.{get_set_other}
use Rattle.labelled_disk.proofs.AscendingLemmas.{at_put}
use Rattle.flat_machine.specs.declared.call.Call.TheVariants.{Create, Delete, SetSize, Kill, Store}
use Rattle.flat_machine.specs.declared.call.Refusal.{Refusal}
use Rattle.flat_machine.specs.declared.call.Refusal.TheVariants as why
use Rattle.flat_machine.specs.File.{File, Page, size, file_at, zero_page, any_page}
use Rattle.flat_machine.specs.Space.{Space, FilePage}
use Rattle.flat_machine.specs.Machine.{Machine}
use Rattle.flat_machine.specs.At.{Spot, shown_at, cell_of}
use Rattle.flat_machine.specs.Refusal.{refusal, no_file, first_of, is_immutable, cut_while_mapped, no_room_as}
use Rattle.flat_machine.specs.Next.{next, change, new_id, new_file, change_file, without_file, resized, with_byte, store_byte, store_bytes, killed_file, is_writable_within}
use Rattle.flat_machine.specs.PageLaws.{page_of, CreatedPages, DeletedPages, SizedPages, KilledPages, StoredPages, StoredCells}
use Rattle.flat_machine.proofs.Lists.{looked_up}
use Rattle.flat_machine.proofs.TestLemmas.{four_none, file_there}
use Rattle.flat_machine.proofs.FileLemmas.{look_up_changed, one_id}
use Rattle.flat_machine.proofs.StoreLemmas.{unrefused, left_by_all}

same_id : (id other : ℕ) → id == other ≡ other == id
same_id id other = either (id == other) (other == id) refl refl
  where
    either : (b c : Bool) → id == other ≡ b → other == id ≡ c → b ≡ c
    either true true e f = refl
    either true false e f = absurd (eqb-false other id f (sym (eqb-true id other e)))
    either false true e f = absurd (eqb-false id other e (sym (eqb-true other id f)))
    either false false e f = refl

none_below : (n : ℕ) → nat_lt n 0 ≡ false
none_below n = grind (arith, nat_tests)

zero_below : (n : ℕ) → nat_lt 0 (suc n) ≡ true
zero_below n = grind (arith, nat_tests)

below_more : (a b : ℕ) → nat_lt (suc a) (suc b) ≡ nat_lt a b
below_more a b = either (nat_lt a b) refl (nat_lt (suc a) (suc b)) refl
  where
    either : (c : Bool) → nat_lt a b ≡ c → (d : Bool) → nat_lt (suc a) (suc b) ≡ d → d ≡ c
    either true e true f = refl
    either true e false f = absurd (omega (arith, ltb-true a b e, ltb-false (suc a) (suc b) f))
    either false e true f = absurd (omega (arith, ltb-false a b e, ltb-true (suc a) (suc b) f))
    either false e false f = refl

-- so many pages of one kind
replicated_at : (n page : ℕ) (p : Page) → slice_get (replicate n p) page ≡ (if nat_lt page n then Some p else None)
replicated_at zero page p = ap (λ (b : Bool). if b then Some p else None) (sym (none_below page))
replicated_at (suc n) zero p = ap (λ (b : Bool). if b then Some p else None) (sym (zero_below n))
replicated_at (suc n) (suc page) p = replicated_at n page p ∙ ap (λ (b : Bool). if b then Some p else None) (sym (below_more page n))

pub created_pages : CreatedPages
created_pages m pages kind id page e =
    ap (λ (n : Machine). page_of n.files id page) (unrefused m (Create pages kind) e)
    ∙ ap (λ (o : Option File). option_and_then (λ f. slice_get f.pages page) o) (at_put (new_file m pages kind) m.files id)
    ∙ either (new_id m == id)
  where
    either : (b : Bool) → option_and_then (λ (f : File). slice_get f.pages page) (cond b (Some (new_file m pages kind)) (file_at m.files id))
        ≡ (if b then (if nat_lt page pages then Some zero_page else None) else page_of m.files id page)
    either true = replicated_at pages page zero_page
    either false = refl

-- the files but one, by look-up
at_without : (id : ℕ) (fs : List File) (j : ℕ) → file_at (without_file id fs) j ≡ (if j == id then None else file_at fs j)
at_without id [] j = either (j == id)
  where
    either : (b : Bool) → ◌≡◌ {A = Option File} None (if b then None else None)
    either true = refl
    either false = refl
at_without id (f ∷ fs) j = either (f.id == id) refl (f.id == j) refl (j == id) refl (at_without id fs j)
  where
    either : (b : Bool) → f.id == id ≡ b → (c : Bool) → f.id == j ≡ c → (d : Bool) → j == id ≡ d
        → file_at (without_file id fs) j ≡ (if d then None else file_at fs j)
        → find (λ g. g.id == j) (cond (not b) (f ∷ without_file id fs) (without_file id fs)) ≡ (if d then None else (if c then Some f else file_at fs j))
    either true e true g true k more = more
    either true e true g false k more = absurd (eqb-false j id k (sym (eqb-true f.id j g) ∙ eqb-true f.id id e))
    either true e false g d k more = either_left d more
      where
        either_left : (d : Bool) → file_at (without_file id fs) j ≡ (if d then None else file_at fs j) → file_at (without_file id fs) j ≡ (if d then None else (if false then Some f else file_at fs j))
        either_left true more = more
        either_left false more = more
    either false e true g true k more = absurd (eqb-false f.id id e (eqb-true f.id j g ∙ eqb-true j id k))
    either false e true g false k more = ap (λ (b : Bool). if b then Some f else file_at (without_file id fs) j) g
    either false e false g true k more = ap (λ (b : Bool). if b then Some f else file_at (without_file id fs) j) g ∙ more
    either false e false g false k more = ap (λ (b : Bool). if b then Some f else file_at (without_file id fs) j) g ∙ more

pub deleted_pages : DeletedPages
deleted_pages m gone id page e =
    ap (λ (n : Machine). page_of n.files id page) (unrefused m (Delete gone) e)
    ∙ ap (λ (o : Option File). option_and_then (λ f. slice_get f.pages page) o) (at_without gone m.files id)
    ∙ either (id == gone)
  where
    either : (b : Bool) → option_and_then (λ (f : File). slice_get f.pages page) (if b then None else file_at m.files id) ≡ (if b then None else page_of m.files id page)
    either true = refl
    either false = refl

-- a page of a file of another size
resized_at : (n : ℕ) (ps : List Page) (page k : ℕ) → k ≡ n - length ps → slice_get (take n ps ++ replicate k zero_page) page
    ≡ (if nat_lt page n then Some (unwrap_or (slice_get ps page) zero_page) else None)
resized_at zero [] page k e =
    let z : k ≡ 0 = omega (arith, e) in
    ap (λ (j : ℕ). slice_get (replicate j zero_page) page) z ∙ replicated_at 0 page zero_page
resized_at zero (p ∷ ps) page k e =
    let z : k ≡ 0 = omega (arith, e) in
    ap (λ (j : ℕ). slice_get (replicate j zero_page) page) z ∙ ap (λ (b : Bool). if b then Some (unwrap_or (slice_get (p ∷ ps) page) zero_page) else None) (sym (none_below page))
resized_at (suc n) [] page k e =
    let z : k ≡ suc n = omega (arith, e) in
    ap (λ (j : ℕ). slice_get (replicate j zero_page) page) z ∙ replicated_at (suc n) page zero_page
resized_at (suc n) (p ∷ ps) zero k e = ap (λ (b : Bool). if b then Some p else None) (sym (zero_below n))
resized_at (suc n) (p ∷ ps) (suc page) k e =
    resized_at n ps page k (omega (arith, e)) ∙ ap (λ (b : Bool). if b then Some (unwrap_or (slice_get ps page) zero_page) else None) (sym (below_more page n))

pub sized_pages : SizedPages
sized_pages m sized pages id page e =
    ap (λ (n : Machine). page_of n.files id page) (unrefused m (SetSize sized pages) e)
    ∙ ap (λ (o : Option File). option_and_then (λ f. slice_get f.pages page) o)
    (look_up_changed (λ f. if f.id == sized then resized pages f else f) (one_id sized (resized pages) (λ f. refl)) m.files id)
    ∙ either (file_at m.files id) refl
  where
    there : (f : File) × (file_at m.files sized ≡ Some f)
    there = let r = file_there m sized (four_none (no_file m sized) (is_immutable m sized) (cut_while_mapped m sized pages) (no_room_as m sized pages) e).0 in (r.0, r.1)

    by : (f : File) (b : Bool) → slice_get (if b then resized pages f else f).pages page
        ≡ (if b then (if nat_lt page pages then Some (unwrap_or (slice_get f.pages page) zero_page) else None) else slice_get f.pages page)
    by f true = resized_at pages f.pages page (pages - size f) refl
    by f false = refl

    none : file_at m.files id ≡ None → (b : Bool) → id == sized ≡ b
        → ◌≡◌ {A = Option Page} None (if b then (if nat_lt page pages then Some (unwrap_or None zero_page) else None) else None)
    none q true g = absurd (cc (q, there.1, eqb-true id sized g))
    none q false g = refl

    either : (o : Option File) → file_at m.files id ≡ o
        → option_and_then (λ (f : File). slice_get f.pages page) (option_map (λ f. if f.id == sized then resized pages f else f) o)
        ≡ (if id == sized then (if nat_lt page pages then Some (unwrap_or (option_and_then (λ (f : File). slice_get f.pages page) o) zero_page) else None) else option_and_then (λ (f : File). slice_get f.pages page) o)
    either None q = none q (id == sized) refl
    either (Some f) q =
        by f (f.id == sized)
        ∙ ap (λ (n : ℕ). if n == sized then (if nat_lt page pages then Some (unwrap_or (slice_get f.pages page) zero_page) else None) else slice_get f.pages page) (looked_up (λ g. g.id) m.files id f q).1

-- pages that are any
pub any_at : (test : ℕ → Bool) (n : ℕ) (ps : List Page) (page : ℕ) → slice_get (map (λ e. if test e.0 then any_page else e.1) (enumerate_from n ps)) page
    ≡ (if test (n + page) then option_map (λ p. any_page) (slice_get ps page) else slice_get ps page)
any_at test n [] page = either (test (n + page))
  where
    either : (b : Bool) → ◌≡◌ {A = Option Page} None (if b then None else None)
    either true = refl
    either false = refl
any_at test n (p ∷ ps) zero = let z : n + 0 ≡ n = omega arith in either (test n) ∙ ap (λ (k : ℕ). if test k then Some any_page else Some p) (sym z)
  where
    either : (b : Bool) → Some (if b then any_page else p) ≡ (if b then Some any_page else Some p)
    either true = refl
    either false = refl
any_at test n (p ∷ ps) (suc page) =
    let z : n + 1 + page ≡ n + suc page = omega arith in
    any_at test (n + 1) ps page ∙ ap (λ (k : ℕ). if test k then option_map (λ p. any_page) (slice_get ps page) else slice_get ps page) z

pub killed_pages : KilledPages
killed_pages m handle range id page is =
    ap (λ (n : Machine). page_of n.files id page) (unrefused m (Kill handle) free ∙ changed)
    ∙ ap (λ (o : Option File). option_and_then (λ f. slice_get f.pages page) o) (look_up_changed (killed_file m.spaces range) (λ f. refl) m.files id)
    ∙ either (file_at m.files id) refl
  where
    free : refusal m (Kill handle) ≡ None
    free = ap (λ (o : Option Space). first_of (then_some (is_none o) why.Space ∷ [])) is

    changed : change m (Kill handle) ≡ record m { files = map (killed_file m.spaces range) m.files }
    changed = ap (λ (o : Option Space). option_map_or (λ s. record m { files = map (killed_file m.spaces s) m.files }) o m) is

    none : (b : Bool) → ◌≡◌ {A = Option Page} None (if b then option_map (λ (p : Page). any_page) None else None)
    none true = refl
    none false = refl

    either : (o : Option File) → file_at m.files id ≡ o → option_and_then (λ (f : File). slice_get f.pages page) (option_map (killed_file m.spaces range) o)
        ≡ (if is_writable_within m.spaces range (record { file = id; page = page }) then option_map (λ p. any_page) (option_and_then (λ (f : File). slice_get f.pages page) o) else option_and_then (λ (f : File). slice_get f.pages page) o)
    either None q = none (is_writable_within m.spaces range (record { file = id; page = page }))
    either (Some f) q =
        let z : 0 + page ≡ page = omega arith in
        any_at (λ k. is_writable_within m.spaces range (record { file = f.id; page = k })) 0 f.pages page
        ∙ (λ i. if is_writable_within m.spaces range (record { file = (looked_up (λ g. g.id) m.files id f q).1 i; page = z i }) then option_map (λ (p : Page). any_page) (slice_get f.pages page) else slice_get f.pages page)

-- A store.

-- one byte in another page
other_page : (files : List File) (s : Spot) (b id page : ℕ) → ((s.file ≡ id) → (s.page ≡ page) → ⊥) → page_of (change_file s.file (with_byte s b) files) id page ≡ page_of files id page
other_page files s b id page apart =
    ap (λ (o : Option File). option_and_then (λ f. slice_get f.pages page) o)
    (look_up_changed (λ f. if f.id == s.file then with_byte s b f else f) (one_id s.file (with_byte s b) (λ f. refl)) files id)
    ∙ either (file_at files id) refl
  where
    by : (f : File) → f.id ≡ id → (c : Bool) → f.id == s.file ≡ c → slice_get (if c then with_byte s b f else f).pages page ≡ slice_get f.pages page
    by f is true e = get_set_other f.pages s.page page _ (λ q. apart (sym (eqb-true f.id s.file e) ∙ is) (sym q))
    by f is false e = refl

    either : (o : Option File) → file_at files id ≡ o
        → option_and_then (λ (f : File). slice_get f.pages page) (option_map (λ f. if f.id == s.file then with_byte s b f else f) o) ≡ option_and_then (λ (f : File). slice_get f.pages page) o
    either None q = refl
    either (Some f) q = by f (looked_up (λ g. g.id) files id f q).1 (f.id == s.file) refl

module _ (ss : List Space) (id page : ℕ) where
  by_one : (address b : ℕ) (files : List File) → shown_at ss (address / 512) ≢ Some (record { file = id; page = page }) → page_of (store_byte ss address b files) id page ≡ page_of files id page
  by_one address b files n = either (shown_at ss (address / 512)) refl
    where
      either : (o : Option FilePage) → shown_at ss (address / 512) ≡ o
          → page_of (option_map_or (λ s. change_file s.file (with_byte s b) files) (option_map (λ u. record { file = u.file; page = u.page; offset = address % 512 }) o) files) id page ≡ page_of files id page
      either None q = refl
      either (Some u) q = other_page files (record { file = u.file; page = u.page; offset = address % 512 }) b id page (λ e f. n (q ∙ (λ i. Some (record { file = e i; page = f i }))))

  by_all : (bytes : List ℕ) (address : ℕ) (files : List File) → ((k : ℕ) → k < length bytes → shown_at ss ((address + k) / 512) ≢ Some (record { file = id; page = page }))
      → page_of (store_bytes ss address bytes files) id page ≡ page_of files id page
  by_all [] address files apart = refl
  by_all (b ∷ bs) address files apart =
      let z : address + 0 ≡ address = omega arith in
      by_all bs (address + 1) (store_byte ss address b files)
      (λ k l. let y : address + 1 + k ≡ address + suc k = omega arith in subst (λ (n : ℕ). shown_at ss (n / 512) ≢ Some (record { file = id; page = page })) (sym y) (apart (suc k) (omega (arith, l))))
      ∙ by_one address b files (subst (λ (n : ℕ). shown_at ss (n / 512) ≢ Some (record { file = id; page = page })) z (apart 0 (omega arith)))

-- refused or not
stored_files : (m : Machine) (address : ℕ) (bytes : List ℕ) → ((next m (Store address bytes)).files ≡ m.files) ⊎ ((next m (Store address bytes)).files ≡ store_bytes m.spaces address bytes m.files)
stored_files m address bytes = either (refusal m (Store address bytes))
  where
    either : (o : Option Refusal) → ((if is_none o then change m (Store address bytes) else m).files ≡ m.files) ⊎ ((if is_none o then change m (Store address bytes) else m).files ≡ store_bytes m.spaces address bytes m.files)
    either None = inr refl
    either (Some w) = inl refl

pub stored_pages : StoredPages
stored_pages m address bytes id page apart = by (stored_files m address bytes)
  where
    by : ((next m (Store address bytes)).files ≡ m.files) ⊎ ((next m (Store address bytes)).files ≡ store_bytes m.spaces address bytes m.files)
        → page_of (next m (Store address bytes)).files id page ≡ page_of m.files id page
    by (inl e) = ap (λ (fs : List File). page_of fs id page) e
    by (inr e) = ap (λ (fs : List File). page_of fs id page) e ∙ by_all m.spaces id page bytes address m.files apart

pub stored_cells : StoredCells
stored_cells m address bytes spot apart = by (stored_files m address bytes)
  where
    by : ((next m (Store address bytes)).files ≡ m.files) ⊎ ((next m (Store address bytes)).files ≡ store_bytes m.spaces address bytes m.files)
        → cell_of (next m (Store address bytes)).files spot ≡ cell_of m.files spot
    by (inl e) = ap (λ (fs : List File). cell_of fs spot) e
    by (inr e) = ap (λ (fs : List File). cell_of fs spot) e ∙ left_by_all m.spaces bytes address m.files spot apart
