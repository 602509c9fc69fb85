-- A disk with right labels starts a machine.
use Rattle.std.proofs.Common.{◌≡◌, ◌≢◌, inl, inr, ℕ, zero, suc, ◌%◌, ◌^◌, ◌<◌, ◌≤◌, Bool, true, false, ◌&&◌, List, [], ◌∷◌, map, length, drop, Option, Some, None, refl, ◌∙◌, ap, subst, arith, eqb}
use Rattle.std.specs.Prelude.{All, slice_get, slice_index, find, option_map, if◌then◌else◌}
use Rattle.std.specs.List.{AllByRecursion}
use Rattle.std.proofs.lemmas.Option.{same_Some, none-some}
use Rattle.std.proofs.lemmas.List.{length-map}
use Rattle.std.proofs.lemmas.Bool.{and_parts}
use Rattle.labelled_disk.specs.Sectors.{Sector, IsSector, AreSectors}
use Rattle.labelled_disk.specs.Layout.{data_sectors, first_data}
use Rattle.labelled_disk.specs.Label.{is_file, is_permanent, leader_page}
use Rattle.labelled_disk.specs.FilesOn.{leads, file_by, files_by, files_on, is_page, page_at, put_file}
use Rattle.labelled_disk.specs.Right.{IsGiven}
use Rattle.labelled_disk.specs.Root.{page_in, root_page, number_at, serial_of, counter_of}
use Rattle.labelled_disk.proofs.Pages.{pages_all}
use Rattle.labelled_disk.proofs.WriteLemmas.{file_id, files_on_rise}
use Rattle.flat_machine.specs.File.{File, Page, byte}
use Rattle.flat_machine.specs.Machine.{IsFile, IsByteOrAny}
use Rattle.flat_machine.specs.Start.{start, opened}
use Rattle.flat_machine.specs.Laws.{StartIsMachine}
use Rattle.flat_machine.proofs.Lists.{In, all_in, in_all, find_in}
use Rattle.flat_machine.proofs.FileLemmas.{each_put}
use Rattle.flat_machine.proofs.StartLemmas.{opened_is_machine}
use Rattle.flat_machine.proofs.Keep.{join, spaces_of}

-- Lists by index.

at_in : {X : Type 0} (xs : List X) (x : X) → In x xs → (k : ℕ) × (slice_get xs k ≡ Some x)
at_in [] x i = absurd i
at_in (y ∷ ys) x (inl e) = (0, ap Some e)
at_in (y ∷ ys) x (inr i) = let r = at_in ys x i in (suc r.0, r.1)

drop_in : {X : Type 0} (n : ℕ) (xs : List X) (x : X) → In x (drop n xs) → In x xs
drop_in zero xs x i = i
drop_in (suc n) [] x i = i
drop_in (suc n) (y ∷ ys) x i = inr (drop_in n ys x i)

every_by_index : {X : Type 0} (P : X → Type 0) (xs : List X) → All P xs → AllByRecursion P xs
every_by_index P [] h = tt
every_by_index P (x ∷ xs) h = (h 0 x (omega arith), every_by_index P xs (λ k d l. h (suc k) d (omega arith)))

-- Numbers of the root.

every_drop : (P : ℕ → Type 0) (n : ℕ) (xs : List ℕ) → AllByRecursion P xs → AllByRecursion P (drop n xs)
every_drop P zero xs h = h
every_drop P (suc n) [] h = tt
every_drop P (suc n) (x ∷ xs) h = every_drop P n xs h.1

byte_at : (xs : List ℕ) → AllByRecursion (λ b. b < 256) xs → (i : ℕ) → slice_index xs i < 256
byte_at [] h i = omega arith
byte_at (x ∷ xs) h zero = h.0
byte_at (x ∷ xs) h (suc i) = byte_at xs h.1 i

number_fits : (page : List ℕ) (i : ℕ) → AllByRecursion (λ b. b < 256) page → number_at page i < 2 ^ 32
number_fits page i h =
    let at = byte_at (drop i page) (every_drop _ i page h) in
    omega (arith, at 0, at 1, at 2, at 3)

root_bytes : (d : List Sector) → AreSectors d → AllByRecursion (λ b. b < 256) (root_page d)
root_bytes d each = either (slice_get d 0) refl
  where
    either : (o : Option Sector) → slice_get d 0 ≡ o → AllByRecursion (λ b. b < 256) (page_in o)
    either None e = tt
    either (Some s) e = every_by_index _ s.1 (each 0 s e).bytes

-- Files.

-- what holds of the file of each leader holds of all files
each_leader : (P : File → Type 0) (with_temporary : Bool) (all ss : List Sector) → ((s : Sector) → In s ss → leads with_temporary s ≡ true → P (file_by all s.0))
    → AllByRecursion P (files_by with_temporary all ss)
each_leader P with_temporary all [] each = tt
each_leader P with_temporary all (s ∷ ss) each = either (leads with_temporary s) refl (each_leader P with_temporary all ss (λ t i. each t (inr i)))
  where
    either : (b : Bool) → leads with_temporary s ≡ b → AllByRecursion P (files_by with_temporary all ss)
        → AllByRecursion P (if b then put_file (file_by all s.0) (files_by with_temporary all ss) else files_by with_temporary all ss)
    either true e more = each_put P (file_by all s.0) (files_by with_temporary all ss) (each s (inl refl) e) more
    either false e more = more

data_in : (d : List Sector) → AreSectors d → (s : Sector) → In s (data_sectors d) → IsSector s
data_in d each s i = let r = at_in d s (drop_in (first_data (length d)) d s i) in each r.0 s r.1

whole_page : (xs : List Sector) → ((s : Sector) → In s xs → IsSector s) → (id k : ℕ) (p : Page) → page_at xs id k ≡ Some p → (length p ≡ 512) × AllByRecursion IsByteOrAny p
whole_page xs each id k p is = either (find (is_page id k) xs) refl is
  where
    bytes_fit : (bs : List ℕ) → AllByRecursion (λ b. b < 256) bs → AllByRecursion IsByteOrAny (map byte bs)
    bytes_fit [] h = tt
    bytes_fit (b ∷ bs) h = (h.0, bytes_fit bs h.1)

    either : (o : Option Sector) → find (is_page id k) xs ≡ o → option_map (λ s. map byte s.1) o ≡ Some p → (length p ≡ 512) × AllByRecursion IsByteOrAny p
    either None e h = absurd (none-some p h)
    either (Some s) e h =
        let fits = each s (find_in (is_page id k) xs s e).0 in
        subst (λ (q : Page). (length q ≡ 512) × AllByRecursion IsByteOrAny q) (same_Some (map byte s.1) p h)
        (length-map s.1 byte ∙ fits.whole_page, bytes_fit s.1 (every_by_index _ s.1 fits.bytes))

file_facts : (xs : List Sector) → ((s : Sector) → In s xs → IsSector s) → (s : Sector) → In s xs → leads false s ≡ true
    → (16 ≤ s.0.id) × (s.0.id % 2 ^ 32 ≢ 4294967295) × IsFile (file_by xs s.0)
file_facts xs each s i leader =
    let outer = and_parts (is_file s.0 && eqb s.0.page leader_page) (is_permanent s.0) leader in
    let inner = and_parts (is_file s.0) (eqb s.0.page leader_page) outer.0 in
    let ids = file_id s.0 inner.0 in (
      ids.0,
      ids.1,
      record {
        kind_fits = (each s i).kind_fits;
        whole_pages = pages_all (λ p. length p ≡ 512) (page_at xs s.0.id) (λ j p e. (whole_page xs each s.0.id j p e).0) 0 leader_page;
        cells = pages_all (AllByRecursion IsByteOrAny) (page_at xs s.0.id) (λ j p e. (whole_page xs each s.0.id j p e).1) 0 leader_page;
      },
    )

pub start_is_machine : StartIsMachine
start_is_machine d each right =
    let fit = data_in d each in
    let xs = data_sectors d in
    let whole : AllByRecursion IsFile (files_on d) = each_leader IsFile false xs xs (λ s i e. (file_facts xs fit s i e).2) in
    let low : AllByRecursion (λ f. 16 ≤ f.id) (files_on d) = each_leader (λ f. 16 ≤ f.id) false xs xs (λ s i e. (file_facts xs fit s i e).0) in
    let fits : AllByRecursion (λ f. f.id < 2 ^ 64) (files_on d) = each_leader (λ f. f.id < 2 ^ 64) false xs xs (λ s i e. (fit s i).id_fits) in
    let half : AllByRecursion (λ f. f.id % 2 ^ 32 ≢ 4294967295) (files_on d) = each_leader (λ f. f.id % 2 ^ 32 ≢ 4294967295) false xs xs (λ s i e. (file_facts xs fit s i e).1) in
    join (start d)
    (right.has_root.serial, omega (arith, number_fits (root_page d) 16 (root_bytes d each)))
    (right.has_root.counter, omega (arith, number_fits (root_page d) 20 (root_bytes d each)))
    (record {
      rise = files_on_rise false 0 0 d;
      given = in_all _ (files_on d) (λ f i. record {
        above_reserved = all_in _ (files_on d) low f i;
        fits = all_in _ (files_on d) fits f i;
        low_half = all_in _ (files_on d) half f i;
        given_out = all_in (IsGiven (serial_of d) (counter_of d)) (files_on d) right.files.ids_given f i;
      });
      whole = whole;
      room = right.files.room;
    })
    (spaces_of (opened 1 1 0) (opened_is_machine 1 1 0 (omega arith) (omega arith) (omega arith) (omega arith))) ((λ n. absurd (n refl), tt), tt) (tt, tt) tt tt
