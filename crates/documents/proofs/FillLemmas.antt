-- The file of a document while it is filled.
use Rattle.std.proofs.Common.{◌≡◌, ◌∙◌, ◌⊎◌, inl, inr, ℕ, zero, suc, ◌+◌, ◌-◌, ◌*◌, ◌/◌, ◌%◌, ◌<◌, ◌≤◌, refl, sym, ap, subst, arith, List, [], ◌∷◌, ◌++◌, length, length-append, Option, Some, None}
use Rattle.std.specs.Prelude.{slice_get, take}
use Rattle.std.specs.Int.{div_ceil}
use Rattle.std.specs.Io.KnownBytes.{Consumes}
use Rattle.std.proofs.KnownBytes.{Consumes-trans}
use Rattle.std.proofs.lemmas.Bool.{cases_lt}
use Rattle.std.proofs.lemmas.List.{append-nil, take-append-le}
use Rattle.std.proofs.lemmas.Option.{none-some, slice_get_within}
use Rattle.labelled_disk.specs.declared.disk.Disk.{Ghosts}
use Rattle.document_head.specs.Head.{head_page, pages_of}
use Rattle.flat_machine.specs.File.{File, byte, size}
use Rattle.flat_machine.specs.Machine.{Machine}
use Rattle.flat_machine.specs.Next.{new_id}
use Rattle.embedded.specs.declared.engine.Engine.{Engine}
use Rattle.embedded.specs.Engine.{StandsFor}
use Rattle.documents.specs.Contents.{Holds, IsDocument, cell_in}
use Rattle.documents.specs.Pieces.{adding, appended, grown, marked, put_cells, written}
use Rattle.documents.specs.Stands.{HasFilled, IsFilled, blank}
use Rattle.documents.proofs.CellLemmas.{AreWhole, grown_long, grown_new, grown_old, grown_whole, left_by, long_puts, new_whole, put_here, whole_puts}

pub get_left : (xs ys : List ℕ) (k : ℕ) → k < length xs → slice_get (xs ++ ys) k ≡ slice_get xs k
get_left [] ys k l = absurd (omega arith)
get_left (x ∷ xs) ys zero l = refl
get_left (x ∷ xs) ys (suc k) l = get_left xs ys k (omega arith)

pub get_right : (xs ys : List ℕ) (j : ℕ) → slice_get (xs ++ ys) (length xs + j) ≡ slice_get ys j
get_right [] ys j = ap (λ (i : ℕ). slice_get ys i) (let z : 0 + j ≡ j = omega arith in z)
get_right (x ∷ xs) ys j =
    let z : suc (length xs) + j ≡ suc (length xs + j) = omega arith in
    ap (λ (i : ℕ). slice_get (x ∷ (xs ++ ys)) i) z ∙ get_right xs ys j

-- a new file has no bytes behind its first page
pub fill_none : (m : Machine) → IsFilled (blank m) [] (blank m)
fill_none m = record {
  same = refl;
  whole = new_whole 1;
  enough = omega arith;
  body = λ k b is. absurd (none-some b is);
  rest = λ k low high. absurd (omega (arith, low, high));
}

-- bytes behind others
pub fill_more : (f g : File) (xs ys : List ℕ) (pages all : ℕ) → IsFilled f xs g → size g ≡ pages → 512 * pages ≡ 512 + length xs → 512 * pages + length ys ≤ 512 * all
    → IsFilled f (xs ++ ys) (appended all pages ys g) × (size (appended all pages ys g) ≡ all)
fill_more f g xs ys pages all h long full room =
    let more : length g.pages ≤ all = omega (arith, long, room) in
    let grown_is = grown_long all g.pages more in
    let its_size : size (appended all pages ys g) ≡ all = long_puts ys (512 * pages) (grown all g.pages) ∙ grown_is in
    let both = length-append xs ys in (
      record {
        same = ap (λ (x : File). record x { pages = put_cells (512 * pages) ys (grown all g.pages) }) h.same;
        whole = whole_puts ys (512 * pages) (grown all g.pages) (grown_whole all g.pages more h.whole);
        enough = omega (arith, its_size, both, full, room);
        body = λ k b is. body k b is (cases_lt k (length xs));
        rest = λ k low high.
            let here : 512 * pages + length ys ≤ k = omega (arith, low, both, full) in
            left_by ys (512 * pages) (grown all g.pages) k (inr here)
            ∙ grown_new all g.pages k more (omega (arith, here, long)) (omega (arith, high, its_size));
      },
      its_size,
    )
  where
    body : (k b : ℕ) → slice_get (xs ++ ys) k ≡ Some b → (k < length xs) ⊎ (length xs ≤ k) → cell_in (put_cells (512 * pages) ys (grown all g.pages)) (512 + k) ≡ byte b
    body k b is (inl low) =
        let more : length g.pages ≤ all = omega (arith, long, room) in
        left_by ys (512 * pages) (grown all g.pages) (512 + k) (inl (omega (arith, low, full)))
        ∙ grown_old all g.pages (512 + k) more (omega (arith, low, full, long))
        ∙ h.body k b (sym (get_left xs ys k low) ∙ is)
    body k b is (inr high) =
        let more : length g.pages ≤ all = omega (arith, long, room) in
        let grown_is = grown_long all g.pages more in
        let j : ℕ = k - length xs in
        let at : length xs + j ≡ k = omega (arith, high) in
        let here : 512 * pages + j ≡ 512 + k = omega (arith, full, high) in
        subst (λ (i : ℕ). cell_in (put_cells (512 * pages) ys (grown all g.pages)) i ≡ byte b) here
        (put_here ys (512 * pages) (grown all g.pages) (grown_whole all g.pages more h.whole) (omega (arith, grown_is, room)) j b
        (sym (get_right xs ys j) ∙ ap (λ (i : ℕ). slice_get (xs ++ ys) i) at ∙ is))

-- how many pages these are
pub pages_so_far : (bytes count pages all : ℕ) → 512 * pages ≡ 512 + bytes → all ≡ pages + div_ceil count 512 → all ≡ pages_of (bytes + count)
pages_so_far bytes count pages all full is = omega (arith, full, is)

-- and the head before them: a document
pub sealed_is : (m : Machine) (g : File) (name bytes : List ℕ) → IsFilled (blank m) bytes g → size g ≡ pages_of (length bytes) → length (head_page (length bytes) name) ≡ 512
    → IsDocument name bytes (marked (written 0 (head_page (length bytes) name) g))
sealed_is m g name bytes h tight wide =
    let some : 512 ≤ 512 * size g = omega (arith, h.enough) in
    record {
      kind = ap (λ (x : File). x.kind) h.same;
      permanent = refl;
      long = long_puts (head_page (length bytes) name) 0 g.pages ∙ tight;
      head = λ k b is. put_here (head_page (length bytes) name) 0 g.pages h.whole (omega (arith, wide, some)) k b is;
      body = λ k b is. left_by (head_page (length bytes) name) 0 g.pages (512 + k) (inr (omega (arith, wide))) ∙ h.body k b is;
      rest = λ k low high.
          left_by (head_page (length bytes) name) 0 g.pages k (inr (omega (arith, wide, low)))
          ∙ h.rest k low (omega (arith, high, long_puts (head_page (length bytes) name) 0 g.pages));
    }

-- While bytes are taken a window at a time: those of the windows before are in the file, and the next ones in the buffer.
module _ {D A : Type 0} {G : Ghosts D} where
  pub record IsSoFar (m : Machine) (done pages count : ℕ) (buffer : List ℕ) (old new : Option (List ℕ)) (e : Engine D A G) : Type 0 where
    pub bytes : List ℕ
    pub taken : Consumes old new (bytes ++ take count buffer)
    pub long : length bytes ≡ done
    pub file : File
    pub filled : IsFilled (blank m) bytes file
    pub wide : size file ≡ pages
    pub stands : StandsFor e (adding file m)

  pub named_so_far : (m : Machine) (id done pages count : ℕ) (buffer : List ℕ) (old new : Option (List ℕ)) (e : Engine D A G) → (s : IsSoFar m done pages count buffer old new e) → id ≡ new_id m
      → s.file.id ≡ id
  named_so_far m id done pages count buffer old new e s is = ap (λ (x : File). x.id) s.filled.same ∙ sym is

  module _ (m : Machine) (done pages count all total : ℕ) (buffer piece : List ℕ) (old new : Option (List ℕ)) (e d : Engine D A G) (s : IsSoFar m done pages count buffer old new e)
      (full : 512 * pages ≡ 512 + done) (more : all ≡ pages + div_ceil count 512) (room : 512 * pages + length piece ≤ 512 * all) (same : piece ≡ take count buffer) (width : length piece ≡ count)
      (sum : total ≡ done + count) (stands : StandsFor d (adding (appended all pages piece s.file) m)) where
    -- the last window went into the file
    pub filled_now : HasFilled m total old new d
    filled_now =
        let one = fill_more (blank m) s.file s.bytes piece pages all s.filled s.wide (omega (arith, full, s.long)) room in
        let both : length (s.bytes ++ piece) ≡ total = omega (arith, length-append s.bytes piece, s.long, width, sum) in
        record {
          bytes = s.bytes ++ piece;
          taken = subst (λ (p : List ℕ). Consumes old new (s.bytes ++ p)) (sym same) s.taken;
          long = both;
          file = appended all pages piece s.file;
          filled = one.0;
          tight = one.1 ∙ pages_so_far done count pages all full more ∙ ap pages_of (sym (both ∙ sum));
          stands = stands;
        }

    -- one window did, and the next one is in the buffer
    pub so_far_then : (next : ℕ) (last : List ℕ) (newer : Option (List ℕ)) → Consumes new newer (take next last) → IsSoFar m total all next last old newer d
    so_far_then next last newer took =
        let one = fill_more (blank m) s.file s.bytes piece pages all s.filled s.wide (omega (arith, full, s.long)) room in
        record {
          bytes = s.bytes ++ piece;
          taken = Consumes-trans old new newer (s.bytes ++ piece) (take next last) (subst (λ (p : List ℕ). Consumes old new (s.bytes ++ p)) (sym same) s.taken) took;
          long = omega (arith, length-append s.bytes piece, s.long, width, sum);
          file = appended all pages piece s.file;
          filled = one.0;
          wide = one.1;
          stands = stands;
        }

  -- there was nothing more
  pub filled_last : (m : Machine) (done pages count : ℕ) (buffer : List ℕ) (old new : Option (List ℕ)) (e : Engine D A G) → (s : IsSoFar m done pages count buffer old new e)
      → 512 * pages ≡ 512 + done → count ≡ 0 → HasFilled m done old new e
  filled_last m done pages count buffer old new e s full none =
      let nothing : s.bytes ++ take count buffer ≡ s.bytes = ap (λ (k : ℕ). s.bytes ++ take k buffer) none ∙ append-nil s.bytes in
      record {
        bytes = s.bytes;
        taken = subst (λ (l : List ℕ). Consumes old new l) nothing s.taken;
        long = s.long;
        file = s.file;
        filled = s.filled;
        tight = s.wide ∙ pages_so_far done 0 pages pages full (omega arith) ∙ ap pages_of (let z : done + 0 ≡ length s.bytes = omega (arith, s.long) in z);
        stands = s.stands;
      }

  -- the first window is in the buffer
  pub so_far_first : (m : Machine) (count : ℕ) (buffer : List ℕ) (old new : Option (List ℕ)) (e : Engine D A G) → StandsFor e (adding (blank m) m) → Consumes old new (take count buffer)
      → IsSoFar m 0 1 count buffer old new e
  so_far_first m count buffer old new e stands took = record {
    bytes = [];
    taken = took;
    long = refl;
    file = blank m;
    filled = fill_none m;
    wide = refl;
    stands = stands;
  }

-- a window that is full fills whole pages
pub full_then : (bytes count pages all room : ℕ) → 512 * pages ≡ 512 + bytes → all ≡ pages + div_ceil count 512 → count ≤ room - room % 512 → room - room % 512 ≤ count
    → 512 * all ≡ 512 + (bytes + count)
full_then bytes count pages all room full more within whole =
    let same : count ≡ room - room % 512 = omega (arith, within, whole) in
    let even : count % 512 ≡ 0 = omega (arith, same) in
    omega (arith, full, more, even)

-- bytes of a part of a buffer are bytes of the buffer
pub taken_in : (a b : Option (List ℕ)) (n : ℕ) (room rest : List ℕ) → n ≤ length room → Consumes a b (take n room) → Consumes a b (take n (room ++ rest))
taken_in a b n room rest fits took = subst (λ (l : List ℕ). Consumes a b l) (sym (take-append-le n room rest fits)) took

pub as_many : (count all pages : ℕ) (piece : List ℕ) → length piece ≡ count → all ≡ pages + div_ceil (length piece) 512 → all ≡ pages + div_ceil count 512
as_many count all pages piece width more = more ∙ ap (λ (n : ℕ). pages + div_ceil n 512) width
