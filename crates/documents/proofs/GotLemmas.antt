-- What was read of a file and went to a sink, piece by piece.
use Rattle.std.proofs.Common.{◌≡◌, ◌∙◌, ◌⊎◌, inl, inr, ℕ, zero, suc, ◌+◌, ◌-◌, ◌*◌, ◌/◌, ◌%◌, ◌<◌, ◌≤◌, refl, sym, ap, subst, arith, List, [], ◌∷◌, ◌++◌, length, length-append, Option, Some, None, IfSome}
use Rattle.std.specs.Prelude.{slice_get, MatchOption}
use Rattle.std.specs.Io.KnownBytes.{Appends}
use Rattle.std.proofs.KnownBytes.{Appends-nil, Appends-trans}
use Rattle.std.proofs.lemmas.Bool.{cases_lt}
use Rattle.std.proofs.lemmas.Option.{none-some}
use Rattle.labelled_disk.specs.declared.disk.Disk.{Ghosts}
use Rattle.document_head.specs.Head.{head_page, pages_of}
use Rattle.document_head.specs.declared.head.Head.{Head}
use Rattle.flat_machine.specs.File.{File, file_at, size}
use Rattle.flat_machine.specs.Machine.{Machine}
use Rattle.embedded.specs.declared.engine.Engine.{Engine}
use Rattle.embedded.specs.Engine.{StandsFor}
use Rattle.documents.specs.Contents.{Reads, cell_in}
use Rattle.documents.specs.Stands.{HasGot, HasRead, HasSent, IsListed}
use Rattle.documents.proofs.FillLemmas.{get_left, get_right}

-- bytes that were read, and the next ones
reads_both : (f : File) (from : ℕ) (xs ys : List ℕ) → Reads f from xs → Reads f (from + length xs) ys → Reads f from (xs ++ ys)
reads_both f from xs ys first second k b is = either (cases_lt k (length xs))
  where
    either : (k < length xs) ⊎ (length xs ≤ k) → MatchOption (cell_in f.pages (from + k)) (b < 256) (λ c. b ≡ c)
    either (inl low) = first k b (sym (get_left xs ys k low) ∙ is)
    either (inr high) =
        let j : ℕ = k - length xs in
        let at : length xs + j ≡ k = omega (arith, high) in
        let here : from + length xs + j ≡ from + k = omega (arith, high) in
        subst (λ (i : ℕ). MatchOption (cell_in f.pages i) (b < 256) (λ c. b ≡ c)) here
        (second j b (sym (get_right xs ys j) ∙ ap (λ (i : ℕ). slice_get (xs ++ ys) i) at ∙ is))

module _ {D A : Type 0} {G : Ghosts D} where
  -- nothing was read yet
  pub sent_none : (m : Machine) (f : File) (from : ℕ) (old : Option (List ℕ)) (e : Engine D A G) → StandsFor e m → HasSent m f from 0 old old e
  sent_none m f from old e stands = record {
    bytes = [];
    long = refl;
    reads = λ k b is. absurd (none-some b is);
    sent = Appends-nil old;
    still = (m.unforced, (λ test none. none), stands);
  }

  -- a piece was read, and the sink took it
  pub sent_one : (m : Machine) (f : File) (id page count : ℕ) (piece : List ℕ) (old new : Option (List ℕ)) (e : Engine D A G) → file_at m.files id ≡ Some f
      → HasRead m id page piece e → length piece ≡ count → Appends old new piece → HasSent m f (512 * page) count old new e
  sent_one m f id page count piece old new e there read long sent =
      let same : read.file ≡ f = cc (sym read.there ∙ there) in
      record {
        bytes = piece;
        long = long;
        reads = subst (λ (x : File). Reads x (512 * page) piece) same read.reads;
        sent = sent;
        still = read.still;
      }

  -- and then another one
  pub sent_both : (m : Machine) (f : File) (from next first second all : ℕ) (a b c : Option (List ℕ)) (d e : Engine D A G) → (x : HasSent m f from first a b d)
      → HasSent (record m { unforced = x.still.0 }) f next second b c e
      → next ≡ from + first → all ≡ first + second → HasSent m f from all a c e
  sent_both m f from next first second all a b c d e x y at is =
      record {
        bytes = x.bytes ++ y.bytes;
        long = omega (arith, length-append x.bytes y.bytes, x.long, y.long, is);
        reads = reads_both f from x.bytes y.bytes x.reads (subst (λ (i : ℕ). Reads f i y.bytes) (let z : next ≡ from + length x.bytes = omega (arith, at, x.long) in z) y.reads);
        sent = Appends-trans a b c x.bytes y.bytes x.sent y.sent;
        still = (y.still.0, (λ test none. y.still.1 test (x.still.1 test none)), y.still.2);
      }

-- the next piece begins where this one ends, unless it was the last
pub even_then : (start page left count room bytes next : ℕ) → left ≤ bytes → 512 * page ≡ start + (bytes - left) → count ≤ left → (count < left → count ≡ room) → room % 512 ≡ 0
    → next ≡ page + count / 512 → 0 < left - count → 512 * next ≡ start + (bytes - (left - count))
even_then start page left count room bytes next within is few full whole at more =
    let one : count ≡ room = full (omega (arith, few, more)) in
    omega (arith, within, is, one, whole, at, few)

module _ {D A : Type 0} {G : Ghosts D} where
  -- what a document's file says and what of it went to the sink, together
  pub got_is : (m : Machine) (id pages kind : ℕ) (found : Option Head) (head : Head) (old new : Option (List ℕ)) (d e : Engine D A G) → (h : IsListed m id pages kind found d) → found ≡ Some head
      → IfSome found (λ x. pages ≡ pages_of x.bytes) → HasSent (record m { unforced = h.still.0 }) h.file 512 head.bytes old new e → HasGot m id head old new e
  got_is m id pages kind found head old new d e h is long sent =
      let said = subst (λ (o : Option Head). IfSome o (λ x. (h.file.kind ≡ 17475) × Reads h.file 0 (head_page x.bytes x.name.bytes))) is h.head_read in
      let its_size = subst (λ (o : Option Head). IfSome o (λ x. pages ≡ pages_of x.bytes)) is long in
      record {
        file = h.file;
        there = h.there;
        bytes = sent.bytes;
        got = record { kind = said.0; long = sym h.same_size ∙ its_size; head_read = said.1; count = sent.long; body = sent.reads };
        sent = sent.sent;
        still = (sent.still.0, (λ test none. sent.still.1 test (h.still.1 test none)), sent.still.2);
      }

  its_pages : (m : Machine) (id pages kind : ℕ) (found : Option Head) (e : Engine D A G) (f : File) → IsListed m id pages kind found e → file_at m.files id ≡ Some f
      → pages ≡ size f
  its_pages m id pages kind found e f h there =
      let same : h.file ≡ f = cc (h.there, there) in
      h.same_size ∙ ap (λ (x : File). size x) same

  -- all pages of a file are those that it has
  pub pages_fit : (m : Machine) (id pages kind count : ℕ) (found : Option Head) (e : Engine D A G) (f : File) → IsListed m id pages kind found e → file_at m.files id ≡ Some f
      → count ≡ pages → count * 512 ≤ 512 * size f
  pages_fit m id pages kind count found e f h there is = omega (arith, its_pages m id pages kind found e f h there, is)

  -- and a document's bytes fit into them
  pub bytes_fit : (m : Machine) (id pages kind : ℕ) (found : Option Head) (head : Head) (e : Engine D A G) (f : File) → IsListed m id pages kind found e → file_at m.files id ≡ Some f
      → found ≡ Some head → IfSome found (λ x. pages ≡ pages_of x.bytes) → head.bytes ≤ 512 * size f
  bytes_fit m id pages kind found head e f h there is long =
      let its_size = subst (λ (o : Option Head). IfSome o (λ x. pages ≡ pages_of x.bytes)) is long in
      omega (arith, its_pages m id pages kind found e f h there, its_size)
