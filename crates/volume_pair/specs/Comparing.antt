-- Two files of one identifier that are compared.
use Rattle.std.specs.Prelude.{◌≡◌, ◌≢◌, ◌⊎◌, ◌<◌, ◌==◌, min, if◌then◌else◌, ℕ, Bool, true, false, List, Option, Some, None, slice_get}
use Rattle.labelled_disk.specs.File.{File, file_at, size}
use Rattle.pair_machine.specs.declared.call.PairRefusal.TheVariants as why
use Rattle.pair_machine.specs.declared.call.PairReply.{PairReply}
use Rattle.pair_machine.specs.declared.call.PairReply.TheVariants as reply
use Rattle.pair_machine.specs.Pair.{Compares}

-- the size of the list's file, or it has none
abbrev pub IsSizeIn : List File → ℕ → Option ℕ → Type 0
IsSizeIn fs id None = file_at fs id ≡ None
IsSizeIn fs id (Some pages) = (f : File) × (file_at fs id ≡ Some f) × (pages ≡ size f)

-- both lists have the file
pub record HaveBoth (fs gs : List File) (id : ℕ) (f g : File) : Type 0 where
  pub from : file_at fs id ≡ Some f
  pub to : file_at gs id ≡ Some g

-- one of the lists has no such file
abbrev pub LackOne : List File → List File → ℕ → Type 0
LackOne fs gs id = (f g : File) → ¬ HaveBoth fs gs id f g

-- the sizes of both files, or one of the lists has no such file
abbrev pub AreSizes : List File → List File → ℕ → Option (ℕ × ℕ) → Type 0
AreSizes fs gs id None = LackOne fs gs id
AreSizes fs gs id (Some found) = (f : File) × (g : File) × HaveBoth fs gs id f g × (found.0 ≡ size f) × (found.1 ≡ size g)

-- whether the page has the same cells in both
abbrev pub IsSamePage : File → File → ℕ → Bool → Type 0
IsSamePage f g page true = slice_get f.pages page ≡ slice_get g.pages page
IsSamePage f g page false = slice_get f.pages page ≢ slice_get g.pages page

-- the first so many pages are the same up to this one, or all of them are
abbrev pub AreSameBelow : File → File → ℕ → Type 0
AreSameBelow f g page = (k : ℕ) → k < page → slice_get f.pages k ≡ slice_get g.pages k

-- the first of so many pages that differs, or none of them does
abbrev pub IsDifference : File → File → ℕ → Option ℕ → Type 0
IsDifference f g pages None = AreSameBelow f g pages
IsDifference f g pages (Some page) = (page < pages) × (slice_get f.pages page ≢ slice_get g.pages page) × AreSameBelow f g page

-- the reply to a comparison, by the first of the pages of both that differs, and the sizes
abbrev pub compare_reply : Option ℕ → ℕ → ℕ → PairReply
compare_reply (Some page) m n = reply.Differs page
compare_reply None m n = if m == n then reply.Same else reply.Differs (min m n)

-- the answer to a comparison of the files of this identifier in both lists
abbrev pub AnswersCompare : List File → List File → ℕ → PairReply → Type 0
AnswersCompare fs gs id r =
    (LackOne fs gs id × (r ≡ reply.Refused why.File)) ⊎ ((f : File) × (g : File) × HaveBoth fs gs id f g × Compares f g r)
