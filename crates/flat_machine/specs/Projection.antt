-- The projection of the spaces on the pages of the root, and the pages that are swapped together.
use Rattle.std.specs.Prelude.{ℕ, ◌≡◌, ◌≢◌, ◌+◌, ◌-◌, ◌*◌, ◌/◌, ◌<◌, ◌≤◌, min, max, List, [], ◌∷◌, Option, option_map}
use Rattle.flat_machine.specs.Space.{Space, root_pages, innermost, mapped_at}

-- the innermost space and the mapped space at a page, by their handles
pub record View : Type 0 where
  pub innermost_handle : Option ℕ
  pub mapped_handle : Option ℕ

-- the view of a page
abbrev pub view_at : List Space → ℕ → View
view_at spaces page = record {
  innermost_handle = option_map (λ s. s.handle) (innermost spaces page);
  mapped_handle = option_map (λ s. s.handle) (mapped_at spaces page);
}

-- pages in a row that have one view
pub record Span : Type 0 where
  pub first : ℕ
  pub pages : ℕ
  pub view : View

-- the first page after a span
abbrev pub end_of : Span → ℕ
end_of i = i.first + i.pages

-- the span begins at the page, each of its pages has its view, and the page after it, if it is one of the root, has another
pub record IsMaximalFrom (spaces : List Space) (page : ℕ) (i : Span) : Type 0 where
  pub begins : i.first ≡ page
  pub not_empty : 1 ≤ i.pages
  pub in_root : end_of i ≤ root_pages
  pub one_view : (p : ℕ) → page ≤ p → p < end_of i → view_at spaces p ≡ i.view
  pub maximal : end_of i < root_pages → view_at spaces (end_of i) ≢ i.view

-- the maximal spans from a page on to the end of the root, in order
abbrev pub IsProjectionFrom : List Space → ℕ → List Span → Type 0
IsProjectionFrom spaces page [] = page ≡ root_pages
IsProjectionFrom spaces page (i ∷ is) = IsMaximalFrom spaces page i × IsProjectionFrom spaces (end_of i) is

-- the maximal spans of the root
abbrev pub IsProjection : List Space → List Span → Type 0
IsProjection spaces spans = IsProjectionFrom spaces 0 spans

-- where the block of a page starts, counted in units from the first page of its innermost space
abbrev pub block_start : Space → ℕ → ℕ
block_start space page = space.first + space.unit * ((page - space.first) / space.unit)

-- the first page of the block, cut to the span
abbrev pub unit_first : Space → Span → ℕ → ℕ
unit_first space i page = max i.first (block_start space page)

-- the first page after the block, cut to the span
abbrev pub unit_end : Space → Span → ℕ → ℕ
unit_end space i page = min (end_of i) (block_start space page + space.unit)

-- the swap unit of a page, by its innermost space and its span: the unit's first page, and how many pages it has
abbrev pub unit : Space → Span → ℕ → ℕ × ℕ
unit space i page = (unit_first space i page, unit_end space i page - unit_first space i page)
