-- What was read of a text so far, by what a line says and which item is the last.
use Rattle.std.specs.Prelude.{◌≡◌, Bool, false, ℕ, List, ◌++◌, length, drop, Option, Some, None, IfSome}
use Rattle.std.specs.List.{list_any}
use Rattle.std.specs.Io.KnownBytes.{Consumes, IsAtEnd}
use Rattle.trace_io.specs.Progress.{Progress}
use Rattle.trace_io.specs.Items.{parts_of, items_of, whole_items_of, left_after, FitsIn}
use Rattle.trace_io.specs.declared.progress.Stop.{Stop}
use Rattle.trace_io.specs.declared.progress.Stop.TheVariants as stop

-- The bytes are the lines of these items, each with its line feed, and none of them is the last: so what follows is read
-- after them.
pub record AreItems {A : Type 0} (meaning : List ℕ → Option A) (is_last : Option A → Bool) (bytes : List ℕ) (items : List (Option A)) : Type 0 where
  pub reads : (s : List ℕ) → items_of meaning is_last (bytes ++ s) ≡ items ++ items_of meaning is_last s
  pub whole : (s : List ℕ) → whole_items_of meaning is_last (bytes ++ s) ≡ items ++ whole_items_of meaning is_last s
  pub parts : (s : List ℕ) → drop (length items) (parts_of (bytes ++ s)) ≡ parts_of s
  pub none_last : list_any is_last items ≡ false

-- All items of a source's text were read, what is left stands after them, and the text was short enough.
pub record HasAllItems {A : Type 0} (meaning : List ℕ → Option A) (is_last : Option A → Bool) (left_old left_new : Option (List ℕ)) (taken limit : ℕ) (items : List (Option A)) : Type 0 where
  pub bytes : List ℕ
  pub took : Consumes left_old left_new bytes
  pub count : taken ≡ length bytes
  pub items_are : IfSome left_old (λ b. items_of meaning is_last b ≡ items)
  pub rest_is : IfSome left_old (λ b. left_new ≡ Some (left_after meaning is_last b))
  pub short : IfSome left_old (FitsIn meaning is_last limit)

-- These are the items of the lines that are whole in the bytes taken.
pub record HasWholeItems {A : Type 0} (meaning : List ℕ → Option A) (is_last : Option A → Bool) (left_old left_new : Option (List ℕ)) (taken : ℕ) (items : List (Option A)) : Type 0 where
  pub bytes : List ℕ
  pub took : Consumes left_old left_new bytes
  pub count : taken ≡ length bytes
  pub items_are : whole_items_of meaning is_last bytes ≡ items

-- how the items go on: after whole lines, or not at all
abbrev pub ItemsGoOn : {A : Type 0} → (List ℕ → Option A) → (Option A → Bool) → Option Stop → Option (List ℕ) → Option (List ℕ) → ℕ → ℕ → List ℕ → List (Option A) → Type 0
ItemsGoOn meaning is_last None left_old left_new taken limit bytes items = AreItems meaning is_last bytes items
ItemsGoOn meaning is_last (Some stop.End) left_old left_new taken limit bytes items = HasAllItems meaning is_last left_old left_new taken limit items × IsAtEnd left_new
ItemsGoOn meaning is_last (Some stop.ReadFault) left_old left_new taken limit bytes items = ⊥
ItemsGoOn meaning is_last (Some stop.Long) left_old left_new taken limit bytes items = ⊥

-- These items were read, since no byte was taken.
pub record HasItems {A : Type 0} (meaning : List ℕ → Option A) (is_last : Option A → Bool) (left_old left_new : Option (List ℕ)) (progress : Progress) (items : List (Option A)) : Type 0 where
  pub bytes : List ℕ
  pub took : Consumes left_old left_new bytes
  pub count : progress.taken ≡ length bytes
  pub goes_on : ItemsGoOn meaning is_last progress.stopped left_old left_new progress.taken progress.limit bytes items
