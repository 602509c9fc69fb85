-- A frame changes, and its home stays.
use Rattle.std.proofs.Common.{◌≡◌, ◌≢◌, ◌<◌, ◌∙◌, ℕ, Option, Some, None, IfSome, false, refl, ap, sym, length, get_or, set, arith, inl, inr, get_or-set_same, get_or-set_other, length-set}
use Rattle.std.specs.Prelude.{◌≤◌, ◌+◌, ◌-◌, ◌++◌, List, IsSome, take, drop, All, option_map}
use Rattle.std.proofs.lemmas.Bool.{cases_eq}
use Rattle.std.proofs.lemmas.List.{set-get_or, length-append, length-take-le, length-drop}
use Rattle.std.proofs.lemmas.Grind.{get_or_default_zero}
use Rattle.std.proofs.lemmas.List.Elements.{All-append, All-take, All-drop}
use Rattle.std.proofs.lemmas.Option.{none-some}
use Rattle.frame_pool.specs.declared.home.Home.{Home}
use Rattle.frame_pool.specs.Frames.{Frame, Slots, frame_at, is_of, IsNowhere, IsPageBytes, ArePages}
use Rattle.flat_mem.specs.Memory.{overwritten}
use Rattle.frame_pool.specs.FrameLaws.{distinct_same, pages_filled, has_of_frame, frame_of_has}
use Rattle.frame_pool.specs.Lists.{Lists}
use Rattle.frame_pool.specs.Index.{bucket_of, bucket_in, bucket_at, IsLastBelow, IsIndex}
use Rattle.frame_pool.specs.Pool.{IsPool}
use Rattle.frame_pool.proofs.PoolLemmas.{order_kept}

within_same : (at also : ℕ → Option ℕ) (bucket limit : ℕ) (r : Option ℕ) → ((i : ℕ) → also i ≡ at i) → IfSome r (λ s. (s < limit) × (at s ≡ Some bucket)) → IfSome r (λ s. (s < limit) × (also s ≡ Some bucket))
within_same at also bucket limit None same within = tt
within_same at also bucket limit (Some s) same within = (within.0, same s ∙ within.1)

last_same : (at also : ℕ → Option ℕ) (bucket limit : ℕ) (r : Option ℕ) → ((i : ℕ) → also i ≡ at i) → IsLastBelow at bucket limit r → IsLastBelow also bucket limit r
last_same at also bucket limit r same last = record {
  within = within_same at also bucket limit r same last.within;
  covers = λ other below is. last.covers other below (sym (same other) ∙ is);
}

index_same : (at also : ℕ → Option ℕ) (a b : Lists) → length b.frames ≡ length a.frames → b.heads ≡ a.heads → b.nexts ≡ a.nexts → ((i : ℕ) → also i ≡ at i) → IsIndex at a → IsIndex also b
index_same at also a b size heads nexts same index = record {
  heads = rw (size, heads) (λ bucket below. last_same at also bucket (length a.frames) _ same (index.heads bucket below));
  links = rw nexts (λ slot bucket is. last_same at also bucket slot _ same (index.links slot bucket (sym (same slot) ∙ is)));
}

-- the frame of a slot is replaced by one with the same home
module _ (l : Lists) (e slot : ℕ) (f h : Frame) (pool : IsPool l e) (below : slot < length l.frames) (is : frame_at l.frames slot ≡ Some f) (home : h.home ≡ f.home) (page : IsPageBytes h.bytes) where
  abbrev new : Lists
  new = record l { frames = set l.frames slot (Some h) }

  size : length new.frames ≡ length l.frames
  size = length-set l.frames slot (Some h)

  here : frame_at new.frames slot ≡ Some h
  here = get_or-set_same l.frames slot (Some h) None below

  there : (i : ℕ) → i ≢ slot → frame_at new.frames i ≡ frame_at l.frames i
  there i apart = get_or-set_other l.frames slot i (Some h) None apart

  bucket_here : bucket_in (length l.frames) (Some h) ≡ bucket_in (length l.frames) (Some f)
  bucket_here = ap (λ (x : Home). Some (bucket_of (length l.frames) x.id x.page)) home

  same_bucket : (i : ℕ) → bucket_at new.frames i ≡ bucket_at l.frames i
  same_bucket i = elim (cases_eq i slot) [
    | inl same ↦ rw (same, size, here, is) bucket_here
    | inr apart ↦ rw (size, there i apart) refl
  ]

  none_before : (i : ℕ) → frame_at new.frames i ≡ None → frame_at l.frames i ≡ None
  none_before i none = elim (cases_eq i slot) [
    | inl same ↦ absurd (none-some h (sym none ∙ ap (frame_at new.frames) same ∙ here))
    | inr apart ↦ sym (there i apart) ∙ none
  ]

  none_after : (i : ℕ) → frame_at l.frames i ≡ None → frame_at new.frames i ≡ None
  none_after i none = elim (cases_eq i slot) [
    | inl same ↦ absurd (none-some f (sym none ∙ ap (frame_at l.frames) same ∙ is))
    | inr apart ↦ there i apart ∙ none
  ]

  pub replaced_pool : IsPool new e
  replaced_pool = record {
    least = rw size pool.least;
    most = rw size pool.most;
    sized = record { heads = pool.sized.heads ∙ sym size; nexts = pool.sized.nexts ∙ sym size; orders = pool.sized.orders ∙ sym size; positions = pool.sized.positions ∙ sym size };
    index = index_same (bucket_at l.frames) (bucket_at new.frames) l new size refl refl same_bucket pool.index;
    order = order_kept l new size refl refl pool.order;
    first_empties = record {
      few = rw size pool.first_empties.few;
      empty = λ i inside low. none_after i (pool.first_empties.empty i (rw (sym size) inside) low);
      placed = λ i inside none. pool.first_empties.placed i (rw (sym size) inside) (none_before i none);
    };
    distinct = distinct_same l.frames slot f h below pool.distinct (has_of_frame l.frames slot f below is) home;
    pages = pages_filled l.frames slot h below pool.pages page;
  }

kept_at : (g : Frame → Frame) (l : Lists) (e slot : ℕ) (x : Option Frame) → ((f : Frame) → (g f).home ≡ f.home) → ((f : Frame) → IsPageBytes f.bytes → IsPageBytes (g f).bytes) → IsPool l e → slot < length l.frames → frame_at l.frames slot ≡ x
    → IsPool (record l { frames = set l.frames slot (option_map g x) }) e
kept_at g l e slot None homes pages pool below is =
    let own : set l.frames slot None ≡ l.frames = ap (λ x. set l.frames slot x) (sym is) ∙ set-get_or l.frames slot None in
    rw own pool
kept_at g l e slot (Some f) homes pages pool below is = replaced_pool l e slot f (g f) pool below is (homes f) (pages f (pool.pages slot f (has_of_frame l.frames slot f below is)))

pub kept_pool : (g : Frame → Frame) (l : Lists) (e slot : ℕ) → ((f : Frame) → (g f).home ≡ f.home) → ((f : Frame) → IsPageBytes f.bytes → IsPageBytes (g f).bytes) → IsPool l e → slot < length l.frames
    → IsPool (record l { frames = set l.frames slot (option_map g (frame_at l.frames slot)) }) e
kept_pool g l e slot homes pages pool below = kept_at g l e slot (frame_at l.frames slot) homes pages pool below refl

hit : (id page : ℕ) (f : Frame) → f.home.id ≡ id → f.home.page ≡ page → is_of id page (Some f) ≡ false → ⊥
hit id page f ids pages miss = grind (arith, ids, pages, miss)

-- a page that each slot misses is nowhere
pub nowhere_of : (slots : Slots) (id page : ℕ) → ((slot : ℕ) → is_of id page (frame_at slots slot) ≡ false) → IsNowhere slots id page
nowhere_of slots id page miss slot f has ids pages = hit id page f ids pages (sym (ap (is_of id page) (frame_of_has slots slot f has)) ∙ miss slot)

-- a page with some of its bytes replaced is a page
pub overwritten_page : (page : List ℕ) (start : ℕ) (bytes : List ℕ) → IsPageBytes page → start + length bytes ≤ 512 → ((k : ℕ) → get_or bytes k 0 < 256) → IsPageBytes (overwritten page start bytes)
overwritten_page page start bytes (long, fit) inside fits =
    let before = take start page in
    let after = drop (start + length bytes) page in
    let sum : length (before ++ bytes ++ after) ≡ length before + length bytes + length after = length-append (before ++ bytes) after ∙ ap (λ (n : ℕ). n + length after) (length-append before bytes) in
    let prefix : length before ≡ start = length-take-le start page (omega (arith, long, inside)) in
    let rest : length after ≡ length page - (start + length bytes) = length-drop (start + length bytes) page in
    let new : All (λ b. b < 256) bytes = λ k d below. rw (get_or_default_zero bytes k d below) (fits k) in (
      omega (arith, long, inside, sum, prefix, rest),
      All-append (λ (b : ℕ). b < 256) (before ++ bytes) after
          (All-append (λ (b : ℕ). b < 256) before bytes (All-take (λ (b : ℕ). b < 256) start page fit) new)
          (All-drop (λ (b : ℕ). b < 256) (start + length bytes) page fit),
    )

page_at : (o : Option Frame) (page : List ℕ) → ((f : Frame) → o ≡ Some f → IsPageBytes f.bytes) → IsSome o → IfSome o (λ f. page ≡ f.bytes) → IsPageBytes page
page_at None page pages some is = cc
page_at (Some f) page pages some is = rw is (pages f refl)

-- the bytes of a filled slot
pub page_of : (s : Slots) (i : ℕ) (page : List ℕ) → ArePages s → i < length s → IsSome (frame_at s i) → IfSome (frame_at s i) (λ f. page ≡ f.bytes) → IsPageBytes page
page_of s i page pages below some is = page_at (frame_at s i) page (λ f at. pages i f (has_of_frame s i f below at)) some is
