-- Lines for a pair, one by one.
use Rattle.std.proofs.Common.{◌≡◌, inl, inr, ℕ, List, [], ◌∷◌, ◌++◌, true, false, Bool, Option, Some, None, refl, sym, ap, ◌∙◌, subst, append-nil}
use Rattle.std.specs.Prelude.{flat_map}
use Rattle.std.specs.Io.KnownBytes.{Consumes, Appends, IsAtEnd}
use Rattle.std.proofs.KnownBytes.{Appends-trans, Appends-nil}
use Rattle.std.proofs.lemmas.List.{flat_map_more}
use Rattle.pair_machine.specs.declared.call.PairReply.{PairReply}
use Rattle.trace_io.specs.PairGrammar.{pair_item_of, is_last_pair_item}
use Rattle.trace_io.specs.PairLines.{TakesPairLine}
use Rattle.trace_io.specs.PairReading.{pair_reading, whole_pair_reading}
use Rattle.trace_io.specs.PairText.{pair_text}
use Rattle.trace_io.specs.ItemCourse.{HasItems, ItemsGoOn}
use Rattle.trace_io.specs.Progress.{Progress}
use Rattle.trace_io.specs.declared.progress.Stop.{Stop}
use Rattle.trace_io.specs.declared.progress.Stop.TheVariants as stop
use Rattle.trace_io.proofs.ItemCourseLemmas.{HasItems-none, HasItems-line, HasItems-item, HasItems-last}
use Rattle.pair_session.specs.Ended.{HasTaken, TakesToLast, closes}
use Rattle.pair_session.specs.Lines.{AreTo, Item, Suits}
use Rattle.pair_session.proofs.LineLemmas.{closes_more, to_more}

-- So many lines are answered, and this holds of them.
pub record Going (a b t u : Option (List ℕ)) (p : Progress) (holds : List Item → List PairReply → Type 0) : Type 0 where
  pub items : List Item
  pub replies : List PairReply
  pub read : HasItems pair_item_of is_last_pair_item a b p items
  pub wrote : Appends t u (flat_map pair_text replies)
  pub suit : AreTo items replies
  pub none_last : closes items ≡ false
  pub are : holds items replies

pub Going-start : (a t : Option (List ℕ)) (p : Progress) (holds : List Item → List PairReply → Type 0) → p.taken ≡ 0 → p.stopped ≡ None → holds [] [] → Going a a t t p holds
Going-start a t p holds zero none are = record {
  items = [];
  replies = [];
  read = HasItems-none pair_item_of is_last_pair_item a p zero none;
  wrote = Appends-nil t;
  suit = tt;
  none_last = refl;
  are = are;
}

module _ {a b t u : Option (List ℕ)} {p : Progress} {holds : List Item → List PairReply → Type 0} (going : Going a b t u p holds) where
  -- a line was answered, and others follow
  pub Going-more : {c v : Option (List ℕ)} {q : Progress} {item : Item} {then : List Item → List PairReply → Type 0} (r : PairReply) → p.stopped ≡ None → TakesPairLine item b c p q → is_last_pair_item item ≡ false → Suits item r
      → ((items : List Item) (rs : List PairReply) → holds items rs → then (items ++ item ∷ []) (rs ++ r ∷ [])) → Appends u v (pair_text r) → Going a c t v q then
  Going-more {c = c} {v = v} {q = q} {item = item} r none takes more is grows wrote = record {
    items = going.items ++ item ∷ [];
    replies = going.replies ++ r ∷ [];
    read = HasItems-line pair_item_of is_last_pair_item a b c p q going.items item going.read none takes more;
    wrote = subst (λ (bytes : List ℕ). Appends t v bytes) (flat_map_more pair_text [] going.replies r) (Appends-trans t u v (flat_map pair_text going.replies) (pair_text r) going.wrote wrote);
    suit = to_more going.items going.replies item r going.suit is;
    none_last = closes_more going.items item going.none_last more;
    are = grows going.items going.replies going.are;
  }

  -- these very lines
  Going-tied : Going a b t u p (λ items rs. (items ≡ going.items) × (rs ≡ going.replies))
  Going-tied = record { items = going.items; replies = going.replies; read = going.read; wrote = going.wrote; suit = going.suit; none_last = going.none_last; are = (refl, refl) }

  -- what is so where source and sink reveal their bytes
  pub Going-revealed : {x y : List ℕ} → a ≡ Some x → t ≡ Some y → (so : List Item → List PairReply → Type 0)
      → ((more : Going (Some x) b (Some y) u p (λ items rs. (items ≡ going.items) × (rs ≡ going.replies))) → so more.items more.replies) → so going.items going.replies
  Going-revealed {x = x} source sink so from =
      let tied : List Item → List PairReply → Type 0 = λ items rs. (items ≡ going.items) × (rs ≡ going.replies) in
      let more = subst (λ (s : Option (List ℕ)). Going (Some x) b s u p tied) sink (subst (λ (r : Option (List ℕ)). Going r b t u p tied) source Going-tied) in
      subst (λ (xs : List Item). so xs going.replies) more.are.0 (subst (λ (ys : List PairReply). so more.items ys) more.are.1 (from more))

  pub Going-source : {x : List ℕ} → a ≡ Some x → Going (Some x) b t u p holds
  Going-source source = subst (λ (r : Option (List ℕ)). Going r b t u p holds) source going

-- What a source and a sink that reveal their bytes have then.

pub revealed_bytes : (t : List ℕ) (u : Option (List ℕ)) (out : List ℕ) → Appends (Some t) u out → u ≡ Some (t ++ out)
revealed_bytes t None out wrote = absurd wrote
revealed_bytes t (Some y) out wrote = ap Some wrote

pub revealed_end : (x : List ℕ) (c : Option (List ℕ)) (bytes : List ℕ) → Consumes (Some x) c bytes → IsAtEnd c → c ≡ Some []
revealed_end x None bytes took end = absurd took
revealed_end x (Some s) bytes took end = ap Some end

-- lines that were read are the first of the text's, whether or not the source is at its end
pub read_prefix : (x : List ℕ) (b : Option (List ℕ)) (p : Progress) (items : List Item) → HasItems pair_item_of is_last_pair_item (Some x) b p items → (more : List Item) × (pair_reading x ≡ items ++ more)
read_prefix x b p items read = from b read.took p.stopped read.goes_on
  where
    from : (b : Option (List ℕ)) → Consumes (Some x) b read.bytes → (s : Option Stop) → ItemsGoOn pair_item_of is_last_pair_item s (Some x) b p.taken p.limit read.bytes items → (more : List Item) × (pair_reading x ≡ items ++ more)
    from None took s goes = absurd took
    from (Some s) took None goes = (pair_reading s, ap pair_reading took ∙ goes.reads s)
    from (Some s) took (Some stop.End) goes = ([], goes.0.items_are ∙ sym (append-nil items))
    from (Some s) took (Some stop.ReadFault) goes = absurd goes
    from (Some s) took (Some stop.Long) goes = absurd goes

-- so many bytes were taken, with these lines
pub has_taken : (x : List ℕ) (c : Option (List ℕ)) (bytes : List ℕ) (items more : List Item) → Consumes (Some x) c bytes → pair_reading x ≡ items ++ more
    → (taken : HasTaken x c items) × (taken.bytes ≡ bytes) × (IsAtEnd c → taken.rest ≡ []) × (taken.more ≡ more)
has_taken x None bytes items more took first = absurd took
has_taken x (Some s) bytes items more took first = (record { bytes = bytes; rest = s; all = took; left_is = refl; more = more; first = first }, refl, λ end. end, refl)

-- the last line that was read is one of the whole ones, or the last of all
pub to_last : (x : List ℕ) (b c : Option (List ℕ)) (p q : Progress) (items : List Item) (item : Item) → HasItems pair_item_of is_last_pair_item (Some x) b p items → p.stopped ≡ None → TakesPairLine item b c p q
    → TakesToLast x c (items ++ item ∷ [])
to_last x b c p q items item read none takes =
    let lines : List Item = items ++ item ∷ [] in
    let prefix = first (is_last_pair_item item) refl in
    elim (HasItems-item pair_item_of is_last_pair_item (Some x) b c p q items item read none takes) [
      | inl whole ↦
          let taken = has_taken x c whole.bytes lines prefix.0 whole.took prefix.1 in
          (taken.0, inl (ap whole_pair_reading taken.1 ∙ whole.items_are))
      | inr all ↦
          let taken = has_taken x c all.0.bytes lines [] all.0.took (all.0.items_are ∙ sym (append-nil lines)) in
          (taken.0, inr (taken.2 all.1, taken.3))
    ]
  where
    first : (last : Bool) → is_last_pair_item item ≡ last → (more : List Item) × (pair_reading x ≡ (items ++ item ∷ []) ++ more)
    first false is = read_prefix x c q (items ++ item ∷ []) (HasItems-line pair_item_of is_last_pair_item (Some x) b c p q items item read none takes is)
    first true is = ([], (HasItems-last pair_item_of is_last_pair_item (Some x) b c p q items item read none takes is).items_are ∙ sym (append-nil (items ++ item ∷ [])))
