-- A text that is read line by line, to its end, by what a line says and which item is the last.
use Rattle.std.proofs.Common.{◌≡◌, ◌⊎◌, inl, inr, ℕ, ◌+◌, ◌-◌, ◌<◌, ◌≤◌, Bool, true, false, cond, List, [], ◌∷◌, ◌++◌, length, take, drop, Option, Some, None, refl, sym, ap, ◌∙◌, arith, append_assoc, append-nil, length-append}
use Rattle.std.specs.List.{join_with_byte, list_any}
use Rattle.std.proofs.lemmas.List.Folds.{list_any-append}
use Rattle.std.specs.Io.KnownBytes.{Consumes, IsAtEnd}
use Rattle.std.proofs.KnownBytes.{Consumes-trans, Consumes-nil}
use Rattle.std.proofs.Math.Seq.{take-append_seam, take-append-add}
use Rattle.std.proofs.lemmas.List.{drop-drop}
use Rattle.std.proofs.lemmas.List.Splits.{join_with_byte-slice_split}
use Rattle.trace_io.specs.Stream.{Misses}
use Rattle.trace_io.specs.Items.{parts_of, items_of, whole_items_of, left_after, FitsIn}
use Rattle.trace_io.specs.Progress.{Progress}
use Rattle.trace_io.specs.Taken.{TakesSaid, TakesPart}
use Rattle.trace_io.specs.ItemCourse.{AreItems, HasAllItems, HasWholeItems, HasItems}
use Rattle.trace_io.specs.declared.progress.Stop.{Stop}
use Rattle.trace_io.specs.declared.progress.Stop.TheVariants as stop
use Rattle.trace_io.proofs.Cuts.{split_first, split_none}
use Rattle.trace_io.proofs.ItemLemmas.{items_of-line, whole_items_of-line, items_of-nil, items_of-last, whole_items_of-part}

take_append_long : (xs ys : List ℕ) (n : ℕ) → length xs ≤ n → take n (xs ++ ys) ≡ xs ++ take (n - length xs) ys
take_append_long xs ys n le =
    let more : n ≡ length xs + (n - length xs) = omega arith in
    ap (λ k. take k (xs ++ ys)) more ∙ take-append-add xs ys (n - length xs)

short_by_end : (b bytes s : List ℕ) (q : Progress) → b ≡ bytes ++ s → s ≡ [] → q.taken ≡ length bytes → q.taken < q.limit → length b < q.limit
short_by_end b bytes s q is end count below =
    let all : b ≡ bytes = is ∙ ap (λ r. bytes ++ r) end ∙ append-nil bytes in
    omega (arith, ap length all, count, below)

last_whole : {A : Type 0} (b : Bool) (item : Option A) (none : List (Option A)) → none ≡ [] → item ∷ cond b [] none ≡ item ∷ []
last_whole true item none e = refl
last_whole false item none e = ap (λ r. item ∷ r) e

module _ {A : Type 0} (meaning : List ℕ → Option A) (is_last : Option A → Bool) where
  pub AreItems-nil : AreItems meaning is_last [] []
  AreItems-nil = record { reads = λ s. refl; whole = λ s. refl; parts = λ s. refl; none_last = refl }

  -- one line more
  pub AreItems-push : (bytes : List ℕ) (items : List (Option A)) (line : List ℕ) → AreItems meaning is_last bytes items → Misses 10 line → is_last (meaning line) ≡ false
      → AreItems meaning is_last (bytes ++ (line ++ 10 ∷ [])) (items ++ meaning line ∷ [])
  AreItems-push bytes items line are misses going =
      let item = meaning line in
      let regroup : (s : List ℕ) → (bytes ++ (line ++ 10 ∷ [])) ++ s ≡ bytes ++ (line ++ 10 ∷ s) = λ s. append_assoc bytes (line ++ 10 ∷ []) s ∙ ap (λ r. bytes ++ r) (append_assoc line (10 ∷ []) s) in
      record {
        reads = λ s. let step : items_of meaning is_last (line ++ 10 ∷ s) ≡ item ∷ items_of meaning is_last s = items_of-line meaning is_last line s misses ∙ ap (λ b. item ∷ cond b [] (items_of meaning is_last s)) going in
            ap (items_of meaning is_last) (regroup s) ∙ are.reads (line ++ 10 ∷ s) ∙ ap (λ r. items ++ r) step ∙ sym (append_assoc items (item ∷ []) (items_of meaning is_last s));
        whole = λ s. let step : whole_items_of meaning is_last (line ++ 10 ∷ s) ≡ item ∷ whole_items_of meaning is_last s = whole_items_of-line meaning is_last line s misses ∙ ap (λ b. item ∷ cond b [] (whole_items_of meaning is_last s)) going in
            ap (whole_items_of meaning is_last) (regroup s) ∙ are.whole (line ++ 10 ∷ s) ∙ ap (λ r. items ++ r) step ∙ sym (append_assoc items (item ∷ []) (whole_items_of meaning is_last s));
        parts = λ s.
            ap (λ n. drop n (parts_of ((bytes ++ (line ++ 10 ∷ [])) ++ s))) (length-append items (item ∷ []))
            ∙ ap (λ r. drop (length items + 1) (parts_of r)) (regroup s)
            ∙ sym (drop-drop 1 (length items) (parts_of (bytes ++ (line ++ 10 ∷ s))))
            ∙ ap (drop 1) (are.parts (line ++ 10 ∷ s))
            ∙ ap (drop 1) (split_first 10 line s misses);
        none_last = let here : list_any is_last (item ∷ []) ≡ false = rw going refl in list_any-append is_last items (item ∷ []) ∙ rw (are.none_last, here) refl;
      }

  -- the last line with its line feed
  last_items : (bytes : List ℕ) (items : List (Option A)) (line s : List ℕ) → AreItems meaning is_last bytes items → Misses 10 line → is_last (meaning line) ≡ true
      → items_of meaning is_last (bytes ++ (line ++ 10 ∷ s)) ≡ items ++ meaning line ∷ []
  last_items bytes items line s are misses last =
      are.reads (line ++ 10 ∷ s) ∙ ap (λ r. items ++ r) (items_of-line meaning is_last line s misses ∙ ap (λ b. meaning line ∷ cond b [] (items_of meaning is_last s)) last)

  rest_after : (b : List ℕ) (items : List (Option A)) (s : List ℕ) → items_of meaning is_last b ≡ items → drop (length items) (parts_of b) ≡ parts_of s → left_after meaning is_last b ≡ s
  unfolding left_after
  rest_after b items s is parts =
      ap (λ r. join_with_byte 10 (drop (length r) (parts_of b))) is ∙ ap (join_with_byte 10) parts ∙ join_with_byte-slice_split 10 s

  rest_none : (b : List ℕ) (items : List (Option A)) → items_of meaning is_last b ≡ items → drop (length items) (parts_of b) ≡ [] → left_after meaning is_last b ≡ []
  unfolding left_after
  rest_none b items is parts =
      ap (λ r. join_with_byte 10 (drop (length r) (parts_of b))) is ∙ ap (join_with_byte 10) parts

  one_past : (bytes : List ℕ) (items : List (Option A)) (item : Option A) (s : List ℕ) → AreItems meaning is_last bytes items → drop (length (items ++ item ∷ [])) (parts_of (bytes ++ s)) ≡ drop 1 (parts_of s)
  one_past bytes items item s are =
      ap (λ n. drop n (parts_of (bytes ++ s))) (length-append items (item ∷ [])) ∙ sym (drop-drop 1 (length items) (parts_of (bytes ++ s))) ∙ ap (drop 1) (are.parts s)

  short_by_feed : (bytes line s : List ℕ) (items : List (Option A)) (limit : ℕ) → AreItems meaning is_last bytes items → Misses 10 line → is_last (meaning line) ≡ true
      → length (bytes ++ (line ++ 10 ∷ [])) ≤ limit → list_any is_last (whole_items_of meaning is_last (take limit ((bytes ++ (line ++ 10 ∷ [])) ++ s))) ≡ true
  short_by_feed bytes line s items limit are misses last within =
      let prefix = bytes ++ (line ++ 10 ∷ []) in
      let after = take (limit - length prefix) s in
      let cut : take limit (prefix ++ s) ≡ bytes ++ (line ++ 10 ∷ after) =
      take_append_long prefix s limit within ∙ append_assoc bytes (line ++ 10 ∷ []) after ∙ ap (λ r. bytes ++ r) (append_assoc line (10 ∷ []) after) in
      let is : whole_items_of meaning is_last (take limit (prefix ++ s)) ≡ items ++ meaning line ∷ [] =
      ap (whole_items_of meaning is_last) cut ∙ are.whole (line ++ 10 ∷ after) ∙ ap (λ r. items ++ r) (whole_items_of-line meaning is_last line after misses ∙ ap (λ b. meaning line ∷ cond b [] (whole_items_of meaning is_last after)) last) in
      let here : list_any is_last (meaning line ∷ []) ≡ true = rw last refl in
      ap (list_any is_last) is ∙ list_any-append is_last items (meaning line ∷ []) ∙ rw (are.none_last, here) refl

  all_by_feed : (a c : Option (List ℕ)) (q : Progress) (bytes line : List ℕ) (items : List (Option A)) → AreItems meaning is_last bytes items → Misses 10 line → is_last (meaning line) ≡ true
      → Consumes a c (bytes ++ (line ++ 10 ∷ [])) → q.taken ≡ length (bytes ++ (line ++ 10 ∷ [])) → q.taken ≤ q.limit → HasAllItems meaning is_last a c q.taken q.limit (items ++ meaning line ∷ [])
  all_by_feed None c q bytes line items are misses last took count within = record { bytes = bytes ++ (line ++ 10 ∷ []); took = took; count = count; items_are = tt; rest_is = tt; short = tt }
  all_by_feed (Some b) None q bytes line items are misses last took count within = absurd took
  all_by_feed (Some b) (Some s) q bytes line items are misses last took count within =
      let whole : b ≡ bytes ++ (line ++ 10 ∷ s) = took ∙ append_assoc bytes (line ++ 10 ∷ []) s ∙ ap (λ r. bytes ++ r) (append_assoc line (10 ∷ []) s) in
      let is : items_of meaning is_last b ≡ items ++ meaning line ∷ [] = ap (items_of meaning is_last) whole ∙ last_items bytes items line s are misses last in
      let parts : drop (length (items ++ meaning line ∷ [])) (parts_of b) ≡ parts_of s =
      ap (λ r. drop (length (items ++ meaning line ∷ [])) (parts_of r)) whole ∙ one_past bytes items (meaning line) (line ++ 10 ∷ s) are ∙ ap (drop 1) (split_first 10 line s misses) in
      record {
        bytes = bytes ++ (line ++ 10 ∷ []);
        took = took;
        count = count;
        items_are = is;
        rest_is = ap Some (sym (rest_after b (items ++ meaning line ∷ []) s is parts));
        short = inr (ap (λ r. list_any is_last (whole_items_of meaning is_last (take q.limit r))) took ∙ short_by_feed bytes line s items q.limit are misses last (rw count at within));
      }

  all_by_end : (a c : Option (List ℕ)) (q : Progress) (bytes line : List ℕ) (items : List (Option A)) → AreItems meaning is_last bytes items → Misses 10 line → 0 < length line
      → Consumes a c (bytes ++ line) → IsAtEnd c → q.taken ≡ length (bytes ++ line) → q.taken < q.limit → HasAllItems meaning is_last a c q.taken q.limit (items ++ meaning line ∷ [])
  all_by_end None c q bytes line items are misses some took end count below = record { bytes = bytes ++ line; took = took; count = count; items_are = tt; rest_is = tt; short = tt }
  all_by_end (Some b) None q bytes line items are misses some took end count below = absurd took
  all_by_end (Some b) (Some s) q bytes line items are misses some took end count below =
      let whole : b ≡ bytes ++ line = took ∙ ap (λ r. (bytes ++ line) ++ r) end ∙ append-nil (bytes ++ line) in
      let is : items_of meaning is_last b ≡ items ++ meaning line ∷ [] = ap (items_of meaning is_last) whole ∙ are.reads line ∙ ap (λ r. items ++ r) (items_of-last meaning is_last line misses some) in
      let parts : drop (length (items ++ meaning line ∷ [])) (parts_of b) ≡ [] =
      ap (λ r. drop (length (items ++ meaning line ∷ [])) (parts_of r)) whole ∙ one_past bytes items (meaning line) line are ∙ ap (drop 1) (split_none 10 line misses) in
      record {
        bytes = bytes ++ line;
        took = took;
        count = count;
        items_are = is;
        rest_is = ap Some (end ∙ sym (rest_none b (items ++ meaning line ∷ []) is parts));
        short = inl (short_by_end b (bytes ++ line) s q took end count below);
      }

  all_by_nothing : (a c : Option (List ℕ)) (p : Progress) (bytes : List ℕ) (items : List (Option A)) → AreItems meaning is_last bytes items → Consumes a c bytes → IsAtEnd c
      → p.taken ≡ length bytes → p.taken < p.limit → HasAllItems meaning is_last a c p.taken p.limit items
  all_by_nothing None c p bytes items are took end count below = record { bytes = bytes; took = took; count = count; items_are = tt; rest_is = tt; short = tt }
  all_by_nothing (Some b) None p bytes items are took end count below = absurd took
  all_by_nothing (Some b) (Some s) p bytes items are took end count below =
      let whole : b ≡ bytes ++ [] = took ∙ ap (λ r. bytes ++ r) end in
      let is : items_of meaning is_last b ≡ items = ap (items_of meaning is_last) whole ∙ are.reads [] ∙ ap (λ r. items ++ r) (items_of-nil meaning is_last) ∙ append-nil items in
      let parts : drop (length items) (parts_of b) ≡ parts_of s = ap (λ r. drop (length items) (parts_of r)) whole ∙ are.parts [] ∙ ap parts_of (sym end) in
      record {
        bytes = bytes;
        took = took;
        count = count;
        items_are = is;
        rest_is = ap Some (sym (rest_after b items s is parts));
        short = inl (short_by_end b bytes s p took end count below);
      }

  -- no line is read yet
  pub HasItems-none : (a : Option (List ℕ)) (p : Progress) → p.taken ≡ 0 → p.stopped ≡ None → HasItems meaning is_last a a p []
  HasItems-none a p zero none = record { bytes = []; took = Consumes-nil a; count = zero; goes_on = rw none AreItems-nil }

  -- what a line leads to, by how it ended
  pub HasItems-line : (a b c : Option (List ℕ)) (p q : Progress) (items : List (Option A)) (item : Option A) → HasItems meaning is_last a b p items → p.stopped ≡ None → TakesSaid meaning item b c p q
      → is_last item ≡ false → HasItems meaning is_last a c q (items ++ item ∷ [])
  HasItems-line a b c p q items item read none takes going =
      let are : AreItems meaning is_last read.bytes items = rw none at read.goes_on in
      let took = Consumes-trans a b c read.bytes takes.bytes read.took takes.took in
      let count : q.taken ≡ length (read.bytes ++ takes.bytes) = omega (arith, takes.taken, read.count, length-append read.bytes takes.bytes) in
      elim takes.ends [
        | inl fed ↦ record { bytes = read.bytes ++ takes.bytes; took = took; count = count; goes_on = rw (fed.1, takes.says, fed.0) (AreItems-push read.bytes items takes.line are takes.misses (rw takes.says at going)) }
        | inr ended ↦ record { bytes = read.bytes ++ takes.bytes; took = took; count = count; goes_on = rw (ended.3, takes.says) (all_by_end a c q read.bytes takes.line items are takes.misses ended.1 (rw ended.0 at took) ended.2 (rw ended.0 at count) ended.4, ended.2) }
      ]

  -- the line that ends the trace
  pub HasItems-last : (a b c : Option (List ℕ)) (p q : Progress) (items : List (Option A)) (item : Option A) → HasItems meaning is_last a b p items → p.stopped ≡ None → TakesSaid meaning item b c p q
      → is_last item ≡ true → HasAllItems meaning is_last a c q.taken q.limit (items ++ item ∷ [])
  HasItems-last a b c p q items item read none takes last =
      let are : AreItems meaning is_last read.bytes items = rw none at read.goes_on in
      let took = Consumes-trans a b c read.bytes takes.bytes read.took takes.took in
      let count : q.taken ≡ length (read.bytes ++ takes.bytes) = omega (arith, takes.taken, read.count, length-append read.bytes takes.bytes) in
      elim takes.ends [
        | inl fed ↦ rw takes.says (all_by_feed a c q read.bytes takes.line items are takes.misses (rw takes.says at last) (rw fed.0 at took) (rw fed.0 at count) takes.within)
        | inr ended ↦ rw takes.says (all_by_end a c q read.bytes takes.line items are takes.misses ended.1 (rw ended.0 at took) ended.2 (rw ended.0 at count) ended.4)
      ]

  -- the source has ended
  pub HasItems-end : (a b c : Option (List ℕ)) (p : Progress) (items : List (Option A)) → HasItems meaning is_last a b p items → p.stopped ≡ None → Consumes b c [] → IsAtEnd c → p.taken < p.limit → HasAllItems meaning is_last a c p.taken p.limit items
  HasItems-end a b c p items read none took end below =
      let are : AreItems meaning is_last read.bytes items = rw none at read.goes_on in
      all_by_nothing a c p read.bytes items are (rw append-nil at (Consumes-trans a b c read.bytes [] read.took took)) end read.count below

  -- part of a line was taken
  pub HasItems-part : (a b c : Option (List ℕ)) (p q : Progress) (why : Stop) (items : List (Option A)) → HasItems meaning is_last a b p items → p.stopped ≡ None → TakesPart why b c p q → HasWholeItems meaning is_last a c q.taken items
  HasItems-part a b c p q why items read none takes =
      let are : AreItems meaning is_last read.bytes items = rw none at read.goes_on in
      record {
        bytes = read.bytes ++ takes.part;
        took = Consumes-trans a b c read.bytes takes.part read.took takes.took;
        count = omega (arith, takes.taken, read.count, length-append read.bytes takes.part);
        items_are = are.whole takes.part ∙ ap (λ r. items ++ r) (whole_items_of-part meaning is_last takes.part takes.misses) ∙ append-nil items;
      }

  -- a line was taken, whether or not it is answered
  pub HasItems-item : (a b c : Option (List ℕ)) (p q : Progress) (items : List (Option A)) (item : Option A) → HasItems meaning is_last a b p items → p.stopped ≡ None → TakesSaid meaning item b c p q
      → HasWholeItems meaning is_last a c q.taken (items ++ item ∷ []) ⊎ (HasAllItems meaning is_last a c q.taken q.limit (items ++ item ∷ []) × IsAtEnd c)
  HasItems-item a b c p q items item read none takes =
      let are : AreItems meaning is_last read.bytes items = rw none at read.goes_on in
      let took = Consumes-trans a b c read.bytes takes.bytes read.took takes.took in
      let count : q.taken ≡ length (read.bytes ++ takes.bytes) = omega (arith, takes.taken, read.count, length-append read.bytes takes.bytes) in
      elim takes.ends [
        | inl fed ↦
            let none_left : whole_items_of meaning is_last [] ≡ [] = whole_items_of-part meaning is_last [] (λ k l. absurd (omega arith)) in
            let line_is : whole_items_of meaning is_last (takes.line ++ 10 ∷ []) ≡ meaning takes.line ∷ [] = whole_items_of-line meaning is_last takes.line [] takes.misses ∙ last_whole (is_last (meaning takes.line)) (meaning takes.line) (whole_items_of meaning is_last []) none_left in
            inl (record {
              bytes = read.bytes ++ takes.bytes;
              took = took;
              count = count;
              items_are = ap (λ r. whole_items_of meaning is_last (read.bytes ++ r)) fed.0 ∙ are.whole (takes.line ++ 10 ∷ []) ∙ ap (λ r. items ++ r) (line_is ∙ ap (λ i. i ∷ []) (sym takes.says));
            })
        | inr ended ↦ inr (rw takes.says (all_by_end a c q read.bytes takes.line items are takes.misses ended.1 (rw ended.0 at took) ended.2 (rw ended.0 at count) ended.4), ended.2)
      ]

  pub HasItems-none_last : (a b : Option (List ℕ)) (p : Progress) (items : List (Option A)) → HasItems meaning is_last a b p items → p.stopped ≡ None → list_any is_last items ≡ false
  HasItems-none_last a b p items read none = let are : AreItems meaning is_last read.bytes items = rw none at read.goes_on in are.none_last

  long_past : (b : List ℕ) (c : Option (List ℕ)) (bytes : List ℕ) (limit : ℕ) → Consumes (Some b) c bytes → length bytes ≡ limit → list_any is_last (whole_items_of meaning is_last bytes) ≡ false
      → FitsIn meaning is_last limit b → ⊥
  long_past b None bytes limit took size none short = absurd took
  long_past b (Some s) bytes limit took size none (inl below) = omega (arith, ap length took, length-append bytes s)
  long_past b (Some s) bytes limit took size none (inr ends) =
      let prefix : take limit b ≡ bytes = ap (take limit) took ∙ rw (sym size) (take-append_seam bytes s) in
      cc

  -- where the limit was met, the trace is not short enough
  pub HasItems-long : (b : List ℕ) (mid c : Option (List ℕ)) (p q : Progress) (items : List (Option A)) → HasItems meaning is_last (Some b) mid p items → p.stopped ≡ None → TakesPart stop.Long mid c p q
      → q.taken ≡ q.limit → FitsIn meaning is_last q.limit b → ⊥
  HasItems-long b mid c p q items read none takes met =
      let whole = HasItems-part (Some b) mid c p q stop.Long items read none takes in
      long_past b c whole.bytes q.limit whole.took (sym whole.count ∙ met) (ap (list_any is_last) whole.items_are ∙ HasItems-none_last (Some b) mid p items read none)
