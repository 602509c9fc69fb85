-- A slot that is put into a chain, or taken out of one.
use Rattle.std.proofs.Common.{◌≡◌, ◌≢◌, ◌<◌, ◌≤◌, ◌∙◌, ℕ, List, Option, Some, None, ap, sym, length, get_or, set, arith, inl, inr, IfSome, get_or-set_same, get_or-set_other, length-set}
use Rattle.std.proofs.lemmas.Bool.{cases_eq, cases_lt}
use Rattle.std.proofs.lemmas.Option.{same_Some, none-some}
use Rattle.frame_pool.specs.Lists.{Lists, IsSized}
use Rattle.frame_pool.specs.Index.{IsAtMost, IsLastBelow, IsFirstAbove, IsIndex, Puts}

-- no slot of the bucket lies between the two
abbrev Gap : (ℕ → Option ℕ) → ℕ → ℕ → ℕ → Type 0
Gap before bucket slot limit = (other : ℕ) → slot < other → other < limit → before other ≡ Some bucket → ⊥

at_most_more : (a b : ℕ) (r : Option ℕ) → a ≤ b → IsAtMost b r → IsAtMost a r
at_most_more a b None less most = most
at_most_more a b (Some s) less most = omega (arith, less, most)

gap_above : (before : ℕ → Option ℕ) (bucket slot n above : ℕ) → above ≤ n → IsFirstAbove before bucket slot n (Some above) → Gap before bucket slot above
gap_above before bucket slot n above most first other more below is =
    let inside : other < n = omega (arith, below, most) in
    let least = first.covers other more inside is in
    omega (arith, below, least)

-- the slot is put in

within_put : (before at : ℕ → Option ℕ) (slot bucket c limit : ℕ) (r : Option ℕ) → Puts before slot (Some bucket) at → before slot ≡ None
    → IfSome r (λ s. (s < limit) × (before s ≡ Some c)) → IfSome r (λ s. (s < limit) × (at s ≡ Some c))
within_put before at slot bucket c limit None puts empty within = tt
within_put before at slot bucket c limit (Some s) puts empty within =
    let apart : s ≢ slot = λ same. none-some c (sym empty ∙ ap before (sym same) ∙ within.1) in
    (within.0, puts.others s apart ∙ within.1)

-- the last slot stays the last one where the new slot is not above it
last_put : (before at : ℕ → Option ℕ) (slot bucket c limit : ℕ) (r : Option ℕ) → Puts before slot (Some bucket) at → before slot ≡ None
    → (c ≡ bucket → slot < limit → IsAtMost slot r) → IsLastBelow before c limit r → IsLastBelow at c limit r
last_put before at slot bucket c limit r puts empty under last = record {
  within = within_put before at slot bucket c limit r puts empty last.within;
  covers = λ other below is. elim (cases_eq other slot) [
    | inl same ↦
        let own : c ≡ bucket = sym (same_Some bucket c (sym puts.here ∙ ap at (sym same) ∙ is)) in
        let low : slot < limit = omega (arith, same, below) in
        rw same (under own low)
    | inr apart ↦ last.covers other below (sym (puts.others other apart) ∙ is)
  ];
}

-- the new slot is the last one where none is above it
last_new : (before at : ℕ → Option ℕ) (slot bucket limit : ℕ) → Puts before slot (Some bucket) at → slot < limit → Gap before bucket slot limit → IsLastBelow at bucket limit (Some slot)
last_new before at slot bucket limit puts low gap = record {
  within = (low, puts.here);
  covers = λ other below is. elim (cases_lt slot other) [
    | inl more ↦
        let apart : other ≢ slot = omega (arith, more) in
        absurd (gap other more below (sym (puts.others other apart) ∙ is))
    | inr most ↦ most
  ];
}

within_below : (before at : ℕ → Option ℕ) (slot bucket limit : ℕ) (r : Option ℕ) → Puts before slot (Some bucket) at → before slot ≡ None → Gap before bucket slot limit
    → IfSome r (λ s. (s < limit) × (before s ≡ Some bucket)) → IfSome r (λ s. (s < slot) × (at s ≡ Some bucket))
within_below before at slot bucket limit None puts empty gap within = tt
within_below before at slot bucket limit (Some s) puts empty gap within =
    let apart : s ≢ slot = λ same. none-some bucket (sym empty ∙ ap before (sym same) ∙ within.1) in
    elim (cases_lt slot s) [
      | inl more ↦ absurd (gap s more within.0 within.1)
      | inr most ↦ (omega (arith, apart, most), puts.others s apart ∙ within.1)
    ]

-- what was last below the limit is last below the new slot
last_below : (before at : ℕ → Option ℕ) (slot bucket limit : ℕ) (r : Option ℕ) → Puts before slot (Some bucket) at → before slot ≡ None → slot < limit → Gap before bucket slot limit
    → IsLastBelow before bucket limit r → IsLastBelow at bucket slot r
last_below before at slot bucket limit r puts empty low gap last = record {
  within = within_below before at slot bucket limit r puts empty gap last.within;
  covers = λ other below is.
      let apart : other ≢ slot = omega (arith, below) in
      let inside : other < limit = omega (arith, below, low) in
      last.covers other inside (sym (puts.others other apart) ∙ is);
}

-- the lists of a table with these chains
abbrev with_chains : Lists → List (Option ℕ) → List (Option ℕ) → Lists
with_chains lists heads nexts = record lists { heads = heads; nexts = nexts }

pub linked_above : (lists : Lists) (before at : ℕ → Option ℕ) (slot bucket above : ℕ) → IsSized lists → ((i c : ℕ) → before i ≡ Some c → i < length lists.frames) → slot < length lists.frames → IsIndex before lists → before slot ≡ None
    → IsFirstAbove before bucket slot (length lists.frames) (Some above) → Puts before slot (Some bucket) at
    → IsIndex at (with_chains lists lists.heads (set (set lists.nexts slot (get_or lists.nexts above None)) above (Some slot)))
linked_above lists before at slot bucket above sized ranges inside index empty first puts =
    let n = length lists.frames in
    let up : slot < above = first.within.0 in
    let top : above < n = first.within.1 in
    let there : before above ≡ Some bucket = first.within.2 in
    let most : above ≤ n = omega (arith, top) in
    let gap : Gap before bucket slot above = gap_above before bucket slot n above most first in
    let apart : above ≢ slot = omega (arith, up) in
    let nexts_long : length lists.nexts ≡ n = sized.nexts in
    let slot_fits : slot < length lists.nexts = omega (arith, nexts_long, inside) in
    let first_set = set lists.nexts slot (get_or lists.nexts above None) in
    let above_fits : above < length first_set = rw (length-set lists.nexts slot (get_or lists.nexts above None)) (omega (arith, nexts_long, top)) in
    record {
      heads = λ c below.
          let last = index.heads c below in
          last_put before at slot bucket c n _ puts empty (λ own _.
          let low : slot ≤ above = omega (arith, up) in
          at_most_more slot above _ low (last.covers above top (rw own there))) last;
      links = λ i c is. elim (cases_eq i above) [
        | inl same ↦
            let own : c ≡ bucket = same_Some c bucket (sym is ∙ ap at same ∙ puts.others above apart ∙ there) in
            rw (same, own, get_or-set_same first_set above (Some slot) None above_fits) (last_new before at slot bucket above puts up gap)
        | inr other ↦ elim (cases_eq i slot) [
          | inl same ↦
              let own : c ≡ bucket = same_Some c bucket (sym is ∙ ap at same ∙ puts.here) in
              let back : slot ≢ above = omega (arith, up) in
              rw (same, own, get_or-set_other first_set above slot (Some slot) None back, get_or-set_same lists.nexts slot (get_or lists.nexts above None) None slot_fits)
              (last_below before at slot bucket above _ puts empty up gap (index.links above bucket there))
          | inr neither ↦
              let was : before i ≡ Some c = sym (puts.others i neither) ∙ is in
              let last = index.links i c was in
              rw (get_or-set_other first_set above i (Some slot) None other, get_or-set_other lists.nexts slot i (get_or lists.nexts above None) None neither)
              (last_put before at slot bucket c i _ puts empty (λ own low.
              let below : i < n = ranges i c was in
              let least : above ≤ i = first.covers i low below (rw (sym own) was) in
              let upper : above < i = omega (arith, least, other) in
              let low : slot ≤ above = omega (arith, up) in
              at_most_more slot above _ low (last.covers above upper (rw own there))) last)
        ]
      ];
    }

pub linked_first : (lists : Lists) (before at : ℕ → Option ℕ) (slot bucket : ℕ) → IsSized lists → ((i c : ℕ) → before i ≡ Some c → i < length lists.frames) → bucket < length lists.frames → slot < length lists.frames → IsIndex before lists
    → before slot ≡ None → IsFirstAbove before bucket slot (length lists.frames) None → Puts before slot (Some bucket) at
    → IsIndex at (with_chains lists (set lists.heads bucket (Some slot)) (set lists.nexts slot (get_or lists.heads bucket None)))
linked_first lists before at slot bucket sized ranges bucket_inside inside index empty first puts =
    let n = length lists.frames in
    let gap : Gap before bucket slot n = first.covers in
    let nexts_long : length lists.nexts ≡ n = sized.nexts in
    let heads_long : length lists.heads ≡ n = sized.heads in
    let slot_fits : slot < length lists.nexts = omega (arith, nexts_long, inside) in
    let bucket_fits : bucket < length lists.heads = omega (arith, heads_long, bucket_inside) in
    record {
      heads = λ c below. elim (cases_eq c bucket) [
        | inl same ↦ rw (same, get_or-set_same lists.heads bucket (Some slot) None bucket_fits) (last_new before at slot bucket n puts inside gap)
        | inr other ↦ rw (get_or-set_other lists.heads bucket c (Some slot) None other) (last_put before at slot bucket c n _ puts empty (λ own _. absurd (other own)) (index.heads c below))
      ];
      links = λ i c is. elim (cases_eq i slot) [
        | inl same ↦
            let own : c ≡ bucket = same_Some c bucket (sym is ∙ ap at same ∙ puts.here) in
            rw (same, own, get_or-set_same lists.nexts slot (get_or lists.heads bucket None) None slot_fits)
            (last_below before at slot bucket n _ puts empty inside gap (index.heads bucket bucket_inside))
        | inr neither ↦
            let was : before i ≡ Some c = sym (puts.others i neither) ∙ is in
            rw (get_or-set_other lists.nexts slot i (get_or lists.heads bucket None) None neither)
            (last_put before at slot bucket c i _ puts empty (λ own low. absurd (gap i low (ranges i c was) (rw (sym own) was))) (index.links i c was))
      ];
    }

-- the slot is taken out

within_left : (before at : ℕ → Option ℕ) (slot c limit : ℕ) (r : Option ℕ) → Puts before slot None at → (r ≡ Some slot → ⊥)
    → IfSome r (λ s. (s < limit) × (before s ≡ Some c)) → IfSome r (λ s. (s < limit) × (at s ≡ Some c))
within_left before at slot c limit None puts not_it within = tt
within_left before at slot c limit (Some s) puts not_it within =
    let apart : s ≢ slot = λ same. not_it (ap (λ (x : ℕ). Some x) same) in
    (within.0, puts.others s apart ∙ within.1)

-- a slot that is left is not the one that is taken out
left : (before at : ℕ → Option ℕ) (slot c other : ℕ) → Puts before slot None at → at other ≡ Some c → other ≢ slot
left before at slot c other puts is same = none-some c (sym puts.here ∙ ap at (sym same) ∙ is)

-- the last slot stays the last one where it is another
last_left : (before at : ℕ → Option ℕ) (slot c limit : ℕ) (r : Option ℕ) → Puts before slot None at → (r ≡ Some slot → ⊥) → IsLastBelow before c limit r → IsLastBelow at c limit r
last_left before at slot c limit r puts not_it last = record {
  within = within_left before at slot c limit r puts not_it last.within;
  covers = λ other below is. last.covers other below (sym (puts.others other (left before at slot c other puts is)) ∙ is);
}

within_next : (before at : ℕ → Option ℕ) (slot bucket limit : ℕ) (r : Option ℕ) → Puts before slot None at → slot < limit
    → IfSome r (λ s. (s < slot) × (before s ≡ Some bucket)) → IfSome r (λ s. (s < limit) × (at s ≡ Some bucket))
within_next before at slot bucket limit None puts low within = tt
within_next before at slot bucket limit (Some s) puts low within =
    let below = within.0 in
    let apart : s ≢ slot = omega (arith, below) in
    (omega (arith, below, low), puts.others s apart ∙ within.1)

-- the one after it takes its place
last_next : (before at : ℕ → Option ℕ) (slot bucket limit : ℕ) (r : Option ℕ) → Puts before slot None at → slot < limit → Gap before bucket slot limit → IsLastBelow before bucket slot r → IsLastBelow at bucket limit r
last_next before at slot bucket limit r puts low gap last = record {
  within = within_next before at slot bucket limit r puts low last.within;
  covers = λ other below is.
      let apart : other ≢ slot = left before at slot bucket other puts is in
      let was : before other ≡ Some bucket = sym (puts.others other apart) ∙ is in
      elim (cases_lt slot other) [
        | inl more ↦ absurd (gap other more below was)
        | inr most ↦ last.covers other (omega (arith, most, apart)) was
      ];
}

-- the last slot of a bucket below a limit is not this one, where a higher one of the bucket is below the limit
not_last : (before : ℕ → Option ℕ) (bucket slot above limit : ℕ) (r : Option ℕ) → IsLastBelow before bucket limit r → slot < above → above < limit → before above ≡ Some bucket → r ≡ Some slot → ⊥
not_last before bucket slot above limit r last up below there is =
    let most = rw is at last.covers above below there in
    omega (arith, most, up)

-- nor where the bucket is another
not_other : (before : ℕ → Option ℕ) (bucket c slot limit : ℕ) (r : Option ℕ) → IsLastBelow before c limit r → before slot ≡ Some bucket → c ≢ bucket → r ≡ Some slot → ⊥
not_other before bucket c slot limit r last here apart is =
    let within = rw is at last.within in
    apart (sym (same_Some bucket c (sym here ∙ within.1)))

-- the last slot of a bucket is below the limit
is_below : (before : ℕ → Option ℕ) (c slot limit : ℕ) (r : Option ℕ) → IsLastBelow before c limit r → r ≡ Some slot → slot < limit
is_below before c slot limit r last is = (rw is at last.within).0

pub unlinked_above : (lists : Lists) (before at : ℕ → Option ℕ) (slot bucket above : ℕ) → IsSized lists → ((i c : ℕ) → before i ≡ Some c → i < length lists.frames) → IsIndex before lists → before slot ≡ Some bucket
    → IsFirstAbove before bucket slot (length lists.frames) (Some above) → Puts before slot None at
    → IsIndex at (with_chains lists lists.heads (set lists.nexts above (get_or lists.nexts slot None)))
unlinked_above lists before at slot bucket above sized ranges index here first puts =
    let n = length lists.frames in
    let up : slot < above = first.within.0 in
    let top : above < n = first.within.1 in
    let there : before above ≡ Some bucket = first.within.2 in
    let most : above ≤ n = omega (arith, top) in
    let gap : Gap before bucket slot above = gap_above before bucket slot n above most first in
    let nexts_long : length lists.nexts ≡ n = sized.nexts in
    let above_fits : above < length lists.nexts = omega (arith, nexts_long, top) in
    record {
      heads = λ c below.
          let last = index.heads c below in
          last_left before at slot c n _ puts (λ is. elim (cases_eq c bucket) [
            | inl own ↦ not_last before c slot above n _ last up top (rw own there) is
            | inr other ↦ not_other before bucket c slot n _ last here other is
          ]) last;
      links = λ i c is.
          let apart : i ≢ slot = left before at slot c i puts is in
          let was : before i ≡ Some c = sym (puts.others i apart) ∙ is in
          elim (cases_eq i above) [
            | inl same ↦
                let own : c ≡ bucket = same_Some c bucket (sym was ∙ ap before same ∙ there) in
                rw (same, own, get_or-set_same lists.nexts above (get_or lists.nexts slot None) None above_fits) (last_next before at slot bucket above _ puts up gap (index.links slot bucket here))
            | inr other ↦
                let last = index.links i c was in
                rw (get_or-set_other lists.nexts above i (get_or lists.nexts slot None) None other)
                (last_left before at slot c i _ puts (λ eq. elim (cases_eq c bucket) [
                  | inl own ↦
                      let low : slot < i = is_below before c slot i _ last eq in
                      let least : above ≤ i = first.covers i low (ranges i c was) (rw (sym own) was) in
                      not_last before c slot above i _ last up (omega (arith, least, other)) (rw own there) eq
                  | inr differs ↦ not_other before bucket c slot i _ last here differs eq
                ]) last)
          ];
    }

pub unlinked_first : (lists : Lists) (before at : ℕ → Option ℕ) (slot bucket : ℕ) → IsSized lists → ((i c : ℕ) → before i ≡ Some c → i < length lists.frames) → bucket < length lists.frames → slot < length lists.frames → IsIndex before lists
    → before slot ≡ Some bucket → IsFirstAbove before bucket slot (length lists.frames) None → Puts before slot None at
    → IsIndex at (with_chains lists (set lists.heads bucket (get_or lists.nexts slot None)) lists.nexts)
unlinked_first lists before at slot bucket sized ranges bucket_inside inside index here first puts =
    let n = length lists.frames in
    let gap : Gap before bucket slot n = first.covers in
    let heads_long : length lists.heads ≡ n = sized.heads in
    let bucket_fits : bucket < length lists.heads = omega (arith, heads_long, bucket_inside) in
    record {
      heads = λ c below. elim (cases_eq c bucket) [
        | inl same ↦ rw (same, get_or-set_same lists.heads bucket (get_or lists.nexts slot None) None bucket_fits) (last_next before at slot bucket n _ puts inside gap (index.links slot bucket here))
        | inr other ↦
            let last = index.heads c below in
            rw (get_or-set_other lists.heads bucket c (get_or lists.nexts slot None) None other) (last_left before at slot c n _ puts (not_other before bucket c slot n _ last here other) last)
      ];
      links = λ i c is.
          let apart : i ≢ slot = left before at slot c i puts is in
          let was : before i ≡ Some c = sym (puts.others i apart) ∙ is in
          let last = index.links i c was in
          last_left before at slot c i _ puts (λ eq. elim (cases_eq c bucket) [
            | inl own ↦ gap i (is_below before c slot i _ last eq) (ranges i c was) (rw (sym own) was)
            | inr differs ↦ not_other before bucket c slot i _ last here differs eq
          ]) last;
    }
