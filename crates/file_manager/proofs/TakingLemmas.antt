-- Sectors that a file takes, step after step.
use Rattle.std.proofs.Common.{◌≡◌, ◌≢◌, inl, inr, ℕ, ◌≤◌, Bool, true, false, List, Some, refl, sym, ◌∙◌, ap, subst, arith}
use Rattle.std.specs.Prelude.{slice_get}
use Rattle.std.proofs.lemmas.Bool.{eqb-true, true≢false}
use Rattle.std.proofs.lemmas.Option.{same_Some, slice_get_within}
use Rattle.labelled_disk.specs.declared.label.Label.{Label}
use Rattle.labelled_disk.specs.declared.layout.Layout.{Layout}
use Rattle.labelled_disk.specs.Label.{is_free}
use Rattle.labelled_disk.specs.Sectors.{Sector}
use Rattle.file_map.specs.FileMap.{Triples}
use Rattle.label_calls.specs.Labels.{HasOne}
use Rattle.filer_kernel.specs.Marks.{Marks}
use Rattle.file_manager.specs.Taking.{IsTakenFor, TakesLabels, TakesBits, TakesSectors, TakesFor, NamesNoneOf, AddsPages, no_page_of}
use Rattle.file_manager.proofs.RunStages.{there_is}

-- ---- Labels and bits.

module _ {layout : Layout} {id : ℕ} {m n o : List Sector} where
  -- a sector that was taken is so still
  pub taken_then : (sector : ℕ) → layout.first ≤ sector → IsTakenFor id m n sector → TakesLabels layout id n o → IsTakenFor id m o sector
  taken_then sector from taken next = elim (next.each sector taken.now.0 from taken.now.1) [
    | inl same ↦ record { was = taken.was; now = (same.0, same.1, ap (λ (l : Label). l.id) same.2 ∙ taken.now.2) }
    | inr more ↦ record { was = taken.was; now = more.now }
  ]

  -- and one that is taken later was free before
  pub taken_before : (sector : ℕ) → layout.first ≤ sector → TakesLabels layout id m n → IsTakenFor id n o sector → IsTakenFor id m o sector
  taken_before sector from first taken =
      let within = slice_get_within n sector taken.was.0 taken.was.1 in
      let long = first.long in
      let s = there_is m sector (omega (arith, within, long)) in
      elim (first.each sector s.0 from s.1) [
        | inl same ↦
            let one : same.0 ≡ taken.was.0 = same_Some same.0 taken.was.0 (sym same.1 ∙ taken.was.1) in
            record { was = (s.0, s.1, ap is_free (sym same.2 ∙ ap (λ (x : Sector). x.0) one) ∙ taken.was.2); now = taken.now }
        | inr earlier ↦ record { was = earlier.was; now = taken.now }
      ]

  pub labels_then : TakesLabels layout id m n → TakesLabels layout id n o → TakesLabels layout id m o
  labels_then first next = record {
    long = next.long ∙ first.long;
    each = λ sector s from here. elim (first.each sector s from here) [
      | inl same ↦ elim (next.each sector same.0 from same.1) [
        | inl again ↦ inl (again.0, again.1, again.2 ∙ same.2)
        | inr taken ↦ inr (taken_before sector from first taken)
      ]
      | inr taken ↦ inr (taken_then sector from taken next)
    ];
  }

  pub bits_then : (marks later last : Marks) → TakesLabels layout id m n → TakesLabels layout id n o → TakesBits layout id m n marks later → TakesBits layout id n o later last → TakesBits layout id m o marks last
  bits_then marks later last first next one two sector from = elim (two sector from) [
    | inl same ↦ elim (one sector from) [
      | inl was ↦ inl (same ∙ was)
      | inr (used, taken) ↦ inr (same ∙ used, taken_then sector from taken next)
    ]
    | inr (used, taken) ↦ inr (used, taken_before sector from first taken)
  ]

  pub sectors_then : TakesSectors layout id m n → TakesSectors layout id n o → TakesSectors layout id m o
  sectors_then first next = record {
    labels = labels_then first.labels next.labels;
    bits = λ marks bits.
        let one = first.bits marks bits in
        let two = next.bits one.0 one.1 in
        (two.0, two.1, bits_then marks one.0 two.0 first.labels next.labels one.2 two.2);
  }

-- a sector whose label stayed was not taken
pub not_taken : (id : ℕ) (m n : List Sector) (sector : ℕ) → id ≢ 0 → IsTakenFor id m n sector → ((s : Sector) → slice_get m sector ≡ Some s → HasOne (λ label. label ≡ s.0) n sector) → ⊥
not_taken id m n sector other taken stays =
    let was = taken.was in
    let same = stays was.0 was.1 in
    let one : same.0 ≡ taken.now.0 = same_Some same.0 taken.now.0 (sym same.1 ∙ taken.now.1) in
    other (sym taken.now.2 ∙ ap (λ (x : Sector). x.0.id) (sym one) ∙ ap (λ (l : Label). l.id) same.2 ∙ eqb-true was.0.0.id 0 was.2)

pub labels_none : (layout : Layout) (id : ℕ) (m : List Sector) → TakesLabels layout id m m
labels_none layout id m = record { long = refl; each = λ sector s from here. inl (s, here, refl) }

pub sectors_none : (layout : Layout) (id : ℕ) (m : List Sector) → TakesSectors layout id m m
sectors_none layout id m = record { labels = labels_none layout id m; bits = λ marks bits. (marks, bits, λ sector from. inl refl) }

-- ---- What the file map names.

pub adds_none : (id : ℕ) (pages : ℕ → Type 0) (named : Triples) → AddsPages id pages named named
adds_none id pages named = record { kept = λ i page sector is. is; only = λ i page sector is. inl is }

pub adds_then : (id : ℕ) (p q r : ℕ → Type 0) (named later last : Triples) → ((page : ℕ) → p page → r page) → ((page : ℕ) → q page → r page)
    → AddsPages id p named later → AddsPages id q later last → AddsPages id r named last
adds_then id p q r named later last of_p of_q first next = record {
  kept = λ i page sector is. next.kept i page sector (first.kept i page sector is);
  only = λ i page sector is. elim (next.only i page sector is) [
    | inr (same, own) ↦ inr (same, of_q page own)
    | inl was ↦ elim (first.only i page sector was) [ inl before ↦ inl before | inr (same, own) ↦ inr (same, of_p page own) ]
  ];
}

-- other pages are named no more than before
pub none_later : (id : ℕ) (p q : ℕ → Type 0) (named later : Triples) → AddsPages id p named later → NamesNoneOf id q named → ((page : ℕ) → q page → p page → ⊥) → NamesNoneOf id q later
none_later id p q named later adds none apart page sector own = either (later id page sector) refl
  where
    either : (b : Bool) → later id page sector ≡ b → later id page sector ≡ false
    either false e = e
    either true e = elim (adds.only id page sector e) [
      | inl was ↦ absurd (true≢false (sym was ∙ none page sector own))
      | inr (same, of_p) ↦ absurd (apart page own of_p)
    ]

-- ---- Both.

pub takes_none : (layout : Layout) (id : ℕ) (m : List Sector) → TakesFor layout id no_page_of m m
takes_none layout id m = record {
  taken = sectors_none layout id m;
  of = λ other sector from taken. absurd (not_taken id m m sector other taken (λ s here. (s, here, refl)));
  names = λ named map none. (named, map, adds_none id no_page_of named);
}

pub takes_then : {layout : Layout} {id : ℕ} (p q r : ℕ → Type 0) {m n o : List Sector} → ((page : ℕ) → p page → r page) → ((page : ℕ) → q page → r page) → ((page : ℕ) → q page → p page → ⊥)
    → TakesFor layout id p m n → TakesFor layout id q n o → TakesFor layout id r m o
takes_then {id = id} p q r of_p of_q apart first next = record {
  taken = sectors_then first.taken next.taken;
  of = λ other sector from taken. elim (first.taken.labels.each sector taken.was.0 from taken.was.1) [
    | inl same ↦
        let own = next.of other sector from (record { was = (same.0, same.1, ap is_free same.2 ∙ taken.was.2); now = taken.now }) in
        (own.0, own.1, of_q own.0.0.page own.2)
    | inr earlier ↦
        let own = first.of other sector from earlier in
        elim (next.taken.labels.each sector own.0 from own.1) [
          | inl again ↦ (again.0, again.1, of_p again.0.0.page (subst p (ap (λ (l : Label). l.page) (sym again.2)) own.2))
          | inr more ↦ let later = next.of other sector from more in (later.0, later.1, of_q later.0.0.page later.2)
        ]
  ];
  names = λ named map none.
      let one = first.names named map (λ page sector own. none page sector (of_p page own)) in
      let two = next.names one.0 one.1 (none_later id p q named one.0 one.2 (λ page sector own. none page sector (of_q page own)) apart) in
      (two.0, two.1, adds_then id p q r named one.0 two.0 of_p of_q one.2 two.2);
}

-- for more pages
pub takes_wider : {layout : Layout} {id : ℕ} (p q : ℕ → Type 0) {m n : List Sector} → ((page : ℕ) → p page → q page) → TakesFor layout id p m n → TakesFor layout id q m n
takes_wider {id = id} p q of_p takes = record {
  taken = takes.taken;
  of = λ other sector from taken. let own = takes.of other sector from taken in (own.0, own.1, of_p own.0.0.page own.2);
  names = λ named map none.
      let one = takes.names named map (λ page sector own. none page sector (of_p page own)) in
      (one.0, one.1, record { kept = one.2.kept; only = λ i page sector is. elim (one.2.only i page sector is) [ inl was ↦ inl was | inr (same, own) ↦ inr (same, of_p page own) ] });
}
