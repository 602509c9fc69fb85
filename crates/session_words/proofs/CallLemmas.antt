-- Calls that change the spaces, or what is unforced.
use Rattle.std.proofs.Common.{◌≡◌, inl, inr, ℕ, Bool, true, false, ◌&&◌, ◌||◌, not, List, Option, refl, sym, ◌∙◌, ap, subst}
use Rattle.std.specs.Prelude.{nat_lt, nat_le, ◌==◌, if◌then◌else◌}
use Rattle.std.specs.Option.{option_map_or}
use Rattle.std.proofs.lemmas.Bool.{and_parts, eqb-true, true≢false, false≢true}
use Rattle.labelled_disk.specs.declared.label.Label.{Label}
use Rattle.labelled_disk.specs.Label.{is_file}
use Rattle.labelled_disk.specs.Sectors.{Sector}
use Rattle.flat_machine.specs.declared.space.Space.{Space}
use Rattle.flat_machine.specs.declared.space.FilePage.{FilePage}
use Rattle.flat_machine.specs.declared.call.Call.TheVariants.{ForceOut}
use Rattle.flat_machine.specs.Machine.{Machine}
use Rattle.flat_machine.specs.IsMachine.{IsMachine}
use Rattle.flat_machine.specs.Next.{next, is_shown_within, without_shown_within, is_same_page}
use Rattle.flat_machine.specs.Settled.{is_unforced}
use Rattle.flat_machine.proofs.Lists.{any_in, in_any, filter_in}
use Rattle.flat_machine.proofs.NextLemmas.{next_keeps_machine}
use Rattle.swapper_kernel.specs.Goes.{IsDirty}
use Rattle.swapper_kernel.specs.Kinds.{kind_of, the_tables, a_file, unused, tables_alone}
use Rattle.session_words.specs.Parts.{shapes_of, TablesMeaning, is_loose, but_none}
use Rattle.session_words.specs.StandsFor.{IsFor, StandsFor}
use Rattle.session_words.specs.CallLaws.{OnlyTables, ForceStands, CallLaws}
use Rattle.swapper_kernel.proofs.KindLemmas.{kind_is_data, data_kind}
use Rattle.session_words.proofs.KnownLemmas.{frames_brought}
use Rattle.session_words.proofs.StayLemmas.{stays}
use Rattle.session_words.proofs.LooseLemmas.{volume_loose}
use Rattle.session_words.proofs.CellLemmas.{unrefused}

-- The tables.

module _ (spaces_of : TablesMeaning) where
  pub only_tables : OnlyTables spaces_of
  only_tables before_of x y m spaces unforced same are is tables h =
      let kept = stays before_of x y tables_alone same in
      record {
        named = h.named;
        map = kept.map h.named refl h.map;
        by = record {
          machine = is;
          sectors = are;
          root = kept.root m.serial m.counter m.capacity refl h.by.root;
          map_labels = kept.map_labels h.by.map_labels;
          labels = kept.labels (shapes_of m.files) h.by.labels;
          bits = kept.bits refl h.by.bits;
          triples = kept.triples h.named h.by.triples;
          cells = kept.cells but_none m.files refl h.by.cells;
          tables = tables;
        };
      }

  -- the same memory, and other pages unforced
  with_unforced : (x : List Sector) (m : Machine) (unforced : List FilePage) → IsMachine (record m { unforced = unforced }) → IsFor spaces_of x m → IsFor spaces_of x (record m { unforced = unforced })
  with_unforced x m unforced is h = record {
    named = h.named;
    map = h.map;
    by = record {
      machine = is;
      sectors = h.by.sectors;
      root = h.by.root;
      map_labels = h.by.map_labels;
      labels = h.by.labels;
      bits = h.by.bits;
      triples = h.by.triples;
      cells = h.by.cells;
      tables = h.by.tables;
    };
  }

-- Force.

-- an unforced page that isn't shown in the range stays unforced
still_unforced : (spaces : List Space) (range : Space) (us : List FilePage) (id page : ℕ) → is_unforced us id page ≡ true → is_shown_within spaces range (record { file = id; page = page }) ≡ false
    → is_unforced (without_shown_within spaces range us) id page ≡ true
still_unforced spaces range us id page is hidden =
    let u = any_in (is_same_page (record { file = id; page = page })) us is in
    let parts = and_parts (id == u.0.file) (page == u.0.page) u.2 in
    let same : is_shown_within spaces range u.0 ≡ false = (λ i. is_shown_within spaces range (record { file = sym (eqb-true id u.0.file parts.0) i; page = sym (eqb-true page u.0.page parts.1) i })) ∙ hidden in
    in_any (is_same_page (record { file = id; page = page })) (without_shown_within spaces range us) u.0 (filter_in (λ v. not (is_shown_within spaces range v)) us u.0 u.1 (ap not same)) u.2

module _ (spaces_of : TablesMeaning) where
  pub force_stands : ForceStands spaces_of
  force_stands space s old new before after m accepted there swaps forced known h =
      let becomes : next m (ForceOut space) ≡ record m { unforced = without_shown_within m.spaces s m.unforced } =
      unrefused m (ForceOut space) accepted ∙ ap (λ (o : Option Space). option_map_or (λ (r : Space). record m { unforced = without_shown_within m.spaces r m.unforced }) o m) there in
      let is : IsMachine (record m { unforced = without_shown_within m.spaces s m.unforced }) = subst IsMachine becomes (next_keeps_machine m (ForceOut space) tt h.is.by.machine) in
      let x = swaps.memory h.memory h.stands in
      subst (λ (n : Machine). StandsFor spaces_of new after n) (sym becomes)
      (record {
        memory = x.0;
        stands = x.1;
        is = with_unforced spaces_of x.0 m (without_shown_within m.spaces s m.unforced) is (subst (λ (y : List Sector). IsFor spaces_of y m) (sym x.2) h.is);
        dirty = λ id page dirty. elim (swaps.makes.dirty id page dirty) [
          | inl was ↦ either id page dirty (is_shown_within m.spaces s (record { file = id; page = page })) refl (h.dirty id page was)
          | inr own ↦ volume_loose (without_shown_within m.spaces s m.unforced) id page own
        ];
        frames = frames_brought before after m.spaces known h.frames;
      })
    where
      loose : (id page : ℕ) → is_shown_within m.spaces s (record { file = id; page = page }) ≡ false → (a b : Bool) → (c : Bool) → is_unforced m.unforced id page ≡ c → (a || (b && c)) ≡ true
          → (a || (b && is_unforced (without_shown_within m.spaces s m.unforced) id page)) ≡ true
      loose id page hidden true b c e l = refl
      loose id page hidden false b true e l = let u = still_unforced m.spaces s m.unforced id page e hidden in rw u l
      loose id page hidden false true false e l = absurd (false≢true l)
      loose id page hidden false false false e l = absurd (false≢true l)

      either : (id page : ℕ) → IsDirty after id page → (b : Bool) → is_shown_within m.spaces s (record { file = id; page = page }) ≡ b → is_loose m.unforced id page ≡ true
          → is_loose (without_shown_within m.spaces s m.unforced) id page ≡ true
      either id page dirty true e l = absurd (forced id page e dirty)
      either id page dirty false e l = loose id page e (nat_lt id 4) (nat_le 16 id) (is_unforced m.unforced id page) refl l

-- a sector of the space tables has their identifier
pub kind_tables : (n k : ℕ) (l : Label) → kind_of n k l ≡ the_tables → l.id ≡ 3
kind_tables n k l is = either (l.id == 3) refl (is_file l) (sym (data_kind n k l (kind_is_data n k l the_tables (λ e. true≢false (ap tables_alone e)) (λ e. true≢false (ap tables_alone e)) (λ e. true≢false (ap tables_alone e)) is)) ∙ is)
  where
    either : (a : Bool) → (l.id == 3) ≡ a → (b : Bool) → (if a then the_tables else (if b then a_file else unused)) ≡ the_tables → l.id ≡ 3
    either true e b h = eqb-true l.id 3 e
    either false e true h = absurd (false≢true (ap tables_alone h))
    either false e false h = absurd (false≢true (ap tables_alone h))

pub call_laws : (spaces_of : TablesMeaning) → CallLaws spaces_of
call_laws spaces_of = record { tables = only_tables spaces_of; force = force_stands spaces_of }
