-- Sound volumes, and volumes that can be opened.
use Rattle.std.proofs.Common.{◌≡◌, ℕ, ◌≤◌, Bool, true, false, ◌&&◌, not, List, length, Option, Some, None, refl, sym, ◌∙◌, ap, subst, arith}
use Rattle.std.specs.Prelude.{slice_get, nat_le, ◌==◌}
use Rattle.std.specs.Option.{option_map_or}
use Rattle.std.proofs.lemmas.Bool.{and_parts, and_from, eq-eqb, eqb-true, leb-true, le-leb, true≢false, false≢true}
use Rattle.std.proofs.lemmas.List.{length-map}
use Rattle.labelled_disk.specs.declared.label.Label.{Label}
use Rattle.labelled_disk.specs.Label.{is_free}
use Rattle.labelled_disk.specs.Layout.{first_data, capacity}
use Rattle.labelled_disk.specs.Sectors.{Sector, AreSectors}
use Rattle.volume_root.specs.Sound.{Sound}
use Rattle.volume_root.specs.Flag.{FlagLaws, with_flag}
use Rattle.volume_root.proofs.FlagLemmas.{flag_keeps_volume}
use Rattle.label_laws.specs.SoundParts.{IsSoundButFlag}
use Rattle.file_map.specs.FileMap.{Triples}
use Rattle.file_map.specs.InSectors.{MapNames, label_triples}
use Rattle.swapper_kernel.specs.Stands.{labels_of}
use Rattle.swapper_kernel.specs.DiffersLaws.{label_here, sector_of_label}
use Rattle.session_words.specs.Parts.{HasTriples, IsTriple}
use Rattle.session_words.specs.OpenLaws.{CanOpen, FlagCleared}
use Rattle.session_words.specs.SoundLaws.{SoundLaws}
use Rattle.session_words.proofs.MapBitLemmas.{bits_by_page, bits_in_order}

not_true : (b : Bool) → not b ≡ true → b ≡ false
not_true true e = absurd (false≢true e)
not_true false e = refl

-- the sector is there, and its label is that of the page
abbrev is_labelled : ℕ → ℕ → Option Sector → Bool
is_labelled id page o = option_map_or (λ (s : Sector). not (is_free s.0) && (s.0.id == id && s.0.page == page)) o false

module _ (d : List Sector) where
  long : length (labels_of d) ≡ length d
  long = length-map d (λ s. s.0)

  labelled : (id page sector : ℕ) (o : Option Sector) → slice_get d sector ≡ o → first_data (length d) ≤ sector → is_labelled id page o ≡ true → IsTriple (labels_of d) id page sector
  labelled id page sector None e above is = absurd (false≢true is)
  labelled id page sector (Some s) e above is =
      let a = and_parts (not (is_free s.0)) (s.0.id == id && s.0.page == page) is in
      let b = and_parts (s.0.id == id) (s.0.page == page) a.1 in
      record {
        label = s.0;
        there = record { is_data = subst (λ (n : ℕ). first_data n ≤ sector) (sym long) above; here = label_here d sector s e };
        taken = not_true (is_free s.0) a.0;
        same_id = eqb-true s.0.id id b.0;
        same_page = eqb-true s.0.page page b.1;
      }

  -- the triples of the labels
  label_has : HasTriples (label_triples d) (labels_of d)
  label_has = record {
    only = λ id page sector is.
        let both = and_parts (nat_le (first_data (length d)) sector) (is_labelled id page (slice_get d sector)) is in
        labelled id page sector (slice_get d sector) refl (leb-true (first_data (length d)) sector both.0) both.1;
    all = λ id page sector t.
        let s = sector_of_label d sector t.label t.there.here in
        let above : first_data (length d) ≤ sector = subst (λ (n : ℕ). first_data n ≤ sector) long t.there.is_data in
        let has : is_labelled id page (Some s.0) ≡ true =
        and_from (not (is_free s.0.0)) (s.0.0.id == id && s.0.0.page == page) (ap (λ (l : Label). not (is_free l)) s.2 ∙ ap not t.taken)
        (and_from (s.0.0.id == id) (s.0.0.page == page) (eq-eqb s.0.0.id id (ap (λ (l : Label). l.id) s.2 ∙ t.same_id)) (eq-eqb s.0.0.page page (ap (λ (l : Label). l.page) s.2 ∙ t.same_page))) in
        and_from (nat_le (first_data (length d)) sector) (is_labelled id page (slice_get d sector)) (le-leb (first_data (length d)) sector above) (ap (is_labelled id page) s.1 ∙ has);
  }

  -- labels have one set of triples
  one_set : (named other : Triples) → HasTriples named (labels_of d) → HasTriples other (labels_of d) → (id page sector : ℕ) → named id page sector ≡ other id page sector
  one_set named other h k id page sector = by (named id page sector) refl (other id page sector) refl
    where
      by : (a : Bool) → named id page sector ≡ a → (b : Bool) → other id page sector ≡ b → named id page sector ≡ other id page sector
      by true e true q = e ∙ sym q
      by true e false q = absurd (true≢false (sym (k.all id page sector (h.only id page sector e)) ∙ q))
      by false e true q = absurd (true≢false (sym (h.all id page sector (k.only id page sector q)) ∙ e))
      by false e false q = e ∙ sym q

-- A sound volume can be opened.
opens : (d : List Sector) → AreSectors d → Sound d → CanOpen d
opens d are s = record {
  sectors = are;
  right = s.labels;
  free_or_needed = s.free_or_needed;
  bits = bits_by_page d are s.bits;
  named = label_triples d;
  map = s.file_map;
  triples = label_has d;
}

-- One that can be opened is sound but for its flag.
but_flag : (d : List Sector) → CanOpen d → IsSoundButFlag d
but_flag d o = record {
  labels = o.right;
  free_or_needed = o.free_or_needed;
  bits = bits_in_order d o.sectors (let count = o.right.has_root.accepted in omega (arith, count)) o.bits;
  file_map = subst (MapNames d) (λ i id page sector. one_set d o.named (label_triples d) o.triples (label_has d) id page sector i) o.map;
}

-- The write of its root with the clean flag 0 opens it.
cleared : (d : List Sector) → CanOpen d → FlagCleared d (with_flag false d)
cleared d o = record {
  long = f.sectors false;
  others = f.others false;
  root_open = record {
    valid = (f.right false o.right).has_root;
    has_serial = f.has_serial false;
    has_counter = f.has_counter false;
    has_room = ap capacity (f.sectors false);
    open_flag = f.flag false;
  };
}
  where
    f : FlagLaws d
    f = flag_keeps_volume d o.sectors o.right.has_root

pub sound_laws : SoundLaws
sound_laws = record {
  cleared = cleared;
  opens = opens;
  sound = λ d o clean. let b = but_flag d o in record { labels = b.labels; clean = clean; free_or_needed = b.free_or_needed; bits = b.bits; file_map = b.file_map };
  but_flag = but_flag;
}
