-- What a caller reads before a write that is permitted then.
use Rattle.std.proofs.Common.{◌≡◌, inl, inr, ℕ, ◌≤◌, List, Some, refl, sym, ◌∙◌, subst}
use Rattle.labelled_disk.specs.Layout.{first_data}
use Rattle.labelled_disk.specs.Root.{IsRoot}
use Rattle.labelled_disk.specs.Sectors.{Sector}
use Rattle.labelled_disk.specs.State.{DiskState}
use Rattle.labelled_disk.specs.WriteLaws.{HasData}
use Rattle.label_laws.specs.PermittedThere.{WasRead, ThereLaws}

-- the sector that was read, on what is revealed
revealed_data : (disk : DiskState) (sector : ℕ) (s : Sector) → WasRead disk sector s → (d : List Sector) → disk.contents ≡ Some d → HasData d sector s
revealed_data disk sector s read d revealed = record { is_data = subst (λ (n : ℕ). first_data n ≤ sector) (sym (read.whole d revealed)) read.is_data; here = read.holds d revealed }

pub there_laws : ThereLaws
there_laws = record {
  root = λ disk page whole valid d revealed. inl (record { place = refl; root_label = refl; valid = subst (λ (n : ℕ). IsRoot n (Some (record { id = 4; page = 0; kind = 0; flags = 0; last = 0 }, page))) (sym (whole d revealed)) valid });
  fresh = λ disk sector s label read free file flags d revealed. inr (record { old = (s, revealed_data disk sector s read d revealed, free); of_file = inr file; no_flags = flags; zero_page = refl });
  freed = λ disk sector s read own d revealed. record { old = (s, revealed_data disk sector s read d revealed, own, inl refl) };
  permanent = λ disk sector s read own page d revealed. record { old = (s, revealed_data disk sector s read d revealed, inr own, inr (page, inl refl)) };
  immutable = λ disk sector s read own page d revealed. record { old = (s, revealed_data disk sector s read d revealed, inr own, inr (page, inr refl)) };
  still = λ a b sector s same long read. record {
    whole = λ d revealed. read.whole d (sym same.contents ∙ revealed) ∙ sym long;
    is_data = subst (λ (n : ℕ). first_data n ≤ sector) (sym long) read.is_data;
    holds = λ d revealed. read.holds d (sym same.contents ∙ revealed);
  };
}
