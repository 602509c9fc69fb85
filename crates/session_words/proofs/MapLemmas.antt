-- What a file map names depends on its bytes, and on the size of the disk.
use Rattle.std.proofs.Common.{◌≡◌, ℕ, List, length, sym, subst}
use Rattle.labelled_disk.specs.Layout.{vfm}
use Rattle.labelled_disk.specs.Sectors.{Sector}
use Rattle.page_tree.specs.Reveals.{RevealsTree}
use Rattle.file_map.specs.FileMap.{Triples, AreNamed}
use Rattle.file_map.specs.InSectors.{map_bytes, MapNames}

-- the same bytes name the same
pub names_alike : (x y : List Sector) → length y ≡ length x → map_bytes y ≡ map_bytes x → (named : Triples) → MapNames x named → MapNames y named
names_alike x y long bytes named h = subst (λ (p : ℕ × List ℕ). AreNamed p.0 (RevealsTree 24 12 (vfm p.0) (λ b. b ≡ p.1)) named) (λ i. (sym long i, sym bytes i)) h
