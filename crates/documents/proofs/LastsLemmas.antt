-- What the disk has by the time that a document was put, and as long as the volume has it.
use Rattle.std.proofs.Common.{◌≡◌, ◌∙◌, ℕ, Bool, ap, subst, List, Option, Some, None}
use Rattle.std.specs.Prelude.{IfSome, IsSomeAnd, option_and_then}
use Rattle.std.specs.Bool.{then_some}
use Rattle.labelled_disk.specs.declared.disk.Disk.{Ghosts}
use Rattle.labelled_disk.specs.Ascending.{BothBy}
use Rattle.labelled_disk.specs.FilesOn.{files_on}
use Rattle.labelled_disk.specs.Sectors.{AreSectors, Sector}
use Rattle.flat_machine.specs.File.{File, Page, file_at}
use Rattle.flat_machine.specs.Machine.{Machine}
use Rattle.flat_machine.specs.Settled.{FileAgrees, is_unforced, settled, settled_file}
use Rattle.flat_machine.proofs.SettledLemmas.{settled_by_identifier}
use Rattle.session_words.specs.StandsFor.{RevealsSettled}
use Rattle.session_words.proofs.LooseLemmas.{stands_is_settled}
use Rattle.session_words.proofs.SameLabelLemmas.{zip_looked}
use Rattle.session_words.proofs.SettledLemmas.{settled_is_revealed}
use Rattle.running_words.specs.Running.{exactly}
use Rattle.embedded.specs.declared.engine.Engine.{Engine}
use Rattle.embedded.specs.declared.held.Held.{Held}
use Rattle.embedded.specs.declared.held.Held.TheVariants as held
use Rattle.embedded.specs.Engine.{IsIn, StandsFor, disk_in}
use Rattle.embedded.specs.Opened.{Reveals}
use Rattle.documents.specs.Laws.{WhatIsPutLasts}
use Rattle.documents.specs.Pieces.{adding}
use Rattle.documents.specs.Stands.{IsPut}
use Rattle.documents.specs.Stops.{HasWhole}
use Rattle.documents.proofs.MachineLemmas.{machine_of}
use Rattle.documents.proofs.StaysLemmas.{loose_none, none_any}

-- of two files that agree both are there
both_some : (o : Option File) (f : File) → BothBy FileAgrees o (Some f) → IsSomeAnd o (λ g. FileAgrees g f)
both_some None f both = absurd both
both_some (Some g) f both = both

pub what_is_put_lasts : WhatIsPutLasts
what_is_put_lasts n f d h there permanent forced r =
    let whole : settled_file n.unforced f ≡ f = ap (λ (ps : List Page). record f { pages = ps }) (none_any (is_unforced n.unforced f.id) 0 f.pages (λ k. loose_none n.unforced f.id k forced)) in
    let at : file_at (settled n) f.id ≡ Some f =
    settled_by_identifier n f.id h
    ∙ ap (λ (o : Option File). option_and_then (λ g. then_some g.permanent (settled_file n.unforced g)) o) there
    ∙ ap (λ (b : Bool). then_some b (settled_file n.unforced f)) permanent
    ∙ ap Some whole in
    let both = zip_looked FileAgrees (λ a b e. e.same_id) (files_on d) (settled n) r.agrees f.id in
    both_some (file_at (files_on d) f.id) f (subst (λ (o : Option File). BothBy FileAgrees (file_at (files_on d) f.id) o) at both)

module _ {D A : Type 0} {G : Ghosts D} (form : (disk : D) (d : List Sector) → (G.state disk).contents ≡ Some d → AreSectors d) where
  held_settled : (h : Held D A G) (m : Machine) (d : List Sector) → IsIn h m → IfSome (disk_in h) (λ disk. disk.contents ≡ Some d) → RevealsSettled d m
  held_settled (held.Session live) m d stands revealed =
      settled_is_revealed d m (stands_is_settled (exactly stands.1.pages m.spaces) _ _ m d stands.1.session.stands revealed
      (form _ d revealed))
  held_settled other m d stands revealed = absurd stands

  -- the disk has the settled files of the machine that the engine stands for
  pub settled_now : (e : Engine D A G) (m : Machine) (d : List Sector) → StandsFor e m → Reveals d e → RevealsSettled d m
  settled_now e m d stands revealed = held_settled e.held m d stands revealed

  -- and so the document that was put
  pub whole_now : (m : Machine) (id : ℕ) (name : List ℕ) (left : Option (List ℕ)) (e : Engine D A G) (d : List Sector) → IsPut m id name left e → Reveals d e → HasWhole m name left d
  whole_now m id name left e d p revealed = (
    p.file,
    record {
      bytes = p.bytes;
      all = p.all;
      fits = p.fits;
      named = p.named ∙ p.new;
      document = p.document;
      machine = machine_of e (adding p.file m) p.stands;
    },
    settled_now e (adding p.file m) d p.stands revealed,
  )
