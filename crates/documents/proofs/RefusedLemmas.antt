-- A file that is no document, and faults that are handed on.
use Rattle.std.proofs.Common.{◌≡◌, ◌≢◌, ◌∙◌, ◌⊎◌, inl, inr, ℕ, ◌+◌, ◌*◌, ◌<◌, ◌≤◌, ◌^◌, Bool, refl, sym, ap, subst, arith, List, length, Option, Some, None, Result, Ok, Err, IsUtf8}
use Rattle.std.specs.Prelude.{MatchOption}
use Rattle.labelled_disk.specs.declared.disk.Disk.{Ghosts}
use Rattle.labelled_disk.specs.declared.evidence.Halt.{Halt}
use Rattle.document_head.specs.Head.{head_page, pages_of}
use Rattle.document_head.specs.Says.{Says}
use Rattle.document_head.specs.declared.head.Head.{Head}
use Rattle.flat_machine.specs.declared.call.Call.TheVariants as call
use Rattle.flat_machine.specs.declared.call.Reply.{Reply}
use Rattle.flat_machine.specs.declared.call.Reply.TheVariants as reply
use Rattle.flat_machine.specs.File.{File, file_at, size}
use Rattle.flat_machine.specs.Machine.{Machine}
use Rattle.embedded.specs.declared.code.Code.{Code}
use Rattle.embedded.specs.declared.code.Code.TheVariants as code
use Rattle.embedded.specs.declared.engine.Engine.{Engine}
use Rattle.embedded.specs.Called.{Called}
use Rattle.embedded.specs.Engine.{StandsFor}
use Rattle.documents.specs.declared.fault.Fault.{Fault}
use Rattle.documents.specs.declared.fault.Fault.TheVariants as fault
use Rattle.documents.specs.Contents.{Reads}
use Rattle.documents.specs.Refusals.{HasNoHead, IsNoDocument, IsNoHead, WhatIsPutIsFound}
use Rattle.documents.specs.Stands.{AreAmong, HasRead, IsListed}
use Rattle.documents.proofs.CallLemmas.{carried}
use Rattle.documents.proofs.LawLemmas.{page_long, read_agrees, same_lists}
use Rattle.documents.proofs.ListLemmas.{there}

-- what is answered where something was taken back is the first fault, or a halt
pub kept_other : (x error handed : Fault) (deleted : Result Reply Code) → ((c : Code) → fault.Call c ≢ x) → error ≢ x
    → (handed ≡ error) ⊎ ((why : Halt) × (deleted ≡ Err (code.Halted why)) × (handed ≡ fault.Call (code.Halted why))) → handed ≢ x
kept_other x error handed deleted calls other which is = elim which [
  | inl same ↦ other (sym same ∙ is)
  | inr halted ↦ calls (code.Halted halted.0) (sym halted.2 ∙ is)
]

-- a head that was not found is not there
pub not_found : (found : Option Head) (page : List ℕ) (pages : ℕ) → ((bytes : ℕ) (name : List ℕ) → bytes < 2 ^ 64 → length name ≤ 255 → IsUtf8 name → page ≡ head_page bytes name → pages ≡ pages_of bytes
    → MatchOption found ⊥ (Says bytes name)) → found ≡ None → IsNoHead page pages
not_found found page pages look none bytes name fits short text is long =
    subst (λ (o : Option Head). MatchOption o ⊥ (Says bytes name)) none (look bytes name fits short text is long)

module _ {D A : Type 0} {G : Ghosts D} where
  pub no_head : (m : Machine) (id pages : ℕ) (page : List ℕ) (e : Engine D A G) → length page ≡ 512 → HasRead m id 0 page e → IsNoHead page pages → HasNoHead m id pages
  no_head m id pages page e long read headless = record { file = read.file; there = read.there; page = page; long = long; reads = read.reads; headless = headless }

  -- the attributes say that it is none, or its first page
  pub no_document : (m : Machine) (id : ℕ) (a b : Engine D A G) (answer : Result Reply Code) (pages kind : ℕ) (permanent immutable : Bool) (got : Reply) → Called (call.Attributes id) a answer b
      → answer ≡ Ok got → got ≡ reply.Attributes pages kind permanent immutable → StandsFor a m → (kind ≢ 17475) ⊎ ((pages ≡ 0) ⊎ HasNoHead m id pages) → IsNoDocument m id
  no_document m id a b answer pages kind permanent immutable got called given form stands why =
      let is : answer ≡ Ok (reply.Attributes pages kind permanent immutable) = given ∙ ap (λ (r : Reply). Ok r) form in
      let one = carried (call.Attributes id) a b answer (reply.Attributes pages kind permanent immutable) m called stands is in
      let f = there m id (reply.Attributes pages kind permanent immutable) one.0 one.1 in
      let its_size : pages ≡ size f.0 = cc f.2 in
      let its_kind : kind ≡ f.0.kind = cc f.2 in
      record {
        file = f.0;
        there = f.1;
        why = elim why [
          | inl other ↦ inl (λ e. other (its_kind ∙ e))
          | inr rest ↦ inr (elim rest [
            | inl none ↦ inl (sym its_size ∙ none)
            | inr headless ↦ inr (subst (λ (n : ℕ). HasNoHead m id n) its_size headless)
          ])
        ];
      }

-- what was put has a head
pub what_is_put_is_found : WhatIsPutIsFound
what_is_put_is_found m id f name bytes fits short text at document is = either is.why
  where
    same : is.file ≡ f
    same = cc (sym is.there ∙ at)

    either : (is.file.kind ≢ 17475) ⊎ ((size is.file ≡ 0) ⊎ HasNoHead m id (size is.file)) → ⊥
    either (inl other) = other (ap (λ (x : File). x.kind) same ∙ document.kind)
    either (inr (inl none)) = let long = document.long in let its_size : size is.file ≡ size f = ap (λ (x : File). size x) same in omega (arith, none, its_size, long)
    either (inr (inr h)) =
        let it : h.file ≡ f = cc (sym h.there ∙ at) in
        let reads = subst (λ (x : File). Reads x 0 h.page) it h.reads in
        let wide : length (head_page (length bytes) name) ≡ 512 = let full = page_long (length bytes) name in omega (arith, full, short) in
        let page = same_lists h.page (head_page (length bytes) name) (h.long ∙ sym wide) (read_agrees f 0 h.page (head_page (length bytes) name) reads document.head) in
        h.headless (length bytes) name fits short text page (ap (λ (x : File). size x) same ∙ document.long)
