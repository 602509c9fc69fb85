-- A document that is put, at a stop: whole, or not there.
use Rattle.std.proofs.Common.{◌≡◌, ◌∙◌, ◌⊎◌, inl, inr, ℕ, zero, suc, ◌<◌, ◌^◌, true, false, refl, sym, ap, subst, List, length, Option, Some, None, Result, Ok, Err}
use Rattle.std.specs.Prelude.{is_none, MatchResult, if◌then◌else◌}
use Rattle.std.specs.Io.KnownBytes.{IsAtEnd}
use Rattle.std.proofs.KnownBytes.{Consumes-whole}
use Rattle.labelled_disk.specs.declared.disk.Disk.{Ghosts}
use Rattle.labelled_disk.specs.declared.evidence.Halt.TheVariants as halt
use Rattle.labelled_disk.specs.Sectors.{Sector}
use Rattle.document_head.specs.Head.{head_page}
use Rattle.flat_machine.specs.declared.call.Call.{Call}
use Rattle.flat_machine.specs.declared.call.Call.TheVariants as call
use Rattle.flat_machine.specs.declared.call.Refusal.{Refusal}
use Rattle.flat_machine.specs.declared.call.Reply.{Reply}
use Rattle.flat_machine.specs.File.{File}
use Rattle.flat_machine.specs.Machine.{Machine}
use Rattle.flat_machine.specs.IsMachine.{IsMachine}
use Rattle.flat_machine.specs.Next.{change, new_id, next}
use Rattle.flat_machine.specs.Refusal.{refusal}
use Rattle.flat_machine.proofs.NextLemmas.{next_keeps_machine}
use Rattle.session_words.specs.StandsFor.{RevealsSettled}
use Rattle.running_words.specs.Stages.{stage}
use Rattle.embedded.specs.declared.code.Code.{Code}
use Rattle.embedded.specs.declared.engine.Engine.{Engine}
use Rattle.embedded.specs.Answers.{answer_to}
use Rattle.embedded.specs.Called.{Called}
use Rattle.embedded.specs.Engine.{IsClosed, StandsFor}
use Rattle.embedded.specs.Stops.{Leaves}
use Rattle.documents.specs.Contents.{IsDocument}
use Rattle.documents.specs.Pieces.{adding, marked, written}
use Rattle.documents.specs.Stands.{HasFilled, IsFresh}
use Rattle.documents.specs.Stops.{IsLike, IsNew, IsUnseen, LooksLike, Marks, WholeOrAbsent, WithOrWithout}
use Rattle.documents.proofs.AddingLemmas.{marked_adding}
use Rattle.documents.proofs.BesideLemmas.{kept_put}
use Rattle.documents.proofs.CallLemmas.{refused}
use Rattle.documents.proofs.FillLemmas.{sealed_is}
use Rattle.documents.proofs.LooksLemmas.{looks_reveals}
use Rattle.documents.proofs.MachineLemmas.{machine_of}
use Rattle.documents.proofs.UnseenLemmas.{leaves_call, leaves_less, leaves_then, stays_delete, unseen_then}

-- a call that is refused changes nothing
pub refused_next : (n : Machine) (one : Call) (word : Refusal) → refusal n one ≡ Some word → next n one ≡ n
refused_next n one word is = ap (λ (o : Option Refusal). if is_none o then change n one else n) is

-- one temporary file more is not seen
pub adding_looks : (m : Machine) (f : File) (id : ℕ) → IsMachine m → IsFresh m id → f.id ≡ id → f.permanent ≡ false → LooksLike m id (adding f m)
adding_looks m f id h is_fresh named temporary = record {
  whole = h;
  none = is_fresh.none;
  files = kept_put f id named temporary m.files is_fresh.none;
  unforced = λ g page other is. is;
}

module _ (m : Machine) (f : File) (id : ℕ) (h : IsMachine m) (is_fresh : IsFresh m id) (named : f.id ≡ id) (temporary : f.permanent ≡ false) where
  -- while it is marked
  marked_such : IsMachine (adding f m) → (d : List Sector) (k : ℕ) → RevealsSettled d (stage (adding f m) (call.MakePermanent id) k) → WithOrWithout m (marked f) d
  marked_such more d zero r = inl (looks_reveals m id (adding f m) (adding_looks m f id h is_fresh named temporary) d r)
  marked_such more d (suc k) r = either (refusal (adding f m) (call.MakePermanent id)) refl
    where
      either : (o : Option Refusal) → refusal (adding f m) (call.MakePermanent id) ≡ o → WithOrWithout m (marked f) d
      either None e =
          let is = marked_adding m f id is_fresh named e in
          inr (subst (λ (x : Machine). IsMachine x) is (next_keeps_machine (adding f m) (call.MakePermanent id) tt more), subst (λ (x : Machine). RevealsSettled d x) is r)
      either (Some word) e =
          inl (looks_reveals m id (adding f m) (adding_looks m f id h is_fresh named temporary) d
          (subst (λ (x : Machine). RevealsSettled d x) (refused_next (adding f m) (call.MakePermanent id) word e) r))

  -- while it is not
  refused_such : (word : Refusal) → refusal (adding f m) (call.MakePermanent id) ≡ Some word → (d : List Sector) (k : ℕ) → RevealsSettled d (stage (adding f m) (call.MakePermanent id) k) → RevealsSettled d m
  refused_such word e d zero r = looks_reveals m id (adding f m) (adding_looks m f id h is_fresh named temporary) d r
  refused_such word e d (suc k) r =
      looks_reveals m id (adding f m) (adding_looks m f id h is_fresh named temporary) d
      (subst (λ (x : Machine). RevealsSettled d x) (refused_next (adding f m) (call.MakePermanent id) word e) r)

  module _ {D A : Type 0} {G : Ghosts D} where
    pub mark_leaves : (a b c : Engine D A G) (answer : Result Reply Code) → IsUnseen m id a b → StandsFor b (adding f m) → Called (call.MakePermanent id) b answer c → Leaves (WithOrWithout m (marked f)) a c
    mark_leaves a b c answer unseen stands called =
        leaves_then (WithOrWithout m (marked f)) a b c
        (leaves_less (λ d. RevealsSettled d m) (WithOrWithout m (marked f)) (λ d r. inl r) a b unseen.leaves)
        (leaves_call (WithOrWithout m (marked f)) (adding f m) (call.MakePermanent id) b c answer (marked_such (machine_of b (adding f m) stands)) called stands)

    pub mark_fails : (a b c : Engine D A G) (answer : Result Reply Code) (e : Code) → IsUnseen m id a b → StandsFor b (adding f m) → Called (call.MakePermanent id) b answer c → answer ≡ Err e
        → IsUnseen m id a c ⊎ (IsClosed c × Leaves (WithOrWithout m (marked f)) a c)
    mark_fails a b c answer e unseen stands called is =
        elim (refused (call.MakePermanent id) b c answer e (adding f m) (λ r answers. (_, ap answer_to answers)) called stands is) [
          | inl bad ↦ inr ((called.stopped halt.Disk (is ∙ ap (λ (x : Code). Err x) bad)).closed, mark_leaves a b c answer unseen stands called)
          | inr r ↦ inl (record {
            leaves = leaves_then (λ d. RevealsSettled d m) a b c unseen.leaves
                (leaves_call (λ d. RevealsSettled d m) (adding f m) (call.MakePermanent id) b c answer (refused_such r.1.0 r.1.1) called stands);
            goes_on = inr (adding f m, adding_looks m f id h is_fresh named temporary, r.0);
          })
        ]

-- What was put is the document.
module _ {D A : Type 0} {G : Ghosts D} where
  pub new_is : (m : Machine) (id count : ℕ) (name : List ℕ) (left0 left1 : Option (List ℕ)) (e : Engine D A G) → id ≡ new_id m → count < 2 ^ 64 → (h : HasFilled m count left0 left1 e)
      → IsAtEnd left1 → length (head_page count name) ≡ 512 → IsMachine (adding (marked (written 0 (head_page count name) h.file)) m) → IsNew m name left0 (marked (written 0 (head_page count name) h.file))
  new_is m id count name left0 left1 e new fits h ended wide more =
      let long : count ≡ length h.bytes = sym h.long in
      record {
        bytes = h.bytes;
        all = Consumes-whole left0 left1 h.bytes (λ xs. h.bytes ≡ xs) h.taken ended refl;
        fits = subst (λ (n : ℕ). n < 2 ^ 64) long fits;
        named = ap (λ (x : File). x.id) h.filled.same;
        document = subst (λ (n : ℕ). IsDocument name h.bytes (marked (written 0 (head_page n name) h.file))) h.long
            (sealed_is m h.file name h.bytes h.filled h.tight (ap (λ (n : ℕ). length (head_page n name)) h.long ∙ wide));
        machine = more;
      }

  pub whole_such : (m : Machine) (id count : ℕ) (name : List ℕ) (left0 left1 : Option (List ℕ)) (e : Engine D A G) → id ≡ new_id m → count < 2 ^ 64 → (h : HasFilled m count left0 left1 e)
      → IsAtEnd left1 → length (head_page count name) ≡ 512 → (d : List Sector) → WithOrWithout m (marked (written 0 (head_page count name) h.file)) d → WholeOrAbsent m name left0 d
  whole_such m id count name left0 left1 e new fits h ended wide d (inl r) = inl r
  whole_such m id count name left0 left1 e new fits h ended wide d (inr r) =
      inr (marked (written 0 (head_page count name) h.file), new_is m id count name left0 left1 e new fits h ended wide r.0, r.1)

  -- after calls of which nothing is seen
  pub marks_ok : (P : List Sector → Type 0) (m : Machine) (id : ℕ) (a b c : Engine D A G) → ((d : List Sector) → RevealsSettled d m → P d) → IsUnseen m id a b → Leaves P b c → Leaves P a c
  marks_ok P m id a b c such unseen leaves = leaves_then P a b c (leaves_less (λ d. RevealsSettled d m) P such a b unseen.leaves) leaves

  pub marks_err : (P : List Sector → Type 0) (m : Machine) (id : ℕ) (a b c : Engine D A G) → ((d : List Sector) → RevealsSettled d m → P d) → IsUnseen m id a b
      → IsUnseen m id b c ⊎ (IsClosed c × Leaves P b c) → IsUnseen m id a c ⊎ (IsClosed c × Leaves P a c)
  marks_err P m id a b c such unseen (inl still) = inl (unseen_then m id a b c unseen still)
  marks_err P m id a b c such unseen (inr ended) = inr (ended.0, marks_ok P m id a b c such unseen ended.1)

  -- and the file of one that was not put is deleted
  pub undone_leaves : (P : List Sector → Type 0) (m : Machine) (id : ℕ) (a b c : Engine D A G) (answer : Result Reply Code) → ((d : List Sector) → RevealsSettled d m → P d)
      → IsUnseen m id a b ⊎ (IsClosed b × Leaves P a b) → Called (call.Delete id) b answer c → Leaves P a c
  undone_leaves P m id a b c answer such (inl unseen) called =
      let all = unseen_then m id a b c unseen (stays_delete id b c answer called m unseen.goes_on) in
      leaves_less (λ d. RevealsSettled d m) P such a c all.leaves
  undone_leaves P m id a b c answer such (inr ended) called = leaves_then P a b c ended.1 (inl (called.closed ended.0).1)
