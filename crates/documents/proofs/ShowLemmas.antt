-- An engine while a run is shown, and after it.
use Rattle.std.proofs.Common.{◌≡◌, ◌∙◌, ◌⊎◌, inl, inr, ℕ, ◌+◌, ◌*◌, ◌/◌, ◌%◌, ◌<◌, ◌≤◌, ◌^◌, Bool, List, [], length, refl, sym, ap, subst, arith, Option, Some, None, MatchOption, Result, Ok, Err}
use Rattle.std.proofs.lemmas.Option.{slice_get_within}
use Rattle.std.specs.Prelude.{slice_get, take}
use Rattle.std.specs.Option.{option_map_or}
use Rattle.std.specs.Prelude.{option_map}
use Rattle.std.specs.Int.{div_ceil}
use Rattle.std.specs.List.{concat}
use Rattle.labelled_disk.specs.declared.disk.Disk.{Ghosts}
use Rattle.flat_machine.specs.declared.call.Call.TheVariants as call
use Rattle.flat_machine.specs.declared.call.Reply.{Reply}
use Rattle.flat_machine.specs.declared.call.Reply.TheVariants as reply
use Rattle.flat_machine.specs.declared.space.FilePage.{FilePage}
use Rattle.flat_machine.specs.File.{File, Cell, any, file_at}
use Rattle.flat_machine.specs.Machine.{Machine}
use Rattle.flat_machine.specs.IsMachine.{IsMachine}
use Rattle.flat_machine.specs.At.{Spot, spot_at, cell_of, cell_at}
use Rattle.flat_machine.specs.Next.{next}
use Rattle.flat_machine.specs.Refusal.{refusal}
use Rattle.embedded.specs.declared.code.Code.{Code}
use Rattle.embedded.specs.declared.engine.Engine.{Engine}
use Rattle.embedded.specs.Answers.{answer_to}
use Rattle.embedded.specs.Called.{Called}
use Rattle.embedded.specs.Engine.{StandsFor}
use Rattle.embedded.specs.References.{AreAt, Lead, Stored}
use Rattle.documents.specs.Contents.{Reads, cell_in}
use Rattle.documents.specs.Pieces.{after_look, after_store, forced}
use Rattle.documents.specs.Stands.{HasRead, StillFor, is_failure}
use Rattle.documents.specs.Windows.{IsHidden, IsShown, place, showing}
use Rattle.documents.proofs.CallLemmas.{carried, never, refused, surely}
use Rattle.documents.proofs.MachineLemmas.{forced_among, machine_of}
use Rattle.documents.proofs.RunLemmas.{IsShowing, is_hidden, is_showing, spot_here, with_run}
use Rattle.documents.proofs.WindowLemmas.{is_made, removed}
use Rattle.documents.proofs.StoreRows.{comes}

-- What a shown run has.

pub is_over : (m : Machine) (id page pages : ℕ) (writable : Bool) (space address : ℕ) → IsMachine m → IsShown m id page pages writable space address
    → IsShowing m (showing m id page pages writable) id page pages writable
is_over m id page pages writable space address h s = is_showing m id page pages writable h s.makes s.maps

-- after a load the machine is as it was, but for what was forced
pub look_hides : (m : Machine) (id page pages : ℕ) (writable : Bool) (space address : ℕ) → IsMachine m → IsShown m id page pages writable space address
    → IsHidden (showing m id page pages writable) space (after_look id page pages m)
look_hides m id page pages writable space address h s =
    let over = is_over m id page pages writable space address h s in
    let hides = is_hidden m (showing m id page pages writable) id page pages writable h over.made (ap (λ (n : Machine). n.spaces) over.after) in
    let back : record (showing m id page pages writable) { spaces = m.spaces; unforced = forced id page pages (showing m id page pages writable).unforced } ≡ after_look id page pages m =
    ap (λ (n : Machine). record n { spaces = m.spaces; unforced = forced id page pages n.unforced }) over.after in
    subst (λ (k : ℕ). IsHidden (showing m id page pages writable) k (after_look id page pages m)) (sym s.handle)
    (subst (λ (n : Machine). IsHidden (showing m id page pages writable) (place m pages).handle n) back hides)

module _ {D A : Type 0} {G : Ghosts D} where
  -- The run is shown.
  pub shown_by : (m : Machine) (id page pages : ℕ) (writable : Bool) (a b c : Engine D A G) (made mapped : Result Reply Code) (handle first address : ℕ) (got : Reply)
      → Called (call.MakeSpace 0 pages None) a made b → made ≡ Ok (reply.Space handle first)
      → Called (call.Map handle id page writable) b mapped c → mapped ≡ Ok got
      → address ≡ first * 512 % 2 ^ 32 → StandsFor a m
      → IsShown m id page pages writable handle address × StandsFor c (showing m id page pages writable)
  shown_by m id page pages writable a b c made mapped handle first address got made_called made_is mapped_called mapped_is at stands =
      let one = carried (call.MakeSpace 0 pages None) a b made (reply.Space handle first) m made_called stands made_is in
      let its_handle : handle ≡ (place m pages).handle = cc one.1 in
      let its_first : first ≡ (place m pages).first = cc one.1 in
      let inside = (is_made m pages (machine_of a m stands) one.0).inside in
      let two = carried (call.Map handle id page writable) b c mapped got (next m (call.MakeSpace 0 pages None)) mapped_called one.2 mapped_is in (
        record {
          makes = one.0;
          maps = subst (λ (h : ℕ). refusal (next m (call.MakeSpace 0 pages None)) (call.Map h id page writable) ≡ None) its_handle two.0;
          handle = its_handle;
          begins = omega (arith, at, its_first, inside);
        },
        subst (λ (h : ℕ). StandsFor c (next (next m (call.MakeSpace 0 pages None)) (call.Map h id page writable))) its_handle two.2,
      )

  pub none_made : (m : Machine) (pages : ℕ) (a b : Engine D A G) (made : Result Reply Code) (result : Result (ℕ × ℕ) Code) (e : Code) → Called (call.MakeSpace 0 pages None) a made b
      → ((handle first : ℕ) → made ≡ Ok (reply.Space handle first) → result ≡ Ok (handle, first)) → ((x : Code) → made ≡ Err x → result ≡ Err x) → result ≡ Err e → StandsFor a m
      → (e ≡ is_failure) ⊎ StandsFor b m
  none_made m pages a b (Ok got) result e called space code is stands =
      let one = carried (call.MakeSpace 0 pages None) a b (Ok got) got m called stands refl in
      let found = space (place m pages).handle (place m pages).first (ap (λ (r : Reply). Ok r) one.1) in
      absurd (cc (found, is))
  none_made m pages a b (Err x) result e called space code is stands =
      let same : x ≡ e = cc (code x refl, is) in
      elim (refused (call.MakeSpace 0 pages None) a b (Err x) x m (λ r answers. (_, ap answer_to answers)) called stands refl) [
        | inl bad ↦ inl (sym same ∙ bad)
        | inr r ↦ inr r.0
      ]

  -- it is not shown, and its space is taken away again
  pub none_mapped : (m : Machine) (id page pages : ℕ) (writable : Bool) (a b c d : Engine D A G) (made mapped gone : Result Reply Code) (handle first : ℕ) (e : Code)
      → Called (call.MakeSpace 0 pages None) a made b → made ≡ Ok (reply.Space handle first)
      → Called (call.Map handle id page writable) b mapped c → mapped ≡ Err e
      → Called (call.RemoveSpace handle) c gone d → StandsFor a m
      → (e ≡ is_failure) ⊎ (StandsFor d m ⊎ (gone ≡ Err is_failure))
  none_mapped m id page pages writable a b c d made mapped gone handle first e made_called made_is mapped_called mapped_is gone_called stands =
      let one = carried (call.MakeSpace 0 pages None) a b made (reply.Space handle first) m made_called stands made_is in
      let its_handle : handle ≡ (place m pages).handle = cc one.1 in
      let h = machine_of a m stands in
      let is = is_made m pages h one.0 in
      elim (refused (call.Map handle id page writable) b c mapped e (next m (call.MakeSpace 0 pages None)) (λ r answers. (_, ap answer_to answers)) mapped_called one.2 mapped_is) [
        | inl bad ↦ inl bad
        | inr r ↦
            let away = removed m (next m (call.MakeSpace 0 pages None)) pages h is (ap (λ (n : Machine). n.spaces) is.after) in
            let back : next (next m (call.MakeSpace 0 pages None)) (call.RemoveSpace handle) ≡ m =
            ap (λ (k : ℕ). next (next m (call.MakeSpace 0 pages None)) (call.RemoveSpace k)) its_handle ∙ away.1
            ∙ ap (λ (n : Machine). record n { spaces = m.spaces }) is.after in
            elim (surely (call.RemoveSpace handle) c d gone (next m (call.MakeSpace 0 pages None)) gone_called r.0) [
              | inl goes ↦ inr (inl (subst (λ (n : Machine). StandsFor d n) back goes))
              | inr bad ↦ inr (inr bad)
            ]
      ]

  -- The space is taken away with its window.

  pub hidden_by : (m last : Machine) (space : ℕ) (a b c : Engine D A G) (unmapped gone : Result Reply Code) (x y : Reply)
      → Called (call.Unmap space) a unmapped b → unmapped ≡ Ok x → Called (call.RemoveSpace space) b gone c → gone ≡ Ok y
      → StandsFor a m → IsHidden m space last → StandsFor c last
  hidden_by m last space a b c unmapped gone x y one one_is two two_is stands h =
      let first = carried (call.Unmap space) a b unmapped x m one stands one_is in
      let second = carried (call.RemoveSpace space) b c gone y (next m (call.Unmap space)) two first.2 two_is in
      subst (λ (n : Machine). StandsFor c n) h.after second.2

  pub unmap_fails : (m last : Machine) (space : ℕ) (a b : Engine D A G) (unmapped : Result Reply Code) (e : Code) → Called (call.Unmap space) a unmapped b → unmapped ≡ Err e
      → StandsFor a m → IsHidden m space last → e ≡ is_failure
  unmap_fails m last space a b unmapped e called is stands h = never (call.Unmap space) a b unmapped e m (λ r answers. (_, ap answer_to answers)) called stands h.unmaps is

  pub remove_fails : (m last : Machine) (space : ℕ) (a b c : Engine D A G) (unmapped gone : Result Reply Code) (x : Reply) (e : Code)
      → Called (call.Unmap space) a unmapped b → unmapped ≡ Ok x → Called (call.RemoveSpace space) b gone c → gone ≡ Err e
      → StandsFor a m → IsHidden m space last → e ≡ is_failure
  remove_fails m last space a b c unmapped gone x e one one_is two two_is stands h =
      let first = carried (call.Unmap space) a b unmapped x m one stands one_is in
      never (call.RemoveSpace space) b c gone e (next m (call.Unmap space)) (λ r answers. (_, ap answer_to answers)) two first.2 h.removes two_is

  -- what is loaded is the file's
  pub loaded_is : (m : Machine) (id page pages : ℕ) (writable : Bool) (space address count : ℕ) (bytes : List ℕ) (e : Engine D A G) → IsMachine m
      → IsShown m id page pages writable space address → length bytes ≤ count → length bytes ≤ 512 * pages
      → AreAt (showing m id page pages writable) address count bytes → StandsFor e (after_look id page pages m) → HasRead m id page bytes e
  loaded_is m id page pages writable space address count bytes e h s all fits at stands =
      let over = is_over m id page pages writable space address h s in
      let n = showing m id page pages writable in
      record {
        file = over.file;
        there = over.there;
        reads = λ k b is.
            let low : k < length bytes = slice_get_within bytes k b is in
            let spot = spot_here m n id page pages writable over k (omega (arith, low, fits)) in
            let cell : cell_at n (address + k) ≡ cell_in over.file.pages (512 * page + k) =
            ap (λ (a : ℕ). cell_at n (a + k)) s.begins
            ∙ ap (λ (x : Machine). cell_at x (512 * (place m pages).first + k)) over.after
            ∙ ap (λ (o : Option Spot). option_map_or (cell_of m.files) o any) spot
            ∙ ap (λ (o : Option File). option_map_or (λ f. cell_in f.pages (512 * page + k)) o any) over.there in
            subst (λ (c : Cell). MatchOption c (b < 256) (λ x. b ≡ x)) cell (at k b (omega (arith, low, all)) is);
        still = (forced id page pages m.unforced, forced_among id page pages m.unforced, stands);
      }
