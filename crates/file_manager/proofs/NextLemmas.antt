-- Files in the order of their identifiers.
use Rattle.std.proofs.Common.{◌≡◌, ◌≢◌, ℕ, ◌<◌, ◌≤◌, true, List, Some, None, Option, refl, sym, ◌∙◌, arith}
use Rattle.std.proofs.lemmas.Bool.{true≢false}
use Rattle.std.proofs.lemmas.Bool.Decides.{nat_tests}
use Rattle.std.proofs.lemmas.Option.{none-some}
use Rattle.labelled_disk.specs.declared.layout.Layout.{Layout}
use Rattle.labelled_disk.specs.Label.{leader_page, is_file_id}
use Rattle.labelled_disk.specs.Sectors.{Sector}
use Rattle.file_map.specs.declared.run.Run.{Run}
use Rattle.file_map.specs.FileMap.{IsNext}
use Rattle.session_words.specs.Parts.{Shape, Shapes, is_owned}
use Rattle.file_manager.specs.Answer.{IsNextFile}
use Rattle.file_manager.specs.Book.{IsBooked}
use Rattle.file_manager.proofs.BookLemmas.{leader_owned, owned_shape}

-- an identifier of a file is no reserved one
pub file_id : (id : ℕ) → is_file_id id ≡ true → 16 ≤ id
file_id id is = grind (arith, nat_tests)

module _ (layout : Layout) (runs : List Run) (shapes : Shapes) (x : List Sector) (b : IsBooked layout runs shapes x) where
  -- the map names the leader of each file
  pub file_named : (id : ℕ) (f : Shape) → shapes id ≡ Some f → (sector : ℕ) × (b.named id leader_page sector ≡ true)
  file_named id f is =
      let place = b.labels.pages.all id leader_page (leader_owned 96 shapes id f is) in
      (place.place, b.triples.all id leader_page place.place (record { label = place.label; there = place.there; taken = place.taken; same_id = place.same_id; same_page = place.same_page }))

  -- and pages of files alone
  pub named_file : (id page sector : ℕ) → 16 ≤ id → b.named id page sector ≡ true → (f : Shape) × (shapes id ≡ Some f)
  named_file id page sector some named =
      let triple = b.triples.only id page sector named in
      let owned = b.labels.pages.only sector triple.label triple.there triple.taken in
      let own : is_owned shapes id page ≡ true = (λ j. is_owned shapes (sym triple.same_id j) (sym triple.same_page j)) ∙ owned.is in
      owned_shape 96 shapes id page some own

  -- the next of the map is the next file
  pub next_is : (id : ℕ) (next : Option ℕ) → IsNext b.named id next → IsNextFile shapes id next
  next_is id None none = λ other above. either other above (shapes other) refl
    where
      either : (other : ℕ) → id < other → (o : Option Shape) → shapes other ≡ o → o ≡ None
      either other above None is = refl
      either other above (Some f) is =
          let p = file_named other f is in
          absurd (true≢false (sym p.1 ∙ none other leader_page p.0 above (file_id other (b.files.given other f is))))
  next_is id (Some next) is =
      let file = named_file next is.2.0 is.2.1 is.1 is.2.2 in
      (is.0, λ none. none-some file.0 (sym none ∙ file.1), λ other above some. either other above some (shapes other) refl)
    where
      either : (other : ℕ) → id < other → shapes other ≢ None → (o : Option Shape) → shapes other ≡ o → next ≤ other
      either other above some None e = absurd (some e)
      either other above some (Some f) e =
          let p = file_named other f e in
          is.3 other leader_page p.0 above (file_id other (b.files.given other f e)) p.1
