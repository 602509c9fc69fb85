-- A disk that has all of a machine but what is unforced reveals its settled files.
use Rattle.std.proofs.Common.{◌≡◌, ◌≢◌, inl, inr, ℕ, suc, ◌+◌, ◌<◌, ◌≤◌, true, false, List, [], ◌∷◌, map, length, Option, Some, None, refl, sym, ◌∙◌, ap, subst, arith, eqb}
use Rattle.std.specs.Prelude.{slice_get, option_map, nat_le, ◌%◌, ◌/◌, ◌^◌, IsTrue, IsSomeAnd, All}
use Rattle.std.specs.List.{AllByRecursion, AllZip}
use Rattle.std.proofs.lemmas.Option.{same_Some, none-some, slice_get-map}
use Rattle.std.proofs.lemmas.Bool.{and_parts, ne_eqb, eqb-true}
use Rattle.std.proofs.lemmas.List.{length-map}
use Rattle.std.proofs.lemmas.List.Sums.{sum_by-cons}
use Rattle.labelled_disk.specs.declared.label.Label.{Label}
use Rattle.labelled_disk.specs.declared.label.Wanted.{Wanted}
use Rattle.labelled_disk.specs.Label.{is_file, is_file_id, names}
use Rattle.labelled_disk.specs.Layout.{data_sectors, vam, vfm}
use Rattle.labelled_disk.specs.Sectors.{Sector}
use Rattle.labelled_disk.specs.File.{File, Page, byte, size, file_at, room_of, total_room}
use Rattle.labelled_disk.specs.FilesOn.{disk_file, files_among}
use Rattle.labelled_disk.specs.Right.{FilesRight, IsWhole, IsGiven}
use Rattle.labelled_disk.specs.Ascending.{BothBy}
use Rattle.labelled_disk.specs.Root.{HasMaps, counter_of}
use Rattle.labelled_disk.proofs.AscendingLemmas.{each_at, at_id, zip_by_look_up}
use Rattle.labelled_disk.proofs.WriteLemmas as laws
use Rattle.flat_machine.specs.Machine.{Machine, IsFile, IsFileId, IsByteOrAny}
use Rattle.flat_machine.specs.IsMachine.{IsMachine}
use Rattle.flat_machine.specs.Settled.{settled, Agrees, FileStandsFor, PageAgrees, is_unforced}
use Rattle.flat_machine.proofs.SettledLemmas.{sector_state_files_agree}
use Rattle.swapper_kernel.specs.Stands.{labels_of}
use Rattle.session_words.specs.Parts.{HasRoot, Shape, Shapes, shape_of, shapes_of}
use Rattle.session_words.specs.Found.{AreShapes, HasPage}
use Rattle.session_words.specs.StandsFor.{IsSettled, RevealsSettled}
use Rattle.session_words.specs.SettledLaws.{SettledIsRevealed}
use Rattle.label_laws.proofs.PermanentLemmas.{permanent_among, permanent_right}
use Rattle.session_words.proofs.FoundLemmas.{file_found, file_missing, file_of, once_in}

-- what holds of each by its place holds of each
pub all_by_place : {X : Type 0} (P : X → Type 0) (xs : List X) → ((k : ℕ) (x : X) → slice_get xs k ≡ Some x → P x) → AllByRecursion P xs
all_by_place P [] each = tt
all_by_place P (x ∷ xs) each = (each 0 x refl, all_by_place P xs (λ k y at. each (suc k) y at))

all_bytes : (bs : List ℕ) → All (λ b. b < 256) bs → AllByRecursion IsByteOrAny (map byte bs)
all_bytes [] h = tt
all_bytes (b ∷ bs) h = (h 0 b (omega arith), all_bytes bs (λ k d l. h (suc k) d (omega arith)))

-- a file has room among all
one_room : (fs : List File) → AllByRecursion (λ f. room_of f ≤ total_room fs) fs
one_room fs = within fs (total_room fs) (omega arith)
  where
    within : (gs : List File) (n : ℕ) → total_room gs ≤ n → AllByRecursion (λ f. room_of f ≤ n) gs
    within [] n few = tt
    within (g ∷ gs) n few = (omega (arith, few, sum_by-cons room_of g gs), within gs n (omega (arith, few, sum_by-cons room_of g gs)))

-- files of the same shapes take the same room
pub same_rooms : (R : File → File → Type 0) → ((f g : File) → R f g → size f ≡ size g) → (fs gs : List File) → AllZip R fs gs → total_room fs ≡ total_room gs
same_rooms R sizes [] [] all = refl
same_rooms R sizes [] (g ∷ gs) all = absurd all
same_rooms R sizes (f ∷ fs) [] all = absurd all
same_rooms R sizes (f ∷ fs) (g ∷ gs) all = omega (arith, sizes f g all.0, same_rooms R sizes fs gs all.1, sum_by-cons room_of f fs, sum_by-cons room_of g gs)

-- the shape of a file that is there
pub shape_at : (files : List File) (id : ℕ) (f : Shape) → shapes_of files id ≡ Some f → (g : File) × (file_at files id ≡ Some g) × (shape_of g ≡ f)
shape_at files id f is = either (file_at files id) refl
  where
    either : (o : Option File) → file_at files id ≡ o → (g : File) × (file_at files id ≡ Some g) × (shape_of g ≡ f)
    either None e = absurd (none-some f (sym (ap (λ (o : Option File). option_map shape_of o) e) ∙ is))
    either (Some g) e = (g, e, same_Some (shape_of g) f (sym (ap (λ (o : Option File). option_map shape_of o) e) ∙ is))

file_id_is_one : (id : ℕ) → 16 ≤ id → id % 2 ^ 32 ≢ 4294967295 → is_file_id id ≡ true
file_id_is_one id high low =
    let a : nat_le 16 id ≡ true = grind arith in
    let b : eqb (id % 2 ^ 32) 4294967295 ≡ false = ne_eqb (id % 2 ^ 32) 4294967295 low in
    rw (a, b) refl

-- the identifiers and sizes of a machine on a volume
pub machine_shapes : (m : Machine) → IsMachine m → (n : ℕ) (sector : Option Sector) → HasRoot n sector m.serial m.counter m.capacity → AreShapes (shapes_of m.files)
machine_shapes m is n sector root = record {
  given = λ id f found. let g = shape_at m.files id f found in let given = id_of id g.0 g.1 in file_id_is_one id given.above_reserved given.low_half;
  short = λ id f found.
      let g = shape_at m.files id f found in
      let room : room_of g.0 ≤ total_room m.files = each_at (λ f. room_of f ≤ total_room m.files) m.files (one_room m.files) id g.0 g.1 in
      let same : size g.0 ≡ f.size = ap (λ (s : Shape). s.size) g.2 in
      omega (arith, room, same, is.room, root.has_room, root.valid.accepted);
}
  where
    id_of : (id : ℕ) (g : File) → file_at m.files id ≡ Some g → IsFileId m.serial m.counter id
    id_of id g found = subst (IsFileId m.serial m.counter) (at_id m.files id g found) (each_at (λ f. IsFileId m.serial m.counter f.id) m.files is.ids_given id g found)

module _ (d : List Sector) (m : Machine) (h : IsSettled d m) where
  shapes : Shapes
  shapes = shapes_of m.files

  -- the machine's file of that identifier has that one
  id_given : (id : ℕ) (g : File) → file_at m.files id ≡ Some g → IsFileId m.serial m.counter id
  id_given id g is = subst (IsFileId m.serial m.counter) (at_id m.files id g is) (each_at (λ f. IsFileId m.serial m.counter f.id) m.files h.machine.ids_given id g is)

  are : AreShapes (shapes_of m.files)
  are = machine_shapes m h.machine (length d) (slice_get d 0) h.root

  -- a file that is found is the machine's but for cells
  pub record Reveals (f g : File) : Type 0 where
    pub same_id : f.id ≡ g.id
    pub same_shape : shape_of f ≡ shape_of g
    pub machine_file : file_at m.files g.id ≡ Some g
    pub pages : (j : ℕ) (p : Page) → slice_get f.pages j ≡ Some p → HasPage d g.id j p

  pub both : (id : ℕ) → BothBy Reveals (disk_file true d id) (file_at m.files id)
  both id = either (file_at m.files id) refl
    where
      either : (o : Option File) → file_at m.files id ≡ o → BothBy Reveals (disk_file true d id) o
      either None e = subst (λ (o : Option File). BothBy Reveals o None) (sym (file_missing h.table_pages d (shapes_of m.files) h.labels are id (ap (λ (o : Option File). option_map shape_of o) e))) tt
      either (Some g) e =
          let is : shapes_of m.files id ≡ Some (shape_of g) = ap (λ (o : Option File). option_map shape_of o) e in
          let x = file_found h.table_pages d (shapes_of m.files) h.labels are id (shape_of g) is in
          let same : g.id ≡ id = at_id m.files id g e in
          let reveals : Reveals x.0 g = record {
            same_id = x.1.same_id ∙ sym same;
            same_shape = x.1.same_shape;
            machine_file = ap (file_at m.files) same ∙ e;
            pages = λ j p at. subst (λ (n : ℕ). HasPage d n j p) (sym same) (x.1.pages j p at);
          } in
          subst (λ (o : Option File). BothBy Reveals o (Some g)) (sym x.1.found) reveals

  looked : (id : ℕ) → BothBy Reveals (file_at (files_among true d) id) (file_at m.files id)
  looked id = subst (λ (o : Option File). BothBy Reveals o (file_at m.files id)) (sym (laws.look_up true 0 0 d id)) (both id)

  pub zipped : AllZip Reveals (files_among true d) m.files
  zipped = zip_by_look_up Reveals (λ f g t. t.same_id) (files_among true d) m.files (laws.files_on_rise true 0 0 d) h.machine.ids_rise looked

  -- each file that is found is one of the machine's
  from_disk : (id : ℕ) (f : File) → disk_file true d id ≡ Some f → (g : File) × (file_at m.files id ≡ Some g) × Reveals f g
  from_disk id f is = either (file_at m.files id) refl
    where
      either : (o : Option File) → file_at m.files id ≡ o → (g : File) × (file_at m.files id ≡ Some g) × Reveals f g
      either None e = absurd (subst (λ (o : Option File). BothBy Reveals (Some f) o) e (subst (λ (o : Option File). BothBy Reveals o (file_at m.files id)) is (both id)))
      either (Some g) e = (g, e, subst (λ (o : Option File). BothBy Reveals (Some f) o) e (subst (λ (o : Option File). BothBy Reveals o (file_at m.files id)) is (both id)))

  whole : (id : ℕ) (f : File) → disk_file true d id ≡ Some f → IsWhole (data_sectors d) f
  whole id f is =
      let g = from_disk id f is in
      let same : f.id ≡ id = g.2.same_id ∙ at_id m.files id g.0 g.1 in
      record {
        no_other = λ i s here of.
            let parts = and_parts (is_file s.0) (eqb s.0.id f.id) of in
            let x = file_of h.table_pages d (shapes_of m.files) h.labels are i s here parts.0 in
            let sid : s.0.id ≡ id = eqb-true s.0.id f.id parts.1 ∙ same in
            let shape : x.0 ≡ shape_of g.0 = same_Some x.0 (shape_of g.0) (sym x.1 ∙ ap (shapes_of m.files) sid ∙ ap (λ (o : Option File). option_map shape_of o) g.1) in
            let sizes : x.0.size ≡ size f = ap (λ (s : Shape). s.size) shape ∙ ap (λ (s : Shape). s.size) (sym g.2.same_shape) in
            elim x.2 [ inl leader ↦ inl leader | inr below ↦ inr (omega arith) ];
        once = λ i j s t here there of also number.
            let p = and_parts (is_file s.0) (eqb s.0.id f.id) of in
            let q = and_parts (is_file t.0) (eqb t.0.id f.id) also in
            once_in h.table_pages d (shapes_of m.files) h.labels are i j s t here there p.0 (eqb-true s.0.id f.id p.1 ∙ sym (eqb-true t.0.id f.id q.1)) number;
      }

  pub right_all : FilesRight true m.serial m.counter d
  right_all = record {
    accepted = h.root.valid.accepted;
    whole_files = laws.each_file true 0 0 (IsWhole (data_sectors d)) d whole;
    ids_given = laws.each_file true 0 0 (IsGiven m.serial m.counter) d (λ id f is.
        let g = from_disk id f is in
        let same : id ≡ f.id = sym (g.2.same_id ∙ at_id m.files id g.0 g.1) in
        subst (λ (n : ℕ). n / 2 ^ 32 ≡ m.serial → n % 2 ^ 32 < m.counter) same (id_given id g.0 g.1).given_out);
    room = omega (arith, same_rooms Reveals (λ f g t. ap (λ (s : Shape). s.size) t.same_shape) (files_among true d) m.files zipped, h.machine.room, h.root.has_room);
  }

  are_files : AllByRecursion IsFile (files_among true d)
  are_files = laws.each_file true 0 0 IsFile d (λ id f is.
      let g = from_disk id f is in
      let kind : f.kind ≡ g.0.kind = ap (λ (s : Shape). s.kind) g.2.same_shape in
      let machine_file : IsFile g.0 = each_at IsFile m.files h.machine.whole_files id g.0 g.1 in
      record {
        kind_fits = omega (arith, kind, machine_file.kind_fits);
        whole_pages = all_by_place (λ p. length p ≡ 512) f.pages (λ j p at. let x = g.2.pages j p at in
            ap (λ (q : Page). length q) x.bytes ∙ length-map x.s.1 byte ∙ (h.sectors x.place x.s x.there.here).whole_page);
        cells = all_by_place (AllByRecursion IsByteOrAny) f.pages (λ j p at. let x = g.2.pages j p at in
            subst (AllByRecursion IsByteOrAny) (sym x.bytes) (all_bytes x.s.1 (h.sectors x.place x.s x.there.here).bytes));
      })

  stand : (f g : File) → Reveals f g → FileStandsFor m.unforced f g
  stand f g t = record {
    same_id = t.same_id;
    same_kind = ap (λ (s : Shape). s.kind) t.same_shape;
    same_permanent = ap (λ (s : Shape). s.permanent) t.same_shape;
    same_immutable = ap (λ (s : Shape). s.immutable) t.same_shape;
    same_size = ap (λ (s : Shape). s.size) t.same_shape;
    pages_agree = λ k p q at_p at_q firm.
        let x = t.pages k p at_p in
        subst (λ (c : Page). PageAgrees c q) (sym x.bytes)
        (h.cells.agrees x.place x.s g q x.there (ap (file_at m.files) x.same_id ∙ t.machine_file) (ap (slice_get g.pages) x.same_page ∙ at_q)
        ((λ i. is_unforced m.unforced (x.same_id i) (x.same_page i)) ∙ firm));
  }

  sector_state : (o p : Option File) → BothBy Reveals o p → BothBy (FileStandsFor m.unforced) o p
  sector_state None None b = tt
  sector_state None (Some g) b = absurd b
  sector_state (Some f) None b = absurd b
  sector_state (Some f) (Some g) b = stand f g b

  -- labels by themselves, or of sectors
  named : (k : ℕ) (w : Wanted) → IsSomeAnd (slice_get (labels_of d) k) (λ l. IsTrue (names l w)) → IsSomeAnd (slice_get d k) (λ s. IsTrue (names s.0 w))
  named k w is = either (slice_get d k) (subst (λ (o : Option Label). IsSomeAnd o (λ l. IsTrue (names l w))) (slice_get-map (λ (s : Sector). s.0) d k) is)
    where
      either : (o : Option Sector) → IsSomeAnd (option_map (λ s. s.0) o) (λ l. IsTrue (names l w)) → IsSomeAnd o (λ s. IsTrue (names s.0 w))
      either None a = a
      either (Some s) a = a

  maps : HasMaps (length d) d
  maps =
      let long : length (labels_of d) ≡ length d = length-map d (λ s. s.0) in
      record {
        allocation = λ k below. named (1 + k) (record { id = 1; page = k }) (h.map_labels.allocation k (subst (λ (n : ℕ). k < vam n) (sym long) below));
        file_map = λ k below. named (1 + vam (length d) + k) (record { id = 2; page = k })
            (subst (λ (n : ℕ). IsSomeAnd (slice_get (labels_of d) (1 + vam n + k)) (λ l. IsTrue (names l (record { id = 2; page = k })))) long
            (h.map_labels.file_map k (subst (λ (n : ℕ). k < vfm n) (sym long) below)));
      }

  pub reveals_settled : RevealsSettled d m
  reveals_settled =
      let among = permanent_among m.serial m.counter d right_all in
      record {
        agrees = subst (λ (fs : List File). Agrees fs (settled m)) (sym among)
            (sector_state_files_agree (files_among true d) m (laws.files_on_rise true 0 0 d) are_files h.machine (λ id. sector_state (file_at (files_among true d) id) (file_at m.files id) (looked id)));
        right = record {
          has_root = h.root.valid;
          has_maps = maps;
          files = subst (λ (s : ℕ). FilesRight false s (counter_of d) d) (sym h.root.has_serial) (subst (λ (c : ℕ). FilesRight false m.serial c d) (sym h.root.has_counter) (permanent_right m.serial m.counter d right_all));
        };
      }

pub settled_is_revealed : SettledIsRevealed
settled_is_revealed d m h = reveals_settled d m h
