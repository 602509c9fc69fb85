-- What a session's end spends on its files.
use Rattle.std.proofs.Common.{◌≡◌, ℕ, ◌+◌, ◌*◌, ◌<◌, ◌≤◌, ◌^◌, Bool, true, false, not, cond, eqb, List, [], ◌∷◌, length, Option, Some, None, refl, sym, ◌∙◌, ap, subst, arith}
use Rattle.std.specs.Prelude.{nat_lt, option_map, ◌==◌}
use Rattle.std.proofs.lemmas.Bool.{eqb-true}
use Rattle.std.proofs.lemmas.Bool.Decides.{nat_tests}
use Rattle.std.proofs.lemmas.List.Sums.{sum_by-cons}
use Rattle.std.proofs.lemmas.Option.{same_Some, none-some}
use Rattle.std.proofs.Math.Nat.{mul-le-mul}
use Rattle.labelled_disk.specs.declared.layout.Layout.{Layout}
use Rattle.labelled_disk.specs.File.{File, size, file_at, room_of, total_room}
use Rattle.file_map.specs.FileMap.{most_records}
use Rattle.frame_pool.specs.Frames.{Slots}
use Rattle.flat_machine.specs.Machine.{Machine}
use Rattle.flat_machine.specs.Next.{without_file}
use Rattle.force_calls.specs.Run.{dirty_count, is_dirty_in}
use Rattle.swapper_kernel.specs.Homes.{IsLayout}
use Rattle.session_words.specs.Parts.{Shape, shape_of, shapes_of}
use Rattle.file_manager.specs.Answer.{IsNextFile}
use Rattle.file_manager.specs.declared.attributes.Attributes.{Attributes}
use Rattle.file_manager.specs.Attributes.{IsAttributesOf}
use Rattle.running_words.specs.Bound.{delete_cost, visit_cost, room_above, emptying_bound, other_bound}
use Rattle.pilot_engine.proofs.BoundLemmas.{linear, small}
use Rattle.pilot_engine.proofs.CallLemmas.{file_revealed}

-- The files above an identifier.

one_lower : (cursor id : ℕ) (x : File) → cursor < id → cond (nat_lt id x.id) (room_of x) 0 ≤ cond (nat_lt cursor x.id) (room_of x) 0
one_lower cursor id x above = by (nat_lt id x.id) refl (nat_lt cursor x.id) refl
  where
    by : (a : Bool) → nat_lt id x.id ≡ a → (b : Bool) → nat_lt cursor x.id ≡ b → cond a (room_of x) 0 ≤ cond b (room_of x) 0
    by true p true q = omega arith
    by true p false q = grind (arith, nat_tests)
    by false p true q = omega arith
    by false p false q = omega arith

room_lower : (cursor id : ℕ) → cursor < id → (fs : List File) → room_above id fs ≤ room_above cursor fs
room_lower cursor id above [] = omega arith
room_lower cursor id above (x ∷ fs) = let first = one_lower cursor id x above in let rest = room_lower cursor id above fs in omega (arith, first, rest)

-- one of them, and those above it
pub room_step : (fs : List File) (cursor id : ℕ) (f : File) → cursor < id → file_at fs id ≡ Some f → room_above id fs + room_of f ≤ room_above cursor fs
room_step [] cursor id f above found = absurd (none-some f found)
room_step (x ∷ fs) cursor id f above found = either (eqb x.id id) refl found (room_step fs cursor id f above)
  where
    either : (b : Bool) → eqb x.id id ≡ b → cond b (Some x) (file_at fs id) ≡ Some f → (file_at fs id ≡ Some f → room_above id fs + room_of f ≤ room_above cursor fs) → room_above id (x ∷ fs) + room_of f ≤ room_above cursor (x ∷ fs)
    either true t h more =
        let here : x.id ≡ id = eqb-true x.id id t in
        let same : room_of x ≡ room_of f = ap room_of (same_Some x f h) in
        let not_above : nat_lt id x.id ≡ false = grind (arith, nat_tests) in
        let over : nat_lt cursor x.id ≡ true = grind (arith, nat_tests) in
        let none : ◌≡◌ {A = ℕ} (cond (nat_lt id x.id) (room_of x) 0) 0 = ap (λ (b : Bool). cond b (room_of x) 0) not_above in
        let all : ◌≡◌ {A = ℕ} (cond (nat_lt cursor x.id) (room_of x) 0) (room_of x) = ap (λ (b : Bool). cond b (room_of x) 0) over in
        let rest = room_lower cursor id above fs in
        omega (arith, same, none, all, rest)
    either false t h more = let first = one_lower cursor id x above in let rest = more h in omega (arith, first, rest)

-- without a file
pub room_without : (cursor id : ℕ) (fs : List File) → room_above cursor (without_file id fs) ≤ room_above cursor fs
room_without cursor id [] = omega arith
room_without cursor id (x ∷ fs) = either (x.id == id) (room_without cursor id fs)
  where
    either : (b : Bool) → room_above cursor (without_file id fs) ≤ room_above cursor fs → room_above cursor (cond (not b) (x ∷ without_file id fs) (without_file id fs)) ≤ room_above cursor (x ∷ fs)
    either true rest = omega (arith, rest)
    either false rest = omega (arith, rest)

-- all of them
pub room_all : (cursor : ℕ) (fs : List File) → room_above cursor fs ≤ total_room fs
room_all cursor [] = omega arith
room_all cursor (x ∷ fs) = let rest = room_all cursor fs in let whole = sum_by-cons room_of x fs in let first = one (nat_lt cursor x.id) in omega (arith, rest, whole, first)
  where
    one : (b : Bool) → cond b (room_of x) 0 ≤ room_of x
    one true = omega arith
    one false = omega arith

-- A file that is looked at.

-- what was revealed of it is revealed of the machine's
pub pages_revealed : (m : Machine) (id : ℕ) (f : File) (a : Attributes) → file_at m.files id ≡ Some f → IsAttributesOf (shapes_of m.files id) (Some a) → a.pages ≡ size f
pages_revealed m id f a found revealed =
    let g = file_revealed m id a revealed in
    ap (λ (w : Shape). w.size) (sym g.2) ∙ ap size (same_Some g.0 f (sym g.1 ∙ found))

pub looked_cost : (t0 t1 : ℕ) (f : File) → t1 ≤ t0 + 29 → t1 ≤ t0 + delete_cost * room_of f
looked_cost t0 t1 f looked = omega (arith, looked)

-- and deleted
pub deleted_cost : (layout now : Layout) → IsLayout layout → now ≡ layout → (t0 t1 t2 pages : ℕ) (f : File) → pages ≡ size f → t1 ≤ t0 + 29 → t2 ≤ t1 + (14 + (1 + pages) * (16 + 4 * now.vam) + 2 * (1 + 51 * (pages + 2))) → t2 ≤ t0 + delete_cost * room_of f
deleted_cost layout now is same t0 t1 t2 pages f long looked paid =
    let few = (small layout is).bits in
    let bits : now.vam ≤ 257 = subst (λ (l : Layout). l.vam ≤ 257) (sym same) few in
    let each : (1 + pages) * (16 + 4 * now.vam) ≤ (1 + pages) * 1044 = mul-le-mul (let r : 1 + pages ≤ 1 + pages = omega arith in r) (let r : 16 + 4 * now.vam ≤ 1044 = omega (arith, bits) in r) in
    omega (arith, long, looked, paid, each)

-- the next one is there
pub next_there : (m : Machine) (cursor id : ℕ) → IsNextFile (shapes_of m.files) cursor (Some id) → (f : File) × (file_at m.files id ≡ Some f)
next_there m cursor id is = either (file_at m.files id) refl
  where
    either : (o : Option File) → file_at m.files id ≡ o → (f : File) × (file_at m.files id ≡ Some f)
    either None e = absurd (is.1 (ap (option_map shape_of) e))
    either (Some f) e = (f, e)

-- and is visited
pub visited : (t0 t1 t2 above here : ℕ) (f : File) → here + room_of f ≤ above → t1 ≤ t0 + 36 → t2 ≤ t1 + delete_cost * room_of f → t2 + visit_cost * here ≤ t0 + visit_cost * above
visited t0 t1 t2 above here f step searched paid = omega (arith, step, searched, paid)

-- Maps are written.

pub few_dirty : (id first pages : ℕ) (s : Slots) → dirty_count id first pages s ≤ length s
few_dirty id first pages [] = omega arith
few_dirty id first pages (x ∷ s) = let rest = few_dirty id first pages s in let here = one (is_dirty_in id first pages x) in omega (arith, rest, here)
  where
    one : (b : Bool) → cond b 1 0 ≤ 1
    one true = omega arith
    one false = omega arith

-- The volume is emptied, and closed.

module _ (layout : Layout) (is : IsLayout layout) where
  pub files_cost : (t0 t1 room : ℕ) → room ≤ layout.capacity → t1 ≤ t0 + (36 + visit_cost * room) → t1 ≤ t0 + emptying_bound layout.sectors
  files_cost t0 t1 room few paid = let fits = (small layout is).room in omega (arith, few, fits, paid)

  pub emptied_cost : (now : Layout) → now ≡ layout → (t0 t1 t2 room : ℕ) → room ≤ layout.capacity → t1 ≤ t0 + (36 + visit_cost * room) → t2 ≤ t1 + (96 * (16 + 4 * now.vam) + 2 * (1 + 51 * most_records now.sectors)) → t2 ≤ t0 + emptying_bound layout.sectors
  emptied_cost now same t0 t1 t2 room few first later =
      let s = small layout is in
      let fits = s.room in
      let bits = s.bits in
      let records = s.records in
      let paid : t2 ≤ t1 + (96 * (16 + 4 * layout.vam) + 2 * (1 + 51 * most_records layout.sectors)) = subst (λ (l : Layout). t2 ≤ t1 + (96 * (16 + 4 * l.vam) + 2 * (1 + 51 * most_records l.sectors))) same later in
      omega (arith, few, fits, bits, records, first, paid)

  -- with the frames that are given up, both maps, and the root
  pub closed_bounded : (now : Layout) → now ≡ layout → (t0 t1 t2 t3 : ℕ) → t1 ≤ t0 + 1024 * (196 + 4096) → t2 ≤ t1 + emptying_bound now.sectors → t3 ≤ t2 + 8193 → t3 ≤ t0 + other_bound layout.sectors
  closed_bounded now same t0 t1 t2 t3 gone first later =
      let all : 1024 * (196 + 4096) + emptying_bound layout.sectors + 8193 ≤ 16384 * layout.sectors + 2 ^ 30 = omega arith in
      let most = linear layout.sectors (1024 * (196 + 4096) + emptying_bound layout.sectors + 8193) (small layout is).least all in
      let emptied : t2 ≤ t1 + emptying_bound layout.sectors = subst (λ (l : Layout). t2 ≤ t1 + emptying_bound l.sectors) same first in
      omega (arith, gone, emptied, later, most)

-- the frames of what windows show are given up
pub gone_cost : (count slots t0 t1 : ℕ) → count ≤ 1023 → t1 ≤ t0 + (count + 1) * (196 + slots) → t1 ≤ t0 + 1024 * (196 + slots)
gone_cost count slots t0 t1 few paid =
    let all : (count + 1) * (196 + slots) ≤ 1024 * (196 + slots) = mul-le-mul (let r : count + 1 ≤ 1024 = omega (arith, few) in r) (let r : 196 + slots ≤ 196 + slots = omega arith in r) in
    omega (arith, paid, all)

pub few_gone : (slots t0 t1 : ℕ) → slots ≤ 4096 → t1 ≤ t0 + 1024 * (196 + slots) → t1 ≤ t0 + 1024 * (196 + 4096)
few_gone slots t0 t1 few paid = omega (arith, few, paid)

pub few_written : (id first pages count : ℕ) (seen slots : Slots) (t0 t1 : ℕ) → seen ≡ slots → count ≡ length seen → count ≤ 4096 → t1 ≤ t0 + dirty_count id first pages slots → t1 ≤ t0 + 4096
few_written id first pages count seen slots t0 t1 same long most paid =
    let few = few_dirty id first pages slots in
    let counted : count ≡ length slots = long ∙ ap (λ (s : Slots). length s) same in
    omega (arith, few, counted, most, paid)
