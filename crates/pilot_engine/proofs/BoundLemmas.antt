-- The sums of transfers stay within the coarse bound.
use Rattle.std.proofs.Common.{◌≡◌, ℕ, ◌+◌, ◌-◌, ◌*◌, ◌^◌, ◌/◌, ◌≤◌, Some, sym, ap, subst, arith}
use Rattle.std.proofs.Math.Nat.{mul-le-mul, mul-le-mul_right}
use Rattle.labelled_disk.specs.declared.layout.Layout.{Layout}
use Rattle.labelled_disk.specs.File.{File, size, file_at}
use Rattle.labelled_disk.specs.Layout.{capacity, vam}
use Rattle.labelled_disk.specs.State.{DiskState}
use Rattle.file_map.specs.FileMap.{most_records}
use Rattle.frame_pool.specs.Frames.{Slots}
use Rattle.flat_machine.specs.Machine.{Machine, used}
use Rattle.swapper_kernel.specs.Homes.{IsLayout}
use Rattle.filer_kernel.specs.declared.cached.CachedRuns.{CachedRuns}
use Rattle.session_words.specs.Parts.{Shape, TablesMeaning, shapes_of}
use Rattle.file_manager.specs.declared.attributes.Attributes.{Attributes}
use Rattle.file_manager.specs.declared.volume.Volume.{Volume}
use Rattle.file_manager.specs.Attributes.{IsAttributesOf}
use Rattle.running_words.specs.Bound.{CostsOther, other_bound}
use Rattle.running_words.specs.Session.{IsOpen, IsSession}
use Rattle.pilot_engine.specs.Order.{turn_cost}
use Rattle.pilot_engine.specs.Seen.{CostsInside}
use Rattle.pilot_engine.proofs.CallLemmas.{file_revealed}
use Rattle.pilot_engine.proofs.RoomLemmas.{used_without}

-- Plain numbers.

-- so many times a number are within its square
pub many : (n : ℕ) → 256 ≤ n → 256 * n ≤ n * n
many n least = mul-le-mul_right n least

-- what is at most so many times the sectors
pub linear : (n c : ℕ) → 256 ≤ n → c ≤ 16384 * n + 2 ^ 30 → c ≤ other_bound n
linear n c least few = let more = many n least in omega (arith, few, more)

-- what is spent page by page
pub page_by_page : (n p w : ℕ) → p ≤ n → w ≤ 2157 → p * w ≤ 2157 * n
page_by_page n p w few cheap = let most : p * w ≤ n * 2157 = mul-le-mul few cheap in omega (arith, most)

-- little is spent, and as much is left for the space tables
pub inside : (t0 t1 n c : ℕ) → c ≤ 1000 → t1 ≤ t0 + c → t1 + 2 ^ 29 ≤ t0 + other_bound n
inside t0 t1 n c small paid = omega (arith, small, paid)

-- which is spent before or after
pub spent_besides : (old mid new : DiskState) → mid.sectors ≡ old.sectors → mid.transfers ≤ old.transfers + 2 ^ 29 → CostsInside mid new → CostsOther old new
spent_besides old mid new same asked paid =
    let within : new.transfers + 2 ^ 29 ≤ mid.transfers + other_bound old.sectors = subst (λ (n : ℕ). new.transfers + 2 ^ 29 ≤ mid.transfers + other_bound n) same paid in
    omega (arith, asked, within)

-- or both
pub spent_around : (old mid done new : DiskState) → mid.sectors ≡ old.sectors → mid.transfers ≤ old.transfers + 2 ^ 28 → CostsInside mid done → new.transfers ≤ done.transfers + 2 ^ 28 → CostsOther old new
spent_around old mid done new same asked paid later =
    let within : done.transfers + 2 ^ 29 ≤ mid.transfers + other_bound old.sectors = subst (λ (n : ℕ). done.transfers + 2 ^ 29 ≤ mid.transfers + other_bound n) same paid in
    omega (arith, asked, within, later)

-- so little was spent that it is below any bound
pub asked_inside : (old new : DiskState) (few : ℕ) → few ≤ 2 ^ 29 → new.transfers ≤ old.transfers + few → CostsOther old new
asked_inside old new few small paid = omega (arith, small, paid)

pub spent_inside : (old new : DiskState) → CostsInside old new → CostsOther old new
spent_inside old new paid = omega (arith, paid)

-- The parts of a layout.

few_pages : (n : ℕ) → vam n ≤ n / 4096 + 1
few_pages n = omega arith

pub record IsSmall (layout : Layout) : Type 0 where
  pub least : 256 ≤ layout.sectors
  pub bits : layout.vam ≤ 257
  pub records : most_records layout.sectors ≤ layout.sectors
  pub room : layout.capacity ≤ layout.sectors

pub small : (layout : Layout) → IsLayout layout → IsSmall layout
small layout is =
    let n = layout.sectors in
    let least = is.0.0 in
    let most = is.0.1 in
    let few = few_pages n in
    let bits : layout.vam ≡ vam n = ap (λ (l : Layout). l.vam) is.1 in
    let room : layout.capacity ≡ capacity n = ap (λ (l : Layout). l.capacity) is.1 in
    record { least = least; bits = omega (arith, bits, few, most); records = within n least; room = omega (arith, room) }
  where
    within : (n : ℕ) → 256 ≤ n → most_records n ≤ n
    within n least = omega (arith, least)

-- A start, whose root was read first.
pub start_bounded : (layout : Layout) → IsLayout layout → (t0 t1 t2 : ℕ) → t1 ≤ t0 + 1 → t2 ≤ t1 + (14393 + 2 * layout.vam + 2 * (1 + 51 * most_records layout.sectors) + 96 * (8 * layout.vam + 100)) → t2 ≤ t0 + other_bound layout.sectors
start_bounded layout is t0 t1 t2 read paid =
    let s = small layout is in
    let bits = s.bits in
    let records = s.records in
    let all : 14394 + 2 * layout.vam + 2 * (1 + 51 * most_records layout.sectors) + 96 * (8 * layout.vam + 100) ≤ 16384 * layout.sectors + 2 ^ 30 = omega (arith, bits, records) in
    let most = linear layout.sectors _ s.least all in
    omega (arith, read, paid, most)

-- Calls.

-- a file that is made
pub create_bounded : (layout : Layout) → IsLayout layout → (t0 t1 pages : ℕ) → pages + 1 ≤ layout.capacity → t1 ≤ t0 + (1 + 2 * (1 + 51 * most_records layout.sectors) + (pages + 1) * (8 * layout.vam + 100)) → t1 + 2 ^ 29 ≤ t0 + other_bound layout.sectors
create_bounded layout is t0 t1 pages few paid =
    let s = small layout is in
    let bits = s.bits in
    let room = s.room in
    let records = s.records in
    let each : (pages + 1) * (8 * layout.vam + 100) ≤ 2157 * layout.sectors = page_by_page layout.sectors (pages + 1) (8 * layout.vam + 100) (omega (arith, few, room)) (omega (arith, bits)) in
    let all : 1 + 2 * (1 + 51 * most_records layout.sectors) + (pages + 1) * (8 * layout.vam + 100) + 2 ^ 29 ≤ 16384 * layout.sectors + 2 ^ 30 = omega (arith, each, records) in
    let most = linear layout.sectors _ s.least all in
    omega (arith, paid, most)

-- a file that is deleted, after a look at it
pub delete_bounded : (layout now : Layout) → IsLayout layout → now ≡ layout → (t0 t1 t2 pages : ℕ) → pages + 1 ≤ layout.capacity → t1 ≤ t0 + 29 → t2 ≤ t1 + (14 + (1 + pages) * (16 + 4 * now.vam) + 2 * (1 + 51 * most_records now.sectors)) → t2 + 2 ^ 29 ≤ t0 + other_bound layout.sectors
delete_bounded layout now is same t0 t1 t2 pages few looked later =
    let s = small layout is in
    let bits = s.bits in
    let room = s.room in
    let records = s.records in
    let paid : t2 ≤ t1 + (14 + (1 + pages) * (16 + 4 * layout.vam) + 2 * (1 + 51 * most_records layout.sectors)) = subst (λ (l : Layout). t2 ≤ t1 + (14 + (1 + pages) * (16 + 4 * l.vam) + 2 * (1 + 51 * most_records l.sectors))) same later in
    let each : (1 + pages) * (16 + 4 * layout.vam) ≤ 2157 * layout.sectors = page_by_page layout.sectors (1 + pages) (16 + 4 * layout.vam) (omega (arith, few, room)) (omega (arith, bits)) in
    let all : 43 + (1 + pages) * (16 + 4 * layout.vam) + 2 * (1 + 51 * most_records layout.sectors) + 2 ^ 29 ≤ 16384 * layout.sectors + 2 ^ 30 = omega (arith, each, records) in
    let most = linear layout.sectors _ s.least all in
    omega (arith, looked, paid, most)

-- a file that gets another size, after a look at it
pub resize_bounded : (layout now : Layout) → IsLayout layout → now ≡ layout → (t0 t1 t2 pages : ℕ) → pages ≤ layout.capacity → t1 ≤ t0 + 29 → t2 ≤ t1 + (129 + pages * (8 * now.vam + 101) + 102 * most_records now.sectors) → t2 + 2 ^ 29 ≤ t0 + other_bound layout.sectors
resize_bounded layout now is same t0 t1 t2 pages few looked later =
    let s = small layout is in
    let bits = s.bits in
    let room = s.room in
    let records = s.records in
    let paid : t2 ≤ t1 + (129 + pages * (8 * layout.vam + 101) + 102 * most_records layout.sectors) = subst (λ (l : Layout). t2 ≤ t1 + (129 + pages * (8 * l.vam + 101) + 102 * most_records l.sectors)) same later in
    let each : pages * (8 * layout.vam + 101) ≤ 2157 * layout.sectors = page_by_page layout.sectors pages (8 * layout.vam + 101) (omega (arith, few, room)) (omega (arith, bits)) in
    let all : 158 + pages * (8 * layout.vam + 101) + 102 * most_records layout.sectors + 2 ^ 29 ≤ 16384 * layout.sectors + 2 ^ 30 = omega (arith, each, records) in
    let most = linear layout.sectors _ s.least all in
    omega (arith, looked, paid, most)

-- the disk has the layout's sectors
pub on_layout : (layout : Layout) (old new : DiskState) → old.sectors ≡ layout.sectors → new.transfers ≤ old.transfers + other_bound layout.sectors → CostsOther old new
on_layout layout old new same paid = subst (λ (n : ℕ). new.transfers ≤ old.transfers + other_bound n) (sym same) paid

-- all files are passed over
pub turns_bounded : (old new : DiskState) (layout : Layout) → IsLayout layout → old.sectors ≡ layout.sectors → (m : Machine) → used m ≤ layout.capacity → new.transfers ≤ old.transfers + (turn_cost + turn_cost * used m) → CostsOther old new
turns_bounded old new layout is same m few paid =
    let s = small layout is in
    let room = s.room in
    let all : turn_cost + turn_cost * used m ≤ 16384 * layout.sectors + 2 ^ 30 = omega (arith, few, room) in
    let most = linear layout.sectors (turn_cost + turn_cost * used m) s.least all in
    on_layout layout old new same (omega (arith, paid, most))

pub inside_layout : (layout : Layout) (old new : DiskState) → old.sectors ≡ layout.sectors → new.transfers + 2 ^ 29 ≤ old.transfers + other_bound layout.sectors → CostsInside old new
inside_layout layout old new same paid = subst (λ (n : ℕ). new.transfers + 2 ^ 29 ≤ old.transfers + other_bound n) (sym same) paid

-- a file of a session has room
module _ (spaces_of : TablesMeaning) (disk : DiskState) (slots : Slots) (layout : Layout) (runs : CachedRuns) (volume : Volume) (m : Machine) (s : IsSession spaces_of disk slots layout runs volume m) (opened : IsOpen layout volume) where
  pub file_fits : (id : ℕ) (f : File) → file_at m.files id ≡ Some f → size f + 1 ≤ layout.capacity
  file_fits id f found =
      let whole = used_without m s.stands.is.by.machine.ids_rise id f found in
      let same = s.same_used in
      let room = opened.room in
      omega (arith, whole, same, room)

  module _ (is : IsLayout layout) (now : Layout) (same : now ≡ layout) (mid new : DiskState) (id : ℕ) (a : Attributes) (revealed : IsAttributesOf (shapes_of m.files id) (Some a)) where
    -- a file that was looked at and deleted
    pub delete_revealed : disk.sectors ≡ layout.sectors → mid.transfers ≤ disk.transfers + 29 → new.transfers ≤ mid.transfers + (14 + (1 + a.pages) * (16 + 4 * now.vam) + 2 * (1 + 51 * most_records now.sectors)) → CostsInside disk new
    delete_revealed on looked paid =
        let f = file_revealed m id a revealed in
        let long : size f.0 ≡ a.pages = ap (λ (w : Shape). w.size) f.2 in
        let fits = file_fits id f.0 f.1 in
        inside_layout layout disk new on (delete_bounded layout now is same disk.transfers mid.transfers new.transfers a.pages (omega (arith, fits, long)) looked paid)

    -- or got another size, of pages that there is room for
    pub resize_revealed : (pages : ℕ) → pages ≤ layout.capacity → disk.sectors ≡ layout.sectors → mid.transfers ≤ disk.transfers + 29
        → new.transfers ≤ mid.transfers + (129 + ((pages - a.pages) + (a.pages - pages)) * (8 * now.vam + 101) + 102 * most_records now.sectors) → CostsInside disk new
    resize_revealed pages within on looked paid =
        let f = file_revealed m id a revealed in
        let long : size f.0 ≡ a.pages = ap (λ (w : Shape). w.size) f.2 in
        let fits = file_fits id f.0 f.1 in
        inside_layout layout disk new on
        (resize_bounded layout now is same disk.transfers mid.transfers new.transfers ((pages - a.pages) + (a.pages - pages)) (omega (arith, fits, long, within)) looked paid)
