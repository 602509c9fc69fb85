use Rattle.std.proofs.Common.{rules, ◌≡◌, ◌<◌, ◌^◌, ℕ, sym, ◌∙◌, List, length, get_or, Err}
use Rattle.std.proofs.lemmas.List.Elements.{All-from_get_or}
use Rattle.labelled_disk.specs.declared.label.Label.{Label}
use Rattle.labelled_disk.specs.Sectors.{IsSector}
use Rattle.write_queue.specs.Queue.{view_of}
use Rattle.write_queue.proofs.BeneathLemmas.{takes_none, takes_no_room, takes_more}
use Rattle.write_queue.proofs.WaitLemmas.{are_kept, labels_same}
use Rattle.write_queue.proofs.QueueLemmas.{data_other, waits_read, data_taken}
use Rattle.write_queue.proofs.queue.QueueOver.take_in.Goals as goal

form : (label : Label) (page : List ℕ) → label.id < 2 ^ 64 → label.page < 2 ^ 32 → label.kind < 2 ^ 16 → label.flags < 256 → label.last < 256
    → length page ≡ 512 → ((k : ℕ) → get_or page k 0 < 256) → IsSector (label, page)
form label page id number kind flags last long bytes = record {
  id_fits = id;
  page_fits = number;
  kind_fits = kind;
  flags_fit = flags;
  last_fits = last;
  whole_page = long;
  bytes = All-from_get_or (λ b. b < 256) page 0 (λ k below. bytes k);
}

pub invariant_of-self : goal.invariant_of-self
invariant_of-self g c =
    let self = c.args.self.now in
    let old = g.D.Disk.state self.beneath in
    let new = g.D.Disk.state c.read.new.self in
    record {
      waiting = are_kept old new self.entries.items c.read.ensures.moves.sectors (labels_same old new c.read.ensures.same) self.waiting;
      listed = self.listed;
      filtered = self.filtered;
      freed = self.freed;
      fits = self.fits;
      room_kept = self.room_kept;
      rooms = self.rooms;
      unchanged = λ d is. self.unchanged d (sym c.read.ensures.same.contents ∙ is);
      counted = self.counted;
      differs = self.differs;
      few_transfers = self.few_transfers;
      paid = search rules;
    }

pub returns-then-not-names-clause-data : goal.returns-then-not-names-clause-data
returns-then-not-names-clause-data g c =
    let self = c.args.self.now in
    data_other (g.D.Disk.state self.beneath) (g.D.Disk.state c.read.new.self) self.entries.items self.transfers self.own c.args.sector c.in_ok-label.label _ c.args.wanted c.args.page.now
    c.in_ok-label.ensures c.requires.free (sym c.names.ensures ∙ c.if-not-names.true)

pub put_in-requires-clause-waits : goal.put_in-requires-clause-waits
put_in-requires-clause-waits g c =
    waits_read (g.D.Disk.state c.args.self.now.beneath) (g.D.Disk.state c.read.new.self) (g.D.Disk.state c.make_room.new.self.beneath) c.args.sector c.in_ok-label.label _ c.args.wanted c.args.page.now
    c.in_ok-label.ensures c.requires.inside (sym c.names.ensures ∙ c.if-not-names.false)
    (form c.in_ok-label.label c.args.page.now (search rules) (search rules) (search rules) (search rules) (search rules) c.told-page c.fits-page)
    c.make_room.ensures.made.sectors c.make_room.ensures.made.labels

pub returns-clause-data : goal.returns-clause-data
returns-clause-data g c =
    let self = c.args.self.now in
    let room = c.make_room.new.self in
    let waits = waits_read (g.D.Disk.state self.beneath) (g.D.Disk.state c.read.new.self) (g.D.Disk.state room.beneath) c.args.sector c.in_ok-label.label _ c.args.wanted c.args.page.now
    c.in_ok-label.ensures c.requires.inside (sym c.names.ensures ∙ c.if-not-names.false)
    (form c.in_ok-label.label c.args.page.now (search rules) (search rules) (search rules) (search rules) (search rules) c.told-page c.fits-page)
    c.make_room.ensures.made.sectors c.make_room.ensures.made.labels in
    let taken = data_taken (g.D.Disk.state self.beneath) (g.D.Disk.state c.read.new.self) (g.D.Disk.state room.beneath) self.entries.items room.entries.items self.transfers self.own room.own
    c.args.sector c.in_ok-label.label _ c.args.wanted c.args.page.now c.in_ok-label.ensures c.make_room.ensures.revealed c.make_room.ensures.made c.make_room.ensures.later room.waiting.once
    c.requires.free waits in
    let transfers : c.put_in.new.self.transfers ≡ self.transfers = c.put_in.ensures.same.transfers ∙ c.make_room.ensures.same.transfers in
    rw (c.put_in.ensures.put, c.put_in.ensures.beneath, c.put_in.ensures.own, transfers) taken

pub returns-in_err-label-clause-takes : goal.returns-in_err-label-clause-takes
returns-in_err-label-clause-takes g c =
    let self = c.args.self.now in
    let same : c.from_residual.result ≡ Err c.in_err-label.field-0.0 = search rules in
    rw same (takes_none (view_of self) (g.D.Disk.state c.read.new.self) c.args.sector c.args.wanted c.args.page.now c.in_err-label.field-0.0 c.requires.free c.read.ensures.same c.read.ensures.moves.transfers.by_one)

pub returns-then-not-names-clause-takes : goal.returns-then-not-names-clause-takes
returns-then-not-names-clause-takes g c =
    takes_none (view_of c.args.self.now) (g.D.Disk.state c.read.new.self) c.args.sector c.args.wanted c.args.page.now _ c.requires.free c.read.ensures.same c.read.ensures.moves.transfers.by_one

pub returns-in_err-make_room-clause-takes : goal.returns-in_err-make_room-clause-takes
returns-in_err-make_room-clause-takes g c =
    let same : c.from_residual-in_err-make_room.result ≡ Err c.in_err-make_room.field-0.0 = search rules in
    rw same (takes_no_room (view_of c.args.self.now) (g.D.Disk.state c.read.new.self) (view_of c.make_room.new.self) c.args.sector c.args.wanted c.args.page.now c.in_err-make_room.field-0.0 c.requires.free
    c.read.ensures.same c.read.ensures.moves.transfers.by_one c.make_room.ensures.few c.in_err-make_room.ensures.takes)

pub returns-clause-takes : goal.returns-clause-takes
returns-clause-takes g c =
    let self = c.args.self.now in
    let room = c.make_room.new.self in
    rw (c.put_in.ensures.put, c.put_in.ensures.beneath, c.put_in.ensures.own, c.put_in.ensures.head, c.put_in.ensures.changed, c.put_in.ensures.same.room)
    (takes_more (view_of self) (g.D.Disk.state c.read.new.self) (view_of room) _ c.requires.free c.read.ensures.same c.read.ensures.moves.transfers.by_one c.make_room.ensures.few
    c.in_ok-make_room.ensures.takes room.waiting.once (c.make_room.ensures.made.free c.args.sector c.requires.free))
