use Rattle.std.proofs.Common.{rules, ◌≡◌, inl, inr, ◌<◌, ℕ, length, List, Some, refl, sym, ◌∙◌, ap, get_or}
use Rattle.std.specs.Prelude.{slice_get, option_map}
use Rattle.std.proofs.lemmas.Option.{slice_get_read}
use Rattle.write_queue.specs.declared.entry.Entry.{Entry}
use Rattle.write_queue.specs.Entries.{laid, IsOnce}
use Rattle.write_queue.specs.Inside.{HasFirst}
use Rattle.write_queue.specs.Sweeps.{IsFirst}
use Rattle.write_queue.proofs.PrefixLemmas.{is_first}
use Rattle.write_queue.proofs.FilterLemmas.{free_fewer, free_out}
use Rattle.write_queue.proofs.ListLemmas.{less-fewer, stands_waiting}
use Rattle.write_queue.proofs.PlaceLemmas.{sectors-removed}
use Rattle.write_queue.proofs.WaitLemmas.{revealed_out, revealed_still, differs_then, made_or_not, labels_after, revealed_after, never_wrong, are_kept, are_fewer}
use Rattle.write_queue.proofs.queue.QueueOver.write_first.Goals as goal

-- the first page stands there
abbrev there : (es : List Entry) (place : ℕ) (e : Entry) → place < length es → e ≡ get_or es place e → slice_get es place ≡ Some e
there es place e below is = slice_get_read es (length es) place e refl below is

abbrev first : (head : ℕ) (es : List Entry) (place : ℕ) (e : Entry) → IsOnce es → HasFirst head es place → e ≡ get_or es place e → IsFirst head es e
first head es place e once has is = is_first head es place e once has (there es place e has.below is)

pub write_data-requires : goal.write_data-requires
write_data-requires g c = (c.args.self.now.waiting.each c.first_place-place.result c.index.result.now (there c.args.self.now.entries.items c.first_place-place.result c.index.result.now c.first_place-place.ensures.below c.index.ensures)).inside

pub invariant_of-self : goal.invariant_of-self
invariant_of-self g c =
    let self = c.args.self.now in
    let old = g.D.Disk.state self.beneath in
    let new = g.D.Disk.state c.write_data.new.self in
    let es = self.entries.items in
    let e = c.index.result.now in
    let kept = are_kept old new es c.write_data.ensures.moves.sectors (labels_after old new e.sector e.wanted e.page c.write_data.result c.write_data.ensures) self.waiting in
    let at = there es c.first_place-place.result e c.first_place-place.ensures.below c.index.ensures in
    let less = less-fewer es c.first_place-place.result c.first_place-place.ensures.below c.swap_remove.result self.waiting.once e at in
    record {
      waiting = rw c.swap_remove.ensures.items (are_fewer new es c.first_place-place.result c.first_place-place.ensures.below c.swap_remove.result kept);
      listed = rw c.swap_remove.ensures.items (c.swap_remove-self.ensures.items ∙ sectors-removed es self.sectors.items c.first_place-place.result c.swap_remove.result c.swap_remove-self.result self.listed c.first_place-place.ensures.below);
      filtered = rw c.swap_remove.ensures.items (λ k out. free_fewer es _ e less k (self.filtered k out));
      freed = rw c.swap_remove.ensures.items (λ _. free_out es _ e less);
      fits = search rules;
      room_kept = search rules;
      rooms = self.rooms;
      unchanged = λ d is. let t = revealed_after old new e.sector e.wanted e.page c.write_data.result c.write_data.ensures d is in self.unchanged t.0 t.1;
      counted = self.counted;
      differs = self.differs;
      few_transfers = self.few_transfers;
      paid = search rules;
    }

pub invariant_of-self-in-Err-Failed : goal.invariant_of-self-in-Err-Failed
invariant_of-self-in-Err-Failed g c =
    let self = c.args.self.now in
    let old = g.D.Disk.state self.beneath in
    let new = g.D.Disk.state c.write_data.new.self in
    let es = self.entries.items in
    let e = c.index.result.now in
    record {
      waiting = are_kept old new es c.write_data.ensures.moves.sectors (labels_after old new e.sector e.wanted e.page c.write_data.result c.write_data.ensures) self.waiting;
      listed = self.listed;
      filtered = self.filtered;
      freed = self.freed;
      fits = self.fits;
      room_kept = self.room_kept;
      rooms = self.rooms;
      unchanged = λ d is. let t = revealed_after old new e.sector e.wanted e.page c.write_data.result c.write_data.ensures d is in self.unchanged t.0 t.1;
      counted = self.counted;
      differs = self.differs;
      few_transfers = self.few_transfers;
      paid = search rules;
    }

pub invariant_of-self-in-Err-Wrong : goal.invariant_of-self-in-Err-Wrong
invariant_of-self-in-Err-Wrong g c =
    let self = c.args.self.now in
    let old = g.D.Disk.state self.beneath in
    let new = g.D.Disk.state c.write_data.new.self in
    let es = self.entries.items in
    let e = c.index.result.now in
    let wrong = rw c.in-Err-Wrong.field-0-is at c.in-Err-Wrong.ensures in
    record {
      waiting = are_kept old new es c.write_data.ensures.moves.sectors (labels_after old new e.sector e.wanted e.page c.write_data.result c.write_data.ensures) self.waiting;
      listed = self.listed;
      filtered = self.filtered;
      freed = self.freed;
      fits = self.fits;
      room_kept = self.room_kept;
      rooms = self.rooms;
      unchanged = λ d is. absurd (never_wrong old new e c.in-Err-Wrong.found (c.args.self.now.waiting.each c.first_place-place.result c.index.result.now (there c.args.self.now.entries.items c.first_place-place.result c.index.result.now c.first_place-place.ensures.below c.index.ensures)) wrong d is);
      counted = λ is. absurd (cc is);
      differs = differs_then c.index.result.now.sector c.index.result.now.wanted c.in-Err-Wrong.found wrong.wrong.0;
      few_transfers = self.few_transfers;
      paid = search rules;
    }

pub returns-in-Ok-clause-out : goal.returns-in-Ok-clause-out
returns-in-Ok-clause-out g c = record {
  first = c.index.result.now;
  is_first = first c.args.self.now.head c.args.self.now.entries.items c.first_place-place.result c.index.result.now c.args.self.now.waiting.once c.first_place-place.ensures c.index.ensures;
  out = (
    c.in-Ok.ensures.written,
    rw c.swap_remove.ensures.items (less-fewer c.args.self.now.entries.items c.first_place-place.result c.first_place-place.ensures.below c.swap_remove.result c.args.self.now.waiting.once c.index.result.now (there c.args.self.now.entries.items c.first_place-place.result c.index.result.now c.first_place-place.ensures.below c.index.ensures)),
    refl,
    search rules,
  );
  stays = tt;
  moves = c.write_data.ensures.moves;
}

pub returns-in-Err-Failed-clause-out : goal.returns-in-Err-Failed-clause-out
returns-in-Err-Failed-clause-out g c =
    let failed = rw c.in-Err-Failed.field-0-is at c.in-Err-Failed.ensures in
    record {
      first = c.index.result.now;
      is_first = first c.args.self.now.head c.args.self.now.entries.items c.first_place-place.result c.index.result.now c.args.self.now.waiting.once c.first_place-place.ensures c.index.ensures;
      out = tt;
      stays = (refl, refl, made_or_not failed.whole_or_absent);
      moves = c.write_data.ensures.moves;
    }

pub returns-in-Err-Wrong-clause-out : goal.returns-in-Err-Wrong-clause-out
returns-in-Err-Wrong-clause-out g c =
    let wrong = rw c.in-Err-Wrong.field-0-is at c.in-Err-Wrong.ensures in
    record {
      first = c.index.result.now;
      is_first = first c.args.self.now.head c.args.self.now.entries.items c.first_place-place.result c.index.result.now c.args.self.now.waiting.once c.first_place-place.ensures c.index.ensures;
      out = tt;
      stays = (refl, refl, inl wrong.wrong.2);
      moves = c.write_data.ensures.moves;
    }

pub returns-in-Ok-clause-revealed : goal.returns-in-Ok-clause-revealed
returns-in-Ok-clause-revealed g c =
    let self = c.args.self.now in
    let es = self.entries.items in
    let e = c.index.result.now in
    let at = there es c.first_place-place.result e c.first_place-place.ensures.below c.index.ensures in
    rw c.swap_remove.ensures.items (revealed_out (g.D.Disk.state self.beneath) (g.D.Disk.state c.write_data.new.self) es _ e
    (stands_waiting es self.waiting.once c.first_place-place.result e at e.sector refl)
    (less-fewer es c.first_place-place.result c.first_place-place.ensures.below c.swap_remove.result self.waiting.once e at)
    (self.waiting.each c.first_place-place.result e at) c.in-Ok.ensures.written)

pub returns-in-Err-Failed-clause-revealed : goal.returns-in-Err-Failed-clause-revealed
returns-in-Err-Failed-clause-revealed g c =
    let self = c.args.self.now in
    let es = self.entries.items in
    let e = c.index.result.now in
    let failed = rw c.in-Err-Failed.field-0-is at c.in-Err-Failed.ensures in
    let at = there es c.first_place-place.result e c.first_place-place.ensures.below c.index.ensures in
    revealed_still (g.D.Disk.state self.beneath) (g.D.Disk.state c.write_data.new.self) es e
    (stands_waiting es self.waiting.once c.first_place-place.result e at e.sector refl) (made_or_not failed.whole_or_absent)

pub returns-in-Err-Wrong-clause-revealed : goal.returns-in-Err-Wrong-clause-revealed
returns-in-Err-Wrong-clause-revealed g c =
    let wrong = rw c.in-Err-Wrong.field-0-is at c.in-Err-Wrong.ensures in
    ap (option_map (laid c.args.self.now.entries.items)) wrong.wrong.2.contents

pub returns-in-Err-Wrong-clause-met : goal.returns-in-Err-Wrong-clause-met
returns-in-Err-Wrong-clause-met g c =
    let self = c.args.self.now in
    let es = self.entries.items in
    let e = c.index.result.now in
    let at = there es c.first_place-place.result e c.first_place-place.ensures.below c.index.ensures in
    let wrong = rw c.in-Err-Wrong.field-0-is at c.in-Err-Wrong.ensures in (
      tt,
      inr (record {
        entry = e;
        found = c.in-Err-Wrong.found;
        waits = stands_waiting es self.waiting.once c.first_place-place.result e at e.sector refl;
        stands = λ d revealed. wrong.wrong.1 d (sym wrong.wrong.2.contents ∙ revealed);
        other = wrong.wrong.0;
        counted = c.saturating_add-self.ensures;
        revealed = refl;
      }),
    )
