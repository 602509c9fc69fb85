use Rattle.std.proofs.Common.{rules, ◌≡◌, ℕ, ◌+◌, ◌*◌, ◌<◌, ◌≤◌, ◌∙◌, ap, List, length, Some, Ok, inl, inr, arith, refl, sym}
use Rattle.std.proofs.lemmas.Bool.{true≢false}
use Rattle.record_table.specs.declared.look.Look.TheVariants.{Entry, Before, Count}
use Rattle.flat_mem.specs.Memory.{part}
use Rattle.space_tables.proofs.Entries.{length-entries, key_of}
use Rattle.std.specs.Prelude.{slice_get}
use Rattle.std.specs.Int.{w32, to_be_bytes}
use Rattle.flat_mem.specs.Order.{at_most}
use Rattle.projection_laws.specs.Sight.{Interval}
use Rattle.projection_laws.specs.Stored.{interval_in}
use Rattle.space_tables.specs.Form.{interval_record, is_interval_record}
use Rattle.swap_units.specs.Unit.{has_page}
use Rattle.space_tables.proofs.ReadBack.{interval_read, none_of, some_of, there}
use Rattle.space_tables.proofs.Right.{right_reads, entry_is, entry_holds, some_found}
use Rattle.space_tables.proofs.projection.find.Goals as goal
use Rattle.space_tables.proofs.projection.find.Goals.{in_default-via-in-Some+else-has_page, in_default-via-in_default}

pub returns-in-Ok-Before-clause-found : goal.returns-in-Ok-Before-clause-found
returns-in-Ok-Before-clause-found g c = λ slots xs h r long inside.
    some_found h.bytes slots xs h.are r c.args.count c.args.page c.requires.few long inside c.look_up_record.new.into (rw c.in-Ok-Before.field-0-is at (c.in-Ok-Before.ensures.answer h.bytes h.revealed))

pub returns-in-Ok-Before-clause-malformed : goal.returns-in-Ok-Before-clause-malformed
returns-in-Ok-Before-clause-malformed g c = λ b revealed. inr (inr (record { on = refl; after = c.in-Ok-Before.ensures.before b revealed (ap Ok c.in-Ok-Before.field-0-is) c.requires.some }))

pub returns-in-Some-clause-found : goal.returns-in-Some-clause-found
returns-in-Some-clause-found g c = λ slots xs h r long inside.
    let i = c.in-Ok-Entry.index in
    let within : i < c.args.count = rw c.in-Ok-Entry.field-0-is at c.in-Ok-Entry.ensures.form in
    let is = entry_is h.bytes c.look_up_record.new.into _ c.args.count i c.requires.few (rw c.in-Ok-Entry.field-0-is at (c.in-Ok-Entry.ensures.answer h.bytes h.revealed)) within in
    let below : i < length xs = omega (arith, within, long) in
    let read = interval_read h.bytes slots xs h.are (right_reads slots xs r) i c.look_up_record.new.into below is in
    cc (read, c.in-Some.ensures.interval)

pub returns-in_default-clause-found : goal.returns-in_default-clause-found
returns-in_default-clause-found g c = λ slots xs h r long inside.
    let i = c.in-Ok-Entry.index in
    let within : i < c.args.count = rw c.in-Ok-Entry.field-0-is at c.in-Ok-Entry.ensures.form in
    let answer = rw c.in-Ok-Entry.field-0-is at (c.in-Ok-Entry.ensures.answer h.bytes h.revealed) in
    let is = entry_is h.bytes c.look_up_record.new.into _ c.args.count i c.requires.few answer within in
    let below : i < length xs = omega (arith, within, long) in
    let read = interval_read h.bytes slots xs h.are (right_reads slots xs r) i c.look_up_record.new.into below is in
    elim c.in_default.branch [
      | in_default-via-in-Some+else-has_page w ↦
          let at : slice_get xs i ≡ Some w.in-Some.interval = cc (read, w.in-Some.ensures.interval) in
          absurd (true≢false (sym (entry_holds h.bytes slots xs h.are r c.args.count c.args.page c.requires.few long inside c.look_up_record.new.into i w.in-Some.interval answer at) ∙ sym w.has_page.ensures ∙ w.if-has_page.false))
      | in_default-via-in_default w ↦ there xs i below (w.in_default.ensures.interval ∙ read)
    ]

pub returns-in_default-clause-malformed : goal.returns-in_default-clause-malformed
returns-in_default-clause-malformed g c = λ b revealed.
    let i = c.in-Ok-Entry.index in
    let within : i < c.args.count = rw c.in-Ok-Entry.field-0-is at c.in-Ok-Entry.ensures.form in
    let is = entry_is b c.look_up_record.new.into _ c.args.count i c.requires.few (rw c.in-Ok-Entry.field-0-is at (c.in-Ok-Entry.ensures.answer b revealed)) within in
    let turn = rw c.in-Ok-Entry.field-0-is at (c.in-Ok-Entry.ensures.turn b revealed) in
    let few : c.args.count ≤ 1024 = omega (arith, c.requires.few) in
    let key = to_be_bytes w32 c.args.page in
    elim c.in_default.branch [
      | in_default-via-in-Some+else-has_page w ↦ inr (inl (
        i,
        record {
          counted = within;
          on = refl;
          begins = ap (λ (x : List ℕ). at_most x key) (sym (key_of b c.args.count i within few)) ∙ turn.0;
          ends = λ more. ap (λ (x : List ℕ). at_most x key) (sym (key_of b c.args.count (i + 1) more few)) ∙ turn.1 (omega (arith, more, length-entries (part b 16384 32768) c.args.count));
          misses = ap (λ (r : List ℕ). has_page c.args.page (interval_in r)) (sym is) ∙ ap (λ (y : Interval). has_page c.args.page y) (sym (some_of _ _ _ w.in-Some.ensures.interval)) ∙ sym w.has_page.ensures ∙ w.if-has_page.false;
        },
      ))
      | in_default-via-in_default w ↦ inl (i, record { counted = within; on = refl; breaks = ap is_interval_record (sym is) ∙ none_of _ _ w.in_default.ensures.interval })
    ]

pub returns-in-Some-clause-read : goal.returns-in-Some-clause-read
returns-in-Some-clause-read g c = λ b revealed.
    let i = c.in-Ok-Entry.index in
    let within : i < c.args.count = rw c.in-Ok-Entry.field-0-is at c.in-Ok-Entry.ensures.form in
    let is = entry_is b c.look_up_record.new.into _ c.args.count i c.requires.few (rw c.in-Ok-Entry.field-0-is at (c.in-Ok-Entry.ensures.answer b revealed)) within in
    some_of _ _ _ c.in-Some.ensures.interval ∙ ap interval_in is
