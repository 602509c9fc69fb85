use Rattle.std.proofs.Common.{◌≡◌, inl, inr, ◌+◌, ◌≤◌, ◌&&◌, ℕ, Option, false, refl, ap, subst, arith}
use Rattle.file_manager.specs.declared.attributes.Attributes.{Attributes}
use Rattle.flat_machine.specs.declared.space.Space.{Space}
use Rattle.flat_machine.specs.Machine.{nameable}
use Rattle.space_calls.specs.Naming.{IsNameable}
use Rattle.space_calls.proofs.MapLemmas.{both_not, file_immutable, no_such_file, path_taken, root_given, space_missing, window_allowed, window_long}
use Rattle.space_calls.proofs.RunLemmas.{asked_makes, asked_runs, knows, size_kept}
use Rattle.space_calls.proofs.TableAnswers.{bounds_refused, bounds_revealed, map_refused, map_revealed}
use Rattle.fault_core.specs.Core.{state}
use Rattle.space_calls.proofs.HaltLemmas.{given_map, named_map, path_change}
use Rattle.std.specs.Prelude.{IfSome}
use Rattle.space_calls.proofs.SeesLemmas.{are_seen, free_may, handle_so}
use Rattle.file_map.specs.FileMap.{IsSize}
use Rattle.space_calls.proofs.SizeLemmas.{found_later, reaches_over}
use Rattle.space_calls.proofs.mapping.may_map.Goals as goal
use Rattle.space_calls.proofs.mapping.may_map.Goals.{else-writable-via-then-writable+else-found, else-writable-via-else-writable}
use Rattle.filer_kernel.specs.View.{accepted}
use Rattle.space_calls.proofs.OutcomeLemmas.{halts_after, halts_at, halts_wider}
use Rattle.space_calls.proofs.LookLemmas.{looks_asked, looks_asked_then, looks_fits, looks_then}

-- ---- The space.

pub returns-in-Ok-Err-clause-answer : goal.returns-in-Ok-Err-clause-answer
returns-in-Ok-Err-clause-answer g c = λ volume m r.
    let old = c.args.core.now in
    (space_missing m c.args.space c.args.id c.args.page c.args.writable c.in-Ok-Err.word (bounds_refused m.spaces c.args.space c.in-Ok-Err.field-0 c.in-Ok-Err.word c.in-Ok-Err.field-0-is (c.in-Ok-Err.ensures.answer _ _ m.spaces (knows old (accepted old.filer) c.requires.size volume m r))), tt)

pub returns-in-Ok-Err-clause-looks : goal.returns-in-Ok-Err-clause-looks
returns-in-Ok-Err-clause-looks g c = looks_asked c.requires.size c.bounds.ensures.asked c.bounds.ensures.sees

pub returns-in-Err-clause-looks : goal.returns-in-Err-clause-looks
returns-in-Err-clause-looks g c = looks_asked c.requires.size c.bounds.ensures.asked c.bounds.ensures.sees

pub returns-then-space-eq0-clause-looks : goal.returns-then-space-eq0-clause-looks
returns-then-space-eq0-clause-looks g c = looks_asked c.requires.size c.bounds.ensures.asked c.bounds.ensures.sees

pub returns-in-Err-clause-answer : goal.returns-in-Err-clause-answer
returns-in-Err-clause-answer g c = λ volume m r.
    let old = c.args.core.now in
    c.in-Err.ensures.sound _ _ m.spaces (knows old (accepted old.filer) c.requires.size volume m r)

pub returns-then-space-eq0-clause-answer : goal.returns-then-space-eq0-clause-answer
returns-then-space-eq0-clause-answer g c = λ volume m r.
    let old = c.args.core.now in
    let there = (bounds_revealed m.spaces c.args.space c.in-Ok-Ok.field-0 c.in-Ok-Ok.field-0-0 c.in-Ok-Ok.field-0-is (c.in-Ok-Ok.ensures.answer _ _ m.spaces (knows old (accepted old.filer) c.requires.size volume m r))).0 in
    (root_given m c.args.space c.args.id c.args.page c.args.writable there c.if-space-eq0.true, tt)

-- ---- The file.

pub returns-in-Ok-None-clause-answer : goal.returns-in-Ok-None-clause-answer
returns-in-Ok-None-clause-answer g c = λ volume m r.
    let old = c.args.core.now in
    let r1 = asked_runs old (accepted old.filer) c.requires.size c.bounds.new.core volume m c.bounds.ensures.asked r in
    let there = (bounds_revealed m.spaces c.args.space c.in-Ok-Ok.field-0 c.in-Ok-Ok.field-0-0 c.in-Ok-Ok.field-0-is (c.in-Ok-Ok.ensures.answer _ _ m.spaces (knows old (accepted old.filer) c.requires.size volume m r))).0 in
    let revealed = subst (λ (o : Option Attributes). IsNameable (nameable m c.args.id) o) c.in-Ok-None.field-0-is (c.in-Ok-None.ensures.answer volume m r1) in
    (no_such_file m c.args.space c.args.id c.args.page c.args.writable there c.if-space-eq0.false revealed, tt)

pub returns-in-Ok-None-clause-looks : goal.returns-in-Ok-None-clause-looks
returns-in-Ok-None-clause-looks g c = looks_then (looks_asked c.requires.size c.bounds.ensures.asked c.bounds.ensures.sees) c.named_file.ensures.looks

pub returns-in-Err-named_file-clause-looks : goal.returns-in-Err-named_file-clause-looks
returns-in-Err-named_file-clause-looks g c = looks_then (looks_asked c.requires.size c.bounds.ensures.asked c.bounds.ensures.sees) c.named_file.ensures.looks

pub returns-in-Err-named_file-clause-answer : goal.returns-in-Err-named_file-clause-answer
returns-in-Err-named_file-clause-answer g c = λ volume m r.
    let old = c.args.core.now in
    let r1 = asked_runs old (accepted old.filer) c.requires.size c.bounds.new.core volume m c.bounds.ensures.asked r in
    c.in-Err-named_file.ensures.answer volume m r1

-- ---- The path.

pub returns-in-Ok-Err-can_map-clause-answer : goal.returns-in-Ok-Err-can_map-clause-answer
returns-in-Ok-Err-can_map-clause-answer g c = λ volume m r.
    let old = c.args.core.now in
    let r1 = asked_runs old (accepted old.filer) c.requires.size c.bounds.new.core volume m c.bounds.ensures.asked r in
    let r2 = c.named_file.ensures.looks.runs volume m r1 in
    let size1 = size_kept old c.bounds.new.core (asked_makes old c.bounds.new.core c.bounds.ensures.asked) c.bounds.ensures.asked.reaches.layout c.requires.size in
    let size2 = size_kept c.bounds.new.core c.named_file.new.core c.named_file.ensures.looks.makes c.named_file.ensures.looks.layout size1 in
    let named = c.named_file.new.core in
    let there = (bounds_revealed m.spaces c.args.space c.in-Ok-Ok.field-0 c.in-Ok-Ok.field-0-0 c.in-Ok-Ok.field-0-is (c.in-Ok-Ok.ensures.answer _ _ m.spaces (knows old (accepted old.filer) c.requires.size volume m r))).0 in
    let revealed = subst (λ (o : Option Attributes). IsNameable (nameable m c.args.id) o) c.in-Ok-Some.field-0-is (c.in-Ok-Some.ensures.answer volume m r1) in
    let taken = map_refused m.spaces c.args.space c.in-Ok-Err-can_map.field-0 c.in-Ok-Err-can_map.word c.in-Ok-Err-can_map.field-0-is (c.in-Ok-Err-can_map.ensures.answer _ _ m.spaces (knows named (accepted named.filer) size2 volume m r2)) in
    (path_taken m c.args.space c.args.id c.args.page c.args.writable there c.if-space-eq0.false c.in-Ok-Some.found revealed c.in-Ok-Err-can_map.word taken, tt)

pub returns-in-Err-can_map-clause-answer : goal.returns-in-Err-can_map-clause-answer
returns-in-Err-can_map-clause-answer g c = λ volume m r.
    let old = c.args.core.now in
    let r1 = asked_runs old (accepted old.filer) c.requires.size c.bounds.new.core volume m c.bounds.ensures.asked r in
    let r2 = c.named_file.ensures.looks.runs volume m r1 in
    let size1 = size_kept old c.bounds.new.core (asked_makes old c.bounds.new.core c.bounds.ensures.asked) c.bounds.ensures.asked.reaches.layout c.requires.size in
    let size2 = size_kept c.bounds.new.core c.named_file.new.core c.named_file.ensures.looks.makes c.named_file.ensures.looks.layout size1 in
    let named = c.named_file.new.core in
    c.in-Err-can_map.ensures.sound _ _ m.spaces (knows named (accepted named.filer) size2 volume m r2)

pub returns-in-Ok-Err-can_map-clause-looks : goal.returns-in-Ok-Err-can_map-clause-looks
returns-in-Ok-Err-can_map-clause-looks g c = looks_asked_then c.requires.size (looks_then (looks_asked c.requires.size c.bounds.ensures.asked c.bounds.ensures.sees) c.named_file.ensures.looks) c.can_map.ensures.asked c.can_map.ensures.sees

pub returns-in-Err-can_map-clause-looks : goal.returns-in-Err-can_map-clause-looks
returns-in-Err-can_map-clause-looks g c = looks_asked_then c.requires.size (looks_then (looks_asked c.requires.size c.bounds.ensures.asked c.bounds.ensures.sees) c.named_file.ensures.looks) c.can_map.ensures.asked c.can_map.ensures.sees

pub returns-then-from-clause-looks : goal.returns-then-from-clause-looks
returns-then-from-clause-looks g c = looks_asked_then c.requires.size (looks_then (looks_asked c.requires.size c.bounds.ensures.asked c.bounds.ensures.sees) c.named_file.ensures.looks) c.can_map.ensures.asked c.can_map.ensures.sees

pub returns-then-found-clause-looks : goal.returns-then-found-clause-looks
returns-then-found-clause-looks g c = looks_asked_then c.requires.size (looks_then (looks_asked c.requires.size c.bounds.ensures.asked c.bounds.ensures.sees) c.named_file.ensures.looks) c.can_map.ensures.asked c.can_map.ensures.sees

pub returns-clause-looks : goal.returns-clause-looks
returns-clause-looks g c = looks_asked_then c.requires.size (looks_then (looks_asked c.requires.size c.bounds.ensures.asked c.bounds.ensures.sees) c.named_file.ensures.looks) c.can_map.ensures.asked c.can_map.ensures.sees

-- ---- The window.

pub returns-then-from-clause-answer : goal.returns-then-from-clause-answer
returns-then-from-clause-answer g c = λ volume m r.
    let old = c.args.core.now in
    let r1 = asked_runs old (accepted old.filer) c.requires.size c.bounds.new.core volume m c.bounds.ensures.asked r in
    let r2 = c.named_file.ensures.looks.runs volume m r1 in
    let size1 = size_kept old c.bounds.new.core (asked_makes old c.bounds.new.core c.bounds.ensures.asked) c.bounds.ensures.asked.reaches.layout c.requires.size in
    let size2 = size_kept c.bounds.new.core c.named_file.new.core c.named_file.ensures.looks.makes c.named_file.ensures.looks.layout size1 in
    let named = c.named_file.new.core in
    let there = (bounds_revealed m.spaces c.args.space c.in-Ok-Ok.field-0 c.in-Ok-Ok.field-0-0 c.in-Ok-Ok.field-0-is (c.in-Ok-Ok.ensures.answer _ _ m.spaces (knows old (accepted old.filer) c.requires.size volume m r))).0 in
    let revealed = subst (λ (o : Option Attributes). IsNameable (nameable m c.args.id) o) c.in-Ok-Some.field-0-is (c.in-Ok-Some.ensures.answer volume m r1) in
    let free = map_revealed m.spaces c.args.space c.in-Ok-Ok-can_map.field-0 c.in-Ok-Ok-can_map.run' c.in-Ok-Ok-can_map.field-0-is (c.in-Ok-Ok-can_map.ensures.answer _ _ m.spaces (knows named (accepted named.filer) size2 volume m r2)) in
    let s : Space = free.1.0 in
    let long : c.in-Ok-Ok-can_map.run'.1 ≡ s.pages = ap (λ (run : ℕ × ℕ). run.1) free.1.2 in
    let first = c.from.ensures in
    let more = c.from-2.ensures in
    let whole = c.from-3.ensures in
    let count = c.page_count.ensures.same in
    let small = c.page_count.type_inv in
    let past = c.if-from.true in
    (window_long m c.args.space c.args.id c.args.page c.args.writable there c.if-space-eq0.false c.in-Ok-Some.found revealed free.0 s free.1.1 (omega (arith, past, first, more, whole, count, long)), tt)

pub returns-then-found-clause-answer : goal.returns-then-found-clause-answer
returns-then-found-clause-answer g c = λ volume m r.
    let old = c.args.core.now in
    let r1 = asked_runs old (accepted old.filer) c.requires.size c.bounds.new.core volume m c.bounds.ensures.asked r in
    let r2 = c.named_file.ensures.looks.runs volume m r1 in
    let size1 = size_kept old c.bounds.new.core (asked_makes old c.bounds.new.core c.bounds.ensures.asked) c.bounds.ensures.asked.reaches.layout c.requires.size in
    let size2 = size_kept c.bounds.new.core c.named_file.new.core c.named_file.ensures.looks.makes c.named_file.ensures.looks.layout size1 in
    let named = c.named_file.new.core in
    let there = (bounds_revealed m.spaces c.args.space c.in-Ok-Ok.field-0 c.in-Ok-Ok.field-0-0 c.in-Ok-Ok.field-0-is (c.in-Ok-Ok.ensures.answer _ _ m.spaces (knows old (accepted old.filer) c.requires.size volume m r))).0 in
    let revealed = subst (λ (o : Option Attributes). IsNameable (nameable m c.args.id) o) c.in-Ok-Some.field-0-is (c.in-Ok-Some.ensures.answer volume m r1) in
    let free = map_revealed m.spaces c.args.space c.in-Ok-Ok-can_map.field-0 c.in-Ok-Ok-can_map.run' c.in-Ok-Ok-can_map.field-0-is (c.in-Ok-Ok-can_map.ensures.answer _ _ m.spaces (knows named (accepted named.filer) size2 volume m r2)) in
    let s : Space = free.1.0 in
    let long : c.in-Ok-Ok-can_map.run'.1 ≡ s.pages = ap (λ (run : ℕ × ℕ). run.1) free.1.2 in
    let first = c.from.ensures in
    let more = c.from-2.ensures in
    let whole = c.from-3.ensures in
    let count = c.page_count.ensures.same in
    let small = c.page_count.type_inv in
    let inside = c.if-from.false in
    (file_immutable m c.args.space c.args.id c.args.page c.args.writable there c.if-space-eq0.false c.in-Ok-Some.found revealed free.0 s free.1.1 (omega (arith, inside, first, more, whole, count, long)) c.if-writable.true c.if-found.true, tt)

pub returns-clause-answer : goal.returns-clause-answer
returns-clause-answer g c = λ volume m r.
    let old = c.args.core.now in
    let r1 = asked_runs old (accepted old.filer) c.requires.size c.bounds.new.core volume m c.bounds.ensures.asked r in
    let r2 = c.named_file.ensures.looks.runs volume m r1 in
    let size1 = size_kept old c.bounds.new.core (asked_makes old c.bounds.new.core c.bounds.ensures.asked) c.bounds.ensures.asked.reaches.layout c.requires.size in
    let size2 = size_kept c.bounds.new.core c.named_file.new.core c.named_file.ensures.looks.makes c.named_file.ensures.looks.layout size1 in
    let named = c.named_file.new.core in
    let there = (bounds_revealed m.spaces c.args.space c.in-Ok-Ok.field-0 c.in-Ok-Ok.field-0-0 c.in-Ok-Ok.field-0-is (c.in-Ok-Ok.ensures.answer _ _ m.spaces (knows old (accepted old.filer) c.requires.size volume m r))).0 in
    let revealed = subst (λ (o : Option Attributes). IsNameable (nameable m c.args.id) o) c.in-Ok-Some.field-0-is (c.in-Ok-Some.ensures.answer volume m r1) in
    let free = map_revealed m.spaces c.args.space c.in-Ok-Ok-can_map.field-0 c.in-Ok-Ok-can_map.run' c.in-Ok-Ok-can_map.field-0-is (c.in-Ok-Ok-can_map.ensures.answer _ _ m.spaces (knows named (accepted named.filer) size2 volume m r2)) in
    let s : Space = free.1.0 in
    let long : c.in-Ok-Ok-can_map.run'.1 ≡ s.pages = ap (λ (run : ℕ × ℕ). run.1) free.1.2 in
    let first = c.from.ensures in
    let more = c.from-2.ensures in
    let whole = c.from-3.ensures in
    let count = c.page_count.ensures.same in
    let small = c.page_count.type_inv in
    let inside = c.if-from.false in
    let fits : c.args.page + s.pages ≤ c.in-Ok-Some.found.pages = omega (arith, inside, first, more, whole, count, long) in
    let mutable : c.args.writable && c.in-Ok-Some.found.immutable ≡ false = elim c.else-writable.branch [ else-writable-via-then-writable+else-found w ↦ both_not c.args.writable c.in-Ok-Some.found.immutable (inr w.if-found.false) | else-writable-via-else-writable w ↦ both_not c.args.writable c.in-Ok-Some.found.immutable (inl w.if-writable.false) ] in
    (window_allowed m c.args.space c.args.id c.args.page c.args.writable there c.if-space-eq0.false c.in-Ok-Some.found revealed free.0 s free.1.1 fits mutable, (s, free.1.1, omega (arith, fits, count, small)))

-- ---- Why it failed.

pub returns-in-Err-clause-fails : goal.returns-in-Err-clause-fails
returns-in-Err-clause-fails g c =
    let fails = halts_at c.requires.size c.bounds.ensures.asked.reaches.goes.makes c.in-Err.halt c.in-Err.ensures.cause c.in-Err.ensures.right in
    halts_wider fails (inl c.in-Err.ensures.cause)

pub returns-in-Err-named_file-clause-fails : goal.returns-in-Err-named_file-clause-fails
returns-in-Err-named_file-clause-fails g c =
    let old = c.args.core.now in
    let asked = c.bounds.ensures.asked in
    halts_after (looks_asked c.requires.size asked c.bounds.ensures.sees) c.in-Err-named_file.ensures.fails
    (named_map (state old) (state c.bounds.new.core) (state c.named_file.new.core) c.args.space c.args.id old.intervals asked.reaches c.bounds.new.core.intervals asked.intervals c.in-Err-named_file.halt c.in-Err-named_file.ensures.fails.cause)

pub returns-in-Err-can_map-clause-fails : goal.returns-in-Err-can_map-clause-fails
returns-in-Err-can_map-clause-fails g c =
    let v = state c.args.core.now in
    let x = c.named_file.new.core in
    let w = state c.can_map.new.core in
    let count = c.args.core.now.intervals in
    let looks = looks_then (looks_asked c.requires.size c.bounds.ensures.asked c.bounds.ensures.sees) c.named_file.ensures.looks in
    let fails = halts_at (looks_fits looks c.requires.size) c.can_map.ensures.asked.reaches.goes.makes c.in-Err-can_map.halt c.in-Err-can_map.ensures.cause c.in-Err-can_map.ensures.right in
    halts_after looks fails (given_map v (state x) w c.args.space c.args.id count looks.reaches count refl c.in-Err-can_map.halt (path_change (state x) (accepted x.filer) count w c.in-Err-can_map.halt c.in-Err-can_map.ensures.cause))

-- ---- The tables are revealed.

pub returns-clause-seen : goal.returns-clause-seen
returns-clause-seen g c = λ ss s.
    let free = map_revealed ss c.args.space c.in-Ok-Ok-can_map.field-0 c.in-Ok-Ok-can_map.run' c.in-Ok-Ok-can_map.field-0-is (c.in-Ok-Ok-can_map.ensures.seen ss (c.named_file.ensures.looks.still ss (c.bounds.ensures.sees ss s))) in
    let x : Space = free.1.0 in
    let long : c.in-Ok-Ok-can_map.run'.1 ≡ x.pages = ap (λ (run : ℕ × ℕ). run.1) free.1.2 in
    let first = c.from.ensures in
    let more = c.from-2.ensures in
    let whole = c.from-3.ensures in
    let count = c.page_count.ensures.same in
    let small = c.page_count.type_inv in
    let inside = c.if-from.false in
    let fits : c.args.page + x.pages ≤ c.in-Ok-Some.found.pages = omega (arith, inside, first, more, whole, count, long) in
    let client = subst (λ (o : Option Attributes). IfSome o (λ a. 16 ≤ c.args.id)) c.in-Ok-Some.field-0-is c.in-Ok-Some.ensures.client in (
      x,
      free_may ss c.args.space (are_seen s) x free.1.1 free.0,
      handle_so ss c.args.space (are_seen s) x free.1.1,
      record { above_reserved = client; small = c.ranges.id.fits; pages_fit = omega (arith, fits, count, small) },
    )

-- ---- What the space would show is below the file's end.

pub returns-clause-found : goal.returns-clause-found
returns-clause-found g c = λ ss m named s stands map are.
    let old = c.args.core.now in
    let u = c.bounds.new.core in
    let free = map_revealed ss c.args.space c.in-Ok-Ok-can_map.field-0 c.in-Ok-Ok-can_map.run' c.in-Ok-Ok-can_map.field-0-is (c.in-Ok-Ok-can_map.ensures.seen ss (c.named_file.ensures.looks.still ss (c.bounds.ensures.sees ss s))) in
    let x : Space = free.1.0 in
    let long : c.in-Ok-Ok-can_map.run'.1 ≡ x.pages = ap (λ (run : ℕ × ℕ). run.1) free.1.2 in
    let first = c.from.ensures in
    let more = c.from-2.ensures in
    let whole = c.from-3.ensures in
    let count = c.page_count.ensures.same in
    let inside = c.if-from.false in
    let fits : c.args.page + x.pages ≤ c.in-Ok-Some.found.pages = omega (arith, inside, first, more, whole, count, long) in
    let of_size = found_later (state old) (state u) (accepted old.filer) c.bounds.ensures.asked.reaches named (IsSize named c.args.id c.in-Ok-Some.found.pages) in
    let size = of_size (λ n now map_now kept. subst (λ (o : Option Attributes). IfSome o (λ a. IsSize named c.args.id a.pages)) c.in-Ok-Some.field-0-is (c.in-Ok-Some.ensures.size n named now map_now kept)) m stands map are in
    reaches_over ss (are_seen s) c.args.space c.args.id c.args.page c.in-Ok-Some.found.pages named x free.1.1 fits size
