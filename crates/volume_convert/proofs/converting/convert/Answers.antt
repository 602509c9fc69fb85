use Rattle.std.proofs.Common.{◌≡◌, inl, ℕ, ◌-◌, Ok, Err, rules, sym, ◌∙◌, ap, subst, arith}
use Rattle.labelled_disk.specs.Layout.{first_data}
use Rattle.labelled_disk.proofs.CallLemmas.{only_reads_then}
use Rattle.volume_root.specs.OldRoot.{IsValidOldRoot}
use Rattle.volume_convert.specs.declared.converting.Converted.{Converted}
use Rattle.volume_convert.proofs.ConvertLemmas.{all_made, costs, is_converted, is_no_other, judges_later, crash_states_of, crash_states_of_none, no_refusal, part_made}
use Rattle.volume_convert.proofs.converting.convert.Goals as goal

pub returns-in_err-root-clause-crash_states : goal.returns-in_err-root-clause-crash_states
returns-in_err-root-clause-crash_states g c = λ d before writes revealed earlier later k.
    crash_states_of_none (g.D.Disk.state c.args.disk.now) (g.D.Disk.state c.read_any_old_root.new.disk) c.read_any_old_root.ensures.cost.only d before writes earlier later k

pub returns-in_err-conversion-clause-crash_states : goal.returns-in_err-conversion-clause-crash_states
returns-in_err-conversion-clause-crash_states g c = λ d before writes revealed earlier later k.
    crash_states_of_none (g.D.Disk.state c.args.disk.now) (g.D.Disk.state c.make_plan.new.disk) (only_reads_then c.in_ok-root.ensures.cost.only c.make_plan.ensures.cost.only) d before writes earlier later k

pub returns-in_err-conversion-clause-refuses : goal.returns-in_err-conversion-clause-refuses
returns-in_err-conversion-clause-refuses g c =
    let same : c.from_residual-in_err-conversion.result ≡ Err c.in_err-conversion.field-0.0 = search rules in
    record {
      root = rw same (judges_later (g.D.Disk.state c.args.disk.now) c.in_ok-root.root c.in_ok-root.ensures.judged c.in_ok-root.ensures.valid.accepted (Err c.in_err-conversion.field-0.0) (no_refusal Converted c.in_err-conversion.field-0.0 c.in_err-conversion.ensures.err));
      room = search rules;
      unwritten = search rules;
    }

pub returns-in_err-finish-clause-part : goal.returns-in_err-finish-clause-part
returns-in_err-finish-clause-part g c = λ is d revealed.
    part_made c.scavenging_restores.ensures c.conversions_convert.ensures (g.D.Disk.state c.args.disk.now) (g.D.Disk.state c.make_plan.new.disk) (g.D.Disk.state c.finish.new.disk) (only_reads_then c.in_ok-root.ensures.cost.only c.in_ok-conversion.ensures.cost.only) d revealed
    (g.met.D.Disk.in_form c.args.disk.now d revealed) c.in_ok-root.root c.in-Ok.layout.first c.in_ok-conversion.conversion
    (subst (λ (n : ℕ). IsValidOldRoot n c.in_ok-root.root) (sym (g.met.D.Disk.whole c.args.disk.now d revealed)) c.in_ok-root.ensures.valid)
    (c.in_ok-conversion.ensures.room.fits d (c.in_ok-root.ensures.cost.only.contents ∙ revealed)) (c.in_ok-conversion.ensures.planned d (c.in_ok-root.ensures.cost.only.contents ∙ revealed) (c.in_ok-root.ensures.root d revealed))
    c.in_err-finish.ensures.carries.part

pub returns-in_err-finish-clause-refuses : goal.returns-in_err-finish-clause-refuses
returns-in_err-finish-clause-refuses g c =
    let same : c.from_residual-in_err-finish.result ≡ Err c.in_err-finish.field-0.0 = search rules in
    record {
      root = rw same (judges_later (g.D.Disk.state c.args.disk.now) c.in_ok-root.root c.in_ok-root.ensures.judged c.in_ok-root.ensures.valid.accepted (Err c.in_err-finish.field-0.0) (no_refusal Converted c.in_err-finish.field-0.0 (inl c.in_err-finish.ensures.err)));
      room = search rules;
      unwritten = search rules;
    }

pub returns-in_err-finish-clause-crash_states : goal.returns-in_err-finish-clause-crash_states
returns-in_err-finish-clause-crash_states g c = λ d before writes revealed earlier later k.
    crash_states_of c.scavenging_restores.ensures c.conversions_convert.ensures (g.D.Disk.state c.args.disk.now) (g.D.Disk.state c.make_plan.new.disk) (g.D.Disk.state c.finish.new.disk) (only_reads_then c.in_ok-root.ensures.cost.only c.in_ok-conversion.ensures.cost.only) d revealed
    (g.met.D.Disk.in_form c.args.disk.now d revealed) c.in_ok-root.root c.in-Ok.layout.first c.in_ok-conversion.conversion
    (subst (λ (n : ℕ). IsValidOldRoot n c.in_ok-root.root) (sym (g.met.D.Disk.whole c.args.disk.now d revealed)) c.in_ok-root.ensures.valid)
    (c.in_ok-conversion.ensures.room.fits d (c.in_ok-root.ensures.cost.only.contents ∙ revealed)) (c.in_ok-conversion.ensures.planned d (c.in_ok-root.ensures.cost.only.contents ∙ revealed) (c.in_ok-root.ensures.root d revealed))
    _ c.in_err-finish.ensures.carries before writes earlier later k

pub returns-in_err-finish-clause-others : goal.returns-in_err-finish-clause-others
returns-in_err-finish-clause-others g c = λ d revealed other.
    absurd (is_no_other c.scavenging_restores.ensures c.conversions_convert.ensures (g.D.Disk.state c.args.disk.now) (g.D.Disk.state c.make_plan.new.disk) (g.D.Disk.state c.finish.new.disk) (only_reads_then c.in_ok-root.ensures.cost.only c.in_ok-conversion.ensures.cost.only) d revealed
    (g.met.D.Disk.in_form c.args.disk.now d revealed) c.in_ok-root.root c.in-Ok.layout.first c.in_ok-conversion.conversion
    (subst (λ (n : ℕ). IsValidOldRoot n c.in_ok-root.root) (sym (g.met.D.Disk.whole c.args.disk.now d revealed)) c.in_ok-root.ensures.valid)
    (c.in_ok-conversion.ensures.room.fits d (c.in_ok-root.ensures.cost.only.contents ∙ revealed)) (c.in_ok-conversion.ensures.planned d (c.in_ok-root.ensures.cost.only.contents ∙ revealed) (c.in_ok-root.ensures.root d revealed))
    c.in_ok-root.ensures.judged (g.met.D.Disk.whole c.args.disk.now d revealed) other)

pub returns-in_err-finish-clause-cost : goal.returns-in_err-finish-clause-cost
returns-in_err-finish-clause-cost g c = λ d revealed.
    let same = ap (λ (n : ℕ). n - first_data n) (c.in_ok-root.ensures.cost.only.sectors ∙ sym (g.met.D.Disk.whole c.args.disk.now d revealed)) in
    costs c.scavenging_restores.ensures c.conversions_convert.ensures (g.D.Disk.state c.args.disk.now) (g.D.Disk.state c.make_plan.new.disk) (g.D.Disk.state c.finish.new.disk) (only_reads_then c.in_ok-root.ensures.cost.only c.in_ok-conversion.ensures.cost.only) d revealed
    (g.met.D.Disk.in_form c.args.disk.now d revealed) c.in_ok-root.root c.in-Ok.layout.first c.in_ok-conversion.conversion
    (subst (λ (n : ℕ). IsValidOldRoot n c.in_ok-root.root) (sym (g.met.D.Disk.whole c.args.disk.now d revealed)) c.in_ok-root.ensures.valid)
    (c.in_ok-conversion.ensures.room.fits d (c.in_ok-root.ensures.cost.only.contents ∙ revealed)) (c.in_ok-conversion.ensures.planned d (c.in_ok-root.ensures.cost.only.contents ∙ revealed) (c.in_ok-root.ensures.root d revealed))
    _ (omega (arith, same, c.in_ok-root.ensures.cost.moved, c.in_ok-conversion.ensures.cost.moved)) c.in_err-finish.ensures.carries

pub returns-clause-refuses : goal.returns-clause-refuses
returns-clause-refuses g c = record {
  root = judges_later (g.D.Disk.state c.args.disk.now) c.in_ok-root.root c.in_ok-root.ensures.judged c.in_ok-root.ensures.valid.accepted (Ok c.in_ok-conversion.conversion.revealed) tt;
  room = record {
    wants = λ wanted room is. absurd (cc is);
    unfit = λ wanted room is. absurd (cc is);
    fits = λ d revealed. c.in_ok-conversion.ensures.room.fits d (c.in_ok-root.ensures.cost.only.contents ∙ revealed);
  };
  unwritten = λ why is other. absurd (cc is);
}

pub returns-clause-converted : goal.returns-clause-converted
returns-clause-converted g c = λ d revealed.
    is_converted c.scavenging_restores.ensures c.conversions_convert.ensures (g.D.Disk.state c.args.disk.now) (g.D.Disk.state c.make_plan.new.disk) (g.D.Disk.state c.finish.new.disk) (only_reads_then c.in_ok-root.ensures.cost.only c.in_ok-conversion.ensures.cost.only) d revealed
    (g.met.D.Disk.in_form c.args.disk.now d revealed) c.in_ok-root.root c.in-Ok.layout.first c.in_ok-conversion.conversion
    (subst (λ (n : ℕ). IsValidOldRoot n c.in_ok-root.root) (sym (g.met.D.Disk.whole c.args.disk.now d revealed)) c.in_ok-root.ensures.valid)
    (c.in_ok-conversion.ensures.room.fits d (c.in_ok-root.ensures.cost.only.contents ∙ revealed)) (c.in_ok-conversion.ensures.planned d (c.in_ok-root.ensures.cost.only.contents ∙ revealed) (c.in_ok-root.ensures.root d revealed))
    c.in_ok-finish.ensures.carries.all

pub returns-clause-made : goal.returns-clause-made
returns-clause-made g c = λ d revealed.
    all_made c.scavenging_restores.ensures c.conversions_convert.ensures (g.D.Disk.state c.args.disk.now) (g.D.Disk.state c.make_plan.new.disk) (g.D.Disk.state c.finish.new.disk) (only_reads_then c.in_ok-root.ensures.cost.only c.in_ok-conversion.ensures.cost.only) d revealed
    (g.met.D.Disk.in_form c.args.disk.now d revealed) c.in_ok-root.root c.in-Ok.layout.first c.in_ok-conversion.conversion
    (subst (λ (n : ℕ). IsValidOldRoot n c.in_ok-root.root) (sym (g.met.D.Disk.whole c.args.disk.now d revealed)) c.in_ok-root.ensures.valid)
    (c.in_ok-conversion.ensures.room.fits d (c.in_ok-root.ensures.cost.only.contents ∙ revealed)) (c.in_ok-conversion.ensures.planned d (c.in_ok-root.ensures.cost.only.contents ∙ revealed) (c.in_ok-root.ensures.root d revealed))
    c.in_ok-finish.ensures.carries.all

pub returns-clause-crash_states : goal.returns-clause-crash_states
returns-clause-crash_states g c = λ d before writes revealed earlier later k.
    crash_states_of c.scavenging_restores.ensures c.conversions_convert.ensures (g.D.Disk.state c.args.disk.now) (g.D.Disk.state c.make_plan.new.disk) (g.D.Disk.state c.finish.new.disk) (only_reads_then c.in_ok-root.ensures.cost.only c.in_ok-conversion.ensures.cost.only) d revealed
    (g.met.D.Disk.in_form c.args.disk.now d revealed) c.in_ok-root.root c.in-Ok.layout.first c.in_ok-conversion.conversion
    (subst (λ (n : ℕ). IsValidOldRoot n c.in_ok-root.root) (sym (g.met.D.Disk.whole c.args.disk.now d revealed)) c.in_ok-root.ensures.valid)
    (c.in_ok-conversion.ensures.room.fits d (c.in_ok-root.ensures.cost.only.contents ∙ revealed)) (c.in_ok-conversion.ensures.planned d (c.in_ok-root.ensures.cost.only.contents ∙ revealed) (c.in_ok-root.ensures.root d revealed))
    _ c.in_ok-finish.ensures.carries before writes earlier later k

pub returns-clause-others : goal.returns-clause-others
returns-clause-others g c = λ d revealed other.
    absurd (is_no_other c.scavenging_restores.ensures c.conversions_convert.ensures (g.D.Disk.state c.args.disk.now) (g.D.Disk.state c.make_plan.new.disk) (g.D.Disk.state c.finish.new.disk) (only_reads_then c.in_ok-root.ensures.cost.only c.in_ok-conversion.ensures.cost.only) d revealed
    (g.met.D.Disk.in_form c.args.disk.now d revealed) c.in_ok-root.root c.in-Ok.layout.first c.in_ok-conversion.conversion
    (subst (λ (n : ℕ). IsValidOldRoot n c.in_ok-root.root) (sym (g.met.D.Disk.whole c.args.disk.now d revealed)) c.in_ok-root.ensures.valid)
    (c.in_ok-conversion.ensures.room.fits d (c.in_ok-root.ensures.cost.only.contents ∙ revealed)) (c.in_ok-conversion.ensures.planned d (c.in_ok-root.ensures.cost.only.contents ∙ revealed) (c.in_ok-root.ensures.root d revealed))
    c.in_ok-root.ensures.judged (g.met.D.Disk.whole c.args.disk.now d revealed) other)

pub returns-clause-cost : goal.returns-clause-cost
returns-clause-cost g c = λ d revealed.
    let same = ap (λ (n : ℕ). n - first_data n) (c.in_ok-root.ensures.cost.only.sectors ∙ sym (g.met.D.Disk.whole c.args.disk.now d revealed)) in
    costs c.scavenging_restores.ensures c.conversions_convert.ensures (g.D.Disk.state c.args.disk.now) (g.D.Disk.state c.make_plan.new.disk) (g.D.Disk.state c.finish.new.disk) (only_reads_then c.in_ok-root.ensures.cost.only c.in_ok-conversion.ensures.cost.only) d revealed
    (g.met.D.Disk.in_form c.args.disk.now d revealed) c.in_ok-root.root c.in-Ok.layout.first c.in_ok-conversion.conversion
    (subst (λ (n : ℕ). IsValidOldRoot n c.in_ok-root.root) (sym (g.met.D.Disk.whole c.args.disk.now d revealed)) c.in_ok-root.ensures.valid)
    (c.in_ok-conversion.ensures.room.fits d (c.in_ok-root.ensures.cost.only.contents ∙ revealed)) (c.in_ok-conversion.ensures.planned d (c.in_ok-root.ensures.cost.only.contents ∙ revealed) (c.in_ok-root.ensures.root d revealed))
    _ (omega (arith, same, c.in_ok-root.ensures.cost.moved, c.in_ok-conversion.ensures.cost.moved)) c.in_ok-finish.ensures.carries
