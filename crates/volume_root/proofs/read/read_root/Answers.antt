use Rattle.std.proofs.Common.{◌≡◌, ℕ, length, sym, ◌∙◌, ap, subst}
use Rattle.std.specs.Prelude.{IfOk}
use Rattle.std.proofs.lemmas.Option.{same_Some}
use Rattle.labelled_disk.specs.declared.layout.RootFault.TheVariants as fault
use Rattle.volume_root.specs.RootPage.{Test, is_version, judged_by, IsValidRoot}
use Rattle.volume_root.proofs.JudgeLemmas.{judged_there, valid_taken}
use Rattle.volume_root.proofs.TestLemmas.{refused}
use Rattle.volume_root.proofs.read.read_root.Given as given
use Rattle.volume_root.proofs.read.read_root.Goals as goal

-- what was read, as it is judged
is_judged : (g : given.Over) (c : goal.After-judge g) → c.judge.result ≡ judged_by (is_version c.read.new.page) c.args.clean_only c.sectors-sectors.result (c.in-Ok.label, c.read.new.page)
is_judged g c = c.judge.ensures ∙ ap (λ (t : Test). judged_by t c.args.clean_only c.sectors-sectors.result (c.in-Ok.label, c.read.new.page)) c.is_version.ensures

pub returns-clause-judged : goal.returns-clause-judged
returns-clause-judged g c count d revealed s here =
    let size : c.sectors-sectors.result ≡ length d = c.sectors-sectors.ensures ∙ sym (g.met.D.Disk.whole c.args.disk.now d revealed) in
    let same : (c.in-Ok.label, c.read.new.page) ≡ s = same_Some (c.in-Ok.label, c.read.new.page) s (sym (c.in-Ok.ensures.found d revealed) ∙ here) in
    judged_there is_version c.args.clean_only c.sectors-sectors.result (length d) (c.in-Ok.label, c.read.new.page) s c.judge.result size same (is_judged g c)

pub returns-clause-bad_count : goal.returns-clause-bad_count
returns-clause-bad_count g c = λ n is. absurd (refused c.args.clean_only c.sectors-sectors.result (c.in-Ok.label, c.read.new.page) (fault.BadCount n) (sym (is_judged g c) ∙ is))

pub returns-clause-cause : goal.returns-clause-cause
returns-clause-cause g c = λ is. absurd (refused c.args.clean_only c.sectors-sectors.result (c.in-Ok.label, c.read.new.page) fault.Disk (sym (is_judged g c) ∙ is))

pub returns-clause-valid : goal.returns-clause-valid
returns-clause-valid g c = subst (λ (n : ℕ). IfOk c.judge.result (IsValidRoot n)) c.sectors-sectors.ensures
    (valid_taken c.judge.result c.args.clean_only c.sectors-sectors.result (c.in-Ok.label, c.read.new.page) (is_judged g c) c.in_ok-_layout.ensures.layout.0)
