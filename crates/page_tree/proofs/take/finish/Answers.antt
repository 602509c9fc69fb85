use Rattle.std.proofs.Common.{rules, ◌∙◌, ◌≡◌, ℕ, ◌*◌, ◌/◌, List, length, arith, sym, subst}
use Rattle.flat_mem.specs.Memory.{overwritten}
use Rattle.page_tree.specs.Page.{IsBlank}
use Rattle.page_tree.specs.Climb.{IsHead}
use Rattle.page_tree.specs.Head.{with_header}
use Rattle.page_tree.proofs.Head.{head_is, head_rest}
use Rattle.page_tree.proofs.Grown.{closed_tree}
use Rattle.page_tree.proofs.Emptied.{emptied_tree}
use Rattle.page_tree.proofs.take.finish.Goals as goal

pub returns-in-Ok-clause-tree : goal.returns-in-Ok-clause-tree
returns-in-Ok-clause-tree g c = λ e k b h records closed some blank count capacity.
    let header = c.args.header in
    let written : c.put_fields.new.page ≡ with_header c.args.page.now c.args.header.count c.args.header.root c.args.header.top c.args.header.free c.args.header.levels = c.put_fields.ensures in
    let head : IsHead c.put_fields.new.page c.args.header.count c.args.header.root c.args.header.top c.args.header.free c.args.header.levels =
    subst (λ (x : List ℕ). IsHead x c.args.header.count c.args.header.root c.args.header.top c.args.header.free c.args.header.levels) (sym written)
    (head_is c.args.page.now c.args.header.count c.args.header.root c.args.header.top c.args.header.free c.args.header.levels c.told-page (search rules) (search rules) (search rules) (search rules)) in
    let head_now : IsHead c.put_fields.new.page (length records) c.args.header.root c.args.header.top c.args.header.free c.args.header.levels =
    subst (λ (n : ℕ). IsHead c.put_fields.new.page n c.args.header.root c.args.header.top c.args.header.free c.args.header.levels) count head in (
      overwritten b (512 * 0) c.put_fields.new.page,
      c.in-Ok.ensures.written b h,
      closed_tree e k (g.M.FlatMem.size c.args.mem.now / 512) b records c.args.header.levels c.args.header.root c.args.header.free c.args.header.top c.put_fields.new.page closed some c.requires.few
          (omega (arith, g.met.M.FlatMem.revealed_length c.args.mem.now b h, c.requires.some_pages)) c.put_fields.array_long head_now (subst IsBlank (sym written) (head_rest c.args.page.now c.args.header.count c.args.header.root c.args.header.top c.args.header.free c.args.header.levels c.told-page blank)) capacity,
    )

pub returns-in-Ok-clause-empty : goal.returns-in-Ok-clause-empty
returns-in-Ok-clause-empty g c = λ e k b h nodes free opened none blank no_root no_count below.
    let written : c.put_fields.new.page ≡ with_header c.args.page.now c.args.header.count c.args.header.root c.args.header.top c.args.header.free c.args.header.levels = c.put_fields.ensures in
    let head : IsHead c.put_fields.new.page c.args.header.count c.args.header.root c.args.header.top c.args.header.free c.args.header.levels =
    subst (λ (x : List ℕ). IsHead x c.args.header.count c.args.header.root c.args.header.top c.args.header.free c.args.header.levels) (sym written)
    (head_is c.args.page.now c.args.header.count c.args.header.root c.args.header.top c.args.header.free c.args.header.levels c.told-page (search rules) (search rules) (search rules) (search rules)) in
    let bare : IsHead c.put_fields.new.page 0 0 c.args.header.top c.args.header.free 0 =
    record { count_is = head.count_is ∙ no_count; root_is = head.root_is ∙ no_root; top_is = head.top_is; free_is = head.free_is; levels_is = head.levels_is ∙ none } in (
      overwritten b (512 * 0) c.put_fields.new.page,
      c.in-Ok.ensures.written b h,
      emptied_tree e k (g.M.FlatMem.size c.args.mem.now / 512) b nodes free c.args.header.free c.args.header.top c.put_fields.new.page opened below
          (omega (arith, g.met.M.FlatMem.revealed_length c.args.mem.now b h, c.requires.some_pages)) c.put_fields.array_long bare (subst IsBlank (sym written) (head_rest c.args.page.now c.args.header.count c.args.header.root c.args.header.top c.args.header.free c.args.header.levels c.told-page blank)),
    )
