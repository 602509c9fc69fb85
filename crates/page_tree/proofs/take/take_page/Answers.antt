use Rattle.std.proofs.Common.{◌≡◌, inl, inr, ◌+◌, ◌/◌, ◌≤◌, arith, refl, sym, ◌∙◌, ap}
use Rattle.page_tree.specs.Page.{page_at, kind_of, next_in}
use Rattle.page_tree.proofs.Taken.{taken_fresh, taken_listed, taken_next}
use Rattle.page_tree.proofs.WayLaws.{takes_above, takes_first, none_left, not_free, next_outside}
use Rattle.page_tree.proofs.take.take_page.Goals as goal

pub returns-then-header-pages-clause-taken : goal.returns-then-header-pages-clause-taken
returns-then-header-pages-clause-taken g c = λ b h free can.
    let fresh = taken_fresh b free c.args.header.now.free c.args.header.now.top (g.M.FlatMem.size c.args.mem.now / 512) (c.args.header.now.top + 1) can c.if-first-eq0.true refl in
    omega (arith, fresh.1, c.if-header-pages.true, c.len.ensures)

pub returns-then-header-pages-clause-on : goal.returns-then-header-pages-clause-on
returns-then-header-pages-clause-on g c = λ e k level t b d h few way.
    none_left k b d level t c.args.header.now.free c.args.header.now.top way e (g.M.FlatMem.size c.args.mem.now / 512) c.if-first-eq0.true (omega (arith, c.if-header-pages.true, c.len.ensures, c.requires.some_pages)) few

pub returns-then-first-eq0-clause-taken : goal.returns-then-first-eq0-clause-taken
returns-then-first-eq0-clause-taken g c = λ b h free can.
    (taken_fresh b free c.args.header.now.free c.args.header.now.top (g.M.FlatMem.size c.args.mem.now / 512) (c.args.header.now.top + 1) can c.if-first-eq0.true refl).0

pub returns-then-first-eq0-clause-on : goal.returns-then-first-eq0-clause-on
returns-then-first-eq0-clause-on g c = λ e k level t b d h few way.
    takes_above k b d level t c.args.header.now.free c.args.header.now.top way (c.args.header.now.top + 1) refl

pub returns-then-bytes-ne0-clause-taken : goal.returns-then-bytes-ne0-clause-taken
returns-then-bytes-ne0-clause-taken g c = λ b h free can.
    let listed = taken_listed b free c.args.header.now.free c.args.header.now.top (g.M.FlatMem.size c.args.mem.now / 512) (next_in (page_at b c.args.header.now.free)) can c.if-first-eq0.false refl in
    let read : c.load.new.page ≡ page_at b c.args.header.now.free = c.in-Ok.ensures.read b h in
    absurd (c.if-bytes-ne0.true (ap kind_of read ∙ listed.1))

pub returns-then-bytes-ne0-clause-on : goal.returns-then-bytes-ne0-clause-on
returns-then-bytes-ne0-clause-on g c = λ e k level t b d h few way.
    let read : c.load.new.page ≡ page_at d c.args.header.now.free = c.in-Ok.ensures.read d h in
    let some : 1 ≤ c.args.header.now.free = omega (arith, c.if-first-eq0.false) in
    not_free k b d level t c.args.header.now.free c.args.header.now.top way some e (g.M.FlatMem.size c.args.mem.now / 512) (λ kind. c.if-bytes-ne0.true (ap kind_of read ∙ kind))

pub returns-then-next-pages-clause-taken : goal.returns-then-next-pages-clause-taken
returns-then-next-pages-clause-taken g c = λ b h free can.
    let read : c.load.new.page ≡ page_at b c.args.header.now.free = c.in-Ok.ensures.read b h in
    let inside = taken_next b free c.args.header.now.free c.args.header.now.top (g.M.FlatMem.size c.args.mem.now / 512) c.read_u32-next.result can c.if-first-eq0.false (c.read_u32-next.ensures ∙ ap next_in read) in
    omega (arith, inside, c.if-next-pages.true, c.len.ensures)

pub returns-then-next-pages-clause-on : goal.returns-then-next-pages-clause-on
returns-then-next-pages-clause-on g c = λ e k level t b d h few way.
    let read : c.load.new.page ≡ page_at d c.args.header.now.free = c.in-Ok.ensures.read d h in
    let some : 1 ≤ c.args.header.now.free = omega (arith, c.if-first-eq0.false) in
    let kind : kind_of (page_at d c.args.header.now.free) ≡ 0 = ap kind_of (sym read) ∙ c.if-bytes-ne0.false in
    next_outside k b d level t c.args.header.now.free c.args.header.now.top way some e (g.M.FlatMem.size c.args.mem.now / 512) c.read_u32-next.result kind (c.read_u32-next.ensures ∙ ap next_in read) (omega (arith, c.if-next-pages.true, c.len.ensures))

pub returns-clause-taken : goal.returns-clause-taken
returns-clause-taken g c = λ b h free can.
    let read : c.load.new.page ≡ page_at b c.args.header.now.free = c.in-Ok.ensures.read b h in
    (taken_listed b free c.args.header.now.free c.args.header.now.top (g.M.FlatMem.size c.args.mem.now / 512) c.read_u32-next.result can c.if-first-eq0.false (c.read_u32-next.ensures ∙ ap next_in read)).2

pub returns-clause-on : goal.returns-clause-on
returns-clause-on g c = λ e k level t b d h few way.
    let read : c.load.new.page ≡ page_at d c.args.header.now.free = c.in-Ok.ensures.read d h in
    let some : 1 ≤ c.args.header.now.free = omega (arith, c.if-first-eq0.false) in
    let kind : kind_of (page_at d c.args.header.now.free) ≡ 0 = ap kind_of (sym read) ∙ c.if-bytes-ne0.false in
    takes_first k b d level t c.args.header.now.free c.args.header.now.top way some c.read_u32-next.result kind (c.read_u32-next.ensures ∙ ap next_in read) (omega (arith, g.met.M.FlatMem.revealed_length c.args.mem.now d h, c.if-next-pages.false, c.len.ensures))

pub returns-then-first-eq0-clause-first : goal.returns-then-first-eq0-clause-first
returns-then-first-eq0-clause-first g c = λ b h. inr (c.if-first-eq0.true, refl, c.if-first-eq0.true, refl)

pub returns-clause-first : goal.returns-clause-first
returns-clause-first g c = λ b h.
    let read : c.load.new.page ≡ page_at b c.args.header.now.free = c.in-Ok.ensures.read b h in
    inl (omega (arith, c.if-first-eq0.false), refl, c.read_u32-next.ensures ∙ ap next_in read, refl)
