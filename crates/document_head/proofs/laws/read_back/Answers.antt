use Rattle.std.proofs.Common.{rules, ◌<◌, ◌≤◌, ◌^◌, length, IsUtf8}
use Rattle.document_head.proofs.laws.read_back.Goals as goal

pub returns : goal.returns
returns c =
    let fits : c.args.head.now.bytes < 2 ^ 64 = search rules in
    let short : length c.args.head.now.name.bytes ≤ 255 = search rules in
    let text : IsUtf8 c.args.head.now.name.bytes = search rules in
    c.from_page.ensures.found c.args.head.now.bytes c.args.head.now.name.bytes fits short text c.to_page.ensures
