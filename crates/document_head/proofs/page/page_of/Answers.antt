use Rattle.std.proofs.Common.{◌≡◌, ◌∙◌, ◌+◌, ◌-◌, ap, refl, ℕ, List, [], ◌∷◌, ◌++◌, length, replicate}
use Rattle.document_head.specs.Head.{before_name, head_page, magic}
use Rattle.byteorder.specs.Endian.{big_bytes}
use Rattle.document_head.proofs.page.page_of.Goals as goal

pub returns : goal.returns
unfolding before_name
returns c =
    let first = c.put.ensures [] refl refl in
    let number : c.write_u64.new.buf ≡ big_bytes 8 c.args.bytes = c.write_u64.ensures in
    let second =
    c.put-2.ensures magic refl first
    ∙ ap (λ (n : List ℕ). (magic ++ n) ++ replicate (512 - (8 + length n)) 0) number in
    let third = c.put-3.ensures (magic ++ big_bytes 8 c.args.bytes) refl second in
    let fourth =
    c.put-4.ensures (magic ++ (big_bytes 8 c.args.bytes ++ length c.as_bytes-name.result.now ∷ [])) refl third in
    fourth
    ∙ ap (λ (n : List ℕ). head_page c.args.bytes n) (c.as_bytes-name.ensures.value ∙ c.as_str.ensures.value)
