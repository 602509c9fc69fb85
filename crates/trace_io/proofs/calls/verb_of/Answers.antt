use Rattle.std.proofs.Common.{◌≡◌, ◌∙◌, sym, ap, get_or, [], length, rules, ◌≤◌}
use Rattle.trace_io.specs.Grammar.{verb_of}
use Rattle.trace_io.proofs.VerbLemmas.{by_letter, no_word, no_letter, empty_list, or_more}
use Rattle.trace_io.proofs.calls.verb_of.Goals as goal

pub returns-in_err-first : goal.returns-in_err-first
returns-in_err-first c =
    let none : length c.args.word.now ≤ 0 = c.in_err-first.ensures.item.3 in
    let empty : c.args.word.now ≡ [] = empty_list c.args.word.now none in
    c.from_residual.ensures ∙ no_word ∙ ap verb_of (sym empty)

pub returns-in-99 : goal.returns-in-99
returns-in-99 c =
    let first : get_or c.args.word.now 0 0 ≡ 99 = sym (c.in_ok-first.ensures.item.3.1 0) ∙ c.in-99.is in
    rw (c.or.ensures, c.named.ensures, c.named-in-99.ensures, or_more) (by_letter c.args.word.now 99 first)

pub returns-in-100 : goal.returns-in-100
returns-in-100 c =
    let first : get_or c.args.word.now 0 0 ≡ 100 = sym (c.in_ok-first.ensures.item.3.1 0) ∙ c.in-100.is in
    rw (c.or-in-100.ensures, c.named-in-100.ensures, c.named-in-100-2.ensures, or_more) (by_letter c.args.word.now 100 first)

pub returns-in-97 : goal.returns-in-97
returns-in-97 c =
    let first : get_or c.args.word.now 0 0 ≡ 97 = sym (c.in_ok-first.ensures.item.3.1 0) ∙ c.in-97.is in
    rw (c.or-in-97.ensures, c.named-in-97.ensures, c.named-in-97-2.ensures, or_more) (by_letter c.args.word.now 97 first)

pub returns-in-115 : goal.returns-in-115
returns-in-115 c =
    let first : get_or c.args.word.now 0 0 ≡ 115 = sym (c.in_ok-first.ensures.item.3.1 0) ∙ c.in-115.is in
    rw (c.or-in-115-2.ensures, c.or-in-115.ensures, c.named-in-115.ensures, c.named-in-115-2.ensures, c.named-in-115-3.ensures, or_more, or_more, or_more) (by_letter c.args.word.now 115 first)

pub returns-in-112 : goal.returns-in-112
returns-in-112 c =
    let first : get_or c.args.word.now 0 0 ≡ 112 = sym (c.in_ok-first.ensures.item.3.1 0) ∙ c.in-112.is in
    rw (c.or-in-112.ensures, c.named-in-112.ensures, c.named-in-112-2.ensures, or_more) (by_letter c.args.word.now 112 first)

pub returns-in-105 : goal.returns-in-105
returns-in-105 c =
    let first : get_or c.args.word.now 0 0 ≡ 105 = sym (c.in_ok-first.ensures.item.3.1 0) ∙ c.in-105.is in
    c.named-in-105.ensures ∙ by_letter c.args.word.now 105 first

pub returns-in-110 : goal.returns-in-110
returns-in-110 c =
    let first : get_or c.args.word.now 0 0 ≡ 110 = sym (c.in_ok-first.ensures.item.3.1 0) ∙ c.in-110.is in
    c.named-in-110.ensures ∙ by_letter c.args.word.now 110 first

pub returns-in-118 : goal.returns-in-118
returns-in-118 c =
    let first : get_or c.args.word.now 0 0 ≡ 118 = sym (c.in_ok-first.ensures.item.3.1 0) ∙ c.in-118.is in
    c.named-in-118.ensures ∙ by_letter c.args.word.now 118 first

pub returns-in-114 : goal.returns-in-114
returns-in-114 c =
    let first : get_or c.args.word.now 0 0 ≡ 114 = sym (c.in_ok-first.ensures.item.3.1 0) ∙ c.in-114.is in
    c.named-in-114.ensures ∙ by_letter c.args.word.now 114 first

pub returns-in-119 : goal.returns-in-119
returns-in-119 c =
    let first : get_or c.args.word.now 0 0 ≡ 119 = sym (c.in_ok-first.ensures.item.3.1 0) ∙ c.in-119.is in
    c.named-in-119.ensures ∙ by_letter c.args.word.now 119 first

pub returns-in-117 : goal.returns-in-117
returns-in-117 c =
    let first : get_or c.args.word.now 0 0 ≡ 117 = sym (c.in_ok-first.ensures.item.3.1 0) ∙ c.in-117.is in
    rw (c.or-in-117.ensures, c.named-in-117.ensures, c.named-in-117-2.ensures, or_more) (by_letter c.args.word.now 117 first)

pub returns-in-109 : goal.returns-in-109
returns-in-109 c =
    let first : get_or c.args.word.now 0 0 ≡ 109 = sym (c.in_ok-first.ensures.item.3.1 0) ∙ c.in-109.is in
    rw (c.or-in-109.ensures, c.named-in-109.ensures, c.named-in-109-2.ensures, or_more) (by_letter c.args.word.now 109 first)

pub returns-in-108 : goal.returns-in-108
returns-in-108 c =
    let first : get_or c.args.word.now 0 0 ≡ 108 = sym (c.in_ok-first.ensures.item.3.1 0) ∙ c.in-108.is in
    c.named-in-108.ensures ∙ by_letter c.args.word.now 108 first

pub returns-in-107 : goal.returns-in-107
returns-in-107 c =
    let first : get_or c.args.word.now 0 0 ≡ 107 = sym (c.in_ok-first.ensures.item.3.1 0) ∙ c.in-107.is in
    c.named-in-107.ensures ∙ by_letter c.args.word.now 107 first

pub returns-in-102 : goal.returns-in-102
returns-in-102 c =
    let first : get_or c.args.word.now 0 0 ≡ 102 = sym (c.in_ok-first.ensures.item.3.1 0) ∙ c.in-102.is in
    c.named-in-102.ensures ∙ by_letter c.args.word.now 102 first

pub returns-in-104 : goal.returns-in-104
returns-in-104 c =
    let first : get_or c.args.word.now 0 0 ≡ 104 = sym (c.in_ok-first.ensures.item.3.1 0) ∙ c.in-104.is in
    c.named-in-104.ensures ∙ by_letter c.args.word.now 104 first

pub returns-in_default : goal.returns-in_default
returns-in_default c =
    let first : get_or c.args.word.now 0 0 ≡ c.in_ok-first.field-0.now = sym (c.in_ok-first.ensures.item.3.1 0) in
    search (rules, no_letter c.args.word.now c.in_ok-first.field-0.now first)
