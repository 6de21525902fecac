use Rattle.std.proofs.Common.{◌≡◌, ◌∙◌, subst, List, ℕ}
use Rattle.std.specs.Str.Parse.{ParsesUnsigned}
use Rattle.std.proofs.lemmas.Str.{IsUtf8-from_ascii}
use Rattle.script.proofs.Decimal.{digits_ascii, digits_numeral, digits_unsigned, ok_where, ok_fact, parsed_value}
use Rattle.script.proofs.number.value.Goals as goal

pub unwrap-requires : goal.unwrap-requires
unwrap-requires c =
    let text = IsUtf8-from_ascii c.args.word.now (digits_ascii c.args.word.now c.requires.decimal) in
    ok_where _ _ _ c.from_utf8.result text c.from_utf8.ensures.cases

pub returns : goal.returns
returns c =
    let word = c.args.word.now in
    let same : c.unwrap.result.now ≡ word = (ok_fact _ _ c.from_utf8.result c.unwrap.result c.unwrap.ensures c.from_utf8.ensures.cases).0 in
    let parsed : ParsesUnsigned 64 10 word c.parse.result = subst (λ (t : List ℕ). ParsesUnsigned 64 10 t c.parse.result) same c.parse.ensures.value.0 in
    c.ok.ensures.value
    ∙ parsed_value word c.parse.result c.requires.some (digits_numeral word c.requires.decimal) (digits_unsigned word c.requires.decimal) parsed
