use Rattle.std.proofs.Common.{◌≡◌, ◌∙◌, ◌≤◌, ◌<◌, ◌^◌, true, false, true≢false, sym, ap, subst, Ok, nat_le, decimal, arith, rules}
use Rattle.std.specs.Str.{bytes_eq}
use Rattle.tool_words.proofs.NumberTexts.{number_is, number_none, same_ok, ok_or_err}
use Rattle.tool_words.proofs.numbers.read_number.Goals as goal
use Rattle.tool_words.proofs.numbers.read_number.Goals.{else-is_spelled-via-then-is_spelled+then-low-number+else-number-high, else-is_spelled-via-then-is_spelled+else-low-number, else-is_spelled-via-else-is_spelled}

pub returns-then-number-high : goal.returns-then-number-high
returns-then-number-high c =
    let low = c.if-low-number.true in
    let high = c.if-number-high.true in
    let spelled : bytes_eq c.args.text.now (decimal c.in-Ok.number) ≡ true = search rules in
    number_is c.args.low c.args.high c.args.text.now c.in-Ok.number (omega (arith, high, c.ranges.high.fits)) spelled low high

pub returns-else-is_spelled : goal.returns-else-is_spelled
returns-else-is_spelled c =
    number_none c.args.low c.args.high c.args.text.now c.parse.result c.ranges.high.fits c.parse.ensures.value.0
    (λ n is spelt low high.
    let same : c.in-Ok.number ≡ n = same_ok c.parse.result c.in-Ok.number n c.in-Ok.is is in
    elim c.else-is_spelled.branch [
      | else-is_spelled-via-then-is_spelled+then-low-number+else-number-high w ↦ let h = w.if-number-high.false in omega (arith, h, high, same)
      | else-is_spelled-via-then-is_spelled+else-low-number w ↦ let h = w.if-low-number.false in omega (arith, h, low, same)
      | else-is_spelled-via-else-is_spelled w ↦
          let other : bytes_eq c.args.text.now (decimal c.in-Ok.number) ≡ false = search rules in
          true≢false (sym spelt ∙ ap (λ m. bytes_eq c.args.text.now (decimal m)) (sym same) ∙ other)
    ])

pub returns-in-Err : goal.returns-in-Err
returns-in-Err c =
    number_none c.args.low c.args.high c.args.text.now c.parse.result c.ranges.high.fits c.parse.ensures.value.0
    (λ n is spelt low high. ok_or_err c.parse.result n c.in-Err.field-0 is c.in-Err.is)
