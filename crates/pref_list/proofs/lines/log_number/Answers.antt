use Rattle.std.proofs.Common.{arith, sym, ◌∙◌}
use Rattle.pref_list.proofs.Spelling.{number_spelled, number_none}
use Rattle.pref_list.proofs.lines.log_number.Goals as goal
use Rattle.pref_list.proofs.lines.log_number.Goals.{else-number-gt0-via-then-number-gt0+then-number+else-is_decimal, else-number-gt0-via-then-number-gt0+else-number, else-number-gt0-via-else-number-gt0}

pub returns-then-is_decimal : goal.returns-then-is_decimal
returns-then-is_decimal c =
    let low = c.if-number-gt0.true in
    let high = c.if-number.true in
    number_spelled c.args.field.now c.two_digits-number.result (omega (arith, low)) (omega (arith, high)) (sym c.is_decimal.ensures ∙ c.if-is_decimal.true)

pub returns-else-number-gt0 : goal.returns-else-number-gt0
returns-else-number-gt0 c =
    number_none c.args.field.now c.two_digits-number.result c.two_digits-number.ensures
    (λ low high. elim c.else-number-gt0.branch [
      | else-number-gt0-via-then-number-gt0+then-number+else-is_decimal w ↦ sym w.is_decimal.ensures ∙ w.if-is_decimal.false
      | else-number-gt0-via-then-number-gt0+else-number w ↦ let h = w.if-number.false in absurd (omega (arith, h, high))
      | else-number-gt0-via-else-number-gt0 w ↦ let h = w.if-number-gt0.false in absurd (omega (arith, h, low))
    ])
