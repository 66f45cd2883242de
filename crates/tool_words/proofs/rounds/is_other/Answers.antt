use Rattle.std.proofs.Common.{rules, ◌≡◌, ◌∙◌, ◌&&◌, ◌+◌, true, false, not, sym, ap, drop}
use Rattle.std.specs.Str.{bytes_eq}
use Rattle.tool_words.specs.Rounds.{is_other}
use Rattle.tool_words.proofs.FoldersAndLogs.{other_here}
use Rattle.tool_words.proofs.rounds.is_other.Goals as goal

pub returns-then-eq : goal.returns-then-eq
returns-then-eq c =
    let text = c.args.text.now in
    let operands = c.args.operands.now in
    let at = c.loop-at.at in
    let same : bytes_eq c.name.result.now text ≡ true = search rules in
    sym (sym c.loop-at.invariant ∙ other_here text c.name.result.now operands at c.name.ensures
    ∙ ap (λ b. not b && is_other text (drop (at + 1) operands)) same)

pub loop-at-preserved : goal.loop-at-preserved
loop-at-preserved c =
    let text = c.args.text.now in
    let operands = c.args.operands.now in
    let at = c.loop-at.at in
    let other : bytes_eq c.name.result.now text ≡ false = search rules in
    sym (other_here text c.name.result.now operands at c.name.ensures
    ∙ ap (λ b. not b && is_other text (drop (at + 1) operands)) other) ∙ c.loop-at.invariant
