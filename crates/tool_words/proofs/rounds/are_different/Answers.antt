use Rattle.std.proofs.Common.{rules, ◌≡◌, ◌∙◌, ◌&&◌, ◌+◌, true, false, sym, ap, drop}
use Rattle.tool_words.specs.Rounds.{are_different, is_other}
use Rattle.tool_words.proofs.FoldersAndLogs.{different_here}
use Rattle.tool_words.proofs.rounds.are_different.Goals as goal

pub returns-then-not-is_other : goal.returns-then-not-is_other
returns-then-not-is_other c =
    let operands = c.args.operands.now in
    let at = c.loop-at.at in
    let same : is_other c.name.result.now (drop (at + 1) operands) ≡ false = search rules in
    sym (sym c.loop-at.invariant ∙ different_here c.name.result.now operands at c.name.ensures
    ∙ ap (λ b. b && are_different (drop (at + 1) operands)) same)

pub loop-at-preserved : goal.loop-at-preserved
loop-at-preserved c =
    let operands = c.args.operands.now in
    let at = c.loop-at.at in
    let other : is_other c.name.result.now (drop (at + 1) operands) ≡ true = search rules in
    sym (different_here c.name.result.now operands at c.name.ensures
    ∙ ap (λ b. b && are_different (drop (at + 1) operands)) other) ∙ c.loop-at.invariant
