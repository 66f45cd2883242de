use Rattle.std.proofs.Common.{◌≤◌, length, arith, rules}
use Rattle.tool_words.specs.Words.{operands_of}
use Rattle.tool_words.proofs.LogPlaces.{few_logs}
use Rattle.tool_words.proofs.read.read_transition.Goals as goal

pub overflow_cast-count : goal.overflow_cast-count
overflow_cast-count c =
    let found = c.in_ok-prefs in
    let few = few_logs (operands_of c.args.words.now) found.prefs found.first found.logs found.ensures.ok in
    omega (arith, few, c.len-count.ensures)
