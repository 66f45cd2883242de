use Rattle.std.proofs.Common.{◌∙◌, refl, sym, codes, List, map, string_bytes, drop}
use Rattle.std.proofs.lemmas.Result.{err_from_is_err_and}
use Rattle.clap.specs.Words.{app_of}
use Rattle.tool_words.specs.Apps.{three_operand_app}
use Rattle.tool_words.specs.Words.{Text, all_three_of}
use Rattle.tool_words.proofs.Walks.{no_fault, some_fault, value_is}
use Rattle.tool_words.proofs.ThreeOperands.{three_exact, three_none}
use Rattle.tool_words.proofs.operands.three_operands_matches.Goals as goal

pub returns-in_err-matches-clause-refused : goal.returns-in_err-matches-clause-refused
returns-in_err-matches-clause-refused c =
    let name = c.args.name.now in
    let words : List Text = map string_bytes c.args.words.now in
    let app = c.in_ok-command.ensures in
    let fault = err_from_is_err_and c.from_residual-in_err-matches.result c.from_residual-in_err-matches.ensures.1 in
    rw fault.1 (λ refused.
    three_none name (drop 1 words) c.requires.plain
    (some_fault (app_of c.in_ok-command.command) (three_operand_app name) words c.in_err-matches.field-0.0 app refl
    c.in_err-matches.ensures.kinds (fault.2 (cc))))

pub returns-clause-ok : goal.returns-clause-ok
returns-clause-ok c =
    let name = c.args.name.now in
    let words : List Text = map string_bytes c.args.words.now in
    let matches = c.in_ok-matches.matches in
    let parse = c.in_ok-matches.ensures in
    let app = c.in_ok-command.ensures in
    let none = no_fault (app_of c.in_ok-command.command) (three_operand_app name) words app refl parse.kinds in
    (three_exact name (drop 1 words) c.requires.plain none).1
    ∙ sym (λ i. all_three_of
    (value_is _ (three_operand_app name) words matches (codes "first") app refl parse.matches i)
    (value_is _ (three_operand_app name) words matches (codes "second") app refl parse.matches i)
    (value_is _ (three_operand_app name) words matches (codes "third") app refl parse.matches i))

pub returns-clause-three : goal.returns-clause-three
returns-clause-three c =
    let name = c.args.name.now in
    let words : List Text = map string_bytes c.args.words.now in
    (three_exact name (drop 1 words) c.requires.plain
    (no_fault (app_of c.in_ok-command.command) (three_operand_app name) words c.in_ok-command.ensures refl c.in_ok-matches.ensures.kinds)).0
