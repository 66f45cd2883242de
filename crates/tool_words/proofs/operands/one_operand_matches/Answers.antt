use Rattle.std.proofs.Common.{◌∙◌, refl, sym, codes, List, map, string_bytes, drop}
use Rattle.std.proofs.lemmas.Result.{err_from_is_err_and}
use Rattle.clap.specs.Words.{app_of}
use Rattle.tool_words.specs.Apps.{one_operand_app}
use Rattle.tool_words.specs.Words.{Text}
use Rattle.tool_words.proofs.Walks.{no_fault, some_fault, value_is}
use Rattle.tool_words.proofs.OneOperand.{one_exact, one_none}
use Rattle.tool_words.proofs.operands.one_operand_matches.Goals as goal

pub returns-in_err-matches-clause-refused : goal.returns-in_err-matches-clause-refused
returns-in_err-matches-clause-refused c =
    let name = c.args.name.now in
    let words : List Text = map string_bytes c.args.words.now in
    let app = c.in_ok-command.ensures in
    let fault = err_from_is_err_and c.from_residual-in_err-matches.result c.from_residual-in_err-matches.ensures.1 in
    rw fault.1 (λ refused.
    one_none name (drop 1 words) c.requires.plain
    (some_fault (app_of c.in_ok-command.command) (one_operand_app name) words c.in_err-matches.field-0.0 app refl
    c.in_err-matches.ensures.kinds (fault.2 (cc))))

pub returns-clause-ok : goal.returns-clause-ok
returns-clause-ok c =
    let name = c.args.name.now in
    let words : List Text = map string_bytes c.args.words.now in
    let matches = c.in_ok-matches.matches in
    let parse = c.in_ok-matches.ensures in
    let app = c.in_ok-command.ensures in
    let none = no_fault (app_of c.in_ok-command.command) (one_operand_app name) words app refl parse.kinds in
    (one_exact name (drop 1 words) c.requires.plain none).1
    ∙ sym (value_is _ (one_operand_app name) words matches (codes "first") app refl parse.matches)

pub returns-clause-one : goal.returns-clause-one
returns-clause-one c =
    let name = c.args.name.now in
    let words : List Text = map string_bytes c.args.words.now in
    (one_exact name (drop 1 words) c.requires.plain
    (no_fault (app_of c.in_ok-command.command) (one_operand_app name) words c.in_ok-command.ensures refl c.in_ok-matches.ensures.kinds)).0
