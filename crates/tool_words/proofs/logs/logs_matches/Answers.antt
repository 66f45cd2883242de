use Rattle.std.proofs.Common.{◌∙◌, refl, sym, ap₂, codes, List, map, string_bytes, drop}
use Rattle.std.proofs.lemmas.Result.{err_from_is_err_and}
use Rattle.clap.specs.Words.{app_of}
use Rattle.tool_words.specs.Apps.{logs_app}
use Rattle.tool_words.specs.Logs.{file_and_texts}
use Rattle.tool_words.specs.Words.{Text}
use Rattle.tool_words.proofs.Walks.{no_fault, some_fault, value_is}
use Rattle.tool_words.proofs.Repeats.{values_are}
use Rattle.tool_words.proofs.LogOperands.{logs_exact, logs_none}
use Rattle.tool_words.proofs.logs.logs_matches.Goals as goal

pub returns-in_err-matches-clause-refused : goal.returns-in_err-matches-clause-refused
returns-in_err-matches-clause-refused c =
    let name = c.args.name.now in
    let words : List Text = map string_bytes c.args.words.now in
    let app = c.in_ok-command.ensures in
    let fault = err_from_is_err_and c.from_residual-in_err-matches.result c.from_residual-in_err-matches.ensures.1 in
    rw fault.1 (λ refused.
    logs_none name (drop 1 words) c.requires.parts
    (some_fault (app_of c.in_ok-command.command) (logs_app name) words c.in_err-matches.field-0.0 app refl
    c.in_err-matches.ensures.kinds (fault.2 (cc))))

pub returns-clause-ok : goal.returns-clause-ok
returns-clause-ok c =
    let name = c.args.name.now in
    let words : List Text = map string_bytes c.args.words.now in
    let matches = c.in_ok-matches.matches in
    let parse = c.in_ok-matches.ensures in
    let app = c.in_ok-command.ensures in
    let none = no_fault (app_of c.in_ok-command.command) (logs_app name) words app refl parse.kinds in
    logs_exact name (drop 1 words) c.requires.parts none
    ∙ sym (ap₂ file_and_texts
    (value_is _ (logs_app name) words matches (codes "prefs") app refl parse.matches)
    (values_are _ (logs_app name) words matches (codes "logs") app refl parse.matches))
