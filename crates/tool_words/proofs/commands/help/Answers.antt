use Rattle.std.proofs.Common.{rules, ◌≡◌, ◌∙◌, ◌++◌, ap, codes}
use Rattle.tool_words.specs.Commands.{commands}
use Rattle.tool_words.specs.Help.{help_lines}
use Rattle.tool_words.proofs.commands.help.Goals as goal

pub returns : goal.returns
returns c =
    let usage : c.in_ok-text.text.items ≡ codes "usage: treesync COMMAND WORDS\n" = search rules in
    c.in_ok-add_lines.ensures ∙ ap (λ text. text ++ help_lines commands) usage
