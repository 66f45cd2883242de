use Rattle.std.proofs.Common.{◌∙◌, sym, ap, take, drop, length, arith, rules}
use Rattle.tool_words.proofs.Numbered.{rest_length}
use Rattle.tool_words.proofs.FoldersAndLogs.{prefix_of, back_of}
use Rattle.tool_words.proofs.file_list.FileList.split_at.Goals as goal

pub overflow_add-end : goal.overflow_add-end
overflow_add-end c =
    let count = sym (rest_length c.self.inside.first c.self.inside.words.now) ∙ ap length c.self.view_is in
    search rules

pub slice_bounds-new-end : goal.slice_bounds-new-end
slice_bounds-new-end c =
    let count = sym (rest_length c.self.inside.first c.self.inside.words.now) ∙ ap length c.self.view_is in
    search rules

pub new-requires-2 : goal.new-requires-2
new-requires-2 c =
    let count = sym (rest_length c.self.inside.first c.self.inside.words.now) ∙ ap length c.self.view_is in
    omega (arith, count, c.requires, c.self.invariant)

pub returns : goal.returns
returns c =
    let words = c.self.inside.words.now in
    let first = c.self.inside.first in (
      c.new.ensures ∙ prefix_of first c.args.at words ∙ ap (take c.args.at) c.self.view_is,
      c.new-2.ensures ∙ back_of first c.args.at words ∙ ap (drop c.args.at) c.self.view_is,
    )
