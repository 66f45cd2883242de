use Rattle.std.proofs.Common.{◌≡◌, ◌∙◌, ◌+◌, sym, ap, slice_get, option_map, Some, rules, string_bytes, get_or}
use Rattle.tool_words.specs.Words.{Operand}
use Rattle.tool_words.proofs.Numbered.{file_within, file_at}
use Rattle.tool_words.proofs.file_list.FileList.name.Goals as goal

pub overflow_add-self-inside : goal.overflow_add-self-inside
overflow_add-self-inside c =
    let within = file_within c.self.inside.first c.self.inside.words.now c.args.at c.args.self.now c.self.view_is c.requires in
    search rules

pub offset_bounds-self-inside-self-inside : goal.offset_bounds-self-inside-self-inside
offset_bounds-self-inside-self-inside c =
    let within = file_within c.self.inside.first c.self.inside.words.now c.args.at c.args.self.now c.self.view_is c.requires in
    search rules

pub bounds-self-inside-self-inside : goal.bounds-self-inside-self-inside
bounds-self-inside-self-inside c =
    file_within c.self.inside.first c.self.inside.words.now c.args.at c.args.self.now c.self.view_is c.requires

pub returns : goal.returns
returns c =
    let words = c.self.inside.words.now in
    let first = c.self.inside.first in
    let within = file_within first words c.args.at c.args.self.now c.self.view_is c.requires in
    let item = c.index-self-self.result in
    let read : string_bytes (get_or words (first + c.args.at) item) ≡ c.as_str.result.now = search rules in
    ap (λ operands. option_map (λ (operand : Operand). operand.text) (slice_get operands c.args.at)) (sym c.self.view_is)
    ∙ ap (option_map (λ (operand : Operand). operand.text)) (file_at first words c.args.at item within) ∙ ap Some read
