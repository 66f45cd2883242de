use Rattle.std.proofs.Common.{◌∙◌, ◌+◌, sym, ap, slice_get, option_map, arith, rules}
use Rattle.tool_words.specs.Words.{Operand, first_place, places_of}
use Rattle.tool_words.proofs.Numbered.{file_within, file_place_at, file_place}
use Rattle.tool_words.proofs.file_list.FileList.place.Goals as goal

pub overflow_add-result : goal.overflow_add-result
overflow_add-result c =
    let within = file_within c.self.inside.first c.self.inside.words.now c.args.at c.args.self.now c.self.view_is c.requires in
    search rules

pub returns-clause-operand : goal.returns-clause-operand
returns-clause-operand c =
    let within = file_within c.self.inside.first c.self.inside.words.now c.args.at c.args.self.now c.self.view_is c.requires in
    ap (λ operands. option_map (λ (operand : Operand). operand.place) (slice_get operands c.args.at)) (sym c.self.view_is)
    ∙ file_place_at c.self.inside.first c.self.inside.words.now c.args.at within

pub returns-clause-follows : goal.returns-clause-follows
returns-clause-follows c =
    let within = file_within c.self.inside.first c.self.inside.words.now c.args.at c.args.self.now c.self.view_is c.requires in
    ap (λ place. place + c.args.at)
    (sym (file_place c.self.inside.first c.self.inside.words.now (omega (arith, within)))
    ∙ ap (λ operands. first_place (places_of operands)) c.self.view_is)
