use Rattle.std.proofs.Common.{◌≡◌, ◌<◌, ◌+◌, ◌∙◌, ◌∷◌, sym, ap, drop, length, get_or, string_bytes, arith, rules}
use Rattle.tool_words.specs.Words.{operand_at, numbered, texts_of}
use Rattle.tool_words.proofs.Numbered.{none_from, split_at}
use Rattle.tool_words.proofs.file_list.FileList.split_first.Goals as goal

pub returns-then-self-clause-none : goal.returns-then-self-clause-none
returns-then-self-clause-none c =
    let end : c.self.inside.first ≡ length c.self.inside.words.now = search rules in
    sym c.self.view_is ∙ ap (λ n. drop n (numbered 0 (texts_of c.self.inside.words.now))) end ∙ none_from c.self.inside.words.now

pub returns-clause-some : goal.returns-clause-some
returns-clause-some c =
    let words = c.self.inside.words.now in
    let first = c.self.inside.first in
    let within : first < length words = omega (arith, c.self.invariant, c.if-self.false) in
    let item = c.index-self-self.result in
    let read : string_bytes (get_or words first item) ≡ c.as_str.result.now = search rules in
    sym c.self.view_is ∙ split_at first words item within
    ∙ ap (λ text. operand_at first text ∷ drop (first + 1) (numbered 0 (texts_of words))) read
    ∙ ap (λ word. word ∷ drop (first + 1) (numbered 0 (texts_of words))) (sym c.new-word.ensures)
    ∙ ap (λ rest. c.new-word.result ∷ rest) (sym c.new.ensures)
