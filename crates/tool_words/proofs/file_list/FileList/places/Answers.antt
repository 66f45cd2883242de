use Rattle.std.proofs.Common.{◌≡◌, ◌<◌, ◌∙◌, sym, ap, drop, length, arith, rules}
use Rattle.tool_words.specs.Words.{first_place, numbered, places_of, texts_of}
use Rattle.tool_words.proofs.Numbered.{file_place, none_from, rest_length}
use Rattle.tool_words.proofs.file_list.FileList.places.Goals as goal

pub returns-then-self-clause-start : goal.returns-then-self-clause-start
returns-then-self-clause-start c =
    let end : c.self.inside.first ≡ length c.self.inside.words.now = search rules in
    sym (ap (λ operands. first_place (places_of operands))
    (sym c.self.view_is ∙ ap (λ n. drop n (numbered 0 (texts_of c.self.inside.words.now))) end ∙ none_from c.self.inside.words.now))

pub returns-then-self-clause-end : goal.returns-then-self-clause-end
returns-then-self-clause-end c =
    let end : c.self.inside.first ≡ length c.self.inside.words.now = search rules in
    let count = sym (rest_length c.self.inside.first c.self.inside.words.now) ∙ ap length c.self.view_is in
    omega (arith, count, end)

pub returns-else-self-clause-start : goal.returns-else-self-clause-start
returns-else-self-clause-start c =
    let within : c.self.inside.first < length c.self.inside.words.now = omega (arith, c.self.invariant, c.if-self.false) in
    sym (file_place c.self.inside.first c.self.inside.words.now within)
    ∙ ap (λ operands. first_place (places_of operands)) c.self.view_is

pub returns-else-self-clause-end : goal.returns-else-self-clause-end
returns-else-self-clause-end c =
    let count = sym (rest_length c.self.inside.first c.self.inside.words.now) ∙ ap length c.self.view_is in
    omega (arith, count, c.self.invariant)
