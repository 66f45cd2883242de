use Rattle.std.proofs.Common.{rules, arith, ◌≡◌, ◌∙◌, sym, ap, false, string_bytes, length, ◌≤◌, take_all}
use Rattle.std.specs.List.{list_all}
use Rattle.std.proofs.lemmas.List.Folds.{list_all-map, list_all_at}
use Rattle.tool_words.specs.Words.{is_plain}
use Rattle.tool_words.proofs.operands.are_plain.Goals as goal

pub returns-then-not-is_plain_word : goal.returns-then-not-is_plain_word
returns-then-not-is_plain_word c =
    let out : is_plain (string_bytes c.word-item.result) ≡ false = search rules in
    sym (list_all-map is_plain string_bytes c.args.words.now
    ∙ list_all_at (λ w. is_plain (string_bytes w)) c.args.words.now c.loop-word.word-index c.word-item.result (omega arith)
    (ap (λ w. is_plain (string_bytes w)) (sym c.word-item.is) ∙ out))

pub returns : goal.returns
returns c =
    let past : length c.args.words.now ≤ c.loop-word.word-index = omega arith in
    let all = c.loop-word.invariant in
    sym (list_all-map is_plain string_bytes c.args.words.now
    ∙ sym (ap (list_all (λ w. is_plain (string_bytes w))) (take_all _ c.args.words.now past)) ∙ all)
