use Rattle.std.proofs.Common.{◌≡◌, ◌+◌, ◌-◌, ◌∙◌, true, false, sym, ap, List, ◌∷◌, Option, Some, is_some, map, option_map, drop, length, string_bytes, arith, rules}
use Rattle.std.proofs.lemmas.List.{length-map}
use Rattle.tool_words.specs.Logs.{is_log_count, part_texts, parts_of}
use Rattle.tool_words.specs.Words.{Text, Operand, numbered, operand_at, operands_of}
use Rattle.tool_words.proofs.LogPlaces.{placed_first, first_taken, first_refused, is_some-map}
use Rattle.tool_words.proofs.logs.prefs_first_and_logs.Goals as goal

-- the file of the option, the first operand and the logs
abbrev whole : Option Operand → Operand → List Operand → Option (Option Operand × Operand × List Operand)
whole file first logs = Some (file, first, logs)

pub returns-then-not-is_number_of_logs-clause-refused : goal.returns-then-not-is_number_of_logs-clause-refused
returns-then-not-is_number_of_logs-clause-refused c refused =
    let words : List Text = map string_bytes c.args.words.now in
    let file : Option Text = option_map (λ s. s.now) c.get_str-file.result in
    let texts : List Text = map (λ s. s.now) c.in-Some-Some.logs.now in
    let first = c.in-Some-Some.text.now in
    let has : is_some (parts_of (operands_of c.args.words.now)) ≡ true = search rules in
    let found : option_map part_texts (parts_of (operands_of c.args.words.now)) ≡ Some (file, first ∷ texts) = search rules in
    let many : is_log_count (length c.in-Some-Some.logs.now) ≡ false = search rules in
    first_refused words file first texts (placed_first words file first texts has found) (ap is_log_count (length-map c.in-Some-Some.logs.now (λ s. s.now)) ∙ many)

pub overflow_sub-first : goal.overflow_sub-first
overflow_sub-first c =
    let words : List Text = map string_bytes c.args.words.now in
    let file : Option Text = option_map (λ s. s.now) c.get_str-file.result in
    let texts : List Text = map (λ s. s.now) c.in-Some-Some.logs.now in
    let first = c.in-Some-Some.text.now in
    let has : is_some (parts_of (operands_of c.args.words.now)) ≡ true = search rules in
    let found : option_map part_texts (parts_of (operands_of c.args.words.now)) ≡ Some (file, first ∷ texts) = search rules in
    let within = (placed_first words file first texts has found).within in
    omega (arith, within, length-map c.in-Some-Some.logs.now (λ s. s.now), length-map c.args.words.now string_bytes)

pub overflow_sub-first-2 : goal.overflow_sub-first-2
overflow_sub-first-2 c =
    let words : List Text = map string_bytes c.args.words.now in
    let file : Option Text = option_map (λ s. s.now) c.get_str-file.result in
    let texts : List Text = map (λ s. s.now) c.in-Some-Some.logs.now in
    let first = c.in-Some-Some.text.now in
    let has : is_some (parts_of (operands_of c.args.words.now)) ≡ true = search rules in
    let found : option_map part_texts (parts_of (operands_of c.args.words.now)) ≡ Some (file, first ∷ texts) = search rules in
    let within = (placed_first words file first texts has found).within in
    omega (arith, within, length-map c.in-Some-Some.logs.now (λ s. s.now), length-map c.args.words.now string_bytes)

pub file_before-prefs-requires : goal.file_before-prefs-requires
file_before-prefs-requires c some =
    let words : List Text = map string_bytes c.args.words.now in
    let file : Option Text = option_map (λ s. s.now) c.get_str-file.result in
    let texts : List Text = map (λ s. s.now) c.in-Some-Some.logs.now in
    let first = c.in-Some-Some.text.now in
    let has : is_some (parts_of (operands_of c.args.words.now)) ≡ true = search rules in
    let found : option_map part_texts (parts_of (operands_of c.args.words.now)) ≡ Some (file, first ∷ texts) = search rules in
    let named = (placed_first words file first texts has found).named (is_some-map (λ s. s.now) c.get_str-file.result ∙ some) in
    omega (arith, named, length-map c.in-Some-Some.logs.now (λ s. s.now), length-map c.args.words.now string_bytes)

pub returns-clause-ok : goal.returns-clause-ok
returns-clause-ok c =
    let words : List Text = map string_bytes c.args.words.now in
    let file : Option Text = option_map (λ s. s.now) c.get_str-file.result in
    let texts : List Text = map (λ s. s.now) c.in-Some-Some.logs.now in
    let first = c.in-Some-Some.text.now in
    let has : is_some (parts_of (operands_of c.args.words.now)) ≡ true = search rules in
    let found : option_map part_texts (parts_of (operands_of c.args.words.now)) ≡ Some (file, first ∷ texts) = search rules in
    let count = length-map c.in-Some-Some.logs.now (λ s. s.now) in
    let enough : is_log_count (length c.in-Some-Some.logs.now) ≡ true = search rules in
    let placed = placed_first words file first texts has found in
    let all = length-map c.args.words.now string_bytes in
    let at = length c.args.words.now - length c.in-Some-Some.logs.now - 1 in
    let logs : length words - length texts ≡ at + 1 = omega (arith, all, count, placed.within) in
    let before : length words - length texts - 1 ≡ at = omega (arith, logs) in
    first_taken words file first texts placed (ap is_log_count count ∙ enough)
    ∙ (λ i. whole
    ((ap (λ n. option_map (operand_at (n - 1)) file) before ∙ sym c.file_before-prefs.ensures) i)
    ((ap (λ n. operand_at n first) before ∙ sym c.new.ensures) i)
    ((ap (λ n. drop n (numbered 0 words)) logs ∙ sym c.new-2.ensures) i))
