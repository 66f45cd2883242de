use Rattle.std.proofs.Common.{◌≡◌, ◌-◌, ◌∙◌, true, false, sym, ap, ap₂, List, Option, Some, is_some, map, option_map, drop, length, string_bytes, arith, rules}
use Rattle.std.proofs.lemmas.List.{length-map}
use Rattle.tool_words.specs.Logs.{is_log_count, part_texts, parts_of}
use Rattle.tool_words.specs.Words.{Text, numbered, operand_at, operands_of}
use Rattle.tool_words.proofs.LogPlaces.{placed_at, logs_taken, logs_refused, is_some-map, some_parts}
use Rattle.tool_words.proofs.logs.prefs_and_logs.Goals as goal

pub returns-then-not-is_number_of_logs-clause-refused : goal.returns-then-not-is_number_of_logs-clause-refused
returns-then-not-is_number_of_logs-clause-refused c refused =
    let words : List Text = map string_bytes c.args.words.now in
    let file : Option Text = option_map (λ s. s.now) c.get_str-file.result in
    let texts : List Text = map (λ s. s.now) c.in-Some.logs.now in
    let has : is_some (parts_of (operands_of c.args.words.now)) ≡ true = search rules in
    let found : option_map part_texts (parts_of (operands_of c.args.words.now)) ≡ Some (file, texts) = search rules in
    let many : is_log_count (length c.in-Some.logs.now) ≡ false = search rules in
    logs_refused words file texts (placed_at words file texts has found) (ap is_log_count (length-map c.in-Some.logs.now (λ s. s.now)) ∙ many)

pub overflow_sub-first : goal.overflow_sub-first
overflow_sub-first c =
    let words : List Text = map string_bytes c.args.words.now in
    let file : Option Text = option_map (λ s. s.now) c.get_str-file.result in
    let texts : List Text = map (λ s. s.now) c.in-Some.logs.now in
    let has : is_some (parts_of (operands_of c.args.words.now)) ≡ true = search rules in
    let found : option_map part_texts (parts_of (operands_of c.args.words.now)) ≡ Some (file, texts) = search rules in
    let placed = placed_at words file texts has found in
    omega (arith, placed.within, length-map c.in-Some.logs.now (λ s. s.now), length-map c.args.words.now string_bytes)

pub file_before-prefs-requires : goal.file_before-prefs-requires
file_before-prefs-requires c some =
    let words : List Text = map string_bytes c.args.words.now in
    let file : Option Text = option_map (λ s. s.now) c.get_str-file.result in
    let texts : List Text = map (λ s. s.now) c.in-Some.logs.now in
    let has : is_some (parts_of (operands_of c.args.words.now)) ≡ true = search rules in
    let found : option_map part_texts (parts_of (operands_of c.args.words.now)) ≡ Some (file, texts) = search rules in
    let named = (placed_at words file texts has found).named (is_some-map (λ s. s.now) c.get_str-file.result ∙ some) in
    omega (arith, named, length-map c.in-Some.logs.now (λ s. s.now), length-map c.args.words.now string_bytes)

pub returns-clause-ok : goal.returns-clause-ok
returns-clause-ok c =
    let words : List Text = map string_bytes c.args.words.now in
    let file : Option Text = option_map (λ s. s.now) c.get_str-file.result in
    let texts : List Text = map (λ s. s.now) c.in-Some.logs.now in
    let has : is_some (parts_of (operands_of c.args.words.now)) ≡ true = search rules in
    let found : option_map part_texts (parts_of (operands_of c.args.words.now)) ≡ Some (file, texts) = search rules in
    let count = length-map c.in-Some.logs.now (λ s. s.now) in
    let enough : is_log_count (length c.in-Some.logs.now) ≡ true = search rules in
    let first : length words - length texts ≡ length c.args.words.now - length c.in-Some.logs.now = ap₂ (λ m n. m - n) (length-map c.args.words.now string_bytes) count in
    logs_taken words file texts (placed_at words file texts has found) (ap is_log_count count ∙ enough)
    ∙ ap₂ some_parts
    (ap (λ n. option_map (operand_at (n - 1)) file) first ∙ sym c.file_before-prefs.ensures)
    (ap (λ n. drop n (numbered 0 words)) first ∙ sym c.new.ensures)
