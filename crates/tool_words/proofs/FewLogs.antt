-- A job of words has at most 64 logs, and a number that it gives is that of one of them.
use Rattle.std.proofs.Common.{◌≡◌, ◌∙◌, ◌&&◌, ◌==◌, ◌+◌, ◌<◌, ◌≤◌, Bool, true, false, nat_le, ℕ, List, [], ◌∷◌, length, take, drop, length-drop, Option, None, Some, refl, sym, subst, arith, if◌then◌else◌}
use Rattle.std.specs.Prelude.{decimal, option_and_then}
use Rattle.std.specs.Option.{option_map}
use Rattle.std.specs.Str.{bytes_eq}
use Rattle.std.specs.Str.Parse.{digits_value}
use Rattle.std.proofs.lemmas.Bool.{leb-true}
use Rattle.std.proofs.lemmas.List.{length-take-le}
use Rattle.std.proofs.lemmas.Bool.Decides.{nat_tests}
use Rattle.tool_words.specs.Commands.{commands, verb_in}
use Rattle.tool_words.specs.Jobs.{command_job, is_help, job_of, operands_job, transition_of, drill_of, rebase_of, side_of}
use Rattle.tool_words.specs.Numbers.{number_between}
use Rattle.tool_words.specs.Logs.{Parts, first_and_logs, is_log_count, logs_of, parts_of}
use Rattle.tool_words.specs.Rounds.{are_different, folders_and_logs, round_of}
use Rattle.tool_words.specs.Words.{Operand, Text, numbered, one_operand, plain_of, two_operands, three_operands, all_three_of}
use Rattle.tool_words.specs.declared.commands.Verb.{Verb}
use Rattle.tool_words.specs.declared.commands.Verb.TheVariants as verb
use Rattle.tool_words.specs.declared.job.Side.{Side}
use Rattle.tool_words.specs.declared.job.Job.{Job}
use Rattle.tool_words.specs.declared.job.Job.TheVariants.{Help, Replay, Canon, Conflicts, Merge, Transition, Steer, Record, Seal, Apply, Drill, Sync, Explain, Undo, Catchup, Rebase}
use Rattle.tool_words.specs.LogCounts.{HasFewLogs}

-- each job that there is has few logs
abbrev AllFew : Option Job → Type 0
AllFew None = Unit {0}
AllFew (Some job) = HasFewLogs job

-- each number that there is lies between these
abbrev AllBetween : ℕ → ℕ → Option ℕ → Type 0
AllBetween low high None = Unit {0}
AllBetween low high (Some n) = (low ≤ n) × (n ≤ high)

few_count : (n : ℕ) → is_log_count n ≡ true → n ≤ 64
few_count n e = grind (arith, nat_tests)

some_count : (n : ℕ) → is_log_count n ≡ true → 0 < n
some_count n e = grind (arith, nat_tests)

-- of a job of logs alone
few_only : (job : List Operand → Job) → ((logs : List Operand) → 0 < length logs → length logs ≤ 64 → HasFewLogs (job logs)) → (plain : Option (List Operand))
    → AllFew (option_map job (option_and_then logs_of plain))
few_only job few None = tt
few_only job few (Some logs) = here (is_log_count (length logs)) (some_count (length logs)) (few_count (length logs))
  where
    here : (b : Bool) → (b ≡ true → 0 < length logs) → (b ≡ true → length logs ≤ 64) → AllFew (option_map job (if b then Some logs else None))
    here true g h = few logs (g refl) (h refl)
    here false g h = tt

-- and of one of logs and rules
few_parts : (job : Option Operand → List Operand → Job) → ((prefs : Option Operand) (logs : List Operand) → length logs ≤ 64 → HasFewLogs (job prefs logs)) → (parts : Option Parts)
    → AllFew (option_map (λ (p : Parts). job p.0 p.1) (option_and_then (λ parts. option_map (λ logs. (parts.0, logs)) (logs_of parts.1)) parts))
few_parts job few None = tt
few_parts job few (Some parts) = here (is_log_count (length parts.1)) (few_count (length parts.1))
  where
    here : (b : Bool) → (b ≡ true → length parts.1 ≤ 64) → AllFew (option_map (λ (p : Parts). job p.0 p.1) (option_map (λ logs. (parts.0, logs)) (if b then Some parts.1 else None)))
    here true h = few parts.0 parts.1 (h refl)
    here false h = tt

few_first : (plain : Option (List Operand)) → AllFew (option_map (λ (pair : Operand × List Operand). Steer pair.0 pair.1) (option_and_then first_and_logs plain))
few_first None = tt
few_first (Some []) = tt
few_first (Some (first ∷ rest)) = here (is_log_count (length rest)) (few_count (length rest))
  where
    here : (b : Bool) → (b ≡ true → length rest ≤ 64) → AllFew (option_map (λ (pair : Operand × List Operand). Steer pair.0 pair.1) (option_map (λ logs. (first, logs)) (if b then Some rest else None)))
    here true h = h refl
    here false h = tt

-- a transition's number is that of one of its logs
few_number : (parts : Option Parts) → AllFew (option_and_then transition_of (option_and_then (λ (p : Parts). option_map (λ (pair : Operand × List Operand). (p.0, pair.0, pair.1)) (first_and_logs p.1)) parts))
few_number None = tt
few_number (Some (prefs, [])) = tt
few_number (Some (prefs, first ∷ rest)) = here (is_log_count (length rest)) (few_count (length rest))
  where
    between : (n : ℕ) (a : Bool) → (a && (nat_le 1 n && nat_le n (length rest))) ≡ true → (0 < n) × (n ≤ length rest)
    between n a e = (grind (arith, nat_tests), grind (arith, nat_tests))

    one_of : length rest ≤ 64 → (n : ℕ) (b : Bool) → (b ≡ true → (0 < n) × (n ≤ length rest)) → AllFew (option_map (λ k. Transition k prefs rest) (if b then Some n else None))
    one_of few n true h = (h refl, few)
    one_of few n false h = tt

    here : (b : Bool) → (b ≡ true → length rest ≤ 64) → AllFew (option_and_then transition_of (option_map (λ (pair : Operand × List Operand). (prefs, pair.0, pair.1)) (option_map (λ logs. (first, logs)) (if b then Some rest else None))))
    here true h =
        let n = digits_value 10 first.text in
        one_of (h refl) n (bytes_eq first.text (decimal n) && (nat_le 1 n && nat_le n (length rest))) (between n (bytes_eq first.text (decimal n)))
    here false h = tt

-- a rebase has the recorded work, and at least one set and at most 63
few_rebase : (parts : Option Parts) → AllFew (option_and_then rebase_of (option_and_then (λ (p : Parts). option_map (λ (pair : Operand × List Operand). (p.0, pair.0, pair.1)) (first_and_logs p.1)) parts))
few_rebase None = tt
few_rebase (Some (prefs, [])) = tt
few_rebase (Some (prefs, side ∷ [])) = tt
few_rebase (Some (prefs, side ∷ work ∷ [])) = tt
few_rebase (Some (prefs, side ∷ work ∷ set ∷ sets)) = here (is_log_count (length (work ∷ set ∷ sets))) (few_count (length (work ∷ set ∷ sets)))
  where
    on_side : length (work ∷ set ∷ sets) ≤ 64 → (found : Option Side) → AllFew (option_map (λ s. Rebase s prefs work (set ∷ sets)) found)
    on_side few None = tt
    on_side few (Some s) = (omega arith, omega (arith, few))

    here : (b : Bool) → (b ≡ true → length (work ∷ set ∷ sets) ≤ 64)
        → AllFew (option_and_then rebase_of (option_map (λ (pair : Operand × List Operand). (prefs, pair.0, pair.1)) (option_map (λ logs. (side, logs)) (if b then Some (work ∷ set ∷ sets) else None))))
    here true h = on_side (h refl) (side_of side.text)
    here false h = tt

-- of a job that has no logs by number
few_pair : (job : Operand → Operand → Job) → ((a b : Operand) → HasFewLogs (job a b)) → (o : Option (Operand × Operand))
    → AllFew (option_map (λ (pair : Operand × Operand). job pair.0 pair.1) o)
few_pair job few None = tt
few_pair job few (Some pair) = few pair.0 pair.1

-- a number between two bounds is between them
between_bounds : (low high : ℕ) (text : Text) → AllBetween low high (number_between low high text)
between_bounds low high text =
    let n = digits_value 10 text in
    here n (bytes_eq text (decimal n)) (nat_le low n) refl (nat_le n high) refl
  where
    here : (n : ℕ) (a b : Bool) → nat_le low n ≡ b → (c : Bool) → nat_le n high ≡ c → AllBetween low high (if a && (b && c) then Some n else None)
    here n true true eb true ec = (leb-true low n eb, leb-true n high ec)
    here n true true eb false ec = tt
    here n true false eb c ec = tt
    here n false b eb c ec = tt

-- a round has a log for each of its folders
few_round : (parts : Option Parts)
    → AllFew (option_map (λ (found : Option Operand × List Operand × List Operand). Sync found.0 found.1 found.2)
    (option_and_then (λ (p : Parts). option_map (λ (pair : List Operand × List Operand). (p.0, pair.0, pair.1)) (round_of p.1)) parts))
few_round None = tt
few_round (Some (prefs, [])) = tt
few_round (Some (prefs, number ∷ operands)) = by_number (number_between 1 64 number.text) (between_bounds 1 64 number.text)
  where
    both_counts : (k : ℕ) (b : Bool) → ((length operands == k + k) && b) ≡ true → length operands ≡ k + k
    both_counts k b e = grind (arith, nat_tests)

    here : (k : ℕ) → 1 ≤ k → k ≤ 64 → (b : Bool) → (b ≡ true → length operands ≡ k + k)
        → AllFew (option_map (λ (found : Option Operand × List Operand × List Operand). Sync found.0 found.1 found.2)
        (option_map (λ (pair : List Operand × List Operand). (prefs, pair.0, pair.1)) (if b then Some (take k operands, drop k operands) else None)))
    here k low high false count = tt
    here k low high true count =
        let all = count refl in
        let folders : length (take k operands) ≡ k = length-take-le k operands (omega (arith, all)) in
        let logs : length (drop k operands) ≡ k = length-drop k operands ∙ omega (arith, all) in
        (omega (arith, low, logs), omega (arith, high, logs), folders ∙ sym logs)

    by_number : (number : Option ℕ) → AllBetween 1 64 number
        → AllFew (option_map (λ (found : Option Operand × List Operand × List Operand). Sync found.0 found.1 found.2)
        (option_map (λ (pair : List Operand × List Operand). (prefs, pair.0, pair.1)) (option_and_then (λ k. folders_and_logs k operands) number)))
    by_number None bounds = tt
    by_number (Some k) bounds =
        here k bounds.0 bounds.1 ((length operands == k + k) && are_different (take k operands)) (both_counts k (are_different (take k operands)))

few_drill : (o : Option (Operand × Operand × Operand)) → AllFew (option_and_then drill_of o)
few_drill None = tt
few_drill (Some (seed, logs, steps)) =
    here (number_between 0 2147483647 seed.text) (number_between 1 64 logs.text) (number_between 0 16384 steps.text)
    (between_bounds 0 2147483647 seed.text) (between_bounds 1 64 logs.text) (between_bounds 0 16384 steps.text)
  where
    here : (s l k : Option ℕ) → AllBetween 0 2147483647 s → AllBetween 1 64 l → AllBetween 0 16384 k
        → AllFew (option_map (λ (numbers : ℕ × ℕ × ℕ). Drill numbers.0 numbers.1 numbers.2) (all_three_of s l k))
    here (Some s) (Some l) (Some k) a b c = (a.1, (omega (arith, b.0), b.1), c.1)
    here None l k a b c = tt
    here (Some s) None k a b c = tt
    here (Some s) (Some l) None a b c = tt

few_one : (job : Operand → Job) → ((a : Operand) → HasFewLogs (job a)) → (o : Option Operand) → AllFew (option_map job o)
few_one job few None = tt
few_one job few (Some a) = few a

few_verb : (v : Verb) (operands : List Operand) → AllFew (operands_job v operands)
few_verb verb.Replay operands = few_pair Replay (λ a b. tt) (two_operands operands)
few_verb verb.Canon operands = few_one Canon (λ a. tt) (one_operand operands)
few_verb verb.Conflicts operands = few_only Conflicts (λ logs some few. few) (plain_of operands)
few_verb verb.Merge operands = few_parts Merge (λ prefs logs few. few) (parts_of operands)
few_verb verb.Transition operands = few_number (parts_of operands)
few_verb verb.Steer operands = few_first (plain_of operands)
few_verb verb.Record operands = few_pair Record (λ a b. tt) (two_operands operands)
few_verb verb.Seal operands = few_pair Seal (λ a b. tt) (two_operands operands)
few_verb verb.Drill operands = few_drill (three_operands operands)
few_verb verb.Sync operands = few_round (parts_of operands)
few_verb verb.Explain operands = few_parts Explain (λ prefs logs few. few) (parts_of operands)
few_verb verb.Undo operands = few_one Undo (λ a. tt) (one_operand operands)
few_verb verb.Catchup operands = few_only Catchup (λ sets some few. (some, few)) (plain_of operands)
few_verb verb.Rebase operands = few_rebase (parts_of operands)
few_verb verb.Apply operands = few_pair Apply (λ a b. tt) (two_operands operands)

few_found : (v : Option Verb) (operands : List Operand) → AllFew (option_and_then (λ w. operands_job w operands) v)
few_found None operands = tt
few_found (Some v) operands = few_verb v operands

few_command : (line : List Operand) → AllFew (command_job line)
few_command [] = tt
few_command (name ∷ operands) = few_found (verb_in commands name.text) operands

few_words : (b : Bool) (line : List Operand) → AllFew (if b then Some Help else command_job line)
few_words true line = tt
few_words false line = few_command line

pub few_logs : (words : List Text) (job : Job) → job_of words ≡ Some job → HasFewLogs job
few_logs words job e = subst AllFew e (few_words (is_help words) (numbered 0 words))
