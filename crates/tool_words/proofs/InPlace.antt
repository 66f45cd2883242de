-- Each operand of a job has the text of the word at its place.
use Rattle.std.proofs.Common.{◌≡◌, ◌∙◌, Bool, true, false, refl, sym, ap, subst, ℕ, zero, suc, List, [], ◌∷◌, ◌++◌, Option, Some, None, cond, is_some, length, take, drop, take-append-drop, ◌&&◌, ◌==◌, ◌+◌, true≢false, option_map, option_and_then}
use Rattle.std.specs.Option.{option_to_list}
use Rattle.std.specs.List.{list_all}
use Rattle.clap.proofs.WalkLemmas.{both}
use Rattle.tool_words.specs.Words.{Text, Operand, operand_at, numbered, is_plain, plain_of, only_of, pair_of, one_operand, two_operands, three_operands, all_three_of}
use Rattle.tool_words.specs.Logs.{Parts, is_log_count, logs_of, first_and_logs, only_logs, parts_of, prefs_logs}
use Rattle.tool_words.specs.Rounds.{are_different, folders_and_logs, round_of}
use Rattle.tool_words.specs.Commands.{commands, verb_in}
use Rattle.tool_words.specs.Jobs.{is_help, job_of, command_job, operands_job, transition_of, drill_of, rebase_of, side_of}
use Rattle.tool_words.specs.Numbers.{number_between}
use Rattle.tool_words.specs.Operands.{AreInPlace, job_operands, operands_in, operand_text, text_at, word_at}
use Rattle.tool_words.specs.declared.commands.Verb.{Verb}
use Rattle.tool_words.specs.declared.commands.Verb.TheVariants as verb
use Rattle.tool_words.specs.declared.job.Side.{Side}
use Rattle.tool_words.specs.declared.job.Job.{Job}
use Rattle.tool_words.specs.declared.job.Job.TheVariants.{Help, Replay, Canon, Conflicts, Merge, Transition, Steer, Record, Seal, Apply, Drill, Sync, Explain, Undo, Catchup, Rebase}
use Rattle.tool_words.proofs.Places.{numbered_plain}
use Rattle.tool_words.proofs.Walks.{is_not}
use Rattle.tool_words.proofs.PrefsOption.{IsPlainFile, Opening, Parted, equals, parted, placed, plain, skipped, spelled, word}

-- ---- plain words

-- the text of a plain word is the word
plain_text : (w : Text) → is_plain w ≡ true → operand_text w ≡ w
plain_text [] e = refl
plain_text (x ∷ xs) e = rw (is_not _ e) refl

-- what stands at the place of the first of the words from one on
first_from : (all : List Text) (place : ℕ) (w : Text) (rest : List Text) → drop place all ≡ w ∷ rest → (word_at all place ≡ w) × (drop (suc place) all ≡ rest)
first_from [] zero w rest e = absurd (cc)
first_from (v ∷ all) zero w rest e = (ap (λ l. word_at l 0) e, ap (drop 1) e)
first_from [] (suc place) w rest e = absurd (cc)
first_from (v ∷ all) (suc place) w rest e = first_from all place w rest e

-- plain words from one on are in place
from_place : (all : List Text) (place : ℕ) (words : List Text) → drop place all ≡ words → list_all is_plain words ≡ true → AreInPlace all (numbered place words)
from_place all place [] is each = tt
from_place all place (w ∷ words) is each =
    let p = both _ _ each in
    let f = first_from all place w words is in
    (ap operand_text f.0 ∙ plain_text w p.0, from_place all (suc place) words f.1 p.1)

-- what holds of plain operands and of none
of_plain : (words : List Text) (P : Option (List Operand) → Type 0) → (list_all is_plain words ≡ true → P (Some (numbered 1 words))) → P None → P (plain_of (numbered 1 words))
of_plain words P some none = by (list_all (λ operand. is_plain operand.text) (numbered 1 words)) refl
  where
    by : (b : Bool) → list_all (λ operand. is_plain operand.text) (numbered 1 words) ≡ b → P (cond b (Some (numbered 1 words)) None)
    by true is = some (sym (numbered_plain 1 words) ∙ is)
    by false is = none

-- what holds of logs and of none
of_logs : (operands : List Operand) (P : Option (List Operand) → Type 0) → P (Some operands) → P None → P (logs_of operands)
of_logs operands P some none = by (is_log_count (length operands))
  where
    by : (b : Bool) → P (cond b (Some operands) None)
    by true = some
    by false = none

-- ---- the option

none_is : {A : Type 0} (o : Option A) → is_some o ≡ false → o ≡ None
none_is None e = refl
none_is (Some a) e = absurd (true≢false e)

-- what holds of the parts of words and of none
of_parts : (words : List Text) (P : Option Parts → Type 0) → ((p : Parted words) → P (Some (placed p.opening, numbered (suc (skipped p.opening)) p.rest))) → P None
    → P (parts_of (numbered 1 words))
of_parts words P some none = by (is_some (parts_of (numbered 1 words))) refl
  where
    by : (b : Bool) → is_some (parts_of (numbered 1 words)) ≡ b → P (parts_of (numbered 1 words))
    by true e = let p = parted words e in subst P (sym p.is) (some p)
    by false e = subst P (sym (none_is _ e)) none

-- the operands that follow the option
rest_in_place : (name : Text) (o : Opening) (rest words : List Text) → spelled o rest ≡ words → list_all is_plain rest ≡ true
    → AreInPlace (name ∷ words) (numbered (suc (skipped o)) rest)
rest_in_place name plain rest words is all = from_place (name ∷ words) 1 rest (sym is) all
rest_in_place name (equals file) rest words is all = from_place (name ∷ words) 2 rest (ap (drop 1) (sym is)) all
rest_in_place name (word file) rest words is all = from_place (name ∷ words) 3 rest (ap (drop 2) (sym is)) all

-- and its file before them
file_in_place : (name : Text) (o : Opening) (rest words : List Text) (operands : List Operand) → spelled o rest ≡ words → IsPlainFile o
    → AreInPlace (name ∷ words) operands → AreInPlace (name ∷ words) (option_to_list (placed o) ++ operands)
file_in_place name plain rest words operands is h after = after
file_in_place name (equals file) rest words operands is h after = (ap (λ w. text_at (name ∷ w) 1) (sym is), after)
file_in_place name (word file) rest words operands is h after = (ap (λ w. text_at (name ∷ w) 2) (sym is) ∙ plain_text file h, after)

-- ---- each command

-- a job of two operands, which names both
two_in_place : (job : Operand → Operand → Job) → ((a b : Operand) → job_operands (job a b) ≡ a ∷ b ∷ []) → (name : Text) (words : List Text)
    → AreInPlace (name ∷ words) (operands_in (option_map (λ pair. job pair.0 pair.1) (two_operands (numbered 1 words))))
two_in_place job is name words =
    of_plain words (λ them. AreInPlace (name ∷ words) (operands_in (option_map (λ pair. job pair.0 pair.1) (option_and_then pair_of them)))) (pair words) tt
  where
    pair : (words : List Text) → list_all is_plain words ≡ true
        → AreInPlace (name ∷ words) (operands_in (option_map (λ pair. job pair.0 pair.1) (pair_of (numbered 1 words))))
    pair [] all = tt
    pair (a ∷ []) all = tt
    pair (a ∷ b ∷ []) all =
        subst (AreInPlace (name ∷ a ∷ b ∷ [])) (sym (is (operand_at 1 a) (operand_at 2 b))) (from_place (name ∷ a ∷ b ∷ []) 1 (a ∷ b ∷ []) refl all)
    pair (a ∷ b ∷ c ∷ rest) all = tt

-- a job of one operand, which it names
one_in_place : (job : Operand → Job) → ((a : Operand) → job_operands (job a) ≡ a ∷ []) → (name : Text) (words : List Text)
    → AreInPlace (name ∷ words) (operands_in (option_map job (one_operand (numbered 1 words))))
one_in_place job is name words =
    of_plain words (λ them. AreInPlace (name ∷ words) (operands_in (option_map job (option_and_then only_of them)))) (only words) tt
  where
    only : (words : List Text) → list_all is_plain words ≡ true → AreInPlace (name ∷ words) (operands_in (option_map job (only_of (numbered 1 words))))
    only [] all = tt
    only (a ∷ []) all = subst (AreInPlace (name ∷ a ∷ [])) (sym (is (operand_at 1 a))) (from_place (name ∷ a ∷ []) 1 (a ∷ []) refl all)
    only (a ∷ b ∷ rest) all = tt

-- a job of logs alone
logs_in_place : (job : List Operand → Job) → ((logs : List Operand) → job_operands (job logs) ≡ logs) → (name : Text) (words : List Text)
    → AreInPlace (name ∷ words) (operands_in (option_map job (only_logs (numbered 1 words))))
logs_in_place job is name words =
    of_plain words (λ them. AreInPlace (name ∷ words) (operands_in (option_map job (option_and_then logs_of them))))
    (λ all. of_logs (numbered 1 words) (λ logs. AreInPlace (name ∷ words) (operands_in (option_map job logs)))
    (subst (AreInPlace (name ∷ words)) (sym (is (numbered 1 words))) (from_place (name ∷ words) 1 words refl all)) tt) tt

-- a job of logs, and of a file of rules where there is one
prefs_in_place : (job : Option Operand → List Operand → Job) → ((prefs : Option Operand) (logs : List Operand) → job_operands (job prefs logs) ≡ option_to_list prefs ++ logs)
    → (name : Text) (words : List Text)
    → AreInPlace (name ∷ words) (operands_in (option_map (λ (p : Parts). job p.0 p.1) (prefs_logs (numbered 1 words))))
prefs_in_place job is name words =
    of_parts words
    (λ parts. AreInPlace (name ∷ words) (operands_in (option_map (λ (p : Parts). job p.0 p.1) (option_and_then (λ (p : Parts). option_map (λ logs. (p.0, logs)) (logs_of p.1)) parts))))
    (λ p. of_logs (numbered (suc (skipped p.opening)) p.rest)
    (λ logs. AreInPlace (name ∷ words) (operands_in (option_map (λ (p : Parts). job p.0 p.1) (option_map (λ logs. (placed p.opening, logs)) logs))))
    (subst (AreInPlace (name ∷ words)) (sym (is (placed p.opening) (numbered (suc (skipped p.opening)) p.rest)))
    (file_in_place name p.opening p.rest words _ p.spelt p.file (rest_in_place name p.opening p.rest words p.spelt p.all))) tt) tt

transition_in_place : (name : Text) (words : List Text) → AreInPlace (name ∷ words) (operands_in (operands_job verb.Transition (numbered 1 words)))
transition_in_place name words =
    of_parts words
    (λ parts. AreInPlace (name ∷ words)
    (operands_in (option_and_then transition_of (option_and_then (λ (p : Parts). option_map (λ pair. (p.0, pair.0, pair.1)) (first_and_logs p.1)) parts))))
    (λ p. by p.opening p.rest (rest_in_place name p.opening p.rest words p.spelt p.all) p.spelt p.file) tt
  where
    by : (o : Opening) (rest : List Text) → AreInPlace (name ∷ words) (numbered (suc (skipped o)) rest) → spelled o rest ≡ words → IsPlainFile o
        → AreInPlace (name ∷ words)
        (operands_in (option_and_then transition_of (option_map (λ pair. (placed o, pair.0, pair.1)) (first_and_logs (numbered (suc (skipped o)) rest)))))
    by o [] all is h = tt
    by o (a ∷ rest) all is h =
        of_logs (numbered (suc (suc (skipped o))) rest)
        (λ logs. AreInPlace (name ∷ words) (operands_in (option_and_then transition_of
        (option_map (λ (pair : Operand × List Operand). (placed o, pair.0, pair.1)) (option_map (λ logs. (operand_at (suc (skipped o)) a, logs)) logs)))))
        (of_number (number_between 1 (length (numbered (suc (suc (skipped o))) rest)) a)) tt
      where
        of_number : (n : Option ℕ)
            → AreInPlace (name ∷ words) (operands_in (option_map (λ n. Transition n (placed o) (numbered (suc (suc (skipped o))) rest)) n))
        of_number None = tt
        of_number (Some n) = file_in_place name o (a ∷ rest) words _ is h all.1

rebase_in_place : (name : Text) (words : List Text) → AreInPlace (name ∷ words) (operands_in (operands_job verb.Rebase (numbered 1 words)))
rebase_in_place name words =
    of_parts words
    (λ parts. AreInPlace (name ∷ words)
    (operands_in (option_and_then rebase_of (option_and_then (λ (p : Parts). option_map (λ pair. (p.0, pair.0, pair.1)) (first_and_logs p.1)) parts))))
    (λ p. by p.opening p.rest (rest_in_place name p.opening p.rest words p.spelt p.all) p.spelt p.file) tt
  where
    by : (o : Opening) (rest : List Text) → AreInPlace (name ∷ words) (numbered (suc (skipped o)) rest) → spelled o rest ≡ words → IsPlainFile o
        → AreInPlace (name ∷ words)
        (operands_in (option_and_then rebase_of (option_map (λ pair. (placed o, pair.0, pair.1)) (first_and_logs (numbered (suc (skipped o)) rest)))))
    by o [] all is h = tt
    by o (a ∷ []) all is h = tt
    by o (a ∷ w ∷ []) all is h = tt
    by o (a ∷ w ∷ s ∷ rest) all is h =
        of_logs (numbered (suc (suc (skipped o))) (w ∷ s ∷ rest))
        (λ logs. AreInPlace (name ∷ words) (operands_in (option_and_then rebase_of
        (option_map (λ (pair : Operand × List Operand). (placed o, pair.0, pair.1)) (option_map (λ logs. (operand_at (suc (skipped o)) a, logs)) logs)))))
        (of_side (side_of a)) tt
      where
        of_side : (found : Option Side) → AreInPlace (name ∷ words)
            (operands_in (option_map (λ n. Rebase n (placed o) (operand_at (suc (suc (skipped o))) w) (numbered (suc (suc (suc (skipped o)))) (s ∷ rest))) found))
        of_side None = tt
        of_side (Some n) = file_in_place name o (a ∷ w ∷ s ∷ rest) words _ is h all.1

sync_in_place : (name : Text) (words : List Text) → AreInPlace (name ∷ words) (operands_in (operands_job verb.Sync (numbered 1 words)))
sync_in_place name words =
    of_parts words
    (λ parts. AreInPlace (name ∷ words)
    (operands_in (option_map (λ (found : Option Operand × List Operand × List Operand). Sync found.0 found.1 found.2)
    (option_and_then (λ (p : Parts). option_map (λ (pair : List Operand × List Operand). (p.0, pair.0, pair.1)) (round_of p.1)) parts))))
    (λ p. by p.opening p.rest (rest_in_place name p.opening p.rest words p.spelt p.all) p.spelt p.file) tt
  where
    by : (o : Opening) (rest : List Text) → AreInPlace (name ∷ words) (numbered (suc (skipped o)) rest) → spelled o rest ≡ words → IsPlainFile o
        → AreInPlace (name ∷ words)
        (operands_in (option_map (λ (found : Option Operand × List Operand × List Operand). Sync found.0 found.1 found.2)
        (option_map (λ (pair : List Operand × List Operand). (placed o, pair.0, pair.1)) (round_of (numbered (suc (skipped o)) rest)))))
    by o [] all is h = tt
    by o (a ∷ rest) all is h = of_number (number_between 1 64 a)
      where
        operands : List Operand
        operands = numbered (suc (suc (skipped o))) rest

        cut : (k : ℕ) (b : Bool) → AreInPlace (name ∷ words)
            (operands_in (option_map (λ (found : Option Operand × List Operand × List Operand). Sync found.0 found.1 found.2)
            (option_map (λ (pair : List Operand × List Operand). (placed o, pair.0, pair.1)) (cond b (Some (take k operands, drop k operands)) None))))
        cut k false = tt
        cut k true =
            file_in_place name o (a ∷ rest) words _ is h (subst (AreInPlace (name ∷ words)) (sym (take-append-drop k operands)) all.1)

        of_number : (n : Option ℕ) → AreInPlace (name ∷ words)
            (operands_in (option_map (λ (found : Option Operand × List Operand × List Operand). Sync found.0 found.1 found.2)
            (option_map (λ (pair : List Operand × List Operand). (placed o, pair.0, pair.1)) (option_and_then (λ k. folders_and_logs k operands) n))))
        of_number None = tt
        of_number (Some k) = cut k ((length operands == k + k) && are_different (take k operands))

steer_in_place : (name : Text) (words : List Text) → AreInPlace (name ∷ words) (operands_in (operands_job verb.Steer (numbered 1 words)))
steer_in_place name words =
    of_plain words (λ them. AreInPlace (name ∷ words) (operands_in (option_map (λ pair. Steer pair.0 pair.1) (option_and_then first_and_logs them)))) (first words) tt
  where
    first : (words : List Text) → list_all is_plain words ≡ true
        → AreInPlace (name ∷ words) (operands_in (option_map (λ pair. Steer pair.0 pair.1) (first_and_logs (numbered 1 words))))
    first [] all = tt
    first (a ∷ rest) all =
        of_logs (numbered 2 rest) (λ logs. AreInPlace (name ∷ a ∷ rest) (operands_in (option_map (λ (pair : Operand × List Operand). Steer pair.0 pair.1) (option_map (λ logs. (operand_at 1 a, logs)) logs))))
        (from_place (name ∷ a ∷ rest) 1 (a ∷ rest) refl all) tt

-- a drill names no file
drill_in_place : (words : List Text) (triple : Option (Operand × Operand × Operand)) → AreInPlace words (operands_in (option_and_then drill_of triple))
drill_in_place words None = tt
drill_in_place words (Some (seed, logs, steps)) =
    by (all_three_of (number_between 0 2147483647 seed.text) (number_between 1 64 logs.text) (number_between 0 16384 steps.text))
  where
    by : (numbers : Option (ℕ × ℕ × ℕ)) → AreInPlace words (operands_in (option_map (λ (numbers : ℕ × ℕ × ℕ). Drill numbers.0 numbers.1 numbers.2) numbers))
    by None = tt
    by (Some numbers) = tt

in_place : (verb : Option Verb) (name : Text) (words : List Text)
    → AreInPlace (name ∷ words) (operands_in (option_and_then (λ verb. operands_job verb (numbered 1 words)) verb))
in_place None name words = tt
in_place (Some verb.Replay) name words = two_in_place Replay (λ a b. refl) name words
in_place (Some verb.Canon) name words = one_in_place Canon (λ log. refl) name words
in_place (Some verb.Conflicts) name words = logs_in_place Conflicts (λ logs. refl) name words
in_place (Some verb.Merge) name words = prefs_in_place Merge (λ prefs logs. refl) name words
in_place (Some verb.Transition) name words = transition_in_place name words
in_place (Some verb.Steer) name words = steer_in_place name words
in_place (Some verb.Record) name words = two_in_place Record (λ a b. refl) name words
in_place (Some verb.Seal) name words = two_in_place Seal (λ a b. refl) name words
in_place (Some verb.Drill) name words = drill_in_place (name ∷ words) (three_operands (numbered 1 words))
in_place (Some verb.Sync) name words = sync_in_place name words
in_place (Some verb.Explain) name words = prefs_in_place Explain (λ prefs logs. refl) name words
in_place (Some verb.Undo) name words = one_in_place Undo (λ set. refl) name words
in_place (Some verb.Catchup) name words = logs_in_place Catchup (λ sets. refl) name words
in_place (Some verb.Rebase) name words = rebase_in_place name words
in_place (Some verb.Apply) name words = two_in_place Apply (λ a b. refl) name words

command_in_place : (words : List Text) → AreInPlace words (operands_in (command_job (numbered 0 words)))
command_in_place [] = tt
command_in_place (name ∷ words) = in_place (verb_in commands name) name words

pub job_in_place : (words : List Text) → AreInPlace words (operands_in (job_of words))
job_in_place words = by (is_help words)
  where
    by : (b : Bool) → AreInPlace words (operands_in (cond b (Some Help) (command_job (numbered 0 words))))
    by true = tt
    by false = command_in_place words
