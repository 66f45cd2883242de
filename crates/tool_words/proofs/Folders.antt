-- The words that name folders.
use Rattle.std.proofs.Common.{◌≡◌, ◌∙◌, ◌&&◌, ◌==◌, Bool, true, false, true≢false, refl, sym, ap, List, ℕ, [], ◌∷◌, Option, Some, None, cond, length, string_bytes, arith}
use Rattle.std.specs.Option.{option_map, option_and_then}
use Rattle.std.specs.List.{list_all}
use Rattle.std.specs.declared.alloc.Global.{Global}
use Rattle.std.specs.declared.string.String.{String}
use Rattle.std.proofs.lemmas.Bool.Decides.{nat_tests}
use Rattle.std.proofs.lemmas.List.{length-map}
use Rattle.clap.proofs.WalkLemmas.{both}
use Rattle.tool_words.specs.Words.{Text, Operand, all_three_of, first_place, is_plain, numbered, one_operand, operand_at, pair_of, places_of, texts_of, three_operands, two_operands}
use Rattle.tool_words.specs.Logs.{first_logs, only_logs, prefs_first_logs, prefs_logs}
use Rattle.tool_words.specs.Rounds.{prefs_round}
use Rattle.tool_words.specs.Numbers.{number_between}
use Rattle.tool_words.specs.Commands.{commands, verb_in}
use Rattle.tool_words.specs.Jobs.{command_job, drill_of, is_help, operands_job, rebase_of, side_of, transition_of}
use Rattle.tool_words.specs.Trees.{asked_folders, folder_places, has_folder, is_round, job_folders, round_folders, takes_folder}
use Rattle.tool_words.specs.declared.commands.Verb.{Verb}
use Rattle.tool_words.specs.declared.commands.Verb.TheVariants as verb
use Rattle.tool_words.specs.declared.job.Job.{Job}
use Rattle.tool_words.specs.declared.job.Job.TheVariants.{Help, Replay, Canon, Conflicts, Merge, Transition, Steer, Record, Seal, Apply, Drill, Sync, Explain, Undo, Catchup, Rebase}
use Rattle.tool_words.proofs.Places.{numbered_plain}

-- a job that names no folder, made of what there is
no_folder : {A : Type 0} (job : A → Job) → ((a : A) → job_folders (job a) ≡ []) → (o : Option A) → asked_folders (option_map job o) ≡ []
no_folder job is None = refl
no_folder job is (Some a) = is a

of_transition : (found : Option (Option Operand × Operand × List Operand)) → asked_folders (option_and_then transition_of found) ≡ []
of_transition None = refl
of_transition (Some (prefs, number, logs)) = no_folder (λ n. Transition n prefs logs) (λ n. refl) (number_between 1 (length logs) number.text)

of_drill : (found : Option (Operand × Operand × Operand)) → asked_folders (option_and_then drill_of found) ≡ []
of_drill None = refl
of_drill (Some (seed, logs, steps)) =
    no_folder (λ (numbers : ℕ × ℕ × ℕ). Drill numbers.0 numbers.1 numbers.2) (λ numbers. refl)
    (all_three_of (number_between 0 2147483647 seed.text) (number_between 1 64 logs.text) (number_between 0 16384 steps.text))

of_rebase : (found : Option (Option Operand × Operand × List Operand)) → asked_folders (option_and_then rebase_of found) ≡ []
of_rebase None = refl
of_rebase (Some (prefs, side, [])) = refl
of_rebase (Some (prefs, side, work ∷ [])) = refl
of_rebase (Some (prefs, side, work ∷ (set ∷ sets))) = no_folder (λ s. Rebase s prefs work (set ∷ sets)) (λ s. refl) (side_of side.text)

-- the job of a command's operands
abbrev job_for : Option Verb → List Operand → Option Job
job_for verb operands = option_and_then (λ v. operands_job v operands) verb

-- a command that takes no folder names none
takes_none : (v : Option Verb) (operands : List Operand) → takes_folder v ≡ false → is_round v ≡ false → asked_folders (job_for v operands) ≡ []
takes_none None operands e r = refl
takes_none (Some verb.Replay) operands e r = no_folder (λ (pair : Operand × Operand). Replay pair.0 pair.1) (λ pair. refl) (two_operands operands)
takes_none (Some verb.Canon) operands e r = no_folder Canon (λ log. refl) (one_operand operands)
takes_none (Some verb.Conflicts) operands e r = no_folder Conflicts (λ logs. refl) (only_logs operands)
takes_none (Some verb.Merge) operands e r = no_folder (λ (parts : Option Operand × List Operand). Merge parts.0 parts.1) (λ parts. refl) (prefs_logs operands)
takes_none (Some verb.Transition) operands e r = of_transition (prefs_first_logs operands)
takes_none (Some verb.Steer) operands e r = no_folder (λ (pair : Operand × List Operand). Steer pair.0 pair.1) (λ pair. refl) (first_logs operands)
takes_none (Some verb.Record) operands e r = absurd (true≢false e)
takes_none (Some verb.Seal) operands e r = absurd (true≢false e)
takes_none (Some verb.Apply) operands e r = absurd (true≢false e)
takes_none (Some verb.Drill) operands e r = of_drill (three_operands operands)
takes_none (Some verb.Sync) operands e r = absurd (true≢false r)
takes_none (Some verb.Explain) operands e r = no_folder (λ (parts : Option Operand × List Operand). Explain parts.0 parts.1) (λ parts. refl) (prefs_logs operands)
takes_none (Some verb.Undo) operands e r = no_folder Undo (λ set. refl) (one_operand operands)
takes_none (Some verb.Catchup) operands e r = no_folder Catchup (λ sets. refl) (only_logs operands)
takes_none (Some verb.Rebase) operands e r = of_rebase (prefs_first_logs operands)

-- and one that takes one names the first of its two operands
abbrev first_in : Option (Operand × Operand) → List Operand
first_in None = []
first_in (Some pair) = pair.0 ∷ []

first_folder : (job : Operand → Operand → Job) → ((a b : Operand) → job_folders (job a b) ≡ a ∷ []) → (o : Option (Operand × Operand))
    → asked_folders (option_map (λ (pair : Operand × Operand). job pair.0 pair.1) o) ≡ first_in o
first_folder job is None = refl
first_folder job is (Some pair) = is pair.0 pair.1

takes_first : (v : Option Verb) (operands : List Operand) → takes_folder v ≡ true → asked_folders (job_for v operands) ≡ first_in (two_operands operands)
takes_first None operands e = absurd (true≢false (sym e))
takes_first (Some verb.Replay) operands e = absurd (true≢false (sym e))
takes_first (Some verb.Canon) operands e = absurd (true≢false (sym e))
takes_first (Some verb.Conflicts) operands e = absurd (true≢false (sym e))
takes_first (Some verb.Merge) operands e = absurd (true≢false (sym e))
takes_first (Some verb.Transition) operands e = absurd (true≢false (sym e))
takes_first (Some verb.Steer) operands e = absurd (true≢false (sym e))
takes_first (Some verb.Record) operands e = first_folder Record (λ a b. refl) (two_operands operands)
takes_first (Some verb.Seal) operands e = first_folder Seal (λ a b. refl) (two_operands operands)
takes_first (Some verb.Apply) operands e = first_folder Apply (λ a b. refl) (two_operands operands)
takes_first (Some verb.Drill) operands e = absurd (true≢false (sym e))
takes_first (Some verb.Sync) operands e = absurd (true≢false (sym e))
takes_first (Some verb.Explain) operands e = absurd (true≢false (sym e))
takes_first (Some verb.Undo) operands e = absurd (true≢false (sym e))
takes_first (Some verb.Catchup) operands e = absurd (true≢false (sym e))
takes_first (Some verb.Rebase) operands e = absurd (true≢false (sym e))

-- a round names the folders of its words
abbrev listed : Option (List Operand) → List Operand
listed None = []
listed (Some operands) = operands

abbrev folders_found : List Operand → Option (List Operand)
folders_found operands = option_map (λ (found : Option Operand × List Operand × List Operand). found.1) (prefs_round operands)

round_asked : (v : Option Verb) (operands : List Operand) → is_round v ≡ true → asked_folders (job_for v operands) ≡ listed (folders_found operands)
round_asked None operands e = absurd (true≢false (sym e))
round_asked (Some verb.Replay) operands e = absurd (true≢false (sym e))
round_asked (Some verb.Canon) operands e = absurd (true≢false (sym e))
round_asked (Some verb.Conflicts) operands e = absurd (true≢false (sym e))
round_asked (Some verb.Merge) operands e = absurd (true≢false (sym e))
round_asked (Some verb.Transition) operands e = absurd (true≢false (sym e))
round_asked (Some verb.Steer) operands e = absurd (true≢false (sym e))
round_asked (Some verb.Record) operands e = absurd (true≢false (sym e))
round_asked (Some verb.Seal) operands e = absurd (true≢false (sym e))
round_asked (Some verb.Apply) operands e = absurd (true≢false (sym e))
round_asked (Some verb.Drill) operands e = absurd (true≢false (sym e))
round_asked (Some verb.Sync) operands e = by (prefs_round operands)
  where
    by : (o : Option (Option Operand × List Operand × List Operand))
        → asked_folders (option_map (λ (found : Option Operand × List Operand × List Operand). Sync found.0 found.1 found.2) o)
        ≡ listed (option_map (λ (found : Option Operand × List Operand × List Operand). found.1) o)
    by None = refl
    by (Some found) = refl
round_asked (Some verb.Explain) operands e = absurd (true≢false (sym e))
round_asked (Some verb.Undo) operands e = absurd (true≢false (sym e))
round_asked (Some verb.Catchup) operands e = absurd (true≢false (sym e))
round_asked (Some verb.Rebase) operands e = absurd (true≢false (sym e))

-- a command that takes no folder, and is no round, names none
not_taken : (v : Option Verb) (operands : List Operand) → takes_folder v ≡ false → cond (is_round v) (folders_found operands) None ≡ None
    → asked_folders (job_for v operands) ≡ []
not_taken v operands e none = by (is_round v) refl none
  where
    by : (b : Bool) → is_round v ≡ b → cond b (folders_found operands) None ≡ None → asked_folders (job_for v operands) ≡ []
    by true r none = round_asked v operands r ∙ ap listed none
    by false r none = takes_none v operands e r

-- and a round those of its words
round_taken : (v : Option Verb) (operands folders : List Operand) → cond (is_round v) (folders_found operands) None ≡ Some folders
    → asked_folders (job_for v operands) ≡ folders
round_taken v operands folders some = by (is_round v) refl some
  where
    by : (b : Bool) → is_round v ≡ b → cond b (folders_found operands) None ≡ Some folders → asked_folders (job_for v operands) ≡ folders
    by true r some = round_asked v operands r ∙ ap listed some
    by false r some = absurd (cc)

-- of operands that are not all plain there is no pair, and of two that are the pair
no_pair : (words : List Text) → list_all is_plain words ≡ false → two_operands (numbered 1 words) ≡ None
no_pair words e = rw (numbered_plain 1 words ∙ e) refl

plain_pair : (a b : Text) → list_all is_plain (a ∷ b ∷ []) ≡ true → first_in (two_operands (numbered 1 (a ∷ b ∷ []))) ≡ operand_at 1 a ∷ []
plain_pair a b e = rw (numbered_plain 1 (a ∷ b ∷ []) ∙ e) refl

-- nor is there one of fewer or more than two
not_two : (words : List Text) → length words == 2 ≡ false → two_operands (numbered 1 words) ≡ None
not_two words other = by (list_all (λ operand. is_plain operand.text) (numbered 1 words))
  where
    pair : (words : List Text) → length words == 2 ≡ false → pair_of (numbered 1 words) ≡ None
    pair [] other = refl
    pair (a ∷ []) other = refl
    pair (a ∷ b ∷ []) other = absurd (true≢false other)
    pair (a ∷ b ∷ c ∷ rest) other = refl

    by : (b : Bool) → option_and_then pair_of (cond b (Some (numbered 1 words)) None) ≡ None
    by true = pair words other
    by false = refl

-- a name and its operands
abbrev folders_of : Text → List Text → List Operand
folders_of name operands = asked_folders (job_for (verb_in commands name) (numbered 1 operands))

two_is : (n : ℕ) → n == 2 ≡ true → n ≡ 2
two_is n e = grind (arith, nat_tests)

with_folder : (name : Text) (operands : List Text) → length operands == 2 ≡ true → takes_folder (verb_in commands name) ≡ true → list_all is_plain operands ≡ true
    → places_of (folders_of name operands) ≡ 1 ∷ []
with_folder name [] two takes all = absurd (true≢false (sym two))
with_folder name (a ∷ []) two takes all = absurd (true≢false (sym two))
with_folder name (a ∷ b ∷ []) two takes all = ap places_of (takes_first (verb_in commands name) (numbered 1 (a ∷ b ∷ [])) takes ∙ plain_pair a b all)
with_folder name (a ∷ b ∷ c ∷ rest) two takes all = absurd (omega (arith, two_is _ two))

without_folder : (name : Text) (operands : List Text) → ((length operands == 2) && (takes_folder (verb_in commands name) && list_all is_plain operands)) ≡ false
    → cond (is_round (verb_in commands name)) (folders_found (numbered 1 operands)) None ≡ None → folders_of name operands ≡ []
without_folder name operands none no_round = by (length operands == 2) refl (takes_folder (verb_in commands name)) refl none
  where
    by : (two : Bool) → length operands == 2 ≡ two → (takes : Bool) → takes_folder (verb_in commands name) ≡ takes → (two && (takes && list_all is_plain operands)) ≡ false
        → folders_of name operands ≡ []
    by two e false f none = not_taken (verb_in commands name) (numbered 1 operands) f no_round
    by false e true f none = takes_first (verb_in commands name) (numbered 1 operands) f ∙ ap first_in (not_two operands e)
    by true e true f none = takes_first (verb_in commands name) (numbered 1 operands) f ∙ ap first_in (no_pair operands none)

-- ---- words

-- the help names none
abbrev places_if : Bool → List Operand → List ℕ
places_if help folders = places_of (cond help [] folders)

by_help : (words : List Text) → folder_places words ≡ places_if (is_help words) (asked_folders (command_job (numbered 0 words)))
by_help words = by (is_help words)
  where
    by : (b : Bool) → places_of (asked_folders (cond b (Some Help) (command_job (numbered 0 words)))) ≡ places_if b (asked_folders (command_job (numbered 0 words)))
    by true = refl
    by false = refl

pub folder_here : (words : List Text) → has_folder words ≡ true → folder_places words ≡ 1 ∷ []
folder_here [] e = absurd (true≢false (sym e))
folder_here (name ∷ []) e = absurd (true≢false (sym e))
folder_here (name ∷ (a ∷ rest)) e =
    let p = both _ _ e in
    let q = both _ _ p.1 in
    with_folder name (a ∷ rest) p.0 q.0 q.1

pub no_folder_here : (words : List Text) → has_folder words ≡ false → round_folders words ≡ None → folder_places words ≡ []
no_folder_here [] e none = refl
no_folder_here (name ∷ operands) e none = by_help (name ∷ operands) ∙ by (is_help (name ∷ operands))
  where
    by : (b : Bool) → places_if b (folders_of name operands) ≡ []
    by true = refl
    by false = ap places_of (without_folder name operands e none)

-- a round names its folders, as many as there are, from the place of the first on
round_here : (words : List Text) (folders : List Operand) → round_folders words ≡ Some folders → folder_places words ≡ places_of folders
round_here [] folders e = absurd (cc)
round_here (name ∷ []) folders e = by (is_round (verb_in commands name)) e
  where
    by : (b : Bool) → cond b (folders_found []) None ≡ Some folders → folder_places (name ∷ []) ≡ places_of folders
    by true e = absurd (cc)
    by false e = absurd (cc)
round_here (name ∷ (a ∷ rest)) folders e = ap places_of (round_taken (verb_in commands name) (numbered 1 (a ∷ rest)) folders e)

pub round_start : (words : List Text) (folders : List Operand) → round_folders words ≡ Some folders
    → first_place (folder_places words) ≡ first_place (places_of folders)
round_start words folders e = ap first_place (round_here words folders e)

pub round_count : (words : List Text) (folders : List Operand) → round_folders words ≡ Some folders → length (folder_places words) ≡ length folders
round_count words folders e = ap length (round_here words folders e) ∙ length-map folders (λ operand. operand.place)

-- there are as many texts as words
pub texts_length : (words : List (String Global)) → length (texts_of words) ≡ length words
texts_length words = length-map words string_bytes
