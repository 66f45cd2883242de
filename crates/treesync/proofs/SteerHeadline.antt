-- What a `steer` prints follows from what a run owes.
use Rattle.std.proofs.Common.{◌≡◌, ◌≤◌, false, ℕ, List, [], ◌∷◌, length, Some, Ok, inl, inr, refl, sym, ap, subst, ◌∙◌, arith}
use Rattle.std.proofs.lemmas.List.Sums.{sum_by-cons}
use Rattle.sync_port.specs.Ports.{Names}
use Rattle.canon_set.specs.Logs.{IsTaken, net}
use Rattle.canon_set.specs.Sets.{canonical}
use Rattle.pref_list.specs.Prefs.{prefs_text}
use Rattle.log_text.specs.Logs.{IsLog}
use Rattle.refluent.specs.CommonTrees.{HasCommonTree}
use Rattle.merge_core.specs.Steering.{steering_rules}
use Rattle.tool_words.specs.Words.{Operand, Text}
use Rattle.tool_words.specs.declared.job.Job.TheVariants.{Steer}
use Rattle.treesync.specs.Headline.{Gains, HoldLogs, IsMergerOf, PrintsRules, Recorded, all_commands, text_of}
use Rattle.treesync.specs.Jobs.{Outside, Ran}
use Rattle.treesync.specs.Joining.{commands_of}
use Rattle.treesync.specs.Logs.{ReadLog}
use Rattle.treesync.specs.Steer.{IsSteer}
use Rattle.treesync.specs.declared.input.TheConstants.{FILE_LIMIT}
use Rattle.treesync.specs.declared.logs.TheConstants.{FULL_ALLOWANCE, MAX_COMMANDS}
use Rattle.treesync.proofs.HeadlineLemmas.{found_text, joined_read}
use Rattle.treesync.proofs.HeldLogs.{held_log, held_logs, log_read, logs_read, ok_no_err, read_of, reads_of, same_commands}

-- ---- one log

pub one_log : (held : Names) (file : Operand) (log : Recorded) → held file.text ≡ Some (text_of log) → IsLog log.version log.commands → length (text_of log) ≤ FILE_LIMIT → length log.commands ≤ MAX_COMMANDS →
    HoldLogs held (file ∷ []) (log ∷ [])
one_log held file log text is bytes commands = record {
  texts = (text, is, tt);
  bytes = let b = sum_by-cons (λ (l : Recorded). length (text_of l)) log [] in omega (arith, b, bytes);
  commands = let k = sum_by-cons (λ (l : Recorded). length l.commands) log [] in omega (arith, k, commands);
}

-- ---- what a printed text is

-- what an answer with a text says
record AreRules (held : Names) (file : Operand) (files : List Operand) (text : List ℕ) : Type 0 where
  pub set : Recorded
  pub logs : List Recorded
  pub holds : HoldLogs held (file ∷ []) (set ∷ [])
  pub hold : HoldLogs held files logs
  pub common : HasCommonTree (all_commands logs)
  pub is : IsMergerOf (all_commands logs) (canonical (net set.commands))
  pub rules : text ≡ prefs_text (steering_rules (all_commands logs) (canonical (net set.commands)))

rules_of : (held : Names) (file : Operand) (files : List Operand) (text : List ℕ) → IsSteer file files held false (Ok text) → AreRules held file files text
rules_of held file files text (inl h) = absurd (ok_no_err h.2)
rules_of held file files text (inr (read, l, inl h)) = absurd (ok_no_err h.2)
rules_of held file files text (inr (read, l, inr (reads, ls, inl n))) = absurd (ok_no_err n.2)
rules_of held file files text (inr (read, l, inr (reads, ls, inr (set, n, inl j)))) = absurd (ok_no_err j.2)
rules_of held file files text (inr (read, l, inr (reads, ls, inr (set, n, inr (joined, inl j, s))))) = absurd (ok_no_err j.2)
rules_of held file files text (inr (read, l, inr (reads, ls, inr (set, n, inr (joined, inr j, s))))) =
    let found = held_logs held FULL_ALLOWANCE files reads ls in
    let one = held_log held FULL_ALLOWANCE file read l in
    let commands : commands_of joined ≡ all_commands found.logs = ap commands_of (j.2.0 ∙ j.1.0 ∙ found.same) ∙ same_commands found.logs in
    let set_is : set ≡ canonical (net one.log.commands) = n.1 ∙ ap (λ (r : ReadLog). canonical (net r.commands)) one.same in
    record {
      set = one.log;
      logs = found.logs;
      holds = one_log held file one.log one.text one.is one.bytes one.commands;
      hold = record { texts = found.texts; bytes = found.bytes; commands = found.commands };
      common = subst HasCommonTree (ap commands_of (j.1.0 ∙ found.same) ∙ same_commands found.logs) j.2.1;
      is = subst (λ l. IsMergerOf l (canonical (net one.log.commands))) commands (subst (IsMergerOf (commands_of joined)) set_is s.0);
      rules = s.1 ∙ ap (λ c. prefs_text (steering_rules (commands_of joined) c)) set_is ∙ ap (λ l. prefs_text (steering_rules l (canonical (net one.log.commands)))) commands;
    }

-- ---- the right answer

pub right_rules : (held : Names) (file : Operand) (files : List Operand) (set : Recorded) (logs : List Recorded) → HoldLogs held (file ∷ []) (set ∷ []) → HoldLogs held files logs → IsTaken set.commands → HasCommonTree (all_commands logs) →
    IsMergerOf (all_commands logs) (canonical (net set.commands)) → IsSteer file files held false (Ok (prefs_text (steering_rules (commands_of (reads_of logs)) (canonical (net set.commands)))))
right_rules held file files set logs holds h taken common is =
    inr (
      read_of set,
      log_read held FULL_ALLOWANCE file set holds.texts.0 holds.texts.1 bytes commands,
      inr (
        reads_of logs,
        logs_read held files logs FULL_ALLOWANCE h.texts h.bytes h.commands,
        inr (canonical (net set.commands), (taken, refl), inr (reads_of logs, joined_read files logs common, (merger_read, refl))),
      ),
    )
  where
    bytes : length (text_of set) ≤ FILE_LIMIT
    bytes = let b = sum_by-cons (λ (l : Recorded). length (text_of l)) set [] in let w = holds.bytes in omega (arith, b, w)

    commands : length set.commands ≤ MAX_COMMANDS
    commands = let k = sum_by-cons (λ (l : Recorded). length l.commands) set [] in let w = holds.commands in omega (arith, k, w)

    merger_read : IsMergerOf (commands_of (reads_of logs)) (canonical (net set.commands))
    merger_read = subst (λ l. IsMergerOf l (canonical (net set.commands))) (sym (same_commands logs)) is

-- ---- the answer of a run

module _ (words : List Text) (before now : Outside) (status : ℕ) (ran : Ran words before now status) where
  pub prints_rules : PrintsRules words before now status
  prints_rules file files m e known z =
      let found = found_text words before now status ran (Steer file files) (IsSteer file files) m refl e known z in
      let p = rules_of m.held file files found.text found.right in
      record {
        set = p.set;
        logs = p.logs;
        holds = p.holds;
        hold = p.hold;
        common = p.common;
        is = p.is;
        gains = subst (λ text. Gains text before.out now.out) p.rules found.gains;
      }
