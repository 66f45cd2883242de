-- What the files of a job hold is what is read of them.
use Rattle.std.proofs.Common.{◌≡◌, ◌≤◌, ◌-◌, ◌&&◌, Bool, true, false, nat_lt, ℕ, List, [], ◌∷◌, map, length, Option, None, Some, Result, Ok, Err, inl, inr, refl, sym, ap, subst, ◌∙◌, arith, if◌then◌else◌}
use Rattle.std.specs.List.{AllByRecursion, sum_by}
use Rattle.std.proofs.lemmas.Bool.Decides.{nat_tests}
use Rattle.std.proofs.lemmas.List.Sums.{sum_by-cons}
use Rattle.sync_path.specs.Paths.{parts}
use Rattle.sync_command.specs.Changes.{Change, is_change}
use Rattle.sync_command.specs.declared.commands.Row.{Row}
use Rattle.sync_command.specs.declared.values.Version.{Version}
use Rattle.sync_port.specs.Ports.{Names}
use Rattle.canon_set.specs.Logs.{all_change}
use Rattle.log_text.specs.Logs.{IsCommand, IsLog, log_of}
use Rattle.log_text.specs.Snapshots.{IsSnapshot, snapshot_text}
use Rattle.log_text.specs.declared.faults.TextFault.{TextFault}
use Rattle.log_text.proofs.CallerLemmas.{log_back, log_is, one_log, snapshot_back}
use Rattle.refluent.specs.CommonTrees.{AllChange}
use Rattle.pref_list.specs.Prefs.{prefs_of, prefs_text}
use Rattle.pref_list.specs.declared.rules.Rule.{Rule}
use Rattle.pref_list.proofs.CallerLemmas.{one_prefs, prefs_back, prefs_is}
use Rattle.tool_words.specs.Words.{Operand}
use Rattle.treesync.specs.Files.{IsFile, IsSnapshot as IsSnapshotFrom, file_answer, text_answer}
use Rattle.treesync.specs.Headline.{HoldTexts, HoldsRules, Recorded, all_commands, latest_version, text_of}
use Rattle.treesync.specs.Joining.{IsLogs, commands_of, joint_version, left_after}
use Rattle.treesync.specs.Logs.{IsLog as IsLogFrom, ReadLog, later_version, log_answer}
use Rattle.treesync.specs.Preferences.{ArePreferences}
use Rattle.treesync.specs.declared.input.TheConstants.{FILE_LIMIT}
use Rattle.treesync.specs.declared.logs.Allowance.{Allowance}
use Rattle.treesync.specs.declared.preferences.TheConstants.{PREFS_LIMIT}
use Rattle.treesync.specs.declared.refusal.Refusal.{Refusal}
use Rattle.treesync.specs.declared.refusal.Refusal.TheVariants.{Found}
use Rattle.treesync.specs.declared.refusal.Finding.TheVariants.{TooLarge}
use Rattle.treesync.proofs.FileReading.{if_not_less}

-- ---- results

module _ {A : Type 0} where
  pub ok_is : {a b : A} → ◌≡◌ {A = Result A Refusal} (Ok a) (Ok b) → a ≡ b
  ok_is e = cc

  pub ok_no_err : {a : A} {r : Refusal} → ◌≡◌ {A = Result A Refusal} (Ok a) (Err r) → ⊥
  ok_no_err e = cc

-- ---- logs as they are read

abbrev pub read_of : Recorded → ReadLog
read_of log = record { size = length (text_of log); version = log.version; commands = log.commands }

abbrev pub reads_of : List Recorded → List ReadLog
reads_of logs = map read_of logs

pub same_commands : (logs : List Recorded) → commands_of (reads_of logs) ≡ all_commands logs
same_commands [] = refl
same_commands (log ∷ logs) = ap (λ l. log.commands ∷ l) (same_commands logs)

pub same_version : (logs : List Recorded) → joint_version (reads_of logs) ≡ latest_version logs
same_version [] = refl
same_version (log ∷ logs) = ap (later_version log.version) (same_version logs)

-- ---- what the files hold is read

module _ (held : Names) where
  pub file_read : (limit word : ℕ) (name bytes : List ℕ) → held name ≡ Some bytes → length bytes ≤ limit → IsFile limit word name held false (Ok bytes)
  file_read limit word name bytes e low = sym (ap (file_answer limit word) e ∙ if_not_less limit (length bytes) _ _ low)

  pub log_read : (left : Allowance) (file : Operand) (log : Recorded) → held file.text ≡ Some (text_of log) → IsLog log.version log.commands → length (text_of log) ≤ left.bytes → length log.commands ≤ left.commands →
      IsLogFrom left file.place file.text held false (Ok (read_of log))
  log_read left file log e is bytes commands =
      inr (
        text_of log,
        file_read left.bytes file.place file.text (text_of log) e bytes,
        sym (ap (log_answer left.commands file.place (length (text_of log))) (log_back log.version log.commands is) ∙ if_not_less left.commands (length log.commands) _ _ commands),
      )

  pub logs_read : (files : List Operand) (logs : List Recorded) (left : Allowance) → HoldTexts held files logs → sum_by (λ log. length (text_of log)) logs ≤ left.bytes → sum_by (λ log. length log.commands) logs ≤ left.commands →
      IsLogs left files held false (Ok (reads_of logs))
  logs_read [] [] left h bytes commands = refl
  logs_read [] (log ∷ logs) left h bytes commands = absurd h
  logs_read (file ∷ files) [] left h bytes commands = absurd h
  logs_read (file ∷ files) (log ∷ logs) left h bytes commands =
      let b = sum_by-cons (λ (l : Recorded). length (text_of l)) log logs in
      let k = sum_by-cons (λ (l : Recorded). length l.commands) log logs in
      let space : length (text_of log) ≤ left.bytes = omega (arith, b, bytes) in
      let more : sum_by (λ (l : Recorded). length (text_of l)) logs ≤ left.bytes - length (text_of log) = omega (arith, b, bytes) in
      let few : length log.commands ≤ left.commands = omega (arith, k, commands) in
      let rest : sum_by (λ (l : Recorded). length l.commands) logs ≤ left.commands - length log.commands = omega (arith, k, commands) in
      inr (read_of log, log_read left file log h.0 h.1 space few, inr (reads_of logs, logs_read files logs (left_after left (read_of log)) h.2 more rest, refl))

  pub preferences_read : (prefs : Option Operand) (rules : List Rule) → HoldsRules held prefs rules → ArePreferences prefs held false (Ok rules)
  preferences_read None rules h = ap Ok h
  preferences_read (Some file) rules h =
      inr (prefs_text rules, file_read PREFS_LIMIT file.place file.text (prefs_text rules) h.0 h.2, sym (ap (text_answer file.place) (prefs_back rules h.1)))

  pub snapshot_read : (file : Operand) (version : Version) (rows : List Row) → held file.text ≡ Some (snapshot_text version rows) → IsSnapshot version rows → length (snapshot_text version rows) ≤ FILE_LIMIT →
      IsSnapshotFrom file.place file.text held false (Ok (version, rows))
  snapshot_read file version rows e is low =
      inr (snapshot_text version rows, file_read FILE_LIMIT file.place file.text (snapshot_text version rows) e low, sym (ap (text_answer file.place) (snapshot_back version rows is)))

  -- ---- and what is read is held

  held_file : (limit word : ℕ) (name bytes : List ℕ) → IsFile limit word name held false (Ok bytes) → (held name ≡ Some bytes) × (length bytes ≤ limit)
  held_file limit word name bytes e = by (held name) refl e
    where
      within : (o : List ℕ) (b : Bool) → nat_lt limit (length o) ≡ b → ◌≡◌ {A = Result (List ℕ) Refusal} (Ok bytes) (if b then Err (Found (TooLarge word)) else Ok o) → (o ≡ bytes) × (length o ≤ limit)
      within o true t e = absurd (ok_no_err e)
      within o false t e = (sym (ok_is e), grind (arith, nat_tests))

      by : (o : Option (List ℕ)) → held name ≡ o → Ok bytes ≡ file_answer limit word o → (held name ≡ Some bytes) × (length bytes ≤ limit)
      by None h e = absurd (ok_no_err e)
      by (Some o) h e = let w = within o (nat_lt limit (length o)) refl e in (h ∙ ap Some w.0, subst (λ b. length b ≤ limit) w.0 w.1)

  -- a log of a file
  pub record HeldLog (left : Allowance) (file : Operand) (read : ReadLog) : Type 0 where
    pub log : Recorded
    pub same : read ≡ read_of log
    pub text : held file.text ≡ Some (text_of log)
    pub is : IsLog log.version log.commands
    pub bytes : length (text_of log) ≤ left.bytes
    pub commands : length log.commands ≤ left.commands

  pub held_log : (left : Allowance) (file : Operand) (read : ReadLog) → IsLogFrom left file.place file.text held false (Ok read) → HeldLog left file read
  held_log left file read (inl h) = absurd (ok_no_err h.2)
  held_log left file read (inr h) = by (log_of (parts 10 h.0)) refl h.2
    where
      file_is : (held file.text ≡ Some h.0) × (length h.0 ≤ left.bytes)
      file_is = held_file left.bytes file.place file.text h.0 h.1

      within : (version : Version) (cs : List Change) (b : Bool) → nat_lt left.commands (length cs) ≡ b →
          ◌≡◌ {A = Result ReadLog Refusal} (Ok read) (if b then Err (Found (TooLarge file.place)) else Ok (record { size = length h.0; version = version; commands = cs })) →
          (read ≡ record { size = length h.0; version = version; commands = cs }) × (length cs ≤ left.commands)
      within version cs true t e = absurd (ok_no_err e)
      within version cs false t e = (ok_is e, grind (arith, nat_tests))

      by : (o : Result (Version × List Change) TextFault) → log_of (parts 10 h.0) ≡ o → Ok read ≡ log_answer left.commands file.place (length h.0) o → HeldLog left file read
      by (Err fault) l e = absurd (ok_no_err e)
      by (Ok (version, cs)) l e =
          let w = within version cs (nat_lt left.commands (length cs)) refl e in
          let t = log_is h.0 version cs l in
          record {
            log = record { version = version; commands = cs };
            same = w.0 ∙ (λ i. record { size = length (t.0 i); version = version; commands = cs });
            text = file_is.0 ∙ ap Some t.0;
            is = t.1;
            bytes = subst (λ b. length b ≤ left.bytes) t.0 file_is.1;
            commands = w.1;
          }

  -- the logs of files
  pub record HeldLogs (left : Allowance) (files : List Operand) (reads : List ReadLog) : Type 0 where
    pub logs : List Recorded
    pub same : reads ≡ reads_of logs
    pub texts : HoldTexts held files logs
    pub bytes : sum_by (λ log. length (text_of log)) logs ≤ left.bytes
    pub commands : sum_by (λ log. length log.commands) logs ≤ left.commands

  pub held_logs : (left : Allowance) (files : List Operand) (reads : List ReadLog) → IsLogs left files held false (Ok reads) → HeldLogs left files reads
  held_logs left [] reads h = record { logs = []; same = ok_is h; texts = tt; bytes = omega arith; commands = omega arith }
  held_logs left (file ∷ files) reads (inl h) = absurd (ok_no_err h.2)
  held_logs left (file ∷ files) reads (inr (read, first, inl h)) = absurd (ok_no_err h.2)
  held_logs left (file ∷ files) reads (inr (read, first, inr (more, rest, e))) =
      let one = held_log left file read first in
      let others = held_logs (left_after left read) files more rest in
      let size : read.size ≡ length (text_of one.log) = ap (λ r. r.size) one.same in
      let count : length read.commands ≡ length one.log.commands = ap (λ r. length r.commands) one.same in
      let b = sum_by-cons (λ (l : Recorded). length (text_of l)) one.log others.logs in
      let k = sum_by-cons (λ (l : Recorded). length l.commands) one.log others.logs in
      record {
        logs = one.log ∷ others.logs;
        same = ok_is e ∙ (λ i. one.same i ∷ others.same i);
        texts = (one.text, one.is, others.texts);
        bytes = omega (arith, b, size, one.bytes, others.bytes);
        commands = omega (arith, k, count, one.commands, others.commands);
      }

  pub held_preferences : (prefs : Option Operand) (rules : List Rule) → ArePreferences prefs held false (Ok rules) → HoldsRules held prefs rules
  held_preferences None rules h = ok_is h
  held_preferences (Some file) rules (inl h) = absurd (ok_no_err h.2)
  held_preferences (Some file) rules (inr h) = by (prefs_of (parts 10 h.0)) refl h.2
    where
      file_is : (held file.text ≡ Some h.0) × (length h.0 ≤ PREFS_LIMIT)
      file_is = held_file PREFS_LIMIT file.place file.text h.0 h.1

      by : (o : Result (List Rule) TextFault) → prefs_of (parts 10 h.0) ≡ o → Ok rules ≡ text_answer file.place o → HoldsRules held (Some file) rules
      by (Err fault) l e = absurd (ok_no_err e)
      by (Ok read) l e =
          let t = prefs_is h.0 rules (l ∙ ap Ok (sym (ok_is e))) in
          (file_is.0 ∙ ap Some t.0, t.1, subst (λ b. length b ≤ PREFS_LIMIT) t.0 file_is.1)

  -- ---- and it is one

  some_is : {A : Type 0} {a b : A} {o : Option A} → o ≡ Some a → o ≡ Some b → a ≡ b
  some_is e f = cc

  pub one_recorded : (files : List Operand) (a b : List Recorded) → HoldTexts held files a → HoldTexts held files b → a ≡ b
  one_recorded [] [] [] h g = refl
  one_recorded [] [] (y ∷ ys) h g = absurd g
  one_recorded [] (x ∷ xs) b h g = absurd h
  one_recorded (file ∷ files) [] b h g = absurd h
  one_recorded (file ∷ files) (x ∷ xs) [] h g = absurd g
  one_recorded (file ∷ files) (x ∷ xs) (y ∷ ys) h g =
      let same = one_log x.version y.version x.commands y.commands h.1 g.1 (some_is h.0 g.0) in
      let rest = one_recorded files xs ys h.2 g.2 in
      λ i. record { version = same.0 i; commands = same.1 i } ∷ rest i

  pub one_rules : (prefs : Option Operand) (a b : List Rule) → HoldsRules held prefs a → HoldsRules held prefs b → a ≡ b
  one_rules None a b h g = h ∙ sym g
  one_rules (Some file) a b h g = one_prefs a b h.1 g.1 (some_is h.0 g.0)

-- ---- logs that are held

change_each : (version : Version) (cs : List Change) → AllByRecursion (IsCommand version) cs → all_change cs ≡ true
change_each version [] h = refl
change_each version (c ∷ cs) h = step (is_change c) (all_change cs) h.0.differ (change_each version cs h.1)
  where
    step : (a b : Bool) → a ≡ true → b ≡ true → (a && b) ≡ true
    step true b e f = f
    step false b e f = absurd (cc)

pub all_change_held : (held : Names) (files : List Operand) (logs : List Recorded) → HoldTexts held files logs → AllChange (all_commands logs)
all_change_held held [] [] h log i = absurd i
all_change_held held [] (x ∷ xs) h log i = absurd h
all_change_held held (file ∷ files) [] h log i = absurd h
all_change_held held (file ∷ files) (x ∷ xs) h log (inl e) = ap all_change e ∙ change_each x.version x.commands h.1.each
all_change_held held (file ∷ files) (x ∷ xs) h log (inr i) = all_change_held held files xs h.2 log i
