-- What `undo`, `catchup`, `rebase` and `explain` print follows from what a run owes.
use Rattle.std.proofs.Common.{◌≡◌, true, false, ℕ, List, [], ◌∷◌, Option, Ok, inl, inr, refl, sym, ap, subst, ◌∙◌, arith}
use mathlib.Core.Path.{fun_ext}
use Rattle.sync_command.specs.Changes.{Change}
use Rattle.sync_command.specs.Maps.{IsTreeMap, Store, at, stored}
use Rattle.sync_command.specs.Trees.{Fits, Takes, after, new_or}
use Rattle.sync_command.proofs.CallerLemmas.{same_fits}
use Rattle.sync_port.specs.Ports.{Names}
use Rattle.canon_set.specs.Logs.{IsTaken, all_change, net}
use Rattle.canon_set.specs.Sets.{canonical}
use Rattle.canon_set.proofs.CallerLemmas.{command_at-canonical, net_law, one_each-canonical}
use Rattle.log_text.specs.Logs.{log_text}
use Rattle.refluent.specs.CommonTrees.{HasCommonTree, IsAmong, IsCommonTree, least_common_tree}
use Rattle.refluent.specs.Drawn.{drawn_commands}
use Rattle.refluent.specs.Joints.{Joined, StandsForAll, net_sets}
use Rattle.refluent.specs.Sets.{is_in}
use Rattle.refluent.proofs.CallerLemmas.{is_in-canonical}
use Rattle.merge_core.specs.FirstMergers.{IsFirstMerger}
use Rattle.pref_list.specs.Ranking.{ranking}
use Rattle.pref_list.specs.declared.rules.Rule.{Rule}
use Rattle.transition.specs.Transitions.{transition}
use Rattle.transition.proofs.CallerLemmas.{one_each-transition}
use Rattle.rounds.specs.Compositions.{chain_list, composition, inverse_set, undoing}
use Rattle.rounds.specs.Rebasing.{rebase_logs}
use Rattle.rounds.proofs.CallerLemmas.{composition_law, net_canonical, on_least, rebase_change, rebase_common, rounds_law, stopped_law, undo_law, work_law}
use Rattle.tool_words.specs.Words.{Operand, Text}
use Rattle.tool_words.specs.declared.job.Job.TheVariants.{Catchup, Explain, Rebase, Undo}
use Rattle.tool_words.specs.declared.job.Side.{Side}
use Rattle.tool_words.specs.declared.job.Side.TheVariants.{Tree, Next as NextRound}
use Rattle.treesync.specs.Catchup.{IsCatchup, nets_of}
use Rattle.treesync.specs.Explain.{IsExplain, reason_lines}
use Rattle.treesync.specs.Headline.{Gains, HoldLogs, HoldsRules, Recorded, all_commands, latest_version}
use Rattle.treesync.specs.Jobs.{InputsCounted, Outside, Ran, held_tree, inputs_of}
use Rattle.treesync.specs.Joining.{commands_of, joint_version, left_after}
use Rattle.treesync.specs.Logs.{ReadLog, later_version}
use Rattle.treesync.specs.Merge.{IsFirstMergerFor}
use Rattle.treesync.specs.Outputs.{Output, ReasonLines, text_in}
use Rattle.treesync.specs.Preferences.{preference_word}
use Rattle.treesync.specs.Rebase.{IsRebase, IsRebaseOf, as_logs, side_number}
use Rattle.treesync.specs.SetHeadline.{DoesAll, LeadsFromSide, PrintsCatchup, PrintsReasons, PrintsRebase, PrintsUndo, UndoesNothing}
use Rattle.treesync.specs.Transition.{IsTransitionFor}
use Rattle.treesync.specs.Undo.{IsUndo}
use Rattle.treesync.specs.declared.logs.TheConstants.{FULL_ALLOWANCE}
use Rattle.treesync.proofs.HeadlineLemmas.{found_output, found_text, job_answer}
use Rattle.treesync.proofs.HeldLogs.{all_change_held, held_log, held_logs, held_preferences, ok_is, ok_no_err, one_recorded, read_of, reads_of, same_commands, same_version}
use Rattle.treesync.proofs.Rebasing.{later_one}
use Rattle.treesync.proofs.SteerHeadline.{one_log}
use Rattle.treesync.proofs.TransitionHeadline.{leads_to}

-- ---- `undo`

record IsPrintedUndo (held : Names) (file : Operand) (text : List ℕ) : Type 0 where
  log : Recorded
  hold : HoldLogs held (file ∷ []) (log ∷ [])
  taken : IsTaken log.commands
  is : text ≡ log_text log.version (undoing log.commands)

printed_undo : (held : Names) (file : Operand) (text : List ℕ) → IsUndo file.place file.text held false (Ok text) → IsPrintedUndo held file text
printed_undo held file text (inl h) = absurd (ok_no_err h.2)
printed_undo held file text (inr (read, l, inl h)) = absurd (ok_no_err h.2)
printed_undo held file text (inr (read, l, inr (set, s, e))) =
    let found = held_log held FULL_ALLOWANCE file read l in
    record {
      log = found.log;
      hold = one_log held file found.log found.text found.is found.bytes found.commands;
      taken = subst (λ r. IsTaken r.commands) found.same s.0;
      is = ok_is e ∙ ap (λ x. log_text read.version (inverse_set x)) s.1 ∙ ap (λ (r : ReadLog). log_text r.version (undoing r.commands)) found.same;
    }

pub prints_undo : (words : List Text) (before now : Outside) (status : ℕ) → Ran words before now status → PrintsUndo words before now status
prints_undo words before now status ran file m e known z =
    let found = found_text words before now status ran (Undo file) (IsUndo file.place file.text) m refl e known z in
    let p = printed_undo m.held file found.text found.right in
    record {
      log = p.log;
      hold = p.hold;
      taken = p.taken;
      set = undoing p.log.commands;
      back = λ t tree takes. undo_law t tree p.log.commands takes;
      stopped = λ t u tree fits ready same. stopped_law (at t) (at u) tree.tree (canonical (net p.log.commands)) fits ready same;
      gains = subst (λ text. Gains text before.out now.out) p.is found.gains;
    }

-- ---- `catchup`

record IsPrintedCatchup (held : Names) (files : List Operand) (text : List ℕ) : Type 0 where
  logs : List Recorded
  hold : HoldLogs held files logs
  follow : IsTaken (chain_list (net_sets (all_commands logs)))
  is : text ≡ log_text (latest_version logs) (canonical (composition (net_sets (all_commands logs))))

printed_catchup : (held : Names) (files : List Operand) (text : List ℕ) → IsCatchup files held false (Ok text) → IsPrintedCatchup held files text
printed_catchup held files text (inl h) = absurd (ok_no_err h.2)
printed_catchup held files text (inr (reads, l, inl h)) = absurd (ok_no_err h.2)
printed_catchup held files text (inr (reads, l, inr (taken, t, inl h))) = absurd (ok_no_err h.2)
printed_catchup held files text (inr (reads, l, inr (taken, t, inr (set, c, e)))) =
    let found = held_logs held FULL_ALLOWANCE files reads l in
    let same : taken ≡ reads_of found.logs = t.0 ∙ found.same in
    let nets : nets_of taken ≡ net_sets (all_commands found.logs) = ap nets_of same ∙ ap net_sets (same_commands found.logs) in
    record {
      logs = found.logs;
      hold = record { texts = found.texts; bytes = found.bytes; commands = found.commands };
      follow = subst (λ n. IsTaken (chain_list n)) nets c.0;
      is = ok_is e ∙ ap (log_text (joint_version taken)) c.1 ∙ ap (λ v. log_text v (canonical (composition (nets_of taken)))) (ap joint_version same ∙ same_version found.logs)
          ∙ ap (λ n. log_text (latest_version found.logs) (canonical (composition n))) nets;
    }

-- the composition in the admissible order does what the sets do
does_all : (sets : List (List Change)) → DoesAll sets (canonical (composition sets))
does_all sets m tree follow =
    let law = composition_law m tree sets follow in
    let one = law.0.one in (
      same_fits (at m) (composition sets) (canonical (composition sets)) (one_each-canonical (composition sets) one) (λ p. sym (command_at-canonical (composition sets) one p)) law.0,
      fun_ext (λ p. ap (λ o. new_or o (at m p)) (command_at-canonical (composition sets) one p)) ∙ law.1,
    )

pub prints_catchup : (words : List Text) (before now : Outside) (status : ℕ) → Ran words before now status → PrintsCatchup words before now status
prints_catchup words before now status ran files m e known z =
    let found = found_text words before now status ran (Catchup files) (IsCatchup files) m refl e known z in
    let p = printed_catchup m.held files found.text found.right in
    record {
      logs = p.logs;
      hold = p.hold;
      follow = p.follow;
      set = canonical (composition (net_sets (all_commands p.logs)));
      does = does_all (net_sets (all_commands p.logs));
      gains = subst (λ text. Gains text before.out now.out) p.is found.gains;
    }

-- ---- `rebase`

record IsPrintedRebase (held : Names) (side : Side) (prefs : Option Operand) (work : Operand) (files : List Operand) (text : List ℕ) : Type 0 where
  log : Recorded
  sets : List Recorded
  rules : List Rule
  hold : HoldLogs held (work ∷ files) (log ∷ sets)
  prefer : HoldsRules held prefs rules
  follow : IsTaken (chain_list (net_sets (all_commands sets)))
  common : HasCommonTree (rebase_logs log.commands (net_sets (all_commands sets)))
  merger : List Change
  set : List Change
  first : IsFirstMergerFor (rebase_logs log.commands (net_sets (all_commands sets))) rules merger
  transition : IsTransitionFor (rebase_logs log.commands (net_sets (all_commands sets))) (side_number side) merger set
  is : text ≡ log_text (later_version log.version (latest_version sets)) set

printed_rebase_of : (held : Names) (side : Side) (prefs : Option Operand) (rules : List Rule) → HoldsRules held prefs rules → (work : Operand) (files : List Operand) (text : List ℕ) →
    IsRebaseOf side (preference_word prefs) rules work files held false (Ok text) → IsPrintedRebase held side prefs work files text
printed_rebase_of held side prefs rules prefer work files text (inl h) = absurd (ok_no_err h.2)
printed_rebase_of held side prefs rules prefer work files text (inr (read, l, inl h)) = absurd (ok_no_err h.2)
printed_rebase_of held side prefs rules prefer work files text (inr (read, l, inr (reads, ls, inl h))) = absurd (ok_no_err h.2)
printed_rebase_of held side prefs rules prefer work files text (inr (read, l, inr (reads, ls, inr (taken, t, inl h)))) = absurd (ok_no_err h.2)
printed_rebase_of held side prefs rules prefer work files text (inr (read, l, inr (reads, ls, inr (taken, t, inr (sets, s, inl h))))) = absurd (ok_no_err h.2)
printed_rebase_of held side prefs rules prefer work files text (inr (read, l, inr (reads, ls, inr (taken, t, inr (sets, s, inr (set, c, inl h)))))) = absurd (ok_no_err h.2)
printed_rebase_of held side prefs rules prefer work files text (inr (read, l, inr (reads, ls, inr (taken, t, inr (sets, s, inr (set, c, inr (joined, j, inl h))))))) = absurd (ok_no_err h.2)
printed_rebase_of held side prefs rules prefer work files text (inr (read, l, inr (reads, ls, inr (taken, t, inr (sets, s, inr (set, c, inr (joined, j, inr (same, k, x)))))))) =
    let one = held_log held FULL_ALLOWANCE work read l in
    let others = held_logs held (left_after FULL_ALLOWANCE read) files reads ls in
    let all = held_logs held FULL_ALLOWANCE (work ∷ files) (read ∷ reads) (inr (read, l, inr (reads, ls, refl))) in
    let logs_same = one_recorded held (work ∷ files) all.logs (one.log ∷ others.logs) all.texts (one.text, one.is, others.texts) in
    let taken_is : taken ≡ read_of one.log = t.0 ∙ one.same in
    let sets_are : sets ≡ reads_of others.logs = s.0 ∙ others.same in
    let nets : nets_of sets ≡ net_sets (all_commands others.logs) = ap nets_of sets_are ∙ ap net_sets (same_commands others.logs) in
    let set_is : set ≡ canonical (composition (net_sets (all_commands others.logs))) = c.1 ∙ ap (λ n. canonical (composition n)) nets in
    let joined_are : same ≡ as_logs taken sets set = k.0 ∙ j.0 in
    let commands : commands_of (as_logs taken sets set) ≡ rebase_logs one.log.commands (net_sets (all_commands others.logs)) = (λ i. (taken_is i).commands ∷ (set_is i ∷ [])) in
    let these : commands_of same ≡ rebase_logs one.log.commands (net_sets (all_commands others.logs)) = ap commands_of joined_are ∙ commands in
    let version : joint_version same ≡ later_version one.log.version (latest_version others.logs) =
    ap joint_version joined_are ∙ (λ i. later_version (taken_is i).version (later_one (joint_version (sets_are i)) i)) ∙ ap (later_version one.log.version) (same_version others.logs) in
    record {
      log = one.log;
      sets = others.logs;
      rules = rules;
      hold = subst (HoldLogs held (work ∷ files)) logs_same (record { texts = all.texts; bytes = all.bytes; commands = all.commands });
      prefer = prefer;
      follow = subst (λ n. IsTaken (chain_list n)) nets c.0;
      common = subst HasCommonTree commands j.1;
      merger = x.0;
      set = x.1;
      first = subst (λ l. IsFirstMergerFor l rules x.0) these x.2;
      transition = subst (λ l. IsTransitionFor l (side_number side) x.0 x.1) these x.3;
      is = x.4 ∙ ap (λ v. log_text v x.1) version;
    }

printed_rebase : (held : Names) (side : Side) (prefs : Option Operand) (work : Operand) (files : List Operand) (text : List ℕ) → IsRebase side prefs work files held false (Ok text) → IsPrintedRebase held side prefs work files text
printed_rebase held side prefs work files text (inl h) = absurd (ok_no_err h.2)
printed_rebase held side prefs work files text (inr (rules, p, h)) = printed_rebase_of held side prefs rules (held_preferences held prefs rules p) work files text h

module _ (work : List Change) (change : all_change work ≡ true) (sets : List (List Change)) (rules : List Rule) (merger : List Change) (first : IsFirstMergerFor (rebase_logs work sets) rules merger) where
  -- the composition as a log has the result of the sets
  result : (m : Store) → IsTreeMap m → Takes (at m) work → Takes (at m) (chain_list sets) → at (stored m (canonical (composition sets))) ≡ at (stored m (chain_list sets))
  result m tree takes follow =
      (net_law m (canonical (composition sets)) tree ((rebase_common work change sets m tree takes follow).takes (canonical (composition sets)) (inr (inl refl)))).1
      ∙ fun_ext (λ p. ap (λ o. new_or o (at m p)) (net_canonical (chain_list sets) p))
      ∙ sym (net_law m (chain_list sets) tree follow).1

  leads_from : (side : Side) (set : List Change) → IsTransitionFor (rebase_logs work sets) (side_number side) merger set → LeadsFromSide side work sets rules set
  leads_from Tree set is = λ other second m tree takes follow. leads_to (rebase_logs work sets) rules 1 merger set other first is second m (rebase_common work change sets m tree takes follow)
  leads_from NextRound set is = λ other second m tree takes follow.
      subst (λ t. Fits t set × (after set t ≡ after other (at m))) (result m tree takes follow)
      (leads_to (rebase_logs work sets) rules 2 merger set other first is second m (rebase_common work change sets m tree takes follow))

  -- what is printed is the transition of the laws
  module _ (m : Store) (tree : IsTreeMap m) (takes : Takes (at m) work) (follow : Takes (at m) (chain_list sets)) where
    common : IsCommonTree m (rebase_logs work sets)
    common = rebase_common work change sets m tree takes follow

    among_transition : (log set : List Change) → IsAmong log (rebase_logs work sets) → set ≡ canonical (transition (at m) (net log) merger) → (c : Change) → is_in set c ≡ is_in (transition (least_common_tree (rebase_logs work sets)) (net log) merger) c
    among_transition log set among is c =
        ap (λ l. is_in l c) is ∙ is_in-canonical (transition (at m) (net log) merger) (one_each-transition (at m) (net log) merger) c
        ∙ ap (λ l. is_in l c) (sym (on_least (rebase_logs work sets) (rebase_change work change sets m tree takes follow) m common log among merger (first m common).merger.within))

    undoes_nothing : (side : Side) (set : List Change) → IsTransitionFor (rebase_logs work sets) (side_number side) merger set → UndoesNothing side work sets rules set
    undoes_nothing Tree set is = λ none c e.
        (work_law work change sets m tree takes follow merger (subst (λ r. IsFirstMerger (at m) (drawn_commands (rebase_logs work sets)) (ranking (rebase_logs work sets) r) merger) none (first m common))).1 c
        (sym (among_transition work set (inl refl) (is m common) c) ∙ e)
    undoes_nothing NextRound set is = λ all c e.
        (rounds_law work change sets m tree takes follow merger (subst (λ r. IsFirstMerger (at m) (drawn_commands (rebase_logs work sets)) (ranking (rebase_logs work sets) r) merger) all (first m common))).1 c
        (sym (among_transition (canonical (composition sets)) set (inr (inl refl)) (is m common) c) ∙ e)

pub prints_rebase : (words : List Text) (before now : Outside) (status : ℕ) → Ran words before now status → PrintsRebase words before now status
prints_rebase words before now status ran side prefs work files m e known z =
    let found = found_text words before now status ran (Rebase side prefs work files) (IsRebase side prefs work files) m refl e known z in
    let p = printed_rebase m.held side prefs work files found.text found.right in
    let change = all_change_held m.held (work ∷ files) (p.log ∷ p.sets) p.hold.texts p.log.commands (inl refl) in
    record {
      log = p.log;
      sets = p.sets;
      rules = p.rules;
      hold = p.hold;
      prefer = p.prefer;
      follow = p.follow;
      common = p.common;
      set = p.set;
      leads = leads_from p.log.commands change (net_sets (all_commands p.sets)) p.rules p.merger p.first side p.set p.transition;
      keeps = λ t tree takes follow. undoes_nothing p.log.commands change (net_sets (all_commands p.sets)) p.rules p.merger p.first t tree takes follow side p.set p.transition;
      gains = subst (λ text. Gains text before.out now.out) p.is found.gains;
    }

-- ---- `explain`

record IsPrintedReasons (held : Names) (prefs : Option Operand) (files : List Operand) (output : Output) : Type 0 where
  logs : List Recorded
  rules : List Rule
  hold : HoldLogs held files logs
  prefer : HoldsRules held prefs rules
  common : HasCommonTree (all_commands logs)
  joint : Joined
  stands : StandsForAll joint (all_commands logs)
  merger : List Change
  first : IsFirstMergerFor (all_commands logs) rules merger
  is : output ≡ ReasonLines (reason_lines joint (canonical merger))

printed_reasons : (held : Names) (prefs : Option Operand) (files : List Operand) (output : Output) → IsExplain prefs files held false (Ok output) → IsPrintedReasons held prefs files output
printed_reasons held prefs files output (inl h) = absurd (ok_no_err h.2)
printed_reasons held prefs files output (inr (rules, p, inl h)) = absurd (ok_no_err h.2)
printed_reasons held prefs files output (inr (rules, p, inr (reads, l, inl h))) = absurd (ok_no_err h.2)
printed_reasons held prefs files output (inr (rules, p, inr (reads, l, inr (joined, inl j, m)))) = absurd (ok_no_err j.2)
printed_reasons held prefs files output (inr (rules, p, inr (reads, l, inr (joined, inr j, inl m)))) = absurd (ok_no_err m.2)
printed_reasons held prefs files output (inr (rules, p, inr (reads, l, inr (joined, inr j, inr m)))) =
    let found = held_logs held FULL_ALLOWANCE files reads l in
    let same : m.0 ≡ reads_of found.logs = m.1.0 ∙ j.2.0 ∙ j.1.0 ∙ found.same in
    let commands : commands_of m.0 ≡ all_commands found.logs = ap commands_of same ∙ same_commands found.logs in
    record {
      logs = found.logs;
      rules = rules;
      hold = record { texts = found.texts; bytes = found.bytes; commands = found.commands };
      prefer = held_preferences held prefs rules p;
      common = subst HasCommonTree (ap commands_of (j.1.0 ∙ found.same) ∙ same_commands found.logs) j.2.1;
      joint = m.2.0;
      stands = subst (StandsForAll m.2.0) commands m.2.2;
      merger = m.2.1;
      first = subst (λ l. IsFirstMergerFor l rules m.2.1) commands m.2.3;
      is = m.2.4;
    }

pub prints_reasons : (words : List Text) (before now : Outside) (status : ℕ) → Ran words before now status → PrintsReasons words before now status
prints_reasons words before now status ran prefs files m e known z =
    let found = found_output words before now m (held_tree before.trees) (InputsCounted (inputs_of before) (inputs_of now)) before.files.contents status ran.answer (omega (arith, z)) known ran.allowed ran.prints in
    let p = printed_reasons m.held prefs files found.output (job_answer words (Explain prefs files) (held_tree before.trees) m.held (Ok found.output) e found.right) in
    record {
      logs = p.logs;
      rules = p.rules;
      hold = p.hold;
      prefer = p.prefer;
      common = p.common;
      joint = p.joint;
      stands = p.stands;
      merger = p.merger;
      first = p.first;
      gains = subst (λ o. Gains (text_in o) before.out now.out) p.is found.gains;
    }
