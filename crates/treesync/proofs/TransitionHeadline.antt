-- Where a printed transition leads follows from what a run owes.
use Rattle.std.proofs.Common.{◌≡◌, ◌-◌, true, false, ℕ, zero, suc, List, [], ◌∷◌, Option, Ok, inl, inr, refl, sym, ap, subst, ◌∙◌}
use mathlib.Core.Path.{fun_ext}
use Rattle.sync_command.specs.Changes.{Change}
use Rattle.sync_command.specs.Maps.{Store, IsTreeMap, at, stored}
use Rattle.sync_command.specs.Trees.{Fits, Holding, Takes, after, new_or, one_each}
use Rattle.sync_command.proofs.CallerLemmas.{same_fits}
use Rattle.sync_port.specs.Ports.{Names}
use Rattle.canon_set.specs.Logs.{net}
use Rattle.canon_set.specs.Sets.{canonical}
use Rattle.canon_set.proofs.CallerLemmas.{command_at-canonical, net_law, one_each-canonical}
use Rattle.log_text.specs.Logs.{log_text}
use Rattle.refluent.specs.CommonTrees.{HasCommonTree, IsAmong}
use Rattle.refluent.specs.Drawn.{drawn_commands}
use Rattle.refluent.specs.FirstDisagreements.{log_at}
use Rattle.pref_list.specs.Ranking.{ranking}
use Rattle.pref_list.specs.declared.rules.Rule.{Rule}
use Rattle.pref_list.proofs.CallerLemmas.{drawn_ranked}
use Rattle.merge_core.proofs.CallerLemmas.{one_first}
use Rattle.transition.specs.Transitions.{transition}
use Rattle.transition.proofs.CallerLemmas.{canonical_merger, one_each-transition, transition_fits}
use Rattle.tool_words.specs.Words.{Operand, Text}
use Rattle.tool_words.specs.declared.job.Job.TheVariants.{Transition}
use Rattle.treesync.specs.Headline.{Gains, HoldLogs, HoldsRules, LeadsToMerger, PrintsTransition, Recorded, all_commands, latest_version}
use Rattle.treesync.specs.Jobs.{Outside, Ran}
use Rattle.treesync.specs.Joining.{commands_of, joint_version}
use Rattle.treesync.specs.Merge.{IsFirstMergerFor}
use Rattle.treesync.specs.Transition.{IsTransition, IsTransitionFor}
use Rattle.treesync.specs.declared.logs.TheConstants.{FULL_ALLOWANCE}
use Rattle.treesync.proofs.PrintedSizes.{transition_within_limits}
use Rattle.treesync.proofs.HeadlineLemmas.{found_text}
use Rattle.treesync.proofs.HeldLogs.{held_logs, held_preferences, ok_no_err, reads_of, same_commands, same_version}
use Rattle.treesync.proofs.SameSets.{same_at}

-- ---- where a transition leads

after_canonical : (cs : List Change) (u : Holding) → one_each cs ≡ true → after (canonical cs) u ≡ after cs u
after_canonical cs u one = fun_ext (λ p. ap (λ o. new_or o (u p)) (command_at-canonical cs one p))

-- a set leads from one holding to another
abbrev Leads : List Change → Holding → Holding → Type 0
Leads set u v = Fits u set × (after set u ≡ v)

module _ (m : Store) (log : List Change) (tree : IsTreeMap m) (takes : Takes (at m) log) (merger : List Change) (fits : Fits (at m) merger) where
  from_result : Leads (canonical (transition (at m) (net log) merger)) (after (net log) (at m)) (after merger (at m))
  from_result =
      let made = transition_fits (at m) (net log) merger fits in
      let one = one_each-transition (at m) (net log) merger in (
        same_fits (after (net log) (at m)) (transition (at m) (net log) merger) (canonical (transition (at m) (net log) merger)) (one_each-canonical (transition (at m) (net log) merger) one)
            (λ p. sym (command_at-canonical (transition (at m) (net log) merger) one p)) made.0,
        after_canonical (transition (at m) (net log) merger) (after (net log) (at m)) one ∙ made.1,
      )

  from_replica : (set : List Change) → set ≡ canonical (transition (at m) (net log) merger) → Leads set (at (stored m log)) (after merger (at m))
  from_replica set e = subst (λ s. Leads s (at (stored m log)) (after merger (at m))) (sym e) (subst (λ u. Leads (canonical (transition (at m) (net log) merger)) u (after merger (at m))) (sym (net_law m log tree takes).1) from_result)

takes_at : (t : Holding) (logs : List (List Change)) → ((log : List Change) → IsAmong log logs → Takes t log) → (i : ℕ) → Takes t (log_at logs i)
takes_at t [] takes i = tt
takes_at t (log ∷ logs) takes zero = takes log (inl refl)
takes_at t (log ∷ logs) takes (suc i) = takes_at t logs (λ l among. takes l (inr among)) i

pub leads_to : (logs : List (List Change)) (rules : List Rule) (number : ℕ) (merger set other : List Change) → IsFirstMergerFor logs rules merger → IsTransitionFor logs number merger set → IsFirstMergerFor logs rules other → LeadsToMerger logs number set other
leads_to logs rules number merger set other first is second m common =
    let here = first m common in
    let there = second m common in
    let same = one_first (at m) (drawn_commands logs) (ranking logs rules) merger other (drawn_ranked logs rules) here there in
    from_replica m (log_at logs (number - 1)) common.tree (takes_at (at m) logs common.takes (number - 1)) other there.merger.fits set
    (is m common ∙ canonical_merger (at m) (net (log_at logs (number - 1))) merger other (same_at merger other here.merger.fits.one there.merger.fits.one same))

-- ---- what an answer with a text says

record IsPrinted (held : Names) (number : ℕ) (prefs : Option Operand) (files : List Operand) (text : List ℕ) : Type 0 where
  logs : List Recorded
  rules : List Rule
  hold : HoldLogs held files logs
  prefer : HoldsRules held prefs rules
  common : HasCommonTree (all_commands logs)
  merger : List Change
  set : List Change
  first : IsFirstMergerFor (all_commands logs) rules merger
  transition : IsTransitionFor (all_commands logs) number merger set
  is : text ≡ log_text (latest_version logs) set

printed_of : (held : Names) (number : ℕ) (prefs : Option Operand) (files : List Operand) (text : List ℕ) → IsTransition number prefs files held false (Ok text) → IsPrinted held number prefs files text
printed_of held number prefs files text (inl h) = absurd (ok_no_err h.2)
printed_of held number prefs files text (inr (rules, p, inl h)) = absurd (ok_no_err h.2)
printed_of held number prefs files text (inr (rules, p, inr (reads, l, inl h))) = absurd (ok_no_err h.2)
printed_of held number prefs files text (inr (rules, p, inr (reads, l, inr (joined, inl j, m)))) = absurd (ok_no_err j.2)
printed_of held number prefs files text (inr (rules, p, inr (reads, l, inr (joined, inr j, inl m)))) = absurd (ok_no_err m.2)
printed_of held number prefs files text (inr (rules, p, inr (reads, l, inr (joined, inr j, inr m)))) =
    let found = held_logs held FULL_ALLOWANCE files reads l in
    let all : joined ≡ reads = j.2.0 ∙ j.1.0 in
    let same : m.0 ≡ reads_of found.logs = m.1.0 ∙ all ∙ found.same in
    let commands : commands_of m.0 ≡ all_commands found.logs = ap commands_of same ∙ same_commands found.logs in
    record {
      logs = found.logs;
      rules = rules;
      hold = record { texts = found.texts; bytes = found.bytes; commands = found.commands };
      prefer = held_preferences held prefs rules p;
      common = subst HasCommonTree (ap commands_of (j.1.0 ∙ found.same) ∙ same_commands found.logs) j.2.1;
      merger = m.2.0;
      set = m.2.1;
      first = subst (λ l. IsFirstMergerFor l rules m.2.0) commands m.2.2;
      transition = subst (λ l. IsTransitionFor l number m.2.0 m.2.1) commands m.2.3;
      is = m.2.4 ∙ ap (λ v. log_text v m.2.1) (ap joint_version same ∙ same_version found.logs);
    }

pub prints_transition : (words : List Text) (before now : Outside) (status : ℕ) → Ran words before now status → PrintsTransition words before now status
prints_transition words before now status ran number prefs files m e known z =
    let found = found_text words before now status ran (Transition number prefs files) (IsTransition number prefs files) m refl e known z in
    let p = printed_of m.held number prefs files found.text found.right in
    record {
      logs = p.logs;
      rules = p.rules;
      hold = p.hold;
      prefer = p.prefer;
      common = p.common;
      set = p.set;
      leads = λ merger first. leads_to (all_commands p.logs) p.rules number p.merger p.set merger p.first p.transition first;
      within =
          let here = p.first p.common.map p.common.common in
          transition_within_limits p.logs p.hold.bytes p.hold.commands (latest_version p.logs) p.common.map p.common.common number p.merger p.set here.merger.fits.one here.merger.within (p.transition p.common.map p.common.common);
      gains = subst (λ text. Gains text before.out now.out) p.is found.gains;
    }
