-- What a printed list of clashes means follows from what a run owes.
use Rattle.std.proofs.Common.{◌≡◌, ◌≤◌, false, ℕ, List, [], ◌∷◌, Some, Ok, inl, inr, refl, sym, ap, subst, ◌∙◌, arith}
use Rattle.sync_command.specs.declared.commands.Row.{Row}
use Rattle.sync_port.specs.Ports.{FileContents, Names}
use Rattle.refluent.specs.Clashes.{HasNoClash}
use Rattle.refluent.specs.CommonTrees.{HasCommonTree}
use Rattle.refluent.specs.Drawn.{drawn_commands}
use Rattle.refluent.specs.Joints.{Joined, StandsForAll}
use Rattle.clash_list.specs.ClashLists.{clashes}
use Rattle.clash_list.specs.declared.clashes.Clash.{Clash}
use Rattle.clash_list.proofs.CallerLemmas.{listed_law, only_law}
use Rattle.tool_words.specs.Jobs.{job_of}
use Rattle.tool_words.specs.Words.{Operand, Text}
use Rattle.tool_words.specs.declared.job.Job.TheVariants.{Conflicts}
use Rattle.treesync.specs.Conflicts.{IsConflicts, clash_lines, lines_of}
use Rattle.treesync.specs.Headline.{HoldLogs, HoldTogether, IsOnlyMerger, PrintsClashes, Recorded, all_commands}
use Rattle.treesync.specs.Jobs.{InputsCounted, Outside, Ran, held_tree, inputs_of}
use Rattle.treesync.specs.Joining.{commands_of}
use Rattle.treesync.specs.Outputs.{ClashLines, Output, status_in}
use Rattle.treesync.specs.declared.logs.TheConstants.{FULL_ALLOWANCE}
use Rattle.treesync.proofs.HeadlineLemmas.{found_output, job_answer}
use Rattle.treesync.proofs.HeldLogs.{all_change_held, held_logs, ok_no_err, reads_of, same_commands}

-- ---- what an answer lists

record IsListed (held : Names) (files : List Operand) (output : Output) : Type 0 where
  logs : List Recorded
  hold : HoldLogs held files logs
  common : HasCommonTree (all_commands logs)
  joint : Joined
  stands : StandsForAll joint (all_commands logs)
  is : output ≡ ClashLines (clash_lines joint)

listed_of : (held : Names) (files : List Operand) (output : Output) → IsConflicts files held false (Ok output) → IsListed held files output
listed_of held files output (inl h) = absurd (ok_no_err h.2)
listed_of held files output (inr (reads, l, inl h)) = absurd (ok_no_err h.2)
listed_of held files output (inr (reads, l, inr (joined, inl j, m))) = absurd (ok_no_err j.2)
listed_of held files output (inr (reads, l, inr (joined, inr j, m))) =
    let found = held_logs held FULL_ALLOWANCE files reads l in
    let same : joined ≡ reads_of found.logs = j.2.0 ∙ j.1.0 ∙ found.same in
    let commands : commands_of joined ≡ all_commands found.logs = ap commands_of same ∙ same_commands found.logs in
    record {
      logs = found.logs;
      hold = record { texts = found.texts; bytes = found.bytes; commands = found.commands };
      common = subst HasCommonTree (ap commands_of (j.1.0 ∙ found.same) ∙ same_commands found.logs) j.2.1;
      joint = m.0;
      stands = subst (StandsForAll m.0) commands m.1;
      is = m.2;
    }

-- ---- what it means

none_lined : (nodes : List Row) (all : List Clash) → status_in (ClashLines (lines_of nodes all)) ≡ 0 → all ≡ []
none_lined nodes [] e = refl
none_lined nodes (clash ∷ rest) e = absurd (omega (arith, e))

some_lined : (nodes : List Row) (all : List Clash) → status_in (ClashLines (lines_of nodes all)) ≡ 1 → all ≡ [] → ⊥
some_lined nodes [] e z = omega (arith, e)
some_lined nodes (clash ∷ rest) e z = cc (z)

module _ (words : List Text) (before now : Outside) (status : ℕ) (ran : Ran words before now status) where
  listed_now : (files : List Operand) (m : FileContents) → job_of words ≡ Some (Conflicts files) → before.files.contents ≡ Some m → status ≤ 1 →
      (output : Output) × IsListed m.held files output × (status ≡ status_in output)
  listed_now files m e known low =
      let found = found_output words before now m (held_tree before.trees) (InputsCounted (inputs_of before) (inputs_of now)) before.files.contents status ran.answer low known ran.allowed ran.prints in
      (found.output, listed_of m.held files found.output (job_answer words (Conflicts files) (held_tree before.trees) m.held (Ok found.output) e found.right), found.ends)

  none_clash : (files : List Operand) (m : FileContents) → job_of words ≡ Some (Conflicts files) → before.files.contents ≡ Some m → status ≡ 0 →
      HoldTogether m.held files (λ logs. HasNoClash (drawn_commands logs) × IsOnlyMerger logs)
  none_clash files m e known z =
      let found = listed_now files m e known (omega (arith, z)) in
      let p = found.1 in
      let nothing = none_lined p.joint.nodes (clashes p.joint) (ap status_in (sym p.is) ∙ sym found.2 ∙ z) in
      let apart = (listed_law p.joint (all_commands p.logs) p.stands).0 nothing in
      let only = only_law (all_commands p.logs) (all_change_held m.held files p.logs p.hold.texts) in
      record {
        logs = p.logs;
        hold = p.hold;
        common = p.common;
        so = (apart, (λ t tree. (only t tree apart).0, λ t merger tree h. (only t tree apart).1 merger h));
      }

  some_clash : (files : List Operand) (m : FileContents) → job_of words ≡ Some (Conflicts files) → before.files.contents ≡ Some m → status ≡ 1 →
      HoldTogether m.held files (λ logs. HasNoClash (drawn_commands logs) → ⊥)
  some_clash files m e known z =
      let found = listed_now files m e known (omega (arith, z)) in
      let p = found.1 in
      let some = some_lined p.joint.nodes (clashes p.joint) (ap status_in (sym p.is) ∙ sym found.2 ∙ z) in
      record {
        logs = p.logs;
        hold = p.hold;
        common = p.common;
        so = λ apart. some ((listed_law p.joint (all_commands p.logs) p.stands).1 apart);
      }

  pub says_clashes : PrintsClashes words before now status
  says_clashes files m e known = (none_clash files m e known, some_clash files m e known)
