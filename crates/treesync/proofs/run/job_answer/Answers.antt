use Rattle.std.proofs.Common.{◌≡◌, Ok}
use Rattle.tool_words.specs.Help.{help_text}
use Rattle.treesync.specs.Drill.{IsDrillOf}
use Rattle.treesync.proofs.OutputLemmas.{answers_alone, answers_explained, answers_joint, answers_text}
use Rattle.treesync.proofs.run.job_answer.Goals as goal

pub returns-in-Help : goal.returns-in-Help
returns-in-Help g c tree = rw c.in-Help.is (answers_alone (λ answer. answer ≡ Ok help_text) _ c.help_answer.result c.of_text.result c.of_text.ensures c.help_answer.ensures)

pub returns-in-Replay : goal.returns-in-Replay
returns-in-Replay g c tree =
    rw (c.in-Replay.is, ← c.place-snap_word.ensures, ← c.place-log_word.ensures, ← c.as_str.ensures, ← c.as_str-in-Replay.ensures) (answers_text _ _ _ _ c.replay.result c.of_text-in-Replay.result c.of_text-in-Replay.ensures c.replay.ensures)

pub returns-in-Canon : goal.returns-in-Canon
returns-in-Canon g c tree = rw (c.in-Canon.is, ← c.place.ensures, ← c.as_str-in-Canon.ensures) (answers_text _ _ _ _ c.canon.result c.of_text-in-Canon.result c.of_text-in-Canon.ensures c.canon.ensures)

pub drill-requires-clause-seed : goal.drill-requires-clause-seed
drill-requires-clause-seed g c = let h = rw c.in-Drill.is at c.requires.few in h.0

pub drill-requires-clause-logs : goal.drill-requires-clause-logs
drill-requires-clause-logs g c = let h = rw c.in-Drill.is at c.requires.few in h.1.1

pub returns-in-Drill : goal.returns-in-Drill
returns-in-Drill g c tree = rw c.in-Drill.is (answers_alone (IsDrillOf c.in-Drill.seed c.in-Drill.logs c.in-Drill.steps) _ c.drill.result c.of_text-in-Drill.result c.of_text-in-Drill.ensures c.drill.ensures)

pub conflicts-requires : goal.conflicts-requires
conflicts-requires g c = rw c.in-Conflicts.is at c.requires.few

pub returns-in-Conflicts : goal.returns-in-Conflicts
returns-in-Conflicts g c tree = rw c.in-Conflicts.is (answers_joint _ _ _ _ c.conflicts.result c.of_joint.result c.of_joint.ensures c.conflicts.ensures)

pub merge-requires : goal.merge-requires
merge-requires g c = rw c.in-Merge.is at c.requires.few

pub returns-in-Merge : goal.returns-in-Merge
returns-in-Merge g c tree = rw c.in-Merge.is (answers_text _ _ _ _ c.merge.result c.of_text-in-Merge.result c.of_text-in-Merge.ensures c.merge.ensures)

pub steer-requires : goal.steer-requires
steer-requires g c = rw c.in-Steer.is at c.requires.few

pub returns-in-Steer : goal.returns-in-Steer
returns-in-Steer g c tree = rw (c.in-Steer.is, ← c.place-in-Steer.ensures, ← c.as_str-in-Steer.ensures) (answers_text _ _ _ _ c.steer.result c.of_text-in-Steer.result c.of_text-in-Steer.ensures c.steer.ensures)

pub transition-requires-clause-number : goal.transition-requires-clause-number
transition-requires-clause-number g c = let h = rw c.in-Transition.is at c.requires.few in h.0

pub transition-requires-clause-few : goal.transition-requires-clause-few
transition-requires-clause-few g c = let h = rw c.in-Transition.is at c.requires.few in h.1

pub returns-in-Transition : goal.returns-in-Transition
returns-in-Transition g c tree = rw c.in-Transition.is (answers_text _ _ _ _ c.transition.result c.of_text-in-Transition.result c.of_text-in-Transition.ensures c.transition.ensures)

pub explain-requires : goal.explain-requires
explain-requires g c = rw c.in-Explain.is at c.requires.few

pub returns-in-Explain : goal.returns-in-Explain
returns-in-Explain g c tree = rw c.in-Explain.is (answers_explained _ _ _ _ c.explain.result c.of_explained.result c.of_explained.ensures c.explain.ensures)

pub returns-in-Undo : goal.returns-in-Undo
returns-in-Undo g c tree = rw (c.in-Undo.is, ← c.place-in-Undo.ensures, ← c.as_str-in-Undo.ensures) (answers_text _ _ _ _ c.undo.result c.of_text-in-Undo.result c.of_text-in-Undo.ensures c.undo.ensures)

pub returns-in-Catchup : goal.returns-in-Catchup
returns-in-Catchup g c tree = rw c.in-Catchup.is (answers_text _ _ _ _ c.catchup.result c.of_text-in-Catchup.result c.of_text-in-Catchup.ensures c.catchup.ensures)

pub returns-in-Rebase : goal.returns-in-Rebase
returns-in-Rebase g c tree = rw c.in-Rebase.is (answers_text _ _ _ _ c.rebase.result c.of_text-in-Rebase.result c.of_text-in-Rebase.ensures c.rebase.ensures)
