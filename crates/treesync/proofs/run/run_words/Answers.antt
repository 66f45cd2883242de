use Rattle.std.proofs.Common.{ap, map, string_bytes, refl, Err, Some, ◌∙◌}
use Rattle.tool_words.specs.Jobs.{job_of}
use Rattle.tool_words.proofs.CallerLemmas.{few_logs}
use Rattle.treesync.proofs.Recordings.{recording_ends, recording_keeps, recording_runs}
use Rattle.treesync.proofs.Running.{answered_by, folders_of_job, found_ends, found_keeps, job_runs, one_tree, refused_ends, refused_keeps, refused_runs, round_trees}
use Rattle.treesync.proofs.Syncing.{round_ends, round_keeps, round_ran, round_runs}
use Rattle.treesync.proofs.Words.{found_job}
use Rattle.treesync.proofs.run.run_words.Goals as goal

pub find_answer-answer-requires : goal.find_answer-answer-requires
find_answer-answer-requires g c = record {
  few = few_logs (map string_bytes c.args.words.now) c.in-Ok.job c.in-Ok.ensures.ok;
  answered = answered_by c.in-Ok.job c.in_default.not-Record c.in_default.not-Sync;
}

pub returns-in-Record : goal.returns-in-Record
returns-in-Record g c = λ has.
    let job = c.in-Ok.ensures.ok ∙ ap Some c.in-Record.is in
    let ran = c.record.ensures.ran (has ∙ one_tree (map string_bytes c.args.words.now) c.in-Ok.job c.in-Record.folder c.in-Record.script c.in-Ok.ensures.ok c.in-Record.is) in
    record {
      runs = recording_runs c.in-Record.folder c.in-Record.script (map string_bytes c.args.words.now) _ _ _ job ran;
      keeps = recording_keeps c.in-Record.folder c.in-Record.script (map string_bytes c.args.words.now) _ _ _ job ran c.record.ensures.err;
      ends = recording_ends c.in-Record.folder c.in-Record.script (map string_bytes c.args.words.now) _ _ _ job ran;
    }

pub returns-in_default : goal.returns-in_default
returns-in_default g c = λ has.
    let answered = answered_by c.in-Ok.job c.in_default.not-Record c.in_default.not-Sync in
    let finds = found_job c.in-Ok.job (job_of (map string_bytes c.args.words.now)) _ _ c.find_answer-answer.result c.in-Ok.ensures.ok (c.find_answer-answer.ensures (has ∙ folders_of_job (map string_bytes c.args.words.now) c.in-Ok.job c.in-Ok.ensures.ok)) in
    record {
      runs = job_runs (map string_bytes c.args.words.now) _ _ _ c.in-Ok.job c.in-Ok.ensures.ok answered c.find_answer-answer.result finds c.report-in_default.ensures.prints c.report-in_default.ensures.says;
      keeps = found_keeps (map string_bytes c.args.words.now) _ _ _ c.find_answer-answer.result finds c.report-in_default.ensures.prints c.report-in_default.ensures.out c.report-in_default.ensures.err;
      ends = found_ends (map string_bytes c.args.words.now) _ _ _ c.find_answer-answer.result finds c.report-in_default.ensures.prints;
    }

pub returns-in-Err : goal.returns-in-Err
returns-in-Err g c = λ has.
    record {
      runs = refused_runs (map string_bytes c.args.words.now) _ _ _ c.in-Err.fault (λ f. c.in-Err.ensures.refused (ap Err f)) refl c.words_refusal.result c.words_refusal.ensures c.report-in-Err.ensures.prints c.report-in-Err.ensures.says;
      keeps = refused_keeps (map string_bytes c.args.words.now) _ _ _ c.in-Err.fault (λ f. c.in-Err.ensures.refused (ap Err f)) refl c.words_refusal.result c.words_refusal.ensures c.report-in-Err.ensures.prints c.report-in-Err.ensures.out c.report-in-Err.ensures.err;
      ends = refused_ends (map string_bytes c.args.words.now) _ _ _ c.in-Err.fault (λ f. c.in-Err.ensures.refused (ap Err f)) refl c.words_refusal.result c.words_refusal.ensures c.report-in-Err.ensures.prints;
    }

pub sync-answer-requires-clause-few : goal.sync-answer-requires-clause-few
sync-answer-requires-clause-few g c = let h = rw c.in-Sync.is at (few_logs (map string_bytes c.args.words.now) c.in-Ok.job c.in-Ok.ensures.ok) in h.1

pub sync-answer-requires-clause-many : goal.sync-answer-requires-clause-many
sync-answer-requires-clause-many g c = let h = rw c.in-Sync.is at (few_logs (map string_bytes c.args.words.now) c.in-Ok.job c.in-Ok.ensures.ok) in h.2

pub returns-in-Sync : goal.returns-in-Sync
returns-in-Sync g c = λ has.
    let job = c.in-Ok.ensures.ok ∙ ap Some c.in-Sync.is in
    let round = c.sync-answer.ensures (has ∙ round_trees (map string_bytes c.args.words.now) c.in-Ok.job c.in-Sync.prefs c.in-Sync.folders c.in-Sync.logs c.in-Ok.ensures.ok c.in-Sync.is) in
    let ran = round_ran c.in-Sync.prefs c.in-Sync.folders c.in-Sync.logs (map string_bytes c.args.words.now) _ _ _ c.sync-answer.result round c.report.ensures.prints c.report.ensures.says in
    record {
      runs = round_runs c.in-Sync.prefs c.in-Sync.folders c.in-Sync.logs (map string_bytes c.args.words.now) _ _ _ job ran;
      keeps = round_keeps c.in-Sync.prefs c.in-Sync.folders c.in-Sync.logs (map string_bytes c.args.words.now) _ _ _ job ran c.report.ensures.out c.report.ensures.err;
      ends = round_ends c.in-Sync.prefs c.in-Sync.folders c.in-Sync.logs (map string_bytes c.args.words.now) _ _ _ job ran;
    }
