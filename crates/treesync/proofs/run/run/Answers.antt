use Rattle.std.proofs.Common.{map, string_bytes, ◌∙◌}
use Rattle.std.proofs.lemmas.List.{length-map}
use Rattle.treesync.proofs.Recordings.{carries_out_record, prints_recorded}
use Rattle.treesync.proofs.RoundHeadlines.{answers_round, joins_replicas, keeps_unready_round, resumes_round}
use Rattle.treesync.proofs.Running.{runs_applied, runs_catchup, runs_changes, runs_clashes, runs_complete, runs_merger, runs_on, runs_reasons, runs_rebase, runs_rules, runs_sealed, runs_steered, runs_transition, runs_undo, runs_unready}
use Rattle.treesync.proofs.Unique.{answer_one}
use Rattle.treesync.proofs.Words.{no_trees_of}
use Rattle.treesync.proofs.run.run.Goals as goal

pub returns-clause-one : goal.returns-clause-one
returns-clause-one g c = answer_one (map string_bytes c.args.words.now)

pub returns-clause-promises : goal.returns-clause-promises
returns-clause-promises g c = λ has.
    let explained = c.run_words.ensures has in
    let ran = explained.runs in
    let lone = no_trees_of (map string_bytes c.args.words.now) _ (length-map _ _ ∙ has) in
    record {
      ran = ran;
      keeps = explained.keeps;
      ends = explained.ends;
      completes = runs_complete _ _ _ _ lone ran;
      merges = runs_merger _ _ _ _ ran;
      steers = runs_steered _ _ _ _ lone ran;
      rules = runs_rules _ _ _ _ ran;
      clashes = runs_clashes _ _ _ _ ran;
      leads = runs_transition _ _ _ _ ran;
      explains = runs_reasons _ _ _ _ ran;
      undoes = runs_undo _ _ _ _ ran;
      catches_up = runs_catchup _ _ _ _ ran;
      rebases = runs_rebase _ _ _ _ ran;
      applies = runs_applied _ _ _ _ ran;
      changes = runs_changes _ _ _ _ ran;
      resumes = runs_on _ _ _ _ ran;
      unready = runs_unready _ _ _ _ ran;
      records = prints_recorded _ _ _ _ ran;
      carries_out = carries_out_record _ _ _ _ ran;
      seals = runs_sealed _ _ _ _ ran;
      rounds = answers_round _ _ _ _ ran;
      syncs = resumes_round _ _ _ _ ran;
      joins = joins_replicas _ _ _ _ ran;
      unready_round = keeps_unready_round _ _ _ _ ran;
    }
