use Rattle.std.proofs.Common.{ap, length, ◌∙◌}
use Rattle.tool_words.specs.Trees.{job_folders}
use Rattle.treesync.proofs.Words.{files_found, found_apply, found_seal, no_folders}
use Rattle.treesync.proofs.run.find_answer.Goals as goal

pub job_answer-requires-clause-folders : goal.job_answer-requires-clause-folders
job_answer-requires-clause-folders g c = no_folders c.args.job.now c.requires.answered c.in_default.not-Seal c.in_default.not-Apply

pub returns-in-Seal : goal.returns-in-Seal
returns-in-Seal g c = λ has.
    found_seal c.in-Seal.folder c.in-Seal.log c.args.job.now _ _ c.seal.result c.of_text.result c.in-Seal.is c.of_text.ensures (c.seal.ensures (has ∙ ap (λ j. length (job_folders j)) c.in-Seal.is))

pub returns-in-Apply : goal.returns-in-Apply
returns-in-Apply g c = λ has.
    found_apply c.in-Apply.folder c.in-Apply.set c.args.job.now _ _ c.apply.result c.of_text-in-Apply.result c.in-Apply.is c.of_text-in-Apply.ensures (c.apply.ensures (has ∙ ap (λ j. length (job_folders j)) c.in-Apply.is))

pub returns-in_default : goal.returns-in_default
returns-in_default g c = λ has.
    files_found c.args.job.now _ _ _ c.job_answer.result (no_folders c.args.job.now c.requires.answered c.in_default.not-Seal c.in_default.not-Apply) (c.job_answer.ensures _)
