use Rattle.std.proofs.Common.{refl, subst, ◌∙◌}
use Rattle.treesync.specs.Checks.{Answers, HasItems}
use Rattle.treesync.specs.Joining.{log_limits}
use Rattle.treesync.specs.Preferences.{ArePreferences, preference_limits, preference_word}
use Rattle.treesync.specs.Merging.{AreAsked, IsMergedOf, OfLogs}
use Rattle.treesync.proofs.CheckLemmas.{fewer_files, then_handed_on, then_next}
use Rattle.treesync.proofs.merging.merged_logs.Goals as goal

pub returns-in_err-rules-clause-answer : goal.returns-in_err-rules-clause-answer
returns-in_err-rules-clause-answer g c =
    fewer_files IsMergedOf _ (preference_limits c.args.prefs.now) (log_limits c.args.names.now) _ _ _ _ refl
    (then_handed_on HasItems IsMergedOf (ArePreferences c.args.prefs.now) (λ rules. OfLogs AreAsked (preference_word c.args.prefs.now) rules c.args.names.now) (preference_limits c.args.prefs.now)
    (g.F.Files.files c.args.files.now) (g.F.Files.files c.preferences.new.files) c.in_err-rules.field-0.0 c.from_residual.result c.from_residual.ensures.1 c.in_err-rules.ensures)

pub returns-clause-answer : goal.returns-clause-answer
returns-clause-answer g c =
    then_next HasItems IsMergedOf (ArePreferences c.args.prefs.now) (λ rules. OfLogs AreAsked (preference_word c.args.prefs.now) rules c.args.names.now) (preference_limits c.args.prefs.now) (log_limits c.args.names.now) _
    (g.F.Files.files c.args.files.now) (g.F.Files.files c.preferences.new.files) (g.F.Files.files c.merged_under.new.files) c.in_ok-rules.rules c.merged_under.result refl c.in_ok-rules.ensures (λ rules h.
    subst (λ r. Answers IsMergedOf (OfLogs AreAsked (preference_word c.args.prefs.now) r c.args.names.now) (log_limits c.args.names.now) (g.F.Files.files c.preferences.new.files) (g.F.Files.files c.merged_under.new.files) c.merged_under.result)
    (c.deref.ensures.value ∙ h) (rw c.preference_word-word.ensures at c.merged_under.ensures.answer))
