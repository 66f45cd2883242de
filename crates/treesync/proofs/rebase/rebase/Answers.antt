use Rattle.std.proofs.Common.{refl, subst}
use Rattle.treesync.specs.Checks.{Answers, HasItems}
use Rattle.treesync.specs.Preferences.{ArePreferences, preference_limits, preference_word}
use Rattle.treesync.specs.Rebase.{IsRebaseOf, work_limits}
use Rattle.treesync.proofs.CheckLemmas.{then_next}
use Rattle.treesync.proofs.rebase.rebase.Goals as goal

pub returns : goal.returns
returns g c =
    then_next HasItems HasItems (ArePreferences c.args.prefs.now) (λ rules. IsRebaseOf c.args.side (preference_word c.args.prefs.now) rules c.args.work.now c.args.names.now) (preference_limits c.args.prefs.now) (work_limits c.args.work.now c.args.names.now) _
    (g.F.Files.files c.args.files.now) (g.F.Files.files c.preferences.new.files) (g.F.Files.files c.rebase_under.new.files) c.in_ok-rules.rules c.rebase_under.result refl c.in_ok-rules.ensures (λ rules h.
    subst (λ r. Answers HasItems (IsRebaseOf c.args.side (preference_word c.args.prefs.now) r c.args.work.now c.args.names.now) (work_limits c.args.work.now c.args.names.now) (g.F.Files.files c.preferences.new.files) (g.F.Files.files c.rebase_under.new.files) c.rebase_under.result)
    h (rw c.preference_word-word.ensures at c.rebase_under.ensures))
