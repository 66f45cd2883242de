use Rattle.std.proofs.Common.{Ok, sym, subst}
use Rattle.treesync.specs.Checks.{IsJudged}
use Rattle.treesync.specs.Explain.{AreReasons, ShowsReasons}
use Rattle.treesync.proofs.Explaining.{merger_explained, merger_of}
use Rattle.treesync.proofs.explain.explain_merged.Goals as goal

pub new-requires : goal.new-requires
new-requires c = let r = c.requires in merger_of c.args.merged.logs r.0.0 c.args.merged.merger r.1.first

pub returns : goal.returns
returns c = λ asked of.
    subst (λ e. IsJudged ShowsReasons (AreReasons asked.0 asked.1) (Ok e)) (sym c.new.ensures)
    (merger_explained c.args.merged.logs asked.0 c.args.merged.merger of.first c.commands-commands.ensures.order asked.1 of.joined)
