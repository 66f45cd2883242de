use Rattle.std.proofs.Common.{◌∙◌, sym, ap}
use Rattle.std.specs.Prelude.{option_copied}
use Rattle.sync_path.specs.Paths.{parent}
use Rattle.resume_apply.proofs.Blocking.{alone_named, copied_some}
use Rattle.resume_apply.proofs.preparing.is_left_alone.Goals as goal

pub returns-then-is_some-clause-answer : goal.returns-then-is_some-clause-answer
returns-then-is_some-clause-answer g c = alone_named c.args.set.now c.args.command.now c.in-Some.parent (option_copied c.at.result) _ c.requires.fitting c.requires.named
    (ap parent (sym c.path.ensures) ∙ sym c.in_ok-parent.ensures ∙ c.in-Some.is) c.at.ensures (copied_some c.at.result (sym c.is_some.ensures ∙ c.if-is_some.true))
