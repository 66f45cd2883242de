use Rattle.std.proofs.Common.{length, arith, ap, ◌∙◌}
use Rattle.refluent.specs.Joints.{path_at}
use Rattle.refluent.specs.Picks.{net_commands}
use Rattle.refluent.proofs.Holding.{in_bounds, are_commands}
use Rattle.refluent.proofs.joint.Joint.commands.Goals as goal

pub picks_between-requires-clause-start : goal.picks_between-requires-clause-start
picks_between-requires-clause-start c = let n = ap (λ j. length j.nodes) c.self.view_is in
    (in_bounds _ _ _ _ _ c.self.invariant.0 c.args.place (omega (arith, n, c.requires)) _ _ c.as_slice-links.ensures.value c.as_slice-picks.ensures.value _ _ c.start_of-start.ensures c.start_of-end.ensures).0

pub picks_between-requires-clause-end : goal.picks_between-requires-clause-end
picks_between-requires-clause-end c = let n = ap (λ j. length j.nodes) c.self.view_is in
    (in_bounds _ _ _ _ _ c.self.invariant.0 c.args.place (omega (arith, n, c.requires)) _ _ c.as_slice-links.ensures.value c.as_slice-picks.ensures.value _ _ c.start_of-start.ensures c.start_of-end.ensures).1

pub returns : goal.returns
returns c = let n = ap (λ j. length j.nodes) c.self.view_is in λ p is.
    c.picks_between.ensures ∙ are_commands _ _ _ _ _ c.self.invariant.0 c.args.place (omega (arith, n, c.requires)) _ _ c.as_slice-links.ensures.value c.as_slice-picks.ensures.value _ _ c.start_of-start.ensures c.start_of-end.ensures p
    (ap (λ j. path_at j.nodes c.args.place) c.self.view_is ∙ is) ∙ ap (λ j. net_commands j.sets p) c.self.view_is
