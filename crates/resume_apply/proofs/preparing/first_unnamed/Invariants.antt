use Rattle.std.proofs.Common.{◌≡◌}
use Rattle.resume_apply.specs.Preparing.{first_unnamed}
use Rattle.resume_apply.proofs.preparing.first_unnamed.Given as goal

-- the set names each path so far
abbrev pub invariant-paths : goal.invariant-paths
invariant-paths l = first_unnamed l.set l.path-iterator.rest.items ≡ first_unnamed l.set l.fn.paths.items
