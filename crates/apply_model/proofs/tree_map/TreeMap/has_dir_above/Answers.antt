use Rattle.std.proofs.Common.{◌≡◌, ◌<◌, nat_eq, refl, subst, sym, true, ◌∙◌}
use Rattle.apply_model.proofs.Ready.{below_root, dir_above}
use Rattle.sync_command.specs.Maps.{at}
use Rattle.apply_model.proofs.tree_map.TreeMap.has_dir_above.Goals as goal

pub returns-then-depth-eq1 : goal.returns-then-depth-eq1
returns-then-depth-eq1 c = (λ t. below_root (at c.args.self.now) c.args.path.now (sym c.depth.ensures.names ∙ c.if-depth-eq1.true), λ h. subst (λ k. nat_eq k 1 ≡ true) (sym c.if-depth-eq1.true) refl)

pub returns-else-depth-eq1 : goal.returns-else-depth-eq1
returns-else-depth-eq1 c = dir_above c.self.inside.nodes.entries c.args.self.now c.self.view_is c.self.invariant c.any_dir_above.ensures.unique c.args.path.now _ c.any_dir_above.ensures.value
    (λ one. c.if-depth-eq1.false (c.depth.ensures.names ∙ one)) (subst (λ k. 0 < k) c.depth.ensures.names c.depth.ensures.some)
