use Rattle.std.proofs.Common.{◌∙◌, refl, sym}
use Rattle.sync_path.proofs.Cuts.{parent_path, names_in-some}
use Rattle.sync_path.proofs.Texts.{parent-root, parent-cut}
use Rattle.sync_path.proofs.path.Path.pop.Goals as goal

pub invariant_of-self : goal.invariant_of-self
invariant_of-self c =
    rw c.truncate.ensures.items
    (parent_path _ _ _ (rw c.deref.ensures.value at c.in-Some.ensures.names) (names_in-some _) c.self.invariant)

pub returns-in_default-clause-root : goal.returns-in_default-clause-root
returns-in_default-clause-root c =
    (sym (parent-root c.args.self.now _ (sym c.self.view_is ∙ rw c.deref.ensures.value at c.in_default.ensures.names)), refl)

pub returns-clause-up : goal.returns-clause-up
returns-clause-up c =
    rw c.truncate.ensures.items
    (sym (parent-cut c.args.self.now _ _ (names_in-some _) (sym c.self.view_is ∙ rw c.deref.ensures.value at c.in-Some.ensures.names)))
