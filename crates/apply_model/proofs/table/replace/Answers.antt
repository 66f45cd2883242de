use Rattle.std.proofs.Common.{◌≡◌, Some, ap, refl, subst}
use Rattle.std.specs.Prelude.{IsSome}
use Rattle.std.specs.HashMap as hash
use Rattle.sync_path.specs.Order.{path_eq}
use Rattle.apply_model.specs.declared.table.Entry.{Entry}
use Rattle.apply_model.specs.Tables.{revalued}
use Rattle.apply_model.proofs.Tables.{unwritten, written}
use Rattle.apply_model.proofs.table.replace.Goals as goal

pub returns-in-Some : goal.returns-in-Some
returns-in-Some c = let s : Entry = c.in-Some.entry.now in let v : Entry = record { value = c.args.value; children = s.children } in
    let at : Some s ≡ hash.get path_eq c.args.nodes.now c.args.path.now = c.in-Some.ensures.value in
    written (hash.get path_eq c.args.nodes.now) _ c.args.path.now s v at ((c.get_mut.follows.holds v).3 (subst IsSome at refl)).0 (revalued c.args.value) refl

pub returns-in_default : goal.returns-in_default
returns-in_default c = unwritten (hash.get path_eq c.args.nodes.now) _ c.args.path.now c.in_default.ensures.value (λ p. ap (λ m. hash.get path_eq m p) c.get_mut.follows.holds-at-none) (revalued c.args.value) refl
