use Rattle.std.proofs.Common.{◌≡◌, Some, ap, refl, subst, sym}
use Rattle.std.specs.Prelude.{IsSome, true}
use Rattle.std.specs.HashMap as hash
use Rattle.sync_path.specs.Order.{path_eq}
use Rattle.apply_model.specs.declared.table.Entry.{Entry}
use Rattle.apply_model.specs.Tables.{recounted}
use Rattle.apply_model.proofs.Tables.{unwritten, written, written_same}
use Rattle.apply_model.proofs.table.add_child.Goals as goal

pub returns-in_default-checked_add-clause-err : goal.returns-in_default-checked_add-clause-err
returns-in_default-checked_add-clause-err c = let s : Entry = c.in-Some.entry.now in
    let at : Some s ≡ hash.get path_eq c.args.nodes.now c.args.above.now = c.in-Some.ensures.value in
    written_same (hash.get path_eq c.args.nodes.now) _ c.args.above.now s s at ((c.get_mut.follows.holds s).3 (subst IsSome at refl)).0 refl

pub returns-in-Some-checked_add-clause-ok : goal.returns-in-Some-checked_add-clause-ok
returns-in-Some-checked_add-clause-ok c = let s : Entry = c.in-Some.entry.now in let v : Entry = record { value = s.value; children = c.in-Some-checked_add.children } in
    let at : Some s ≡ hash.get path_eq c.args.nodes.now c.args.above.now = c.in-Some.ensures.value in
    written (hash.get path_eq c.args.nodes.now) _ c.args.above.now s v at ((c.get_mut.follows.holds v).3 (subst IsSome at refl)).0 (recounted true)
    (ap (λ n. Some (record { value = s.value; children = n })) (sym c.in-Some-checked_add.ensures.1))

pub returns-in_default-clause-ok : goal.returns-in_default-clause-ok
returns-in_default-clause-ok c = unwritten (hash.get path_eq c.args.nodes.now) _ c.args.above.now c.in_default.ensures.value (λ p. ap (λ m. hash.get path_eq m p) c.get_mut.follows.holds-at-none) (recounted true) refl
