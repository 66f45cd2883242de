use Rattle.std.proofs.Common.{◌≡◌, Some, ap, refl, subst, sym}
use Rattle.std.specs.Prelude.{IsSome, false}
use Rattle.std.specs.HashMap as hash
use Rattle.sync_path.specs.Order.{path_eq}
use Rattle.apply_model.specs.declared.table.Entry.{Entry}
use Rattle.apply_model.specs.Tables.{recounted}
use Rattle.apply_model.proofs.Tables.{unwritten, written}
use Rattle.apply_model.proofs.table.remove_child.Goals as goal

pub returns-in-Some : goal.returns-in-Some
returns-in-Some c = let s : Entry = c.in-Some.entry.now in let v : Entry = record { value = s.value; children = c.saturating_sub-entry.result } in
    let at : Some s ≡ hash.get path_eq c.args.nodes.now c.args.above.now = c.in-Some.ensures.value in
    written (hash.get path_eq c.args.nodes.now) _ c.args.above.now s v at ((c.get_mut.follows.holds v).3 (subst IsSome at refl)).0 (recounted false)
    (ap (λ n. Some (record { value = s.value; children = n })) (sym c.saturating_sub-entry.ensures))

pub returns-in_default : goal.returns-in_default
returns-in_default c = unwritten (hash.get path_eq c.args.nodes.now) _ c.args.above.now c.in_default.ensures.value (λ p. ap (λ m. hash.get path_eq m p) c.get_mut.follows.holds-at-none) (recounted false) refl
