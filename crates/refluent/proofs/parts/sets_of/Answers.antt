use Rattle.std.proofs.Common.{◌≡◌, length, arith, ap, ◌∙◌, map, sym}
use Rattle.std.proofs.lemmas.Iterator.Consumers.{YieldsList-end, YieldsList-turn}
use Rattle.std.proofs.lemmas.Iterator.Adapters.{YieldsList-from_vec}
use Rattle.canon_set.specs.Sets.{canonical}
use Rattle.refluent.proofs.Gathering.{map_self}
use Rattle.refluent.proofs.Listing.{list_is, one_of, fitting_of, sets_are}
use Rattle.refluent.proofs.parts.sets_of.Goals as goal

pub lists_of-requires : goal.lists_of-requires
lists_of-requires c = c.requires.logs

pub set_of-requires-clause-one : goal.set_of-requires-clause-one
set_of-requires-clause-one c =
    let gives = c.into_iter-list-iterator.ensures.into_iter_gives in
    let many : c.into_iter-list-iterator.result.rest.len ≡ length c.in_ok-lists.lists.items = omega (arith, c.in_ok-lists.lists.ok, gives.1) in
    let turn = YieldsList-turn (YieldsList-from_vec c.in_ok-lists.lists.items gives.0 many) c.lists.yielded c.lists.list-iterator c.lists.yielded_by c.next.result c.next.new.self c.in-Some.list c.in-Some.is c.next.ensures.steps in
    let k = list_is c.in_ok-lists.lists.items c.args.claims.items c.args.count (length c.lists.yielded) c.in-Some.list c.in_ok-lists.ensures.many c.in_ok-lists.ensures.each turn.0 turn.1 in
    one_of c.args.claims.items c.args.count (length c.lists.yielded) c.in-Some.list.items c.requires k.0 k.1

pub set_of-requires-clause-fitting : goal.set_of-requires-clause-fitting
set_of-requires-clause-fitting c =
    let gives = c.into_iter-list-iterator.ensures.into_iter_gives in
    let many : c.into_iter-list-iterator.result.rest.len ≡ length c.in_ok-lists.lists.items = omega (arith, c.in_ok-lists.lists.ok, gives.1) in
    let turn = YieldsList-turn (YieldsList-from_vec c.in_ok-lists.lists.items gives.0 many) c.lists.yielded c.lists.list-iterator c.lists.yielded_by c.next.result c.next.new.self c.in-Some.list c.in-Some.is c.next.ensures.steps in
    let k = list_is c.in_ok-lists.lists.items c.args.claims.items c.args.count (length c.lists.yielded) c.in-Some.list c.in_ok-lists.ensures.many c.in_ok-lists.ensures.each turn.0 turn.1 in
    fitting_of c.args.claims.items c.args.count (length c.lists.yielded) c.in-Some.list.items c.requires k.0 k.1

pub returns : goal.returns
returns c =
    let gives = c.into_iter-list-iterator.ensures.into_iter_gives in
    let many : c.into_iter-list-iterator.result.rest.len ≡ length c.in_ok-lists.lists.items = omega (arith, c.in_ok-lists.lists.ok, gives.1) in
    let all = YieldsList-end (YieldsList-from_vec c.in_ok-lists.lists.items gives.0 many) c.lists.yielded c.lists.list-iterator c.lists.yielded_by c.next.result c.next.new.self c.in-None.is c.next.ensures.steps in
    c.lists.invariant ∙ ap (map (λ v. canonical v.items)) (sym (map_self c.lists.yielded) ∙ all.0) ∙ sets_are c.in_ok-lists.lists.items c.args.claims.items c.args.count c.in_ok-lists.ensures.many c.in_ok-lists.ensures.each
