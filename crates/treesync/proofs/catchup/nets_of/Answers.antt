use Rattle.std.proofs.Common.{◌≡◌, ◌∷◌, [], ap, arith, length, length-append, add-one}
use Rattle.std.proofs.lemmas.Iterator.Adapters.{YieldsList-from_vec}
use Rattle.std.proofs.lemmas.Iterator.Consumers.{YieldsList-end, YieldsList-turn}
use Rattle.std.proofs.lemmas.List.{length_push}
use Rattle.treesync.proofs.Catching.{all_nets, one_net}
use Rattle.treesync.proofs.catchup.nets_of.Goals as goal

pub sums-preserved : goal.sums-preserved
sums-preserved c =
    let gives = c.into_iter-sum-iterator.ensures.into_iter_gives in
    let many : c.into_iter-sum-iterator.result.rest.len ≡ length c.args.sums.items = omega (arith, c.args.sums.ok, gives.1) in
    let turn = YieldsList-turn (YieldsList-from_vec c.args.sums.items gives.0 many) c.sums.yielded c.sums.sum-iterator c.sums.yielded_by c.next.result c.next.new.self c.in-Some.sum c.in-Some.is c.next.ensures.steps in
    let more = length_push c.sums.yielded c.in-Some.sum in
    record {
      many = omega (arith, more, ap length c.in_ok-push.ensures.items, length-append c.sums.sets.items (c.in_ok-into_net.field-0 ∷ []), c.sums.invariant.many);
      nets = rw (more, add-one, c.in_ok-push.ensures.items) (
          one_net c.args.sums.items (length c.sums.yielded) c.sums.sets.items c.sums.invariant.nets c.in-Some.sum c.in_ok-into_net.field-0 turn.0 turn.1 (λ cs s. c.in_ok-into_net.ensures cs s));
    }

pub returns-clause-nets : goal.returns-clause-nets
returns-clause-nets c =
    let gives = c.into_iter-sum-iterator.ensures.into_iter_gives in
    let many : c.into_iter-sum-iterator.result.rest.len ≡ length c.args.sums.items = omega (arith, c.args.sums.ok, gives.1) in
    let end = YieldsList-end (YieldsList-from_vec c.args.sums.items gives.0 many) c.sums.yielded c.sums.sum-iterator c.sums.yielded_by c.next.result c.next.new.self c.in-None.is c.next.ensures.steps in
    all_nets c.args.sums.items (length c.sums.yielded) c.sums.sets.items c.sums.invariant.nets (omega (arith, end.1))
