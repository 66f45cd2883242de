use Rattle.std.proofs.Common.{◌∷◌, [], add-one, ap, arith, length, length-append, rules}
use Rattle.std.proofs.lemmas.Iterator.Adapters.{YieldsList-from_vec}
use Rattle.std.proofs.lemmas.Iterator.Consumers.{YieldsList-end, YieldsList-from_enumerate, YieldsList-turn}
use Rattle.std.proofs.lemmas.List.{length_push}
use Rattle.treesync.proofs.JoinLemmas.{all_counted, all_sums, counted, one_broken, one_sum}
use Rattle.treesync.proofs.joining.sums_of.Goals as goal

pub returns-in-Some-broken-clause-sums : goal.returns-in-Some-broken-clause-sums
returns-in-Some-broken-clause-sums c = λ reads h.
    let item = YieldsList-turn (YieldsList-from_enumerate {s = c.into_iter-at-iterator.result} (YieldsList-from_vec c.args.logs.items (search rules) (search rules)) (search rules))
    c.logs.yielded _ c.logs.yielded_by c.next.result c.next.new.self (c.in-Some.at, c.in-Some.log) c.in-Some.is c.next.ensures.steps in
    let turn = counted c.args.logs.items c.in-Some.at (length c.logs.yielded) c.in-Some.log item.0 item.1 in
    one_broken c.args.logs.items (length c.logs.yielded) c.in-Some.log turn.0 turn.2 c.logs.sums.items c.logs.invariant.sums c.args.names.now c.place.result c.in-Some-broken.number reads c.in-Some-broken.is
    (rw (← turn.1) c.place.ensures.operand) h

pub logs-preserved : goal.logs-preserved
logs-preserved c =
    let item = YieldsList-turn (YieldsList-from_enumerate {s = c.into_iter-at-iterator.result} (YieldsList-from_vec c.args.logs.items (search rules) (search rules)) (search rules))
    c.logs.yielded _ c.logs.yielded_by c.next.result c.next.new.self (c.in-Some.at, c.in-Some.log) c.in-Some.is c.next.ensures.steps in
    let turn = counted c.args.logs.items c.in-Some.at (length c.logs.yielded) c.in-Some.log item.0 item.1 in
    let more = length_push c.logs.yielded (c.in-Some.at, c.in-Some.log) in
    record {
      many = omega (arith, more, ap length c.in_ok-push_sum-in-None-broken.ensures, length-append c.logs.sums.items (c.in-Some.log.commands.sum ∷ []), c.logs.invariant.many);
      sums = rw (more, add-one, c.in_ok-push_sum-in-None-broken.ensures) (one_sum c.args.logs.items (length c.logs.yielded) c.in-Some.log turn.0 turn.2 c.logs.sums.items c.logs.invariant.sums c.in-None-broken.is);
    }

pub returns-clause-sums : goal.returns-clause-sums
returns-clause-sums c = λ reads h.
    let end = YieldsList-end (YieldsList-from_enumerate {s = c.into_iter-at-iterator.result} (YieldsList-from_vec c.args.logs.items (search rules) (search rules)) (search rules))
    c.logs.yielded _ c.logs.yielded_by c.next.result c.next.new.self c.in-None.is c.next.ensures.steps in
    all_sums c.args.logs.items (length c.logs.yielded) c.logs.sums c.args.names.now reads (all_counted c.args.logs.items c.logs.yielded end.1) c.logs.invariant.sums h
