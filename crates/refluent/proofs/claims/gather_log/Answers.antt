use Rattle.std.proofs.Common.{◌≡◌, length, arith, ap, ◌∙◌, sym}
use Rattle.std.proofs.lemmas.Iterator.Consumers.{YieldsList-end}
use Rattle.std.proofs.lemmas.Iterator.Adapters.{YieldsList-from_vec}
use Rattle.sync_path.specs.Children.{has}
use Rattle.refluent.proofs.Gathering.{adds, map_self}
use Rattle.refluent.proofs.claims.gather_log.Goals as goal

pub returns-clause-claims : goal.returns-clause-claims
returns-clause-claims c =
    let gives = c.into_iter-touch-iterator.ensures.into_iter_gives in
    let many : c.into_iter-touch-iterator.result.rest.len ≡ length c.in_ok-touches.touches.items = omega (arith, c.in_ok-touches.touches.ok, gives.1) in
    let all = YieldsList-end (YieldsList-from_vec c.in_ok-touches.touches.items gives.0 many) c.touches.yielded c.touches.touch-iterator c.touches.yielded_by c.next.result c.next.new.self c.in-None.is c.next.ensures.steps in
    let gives' = c.into_iter-path-iterator.ensures.into_iter_gives in
    let many' : c.into_iter-path-iterator.result.rest.len ≡ length c.in_ok-touches.paths.items = omega (arith, c.in_ok-touches.paths.ok, gives'.1) in
    let all' = YieldsList-end (YieldsList-from_vec c.in_ok-touches.paths.items gives'.0 many') c.paths.yielded c.paths.path-iterator c.paths.yielded_by c.next-in-paths.result c.next-in-paths.new.self c.in-None-path.is c.next-in-paths.ensures.steps in
    adds c.args.claims.now.items c.touches.claims.items c.paths.claims.items c.args.log c.args.sum c.touches.yielded c.paths.yielded c.touches.invariant c.paths.invariant (sym (map_self c.touches.yielded) ∙ all.0 ∙ c.in_ok-touches.ensures.touched) (λ cs st p. ap (λ ps. has ps p) (sym (map_self c.paths.yielded) ∙ all'.0) ∙ c.in_ok-touches.ensures.above cs st p) c.in_ok-touches.ensures.log
