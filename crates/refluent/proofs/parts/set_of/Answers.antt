use Rattle.std.proofs.Common.{◌≡◌, ◌++◌, length, arith, ap, ◌∙◌, sym, subst}
use Rattle.std.specs.List.Sorted.{IsPermutation}
use Rattle.std.proofs.lemmas.Iterator.Consumers.{YieldsList-end}
use Rattle.std.proofs.lemmas.Iterator.Adapters.{YieldsList-from_vec}
use Rattle.std.proofs.lemmas.Result.{IfOk-weaker}
use Rattle.refluent.proofs.Gathering.{map_self}
use Rattle.refluent.proofs.Disagreeing.{written}
use Rattle.refluent.proofs.Listing.{arranged, one_still, fits_still, canonical_still}
use Rattle.refluent.proofs.parts.set_of.Goals as goal

pub from_parts-requires-clause-one : goal.from_parts-requires-clause-one
from_parts-requires-clause-one c =
    let gives = c.into_iter-command-iterator.ensures.into_iter_gives in
    let many : c.into_iter-command-iterator.result.rest.len ≡ length c.args.given.items = omega (arith, c.args.given.ok, gives.1) in
    let all = YieldsList-end (YieldsList-from_vec c.args.given.items gives.0 many) c.given.yielded c.given.command-iterator c.given.yielded_by c.next.result c.next.new.self c.in-None.is c.next.ensures.steps in
    let gives' = c.into_iter-command-iterator-2.ensures.into_iter_gives in
    let many' : c.into_iter-command-iterator-2.result.rest.len ≡ length c.given.others.items = omega (arith, c.given.others.ok, gives'.1) in
    let all' = YieldsList-end (YieldsList-from_vec c.given.others.items gives'.0 many') c.others.yielded c.others.command-iterator c.others.yielded_by c.next-in-others.result c.next-in-others.new.self c.in-None-command.is c.next-in-others.ensures.steps in
    let long : length c.reverse.new.self ≡ length c.given.commands.items = c.reverse.auto.self ∙ ap length c.as_mut_slice.ensures.value in
    let moved = arranged c.given.yielded c.given.commands.items c.reverse.new.self c.given.others.items c.others.commands.items c.given.invariant.downs c.given.invariant.others (subst (λ l. IsPermutation l c.reverse.new.self) c.as_mut_slice.ensures.value c.reverse.ensures.permutation)
    (c.others.invariant ∙ ap (λ l. l ++ c.others.yielded) (written c.reverse.new.self c.given.commands.items c.given.commands.len (omega (arith, c.given.commands.ok)) long) ∙ ap (λ l. c.reverse.new.self ++ l) (sym (map_self c.others.yielded) ∙ all'.0)) in
    let same : c.given.yielded ≡ c.args.given.items = sym (map_self c.given.yielded) ∙ all.0 in
    let here = subst (λ l. IsPermutation l c.others.commands.items) same moved in
    one_still c.args.given.items c.others.commands.items c.requires.one here

pub from_parts-requires-clause-fitting : goal.from_parts-requires-clause-fitting
from_parts-requires-clause-fitting c =
    let gives = c.into_iter-command-iterator.ensures.into_iter_gives in
    let many : c.into_iter-command-iterator.result.rest.len ≡ length c.args.given.items = omega (arith, c.args.given.ok, gives.1) in
    let all = YieldsList-end (YieldsList-from_vec c.args.given.items gives.0 many) c.given.yielded c.given.command-iterator c.given.yielded_by c.next.result c.next.new.self c.in-None.is c.next.ensures.steps in
    let gives' = c.into_iter-command-iterator-2.ensures.into_iter_gives in
    let many' : c.into_iter-command-iterator-2.result.rest.len ≡ length c.given.others.items = omega (arith, c.given.others.ok, gives'.1) in
    let all' = YieldsList-end (YieldsList-from_vec c.given.others.items gives'.0 many') c.others.yielded c.others.command-iterator c.others.yielded_by c.next-in-others.result c.next-in-others.new.self c.in-None-command.is c.next-in-others.ensures.steps in
    let long : length c.reverse.new.self ≡ length c.given.commands.items = c.reverse.auto.self ∙ ap length c.as_mut_slice.ensures.value in
    let moved = arranged c.given.yielded c.given.commands.items c.reverse.new.self c.given.others.items c.others.commands.items c.given.invariant.downs c.given.invariant.others (subst (λ l. IsPermutation l c.reverse.new.self) c.as_mut_slice.ensures.value c.reverse.ensures.permutation)
    (c.others.invariant ∙ ap (λ l. l ++ c.others.yielded) (written c.reverse.new.self c.given.commands.items c.given.commands.len (omega (arith, c.given.commands.ok)) long) ∙ ap (λ l. c.reverse.new.self ++ l) (sym (map_self c.others.yielded) ∙ all'.0)) in
    let same : c.given.yielded ≡ c.args.given.items = sym (map_self c.given.yielded) ∙ all.0 in
    let here = subst (λ l. IsPermutation l c.others.commands.items) same moved in
    fits_still c.args.given.items c.others.commands.items c.requires.one here c.requires.fitting

pub returns : goal.returns
returns c =
    let gives = c.into_iter-command-iterator.ensures.into_iter_gives in
    let many : c.into_iter-command-iterator.result.rest.len ≡ length c.args.given.items = omega (arith, c.args.given.ok, gives.1) in
    let all = YieldsList-end (YieldsList-from_vec c.args.given.items gives.0 many) c.given.yielded c.given.command-iterator c.given.yielded_by c.next.result c.next.new.self c.in-None.is c.next.ensures.steps in
    let gives' = c.into_iter-command-iterator-2.ensures.into_iter_gives in
    let many' : c.into_iter-command-iterator-2.result.rest.len ≡ length c.given.others.items = omega (arith, c.given.others.ok, gives'.1) in
    let all' = YieldsList-end (YieldsList-from_vec c.given.others.items gives'.0 many') c.others.yielded c.others.command-iterator c.others.yielded_by c.next-in-others.result c.next-in-others.new.self c.in-None-command.is c.next-in-others.ensures.steps in
    let long : length c.reverse.new.self ≡ length c.given.commands.items = c.reverse.auto.self ∙ ap length c.as_mut_slice.ensures.value in
    let moved = arranged c.given.yielded c.given.commands.items c.reverse.new.self c.given.others.items c.others.commands.items c.given.invariant.downs c.given.invariant.others (subst (λ l. IsPermutation l c.reverse.new.self) c.as_mut_slice.ensures.value c.reverse.ensures.permutation)
    (c.others.invariant ∙ ap (λ l. l ++ c.others.yielded) (written c.reverse.new.self c.given.commands.items c.given.commands.len (omega (arith, c.given.commands.ok)) long) ∙ ap (λ l. c.reverse.new.self ++ l) (sym (map_self c.others.yielded) ∙ all'.0)) in
    let same : c.given.yielded ≡ c.args.given.items = sym (map_self c.given.yielded) ∙ all.0 in
    let here = subst (λ l. IsPermutation l c.others.commands.items) same moved in
    IfOk-weaker c.from_parts.result _ _ (λ s e. e ∙ canonical_still c.args.given.items c.others.commands.items c.requires.one here) c.from_parts.ensures
