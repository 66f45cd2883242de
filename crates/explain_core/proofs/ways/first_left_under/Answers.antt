use Rattle.std.proofs.Common.{arith, ap, sym, subst, ◌∙◌, ◌+◌, ◌≡◌, ◌<◌, true, false, length}
use Rattle.sync_path.specs.Paths.{is_under}
use Rattle.refluent.specs.Families.{IsFirstPlace}
use Rattle.explain_core.specs.Nexts.{IsLeftAt}
use Rattle.explain_core.proofs.Finding.{first_under, none_after, none_under, under_test}
use Rattle.explain_core.proofs.Placing.{some_is}
use Rattle.explain_core.proofs.ways.first_left_under.Goals as goal

pub returns-then-under : goal.returns-then-under
returns-then-under c ms n nexts top =
    let first = subst (IsFirstPlace (IsLeftAt c.args.joint.now.nodes ms) (c.args.place + 1) (length c.args.joint.now.nodes)) (sym c.in-Some.ensures) (nexts.each (c.args.place + 1) (omega arith)) in
    let above : c.node-above.result.now ≡ n = some_is (sym c.node-above.ensures ∙ top) in
    let names = c.depth-names.ensures.names in
    let some : 0 < length c.node-above.result.now = omega (arith, names, c.depth-names.ensures.some) in
    let under : is_under c.node.result.now n ≡ true = ap (is_under c.node.result.now) (sym above) ∙ sym (under_test c.node.result.now c.node-above.result.now some c.under.result c.under.ensures.0 c.under.ensures.1) ∙ c.if-under.true in
    (c.node.result.now, c.node.ensures, first_under c.args.joint.now.nodes c.requires.joint.stands.order ms n c.args.place top c.in-Some.low first c.node.result.now c.node.ensures under, under)

pub returns-else-under : goal.returns-else-under
returns-else-under c ms n nexts top =
    let first = subst (IsFirstPlace (IsLeftAt c.args.joint.now.nodes ms) (c.args.place + 1) (length c.args.joint.now.nodes)) (sym c.in-Some.ensures) (nexts.each (c.args.place + 1) (omega arith)) in
    let above : c.node-above.result.now ≡ n = some_is (sym c.node-above.ensures ∙ top) in
    let names = c.depth-names.ensures.names in
    let some : 0 < length c.node-above.result.now = omega (arith, names, c.depth-names.ensures.some) in
    let apart : is_under c.node.result.now n ≡ false = ap (is_under c.node.result.now) (sym above) ∙ sym (under_test c.node.result.now c.node-above.result.now some c.under.result c.under.ensures.0 c.under.ensures.1) ∙ c.if-under.false in
    none_under c.args.joint.now.nodes c.requires.joint.stands.order ms n c.args.place top c.in-Some.low first c.node.result.now c.node.ensures apart

pub returns-in-None : goal.returns-in-None
returns-in-None c ms n nexts top =
    let first = subst (IsFirstPlace (IsLeftAt c.args.joint.now.nodes ms) (c.args.place + 1) (length c.args.joint.now.nodes)) (sym c.in-None.ensures) (nexts.each (c.args.place + 1) (omega arith)) in
    none_after c.args.joint.now.nodes c.requires.joint.stands.order ms n c.args.place top first
