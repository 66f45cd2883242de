use Rattle.std.proofs.Common.{◌≡◌, ◌++◌, List, ℕ, Err, Ok, codes, length, subst, sym, ap, ◌∙◌}
use Rattle.std.proofs.lemmas.Result.{err_from_is_err_and}
use Rattle.std.specs.List.{concat}
use Rattle.sync_port.specs.States.{IfKnown}
use Rattle.sync_port.specs.Sending.{Passes}
use Rattle.clash_list.specs.ClashLists.{clashes}
use Rattle.clash_list.specs.declared.clashes.Clash.{Clash}
use Rattle.treesync.specs.Conflicts.{clash_lines, lines_of}
use Rattle.treesync.specs.Outputs.{number_line}
use Rattle.treesync.specs.Writing.{WritesAll}
use Rattle.treesync.specs.declared.writing.WriteFault.{WriteFault}
use Rattle.treesync.proofs.WritingLemmas.{lined, text_failed, text_stopped, text_written}
use Rattle.treesync.proofs.writing.write_clashes.Goals as goal

pub returns-in_err-number-clause-contents : goal.returns-in_err-number-clause-contents
returns-in_err-number-clause-contents g c =
    let p = err_from_is_err_and c.from_residual-in_err-number.result c.from_residual-in_err-number.ensures.1 in
    rw p.1 (text_stopped (g.O.Sink.sink c.args.out.now) (g.O.Sink.sink c.write_lines.new.out) c.new-block.result.items (concat (clash_lines c.args.joint.now)) (number_line (codes "clashes ") (length (clash_lines c.args.joint.now))) p.0 c.new-block.ensures.items
    (subst (λ (cs : List Clash). IfKnown (g.O.Sink.sink c.args.out.now) (g.O.Sink.sink c.write_lines.new.out) (λ m k. (rest : List ℕ) × Passes (c.new-block.result.items ++ concat (lines_of c.args.joint.now.nodes cs)) rest m k))
    c.in_ok-clashes.ensures c.in_err-number.ensures.contents))

pub returns-in_err-write_number-clause-contents : goal.returns-in_err-write_number-clause-contents
returns-in_err-write_number-clause-contents g c =
    let p = err_from_is_err_and c.from_residual-in_err-write_number.result c.from_residual-in_err-write_number.ensures.1 in
    let many : c.in_ok-number.number ≡ length (clash_lines c.args.joint.now) = c.in_ok-number.ensures.number ∙ ap (λ (cs : List Clash). length cs) c.in_ok-clashes.ensures ∙ sym (lined c.args.joint.now.nodes (clashes c.args.joint.now)) in
    rw p.1 (text_failed (g.O.Sink.sink c.args.out.now) (g.O.Sink.sink c.write_lines.new.out) (g.O.Sink.sink c.write_number.new.out) c.new-block.result.items (concat (clash_lines c.args.joint.now)) c.write_lines.new.block.items
    (number_line (codes "clashes ") (length (clash_lines c.args.joint.now))) c.new-block.ensures.items
    (subst (λ (cs : List Clash). IfKnown (g.O.Sink.sink c.args.out.now) (g.O.Sink.sink c.write_lines.new.out) (Passes (c.new-block.result.items ++ concat (lines_of c.args.joint.now.nodes cs)) c.write_lines.new.block.items)) c.in_ok-clashes.ensures c.in_ok-number.ensures.contents)
    c.in_err-write_number.field-0.0 p.0
    (subst (λ (n : ℕ). IfKnown (g.O.Sink.sink c.write_lines.new.out) (g.O.Sink.sink c.write_number.new.out) (WritesAll {T = Unit {0}} (c.write_lines.new.block.items ++ number_line (codes "clashes ") n) (Err c.in_err-write_number.field-0.0))) many c.in_err-write_number.ensures.contents))

pub returns-clause-contents : goal.returns-clause-contents
returns-clause-contents g c =
    let many : c.in_ok-number.number ≡ length (clash_lines c.args.joint.now) = c.in_ok-number.ensures.number ∙ ap (λ (cs : List Clash). length cs) c.in_ok-clashes.ensures ∙ sym (lined c.args.joint.now.nodes (clashes c.args.joint.now)) in
    text_written (g.O.Sink.sink c.args.out.now) (g.O.Sink.sink c.write_lines.new.out) (g.O.Sink.sink c.write_number.new.out) c.new-block.result.items (concat (clash_lines c.args.joint.now)) c.write_lines.new.block.items
    (number_line (codes "clashes ") (length (clash_lines c.args.joint.now))) c.new-block.ensures.items
    (subst (λ (cs : List Clash). IfKnown (g.O.Sink.sink c.args.out.now) (g.O.Sink.sink c.write_lines.new.out) (Passes (c.new-block.result.items ++ concat (lines_of c.args.joint.now.nodes cs)) c.write_lines.new.block.items)) c.in_ok-clashes.ensures c.in_ok-number.ensures.contents)
    tt c.in_ok-number.number
    (subst (λ (n : ℕ). IfKnown (g.O.Sink.sink c.write_lines.new.out) (g.O.Sink.sink c.write_number.new.out) (WritesAll {T = Unit {0}} {E = WriteFault} (c.write_lines.new.block.items ++ number_line (codes "clashes ") n) (Ok tt))) many c.in_ok-write_number.ensures.contents)
