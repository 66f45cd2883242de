use Rattle.std.proofs.Common.{◌≡◌, ◌∙◌, ◌∷◌, ◌++◌, List, length, ap, arith, subst, refl}
use Rattle.std.proofs.lemmas.Result.{err_from_is_err_and}
use Rattle.std.specs.List.{concat}
use Rattle.log_text.specs.Frame.{ended}
use Rattle.sync_port.specs.States.{IfKnown}
use Rattle.sync_port.specs.Sending.{Passes}
use Rattle.clash_list.specs.declared.clashes.Clash.{Clash}
use Rattle.treesync.specs.Conflicts.{clash_text, lines_of}
use Rattle.treesync.proofs.WritingLemmas.{line_passed, line_stopped, lines_begin, lines_stopped}
use Rattle.treesync.proofs.writing.write_lines.Goals as goal

pub clashes-init : goal.clashes-init
clashes-init g c = record {
  faults = refl;
  count = omega arith;
  passes = lines_begin (g.O.Sink.sink c.args.out.now) (c.args.block.now.items ++ concat (lines_of c.args.joint.now.nodes c.args.clashes.now));
}

pub clashes-preserved : goal.clashes-preserved
clashes-preserved g c =
    let e : c.clashes.clashes ≡ c.in-Some.clash ∷ c.next.new.self = c.in-Some.ensures in
    record {
      faults = c.in_ok-write_line.ensures.faults.done ∙ c.clashes.invariant.faults;
      count = omega (arith, c.clashes.invariant.count, ap length e, c.in_ok-count.ensures.more);
      passes = line_passed (Unit {0}) (g.O.Sink.sink c.args.out.now) (g.O.Sink.sink c.clashes.out) (g.O.Sink.sink c.write_line.new.out) (c.args.block.now.items ++ concat (lines_of c.args.joint.now.nodes c.args.clashes.now))
          c.clashes.block.items (ended (clash_text c.args.joint.now.nodes c.in-Some.clash)) (concat (lines_of c.args.joint.now.nodes c.next.new.self))
          (subst (λ (cs : List Clash). IfKnown (g.O.Sink.sink c.args.out.now) (g.O.Sink.sink c.clashes.out) (Passes (c.args.block.now.items ++ concat (lines_of c.args.joint.now.nodes c.args.clashes.now)) (c.clashes.block.items ++ concat (lines_of c.args.joint.now.nodes cs)))) e c.clashes.invariant.passes)
          c.write_line.new.block.items tt c.in_ok-write_line.ensures.contents;
    }

pub returns-in_err-write_line-clause-contents : goal.returns-in_err-write_line-clause-contents
returns-in_err-write_line-clause-contents g c =
    let e : c.clashes.clashes ≡ c.in-Some.clash ∷ c.next.new.self = c.in-Some.ensures in
    let p = err_from_is_err_and c.from_residual.result c.from_residual.ensures.1 in
    rw p.1 (line_stopped (Unit {0}) (g.O.Sink.sink c.args.out.now) (g.O.Sink.sink c.clashes.out) (g.O.Sink.sink c.write_line.new.out) (c.args.block.now.items ++ concat (lines_of c.args.joint.now.nodes c.args.clashes.now))
    c.clashes.block.items (ended (clash_text c.args.joint.now.nodes c.in-Some.clash)) (concat (lines_of c.args.joint.now.nodes c.next.new.self))
    (subst (λ (cs : List Clash). IfKnown (g.O.Sink.sink c.args.out.now) (g.O.Sink.sink c.clashes.out) (Passes (c.args.block.now.items ++ concat (lines_of c.args.joint.now.nodes c.args.clashes.now)) (c.clashes.block.items ++ concat (lines_of c.args.joint.now.nodes cs)))) e c.clashes.invariant.passes)
    c.write_line.new.block.items c.in_err-write_line.field-0.0 c.in_err-write_line.ensures.contents)

pub returns-in_err-count-clause-contents : goal.returns-in_err-count-clause-contents
returns-in_err-count-clause-contents g c =
    let e : c.clashes.clashes ≡ c.in-Some.clash ∷ c.next.new.self = c.in-Some.ensures in
    let p = err_from_is_err_and c.from_residual-in_err-count.result c.from_residual-in_err-count.ensures.1 in
    rw p.1 (lines_stopped (g.O.Sink.sink c.args.out.now) (g.O.Sink.sink c.write_line.new.out) (c.args.block.now.items ++ concat (lines_of c.args.joint.now.nodes c.args.clashes.now))
    (c.write_line.new.block.items ++ concat (lines_of c.args.joint.now.nodes c.next.new.self)) c.write_line.new.block.items p.0
    (line_passed (Unit {0}) (g.O.Sink.sink c.args.out.now) (g.O.Sink.sink c.clashes.out) (g.O.Sink.sink c.write_line.new.out) (c.args.block.now.items ++ concat (lines_of c.args.joint.now.nodes c.args.clashes.now))
    c.clashes.block.items (ended (clash_text c.args.joint.now.nodes c.in-Some.clash)) (concat (lines_of c.args.joint.now.nodes c.next.new.self))
    (subst (λ (cs : List Clash). IfKnown (g.O.Sink.sink c.args.out.now) (g.O.Sink.sink c.clashes.out) (Passes (c.args.block.now.items ++ concat (lines_of c.args.joint.now.nodes c.args.clashes.now)) (c.clashes.block.items ++ concat (lines_of c.args.joint.now.nodes cs)))) e c.clashes.invariant.passes)
    c.write_line.new.block.items tt c.in_ok-write_line.ensures.contents))
