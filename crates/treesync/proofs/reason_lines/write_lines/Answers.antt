use Rattle.std.proofs.Common.{◌≡◌, ◌∙◌, ◌∷◌, ◌++◌, List, length, ap, arith, subst, refl}
use Rattle.std.proofs.lemmas.Result.{err_from_is_err_and}
use Rattle.std.specs.List.{concat}
use Rattle.log_text.specs.Frame.{ended}
use Rattle.sync_port.specs.States.{IfKnown}
use Rattle.sync_port.specs.Sending.{Passes}
use Rattle.explain_core.specs.declared.reasons.Reason.{Reason}
use Rattle.treesync.specs.Explain.{reason_lines_of, reason_text}
use Rattle.treesync.proofs.WritingLemmas.{line_passed, line_stopped, lines_begin, lines_stopped}
use Rattle.treesync.proofs.reason_lines.write_lines.Goals as goal

pub reasons-init : goal.reasons-init
reasons-init g c = record {
  faults = refl;
  count = omega arith;
  passes = lines_begin (g.O.Sink.sink c.args.out.now) (c.args.block.now.items ++ concat (reason_lines_of c.args.joint.now.nodes c.args.reasons.now));
}

pub reasons-preserved : goal.reasons-preserved
reasons-preserved g c =
    let e : c.reasons.reasons ≡ c.in-Some.reason ∷ c.next.new.self = rw c.in-Some.is at c.in_ok-reason.ensures.next in
    record {
      faults = c.in_ok-write_reason.ensures.faults.done ∙ c.reasons.invariant.faults;
      count = omega (arith, c.reasons.invariant.count, ap length e, c.in_ok-count.ensures.more);
      passes = line_passed (Unit {0}) (g.O.Sink.sink c.args.out.now) (g.O.Sink.sink c.reasons.out) (g.O.Sink.sink c.write_reason.new.out) (c.args.block.now.items ++ concat (reason_lines_of c.args.joint.now.nodes c.args.reasons.now))
          c.reasons.block.items (ended (reason_text c.args.joint.now.nodes c.in-Some.reason)) (concat (reason_lines_of c.args.joint.now.nodes c.next.new.self))
          (subst (λ (cs : List Reason). IfKnown (g.O.Sink.sink c.args.out.now) (g.O.Sink.sink c.reasons.out) (Passes (c.args.block.now.items ++ concat (reason_lines_of c.args.joint.now.nodes c.args.reasons.now)) (c.reasons.block.items ++ concat (reason_lines_of c.args.joint.now.nodes cs)))) e c.reasons.invariant.passes)
          c.write_reason.new.block.items tt c.in_ok-write_reason.ensures.contents;
    }

pub returns-in_err-write_reason-clause-contents : goal.returns-in_err-write_reason-clause-contents
returns-in_err-write_reason-clause-contents g c =
    let e : c.reasons.reasons ≡ c.in-Some.reason ∷ c.next.new.self = rw c.in-Some.is at c.in_ok-reason.ensures.next in
    let p = err_from_is_err_and c.from_residual-in_err-write_reason.result c.from_residual-in_err-write_reason.ensures.1 in
    rw p.1 (line_stopped (Unit {0}) (g.O.Sink.sink c.args.out.now) (g.O.Sink.sink c.reasons.out) (g.O.Sink.sink c.write_reason.new.out) (c.args.block.now.items ++ concat (reason_lines_of c.args.joint.now.nodes c.args.reasons.now))
    c.reasons.block.items (ended (reason_text c.args.joint.now.nodes c.in-Some.reason)) (concat (reason_lines_of c.args.joint.now.nodes c.next.new.self))
    (subst (λ (cs : List Reason). IfKnown (g.O.Sink.sink c.args.out.now) (g.O.Sink.sink c.reasons.out) (Passes (c.args.block.now.items ++ concat (reason_lines_of c.args.joint.now.nodes c.args.reasons.now)) (c.reasons.block.items ++ concat (reason_lines_of c.args.joint.now.nodes cs)))) e c.reasons.invariant.passes)
    c.write_reason.new.block.items c.in_err-write_reason.field-0.0 c.in_err-write_reason.ensures.contents)

pub returns-in_err-count-clause-contents : goal.returns-in_err-count-clause-contents
returns-in_err-count-clause-contents g c =
    let e : c.reasons.reasons ≡ c.in-Some.reason ∷ c.next.new.self = rw c.in-Some.is at c.in_ok-reason.ensures.next in
    let p = err_from_is_err_and c.from_residual-in_err-count.result c.from_residual-in_err-count.ensures.1 in
    rw p.1 (lines_stopped (g.O.Sink.sink c.args.out.now) (g.O.Sink.sink c.write_reason.new.out) (c.args.block.now.items ++ concat (reason_lines_of c.args.joint.now.nodes c.args.reasons.now))
    (c.write_reason.new.block.items ++ concat (reason_lines_of c.args.joint.now.nodes c.next.new.self)) c.write_reason.new.block.items p.0
    (line_passed (Unit {0}) (g.O.Sink.sink c.args.out.now) (g.O.Sink.sink c.reasons.out) (g.O.Sink.sink c.write_reason.new.out) (c.args.block.now.items ++ concat (reason_lines_of c.args.joint.now.nodes c.args.reasons.now))
    c.reasons.block.items (ended (reason_text c.args.joint.now.nodes c.in-Some.reason)) (concat (reason_lines_of c.args.joint.now.nodes c.next.new.self))
    (subst (λ (cs : List Reason). IfKnown (g.O.Sink.sink c.args.out.now) (g.O.Sink.sink c.reasons.out) (Passes (c.args.block.now.items ++ concat (reason_lines_of c.args.joint.now.nodes c.args.reasons.now)) (c.reasons.block.items ++ concat (reason_lines_of c.args.joint.now.nodes cs)))) e c.reasons.invariant.passes)
    c.write_reason.new.block.items tt c.in_ok-write_reason.ensures.contents))
