use Rattle.std.proofs.Common.{ap, ◌∙◌, arith}
use Rattle.scan_board.proofs.Backs.{name_none_to, name_some_to}
use Rattle.scan_board.proofs.naming.name.Goals as goal
use Rattle.scan_board.proofs.naming.name.Goals.{in-None+in_ok-push-in-None, in-Some+in_ok-push-in-Some+in_ok-push-in-Some-2}

pub loop-q-preserved : goal.loop-q-preserved
loop-q-preserved c = elim c.match-heads-q.branch [
  | in-None+in_ok-push-in-None w ↦ name_none_to c.args.heads.now c.loop-q.index.items c.match-heads-q.index.items c.loop-q.back.items c.match-heads-q.back.items c.loop-q.q c.loop-q.invariant w.in-None.is
      (ap (λ v. v.items) w.index-is ∙ w.in_ok-push-in-None.ensures.items) (ap (λ v. v.items) w.back-is)
  | in-Some+in_ok-push-in-Some+in_ok-push-in-Some-2 w ↦ name_some_to c.args.heads.now c.loop-q.index.items c.match-heads-q.index.items c.loop-q.back.items c.match-heads-q.back.items c.loop-q.q w.len.result w.in-Some.field-0 c.loop-q.invariant w.in-Some.is
      (omega (arith, c.loop-q.back.ok.0, w.len.ensures)) (ap (λ v. v.items) w.index-is ∙ w.in_ok-push-in-Some.ensures.items) (ap (λ v. v.items) w.back-is ∙ w.in_ok-push-in-Some-2.ensures.items)
]
