use Rattle.log_text.proofs.Known.{finishes, finishes_start, finishes_inside, finishes_refused}
use Rattle.log_text.proofs.pieces.LineReader.finish.Goals as goal

pub returns-in-Start-clause-ends : goal.returns-in-Start-clause-ends
returns-in-Start-clause-ends g c past text k =
    let f = g.F.Form in
    rw c.header_fault.ensures (finishes_start f.first f.judge f.holds c.args.self c.args.form.now past text c.in-Start.is k)

pub returns-in-Inside-clause-ends : goal.returns-in-Inside-clause-ends
returns-in-Inside-clause-ends g c past text k =
    let f = g.F.Form in
    rw (c.fault_after.ensures, c.count.ensures.count past k.found k.held) (finishes_inside f.first f.judge f.holds c.args.self c.args.form.now past text c.in-Inside.is k)

pub returns-in-Ended-clause-ends : goal.returns-in-Ended-clause-ends
returns-in-Ended-clause-ends g c past text k =
    let f = g.F.Form in
    finishes f.first f.judge f.holds c.args.self c.args.form.now past text c.in-Ended.is k

pub returns-clause-ends : goal.returns-clause-ends
returns-clause-ends g c past text k =
    let f = g.F.Form in
    finishes_refused f.first f.judge f.holds c.args.self c.args.form.now past text c.in-Refused.fault c.in-Refused.is k
