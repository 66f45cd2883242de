use Rattle.log_text.proofs.Known.{ends_open_lost, ends_open_right, ends_open_refused}
use Rattle.log_text.proofs.pieces.LineReader.finish_open.Goals as goal

pub returns-in-Start : goal.returns-in-Start
returns-in-Start g c past text k =
    let f = g.F.Form in
    ends_open_lost f.first f.judge f.holds c.args.self c.args.form.now past text c.in-Start.is k

pub returns-in-Ended : goal.returns-in-Ended
returns-in-Ended g c past text k =
    let f = g.F.Form in
    ends_open_right f.first f.judge f.holds c.args.self c.args.form.now past text c.in-Ended.is k

pub returns : goal.returns
returns g c past text k =
    let f = g.F.Form in
    ends_open_refused f.first f.judge f.holds c.args.self c.args.form.now past text c.in-Refused.fault c.in-Refused.is k
