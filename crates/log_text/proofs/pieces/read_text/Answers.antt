use Rattle.std.proofs.Common.{[]}
use Rattle.log_text.proofs.Known.{begins, feeds_fails}
use Rattle.log_text.proofs.pieces.read_text.Goals as goal

pub returns-in-Ok : goal.returns-in-Ok
returns-in-Ok g c past head held =
    let f = g.F.Form in
    let k = begins f.first f.judge f.holds c.new-lines.result c.args.form.now past c.new-lines.ensures.stage c.new-lines.ensures.opened c.new-lines.ensures.line head held in
    c.finish.ensures.ends past c.args.text.now (c.in-Ok.ensures.knows past [] k)

pub returns-in-Err : goal.returns-in-Err
returns-in-Err g c past head held =
    let f = g.F.Form in
    let k = begins f.first f.judge f.holds c.new-lines.result c.args.form.now past c.new-lines.ensures.stage c.new-lines.ensures.opened c.new-lines.ensures.line head held in
    feeds_fails f.first f.judge f.holds c.feed.new.self c.feed.new.form past [] c.args.text.now c.in-Err.fault c.in-Err.ensures.stage (c.in-Err.ensures.knows past [] k)
