use Rattle.std.proofs.lemmas.Result.{err_from_is_err_and}
use Rattle.treesync.proofs.WritingLemmas.{block_failed}
use Rattle.treesync.proofs.writing.send_full.Goals as goal

pub returns-in_err-send-clause-contents : goal.returns-in_err-send-clause-contents
returns-in_err-send-clause-contents g c =
    let p = err_from_is_err_and c.from_residual.result c.from_residual.ensures.1 in
    rw p.1 (block_failed (g.O.Sink.sink c.args.out.now) (g.O.Sink.sink c.send.new.sink) c.deref.result.now c.args.block.now.items c.args.block.now.items p.0 c.deref.ensures.value c.in_err-send.ensures.contents)
