use Rattle.std.proofs.Common.{rules}
use Rattle.sync_port.proofs.Gathering.{block_refused, block_and_text}
use Rattle.sync_port.proofs.sending.gather.Goals as goal

pub returns-in_err-send-clause-contents : goal.returns-in_err-send-clause-contents
returns-in_err-send-clause-contents g c =
    block_refused _ _ c.as_bytes.result.now c.args.gathered.now.bytes c.args.text.now _ _ c.from_residual.result c.in_err-send.ensures.contents (search rules) c.from_residual.ensures.0

pub returns-clause-contents : goal.returns-clause-contents
returns-clause-contents g c =
    block_and_text _ (g.O.Sink.sink c.send.new.sink).contents _ c.as_bytes.result.now c.as_bytes-2.result.now c.args.gathered.now.bytes c.args.text.now _ tt c.send-2.result
    c.in_ok-send.ensures.contents c.send-2.ensures.contents (search rules) c.as_bytes-2.ensures.value (search rules)
