use Rattle.std.proofs.Common.{rules}
use Rattle.percent_encoding.specs.Iter.{encoded_text}
use Rattle.sync_path.specs.Escapes.{escaped}
use Rattle.sync_port.proofs.Gathering.{piece_refused}
use Rattle.sync_port.proofs.sending.gather_name.Goals as goal

pub returns-in_err-gather-clause-contents : goal.returns-in_err-gather-clause-contents
returns-in_err-gather-clause-contents g c =
    piece_refused _ (g.O.Sink.sink c.pieces.sink).contents _ c.args.gathered.now.bytes (escaped c.args.name.now) c.pieces.gathered.bytes (encoded_text c.pieces.piece-iterator)
    c.in-Some.piece.now (encoded_text c.next.new.self) c.gather.new.gathered.bytes _ _ c.from_residual.result
    c.pieces.invariant.passes c.in_err-gather.ensures.contents (search rules) c.from_residual.ensures.0
