use Rattle.std.proofs.Common.{◌++◌}
use Rattle.treesync.proofs.LogReading.{fault_fed, on_ok, piece_fed}
use Rattle.treesync.proofs.logs.LogIntake.feed.Goals as goal

pub returns-in-Ok : goal.returns-in-Ok
returns-in-Ok g c =
    on_ok c.hand_on.result (λ fed text h. fed (text ++ c.args.piece.now)
    (piece_fed g.T.TakesCommands.stands c.args.self.now.into c.args.self.now.reader c.feed.new.self text c.args.piece.now h.holds
    (c.in-Ok.ensures.reads text h.holds.taken h.holds.read))) c.hand_on.ensures

pub returns-in-Err-Text : goal.returns-in-Err-Text
returns-in-Err-Text g c =
    on_ok c.hand_on-in-Err-Text.result (λ fed text h. fed (text ++ c.args.piece.now)
    (fault_fed g.T.TakesCommands.stands c.args.self.now.into c.args.self.now.reader c.feed.new.self text c.args.piece.now c.in-Err-Text.field-0 _ h.holds
    c.in-Err-Text.field-0-is (c.in-Err-Text.ensures.reads text h.holds.taken h.holds.read))) c.hand_on-in-Err-Text.ensures
