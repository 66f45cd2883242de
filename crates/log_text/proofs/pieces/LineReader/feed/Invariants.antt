use Rattle.std.proofs.Common.{◌≡◌, ℕ, List, ◌++◌, length}
use Rattle.log_text.specs.Pieces.{Knows, IsGoing}
use Rattle.log_text.proofs.pieces.LineReader.feed.Given as goal

abbrev pub invariant-lines : goal.invariant-lines
invariant-lines g l = record {
  going : IsGoing l.self.stage;
  begun : IsGoing l.fn.self.stage;
  knows : (past : g.F.Form.Past) (text : List ℕ) → Knows g.F.Form.first g.F.Form.judge g.F.Form.holds l.fn.self l.fn.form past text
      → (done : List ℕ) × (l.piece ≡ done ++ l.rest) × Knows g.F.Form.first g.F.Form.judge g.F.Form.holds l.self l.form past (text ++ done);
}

abbrev pub decreases-lines : goal.decreases-lines
decreases-lines g l = length l.rest
