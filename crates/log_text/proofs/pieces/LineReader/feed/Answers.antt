use Rattle.std.proofs.Common.{◌++◌, ◌∷◌, [], ap, ◌∙◌, sym, refl, subst, append-nil, rules}
use Rattle.log_text.specs.Pieces.{Knows}
use Rattle.log_text.specs.declared.faults.LogFault.TheVariants as fault
use Rattle.log_text.proofs.States.{unended_clear}
use Rattle.log_text.proofs.Known.{feeds_again, feeds_kept, feeds_refused, goes_on, whole_piece, not_going}
use Rattle.log_text.proofs.pieces.LineReader.feed.Goals as goal

pub returns-in-Refused-clause-knows : goal.returns-in-Refused-clause-knows
returns-in-Refused-clause-knows g c past text k =
    let f = g.F.Form in
    feeds_again f.first f.judge f.holds c.args.self.now c.args.form.now past text c.args.piece.now c.in-Refused.fault c.in-Refused.is k

pub returns-in_default-more-clause-knows : goal.returns-in_default-more-clause-knows
returns-in_default-more-clause-knows g c past text k =
    let f = g.F.Form in
    let m = c.lines.invariant.knows past text k in
    let cut = rw c.in_default-more.is at c.split_far.ensures in
    feeds_kept f.first f.judge f.holds c.args.self.now c.lines.self c.keep.new.self c.args.form.now c.lines.form past text m.0 c.split_far.result.0.now c.args.piece.now c.keep.result
    (m.1 ∙ ap (λ r. m.0 ++ r) cut.bytes) (unended_clear _ _ _ cut.parts) k m.2 (c.keep.ensures.keeps past m.2.found m.2.held) c.keep.ensures.opened

pub returns-in_default-more-clause-again : goal.returns-in_default-more-clause-again
returns-in_default-more-clause-again g c f e = absurd (not_going _ f e c.lines.invariant.begun)

pub returns-in-Err-clause-knows : goal.returns-in-Err-clause-knows
returns-in-Err-clause-knows g c past text k =
    let f = g.F.Form in
    let m = c.lines.invariant.knows past text k in
    let cut = rw c.in-Some.is at c.split_far.ensures in
    feeds_refused f.first f.judge f.holds c.args.self.now c.lines.self c.end_line.new.self c.args.form.now c.lines.form c.end_line.new.form past text m.0 c.split_far.result.0.now c.in-Some.after.now c.args.piece.now c.in-Err.fault
    (m.1 ∙ ap (λ r. m.0 ++ r) cut.bytes) (unended_clear _ _ _ cut.parts) k m.2 (c.end_line.ensures.reads past m.2.found m.2.held) c.end_line.ensures.line c.end_line.ensures.opened c.in-Err.ensures.stage

pub returns-in-Err-clause-again : goal.returns-in-Err-clause-again
returns-in-Err-clause-again g c f e = absurd (not_going _ f e c.lines.invariant.begun)

pub lines-preserved : goal.lines-preserved
lines-preserved g c =
    let f = g.F.Form in
    let cut = rw c.in-Some.is at c.split_far.ensures in
    record {
      going = c.in_default-end_line.ensures.stage;
      begun = c.lines.invariant.begun;
      knows = λ past text k.
          let m = c.lines.invariant.knows past text k in (
            m.0 ++ (c.split_far.result.0.now ++ 10 ∷ []),
            m.1 ∙ ap (λ r. m.0 ++ r) cut.bytes ∙ whole_piece m.0 c.split_far.result.0.now c.in-Some.after.now,
            goes_on f.first f.judge f.holds c.lines.self c.end_line.new.self c.lines.form c.end_line.new.form past text m.0 c.split_far.result.0.now (unended_clear _ _ _ cut.parts) m.2
                (c.end_line.ensures.reads past m.2.found m.2.held) c.end_line.ensures.line c.end_line.ensures.opened (λ e. not_going _ fault.Memory e c.in_default-end_line.ensures.stage),
          );
    }

pub lines-init : goal.lines-init
lines-init g c =
    let f = g.F.Form in
    record {
      going = search rules;
      begun = search rules;
      knows = λ past text k. ([], refl, subst (Knows f.first f.judge f.holds c.args.self.now c.args.form.now past) (sym (append-nil text)) k);
    }
