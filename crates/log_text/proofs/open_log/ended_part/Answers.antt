use Rattle.std.proofs.Common.{◌≡◌, ◌+◌, ◌-◌, ◌<◌, ◌∙◌, sym, length, arith, nat_eq, get_or, false}
use Rattle.std.proofs.lemmas.Bool.Decides.{nat_tests}
use Rattle.log_text.proofs.OpenLogLemmas.{last_ended, last_dropped, nothing_ended}
use Rattle.log_text.proofs.open_log.ended_part.Goals as goal

pub returns-then-text-end-eq10 : goal.returns-then-text-end-eq10
returns-then-text-end-eq10 c =
    let e : c.bytes.end - 1 + 1 ≡ c.bytes.end = omega arith in
    let low : c.bytes.end - 1 < length c.args.text.now = omega arith in
    sym (c.bytes.invariant.same ∙ (rw e at (last_ended c.args.text.now (c.bytes.end - 1) low c.if-text-end-eq10.true)))

pub bytes-preserved : goal.bytes-preserved
bytes-preserved c =
    let e : c.bytes.end - 1 + 1 ≡ c.bytes.end = omega arith in
    let low : c.bytes.end - 1 < length c.args.text.now = omega arith in
    let other : nat_eq (get_or c.args.text.now (c.bytes.end - 1) 0) 10 ≡ false = let f = c.if-text-end-eq10.false in grind (arith, nat_tests, f) in
    record {
      within = omega arith;
      same = c.bytes.invariant.same ∙ (rw e at (last_dropped c.args.text.now (c.bytes.end - 1) low other));
    }

pub returns : goal.returns
returns c = let e : c.bytes.end ≡ 0 = omega arith in sym (c.bytes.invariant.same ∙ nothing_ended c.args.text.now c.bytes.end e)
