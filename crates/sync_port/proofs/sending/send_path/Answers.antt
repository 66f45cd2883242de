use Rattle.std.proofs.Common.{rules, refl, ◌++◌, ◌∷◌, [], drop, arith, ◌+◌, ap, ◌∙◌, append-nil, subst}
use Rattle.sync_path.specs.Escapes.{escaped}
use Rattle.sync_path.specs.Paths.{path_text}
use Rattle.sync_port.specs.States.{IfKnown}
use Rattle.sync_port.specs.Sending.{Passes}
use Rattle.sync_port.proofs.Gathering.{name_refused, part_gathered, last_block, nothing_sent, text_after, text_at_first, text_at, text_marked, no_text_past}
use Rattle.sync_port.proofs.sending.send_path.Goals as goal

pub returns-in_err-gather_name-clause-contents : goal.returns-in_err-gather_name-clause-contents
returns-in_err-gather_name-clause-contents g c =
    let first = text_at_first c.args.path.now c.name_at.result.now c.name_at.ensures in
    name_refused (g.O.Sink.sink c.args.sink.now).contents (g.O.Sink.sink c.args.sink.now).contents _ (path_text c.args.path.now) c.new-gathered.result.bytes _ (escaped c.name_at.result.now) (text_after (drop 1 c.args.path.now)) c.gather_name.new.gathered.bytes _ c.from_residual.result
    (nothing_sent _ _ _ _ c.new-gathered.ensures first) c.in_err-gather_name.ensures.contents refl c.from_residual.ensures.0

pub names-init : goal.names-init
names-init g c =
    let first = text_at_first c.args.path.now c.name_at.result.now c.name_at.ensures in
    record {
      faults = c.in_ok-gather_name.ensures.faults.done;
      passes = part_gathered (g.O.Sink.sink c.args.sink.now).contents (g.O.Sink.sink c.args.sink.now).contents _ (path_text c.args.path.now) c.new-gathered.result.bytes _ (escaped c.name_at.result.now) (text_after (drop 1 c.args.path.now)) c.gather_name.new.gathered.bytes tt
          (nothing_sent _ _ _ _ c.new-gathered.ensures first) c.in_ok-gather_name.ensures.contents refl;
    }

pub returns-in_err-gather-clause-contents : goal.returns-in_err-gather-clause-contents
returns-in_err-gather-clause-contents g c =
    let marked = text_marked c.args.path.now c.names.place (omega (arith, c.depth-depth.ensures.names)) in
    name_refused (g.O.Sink.sink c.args.sink.now).contents (g.O.Sink.sink c.names.sink).contents _ (path_text c.args.path.now) c.names.gathered.bytes _ (47 ∷ []) (drop 1 (text_after (drop c.names.place c.args.path.now))) c.gather.new.gathered.bytes _ c.from_residual-in_err-gather.result
    c.names.invariant.passes c.in_err-gather.ensures.contents marked c.from_residual-in_err-gather.ensures.0

pub returns-in_err-gather_name-2-clause-contents : goal.returns-in_err-gather_name-2-clause-contents
returns-in_err-gather_name-2-clause-contents g c =
    let next = text_at c.args.path.now c.names.place c.name_at-in-names.result.now (omega (arith, c.depth-depth.ensures.names)) c.name_at-in-names.ensures in
    let after = escaped c.name_at-in-names.result.now ++ text_after (drop (c.names.place + 1) c.args.path.now) in
    let mark = part_gathered (g.O.Sink.sink c.args.sink.now).contents (g.O.Sink.sink c.names.sink).contents (g.O.Sink.sink c.gather.new.sink).contents (path_text c.args.path.now) c.names.gathered.bytes _ (47 ∷ []) after c.gather.new.gathered.bytes tt
    c.names.invariant.passes c.in_ok-gather.ensures.contents next in
    name_refused (g.O.Sink.sink c.args.sink.now).contents (g.O.Sink.sink c.gather.new.sink).contents _ (path_text c.args.path.now) c.gather.new.gathered.bytes after (escaped c.name_at-in-names.result.now) (text_after (drop (c.names.place + 1) c.args.path.now)) c.gather_name-in-names.new.gathered.bytes _ c.from_residual-in_err-gather_name-2.result
    mark c.in_err-gather_name-2.ensures.contents refl c.from_residual-in_err-gather_name-2.ensures.0

pub names-preserved : goal.names-preserved
names-preserved g c =
    let next = text_at c.args.path.now c.names.place c.name_at-in-names.result.now (omega (arith, c.depth-depth.ensures.names)) c.name_at-in-names.ensures in
    let after = escaped c.name_at-in-names.result.now ++ text_after (drop (c.names.place + 1) c.args.path.now) in
    let mark = part_gathered (g.O.Sink.sink c.args.sink.now).contents (g.O.Sink.sink c.names.sink).contents (g.O.Sink.sink c.gather.new.sink).contents (path_text c.args.path.now) c.names.gathered.bytes _ (47 ∷ []) after c.gather.new.gathered.bytes tt
    c.names.invariant.passes c.in_ok-gather.ensures.contents next in
    record {
      faults = c.in_ok-gather_name-2.ensures.faults.done ∙ c.in_ok-gather.ensures.faults.done ∙ c.names.invariant.faults;
      passes = part_gathered (g.O.Sink.sink c.args.sink.now).contents (g.O.Sink.sink c.gather.new.sink).contents _ (path_text c.args.path.now) c.gather.new.gathered.bytes after (escaped c.name_at-in-names.result.now) (text_after (drop (c.names.place + 1) c.args.path.now)) c.gather_name-in-names.new.gathered.bytes tt
          mark c.in_ok-gather_name-2.ensures.contents refl;
    }

pub returns-clause-contents : goal.returns-clause-contents
returns-clause-contents g c =
    let over = no_text_past c.args.path.now c.names.place (omega (arith, c.depth-depth.ensures.names)) in
    let all = ap (λ t. c.names.gathered.bytes ++ t) over ∙ append-nil c.names.gathered.bytes in
    last_block (g.O.Sink.sink c.args.sink.now).contents (g.O.Sink.sink c.names.sink).contents _ (path_text c.args.path.now) c.names.gathered.bytes c.as_bytes.result.now c.send.result
    (subst (λ t. IfKnown (g.O.Sink.sink c.args.sink.now) (g.O.Sink.sink c.names.sink) (Passes (path_text c.args.path.now) t)) all c.names.invariant.passes)
    c.send.ensures.contents (search rules)
