use Rattle.std.proofs.Common.{Err, Ok, inl, inr, sym, ap, ◌∙◌}
use Rattle.std.proofs.lemmas.List.{length-map}
use Rattle.treesync.specs.Outputs.{WholeText}
use Rattle.treesync.specs.Sync.{round_answer}
use Rattle.treesync.specs.declared.refusal.Refusal.TheVariants.{OutOfMemory}
use Rattle.treesync.proofs.Syncing.{as_long, handed_seen, led_trees, named_tree}
use Rattle.treesync.proofs.sync.lead_trees.Goals as goal

pub round_refusal-requires : goal.round_refusal-requires
round_refusal-requires g c =
    named_tree _ c.args.merged.now c.in-Err.fault _ _ c.requires (length-map _ _ ∙ sym (as_long c.args.trees.now) ∙ sym c.len.ensures ∙ c.if-len.false ∙ c.len-2.ensures) c.in-Err.ensures.leaves

pub returns-in-Err : goal.returns-in-Err
returns-in-Err g c = λ many logs stands.
    led_trees _ c.args.merged.now c.args.folders.now c.round.result _ _ _ c.requires c.round.ensures.leaves c.round.ensures.of_known
    (inl (ap Err c.round_refusal.ensures ∙ ap (round_answer c.args.folders.now) (sym c.in-Err.is))) logs stands

pub returns-in_ok-synced_text-in-Ok : goal.returns-in_ok-synced_text-in-Ok
returns-in_ok-synced_text-in-Ok g c = λ many logs stands.
    led_trees _ c.args.merged.now c.args.folders.now c.round.result _ _ _ c.requires c.round.ensures.leaves c.round.ensures.of_known
    (inl (ap (λ text. Ok (WholeText text)) c.in_ok-synced_text-in-Ok.ensures ∙ ap (round_answer c.args.folders.now) (sym c.in-Ok.is))) logs stands

pub returns-in_err-synced_text-in-Ok : goal.returns-in_err-synced_text-in-Ok
returns-in_err-synced_text-in-Ok g c = λ many logs stands.
    led_trees _ c.args.merged.now c.args.folders.now c.round.result _ _ _ c.requires c.round.ensures.leaves c.round.ensures.of_known
    (inr (handed_seen OutOfMemory c.from_residual.result c.from_residual.ensures.1)) logs stands
