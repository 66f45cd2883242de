use Rattle.std.proofs.Common.{◌≡◌, ◌<◌, ℕ, ap, sym, subst, ◌∙◌, List, Option, length}
use Rattle.scan_board.specs.Linked.{IsOptionWithin, option_at, IsLinked}
use Rattle.scan_board.specs.Named.{IsNamed}
use Rattle.scan_board.proofs.Keys.{keys_within}
use Rattle.scan_board.proofs.building.name_joint.Goals as goal

pub chain-requires : goal.chain-requires
chain-requires c = subst (λ (keys : List (Option ℕ)). (i : ℕ) → i < length keys → IsOptionWithin (option_at keys i) c.nodes.result) (sym c.deref.ensures.value)
    (λ i l. subst (λ (n : ℕ). IsOptionWithin (option_at c.in_ok-keys.keys.items i) n) (sym c.nodes.ensures) (keys_within c.args.joint.now c.in_ok-numbers.numbers.picks.items c.in_ok-keys.keys.items c.in_ok-numbers.ensures.least c.in_ok-keys.ensures i l))

pub returns : goal.returns
returns c = record {
  joint = c.logs-logs.ensures.joint;
  numbers = c.in_ok-numbers.ensures;
  keys = c.in_ok-keys.ensures;
  rows = subst (λ (keys : List (Option ℕ)). IsLinked keys (length c.args.joint.now.nodes) c.in_ok-rows.rows.heads.items c.in_ok-rows.rows.nexts.items 0) c.deref.ensures.value
      (subst (λ (n : ℕ). IsLinked c.deref.result.now n c.in_ok-rows.rows.heads.items c.in_ok-rows.rows.nexts.items 0) c.nodes.ensures c.in_ok-rows.ensures);
  names = subst (λ (heads : List (Option ℕ)). IsNamed heads c.in_ok-names.names.index.items c.in_ok-names.names.back.items (length heads)) c.deref-2.ensures.value c.in_ok-names.ensures;
}
