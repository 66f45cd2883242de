use Rattle.std.proofs.Common.{arith, refl, sym, ap, length}
use Rattle.std.proofs.lemmas.Str.{IsUtf8-from_is_utf8}
use Rattle.sync_path.proofs.AllNames.{first_is_name, last_is_name, none_counted, within_depth}
use Rattle.sync_path.proofs.names.are_all_names.Goals as goal

pub names-init : goal.names-init
names-init c = record {
  clean = record {
    same = refl;
    text = IsUtf8-from_is_utf8 c.args.bytes.now (sym c.if-not-is_text.ensures);
    clear = none_counted 0 c.args.bytes.now (sym c.if-contains.ensures.value);
  };
  count = omega arith;
}

pub names-preserved : goal.names-preserved
names-preserved c = record {
  clean =
      first_is_name _ c.split_near.result.0.now _ _ c.names.invariant.clean (rw c.in-Some.is at c.split_near.ensures.bytes) (rw c.in-Some.is at c.split_near.ensures.parts)
      c.if-name-gt-MAX_NAME_LEN.false (sym c.if-not-is_unreserved.ensures);
  count = let e = rw c.in-Some.is at c.split_near.ensures.parts in omega (arith, c.names.invariant.count, ap length e);
}

pub returns-in-None : goal.returns-in-None
returns-in-None c = λ _.
    let parts = rw c.in-None.is at c.split_near.ensures.parts in
    within_depth _ (omega (arith, c.names.invariant.count, ap length parts))
    (last_is_name _ c.split_near.result.0.now _ c.names.invariant.clean (rw c.in-None.is at c.split_near.ensures.bytes) parts c.if-name-gt-MAX_NAME_LEN.false (sym c.if-not-is_unreserved.ensures))
