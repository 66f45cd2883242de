-- Logs have a common tree exactly where no two of them disagree, and then the least common tree is one.
use Rattle.sync_command.specs.declared.values.Value.TheVariants.{Empty, Dir}
use Rattle.std.proofs.Common.{inl, inr, ◌≡◌, ◌↔◌, Bool, true, false, ◌||◌, List, [], ◌∷◌, ◌++◌, Option, Some, None, refl, sym, ap, subst, ◌∙◌, arith}
use Rattle.std.specs.Prelude.{is_some, if◌then◌else◌}
use Rattle.std.specs.List.{list_any}
use Rattle.sync_path.specs.Paths.{Node}
use Rattle.sync_command.specs.Changes.{Change}
use Rattle.sync_command.specs.Trees.{Takes, command_at, Fits}
use Rattle.sync_command.specs.Maps.{Store, at}
use Rattle.canon_set.specs.Logs.{names, touches}
use Rattle.canon_set.specs.Leaving.{above}
use Rattle.refluent.specs.Sets.{IsSubset}
use Rattle.refluent.specs.Needs.{Anything, AnyDirectory, need, need_by, meets}
use Rattle.refluent.specs.CommonTrees.{IsAmong, AllChange, AreTaken, Agree, IsCommonTree, HasCommonTree, both_needs, joint_need, least_value, least_common_tree}
use Rattle.refluent.specs.Drawn.{drawn_commands}
use Rattle.refluent.proofs.Drawing.{IsCommon, drawn_fits_each}
use Rattle.refluent.proofs.Least.{AgreeAll, least_takes, least_tree, met_least}
use Rattle.refluent.proofs.Needs.{taken_agree}
use Rattle.canon_set.proofs.CallerLemmas.{covers, covered, is_some-touches}
use Rattle.sync_command.proofs.CallerLemmas.{store_of, finite_tree, same_value_is}
use Rattle.sync_path.proofs.CallerLemmas.{lists, lists-append}

-- the nodes that some log touches, and those above them
covers_all : List (List Change) → List Node
covers_all [] = []
covers_all (log ∷ logs) = covers log ++ covers_all logs

needs_anything : (log : List Change) (p : Node) → names log p ≡ false → above log p ≡ false → need log p ≡ Anything
needs_anything log p none low = go (command_at (touches log) p) (is_some-touches log p ∙ none) (above log p) low
  where
    go : (o : Option Change) → is_some o ≡ false → (b : Bool) → b ≡ false → need_by o b ≡ Anything
    go None e false f = refl
    go None e true f = cc (f)
    go (Some d) e b f = cc (e)

nothing_outside : (logs : List (List Change)) (p : Node) → lists (covers_all logs) p ≡ false → joint_need logs p ≡ Anything
unfolding covers_all
nothing_outside [] p e = refl
nothing_outside (log ∷ logs) p e =
    let parts = neither (lists (covers log) p) (lists (covers_all logs) p) (sym (lists-append (covers log) (covers_all logs) p) ∙ e) in
    let here = covered log p parts.0 in
    ap (λ m. both_needs m (joint_need logs p)) (needs_anything log p here.0 here.1) ∙ nothing_outside logs p parts.1
  where
    neither : (a b : Bool) → (a || b) ≡ false → (a ≡ false) × (b ≡ false)
    neither a b e = grind arith

least_common : (logs : List (List Change)) → AgreeAll logs → (m : Store) × (at m ≡ least_common_tree logs) × IsCommonTree m logs
least_common logs ok =
    let made = finite_tree (covers_all logs) (least_common_tree logs) (least_tree logs ok) (λ p out. ap least_value (nothing_outside logs p out)) in
    (store_of (covers_all logs) (least_common_tree logs), made.0, record { tree = made.1; takes = λ log i. subst (λ t. Takes t log) (sym made.0) (least_takes logs ok log i) })

-- what a common tree says of the logs
pub agree_all : (logs : List (List Change)) → AllChange logs → HasCommonTree logs → AgreeAll logs
agree_all logs change common = record {
  each = λ log i. record { held = at common.map; tree = common.common.tree.tree; takes = common.common.takes log i; change = change log i };
  agree = λ log other i j n. taken_agree (at common.map) log other common.common.tree.tree (common.common.takes log i) (common.common.takes other j) (change log i) (change other j) n;
}

pub agree_law : (logs : List (List Change)) → AllChange logs → AreTaken logs → HasCommonTree logs ↔ Agree logs
agree_law logs change taken = (
  λ common. (agree_all logs change common).agree,
  λ agree.
      let least = least_common logs (record {
        each = λ log i. let t = taken log i in record { held = at t.map; tree = t.tree.tree; takes = t.takes; change = change log i };
        agree = agree;
      }) in
      record { map = least.0; common = least.2 },
)

pub least_law : (logs : List (List Change)) → AllChange logs → HasCommonTree logs → (m : Store) × (at m ≡ least_common_tree logs) × IsCommonTree m logs
least_law logs change common = least_common logs (agree_all logs change common)

-- a common tree as a holding
pub common_holding : (logs : List (List Change)) → AllChange logs → (m : Store) → IsCommonTree m logs → IsCommon (at m) logs
common_holding logs change m common = record { tree = common.tree.tree; takes = common.takes; change = change }

pub each_law : (logs : List (List Change)) → AllChange logs → (m n : Store) → IsCommonTree m logs → IsCommonTree n logs →
    (cs : List Change) → IsSubset cs (drawn_commands logs) → Fits (at m) cs → Fits (at n) cs
each_law logs change m n first second cs part fits = drawn_fits_each (at m) (at n) logs (common_holding logs change m first) (common_holding logs change n second) cs part fits

-- ---- what the least common tree holds

pub touched_law : (logs : List (List Change)) → AllChange logs → HasCommonTree logs → (log : List Change) → IsAmong log logs → (p : Node) (d : Change) → command_at (touches log) p ≡ Some d → least_common_tree logs p ≡ d.old
touched_law logs change common log among p d e = sym (same_value_is d.old (least_common_tree logs p) (sym (ap (λ o. meets (need_by o (above log p)) (least_common_tree logs p)) e) ∙ met_least logs (agree_all logs change common) log among p))

joint_untouched : (logs : List (List Change)) (p : Node) → ((log : List Change) → IsAmong log logs → names log p ≡ false) → joint_need logs p ≡ if list_any (λ log. above log p) logs then AnyDirectory else Anything
joint_untouched [] p none = refl
joint_untouched (log ∷ logs) p none = go (command_at (touches log) p) (is_some-touches log p ∙ none log (inl refl)) (above log p) (list_any (λ other. above other p) logs) (joint_untouched logs p (λ other i. none other (inr i)))
  where
    go : (o : Option Change) → is_some o ≡ false → (a b : Bool) → joint_need logs p ≡ (if b then AnyDirectory else Anything) → both_needs (need_by o a) (joint_need logs p) ≡ if a || b then AnyDirectory else Anything
    go (Some d) s a b ih = cc (s)
    go None s false b ih = ih
    go None s true true ih = ap (both_needs AnyDirectory) ih
    go None s true false ih = ap (both_needs AnyDirectory) ih

pub untouched_law : (logs : List (List Change)) (p : Node) → ((log : List Change) → IsAmong log logs → names log p ≡ false) → least_common_tree logs p ≡ if list_any (λ log. above log p) logs then Dir [] else Empty
untouched_law logs p none = ap least_value (joint_untouched logs p none) ∙ go (list_any (λ log. above log p) logs)
  where
    go : (b : Bool) → least_value (if b then AnyDirectory else Anything) ≡ if b then Dir [] else Empty
    go true = refl
    go false = refl
