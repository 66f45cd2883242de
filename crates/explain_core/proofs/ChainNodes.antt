-- The members of chains are nodes that the least common tree holds or that a log touches.
use Rattle.std.proofs.Common.{◌≡◌, Bool, true, false, not, ◌||◌, List, [], ◌∷◌, Option, Some, None, refl, sym, ap, subst, ◌∙◌, arith, ◌⊎◌, inl, inr}
use Rattle.std.specs.Prelude.{if◌then◌else◌, is_some, is_none}
use Rattle.std.specs.List.{list_any}
use Rattle.sync_path.specs.Paths.{Node, parent, same_path, is_under}
use Rattle.sync_command.specs.declared.values.Value.{Value}
use Rattle.sync_command.specs.declared.values.Value.TheVariants.{Empty, Dir}
use Rattle.sync_command.specs.Values.{is_empty, is_dir}
use Rattle.sync_command.specs.Changes.{Change, is_change}
use Rattle.sync_command.specs.Trees.{command_at}
use Rattle.canon_set.specs.Logs.{names, net, touches}
use Rattle.canon_set.specs.Leaving.{above}
use Rattle.canon_set.specs.Sets.{canonical}
use Rattle.sync_path.specs.Children.{has, is_child}
use Rattle.refluent.specs.Sets.{is_in, IsSubset}
use Rattle.refluent.specs.CommonTrees.{IsAmong, least_common_tree}
use Rattle.refluent.specs.Drawn.{nets_in_turn, drawn_commands}
use Rattle.sync_path.proofs.CallerLemmas.{both, same_path_is, under_parent, under_up, child_is}
use Rattle.sync_command.proofs.CallerLemmas.{command_at-filter, command_at-node, passing-is}
use Rattle.canon_set.proofs.CallerLemmas.{is_some-touches, one_each-touches}
use Rattle.refluent.proofs.CallerLemmas.{at_from_in, in_from_at, is_in-append, is_in-canonical, is_in-without_repeats, untouched_law}
use Rattle.pref_list.proofs.CallerLemmas.{one_each-net}
use Rattle.explain_core.specs.Chains.{denies, is_chain, is_denied, is_downward_chain, is_node, is_upward_chain, leads_down, leads_up}
use Rattle.explain_core.proofs.ChainLaws.{IsAtOrUnder, not_both, not_true, is_or_not}

-- the log that a command in turn comes from
record IsFrom (logs : List (List Change)) (c : Change) : Type 0 where
  log : List Change
  among : IsAmong log logs
  there : is_in (canonical (net log)) c ≡ true

from_turn : (logs : List (List Change)) (c : Change) → is_in (nets_in_turn logs) c ≡ true → IsFrom logs c
from_turn [] c e = cc (e)
from_turn (cs ∷ logs) c e = split (cases _ _ (sym (is_in-append (canonical (net cs)) (nets_in_turn logs) c) ∙ e)) (from_turn logs c)
  where
    cases : (a b : Bool) → (a || b) ≡ true → (a ≡ true) ⊎ (b ≡ true)
    cases true b e = inl refl
    cases false b e = inr e

    split : (is_in (canonical (net cs)) c ≡ true) ⊎ (is_in (nets_in_turn logs) c ≡ true) → (is_in (nets_in_turn logs) c ≡ true → IsFrom logs c) → IsFrom (cs ∷ logs) c
    split (inl h) rec = record { log = cs; among = inl refl; there = h }
    split (inr h) rec = let f = rec h in record { log = f.log; among = inr f.among; there = f.there }

pub any_among : (f : List Change → Bool) (logs : List (List Change)) (log : List Change) → IsAmong log logs → f log ≡ true → list_any f logs ≡ true
any_among f [] log among e = absurd among
any_among f (first ∷ logs) log (inl is) e = ap (λ b. b || list_any f logs) (ap f (sym is) ∙ e)
any_among f (first ∷ logs) log (inr among) e = right (f first) (list_any f logs) (any_among f logs log among e)
  where
    right : (a b : Bool) → b ≡ true → (a || b) ≡ true
    right a b e = grind arith

pub none_among : (f : List Change → Bool) (logs : List (List Change)) → list_any f logs ≡ false → (log : List Change) → IsAmong log logs → f log ≡ false
none_among f logs none log among = decide (is_or_not (f log))
  where
    decide : (f log ≡ true) ⊎ (f log ≡ false) → f log ≡ false
    decide (inr e) = e
    decide (inl e) = absurd (not_both (list_any f logs) (any_among f logs log among e) none)

-- a drawn command's log touches its node
pub record IsTouched (logs : List (List Change)) (p : Node) : Type 0 where
  pub log : List Change
  pub among : IsAmong log logs
  pub names_it : names log p ≡ true

pub drawn_touched : (logs : List (List Change)) (c : Change) → is_in (drawn_commands logs) c ≡ true → IsTouched logs c.node
drawn_touched logs c there =
    let f : IsFrom logs c = from_turn logs c (sym (is_in-without_repeats (nets_in_turn logs) c) ∙ there) in
    let in_net : is_in (net f.log) c ≡ true = sym (is_in-canonical (net f.log) (one_each-net f.log) c) ∙ f.there in
    let at_net : command_at (net f.log) c.node ≡ Some c = at_from_in (net f.log) (one_each-net f.log) c in_net in
    let touch : command_at (touches f.log) c.node ≡ Some c = passing-is is_change (command_at (touches f.log) c.node) c (sym (command_at-filter is_change (touches f.log) (one_each-touches f.log) c.node) ∙ at_net) in
    record { log = f.log; among = f.among; names_it = sym (is_some-touches f.log c.node) ∙ ap is_some touch }

-- a log that touches a node stands above each node that the node is under
above_from : (log : List Change) (p q : Node) → names log p ≡ true → is_under p q ≡ true → above log q ≡ true
above_from [] p q e u = cc (e)
above_from (d ∷ log) p q e u = go (above_from log p q) (same_path_is p d.node) e
  where
    go : (names log p ≡ true → is_under p q ≡ true → above log q ≡ true) → (same_path p d.node ≡ true → p ≡ d.node) → names (d ∷ log) p ≡ true → above (d ∷ log) q ≡ true
    go ih is e = split (is_or_not (same_path p d.node)) e
      where
        right : (a b : Bool) → b ≡ true → (a || b) ≡ true
        right a b e = grind arith

        split : (same_path p d.node ≡ true) ⊎ (same_path p d.node ≡ false) → (same_path p d.node || names log p) ≡ true → (is_under d.node q || above log q) ≡ true
        split (inl s) e = ap (λ b. b || above log q) (ap (λ x. is_under x q) (sym (is s)) ∙ u)
        split (inr s) e = right (is_under d.node q) (above log q) (ih (ap (λ b. b || names log p) (sym s) ∙ e) u)

module _ (logs : List (List Change)) (ms : List Change) (part : IsSubset ms (drawn_commands logs)) (c : Change) (there : is_in (drawn_commands logs) c ≡ true) where
  touched : (p : Node) → IsTouched logs p → is_node logs p ≡ true
  touched p t = right (not (is_empty (least_common_tree logs p))) (list_any (λ log. names log p) logs) (any_among (λ log. names log p) logs t.log t.among t.names_it)
    where
      right : (a b : Bool) → b ≡ true → (a || b) ≡ true
      right a b e = grind arith

  commanded : (p : Node) (o : Option Change) → command_at ms p ≡ o → is_some o ≡ true → is_node logs p ≡ true
  commanded p None e s = cc (s)
  commanded p (Some d) e s = touched p (subst (IsTouched logs) (sym (command_at-node ms p d e)) (drawn_touched logs d (part d (in_from_at ms p d e))))

  denied_some : (demand : Value → Bool) (o : Option Change) → denies demand o ≡ true → is_some o ≡ true
  denied_some demand None e = cc (e)
  denied_some demand (Some d) e = refl

  one_of : (x : Node) (xs : List Node) (z : Node) → has (x ∷ xs) z ≡ true → (z ≡ x) ⊎ (has xs z ≡ true)
  one_of x xs z h = go (same_path z x) (same_path_is z x) h
    where
      go : (b : Bool) → (b ≡ true → z ≡ x) → (b || has xs z) ≡ true → (z ≡ x) ⊎ (has xs z ≡ true)
      go true is e = inl (is refl)
      go false is e = inr e

  -- above a touched node no untouched node is other than a directory
  no_dir_touched : (p : Node) → is_under c.node p ≡ true → is_dir (least_common_tree logs p) ≡ false → is_node logs p ≡ true
  no_dir_touched p under bare = decide (is_or_not (list_any (λ log. names log p) logs))
    where
      right : (a b : Bool) → b ≡ true → (a || b) ≡ true
      right a b e = grind arith

      decide : (list_any (λ log. names log p) logs ≡ true) ⊎ (list_any (λ log. names log p) logs ≡ false) → is_node logs p ≡ true
      decide (inl e) = right (not (is_empty (least_common_tree logs p))) (list_any (λ log. names log p) logs) e
      decide (inr none) =
          let t : IsTouched logs c.node = drawn_touched logs c there in
          let high : list_any (λ log. above log p) logs ≡ true = any_among (λ log. above log p) logs t.log t.among (above_from t.log c.node p t.names_it under) in
          let is : least_common_tree logs p ≡ Dir [] = untouched_law logs p (none_among (λ log. names log p) logs none) ∙ ap (λ b. if b then Dir [] else Empty) high in
          absurd (not_both (is_dir (least_common_tree logs p)) (ap is_dir is) bare)

  under_next : (p n x : Node) → IsAtOrUnder p n → parent n ≡ Some x → is_under p x ≡ true
  under_next p n x (inl e) up = subst (λ q. is_under q x ≡ true) (sym e) (under_parent x n up)
  under_next p n x (inr u) up = under_up p n x u up

  last_node : (demand : Value → Bool) (x z : Node) → denies demand (command_at ms x) ≡ true → z ≡ x → is_node logs z ≡ true
  last_node demand x z denied is = subst (λ q. is_node logs q ≡ true) (sym is) (commanded x (command_at ms x) refl (denied_some demand (command_at ms x) denied))

  no_more : {A : Type 0} (z : Node) → has [] z ≡ true → A
  no_more z h = cc (h)

  up_nodes : (n : Node) → IsAtOrUnder c.node n → (x : Node) (xs : List Node) → leads_up n (x ∷ xs) ≡ true → is_denied is_dir (least_common_tree logs) ms (x ∷ xs) ≡ true → (z : Node) → (z ≡ x) ⊎ (has xs z ≡ true) → is_node logs z ≡ true
  up_nodes n low x [] up denied z (inl is) = last_node is_dir x z denied is
  up_nodes n low x [] up denied z (inr h) = no_more z h
  up_nodes n low x (y ∷ ys) up denied z (inl is) =
      let high : is_under c.node x ≡ true = under_next c.node n x low (child_is n x (both (is_child n x) (leads_up x (y ∷ ys)) up).0) in
      let rest = both (not (is_dir (least_common_tree logs x))) (is_denied is_dir (least_common_tree logs) ms (y ∷ ys)) (both (is_none (command_at ms x)) _ denied).1 in
      subst (λ q. is_node logs q ≡ true) (sym is) (no_dir_touched x high (not_true (is_dir (least_common_tree logs x)) rest.0))
  up_nodes n low x (y ∷ ys) up denied z (inr h) =
      let parts = both (is_child n x) (leads_up x (y ∷ ys)) up in
      let rest = both (not (is_dir (least_common_tree logs x))) (is_denied is_dir (least_common_tree logs) ms (y ∷ ys)) (both (is_none (command_at ms x)) _ denied).1 in
      up_nodes x (inr (under_next c.node n x low (child_is n x parts.0))) y ys parts.1 rest.1 z (one_of y ys z h)

  down_nodes : (x : Node) (xs : List Node) → is_denied is_empty (least_common_tree logs) ms (x ∷ xs) ≡ true → (z : Node) → (z ≡ x) ⊎ (has xs z ≡ true) → is_node logs z ≡ true
  down_nodes x [] denied z (inl is) = last_node is_empty x z denied is
  down_nodes x [] denied z (inr h) = no_more z h
  down_nodes x (y ∷ ys) denied z (inl is) =
      let rest = both (not (is_empty (least_common_tree logs x))) (is_denied is_empty (least_common_tree logs) ms (y ∷ ys)) (both (is_none (command_at ms x)) _ denied).1 in
      subst (λ q. is_node logs q ≡ true) (sym is) (ap (λ b. b || list_any (λ log. names log x) logs) rest.0)
  down_nodes x (y ∷ ys) denied z (inr h) =
      let rest = both (not (is_empty (least_common_tree logs x))) (is_denied is_empty (least_common_tree logs) ms (y ∷ ys)) (both (is_none (command_at ms x)) _ denied).1 in
      down_nodes y ys rest.1 z (one_of y ys z h)

  pub node_law : (via : List Node) → is_chain (least_common_tree logs) ms c via ≡ true → (z : Node) → has via z ≡ true → is_node logs z ≡ true
  node_law [] chain z h = no_more z h
  node_law (x ∷ xs) chain z h = split (cases (is_upward_chain (least_common_tree logs) ms c (x ∷ xs)) (is_downward_chain (least_common_tree logs) ms c (x ∷ xs)) (both (is_none (command_at ms c.node)) _ chain).1)
    where
      cases : (a b : Bool) → (a || b) ≡ true → (a ≡ true) ⊎ (b ≡ true)
      cases true b e = inl refl
      cases false b e = inr e

      split : (is_upward_chain (least_common_tree logs) ms c (x ∷ xs) ≡ true) ⊎ (is_downward_chain (least_common_tree logs) ms c (x ∷ xs) ≡ true) → is_node logs z ≡ true
      split (inl e) =
          let way = both (leads_up c.node (x ∷ xs)) (is_denied is_dir (least_common_tree logs) ms (x ∷ xs)) (both (not (is_empty c.new)) _ e).1 in
          up_nodes c.node (inl refl) x xs way.0 way.1 z (one_of x xs z h)
      split (inr e) =
          let way = both (leads_down c.node (x ∷ xs)) (is_denied is_empty (least_common_tree logs) ms (x ∷ xs)) (both (not (is_dir c.new)) _ e).1 in
          down_nodes x xs way.1 z (one_of x xs z h)
