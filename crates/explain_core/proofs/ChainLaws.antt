-- Where there is a chain, the command and the set never fit together; and the ways that chains take.
use Rattle.std.proofs.Common.{◌≡◌, ℕ, zero, suc, ◌<◌, ◌≤◌, length, Bool, true, false, not, ◌&&◌, ◌||◌, List, [], ◌∷◌, Option, Some, None, refl, sym, ap, subst, ◌∙◌, arith, ◌⊎◌, inl, inr}
use Rattle.std.specs.Prelude.{is_some, is_none}
use Rattle.sync_path.specs.Paths.{Node, parent, is_under}
use Rattle.sync_command.specs.declared.values.Value.{Value}
use Rattle.sync_command.specs.Values.{is_empty, is_dir}
use Rattle.sync_command.specs.Changes.{Change}
use Rattle.sync_command.specs.Trees.{Holding, command_at, after, Fits}
use Rattle.sync_command.specs.Maps.{Store, at}
use Rattle.sync_path.specs.Children.{is_child}
use Rattle.refluent.specs.Sets.{is_in, IsSubset}
use Rattle.refluent.specs.CommonTrees.{AllChange, IsCommonTree, least_common_tree}
use Rattle.refluent.specs.Drawn.{drawn_commands}
use Rattle.sync_path.proofs.CallerLemmas.{HasParentUnder, both, child_at, child_is, under_parent, under_split, under_up}
use Rattle.sync_command.proofs.CallerLemmas.{command_at-node, full_from_dir, tree_above}
use Rattle.refluent.proofs.CallerLemmas.{after_none, after_some, at_from_in, each_law, fewer, in_from_at, least_law}
use Rattle.explain_core.specs.Chains.{denies, is_chain, is_denied, is_downward_chain, is_upward_chain, last_from, leads_down, leads_up}

-- a test passes or does not
pub is_or_not : (b : Bool) → (b ≡ true) ⊎ (b ≡ false)
is_or_not true = inl refl
is_or_not false = inr refl

pub not_true : (b : Bool) → not b ≡ true → b ≡ false
not_true true e = cc
not_true false e = refl

not_false : (b : Bool) → b ≡ false → not b ≡ true
not_false b e = ap not e

clear : (a b : Bool) → (a ≡ false → b ≡ true) → b ≡ false → a ≡ true
clear a b h e = grind arith

pub not_both : (b : Bool) → b ≡ true → b ≡ false → ⊥
not_both b e f = cc (e, f)

-- the command that denies a demand
pub found : (demand : Value → Bool) (o : Option Change) → denies demand o ≡ true → (d : Change) × (o ≡ Some d) × (demand d.new ≡ false)
found demand None e = cc (e)
found demand (Some d) e = (d, refl, not_true (demand d.new) e)

-- ---- a chain bars its command

module _ (u t : Holding) (ms ns : List Change) (fits : Fits t ns) (part : IsSubset ms ns) where
  kept : (p : Node) (d : Change) → command_at ms p ≡ Some d → command_at ns p ≡ Some d
  kept p d e = subst (λ q. command_at ns q ≡ Some d) (sym (command_at-node ms p d e)) (at_from_in ns fits.one d (part d (in_from_at ms p d e)))

  climb : (n : Node) (x : Node) (xs : List Node) → leads_up n (x ∷ xs) ≡ true → is_denied is_dir u ms (x ∷ xs) ≡ true → is_empty (after ns t n) ≡ false → ⊥
  climb n x [] up denied full =
      let child = both (is_child n x) true up in
      let d = found is_dir (command_at ms x) denied in
      not_both (is_dir (after ns t x)) (fits.tree x n (child_is n x child.0) full) (ap is_dir (after_some t ns x d.0 (kept x d.0 d.1)) ∙ d.2)
  climb n x (y ∷ ys) up denied full =
      let child = both (is_child n x) (leads_up x (y ∷ ys)) up in
      let rest = both (not (is_dir (u x))) (is_denied is_dir u ms (y ∷ ys)) (both (is_none (command_at ms x)) _ denied).1 in
      climb x y ys child.1 rest.1 (full_from_dir (after ns t x) (fits.tree x n (child_is n x child.0) full))

  sink : (n : Node) (x : Node) (xs : List Node) → leads_down n (x ∷ xs) ≡ true → is_denied is_empty u ms (x ∷ xs) ≡ true → is_dir (after ns t n) ≡ false → ⊥
  sink n x [] down denied bare =
      let child = both (is_child x n) true down in
      let d = found is_empty (command_at ms x) denied in
      not_both (is_empty (after ns t x)) (clear _ _ (fits.tree n x (child_is x n child.0)) bare) (ap is_empty (after_some t ns x d.0 (kept x d.0 d.1)) ∙ d.2)
  sink n x (y ∷ ys) down denied bare =
      let child = both (is_child x n) (leads_down x (y ∷ ys)) down in
      let rest = both (not (is_empty (u x))) (is_denied is_empty u ms (y ∷ ys)) (both (is_none (command_at ms x)) _ denied).1 in
      sink x y ys child.1 rest.1 (no_dir (after ns t x) (clear _ _ (fits.tree n x (child_is x n child.0)) bare))
    where
      no_dir : (v : Value) → is_empty v ≡ true → is_dir v ≡ false
      no_dir v e = grind arith

  bars : (c : Change) → is_in ns c ≡ true → is_in ms c ≡ false → (via : List Node) → is_chain u ms c via ≡ true → ⊥
  bars c there missing [] chain = go (command_at ms c.node) refl chain
    where
      go : (o : Option Change) → command_at ms c.node ≡ o → is_some o ≡ true → ⊥
      go None e s = cc (s)
      go (Some d) e s =
          let same : d ≡ c = some_is (sym (kept c.node d e) ∙ at_from_in ns fits.one c there) in
          not_both (is_in ms c) (subst (λ x. is_in ms x ≡ true) same (in_from_at ms c.node d e)) missing
        where
          some_is : Some d ≡ Some c → d ≡ c
          some_is e = cc
  bars c there missing (x ∷ xs) chain = split (cases _ _ (both (is_none (command_at ms c.node)) _ chain).1)
    where
      cases : (a b : Bool) → (a || b) ≡ true → (a ≡ true) ⊎ (b ≡ true)
      cases true b e = inl refl
      cases false b e = inr e

      new : after ns t c.node ≡ c.new
      new = after_some t ns c.node c (at_from_in ns fits.one c there)

      split : (is_upward_chain u ms c (x ∷ xs) ≡ true) ⊎ (is_downward_chain u ms c (x ∷ xs) ≡ true) → ⊥
      split (inl e) =
          let parts = both (not (is_empty c.new)) (leads_up c.node (x ∷ xs) && is_denied is_dir u ms (x ∷ xs)) e in
          let way = both (leads_up c.node (x ∷ xs)) (is_denied is_dir u ms (x ∷ xs)) parts.1 in
          climb c.node x xs way.0 way.1 (ap is_empty new ∙ not_true (is_empty c.new) parts.0)
      split (inr e) =
          let parts = both (not (is_dir c.new)) (leads_down c.node (x ∷ xs) && is_denied is_empty u ms (x ∷ xs)) e in
          let way = both (leads_down c.node (x ∷ xs)) (is_denied is_empty u ms (x ∷ xs)) parts.1 in
          sink c.node x xs way.0 way.1 (ap is_dir new ∙ not_true (is_dir c.new) parts.0)

-- Where there is a chain for a command, no set that fits has both the command and the whole set.
pub bars_law : (u t : Holding) (ms : List Change) (c : Change) → is_in ms c ≡ false → (via : List Node) → is_chain u ms c via ≡ true → (whole : List Change) → Fits t whole → IsSubset (c ∷ ms) whole → ⊥
bars_law u t ms c missing via chain whole fits has =
    let parts = fewer c ms whole has in
    bars u t ms whole fits parts.1 c parts.0 missing via chain

-- ---- a chain for each command outside a merger

-- a list that leads up from a node to a command that leaves no directory
pub record WayUp (u : Holding) (ms : List Change) (n : Node) : Type 0 where
  pub first : Node
  pub rest : List Node
  pub leads : leads_up n (first ∷ rest) ≡ true
  pub denied : is_denied is_dir u ms (first ∷ rest) ≡ true

-- the first node is the second or is under it
abbrev pub IsAtOrUnder : Node → Node → Type 0
IsAtOrUnder p q = (p ≡ q) ⊎ (is_under p q ≡ true)

pub at_or_under_up : (p n q : Node) → IsAtOrUnder p n → parent n ≡ Some q → IsAtOrUnder p q
at_or_under_up p n q (inl e) up = inr (subst (λ x. is_under x q ≡ true) (sym e) (under_parent q n up))
at_or_under_up p n q (inr u) up = inr (under_up p n q u up)

-- a list that leads down from a node to a command that leaves no Empty

pub record WayDown (u : Holding) (ms : List Change) (n : Node) : Type 0 where
  pub first : Node
  pub rest : List Node
  pub leads : leads_down n (first ∷ rest) ≡ true
  pub denied : is_denied is_empty u ms (first ∷ rest) ≡ true

-- one that ends at a node or above it
pub record WayFrom (u : Holding) (ms : List Change) (n e : Node) : Type 0 where
  pub way : WayDown u ms n
  pub over : IsAtOrUnder e (last_from way.first way.rest)

pub all3 : (a b c : Bool) → a ≡ true → b ≡ true → c ≡ true → (a && (b && c)) ≡ true
all3 a b c e f g = grind arith

pub and : (a b : Bool) → a ≡ true → b ≡ true → (a && b) ≡ true
and a b e f = grind arith

module _ (u : Holding) (ms : List Change) (fits : Fits u ms) where
  -- up from what is under a node that the set leaves other than a directory
  pub way_up : (k : ℕ) (d : Change) → command_at ms d.node ≡ Some d → is_dir d.new ≡ false → (n : Node) → length n ≤ k → is_under n d.node ≡ true → WayUp u ms n
  way_up zero d there bare n short under = let w : HasParentUnder n d.node = under_split n d.node under in let s : length w.up < length n = w.shorter in absurd (omega arith)
  way_up (suc k) d there bare n short under = go (under_split n d.node under) (λ x s v. way_up k d there bare x s v)
    where
      go : HasParentUnder n d.node → ((x : Node) → length x ≤ k → is_under x d.node ≡ true → WayUp u ms x) → WayUp u ms n
      go w rec = split w.way
        where
          child : is_child n w.up ≡ true
          child = child_at n w.up w.is

          ends : (e : Change) → command_at ms w.up ≡ Some e → is_dir e.new ≡ false → WayUp u ms n
          ends e at bare' = record { first = w.up; rest = []; leads = and (is_child n w.up) true child refl; denied = ap (denies is_dir) at ∙ ap not bare' }

          -- above a directory there are directories only
          no_dir : is_under w.up d.node ≡ true → is_dir (after ms u w.up) ≡ false
          no_dir under = decide (is_or_not (is_dir (after ms u w.up)))
            where
              decide : (is_dir (after ms u w.up) ≡ true) ⊎ (is_dir (after ms u w.up) ≡ false) → is_dir (after ms u w.up) ≡ false
              decide (inl e) = absurd (not_both (is_dir (after ms u d.node)) (tree_above (after ms u) fits.tree w.up d.node under (full_from_dir _ e)) (ap is_dir (after_some u ms d.node d there) ∙ bare))
              decide (inr e) = e

          further : is_under w.up d.node ≡ true → (o : Option Change) → command_at ms w.up ≡ o → WayUp u ms n
          further under (Some e) at = ends e at (ap is_dir (sym (after_some u ms w.up e at)) ∙ no_dir under)
          further under None at =
              let s : length w.up < length n = w.shorter in
              let next : WayUp u ms w.up = rec w.up (omega arith) under in
              record {
                first = w.up;
                rest = next.first ∷ next.rest;
                leads = and (is_child n w.up) (leads_up w.up (next.first ∷ next.rest)) child next.leads;
                denied = all3 (is_none (command_at ms w.up)) (not (is_dir (u w.up))) (is_denied is_dir u ms (next.first ∷ next.rest)) (ap is_none at) (ap not (ap is_dir (sym (after_none u ms w.up at)) ∙ no_dir under)) next.denied;
              }

          split : (w.up ≡ d.node) ⊎ (is_under w.up d.node ≡ true) → WayUp u ms n
          split (inl is) = ends d (ap (command_at ms) is ∙ there) bare
          split (inr under) = further under (command_at ms w.up) refl

  -- up from a node that the set leaves non-empty to the children of a node above it
  way_from : (k : ℕ) (n e x : Node) (xs : List Node) → length x ≤ k → is_under x n ≡ true → is_empty (after ms u x) ≡ false → leads_down x xs ≡ true → is_denied is_empty u ms (x ∷ xs) ≡ true →
      IsAtOrUnder e x → IsAtOrUnder e (last_from x xs) → WayFrom u ms n e
  way_from zero n e x xs short under full leads denied low over = let w : HasParentUnder x n = under_split x n under in let s : length w.up < length x = w.shorter in absurd (omega arith)
  way_from (suc k) n e x xs short under full leads denied low over = go (under_split x n under) (λ y ys s v. way_from k n e y ys s v)
    where
      go : HasParentUnder x n →
          ((y : Node) (ys : List Node) → length y ≤ k → is_under y n ≡ true → is_empty (after ms u y) ≡ false → leads_down y ys ≡ true → is_denied is_empty u ms (y ∷ ys) ≡ true → IsAtOrUnder e y → IsAtOrUnder e (last_from y ys) → WayFrom u ms n e) →
          WayFrom u ms n e
      go w rec = split w.way
        where
          child : is_child x w.up ≡ true
          child = child_at x w.up w.is

          above : is_empty (after ms u w.up) ≡ false
          above = full_from_dir (after ms u w.up) (fits.tree w.up x w.is full)

          higher : IsAtOrUnder e w.up
          higher = at_or_under_up e x w.up low w.is

          further : is_under w.up n ≡ true → (o : Option Change) → command_at ms w.up ≡ o → WayFrom u ms n e
          further under (Some d) at =
              let s : length w.up < length x = w.shorter in
              rec w.up [] (omega arith) under above refl (ap (denies is_empty) at ∙ ap not (ap is_empty (sym (after_some u ms w.up d at)) ∙ above)) higher higher
          further under None at =
              let s : length w.up < length x = w.shorter in
              rec w.up (x ∷ xs) (omega arith) under above (and (is_child x w.up) (leads_down x xs) child leads)
              (all3 (is_none (command_at ms w.up)) (not (is_empty (u w.up))) (is_denied is_empty u ms (x ∷ xs)) (ap is_none at) (ap not (ap is_empty (sym (after_none u ms w.up at)) ∙ above)) denied)
              higher over

          split : (w.up ≡ n) ⊎ (is_under w.up n ≡ true) → WayFrom u ms n e
          split (inl is) = record { way = record { first = x; rest = xs; leads = and (is_child x n) (leads_down x xs) (subst (λ q. is_child x q ≡ true) is child) leads; denied = denied }; over = over }
          split (inr under) = further under (command_at ms w.up) refl

  -- down to a command of the set that leaves its node non-empty, or to one above it
  pub way_down : (n : Node) (d : Change) → command_at ms d.node ≡ Some d → is_under d.node n ≡ true → is_empty d.new ≡ false → WayFrom u ms n d.node
  way_down n d there under full = way_from (length d.node) n d.node d.node [] (omega arith) under (ap is_empty (after_some u ms d.node d there) ∙ full) refl (ap (denies is_empty) there ∙ ap not full) (inl refl) (inl refl)

  pub down_chain : (c : Change) → command_at ms c.node ≡ None → is_dir c.new ≡ false → (way : WayDown u ms c.node) → is_chain u ms c (way.first ∷ way.rest) ≡ true
  down_chain c none bare way = and (is_none (command_at ms c.node)) _ (ap is_none none) (right (is_upward_chain u ms c (way.first ∷ way.rest)) _ (all3 (not (is_dir c.new)) (leads_down c.node (way.first ∷ way.rest)) (is_denied is_empty u ms (way.first ∷ way.rest)) (ap not bare) way.leads way.denied))
    where
      right : (a b : Bool) → b ≡ true → (a || b) ≡ true
      right a b e = grind arith

  pub up_chain : (c : Change) → command_at ms c.node ≡ None → is_empty c.new ≡ false → (way : WayUp u ms c.node) → is_chain u ms c (way.first ∷ way.rest) ≡ true
  up_chain c none full way = and (is_none (command_at ms c.node)) _ (ap is_none none) (left _ (is_downward_chain u ms c (way.first ∷ way.rest)) (all3 (not (is_empty c.new)) (leads_up c.node (way.first ∷ way.rest)) (is_denied is_dir u ms (way.first ∷ way.rest)) (ap not full) way.leads way.denied))
    where
      left : (a b : Bool) → a ≡ true → (a || b) ≡ true
      left a b e = grind arith

-- a drawn set that fits a common tree fits the least one
pub least_fits : (logs : List (List Change)) → AllChange logs → (m : Store) → IsCommonTree m logs → (ms : List Change) → IsSubset ms (drawn_commands logs) → Fits (at m) ms → Fits (least_common_tree logs) ms
least_fits logs change m common ms part fits =
    let least = least_law logs change (record { map = m; common = common }) in
    subst (λ u. Fits u ms) least.1 (each_law logs change m least.0 common least.2 ms part fits)
