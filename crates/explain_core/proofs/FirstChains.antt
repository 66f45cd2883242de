-- The first chain: there is one where there is any, and only one; where none leads up, it is the way down to the first
-- node at which the set leaves something.
use Rattle.std.proofs.Common.{◌≡◌, ℕ, zero, suc, ◌<◌, ◌≤◌, length, Bool, true, false, not, ◌&&◌, ◌||◌, List, [], ◌∷◌, Option, Some, None, refl, sym, ap, subst, ◌∙◌, arith, ◌⊎◌, inl, inr}
use Rattle.std.specs.Prelude.{is_some, is_none}
use Rattle.std.specs.List.{list_any}
use Rattle.sync_path.specs.Paths.{Node, parent, same_path, is_under, comes_before}
use Rattle.sync_command.specs.Values.{is_empty, is_dir}
use Rattle.sync_command.specs.declared.values.Value.{Value}
use Rattle.sync_command.specs.Changes.{Change, same_change}
use Rattle.sync_command.specs.Trees.{Holding, after, command_at, Fits}
use Rattle.sync_command.specs.Maps.{Store, at}
use Rattle.sync_path.specs.Children.{is_child}
use Rattle.refluent.specs.Sets.{is_in, IsSubset}
use Rattle.refluent.specs.CommonTrees.{AllChange, IsCommonTree, least_common_tree}
use Rattle.refluent.specs.Drawn.{drawn_commands}
use Rattle.sync_path.proofs.CallerLemmas.{HasParentUnder, before_asym, before_total, before_trans, both, closed_up, parent_apart, parent_before, same_path_at, same_path_is, under_down, under_parent, under_shorter, under_split, under_up, child_is}
use Rattle.sync_command.proofs.CallerLemmas.{command_at-node, full_from_dir, tree_above}
use Rattle.refluent.proofs.CallerLemmas.{after_none, after_some, at_from_in, fewer, in_from_at, same_change_is, same_change_refl}
use Rattle.explain_core.specs.Chains.{IsFirstChain, denies, goes_first, is_chain, is_denied, is_downward_chain, is_upward_chain, last_from, leads_down, leads_up}
use Rattle.explain_core.proofs.ChainLaws.{IsAtOrUnder, WayDown, WayFrom, WayUp, all3, and, at_or_under_up, down_chain, found, least_fits, not_both, not_true, is_or_not, up_chain, way_down, way_up}

-- the first leaves its node other than a directory, and the second leaves something under that node
abbrev stands_over : Change → Change → Bool
stands_over d c = not (is_dir d.new) && (is_under c.node d.node && not (is_empty c.new))

some_is : {p q : Node} → Some p ≡ Some q → p ≡ q
some_is e = cc

never : (q n : Node) → parent n ≡ Some q → is_under q n ≡ true → ⊥
never q n e u = let a : length n < length q = under_shorter q n u in let b : length q < length n = under_shorter n q (under_parent q n e) in omega arith

not_own : (q n : Node) → parent n ≡ Some q → q ≡ n → ⊥
not_own q n e is = not_both (same_path q n) (same_path_at q n is) (parent_apart q n e)

at_or_under : (p n q : Node) → IsAtOrUnder p n → IsAtOrUnder n q → IsAtOrUnder p q
at_or_under p n q (inl e) h = subst (λ x. IsAtOrUnder x q) (sym e) h
at_or_under p n q (inr u) (inl e) = inr (subst (λ x. is_under p x ≡ true) e u)
at_or_under p n q (inr u) (inr v) = inr (closed_up (λ x. is_under p x) (λ r s e w. under_up p s r w e) n q v u)

-- one child of a node is at or above a node
one_child : (k : ℕ) (n x y e : Node) → length e ≤ k → parent x ≡ Some n → parent y ≡ Some n → IsAtOrUnder e x → IsAtOrUnder e y → x ≡ y
one_child k n x y e short px py (inl a) (inl b) = sym a ∙ b
one_child k n x y e short px py (inl a) (inr v) = absurd (above (under_split x y (subst (λ z. is_under z y ≡ true) a v)))
  where
    above : HasParentUnder x y → ⊥
    above w = let up : w.up ≡ n = some_is (sym w.is ∙ px) in go up w.way
      where
        go : w.up ≡ n → (w.up ≡ y) ⊎ (is_under w.up y ≡ true) → ⊥
        go up (inl is) = not_own n y py (sym up ∙ is)
        go up (inr u) = never n y py (subst (λ z. is_under z y ≡ true) up u)
one_child k n x y e short px py (inr u) (inl b) = absurd (above (under_split y x (subst (λ z. is_under z x ≡ true) b u)))
  where
    above : HasParentUnder y x → ⊥
    above w = let up : w.up ≡ n = some_is (sym w.is ∙ py) in go up w.way
      where
        go : w.up ≡ n → (w.up ≡ x) ⊎ (is_under w.up x ≡ true) → ⊥
        go up (inl is) = not_own n x px (sym up ∙ is)
        go up (inr u) = never n x px (subst (λ z. is_under z x ≡ true) up u)
one_child zero n x y e short px py (inr u) (inr v) = let w : HasParentUnder e x = under_split e x u in let s : length w.up < length e = w.shorter in absurd (omega arith)
one_child (suc k) n x y e short px py (inr u) (inr v) =
    let w : HasParentUnder e x = under_split e x u in
    let z : HasParentUnder e y = under_split e y v in
    let s : length w.up < length e = w.shorter in
    one_child k n x y w.up (omega arith) px py w.way (subst (λ q. IsAtOrUnder q y) (some_is (sym z.is ∙ w.is)) z.way)

-- the last node of a list that leads down is at its first node or under it
pub last_low : (n x : Node) (xs : List Node) → leads_down n (x ∷ xs) ≡ true → IsAtOrUnder (last_from x xs) x
last_low n x [] down = inl refl
last_low n x (y ∷ ys) down =
    let parts = both (is_child x n) (leads_down x (y ∷ ys)) down in
    let next = both (is_child y x) (leads_down y ys) parts.1 in
    at_or_under_up (last_from y ys) y x (last_low x y ys parts.1) (child_is y x next.0)

-- of two lists that lead down from a node and end at or above one node, the first nodes are the same
heads : (n e x : Node) (xs : List Node) (y : Node) (ys : List Node) → leads_down n (x ∷ xs) ≡ true → leads_down n (y ∷ ys) ≡ true → IsAtOrUnder e (last_from x xs) → IsAtOrUnder e (last_from y ys) → x ≡ y
heads n e x xs y ys dx dy ox oy =
    one_child (length e) n x y e (omega arith) (child_is x n (both (is_child x n) (leads_down x xs) dx).0) (child_is y n (both (is_child y n) (leads_down y ys) dy).0)
    (at_or_under e (last_from x xs) x ox (last_low n x xs dx)) (at_or_under e (last_from y ys) y oy (last_low n y ys dy))

clash : {A : Type 0} (demand : Value → Bool) (o : Option Change) → denies demand o ≡ true → is_none o ≡ true → A
clash demand None a b = cc (a)
clash demand (Some d) a b = cc (b)

apart_none : {A : Type 0} (o : Option Change) → is_some o ≡ true → is_none o ≡ true → A
apart_none None a b = cc (a)
apart_none (Some d) a b = cc (b)

tops : (n x : Node) (xs : List Node) (y : Node) (ys : List Node) → leads_up n (x ∷ xs) ≡ true → leads_up n (y ∷ ys) ≡ true → x ≡ y
tops n x xs y ys ux uy = some_is (sym (child_is n x (both (is_child n x) (leads_up x xs) ux).0) ∙ child_is n y (both (is_child n y) (leads_up y ys) uy).0)

-- a command of a list that passes a test, or none
pub any_is : (f : Change → Bool) (cs : List Change) → list_any f cs ≡ true → (d : Change) × (is_in cs d ≡ true) × (f d ≡ true)
any_is f [] e = cc (e)
any_is f (x ∷ cs) e = go (f x) refl e (any_is f cs)
  where
    later : (d : Change) → is_in cs d ≡ true → is_in (x ∷ cs) d ≡ true
    later d i = grind (arith, i)

    go : (b : Bool) → f x ≡ b → (b || list_any f cs) ≡ true → (list_any f cs ≡ true → (d : Change) × (is_in cs d ≡ true) × (f d ≡ true)) → (d : Change) × (is_in (x ∷ cs) d ≡ true) × (f d ≡ true)
    go true is e rec = (x, ap (λ b. b || is_in cs x) (same_change_refl x), is)
    go false is e rec = let r = rec e in (r.0, later r.0 r.1, r.2)

pub none_is : (f : Change → Bool) (cs : List Change) → list_any f cs ≡ false → (d : Change) → is_in cs d ≡ true → f d ≡ false
none_is f [] e d i = cc (i)
none_is f (x ∷ cs) e d i = go (same_change_is d x) (none_is f cs) e i
  where
    go : (same_change d x ≡ true → d ≡ x) → (list_any f cs ≡ false → (d : Change) → is_in cs d ≡ true → f d ≡ false) → list_any f (x ∷ cs) ≡ false → is_in (x ∷ cs) d ≡ true → f d ≡ false
    go is ih e i = grind arith

module _ (u : Holding) (ms : List Change) where
  none_before : (demand : Value → Bool) (x y : Node) (ys : List Node) → is_denied demand u ms (x ∷ (y ∷ ys)) ≡ true → is_none (command_at ms x) ≡ true
  none_before demand x y ys e = (both (is_none (command_at ms x)) (not (demand (u x)) && is_denied demand u ms (y ∷ ys)) e).0

  denied_after : (demand : Value → Bool) (x y : Node) (ys : List Node) → is_denied demand u ms (x ∷ (y ∷ ys)) ≡ true → is_denied demand u ms (y ∷ ys) ≡ true
  denied_after demand x y ys e = (both (not (demand (u x))) (is_denied demand u ms (y ∷ ys)) (both (is_none (command_at ms x)) (not (demand (u x)) && is_denied demand u ms (y ∷ ys)) e).1).1

  -- both lists are the same where they are denied
  pub same_way : (n e x : Node) (xs : List Node) (y : Node) (ys : List Node) → leads_down n (x ∷ xs) ≡ true → leads_down n (y ∷ ys) ≡ true → is_denied is_empty u ms (x ∷ xs) ≡ true → is_denied is_empty u ms (y ∷ ys) ≡ true →
      IsAtOrUnder e (last_from x xs) → IsAtOrUnder e (last_from y ys) → ◌≡◌ {A = List Node} (x ∷ xs) (y ∷ ys)
  same_way n e x [] y [] dx dy nx ny ox oy = ap (λ z. z ∷ []) (heads n e x [] y [] dx dy ox oy)
  same_way n e x [] y (b ∷ bs) dx dy nx ny ox oy = clash is_empty (command_at ms x) nx (ap (λ z. is_none (command_at ms z)) (heads n e x [] y (b ∷ bs) dx dy ox oy) ∙ none_before is_empty y b bs ny)
  same_way n e x (a ∷ rs) y [] dx dy nx ny ox oy = clash is_empty (command_at ms x) (ap (λ z. denies is_empty (command_at ms z)) (heads n e x (a ∷ rs) y [] dx dy ox oy) ∙ ny) (none_before is_empty x a rs nx)
  same_way n e x (a ∷ rs) y (b ∷ bs) dx dy nx ny ox oy =
      let is : x ≡ y = heads n e x (a ∷ rs) y (b ∷ bs) dx dy ox oy in
      let rest = same_way x e a rs b bs (both (is_child x n) (leads_down x (a ∷ rs)) dx).1 (ap (λ z. leads_down z (b ∷ bs)) is ∙ (both (is_child y n) (leads_down y (b ∷ bs)) dy).1) (denied_after is_empty x a rs nx) (denied_after is_empty y b bs ny) ox oy in
      λ i. is i ∷ rest i

  -- of two that lead up, both are the same
  pub same_up : (n x : Node) (xs : List Node) (y : Node) (ys : List Node) → leads_up n (x ∷ xs) ≡ true → leads_up n (y ∷ ys) ≡ true → is_denied is_dir u ms (x ∷ xs) ≡ true → is_denied is_dir u ms (y ∷ ys) ≡ true → ◌≡◌ {A = List Node} (x ∷ xs) (y ∷ ys)
  same_up n x [] y [] ux uy nx ny = ap (λ z. z ∷ []) (tops n x [] y [] ux uy)
  same_up n x [] y (b ∷ bs) ux uy nx ny = clash is_dir (command_at ms x) nx (ap (λ z. is_none (command_at ms z)) (tops n x [] y (b ∷ bs) ux uy) ∙ none_before is_dir y b bs ny)
  same_up n x (a ∷ rs) y [] ux uy nx ny = clash is_dir (command_at ms x) (ap (λ z. denies is_dir (command_at ms z)) (tops n x (a ∷ rs) y [] ux uy) ∙ ny) (none_before is_dir x a rs nx)
  same_up n x (a ∷ rs) y (b ∷ bs) ux uy nx ny =
      let is : x ≡ y = tops n x (a ∷ rs) y (b ∷ bs) ux uy in
      let rest = same_up x a rs b bs (both (is_child n x) (leads_up x (a ∷ rs)) ux).1 (ap (λ z. leads_up z (b ∷ bs)) is ∙ (both (is_child n y) (leads_up y (b ∷ bs)) uy).1) (denied_after is_dir x a rs nx) (denied_after is_dir y b bs ny) in
      λ i. is i ∷ rest i

  -- the command at the last node
  pub last_denied : (demand : Value → Bool) (x : Node) (xs : List Node) → is_denied demand u ms (x ∷ xs) ≡ true → (d : Change) × (command_at ms (last_from x xs) ≡ Some d) × (demand d.new ≡ false)
  last_denied demand x [] e = found demand (command_at ms x) e
  last_denied demand x (y ∷ ys) e = last_denied demand y ys (denied_after demand x y ys e)

-- what leads up ends above where it began
pub last_high : (n x : Node) (xs : List Node) → leads_up n (x ∷ xs) ≡ true → is_under n (last_from x xs) ≡ true
last_high n x [] up = under_parent x n (child_is n x (both (is_child n x) true up).0)
last_high n x (y ∷ ys) up = let parts = both (is_child n x) (leads_up x (y ∷ ys)) up in closed_up (λ z. is_under n z) (λ r s e w. under_up n s r w e) x (last_from y ys) (last_high x y ys parts.1) (under_parent x n (child_is n x parts.0))

-- no list leads both up and down
pub not_both_ways : (n x : Node) (xs : List Node) → leads_down n (x ∷ xs) ≡ true → leads_up n (x ∷ xs) ≡ false
not_both_ways n x xs down = decide (is_or_not (leads_up n (x ∷ xs)))
  where
    decide : (leads_up n (x ∷ xs) ≡ true) ⊎ (leads_up n (x ∷ xs) ≡ false) → leads_up n (x ∷ xs) ≡ false
    decide (inr e) = e
    decide (inl e) = absurd (never x n (child_is n x (both (is_child n x) (leads_up x xs) e).0) (under_parent n x (child_is x n (both (is_child x n) (leads_down x xs) down).0)))

-- ---- the first of those that lead down

module _ (u : Holding) (ms : List Change) (fits : Fits u ms) (c : Change) where
  -- the chain ends at a node of the set
  abbrev EndsIn : List Change → WayDown u ms c.node → Type 0
  EndsIn cs way = (d : Change) × (is_in cs d ≡ true) × (last_from way.first way.rest ≡ d.node)

  abbrev via : WayDown u ms c.node → List Node
  via way = way.first ∷ way.rest

  abbrev ends : WayDown u ms c.node → Node
  ends way = last_from way.first way.rest

  -- it is at or before the other
  abbrev Leads : WayDown u ms c.node → WayDown u ms c.node → Type 0
  Leads way other = (via way ≡ via other) ⊎ (comes_before (ends way) (ends other) ≡ true)

  alike : (e : Node) (way other : WayDown u ms c.node) → IsAtOrUnder e (ends way) → IsAtOrUnder e (ends other) → via way ≡ via other
  alike e way other = same_way u ms c.node e way.first way.rest other.first other.rest way.leads other.leads way.denied other.denied

  ends_as : (way other : WayDown u ms c.node) → via way ≡ via other → ends way ≡ ends other
  ends_as way other is = ap (last_from c.node) is

  abbrev Best : List Change → Type 0
  Best cs = ((other : WayDown u ms c.node) → EndsIn cs other → ⊥) ⊎ ((way : WayDown u ms c.node) × ((other : WayDown u ms c.node) → EndsIn cs other → Leads way other))

  one_or_rest : (d : Change) (cs : List Change) (other : WayDown u ms c.node) → EndsIn (d ∷ cs) other → (ends other ≡ d.node) ⊎ EndsIn cs other
  one_or_rest d cs other (e, there, is) = split (is_or_not (same_change e d)) there
    where
      split : (same_change e d ≡ true) ⊎ (same_change e d ≡ false) → is_in (d ∷ cs) e ≡ true → (ends other ≡ d.node) ⊎ EndsIn cs other
      split (inl s) h = inl (is ∙ ap (λ x. x.node) (same_change_is e d s))
      split (inr s) h = inr (e, ap (λ b. b || is_in cs e) (sym s) ∙ h, is)

  best : is_dir c.new ≡ false → (cs : List Change) → IsSubset cs ms → Best cs
  best bare [] part = inl (λ other h. not_both (is_in [] h.0) h.1 refl)
  best bare (d ∷ cs) part = go (best bare cs parts.1) (is_or_not (is_under d.node c.node && not (is_empty d.new)))
    where
      parts : (is_in ms d ≡ true) × IsSubset cs ms
      parts = fewer d cs ms part

      there : command_at ms d.node ≡ Some d
      there = at_from_in ms fits.one d parts.0

      ends_there : (other : WayDown u ms c.node) → ends other ≡ d.node → (is_under d.node c.node && not (is_empty d.new)) ≡ true
      ends_there other is =
          let last = last_denied u ms is_empty other.first other.rest other.denied in
          let same : last.0 ≡ d = one_is (sym last.1 ∙ ap (command_at ms) is ∙ there) in
          let low : is_under (ends other) c.node ≡ true = below (last_low c.node other.first other.rest other.leads) in
          and (is_under d.node c.node) (not (is_empty d.new)) (ap (λ z. is_under z c.node) (sym is) ∙ low) (ap not (ap (λ x. is_empty x.new) (sym same) ∙ last.2))
        where
          one_is : {x y : Change} → Some x ≡ Some y → x ≡ y
          one_is e = cc

          child : is_under other.first c.node ≡ true
          child = under_parent c.node other.first (child_is other.first c.node (both (is_child other.first c.node) (leads_down other.first other.rest) other.leads).0)

          below : IsAtOrUnder (ends other) other.first → is_under (ends other) c.node ≡ true
          below (inl e) = ap (λ z. is_under z c.node) e ∙ child
          below (inr v) = closed_up (λ z. is_under (ends other) z) (λ r s e w. under_up (ends other) s r w e) other.first c.node child v

      -- one that ends at the command's node is the way down to it
      go : Best cs → ((is_under d.node c.node && not (is_empty d.new)) ≡ true) ⊎ ((is_under d.node c.node && not (is_empty d.new)) ≡ false) → Best (d ∷ cs)
      go (inl none) (inr apart) = inl (λ other h. split other (one_or_rest d cs other h))
        where
          split : (other : WayDown u ms c.node) → (ends other ≡ d.node) ⊎ EndsIn cs other → ⊥
          split other (inr h) = none other h
          split other (inl is) = not_both _ (ends_there other is) apart
      go (inr (way, first)) (inr apart) = inr (way, λ other h. split other (one_or_rest d cs other h))
        where
          split : (other : WayDown u ms c.node) → (ends other ≡ d.node) ⊎ EndsIn cs other → Leads way other
          split other (inr h) = first other h
          split other (inl is) = absurd (not_both _ (ends_there other is) apart)
      go old (inl holds) = both_of old (way_down u ms fits c.node d there yess.0 (not_true (is_empty d.new) yess.1))
        where
          yess : (is_under d.node c.node ≡ true) × (not (is_empty d.new) ≡ true)
          yess = both (is_under d.node c.node) (not (is_empty d.new)) holds

          both_of : Best cs → WayFrom u ms c.node d.node → Best (d ∷ cs)
          both_of old w = join old
            where
              own : (other : WayDown u ms c.node) → ends other ≡ d.node → via w.way ≡ via other
              own other is = alike d.node w.way other w.over (inl (sym is))

              join : Best cs → Best (d ∷ cs)
              join (inl none) = inr (w.way, λ other h. split other (one_or_rest d cs other h))
                where
                  split : (other : WayDown u ms c.node) → (ends other ≡ d.node) ⊎ EndsIn cs other → Leads w.way other
                  split other (inr h) = absurd (none other h)
                  split other (inl is) = inl (own other is)
              join (inr (way, first)) = order (is_or_not (same_path (ends w.way) (ends way))) (is_or_not (comes_before (ends w.way) (ends way)))
                where
                  older : Leads way w.way → (other : WayDown u ms c.node) → (ends other ≡ d.node) ⊎ EndsIn cs other → Leads way other
                  older lead other (inr h) = first other h
                  older (inl is) other (inl e) = inl (is ∙ own other e)
                  older (inr low) other (inl e) = inr (ap (comes_before (ends way)) (sym (ends_as w.way other (own other e))) ∙ low)

                  newer : comes_before (ends w.way) (ends way) ≡ true → (other : WayDown u ms c.node) → (ends other ≡ d.node) ⊎ EndsIn cs other → Leads w.way other
                  newer low other (inl e) = inl (own other e)
                  newer low other (inr h) = after_first (first other h)
                    where
                      after_first : Leads way other → Leads w.way other
                      after_first (inl is) = inr (ap (comes_before (ends w.way)) (sym (ends_as way other is)) ∙ low)
                      after_first (inr next) = inr (before_trans (ends w.way) (ends way) (ends other) low next)

                  order : (same_path (ends w.way) (ends way) ≡ true) ⊎ (same_path (ends w.way) (ends way) ≡ false) → (comes_before (ends w.way) (ends way) ≡ true) ⊎ (comes_before (ends w.way) (ends way) ≡ false) → Best (d ∷ cs)
                  order (inl same) b = inr (way, λ other h. older (inl (alike (ends way) way w.way (inl refl) (inl (sym (same_path_is (ends w.way) (ends way) same))))) other (one_or_rest d cs other h))
                  order (inr apart) (inl low) = inr (w.way, λ other h. newer low other (one_or_rest d cs other h))
                  order (inr apart) (inr late) = inr (way, λ other h. older (inr (before_total (ends w.way) (ends way) apart late)) other (one_or_rest d cs other h))

  -- ---- the first chain

  cases : (a b : Bool) → (a || b) ≡ true → (a ≡ true) ⊎ (b ≡ true)
  cases true b e = inl refl
  cases false b e = inr e

  left : (a b : Bool) → a ≡ true → (a || b) ≡ true
  left a b e = grind arith

  -- a chain that isn't empty leads up or down
  pub up_or_down : (x : Node) (xs : List Node) → is_chain u ms c (x ∷ xs) ≡ true → (is_upward_chain u ms c (x ∷ xs) ≡ true) ⊎ (is_downward_chain u ms c (x ∷ xs) ≡ true)
  up_or_down x xs e = cases (is_upward_chain u ms c (x ∷ xs)) (is_downward_chain u ms c (x ∷ xs)) (both (is_none (command_at ms c.node)) (is_upward_chain u ms c (x ∷ xs) || is_downward_chain u ms c (x ∷ xs)) e).1

  pub down_parts : (x : Node) (xs : List Node) → is_downward_chain u ms c (x ∷ xs) ≡ true → (is_dir c.new ≡ false) × (leads_down c.node (x ∷ xs) ≡ true) × (is_denied is_empty u ms (x ∷ xs) ≡ true)
  down_parts x xs e =
      let parts = both (not (is_dir c.new)) (leads_down c.node (x ∷ xs) && is_denied is_empty u ms (x ∷ xs)) e in
      let way = both (leads_down c.node (x ∷ xs)) (is_denied is_empty u ms (x ∷ xs)) parts.1 in (not_true (is_dir c.new) parts.0, way.0, way.1)

  pub up_parts : (x : Node) (xs : List Node) → is_upward_chain u ms c (x ∷ xs) ≡ true → (is_empty c.new ≡ false) × (leads_up c.node (x ∷ xs) ≡ true) × (is_denied is_dir u ms (x ∷ xs) ≡ true)
  up_parts x xs e =
      let parts = both (not (is_empty c.new)) (leads_up c.node (x ∷ xs) && is_denied is_dir u ms (x ∷ xs)) e in
      let way = both (leads_up c.node (x ∷ xs)) (is_denied is_dir u ms (x ∷ xs)) parts.1 in (not_true (is_empty c.new) parts.0, way.0, way.1)

  pub first_from : (via : List Node) × (is_chain u ms c via ≡ true) → (via : List Node) × IsFirstChain u ms c via
  first_from some = go (command_at ms c.node) refl (is_or_not (list_any (λ d. stands_over d c) ms))
    where
      go : (o : Option Change) → command_at ms c.node ≡ o → (list_any (λ d. stands_over d c) ms ≡ true) ⊎ (list_any (λ d. stands_over d c) ms ≡ false) → (via : List Node) × IsFirstChain u ms c via
      go (Some x) at b = ([], record { chain = ap is_some at; first = λ other h. inr refl })
      go None at (inl e) = up (any_is (λ d. stands_over d c) ms e)
        where
          up : (d : Change) × (is_in ms d ≡ true) × (stands_over d c ≡ true) → (via : List Node) × IsFirstChain u ms c via
          up (d, there, holds) =
              let parts = both (not (is_dir d.new)) (is_under c.node d.node && not (is_empty c.new)) holds in
              let more = both (is_under c.node d.node) (not (is_empty c.new)) parts.1 in
              let way : WayUp u ms c.node = way_up u ms fits (length c.node) d (at_from_in ms fits.one d there) (not_true (is_dir d.new) parts.0) c.node (omega arith) more.0 in
              (way.first ∷ way.rest, record { chain = up_chain u ms fits c at (not_true (is_empty c.new) more.1) way; first = λ other h. inr (left (leads_up c.node (way.first ∷ way.rest)) _ way.leads) })
      go None at (inr e) = from some.0 some.1
        where
          no_up : (x : Node) (xs : List Node) → is_upward_chain u ms c (x ∷ xs) ≡ true → ⊥
          no_up x xs h =
              let parts = up_parts x xs h in
              let last = last_denied u ms is_dir x xs parts.2 in
              let node : last_from x xs ≡ last.0.node = command_at-node ms (last_from x xs) last.0 last.1 in
              not_both (stands_over last.0 c)
              (and (not (is_dir last.0.new)) (is_under c.node last.0.node && not (is_empty c.new)) (ap not last.2) (and (is_under c.node last.0.node) (not (is_empty c.new)) (ap (is_under c.node) (sym node) ∙ last_high c.node x xs parts.1) (ap not parts.0)))
              (none_is (λ d. stands_over d c) ms e last.0 (in_from_at ms (last_from x xs) last.0 last.1))

          from : (via : List Node) → is_chain u ms c via ≡ true → (via : List Node) × IsFirstChain u ms c via
          from [] h = let x : is_some (command_at ms c.node) ≡ false = ap is_some at in cc (x, h)
          from (x ∷ xs) h = split (up_or_down x xs h)
            where
              split : (is_upward_chain u ms c (x ∷ xs) ≡ true) ⊎ (is_downward_chain u ms c (x ∷ xs) ≡ true) → (via : List Node) × IsFirstChain u ms c via
              split (inl g) = absurd (no_up x xs g)
              split (inr g) = take (best bare ms (λ y i. i))
                where
                  bare : is_dir c.new ≡ false
                  bare = (down_parts x xs g).0

                  some_way : WayDown u ms c.node
                  some_way = record { first = x; rest = xs; leads = (down_parts x xs g).1; denied = (down_parts x xs g).2 }

                  ended : (way : WayDown u ms c.node) → EndsIn ms way
                  ended way = let last = last_denied u ms is_empty way.first way.rest way.denied in (last.0, in_from_at ms (ends way) last.0 last.1, command_at-node ms (ends way) last.0 last.1)

                  take : Best ms → (via : List Node) × IsFirstChain u ms c via
                  take (inl none) = absurd (none some_way (ended some_way))
                  take (inr (way, first)) = (via way, record { chain = down_chain u ms fits c at bare way; first = each })
                    where
                      each : (other : List Node) → is_chain u ms c other ≡ true → (via way ≡ other) ⊎ (goes_first c.node (via way) other ≡ true)
                      each [] i = let z : is_some (command_at ms c.node) ≡ false = ap is_some at in cc (z, i)
                      each (y ∷ ys) i = choose (up_or_down y ys i)
                        where
                          choose : (is_upward_chain u ms c (y ∷ ys) ≡ true) ⊎ (is_downward_chain u ms c (y ∷ ys) ≡ true) → (via way ≡ y ∷ ys) ⊎ (goes_first c.node (via way) (y ∷ ys) ≡ true)
                          choose (inl k) = absurd (no_up y ys k)
                          choose (inr k) = order (first that (ended that))
                            where
                              that : WayDown u ms c.node
                              that = record { first = y; rest = ys; leads = (down_parts y ys k).1; denied = (down_parts y ys k).2 }

                              order : Leads way that → (via way ≡ y ∷ ys) ⊎ (goes_first c.node (via way) (y ∷ ys) ≡ true)
                              order (inl is) = inl is
                              order (inr low) = inr (later (leads_up c.node (via way)) (leads_up c.node (y ∷ ys)) _ (not_both_ways c.node y ys that.leads) low)
                                where
                                  later : (a b z : Bool) → b ≡ false → z ≡ true → (a || (not b && z)) ≡ true
                                  later a b z e f = grind arith

  -- ---- the nearest command below that leaves its node non-empty

  -- each node on a way down comes before the last
  before_last : (x y : Node) (ys : List Node) → leads_down x (y ∷ ys) ≡ true → comes_before x (last_from y ys) ≡ true
  before_last x y [] down = parent_before x y (child_is y x (both (is_child y x) true down).0)
  before_last x y (z ∷ zs) down = let parts = both (is_child y x) (leads_down y (z ∷ zs)) down in before_trans x y (last_from z zs) (parent_before x y (child_is y x parts.0)) (before_last y z zs parts.1)

  module _ (d : Change) (there : command_at ms d.node ≡ Some d) (full : is_empty d.new ≡ false)
      (nearest : (e : Change) → is_in ms e ≡ true → is_under e.node c.node ≡ true → is_empty e.new ≡ false → comes_before e.node d.node ≡ false) where
    denied_down : (x : Node) (xs : List Node) → is_under x c.node ≡ true → leads_down x xs ≡ true → last_from x xs ≡ d.node → is_denied is_empty u ms (x ∷ xs) ≡ true
    denied_down x [] under down ends = ap (denies is_empty) (ap (command_at ms) ends ∙ there) ∙ ap not full
    denied_down x (y ∷ ys) under down ends = go (command_at ms x) refl (denied_down y ys (under_down y x c.node up under) parts.1 ends)
      where
        parts : (is_child y x ≡ true) × (leads_down y ys ≡ true)
        parts = both (is_child y x) (leads_down y ys) down

        up : parent y ≡ Some x
        up = child_is y x parts.0

        below : IsAtOrUnder (last_from y ys) y → is_under (last_from y ys) x ≡ true
        below (inl e) = subst (λ z. is_under z x ≡ true) (sym e) (under_parent x y up)
        below (inr v) = under_up (last_from y ys) y x v up

        held : is_empty (after ms u x) ≡ false
        held = full_from_dir (after ms u x) (tree_above (after ms u) fits.tree d.node x (ap (λ z. is_under z x) (sym ends) ∙ below (last_low x y ys down)) (ap is_empty (after_some u ms d.node d there) ∙ full))

        go : (o : Option Change) → command_at ms x ≡ o → is_denied is_empty u ms (y ∷ ys) ≡ true → is_denied is_empty u ms (x ∷ (y ∷ ys)) ≡ true
        go (Some e) at rest =
            let node : x ≡ e.node = command_at-node ms x e at in
            let low : comes_before e.node d.node ≡ true = ap (λ z. comes_before z d.node) (sym node) ∙ ap (comes_before x) (sym ends) ∙ before_last x y ys down in
            absurd (not_both (comes_before e.node d.node) low (nearest e (in_from_at ms x e at) (ap (λ z. is_under z c.node) (sym node) ∙ under) (ap is_empty (sym (after_some u ms x e at)) ∙ held)))
        go None at rest = all3 (is_none (command_at ms x)) (not (is_empty (u x))) (is_denied is_empty u ms (y ∷ ys)) (ap is_none at) (ap not (ap is_empty (sym (after_none u ms x at)) ∙ held)) rest

    -- where no chain leads up, the way down to it is the first chain
    pub nearest_first : command_at ms c.node ≡ None → is_dir c.new ≡ false → ((other : List Node) → is_upward_chain u ms c other ≡ false) → (x : Node) (xs : List Node) → leads_down c.node (x ∷ xs) ≡ true → last_from x xs ≡ d.node → IsFirstChain u ms c (x ∷ xs)
    nearest_first none bare no_up x xs down ends = record { chain = down_chain u ms fits c none bare way; first = each }
      where
        child : is_under x c.node ≡ true
        child = under_parent c.node x (child_is x c.node (both (is_child x c.node) (leads_down x xs) down).0)

        way : WayDown u ms c.node
        way = record { first = x; rest = xs; leads = down; denied = denied_down x xs child (both (is_child x c.node) (leads_down x xs) down).1 ends }

        each : (other : List Node) → is_chain u ms c other ≡ true → (x ∷ xs ≡ other) ⊎ (goes_first c.node (x ∷ xs) other ≡ true)
        each [] h = let z : is_some (command_at ms c.node) ≡ false = ap is_some none in cc (z, h)
        each (y ∷ ys) h = choose (up_or_down y ys h)
          where
            choose : (is_upward_chain u ms c (y ∷ ys) ≡ true) ⊎ (is_downward_chain u ms c (y ∷ ys) ≡ true) → (x ∷ xs ≡ y ∷ ys) ⊎ (goes_first c.node (x ∷ xs) (y ∷ ys) ≡ true)
            choose (inl g) = absurd (not_both _ g (no_up (y ∷ ys)))
            choose (inr g) = order (is_or_not (same_path d.node (last_from y ys))) (is_or_not (comes_before d.node (last_from y ys)))
              where
                parts : (is_dir c.new ≡ false) × (leads_down c.node (y ∷ ys) ≡ true) × (is_denied is_empty u ms (y ∷ ys) ≡ true)
                parts = down_parts y ys g

                last : (e : Change) × (command_at ms (last_from y ys) ≡ Some e) × (is_empty e.new ≡ false)
                last = last_denied u ms is_empty y ys parts.2

                node : last_from y ys ≡ last.0.node
                node = command_at-node ms (last_from y ys) last.0 last.1

                low : is_under (last_from y ys) c.node ≡ true
                low = below (last_low c.node y ys parts.1)
                  where
                    top : is_under y c.node ≡ true
                    top = under_parent c.node y (child_is y c.node (both (is_child y c.node) (leads_down y ys) parts.1).0)

                    below : IsAtOrUnder (last_from y ys) y → is_under (last_from y ys) c.node ≡ true
                    below (inl e) = ap (λ z. is_under z c.node) e ∙ top
                    below (inr v) = closed_up (λ z. is_under (last_from y ys) z) (λ r s e w. under_up (last_from y ys) s r w e) y c.node top v

                order : (same_path d.node (last_from y ys) ≡ true) ⊎ (same_path d.node (last_from y ys) ≡ false) → (comes_before d.node (last_from y ys) ≡ true) ⊎ (comes_before d.node (last_from y ys) ≡ false) → (x ∷ xs ≡ y ∷ ys) ⊎ (goes_first c.node (x ∷ xs) (y ∷ ys) ≡ true)
                order (inl same) b = inl (same_way u ms c.node d.node x xs y ys down parts.1 way.denied parts.2 (inl (sym ends)) (inl (same_path_is d.node (last_from y ys) same)))
                order (inr apart) (inl early) = inr (later (leads_up c.node (x ∷ xs)) (leads_up c.node (y ∷ ys)) _ (not_both_ways c.node y ys parts.1) (ap (λ z. comes_before z (last_from y ys)) ends ∙ early))
                  where
                    later : (a b z : Bool) → b ≡ false → z ≡ true → (a || (not b && z)) ≡ true
                    later a b z e f = grind arith
                order (inr apart) (inr late) = absurd (not_both (comes_before last.0.node d.node) (ap (λ z. comes_before z d.node) (sym node) ∙ before_total d.node (last_from y ys) apart late)
                    (nearest last.0 (in_from_at ms (last_from y ys) last.0 last.1) (ap (λ z. is_under z c.node) (sym node) ∙ low) last.2))

  -- two first chains are the same
  pub first_is_one : (xs ys : List Node) → IsFirstChain u ms c xs → IsFirstChain u ms c ys → xs ≡ ys
  first_is_one xs ys one two = go (one.first ys two.chain) (two.first xs one.chain)
    where
      both_up : (xs ys : List Node) → is_chain u ms c xs ≡ true → is_chain u ms c ys ≡ true → leads_up c.node xs ≡ true → leads_up c.node ys ≡ true → xs ≡ ys
      both_up [] [] hx hy ux uy = refl
      both_up [] (y ∷ ys) hx hy ux uy = apart_none (command_at ms c.node) hx (both (is_none (command_at ms c.node)) (is_upward_chain u ms c (y ∷ ys) || is_downward_chain u ms c (y ∷ ys)) hy).0
      both_up (x ∷ xs) [] hx hy ux uy = apart_none (command_at ms c.node) hy (both (is_none (command_at ms c.node)) (is_upward_chain u ms c (x ∷ xs) || is_downward_chain u ms c (x ∷ xs)) hx).0
      both_up (x ∷ xs) (y ∷ ys) hx hy ux uy = split (up_or_down x xs hx) (up_or_down y ys hy)
        where
          split : (is_upward_chain u ms c (x ∷ xs) ≡ true) ⊎ (is_downward_chain u ms c (x ∷ xs) ≡ true) → (is_upward_chain u ms c (y ∷ ys) ≡ true) ⊎ (is_downward_chain u ms c (y ∷ ys) ≡ true) → ◌≡◌ {A = List Node} (x ∷ xs) (y ∷ ys)
          split (inl g) (inl h) = same_up u ms c.node x xs y ys ux uy (up_parts x xs g).2 (up_parts y ys h).2
          split (inl g) (inr h) = absurd (not_both _ uy (not_both_ways c.node y ys (down_parts y ys h).1))
          split (inr g) h = absurd (not_both _ ux (not_both_ways c.node x xs (down_parts x xs g).1))

      go : (xs ≡ ys) ⊎ (goes_first c.node xs ys ≡ true) → (ys ≡ xs) ⊎ (goes_first c.node ys xs ≡ true) → xs ≡ ys
      go (inl is) h = is
      go (inr g) (inl is) = sym is
      go (inr g) (inr h) = split (cases (leads_up c.node xs) _ g) (cases (leads_up c.node ys) _ h)
        where
          split : (leads_up c.node xs ≡ true) ⊎ ((not (leads_up c.node ys) && comes_before (last_from c.node xs) (last_from c.node ys)) ≡ true) →
              (leads_up c.node ys ≡ true) ⊎ ((not (leads_up c.node xs) && comes_before (last_from c.node ys) (last_from c.node xs)) ≡ true) → xs ≡ ys
          split (inl a) (inl b) = both_up xs ys one.chain two.chain a b
          split (inl a) (inr b) = absurd (not_both _ a (not_true (leads_up c.node xs) (both (not (leads_up c.node xs)) (comes_before (last_from c.node ys) (last_from c.node xs)) b).0))
          split (inr a) (inl b) = absurd (not_both _ b (not_true (leads_up c.node ys) (both (not (leads_up c.node ys)) (comes_before (last_from c.node xs) (last_from c.node ys)) a).0))
          split (inr a) (inr b) = absurd (not_both _ (both (not (leads_up c.node xs)) (comes_before (last_from c.node ys) (last_from c.node xs)) b).1 (before_asym (last_from c.node xs) (last_from c.node ys) (both (not (leads_up c.node ys)) (comes_before (last_from c.node xs) (last_from c.node ys)) a).1))

-- Where no chain leads up, the first chain is the way down to the nearest command that leaves its node non-empty.
pub nearest_law : (logs : List (List Change)) → AllChange logs → (m : Store) → IsCommonTree m logs → (ms : List Change) → IsSubset ms (drawn_commands logs) → Fits (at m) ms →
    (c d : Change) → command_at ms c.node ≡ None → is_dir c.new ≡ false → ((other : List Node) → is_upward_chain (least_common_tree logs) ms c other ≡ false) → is_in ms d ≡ true → is_empty d.new ≡ false →
    ((e : Change) → is_in ms e ≡ true → is_under e.node c.node ≡ true → is_empty e.new ≡ false → comes_before e.node d.node ≡ false) →
    (x : Node) (xs : List Node) → leads_down c.node (x ∷ xs) ≡ true → last_from x xs ≡ d.node → IsFirstChain (least_common_tree logs) ms c (x ∷ xs)
nearest_law logs change m common ms part fits c d none bare no_up there full nearest =
    let on_least : Fits (least_common_tree logs) ms = least_fits logs change m common ms part fits in
    nearest_first (least_common_tree logs) ms on_least c d (at_from_in ms fits.one d there) full nearest none bare no_up
