-- The ways up and down from a node.
use Rattle.std.proofs.Common.{◌≡◌, ℕ, zero, suc, ◌+◌, ◌<◌, ◌≤◌, Bool, true, false, not, ◌&&◌, List, [], ◌∷◌, ◌++◌, length, drop, Option, Some, None, append_assoc, length-append, refl, sym, ap, ◌∙◌, arith, ◌⊎◌, inl, inr}
use Rattle.std.specs.Prelude.{is_some, is_none, if◌then◌else◌}
use Rattle.std.proofs.lemmas.List.{append-nil}
use Rattle.std.proofs.Math.Seq.{drop-append_seam}
use Rattle.sync_path.specs.Paths.{IsUnder, Node, is_under, parent}
use Rattle.sync_command.specs.declared.values.Value.{Value}
use Rattle.sync_command.specs.Changes.{Change}
use Rattle.sync_command.specs.Trees.{Holding, command_at}
use Rattle.sync_path.specs.Children.{is_child}
use Rattle.sync_path.proofs.CallerLemmas.{both, parent_is, parent_shorter, under_is, child_at, child_is}
use Rattle.explain_core.specs.Chains.{denies, is_denied, last_from, leads_down, leads_up}
use Rattle.explain_core.specs.FirstChains.{ancestors, ancestors_from, to_command, way_down, way_to, way_up}
use Rattle.explain_core.proofs.ChainLaws.{and, found}

-- ---- up

parent_length : (n q : Node) → parent n ≡ Some q → length n ≡ suc (length q)
parent_length n q e =
    let parts = (parent_is n q).0 e in
    let long : length n ≡ length q + 1 = ap length parts.2 ∙ length-append q (parts.0 ∷ []) in
    omega (arith, long)

ancestors_up : (n q : Node) → parent n ≡ Some q → ancestors n ≡ q ∷ ancestors q
ancestors_up n q e = ap (λ k. ancestors_from k (parent n)) (parent_length n q e) ∙ ap (ancestors_from (suc (length q))) e

ancestors_root : (n : Node) → parent n ≡ None → ancestors n ≡ []
ancestors_root n e = go (length n) (parent n) e
  where
    go : (k : ℕ) (o : Option Node) → o ≡ None → ancestors_from k o ≡ []
    go zero o e = refl
    go (suc k) None e = refl
    go (suc k) (Some q) e = cc (e)

module _ (ms : List Change) where
  pub up_none : (n q : Node) → parent n ≡ Some q → command_at ms q ≡ None → way_up ms n ≡ q ∷ way_up ms q
  up_none n q e none = ap (to_command ms) (ancestors_up n q e) ∙ ap (λ o. if is_some o then q ∷ [] else q ∷ way_up ms q) none

  pub up_some : (n q : Node) (d : Change) → parent n ≡ Some q → command_at ms q ≡ Some d → way_up ms n ≡ q ∷ []
  up_some n q d e some = ap (to_command ms) (ancestors_up n q e) ∙ ap (λ o. if is_some o then q ∷ [] else q ∷ way_up ms q) some

  pub up_root : (n : Node) → parent n ≡ None → way_up ms n ≡ []
  up_root n e = ap (to_command ms) (ancestors_root n e)

  up_leads_by : (n : Node) → ((q : Node) → length q < length n → leads_up q (way_up ms q) ≡ true) → leads_up n (way_up ms n) ≡ true
  up_leads_by n rec = go (parent n) refl
    where
      go : (o : Option Node) → parent n ≡ o → leads_up n (way_up ms n) ≡ true
      go None e = ap (leads_up n) (up_root n e)
      go (Some q) e = split (command_at ms q) refl
        where
          split : (o : Option Change) → command_at ms q ≡ o → leads_up n (way_up ms n) ≡ true
          split None none = ap (leads_up n) (up_none n q e none) ∙ and (is_child n q) (leads_up q (way_up ms q)) (child_at n q e) (rec q (parent_shorter q n e))
          split (Some d) some = ap (leads_up n) (up_some n q d e some) ∙ and (is_child n q) true (child_at n q e) refl

  up_leads_in : (k : ℕ) (n : Node) → length n ≤ k → leads_up n (way_up ms n) ≡ true
  up_leads_in zero n short = up_leads_by n (λ q s. absurd (omega arith))
  up_leads_in (suc k) n short = up_leads_by n (λ q s. up_leads_in k q (omega arith))

  pub up_leads : (n : Node) → leads_up n (way_up ms n) ≡ true
  up_leads n = up_leads_in (length n) n (omega arith)

module _ (demand : Value → Bool) (t : Holding) (ms : List Change) where
  -- a demand is passed on where there is no command and the tree does not meet it
  pub on_none : (q : Node) → command_at ms q ≡ None → demand (t q) ≡ false → (xs : List Node) → is_denied demand t ms (q ∷ xs) ≡ is_denied demand t ms xs
  on_none q none bare [] = ap (denies demand) none
  on_none q none bare (y ∷ ys) = ap (λ o. is_none o && (not (demand (t q)) && is_denied demand t ms (y ∷ ys))) none ∙ ap (λ b. not b && is_denied demand t ms (y ∷ ys)) bare

  pub met_none : (q : Node) → command_at ms q ≡ None → demand (t q) ≡ true → (xs : List Node) → is_denied demand t ms (q ∷ xs) ≡ false
  met_none q none met [] = ap (denies demand) none
  met_none q none met (y ∷ ys) = ap (λ o. is_none o && (not (demand (t q)) && is_denied demand t ms (y ∷ ys))) none ∙ ap (λ b. not b && is_denied demand t ms (y ∷ ys)) met

  -- what leads up and is denied is the way up
  pub up_is : (n x : Node) (xs : List Node) → leads_up n (x ∷ xs) ≡ true → is_denied demand t ms (x ∷ xs) ≡ true → ◌≡◌ {A = List Node} (x ∷ xs) (way_up ms n)
  up_is n x [] up denied =
      let d = found demand (command_at ms x) denied in
      sym (up_some ms n x d.0 (child_is n x (both (is_child n x) true up).0) d.1)
  up_is n x (y ∷ ys) up denied =
      let parts = both (is_child n x) (leads_up x (y ∷ ys)) up in
      let rest = both (is_none (command_at ms x)) (not (demand (t x)) && is_denied demand t ms (y ∷ ys)) denied in
      let more = both (not (demand (t x))) (is_denied demand t ms (y ∷ ys)) rest.1 in
      ap (λ l. x ∷ l) (up_is x y ys parts.1 more.1) ∙ sym (up_none ms n x (child_is n x parts.0) (none_is (command_at ms x) rest.0))
    where
      none_is : (o : Option Change) → is_none o ≡ true → o ≡ None
      none_is None e = refl
      none_is (Some d) e = cc (e)

-- ---- down

down_more : (n : Node) (names : List (List ℕ)) (name : List ℕ) → way_down n (names ++ name ∷ []) ≡ way_down n names ++ ((n ++ names) ++ name ∷ []) ∷ []
down_more n [] name = ap (λ l. (l ++ name ∷ []) ∷ []) (sym (append-nil n))
down_more n (x ∷ names) name = ap (λ l. (n ++ x ∷ []) ∷ l) (down_more (n ++ x ∷ []) names name ∙ ap (λ l. way_down (n ++ x ∷ []) names ++ (l ++ name ∷ []) ∷ []) (append_assoc n (x ∷ []) names))

under_nothing : (p : Node) → is_under p [] ≡ true → ⊥
unfolding is_under
under_nothing [] h = cc (h)
under_nothing (x ∷ p) h = cc (h)

-- a node under another begins with it
pub under_rest : (p n : Node) → is_under p n ≡ true → (0 < length n) × IsUnder p n
under_rest p n h = go n h (under_is p n)
  where
    go : (n : Node) → is_under p n ≡ true → (0 < length n → (is_under p n ≡ true → IsUnder p n) × (IsUnder p n → is_under p n ≡ true)) → (0 < length n) × IsUnder p n
    go [] h is = absurd (under_nothing p h)
    go (x ∷ n) h is = (omega arith, (is (omega arith)).0 h)

-- one step further down
pub down_step : (n q r : Node) → parent q ≡ Some r → (r ≡ n) ⊎ (is_under r n ≡ true) → way_down n (drop (length n) q) ≡ way_down n (drop (length n) r) ++ q ∷ []
down_step n q r up low = from (rest low)
  where
    rest : (r ≡ n) ⊎ (is_under r n ≡ true) → (names : List (List ℕ)) × (r ≡ n ++ names)
    rest (inl is) = ([], is ∙ sym (append-nil n))
    rest (inr under) = let u = (under_rest r n under).1 in (u.0, u.2)

    last : (name : List ℕ) × (0 < length r) × (q ≡ r ++ name ∷ [])
    last = (parent_is q r).0 up

    from : (names : List (List ℕ)) × (r ≡ n ++ names) → way_down n (drop (length n) q) ≡ way_down n (drop (length n) r) ++ q ∷ []
    from (names, is) =
        let name = last.0 in
        let whole : q ≡ (n ++ names) ++ name ∷ [] = last.2 ∙ ap (λ l. l ++ name ∷ []) is in
        let long : drop (length n) q ≡ names ++ name ∷ [] = ap (drop (length n)) (whole ∙ append_assoc n names (name ∷ [])) ∙ drop-append_seam n (names ++ name ∷ []) in
        let short : drop (length n) r ≡ names = ap (drop (length n)) is ∙ drop-append_seam n names in
        let short_back : names ≡ drop (length n) r = sym short in
        let whole_back : (n ++ names) ++ name ∷ [] ≡ q = sym whole in
        ap (way_down n) long ∙ down_more n names name ∙ (λ k. way_down n (short_back k) ++ whole_back k ∷ [])

pub down_own : (n : Node) → way_down n (drop (length n) n) ≡ []
down_own n = ap (way_down n) (ap (drop (length n)) (sym (append-nil n)) ∙ drop-append_seam n [])

down_leads : (n : Node) → 0 < length n → (names : List (List ℕ)) → leads_down n (way_down n names) ≡ true
down_leads n some [] = refl
down_leads n some (name ∷ names) =
    and (is_child (n ++ name ∷ []) n) (leads_down (n ++ name ∷ []) (way_down (n ++ name ∷ []) names))
    (child_at (n ++ name ∷ []) n ((parent_is (n ++ name ∷ []) n).1 (name, some, refl)))
    (down_leads (n ++ name ∷ []) (let long : length (n ++ name ∷ []) ≡ length n + 1 = length-append n (name ∷ []) in omega (arith, long)) names)

down_last : (n : Node) (names : List (List ℕ)) → last_from n (way_down n names) ≡ n ++ names
down_last n [] = sym (append-nil n)
down_last n (name ∷ names) = down_last (n ++ name ∷ []) names ∙ append_assoc n (name ∷ []) names

-- the way down to a node under another leads there
pub record LeadsTo (n p : Node) (via : List Node) : Type 0 where
  pub first : Node
  pub rest : List Node
  pub is : via ≡ first ∷ rest
  pub leads : leads_down n (first ∷ rest) ≡ true
  pub ends : last_from first rest ≡ p

pub leads_to : (n p : Node) → is_under p n ≡ true → LeadsTo n p (way_to n (Some p))
leads_to n p under = from (under_rest p n under)
  where
    from : (0 < length n) × IsUnder p n → LeadsTo n p (way_to n (Some p))
    from (some, (names, more, is)) = split names more is (ap (drop (length n)) is ∙ drop-append_seam n names)
      where
        split : (names : List (List ℕ)) → 0 < length names → p ≡ n ++ names → drop (length n) p ≡ names → LeadsTo n p (way_to n (Some p))
        split [] more is rest = absurd (omega arith)
        split (name ∷ names) more is rest = record {
          first = n ++ name ∷ [];
          rest = way_down (n ++ name ∷ []) names;
          is = ap (way_down n) rest;
          leads = down_leads n some (name ∷ names);
          ends = down_last n (name ∷ names) ∙ sym is;
        }
