-- The rows made of the table are the nodes of the least common tree.
use Rattle.std.proofs.Common.{◌≡◌, ◌<◌, ◌≤◌, ◌+◌, ◌-◌, ℕ, zero, suc, Bool, true, false, ◌&&◌, ◌||◌, List, [], ◌∷◌, length, Option, Some, None, refl, sym, ap, subst, ◌∙◌, arith, ◌⊎◌, inl, inr}
use Rattle.std.specs.Prelude.{if◌then◌else◌, is_some}
use Rattle.std.specs.List.{slice_get, slice_range}
use Rattle.std.proofs.lemmas.Option.{slice_get_within}
use Rattle.sync_path.specs.Paths.{Node, same_path, comes_before}
use Rattle.sync_command.specs.declared.values.Value.{Value}
use Rattle.sync_command.specs.declared.values.Value.TheVariants as value
use Rattle.sync_command.specs.declared.commands.Row.{Row}
use Rattle.sync_command.specs.Changes.{Change}
use Rattle.sync_command.specs.Trees.{command_at}
use Rattle.canon_set.specs.Logs.{names, touches}
use Rattle.canon_set.specs.Leaving.{above, leaves}
use Rattle.canon_set.specs.Sums.{Sum}
use Rattle.refluent.specs.Needs.{Need, Anything, AnyDirectory, Exactly, need, meets}
use Rattle.refluent.specs.Joints.{EachStandsFor, value_in, comes_before_all, is_ascending, some_if, concerns}
use Rattle.refluent.specs.FirstDisagreements.{log_at}
use Rattle.refluent.specs.CommonTrees.{least_common_tree, joint_need, both_needs, least_value}
use Rattle.refluent.specs.Tables.{IsGroup, HasGroup, node_of, node_in, said, said_of, need_said}
use Rattle.refluent.specs.JointParts.{AreRowsOf, AreNodesOf, row_of, value_by, first_or}
use Rattle.refluent.specs.Comparisons.{IsAgreed}
use Rattle.refluent.specs.declared.claims.Statement.{Statement}
use Rattle.refluent.specs.declared.claims.Statement.TheVariants.{Above, Touches}
use Rattle.refluent.specs.declared.claims.Claim.{Claim}
use Rattle.refluent.specs.declared.table.Group.{Group}
use Rattle.refluent.proofs.Wanting.{need_from_said, need_none, range_at, range_low}
use Rattle.refluent.proofs.Climbing.{group_at}
use Rattle.refluent.proofs.Least.{AgreeAll, met_least}
use Rattle.refluent.proofs.Agreeing.{agreeing, among_at}
use Rattle.canon_set.proofs.CallerLemmas.{is_some-touches}
use Rattle.sync_command.proofs.CallerLemmas.{same_value_is}
use Rattle.sync_path.proofs.CallerLemmas.{same_path_is, same_path_at, before_irrefl}

-- ---- rows by their places

abbrev Rises : List Row → Type 0
Rises rows = (i j : ℕ) (x y : Row) → i < j → slice_get rows i ≡ Some x → slice_get rows j ≡ Some y → comes_before x.path y.path ≡ true

first_from : (p : Node) (rows : List Row) → ((i : ℕ) (x : Row) → slice_get rows i ≡ Some x → comes_before p x.path ≡ true) → comes_before_all p rows ≡ true
first_from p [] h = refl
first_from p (row ∷ rows) h = pair _ _ (h 0 row refl) (first_from p rows (λ i x e. h (suc i) x e))
  where
    pair : (a b : Bool) → a ≡ true → b ≡ true → (a && b) ≡ true
    pair a b e f = grind arith

rising_from : (rows : List Row) → Rises rows → is_ascending rows ≡ true
rising_from [] h = refl
rising_from (row ∷ rows) h = pair _ _ (first_from row.path rows (λ i x e. h 0 (suc i) row x (omega arith) refl e)) (rising_from rows (λ i j x y less e f. h (suc i) (suc j) x y (omega arith) e f))
  where
    pair : (a b : Bool) → a ≡ true → b ≡ true → (a && b) ≡ true
    pair a b e f = grind arith

found : (rows : List Row) → Rises rows → (i : ℕ) (x : Row) → slice_get rows i ≡ Some x → value_in rows x.path ≡ Some x.value
found [] h i x e = cc (e)
found (row ∷ rows) h zero x e = ap (λ b. if b then Some row.value else value_in rows x.path) (same_path_at x.path row.path (ap (λ r. r.path) (sym (same e)))) ∙ ap (λ r. Some r.value) (same e)
  where
    same : Some row ≡ Some x → row ≡ x
    same e = cc
found (row ∷ rows) h (suc i) x e = go (found rows (λ i j x y less e f. h (suc i) (suc j) x y (omega arith) e f) i x e) (same_path x.path row.path) refl (h 0 (suc i) row x (omega arith) refl e)
  where
    go : value_in rows x.path ≡ Some x.value → (b : Bool) → same_path x.path row.path ≡ b → comes_before row.path x.path ≡ true → (if b then Some row.value else value_in rows x.path) ≡ Some x.value
    go ih true f g = let n : comes_before row.path x.path ≡ false = ap (comes_before row.path) (same_path_is x.path row.path f) ∙ before_irrefl row.path in cc (g, n)
    go ih false f g = ih

not_found : (rows : List Row) (p : Node) → ((i : ℕ) (x : Row) → slice_get rows i ≡ Some x → x.path ≡ p → ⊥) → value_in rows p ≡ None
not_found [] p h = refl
not_found (row ∷ rows) p h = go (not_found rows p (λ i x e f. h (suc i) x e f)) (same_path p row.path) refl (h 0 row refl)
  where
    go : value_in rows p ≡ None → (b : Bool) → same_path p row.path ≡ b → (row.path ≡ p → ⊥) → (if b then Some row.value else value_in rows p) ≡ None
    go ih true f g = absurd (g (sym (same_path_is p row.path f)))
    go ih false f g = ih

-- ---- which nodes concern the logs

said_some : (cs : List Change) (p : Node) → (names cs p || above cs p) ≡ true → (s : Statement) × (said cs p ≡ Some s)
said_some cs p h = go (command_at (touches cs) p) refl (is_some-touches cs p) (above cs p) refl h
  where
    go : (o : Option Change) → command_at (touches cs) p ≡ o → is_some o ≡ names cs p → (b : Bool) → above cs p ≡ b → (names cs p || b) ≡ true → (s : Statement) × (said cs p ≡ Some s)
    go (Some d) e n b f g = (_, ap (λ o. said_of o (leaves cs p) (above cs p)) e)
    go None e n true f g = (Above, ap (λ o. said_of o (leaves cs p) (above cs p)) e ∙ ap (λ b. said_of None (leaves cs p) b) f)
    go None e n false f g = none (names cs p) n g
      where
        none : (b : Bool) → false ≡ b → (b || false) ≡ true → (s : Statement) × (said cs p ≡ Some s)
        none true e g = cc (e)
        none false e g = cc (g)

some_said : (cs : List Change) (p : Node) (s : Statement) → said cs p ≡ Some s → (names cs p || above cs p) ≡ true
some_said cs p s h = go (command_at (touches cs) p) (is_some-touches cs p) (above cs p) h
  where
    left : (a b : Bool) → true ≡ a → (a || b) ≡ true
    left true b e = refl
    left false b e = cc (e)

    right : (a : Bool) → (a || true) ≡ true
    right true = refl
    right false = refl

    go : (o : Option Change) → is_some o ≡ names cs p → (b : Bool) → said_of o (leaves cs p) b ≡ Some s → (names cs p || b) ≡ true
    go (Some d) n b e = left (names cs p) b n
    go None n true e = right (names cs p)
    go None n false e = cc (e)

concerned : (logs : List (List Change)) (p : Node) → concerns logs p ≡ true → (l : ℕ) × (l < length logs) × (s : Statement) × (said (log_at logs l) p ≡ Some s)
concerned [] p e = cc (e)
concerned (cs ∷ logs) p e = go (names cs p || above cs p) refl (concerned logs p) e
  where
    go : (b : Bool) → (names cs p || above cs p) ≡ b → (concerns logs p ≡ true → (l : ℕ) × (l < length logs) × (s : Statement) × (said (log_at logs l) p ≡ Some s)) → (b || concerns logs p) ≡ true → (l : ℕ) × (l < length (cs ∷ logs)) × (s : Statement) × (said (log_at (cs ∷ logs) l) p ≡ Some s)
    go true f rest g = let h = said_some cs p f in (0, omega arith, h.0, h.1)
    go false f rest g = let h = rest g in let low : h.0 < length logs = h.1 in (suc h.0, omega arith, h.2, h.3)

concerning : (logs : List (List Change)) (p : Node) (l : ℕ) (s : Statement) → said (log_at logs l) p ≡ Some s → concerns logs p ≡ true
concerning [] p l s e = cc (e)
concerning (cs ∷ logs) p zero s e = ap (λ b. b || concerns logs p) (some_said cs p s e)
concerning (cs ∷ logs) p (suc l) s e = right (names cs p || above cs p) (concerns logs p) (concerning logs p l s e)
  where
    right : (a b : Bool) → b ≡ true → (a || b) ≡ true
    right true b e = refl
    right false b e = e

-- ---- the value of a run

record IsFirstOf (cs : List Claim) (v : Value) : Type 0 where
  place : ℕ
  claim : Claim
  at : slice_get cs place ≡ Some claim
  need : need_said claim.says ≡ Exactly v

abbrev AllAbove : List Claim → Type 0
AllAbove cs = (k : ℕ) (c : Claim) → slice_get cs k ≡ Some c → c.says ≡ Above

value_by_case : (cs : List Claim) → IsFirstOf cs (value_by cs) ⊎ (AllAbove cs × (value_by cs ≡ value.Dir []))
value_by_case [] = inr ((λ k c e. cc (e)), refl)
value_by_case (c ∷ cs) = go c.says refl (value_by_case cs)
  where
    same : {a b : Claim} → Some a ≡ Some b → a ≡ b
    same e = cc

    go : (s : Statement) → c.says ≡ s → IsFirstOf cs (value_by cs) ⊎ (AllAbove cs × (value_by cs ≡ value.Dir [])) → IsFirstOf (c ∷ cs) (first_or c.says (value_by cs)) ⊎ (AllAbove (c ∷ cs) × (first_or c.says (value_by cs) ≡ value.Dir []))
    go (Touches f l b) e h = inl (record { place = 0; claim = c; at = refl; need = ap need_said e ∙ ap Exactly (sym (ap (λ s. first_or s (value_by cs)) e)) })
    go Above e (inl h) = inl (record { place = suc h.place; claim = h.claim; at = h.at; need = h.need ∙ ap Exactly (sym (ap (λ s. first_or s (value_by cs)) e)) })
    go Above e (inr h) = inr (all, ap (λ s. first_or s (value_by cs)) e ∙ h.1)
      where
        all : (k : ℕ) (d : Claim) → slice_get (c ∷ cs) k ≡ Some d → d.says ≡ Above
        all zero d f = ap (λ x. x.says) (sym (same f)) ∙ e
        all (suc k) d f = h.0 k d f

-- where no log needs a value, and one needs a directory, the least value is a directory
only_dirs : (logs : List (List Change)) (p : Node) → ((l : ℕ) (v : Value) → need (log_at logs l) p ≡ Exactly v → ⊥) → (l : ℕ) → need (log_at logs l) p ≡ AnyDirectory → joint_need logs p ≡ AnyDirectory
only_dirs [] p none l e = cc (e)
only_dirs (cs ∷ logs) p none zero e = ap (λ n. both_needs n (joint_need logs p)) e ∙ go (joint_need logs p) (exact logs p (λ l v f. none (suc l) v f))
  where
    exact : (logs : List (List Change)) (p : Node) → ((l : ℕ) (v : Value) → need (log_at logs l) p ≡ Exactly v → ⊥) → (v : Value) → joint_need logs p ≡ Exactly v → ⊥
    exact [] p none v e = cc (e)
    exact (ds ∷ logs) p none v e = by (need ds p) refl (joint_need logs p) (exact logs p (λ l w f. none (suc l) w f)) e
      where
        by : (m : Need) → need ds p ≡ m → (n : Need) → ((v : Value) → n ≡ Exactly v → ⊥) → both_needs m n ≡ Exactly v → ⊥
        by Anything f n h g = h v g
        by AnyDirectory f Anything h g = cc (g)
        by AnyDirectory f AnyDirectory h g = cc (g)
        by AnyDirectory f (Exactly w) h g = h w refl
        by (Exactly w) f n h g = none 0 w f

    go : (m : Need) → ((v : Value) → m ≡ Exactly v → ⊥) → both_needs AnyDirectory m ≡ AnyDirectory
    go Anything h = refl
    go AnyDirectory h = refl
    go (Exactly v) h = absurd (h v refl)
only_dirs (cs ∷ logs) p none (suc l) e = ap (both_needs (need cs p)) (only_dirs logs p (λ l v f. none (suc l) v f) l e) ∙ go (need cs p) refl
  where
    go : (m : Need) → need cs p ≡ m → both_needs m AnyDirectory ≡ AnyDirectory
    go Anything f = refl
    go AnyDirectory f = refl
    go (Exactly v) f = absurd (none 0 v f)

-- ---- all together

claim_there : (claims : List Claim) (k : ℕ) → k < length claims → (c : Claim) × (slice_get claims k ≡ Some c)
claim_there [] k low = absurd (omega arith)
claim_there (c ∷ claims) zero low = (c, refl)
claim_there (c ∷ claims) (suc k) low = claim_there claims k (omega arith)

module _ (sums : List Sum) (logs : List (List Change)) (stand : EachStandsFor sums logs) (claims : List Claim) (groups : List Group) (ok : IsAgreed logs claims groups) (rows : List Row) (made : AreRowsOf claims groups rows) where
  all : AgreeAll logs
  all = agreeing sums logs stand ok.agree

  same_row : {a b : Row} → Some a ≡ Some b → a ≡ b
  same_row e = cc

  row_group : (i : ℕ) (x : Row) → slice_get rows i ≡ Some x → (s : Group) × (slice_get groups i ≡ Some s) × (x ≡ row_of claims s)
  row_group i x e = let low : i < length rows = slice_get_within rows i x e in let s = group_at groups i (omega (arith, made.many)) in (s.0, s.1, same_row (sym e ∙ made.each i s.0 s.1))

  rises : Rises rows
  rises i j x y less e f = let a = row_group i x e in let b = row_group j y f in ap (λ p. comes_before p y.path) (ap (λ r. r.path) a.2) ∙ ap (comes_before (node_of claims a.0)) (ap (λ r. r.path) b.2) ∙ ok.table.order i j a.0 b.0 less a.1 b.1

  -- what the table holds at a node is what the least common tree does
  run_value : (i : ℕ) (s : Group) → slice_get groups i ≡ Some s → value_by (slice_range claims s.start s.end) ≡ least_common_tree logs (node_of claims s)
  run_value i s at = go (value_by_case (slice_range claims s.start s.end))
    where
      group : IsGroup claims s
      group = (ok.table.each i s at).0

      go : IsFirstOf (slice_range claims s.start s.end) (value_by (slice_range claims s.start s.end)) ⊎ (AllAbove (slice_range claims s.start s.end) × (value_by (slice_range claims s.start s.end) ≡ value.Dir [])) → value_by (slice_range claims s.start s.end) ≡ least_common_tree logs (node_of claims s)
      go (inl h) = let r = range_at claims s.start s.end h.place h.claim h.at in let below : s.start + h.place < s.end = r.0 in let path : h.claim.path ≡ node_of claims s = group.inside (s.start + h.place) h.claim (omega arith) below r.1 in
          let sound = ok.are.sound (s.start + h.place) h.claim r.1 in
          same_value_is (value_by (slice_range claims s.start s.end)) (least_common_tree logs (node_of claims s)) (subst (λ n. meets n (least_common_tree logs (node_of claims s)) ≡ true) (need_from_said (log_at logs h.claim.log) (node_of claims s) h.claim.says (sym (ap (said (log_at logs h.claim.log)) path) ∙ sound.1) ∙ h.need)
          (met_least logs all (log_at logs h.claim.log) (among_at logs h.claim.log sound.0) (node_of claims s)))
      go (inr h) = h.1 ∙ sym (ap least_value (only_dirs logs (node_of claims s) none d.0 d.1))
        where
          none : (l : ℕ) (v : Value) → need (log_at logs l) (node_of claims s) ≡ Exactly v → ⊥
          none l v e = by (said (log_at logs l) (node_of claims s)) refl
            where
              by : (o : Option Statement) → said (log_at logs l) (node_of claims s) ≡ o → ⊥
              by None f = let g : need (log_at logs l) (node_of claims s) ≡ Anything = need_none (log_at logs l) (node_of claims s) f in cc (e, g)
              by (Some u) f = let c = ok.are.complete l (node_of claims s) u f in let r = group.outside c.0 _ c.1 refl in let is : u ≡ Above = h.0 (c.0 - s.start) _ (range_low claims s.start s.end c.0 r.0 r.1 ∙ c.1) in
                  let g : need (log_at logs l) (node_of claims s) ≡ AnyDirectory = need_from_said (log_at logs l) (node_of claims s) u f ∙ ap need_said is in cc (e, g)

          d : (l : ℕ) × (need (log_at logs l) (node_of claims s) ≡ AnyDirectory)
          d = from (claim_there claims s.start (let a : s.start < s.end = group.some in let b : s.end ≤ length claims = group.high in omega arith))
            where
              zero_low : s.start - s.start ≡ 0
              zero_low = omega arith

              from : (c : Claim) × (slice_get claims s.start ≡ Some c) → (l : ℕ) × (need (log_at logs l) (node_of claims s) ≡ AnyDirectory)
              from c = let is : c.0.says ≡ Above = h.0 (s.start - s.start) c.0 (range_low claims s.start s.end s.start (omega arith) group.some ∙ c.1) in
                  (c.0.log, need_from_said (log_at logs c.0.log) (node_of claims s) c.0.says (ap (said (log_at logs c.0.log)) (ap node_in c.1) ∙ (ok.are.sound s.start c.0 c.1).1) ∙ ap need_said is)

  pub nodes_of : AreNodesOf logs rows
  nodes_of = record { order = rising_from rows rises; nodes = λ p. at p (concerns logs p) refl }
    where
      at : (p : Node) (b : Bool) → concerns logs p ≡ b → value_in rows p ≡ some_if b (least_common_tree logs p)
      at p true e = by (concerned logs p e)
        where
          by : (l : ℕ) × (l < length logs) × (s : Statement) × (said (log_at logs l) p ≡ Some s) → value_in rows p ≡ Some (least_common_tree logs p)
          by h = let c = ok.are.complete h.0 p h.2 h.3 in let t = ok.table.all c.0 _ c.1 in there t.0 t.1
            where
              there : (i : ℕ) → HasGroup claims groups p i → value_in rows p ≡ Some (least_common_tree logs p)
              there i t = subst (λ q. value_in rows q ≡ Some (least_common_tree logs q)) t.node (found rows rises i (row_of claims t.group) (made.each i t.group t.at) ∙ ap Some (run_value i t.group t.at))
      at p false e = not_found rows p none
        where
          none : (i : ℕ) (x : Row) → slice_get rows i ≡ Some x → x.path ≡ p → ⊥
          none i x f is = let s = row_group i x f in away s.0 s.1 (sym (ap (λ r. r.path) s.2) ∙ is)
            where
              away : (s : Group) → slice_get groups i ≡ Some s → node_of claims s ≡ p → ⊥
              away s at same = let group = (ok.table.each i s at).0 in from (claim_there claims s.start (let a : s.start < s.end = group.some in let b : s.end ≤ length claims = group.high in omega arith))
                where
                  from : (c : Claim) × (slice_get claims s.start ≡ Some c) → ⊥
                  from c = let yes' : concerns logs p ≡ true = concerning logs p c.0.log c.0.says (ap (said (log_at logs c.0.log)) (sym same ∙ ap node_in c.1) ∙ (ok.are.sound s.start c.0 c.1).1) in cc (yes', e)
