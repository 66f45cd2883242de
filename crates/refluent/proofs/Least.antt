-- The least common tree of logs that do not disagree takes them.
use Rattle.std.proofs.Common.{◌≡◌, Bool, true, false, not, ◌&&◌, ◌||◌, List, [], ◌∷◌, Option, Some, None, refl, sym, ap, subst, ◌∙◌, arith, ◌⊎◌, inl, inr}
use Rattle.std.specs.Prelude.{is_some}
use Rattle.canon_set.specs.Leaving.{above, gives_other, starts_other}
use Rattle.canon_set.specs.Logs.{touches, names, all_change}
use Rattle.refluent.specs.CommonTrees.{both_needs, least_value, joint_need, least_common_tree, IsAmong}
use Rattle.refluent.specs.Needs.{Need, Anything, AnyDirectory, Exactly, need_by, need, meets, needs_non_empty, are_incompatible, leaves_parent, are_opposed, disagree}
use Rattle.sync_command.specs.Changes.{Change}
use Rattle.sync_command.specs.Trees.{Holding, IsTree, Takes, command_at}
use Rattle.sync_command.specs.Values.{is_empty, is_dir, same_value}
use Rattle.sync_command.specs.declared.values.Value.{Value}
use Rattle.sync_command.specs.declared.values.Value.TheVariants.{Empty, Dir}
use Rattle.sync_path.specs.Paths.{Node, parent}
use Rattle.refluent.proofs.Needs.{full_met, meets_need}
use Rattle.canon_set.proofs.CallerLemmas.{olds-touches, is_some-touches, above_named, above_up, alike_takes}
use Rattle.sync_command.proofs.CallerLemmas.{same_value_is, same_value_refl}
use Rattle.sync_path.proofs.CallerLemmas.{under_parent}

-- a log and a tree that takes it
pub record HasTree (cs : List Change) : Type 0 where
  pub held : Holding
  pub tree : IsTree held
  pub takes : Takes held cs
  pub change : all_change cs ≡ true

-- the logs are taken, each by some tree, and no two of them disagree
pub record AgreeAll (logs : List (List Change)) : Type 0 where
  pub each : (cs : List Change) → IsAmong cs logs → HasTree cs
  pub agree : (cs ds : List Change) → IsAmong cs logs → IsAmong ds logs → (n : Node) → disagree cs ds n ≡ false

apart_join : (m k n : Need) → are_incompatible n k ≡ false → are_incompatible n m ≡ false → are_incompatible n (both_needs k m) ≡ false
apart_join m k n a b = grind arith

pub met_first : (k m : Need) → are_incompatible k m ≡ false → meets k (least_value (both_needs k m)) ≡ true
met_first Anything m a = refl
met_first AnyDirectory Anything a = refl
met_first AnyDirectory AnyDirectory a = refl
met_first AnyDirectory (Exactly w) a = turned (is_dir w) a
  where
    turned : (b : Bool) → not b ≡ false → b ≡ true
    turned true e = refl
    turned false e = cc
met_first (Exactly v) m a = same_value_refl v

pub not_false : (b : Bool) → not b ≡ false → b ≡ true
not_false true e = refl
not_false false e = cc

met_rest : (k m n : Need) → are_incompatible n k ≡ false → meets n (least_value m) ≡ true → meets n (least_value (both_needs k m)) ≡ true
met_rest Anything m n a e = e
met_rest AnyDirectory m Anything a e = refl
met_rest AnyDirectory Anything AnyDirectory a e = refl
met_rest AnyDirectory AnyDirectory AnyDirectory a e = refl
met_rest AnyDirectory (Exactly w) AnyDirectory a e = e
met_rest AnyDirectory Anything (Exactly u) a e = go u e a
  where
    go : (u : Value) → same_value u Empty ≡ true → not (is_dir u) ≡ false → same_value u (Dir []) ≡ true
    go u e a = grind arith
met_rest AnyDirectory AnyDirectory (Exactly u) a e = e
met_rest AnyDirectory (Exactly w) (Exactly u) a e = e
met_rest (Exactly v) m Anything a e = refl
met_rest (Exactly v) m AnyDirectory a e = not_false (is_dir v) a
met_rest (Exactly v) m (Exactly u) a e = not_false (same_value u v) a

apart_all : (n : Need) (logs : List (List Change)) (p : Node) → ((cs : List Change) → IsAmong cs logs → are_incompatible n (need cs p) ≡ false) → are_incompatible n (joint_need logs p) ≡ false
apart_all Anything [] p h = refl
apart_all AnyDirectory [] p h = refl
apart_all (Exactly v) [] p h = refl
apart_all n (ds ∷ logs) p h = apart_join (joint_need logs p) (need ds p) n (h ds (inl refl)) (apart_all n logs p (λ cs i. h cs (inr i)))

-- the least common tree meets each need
met_all : (logs : List (List Change)) (p : Node) → ((cs ds : List Change) → IsAmong cs logs → IsAmong ds logs → are_incompatible (need cs p) (need ds p) ≡ false) →
    (cs : List Change) → IsAmong cs logs → meets (need cs p) (least_common_tree logs p) ≡ true
met_all [] p h cs i = absurd i
met_all (ds ∷ logs) p h cs (inl is) = subst (λ l. meets (need l p) (least_common_tree (ds ∷ logs) p) ≡ true) (sym is) (met_first (need ds p) (joint_need logs p) (apart_all (need ds p) logs p (λ l i. h ds l (inl refl) (inr i))))
met_all (ds ∷ logs) p h cs (inr i) = met_rest (need ds p) (joint_need logs p) (need cs p) (h cs ds (inr i) (inl refl)) (met_all logs p (λ a b x y. h a b (inr x) (inr y)) cs i)

-- a node of the least common tree that is not empty is one that some log needs so
pub record IsNeeded (logs : List (List Change)) (p : Node) : Type 0 where
  pub log : List Change
  pub among : IsAmong log logs
  pub full : needs_non_empty (need log p) ≡ true

full_needed : (logs : List (List Change)) (p : Node) → is_empty (least_common_tree logs p) ≡ false → IsNeeded logs p
full_needed [] p e = cc
full_needed (ds ∷ logs) p e = split (either (need ds p) (joint_need logs p) e) (full_needed logs p)
  where
    either : (k m : Need) → is_empty (least_value (both_needs k m)) ≡ false → (needs_non_empty k ≡ true) ⊎ (is_empty (least_value m) ≡ false)
    either Anything m e = inr e
    either AnyDirectory m e = inl refl
    either (Exactly v) m e = inl (ap not e)

    split : (needs_non_empty (need ds p) ≡ true) ⊎ (is_empty (least_common_tree logs p) ≡ false) → (is_empty (least_common_tree logs p) ≡ false → IsNeeded logs p) → IsNeeded (ds ∷ logs) p
    split (inl f) rec = record { log = ds; among = inl refl; full = f }
    split (inr e) rec = let h = rec e in record { log = h.log; among = inr h.among; full = h.full }

abbrev pub is_need : Need → Bool
is_need Anything = false
is_need AnyDirectory = true
is_need (Exactly v) = true

-- where one value that meets a need is a directory, each is
same_dir : (m : Need) (v w : Value) → is_need m ≡ true → meets m v ≡ true → meets m w ≡ true → is_dir v ≡ true → is_dir w ≡ true
same_dir Anything v w n a b d = cc
same_dir AnyDirectory v w n a b d = b
same_dir (Exactly u) v w n a b d = ap is_dir (sym (same_value_is u w b) ∙ same_value_is u v a) ∙ d

-- a log that needs something at a node needs something at its parent
need_up : (cs : List Change) (q n : Node) → parent n ≡ Some q → is_need (need cs n) ≡ true → is_need (need cs q) ≡ true
need_up cs q n e h = go (command_at (touches cs) n) (is_some-touches cs n) (above cs n) refl h
  where
    wide : (o : Option Change) (b : Bool) → b ≡ true → is_need (need_by o b) ≡ true
    wide None true e = refl
    wide None false e = cc
    wide (Some d) b e = refl

    go : (o : Option Change) → is_some o ≡ names cs n → (b : Bool) → above cs n ≡ b → is_need (need_by o b) ≡ true → is_need (need cs q) ≡ true
    go (Some d) s b a h = wide _ _ (above_named cs n q (sym s) (under_parent q n e))
    go None s true a h = wide _ _ (above_up cs n q a e)
    go None s false a h = cc

full_need : (m : Need) → needs_non_empty m ≡ true → is_need m ≡ true
full_need Anything e = cc
full_need AnyDirectory e = refl
full_need (Exactly v) e = refl

apart_of : (a b c : Bool) → (a || (b || c)) ≡ false → a ≡ false
apart_of a b c e = grind arith

module _ (logs : List (List Change)) (ok : AgreeAll logs) where
  pub met_least : (cs : List Change) → IsAmong cs logs → (p : Node) → meets (need cs p) (least_common_tree logs p) ≡ true
  met_least cs i p = met_all logs p (λ a b x y. apart_of (are_incompatible (need a p) (need b p)) (are_opposed a b p) (are_opposed b a p) (ok.agree a b x y p)) cs i

  least_dir : (cs : List Change) → IsAmong cs logs → (p : Node) → is_need (need cs p) ≡ true → (t : HasTree cs) → is_dir (t.held p) ≡ true → is_dir (least_common_tree logs p) ≡ true
  least_dir cs i p n t d = same_dir (need cs p) _ _ n (meets_need t.held cs t.tree t.takes t.change p) (met_least cs i p) d

  -- The least common tree is a tree
  pub least_tree : IsTree (least_common_tree logs)
  least_tree q n e full = go (full_needed logs n full)
    where
      go : IsNeeded logs n → is_dir (least_common_tree logs q) ≡ true
      go h = let t = ok.each h.log h.among in least_dir h.log h.among q (need_up h.log q n e (full_need _ h.full)) t (t.tree q n e (full_met _ _ h.full (meets_need t.held h.log t.tree t.takes t.change n)))

  -- and takes each log.
  pub least_takes : (cs : List Change) → IsAmong cs logs → Takes (least_common_tree logs) cs
  least_takes cs i = alike_takes (names cs) (above cs) t.held (least_common_tree logs) cs closed least_tree t.takes (record { named = λ p e. e; same = same; dirs = λ p a b. is_directory p t.held (meets_need t.held cs t.tree t.takes t.change p) a b; dirs' = λ p a b. is_directory p (least_common_tree logs) (met_least cs i p) a b; free = free })
    where
      t : HasTree cs
      t = ok.each cs i

      closed : (q n : Node) → parent n ≡ Some q → names cs n ≡ true → (names cs q || above cs q) ≡ true
      closed q n e h = either _ _ (above_named cs n q h (under_parent q n e))
        where
          either : (a b : Bool) → b ≡ true → (a || b) ≡ true
          either a b e = grind arith

      same : (p : Node) → names cs p ≡ true → t.held p ≡ least_common_tree logs p
      same p h = go (command_at (touches cs) p) refl (is_some-touches cs p ∙ h) (met_least cs i p)
        where
          go : (o : Option Change) → command_at (touches cs) p ≡ o → is_some o ≡ true → meets (need_by o (above cs p)) (least_common_tree logs p) ≡ true → t.held p ≡ least_common_tree logs p
          go None e s m = cc (s)
          go (Some d) e s m = olds-touches t.held cs t.takes p d e ∙ same_value_is d.old _ m

      is_directory : (p : Node) (u : Holding) → meets (need cs p) (u p) ≡ true → names cs p ≡ false → above cs p ≡ true → is_dir (u p) ≡ true
      is_directory p u m a b = go (command_at (touches cs) p) (is_some-touches cs p ∙ a) (above cs p) b m
        where
          go : (o : Option Change) → is_some o ≡ false → (b : Bool) → b ≡ true → meets (need_by o b) (u p) ≡ true → is_dir (u p) ≡ true
          go None s true e m = m
          go None s false e m = cc (e)
          go (Some d) s b e m = cc (s)

      free : (q n : Node) → parent n ≡ Some q → names cs n ≡ false → above cs n ≡ false → is_empty (least_common_tree logs n) ≡ false → gives_other cs q ≡ false
      free q n e a b full = go (full_needed logs n full)
        where
          last : (f nm x y z w : Bool) → (x || (y || (f && (not nm && (z || w))))) ≡ false → f ≡ true → nm ≡ false → w ≡ false
          last f nm x y z w h e g = grind arith

          go : IsNeeded logs n → gives_other cs q ≡ false
          go h = last (needs_non_empty (need h.log n)) (names cs n) (are_incompatible (need cs n) (need h.log n)) (are_opposed cs h.log n) (starts_other (command_at (touches cs) q)) (gives_other cs q) (subst (λ o. (are_incompatible (need cs n) (need h.log n) || (are_opposed cs h.log n || (needs_non_empty (need h.log n) && (not (names cs n) && leaves_parent cs o)))) ≡ false) e (ok.agree cs h.log i h.among n)) h.full a
