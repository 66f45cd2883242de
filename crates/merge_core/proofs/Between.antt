-- The table of nodes against paths: what clashes on a board is what conflicts.
use Rattle.std.proofs.Common.{◌≡◌, ℕ, zero, suc, ◌<◌, Bool, true, false, not, ◌&&◌, ◌||◌, refl, ap, sym, subst, ◌∙◌, arith, ◌⊎◌, inl, inr, Option, Some, None, List}
use Rattle.sync_path.specs.Paths.{Node, same_path, parent, is_under}
use Rattle.sync_command.specs.declared.values.Value.{Value}
use Rattle.sync_command.specs.declared.values.Value.TheVariants as value
use Rattle.sync_command.specs.Values.{is_empty, is_dir, kind_of}
use Rattle.sync_command.specs.Changes.{Change, same_change}
use Rattle.sync_command.specs.Trees.{Holding, IsTree}
use Rattle.refluent.specs.Sets.{is_in}
use Rattle.merge_core.specs.Conflicts.{bars_under, conflicts}
use Rattle.sync_path.proofs.CallerLemmas.{both, same_path_is, same_path_at, under_parent, under_down, under_split, HasParentUnder}
use Rattle.refluent.proofs.CallerLemmas.{same_change_is, same_change_at}
use Rattle.merge_core.proofs.FilledNodes.{IsFilled, IsNamed, named_above, made_above}
use Rattle.sync_command.specs.declared.values.Kind.TheVariants.{Empty, Dir}
use Rattle.scan_board.specs.Tables.{Tables, IsSound, node_of, leaves_of, parent_of, command_count, node_count}
use Rattle.scan_board.specs.Turns.{up, parent_at, IsUnderNode}
use Rattle.scan_board.specs.Settling.{IsOver, Clash, IsMade}
use Rattle.scan_board.proofs.CallerLemmas.{up_none}
use Rattle.merge_core.proofs.DrawnBoards.{IsOf}

-- kinds by is_dir and is_empty
pub other_kind : (v : Value) → (kind_of v ≡ Dir → ⊥) → is_dir v ≡ false
other_kind value.Empty e = refl
other_kind (value.Dir x) e = absurd (e refl)
other_kind (value.File b) e = refl

pub kind_other : (v : Value) → is_dir v ≡ false → kind_of v ≡ Dir → ⊥
kind_other value.Empty e f = cc (f)
kind_other (value.Dir x) e f = cc (e)
kind_other (value.File b) e f = cc (f)

pub full_kind : (v : Value) → (kind_of v ≡ Empty → ⊥) → is_empty v ≡ false
full_kind value.Empty e = absurd (e refl)
full_kind (value.Dir x) e = refl
full_kind (value.File b) e = refl

pub kind_full : (v : Value) → is_empty v ≡ false → kind_of v ≡ Empty → ⊥
kind_full value.Empty e f = cc (e)
kind_full (value.Dir x) e f = cc (f)
kind_full (value.File b) e f = cc (f)

pub dir_kind : (v : Value) → is_dir v ≡ true → kind_of v ≡ Dir
dir_kind value.Empty e = cc (e)
dir_kind (value.Dir x) e = refl
dir_kind (value.File b) e = cc (e)

all_three : (a b c : Bool) → a ≡ false → b ≡ true → c ≡ false → (not a && (b && not c)) ≡ true
all_three a b c e f g = grind arith

three_all : (a b c : Bool) → (not a && (b && not c)) ≡ true → (a ≡ false) × (b ≡ true) × (c ≡ false)
three_all a b c e = grind arith

either : (a b c : Bool) → (a || (b || c)) ≡ true → (a ≡ true) ⊎ ((b ≡ true) ⊎ (c ≡ true))
either true b c e = inl refl
either false true c e = inr (inl refl)
either false false c e = inr (inr e)

in_first : (a b c : Bool) → a ≡ true → (a || (b || c)) ≡ true
in_first a b c e = grind arith

in_second : (a b c : Bool) → b ≡ true → (a || (b || c)) ≡ true
in_second a b c e = grind arith

in_third : (a b c : Bool) → c ≡ true → (a || (b || c)) ≡ true
in_third a b c e = grind arith

no_false : (b : Bool) → (b ≡ true → ⊥) → b ≡ false
no_false true e = absurd (e refl)
no_false false e = refl

module _ (t : Holding) (drawn : List Change) (cmd : ℕ → Change) (path : ℕ → Node) (b : Tables) (sound : IsSound b) (h : IsOf t drawn cmd path b) where
  climb : (k m n : ℕ) → m < node_count b → up b k (Some m) ≡ Some n → (m ≡ n) ⊎ (is_under (path m) (path n) ≡ true)
  climb zero m n l e = let k : m ≡ n = cc in inl k
  climb (suc k) m n l e = go (parent_of b m) refl e (climb k)
    where
      go : (o : Option ℕ) → parent_of b m ≡ o → up b k o ≡ Some n → ((m n : ℕ) → m < node_count b → up b k (Some m) ≡ Some n → (m ≡ n) ⊎ (is_under (path m) (path n) ≡ true)) → (m ≡ n) ⊎ (is_under (path m) (path n) ≡ true)
      go None f g ih = absurd (up_none b k n g)
      go (Some p) f g ih = let low : p < m = sound.parent_in m p l f in pick (ih p n (omega arith) g)
        where
          pick : (p ≡ n) ⊎ (is_under (path p) (path n) ≡ true) → (m ≡ n) ⊎ (is_under (path m) (path n) ≡ true)
          pick (inl e) = inr (under_parent (path n) (path m) (h.above m p l f ∙ ap (λ q. Some (path q)) e))
          pick (inr u) = inr (under_down (path m) (path p) (path n) (h.above m p l f) u)

  pub under_path : (m n : ℕ) → m < node_count b → IsUnderNode b m n → is_under (path m) (path n) ≡ true
  under_path m n l (k, e) = go (parent_of b m) refl e
    where
      go : (o : Option ℕ) → parent_of b m ≡ o → up b k o ≡ Some n → is_under (path m) (path n) ≡ true
      go None f g = absurd (up_none b k n g)
      go (Some p) f g = let low : p < m = sound.parent_in m p l f in pick (climb k p n (omega arith) g)
        where
          pick : (p ≡ n) ⊎ (is_under (path p) (path n) ≡ true) → is_under (path m) (path n) ≡ true
          pick (inl e) = under_parent (path n) (path m) (h.above m p l f ∙ ap (λ q. Some (path q)) e)
          pick (inr u) = under_down (path m) (path p) (path n) (h.above m p l f) u

  -- below a node that a command leaves other than a directory, down to what is filled, each node is named
  find_way : (fuel m n : ℕ) → m < fuel → m < node_count b → n < node_count b → is_under (path m) (path n) ≡ true → IsFilled t drawn (path m) →
      (c : Change) → is_in drawn c ≡ true → c.node ≡ path n → is_dir c.new ≡ false → IsUnderNode b m n
  find_way zero m n f lm ln u filled c there at other = absurd (omega arith)
  find_way (suc fuel) m n f lm ln u filled c there at other = go (under_split (path m) (path n) u) (find_way fuel)
    where
      Rec : Type 0
      Rec = (m n : ℕ) → m < fuel → m < node_count b → n < node_count b → is_under (path m) (path n) ≡ true → IsFilled t drawn (path m) → (c : Change) → is_in drawn c ≡ true → c.node ≡ path n → is_dir c.new ≡ false → IsUnderNode b m n

      go : HasParentUnder (path m) (path n) → Rec → IsUnderNode b m n
      go w ih = pick w.way
        where
          pick : (w.up ≡ path n) ⊎ (is_under w.up (path n) ≡ true) → IsUnderNode b m n
          pick (inl e) = (zero, h.root m n lm ln (w.is ∙ ap Some e))
          pick (inr v) = next (named_above t drawn h.tree h.known c there other w.up (path m) w.is (subst (λ q. is_under w.up q ≡ true) (sym at) v) filled)
            where
              next : IsNamed drawn w.up × IsFilled t drawn w.up → IsUnderNode b m n
              next ((e, in_e, node_e), full) = found (h.all e in_e)
                where
                  found : (i : ℕ) × (i < command_count b) × (cmd i ≡ e) → IsUnderNode b m n
                  found (i, li, is) =
                      let here : w.up ≡ path (node_of b i) = sym node_e ∙ ap (λ x. x.node) (sym is) ∙ h.node i li in
                      let lp : node_of b i < node_count b = sound.node_in i li in
                      let up_is : parent_of b m ≡ Some (node_of b i) = h.root m (node_of b i) lm lp (w.is ∙ ap Some here) in
                      let low : node_of b i < m = sound.parent_in m (node_of b i) lm up_is in
                      let rest : IsUnderNode b (node_of b i) n = ih (node_of b i) n (omega arith) lp ln (subst (λ q. is_under q (path n) ≡ true) here v) (subst (λ q. IsFilled t drawn q) here full) c there at other in
                      (suc rest.0, ap (λ o. up b rest.0 (parent_at b o)) up_is ∙ rest.1)

  over_path : (i j : ℕ) → i < command_count b → j < command_count b → IsOver b i j → bars_under (cmd i) (cmd j) ≡ true
  over_path i j li lj (other, u, full) = all_three (is_dir (cmd i).new) (is_under (cmd j).node (cmd i).node) (is_empty (cmd j).new)
      (other_kind (cmd i).new (λ e. other (h.leaves i li ∙ e)))
      (ap (λ p. is_under p (cmd i).node) (h.node j lj) ∙ ap (λ p. is_under (path (node_of b j)) p) (h.node i li) ∙ under_path (node_of b j) (node_of b i) (sound.node_in j lj) u)
      (full_kind (cmd j).new (λ e. full (h.leaves j lj ∙ e)))

  path_over : (i j : ℕ) → i < command_count b → j < command_count b → bars_under (cmd i) (cmd j) ≡ true → IsOver b i j
  path_over i j li lj e = go (three_all (is_dir (cmd i).new) (is_under (cmd j).node (cmd i).node) (is_empty (cmd j).new) e)
    where
      go : (is_dir (cmd i).new ≡ false) × (is_under (cmd j).node (cmd i).node ≡ true) × (is_empty (cmd j).new ≡ false) → IsOver b i j
      go (other, u, full) = (
        (λ x. kind_other (cmd i).new other (sym (h.leaves i li) ∙ x)),
        find_way (suc (node_of b j)) (node_of b j) (node_of b i) (omega arith) (sound.node_in j lj) (sound.node_in i li)
            (sym (ap (λ p. is_under p (cmd i).node) (h.node j lj) ∙ ap (λ p. is_under (path (node_of b j)) p) (h.node i li)) ∙ u)
            (inr (cmd j, h.here j lj, h.node j lj, full)) (cmd i) (h.here i li) (h.node i li) other,
        (λ x. kind_full (cmd j).new full (sym (h.leaves j lj) ∙ x)),
      )

  pub clash_conflicts : (i j : ℕ) → i < command_count b → j < command_count b → Clash b i j → conflicts (cmd i) (cmd j) ≡ true
  clash_conflicts i j li lj (inl (same, apart)) = in_first (same_path (cmd i).node (cmd j).node && not (same_change (cmd j) (cmd i))) (bars_under (cmd i) (cmd j)) (bars_under (cmd j) (cmd i))
      (two (same_path (cmd i).node (cmd j).node) (same_change (cmd j) (cmd i)) (same_path_at (cmd i).node (cmd j).node (h.node i li ∙ ap path same ∙ sym (h.node j lj)))
      (no_false (same_change (cmd j) (cmd i)) (λ e. apart (h.once i j li lj (sym (same_change_is (cmd j) (cmd i) e))))))
    where
      two : (x y : Bool) → x ≡ true → y ≡ false → (x && not y) ≡ true
      two x y e f = grind arith
  clash_conflicts i j li lj (inr (inl w)) = in_second (same_path (cmd i).node (cmd j).node && not (same_change (cmd j) (cmd i))) (bars_under (cmd i) (cmd j)) (bars_under (cmd j) (cmd i)) (over_path i j li lj w)
  clash_conflicts i j li lj (inr (inr w)) = in_third (same_path (cmd i).node (cmd j).node && not (same_change (cmd j) (cmd i))) (bars_under (cmd i) (cmd j)) (bars_under (cmd j) (cmd i)) (over_path j i lj li w)

  pub conflicts_clash : (i j : ℕ) → i < command_count b → j < command_count b → conflicts (cmd i) (cmd j) ≡ true → Clash b i j
  conflicts_clash i j li lj e = go (either (same_path (cmd i).node (cmd j).node && not (same_change (cmd j) (cmd i))) (bars_under (cmd i) (cmd j)) (bars_under (cmd j) (cmd i)) e)
    where
      not_same : i ≡ j → not (same_change (cmd j) (cmd i)) ≡ true → ⊥
      not_same s f = let k : same_change (cmd j) (cmd i) ≡ true = same_change_at (cmd j) (cmd i) (ap cmd (sym s)) in let z : not true ≡ true = ap not (sym k) ∙ f in cc (z)

      go : ((same_path (cmd i).node (cmd j).node && not (same_change (cmd j) (cmd i))) ≡ true) ⊎ ((bars_under (cmd i) (cmd j) ≡ true) ⊎ (bars_under (cmd j) (cmd i) ≡ true)) → Clash b i j
      go (inl x) = let y = both (same_path (cmd i).node (cmd j).node) (not (same_change (cmd j) (cmd i))) x in
          inl (h.apart (node_of b i) (node_of b j) (sound.node_in i li) (sound.node_in j lj) (sym (h.node i li) ∙ same_path_is (cmd i).node (cmd j).node y.0 ∙ h.node j lj), (λ s. not_same s y.1))
      go (inr (inl x)) = inr (inl (path_over i j li lj x))
      go (inr (inr x)) = inr (inr (path_over j i lj li x))

  -- above what a command leaves, a node that is no directory has a command that makes it one
  pub made_of : IsMade b
  made_of i m li full u other = go (parent_in m u)
    where
      parent_in : (m : ℕ) → IsUnderNode b (node_of b i) m → m < node_count b
      parent_in m u = low_of u
        where
          reach : (k a : ℕ) → a < node_count b → up b k (Some a) ≡ Some m → m < node_count b
          reach zero a l e = let k : a ≡ m = cc in omega arith
          reach (suc k) a l e = step (parent_of b a) refl e (reach k)
            where
              step : (o : Option ℕ) → parent_of b a ≡ o → up b k o ≡ Some m → ((a : ℕ) → a < node_count b → up b k (Some a) ≡ Some m → m < node_count b) → m < node_count b
              step None f g ih = absurd (up_none b k m g)
              step (Some p) f g ih = let low : p < a = sound.parent_in a p l f in ih p (omega arith) g

          low_of : IsUnderNode b (node_of b i) m → m < node_count b
          low_of (k, e) = reach (suc k) (node_of b i) (sound.node_in i li) e

      go : m < node_count b → (e : ℕ) × (e < command_count b) × (node_of b e ≡ m) × (leaves_of b e ≡ Dir)
      go lm = found (made_above t drawn h.tree h.known (cmd i) (h.here i li) (full_kind (cmd i).new (λ x. full (h.leaves i li ∙ x))) (path m)
          (ap (λ p. is_under p (path m)) (h.node i li) ∙ under_path (node_of b i) m (sound.node_in i li) u) (other_kind (t (path m)) (λ x. other (h.starts m lm ∙ x))))
        where
          found : (e : Change) × (is_in drawn e ≡ true) × (e.node ≡ path m) × (is_dir e.new ≡ true) → (e : ℕ) × (e < command_count b) × (node_of b e ≡ m) × (leaves_of b e ≡ Dir)
          found (e, in_e, at, dir) = place (h.all e in_e)
            where
              place : (j : ℕ) × (j < command_count b) × (cmd j ≡ e) → (e : ℕ) × (e < command_count b) × (node_of b e ≡ m) × (leaves_of b e ≡ Dir)
              place (j, lj, is) = (j, lj, h.apart (node_of b j) m (sound.node_in j lj) lm (sym (h.node j lj) ∙ ap (λ x. x.node) is ∙ at), h.leaves j lj ∙ dir_kind (cmd j).new (ap (λ x. is_dir x.new) is ∙ dir))
