-- Logs have one joint: what stands at each node determines the rows.
use Rattle.std.proofs.Common.{◌≡◌, Bool, true, false, ◌&&◌, List, [], ◌∷◌, Option, None, Some, refl, sym, ap, ◌∙◌, if◌then◌else◌}
use Rattle.sync_path.specs.Paths.{Node, comes_before, same_path}
use Rattle.sync_path.proofs.CallerLemmas.{before_irrefl, before_total, before_trans, both, same_path_is, same_path_refl}
use Rattle.sync_command.specs.declared.values.Value.{Value}
use Rattle.sync_command.specs.declared.commands.Row.{Row}
use Rattle.sync_command.specs.Changes.{Change}
use Rattle.refluent.specs.Joints.{Joined, StandsForAll, comes_before_all, is_ascending, value_in}

some_is : {a b : Value} → ◌≡◌ {A = Option Value} (Some a) (Some b) → a ≡ b
some_is e = cc

some_none : {a : Value} → ◌≡◌ {A = Option Value} (Some a) None → ⊥
some_none e = cc

and_true : (a b : Bool) → a ≡ true → b ≡ true → (a && b) ≡ true
and_true true b e f = f
and_true false b e f = absurd (cc (e))

-- nothing stands at a node before all rows
not_among : (p : Node) (rows : List Row) → comes_before_all p rows ≡ true → value_in rows p ≡ None
not_among p [] h = refl
not_among p (row ∷ rows) h =
    let parts = both (comes_before p row.path) (comes_before_all p rows) h in
    go parts.0 (not_among p rows parts.1) (same_path p row.path) refl
  where
    go : comes_before p row.path ≡ true → value_in rows p ≡ None → (b : Bool) → same_path p row.path ≡ b → (if b then Some row.value else value_in rows p) ≡ None
    go ever later true e = let never : comes_before p row.path ≡ false = ap (comes_before p) (sym (same_path_is p row.path e)) ∙ before_irrefl p in absurd (cc (never, ever))
    go ever later false e = later

before_more : (p q : Node) (rows : List Row) → comes_before p q ≡ true → comes_before_all q rows ≡ true → comes_before_all p rows ≡ true
before_more p q [] e h = refl
before_more p q (row ∷ rows) e h =
    let parts = both (comes_before q row.path) (comes_before_all q rows) h in
    and_true (comes_before p row.path) (comes_before_all p rows) (before_trans p q row.path e parts.0) (before_more p q rows e parts.1)

at_first : (row : Row) (rows : List Row) → value_in (row ∷ rows) row.path ≡ Some row.value
at_first row rows = ap (λ b. if b then Some row.value else value_in rows row.path) (same_path_refl row.path)

-- nothing stands at a node before the first row
nothing_before : (p : Node) (row : Row) (rows : List Row) → comes_before p row.path ≡ true → comes_before_all row.path rows ≡ true → value_in (row ∷ rows) p ≡ None
nothing_before p row rows e h = not_among p (row ∷ rows) (and_true (comes_before p row.path) (comes_before_all p rows) e (before_more p row.path rows e h))

same_row : (x y : Row) → x.path ≡ y.path → x.value ≡ y.value → x ≡ y
same_row x y e f = λ i. record { path = e i; value = f i }

abbrev Alike : List Row → List Row → Type 0
Alike xs ys = (p : Node) → value_in xs p ≡ value_in ys p

module _ (x y : Row) (xs ys : List Row) (alike : Alike (x ∷ xs) (y ∷ ys)) (up : comes_before_all x.path xs ≡ true) (other : comes_before_all y.path ys ≡ true) where
  not_less : comes_before x.path y.path ≡ true → ⊥
  not_less e = some_none (sym (at_first x xs) ∙ alike x.path ∙ nothing_before x.path y ys e other)

  not_more : comes_before y.path x.path ≡ true → ⊥
  not_more e = some_none (sym (at_first y ys) ∙ sym (alike y.path) ∙ nothing_before y.path x xs e up)

  one_path : x.path ≡ y.path
  one_path = go (same_path x.path y.path) refl (comes_before x.path y.path) refl
    where
      go : (b : Bool) → same_path x.path y.path ≡ b → (a : Bool) → comes_before x.path y.path ≡ a → x.path ≡ y.path
      go true e a f = same_path_is x.path y.path e
      go false e true f = absurd (not_less f)
      go false e false f = absurd (not_more (before_total x.path y.path e f))

  one_row : x ≡ y
  one_row = same_row x y one_path (some_is (sym (at_first x xs) ∙ alike x.path ∙ ap (value_in (y ∷ ys)) one_path ∙ at_first y ys))

  tails_alike : Alike xs ys
  tails_alike p = go (same_path p x.path) refl
    where
      go : (b : Bool) → same_path p x.path ≡ b → value_in xs p ≡ value_in ys p
      go true e =
          let at = same_path_is p x.path e in
          (ap (value_in xs) at ∙ not_among x.path xs up) ∙ sym (ap (value_in ys) (at ∙ one_path) ∙ not_among y.path ys other)
      go false e =
          sym (ap (λ b. if b then Some x.value else value_in xs p) e)
          ∙ alike p ∙ ap (λ b. if b then Some y.value else value_in ys p) (ap (same_path p) (sym one_path) ∙ e)

same_rows : (xs ys : List Row) → is_ascending xs ≡ true → is_ascending ys ≡ true → Alike xs ys → xs ≡ ys
same_rows [] [] up other alike = refl
same_rows [] (y ∷ ys) up other alike = absurd (some_none (sym (at_first y ys) ∙ sym (alike y.path)))
same_rows (x ∷ xs) [] up other alike = absurd (some_none (sym (at_first x xs) ∙ alike x.path))
same_rows (x ∷ xs) (y ∷ ys) up other alike =
    let h = both (comes_before_all x.path xs) (is_ascending xs) up in
    let k = both (comes_before_all y.path ys) (is_ascending ys) other in
    (λ i. one_row x y xs ys alike h.0 k.0 i ∷ same_rows xs ys h.1 k.1 (tails_alike x y xs ys alike h.0 k.0) i)

pub one_joint : (j k : Joined) (logs : List (List Change)) → StandsForAll j logs → StandsForAll k logs → j ≡ k
one_joint j k logs s t =
    let sets = s.sets ∙ sym t.sets in
    let nodes = same_rows j.nodes k.nodes s.order t.order (λ p. s.nodes p ∙ sym (t.nodes p)) in
    (λ i. record { sets = sets i; nodes = nodes i })
