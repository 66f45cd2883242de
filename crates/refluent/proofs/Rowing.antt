-- The nodes of a joint, one for each group.
use Rattle.std.proofs.Common.{◌≡◌, ◌<◌, ◌≤◌, ◌+◌, ℕ, zero, suc, List, [], ◌∷◌, ◌++◌, length, get_or, Some, refl, sym, ap, subst, ◌∙◌, arith, ◌⊎◌, inl, inr, length-append}
use Rattle.std.specs.List.{slice_get, slice_range}
use Rattle.std.proofs.lemmas.Option.{slice_get-get_or, slice_get_within}
use Rattle.std.proofs.lemmas.Bool.{cases_lt}
use Rattle.sync_path.specs.Paths.{Node}
use Rattle.sync_command.specs.declared.values.Value.{Value}
use Rattle.sync_command.specs.declared.commands.Row.{Row}
use Rattle.refluent.specs.Tables.{IsTable, node_of}
use Rattle.refluent.specs.JointParts.{AreRowsOf, row_of, value_by}
use Rattle.refluent.specs.declared.claims.Claim.{Claim}
use Rattle.refluent.specs.declared.table.Group.{Group}

pub group_bounds : (claims : List Claim) (groups : List Group) → IsTable claims groups → (place : ℕ) → place < length groups → (z : Group) → ((get_or groups place z).start < length claims) × ((get_or groups place z).start ≤ (get_or groups place z).end) × ((get_or groups place z).end ≤ length claims)
group_bounds claims groups table place low z = let group = (table.each place (get_or groups place z) (slice_get-get_or groups place z low)).0 in let a : (get_or groups place z).start < (get_or groups place z).end = group.some in let b : (get_or groups place z).end ≤ length claims = group.high in
    (omega arith, omega arith, omega arith)

row_old : (rows : List Row) (r : Row) (i : ℕ) (x : Row) → slice_get rows i ≡ Some x → slice_get (rows ++ r ∷ []) i ≡ Some x
row_old [] r i x e = cc (e)
row_old (y ∷ rows) r zero x e = e
row_old (y ∷ rows) r (suc i) x e = row_old rows r i x e

row_new : (rows : List Row) (r : Row) → slice_get (rows ++ r ∷ []) (length rows) ≡ Some r
row_new [] r = refl
row_new (y ∷ rows) r = row_new rows r

-- the rows of the first so many groups
pub record RowsTo (claims : List Claim) (groups : List Group) (rows : List Row) (place : ℕ) : Type 0 where
  pub many : length rows ≡ place
  pub each : (i : ℕ) (s : Group) → i < place → slice_get groups i ≡ Some s → slice_get rows i ≡ Some (row_of claims s)

pub rows_more : (claims run : List Claim) (groups : List Group) (rows new : List Row) (place : ℕ) → place < length groups → (z : Group) (p q : Node) (v : Value) → RowsTo claims groups rows place → q ≡ node_of claims (get_or groups place z) → p ≡ q → run ≡ slice_range claims (get_or groups place z).start (get_or groups place z).end → v ≡ value_by run →
    new ≡ rows ++ record { path = p; value = v } ∷ [] → RowsTo claims groups new (place + 1)
rows_more claims run groups rows new place low z p q v h node path is val made = subst (λ l. RowsTo claims groups l (place + 1)) (sym made) (record { many = length-append rows (record { path = p; value = v } ∷ []) ∙ ap (λ n. n + 1) h.many; each = each })
  where
    same : {a b : Group} → Some a ≡ Some b → a ≡ b
    same e = cc

    row : record { path = p; value = v } ≡ row_of claims (get_or groups place z)
    row = ap (λ x. record { path = x; value = v }) (path ∙ node) ∙ ap (λ x. record { path = node_of claims (get_or groups place z); value = x }) (val ∙ ap value_by is)

    each : (i : ℕ) (s : Group) → i < place + 1 → slice_get groups i ≡ Some s → slice_get (rows ++ record { path = p; value = v } ∷ []) i ≡ Some (row_of claims s)
    each i s less at = go (cases_lt i place)
      where
        go : (i < place) ⊎ (place ≤ i) → slice_get (rows ++ record { path = p; value = v } ∷ []) i ≡ Some (row_of claims s)
        go (inl h') = row_old rows _ i _ (h.each i s h' at)
        go (inr h') = let e : i ≡ length rows = omega (arith, h.many) in let f : i ≡ place = omega arith in let is' : s ≡ get_or groups place z = same (sym at ∙ ap (slice_get groups) f ∙ slice_get-get_or groups place z low) in
            ap (slice_get (rows ++ record { path = p; value = v } ∷ [])) e ∙ row_new rows _ ∙ ap Some (row ∙ ap (row_of claims) (sym is'))

pub rows_done : (claims : List Claim) (groups : List Group) (rows : List Row) (place : ℕ) → place ≡ length groups → RowsTo claims groups rows place → AreRowsOf claims groups rows
rows_done claims groups rows place e h = record { many = h.many ∙ e; each = λ i s at. let l : i < length groups = slice_get_within groups i s at in h.each i s (omega arith) at }
