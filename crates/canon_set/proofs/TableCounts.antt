-- How the counts of a table follow as nodes come in, and as they hold something or no longer do.
use Rattle.std.proofs.Common.{◌≡◌, ◌+◌, ◌-◌, ℕ, length, map, Bool, true, false, not, List, Option, Some, None, unwrap_or, cond, refl, sym, ap, subst, ◌∙◌, arith}
use mathlib.Core.Path.{fun_ext}
use mathlib.Core.Bool.{beq}
use mir.Val.{bool_byte}
use Rattle.std.specs.Prelude.{if◌then◌else◌, is_some}
use Rattle.std.specs.Ordering.{is_eq}
use Rattle.std.specs.HashMap.{get}
use Rattle.sync_path.specs.Paths.{Node, parent, path_cmp, same_path}
use Rattle.sync_path.specs.Order.{path_eq}
use Rattle.canon_set.specs.declared.touches.Touch.{Touch}
use Rattle.canon_set.specs.declared.table.Entry.{Entry}
use Rattle.canon_set.specs.declared.table.Table.{Table}
use Rattle.canon_set.specs.Entries.{Counts, IsClosed, Raises, Enters, Recounts, Lifts, at_place}
use Rattle.canon_set.specs.Tables.{place_of, touch_from, touches_in, children_of, entry_from, entry_at}
use Rattle.canon_set.proofs.Entering.{raise_write, raise_new, enter_made, recount_write, place_given}
use Rattle.canon_set.proofs.TableMaps.{known_above, not_touched, put_above, take_above}

-- the parent counts the node
pub raise_counted : (old new : Node → Option Entry) (path up : Node) (here : Bool) (n : ℕ) → parent path ≡ Some up → old path ≡ None → IsClosed old → n ≡ bool_byte here → Counts old new up n 0 → Raises old new path here
raise_counted old new path up here n e unknown closed is w = raise_write old new path up here e unknown closed w.entry (record { place = w.entry.place; children = w.entry.children + n - 0 }) (sym w.was) w.now refl (more w.entry.children ∙ ap (λ m. w.entry.children + m) is)
  where
    more : (k : ℕ) → k + n - 0 ≡ k + n
    more k = omega arith

-- the parent comes in too
pub raise_parent : (t0 t1 t2 : Table) (path up key : Node) (here : Bool) (n : ℕ) → parent path ≡ Some up → entry_at t0 path ≡ None → entry_at t0 up ≡ None → Raises (entry_at t0) (entry_at t1) up true → touches_in t1 ≡ touches_in t0 →
    t2.touched ≡ t1.touched → key ≡ up → n ≡ bool_byte here → ((p : Node) → get path_eq t2.above p ≡ cond (is_eq (path_cmp key p)) (Some n) (get path_eq t1.above p)) → Raises (entry_at t0) (entry_at t2) path here
raise_parent t0 t1 t2 path up key here n e unknown none raises touched same is many gets = raise_new (entry_at t0) (entry_at t2) path up here e unknown none (record { place = None; children = n }) refl many
    (enter_made (entry_at t0) (entry_at t1) (entry_at t2) up (record { place = None; children = n }) true raises
    (put_above t1 up (ap (λ ts. place_of ts up) touched ∙ not_touched t0 up none) t2 n same (λ p. gets p ∙ ap (λ q. cond (is_eq (path_cmp q p)) (Some n) (get path_eq t1.above p)) is)))

level : (a b : Bool) → beq a b ≡ true → a ≡ b
level true true e = refl
level true false e = cc (e)
level false true e = cc (e)
level false false e = refl

turned : (a b : Bool) → beq a b ≡ false → a ≡ not b
turned true true e = cc (e)
turned true false e = refl
turned false true e = refl
turned false false e = cc (e)

pub same_fullness : (a b : Bool) → beq a b ≡ true → a ≡ b
same_fullness = level

pub recount_counted : (old new : Node → Option Entry) (path up : Node) (was here : Bool) (added taken : ℕ) → parent path ≡ Some up → is_some (old path) ≡ true → beq was here ≡ false → added ≡ bool_byte here → taken ≡ bool_byte was → Counts old new up added taken → Recounts old new path was here
recount_counted old new path up was here added taken e known turns is of w = recount_write old new path up was here e known w.entry (record { place = w.entry.place; children = w.entry.children + added - taken }) (sym w.was) w.now refl (kids here was turns added taken is of w.entry.children) (turned was here turns)
  where
    kids : (here was : Bool) → beq was here ≡ false → (a t : ℕ) → a ≡ bool_byte here → t ≡ bool_byte was → (k : ℕ) → k + a - t ≡ (if here then k + 1 else k - 1)
    kids true true e a t f g k = cc (e)
    kids true false e a t f g k = omega arith
    kids false true e a t f g k = omega arith
    kids false false e a t f g k = cc (e)

-- an untouched node of the table gets a place
pub lifted : (t1 t2 t3 : Table) (path : Node) (kids len : ℕ) → is_some (entry_at t1 path) ≡ true → place_of (touches_in t1) path ≡ None → t2.touched ≡ t1.touched → ((p : Node) → get path_eq t2.above p ≡ cond (is_eq (path_cmp path p)) None (get path_eq t1.above p)) →
    kids ≡ unwrap_or (get path_eq t1.above path) 0 → ((p : Node) → entry_at t3 p ≡ cond (is_eq (path_cmp path p)) (Some (record { place = Some len; children = kids })) (entry_at t2 p)) → (p : Node) → entry_at t3 p ≡ (if same_path p path then at_place len (entry_at t1 p) else entry_at t1 p)
lifted t1 t2 t3 path kids len known none same gets is put = go (get path_eq t1.above path) refl
  where
    gone : place_of (touches_in t1) path ≡ None → get path_eq t1.above path ≡ None → entry_at t1 path ≡ None
    gone e f = (λ j. entry_from (e j) (children_of (get path_eq t1.touched path)) (f j))

    over : (b : Bool) {A : Type 0} (x y z : A) → cond b x (cond b y z) ≡ cond b x z
    over true x y z = refl
    over false x y z = refl

    go : (o : Option ℕ) → get path_eq t1.above path ≡ o → (p : Node) → entry_at t3 p ≡ (if same_path p path then at_place len (entry_at t1 p) else entry_at t1 p)
    go None e = let a : is_some (entry_at t1 path) ≡ false = ap is_some (gone none e) in cc (a, known)
    go (Some n) e = place_given (entry_at t1) (entry_at t3) path len (record { place = None; children = n }) (sym (known_above t1 path n none e))
        (λ p. put p ∙ ap (λ m. cond (is_eq (path_cmp path p)) (Some (record { place = Some len; children = m })) (entry_at t2 p)) (is ∙ ap (λ o. unwrap_or o 0) e) ∙
        ap (cond (is_eq (path_cmp path p)) (Some (record { place = Some len; children = n }))) (take_above t1 path none t2 same gets p) ∙ over (is_eq (path_cmp path p)) (Some (record { place = Some len; children = n })) None (entry_at t1 p))

-- a node comes in, after the ways to it were made
pub entered : (t0 t1 t2 t3 : Table) (node way : Node) (here full : Bool) → way ≡ node → ((p : Node) → entry_at t1 p ≡ entry_at t0 p) → touches_in t1 ≡ touches_in t0 → Raises (entry_at t1) (entry_at t2) way here → touches_in t2 ≡ touches_in t1 → here ≡ full →
    ((p : Node) → entry_at t3 p ≡ cond (is_eq (path_cmp node p)) (Some (record { place = Some (length (touches_in t2)); children = 0 })) (entry_at t2 p)) → Enters (entry_at t0) (entry_at t3) node (record { place = Some (length (touches_in t0)); children = 0 }) full
entered t0 t1 t2 t3 node way here full at same first raises second is put = enter_made (entry_at t0) (entry_at t2) (entry_at t3) node (record { place = Some (length (touches_in t0)); children = 0 }) full
    (subst (λ b. Raises (entry_at t0) (entry_at t2) node b) is (subst (λ p. Raises (entry_at t0) (entry_at t2) p here) at (subst (λ f. Raises f (entry_at t2) way here) (fun_ext same) raises)))
    (λ p. put p ∙ ap (λ (ts : List Touch). cond (is_eq (path_cmp node p)) (Some (record { place = Some (length ts); children = 0 })) (entry_at t2 p)) (second ∙ first))

-- an untouched node of the table comes to the touched ones
pub lifts : (t0 t1 t2 t3 t4 : Table) (node way : Node) (here full : Bool) (kids : ℕ) → way ≡ node → ((p : Node) → entry_at t1 p ≡ entry_at t0 p) → touches_in t1 ≡ touches_in t0 → Recounts (entry_at t1) (entry_at t2) way true here → touches_in t2 ≡ touches_in t1 → here ≡ full →
    is_some (entry_at t0 node) ≡ true → place_of (touches_in t0) node ≡ None → t3.touched ≡ t2.touched → ((p : Node) → get path_eq t3.above p ≡ cond (is_eq (path_cmp node p)) None (get path_eq t2.above p)) → kids ≡ unwrap_or (get path_eq t2.above node) 0 →
    ((p : Node) → entry_at t4 p ≡ cond (is_eq (path_cmp node p)) (Some (record { place = Some (length (touches_in t3)); children = kids })) (entry_at t3 p)) → Lifts (entry_at t0) (entry_at t4) node (length (touches_in t0)) full
lifts t0 t1 t2 t3 t4 node way here full kids at same first recounts second is known none third gets took put = record {
  mid = entry_at t2;
  recounts = moved;
  at = lifted t2 t3 t4 node kids (length (touches_in t0)) (moved.known node ∙ known) (ap (λ ts. place_of ts node) (second ∙ first) ∙ none) third gets took
      (λ p. put p ∙ ap (λ (ts : List Touch). cond (is_eq (path_cmp node p)) (Some (record { place = Some (length ts); children = kids })) (entry_at t3 p)) (ap (λ m. map touch_from m.entries) third ∙ second ∙ first));
}
  where
    moved : Recounts (entry_at t0) (entry_at t2) node true full
    moved = subst (λ b. Recounts (entry_at t0) (entry_at t2) node true b) is (subst (λ p. Recounts (entry_at t0) (entry_at t2) p true here) at (subst (λ f. Recounts f (entry_at t2) way true here) (fun_ext same) recounts))
