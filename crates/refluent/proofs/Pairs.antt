-- The least pair of demands that no value suits.
use Rattle.std.proofs.Common.{◌≡◌, ◌<◌, ◌≤◌, ◌+◌, ℕ, Bool, true, false, not, List, length, get_or, Option, Some, None, refl, sym, ap, subst, ◌∙◌, arith, ◌⊎◌, inl, inr, Bor}
use Rattle.std.specs.List.{slice_get}
use Rattle.std.proofs.lemmas.Option.{slice_get-get_or}
use Rattle.std.proofs.lemmas.Bool.{cases_lt}
use borrow.Author.Count.{below_more}
use Rattle.sync_command.specs.declared.values.Value.{Value}
use Rattle.sync_command.specs.declared.values.Value.TheVariants as value
use Rattle.sync_command.specs.Values.{is_dir, same_value}
use Rattle.refluent.specs.Needs.{Need, Anything, AnyDirectory, Exactly, are_incompatible}
use Rattle.refluent.specs.Demands.{demanded, are_incompatible_demands, NoneIncompatible, NoPair, IsIncompatibleAt, IsFirstIncompatible, IsPairAt}
use Rattle.refluent.specs.declared.demands.Demand.{Demand}
use Rattle.refluent.specs.declared.demands.Demand.TheVariants as demand
use Rattle.sync_command.proofs.CallerLemmas.{same_value_is, same_value_at}

some_is : {d e : Demand} → Some d ≡ Some e → d ≡ e
some_is e = cc

at_place : (ds : List Demand) (i : ℕ) (x e : Demand) → i < length ds → x ≡ get_or ds i x → slice_get ds i ≡ Some e → e ≡ x
at_place ds i x e low is at = some_is (sym at ∙ slice_get-get_or ds i x low ∙ ap Some (sym is))

pub none_more : (ds : List Demand) (d x : Demand) (from i : ℕ) → i < length ds → x ≡ get_or ds i x → are_incompatible_demands d x ≡ false → NoneIncompatible ds d from i → NoneIncompatible ds d from (i + 1)
none_more ds d x from i low is apart h k e a b at = below_more (λ k. (e : Demand) → from ≤ k → slice_get ds k ≡ Some e → are_incompatible_demands d e ≡ false) i (λ k b e a at. h k e a b at) (λ e a at. ap (are_incompatible_demands d) (at_place ds i x e low is at) ∙ apart) k b e a at

pub rows_more : (ds : List Demand) (x : Demand) (i : ℕ) → i < length ds → x ≡ get_or ds i x → NoneIncompatible ds x (i + 1) (length ds) → NoPair ds i → NoPair ds (i + 1)
rows_more ds x i low is none h k d b at = below_more (λ k. (d : Demand) → slice_get ds k ≡ Some d → NoneIncompatible ds d (k + 1) (length ds)) i (λ k b d at. h k d b at) (λ d at. subst (λ y. NoneIncompatible ds y (i + 1) (length ds)) (sym (at_place ds i x d low is at)) none) k b d at

pub nothing_apart : (ds : List Demand) (from to : ℕ) → NoneIncompatible ds demand.Anything from to
nothing_apart ds from to k e a b at = refl

pub none_later : (ds : List Demand) (d : Demand) (from to : ℕ) → NoneIncompatible ds d from to → NoneIncompatible ds d (from + 1) to
none_later ds d from to h k e a b at = h k e (omega arith) b at

dir_of : (v w : Value) → not (is_dir v) ≡ false → not (same_value v w) ≡ false → not (is_dir w) ≡ false
dir_of v w d s = ap (λ x. not (is_dir x)) (sym (same_value_is v w (flip _ s))) ∙ d
  where
    flip : (b : Bool) → not b ≡ false → b ≡ true
    flip true e = refl
    flip false e = cc

same_of : (v u w : Value) → not (same_value v u) ≡ false → not (same_value v w) ≡ false → not (same_value u w) ≡ false
same_of v u w a b = ap not (same_value_at u w (sym (same_value_is v u (flip _ a)) ∙ same_value_is v w (flip _ b)))
  where
    flip : (b : Bool) → not b ≡ false → b ≡ true
    flip true e = refl
    flip false e = cc

-- two needs that one value meets are met together
pub met_by_one : (v : Value) (m n : Need) → are_incompatible (Exactly v) m ≡ false → are_incompatible (Exactly v) n ≡ false → are_incompatible m n ≡ false
met_by_one v Anything n a b = refl
met_by_one v AnyDirectory Anything a b = refl
met_by_one v AnyDirectory AnyDirectory a b = refl
met_by_one v AnyDirectory (Exactly w) a b = dir_of v w a b
met_by_one v (Exactly u) Anything a b = refl
met_by_one v (Exactly u) AnyDirectory a b = dir_of v u b a
met_by_one v (Exactly u) (Exactly w) a b = same_of v u w a b

-- a demand that is neither nothing nor any directory is of one value
settled : (d : Demand) (m n : Need) → (d ≡ demand.Anything → ⊥) → (d ≡ demand.AnyDirectory → ⊥) → are_incompatible (demanded d) m ≡ false → are_incompatible (demanded d) n ≡ false → are_incompatible m n ≡ false
settled demand.Anything m n x y a b = absurd (x refl)
settled demand.AnyDirectory m n x y a b = absurd (y refl)
settled demand.Absent m n x y a b = met_by_one value.Empty m n a b
settled (demand.Exactly v) m n x y a b = met_by_one v.now m n a b

pub settled_all : (ds : List Demand) (x : Demand) (i : ℕ) → (x ≡ demand.Anything → ⊥) → (x ≡ demand.AnyDirectory → ⊥) → i < length ds → x ≡ get_or ds i x → NoneIncompatible ds x (i + 1) (length ds) → NoPair ds i → NoPair ds (length ds)
settled_all ds x i f g low is none h k d b at j e from to there = go (cases_lt k (i + 1))
  where
    go : (k < i + 1) ⊎ (i + 1 ≤ k) → are_incompatible_demands d e ≡ false
    go (inl early) = rows_more ds x i low is none h k d early at j e from to there
    go (inr late) = settled x (demanded d) (demanded e) f g (none k d late b at) (none j e (omega arith) to there)

pub pair_at : (ds : List Demand) (x : Demand) (i j : ℕ) → i < length ds → x ≡ get_or ds i x → IsIncompatibleAt ds x (i + 1) j → NoPair ds i → IsPairAt ds i j
pair_at ds x i j low is apart h = record { rows = h; demand = x; at = slice_get-get_or ds i x low ∙ ap Some (sym is); apart = apart }

abbrev IsOfOneValue : Demand → Type 0
IsOfOneValue x = (x ≡ demand.Absent) ⊎ ((v : Bor Value) × (x ≡ demand.Exactly v))

not_nothing : (x : Demand) → IsOfOneValue x → x ≡ demand.Anything → ⊥
not_nothing x (inl e) f = cc (e, f)
not_nothing x (inr p) f = let g : x ≡ demand.Exactly p.0 = p.1 in cc (g, f)

not_directory : (x : Demand) → IsOfOneValue x → x ≡ demand.AnyDirectory → ⊥
not_directory x (inl e) f = cc (e, f)
not_directory x (inr p) f = let g : x ≡ demand.Exactly p.0 = p.1 in cc (g, f)

none_from : (ds : List Demand) (x : Demand) (from : ℕ) (r : Option ℕ) → r ≡ None → IsFirstIncompatible ds x from r → NoneIncompatible ds x from (length ds)
none_from ds x from r e h = subst (λ o. IsFirstIncompatible ds x from o) e h

pub settled_by : (ds : List Demand) (x : Demand) (i : ℕ) (r : Option ℕ) → IsOfOneValue x → i < length ds → x ≡ get_or ds i x → r ≡ None → IsFirstIncompatible ds x (i + 1) r → NoPair ds i → NoPair ds (length ds)
settled_by ds x i r one low is e h rows = settled_all ds x i (not_nothing x one) (not_directory x one) low is (none_from ds x (i + 1) r e h) rows

-- what the rows so far show: none has a pair, and where a demand of a directory was met, none is apart from it behind
pub record Rows (ds : List Demand) (met : Bool) (i : ℕ) : Type 0 where
  pub rows : NoPair ds i
  pub seen : met ≡ true → NoneIncompatible ds demand.AnyDirectory i (length ds)

pub rows_nothing : (ds : List Demand) (x : Demand) (i : ℕ) (seen now : Bool) → x ≡ demand.Anything → i < length ds → x ≡ get_or ds i x → now ≡ seen → Rows ds seen i → Rows ds now (i + 1)
rows_nothing ds x i seen now e low is same h = record {
  rows = rows_more ds x i low is (subst (λ d. NoneIncompatible ds d (i + 1) (length ds)) (sym e) (nothing_apart ds (i + 1) (length ds))) h.rows;
  seen = λ t. none_later ds demand.AnyDirectory i (length ds) (h.seen (sym same ∙ t));
}

pub rows_seen : (ds : List Demand) (x : Demand) (i : ℕ) (seen now : Bool) → x ≡ demand.AnyDirectory → i < length ds → x ≡ get_or ds i x → seen ≡ true → Rows ds seen i → Rows ds now (i + 1)
rows_seen ds x i seen now e low is t h = let later = none_later ds demand.AnyDirectory i (length ds) (h.seen t) in record {
  rows = rows_more ds x i low is (subst (λ d. NoneIncompatible ds d (i + 1) (length ds)) (sym e) later) h.rows;
  seen = λ _. later;
}

pub rows_first : (ds : List Demand) (x : Demand) (i : ℕ) (seen now : Bool) (r : Option ℕ) → x ≡ demand.AnyDirectory → i < length ds → x ≡ get_or ds i x → r ≡ None → IsFirstIncompatible ds x (i + 1) r → Rows ds seen i → Rows ds now (i + 1)
rows_first ds x i seen now r e low is f g h = let none = none_from ds x (i + 1) r f g in record {
  rows = rows_more ds x i low is none h.rows;
  seen = λ _. subst (λ d. NoneIncompatible ds d (i + 1) (length ds)) e none;
}
