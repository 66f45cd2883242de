-- Values: which are equal, which are empty, and which are directories.
use Rattle.std.proofs.Common.{◌≡◌, ◌↔◌, ◌⊎◌, inl, inr, true, false, not, IsTrue, refl, sym, ap, ◌∙◌}
use Rattle.std.proofs.lemmas.Slice.Eq.{bytes_eq-Decides}
use Rattle.sync_command.specs.Values.{is_dir, is_empty, same_value}
use Rattle.sync_command.specs.declared.values.Value.{Value}
use Rattle.sync_command.specs.declared.values.Value.TheVariants.{Dir, Empty, File}

pub same_value_is : (v w : Value) → same_value v w ≡ true → v ≡ w
same_value_is Empty Empty e = refl
same_value_is Empty (Dir b) e = cc
same_value_is Empty (File b) e = cc
same_value_is (Dir a) Empty e = cc
same_value_is (Dir a) (Dir b) e = ap Dir ((bytes_eq-Decides a b).0 e)
same_value_is (Dir a) (File b) e = cc
same_value_is (File a) Empty e = cc
same_value_is (File a) (Dir b) e = cc
same_value_is (File a) (File b) e = ap File ((bytes_eq-Decides a b).0 e)

pub same_value_refl : (v : Value) → same_value v v ≡ true
same_value_refl Empty = refl
same_value_refl (Dir b) = (bytes_eq-Decides b b).1 refl
same_value_refl (File b) = (bytes_eq-Decides b b).1 refl

pub same_value_at : (v w : Value) → v ≡ w → same_value v w ≡ true
same_value_at v w e = ap (same_value v) (sym e) ∙ same_value_refl v

pub same_value_decides : (v w : Value) → IsTrue (same_value v w) ↔ (v ≡ w)
same_value_decides v w = (same_value_is v w, same_value_at v w)

-- nothing but Empty is empty
pub empty_is : (v : Value) → is_empty v ≡ true → v ≡ Empty
empty_is Empty e = refl
empty_is (Dir l) e = cc
empty_is (File b) e = cc

-- a directory is not empty
pub full_from_dir : (v : Value) → is_dir v ≡ true → is_empty v ≡ false
full_from_dir Empty e = cc
full_from_dir (Dir l) e = refl
full_from_dir (File b) e = refl

-- of two values that differ one is not empty
pub one_full : (v w : Value) → not (same_value v w) ≡ true → (is_empty v ≡ false) ⊎ (is_empty w ≡ false)
one_full Empty Empty e = cc
one_full Empty (Dir l) e = inr refl
one_full Empty (File b) e = inr refl
one_full (Dir l) w e = inl refl
one_full (File b) w e = inl refl
