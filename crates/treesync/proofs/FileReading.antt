-- A file that is read piece by piece, as the check of its bytes.
use Rattle.std.proofs.Common.{◌≡◌, ◌⊎◌, ◌+◌, ◌++◌, ◌<◌, ◌≤◌, ℕ, List, [], ◌∷◌, Bool, true, false, length, nat_lt, if◌then◌else◌, None, Some, Ok, Err, Option, inl, inr, refl, sym, ap, subst, ◌∙◌, arith, length-append, length-take, append-nil, take}
use Rattle.std.proofs.lemmas.Bool.Decides.{nat_tests}
use Rattle.std.specs.Str.{bytes_eq}
use Rattle.sync_port.specs.States.{IfBoth, IfKnown}
use Rattle.sync_port.specs.Ports.{FileContents, FilesState, IsAbsentIn, OpenFaults, Opens, ReadFaults, Reads}
use Rattle.sync_port.specs.Whole.{of_name}
use Rattle.sync_port.specs.declared.faults.PortFault.{PortFault}
use Rattle.sync_port.specs.declared.faults.PortFault.TheVariants.{Failed}
use Rattle.sync_port.specs.declared.faults.PortFault.TheVariants as port
use Rattle.sync_port.proofs.CallerLemmas.{HasRead, both_more, both_then, counted_since, more_read}
use Rattle.treesync.specs.Checks.{Answers, Causes, FilesCounted, IsAllowed, ReadsFiles}
use Rattle.treesync.specs.Files.{IsFile, call_refusal, file_answer}
use Rattle.treesync.specs.declared.refusal.Refusal.TheVariants.{OutOfMemory, CallFailed, Found}
use Rattle.treesync.specs.declared.refusal.Failure.TheVariants.{ReadFailed}
use Rattle.treesync.specs.declared.refusal.Finding.TheVariants.{TooLarge}

-- the bytes stand for themselves
abbrev pub AreBytes : List ℕ → List ℕ → Type 0
AreBytes bytes a = bytes ≡ a

-- so far these bytes were read of the file, and no call failed
pub record IsReading (name bytes : List ℕ) (before now : FilesState) : Type 0 where
  pub faults : now.faults ≡ before.faults
  pub read : IfKnown before now (HasRead name bytes)

-- ---- tests of the size

if_true : {X : Type 0} (b : Bool) (x y : X) → b ≡ true → (if b then x else y) ≡ x
if_true true x y h = refl
if_true false x y h = absurd (cc)

if_false : {X : Type 0} (b : Bool) (x y : X) → b ≡ false → (if b then x else y) ≡ y
if_false false x y h = refl
if_false true x y h = absurd (cc)

pub lt_true : (m n : ℕ) → m < n → nat_lt m n ≡ true
lt_true m n h = grind (arith, nat_tests)

pub lt_false : (m n : ℕ) → n ≤ m → nat_lt m n ≡ false
lt_false m n h = grind (arith, nat_tests)

pub if_less : {X : Type 0} (m n : ℕ) (x y : X) → m < n → (if nat_lt m n then x else y) ≡ x
if_less m n x y h = if_true (nat_lt m n) x y (lt_true m n h)

pub if_not_less : {X : Type 0} (m n : ℕ) (x y : X) → n ≤ m → (if nat_lt m n then x else y) ≡ y
if_not_less m n x y h = if_false (nat_lt m n) x y (lt_false m n h)

-- ---- what was read of the files

pub of_name_grows : (name other : List ℕ) (count more : ℕ) → count ≤ more → of_name name count other ≤ of_name name more other
of_name_grows name other count more le = cases (bytes_eq name other)
  where
    cases : (same : Bool) → (if same then count else 0) ≤ (if same then more else 0)
    cases true = le
    cases false = omega arith

reads_within : (limit : ℕ) (name bytes : List ℕ) (a b : Option FileContents) → length bytes ≤ limit + 1 → IfBoth a b (HasRead name bytes) → IfBoth a b (ReadsFiles ((name, limit) ∷ []))
reads_within limit name bytes a b within h = both_more a b h (λ m k p. record {
  held = p.held;
  opened = omega (arith, p.opened);
  taken = omega (arith, p.taken, within);
  most = λ other. omega (arith, p.most other, of_name_grows name other (length bytes) (limit + 1) within);
})

-- ---- a call that failed

absent_file : (limit word : ℕ) (name : List ℕ) (m : FileContents) → m.held name ≡ None → IsFile limit word name m.held false (Err (CallFailed (ReadFailed word)))
absent_file limit word name m h = sym (ap (file_answer limit word) h)

open_allowed : (limit word : ℕ) (name : List ℕ) (known : Option FileContents) (counted : Causes) → counted (ReadFailed word) ⊎ IsAbsentIn known name → IsAllowed (IsFile limit word name) known counted (Err (CallFailed (ReadFailed word)))
open_allowed limit word name None counted (inl c) = c
open_allowed limit word name None counted (inr a) = absurd a
open_allowed limit word name (Some m) counted (inl c) = inr (c, refl)
open_allowed limit word name (Some m) counted (inr a) = inl (absent_file limit word name m a)

read_allowed : (limit word : ℕ) (name : List ℕ) (known : Option FileContents) (counted : Causes) → counted (ReadFailed word) → IsAllowed (IsFile limit word name) known counted (Err (CallFailed (ReadFailed word)))
read_allowed limit word name None counted c = c
read_allowed limit word name (Some m) counted c = inr (c, refl)

memory_allowed : (limit word : ℕ) (name : List ℕ) (known : Option FileContents) (counted : Causes) → IsAllowed (IsFile limit word name) known counted (Err OutOfMemory)
memory_allowed limit word name None counted = tt
memory_allowed limit word name (Some m) counted = tt

opened_within : (T : Type 0) (limit : ℕ) (name : List ℕ) (fault : PortFault) (a b : Option FileContents) → IfBoth a b (Opens {T = T} name (Err fault)) → IfBoth a b (ReadsFiles ((name, limit) ∷ []))
opened_within T limit name fault a b h = both_more a b h (λ m k p. record { held = p.held; opened = omega (arith, p.opened); taken = omega (arith, p.taken); most = λ other. omega (arith, ap (λ most. most other) p.most) })

pub not_opened : {T : Type 0} (limit word : ℕ) (name : List ℕ) (before now : FilesState) (fault : PortFault) →
    OpenFaults {T = T} name (Err fault) before now → IfKnown before now (Opens {T = T} name (Err fault)) → Answers AreBytes (IsFile limit word name) ((name, limit) ∷ []) before now (Err (call_refusal word fault))
not_opened {T = T} limit word name before now Failed f h = record {
  later = f.later;
  quiet = tt;
  reads = opened_within T limit name Failed before.contents now.contents h;
  allowed = open_allowed limit word name before.contents (FilesCounted before now) (f.failed refl);
  job = tt;
}
not_opened {T = T} limit word name before now port.Memory f h = record {
  later = f.later;
  quiet = tt;
  reads = opened_within T limit name port.Memory before.contents now.contents h;
  allowed = memory_allowed limit word name before.contents (FilesCounted before now);
  job = tt;
}

-- after a refused `read` the same bytes are to come
still_read : (name bytes buffer : List ℕ) (fault : PortFault) (a b c : Option FileContents) → IfBoth a b (HasRead name bytes) → IfBoth b c (Reads buffer (Err fault)) → IfBoth a c (HasRead name bytes)
still_read name bytes buffer fault a b c h g = both_then a b c h g (λ m k j p q. subst (HasRead name bytes m) (sym q) p)

pub not_read_on : (limit word : ℕ) (name bytes buffer : List ℕ) (before mid now : FilesState) (fault : PortFault) → length bytes ≤ limit → IsReading name bytes before mid →
    ReadFaults (Err fault) mid now → IfKnown mid now (Reads buffer (Err fault)) → Answers AreBytes (IsFile limit word name) ((name, limit) ∷ []) before now (Err (call_refusal word fault))
not_read_on limit word name bytes buffer before mid now Failed within r f h = record {
  later = omega (arith, r.faults, f.later);
  quiet = tt;
  reads = reads_within limit name bytes before.contents now.contents (omega (arith, within)) (still_read name bytes buffer Failed before.contents mid.contents now.contents r.read h);
  allowed = read_allowed limit word name before.contents (FilesCounted before now) (counted_since before mid now (omega (arith, r.faults)) (f.failed refl));
  job = tt;
}
not_read_on limit word name bytes buffer before mid now port.Memory within r f h = record {
  later = omega (arith, r.faults, f.later);
  quiet = tt;
  reads = reads_within limit name bytes before.contents now.contents (omega (arith, within)) (still_read name bytes buffer port.Memory before.contents mid.contents now.contents r.read h);
  allowed = memory_allowed limit word name before.contents (FilesCounted before now);
  job = tt;
}

-- ---- pieces

pub read_more : (name bytes buffer : List ℕ) (count : ℕ) (before mid now : FilesState) → count ≤ length buffer → IsReading name bytes before mid → ReadFaults (Ok count) mid now →
    IfKnown mid now (Reads buffer (Ok count)) → IsReading name (bytes ++ take count buffer) before now
read_more name bytes buffer count before mid now within r f h = record {
  faults = f.done ∙ r.faults;
  read = more_read before.contents mid.contents now.contents name bytes buffer (bytes ++ take count buffer) count within refl r.read h;
}

-- memory ran out on the way
pub not_kept : (limit word : ℕ) (name bytes : List ℕ) (before now : FilesState) → length bytes ≤ limit + 1 → IsReading name bytes before now →
    Answers AreBytes (IsFile limit word name) ((name, limit) ∷ []) before now (Err OutOfMemory)
not_kept limit word name bytes before now within r = record {
  later = omega (arith, r.faults);
  quiet = tt;
  reads = reads_within limit name bytes before.contents now.contents within r.read;
  allowed = memory_allowed limit word name before.contents (FilesCounted before now);
  job = tt;
}

-- ---- the end

large_allowed : (limit word : ℕ) (name bytes : List ℕ) (a b : Option FileContents) (counted : Causes) → limit < length bytes → IfBoth a b (HasRead name bytes) →
    IsAllowed (IsFile limit word name) a counted (Err (Found (TooLarge word)))
large_allowed limit word name bytes None b counted past h = tt
large_allowed limit word name bytes (Some m) None counted past h = absurd h
large_allowed limit word name bytes (Some m) (Some k) counted past h =
    sym (ap (file_answer limit word) h.bytes ∙ if_less limit (length (bytes ++ k.to_come)) _ _ (omega (arith, past, length-append bytes k.to_come)))

pub too_large : (limit word : ℕ) (name bytes : List ℕ) (before now : FilesState) → length bytes ≡ limit + 1 → IsReading name bytes before now →
    Answers AreBytes (IsFile limit word name) ((name, limit) ∷ []) before now (Err (Found (TooLarge word)))
too_large limit word name bytes before now past r = record {
  later = omega (arith, r.faults);
  quiet = r.faults;
  reads = reads_within limit name bytes before.contents now.contents (omega (arith, past)) r.read;
  allowed = large_allowed limit word name bytes before.contents now.contents (FilesCounted before now) (omega (arith, past)) r.read;
  job = tt;
}

whole_allowed : (limit word : ℕ) (name bytes : List ℕ) (a b : Option FileContents) (counted : Causes) → length bytes ≤ limit → IfBoth a b (λ m k. m.held name ≡ Some bytes) →
    IsAllowed (IsFile limit word name) a counted (Ok bytes)
whole_allowed limit word name bytes None b counted within h = tt
whole_allowed limit word name bytes (Some m) None counted within h = absurd h
whole_allowed limit word name bytes (Some m) (Some k) counted within h = sym (ap (file_answer limit word) h ∙ if_not_less limit (length bytes) _ _ within)

-- nothing more came, so these are the file's bytes
pub all_read : (limit word : ℕ) (name bytes buffer : List ℕ) (count : ℕ) (before mid now : FilesState) → count ≡ 0 → 0 < length buffer → length bytes ≤ limit → IsReading name bytes before mid →
    ReadFaults (Ok count) mid now → IfKnown mid now (Reads buffer (Ok count)) → Answers AreBytes (IsFile limit word name) ((name, limit) ∷ []) before now (Ok bytes)
all_read limit word name bytes buffer count before mid now none some within r f h = record {
  later = omega (arith, r.faults, f.later);
  quiet = f.done ∙ r.faults;
  reads = reads_within limit name (bytes ++ take count buffer) before.contents now.contents (omega (arith, none, within, length-append bytes (take count buffer), length-take count buffer))
      (more_read before.contents mid.contents now.contents name bytes buffer (bytes ++ take count buffer) count (omega (arith, none)) refl r.read h);
  allowed = (
    bytes,
    refl,
    whole_allowed limit word name bytes before.contents now.contents (FilesCounted before now) within
        (both_then before.contents mid.contents now.contents r.read h (λ m k j p q.
        let nothing : k.to_come ≡ [] = q.to_come ∙ ap (λ n. take n buffer ++ j.to_come) none ∙ q.end none some in
        p.bytes ∙ ap (λ t. Some (bytes ++ t)) nothing ∙ ap Some (append-nil bytes))),
  );
  job = tt;
}
