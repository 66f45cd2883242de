-- What is known before and after, call by call.
use Rattle.std.proofs.Common.{◌≤◌, Option, None, Some, arith}
use Rattle.sync_port.specs.States.{PortState, IfBoth, FaultCounted}

pub both_more : {A : Type 0} {P Q : A → A → Type 0} (a b : Option A) → IfBoth a b P → ((m k : A) → P m k → Q m k) → IfBoth a b Q
both_more None b p f = grind arith
both_more (Some m) None p f = absurd p
both_more (Some m) (Some k) p f = f m k p

pub both_then : {A : Type 0} {P Q R : A → A → Type 0} (a b c : Option A) → IfBoth a b P → IfBoth b c Q → ((m k j : A) → P m k → Q k j → R m j) → IfBoth a c R
both_then None b c p q f = grind arith
both_then (Some m) None c p q f = absurd p
both_then (Some m) (Some k) None p q f = absurd q
both_then (Some m) (Some k) (Some j) p q f = f m k j p q

pub both_alone : {A : Type 0} (P : A → A → Type 0) (a : Option A) → ((m : A) → P m m) → IfBoth a a P
both_alone P None f = tt
both_alone P (Some m) f = f m

-- a fault that was counted by a later call was counted since an earlier one
pub counted_since : {A : Type 0} (a b c : PortState A) → a.faults ≤ b.faults → FaultCounted b c → FaultCounted a c
counted_since a b c h f = omega arith
