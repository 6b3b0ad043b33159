-- Truth values.
use Rattle.std.proofs.Common.{◌≡◌, Bool, true, false, ◌&&◌, refl, sym}
use Rattle.std.specs.Bool.{beq}

-- two tests that each tell the other are one
pub same_truth : (a b : Bool) → (a ≡ true → b ≡ true) → (b ≡ true → a ≡ true) → a ≡ b
same_truth true b there back = sym (there refl)
same_truth false true there back = back refl
same_truth false false there back = refl

-- of three tests of which two hold the third decides
pub both_true : (a b c : Bool) → a ≡ true → b ≡ true → (a && b && c) ≡ c
both_true a b c p q = rw (p, q) refl

pub and-joined : (x y z : Bool) → (x && (y && z)) ≡ ((x && y) && z)
and-joined true y z = refl
and-joined false y z = refl

pub beq-same : (a b : Bool) → beq a b ≡ true → a ≡ b
beq-same true true h = refl
beq-same false false h = refl
beq-same true false h = sym h
beq-same false true h = h
